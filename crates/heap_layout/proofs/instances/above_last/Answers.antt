use Rattle.std.proofs.Common.{sym, ap, ◌∙◌}
use Rattle.std.specs.Prelude.{option_copied}
use Rattle.heap_layout.proofs.Above.{last_seen}
use Rattle.heap_layout.proofs.instances.above_last.Goals as goal

pub returns-in-Some : goal.returns-in-Some
returns-in-Some c = c.super_name.ensures ∙ sym (last_seen c.args.name.now c.args.classes.now c.in-Some.class.now (sym c.last.ensures.value ∙ ap option_copied c.in-Some.is))
