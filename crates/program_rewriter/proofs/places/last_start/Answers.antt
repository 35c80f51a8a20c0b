use Rattle.std.proofs.Common.{refl, sym, ap, ◌∙◌, option_copied}
use Rattle.program_rewriter.proofs.Lasts.{last_at}
use Rattle.program_rewriter.proofs.places.last_start.Goals as goal

pub returns-in-Some : goal.returns-in-Some
returns-in-Some c = last_at c.args.starts.now _ c.in-Some.start.now refl (sym c.last.ensures.value ∙ ap option_copied c.in-Some.is)
