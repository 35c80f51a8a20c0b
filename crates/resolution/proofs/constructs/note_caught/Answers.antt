use Rattle.std.proofs.Common.{map, sym, ap, ◌∙◌}
use Rattle.std.specs.Prelude.{option_map, option_copied}
use Rattle.jmodel.specs.declared.refusal.Refusal.TheVariants.{UnknownClass}
use Rattle.resolution.proofs.Caught.{none_caught, one_caught}
use Rattle.resolution.proofs.constructs.note_caught.Goals as goal

pub returns-in_default : goal.returns-in_default
returns-in_default c = λ handlers so_far.
    none_caught c.args.places.now c.args.pool.now handlers c.args.entry.now (map option_copied c.args.names.now.items) (sym c.unknown_caught.ensures ∙ ap (option_map (λ n. UnknownClass n.now)) c.in_default.is) so_far

pub returns : goal.returns
returns c = λ handlers so_far.
    one_caught c.args.places.now c.args.pool.now handlers c.args.entry.now c.args.names.now.items c.note.new.names.items c.in-Some.name (sym c.unknown_caught.ensures ∙ ap (option_map (λ n. UnknownClass n.now)) c.in-Some.is)
    c.in_ok-note.ensures so_far
