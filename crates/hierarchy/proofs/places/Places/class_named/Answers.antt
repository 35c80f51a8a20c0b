use Rattle.std.proofs.Common.{ap, ◌∙◌}
use Rattle.std.specs.Prelude.{slice_get, option_and_then}
use Rattle.hierarchy.proofs.Upward.{stands}
use Rattle.hierarchy.proofs.places.Places.class_named.Goals as goal

pub returns : goal.returns
returns c = c.class_at.ensures ∙ ap (option_and_then (slice_get c.args.self.now)) c.place_of.ensures ∙ stands c.args.self.now c.args.name.now
