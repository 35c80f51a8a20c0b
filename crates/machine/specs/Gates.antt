-- What gates keep of the events that they are told.
use Rattle.std.specs.Prelude.{ℕ, List, Option, Some, None, Bool, true, false}
use Rattle.objects.specs.declared.event.Event.{Event}

-- events that are kept, the oldest first, how many may be, and whether more came
pub record Logged : Type 0 where
  pub events : List Event
  pub room : ℕ
  pub lost : Bool

abbrev pub told_of : Bool → List Event → Option (List Event)
told_of true es = None
told_of false es = Some es
