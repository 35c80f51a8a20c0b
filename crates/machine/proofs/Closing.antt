-- Where instructions are led to: behind each one in closed code that goes on is another.
use Rattle.std.proofs.Common.{ℕ, ◌+◌, ◌<◌, ◌⊎◌, inl, inr, Result, Ok, Err, IfOk}
use Rattle.objects.specs.declared.op.Op.{Op}
use Rattle.machine.specs.declared.failure.Failure.{Failure}
use Rattle.machine.specs.declared.plain.Flow.{Flow}
use Rattle.machine.specs.declared.plain.Flow.TheVariants as flow
use Rattle.machine.specs.declared.plain.Outcome.{Outcome}
use Rattle.machine.specs.declared.plain.Outcome.TheVariants as outcome
use Rattle.machine.specs.declared.plain.Over.{Over}
use Rattle.machine.specs.declared.plain.Over.TheVariants as over
use Rattle.machine.specs.declared.plain.OverTwo.{OverTwo}
use Rattle.machine.specs.declared.plain.OverTwo.TheVariants as over_two
use Rattle.machine.specs.Meets.{NeverGoesOn, StopsFlow, Stops, StopsOver, StopsOverTwo, HasNext, HasNextOn, HasNextOver, HasNextOverTwo}

module _ (n pc : ℕ) where
  flow_next : (w : Flow) → (pc + 1 < n) ⊎ StopsFlow w → HasNext n pc w
  flow_next flow.Next (inl h) = h
  flow_next flow.Next (inr h) = absurd h
  flow_next (flow.Jump to) h = tt
  flow_next (flow.Trap t) h = tt
  flow_next flow.Other h = tt

  outcome_next : (o : Outcome) → (pc + 1 < n) ⊎ Stops o → HasNextOn n pc o
  outcome_next (outcome.Int x) (inl h) = h
  outcome_next (outcome.Int x) (inr h) = absurd h
  outcome_next (outcome.Flow w) h = flow_next w h

  over_next : (o : Over) → (pc + 1 < n) ⊎ StopsOver o → HasNextOver n pc o
  over_next (over.Int x) (inl h) = h
  over_next (over.Int x) (inr h) = absurd h
  over_next (over.Pair x) (inl h) = h
  over_next (over.Pair x) (inr h) = absurd h
  over_next (over.Flow w) h = flow_next w h

  over_two_next : (o : OverTwo) → (pc + 1 < n) ⊎ StopsOverTwo o → HasNextOverTwo n pc o
  over_two_next (over_two.Int x) (inl h) = h
  over_two_next (over_two.Int x) (inr h) = absurd h
  over_two_next (over_two.Third x) (inl h) = h
  over_two_next (over_two.Third x) (inr h) = absurd h
  over_two_next (over_two.Flow w) h = flow_next w h
  over_two_next over_two.Under h = tt

  module _ (o : Op) where
    pub goes_on : (r : Result Outcome Failure) → (pc + 1 < n) ⊎ NeverGoesOn o → (NeverGoesOn o → IfOk r Stops) → IfOk r (HasNextOn n pc)
    goes_on (Ok x) (inl h) k = outcome_next x (inl h)
    goes_on (Ok x) (inr h) k = outcome_next x (inr (k h))
    goes_on (Err e) h k = tt

    pub goes_over : (r : Result Over Failure) → (pc + 1 < n) ⊎ NeverGoesOn o → (NeverGoesOn o → IfOk r StopsOver) → IfOk r (HasNextOver n pc)
    goes_over (Ok x) (inl h) k = over_next x (inl h)
    goes_over (Ok x) (inr h) k = over_next x (inr (k h))
    goes_over (Err e) h k = tt

    pub goes_over_two : (r : Result OverTwo Failure) → (pc + 1 < n) ⊎ NeverGoesOn o → (NeverGoesOn o → IfOk r StopsOverTwo) → IfOk r (HasNextOverTwo n pc)
    goes_over_two (Ok x) (inl h) k = over_two_next x (inl h)
    goes_over_two (Ok x) (inr h) k = over_two_next x (inr (k h))
    goes_over_two (Err e) h k = tt
