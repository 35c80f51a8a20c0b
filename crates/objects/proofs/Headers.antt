-- Headers of objects, as words.
use Rattle.std.proofs.Common.{◌≡◌, ℕ, ◌^◌, ◌<◌, List, Bool, true, false, arith}
use Rattle.std.proofs.lemmas.Nat.{div-mul-add, mod-mul-add}
use Rattle.jmodel.specs.declared.value.Value.{Value}
use Rattle.objects.specs.semantics.Program.{Holds, Words, Elements, Program}
use Rattle.objects.specs.semantics.State.{Object, State, header, length_of, type_in, length_in}
use Rattle.objects.specs.history.Meaning.{IsTyped, IsHolding}

length_below : (P : Program) (τ : State) (h : Holds) (array : Bool) (vs : List Value) (t : ℕ) → IsHolding P τ h array vs → length_of (record { type = t; array = array; values = vs }) < 2 ^ 32
length_below P τ (Words ds) false vs t h = omega arith
length_below P τ (Words ds) true vs t h = absurd h
length_below P τ (Elements d n) true vs t h = let lt = h.0 in omega (arith, lt)
length_below P τ (Elements d n) false vs t h = absurd h

module _ (P : Program) (τ : State) (o : Object) (typed : IsTyped P τ o) where
  below : length_of o < 2 ^ 32
  below = length_below P τ typed.row.holds o.array o.values o.type typed.holds

  pub header_type : type_in (header o) ≡ o.type
  header_type = div-mul-add o.type (2 ^ 32) (length_of o) below

  pub header_length : length_in (header o) ≡ length_of o
  header_length = mod-mul-add o.type (2 ^ 32) (length_of o) below
