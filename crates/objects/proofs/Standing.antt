-- What words that stand for a state have: the words of values, and headers.
use Rattle.std.proofs.Common.{◌≡◌, ℕ, ◌+◌, ◌*◌, ◌^◌, ◌<◌, List, Some, true, refl, ap, ◌∙◌, arith}
use Rattle.std.specs.Prelude.{nat_lt}
use Rattle.std.proofs.lemmas.Bool.Decides.{nat_tests}
use Rattle.std.proofs.lemmas.Option.{slice_get_within}
use Rattle.std.proofs.lemmas.Nat.{div-mul-add, mod-mul-add}
use Rattle.jmodel.specs.declared.value.Value.{Value}
use Rattle.jmodel.specs.declared.value.Value.TheVariants as value
use Rattle.jmodel.specs.history.History.{Words}
use Rattle.objects.specs.declared.op.Place.{Place}
use Rattle.objects.specs.declared.op.WordType.{WordType}
use Rattle.objects.specs.declared.op.WordType.TheVariants as word
use Rattle.objects.specs.semantics.Value.{word_of, value_of}
use Rattle.objects.specs.semantics.Program.{Program}
use Rattle.objects.specs.semantics.State.{Object, State, value_held, length_of, header, type_in, length_in}
use Rattle.objects.specs.rewriting.Attempt.{address}
use Rattle.objects.specs.history.Meaning.{IsValueOf, Represents}
use Rattle.objects.proofs.WordTypes.{word_back, long_back}
use Rattle.objects.proofs.Heap.{held_at}
use Rattle.objects.proofs.Memory.{word_at}
use Rattle.objects.proofs.Typed.{length_fits}

-- a value comes back from its word
pub value_back : (P : Program) (τ : State) (c : List ℕ) (t : WordType) (v : Value) → IsValueOf P τ c t v → value_of t (word_of v) ≡ v
value_back P τ c word.Reference (value.Ref o) h = refl
value_back P τ c word.Reference v h = absurd h
value_back P τ c word.Long (value.Long x) h = ap value.Long (long_back x h)
value_back P τ c word.Long v h = absurd h
value_back P τ c word.Boolean (value.Int x) h = ap value.Int (word_back word.Boolean x tt h)
value_back P τ c word.Byte (value.Int x) h = ap value.Int (word_back word.Byte x tt h)
value_back P τ c word.Char (value.Int x) h = ap value.Int (word_back word.Char x tt h)
value_back P τ c word.Short (value.Int x) h = ap value.Int (word_back word.Short x tt h)
value_back P τ c word.Int (value.Int x) h = ap value.Int (word_back word.Int x tt h)
value_back P τ c t v h = absurd h

pub type_back : (t n : ℕ) → n < 2147483648 → type_in (t * 2 ^ 32 + n) ≡ t
type_back t n h = let lt : n < 2 ^ 32 = omega arith in div-mul-add t (2 ^ 32) n lt

pub length_back : (t n : ℕ) → n < 2147483648 → length_in (t * 2 ^ 32 + n) ≡ n
length_back t n h = let lt : n < 2 ^ 32 = omega arith in mod-mul-add t (2 ^ 32) n lt

module _ (P : Program) (size : ℕ) (ws : Words) (τ : State) (R : Represents P size ws τ) where
  pub word_held : (p : Place) (v : Value) → value_held τ p ≡ Some v → ws (p.object + p.index) ≡ word_of v
  word_held p v h = word_at P size ws τ p v R h

  -- what a word stands for at a place of a type
  pub value_read : (p : Place) (v : Value) → value_held τ p ≡ Some v → (c : List ℕ) (t : WordType) → IsValueOf P τ c t v → value_of t (ws (p.object + p.index)) ≡ v
  value_read p v h c t fits = ap (value_of t) (word_held p v h) ∙ value_back P τ c t v fits

  pub header_held : (r : ℕ) (b : Object) → τ.objects r ≡ Some b → ws r ≡ header b
  header_held r b there = (R.laid r b there).header_lies

  -- the header of an object says its type and its length
  pub header_back : (r : ℕ) (b : Object) → τ.objects r ≡ Some b → (type_in (ws r) ≡ b.type) × (length_in (ws r) ≡ length_of b)
  header_back r b there =
      let lies = header_held r b there in
      let t = R.heap.typed r b there in
      let few : length_of b < 2147483648 = (length_fits P size τ R.heap r b t.row there t.is).sfits in
      (ap type_in lies ∙ type_back b.type (length_of b) few, ap length_in lies ∙ length_back b.type (length_of b) few)

  -- no object lies at null, nor at the conflict's reference
  pub object_past : (r : ℕ) (b : Object) → τ.objects r ≡ Some b → 1 < r
  object_past r b there = (R.heap.regions r b there).there

  -- a place of an object has an address of 64 bits
  pub place_near : (p : Place) (v : Value) → value_held τ p ≡ Some v → nat_lt (address p) (2 ^ 64) ≡ true
  place_near p v held =
      let h = held_at τ p v held in
      let a = (R.heap.regions p.object h.o h.object).address in
      let lt = slice_get_within h.o.values h.i v h.there in
      let i = h.index in
      let at : p.object + p.index < 2 ^ 64 = omega (arith, a, lt, i) in
      grind (arith, nat_tests)

  pub object_near : (r : ℕ) (b : Object) → τ.objects r ≡ Some b → nat_lt r (2 ^ 64) ≡ true
  object_near r b there =
      let a = (R.heap.regions r b there).address in
      let at : r < 2 ^ 64 = omega (arith, a) in
      grind (arith, nat_tests)
