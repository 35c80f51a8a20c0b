-- Parts of what instructions do, as tests and what follows them.
use Rattle.std.proofs.Common.{◌≡◌, ℕ, ◌+◌, zero, suc, List, [], ◌∷◌, ◌++◌, length, drop, Option, Some, None, Bool, true, false, refl, sym, ap, ◌∙◌, arith}
use Rattle.std.specs.Prelude.{◌&&◌, nat_lt, slice_get, if◌then◌else◌}
use Rattle.jmodel.specs.declared.typing.VType.{VType}
use Rattle.jmodel.specs.declared.typing.VType.TheVariants.{Int, Long, Second, Null, Ref}
use Rattle.objects.specs.declared.op.Sort.TheVariants as sort
use Rattle.objects.specs.declared.op.WordType.{WordType}
use Rattle.objects.specs.semantics.Program.{Program}
use Rattle.objects.specs.typing.TypeOrder.{is_array}
use Rattle.objects.specs.typing.Typing as typed
use Rattle.objects.specs.typing.Typing.{Types, Flow, Wrong, int_in, long_at, local_in, if_so, on_int, on_long, on_top, on_array, on_each, fits_elements, has_elements, is_reference, stored_types}
use Rattle.verifier.specs.Flows.{is_int, is_long, has_long, has_array, array_under, in_array, type_at}
use Rattle.verifier.specs.Rules.{are_taken}
use Rattle.verifier.proofs.Ruled.{each_is}

-- a local that has an int
pub int_in_is : (o : Option VType) (k : Flow) → int_in o k ≡ if_so (is_int o) k
int_in_is None k = refl
int_in_is (Some Int) k = refl
int_in_is (Some t) k = refl

-- two locals that have a long
pub long_at_is : (o q : Option VType) (k : Flow) → long_at o q k ≡ if_so (is_long o q) k
long_at_is (Some Long) (Some Second) k = refl
long_at_is None q k = refl
long_at_is (Some Long) None k = refl
long_at_is (Some Long) (Some u) k = refl
long_at_is (Some t) q k = refl

-- an int on top
int_on : (s : List VType) (k : List VType → Flow) → on_int s k ≡ if_so (is_int (slice_get s 0)) (k (drop 1 s))
int_on [] k = refl
int_on (Int ∷ s) k = refl
int_on (t ∷ s) k = refl

-- a value on top
top_on : (s : List VType) (k : VType → List VType → Flow) → on_top s k ≡ local_in (slice_get s 0) (λ t. k t (drop 1 s))
top_on [] k = refl
top_on (t ∷ s) k = refl

-- a value under others
pub top_at : (n : ℕ) (s : List VType) (k : VType → List VType → Flow) → on_top (drop n s) k ≡ local_in (slice_get s n) (λ t. k t (drop (suc n) s))
top_at zero s k = top_on s k
top_at (suc n) [] k = refl
top_at (suc n) (t ∷ s) k = top_at n s k

-- a long on top
long_on : (P : Program) (s : List VType) (k : List VType → Flow) → on_long P s k ≡ if_so (has_long s) (k (drop 2 s))
long_on P [] k = refl
long_on P (Second ∷ Long ∷ s) k = refl
long_on P (Second ∷ []) k = refl
long_on P (t ∷ []) k = refl
long_on P (t ∷ u ∷ s) k = refl

module _ (P : Program) (i pc : ℕ) (h : Types) where
  -- a store of an int
  pub store_int_is : typed.stores P sort.Int i pc h ≡ if_so (is_int (slice_get h.stack 0)) (typed.set_local (nat_lt i (length h.locals)) i Int pc h (drop 1 h.stack))
  store_int_is = int_on h.stack (λ s. typed.set_local (nat_lt i (length h.locals)) i Int pc h s)

  -- a store of a reference
  pub store_reference_is : typed.stores P sort.Reference i pc h ≡ local_in (slice_get h.stack 0) (λ t. if_so (is_reference t) (typed.set_local (nat_lt i (length h.locals)) i t pc h (drop 1 h.stack)))
  store_reference_is = top_on h.stack (λ t s. if_so (is_reference t) (typed.set_local (nat_lt i (length h.locals)) i t pc h s))

  -- a store of a long
  pub store_long_is : typed.stores P sort.Long i pc h ≡ if_so (has_long h.stack) (typed.set_long (nat_lt (i + 1) (length h.locals)) i pc h (drop 2 h.stack))
  store_long_is = long_on P h.stack (λ s. typed.set_long (nat_lt (i + 1) (length h.locals)) i pc h s)

-- an array on top
array_on : (s : List VType) (k : VType → List VType → Flow) → on_array s k ≡ if_so (has_array s) (k (type_at s 0) (drop 1 s))
array_on [] k = refl
array_on (Null ∷ s) k = refl
array_on (Ref n ∷ s) k = refl
array_on (t ∷ s) k = refl

-- an array with such elements under an index
element_on : (t : WordType) (s : List VType) (k : VType → List VType → Flow) → on_int s (λ s. on_array s (λ u s. if_so (fits_elements t u) (k u s))) ≡ in_array (array_under t s) (λ u. k u (drop 2 s))
element_on t [] k = refl
element_on t (Int ∷ []) k = refl
element_on t (Int ∷ Null ∷ s) k = refl
element_on t (Int ∷ Ref n ∷ s) k = go (is_array n) (has_elements t n)
  where
    go : (a b : Bool) → if_so a (if_so b (k (Ref n) s)) ≡ in_array (if a && b then Some (Ref n) else None) (λ u. k u s)
    go true true = refl
    go true false = refl
    go false b = refl
element_on t (Int ∷ u ∷ s) k = refl
element_on t (v ∷ s) k = refl

drop_more : (n : ℕ) (s : List VType) → drop 2 (drop n s) ≡ drop (suc (suc n)) s
drop_more zero s = refl
drop_more (suc n) [] = refl
drop_more (suc n) (t ∷ s) = drop_more n s

drop_two : (n : ℕ) (s : List VType) → drop 2 (drop n s) ≡ drop (n + 2) s
drop_two n s = let e : suc (suc n) ≡ n + 2 = omega arith in drop_more n s ∙ ap (λ (m : ℕ). drop m s) e

module _ (pc : ℕ) (h : Types) where
  -- an array's length
  pub array_length_is : on_array h.stack (λ t s. typed.leaves pc h (Int ∷ s)) ≡ if_so (has_array h.stack) (typed.leaves pc h (Int ∷ drop 1 h.stack))
  array_length_is = array_on h.stack (λ t s. typed.leaves pc h (Int ∷ s))

  -- a load of an element
  pub load_element_is : (t : WordType) → on_int h.stack (λ s. on_array s (λ u s. if_so (fits_elements t u) (typed.leaves pc h (typed.element_types t u ++ s)))) ≡ in_array (array_under t h.stack) (λ u. typed.leaves pc h (typed.element_types t u ++ drop 2 h.stack))
  load_element_is t = element_on t h.stack (λ u s. typed.leaves pc h (typed.element_types t u ++ s))

  -- a store of an element
  store_element_is : (P : Program) (t : WordType) →
      on_each P (stored_types t) h.stack (λ s. on_int s (λ s. on_array s (λ u s. if_so (fits_elements t u) (typed.leaves pc h s))))
      ≡ (if are_taken P (stored_types t) h.stack then in_array (array_under t (drop (length (stored_types t)) h.stack)) (λ u. typed.leaves pc h (drop (length (stored_types t) + 2) h.stack)) else Wrong)
  store_element_is P t =
      each_is P (stored_types t) h.stack (λ s. on_int s (λ s. on_array s (λ u s. if_so (fits_elements t u) (typed.leaves pc h s))))
      ∙ ap (λ (f : Flow). if are_taken P (stored_types t) h.stack then f else Wrong)
      (element_on t (drop (length (stored_types t)) h.stack) (λ u s. typed.leaves pc h s)
      ∙ ap (λ (s : List VType). in_array (array_under t (drop (length (stored_types t)) h.stack)) (λ u. typed.leaves pc h s)) (drop_two (length (stored_types t)) h.stack))

  abbrev stored : Program → WordType → Flow
  stored P t = on_each P (stored_types t) h.stack (λ s. on_int s (λ s. on_array s (λ u s. if_so (fits_elements t u) (typed.leaves pc h s))))

  abbrev stored_as : Program → WordType → Bool → Option VType → Flow
  stored_as P t b o = if b then in_array o (λ u. typed.leaves pc h (drop (length (stored_types t) + 2) h.stack)) else Wrong

  stored_by : (P : Program) (t : WordType) (b : Bool) (o : Option VType) → are_taken P (stored_types t) h.stack ≡ b → array_under t (drop (length (stored_types t)) h.stack) ≡ o → stored P t ≡ stored_as P t b o
  stored_by P t b o x y = store_element_is P t ∙ ap (λ (b : Bool). stored_as P t b (array_under t (drop (length (stored_types t)) h.stack))) x ∙ ap (λ (o : Option VType). stored_as P t b o) y

  -- a store of an element where its value is on top, over an array that takes it
  pub store_some : (P : Program) (t : WordType) (v : List VType) (u : VType) → v ≡ stored_types t → are_taken P v h.stack ≡ true → array_under t (drop (length v) h.stack) ≡ Some u → typed.leaves pc h (drop (length v + 2) h.stack) ≡ stored P t
  store_some P t v u e = rw e (λ x y. sym (stored_by P t true (Some u) x y))

  -- where there is none
  pub store_none : (P : Program) (t : WordType) (v : List VType) → v ≡ stored_types t → are_taken P v h.stack ≡ true → array_under t (drop (length v) h.stack) ≡ None → Wrong ≡ stored P t
  store_none P t v e = rw e (λ x y. sym (stored_by P t true None x y))

  -- where its value isn't
  pub store_not : (P : Program) (t : WordType) (v : List VType) → v ≡ stored_types t → are_taken P v h.stack ≡ false → Wrong ≡ stored P t
  store_not P t v e = rw e (λ x. sym (stored_by P t false (array_under t (drop (length (stored_types t)) h.stack)) x refl))
