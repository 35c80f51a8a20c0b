-- What a rearrangement of the stack does, by the places that it takes and puts.
use Rattle.std.proofs.Common.{◌≡◌, ℕ, zero, suc, ◌+◌, List, [], ◌∷◌, ◌++◌, map, drop, Option, Some, None, Bool, true, false, refl, sym, ap, ◌∙◌, arith}
use Rattle.std.proofs.lemmas.List.{drop-drop}
use Rattle.std.specs.Prelude.{◌&&◌, ◌||◌, slice_get}
use Rattle.jmodel.specs.declared.typing.VType.{VType}
use Rattle.jmodel.specs.declared.typing.VType.TheVariants.{Long, Second, Top}
use Rattle.objects.specs.declared.op.StackOp.{StackOp}
use Rattle.objects.specs.declared.op.StackOp.TheVariants.{Nop, Pop, Pop2, Dup, DupX1, DupX2, Dup2, Dup2X1, Dup2X2, Swap}
use Rattle.objects.specs.typing.Typing as typed
use Rattle.objects.specs.typing.Typing.{Types, Flow, Wrong, if_so, is_one, on_one, on_two}
use Rattle.verifier.specs.Flows.{type_at, has_one, has_long, has_two, is_arranged, arranged_places, arrangement}

-- two tests one after the other are both
pub both_is : (a b : Bool) (f : Flow) → if_so a (if_so b f) ≡ if_so (a && b) f
both_is true b f = refl
both_is false b f = refl

-- what a stack has from a place on
pub one_at : (s : List VType) (n : ℕ) (t : VType) → Some t ≡ slice_get s n → is_one t ≡ has_one (drop n s)
one_at [] n t e = cc
one_at (u ∷ s) zero t e = cc
one_at (u ∷ s) (suc n) t e = one_at s n t e

pub none_at : (s : List VType) (n : ℕ) → None ≡ slice_get s n → has_one (drop n s) ≡ false
none_at [] zero e = refl
none_at [] (suc n) e = refl
none_at (u ∷ s) zero e = cc
none_at (u ∷ s) (suc n) e = none_at s n e

pub two_at : (s : List VType) (n : ℕ) → has_two (drop n s) ≡ (has_long (drop n s) || (has_one (drop n s) && has_one (drop (n + 1) s)))
two_at s n = ap (λ (r : List VType). has_long (drop n s) || (has_one (drop n s) && has_one r)) (drop-drop 1 n s)

abbrev pub is_long_in : Option VType → Option VType → Bool
is_long_in (Some Second) (Some Long) = true
is_long_in t u = false

pub long_at : (s : List VType) (n : ℕ) → has_long (drop n s) ≡ is_long_in (slice_get s n) (slice_get s (n + 1))
long_at [] zero = refl
long_at [] (suc n) = refl
long_at (Second ∷ []) zero = refl
long_at (Second ∷ Long ∷ s) zero = refl
long_at (Second ∷ t ∷ s) zero = refl
long_at (t ∷ s) zero = refl
long_at (t ∷ s) (suc n) = let e : suc n + 1 ≡ suc (n + 1) = omega arith in long_at s n ∙ rw e refl

-- a value of one place is taken
one_is : (s : List VType) (k : VType → List VType → Flow) → on_one s k ≡ if_so (has_one s) (k (type_at s 0) (drop 1 s))
one_is [] k = refl
one_is (t ∷ s) k = refl

-- two places are taken
two_is : (s : List VType) (k : VType → VType → List VType → Flow) → on_two s k ≡ if_so (has_two s) (k (type_at s 0) (type_at s 1) (drop 2 s))
two_is [] k = refl
two_is (Second ∷ Long ∷ s) k = refl
two_is (Second ∷ []) k = refl
two_is (t ∷ []) k = refl
two_is (t ∷ u ∷ s) k = refl

module _ (pc : ℕ) (h : Types) where
  abbrev arranged : StackOp → List VType → Flow
  arranged r s = if_so (is_arranged r s) (typed.leaves pc h (map (type_at s) (arrangement r) ++ drop (arranged_places r) s))

  one_one : (s : List VType) (k : VType → VType → List VType → Flow) → on_one s (λ t s. on_one s (λ u s. k t u s)) ≡ if_so (has_one s && has_one (drop 1 s)) (k (type_at s 0) (type_at s 1) (drop 2 s))
  one_one [] k = refl
  one_one (t ∷ []) k = both_is (is_one t) false (k t Top [])
  one_one (t ∷ u ∷ s) k = both_is (is_one t) (is_one u) (k t u s)

  -- one place over two
  one_two : (s : List VType) (k : VType → VType → VType → List VType → Flow) → on_one s (λ t s. on_two s (λ u v s. k t u v s)) ≡ if_so (has_one s && has_two (drop 1 s)) (k (type_at s 0) (type_at s 1) (type_at s 2) (drop 3 s))
  one_two [] k = refl
  one_two (t ∷ s) k = ap (if_so (is_one t)) (two_is s (k t)) ∙ both_is (is_one t) (has_two s) (k t (type_at s 0) (type_at s 1) (drop 2 s))

  -- two places over one
  two_one : (s : List VType) (k : VType → VType → VType → List VType → Flow) → on_two s (λ t u s. on_one s (λ v s. k t u v s)) ≡ if_so (has_two s && has_one (drop 2 s)) (k (type_at s 0) (type_at s 1) (type_at s 2) (drop 3 s))
  two_one s k = two_is s (λ t u s. on_one s (λ v s. k t u v s)) ∙ go s
    where
      go : (s : List VType) → if_so (has_two s) (on_one (drop 2 s) (λ v r. k (type_at s 0) (type_at s 1) v r)) ≡ if_so (has_two s && has_one (drop 2 s)) (k (type_at s 0) (type_at s 1) (type_at s 2) (drop 3 s))
      go [] = refl
      go (t ∷ []) = both_is (has_two (t ∷ [])) false (k t Top Top [])
      go (t ∷ u ∷ []) = both_is (has_two (t ∷ u ∷ [])) false (k t u Top [])
      go (t ∷ u ∷ v ∷ s) = both_is (has_two (t ∷ u ∷ v ∷ s)) (is_one v) (k t u v s)

  -- two places over two
  two_two : (s : List VType) (k : VType → VType → VType → VType → List VType → Flow) → on_two s (λ t u s. on_two s (λ v w s. k t u v w s)) ≡ if_so (has_two s && has_two (drop 2 s)) (k (type_at s 0) (type_at s 1) (type_at s 2) (type_at s 3) (drop 4 s))
  two_two s k = two_is s (λ t u s. on_two s (λ v w s. k t u v w s)) ∙ go s
    where
      go : (s : List VType) → if_so (has_two s) (on_two (drop 2 s) (λ v w r. k (type_at s 0) (type_at s 1) v w r)) ≡ if_so (has_two s && has_two (drop 2 s)) (k (type_at s 0) (type_at s 1) (type_at s 2) (type_at s 3) (drop 4 s))
      go [] = refl
      go (t ∷ []) = both_is (has_two (t ∷ [])) false (k t Top Top Top [])
      go (t ∷ u ∷ s) = ap (if_so (has_two (t ∷ u ∷ s))) (two_is s (k t u)) ∙ both_is (has_two (t ∷ u ∷ s)) (has_two s) (k t u (type_at s 0) (type_at s 1) (drop 2 s))

  -- a rearrangement puts places of the stack in place of those that it takes
  arranged_is : (r : StackOp) → typed.rearranged r pc h ≡ arranged r h.stack
  arranged_is Nop = refl
  arranged_is Pop = one_is h.stack (λ t s. typed.leaves pc h s)
  arranged_is Pop2 = two_is h.stack (λ t u s. typed.leaves pc h s)
  arranged_is Dup = one_is h.stack (λ t s. typed.leaves pc h (t ∷ t ∷ s))
  arranged_is DupX1 = one_one h.stack (λ t u s. typed.leaves pc h (t ∷ u ∷ t ∷ s))
  arranged_is DupX2 = one_two h.stack (λ t u v s. typed.leaves pc h (t ∷ u ∷ v ∷ t ∷ s))
  arranged_is Dup2 = two_is h.stack (λ t u s. typed.leaves pc h (t ∷ u ∷ t ∷ u ∷ s))
  arranged_is Dup2X1 = two_one h.stack (λ t u v s. typed.leaves pc h (t ∷ u ∷ v ∷ t ∷ u ∷ s))
  arranged_is Dup2X2 = two_two h.stack (λ t u v w s. typed.leaves pc h (t ∷ u ∷ v ∷ w ∷ t ∷ u ∷ s))
  arranged_is Swap = one_one h.stack (λ t u s. typed.leaves pc h (u ∷ t ∷ s))

  -- for the code: by what its calls answered
  pub not_arranged : (r : StackOp) (s : List VType) → s ≡ h.stack → is_arranged r s ≡ false → Wrong ≡ typed.rearranged r pc h
  not_arranged r s e b =
      sym (arranged_is r ∙ ap (λ (b : Bool). if_so b (typed.leaves pc h (map (type_at h.stack) (arrangement r) ++ drop (arranged_places r) h.stack))) (ap (is_arranged r) (sym e) ∙ b))

  pub rearranged_by : (r : StackOp) (s t v : List VType) (p : List ℕ) (n : ℕ) → s ≡ h.stack → is_arranged r s ≡ true → t ≡ h.stack → v ≡ map (type_at t) p → p ≡ arrangement r → n ≡ arranged_places r
      → typed.leaves pc h (v ++ drop n h.stack) ≡ typed.rearranged r pc h
  rearranged_by r s t v p n e b f g i j =
      let x : v ≡ map (type_at h.stack) (arrangement r) = g ∙ ap (λ (t : List VType). map (type_at t) p) f ∙ ap (map (type_at h.stack)) i in
      ap (λ (v : List VType). typed.leaves pc h (v ++ drop n h.stack)) x
      ∙ ap (λ (n : ℕ). typed.leaves pc h (map (type_at h.stack) (arrangement r) ++ drop n h.stack)) j
      ∙ sym (arranged_is r ∙ ap (λ (b : Bool). if_so b (typed.leaves pc h (map (type_at h.stack) (arrangement r) ++ drop (arranged_places r) h.stack))) (ap (is_arranged r) (sym e) ∙ b))
