-- The heap behind the clock and the stripes.
use Rattle.std.proofs.Common.{◌≡◌, ℕ, zero, suc, ◌+◌, ◌<◌, List, [], ◌∷◌, ◌++◌, length, get_or, set, sym, ap, ◌∙◌, subst, arith, get_or-set_other, get_or-set_same, length-append}
use Rattle.std.specs.Prelude.{replicate}
use mathlib.Core.Option.{some, some-injective, some-ne-none}
use mathlib.Core.Logic.{dite}
use native.Mathlib.Decide.{ℕ_discrete}
use lib.ListN.{get_elem?}
use Rattle.std.proofs.lemmas.List.{get_or-append-add, get_or_append_left, get_or-replicate, length-replicate}
use Rattle.atomic_table.specs.Table.{opening}
use Rattle.tx_table.specs.Rule.{Story}
use Rattle.tx_table.specs.Plays.{first_book}
use Rattle.tx_table.specs.Steps.{IsKept}
use Rattle.tx_table.proofs.Opened.{opens}

at_elem : (ys : List ℕ) (k w : ℕ) → get_elem? ys k ≡ some w → get_or ys k 0 ≡ w
at_elem [] k w e = absurd (some-ne-none w (sym e))
at_elem (y ∷ ys) zero w e = some-injective y w e
at_elem (y ∷ ys) (suc k) w e = at_elem ys k w e

-- one more word is copied
pub copied : (xs ys : List ℕ) (a w : ℕ) → a < length xs → ((i : ℕ) → i < a → get_or xs i 0 ≡ get_or ys (i + 4097) 0) → get_elem? ys (a + 4097) ≡ some w → (i : ℕ) → i < a + 1 → get_or (set xs a w) i 0 ≡ get_or ys (i + 4097) 0
copied xs ys a w l h e i m = dite (ℕ_discrete i a)
    (λ k. ap (λ (j : ℕ). get_or (set xs a w) j 0) k ∙ (get_or-set_same xs a w 0 l ∙ (sym (at_elem ys (a + 4097) w e) ∙ ap (λ (j : ℕ). get_or ys (j + 4097) 0) (sym k))))
    (λ n. get_or-set_other xs a i w 0 n ∙ h i (omega arith))

zeros_long : length (replicate {A = ℕ} 4097 0) ≡ 4097
zeros_long = length-replicate {A = ℕ} 4097 0

-- zeros, then the heap
pub opens_at : (S : Type 0) (key : Story) (words : List ℕ) → words ≡ replicate 4097 0 ++ key.words → IsKept {S = S} key (opening words [] (first_book key))
opens_at S key words e = subst (λ (ws : List ℕ). IsKept {S = S} key (opening ws [] (first_book key))) (sym e) (opens S key (replicate 4097 0 ++ key.words)
    (length-append (replicate 4097 0) key.words ∙ omega (arith, zeros_long))
    (λ i l. get_or_append_left (replicate 4097 0) key.words 0 i (omega (arith, l, zeros_long)) ∙ get_or-replicate 4097 i 0 0 l)
    (λ a. let far : a + 4097 ≡ length (replicate {A = ℕ} 4097 0) + a = omega (arith, zeros_long) in ap (λ (k : ℕ). get_or (replicate 4097 0 ++ key.words) k 0) far ∙ get_or-append-add (replicate 4097 0) key.words a 0))
