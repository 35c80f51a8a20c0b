-- Numbers from 0, and those that are dealt to a lane, with one more.
use Rattle.std.proofs.Common.{◌≡◌, ℕ, zero, suc, ◌+◌, ◌%◌, ◌<◌, List, [], ◌∷◌, ◌++◌, map, get_or, refl, sym, ap, ◌∙◌, arith, add-one, add-zero, zero-add}
use Rattle.std.specs.Prelude.{filter, ◌==◌}
use Rattle.std.specs.List.{range_with_len}
use Rattle.std.proofs.lemmas.Bool.{eq-eqb, ne_eqb}
use Rattle.std.proofs.lemmas.List.{append-nil, map-append}
use Rattle.std.proofs.lemmas.List.Elements.{filter-append}
use Rattle.std.proofs.lemmas.List.FromFn.{get_or-map-range_with_len}
use Rattle.bankgen.specs.declared.transfers.Transfer.{Transfer}
use Rattle.bankgen.specs.Script.{numbers, dealt}

range_more : (a n : ℕ) → range_with_len a (suc n) ≡ range_with_len a n ++ (a + n) ∷ []
range_more a zero = rw add-zero refl
range_more a (suc n) =
    let e : a + 1 + n ≡ a + suc n = omega arith in
    ap (λ xs. a ∷ xs) (range_more (a + 1) n ∙ ap (λ m. range_with_len (a + 1) n ++ m ∷ []) e)

pub numbers_more : (n : ℕ) → numbers (n + 1) ≡ numbers n ++ n ∷ []
numbers_more n = ap (λ m. range_with_len 0 m) (add-one n) ∙ range_more 0 n ∙ ap (λ m. range_with_len 0 n ++ m ∷ []) (zero-add n)

dealt_more : (lanes lane k : ℕ) → dealt (k + 1) lanes lane ≡ dealt k lanes lane ++ filter (λ j. j % lanes == lane) (k ∷ [])
dealt_more lanes lane k = ap (filter (λ j. j % lanes == lane)) (numbers_more k) ∙ filter-append (λ j. j % lanes == lane) (numbers k) (k ∷ [])

dealt_taken : (lanes lane k : ℕ) → k % lanes ≡ lane → dealt (k + 1) lanes lane ≡ dealt k lanes lane ++ k ∷ []
dealt_taken lanes lane k h = dealt_more lanes lane k ∙ rw (eq-eqb (k % lanes) lane h) refl

-- a call of another lane
pub dealt_passed : (lanes lane k : ℕ) → (k % lanes ≡ lane → ⊥) → dealt (k + 1) lanes lane ≡ dealt k lanes lane
dealt_passed lanes lane k h = dealt_more lanes lane k ∙ rw (ne_eqb (k % lanes) lane h) (append-nil (dealt k lanes lane))

-- a call of the lane, whose transfer is taken
pub takes_own : (f : ℕ → Transfer) (drawn own more : List Transfer) (d : Transfer) (calls lanes lane k : ℕ) → drawn ≡ map f (numbers calls) → k < calls → own ≡ map f (dealt k lanes lane)
    → k % lanes ≡ lane → more ≡ own ++ get_or drawn k d ∷ [] → more ≡ map f (dealt (k + 1) lanes lane)
takes_own f drawn own more d calls lanes lane k h b o t e =
    let g : get_or drawn k d ≡ f k = ap (λ xs. get_or xs k d) h ∙ get_or-map-range_with_len f 0 calls k k d b (zero-add k) in
    e ∙ ap (λ xs. xs ++ get_or drawn k d ∷ []) o ∙ ap (λ x. map f (dealt k lanes lane) ++ x ∷ []) g
    ∙ sym (ap (map f) (dealt_taken lanes lane k t) ∙ map-append f (dealt k lanes lane) (k ∷ []))
