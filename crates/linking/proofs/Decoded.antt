-- The code of each method, as a loop collects it.
use Rattle.std.proofs.Common.{◌≡◌, ℕ, ◌+◌, List, [], ◌∷◌, ◌++◌, map, drop, Option, Result, Ok, Err, Bor, refl, sym, ap, ◌∙◌, append_assoc}
use Rattle.jmodel.specs.declared.refusal.Refusal.{Refusal}
use Rattle.jmodel.specs.declared.refusal.Halt.{Halt}
use Rattle.jmodel.specs.declared.refusal.Halt.TheVariants as halts
use Rattle.jmodel.specs.format.Reading.{◌>>=◌, Fails}
use Rattle.objects.specs.linking.Code.{Coded}
use Rattle.objects.specs.linking.Classes.{Declared}
use Rattle.objects.specs.linking.Linking.{decoded_member, all_decoded}

-- the code of some methods, or the first fault
abbrev pub Codes : Type 0
Codes = Result (List (Option Coded)) Refusal

-- what was collected before, and what is still collected or the fault
abbrev pub behind : List (Option Coded) → Codes → Codes
behind front (Ok ks) = Ok (front ++ ks)
behind front (Err r) = Err r

-- one more is collected
regroup : (front : List (Option Coded)) (k : Option Coded) (rest : Codes) → behind front (rest >>= λ ks. Ok (k ∷ ks)) ≡ behind (front ++ k ∷ []) rest
regroup front k (Ok ks) = ap (λ (l : List (Option Coded)). Ok l) (simp append_assoc)
regroup front k (Err r) = refl

module _ (ms : List (Bor Declared)) (i : ℕ) (m : Bor Declared) (item : drop i ms ≡ m ∷ drop (i + 1) ms) where
  abbrev total : List (Bor Declared) → Codes
  total l = all_decoded (map (λ m. m.now) l)

  -- the next method has this code
  pub goes_on : (front : List (Option Coded)) (k : Option Coded) (whole : Codes) → decoded_member m.now ≡ Ok k → behind front (total (drop i ms)) ≡ whole
      → behind (front ++ k ∷ []) (total (drop (i + 1) ms)) ≡ whole
  goes_on front k whole gives so_far =
      let one : total (drop i ms) ≡ (total (drop (i + 1) ms) >>= λ ks. Ok (k ∷ ks)) =
      ap total item ∙ ap (λ (r : Result (Option Coded) Refusal). r >>= λ k. total (drop (i + 1) ms) >>= λ ks. Ok (k ∷ ks)) gives in
      sym (regroup front k (total (drop (i + 1) ms))) ∙ sym (ap (behind front) one) ∙ so_far

  -- the next method has a fault
  pub ends : (e : Halt) (front : List (Option Coded)) (whole : Codes) → Fails e (decoded_member m.now) → behind front (total (drop i ms)) ≡ whole → Fails e whole
  ends halts.NoMemory front whole fails so_far = tt
  ends (halts.Refused r) front whole fails so_far =
      let one : total (drop i ms) ≡ Err r = ap total item ∙ ap (λ (r : Result (Option Coded) Refusal). r >>= λ k. total (drop (i + 1) ms) >>= λ ks. Ok (k ∷ ks)) fails in
      sym so_far ∙ ap (behind front) one
