-- Types place by place, of lists in two parts and of one type over and over.
use Rattle.std.proofs.Common.{◌≡◌, ℕ, zero, suc, ◌+◌, ◌/◌, ◌<◌, List, [], ◌∷◌, ◌++◌, length, replicate, Bool, true, false, refl, sym, ap, ◌∙◌, arith, length-append}
use Rattle.std.proofs.lemmas.List.{length-replicate, replicate-append-replicate}
use Rattle.std.specs.Prelude.{◌&&◌, ◌||◌}
use Rattle.jmodel.specs.declared.typing.VType.{VType}
use Rattle.jmodel.specs.declared.typing.VType.TheVariants.{Int, Long, Second, Null, Ref, Uninit, UninitThis, Top}
use Rattle.std.proofs.lemmas.Bool.Decides.{nat_tests}
use Rattle.objects.specs.semantics.Program.{Program}
use Rattle.objects.specs.typing.TypeOrder.{is_within}
use Rattle.type_lists.specs.Named.{is_named, are_named}
use Rattle.verifier.specs.Order.{are_within}

and_assoc : (a b c : Bool) → (a && (b && c)) ≡ ((a && b) && c)
and_assoc true b c = refl
and_assoc false b c = refl

and_same : (a : Bool) → (a && a) ≡ a
and_same true = refl
and_same false = refl

-- a test of two parts comes out as the second where the first holds, and fails where it doesn't
pub and_rest : (x a b : Bool) → x ≡ (a && b) → a ≡ true → b ≡ x
and_rest x a b e f = sym (e ∙ ap (λ (a : Bool). a && b) f)

pub and_stop : (x a b : Bool) → x ≡ (a && b) → a ≡ false → false ≡ x
and_stop x a b e f = sym (e ∙ ap (λ (a : Bool). a && b) f)

module _ (P : Program) where
  pub within_parts : (a b c d : List VType) → length a ≡ length b → are_within P (a ++ c) (b ++ d) ≡ (are_within P a b && are_within P c d)
  within_parts [] [] c d e = refl
  within_parts [] (u ∷ b) c d e = cc
  within_parts (t ∷ a) [] c d e = cc
  within_parts (t ∷ a) (u ∷ b) c d e =
      let l : length a ≡ length b = omega (arith, e) in
      ap (λ (x : Bool). is_within P t u && x) (within_parts a b c d l) ∙ and_assoc (is_within P t u) (are_within P a b) (are_within P c d)

  pub within_run : (n : ℕ) (t u : VType) → 0 < n → are_within P (replicate n t) (replicate n u) ≡ is_within P t u
  within_run zero t u h = absurd (omega (arith, h))
  within_run (suc zero) t u h = by (is_within P t u)
    where
      by : (a : Bool) → (a && true) ≡ a
      by true = refl
      by false = refl
  within_run (suc (suc n)) t u h = ap (λ (x : Bool). is_within P t u && x) (within_run (suc n) t u (omega arith)) ∙ and_same (is_within P t u)

  -- lists in parts, beside one type over and over
  pub under_parts : (ts l r : List VType) (u : VType) → ts ≡ l ++ r → are_within P ts (replicate (length ts) u) ≡ (are_within P l (replicate (length l) u) && are_within P r (replicate (length r) u))
  under_parts ts l r u e =
      let n : length ts ≡ length l + length r = ap length e ∙ length-append l r in
      let s : replicate (length ts) u ≡ replicate (length l) u ++ replicate (length r) u = ap (λ (k : ℕ). replicate k u) n ∙ sym (replicate-append-replicate (length l) (length r) u) in
      rw s (ap (λ (ts : List VType). are_within P ts (replicate (length l) u ++ replicate (length r) u)) e ∙ within_parts l (replicate (length l) u) r (replicate (length r) u) (sym (length-replicate (length l) u)))

  pub over_parts : (ts l r : List VType) (u : VType) → ts ≡ l ++ r → are_within P (replicate (length ts) u) ts ≡ (are_within P (replicate (length l) u) l && are_within P (replicate (length r) u) r)
  over_parts ts l r u e =
      let n : length ts ≡ length l + length r = ap length e ∙ length-append l r in
      let s : replicate (length ts) u ≡ replicate (length l) u ++ replicate (length r) u = ap (λ (k : ℕ). replicate k u) n ∙ sym (replicate-append-replicate (length l) (length r) u) in
      rw s (ap (are_within P (replicate (length l) u ++ replicate (length r) u)) e ∙ within_parts (replicate (length l) u) l (replicate (length r) u) r (length-replicate (length l) u))

  pub parts_within : (ts us l r m s : List VType) → ts ≡ l ++ r → us ≡ m ++ s → length l ≡ length m → are_within P ts us ≡ (are_within P l m && are_within P r s)
  parts_within ts us l r m s e f n = ap (λ (ts : List VType). are_within P ts us) e ∙ ap (are_within P (l ++ r)) f ∙ within_parts l m r s n

  -- a type without a name is within itself
  plain_self : (t : VType) → is_named t ≡ false → is_within P t t ≡ true
  plain_self Int h = refl
  plain_self Long h = refl
  plain_self Second h = refl
  plain_self Null h = refl
  plain_self (Ref n) h = cc
  plain_self (Uninit p) h = grind (arith, nat_tests)
  plain_self UninitThis h = refl
  plain_self Top h = refl

  or_false : (a b : Bool) → (a || b) ≡ false → (a ≡ false) × (b ≡ false)
  or_false false b h = (refl, h)
  or_false true b h = cc

  pub plain_within : (ts : List VType) → are_named ts ≡ false → are_within P ts ts ≡ true
  plain_within [] h = refl
  plain_within (t ∷ ts) h =
      let p = or_false (is_named t) (are_named ts) h in
      let a = plain_self t p.0 in
      let b = plain_within ts p.1 in
      rw (a, b) refl

  -- top is above all types
  pub under_top : (ts : List VType) → are_within P ts (replicate (length ts) Top) ≡ true
  under_top [] = refl
  under_top (t ∷ ts) = let a : is_within P t Top ≡ true = above t in let b = under_top ts in rw (a, b) refl
    where
      above : (t : VType) → is_within P t Top ≡ true
      above Int = refl
      above Long = refl
      above Second = refl
      above Null = refl
      above (Ref n) = refl
      above (Uninit p) = refl
      above UninitThis = refl
      above Top = refl

  -- of lists of one length of which one is empty
  pub none_within : (ts us : List VType) → length ts ≡ length us → ts ≡ [] → are_within P ts us ≡ true
  none_within [] [] n e = refl
  none_within [] (u ∷ us) n e = cc
  none_within (t ∷ ts) us n e = cc

  pub in_none : (ts us : List VType) → length ts ≡ length us → us ≡ [] → are_within P ts us ≡ true
  in_none [] [] n e = refl
  in_none (t ∷ ts) [] n e = cc
  in_none ts (u ∷ us) n e = cc

  -- forks of lists of one length divide at one place
  pub halves_within : (ts us l r m s : List VType) → ts ≡ l ++ r → us ≡ m ++ s → length ts ≡ length us → length l ≡ length ts / 2 → length m ≡ length us / 2 → are_within P ts us ≡ (are_within P l m && are_within P r s)
  halves_within ts us l r m s e f n h g = parts_within ts us l r m s e f (h ∙ ap (λ (n : ℕ). n / 2) n ∙ sym g)

  -- of a stack whose topmost part is within itself
  pub settled_part : (ts l r : List VType) → ts ≡ l ++ r → are_within P l l ≡ true → are_within P ts ts ≡ are_within P r r
  settled_part ts l r e f = parts_within ts ts l r l r e e refl ∙ ap (λ (b : Bool). b && are_within P r r) f
