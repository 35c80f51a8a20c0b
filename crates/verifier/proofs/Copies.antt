-- Copies of an object that isn't built, among types.
use Rattle.std.proofs.Common.{◌≡◌, ℕ, zero, suc, ◌<◌, List, [], ◌∷◌, ◌++◌, Bool, true, false, length, map, replicate, refl, sym, ap, ◌∙◌, arith}
use Rattle.std.proofs.lemmas.List.{map-append}
use Rattle.std.proofs.lemmas.List.Folds.{list_any-append}
use Rattle.std.specs.Prelude.{◌||◌}
use Rattle.std.specs.List.{list_any}
use Rattle.jmodel.specs.declared.typing.VType.{VType}
use Rattle.objects.specs.typing.Typing.{become, is_uninit}

module _ (u : VType) where
  any_run : (n : ℕ) (t : VType) → 0 < n → list_any (is_uninit u) (replicate n t) ≡ is_uninit u t
  any_run zero t h = absurd (omega (arith, h))
  any_run (suc n) t h = by (is_uninit u t) refl
    where
      none : (m : ℕ) → is_uninit u t ≡ false → list_any (is_uninit u) (replicate m t) ≡ false
      none zero e = refl
      none (suc m) e = rw e (none m e)

      by : (b : Bool) → is_uninit u t ≡ b → list_any (is_uninit u) (replicate (suc n) t) ≡ is_uninit u t
      by true e = rw e refl
      by false e = rw e (none n e)

  pub has_run : (ts : List VType) (t : VType) → ts ≡ replicate (length ts) t → 0 < length ts → is_uninit u t ≡ list_any (is_uninit u) ts
  has_run ts t e h = sym (ap (list_any (is_uninit u)) e ∙ any_run (length ts) t h)

  pub has_parts : (ts l r : List VType) → ts ≡ l ++ r → list_any (is_uninit u) ts ≡ (list_any (is_uninit u) l || list_any (is_uninit u) r)
  has_parts ts l r e = ap (list_any (is_uninit u)) e ∙ list_any-append (is_uninit u) l r

module _ (u v : VType) where
  or_false : (a b : Bool) → (a || b) ≡ false → (a ≡ false) × (b ≡ false)
  or_false false b h = (refl, h)
  or_false true b h = cc

  pub none_become : (ts : List VType) → list_any (is_uninit u) ts ≡ false → map (become u v) ts ≡ ts
  none_become [] h = refl
  none_become (t ∷ ts) h =
      let p = or_false (is_uninit u t) (list_any (is_uninit u) ts) h in
      let a = p.0 in
      rw a (ap (◌∷◌ t) (none_become ts p.1))

  become_run : (n : ℕ) (t : VType) → is_uninit u t ≡ true → map (become u v) (replicate n t) ≡ replicate n v
  become_run zero t e = refl
  become_run (suc n) t e = let r = become_run n t e in rw (e, r) refl

  pub run_becomes : (n : ℕ) (ts : List VType) (t : VType) → ts ≡ replicate (length ts) t → 0 < length ts → list_any (is_uninit u) ts ≡ true → n ≡ length ts → replicate n v ≡ map (become u v) ts
  run_becomes n ts t e h a k =
      let b : is_uninit u t ≡ true = has_run u ts t e h ∙ a in
      ap (λ (n : ℕ). replicate n v) k ∙ sym (ap (map (become u v)) e ∙ become_run (length ts) t b)

  pub parts_become : (ts l r : List VType) → ts ≡ l ++ r → map (become u v) l ++ map (become u v) r ≡ map (become u v) ts
  parts_become ts l r e = sym (ap (map (become u v)) e ∙ map-append (become u v) l r)
