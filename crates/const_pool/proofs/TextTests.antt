-- A map from texts after one is noted.
use Rattle.std.proofs.Common.{◌≡◌, ℕ, Bool, true, false, List, Some, None, Vec, refl, sym, ap, ◌∙◌}
use Rattle.std.specs.Prelude.{bytes_eq}
use Rattle.std.specs.Map.{lookup, IsKeyTest, AreApart, KeepsOthers}
use Rattle.std.specs.BTreeMap.{BTreeMap, UpdatesBy, is_at}
use Rattle.std.specs.Ordering.{is_eq, nat_cmp, eq_by_cmp}
use Rattle.std.specs.Cmp.{eq_by_cmp_equiv}
use Rattle.std.specs.Cmp.Lexicographic.{slice_cmp, nat_list_cmp_total, nat_list_eq_equiv}
use Rattle.std.proofs.lemmas.Slice.Eq.{bytes_eq-Decides}
use Rattle.std.proofs.lemmas.Map.Text.{is_eq-slice_cmp}
use Rattle.const_pool.specs.Firsts.{or_at, text_known}
use Rattle.const_pool.proofs.KeyTests.{or_at-false}

pub same_bytes : (a b : List ℕ) → bytes_eq a b ≡ true → a ≡ b
same_bytes a b h = (bytes_eq-Decides a b).0 h

pub equal_bytes : (a : List ℕ) → bytes_eq a a ≡ true
equal_bytes a = (bytes_eq-Decides a a).1 refl

apart : (bs cs ks : List ℕ) → bytes_eq bs cs ≡ false → is_eq (slice_cmp nat_cmp bs ks) ≡ true → is_eq (slice_cmp nat_cmp cs ks) ≡ false
apart bs cs ks n y = is_eq-slice_cmp cs ks ∙ nat_list_eq_equiv.symm cs ks ∙ sym (nat_list_eq_equiv.congr bs ks cs (sym (is_eq-slice_cmp bs ks) ∙ y)) ∙ n

others : {K X : Type 0} (eq : K → K → Bool) (test : K → Bool) (old new : List (K × X)) → KeepsOthers eq test old new → (other : K → Bool) → IsKeyTest eq other → AreApart test other → lookup other new ≡ lookup other old
unfolding KeepsOthers
others eq test old new h = h

module _ {A : Type 0} (old new : BTreeMap (Vec ℕ A) ℕ) (text : List ℕ) (at : ℕ) (absent : text_known old text ≡ None) (h : UpdatesBy (λ x y. slice_cmp nat_cmp x.items y.items) (λ k. slice_cmp nat_cmp text k.items) old new (Some at)) where
  pub text_noted : (q : List ℕ) → text_known new q ≡ or_at (text_known old q) (bytes_eq text q) at
  text_noted q = by_test (bytes_eq text q) refl where
    by_test : (b : Bool) → bytes_eq text q ≡ b → text_known new q ≡ or_at (text_known old q) b at
    by_test true e =
        let one : text ≡ q = same_bytes text q e in
        let now : text_known new q ≡ Some at = ap (text_known new) (sym one) ∙ h.1 in
        let none : text_known old q ≡ None = ap (text_known old) (sym one) ∙ absent in
        rw (now, none) refl
    by_test false e =
        others (eq_by_cmp (λ x y. slice_cmp nat_cmp x.items y.items)) (is_at (λ k. slice_cmp nat_cmp text k.items)) old.entries new.entries h.3 (is_at (λ k. slice_cmp nat_cmp q k.items)) (λ x y. (eq_by_cmp_equiv nat_list_cmp_total).congr q x.items y.items) (λ k. apart text q k.items e)
        ∙ sym (or_at-false (text_known old q) at)
