-- Texts in byte order, each once, by what they are.
use Rattle.std.proofs.Common.{◌≡◌, ℕ, Bool, true, false, ◌||◌, List, [], ◌∷◌, refl, sym, ap, ◌∙◌}
use Rattle.std.specs.Prelude.{bytes_eq, if◌then◌else◌}
use Rattle.std.specs.List.{list_any, AllByRecursion}
use Rattle.std.specs.declared.cmp.Ordering.{Ordering}
use Rattle.std.specs.declared.cmp.Ordering.TheVariants.{Less, Equal, Greater}
use Rattle.std.specs.Ordering.{is_eq, is_lt, nat_cmp, ordering_reverse}
use Rattle.std.specs.Cmp.Lexicographic.{slice_cmp, nat_list_cmp_total}
use Rattle.std.proofs.lemmas.Map.Text.{is_eq-slice_cmp}
use Rattle.objects.specs.linking.Classes.{is_before}
use Rattle.objects.specs.linking.Layout.{with_text, in_text_order}
use Rattle.hierarchy.proofs.InOrder.{itself}
use Rattle.hierarchy.proofs.Parts.{same_bytes}

abbrev Before : List ℕ → List ℕ → Type 0
Before t u = slice_cmp nat_cmp t u ≡ Less

abbrev Ascend : List (List ℕ) → Type 0
Ascend [] = Unit {0}
Ascend (t ∷ ts) = AllByRecursion (Before t) ts × Ascend ts

-- ---- two texts

same : (t u : List ℕ) (o : Ordering) → slice_cmp nat_cmp t u ≡ o → bytes_eq t u ≡ is_eq o
same t u o h = sym (is_eq-slice_cmp t u) ∙ ap is_eq h

turned : (t u : List ℕ) (o : Ordering) → slice_cmp nat_cmp t u ≡ o → slice_cmp nat_cmp u t ≡ ordering_reverse o
turned t u o h = nat_list_cmp_total.antisymm u t ∙ ap ordering_reverse h

after : (t u : List ℕ) (o : Ordering) → slice_cmp nat_cmp t u ≡ o → is_before u t ≡ is_lt (ordering_reverse o)
after t u o h = ap is_lt (turned t u o h)

-- ---- one more text

all_with : (Rule : List ℕ → Type 0) (t : List ℕ) (us : List (List ℕ)) → Rule t → AllByRecursion Rule us → AllByRecursion Rule (with_text t us)
all_with Rule t [] one all = (one, tt)
all_with Rule t (u ∷ us) one all = go (bytes_eq t u) (is_before u t) (all_with Rule t us one all.1)
  where
    go : (b c : Bool) → AllByRecursion Rule (with_text t us) → AllByRecursion Rule (if b then u ∷ us else (if c then u ∷ with_text t us else t ∷ u ∷ us))
    go true c rest = all
    go false true rest = (all.0, rest)
    go false false rest = (one, all)

all_behind : (t u : List ℕ) (us : List (List ℕ)) → Before t u → AllByRecursion (Before u) us → AllByRecursion (Before t) us
all_behind t u [] h all = tt
all_behind t u (v ∷ us) h all = (nat_list_cmp_total.trans t u v h all.0, all_behind t u us h all.1)

ascend_with : (t : List ℕ) (us : List (List ℕ)) → Ascend us → Ascend (with_text t us)
ascend_with t [] up = (tt, tt)
ascend_with t (u ∷ us) up = go (slice_cmp nat_cmp t u) refl (ascend_with t us up.1)
  where
    go : (o : Ordering) → slice_cmp nat_cmp t u ≡ o → Ascend (with_text t us) → Ascend (with_text t (u ∷ us))
    go Less h next = rw (same t u Less h, after t u Less h) ((h, all_behind t u us h up.0), up)
    go Equal h next = rw (same t u Equal h) up
    go Greater h next = rw (same t u Greater h, after t u Greater h) (all_with (Before u) t us (turned t u Greater h) up.0, next)

or_twice : (a b : Bool) → (a || b) ≡ (a || (a || b))
or_twice true b = refl
or_twice false b = refl

or_swap : (a b c : Bool) → (a || (b || c)) ≡ (b || (a || c))
or_swap true true c = refl
or_swap true false c = refl
or_swap false true c = refl
or_swap false false c = refl

any_with : (q t : List ℕ) (us : List (List ℕ)) → list_any (bytes_eq q) (with_text t us) ≡ (bytes_eq q t || list_any (bytes_eq q) us)
any_with q t [] = refl
any_with q t (u ∷ us) = go (slice_cmp nat_cmp t u) refl (any_with q t us)
  where
    go : (o : Ordering) → slice_cmp nat_cmp t u ≡ o → list_any (bytes_eq q) (with_text t us) ≡ (bytes_eq q t || list_any (bytes_eq q) us)
        → list_any (bytes_eq q) (with_text t (u ∷ us)) ≡ (bytes_eq q t || list_any (bytes_eq q) (u ∷ us))
    go Less h next = rw (same t u Less h, after t u Less h) refl
    go Equal h next =
        let one : t ≡ u = same_bytes t u (same t u Equal h) in
        rw (same t u Equal h) (or_twice (bytes_eq q u) (list_any (bytes_eq q) us) ∙ ap (λ (v : List ℕ). bytes_eq q v || (bytes_eq q u || list_any (bytes_eq q) us)) (sym one))
    go Greater h next =
        rw (same t u Greater h, after t u Greater h) (ap (λ (b : Bool). bytes_eq q u || b) next ∙ or_swap (bytes_eq q u) (bytes_eq q t) (list_any (bytes_eq q) us))

-- ---- all

ascends : (ts : List (List ℕ)) → Ascend (in_text_order ts)
ascends [] = tt
ascends (t ∷ ts) = ascend_with t (in_text_order ts) (ascends ts)

any_in_order : (q : List ℕ) (ts : List (List ℕ)) → list_any (bytes_eq q) (in_text_order ts) ≡ list_any (bytes_eq q) ts
any_in_order q [] = refl
any_in_order q (t ∷ ts) = any_with q t (in_text_order ts) ∙ ap (λ (b : Bool). bytes_eq q t || b) (any_in_order q ts)

-- a text that comes before some is none of them
none_among : (t : List ℕ) (us : List (List ℕ)) → AllByRecursion (Before t) us → list_any (bytes_eq t) us ≡ false
none_among t [] all = refl
none_among t (u ∷ us) all = rw (same t u Less all.0) (none_among t us all.1)

-- what is the first text is none of those behind it
none_behind : (q t : List ℕ) (us : List (List ℕ)) → bytes_eq q t ≡ true → Ascend (t ∷ us) → list_any (bytes_eq q) us ≡ false
none_behind q t us is up = ap (λ (v : List ℕ). list_any (bytes_eq v) us) (same_bytes q t is) ∙ none_among t us up.0

abbrev SameTexts : List (List ℕ) → List (List ℕ) → Type 0
SameTexts ts us = (q : List ℕ) → list_any (bytes_eq q) ts ≡ list_any (bytes_eq q) us

one_order : (ts us : List (List ℕ)) → Ascend ts → Ascend us → SameTexts ts us → ts ≡ us
one_order [] [] up down are = refl
one_order [] (u ∷ us) up down are = let none = are u in let here = itself u in absurd cc
one_order (t ∷ ts) [] up down are = let none = are t in let here = itself t in absurd cc
one_order (t ∷ ts) (u ∷ us) up down are = go (slice_cmp nat_cmp t u) refl (one_order ts us up.1 down.1)
  where
    rest : t ≡ u → SameTexts ts us
    rest one q = by (bytes_eq q t) refl
      where
        by : (b : Bool) → bytes_eq q t ≡ b → list_any (bytes_eq q) ts ≡ list_any (bytes_eq q) us
        by true h = none_behind q t ts h up ∙ sym (none_behind q u us (sym (ap (bytes_eq q) one) ∙ h) down)
        by false h =
            let other : bytes_eq q u ≡ false = sym (ap (bytes_eq q) one) ∙ h in
            sym (ap (λ (b : Bool). b || list_any (bytes_eq q) ts) h) ∙ are q ∙ ap (λ (b : Bool). b || list_any (bytes_eq q) us) other

    go : (o : Ordering) → slice_cmp nat_cmp t u ≡ o → (SameTexts ts us → ts ≡ us) → t ∷ ts ≡ u ∷ us
    go Less h next =
        let none : list_any (bytes_eq t) (u ∷ us) ≡ false = none_among t (u ∷ us) (h, all_behind t u us h down.0) in
        let here = itself t in
        let whole = are t in
        absurd cc
    go Equal h next =
        let one : t ≡ u = same_bytes t u (same t u Equal h) in
        ap (λ (v : List ℕ). v ∷ ts) one ∙ ap (λ (l : List (List ℕ)). u ∷ l) (next (rest one))
    go Greater h next =
        let back : Before u t = turned t u Greater h in
        let none : list_any (bytes_eq u) (t ∷ ts) ≡ false = none_among u (t ∷ ts) (back, all_behind u t ts back up.0) in
        let here = itself u in
        let whole = are u in
        absurd cc

-- the same texts have one order
pub one_text_order : (ts us : List (List ℕ)) → ((q : List ℕ) → list_any (bytes_eq q) ts ≡ list_any (bytes_eq q) us) → in_text_order ts ≡ in_text_order us
one_text_order ts us are = one_order (in_text_order ts) (in_text_order us) (ascends ts) (ascends us) (λ q. any_in_order q ts ∙ are q ∙ sym (any_in_order q us))
