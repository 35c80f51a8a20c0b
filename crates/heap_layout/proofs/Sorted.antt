-- Texts in byte order, as a tree has them.
use Rattle.std.proofs.Common.{◌≡◌, ℕ, List, [], ◌∷◌, ◌++◌, map, reverse, Bor, refl, sym, ap, ◌∙◌}
use Rattle.std.specs.Prelude.{bytes_eq}
use Rattle.std.specs.BTreeSet.{insert_key}
use Rattle.std.specs.declared.cmp.Ordering.{Ordering}
use Rattle.std.specs.declared.cmp.Ordering.TheVariants.{Less, Equal, Greater}
use Rattle.std.specs.Ordering.{is_eq, is_lt, nat_cmp, ordering_reverse}
use Rattle.std.specs.Cmp.Lexicographic.{slice_cmp, nat_list_cmp_total}
use Rattle.std.proofs.lemmas.List.{map-append, reverse-append}
use Rattle.std.proofs.lemmas.Map.Text.{is_eq-slice_cmp}
use Rattle.objects.specs.linking.Classes.{is_before}
use Rattle.objects.specs.linking.Layout.{with_text}
use Rattle.hierarchy.proofs.InOrder.{by_bytes, texts}

-- a key goes where its text goes
pub inserted : (ks : List (Bor (List ℕ))) (k : Bor (List ℕ)) → texts (insert_key by_bytes ks k) ≡ with_text k.now (texts ks)
inserted [] k = refl
inserted (x ∷ xs) k = go (slice_cmp nat_cmp k.now x.now) refl (inserted xs k)
  where
    same : (o : Ordering) → slice_cmp nat_cmp k.now x.now ≡ o → bytes_eq k.now x.now ≡ is_eq o
    same o h = sym (is_eq-slice_cmp k.now x.now) ∙ ap is_eq h

    after : (o : Ordering) → slice_cmp nat_cmp k.now x.now ≡ o → is_before x.now k.now ≡ is_lt (ordering_reverse o)
    after o h = ap is_lt (nat_list_cmp_total.antisymm x.now k.now ∙ ap ordering_reverse h)

    go : (o : Ordering) → slice_cmp nat_cmp k.now x.now ≡ o → texts (insert_key by_bytes xs k) ≡ with_text k.now (texts xs)
        → texts (insert_key by_bytes (x ∷ xs) k) ≡ with_text k.now (texts (x ∷ xs))
    go Less h next = rw (h, same Less h, after Less h) refl
    go Equal h next = rw (h, same Equal h) refl
    go Greater h next = rw (h, same Greater h, after Greater h) (ap (λ (l : List (List ℕ)). x.now ∷ l) next)

-- the last one of texts comes first
pub last_first : (ys : List (Bor (Bor (List ℕ)))) (x : Bor (Bor (List ℕ))) → reverse (map (λ t. t.now) (ys ++ x ∷ [])) ≡ x.now ∷ reverse (map (λ t. t.now) ys)
last_first ys x = ap (λ (l : List (Bor (List ℕ))). reverse l) (map-append (λ (t : Bor (Bor (List ℕ))). t.now) ys (x ∷ [])) ∙ reverse-append (map (λ (t : Bor (Bor (List ℕ))). t.now) ys) (x.now ∷ [])
