-- The places of names, as loops collect them.
use Rattle.std.proofs.Common.{◌≡◌, ℕ, ◌+◌, ◌<◌, List, [], ◌∷◌, ◌++◌, length, map, take, get_or, Option, Some, None, refl, sym, ap, ◌∙◌, subst}
use Rattle.std.proofs.lemmas.List.{take_more, map-append}
use Rattle.std.specs.List.{find}
use Rattle.jmodel.specs.format.ClassFile.{ClassFile}
use Rattle.hierarchy.specs.Places.{place_of}
use Rattle.resolution.specs.Ways.{FindSame, put_first, places_of}
use Rattle.resolution.proofs.Finding.{same_front, found_itself}

module _ (cs : List ClassFile) where
  -- those of some names, and behind them those of others
  pub places_both : (ns ms : List (List ℕ)) → places_of cs (ns ++ ms) ≡ places_of cs ns ++ places_of cs ms
  places_both [] ms = refl
  places_both (n ∷ ns) ms = go (place_of cs n) (places_both ns ms)
    where
      go : (o : Option ℕ) → places_of cs (ns ++ ms) ≡ places_of cs ns ++ places_of cs ms → put_first o (places_of cs (ns ++ ms)) ≡ put_first o (places_of cs ns) ++ places_of cs ms
      go None h = h
      go (Some p) h = ap (λ (l : List ℕ). p ∷ l) h

  -- one more name, of which there is a place or none
  pub place_more : (list next : List ℕ) (ns : List (List ℕ)) (n : List ℕ) (o : Option ℕ) → place_of cs n ≡ o → FindSame list (places_of cs ns) → FindSame next (list ++ put_first o []) → FindSame next (places_of cs (ns ++ n ∷ []))
  place_more list next ns n o at so_far put test =
      put test ∙ same_front list (places_of cs ns) (put_first o []) (put_first o []) so_far (found_itself (put_first o [])) test
      ∙ ap (find test) (sym (places_both ns (n ∷ []) ∙ ap (λ (q : Option ℕ). places_of cs ns ++ put_first q []) at))

  -- the same of names by their indexes
  pub index_more : (F : ℕ → List ℕ) (xs : List ℕ) (i : ℕ) (list next : List ℕ) (o : Option ℕ) → i < length xs → place_of cs (F (get_or xs i 0)) ≡ o → FindSame list (places_of cs (map F (take i xs)))
      → FindSame next (list ++ put_first o []) → FindSame next (places_of cs (map F (take (i + 1) xs)))
  index_more F xs i list next o inside at so_far put =
      let more : map F (take (i + 1) xs) ≡ map F (take i xs) ++ F (get_or xs i 0) ∷ [] = ap (map F) (take_more xs i 0 inside) ∙ map-append F (take i xs) (get_or xs i 0 ∷ []) in
      subst (λ (ns : List (List ℕ)). FindSame next (places_of cs ns)) (sym more) (place_more list next (map F (take i xs)) (F (get_or xs i 0)) o at so_far put)
