-- A loop over the parts of two sides.
use Rattle.std.proofs.Common.{◌≡◌, ◌⊎◌, List, [], ◌∷◌, ◌++◌, Option, Some, None, refl, sym, ◌∙◌, ap, subst, inl, inr}
use Rattle.std.specs.Global.{Global}
use Rattle.std.specs.declared.iter.Zip.{Zip}
use Rattle.std.specs.declared.vec.IntoIter.{IntoIter}
use Rattle.std.specs.Vec.Iter.{into_iter_items, into_iter_steps}
use Rattle.std.specs.Iterator.Adapters.{zip_first, zip_second}
use Rattle.std.proofs.lemmas.Iterator.{zips}
use Rattle.std.proofs.lemmas.List.{append_assoc, append-nil, nil_from_length}
use Rattle.session.specs.declared.record.Record.{Record}
use Rattle.driver.specs.declared.side.Part.{Part}
use Rattle.driver.specs.Sides.{unplaced_of, joined}

joined_nil : {A : Type 0} (ts : List (List A)) → joined ts [] ≡ []
joined_nil [] = refl
joined_nil (t ∷ ts) = refl

-- what both give next, put behind what there is
pub joined_more : (before between after whole : List Record) (ps ps' qs qs' : List Part) (p q : Part)
    → before ++ joined (unplaced_of ps) (unplaced_of qs) ≡ whole → ps ≡ p ∷ ps' → qs ≡ q ∷ qs'
    → between ≡ before ++ p.unplaced.items → after ≡ between ++ q.unplaced.items → after ++ joined (unplaced_of ps') (unplaced_of qs') ≡ whole
joined_more before between after whole ps ps' qs qs' p q h first second one other =
    let rest = joined (unplaced_of ps') (unplaced_of qs') in
    ap (λ l. l ++ rest) (other ∙ ap (λ l. l ++ q.unplaced.items) one ∙ append_assoc before p.unplaced.items q.unplaced.items)
    ∙ append_assoc before (p.unplaced.items ++ q.unplaced.items) rest
    ∙ ap (λ l. before ++ l) (sym (ap (λ l. joined (unplaced_of l) (unplaced_of qs)) first ∙ ap (λ l. joined (unplaced_of (p ∷ ps')) (unplaced_of l)) second))
    ∙ h

pub joined_all : (before whole : List Record) (ps qs : List Part) → before ++ joined (unplaced_of ps) (unplaced_of qs) ≡ whole → (ps ≡ []) ⊎ (qs ≡ [])
    → before ≡ whole
joined_all before whole ps qs h ends = sym (append-nil before) ∙ ap (λ l. before ++ l) (sym (none ends)) ∙ h
  where
    none : (ps ≡ []) ⊎ (qs ≡ []) → joined (unplaced_of ps) (unplaced_of qs) ≡ []
    none (inl e) = ap (λ l. joined (unplaced_of l) (unplaced_of qs)) e
    none (inr e) = ap (λ l. joined (unplaced_of ps) (unplaced_of l)) e ∙ joined_nil (unplaced_of ps)

abbrev Parts : Type 0
Parts = IntoIter Part Global

pub zip_more : (s t : Zip Parts Parts) (r : Option (Part × Part)) (p q : Part) → r ≡ Some (p, q) → zips into_iter_steps into_iter_steps s r t
    → (into_iter_items (zip_first s) ≡ p ∷ into_iter_items (zip_first t)) × (into_iter_items (zip_second s) ≡ q ∷ into_iter_items (zip_second t))
zip_more s t r p q is steps =
    let both = subst (λ o. zips into_iter_steps into_iter_steps s o t) is steps in
    (both.0.0, both.1.0)

pub zip_end : (s t : Zip Parts Parts) (r : Option (Part × Part)) → r ≡ None → zips into_iter_steps into_iter_steps s r t
    → (into_iter_items (zip_first s) ≡ []) ⊎ (into_iter_items (zip_second s) ≡ [])
zip_end s t r is steps = go (subst (λ o. zips into_iter_steps into_iter_steps s o t) is steps)
  where
    go : zips into_iter_steps into_iter_steps s None t → (into_iter_items (zip_first s) ≡ []) ⊎ (into_iter_items (zip_second s) ≡ [])
    go (inl h) = inl (nil_from_length (into_iter_items (zip_first s)) (sym (zip_first s).rest.ok.0 ∙ h.1.0))
    go (inr h) = inr (nil_from_length (into_iter_items (zip_second s)) (sym (zip_second s).rest.ok.0 ∙ h.1.0))
