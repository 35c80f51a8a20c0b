-- A step over the parameters of a descriptor.
use Rattle.std.proofs.Common.{◌≡◌, ℕ, suc, ◌+◌, ◌-◌, ◌<◌, ◌≤◌, List, Option, Some, None, refl, sym, ap, ◌∙◌, add_assoc, arith}
use Rattle.jmodel.specs.declared.class_file.FieldType.{FieldType}
use Rattle.jmodel.specs.format.Descriptor.{places, places_of}
use Rattle.jmodel.specs.format.DescriptorReading.{closing, type_rest, type_of, before, with_first, types_at, with_places}

more : (total : ℕ) (t : FieldType) (others : Option (List FieldType × List ℕ)) → with_places total (with_first t others) ≡ with_places (total + places t) others
more total t None = refl
more total t (Some p) = ap (λ (n : ℕ). Some (n, p.1)) (sym (add_assoc total (places t) (places_of p.0)))

module _ (total i : ℕ) (bytes : List ℕ) (all : Option (ℕ × List ℕ)) (below : i < 256) (so_far : with_places total (types_at (256 - i) bytes) ≡ all) where
  one_more : 256 - i ≡ suc (256 - (i + 1))
  one_more = omega arith

  pub goes_on : (after : List ℕ) → closing bytes ≡ None → type_rest bytes ≡ Some after → with_places (total + places (type_of (before bytes after))) (types_at (256 - (i + 1)) after) ≡ all
  unfolding types_at
  goes_on after open_ rest =
      let one : with_places total (types_at (256 - i) bytes) ≡ with_places (total + places (type_of (before bytes after))) (types_at (256 - (i + 1)) after) = rw (one_more, open_, rest) (more total (type_of (before bytes after)) (types_at (256 - (i + 1)) after)) in
      sym one ∙ so_far

  pub fails : closing bytes ≡ None → type_rest bytes ≡ None → all ≡ None
  unfolding types_at
  fails open_ rest =
      let one : with_places total (types_at (256 - i) bytes) ≡ None = rw (one_more, open_, rest) refl in
      sym so_far ∙ one

  pub closes : (after : List ℕ) → closing bytes ≡ Some after → all ≡ Some (total, after)
  unfolding types_at
  closes after shut =
      let one : with_places total (types_at (256 - i) bytes) ≡ Some (total, after) = rw (one_more, shut) (ap (λ (n : ℕ). Some (n, after)) (omega arith)) in
      sym so_far ∙ one

pub too_many : (total i : ℕ) (bytes : List ℕ) (all : Option (ℕ × List ℕ)) → 256 ≤ i → with_places total (types_at (256 - i) bytes) ≡ all → all ≡ None
unfolding types_at
too_many total i bytes all le so_far =
    let none : 256 - i ≡ 0 = omega arith in
    let one : with_places total (types_at (256 - i) bytes) ≡ None = rw none refl in
    sym so_far ∙ one
