-- The fields and the methods of each class stand in those of the program from a number on, and so do its members in those that are taken.
use Rattle.std.proofs.Common.{◌≡◌, ℕ, zero, suc, ◌+◌, List, [], ◌∷◌, ◌++◌, length, map, Some, refl, sym, ap, ◌∙◌, subst, arith}
use Rattle.std.specs.Prelude.{slice_get}
use Rattle.std.specs.List.{flat_map, AllByRecursion, AllZip}
use Rattle.std.proofs.lemmas.List.{length-map}
use Rattle.jmodel.specs.format.ClassFile.{Member, ClassFile}
use Rattle.objects.specs.linking.Classes.{declared_in}
use Rattle.objects.specs.linking.Taken.{is_taken}
use Rattle.objects.specs.semantics.Program.{Method, Program, method_at}
use Rattle.objects.specs.linking.Linking.{taken_methods}
use Rattle.objects.specs.laws.LinkingLaw.{AreRead}
use Rattle.objects.specs.rewriting.Relinking.{old_members}
use Rattle.objects.proofs.Items.{IsAt, later}
use Rattle.objects.proofs.Links.{IsLinkedTo}
use Rattle.rewriter.specs.Part.{own_fields, own_methods}
use Rattle.rewriter.proofs.Lists.{front_at, behind_front, there, place_inside, all_zipped}
use Rattle.rewriter.proofs.Owned.{taken_of, AreAsMany, methods_are, fields_are}
use Rattle.rewritten_names.proofs.Lists.{filter_map}
use Rattle.rewritten_names.proofs.Ordinary.{olds_taken, all_taken}

-- ---- lists

-- items stand in a list from a place on
abbrev pub StandAt : {A : Type 0} → List A → ℕ → List A → Type 0
StandAt {A} whole n xs = (j : ℕ) (x : A) → slice_get xs j ≡ Some x → slice_get whole (n + j) ≡ Some x

module _ {A : Type 0} (whole : List A) where
  -- all of a list
  stand_all : StandAt whole 0 whole
  stand_all j x e = let z : j ≡ 0 + j = omega arith in subst (λ (i : ℕ). slice_get whole i ≡ Some x) z e

  -- a front of what stands
  stand_front : (n : ℕ) (xs ys : List A) → StandAt whole n (xs ++ ys) → StandAt whole n xs
  stand_front n xs ys h j x e = h j x (front_at xs ys j x e)

  -- what is behind a front
  stand_behind : (n : ℕ) (xs ys : List A) → StandAt whole n (xs ++ ys) → StandAt whole (n + length xs) ys
  stand_behind n xs ys h j x e =
      let z : n + (length xs + j) ≡ (n + length xs) + j = omega arith in
      subst (λ (i : ℕ). slice_get whole i ≡ Some x) z (h (length xs + j) x (behind_front xs ys j ∙ e))

-- an item of a map
map_at : {A B : Type 0} (f : A → B) (xs : List A) (i : ℕ) (x : A) → slice_get xs i ≡ Some x → slice_get (map f xs) i ≡ Some (f x)
map_at f [] i x e = cc
map_at {A} {B} f (y ∷ xs) zero x e = let s : y ≡ x = cc in ap (λ (y : A). Some (f y)) s
map_at f (y ∷ xs) (suc i) x e = map_at f xs i x e

-- ---- classes

module _ (cs : List ClassFile) (P : Program) where
  -- the place of a class's own
  pub record IsPlaced (c : ClassFile) (fields methods : ℕ) : Type 0 where
    pub at : IsAt cs c
    pub fields_stand : StandAt P.fields fields (own_fields P c)
    pub methods_stand : StandAt P.methods methods (own_methods P c)
    pub members_stand : StandAt (taken_methods cs) methods (declared_in c (taken_of cs c))
    pub many : length (own_methods P c) ≡ length (taken_of cs c)

  -- the same of classes, one after another
  abbrev pub ArePlaced : (fields methods : ℕ) → List ClassFile → Type 0
  ArePlaced fields methods [] = Unit {0}
  ArePlaced fields methods (c ∷ xs) = IsPlaced c fields methods × ArePlaced (fields + length (own_fields P c)) (methods + length (own_methods P c)) xs

  -- a method and the member of the class that it comes from
  pub record IsPair (c : ClassFile) (m : Member) (k : Method) : Type 0 where
    pub number : ℕ
    pub is : method_at P number ≡ Some k
    pub taken : slice_get (taken_methods cs) number ≡ Some (record { class = c; member = m })

  module _ (read : AreRead cs) (l : IsLinkedTo cs P) where
    -- a class's methods of the program are the taken ones
    olds_are : (c : ClassFile) → IsAt cs c → old_members P c ≡ declared_in c (taken_of cs c)
    olds_are c at = olds_taken cs P read l c at ∙ filter_map (λ (m : Member). record { class = c; member = m }) (is_taken cs) c.methods

    -- class after class
    placed_from : (fields methods : ℕ) (xs : List ClassFile) → ((c : ClassFile) → IsAt xs c → IsAt cs c) → AllByRecursion (λ (c : ClassFile). AreAsMany cs c (own_methods P c)) xs
        → StandAt P.fields fields (flat_map (own_fields P) xs) → StandAt P.methods methods (flat_map (own_methods P) xs) → StandAt (taken_methods cs) methods (flat_map (old_members P) xs) → ArePlaced fields methods xs
    placed_from fields methods [] at many f m t = tt
    placed_from fields methods (c ∷ xs) at many f m t =
        let here = at c (0, refl) in
        let own = olds_are c here in
        let long : length (old_members P c) ≡ length (own_methods P c) = ap length own ∙ length-map (taken_of cs c) (λ (m : Member). record { class = c; member = m }) ∙ sym many.0 in (
          record {
            at = here;
            fields_stand = stand_front P.fields fields (own_fields P c) (flat_map (own_fields P) xs) f;
            methods_stand = stand_front P.methods methods (own_methods P c) (flat_map (own_methods P) xs) m;
            members_stand = subst (StandAt (taken_methods cs) methods) own (stand_front (taken_methods cs) methods (old_members P c) (flat_map (old_members P) xs) t);
            many = many.0;
          },
          placed_from (fields + length (own_fields P c)) (methods + length (own_methods P c)) xs (λ d h. at d (later c xs d h)) many.1
              (stand_behind P.fields fields (own_fields P c) (flat_map (own_fields P) xs) f) (stand_behind P.methods methods (own_methods P c) (flat_map (own_methods P) xs) m)
              (subst (λ (n : ℕ). StandAt (taken_methods cs) (methods + n) (flat_map (old_members P) xs)) long (stand_behind (taken_methods cs) methods (old_members P c) (flat_map (old_members P) xs) t)),
        )

    -- from the first on
    pub placed : ArePlaced 0 0 cs
    placed =
        let ms = methods_are cs P read l in
        placed_from 0 0 cs (λ c at. at) ms.0
        (subst (StandAt P.fields 0) (fields_are cs P read l) (stand_all P.fields))
        (subst (StandAt P.methods 0) ms.1 (stand_all P.methods))
        (subst (StandAt (taken_methods cs) 0) (sym (all_taken cs P read l)) (stand_all (taken_methods cs)))

    -- ---- methods and members

    module _ (c : ClassFile) (fields methods : ℕ) (p : IsPlaced c fields methods) where
      -- a pair by its place in the class
      pub pair_at : (j : ℕ) (m : Member) (k : Method) → slice_get (taken_of cs c) j ≡ Some m → slice_get (own_methods P c) j ≡ Some k → (q : IsPair c m k) × (q.number ≡ methods + j)
      pair_at j m k e f = (
        record {
          number = methods + j;
          is = p.methods_stand j k f;
          taken = p.members_stand j (record { class = c; member = m }) (map_at (λ (m : Member). record { class = c; member = m }) (taken_of cs c) j m e);
        },
        refl,
      )

      -- all pairs of a class
      pub pairs : AllZip (IsPair c) (taken_of cs c) (own_methods P c)
      pairs =
          all_zipped (IsPair c) (taken_of cs c) (own_methods P c) p.many
          (λ i k e. let inside = place_inside (own_methods P c) i k e in let many = p.many in let t = there (taken_of cs c) i (omega (arith, inside, many)) in (t.0, t.1, (pair_at i t.0 k t.1 e).0))
