-- The places of classes by their names.
use Rattle.std.proofs.Common.{◌≡◌, ℕ, List, [], map, Option, Some, None, refl, ap, ◌∙◌}
use Rattle.std.specs.Prelude.{bytes_eq, slice_get, option_map, option_and_then}
use Rattle.std.specs.Option.{option_flatten}
use Rattle.std.specs.Cmp.Lexicographic.{nat_list_eq_equiv}
use Rattle.std.proofs.lemmas.Option.{slice_get-map}
use Rattle.jmodel.specs.declared.name.MethodName.{MethodName}
use Rattle.jmodel.specs.format.ClassFile.{ClassFile}
use Rattle.objects.specs.linking.Members.{own_name, is_name}
use Rattle.objects.specs.linking.Superclasses.{super_name}
use Rattle.hierarchy.specs.Names.{named, number_of, AreFirst}
use Rattle.hierarchy.specs.Places.{place_of, class_key}
use Rattle.hierarchy.proofs.Numbering.{position_seen}

pub flat : {A B : Type 0} (f : A → Option B) (o : Option A) → option_flatten (option_map f o) ≡ option_and_then f o
flat f None = refl
flat f (Some x) = refl

module _ (cs : List ClassFile) where
  -- what stands under a name is the place of the first class of the name
  pub found : (places : List (MethodName × ℕ)) → AreFirst places (map class_key cs) → (name : List ℕ) → number_of places (named name [] []) ≡ place_of cs name
  found places are name =
      are (named name [] []) ∙ position_seen (λ (c : ClassFile). bytes_eq (own_name c) name) (is_name (named name [] [])) class_key (λ c. nat_list_eq_equiv.symm name (own_name c)) cs

  -- what stands at a place is the place of the class above
  pub up : (supers : List (Option ℕ)) (place : ℕ) → supers ≡ map (λ c. place_of cs (super_name c)) cs → slice_get supers place ≡ option_map (λ c. place_of cs (super_name c)) (slice_get cs place)
  up supers place are = ap (λ (l : List (Option ℕ)). slice_get l place) are ∙ slice_get-map (λ (c : ClassFile). place_of cs (super_name c)) cs place
