-- The first method that is declared from a class upward, by numbers.
use Rattle.std.proofs.Common.{◌≡◌, ℕ, List, [], ◌∷◌, map, Option, Some, None, refl, sym, ap, ◌∙◌}
use Rattle.std.specs.Prelude.{slice_get, position, option_map, option_and_then}
use Rattle.std.specs.Option.{option_flatten}
use Rattle.std.specs.Ordering.{nat_cmp}
use Rattle.std.specs.BTreeMap.{BTreeMap, get}
use Rattle.std.proofs.lemmas.Option.{slice_get-map}
use Rattle.jmodel.specs.declared.name.MethodName.{MethodName}
use Rattle.objects.specs.linking.Members.{is_name}
use Rattle.objects.specs.semantics.Program.{Program, Method, Row, overrides, or_else, first_in, lineage_in}
use Rattle.hierarchy.specs.declared.selection.Selection.{Selection}
use Rattle.hierarchy.specs.Names.{number_of, AreFirst}
use Rattle.hierarchy.specs.Selecting.{class_of, class_key, group_key, place_in, is_place, first_at, numbers_upward, first_upward}
use Rattle.hierarchy.specs.Selects.{Selects}
use Rattle.hierarchy.proofs.GroupPlaces.{declared, none_declared, none_grouped}

-- where no class declares one, there is none
nothing : (P : Program) (k : Method) → ((class : List ℕ) → position (overrides k class) P.methods ≡ None) → (cs : List (List ℕ)) → None ≡ first_in P k cs
nothing P k none [] = refl
nothing P k none (c ∷ cs) = nothing P k none cs ∙ sym (ap (λ (o : Option ℕ). or_else o (first_in P k cs)) (none c))

module _ (P : Program) (groups classes : List (MethodName × ℕ)) (grouped : AreFirst groups (map group_key P.methods)) (classed : AreFirst classes (map class_key P.methods)) (firsts : BTreeMap ℕ (BTreeMap ℕ ℕ))
    (are_firsts : (g c : ℕ) → first_at firsts g c ≡ position (λ k. is_place (place_in groups classes k) g c) P.methods) where
  -- under a number of a class stands what it declares
  module _ (k : Method) (g : ℕ) (group : number_of groups (group_key k) ≡ Some g) where
    stands : (class : List ℕ) (c : ℕ) → number_of classes (class_of class) ≡ Some c → first_at firsts g c ≡ position (overrides k class) P.methods
    stands class c e = are_firsts g c ∙ declared groups classes P.methods grouped classed k class g c group e

    upward : (numbers : BTreeMap ℕ ℕ) → get nat_cmp firsts g ≡ Some numbers → (cs : List (List ℕ)) → first_upward numbers (numbers_upward classes cs) ≡ first_in P k cs
    upward numbers there [] = refl
    upward numbers there (class ∷ cs) = go (number_of classes (class_of class)) refl (upward numbers there cs)
      where
        go : (o : Option ℕ) → number_of classes (class_of class) ≡ o → first_upward numbers (numbers_upward classes cs) ≡ first_in P k cs → first_upward numbers (numbers_upward classes (class ∷ cs)) ≡ first_in P k (class ∷ cs)
        go None e rest = rw e (rest ∙ sym (ap (λ (o : Option ℕ). or_else o (first_in P k cs)) (none_declared groups classes P.methods grouped classed k class e)))
        go (Some c) e rest =
            let here : get nat_cmp numbers c ≡ position (overrides k class) P.methods = sym (ap (option_and_then (λ (t : BTreeMap ℕ ℕ). get nat_cmp t c)) there) ∙ stands class c e in
            rw e (ap (λ (o : Option ℕ). or_else o (first_upward numbers (numbers_upward classes cs))) here ∙ ap (or_else (position (overrides k class) P.methods)) rest)

    -- a group under which nothing stands
    none_there : get nat_cmp firsts g ≡ None → (class : List ℕ) → position (overrides k class) P.methods ≡ None
    none_there none class = go (number_of classes (class_of class)) refl
      where
        go : (o : Option ℕ) → number_of classes (class_of class) ≡ o → position (overrides k class) P.methods ≡ None
        go None e = none_declared groups classes P.methods grouped classed k class e
        go (Some c) e = sym (stands class c e) ∙ ap (option_and_then (λ (t : BTreeMap ℕ ℕ). get nat_cmp t c)) none

  -- the numbers say what calls find
  pub selects : (s : Selection) → s.firsts ≡ firsts → map (λ l. l.items) s.classes.items ≡ map (λ r. numbers_upward classes r.lineage) P.types → s.groups.items ≡ map (λ k. number_of groups (group_key k)) P.methods → Selects s P
  selects s firsts_are rows numbers row m k there selectable =
      let upward_of : Option ℕ → Option ℕ = λ o. option_and_then (λ g. option_and_then (λ t. option_and_then (λ l. first_upward t l.items) (slice_get s.classes.items row)) (get nat_cmp s.firsts g)) o in
      let number : option_flatten (slice_get s.groups.items m) ≡ number_of groups (group_key k) =
      ap (λ (l : List (Option ℕ)). option_flatten (slice_get l m)) numbers ∙ ap (λ (o : Option (Option ℕ)). option_flatten o) (slice_get-map (λ (k : Method). number_of groups (group_key k)) P.methods m ∙ ap (option_map (λ (k : Method). number_of groups (group_key k))) there) in
      ap upward_of number ∙ by_group (number_of groups (group_key k)) refl
    where
      of_tree : Option (BTreeMap ℕ ℕ) → Option ℕ
      of_tree o = option_and_then (λ t. option_and_then (λ l. first_upward t l.items) (slice_get s.classes.items row)) o

      lists : option_map (λ l. l.items) (slice_get s.classes.items row) ≡ option_map (λ (r : Row). numbers_upward classes r.lineage) (slice_get P.types row)
      lists = sym (slice_get-map (λ l. l.items) s.classes.items row) ∙ ap (λ (l : List (List ℕ)). slice_get l row) rows ∙ slice_get-map (λ (r : Row). numbers_upward classes r.lineage) P.types row

      by_list : (g : ℕ) → number_of groups (group_key k) ≡ Some g → (t : BTreeMap ℕ ℕ) → get nat_cmp firsts g ≡ Some t → (l : _) → slice_get s.classes.items row ≡ l → (r : Option Row) → slice_get P.types row ≡ r
          → option_map (λ l. l.items) l ≡ option_map (λ (r : Row). numbers_upward classes r.lineage) r → option_and_then (λ l. first_upward t l.items) l ≡ first_in P k (lineage_in r)
      by_list g e t f None a None b h = refl
      by_list g e t f None a (Some r) b h = absurd cc
      by_list g e t f (Some l) a None b h = absurd cc
      by_list g e t f (Some l) a (Some r) b h = let same : l.items ≡ numbers_upward classes r.lineage = cc in ap (first_upward t) same ∙ upward k g e t f r.lineage

      by_tree : (g : ℕ) → number_of groups (group_key k) ≡ Some g → (o : Option (BTreeMap ℕ ℕ)) → get nat_cmp firsts g ≡ o → of_tree o ≡ first_in P k (lineage_in (slice_get P.types row))
      by_tree g e None f = nothing P k (none_there k g e f) (lineage_in (slice_get P.types row))
      by_tree g e (Some t) f = by_list g e t f (slice_get s.classes.items row) refl (slice_get P.types row) refl lists

      by_group : (o : Option ℕ) → number_of groups (group_key k) ≡ o → option_and_then (λ g. of_tree (get nat_cmp s.firsts g)) o ≡ first_in P k (lineage_in (slice_get P.types row))
      by_group None e = nothing P k (none_grouped groups classes P.methods grouped classed k e) (lineage_in (slice_get P.types row))
      by_group (Some g) e = ap (λ (f : BTreeMap ℕ (BTreeMap ℕ ℕ)). of_tree (get nat_cmp f g)) firsts_are ∙ by_tree g e (get nat_cmp firsts g) refl

-- the same of the types and methods of any program
pub selects_in : (ts : List Row) (ms : List Method) (groups classes : List (MethodName × ℕ)) (s : Selection) → AreFirst groups (map group_key ms) → AreFirst classes (map class_key ms)
    → ((g c : ℕ) → first_at s.firsts g c ≡ position (λ k. is_place (place_in groups classes k) g c) ms) → map (λ l. l.items) s.classes.items ≡ map (λ r. numbers_upward classes r.lineage) ts
    → s.groups.items ≡ map (λ k. number_of groups (group_key k)) ms → (P : Program) → P.types ≡ ts → P.methods ≡ ms → Selects s P
selects_in ts ms groups classes s grouped classed firsts rows numbers P types methods =
    let keyed = λ (key : Method → MethodName) (n : MethodName). ap (λ (l : List Method). position (is_name n) (map key l)) (sym methods) in
    selects P groups classes (λ n. grouped n ∙ keyed group_key n) (λ n. classed n ∙ keyed class_key n) s.firsts
    (λ g c. firsts g c ∙ ap (position (λ k. is_place (place_in groups classes k) g c)) (sym methods)) s refl
    (rows ∙ ap (map (λ r. numbers_upward classes r.lineage)) (sym types)) (numbers ∙ ap (map (λ k. number_of groups (group_key k))) (sym methods))
