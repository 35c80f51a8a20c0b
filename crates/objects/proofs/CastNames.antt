-- The names of classes and arrays that code of a folder has, as typing reads them, are known; so is the own name of each class.
use Rattle.std.proofs.Common.{◌≡◌, ◌≢◌, ◌⊎◌, inl, inr, ℕ, zero, suc, ◌<◌, List, [], ◌∷◌, ◌++◌, replicate, Option, Some, None, Bool, true, false, refl, sym, ap, subst, ◌∙◌, arith}
use Rattle.std.specs.Prelude.{find, bytes_eq, codes, ◌&&◌, if◌then◌else◌}
use Rattle.std.specs.List.{AllByRecursion}
use Rattle.std.proofs.lemmas.Slice.Eq.{bytes_eq-Decides}
use Rattle.jmodel.specs.declared.class_file.FieldType.{FieldType}
use Rattle.jmodel.specs.declared.class_file.FieldType.TheVariants as field
use Rattle.jmodel.specs.format.ClassFile.{ClassFile}
use Rattle.jmodel.specs.format.Descriptor.{is_array_name, field_descriptor, IsArrayName, IsElement}
use Rattle.objects.specs.linking.Members.{own_name}
use Rattle.objects.specs.linking.LibraryClasses.{library_rows}
use Rattle.objects.specs.linking.LibraryMethods.{is_library}
use Rattle.objects.specs.semantics.Program.{Row, Program}
use Rattle.objects.specs.typing.TypeOrder.{conflict_classes, is_array, is_class_name, without_last, is_class_above, element_read, class_read, name_read, read_in, above_in, classes_from, from_class}
use Rattle.objects.specs.linking.Resolution.{is_interface}
use Rattle.objects.specs.linking.ClassesFaults.{supers_fault}
use Rattle.objects.specs.linking.Layout.{rows, class_row, primitive_arrays, made_arrays}
use Rattle.objects.specs.typing.Source.{AreTypes, IsKnownName}
use Rattle.objects.specs.laws.LinkingLaw.{AreRead}
use Rattle.objects.proofs.Items.{IsAt, item, found}
use Rattle.objects.proofs.AsRead.{class_names}
use Rattle.objects.proofs.ArrayTypes.{without_end, ended}
use Rattle.objects.proofs.ClassTypes.{new_to_library}
use Rattle.objects.proofs.DeclaredMembers.{same_class}
use Rattle.objects.proofs.MadeArrays.{IsMade}
use Rattle.objects.proofs.Order.{Among, plain_name}
use Rattle.objects.proofs.Elements.{classes, is_within_by}
use Rattle.objects.proofs.ReadTypes.{class_is_read, object_is_read}
use Rattle.objects.proofs.KnownTypes.{own_from}
use Rattle.objects.proofs.ReadNames.{IsPlainRow, library_plain, RowOf, of_library_row, of_class_row, of_base, of_array_row, row_kind, class_of_row, plain_class, plain_row, IsReadClass, AreElements, not_array}

same_test : (n : List ℕ) → is_array n ≡ is_array_name n
same_test [] = refl
same_test (c ∷ n) = refl

array_name : (n : List ℕ) → IsAt primitive_arrays n → is_array_name n ≡ true
array_name n h = item (λ n. is_array_name n ≡ true) primitive_arrays n (refl, (refl, (refl, (refl, (refl, (refl, tt)))))) h

library_named : AllByRecursion (λ (r : Row). is_library r.name ≡ true) library_rows
library_named = (refl, (refl, (refl, (refl, (refl, (refl, (refl, (refl, (refl, (refl, (refl, (refl, (refl, (refl, (refl, (refl, (refl, (refl, (refl, (refl, tt))))))))))))))))))))

module _ (cs : List ClassFile) (P : Program) (read : AreRead cs) (rows_are : P.types ≡ rows cs) (types : AreTypes P) (made : AllByRecursion (IsMade cs) (made_arrays cs)) where
  array_named : (n : List ℕ) → IsAt primitive_arrays n ⊎ IsAt (made_arrays cs) n → is_array_name n ≡ true
  array_named n (inl h) = array_name n h
  array_named n (inr h) = ap is_array_name (item (IsMade cs) (made_arrays cs) n made h).over

  -- ---- what typing reads of a class's name

  module _ (m : List ℕ) (filled : m ≢ []) (plain : is_array_name m ≡ false) where
    of_class : (r : Row) (c : ClassFile) → IsAt cs c → class_row cs c ≡ r → r.name ≡ m → (b : Bool) → is_interface c ≡ b → IsReadClass P r.read
    of_class r c h same name true is = let empty : (class_row cs c).name ≡ [] = rw is refl in absurd (filled (sym name ∙ ap (λ (r : Row). r.name) (sym same) ∙ empty))
    of_class r c h same name false is = subst (IsReadClass P) (sym (ap (λ (r : Row). r.read) (sym same) ∙ plain_row cs c is)) (plain_class cs P read rows_are types c h is)

    of_row : (r : Row) → IsAt (rows cs) r → r.name ≡ m → RowOf cs r → IsReadClass P r.read
    of_row r at name (of_library_row h) =
        let p = item IsPlainRow library_rows r library_plain h in
        let k = class_is_read P types r [] (class_of_row cs P read rows_are types r at [] p.empty p.read p.named) in
        subst (IsReadClass P) (sym p.read) (record { name = k; plain = plain_name r.name p.named })
    of_row r at name (of_class_row c h same) = of_class r c h same name (is_interface c) refl
    of_row r at name (of_base words same) = absurd (filled (sym name ∙ ap (λ (r : Row). r.name) (sym same)))
    of_row r at name (of_array_row a h same) =
        let named = array_named a h in
        let is : a ≡ m = ap (λ (r : Row). r.name) same ∙ name in
        let fall : true ≡ false = sym named ∙ ap is_array_name is ∙ plain in
        cc

    class_known : IsReadClass P (class_read P m)
    class_known = subst (λ (rs : List Row). IsReadClass P (read_in (find (λ (r : Row). bytes_eq r.name m) rs))) (sym rows_are) (go (find (λ (r : Row). bytes_eq r.name m) (rows cs)) refl)
      where
        go : (o : Option Row) → find (λ (r : Row). bytes_eq r.name m) (rows cs) ≡ o → IsReadClass P (read_in o)
        go None e = record { name = object_is_read P types; plain = refl }
        go (Some r) e = let x = found (λ (r : Row). bytes_eq r.name m) (rows cs) r e in of_row r x.0 ((bytes_eq-Decides r.name m).0 x.1) (row_kind cs r x.0)

  -- ---- what it reads of an array's

  abbrev Elements : List ℕ → Type 0
  Elements e = AreElements cs P read rows_are types e

  of_type : (t : FieldType) → IsElement t → Elements (element_read P (field_descriptor t))
  of_type field.Boolean i = record { itself = refl; again = refl }
  of_type field.Byte i = record { itself = refl; again = refl }
  of_type field.Char i = record { itself = refl; again = refl }
  of_type field.Short i = record { itself = refl; again = refl }
  of_type field.Int i = record { itself = refl; again = refl }
  of_type field.Long i = record { itself = refl; again = refl }
  of_type field.Float i = record { itself = refl; again = refl }
  of_type field.Double i = record { itself = refl; again = refl }
  of_type (field.Reference m) i =
      let text : field_descriptor (field.Reference m) ≡ 76 ∷ m ++ codes ";" = ap (λ b. if b then m else codes "L" ++ m ++ codes ";") i.no_array in
      let n = class_read P m in
      let p = not_array cs P read rows_are types n (class_known m i.is_there i.no_array) in
      let laid : element_read P (76 ∷ m ++ codes ";") ≡ 76 ∷ n ++ codes ";" = ap (λ t. codes "L" ++ class_read P t ++ codes ";") (without_end m) in
      subst Elements (sym (ap (element_read P) text ∙ laid)) (record {
        itself = ap (λ b. b && is_class_above P (without_last (n ++ codes ";")) (without_last (n ++ codes ";"))) (ended n) ∙ ap (λ t. is_class_above P t t) (without_end n) ∙ p.0;
        again = ap (λ t. codes "L" ++ class_read P t ++ codes ";") (without_end n) ∙ ap (λ t. codes "L" ++ t ++ codes ";") p.1;
      })

  of_repeated : (k : ℕ) (d : List ℕ) → Elements (element_read P d) → Elements (element_read P (replicate k 91 ++ d))
  of_repeated zero d e = e
  of_repeated (suc k) d e = let r = of_repeated k d e in record { itself = r.itself; again = ap (λ (t : List ℕ). 91 ∷ t) r.again }

  of_array : (n : List ℕ) → IsArrayName n → IsKnownName P (name_read P n)
  of_array n a = by a.dimensions a.some a.is
    where
      by : (k : ℕ) → 0 < k → n ≡ replicate k 91 ++ field_descriptor a.element → IsKnownName P (name_read P n)
      by zero some is = absurd (omega arith)
      by (suc k) some is =
          let r = of_repeated k (field_descriptor a.element) (of_type a.element a.is_element) in
          subst (λ n. IsKnownName P (name_read P n)) (sym is) (record { itself = r.itself; array = λ e. ap (λ (t : List ℕ). 91 ∷ t) r.again })

  -- a name that a pool has
  pub cast_known : (n : List ℕ) → (is_array_name n ≡ true → IsArrayName n) → (is_array_name n ≡ false → n ≢ []) → IsKnownName P (name_read P n)
  cast_known n array filled = go (is_array_name n) refl
    where
      go : (b : Bool) → is_array_name n ≡ b → IsKnownName P (name_read P n)
      go true e = of_array n (array e)
      go false e =
          let r = class_known n (filled e) e in
          let p : is_array n ≡ false = same_test n ∙ e in
          let same : name_read P n ≡ class_read P n = rw p refl in
          subst (IsKnownName P) (sym same) (record { itself = r.name.itself; array = λ e. r.name.read })

  -- ---- a class's own name

  module _ (supers : supers_fault cs ≡ None) (c : ClassFile) (at : IsAt cs c) where
    own_class : is_class_name (own_name c) ≡ true
    own_class = class_names cs read at.0 c at.1

    no_row : is_interface c ≡ true → (r : Row) → r.name ≡ own_name c → RowOf cs r → ⊥
    no_row is r name (of_library_row h) =
        let in_library : is_library r.name ≡ true = item (λ (r : Row). is_library r.name ≡ true) library_rows r library_named h in
        let fall : true ≡ false = sym in_library ∙ ap is_library name ∙ new_to_library cs supers read.doubled at.0 c at.1 in
        cc
    no_row is r name (of_class_row d h same) = by (is_interface d) refl
      where
        by : (b : Bool) → is_interface d ≡ b → ⊥
        by true i =
            let empty : (class_row cs d).name ≡ [] = rw i refl in
            let none : own_name c ≡ [] = sym name ∙ ap (λ (r : Row). r.name) (sym same) ∙ empty in
            let fall : true ≡ false = sym own_class ∙ ap is_class_name none in
            cc
        by false i =
            let named : (class_row cs d).name ≡ own_name d = rw i refl in
            let one : d ≡ c = same_class cs read d c h at (sym named ∙ ap (λ (r : Row). r.name) same ∙ name) in
            let fall : false ≡ true = sym i ∙ ap is_interface one ∙ is in
            cc
    no_row is r name (of_base words same) =
        let none : own_name c ≡ [] = sym name ∙ ap (λ (r : Row). r.name) (sym same) in
        let fall : true ≡ false = sym own_class ∙ ap is_class_name none in
        cc
    no_row is r name (of_array_row n h same) =
        let is : n ≡ own_name c = ap (λ (r : Row). r.name) same ∙ name in
        let plain : is_array (own_name c) ≡ false = plain_name (own_name c) own_class in
        let fall : true ≡ false = sym (array_named n h) ∙ ap is_array_name is ∙ sym (same_test (own_name c)) ∙ plain in
        cc

    pub own_known : IsKnownName P (own_name c)
    own_known = by (is_interface c) refl
      where
        none : is_interface c ≡ true → (o : Option Row) → find (λ (r : Row). bytes_eq r.name (own_name c)) (rows cs) ≡ o → o ≡ None
        none is None e = refl
        none is (Some r) e = let x = found (λ (r : Row). bytes_eq r.name (own_name c)) (rows cs) r e in absurd (no_row is r ((bytes_eq-Decides r.name (own_name c)).0 x.1) (row_kind cs r x.0))

        by : (b : Bool) → is_interface c ≡ b → IsKnownName P (own_name c)
        by false is = let r = plain_class cs P read rows_are types c at is in record { itself = r.name.itself; array = λ e. r.name.read }
        by true is =
            let plain = plain_name (own_name c) own_class in
            let free : find (λ (r : Row). bytes_eq r.name (own_name c)) P.types ≡ None = ap (λ (rs : List Row). find (λ (r : Row). bytes_eq r.name (own_name c)) rs) rows_are ∙ none is (find (λ (r : Row). bytes_eq r.name (own_name c)) (rows cs)) refl in
            let lines : classes_from P (own_name c) ≡ from_class (own_name c) conflict_classes = ap (λ (o : Option Row). above_in o (own_name c)) free in
            record {
              itself = is_within_by P (own_name c) (own_name c) (classes plain (subst (Among (own_name c)) (sym lines) (own_from (own_name c) conflict_classes)));
              array = λ e. (let fall : true ≡ false = sym e ∙ plain in cc);
            }
