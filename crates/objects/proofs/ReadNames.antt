-- Names of classes and arrays, as Layout reads them, are read by typing so, and are at most themselves and Object.
use Rattle.std.proofs.Common.{◌≡◌, ◌≢◌, ◌⊎◌, inl, inr, ℕ, suc, List, [], ◌∷◌, ◌++◌, map, Option, Some, None, Bool, true, false, not, refl, sym, ap, subst, ◌∙◌}
use Rattle.std.specs.Prelude.{slice_get, bytes_eq, codes, ◌==◌, ◌&&◌, ◌||◌, if◌then◌else◌}
use Rattle.std.specs.List.{AllByRecursion}
use Rattle.std.proofs.lemmas.Slice.Eq.{bytes_eq-Decides}
use Rattle.jmodel.specs.format.ClassFile.{ClassFile}
use Rattle.objects.specs.linking.Members.{own_name}
use Rattle.objects.specs.linking.Superclasses.{class_named}
use Rattle.objects.specs.semantics.Program.{Declared, Words, Row, Program, row_at}
use Rattle.objects.specs.linking.LibraryClasses.{library_rows}
use Rattle.objects.specs.linking.LibraryMethods.{is_library}
use Rattle.objects.specs.typing.TypeOrder.{object_class, context_class, is_array, is_class_name, without_last, is_ended, is_class_above, is_element_within, element_read, IsWithin}
use Rattle.objects.specs.typing.TypeOrder as typing
use Rattle.objects.specs.linking.Resolution.{is_interface, holds_of}
use Rattle.objects.specs.linking.Layout.{rows, class_row, base_rows, array_row, primitive_arrays, made_arrays, nameless, static_words, words_upward, class_read, descriptor_read}
use Rattle.objects.specs.typing.Source.{IsClass, IsRowOf, AreTypes, IsReadName}
use Rattle.objects.specs.laws.LinkingLaw.{AreRead}
use Rattle.objects.proofs.Items.{IsAt, item, either_part, in_front_part, in_back_part, of_map, into_map}
use Rattle.objects.proofs.AsRead.{named_as, class_names}
use Rattle.objects.proofs.ArrayTypes.{without_end, ended}
use Rattle.objects.proofs.ClassRows.{found_passes, is_row}
use Rattle.objects.proofs.ClassTypes.{of_library}
use Rattle.objects.proofs.ReadTypes.{class_is_read, object_is_read}

-- ---- rows

-- a class of the library
pub record IsPlainRow (r : Row) : Type 0 where
  pub empty : r.holds ≡ Words []
  pub read : r.read ≡ r.name
  pub named : is_class_name r.name ≡ true

a_row : (r : Row) → r.holds ≡ Words [] → r.read ≡ r.name → is_class_name r.name ≡ true → IsPlainRow r
a_row r a b c = record { empty = a; read = b; named = c }

pub library_plain : AllByRecursion IsPlainRow library_rows
library_plain = (
  a_row _ refl refl refl,
  (
    a_row _ refl refl refl,
    (
      a_row _ refl refl refl,
      (
        a_row _ refl refl refl,
        (
          a_row _ refl refl refl,
          (
            a_row _ refl refl refl,
            (
              a_row _ refl refl refl,
              (
                a_row _ refl refl refl,
                (
                  a_row _ refl refl refl,
                  (
                    a_row _ refl refl refl,
                    (
                      a_row _ refl refl refl,
                      (a_row _ refl refl refl, (a_row _ refl refl refl, (a_row _ refl refl refl, (a_row _ refl refl refl, (a_row _ refl refl refl, (a_row _ refl refl refl, (a_row _ refl refl refl, (a_row _ refl refl refl, (a_row _ refl refl refl, tt))))))))),
                    ),
                  ),
                ),
              ),
            ),
          ),
        ),
      ),
    ),
  ),
)

-- what rows there are
pub data RowOf (cs : List ClassFile) (r : Row) : Type 0 where
  of_library_row : (at : IsAt library_rows r) → RowOf cs r
  of_class_row : (c : ClassFile) (at : IsAt cs c) (is : class_row cs c ≡ r) → RowOf cs r
  of_base : (words : List Declared) (is : nameless words ≡ r) → RowOf cs r
  of_array_row : (n : List ℕ) (at : IsAt primitive_arrays n ⊎ IsAt (made_arrays cs) n) (is : array_row cs n ≡ r) → RowOf cs r

pub row_kind : (cs : List ClassFile) (r : Row) → IsAt (rows cs) r → RowOf cs r
row_kind cs r h = elim (either_part (library_rows ++ map (class_row cs) cs ++ base_rows cs ++ map (array_row cs) primitive_arrays) (map (array_row cs) (made_arrays cs)) r h) [
  | inr a ↦ (let m = of_map (array_row cs) (made_arrays cs) r a in of_array_row m.0 (inr m.1) m.2)
  | inl a ↦ elim (either_part (library_rows ++ map (class_row cs) cs ++ base_rows cs) (map (array_row cs) primitive_arrays) r a) [
    | inr a ↦ (let m = of_map (array_row cs) primitive_arrays r a in of_array_row m.0 (inl m.1) m.2)
    | inl a ↦ elim (either_part (library_rows ++ map (class_row cs) cs) (base_rows cs) r a) [
      | inr a ↦ (let m = of_map (λ c. nameless (static_words cs c)) _ r a in of_base (static_words cs m.0) m.2)
      | inl a ↦ elim (either_part library_rows (map (class_row cs) cs) r a) [ inr a ↦ (let m = of_map (class_row cs) cs r a in of_class_row m.0 m.1 m.2) | inl a ↦ of_library_row a ]
    ]
  ]
]

pub in_rows : (cs : List ClassFile) (r : Row) → IsAt (library_rows ++ map (class_row cs) cs) r → IsAt (rows cs) r
in_rows cs r h =
    in_front_part (library_rows ++ map (class_row cs) cs ++ base_rows cs ++ map (array_row cs) primitive_arrays) (map (array_row cs) (made_arrays cs)) r
    (in_front_part (library_rows ++ map (class_row cs) cs ++ base_rows cs) (map (array_row cs) primitive_arrays) r (in_front_part (library_rows ++ map (class_row cs) cs) (base_rows cs) r h))

pub plain_row : (cs : List ClassFile) (c : ClassFile) → is_interface c ≡ false → (class_row cs c).read ≡ own_name c
plain_row cs c is = rw is refl

-- a name of a class that is read is empty for none
filled : (n : List ℕ) → is_class_name n ≡ true → n ≢ []
filled [] e s = cc
filled (c ∷ n) e s = cc

plain_name : (n : List ℕ) → is_class_name n ≡ true → is_array n ≡ false
plain_name [] e = refl
plain_name (c ∷ cs) e = go (c == 91) e
  where
    go : (b : Bool) → not b ≡ true → b ≡ false
    go true e = cc
    go false e = refl

-- the name of a class that typing reads
pub record IsReadClass (P : Program) (n : List ℕ) : Type 0 where
  pub name : IsReadName P n
  pub plain : is_array n ≡ false

module _ (cs : List ClassFile) (P : Program) (read : AreRead cs) (rows_are : P.types ≡ rows cs) (types : AreTypes P) where
  pub row_there : (t : ℕ) (r : Row) → slice_get (rows cs) t ≡ Some r → row_at P (suc t) ≡ Some r
  row_there t r e = ap (λ (rs : List Row). slice_get rs t) rows_are ∙ e

  -- a row that holds words, and is read by its name, is a class
  pub class_of_row : (r : Row) → IsAt (rows cs) r → (ds : List Declared) → r.holds ≡ Words ds → r.read ≡ r.name → is_class_name r.name ≡ true → IsClass P r ds
  class_of_row r h ds holds read named = by (subst (IsRowOf P r) holds (types.rows (suc h.0) r (row_there h.0 r h.1)))
    where
      by : ((r.lineage ≡ []) × (r.read ≡ [])) ⊎ IsClass P r ds → IsClass P r ds
      by (inl e) = absurd (filled r.name named (sym read ∙ e.1))
      by (inr c) = c

  read_class : (r : Row) (ds : List Declared) → IsClass P r ds → IsReadClass P r.name
  read_class r ds c = record { name = class_is_read P types r ds c; plain = plain_name r.name c.named }

  library_read : (m : List ℕ) → is_library m ≡ true → IsReadClass P m
  library_read m is =
      let o = of_library m is in
      let at : IsAt library_rows o.row = (o.place, o.there) in
      let p = item IsPlainRow library_rows o.row library_plain at in
      let name : o.row.name ≡ m = (bytes_eq-Decides o.row.name m).0 (found_passes (is_row m) library_rows o.row o.found) in
      subst (IsReadClass P) name (read_class o.row [] (class_of_row o.row (in_rows cs o.row (in_front_part library_rows (map (class_row cs) cs) o.row at)) [] p.empty p.read p.named))

  pub plain_class : (c : ClassFile) → IsAt cs c → is_interface c ≡ false → IsReadClass P (own_name c)
  plain_class c at is =
      let name : (class_row cs c).name ≡ own_name c = rw is refl in
      let named : is_class_name (class_row cs c).name ≡ true = ap is_class_name name ∙ class_names cs read at.0 c at.1 in
      let holds : (class_row cs c).holds ≡ Words (words_upward cs (own_name c)) = rw is refl in
      subst (IsReadClass P) name (read_class (class_row cs c) (words_upward cs (own_name c))
      (class_of_row (class_row cs c) (in_rows cs (class_row cs c) (in_back_part library_rows (map (class_row cs) cs) (class_row cs c) (into_map (class_row cs) cs c at))) (words_upward cs (own_name c)) holds (plain_row cs c is ∙ sym name) named))

  -- the name of a class, which isn't the context's
  pub class_reads : (m : List ℕ) → m ≢ context_class → IsReadClass P (class_read cs m)
  class_reads m apart = library (is_library m) refl
    where
      folder : (o : Option ClassFile) → class_named cs m ≡ o → (b : Bool) → holds_of (λ c. not (is_interface c)) o ≡ b → IsReadClass P (if b then m else object_class)
      folder o f false h = record { name = object_is_read P types; plain = refl }
      folder None f true h = cc
      folder (Some c) f true h =
          let a = named_as cs m c f in
          subst (IsReadClass P) a.1 (plain_class c a.0 (plain (is_interface c) h))
        where
          plain : (b : Bool) → not b ≡ true → b ≡ false
          plain true e = cc
          plain false e = refl

      context : (b : Bool) → bytes_eq m context_class ≡ b → IsReadClass P (if b || holds_of (λ c. not (is_interface c)) (class_named cs m) then m else object_class)
      context true e = absurd (apart ((bytes_eq-Decides m context_class).0 e))
      context false e = folder (class_named cs m) refl (holds_of (λ c. not (is_interface c)) (class_named cs m)) refl

      library : (b : Bool) → is_library m ≡ b → IsReadClass P (if b || (bytes_eq m context_class || holds_of (λ c. not (is_interface c)) (class_named cs m)) then m else object_class)
      library true e = library_read m e
      library false e = context (bytes_eq m context_class) refl

  -- ---- arrays

  -- the descriptor of an element: a letter, a class that isn't the context, or an array
  pub data IsDescriptor : List ℕ → Type 0 where
    a_letter : (x : ℕ) (no_bracket : (x == 91) ≡ false) (no_name : (x == 76) ≡ false) → IsDescriptor (x ∷ [])
    a_class : (m : List ℕ) (apart : m ≢ context_class) → IsDescriptor (76 ∷ m ++ codes ";")
    an_array : (d : List ℕ) (element : IsDescriptor d) → IsDescriptor (91 ∷ d)

  -- what is read of it is read so again, and is at most itself
  pub record AreElements (e : List ℕ) : Type 0 where
    pub itself : is_element_within P e e ≡ true
    pub again : element_read P e ≡ e

  pub not_array : (n : List ℕ) → IsReadClass P n → (is_class_above P n n ≡ true) × (typing.class_read P n ≡ n)
  not_array n r = (
    ap (λ b. if b then typing.is_array_within P n n else is_class_above P n n) (sym r.plain) ∙ r.name.itself,
    ap (λ b. if b then element_read P n else typing.class_read P n) (sym r.plain) ∙ r.name.read,
  )

  pub elements_are : (d : List ℕ) → IsDescriptor d → AreElements (descriptor_read cs d)
  elements_are d (a_letter x a b) =
      let laid : descriptor_read cs (x ∷ []) ≡ x ∷ [] = rw (a, b) refl in
      let own : bytes_eq (x ∷ []) (x ∷ []) ≡ true = (bytes_eq-Decides (x ∷ []) (x ∷ [])).1 refl in
      subst AreElements (sym laid) (record { itself = rw (a, b) own; again = rw (a, b) refl })
  elements_are d (a_class m apart) =
      let r = class_reads m apart in
      let n = class_read cs m in
      let p = not_array n r in
      let laid : descriptor_read cs (76 ∷ m ++ codes ";") ≡ 76 ∷ n ++ codes ";" = ap (λ t. codes "L" ++ class_read cs t ++ codes ";") (without_end m) in
      subst AreElements (sym laid) (record {
        itself = ap (λ b. b && is_class_above P (without_last (n ++ codes ";")) (without_last (n ++ codes ";"))) (ended n) ∙ ap (λ t. is_class_above P t t) (without_end n) ∙ p.0;
        again = ap (λ t. codes "L" ++ typing.class_read P t ++ codes ";") (without_end n) ∙ ap (λ t. codes "L" ++ t ++ codes ";") p.1;
      })
  elements_are d (an_array e i) = let r = elements_are e i in record { itself = r.itself; again = ap (λ (t : List ℕ). 91 ∷ t) r.again }

  pub array_reads : (d : List ℕ) → IsDescriptor d → IsReadName P (91 ∷ descriptor_read cs d)
  array_reads d i = let e = elements_are d i in record { itself = e.itself; top = refl; read = ap (λ (t : List ℕ). 91 ∷ t) e.again }
