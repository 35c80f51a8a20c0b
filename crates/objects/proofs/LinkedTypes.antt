-- The types of fields, parameters and results of linked classes are as typing reads them.
use Rattle.std.proofs.Common.{◌≡◌, ◌≢◌, ℕ, List, [], ◌∷◌, ◌++◌, replicate, Option, Some, None, Bool, true, false, not, nat_eq, refl, sym, ap, subst, ◌∙◌, append_assoc}
use Rattle.std.specs.Prelude.{find, bytes_eq, codes, ◌==◌, ◌||◌, if◌then◌else◌, option_map, IfSome}
use Rattle.std.specs.List.{AllByRecursion, flat_map, starts_with}
use Rattle.std.proofs.lemmas.Slice.Eq.{bytes_eq-Decides}
use Rattle.std.proofs.lemmas.Bool.Decides.{Decides-eqb}
use Rattle.jmodel.specs.declared.class_file.FieldType.{FieldType}
use Rattle.jmodel.specs.declared.class_file.FieldType.TheVariants as field
use Rattle.jmodel.specs.format.ClassFile.{ClassFile}
use Rattle.jmodel.specs.format.Descriptor.{is_array_name, field_descriptor, IsClassName, IsElement as IsElementType, IsReferenceName, IsFieldType, Signature, result_descriptor, DescribesMethod, IsFieldDescriptor}
use Rattle.jmodel.specs.format.DescriptorReading.{type_of, signature_of}
use Rattle.objects.specs.linking.Reserved.{has_part, is_reserved}
use Rattle.objects.specs.linking.Members.{own_name}
use Rattle.objects.specs.linking.Superclasses.{class_named}
use Rattle.const_pool.proofs.Types.{of_type}
use Rattle.const_pool.proofs.Signatures.{signature_found}
use Rattle.objects.specs.declared.op.WordType.{WordType}
use Rattle.objects.specs.declared.op.WordType.TheVariants as word
use Rattle.objects.specs.linking.LibraryClasses.{library_rows}
use Rattle.objects.specs.linking.LibraryMethods.{is_library}
use Rattle.objects.specs.semantics.Program.{Row, Program}
use Rattle.objects.specs.typing.TypeOrder.{object_class, context_class, is_array, is_class_name, read_in, place_types}
use Rattle.objects.specs.typing.TypeOrder as typing
use Rattle.objects.specs.typing.Typing.{result_types}
use Rattle.objects.specs.rewriting.Rewriting.{as_result}
use Rattle.objects.specs.linking.Resolution.{is_interface, holds_of}
use Rattle.objects.specs.linking.ClassesFaults.{supers_fault}
use Rattle.objects.specs.linking.Layout.{rows, class_row, class_read, descriptor_read, name_read, word_kind, referred, declared_as, made_arrays}
use Rattle.objects.specs.typing.Source.{AreTypes, IsReadName, IsReadType, IsReadWord}
use Rattle.objects.specs.laws.LinkingLaw.{AreRead}
use Rattle.objects.proofs.Items.{IsAt, item, found}
use Rattle.objects.proofs.AsRead.{class_names, no_context}
use Rattle.objects.proofs.ClassTypes.{new_to_library}
use Rattle.objects.proofs.MadeArrays.{IsMade}
use Rattle.objects.proofs.DeclaredMembers.{by_own_name, same_class}
use Rattle.objects.proofs.ReadNames.{RowOf, of_library_row, of_class_row, of_base, of_array_row, row_kind, plain_class, class_reads, array_reads}
use Rattle.objects.proofs.ClassOps.{read_array, array_named}

-- ---- parts of texts

pub record IsPart (part text : List ℕ) : Type 0 where
  pub before : List ℕ
  pub after : List ℕ
  pub is : text ≡ before ++ (part ++ after)

append_none : (xs : List ℕ) → xs ++ [] ≡ xs
append_none [] = refl
append_none (x ∷ xs) = ap (λ (l : List ℕ). x ∷ l) (append_none xs)

pub part_whole : (p : List ℕ) → IsPart p p
part_whole p = record { before = []; after = []; is = sym (append_none p) }

pub part_in : (p q r : List ℕ) → IsPart p q → IsPart q r → IsPart p r
part_in p q r a b = record {
  before = b.before ++ a.before;
  after = a.after ++ b.after;
  is = b.is ∙ ap (λ (l : List ℕ). b.before ++ (l ++ b.after)) a.is ∙ ap (λ (l : List ℕ). b.before ++ l) (append_assoc a.before (p ++ a.after) b.after ∙ ap (λ (l : List ℕ). a.before ++ l) (append_assoc p a.after b.after))
      ∙ sym (append_assoc b.before a.before (p ++ (a.after ++ b.after)));
}

begins : (p r : List ℕ) → starts_with nat_eq (p ++ r) p ≡ true
begins [] r = refl
begins (x ∷ p) r = let own : nat_eq x x ≡ true = (Decides-eqb x x).1 refl in rw own (begins p r)

or_right : (a b : Bool) → b ≡ true → (a || b) ≡ true
or_right true b e = refl
or_right false b e = e

-- a part that isn't empty is found
pub found_part : (x : ℕ) (p before after : List ℕ) → has_part (x ∷ p) (before ++ ((x ∷ p) ++ after)) ≡ true
found_part x p [] after = ap (λ b. b || has_part (x ∷ p) (p ++ after)) (begins (x ∷ p) after)
found_part x p (y ∷ before) after = or_right (starts_with nat_eq (y ∷ (before ++ ((x ∷ p) ++ after))) (x ∷ p)) _ (found_part x p before after)

or_left : (a b : Bool) → a ≡ true → (a || b) ≡ true
or_left true b e = refl
or_left false b e = cc

-- a text with the name of the context is kept for rewriting
pub context_reserved : (text : List ℕ) → IsPart context_class text → is_reserved text ≡ true
context_reserved text p =
    let front : has_part (codes "org/deuce/transaction/") text ≡ true =
    ap (has_part (codes "org/deuce/transaction/")) (p.is ∙ ap (λ (l : List ℕ). p.before ++ l) (append_assoc (codes "org/deuce/transaction/") (codes "Context") p.after)) ∙ found_part 111 (codes "rg/deuce/transaction/") p.before (codes "Context" ++ p.after) in
    first_of_six (has_part (codes "org/deuce/transaction/") text) _ _ _ _ _ front
  where
    first_of_six : (a b c d e f : Bool) → a ≡ true → (a || b || c || d || e || f) ≡ true
    first_of_six true b c d e f h = refl
    first_of_six false b c d e f h = cc

name_part : (m : List ℕ) → IsPart m (76 ∷ m ++ codes ";")
name_part m = record { before = 76 ∷ []; after = codes ";"; is = refl }

behind_part : (xs ys : List ℕ) → IsPart ys (xs ++ ys)
behind_part xs ys = record { before = xs; after = []; is = ap (λ (l : List ℕ). xs ++ l) (sym (append_none ys)) }

front_part : (xs ys : List ℕ) → IsPart xs (xs ++ ys)
front_part xs ys = record { before = []; after = ys; is = refl }

library_named : AllByRecursion (λ (r : Row). is_library r.name ≡ true) library_rows
library_named = (refl, (refl, (refl, (refl, (refl, (refl, (refl, (refl, (refl, (refl, (refl, (refl, (refl, (refl, (refl, (refl, (refl, (refl, (refl, (refl, tt))))))))))))))))))))

module _ (cs : List ClassFile) (P : Program) (read : AreRead cs) (rows_are : P.types ≡ rows cs) (types : AreTypes P) where
  -- ---- types

  -- a name that stands in a text of a class isn't the context's
  apart_in : (m text : List ℕ) → is_reserved text ≡ false → IsPart m text → m ≢ context_class
  apart_in m text free part same = let fall : true ≡ false = sym (context_reserved text (subst (λ m. IsPart m text) same part)) ∙ free in cc

  reference_reads : (b : Bool) (n text : List ℕ) → is_array_name n ≡ b → IsReferenceName b n → is_reserved text ≡ false → IsPart (field_descriptor (field.Reference n)) text → IsReadName P (name_read cs n)
  reference_reads false n text is c free part =
      let laid : field_descriptor (field.Reference n) ≡ 76 ∷ n ++ codes ";" = ap (λ b. if b then n else codes "L" ++ n ++ codes ";") is in
      let apart = apart_in n text free (part_in n (76 ∷ n ++ codes ";") text (name_part n) (subst (λ p. IsPart p text) laid part)) in
      let same : name_read cs n ≡ class_read cs n = ap (λ b. if b then descriptor_read cs n else class_read cs n) is in
      subst (IsReadName P) (sym same) (class_reads cs P read rows_are types n apart).name
  reference_reads true n text is a free part =
      let laid : field_descriptor (field.Reference n) ≡ n = ap (λ b. if b then n else codes "L" ++ n ++ codes ";") is in
      let whole : IsPart n text = subst (λ p. IsPart p text) laid part in
      let r = read_array cs P read rows_are types n a (λ m same. apart_in m text free (part_in m n text (inner m same) whole)) in
      let reads : name_read cs n ≡ 91 ∷ descriptor_read cs r.element = ap (λ b. if b then descriptor_read cs n else class_read cs n) is ∙ ap (descriptor_read cs) r.is in
      subst (IsReadName P) (sym reads) (array_reads cs P read rows_are types r.element r.described)
    where
      inner : (m : List ℕ) → a.element ≡ field.Reference m → IsPart m n
      inner m same =
          let c : IsClassName m = subst IsElementType same a.is_element in
          let text_is : field_descriptor a.element ≡ 76 ∷ m ++ codes ";" = ap field_descriptor same ∙ ap (λ b. if b then m else codes "L" ++ m ++ codes ";") c.no_array in
          subst (IsPart m) (sym (a.is ∙ ap (λ (l : List ℕ). replicate a.dimensions 91 ++ l) text_is)) (part_in m (76 ∷ m ++ codes ";") _ (name_part m) (behind_part (replicate a.dimensions 91) (76 ∷ m ++ codes ";")))

  pub word_reads : (t : FieldType) → IsFieldType t → (text : List ℕ) → is_reserved text ≡ false → IsPart (field_descriptor t) text → IsReadWord P (word_kind t) (referred cs t)
  word_reads field.Boolean i text free part = tt
  word_reads field.Byte i text free part = tt
  word_reads field.Char i text free part = tt
  word_reads field.Short i text free part = tt
  word_reads field.Int i text free part = tt
  word_reads field.Long i text free part = tt
  word_reads field.Float i text free part = tt
  word_reads field.Double i text free part = tt
  word_reads (field.Reference n) i text free part = reference_reads (is_array_name n) n text refl i free part

  -- of a field's descriptor
  pub field_reads : (text : List ℕ) → IsFieldDescriptor text → is_reserved text ≡ false → IsReadWord P (declared_as cs (type_of text)).word (declared_as cs (type_of text)).class
  field_reads text d free =
      let same : type_of text ≡ d.0 = ap type_of d.1.is ∙ of_type d.0 d.1.type in
      subst (λ (t : FieldType). IsReadWord P (word_kind t) (referred cs t)) (sym same) (word_reads d.0 d.1.type text free (subst (IsPart (field_descriptor d.0)) (sym d.1.is) (part_whole (field_descriptor d.0))))

  -- ---- parameters and results

  types_of_word : (w : WordType) (n : List ℕ) → IsReadWord P w n → AllByRecursion (IsReadType P) (place_types (record { word = w; class = n }))
  types_of_word word.Boolean n r = (tt, tt)
  types_of_word word.Byte n r = (tt, tt)
  types_of_word word.Char n r = (tt, tt)
  types_of_word word.Short n r = (tt, tt)
  types_of_word word.Int n r = (tt, tt)
  types_of_word word.Long n r = (tt, (tt, tt))
  types_of_word word.Reference n r = (r, tt)

  result_of_word : (w : WordType) (n : List ℕ) → IsReadWord P w n → AllByRecursion (IsReadType P) (result_types (Some (as_result (record { word = w; class = n }))))
  result_of_word word.Boolean n r = (tt, tt)
  result_of_word word.Byte n r = (tt, tt)
  result_of_word word.Char n r = (tt, tt)
  result_of_word word.Short n r = (tt, tt)
  result_of_word word.Int n r = (tt, tt)
  result_of_word word.Long n r = (tt, (tt, tt))
  result_of_word word.Reference n r = (r, tt)

  both_all : {A : Type 0} (Rule : A → Type 0) (xs ys : List A) → AllByRecursion Rule xs → AllByRecursion Rule ys → AllByRecursion Rule (xs ++ ys)
  both_all Rule [] ys a b = b
  both_all Rule (x ∷ xs) ys a b = (a.0, both_all Rule xs ys a.1 b)

  all_parameters : (ts : List FieldType) → AllByRecursion IsFieldType ts → (text : List ℕ) → is_reserved text ≡ false → IsPart (flat_map field_descriptor ts) text
      → AllByRecursion (IsReadType P) (flat_map (λ (t : FieldType). place_types (declared_as cs t)) ts)
  all_parameters [] fits text free part = tt
  all_parameters (t ∷ ts) fits text free part =
      both_all (IsReadType P) (place_types (declared_as cs t)) _
      (types_of_word (word_kind t) (referred cs t) (word_reads t fits.0 text free (part_in (field_descriptor t) (flat_map field_descriptor (t ∷ ts)) text (front_part (field_descriptor t) (flat_map field_descriptor ts)) part)))
      (all_parameters ts fits.1 text free (part_in (flat_map field_descriptor ts) (flat_map field_descriptor (t ∷ ts)) text (behind_part (field_descriptor t) (flat_map field_descriptor ts)) part))

  -- of a method's descriptor
  pub record AreReadIn (g : Signature) : Type 0 where
    pub takes : AllByRecursion (IsReadType P) (flat_map (λ (t : FieldType). place_types (declared_as cs t)) g.parameters)
    pub gives : AllByRecursion (IsReadType P) (result_types (option_map (λ (t : FieldType). as_result (declared_as cs t)) g.result))

  pub signature_reads : (text : List ℕ) (g : Signature) → signature_of text ≡ Some g → is_reserved text ≡ false → AreReadIn g
  signature_reads text g e free = record { takes = all_parameters g.parameters d.signature.parameters text free takes_part; gives = result g.result d.signature.result (λ t s. gives_part t s) }
    where
      d : DescribesMethod text g
      d = signature_found text g e

      takes_part : IsPart (flat_map field_descriptor g.parameters) text
      takes_part = record { before = codes "("; after = codes ")" ++ result_descriptor g.result; is = d.is ∙ ap (λ (l : List ℕ). 40 ∷ l) (append_assoc (flat_map field_descriptor g.parameters) (codes ")") (result_descriptor g.result)) }

      gives_part : (t : FieldType) → g.result ≡ Some t → IsPart (field_descriptor t) text
      gives_part t s =
          let last : IsPart (result_descriptor g.result) text = record { before = codes "(" ++ flat_map field_descriptor g.parameters ++ codes ")"; after = []; is = d.is ∙ ap (λ (l : List ℕ). (codes "(" ++ flat_map field_descriptor g.parameters ++ codes ")") ++ l) (sym (append_none (result_descriptor g.result))) } in
          subst (λ (o : Option FieldType). IsPart (result_descriptor o) text) s last

      result : (o : Option FieldType) → IfSome o IsFieldType → ((t : FieldType) → o ≡ Some t → IsPart (field_descriptor t) text) → AllByRecursion (IsReadType P) (result_types (option_map (λ (t : FieldType). as_result (declared_as cs t)) o))
      result None fits part = tt
      result (Some t) fits part = result_of_word (word_kind t) (referred cs t) (word_reads t fits text free (part t refl))

  -- ---- the class of a method's object

  own_apart : (c : ClassFile) → IsAt cs c → own_name c ≢ context_class
  own_apart c at same = let fall : Some c ≡ None = sym (by_own_name cs read c at) ∙ ap (class_named cs) same ∙ no_context cs read in cc

  pub receiver_reads : (c : ClassFile) → IsAt cs c → IsReadName P (class_read cs (own_name c))
  receiver_reads c at = (class_reads cs P read rows_are types (own_name c) (own_apart c at)).name

  -- an interface has no row of its name
  module _ (supers : supers_fault cs ≡ None) (made : AllByRecursion (IsMade cs) (made_arrays cs)) where
    unread : (c : ClassFile) → IsAt cs c → is_interface c ≡ true → typing.class_read P (own_name c) ≡ object_class
    unread c at is = ap (λ (rs : List Row). read_in (find (λ (r : Row). bytes_eq r.name (own_name c)) rs)) rows_are ∙ go (find (λ (r : Row). bytes_eq r.name (own_name c)) (rows cs)) refl
      where
        own_class : is_class_name (own_name c) ≡ true
        own_class = class_names cs read at.0 c at.1

        of_class : (r : Row) (d : ClassFile) → IsAt cs d → r.name ≡ own_name c → (b : Bool) → is_interface d ≡ b → class_row cs d ≡ r → ⊥
        of_class r d h name true i same =
            let empty : (class_row cs d).name ≡ [] = rw i refl in
            let none : own_name c ≡ [] = sym name ∙ ap (λ (r : Row). r.name) (sym same) ∙ empty in
            let fall : true ≡ false = sym own_class ∙ ap is_class_name none in
            cc
        of_class r d h name false i same =
            let named : (class_row cs d).name ≡ own_name d = rw i refl in
            let one : d ≡ c = same_class cs read d c h at (sym named ∙ ap (λ (r : Row). r.name) same ∙ name) in
            let fall : false ≡ true = sym i ∙ ap is_interface one ∙ is in
            cc

        none_such : (r : Row) → r.name ≡ own_name c → RowOf cs r → ⊥
        none_such r name (of_library_row h) =
            let in_library : is_library r.name ≡ true = item (λ (r : Row). is_library r.name ≡ true) library_rows r library_named h in
            let fall : true ≡ false = sym in_library ∙ ap is_library name ∙ new_to_library cs supers read.doubled at.0 c at.1 in
            cc
        none_such r name (of_class_row d h same) = of_class r d h name (is_interface d) refl same
        none_such r name (of_base words same) =
            let none : own_name c ≡ [] = sym name ∙ ap (λ (r : Row). r.name) (sym same) in
            let fall : true ≡ false = sym own_class ∙ ap is_class_name none in
            cc
        none_such r name (of_array_row n h same) =
            let n_is : n ≡ own_name c = ap (λ (r : Row). r.name) same ∙ name in
            array_class n (array_named cs P read rows_are types made n h) (ap is_class_name n_is ∙ own_class)
          where
            array_class : (n : List ℕ) → is_array_name n ≡ true → is_class_name n ≡ true → ⊥
            array_class [] a b = cc
            array_class (x ∷ xs) a b = let fall : false ≡ true = sym (ap not a) ∙ b in cc

        go : (o : Option Row) → find (λ (r : Row). bytes_eq r.name (own_name c)) (rows cs) ≡ o → read_in o ≡ object_class
        go None f = refl
        go (Some r) f =
            let x = found (λ (r : Row). bytes_eq r.name (own_name c)) (rows cs) r f in
            absurd (none_such r ((bytes_eq-Decides r.name (own_name c)).0 x.1) (row_kind cs r x.0))

    -- a class's own name is read as Layout reads it
    pub own_read : (c : ClassFile) → IsAt cs c → typing.name_read P (own_name c) ≡ class_read cs (own_name c)
    own_read c at = plain_is ∙ by (is_interface c) refl
      where
        not_array : (n : List ℕ) → is_class_name n ≡ true → is_array n ≡ false
        not_array [] e = refl
        not_array (x ∷ xs) e = go (x == 91) e
          where
            go : (b : Bool) → not b ≡ true → b ≡ false
            go true e = cc
            go false e = refl

        plain_is : typing.name_read P (own_name c) ≡ typing.class_read P (own_name c)
        plain_is = ap (λ b. if b then typing.element_read P (own_name c) else typing.class_read P (own_name c)) (not_array (own_name c) (class_names cs read at.0 c at.1))

        new : is_library (own_name c) ≡ false
        new = new_to_library cs supers read.doubled at.0 c at.1

        no_context_name : (b : Bool) → bytes_eq (own_name c) context_class ≡ b → b ≡ false
        no_context_name true e = absurd (own_apart c at ((bytes_eq-Decides (own_name c) context_class).0 e))
        no_context_name false e = refl

        laid : (b : Bool) → is_interface c ≡ b → class_read cs (own_name c) ≡ (if not b then own_name c else object_class)
        laid b i =
            let context = no_context_name (bytes_eq (own_name c) context_class) refl in
            let here = by_own_name cs read c at in
            ap (λ a. if a || (bytes_eq (own_name c) context_class || holds_of (λ c. not (is_interface c)) (class_named cs (own_name c))) then own_name c else object_class) new
            ∙ ap (λ a. if a || holds_of (λ c. not (is_interface c)) (class_named cs (own_name c)) then own_name c else object_class) context
            ∙ ap (λ (o : Option ClassFile). if holds_of (λ c. not (is_interface c)) o then own_name c else object_class) here ∙ ap (λ a. if not a then own_name c else object_class) i

        by : (b : Bool) → is_interface c ≡ b → typing.class_read P (own_name c) ≡ class_read cs (own_name c)
        by true i = unread c at i ∙ sym (laid true i)
        by false i = sym plain_is ∙ (plain_class cs P read rows_are types c at i).name.read ∙ sym (laid false i)
