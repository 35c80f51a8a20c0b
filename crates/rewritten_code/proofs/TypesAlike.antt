-- Types of a signature are read alike among classes where all names but the helper's are.
use Rattle.std.proofs.Common.{◌≡◌, ℕ, zero, suc, List, [], ◌∷◌, ◌++◌, replicate, Option, Some, None, Bool, true, false, refl, sym, ap, subst, ◌∙◌, append_assoc}
use Rattle.std.specs.Prelude.{bytes_eq, codes, ◌||◌, if◌then◌else◌, option_map, IfSome}
use Rattle.std.specs.List.{AllByRecursion, flat_map}
use Rattle.std.proofs.lemmas.Slice.Eq.{bytes_eq-Decides}
use Rattle.jmodel.specs.declared.class_file.FieldType.{FieldType}
use Rattle.jmodel.specs.declared.class_file.FieldType.TheVariants as field
use Rattle.jmodel.specs.declared.typing.VType.{VType}
use Rattle.jmodel.specs.format.ClassFile.{ClassFile}
use Rattle.jmodel.specs.format.Descriptor.{is_array_name, field_descriptor, IsElement, IsReferenceName, IsFieldType, Signature, result_descriptor, DescribesMethod}
use Rattle.jmodel.specs.format.DescriptorReading.{signature_of}
use Rattle.objects.specs.linking.Reserved.{has_part, is_reserved}
use Rattle.const_pool.proofs.Signatures.{signature_found}
use Rattle.objects.specs.semantics.Program.{Declared}
use Rattle.objects.specs.typing.TypeOrder.{place_types}
use Rattle.objects.specs.rewriting.Rewriting.{helper_class, as_result}
use Rattle.objects.specs.linking.Layout.{class_read, descriptor_read, name_read, word_kind, declared_as}
use Rattle.objects.specs.linking.Linking.{parameter_types, result_type}
use Rattle.objects.proofs.ArrayTypes.{without_end}
use Rattle.objects.proofs.LinkedTypes.{IsPart, part_in, found_part}
use Rattle.rewritten_names.specs.LeadsLaw.{IsOther}

-- ---- parts of texts

-- nothing behind a list changes it
append_none : (xs : List ℕ) → xs ++ [] ≡ xs
append_none [] = refl
append_none (x ∷ xs) = ap (λ (l : List ℕ). x ∷ l) (append_none xs)

-- a class's name is part of its descriptor
name_part : (m : List ℕ) → IsPart m (76 ∷ m ++ codes ";")
name_part m = record { before = 76 ∷ []; after = codes ";"; is = refl }

-- a list is part of one that ends with it
behind_part : (xs ys : List ℕ) → IsPart ys (xs ++ ys)
behind_part xs ys = record { before = xs; after = []; is = ap (λ (l : List ℕ). xs ++ l) (sym (append_none ys)) }

-- and of one that begins with it
front_part : (xs ys : List ℕ) → IsPart xs (xs ++ ys)
front_part xs ys = record { before = []; after = ys; is = refl }

-- a text with the helper's name is kept for rewriting
helper_reserved : (text : List ℕ) → IsPart helper_class text → is_reserved text ≡ true
helper_reserved text p =
    let front : has_part (codes "org/deuce/transaction/") text ≡ true =
    ap (has_part (codes "org/deuce/transaction/")) (p.is ∙ ap (λ (l : List ℕ). p.before ++ l) (append_assoc (codes "org/deuce/transaction/") (codes "ArrayHelper") p.after))
    ∙ found_part 111 (codes "rg/deuce/transaction/") p.before (codes "ArrayHelper" ++ p.after) in
    first_of_six (has_part (codes "org/deuce/transaction/") text) _ _ _ _ _ front
  where
    first_of_six : (a b c d e f : Bool) → a ≡ true → (a || b || c || d || e || f) ≡ true
    first_of_six true b c d e f h = refl
    first_of_six false b c d e f h = cc

-- a name that stands in a text that isn't kept is another than the helper's
other_in : (m text : List ℕ) → is_reserved text ≡ false → IsPart m text → IsOther m
other_in m text free part = go (bytes_eq helper_class m) refl
  where
    go : (b : Bool) → bytes_eq helper_class m ≡ b → b ≡ false
    go false e = refl
    go true e =
        let same : m ≡ helper_class = sym ((bytes_eq-Decides helper_class m).0 e) in
        let fall : true ≡ false = sym (helper_reserved text (subst (λ m. IsPart m text) same part)) ∙ free in
        cc

module _ (before after : List ClassFile) (reads : (name : List ℕ) → IsOther name → class_read after name ≡ class_read before name) where
  -- ---- types

  -- the text is a descriptor that is read alike
  abbrev IsAlike : List ℕ → Type 0
  IsAlike d = descriptor_read after d ≡ descriptor_read before d

  -- a type that is no array
  element_alike : (t : FieldType) → IsElement t → (text : List ℕ) → is_reserved text ≡ false → IsPart (field_descriptor t) text → IsAlike (field_descriptor t)
  element_alike field.Boolean i text free part = refl
  element_alike field.Byte i text free part = refl
  element_alike field.Char i text free part = refl
  element_alike field.Short i text free part = refl
  element_alike field.Int i text free part = refl
  element_alike field.Long i text free part = refl
  element_alike field.Float i text free part = refl
  element_alike field.Double i text free part = refl
  element_alike (field.Reference m) i text free part =
      let laid : field_descriptor (field.Reference m) ≡ 76 ∷ m ++ codes ";" = ap (λ b. if b then m else codes "L" ++ m ++ codes ";") i.no_array in
      let same = reads m (other_in m text free (part_in m (76 ∷ m ++ codes ";") text (name_part m) (subst (λ p. IsPart p text) laid part))) in
      let named : class_read after m ≡ class_read before m = same in
      let told : IsAlike (76 ∷ m ++ codes ";") = ap (λ n. codes "L" ++ class_read after n ++ codes ";") (without_end m) ∙ ap (λ n. codes "L" ++ n ++ codes ";") named ∙ sym (ap (λ n. codes "L" ++ class_read before n ++ codes ";") (without_end m)) in
      subst IsAlike (sym laid) told

  -- brackets before a descriptor
  array_alike : (k : ℕ) (d : List ℕ) → IsAlike d → IsAlike (replicate k 91 ++ d)
  array_alike zero d h = h
  array_alike (suc k) d h = ap (λ (l : List ℕ). 91 ∷ l) (array_alike k d h)

  -- the name of a class or of an array
  reference_alike : (b : Bool) (n : List ℕ) → is_array_name n ≡ b → IsReferenceName b n → (text : List ℕ) → is_reserved text ≡ false → IsPart (field_descriptor (field.Reference n)) text → name_read after n ≡ name_read before n
  reference_alike false n is c text free part =
      let laid : field_descriptor (field.Reference n) ≡ 76 ∷ n ++ codes ";" = ap (λ b. if b then n else codes "L" ++ n ++ codes ";") is in
      let same = reads n (other_in n text free (part_in n (76 ∷ n ++ codes ";") text (name_part n) (subst (λ p. IsPart p text) laid part))) in
      ap (λ b. if b then descriptor_read after n else class_read after n) is ∙ same ∙ sym (ap (λ b. if b then descriptor_read before n else class_read before n) is)
  reference_alike true n is a text free part =
      let laid : field_descriptor (field.Reference n) ≡ n = ap (λ b. if b then n else codes "L" ++ n ++ codes ";") is in
      let whole : IsPart n text = subst (λ p. IsPart p text) laid part in
      let core : IsPart (field_descriptor a.element) text = part_in (field_descriptor a.element) n text (subst (IsPart (field_descriptor a.element)) (sym a.is) (behind_part (replicate a.dimensions 91) (field_descriptor a.element))) whole in
      let alike : IsAlike n = subst IsAlike (sym a.is) (array_alike a.dimensions (field_descriptor a.element) (element_alike a.element a.is_element text free core)) in
      ap (λ b. if b then descriptor_read after n else class_read after n) is ∙ alike ∙ sym (ap (λ b. if b then descriptor_read before n else class_read before n) is)

  -- each type
  type_alike : (t : FieldType) → IsFieldType t → (text : List ℕ) → is_reserved text ≡ false → IsPart (field_descriptor t) text → declared_as after t ≡ declared_as before t
  type_alike field.Boolean i text free part = refl
  type_alike field.Byte i text free part = refl
  type_alike field.Char i text free part = refl
  type_alike field.Short i text free part = refl
  type_alike field.Int i text free part = refl
  type_alike field.Long i text free part = refl
  type_alike field.Float i text free part = refl
  type_alike field.Double i text free part = refl
  type_alike (field.Reference n) i text free part = ap (λ (m : List ℕ). record { word = word_kind (field.Reference n); class = m }) (reference_alike (is_array_name n) n refl i text free part)

  -- ---- signatures

  -- the types of parameters
  all_alike : (ts : List FieldType) → AllByRecursion IsFieldType ts → (text : List ℕ) → is_reserved text ≡ false → IsPart (flat_map field_descriptor ts) text
      → flat_map (λ (t : FieldType). place_types (declared_as after t)) ts ≡ flat_map (λ (t : FieldType). place_types (declared_as before t)) ts
  all_alike [] fits text free part = refl
  all_alike (t ∷ ts) fits text free part =
      let one = type_alike t fits.0 text free (part_in (field_descriptor t) (flat_map field_descriptor (t ∷ ts)) text (front_part (field_descriptor t) (flat_map field_descriptor ts)) part) in
      let others = all_alike ts fits.1 text free (part_in (flat_map field_descriptor ts) (flat_map field_descriptor (t ∷ ts)) text (behind_part (field_descriptor t) (flat_map field_descriptor ts)) part) in
      ap (λ (x : Declared). place_types x ++ flat_map (λ (t : FieldType). place_types (declared_as after t)) ts) one ∙ ap (λ (l : List VType). place_types (declared_as before t) ++ l) others

  -- the types that a descriptor says, which isn't kept for rewriting
  pub record AreAlike (g : Signature) : Type 0 where
    pub takes : parameter_types after g ≡ parameter_types before g
    pub gives : result_type after g ≡ result_type before g

  -- both of a signature
  pub signature_alike : (text : List ℕ) (g : Signature) → signature_of text ≡ Some g → is_reserved text ≡ false → AreAlike g
  signature_alike text g e free = record { takes = all_alike g.parameters d.signature.parameters text free takes_part; gives = result g.result d.signature.result (λ t s. gives_part t s) }
    where
      d : DescribesMethod text g
      d = signature_found text g e

      takes_part : IsPart (flat_map field_descriptor g.parameters) text
      takes_part = record { before = codes "("; after = codes ")" ++ result_descriptor g.result; is = d.is ∙ ap (λ (l : List ℕ). 40 ∷ l) (append_assoc (flat_map field_descriptor g.parameters) (codes ")") (result_descriptor g.result)) }

      gives_part : (t : FieldType) → g.result ≡ Some t → IsPart (field_descriptor t) text
      gives_part t s =
          let last : IsPart (result_descriptor g.result) text = record { before = codes "(" ++ flat_map field_descriptor g.parameters ++ codes ")"; after = []; is = d.is ∙ ap (λ (l : List ℕ). (codes "(" ++ flat_map field_descriptor g.parameters ++ codes ")") ++ l) (sym (append_none (result_descriptor g.result))) } in
          subst (λ (o : Option FieldType). IsPart (result_descriptor o) text) s last

      result : (o : Option FieldType) → IfSome o IsFieldType → ((t : FieldType) → o ≡ Some t → IsPart (field_descriptor t) text)
          → option_map (λ (t : FieldType). as_result (declared_as after t)) o ≡ option_map (λ (t : FieldType). as_result (declared_as before t)) o
      result None fits part = refl
      result (Some t) fits part = ap (λ (x : Declared). Some (as_result x)) (type_alike t fits text free (part t refl))
