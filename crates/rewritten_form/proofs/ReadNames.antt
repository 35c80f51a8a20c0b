-- Names of types as typing reads them may stand in a class file.
use Rattle.std.proofs.Common.{◌≡◌, ℕ, zero, suc, Bool, true, false, ◌||◌, List, [], ◌∷◌, ◌++◌, replicate, refl, sym, ap, ◌∙◌}
use Rattle.std.specs.Prelude.{codes, ◌==◌, bytes_eq, not, if◌then◌else◌}
use Rattle.jmodel.specs.declared.class_file.FieldType.{FieldType}
use Rattle.jmodel.specs.declared.class_file.FieldType.TheVariants as types
use Rattle.jmodel.specs.format.ClassFile.{ClassFile}
use Rattle.jmodel.specs.format.Descriptor.{field_descriptor, is_array_name, IsClassName, IsElement, IsArrayName, IsReferenceName}
use Rattle.objects.specs.linking.Superclasses.{class_named}
use Rattle.objects.specs.typing.TypeOrder.{object_class, context_class, is_array, without_last}
use Rattle.objects.specs.linking.LibraryMethods.{is_library}
use Rattle.objects.specs.linking.Resolution.{is_interface, holds_of}
use Rattle.objects.specs.linking.Layout.{class_read, descriptor_read, name_read}
use Rattle.rewritten_form.proofs.Adding.{IsText, IsClassText}
use Rattle.rewritten_form.proofs.Texts.{text_good, text_append, object_lawful}
use Rattle.rewritten_form.proofs.ContextTypes.{unlike}

pub same_array : (n : List ℕ) → is_array n ≡ is_array_name n
same_array [] = refl
same_array (c ∷ cs) = refl

pub object_named : IsClassName object_class
object_named = record { is_there = λ e. absurd cc; no_end = unlike object_class refl; no_array = refl }

-- a class's name is one that may stand in a Class
pub class_lawful : (n : List ℕ) → IsText n → IsClassName n → IsClassText n
class_lawful n t h = let a = h.no_array in record { text = t; named = rw a tt }

pub array_lawful : (n : List ℕ) → IsText n → is_array_name n ≡ true → IsArrayName n → IsClassText n
array_lawful n t a h = record { text = t; named = rw a h }

-- ---- without the semicolon

last_off : (n : List ℕ) → without_last (n ++ codes ";") ≡ n
last_off [] = refl
last_off (c ∷ []) = refl
last_off (c ∷ d ∷ n) = ap (λ (l : List ℕ). c ∷ l) (last_off (d ∷ n))

text_off : (d : List ℕ) → IsText d → IsText (without_last d)
text_off [] h = tt
text_off (c ∷ []) h = tt
text_off (c ∷ d ∷ n) h = (h.0, text_off (d ∷ n) h.1)

-- what may stand before a semicolon
pub text_front : (xs ys : List ℕ) → IsText (xs ++ ys) → IsText xs
text_front [] ys h = tt
text_front (x ∷ xs) ys h = (h.0, text_front xs ys h.1)

module _ (cs : List ClassFile) where
  -- a class as typing reads it
  pub class_either : (Q : List ℕ → Type 0) (n : List ℕ) → Q n → Q object_class → Q (class_read cs n)
  class_either Q n a b = go (is_library n || (bytes_eq n context_class || holds_of (λ c. not (is_interface c)) (class_named cs n)))
    where
      go : (x : Bool) → Q (if x then n else object_class)
      go true = a
      go false = b

  pub class_text : (n : List ℕ) → IsText n → IsText (class_read cs n)
  class_text n h = class_either IsText n h object_lawful.text

  pub descriptor_text : (d : List ℕ) → IsText d → IsText (descriptor_read cs d)
  descriptor_text [] h = tt
  descriptor_text (c ∷ d) h = go (c == 91) (c == 76) (descriptor_text d h.1)
    where
      go : (a b : Bool) → IsText (descriptor_read cs d) → IsText (if a then c ∷ descriptor_read cs d else (if b then codes "L" ++ class_read cs (without_last d) ++ codes ";" else c ∷ d))
      go true b rest = (h.0, rest)
      go false true rest = text_append (codes "L" ++ class_read cs (without_last d)) (codes ";") (text_append (codes "L") (class_read cs (without_last d)) (text_good (codes "L") refl) (class_text (without_last d) (text_off d h.1))) (text_good (codes ";") refl)
      go false false rest = h

  -- an element as typing reads it is an element
  record IsElementRead (e : FieldType) : Type 0 where
    type : FieldType
    element : IsElement type
    is : descriptor_read cs (field_descriptor e) ≡ field_descriptor type

  class_descriptor : (n : List ℕ) → IsClassName n → field_descriptor (types.Reference n) ≡ 76 ∷ (n ++ codes ";")
  class_descriptor n h = let a = h.no_array in rw a refl

  element_read : (e : FieldType) → IsElement e → IsElementRead e
  element_read (types.Reference n) h =
      let here = class_descriptor n h in
      class_either (λ m. descriptor_read cs (field_descriptor (types.Reference n)) ≡ 76 ∷ (m ++ codes ";") → IsElementRead (types.Reference n)) n
      (λ e. record { type = types.Reference n; element = h; is = e ∙ sym here })
      (λ e. record { type = types.Reference object_class; element = object_named; is = e ∙ sym (class_descriptor object_class object_named) })
      (ap (descriptor_read cs) here ∙ ap (λ (l : List ℕ). 76 ∷ (class_read cs l ++ codes ";")) (last_off n))
  element_read types.Boolean h = record { type = types.Boolean; element = tt; is = refl }
  element_read types.Byte h = record { type = types.Byte; element = tt; is = refl }
  element_read types.Char h = record { type = types.Char; element = tt; is = refl }
  element_read types.Short h = record { type = types.Short; element = tt; is = refl }
  element_read types.Int h = record { type = types.Int; element = tt; is = refl }
  element_read types.Long h = record { type = types.Long; element = tt; is = refl }
  element_read types.Float h = record { type = types.Float; element = tt; is = refl }
  element_read types.Double h = record { type = types.Double; element = tt; is = refl }

  brackets_read : (n : ℕ) (d : List ℕ) → descriptor_read cs (replicate n 91 ++ d) ≡ replicate n 91 ++ descriptor_read cs d
  brackets_read zero d = refl
  brackets_read (suc n) d = ap (λ (l : List ℕ). 91 ∷ l) (brackets_read n d)

  -- an array as typing reads it
  pub array_read : (n : List ℕ) → IsArrayName n → IsArrayName (descriptor_read cs n)
  array_read n h =
      let e = element_read h.element h.is_element in
      record { dimensions = h.dimensions; element = e.type; some = h.some; few = h.few; is_element = e.element; is = ap (descriptor_read cs) h.is ∙ brackets_read h.dimensions (field_descriptor h.element) ∙ ap (λ (l : List ℕ). replicate h.dimensions 91 ++ l) e.is }

  starts : (n : List ℕ) → is_array n ≡ true → is_array_name (descriptor_read cs n) ≡ true
  starts [] h = cc
  starts (c ∷ n) h = let r = h in rw r h

  -- a type's name as typing reads it
  pub name_lawful : (n : List ℕ) → IsText n → IsReferenceName (is_array_name n) n → IsClassText (name_read cs n)
  name_lawful n t h = go (is_array n) refl
    where
      go : (b : Bool) → is_array n ≡ b → IsClassText (if b then descriptor_read cs n else class_read cs n)
      go true q =
          let a = sym (same_array n) ∙ q in
          let array : IsArrayName n = (rw a at h) in
          array_lawful (descriptor_read cs n) (descriptor_text n t) (starts n q) (array_read n array)
      go false q =
          let a = sym (same_array n) ∙ q in
          let class : IsClassName n = (rw a at h) in
          class_either IsClassText n (class_lawful n t class) object_lawful

-- the text of a reference type's name
pub reference_text : (n : List ℕ) → IsReferenceName (is_array_name n) n → IsText (field_descriptor (types.Reference n)) → IsText n
reference_text n h t = go (is_array_name n) refl h t
  where
    go : (b : Bool) → is_array_name n ≡ b → IsReferenceName b n → IsText (if b then n else codes "L" ++ n ++ codes ";") → IsText n
    go true q x y = y
    go false q x y = text_front n (codes ";") y.1
