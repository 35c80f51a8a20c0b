-- The descriptors of accessors.
use Rattle.std.proofs.Common.{◌≡◌, ℕ, ◌+◌, ◌≤◌, List, [], ◌∷◌, ◌++◌, length, Bool, true, false, Option, Some, None, refl, sym, ap, ◌∙◌, arith, append_assoc, length-append, eq-eqb, ◌<◌}
use Rattle.std.specs.Prelude.{codes, ◌≢◌, ◌==◌, not}
use Rattle.std.specs.List.{flat_map, AllByRecursion, list_all}
use Rattle.std.proofs.lemmas.List.Concat.{flat_map-cons}
use Rattle.jmodel.specs.declared.class_file.FieldType.{FieldType}
use Rattle.jmodel.specs.declared.class_file.FieldType.TheVariants as types
use Rattle.jmodel.specs.declared.typing.VType.{VType}
use Rattle.jmodel.specs.declared.typing.VType.TheVariants as type
use Rattle.jmodel.specs.format.ClassFile.{ClassFile}
use Rattle.jmodel.specs.format.Descriptor.{field_descriptor, is_array_name, places, places_of, Signature, IsClassName, IsFieldType, DescribesField, DescribesMethod}
use Rattle.const_pool.proofs.Signatures.{signature_again}
use Rattle.objects.specs.declared.op.WordType.{WordType}
use Rattle.objects.specs.declared.op.WordType.TheVariants as word
use Rattle.objects.specs.semantics.Program.{Declared, Field}
use Rattle.objects.specs.typing.TypeOrder.{context_class, is_array, place_types}
use Rattle.objects.specs.linking.Decoding.{Symbols}
use Rattle.objects.specs.linking.Layout.{class_read, referred, declared_as}
use Rattle.objects.specs.rewriting.Rewriting.{context_type, context, as_result, word_places}
use Rattle.member_code.proofs.Added.{two_true}
use Rattle.member_code.proofs.Texts.{differ}
use Rattle.member_code.proofs.Coded.{IsTyped}
use Rattle.field_members.specs.Names.{receiver_type, getter_named, setter_named}
use Rattle.field_members.specs.Accessors.{receiver_places}
use Rattle.field_members.specs.AccessorsLaw.{IsKnown}

-- ---- the class of the context

unlike : (cs : List ℕ) → list_all (λ c. not (c == 59)) cs ≡ true → AllByRecursion (λ c. c ≢ 59) cs
unlike [] h = tt
unlike (c ∷ cs) h = let f = two_true (not (c == 59)) (list_all (λ c. not (c == 59)) cs) h in (no (c == 59) refl f.0, unlike cs f.1)
  where
    no : (b : Bool) → (c == 59) ≡ b → not b ≡ true → c ≢ 59
    no true q h = cc
    no false q h = λ e. let t : (c == 59) ≡ true = eq-eqb c 59 e in absurd cc

context_named : IsClassName context_class
context_named = record { is_there = λ e. absurd cc; no_end = unlike context_class refl; no_array = refl }

-- ---- texts

abbrev receivers : Option ℕ → List ℕ → List FieldType
receivers None class = types.Reference class ∷ []
receivers (Some o) class = []

abbrev getter_signature : Option ℕ → List ℕ → FieldType → Signature
getter_signature o class t = record { parameters = receivers o class ++ types.Reference context_class ∷ []; result = Some t }

abbrev setter_signature : Option ℕ → List ℕ → FieldType → Signature
setter_signature o class t = record { parameters = receivers o class ++ t ∷ types.Reference context_class ∷ []; result = None }

class_text : (class : List ℕ) → IsClassName class → field_descriptor (types.Reference class) ≡ codes "L" ++ class ++ codes ";"
class_text class h = let n = h.no_array in rw n refl

class_type : (class : List ℕ) → IsClassName class → IsFieldType (types.Reference class)
class_type class h = let n = h.no_array in rw n h

context_text : flat_map field_descriptor (types.Reference context_class ∷ []) ≡ context_type
context_text = flat_map-cons field_descriptor (types.Reference context_class) [] ∙ refl

setter_text : (t : FieldType) → flat_map field_descriptor (t ∷ types.Reference context_class ∷ []) ≡ field_descriptor t ++ context_type
setter_text t = flat_map-cons field_descriptor t (types.Reference context_class ∷ []) ∙ ap (λ (x : List ℕ). field_descriptor t ++ x) context_text

receiver_is : (f : Field) (o : Option ℕ) → f.base ≡ o → IsClassName f.class → (more : List FieldType) → flat_map field_descriptor (receivers o f.class ++ more) ≡ receiver_type f ++ flat_map field_descriptor more
receiver_is f None e h more = flat_map-cons field_descriptor (types.Reference f.class) more ∙ ap (λ (x : List ℕ). x ++ flat_map field_descriptor more) (class_text f.class h ∙ rw e refl)
receiver_is f (Some o) e h more = rw e refl

module _ (f : Field) (o : Option ℕ) (base : f.base ≡ o) (named : IsClassName f.class) (t : FieldType) (D : DescribesField f.descriptor t) where
  receiver_rules : (more : List FieldType) → AllByRecursion IsFieldType more → AllByRecursion IsFieldType (receivers o f.class ++ more)
  receiver_rules more h = go o
    where
      go : (o : Option ℕ) → AllByRecursion IsFieldType (receivers o f.class ++ more)
      go None = (class_type f.class named, h)
      go (Some b) = h

  few : (t : FieldType) → places t ≤ 2
  few types.Long = omega arith
  few types.Double = omega arith
  few types.Boolean = omega arith
  few types.Byte = omega arith
  few types.Char = omega arith
  few types.Short = omega arith
  few types.Int = omega arith
  few types.Float = omega arith
  few (types.Reference n) = omega arith

  receiver_few : (more : List FieldType) → places_of (receivers o f.class ++ more) ≤ 1 + places_of more
  receiver_few more = go o
    where
      go : (o : Option ℕ) → places_of (receivers o f.class ++ more) ≤ 1 + places_of more
      go None = omega arith
      go (Some b) = omega arith

  getter_describes : DescribesMethod (getter_named f).descriptor (getter_signature o f.class t)
  getter_describes = record {
    signature = record {
      parameters = receiver_rules (types.Reference context_class ∷ []) (context_named, tt);
      result = D.type;
      few = omega (arith, receiver_few (types.Reference context_class ∷ []));
    };
    is =
        ap (λ (x : List ℕ). codes "(" ++ receiver_type f ++ context_type ++ codes ")" ++ x) D.is
        ∙ ap (λ (x : List ℕ). codes "(" ++ x ++ codes ")" ++ field_descriptor t) (ap (λ (x : List ℕ). receiver_type f ++ x) (sym context_text) ∙ sym (receiver_is f o base named (types.Reference context_class ∷ [])));
  }

  setter_describes : DescribesMethod (setter_named f).descriptor (setter_signature o f.class t)
  setter_describes = record {
    signature = record {
      parameters = receiver_rules (t ∷ types.Reference context_class ∷ []) (D.type, (context_named, tt));
      result = tt;
      few = omega (arith, receiver_few (t ∷ types.Reference context_class ∷ []), few t);
    };
    is =
        ap (λ (x : List ℕ). codes "(" ++ receiver_type f ++ x ++ context_type ++ codes ")V") D.is
        ∙ ap (λ (x : List ℕ). codes "(" ++ x ++ codes ")V") (append_assoc (receiver_type f) (field_descriptor t) context_type ∙ ap (λ (x : List ℕ). receiver_type f ++ x) (sym (setter_text t)) ∙ sym (receiver_is f o base named (t ∷ types.Reference context_class ∷ [])))
        ∙ sym (append_assoc (codes "(" ++ flat_map field_descriptor (receivers o f.class ++ t ∷ types.Reference context_class ∷ [])) (codes ")") (codes "V"));
  }

-- ---- types

same_array : (n : List ℕ) → is_array n ≡ is_array_name n
same_array [] = refl
same_array (c ∷ cs) = refl

abbrev pub receiver_takes : Option ℕ → List ℕ → List VType
receiver_takes None class = type.Ref class ∷ []
receiver_takes (Some o) class = []

abbrev taken_as : List ClassFile → FieldType → List VType
taken_as cs t = place_types (declared_as cs t)

class_taken : (cs : List ClassFile) (n : List ℕ) → IsClassName n → class_read cs n ≡ n → taken_as cs (types.Reference n) ≡ type.Ref n ∷ []
class_taken cs n h e =
    let a = same_array n ∙ h.no_array in
    let read : referred cs (types.Reference n) ≡ n = rw a e in
    ap (λ (x : List ℕ). type.Ref x ∷ []) read

context_taken : (cs : List ClassFile) → flat_map (taken_as cs) (types.Reference context_class ∷ []) ≡ context ∷ []
context_taken cs = flat_map-cons (taken_as cs) (types.Reference context_class) [] ∙ refl

module _ (s : Symbols) (n : ℕ) (f : Field) (K : IsKnown s n f) where
  receiver_taken : (o : Option ℕ) (more : List FieldType) → flat_map (taken_as s.classes) (receivers o f.class ++ more) ≡ receiver_takes o f.class ++ flat_map (taken_as s.classes) more
  receiver_taken None more = flat_map-cons (taken_as s.classes) (types.Reference f.class) more ∙ ap (λ (x : List VType). x ++ flat_map (taken_as s.classes) more) (class_taken s.classes f.class K.class_named K.class_same)
  receiver_taken (Some o) more = refl

  pub getter_typed : IsTyped s (getter_named f).descriptor (receiver_takes f.base f.class ++ context ∷ []) (Some (as_result f.declared))
  getter_typed = record {
    signature = getter_signature f.base f.class K.type;
    is = signature_again (getter_named f).descriptor (getter_signature f.base f.class K.type) (getter_describes f f.base refl K.class_named K.type K.describes);
    takes_are = receiver_taken f.base (types.Reference context_class ∷ []) ∙ ap (λ (x : List VType). receiver_takes f.base f.class ++ x) (context_taken s.classes);
    result_is = ap (λ (d : Declared). Some (as_result d)) K.declared;
    other = differ (getter_named f).descriptor (codes "()V") (λ e. omega (arith, ap length e, getter_long));
  }
    where
      getter_long : 3 < length (getter_named f).descriptor
      getter_long = omega (arith, length-append (codes "(" ++ receiver_type f ++ context_type ++ codes ")") f.descriptor, length-append (codes "(" ++ receiver_type f ++ context_type) (codes ")"), length-append (codes "(" ++ receiver_type f) context_type)

  pub setter_typed : IsTyped s (setter_named f).descriptor (receiver_takes f.base f.class ++ place_types f.declared ++ context ∷ []) None
  setter_typed = record {
    signature = setter_signature f.base f.class K.type;
    is = signature_again (setter_named f).descriptor (setter_signature f.base f.class K.type) (setter_describes f f.base refl K.class_named K.type K.describes);
    takes_are =
        receiver_taken f.base (K.type ∷ types.Reference context_class ∷ [])
        ∙ ap (λ (x : List VType). receiver_takes f.base f.class ++ x) (flat_map-cons (taken_as s.classes) K.type (types.Reference context_class ∷ []) ∙ ap (λ (x : List VType). taken_as s.classes K.type ++ x) (context_taken s.classes) ∙ ap (λ (d : Declared). place_types d ++ context ∷ []) K.declared)
        ∙ sym (append_assoc (receiver_takes f.base f.class) (place_types f.declared) (context ∷ []));
    result_is = refl;
    other = differ (setter_named f).descriptor (codes "()V") (λ e. omega (arith, ap length e, setter_long));
  }
    where
      setter_long : 3 < length (setter_named f).descriptor
      setter_long = omega (arith, length-append (codes "(" ++ receiver_type f ++ f.descriptor ++ context_type) (codes ")V"), length-append (codes "(" ++ receiver_type f ++ f.descriptor) context_type)

-- how many places the parameters take
pub places_are : (d : Declared) → length (place_types d) ≡ word_places d.word
places_are d = go d.word refl
  where
    go : (w : WordType) → d.word ≡ w → length (place_types d) ≡ word_places w
    go word.Boolean e = rw e refl
    go word.Byte e = rw e refl
    go word.Char e = rw e refl
    go word.Short e = rw e refl
    go word.Int e = rw e refl
    go word.Long e = rw e refl
    go word.Reference e = rw e refl

pub receiver_places_are : (f : Field) → length (receiver_takes f.base f.class) ≡ receiver_places f
receiver_places_are f = go f.base refl
  where
    go : (o : Option ℕ) → f.base ≡ o → length (receiver_takes o f.class) ≡ receiver_places f
    go None e = rw e refl
    go (Some o) e = rw e refl
