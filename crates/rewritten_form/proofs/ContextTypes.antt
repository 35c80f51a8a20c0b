-- Descriptors with the context as last parameter are descriptors of methods, and so are those of accessors.
use Rattle.std.proofs.Common.{◌≡◌, ◌≢◌, ℕ, zero, suc, ◌+◌, ◌≤◌, Bool, true, false, not, List, [], ◌∷◌, ◌++◌, length, take, drop, replicate, Option, Some, None, refl, sym, ap, ◌∙◌, arith, append_assoc, length-append, eq-eqb}
use Rattle.std.specs.Prelude.{codes, ◌==◌}
use Rattle.std.specs.List.{flat_map, AllByRecursion, list_all}
use Rattle.std.proofs.lemmas.List.{take_at, drop_at}
use Rattle.std.proofs.lemmas.List.Concat.{flat_map-cons, flat_map-append}
use Rattle.jmodel.specs.declared.class_file.FieldType.{FieldType}
use Rattle.jmodel.specs.declared.class_file.FieldType.TheVariants as types
use Rattle.jmodel.specs.format.Descriptor.{field_descriptor, result_descriptor, method_descriptor, is_array_name, places, places_of, Signature, IsElement, IsArrayName, IsClassName, IsReferenceName, IsFieldType, IsMethodDescriptor, DescribesField, DescribesMethod}
use Rattle.objects.specs.semantics.Program.{Field}
use Rattle.objects.specs.typing.TypeOrder.{context_class}
use Rattle.objects.specs.rewriting.Rewriting.{context_type, before_end, with_context}
use Rattle.member_code.proofs.Added.{two_true}
use Rattle.field_members.specs.Names.{receiver_type, getter_named, setter_named}
use Rattle.rewritten_form.proofs.Lists.{all_append}

-- ---- the class of the context

pub unlike : (cs : List ℕ) → list_all (λ c. not (c == 59)) cs ≡ true → AllByRecursion (λ c. c ≢ 59) cs
unlike [] h = tt
unlike (c ∷ cs) h = let f = two_true (not (c == 59)) (list_all (λ c. not (c == 59)) cs) h in (no (c == 59) refl f.0, unlike cs f.1)
  where
    no : (b : Bool) → (c == 59) ≡ b → not b ≡ true → c ≢ 59
    no true q h = cc
    no false q h = λ e. let t : (c == 59) ≡ true = eq-eqb c 59 e in absurd cc

pub context_named : IsClassName context_class
context_named = record { is_there = λ e. absurd cc; no_end = unlike context_class refl; no_array = refl }

context_text : flat_map field_descriptor (types.Reference context_class ∷ []) ≡ context_type
context_text = flat_map-cons field_descriptor (types.Reference context_class) [] ∙ refl

-- ---- where parameters end

-- a class's name is passed up to its semicolon
name_over : (name rest : List ℕ) → AllByRecursion (λ c. c ≢ 59) name → before_end true (name ++ 59 ∷ rest) ≡ length name + 1 + before_end false rest
name_over [] rest h = omega arith
name_over (c ∷ name) rest h = go (c == 59) refl (name_over name rest h.1)
  where
    go : (b : Bool) → (c == 59) ≡ b → before_end true (name ++ 59 ∷ rest) ≡ length name + 1 + before_end false rest → before_end true (c ∷ (name ++ 59 ∷ rest)) ≡ length (c ∷ name) + 1 + before_end false rest
    go true q more = let same : c ≡ 59 = grind arith in absurd (h.0 same)
    go false q more = let here : before_end true (c ∷ (name ++ 59 ∷ rest)) ≡ suc (before_end true (name ++ 59 ∷ rest)) = rw q refl in omega (arith, here, more)

class_over : (name rest : List ℕ) → IsClassName name → before_end false (field_descriptor (types.Reference name) ++ rest) ≡ length (field_descriptor (types.Reference name)) + before_end false rest
class_over name rest h =
    let n = h.no_array in
    let text : field_descriptor (types.Reference name) ≡ 76 ∷ (name ++ codes ";") = rw n refl in
    let whole : before_end false (field_descriptor (types.Reference name) ++ rest) ≡ suc (before_end true (name ++ 59 ∷ rest)) =
    ap (λ (l : List ℕ). before_end false (l ++ rest)) text ∙ ap (λ (l : List ℕ). suc (before_end true l)) (append_assoc name (codes ";") rest) in
    let long = length-append name (codes ";") in
    omega (arith, whole, name_over name rest h.no_end, ap length text, long)

element_over : (t : FieldType) (rest : List ℕ) → IsElement t → before_end false (field_descriptor t ++ rest) ≡ length (field_descriptor t) + before_end false rest
element_over types.Boolean rest h = omega arith
element_over types.Byte rest h = omega arith
element_over types.Char rest h = omega arith
element_over types.Short rest h = omega arith
element_over types.Int rest h = omega arith
element_over types.Long rest h = omega arith
element_over types.Float rest h = omega arith
element_over types.Double rest h = omega arith
element_over (types.Reference name) rest h = class_over name rest h

brackets_over : (n : ℕ) (xs rest : List ℕ) → before_end false (xs ++ rest) ≡ length xs + before_end false rest → before_end false ((replicate n 91 ++ xs) ++ rest) ≡ length (replicate n 91 ++ xs) + before_end false rest
brackets_over zero xs rest h = h
brackets_over (suc n) xs rest h = let more = brackets_over n xs rest h in omega (arith, more)

type_over : (t : FieldType) (rest : List ℕ) → IsFieldType t → before_end false (field_descriptor t ++ rest) ≡ length (field_descriptor t) + before_end false rest
type_over (types.Reference name) rest h = go (is_array_name name) refl h
  where
    array : IsArrayName name → is_array_name name ≡ true → before_end false (field_descriptor (types.Reference name) ++ rest) ≡ length (field_descriptor (types.Reference name)) + before_end false rest
    array a q =
        let text : field_descriptor (types.Reference name) ≡ replicate a.dimensions 91 ++ field_descriptor a.element = rw q a.is in
        let over = brackets_over a.dimensions (field_descriptor a.element) rest (element_over a.element rest a.is_element) in
        ap (λ (l : List ℕ). before_end false (l ++ rest)) text ∙ over ∙ ap (λ (l : List ℕ). length l + before_end false rest) (sym text)

    go : (b : Bool) → is_array_name name ≡ b → IsReferenceName b name → before_end false (field_descriptor (types.Reference name) ++ rest) ≡ length (field_descriptor (types.Reference name)) + before_end false rest
    go true q x = array x q
    go false q x = class_over name rest x
type_over types.Boolean rest h = omega arith
type_over types.Byte rest h = omega arith
type_over types.Char rest h = omega arith
type_over types.Short rest h = omega arith
type_over types.Int rest h = omega arith
type_over types.Long rest h = omega arith
type_over types.Float rest h = omega arith
type_over types.Double rest h = omega arith

types_over : (ts : List FieldType) (rest : List ℕ) → AllByRecursion IsFieldType ts → before_end false (flat_map field_descriptor ts ++ 41 ∷ rest) ≡ length (flat_map field_descriptor ts)
types_over [] rest h = refl
types_over (t ∷ ts) rest h =
    let list = flat_map-cons field_descriptor t ts in
    let whole = ap (λ (l : List ℕ). before_end false (l ++ 41 ∷ rest)) list ∙ ap (before_end false) (append_assoc (field_descriptor t) (flat_map field_descriptor ts) (41 ∷ rest)) in
    let long = ap length list in
    omega (arith, whole, type_over t (flat_map field_descriptor ts ++ 41 ∷ rest) h.0, types_over ts rest h.1, long, length-append (field_descriptor t) (flat_map field_descriptor ts))

-- ---- the context put in

abbrev pub wider : Signature → Signature
wider g = record { parameters = g.parameters ++ types.Reference context_class ∷ []; result = g.result }

places_append : (xs ys : List FieldType) → places_of (xs ++ ys) ≡ places_of xs + places_of ys
places_append [] ys = omega arith
places_append (x ∷ xs) ys = omega (arith, places_append xs ys)

-- a method's descriptor, with the context as one more parameter
pub context_describes : (d : List ℕ) (g : Signature) → DescribesMethod d g → places_of g.parameters ≤ 254 → IsMethodDescriptor (with_context d)
context_describes d g h few = (wider g, record { signature = record { parameters = all_append IsFieldType g.parameters (types.Reference context_class ∷ []) h.signature.parameters (context_named, tt); result = h.signature.result; few = omega (arith, places_append g.parameters (types.Reference context_class ∷ []), few) }; is = is })
  where
    parts : d ≡ (codes "(" ++ flat_map field_descriptor g.parameters) ++ (codes ")" ++ result_descriptor g.result)
    parts = h.is ∙ append_assoc (codes "(" ++ flat_map field_descriptor g.parameters) (codes ")") (result_descriptor g.result)

    ends : before_end false d ≡ length (codes "(" ++ flat_map field_descriptor g.parameters)
    ends = let whole = ap (before_end false) parts in omega (arith, whole, types_over g.parameters (result_descriptor g.result) h.signature.parameters)

    first : take (before_end false d) d ≡ codes "(" ++ flat_map field_descriptor g.parameters
    first = ap (take (before_end false d)) parts ∙ take_at (codes "(" ++ flat_map field_descriptor g.parameters) (codes ")" ++ result_descriptor g.result) (before_end false d) (sym ends)

    last : drop (before_end false d) d ≡ codes ")" ++ result_descriptor g.result
    last = ap (drop (before_end false d)) parts ∙ drop_at (codes "(" ++ flat_map field_descriptor g.parameters) (codes ")" ++ result_descriptor g.result) (before_end false d) (sym ends)

    list : flat_map field_descriptor (g.parameters ++ types.Reference context_class ∷ []) ≡ flat_map field_descriptor g.parameters ++ context_type
    list = flat_map-append field_descriptor g.parameters (types.Reference context_class ∷ []) ∙ ap (λ (l : List ℕ). flat_map field_descriptor g.parameters ++ l) context_text

    is : with_context d ≡ method_descriptor (wider g)
    is =
        ap (λ (l : List ℕ). l ++ context_type ++ drop (before_end false d) d) first
        ∙ ap (λ (l : List ℕ). (codes "(" ++ flat_map field_descriptor g.parameters) ++ context_type ++ l) last
        ∙ sym (append_assoc (codes "(" ++ (flat_map field_descriptor g.parameters ++ context_type)) (codes ")") (result_descriptor g.result))
        ∙ ap (λ (l : List ℕ). codes "(" ++ l ++ codes ")" ++ result_descriptor g.result) (sym list)

-- ---- accessors

abbrev receivers : Option ℕ → List ℕ → List FieldType
receivers None class = types.Reference class ∷ []
receivers (Some o) class = []

abbrev getter_signature : Option ℕ → List ℕ → FieldType → Signature
getter_signature o class t = record { parameters = receivers o class ++ types.Reference context_class ∷ []; result = Some t }

abbrev setter_signature : Option ℕ → List ℕ → FieldType → Signature
setter_signature o class t = record { parameters = receivers o class ++ t ∷ types.Reference context_class ∷ []; result = None }

class_text : (class : List ℕ) → IsClassName class → field_descriptor (types.Reference class) ≡ codes "L" ++ class ++ codes ";"
class_text class h = let n = h.no_array in rw n refl

class_type : (class : List ℕ) → IsClassName class → IsFieldType (types.Reference class)
class_type class h = let n = h.no_array in rw n h

setter_text : (t : FieldType) → flat_map field_descriptor (t ∷ types.Reference context_class ∷ []) ≡ field_descriptor t ++ context_type
setter_text t = flat_map-cons field_descriptor t (types.Reference context_class ∷ []) ∙ ap (λ (x : List ℕ). field_descriptor t ++ x) context_text

receiver_is : (f : Field) (o : Option ℕ) → f.base ≡ o → IsClassName f.class → (more : List FieldType) → flat_map field_descriptor (receivers o f.class ++ more) ≡ receiver_type f ++ flat_map field_descriptor more
receiver_is f None e h more = flat_map-cons field_descriptor (types.Reference f.class) more ∙ ap (λ (x : List ℕ). x ++ flat_map field_descriptor more) (class_text f.class h ∙ rw e refl)
receiver_is f (Some o) e h more = rw e refl

module _ (f : Field) (o : Option ℕ) (base : f.base ≡ o) (named : IsClassName f.class) (t : FieldType) (D : DescribesField f.descriptor t) where
  receiver_rules : (more : List FieldType) → AllByRecursion IsFieldType more → AllByRecursion IsFieldType (receivers o f.class ++ more)
  receiver_rules more h = go o
    where
      go : (o : Option ℕ) → AllByRecursion IsFieldType (receivers o f.class ++ more)
      go None = (class_type f.class named, h)
      go (Some b) = h

  few : (t : FieldType) → places t ≤ 2
  few types.Long = omega arith
  few types.Double = omega arith
  few types.Boolean = omega arith
  few types.Byte = omega arith
  few types.Char = omega arith
  few types.Short = omega arith
  few types.Int = omega arith
  few types.Float = omega arith
  few (types.Reference n) = omega arith

  receiver_few : (more : List FieldType) → places_of (receivers o f.class ++ more) ≤ 1 + places_of more
  receiver_few more = go o
    where
      go : (o : Option ℕ) → places_of (receivers o f.class ++ more) ≤ 1 + places_of more
      go None = omega arith
      go (Some b) = omega arith

  getter_by : DescribesMethod (getter_named f).descriptor (getter_signature o f.class t)
  getter_by = record {
    signature = record {
      parameters = receiver_rules (types.Reference context_class ∷ []) (context_named, tt);
      result = D.type;
      few = omega (arith, receiver_few (types.Reference context_class ∷ []));
    };
    is =
        ap (λ (x : List ℕ). codes "(" ++ receiver_type f ++ context_type ++ codes ")" ++ x) D.is
        ∙ ap (λ (x : List ℕ). codes "(" ++ x ++ codes ")" ++ field_descriptor t) (ap (λ (x : List ℕ). receiver_type f ++ x) (sym context_text) ∙ sym (receiver_is f o base named (types.Reference context_class ∷ [])));
  }

  setter_by : DescribesMethod (setter_named f).descriptor (setter_signature o f.class t)
  setter_by = record {
    signature = record {
      parameters = receiver_rules (t ∷ types.Reference context_class ∷ []) (D.type, (context_named, tt));
      result = tt;
      few = omega (arith, receiver_few (t ∷ types.Reference context_class ∷ []), few t);
    };
    is =
        ap (λ (x : List ℕ). codes "(" ++ receiver_type f ++ x ++ context_type ++ codes ")V") D.is
        ∙ ap (λ (x : List ℕ). codes "(" ++ x ++ codes ")V") (append_assoc (receiver_type f) (field_descriptor t) context_type ∙ ap (λ (x : List ℕ). receiver_type f ++ x) (sym (setter_text t)) ∙ sym (receiver_is f o base named (t ∷ types.Reference context_class ∷ [])))
        ∙ sym (append_assoc (codes "(" ++ flat_map field_descriptor (receivers o f.class ++ t ∷ types.Reference context_class ∷ [])) (codes ")") (codes "V"));
  }

-- the descriptors of the accessors of a field
pub getter_describes : (f : Field) → IsClassName f.class → (t : FieldType) → DescribesField f.descriptor t → IsMethodDescriptor (getter_named f).descriptor
getter_describes f named t D = (getter_signature f.base f.class t, getter_by f f.base refl named t D)

pub setter_describes : (f : Field) → IsClassName f.class → (t : FieldType) → DescribesField f.descriptor t → IsMethodDescriptor (setter_named f).descriptor
setter_describes f named t D = (setter_signature f.base f.class t, setter_by f f.base refl named t D)
