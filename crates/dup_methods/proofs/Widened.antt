-- Descriptors with the context as last parameter: their signatures have one more.
use Rattle.std.proofs.Common.{◌≡◌, ℕ, zero, suc, ◌+◌, ◌≤◌, Bool, true, false, not, List, [], ◌∷◌, ◌++◌, length, take, drop, replicate, Some, refl, sym, ap, ◌∙◌, subst, arith, append_assoc, length-append, eq-eqb}
use Rattle.std.specs.Prelude.{◌==◌, ◌≢◌, codes}
use Rattle.std.specs.List.{flat_map, list_all, AllByRecursion}
use Rattle.std.proofs.lemmas.Bool.{ne_eqb}
use Rattle.std.proofs.lemmas.List.Concat.{flat_map-cons}
use Rattle.jmodel.specs.declared.class_file.FieldType.{FieldType}
use Rattle.jmodel.specs.declared.class_file.FieldType.TheVariants as types
use Rattle.jmodel.specs.format.Descriptor.{is_array_name, field_descriptor, result_descriptor, method_descriptor, places_of, Signature, IsFieldType, IsReferenceName, IsElement, IsClassName, IsArrayName, IsSignature}
use Rattle.jmodel.specs.format.DescriptorReading.{signature_of}
use Rattle.const_pool.proofs.Signatures.{signature_found, signature_again}
use Rattle.objects.specs.typing.TypeOrder.{context_class}
use Rattle.objects.specs.rewriting.Rewriting.{context_type, before_end, with_context}
use Rattle.member_code.proofs.Added.{two_true}

-- ---- where the parameters end

-- over a class's name, which has no semicolon
name_over : (name ds : List ℕ) → AllByRecursion (λ c. c ≢ 59) name → before_end true (name ++ 59 ∷ ds) ≡ length name + 1 + before_end false ds
name_over [] ds h = omega arith
name_over (c ∷ name) ds h =
    let no : (c == 59) ≡ false = ne_eqb c 59 h.0 in
    let rest = name_over name ds h.1 in
    rw no (omega (arith, rest))

-- the descriptor of a class's type
class_text : (class : List ℕ) → IsClassName class → field_descriptor (types.Reference class) ≡ 76 ∷ (class ++ 59 ∷ [])
class_text class h = let n = h.no_array in rw n refl

-- the parameters end behind a class's type
class_over : (class ds : List ℕ) → IsClassName class → before_end false (field_descriptor (types.Reference class) ++ ds) ≡ length (field_descriptor (types.Reference class)) + before_end false ds
class_over class ds h =
    let text = class_text class h in
    let list : field_descriptor (types.Reference class) ++ ds ≡ 76 ∷ (class ++ 59 ∷ ds) = ap (λ (l : List ℕ). l ++ ds) text ∙ ap (λ (l : List ℕ). 76 ∷ l) (append_assoc class (59 ∷ []) ds) in
    let over = name_over class ds h.no_end in
    let long : length (field_descriptor (types.Reference class)) ≡ length class + 2 = ap length text ∙ omega (arith, length-append class (59 ∷ [])) in
    let end : before_end false (76 ∷ (class ++ 59 ∷ ds)) ≡ length class + 2 + before_end false ds = omega (arith, over) in
    ap (before_end false) list ∙ end ∙ ap (λ (n : ℕ). n + before_end false ds) (sym long)

-- behind a type that is no array
element_over : (t : FieldType) (ds : List ℕ) → IsElement t → before_end false (field_descriptor t ++ ds) ≡ length (field_descriptor t) + before_end false ds
element_over types.Boolean ds h = omega arith
element_over types.Byte ds h = omega arith
element_over types.Char ds h = omega arith
element_over types.Short ds h = omega arith
element_over types.Int ds h = omega arith
element_over types.Long ds h = omega arith
element_over types.Float ds h = omega arith
element_over types.Double ds h = omega arith
element_over (types.Reference n) ds h = class_over n ds h

-- and with brackets before it
brackets_over : (n : ℕ) (text ds : List ℕ) → before_end false (text ++ ds) ≡ length text + before_end false ds → before_end false ((replicate n 91 ++ text) ++ ds) ≡ length (replicate n 91 ++ text) + before_end false ds
brackets_over zero text ds h = h
brackets_over (suc n) text ds h = let rest = brackets_over n text ds h in omega (arith, rest)

-- behind an array type
array_over : (name ds : List ℕ) → IsArrayName name → before_end false (name ++ ds) ≡ length name + before_end false ds
array_over name ds h = subst (λ (l : List ℕ). before_end false (l ++ ds) ≡ length l + before_end false ds) (sym h.is) (brackets_over h.dimensions (field_descriptor h.element) ds (element_over h.element ds h.is_element))

-- behind a type of references
reference_over : (b : Bool) (name ds : List ℕ) → is_array_name name ≡ b → IsReferenceName b name → before_end false (field_descriptor (types.Reference name) ++ ds) ≡ length (field_descriptor (types.Reference name)) + before_end false ds
reference_over true name ds e h = let text : field_descriptor (types.Reference name) ≡ name = rw e refl in subst (λ (l : List ℕ). before_end false (l ++ ds) ≡ length l + before_end false ds) (sym text) (array_over name ds h)
reference_over false name ds e h = class_over name ds h

-- behind any type
type_over : (t : FieldType) (ds : List ℕ) → IsFieldType t → before_end false (field_descriptor t ++ ds) ≡ length (field_descriptor t) + before_end false ds
type_over types.Boolean ds h = omega arith
type_over types.Byte ds h = omega arith
type_over types.Char ds h = omega arith
type_over types.Short ds h = omega arith
type_over types.Int ds h = omega arith
type_over types.Long ds h = omega arith
type_over types.Float ds h = omega arith
type_over types.Double ds h = omega arith
type_over (types.Reference n) ds h = reference_over (is_array_name n) n ds refl h

-- behind all types, at the parenthesis
types_over : (ts : List FieldType) (rest : List ℕ) → AllByRecursion IsFieldType ts → before_end false (flat_map field_descriptor ts ++ 41 ∷ rest) ≡ length (flat_map field_descriptor ts)
types_over [] rest h = refl
types_over (t ∷ ts) rest h =
    let list : flat_map field_descriptor (t ∷ ts) ++ 41 ∷ rest ≡ field_descriptor t ++ (flat_map field_descriptor ts ++ 41 ∷ rest) =
    ap (λ (l : List ℕ). l ++ 41 ∷ rest) (flat_map-cons field_descriptor t ts) ∙ append_assoc (field_descriptor t) (flat_map field_descriptor ts) (41 ∷ rest) in
    let len = ap length (flat_map-cons field_descriptor t ts) in
    let both = length-append (field_descriptor t) (flat_map field_descriptor ts) in
    let one = type_over t (flat_map field_descriptor ts ++ 41 ∷ rest) h.0 in
    ap (before_end false) list ∙ omega (arith, one, len, both, types_over ts rest h.1)

-- ---- the context put in

-- the first of two texts
take_front : (xs ys : List ℕ) → take (length xs) (xs ++ ys) ≡ xs
take_front [] ys = take_none ys
  where
    take_none : (ys : List ℕ) → take 0 ys ≡ []
    take_none [] = refl
    take_none (y ∷ ys) = refl
take_front (x ∷ xs) ys = let e : length (x ∷ xs) ≡ suc (length xs) = omega arith in ap (λ (n : ℕ). take n (x ∷ (xs ++ ys))) e ∙ ap (λ (l : List ℕ). x ∷ l) (take_front xs ys)

-- the second of two texts
drop_front : (xs ys : List ℕ) → drop (length xs) (xs ++ ys) ≡ ys
drop_front [] ys = refl
drop_front (x ∷ xs) ys = let e : length (x ∷ xs) ≡ suc (length xs) = omega arith in ap (λ (n : ℕ). drop n (x ∷ (xs ++ ys))) e ∙ drop_front xs ys

-- the context put behind a text of known length
put_at_end : (front back d : List ℕ) → d ≡ front ++ back → before_end false d ≡ length front → with_context d ≡ front ++ (context_type ++ back)
put_at_end front back d is n =
    let t : take (before_end false d) d ≡ front = ap (λ (k : ℕ). take k d) n ∙ ap (take (length front)) is ∙ take_front front back in
    let r : drop (before_end false d) d ≡ back = ap (λ (k : ℕ). drop k d) n ∙ ap (drop (length front)) is ∙ drop_front front back in
    append_assoc (take (before_end false d) d) context_type (drop (before_end false d) d)
    ∙ ap (λ (l : List ℕ). l ++ (context_type ++ drop (before_end false d) d)) t ∙ ap (λ (l : List ℕ). front ++ (context_type ++ l)) r

-- ---- signatures

-- a signature with the context as last parameter
abbrev pub wider : Signature → Signature
wider g = record { parameters = g.parameters ++ types.Reference context_class ∷ []; result = g.result }

-- the descriptors of types behind others
flat_append : (ts us : List FieldType) → flat_map field_descriptor (ts ++ us) ≡ flat_map field_descriptor ts ++ flat_map field_descriptor us
flat_append [] us = refl
flat_append (t ∷ ts) us =
    flat_map-cons field_descriptor t (ts ++ us) ∙ ap (λ (l : List ℕ). field_descriptor t ++ l) (flat_append ts us) ∙ sym (append_assoc (field_descriptor t) (flat_map field_descriptor ts) (flat_map field_descriptor us))
    ∙ ap (λ (l : List ℕ). l ++ flat_map field_descriptor us) (sym (flat_map-cons field_descriptor t ts))

-- the context takes one place
pub one_more : (ts : List FieldType) → places_of (ts ++ types.Reference context_class ∷ []) ≡ places_of ts + 1
one_more [] = refl
one_more (t ∷ ts) = omega (arith, one_more ts)

-- what holds of each holds with one more
each_more : (P : FieldType → Type 0) (ts : List FieldType) (t : FieldType) → AllByRecursion P ts → P t → AllByRecursion P (ts ++ t ∷ [])
each_more P [] t h p = (p, tt)
each_more P (x ∷ ts) t h p = (h.0, each_more P ts t h.1 p)

-- a text that a test finds without semicolons has none
unlike : (cs : List ℕ) → list_all (λ c. not (c == 59)) cs ≡ true → AllByRecursion (λ c. c ≢ 59) cs
unlike [] h = tt
unlike (c ∷ cs) h = let f = two_true (not (c == 59)) (list_all (λ c. not (c == 59)) cs) h in (no (c == 59) refl f.0, unlike cs f.1)
  where
    no : (b : Bool) → (c == 59) ≡ b → not b ≡ true → c ≢ 59
    no true q h = cc
    no false q h = λ e. let t : (c == 59) ≡ true = eq-eqb c 59 e in absurd cc

-- the context's name is a class's
context_named : IsClassName context_class
context_named = record { is_there = λ e. absurd cc; no_end = unlike context_class refl; no_array = refl }

-- the signature of a descriptor with the context
pub widened : (d : List ℕ) (g : Signature) → signature_of d ≡ Some g → places_of g.parameters ≤ 254 → signature_of (with_context d) ≡ Some (wider g)
widened d g is few =
    let D = signature_found d g is in
    let front : List ℕ = codes "(" ++ flat_map field_descriptor g.parameters in
    let back : List ℕ = codes ")" ++ result_descriptor g.result in
    let d_is : d ≡ front ++ back = D.is ∙ append_assoc (codes "(" ++ flat_map field_descriptor g.parameters) (codes ")") (result_descriptor g.result) in
    let over = types_over g.parameters (result_descriptor g.result) D.signature.parameters in
    let n : before_end false (front ++ back) ≡ length front = omega (arith, over) in
    let put = put_at_end (codes "(" ++ flat_map field_descriptor g.parameters) (codes ")" ++ result_descriptor g.result) d d_is (ap (before_end false) d_is ∙ n) in
    let types_are : flat_map field_descriptor (wider g).parameters ≡ flat_map field_descriptor g.parameters ++ context_type = flat_append g.parameters (types.Reference context_class ∷ []) in
    let text : front ++ (context_type ++ back) ≡ method_descriptor (wider g) =
    sym (append_assoc (codes "(" ++ flat_map field_descriptor g.parameters) context_type (codes ")" ++ result_descriptor g.result))
    ∙ ap (λ (l : List ℕ). l ++ (codes ")" ++ result_descriptor g.result)) (append_assoc (codes "(") (flat_map field_descriptor g.parameters) context_type ∙ ap (λ (l : List ℕ). codes "(" ++ l) (sym types_are))
    ∙ sym (append_assoc (codes "(" ++ flat_map field_descriptor (wider g).parameters) (codes ")") (result_descriptor g.result)) in
    let rules : IsSignature (wider g) = record {
      parameters = each_more IsFieldType g.parameters (types.Reference context_class) D.signature.parameters context_named;
      result = D.signature.result;
      few = omega (arith, one_more g.parameters, few);
    } in
    signature_again (with_context d) (wider g) (record { signature = rules; is = put ∙ text })
