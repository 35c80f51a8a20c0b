-- The head of a duplicate, as the symbols of the rewritten class read it: its name, its dispatch, what it takes and gives.
use Rattle.std.proofs.Common.{◌≡◌, ℕ, ◌+◌, ◌≤◌, Bool, true, false, ◌||◌, List, [], ◌∷◌, ◌++◌, length, Option, Some, None, refl, sym, ap, ◌∙◌, arith, append_assoc, length-append}
use Rattle.std.specs.Prelude.{if◌then◌else◌}
use Rattle.std.specs.List.{flat_map, list_any}
use Rattle.std.proofs.lemmas.List.Concat.{flat_map-cons}
use Rattle.jmodel.specs.declared.class_file.FieldType.{FieldType}
use Rattle.jmodel.specs.declared.class_file.FieldType.TheVariants as types
use Rattle.jmodel.specs.declared.name.MethodName.{MethodName}
use Rattle.jmodel.specs.declared.typing.VType.{VType}
use Rattle.jmodel.specs.declared.typing.VType.TheVariants as type
use Rattle.jmodel.specs.format.ClassFile.{Member, ClassFile}
use Rattle.jmodel.specs.format.Pool.{utf8, text_or_none}
use Rattle.jmodel.specs.format.Descriptor.{Signature, places, places_of}
use Rattle.jmodel.specs.format.DescriptorReading.{signature_of}
use Rattle.objects.specs.linking.Members.{own_name}
use Rattle.objects.specs.linking.Classes.{full_name}
use Rattle.objects.specs.linking.Code.{mark_retries, retries_of}
use Rattle.objects.specs.linking.Constructs.{is_floating, has_floats, is_float_descriptor}
use Rattle.objects.specs.semantics.Program.{Method}
use Rattle.objects.specs.linking.Resolution.{holds_of}
use Rattle.objects.specs.typing.TypeOrder.{context_class, place_types}
use Rattle.objects.specs.linking.Layout.{class_read, declared_as}
use Rattle.objects.specs.rewriting.Rewriting.{context, duplicate_name, with_context}
use Rattle.objects.specs.linking.Decoding.{Symbols}
use Rattle.objects.specs.linking.Linking.{dispatch_of, receiver_types, parameter_types, result_type, signature_in, Body, method_with}
use Rattle.member_code.specs.Names.{duplicate_named}
use Rattle.dup_methods.specs.Duplicates.{duplicate_flags}
use Rattle.dup_methods.specs.DuplicateLaw.{ReadsAlike}
use Rattle.dup_methods.proofs.KeptFlags.{static_stays, dispatch_stays, retries_none}
use Rattle.dup_methods.proofs.Widened.{wider, widened}

-- ---- how many places parameters take

-- of two tests that both fail
first_none : (a b : Bool) → (a || b) ≡ false → (a ≡ false) × (b ≡ false)
first_none true b h = cc
first_none false b h = (refl, h)

-- a type that is no float takes its places
one_taken : (cs : List ClassFile) (t : FieldType) → is_floating t ≡ false → length (place_types (declared_as cs t)) ≡ places t
one_taken cs types.Boolean h = refl
one_taken cs types.Byte h = refl
one_taken cs types.Char h = refl
one_taken cs types.Short h = refl
one_taken cs types.Int h = refl
one_taken cs types.Long h = refl
one_taken cs (types.Reference n) h = refl
one_taken cs t h = cc

-- so do all types of parameters
all_taken : (cs : List ClassFile) (ts : List FieldType) → list_any is_floating ts ≡ false → length (flat_map (λ (t : FieldType). place_types (declared_as cs t)) ts) ≡ places_of ts
all_taken cs [] h = refl
all_taken cs (t ∷ ts) h =
    let f = first_none (is_floating t) (list_any is_floating ts) h in
    let list = ap length (flat_map-cons (λ (t : FieldType). place_types (declared_as cs t)) t ts) in
    let both = length-append (place_types (declared_as cs t)) (flat_map (λ (t : FieldType). place_types (declared_as cs t)) ts) in
    omega (arith, list, both, one_taken cs t f.0, all_taken cs ts f.1)

-- a descriptor without floats has none among its parameters
no_floats : (d : List ℕ) (g : Signature) → signature_of d ≡ Some g → is_float_descriptor d ≡ false → list_any is_floating g.parameters ≡ false
no_floats d g e h = (first_none (list_any is_floating g.parameters) _ (of (signature_of d) e h)).0
  where
    of : (o : Option Signature) → o ≡ Some g → holds_of has_floats o ≡ false → has_floats g ≡ false
    of None q k = cc
    of (Some f) q k = let is : f ≡ g = cc in ap has_floats (sym is) ∙ k

-- ---- types with the context

-- the places of types behind others
taken_append : (cs : List ClassFile) (ts us : List FieldType) → flat_map (λ (t : FieldType). place_types (declared_as cs t)) (ts ++ us) ≡ flat_map (λ (t : FieldType). place_types (declared_as cs t)) ts ++ flat_map (λ (t : FieldType). place_types (declared_as cs t)) us
taken_append cs [] us = refl
taken_append cs (t ∷ ts) us =
    flat_map-cons (λ (t : FieldType). place_types (declared_as cs t)) t (ts ++ us) ∙ ap (λ (l : List VType). place_types (declared_as cs t) ++ l) (taken_append cs ts us)
    ∙ sym (append_assoc (place_types (declared_as cs t)) (flat_map (λ (t : FieldType). place_types (declared_as cs t)) ts) (flat_map (λ (t : FieldType). place_types (declared_as cs t)) us))
    ∙ ap (λ (l : List VType). l ++ flat_map (λ (t : FieldType). place_types (declared_as cs t)) us) (sym (flat_map-cons (λ (t : FieldType). place_types (declared_as cs t)) t ts))

-- the context is taken as itself
context_taken : (cs : List ClassFile) → flat_map (λ (t : FieldType). place_types (declared_as cs t)) (types.Reference context_class ∷ []) ≡ context ∷ []
context_taken cs = flat_map-cons (λ (t : FieldType). place_types (declared_as cs t)) (types.Reference context_class) [] ∙ refl

-- ---- heads

-- a member reads as the head of the duplicate of a method, whose signature is g
pub record IsHeadOf (s : Symbols) (y : Member) (k : Method) (g : Signature) : Type 0 where
  pub name : full_name (record { class = s.class; member = y }) ≡ duplicate_named k.name
  pub dispatch : dispatch_of s.class y ≡ k.dispatch
  pub signed : signature_in (record { class = s.class; member = y }) ≡ Some (wider g)
  pub parameters : receiver_types s.classes s.class y ++ parameter_types s.classes (wider g) ≡ k.parameters ++ context ∷ []
  pub places : length (receiver_types s.classes s.class y ++ parameter_types s.classes (wider g)) ≡ k.places + 1
  pub result : result_type s.classes (wider g) ≡ k.result
  pub retries : retries_of s.class.pool y ≡ None

-- a name of these parts
abbrev named_so : List ℕ → List ℕ → List ℕ → MethodName
named_so class name descriptor = record { class = class; name = name; descriptor = descriptor }

module _ (s0 s : Symbols) (m y : Member) (k : Method) (g : Signature) (b : Body) (signed : signature_in (record { class = s0.class; member = m }) ≡ Some g) (is : k ≡ method_with s0 true m g b) (alike : ReadsAlike s0 s m) (floatless : is_float_descriptor k.name.descriptor ≡ false) (few : k.places ≤ 254)
    (flags : y.flags ≡ duplicate_flags m.flags) (named : utf8 s.class.pool y.name ≡ Some (duplicate_name k.name.name)) (typed : utf8 s.class.pool y.descriptor ≡ Some (with_context k.name.descriptor)) (unmarked : mark_retries s.class.pool y ≡ None) where
  name_is : k.name ≡ full_name (record { class = s0.class; member = m })
  name_is = ap (λ (k : Method). k.name) is

  named_before : utf8 s.class.pool y.name ≡ Some (duplicate_name (text_or_none (utf8 s0.class.pool m.name)))
  named_before = named ∙ ap (λ (n : MethodName). Some (duplicate_name n.name)) name_is

  own_is : own_name s.class ≡ k.name.class
  own_is = alike.own ∙ sym (ap (λ (n : MethodName). n.class) name_is)

  described : signature_of k.name.descriptor ≡ Some g
  described = ap (λ (n : MethodName). signature_of n.descriptor) name_is ∙ signed

  parameters_are : k.parameters ≡ receiver_types s0.classes s0.class m ++ parameter_types s0.classes g
  parameters_are = ap (λ (k : Method). k.parameters) is

  places_are : k.places ≡ length k.parameters
  places_are = ap (λ (k : Method). k.places) is ∙ ap length (sym parameters_are)

  few_taken : places_of g.parameters ≤ 254
  few_taken =
      let l = ap length parameters_are in
      let both = length-append (receiver_types s0.classes s0.class m) (parameter_types s0.classes g) in
      let taken = all_taken s0.classes g.parameters (no_floats k.name.descriptor g described floatless) in
      omega (arith, l, both, taken, places_are, few)

  same_receiver : receiver_types s.classes s.class y ≡ receiver_types s0.classes s0.class m
  same_receiver = ap (λ (b : Bool). if b then [] else type.Ref (class_read s.classes (own_name s.class)) ∷ []) (static_stays m y flags) ∙ alike.receiver

  takes : receiver_types s.classes s.class y ++ parameter_types s.classes (wider g) ≡ k.parameters ++ context ∷ []
  takes =
      let all : parameter_types s.classes (wider g) ≡ parameter_types s0.classes g ++ context ∷ [] =
      taken_append s.classes g.parameters (types.Reference context_class ∷ []) ∙ ap (λ (l : List VType). parameter_types s.classes g ++ l) (context_taken s.classes) ∙ ap (λ (l : List VType). l ++ context ∷ []) (alike.parameters g signed) in
      ap (λ (l : List VType). l ++ parameter_types s.classes (wider g)) same_receiver ∙ ap (λ (l : List VType). receiver_types s0.classes s0.class m ++ l) all
      ∙ sym (append_assoc (receiver_types s0.classes s0.class m) (parameter_types s0.classes g) (context ∷ [])) ∙ ap (λ (l : List VType). l ++ context ∷ []) (sym parameters_are)

  pub head_is : IsHeadOf s y k g
  head_is = record {
    name =
        ap (λ (n : List ℕ). named_so n (text_or_none (utf8 s.class.pool y.name)) (text_or_none (utf8 s.class.pool y.descriptor))) own_is
        ∙ ap (λ (o : Option (List ℕ)). named_so k.name.class (text_or_none o) (text_or_none (utf8 s.class.pool y.descriptor))) named
        ∙ ap (λ (o : Option (List ℕ)). named_so k.name.class (duplicate_name k.name.name) (text_or_none o)) typed;
    dispatch = dispatch_stays s0.class s.class m y flags named_before ∙ sym (ap (λ (k : Method). k.dispatch) is);
    signed = ap (λ (o : Option (List ℕ)). signature_of (text_or_none o)) typed ∙ widened k.name.descriptor g described few_taken;
    parameters = takes;
    places = (let l = ap length takes in let both = length-append k.parameters (context ∷ []) in omega (arith, l, both, places_are));
    result = alike.result g signed ∙ sym (ap (λ (k : Method). k.result) is);
    retries = retries_none s0.class s.class m y flags named_before unmarked;
  }
