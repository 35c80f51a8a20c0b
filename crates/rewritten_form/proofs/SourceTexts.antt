-- The fields and the methods of a linked program have texts that may stand in a class file, and so have the names in its code.
use Rattle.std.proofs.Common.{◌≡◌, ℕ, suc, ◌≤◌, Bool, true, false, ◌&&◌, List, [], ◌∷◌, ◌++◌, length, Option, Some, None, refl, sym, ap, ◌∙◌, subst, arith, inl, inr, length-append}
use Rattle.std.specs.Prelude.{codes, bytes_eq, option_and_then, IsSomeAnd, if◌then◌else◌}
use Rattle.std.specs.List.{AllByRecursion, flat_map, list_any}
use Rattle.std.proofs.lemmas.List.Concat.{flat_map-cons}
use Rattle.jmodel.specs.declared.class_file.Constant.{Constant}
use Rattle.jmodel.specs.declared.class_file.Constant.TheVariants as constants
use Rattle.jmodel.specs.declared.class_file.FieldType.{FieldType}
use Rattle.jmodel.specs.declared.class_file.FieldType.TheVariants as types
use Rattle.jmodel.specs.declared.name.MethodName.{MethodName}
use Rattle.jmodel.specs.format.ClassFile.{Member, Pool, ClassFile}
use Rattle.jmodel.specs.format.Pool.{entry, utf8, class_name, pair, pair_in, both, named, member_in, member_name, MemberName, text_or_none}
use Rattle.jmodel.specs.format.ClassRules.{IsPool, IsField, IsMethod, IsClassFile}
use Rattle.objects.specs.linking.Classes.{Declared, declared_in, methods_in, full_name}
use Rattle.jmodel.specs.format.Descriptor.{field_descriptor, places, places_of, IsClassName, IsFieldType, IsFieldDescriptor, IsMethodDescriptor, DescribesField}
use Rattle.jmodel.specs.format.DescriptorReading.{type_of}
use Rattle.objects.specs.linking.Members.{is_static, own_name}
use Rattle.objects.specs.linking.Superclasses.{super_name, lineage}
use Rattle.objects.specs.semantics.Program.{Field, Method, Program, method_at}
use Rattle.objects.specs.typing.TypeOrder.{place_types}
use Rattle.objects.specs.linking.Resolution.{is_interface, holds_of, resolved_method, special_method, selected_from, is_selected_by, has_name}
use Rattle.objects.specs.linking.Constructs.{is_floating, has_floats}
use Rattle.objects.specs.linking.Decoding.{number_of, method_number}
use Rattle.objects.specs.linking.Layout.{declared_as, field_type, words_upward, field_record, if_not, fields_behind, class_fields, fields_from}
use Rattle.objects.specs.linking.Linking.{receiver_types, parameter_types, taken_methods, original_symbols}
use Rattle.objects.specs.laws.LinkingLaw.{AreRead}
use Rattle.objects.specs.rewriting.Rewriting.{context_type, with_context, duplicate_name}
use Rattle.objects.proofs.Items.{IsAt, item, into_map, into_flat, found}
use Rattle.objects.proofs.CleanCode.{clean_whole, taken_clean}
use Rattle.objects.proofs.Links.{IsLinkedTo, IsFrom, method_from}
use Rattle.objects.proofs.AsRead.{is_file}
use Rattle.objects.proofs.DeclaredMembers.{HasName, of_methods, name_of_member}
use Rattle.objects.proofs.TakenMembers.{in_methods}
use Rattle.objects.proofs.ResolvedMembers.{method_resolves, special_cases, numbered, lineage_in}
use Rattle.const_pool.proofs.Signatures.{signature_found}
use Rattle.const_pool.proofs.Types.{of_type}
use Rattle.field_members.specs.Names.{receiver_type, getter_named, setter_named}
use Rattle.field_members.specs.Accessors.{is_cast}
use Rattle.rewritten_form.proofs.Lists.{all_append, or_false}
use Rattle.rewritten_form.proofs.Adding.{IsText, IsClassText, IsMethodText}
use Rattle.rewritten_form.proofs.Texts.{text_good, text_append, context_text, pool_text, pool_class}
use Rattle.rewritten_form.proofs.FieldPools.{IsLawfulField}
use Rattle.rewritten_form.proofs.CopyPools.{IsLawfulMethod, IsCopyText}
use Rattle.rewritten_form.proofs.ContextTypes.{context_describes, getter_describes, setter_describes}
use Rattle.rewritten_form.proofs.ReadNames.{class_lawful, name_lawful, reference_text}

-- ---- texts of a class file

-- a text, or none in its place
some_text : (o : Option (List ℕ)) → ((t : List ℕ) → o ≡ Some t → IsText t) → IsText (text_or_none o)
some_text None h = tt
some_text (Some t) h = h t refl

some_named : (o : Option (List ℕ)) → IsSomeAnd o IsClassName → IsClassName (text_or_none o)
some_named None h = absurd h
some_named (Some t) h = h

-- the name of a class of a file
pub own_named : (c : ClassFile) → IsClassFile c → IsClassName (own_name c)
own_named c rules = some_named (class_name c.pool c.this_class) rules.this_name

pub own_lawful : (c : ClassFile) → IsClassFile c → IsClassText (own_name c)
own_lawful c rules = class_lawful (own_name c) (some_text (class_name c.pool c.this_class) (λ t e. (pool_class c.pool rules.pool c.this_class t e).text)) (own_named c rules)

-- the text of an index
pub text_lawful : (c : ClassFile) → IsClassFile c → (i : ℕ) → IsText (text_or_none (utf8 c.pool i))
text_lawful c rules i = some_text (utf8 c.pool i) (pool_text c.pool rules.pool i)

described : (o : Option (List ℕ)) (Q : List ℕ → Type 0) → IsSomeAnd o Q → Q (text_or_none o)
described None Q h = absurd h
described (Some t) Q h = h

-- the name of a method's duplicate
renamed_text : (n : List ℕ) → IsText n → IsText (duplicate_name n)
renamed_text n own = go (bytes_eq n (codes "<clinit>"))
  where
    go : (b : Bool) → IsText (if b then codes "__CLINIT__" else n)
    go true = text_good (codes "__CLINIT__") refl
    go false = own

-- ---- names in code

-- the texts of a name that the pool has
pub record AreNameTexts (n : MemberName) : Type 0 where
  pub class : IsClassText n.class
  pub name : IsText n.name
  pub descriptor : IsText n.descriptor

module _ (pool : Pool) (p : IsPool pool) where
  pair_of : (o q : Option (List ℕ)) (x : List ℕ × List ℕ) → ((t : List ℕ) → o ≡ Some t → IsText t) → ((t : List ℕ) → q ≡ Some t → IsText t) → both o q ≡ Some x → IsText x.0 × IsText x.1
  pair_of None q x f g e = cc
  pair_of (Some a) None x f g e = cc
  pair_of (Some a) (Some b) x f g e = let s : (a, b) ≡ x = cc in subst (λ (x : List ℕ × List ℕ). IsText x.0 × IsText x.1) s (f a refl, g b refl)

  pair_texts : (i : ℕ) (x : List ℕ × List ℕ) → pair pool i ≡ Some x → IsText x.0 × IsText x.1
  pair_texts i x e = go (entry pool i) e
    where
      by : (c : Constant) → pair_in pool c ≡ Some x → IsText x.0 × IsText x.1
      by (constants.NameAndType n d) h = pair_of (utf8 pool n) (utf8 pool d) x (pool_text pool p n) (pool_text pool p d) h
      by c h = cc

      go : (o : Option Constant) → option_and_then (pair_in pool) o ≡ Some x → IsText x.0 × IsText x.1
      go None h = cc
      go (Some c) h = by c h

  named_of : (o : Option (List ℕ)) (q : Option (List ℕ × List ℕ)) (n : MemberName) → ((t : List ℕ) → o ≡ Some t → IsClassText t) → ((x : List ℕ × List ℕ) → q ≡ Some x → IsText x.0 × IsText x.1) → named o q ≡ Some n → AreNameTexts n
  named_of None q n f g e = cc
  named_of (Some a) None n f g e = cc
  named_of (Some a) (Some b) n f g e =
      let s : record { class = a; name = b.0; descriptor = b.1 } ≡ n = cc in
      let t = g b refl in
      subst AreNameTexts s (record { class = f a refl; name = t.0; descriptor = t.1 })

  pub name_texts : (i : ℕ) (n : MemberName) → member_name pool i ≡ Some n → AreNameTexts n
  name_texts i n e = go (entry pool i) e
    where
      by : (c : Constant) → member_in pool c ≡ Some n → AreNameTexts n
      by (constants.Field k q) h = named_of (class_name pool k) (pair pool q) n (pool_class pool p k) (pair_texts q) h
      by (constants.Method k q) h = named_of (class_name pool k) (pair pool q) n (pool_class pool p k) (pair_texts q) h
      by (constants.InterfaceMethod k q) h = named_of (class_name pool k) (pair pool q) n (pool_class pool p k) (pair_texts q) h
      by c h = cc

      go : (o : Option Constant) → option_and_then (member_in pool) o ≡ Some n → AreNameTexts n
      go None h = cc
      go (Some c) h = by c h

-- ---- fields

cast_lawful : (cs : List ClassFile) (t : FieldType) → IsFieldType t → IsText (field_descriptor t) → is_cast (declared_as cs t).word (declared_as cs t).class ≡ true → IsClassText (declared_as cs t).class
cast_lawful cs (types.Reference n) h text e = name_lawful cs n (reference_text n h text) h
cast_lawful cs types.Boolean h text e = cc
cast_lawful cs types.Byte h text e = cc
cast_lawful cs types.Char h text e = cc
cast_lawful cs types.Short h text e = cc
cast_lawful cs types.Int h text e = cc
cast_lawful cs types.Long h text e = cc
cast_lawful cs types.Float h text e = cc
cast_lawful cs types.Double h text e = cc

-- what follows of a field by its texts
field_by : (f : Field) (t : FieldType) → IsClassText f.class → IsClassName f.class → IsText f.name → IsText f.descriptor → DescribesField f.descriptor t → (is_cast f.declared.word f.declared.class ≡ true → IsClassText f.declared.class) → IsLawfulField f
field_by f t owner class name text D cast = record {
  owner = owner;
  class_named = class;
  name = name;
  text = text;
  type = t;
  describes = D;
  cast = cast;
  getter = record {
    owner = owner;
    named = text_append f.name (codes "__Getter$") name (text_good (codes "__Getter$") refl);
    text = getter_text f.base refl;
    typed = getter_describes f class t D;
  };
  setter = record {
    owner = owner;
    named = text_append f.name (codes "__Setter$") name (text_good (codes "__Setter$") refl);
    text = setter_text f.base refl;
    typed = setter_describes f class t D;
  };
}
  where
    receiver : (o : Option ℕ) → f.base ≡ o → IsText (receiver_type f)
    receiver None e = rw e (text_append (codes "L" ++ f.class) (codes ";") (text_append (codes "L") f.class (text_good (codes "L") refl) owner.text) (text_good (codes ";") refl))
    receiver (Some o) e = rw e tt

    getter_text : (o : Option ℕ) → f.base ≡ o → IsText (getter_named f).descriptor
    getter_text o e =
        text_append (codes "(" ++ receiver_type f ++ context_type ++ codes ")") f.descriptor
        (text_append (codes "(" ++ receiver_type f ++ context_type) (codes ")") (text_append (codes "(" ++ receiver_type f) context_type (text_append (codes "(") (receiver_type f) (text_good (codes "(") refl) (receiver o e)) (text_good context_type refl)) (text_good (codes ")") refl)) text

    setter_text : (o : Option ℕ) → f.base ≡ o → IsText (setter_named f).descriptor
    setter_text o e =
        text_append (codes "(" ++ receiver_type f ++ f.descriptor ++ context_type) (codes ")V")
        (text_append (codes "(" ++ receiver_type f ++ f.descriptor) context_type (text_append (codes "(" ++ receiver_type f) f.descriptor (text_append (codes "(") (receiver_type f) (text_good (codes "(") refl) (receiver o e)) text) (text_good context_type refl)) (text_good (codes ")V") refl)

module _ (cs : List ClassFile) where
  module _ (n : ℕ) (c : ClassFile) (rules : IsClassFile c) where
    record_lawful : (m : Member) (index : ℕ) → IsField c.pool m → IsLawfulField (field_record cs n c m index)
    record_lawful m index h =
        let text = text_lawful c rules m.descriptor in
        let D = described (utf8 c.pool m.descriptor) IsFieldDescriptor h.typed in
        let type : field_type c.pool m ≡ D.0 = ap type_of D.1.is ∙ of_type D.0 D.1.type in
        field_by (field_record cs n c m index) D.0 (own_lawful c rules) (own_named c rules) (text_lawful c rules m.name) text D.1
        (subst (λ (t : FieldType). is_cast (declared_as cs t).word (declared_as cs t).class ≡ true → IsClassText (declared_as cs t).class) (sym type) (cast_lawful cs D.0 D.1.type (subst IsText D.1.is text)))

    behind_lawful : (s w : ℕ) (ms : List Member) → AllByRecursion (IsField c.pool) ms → AllByRecursion IsLawfulField (fields_behind cs n c s w ms)
    behind_lawful s w [] h = tt
    behind_lawful s w (m ∷ ms) h = go (is_static m) (is_floating (field_type c.pool m)) (behind_lawful (suc s) w ms h.1) (behind_lawful s (suc w) ms h.1)
      where
        go : (a b : Bool) → AllByRecursion IsLawfulField (fields_behind cs n c (suc s) w ms) → AllByRecursion IsLawfulField (fields_behind cs n c s (suc w) ms)
            → AllByRecursion IsLawfulField (if a then if_not b (field_record cs n c m s) (fields_behind cs n c (suc s) w ms) else if_not b (field_record cs n c m w) (fields_behind cs n c s (suc w) ms))
        go true true first second = first
        go true false first second = (record_lawful m s h.0, first)
        go false true first second = second
        go false false first second = (record_lawful m w h.0, second)

    class_lawful_fields : AllByRecursion IsLawfulField (class_fields cs n c)
    class_lawful_fields = go (is_interface c)
      where
        go : (b : Bool) → AllByRecursion IsLawfulField (if b then [] else fields_behind cs n c 0 (length (words_upward cs (super_name c))) c.fields)
        go true = tt
        go false = behind_lawful 0 (length (words_upward cs (super_name c))) c.fields rules.fields

  from_lawful : (n : ℕ) (ds : List ClassFile) → AllByRecursion IsClassFile ds → AllByRecursion IsLawfulField (fields_from cs n ds)
  from_lawful n [] h = tt
  from_lawful n (d ∷ ds) h = all_append IsLawfulField (class_fields cs n d) (fields_from cs (suc n) ds) (class_lawful_fields n d h.0) (from_lawful (suc n) ds h.1)

-- the fields of a linked program
pub fields_lawful : (cs : List ClassFile) (P : Program) → AreRead cs → IsLinkedTo cs P → AllByRecursion IsLawfulField P.fields
fields_lawful cs P read l = subst (AllByRecursion IsLawfulField) (sym (ap (λ (P : Program). P.fields) l.is)) (from_lawful cs 0 cs read.files)

-- ---- methods

-- as many places as values of no floating type take
one_places : (cs : List ClassFile) (t : FieldType) → is_floating t ≡ false → length (place_types (declared_as cs t)) ≡ places t
one_places cs types.Boolean h = refl
one_places cs types.Byte h = refl
one_places cs types.Char h = refl
one_places cs types.Short h = refl
one_places cs types.Int h = refl
one_places cs types.Long h = refl
one_places cs types.Float h = cc
one_places cs types.Double h = cc
one_places cs (types.Reference n) h = refl

all_places : (cs : List ClassFile) (ts : List FieldType) → list_any is_floating ts ≡ false → length (flat_map (λ (t : FieldType). place_types (declared_as cs t)) ts) ≡ places_of ts
all_places cs [] h = refl
all_places cs (t ∷ ts) h =
    let a = or_false (is_floating t) (list_any is_floating ts) h in
    let list = ap length (flat_map-cons (λ (t : FieldType). place_types (declared_as cs t)) t ts) in
    omega (arith, list, length-append (place_types (declared_as cs t)) (flat_map (λ (t : FieldType). place_types (declared_as cs t)) ts), one_places cs t a.0, all_places cs ts a.1)

module _ (cs : List ClassFile) (P : Program) (read : AreRead cs) (l : IsLinkedTo cs P) where
  module _ (i : ℕ) (k : Method) (f : IsFrom cs i k) where
    abbrev d : Declared
    d = f.member

    taken : IsAt (taken_methods cs) d
    taken = (i, f.there)

    class_at : IsAt cs d.class
    class_at = (of_methods cs d (in_methods cs d taken)).0

    rules : IsClassFile d.class
    rules = is_file cs read d.class class_at

    form : IsMethod d.class.pool d.member
    form = item (IsMethod d.class.pool) d.class.methods d.member rules.methods (of_methods cs d (in_methods cs d taken)).1

    name_is : k.name ≡ full_name d
    name_is = ap (λ (k : Method). k.name) f.meant.is

    few_places : k.places ≤ 254 → places_of f.meant.signature.parameters ≤ 254
    few_places few =
        let M = f.meant in
        let clean = (clean_whole cs d (taken_clean cs l.constructs d taken)).float in
        let signed = M.described in
        let none : has_floats M.signature ≡ false = ap (holds_of has_floats) (sym signed) ∙ clean in
        let params = (or_false (list_any is_floating M.signature.parameters) (holds_of is_floating M.signature.result) none).0 in
        let many : k.places ≡ length (receiver_types cs d.class d.member ++ parameter_types cs M.signature) = ap (λ (k : Method). k.places) M.is in
        omega (arith, few, many, length-append (receiver_types cs d.class d.member) (parameter_types cs M.signature), all_places cs M.signature.parameters params)

    from_lawful_method : k.places ≤ 254 → IsLawfulMethod k
    from_lawful_method few =
        let M = f.meant in
        let D = signature_found (text_or_none (utf8 d.class.pool d.member.descriptor)) M.signature M.described in
        subst (λ (n : MethodName). IsMethodText n.class (duplicate_name n.name) (with_context n.descriptor)) (sym name_is) (record {
          owner = own_lawful d.class rules;
          named = renamed_text (text_or_none (utf8 d.class.pool d.member.name)) (text_lawful d.class rules d.member.name);
          text = context_text (text_or_none (utf8 d.class.pool d.member.descriptor)) (text_lawful d.class rules d.member.descriptor);
          typed = context_describes (text_or_none (utf8 d.class.pool d.member.descriptor)) M.signature D (few_places few);
        })

  -- a method of the program that takes few arguments
  pub method_lawful : (i : ℕ) (k : Method) → method_at P i ≡ Some k → k.places ≤ 254 → IsLawfulMethod k
  method_lawful i k e = from_lawful_method i k (method_from cs P l i k e)

  -- ---- what calls name

  -- the descriptor of the method that a name stands for
  described_by : (c : ClassFile) (n : MemberName) (k : Declared) (m : ℕ) → IsAt (methods_in cs) k → HasName k n → number_of (original_symbols cs c) k ≡ Some m → (o : Method) × (method_at P m ≡ Some o) × (o.name.descriptor ≡ n.descriptor)
  described_by c n k m at named e =
      let h = numbered cs P read l c k m at e in
      let is : h.method.name.descriptor ≡ text_or_none (utf8 h.from.member.class.pool h.from.member.member.descriptor) = ap (λ (k : Method). k.name.descriptor) h.from.meant.is in
      (h.method, h.there, is ∙ ap (λ (d : Declared). text_or_none (utf8 d.class.pool d.member.descriptor)) h.is ∙ ap text_or_none named.descriptor)

  pub method_described : (c : ClassFile) (n : MemberName) (m : ℕ) → method_number (original_symbols cs c) n ≡ Some m → (o : Method) × (method_at P m ≡ Some o) × (o.name.descriptor ≡ n.descriptor)
  method_described c n m e = go (resolved_method cs n) refl e
    where
      go : (o : Option Declared) → resolved_method cs n ≡ o → option_and_then (number_of (original_symbols cs c)) o ≡ Some m → (o : Method) × (method_at P m ≡ Some o) × (o.name.descriptor ≡ n.descriptor)
      go None q h = cc
      go (Some k) q h = let r = method_resolves cs n k q in described_by c n k m r.0 r.1 h

  and_first : (a b : Bool) → (a && b) ≡ true → a ≡ true
  and_first true b e = refl
  and_first false b e = cc

  selected_resolves : (name : List ℕ) (n : MemberName) (k : Declared) → selected_from cs name n ≡ Some k → IsAt (methods_in cs) k × HasName k n
  selected_resolves name n k e =
      let f = found (is_selected_by n) (methods_in (lineage cs name)) k e in
      let p = of_methods (lineage cs name) k f.0 in
      (into_flat (λ (c : ClassFile). declared_in c c.methods) cs k.class k (lineage_in cs name k.class p.0) (into_map (λ m. record { class = k.class; member = m }) k.class.methods k.member p.1), name_of_member n k (and_first (has_name n k) _ f.1))

  pub special_described : (c : ClassFile) (n : MemberName) (m : ℕ) → option_and_then (number_of (original_symbols cs c)) (special_method cs c n) ≡ Some m → (o : Method) × (method_at P m ≡ Some o) × (o.name.descriptor ≡ n.descriptor)
  special_described c n m e = go (resolved_method cs n) refl (special_method cs c n) refl e
    where
      none : (x : Declared) → resolved_method cs n ≡ None → special_method cs c n ≡ Some x → ⊥
      none x q s = let t : special_method cs c n ≡ None = rw q refl in absurd cc

      go : (r : Option Declared) → resolved_method cs n ≡ r → (o : Option Declared) → special_method cs c n ≡ o → option_and_then (number_of (original_symbols cs c)) o ≡ Some m → (o : Method) × (method_at P m ≡ Some o) × (o.name.descriptor ≡ n.descriptor)
      go r q None s h = cc
      go None q (Some x) s h = absurd (none x q s)
      go (Some k) q (Some x) s h = elim (special_cases cs c n k x q s) [
        | inl same ↦ let r = method_resolves cs n k q in described_by c n x m (subst (λ (y : Declared). IsAt (methods_in cs) y) same r.0) (subst (λ (y : Declared). HasName y n) same r.1) h
        | inr chosen ↦ let r = selected_resolves (super_name c) n x chosen in described_by c n x m r.0 r.1 h
      ]

  -- the duplicate of what a name in code stands for
  pub copy_text : (c : ClassFile) → IsClassFile c → (i : ℕ) (n : MemberName) (m : ℕ) → member_name c.pool i ≡ Some n → (o : Method) × (method_at P m ≡ Some o) × (o.name.descriptor ≡ n.descriptor) → ((o : Method) → method_at P m ≡ Some o → o.places ≤ 254) → IsCopyText n
  copy_text c rules i n m e h few =
      let t = name_texts c.pool rules.pool i n e in
      let L = method_lawful m h.0 h.1 (few h.0 h.1) in
      record { owner = t.class; named = renamed_text n.name t.name; text = context_text n.descriptor t.descriptor; typed = subst (λ (d : List ℕ). IsMethodDescriptor (with_context d)) h.2 L.typed }
