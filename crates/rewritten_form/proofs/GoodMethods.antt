-- The names in the types of fields and methods of a linked program are good.
use Rattle.std.proofs.Common.{◌≡◌, ℕ, Bool, true, false, not, List, [], ◌∷◌, ◌++◌, Option, Some, None, refl, sym, ap, ◌∙◌, subst}
use Rattle.std.specs.Prelude.{codes, bytes_eq, option_map, if◌then◌else◌, IfSome}
use Rattle.std.specs.List.{AllByRecursion, flat_map}
use Rattle.std.proofs.lemmas.List.Concat.{flat_map-cons}
use Rattle.std.proofs.lemmas.Slice.Eq.{bytes_eq-Decides}
use Rattle.jmodel.specs.declared.class_file.FieldType.{FieldType}
use Rattle.jmodel.specs.declared.class_file.FieldType.TheVariants as types
use Rattle.jmodel.specs.declared.typing.VType.{VType}
use Rattle.jmodel.specs.declared.typing.VType.TheVariants.{Ref}
use Rattle.jmodel.specs.format.ClassFile.{Member, ClassFile}
use Rattle.jmodel.specs.format.ClassRules.{IsClassFile}
use Rattle.objects.specs.linking.Classes.{Declared}
use Rattle.jmodel.specs.format.Descriptor.{field_descriptor, result_descriptor, method_descriptor, IsFieldType, DescribesMethod}
use Rattle.jmodel.specs.format.Pool.{text_or_none, utf8}
use Rattle.objects.specs.linking.Members.{is_static, own_name}
use Rattle.objects.specs.declared.op.WordType.{WordType}
use Rattle.objects.specs.declared.op.WordType.TheVariants as word
use Rattle.objects.specs.semantics.Program.{Field, Method, Program, field_at}
use Rattle.objects.specs.typing.TypeOrder.{object_class, stack_types, place_types}
use Rattle.objects.specs.typing.Typing.{result_types, results}
use Rattle.objects.specs.linking.Layout.{class_read, name_read, declared_as}
use Rattle.objects.specs.linking.Linking.{receiver_types, parameter_types}
use Rattle.objects.specs.laws.LinkingLaw.{AreRead}
use Rattle.objects.specs.rewriting.Rewriting.{as_result}
use Rattle.objects.proofs.AsRead.{is_file}
use Rattle.objects.proofs.DeclaredMembers.{of_methods}
use Rattle.objects.proofs.Fields.{each_at}
use Rattle.objects.proofs.Items.{IsAt}
use Rattle.objects.proofs.Links.{IsLinkedTo, IsFrom}
use Rattle.objects.proofs.TakenMembers.{in_methods}
use Rattle.const_pool.proofs.Signatures.{signature_found}
use Rattle.field_members.specs.Accessors.{is_cast}
use Rattle.rewritten_form.proofs.Lists.{all_append}
use Rattle.rewritten_form.proofs.Adding.{IsText, IsClassText}
use Rattle.rewritten_form.proofs.FieldPools.{IsLawfulField}
use Rattle.rewritten_form.proofs.ReadNames.{same_array, name_lawful, reference_text, text_front}
use Rattle.rewritten_form.proofs.SourceTexts.{own_named, text_lawful, fields_lawful}
use Rattle.rewritten_form.proofs.GoodNames.{is_good, plain_good, text_is_good}
use Rattle.rewritten_form.proofs.GoodTypes.{IsGood}
use Rattle.rewritten_form.proofs.GoodRows.{class_read_lawful}

text_behind : (xs ys : List ℕ) → IsText (xs ++ ys) → IsText ys
text_behind [] ys h = h
text_behind (x ∷ xs) ys h = text_behind xs ys h.1

module _ (cs : List ClassFile) (P : Program) (read : AreRead cs) (l : IsLinkedTo cs P) where
  -- ---- fields

  word_good : (w : WordType) (c : List ℕ) → (is_cast w c ≡ true → IsClassText c) → AllByRecursion (IsGood P) (stack_types (record { word = w; class = c }))
  word_good word.Boolean c h = (tt, tt)
  word_good word.Byte c h = (tt, tt)
  word_good word.Char c h = (tt, tt)
  word_good word.Short c h = (tt, tt)
  word_good word.Int c h = (tt, tt)
  word_good word.Long c h = (tt, (tt, tt))
  word_good word.Reference c h = (go (bytes_eq c object_class) refl h, tt)
    where
      go : (b : Bool) → bytes_eq c object_class ≡ b → (not b ≡ true → IsClassText c) → is_good c ≡ true
      go true e f = subst (λ (n : List ℕ). is_good n ≡ true) (sym ((bytes_eq-Decides c object_class).0 e)) refl
      go false e f = text_is_good c (f refl)

  pub field_good : (i : ℕ) (f : Field) → field_at P i ≡ Some f → AllByRecursion (IsGood P) (stack_types f.declared)
  field_good i f e = word_good f.declared.word f.declared.class (each_at IsLawfulField P.fields i f (fields_lawful cs P read l) e).cast

  -- ---- types in descriptors

  name_good : (n : List ℕ) → IsFieldType (types.Reference n) → IsText (field_descriptor (types.Reference n)) → is_good (name_read cs n) ≡ true
  name_good n h t = text_is_good (name_read cs n) (name_lawful cs n (reference_text n h t) h)

  places_good : (t : FieldType) → IsFieldType t → IsText (field_descriptor t) → AllByRecursion (IsGood P) (place_types (declared_as cs t))
  places_good (types.Reference n) h t = (name_good n h t, tt)
  places_good types.Boolean h t = (tt, tt)
  places_good types.Byte h t = (tt, tt)
  places_good types.Char h t = (tt, tt)
  places_good types.Short h t = (tt, tt)
  places_good types.Int h t = (tt, tt)
  places_good types.Long h t = (tt, (tt, tt))
  places_good types.Float h t = (tt, tt)
  places_good types.Double h t = (tt, tt)

  given_good : (t : FieldType) → IsFieldType t → IsText (field_descriptor t) → AllByRecursion (IsGood P) (result_types (Some (as_result (declared_as cs t))))
  given_good (types.Reference n) h t = (name_good n h t, tt)
  given_good types.Boolean h t = (tt, tt)
  given_good types.Byte h t = (tt, tt)
  given_good types.Char h t = (tt, tt)
  given_good types.Short h t = (tt, tt)
  given_good types.Int h t = (tt, tt)
  given_good types.Long h t = (tt, (tt, tt))
  given_good types.Float h t = (tt, tt)
  given_good types.Double h t = (tt, tt)

  parameters_good : (ts : List FieldType) → AllByRecursion IsFieldType ts → IsText (flat_map field_descriptor ts) → AllByRecursion (IsGood P) (flat_map (λ (t : FieldType). place_types (declared_as cs t)) ts)
  parameters_good [] h t = tt
  parameters_good (x ∷ ts) h t =
      let text : IsText (field_descriptor x ++ flat_map field_descriptor ts) = subst IsText (flat_map-cons field_descriptor x ts) t in
      subst (AllByRecursion (IsGood P)) (sym (flat_map-cons (λ (t : FieldType). place_types (declared_as cs t)) x ts))
      (all_append (IsGood P) (place_types (declared_as cs x)) (flat_map (λ (t : FieldType). place_types (declared_as cs t)) ts)
      (places_good x h.0 (text_front (field_descriptor x) (flat_map field_descriptor ts) text)) (parameters_good ts h.1 (text_behind (field_descriptor x) (flat_map field_descriptor ts) text)))

  result_good : (o : Option FieldType) → IfSome o IsFieldType → IsText (result_descriptor o) → AllByRecursion (IsGood P) (result_types (option_map (λ (t : FieldType). as_result (declared_as cs t)) o))
  result_good None h t = tt
  result_good (Some x) h t = given_good x h t

  receiver_good : (c : ClassFile) (m : Member) → AllByRecursion (IsGood P) (receiver_types cs c m)
  receiver_good c m = go (is_static m)
    where
      go : (b : Bool) → AllByRecursion (IsGood P) (if b then [] else Ref (class_read cs (own_name c)) ∷ [])
      go true = tt
      go false = let r = class_read_lawful cs P read l (own_name c) in (plain_good (class_read cs (own_name c)) (same_array (class_read cs (own_name c)) ∙ r.named.no_array), tt)

  -- ---- methods

  module _ (i : ℕ) (k : Method) (f : IsFrom cs i k) where
    abbrev d : Declared
    d = f.member

    pub class_at : IsAt cs d.class
    class_at = (of_methods cs d (in_methods cs d (i, f.there))).0

    rules : IsClassFile d.class
    rules = is_file cs read d.class class_at

    abbrev text : List ℕ
    text = text_or_none (utf8 d.class.pool d.member.descriptor)

    signature : DescribesMethod text f.meant.signature
    signature = signature_found text f.meant.signature f.meant.described

    texts : IsText (method_descriptor f.meant.signature)
    texts = subst IsText signature.is (text_lawful d.class rules d.member.descriptor)

    pub class_good : is_good k.name.class ≡ true
    class_good =
        let named = own_named d.class rules in
        let own = plain_good (own_name d.class) (same_array (own_name d.class) ∙ named.no_array) in
        subst (λ (n : List ℕ). is_good n ≡ true) (sym (ap (λ (k : Method). k.name.class) f.meant.is)) own

    pub takes_good : AllByRecursion (IsGood P) k.parameters
    takes_good =
        let g = f.meant.signature in
        subst (AllByRecursion (IsGood P)) (sym (ap (λ (k : Method). k.parameters) f.meant.is))
        (all_append (IsGood P) (receiver_types cs d.class d.member) (parameter_types cs g) (receiver_good d.class d.member)
        (parameters_good g.parameters signature.signature.parameters (text_front (codes "(" ++ flat_map field_descriptor g.parameters) (codes ")") (text_front (codes "(" ++ flat_map field_descriptor g.parameters ++ codes ")") (result_descriptor g.result) texts)).1))

    pub gives_good : AllByRecursion (IsGood P) (results k)
    gives_good =
        let g = f.meant.signature in
        subst (λ (o : Option VType). AllByRecursion (IsGood P) (result_types o)) (sym (ap (λ (k : Method). k.result) f.meant.is))
        (result_good g.result signature.signature.result (text_behind (codes "(" ++ flat_map field_descriptor g.parameters ++ codes ")") (result_descriptor g.result) texts))
