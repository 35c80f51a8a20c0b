-- A class with the fields that are added keeps the rules.
use Rattle.std.proofs.Common.{◌≡◌, ◌≢◌, ℕ, suc, ◌+◌, Bool, true, false, List, [], ◌∷◌, ◌++◌, length, map, Some, Ok, refl, sym, ap, ◌∙◌, subst, arith}
use Rattle.std.specs.Prelude.{codes}
use Rattle.std.specs.Int.{w64, cast_signed}
use Rattle.std.specs.List.{AllByRecursion}
use Rattle.std.proofs.lemmas.List.{append_cancel_right}
use Rattle.jmodel.specs.format.ClassFile.{Attribute, Member, Pool, ClassFile}
use Rattle.jmodel.specs.format.Pool.{utf8}
use Rattle.jmodel.specs.format.ClassRules.{IsPool, AreAttributes, IsField, IsClassFile}
use Rattle.jmodel.specs.format.Descriptor.{IsFieldDescriptor}
use Rattle.jmodel.specs.format.DescriptorReading.{element_rest, type_rest, is_field_descriptor}
use Rattle.objects.specs.linking.Reserved.{has_part, is_reserved}
use Rattle.objects.specs.linking.Members.{are_distinct, field_name_of}
use Rattle.objects.specs.semantics.Program.{Field}
use Rattle.const_pool.proofs.Signatures.{is_field}
use Rattle.const_pool.proofs.Takes.{bind_ok, ok_is}
use Rattle.member_code.specs.Coding.{high, low}
use Rattle.member_code.proofs.Grown.{Grown, grown_refl, grown_trans}
use Rattle.member_code.proofs.Puts.{Puts, Adding, AllPut, adds_all, adds_text, adds_long, adds_typed}
use Rattle.member_code.proofs.Straight.{no_attributes}
use Rattle.field_members.specs.Names.{address_name, base_name, base_type}
use Rattle.field_members.specs.Fields.{added_field, constant_value, address_of, static_base, needs_base, bases, added_fields, and_fields, with_fields}
use Rattle.rewritten_form.proofs.Lists.{all_append, or_later}
use Rattle.rewritten_form.proofs.StillForms.{two_bytes, some_text, text_fits}
use Rattle.rewritten_form.proofs.Keys.{Key, AreKeyed, IsUnnamed, AreOtherNames, IsNamedFree, IsNamedReserved, keyed_append, keys_grown, key_of, distinct, names_unlike, names_append, named_apart, names_few, names_free, tested_names, shows_address}
use Rattle.rewritten_form.proofs.FieldPools.{IsLawfulField, fields_pool}
use Rattle.rewritten_form.proofs.ClassSteps.{members_keyed, made_rules, own_methods, fields_still}

-- ---- what is added

-- the attribute of a constant
pub record IsConstantAt (Z : Pool) (a : Attribute) : Type 0 where
  pub named : utf8 Z a.name ≡ Some (codes "ConstantValue")
  pub two : length a.bytes ≡ 2

constant_puts : (n : _) → Adding IsConstantAt (constant_value n)
unfolding constant_value
constant_puts n pool r s e =
    let a = bind_ok _ _ r e in
    let b = bind_ok _ _ r a.2 in
    let p = adds_text (codes "ConstantValue") pool a.0 s a.1 in
    let q = adds_long n a.0.1 b.0 p.short b.1 in
    subst (Puts IsConstantAt pool) (ok_is (record { name = a.0.0; bytes = high b.0.0 ∷ low b.0.0 ∷ [] }, b.0.1) r b.2)
    (record { grown = grown_trans pool a.0.1 b.0.1 p.grown q.grown; short = q.short; facts = λ Z g. record { named = p.facts Z (grown_trans a.0.1 b.0.1 Z q.grown g); two = refl } })

-- an address field
pub record IsAddress (f : Field) (Z : Pool) (m : Member) : Type 0 where
  pub flags : m.flags ≡ 0x1019
  pub named : utf8 Z m.name ≡ Some (address_name f)
  pub typed : utf8 Z m.descriptor ≡ Some (codes "J")
  pub constant : Attribute
  pub attributes : m.attributes ≡ constant ∷ []
  pub is_constant : IsConstantAt Z constant

address_puts : (f : Field) → Adding (IsAddress f) (address_of f)
unfolding address_of
address_puts f pool r s e =
    let a = bind_ok _ _ r e in
    let b = bind_ok _ _ r a.2 in
    let p = adds_typed (address_name f) (codes "J") pool a.0 s a.1 in
    let q = constant_puts (cast_signed w64 (suc f.index)) a.0.1 b.0 p.short b.1 in
    subst (Puts (IsAddress f) pool) (ok_is (added_field a.0.0 (b.0.0 ∷ []), b.0.1) r b.2)
    (record {
      grown = grown_trans pool a.0.1 b.0.1 p.grown q.grown;
      short = q.short;
      facts = λ Z g. let h = p.facts Z (grown_trans a.0.1 b.0.1 Z q.grown g) in record { flags = refl; named = h.0; typed = h.1; constant = b.0.0; attributes = refl; is_constant = q.facts Z g };
    })

-- the field for the static base
pub record IsBase (Z : Pool) (m : Member) : Type 0 where
  pub flags : m.flags ≡ 0x1019
  pub named : utf8 Z m.name ≡ Some base_name
  pub typed : utf8 Z m.descriptor ≡ Some base_type
  pub attributes : m.attributes ≡ []

base_puts : Adding IsBase static_base
unfolding static_base
base_puts pool r s e =
    let a = bind_ok _ _ r e in
    let p = adds_typed base_name base_type pool a.0 s a.1 in
    subst (Puts IsBase pool) (ok_is (added_field a.0.0 [], a.0.1) r a.2) (record { grown = p.grown; short = p.short; facts = λ Z g. let h = p.facts Z g in record { flags = refl; named = h.0; typed = h.1; attributes = refl } })

-- one such field, or none
abbrev pub AreBases : Pool → List Member → Type 0
AreBases Z [] = Unit {0}
AreBases Z (m ∷ []) = IsBase Z m
AreBases Z (m ∷ x ∷ ms) = ⊥

bases_put : (b : Bool) → Adding AreBases (bases b)
bases_put false pool r s e = subst (Puts AreBases pool) (ok_is ([], pool) r e) (record { grown = grown_refl pool; short = s; facts = λ Z g. tt })
bases_put true pool r s e =
    let a = bind_ok (static_base pool) (λ base. Ok (base.0 ∷ [], base.1)) r e in
    let p = base_puts pool a.0 s a.1 in
    subst (Puts AreBases pool) (ok_is (a.0.0 ∷ [], a.0.1) r a.2) (record { grown = p.grown; short = p.short; facts = p.facts })

pub record AreAdded (fs : List Field) (Z : Pool) (ms : List Member) : Type 0 where
  pub addresses : List Member
  pub base : List Member
  pub is : ms ≡ addresses ++ base
  pub each : AllPut (λ n f. IsAddress f) 0 fs Z addresses
  pub bases : AreBases Z base

pub fields_put : (fs : List Field) (b : Bool) → Adding (AreAdded fs) (added_fields fs b)
unfolding added_fields
fields_put fs b pool r s e =
    let a = bind_ok _ _ r e in
    let c = bind_ok _ _ r a.2 in
    let p = adds_all (λ n f. IsAddress f) (λ n f. address_of f) (λ n f. address_puts f) 0 fs pool a.0 s a.1 in
    let q = bases_put b a.0.1 c.0 p.short c.1 in
    subst (Puts (AreAdded fs) pool) (ok_is (a.0.0 ++ c.0.0, c.0.1) r c.2)
    (record { grown = grown_trans pool a.0.1 c.0.1 p.grown q.grown; short = q.short; facts = λ Z g. record { addresses = a.0.0; base = c.0.0; is = refl; each = p.facts Z (grown_trans a.0.1 c.0.1 Z q.grown g); bases = q.facts Z g } })

-- ---- they keep the rules of fields

-- the descriptor of an address field
long_type : IsFieldDescriptor (codes "J")
unfolding element_rest type_rest is_field_descriptor
long_type = is_field (codes "J") refl

-- the descriptor of the field for the static base
object_type : IsFieldDescriptor base_type
unfolding element_rest type_rest is_field_descriptor
object_type = is_field base_type refl

module _ (Z : Pool) (p : IsPool Z) where
  -- a field by the texts of its name and its descriptor
  named_field : (m : Member) (name type : List ℕ) → m.flags ≡ 0x1019 → utf8 Z m.name ≡ Some name → utf8 Z m.descriptor ≡ Some type → IsFieldDescriptor type → AreAttributes Z m.attributes → IsField Z m
  named_field m name type flags named typed fits attributes = record {
    flags = omega (arith, flags);
    name = two_bytes Z p m.name name named;
    descriptor = two_bytes Z p m.descriptor type typed;
    named = some_text (utf8 Z m.name) name named;
    typed = text_fits IsFieldDescriptor (utf8 Z m.descriptor) type typed fits;
    attributes = attributes;
  }

  -- an address field is a field
  address_form : (f : Field) (m : Member) → IsAddress f Z m → IsField Z m
  address_form f m h =
      let C = h.is_constant in
      let index = two_bytes Z p h.constant.name (codes "ConstantValue") C.named in
      let one : AreAttributes Z (h.constant ∷ []) =
      record { few = omega arith; each = (record { name = index; named = some_text (utf8 Z h.constant.name) (codes "ConstantValue") C.named; short = omega (arith, C.two) }, tt) } in
      named_field m (address_name f) (codes "J") h.flags h.named h.typed long_type (subst (AreAttributes Z) (sym h.attributes) one)

  -- all address fields are fields
  addresses_forms : (n : ℕ) (fs : List Field) (ms : List Member) → AllPut (λ n f. IsAddress f) n fs Z ms → AllByRecursion (IsField Z) ms
  addresses_forms n [] [] h = tt
  addresses_forms n [] (m ∷ ms) h = absurd h
  addresses_forms n (f ∷ fs) [] h = absurd h
  addresses_forms n (f ∷ fs) (m ∷ ms) h = (address_form f m h.0, addresses_forms (n + 1) fs ms h.1)

  -- the field for the static base is a field
  bases_forms : (ms : List Member) → AreBases Z ms → AllByRecursion (IsField Z) ms
  bases_forms [] h = tt
  bases_forms (m ∷ []) h = (named_field m base_name base_type h.flags h.named h.typed object_type (subst (AreAttributes Z) (sym h.attributes) (no_attributes Z)), tt)
  bases_forms (m ∷ x ∷ ms) h = absurd h

-- ---- their names

abbrev address_key : Field → Key
address_key f = (address_name f, codes "J")

abbrev address_keys : List Field → List Key
address_keys fs = map address_key fs

abbrev base_keys : List Member → List Key
base_keys [] = []
base_keys (m ∷ ms) = (base_name, base_type) ∷ []

module _ (Z : Pool) where
  addresses_keyed : (n : ℕ) (fs : List Field) (ms : List Member) → AllPut (λ n f. IsAddress f) n fs Z ms → AreKeyed Z ms (address_keys fs)
  addresses_keyed n [] [] h = tt
  addresses_keyed n [] (m ∷ ms) h = absurd h
  addresses_keyed n (f ∷ fs) [] h = absurd h
  addresses_keyed n (f ∷ fs) (m ∷ ms) h = (record { named = h.0.named; typed = h.0.typed }, addresses_keyed (n + 1) fs ms h.1)

  bases_keyed : (ms : List Member) → AreBases Z ms → AreKeyed Z ms (base_keys ms)
  bases_keyed [] h = tt
  bases_keyed (m ∷ []) h = (record { named = h.named; typed = h.typed }, tt)
  bases_keyed (m ∷ x ∷ ms) h = absurd h

-- no two fields have one name
abbrev pub AreApart : List Field → Type 0
AreApart [] = Unit {0}
AreApart (f ∷ fs) = AllByRecursion (λ (g : Field). f.name ≢ g.name) fs × AreApart fs

-- addresses of fields of different names have different names
address_unnamed : (f : Field) (fs : List Field) → AllByRecursion (λ (g : Field). f.name ≢ g.name) fs → IsUnnamed (address_keys fs) (address_key f)
address_unnamed f [] h = tt
address_unnamed f (g ∷ fs) h = (λ e. h.0 (append_cancel_right f.name g.name (codes "__ADDRESS__") e), address_unnamed f fs h.1)

addresses_other : (fs : List Field) → AreApart fs → AreOtherNames (address_keys fs)
addresses_other [] h = tt
addresses_other (f ∷ fs) h = (address_unnamed f fs h.0, addresses_other fs h.1)

abbrev IsAddressNamed : Key → Type 0
IsAddressNamed k = has_part (codes "__ADDRESS__") k.0 ≡ true

abbrev IsBaseNamed : Key → Type 0
IsBaseNamed k = k.0 ≡ base_name

pub ends_in : (part : List ℕ) → has_part part part ≡ true → (x : List ℕ) → has_part part (x ++ part) ≡ true
ends_in part h [] = h
ends_in part h (b ∷ x) = or_later _ _ (ends_in part h x)

addresses_named : (fs : List Field) → AllByRecursion IsAddressNamed (address_keys fs)
addresses_named [] = tt
addresses_named (f ∷ fs) = (ends_in (codes "__ADDRESS__") refl f.name, addresses_named fs)

bases_named : (ms : List Member) → AllByRecursion IsBaseNamed (base_keys ms)
bases_named [] = tt
bases_named (m ∷ ms) = (refl, tt)

-- an address isn't named as the static base is
names_differ : (k j : Key) → IsAddressNamed k → IsBaseNamed j → ¬ (k.0 ≡ j.0)
names_differ k j h b e = let t : has_part (codes "__ADDRESS__") base_name ≡ true = ap (has_part (codes "__ADDRESS__")) (sym b ∙ sym e) ∙ h in absurd cc

bases_other : (ms : List Member) → AreOtherNames (base_keys ms)
bases_other [] = tt
bases_other (m ∷ ms) = (tt, tt)

addresses_reserved : (fs : List Field) → AllByRecursion IsNamedReserved (address_keys fs)
addresses_reserved [] = tt
addresses_reserved (f ∷ fs) = (shows_address (address_name f) (ends_in (codes "__ADDRESS__") refl f.name), addresses_reserved fs)

bases_reserved : (ms : List Member) → AllByRecursion IsNamedReserved (base_keys ms)
bases_reserved [] = tt
bases_reserved (m ∷ ms) = (refl, tt)

free_apart : (k j : Key) → IsNamedFree k → IsNamedReserved j → ¬ (k.0 ≡ j.0)
free_apart k j f r e = let t : is_reserved k.0 ≡ true = ap is_reserved e ∙ r in absurd (cc (t, f))

-- ---- the class

-- what is known of a class and its own fields: no two have one name, and no text of its file is reserved
pub record IsOrdinary (c : ClassFile) : Type 0 where
  pub free : (i : ℕ) (t : List ℕ) → utf8 c.pool i ≡ Some t → is_reserved t ≡ false
  pub names : are_distinct (map (field_name_of c.pool) c.fields) ≡ true

names_of : (Z : Pool) (ms : List Member) → map (λ (k : Key). k.0) (map (key_of Z) ms) ≡ map (field_name_of Z) ms
names_of Z [] = refl
names_of Z (m ∷ ms) = ap (λ (l : List (List ℕ)). field_name_of Z m ∷ l) (names_of Z ms)

-- what a step gives
pub record IsStep (c d : ClassFile) : Type 0 where
  pub rules : IsClassFile d
  pub grown : Grown c.pool d.pool

module _ (c : ClassFile) (rules : IsClassFile c) (O : IsOrdinary c) (fs : List Field) (F : AllByRecursion IsLawfulField fs) (apart : AreApart fs) where
  fields_made : (added : List Member) (pool : Pool) → added_fields fs (needs_base c) c.pool ≡ Ok (added, pool) → IsStep c (and_fields c added pool)
  fields_made added pool e =
      let P = fields_put fs (needs_base c) c.pool (added, pool) rules.pool.few e in
      let p : IsPool pool = fields_pool fs (needs_base c) F c.pool (added, pool) e rules.pool in
      let A = P.facts pool (grown_refl pool) in
      let olds : List Key = map (key_of c.pool) c.fields in
      let more : List Key = address_keys fs ++ base_keys A.base in
      let old = members_keyed c.pool _ c.fields rules.fields in
      let added_keyed = subst (λ (ms : List Member). AreKeyed pool ms more) (sym A.is) (keyed_append pool A.addresses A.base (address_keys fs) (base_keys A.base) (addresses_keyed pool 0 fs A.addresses A.each) (bases_keyed pool A.base A.bases)) in
      let keyed = keyed_append pool c.fields added olds more (keys_grown c.pool pool P.grown c.fields olds old) added_keyed in
      let more_other = names_append (address_keys fs) (base_keys A.base) (addresses_other fs apart) (bases_other A.base)
      (named_apart IsAddressNamed IsBaseNamed names_differ (address_keys fs) (base_keys A.base) (addresses_named fs) (bases_named A.base)) in
      let reserved = all_append IsNamedReserved (address_keys fs) (base_keys A.base) (addresses_reserved fs) (bases_reserved A.base) in
      let old_other = tested_names olds (ap are_distinct (names_of c.pool c.fields) ∙ O.names) in
      let other = names_append olds more old_other more_other (named_apart IsNamedFree IsNamedReserved free_apart olds more (names_free c.pool O.free c.fields olds old) reserved) in
      let few = names_few pool (c.fields ++ added) (olds ++ more) keyed other in
      let forms = subst (AllByRecursion (IsField pool)) (sym A.is) (all_append (IsField pool) A.addresses A.base (addresses_forms pool p 0 fs A.addresses A.each) (bases_forms pool p A.base A.bases)) in
      record {
        rules = made_rules c rules pool P.grown p (c.fields ++ added) c.methods
            (record {
              few = omega (arith, few, p.few);
              each = all_append (IsField pool) c.fields added (fields_still c.pool pool P.grown c.fields rules.fields) forms;
              distinct = distinct pool (c.fields ++ added) (olds ++ more) keyed (names_unlike (olds ++ more) other);
            })
            (own_methods c rules pool P.grown p);
        grown = P.grown;
      }

  -- a class with the fields that are added, whose methods are its own
  pub fields_step : (d : ClassFile) → with_fields fs c ≡ Ok d → IsStep c d × (d.methods ≡ c.methods)
  fields_step d e =
      let a = bind_ok (added_fields fs (needs_base c) c.pool) (λ added. Ok (and_fields c added.0 added.1)) d e in
      let is = ok_is (and_fields c a.0.0 a.0.1) d a.2 in
      (subst (IsStep c) is (fields_made a.0.0 a.0.1 a.1), ap (λ (x : ClassFile). x.methods) (sym is))
