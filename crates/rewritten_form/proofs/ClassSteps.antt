-- A class keeps the rules when members are added over a pool that has grown.
use Rattle.std.proofs.Common.{ℕ, ◌<◌, List, [], ◌∷◌, length, map}
use Rattle.std.specs.Prelude.{◌^◌, IsSome}
use Rattle.std.specs.List.{AllByRecursion}
use Rattle.jmodel.specs.format.ClassFile.{Member, Pool, ClassFile}
use Rattle.jmodel.specs.format.Pool.{class_name}
use Rattle.jmodel.specs.format.ClassRules.{IsTwoBytes, IsPool, IsMember, IsField, IsMethod, AreDistinct, IsClassFile}
use Rattle.member_code.proofs.Grown.{Grown}
use Rattle.rewritten_form.proofs.Lists.{all_as}
use Rattle.rewritten_form.proofs.StillForms.{class_still, class_still_fits, attributes_still, member_still, method_still}
use Rattle.rewritten_form.proofs.Keys.{Key, AreKeyed, distinct, unlike, key_of, member_keyed, keys_grown}

-- members that keep the rules by their names and descriptors
pub members_keyed : (Z : Pool) (Fits : List ℕ → Type 0) (ms : List Member) → AllByRecursion (IsMember Z Fits) ms → AreKeyed Z ms (map (key_of Z) ms)
members_keyed Z Fits [] h = tt
members_keyed Z Fits (m ∷ ms) h = (member_keyed Z Fits m h.0, members_keyed Z Fits ms h.1)

-- the same of methods
pub methods_keyed : (Z : Pool) (ms : List Member) → AllByRecursion (IsMethod Z) ms → AreKeyed Z ms (map (key_of Z) ms)
methods_keyed Z ms h = members_keyed Z _ ms (all_as (IsMethod Z) (IsMember Z _) (λ m r. r.member) ms h)

module _ (a b : Pool) (G : Grown a b) where
  -- distinct members are distinct over a pool that has grown
  pub distinct_still : (ms : List Member) (ks : List Key) → AreKeyed a ms ks → AreDistinct a ms → AreDistinct b ms
  distinct_still ms ks h d = distinct b ms ks (keys_grown a b G ms ks h) (unlike a ms ks h d)

  pub fields_still : (ms : List Member) → AllByRecursion (IsField a) ms → AllByRecursion (IsField b) ms
  fields_still ms h = all_as (IsField a) (IsField b) (member_still a b G _) ms h

  pub methods_still : (ms : List Member) → AllByRecursion (IsMethod a) ms → AllByRecursion (IsMethod b) ms
  methods_still ms h = all_as (IsMethod a) (IsMethod b) (method_still a b G) ms h

-- what is asked of the fields, and of the methods, of a class
pub record AreFields (pool : Pool) (ms : List Member) : Type 0 where
  pub few : length ms < 2 ^ 16
  pub each : AllByRecursion (IsField pool) ms
  pub distinct : AreDistinct pool ms

pub record AreMethods (pool : Pool) (ms : List Member) : Type 0 where
  pub few : length ms < 2 ^ 16
  pub each : AllByRecursion (IsMethod pool) ms
  pub distinct : AreDistinct pool ms

module _ (c : ClassFile) (rules : IsClassFile c) (pool : Pool) (G : Grown c.pool pool) (p : IsPool pool) where
  -- the class with this pool and these members
  abbrev pub made : List Member → List Member → ClassFile
  made fields methods = record c { pool = pool; fields = fields; methods = methods }

  pub made_rules : (fields methods : List Member) → AreFields pool fields → AreMethods pool methods → IsClassFile (made fields methods)
  made_rules fields methods F M = record {
    minor = rules.minor;
    major = rules.major;
    pool = p;
    flags = rules.flags;
    this_class = rules.this_class;
    this_name = class_still_fits c.pool pool G _ c.this_class rules.this_name;
    super_class = rules.super_class;
    super_name = class_still c.pool pool G c.super_class rules.super_name;
    few_interfaces = rules.few_interfaces;
    interfaces = all_as (λ (i : ℕ). IsTwoBytes i × IsSome (class_name c.pool i)) (λ (i : ℕ). IsTwoBytes i × IsSome (class_name pool i)) (λ i h. (h.0, class_still c.pool pool G i h.1)) c.interfaces rules.interfaces;
    few_fields = F.few;
    fields = F.each;
    few_methods = M.few;
    methods = M.each;
    attributes = attributes_still c.pool pool G c.attributes rules.attributes;
    distinct_fields = F.distinct;
    distinct_methods = M.distinct;
  }

  -- its own fields, and its own methods
  pub own_fields : AreFields pool c.fields
  own_fields = record {
    few = rules.few_fields;
    each = fields_still c.pool pool G c.fields rules.fields;
    distinct = distinct_still c.pool pool G c.fields (map (key_of c.pool) c.fields) (members_keyed c.pool _ c.fields rules.fields) rules.distinct_fields;
  }

  pub own_methods : AreMethods pool c.methods
  own_methods = record {
    few = rules.few_methods;
    each = methods_still c.pool pool G c.methods rules.methods;
    distinct = distinct_still c.pool pool G c.methods (map (key_of c.pool) c.methods) (methods_keyed c.pool c.methods rules.methods) rules.distinct_methods;
  }
