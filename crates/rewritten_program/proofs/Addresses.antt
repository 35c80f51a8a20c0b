-- A class with the fields that are added for its own: its pool is grown, and each added field's name is reserved.
use Rattle.std.proofs.Common.{◌≡◌, ℕ, ℤ, suc, ◌+◌, ◌<◌, Bool, true, false, ◌||◌, List, [], ◌∷◌, ◌++◌, length, Option, Some, Ok, refl, sym, subst}
use Rattle.std.specs.Prelude.{codes, IsSomeAnd}
use Rattle.std.specs.Int.{w64, cast_signed}
use Rattle.std.specs.List.{AllByRecursion}
use Rattle.jmodel.specs.format.ClassFile.{Attribute, Member, Pool, ClassFile}
use Rattle.jmodel.specs.format.Pool.{utf8}
use Rattle.objects.specs.linking.Reserved.{has_part, is_reserved}
use Rattle.objects.specs.semantics.Program.{Field}
use Rattle.const_pool.proofs.Takes.{bind_ok, ok_is}
use Rattle.member_code.specs.Coding.{high, low}
use Rattle.member_code.proofs.Grown.{Grown, grown_refl, grown_trans}
use Rattle.member_code.proofs.Puts.{Puts, Adding, AllPut, adds_all, adds_text, adds_long, adds_typed}
use Rattle.field_members.specs.Names.{address_name, base_name, base_type}
use Rattle.field_members.specs.Fields.{added_field, constant_value, address_of, static_base, needs_base, bases, added_fields, and_fields, with_fields}
use Rattle.rewritten_names.specs.Heads.{head_of, IsAdded}
use Rattle.rewritten_names.proofs.Lists.{all_both}
use Rattle.rewritten_program.proofs.Grows.{Nothing}

-- a field whose name is reserved
abbrev pub IsAddedAt : Pool → Member → Type 0
IsAddedAt Z m = IsAdded (head_of Z m)

-- the same of several
abbrev AreAddedAt : Pool → List Member → Type 0
AreAddedAt Z ms = AllByRecursion (IsAddedAt Z) ms

-- a field with a reserved name is an added one
added_at : (Z : Pool) (m : Member) (n : List ℕ) → utf8 Z m.name ≡ Some n → is_reserved n ≡ true → IsAddedAt Z m
added_at Z m n e r = subst (λ (o : Option (List ℕ)). IsSomeAnd o (λ (x : List ℕ). is_reserved x ≡ true)) (sym e) r

-- ---- names

-- the second of two tests
or_true : (a b : Bool) → b ≡ true → (a || b) ≡ true
or_true true b h = refl
or_true false b h = h

-- a part that ends a name is in it
ends_in : (part : List ℕ) → has_part part part ≡ true → (x : List ℕ) → has_part part (x ++ part) ≡ true
ends_in part h [] = h
ends_in part h (b ∷ x) = or_true _ _ (ends_in part h x)

-- the second of six tests
second_true : (a b c d e f : Bool) → b ≡ true → (a || b || c || d || e || f) ≡ true
second_true true true c d e f h = refl
second_true false true c d e f h = refl
second_true a false c d e f h = cc

-- the name of an address is reserved
address_reserved : (f : Field) → is_reserved (address_name f) ≡ true
address_reserved f = second_true _ _ _ _ _ _ (ends_in (codes "__ADDRESS__") refl f.name)

-- ---- what is added

-- a constant's attribute
constant_puts : (n : ℤ) → Adding (Nothing {X = Attribute}) (constant_value n)
unfolding constant_value
constant_puts n pool r s e =
    let a = bind_ok _ _ r e in
    let b = bind_ok _ _ r a.2 in
    let p = adds_text (codes "ConstantValue") pool a.0 s a.1 in
    let q = adds_long n a.0.1 b.0 p.short b.1 in
    subst (Puts Nothing pool) (ok_is (record { name = a.0.0; bytes = high b.0.0 ∷ low b.0.0 ∷ [] }, b.0.1) r b.2)
    (record { grown = grown_trans pool a.0.1 b.0.1 p.grown q.grown; short = q.short; facts = λ Z g. tt })

-- the field for an address
address_puts : (f : Field) → Adding IsAddedAt (address_of f)
unfolding address_of
address_puts f pool r s e =
    let a = bind_ok _ _ r e in
    let b = bind_ok _ _ r a.2 in
    let p = adds_typed (address_name f) (codes "J") pool a.0 s a.1 in
    let q = constant_puts (cast_signed w64 (suc f.index)) a.0.1 b.0 p.short b.1 in
    subst (Puts IsAddedAt pool) (ok_is (added_field a.0.0 (b.0.0 ∷ []), b.0.1) r b.2)
    (record {
      grown = grown_trans pool a.0.1 b.0.1 p.grown q.grown;
      short = q.short;
      facts = λ Z g. added_at Z (added_field a.0.0 (b.0.0 ∷ [])) (address_name f) (p.facts Z (grown_trans a.0.1 b.0.1 Z q.grown g)).0 (address_reserved f);
    })

-- the field for the static base
base_puts : Adding IsAddedAt static_base
unfolding static_base
base_puts pool r s e =
    let a = bind_ok _ _ r e in
    let p = adds_typed base_name base_type pool a.0 s a.1 in
    subst (Puts IsAddedAt pool) (ok_is (added_field a.0.0 [], a.0.1) r a.2)
    (record { grown = p.grown; short = p.short; facts = λ Z g. added_at Z (added_field a.0.0 []) base_name (p.facts Z g).0 refl })

-- the same where there is one
bases_put : (b : Bool) → Adding AreAddedAt (bases b)
bases_put false pool r s e = subst (Puts AreAddedAt pool) (ok_is ([], pool) r e) (record { grown = grown_refl pool; short = s; facts = λ Z g. tt })
bases_put true pool r s e =
    let a = bind_ok (static_base pool) (λ base. Ok (base.0 ∷ [], base.1)) r e in
    let p = base_puts pool a.0 s a.1 in
    subst (Puts AreAddedAt pool) (ok_is (a.0.0 ∷ [], a.0.1) r a.2) (record { grown = p.grown; short = p.short; facts = λ Z g. (p.facts Z g, tt) })

-- each address is an added field
all_added : (n : ℕ) (fs : List Field) (Z : Pool) (ms : List Member) → AllPut (λ (n : ℕ) (f : Field). IsAddedAt) n fs Z ms → AreAddedAt Z ms
all_added n [] Z [] h = tt
all_added n [] Z (m ∷ ms) h = absurd h
all_added n (f ∷ fs) Z [] h = absurd h
all_added n (f ∷ fs) Z (m ∷ ms) h = (h.0, all_added (n + 1) fs Z ms h.1)

-- addresses and the static base
fields_put : (fs : List Field) (b : Bool) → Adding AreAddedAt (added_fields fs b)
unfolding added_fields
fields_put fs b pool r s e =
    let a = bind_ok _ _ r e in
    let c = bind_ok _ _ r a.2 in
    let p = adds_all (λ n f. IsAddedAt) (λ n f. address_of f) (λ n f. address_puts f) 0 fs pool a.0 s a.1 in
    let q = bases_put b a.0.1 c.0 p.short c.1 in
    subst (Puts AreAddedAt pool) (ok_is (a.0.0 ++ c.0.0, c.0.1) r c.2)
    (record {
      grown = grown_trans pool a.0.1 c.0.1 p.grown q.grown;
      short = q.short;
      facts = λ Z g. all_both (IsAddedAt Z) a.0.0 c.0.0 (all_added 0 fs Z a.0.0 (p.facts Z (grown_trans a.0.1 c.0.1 Z q.grown g))) (q.facts Z g);
    })

-- ---- the class

-- a class with added fields
pub record IsFielded (c new : ClassFile) : Type 0 where
  pub members : List Member
  pub is : new ≡ and_fields c members new.pool
  pub grown : Grown c.pool new.pool
  pub short : length new.pool < 65535
  pub added : (Z : Pool) → Grown new.pool Z → AllByRecursion (IsAddedAt Z) members

-- what is added to a class
pub fielded : (fs : List Field) (c new : ClassFile) → length c.pool < 65535 → with_fields fs c ≡ Ok new → IsFielded c new
fielded fs c new short e =
    let a = bind_ok (added_fields fs (needs_base c) c.pool) (λ added. Ok (and_fields c added.0 added.1)) new e in
    let p = fields_put fs (needs_base c) c.pool a.0 short a.1 in
    subst (IsFielded c) (ok_is (and_fields c a.0.0 a.0.1) new a.2) (record { members = a.0.0; is = refl; grown = p.grown; short = p.short; added = λ Z g. p.facts Z g })
