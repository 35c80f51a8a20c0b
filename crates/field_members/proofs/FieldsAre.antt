-- Reads of added fields are constants.
use Rattle.std.proofs.Common.{◌≡◌, ℕ, ℤ, suc, ◌+◌, Bool, true, false, ◌&&◌, ◌||◌, List, [], ◌∷◌, ◌++◌, Option, Some, None, Ok, refl, sym, ap, ◌∙◌, subst, arith, append_assoc, cond}
use Rattle.std.specs.Prelude.{codes, bytes_eq, find, position, option_and_then, ◌≢◌}
use Rattle.std.specs.Int.{w64, cast_signed}
use Rattle.std.specs.List.{AllByRecursion, list_any}
use Rattle.std.proofs.lemmas.List.{append_cancel_right}
use Rattle.jmodel.specs.declared.name.MethodName.{MethodName}
use Rattle.jmodel.specs.declared.value.Value.TheVariants.{Ref}
use Rattle.jmodel.specs.format.ClassFile.{Attribute, Member, Pool, ClassFile}
use Rattle.jmodel.specs.format.Pool.{utf8, MemberName, text_or_none}
use Rattle.jmodel.specs.format.ClassRules.{same_text}
use Rattle.objects.specs.linking.Classes.{Declared as DeclaredMember, full_name}
use Rattle.jmodel.specs.format.Constants.{pair_number, long_in, named_entry, long_value}
use Rattle.objects.specs.linking.Reserved.{has_part, is_reserved}
use Rattle.objects.specs.linking.Members.{own_name, is_member}
use Rattle.objects.specs.declared.op.Op.TheVariants.{Constant}
use Rattle.objects.specs.semantics.Program.{Field}
use Rattle.objects.specs.linking.Decoding.{Symbols, is_field_of, field_number, added_address, get_static_op}
use Rattle.objects.specs.linking.Resolution.{has_name, resolved_field, fields_in, ancestry}
use Rattle.objects.specs.rewriting.Rewriting.{distance}
use Rattle.const_pool.proofs.Takes.{bind_ok, ok_is}
use Rattle.const_pool.proofs.Entries.{no_place}
use Rattle.member_code.specs.Coding.{high, low}
use Rattle.member_code.proofs.Grown.{Grown, grown_refl, grown_trans, utf8_grown}
use Rattle.member_code.proofs.Added.{two_true, same_text_is}
use Rattle.member_code.proofs.Texts.{same, differ, apart}
use Rattle.member_code.proofs.Puts.{Puts, Adding, AllPut, adds_all, adds_text, adds_long, adds_typed}
use Rattle.field_members.specs.Names.{address_name, base_name, base_type}
use Rattle.field_members.specs.Fields.{added_field, constant_value, address_of, static_base, needs_base, bases, added_fields, and_fields}
use Rattle.field_members.specs.AccessorsLaw.{address_named, base_named}
use Rattle.field_members.specs.FieldsLaw.{IsUnreserved, AreApart, FieldsLaw}

-- ---- what is added

rejoined : (i : ℕ) → pair_number (high i) (low i) ≡ i
rejoined i = omega arith

pub record ConstantAt (n : ℤ) (Z : Pool) (a : Attribute) : Type 0 where
  pub named : utf8 Z a.name ≡ Some (codes "ConstantValue")
  pub value : option_and_then long_in (named_entry Z a.bytes) ≡ Some n

constant_puts : (n : ℤ) → Adding (ConstantAt n) (constant_value n)
unfolding constant_value
constant_puts n pool r s e =
    let a = bind_ok _ _ r e in
    let b = bind_ok _ _ r a.2 in
    let p = adds_text (codes "ConstantValue") pool a.0 s a.1 in
    let q = adds_long n a.0.1 b.0 p.short b.1 in
    subst (Puts (ConstantAt n) pool) (ok_is (record { name = a.0.0; bytes = high b.0.0 ∷ low b.0.0 ∷ [] }, b.0.1) r b.2)
    (record {
      grown = grown_trans pool a.0.1 b.0.1 p.grown q.grown;
      short = q.short;
      facts = λ Z g. record { named = p.facts Z (grown_trans a.0.1 b.0.1 Z q.grown g); value = rw (rejoined b.0.0) (q.facts Z g) };
    })

pub record AddressAt (f : Field) (Z : Pool) (m : Member) : Type 0 where
  pub named : utf8 Z m.name ≡ Some (address_name f)
  pub typed : utf8 Z m.descriptor ≡ Some (codes "J")
  pub value : long_value Z m ≡ Some (cast_signed w64 (suc f.index))

address_puts : (f : Field) → Adding (AddressAt f) (address_of f)
unfolding address_of
address_puts f pool r s e =
    let a = bind_ok _ _ r e in
    let b = bind_ok _ _ r a.2 in
    let p = adds_typed (address_name f) (codes "J") pool a.0 s a.1 in
    let q = constant_puts (cast_signed w64 (suc f.index)) a.0.1 b.0 p.short b.1 in
    subst (Puts (AddressAt f) pool) (ok_is (added_field a.0.0 (b.0.0 ∷ []), b.0.1) r b.2)
    (record {
      grown = grown_trans pool a.0.1 b.0.1 p.grown q.grown;
      short = q.short;
      facts = λ Z g. let h = p.facts Z (grown_trans a.0.1 b.0.1 Z q.grown g) in let c = q.facts Z g in let x = c.named in record { named = h.0; typed = h.1; value = rw x c.value };
    })

abbrev Nothing : {X : Type 0} → Pool → X → Type 0
Nothing Z x = Unit {0}

base_puts : Adding (Nothing {X = Member}) static_base
unfolding static_base
base_puts pool r s e =
    let a = bind_ok _ _ r e in
    let p = adds_typed base_name base_type pool a.0 s a.1 in
    subst (Puts Nothing pool) (ok_is (added_field a.0.0 [], a.0.1) r a.2) (record { grown = p.grown; short = p.short; facts = λ Z g. tt })

bases_put : (b : Bool) → Adding (Nothing {X = List Member}) (bases b)
bases_put false pool r s e = subst (Puts Nothing pool) (ok_is ([], pool) r e) (record { grown = grown_refl pool; short = s; facts = λ Z g. tt })
bases_put true pool r s e =
    let a = bind_ok (static_base pool) (λ base. Ok (base.0 ∷ [], base.1)) r e in
    let p = base_puts pool a.0 s a.1 in
    subst (Puts Nothing pool) (ok_is (a.0.0 ∷ [], a.0.1) r a.2) (record { grown = p.grown; short = p.short; facts = λ Z g. tt })

-- addresses, and what stands behind them
pub record FieldsAt (fs : List Field) (Z : Pool) (ms : List Member) : Type 0 where
  pub addresses : List Member
  pub others : List Member
  pub are : AllPut (λ n f. AddressAt f) 0 fs Z addresses
  pub is : ms ≡ addresses ++ others

fields_put : (fs : List Field) (b : Bool) → Adding (FieldsAt fs) (added_fields fs b)
unfolding added_fields
fields_put fs b pool r s e =
    let a = bind_ok _ _ r e in
    let c = bind_ok _ _ r a.2 in
    let p = adds_all (λ n f. AddressAt f) (λ n f. address_of f) (λ n f. address_puts f) 0 fs pool a.0 s a.1 in
    let q = bases_put b a.0.1 c.0 p.short c.1 in
    subst (Puts (FieldsAt fs) pool) (ok_is (a.0.0 ++ c.0.0, c.0.1) r c.2)
    (record { grown = grown_trans pool a.0.1 c.0.1 p.grown q.grown; short = q.short; facts = λ Z g. record { addresses = a.0.0; others = c.0.0; are = p.facts Z (grown_trans a.0.1 c.0.1 Z q.grown g); is = refl } })

-- ---- names

or_true : (a b : Bool) → b ≡ true → (a || b) ≡ true
or_true true b h = refl
or_true false b h = h

ends_in : (part : List ℕ) → has_part part part ≡ true → (x : List ℕ) → has_part part (x ++ part) ≡ true
ends_in part h [] = h
ends_in part h (b ∷ x) = or_true _ _ (ends_in part h x)

second_true : (a b c d e f : Bool) → b ≡ true → (a || b || c || d || e || f) ≡ true
second_true true true c d e f h = refl
second_true false true c d e f h = refl
second_true a false c d e f h = cc

address_reserved : (f : Field) → is_reserved (address_name f) ≡ true
address_reserved f = second_true _ _ _ _ _ _ (ends_in (codes "__ADDRESS__") refl f.name)

-- a name that isn't reserved isn't one that is
unlike : (a b : List ℕ) → is_reserved a ≡ false → is_reserved b ≡ true → bytes_eq a b ≡ false
unlike a b h k = differ a b (λ e. let t : is_reserved b ≡ false = ap is_reserved (sym e) ∙ h in absurd (cc (t, k)))

and_false : (a b : Bool) → a ≡ false → (a && b) ≡ false
and_false true b h = cc
and_false false b h = refl

and_later : (a b : Bool) → b ≡ false → (a && b) ≡ false
and_later true b h = h
and_later false b h = refl

-- ---- no field of the program has a reserved name

found_passes : {X : Type 0} (p : X → Bool) (xs : List X) (x : X) → find p xs ≡ Some x → p x ≡ true
found_passes p [] x e = cc
found_passes {X} p (y ∷ ys) x e = go (p y) refl e (λ h. found_passes p ys x h)
  where
    go : (b : Bool) → p y ≡ b → cond b (Some y) (find p ys) ≡ Some x → (find p ys ≡ Some x → p x ≡ true) → p x ≡ true
    go true q h more = let s : y ≡ x = cc in subst (λ (z : X). p z ≡ true) s q
    go false q h more = more h

-- a reserved name is that of no field
none_named : (n : MethodName) → is_reserved n.name ≡ true → (fs : List Field) → AllByRecursion (λ (f : Field). is_reserved f.name ≡ false) fs → AllByRecursion (λ (f : Field). is_field_of n f ≡ false) fs
none_named n r [] h = tt
none_named n r (f ∷ fs) h = (and_false (bytes_eq f.name n.name) _ (unlike f.name n.name h.0 r), none_named n r fs h.1)

module _ (s : Symbols) (all : AllByRecursion (λ (f : Field). is_reserved f.name ≡ false) s.fields) where
  no_number : (n : MemberName) → is_reserved n.name ≡ true → field_number s n ≡ None
  no_number n r = go (resolved_field s.classes n) refl
    where
      go : (o : Option DeclaredMember) → resolved_field s.classes n ≡ o → option_and_then (λ (k : DeclaredMember). position (is_field_of (full_name k)) s.fields) o ≡ None
      go None e = refl
      go (Some k) e =
          let t = found_passes (has_name n) (fields_in (ancestry s.classes n.class)) k e in
          let u = two_true (same_text (utf8 k.class.pool k.member.name) n.name) (same_text (utf8 k.class.pool k.member.descriptor) n.descriptor) t in
          let x = same_text_is (utf8 k.class.pool k.member.name) n.name u.0 in
          let named : (full_name k).name ≡ n.name = ap text_or_none x in
          no_place (is_field_of (full_name k)) s.fields (none_named (full_name k) (ap is_reserved named ∙ r) s.fields all)

-- ---- the static base

module _ (s : Symbols) (f : Field) (own : own_name s.class ≡ f.class) (all : AllByRecursion (λ (f : Field). is_reserved f.name ≡ false) s.fields) where
  no_address : added_address s.class (base_named f) ≡ None
  no_address = let t : (bytes_eq f.class (own_name s.class) && bytes_eq base_type (codes "J")) ≡ false = and_later (bytes_eq f.class (own_name s.class)) (bytes_eq base_type (codes "J")) refl in rw t refl

  pub base_is : get_static_op s (base_named f) ≡ Some (Constant (Ref s.base))
  base_is =
      let n = no_number s all (base_named f) refl in
      let a = no_address in
      let o : bytes_eq f.class (own_name s.class) ≡ true = ap (bytes_eq f.class) own ∙ same f.class in
      rw n (rw a (rw o refl))

-- ---- addresses

find_front : {X : Type 0} (p : X → Bool) (xs : List X) (x : X) (ys : List X) → list_any p xs ≡ false → p x ≡ true → find p (xs ++ x ∷ ys) ≡ Some x
find_front p [] x ys h t = rw t refl
find_front {X} p (y ∷ xs) x ys h t = go (p y) refl h (λ k. find_front p xs x ys k t)
  where
    go : (b : Bool) → p y ≡ b → (b || list_any p xs) ≡ false → (list_any p xs ≡ false → find p (xs ++ x ∷ ys) ≡ Some x) → cond (p y) (Some y) (find p (xs ++ x ∷ ys)) ≡ Some x
    go true q k more = cc
    go false q k more = rw q (more k)

any_behind : {X : Type 0} (p : X → Bool) (xs : List X) (y : X) → list_any p xs ≡ false → p y ≡ false → list_any p (xs ++ y ∷ []) ≡ false
any_behind p [] y h t = rw t refl
any_behind {X} p (x ∷ xs) y h t = go (p x) refl h (λ k. any_behind p xs y k t)
  where
    go : (b : Bool) → p x ≡ b → (b || list_any p xs) ≡ false → (list_any p xs ≡ false → list_any p (xs ++ y ∷ []) ≡ false) → (p x || list_any p (xs ++ y ∷ [])) ≡ false
    go true q k more = cc
    go false q k more = rw q (more k)

module _ (s : Symbols) (all : AllByRecursion (λ (f : Field). is_reserved f.name ≡ false) s.fields) where
  -- the test for the address of a field
  abbrev is_address : Field → Member → Bool
  is_address f m = is_member s.class.pool (address_name f) (codes "J") m

  -- no member of a list is the address of a field
  abbrev HasNone : List Member → Field → Type 0
  HasNone front f = list_any (is_address f) front ≡ false

  address_is : (f : Field) (front : List Member) (m : Member) (rest : List Member) → own_name s.class ≡ f.class → s.class.fields ≡ front ++ m ∷ rest → HasNone front f → AddressAt f s.class.pool m
      → get_static_op s (address_named f) ≡ Some (distance f.index)
  address_is f front m rest own is none A =
      let n = no_number s all (address_named f) (address_reserved f) in
      let o : bytes_eq f.class (own_name s.class) ≡ true = ap (bytes_eq f.class) own ∙ same f.class in
      let x = A.named in let y = A.typed in
      let d = same (address_name f) in
      let passes : is_address f m ≡ true = rw x (rw y (rw d refl)) in
      let found : find (is_address f) s.class.fields ≡ Some m = ap (find (is_address f)) is ∙ find_front (is_address f) front m rest none passes in
      let v = A.value in
      let address : added_address s.class (address_named f) ≡ Some (cast_signed w64 (suc f.index)) = rw o (rw found v) in
      rw n (rw address refl)

  other_address : (f g : Field) (m : Member) → f.name ≢ g.name → AddressAt f s.class.pool m → is_address g m ≡ false
  other_address f g m ne A =
      let x = A.named in
      let d : bytes_eq (address_name f) (address_name g) ≡ false = differ (address_name f) (address_name g) (λ e. ne (append_cancel_right f.name g.name (codes "__ADDRESS__") e)) in
      and_false (same_text (utf8 s.class.pool m.name) (address_name g)) _ (ap (λ o. same_text o (address_name g)) x ∙ d)

  none_further : (front : List Member) (f : Field) (m : Member) (gs : List Field) → AddressAt f s.class.pool m → AllByRecursion (λ (g : Field). f.name ≢ g.name) gs → AllByRecursion (HasNone front) gs → AllByRecursion (HasNone (front ++ m ∷ [])) gs
  none_further front f m [] A h k = tt
  none_further front f m (g ∷ gs) A h k = (any_behind (is_address g) front m k.0 (other_address f g m h.0 A), none_further front f m gs A h.1 k.1)

  pub addresses_are : (n : ℕ) (front : List Member) (fs : List Field) (ms rest : List Member) → s.class.fields ≡ front ++ (ms ++ rest) → AllPut (λ n f. AddressAt f) n fs s.class.pool ms → AllByRecursion (HasNone front) fs → AreApart fs
      → AllByRecursion (λ (f : Field). own_name s.class ≡ f.class) fs → AllByRecursion (λ (f : Field). get_static_op s (address_named f) ≡ Some (distance f.index)) fs
  addresses_are n front [] ms rest is h none apart own = tt
  addresses_are n front (f ∷ fs) [] rest is h none apart own = absurd h
  addresses_are n front (f ∷ fs) (m ∷ ms) rest is h none apart own =
      let longer : s.class.fields ≡ (front ++ m ∷ []) ++ (ms ++ rest) = is ∙ sym (append_assoc front (m ∷ []) (ms ++ rest)) in
      (address_is f front m (ms ++ rest) own.0 is none.0 h.0, addresses_are (n + 1) (front ++ m ∷ []) fs ms rest longer h.1 (none_further front f m fs h.0 apart.0 none.1) apart.1 own.1)

  -- the fields of the class's own file
  old_none : (pool : Pool) (G : Grown pool s.class.pool) (ms : List Member) (f : Field) → AllByRecursion (IsUnreserved pool) ms → HasNone ms f
  old_none pool G [] f h = refl
  old_none pool G (m ∷ ms) f h =
      let x = utf8_grown pool s.class.pool G m.name h.0.0 h.0.1 in
      let d = unlike h.0.0 (address_name f) h.0.2 (address_reserved f) in
      let one : is_address f m ≡ false = and_false (same_text (utf8 s.class.pool m.name) (address_name f)) _ (ap (λ o. same_text o (address_name f)) x ∙ d) in
      let more = old_none pool G ms f h.1 in
      rw one more

  olds_none : (pool : Pool) (G : Grown pool s.class.pool) (ms : List Member) (fs : List Field) → AllByRecursion (IsUnreserved pool) ms → AllByRecursion (HasNone ms) fs
  olds_none pool G ms [] h = tt
  olds_none pool G ms (f ∷ fs) h = (old_none pool G ms f h, olds_none pool G ms fs h)

-- ---- all of them

bases_are : (s : Symbols) (fs : List Field) → AllByRecursion (λ (f : Field). is_reserved f.name ≡ false) s.fields → AllByRecursion (λ (f : Field). own_name s.class ≡ f.class) fs → AllByRecursion (λ (f : Field). get_static_op s (base_named f) ≡ Some (Constant (Ref s.base))) fs
bases_are s [] all own = tt
bases_are s (f ∷ fs) all own = (base_is s f own.0 all, bases_are s fs all own.1)

pub fields_are : FieldsLaw
fields_are fs old new s short e begins O =
    let a = bind_ok (added_fields fs (needs_base old) old.pool) (λ added. Ok (and_fields old added.0 added.1)) new e in
    let p = fields_put fs (needs_base old) old.pool a.0 short a.1 in
    let is = ok_is (and_fields old a.0.0 a.0.1) new a.2 in
    let grown : Grown a.0.1 s.class.pool = record { more = begins.pool.0; is = begins.pool.1 ∙ ap (λ (c : ClassFile). c.pool ++ begins.pool.0) (sym is) } in
    let F = p.facts s.class.pool grown in
    let there : s.class.fields ≡ old.fields ++ (F.addresses ++ (F.others ++ begins.fields.0)) =
    begins.fields.1 ∙ ap (λ (c : ClassFile). c.fields ++ begins.fields.0) (sym is) ∙ ap (λ (x : List Member). (old.fields ++ x) ++ begins.fields.0) F.is
    ∙ append_assoc old.fields (F.addresses ++ F.others) begins.fields.0 ∙ ap (λ (x : List Member). old.fields ++ x) (append_assoc F.addresses F.others begins.fields.0) in
    record {
      addresses = addresses_are s O.all 0 old.fields fs F.addresses (F.others ++ begins.fields.0) there F.are (olds_none s O.all old.pool (grown_trans old.pool a.0.1 s.class.pool p.grown grown) old.fields fs O.members) O.apart O.own;
      bases = bases_are s fs O.all O.own;
    }
