-- What instructions of taken methods name, where they have no construct that is left out: fields and methods of the folder's classes.
use Rattle.std.proofs.Common.{◌≡◌, ◌⊎◌, inl, inr, ℕ, List, [], ◌∷◌, Option, Some, None, Bool, true, false, not, nat_le, refl, sym, ap, ◌∙◌}
use Rattle.std.specs.Prelude.{position, ◌==◌, ◌&&◌, ◌||◌, if◌then◌else◌, bytes_eq, codes, option_and_then, is_some}
use Rattle.std.specs.List.{list_any}
use Rattle.std.proofs.lemmas.Bool.Decides.{Decides-eqb}
use Rattle.std.proofs.lemmas.Slice.Eq.{bytes_eq-Decides}
use Rattle.jmodel.specs.declared.class_file.Constant.{Constant}
use Rattle.jmodel.specs.declared.class_file.Constant.TheVariants as constants
use Rattle.jmodel.specs.declared.instruction.Instr.{Instr}
use Rattle.jmodel.specs.format.ClassFile.{Pool, ClassFile}
use Rattle.jmodel.specs.format.Pool.{entry, MemberName, field_in, member_in, field_name, member_name, text_or_none}
use Rattle.jmodel.specs.format.DescriptorReading.{type_of}
use Rattle.objects.specs.linking.Members.{is_static}
use Rattle.objects.specs.linking.Superclasses.{class_named}
use Rattle.objects.specs.linking.Classes.{Declared, methods_in, full_name}
use Rattle.objects.specs.linking.Taken.{index_of, invoked}
use Rattle.objects.specs.typing.TypeOrder.{context_class}
use Rattle.objects.specs.linking.LibraryMethods.{is_library, throwables, is_like, is_library_constructor, is_library_function, is_library_method}
use Rattle.objects.specs.linking.Resolution.{is_interface, holds_of, is_in_folder, resolved_field, resolved_method}
use Rattle.objects.specs.linking.Constructs.{accessed, is_floating, is_float_op, is_float_array, is_float_constant, is_float_field, is_float_method, entry_pushed, is_unresolved, is_outside_field, is_library_call, is_misused, is_bad_access, is_bad_call, is_elsewhere}
use Rattle.objects.specs.linking.Code.{widened}
use Rattle.objects.specs.linking.Layout.{field_type, fields_of}
use Rattle.objects.specs.linking.Decoding.{Symbols, is_among, is_field_of, field_number, is_get_context}
use Rattle.objects.specs.linking.Linking.{original_symbols}
use Rattle.objects.specs.laws.LinkingLaw.{AreRead}
use Rattle.objects.proofs.Items.{IsAt}
use Rattle.objects.proofs.AsRead.{not_named, no_context}
use Rattle.objects.proofs.DeclaredMembers.{HasName}
use Rattle.objects.proofs.CleanCode.{IsClean, IsGoodCall, good_call, neither}
use Rattle.objects.proofs.ResolvedMembers.{IsFieldIn, method_resolves, field_resolves}
use Rattle.objects.proofs.LinkedFields.{has_number}

pub both : (a b : Bool) → (a && b) ≡ true → (a ≡ true) × (b ≡ true)
both true b e = (refl, e)
both false b e = cc

one_or_other : (a b : Bool) → (a || b) ≡ true → (a ≡ true) ⊎ (b ≡ true)
one_or_other true b e = inl refl
one_or_other false b e = inr e

or_right : (a b : Bool) → b ≡ true → (a || b) ≡ true
or_right true b e = refl
or_right false b e = e

pub is_not : (b : Bool) → not b ≡ false → b ≡ true
is_not true e = refl
is_not false e = cc

pub if_false : (b x y : Bool) → b ≡ false → (if b then x else y) ≡ false → y ≡ false
if_false true x y e f = cc
if_false false x y e f = f

if_true : (b x y : Bool) → b ≡ true → (if b then x else y) ≡ false → x ≡ false
if_true true x y e f = f
if_true false x y e f = cc

-- ---- names of the library

-- a method of the library is one of its classes
pub library_class : (n : MemberName) → is_library_method n ≡ true → is_library n.class ≡ true
library_class n e = by (one_or_other (is_library_constructor n) (is_library_function n) e)
  where
    of_throwable : list_any (bytes_eq n.class) throwables ≡ true → is_library n.class ≡ true
    of_throwable e = or_right (bytes_eq n.class (codes "java/lang/Object")) _ (or_right (bytes_eq n.class (codes "java/lang/String")) _ (or_right (bytes_eq n.class (codes "java/lang/Math")) _ e))

    constructor : (a b c d : Bool) → (a ≡ true → is_library n.class ≡ true) → (c ≡ true → is_library n.class ≡ true) → (a && b || c && d) ≡ true → is_library n.class ≡ true
    constructor true b c d p q e = p refl
    constructor false b true d p q e = q refl
    constructor false b false d p q e = cc

    by : (is_library_constructor n ≡ true) ⊎ (is_library_function n ≡ true) → is_library n.class ≡ true
    by (inl e) = constructor (bytes_eq n.class (codes "java/lang/Object")) _ (list_any (bytes_eq n.class) throwables) _ (λ a. ap is_library ((bytes_eq-Decides n.class (codes "java/lang/Object")).0 a)) of_throwable e
    by (inr e) = ap is_library ((bytes_eq-Decides n.class (codes "java/lang/Math")).0 (both (bytes_eq n.class (codes "java/lang/Math")) _ e).0)

-- a constructor of the library has the name of constructors
pub constructor_name : (n : MemberName) → is_library_constructor n ≡ true → bytes_eq n.name (codes "<init>") ≡ true
constructor_name n e = by (one_or_other (bytes_eq n.class (codes "java/lang/Object") && is_like (codes "<init>") (codes "()V" ∷ []) n) _ e)
  where
    by : ((bytes_eq n.class (codes "java/lang/Object") && is_like (codes "<init>") (codes "()V" ∷ []) n) ≡ true)
        ⊎ ((list_any (bytes_eq n.class) throwables && is_like (codes "<init>") (codes "()V" ∷ codes "(Ljava/lang/String;)V" ∷ []) n) ≡ true) → bytes_eq n.name (codes "<init>") ≡ true
    by (inl e) = (both (bytes_eq n.name (codes "<init>")) _ (both (bytes_eq n.class (codes "java/lang/Object")) _ e).1).0
    by (inr e) = (both (bytes_eq n.name (codes "<init>")) _ (both (list_any (bytes_eq n.class) throwables) _ e).1).0

-- ---- names in a pool

-- a name of a field is one of a member
pub of_field : (pool : Pool) (j : ℕ) (n : MemberName) → field_name pool j ≡ Some n → member_name pool j ≡ Some n
of_field pool j n e = go (entry pool j) refl e
  where
    by : (k : Constant) → field_in pool k ≡ Some n → member_in pool k ≡ Some n
    by (constants.Field class p) e = e
    by k e = cc

    go : (o : Option Constant) → entry pool j ≡ o → option_and_then (field_in pool) o ≡ Some n → option_and_then (member_in pool) (entry pool j) ≡ Some n
    go None is e = cc
    go (Some k) is e = ap (option_and_then (member_in pool)) is ∙ by k e

pub accessed_is : (pool : Pool) (i : Instr) (j : ℕ) (n : MemberName) → is_among 178 181 i.op ≡ true → index_of i.operands ≡ Some j → member_name pool j ≡ Some n → accessed pool i ≡ Some n
accessed_is pool i j n a b c = ap (λ b. if b then option_and_then (member_name pool) (index_of i.operands) else None) a ∙ ap (option_and_then (member_name pool)) b ∙ c

pub invoked_is : (pool : Pool) (i : Instr) (j : ℕ) (n : MemberName) → is_among 182 185 i.op ≡ true → index_of i.operands ≡ Some j → member_name pool j ≡ Some n → invoked pool i ≡ Some n
invoked_is pool i j n a b c = rw a (ap (option_and_then (member_name pool)) b ∙ c)

module _ (cs : List ClassFile) (read : AreRead cs) (d : Declared) (i : Instr) (clean : IsClean cs d i) where
  abbrev s : Symbols
  s = original_symbols cs d.class

  -- ---- fields

  -- the field that an instruction names
  pub record IsNamedField (n : MemberName) : Type 0 where
    pub declared : Declared
    pub resolved : resolved_field cs n ≡ Some declared
    pub there : IsFieldIn cs declared n
    pub static_as : is_static declared.member ≡ nat_le i.op 179
    pub number : ℕ
    pub numbered : field_number s n ≡ Some number
    pub found : position (is_field_of (full_name declared)) (fields_of cs) ≡ Some number

  pub named_field : (n : MemberName) → accessed d.class.pool i ≡ Some n → IsNamedField n
  named_field n e = by (resolved_field cs n) refl
    where
      at : (p : MemberName → Bool) → holds_of p (accessed d.class.pool i) ≡ false → p n ≡ false
      at p h = ap (holds_of p) (sym e) ∙ h

      folder : is_in_folder cs n.class ≡ true
      folder = is_not (is_in_folder cs n.class) (at (is_outside_field cs) clean.inside)

      kept : is_float_field n ≡ false
      kept =
          let a = neither (is_float_op (widened i.op i.operands) || is_float_array i.op i.operands || holds_of is_float_constant (entry_pushed d.class.pool i) || holds_of is_float_field (accessed d.class.pool i)) (holds_of is_float_method (invoked d.class.pool i)) clean.float in
          let b = neither (is_float_op (widened i.op i.operands) || is_float_array i.op i.operands || holds_of is_float_constant (entry_pushed d.class.pool i)) (holds_of is_float_field (accessed d.class.pool i)) a.0 in
          at is_float_field b.1

      some : (o : Option Declared) → resolved_field cs n ≡ o → (is_in_folder cs n.class && not (is_some o)) ≡ false → is_some o ≡ true
      some o f g = is_not (is_some o) (ap (λ b. b && not (is_some o)) (sym folder) ∙ g)

      static_is : (m : Declared) (b : Bool) → is_misused b m ≡ false → is_static m.member ≡ b
      static_is m true e = is_not (is_static m.member) e
      static_is m false e = e

      by : (o : Option Declared) → resolved_field cs n ≡ o → IsNamedField n
      by None f = let fall = some None f (ap (λ (o : Option Declared). is_in_folder cs n.class && not (is_some o)) (sym f) ∙ at (is_unresolved cs (resolved_field cs)) clean.field) in cc
      by (Some m) f =
          let r = field_resolves cs n m f in
          let plain : is_interface m.class ≡ false = ap (holds_of (λ (k : Declared). is_interface k.class)) (sym f) ∙ at (λ n. holds_of (λ (k : Declared). is_interface k.class) (resolved_field cs n)) clean.class_field in
          let bad : is_misused (nat_le i.op 179) m ≡ false = ap (holds_of (is_misused (nat_le i.op 179))) (sym f) ∙ at (is_bad_access cs i.op) clean.access in
          let kept_field : is_floating (field_type m.class.pool m.member) ≡ false = ap (λ (o : Option (List ℕ)). is_floating (type_of (text_or_none o))) r.named.descriptor ∙ kept in
          let at_number = has_number cs m r.class r.member plain kept_field in
          record {
            declared = m;
            resolved = f;
            there = r;
            static_as = static_is m (nat_le i.op 179) bad;
            number = at_number.0;
            numbered = ap (option_and_then (λ (k : Declared). position (is_field_of (full_name k)) (fields_of cs))) f ∙ at_number.1;
            found = at_number.1;
          }

  pub op_is : (c : ℕ) → (i.op == c) ≡ true → i.op ≡ c
  op_is c e = (Decides-eqb i.op c).0 e

  -- ---- calls

  -- the call of a method that is named
  module _ (n : MemberName) (e : invoked d.class.pool i ≡ Some n) where
    pub named : (p : MemberName → Bool) → holds_of p (invoked d.class.pool i) ≡ false → p n ≡ false
    named p h = ap (holds_of p) (sym e) ∙ h

    pub good : IsGoodCall cs d.class i.op n
    good = good_call cs d.class i.op n (named (is_bad_call cs d.class i.op) clean.call)

    -- a class of the folder, or a method of the library
    pub place : (b : Bool) → is_in_folder cs n.class ≡ b → (is_in_folder cs n.class ≡ true) ⊎ (is_library_method n ≡ true)
    place true f = inl f
    place false f = inr (is_not (is_library_method n) (if_false (is_in_folder cs n.class) _ _ f (named (is_library_call cs) clean.own_call)))

    outside : (b : Bool) → is_in_folder cs n.class ≡ false → (is_library_function n && not (i.op == 184) || is_library_constructor n && (i.op == 184)) ≡ false
    outside b f = if_false (is_in_folder cs n.class) _ _ f good.static

    not_both : (a b : Bool) → (a && b) ≡ false → b ≡ true → a ≡ false
    not_both true true f g = cc
    not_both true false f g = cc
    not_both false b f g = refl

    -- outside the folder, invokestatic is of functions and invokespecial of constructors
    pub no_function : is_in_folder cs n.class ≡ false → (i.op == 184) ≡ false → is_library_function n ≡ false
    no_function f g = not_both (is_library_function n) (not (i.op == 184)) (neither (is_library_function n && not (i.op == 184)) (is_library_constructor n && (i.op == 184)) (outside true f)).0 (ap not g)

    pub no_constructor : is_in_folder cs n.class ≡ false → (i.op == 184) ≡ true → is_library_constructor n ≡ false
    no_constructor f g = not_both (is_library_constructor n) (i.op == 184) (neither (is_library_function n && not (i.op == 184)) (is_library_constructor n && (i.op == 184)) (outside true f)).1 g

    -- a constructor is called by invokespecial alone
    pub no_init : (i.op == 183) ≡ false → bytes_eq n.name (codes "<init>") ≡ false
    no_init f = not_both (bytes_eq n.name (codes "<init>")) (not (i.op == 183) || holds_of (is_elsewhere n.class) (resolved_method cs n)) good.constructor (ap (λ b. not b || holds_of (is_elsewhere n.class) (resolved_method cs n)) f)

    pub clash : (b : Bool) → b ≡ true → b ≡ false → ⊥
    clash true e f = cc
    clash false e f = cc

    pub in_folder_by : (is_library_constructor n ≡ false) → (is_library_function n ≡ false) → is_in_folder cs n.class ≡ true
    in_folder_by a b = elim (place (is_in_folder cs n.class) refl) [ inl f ↦ f | inr m ↦ absurd (clash (is_library_method n) m (ap (λ x. x || is_library_function n) a ∙ b)) ]

    -- the method that it stands for, in the folder
    pub record IsNamedMethod : Type 0 where
      pub declared : Declared
      pub resolved : resolved_method cs n ≡ Some declared
      pub there : IsAt (methods_in cs) declared
      pub has : HasName declared n
      pub static_as : is_static declared.member ≡ (i.op == 184)

    pub named_method : is_in_folder cs n.class ≡ true → IsNamedMethod
    named_method f = by (resolved_method cs n) refl
      where
        some : (o : Option Declared) → (is_in_folder cs n.class && not (is_some o)) ≡ false → is_some o ≡ true
        some o g = is_not (is_some o) (ap (λ b. b && not (is_some o)) (sym f) ∙ g)

        static_is : (m : Declared) (b : Bool) → is_misused b m ≡ false → is_static m.member ≡ b
        static_is m true e = is_not (is_static m.member) e
        static_is m false e = e

        by : (o : Option Declared) → resolved_method cs n ≡ o → IsNamedMethod
        by None g = let fall = some None (ap (λ (o : Option Declared). is_in_folder cs n.class && not (is_some o)) (sym g) ∙ named (is_unresolved cs (resolved_method cs)) clean.method) in cc
        by (Some m) g =
            let r = method_resolves cs n m g in
            let used : holds_of (is_misused (i.op == 184)) (resolved_method cs n) ≡ false = if_true (is_in_folder cs n.class) _ _ f good.static in
            record { declared = m; resolved = g; there = r.0; has = r.1; static_as = static_is m (i.op == 184) (ap (holds_of (is_misused (i.op == 184))) (sym g) ∙ used) }

    pub not_op : (c o : ℕ) → i.op ≡ c → (c == o) ≡ false → (i.op == o) ≡ false
    not_op c o f g = ap (λ c. c == o) f ∙ g

    -- the class of the context isn't the folder's, nor the library's
    pub reserved_class : (class : List ℕ) → class_named cs class ≡ None → is_library class ≡ false → bytes_eq n.class class ≡ true → ⊥
    reserved_class class none other is =
        let same : n.class ≡ class = (bytes_eq-Decides n.class class).0 is in
        elim (place (is_in_folder cs n.class) refl) [
          | inl f ↦ clash (is_in_folder cs n.class) f (ap (is_in_folder cs) same ∙ ap (λ (o : Option ClassFile). is_some o) none)
          | inr m ↦ clash (is_library n.class) (library_class n m) (ap is_library same ∙ other)
        ]

    pub virtual_place : (i.op == 184) ≡ false → (i.op == 183) ≡ false → is_in_folder cs n.class ≡ true
    virtual_place g h = go (is_in_folder cs n.class) refl
      where
        go : (b : Bool) → is_in_folder cs n.class ≡ b → is_in_folder cs n.class ≡ true
        go true f = f
        go false f = in_folder_by (no_library (is_library_constructor n) refl) (no_function f g)
          where
            no_library : (b : Bool) → is_library_constructor n ≡ b → is_library_constructor n ≡ false
            no_library true c = absurd (clash (bytes_eq n.name (codes "<init>")) (constructor_name n c) (no_init h))
            no_library false c = c

    -- where a call by its name finds its method
    pub special_place : i.op ≡ 183 → is_library_constructor n ≡ false → is_in_folder cs n.class ≡ true
    special_place f u = go (is_in_folder cs n.class) refl
      where
        go : (b : Bool) → is_in_folder cs n.class ≡ b → is_in_folder cs n.class ≡ true
        go true p = p
        go false p = in_folder_by u (no_function p (not_op 183 184 f refl))

    pub static_place : i.op ≡ 184 → is_library_function n ≡ false → is_in_folder cs n.class ≡ true
    static_place f v = go (is_in_folder cs n.class) refl
      where
        go : (b : Bool) → is_in_folder cs n.class ≡ b → is_in_folder cs n.class ≡ true
        go true p = p
        go false p = in_folder_by (no_constructor p (ap (λ c. c == 184) f)) v

    -- nothing is called of the context, or of its delegator
    pub no_context_call : bytes_eq n.class context_class ≡ true → ⊥
    no_context_call t = reserved_class context_class (no_context cs read) refl t

    pub no_delegator : is_get_context n ≡ true → ⊥
    no_delegator t = reserved_class (codes "org/deuce/transaction/ContextDelegator") (not_named cs read (codes "org/deuce/transaction/ContextDelegator") refl) refl (both (bytes_eq n.class (codes "org/deuce/transaction/ContextDelegator")) _ t).0
