-- Instructions of taken methods that name something mean something, where they have no construct that is left out.
use Rattle.std.proofs.Common.{◌≡◌, ◌⊎◌, inl, inr, ℕ, List, [], ◌∷◌, Option, Some, None, Ok, Bool, true, false, not, refl, sym, ap, subst, ◌∙◌}
use Rattle.std.specs.Prelude.{position, bytes_eq, codes, ◌==◌, ◌&&◌, ◌||◌, if◌then◌else◌, is_some, option_map, option_and_then, IsSomeAnd}
use Rattle.std.specs.List.{AllByRecursion, list_any}
use Rattle.std.specs.Option.{option_or}
use Rattle.std.proofs.lemmas.Bool.Decides.{Decides-eqb}
use Rattle.std.proofs.lemmas.Slice.Eq.{bytes_eq-Decides}
use Rattle.jmodel.specs.declared.class_file.Constant.{Constant}
use Rattle.jmodel.specs.declared.class_file.Constant.TheVariants as constants
use Rattle.jmodel.specs.declared.instruction.EntryKind.{EntryKind}
use Rattle.jmodel.specs.declared.instruction.EntryKind.TheVariants as kind
use Rattle.jmodel.specs.declared.instruction.Instr.{Instr}
use Rattle.jmodel.specs.format.ClassFile.{Pool, ClassFile}
use Rattle.jmodel.specs.format.Pool.{entry, utf8, name_in, class_name, string_in, string, pair, MemberName, named, field_in, member_in, field_name, member_name}
use Rattle.jmodel.specs.format.ClassRules.{IsConstant, IsMethodPair, IsFieldPair}
use Rattle.jmodel.specs.format.DescriptorReading.{type_rest, element_rest, is_field_descriptor, type_of, types_at, result_of, signature_of}
use Rattle.jmodel.specs.format.Instruction.{is_of_kind, is_kind_in, is_entry, places_in, argument_places}
use Rattle.objects.specs.linking.Members.{is_static, own_name}
use Rattle.objects.specs.linking.Superclasses.{super_name, lineage}
use Rattle.objects.specs.linking.Classes.{Declared, methods_in}
use Rattle.objects.specs.linking.Taken.{index_of, invoked}
use Rattle.objects.specs.linking.Code.{Coded, decoded, widened}
use Rattle.objects.specs.declared.op.Op.{Op}
use Rattle.objects.specs.declared.op.Op.TheVariants as op
use Rattle.objects.specs.declared.op.Binary.TheVariants.{Minimum, Maximum}
use Rattle.objects.specs.declared.op.Unary.TheVariants.{Absolute}
use Rattle.objects.specs.linking.LibraryMethods.{throwables, is_like, is_library_constructor, is_library_function}
use Rattle.objects.specs.typing.TypeOrder.{context_class}
use Rattle.objects.specs.linking.Resolution.{holds_of, has_name, is_private, is_selected_by, selected_from, from_above, is_properly_above, resolved_method, special_method}
use Rattle.objects.specs.linking.Constructs.{accessed, is_float_op, is_float_array, is_float_constant, is_float_field, is_float_method, entry_pushed, is_class_constant, is_elsewhere}
use Rattle.objects.specs.linking.Layout.{class_read}
use Rattle.objects.specs.linking.Decoding.{Symbols, is_among, field_number, number_of, method_number, get_static_op, field_op, width_in, function_op, is_get_context, static_call_op, parameter_places, special_call_op, interface_call_op, context_call, virtual_call_op, call_op, pushed_op, text_op, ldc_op}
use Rattle.objects.specs.linking.Linking.{taken_methods, original_symbols}
use Rattle.objects.specs.laws.LinkingLaw.{AreRead}
use Rattle.objects.proofs.Items.{IsAt, item, found}
use Rattle.objects.proofs.AsRead.{entry_at, is_file}
use Rattle.objects.proofs.DeclaredMembers.{HasName, of_methods, name_of_member}
use Rattle.objects.proofs.TakenMembers.{in_methods}
use Rattle.objects.proofs.CleanCode.{IsClean, neither}
use Rattle.objects.proofs.ResolvedMembers.{special_cases, special_resolves}
use Rattle.objects.proofs.CalledMembers.{callee_taken, callee_numbered, takes_it, text_numbered}
use Rattle.objects.proofs.NamedMembers.{named_field, good, no_init, clash, IsNamedMethod, named_method, not_op, virtual_place, special_place, static_place, no_context_call}

-- ---- forms

pub map_some : {A B : Type 0} (f : A → B) (o : Option A) → is_some o ≡ true → is_some (option_map f o) ≡ true
map_some f None e = e
map_some f (Some x) e = refl

pub then_some : {A B : Type 0} (f : A → Option B) (o : Option A) (x : A) → o ≡ Some x → is_some (f x) ≡ true → is_some (option_and_then f o) ≡ true
then_some f o x e h = ap (λ o. is_some (option_and_then f o)) e ∙ h

pub some_value : {A : Type 0} (o : Option A) → is_some o ≡ true → (x : A) × (o ≡ Some x)
some_value None e = cc
some_value (Some x) e = (x, refl)

or_second : {A : Type 0} (a b : Option A) → is_some b ≡ true → is_some (option_or a b) ≡ true
or_second None b e = e
or_second (Some x) b e = refl

or_first : {A : Type 0} (a b : Option A) → is_some a ≡ true → is_some (option_or a b) ≡ true
or_first None b e = cc
or_first (Some x) b e = refl

-- ---- entries

entry_of : (pool : Pool) (k : EntryKind) (j : ℕ) → is_entry pool k j ≡ true → (c : Constant) × (entry pool j ≡ Some c) × (is_of_kind k c ≡ true)
entry_of pool k j e = go (entry pool j) refl e
  where
    go : (o : Option Constant) → entry pool j ≡ o → is_kind_in k o ≡ true → (c : Constant) × (entry pool j ≡ Some c) × (is_of_kind k c ≡ true)
    go None f e = cc
    go (Some c) f e = (c, f, e)

some_and : {A : Type 0} (o : Option A) (P : A → Type 0) → IsSomeAnd o P → is_some o ≡ true
some_and None P h = absurd h
some_and (Some x) P h = refl

both_named : (a : Option (List ℕ)) (p : Option (List ℕ × List ℕ)) → is_some a ≡ true → is_some p ≡ true → is_some (named a p) ≡ true
both_named None p e f = cc
both_named (Some a) None e f = cc
both_named (Some a) (Some p) e f = refl

module _ (pool : Pool) (fits : AllByRecursion (IsConstant pool) pool) where
  fits_entry : (j : ℕ) (c : Constant) → entry pool j ≡ Some c → IsConstant pool c
  fits_entry j c e = item (IsConstant pool) pool c fits (entry_at pool j c e)

  pub field_there : (j : ℕ) → is_entry pool kind.Field j ≡ true → is_some (field_name pool j) ≡ true
  field_there j e = let c = entry_of pool kind.Field j e in ap (λ o. is_some (option_and_then (field_in pool) o)) c.1 ∙ by c.0 c.2 (fits_entry j c.0 c.1)
    where
      by : (c : Constant) → is_of_kind kind.Field c ≡ true → IsConstant pool c → is_some (field_in pool c) ≡ true
      by (constants.Field class p) k f = both_named (class_name pool class) (pair pool p) f.2 (some_and (pair pool p) IsFieldPair f.3)
      by (constants.Utf8 x) k f = cc
      by (constants.Integer x) k f = cc
      by (constants.Float x) k f = cc
      by (constants.Long x) k f = cc
      by (constants.Double x) k f = cc
      by (constants.Class x) k f = cc
      by (constants.Text x) k f = cc
      by (constants.Method x y) k f = cc
      by (constants.InterfaceMethod x y) k f = cc
      by (constants.NameAndType x y) k f = cc
      by constants.Second k f = cc

  pub method_there : (j : ℕ) → is_entry pool kind.Method j ≡ true → is_some (member_name pool j) ≡ true
  method_there j e = let c = entry_of pool kind.Method j e in ap (λ o. is_some (option_and_then (member_in pool) o)) c.1 ∙ by c.0 c.2 (fits_entry j c.0 c.1)
    where
      by : (c : Constant) → is_of_kind kind.Method c ≡ true → IsConstant pool c → is_some (member_in pool c) ≡ true
      by (constants.Method class p) k f = both_named (class_name pool class) (pair pool p) f.2 (some_and (pair pool p) IsMethodPair f.3)
      by (constants.Field x y) k f = cc
      by (constants.Utf8 x) k f = cc
      by (constants.Integer x) k f = cc
      by (constants.Float x) k f = cc
      by (constants.Long x) k f = cc
      by (constants.Double x) k f = cc
      by (constants.Class x) k f = cc
      by (constants.Text x) k f = cc
      by (constants.InterfaceMethod x y) k f = cc
      by (constants.NameAndType x y) k f = cc
      by constants.Second k f = cc

  pub interface_there : (j count : ℕ) → argument_places pool j ≡ Some count → is_some (member_name pool j) ≡ true
  interface_there j count e = go (is_entry pool kind.InterfaceMethod j) e
    where
      by : (o : Option MemberName) → option_and_then places_in o ≡ Some count → is_some o ≡ true
      by None e = cc
      by (Some n) e = refl

      go : (b : Bool) → (if b then option_and_then places_in (member_name pool j) else None) ≡ Some count → is_some (member_name pool j) ≡ true
      go true e = by (member_name pool j) e
      go false e = cc

  pub class_there : (j : ℕ) → is_entry pool kind.Class j ≡ true → is_some (class_name pool j) ≡ true
  class_there j e = let c = entry_of pool kind.Class j e in ap (λ o. is_some (option_and_then (name_in pool) o)) c.1 ∙ by c.0 c.2 (fits_entry j c.0 c.1)
    where
      by : (c : Constant) → is_of_kind kind.Class c ≡ true → IsConstant pool c → is_some (name_in pool c) ≡ true
      by (constants.Class name) k f = some_and (utf8 pool name) _ f.1
      by (constants.Field x y) k f = cc
      by (constants.Utf8 x) k f = cc
      by (constants.Integer x) k f = cc
      by (constants.Float x) k f = cc
      by (constants.Long x) k f = cc
      by (constants.Double x) k f = cc
      by (constants.Text x) k f = cc
      by (constants.Method x y) k f = cc
      by (constants.InterfaceMethod x y) k f = cc
      by (constants.NameAndType x y) k f = cc
      by constants.Second k f = cc

-- ---- constructors of the library

constructor_places : (n : MemberName) → is_library_constructor n ≡ true → is_some (parameter_places n.descriptor) ≡ true
unfolding signature_of types_at type_rest element_rest result_of is_field_descriptor type_of
constructor_places n e = by (one_or_other (bytes_eq n.class (codes "java/lang/Object") && is_like (codes "<init>") (codes "()V" ∷ []) n) _ e)
  where
    one_or_other : (a b : Bool) → (a || b) ≡ true → (a ≡ true) ⊎ (b ≡ true)
    one_or_other true b e = inl refl
    one_or_other false b e = inr e

    two : (a b : Bool) → (a && b) ≡ true → (a ≡ true) × (b ≡ true)
    two true b e = (refl, e)
    two false b e = cc

    descriptor : (t : List ℕ) → bytes_eq n.descriptor t ≡ true → is_some (parameter_places t) ≡ true → is_some (parameter_places n.descriptor) ≡ true
    descriptor t e h = ap (λ t. is_some (parameter_places t)) ((bytes_eq-Decides n.descriptor t).0 e) ∙ h

    first : (a : Bool) → bytes_eq n.descriptor (codes "()V") ≡ a → (a || false) ≡ true → is_some (parameter_places n.descriptor) ≡ true
    first true f e = descriptor (codes "()V") f refl
    first false f e = cc

    second : (a b : Bool) → bytes_eq n.descriptor (codes "()V") ≡ a → bytes_eq n.descriptor (codes "(Ljava/lang/String;)V") ≡ b → (a || (b || false)) ≡ true → is_some (parameter_places n.descriptor) ≡ true
    second true b f g e = descriptor (codes "()V") f refl
    second false true f g e = descriptor (codes "(Ljava/lang/String;)V") g refl
    second false false f g e = cc

    by : ((bytes_eq n.class (codes "java/lang/Object") && is_like (codes "<init>") (codes "()V" ∷ []) n) ≡ true)
        ⊎ ((list_any (bytes_eq n.class) throwables && is_like (codes "<init>") (codes "()V" ∷ codes "(Ljava/lang/String;)V" ∷ []) n) ≡ true) → is_some (parameter_places n.descriptor) ≡ true
    by (inl e) = first (bytes_eq n.descriptor (codes "()V")) refl (two (bytes_eq n.name (codes "<init>")) _ (two (bytes_eq n.class (codes "java/lang/Object")) _ e).1).1
    by (inr e) = second (bytes_eq n.descriptor (codes "()V")) (bytes_eq n.descriptor (codes "(Ljava/lang/String;)V")) refl refl (two (bytes_eq n.name (codes "<init>")) _ (two (list_any (bytes_eq n.class) throwables) _ e).1).1

module _ (cs : List ClassFile) (read : AreRead cs) (d : Declared) (taken : IsAt (taken_methods cs) d) (x : Coded) (is : decoded d.class d.member ≡ Ok x) (i : Instr) (inside : IsAt x.instrs i) (clean : IsClean cs d i) where
  abbrev s : Symbols
  s = original_symbols cs d.class

  abbrev Means : Option Op → Type 0
  Means o = is_some o ≡ true

  pub pool_fits : AllByRecursion (IsConstant d.class.pool) d.class.pool
  pool_fits = (is_file cs read d.class (of_methods cs d (in_methods cs d taken)).0).pool.entries

  -- ---- fields

  pub field_means : (n : MemberName) → accessed d.class.pool i ≡ Some n → ((i.op == 178) || ((i.op == 179) || ((i.op == 180) || (i.op == 181)))) ≡ true → Means (field_op s i.op n)
  field_means n e h = go (i.op == 178) (i.op == 179) (i.op == 180) (i.op == 181) h
    where
      number : is_some (field_number s n) ≡ true
      number = ap (λ (o : Option ℕ). is_some o) (named_field cs read d i clean n e).numbered

      go : (a b c e : Bool) → (a || (b || (c || e))) ≡ true
          → Means (if a then get_static_op s n else if b then option_map op.PutStatic (field_number s n) else if c then option_map (λ f. op.GetField f (class_read cs n.class)) (field_number s n)
          else if e then option_map (λ f. op.PutField f (class_read cs n.class)) (field_number s n) else None)
      go true b c e h = or_first (option_map op.GetStatic (field_number s n)) _ (map_some op.GetStatic (field_number s n) number)
      go false true c e h = map_some op.PutStatic (field_number s n) number
      go false false true e h = map_some (λ f. op.GetField f (class_read cs n.class)) (field_number s n) number
      go false false false true h = map_some (λ f. op.PutField f (class_read cs n.class)) (field_number s n) number
      go false false false false h = cc

  -- ---- calls

  module _ (n : MemberName) (e : invoked d.class.pool i ≡ Some n) where
    -- a method of the name that it may call is numbered
    method_numbered : (m : Declared) → IsAt (methods_in cs) m → HasName m n → (bytes_eq n.name (codes "<init>") ≡ true → n.class ≡ own_name m.class) → is_some (number_of s m) ≡ true
    method_numbered m at has class =
        callee_numbered cs d taken x is i inside m (callee_taken cs d taken x is i inside n m e at (takes_it cs d taken x is i inside n m has class))

    resolved_numbered : (m : IsNamedMethod cs read d i clean n e) → (bytes_eq n.name (codes "<init>") ≡ true → n.class ≡ own_name m.declared.class) → is_some (method_number s n) ≡ true
    resolved_numbered m class = then_some (number_of s) (resolved_method cs n) m.declared m.resolved (method_numbered m.declared m.there m.has class)

    no_constructor : (i.op == 183) ≡ false → (m : Declared) → bytes_eq n.name (codes "<init>") ≡ true → n.class ≡ own_name m.class
    no_constructor f m t = absurd (clash cs read d i clean n e (bytes_eq n.name (codes "<init>")) t (no_init cs read d i clean n e f))

    virtual_number : (i.op == 184) ≡ false → (i.op == 183) ≡ false → is_some (method_number s n) ≡ true
    virtual_number g h = let m = named_method cs read d i clean n e (virtual_place cs read d i clean n e g h) in resolved_numbered m (no_constructor h m.declared)

    virtual_means : i.op ≡ 182 → Means (virtual_call_op s n)
    virtual_means f = go (bytes_eq n.class context_class) refl
      where
        go : (b : Bool) → bytes_eq n.class context_class ≡ b → Means (if b then option_map op.Context (context_call n) else option_map (λ m. op.InvokeVirtual m (class_read cs n.class)) (method_number s n))
        go true t = absurd (no_context_call cs read d i clean n e t)
        go false t = map_some (λ m. op.InvokeVirtual m (class_read cs n.class)) (method_number s n) (virtual_number (not_op cs read d i clean n e 182 184 f refl) (not_op cs read d i clean n e 182 183 f refl))

    interface_means : i.op ≡ 185 → Means (interface_call_op s n)
    interface_means f = map_some (λ m. op.InvokeInterface m n.class) (method_number s n) (virtual_number (not_op cs read d i clean n e 185 184 f refl) (not_op cs read d i clean n e 185 183 f refl))

    static_means : i.op ≡ 184 → Means (static_call_op s n)
    static_means f = go (is_get_context n) (is_library_function n) refl
      where
        function : Means (function_op n)
        function = by (bytes_eq n.name (codes "abs")) (bytes_eq n.name (codes "min"))
          where
            by : (a b : Bool) → Means (if a then Some (op.Unary (width_in n.descriptor) Absolute) else if b then Some (op.Binary (width_in n.descriptor) Minimum) else Some (op.Binary (width_in n.descriptor) Maximum))
            by true b = refl
            by false true = refl
            by false false = refl

        go : (a b : Bool) → is_library_function n ≡ b → Means (if a then Some op.GetContext else if b then function_op n else option_map op.InvokeStatic (method_number s n))
        go true b t = refl
        go false true t = function
        go false false t =
            let m = named_method cs read d i clean n e (static_place cs read d i clean n e f t) in
            map_some op.InvokeStatic (method_number s n) (resolved_numbered m (no_constructor (not_op cs read d i clean n e 184 183 f refl) m.declared))

    special_means : i.op ≡ 183 → Means (special_call_op s n)
    special_means f = go (is_library_constructor n) refl
      where
        -- the named class is the one that declares a constructor
        own_class : (m : IsNamedMethod cs read d i clean n e) → bytes_eq n.name (codes "<init>") ≡ true → n.class ≡ own_name m.declared.class
        own_class m t =
            let g = (good cs read d i clean n e).constructor in
            let op : (i.op == 183) ≡ true = ap (λ c. c == 183) f in
            let elsewhere : holds_of (is_elsewhere n.class) (resolved_method cs n) ≡ false = third (bytes_eq n.name (codes "<init>")) (i.op == 183) _ t op g in
            let here : not (bytes_eq (own_name m.declared.class) n.class) ≡ false = ap (holds_of (is_elsewhere n.class)) (sym m.resolved) ∙ elsewhere in
            sym ((bytes_eq-Decides (own_name m.declared.class) n.class).0 (is_not (bytes_eq (own_name m.declared.class) n.class) here))
          where
            third : (a b c : Bool) → a ≡ true → b ≡ true → (a && (not b || c)) ≡ false → c ≡ false
            third true true c e f g = g
            third true false c e f g = cc
            third false b c e f g = cc

            is_not : (b : Bool) → not b ≡ false → b ≡ true
            is_not true e = refl
            is_not false e = cc

        number : (m : IsNamedMethod cs read d i clean n e) → is_some (option_and_then (number_of s) (special_method cs d.class n)) ≡ true
        number m = by (bytes_eq n.name (codes "<init>")) refl
          where
            chosen : (v : Declared) × (special_method cs d.class n ≡ Some v)
            chosen = some_value (special_method cs d.class n) (ap (λ (o : Option Declared). is_some (option_map (λ k. if not (bytes_eq n.name (codes "<init>")) && is_properly_above cs d.class (own_name k.class) then from_above cs d.class n k else k) o)) m.resolved)

            -- a constructor is the one that is named
            itself : bytes_eq n.name (codes "<init>") ≡ true → m.declared ≡ chosen.0
            itself t =
                let one : special_method cs d.class n ≡ Some m.declared =
                ap (λ b. option_map (λ (k : Declared). if not b && is_properly_above cs d.class (own_name k.class) then from_above cs d.class n k else k) (resolved_method cs n)) t ∙ ap (option_map (λ (k : Declared). k)) m.resolved in
                let same : Some m.declared ≡ Some chosen.0 = sym one ∙ chosen.1 in
                cc

            two : (a b : Bool) → (a && b) ≡ true → a ≡ true
            two true b e = refl
            two false b e = cc

            named_so : m.declared ≡ chosen.0 → is_some (number_of s chosen.0) ≡ true
            named_so same = subst (λ (v : Declared). is_some (number_of s v) ≡ true) same (method_numbered m.declared m.there m.has (own_class m))

            of : (b : Bool) → bytes_eq n.name (codes "<init>") ≡ b → (m.declared ≡ chosen.0) ⊎ (selected_from cs (super_name d.class) n ≡ Some chosen.0) → is_some (number_of s chosen.0) ≡ true
            of b t (inl same) = named_so same
            of true t (inr from) = named_so (itself t)
            of false t (inr from) =
                let r = special_resolves cs d.class n m.declared chosen.0 m.resolved (m.static_as ∙ ap (λ c. c == 184) f) chosen.1 in
                let p = found (is_selected_by n) (methods_in (lineage cs (super_name d.class))) chosen.0 from in
                method_numbered chosen.0 r.0 (name_of_member n chosen.0 (two (has_name n chosen.0) (not (is_private chosen.0.member || is_static chosen.0.member)) p.1)) (λ u. absurd (clash cs read d i clean n e (bytes_eq n.name (codes "<init>")) u t))

            by : (b : Bool) → bytes_eq n.name (codes "<init>") ≡ b → is_some (option_and_then (number_of s) (special_method cs d.class n)) ≡ true
            by b t = then_some (number_of s) (special_method cs d.class n) chosen.0 chosen.1 (of b t (special_cases cs d.class n m.declared chosen.0 m.resolved chosen.1))

        go : (b : Bool) → is_library_constructor n ≡ b → Means (if b then option_map (λ places. op.InitLibrary n.class places) (parameter_places n.descriptor) else option_map op.InvokeSpecial (option_and_then (number_of s) (special_method cs d.class n)))
        go true t = map_some (λ places. op.InitLibrary n.class places) (parameter_places n.descriptor) (constructor_places n t)
        go false t = map_some op.InvokeSpecial _ (number (named_method cs read d i clean n e (special_place cs read d i clean n e f t)))

    pub call_means : ((i.op == 182) || ((i.op == 183) || ((i.op == 184) || (i.op == 185)))) ≡ true → Means (call_op s i.op n)
    call_means h = go (i.op == 182) (i.op == 183) (i.op == 184) (i.op == 185) refl refl refl refl h
      where
        is_op : (c : ℕ) → (i.op == c) ≡ true → i.op ≡ c
        is_op c t = (Decides-eqb i.op c).0 t

        go : (a b c o : Bool) → (i.op == 182) ≡ a → (i.op == 183) ≡ b → (i.op == 184) ≡ c → (i.op == 185) ≡ o → (a || (b || (c || o))) ≡ true
            → Means (if a then virtual_call_op s n else if b then special_call_op s n else if c then static_call_op s n else if o then interface_call_op s n else None)
        go true b c o p q r t h = virtual_means (is_op 182 p)
        go false true c o p q r t h = special_means (is_op 183 q)
        go false false true o p q r t h = static_means (is_op 184 r)
        go false false false true p q r t h = interface_means (is_op 185 t)
        go false false false false p q r t h = cc

  -- ---- constants

  among_loads : (j : ℕ) (c : Constant) → is_among 18 20 i.op ≡ true → index_of i.operands ≡ Some j → entry d.class.pool j ≡ Some c → entry_pushed d.class.pool i ≡ Some c
  among_loads j c a f g = ap (λ b. if b then option_and_then (entry d.class.pool) (index_of i.operands) else None) a ∙ ap (option_and_then (entry d.class.pool)) f ∙ g

  no_float : (c : Constant) → entry_pushed d.class.pool i ≡ Some c → is_float_constant c ≡ false
  no_float c e =
      let a = neither (is_float_op (widened i.op i.operands) || is_float_array i.op i.operands || holds_of is_float_constant (entry_pushed d.class.pool i) || holds_of is_float_field (accessed d.class.pool i)) (holds_of is_float_method (invoked d.class.pool i)) clean.float in
      let b = neither (is_float_op (widened i.op i.operands) || is_float_array i.op i.operands || holds_of is_float_constant (entry_pushed d.class.pool i)) (holds_of is_float_field (accessed d.class.pool i)) a.0 in
      let c = neither (is_float_op (widened i.op i.operands) || is_float_array i.op i.operands) (holds_of is_float_constant (entry_pushed d.class.pool i)) b.0 in
      ap (holds_of is_float_constant) (sym e) ∙ c.1

  no_literal : (c : Constant) → entry_pushed d.class.pool i ≡ Some c → is_class_constant c ≡ false
  no_literal c e = ap (holds_of is_class_constant) (sym e) ∙ clean.class_literal

  text_means : (j : ℕ) (c : Constant) → entry d.class.pool j ≡ Some c → is_some (string_in d.class.pool c) ≡ true → Means (ldc_op s j)
  text_means j c f g =
      let t = some_value (string_in d.class.pool c) g in
      let string_is : string d.class.pool j ≡ Some t.0 = ap (option_and_then (string_in d.class.pool)) f ∙ t.1 in
      let number : is_some (position (bytes_eq t.0) s.texts) ≡ true = text_numbered cs d.class (of_methods cs d (in_methods cs d taken)).0 j t.0 string_is in
      or_first (option_and_then (text_op s) (string d.class.pool j)) _ (then_some (text_op s) (string d.class.pool j) t.0 string_is (map_some op.Text (position (bytes_eq t.0) s.texts) number))

  pushed_means : (j : ℕ) (c : Constant) → entry d.class.pool j ≡ Some c → is_some (pushed_op s c) ≡ true → Means (ldc_op s j)
  pushed_means j c f g = or_second (option_and_then (text_op s) (string d.class.pool j)) _ (then_some (pushed_op s) (entry d.class.pool j) c f g)

  pub single_means : (j : ℕ) → is_among 18 20 i.op ≡ true → index_of i.operands ≡ Some j → is_entry d.class.pool kind.Single j ≡ true → Means (ldc_op s j)
  single_means j a f e = let c = entry_of d.class.pool kind.Single j e in by c.0 c.1 (fits_entry d.class.pool pool_fits j c.0 c.1) c.2 (no_float c.0 (among_loads j c.0 a f c.1)) (no_literal c.0 (among_loads j c.0 a f c.1))
    where
      by : (c : Constant) → entry d.class.pool j ≡ Some c → IsConstant d.class.pool c → is_of_kind kind.Single c ≡ true → is_float_constant c ≡ false → is_class_constant c ≡ false → Means (ldc_op s j)
      by (constants.Integer n) g fits k u v = pushed_means j (constants.Integer n) g refl
      by (constants.Text t) g fits k u v = text_means j (constants.Text t) g fits.1
      by (constants.Float n) g fits k u v = cc
      by (constants.Class n) g fits k u v = cc
      by (constants.Utf8 n) g fits k u v = cc
      by (constants.Long n) g fits k u v = cc
      by (constants.Double n) g fits k u v = cc
      by (constants.Field n m) g fits k u v = cc
      by (constants.Method n m) g fits k u v = cc
      by (constants.InterfaceMethod n m) g fits k u v = cc
      by (constants.NameAndType n m) g fits k u v = cc
      by constants.Second g fits k u v = cc

  pub double_means : (j : ℕ) → is_among 18 20 i.op ≡ true → index_of i.operands ≡ Some j → is_entry d.class.pool kind.Double j ≡ true → Means (ldc_op s j)
  double_means j a f e = let c = entry_of d.class.pool kind.Double j e in by c.0 c.1 c.2 (no_float c.0 (among_loads j c.0 a f c.1))
    where
      by : (c : Constant) → entry d.class.pool j ≡ Some c → is_of_kind kind.Double c ≡ true → is_float_constant c ≡ false → Means (ldc_op s j)
      by (constants.Long n) g k u = pushed_means j (constants.Long n) g refl
      by (constants.Double n) g k u = cc
      by (constants.Integer n) g k u = cc
      by (constants.Text t) g k u = cc
      by (constants.Float n) g k u = cc
      by (constants.Class n) g k u = cc
      by (constants.Utf8 n) g k u = cc
      by (constants.Field n m) g k u = cc
      by (constants.Method n m) g k u = cc
      by (constants.InterfaceMethod n m) g k u = cc
      by (constants.NameAndType n m) g k u = cc
      by constants.Second g k u = cc
