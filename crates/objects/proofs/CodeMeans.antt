-- Code of taken methods means something: each instruction, and each exception entry. So classes that are read are linked to a program, or refused.
use Rattle.std.proofs.Common.{◌≡◌, inl, inr, ℕ, ℤ, suc, ◌<◌, ◌≤◌, List, [], ◌∷◌, map, Option, Some, None, Ok, Bool, true, false, nat_eq, drop, refl, sym, ap, subst, ◌∙◌}
use Rattle.std.specs.Prelude.{slice_get, codes, pos, negsuc, int_le, nat_lt, ◌==◌, ◌&&◌, ◌||◌, if◌then◌else◌, is_some, option_map, option_and_then}
use Rattle.std.specs.List.{AllByRecursion, list_all}
use Rattle.std.specs.Int.{w32, int_wrapping_add}
use Rattle.std.proofs.lemmas.Bool.Decides.{Decides-eqb}
use Rattle.jmodel.specs.declared.value.Value.TheVariants as value
use Rattle.jmodel.specs.declared.instruction.EntryKind.{EntryKind}
use Rattle.jmodel.specs.declared.instruction.EntryKind.TheVariants as kind
use Rattle.jmodel.specs.declared.instruction.Form.{Form}
use Rattle.jmodel.specs.declared.instruction.Form.TheVariants as form
use Rattle.jmodel.specs.declared.instruction.Operands.{Operands}
use Rattle.jmodel.specs.declared.instruction.Operands.TheVariants as operands
use Rattle.jmodel.specs.declared.instruction.Instr.{Instr}
use Rattle.jmodel.specs.format.ClassFile.{ClassFile}
use Rattle.jmodel.specs.format.Pool.{class_name, field_name, member_name}
use Rattle.jmodel.specs.format.Descriptor.{is_array_name}
use Rattle.jmodel.specs.format.DescriptorReading.{brackets, type_of}
use Rattle.jmodel.specs.format.Instruction.{form_of, is_entry, argument_places, targets_of, is_start}
use Rattle.jmodel.specs.format.InstructionReading.{are_starts}
use Rattle.objects.specs.linking.Code.{widened, Coded, decoded, number_at, table_cases, numbered_case}
use Rattle.objects.specs.linking.Classes.{Declared}
use Rattle.objects.specs.linking.Taken.{index_of, invoked}
use Rattle.objects.specs.linking.Each.{in_front, each}
use Rattle.objects.specs.declared.op.Op.{Op}
use Rattle.objects.specs.declared.op.Op.TheVariants as op
use Rattle.objects.specs.linking.Resolution.{is_known, holds_of}
use Rattle.objects.specs.linking.Constructs.{named_class, reference_name, unknown_core, unknown_in, has_no_object, is_bad_new, is_float_op, is_float_array, is_float_constant, is_float_field, is_float_method, accessed, entry_pushed}
use Rattle.objects.specs.linking.Layout.{rows, array_over, primitive_arrays, type_number}
use Rattle.objects.specs.linking.Decoding.{Symbols, is_among, simple_op, local_op, wide_op, jump_to, jump_op, switch_to, switch_op, primitive_array, new_array, number_op, class_op, pool_op, ldc_op, field_op, call_op, meaning, op_of}
use Rattle.objects.specs.linking.Linking.{taken_methods, original_symbols, constructs_fault}
use Rattle.objects.specs.laws.LinkingLaw.{AreRead}
use Rattle.objects.proofs.Items.{IsAt, item, any_item, places}
use Rattle.objects.proofs.CleanCode.{IsClean, clean_code, taken_clean, neither}
use Rattle.objects.proofs.FolderArrays.{known_is}
use Rattle.objects.proofs.CodeShapes.{IsWideForm, IsShapedAs, IsShapedInstr, IsCodeRead, code_read}
use Rattle.objects.proofs.CalledMembers.{class_numbered, array_numbered, made_there}
use Rattle.objects.proofs.Opcodes as opcodes
use Rattle.objects.proofs.NamedMembers.{of_field, accessed_is, invoked_is}
use Rattle.objects.proofs.NamesMean.{map_some, then_some, some_value, field_there, method_there, interface_there, class_there, pool_fits, field_means, call_means, single_means, double_means}

two : (a b : Bool) → (a && b) ≡ true → (a ≡ true) × (b ≡ true)
two true b e = (refl, e)
two false b e = cc

-- ---- lists

pub each_some : {A B : Type 0} (f : A → Option B) (xs : List A) → AllByRecursion (λ x. is_some (f x) ≡ true) xs → is_some (each f xs) ≡ true
each_some f [] all = refl
each_some f (x ∷ xs) all = by (f x) (each f xs) all.0 (each_some f xs all.1)
  where
    by : {B : Type 0} (o : Option B) (os : Option (List B)) → is_some o ≡ true → is_some os ≡ true → is_some (in_front o os) ≡ true
    by None os e f = cc
    by (Some y) None e f = cc
    by (Some y) (Some ys) e f = refl

-- where not each gives something, one gives nothing
pub no_each : {A B : Type 0} (f : A → Option B) (xs : List A) → each f xs ≡ None → (i : ℕ) × (x : A) × (slice_get xs i ≡ Some x) × (f x ≡ None)
no_each f [] e = cc
no_each {A} {B} f (x ∷ xs) e = go (f x) refl (each f xs) refl e (no_each f xs)
  where
    go : (o : Option B) → f x ≡ o → (os : Option (List B)) → each f xs ≡ os → in_front o os ≡ None → (each f xs ≡ None → (i : ℕ) × (y : A) × (slice_get xs i ≡ Some y) × (f y ≡ None))
        → (i : ℕ) × (y : A) × (slice_get (x ∷ xs) i ≡ Some y) × (f y ≡ None)
    go None is os are e rest = (0, x, refl, is)
    go (Some y) is None are e rest = let r = rest are in (suc r.0, r.1, r.2, r.3)
    go (Some y) is (Some ys) are e rest = cc

-- ---- targets

pub start_there : (is : List Instr) (t : ℕ) → is_start is t ≡ true → is_some (number_at is t) ≡ true
start_there is t e =
    let a = any_item (λ (i : Instr). i.pc == t) is e in
    let p = places (λ (i : Instr). nat_eq i.pc t) is a.0 a.1 a.2 in
    ap (λ (o : Option ℕ). is_some o) p.1

case_means : (is : List Instr) (c : ℤ × ℕ) → is_start is c.1 ≡ true → is_some (numbered_case is c) ≡ true
case_means is c e = map_some (λ n. (c.0, n)) (number_at is c.1) (start_there is c.1 e)

pair_cases : (is : List Instr) (ps : List (ℤ × ℕ)) → list_all (is_start is) (map (λ (p : ℤ × ℕ). p.1) ps) ≡ true → AllByRecursion (λ c. is_some (numbered_case is c) ≡ true) ps
pair_cases is [] e = tt
pair_cases is (p ∷ ps) e = let t = two (is_start is p.1) _ e in (case_means is p t.0, pair_cases is ps t.1)

key_cases : (is : List Instr) (key : ℤ) (ts : List ℕ) → list_all (is_start is) ts ≡ true → AllByRecursion (λ c. is_some (numbered_case is c) ≡ true) (table_cases key ts)
key_cases is key [] e = tt
key_cases is key (t ∷ ts) e = let p = two (is_start is t) _ e in (case_means is (key, t) p.0, key_cases is (int_wrapping_add w32 key (pos 1)) ts p.1)

switch_means : (is : List Instr) (other : ℕ) (cases : List (ℤ × ℕ)) → is_start is other ≡ true → AllByRecursion (λ c. is_some (numbered_case is c) ≡ true) cases → is_some (switch_op is other cases) ≡ true
switch_means is other cases e all = by (number_at is other) (each (numbered_case is) cases) (start_there is other e) (each_some (numbered_case is) cases all)
  where
    by : (o : Option ℕ) (cs : Option (List (ℤ × ℕ))) → is_some o ≡ true → is_some cs ≡ true → is_some (switch_to o cs) ≡ true
    by None cs e f = cc
    by (Some o) None e f = cc
    by (Some o) (Some cs) e f = refl

-- ---- an instruction

some_of_three : (a b c : Bool) → (a || (b || c)) ≡ true → a ≡ false → b ≡ false → c ≡ true
some_of_three true b c e f g = cc
some_of_three false true c e f g = cc
some_of_three false false c e f g = e

module _ (cs : List ClassFile) (read : AreRead cs) (d : Declared) (taken : IsAt (taken_methods cs) d) (constructs : constructs_fault cs ≡ None) (x : Coded) (is : decoded d.class d.member ≡ Ok x) where
  abbrev s : Symbols
  s = original_symbols cs d.class

  abbrev Means : Option Op → Type 0
  Means o = is_some o ≡ true

  all_read : IsCodeRead d.class.pool x
  all_read = code_read d.class d.member x is

  module _ (i : Instr) (inside : IsAt x.instrs i) where
    clean : IsClean cs d i
    clean = (clean_code cs d (taken_clean cs constructs d taken) x is i inside).instr

    lands : are_starts x.instrs (targets_of i.operands) ≡ true
    lands = item _ x.instrs i all_read.jumps inside

    no_float_op : is_float_op (widened i.op i.operands) ≡ false
    no_float_op =
        let a = neither (is_float_op (widened i.op i.operands) || is_float_array i.op i.operands || holds_of is_float_constant (entry_pushed d.class.pool i) || holds_of is_float_field (accessed d.class.pool i)) (holds_of is_float_method (invoked d.class.pool i)) clean.float in
        let b = neither (is_float_op (widened i.op i.operands) || is_float_array i.op i.operands || holds_of is_float_constant (entry_pushed d.class.pool i)) (holds_of is_float_field (accessed d.class.pool i)) a.0 in
        let c = neither (is_float_op (widened i.op i.operands) || is_float_array i.op i.operands) (holds_of is_float_constant (entry_pushed d.class.pool i)) b.0 in
        (neither (is_float_op (widened i.op i.operands)) (is_float_array i.op i.operands) c.0).0

    no_float_array : is_float_array i.op i.operands ≡ false
    no_float_array =
        let a = neither (is_float_op (widened i.op i.operands) || is_float_array i.op i.operands || holds_of is_float_constant (entry_pushed d.class.pool i) || holds_of is_float_field (accessed d.class.pool i)) (holds_of is_float_method (invoked d.class.pool i)) clean.float in
        let b = neither (is_float_op (widened i.op i.operands) || is_float_array i.op i.operands || holds_of is_float_constant (entry_pushed d.class.pool i)) (holds_of is_float_field (accessed d.class.pool i)) a.0 in
        let c = neither (is_float_op (widened i.op i.operands) || is_float_array i.op i.operands) (holds_of is_float_constant (entry_pushed d.class.pool i)) b.0 in
        (neither (is_float_op (widened i.op i.operands)) (is_float_array i.op i.operands) c.0).1

    no_subroutine : ((i.op == 168) ≡ false) × ((i.op == 201) ≡ false) × ((widened i.op i.operands == 169) ≡ false)
    no_subroutine =
        let a = neither ((i.op == 168) || (i.op == 201)) (widened i.op i.operands == 169) clean.subroutine in
        let b = neither (i.op == 168) (i.op == 201) a.0 in
        (b.0, b.1, a.1)

    plain_of : (f : Option Form) → IsShapedAs d.class.pool f operands.Nothing → opcodes.is_plain f ≡ true
    plain_of (Some form.Plain) h = refl
    plain_of None h = absurd h
    plain_of (Some form.Byte) h = absurd h
    plain_of (Some form.Short) h = absurd h
    plain_of (Some form.ArrayType) h = absurd h
    plain_of (Some form.Local) h = absurd h
    plain_of (Some form.Increment) h = absurd h
    plain_of (Some (form.ShortEntry k)) h = absurd h
    plain_of (Some (form.Entry k)) h = absurd h
    plain_of (Some form.Interface) h = absurd h
    plain_of (Some form.Dimensions) h = absurd h
    plain_of (Some form.Jump) h = absurd h
    plain_of (Some form.FarJump) h = absurd h
    plain_of (Some form.Table) h = absurd h
    plain_of (Some form.Lookup) h = absurd h
    plain_of (Some form.Wide) h = absurd h

    number_of_form : (n : ℤ) (f : Option Form) → IsShapedAs d.class.pool f (operands.Number n) → opcodes.is_number f ≡ true
    number_of_form n (Some form.Byte) h = refl
    number_of_form n (Some form.Short) h = refl
    number_of_form n (Some form.ArrayType) h = refl
    number_of_form n None h = absurd h
    number_of_form n (Some form.Plain) h = absurd h
    number_of_form n (Some form.Local) h = absurd h
    number_of_form n (Some form.Increment) h = absurd h
    number_of_form n (Some (form.ShortEntry k)) h = absurd h
    number_of_form n (Some (form.Entry k)) h = absurd h
    number_of_form n (Some form.Interface) h = absurd h
    number_of_form n (Some form.Dimensions) h = absurd h
    number_of_form n (Some form.Jump) h = absurd h
    number_of_form n (Some form.FarJump) h = absurd h
    number_of_form n (Some form.Table) h = absurd h
    number_of_form n (Some form.Lookup) h = absurd h
    number_of_form n (Some form.Wide) h = absurd h

    local_of_form : (n : ℕ) (f : Option Form) → IsShapedAs d.class.pool f (operands.Local n) → opcodes.is_local f ≡ true
    local_of_form n (Some form.Local) h = refl
    local_of_form n None h = absurd h
    local_of_form n (Some form.Plain) h = absurd h
    local_of_form n (Some form.Byte) h = absurd h
    local_of_form n (Some form.Short) h = absurd h
    local_of_form n (Some form.ArrayType) h = absurd h
    local_of_form n (Some form.Increment) h = absurd h
    local_of_form n (Some (form.ShortEntry k)) h = absurd h
    local_of_form n (Some (form.Entry k)) h = absurd h
    local_of_form n (Some form.Interface) h = absurd h
    local_of_form n (Some form.Dimensions) h = absurd h
    local_of_form n (Some form.Jump) h = absurd h
    local_of_form n (Some form.FarJump) h = absurd h
    local_of_form n (Some form.Table) h = absurd h
    local_of_form n (Some form.Lookup) h = absurd h
    local_of_form n (Some form.Wide) h = absurd h

    -- the form of an opcode that has operands is there
    form_there : (o : Operands) → IsShapedAs d.class.pool (form_of i.op) o → i.op < 202
    form_there o h = go (form_of i.op) refl h
      where
        go : (f : Option Form) → form_of i.op ≡ f → IsShapedAs d.class.pool f o → i.op < 202
        go None e h = absurd h
        go (Some f) e h = opcodes.few i.op f e

    nothing_means : i.operands ≡ operands.Nothing → IsShapedAs d.class.pool (form_of i.op) operands.Nothing → Means (simple_op i.op)
    nothing_means o h =
        some_of_three (is_float_op i.op) (is_among 194 195 i.op) (is_some (simple_op i.op)) (opcodes.plain_means i.op (form_there operands.Nothing h) (plain_of (form_of i.op) h))
        (ap (λ o. is_float_op (widened i.op o)) (sym o) ∙ no_float_op) clean.monitor

    local_means : (n : ℕ) → i.operands ≡ operands.Local n → IsShapedAs d.class.pool (form_of i.op) (operands.Local n) → Means (local_op i.op n)
    local_means n o h =
        some_of_three (is_float_op i.op) (i.op == 169) (is_some (local_op i.op n)) (opcodes.local_means n i.op (form_there (operands.Local n) h) (local_of_form n (form_of i.op) h))
        (ap (λ o. is_float_op (widened i.op o)) (sym o) ∙ no_float_op) (ap (λ o. widened i.op o == 169) (sym o) ∙ no_subroutine.2)

    -- ---- arrays of numbers

    primitive : (m : ℕ) (n : List ℕ) → IsAt primitive_arrays n → Means (new_array s n)
    primitive m n at = map_some op.NewArray (type_number (rows cs) n) (array_numbered cs n (inl at))

    array_means : (m : ℕ) → 4 ≤ m → m ≤ 11 → (int_le (pos 6) (pos m) && int_le (pos m) (pos 7)) ≡ false → Means (option_and_then (new_array s) (primitive_array (pos m)))
    array_means m low high fine = go (m == 4) (m == 5) (m == 8) (m == 9) (m == 10) (m == 11) (second _ _ (opcodes.array_codes m low high) fine)
      where
        second : (a b : Bool) → (a || b) ≡ true → a ≡ false → b ≡ true
        second true b e f = cc
        second false b e f = e

        go : (a b c e f g : Bool) → (a || (b || (c || (e || (f || g))))) ≡ true
            → Means (option_and_then (new_array s) (if a then Some (codes "[Z") else if b then Some (codes "[C") else if c then Some (codes "[B") else if e then Some (codes "[S") else if f then Some (codes "[I") else if g then Some (codes "[J") else None))
        go true b c e f g h = primitive m (codes "[Z") (5, refl)
        go false true c e f g h = primitive m (codes "[C") (1, refl)
        go false false true e f g h = primitive m (codes "[B") (0, refl)
        go false false false true f g h = primitive m (codes "[S") (4, refl)
        go false false false false true g h = primitive m (codes "[I") (2, refl)
        go false false false false false true h = primitive m (codes "[J") (3, refl)
        go false false false false false false h = cc

    number_means : (n : ℤ) → i.operands ≡ operands.Number n → IsShapedAs d.class.pool (form_of i.op) (operands.Number n) → Means (number_op s i.op n)
    number_means n o h = go (i.op == 16) (i.op == 17) (i.op == 188) refl refl refl (opcodes.number_means i.op (form_there (operands.Number n) h) (number_of_form n (form_of i.op) h))
      where
        array : (n : ℤ) → i.op ≡ 188 → i.operands ≡ operands.Number n → IsShapedAs d.class.pool (form_of 188) (operands.Number n) → Means (option_and_then (new_array s) (primitive_array n))
        array (negsuc n) c o h = absurd h
        array (pos m) c o h = array_means m h.0 h.1 (ap (λ c. is_float_array c (operands.Number (pos m))) (sym c) ∙ ap (is_float_array i.op) (sym o) ∙ no_float_array)

        sixteen : (c : ℕ) → c ≡ i.op → is_among 16 17 c ≡ true → Means (number_op s i.op n)
        sixteen c e t = ap (λ b. is_some (if b then Some (op.Constant (value.Int n)) else if i.op == 188 then option_and_then (new_array s) (primitive_array n) else None)) (ap (is_among 16 17) (sym e) ∙ t)

        go : (a b c : Bool) → (i.op == 16) ≡ a → (i.op == 17) ≡ b → (i.op == 188) ≡ c → (a || (b || c)) ≡ true → Means (number_op s i.op n)
        go true b c p q r t = sixteen 16 (sym ((Decides-eqb i.op 16).0 p)) refl
        go false true c p q r t = sixteen 17 (sym ((Decides-eqb i.op 17).0 q)) refl
        go false false true p q r t =
            let c = (Decides-eqb i.op 188).0 r in
            ap (λ c. is_some (number_op s c n)) c ∙ array n c o (subst (λ c. IsShapedAs d.class.pool (form_of c) (operands.Number n)) c h)
        go false false false p q r t = cc

    -- ---- jumps

    jump_of_form : (t : ℕ) (f : Option Form) → IsShapedAs d.class.pool f (operands.Target t) → opcodes.is_jump f ≡ true
    jump_of_form t (Some form.Jump) h = refl
    jump_of_form t (Some form.FarJump) h = refl
    jump_of_form t None h = absurd h
    jump_of_form t (Some form.Plain) h = absurd h
    jump_of_form t (Some form.Byte) h = absurd h
    jump_of_form t (Some form.Short) h = absurd h
    jump_of_form t (Some form.ArrayType) h = absurd h
    jump_of_form t (Some form.Local) h = absurd h
    jump_of_form t (Some form.Increment) h = absurd h
    jump_of_form t (Some (form.ShortEntry k)) h = absurd h
    jump_of_form t (Some (form.Entry k)) h = absurd h
    jump_of_form t (Some form.Interface) h = absurd h
    jump_of_form t (Some form.Dimensions) h = absurd h
    jump_of_form t (Some form.Table) h = absurd h
    jump_of_form t (Some form.Lookup) h = absurd h
    jump_of_form t (Some form.Wide) h = absurd h

    target_means : (t : ℕ) → i.operands ≡ operands.Target t → IsShapedAs d.class.pool (form_of i.op) (operands.Target t) → Means (jump_op x.instrs i.op t)
    target_means t o h =
        let start : is_start x.instrs t ≡ true = (two (is_start x.instrs t) true (ap (λ o. are_starts x.instrs (targets_of o)) (sym o) ∙ lands)).0 in
        let to = some_value (number_at x.instrs t) (start_there x.instrs t start) in
        then_some (jump_to i.op) (number_at x.instrs t) to.0 to.1
        (some_of_three (i.op == 168) (i.op == 201) (is_some (jump_to i.op to.0)) (opcodes.jump_means to.0 i.op (form_there (operands.Target t) h) (jump_of_form t (form_of i.op) h)) no_subroutine.0 no_subroutine.1)

    -- ---- wide instructions

    wide_of_form : (w n : ℕ) (add : ℤ) (f : Option Form) → IsShapedAs d.class.pool f (operands.Wide w n add) → IsWideForm (form_of w)
    wide_of_form w n add (Some form.Wide) h = h
    wide_of_form w n add None h = absurd h
    wide_of_form w n add (Some form.Plain) h = absurd h
    wide_of_form w n add (Some form.Byte) h = absurd h
    wide_of_form w n add (Some form.Short) h = absurd h
    wide_of_form w n add (Some form.ArrayType) h = absurd h
    wide_of_form w n add (Some form.Local) h = absurd h
    wide_of_form w n add (Some form.Increment) h = absurd h
    wide_of_form w n add (Some (form.ShortEntry k)) h = absurd h
    wide_of_form w n add (Some (form.Entry k)) h = absurd h
    wide_of_form w n add (Some form.Interface) h = absurd h
    wide_of_form w n add (Some form.Dimensions) h = absurd h
    wide_of_form w n add (Some form.Jump) h = absurd h
    wide_of_form w n add (Some form.FarJump) h = absurd h
    wide_of_form w n add (Some form.Table) h = absurd h
    wide_of_form w n add (Some form.Lookup) h = absurd h

    wide_local : (f : Option Form) → IsWideForm f → opcodes.is_wide_local f ≡ true
    wide_local (Some form.Local) h = refl
    wide_local (Some form.Increment) h = refl
    wide_local None h = absurd h
    wide_local (Some form.Plain) h = absurd h
    wide_local (Some form.Byte) h = absurd h
    wide_local (Some form.Short) h = absurd h
    wide_local (Some form.ArrayType) h = absurd h
    wide_local (Some (form.ShortEntry k)) h = absurd h
    wide_local (Some (form.Entry k)) h = absurd h
    wide_local (Some form.Interface) h = absurd h
    wide_local (Some form.Dimensions) h = absurd h
    wide_local (Some form.Jump) h = absurd h
    wide_local (Some form.FarJump) h = absurd h
    wide_local (Some form.Table) h = absurd h
    wide_local (Some form.Lookup) h = absurd h
    wide_local (Some form.Wide) h = absurd h

    wide_few : (w : ℕ) → IsWideForm (form_of w) → w < 202
    wide_few w h = go (form_of w) refl h
      where
        go : (f : Option Form) → form_of w ≡ f → IsWideForm f → w < 202
        go None e h = absurd h
        go (Some f) e h = opcodes.few w f e

    wide_means : (w n : ℕ) (add : ℤ) → i.operands ≡ operands.Wide w n add → IsShapedAs d.class.pool (form_of i.op) (operands.Wide w n add) → Means (wide_op w n add)
    wide_means w n add o h =
        let wide = wide_of_form w n add (form_of i.op) h in
        some_of_three (is_float_op w) (w == 169) (is_some (wide_op w n add)) (opcodes.wide_means n add w (wide_few w wide) (wide_local (form_of w) wide))
        (ap (λ o. is_float_op (widened i.op o)) (sym o) ∙ no_float_op) (ap (λ o. widened i.op o == 169) (sym o) ∙ no_subroutine.2)

    -- ---- what names an entry of the pool

    same_kind : (k : EntryKind) → opcodes.is_kind k k ≡ true
    same_kind kind.Single = refl
    same_kind kind.Double = refl
    same_kind kind.Field = refl
    same_kind kind.Method = refl
    same_kind kind.InterfaceMethod = refl
    same_kind kind.Class = refl

    abbrev IsEntryOf : ℕ → Option Form → Type 0
    IsEntryOf j f = (k : EntryKind) × (opcodes.is_entry_form k f ≡ true) × (is_entry d.class.pool k j ≡ true)

    entry_of_form : (j : ℕ) (f : Option Form) → IsShapedAs d.class.pool f (operands.Pool j) → IsEntryOf j f
    entry_of_form j (Some (form.ShortEntry k)) h = (k, same_kind k, h)
    entry_of_form j (Some (form.Entry k)) h = (k, same_kind k, h)
    entry_of_form j None h = absurd h
    entry_of_form j (Some form.Plain) h = absurd h
    entry_of_form j (Some form.Byte) h = absurd h
    entry_of_form j (Some form.Short) h = absurd h
    entry_of_form j (Some form.ArrayType) h = absurd h
    entry_of_form j (Some form.Local) h = absurd h
    entry_of_form j (Some form.Increment) h = absurd h
    entry_of_form j (Some form.Interface) h = absurd h
    entry_of_form j (Some form.Dimensions) h = absurd h
    entry_of_form j (Some form.Jump) h = absurd h
    entry_of_form j (Some form.FarJump) h = absurd h
    entry_of_form j (Some form.Table) h = absurd h
    entry_of_form j (Some form.Lookup) h = absurd h
    entry_of_form j (Some form.Wide) h = absurd h

    interface_of_form : (j count : ℕ) (f : Option Form) → IsShapedAs d.class.pool f (operands.Interface j count) → (opcodes.is_interface_form f ≡ true) × (argument_places d.class.pool j ≡ Some count)
    interface_of_form j count (Some form.Interface) h = (refl, h)
    interface_of_form j count None h = absurd h
    interface_of_form j count (Some form.Plain) h = absurd h
    interface_of_form j count (Some form.Byte) h = absurd h
    interface_of_form j count (Some form.Short) h = absurd h
    interface_of_form j count (Some form.ArrayType) h = absurd h
    interface_of_form j count (Some form.Local) h = absurd h
    interface_of_form j count (Some form.Increment) h = absurd h
    interface_of_form j count (Some (form.ShortEntry k)) h = absurd h
    interface_of_form j count (Some (form.Entry k)) h = absurd h
    interface_of_form j count (Some form.Dimensions) h = absurd h
    interface_of_form j count (Some form.Jump) h = absurd h
    interface_of_form j count (Some form.FarJump) h = absurd h
    interface_of_form j count (Some form.Table) h = absurd h
    interface_of_form j count (Some form.Lookup) h = absurd h
    interface_of_form j count (Some form.Wide) h = absurd h

    dimensions_of_form : (j count : ℕ) (f : Option Form) → IsShapedAs d.class.pool f (operands.Dimensions j count) → opcodes.is_dimensions f ≡ true
    dimensions_of_form j count (Some form.Dimensions) h = refl
    dimensions_of_form j count None h = absurd h
    dimensions_of_form j count (Some form.Plain) h = absurd h
    dimensions_of_form j count (Some form.Byte) h = absurd h
    dimensions_of_form j count (Some form.Short) h = absurd h
    dimensions_of_form j count (Some form.ArrayType) h = absurd h
    dimensions_of_form j count (Some form.Local) h = absurd h
    dimensions_of_form j count (Some form.Increment) h = absurd h
    dimensions_of_form j count (Some (form.ShortEntry k)) h = absurd h
    dimensions_of_form j count (Some (form.Entry k)) h = absurd h
    dimensions_of_form j count (Some form.Interface) h = absurd h
    dimensions_of_form j count (Some form.Jump) h = absurd h
    dimensions_of_form j count (Some form.FarJump) h = absurd h
    dimensions_of_form j count (Some form.Table) h = absurd h
    dimensions_of_form j count (Some form.Lookup) h = absurd h
    dimensions_of_form j count (Some form.Wide) h = absurd h

    abbrev pool_with : ℕ → Bool → Bool → Bool → Option Op
    pool_with j a b c =
        if a then ldc_op s j
        else if b then option_and_then (field_op s i.op) (field_name d.class.pool j)
        else if c then option_and_then (call_op s i.op) (member_name d.class.pool j)
        else option_and_then (class_op s i.op) (class_name d.class.pool j)

    pool_by : (j : ℕ) (a b c : Bool) → is_among 18 20 i.op ≡ a → is_among 178 181 i.op ≡ b → is_among 182 185 i.op ≡ c → Means (pool_with j a b c) → Means (pool_op s i.op j)
    pool_by j a b c p q r h =
        ap (λ y. is_some (pool_with j y (is_among 178 181 i.op) (is_among 182 185 i.op))) p ∙ ap (λ y. is_some (pool_with j a y (is_among 182 185 i.op))) q ∙ ap (λ y. is_some (pool_with j a b y)) r ∙ h

    -- an opcode of some
    at_op : (P : ℕ → Type 0) (c : ℕ) → (i.op == c) ≡ true → P c → P i.op
    at_op P c e h = subst P (sym ((Decides-eqb i.op c).0 e)) h

    abbrev IsFieldOp : ℕ → Type 0
    IsFieldOp c = (is_among 18 20 c ≡ false) × (is_among 178 181 c ≡ true)

    field_ops : (a b c e : Bool) → (i.op == 178) ≡ a → (i.op == 179) ≡ b → (i.op == 180) ≡ c → (i.op == 181) ≡ e → (a || (b || (c || e))) ≡ true → IsFieldOp i.op
    field_ops true b c e p q r t h = at_op IsFieldOp 178 p (refl, refl)
    field_ops false true c e p q r t h = at_op IsFieldOp 179 q (refl, refl)
    field_ops false false true e p q r t h = at_op IsFieldOp 180 r (refl, refl)
    field_ops false false false true p q r t h = at_op IsFieldOp 181 t (refl, refl)
    field_ops false false false false p q r t h = cc

    abbrev IsCallOp : ℕ → Type 0
    IsCallOp c = (is_among 18 20 c ≡ false) × (is_among 178 181 c ≡ false) × (is_among 182 185 c ≡ true)

    call_ops : (a b c e : Bool) → (i.op == 182) ≡ a → (i.op == 183) ≡ b → (i.op == 184) ≡ c → (i.op == 185) ≡ e → (a || (b || (c || e))) ≡ true → IsCallOp i.op
    call_ops true b c e p q r t h = at_op IsCallOp 182 p (refl, refl, refl)
    call_ops false true c e p q r t h = at_op IsCallOp 183 q (refl, refl, refl)
    call_ops false false true e p q r t h = at_op IsCallOp 184 r (refl, refl, refl)
    call_ops false false false true p q r t h = at_op IsCallOp 185 t (refl, refl, refl)
    call_ops false false false false p q r t h = cc

    abbrev IsClassOp : ℕ → Type 0
    IsClassOp c = (is_among 18 20 c ≡ false) × (is_among 178 181 c ≡ false) × (is_among 182 185 c ≡ false) × (((c == 187) || (c == 189) || (c == 192) || (c == 193)) ≡ true)

    class_ops : (a b c e : Bool) → (i.op == 187) ≡ a → (i.op == 189) ≡ b → (i.op == 192) ≡ c → (i.op == 193) ≡ e → (a || (b || (c || e))) ≡ true → IsClassOp i.op
    class_ops true b c e p q r t h = at_op IsClassOp 187 p (refl, refl, refl, refl)
    class_ops false true c e p q r t h = at_op IsClassOp 189 q (refl, refl, refl, refl)
    class_ops false false true e p q r t h = at_op IsClassOp 192 r (refl, refl, refl, refl)
    class_ops false false false true p q r t h = at_op IsClassOp 193 t (refl, refl, refl, refl)
    class_ops false false false false p q r t h = cc

    calls : (j : ℕ) → index_of i.operands ≡ Some j → ((i.op == 182) || ((i.op == 183) || ((i.op == 184) || (i.op == 185)))) ≡ true → is_some (member_name d.class.pool j) ≡ true → Means (pool_op s i.op j)
    calls j at h there =
        let o = call_ops (i.op == 182) (i.op == 183) (i.op == 184) (i.op == 185) refl refl refl refl h in
        let n = some_value (member_name d.class.pool j) there in
        pool_by j false false true o.0 o.1 o.2 (then_some (call_op s i.op) (member_name d.class.pool j) n.0 n.1 (call_means cs read d taken x is i inside clean n.0 (invoked_is d.class.pool i j n.0 o.2 at n.1) h))

    no_first : (a b : Bool) → (a || b) ≡ false → a ≡ false
    no_first true b e = cc
    no_first false b e = refl

    class_op_means : (j : ℕ) (n : List ℕ) → index_of i.operands ≡ Some j → class_name d.class.pool j ≡ Some n → ((i.op == 187) || (i.op == 189) || (i.op == 192) || (i.op == 193)) ≡ true
        → ((i.op == 187) || ((i.op == 189) || ((i.op == 192) || (i.op == 193)))) ≡ true → Means (class_op s i.op n)
    class_op_means j n at name one h = go (i.op == 187) (i.op == 189) (i.op == 192) (i.op == 193) refl refl h
      where
        there : option_and_then (class_name d.class.pool) (index_of i.operands) ≡ Some n
        there = ap (option_and_then (class_name d.class.pool)) at ∙ name

        named : named_class d.class.pool i ≡ Some n
        named = ap (λ b. if b then option_and_then (class_name d.class.pool) (index_of i.operands) else None) one ∙ there

        known : is_array_name n ≡ false → is_known cs n ≡ true
        known plain = known_is cs n (ap (λ b. unknown_core cs (if b then reference_name (type_of (drop (brackets n) n)) else Some n)) (sym plain) ∙ ap (unknown_in cs) (sym named) ∙ clean.known)

        objects : (i.op == 187) ≡ true → is_some (type_number s.types n) ≡ true
        objects t =
            let bad : is_bad_new cs i.op n ≡ false = ap (holds_of (is_bad_new cs i.op)) (sym named) ∙ clean.new in
            let new : (has_no_object cs n || false) ≡ false = ap (λ c. (c == 187) && has_no_object cs n || (c == 189) && nat_lt 254 (brackets n)) (sym ((Decides-eqb i.op 187).0 t)) ∙ bad in
            let none = no_first (has_no_object cs n) false new in
            class_numbered cs n (known (no_first (is_array_name n) _ none)) none

        go : (a b c e : Bool) → (i.op == 187) ≡ a → (i.op == 189) ≡ b → (a || (b || (c || e))) ≡ true
            → Means (if a then option_map op.New (type_number s.types n) else if b then new_array s (array_over n) else if c then Some (op.CheckCast n) else if e then Some (op.InstanceOf n) else None)
        go true b c e p q h = map_some op.New (type_number s.types n) (objects p)
        go false true c e p q h = map_some op.NewArray (type_number s.types (array_over n)) (array_numbered cs (array_over n) (inr (made_there cs d taken x is i inside n q there)))
        go false false true e p q h = refl
        go false false false true p q h = refl
        go false false false false p q h = cc

    three_of : (a b c e : Bool) → (a || (b || c)) ≡ true → (a || (b || (c || e))) ≡ true
    three_of true b c e h = refl
    three_of false true c e h = refl
    three_of false false true e h = refl
    three_of false false false e h = cc

    pool_means : (j : ℕ) → i.operands ≡ operands.Pool j → IsShapedAs d.class.pool (form_of i.op) (operands.Pool j) → Means (pool_op s i.op j)
    pool_means j o h = let e = entry_of_form j (form_of i.op) h in by e.0 e.1 e.2
      where
        at : index_of i.operands ≡ Some j
        at = ap index_of o

        less : i.op < 202
        less = form_there (operands.Pool j) h

        by : (k : EntryKind) → opcodes.is_entry_form k (form_of i.op) ≡ true → is_entry d.class.pool k j ≡ true → Means (pool_op s i.op j)
        by kind.Single f e = let a = opcodes.single_means i.op less f in ap (λ y. is_some (pool_with j y (is_among 178 181 i.op) (is_among 182 185 i.op))) a ∙ single_means cs read d taken x is i inside clean j a at e
        by kind.Double f e = let a = opcodes.double_means i.op less f in ap (λ y. is_some (pool_with j y (is_among 178 181 i.op) (is_among 182 185 i.op))) a ∙ double_means cs read d taken x is i inside clean j a at e
        by kind.Field f e =
            let c = opcodes.field_means i.op less f in
            let a = field_ops (i.op == 178) (i.op == 179) (i.op == 180) (i.op == 181) refl refl refl refl c in
            let n = some_value (field_name d.class.pool j) (field_there d.class.pool (pool_fits cs read d taken x is i inside clean) j e) in
            pool_by j false true (is_among 182 185 i.op) a.0 a.1 refl
            (then_some (field_op s i.op) (field_name d.class.pool j) n.0 n.1 (field_means cs read d taken x is i inside clean n.0 (accessed_is d.class.pool i j n.0 a.1 at (of_field d.class.pool j n.0 n.1)) c))
        by kind.Method f e = calls j at (three_of (i.op == 182) (i.op == 183) (i.op == 184) (i.op == 185) (opcodes.method_means i.op less f)) (method_there d.class.pool (pool_fits cs read d taken x is i inside clean) j e)
        by kind.InterfaceMethod f e = let fall = opcodes.no_interface_entry i.op less f in cc
        by kind.Class f e =
            let c = opcodes.class_means i.op less f in
            let a = class_ops (i.op == 187) (i.op == 189) (i.op == 192) (i.op == 193) refl refl refl refl c in
            let n = some_value (class_name d.class.pool j) (class_there d.class.pool (pool_fits cs read d taken x is i inside clean) j e) in
            pool_by j false false false a.0 a.1 a.2 (then_some (class_op s i.op) (class_name d.class.pool j) n.0 n.1 (class_op_means j n.0 at n.1 a.3 c))

    interface_means : (j count : ℕ) → i.operands ≡ operands.Interface j count → IsShapedAs d.class.pool (form_of i.op) (operands.Interface j count) → Means (pool_op s i.op j)
    interface_means j count o h =
        let f = interface_of_form j count (form_of i.op) h in
        let c : (i.op == 185) ≡ true = opcodes.interface_means i.op (form_there (operands.Interface j count) h) f.0 in
        calls j (ap index_of o) (last (i.op == 182) (i.op == 183) (i.op == 184) (i.op == 185) c) (interface_there d.class.pool (pool_fits cs read d taken x is i inside clean) j count f.1)
      where
        last : (a b c e : Bool) → e ≡ true → (a || (b || (c || e))) ≡ true
        last true b c e h = refl
        last false true c e h = refl
        last false false true e h = refl
        last false false false e h = h

    -- ---- all of them

    meaning_means : (o : Operands) → i.operands ≡ o → IsShapedAs d.class.pool (form_of i.op) o → Means (meaning s x.instrs i.op o)
    meaning_means operands.Nothing e h = nothing_means e h
    meaning_means (operands.Number n) e h = number_means n e h
    meaning_means (operands.Local n) e h = local_means n e h
    meaning_means (operands.LocalAdd n add) e h = refl
    meaning_means (operands.Pool j) e h = pool_means j e h
    meaning_means (operands.Interface j count) e h = interface_means j count e h
    meaning_means (operands.Dimensions j count) e h =
        let c : (i.op == 197) ≡ true = opcodes.dimensions_means i.op (form_there (operands.Dimensions j count) h) (dimensions_of_form j count (form_of i.op) h) in
        let fall : true ≡ false = sym c ∙ clean.multi_array in
        cc
    meaning_means (operands.Target t) e h = target_means t e h
    meaning_means (operands.Table other low targets) e h =
        let l = two (is_start x.instrs other) _ (ap (λ o. are_starts x.instrs (targets_of o)) (sym e) ∙ lands) in
        switch_means x.instrs other (table_cases low targets) l.0 (key_cases x.instrs low targets l.1)
    meaning_means (operands.Lookup other pairs) e h =
        let l = two (is_start x.instrs other) _ (ap (λ o. are_starts x.instrs (targets_of o)) (sym e) ∙ lands) in
        switch_means x.instrs other pairs l.0 (pair_cases x.instrs pairs l.1)
    meaning_means (operands.Wide w n add) e h = wide_means w n add e h

    pub op_means : Means (op_of s x.instrs i)
    op_means = meaning_means i.operands refl (item (IsShapedInstr d.class.pool) x.instrs i all_read.shaped inside)
