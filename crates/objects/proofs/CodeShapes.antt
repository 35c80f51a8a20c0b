-- Code that is read: each instruction has the operands of its form, jumps and exception entries lead to instructions, and what an entry catches is named.
use Rattle.std.proofs.Common.{◌≡◌, ℕ, zero, suc, ◌≤◌, List, [], ◌∷◌, length, Option, Some, None, Result, Ok, Err, Bool, true, false, ◌&&◌, ◌||◌, nat_le, nat_lt, refl, sym, ap, subst, arith}
use Rattle.std.specs.Prelude.{ℤ, pos, ◌==◌, if◌then◌else◌, is_some, codes, find, option_and_then}
use Rattle.std.specs.List.{AllByRecursion, flat_map}
use Rattle.std.specs.Result.{result_ok}
use Rattle.std.specs.Int.{Width, w8, w16, w32}
use Rattle.std.proofs.lemmas.Bool.Decides.{nat_tests}
use Rattle.jmodel.specs.declared.class_file.Handler.{Handler}
use Rattle.jmodel.specs.declared.refusal.Refusal.{Refusal}
use Rattle.jmodel.specs.declared.refusal.Refusal.TheVariants.{BadCode}
use Rattle.jmodel.specs.declared.instruction.EntryKind.{EntryKind}
use Rattle.jmodel.specs.declared.instruction.EntryKind.TheVariants as kind
use Rattle.jmodel.specs.declared.instruction.Form.{Form}
use Rattle.jmodel.specs.declared.instruction.Form.TheVariants as form
use Rattle.jmodel.specs.declared.instruction.Operands.{Operands}
use Rattle.jmodel.specs.declared.instruction.Operands.TheVariants as operands
use Rattle.jmodel.specs.declared.instruction.Instr.{Instr}
use Rattle.jmodel.specs.format.ClassFile.{Attribute, Member, Pool as Entries, ClassFile, Code}
use Rattle.jmodel.specs.format.Pool.{class_name}
use Rattle.jmodel.specs.format.ClassRules.{is_named}
use Rattle.jmodel.specs.format.Reading.{◌>>=◌, run_at, number_at, u2_at, items_at}
use Rattle.jmodel.specs.format.ClassReading.{handler_fits, handler_at, handlers_at, attributes_at, body_at, code_at, code_of}
use Rattle.jmodel.specs.format.Instruction.{form_of, padding, is_entry, argument_places, targets_of, is_start, places_of_handler}
use Rattle.jmodel.specs.format.InstructionReading.{bad_target, want, as_bad, signed_at, target_at, signed_operand_at, array_type_at, local_at, increment_at, entry_operand_at, is_count, interface_at, dimensions_at, jump_at, keys_from, table_of, table_at, pair_at, count_at, lookup_at, wide_of, wide_at, operands_at, operands_as, parts_at, instr_at, instrs_at, are_starts, targets_fit, lesser, least_bad, places_fit, instrs_of}
use Rattle.objects.specs.linking.Code.{Coded, decoded}
use Rattle.objects.proofs.InstrNumbers.{Has, then_has, after}
use Rattle.objects.proofs.CodeRead.{coded_parts}

-- ---- operands by forms

-- a wide load, store or increment
abbrev pub IsWideForm : Option Form → Type 0
IsWideForm (Some form.Local) = Unit {0}
IsWideForm (Some form.Increment) = Unit {0}
IsWideForm f = ⊥

abbrev pub IsShaped : Entries → Form → Operands → Type 0
IsShaped pool form.Plain operands.Nothing = Unit {0}
IsShaped pool form.Byte (operands.Number n) = Unit {0}
IsShaped pool form.Short (operands.Number n) = Unit {0}
IsShaped pool form.ArrayType (operands.Number (pos n)) = (4 ≤ n) × (n ≤ 11)
IsShaped pool form.Local (operands.Local n) = Unit {0}
IsShaped pool form.Increment (operands.LocalAdd n add) = Unit {0}
IsShaped pool (form.ShortEntry k) (operands.Pool i) = is_entry pool k i ≡ true
IsShaped pool (form.Entry k) (operands.Pool i) = is_entry pool k i ≡ true
IsShaped pool form.Interface (operands.Interface i count) = argument_places pool i ≡ Some count
IsShaped pool form.Dimensions (operands.Dimensions i count) = Unit {0}
IsShaped pool form.Jump (operands.Target t) = Unit {0}
IsShaped pool form.FarJump (operands.Target t) = Unit {0}
IsShaped pool form.Table (operands.Table other low targets) = Unit {0}
IsShaped pool form.Lookup (operands.Lookup other pairs) = Unit {0}
IsShaped pool form.Wide (operands.Wide op n add) = IsWideForm (form_of op)
IsShaped pool f o = ⊥

abbrev pub IsShapedAs : Entries → Option Form → Operands → Type 0
IsShapedAs pool None o = ⊥
IsShapedAs pool (Some f) o = IsShaped pool f o

abbrev pub IsShapedInstr : Entries → Instr → Type 0
IsShapedInstr pool i = IsShapedAs pool (form_of i.op) i.operands

abbrev First : Entries → Form → Operands × ℕ → Type 0
First pool f o = IsShaped pool f o.0

wanted : {A : Type 0} (Q : A → Type 0) (b : Bool) (pc : ℕ) (x : A) → (b ≡ true → Q x) → Has Q (want b pc x)
wanted Q true pc x h = h refl
wanted Q false pc x h = tt

both : (a b : Bool) → (a && b) ≡ true → (a ≡ true) × (b ≡ true)
both true b e = (refl, e)
both false b e = cc

module _ (pool : Entries) (pc : ℕ) (bytes : List ℕ) (at : ℕ) where
  byte_shaped : Has (First pool form.Byte) (signed_operand_at w8 bytes at)
  unfolding signed_operand_at
  byte_shaped = after (First pool form.Byte) (signed_at w8 bytes at) (λ n. Ok (operands.Number n.0, n.1)) (λ n. tt)

  short_shaped : Has (First pool form.Short) (signed_operand_at w16 bytes at)
  unfolding signed_operand_at
  short_shaped = after (First pool form.Short) (signed_at w16 bytes at) (λ n. Ok (operands.Number n.0, n.1)) (λ n. tt)

  array_shaped : Has (First pool form.ArrayType) (array_type_at pc bytes at)
  unfolding array_type_at
  array_shaped =
      after (First pool form.ArrayType) (number_at w8 bytes at) (λ n. want (nat_le 4 n.0 && nat_le n.0 11) pc (operands.Number (pos n.0), n.1))
      (λ n. wanted (First pool form.ArrayType) (nat_le 4 n.0 && nat_le n.0 11) pc (operands.Number (pos n.0), n.1) (λ e. range n.0 e))
    where
      range : (n : ℕ) → (nat_le 4 n && nat_le n 11) ≡ true → (4 ≤ n) × (n ≤ 11)
      range n e = let t = both (nat_le 4 n) (nat_le n 11) e in ((let u = t.0 in grind (arith, nat_tests)), (let u = t.1 in grind (arith, nat_tests)))

  local_shaped : Has (First pool form.Local) (local_at bytes at)
  unfolding local_at
  local_shaped = after (First pool form.Local) (number_at w8 bytes at) (λ n. Ok (operands.Local n.0, n.1)) (λ n. tt)

  increment_shaped : Has (First pool form.Increment) (increment_at bytes at)
  unfolding increment_at
  increment_shaped =
      after (First pool form.Increment) (number_at w8 bytes at) (λ n. signed_at w8 bytes n.1 >>= λ add. Ok (operands.LocalAdd n.0 add.0, add.1))
      (λ n. after (First pool form.Increment) (signed_at w8 bytes n.1) (λ add. Ok (operands.LocalAdd n.0 add.0, add.1)) (λ add. tt))

  abbrev Entry : EntryKind → Operands × ℕ → Type 0
  Entry k o = IsShaped pool (form.Entry k) o.0

  entry_shaped : (w : Width) (k : EntryKind) → Has (Entry k) (entry_operand_at pool w k pc bytes at)
  unfolding entry_operand_at
  entry_shaped w k = after (Entry k) (number_at w bytes at) (λ i. want (is_entry pool k i.0) pc (operands.Pool i.0, i.1)) (λ i. wanted (Entry k) (is_entry pool k i.0) pc (operands.Pool i.0, i.1) (λ e. e))

  short_entry : (k : EntryKind) (r : Result (Operands × ℕ) Refusal) → Has (Entry k) r → Has (First pool (form.ShortEntry k)) r
  short_entry k (Err e) h = tt
  short_entry k (Ok (operands.Pool i, n)) h = h
  short_entry k (Ok (operands.Nothing, n)) h = h
  short_entry k (Ok (operands.Number x, n)) h = h
  short_entry k (Ok (operands.Local x, n)) h = h
  short_entry k (Ok (operands.LocalAdd x y, n)) h = h
  short_entry k (Ok (operands.Interface x y, n)) h = h
  short_entry k (Ok (operands.Dimensions x y, n)) h = h
  short_entry k (Ok (operands.Target x, n)) h = h
  short_entry k (Ok (operands.Table x y z, n)) h = h
  short_entry k (Ok (operands.Lookup x y, n)) h = h
  short_entry k (Ok (operands.Wide x y z, n)) h = h

  interface_shaped : Has (First pool form.Interface) (interface_at pool pc bytes at)
  unfolding interface_at
  interface_shaped =
      after (First pool form.Interface) (u2_at bytes at) _ (λ i. after (First pool form.Interface) (number_at w8 bytes i.1) _
      (λ count. after (First pool form.Interface) (number_at w8 bytes count.1) _ (λ last. wanted (First pool form.Interface) (is_count (argument_places pool i.0) count.0 && last.0 == 0) pc (operands.Interface i.0 count.0, last.1)
      (λ e. counted (argument_places pool i.0) count.0 (both (is_count (argument_places pool i.0) count.0) (last.0 == 0) e).0))))
    where
      counted : (o : Option ℕ) (n : ℕ) → is_count o n ≡ true → o ≡ Some n
      counted None n e = cc
      counted (Some k) n e = let s : k ≡ n = grind (arith, nat_tests) in ap (λ (k : ℕ). Some k) s

  dimensions_shaped : Has (First pool form.Dimensions) (dimensions_at pool pc bytes at)
  unfolding dimensions_at
  dimensions_shaped =
      after (First pool form.Dimensions) (u2_at bytes at) _ (λ i. after (First pool form.Dimensions) (number_at w8 bytes i.1) _
      (λ count. wanted (First pool form.Dimensions) (is_entry pool kind.Class i.0 && nat_lt 0 count.0) pc (operands.Dimensions i.0 count.0, count.1) (λ e. tt)))

  jump_shaped : Has (First pool form.Jump) (jump_at w16 pc bytes at)
  unfolding jump_at
  jump_shaped = after (First pool form.Jump) (target_at w16 pc bytes at) (λ t. Ok (operands.Target t.0, t.1)) (λ t. tt)

  far_shaped : Has (First pool form.FarJump) (jump_at w32 pc bytes at)
  unfolding jump_at
  far_shaped = after (First pool form.FarJump) (target_at w32 pc bytes at) (λ t. Ok (operands.Target t.0, t.1)) (λ t. tt)

  table_of_shaped : (other : ℕ) (low : ℤ) (n : Option ℕ) (at : ℕ) → Has (First pool form.Table) (table_of pc bytes other low n at)
  table_of_shaped other low None at = tt
  table_of_shaped other low (Some n) at = after (First pool form.Table) (items_at (target_at w32 pc bytes) n at) (λ targets. Ok (operands.Table other low targets.0, targets.1)) (λ targets. tt)

  table_shaped : Has (First pool form.Table) (table_at pc bytes at)
  unfolding table_at
  table_shaped =
      after (First pool form.Table) (run_at bytes at (padding pc)) _ (λ pad. after (First pool form.Table) (target_at w32 pc bytes pad.1) _ (λ other. after (First pool form.Table) (signed_at w32 bytes other.1) _
      (λ low. after (First pool form.Table) (signed_at w32 bytes low.1) _ (λ high. table_of_shaped other.0 low.0 (keys_from low.0 high.0) high.1))))

  lookup_shaped : Has (First pool form.Lookup) (lookup_at pc bytes at)
  unfolding lookup_at
  lookup_shaped =
      after (First pool form.Lookup) (run_at bytes at (padding pc)) _ (λ pad. after (First pool form.Lookup) (target_at w32 pc bytes pad.1) _ (λ other. after (First pool form.Lookup) (count_at pc bytes other.1) _
      (λ count. after (First pool form.Lookup) (items_at (pair_at pc bytes) count.0 count.1) _ (λ pairs. wanted (First pool form.Lookup) _ pc (operands.Lookup other.0 pairs.0, pairs.1) (λ e. tt)))))

  wide_of_shaped : (op local : ℕ) (f : Option Form) → form_of op ≡ f → (at : ℕ) → Has (First pool form.Wide) (wide_of pc bytes op local f at)
  wide_of_shaped op local (Some form.Local) e at = subst IsWideForm (sym e) tt
  wide_of_shaped op local (Some form.Increment) e at = after (First pool form.Wide) (signed_at w16 bytes at) (λ add. Ok (operands.Wide op local add.0, add.1)) (λ add. subst IsWideForm (sym e) tt)
  wide_of_shaped op local f e at = tt

  wide_shaped : Has (First pool form.Wide) (wide_at pc bytes at)
  unfolding wide_at
  wide_shaped = after (First pool form.Wide) (number_at w8 bytes at) _ (λ op. after (First pool form.Wide) (u2_at bytes op.1) _ (λ local. wide_of_shaped op.0 local.0 (form_of op.0) refl local.1))

  all_shaped : (f : Form) → Has (First pool f) (operands_at pool pc f bytes at)
  all_shaped form.Plain = tt
  all_shaped form.Byte = byte_shaped
  all_shaped form.Short = short_shaped
  all_shaped form.ArrayType = array_shaped
  all_shaped form.Local = local_shaped
  all_shaped form.Increment = increment_shaped
  all_shaped (form.ShortEntry k) = short_entry k _ (entry_shaped w8 k)
  all_shaped (form.Entry k) = entry_shaped w16 k
  all_shaped form.Interface = interface_shaped
  all_shaped form.Dimensions = dimensions_shaped
  all_shaped form.Jump = jump_shaped
  all_shaped form.FarJump = far_shaped
  all_shaped form.Table = table_shaped
  all_shaped form.Lookup = lookup_shaped
  all_shaped form.Wide = wide_shaped

-- ---- instructions

abbrev One : Entries → Instr × ℕ → Type 0
One pool i = IsShapedInstr pool i.0

as_form : (pool : Entries) (pc op : ℕ) (f : Option Form) → form_of op ≡ f → (bytes : List ℕ) (at : ℕ) → Has (One pool) (operands_as pool pc f bytes at >>= λ o. Ok (record { pc = pc; op = op; operands = o.0 }, o.1))
as_form pool pc op None e bytes at = tt
as_form pool pc op (Some f) e bytes at =
    then_has (First pool f) (One pool) (operands_at pool pc f bytes at) (λ o. Ok (record { pc = pc; op = op; operands = o.0 }, o.1)) (all_shaped pool pc bytes at f) (λ o h. subst (λ g. IsShapedAs pool g o.0) (sym e) h)

parts_shaped : (pool : Entries) (bytes : List ℕ) (pc : ℕ) → Has (One pool) (parts_at pool bytes pc)
unfolding parts_at
parts_shaped pool bytes pc = after (One pool) (number_at w8 bytes pc) _ (λ op. as_form pool pc op.0 (form_of op.0) refl bytes op.1)

as_bad_shaped : (pool : Entries) (pc : ℕ) (r : Result (Instr × ℕ) Refusal) → Has (One pool) r → Has (One pool) (as_bad pc r)
as_bad_shaped pool pc (Ok x) h = h
as_bad_shaped pool pc (Err e) h = tt

abbrev AreShaped : Entries → List Instr → Type 0
AreShaped pool is = AllByRecursion (IsShapedInstr pool) is

if_has : (pool : Entries) (b : Bool) (x y : Result (List Instr) Refusal) → Has (AreShaped pool) x → Has (AreShaped pool) y → Has (AreShaped pool) (if b then x else y)
if_has pool true x y p q = p
if_has pool false x y p q = q

each_shaped : (pool : Entries) (bytes : List ℕ) (n at : ℕ) → Has (AreShaped pool) (instrs_at pool bytes n at)
unfolding instrs_at
each_shaped pool bytes zero at = tt
each_shaped pool bytes (suc n) at =
    if_has pool (nat_le (length bytes) at) (Ok []) _ tt
    (then_has (One pool) (AreShaped pool) (instr_at pool bytes at) (λ first. instrs_at pool bytes n first.1 >>= λ others. Ok (first.0 ∷ others)) (as_bad_shaped pool at (parts_at pool bytes at) (parts_shaped pool bytes at))
    (λ first h. then_has (AreShaped pool) (AreShaped pool) (instrs_at pool bytes n first.1) (λ others. Ok (first.0 ∷ others)) (each_shaped pool bytes n first.1) (λ others hs. (h, hs))))

-- ---- where jumps and exception entries lead

abbrev Leads : List Instr → Instr → Type 0
Leads is i = are_starts is (targets_of i.operands) ≡ true

leads : (all is : List Instr) (x : Unit {0}) → targets_fit all is ≡ Ok x → AllByRecursion (Leads all) is
unfolding targets_fit
leads all [] x e = tt
leads all (i ∷ is) x e = go (are_starts all (targets_of i.operands)) refl e (leads all is x)
  where
    go : (b : Bool) → are_starts all (targets_of i.operands) ≡ b → (if b then targets_fit all is else Err (bad_target i.pc)) ≡ Ok x → (targets_fit all is ≡ Ok x → AllByRecursion (Leads all) is) → AllByRecursion (Leads all) (i ∷ is)
    go true s e rest = (s, rest e)
    go false s e rest = cc

abbrev Starts : List Instr → ℕ → Type 0
Starts is n = is_start is n ≡ true

starts : (is : List Instr) (ns : List ℕ) → least_bad is ns ≡ None → AllByRecursion (Starts is) ns
starts is [] e = tt
starts is (n ∷ ns) e = go (is_start is n) refl e (starts is ns)
  where
    go : (b : Bool) → is_start is n ≡ b → (if b then least_bad is ns else lesser (Some n) (least_bad is ns)) ≡ None → (least_bad is ns ≡ None → AllByRecursion (Starts is) ns) → AllByRecursion (Starts is) (n ∷ ns)
    go true s e rest = (s, rest e)
    go false s e rest = absurd (some (least_bad is ns) e)
      where
        some : (o : Option ℕ) → lesser (Some n) o ≡ None → ⊥
        some None e = cc
        some (Some m) e = cc

no_bad : (o : Option ℕ) (x : Unit {0}) → places_fit o ≡ Ok x → o ≡ None
no_bad None x e = refl
no_bad (Some n) x e = cc

-- what code that is read keeps
pub record IsCodeRead (pool : Entries) (x : Coded) : Type 0 where
  pub shaped : AllByRecursion (IsShapedInstr pool) x.instrs
  pub jumps : AllByRecursion (Leads x.instrs) x.instrs
  pub entries : AllByRecursion (Starts x.instrs) (flat_map (places_of_handler (length x.code.code)) x.code.handlers)

read_parts : (pool : Entries) (handlers : List Handler) (code : List ℕ) (is : List Instr) → instrs_of pool handlers code ≡ Ok is
    → AllByRecursion (IsShapedInstr pool) is × AllByRecursion (Leads is) is × AllByRecursion (Starts is) (flat_map (places_of_handler (length code)) handlers)
unfolding instrs_of
read_parts pool handlers code is e = go (instrs_at pool code (length code) 0) (each_shaped pool code (length code) 0) e
  where
    by_places : (js : List Instr) → AreShaped pool js → AllByRecursion (Leads js) js → (r : Result (Unit {0}) Refusal) → places_fit (least_bad js (flat_map (places_of_handler (length code)) handlers)) ≡ r
        → (r >>= λ entries. Ok js) ≡ Ok is → AllByRecursion (IsShapedInstr pool) is × AllByRecursion (Leads is) is × AllByRecursion (Starts is) (flat_map (places_of_handler (length code)) handlers)
    by_places js h g (Err r) f e = cc
    by_places js h g (Ok x) f e =
        let s : js ≡ is = cc in
        subst (λ is. AllByRecursion (IsShapedInstr pool) is × AllByRecursion (Leads is) is × AllByRecursion (Starts is) (flat_map (places_of_handler (length code)) handlers)) s
        (h, g, starts js (flat_map (places_of_handler (length code)) handlers) (no_bad _ x f))

    by_jumps : (js : List Instr) → AreShaped pool js → (r : Result (Unit {0}) Refusal) → targets_fit js js ≡ r
        → (r >>= λ jumps. places_fit (least_bad js (flat_map (places_of_handler (length code)) handlers)) >>= λ entries. Ok js) ≡ Ok is
        → AllByRecursion (IsShapedInstr pool) is × AllByRecursion (Leads is) is × AllByRecursion (Starts is) (flat_map (places_of_handler (length code)) handlers)
    by_jumps js h (Err r) f e = cc
    by_jumps js h (Ok x) f e = by_places js h (leads js js x f) (places_fit (least_bad js (flat_map (places_of_handler (length code)) handlers))) refl e

    go : (r : Result (List Instr) Refusal) → Has (AreShaped pool) r
        → (r >>= λ is. targets_fit is is >>= λ jumps. places_fit (least_bad is (flat_map (places_of_handler (length code)) handlers)) >>= λ entries. Ok is) ≡ Ok is
        → AllByRecursion (IsShapedInstr pool) is × AllByRecursion (Leads is) is × AllByRecursion (Starts is) (flat_map (places_of_handler (length code)) handlers)
    go (Err r) h e = cc
    go (Ok js) h e = by_jumps js h (targets_fit js js) refl e

pub code_read : (c : ClassFile) (m : Member) (x : Coded) → decoded c m ≡ Ok x → IsCodeRead c.pool x
code_read c m x e =
    let p = coded_parts c m x e in
    let r = read_parts c.pool x.code.handlers x.code.code x.instrs p.instrs in
    record { shaped = r.0; jumps = r.1; entries = r.2 }

-- ---- what entries catch

abbrev pub HasClass : Entries → Handler → Type 0
HasClass pool h = ((h.catch_type == 0) || is_some (class_name pool h.catch_type)) ≡ true

abbrev AreClasses : Entries → List Handler × ℕ → Type 0
AreClasses pool r = AllByRecursion (HasClass pool) r.0

abbrev OneClass : Entries → Handler × ℕ → Type 0
OneClass pool r = HasClass pool r.0

handler_class : (pool : Entries) (len : ℕ) (bytes : List ℕ) (at : ℕ) → Has (OneClass pool) (handler_at pool len bytes at)
unfolding handler_at
handler_class pool len bytes at =
    after (OneClass pool) (u2_at bytes at) _ (λ start. after (OneClass pool) (u2_at bytes start.1) _ (λ end. after (OneClass pool) (u2_at bytes end.1) _
    (λ handler. after (OneClass pool) (u2_at bytes handler.1) _ (λ catch_type. fits (record { start = start.0; end = end.0; handler = handler.0; catch_type = catch_type.0 }) catch_type.1))))
  where
    fits : (h : Handler) (next : ℕ) → Has (OneClass pool) (if handler_fits pool len h then Ok (h, next) else Err (BadCode []))
    fits h next = go (handler_fits pool len h) refl
      where
        go : (b : Bool) → handler_fits pool len h ≡ b → Has (OneClass pool) (if b then Ok (h, next) else Err (BadCode []))
        go true e = (both (nat_lt h.start h.end && nat_le h.end len && nat_lt h.handler len) _ e).1
        go false e = tt

items_have : {A : Type 0} (Q : A → Type 0) (read : ℕ → Result (A × ℕ) Refusal) → ((at : ℕ) → Has (λ (r : A × ℕ). Q r.0) (read at)) → (n at : ℕ) → Has (λ (r : List A × ℕ). AllByRecursion Q r.0) (items_at read n at)
unfolding items_at
items_have Q read one zero at = tt
items_have {A} Q read one (suc n) at =
    then_has (λ (r : A × ℕ). Q r.0) (λ (r : List A × ℕ). AllByRecursion Q r.0) (read at) _ (one at)
    (λ first h. then_has (λ (r : List A × ℕ). AllByRecursion Q r.0) (λ (r : List A × ℕ). AllByRecursion Q r.0) (items_at read n first.1) _ (items_have Q read one n first.1) (λ others hs. (h, hs)))

handler_classes : (pool : Entries) (len : ℕ) (bytes : List ℕ) (at : ℕ) → Has (AreClasses pool) (handlers_at pool len bytes at)
unfolding handlers_at
handler_classes pool len bytes at = after (AreClasses pool) (u2_at bytes at) _ (λ count. items_have (HasClass pool) (handler_at pool len bytes) (handler_class pool len bytes) count.0 count.1)

abbrev CodeClasses : Entries → Code → Type 0
CodeClasses pool k = AllByRecursion (HasClass pool) k.handlers

code_classes : (pool : Entries) (bytes : List ℕ) → Has (CodeClasses pool) (code_at pool bytes)
unfolding code_at
code_classes pool bytes =
    after (CodeClasses pool) (u2_at bytes 0) _ (λ stack. after (CodeClasses pool) (u2_at bytes stack.1) _ (λ locals. after (CodeClasses pool) (body_at bytes locals.1) _
    (λ code. then_has (AreClasses pool) (CodeClasses pool) (handlers_at pool (length code.0) bytes code.1) _ (handler_classes pool (length code.0) bytes code.1)
    (λ handlers h. after (CodeClasses pool) (attributes_at pool bytes handlers.1) _ (λ attributes. last (attributes.1 == length bytes) _ h)))))
  where
    last : (b : Bool) (k : Code) → CodeClasses pool k → Has (CodeClasses pool) (if b then Ok k else Err (BadCode []))
    last true k h = h
    last false k h = tt

-- each entry catches what is named, or anything
pub catches_named : (c : ClassFile) (m : Member) (x : Coded) → decoded c m ≡ Ok x → AllByRecursion (HasClass c.pool) x.code.handlers
catches_named c m x e = go (find (is_named c.pool (codes "Code")) m.attributes) (coded_parts c m x e).code
  where
    by : (r : Result Code Refusal) → Has (CodeClasses c.pool) r → result_ok r ≡ Some x.code → CodeClasses c.pool x.code
    by (Ok k) h e = let s : k ≡ x.code = cc in subst (CodeClasses c.pool) s h
    by (Err r) h e = cc

    go : (o : Option Attribute) → option_and_then (λ (a : Attribute). code_of c.pool a.bytes) o ≡ Some x.code → CodeClasses c.pool x.code
    go None e = cc
    go (Some a) e = by (code_at c.pool a.bytes) (code_classes c.pool a.bytes) e
