-- The numbers in instructions that are read fit 32 bits.
use Rattle.std.proofs.Common.{◌≡◌, ℕ, zero, suc, ◌≤◌, List, [], ◌∷◌, length, Bool, true, false, ◌&&◌, nat_le, Option, Some, None, Result, Ok, Err, refl, arith}
use Rattle.std.specs.Prelude.{ℤ, pos, if◌then◌else◌, FitsSigned}
use Rattle.std.specs.List.{AllByRecursion}
use Rattle.std.specs.Int.{Width, w8, w16, w32, cast_signed}
use Rattle.std.proofs.lemmas.Bool.Decides.{nat_tests}
use Rattle.std.proofs.lemmas.Int.{ints}
use Rattle.jmodel.specs.declared.class_file.Handler.{Handler}
use Rattle.jmodel.specs.declared.refusal.Refusal.{Refusal}
use Rattle.jmodel.specs.declared.instruction.EntryKind.{EntryKind}
use Rattle.jmodel.specs.declared.instruction.Form.{Form}
use Rattle.jmodel.specs.declared.instruction.Form.TheVariants as form
use Rattle.jmodel.specs.declared.instruction.Operands.{Operands}
use Rattle.jmodel.specs.declared.instruction.Operands.TheVariants as operands
use Rattle.jmodel.specs.declared.instruction.Instr.{Instr}
use Rattle.jmodel.specs.format.ClassFile.{Pool as Entries}
use Rattle.jmodel.specs.format.Reading.{◌>>=◌, run_at, number_at, u2_at, items_at}
use Rattle.jmodel.specs.format.Instruction.{form_of, padding, is_entry}
use Rattle.jmodel.specs.format.InstructionReading.{want, as_bad, signed_at, target_at, signed_operand_at, array_type_at, local_at, increment_at, entry_operand_at, interface_at, dimensions_at, jump_at, keys_from, table_of, table_at, pair_at, count_at, lookup_at, wide_of, wide_at, operands_at, operands_as, parts_at, instr_at, instrs_at, targets_fit, places_fit, instrs_of}

-- what was read has a property
abbrev pub Has : {A : Type 0} → (A → Type 0) → Result A Refusal → Type 0
Has P (Ok x) = P x
Has P (Err e) = Unit {0}

pub then_has : {A B : Type 0} (P : A → Type 0) (Q : B → Type 0) (r : Result A Refusal) (f : A → Result B Refusal) → Has P r → ((x : A) → P x → Has Q (f x)) → Has Q (r >>= f)
then_has P Q (Ok x) f h step = step x h
then_has P Q (Err e) f h step = tt

-- of anything read before, whatever it is
pub after : {A B : Type 0} (Q : B → Type 0) (r : Result A Refusal) (f : A → Result B Refusal) → ((x : A) → Has Q (f x)) → Has Q (r >>= f)
after Q (Ok x) f step = step x
after Q (Err e) f step = tt

wanted : {A : Type 0} (Q : A → Type 0) (b : Bool) (pc : ℕ) (x : A) → (b ≡ true → Q x) → Has Q (want b pc x)
wanted Q true pc x h = h refl
wanted Q false pc x h = tt

-- a number in operands fits 32 bits
abbrev pub IsSmallNumber : Operands → Type 0
IsSmallNumber (operands.Number n) = FitsSigned w32 n
IsSmallNumber o = Unit {0}

abbrev pub IsSmallInstr : Instr → Type 0
IsSmallInstr i = IsSmallNumber i.operands

abbrev IsSmallFirst : Operands × ℕ → Type 0
IsSmallFirst o = IsSmallNumber o.0

abbrev IsSmallPart : ℤ × ℕ → Type 0
IsSmallPart n = FitsSigned w32 n.0

byte_small : (bytes : List ℕ) (at : ℕ) → Has IsSmallPart (signed_at w8 bytes at)
unfolding signed_at
byte_small bytes at = after IsSmallPart (number_at w8 bytes at) (λ n. Ok (cast_signed w8 n.0, n.1)) (λ n. omega (arith, ints))

short_small : (bytes : List ℕ) (at : ℕ) → Has IsSmallPart (signed_at w16 bytes at)
unfolding signed_at
short_small bytes at = after IsSmallPart (number_at w16 bytes at) (λ n. Ok (cast_signed w16 n.0, n.1)) (λ n. omega (arith, ints))

byte_operand : (bytes : List ℕ) (at : ℕ) → Has IsSmallFirst (signed_operand_at w8 bytes at)
unfolding signed_operand_at
byte_operand bytes at = then_has IsSmallPart IsSmallFirst (signed_at w8 bytes at) (λ n. Ok (operands.Number n.0, n.1)) (byte_small bytes at) (λ n h. h)

short_operand : (bytes : List ℕ) (at : ℕ) → Has IsSmallFirst (signed_operand_at w16 bytes at)
unfolding signed_operand_at
short_operand bytes at = then_has IsSmallPart IsSmallFirst (signed_at w16 bytes at) (λ n. Ok (operands.Number n.0, n.1)) (short_small bytes at) (λ n h. h)

small_type : (n : ℕ) → (nat_le 4 n && nat_le n 11) ≡ true → FitsSigned w32 (pos n)
small_type n h = let t = both (nat_le 4 n) (nat_le n 11) h in let high : n ≤ 11 = let u = t.1 in grind (arith, nat_tests) in omega (arith, ints)
  where
    both : (a b : Bool) → (a && b) ≡ true → (a ≡ true) × (b ≡ true)
    both true b h = (refl, h)
    both false b h = cc

array_small : (pc : ℕ) (bytes : List ℕ) (at : ℕ) → Has IsSmallFirst (array_type_at pc bytes at)
unfolding array_type_at
array_small pc bytes at =
    after IsSmallFirst (number_at w8 bytes at) (λ n. want (nat_le 4 n.0 && nat_le n.0 11) pc (operands.Number (pos n.0), n.1)) (λ n. wanted IsSmallFirst _ pc (operands.Number (pos n.0), n.1) (small_type n.0))

local_small : (bytes : List ℕ) (at : ℕ) → Has IsSmallFirst (local_at bytes at)
unfolding local_at
local_small bytes at = after IsSmallFirst (number_at w8 bytes at) (λ n. Ok (operands.Local n.0, n.1)) (λ n. tt)

increment_small : (bytes : List ℕ) (at : ℕ) → Has IsSmallFirst (increment_at bytes at)
unfolding increment_at
increment_small bytes at =
    after IsSmallFirst (number_at w8 bytes at) (λ n. signed_at w8 bytes n.1 >>= λ add. Ok (operands.LocalAdd n.0 add.0, add.1))
    (λ n. after IsSmallFirst (signed_at w8 bytes n.1) (λ add. Ok (operands.LocalAdd n.0 add.0, add.1)) (λ add. tt))

entry_small : (pool : Entries) (w : Width) (k : EntryKind) (pc : ℕ) (bytes : List ℕ) (at : ℕ) → Has IsSmallFirst (entry_operand_at pool w k pc bytes at)
unfolding entry_operand_at
entry_small pool w k pc bytes at =
    after IsSmallFirst (number_at w bytes at) (λ i. want (is_entry pool k i.0) pc (operands.Pool i.0, i.1)) (λ i. wanted IsSmallFirst _ pc (operands.Pool i.0, i.1) (λ h. tt))

interface_small : (pool : Entries) (pc : ℕ) (bytes : List ℕ) (at : ℕ) → Has IsSmallFirst (interface_at pool pc bytes at)
unfolding interface_at
interface_small pool pc bytes at =
    after IsSmallFirst (u2_at bytes at) _ (λ i. after IsSmallFirst (number_at w8 bytes i.1) _
    (λ count. after IsSmallFirst (number_at w8 bytes count.1) _ (λ last. wanted IsSmallFirst _ pc (operands.Interface i.0 count.0, last.1) (λ h. tt))))

dimensions_small : (pool : Entries) (pc : ℕ) (bytes : List ℕ) (at : ℕ) → Has IsSmallFirst (dimensions_at pool pc bytes at)
unfolding dimensions_at
dimensions_small pool pc bytes at =
    after IsSmallFirst (u2_at bytes at) _ (λ i. after IsSmallFirst (number_at w8 bytes i.1) _
    (λ count. wanted IsSmallFirst _ pc (operands.Dimensions i.0 count.0, count.1) (λ h. tt)))

jump_small : (w : Width) (pc : ℕ) (bytes : List ℕ) (at : ℕ) → Has IsSmallFirst (jump_at w pc bytes at)
unfolding jump_at
jump_small w pc bytes at = after IsSmallFirst (target_at w pc bytes at) (λ t. Ok (operands.Target t.0, t.1)) (λ t. tt)

table_of_small : (pc : ℕ) (bytes : List ℕ) (other : ℕ) (low : ℤ) (n : Option ℕ) (at : ℕ) → Has IsSmallFirst (table_of pc bytes other low n at)
table_of_small pc bytes other low None at = tt
table_of_small pc bytes other low (Some n) at = after IsSmallFirst (items_at (target_at w32 pc bytes) n at) (λ targets. Ok (operands.Table other low targets.0, targets.1)) (λ targets. tt)

table_small : (pc : ℕ) (bytes : List ℕ) (at : ℕ) → Has IsSmallFirst (table_at pc bytes at)
unfolding table_at
table_small pc bytes at =
    after IsSmallFirst (run_at bytes at (padding pc)) _ (λ pad. after IsSmallFirst (target_at w32 pc bytes pad.1) _ (λ other. after IsSmallFirst (signed_at w32 bytes other.1) _
    (λ low. after IsSmallFirst (signed_at w32 bytes low.1) _ (λ high. table_of_small pc bytes other.0 low.0 (keys_from low.0 high.0) high.1))))

lookup_small : (pc : ℕ) (bytes : List ℕ) (at : ℕ) → Has IsSmallFirst (lookup_at pc bytes at)
unfolding lookup_at
lookup_small pc bytes at =
    after IsSmallFirst (run_at bytes at (padding pc)) _ (λ pad. after IsSmallFirst (target_at w32 pc bytes pad.1) _ (λ other. after IsSmallFirst (count_at pc bytes other.1) _
    (λ count. after IsSmallFirst (items_at (pair_at pc bytes) count.0 count.1) _ (λ pairs. wanted IsSmallFirst _ pc (operands.Lookup other.0 pairs.0, pairs.1) (λ h. tt)))))

wide_of_small : (pc : ℕ) (bytes : List ℕ) (op local : ℕ) (f : Option Form) (at : ℕ) → Has IsSmallFirst (wide_of pc bytes op local f at)
wide_of_small pc bytes op local (Some form.Local) at = tt
wide_of_small pc bytes op local (Some form.Increment) at = after IsSmallFirst (signed_at w16 bytes at) (λ add. Ok (operands.Wide op local add.0, add.1)) (λ add. tt)
wide_of_small pc bytes op local f at = tt

wide_small : (pc : ℕ) (bytes : List ℕ) (at : ℕ) → Has IsSmallFirst (wide_at pc bytes at)
unfolding wide_at
wide_small pc bytes at =
    after IsSmallFirst (number_at w8 bytes at) _ (λ op. after IsSmallFirst (u2_at bytes op.1) _ (λ local. wide_of_small pc bytes op.0 local.0 (form_of op.0) local.1))

operands_small : (pool : Entries) (pc : ℕ) (f : Form) (bytes : List ℕ) (at : ℕ) → Has IsSmallFirst (operands_at pool pc f bytes at)
operands_small pool pc form.Plain bytes at = tt
operands_small pool pc form.Byte bytes at = byte_operand bytes at
operands_small pool pc form.Short bytes at = short_operand bytes at
operands_small pool pc form.ArrayType bytes at = array_small pc bytes at
operands_small pool pc form.Local bytes at = local_small bytes at
operands_small pool pc form.Increment bytes at = increment_small bytes at
operands_small pool pc (form.ShortEntry k) bytes at = entry_small pool w8 k pc bytes at
operands_small pool pc (form.Entry k) bytes at = entry_small pool w16 k pc bytes at
operands_small pool pc form.Interface bytes at = interface_small pool pc bytes at
operands_small pool pc form.Dimensions bytes at = dimensions_small pool pc bytes at
operands_small pool pc form.Jump bytes at = jump_small w16 pc bytes at
operands_small pool pc form.FarJump bytes at = jump_small w32 pc bytes at
operands_small pool pc form.Table bytes at = table_small pc bytes at
operands_small pool pc form.Lookup bytes at = lookup_small pc bytes at
operands_small pool pc form.Wide bytes at = wide_small pc bytes at

operands_as_small : (pool : Entries) (pc : ℕ) (f : Option Form) (bytes : List ℕ) (at : ℕ) → Has IsSmallFirst (operands_as pool pc f bytes at)
operands_as_small pool pc None bytes at = tt
operands_as_small pool pc (Some f) bytes at = operands_small pool pc f bytes at

abbrev IsSmallOne : Instr × ℕ → Type 0
IsSmallOne i = IsSmallInstr i.0

parts_small : (pool : Entries) (bytes : List ℕ) (pc : ℕ) → Has IsSmallOne (parts_at pool bytes pc)
unfolding parts_at
parts_small pool bytes pc =
    after IsSmallOne (number_at w8 bytes pc) _
    (λ op. then_has IsSmallFirst IsSmallOne (operands_as pool pc (form_of op.0) bytes op.1) (λ o. Ok (record { pc = pc; op = op.0; operands = o.0 }, o.1))
    (operands_as_small pool pc (form_of op.0) bytes op.1) (λ o h. h))

as_bad_small : (pc : ℕ) (r : Result (Instr × ℕ) Refusal) → Has IsSmallOne r → Has IsSmallOne (as_bad pc r)
as_bad_small pc (Ok x) h = h
as_bad_small pc (Err e) h = tt

abbrev AreSmall : List Instr → Type 0
AreSmall is = AllByRecursion IsSmallInstr is

if_has : (b : Bool) (x y : Result (List Instr) Refusal) → Has AreSmall x → Has AreSmall y → Has AreSmall (if b then x else y)
if_has true x y p q = p
if_has false x y p q = q

all_small : (pool : Entries) (bytes : List ℕ) (n at : ℕ) → Has AreSmall (instrs_at pool bytes n at)
unfolding instrs_at
all_small pool bytes zero at = tt
all_small pool bytes (suc n) at =
    if_has (nat_le (length bytes) at) (Ok []) _ tt
    (then_has IsSmallOne AreSmall (instr_at pool bytes at) (λ first. instrs_at pool bytes n first.1 >>= λ others. Ok (first.0 ∷ others))
    (as_bad_small at (parts_at pool bytes at) (parts_small pool bytes at))
    (λ first h. then_has AreSmall AreSmall (instrs_at pool bytes n first.1) (λ others. Ok (first.0 ∷ others)) (all_small pool bytes n first.1) (λ others hs. (h, hs))))

-- code that is read has small numbers alone
pub read_small : (pool : Entries) (handlers : List Handler) (code : List ℕ) → Has AreSmall (instrs_of pool handlers code)
unfolding instrs_of
read_small pool handlers code =
    then_has AreSmall AreSmall (instrs_at pool code (length code) 0) _ (all_small pool code (length code) 0)
    (λ is h. after AreSmall (targets_fit is is) _ (λ jumps. after AreSmall (places_fit _) (λ entries. Ok is) (λ entries. h)))
