-- Code that is laid has bytes.
use Rattle.std.proofs.Common.{◌≡◌, ℕ, zero, suc, ◌+◌, ◌<◌, ◌^◌, ℤ, List, [], ◌∷◌, ◌++◌, length, Option, Some, None, refl, sym, subst, arith}
use Rattle.std.specs.Prelude.{map, replicate}
use Rattle.std.specs.Int.{w8, w16, w32, to_be_bytes}
use Rattle.std.specs.List.{flat_map, AllByRecursion}
use Rattle.std.proofs.lemmas.List.Concat.{flat_map-cons}
use Rattle.jmodel.specs.declared.instruction.Form.{Form}
use Rattle.jmodel.specs.declared.instruction.Form.TheVariants as form
use Rattle.jmodel.specs.declared.instruction.Operands.{Operands}
use Rattle.jmodel.specs.declared.instruction.Operands.TheVariants as operands
use Rattle.jmodel.specs.declared.instruction.Instr.{Instr}
use Rattle.jmodel.specs.format.ClassFile.{u4}
use Rattle.jmodel.specs.format.Instruction.{number_text, local_text, increment_text, index_text, interface_text, dimensions_text, target_text, added, wide_text, table_text, lookup_text, pair_text, highest, padding, jump, form_of, signed, operands_text, text_as, text, code_text, zeros}
use Rattle.jmodel.specs.format.Relocation.{put_at, size_at, retargeted, laid_to}
use Rattle.const_pool.proofs.Takes.{IsBytes}

abbrev pub AreBytes : List ℕ → Type 0
AreBytes bs = AllByRecursion (λ b. b < 256) bs

bytes_append : (xs ys : List ℕ) → AreBytes xs → AreBytes ys → AreBytes (xs ++ ys)
bytes_append [] ys h k = k
bytes_append (x ∷ xs) ys h k = (h.0, bytes_append xs ys h.1 k)

pub are_bytes : (bs : List ℕ) → AreBytes bs → IsBytes bs
are_bytes [] h i = omega arith
are_bytes (b ∷ bs) h zero = h.0
are_bytes (b ∷ bs) h (suc i) = are_bytes bs h.1 i

one_byte : (n : ℕ) → AreBytes (to_be_bytes w8 n)
one_byte n = (omega arith, tt)

two_bytes : (n : ℕ) → AreBytes (to_be_bytes w16 n)
two_bytes n = (omega arith, (omega arith, tt))

four_bytes : (n : ℕ) → AreBytes (to_be_bytes w32 n)
four_bytes n = (omega arith, (omega arith, (omega arith, (omega arith, tt))))

byte_of : (o : Operands) → AreBytes (number_text w8 o)
byte_of (operands.Number n) = one_byte _
byte_of o = tt

short_of : (o : Operands) → AreBytes (number_text w16 o)
short_of (operands.Number n) = two_bytes _
short_of o = tt

local_of : (o : Operands) → AreBytes (local_text o)
local_of (operands.Local n) = one_byte _
local_of o = tt

increment_of : (o : Operands) → AreBytes (increment_text o)
increment_of (operands.LocalAdd n add) = bytes_append (to_be_bytes w8 n) (signed w8 add) (one_byte n) (one_byte _)
increment_of o = tt

short_index_of : (o : Operands) → AreBytes (index_text w8 o)
short_index_of (operands.Pool i) = one_byte i
short_index_of o = tt

index_of : (o : Operands) → AreBytes (index_text w16 o)
index_of (operands.Pool i) = two_bytes i
index_of o = tt

interface_of : (o : Operands) → AreBytes (interface_text o)
interface_of (operands.Interface i n) = bytes_append (to_be_bytes w16 i) (to_be_bytes w8 n ++ to_be_bytes w8 0) (two_bytes i) (bytes_append (to_be_bytes w8 n) (to_be_bytes w8 0) (one_byte n) (one_byte 0))
interface_of o = tt

dimensions_of : (o : Operands) → AreBytes (dimensions_text o)
dimensions_of (operands.Dimensions i n) = bytes_append (to_be_bytes w16 i) (to_be_bytes w8 n) (two_bytes i) (one_byte n)
dimensions_of o = tt

jump_of : (pc : ℕ) (o : Operands) → AreBytes (target_text w16 pc o)
jump_of pc (operands.Target t) = two_bytes _
jump_of pc o = tt

far_jump_of : (pc : ℕ) (o : Operands) → AreBytes (target_text w32 pc o)
far_jump_of pc (operands.Target t) = four_bytes _
far_jump_of pc o = tt

added_of : (f : Option Form) (add : ℤ) → AreBytes (added f add)
added_of (Some form.Increment) add = two_bytes _
added_of f add = tt

wide_of : (o : Operands) → AreBytes (wide_text o)
wide_of (operands.Wide w n add) = bytes_append (to_be_bytes w8 w) (to_be_bytes w16 n ++ added (form_of w) add) (one_byte w) (bytes_append (to_be_bytes w16 n) (added (form_of w) add) (two_bytes n) (added_of (form_of w) add))
wide_of o = tt

zero_bytes : (n : ℕ) → AreBytes (replicate n 0)
zero_bytes zero = tt
zero_bytes (suc n) = (omega arith, zero_bytes n)

jumps_of : (pc : ℕ) (ts : List ℕ) → AreBytes (flat_map (jump w32 pc) ts)
jumps_of pc [] = tt
jumps_of pc (t ∷ ts) = subst AreBytes (sym (flat_map-cons (jump w32 pc) t ts)) (bytes_append (jump w32 pc t) (flat_map (jump w32 pc) ts) (four_bytes _) (jumps_of pc ts))

pairs_of : (pc : ℕ) (ps : List (ℤ × ℕ)) → AreBytes (flat_map (pair_text pc) ps)
pairs_of pc [] = tt
pairs_of pc (p ∷ ps) =
    subst AreBytes (sym (flat_map-cons (pair_text pc) p ps))
    (bytes_append (pair_text pc p) (flat_map (pair_text pc) ps) (bytes_append (signed w32 p.0) (jump w32 pc p.1) (four_bytes _) (four_bytes _)) (pairs_of pc ps))

table_of : (pad : List ℕ) (pc : ℕ) (o : Operands) → AreBytes pad → AreBytes (table_text pad pc o)
table_of pad pc (operands.Table other low ts) h =
    let list : List ℕ = flat_map (jump w32 pc) ts in
    let high : List ℕ = signed w32 (highest low ts) in
    bytes_append pad (jump w32 pc other ++ (signed w32 low ++ (high ++ list))) h
    (bytes_append (jump w32 pc other) (signed w32 low ++ (high ++ list)) (four_bytes _) (bytes_append (signed w32 low) (high ++ list) (four_bytes _) (bytes_append high list (four_bytes _) (jumps_of pc ts))))
table_of pad pc o h = tt

lookup_of : (pad : List ℕ) (pc : ℕ) (o : Operands) → AreBytes pad → AreBytes (lookup_text pad pc o)
lookup_of pad pc (operands.Lookup other ps) h =
    let list : List ℕ = flat_map (pair_text pc) ps in
    bytes_append pad (jump w32 pc other ++ (u4 (length ps) ++ list)) h
    (bytes_append (jump w32 pc other) (u4 (length ps) ++ list) (four_bytes _) (bytes_append (u4 (length ps)) list (four_bytes _) (pairs_of pc ps)))
lookup_of pad pc o h = tt

operands_bytes : (f : Form) (pad : List ℕ) (pc : ℕ) (o : Operands) → AreBytes pad → AreBytes (operands_text f pad pc o)
operands_bytes form.Plain pad pc o h = tt
operands_bytes form.Byte pad pc o h = byte_of o
operands_bytes form.Short pad pc o h = short_of o
operands_bytes form.ArrayType pad pc o h = byte_of o
operands_bytes form.Local pad pc o h = local_of o
operands_bytes form.Increment pad pc o h = increment_of o
operands_bytes (form.ShortEntry k) pad pc o h = short_index_of o
operands_bytes (form.Entry k) pad pc o h = index_of o
operands_bytes form.Interface pad pc o h = interface_of o
operands_bytes form.Dimensions pad pc o h = dimensions_of o
operands_bytes form.Jump pad pc o h = jump_of pc o
operands_bytes form.FarJump pad pc o h = far_jump_of pc o
operands_bytes form.Table pad pc o h = table_of pad pc o h
operands_bytes form.Lookup pad pc o h = lookup_of pad pc o h
operands_bytes form.Wide pad pc o h = wide_of o

text_bytes : (i : Instr) → AreBytes (text i)
text_bytes i = go (form_of i.op)
  where
    go : (f : Option Form) → AreBytes (text_as f (zeros i.pc) i)
    go None = tt
    go (Some f) = bytes_append (to_be_bytes w8 i.op) (operands_text f (zeros i.pc) i.pc i.operands) (one_byte i.op) (operands_bytes f (zeros i.pc) i.pc i.operands (zero_bytes (padding i.pc)))

pub code_bytes : (place : ℕ → ℕ) (at : ℕ) (is : List Instr) → AreBytes (code_text (laid_to place at is))
code_bytes place at [] = tt
code_bytes place at (i ∷ is) =
    subst AreBytes (sym (flat_map-cons text (retargeted place (put_at at i)) (laid_to place (at + size_at at i) is)))
    (bytes_append (text (retargeted place (put_at at i))) (code_text (laid_to place (at + size_at at i) is)) (text_bytes (retargeted place (put_at at i))) (code_bytes place (at + size_at at i) is))
