-- Of what a duplicate may not have too many (JVM Specification, Java SE 7, sections 4.3.3, 4.7.3 and 4.9.1).
use Rattle.std.specs.Prelude.{ℕ, ◌+◌, ◌<◌, ◌||◌, List, length, Option, Some, None, Result, Ok, Err, Bool, nat_lt, if◌then◌else◌, codes, FitsSigned}
use Rattle.std.specs.List.{list_any}
use Rattle.std.specs.Int.{w16}
use Rattle.jmodel.specs.declared.refusal.Refusal.{Refusal}
use Rattle.jmodel.specs.declared.instruction.Operands.{Operands}
use Rattle.jmodel.specs.declared.instruction.Operands.TheVariants as operands
use Rattle.jmodel.specs.declared.instruction.Instr.{Instr}
use Rattle.jmodel.specs.format.ClassFile.{Code}
use Rattle.jmodel.specs.format.Name.{printed}
use Rattle.objects.specs.declared.op.Op.{Op}
use Rattle.objects.specs.declared.op.Op.TheVariants.{Load, Store, Increment, InvokeStatic, InvokeSpecial, InvokeVirtual, InvokeInterface}
use Rattle.objects.specs.semantics.Program.{Method, Program, method_at}
use Rattle.objects.specs.rewriting.Rewriting.{moved, moved_to, is_stray, more_locals}
use Rattle.member_code.specs.Coding.{too_many}

-- ---- arguments

abbrev pub places_in : Option Method → ℕ
places_in None = 0
places_in (Some k) = k.places

-- how many places the arguments of the folder's method take that an instruction calls
abbrev pub called_places : Program → Op → ℕ
called_places P (InvokeStatic m) = places_in (method_at P m)
called_places P (InvokeSpecial m) = places_in (method_at P m)
called_places P (InvokeVirtual m d) = places_in (method_at P m)
called_places P (InvokeInterface m c) = places_in (method_at P m)
called_places P o = 0

-- the count of argument places that an invokeinterface has
abbrev pub count_of : Operands → ℕ
count_of (operands.Interface i count) = count
count_of o = 0

-- whether arguments leave no place for the context
abbrev pub is_full : ℕ → Bool
is_full places = nat_lt 254 places

abbrev pub calls_full : Program → Op → Bool
calls_full P o = is_full (called_places P o)

abbrev pub counts_full : Instr → Bool
counts_full i = is_full (count_of i.operands)

-- With the context a method's arguments, and those of each method that it calls, take at most 255 places.
unfoldable pub few_arguments : Program → Method → List Instr → Result (Unit {0}) Refusal
few_arguments P k is =
    if is_full k.places || (list_any (calls_full P) k.ops || list_any counts_full is) then Err (too_many (printed k.name) (codes "Arguments"))
    else Ok tt

-- ---- locals, the operand stack and exception entries

-- how many locals the duplicate has more
abbrev pub added_locals : Method → ℕ
added_locals k = more_locals (list_any (is_stray k.places) k.ops)

-- the local that stands in the duplicate for the one that an instruction has, 0 where it has none
abbrev pub moved_local : Method → Op → ℕ
moved_local k (Load s n) = moved_to s k.places k.locals n
moved_local k (Store s n) = moved_to s k.places k.locals n
moved_local k (Increment n x) = moved k.places n
moved_local k o = 0

-- a number, where two bytes hold it
abbrev pub two_bytes : ℕ → Option ℕ
two_bytes n = if nat_lt 65535 n then None else Some n

-- Whether it can't be written in two bytes. Only an instruction that is never reached has such a local where the method's locals can be counted.
abbrev pub is_far : Method → Op → Bool
is_far k o = nat_lt 65535 (moved_local k o)

-- one more exception entry, further locals and one more place on the stack can be counted
unfoldable pub few_places : Method → Code → Result (Unit {0}) Refusal
few_places k code =
    if nat_lt 65534 (length code.handlers) then Err (too_many (printed k.name) (codes "Handlers"))
    else if nat_lt 65535 (code.max_locals + added_locals k) || list_any (is_far k) k.ops then Err (too_many (printed k.name) (codes "Locals"))
    else if nat_lt 65534 code.max_stack then Err (too_many (printed k.name) (codes "Stack"))
    else Ok tt

-- ---- what can be written

-- what an iinc adds has two bytes
abbrev pub AddsLittle : Op → Type 0
AddsLittle (Increment n x) = FitsSigned w16 x
AddsLittle o = Unit {0}

-- a local that is moved has two bytes
abbrev pub FitsOp : Method → Op → Type 0
FitsOp k o = (moved_local k o < 65536) × AddsLittle o

-- the count of an invokeinterface can be one higher
abbrev pub FitsCount : Instr → Type 0
FitsCount i = count_of i.operands < 255
