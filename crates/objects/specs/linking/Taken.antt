-- Which methods of several classes are taken: those that are marked, the static initialisers, and those that taken ones call, by whatever
-- chain and whatever class. That these alone are typed and rewritten is this project's own rule; which instructions call is the JVM
-- Specification's, Java SE 7, section 6.5.
use Rattle.std.specs.Prelude.{◌≡◌, ℕ, zero, suc, List, length, filter, Option, Some, None, Result, Ok, Err, Bool, true, false, not, ◌&&◌, ◌||◌, nat_le, codes, bytes_eq, option_and_then}
use Rattle.std.specs.List.{AllByRecursion, list_any}
use Rattle.jmodel.specs.declared.instruction.Operands.{Operands}
use Rattle.jmodel.specs.declared.instruction.Operands.TheVariants as operands
use Rattle.jmodel.specs.declared.instruction.Instr.{Instr}
use Rattle.jmodel.specs.declared.name.MethodName.{MethodName}
use Rattle.jmodel.specs.declared.refusal.Refusal.{Refusal}
use Rattle.jmodel.specs.format.ClassFile.{Pool, ClassFile}
use Rattle.jmodel.specs.format.Pool.{MemberName, member_name}
use Rattle.objects.specs.linking.Code.{Coded, is_root, decoded}
use Rattle.objects.specs.linking.Classes.{Declared, methods_in, full_name}

-- the index of the pool that an instruction names
abbrev pub index_of : Operands → Option ℕ
index_of (operands.Pool i) = Some i
index_of (operands.Interface i count) = Some i
index_of o = None

-- the method that an invoke names, 182 to 185
abbrev pub invoked : Pool → Instr → Option MemberName
invoked pool i = if_invoke (nat_le 182 i.op && nat_le i.op 185) (option_and_then (member_name pool) (index_of i.operands))
  where
    if_invoke : Bool → Option MemberName → Option MemberName
    if_invoke true n = n
    if_invoke false n = None

-- A call of this name takes each method of the name and the descriptor; a constructor, only that of the named class.
abbrev pub is_taken_by : MemberName → MethodName → Bool
is_taken_by n k = bytes_eq n.name k.name && bytes_eq n.descriptor k.descriptor && (not (bytes_eq n.name (codes "<init>")) || bytes_eq n.class k.class)

abbrev pub is_named_by : Option MemberName → MethodName → Bool
is_named_by None k = false
is_named_by (Some n) k = is_taken_by n k

-- whether some instruction of code calls a method of this name; code with a fault calls none
abbrev pub code_calls : Pool → Result Coded Refusal → MethodName → Bool
code_calls pool (Ok k) name = list_any (λ (i : Instr). is_named_by (invoked pool i) name) k.instrs
code_calls pool (Err r) name = false

-- whether a method calls another
abbrev pub calls : Declared → Declared → Bool
calls k m = code_calls k.class.pool (decoded k.class k.member) (full_name m)

-- a method that is marked or a static initialiser, or that one of a set calls
abbrev pub is_next : List ClassFile → (Declared → Bool) → Declared → Bool
is_next cs s m = is_root m.class.pool m.member || list_any (λ k. calls k m) (filter s (methods_in cs))

-- what is found in so many rounds
abbrev pub is_found : List ClassFile → ℕ → Declared → Bool
is_found cs zero m = false
is_found cs (suc n) m = is_next cs (is_found cs n) m

-- As many rounds as there are methods find all.
abbrev pub is_taken : List ClassFile → Declared → Bool
is_taken cs m = is_found cs (length (methods_in cs)) m

-- a set that has the marked methods, the static initialisers, and each that one of its own calls
abbrev pub IsClosed : List ClassFile → (Declared → Bool) → Type 0
IsClosed cs s = AllByRecursion (λ m. is_next cs s m ≡ true → s m ≡ true) (methods_in cs)

-- The least such set.
pub record IsLeastClosed (cs : List ClassFile) (s : Declared → Bool) : Type 0 where
  pub closed : IsClosed cs s
  pub least : (t : Declared → Bool) → IsClosed cs t → AllByRecursion (λ m. s m ≡ true → t m ≡ true) (methods_in cs)

-- The taken methods are the least such set.
abbrev pub TakenLaw : Type 0
TakenLaw = (cs : List ClassFile) → IsLeastClosed cs (is_taken cs)
