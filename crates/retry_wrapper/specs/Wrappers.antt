-- The wrapper of a marked method or a static initialiser: a loop of attempts, which takes the place of the method's code (Korland, Shavit, Felber, MULTIPROG
-- 2010, in this project's form), with the entries that it names.
use Rattle.std.specs.Prelude.{ℕ, ℤ, suc, pos, ◌+◌, max, List, [], ◌∷◌, ◌++◌, length, map, Option, Some, None, Result, Ok, Err, ◌||◌, nat_lt, if◌then◌else◌, codes, set, slice_get, option_map}
use Rattle.jmodel.specs.declared.class_file.Handler.{Handler}
use Rattle.jmodel.specs.declared.refusal.Refusal.{Refusal}
use Rattle.jmodel.specs.declared.refusal.Refusal.TheVariants.{PoolFull}
use Rattle.jmodel.specs.declared.name.MethodName.{MethodName}
use Rattle.jmodel.specs.declared.instruction.Instr.{Instr}
use Rattle.jmodel.specs.declared.typing.VType.{VType}
use Rattle.jmodel.specs.declared.typing.VType.TheVariants as type
use Rattle.jmodel.specs.format.ClassFile.{Attribute, Member, Pool, ClassFile}
use Rattle.jmodel.specs.format.ClassRules.{is_named}
use Rattle.jmodel.specs.format.Name.{printed}
use Rattle.jmodel.specs.format.PoolAdding.{add_integer, add_class, add_method}
use Rattle.jmodel.specs.format.Reading.{◌>>=◌}
use Rattle.jmodel.specs.format.Relocation.{Block}
use Rattle.objects.specs.declared.op.Sort.{Sort}
use Rattle.objects.specs.declared.op.Sort.TheVariants as sort
use Rattle.objects.specs.declared.op.Dispatch.{Dispatch}
use Rattle.objects.specs.declared.op.Dispatch.TheVariants as dispatch
use Rattle.objects.specs.semantics.Program.{Method}
use Rattle.objects.specs.typing.TypeOrder.{context_class, conflict_class}
use Rattle.objects.specs.rewriting.Rewriting.{result_sort, spare_locals}
use Rattle.member_code.specs.Growing.{Growth}
use Rattle.member_code.specs.Names.{duplicate_named}
use Rattle.member_code.specs.Instrs.{plain, naming, jump, load, store, give, call_static, call_special, call_virtual}
use Rattle.member_code.specs.Coding.{too_many, of_method, block, laid_bytes}
pub use Rattle.retry_wrapper.specs.declared.wrappers.Opening.{Opening}
pub use Rattle.retry_wrapper.specs.declared.wrappers.Ending.{Ending}

-- ---- limits

-- With the context the arguments take at most 255 places (JVM Specification, Java SE 7, section 4.3.3). They are as many as they have types.
unfoldable pub few_arguments : Method → Result (Unit {0}) Refusal
few_arguments k = if nat_lt 254 k.places || nat_lt 254 (length k.parameters) then Err (too_many (printed k.name) (codes "Arguments")) else Ok tt

-- no Integer of a pool holds a number of over 31 bits
unfoldable pub few_wrappers : ℕ → Result (Unit {0}) Refusal
few_wrappers n = if nat_lt 2147483647 n then Err (PoolFull []) else Ok tt

-- ---- what a wrapper names

-- the wrapper's number, and how many attempts it makes
unfoldable pub counts_of : ℤ → ℤ → Pool → Growth (ℕ × ℕ)
counts_of n attempts pool = do
  number ← add_integer pool n
  retries ← add_integer number.1 attempts
  Ok ((number.0, retries.0), retries.1)

-- the method that gives the context
unfoldable pub get_call : Pool → Growth ℕ
get_call pool = add_method pool (codes "org/deuce/transaction/ContextDelegator") (codes "getInstance") (codes "()Lorg/deuce/transaction/Context;")

unfoldable pub opening_of : ℤ → ℤ → Pool → Growth Opening
opening_of n attempts pool = do
  get ← get_call pool
  counts ← counts_of n attempts get.1
  init ← add_method counts.1 context_class (codes "init") (codes "(II)V")
  Ok (record { get = get.0; number = counts.0.0; retries = counts.0.1; init = init.0 }, init.1)

-- with the name of the duplicate
unfoldable pub ending_of : MethodName → Pool → Growth Ending
ending_of d pool = do
  duplicate ← add_method pool d.class d.name d.descriptor
  commit ← add_method duplicate.1 context_class (codes "commit") (codes "()Z")
  rollback ← add_method commit.1 context_class (codes "rollback") (codes "()V")
  conflict ← add_class rollback.1 conflict_class
  Ok (record { duplicate = duplicate.0; commit = commit.0; rollback = rollback.0; conflict = conflict.0 }, conflict.1)

-- ---- its code

-- a parameter in local i, on the stack; the second place of a long stands there with the first
abbrev pub one_load : ℕ → VType → List Instr
one_load i type.Int = load sort.Int i ∷ []
one_load i type.Long = load sort.Long i ∷ []
one_load i type.Second = []
one_load i t = load sort.Reference i ∷ []

-- the parameters from local i on, each on the stack
abbrev pub loads_from : ℕ → List VType → List Instr
loads_from i [] = []
loads_from i (t ∷ ts) = one_load i t ++ loads_from (suc i) ts

-- what the body gives, if anything, is kept behind the context
abbrev pub keeps : Option Sort → ℕ → List Instr
keeps None c = []
keeps (Some s) c = store s (c + 1) ∷ []

abbrev pub answers : Option Sort → ℕ → List Instr
answers None c = plain 177 ∷ []
answers (Some s) c = load s (c + 1) ∷ give s ∷ []

-- the duplicate is called as the method is, by its name
abbrev pub call_duplicate : Dispatch → ℕ → Instr
call_duplicate dispatch.Static i = call_static i
call_duplicate d i = call_special i

-- The parts of a wrapper: the context into local c, an attempt's beginning, its body, its end, a conflict, another exception. Where a commit fails, ifeq,
-- 153, and after a rollback goto, 167, lead to block 1, the next attempt.
abbrev pub entry_instrs : ℕ → Opening → List Instr
entry_instrs c a = call_static a.get ∷ store sort.Reference c ∷ []

abbrev pub begin_instrs : ℕ → Opening → List Instr
begin_instrs c a = load sort.Reference c ∷ naming 19 a.number ∷ naming 19 a.retries ∷ call_virtual a.init ∷ []

abbrev pub body_instrs : Method → Ending → List Instr
body_instrs k e = loads_from 0 k.parameters ++ load sort.Reference k.places ∷ call_duplicate k.dispatch e.duplicate ∷ []

abbrev pub commit_instrs : ℕ → Ending → List Instr
commit_instrs c e = load sort.Reference c ∷ call_virtual e.commit ∷ jump 153 1 ∷ []

abbrev pub end_instrs : Option Sort → ℕ → Ending → List Instr
end_instrs s c e = keeps s c ++ commit_instrs c e ++ answers s c

abbrev pub conflict_instrs : ℕ → Ending → List Instr
conflict_instrs c e = plain 87 ∷ load sort.Reference c ∷ call_virtual e.rollback ∷ jump 167 1 ∷ []

abbrev pub exception_instrs : ℕ → Ending → List Instr
exception_instrs c e = store sort.Reference (c + 1) ∷ commit_instrs c e ++ load sort.Reference (c + 1) ∷ plain 191 ∷ []

abbrev pub wrapper_blocks : Method → Opening → Ending → List Block
wrapper_blocks k a e =
    block 0 (entry_instrs k.places a) ∷ block 1 (begin_instrs k.places a) ∷ block 2 (body_instrs k e) ∷ block 3 (end_instrs (option_map result_sort k.result) k.places e)
    ∷ block 4 (conflict_instrs k.places e) ∷ block 5 (exception_instrs k.places e) ∷ []

-- a conflict in the body goes to 4, any other exception to 5
abbrev pub wrapper_handlers : ℕ → List Handler
wrapper_handlers conflict = record { start = 2; end = 3; handler = 4; catch_type = conflict } ∷ record { start = 2; end = 3; handler = 5; catch_type = 0 } ∷ []

unfoldable pub wrapper_bytes : Method → Opening → Ending → Result (List ℕ) Refusal
wrapper_bytes k a e =
    of_method (printed k.name) (laid_bytes (max (k.places + 1) 3) (k.places + spare_locals k.result) (wrapper_blocks k a e) (wrapper_handlers e.conflict) None [])

-- ---- the method

abbrev pub with_bytes : Pool → List ℕ → Attribute → Attribute
with_bytes pool bytes a = if is_named pool (codes "Code") a then record { name = a.name; bytes = bytes } else a

-- a method with another Code
abbrev pub with_code : Pool → List ℕ → Member → Member
with_code pool bytes m = record m { attributes = map (with_bytes pool bytes) m.attributes }

-- the wrapper of a method, which is numbered n among the wrappers, for so many attempts
unfoldable pub wrapper_of : ℕ → ℤ → Method → Member → Pool → Growth Member
wrapper_of n attempts k m pool = do
  few ← few_arguments k
  fits ← few_wrappers n
  opening ← opening_of (pos n) attempts pool
  ending ← ending_of (duplicate_named k.name) opening.1
  bytes ← wrapper_bytes k opening.0 ending.0
  Ok (with_code ending.1 bytes m, ending.1)

abbrev pub and_method : ClassFile → ℕ → Member → Pool → ClassFile
and_method c i m pool = record c { pool = pool; methods = set c.methods i m }

-- a class, in whose file the method of an index is wrapped
abbrev pub with_wrapper_of : ℕ → ℤ → Method → ClassFile → ℕ → Option Member → Result ClassFile Refusal
with_wrapper_of n attempts k c i None = Ok c
with_wrapper_of n attempts k c i (Some m) = wrapper_of n attempts k m c.pool >>= λ wrapper. Ok (and_method c i wrapper.0 wrapper.1)

abbrev pub with_wrapper : ℕ → ℤ → Method → ClassFile → ℕ → Result ClassFile Refusal
with_wrapper n attempts k c i = with_wrapper_of n attempts k c i (slice_get c.methods i)
