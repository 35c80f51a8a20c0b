-- Code that is added, and the methods that have it (JVM Specification, Java SE 7, sections 4.6 and 4.7.3).
use Rattle.std.specs.Prelude.{ℕ, ◌/◌, ◌%◌, List, [], ◌∷◌, Option, None, Result, Ok, Err, nat_eq, if◌then◌else◌, codes}
use Rattle.jmodel.specs.declared.class_file.Handler.{Handler}
use Rattle.jmodel.specs.declared.refusal.Refusal.{Refusal}
use Rattle.jmodel.specs.declared.refusal.Refusal.TheVariants.{CodeTooLarge, BranchTooFar, TooManyPlaces}
use Rattle.jmodel.specs.declared.name.MethodName.{MethodName}
use Rattle.jmodel.specs.declared.instruction.Instr.{Instr}
use Rattle.jmodel.specs.format.ClassFile.{Member, Pool, Code, code_spelling}
use Rattle.jmodel.specs.format.Name.{printed}
use Rattle.jmodel.specs.format.Reading.{◌>>=◌}
use Rattle.jmodel.specs.format.Relocation.{Block, relocate}
use Rattle.jmodel.specs.format.PoolAdding.{add_text}
use Rattle.member_code.specs.Growing.{Growth}

-- ---- refusals

-- that a method has too many places of a kind
abbrev pub too_many : List ℕ → List ℕ → Refusal
too_many name kind = TooManyPlaces name kind

-- a fault of a method's code, with the method's printed name
abbrev pub fault_of : List ℕ → Refusal → Refusal
fault_of name (CodeTooLarge n) = CodeTooLarge name
fault_of name (BranchTooFar n pc) = BranchTooFar name pc
fault_of name r = r

abbrev pub of_method : {A : Type 0} → List ℕ → Result A Refusal → Result A Refusal
of_method name (Ok x) = Ok x
of_method name (Err r) = Err (fault_of name r)

-- A method of this name is added to a class that has room for so many more methods.
unfoldable pub room_for : ℕ → MethodName → Result (Unit {0}) Refusal
room_for room name = if nat_eq room 0 then Err (too_many (printed name) (codes "Methods")) else Ok tt

-- ---- code

abbrev pub block : ℕ → List Instr → Block
block pc is = record { pc = pc; instrs = is }

-- Code of these blocks and the stub, laid one behind the other
abbrev pub laid_code : ℕ → ℕ → List Block → List Handler → Option ℕ → List Instr → Result Code Refusal
laid_code max_stack max_locals blocks handlers first stub = relocate blocks handlers first stub >>= λ laid.
    Ok (record { max_stack = max_stack; max_locals = max_locals; code = laid.0; handlers = laid.1; attributes = [] })

-- its bytes
abbrev pub laid_bytes : ℕ → ℕ → List Block → List Handler → Option ℕ → List Instr → Result (List ℕ) Refusal
laid_bytes max_stack max_locals blocks handlers first stub = laid_code max_stack max_locals blocks handlers first stub >>= λ code. Ok (code_spelling code)

-- the bytes of Code that is one run of instructions
abbrev pub straight_bytes : ℕ → ℕ → List Instr → Result (List ℕ) Refusal
straight_bytes max_stack max_locals is = laid_bytes max_stack max_locals (block 0 is ∷ []) [] None []

-- ---- members

-- the higher and the lower byte of an index
abbrev pub high : ℕ → ℕ
high i = i / 256

abbrev pub low : ℕ → ℕ
low i = i % 256

-- a method that is added: its flags, the indexes of its name, its descriptor and the text Code, and the bytes of its Code
abbrev pub added_method : ℕ → ℕ → ℕ → ℕ → List ℕ → Member
added_method flags name descriptor code bytes = record { flags = flags; name = name; descriptor = descriptor; attributes = record { name = code; bytes = bytes } ∷ [] }

-- the texts of a name and a descriptor
unfoldable pub typed_name : List ℕ → List ℕ → Pool → Growth (ℕ × ℕ)
typed_name name type pool = do
  named ← add_text pool name
  typed ← add_text named.1 type
  Ok ((named.0, typed.0), typed.1)

-- a method with these flags, this name, this descriptor and these bytes of its Code
unfoldable pub coded_method : ℕ → MethodName → List ℕ → Pool → Growth Member
coded_method flags name bytes pool = do
  named ← typed_name name.name name.descriptor pool
  code ← add_text named.1 (codes "Code")
  Ok (added_method flags named.0.0 named.0.1 code.0 bytes, code.1)

-- a public static synthetic method, whose code is one run of instructions, in places of its operand stack and its locals
unfoldable pub straight_method : ℕ → ℕ → List Instr → MethodName → Pool → Growth Member
straight_method max_stack max_locals is name pool = straight_bytes max_stack max_locals is >>= λ bytes. coded_method 0x1009 name bytes pool
