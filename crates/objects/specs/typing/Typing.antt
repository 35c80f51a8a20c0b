-- Typed code (JVM Specification, Java SE 7, section 4.10.1): a table of the types before each instruction, tested against what the
-- instructions ask. Places are counted in instructions.
use Rattle.std.specs.Prelude.{◌≡◌, ℕ, ℤ, zero, suc, ◌+◌, ◌-◌, ◌<◌, ◌≤◌, List, [], ◌∷◌, ◌++◌, length, map, replicate, reverse, Option, Some, None, Bool, true, false, IsTrue, not, nat_le, nat_lt, nat_eq, bytes_eq, codes, ◌&&◌, ◌||◌, if◌then◌else◌, slice_get, slice_set, option_and_then, is_some, drop, ◌==◌}
use Rattle.std.specs.List.{AllByRecursion, list_any}
use Rattle.jmodel.specs.declared.value.Value.{Value}
use Rattle.jmodel.specs.declared.value.Value.TheVariants as value
use Rattle.jmodel.specs.declared.typing.VType.{VType}
use Rattle.jmodel.specs.declared.typing.VType.TheVariants.{Int, Long, Second, Null, Ref, Uninit, UninitThis, Top}
use Rattle.objects.specs.declared.op.Sort.{Sort}
use Rattle.objects.specs.declared.op.Sort.TheVariants as sort
use Rattle.objects.specs.declared.op.Width.{Width}
use Rattle.objects.specs.declared.op.Width.TheVariants as width
use Rattle.objects.specs.declared.op.WordType.{WordType}
use Rattle.objects.specs.declared.op.WordType.TheVariants as word
use Rattle.objects.specs.declared.op.Conversion.{Conversion}
use Rattle.objects.specs.declared.op.Conversion.TheVariants.{IntToLong, LongToInt}
use Rattle.objects.specs.declared.op.Op.{Op}
use Rattle.objects.specs.declared.op.Op.TheVariants as op
use Rattle.objects.specs.declared.op.StackOp.{StackOp}
use Rattle.objects.specs.declared.op.StackOp.TheVariants.{Nop, Pop, Pop2, Dup, DupX1, DupX2, Dup2, Dup2X1, Dup2X2, Swap}
use Rattle.objects.specs.declared.op.ContextCall.{ContextCall}
use Rattle.objects.specs.declared.op.ContextCall.TheVariants as call
use Rattle.objects.specs.declared.op.Catch.{Catch}
use Rattle.objects.specs.declared.op.Catches.{Catches}
use Rattle.objects.specs.declared.op.Catches.TheVariants.{Conflict, Any, Of}
use Rattle.objects.specs.semantics.WordTypes.{type_descriptor}
use Rattle.objects.specs.semantics.Program.{Row, Field, Method, Program, method_at, field_at, row_at}
pub use Rattle.objects.specs.typing.TypeOrder.{object_class, throwable_class, string_class, context_class, conflict_class, is_array, element_class, name_read, classes_from, stack_types, is_within, IsWithin, AreWithin, IsLocals, IsStack}

-- The types before an instruction; of the stack the topmost first. In a constructor `built` says whether another has run over its object.
pub record Types : Type 0 where
  pub locals : List VType
  pub stack : List VType
  pub built : Bool

-- a table: at each place the types before its instruction, or none
abbrev pub Table : Type 0
Table = List (Option Types)

abbrev pub types_at : Table → ℕ → Option Types
types_at T pc = option_and_then (λ (h : Option Types). h) (slice_get T pc)

-- The second types are at least as wide as the first, over a stack of the same height.
pub record FitsIn (P : Program) (h g : Types) : Type 0 where
  pub locals : AreWithin P h.locals g.locals
  pub stack : AreWithin P h.stack g.stack
  pub built : IsTrue g.built → IsTrue h.built

-- where an instruction may go on, and the types that it leaves there; Wrong where it doesn't fit those before it
pub data Flow : Type 0 where
  Leads : (to : List ℕ) (h : Types) → Flow
  Wrong : Flow

abbrev pub with_stack : Types → List VType → Types
with_stack h s = record h { stack = s }

-- on to the next instruction
abbrev pub leaves : ℕ → Types → List VType → Flow
leaves pc h s = Leads ((pc + 1) ∷ []) (with_stack h s)

abbrev pub ends : Bool → Types → Flow
ends true h = Leads [] h
ends false h = Wrong

abbrev pub if_so : Bool → Flow → Flow
if_so true k = k
if_so false k = Wrong

-- a value of this type on top
abbrev pub on : Program → VType → List VType → (List VType → Flow) → Flow
on P t [] k = Wrong
on P t (u ∷ s) k = if is_within P u t then k s else Wrong

-- values of these types, the first topmost
abbrev pub on_each : Program → List VType → List VType → (List VType → Flow) → Flow
on_each P [] s k = k s
on_each P (t ∷ ts) s k = on P t s (λ s. on_each P ts s k)

-- an int on top
abbrev pub on_int : List VType → (List VType → Flow) → Flow
on_int [] k = Wrong
on_int (Int ∷ s) k = k s
on_int (t ∷ s) k = Wrong

abbrev pub on_long : Program → List VType → (List VType → Flow) → Flow
on_long P s k = on_each P (Second ∷ Long ∷ []) s k

abbrev pub on_number : Program → Width → List VType → (List VType → Flow) → Flow
on_number P width.Int s k = on_int s k
on_number P width.Long s k = on_long P s k

abbrev pub number_types : Width → List VType
number_types width.Int = Int ∷ []
number_types width.Long = Second ∷ Long ∷ []

-- null, or an object
abbrev pub on_reference : Program → List VType → (List VType → Flow) → Flow
on_reference P s k = on P (Ref object_class) s k

-- a transaction's context
abbrev pub on_context : Program → List VType → (List VType → Flow) → Flow
on_context P s k = on P (Ref context_class) s k

abbrev pub on_top : List VType → (VType → List VType → Flow) → Flow
on_top [] k = Wrong
on_top (t ∷ s) k = k t s

-- whether a type is that of a value of one place
abbrev pub is_one : VType → Bool
is_one Int = true
is_one Null = true
is_one (Ref n) = true
is_one (Uninit p) = true
is_one UninitThis = true
is_one t = false

-- a value of one place on top
abbrev pub on_one : List VType → (VType → List VType → Flow) → Flow
on_one s k = on_top s (λ t s. if_so (is_one t) (k t s))

-- a long, or two values of one place, on top
abbrev pub on_two : List VType → (VType → VType → List VType → Flow) → Flow
on_two (Second ∷ Long ∷ s) k = k Second Long s
on_two s k = on_one s (λ t s. on_one s (λ u s. k t u s))

-- null, an object, or one that isn't built
abbrev pub is_reference : VType → Bool
is_reference Int = false
is_reference t = is_one t

abbrev pub local_in : Option VType → (VType → Flow) → Flow
local_in None k = Wrong
local_in (Some t) k = k t

abbrev pub int_in : Option VType → Flow → Flow
int_in (Some Int) k = k
int_in t k = Wrong

-- a long in two locals
abbrev pub long_at : Option VType → Option VType → Flow → Flow
long_at (Some Long) (Some Second) k = k
long_at t u k = Wrong

-- The types of a constant's places. A reference that isn't null is that of a class's static fields, which is known as an object alone.
abbrev pub constant_types : Value → List VType
constant_types (value.Int n) = Int ∷ []
constant_types (value.Long n) = Second ∷ Long ∷ []
constant_types (value.Ref zero) = Null ∷ []
constant_types (value.Ref (suc o)) = Ref object_class ∷ []

abbrev pub field_in : Option Field → (Field → Flow) → Flow
field_in None k = Wrong
field_in (Some f) k = k f

abbrev pub method_in : Option Method → (Method → Flow) → Flow
method_in None k = Wrong
method_in (Some c) k = k c

abbrev pub row_in : Option Row → (Row → Flow) → Flow
row_in None k = Wrong
row_in (Some r) k = k r

-- ---- locals

-- what is left of a long whose one place is written, is nothing
abbrev pub freed_by : Option VType → ℕ → List VType → List VType
freed_by (Some Second) i ts = slice_set ts (i - 1) Top
freed_by (Some Long) i ts = slice_set ts (i + 1) Top
freed_by t i ts = ts

abbrev pub freed : ℕ → List VType → List VType
freed i ts = freed_by (slice_get ts i) i ts

abbrev pub set_local : Bool → ℕ → VType → ℕ → Types → List VType → Flow
set_local true i t pc h s = Leads ((pc + 1) ∷ []) (record h { locals = slice_set (freed i h.locals) i t; stack = s })
set_local false i t pc h s = Wrong

abbrev pub set_long : Bool → ℕ → ℕ → Types → List VType → Flow
set_long true i pc h s = Leads ((pc + 1) ∷ []) (record h { locals = slice_set (slice_set (freed (i + 1) (freed i h.locals)) i Long) (i + 1) Second; stack = s })
set_long false i pc h s = Wrong

abbrev pub loads : Sort → ℕ → ℕ → Types → Flow
loads sort.Int i pc h = int_in (slice_get h.locals i) (leaves pc h (Int ∷ h.stack))
loads sort.Reference i pc h = local_in (slice_get h.locals i) (λ t. if_so (is_reference t) (leaves pc h (t ∷ h.stack)))
loads sort.Long i pc h = long_at (slice_get h.locals i) (slice_get h.locals (i + 1)) (leaves pc h (Second ∷ Long ∷ h.stack))

abbrev pub stores : Program → Sort → ℕ → ℕ → Types → Flow
stores P sort.Int i pc h = on_int h.stack (λ s. set_local (nat_lt i (length h.locals)) i Int pc h s)
stores P sort.Reference i pc h = on_top h.stack (λ t s. if_so (is_reference t) (set_local (nat_lt i (length h.locals)) i t pc h s))
stores P sort.Long i pc h = on_long P h.stack (λ s. set_long (nat_lt (i + 1) (length h.locals)) i pc h s)

-- ---- the stack

abbrev pub rearranged : StackOp → ℕ → Types → Flow
rearranged Nop pc h = leaves pc h h.stack
rearranged Pop pc h = on_one h.stack (λ t s. leaves pc h s)
rearranged Pop2 pc h = on_two h.stack (λ t u s. leaves pc h s)
rearranged Dup pc h = on_one h.stack (λ t s. leaves pc h (t ∷ t ∷ s))
rearranged DupX1 pc h = on_one h.stack (λ t s. on_one s (λ u s. leaves pc h (t ∷ u ∷ t ∷ s)))
rearranged DupX2 pc h = on_one h.stack (λ t s. on_two s (λ u v s. leaves pc h (t ∷ u ∷ v ∷ t ∷ s)))
rearranged Dup2 pc h = on_two h.stack (λ t u s. leaves pc h (t ∷ u ∷ t ∷ u ∷ s))
rearranged Dup2X1 pc h = on_two h.stack (λ t u s. on_one s (λ v s. leaves pc h (t ∷ u ∷ v ∷ t ∷ u ∷ s)))
rearranged Dup2X2 pc h = on_two h.stack (λ t u s. on_two s (λ v w s. leaves pc h (t ∷ u ∷ v ∷ w ∷ t ∷ u ∷ s)))
rearranged Swap pc h = on_one h.stack (λ t s. on_one s (λ u s. leaves pc h (u ∷ t ∷ s)))

abbrev pub converted : Program → Conversion → ℕ → Types → Flow
converted P IntToLong pc h = on_int h.stack (λ s. leaves pc h (Second ∷ Long ∷ s))
converted P LongToInt pc h = on_long P h.stack (λ s. leaves pc h (Int ∷ s))
converted P c pc h = on_int h.stack (λ s. leaves pc h (Int ∷ s))

-- ---- arrays

-- an array on top, or null
abbrev pub on_array : List VType → (VType → List VType → Flow) → Flow
on_array s k = on_top s (λ t s. if_so (is_array_type t) (k t s))
  where
    is_array_type : VType → Bool
    is_array_type Null = true
    is_array_type (Ref n) = is_array n
    is_array_type t = false

abbrev pub begins : ℕ → List ℕ → Bool
begins x [] = false
begins x (c ∷ cs) = c == x

-- an element that is a reference is an object of a class, L, 76, or an array, 91
abbrev pub has_references : List ℕ → Bool
has_references n = begins 76 (drop 1 n) || begins 91 (drop 1 n)

-- whether an array has elements of a type; those of booleans are read and written as bytes are
abbrev pub has_elements : WordType → List ℕ → Bool
has_elements word.Reference n = has_references n
has_elements word.Byte n = bytes_eq n (codes "[B") || bytes_eq n (codes "[Z")
has_elements t n = bytes_eq n (codes "[" ++ type_descriptor t)

abbrev pub fits_elements : WordType → VType → Bool
fits_elements t (Ref n) = has_elements t n
fits_elements t u = true

-- the types of an element of an array, of which null has null
abbrev pub element_types : WordType → VType → List VType
element_types word.Reference (Ref n) = Ref (element_class n) ∷ []
element_types word.Reference u = Null ∷ []
element_types word.Long u = Second ∷ Long ∷ []
element_types t u = Int ∷ []

-- the types of a value that is stored in an array: any reference
abbrev pub stored_types : WordType → List VType
stored_types t = stack_types (record { word = t; class = object_class })

-- ---- objects that aren't built

abbrev pub is_constructor : Method → Bool
is_constructor k = bytes_eq k.name.name (codes "<init>")

abbrev pub is_uninit : VType → VType → Bool
is_uninit (Uninit p) (Uninit q) = nat_eq p q
is_uninit UninitThis UninitThis = true
is_uninit t u = false

abbrev pub become : VType → VType → VType → VType
become u t v = if is_uninit u v then t else v

-- each copy of an object is of this type
abbrev pub built_as : VType → VType → Types → List VType → Types
built_as u t h s = record { locals = map (become u t) h.locals; stack = map (become u t) s; built = h.built }

abbrev pub this_built : Method → Types → List VType → Types
this_built k h s = record (built_as UninitThis (Ref k.name.class) h s) { built = true }

-- the name of the class of what an instruction makes
abbrev pub new_class : Program → Option Op → Option (List ℕ)
new_class P (Some (op.New t)) = option_and_then (λ (r : Row). Some r.name) (row_at P t)
new_class P o = None

abbrev pub is_named : List ℕ → Option (List ℕ) → Bool
is_named n None = false
is_named n (Some m) = bytes_eq m n

abbrev pub direct_superclass : Program → List ℕ → Option (List ℕ)
direct_superclass P n = slice_get (classes_from P n) 1

-- a constructor of a class over the object on top
abbrev pub constructs : Program → Method → ℕ → List ℕ → Types → VType → List VType → Flow
constructs P k pc c h (Uninit p) s = if_so (is_named c (new_class P (slice_get k.ops p))) (Leads ((pc + 1) ∷ []) (built_as (Uninit p) (Ref c) h s))
constructs P k pc c h UninitThis s = if_so (bytes_eq c k.name.class || is_named c (direct_superclass P k.name.class)) (Leads ((pc + 1) ∷ []) (this_built k h s))
constructs P k pc c h t s = Wrong

-- an object of this class is made here: none that was made here before is left
abbrev pub makes_new : Bool → ℕ → Types → Flow
makes_new true pc h = Wrong
makes_new false pc h = Leads ((pc + 1) ∷ []) (record h { locals = map (become (Uninit pc) Top) h.locals; stack = Uninit pc ∷ h.stack })

-- ---- calls

-- the types of the parameters behind the object
abbrev pub arguments : Method → List VType
arguments c = by c.parameters
  where
    by : List VType → List VType
    by [] = []
    by (t ∷ ts) = ts

abbrev pub result_types : Option VType → List VType
result_types None = []
result_types (Some Long) = Second ∷ Long ∷ []
result_types (Some t) = t ∷ []

abbrev pub results : Method → List VType
results k = result_types k.result

abbrev pub calls : Program → ℕ → Method → Types → Flow
calls P pc c h = on_each P (reverse c.parameters) h.stack (λ s. leaves pc h (results c ++ s))

-- A call by name over an object: of a constructor, which gives nothing, or of a method over an object of the current class as typing reads it, so over any
-- object where that is an interface.
abbrev pub special : Bool → Program → Method → ℕ → Method → Types → Flow
special true P k pc c h = if_so (not (is_some c.result)) (on_each P (reverse (arguments c)) h.stack (λ s. on_top s (λ t s. constructs P k pc c.name.class h t s)))
special false P k pc c h = on_each P (reverse (arguments c)) h.stack (λ s. on_top s (λ t u. if_so (is_within P t (Ref (name_read P k.name.class))) (on_each P (reverse c.parameters) h.stack (λ s. leaves pc h (results c ++ s)))))

-- The object of an instruction is at most of the class that the instruction names. One that isn't built is asked for by its constructor's class.
abbrev pub is_received : Program → List ℕ → Option VType → Bool
is_received P n None = false
is_received P n (Some UninitThis) = true
is_received P n (Some t) = is_within P t (Ref n)

-- how many places lie above the object of a call, and of a store
abbrev pub argument_places : Option Method → ℕ
argument_places None = 0
argument_places (Some c) = length (arguments c)

abbrev pub value_places : Option Field → ℕ
value_places None = 0
value_places (Some f) = length (stack_types f.declared)

-- a store to a field of the constructor's own class, before another has run
abbrev pub puts : Program → Method → ℕ → Field → Types → List VType → Flow
puts P k pc f h s = on_top s (λ t s. if_so ((is_uninit UninitThis t && bytes_eq f.class k.name.class) || is_within P t (Ref f.class)) (leaves pc h s))

-- The arguments of a call of the context lie in order, the last topmost: the context, the object, a value, and the place.
abbrev pub called : Program → ContextCall → ℕ → Types → Flow
called P call.Init pc h = on_int h.stack (λ s. on_int s (λ s. on_context P s (λ s. leaves pc h s)))
called P call.BeforeRead pc h = on_long P h.stack (λ s. on_reference P s (λ s. on_context P s (λ s. leaves pc h s)))
called P (call.OnRead t) pc h = on_long P h.stack (λ s. on_each P (stored_types t) s (λ s. on_reference P s (λ s. on_context P s (λ s. leaves pc h (stored_types t ++ s)))))
called P (call.OnWrite t) pc h = on_long P h.stack (λ s. on_each P (stored_types t) s (λ s. on_reference P s (λ s. on_context P s (λ s. leaves pc h s))))
called P call.BeforeReadElement pc h = on_int h.stack (λ s. on_reference P s (λ s. on_context P s (λ s. leaves pc h s)))
called P (call.OnReadElement t) pc h = on_int h.stack (λ s. on_each P (stored_types t) s (λ s. on_reference P s (λ s. on_context P s (λ s. leaves pc h (stored_types t ++ s)))))
called P (call.OnWriteElement t) pc h = on_int h.stack (λ s. on_each P (stored_types t) s (λ s. on_reference P s (λ s. on_context P s (λ s. leaves pc h s))))
called P call.Commit pc h = on_context P h.stack (λ s. leaves pc h (Int ∷ s))
called P call.Rollback pc h = on_context P h.stack (λ s. leaves pc h s)

-- the targets of a switch, the other one first
abbrev pub exits : ℕ → List (ℤ × ℕ) → List ℕ
exits other cases = other ∷ map (λ (c : ℤ × ℕ). c.1) cases

abbrev pub returns : Sort → Option VType → Bool
returns s None = false
returns sort.Int (Some Int) = true
returns sort.Long (Some Long) = true
returns sort.Reference (Some (Ref n)) = true
returns s t = false

-- what an instruction of a method asks of the types before it, where it goes on, and what it leaves
abbrev pub flow : Program → Method → ℕ → Op → Types → Flow
flow P k pc (op.Constant v) h = leaves pc h (constant_types v ++ h.stack)
flow P k pc (op.Text n) h = if_so (is_some (slice_get P.texts n)) (leaves pc h (Ref string_class ∷ h.stack))
flow P k pc (op.Load t i) h = loads t i pc h
flow P k pc (op.Store t i) h = stores P t i pc h
flow P k pc (op.Stack r) h = rearranged r pc h
flow P k pc (op.Binary w b) h = on_number P w h.stack (λ s. on_number P w s (λ s. leaves pc h (number_types w ++ s)))
flow P k pc (op.Shift w b) h = on_int h.stack (λ s. on_number P w s (λ s. leaves pc h (number_types w ++ s)))
flow P k pc (op.Divide w d) h = on_number P w h.stack (λ s. on_number P w s (λ s. leaves pc h (number_types w ++ s)))
flow P k pc (op.Unary w u) h = on_number P w h.stack (λ s. leaves pc h (number_types w ++ s))
flow P k pc (op.Convert c) h = converted P c pc h
flow P k pc op.CompareLongs h = on_long P h.stack (λ s. on_long P s (λ s. leaves pc h (Int ∷ s)))
flow P k pc (op.Increment i n) h = int_in (slice_get h.locals i) (leaves pc h h.stack)
flow P k pc (op.Branch t to) h = on_int h.stack (λ s. Leads ((pc + 1) ∷ to ∷ []) (with_stack h s))
flow P k pc (op.BranchInts t to) h = on_int h.stack (λ s. on_int s (λ s. Leads ((pc + 1) ∷ to ∷ []) (with_stack h s)))
flow P k pc (op.BranchNull b to) h = on_reference P h.stack (λ s. Leads ((pc + 1) ∷ to ∷ []) (with_stack h s))
flow P k pc (op.BranchReferences b to) h = on_reference P h.stack (λ s. on_reference P s (λ s. Leads ((pc + 1) ∷ to ∷ []) (with_stack h s)))
flow P k pc (op.Goto to) h = Leads (to ∷ []) h
flow P k pc (op.Switch other cases) h = on_int h.stack (λ s. Leads (exits other cases) (with_stack h s))
flow P k pc (op.GetStatic n) h = field_in (field_at P n) (λ f. if_so (is_some f.base) (leaves pc h (stack_types f.declared ++ h.stack)))
flow P k pc (op.PutStatic n) h = field_in (field_at P n) (λ f. if_so (is_some f.base) (on_each P (stack_types f.declared) h.stack (λ s. leaves pc h s)))
flow P k pc (op.GetField n c) h = if_so (is_received P c (slice_get h.stack 0)) (field_in (field_at P n) (λ f. on P (Ref f.class) h.stack (λ s. leaves pc h (stack_types f.declared ++ s))))
flow P k pc (op.PutField n c) h = if_so (is_received P c (slice_get h.stack (value_places (field_at P n)))) (field_in (field_at P n) (λ f. on_each P (stack_types f.declared) h.stack (λ s. puts P k pc f h s)))
flow P k pc (op.InvokeStatic m) h = method_in (method_at P m) (λ c. calls P pc c h)
flow P k pc (op.InvokeSpecial m) h = method_in (method_at P m) (λ c. special (is_constructor c) P k pc c h)
flow P k pc (op.InvokeVirtual m n) h = if_so (is_received P n (slice_get h.stack (argument_places (method_at P m)))) (method_in (method_at P m) (λ c. calls P pc c h))
flow P k pc (op.InvokeInterface m n) h = method_in (method_at P m) (λ c. calls P pc c h)
flow P k pc (op.InitLibrary c n) h = on_each P (replicate n (Ref string_class)) h.stack (λ s. on_top s (λ t s. constructs P k pc c h t s))
flow P k pc (op.New t) h = row_in (row_at P t) (λ r. makes_new (list_any (is_uninit (Uninit pc)) h.stack) pc h)
flow P k pc (op.NewArray t) h = row_in (row_at P t) (λ r. on_int h.stack (λ s. leaves pc h (Ref r.read ∷ s)))
flow P k pc op.ArrayLength h = on_array h.stack (λ t s. leaves pc h (Int ∷ s))
flow P k pc (op.LoadElement t) h = on_int h.stack (λ s. on_array s (λ u s. if_so (fits_elements t u) (leaves pc h (element_types t u ++ s))))
flow P k pc (op.StoreElement t) h = on_each P (stored_types t) h.stack (λ s. on_int s (λ s. on_array s (λ u s. if_so (fits_elements t u) (leaves pc h s))))
flow P k pc (op.CheckCast c) h = on_reference P h.stack (λ s. leaves pc h (Ref (name_read P c) ∷ s))
flow P k pc (op.InstanceOf c) h = on_reference P h.stack (λ s. leaves pc h (Int ∷ s))
flow P k pc op.Return h = ends (not (is_some k.result) && (not (is_constructor k) || h.built)) h
flow P k pc (op.ReturnValue t) h = if_so (returns t k.result) (on_each P (results k) h.stack (λ s. ends true (with_stack h s)))
flow P k pc op.Throw h = on P (Ref throwable_class) h.stack (λ s. ends true (with_stack h s))
flow P k pc op.GetContext h = leaves pc h (Ref context_class ∷ h.stack)
flow P k pc (op.Context c) h = called P c pc h

-- A place of the code has types that are at least as wide as these.
pub record Covers (P : Program) (k : Method) (T : Table) (h : Types) (pc : ℕ) : Type 0 where
  pub inside : pc < length k.ops
  pub types : Types
  pub there : types_at T pc ≡ Some types
  pub fits : FitsIn P h types

-- the type of the exceptions that an entry takes
abbrev pub caught_type : Program → Catches → VType
caught_type P Conflict = Ref conflict_class
caught_type P Any = Ref throwable_class
caught_type P (Of c) = Ref (name_read P c)

abbrev pub is_guarded : Catch → ℕ → Bool
is_guarded c pc = nat_le c.from pc && nat_lt pc c.to

-- Where an exception goes that is thrown at a place, over these locals: the place of each entry that guards the first covers them, with
-- the exception alone on the stack, and its type is at most Throwable.
abbrev pub AreCaught : Program → Method → Table → ℕ → List VType → Bool → List Catch → Type 0
AreCaught P k T pc l built [] = Unit {0}
AreCaught P k T pc l built (c ∷ cs) =
    (IsTrue (is_guarded c pc) → IsWithin P (caught_type P c.catches) (Ref throwable_class) × Covers P k T (record { locals = l; stack = caught_type P c.catches ∷ []; built = built }) c.at)
    × AreCaught P k T pc l built cs

-- What an instruction leaves stays within the stack, each place where it may go on covers that, and the places of exception entries cover
-- the locals before and after it.
pub record Keeps (P : Program) (k : Method) (T : Table) (pc : ℕ) (g : Types) (to : List ℕ) (h : Types) : Type 0 where
  pub room : length h.stack ≤ k.max_stack
  pub goes : AllByRecursion (Covers P k T h) to
  pub before : AreCaught P k T pc g.locals g.built k.catches
  pub after : AreCaught P k T pc h.locals h.built k.catches

abbrev pub KeepsFlow : Program → Method → Table → ℕ → Types → Flow → Type 0
KeepsFlow P k T pc g Wrong = ⊥
KeepsFlow P k T pc g (Leads to h) = Keeps P k T pc g to h

abbrev pub KeepsAt : Program → Method → Table → ℕ → Types → Option Op → Type 0
KeepsAt P k T pc h None = ⊥
KeepsAt P k T pc h (Some o) = KeepsFlow P k T pc h (flow P k pc o h)

-- The types at a place are those of a frame of the method, and its instruction keeps the rules.
pub record IsTypedAt (P : Program) (k : Method) (T : Table) (pc : ℕ) (h : Types) : Type 0 where
  pub locals : length h.locals ≡ k.locals
  pub each_local : IsLocals h.locals
  pub room : length h.stack ≤ k.max_stack
  pub stack : IsStack h.stack
  pub keeps : KeepsAt P k T pc h (slice_get k.ops pc)

-- in a constructor the object isn't built at first
abbrev pub first_locals : Bool → List VType → List VType
first_locals true (t ∷ ts) = UninitThis ∷ ts
first_locals b ts = ts

-- the types before the first instruction: the parameters, and nothing else
abbrev pub first_types : Method → Types
first_types k = record {
  locals = first_locals (is_constructor k) k.parameters ++ replicate (k.locals - k.places) Top;
  stack = [];
  built = not (is_constructor k);
}

-- The table meets the rules of the instructions at places up to the last.
pub record IsTypingUpTo (P : Program) (k : Method) (last : ℕ) (T : Table) : Type 0 where
  pub first : types_at T 0 ≡ Some (first_types k)
  pub each : (pc : ℕ) (h : Types) → pc ≤ last → types_at T pc ≡ Some h → IsTypedAt P k T pc h

-- The table is a typing of a method: it meets the rules of each instruction that has types.
pub record IsTyping (P : Program) (k : Method) (T : Table) : Type 0 where
  pub first : types_at T 0 ≡ Some (first_types k)
  pub each : (pc : ℕ) (h : Types) → types_at T pc ≡ Some h → IsTypedAt P k T pc h

-- each other typing has types that are at least as wide at each place that has some
abbrev pub IsNarrowest : Program → Method → Table → Type 0
IsNarrowest P k T = (U : Table) → IsTyping P k U → (pc : ℕ) (h : Types) → types_at T pc ≡ Some h → Covers P k U h pc

-- a method that has a typing
pub record IsTypable (P : Program) (k : Method) : Type 0 where
  pub table : Table
  pub typing : IsTyping P k table

-- A method has no typing, and this is the least place such that no table meets the rules of the instructions up to it.
pub record IsUntypableAt (P : Program) (k : Method) (place : ℕ) : Type 0 where
  pub none : (T : Table) → IsTypingUpTo P k place T → ⊥
  pub before : (last : ℕ) → last < place → (T : Table) × IsTypingUpTo P k last T
