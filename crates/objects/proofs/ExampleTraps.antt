-- Exceptions that instructions throw, selection and the tests of types, computed over the example's types.
use Rattle.std.proofs.Common.{◌≡◌, ℕ, refl}
use Rattle.std.specs.Prelude.{pos, negsuc, List, [], ◌∷◌, ◌++◌, Option, Some, None, true, false, codes, slice_set}
use Rattle.jmodel.specs.declared.value.Value.TheVariants.{Int, Long, Ref}
use Rattle.jmodel.specs.declared.value.Answer.{Answer}
use Rattle.jmodel.specs.declared.value.Answer.TheVariants.{Returned, Threw, Budget, Depth}
use Rattle.jmodel.specs.declared.typing.VType.TheVariants as type
use Rattle.objects.specs.declared.op.Sort.TheVariants as sort
use Rattle.objects.specs.declared.op.Width.TheVariants as width
use Rattle.objects.specs.declared.op.WordType.TheVariants as word
use Rattle.objects.specs.declared.op.Dispatch.{Dispatch}
use Rattle.objects.specs.declared.op.Dispatch.TheVariants as dispatch
use Rattle.objects.specs.declared.op.Op.{Op}
use Rattle.objects.specs.declared.op.Op.TheVariants.{Constant, Stack, Divide, BranchNull, BranchReferences, Goto, Text, GetStatic, GetField, InvokeStatic, InvokeSpecial, InvokeVirtual, InvokeInterface, NewArray, ArrayLength, LoadElement, StoreElement, CheckCast, InstanceOf, ReturnValue, Throw}
use Rattle.objects.specs.declared.op.Division.TheVariants.{Quotient}
use Rattle.objects.specs.declared.op.StackOp.TheVariants.{Pop}
use Rattle.objects.specs.declared.op.Catch.{Catch}
use Rattle.objects.specs.declared.op.Catches.TheVariants.{Any, Of}
use Rattle.objects.specs.semantics.Program.{Method, Program, is_instance, selected}
use Rattle.objects.specs.semantics.State.{State}
use Rattle.objects.specs.semantics.Call.{Direct, Ended, direct, call_start}
use Rattle.objects.proofs.ExampleProgram.{program, make, methods}
use Rattle.objects.proofs.Example.{region, state_with, no_object, an_a, a_b}

-- the program with this code in place of the method that makes a B
abbrev with_code : List Op → List Catch → Program
with_code ops cs = record program { methods = slice_set methods 7 (record make { ops = ops; catches = cs }) }

abbrev answer_of : Direct → Option Answer
answer_of (Ended x σ) = Some x
answer_of d = None

abbrev answers : Program → State → Option Answer
answers P σ = answer_of (direct P region 60 (call_start P 7 [] 9 σ))

-- what code gives over a state in which s is an A, a B or null
abbrev with_a : List Op → Option Answer
with_a ops = answers (with_code ops []) (state_with an_a)

abbrev with_b : List Op → Option Answer
with_b ops = answers (with_code ops []) (state_with a_b)

abbrev with_null : List Op → Option Answer
with_null ops = answers (with_code ops []) no_object

abbrev threw : List ℕ → Option Answer
threw n = Some (Threw (codes "java/lang/" ++ n))

abbrev gave : ℕ → Option Answer
gave n = Some (Returned (Some (Int (pos n))))

abbrev gives : List Op
gives = ReturnValue sort.Int ∷ []

-- ---- arrays

past_the_end : with_null (Constant (Int (pos 1)) ∷ NewArray 25 ∷ Constant (Int (pos 1)) ∷ LoadElement word.Reference ∷ []) ≡ threw (codes "ArrayIndexOutOfBoundsException")
past_the_end = refl

below_the_start : with_null (Constant (Int (pos 1)) ∷ NewArray 27 ∷ Constant (Int (negsuc 0)) ∷ LoadElement word.Byte ∷ []) ≡ threw (codes "ArrayIndexOutOfBoundsException")
below_the_start = refl

negative_length : with_null (Constant (Int (negsuc 0)) ∷ NewArray 25 ∷ []) ≡ threw (codes "NegativeArraySizeException")
negative_length = refl

of_null : with_null (Constant (Ref 0) ∷ Constant (Int (pos 9)) ∷ LoadElement word.Reference ∷ []) ≡ threw (codes "NullPointerException")
of_null = refl

length_of_null : with_null (Constant (Ref 0) ∷ ArrayLength ∷ []) ≡ threw (codes "NullPointerException")
length_of_null = refl

-- the index comes before the class of what is stored
index_first : with_a (Constant (Int (pos 1)) ∷ NewArray 26 ∷ Constant (Int (pos 1)) ∷ GetStatic 3 ∷ StoreElement word.Reference ∷ []) ≡ threw (codes "ArrayIndexOutOfBoundsException")
index_first = refl

empty_array : with_null (Constant (Int (pos 0)) ∷ NewArray 25 ∷ ArrayLength ∷ gives) ≡ gave 0
empty_array = refl

-- ---- null

null_field : with_null (GetStatic 3 ∷ GetField 0 (codes "A") ∷ gives) ≡ threw (codes "NullPointerException")
null_field = refl

null_call : with_null (GetStatic 3 ∷ InvokeSpecial 1 ∷ gives) ≡ threw (codes "NullPointerException")
null_call = refl

null_thrown : with_null (Constant (Ref 0) ∷ Throw ∷ []) ≡ threw (codes "NullPointerException")
null_thrown = refl

null_is_cast : with_null (Constant (Ref 0) ∷ CheckCast (codes "B") ∷ InstanceOf (codes "B") ∷ gives) ≡ gave 0
null_is_cast = refl

divided : with_null (Constant (Int (pos 1)) ∷ Constant (Int (pos 0)) ∷ Divide width.Int Quotient ∷ gives) ≡ threw (codes "ArithmeticException")
divided = refl

long_divided : with_null (Constant (Long (pos 1)) ∷ Constant (Long (pos 0)) ∷ Divide width.Long Quotient ∷ gives) ≡ threw (codes "ArithmeticException")
long_divided = refl

-- ---- references

branch_null : with_null (GetStatic 3 ∷ BranchNull true 4 ∷ Constant (Int (pos 1)) ∷ ReturnValue sort.Int ∷ Constant (Int (pos 2)) ∷ gives) ≡ gave 2
branch_null = refl

branch_not_null : with_a (GetStatic 3 ∷ BranchNull true 4 ∷ Constant (Int (pos 1)) ∷ ReturnValue sort.Int ∷ Constant (Int (pos 2)) ∷ gives) ≡ gave 1
branch_not_null = refl

-- a text is one object
same_text : with_null (Text 0 ∷ Text 0 ∷ BranchReferences true 5 ∷ Constant (Int (pos 1)) ∷ ReturnValue sort.Int ∷ Constant (Int (pos 2)) ∷ gives) ≡ gave 2
same_text = refl

-- ---- calls

virtual_a : with_a (GetStatic 3 ∷ InvokeVirtual 1 (codes "A") ∷ gives) ≡ gave 4
virtual_a = refl

virtual_b : with_b (GetStatic 3 ∷ InvokeVirtual 1 (codes "A") ∷ gives) ≡ gave 7
virtual_b = refl

-- super.get()
special_b : with_b (GetStatic 3 ∷ InvokeSpecial 1 ∷ gives) ≡ gave 4
special_b = refl

no_interface : with_a (GetStatic 3 ∷ InvokeInterface 4 (codes "I") ∷ gives) ≡ threw (codes "IncompatibleClassChangeError")
no_interface = refl

-- B's method has another part in which method runs
abbrev f_as : Dispatch → List Op → Method
f_as d ops = record make {
  name = record { class = codes "B"; name = codes "f"; descriptor = codes "()I" };
  dispatch = d;
  parameters = type.Ref (codes "B") ∷ [];
  places = 1;
  locals = 1;
  retries = None;
  ops = ops;
}

abbrev with_f : Dispatch → List Op → Program
with_f d ops = record program { methods = slice_set methods 5 (f_as d ops) }

abbrev calls_f : Dispatch → List Op → Option Answer
calls_f d ops = answer_of (direct (with_f d ops) region 60 (call_start (with_f d ops) 8 [] 9 (state_with a_b)))

abbrev gives_one : List Op
gives_one = Constant (Int (pos 1)) ∷ ReturnValue sort.Int ∷ []

selects_f : calls_f dispatch.Virtual gives_one ≡ gave 1
selects_f = refl

-- an abstract method, or none where that one is private
abstract_f : calls_f dispatch.Abstract [] ≡ threw (codes "AbstractMethodError")
abstract_f = refl

private_f : calls_f dispatch.Exact gives_one ≡ threw (codes "AbstractMethodError")
private_f = refl

-- a method without code, whatever its dispatch
abbrev calls_codeless : Dispatch → List Op → Option Answer
calls_codeless d ops =
    let P = record (with_code ops []) { methods = slice_set (with_code ops []).methods 5 (f_as d []) } in
    answer_of (direct P region 60 (call_start P 7 [] 9 (state_with a_b)))

codeless_virtual : calls_codeless dispatch.Virtual (GetStatic 3 ∷ InvokeVirtual 5 (codes "A") ∷ gives) ≡ threw (codes "AbstractMethodError")
codeless_virtual = refl

codeless_private : calls_codeless dispatch.Exact (GetStatic 3 ∷ InvokeSpecial 5 ∷ gives) ≡ threw (codes "AbstractMethodError")
codeless_private = refl

codeless_selected : calls_codeless dispatch.Exact (GetStatic 3 ∷ InvokeVirtual 5 (codes "A") ∷ gives) ≡ threw (codes "AbstractMethodError")
codeless_selected = refl

codeless_static : calls_codeless dispatch.Static (GetStatic 3 ∷ InvokeStatic 5 ∷ gives) ≡ threw (codes "AbstractMethodError")
codeless_static = refl

-- a constructor is selected by its name
selected_itself : selected program 22 0 ≡ Some 0
selected_itself = refl

selected_inherited : selected program 21 1 ≡ Some 1
selected_inherited = refl

-- an array has no method of a class
selected_none : selected program 25 1 ≡ None
selected_none = refl

-- ---- tests

tests_own : is_instance program 22 (codes "B") ≡ true
tests_own = refl

tests_upper : is_instance program 22 (codes "A") ≡ true
tests_upper = refl

tests_interface : is_instance program 22 (codes "I") ≡ true
tests_interface = refl

tests_lower : is_instance program 21 (codes "B") ≡ false
tests_lower = refl

tests_array : is_instance program 26 (codes "[LA;") ≡ true
tests_array = refl

tests_array_of_interfaces : is_instance program 26 (codes "[LI;") ≡ true
tests_array_of_interfaces = refl

tests_lower_array : is_instance program 25 (codes "[LB;") ≡ false
tests_lower_array = refl

tests_bytes : is_instance program 27 (codes "[Ljava/lang/Object;") ≡ false
tests_bytes = refl

-- ---- handlers

abbrev entry : (from to at : ℕ) → List ℕ → Catch
entry from to at c = record { from = from; to = to; at = at; catches = Of c }

abbrev raising : List Op
raising = InvokeStatic 12 ∷ Constant (Int (pos 1)) ∷ Constant (Int (pos 0)) ∷ Divide width.Int Quotient ∷ ReturnValue sort.Int ∷ Stack Pop ∷ Constant (Int (pos 6)) ∷ ReturnValue sort.Int ∷ []

-- the first entry that takes the class
taken : answers (with_code raising (entry 0 5 1 (codes "E") ∷ entry 0 5 5 (codes "java/lang/ArithmeticException") ∷ [])) no_object ≡ gave 6
taken = refl

taken_by_upper : answers (with_code raising (entry 0 5 5 (codes "java/lang/RuntimeException") ∷ [])) no_object ≡ gave 6
taken_by_upper = refl

taken_by_all : answers (with_code raising (record { from = 3; to = 4; at = 5; catches = Any } ∷ [])) no_object ≡ gave 6
taken_by_all = refl

-- an entry ends before its end
passed : answers (with_code raising (entry 0 3 5 (codes "java/lang/Object") ∷ [])) no_object ≡ threw (codes "ArithmeticException")
passed = refl

not_taken : answers (with_code raising (entry 0 5 5 (codes "java/lang/Error") ∷ [])) no_object ≡ threw (codes "ArithmeticException")
not_taken = refl

-- two hundred frames are too many where each calls the next
deep : answer_of (direct (with_code (InvokeStatic 7 ∷ gives) []) region 300 (call_start (with_code (InvokeStatic 7 ∷ gives) []) 7 [] 999 no_object)) ≡ Some Depth
deep = refl

-- a jump back is a turn
jumps_back : answers (with_code (Goto 0 ∷ []) []) no_object ≡ Some Budget
jumps_back = refl
