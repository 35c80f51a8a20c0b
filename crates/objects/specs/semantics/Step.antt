-- One instruction on a list of frames (JVM Specification, Java SE 7, chapter 6). A step asks for all that lies outside the frames.
use Rattle.std.specs.Prelude.{ℕ, ℤ, zero, suc, pos, negsuc, ◌+◌, ◌-◌, ◌/◌, ◌%◌, ◌^◌, List, [], ◌∷◌, ◌++◌, length, Option, Some, None, Bool, true, false, nat_le, nat_lt, int_le, int_lt, not, ◌&&◌, if◌then◌else◌, slice_get, nat_eq, option_and_then, slice_set, replicate, count_by, int_rem}
use Rattle.std.specs.Ordering.{int_eq}
use Rattle.std.specs.Int.{Width as Bits, w32, w64, cast_signed, cast_unsigned, int_wrapping_add, int_wrapping_sub, int_wrapping_mul, int_wrapping_div, int_wrapping_neg, int_shl, int_shr, int_bit_and, int_bit_or, int_bit_xor}
use Rattle.jmodel.specs.declared.value.Value.{Value}
use Rattle.jmodel.specs.declared.value.Value.TheVariants as value
use Rattle.objects.specs.declared.op.Slot.{Slot}
use Rattle.objects.specs.declared.op.Slot.TheVariants.{Int, Long, Second, Ref, Context, Loaded, Empty}
use Rattle.objects.specs.declared.op.Sort.{Sort}
use Rattle.objects.specs.declared.op.Sort.TheVariants as sort
use Rattle.objects.specs.declared.op.Width.{Width}
use Rattle.objects.specs.declared.op.Width.TheVariants as width
use Rattle.objects.specs.declared.op.WordType.{WordType}
use Rattle.objects.specs.declared.op.WordType.TheVariants as word
use Rattle.objects.specs.declared.op.Op.{Op}
use Rattle.objects.specs.declared.op.Op.TheVariants as op
use Rattle.objects.specs.declared.op.Place.{Place}
use Rattle.objects.specs.declared.op.Binary.{Binary}
use Rattle.objects.specs.declared.op.Binary.TheVariants.{Add, Subtract, Multiply, And, Or, Xor, Minimum, Maximum}
use Rattle.objects.specs.declared.op.Shift.{Shift}
use Rattle.objects.specs.declared.op.Shift.TheVariants.{Left, Right, UnsignedRight}
use Rattle.objects.specs.declared.op.Division.{Division}
use Rattle.objects.specs.declared.op.Division.TheVariants.{Quotient, Remainder}
use Rattle.objects.specs.declared.op.Trap.TheVariants.{Arithmetic, NullPointer, ArrayIndex, ArrayStore, NegativeArraySize, ClassCast, AbstractMethod, IncompatibleClassChange}
use Rattle.objects.specs.declared.op.Trap.{Trap as Trapping}
use Rattle.objects.specs.declared.op.Unary.{Unary}
use Rattle.objects.specs.declared.op.Unary.TheVariants.{Negate, Absolute}
use Rattle.objects.specs.declared.op.Conversion.{Conversion}
use Rattle.objects.specs.declared.op.Conversion.TheVariants.{IntToByte, IntToChar, IntToShort, IntToLong, LongToInt}
use Rattle.objects.specs.declared.op.Test.{Test}
use Rattle.objects.specs.declared.op.Test.TheVariants.{Equal, NotEqual, Less, GreaterOrEqual, Greater, LessOrEqual}
use Rattle.objects.specs.declared.op.StackOp.{StackOp}
use Rattle.objects.specs.declared.op.StackOp.TheVariants.{Nop, Pop, Pop2, Dup, DupX1, DupX2, Dup2, Dup2X1, Dup2X2, Swap}
use Rattle.objects.specs.declared.op.ContextCall.{ContextCall}
use Rattle.objects.specs.declared.op.ContextCall.TheVariants as call
use Rattle.objects.specs.declared.op.Request.TheVariants as request
use Rattle.objects.specs.declared.op.Element.{Element}
use Rattle.objects.specs.declared.op.Element.TheVariants as element
use Rattle.objects.specs.declared.op.Use.{Use}
use Rattle.objects.specs.declared.op.Use.TheVariants.{Selects, Implements, Casts, Tests, Measures, Indexes, Fits}
use Rattle.objects.specs.declared.op.Made.TheVariants.{Pushed, Raised}
use Rattle.objects.specs.declared.op.Catch.{Catch}
use Rattle.objects.specs.declared.op.Catches.{Catches}
use Rattle.objects.specs.declared.op.Catches.TheVariants.{Conflict, Any, Of}
use Rattle.objects.specs.declared.op.Doing.{Doing}
use Rattle.objects.specs.declared.op.Doing.TheVariants.{Next, Jump, Invoke, Give, Throw, Raise, Trap, Make, Head, Ask}
use Rattle.objects.specs.declared.op.Asking.{Asking}
use Rattle.objects.specs.declared.op.Asking.TheVariants as asking
use Rattle.objects.specs.semantics.WordTypes.{narrowed}
use Rattle.objects.specs.semantics.Value.{pushed, kept_by, word_of}
use Rattle.objects.specs.linking.Library.{trap_type}
use Rattle.objects.specs.semantics.Program.{Holds, Words, Elements, Row, Field, Method, Program, row_at, is_instance, has_code, selected, method_at, op_at, is_counted, field_at}

-- A frame. The stack has the topmost first. A caller's place is that of its call.
pub record Frame : Type 0 where
  pub method : ℕ
  pub pc : ℕ
  pub locals : List Slot
  pub stack : List Slot

abbrev pub Frames : Type 0
Frames = List Frame

-- what an instruction does, and the frame that it leaves; Wrong where the frame hasn't what it needs
pub data Did : Type 0 where
  Does : (d : Doing) (f : Frame) → Did
  Wrong : Did

abbrev pub with_stack : Frame → List Slot → Frame
with_stack f s = record f { stack = s }

abbrev pub with_locals : Frame → List Slot → Frame
with_locals f l = record f { locals = l }

abbrev pub leaves : Frame → List Slot → Did
leaves f s = Does Next (with_stack f s)

-- ---- operands, the topmost first

abbrev pub on_top : List Slot → (Slot → List Slot → Did) → Did
on_top [] k = Wrong
on_top (v ∷ s) k = k v s

abbrev pub int_in : Slot → (ℤ → Did) → Did
int_in (Int x) k = k x
int_in v k = Wrong

abbrev pub on_int : List Slot → (ℤ → List Slot → Did) → Did
on_int s k = on_top s (λ v s. int_in v (λ x. k x s))

abbrev pub ref_in : Slot → (ℕ → Did) → Did
ref_in (Ref o) k = k o
ref_in v k = Wrong

abbrev pub on_ref : List Slot → (ℕ → List Slot → Did) → Did
on_ref s k = on_top s (λ v s. ref_in v (λ o. k o s))

abbrev pub second_in : Slot → Did → Did
second_in Second k = k
second_in v k = Wrong

abbrev pub long_in : Slot → (ℤ → Did) → Did
long_in (Long x) k = k x
long_in v k = Wrong

abbrev pub on_long : List Slot → (ℤ → List Slot → Did) → Did
on_long s k = on_top s (λ v s. second_in v (on_top s (λ v s. long_in v (λ x. k x s))))

abbrev pub on_number : Width → List Slot → (ℤ → List Slot → Did) → Did
on_number width.Int s k = on_int s k
on_number width.Long s k = on_long s k

abbrev pub context_in : Slot → Did → Did
context_in Context k = k
context_in v k = Wrong

abbrev pub on_context : List Slot → (List Slot → Did) → Did
on_context s k = on_top s (λ v s. context_in v (k s))

abbrev pub loaded_in : Slot → Did → Did
loaded_in Loaded k = k
loaded_in v k = Wrong

abbrev pub on_loaded : List Slot → (List Slot → Did) → Did
on_loaded s k = on_top s (λ v s. loaded_in v (k s))

-- an object or the context
abbrev pub object_in : Slot → Did → Did
object_in (Ref o) k = k
object_in Context k = k
object_in v k = Wrong

-- a value of a sort
abbrev pub on_value : Sort → List Slot → (Value → List Slot → Did) → Did
on_value sort.Int s k = on_int s (λ x s. k (value.Int x) s)
on_value sort.Long s k = on_long s (λ x s. k (value.Long x) s)
on_value sort.Reference s k = on_ref s (λ o s. k (value.Ref o) s)

abbrev pub sort_of : WordType → Sort
sort_of word.Long = sort.Long
sort_of word.Reference = sort.Reference
sort_of t = sort.Int

-- a value as a word of a type keeps it
abbrev pub on_word : WordType → List Slot → (Value → List Slot → Did) → Did
on_word t s k = on_value (sort_of t) s (λ v s. k (kept_by t v) s)

abbrev pub slot_in : Option Slot → (Slot → Did) → Did
slot_in None k = Wrong
slot_in (Some v) k = k v

abbrev pub field_in : Option Field → (Field → Did) → Did
field_in None k = Wrong
field_in (Some f) k = k f

abbrev pub number_in : Option ℕ → (ℕ → Did) → Did
number_in None k = Wrong
number_in (Some n) k = k n

-- the place of an object's value
abbrev pub inner : ℕ → Field → Place
inner o x = record { object = o; index = suc x.index }

-- a static field's place
abbrev pub static_in : Option Field → (Field → Place → Did) → Did
static_in x k = field_in x (λ f. number_in f.base (λ o. k f (inner o f)))

abbrev pub method_in : Option Method → (Method → Did) → Did
method_in None k = Wrong
method_in (Some c) k = k c

-- an object's place, whose address has 64 bits
abbrev pub place_in : ℕ → ℕ → (Place → Did) → Did
place_in zero index k = Wrong
place_in (suc o) index k = if nat_lt (suc o + index) (2 ^ 64) then k (record { object = suc o; index = index }) else Wrong

-- an element's place
abbrev pub element_in : ℕ → ℤ → (Place → Did) → Did
element_in o (pos i) k = place_in o (suc i) k
element_in o (negsuc i) k = Wrong

-- what asks for an object throws where there is none
abbrev pub not_null : ℕ → Frame → Did → Did
not_null zero f k = Does (Trap NullPointer) f
not_null (suc o) f k = k

-- null, or an object
abbrev pub if_object : ℕ → Did → Did → Did
if_object zero n k = n
if_object (suc o) n k = k

-- In a method whose frames count, the exception's header is asked for, since its entries go by the class. A wrapper throws on without a look.
abbrev pub throws : Bool → ℕ → Frame → Did
throws true o f = Does (Raise o) f
throws false o f = Does (Throw o) f

-- ---- numbers

abbrev pub less : ℤ → ℤ → ℤ
less x y = if int_le x y then x else y

abbrev pub greater : ℤ → ℤ → ℤ
greater x y = if int_le x y then y else x

abbrev pub bits : Width → Bits
bits width.Int = w32
bits width.Long = w64

abbrev pub binary : Width → Binary → ℤ → ℤ → ℤ
binary w Add x y = int_wrapping_add (bits w) x y
binary w Subtract x y = int_wrapping_sub (bits w) x y
binary w Multiply x y = int_wrapping_mul (bits w) x y
binary w And x y = int_bit_and (bits w) x y
binary w Or x y = int_bit_or (bits w) x y
binary w Xor x y = int_bit_xor (bits w) x y
binary w Minimum x y = less x y
binary w Maximum x y = greater x y

-- how far a shift goes: by the low five bits of an int, or six for a long
abbrev pub shift_distance : Width → ℤ → ℕ
shift_distance width.Int y = cast_unsigned w32 y % 32
shift_distance width.Long y = cast_unsigned w32 y % 64

abbrev pub shifted : Width → Shift → ℤ → ℕ → ℤ
shifted w Left x n = int_shl (bits w) x n
shifted w Right x n = int_shr x n
shifted w UnsignedRight x n = cast_signed (bits w) (cast_unsigned (bits w) x / 2 ^ n)

abbrev pub divided : Width → Division → ℤ → ℤ → ℤ
divided w Quotient x y = int_wrapping_div (bits w) x y
divided w Remainder x y = int_rem x y

abbrev pub unary : Width → Unary → ℤ → ℤ
unary w Negate x = int_wrapping_neg (bits w) x
unary w Absolute x = if int_lt x (pos 0) then int_wrapping_neg (bits w) x else x

-- a number of a width on top
abbrev pub numbered : Width → ℤ → List Slot → List Slot
numbered width.Int x s = Int x ∷ s
numbered width.Long x s = Second ∷ Long x ∷ s

abbrev pub holds : Test → ℤ → ℤ → Bool
holds Equal x y = int_eq x y
holds NotEqual x y = not (int_eq x y)
holds Less x y = int_lt x y
holds GreaterOrEqual x y = int_le y x
holds Greater x y = int_lt y x
holds LessOrEqual x y = int_le x y

abbrev pub compared : ℤ → ℤ → ℤ
compared x y = if int_lt x y then negsuc 0 else (if int_lt y x then pos 1 else pos 0)

abbrev pub converted : Conversion → Frame → Did
converted IntToByte f = on_int f.stack (λ x s. leaves f (Int (narrowed word.Byte x) ∷ s))
converted IntToChar f = on_int f.stack (λ x s. leaves f (Int (narrowed word.Char x) ∷ s))
converted IntToShort f = on_int f.stack (λ x s. leaves f (Int (narrowed word.Short x) ∷ s))
converted IntToLong f = on_int f.stack (λ x s. leaves f (Second ∷ Long x ∷ s))
converted LongToInt f = on_long f.stack (λ x s. leaves f (Int (cast_signed w32 (cast_unsigned w64 x % 2 ^ 32)) ∷ s))

-- a division, where the second number is 0 or isn't
abbrev pub divides : Bool → Width → Division → ℤ → ℤ → List Slot → Frame → Did
divides true w d x y s f = Does (Trap Arithmetic) (with_stack f s)
divides false w d x y s f = leaves f (numbered w (divided w d x y) s)

-- ---- jumps, locals and the stack

abbrev pub branches : Bool → ℕ → Frame → Did
branches true to f = Does (Jump to) f
branches false to f = Does Next f

abbrev pub same : Bool → Bool → Bool
same true b = b
same false b = not b

-- where a switch goes with an int: to the target of the first case whose key it is, else to the other target
abbrev pub switched : ℕ → List (ℤ × ℕ) → ℤ → ℕ
switched other [] x = other
switched other ((key, to) ∷ cases) x = if int_eq key x then to else switched other cases x

abbrev pub loads : Sort → ℕ → Frame → Did
loads sort.Int i f = slot_in (slice_get f.locals i) (λ v. int_in v (λ x. leaves f (Int x ∷ f.stack)))
loads sort.Reference i f = slot_in (slice_get f.locals i) (λ v. object_in v (leaves f (v ∷ f.stack)))
loads sort.Long i f =
    slot_in (slice_get f.locals i) (λ v. long_in v (λ x. slot_in (slice_get f.locals (i + 1)) (λ v. second_in v (leaves f (Second ∷ Long x ∷ f.stack)))))

abbrev pub set_local : Bool → ℕ → Slot → Frame → Did
set_local true i v f = Does Next (with_locals f (slice_set f.locals i v))
set_local false i v f = Wrong

abbrev pub set_long : Bool → ℕ → ℤ → Frame → Did
set_long true i x f = Does Next (with_locals f (slice_set (slice_set f.locals i (Long x)) (i + 1) Second))
set_long false i x f = Wrong

abbrev pub stores : Sort → ℕ → Frame → Did
stores sort.Int i f = on_int f.stack (λ x s. set_local (nat_lt i (length f.locals)) i (Int x) (with_stack f s))
stores sort.Reference i f = on_top f.stack (λ v s. object_in v (set_local (nat_lt i (length f.locals)) i v (with_stack f s)))
stores sort.Long i f = on_long f.stack (λ x s. set_long (nat_lt (i + 1) (length f.locals)) i x (with_stack f s))

abbrev pub rearranged : StackOp → Frame → Did
rearranged Nop f = Does Next f
rearranged Pop f = on_top f.stack (λ v s. leaves f s)
rearranged Pop2 f = on_top f.stack (λ y s. on_top s (λ x s. leaves f s))
rearranged Dup f = on_top f.stack (λ v s. leaves f (v ∷ v ∷ s))
rearranged DupX1 f = on_top f.stack (λ y s. on_top s (λ x s. leaves f (y ∷ x ∷ y ∷ s)))
rearranged DupX2 f = on_top f.stack (λ z s. on_top s (λ y s. on_top s (λ x s. leaves f (z ∷ y ∷ x ∷ z ∷ s))))
rearranged Dup2 f = on_top f.stack (λ y s. on_top s (λ x s. leaves f (y ∷ x ∷ y ∷ x ∷ s)))
rearranged Dup2X1 f = on_top f.stack (λ z s. on_top s (λ y s. on_top s (λ x s. leaves f (z ∷ y ∷ x ∷ z ∷ y ∷ s))))
rearranged Dup2X2 f = on_top f.stack (λ z s. on_top s (λ y s. on_top s (λ x s. on_top s (λ w s. leaves f (z ∷ y ∷ x ∷ w ∷ z ∷ y ∷ s)))))
rearranged Swap f = on_top f.stack (λ y s. on_top s (λ x s. leaves f (x ∷ y ∷ s)))

-- the stack without so many of its topmost places
abbrev pub without : ℕ → List Slot → (List Slot → Did) → Did
without zero s k = k s
without (suc n) [] k = Wrong
without (suc n) (v ∷ s) k = without n s k

-- the object of a call, which is the first argument
abbrev pub receiver : Method → List Slot → Option Slot
receiver k s = slice_get s (k.places - 1)

-- a call over an object, whose operands stay where they are
abbrev pub over_object : Program → ℕ → Frame → (Method → ℕ → Did) → Did
over_object P m f on = method_in (method_at P m) (λ k. slot_in (receiver k f.stack) (λ v. ref_in v (λ o. not_null o f (on k o))))

-- a method without code is abstract, and can't be entered
abbrev pub runs : Bool → ℕ → Frame → Did
runs true m f = Does (Invoke m) f
runs false m f = Does (Trap AbstractMethod) f

-- an array of so many elements
abbrev pub sized : ℤ → ℕ → Frame → Did
sized (pos n) t f = Does (Make t n) f
sized (negsuc n) t f = Does (Trap NegativeArraySize) f

-- The arguments of a call of the context lie in order, the last topmost.
abbrev pub context_calls : ContextCall → Frame → Did
context_calls call.Init f = on_int f.stack (λ retries s. on_int s (λ id s. on_context s (λ s. Does (Ask (request.Begin retries)) (with_stack f s))))
context_calls call.BeforeRead f = on_long f.stack (λ i s. on_ref s (λ o s. on_context s (λ s. not_null o (with_stack f s) (place_in o (cast_unsigned w64 i) (λ p.
    Does (Ask (request.Look p)) (with_stack f s))))))
context_calls (call.OnRead t) f = on_long f.stack (λ i s. on_loaded s (λ s. on_ref s (λ o s. on_context s (λ s. place_in o (cast_unsigned w64 i) (λ p.
    Does (Ask (request.Read p t)) (with_stack f s))))))
context_calls (call.OnWrite t) f = on_long f.stack (λ i s. on_word t s (λ v s. on_ref s (λ o s. on_context s (λ s. not_null o (with_stack f s) (place_in o (cast_unsigned w64 i) (λ p.
    Does (Ask (request.Write p (word_of v))) (with_stack f s)))))))
context_calls call.BeforeReadElement f = on_int f.stack (λ i s. on_ref s (λ o s. on_context s (λ s. not_null o (with_stack f s) (Does (Head o (Indexes i element.Look)) (with_stack f s)))))
context_calls (call.OnReadElement t) f = on_int f.stack (λ i s. on_loaded s (λ s. on_ref s (λ o s. on_context s (λ s. element_in o i (λ p.
    Does (Ask (request.Read p t)) (with_stack f s))))))
context_calls (call.OnWriteElement t) f = on_int f.stack (λ i s. on_word t s (λ v s. on_ref s (λ o s. on_context s (λ s. not_null o (with_stack f s)
    (Does (Head o (Indexes i (element.Write v))) (with_stack f s))))))
context_calls call.Commit f = on_context f.stack (λ s. Does (Ask request.Commit) (with_stack f s))
context_calls call.Rollback f = on_context f.stack (λ s. Does (Ask request.Rollback) (with_stack f s))

-- what an instruction does to its frame, and what it asks
abbrev pub does : Program → Op → Frame → Did
does P (op.Constant v) f = leaves f (pushed v f.stack)
does P (op.Text n) f = number_in (slice_get P.texts n) (λ o. leaves f (Ref o ∷ f.stack))
does P (op.Load t i) f = loads t i f
does P (op.Store t i) f = stores t i f
does P (op.Stack r) f = rearranged r f
does P (op.Binary w b) f = on_number w f.stack (λ y s. on_number w s (λ x s. leaves f (numbered w (binary w b x y) s)))
does P (op.Shift w b) f = on_int f.stack (λ y s. on_number w s (λ x s. leaves f (numbered w (shifted w b x (shift_distance w y)) s)))
does P (op.Divide w d) f = on_number w f.stack (λ y s. on_number w s (λ x s. divides (int_eq y (pos 0)) w d x y s f))
does P (op.Unary w u) f = on_number w f.stack (λ x s. leaves f (numbered w (unary w u x) s))
does P (op.Convert c) f = converted c f
does P op.CompareLongs f = on_long f.stack (λ y s. on_long s (λ x s. leaves f (Int (compared x y) ∷ s)))
does P (op.Increment i n) f = slot_in (slice_get f.locals i) (λ v. int_in v (λ x. Does Next (with_locals f (slice_set f.locals i (Int (int_wrapping_add w32 x n))))))
does P (op.Branch t to) f = on_int f.stack (λ x s. branches (holds t x (pos 0)) to (with_stack f s))
does P (op.BranchInts t to) f = on_int f.stack (λ y s. on_int s (λ x s. branches (holds t x y) to (with_stack f s)))
does P (op.BranchNull b to) f = on_ref f.stack (λ o s. branches (same b (nat_eq o 0)) to (with_stack f s))
does P (op.BranchReferences b to) f = on_ref f.stack (λ q s. on_ref s (λ o s. branches (same b (nat_eq o q)) to (with_stack f s)))
does P (op.Goto to) f = Does (Jump to) f
does P (op.Switch other cases) f = on_int f.stack (λ x s. Does (Jump (switched other cases x)) (with_stack f s))
does P (op.GetStatic n) f = static_in (field_at P n) (λ x p. Does (Ask (request.Get p)) f)
does P (op.PutStatic n) f = static_in (field_at P n) (λ x p. on_word x.declared.word f.stack (λ v s. Does (Ask (request.Put p v)) (with_stack f s)))
does P (op.GetField n c) f = field_in (field_at P n) (λ x. on_ref f.stack (λ o s. not_null o (with_stack f s) (Does (Ask (request.Get (inner o x))) (with_stack f s))))
does P (op.PutField n c) f = field_in (field_at P n) (λ x. on_word x.declared.word f.stack (λ v s. on_ref s (λ o s.
    not_null o (with_stack f s) (Does (Ask (request.Put (inner o x) v)) (with_stack f s)))))
does P (op.InvokeStatic m) f = method_in (method_at P m) (λ k. runs (has_code (Some k)) m f)
does P (op.InvokeSpecial m) f = over_object P m f (λ k o. runs (has_code (Some k)) m f)
does P (op.InvokeVirtual m c) f = over_object P m f (λ k o. Does (Head o (Selects m)) f)
does P (op.InvokeInterface m c) f = over_object P m f (λ k o. Does (Head o (Implements m c)) f)
does P (op.InitLibrary c n) f = without n f.stack (λ s. on_ref s (λ o s. leaves f s))
does P (op.New t) f = Does (Make t 0) f
does P (op.NewArray t) f = on_int f.stack (λ n s. sized n t (with_stack f s))
does P op.ArrayLength f = on_ref f.stack (λ o s. not_null o (with_stack f s) (Does (Head o Measures) (with_stack f s)))
does P (op.LoadElement t) f = on_int f.stack (λ i s. on_ref s (λ o s. not_null o (with_stack f s) (Does (Head o (Indexes i element.Load)) (with_stack f s))))
does P (op.StoreElement t) f = on_value (sort_of t) f.stack (λ v s. on_int s (λ i s. on_ref s (λ o s. not_null o (with_stack f s) (Does (Head o (Indexes i (element.Store v))) (with_stack f s)))))
does P (op.CheckCast c) f = on_ref f.stack (λ o s. if_object o (Does Next f) (Does (Head o (Casts c)) f))
does P (op.InstanceOf c) f = on_ref f.stack (λ o s. if_object o (leaves f (Int (pos 0) ∷ s)) (Does (Head o (Tests c)) (with_stack f s)))
does P op.Return f = Does (Give None) f
does P (op.ReturnValue t) f = on_value t f.stack (λ v s. Does (Give (Some v)) (with_stack f s))
does P op.Throw f = on_ref f.stack (λ o s. not_null o (with_stack f s) (throws (is_counted P f.method) o (with_stack f s)))
does P op.GetContext f = leaves f (Context ∷ f.stack)
does P (op.Context c) f = context_calls c f

-- what a step leaves to be done, with the frames that it leaves
pub data Asked : Type 0 where
  Asks : (a : Asking) (fs : Frames) → Asked
  Fails : Asked

abbrev pub at : ℕ → Frame → Frame
at pc f = record f { pc = pc }

abbrev pub next : Frame → Frame
next f = at (f.pc + 1) f

pub data Taken : Type 0 where
  Took : (args s : List Slot) → Taken
  TooFew : Taken

-- the topmost slots, the first argument first
abbrev pub take_args : ℕ → List Slot → List Slot → Taken
take_args zero args s = Took args s
take_args (suc n) args [] = TooFew
take_args (suc n) args (v ∷ s) = take_args n (v ∷ args) s

-- a method's first frame
abbrev pub started : ℕ → Method → List Slot → Frame
started m k args = record { method = m; pc = 0; locals = args ++ replicate (k.locals - k.places) Empty; stack = [] }

abbrev pub depth : Program → Frames → ℕ
depth P fs = count_by (λ (f : Frame). is_counted P f.method) fs

-- A jump back in code whose turns count is a turn.
abbrev pub goes : Bool → Frames → Asked
goes true fs = Asks asking.Turn fs
goes false fs = Asks asking.Go fs

abbrev pub jumps : Program → ℕ → Frame → Frames → Asked
jumps P to f fs = goes (is_counted P f.method && nat_le to f.pc) (at to f ∷ fs)

-- at most 200 frames count
abbrev pub enters : Program → Bool → Frames → Asked
enters P true fs = Asks (asking.Enter (nat_lt 200 (depth P fs))) fs
enters P false fs = Asks asking.Go fs

abbrev pub with_args : Program → Taken → ℕ → Method → Frame → Frames → Asked
with_args P TooFew m k f fs = Fails
with_args P (Took args s) m k f fs = enters P k.counted (started m k args ∷ with_stack f s ∷ fs)

abbrev pub invokes : Program → Option Method → ℕ → Frame → Frames → Asked
invokes P None m f fs = Fails
invokes P (Some k) m f fs = with_args P (take_args k.places [] f.stack) m k f fs

-- a new exception is thrown
abbrev pub trapped : Trapping → Frames → Asked
trapped t fs = Asks (asking.Make (trap_type t) 0 Raised) fs

-- the method that was found for a call is entered; where there is none, the call throws
abbrev pub found : Program → Option ℕ → Frame → Frames → Asked
found P None f fs = trapped AbstractMethod (f ∷ fs)
found P (Some m) f fs = invokes P (method_at P m) m f fs

abbrev pub received : Option Value → Frame → Frame
received None f = f
received (Some v) f = with_stack f (pushed v f.stack)

abbrev pub gives : Option Value → Frames → Asked
gives v [] = Asks (asking.Return v) []
gives v (f ∷ fs) = Asks asking.Go (next (received v f) ∷ fs)

-- Whether an entry takes exceptions of a type. The transaction's conflict is that of type 0.
abbrev pub takes : Program → Catches → ℕ → Bool
takes P Conflict t = nat_eq t 0
takes P Any t = true
takes P (Of c) t = is_instance P t c

-- the first entry that takes an exception at a place
abbrev pub find_catch : Program → List Catch → ℕ → ℕ → Option ℕ
find_catch P [] pc t = None
find_catch P (c ∷ cs) pc t =
    if nat_le c.from pc && nat_lt pc c.to && takes P c.catches t then Some c.at else find_catch P cs pc t

abbrev pub catch_at : Program → ℕ → ℕ → ℕ → Option ℕ
catch_at P m pc t = option_and_then (λ (k : Method). find_catch P k.catches pc t) (method_at P m)

abbrev pub caught : Program → Option ℕ → ℕ → Frame → Frames → Asked → Asked
caught P None exception f fs others = others
caught P (Some to) exception f fs others = jumps P to (with_stack f (Ref exception ∷ [])) fs

-- the innermost frame with a matching entry takes the exception, which is of a type
abbrev pub unwinds : Program → ℕ → ℕ → Frames → Asked
unwinds P exception t [] = Asks (asking.Throw exception) []
unwinds P exception t (f ∷ fs) = caught P (catch_at P f.method f.pc t) exception f fs (unwinds P exception t fs)

abbrev pub on_doing : Program → Doing → Frame → Frames → Asked
on_doing P Next f fs = Asks asking.Go (next f ∷ fs)
on_doing P (Jump to) f fs = jumps P to f fs
on_doing P (Invoke m) f fs = invokes P (method_at P m) m f fs
on_doing P (Give v) f fs = gives v fs
on_doing P (Throw o) f fs = unwinds P o 0 (f ∷ fs)
on_doing P (Raise o) f fs = Asks (asking.Raise o) (f ∷ fs)
on_doing P (Trap t) f fs = trapped t (f ∷ fs)
on_doing P (Make t n) f fs = Asks (asking.Make t n Pushed) (f ∷ fs)
on_doing P (Head o u) f fs = Asks (asking.Head o u) (f ∷ fs)
on_doing P (Ask r) f fs = Asks (asking.Ask r) (f ∷ fs)

abbrev pub on_did : Program → Did → Frames → Asked
on_did P Wrong fs = Fails
on_did P (Does d f) fs = on_doing P d f fs

abbrev pub acts : Program → Option Op → Frame → Frames → Asked
acts P None f fs = Fails
acts P (Some o) f fs = on_did P (does P o f) fs

abbrev pub step : Program → Frames → Asked
step P [] = Fails
step P (f ∷ fs) = acts P (op_at P f.method f.pc) f fs

-- the instruction that asked goes on, with a slot on its stack where it waited for one
abbrev pub advanced : Frames → Frames
advanced [] = []
advanced (f ∷ fs) = next f ∷ fs

abbrev pub resumed : List Slot → Frames → Frames
resumed vs [] = []
resumed vs (f ∷ fs) = next (with_stack f (vs ++ f.stack)) ∷ fs

-- ---- what goes on by the header of an object: by its type, and its length

abbrev pub truth : Bool → Slot
truth true = Int (pos 1)
truth false = Int (pos 0)

abbrev pub or_trap : Bool → Trapping → Frames → Asked → Asked
or_trap true t fs a = a
or_trap false t fs a = trapped t fs

-- the method that was selected for a call is entered from the frame that called
abbrev pub enters_found : Program → Option ℕ → Frames → Asked
enters_found P m [] = Fails
enters_found P m (f ∷ fs) = found P m f fs

abbrev pub in_bounds : ℤ → ℕ → Bool
in_bounds (pos i) n = nat_lt i n
in_bounds (negsuc i) n = false

-- an element is read, written, looked at or written by the transaction
abbrev pub accesses : Place → Element → Frames → Asked
accesses p element.Load fs = Asks (asking.Ask (request.Get p)) fs
accesses p (element.Store v) fs = Asks (asking.Ask (request.Put p v)) fs
accesses p element.Look fs = Asks (asking.Ask (request.Look p)) fs
accesses p (element.Write v) fs = Asks (asking.Ask (request.Write p (word_of v))) fs

-- a reference that is stored, and isn't null, is asked for its own header
abbrev pub fitted : ℕ → Place → Element → Value → Frames → Asked
fitted a p e (value.Ref (suc o)) fs = Asks (asking.Head (suc o) (Fits a p e)) fs
fitted a p e v fs = accesses p e fs

abbrev pub stored : ℕ → Place → Element → Frames → Asked
stored a p (element.Store v) fs = fitted a p (element.Store v) v fs
stored a p (element.Write v) fs = fitted a p (element.Write v) v fs
stored a p e fs = accesses p e fs

-- what an array keeps of a stored value
abbrev pub kept_in : Option Row → Element → Element
kept_in (Some r) (element.Store v) = by r.holds
  where
    by : Holds → Element
    by (Elements d name) = element.Store (kept_by d.word v)
    by (Words ds) = element.Store v
kept_in r e = e

-- the name of the class of an array's elements
abbrev pub element_name : Option Row → List ℕ
element_name None = []
element_name (Some r) = by r.holds
  where
    by : Holds → List ℕ
    by (Elements d name) = name
    by (Words ds) = []

abbrev pub element_place : ℕ → ℤ → Place
element_place o (pos i) = record { object = o; index = suc i }
element_place o (negsuc i) = record { object = o; index = 0 }

-- an element's address has 64 bits
abbrev pub has_address : Place → Bool
has_address p = nat_lt (p.object + p.index) (2 ^ 64)

abbrev pub if_addressed : Bool → Asked → Asked
if_addressed true a = a
if_addressed false a = Fails

-- The object o is of type t, and of length n where it is an array.
abbrev pub told : Program → Use → (o t n : ℕ) → Frames → Asked
told P (Selects m) o t n fs = enters_found P (selected P t m) fs
told P (Implements m c) o t n fs = or_trap (is_instance P t c) IncompatibleClassChange fs (enters_found P (selected P t m) fs)
told P (Casts c) o t n fs = or_trap (is_instance P t c) ClassCast fs (Asks asking.Go (advanced fs))
told P (Tests c) o t n fs = Asks asking.Go (resumed (truth (is_instance P t c) ∷ []) fs)
told P Measures o t n fs = Asks asking.Go (resumed (Int (pos n) ∷ []) fs)
told P (Indexes i e) o t n fs = or_trap (in_bounds i n) ArrayIndex fs (if_addressed (has_address (element_place o i)) (stored t (element_place o i) (kept_in (row_at P t) e) fs))
told P (Fits a p e) o t n fs = or_trap (is_instance P t (element_name (row_at P a))) ArrayStore fs (accesses p e fs)
