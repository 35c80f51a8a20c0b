-- What functions of the machine say of an instruction's meaning.
use Rattle.std.specs.Prelude.{◌≡◌, ◌⊎◌, ℕ, ℤ, ◌+◌, ◌<◌, ◌^◌, length, List, [], ◌∷◌, ◌++◌, replicate, Bool, true, false, Result, Ok, Err, Option, Some, None, slice_get}
use Rattle.jmodel.specs.declared.value.Value.{Value}
use Rattle.objects.specs.declared.op.Slot.{Slot}
use Rattle.objects.specs.declared.op.Slot.TheVariants.{Empty, Int}
use Rattle.objects.specs.declared.op.Op.{Op}
use Rattle.objects.specs.declared.op.Op.TheVariants as op
use Rattle.objects.specs.declared.op.Use.{Use}
use Rattle.objects.specs.declared.op.Use.TheVariants.{Indexes, Fits}
use Rattle.objects.specs.declared.op.Element.TheVariants.{Load}
use Rattle.objects.specs.declared.op.Doing.{Doing}
use Rattle.objects.specs.declared.op.Doing.TheVariants as doing
use Rattle.objects.specs.declared.op.Request.{Request}
use Rattle.objects.specs.declared.op.Request.TheVariants.{Look, Read, Write}
use Rattle.objects.specs.declared.op.Asking.{Asking}
use Rattle.objects.specs.declared.op.Asking.TheVariants.{Go, Enter, Return, Throw, Make, Head, Ask}
use Rattle.objects.specs.semantics.Program.{Program, op_at}
use Rattle.objects.specs.semantics.Step.{Did, Does, Wrong, Frame, Frames, Asked, Asks, Fails, Took, TooFew, take_args, on_doing}
use Rattle.machine.specs.declared.failure.Failure.{Failure}
use Rattle.machine.specs.declared.failure.Failure.TheVariants as failure
use Rattle.machine.specs.declared.plain.Flow.{Flow}
use Rattle.machine.specs.declared.plain.Flow.TheVariants as flow
use Rattle.machine.specs.declared.plain.Outcome.{Outcome}
use Rattle.machine.specs.declared.plain.Outcome.TheVariants as outcome
use Rattle.machine.specs.declared.plain.Over.{Over}
use Rattle.machine.specs.declared.plain.Over.TheVariants as over
use Rattle.machine.specs.declared.plain.OverTwo.{OverTwo}
use Rattle.machine.specs.declared.plain.OverTwo.TheVariants as over_two

-- memory may be short at any instruction
abbrev pub Meets : Result Doing Failure → Frame → Did → Type 0
Meets (Ok d) f x = x ≡ Does d f
Meets (Err failure.Wrong) f x = x ≡ Wrong
Meets (Err failure.NoMemory) f x = Unit {0}

-- the same of an instruction in which nothing may have been done; f is the frame after it and g before it
abbrev pub Flows : Result Flow Failure → Frame → Frame → Did → Type 0
Flows (Ok flow.Next) f g x = x ≡ Does doing.Next f
Flows (Ok (flow.Jump to)) f g x = x ≡ Does (doing.Jump to) f
Flows (Ok (flow.Trap t)) f g x = x ≡ Does (doing.Trap t) f
Flows (Ok flow.Other) f g x = f ≡ g
Flows (Err e) f g x = Meets (Err e) f x

-- a frame with an int on its stack that is held beside it
abbrev pub with_int : ℤ → Frame → Frame
with_int x f = record f { stack = Int x ∷ f.stack }

-- What an instruction does, by an outcome: an int, which the frame f holds on its stack, and the next place; or the flow that it gives.
abbrev pub FlowsOn : Result Outcome Failure → Frame → Frame → Did → Type 0
FlowsOn (Ok (outcome.Int x)) f g d = d ≡ Does doing.Next (with_int x f)
FlowsOn (Ok (outcome.Flow w)) f g d = Flows (Ok w) f g d
FlowsOn (Err e) f g d = Meets (Err e) f d

-- the same of an instruction before which this int is held
abbrev pub FlowsOver : Result Over Failure → ℤ → Frame → Frame → Did → Type 0
FlowsOver (Ok (over.Int x)) top f g d = d ≡ Does doing.Next (with_int x f)
FlowsOver (Ok (over.Pair x)) top f g d = d ≡ Does doing.Next (with_int x (with_int top f))
FlowsOver (Ok (over.Flow w)) top f g d = Flows (Ok w) f g d
FlowsOver (Err e) top f g d = Meets (Err e) f d

-- the same of an instruction before which these two ints are held: where nothing was done, the upper one still is
abbrev pub FlowsOverTwo : Result OverTwo Failure → ℤ → ℤ → Frame → Frame → Did → Type 0
FlowsOverTwo (Ok (over_two.Int z)) x y f g d = d ≡ Does doing.Next (with_int z f)
FlowsOverTwo (Ok (over_two.Third z)) x y f g d = d ≡ Does doing.Next (with_int z (with_int y (with_int x f)))
FlowsOverTwo (Ok (over_two.Flow w)) x y f g d = Flows (Ok w) f g d
FlowsOverTwo (Ok over_two.Under) x y f g d = with_int y f ≡ g
FlowsOverTwo (Err e) x y f g d = Meets (Err e) f d

-- the instructions of a method of the program
abbrev pub HasOps : Program → ℕ → List Op → Type 0
HasOps P m ops = (pc : ℕ) → op_at P m pc ≡ slice_get ops pc

-- what is looked for isn't there, whatever would be done with it
abbrev pub Lacks : {K : Type 0} → Failure → (K → Did) → Type 0
Lacks {K} e on = (e ≡ failure.Wrong) × ((k : K) → on k ≡ Wrong)

-- after the last frame none is left
abbrev pub IsAsked : Asking → Frames → Asked → Type 0
IsAsked (Return v) fs x = x ≡ Asks (Return v) []
IsAsked (Throw o) fs x = x ≡ Asks (Throw o) []
IsAsked a fs x = x ≡ Asks a fs

-- memory may be short at any step
abbrev pub IsStep : Result Asking Failure → Frames → Asked → Type 0
IsStep (Ok a) fs x = IsAsked a fs x
IsStep (Err failure.Wrong) fs x = x ≡ Fails
IsStep (Err failure.NoMemory) fs x = Unit {0}

-- what the entering of a method leaves to be done, where it answers whether there are too many frames then
abbrev pub entered_asks : Result (Option Bool) Failure → Result Asking Failure
entered_asks (Ok (Some deep)) = Ok (Enter deep)
entered_asks (Ok None) = Ok Go
entered_asks (Err e) = Err e

-- what a frame leaves to be done that gives this, where there is a caller or none
abbrev pub given_asks : Option Value → Result Bool Failure → Result Asking Failure
given_asks v (Ok true) = Ok Go
given_asks v (Ok false) = Ok (Return v)
given_asks v (Err e) = Err e

-- the place that a request names has an address of 64 bits
abbrev pub HasAddress : Request → Type 0
HasAddress (Look p) = p.object + p.index < 2 ^ 64
HasAddress (Read p t) = p.object + p.index < 2 ^ 64
HasAddress (Write p x) = p.object + p.index < 2 ^ 64
HasAddress q = Unit {0}

-- so has the place of an element
abbrev pub HasPlace : Use → Type 0
HasPlace (Fits a p e) = p.object + p.index < 2 ^ 64
HasPlace u = Unit {0}

abbrev pub CanDo : Doing → Type 0
CanDo (doing.Ask q) = HasAddress q
CanDo (doing.Head o u) = HasPlace u
CanDo d = Unit {0}

-- the instruction after the one that asks has a number
abbrev pub CanAsk : Asking → Frame → Type 0
CanAsk (Ask q) f = HasAddress q × (f.pc + 1 < 2 ^ 64)
CanAsk (Head o u) f = HasPlace u × (f.pc + 1 < 2 ^ 64)
CanAsk (Make t n d) f = f.pc + 1 < 2 ^ 64
CanAsk a f = Unit {0}

-- frames are left
abbrev pub GoesOn : Asking → Type 0
GoesOn (Return v) = ⊥
GoesOn (Throw o) = ⊥
GoesOn a = Unit {0}

-- whether an instruction is a plain load of an element, which reads no header
abbrev pub loads_plain : Use → Bool
loads_plain (Indexes i Load) = true
loads_plain u = false

-- what an instruction leaves to be done, seen from the step
abbrev pub IsDone : Program → Result Doing Failure → Frame → Frames → Asked → Type 0
IsDone P (Ok d) f fs x = x ≡ on_doing P d f fs
IsDone P (Err failure.Wrong) f fs x = x ≡ Fails
IsDone P (Err failure.NoMemory) f fs x = Unit {0}

-- the same of an instruction in which nothing may have been done
abbrev pub IsFlow : Program → Result Flow Failure → Frame → Frame → Frames → Asked → Type 0
IsFlow P (Ok flow.Next) f g fs x = x ≡ on_doing P doing.Next f fs
IsFlow P (Ok (flow.Jump to)) f g fs x = x ≡ on_doing P (doing.Jump to) f fs
IsFlow P (Ok (flow.Trap t)) f g fs x = x ≡ on_doing P (doing.Trap t) f fs
IsFlow P (Ok flow.Other) f g fs x = f ≡ g
IsFlow P (Err e) f g fs x = IsDone P (Err e) f fs x

-- What an instruction leaves to be done, by an outcome, seen from the step: the next place, with an int on the stack of the frame f; or its flow.
abbrev pub IsOutcome : Program → Result Outcome Failure → Frame → Frame → Frames → Asked → Type 0
IsOutcome P (Ok (outcome.Int i)) f g fs x = x ≡ on_doing P doing.Next (with_int i f) fs
IsOutcome P (Ok (outcome.Flow w)) f g fs x = IsFlow P (Ok w) f g fs x
IsOutcome P (Err e) f g fs x = IsDone P (Err e) f fs x

-- the same of an instruction before which this int is held
abbrev pub IsOver : Program → Result Over Failure → ℤ → Frame → Frame → Frames → Asked → Type 0
IsOver P (Ok (over.Int i)) top f g fs x = x ≡ on_doing P doing.Next (with_int i f) fs
IsOver P (Ok (over.Pair i)) top f g fs x = x ≡ on_doing P doing.Next (with_int i (with_int top f)) fs
IsOver P (Ok (over.Flow w)) top f g fs x = IsFlow P (Ok w) f g fs x
IsOver P (Err e) top f g fs x = IsDone P (Err e) f fs x

-- the same of an instruction before which these two ints are held
abbrev pub IsOverTwo : Program → Result OverTwo Failure → ℤ → ℤ → Frame → Frame → Frames → Asked → Type 0
IsOverTwo P (Ok (over_two.Int z)) x y f g fs d = d ≡ on_doing P doing.Next (with_int z f) fs
IsOverTwo P (Ok (over_two.Third z)) x y f g fs d = d ≡ on_doing P doing.Next (with_int z (with_int y (with_int x f))) fs
IsOverTwo P (Ok (over_two.Flow w)) x y f g fs d = IsFlow P (Ok w) f g fs d
IsOverTwo P (Ok over_two.Under) x y f g fs d = with_int y f ≡ g
IsOverTwo P (Err e) x y f g fs d = IsDone P (Err e) f fs d

-- an instruction that never goes on to the one behind it
abbrev pub NeverGoesOn : Op → Type 0
NeverGoesOn op.Return = Unit {0}
NeverGoesOn (op.ReturnValue s) = Unit {0}
NeverGoesOn op.Throw = Unit {0}
NeverGoesOn (op.Goto to) = Unit {0}
NeverGoesOn x = ⊥

-- behind each instruction is another, but for those that never go on
abbrev pub IsClosed : List Op → Type 0
IsClosed ops = (pc : ℕ) (o : Op) → slice_get ops pc ≡ Some o → (pc + 1 < length ops) ⊎ NeverGoesOn o

-- what doesn't lead to the next instruction
abbrev pub StopsFlow : Flow → Type 0
StopsFlow flow.Next = ⊥
StopsFlow w = Unit {0}

abbrev pub Stops : Outcome → Type 0
Stops (outcome.Int x) = ⊥
Stops (outcome.Flow w) = StopsFlow w

abbrev pub StopsOver : Over → Type 0
StopsOver (over.Int x) = ⊥
StopsOver (over.Pair x) = ⊥
StopsOver (over.Flow w) = StopsFlow w

abbrev pub StopsOverTwo : OverTwo → Type 0
StopsOverTwo (over_two.Int x) = ⊥
StopsOverTwo (over_two.Third x) = ⊥
StopsOverTwo (over_two.Flow w) = StopsFlow w
StopsOverTwo over_two.Under = Unit {0}

-- the next instruction is one of so many, if it is led to
abbrev pub HasNext : ℕ → ℕ → Flow → Type 0
HasNext n pc flow.Next = pc + 1 < n
HasNext n pc w = Unit {0}

abbrev pub HasNextOn : ℕ → ℕ → Outcome → Type 0
HasNextOn n pc (outcome.Int x) = pc + 1 < n
HasNextOn n pc (outcome.Flow w) = HasNext n pc w

abbrev pub HasNextOver : ℕ → ℕ → Over → Type 0
HasNextOver n pc (over.Int x) = pc + 1 < n
HasNextOver n pc (over.Pair x) = pc + 1 < n
HasNextOver n pc (over.Flow w) = HasNext n pc w

abbrev pub HasNextOverTwo : ℕ → ℕ → OverTwo → Type 0
HasNextOverTwo n pc (over_two.Int x) = pc + 1 < n
HasNextOverTwo n pc (over_two.Third x) = pc + 1 < n
HasNextOverTwo n pc (over_two.Flow w) = HasNext n pc w
HasNextOverTwo n pc over_two.Under = Unit {0}

-- the same behind instructions, where one goes on with an int held
abbrev pub FlowHasNext : ℕ → ℕ → Outcome → Type 0
FlowHasNext n pc (outcome.Int x) = Unit {0}
FlowHasNext n pc (outcome.Flow w) = HasNext n pc w

-- a frame at the start of a method, whose arguments were taken from the slots s and left s'
abbrev pub IsEntered : ℕ → ℕ → ℕ → List Slot → List Slot → Frame → Result (Unit {0}) Failure → Type 0
IsEntered m places more s s' f (Ok u) = (args : List Slot) × (take_args places [] s ≡ Took args s') × (f ≡ record { method = m; pc = 0; locals = args ++ replicate more Empty; stack = [] })
IsEntered m places more s s' f (Err failure.Wrong) = take_args places [] s ≡ TooFew
IsEntered m places more s s' f (Err failure.NoMemory) = Unit {0}

-- instructions that call methods, or are of objects and arrays
abbrev pub IsOfObjects : Op → Type 0
IsOfObjects (op.InvokeStatic m) = Unit {0}
IsOfObjects (op.InvokeSpecial m) = Unit {0}
IsOfObjects (op.InvokeVirtual m c) = Unit {0}
IsOfObjects (op.InvokeInterface m c) = Unit {0}
IsOfObjects (op.InitLibrary c n) = Unit {0}
IsOfObjects (op.New t) = Unit {0}
IsOfObjects (op.NewArray t) = Unit {0}
IsOfObjects op.ArrayLength = Unit {0}
IsOfObjects (op.LoadElement t) = Unit {0}
IsOfObjects (op.StoreElement t) = Unit {0}
IsOfObjects (op.CheckCast c) = Unit {0}
IsOfObjects (op.InstanceOf c) = Unit {0}
IsOfObjects op.Throw = Unit {0}
IsOfObjects o = ⊥
