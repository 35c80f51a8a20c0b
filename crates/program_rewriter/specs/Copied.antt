-- An instruction once more, by the kinds of instructions in turn.
use Rattle.objects.specs.declared.op.Op.{Op}
use Rattle.objects.specs.declared.op.Op.TheVariants as op

-- one that is of its frame alone
abbrev pub frame_copy : Op → Op
frame_copy (op.Constant v) = op.Constant v
frame_copy (op.Text n) = op.Text n
frame_copy (op.Load s i) = op.Load s i
frame_copy (op.Store s i) = op.Store s i
frame_copy (op.Stack r) = op.Stack r
frame_copy (op.Binary w b) = op.Binary w b
frame_copy (op.Shift w b) = op.Shift w b
frame_copy (op.Divide w d) = op.Divide w d
frame_copy (op.Unary w u) = op.Unary w u
frame_copy (op.Convert c) = op.Convert c
frame_copy op.CompareLongs = op.CompareLongs
frame_copy (op.Increment i n) = op.Increment i n
frame_copy op.GetContext = op.GetContext
frame_copy (op.Context c) = op.Context c
frame_copy op.Throw = op.Throw
frame_copy o = op.Return

-- one that goes to another place, or to another method by its number
abbrev pub jump_copy : Op → Op
jump_copy (op.Branch t to) = op.Branch t to
jump_copy (op.BranchInts t to) = op.BranchInts t to
jump_copy (op.BranchNull b to) = op.BranchNull b to
jump_copy (op.BranchReferences b to) = op.BranchReferences b to
jump_copy (op.Goto to) = op.Goto to
jump_copy (op.InvokeStatic m) = op.InvokeStatic m
jump_copy (op.InvokeSpecial m) = op.InvokeSpecial m
jump_copy (op.ReturnValue s) = op.ReturnValue s
jump_copy o = frame_copy o

-- one that is of the heap
abbrev pub heap_copy : Op → Op
heap_copy (op.GetStatic f) = op.GetStatic f
heap_copy (op.PutStatic f) = op.PutStatic f
heap_copy (op.New t) = op.New t
heap_copy (op.NewArray t) = op.NewArray t
heap_copy op.ArrayLength = op.ArrayLength
heap_copy (op.LoadElement t) = op.LoadElement t
heap_copy (op.StoreElement t) = op.StoreElement t
heap_copy o = jump_copy o

-- one that names a class, or has cases
abbrev pub owned_copy : Op → Op
owned_copy (op.Switch other cases) = op.Switch other cases
owned_copy (op.GetField f c) = op.GetField f c
owned_copy (op.PutField f c) = op.PutField f c
owned_copy (op.InvokeVirtual m c) = op.InvokeVirtual m c
owned_copy (op.InvokeInterface m c) = op.InvokeInterface m c
owned_copy (op.InitLibrary c n) = op.InitLibrary c n
owned_copy (op.CheckCast c) = op.CheckCast c
owned_copy (op.InstanceOf c) = op.InstanceOf c
owned_copy o = heap_copy o
