-- A copy of an instruction, by the kinds of instructions in turn, is the instruction.
use Rattle.std.proofs.Common.{◌≡◌, refl}
use Rattle.objects.specs.declared.op.Op.{Op}
use Rattle.objects.specs.declared.op.Op.TheVariants as op
use Rattle.program_rewriter.specs.Copied.{owned_copy}

pub copy_is_same : (o : Op) → owned_copy o ≡ o
copy_is_same (op.Constant v) = refl
copy_is_same (op.Text n) = refl
copy_is_same (op.Load s i) = refl
copy_is_same (op.Store s i) = refl
copy_is_same (op.Stack r) = refl
copy_is_same (op.Binary w b) = refl
copy_is_same (op.Shift w b) = refl
copy_is_same (op.Divide w d) = refl
copy_is_same (op.Unary w u) = refl
copy_is_same (op.Convert c) = refl
copy_is_same op.CompareLongs = refl
copy_is_same (op.Increment i n) = refl
copy_is_same (op.Branch t to) = refl
copy_is_same (op.BranchInts t to) = refl
copy_is_same (op.BranchNull b to) = refl
copy_is_same (op.BranchReferences b to) = refl
copy_is_same (op.Goto to) = refl
copy_is_same (op.Switch other cases) = refl
copy_is_same (op.GetStatic f) = refl
copy_is_same (op.PutStatic f) = refl
copy_is_same (op.GetField f c) = refl
copy_is_same (op.PutField f c) = refl
copy_is_same (op.InvokeStatic m) = refl
copy_is_same (op.InvokeSpecial m) = refl
copy_is_same (op.InvokeVirtual m c) = refl
copy_is_same (op.InvokeInterface m c) = refl
copy_is_same (op.InitLibrary c n) = refl
copy_is_same (op.New t) = refl
copy_is_same (op.NewArray t) = refl
copy_is_same op.ArrayLength = refl
copy_is_same (op.LoadElement t) = refl
copy_is_same (op.StoreElement t) = refl
copy_is_same (op.CheckCast c) = refl
copy_is_same (op.InstanceOf c) = refl
copy_is_same op.Return = refl
copy_is_same (op.ReturnValue s) = refl
copy_is_same op.Throw = refl
copy_is_same op.GetContext = refl
copy_is_same (op.Context c) = refl
