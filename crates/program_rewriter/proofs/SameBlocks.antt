-- A block, by the kinds of instructions in turn, is the block.
use Rattle.std.proofs.Common.{◌≡◌, ℕ, Option, refl}
use Rattle.objects.specs.declared.op.Op.{Op}
use Rattle.objects.specs.declared.op.Op.TheVariants as op
use Rattle.objects.specs.semantics.Program.{Program}
use Rattle.objects.specs.typing.Typing.{Types}
use Rattle.objects.specs.rewriting.Rewriting.{block_of}
use Rattle.program_rewriter.specs.Blocks.{call_block}

pub blocks_are_same : (P : Program) (p most : ℕ) (at : ℕ → ℕ) (h : Option Types) (o : Op) → call_block P p most at h o ≡ block_of P p most at h o
blocks_are_same P p most at h (op.Constant v) = refl
blocks_are_same P p most at h (op.Text n) = refl
blocks_are_same P p most at h (op.Load s i) = refl
blocks_are_same P p most at h (op.Store s i) = refl
blocks_are_same P p most at h (op.Stack r) = refl
blocks_are_same P p most at h (op.Binary w b) = refl
blocks_are_same P p most at h (op.Shift w b) = refl
blocks_are_same P p most at h (op.Divide w d) = refl
blocks_are_same P p most at h (op.Unary w u) = refl
blocks_are_same P p most at h (op.Convert c) = refl
blocks_are_same P p most at h op.CompareLongs = refl
blocks_are_same P p most at h (op.Increment i n) = refl
blocks_are_same P p most at h (op.Branch t to) = refl
blocks_are_same P p most at h (op.BranchInts t to) = refl
blocks_are_same P p most at h (op.BranchNull b to) = refl
blocks_are_same P p most at h (op.BranchReferences b to) = refl
blocks_are_same P p most at h (op.Goto to) = refl
blocks_are_same P p most at h (op.Switch other cases) = refl
blocks_are_same P p most at h (op.GetStatic f) = refl
blocks_are_same P p most at h (op.PutStatic f) = refl
blocks_are_same P p most at h (op.GetField f c) = refl
blocks_are_same P p most at h (op.PutField f c) = refl
blocks_are_same P p most at h (op.InvokeStatic m) = refl
blocks_are_same P p most at h (op.InvokeSpecial m) = refl
blocks_are_same P p most at h (op.InvokeVirtual m c) = refl
blocks_are_same P p most at h (op.InvokeInterface m c) = refl
blocks_are_same P p most at h (op.InitLibrary c n) = refl
blocks_are_same P p most at h (op.New t) = refl
blocks_are_same P p most at h (op.NewArray t) = refl
blocks_are_same P p most at h op.ArrayLength = refl
blocks_are_same P p most at h (op.LoadElement t) = refl
blocks_are_same P p most at h (op.StoreElement t) = refl
blocks_are_same P p most at h (op.CheckCast c) = refl
blocks_are_same P p most at h (op.InstanceOf c) = refl
blocks_are_same P p most at h op.Return = refl
blocks_are_same P p most at h (op.ReturnValue s) = refl
blocks_are_same P p most at h op.Throw = refl
blocks_are_same P p most at h op.GetContext = refl
blocks_are_same P p most at h (op.Context c) = refl
