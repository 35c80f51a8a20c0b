-- What stands for an instruction that is of none of some kinds.
use Rattle.std.proofs.Common.{◌≡◌, ℕ, List, [], ◌∷◌, Option, Bool, refl}
use Rattle.std.specs.Prelude.{ℤ}
use Rattle.objects.specs.declared.op.Sort.{Sort}
use Rattle.objects.specs.declared.op.Test.{Test}
use Rattle.objects.specs.declared.op.WordType.{WordType}
use Rattle.objects.specs.declared.op.Op.{Op}
use Rattle.objects.specs.declared.op.Op.TheVariants as op
use Rattle.objects.specs.semantics.Program.{Program}
use Rattle.objects.specs.typing.Typing.{Types}
use Rattle.program_rewriter.specs.Copied.{frame_copy, jump_copy, heap_copy, owned_copy}
use Rattle.program_rewriter.specs.Blocks.{moved_op, access_block, call_block}

-- one that goes nowhere
pub jump_rest : (o : Op)
    → ((t : Test) (to : ℕ) → o ≡ op.Branch t to → ⊥)
    → ((t : Test) (to : ℕ) → o ≡ op.BranchInts t to → ⊥)
    → ((b : Bool) (to : ℕ) → o ≡ op.BranchNull b to → ⊥)
    → ((b : Bool) (to : ℕ) → o ≡ op.BranchReferences b to → ⊥)
    → ((to : ℕ) → o ≡ op.Goto to → ⊥)
    → ((m : ℕ) → o ≡ op.InvokeStatic m → ⊥)
    → ((m : ℕ) → o ≡ op.InvokeSpecial m → ⊥)
    → ((s : Sort) → o ≡ op.ReturnValue s → ⊥)
    → frame_copy o ≡ jump_copy o
jump_rest (op.Constant v) _ _ _ _ _ _ _ _ = refl
jump_rest (op.Text n) _ _ _ _ _ _ _ _ = refl
jump_rest (op.Load s i) _ _ _ _ _ _ _ _ = refl
jump_rest (op.Store s i) _ _ _ _ _ _ _ _ = refl
jump_rest (op.Stack r) _ _ _ _ _ _ _ _ = refl
jump_rest (op.Binary w b) _ _ _ _ _ _ _ _ = refl
jump_rest (op.Shift w b) _ _ _ _ _ _ _ _ = refl
jump_rest (op.Divide w d) _ _ _ _ _ _ _ _ = refl
jump_rest (op.Unary w u) _ _ _ _ _ _ _ _ = refl
jump_rest (op.Convert c) _ _ _ _ _ _ _ _ = refl
jump_rest op.CompareLongs _ _ _ _ _ _ _ _ = refl
jump_rest (op.Increment i n) _ _ _ _ _ _ _ _ = refl
jump_rest (op.Branch t to) n0 _ _ _ _ _ _ _ = absurd (n0 t to refl)
jump_rest (op.BranchInts t to) _ n1 _ _ _ _ _ _ = absurd (n1 t to refl)
jump_rest (op.BranchNull b to) _ _ n2 _ _ _ _ _ = absurd (n2 b to refl)
jump_rest (op.BranchReferences b to) _ _ _ n3 _ _ _ _ = absurd (n3 b to refl)
jump_rest (op.Goto to) _ _ _ _ n4 _ _ _ = absurd (n4 to refl)
jump_rest (op.Switch other cases) _ _ _ _ _ _ _ _ = refl
jump_rest (op.GetStatic f) _ _ _ _ _ _ _ _ = refl
jump_rest (op.PutStatic f) _ _ _ _ _ _ _ _ = refl
jump_rest (op.GetField f c) _ _ _ _ _ _ _ _ = refl
jump_rest (op.PutField f c) _ _ _ _ _ _ _ _ = refl
jump_rest (op.InvokeStatic m) _ _ _ _ _ n5 _ _ = absurd (n5 m refl)
jump_rest (op.InvokeSpecial m) _ _ _ _ _ _ n6 _ = absurd (n6 m refl)
jump_rest (op.InvokeVirtual m c) _ _ _ _ _ _ _ _ = refl
jump_rest (op.InvokeInterface m c) _ _ _ _ _ _ _ _ = refl
jump_rest (op.InitLibrary c n) _ _ _ _ _ _ _ _ = refl
jump_rest (op.New t) _ _ _ _ _ _ _ _ = refl
jump_rest (op.NewArray t) _ _ _ _ _ _ _ _ = refl
jump_rest op.ArrayLength _ _ _ _ _ _ _ _ = refl
jump_rest (op.LoadElement t) _ _ _ _ _ _ _ _ = refl
jump_rest (op.StoreElement t) _ _ _ _ _ _ _ _ = refl
jump_rest (op.CheckCast c) _ _ _ _ _ _ _ _ = refl
jump_rest (op.InstanceOf c) _ _ _ _ _ _ _ _ = refl
jump_rest op.Return _ _ _ _ _ _ _ _ = refl
jump_rest (op.ReturnValue s) _ _ _ _ _ _ _ n7 = absurd (n7 s refl)
jump_rest op.Throw _ _ _ _ _ _ _ _ = refl
jump_rest op.GetContext _ _ _ _ _ _ _ _ = refl
jump_rest (op.Context c) _ _ _ _ _ _ _ _ = refl

-- one that isn't of the heap
pub heap_rest : (o : Op)
    → ((f : ℕ) → o ≡ op.GetStatic f → ⊥)
    → ((f : ℕ) → o ≡ op.PutStatic f → ⊥)
    → ((t : ℕ) → o ≡ op.New t → ⊥)
    → ((t : ℕ) → o ≡ op.NewArray t → ⊥)
    → (o ≡ op.ArrayLength → ⊥)
    → ((t : WordType) → o ≡ op.LoadElement t → ⊥)
    → ((t : WordType) → o ≡ op.StoreElement t → ⊥)
    → jump_copy o ≡ heap_copy o
heap_rest (op.Constant v) _ _ _ _ _ _ _ = refl
heap_rest (op.Text n) _ _ _ _ _ _ _ = refl
heap_rest (op.Load s i) _ _ _ _ _ _ _ = refl
heap_rest (op.Store s i) _ _ _ _ _ _ _ = refl
heap_rest (op.Stack r) _ _ _ _ _ _ _ = refl
heap_rest (op.Binary w b) _ _ _ _ _ _ _ = refl
heap_rest (op.Shift w b) _ _ _ _ _ _ _ = refl
heap_rest (op.Divide w d) _ _ _ _ _ _ _ = refl
heap_rest (op.Unary w u) _ _ _ _ _ _ _ = refl
heap_rest (op.Convert c) _ _ _ _ _ _ _ = refl
heap_rest op.CompareLongs _ _ _ _ _ _ _ = refl
heap_rest (op.Increment i n) _ _ _ _ _ _ _ = refl
heap_rest (op.Branch t to) _ _ _ _ _ _ _ = refl
heap_rest (op.BranchInts t to) _ _ _ _ _ _ _ = refl
heap_rest (op.BranchNull b to) _ _ _ _ _ _ _ = refl
heap_rest (op.BranchReferences b to) _ _ _ _ _ _ _ = refl
heap_rest (op.Goto to) _ _ _ _ _ _ _ = refl
heap_rest (op.Switch other cases) _ _ _ _ _ _ _ = refl
heap_rest (op.GetStatic f) n0 _ _ _ _ _ _ = absurd (n0 f refl)
heap_rest (op.PutStatic f) _ n1 _ _ _ _ _ = absurd (n1 f refl)
heap_rest (op.GetField f c) _ _ _ _ _ _ _ = refl
heap_rest (op.PutField f c) _ _ _ _ _ _ _ = refl
heap_rest (op.InvokeStatic m) _ _ _ _ _ _ _ = refl
heap_rest (op.InvokeSpecial m) _ _ _ _ _ _ _ = refl
heap_rest (op.InvokeVirtual m c) _ _ _ _ _ _ _ = refl
heap_rest (op.InvokeInterface m c) _ _ _ _ _ _ _ = refl
heap_rest (op.InitLibrary c n) _ _ _ _ _ _ _ = refl
heap_rest (op.New t) _ _ n2 _ _ _ _ = absurd (n2 t refl)
heap_rest (op.NewArray t) _ _ _ n3 _ _ _ = absurd (n3 t refl)
heap_rest op.ArrayLength _ _ _ _ n4 _ _ = absurd (n4 refl)
heap_rest (op.LoadElement t) _ _ _ _ _ n5 _ = absurd (n5 t refl)
heap_rest (op.StoreElement t) _ _ _ _ _ _ n6 = absurd (n6 t refl)
heap_rest (op.CheckCast c) _ _ _ _ _ _ _ = refl
heap_rest (op.InstanceOf c) _ _ _ _ _ _ _ = refl
heap_rest op.Return _ _ _ _ _ _ _ = refl
heap_rest (op.ReturnValue s) _ _ _ _ _ _ _ = refl
heap_rest op.Throw _ _ _ _ _ _ _ = refl
heap_rest op.GetContext _ _ _ _ _ _ _ = refl
heap_rest (op.Context c) _ _ _ _ _ _ _ = refl

-- one that names no class
pub owned_rest : (o : Op)
    → ((other : ℕ) (cases : List (ℤ × ℕ)) → o ≡ op.Switch other cases → ⊥)
    → ((f : ℕ) (c : List ℕ) → o ≡ op.GetField f c → ⊥)
    → ((f : ℕ) (c : List ℕ) → o ≡ op.PutField f c → ⊥)
    → ((m : ℕ) (c : List ℕ) → o ≡ op.InvokeVirtual m c → ⊥)
    → ((m : ℕ) (c : List ℕ) → o ≡ op.InvokeInterface m c → ⊥)
    → ((c : List ℕ) (n : ℕ) → o ≡ op.InitLibrary c n → ⊥)
    → ((c : List ℕ) → o ≡ op.CheckCast c → ⊥)
    → ((c : List ℕ) → o ≡ op.InstanceOf c → ⊥)
    → heap_copy o ≡ owned_copy o
owned_rest (op.Constant v) _ _ _ _ _ _ _ _ = refl
owned_rest (op.Text n) _ _ _ _ _ _ _ _ = refl
owned_rest (op.Load s i) _ _ _ _ _ _ _ _ = refl
owned_rest (op.Store s i) _ _ _ _ _ _ _ _ = refl
owned_rest (op.Stack r) _ _ _ _ _ _ _ _ = refl
owned_rest (op.Binary w b) _ _ _ _ _ _ _ _ = refl
owned_rest (op.Shift w b) _ _ _ _ _ _ _ _ = refl
owned_rest (op.Divide w d) _ _ _ _ _ _ _ _ = refl
owned_rest (op.Unary w u) _ _ _ _ _ _ _ _ = refl
owned_rest (op.Convert c) _ _ _ _ _ _ _ _ = refl
owned_rest op.CompareLongs _ _ _ _ _ _ _ _ = refl
owned_rest (op.Increment i n) _ _ _ _ _ _ _ _ = refl
owned_rest (op.Branch t to) _ _ _ _ _ _ _ _ = refl
owned_rest (op.BranchInts t to) _ _ _ _ _ _ _ _ = refl
owned_rest (op.BranchNull b to) _ _ _ _ _ _ _ _ = refl
owned_rest (op.BranchReferences b to) _ _ _ _ _ _ _ _ = refl
owned_rest (op.Goto to) _ _ _ _ _ _ _ _ = refl
owned_rest (op.Switch other cases) n0 _ _ _ _ _ _ _ = absurd (n0 other cases refl)
owned_rest (op.GetStatic f) _ _ _ _ _ _ _ _ = refl
owned_rest (op.PutStatic f) _ _ _ _ _ _ _ _ = refl
owned_rest (op.GetField f c) _ n1 _ _ _ _ _ _ = absurd (n1 f c refl)
owned_rest (op.PutField f c) _ _ n2 _ _ _ _ _ = absurd (n2 f c refl)
owned_rest (op.InvokeStatic m) _ _ _ _ _ _ _ _ = refl
owned_rest (op.InvokeSpecial m) _ _ _ _ _ _ _ _ = refl
owned_rest (op.InvokeVirtual m c) _ _ _ n3 _ _ _ _ = absurd (n3 m c refl)
owned_rest (op.InvokeInterface m c) _ _ _ _ n4 _ _ _ = absurd (n4 m c refl)
owned_rest (op.InitLibrary c n) _ _ _ _ _ n5 _ _ = absurd (n5 c n refl)
owned_rest (op.New t) _ _ _ _ _ _ _ _ = refl
owned_rest (op.NewArray t) _ _ _ _ _ _ _ _ = refl
owned_rest op.ArrayLength _ _ _ _ _ _ _ _ = refl
owned_rest (op.LoadElement t) _ _ _ _ _ _ _ _ = refl
owned_rest (op.StoreElement t) _ _ _ _ _ _ _ _ = refl
owned_rest (op.CheckCast c) _ _ _ _ _ _ n6 _ = absurd (n6 c refl)
owned_rest (op.InstanceOf c) _ _ _ _ _ _ _ n7 = absurd (n7 c refl)
owned_rest op.Return _ _ _ _ _ _ _ _ = refl
owned_rest (op.ReturnValue s) _ _ _ _ _ _ _ _ = refl
owned_rest op.Throw _ _ _ _ _ _ _ _ = refl
owned_rest op.GetContext _ _ _ _ _ _ _ _ = refl
owned_rest (op.Context c) _ _ _ _ _ _ _ _ = refl

-- one that stays
pub moved_rest : (p most : ℕ) (at : ℕ → ℕ) (o : Op)
    → ((t : Test) (to : ℕ) → o ≡ op.Branch t to → ⊥)
    → ((t : Test) (to : ℕ) → o ≡ op.BranchInts t to → ⊥)
    → ((b : Bool) (to : ℕ) → o ≡ op.BranchNull b to → ⊥)
    → ((b : Bool) (to : ℕ) → o ≡ op.BranchReferences b to → ⊥)
    → ((to : ℕ) → o ≡ op.Goto to → ⊥)
    → ((other : ℕ) (cases : List (ℤ × ℕ)) → o ≡ op.Switch other cases → ⊥)
    → ((s : Sort) (i : ℕ) → o ≡ op.Load s i → ⊥)
    → ((s : Sort) (i : ℕ) → o ≡ op.Store s i → ⊥)
    → ((i : ℕ) (n : ℤ) → o ≡ op.Increment i n → ⊥)
    → o ∷ [] ≡ moved_op p most at o
moved_rest p most at (op.Constant v) _ _ _ _ _ _ _ _ _ = refl
moved_rest p most at (op.Text n) _ _ _ _ _ _ _ _ _ = refl
moved_rest p most at (op.Load s i) _ _ _ _ _ _ n6 _ _ = absurd (n6 s i refl)
moved_rest p most at (op.Store s i) _ _ _ _ _ _ _ n7 _ = absurd (n7 s i refl)
moved_rest p most at (op.Stack r) _ _ _ _ _ _ _ _ _ = refl
moved_rest p most at (op.Binary w b) _ _ _ _ _ _ _ _ _ = refl
moved_rest p most at (op.Shift w b) _ _ _ _ _ _ _ _ _ = refl
moved_rest p most at (op.Divide w d) _ _ _ _ _ _ _ _ _ = refl
moved_rest p most at (op.Unary w u) _ _ _ _ _ _ _ _ _ = refl
moved_rest p most at (op.Convert c) _ _ _ _ _ _ _ _ _ = refl
moved_rest p most at op.CompareLongs _ _ _ _ _ _ _ _ _ = refl
moved_rest p most at (op.Increment i n) _ _ _ _ _ _ _ _ n8 = absurd (n8 i n refl)
moved_rest p most at (op.Branch t to) n0 _ _ _ _ _ _ _ _ = absurd (n0 t to refl)
moved_rest p most at (op.BranchInts t to) _ n1 _ _ _ _ _ _ _ = absurd (n1 t to refl)
moved_rest p most at (op.BranchNull b to) _ _ n2 _ _ _ _ _ _ = absurd (n2 b to refl)
moved_rest p most at (op.BranchReferences b to) _ _ _ n3 _ _ _ _ _ = absurd (n3 b to refl)
moved_rest p most at (op.Goto to) _ _ _ _ n4 _ _ _ _ = absurd (n4 to refl)
moved_rest p most at (op.Switch other cases) _ _ _ _ _ n5 _ _ _ = absurd (n5 other cases refl)
moved_rest p most at (op.GetStatic f) _ _ _ _ _ _ _ _ _ = refl
moved_rest p most at (op.PutStatic f) _ _ _ _ _ _ _ _ _ = refl
moved_rest p most at (op.GetField f c) _ _ _ _ _ _ _ _ _ = refl
moved_rest p most at (op.PutField f c) _ _ _ _ _ _ _ _ _ = refl
moved_rest p most at (op.InvokeStatic m) _ _ _ _ _ _ _ _ _ = refl
moved_rest p most at (op.InvokeSpecial m) _ _ _ _ _ _ _ _ _ = refl
moved_rest p most at (op.InvokeVirtual m c) _ _ _ _ _ _ _ _ _ = refl
moved_rest p most at (op.InvokeInterface m c) _ _ _ _ _ _ _ _ _ = refl
moved_rest p most at (op.InitLibrary c n) _ _ _ _ _ _ _ _ _ = refl
moved_rest p most at (op.New t) _ _ _ _ _ _ _ _ _ = refl
moved_rest p most at (op.NewArray t) _ _ _ _ _ _ _ _ _ = refl
moved_rest p most at op.ArrayLength _ _ _ _ _ _ _ _ _ = refl
moved_rest p most at (op.LoadElement t) _ _ _ _ _ _ _ _ _ = refl
moved_rest p most at (op.StoreElement t) _ _ _ _ _ _ _ _ _ = refl
moved_rest p most at (op.CheckCast c) _ _ _ _ _ _ _ _ _ = refl
moved_rest p most at (op.InstanceOf c) _ _ _ _ _ _ _ _ _ = refl
moved_rest p most at op.Return _ _ _ _ _ _ _ _ _ = refl
moved_rest p most at (op.ReturnValue s) _ _ _ _ _ _ _ _ _ = refl
moved_rest p most at op.Throw _ _ _ _ _ _ _ _ _ = refl
moved_rest p most at op.GetContext _ _ _ _ _ _ _ _ _ = refl
moved_rest p most at (op.Context c) _ _ _ _ _ _ _ _ _ = refl

-- one that reads and writes nothing
pub access_rest : (P : Program) (p most : ℕ) (at : ℕ → ℕ) (h : Option Types) (o : Op)
    → ((f : ℕ) → o ≡ op.GetStatic f → ⊥)
    → ((f : ℕ) (c : List ℕ) → o ≡ op.GetField f c → ⊥)
    → ((f : ℕ) → o ≡ op.PutStatic f → ⊥)
    → ((f : ℕ) (c : List ℕ) → o ≡ op.PutField f c → ⊥)
    → ((t : WordType) → o ≡ op.LoadElement t → ⊥)
    → ((t : WordType) → o ≡ op.StoreElement t → ⊥)
    → moved_op p most at o ≡ access_block P p most at h o
access_rest P p most at h (op.Constant v) _ _ _ _ _ _ = refl
access_rest P p most at h (op.Text n) _ _ _ _ _ _ = refl
access_rest P p most at h (op.Load s i) _ _ _ _ _ _ = refl
access_rest P p most at h (op.Store s i) _ _ _ _ _ _ = refl
access_rest P p most at h (op.Stack r) _ _ _ _ _ _ = refl
access_rest P p most at h (op.Binary w b) _ _ _ _ _ _ = refl
access_rest P p most at h (op.Shift w b) _ _ _ _ _ _ = refl
access_rest P p most at h (op.Divide w d) _ _ _ _ _ _ = refl
access_rest P p most at h (op.Unary w u) _ _ _ _ _ _ = refl
access_rest P p most at h (op.Convert c) _ _ _ _ _ _ = refl
access_rest P p most at h op.CompareLongs _ _ _ _ _ _ = refl
access_rest P p most at h (op.Increment i n) _ _ _ _ _ _ = refl
access_rest P p most at h (op.Branch t to) _ _ _ _ _ _ = refl
access_rest P p most at h (op.BranchInts t to) _ _ _ _ _ _ = refl
access_rest P p most at h (op.BranchNull b to) _ _ _ _ _ _ = refl
access_rest P p most at h (op.BranchReferences b to) _ _ _ _ _ _ = refl
access_rest P p most at h (op.Goto to) _ _ _ _ _ _ = refl
access_rest P p most at h (op.Switch other cases) _ _ _ _ _ _ = refl
access_rest P p most at h (op.GetStatic f) n0 _ _ _ _ _ = absurd (n0 f refl)
access_rest P p most at h (op.PutStatic f) _ _ n2 _ _ _ = absurd (n2 f refl)
access_rest P p most at h (op.GetField f c) _ n1 _ _ _ _ = absurd (n1 f c refl)
access_rest P p most at h (op.PutField f c) _ _ _ n3 _ _ = absurd (n3 f c refl)
access_rest P p most at h (op.InvokeStatic m) _ _ _ _ _ _ = refl
access_rest P p most at h (op.InvokeSpecial m) _ _ _ _ _ _ = refl
access_rest P p most at h (op.InvokeVirtual m c) _ _ _ _ _ _ = refl
access_rest P p most at h (op.InvokeInterface m c) _ _ _ _ _ _ = refl
access_rest P p most at h (op.InitLibrary c n) _ _ _ _ _ _ = refl
access_rest P p most at h (op.New t) _ _ _ _ _ _ = refl
access_rest P p most at h (op.NewArray t) _ _ _ _ _ _ = refl
access_rest P p most at h op.ArrayLength _ _ _ _ _ _ = refl
access_rest P p most at h (op.LoadElement t) _ _ _ _ n4 _ = absurd (n4 t refl)
access_rest P p most at h (op.StoreElement t) _ _ _ _ _ n5 = absurd (n5 t refl)
access_rest P p most at h (op.CheckCast c) _ _ _ _ _ _ = refl
access_rest P p most at h (op.InstanceOf c) _ _ _ _ _ _ = refl
access_rest P p most at h op.Return _ _ _ _ _ _ = refl
access_rest P p most at h (op.ReturnValue s) _ _ _ _ _ _ = refl
access_rest P p most at h op.Throw _ _ _ _ _ _ = refl
access_rest P p most at h op.GetContext _ _ _ _ _ _ = refl
access_rest P p most at h (op.Context c) _ _ _ _ _ _ = refl

-- one that calls nothing
pub call_rest : (P : Program) (p most : ℕ) (at : ℕ → ℕ) (h : Option Types) (o : Op)
    → ((m : ℕ) → o ≡ op.InvokeStatic m → ⊥)
    → ((m : ℕ) → o ≡ op.InvokeSpecial m → ⊥)
    → ((m : ℕ) (c : List ℕ) → o ≡ op.InvokeVirtual m c → ⊥)
    → ((m : ℕ) (c : List ℕ) → o ≡ op.InvokeInterface m c → ⊥)
    → access_block P p most at h o ≡ call_block P p most at h o
call_rest P p most at h (op.Constant v) _ _ _ _ = refl
call_rest P p most at h (op.Text n) _ _ _ _ = refl
call_rest P p most at h (op.Load s i) _ _ _ _ = refl
call_rest P p most at h (op.Store s i) _ _ _ _ = refl
call_rest P p most at h (op.Stack r) _ _ _ _ = refl
call_rest P p most at h (op.Binary w b) _ _ _ _ = refl
call_rest P p most at h (op.Shift w b) _ _ _ _ = refl
call_rest P p most at h (op.Divide w d) _ _ _ _ = refl
call_rest P p most at h (op.Unary w u) _ _ _ _ = refl
call_rest P p most at h (op.Convert c) _ _ _ _ = refl
call_rest P p most at h op.CompareLongs _ _ _ _ = refl
call_rest P p most at h (op.Increment i n) _ _ _ _ = refl
call_rest P p most at h (op.Branch t to) _ _ _ _ = refl
call_rest P p most at h (op.BranchInts t to) _ _ _ _ = refl
call_rest P p most at h (op.BranchNull b to) _ _ _ _ = refl
call_rest P p most at h (op.BranchReferences b to) _ _ _ _ = refl
call_rest P p most at h (op.Goto to) _ _ _ _ = refl
call_rest P p most at h (op.Switch other cases) _ _ _ _ = refl
call_rest P p most at h (op.GetStatic f) _ _ _ _ = refl
call_rest P p most at h (op.PutStatic f) _ _ _ _ = refl
call_rest P p most at h (op.GetField f c) _ _ _ _ = refl
call_rest P p most at h (op.PutField f c) _ _ _ _ = refl
call_rest P p most at h (op.InvokeStatic m) n0 _ _ _ = absurd (n0 m refl)
call_rest P p most at h (op.InvokeSpecial m) _ n1 _ _ = absurd (n1 m refl)
call_rest P p most at h (op.InvokeVirtual m c) _ _ n2 _ = absurd (n2 m c refl)
call_rest P p most at h (op.InvokeInterface m c) _ _ _ n3 = absurd (n3 m c refl)
call_rest P p most at h (op.InitLibrary c n) _ _ _ _ = refl
call_rest P p most at h (op.New t) _ _ _ _ = refl
call_rest P p most at h (op.NewArray t) _ _ _ _ = refl
call_rest P p most at h op.ArrayLength _ _ _ _ = refl
call_rest P p most at h (op.LoadElement t) _ _ _ _ = refl
call_rest P p most at h (op.StoreElement t) _ _ _ _ = refl
call_rest P p most at h (op.CheckCast c) _ _ _ _ = refl
call_rest P p most at h (op.InstanceOf c) _ _ _ _ = refl
call_rest P p most at h op.Return _ _ _ _ = refl
call_rest P p most at h (op.ReturnValue s) _ _ _ _ = refl
call_rest P p most at h op.Throw _ _ _ _ = refl
call_rest P p most at h op.GetContext _ _ _ _ = refl
call_rest P p most at h (op.Context c) _ _ _ _ = refl
