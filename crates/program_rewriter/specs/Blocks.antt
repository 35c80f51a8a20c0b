-- What stands in a duplicate for an instruction, by the kinds of instructions in turn.
use Rattle.std.specs.Prelude.{ℕ, suc, ◌+◌, List, [], ◌∷◌, ◌++◌, Option}
use Rattle.objects.specs.declared.op.Sort.TheVariants as sort
use Rattle.objects.specs.declared.op.Op.{Op}
use Rattle.objects.specs.declared.op.Op.TheVariants as op
use Rattle.objects.specs.semantics.Program.{Program}
use Rattle.objects.specs.typing.Typing.{Types, Table, types_at}
use Rattle.objects.specs.rewriting.Rewriting.{getter, setter, duplicate, moved, moved_to, moved_cases, array_under, element_load, element_store, word_places, block_of}

-- one that moves within the method, or stays
abbrev pub moved_op : ℕ → ℕ → (ℕ → ℕ) → Op → List Op
moved_op p most at (op.Branch t to) = op.Branch t (at to) ∷ []
moved_op p most at (op.BranchInts t to) = op.BranchInts t (at to) ∷ []
moved_op p most at (op.BranchNull b to) = op.BranchNull b (at to) ∷ []
moved_op p most at (op.BranchReferences b to) = op.BranchReferences b (at to) ∷ []
moved_op p most at (op.Goto to) = op.Goto (at to) ∷ []
moved_op p most at (op.Switch other cases) = op.Switch (at other) (moved_cases at cases) ∷ []
moved_op p most at (op.Load s i) = op.Load s (moved_to s p most i) ∷ []
moved_op p most at (op.Store s i) = op.Store s (moved_to s p most i) ∷ []
moved_op p most at (op.Increment i n) = op.Increment (moved p i) n ∷ []
moved_op p most at o = o ∷ []

-- one that reads or writes a field or an element
abbrev pub access_block : Program → ℕ → ℕ → (ℕ → ℕ) → Option Types → Op → List Op
access_block P p most at h (op.GetStatic f) = op.Load sort.Reference p ∷ op.InvokeStatic (getter P f) ∷ []
access_block P p most at h (op.PutStatic f) = op.Load sort.Reference p ∷ op.InvokeStatic (setter P f) ∷ []
access_block P p most at h (op.GetField f c) = op.Load sort.Reference p ∷ op.InvokeStatic (getter P f) ∷ []
access_block P p most at h (op.PutField f c) = op.Load sort.Reference p ∷ op.InvokeStatic (setter P f) ∷ []
access_block P p most at h (op.LoadElement t) = element_load P p t (array_under 1 h)
access_block P p most at h (op.StoreElement t) = element_store P p t (array_under (1 + word_places t) h)
access_block P p most at h o = moved_op p most at o

-- one that calls
abbrev pub call_block : Program → ℕ → ℕ → (ℕ → ℕ) → Option Types → Op → List Op
call_block P p most at h (op.InvokeStatic m) = op.Load sort.Reference p ∷ op.InvokeStatic (duplicate P m) ∷ []
call_block P p most at h (op.InvokeSpecial m) = op.Load sort.Reference p ∷ op.InvokeSpecial (duplicate P m) ∷ []
call_block P p most at h (op.InvokeVirtual m c) = op.Load sort.Reference p ∷ op.InvokeVirtual (duplicate P m) c ∷ []
call_block P p most at h (op.InvokeInterface m c) = op.Load sort.Reference p ∷ op.InvokeInterface (duplicate P m) c ∷ []
call_block P p most at h o = access_block P p most at h o

-- the blocks of instructions from one on
abbrev pub blocks_from : Program → ℕ → ℕ → (ℕ → ℕ) → Table → ℕ → List Op → List Op
blocks_from P p most at T pc [] = []
blocks_from P p most at T pc (o ∷ os) = block_of P p most at (types_at T pc) o ++ blocks_from P p most at T (suc pc) os
