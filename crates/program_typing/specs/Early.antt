-- Stores to a field of an object that another constructor has not run over: an accessor, which takes an object that is built, can't make them.
use Rattle.std.specs.Prelude.{ℕ, suc, List, [], ◌∷◌, Option, Some, None, Bool, true, false, slice_get, if◌then◌else◌}
use Rattle.jmodel.specs.declared.typing.VType.{VType}
use Rattle.jmodel.specs.declared.typing.VType.TheVariants.{UninitThis}
use Rattle.objects.specs.declared.op.Op.{Op}
use Rattle.objects.specs.declared.op.Op.TheVariants.{PutField}
use Rattle.objects.specs.semantics.Program.{Field, Method, Program, field_at}
use Rattle.objects.specs.typing.Typing.{Types, Table, types_at}
use Rattle.objects.specs.rewriting.Rewriting.{word_places}

abbrev pub is_this : Option VType → Bool
is_this (Some UninitThis) = true
is_this t = false

-- the object lies under the value
abbrev pub is_early_over : Option Field → Option Types → Bool
is_early_over (Some f) (Some h) = is_this (slice_get h.stack (word_places f.declared.word))
is_early_over f h = false

abbrev pub is_early : Program → Option Types → Op → Bool
is_early P h (PutField n c) = is_early_over (field_at P n) h
is_early P h o = false

-- the first such instruction, from a place on
abbrev pub early_from : Program → Table → ℕ → List Op → Option ℕ
early_from P T pc [] = None
early_from P T pc (o ∷ os) = if is_early P (types_at T pc) o then Some pc else early_from P T (suc pc) os

abbrev pub early_store : Program → Method → Table → Option ℕ
early_store P k T = early_from P T 0 k.ops
