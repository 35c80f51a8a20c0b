-- Types that are within themselves, and whether what an instruction brings is.
use Rattle.std.specs.Prelude.{ℕ, List, Option, Some, None, Bool, true, ◌&&◌, IsTrue, slice_get}
use Rattle.jmodel.specs.declared.typing.VType.{VType}
use Rattle.jmodel.specs.declared.typing.VType.TheVariants.{Ref}
use Rattle.objects.specs.declared.op.Op.{Op}
use Rattle.objects.specs.declared.op.Op.TheVariants as op
use Rattle.objects.specs.semantics.Program.{Method, Program, method_at}
use Rattle.objects.specs.typing.TypeOrder.{is_within}
use Rattle.objects.specs.typing.Typing.{FitsIn}
use Rattle.verifier.specs.declared.search.Outflow.{Outflow}

-- the type of a place, if there is one
abbrev pub is_itself : Program → Option VType → Bool
is_itself P None = true
is_itself P (Some t) = is_within P t t

-- the two topmost types of a stack
abbrev pub is_top_itself : Program → List VType → Bool
is_top_itself P s = is_itself P (slice_get s 0) && is_itself P (slice_get s 1)

-- what a constructor of a class makes of an object, and what it makes of `this`
abbrev pub is_built_itself : Program → Method → List ℕ → Bool
is_built_itself P k c = is_within P (Ref k.name.class) (Ref k.name.class) && is_within P (Ref c) (Ref c)

abbrev pub is_called_itself : Program → Method → Option Method → Bool
is_called_itself P k None = true
is_called_itself P k (Some c) = is_built_itself P k c.name.class

-- what the constructor that an instruction calls makes of its object
abbrev pub builds_itself : Program → Method → Op → Bool
builds_itself P k (op.InvokeSpecial m) = is_called_itself P k (method_at P m)
builds_itself P k (op.InitLibrary c n) = is_built_itself P k c
builds_itself P k o = true

-- All that an instruction brings, by the stack that it leaves. No more than two places on top have types that weren't there.
abbrev pub brings_itself : Program → Method → Op → List VType → Bool
brings_itself P k o s = builds_itself P k o && is_top_itself P s

-- where types are marked as settled, they are within themselves
abbrev pub IsMarked : Program → Outflow → Type 0
IsMarked P x = IsTrue x.settled → FitsIn P x.types x.types
