-- What an instruction does to the types before it, as the code tells it.
use Rattle.std.specs.Prelude.{ℕ, List, [], ◌∷◌, Option, Some, None, Bool, true, false, ◌&&◌, ◌||◌, drop, slice_get, bytes_eq, if◌then◌else◌}
use Rattle.jmodel.specs.declared.typing.VType.{VType}
use Rattle.jmodel.specs.declared.typing.VType.TheVariants.{Int, Second, Long, Null, Ref, Uninit, UninitThis, Top}
use Rattle.objects.specs.declared.op.WordType.{WordType}
use Rattle.objects.specs.declared.op.StackOp.{StackOp}
use Rattle.objects.specs.declared.op.StackOp.TheVariants.{Nop, Pop, Pop2, Dup, DupX1, DupX2, Dup2, Dup2X1, Dup2X2, Swap}
use Rattle.objects.specs.declared.op.Op.{Op}
use Rattle.objects.specs.declared.op.Op.TheVariants as op
use Rattle.objects.specs.semantics.Program.{Method, Program}
use Rattle.objects.specs.typing.TypeOrder.{is_array, is_within}
use Rattle.objects.specs.typing.Typing.{Types, Flow, Wrong, is_one, fits_elements, is_named, new_class, direct_superclass, built_as, this_built, is_uninit, flow}
use Rattle.verifier.specs.Rules.{rule_of, ruled}

-- none is wrong
abbrev pub flow_of : Option Flow → Flow
flow_of None = Wrong
flow_of (Some f) = f

-- whether a place has an int
abbrev pub is_int : Option VType → Bool
is_int (Some Int) = true
is_int t = false

-- whether two locals have a long
abbrev pub is_long : Option VType → Option VType → Bool
is_long (Some Long) (Some Second) = true
is_long t u = false

-- nothing is known of a place that isn't there
abbrev pub or_top : Option VType → VType
or_top None = Top
or_top (Some t) = t

abbrev pub type_at : List VType → ℕ → VType
type_at s i = or_top (slice_get s i)

-- ---- the stack

-- whether a value of one place is on top
abbrev pub has_one : List VType → Bool
has_one [] = false
has_one (t ∷ s) = is_one t

-- whether a long is on top
abbrev pub has_long : List VType → Bool
has_long (Second ∷ Long ∷ s) = true
has_long s = false

-- whether a long, or two values of one place, are on top
abbrev pub has_two : List VType → Bool
has_two s = has_long s || (has_one s && has_one (drop 1 s))

-- whether a stack has what is rearranged
abbrev pub is_arranged : StackOp → List VType → Bool
is_arranged Nop s = true
is_arranged Pop s = has_one s
is_arranged Pop2 s = has_two s
is_arranged Dup s = has_one s
is_arranged DupX1 s = has_one s && has_one (drop 1 s)
is_arranged DupX2 s = has_one s && has_two (drop 1 s)
is_arranged Dup2 s = has_two s
is_arranged Dup2X1 s = has_two s && has_one (drop 2 s)
is_arranged Dup2X2 s = has_two s && has_two (drop 2 s)
is_arranged Swap s = has_one s && has_one (drop 1 s)

-- how many places are taken
abbrev pub arranged_places : StackOp → ℕ
arranged_places Nop = 0
arranged_places Pop = 1
arranged_places Pop2 = 2
arranged_places Dup = 1
arranged_places DupX1 = 2
arranged_places DupX2 = 3
arranged_places Dup2 = 2
arranged_places Dup2X1 = 3
arranged_places Dup2X2 = 4
arranged_places Swap = 2

-- which of the places are put in their stead, the topmost first
abbrev pub arrangement : StackOp → List ℕ
arrangement Nop = []
arrangement Pop = []
arrangement Pop2 = []
arrangement Dup = 0 ∷ 0 ∷ []
arrangement DupX1 = 0 ∷ 1 ∷ 0 ∷ []
arrangement DupX2 = 0 ∷ 1 ∷ 2 ∷ 0 ∷ []
arrangement Dup2 = 0 ∷ 1 ∷ 0 ∷ 1 ∷ []
arrangement Dup2X1 = 0 ∷ 1 ∷ 2 ∷ 0 ∷ 1 ∷ []
arrangement Dup2X2 = 0 ∷ 1 ∷ 2 ∷ 3 ∷ 0 ∷ 1 ∷ []
arrangement Swap = 1 ∷ 0 ∷ []

-- ---- arrays

-- an array, or null
abbrev pub is_array_type : VType → Bool
is_array_type Null = true
is_array_type (Ref n) = is_array n
is_array_type t = false

-- whether an array, or null, is on top
abbrev pub has_array : List VType → Bool
has_array [] = false
has_array (t ∷ s) = is_array_type t

-- an array, or null, with elements of a type
abbrev pub array_at : WordType → Option VType → Option VType
array_at t None = None
array_at t (Some u) = if is_array_type u && fits_elements t u then Some u else None

-- so under an index on top
abbrev pub array_under : WordType → List VType → Option VType
array_under t s = if is_int (slice_get s 0) then array_at t (slice_get s 1) else None

abbrev pub in_array : Option VType → (VType → Flow) → Flow
in_array None k = Wrong
in_array (Some u) k = k u

-- ---- objects

-- whether a constructor of a class may run over an object
abbrev pub may_construct : Program → Method → List ℕ → VType → Bool
may_construct P k c (Uninit p) = is_named c (new_class P (slice_get k.ops p))
may_construct P k c UninitThis = bytes_eq c k.name.class || is_named c (direct_superclass P k.name.class)
may_construct P k c t = false

-- the types after it has run
abbrev pub constructed : Method → List ℕ → Types → VType → List VType → Types
constructed k c h UninitThis s = this_built k h s
constructed k c h t s = built_as t (Ref c) h s

-- whether the object on top may be stored to as one of a class, or as `this` that isn't built, where the class is the constructor's
abbrev pub is_put : Program → Bool → List ℕ → Option VType → Bool
is_put P own n None = false
is_put P own n (Some t) = (is_uninit UninitThis t && own) || is_within P t (Ref n)

-- whether the object of a call is at most of a class
abbrev pub is_at_most : Program → List ℕ → Option VType → Bool
is_at_most P n None = false
is_at_most P n (Some t) = is_within P t (Ref n)

-- what an instruction does that goes by an object's class or makes one; of another, what its rule says
abbrev pub object_flow : Program → Method → ℕ → Op → Types → Flow
object_flow P k pc (op.GetField n c) h = flow P k pc (op.GetField n c) h
object_flow P k pc (op.PutField n c) h = flow P k pc (op.PutField n c) h
object_flow P k pc (op.InvokeSpecial m) h = flow P k pc (op.InvokeSpecial m) h
object_flow P k pc (op.InvokeVirtual m n) h = flow P k pc (op.InvokeVirtual m n) h
object_flow P k pc (op.InitLibrary c n) h = flow P k pc (op.InitLibrary c n) h
object_flow P k pc (op.New t) h = flow P k pc (op.New t) h
object_flow P k pc o h = ruled P h (rule_of P k pc o)
