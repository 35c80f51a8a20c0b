-- Tables of types, and methods that have typings.
use Rattle.std.proofs.Common.{List, [], ◌∷◌, Some, Bool, true, false}
use Rattle.std.specs.List.{AllByRecursion, AllZip}
use Rattle.objects.specs.semantics.Program.{Method, Program, has_code}
use Rattle.objects.specs.typing.Typing.{Table, IsTypable}
use Rattle.program_typing.specs.Tables.{IsNarrowTyping, IsTableFor, IsTableOf, IsTypedFor, IsTypedOrBare}

narrow_typable : (P : Program) (k : Method) (T : Table) → IsNarrowTyping P k T → IsTypable P k
narrow_typable P k T h = record { table = T; typing = h.typing }

typed_for : (b : Bool) (P : Program) (k : Method) (T : Table) → IsTableFor b P k T → IsTypedFor b P k
typed_for true P k T h = narrow_typable P k T h
typed_for false P k T h = tt

-- a method that has a table has a typing, or no code
pub one_typed : (P : Program) (k : Method) (T : Table) → IsTableOf P k T → IsTypedOrBare P k
one_typed P k T h = typed_for (has_code (Some k)) P k T h

-- so have all methods of a program that has tables
pub all_typed : (P : Program) (Ts : List Table) (ks : List Method) → AllZip (IsTableOf P) ks Ts → AllByRecursion (IsTypedOrBare P) ks
all_typed P [] [] h = tt
all_typed P (T ∷ Ts) [] h = absurd h
all_typed P [] (k ∷ ks) h = absurd h
all_typed P (T ∷ Ts) (k ∷ ks) h = (one_typed P k T h.0, all_typed P Ts ks h.1)
