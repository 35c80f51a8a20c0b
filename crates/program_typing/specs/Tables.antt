-- Tables of types for the methods of a program.
use Rattle.std.specs.Prelude.{◌≡◌, List, [], Some, Bool, true, false}
use Rattle.std.specs.List.{AllZip}
use Rattle.objects.specs.semantics.Program.{Method, Program, has_code}
use Rattle.objects.specs.typing.Typing.{Table, IsTyping, IsTypable, IsNarrowest}

-- a typing of a method, and the narrowest
pub record IsNarrowTyping (P : Program) (k : Method) (T : Table) : Type 0 where
  pub typing : IsTyping P k T
  pub narrowest : IsNarrowest P k T

abbrev pub IsTableFor : Bool → Program → Method → Table → Type 0
IsTableFor true P k T = IsNarrowTyping P k T
IsTableFor false P k T = T ≡ []

-- A method that has code has its narrowest typing as its table, and a method without code an empty one.
abbrev pub IsTableOf : Program → Method → Table → Type 0
IsTableOf P k T = IsTableFor (has_code (Some k)) P k T

-- these are tables of the methods of a program, one after another
abbrev pub AreTables : Program → List Table → Type 0
AreTables P Ts = AllZip (IsTableOf P) P.methods Ts

abbrev pub IsTypedFor : Bool → Program → Method → Type 0
IsTypedFor true P k = IsTypable P k
IsTypedFor false P k = Unit {0}

-- a method has a typing, or no code
abbrev pub IsTypedOrBare : Program → Method → Type 0
IsTypedOrBare P k = IsTypedFor (has_code (Some k)) P k
