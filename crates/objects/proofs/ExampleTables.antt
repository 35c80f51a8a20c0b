-- Tables of types of the example's methods.
use Rattle.std.specs.Prelude.{List, [], ◌∷◌, Option, Some, Bool, true, false, codes}
use Rattle.jmodel.specs.declared.typing.VType.{VType}
use Rattle.jmodel.specs.declared.typing.VType.TheVariants.{Int, Long, Second, Ref, Uninit, UninitThis, Top}
use Rattle.objects.specs.typing.Typing.{Types, Table}

abbrev before : Bool → (locals stack : List VType) → Option Types
before built l s = Some (record { locals = l; stack = s; built = built })

-- in a method without locals
abbrev over : (stack : List VType) → Option Types
over s = before true [] s

abbrev a : VType
a = Ref (codes "A")

abbrev b : VType
b = Ref (codes "B")

abbrev array : VType
array = Ref (codes "[LA;")

abbrev bytes : VType
bytes = Ref (codes "[B")

abbrev pub init_a : Table
init_a = before false (UninitThis ∷ []) [] ∷ before false (UninitThis ∷ []) (UninitThis ∷ []) ∷ before true (a ∷ []) [] ∷ []

abbrev pub get_a : Table
get_a = before true (a ∷ []) [] ∷ before true (a ∷ []) (a ∷ []) ∷ before true (a ∷ []) (Int ∷ []) ∷ []

abbrev pub get_b : Table
get_b =
    before true (b ∷ []) [] ∷ before true (b ∷ []) (b ∷ []) ∷ before true (b ∷ []) (Int ∷ b ∷ []) ∷ before true (b ∷ []) [] ∷ before true (b ∷ []) (b ∷ [])
    ∷ before true (b ∷ []) (Int ∷ []) ∷ before true (b ∷ []) (Int ∷ Int ∷ []) ∷ before true (b ∷ []) (Int ∷ []) ∷ []

abbrev pub init_b : Table
init_b =
    before false (UninitThis ∷ Long ∷ Second ∷ []) [] ∷ before false (UninitThis ∷ Long ∷ Second ∷ []) (UninitThis ∷ [])
    ∷ before true (b ∷ Long ∷ Second ∷ []) [] ∷ before true (b ∷ Long ∷ Second ∷ []) (b ∷ []) ∷ before true (b ∷ Long ∷ Second ∷ []) (Second ∷ Long ∷ b ∷ [])
    ∷ before true (b ∷ Long ∷ Second ∷ []) [] ∷ []

abbrev pub f_b : Table
f_b = before true (b ∷ []) [] ∷ before true (b ∷ []) (b ∷ []) ∷ before true (b ∷ []) (Second ∷ Long ∷ []) ∷ before true (b ∷ []) (Int ∷ []) ∷ []

abbrev pub init_e : Table
init_e = before false (UninitThis ∷ []) [] ∷ before false (UninitThis ∷ []) (UninitThis ∷ []) ∷ before true (Ref (codes "E") ∷ []) [] ∷ []

abbrev pub make : Table
make =
    over [] ∷ over (Uninit 0 ∷ []) ∷ over (Uninit 0 ∷ Uninit 0 ∷ []) ∷ over (Second ∷ Long ∷ Uninit 0 ∷ Uninit 0 ∷ []) ∷ over (b ∷ []) ∷ over [] ∷ over (a ∷ []) ∷ over (Int ∷ []) ∷ []

abbrev pub call : Table
call = over [] ∷ over (a ∷ []) ∷ over (Ref (codes "java/lang/Object") ∷ []) ∷ over (Int ∷ []) ∷ []

abbrev pub elements : Table
elements =
    over [] ∷ over (Int ∷ []) ∷ over (array ∷ []) ∷ over [] ∷ over (array ∷ []) ∷ over (Int ∷ array ∷ []) ∷ over (a ∷ Int ∷ array ∷ []) ∷ over [] ∷ over (array ∷ [])
    ∷ over (Int ∷ array ∷ []) ∷ over (a ∷ []) ∷ over (Int ∷ []) ∷ over (array ∷ Int ∷ []) ∷ over (Int ∷ Int ∷ []) ∷ over (Int ∷ []) ∷ []

abbrev pub store : Table
store =
    over [] ∷ over (Int ∷ []) ∷ over (Ref (codes "[LB;") ∷ []) ∷ over [] ∷ over (array ∷ []) ∷ over (Int ∷ array ∷ []) ∷ over (a ∷ Int ∷ array ∷ []) ∷ over [] ∷ over (Int ∷ []) ∷ []

abbrev pub text : Table
text = over [] ∷ over (Ref (codes "java/lang/String") ∷ []) ∷ over (Int ∷ []) ∷ []

abbrev pub caught : Table
caught =
    over [] ∷ over (Uninit 0 ∷ []) ∷ over (Uninit 0 ∷ Uninit 0 ∷ []) ∷ over (Ref (codes "E") ∷ []) ∷ over (Ref (codes "E") ∷ []) ∷ over [] ∷ over (Int ∷ []) ∷ []

abbrev pub narrow : Table
narrow =
    before true (Top ∷ []) [] ∷ before true (Top ∷ []) (Int ∷ []) ∷ before true (Top ∷ []) (bytes ∷ []) ∷ before true (bytes ∷ []) [] ∷ before true (bytes ∷ []) (bytes ∷ [])
    ∷ before true (bytes ∷ []) (Int ∷ bytes ∷ []) ∷ before true (bytes ∷ []) (Int ∷ Int ∷ bytes ∷ []) ∷ before true (bytes ∷ []) [] ∷ before true (bytes ∷ []) (a ∷ [])
    ∷ before true (bytes ∷ []) (bytes ∷ a ∷ []) ∷ before true (bytes ∷ []) (Int ∷ bytes ∷ a ∷ []) ∷ before true (bytes ∷ []) (Int ∷ a ∷ []) ∷ before true (bytes ∷ []) []
    ∷ before true (bytes ∷ []) (a ∷ []) ∷ before true (bytes ∷ []) (Int ∷ []) ∷ []

abbrev pub tables : List Table
tables = init_a ∷ get_a ∷ get_b ∷ init_b ∷ [] ∷ f_b ∷ init_e ∷ make ∷ call ∷ elements ∷ store ∷ text ∷ caught ∷ narrow ∷ []
