-- Operand stacks of frames, the topmost place first.
use Rattle.std.specs.Prelude.{List, [], ◌∷◌, Option, Some, None, Bool, true, false, not, option_and_then}
use Rattle.jmodel.specs.declared.typing.VType.{VType}
use Rattle.jmodel.specs.declared.typing.VType.TheVariants.{Long, Second, Top}

abbrev pub some_and : Option Bool → (Bool → Bool) → Bool
some_and None p = false
some_and (Some b) p = p b

-- whether a place of a stack is the second one of a long, where the place just above was one or not; none where the two don't go together
abbrev pub next_under : Bool → VType → Option Bool
next_under false Long = None
next_under false Top = None
next_under false Second = Some true
next_under false t = Some false
next_under true Long = Some false
next_under true t = None

abbrev pub is_stack_under : Bool → List VType → Bool
is_stack_under under [] = not under
is_stack_under under (t ∷ s) = some_and (next_under under t) (λ (u : Bool). is_stack_under u s)

-- what the place under a list of places is, as next_under has it, where the place just above them was the second one of a long or not
abbrev pub under_all : Bool → List VType → Option Bool
under_all under [] = Some under
under_all under (t ∷ ts) = option_and_then (λ (u : Bool). under_all u ts) (next_under under t)
