-- Switches of code, whose keys ascend.
use Rattle.std.specs.Prelude.{◌≡◌, List, true}
use Rattle.std.specs.List.{AllByRecursion}
use Rattle.jmodel.specs.declared.instruction.Operands.{Operands}
use Rattle.jmodel.specs.declared.instruction.Operands.TheVariants.{Table, Lookup}
use Rattle.jmodel.specs.declared.instruction.Instr.{Instr}
use Rattle.jmodel.specs.format.Instruction.{ascend}
use Rattle.objects.specs.linking.Code.{table_cases}

-- the keys of a switch with these operands ascend
abbrev pub IsSwitchOf : Operands → Type 0
IsSwitchOf (Table other low targets) = ascend (table_cases low targets) ≡ true
IsSwitchOf (Lookup other pairs) = ascend pairs ≡ true
IsSwitchOf o = Unit {0}

abbrev pub AreSwitches : List Instr → Type 0
AreSwitches is = AllByRecursion (λ (i : Instr). IsSwitchOf i.operands) is
