-- The code of accessors can be laid, and has no jump.
use Rattle.std.proofs.Common.{◌≡◌, ◌<◌, List, [], length, Ok}
use Rattle.std.specs.List.{AllByRecursion}
use Rattle.jmodel.specs.declared.instruction.Instr.{Instr}
use Rattle.jmodel.specs.format.ClassFile.{Pool}
use Rattle.jmodel.specs.format.Instruction.{targets_of}
use Rattle.jmodel.specs.format.Relocation.{IsShaped}
use Rattle.objects.specs.semantics.Program.{Field}
use Rattle.member_code.proofs.Grown.{grown_refl}
use Rattle.member_code.proofs.Single.{IsLaid}
use Rattle.member_code.proofs.Straight.{each_shaped, each_nowhere}
use Rattle.field_members.specs.Accessors.{getter_instrs, setter_instrs}
use Rattle.field_members.proofs.Gets.{getter_code_puts, setter_code_puts}
use Rattle.field_members.proofs.Laid.{getter_laid, setter_laid}

module _ (f : Field) (pool next : Pool) (is : List Instr) (short : length pool < 65535) where
  getter_fits : getter_instrs f pool ≡ Ok (is, next) → AllByRecursion (IsLaid next) is
  getter_fits e = let p = getter_code_puts f pool (is, next) short e in getter_laid f next is (p.facts next (grown_refl next))

  pub getter_shaped : getter_instrs f pool ≡ Ok (is, next) → AllByRecursion IsShaped is
  getter_shaped e = each_shaped next is (getter_fits e)

  pub getter_nowhere : getter_instrs f pool ≡ Ok (is, next) → AllByRecursion (λ (i : Instr). targets_of i.operands ≡ []) is
  getter_nowhere e = each_nowhere next is (getter_fits e)

  setter_fits : setter_instrs f pool ≡ Ok (is, next) → AllByRecursion (IsLaid next) is
  setter_fits e = let p = setter_code_puts f pool (is, next) short e in setter_laid f next is (p.facts next (grown_refl next))

  pub setter_shaped : setter_instrs f pool ≡ Ok (is, next) → AllByRecursion IsShaped is
  setter_shaped e = each_shaped next is (setter_fits e)

  pub setter_nowhere : setter_instrs f pool ≡ Ok (is, next) → AllByRecursion (λ (i : Instr). targets_of i.operands ≡ []) is
  setter_nowhere e = each_nowhere next is (setter_fits e)
