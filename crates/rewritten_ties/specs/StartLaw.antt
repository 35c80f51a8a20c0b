-- A method that is called from outside has code, and the attempts that it may make are an int.
use Rattle.std.specs.Prelude.{◌≡◌, ℤ, List, Some, Ok, FitsSigned}
use Rattle.std.specs.Int.{w32}
use Rattle.jmodel.specs.format.ClassFile.{Member, ClassFile}
use Rattle.objects.specs.linking.Code.{retries_of}
use Rattle.objects.specs.semantics.Program.{Program}
use Rattle.objects.specs.linking.Linking.{linking}
use Rattle.objects.specs.laws.LinkingLaw.{AreRead}
use Rattle.retry_wrapper.specs.WrapperLaw.{HasCode}
use Rattle.rewritten_ties.specs.Taken.{IsTakenIn}

pub record IsStart (c : ClassFile) (m : Member) (attempts : ℤ) : Type 0 where
  pub code : HasCode c.pool m
  pub fits : FitsSigned w32 attempts

-- Of each method that is taken and makes attempts.
abbrev pub StartLaw : Type 0
StartLaw = (cs : List ClassFile) (P : Program) → AreRead cs → linking cs ≡ Ok (Some P) → (c : ClassFile) (m : Member) → IsTakenIn cs c m → (attempts : ℤ) → retries_of c.pool m ≡ Some attempts → IsStart c m attempts
