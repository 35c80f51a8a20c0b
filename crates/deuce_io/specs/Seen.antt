-- What a folder tells.
use Rattle.std.specs.Prelude.{ℕ, Option}
use Rattle.deuce_io.specs.Fault.{Call}
use Rattle.deuce_io.specs.Files.{Files}

-- its files, where it tells them, how many lists and reads have failed, how many puts, and the last call that failed
pub record Seen : Type 0 where
  pub files : Option Files
  pub faults : ℕ
  pub put_faults : ℕ
  pub failed : Option Call
