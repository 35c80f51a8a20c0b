-- A workload: the bank's classes, and the script of transfers between its accounts.
use Rattle.std.specs.Prelude.{ℕ, List, [], ◌∷◌, Result, Ok, Err, ◌&&◌, nat_le, if◌then◌else◌, codes}
use Rattle.jmodel.specs.declared.refusal.Refusal.{Refusal}
use Rattle.jmodel.specs.declared.refusal.Refusal.TheVariants.{OverLimit}
use Rattle.jmodel.specs.format.ClassFile.{ClassFile}
use Rattle.jmodel.specs.format.Reading.{place, ◌>>=◌}
use Rattle.bankgen.specs.Classes.{account, bank}
use Rattle.bankgen.specs.Script.{script_text}

-- a number within its limits, else refused with its name
abbrev pub within : List ℕ → (low high n : ℕ) → Result (Unit {0}) Refusal
within name low high n = if nat_le low n && nat_le n high then Ok tt else Err (OverLimit name (place n))

-- Account and Bank
abbrev pub classes : ℕ → List ClassFile
classes accounts = account ∷ bank accounts ∷ []

-- the classes and the script: of 2 to 1000 accounts, with at most 99999 transfers, on 1 to 16 lanes
unfoldable pub workload : (seed accounts calls lanes : ℕ) → Result (List ClassFile × List ℕ) Refusal
workload seed accounts calls lanes = do
  some_accounts ← within (codes "accounts") 2 1000 accounts
  few_calls ← within (codes "calls") 0 99999 calls
  some_lanes ← within (codes "lanes") 1 16 lanes
  Ok (classes accounts, script_text seed accounts calls lanes)
