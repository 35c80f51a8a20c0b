-- A step over the entries of a pool.
use Rattle.std.proofs.Common.{◌≡◌, ℕ, ◌-◌, List, Bool, Ok, refl}
use Rattle.jmodel.specs.declared.class_file.Constant.{Constant}
use Rattle.jmodel.specs.declared.refusal.Halt.{Halt}
use Rattle.jmodel.specs.declared.refusal.Halt.TheVariants as halts
use Rattle.jmodel.specs.format.ClassRules.{is_wide}
use Rattle.jmodel.specs.format.Reading.{Fails}
use Rattle.jmodel.specs.format.PoolReading.{Scan, entry_if, scan_at}

module _ (bytes : List ℕ) (left : ℕ) (due : Bool) (at : ℕ) where
  abbrev pub here : Scan
  here = record { left = left; due = due; at = at }

  pub scan_ok : (c : Constant) (after rest : ℕ) → left - 1 ≡ rest → entry_if due bytes (left - 1) at ≡ Ok (c, after) → scan_at bytes here ≡ Ok (c, record { left = rest; due = is_wide c; at = after })
  unfolding scan_at
  scan_ok c after rest e h = rw (h, e) refl

  pub scan_fails : (e : Halt) → Fails e (entry_if due bytes (left - 1) at) → Fails e (scan_at bytes here)
  unfolding scan_at
  scan_fails halts.NoMemory h = tt
  scan_fails (halts.Refused f) h = rw h refl
