-- When a call may answer that the outside failed.
use Rattle.std.specs.Prelude.{◌≡◌, ◌+◌, min, ◌<◌, ◌≤◌, ◌⊎◌, ◌-◌, ◌^◌, ℕ, List, Option, Some, string_bytes}
use Rattle.deuce_io.specs.declared.failed_call.FailedCall.{FailedCall}
use Rattle.deuce_io.specs.declared.failed_call.CallKind.{CallKind}
use Rattle.deuce_io.specs.declared.failed_call.CallKind.TheVariants.{List as Listed, Read, Put}

-- a call of a folder, by what it was and its path
pub record Call : Type 0 where
  pub kind : CallKind
  pub path : List ℕ

-- a call of this kind at this path
abbrev pub call_of : CallKind → List ℕ → Call
call_of kind path = record { kind = kind; path = path }

-- the list of this folder
abbrev pub list_of : List ℕ → Call
list_of dir = call_of Listed dir

-- the read of this file
abbrev pub read_of : List ℕ → Call
read_of path = call_of Read path

-- the put of this file
abbrev pub put_of : List ℕ → Call
put_of path = call_of Put path

-- a failed call as such a call
abbrev pub seen_call : FailedCall → Call
seen_call failed = call_of failed.kind (string_bytes failed.path)

-- a counter of 64 bits after one more, which stays at its last value once it is there
abbrev pub next_count : ℕ → ℕ
next_count count = min (count + 1) (2 ^ 64 - 1)

-- a count of faults rose, or it stands at the last value of a counter of 64 bits
abbrev pub Rose : ℕ → ℕ → Type 0
Rose before now = (before < now) ⊎ (now ≡ 2 ^ 64 - 1)

-- the count rose, and the last failed call is this one
pub record HasFailed (before now : ℕ) (last : Option Call) (call : Call) : Type 0 where
  pub rose : Rose before now
  pub is_last : last ≡ Some call
