-- Reading from the front: a field gives its value and the place after it, or the first fault.
use Rattle.std.specs.Prelude.{◌≡◌, ℕ, zero, suc, ◌+◌, ◌-◌, ◌^◌, min, ℤ, pos, List, [], ◌∷◌, length, take, drop, Result, Ok, Err, Option, Some, None, nat_lt, if◌then◌else◌}
use Rattle.std.specs.Int.{Width, w16, w32, w64, byte_len, from_be_bytes}
use Rattle.jmodel.specs.declared.refusal.Refusal.{Refusal}
use Rattle.jmodel.specs.declared.refusal.Refusal.TheVariants.{Truncated}
use Rattle.jmodel.specs.declared.refusal.Halt.{Halt}
use Rattle.jmodel.specs.declared.refusal.NoMemory.{NoMemory}
use Rattle.jmodel.specs.declared.refusal.Halt.TheVariants as halts

infixl 10 ◌>>=◌
abbrev pub ◌>>=◌ : {A B : Type 0} → Result A Refusal → (A → Result B Refusal) → Result B Refusal
(Ok x) >>= f = f x
(Err e) >>= f = Err e

-- What was answered, seen by view, is what reading gives, unless memory ran out.
abbrev pub Fails : {Y : Type 0} → Halt → Result Y Refusal → Type 0
Fails halts.NoMemory read = Unit {0}
Fails (halts.Refused r) read = read ≡ Err r

abbrev pub Gives : {X Y : Type 0} → (X → Y) → Result X Halt → Result Y Refusal → Type 0
Gives view (Ok x) read = read ≡ Ok (view x)
Gives view (Err e) read = Fails e read

-- What was answered, and None in place of a refusal.
abbrev pub GivesUnlessRefused : {X : Type 0} → Result X Halt → Result (Option X) NoMemory → Type 0
GivesUnlessRefused given (Ok (Some x)) = given ≡ Ok x
GivesUnlessRefused given (Ok None) = (r : Refusal) × given ≡ Err (halts.Refused r)
GivesUnlessRefused given (Err _) = given ≡ Err halts.NoMemory

-- What reading gives, None where it is refused.
abbrev pub IsReadOrNone : {X : Type 0} → Option X → Result X Refusal → Type 0
IsReadOrNone (Some x) read = read ≡ Ok x
IsReadOrNone None read = (r : Refusal) × read ≡ Err r

-- an offset, as it is printed
abbrev pub place : ℕ → ℤ
place at = pos (min at (2 ^ 63 - 1))

-- a run of bytes
unfoldable pub run_at : List ℕ → ℕ → ℕ → Result (List ℕ × ℕ) Refusal
run_at bytes at n = if nat_lt (length bytes) (at + n) then Err (Truncated (place at)) else Ok (take n (drop at bytes), at + n)

-- a number, the highest byte first
unfoldable pub number_at : Width → List ℕ → ℕ → Result (ℕ × ℕ) Refusal
number_at w bytes at = do
  run ← run_at bytes at (byte_len w)
  Ok (from_be_bytes w run.0, run.1)

abbrev pub u2_at : List ℕ → ℕ → Result (ℕ × ℕ) Refusal
u2_at bytes at = number_at w16 bytes at

abbrev pub u4_at : List ℕ → ℕ → Result (ℕ × ℕ) Refusal
u4_at bytes at = number_at w32 bytes at

abbrev pub u8_at : List ℕ → ℕ → Result (ℕ × ℕ) Refusal
u8_at bytes at = number_at w64 bytes at

-- as many items as are counted, one after another; a state goes from each to the next
unfoldable pub items_at : {S A : Type 0} → (S → Result (A × S) Refusal) → ℕ → S → Result (List A × S) Refusal
items_at read zero s = Ok ([], s)
items_at read (suc n) s = do
  first ← read s
  others ← items_at read n first.1
  Ok (first.0 ∷ others.0, others.1)
