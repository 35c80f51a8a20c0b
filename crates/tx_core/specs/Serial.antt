-- Histories of attempts that came one after the other.
use Rattle.std.specs.Prelude.{◌≡◌, ◌⊎◌, ℕ, ◌+◌, ◌<◌, List, [], ◌∷◌, Bool, true, false, All, length, reverse, slice_index}
use Rattle.std.specs.List.{AllByRecursion}
use Rattle.jmodel.specs.declared.access.Access.{Access}
use Rattle.jmodel.specs.history.Log.{Log}
use Rattle.jmodel.specs.history.History.{Entry, Words, Agrees, leaves_words, overlaid, memory_after}
use Rattle.tx_core.specs.Engine.{IsOfWrites}

-- the words of memory; there is 0 beyond their end
abbrev pub word_in : List ℕ → Words
word_in words = λ a. slice_index words a

-- an update is stamped with the number of updates up to it
abbrev pub stamped : ℕ → Bool → ℕ
stamped clock true = clock + 1
stamped clock false = clock

-- each entry by the rule and with its stamp; each read what the ones before left
abbrev pub IsSerial : (Entry → Type 0) → ℕ → Words → List Entry → Type 0
IsSerial rule clock σ [] = Unit {0}
IsSerial rule clock σ (e ∷ h) =
    rule e × IsOfWrites e.stamp e.writes × (e.stamp.at ≡ stamped clock e.stamp.update) × Agrees σ e.reads × IsSerial rule e.stamp.at (overlaid e.writes σ) h

-- an entry that wrote nothing, or was refused, leaves the used words of its region as they were
abbrev pub Stays : Entry → Type 0
Stays e = (e.writes ≡ []) ⊎ (leaves_words e.answer ≡ false) → e.used_after ≡ e.used_before

-- the clock after entries
abbrev pub clock_after : ℕ → List Entry → ℕ
clock_after clock [] = clock
clock_after clock (e ∷ h) = clock_after e.stamp.at h

-- Words, a clock and writes kept back stand for a serial history without conflicts, and an open attempt. There are as many words as at first.
pub record StandsFor (rule : Entry → Type 0) (first words : List ℕ) (clock : ℕ) (kept : List Access) (h : List Entry) (n : ℕ) (r w : Log) : Type 0 where
  pub no_conflict : n ≡ 0
  pub serial : IsSerial rule 0 (word_in first) h
  pub stays : AllByRecursion Stays h
  pub memory : word_in words ≡ memory_after h (word_in first)
  pub size : length words ≡ length first
  pub last_stamp : clock ≡ clock_after 0 h
  pub reads : Agrees (word_in words) r
  pub writes : reverse kept ≡ w
  pub within : All (λ (l : Access). l.address < length words) w
