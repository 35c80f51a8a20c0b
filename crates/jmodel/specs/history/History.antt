-- Entries of the commit history, their order, and the memory after them.
use Rattle.std.specs.Prelude.{◌≡◌, ◌≢◌, ℕ, ◌+◌, ◌⊎◌, List, [], ◌∷◌, Bool, true, false, IsTrue, ◌↔◌, nat_eq, nat_lt, ◌&&◌, ◌||◌, not, if◌then◌else◌, AllPairs}
use Rattle.jmodel.specs.declared.value.Value.{Value}
use Rattle.jmodel.specs.declared.value.Answer.{Answer}
use Rattle.jmodel.specs.declared.value.Answer.TheVariants.{Returned, Threw}
use Rattle.jmodel.specs.declared.value.Stamp.{Stamp}
use Rattle.jmodel.specs.history.Log.{Log, answered}

-- A call: where it stands in the script, its method with its arguments, and the region that it takes words from.
pub record Call : Type 0 where
  pub phase : ℕ
  pub lane : ℕ
  pub index : ℕ
  pub method : ℕ
  pub args : List Value
  pub region : ℕ

-- One call's place in the history. Its reads are of words that it had not written itself; used words are those of its region.
pub record Entry : Type 0 where
  pub stamp : Stamp
  pub call : Call
  pub answer : Answer
  pub reads : Log
  pub writes : Log
  pub used_before : ℕ
  pub used_after : ℕ

-- Words of memory by address
abbrev pub Words : Type 0
Words = ℕ → ℕ

-- the words with writes applied, the last first
abbrev pub overlaid : Log → Words → Words
overlaid w σ = λ a. answered w a (σ a)

-- the memory after entries, the first one first
abbrev pub memory_after : List Entry → Words → Words
memory_after [] σ = σ
memory_after (e ∷ h) σ = memory_after h (overlaid e.writes σ)

-- each read is what memory has at its address
abbrev pub Agrees : Words → Log → Type 0
Agrees σ [] = Unit {0}
Agrees σ (l ∷ r) = (σ l.address ≡ l.word) × Agrees σ r

-- region 0 is that of the static initialisers, which come first
abbrev pub round : Call → ℕ
round c = if nat_eq c.region 0 then 0 else c.phase + 1

-- one number before another, or the same and then
abbrev pub first_by : ℕ → ℕ → Bool → Bool
first_by x y later = nat_lt x y || (nat_eq x y && later)

-- what is told of an entry: its stamp, its call, and what that answered
pub record Told : Type 0 where
  pub stamp : Stamp
  pub call : Call
  pub answer : Answer

abbrev pub told : Entry → Told
told e = record { stamp = e.stamp; call = e.call; answer = e.answer }

-- by stamp, an update before readers of the same stamp, then by round, lane and index
abbrev pub comes_first : Told → Told → Bool
comes_first a b =
    first_by a.stamp.at b.stamp.at (
    (a.stamp.update && not b.stamp.update)
    || ((a.stamp.update || not b.stamp.update)
    && first_by (round a.call) (round b.call) (first_by a.call.lane b.call.lane (nat_lt a.call.index b.call.index))))

abbrev pub precedes : Entry → Entry → Bool
precedes a b = comes_first (told a) (told b)

-- an entry that left words of its region used
abbrev pub leaves_words : Answer → Bool
leaves_words (Returned v) = true
leaves_words (Threw c) = true
leaves_words x = false

-- the used words of a region after entries
abbrev pub used_after : List Entry → ℕ → ℕ → ℕ
used_after [] region used = used
used_after (e ∷ h) region used = used_after h region (if nat_eq e.call.region region then e.used_after else used)

-- what an entry keeps, whose memory before it and used words before it are these
pub record IsEntry (σ : Words) (used : ℕ → ℕ) (e : Entry) : Type 0 where
  pub update : IsTrue e.stamp.update ↔ (e.writes ≢ [])
  pub reads : Agrees σ e.reads
  pub used_before : e.used_before ≡ used e.call.region
  pub stays : (e.writes ≡ []) ⊎ (leaves_words e.answer ≡ false) → e.used_after ≡ e.used_before

abbrev pub used_with : (ℕ → ℕ) → Entry → ℕ → ℕ
used_with used e region = if nat_eq e.call.region region then e.used_after else used region

-- each entry after the ones before it, from words and used words
abbrev pub AreEntries : Words → (ℕ → ℕ) → List Entry → Type 0
AreEntries σ used [] = Unit {0}
AreEntries σ used (e ∷ h) = IsEntry σ used e × AreEntries (overlaid e.writes σ) (used_with used e) h

abbrev pub IsOneUpdate : Entry → Entry → Type 0
IsOneUpdate a b = (a.stamp.update ≡ true) × (b.stamp.update ≡ true) × (a.stamp.at ≡ b.stamp.at)

-- a history that could have happened one entry after another
pub record IsLegal (σ : Words) (used : ℕ → ℕ) (h : List Entry) : Type 0 where
  pub ordered : AllPairs (λ a b. precedes a b ≡ true) h
  pub stamps : AllPairs (λ a b. ¬ IsOneUpdate a b) h
  pub entries : AreEntries σ used h

-- a call with its answer, the words of its region used before and after it, and what its last attempt read and wrote
abbrev pub made : Call → Answer → ℕ → ℕ → Stamp → Log → Log → Entry
made c x before after stamp r w =
    record { stamp = stamp; call = c; answer = x; reads = r; writes = w; used_before = before; used_after = after }
