-- What a step tells its pass.
use Rattle.std.specs.Prelude.{◌≡◌, ◌≢◌, ◌⊎◌, ◌<◌, ◌≤◌, ◌-◌, ◌+◌, ◌^◌, ◌*◌, ◌%◌, ℕ, Bool, true, false, []}
use Rattle.atomic_table.specs.Table.{State, Me, Step}
use Rattle.jmodel.specs.history.History.{Call, Entry}
use mathlib.Core.Option.{none}
use Rattle.tx_table.specs.Book.{Book, Map, lookup}
use Rattle.jmodel.specs.declared.value.Answer.TheVariants.{Spent}
use Rattle.tx_table.specs.Rule.{Story, Rule}
use Rattle.tx_table.specs.Plays.{no_call, begun, looked, loaded_at, checked_at, finished, logged, extending, validated, tried, ticked_up, decided_up, wrote_back, released, gave_up, Aims, word_in}

-- the rule, of a table's words and views
abbrev pub IsKept : {S : Type 0} → Story → State S Book → Type 0
IsKept key s = Rule key s.words s.views

abbrev pub Nothing : Book → Type 0
Nothing b = Unit {0}

-- where a pass holds every number, a stripe that it does not hold is free with a version up to the bound
abbrev pub Untouched : ℕ → Book → ℕ → Type 0
Untouched i v n = v.numbers ≡ 1048576 → v.live ≡ true → lookup v.face.held i ≡ none → (n % 2 ≡ 0) × (n ≤ 2 * v.bound)

-- and shows what a look in flight saw
abbrev pub Unchanged : ℕ → Book → ℕ → Type 0
Unchanged i v n = v.numbers ≡ 1048576 → v.live ≡ true → lookup v.face.held i ≡ none → Aims v.look i → n ≡ word_in v.look 0

-- a stripe's word is held, or has a version over the bound
abbrev pub IsPast : ℕ → ℕ → Type 0
IsPast bound n = (n % 2 ≢ 0) ⊎ (2 * bound < n)

-- a stripe shows what a look in flight saw, or it is past the bound
abbrev pub Moved : ℕ → Book → ℕ → Type 0
Moved i v n = v.live ≡ true → Aims v.look i → n ≢ word_in v.look 0 → IsPast v.bound n

-- a stripe that a pass does not hold does not show its number
abbrev pub Foreign : ℕ → Book → ℕ → Type 0
Foreign i v n = 0 < v.numbers → lookup v.face.held i ≡ none → n ≢ 2 * v.face.number + 1

module _ {S : Type 0} where
  abbrev pub Begins : Call → (Book → Type 0) → Step S → Me S Book → ℕ → Me S Book → Type 0
  Begins call says st m n m' = (m.0.seen ≤ n) × (m' ≡ (begun m.0 call n, m.1)) × says m'.0

  abbrev pub Looks_up : ℕ → Bool → Step S → Me S Book → ℕ → Me S Book → Type 0
  Looks_up a newer st m n m' = (m' ≡ (looked m.0 a newer n, m.1)) × Untouched (st.word - 1) m.0 n × Foreign (st.word - 1) m.0 n

  abbrev pub Loads : Step S → Me S Book → ℕ → Me S Book → Type 0
  Loads st m n m' = m' ≡ (loaded_at m.0.look m.0 (st.word - 4097) n, m.1)

  abbrev pub Rechecks : (Book → Type 0) → Step S → Me S Book → ℕ → Me S Book → Type 0
  Rechecks says st m n m' = (m' ≡ (checked_at m.0.look m.0 n, m.1)) × (m'.0.live ≡ true → says m'.0) × Unchanged (st.word - 1) m.0 n × Moved (st.word - 1) m.0 n × Foreign (st.word - 1) m.0 n

  abbrev pub Finishes : Entry → Step S → Me S Book → ℕ → Me S Book → Type 0
  Finishes e st m n m' = m' ≡ (finished m.0 e, m.1)

  -- a load of an address on a stripe that the pass holds logs the read
  abbrev pub Loads_own : (Book → Type 0) → Step S → Me S Book → ℕ → Me S Book → Type 0
  Loads_own says st m n m' = (m' ≡ (logged m.0 (st.word - 4097) n, m.1)) × says m'.0

  abbrev pub Extends : Bool → Step S → Me S Book → ℕ → Me S Book → Type 0
  Extends whole st m n m' = (m.0.seen ≤ n) × (m' ≡ (extending m.0 whole n, m.1))

  abbrev pub Validates : ℕ → Bool → Step S → Me S Book → ℕ → Me S Book → Type 0
  Validates a last st m n m' = (m' ≡ (validated m.0 a last (st.word - 1) n, m.1)) × Untouched (st.word - 1) m.0 n × Foreign (st.word - 1) m.0 n

  abbrev pub Takes : ℕ → Step S → Me S Book → ℕ → Me S Book → Type 0
  Takes a st m n m' = (m' ≡ (tried m.0 (st.word - 1) st.first a n, m.1)) × Unchanged (st.word - 1) m.0 n × Moved (st.word - 1) m.0 n × Foreign (st.word - 1) m.0 n

  -- the clock is far from its end, and not below what was known of it
  abbrev pub Ticks : Map ℕ → Step S → Me S Book → ℕ → Me S Book → Type 0
  Ticks due st m n m' = (n ≤ 2 ^ 60) × (m.0.seen ≤ n) × (m' ≡ (ticked_up m.0 (n + 1) due, m.1))

  abbrev pub Decides : Entry → Step S → Me S Book → ℕ → Me S Book → Type 0
  Decides e st m n m' = m' ≡ (decided_up m.0 e (st.word - 4097), m.1)

  abbrev pub Writes_back : Step S → Me S Book → ℕ → Me S Book → Type 0
  Writes_back st m n m' = m' ≡ (wrote_back m.0 (st.word - 4097), m.1)

  abbrev pub Releases : Step S → Me S Book → ℕ → Me S Book → Type 0
  Releases st m n m' = m' ≡ (released m.0 (st.word - 1), m.1)

  abbrev pub Gives : Bool → Step S → Me S Book → ℕ → Me S Book → Type 0
  Gives kept st m n m' = m' ≡ (gave_up m.0 (st.word - 1) kept, m.1)

abbrev pub no_entry : Entry
no_entry = record { stamp = record { at = 0; update = false }; call = no_call; answer = Spent; reads = []; writes = []; used_before = 0; used_after = 0 }
