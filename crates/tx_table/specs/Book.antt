-- What a pass over the table of shared words knows: the entries that it made, the regions it holds, and its attempt.
use Rattle.std.specs.Prelude.{◌≡◌, ◌⊎◌, ℕ, suc, Bool, cond, ◌==◌, List, [], ◌∷◌, nat_lt}
use mathlib.Core.Option.{Option, none, some}
use Rattle.jmodel.specs.history.Log.{Log}
use Rattle.jmodel.specs.history.History.{Call, Entry, round, first_by}

-- a finite map as pairs, of which the first with a key counts
abbrev pub Map : Type 0 → Type 0
Map A = List (ℕ × A)

abbrev pub lookup : {A : Type 0} → Map A → ℕ → Option A
lookup [] a = none
lookup (x ∷ xs) a = cond (x.0 == a) (some x.1) (lookup xs a)

abbrev pub without : {A : Type 0} → Map A → ℕ → Map A
without [] a = []
without (x ∷ xs) a = cond (x.0 == a) (without xs a) (x ∷ without xs a)

abbrev pub Has : {A : Type 0} → Map A → ℕ → Type 0
Has {A} m a = (x : A) × (lookup m a ≡ some x)

-- the keys that the test allows
abbrev pub only : {A : Type 0} → (ℕ → Bool) → Map A → Map A
only p [] = []
only p (x ∷ xs) = cond (p x.0) (x ∷ only p xs) (only p xs)

abbrev pub In : {A : Type 0} → A → List A → Type 0
In e [] = ⊥
In e (x ∷ xs) = (e ≡ x) ⊎ In e xs

-- reads or writes as a map
abbrev pub pairs : Log → Map ℕ
pairs [] = []
pairs (l ∷ r) = (l.address, l.word) ∷ pairs r

-- a region: how many of its words are used, and the call of the last entry in it
pub record Region : Type 0 where
  pub used : ℕ
  pub last : Option Call

-- an attempt that met a conflict: at which address, the word seen, and the bound up to which its reads hold
pub record Lost : Type 0 where
  pub call : Call
  pub used : ℕ
  pub address : ℕ
  pub word : ℕ
  pub upto : ℕ
  pub reads : Map ℕ

-- how far an attempt is that may hold stripes
pub data Stage : Type 0 where
  Unticked : Stage
  Ticked : Stage
  Decided : Stage

-- a look in flight: the stripe and its version, and the address with the value that was loaded since
pub data Look : Type 0 where
  Away : Look
  Saw : (stripe version : ℕ) → Look
  Had : (stripe version address value : ℕ) → Look

-- What the books of other passes depend on: the own number, the tick, the writes from the tick on, the stripes held with
-- their old words, and of the writes those that are not yet in the heap.
pub record Face : Type 0 where
  pub number : ℕ
  pub stage : Stage
  pub tick : ℕ
  pub due : Map ℕ
  pub held : Map ℕ
  pub left : Map ℕ

-- A book. `live` is true while the attempt's reads hold, up to `bound`; those on a checked stripe hold up to `goal`.
pub record Book : Type 0 where
  pub face : Face
  -- how many numbers it holds, and how many of them were never given out
  pub numbers : ℕ
  pub fresh : ℕ
  -- how many attempts it began
  pub begins : ℕ
  -- how often it moved the clock, and the greatest value of the clock that it knows
  pub ticks : ℕ
  pub seen : ℕ
  pub regions : Map Region
  pub entries : List Entry
  pub lost : List Lost
  pub live : Bool
  pub call : Call
  pub bound : ℕ
  pub reads : Map ℕ
  -- the addresses that it means to write: those for which it took stripes, and from the tick on those of its writes too
  pub wants : List ℕ
  pub look : Look
  pub goal : ℕ
  pub checked : List ℕ

-- one call stands after another: by round, lane and index
abbrev pub rises : Call → Call → Bool
rises a b = first_by (round a) (round b) (first_by a.lane b.lane (nat_lt a.index b.index))

-- the static initialisers take words from region 0, and lane k from region k + 1
abbrev pub IsOfLane : Call → Type 0
IsOfLane c = (c.region ≡ 0) ⊎ (c.region ≡ suc c.lane)
