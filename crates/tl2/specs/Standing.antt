-- What an engine over a table stands for.
use Rattle.std.specs.Prelude.{◌≡◌, ◌≢◌, ◌<◌, ◌≤◌, ◌%◌, ◌++◌, ℕ, true, None, List, All, length, reverse}
use mathlib.Core.Option.{Option, some, none}
use Rattle.atomic_table.specs.Seated.{TableId}
use Rattle.jmodel.specs.declared.access.Access.{Access}
use Rattle.jmodel.specs.history.Log.{Log, access, written}
use Rattle.jmodel.specs.history.History.{Call, Entry}
use Rattle.tx_table.specs.Book.{Book, Region, Saw, Had, In, lookup, pairs, rises, IsOfLane}
use Rattle.tx_table.specs.Rule.{Succeeds, last_of}
use Rattle.tx_table.specs.declared.shared.Pass.{Pass}
use Rattle.tx_table.specs.Passes.{book}
use Rattle.tl2.specs.declared.attempt.At.{At}
use Rattle.tl2.specs.declared.attempt.At.TheVariants.{Outside, Inside, Looked, Loaded}

-- Where the engine stands is where its pass stands: with no look in flight that counts, or with one of an address below `words`.
abbrev pub IsAt : ℕ → At → Book → Type 0
IsAt words Outside v = ⊥
IsAt words Inside v = Unit {0}
IsAt words (Looked a) v = (a < words) × ((version : ℕ) × (v.look ≡ Saw (a % 4096) version) × (version ≤ v.bound))
IsAt words (Loaded l) v = (l.address < words) × ((version : ℕ) × (v.look ≡ Had (l.address % 4096) version l.address l.word) × (version ≤ v.bound))

-- a look at an address came before, unless the attempt has written it
abbrev pub IsLooked : ℕ → At → List Access → ℕ → Type 0
IsLooked words at kept a = a < words → written (reverse kept) a ≡ None → at ≡ Looked a

-- and after it the load that gave x
abbrev pub IsLoaded : ℕ → At → List Access → ℕ → ℕ → Type 0
IsLoaded words at kept a x = a < words → written (reverse kept) a ≡ None → at ≡ Loaded (access a x)

-- an attempt at the call c is open
abbrev pub IsOpen : ℕ → At → Call → Book → Type 0
IsOpen words at c v = (v.live ≡ true) × (v.call ≡ c) × IsAt words at v

-- The call named is c, and it may come next in its region, of which these words are used.
abbrev pub Awaits : Call → Book → Call → ℕ → Type 0
Awaits named v c used = (c ≡ named) × IsOfLane c × ((g : Region) × (lookup v.regions c.region ≡ some g) × (g.used ≡ used) × Succeeds c g.last)

-- An entry is before a call where, if it is of the call's region, its call comes first.
abbrev pub IsBefore : Call → Entry → Type 0
IsBefore c e = e.call.region ≡ c.region → rises e.call c ≡ true

-- An entry of the same phase and lane as a call, with a lower index.
abbrev pub IsEarlier : Call → Entry → Type 0
IsEarlier c e = (e.call.phase ≡ c.phase) × (e.call.lane ≡ c.lane) × (e.call.index < c.index)

-- An entry stands behind all that was known at a value of the clock: an update is over it, and a reader isn't below it.
abbrev pub IsBehind : ℕ → Entry → Type 0
IsBehind seen e = (seen ≤ e.stamp.at) × (e.stamp.update ≡ true → seen < e.stamp.at)

-- a region after the last of the entries that were made since it was so
abbrev pub region_since : Option Region → Option Entry → Option Region
region_since g none = g
region_since g (some e) = some (record { used = e.used_after; last = some e.call })

-- What a pass's book v has since it was b: the entries that were made, the newest first. They stand behind all that b knew, and the clock
-- that v knows isn't below them. A pass that holds every number met no conflict.
pub record IsSince (b v : Book) : Type 0 where
  pub numbers : v.numbers ≡ b.numbers
  pub fresh : v.fresh ≡ b.fresh
  pub seen : b.seen ≤ v.seen
  pub made : List Entry
  pub entries : v.entries ≡ made ++ b.entries
  pub behind : (e : Entry) → In e made → IsBehind b.seen e
  pub known : (e : Entry) → In e made → e.stamp.at ≤ v.seen
  pub regions : (r : ℕ) → lookup v.regions r ≡ region_since (lookup b.regions r) (last_of made r)
  pub lost : b.numbers ≡ 1048576 → v.lost ≡ b.lost

-- What a pass keeps between calls that began with these books, each over one of these tables.
abbrev pub Keeps : (TableId → Book → Type 0) → Pass → Type 0
Keeps began p = (t : TableId) (b : Book) → began t b → (p.seat.table_id ≡ t) × IsSince b (book p)

-- The entries and conflicts of a pass, what its attempt has read and written, and what the pass keeps between calls.
pub record Stands (began : TableId → Book → Type 0) (words : ℕ) (at : At) (kept : List Access) (p : Pass)
    (h : List Entry) (n : ℕ) (r w : Log) : Type 0 where
  pub entries : (book p).entries ≡ reverse h
  pub lost : length (book p).lost ≡ n
  pub reads : at ≢ Outside → (book p).reads ≡ pairs r
  pub writes : reverse kept ≡ w
  pub within : All (λ (l : Access). l.address < words) w
  pub bound : at ≢ Outside → (book p).bound ≡ (book p).seen
  pub keeps : Keeps began p
