-- The stripes that an attempt took for its writes.
use Rattle.std.specs.Prelude.{◌≡◌, ◌≤◌, ◌+◌, ◌*◌, ◌%◌, ◌==◌, ◌&&◌, ℕ, Bool, true, false, not, List, [], ◌∷◌, All, reverse}
use Rattle.std.specs.Ordering.{nat_cmp}
use Rattle.std.specs.BTreeSet.{BTreeSet, contains}
use mathlib.Core.Option.{Option, none, some}
use Rattle.jmodel.specs.declared.access.Access.{Access}
use Rattle.jmodel.specs.history.Log.{Log}
use Rattle.tx_table.specs.Book.{Book, Map, Away, Has, lookup, pairs}
use Rattle.tx_table.specs.Plays.{took}
use Rattle.tl2.specs.declared.plan.Stripe.{Stripe}
use Rattle.tl2.specs.Plans.{addresses_of, touches, words_of}

-- a word is there
abbrev pub found : Option ℕ → Bool
found none = false
found (some x) = true

-- no address stands twice
abbrev pub apart : Log → Bool
apart [] = true
apart (l ∷ ls) = not (found (lookup (pairs ls) l.address)) && apart ls

-- Just these stripes are held, with the words that they had.
pub record HasTaken (stripes : List Stripe) (v : Book) : Type 0 where
  pub same : (n : ℕ) → lookup v.face.held n ≡ lookup (pairs (words_of stripes)) n
  pub once : apart (words_of stripes) ≡ true

-- The numbers of these stripes are at hand, each has an address that the attempt wrote, and each address that it wrote has one. None had a version
-- over the bound.
pub record IsOwning (stripes : List Stripe) (own : BTreeSet ℕ) (log : List Access) (v : Book) : Type 0 where
  pub numbers : (n : ℕ) → contains nat_cmp own n ≡ touches (addresses_of stripes) n
  pub only : All (λ a. found (lookup (pairs (reverse log)) a) ≡ true) (addresses_of stripes)
  pub each : (a : ℕ) → Has (pairs (reverse log)) a → touches (addresses_of stripes) (a % 4096) ≡ true
  pub low : (n w : ℕ) → lookup v.face.held n ≡ some w → w ≤ 2 * v.bound

-- a number is one of these, and not that of the stripe of an address which is wanted
abbrev pub is_own : BTreeSet ℕ → ℕ → ℕ → Bool
is_own own wanted n = contains nat_cmp own n && not (n == wanted % 4096)

-- each of these addresses lies on such a stripe
abbrev pub all_own : BTreeSet ℕ → ℕ → List ℕ → Bool
all_own own wanted [] = true
all_own own wanted (a ∷ xs) = is_own own wanted (a % 4096) && all_own own wanted xs

-- the numbers, but for that of the stripe of the wanted address, are those of the stripes that a book holds
abbrev pub Tells : BTreeSet ℕ → ℕ → Book → Type 0
Tells own wanted v = (n : ℕ) → (is_own own wanted n ≡ true → Has v.face.held n) × (is_own own wanted n ≡ false → lookup v.face.held n ≡ none)

-- the bound moved to n
abbrev pub moved : Book → ℕ → Book
moved v n = record v { bound = n; seen = n; goal = n; look = Away; checked = [] }

-- The books of one pass before and after steps that left the attempt as it was, but for its bound, which may have moved.
pub record IsOn (v w : Book) : Type 0 where
  pub face : w.face ≡ v.face
  pub numbers : w.numbers ≡ v.numbers
  pub fresh : w.fresh ≡ v.fresh
  pub begins : w.begins ≡ v.begins
  pub ticks : w.ticks ≡ v.ticks
  pub regions : w.regions ≡ v.regions
  pub entries : w.entries ≡ v.entries
  pub lost : w.lost ≡ v.lost
  pub live : w.live ≡ v.live
  pub call : w.call ≡ v.call
  pub reads : w.reads ≡ v.reads
  pub wants : w.wants ≡ v.wants
  pub seen : v.seen ≤ w.seen
  pub bound : v.bound ≤ w.bound
  pub even : v.bound ≡ v.seen → w.bound ≡ w.seen

-- And then the stripe of an address was taken, whose old version is not over the bound.
pub record IsTaken (a word : ℕ) (v w : Book) : Type 0 where
  pub before : Book
  pub on : IsOn v before
  pub took : w ≡ took before (a % 4096) word a
  pub low : word ≤ 2 * before.bound

-- the same pass within an attempt: what it may hand on, and its regions
abbrev pub IsAkin : Book → Book → Type 0
IsAkin v w = (w.numbers ≡ v.numbers) × (w.fresh ≡ v.fresh) × (w.ticks ≡ v.ticks) × (w.regions ≡ v.regions)
