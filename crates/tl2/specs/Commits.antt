-- The stripes that a commit holds.
use Rattle.std.specs.Prelude.{◌≡◌, ◌≢◌, ◌⊎◌, ◌≤◌, ◌+◌, ◌%◌, ℕ, true, false, List, [], ◌∷◌, ◌++◌, All}
use Rattle.jmodel.specs.declared.value.Answer.{Answer}
use Rattle.jmodel.specs.history.Log.{Log}
use Rattle.jmodel.specs.history.History.{Entry}
use Rattle.tx_table.specs.Book.{Book, Lost, Map, Unticked, Decided, Away, In, lookup}
use Rattle.tx_table.specs.Plays.{accesses, region_of, used_in}
use Rattle.tl2.specs.declared.plan.Stripe.{Stripe}
use Rattle.tl2.specs.Plans.{words_of, IsListed}

-- just these stripes are held, with the words that they had
abbrev pub Holds : List Stripe → Book → Type 0
Holds stripes v = IsListed v.face.held (words_of stripes)

-- The books of one pass before and after steps of one attempt, which met these conflicts, moved the clock so often,
-- began no other attempt, added no entry, and kept the reads.
pub record IsRest (met : List Lost) (moved : ℕ) (v w : Book) : Type 0 where
  pub number : w.face.number ≡ v.face.number
  pub stage : (w.face.stage ≡ Unticked) ⊎ (w.face.stage ≡ v.face.stage)
  pub numbers : w.numbers ≡ v.numbers
  pub fresh : w.fresh ≡ v.fresh
  pub begins : w.begins ≡ v.begins
  pub ticks : w.ticks ≡ v.ticks + moved
  pub regions : w.regions ≡ v.regions
  pub entries : w.entries ≡ v.entries
  pub lost : w.lost ≡ met ++ v.lost
  pub call : w.call ≡ v.call
  pub bound : w.bound ≡ v.bound
  pub reads : w.reads ≡ v.reads
  pub seen : v.seen ≤ w.seen

-- The attempt's reads stand, and it has not ticked.
pub record IsTaking (v w : Book) : Type 0 where
  pub rest : IsRest [] 0 v w
  pub stage : w.face.stage ≡ Unticked
  pub live : w.live ≡ true

-- What the attempt of w means to write, that of v means to write too, or it keeps to P.
abbrev pub MeansOnly : (ℕ → Type 0) → Book → Book → Type 0
MeansOnly P v w = (a : ℕ) → In a w.wants → In a v.wants ⊎ P a

-- The stripes of these addresses were free with a version up to the bound.
abbrev pub IsChecked : List ℕ → Book → Book → Type 0
IsChecked addresses v w = (checked : List ℕ) × (w ≡ record v { checked = checked }) × All (λ a. In (a % 4096) checked) addresses

-- the attempt is decided and holds stripes, or it holds none and is over
abbrev pub IsReleasing : Book → Type 0
IsReleasing v = ((v.face.stage ≡ Decided) × (v.face.held ≢ [])) ⊎ ((v.face.stage ≡ Unticked) × (v.face.held ≡ []))

-- the attempt is decided, its entry is added, and these writes are left to do
abbrev pub stored : Book → Entry → Map ℕ → Book
stored v e left = record v { face = record v.face { stage = Decided; left = left }; live = false; look = Away; entries = e ∷ v.entries; regions = region_of e ∷ v.regions }

-- the entry of an attempt that ticked at t, wrote this, answers x and leaves its region with these used words
abbrev pub update_of : Book → ℕ → Log → Answer → ℕ → Entry
update_of v t w x used = record {
  stamp = record { at = t; update = true };
  call = v.call;
  answer = x;
  reads = accesses v.reads;
  writes = w;
  used_before = used_in (lookup v.regions v.call.region);
  used_after = used;
}

-- The books of one pass before and after an attempt that moved the clock once and added an entry.
pub record IsAdded (e : Entry) (v w : Book) : Type 0 where
  pub number : w.face.number ≡ v.face.number
  pub numbers : w.numbers ≡ v.numbers
  pub fresh : w.fresh ≡ v.fresh
  pub begins : w.begins ≡ v.begins
  pub ticks : w.ticks ≡ v.ticks + 1
  pub regions : w.regions ≡ region_of e ∷ v.regions
  pub entries : w.entries ≡ e ∷ v.entries
  pub lost : w.lost ≡ v.lost
  pub seen : e.stamp.at ≤ w.seen
