-- What each step over the shared words does to the book of its pass, and what an entry owes to the attempt that adds it.
use Rattle.std.specs.Prelude.{◌≡◌, ◌⊎◌, ℕ, ◌+◌, ◌-◌, ◌*◌, ◌/◌, ◌%◌, ◌≤◌, Bool, true, false, cond, ◌==◌, leb, List, [], ◌∷◌, ◌++◌, map, max}
use mathlib.Core.Option.{Option, none, some}
use Rattle.jmodel.specs.declared.value.Answer.{Answer}
use Rattle.jmodel.specs.history.Log.{Log}
use Rattle.jmodel.specs.history.History.{Call, Entry, leaves_words}
use Rattle.tx_table.specs.Book.{Map, lookup, without, only, pairs, Region, Stage, Unticked, Ticked, Decided, Look, Away, Saw, Had, Book, IsOfLane}
use Rattle.tx_table.specs.Rule.{Story, Succeeds, nobody}

abbrev pub no_call : Call
no_call = record { phase = 0; lane = 0; index = 0; method = 0; args = []; region = 0 }

-- the book of a pass that was joined to another
abbrev pub spent_book : Book
spent_book = record {
  face = nobody;
  numbers = 0;
  fresh = 0;
  begins = 0;
  ticks = 0;
  seen = 0;
  regions = [];
  entries = [];
  lost = [];
  live = false;
  call = no_call;
  bound = 0;
  reads = [];
  wants = [];
  look = Away;
  goal = 0;
  checked = [];
}

abbrev pub opening_regions : Map ℕ → Map Region
opening_regions [] = []
opening_regions (x ∷ xs) = (x.0, record { used = x.1; last = none }) ∷ opening_regions xs

-- the book of the first pass, which holds all numbers and regions
abbrev pub first_book : Story → Book
first_book S = record spent_book { numbers = 1048576; fresh = 1048575; regions = opening_regions S.regions }

-- an attempt at a call begins, with the clock as its bound
abbrev pub begun : Book → Call → ℕ → Book
begun v call n = record v { begins = v.begins + 1; live = true; call = call; seen = n; bound = n; goal = n; reads = []; wants = []; look = Away; checked = [] }

abbrev pub used_in : Option Region → ℕ
used_in none = 0
used_in (some g) = g.used

-- the attempt met a conflict at the address a, where a stripe showed n
abbrev pub lost_at : Book → ℕ → ℕ → Book
lost_at v a n = record v {
  live = false;
  look = Away;
  lost = record { call = v.call; used = used_in (lookup v.regions v.call.region); address = a; word = n; upto = v.bound; reads = v.reads } ∷ v.lost;
}

-- a stripe's word that is free, with a version up to the bound
abbrev pub is_free : ℕ → Bool
is_free n = n % 2 == 0

abbrev pub fits : ℕ → ℕ → Bool
fits bound n = leb n (2 * bound)

-- a look at the stripe of a, which showed n; a version over the bound is a conflict, unless it may be newer
abbrev pub looked : Book → ℕ → Bool → ℕ → Book
looked v a newer n = cond (is_free n) (cond newer (record v { look = Saw (a % 4096) (n / 2) }) (cond (fits v.bound n) (record v { look = Saw (a % 4096) (n / 2) }) (lost_at v a n))) (lost_at v a n)

-- a load of the address a that gave n
abbrev pub loaded_at : Look → Book → ℕ → ℕ → Book
loaded_at (Saw s u) v a n = record v { look = Had s u a n }
loaded_at (Had s u b x) v a n = record v { look = Had s u a n }
loaded_at Away v a n = v

-- the value that was loaded since a look
abbrev pub value_in : Look → ℕ
value_in (Had s u a x) = x
value_in _ = 0

-- the word that a look in flight showed, or else w
abbrev pub word_in : Look → ℕ → ℕ
word_in Away w = w
word_in (Saw s u) w = 2 * u
word_in (Had s u a x) w = 2 * u

-- a read that gave x is logged
abbrev pub logged : Book → ℕ → ℕ → Book
logged v a x = record v { reads = (a, x) ∷ v.reads; look = Away; checked = [] }

-- a second look, which showed n: the read is logged where that is the first one's word
abbrev pub checked_at : Look → Book → ℕ → Book
checked_at (Had s u a x) v n = cond (n == 2 * u) (logged v a x) (lost_at v a n)
checked_at _ v n = v

-- the reads hold up to the goal, which is the bound from now on
abbrev pub extended : Book → Book
extended v = record v { bound = v.goal; seen = v.goal; look = Away; checked = [] }

-- an extension begins, and the clock is n; the bound moves at once where the whole of the reads lies on stripes that are held
abbrev pub extending : Book → Bool → ℕ → Book
extending v whole n = cond whole (extended (record v { goal = n })) (record v { goal = n; look = Away; checked = [] })

-- the stripe s was validated, as the last one of an extension or not
abbrev pub passed : Book → ℕ → Bool → Book
passed v s last = cond last (extended v) (record v { checked = s ∷ v.checked })

-- the stripe s shows a free version up to the bound, or else the address a is lost
abbrev pub validated : Book → ℕ → Bool → ℕ → ℕ → Book
validated v a last s n = cond (is_free n) (cond (fits v.bound n) (passed v s last) (lost_at v a n)) (lost_at v a n)

-- the stripe s is held, for the address a
abbrev pub took : Book → ℕ → ℕ → ℕ → Book
took v s word a = record v { face = record v.face { held = (s, word) ∷ v.face.held }; wants = a ∷ v.wants; look = Away }

-- a compare-exchange that finds the word as it was takes the stripe
abbrev pub tried : Book → ℕ → ℕ → ℕ → ℕ → Book
tried v s old a n = cond (n == old) (took v s old a) (lost_at v a n)

abbrev pub keys : Map ℕ → List ℕ
keys m = map (λ (x : ℕ × ℕ). x.0) m

-- the clock is now n, and these are the writes
abbrev pub ticked_up : Book → ℕ → Map ℕ → Book
ticked_up v n due = record v { face = record v.face { stage = Ticked; tick = n; due = due }; ticks = v.ticks + 1; seen = n; wants = keys due ++ v.wants; look = Away; goal = n; checked = [] }

abbrev pub region_of : Entry → ℕ × Region
region_of e = (e.call.region, record { used = e.used_after; last = some e.call })

-- the reader's entry is added
abbrev pub finished : Book → Entry → Book
finished v e = record v { live = false; look = Away; entries = e ∷ v.entries; regions = region_of e ∷ v.regions }

-- the update's entry is added, and a is written
abbrev pub decided_up : Book → Entry → ℕ → Book
decided_up v e a = record v { face = record v.face { stage = Decided; left = without v.face.due a }; live = false; look = Away; entries = e ∷ v.entries; regions = region_of e ∷ v.regions }

abbrev pub wrote_back : Book → ℕ → Book
wrote_back v a = record v { face = record v.face { left = without v.face.left a } }

abbrev pub stage_of : Map ℕ → Stage
stage_of [] = Unticked
stage_of _ = Decided

-- the stripe s is given back with the tick as its version
abbrev pub released : Book → ℕ → Book
released v s = record v { face = record v.face { stage = stage_of (without v.face.held s); held = without v.face.held s } }

-- the stripe s is given back as it was; the reads may be kept
abbrev pub gave_up : Book → ℕ → Bool → Book
gave_up v s kept = record v { face = record v.face { stage = Unticked; held = without v.face.held s; left = [] }; live = kept; look = Away }

abbrev pub inverse : (ℕ → Bool) → ℕ → Bool
inverse p k = cond (p k) false true

-- what is left where the regions of `given` go to another pass
abbrev pub stays_here : (ℕ → Bool) → Book → Book
stays_here given v = record v { numbers = v.numbers - 1; fresh = v.fresh - 1; regions = only (inverse given) v.regions }

-- the other pass: it has the greatest fresh number
abbrev pub goes_out : (ℕ → Bool) → Book → Book
goes_out given v = record spent_book { face = record nobody { number = v.fresh }; numbers = 1; seen = v.seen; regions = only given v.regions }

abbrev pub joined : Book → Book → Book
joined v w = record v {
  numbers = v.numbers + w.numbers;
  fresh = v.fresh + w.fresh;
  begins = v.begins + w.begins;
  ticks = v.ticks + w.ticks;
  seen = max v.seen w.seen;
  regions = v.regions ++ w.regions;
  entries = v.entries ++ w.entries;
  lost = v.lost ++ w.lost;
  live = false;
  look = Away;
}

-- a look at a stripe is in flight
abbrev pub Aims : Look → ℕ → Type 0
Aims (Saw s u) i = s ≡ i
Aims (Had s u a x) i = s ≡ i
Aims Away i = ⊥

-- the value of a was loaded after a look at its stripe, which was free with a version up to the bound
abbrev pub IsLoaded : Look → ℕ → ℕ → Type 0
IsLoaded (Had s u b x) a bound = (s ≡ a % 4096) × (b ≡ a) × (u ≤ bound)
IsLoaded _ a bound = ⊥

-- What an entry owes to the attempt that adds it.
pub record Fits (S : Story) (v : Book) (e : Entry) : Type 0 where
  pub call : e.call ≡ v.call
  pub reads : pairs e.reads ≡ v.reads
  pub region : (g : Region) × (lookup v.regions e.call.region ≡ some g) × (g.used ≡ e.used_before) × Succeeds e.call g.last
  pub lane : IsOfLane e.call
  pub runs : S.runs e
  pub stays : (e.writes ≡ []) ⊎ (leaves_words e.answer ≡ false) → e.used_after ≡ e.used_before

-- the entry of an attempt that wrote nothing
pub record Reads (S : Story) (v : Book) (e : Entry) : Type 0 where
  pub fits : Fits S v e
  pub stamp : e.stamp.at ≡ v.bound
  pub update : e.stamp.update ≡ false
  pub writes : e.writes ≡ []

-- the entry of an attempt with a tick
pub record Updates (S : Story) (v : Book) (e : Entry) : Type 0 where
  pub fits : Fits S v e
  pub stamp : e.stamp.at ≡ v.face.tick
  pub update : e.stamp.update ≡ true
  pub writes : pairs e.writes ≡ v.face.due

-- a split that gives no region away
abbrev pub no_regions : ℕ → Bool
no_regions r = false

abbrev pub accesses : Map ℕ → Log
accesses [] = []
accesses (x ∷ xs) = record { address = x.0; word = x.1 } ∷ accesses xs

-- the entry of an attempt with a tick that answers x and leaves its region with these used words
abbrev pub update_entry : Book → Answer → ℕ → Entry
update_entry v x used = record {
  stamp = record { at = v.face.tick; update = true };
  call = v.call;
  answer = x;
  reads = accesses v.reads;
  writes = accesses v.face.due;
  used_before = used_in (lookup v.regions v.call.region);
  used_after = used;
}

-- the entry of an attempt that wrote nothing
abbrev pub reader_entry : Book → Answer → Entry
reader_entry v x = record {
  stamp = record { at = v.bound; update = false };
  call = v.call;
  answer = x;
  reads = accesses v.reads;
  writes = [];
  used_before = used_in (lookup v.regions v.call.region);
  used_after = used_in (lookup v.regions v.call.region);
}
