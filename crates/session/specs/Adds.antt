-- What one call adds to the history, and to what is kept of its lane.
use Rattle.std.specs.Prelude.{◌≡◌, ◌<◌, ◌≤◌, ◌+◌, ℕ, List, [], ◌∷◌, ◌++◌, length, map, filter, Bool, true, false, not, ℤ, Option, Some, None, min}
use Rattle.std.specs.Bool.{MatchBool}
use Rattle.std.specs.List.{AllByRecursion}
use Rattle.jmodel.specs.declared.value.Answer.{Answer}
use Rattle.jmodel.specs.declared.value.Answer.TheVariants.{Spent}
use Rattle.jmodel.specs.declared.value.Value.{Value}
use Rattle.objects.specs.semantics.Program.{Method, Program, method_at}
use Rattle.objects.specs.rewriting.Attempt.{Log, Bounds, Meter, Ended, Comes, run_start, count_of}
use Rattle.jmodel.specs.history.History.{Call, Entry, Told, told}
use Rattle.jmodel.specs.history.Schedule.{Known, is_memory}
use Rattle.machine.specs.declared.room.Room.{Room}
use Rattle.machine.specs.Machine.{AddsNone, HasTried}
use Rattle.session.specs.declared.record.Record.{Record}
use Rattle.session.specs.declared.record.Lane.{Lane}
use Rattle.session.specs.declared.record.Place.{Place}
use Rattle.session.specs.Lane.{is_placed, record_of, Takes}

-- the call at a place, which takes words of a room's region
abbrev pub call_of : Room → Place → Known → Call
call_of room at c = record { phase = at.phase; lane = at.lane; index = at.first; method = c.method; args = c.args; region = room.region }

-- what the record of the call at a place tells
abbrev pub told_by : Room → Place → Known → Record → Told
told_by room at c r = record { stamp = r.stamp; call = call_of room at c; answer = r.answer }

-- a call whose attempts were used up was not made
abbrev pub is_spent : Answer → Bool
is_spent Spent = true
is_spent x = false

-- One entry more, of which this is told, with these used words of its region before and after it, none of which is given back. Conflicts may have come
-- before it.
pub record AddsEntry (S : List Entry → ℕ → Log → Log → Type 0) (h : List Entry) (n before : ℕ) (t : Told) (after : ℕ) : Type 0 where
  pub entry : Entry
  pub told_is : told entry ≡ t
  pub used_before : entry.used_before ≡ before
  pub used_after : entry.used_after ≡ after
  pub grows : before ≤ after
  pub conflicts : ℕ
  pub later : n ≤ conflicts
  pub stands : S (h ++ entry ∷ []) conflicts [] []

-- no entry more, and no word taken
abbrev pub AddsNothing : (ℕ → Log → Log → Type 0) → ℕ → ℕ → ℕ → Type 0
AddsNothing S n before after = AddsNone S n × (after ≡ before)

-- how many attempts a call may make: the lesser of its method's number and that of its limits
abbrev pub count_in : Option ℤ → ℕ
count_in None = 0
count_in (Some n) = count_of n

abbrev pub limit_of : Option Method → ℕ → ℕ
limit_of None attempts = 0
limit_of (Some k) attempts = min (count_in k.retries) attempts

-- The run of a call of the rewriting Q of P ends for want of attempts, once it has made so many: as many as it may.
pub record IsUsedUp (P Q : Program) (B : Bounds) (method : ℕ) (args : List Value) (tried : ℕ) : Type 0 where
  pub meter : Meter
  pub comes : Comes Q B (run_start Q B method args) (Ended Spent meter [] [])
  pub tried_are : meter.tried ≡ tried
  pub some : 0 < tried
  pub all : limit_of (method_at P method) B.attempts ≤ tried
  pub most : tried ≤ B.attempts

-- No entry more, and no word taken: the attempts of the call are used up, and each of them met a conflict.
pub record AddsSpent (P Q : Program) (B : Bounds) (c : Call) (S : ℕ → Log → Log → Type 0) (n after : ℕ) : Type 0 where
  pub tried : ℕ
  pub used_up : IsUsedUp P Q B c.method c.args tried
  pub stands : S (n + tried) [] []
  pub unused : after ≡ B.used

-- What a call of a program, P, by its rewriting, Q, adds to the history h after n conflicts, with these used words of its region after it: its entry; or
-- none, where it ran out of memory, or where its attempts were used up.
abbrev pub AddsCall : Program → Program → Bounds → (List Entry → ℕ → Log → Log → Type 0) → List Entry → ℕ → Told → ℕ → Type 0
AddsCall P Q B S h n t after =
    MatchBool (is_spent t.answer) (AddsSpent P Q B t.call (S h) n after) (MatchBool (is_memory t.answer) (AddsNothing (S h) n B.used after) (AddsEntry S h n B.used t after))

abbrev pub has_place : Record → Bool
has_place r = not (is_memory r.answer)

abbrev pub has_none : Record → Bool
has_none r = is_memory r.answer

-- one call more was made, after which so many words are used, and its record stands last among the placed or the unplaced ones
pub record AddsRecord (old new : Lane) (r : Record) (used : ℕ) : Type 0 where
  pub made : new.made ≡ old.made + 1
  pub used_are : new.used ≡ used
  pub placed : new.placed.items ≡ old.placed.items ++ filter has_place (r ∷ [])
  pub unplaced : new.unplaced.items ≡ old.unplaced.items ++ filter has_none (r ∷ [])

-- A call of a lane was made, and this record stands last, behind which so many words are used. Or its attempts are used up, as the record says; the lane is as
-- it was, and no word more is used.
abbrev pub KeepsRecord : Bool → Lane → Lane → Record → ℕ → Type 0
KeepsRecord true old new r used = AddsRecord old new r used
KeepsRecord false old new r used = (is_spent r.answer ≡ true) × (new ≡ old) × (used ≡ old.used)

-- A call of a lane was made: it added its entry, unless it ran out of memory, and its record.
pub record AddsMade (c : Call) (S : List Entry → ℕ → Log → Log → Type 0) (h : List Entry) (n : ℕ) (old new : Lane) : Type 0 where
  pub told_of : Told
  pub of_call : told_of.call ≡ c
  pub record_is : AddsRecord old new (record_of told_of) new.used
  pub added : List Entry
  pub are : map told added ≡ filter is_placed (told_of ∷ [])
  pub entries : AllByRecursion (λ (e : Entry). e.call ≡ c) added
  pub takes : Takes c.region old.used added new.used
  pub grows : old.used ≤ new.used
  pub conflicts : ℕ
  pub later : n ≤ conflicts
  pub stands : S (h ++ added) conflicts [] []

-- a call of a lane was made, or its attempts are used up and the lane is as it was
abbrev pub AddsOne : Bool → Program → Program → Bounds → Call → (List Entry → ℕ → Log → Log → Type 0) → List Entry → ℕ → Lane → Lane → Type 0
AddsOne true P Q B c S h n old new = AddsMade c S h n old new
AddsOne false P Q B c S h n old new = (new ≡ old) × AddsSpent P Q B c (S h) n old.used

-- The attempts that a call of a lane began after k: those that met a conflict since n, and one more where its record is among the placed ones.
abbrev pub TriesOne : Bool → (List Entry → ℕ → Log → Log → Type 0) → (ℕ → Type 0) → ℕ → ℕ → Lane → Lane → Type 0
TriesOne true S A n k old new = length new.placed.items ≡ length old.placed.items + 1 → HasTried S A n k 1
TriesOne false S A n k old new = HasTried S A n k 0

-- no call of the lane was made yet, and so many words are used
pub record IsEmpty (lane : Lane) (used : ℕ) : Type 0 where
  pub made : lane.made ≡ 0
  pub used_are : lane.used ≡ used
  pub placed : lane.placed.items ≡ []
  pub unplaced : lane.unplaced.items ≡ []
