-- What holds of the shared words and of all books together, between any two steps.
-- Word 0 is the clock. Words 1 to 4096 are the stripes, 2 * version where free and 2 * number + 1 where held. The heap follows.
-- (TL2: Dice, Shalev, Shavit, DISC 2006; LSA: Riegel, Felber, Fetzer, DISC 2006, in this project's form.)
use Rattle.std.specs.Prelude.{◌≡◌, ◌≢◌, ◌⊎◌, ℕ, zero, suc, ◌+◌, ◌-◌, ◌*◌, ◌%◌, ◌<◌, ◌≤◌, true, false, cond, ◌==◌, List, [], ◌∷◌, length, slice_index, AllPairs}
use mathlib.Core.Option.{Option, none, some}
use lib.ListN.{get_elem?}
use Rattle.jmodel.specs.history.History.{Call, Entry, IsLegal, memory_after, used_after, leaves_words}
use Rattle.tx_table.specs.Book.{Map, lookup, Has, In, pairs, Region, Unticked, Ticked, Decided, Look, Away, Saw, Had, Face, Book, rises, IsOfLane}

-- What a table is opened for: the heap's words, the regions with the words used in each, and which entries are runs of their
-- calls. No proof about a step looks into `runs`.
pub record Story : Type 1 where
  pub words : List ℕ
  pub regions : Map ℕ
  pub runs : Entry → Type 0

abbrev pub or_zero : Option ℕ → ℕ
or_zero none = 0
or_zero (some x) = x

abbrev pub used_at : Story → ℕ → ℕ
used_at S r = or_zero (lookup S.regions r)

abbrev pub start : Story → ℕ → ℕ
start S a = slice_index S.words a

abbrev pub stripe : ℕ → ℕ
stripe a = a % 4096

-- What the update of each stamp wrote at each address.
abbrev pub Writes : Type 0
Writes = ℕ → ℕ → Option ℕ

abbrev pub first_of : Option ℕ → Option ℕ → Option ℕ
first_of none y = y
first_of (some x) y = some x

-- what the entries with the stamp t wrote at a; here and below the newest entry stands first
abbrev pub wrote : List Entry → Writes
wrote [] t a = none
wrote (e ∷ es) t a = cond (e.stamp.at == t) (first_of (lookup (pairs e.writes) a) (wrote es t a)) (wrote es t a)

abbrev pub or_old : Option ℕ → ℕ → ℕ
or_old none y = y
or_old (some x) y = x

-- the value of a after the updates up to t
abbrev pub value : (ℕ → ℕ) → Writes → ℕ → ℕ → ℕ
value o L zero a = o a
value o L (suc t) a = or_old (L (suc t) a) (value o L t a)

-- the stamp up to which an entry reads
abbrev pub base : Entry → ℕ
base e = cond e.stamp.update (e.stamp.at - 1) e.stamp.at

-- the last entry of a region
abbrev pub last_of : List Entry → ℕ → Option Entry
last_of [] k = none
last_of (e ∷ es) k = cond (e.call.region == k) (some e) (last_of es k)

-- a region after its last entry
abbrev pub region_after : ℕ → Option Entry → Region
region_after used none = record { used = used; last = none }
region_after used (some p) = record { used = p.used_after; last = some p.call }

abbrev pub top_of : Option Entry → ℕ
top_of none = 0
top_of (some p) = p.stamp.at

-- a call comes after the last one of its region
abbrev pub Succeeds : Call → Option Call → Type 0
Succeeds c none = Unit {0}
Succeeds c (some d) = rises d c ≡ true

-- an entry's stamp is over that of the last entry of its region, or the same and the new entry only reads
abbrev pub IsLater : Entry → Option Entry → Type 0
IsLater e none = Unit {0}
IsLater e (some p) = (p.stamp.at < e.stamp.at) ⊎ ((p.stamp.at ≡ e.stamp.at) × (e.stamp.update ≡ false))

-- A new entry, behind those of a list: it continues its region, and no update has its stamp.
pub record Continues (S : Story) (es : List Entry) (e : Entry) : Type 0 where
  pub used : (region_after (used_at S e.call.region) (last_of es e.call.region)).used ≡ e.used_before
  pub call : Succeeds e.call (region_after (used_at S e.call.region) (last_of es e.call.region)).last
  pub later : IsLater e (last_of es e.call.region)
  pub runs : S.runs e
  pub lane : IsOfLane e.call
  pub fresh : e.stamp.update ≡ true → (a : ℕ) → wrote es e.stamp.at a ≡ none
  pub reader : e.stamp.update ≡ false → e.writes ≡ []
  pub writer : e.stamp.update ≡ true → e.writes ≢ []
  pub stamped : e.stamp.update ≡ true → 0 < e.stamp.at
  pub stays : (e.writes ≡ []) ⊎ (leaves_words e.answer ≡ false) → e.used_after ≡ e.used_before

-- each entry continues those that were made before it
abbrev pub Chain : Story → List Entry → Type 0
Chain S [] = Unit {0}
Chain S (e ∷ es) = Continues S es e × Chain S es

abbrev pub Faces : Type 0
Faces = ℕ → Face

-- What a step may change, as functions.
pub record World : Type 0 where
  pub clock : ℕ
  pub log : Writes
  -- the version of each stripe, where it is held the old one
  pub ver : ℕ → ℕ
  -- who holds each stripe: 0, or 1 more than the place of its book
  pub holder : ℕ → ℕ
  -- whose each tick is
  pub whose : ℕ → ℕ
  -- whose each region is
  pub keeper : ℕ → ℕ
  pub faces : Faces
  pub ends : ℕ → Option Entry
  pub mem : ℕ → ℕ

-- any ticked attempt, but that of the book before c, that writes a has its tick over t
abbrev pub Clear : Faces → ℕ → ℕ → ℕ → Type 0
Clear F c t a = (k : ℕ) → suc k ≢ c → (F k).stage ≡ Ticked → Has (F k).due a → t < (F k).tick

module _ (o : ℕ → ℕ) (opening : ℕ → ℕ) (W : World) where
  -- a read of a that gave x holds up to t
  abbrev pub Sees : ℕ → ℕ → ℕ → ℕ → Type 0
  Sees c t a x = (value o W.log t a ≡ x) × Clear W.faces c t a

  -- a stripe was free with the version v: it has this version or one over the bound, and who holds it has no tick up to the bound
  abbrev pub Watch : ℕ → ℕ → ℕ → Type 0
  Watch bound s v = ((W.ver s ≡ v) ⊎ (bound < W.ver s)) × ((k : ℕ) → W.holder s ≡ suc k → (W.faces k).stage ≢ Unticked → bound < (W.faces k).tick)

  -- what was loaded is right, or the recheck fails
  abbrev pub Catch : ℕ → ℕ → ℕ → ℕ → Type 0
  Catch c bound a x = Sees c bound a x ⊎ ((bound < W.ver (stripe a)) ⊎ ((k : ℕ) × (W.holder (stripe a) ≡ suc k) × ((W.faces k).stage ≡ Decided)))

  abbrev pub Looks : ℕ → ℕ → Look → Type 0
  Looks c bound Away = Unit {0}
  Looks c bound (Saw s v) = Watch bound s v
  Looks c bound (Had s v a x) = (stripe a ≡ s) × Watch bound s v × Catch c bound a x

  -- a region of the book at the place j: as it is after its last entry, whose stamp the book knows
  abbrev pub Holds : ℕ → Book → ℕ → Region → Type 0
  Holds j b r g = (W.keeper r ≡ j) × (region_after (opening r) (W.ends r) ≡ g) × (top_of (W.ends r) ≤ b.seen) × (b.live ≡ true → top_of (W.ends r) ≤ b.bound)

  -- what holds of the book at the place j
  pub record Knows (j : ℕ) (b : Book) : Type 0 where
    pub known : b.seen ≤ W.clock
    pub bounded : b.bound ≤ b.seen
    pub stamps : (e : Entry) → In e b.entries → e.stamp.at ≤ b.seen
    pub ticked : b.face.stage ≡ Ticked → (b.bound < b.face.tick) × (b.face.tick ≤ b.seen) × (b.goal ≡ b.face.tick)
    pub decided : b.face.stage ≡ Decided → b.live ≡ false
    pub aim : (s : ℕ) → W.holder s ≡ suc j → (a : ℕ) × (stripe a ≡ s) × In a b.wants
    pub own_reads : (a x : ℕ) → b.live ≡ true → In (a, x) b.reads → W.holder (stripe a) ≡ suc j → W.ver (stripe a) ≤ b.bound
    pub reads : (a x : ℕ) → b.live ≡ true → In (a, x) b.reads → Sees (suc j) b.bound a x
    pub checked : (a x : ℕ) → b.live ≡ true → In (stripe a) b.checked → In (a, x) b.reads → Sees (suc j) b.goal a x
    pub goal : b.live ≡ true → (b.bound ≤ b.goal) × (b.goal ≤ W.clock)
    -- an extension ends at no less than what is known of the clock
    pub ahead : b.live ≡ true → b.face.stage ≡ Unticked → b.seen ≤ b.goal
    pub look : b.live ≡ true → Looks (suc j) b.bound b.look
    pub regions : (r : ℕ) (g : Region) → lookup b.regions r ≡ some g → Holds j b r g

  -- what the stripes say of the book at the place k, by its face
  pub record Grip (k : ℕ) (f : Face) : Type 0 where
    pub listed : (s : ℕ) → W.holder s ≡ suc k → lookup f.held s ≡ some (2 * W.ver s)
    pub only : (s w : ℕ) → lookup f.held s ≡ some w → W.holder s ≡ suc k
    pub over : (s : ℕ) → W.holder s ≡ suc k → f.stage ≢ Unticked → W.ver s < f.tick
    pub owns : (a : ℕ) → f.stage ≡ Ticked → Has f.due a → W.holder (stripe a) ≡ suc k
    pub left : (a x : ℕ) → lookup f.left a ≡ some x → (f.stage ≡ Decided) × (lookup f.due a ≡ some x) × (W.holder (stripe a) ≡ suc k)
    pub ticks : f.stage ≢ Unticked → (f.tick ≤ W.clock) × (W.whose f.tick ≡ k)
    -- no version is the tick of a ticked attempt
    pub apart : (s : ℕ) → f.stage ≡ Ticked → W.ver s ≢ f.tick
    pub unused : (a : ℕ) → f.stage ≡ Ticked → W.log f.tick a ≡ none
    pub placed : (a : ℕ) → f.stage ≡ Decided → W.log f.tick a ≡ lookup f.due a

  pub record Locks : Type 0 where
    pub young : (s : ℕ) → W.ver s ≤ W.clock
    pub grip : (k : ℕ) → Grip k (W.faces k)
    -- only the decided holder of a stripe wrote there with a stamp over its version
    pub quiet : (t a x : ℕ) → W.ver (stripe a) < t → W.log t a ≡ some x → (k : ℕ) × (W.holder (stripe a) ≡ suc k) × ((W.faces k).stage ≡ Decided) × ((W.faces k).tick ≡ t)
    -- a heap word is the memory's, or is still to be written
    pub heap : (a : ℕ) → (W.mem a ≡ value o W.log W.clock a) ⊎ ((k : ℕ) × Has (W.faces k).left a)
    pub ended : (t a : ℕ) → W.clock < t → W.log t a ≡ none

  -- the reads of all entries
  pub record Annals (H : List Entry) : Type 0 where
    pub agree : (e : Entry) → In e H → (a x : ℕ) → In (a, x) (pairs e.reads) → (value o W.log (base e) a ≡ x) × Clear W.faces 0 e.stamp.at a
    pub stamps : (e : Entry) → In e H → e.stamp.at ≤ W.clock

abbrev pub total : (Book → ℕ) → List Book → ℕ
total f [] = 0
total f (b ∷ bs) = f b + total f bs

-- the weights of entries, added up
abbrev pub weigh : (Entry → ℕ) → List Entry → ℕ
weigh h [] = 0
weigh h (e ∷ es) = h e + weigh h es

abbrev pub nobody : Face
nobody = record { number = 0; stage = Unticked; tick = 0; due = []; held = []; left = [] }

abbrev pub face_of : Option Book → Face
face_of none = nobody
face_of (some b) = b.face

abbrev pub faces : List Book → Faces
faces views k = face_of (get_elem? views k)

-- the word of a stripe
abbrev pub code : Faces → ℕ → ℕ → ℕ
code F zero v = 2 * v
code F (suc k) v = 2 * (F k).number + 1

-- The numbers: own ones differ, and are 0 or over all that were never given out, which one book at most still has.
pub record Numbers (views : List Book) : Type 0 where
  pub stock : (j : ℕ) (b : Book) → get_elem? views j ≡ some b → b.fresh < 1048576
  pub single : (j k : ℕ) (b c : Book) → j ≢ k → get_elem? views j ≡ some b → get_elem? views k ≡ some c → (b.fresh ≡ 0) ⊎ (c.fresh ≡ 0)
  pub given : (j k : ℕ) (b c : Book) → get_elem? views j ≡ some b → get_elem? views k ≡ some c → 0 < b.numbers → (b.face.number ≡ 0) ⊎ (c.fresh < b.face.number)
  pub differ : (j k : ℕ) (b c : Book) → j ≢ k → get_elem? views j ≡ some b → get_elem? views k ≡ some c → 0 < b.numbers → 0 < c.numbers → b.face.number ≢ c.face.number

-- There are 2^20 numbers, each book may move the clock 2^40 times for each number that it holds, and a book that holds none is spent.
pub record Counts (views : List Book) : Type 0 where
  pub numbers : total (λ b. b.numbers) views ≡ 1048576
  pub spare : (j : ℕ) (b : Book) → get_elem? views j ≡ some b → b.ticks ≤ b.numbers * 1099511627776
  pub number : (j : ℕ) (b : Book) → get_elem? views j ≡ some b → b.face.number < 1048576
  pub idle : (j : ℕ) (b : Book) → get_elem? views j ≡ some b → b.numbers ≡ 0 → (b.entries ≡ []) × (b.face.held ≡ [])

-- While one attempt's pass holds every number, no other moves the clock.
abbrev pub IsSole : ℕ → Book → Type 0
IsSole clock b = (b.face.stage ≡ Unticked → clock ≡ b.bound) × (b.face.stage ≡ Ticked → (clock ≡ b.face.tick) × (clock ≡ b.bound + 1))

abbrev pub world : List ℕ → List Book → (ver holder whose keeper : ℕ → ℕ) → List Entry → World
world words views ver holder whose keeper H = record {
  clock = slice_index words 0;
  log = wrote H;
  ver = ver;
  holder = holder;
  whose = whose;
  keeper = keeper;
  faces = faces views;
  ends = last_of H;
  mem = λ a. slice_index words (a + 4097);
}

-- The rule. Its history `log` has the entries of all books, each as often as they have it, in the order in which they were made.
pub record Rule (S : Story) (words : List ℕ) (views : List Book) : Type 0 where
  pub ver : ℕ → ℕ
  pub holder : ℕ → ℕ
  pub whose : ℕ → ℕ
  pub keeper : ℕ → ℕ
  pub log : List Entry
  pub wide : length words ≡ length S.words + 4097
  pub clock_is : slice_index words 0 ≡ total (λ b. b.ticks) views
  pub stripes : (i : ℕ) → i < 4096 → slice_index words (i + 1) ≡ code (faces views) (holder i) (ver i)
  pub locks : Locks (start S) (used_at S) (world words views ver holder whose keeper log)
  pub annals : Annals (start S) (used_at S) (world words views ver holder whose keeper log) log
  pub chain : Chain S log
  pub account : (h : Entry → ℕ) → weigh h log ≡ total (λ b. weigh h b.entries) views
  pub each : (j : ℕ) (b : Book) → get_elem? views j ≡ some b → Knows (start S) (used_at S) (world words views ver holder whose keeper log) j b
  pub counts : Counts views
  pub distinct : Numbers views
  pub sole : (j : ℕ) (b : Book) → get_elem? views j ≡ some b → b.numbers ≡ 1048576 → b.live ≡ true → IsSole (slice_index words 0) b

-- What the rule says of the words: the entries of all books have one legal order, a stripe shows a number exactly where the
-- book of that number holds it, and on a free stripe the heap is the memory after that order, where no update with a stamp
-- over the version wrote.
pub record Shows (S : Story) (words : List ℕ) (views : List Book) : Type 0 where
  pub history : List Entry
  pub legal : IsLegal (start S) (used_at S) history
  pub runs : (e : Entry) → In e history → S.runs e
  pub account : (h : Entry → ℕ) → weigh h history ≡ total (λ b. weigh h b.entries) views
  pub held : (i j : ℕ) (b : Book) → i < 4096 → get_elem? views j ≡ some b → Has b.face.held i → slice_index words (i + 1) ≡ 2 * b.face.number + 1
  pub holder : (i n : ℕ) → i < 4096 → slice_index words (i + 1) ≡ 2 * n + 1 → (j : ℕ) × (b : Book) × (get_elem? views j ≡ some b) × Has b.face.held i × (b.face.number ≡ n)
  pub free : (a v : ℕ) → stripe a < 4096 → slice_index words (stripe a + 1) ≡ 2 * v → slice_index words (a + 4097) ≡ memory_after history (start S) a
  pub newest : (a v : ℕ) → stripe a < 4096 → slice_index words (stripe a + 1) ≡ 2 * v → (e : Entry) → In e history → v < e.stamp.at → lookup (pairs e.writes) a ≡ none

-- What an attempt that reads knows: one legal history of runs left all that it read, and the used words of its regions.
pub record Snapshot (S : Story) (b : Book) : Type 0 where
  pub history : List Entry
  pub legal : IsLegal (start S) (used_at S) history
  pub runs : (e : Entry) → In e history → S.runs e
  pub reads : (a x : ℕ) → In (a, x) b.reads → memory_after history (start S) a ≡ x
  pub regions : (r : ℕ) (g : Region) → lookup b.regions r ≡ some g → used_after history r (used_at S r) ≡ g.used

-- of two entries of one region, this one's call comes first
abbrev pub IsRegionKept : Entry → Entry → Type 0
IsRegionKept d e = d.call.region ≡ e.call.region → rises d.call e.call ≡ true

-- What a pass learns that holds every number at the end: one legal history of runs, which has the entries of its book, each as
-- often as the book has it, leaves the words of the heap, and the used words of the regions that the book holds. The entries of one region stand in the
-- order of their calls.
pub record Ends (S : Story) (b : Book) (words : List ℕ) : Type 0 where
  pub history : List Entry
  pub legal : IsLegal (start S) (used_at S) history
  pub runs : (e : Entry) → In e history → S.runs e
  pub heap : (a : ℕ) → slice_index words a ≡ memory_after history (start S) a
  pub account : (h : Entry → ℕ) → weigh h history ≡ weigh h b.entries
  pub regions : AllPairs IsRegionKept history
  pub used : (r : ℕ) (g : Region) → lookup b.regions r ≡ some g → used_after history r (used_at S r) ≡ g.used
