-- What an engine's answers say of the history.
use Rattle.std.specs.Prelude.{◌≡◌, ◌≢◌, ◌⊎◌, ℕ, ◌+◌, List, [], ◌∷◌, ◌++◌, false, IsTrue, ◌↔◌}
use Rattle.std.specs.List.{AllByRecursion}
use Rattle.jmodel.specs.declared.value.Answer.{Answer}
use Rattle.jmodel.specs.declared.value.Stamp.{Stamp}
use Rattle.jmodel.specs.history.Log.{Log}
use Rattle.jmodel.specs.history.History.{Call, Entry, Words, Agrees, AreEntries, leaves_words, memory_after, used_after, used_with, made}
use Rattle.tx_core.specs.declared.engine.TxEnd.{TxEnd}
use Rattle.tx_core.specs.declared.engine.TxEnd.TheVariants.{Conflict, NoMemory}

-- the conflicts after an end
abbrev pub raised : TxEnd → ℕ → ℕ
raised (Conflict c) n = n + 1
raised NoMemory n = n

-- a stamp is an update's exactly where there are writes
abbrev pub IsOfWrites : Stamp → Log → Type 0
IsOfWrites stamp w = IsTrue stamp.update ↔ (w ≢ [])

-- The entry of a call that answers x, with these words of its region used before and after it, may be added, at any place of the history. It takes no
-- word where it wrote nothing or was refused.
pub record IsAllowed (allows : Entry → Type 0) (x : Answer) (c : Call) (before after : ℕ) (r w : Log) : Type 0 where
  pub anywhere : (stamp : Stamp) → allows (made c x before after stamp r w)
  pub stays : (w ≡ []) ⊎ (leaves_words x ≡ false) → after ≡ before

-- An attempt at an awaited call, whose entry may be added with this answer; `kept` says what of its writes the entry has, and `after` the used
-- words after it, by those before.
pub record MayEnd (S : List Entry → ℕ → Log → Log → Type 0) (A : Call → ℕ → Type 0) (allows : Entry → Type 0) (kept : Log → Log) (x : Answer) (after : ℕ → ℕ) : Type 0 where
  pub history : List Entry
  pub conflicts : ℕ
  pub reads : Log
  pub writes : Log
  pub call : Call
  pub used : ℕ
  pub stands : S history conflicts reads writes
  pub awaits : A call used
  pub allowed : IsAllowed allows x call used (after used) reads (kept writes)

-- The awaited call's entry, with this answer and these reads and writes, was added where it is allowed; `after` says the used words after it, by
-- those before.
abbrev pub Adds : (Call → ℕ → Type 0) → (Entry → Type 0) → (List Entry → ℕ → Log → Log → Type 0) → List Entry → ℕ → Answer → (ℕ → ℕ) → Stamp → Log → Log → Type 0
Adds awaits allows stands h n x after stamp r w = (c : Call) (used : ℕ) → awaits c used → IsAllowed allows x c used (after used) r w
    → stands (h ++ made c x used (after used) stamp r w ∷ []) n [] []

-- each entry has, as the used words before it, those that the entries before it left its region
abbrev pub AreUsed : (ℕ → ℕ) → List Entry → Type 0
AreUsed used [] = Unit {0}
AreUsed used (e ∷ h) = (e.used_before ≡ used e.call.region) × AreUsed (used_with used e) h

-- Along a history that begins with these used words each entry has its own, and the call's region has so many after it.
pub record LeadsTo (opened : ℕ → ℕ) (h : List Entry) (c : Call) (used : ℕ) : Type 0 where
  pub along : AreUsed opened h
  pub after : used_after h c.region (opened c.region) ≡ used

-- What an attempt at a call read, and the used words of the call's region, are what some entries leave one after another. Each of them may be added.
-- They begin with words, and used words of regions, that a history may begin with.
pub record IsSnapshot (begins : Words → (ℕ → ℕ) → Type 0) (allows : Entry → Type 0) (c : Call) (used : ℕ) (r : Log) : Type 0 where
  pub first : Words
  pub opened : ℕ → ℕ
  pub begun : begins first opened
  pub history : List Entry
  pub entries : AreEntries first opened history
  pub allowed : AllByRecursion allows history
  pub reads : Agrees (memory_after history first) r
  pub left : used_after history c.region (opened c.region) ≡ used
