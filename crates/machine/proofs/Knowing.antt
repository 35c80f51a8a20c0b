-- What is known of an attempt's reads.
use Rattle.std.proofs.Common.{◌≡◌, ◌⊎◌, inl, inr, ℕ, List, [], ◌∷◌}
use Rattle.jmodel.specs.declared.access.Access.{Access}
use Rattle.jmodel.specs.history.History.{Call, Entry, Words}
use Rattle.objects.specs.rewriting.Attempt.{Log}
use Rattle.machine.specs.declared.running.Stage.{Stage}
use Rattle.machine.specs.declared.running.Stage.TheVariants.{Ready, Open, Doomed}
use Rattle.machine.specs.Running.{IsIdle, Saw, Knew}

-- an open attempt's reads are known
pub knew_open : (K : Log → Type 0) (tried : ℕ) (r : Log) → Knew K Open tried r → K r
knew_open K tried r (inl p) = let e : Open ≡ Ready = p.0 in let no : ⊥ = cc in absurd no
knew_open K tried r (inr k) = k

-- so are those of one that met a conflict
pub knew_doomed : (K : Log → Type 0) (tried : ℕ) (r : Log) → Knew K Doomed tried r → K r
knew_doomed K tried r (inl p) = let e : Doomed ≡ Ready = p.0 in let no : ⊥ = cc in absurd no
knew_doomed K tried r (inr k) = k

-- what was seen of some reads was seen of none
pub saw_none : (shared : Type 0) (begins : Words → (ℕ → ℕ) → Type 0) (allows : Entry → Type 0) (h : List Entry) (c : Call) (used : ℕ) (r : Log)
    → Saw shared begins allows h c used r → Saw shared begins allows h c used []
saw_none shared begins allows h c used r s leads =
    let x = s leads in
    record { first = x.first; opened = x.opened; begun = x.begun; history = x.history; entries = x.entries; allowed = x.allowed; reads = tt; left = x.left }

-- and of those before the last
pub saw_fewer : (shared : Type 0) (begins : Words → (ℕ → ℕ) → Type 0) (allows : Entry → Type 0) (h : List Entry) (c : Call) (used : ℕ) (l : Access) (r : Log)
    → Saw shared begins allows h c used (l ∷ r) → Saw shared begins allows h c used r
saw_fewer shared begins allows h c used l r s leads =
    let x = s leads in
    record { first = x.first; opened = x.opened; begun = x.begun; history = x.history; entries = x.entries; allowed = x.allowed; reads = x.reads.1; left = x.left }

-- of what was read when a run is stuck
pub knew_end : (K : Log → Type 0) (s : Stage) (tried : ℕ) (r w : Log) → IsIdle s r w → Knew K s tried r → (r ≡ []) ⊎ K r
knew_end K s tried r w i (inl p) = let j = rw p.0 at i in inl j.0
knew_end K s tried r w i (inr k) = inr k
