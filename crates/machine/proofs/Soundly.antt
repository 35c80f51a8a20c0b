-- Calls of rewritten typed code are never stuck.
use Rattle.std.proofs.Common.{◌≡◌, ◌⊎◌, inl, inr, ℕ, ◌≤◌, ◌/◌, List, [], ◌∷◌, Bool, true, false, refl, subst, arith}
use Rattle.std.specs.Prelude.{nat_eq, if◌then◌else◌}
use Rattle.std.specs.List.{AllByRecursion}
use Rattle.std.proofs.lemmas.Bool.Decides.{nat_tests}
use Rattle.jmodel.specs.declared.value.Value.{Value}
use Rattle.jmodel.specs.history.History.{Call, Entry, Words, Agrees, used_after}
use Rattle.tx_core.specs.Engine.{LeadsTo}
use Rattle.objects.specs.semantics.Program.{Program}
use Rattle.objects.specs.semantics.State.{Object, State}
use Rattle.objects.specs.rewriting.Attempt.{Stuck, run, run_start}
use Rattle.objects.specs.history.Meaning.{Represents, IsInRegion, Explains}
use Rattle.objects.specs.rewriting.Rewriting.{rewritten}
use Rattle.objects.specs.typing.Typing.{Table}
use Rattle.objects.proofs.Heap.{typed_kept, fields_kept, texts_kept}
use Rattle.objects.proofs.RewritingLaws.{soundness, snapshot_soundness}
use Rattle.machine.specs.declared.machine.Limits.{Limits}
use Rattle.machine.specs.Machine.{bounds_of}
use Rattle.machine.specs.Running.{Saw, IsStuckBy}
use Rattle.machine.specs.Sound.{IsTypedCall, IsOverStates}

-- a state with more used words of a region stands for the same words
module _ (P : Program) (size region u : ℕ) (ws : Words) (σ : State) (R : Represents P size ws σ) (below : σ.used region ≤ u) where
  abbrev pub raised : State
  raised = record σ { used = λ g. if nat_eq g region then u else σ.used g }

  grows : (g : ℕ) → σ.used g ≤ raised.used g
  grows g = go (nat_eq g region) refl
    where
      go : (b : Bool) → nat_eq g region ≡ b → σ.used g ≤ (if b then u else σ.used g)
      go true e = let s : g ≡ region = grind (arith, nat_tests) in rw s below
      go false e = omega arith

  pub own_raised : raised.used region ≡ u
  own_raised = let e : nat_eq region region ≡ true = grind (arith, nat_tests) in rw e refl

  in_region : (r : ℕ) (o : Object) → IsInRegion size σ.used r o → IsInRegion size raised.used r o
  in_region r o h = let g = grows (r / size) in let b = h.below in record { there = h.there; inside = h.inside; below = omega (arith, g, b); address = h.address }

  pub represents_raised : Represents P size ws raised
  represents_raised = record {
    laid = R.laid;
    apart = R.apart;
    heap = record {
      regions = λ r o e. in_region r o (R.heap.regions r o e);
      typed = λ r o e. typed_kept P σ raised (λ r t e. e) o (R.heap.typed r o e);
      fields = fields_kept P σ raised (λ r t e. e) P.fields R.heap.fields;
      texts = texts_kept P σ raised (λ r t e. e) P.texts R.heap.texts;
    };
    free = λ a le. let g = grows (a / size) in R.free a (omega (arith, g, le));
  }

-- each entry of a list is explained
pub explained_all : (P : Program) (size budget : ℕ) (allows : Entry → Type 0) (f : (e : Entry) → allows e → Explains P size budget e) (h : List Entry) → AllByRecursion allows h → AllByRecursion (Explains P size budget) h
explained_all P size budget allows f [] a = tt
explained_all P size budget allows f (e ∷ h) a = (f e a.0, explained_all P size budget allows f h a.1)

-- a typed call isn't stuck, whatever it read
pub sound_call : (P : Program) (Ts : List Table) (Q : Program) (l : Limits) (m : ℕ) (args : List Value) (shared : Type 0) (begins : Words → (ℕ → ℕ) → Type 0) (allows : Entry → Type 0) (h : List Entry) (c : Call)
    → IsTypedCall P Ts Q m args → c.region ≡ l.room.region → shared ⊎ ((first : Words) (opened : ℕ → ℕ) → begins first opened → LeadsTo opened h c l.room.used) → IsOverStates P l begins allows
    → IsStuckBy Q (bounds_of l) (run_start Q (bounds_of l) m args) (Saw shared begins allows h c l.room.used) → ⊥
sound_call P Ts Q l m args shared begins allows h c T own leads over stuck = by stuck.knew
  where
    ended : run (rewritten P Ts) (bounds_of l) stuck.comes.0 (run_start (rewritten P Ts) (bounds_of l) m args) ≡ Stuck stuck.reads
    ended = subst (λ (q : Program). run q (bounds_of l) stuck.comes.0 (run_start q (bounds_of l) m args) ≡ Stuck stuck.reads) T.is stuck.comes.1

    by : (stuck.reads ≡ []) ⊎ Saw shared begins allows h c l.room.used stuck.reads → ⊥
    by (inl none) =
        let R = over.reached in
        let below : R.stand.state.used l.room.region ≤ l.room.used = rw (R.stand.has l.room.region) R.below in
        let agrees : Agrees R.words stuck.reads = rw none tt in
        soundness P Ts T.typed (bounds_of l) m T.method T.retries T.there T.static T.marked args T.given stuck.comes.0 stuck.reads ended R.words
        (raised P l.room.size l.room.region l.room.used R.words R.stand.state R.stand.represents below)
        (represents_raised P l.room.size l.room.region l.room.used R.words R.stand.state R.stand.represents below) agrees
        (own_raised P l.room.size l.room.region l.room.used R.words R.stand.state R.stand.represents below)
    by (inr saw) =
        let x = saw leads in
        let S = over.begun x.first x.opened x.begun in
        let left : used_after x.history l.room.region (x.opened l.room.region) ≡ l.room.used = subst (λ (g : ℕ). used_after x.history g (x.opened g) ≡ l.room.used) own x.left in
        snapshot_soundness P Ts T.typed (bounds_of l) m T.method T.retries T.there T.static T.marked args T.given stuck.comes.0 stuck.reads ended
        x.history x.first x.opened S.state S.represents S.has x.entries (explained_all P l.room.size l.budget allows over.explained x.history x.allowed) x.reads left
