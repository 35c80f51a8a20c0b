-- The attempts of a call saw what one state has.
use Rattle.std.proofs.Common.{◌≡◌, ◌≢◌, ◌⊎◌, ℕ, List, [], ◌∷◌, Ok, refl, ap, subst, ◌∙◌}
use Rattle.jmodel.specs.declared.value.Answer.{Answer}
use Rattle.jmodel.specs.declared.value.Answer.TheVariants as answer
use Rattle.jmodel.specs.declared.value.Value.{Value}
use Rattle.jmodel.specs.history.History.{Call, Entry, Words, memory_after, used_after}
use Rattle.tx_core.specs.Engine.{LeadsTo, IsSnapshot}
use Rattle.objects.specs.declared.event.Event.{Event}
use Rattle.objects.specs.semantics.Program.{Program}
use Rattle.objects.specs.semantics.Traps.{Begins as HasBegun}
use Rattle.objects.specs.rewriting.Attempt.{Log, Reply, Refuses, run_start}
use Rattle.objects.specs.typing.Typing.{Table}
use Rattle.objects.proofs.SerialProof.{serial_of}
use Rattle.objects.proofs.TrapsLaw.{prefix_traps}
use Rattle.machine.specs.declared.machine.Limits.{Limits}
use Rattle.machine.specs.declared.machine.End.{End}
use Rattle.machine.specs.Machine.{bounds_of, MayRun, AddsNone}
use Rattle.machine.specs.Running.{Saw, Knows, Ends, IsEndBy, IsEnd}
use Rattle.machine.specs.Sound.{IsTypedCall, IsOverStates}
use Rattle.machine.specs.Opacity.{IsOfState, IsOpaque, IsLost, AddsOpaquely, OpaqueBy, OpaqueRun}
use Rattle.machine.proofs.Soundly.{explained_all}
use Rattle.machine.proofs.Seeing.{knows_behind}
use Rattle.machine.proofs.Losing.{LostFrom, lost_of_entry, lost_of_spent}
use Rattle.machine.proofs.Ends.{tells_entry, knows_told}

module _ (P : Program) (Ts : List Table) (Q : Program) (l : Limits) (begins : Words → (ℕ → ℕ) → Type 0) (allows : Entry → Type 0) (c : Call) (T : IsTypedCall P Ts Q c.method c.args) (own : c.region ≡ l.room.region) (over : IsOverStates P l begins allows) where
  -- a snapshot is of a state, and what was met before it is what the original meets first from there
  of_state : (r : Log) (ts : List ℕ) → IsSnapshot begins allows c l.room.used r → HasBegun Q (bounds_of l) c.method c.args r ts → IsOfState P (bounds_of l) begins allows c r ts
  of_state r ts x b =
      let S = over.begun x.first x.opened x.begun in
      let region = l.room.region in
      let after = serial_of P l.room.size l.budget x.history x.first x.opened S.state S.represents S.has x.entries (explained_all P l.room.size l.budget allows over.explained x.history x.allowed) in
      let left : used_after x.history region (x.opened region) ≡ l.room.used = subst (λ (g : ℕ). used_after x.history g (x.opened g) ≡ l.room.used) own x.left in
      let used : after.after.used region ≡ l.room.used = after.used region ∙ ap (used_after x.history region) (S.has region) ∙ left in
      record {
        snapshot = x;
        state = after.after;
        represents = after.represents;
        used = used;
        meets = prefix_traps P Ts T.typed (bounds_of l) c.method T.method T.retries T.there T.static T.marked c.args T.given r ts
            (subst (λ (q : Program). HasBegun q (bounds_of l) c.method c.args r ts) T.is b) (memory_after x.history x.first) after.after after.represents x.reads used;
      }

  module _ (shared : Type 0) (h : List Entry) (leads : shared ⊎ ((first : Words) (opened : ℕ → ℕ) → begins first opened → LeadsTo opened h c l.room.used)) where
    -- so is each attempt, as far as it is known what it has read
    along : (vs : List Reply) → Knows Q (bounds_of l) (Saw shared begins allows h c l.room.used) vs (run_start Q (bounds_of l) c.method c.args) → IsOpaque P Q (bounds_of l) begins allows c vs
    along vs k us ws e r o =
        let start = run_start Q (bounds_of l) c.method c.args in
        let K = Saw shared begins allows h c l.room.used in
        let saw = knows_behind Q (bounds_of l) K us ws start (subst (λ (xs : List Reply). Knows Q (bounds_of l) K xs start) e k) r o in
        of_state r _ (saw leads) (record { replies = us; reads = o; meets = refl })

    -- and each that met a conflict, up to that
    is_lost : (vs : List Reply) → Knows Q (bounds_of l) (Saw shared begins allows h c l.room.used) vs (run_start Q (bounds_of l) c.method c.args) → (k : ℕ) → LostFrom Q (bounds_of l) (run_start Q (bounds_of l) c.method c.args) vs k → IsLost P Q (bounds_of l) begins allows c vs k
    is_lost vs known k x = record { before = x.before; behind = x.behind; are = x.are; number = x.number; reads = x.reads; has_read = x.has_read; sees = along vs known x.before (Refuses ∷ x.behind) x.are x.reads x.has_read }

    module _ (A : Call → ℕ → Type 0) (C : ℕ → Type 0) (G : List Event → Type 0) (S : List Entry → ℕ → Log → Log → Type 0) (n : ℕ) (e : End) (aw : A c l.room.used) (may : MayRun allows Q (bounds_of l) c) where
      more : e.answer ≢ answer.Spent → Ends Q (bounds_of l) (run_start Q (bounds_of l) c.method c.args) A allows C G S h n (Saw shared begins allows h c l.room.used) e → AddsOpaquely P Q (bounds_of l) begins allows c S h n G e
      more other t =
          let K = Saw shared begins allows h c l.room.used in
          let entry = tells_entry Q (bounds_of l) c A allows C G S h n K e other aw may t in
          let known = knows_told Q (bounds_of l) c A allows C G S h n K e other aw may t in
          let runs = entry.tells in
          record {
            entry = entry;
            sees = along runs.replies known;
            lost = λ k positive below. is_lost runs.replies known k (lost_of_entry Q (bounds_of l) c.method c.args runs.replies e.answer runs.meter entry.writes entry.reads other runs.ends k positive below);
          }

      by : (x : Answer) → e.answer ≡ x → IsEndBy x Q (bounds_of l) (run_start Q (bounds_of l) c.method c.args) A allows C G S h n (Saw shared begins allows h c l.room.used) e → OpaqueBy x P Q (bounds_of l) begins allows c S h n G e
      by (answer.Returned v) q t = more (λ s. cc) t
      by (answer.Threw k) q t = more (λ s. cc) t
      by answer.Budget q t = more (λ s. cc) t
      by answer.Depth q t = more (λ s. cc) t
      by (answer.Heap u v z) q t = more (λ s. cc) t
      by answer.Spent q t = record { meter = t.meter_then; replies = t.comes.0; ends = t.comes.1; steps = t.steps; are = t.comes.2; told = t.told; stands = t.stands; sees = along t.comes.0 t.knows; lost = λ k positive below. is_lost t.comes.0 t.knows k (lost_of_spent Q (bounds_of l) c.method c.args t.comes.0 t.meter_then [] [] t.comes.1 k positive below) }
      by answer.NoMemory q t = tt

      -- the end of a call, by what its attempts saw
      pub opaque_of : IsEnd Q (bounds_of l) (run_start Q (bounds_of l) c.method c.args) A allows C G S h n (AddsNone (S h) n) (Saw shared begins allows h c l.room.used) (Ok e) → OpaqueRun P Q (bounds_of l) begins allows c S h n G (Ok e)
      opaque_of t = by e.answer refl t

-- a typed call of the same method with the same arguments
pub typed_call : (P : Program) (Ts : List Table) (Q : Program) (c : Call) (m : ℕ) (args : List Value) → c.method ≡ m → c.args ≡ args → IsTypedCall P Ts Q m args → IsTypedCall P Ts Q c.method c.args
typed_call P Ts Q c m args p q t = rw (p, q) t
