-- Calls of the original methods, one after another, from the entries of one thread.
use Rattle.std.proofs.Common.{◌≡◌, ◌≢◌, ℕ, List, [], ◌∷◌, map, nat_eq, refl, sym, ◌∙◌, ap, subst, arith}
use Rattle.std.specs.Prelude.{if◌then◌else◌}
use Rattle.std.specs.List.{AllByRecursion}
use Rattle.std.proofs.lemmas.Simd.{map-map}
use Rattle.std.proofs.lemmas.Bool.Decides.{nat_tests}
use mathlib.Core.Logic.{dite}
use native.Mathlib.Decide.{ℕ_discrete}
use Rattle.jmodel.specs.declared.access.Access.{Access}
use Rattle.jmodel.specs.declared.value.Answer.{Answer}
use Rattle.objects.specs.semantics.Program.{Program}
use Rattle.objects.specs.semantics.State.{State}
use Rattle.jmodel.specs.history.History.{Call, Entry, Told, told, Words, overlaid, AreEntries, used_with, used_after}
use Rattle.objects.specs.history.Meaning.{Represents, Explains}
use Rattle.objects.specs.semantics.Serial.{Serial}
use Rattle.objects.proofs.SerialProof.{serial_of}
use Rattle.tx_core.specs.Serial.{IsSerial, StandsFor, word_in}
use Rattle.session.specs.Rule.{IsRuled, IsState, IsStretch, calls_of}
use Rattle.session.specs.Lane.{Takes}
use Rattle.session.proofs.Marked.{explained, taking}

-- the region of an entry has the used words that it left, and each other those from before
used_here : (used : ℕ → ℕ) (e : Entry) (region : ℕ) → e.call.region ≡ region → used_with used e region ≡ e.used_after
used_here used e region same = grind (arith, nat_tests)

used_there : (u after region other : ℕ) → other ≢ region → (if nat_eq region other then after else u) ≡ u
used_there u after region other apart = grind (arith, nat_tests)

-- the used words after entries of one region
after_here : (region before after : ℕ) (h : List Entry) → Takes region before h after → used_after h region before ≡ after
after_here region before after [] takes = sym takes
after_here region before after (e ∷ h) takes =
    ap (used_after h region) (used_here (λ r. before) e region takes.0) ∙ after_here region e.used_after after h takes.2

after_there : (region before after other u : ℕ) (h : List Entry) → Takes region before h after → other ≢ region → used_after h other u ≡ u
after_there region before after other u [] takes apart = refl
after_there region before after other u (e ∷ h) takes apart =
    let apart_too : other ≢ e.call.region = λ q. apart (q ∙ takes.0) in
    ap (used_after h other) (used_there u e.used_after e.call.region other apart_too) ∙ after_there region e.used_after after other u h takes.2 apart

-- used words by region, which are these in one region and as they were in each other
pub record IsMoved (region after : ℕ) (u v : ℕ → ℕ) : Type 0 where
  pub here : v region ≡ after
  pub there : (other : ℕ) → other ≢ region → v other ≡ u other

module _ (P Q : Program) (size budget attempts : ℕ) (rule : Entry → Type 0) (ruled : (e : Entry) → rule e → IsRuled P Q size budget attempts e) where
  entries_of : (clock : ℕ) (σ : Words) (used : ℕ → ℕ) (region before after : ℕ) (h : List Entry) → Takes region before h after → used region ≡ before
      → IsSerial rule clock σ h → AreEntries σ used h × AllByRecursion (Explains P size budget) h
  entries_of clock σ used region before after [] takes same s = (tt, tt)
  entries_of clock σ used region before after (e ∷ h) takes same s =
      let r = ruled e s.0 in
      let rest = entries_of e.stamp.at (overlaid e.writes σ) (used_with used e) region e.used_after after h takes.2 (used_here used e region takes.0) s.4 in (
        (record { update = s.1; reads = s.3; used_before = takes.1 ∙ sym (ap used takes.0 ∙ same); stays = (taking P Q size budget attempts e r).stays }, rest.0),
        (explained P Q size budget attempts e r, rest.1),
      )

  -- what one thread's history of one region tells
  pub stretch_of : (first words : List ℕ) (clock : ℕ) (kept : List Access) (h : List Entry) → StandsFor rule first words clock kept h 0 [] []
      → (region before after : ℕ) → Takes region before h after → (u v : ℕ → ℕ) → u region ≡ before → IsMoved region after u v
      → (σ : State) → IsState P size first u σ → IsStretch P size budget σ words v (map told h)
  stretch_of first words clock kept h stands region before after takes u v same moved σ state =
      let parts = entries_of 0 (word_in first) σ.used region before after h takes (state.used_are region ∙ same) stands.serial in
      let s = serial_of P size budget h (word_in first) σ.used σ state.represents (λ r. refl) parts.0 parts.1 in
      let Calls : List Call → Type 0 = λ cs. Serial P size budget σ cs (map (λ (e : Entry). e.answer) h) s.after in
      let Answers : List Answer → Type 0 = λ xs. Serial P size budget σ (calls_of (map told h)) xs s.after in
      let Stand : Words → Type 0 = λ w. Represents P size w s.after in
      let Used : ℕ → Type 0 = λ r. used_after h r (σ.used r) ≡ v r in
      let at_region : Used region = ap (used_after h region) (state.used_are region ∙ same) ∙ after_here region before after h takes ∙ sym moved.here in
      record {
        after = s.after;
        serial = subst Answers (sym (map-map (λ (t : Told). t.answer) told h)) (subst Calls (sym (map-map (λ (t : Told). t.call) told h)) s.serial);
        stands = record {
          represents = subst Stand (sym stands.memory) s.represents;
          used_are = λ r. s.used r
              ∙ dite (ℕ_discrete r region) (λ q. subst Used (sym q) at_region)
              (λ apart. after_there region before after r (σ.used r) h takes apart ∙ state.used_are r ∙ sym (moved.there r apart));
        };
      }
