-- A run's journal, phase by phase.
use Rattle.std.proofs.Common.{◌≡◌, ◌<◌, ℕ, List, ◌++◌, map, length, get_or, All, AllPairs, true, sym, ◌∙◌, ap, subst}
use Rattle.std.specs.Prelude.{IsPermutation}
use Rattle.std.specs.Global.{Global}
use Rattle.std.specs.declared.vec.Vec.{Vec}
use Rattle.session.specs.declared.record.Record.{Record}
use Rattle.std.specs.List.{AllByRecursion}
use Rattle.std.proofs.lemmas.Simd.{map-map}
use Rattle.std.proofs.lemmas.List.{map-append}
use Rattle.std.proofs.lemmas.List.Elements.{All-from_recursion, recursion_from_All}
use Rattle.std.proofs.lemmas.List.Sorted.{All-permutation}
use Rattle.jmodel.specs.declared.value.Answer.{Answer}
use Rattle.jmodel.specs.declared.value.Answer.TheVariants.{NoMemory}
use Rattle.objects.specs.semantics.Program.{Program}
use Rattle.objects.specs.semantics.State.{State}
use Rattle.jmodel.specs.history.History.{Call, Told, comes_first}
use Rattle.jmodel.specs.history.Schedule.{ScriptPhase, AreScriptCalls, Made, MayPrecede, IsAccepted, ascends, call_of, answer_of}
use Rattle.objects.specs.semantics.Serial.{Serial}
use Rattle.session.specs.Rule.{IsStretch, calls_of, answers_of}
use Rattle.session.specs.Lane.{record_of}
use Rattle.driver.specs.declared.journal.Journal.{Journal}
use Rattle.driver.specs.declared.journal.Records.{Records}
use Rattle.driver.specs.declared.memory.Memory.{Memory}
use Rattle.objects.specs.history.Journal.{IsJournal}
use Rattle.driver.specs.Memory.{Holds}
use Rattle.driver.specs.Runs.{HasRun, made_of}
use Rattle.driver.specs.Over.{StandsBehind}
use Rattle.driver.proofs.Lists.{all_map, all_left, all_right}

-- what a journal has after phases, and what their calls lead to
pub record HasRunTo (P : Program) (size budget : ℕ) (phases : List ScriptPhase) (memory : Memory) (left : List ℕ) (used : ℕ → ℕ) (records : Records) : Type 0 where
  pub placed : List Told
  pub unplaced : List Told
  pub placed_are : records.placed.items ≡ map record_of placed
  pub unplaced_are : records.unplaced.items ≡ map record_of unplaced
  pub in_order : AllPairs (λ s t. comes_first s t ≡ true) placed
  pub behind : AllPairs (λ (s t : Told). StandsBehind s.stamp.at t) placed
  pub calls : List Call
  pub are_calls : AreScriptCalls 0 phases calls
  pub each_once : IsPermutation calls (calls_of (placed ++ unplaced))
  pub placed_order : AllPairs MayPrecede (calls_of placed)
  pub unplaced_order : AllPairs (λ c d. ascends c d ≡ true) (calls_of unplaced)
  pub no_memory : AllByRecursion (λ (t : Told). t.answer ≡ NoMemory) unplaced
  pub stretch : (σ : State) → Holds P size memory σ → IsStretch P size budget σ left used placed

pub calls_append : (ts us : List Told) → calls_of (ts ++ us) ≡ calls_of ts ++ calls_of us
calls_append ts us = map-append (λ (t : Told). t.call) ts us

-- where calls are, so is each of two lists that hold them
pub of_both : (Q : Call → Type 0) (cs : List Call) (ts us : List Told) → IsPermutation cs (calls_of (ts ++ us)) → All Q cs → All Q (calls_of ts) × All Q (calls_of us)
of_both Q cs ts us same all =
    let both = subst (All Q) (calls_append ts us) (All-permutation Q cs (calls_of (ts ++ us)) same all) in
    (all_left Q (calls_of ts) (calls_of us) both, all_right Q (calls_of ts) (calls_of us) both)

made_calls : (ts : List Told) → map call_of (map made_of ts) ≡ calls_of ts
made_calls ts = map-map call_of made_of ts

-- all phases
pub run_all : (P : Program) (size budget : ℕ) (phases : List ScriptPhase) (memory : Memory) (used : ℕ → ℕ) (records : Records) (journal : Journal)
    → journal.placed ≡ records.placed → journal.unplaced ≡ records.unplaced
    → length journal.used.items ≡ 17 → ((region : ℕ) → region < 17 → get_or journal.used.items region 0 ≡ used region)
    → HasRunTo P size budget phases memory journal.words.items used records → HasRun P size budget phases memory journal
run_all P size budget phases memory used records journal same_placed same_unplaced len each h =
    record {
      placed = h.placed;
      unplaced = h.unplaced;
      placed_are = ap (λ (rs : Vec Record Global). rs.items) same_placed ∙ h.placed_are;
      unplaced_are = ap (λ (rs : Vec Record Global). rs.items) same_unplaced ∙ h.unplaced_are;
      in_order = h.in_order;
      behind = h.behind;
      is_journal = λ σ stands. journal_of σ (h.stretch σ stands);
      leaves = λ σ stands. (h.stretch σ stands).stands.represents;
      used = λ σ stands. record { len = len; each = λ region low. each region low ∙ sym ((h.stretch σ stands).stands.used_are region) };
    }
  where
    accepted : IsAccepted phases (map made_of h.placed) (map made_of h.unplaced)
    accepted =
        let calls : map call_of (map made_of h.placed ++ map made_of h.unplaced) ≡ calls_of (h.placed ++ h.unplaced)
        = ap (map call_of) (sym (map-append made_of h.placed h.unplaced)) ∙ made_calls (h.placed ++ h.unplaced) in
        record {
          calls = h.calls;
          are_calls = h.are_calls;
          each_once = subst (IsPermutation h.calls) (sym calls) h.each_once;
          placed_order = subst (AllPairs MayPrecede) (sym (made_calls h.placed)) h.placed_order;
          unplaced_order = subst (AllPairs (λ c d. ascends c d ≡ true)) (sym (made_calls h.unplaced)) h.unplaced_order;
          no_memory = recursion_from_All (λ (m : Made). m.answer ≡ NoMemory) (map made_of h.unplaced)
              (all_map made_of (λ (m : Made). m.answer ≡ NoMemory) h.unplaced (All-from_recursion (λ (t : Told). t.answer ≡ NoMemory) h.unplaced h.no_memory));
        }

    journal_of : (σ : State) → IsStretch P size budget σ journal.words.items used h.placed → IsJournal P size budget σ phases (map made_of h.placed) (map made_of h.unplaced)
    journal_of σ s =
        let Calls : List Call → Type 0 = λ cs. Serial P size budget σ cs (answers_of h.placed) s.after in
        let Answers : List Answer → Type 0 = λ xs. Serial P size budget σ (map call_of (map made_of h.placed)) xs s.after in
        record {
          accepted = accepted;
          after = s.after;
          serial = subst Answers (sym (map-map answer_of made_of h.placed))
              (subst Calls (sym (made_calls h.placed)) s.serial);
        }
