-- A bank that can be run is run, and one of whose numbers is outside its limits is refused.
use Rattle.std.proofs.Common.{◌≡◌, ℕ, List, Option, Ok, Err, Result, inl, inr, sym, ap, subst}
use Rattle.std.specs.Prelude.{String}
use Rattle.std.specs.declared.alloc.Global.{Global}
use Rattle.deuce_io.specs.Seen.{Seen}
use Rattle.jmodel.specs.declared.refusal.Refusal.{Refusal}
use Rattle.jmodel.specs.format.ClassFile.{ClassFile}
use Rattle.deuce.specs.declared.words.BankWords.{BankWords}
use Rattle.objects.specs.declared.event.Event.{Event}
use Rattle.bankgen.specs.Summary.{summary_lines}
use Rattle.bankgen.specs.Workload.{workload}
use Rattle.runner.specs.Headline.{CanRun, AreCountsOf, answer_in}
use Rattle.runner.specs.Telling.{TellsCountsOf}
use Rattle.runner.specs.Faults.{IsBadProgram, IsUntypable, IsBadScript, IsUnopened, EndsRun}
use Rattle.runner.proofs.Complete.{no_bad_program, all_typed, good_script, opens}
use Rattle.deuce.specs.Command.{AsksBank, engine_word}
use Rattle.deuce.specs.Bank.{IsWorkload, IsOutside, IsSummaryOf, OfBank, engine_of}
use Rattle.deuce.specs.Telling.{TellsBankOf}
use Rattle.deuce.specs.declared.outcome.Outcome.{Outcome}
use Rattle.deuce.specs.declared.outcome.Outcome.TheVariants.{Journal, Summary, Rewritten, Usage, BadClass, BadProgram, Untyped, BadScript, Unopened, Outside, NotPut}
use Rattle.deuce.specs.Outcomes.{Says, IsRefusedAs, IsOutcome, FailedOutside, CanRunBankOfWords, IsOutsideOfWords, IsBankRunOrFailed, IsOutsideOrFailed, status_of}
use Rattle.runner.specs.declared.outcome.RunEnd.{RunEnd}
use Rattle.runner.specs.declared.outcome.RunEnd.TheVariants as run_ends
use Rattle.deuce.proofs.Asked.{one_bank, no_bank}

one_ok : {A : Type 0} (x : Result A Refusal) (p q : A) → x ≡ Ok p → x ≡ Ok q → p ≡ q
one_ok x p q a b = cc (a, b)

both : (x : Result (List ClassFile × List ℕ) Refusal) (files others : List ClassFile) (script other : List ℕ) → x ≡ Ok (files, script) → x ≡ Ok (others, other) → (others ≡ files) × (other ≡ script)
both x files others script other p q =
    let same = one_ok x (files, script) (others, other) p q in
    (sym (ap (λ (t : List ClassFile × List ℕ). t.0) same), sym (ap (λ (t : List ClassFile × List ℕ). t.1) same))

never : (x : Result (List ClassFile × List ℕ) Refusal) (files : List ClassFile) (script : List ℕ) (r : Refusal) → x ≡ Ok (files, script) → x ≡ Err r → ⊥
never x files script r p q = cc

-- what is printed of a bank that was run, and what its gates were told
module _ (b : BankWords) (files : List ClassFile) (script text : List ℕ) (placed unplaced : ℕ) (answer : List ℕ) (made : IsWorkload b.figures files script)
    (run : AreCountsOf files script 1 placed unplaced answer) (is : text ≡ summary_lines b.figures (engine_word (engine_of b.engine)) placed unplaced answer) where
  pub summary_of : IsSummaryOf b text
  summary_of = record {
    files = files;
    script = script;
    made = made;
    program = run.program;
    placed = run.placed;
    unplaced = run.unplaced;
    are_calls = run.are_calls;
    is_text = rw (run.count_is, run.shortages_are, run.answer_is) at is;
    lawful = run.lawful;
  }

  pub told_bank : (before after : List (Option (List Event))) → TellsCountsOf files script placed before after → TellsBankOf b text before after
  told_bank before after told = record {
    files = files;
    script = script;
    made = made;
    placed = placed;
    unplaced = unplaced;
    answer = answer_in 1 run.placed;
    is_text = rw run.answer_is at is;
    told = told;
  }

module _ (words : List (String Global)) (k : BankWords) (asked : AsksBank words k) where
  -- what a folder's words say isn't said
  not_outside : (path : List ℕ) (old new : Seen) → FailedOutside words path old new → ⊥
  not_outside path old new (d, t, inl h) = no_bank words d (t, inl h.0) k asked
  not_outside path old new (d, t, inr h) = no_bank words d (t, inr h.0) k asked

  module _ (files : List ClassFile) (script : List ℕ) (made : IsWorkload k.figures files script) where
    -- what holds of a bank holds of its classes and its script
    held : (Q : List ClassFile → List ℕ → Type 0) (g : BankWords) → AsksBank words g → OfBank g.figures Q → Q files script
    held Q g a (fs, s, is, h) =
        let of_k : IsWorkload k.figures fs s = subst (λ (n : BankWords). IsWorkload n.figures fs s) (one_bank words g k a asked) is in
        let same = both (workload k.figures.seed k.figures.accounts k.figures.calls k.figures.lanes) files fs script s made of_k in
        subst (λ (t : List ℕ). Q files t) same.1 (subst (λ (l : List ClassFile). Q l s) same.0 h)

    inside : (g : BankWords) (r : Refusal) → AsksBank words g → IsOutside g.figures r → ⊥
    inside g r a h = never (workload k.figures.seed k.figures.accounts k.figures.calls k.figures.lanes) files script r made (subst (λ (n : BankWords). IsOutside n.figures r) (one_bank words g k a asked) h)

    bank_completes : (old new : Seen) (o : Outcome) (status : ℕ) → CanRun files script → Says words old new o → status ≡ status_of o → IsBankRunOrFailed status
    bank_completes old new (Journal text) status can h s = inl s
    bank_completes old new (Summary text) status can h s = inl s
    bank_completes old new (Rewritten n t m) status can h s = inl s
    bank_completes old new Usage status can h s = absurd (h.1 k asked)
    bank_completes old new (BadClass path r) status can h s = absurd (no_bank words h.0 h.1 k asked)
    bank_completes old new (BadProgram r) status can (inl h) s = absurd (no_bank words h.0 h.1 k asked)
    bank_completes old new (BadProgram r) status can (inr (g, a, inl h)) s = absurd (inside g r a h)
    bank_completes old new (BadProgram r) status can (inr (g, a, inr h)) s = absurd (no_bad_program files can.program r can.runnable (held (λ fs t. IsBadProgram r fs) g a h))
    bank_completes old new (Untyped r) status can (inl h) s = absurd (no_bank words h.0 h.1 k asked)
    bank_completes old new (Untyped r) status can (inr (g, a, h)) s = absurd (all_typed files can.program r can.runnable (held (λ fs t. IsUntypable r fs) g a h))
    bank_completes old new (BadScript r) status can (inl h) s = absurd (no_bank words h.0 (h.1, inl h.2) k asked)
    bank_completes old new (BadScript r) status can (inr (g, a, h)) s = absurd (good_script files script r can (held (λ fs t. IsBadScript t r fs) g a h))
    bank_completes old new (Unopened class x) status can (inl h) s = absurd (no_bank words h.0 (h.1, inl h.2) k asked)
    bank_completes old new (Unopened class x) status can (inr (g, a, h)) s = absurd (opens files script class x can (held (λ fs t. IsUnopened t class x fs) g a h))
    bank_completes old new (Outside path) status can h s = absurd (not_outside _ old new h)
    bank_completes old new (NotPut path) status can h s = absurd (no_bank words h.0 (h.1, inr h.2) k asked)

  module _ (r : Refusal) (out : IsOutside k.figures r) where
    no_workload : (Q : List ClassFile → List ℕ → Type 0) (g : BankWords) → AsksBank words g → OfBank g.figures Q → ⊥
    no_workload Q g a (fs, s, is, h) =
        never (workload k.figures.seed k.figures.accounts k.figures.calls k.figures.lanes) fs s r (subst (λ (n : BankWords). IsWorkload n.figures fs s) (one_bank words g k a asked) is) out

    bank_refused : (old new : Seen) (o : Outcome) (status : ℕ) → Says words old new o → status ≡ status_of o → IsOutsideOrFailed status
    bank_refused old new (Journal text) status h s = absurd (no_bank words h.0 (h.1, inl h.2) k asked)
    bank_refused old new (Summary text) status (g, a, h) s = absurd (no_workload (λ fs t. Unit {0}) g a (h.files, h.script, h.made, tt))
    bank_refused old new (Rewritten n t m) status h s = absurd (no_bank words h.0 (h.1, inr h.2) k asked)
    bank_refused old new Usage status h s = absurd (h.1 k asked)
    bank_refused old new (BadClass path q) status h s = absurd (no_bank words h.0 h.1 k asked)
    bank_refused old new (BadProgram q) status h s = inl s
    bank_refused old new (Untyped q) status (inl h) s = absurd (no_bank words h.0 h.1 k asked)
    bank_refused old new (Untyped q) status (inr (g, a, h)) s = absurd (no_workload (λ fs t. IsUntypable q fs) g a h)
    bank_refused old new (BadScript q) status (inl h) s = absurd (no_bank words h.0 (h.1, inl h.2) k asked)
    bank_refused old new (BadScript q) status (inr (g, a, h)) s = absurd (no_workload (λ fs t. IsBadScript t q fs) g a h)
    bank_refused old new (Unopened class x) status (inl h) s = absurd (no_bank words h.0 (h.1, inl h.2) k asked)
    bank_refused old new (Unopened class x) status (inr (g, a, h)) s = absurd (no_workload (λ fs t. IsUnopened t class x fs) g a h)
    bank_refused old new (Outside path) status h s = absurd (not_outside _ old new h)
    bank_refused old new (NotPut path) status h s = absurd (no_bank words h.0 (h.1, inr h.2) k asked)

pub complete_bank : (words : List (String Global)) (old new : Seen) (o : Outcome) (status : ℕ) → Says words old new o → status ≡ status_of o → CanRunBankOfWords words → IsBankRunOrFailed status
complete_bank words old new o status h s (k, asked, (files, script, made, can)) = bank_completes words k asked files script made old new o status can h s

pub outside_limits : (words : List (String Global)) (old new : Seen) (o : Outcome) (status : ℕ) → Says words old new o → status ≡ status_of o → IsOutsideOfWords words → IsOutsideOrFailed status
outside_limits words old new o status h s (k, asked, (r, out)) = bank_refused words k asked r out old new o status h s

-- a bank whose run ended so
pub bank_ended : (words : List (String Global)) (k : BankWords) (old new : Seen) → new.files ≡ old.files → AsksBank words k → (files : List ClassFile) (script : List ℕ) → IsWorkload k.figures files script
    → (end : RunEnd) (o : Outcome) → EndsRun files script end → IsRefusedAs end o → IsOutcome words old new o
bank_ended words k old new kept a files script made (run_ends.Refused r) o h is = rw is (kept, inr (k, a, inr (files, script, made, h)))
bank_ended words k old new kept a files script made (run_ends.Untyped r) o h is = rw is (kept, inr (k, a, (files, script, made, h)))
bank_ended words k old new kept a files script made (run_ends.BadScript r) o h is = rw is (kept, inr (k, a, (files, script, made, h)))
bank_ended words k old new kept a files script made (run_ends.Unopened class x) o h is = rw is (kept, inr (k, a, (files, script, made, h)))
bank_ended words k old new kept a files script made run_ends.NoMemory o h is = absurd is
