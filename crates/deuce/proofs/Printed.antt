-- What was printed with a status.
use Rattle.std.proofs.Common.{◌≡◌, ℕ, List, Option, inl, inr, subst, arith}
use Rattle.std.specs.Prelude.{String, string_bytes, codes}
use Rattle.std.specs.declared.alloc.Global.{Global}
use Rattle.jmodel.specs.declared.refusal.Refusal.{Refusal}
use Rattle.jmodel.specs.declared.value.Answer.{Answer}
use Rattle.jmodel.specs.history.Output.{◌and◌, answer_text, refusal_text, error_text}
use Rattle.deuce.specs.Command.{seen_words, run_words, rewrite_words, AsksBank}
use Rattle.deuce.specs.Rewritten.{counts_text}
use Rattle.deuce.specs.declared.outcome.Outcome.{Outcome}
use Rattle.deuce.specs.declared.outcome.Outcome.TheVariants.{Journal, Summary, Rewritten, Usage, BadClass, BadProgram, Untyped, BadScript, Unopened, Outside, NotPut}
use Rattle.deuce.specs.declared.words.BankWords.{BankWords}
use Rattle.deuce.specs.Bank.{IsSummaryOf}
use Rattle.deuce.specs.Ending.{IsJournalOf, IsRewritingOf}
use Rattle.deuce_io.specs.Seen.{Seen}
use Rattle.deuce.specs.Outcomes.{Keeps, IsRefusal, Says, IsTextOf, Appends, status_of, IsBadClassOfWords, IsBadProgramOfWords, IsUntypableOfWords, IsBadScriptOfWords, IsUnopenedOfWords, FailedPutOfWords}
use Rattle.deuce.proofs.Asked.{one_run, one_rewriting, one_bank, no_bank, apart}

module _ (words : List (String Global)) (old new : Seen) (printed : List ℕ) (before now : Option (List ℕ)) (status : ℕ) where
  -- a run's journal, where a run was asked for
  pub journal_printed : (o : Outcome) → Says words old new o → status ≡ status_of o → IsTextOf o printed → Appends before now printed → status ≡ 0
      → (dir script : List ℕ) → seen_words words ≡ run_words dir script → (text : List ℕ) × IsJournalOf old.files dir script text × Appends before now text
  journal_printed (Journal text) h s is all z = λ dir script w.
      let same = one_run words h.0 h.1 dir script h.2 w in
      (text, rw (same.0, same.1) at h.3, rw is at all)
  journal_printed (Summary text) h s is all z = λ dir script w. absurd (no_bank words dir (script, inl w) h.0 h.1)
  journal_printed (Rewritten n t m) h s is all z = λ dir script w. absurd (apart words dir script h.0 h.1 w h.2)
  journal_printed Usage h s is all z = absurd (omega (arith, s, z))
  journal_printed (BadClass path r) h s is all z = absurd (omega (arith, s, z))
  journal_printed (BadProgram r) h s is all z = absurd (omega (arith, s, z))
  journal_printed (Untyped r) h s is all z = absurd (omega (arith, s, z))
  journal_printed (BadScript r) h s is all z = absurd (omega (arith, s, z))
  journal_printed (Unopened class x) h s is all z = absurd (omega (arith, s, z))
  journal_printed (Outside path) h s is all z = absurd (omega (arith, s, z))
  journal_printed (NotPut path) h s is all z = absurd (omega (arith, s, z))

  -- a bank's summary, where a bank was asked for
  pub summary_printed : (o : Outcome) → Says words old new o → status ≡ status_of o → IsTextOf o printed → Appends before now printed → status ≡ 0
      → (f : BankWords) → AsksBank words f → (text : List ℕ) × IsSummaryOf f text × Appends before now text
  summary_printed (Journal text) h s is all z = λ f a. absurd (no_bank words h.0 (h.1, inl h.2) f a)
  summary_printed (Summary text) h s is all z = λ f a. (text, subst (λ (g : BankWords). IsSummaryOf g text) (one_bank words h.0 f h.1 a) h.2, rw is at all)
  summary_printed (Rewritten n t m) h s is all z = λ f a. absurd (no_bank words h.0 (h.1, inr h.2) f a)
  summary_printed Usage h s is all z = absurd (omega (arith, s, z))
  summary_printed (BadClass path r) h s is all z = absurd (omega (arith, s, z))
  summary_printed (BadProgram r) h s is all z = absurd (omega (arith, s, z))
  summary_printed (Untyped r) h s is all z = absurd (omega (arith, s, z))
  summary_printed (BadScript r) h s is all z = absurd (omega (arith, s, z))
  summary_printed (Unopened class x) h s is all z = absurd (omega (arith, s, z))
  summary_printed (Outside path) h s is all z = absurd (omega (arith, s, z))
  summary_printed (NotPut path) h s is all z = absurd (omega (arith, s, z))

  -- counts of a rewriting, where one was asked for
  pub rewriting_printed : (o : Outcome) → Says words old new o → status ≡ status_of o → IsTextOf o printed → Appends before now printed → status ≡ 0
      → (dir to : List ℕ) → seen_words words ≡ rewrite_words dir to → (classes : ℕ) × (taken : ℕ) × (marked : ℕ) × IsRewritingOf old.files new.files dir to classes taken marked × Appends before now (counts_text classes taken marked)
  rewriting_printed (Journal text) h s is all z = λ dir to w. absurd (apart words h.0 h.1 dir to h.2 w)
  rewriting_printed (Summary text) h s is all z = λ dir to w. absurd (no_bank words dir (to, inr w) h.0 h.1)
  rewriting_printed (Rewritten n t m) h s is all z = λ dir to w.
      let same = one_rewriting words h.0 h.1 dir to h.2 w in
      (n, t, m, rw (same.0, same.1) at h.3, rw is at all)
  rewriting_printed Usage h s is all z = absurd (omega (arith, s, z))
  rewriting_printed (BadClass path r) h s is all z = absurd (omega (arith, s, z))
  rewriting_printed (BadProgram r) h s is all z = absurd (omega (arith, s, z))
  rewriting_printed (Untyped r) h s is all z = absurd (omega (arith, s, z))
  rewriting_printed (BadScript r) h s is all z = absurd (omega (arith, s, z))
  rewriting_printed (Unopened class x) h s is all z = absurd (omega (arith, s, z))
  rewriting_printed (Outside path) h s is all z = absurd (omega (arith, s, z))
  rewriting_printed (NotPut path) h s is all z = absurd (omega (arith, s, z))

  -- a fault of a class file
  pub fault_printed : (o : Outcome) → Says words old new o → status ≡ status_of o → IsTextOf o printed → Appends before now printed → status ≡ 3
      → (path : List ℕ) × (r : Refusal) × IsBadClassOfWords words old.files path r × Appends before now (error_text (codes "3") (path and refusal_text r))
  fault_printed (Journal text) h s is all z = absurd (omega (arith, s, z))
  fault_printed (Summary text) h s is all z = absurd (omega (arith, s, z))
  fault_printed (Rewritten n t m) h s is all z = absurd (omega (arith, s, z))
  fault_printed Usage h s is all z = absurd (omega (arith, s, z))
  fault_printed (BadClass path r) h s is all z = (string_bytes path, r, h, rw is at all)
  fault_printed (BadProgram r) h s is all z = absurd (omega (arith, s, z))
  fault_printed (Untyped r) h s is all z = absurd (omega (arith, s, z))
  fault_printed (BadScript r) h s is all z = absurd (omega (arith, s, z))
  fault_printed (Unopened class x) h s is all z = absurd (omega (arith, s, z))
  fault_printed (Outside path) h s is all z = absurd (omega (arith, s, z))
  fault_printed (NotPut path) h s is all z = absurd (omega (arith, s, z))

  -- a fault of the classes, or a limit
  pub program_printed : (o : Outcome) → Says words old new o → status ≡ status_of o → IsTextOf o printed → Appends before now printed → status ≡ 4
      → (r : Refusal) × IsBadProgramOfWords words old.files r × Appends before now (error_text (codes "4") (refusal_text r))
  program_printed (Journal text) h s is all z = absurd (omega (arith, s, z))
  program_printed (Summary text) h s is all z = absurd (omega (arith, s, z))
  program_printed (Rewritten n t m) h s is all z = absurd (omega (arith, s, z))
  program_printed Usage h s is all z = absurd (omega (arith, s, z))
  program_printed (BadClass path r) h s is all z = absurd (omega (arith, s, z))
  program_printed (BadProgram r) h s is all z = (r, h, rw is at all)
  program_printed (Untyped r) h s is all z = absurd (omega (arith, s, z))
  program_printed (BadScript r) h s is all z = absurd (omega (arith, s, z))
  program_printed (Unopened class x) h s is all z = absurd (omega (arith, s, z))
  program_printed (Outside path) h s is all z = absurd (omega (arith, s, z))
  program_printed (NotPut path) h s is all z = absurd (omega (arith, s, z))

  -- a method without a typing
  pub untyped_printed : (o : Outcome) → Says words old new o → status ≡ status_of o → IsTextOf o printed → Appends before now printed → status ≡ 5
      → (r : Refusal) × IsUntypableOfWords words old.files r × Appends before now (error_text (codes "5") (refusal_text r))
  untyped_printed (Journal text) h s is all z = absurd (omega (arith, s, z))
  untyped_printed (Summary text) h s is all z = absurd (omega (arith, s, z))
  untyped_printed (Rewritten n t m) h s is all z = absurd (omega (arith, s, z))
  untyped_printed Usage h s is all z = absurd (omega (arith, s, z))
  untyped_printed (BadClass path r) h s is all z = absurd (omega (arith, s, z))
  untyped_printed (BadProgram r) h s is all z = absurd (omega (arith, s, z))
  untyped_printed (Untyped r) h s is all z = (r, h, rw is at all)
  untyped_printed (BadScript r) h s is all z = absurd (omega (arith, s, z))
  untyped_printed (Unopened class x) h s is all z = absurd (omega (arith, s, z))
  untyped_printed (Outside path) h s is all z = absurd (omega (arith, s, z))
  untyped_printed (NotPut path) h s is all z = absurd (omega (arith, s, z))

  -- a script that is none
  pub script_printed : (o : Outcome) → Says words old new o → status ≡ status_of o → IsTextOf o printed → Appends before now printed → status ≡ 6
      → (r : Refusal) × IsBadScriptOfWords words old.files r × Appends before now (error_text (codes "6") (refusal_text r))
  script_printed (Journal text) h s is all z = absurd (omega (arith, s, z))
  script_printed (Summary text) h s is all z = absurd (omega (arith, s, z))
  script_printed (Rewritten n t m) h s is all z = absurd (omega (arith, s, z))
  script_printed Usage h s is all z = absurd (omega (arith, s, z))
  script_printed (BadClass path r) h s is all z = absurd (omega (arith, s, z))
  script_printed (BadProgram r) h s is all z = absurd (omega (arith, s, z))
  script_printed (Untyped r) h s is all z = absurd (omega (arith, s, z))
  script_printed (BadScript r) h s is all z = (r, h, rw is at all)
  script_printed (Unopened class x) h s is all z = absurd (omega (arith, s, z))
  script_printed (Outside path) h s is all z = absurd (omega (arith, s, z))
  script_printed (NotPut path) h s is all z = absurd (omega (arith, s, z))

  -- a static initialiser that doesn't return
  pub unopened_printed : (o : Outcome) → Says words old new o → status ≡ status_of o → IsTextOf o printed → Appends before now printed → status ≡ 7
      → (class : List ℕ) × (x : Answer) × IsUnopenedOfWords words old.files class x × Appends before now (error_text (codes "7") (class and answer_text x))
  unopened_printed (Journal text) h s is all z = absurd (omega (arith, s, z))
  unopened_printed (Summary text) h s is all z = absurd (omega (arith, s, z))
  unopened_printed (Rewritten n t m) h s is all z = absurd (omega (arith, s, z))
  unopened_printed Usage h s is all z = absurd (omega (arith, s, z))
  unopened_printed (BadClass path r) h s is all z = absurd (omega (arith, s, z))
  unopened_printed (BadProgram r) h s is all z = absurd (omega (arith, s, z))
  unopened_printed (Untyped r) h s is all z = absurd (omega (arith, s, z))
  unopened_printed (BadScript r) h s is all z = absurd (omega (arith, s, z))
  unopened_printed (Unopened class x) h s is all z = (class, x, h, rw is at all)
  unopened_printed (Outside path) h s is all z = absurd (omega (arith, s, z))
  unopened_printed (NotPut path) h s is all z = absurd (omega (arith, s, z))

  -- a put that failed
  pub put_printed : (o : Outcome) → Says words old new o → status ≡ status_of o → IsTextOf o printed → Appends before now printed → status ≡ 11
      → (path : List ℕ) × FailedPutOfWords words path old new × Appends before now (error_text (codes "11") path)
  put_printed (Journal text) h s is all z = absurd (omega (arith, s, z))
  put_printed (Summary text) h s is all z = absurd (omega (arith, s, z))
  put_printed (Rewritten n t m) h s is all z = absurd (omega (arith, s, z))
  put_printed Usage h s is all z = absurd (omega (arith, s, z))
  put_printed (BadClass path r) h s is all z = absurd (omega (arith, s, z))
  put_printed (BadProgram r) h s is all z = absurd (omega (arith, s, z))
  put_printed (Untyped r) h s is all z = absurd (omega (arith, s, z))
  put_printed (BadScript r) h s is all z = absurd (omega (arith, s, z))
  put_printed (Unopened class x) h s is all z = absurd (omega (arith, s, z))
  put_printed (Outside path) h s is all z = absurd (omega (arith, s, z))
  put_printed (NotPut path) h s is all z = (string_bytes path, h, rw is at all)

-- nothing is put before a refusal
pub refusal_keeps : (o : Outcome) (old new : Seen) (status : ℕ) → Keeps o old new → status ≡ status_of o → IsRefusal status → new.files ≡ old.files
refusal_keeps (Journal text) old new status kept s h = kept
refusal_keeps (Summary text) old new status kept s h = kept
refusal_keeps (Rewritten n t m) old new status kept s h = absurd (none status s h)
  where
    none : (status : ℕ) → status ≡ 0 → IsRefusal status → ⊥
    none status s h = grind (arith, s, h)
refusal_keeps Usage old new status kept s h = kept
refusal_keeps (BadClass path r) old new status kept s h = kept
refusal_keeps (BadProgram r) old new status kept s h = kept
refusal_keeps (Untyped r) old new status kept s h = kept
refusal_keeps (BadScript r) old new status kept s h = kept
refusal_keeps (Unopened class x) old new status kept s h = kept
refusal_keeps (Outside path) old new status kept s h = kept
refusal_keeps (NotPut path) old new status kept s h = absurd (none status s h)
  where
    none : (status : ℕ) → status ≡ 11 → IsRefusal status → ⊥
    none status s h = grind (arith, s, h)
