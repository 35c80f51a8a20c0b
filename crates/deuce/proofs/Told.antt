-- What the gates were told, by how a command ends.
use Rattle.std.proofs.Common.{◌≡◌, ℕ, List, Option, inl, inr, subst, arith}
use Rattle.std.specs.Prelude.{String}
use Rattle.std.specs.declared.alloc.Global.{Global}
use Rattle.objects.specs.declared.event.Event.{Event}
use Rattle.deuce_io.specs.Files.{Files}
use Rattle.deuce_io.specs.Seen.{Seen}
use Rattle.runner.specs.declared.outcome.RunEnd.{RunEnd}
use Rattle.runner.specs.declared.outcome.RunEnd.TheVariants as run_ends
use Rattle.deuce.specs.declared.inputs.InputEnd.{InputEnd}
use Rattle.deuce.specs.declared.inputs.InputEnd.TheVariants as ends
use Rattle.deuce.specs.declared.words.BankWords.{BankWords}
use Rattle.deuce.specs.declared.outcome.Outcome.{Outcome}
use Rattle.deuce.specs.declared.outcome.Outcome.TheVariants.{Journal, Summary, Rewritten, Usage, BadClass, BadProgram, Untyped, BadScript, Unopened, Outside, NotPut}
use Rattle.deuce.specs.Command.{seen_words, run_words, rewrite_words, AsksBank}
use Rattle.deuce.specs.Outcomes.{Says, IsTextOf, IsUnreadAs, IsRefusedAs, Appends, status_of}
use Rattle.deuce.specs.Telling.{TellsJournalOf, TellsBankOf, TellsOutcome}
use Rattle.deuce.proofs.Asked.{one_run, one_bank, no_bank, apart}

module _ (words : List (String Global)) (files : Option Files) (x y : List (Option (List Event))) where
  -- where nothing is run, nothing is said of gates
  pub told_unread : (end : InputEnd) (o : Outcome) → IsUnreadAs end o → TellsOutcome words files x y o
  told_unread (ends.Outside path) o is = rw is tt
  told_unread (ends.BadClass path r) o is = rw is tt
  told_unread (ends.Refused r) o is = rw is tt
  told_unread ends.NoMemory o is = absurd is

  pub told_refused : (end : RunEnd) (o : Outcome) → IsRefusedAs end o → TellsOutcome words files x y o
  told_refused (run_ends.Refused r) o is = rw is tt
  told_refused (run_ends.Untyped r) o is = rw is tt
  told_refused (run_ends.BadScript r) o is = rw is tt
  told_refused (run_ends.Unopened class z) o is = rw is tt
  told_refused run_ends.NoMemory o is = absurd is

  pub told_rewriting : (dir to : List ℕ) (old new : Seen) → seen_words words ≡ rewrite_words dir to → y ≡ x → (o : Outcome) → Says words old new o → TellsOutcome words files x y o
  told_rewriting dir to old new w same (Journal text) h = absurd (apart words h.0 h.1 dir to h.2 w)
  told_rewriting dir to old new w same (Summary text) h = absurd (no_bank words dir (to, inr w) h.0 h.1)
  told_rewriting dir to old new w same (Rewritten n t m) h = same
  told_rewriting dir to old new w same Usage h = tt
  told_rewriting dir to old new w same (BadClass path r) h = tt
  told_rewriting dir to old new w same (BadProgram r) h = tt
  told_rewriting dir to old new w same (Untyped r) h = tt
  told_rewriting dir to old new w same (BadScript r) h = tt
  told_rewriting dir to old new w same (Unopened class z) h = tt
  told_rewriting dir to old new w same (Outside path) h = tt
  told_rewriting dir to old new w same (NotPut path) h = tt

  -- of a rewriting, where one was asked for
  pub told_nothing : (old new : Seen) (status : ℕ) (o : Outcome) → Says words old new o → TellsOutcome words files x y o → status ≡ status_of o → status ≡ 0
      → (dir to : List ℕ) → seen_words words ≡ rewrite_words dir to → y ≡ x
  told_nothing old new status (Journal text) h k s z = λ dir to w. absurd (apart words h.0 h.1 dir to h.2 w)
  told_nothing old new status (Summary text) h k s z = λ dir to w. absurd (no_bank words dir (to, inr w) h.0 h.1)
  told_nothing old new status (Rewritten n t m) h k s z = λ dir to w. k
  told_nothing old new status Usage h k s z = absurd (omega (arith, s, z))
  told_nothing old new status (BadClass path r) h k s z = absurd (omega (arith, s, z))
  told_nothing old new status (BadProgram r) h k s z = absurd (omega (arith, s, z))
  told_nothing old new status (Untyped r) h k s z = absurd (omega (arith, s, z))
  told_nothing old new status (BadScript r) h k s z = absurd (omega (arith, s, z))
  told_nothing old new status (Unopened class u) h k s z = absurd (omega (arith, s, z))
  told_nothing old new status (Outside path) h k s z = absurd (omega (arith, s, z))
  told_nothing old new status (NotPut path) h k s z = absurd (omega (arith, s, z))

  module _ (old new : Seen) (printed : List ℕ) (before now : Option (List ℕ)) (status : ℕ) where
    -- of a run, where one was asked for
    pub told_printed : (o : Outcome) → Says words old new o → TellsOutcome words files x y o → status ≡ status_of o → IsTextOf o printed → Appends before now printed → status ≡ 0
        → (dir script : List ℕ) → seen_words words ≡ run_words dir script → (text : List ℕ) × TellsJournalOf files dir script text x y × Appends before now text
    told_printed (Journal text) h k s is all z = λ dir script w.
        let same = one_run words k.0 k.1 dir script k.2 w in
        (text, rw (same.0, same.1) at k.3, rw is at all)
    told_printed (Summary text) h k s is all z = λ dir script w. absurd (no_bank words dir (script, inl w) h.0 h.1)
    told_printed (Rewritten n t m) h k s is all z = λ dir script w. absurd (apart words dir script h.0 h.1 w h.2)
    told_printed Usage h k s is all z = absurd (omega (arith, s, z))
    told_printed (BadClass path r) h k s is all z = absurd (omega (arith, s, z))
    told_printed (BadProgram r) h k s is all z = absurd (omega (arith, s, z))
    told_printed (Untyped r) h k s is all z = absurd (omega (arith, s, z))
    told_printed (BadScript r) h k s is all z = absurd (omega (arith, s, z))
    told_printed (Unopened class u) h k s is all z = absurd (omega (arith, s, z))
    told_printed (Outside path) h k s is all z = absurd (omega (arith, s, z))
    told_printed (NotPut path) h k s is all z = absurd (omega (arith, s, z))

    -- of a bank, where one was asked for
    pub told_of_bank : (o : Outcome) → Says words old new o → TellsOutcome words files x y o → status ≡ status_of o → IsTextOf o printed → Appends before now printed → status ≡ 0
        → (f : BankWords) → AsksBank words f → (text : List ℕ) × TellsBankOf f text x y × Appends before now text
    told_of_bank (Journal text) h k s is all z = λ f a. absurd (no_bank words h.0 (h.1, inl h.2) f a)
    told_of_bank (Summary text) h k s is all z = λ f a. (text, subst (λ (g : BankWords). TellsBankOf g text x y) (one_bank words k.0 f k.1 a) k.2, rw is at all)
    told_of_bank (Rewritten n t m) h k s is all z = λ f a. absurd (no_bank words h.0 (h.1, inr h.2) f a)
    told_of_bank Usage h k s is all z = absurd (omega (arith, s, z))
    told_of_bank (BadClass path r) h k s is all z = absurd (omega (arith, s, z))
    told_of_bank (BadProgram r) h k s is all z = absurd (omega (arith, s, z))
    told_of_bank (Untyped r) h k s is all z = absurd (omega (arith, s, z))
    told_of_bank (BadScript r) h k s is all z = absurd (omega (arith, s, z))
    told_of_bank (Unopened class u) h k s is all z = absurd (omega (arith, s, z))
    told_of_bank (Outside path) h k s is all z = absurd (omega (arith, s, z))
    told_of_bank (NotPut path) h k s is all z = absurd (omega (arith, s, z))
