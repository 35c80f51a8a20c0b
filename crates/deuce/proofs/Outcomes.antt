-- The outcomes of commands.
use Rattle.std.proofs.Common.{◌≡◌, ◌≤◌, ℕ, List, Option, Some, None, inl, inr, subst}
use Rattle.std.specs.Prelude.{String, string_bytes}
use Rattle.std.specs.declared.alloc.Global.{Global}
use Rattle.deuce_io.specs.Fault.{Call}
use Rattle.deuce_io.proofs.Rising.{rose_since}
use Rattle.deuce_io.specs.Files.{Files}
use Rattle.deuce_io.specs.Seen.{Seen}
use Rattle.jmodel.specs.declared.refusal.Refusal.{Refusal}
use Rattle.jmodel.specs.declared.value.Answer.{Answer}
use Rattle.jmodel.specs.format.ClassFile.{ClassFile}
use Rattle.deuce.specs.Command.{seen_words, rewrite_words, NamesFolder}
use Rattle.deuce.specs.declared.inputs.ClassInput.{ClassInput}
use Rattle.deuce.specs.declared.inputs.InputEnd.{InputEnd}
use Rattle.deuce.specs.declared.inputs.InputEnd.TheVariants as ends
use Rattle.deuce.specs.declared.putting.PutEnd.{PutEnd}
use Rattle.deuce.specs.declared.putting.PutEnd.TheVariants as put_ends
use Rattle.runner.specs.Faults.{HasFault, IsBadRewriting, IsUntypable, IsBadScript, IsUnopened, EndsRun, EndsPreparing}
use Rattle.runner.specs.declared.outcome.RunEnd.{RunEnd}
use Rattle.runner.specs.declared.outcome.RunEnd.TheVariants as run_ends
use Rattle.deuce.specs.declared.outcome.Outcome.{Outcome}
use Rattle.deuce.specs.declared.outcome.Outcome.TheVariants as outcomes
use Rattle.deuce.specs.Folder.{IsOverfull, HasClasses, LacksHelper, placed_with, ArePutUpTo}
use Rattle.deuce.specs.Ending.{Failed, paths_of, AreRewritten, EndsPuts, AreClassInputs, AreClassesOf, EndsInputs, EndsClasses, IsReservedAs, EndsReserved}
use Rattle.deuce.specs.Outcomes.{Says, ArePut, IsUnreadAs, IsRefusedAs, IsNotPutAs, IsOutcome, IsBadProgramOfWords, FailedOutside}
use Rattle.deuce.proofs.Reading.{bad_class, has_classes, reserved_of, stopped_at}

module _ (words : List (String Global)) (old new : Seen) (dir : List ℕ) (kept : new.files ≡ old.files) (names : NamesFolder words dir) where
  -- of a command whose inputs weren't there
  pub unread : (Asks : Call → Type 0) (end : InputEnd) (o : Outcome) → ((path : List ℕ) → Failed Asks path old new → FailedOutside words path old new)
      → ((r : Refusal) → IsOverfull old.files dir r → IsBadProgramOfWords words old.files r) → EndsInputs Asks dir old new end → IsUnreadAs end o → IsOutcome words old new o
  unread Asks (ends.Outside path) o fails over h is = rw is (kept, fails (string_bytes path) h)
  unread Asks (ends.BadClass path r) o fails over h is = absurd h
  unread Asks (ends.Refused r) o fails over h is = rw is (kept, over r h)
  unread Asks ends.NoMemory o fails over h is = absurd is

  -- of a command over class files that aren't all good
  pub not_good : (inputs : List ClassInput) → AreClassInputs old.files dir inputs → (end : InputEnd) (o : Outcome) → EndsClasses inputs end → IsUnreadAs end o → IsOutcome words old new o
  not_good inputs a (ends.Outside path) o h is = absurd h
  not_good inputs a (ends.BadClass path r) o h is = rw is (kept, (dir, names, bad_class old.files dir inputs (string_bytes path) r a h))
  not_good inputs a (ends.Refused r) o h is = absurd h
  not_good inputs a ends.NoMemory o h is = absurd is

module _ (words : List (String Global)) (old new : Seen) (dir : List ℕ) (kept : new.files ≡ old.files) (names : NamesFolder words dir) (inputs : List ClassInput) (a : AreClassInputs old.files dir inputs) (cs : List ClassFile) (good : AreClassesOf inputs cs) where
  -- of a command over class files one of which has the path of the helper of arrays
  pub kept_for_helper : (o : Option Refusal) (r : Refusal) → EndsReserved inputs cs o → o ≡ Some r → IsOutcome words old new (outcomes.BadProgram r)
  kept_for_helper None r h is = absurd (cc)
  kept_for_helper (Some s) r h is =
      let same : s ≡ r = cc in
      (kept, inl (dir, names, inr (reserved_of old.files dir inputs cs h.0 r a good h.1 (subst (IsReservedAs cs h.0) same h.2))))

  module _ (free : LacksHelper old.files dir) where
    -- of a run on them
    pub refused : (bytes : List ℕ) (end : RunEnd) (o : Outcome)
        → ((r : Refusal) → IsBadScript bytes r cs → HasClasses old.files dir (IsBadScript bytes r) → Says words old new (outcomes.BadScript r))
        → ((name : List ℕ) (x : Answer) → IsUnopened bytes name x cs → HasClasses old.files dir (IsUnopened bytes name x) → Says words old new (outcomes.Unopened name x))
        → EndsRun cs bytes end → IsRefusedAs end o → IsOutcome words old new o
    refused bytes (run_ends.Refused r) o bad shut (inl h) is = rw is (kept, inl (dir, names, inr (inl (has_classes old.files dir inputs cs (HasFault r) a good h))))
    refused bytes (run_ends.Refused r) o bad shut (inr h) is = rw is (kept, inl (dir, names, inr (inr (inr (free, has_classes old.files dir inputs cs (IsBadRewriting r) a good h)))))
    refused bytes (run_ends.Untyped r) o bad shut h is = rw is (kept, inl (dir, names, (free, has_classes old.files dir inputs cs (IsUntypable r) a good h)))
    refused bytes (run_ends.BadScript r) o bad shut h is = rw is (kept, bad r h (has_classes old.files dir inputs cs (IsBadScript bytes r) a good h))
    refused bytes (run_ends.Unopened name x) o bad shut h is = rw is (kept, shut name x h (has_classes old.files dir inputs cs (IsUnopened bytes name x) a good h))
    refused bytes run_ends.NoMemory o bad shut h is = absurd is

    -- of a rewriting of them
    pub not_rewritten : (end : RunEnd) (o : Outcome) → EndsPreparing cs end → IsRefusedAs end o → IsOutcome words old new o
    not_rewritten (run_ends.Refused r) o (inl h) is = rw is (kept, inl (dir, names, inr (inl (has_classes old.files dir inputs cs (HasFault r) a good h))))
    not_rewritten (run_ends.Refused r) o (inr h) is = rw is (kept, inl (dir, names, inr (inr (inr (free, has_classes old.files dir inputs cs (IsBadRewriting r) a good h)))))
    not_rewritten (run_ends.Untyped r) o h is = rw is (kept, inl (dir, names, (free, has_classes old.files dir inputs cs (IsUntypable r) a good h)))
    not_rewritten (run_ends.BadScript r) o h is = absurd h
    not_rewritten (run_ends.Unopened name x) o h is = absurd h
    not_rewritten run_ends.NoMemory o h is = absurd is

-- ---- puts that stopped

module _ (words : List (String Global)) (old new : Seen) (dir out : List ℕ) (w : seen_words words ≡ rewrite_words dir out) (inputs : List ClassInput) (news : List (List ℕ)) (helper : List ℕ) (taken marked : ℕ)
    (made : AreRewritten old.files dir (paths_of inputs) news helper taken marked) (puts : List (List ℕ × List ℕ)) (are : puts ≡ placed_with out (paths_of inputs) news helper) (before : Seen) (kept : before.files ≡ old.files) (later : old.put_faults ≤ before.put_faults) where
  -- the files that were put since the folder was read were put since before
  since : (path : List ℕ) → ArePutUpTo puts before.files new.files path → ArePutUpTo puts old.files new.files path
  since path h = subst (λ (f : Option Files). ArePutUpTo puts f new.files path) kept h

  pub not_put : (end : PutEnd) (o : Outcome) → EndsPuts puts before new end → IsNotPutAs end o → IsOutcome words old new o
  not_put (put_ends.Failed path) o h is = rw is (
    tt,
    (
      dir,
      out,
      w,
      record {
        stopped = stopped_at old.files new.files dir out inputs news helper taken marked made puts are (string_bytes path) (since (string_bytes path) h.0);
        rose = rose_since old.put_faults before.put_faults new.put_faults later h.1.rose;
        is_last = h.1.is_last;
      },
    ),
  )
  not_put put_ends.NoMemory o h is = absurd is

  pub stopped : (end : PutEnd) → EndsPuts puts before new end → ArePut words old.files new.files
  stopped (put_ends.Failed path) h = inr (dir, out, w, inr (string_bytes path, stopped_at old.files new.files dir out inputs news helper taken marked made puts are (string_bytes path) (since (string_bytes path) h.0)))
  stopped put_ends.NoMemory h = inr (dir, out, w, inr (h.0, stopped_at old.files new.files dir out inputs news helper taken marked made puts are h.0 (since h.0 h.1)))
