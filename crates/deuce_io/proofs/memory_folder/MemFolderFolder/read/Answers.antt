-- Each end of a read changes the counts that it names.
use Rattle.std.proofs.Common.{◌∙◌, List, ℕ, ap, refl, inl, inr, sym, take}
use Rattle.std.specs.BTreeMap.{get_by_text}
use Rattle.deuce_io.proofs.Contents.{start_read, start_within}
use Rattle.deuce_io.proofs.Ends.{no_less, answered, short, failure, ran_out, stands_in, stands_not}
use Rattle.deuce_io.specs.Fault.{next_count}
use Rattle.deuce_io.proofs.memory_folder.MemFolderFolder.read.Goals as goal

pub returns-then-contains : goal.returns-then-contains
returns-then-contains c =
    let self = c.args.self.now in
    let fail = c.fail-end.ensures in
    record {
      content = λ told is. tt;
      within = tt;
      files_kept = refl;
      counts = fail.no_less;
      put_counts = no_less self.put_faults;
      cause = λ e. record { rose = fail.rose; is_last = fail.failed (failure c.fail-end.result e) };
      failed = λ _. inl (stands_in self.fail_reads.items c.deref.result.now (next_count self.reads) c.saturating_add-self.result c.deref.ensures.value c.saturating_add-self.ensures c.if-contains.ensures.cases);
      passed = tt;
      counted = λ _. fail.counted;
      quiet = tt;
      rest = ap (λ (n : ℕ). record self { reads = n; faults = c.fail-end.new.count; failed = c.fail-end.new.last }) c.saturating_add-self.ensures;
    }

pub returns-in_err-start_of-in-Some : goal.returns-in_err-start_of-in-Some
returns-in_err-start_of-in-Some c =
    let self = c.args.self.now in
    rw (ran_out c.from_residual.result c.from_residual.ensures.1) record {
      content = λ told is. tt;
      within = tt;
      files_kept = refl;
      counts = no_less self.faults;
      put_counts = no_less self.put_faults;
      cause = λ e. absurd (short e);
      failed = λ e. absurd (short e);
      passed = tt;
      counted = λ e. absurd (short e);
      quiet = tt;
      rest = ap (λ (n : ℕ). record self { reads = n }) c.saturating_add-self.ensures;
    }

pub returns-in_ok-start_of-in-Some : goal.returns-in_ok-start_of-in-Some
returns-in_ok-start_of-in-Some c =
    let self = c.args.self.now in
    let same = ap (λ (n : ℕ). record self { reads = n }) c.saturating_add-self.ensures in
    let bytes = c.in_ok-start_of-in-Some.field-0 in
    let start = c.in_ok-start_of-in-Some.ensures ∙ ap (λ (l : List ℕ). take c.args.most l) c.as_slice.ensures in
    record {
      content = start_read c.args.path.now (get_by_text self.files) c.args.most c.in-Some.whole.now bytes c.in-Some.ensures.value start;
      within = start_within c.args.most c.in-Some.whole.now bytes start;
      files_kept = refl;
      counts = no_less self.faults;
      put_counts = no_less self.put_faults;
      cause = λ e. absurd (answered c.in_ok-start_of-in-Some.field-0 e);
      failed = λ e. absurd (answered c.in_ok-start_of-in-Some.field-0 e);
      passed = stands_not self.fail_reads.items c.deref.result.now (next_count self.reads) c.saturating_add-self.result c.deref.ensures.value c.saturating_add-self.ensures c.if-contains.ensures.cases;
      counted = λ e. absurd (answered c.in_ok-start_of-in-Some.field-0 e);
      quiet = same;
      rest = same;
    }

pub returns-in-None : goal.returns-in-None
returns-in-None c =
    let self = c.args.self.now in
    let fail = c.fail-end-in-None.ensures in
    record {
      content = λ told is. tt;
      within = tt;
      files_kept = refl;
      counts = fail.no_less;
      put_counts = no_less self.put_faults;
      cause = λ e. record { rose = fail.rose; is_last = fail.failed (failure c.fail-end-in-None.result e) };
      failed = λ _. inr (sym c.in-None.ensures.value);
      passed = tt;
      counted = λ _. fail.counted;
      quiet = tt;
      rest = ap (λ (n : ℕ). record self { reads = n; faults = c.fail-end-in-None.new.count; failed = c.fail-end-in-None.new.last }) c.saturating_add-self.ensures;
    }
