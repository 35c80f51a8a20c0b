-- Each end of a list changes the counts that it names.
use Rattle.std.proofs.Common.{ℕ, ap, refl, subst}
use Rattle.std.specs.BTreeMap.{get_by_text}
use Rattle.deuce_io.proofs.Ends.{no_less, one_of, answered, short, failure, ran_out, stands_in, stands_not}
use Rattle.deuce_io.specs.Fault.{next_count}
use Rattle.deuce_io.specs.Files.{Files, IsListing, seen_items}
use Rattle.deuce_io.proofs.memory_folder.MemFolderFolder.list.Goals as goal

pub returns-then-contains : goal.returns-then-contains
returns-then-contains c =
    let self = c.args.self.now in
    let fail = c.fail-end.ensures in
    record {
      items = λ told is. tt;
      files_kept = refl;
      counts = fail.no_less;
      put_counts = no_less self.put_faults;
      cause = λ e. record { rose = fail.rose; is_last = fail.failed (failure c.fail-end.result e) };
      failed = λ _. stands_in self.fail_lists.items c.deref.result.now (next_count self.lists) c.saturating_add-self.result c.deref.ensures.value c.saturating_add-self.ensures c.if-contains.ensures.cases;
      passed = tt;
      counted = λ _. fail.counted;
      quiet = tt;
      rest = ap (λ (n : ℕ). record self { lists = n; faults = c.fail-end.new.count; failed = c.fail-end.new.last }) c.saturating_add-self.ensures;
    }

pub returns-in_err-items_of : goal.returns-in_err-items_of
returns-in_err-items_of c =
    let self = c.args.self.now in
    rw (ran_out c.from_residual.result c.from_residual.ensures.1) record {
      items = λ told is. tt;
      files_kept = refl;
      counts = no_less self.faults;
      put_counts = no_less self.put_faults;
      cause = λ e. absurd (short e);
      failed = λ e. absurd (short e);
      passed = tt;
      counted = λ e. absurd (short e);
      quiet = tt;
      rest = ap (λ (n : ℕ). record self { lists = n }) c.saturating_add-self.ensures;
    }

pub returns : goal.returns
returns c =
    let self = c.args.self.now in
    let items = c.in_ok-items_of.field-0 in
    let same = ap (λ (n : ℕ). record self { lists = n }) c.saturating_add-self.ensures in
    record {
      items = λ told is. subst (λ (files : Files). IsListing files c.args.dir.now (seen_items items.items)) (one_of (get_by_text self.files) told is) c.in_ok-items_of.ensures;
      files_kept = refl;
      counts = no_less self.faults;
      put_counts = no_less self.put_faults;
      cause = λ e. absurd (answered items e);
      failed = λ e. absurd (answered items e);
      passed = stands_not self.fail_lists.items c.deref.result.now (next_count self.lists) c.saturating_add-self.result c.deref.ensures.value c.saturating_add-self.ensures c.if-contains.ensures.cases;
      counted = λ e. absurd (answered items e);
      quiet = same;
      rest = same;
    }
