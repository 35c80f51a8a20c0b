-- A put that fails leaves the path what it had, and each end changes the counts that it names.
use Rattle.std.proofs.Common.{◌∙◌, List, ℕ, ap, refl, Some, string_bytes}
use Rattle.std.specs.BTreeMap.{get_by_text}
use Rattle.deuce_io.proofs.Contents.{changed, with_own, unchanged}
use Rattle.deuce_io.proofs.Ends.{no_less, answered, short, failure, ran_out, stands_in, stands_not}
use Rattle.deuce_io.specs.Files.{with_content}
use Rattle.deuce_io.specs.Fault.{next_count}
use Rattle.deuce_io.proofs.memory_folder.MemFolderFolder.put.Goals as goal

pub returns-then-contains : goal.returns-then-contains
returns-then-contains c =
    let self = c.args.self.now in
    let fail = c.fail-end.ensures in
    record {
      content = tt;
      others = (get_by_text self.files c.args.path.now, ap Some (with_own c.args.path.now (get_by_text self.files)));
      counts = no_less self.faults;
      put_counts = fail.no_less;
      cause = λ e. record { rose = fail.rose; is_last = fail.failed (failure c.fail-end.result e) };
      failed = λ _. stands_in self.fail_puts.items c.deref.result.now (next_count self.puts) c.saturating_add-self.result c.deref.ensures.value c.saturating_add-self.ensures c.if-contains.ensures.cases;
      passed = tt;
      counted = λ _. fail.counted;
      err = refl;
      quiet = tt;
      rest = ap (λ (n : ℕ). record self { puts = n; put_faults = c.fail-end.new.count; failed = c.fail-end.new.last }) c.saturating_add-self.ensures;
    }

pub returns-in_err-path : goal.returns-in_err-path
returns-in_err-path c =
    let self = c.args.self.now in
    rw (ran_out c.from_residual.result c.from_residual.ensures.1) record {
      content = tt;
      others = (get_by_text self.files c.args.path.now, ap Some (with_own c.args.path.now (get_by_text self.files)));
      counts = no_less self.faults;
      put_counts = no_less self.put_faults;
      cause = λ e. absurd (short e);
      failed = λ e. absurd (short e);
      passed = tt;
      counted = λ e. absurd (short e);
      err = refl;
      quiet = tt;
      rest = ap (λ (n : ℕ). record self { puts = n }) c.saturating_add-self.ensures;
    }

pub returns-in_err-content : goal.returns-in_err-content
returns-in_err-content c =
    let self = c.args.self.now in
    rw (ran_out c.from_residual-in_err-content.result c.from_residual-in_err-content.ensures.1) record {
      content = tt;
      others = (get_by_text self.files c.args.path.now, ap Some (with_own c.args.path.now (get_by_text self.files)));
      counts = no_less self.faults;
      put_counts = no_less self.put_faults;
      cause = λ e. absurd (short e);
      failed = λ e. absurd (short e);
      passed = tt;
      counted = λ e. absurd (short e);
      err = refl;
      quiet = tt;
      rest = ap (λ (n : ℕ). record self { puts = n }) c.saturating_add-self.ensures;
    }

pub returns-in-Ok : goal.returns-in-Ok
returns-in-Ok c =
    let self = c.args.self.now in
    let same = ap (λ (n : ℕ). record self { files = c.insert.new.self; puts = n }) c.saturating_add-self.ensures in
    let put = ap Some (changed (string_bytes c.in_ok-path.path) self.files c.insert.new.self (Some c.in_ok-content.content) c.in-Ok.ensures.updates
    ∙ ap (λ (p : List ℕ). with_content p (Some c.in_ok-content.content) (get_by_text self.files)) c.in_ok-path.ensures.ok
    ∙ ap (λ (b : List ℕ). with_content c.args.path.now (Some b) (get_by_text self.files)) c.in_ok-content.ensures) in
    record {
      content = put;
      others = (Some c.args.bytes.now, put);
      counts = no_less self.faults;
      put_counts = no_less self.put_faults;
      cause = λ e. absurd (answered tt e);
      failed = λ e. absurd (answered tt e);
      passed = stands_not self.fail_puts.items c.deref.result.now (next_count self.puts) c.saturating_add-self.result c.deref.ensures.value c.saturating_add-self.ensures c.if-contains.ensures.cases;
      counted = λ e. absurd (answered tt e);
      err = tt;
      quiet = same;
      rest = same;
    }

pub returns : goal.returns
returns c =
    let self = c.args.self.now in
    record {
      content = tt;
      others = (get_by_text self.files c.args.path.now, ap Some (unchanged c.insert.new.self self.files c.in-Err.ensures.err ∙ with_own c.args.path.now (get_by_text self.files)));
      counts = no_less self.faults;
      put_counts = no_less self.put_faults;
      cause = λ e. absurd (short e);
      failed = λ e. absurd (short e);
      passed = tt;
      counted = λ e. absurd (short e);
      err = c.in-Err.ensures.err;
      quiet = tt;
      rest = ap (λ (n : ℕ). record self { files = c.insert.new.self; puts = n }) c.saturating_add-self.ensures;
    }
