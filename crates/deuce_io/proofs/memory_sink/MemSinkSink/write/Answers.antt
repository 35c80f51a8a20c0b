-- Each end of a write changes the counts that it names.
use Rattle.std.proofs.Common.{◌≡◌, ◌≤◌, ◌++◌, ℕ, ap, refl, length, take, Some, arith}
use Rattle.deuce_io.proofs.Ends.{no_less, rises, none_left, at_err, at_ok, answered, no_shortage, fault, short, stands_in, stands_not}
use Rattle.deuce_io.specs.Fault.{next_count}
use Rattle.deuce_io.proofs.memory_sink.MemSinkSink.write.Goals as goal
use Rattle.deuce_io.proofs.memory_sink.MemSinkSink.write.Goals.{else-taken-eq0-via-then-taken-eq0+else-not-is_empty, else-taken-eq0-via-else-taken-eq0}

pub returns-then-contains : goal.returns-then-contains
returns-then-contains c =
    let self = c.args.self.now in
    let faults = c.saturating_add-self-then-contains.result in
    record {
      within = tt;
      appended = tt;
      kept = refl;
      counts = let risen : self.faults ≤ faults = omega arith in risen;
      shortage_counts = no_less self.shortages;
      shortage = λ e. absurd (fault e);
      cause = λ _. rises self.faults faults c.saturating_add-self-then-contains.ensures;
      none = tt;
      taken = tt;
      failed = λ _. stands_in self.fail_writes.items c.deref.result.now (next_count self.writes) c.saturating_add-self.result c.deref.ensures.value c.saturating_add-self.ensures c.if-contains.ensures.cases;
      passed = tt;
      counted = λ _. c.saturating_add-self-then-contains.ensures;
      short = λ e. absurd (fault e);
      no_other_short = λ _. refl;
      enough = tt;
      rest = ap (λ (n : ℕ). record self { writes = n; faults = faults }) c.saturating_add-self.ensures;
    }

pub returns-then-is_err : goal.returns-then-is_err
returns-then-is_err c =
    let self = c.args.self.now in
    let written = c.extend_from_slice.new.self in
    let shortages = c.saturating_add-self-then-is_err.result in
    record {
      within = tt;
      appended = tt;
      kept = ap Some (at_err c.extend_from_slice.result (written ≡ self.written) c.if-is_err.ensures.value c.extend_from_slice.ensures.err);
      counts = no_less self.faults;
      shortage_counts = let risen : self.shortages ≤ shortages = omega arith in risen;
      shortage = λ _. rises self.shortages shortages c.saturating_add-self-then-is_err.ensures;
      cause = λ e. absurd (short e);
      none = tt;
      taken = tt;
      failed = λ e. absurd (short e);
      passed = tt;
      counted = λ e. absurd (short e);
      short = λ _. c.saturating_add-self-then-is_err.ensures;
      no_other_short = λ e. absurd (short e);
      enough = tt;
      rest = ap (λ (n : ℕ). record self { written = written; writes = n; shortages = shortages }) c.saturating_add-self.ensures;
    }

pub returns-else-taken-eq0 : goal.returns-else-taken-eq0
returns-else-taken-eq0 c =
    let self = c.args.self.now in
    let written = c.extend_from_slice.new.self in
    let n = c.min-taken.result in
    record {
      within = let within : n ≤ length c.args.piece.now = omega (arith, c.min-taken.ensures) in within;
      appended = ap Some (at_ok c.extend_from_slice.result (written ≡ self.written ++ take n c.args.piece.now) c.if-is_err.ensures.value c.extend_from_slice.ensures.ok);
      kept = tt;
      counts = no_less self.faults;
      shortage_counts = no_less self.shortages;
      shortage = λ e. absurd (no_shortage n e);
      cause = λ e. absurd (answered n e);
      none = λ zero some. elim c.else-taken-eq0.branch [
        | else-taken-eq0-via-then-taken-eq0+else-not-is_empty w ↦ absurd (some (none_left c.args.piece.now w.if-not-is_empty.ensures))
        | else-taken-eq0-via-else-taken-eq0 w ↦ absurd (w.if-taken-eq0.false zero)
      ];
      taken = c.min-taken.ensures;
      failed = λ e. absurd (answered n e);
      passed = stands_not self.fail_writes.items c.deref.result.now (next_count self.writes) c.saturating_add-self.result c.deref.ensures.value c.saturating_add-self.ensures c.if-contains.ensures.cases;
      counted = λ e. absurd (answered n e);
      short = λ e. absurd (no_shortage n e);
      no_other_short = λ e. absurd (answered n e);
      enough = refl;
      rest = ap (λ (k : ℕ). record self { written = written; writes = k }) c.saturating_add-self.ensures;
    }

pub returns-then-not-is_empty : goal.returns-then-not-is_empty
returns-then-not-is_empty c =
    let self = c.args.self.now in
    let written = c.extend_from_slice.new.self in
    let faults = c.saturating_add-self-then-not-is_empty.result in
    let n = c.min-taken.result in
    record {
      within = let within : n ≤ length c.args.piece.now = omega (arith, c.min-taken.ensures) in within;
      appended = ap Some (at_ok c.extend_from_slice.result (written ≡ self.written ++ take n c.args.piece.now) c.if-is_err.ensures.value c.extend_from_slice.ensures.ok);
      kept = tt;
      counts = let risen : self.faults ≤ faults = omega arith in risen;
      shortage_counts = no_less self.shortages;
      shortage = λ e. absurd (no_shortage n e);
      cause = λ e. absurd (answered n e);
      none = λ _ _. rises self.faults faults c.saturating_add-self-then-not-is_empty.ensures;
      taken = c.min-taken.ensures;
      failed = λ e. absurd (answered n e);
      passed = stands_not self.fail_writes.items c.deref.result.now (next_count self.writes) c.saturating_add-self.result c.deref.ensures.value c.saturating_add-self.ensures c.if-contains.ensures.cases;
      counted = λ e. absurd (answered n e);
      short = λ e. absurd (no_shortage n e);
      no_other_short = λ e. absurd (answered n e);
      enough = refl;
      rest = ap (λ (k : ℕ). record self { written = written; writes = k; faults = faults }) c.saturating_add-self.ensures;
    }
