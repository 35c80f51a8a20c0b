-- Each end of a write changes the counts that it names.
use Rattle.std.proofs.Common.{◌≡◌, ◌≤◌, false, refl, Err, arith}
use Rattle.std.specs.Prelude.{IsErrOf}
use denote.Enum.Bare.{sameb}
use Rattle.deuce_io.specs.contracts.end.IoEnd.{the_type}
use Rattle.deuce_io.specs.declared.end.IoEnd.{IoEnd}
use Rattle.deuce_io.specs.declared.end.IoEnd.TheVariants.{Failed, NoMemory}
use Rattle.deuce_io.proofs.Ends.{no_less, rises, none_left, answered, no_shortage, not_empty}
use Rattle.deuce_io.proofs.std_sink.StdSinkSink.write.Goals as goal
use Rattle.deuce_io.proofs.std_sink.StdSinkSink.write.Goals.{else-taken-eq0-via-then-taken-eq0+else-not-is_empty, else-taken-eq0-via-else-taken-eq0}

-- an end that isn't want of memory
no_memory : {T : Type 0} (e : IoEnd) → false ≡ sameb the_type e NoMemory → IsErrOf {T = T} {E = IoEnd} (Err e) NoMemory → ⊥
no_memory Failed other is = cc
no_memory NoMemory other is = cc

pub returns-then-not-is_empty : goal.returns-then-not-is_empty
returns-then-not-is_empty g c =
    let self = c.args.self.now in
    let faults = c.saturating_add-self.result in
    let n = c.in-Ok.taken in
    record {
      within = c.in-Ok.ensures.bound;
      counts = let risen : self.faults ≤ faults = omega arith in risen;
      shortage_counts = no_less self.shortages;
      shortage = λ e. absurd (no_shortage n e);
      cause = λ e. absurd (answered n e);
      none = λ _ _. rises self.faults faults c.saturating_add-self.ensures;
      rises = tt;
      short = λ e. absurd (no_shortage n e);
      enough = refl;
      stands = λ nothing. absurd (not_empty c.args.piece.now c.if-not-is_empty.ensures (nothing c.if-taken-eq0.true));
    }

pub returns-else-taken-eq0 : goal.returns-else-taken-eq0
returns-else-taken-eq0 g c =
    let self = c.args.self.now in
    let n = c.in-Ok.taken in
    record {
      within = c.in-Ok.ensures.bound;
      counts = no_less self.faults;
      shortage_counts = no_less self.shortages;
      shortage = λ e. absurd (no_shortage n e);
      cause = λ e. absurd (answered n e);
      none = λ zero some. elim c.else-taken-eq0.branch [
        | else-taken-eq0-via-then-taken-eq0+else-not-is_empty w ↦ absurd (some (none_left c.args.piece.now w.if-not-is_empty.ensures))
        | else-taken-eq0-via-else-taken-eq0 w ↦ absurd (w.if-taken-eq0.false zero)
      ];
      rises = tt;
      short = λ e. absurd (no_shortage n e);
      enough = refl;
      stands = λ _. refl;
    }

pub returns-then-eq : goal.returns-then-eq
returns-then-eq g c =
    let self = c.args.self.now in
    let faults = c.saturating_add-self-in-Err.result in
    let shortages = c.saturating_add-self-then-eq.result in
    record {
      within = tt;
      counts = let risen : self.faults ≤ faults = omega arith in risen;
      shortage_counts = let risen : self.shortages ≤ shortages = omega arith in risen;
      shortage = λ _. rises self.shortages shortages c.saturating_add-self-then-eq.ensures;
      cause = λ _. rises self.faults faults c.saturating_add-self-in-Err.ensures;
      none = tt;
      rises = c.saturating_add-self-in-Err.ensures;
      short = λ _. c.saturating_add-self-then-eq.ensures;
      enough = tt;
      stands = tt;
    }

pub returns-else-eq : goal.returns-else-eq
returns-else-eq g c =
    let self = c.args.self.now in
    let faults = c.saturating_add-self-in-Err.result in
    record {
      within = tt;
      counts = let risen : self.faults ≤ faults = omega arith in risen;
      shortage_counts = no_less self.shortages;
      shortage = λ e. absurd (no_memory c.end_of-end.result c.if-eq.ensures e);
      cause = λ _. rises self.faults faults c.saturating_add-self-in-Err.ensures;
      none = tt;
      rises = c.saturating_add-self-in-Err.ensures;
      short = λ e. absurd (no_memory c.end_of-end.result c.if-eq.ensures e);
      enough = tt;
      stands = tt;
    }
