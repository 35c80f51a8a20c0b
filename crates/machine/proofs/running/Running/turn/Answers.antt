use Rattle.std.proofs.Common.{[], ◌∷◌, Ok, inl, refl}
use Rattle.std.proofs.lemmas.Result.{IfOk-from_err, err_from_is_err_and}
use Rattle.objects.specs.rewriting.Attempt.{Gives}
use Rattle.objects.specs.declared.op.Asking.TheVariants as asking
use Rattle.machine.specs.Machine.{bounds_of}
use Rattle.machine.specs.declared.running.Todo.TheVariants as todo
use Rattle.machine.proofs.Leaving.{turned_asks}
use Rattle.machine.proofs.Moving.{failed_unlike, goes_uncommitted, goes_unrefused, goes_unspent, moves_if, moves_none}
use Rattle.machine.proofs.Turning.{answer_early, plain_fails, settle_fails, turn_of}
use Rattle.machine.proofs.Ways.{grows_same}
use Rattle.machine.proofs.running.Running.turn.Goals as goal

pub returns-in_err-doing : goal.returns-in_err-doing
returns-in_err-doing g c = record {
  run = λ h n r w k used a s.
      let p = err_from_is_err_and c.from_residual.result c.from_residual.ensures.1 in
      rw (p.1, p.2) (plain_fails c.args.program.now (bounds_of c.args.limits) c.args.self.now c.go.new.self c.go.new.self _ _ c.in_err-doing.field-0.0 w r
      c.in_err-doing.ensures.run (grows_same (g.G.Gate.told c.args.gate.now)) (rw (c.in_err-doing.ensures.stage, c.in_err-doing.ensures.tried) s));
  moves = IfOk-from_err c.from_residual.result _ c.from_residual.ensures.0;
  attempts = λ j x. rw c.in_err-doing.ensures.tried x;
  ticks = λ t i. rw (c.in_err-doing.ensures.stage, c.in_err-doing.ensures.tried) i;
  «open» = λ q. absurd (failed_unlike c.from_residual.result todo.Commit c.from_residual.ensures.0 q);
  next = λ q. absurd (failed_unlike c.from_residual.result todo.Commit c.from_residual.ensures.0 q);
  spent = λ q. absurd (failed_unlike c.from_residual.result todo.Spent c.from_residual.ensures.0 q);
  begun = IfOk-from_err c.from_residual.result _ c.from_residual.ensures.0;
  awaits = λ j u x. x;
  refuse = λ l q. absurd (failed_unlike c.from_residual.result (todo.Refuse l) c.from_residual.ensures.0 q);
}

pub returns-in_err-given-in-Give : goal.returns-in_err-given-in-Give
returns-in_err-given-in-Give g c = record {
  run = λ h n r w k used a s.
      let p = err_from_is_err_and c.from_residual-in_err-given-in-Give.result c.from_residual-in_err-given-in-Give.ensures.1 in
      let plain = rw c.in-Give.is at c.in_ok-doing.ensures.run in
      rw (p.1, p.2) (settle_fails c.args.program.now (bounds_of c.args.limits) c.args.self.now c.go.new.self _ _ (c.give_back.new.frame ∷ c.give_back.new.callers) _ _ c.in_err-given-in-Give.field-0.0 w r
      plain c.in_err-given-in-Give.ensures (grows_same (g.G.Gate.told c.args.gate.now)) (rw (c.in_ok-doing.ensures.stage, c.in_ok-doing.ensures.tried) s));
  moves = IfOk-from_err c.from_residual-in_err-given-in-Give.result _ c.from_residual-in_err-given-in-Give.ensures.0;
  attempts = λ j x. rw c.in_ok-doing.ensures.tried x;
  ticks = λ t i. rw (c.in_ok-doing.ensures.stage, c.in_ok-doing.ensures.tried) i;
  «open» = λ q. absurd (failed_unlike c.from_residual-in_err-given-in-Give.result todo.Commit c.from_residual-in_err-given-in-Give.ensures.0 q);
  next = λ q. absurd (failed_unlike c.from_residual-in_err-given-in-Give.result todo.Commit c.from_residual-in_err-given-in-Give.ensures.0 q);
  spent = λ q. absurd (failed_unlike c.from_residual-in_err-given-in-Give.result todo.Spent c.from_residual-in_err-given-in-Give.ensures.0 q);
  begun = IfOk-from_err c.from_residual-in_err-given-in-Give.result _ c.from_residual-in_err-given-in-Give.ensures.0;
  awaits = λ j u x. x;
  refuse = λ l q. absurd (failed_unlike c.from_residual-in_err-given-in-Give.result (todo.Refuse l) c.from_residual-in_err-given-in-Give.ensures.0 q);
}

pub returns-in_err-entered-in-Invoke : goal.returns-in_err-entered-in-Invoke
returns-in_err-entered-in-Invoke g c = record {
  run = λ h n r w k used a s.
      let p = err_from_is_err_and c.from_residual-in_err-entered-in-Invoke.result c.from_residual-in_err-entered-in-Invoke.ensures.1 in
      let plain = rw c.in-Invoke.is at c.in_ok-doing.ensures.run in
      rw (p.1, p.2) (settle_fails c.args.program.now (bounds_of c.args.limits) c.args.self.now c.go.new.self _ _ (c.enter.new.frame ∷ c.enter.new.callers) _ _ c.in_err-entered-in-Invoke.field-0.0 w r
      plain c.in_err-entered-in-Invoke.ensures (grows_same (g.G.Gate.told c.args.gate.now)) (rw (c.in_ok-doing.ensures.stage, c.in_ok-doing.ensures.tried) s));
  moves = IfOk-from_err c.from_residual-in_err-entered-in-Invoke.result _ c.from_residual-in_err-entered-in-Invoke.ensures.0;
  attempts = λ j x. rw c.in_ok-doing.ensures.tried x;
  ticks = λ t i. rw (c.in_ok-doing.ensures.stage, c.in_ok-doing.ensures.tried) i;
  «open» = λ q. absurd (failed_unlike c.from_residual-in_err-entered-in-Invoke.result todo.Commit c.from_residual-in_err-entered-in-Invoke.ensures.0 q);
  next = λ q. absurd (failed_unlike c.from_residual-in_err-entered-in-Invoke.result todo.Commit c.from_residual-in_err-entered-in-Invoke.ensures.0 q);
  spent = λ q. absurd (failed_unlike c.from_residual-in_err-entered-in-Invoke.result todo.Spent c.from_residual-in_err-entered-in-Invoke.ensures.0 q);
  begun = IfOk-from_err c.from_residual-in_err-entered-in-Invoke.result _ c.from_residual-in_err-entered-in-Invoke.ensures.0;
  awaits = λ j u x. x;
  refuse = λ l q. absurd (failed_unlike c.from_residual-in_err-entered-in-Invoke.result (todo.Refuse l) c.from_residual-in_err-entered-in-Invoke.ensures.0 q);
}

pub returns-in-Ask : goal.returns-in-Ask
returns-in-Ask g c = record {
  run = λ h n r w k used a s.
      let plain = rw c.in-Ask.is at c.in_ok-doing.ensures.run in
      turned_asks c.args.program.now (bounds_of c.args.limits) c.args.self.now c.go.new.self c.go.new.self.frame c.go.new.self.callers c.serve.new.self _ (asking.Ask c.in-Ask.request) _ _ c.serve.result w r plain refl
      (c.serve.ensures.run h n r w k used a (rw (c.in_ok-doing.ensures.stage, c.in_ok-doing.ensures.tried) s));
  moves = moves_if c.serve.result _ _ _ _ _ _ c.in_ok-doing.ensures.stage c.in_ok-doing.ensures.tried c.serve.ensures.moves;
  attempts = λ j x. c.serve.ensures.attempts j (rw c.in_ok-doing.ensures.tried x);
  ticks = λ t i. c.serve.ensures.ticks t (rw (c.in_ok-doing.ensures.stage, c.in_ok-doing.ensures.tried) i);
  «open» = c.serve.ensures.«open»;
  next = c.serve.ensures.next;
  spent = c.serve.ensures.spent;
  begun = c.serve.ensures.begun;
  awaits = c.serve.ensures.awaits;
  refuse = c.serve.ensures.refuse;
}

pub returns-then-given : goal.returns-then-given
returns-then-given g c = record {
  run = λ h n r w k used a s.
      let plain = rw c.in-Give.is at c.in_ok-doing.ensures.run in
      turned_asks c.args.program.now (bounds_of c.args.limits) c.args.self.now c.go.new.self c.give_back.new.frame c.give_back.new.callers _ _ asking.Go _ _ (Ok todo.Go) w r plain (rw c.if-given.true at c.in_ok-given-in-Give.ensures)
      (r, w, rw (c.in_ok-doing.ensures.stage, c.in_ok-doing.ensures.tried) s, (Gives 0, refl, ([], refl, tt, grows_same (g.G.Gate.told c.args.gate.now))));
  moves = rw (c.in_ok-doing.ensures.stage, c.in_ok-doing.ensures.tried) (moves_none c.args.self.now.stage c.args.self.now.tried);
  attempts = λ j x. rw c.in_ok-doing.ensures.tried x;
  ticks = λ t i. rw (c.in_ok-doing.ensures.stage, c.in_ok-doing.ensures.tried) i;
  «open» = λ q. absurd (goes_uncommitted (Ok todo.Go) refl q);
  next = λ q. absurd (goes_uncommitted (Ok todo.Go) refl q);
  spent = λ q. absurd (goes_unspent (Ok todo.Go) refl q);
  begun = λ e. c.requires.begun (rw c.in_ok-doing.ensures.stage at e);
  awaits = λ j u x. x;
  refuse = λ l q. absurd (goes_unrefused (Ok todo.Go) l refl q);
}

pub returns-else-given-clause-run : goal.returns-else-given-clause-run
returns-else-given-clause-run g c = λ h n r w k used a s.
    let plain = rw c.in-Give.is at c.in_ok-doing.ensures.run in
    let b = record c.go.new.self { frame = c.give_back.new.frame; callers = c.give_back.new.callers } in
    turned_asks c.args.program.now (bounds_of c.args.limits) c.args.self.now c.go.new.self c.give_back.new.frame c.give_back.new.callers b _ (asking.Return c.in-Give.value) _ _ _ w r plain (rw c.if-given.false at c.in_ok-given-in-Give.ensures)
    (answer_early c.args.program.now (bounds_of c.args.limits) b (asking.Return c.in-Give.value) w r _ _ (inl (c.in-Give.value, refl)) tt (grows_same (g.G.Gate.told c.args.gate.now)) (rw (c.in_ok-doing.ensures.stage, c.in_ok-doing.ensures.tried) s))

pub returns-in-Some-clause-run : goal.returns-in-Some-clause-run
returns-in-Some-clause-run g c = λ h n r w k used a s.
    let plain = rw c.in-Invoke.is at c.in_ok-doing.ensures.run in
    turned_asks c.args.program.now (bounds_of c.args.limits) c.args.self.now c.go.new.self c.enter.new.frame c.enter.new.callers c.count.new.self _ (asking.Enter c.in-Some.deep) _ _ c.count.result w r plain (rw c.in-Some.is at c.in_ok-entered-in-Invoke.ensures)
    (turn_of (bounds_of c.args.limits) _ _ _ _ c.count.new.self c.count.result r w (Gives 0) (rw (c.count.ensures.stage, c.count.ensures.tried, c.in_ok-doing.ensures.stage, c.in_ok-doing.ensures.tried) s) (c.count.ensures.run (bounds_of c.args.limits) r w) ([], refl, tt, grows_same (g.G.Gate.told c.args.gate.now)))

pub returns-in-None : goal.returns-in-None
returns-in-None g c = record {
  run = λ h n r w k used a s.
      let plain = rw c.in-Invoke.is at c.in_ok-doing.ensures.run in
      turned_asks c.args.program.now (bounds_of c.args.limits) c.args.self.now c.go.new.self c.enter.new.frame c.enter.new.callers _ _ asking.Go _ _ (Ok todo.Go) w r plain (rw c.in-None.is at c.in_ok-entered-in-Invoke.ensures)
      (r, w, rw (c.in_ok-doing.ensures.stage, c.in_ok-doing.ensures.tried) s, (Gives 0, refl, ([], refl, tt, grows_same (g.G.Gate.told c.args.gate.now))));
  moves = rw (c.in_ok-doing.ensures.stage, c.in_ok-doing.ensures.tried) (moves_none c.args.self.now.stage c.args.self.now.tried);
  attempts = λ j x. rw c.in_ok-doing.ensures.tried x;
  ticks = λ t i. rw (c.in_ok-doing.ensures.stage, c.in_ok-doing.ensures.tried) i;
  «open» = λ q. absurd (goes_uncommitted (Ok todo.Go) refl q);
  next = λ q. absurd (goes_uncommitted (Ok todo.Go) refl q);
  spent = λ q. absurd (goes_unspent (Ok todo.Go) refl q);
  begun = λ e. c.requires.begun (rw c.in_ok-doing.ensures.stage at e);
  awaits = λ j u x. x;
  refuse = λ l q. absurd (goes_unrefused (Ok todo.Go) l refl q);
}

pub returns-in_default : goal.returns-in_default
returns-in_default g c = record {
  run = λ h n r w k used a s. c.end_turn.ensures.run h n r w k used a (rw (c.in_ok-doing.ensures.stage, c.in_ok-doing.ensures.tried) s) c.args.self.now c.in_ok-doing.ensures.run;
  attempts = λ j x. c.end_turn.ensures.attempts j (rw c.in_ok-doing.ensures.tried x);
  ticks = λ t i. c.end_turn.ensures.ticks t (rw (c.in_ok-doing.ensures.stage, c.in_ok-doing.ensures.tried) i);
  «open» = c.end_turn.ensures.open;
  next = c.end_turn.ensures.next;
  spent = c.end_turn.ensures.spent;
  moves = moves_if c.end_turn.result _ _ _ _ _ _ c.in_ok-doing.ensures.stage c.in_ok-doing.ensures.tried c.end_turn.ensures.moves;
  begun = c.end_turn.ensures.begun;
  awaits = λ j u x. c.end_turn.ensures.awaits j u x;
  refuse = c.end_turn.ensures.refuse;
}
