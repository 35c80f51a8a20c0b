use Rattle.std.proofs.Common.{[], refl, sym, ◌∙◌}
use Rattle.std.proofs.lemmas.List.{append-nil}
use Rattle.std.proofs.lemmas.Result.{err_from_is_err_and}
use Rattle.objects.specs.declared.op.Asking.TheVariants as asking
use Rattle.objects.specs.rewriting.Attempt.{heading}
use Rattle.objects.specs.rewriting.Events.{AreOfAsking, Grows}
use Rattle.machine.specs.Machine.{bounds_of}
use Rattle.machine.specs.Running.{phase_of, frames, meter}
use Rattle.machine.proofs.Ways.{grows_same, grows_trans}
use Rattle.machine.proofs.Turning.{follows_here, head_fails, head_goes, head_asks, turned_from, turned_waiting, waits_head, waits_head_tells}
use Rattle.machine.proofs.Moving.{moves_as, moves_if}
use Rattle.machine.proofs.running.Running.follow.Goals as goal

pub loop-init : goal.loop-init
loop-init g c = record {
  can = c.requires.can;
  same = (refl, refl);
  begun = c.requires.begun;
  awaits = λ k used a. a;
  attempts = λ k a. a;
  ticks = λ t i. i;
  run = λ h n r w k used a s d waits. follows_here c.args.program.now (bounds_of c.args.limits) _ _ d c.args.asking c.args.self.now w r (grows_same (g.G.Gate.told c.args.gate.now)) s waits;
}

pub returns-in_err-next-in-Head-clause-run : goal.returns-in_err-next-in-Head-clause-run
returns-in_err-next-in-Head-clause-run g c = λ h n r w k used a s d waits.
    let p = err_from_is_err_and c.from_residual.result c.from_residual.ensures.1 in
    let P = c.args.program.now in
    let B = bounds_of c.args.limits in
    let o = c.loop.invariant.run h n r w k used a s d waits in
    let q = waits_head P B c.loop.asking c.in-Head.object c.in-Head.how c.loop.self o.writes o.reads o.run c.in-Head.is o.waits in
    let f = waits_head_tells P B c.loop.asking c.in-Head.object c.in-Head.how c.loop.self o.writes o.reads o.run c.in-Head.is o.waits in
    rw (p.1, p.2) (head_fails P B c.loop.asking c.loop.self c.head.new.self d (λ v. heading (phase_of c.loop.self.stage) v P c.in-Head.how c.in-Head.object (frames c.loop.self) (meter c.loop.self) o.writes o.reads)
    (λ v. AreOfAsking P B (asking.Head c.in-Head.object c.in-Head.how) (phase_of c.loop.self.stage) v (meter c.loop.self)) _ (Grows (g.G.Gate.told c.loop.gate) (g.G.Gate.told c.head.new.gate)) _ _ _ o q f
    (λ es t. grows_trans _ _ _ o.events es o.told t) c.in_err-next-in-Head.field-0.0
    (c.in_err-next-in-Head.ensures.run h n o.reads o.writes k used (c.loop.invariant.awaits k used a) o.holds B))

pub returns-in_err-next-in-Head-clause-ticks : goal.returns-in_err-next-in-Head-clause-ticks
returns-in_err-next-in-Head-clause-ticks g c = λ t i. c.in_err-next-in-Head.ensures.ticks t c.args.limits.attempts (c.loop.invariant.ticks t i)

pub returns-in-None-clause-run : goal.returns-in-None-clause-run
returns-in-None-clause-run g c = λ h n r w k used a s d waits.
    let P = c.args.program.now in
    let B = bounds_of c.args.limits in
    let o = c.loop.invariant.run h n r w k used a s d waits in
    let q = waits_head P B c.loop.asking c.in-Head.object c.in-Head.how c.loop.self o.writes o.reads o.run c.in-Head.is o.waits in
    let f = waits_head_tells P B c.loop.asking c.in-Head.object c.in-Head.how c.loop.self o.writes o.reads o.run c.in-Head.is o.waits in
    head_goes P B c.loop.asking c.loop.self c.head.new.self d (λ v. heading (phase_of c.loop.self.stage) v P c.in-Head.how c.in-Head.object (frames c.loop.self) (meter c.loop.self) o.writes o.reads)
    (λ v. AreOfAsking P B (asking.Head c.in-Head.object c.in-Head.how) (phase_of c.loop.self.stage) v (meter c.loop.self)) _ (Grows (g.G.Gate.told c.loop.gate) (g.G.Gate.told c.head.new.gate)) _ _ _ o q f
    (λ es t. grows_trans _ _ _ o.events es o.told t) c.in_ok-next-in-Head.field-0 c.in-None.is
    (c.in_ok-next-in-Head.ensures.run h n o.reads o.writes k used (c.loop.invariant.awaits k used a) o.holds B)

pub returns-in-None-clause-ticks : goal.returns-in-None-clause-ticks
returns-in-None-clause-ticks g c = λ t i. c.in_ok-next-in-Head.ensures.ticks t c.args.limits.attempts (c.loop.invariant.ticks t i)

pub returns-in-None-clause-moves : goal.returns-in-None-clause-moves
returns-in-None-clause-moves g c =
    let moves = c.in_ok-next-in-Head.ensures.moves in
    moves_as _ _ _ _ _ _ (sym moves.0 ∙ c.loop.invariant.same.0) c.loop.invariant.same.1 moves.1

pub returns-in_default : goal.returns-in_default
returns-in_default g c = record {
  run = λ h n r w k used a s d waits.
      let P = c.args.program.now in
      let B = bounds_of c.args.limits in
      let o = c.loop.invariant.run h n r w k used a s d waits in
      turned_from P B d o.run o.events (Grows (g.G.Gate.told c.loop.gate) (g.G.Gate.told c.answer.new.gate)) (Grows (g.G.Gate.told c.args.gate.now) (g.G.Gate.told c.answer.new.gate)) _ c.answer.new.self c.answer.result o.comes o.no_entry
      (λ es t. grows_trans _ _ _ o.events es o.told t)
      (turned_waiting P B c.loop.asking c.loop.self c.answer.new.self o.writes o.reads o.run _ _ c.answer.result o.waits
      (c.answer.ensures.run h n o.reads o.writes k used (c.loop.invariant.awaits k used a) o.holds));
  attempts = λ j x. c.answer.ensures.attempts j (c.loop.invariant.attempts j x);
  ticks = λ t i. c.answer.ensures.ticks t (c.loop.invariant.ticks t i);
  «open» = c.answer.ensures.open;
  next = c.answer.ensures.next;
  spent = c.answer.ensures.spent;
  moves = moves_if c.answer.result _ _ _ _ _ _ c.loop.invariant.same.0 c.loop.invariant.same.1 c.answer.ensures.moves;
  begun = c.answer.ensures.begun;
  awaits = λ j u x. c.answer.ensures.awaits j u (c.loop.invariant.awaits j u x);
  refuse = c.answer.ensures.refuse;
}

pub loop-preserved : goal.loop-preserved
loop-preserved g c =
    let P = c.args.program.now in
    let B = bounds_of c.args.limits in
    let still = c.in_ok-next-in-Head.ensures.open c.in-Some.next (rw c.in-Some.is refl) in
    let moves = c.in_ok-next-in-Head.ensures.moves in
    record {
      can = c.in_ok-next-in-Head.ensures.can c.in-Some.next (rw c.in-Some.is refl);
      same = (still ∙ sym moves.0 ∙ c.loop.invariant.same.0, (rw still at moves.1) ∙ c.loop.invariant.same.1);
      begun = c.in_ok-next-in-Head.ensures.begun;
      awaits = λ j u x. c.in_ok-next-in-Head.ensures.awaits j u (c.loop.invariant.awaits j u x);
      attempts = λ j x. c.in_ok-next-in-Head.ensures.attempts j (c.loop.invariant.attempts j x);
      ticks = λ t i. c.in_ok-next-in-Head.ensures.ticks t c.args.limits.attempts (c.loop.invariant.ticks t i);
      run = λ h n r w k used a s d waits.
          let o = c.loop.invariant.run h n r w k used a s d waits in
          let q = waits_head P B c.loop.asking c.in-Head.object c.in-Head.how c.loop.self o.writes o.reads o.run c.in-Head.is o.waits in
          let f = waits_head_tells P B c.loop.asking c.in-Head.object c.in-Head.how c.loop.self o.writes o.reads o.run c.in-Head.is o.waits in
          head_asks P B c.loop.asking c.loop.self c.head.new.self d (λ v. heading (phase_of c.loop.self.stage) v P c.in-Head.how c.in-Head.object (frames c.loop.self) (meter c.loop.self) o.writes o.reads)
          (λ v. AreOfAsking P B (asking.Head c.in-Head.object c.in-Head.how) (phase_of c.loop.self.stage) v (meter c.loop.self)) _ (Grows (g.G.Gate.told c.loop.gate) (g.G.Gate.told c.head.new.gate)) _ _ _ o q f
          (λ es t. grows_trans _ _ _ o.events es o.told t) c.in-Some.next c.in_ok-next-in-Head.field-0 c.in-Some.is
          (c.in_ok-next-in-Head.ensures.open c.in-Some.next (rw c.in-Some.is refl))
          (c.in_ok-next-in-Head.ensures.run h n o.reads o.writes k used (c.loop.invariant.awaits k used a) o.holds B);
    }

pub returns-clause-run : goal.returns-clause-run
returns-clause-run g c = λ h n r w k used a s d waits.
    let o = c.loop.invariant.run h n r w k used a s d waits in
    record { before = o.run; events = o.events; no_entry = o.no_entry; comes = o.comes; turn = (o.reads, o.writes, o.holds, record { events = []; no_entry = tt; told = rw (append-nil o.events) o.told }) }
