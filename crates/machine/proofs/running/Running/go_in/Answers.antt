use Rattle.std.proofs.Common.{◌≡◌, Ok, Err, None, slice_get, refl, sym, ◌∙◌}
use Rattle.std.proofs.lemmas.Result.{err_from_is_err_and}
use Rattle.objects.specs.semantics.Program.{is_counted}
use Rattle.machine.specs.declared.plain.Flow.TheVariants as flow
use Rattle.machine.specs.Meets.{HasOps}
use Rattle.machine.specs.Running.{at}
use Rattle.machine.proofs.Ways.{way_here}
use Rattle.machine.proofs.Going.{done_none, has_ops, counted_of, gone_ends, goes_jump}
use Rattle.machine.proofs.running.Running.go_in.Goals as goal

pub returns-in_err-flow-clause-run : goal.returns-in_err-flow-clause-run
returns-in_err-flow-clause-run c = λ P k.
    let p = err_from_is_err_and c.from_residual-in_err-flow.result c.from_residual-in_err-flow.ensures.1 in
    let here : HasOps P c.loop.frame.method c.ops-ops.result.now = rw (c.loop.invariant.method, c.ops-ops.ensures) (has_ops P c.args.frame.now.method c.args.method.now k) in
    rw (p.1, p.2) (gone_ends P (record c.args.self.now { frame = c.args.frame.now }) (record c.loop.self { frame = c.loop.frame }) (c.loop.invariant.comes P k)
    c.straight.new.self (Err c.in_err-flow.field-0.0) (c.in_err-flow.ensures.run P here))

pub returns-then-not-jump-clause-run : goal.returns-then-not-jump-clause-run
returns-then-not-jump-clause-run c = λ P k.
    let here : HasOps P c.loop.frame.method c.ops-ops.result.now = rw (c.loop.invariant.method, c.ops-ops.ensures) (has_ops P c.args.frame.now.method c.args.method.now k) in
    let gone = gone_ends P (record c.args.self.now { frame = c.args.frame.now }) (record c.loop.self { frame = c.loop.frame }) (c.loop.invariant.comes P k)
    c.straight.new.self (Ok (flow.Jump c.in-Jump.to)) (rw c.in-Jump.is at (c.in_ok-flow.ensures.run P here)) in
    rw (c.if-not-jump.ensures.jump.0, c.if-not-jump.ensures.jump.1) gone

pub returns-in_default : goal.returns-in_default
returns-in_default c = record {
  run = λ P k.
      let here : HasOps P c.loop.frame.method c.ops-ops.result.now = rw (c.loop.invariant.method, c.ops-ops.ensures) (has_ops P c.args.frame.now.method c.args.method.now k) in
      gone_ends P (record c.args.self.now { frame = c.args.frame.now }) (record c.loop.self { frame = c.loop.frame }) (c.loop.invariant.comes P k)
      c.straight.new.self (Ok c.in_ok-flow.flow) (c.in_ok-flow.ensures.run P here);
  method = c.in_ok-flow.ensures.method ∙ c.loop.invariant.method;
  stage = c.loop.invariant.stage;
  tried = c.loop.invariant.tried;
  next = c.in_ok-flow.ensures.next;
}

pub loop-preserved : goal.loop-preserved
loop-preserved c =
    let h = c.if-not-jump.ensures.jump in
    let same : c.straight.new.self.method ≡ c.args.frame.now.method = c.in_ok-flow.ensures.method ∙ c.loop.invariant.method in
    record {
      method = rw h.frame same;
      stage = h.stage ∙ c.loop.invariant.stage;
      tried = h.tried ∙ c.loop.invariant.tried;
      within = rw (← c.ops-ops.ensures) (c.if-not-jump.ensures.within refl);
      comes = λ P k.
          let here : HasOps P c.loop.frame.method c.ops-ops.result.now = rw (c.loop.invariant.method, c.ops-ops.ensures) (has_ops P c.args.frame.now.method c.args.method.now k) in
          let counted : is_counted P c.straight.new.self.method ≡ c.is_counted-counts.result =
          rw same (counted_of P c.args.frame.now.method c.args.method.now k ∙ sym c.is_counted-counts.ensures) in
          goes_jump P (record c.args.self.now { frame = c.args.frame.now }) (record c.loop.self { frame = c.loop.frame }) (c.loop.invariant.comes P k)
          c.straight.new.self c.in-Jump.to (record c.jump.new.self { frame = c.jump.new.frame }) (rw c.in-Jump.is at (c.in_ok-flow.ensures.run P here))
          (λ B w r. h.goes P B w r counted);
    }

pub returns-clause-run : goal.returns-clause-run
returns-clause-run c = λ P k. record { frame = c.loop.frame; comes = c.loop.invariant.comes P k; does = λ fs. tt }

pub returns-in_err-_first-clause-run : goal.returns-in_err-_first-clause-run
returns-in_err-_first-clause-run c = λ P k.
    let p = err_from_is_err_and c.from_residual.result c.from_residual.ensures.1 in
    let here : HasOps P c.args.frame.now.method c.ops-ops.result.now = rw c.ops-ops.ensures (has_ops P c.args.frame.now.method c.args.method.now k) in
    let missing : slice_get c.ops-ops.result.now c.args.frame.now.pc ≡ None = rw (← c.frame.view_is) c.in_err-_first.ensures.op.1 in
    rw (p.1, p.2) (record {
      frame = c.args.frame.now;
      comes = λ B w r. way_here P B (at (record c.args.self.now { frame = c.args.frame.now }) w r);
      does = λ fs. done_none P c.args.frame.now fs c.in_err-_first.field-0.0 c.in_err-_first.ensures.op.0 (here c.args.frame.now.pc ∙ missing);
    })
