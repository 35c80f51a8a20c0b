use Rattle.std.proofs.Common.{◌≡◌, Ok, Err, Some, None, ◌∙◌}
use Rattle.std.proofs.lemmas.Result.{err_from_is_err_and}
use Rattle.objects.specs.semantics.Program.{method_at}
use Rattle.objects.specs.declared.op.Doing.TheVariants as doing
use Rattle.machine.specs.Running.{at}
use Rattle.machine.proofs.Ways.{way_here}
use Rattle.machine.proofs.Going.{method_missing, done_none, plain_behind, way_behind, goes_next}
use Rattle.machine.proofs.running.Running.go.Goals as goal

pub returns-in_err-method-clause-run : goal.returns-in_err-method-clause-run
returns-in_err-method-clause-run c =
    let p = err_from_is_err_and c.from_residual.result c.from_residual.ensures.1 in
    let missing : method_at c.args.program.now c.args.self.now.frame.method ≡ None = rw (← c.self.view_is) c.in_err-method.ensures.1 in
    rw (p.1, p.2) (record {
      frame = c.args.self.now.frame;
      comes = λ B w r. way_here c.args.program.now B (at c.args.self.now w r);
      does = λ fs. done_none c.args.program.now c.args.self.now.frame fs c.in_err-method.field-0.0 c.in_err-method.ensures.0
          (method_missing c.args.program.now c.args.self.now.frame.method c.args.self.now.frame.pc missing);
    })

pub returns-in_err-go_where_plain-clause-run : goal.returns-in_err-go_where_plain-clause-run
returns-in_err-go_where_plain-clause-run c =
    let P = c.args.program.now in
    let found : method_at c.args.program.now c.args.self.now.frame.method ≡ Some c.in_ok-method.method.now = rw (← c.self.view_is) c.in_ok-method.ensures in
    let here : method_at c.args.program.now c.loop.self.frame.method ≡ Some c.in_ok-method.method.now = rw c.loop.invariant.method found in
    let p = err_from_is_err_and c.from_residual-in_err-go_where_plain.result c.from_residual-in_err-go_where_plain.ensures.1 in
    rw (p.1, p.2) (plain_behind P c.args.self.now c.loop.self c.loop.invariant.comes c.go_where_plain.new.self (Err c.in_err-go_where_plain.field-0.0) (c.in_err-go_where_plain.ensures.run P here))

pub returns-in-Next-clause-run : goal.returns-in-Next-clause-run
returns-in-Next-clause-run c =
    let P = c.args.program.now in
    let found : method_at c.args.program.now c.args.self.now.frame.method ≡ Some c.in_ok-method.method.now = rw (← c.self.view_is) c.in_ok-method.ensures in
    let here : method_at c.args.program.now c.loop.self.frame.method ≡ Some c.in_ok-method.method.now = rw c.loop.invariant.method found in
    plain_behind P c.args.self.now c.loop.self c.loop.invariant.comes c.go_where_plain.new.self (Ok doing.Next) (rw c.in-Next.is at (c.in_ok-go_where_plain.ensures.run P here))

pub returns-in-Jump-clause-run : goal.returns-in-Jump-clause-run
returns-in-Jump-clause-run c =
    let P = c.args.program.now in
    let found : method_at c.args.program.now c.args.self.now.frame.method ≡ Some c.in_ok-method.method.now = rw (← c.self.view_is) c.in_ok-method.ensures in
    let here : method_at c.args.program.now c.loop.self.frame.method ≡ Some c.in_ok-method.method.now = rw c.loop.invariant.method found in
    plain_behind P c.args.self.now c.loop.self c.loop.invariant.comes c.go_where_plain.new.self (Ok (doing.Jump c.in-Jump.to)) (rw c.in-Jump.is at (c.in_ok-go_where_plain.ensures.run P here))

pub returns-in-Trap-clause-run : goal.returns-in-Trap-clause-run
returns-in-Trap-clause-run c =
    let P = c.args.program.now in
    let found : method_at c.args.program.now c.args.self.now.frame.method ≡ Some c.in_ok-method.method.now = rw (← c.self.view_is) c.in_ok-method.ensures in
    let here : method_at c.args.program.now c.loop.self.frame.method ≡ Some c.in_ok-method.method.now = rw c.loop.invariant.method found in
    plain_behind P c.args.self.now c.loop.self c.loop.invariant.comes c.go_where_plain.new.self (Ok (doing.Trap c.in-Trap.trap)) (rw c.in-Trap.is at (c.in_ok-go_where_plain.ensures.run P here))

pub returns-in_err-doing-in-Other-clause-run : goal.returns-in_err-doing-in-Other-clause-run
returns-in_err-doing-in-Other-clause-run c =
    let P = c.args.program.now in
    let found : method_at c.args.program.now c.args.self.now.frame.method ≡ Some c.in_ok-method.method.now = rw (← c.self.view_is) c.in_ok-method.ensures in
    let here : method_at c.args.program.now c.loop.self.frame.method ≡ Some c.in_ok-method.method.now = rw c.loop.invariant.method found in
    let gone = rw c.in-Other.is at (c.in_ok-go_where_plain.ensures.run P here) in
    let p = err_from_is_err_and c.from_residual-in_err-doing-in-Other.result c.from_residual-in_err-doing-in-Other.ensures.1 in
    rw (p.1, p.2) (record {
      frame = c.go_where_plain.new.self.frame;
      comes = λ B w r. way_behind P c.args.self.now c.loop.self c.loop.invariant.comes B w r (at c.go_where_plain.new.self w r) (gone B w r);
      does = c.in_err-doing-in-Other.ensures.does;
    })

pub returns-in_default : goal.returns-in_default
returns-in_default c =
    let P = c.args.program.now in
    let found : method_at c.args.program.now c.args.self.now.frame.method ≡ Some c.in_ok-method.method.now = rw (← c.self.view_is) c.in_ok-method.ensures in
    let here : method_at c.args.program.now c.loop.self.frame.method ≡ Some c.in_ok-method.method.now = rw c.loop.invariant.method found in
    let gone = rw c.in-Other.is at (c.in_ok-go_where_plain.ensures.run P here) in
    record {
      run = record {
        frame = c.go_where_plain.new.self.frame;
        comes = λ B w r. way_behind P c.args.self.now c.loop.self c.loop.invariant.comes B w r (at c.go_where_plain.new.self w r) (gone B w r);
        does = c.in_ok-doing-in-Other.ensures.does;
      };
      stage = c.in_ok-go_where_plain.ensures.stage ∙ c.loop.invariant.stage;
      tried = c.in_ok-go_where_plain.ensures.tried ∙ c.loop.invariant.tried;
      can = c.in_ok-doing-in-Other.ensures.can;
      next = c.in_ok-doing-in-Other.ensures.next;
    }

pub loop-preserved : goal.loop-preserved
loop-preserved c =
    let P = c.args.program.now in
    let found : method_at c.args.program.now c.args.self.now.frame.method ≡ Some c.in_ok-method.method.now = rw (← c.self.view_is) c.in_ok-method.ensures in
    let here : method_at c.args.program.now c.loop.self.frame.method ≡ Some c.in_ok-method.method.now = rw c.loop.invariant.method found in
    let gone = rw c.in-Other.is at (c.in_ok-go_where_plain.ensures.run P here) in
    record {
      method = rw c.advance.ensures (c.in_ok-doing-in-Other.ensures.place.0 ∙ c.in_ok-go_where_plain.ensures.method ∙ c.loop.invariant.method);
      stage = c.in_ok-go_where_plain.ensures.stage ∙ c.loop.invariant.stage;
      tried = c.in_ok-go_where_plain.ensures.tried ∙ c.loop.invariant.tried;
      comes = goes_next P c.args.self.now c.go_where_plain.new.self (λ B w r. way_behind P c.args.self.now c.loop.self c.loop.invariant.comes B w r (at c.go_where_plain.new.self w r) (gone B w r))
          c.act_in.new.self c.advance.new.self (λ fs. rw c.in-Next-2.is at (c.in_ok-doing-in-Other.ensures.does fs)) c.advance.ensures;
    }

pub returns-clause-run : goal.returns-clause-run
returns-clause-run c = record { frame = c.loop.self.frame; comes = c.loop.invariant.comes; does = λ fs. tt }
