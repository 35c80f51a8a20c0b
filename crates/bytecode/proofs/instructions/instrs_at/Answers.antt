use Rattle.std.proofs.Common.{length, arith}
use Rattle.std.proofs.lemmas.Result.{err_from_is_err_and}
use Rattle.bytecode.proofs.Walks.{instrs_on, instrs_fail, instrs_end, instrs_out, all_push, pc_is}
use Rattle.bytecode.proofs.instructions.instrs_at.Goals as goal

pub returns-then-at-code-clause-gives : goal.returns-then-at-code-clause-gives
returns-then-at-code-clause-gives c =
    let code = c.args.code.now in
    instrs_end c.args.pool.now code c.loop.found.items (length code) c.loop.counter c.loop.at _ c.if-at-code.true c.loop.invariant.gives

pub returns-in_err-instr-clause-gives : goal.returns-in_err-instr-clause-gives
returns-in_err-instr-clause-gives c =
    let code = c.args.code.now in
    let p = err_from_is_err_and c.from_residual.result c.from_residual.ensures.1 in
    rw (p.1, p.2) (instrs_fail c.args.pool.now code c.loop.found.items (length code) c.loop.counter c.loop.at _ c.in_err-instr.field-0.0 c.loop-test.true c.if-at-code.false c.in_err-instr.ensures c.loop.invariant.gives)

pub loop-preserved : goal.loop-preserved
loop-preserved c =
    let code = c.args.code.now in
    record {
      gives = rw c.in_ok-push.ensures.items (instrs_on c.args.pool.now code c.loop.found.items (length code) c.loop.counter c.loop.at _ c.in_ok-instr.instr c.in_ok-instr.after c.loop-test.true c.if-at-code.false c.in_ok-instr.ensures c.loop.invariant.gives);
      inside = rw c.in_ok-push.ensures.items (all_push (length code) c.loop.found.items c.in_ok-instr.instr c.loop.invariant.inside (omega (arith, pc_is c.args.pool.now code c.loop.at c.in_ok-instr.instr c.in_ok-instr.after c.in_ok-instr.ensures, c.if-at-code.false)));
    }

pub returns-clause-gives : goal.returns-clause-gives
returns-clause-gives c =
    let code = c.args.code.now in
    instrs_out c.args.pool.now code c.loop.found.items (length code) c.loop.counter c.loop.at _ c.loop-test.false c.loop.invariant.gives
