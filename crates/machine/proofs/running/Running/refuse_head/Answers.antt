use Rattle.std.proofs.lemmas.Result.{err_from_is_err_and}
use Rattle.objects.specs.rewriting.Attempt.{Bounds}
use Rattle.machine.proofs.Turning.{lands_followed}
use Rattle.machine.proofs.running.Running.refuse_head.Goals as goal

some_bounds : Bounds
some_bounds = record { budget = 0; attempts = 0; region = record { number = 0; size = 0 }; used = 0 }

pub returns-in_err-doom-clause-run : goal.returns-in_err-doom-clause-run
returns-in_err-doom-clause-run c = λ w r.
    let p = err_from_is_err_and c.from_residual.result c.from_residual.ensures.1 in
    rw (p.1, p.2) (lands_followed some_bounds _ c.doom.new.self w r c.in_err-doom.field-0.0 (c.in_err-doom.ensures.run some_bounds r w))

pub returns-clause-run : goal.returns-clause-run
returns-clause-run c = λ w r. (rw c.in_ok-doom.ensures.go at c.in_ok-doom.ensures.run) some_bounds r w
