use Rattle.std.proofs.Common.{inl}
use Rattle.std.proofs.lemmas.Result.{IfOk-from_err}
use Rattle.tl2.proofs.Rests.{err_says}
use Rattle.lsa.proofs.extension.take_free.Goals as goal

pub look_free-requires-clause-table : goal.look_free-requires-clause-table
look_free-requires-clause-table g c = c.requires.table

pub look_free-requires-clause-heap : goal.look_free-requires-clause-heap
look_free-requires-clause-heap g c = c.requires.heap

pub look_free-requires-clause-settled : goal.look_free-requires-clause-settled
look_free-requires-clause-settled g c = c.requires.settled

pub look_free-requires-clause-ready : goal.look_free-requires-clause-ready
look_free-requires-clause-ready g c = c.requires.ready

pub look_free-requires-clause-reads : goal.look_free-requires-clause-reads
look_free-requires-clause-reads g c = c.requires.reads

pub look_free-requires-clause-even : goal.look_free-requires-clause-even
look_free-requires-clause-even g c = c.requires.even

pub look_free-requires-clause-own : goal.look_free-requires-clause-own
look_free-requires-clause-own g c = c.requires.own

pub returns-in_err-word-clause-same : goal.returns-in_err-word-clause-same
returns-in_err-word-clause-same g c = c.look_free.ensures.same

pub returns-in_err-word-clause-ok : goal.returns-in_err-word-clause-ok
returns-in_err-word-clause-ok g c = IfOk-from_err _ _ c.from_residual.ensures.0

pub returns-in_err-word-clause-settled : goal.returns-in_err-word-clause-settled
returns-in_err-word-clause-settled g c = IfOk-from_err _ _ c.from_residual.ensures.0

pub returns-in_err-word-clause-err : goal.returns-in_err-word-clause-err
returns-in_err-word-clause-err g c = err_says c.from_residual.result c.from_residual.ensures.1 (λ e q. rw q c.in_err-word.ensures.err)

pub returns-in_err-word-clause-address : goal.returns-in_err-word-clause-address
returns-in_err-word-clause-address g c = err_says c.from_residual.result c.from_residual.ensures.1 (λ e q. rw q c.in_err-word.ensures.address)

pub returns-in_err-take-clause-ok : goal.returns-in_err-take-clause-ok
returns-in_err-take-clause-ok g c = IfOk-from_err _ _ c.from_residual-in_err-take.ensures.0

pub returns-in_err-take-clause-settled : goal.returns-in_err-take-clause-settled
returns-in_err-take-clause-settled g c = IfOk-from_err _ _ c.from_residual-in_err-take.ensures.0

pub returns-in_err-take-clause-address : goal.returns-in_err-take-clause-address
returns-in_err-take-clause-address g c = err_says c.from_residual-in_err-take.result c.from_residual-in_err-take.ensures.1 (λ e q. rw q (inl c.in_err-take.ensures.conflict.0))
