use Rattle.std.proofs.Common.{inl, inr}
use Rattle.std.proofs.lemmas.Result.{IfOk-from_err}
use Rattle.tx_table.specs.Passes.{book}
use Rattle.tl2.proofs.Rests.{err_says}
use Rattle.lsa.proofs.extension.look_free.Goals as goal

pub extend-requires-clause-own : goal.extend-requires-clause-own
extend-requires-clause-own g c = rw c.in_ok-word.ensures.ok.2 c.requires.own

pub look-requires-clause-table : goal.look-requires-clause-table
look-requires-clause-table g c = c.requires.table

pub look-requires-clause-settled : goal.look-requires-clause-settled
look-requires-clause-settled g c = c.requires.settled

pub look-requires-clause-heap : goal.look-requires-clause-heap
look-requires-clause-heap g c = c.requires.heap.0

pub look-requires-clause-live : goal.look-requires-clause-live
look-requires-clause-live g c = c.requires.ready.1

pub returns-in_err-word-clause-same : goal.returns-in_err-word-clause-same
returns-in_err-word-clause-same g c = c.look.ensures.same

pub returns-in_err-word-clause-ok : goal.returns-in_err-word-clause-ok
returns-in_err-word-clause-ok g c = IfOk-from_err _ _ c.from_residual.ensures.0

pub returns-in_err-word-clause-settled : goal.returns-in_err-word-clause-settled
returns-in_err-word-clause-settled g c = IfOk-from_err _ _ c.from_residual.ensures.0

pub returns-in_err-word-clause-address : goal.returns-in_err-word-clause-address
returns-in_err-word-clause-address g c = err_says c.from_residual.result c.from_residual.ensures.1 (λ e q. rw q (inl c.in_err-word.ensures.conflict.0))

pub returns-in_err-extend-clause-ok : goal.returns-in_err-extend-clause-ok
returns-in_err-extend-clause-ok g c = IfOk-from_err _ _ c.from_residual-in_err-extend.ensures.0

pub returns-in_err-extend-clause-settled : goal.returns-in_err-extend-clause-settled
returns-in_err-extend-clause-settled g c = IfOk-from_err _ _ c.from_residual-in_err-extend.ensures.0

pub returns-in_err-extend-clause-address : goal.returns-in_err-extend-clause-address
returns-in_err-extend-clause-address g c = err_says c.from_residual-in_err-extend.result c.from_residual-in_err-extend.ensures.1 (λ e q. rw q (inr c.in_err-extend.ensures.address))
