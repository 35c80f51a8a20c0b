use Rattle.std.proofs.Common.{◌-◌, ◌+◌, arith, refl}
use Rattle.std.proofs.lemmas.List.{length_push}
use Rattle.std.proofs.lemmas.Result.{err_from_is_err_and}
use Rattle.jmodel.specs.format.PoolReading.{Scan, scan_at, entries_at}
use Rattle.const_pool.proofs.Loops.{goes_on, ends, is_done, first_fails}
use Rattle.const_pool.proofs.Scan.{here, scan_ok, scan_fails}
use Rattle.const_pool.proofs.constants.entries_at.Goals as goal

pub returns-in_err-entry-clause-gives : goal.returns-in_err-entry-clause-gives
unfolding entries_at
returns-in_err-entry-clause-gives c =
    let read = scan_at c.args.bytes.now in
    let p = err_from_is_err_and c.from_residual.result c.from_residual.ensures.1 in
    let s = here c.args.bytes.now (c.args.last - c.loop-i.i) c.loop-i.due c.loop-i.at in
    rw (p.1, p.2) (first_fails c.in_err-entry.field-0.0 _ _ (ends read c.in_err-entry.field-0.0 c.loop-i.entries.items c.args.last c.loop-i.i s _ c.loop-i-test.true (scan_fails c.args.bytes.now (c.args.last - c.loop-i.i) c.loop-i.due c.loop-i.at c.in_err-entry.field-0.0 c.in_err-entry.ensures) c.loop-i.invariant.0))

pub loop-i-preserved : goal.loop-i-preserved
loop-i-preserved c =
    let read = scan_at c.args.bytes.now in
    let s = here c.args.bytes.now (c.args.last - c.loop-i.i) c.loop-i.due c.loop-i.at in
    let next : Scan = record { left = c.args.last - (c.loop-i.i + 1); due = c.is_wide-due.result; at = c.in_ok-entry.after } in
    let step = scan_ok c.args.bytes.now (c.args.last - c.loop-i.i) c.loop-i.due c.loop-i.at c.in_ok-entry.entry c.in_ok-entry.after (c.args.last - (c.loop-i.i + 1)) (omega arith) c.in_ok-entry.ensures in
    (rw (c.in_ok-push.ensures.items, c.is_wide-due.ensures) (goes_on read c.loop-i.entries.items c.args.last c.loop-i.i s c.in_ok-entry.entry _ _ c.loop-i-test.true step c.loop-i.invariant.0), rw c.in_ok-push.ensures.items (omega (arith, length_push c.loop-i.entries.items c.in_ok-entry.entry, c.loop-i.invariant.1)))

pub returns-clause-gives : goal.returns-clause-gives
unfolding entries_at
returns-clause-gives c =
    let read = scan_at c.args.bytes.now in
    let s = here c.args.bytes.now (c.args.last - c.loop-i.i) c.loop-i.due c.loop-i.at in
    rw (is_done read c.loop-i.entries.items c.args.last c.loop-i.i s _ c.loop-i-test.false c.loop-i.invariant.0) refl
