use Rattle.std.proofs.Common.{sym, ◌∙◌}
use Rattle.std.proofs.lemmas.Result.{err_from_is_err_and}
use Rattle.jmodel.specs.declared.class_file.Handler.{Handler}
use Rattle.objects.specs.linking.Each.{each}
use Rattle.objects.specs.linking.Decoding.{catch_of}
use Rattle.hierarchy.specs.declared.outcome.BuildEnd.TheVariants.{NotBuilt}
use Rattle.hierarchy.proofs.Each.{starts, goes_on, ends, is_done, item_at}
use Rattle.linking.proofs.entries.entries_of.Goals as goal

-- what stands for an entry past the last
no_entry : Handler
no_entry = record { start = 0; end = 0; handler = 0; catch_type = 0 }

pub returns-in-None : goal.returns-in-None
unfolding no_entry
returns-in-None c =
    let f = catch_of c.args.pool.now c.args.code.now c.args.len in
    ends f NotBuilt c.loop-entry.catches.items c.args.entries.now c.loop-entry.entry-index _ (each f c.args.entries.now)
    (item_at c.args.entries.now c.loop-entry.entry-index no_entry c.loop-entry-test.true) (sym c.in_ok-catch.ensures ∙ c.in-None.is) c.loop-entry.invariant

pub loop-entry-preserved : goal.loop-entry-preserved
unfolding no_entry
loop-entry-preserved c =
    let f = catch_of c.args.pool.now c.args.code.now c.args.len in
    rw c.in_ok-push-in-Some.ensures.items (goes_on f c.loop-entry.catches.items c.args.entries.now c.loop-entry.entry-index _ c.in-Some.catch (each f c.args.entries.now)
    (item_at c.args.entries.now c.loop-entry.entry-index no_entry c.loop-entry-test.true) (sym c.in_ok-catch.ensures ∙ c.in-Some.is) c.loop-entry.invariant)

pub loop-entry-init : goal.loop-entry-init
loop-entry-init c = rw c.new-catches.ensures.items (starts (catch_of c.args.pool.now c.args.code.now c.args.len) c.args.entries.now)

pub returns-in_err-catch : goal.returns-in_err-catch
returns-in_err-catch c = let p = err_from_is_err_and c.from_residual.result c.from_residual.ensures.1 in rw (p.1, p.2) tt

pub returns-in_err-push-in-Some : goal.returns-in_err-push-in-Some
returns-in_err-push-in-Some c =
    let p = err_from_is_err_and c.from_residual-in_err-push-in-Some.result c.from_residual-in_err-push-in-Some.ensures.1 in rw (p.1, p.2) tt

pub returns : goal.returns
returns c =
    let f = catch_of c.args.pool.now c.args.code.now c.args.len in
    is_done f c.loop-entry.catches.items c.args.entries.now c.loop-entry.entry-index (each f c.args.entries.now) c.loop-entry-test.false c.loop-entry.invariant
