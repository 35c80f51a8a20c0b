use Rattle.std.proofs.Common.{sym, subst, ap, ◌∙◌}
use Rattle.std.proofs.lemmas.List.Elements.{All-from_recursion, All-same, All-get_or}
use Rattle.std.proofs.lemmas.Result.{err_from_is_err_and}
use Rattle.jmodel.specs.declared.instruction.Instr.{Instr}
use Rattle.objects.specs.linking.Each.{each}
use Rattle.objects.specs.linking.Decoding.{op_of}
use Rattle.hierarchy.specs.declared.outcome.BuildEnd.TheVariants.{NotBuilt}
use Rattle.hierarchy.specs.Switches.{IsSwitchOf}
use Rattle.hierarchy.proofs.Each.{starts, goes_on, ends, is_done, item_is}
use Rattle.linking.proofs.meaning.ops_of.Goals as goal

pub loop-i-init : goal.loop-i-init
loop-i-init c = rw c.new-ops.ensures.items (starts (op_of c.args.symbols.now c.args.code.now) c.instrs-list.result.now)

pub op_of-requires : goal.op_of-requires
op_of-requires c =
    let list = c.instrs-list.result.now in
    let rises = λ (i : Instr). IsSwitchOf i.operands in
    subst rises (sym c.i-item.is) (All-get_or rises list c.loop-i.i-index c.i-item.result c.loop-i-test.true (All-same rises list c.args.code.now c.instrs-list.ensures (All-from_recursion rises c.args.code.now c.requires)))

pub returns-in_err-op : goal.returns-in_err-op
returns-in_err-op c = let p = err_from_is_err_and c.from_residual.result c.from_residual.ensures.1 in rw (p.1, p.2) tt

pub returns-in_err-push-in-Some : goal.returns-in_err-push-in-Some
returns-in_err-push-in-Some c =
    let p = err_from_is_err_and c.from_residual-in_err-push-in-Some.result c.from_residual-in_err-push-in-Some.ensures.1 in rw (p.1, p.2) tt

pub returns-in-None : goal.returns-in-None
returns-in-None c =
    let f = op_of c.args.symbols.now c.args.code.now in
    let list = c.instrs-list.result.now in
    ap (each f) (sym c.instrs-list.ensures)
    ∙ ends f NotBuilt c.loop-i.ops.items list c.loop-i.i-index c.i-item.result (each f list) (item_is list c.loop-i.i-index c.i-item.result c.loop-i-test.true c.i-item.is) (sym c.in_ok-op.ensures ∙ c.in-None.is) c.loop-i.invariant

pub loop-i-preserved : goal.loop-i-preserved
loop-i-preserved c =
    let f = op_of c.args.symbols.now c.args.code.now in
    rw c.in_ok-push-in-Some.ensures.items (goes_on f c.loop-i.ops.items c.instrs-list.result.now c.loop-i.i-index c.i-item.result c.in-Some.op (each f c.instrs-list.result.now)
    (item_is c.instrs-list.result.now c.loop-i.i-index c.i-item.result c.loop-i-test.true c.i-item.is) (sym c.in_ok-op.ensures ∙ c.in-Some.is) c.loop-i.invariant)

pub returns : goal.returns
returns c =
    let f = op_of c.args.symbols.now c.args.code.now in
    let list = c.instrs-list.result.now in
    ap (each f) (sym c.instrs-list.ensures) ∙ is_done f c.loop-i.ops.items list c.loop-i.i-index (each f list) c.loop-i-test.false c.loop-i.invariant
