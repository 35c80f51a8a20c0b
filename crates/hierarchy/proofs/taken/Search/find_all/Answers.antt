use Rattle.std.proofs.Common.{List, sym, ap, ◌∙◌, subst, ◌||◌, take}
use Rattle.std.proofs.lemmas.List.{take_all}
use Rattle.hierarchy.specs.Search.{instrs_call, Visits}
use Rattle.std.specs.List.{list_any}
use Rattle.std.proofs.lemmas.List.Folds.{list_any_more}
use Rattle.jmodel.specs.declared.instruction.Instr.{Instr}
use Rattle.objects.specs.linking.Classes.{Declared, full_name}
use Rattle.objects.specs.linking.Taken.{invoked, is_named_by}
use Rattle.hierarchy.proofs.SearchLaws.{nothing_called, then_called, called_as}
use Rattle.hierarchy.proofs.taken.Search.find_all.Goals as goal

pub loop-i-init : goal.loop-i-init
loop-i-init c = λ ms grouped. nothing_called ms c.args.self.now

pub loop-i-preserved : goal.loop-i-preserved
loop-i-preserved c = λ ms grouped.
    let calls = λ (m : Declared) (i : Instr). is_named_by (invoked c.args.pool.now i) (full_name m) in
    called_as ms (λ m. ap (λ (i : Instr). list_any (calls m) (take c.loop-i.i-index c.args.instrs.now) || calls m i) c.i-item.is ∙ sym (list_any_more (calls m) c.args.instrs.now c.loop-i.i-index c.i-item.result c.loop-i-test.true))
    (then_called ms (c.loop-i.invariant ms grouped) (c.in_ok-find_called.ensures ms grouped))

pub returns : goal.returns
returns c = λ ms grouped.
    subst (λ (is : List Instr). Visits ms (instrs_call c.args.pool.now is) c.args.self.now c.loop-i.self) (take_all c.loop-i.i-index c.args.instrs.now c.loop-i-test.false) (c.loop-i.invariant ms grouped)
