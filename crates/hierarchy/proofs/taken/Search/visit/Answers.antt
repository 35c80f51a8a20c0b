use Rattle.std.proofs.Common.{◌≡◌, Result, Ok, Err, List, ap, sym, ◌∙◌}
use Rattle.jmodel.specs.declared.instruction.Instr.{Instr}
use Rattle.jmodel.specs.declared.refusal.Refusal.{Refusal}
use Rattle.jmodel.specs.format.ClassFile.{ClassFile, Pool}
use Rattle.objects.specs.linking.Code.{Coded, decoded}
use Rattle.objects.specs.linking.Taken.{code_calls}
use Rattle.objects.specs.linking.Classes.{Declared, full_name}
use Rattle.hierarchy.specs.Search.{instrs_call}
use Rattle.hierarchy.proofs.SearchLaws.{nothing_called, called_as, visits_if_ok}
use Rattle.hierarchy.proofs.taken.Search.visit.Goals as goal

pub returns-in-Some : goal.returns-in-Some
returns-in-Some c =
    let k = c.args.method.now in
    let pool : c.class.inside.pool ≡ k.class.pool = ap (λ (f : ClassFile). f.pool) c.class.view_is ∙ ap (λ (d : Declared). d.class.pool) c.method.view_is in
    let instrs : c.as_slice.result.now ≡ c.in-Some.coded.instrs = c.as_slice.ensures.value ∙ ap (λ (d : Coded). d.instrs) c.coded.view_is in
    let code : decoded k.class k.member ≡ Ok c.in-Some.coded = sym (ap (λ (d : Declared). decoded d.class d.member) c.method.view_is) ∙ (rw c.in-Some.is at c.in_ok-found.ensures) in
    visits_if_ok c.find_all.result c.args.groups.now (instrs_call c.class.inside.pool c.as_slice.result.now) (code_calls k.class.pool (decoded k.class k.member)) c.args.self.now c.find_all.new.self (λ m.
    ap (λ (p : Pool). instrs_call p c.as_slice.result.now (full_name m)) pool ∙ ap (λ (is : List Instr). instrs_call k.class.pool is (full_name m)) instrs
    ∙ ap (λ (r : Result Coded Refusal). code_calls k.class.pool r (full_name m)) (sym code)) c.find_all.ensures

pub returns-in-None : goal.returns-in-None
returns-in-None c = λ ms grouped.
    let k = c.args.method.now in
    let fails = rw c.in-None.is at c.in_ok-found.ensures in
    let code : decoded k.class k.member ≡ Err fails.0 = sym (ap (λ (d : Declared). decoded d.class d.member) c.method.view_is) ∙ fails.1 in
    called_as ms (λ m. ap (λ (r : Result Coded Refusal). code_calls k.class.pool r (full_name m)) (sym code)) (nothing_called ms c.args.self.now)
