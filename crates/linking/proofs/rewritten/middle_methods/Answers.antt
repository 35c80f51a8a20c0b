use Rattle.std.proofs.Common.{◌≡◌, ℕ, ◌-◌, List, length, take, drop, ap, ◌∙◌, arith}
use Rattle.std.proofs.lemmas.Grind.{common_steps}
use Rattle.jmodel.specs.format.ClassFile.{Member, ClassFile}
use Rattle.objects.specs.linking.Classes.{declared_in}
use Rattle.linking.proofs.RewrittenMembers.{first, last}
use Rattle.linking.proofs.rewritten.middle_methods.Goals as goal

pub returns : goal.returns
returns c =
    let class = c.args.class.now in
    let held = c.as_slice-all.ensures.value ∙ ap (λ (k : ClassFile). k.methods) c.class.view_is in
    let many = c.args.many in
    let all = c.as_slice-all.result.now in
    let at = c.saturating_sub-start.result in
    let start : at ≡ length class.methods - c.args.last - many = first_of (omega (arith, ap (λ (l : List Member). length l) held), grind (arith, common_steps)) in
    ap (declared_in class) (c.first.ensures ∙ ap (take many) c.behind.ensures) ∙ first class many (drop at all) ∙ ap (take many) (last class at all)
    ∙ ap (λ (ms : List Member). take many (drop at (declared_in class ms))) held ∙ ap (λ (n : ℕ). take many (drop n (declared_in class class.methods))) start
