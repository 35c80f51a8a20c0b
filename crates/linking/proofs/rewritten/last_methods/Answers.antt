use Rattle.std.proofs.Common.{◌≡◌, ℕ, ◌-◌, List, length, drop, ap, ◌∙◌, arith}
use Rattle.std.proofs.lemmas.Grind.{common_steps}
use Rattle.jmodel.specs.format.ClassFile.{Member, ClassFile}
use Rattle.objects.specs.linking.Classes.{declared_in}
use Rattle.linking.proofs.RewrittenMembers.{last}
use Rattle.linking.proofs.rewritten.last_methods.Goals as goal

pub returns : goal.returns
returns c =
    let class = c.args.class.now in
    let held = c.as_slice-all.ensures.value ∙ ap (λ (k : ClassFile). k.methods) c.class.view_is in
    let start : c.saturating_sub-start.result ≡ length class.methods - c.args.many = first_of (omega (arith, ap (λ (l : List Member). length l) held), grind (arith, common_steps)) in
    ap (declared_in class) c.behind.ensures ∙ last class c.saturating_sub-start.result c.as_slice-all.result.now
    ∙ ap (λ (ms : List Member). drop c.saturating_sub-start.result (declared_in class ms)) held ∙ ap (λ (n : ℕ). drop n (declared_in class class.methods)) start
