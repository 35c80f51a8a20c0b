use Rattle.std.proofs.Common.{◌≡◌, ℕ, ◌+◌, Bool, List, [], length, take, sym, ap, ◌∙◌, arith}
use Rattle.std.specs.Prelude.{bytes_eq, filter, if◌then◌else◌}
use Rattle.std.specs.Cmp.Lexicographic.{nat_list_eq_equiv}
use Rattle.std.proofs.lemmas.List.{length-take-le, take_all}
use Rattle.jmodel.specs.declared.name.MethodName.{MethodName}
use Rattle.objects.specs.semantics.Program.{Method}
use Rattle.hierarchy.specs.Names.{named, count_of}
use Rattle.hierarchy.proofs.Each.{count_next, few_pass}
use Rattle.linking.proofs.rewritten.method_counts.Goals as goal

pub count-requires : goal.count-requires
count-requires c =
    let methods = c.methods-method-items.result.now in
    let i = c.loop-method.method-index in
    let mine = λ (k : Method). bytes_eq k.name.class c.as_slice.result.now in
    let many : length (take i methods) ≡ i = length-take-le i methods (omega arith) in
    omega (arith, c.loop-method.invariant c.as_slice.result.now, few_pass mine (take i methods), many, c.loop-method-test.true)

pub loop-method-preserved : goal.loop-method-preserved
loop-method-preserved c = λ name.
    let methods = c.methods-method-items.result.now in
    let i = c.loop-method.method-index in
    let mine = λ (k : Method). bytes_eq k.name.class name in
    let class = c.as_slice.ensures ∙ ap (λ (n : MethodName). n.class) c.name-name.ensures in
    let same : bytes_eq name c.as_slice.result.now ≡ mine c.method-item.result = ap (bytes_eq name) class ∙ nat_list_eq_equiv.symm name c.method-item.result.name.class in
    c.in_ok-count.ensures (named name [] []) ∙ ap (λ (b : Bool). count_of c.loop-method.counts (named name [] []) + (if b then 1 else 0)) same
    ∙ ap (λ (n : ℕ). n + (if mine c.method-item.result then 1 else 0)) (c.loop-method.invariant name)
    ∙ sym (count_next mine methods i c.method-item.result c.loop-method-test.true c.method-item.is)

pub returns : goal.returns
returns c = λ name.
    let mine = λ (k : Method). bytes_eq k.name.class name in
    c.loop-method.invariant name ∙ ap (λ (ms : List Method). length (filter mine ms)) (take_all c.loop-method.method-index c.methods-method-items.result.now c.loop-method-test.false ∙ c.methods-method-items.ensures)
