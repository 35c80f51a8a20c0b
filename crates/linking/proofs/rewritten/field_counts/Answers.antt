use Rattle.std.proofs.Common.{◌≡◌, ℕ, ◌+◌, Bool, List, [], length, take, sym, ap, ◌∙◌, arith}
use Rattle.std.specs.Prelude.{bytes_eq, filter, if◌then◌else◌}
use Rattle.std.specs.Cmp.Lexicographic.{nat_list_eq_equiv}
use Rattle.std.proofs.lemmas.List.{length-take-le, take_all}
use Rattle.objects.specs.semantics.Program.{Field}
use Rattle.hierarchy.specs.Names.{named, count_of}
use Rattle.hierarchy.proofs.Each.{count_next, few_pass}
use Rattle.linking.proofs.rewritten.field_counts.Goals as goal

pub count-requires : goal.count-requires
count-requires c =
    let fields = c.fields-field-items.result.now in
    let i = c.loop-field.field-index in
    let mine = λ (f : Field). bytes_eq f.class c.as_slice.result.now in
    let many : length (take i fields) ≡ i = length-take-le i fields (omega arith) in
    omega (arith, c.loop-field.invariant c.as_slice.result.now, few_pass mine (take i fields), many, c.loop-field-test.true)

pub loop-field-preserved : goal.loop-field-preserved
loop-field-preserved c = λ name.
    let fields = c.fields-field-items.result.now in
    let i = c.loop-field.field-index in
    let mine = λ (f : Field). bytes_eq f.class name in
    let same : bytes_eq name c.as_slice.result.now ≡ mine c.field-item.result = ap (bytes_eq name) (c.as_slice.ensures ∙ ap (λ (f : Field). f.class) c.field.view_is) ∙ nat_list_eq_equiv.symm name c.field-item.result.class in
    c.in_ok-count.ensures (named name [] []) ∙ ap (λ (b : Bool). count_of c.loop-field.counts (named name [] []) + (if b then 1 else 0)) same
    ∙ ap (λ (n : ℕ). n + (if mine c.field-item.result then 1 else 0)) (c.loop-field.invariant name)
    ∙ sym (count_next mine fields i c.field-item.result c.loop-field-test.true c.field-item.is)

pub returns : goal.returns
returns c = λ name.
    let mine = λ (f : Field). bytes_eq f.class name in
    c.loop-field.invariant name ∙ ap (λ (fs : List Field). length (filter mine fs)) (take_all c.loop-field.field-index c.fields-field-items.result.now c.loop-field-test.false ∙ c.fields-field-items.ensures)
