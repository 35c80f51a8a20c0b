use Rattle.std.proofs.Common.{◌≤◌, ◌++◌, length, sym, ap, append-nil, ◌∙◌, arith}
use Rattle.objects.specs.typing.TypeOrder.{element_read, is_array}
use Rattle.verifier.proofs.Bytes.{read_class, read_other, read_step}
use Rattle.verifier.proofs.names.element_read.Goals as goal

pub loop-i-preserved : goal.loop-i-preserved
loop-i-preserved c =
    read_step c.args.program.now c.args.name.now c.loop-i.i c.loop-i.bytes.items c.push.new.self.items (sym (c.is_array.ensures ∙ ap is_array c.rest-n.ensures) ∙ c.if-not-is_array.false) c.in_ok-push.ensures.items c.loop-i.invariant

pub returns-then-not-is_array : goal.returns-then-not-is_array
returns-then-not-is_array c =
    let P = c.args.program.now in
    let class = read_class P c.rest-n.result.now (sym c.is_array.ensures ∙ c.if-not-is_array.true) in
    c.from_vec.ensures ∙ c.in_ok-push_element.ensures ∙ ap (λ b. c.loop-i.bytes.items ++ b) (class ∙ ap (element_read P) c.rest-n.ensures) ∙ c.loop-i.invariant

pub returns : goal.returns
returns c =
    let past : length c.args.name.now ≤ c.loop-i.i = omega arith in
    let end = read_other c.args.program.now c.args.name.now c.loop-i.i past in
    c.from_vec-2.ensures ∙ sym (append-nil c.loop-i.bytes.items) ∙ ap (λ b. c.loop-i.bytes.items ++ b) (sym end) ∙ c.loop-i.invariant
