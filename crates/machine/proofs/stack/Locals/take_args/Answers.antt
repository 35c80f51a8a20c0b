use Rattle.std.proofs.Common.{◌≡◌, ◌+◌, ◌-◌, ◌<◌, [], length, take, drop, arith}
use Rattle.std.proofs.lemmas.List.{length-reverse, take_rest}
use Rattle.machine.proofs.Slots.{args_behind, few_args}
use Rattle.machine.proofs.stack.Locals.take_args.Goals as goal

pub returns-then-len-count : goal.returns-then-len-count
returns-then-len-count c = λ _.
    let short : length c.from.inside.items.items < c.args.count = omega (arith, c.len-len.ensures, c.if-len-count.true) in
    few_args c.args.count [] c.args.from.now (rw (← c.from.view_is, length-reverse c.from.inside.items.items) short)

pub returns : goal.returns
returns c =
    let xs = c.from.inside.items.items in
    let k = c.len-len.result - c.args.count in
    let e : k + c.args.count ≡ length xs = omega (arith, c.len-len.ensures, c.if-len-count.false) in
    let locals : c.extend_from_slice.new.self.items ≡ drop k xs = rw (c.in_ok-extend_from_slice.ensures.items, c.clear.ensures.items, c.deref.ensures.value) (take_rest xs k) in
    let left : c.truncate.new.self.items ≡ take k xs = c.truncate.ensures.items in
    rw (← c.from.view_is, locals, left) (args_behind xs k c.args.count e)
