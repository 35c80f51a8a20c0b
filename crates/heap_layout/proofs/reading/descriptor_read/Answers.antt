use Rattle.std.proofs.Common.{sym, ap, ◌∙◌}
use Rattle.objects.specs.typing.TypeOrder.{is_array}
use Rattle.heap_layout.proofs.Bytes.{read_step}
use Rattle.heap_layout.proofs.reading.descriptor_read.Goals as goal

pub loop-i-preserved : goal.loop-i-preserved
loop-i-preserved c =
    read_step c.args.folder.now c.args.descriptor.now c.loop-i.i c.loop-i.bytes c.push.new.self (sym (c.is_array.ensures ∙ ap is_array c.rest-left.ensures) ∙ c.if-not-is_array.false) c.in_ok-push.ensures.ok c.loop-i.invariant
