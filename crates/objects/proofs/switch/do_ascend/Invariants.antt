use Rattle.std.proofs.Common.{◌≡◌, drop}
use Rattle.jmodel.specs.format.Instruction.{ascend, ascend_after}
use Rattle.objects.proofs.switch.do_ascend.Given as goal

-- all keys ascend where those that are left ascend behind the last one
abbrev pub invariant-loop-key : goal.invariant-loop-key
invariant-loop-key l = ascend l.items ≡ ascend_after l.last (drop l.key-index l.items)
