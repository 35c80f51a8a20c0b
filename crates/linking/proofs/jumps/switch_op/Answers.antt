use Rattle.std.proofs.Common.{sym}
use Rattle.linking.proofs.Switched.{numbered_ascend}
use Rattle.linking.proofs.jumps.switch_op.Goals as goal

pub made_switch-requires : goal.made_switch-requires
made_switch-requires c = numbered_ascend c.args.code.now c.args.cases.now c.in-Some-2.numbered.items (sym (rw c.in-Some-2.is at c.in_ok-numbered.ensures)) c.requires
