use Rattle.std.proofs.Common.{◌≡◌, Option, subst, ◌∙◌, arith}
use Rattle.std.specs.Prelude.{IfOk}
use Rattle.objects.specs.declared.op.Op.{Op}
use Rattle.linking.proofs.CallOps.{of_virtual, of_special, of_static, of_interface, of_none}
use Rattle.linking.proofs.calls.call_op.Goals as goal

pub returns-in_ok-virtual_call_op-in-182 : goal.returns-in_ok-virtual_call_op-in-182
returns-in_ok-virtual_call_op-in-182 c = c.in_ok-virtual_call_op-in-182.ensures ∙ of_virtual c.args.symbols.now c.args.r.now c.args.opcode c.in-182.is

pub returns-in-183 : goal.returns-in-183
returns-in-183 c = subst (λ (x : Option Op). IfOk c.special_call_op.result (λ o. o ≡ x)) (of_special c.args.symbols.now c.args.r.now c.args.opcode c.in-183.is) c.special_call_op.ensures

pub returns-in-184 : goal.returns-in-184
returns-in-184 c = c.static_call_op.ensures ∙ of_static c.args.symbols.now c.args.r.now c.args.opcode c.in-184.is

pub returns-in_ok-interface_call_op-in-185 : goal.returns-in_ok-interface_call_op-in-185
returns-in_ok-interface_call_op-in-185 c = c.in_ok-interface_call_op-in-185.ensures ∙ of_interface c.args.symbols.now c.args.r.now c.args.opcode c.in-185.is

pub returns-in_default : goal.returns-in_default
returns-in_default c = of_none c.args.symbols.now c.args.r.now c.args.opcode (omega arith) (omega arith) (omega arith) (omega arith)
