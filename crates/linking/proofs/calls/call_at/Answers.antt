use Rattle.std.proofs.Common.{◌≡◌, Option, subst}
use Rattle.std.specs.Prelude.{IfOk, option_and_then}
use Rattle.jmodel.specs.format.Pool.{MemberName}
use Rattle.objects.specs.linking.Decoding.{call_op}
use Rattle.linking.proofs.calls.call_at.Goals as goal

pub returns-in-Some : goal.returns-in-Some
returns-in-Some c =
    let found = c.in-Some.ensures in
    subst (λ (m : Option MemberName). IfOk c.call_op.result (λ o. o ≡ option_and_then (call_op c.args.symbols.now c.args.opcode) m)) found c.call_op.ensures
