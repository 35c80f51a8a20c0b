use Rattle.std.proofs.Common.{ℕ, List, codes, subst}
use Rattle.jmodel.specs.format.PoolAdding.{add_method}
use Rattle.objects.specs.typing.TypeOrder.{context_class}
use Rattle.member_code.specs.Growing.{Grows}
use Rattle.field_members.specs.Accessors.{write_call}
use Rattle.field_members.proofs.accessors.add_write_call.Goals as goal

pub returns : goal.returns
unfolding write_call
returns c = subst (λ (d : List ℕ). Grows (λ (n : ℕ). n) c.add_context_method.result c.add_context_method.new.pool (add_method c.args.pool.now context_class (codes "onWriteAccess") d)) c.write_descriptor.ensures c.add_context_method.ensures
