-- Calls of the context, by their order.
use Rattle.std.proofs.Common.{◌≡◌, refl}
use Rattle.jmodel.specs.format.Pool.{MemberName}
use Rattle.objects.specs.linking.Decoding.{context_call}
use Rattle.linking.specs.ContextCalls.{read_of, write_of, first_call}

pub by_order : (n : MemberName) → first_call n ≡ context_call n
unfolding read_of write_of
by_order n = refl
