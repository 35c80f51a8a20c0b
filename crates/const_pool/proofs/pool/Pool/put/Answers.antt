use Rattle.std.proofs.Common.{◌≡◌, ◌∷◌, [], ◌++◌, ◌∙◌, ap, sym, length, arith}
use Rattle.const_pool.proofs.Longer.{has_room}
use Rattle.const_pool.proofs.pool.Pool.put.Goals as goal

pub returns : goal.returns
returns c =
    let pool = c.args.self.now in
    let longer : c.push.new.self.items ≡ pool ++ c.args.entry ∷ [] = cc (c.in_ok-push.ensures.items) in
    let len : c.len-len.result ≡ length pool = omega (arith, c.len-len.ensures, ap length c.self.view_is) in
    record { puts = has_room pool (c.args.entry ∷ []) c.push.new.self.items c.len-len.result len (omega (arith, len, c.if-len-eq65534.false)) longer; grows = (c.args.entry ∷ [], longer) }
