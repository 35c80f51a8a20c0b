use Rattle.std.proofs.Common.{◌≡◌, ◌∷◌, [], ◌++◌, ◌∙◌, ap, sym, length, append_assoc, arith}
use Rattle.jmodel.specs.declared.class_file.Constant.TheVariants.{Second}
use Rattle.const_pool.proofs.Longer.{has_room}
use Rattle.const_pool.proofs.pool.Pool.put_wide.Goals as goal

pub returns : goal.returns
returns c =
    let pool = c.args.self.now in
    let joined = append_assoc pool (c.args.entry ∷ []) (Second ∷ []) in
    let longer : c.push-2.new.self.items ≡ pool ++ c.args.entry ∷ Second ∷ [] = cc (c.in_ok-push.ensures.items, c.in_ok-push-2.ensures.items) in
    let len : c.len-len.result ≡ length pool = omega (arith, c.len-len.ensures, ap length c.self.view_is) in
    record { puts = has_room pool (c.args.entry ∷ Second ∷ []) c.push-2.new.self.items c.len-len.result len (omega (arith, len, c.if-len-ge65533.false)) longer; grows = (c.args.entry ∷ Second ∷ [], longer) }
