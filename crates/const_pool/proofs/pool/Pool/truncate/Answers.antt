use Rattle.std.proofs.Common.{arith, length, take, ◌<◌}
use Rattle.std.proofs.lemmas.List.{length-take}
use Rattle.const_pool.proofs.Indexes.{indexed_shorter}
use Rattle.const_pool.proofs.Kept.{kept_shorter}
use Rattle.const_pool.proofs.pool.Pool.truncate.Goals as goal
use Rattle.const_pool.proofs.pool.Pool.truncate.Goals.{then-len-count, else-len-count}

pub invariant_of-self : goal.invariant_of-self
invariant_of-self c =
    let inside = c.self.inside in
    let entries = inside.entries.items in
    let h = c.self.invariant in
    let few : length (take c.args.len entries) < 65535 = omega (arith, h.0, length-take c.args.len entries) in
    let kept = kept_shorter c.args.len inside.places entries h.2 in
    elim c.if-len-count.branch [
      | then-len-count w ↦ rw (c.truncate.ensures, c.truncate-2.ensures.items, w.self-inside-is) (few, w.new.ensures (take c.args.len entries), kept)
      | else-len-count w ↦ rw (c.truncate.ensures, c.truncate-2.ensures.items, w.self-inside-is) (few, indexed_shorter inside.index entries h.1 c.args.len (omega (arith, c.count.ensures, w.if-len-count.false)), kept)
    ]
