use Rattle.std.proofs.Common.{Bool, cond, Some, None, sym, ap, lt-ltb, le-ltb, arith, rules}
use Rattle.claims.proofs.Keeping.{claims, tells}
use Rattle.claims.proofs.bag.BagPass.claim.Goals as goal

pub fetch_add-found-requires : goal.fetch_add-found-requires
fetch_add-found-requires c = (search rules, search rules, claims _ _ _ c.requires.left)

pub returns-then-found-from-clause-claims : goal.returns-then-found-from-clause-claims
returns-then-found-from-clause-claims c = let f = c.fetch_add-found.ensures in let n = c.fetch_add-found.result in
    tells c.args.b.now.length c.args.self.now.seat.me n c.fetch_add-found.new.seat.me (Some n) f.2
    (sym (ap (λ (b : Bool). cond b (Some n) None) (lt-ltb n c.args.b.now.length (omega (arith, c.if-found-from.true, c.from.ensures)))))

pub returns-else-found-from-clause-claims : goal.returns-else-found-from-clause-claims
returns-else-found-from-clause-claims c = let f = c.fetch_add-found.ensures in let n = c.fetch_add-found.result in
    tells c.args.b.now.length c.args.self.now.seat.me n c.fetch_add-found.new.seat.me None f.2
    (sym (ap (λ (b : Bool). cond b (Some n) None) (le-ltb n c.args.b.now.length (omega (arith, c.if-found-from.false, c.from.ensures)))))
