use Rattle.std.proofs.Common.{◌≡◌, ◌<◌, ◌++◌, [], ◌∷◌, List, sym, subst, arith}
use Rattle.jmodel.specs.history.Log.{access}
use Rattle.jmodel.specs.declared.access.Access.{Access}
use Rattle.tl2.specs.Standing.{Stands}
use Rattle.tl2.proofs.Stepping.{stands_wrote}
use Rattle.tl2.proofs.attempt.Tl2.on_write.Goals as goal

pub returns-clause-run : goal.returns-clause-run
returns-clause-run g c = λ h n r w s.
    let e = c.args.self.now in
    let low : c.args.address < e.shared.now.words = omega (arith, c.if-address-self.false) in
    let more : c.push.new.self.items ≡ e.writes.items ++ access c.args.address c.args.word ∷ [] = rw c.if-is_err.ensures.negation at c.push.ensures.items in
    stands_wrote g.C.Calling.began e.shared.now.words e.at e.writes.items c.push.new.self.items e.pass h n r w (access c.args.address c.args.word) low more s

pub returns-then-is_err-clause-run : goal.returns-then-is_err-clause-run
returns-then-is_err-clause-run g c = λ h n r w s.
    let e = c.args.self.now in
    let same : c.push.new.self.items ≡ e.writes.items = rw c.if-is_err.ensures.negation at c.push.ensures.items in
    subst (λ (k : List Access). Stands g.C.Calling.began e.shared.now.words e.at k e.pass h n r w) (sym same) s
