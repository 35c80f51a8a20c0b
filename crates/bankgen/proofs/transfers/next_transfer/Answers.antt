use Rattle.std.proofs.Common.{◌≡◌, ◌+◌, ◌*◌, ap, ◌∙◌, arith}
use Rattle.bankgen.specs.Transfers.{after, draw}
use Rattle.bankgen.proofs.Draws.{after_more, drawn}
use Rattle.bankgen.proofs.transfers.next_transfer.Goals as goal

pub returns-clause-transfer : goal.returns-clause-transfer
returns-clause-transfer c seed k h =
    let a : c.draw.result ≡ draw seed (3 * k) = drawn seed (3 * k) _ _ h c.draw.ensures.drawn in
    let s : c.draw.new.state ≡ after seed (3 * k + 1) = after_more seed (3 * k) _ _ h c.draw.ensures.state in
    let b : c.draw-2.result ≡ draw seed (3 * k + 1) = drawn seed (3 * k + 1) _ _ s c.draw-2.ensures.drawn in
    let t : c.draw-2.new.state ≡ after seed (3 * k + 1 + 1) = after_more seed (3 * k + 1) _ _ s c.draw-2.ensures.state in
    let d : c.draw-3.result ≡ draw seed (3 * k + 1 + 1) = drawn seed (3 * k + 1 + 1) _ _ t c.draw-3.ensures.drawn in
    let n : 3 * k + 1 + 1 ≡ 3 * k + 2 = omega arith in
    cc (a, b, d, ap (draw seed) n)

pub returns-clause-state : goal.returns-clause-state
returns-clause-state c seed k h =
    let s : c.draw.new.state ≡ after seed (3 * k + 1) = after_more seed (3 * k) _ _ h c.draw.ensures.state in
    let t : c.draw-2.new.state ≡ after seed (3 * k + 1 + 1) = after_more seed (3 * k + 1) _ _ s c.draw-2.ensures.state in
    let u : c.draw-3.new.state ≡ after seed (3 * k + 1 + 1 + 1) = after_more seed (3 * k + 1 + 1) _ _ t c.draw-3.ensures.state in
    let n : 3 * k + 1 + 1 + 1 ≡ 3 * (k + 1) = omega arith in
    u ∙ ap (after seed) n
