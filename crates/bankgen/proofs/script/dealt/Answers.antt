use Rattle.std.proofs.Common.{◌≡◌, ◌<◌, length, map, ap, ◌∙◌, sym, arith}
use Rattle.std.proofs.lemmas.List.FromFn.{length-map-range_with_len}
use Rattle.bankgen.specs.Transfers.{transfer}
use Rattle.bankgen.specs.Script.{dealt}
use Rattle.bankgen.proofs.Dealing.{takes_own, dealt_passed}
use Rattle.bankgen.proofs.script.dealt.Goals.{then-k-lanes+in_ok-push, else-k-lanes}
use Rattle.bankgen.proofs.script.dealt.Goals as goal

pub loop-k-preserved : goal.loop-k-preserved
loop-k-preserved c seed accounts calls h =
    let n : length c.args.drawn.now ≡ calls = ap length h ∙ length-map-range_with_len (transfer seed accounts) 0 calls in
    let b : c.loop-k.k < calls = omega (arith, n, c.loop-k-test.true) in
    let o = c.loop-k.invariant seed accounts calls h in
    elim c.if-k-lanes.branch [
      | then-k-lanes+in_ok-push w ↦ ap (λ v. v.items) w.own-is ∙ takes_own (transfer seed accounts) c.args.drawn.now _ _ _ calls c.args.lanes c.args.lane c.loop-k.k h b o w.if-k-lanes.true w.in_ok-push.ensures.items
      | else-k-lanes w ↦ ap (λ v. v.items) w.own-is ∙ o ∙ ap (λ ks. map (transfer seed accounts) ks) (sym (dealt_passed c.args.lanes c.args.lane c.loop-k.k w.if-k-lanes.false))
    ]

pub returns : goal.returns
returns c seed accounts calls h =
    let n : length c.args.drawn.now ≡ calls = ap length h ∙ length-map-range_with_len (transfer seed accounts) 0 calls in
    let e : c.loop-k.k ≡ calls = omega (arith, n, c.loop-k-test.false, c.loop-k.auto.k-end) in
    c.loop-k.invariant seed accounts calls h ∙ ap (λ k. map (transfer seed accounts) (dealt k c.args.lanes c.args.lane)) e
