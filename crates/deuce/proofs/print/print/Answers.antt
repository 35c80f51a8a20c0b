-- One piece more.
use Rattle.std.proofs.Common.{◌≡◌, ◌≤◌, ◌-◌, ◌∙◌, List, ℕ, ap, length, take, drop, arith}
use Rattle.std.proofs.lemmas.List.{length-drop, take_all}
use Rattle.std.specs.Io.KnownBytes.{append_known}
use Rattle.deuce_io.specs.Told.{written_on}
use Rattle.deuce.proofs.print.print.Goals as goal

pub loop-at-preserved : goal.loop-at-preserved
loop-at-preserved g c =
    let text = c.args.text.now in
    let at = c.loop-at.at in
    let n = c.in_ok-taken.taken in
    let so = c.loop-at.invariant in
    let rest : take (length text - at) (drop at text) ≡ drop at text = take_all (length text - at) (drop at text) (omega (arith, length-drop at text)) in
    let fits : n ≤ length (drop at text) = omega (arith, ap length rest, c.in_ok-taken.ensures.within) in (
      omega (arith, length-drop at text, fits),
      omega (arith, so.1, c.write.ensures.counts),
      omega (arith, so.2, c.write.ensures.shortage_counts),
      written_on _ _ _ text at n so.3 (c.in_ok-taken.ensures.appended ∙ ap (λ (l : List ℕ). append_known (g.O.Sink.written c.loop-at.out) (take n l)) rest),
    )
