use Rattle.std.proofs.Common.{[], ◌∷◌, ◌++◌, Ok, refl, sym, ap, ◌∙◌}
use Rattle.std.proofs.lemmas.List.{map-id}
use Rattle.std.proofs.lemmas.Iterator.Adapters.{YieldsList-from_vec}
use Rattle.std.proofs.lemmas.Iterator.Consumers.{YieldsList-end}
use Rattle.driver.proofs.Handing.{mapped_push}
use Rattle.driver.proofs.gates.take_gates.Goals as goal

pub loop-end-init : goal.loop-end-init
loop-end-init g c = record {
  ran = [];
  ends = refl;
  left = c.new-left.ensures.items;
  back = c.new-back.ensures.items;
}

pub loop-end-preserved : goal.loop-end-preserved
loop-end-preserved g c =
    let i = c.loop-end.invariant in
    let one = c.in_ok-one.one in
    let gate = c.in_ok-one.gate in
    record {
      ran = i.ran ++ (one, gate) ∷ [];
      ends = mapped_push Ok i.ran (one, gate) c.loop-end.yielded _ c.in-Some.end i.ends c.in_ok-one.was refl;
      left = mapped_push (λ r. Ok r.0) i.ran (one, gate) c.loop-end.left.items c.push.new.self.items (Ok one) i.left refl c.in_ok-push.ensures.items;
      back = mapped_push (λ r. r.1) i.ran (one, gate) c.loop-end.back.items c.push-in-loop-end.new.self.items gate i.back refl c.in_ok-push-2.ensures.items;
    }

pub returns : goal.returns
returns g c =
    let i = c.loop-end.invariant in
    let ends = c.args.ends.items in
    let from = c.into_iter-end-iterator.ensures.into_iter_gives in
    let end = YieldsList-end (YieldsList-from_vec ends from.0 (from.1 ∙ c.args.ends.ok.0))
    c.loop-end.yielded c.loop-end.end-iterator c.loop-end.yielded_by c.next.result c.next.new.self c.in-None.is c.next.ensures.steps in (
      i.ran,
      sym end.0 ∙ map-id c.loop-end.yielded ∙ i.ends,
      i.left,
      c.in_ok-append.ensures.items ∙ ap (λ l. l ++ c.args.gates.now.items) i.back,
    )
