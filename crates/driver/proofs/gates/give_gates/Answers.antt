use Rattle.std.proofs.Common.{◌≡◌, ◌<◌, ◌++◌, length, map, sym, ap, ◌∙◌, arith}
use Rattle.std.proofs.lemmas.List.{length-map, length-append}
use Rattle.std.proofs.lemmas.Iterator.Adapters.{YieldsList-from_vec}
use Rattle.std.proofs.lemmas.Iterator.Consumers.{YieldsList-turn}
use Rattle.driver.proofs.Handing.{taken_off, given_more}
use Rattle.driver.proofs.gates.give_gates.Goals as goal

pub loop-one-init : goal.loop-one-init
loop-one-init g c = record {
  ones = ap (map (λ p. p.0)) c.new-given.ensures.items;
  gates = ap (λ l. map (λ p. p.1) l ++ c.args.gates.now.items) c.new-given.ensures.items;
}

pub remove-requires : goal.remove-requires
remove-requires g c =
    let ones = c.args.ones.items in
    let from = c.into_iter-one-iterator.ensures.into_iter_gives in
    let turn = YieldsList-turn (YieldsList-from_vec ones from.0 (from.1 ∙ c.args.ones.ok.0))
    c.loop-one.yielded c.loop-one.one-iterator c.loop-one.yielded_by c.next.result c.next.new.self c.in-Some.one c.in-Some.is c.next.ensures.steps in
    let given = c.loop-one.given.items in
    let i = c.loop-one.invariant in
    let many : length given ≡ length c.loop-one.yielded = sym (length-map given (λ p. p.0)) ∙ ap length i.ones in
    let all = ap length i.gates in
    let both = length-append (map (λ p. p.1) given) c.loop-one.gates.items in
    let same = length-map given (λ p. p.1) in
    let most = c.requires in
    omega (arith, turn.0, many, all, both, same, most, c.loop-one.gates.ok.0)

pub loop-one-preserved : goal.loop-one-preserved
loop-one-preserved g c =
    let i = c.loop-one.invariant in
    let ones = c.args.ones.items in
    let from = c.into_iter-one-iterator.ensures.into_iter_gives in
    let turn = YieldsList-turn (YieldsList-from_vec ones from.0 (from.1 ∙ c.args.ones.ok.0))
    c.loop-one.yielded c.loop-one.one-iterator c.loop-one.yielded_by c.next.result c.next.new.self c.in-Some.one c.in-Some.is c.next.ensures.steps in
    let given = c.loop-one.given.items in
    let many : length given ≡ length c.loop-one.yielded = sym (length-map given (λ p. p.0)) ∙ ap length i.ones in
    let all = ap length i.gates in
    let both = length-append (map (λ p. p.1) given) c.loop-one.gates.items in
    let same = length-map given (λ p. p.1) in
    let most = c.requires in
    let some : 0 < length c.loop-one.gates.items = omega (arith, turn.0, many, all, both, same, most) in
    let off = taken_off c.loop-one.gates.items c.remove.new.self.items c.remove.result some c.remove.ensures.value c.remove.ensures.by_index.2 in
    let more = given_more given c.push.new.self.items c.loop-one.yielded c.in-Some.one c.remove.result c.loop-one.gates.items c.remove.new.self.items c.args.gates.now.items i.ones i.gates off c.in_ok-push.ensures.items in
    record { ones = more.0; gates = more.1 }
