use Rattle.std.proofs.Common.{ℕ, ◌<◌, ◌+◌, length, get_or, sym, ap, subst, ◌∙◌, arith}
use Rattle.std.proofs.lemmas.List.{length_push}
use Rattle.std.proofs.lemmas.Iterator.Adapters.{YieldsList-from_vec}
use Rattle.std.proofs.lemmas.Iterator.Consumers.{YieldsList-turn}
use Rattle.driver.specs.Workers.{AreWorkers}
use Rattle.driver.proofs.Working.{Handed, handed_more, workers_push}
use Rattle.driver.proofs.workers.give_claims.Goals as goal

pub loop-start-preserved : goal.loop-start-preserved
loop-start-preserved c =
    let starts = c.args.starts.items in
    let from = c.into_iter-start-iterator.ensures.into_iter_gives in
    let turn = YieldsList-turn (YieldsList-from_vec starts from.0 (from.1 ∙ c.args.starts.ok.0))
    c.loop-start.yielded c.loop-start.start-iterator c.loop-start.yielded_by c.next.result c.next.new.self c.in-Some.start c.in-Some.is c.next.ensures.steps in
    let k = length c.loop-start.yielded in
    let more = sym (length_push c.loop-start.yielded c.in-Some.start) in
    let i = c.loop-start.invariant in
    let b = c.args.bag.now in
    let few : k < 16 = omega (arith, turn.0, c.requires.few.0) in
    let inside : length c.loop-start.workers.items < length starts = omega (arith, turn.0, i.len) in
    let there = turn.1 ∙ ap (λ (n : ℕ). get_or starts n c.in-Some.start) (sym i.len) in
    let pushed = c.in_ok-push.ensures.items in
    record {
      handed = subst (λ (n : ℕ). Handed b b.length n c.split-claims.new.self) more
          (handed_more b b.length k c.loop-start.claims c.split-claims.new.self few c.requires.few.1 c.split-claims.ensures.bag.0 c.split-claims.ensures.claims.0 i.handed);
      len = ap length pushed ∙ length_push c.loop-start.workers.items _ ∙ ap (λ (n : ℕ). n + 1) i.len ∙ more;
      workers = λ t seen phase starting. subst (AreWorkers t seen phase b b.length) (sym pushed)
          (workers_push t seen phase b b.length starts c.loop-start.workers.items c.in-Some.start c.split-claims.result inside there starting
          (c.split-claims.ensures.bag.1, c.split-claims.ensures.claims.1) (i.workers t seen phase starting));
    }
