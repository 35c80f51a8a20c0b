use Rattle.std.proofs.Common.{◌≡◌, length, map, Ok, sym, ap, ◌∙◌, subst}
use Rattle.std.proofs.lemmas.List.{length-map}
use Rattle.driver.specs.Telling.{HaveRunWorkers, HaveToldClaimed}
use Rattle.driver.specs.Workers.{HaveWorked}
use Rattle.driver.proofs.Lists.{on_ok}
use Rattle.driver.proofs.HandedWorkers.{begun_workers, worked_of, have_told_claimed}
use Rattle.driver.proofs.run.Runner.work_all.Goals as goal

pub work_begun-requires-clause-workers : goal.work_begun-requires-clause-workers
work_begun-requires-clause-workers g c = λ κs lives. (
  c.requires.workers.0,
  begun_workers g.G.Gate.told c.args.self.now.rewritten.now c.args.self.now.limits c.args.shared.now.table.shared.table_id c.requires.workers.0 c.args.bag.now c.args.phase c.args.calls.now
      c.in_ok-begun.begun.items (length c.args.calls.now) c.args.workers.items c.in_ok-begun.ensures.ones c.requires.workers.1,
)

pub returns-clause-worked : goal.returns-clause-worked
returns-clause-worked g c = λ seen all.
    let t = c.args.shared.now.table.shared.table_id in
    let bag = c.args.bag.now in
    let calls = c.args.calls.now in
    let begun = c.in_ok-begun.begun.items in
    let Q = c.args.self.now.rewritten.now in
    let limits = c.args.self.now.limits in
    let is = begun_workers g.G.Gate.told Q limits t seen bag c.args.phase calls begun (length calls) c.args.workers.items c.in_ok-begun.ensures.ones all in
    let whole : length begun ≡ length c.args.workers.items = sym (length-map begun (λ p. p.0)) ∙ ap length c.in_ok-begun.ensures.ones in
    let have = c.in_ok-ends.ensures seen is in
    on_ok c.take_gates.result _ (λ ends. HaveWorked t seen bag c.args.phase calls (length c.args.workers.items) ends.items)
    (λ ends back.
    let ran = subst (HaveRunWorkers g.G.Gate.told Q limits t seen bag c.args.phase calls begun) back.1 have in
    subst (HaveWorked t seen bag c.args.phase calls (length c.args.workers.items)) (sym back.2)
    (subst (λ n. HaveWorked t seen bag c.args.phase calls n (map (λ r. Ok r.0) back.0)) whole (worked_of g.G.Gate.told Q limits t seen bag c.args.phase calls begun back.0 ran))) c.take_gates.ensures

pub returns-clause-told : goal.returns-clause-told
returns-clause-told g c =
    let t = c.args.shared.now.table.shared.table_id in
    let bag = c.args.bag.now in
    let calls = c.args.calls.now in
    let seen = c.requires.workers.0 in
    let begun = c.in_ok-begun.begun.items in
    let Q = c.args.self.now.rewritten.now in
    let limits = c.args.self.now.limits in
    let is = begun_workers g.G.Gate.told Q limits t seen bag c.args.phase calls begun (length calls) c.args.workers.items c.in_ok-begun.ensures.ones c.requires.workers.1 in
    let have = c.in_ok-ends.ensures seen is in
    let before = map g.G.Gate.told c.args.gates.now.items in
    let after = map g.G.Gate.told c.take_gates.new.gates.items in
    on_ok c.take_gates.result _ (λ ends. HaveToldClaimed Q limits c.args.phase calls ends.items before after)
    (λ ends back.
    let ran = subst (HaveRunWorkers g.G.Gate.told Q limits t seen bag c.args.phase calls begun) back.1 have in
    subst (λ es. HaveToldClaimed Q limits c.args.phase calls es before after) (sym back.2)
    (have_told_claimed g.G.Gate.told Q limits t seen bag c.args.phase calls begun back.0 ran c.give_gates.new.gates.items c.args.gates.now.items c.take_gates.new.gates.items c.in_ok-begun.ensures.gates back.3))
    c.take_gates.ensures
