use Rattle.std.proofs.Common.{◌≡◌, length, map, sym, ap, ◌∙◌, subst}
use Rattle.std.proofs.lemmas.List.{length-map}
use Rattle.driver.specs.Telling.{kept_of, HaveRunLanes, HaveTold}
use Rattle.driver.specs.Passing.{HaveEnded}
use Rattle.driver.proofs.Lists.{on_ok}
use Rattle.driver.proofs.Handed.{begun_of, ended_of, have_told}
use Rattle.driver.proofs.run.Runner.run_all.Goals as goal

pub run_begun-requires-clause-len : goal.run_begun-requires-clause-len
run_begun-requires-clause-len g c = λ κs lives. sym (length-map c.in_ok-begun.begun.items (λ p. p.0)) ∙ ap length c.in_ok-begun.ensures.ones ∙ c.requires.len

pub run_begun-requires-clause-starts : goal.run_begun-requires-clause-starts
run_begun-requires-clause-starts g c = λ κs lives. (
  c.requires.starts.0,
  begun_of g.G.Gate.told c.args.self.now.rewritten.now c.args.self.now.limits c.args.shared.now.table.shared.table_id c.requires.starts.0 c.args.phase c.args.lanes.now c.in_ok-begun.begun.items
      c.args.starts.items c.in_ok-begun.ensures.ones c.requires.starts.1,
)

pub returns-clause-ended : goal.returns-clause-ended
returns-clause-ended g c = λ seen starting.
    let t = c.args.shared.now.table.shared.table_id in
    let begun = c.in_ok-begun.begun.items in
    let is = begun_of g.G.Gate.told c.args.self.now.rewritten.now c.args.self.now.limits t seen c.args.phase c.args.lanes.now begun c.args.starts.items c.in_ok-begun.ensures.ones starting in
    let whole : length begun ≡ length c.args.lanes.now = sym (length-map begun (λ p. p.0)) ∙ ap length c.in_ok-begun.ensures.ones ∙ c.requires.len in
    let have = c.in_ok-ends.ensures seen is in
    on_ok c.take_gates.result _ (λ ends. HaveEnded t seen c.args.phase c.args.lanes.now ends.items)
    (λ ends back.
    let ran = subst (HaveRunLanes g.G.Gate.told c.args.self.now.rewritten.now c.args.self.now.limits t seen c.args.phase c.args.lanes.now begun) back.1 have in
    subst (HaveEnded t seen c.args.phase c.args.lanes.now) (sym back.2)
    (ended_of g.G.Gate.told c.args.self.now.rewritten.now c.args.self.now.limits t seen c.args.phase c.args.lanes.now begun back.0 ran whole)) c.take_gates.ensures

pub returns-clause-told : goal.returns-clause-told
returns-clause-told g c =
    let t = c.args.shared.now.table.shared.table_id in
    let Q = c.args.self.now.rewritten.now in
    let limits = c.args.self.now.limits in
    let lanes = c.args.lanes.now in
    let seen = c.requires.starts.0 in
    let begun = c.in_ok-begun.begun.items in
    let is = begun_of g.G.Gate.told Q limits t seen c.args.phase lanes begun c.args.starts.items c.in_ok-begun.ensures.ones c.requires.starts.1 in
    let have = c.in_ok-ends.ensures seen is in
    let before = map g.G.Gate.told c.args.gates.now.items in
    let after = map g.G.Gate.told c.take_gates.new.gates.items in
    on_ok c.take_gates.result _ (λ ends. HaveTold Q limits c.args.phase lanes (map kept_of ends.items) before after)
    (λ ends back.
    let ran = subst (HaveRunLanes g.G.Gate.told Q limits t seen c.args.phase lanes begun) back.1 have in
    subst (λ es. HaveTold Q limits c.args.phase lanes (map kept_of es) before after) (sym back.2)
    (have_told g.G.Gate.told Q limits t seen c.args.phase lanes begun back.0 ran c.give_gates.new.gates.items c.args.gates.now.items c.take_gates.new.gates.items c.in_ok-begun.ensures.gates back.3))
    c.take_gates.ensures
