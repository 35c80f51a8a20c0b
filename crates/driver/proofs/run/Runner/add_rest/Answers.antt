use Rattle.std.proofs.Common.{◌≡◌, ◌≤◌, ℕ, List, length, get_or, sym, ◌∙◌, ap, subst}
use Rattle.std.proofs.lemmas.Slice.Zip.{AllZip-long}
use Rattle.jmodel.specs.history.Schedule.{Known}
use Rattle.tx_table.specs.Passes.{book}
use Rattle.session.specs.Passes.{behind}
use Rattle.driver.specs.Sides.{AreWhole, made_counts}
use Rattle.driver.specs.Passing.{MayGoOn, first_of, call_count, IsResting}
use Rattle.driver.proofs.Added.{phase_added}
use Rattle.driver.proofs.Midway.{may_rest, firsts_within}
use Rattle.driver.proofs.Resting.{whole_next}
use Rattle.driver.proofs.Told.{told_phase}
use Rattle.driver.proofs.Rising.{lanes_rise}
use Rattle.std.proofs.lemmas.Result.{IfOk-from_err}
use Rattle.driver.proofs.run.Runner.add_rest.Goals as goal

pub one_after_another-requires-clause-firsts : goal.one_after_another-requires-clause-firsts
one_after_another-requires-clause-firsts g c =
    let t = c.args.shared.now.table.shared.table_id in
    let lanes = c.args.lanes.now in
    let first = c.args.first in
    let counts : c.deref-2.result.now ≡ made_counts first.parts.items = c.deref-2.ensures.value ∙ c.in_ok-firsts.ensures ∙ ap made_counts c.deref.ensures.value in
    let b = c.requires.side.0 in
    let m = c.requires.side.1 in
    ap length counts
    ∙ AllZip-long (λ (cs : List Known) (n : ℕ). n ≤ length cs) lanes (made_counts first.parts.items) (firsts_within t b c.args.phase lanes first c.args.pass m)

pub one_after_another-requires-clause-within : goal.one_after_another-requires-clause-within
one_after_another-requires-clause-within g c =
    let t = c.args.shared.now.table.shared.table_id in
    let lanes = c.args.lanes.now in
    let first = c.args.first in
    let counts : c.deref-2.result.now ≡ made_counts first.parts.items = c.deref-2.ensures.value ∙ c.in_ok-firsts.ensures ∙ ap made_counts c.deref.ensures.value in
    let b = c.requires.side.0 in
    let m = c.requires.side.1 in
    rw counts (firsts_within t b c.args.phase lanes first c.args.pass m)

pub one_after_another-requires-clause-numbers : goal.one_after_another-requires-clause-numbers
one_after_another-requires-clause-numbers g c =
    (may_rest c.args.shared.now.table.shared.table_id c.requires.side.0 c.args.phase c.args.lanes.now c.args.first c.args.pass c.requires.side.1).0

pub one_after_another-requires-clause-ticks : goal.one_after_another-requires-clause-ticks
one_after_another-requires-clause-ticks g c =
    (may_rest c.args.shared.now.table.shared.table_id c.requires.side.0 c.args.phase c.args.lanes.now c.args.first c.args.pass c.requires.side.1).1

pub one_after_another-requires-clause-begins : goal.one_after_another-requires-clause-begins
one_after_another-requires-clause-begins g c = λ lane low.
    let t = c.args.shared.now.table.shared.table_id in
    let lanes = c.args.lanes.now in
    let first = c.args.first in
    let counts : c.deref-2.result.now ≡ made_counts first.parts.items = c.deref-2.ensures.value ∙ c.in_ok-firsts.ensures ∙ ap made_counts c.deref.ensures.value in
    let b = c.requires.side.0 in
    let m = c.requires.side.1 in
    subst (λ (ns : List ℕ). MayGoOn (behind (first_of c.args.phase lane) (get_or ns lane 0)) (book c.args.pass)) (sym counts) (m.joining.back lane low)

pub one_after_another-requires-clause-resting : goal.one_after_another-requires-clause-resting
one_after_another-requires-clause-resting g c =
    (may_rest c.args.shared.now.table.shared.table_id c.requires.side.0 c.args.phase c.args.lanes.now c.args.first c.args.pass c.requires.side.1).2

pub returns-clause-whole : goal.returns-clause-whole
returns-clause-whole g c =
    let t = c.args.shared.now.table.shared.table_id in
    let lanes = c.args.lanes.now in
    let first = c.args.first in
    let counts : c.deref-2.result.now ≡ made_counts first.parts.items = c.deref-2.ensures.value ∙ c.in_ok-firsts.ensures ∙ ap made_counts c.deref.ensures.value in
    let b = c.requires.side.0 in
    let m = c.requires.side.1 in
    let rest = c.in_ok-rest.rest in
    let left = c.in_ok-rest.left in
    let Resting : List ℕ → Type 0 =
    λ ns. IsResting t (book c.args.pass) c.args.phase (call_count lanes) lanes ns rest.placed.items rest.parts.items left in
    let resting = subst Resting counts c.in_ok-rest.ensures.made in
    (whole_next t c.args.phase b lanes (made_counts first.parts.items) first rest.placed.items rest.parts.items c.args.pass left c.requires.lanes m resting).0

pub returns-clause-adds : goal.returns-clause-adds
returns-clause-adds g c = λ b m.
    let t = c.args.shared.now.table.shared.table_id in
    let lanes = c.args.lanes.now in
    let first = c.args.first in
    let counts : c.deref-2.result.now ≡ made_counts first.parts.items = c.deref-2.ensures.value ∙ c.in_ok-firsts.ensures ∙ ap made_counts c.deref.ensures.value in
    let rest = c.in_ok-rest.rest in
    let left = c.in_ok-rest.left in
    let Resting : List ℕ → Type 0 =
    λ ns. IsResting t (book c.args.pass) c.args.phase (call_count lanes) lanes ns rest.placed.items rest.parts.items left in
    let resting = subst Resting counts c.in_ok-rest.ensures.made in
    let sorted = c.in_ok-add_phase.ensures.placed in
    let whole = subst (λ (ns : List ℕ). AreWhole lanes ns rest.parts.items) counts c.in_ok-rest.ensures.whole in
    phase_added t c.args.phase b lanes first rest.placed.items sorted.0 rest.parts.items c.args.pass left c.args.journal.now c.add_phase.new.self c.requires.lanes m resting
    whole sorted.1 sorted.2 sorted.3 c.in_ok-add_phase.ensures.unplaced

pub returns-clause-told : goal.returns-clause-told
returns-clause-told g c = λ b before m told.
    let t = c.args.shared.now.table.shared.table_id in
    let Q = c.args.self.now.rewritten.now in
    let limits = c.args.self.now.limits in
    let lanes = c.args.lanes.now in
    let first = c.args.first in
    let counts : c.deref-2.result.now ≡ made_counts first.parts.items = c.deref-2.ensures.value ∙ c.in_ok-firsts.ensures ∙ ap made_counts c.deref.ensures.value in
    let rest = c.in_ok-rest.rest in
    let left = c.in_ok-rest.left in
    let Resting : List ℕ → Type 0 =
    λ ns. IsResting t (book c.args.pass) c.args.phase (call_count lanes) lanes ns rest.placed.items rest.parts.items left in
    let resting = subst Resting counts c.in_ok-rest.ensures.made in
    let sorted = c.in_ok-add_phase.ensures.placed in
    let whole = subst (λ (ns : List ℕ). AreWhole lanes ns rest.parts.items) counts c.in_ok-rest.ensures.whole in
    let gathered = m.joining.gathered in
    told_phase Q limits c.args.phase lanes first.placed.items rest.placed.items sorted.0 _ _ before _ _ told c.in_ok-rest.ensures.told sorted.1 sorted.3
    (lanes_rise c.args.phase lanes first.placed.items rest.placed.items gathered.tolds resting.over.tolds first.parts.items rest.parts.items gathered.parts_are resting.over.parts_are whole
    gathered.placed_are resting.over.placed_are)

pub one_after_another-requires-clause-ready : goal.one_after_another-requires-clause-ready
one_after_another-requires-clause-ready g c = c.requires.ready

pub one_after_another-requires-clause-calls : goal.one_after_another-requires-clause-calls
one_after_another-requires-clause-calls g c = c.requires.calls

pub one_after_another-requires-clause-few : goal.one_after_another-requires-clause-few
one_after_another-requires-clause-few g c = c.requires.few

pub one_after_another-requires-clause-lanes : goal.one_after_another-requires-clause-lanes
one_after_another-requires-clause-lanes g c = c.requires.lanes

pub one_after_another-requires-clause-attempts : goal.one_after_another-requires-clause-attempts
one_after_another-requires-clause-attempts g c = c.requires.attempts

pub one_after_another-requires-clause-room_size : goal.one_after_another-requires-clause-room_size
one_after_another-requires-clause-room_size g c = c.requires.room_size

pub one_after_another-requires-clause-rule : goal.one_after_another-requires-clause-rule
one_after_another-requires-clause-rule g c = c.requires.rule

pub one_after_another-requires-clause-states : goal.one_after_another-requires-clause-states
one_after_another-requires-clause-states g c = c.requires.states

pub one_after_another-requires-clause-used : goal.one_after_another-requires-clause-used
one_after_another-requires-clause-used g c = c.requires.used

pub one_after_another-requires-clause-gates : goal.one_after_another-requires-clause-gates
one_after_another-requires-clause-gates g c = c.requires.gates

pub returns-clause-used : goal.returns-clause-used
returns-clause-used g c = c.in_ok-rest.ensures.used

pub returns-in_err-firsts : goal.returns-in_err-firsts
returns-in_err-firsts g c =
    let none = c.from_residual.ensures.0 in
    record {
      whole = IfOk-from_err _ _ none;
      used = IfOk-from_err _ _ none;
      adds = λ _ _. IfOk-from_err _ _ none;
      told = λ _ _ _ _. IfOk-from_err _ _ none;
    }

pub returns-in_err-rest : goal.returns-in_err-rest
returns-in_err-rest g c =
    let none = c.from_residual-in_err-rest.ensures.0 in
    record {
      whole = IfOk-from_err _ _ none;
      used = IfOk-from_err _ _ none;
      adds = λ _ _. IfOk-from_err _ _ none;
      told = λ _ _ _ _. IfOk-from_err _ _ none;
    }

pub returns-in_err-add_phase : goal.returns-in_err-add_phase
returns-in_err-add_phase g c =
    let none = c.from_residual-in_err-add_phase.ensures.0 in
    record {
      whole = IfOk-from_err _ _ none;
      used = IfOk-from_err _ _ none;
      adds = λ _ _. IfOk-from_err _ _ none;
      told = λ _ _ _ _. IfOk-from_err _ _ none;
    }
