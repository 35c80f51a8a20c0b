use Rattle.std.proofs.Common.{suc, refl, subst, sym, arith}
use Rattle.std.specs.List.{AllByRecursion}
use Rattle.std.proofs.lemmas.List.{take_rest, length-drop}
use Rattle.session.specs.Rule.{IsCallOf}
use Rattle.driver.proofs.Lists.{all_drop}
use Rattle.driver.proofs.States.{over_lane}
use Rattle.driver.proofs.Rooms.{room_fits}
use Rattle.driver.proofs.run.Runner.make_rest.Goals as goal

pub make_shared-requires-clause-calls : goal.make_shared-requires-clause-calls
make_shared-requires-clause-calls g c =
    let calls = c.args.calls.now in
    subst (AllByRecursion (IsCallOf c.args.self.now.original.now)) (sym (take_rest calls c.args.at.first))
    (all_drop (IsCallOf c.args.self.now.original.now) c.args.at.first calls c.requires.calls)

pub make_shared-requires-clause-few : goal.make_shared-requires-clause-few
make_shared-requires-clause-few g c = rw take_rest (omega (arith, length-drop c.args.at.first c.args.calls.now))

pub make_shared-requires-clause-fits : goal.make_shared-requires-clause-fits
make_shared-requires-clause-fits g c =
    room_fits c.args.limits.room (suc c.args.at.lane) c.args.limits.room.size c.requires.region refl (omega arith) c.requires.room_size

pub make_shared-requires-clause-states : goal.make_shared-requires-clause-states
make_shared-requires-clause-states g c =
    over_lane c.args.self.now.original.now c.args.limits.room.size c.args.limits.budget g.K.Keeping.words g.K.Keeping.used g.K.Keeping.rule _ c.args.limits c.args.at.lane c.requires.states refl refl c.requires.region

pub make_shared-requires-clause-pass : goal.make_shared-requires-clause-pass
make_shared-requires-clause-pass g c = rw take_rest c.requires.pass

pub returns-clause-made : goal.returns-clause-made
returns-clause-made g c = rw take_rest at c.make_shared.ensures.made

pub returns-clause-all : goal.returns-clause-all
returns-clause-all g c = rw take_rest at c.make_shared.ensures.all

pub returns-clause-told : goal.returns-clause-told
returns-clause-told g c = rw take_rest at c.make_shared.ensures.told
