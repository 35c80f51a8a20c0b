use Rattle.std.proofs.Common.{[]}
use Rattle.tx_table.specs.Passes.{book}
use Rattle.tx_table.specs.Trials.{the_call}
use Rattle.tl2.specs.Standing.{Awaits}
use Rattle.tl2.proofs.Trials.{awaits_next, waits_more}
use Rattle.part_tests.proofs.attempts.lazy.tries.Goals as goal

pub changes_all-requires-clause-stands : goal.changes_all-requires-clause-stands
changes_all-requires-clause-stands g c =
    let s = c.requires.stands in
    (s.0, s.1, [], [], c.begin.ensures.run s.0 s.1 (c.set_call.ensures.stands s.0 s.1 s.2 s.3 s.4))

pub returns-in-Err-clause-stands : goal.returns-in-Err-clause-stands
returns-in-Err-clause-stands g c = let s = c.in-Err.ensures.stands in (s.0, s.1, [], [], c.rollback.ensures.run s.0 s.1 s.2 s.3 s.4)

pub commit-requires-clause-allowed : goal.commit-requires-clause-allowed
commit-requires-clause-allowed g c =
    let call = the_call c.args.lane c.args.index in
    let next = awaits_next c.args.lane c.args.index (book c.args.tx.now.pass) c.requires.waits in
    let set : Awaits (the_call c.set_call.new.self.call.value.lane c.set_call.new.self.call.value.index) (book c.set_call.new.self.pass) call 0 =
    rw (c.set_call.ensures.call, c.of.ensures, c.set_call.ensures.pass) next in
    let awaits = c.in_default.ensures.awaits call 0 (c.begin.ensures.awaits call 0 set) in
    let s = c.in_default.ensures.stands in
    record {
      history = s.0;
      conflicts = s.1;
      reads = s.2;
      writes = s.3;
      call = call;
      used = 0;
      stands = s.4;
      awaits = awaits;
      allowed = record { anywhere = λ stamp. c.requires.runs _; stays = λ q. c.of-3.ensures };
    }

pub returns-in-Ok-clause-stands : goal.returns-in-Ok-clause-stands
returns-in-Ok-clause-stands g c =
    let call = the_call c.args.lane c.args.index in
    let next = awaits_next c.args.lane c.args.index (book c.args.tx.now.pass) c.requires.waits in
    let set : Awaits (the_call c.set_call.new.self.call.value.lane c.set_call.new.self.call.value.index) (book c.set_call.new.self.pass) call 0 =
    rw (c.set_call.ensures.call, c.of.ensures, c.set_call.ensures.pass) next in
    let awaits = c.in_default.ensures.awaits call 0 (c.begin.ensures.awaits call 0 set) in
    let s = c.in_default.ensures.stands in
    let run = c.in-Ok.ensures.run s.0 s.1 s.2 s.3 s.4 in
    (_, s.1, [], [], run.1 call 0 awaits (record { anywhere = λ stamp. c.requires.runs _; stays = λ q. c.of-3.ensures }))

pub returns-in-Ok-clause-waits : goal.returns-in-Ok-clause-waits
returns-in-Ok-clause-waits g c =
    let call = the_call c.args.lane c.args.index in
    let next = awaits_next c.args.lane c.args.index (book c.args.tx.now.pass) c.requires.waits in
    let set : Awaits (the_call c.set_call.new.self.call.value.lane c.set_call.new.self.call.value.index) (book c.set_call.new.self.pass) call 0 =
    rw (c.set_call.ensures.call, c.of.ensures, c.set_call.ensures.pass) next in
    let awaits = c.in_default.ensures.awaits call 0 (c.begin.ensures.awaits call 0 set) in
    waits_more c.args.lane c.args.index _ (book c.changes_all.new.tx.pass) (book c.commit.new.self.pass) c.of-3.ensures (c.in-Ok.ensures.region call 0 awaits)

pub returns-in-Err-commit-clause-stands : goal.returns-in-Err-commit-clause-stands
returns-in-Err-commit-clause-stands g c =
    let s = c.in_default.ensures.stands in
    (s.0, _, [], [], c.in-Err-commit.ensures.run s.0 s.1 s.2 s.3 s.4)
