use Rattle.std.proofs.Common.{◌+◌}
use Rattle.tl2.specs.Trials.{StandsSomehow}
use Rattle.tl2.proofs.Trials.{either_way}
use Rattle.part_tests.proofs.attempts.changes.Goals as goal

pub returns-in-Err-clause-stands : goal.returns-in-Err-clause-stands
returns-in-Err-clause-stands g c = let s = c.requires.stands in (s.0, s.1 + 1, s.2, s.3, c.in-Err.ensures.run s.0 s.1 s.2 s.3 s.4)

pub returns-in_err-word-clause-stands : goal.returns-in_err-word-clause-stands
returns-in_err-word-clause-stands g c =
    let s = c.requires.stands in
    let raw = c.raw-raw.ensures.run s.0 s.1 s.2 s.3 (c.in_default.ensures.run s.0 s.1 s.2 s.3 s.4) in
    (s.0, _, s.2, s.3, c.in_err-word.ensures.run s.0 s.1 s.2 s.3 raw)

pub returns-clause-stands : goal.returns-clause-stands
returns-clause-stands g c =
    let s = c.requires.stands in
    let raw = c.raw-raw.ensures.run s.0 s.1 s.2 s.3 (c.in_default.ensures.run s.0 s.1 s.2 s.3 s.4) in
    let read = c.in_ok-word.ensures.run s.0 s.1 s.2 s.3 raw in
    either_way {X = StandsSomehow c.on_write.new.self.shared.now.words c.on_write.new.self.at c.on_write.new.self.writes.items c.on_write.new.self.pass} c.on_write.result (c.on_write.ensures.run s.0 s.1 _ s.3 read.1) (λ a st. (s.0, s.1, _, _, st)) (λ e st. (s.0, _, _, s.3, st))

pub returns-in_err-word-clause-awaits : goal.returns-in_err-word-clause-awaits
returns-in_err-word-clause-awaits g c = λ k used a. c.in_err-word.ensures.awaits k used (c.raw-raw.ensures.awaits k used (c.in_default.ensures.awaits k used a))

pub returns-clause-awaits : goal.returns-clause-awaits
returns-clause-awaits g c = λ k used a. c.on_write.ensures.awaits k used (c.in_ok-word.ensures.awaits k used (c.raw-raw.ensures.awaits k used (c.in_default.ensures.awaits k used a)))
