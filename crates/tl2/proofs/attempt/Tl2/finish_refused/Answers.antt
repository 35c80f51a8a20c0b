use Rattle.std.proofs.Common.{false, refl}
use Rattle.tx_table.specs.Passes.{book}
use Rattle.tl2.proofs.Entries.{reader_fits, reader_region, adds_reader, inside}
use Rattle.tl2.proofs.attempt.Tl2.finish_refused.Goals as goal

pub finish_with-stamp-requires : goal.finish_with-stamp-requires
finish_with-stamp-requires g c κs within =
    let v = book c.args.self.now.pass in
    let m = c.requires.allowed in
    let o = c.requires.open in
    let story = g.T.Story.story c.args.self.now.shared.now.table.shared.key.story.value in
    let runs = g.met.T.Ruled.keeps c.args.self.now.shared.now.table.shared.key.story.value _ (m.allowed.anywhere (record { at = v.bound; update = false })) in
    (within, (c.args.self.now.sits.0, ((o.0, c.args.self.now.sits.2), (reader_fits story (g.C.Calling.call c.args.self.now.call.value) v m.call m.used m.reads c.args.answer.value o.1 m.awaits (m.stands.reads (inside _ _ _ o.2)) runs, c.args.self.now.settled (inside _ _ _ o.2)))))

pub returns-clause-run : goal.returns-clause-run
returns-clause-run g c = λ h n r w s.
    let p = c.args.self.now.pass in
    let o = c.requires.open in
    let step = c.finish_with-stamp.ensures in
    rw (step.stamp, c.clear.ensures.items) (
      ((λ q. cc), (λ q. absurd (q refl))),
      adds_reader g.C.Calling.began c.args.self.now.shared.now.words (g.C.Calling.call c.args.self.now.call.value) g.T.Ruled.rule c.args.self.now.at c.args.self.now.writes.items p c.finish_with-stamp.new.pass h n r w c.args.answer.value o.1 (inside _ _ _ o.2) step.same step.book s,
    )

pub returns-clause-region : goal.returns-clause-region
returns-clause-region g c = λ k used a.
    rw c.finish_with-stamp.ensures.book (reader_region (g.C.Calling.call c.args.self.now.call.value) (book c.args.self.now.pass) c.args.answer.value k used c.requires.open.1 a)
