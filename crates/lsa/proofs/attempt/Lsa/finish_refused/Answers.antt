use Rattle.std.proofs.Common.{false, ◌∙◌, refl, ap}
use Rattle.tx_table.specs.Book.{Book}
use Rattle.tx_table.specs.Passes.{book}
use Rattle.tl2.proofs.Entries.{reader_fits, adds_reader, inside}
use Rattle.lsa.proofs.Owned.{holds_from}
use Rattle.tl2.proofs.Stepping.{awaits_still}
use Rattle.lsa.proofs.Stepping.{inside_stands, outside_stands, stands_resting}
use Rattle.lsa.proofs.attempt.Lsa.finish_refused.Goals as goal

pub give_back_reading-requires-clause-held : goal.give_back_reading-requires-clause-held
give_back_reading-requires-clause-held g c = rw c.deref.ensures.value (holds_from c.args.self.now.stripes.items (book c.args.self.now.pass) c.args.self.now.sits.2)

pub finish_with-stamp-requires : goal.finish_with-stamp-requires
finish_with-stamp-requires g c κs within =
    let e = c.args.self.now in
    let v = book e.pass in
    let u = book c.give_back_reading.new.pass in
    let back = c.give_back_reading.ensures in
    let m = c.requires.allowed in
    let o = c.requires.open in
    let here = inside _ _ _ o.2 in
    let story = g.T.Story.story e.shared.now.table.shared.key.story.value in
    let runs = g.met.T.Ruled.keeps e.shared.now.table.shared.key.story.value _ (m.allowed.anywhere (record { at = u.bound; update = false })) in
    let named = g.C.Calling.call e.call.value in (
      within,
      (
        back.same.0 ∙ e.sits.0,
        (
          back.ready,
          (
            reader_fits story named u m.call m.used m.reads c.args.answer.value (back.rest.call ∙ o.1) (awaits_still named v u back.rest.regions m.call m.used m.awaits) (back.rest.reads ∙ (inside_stands here m.stands).reads here) runs,
            back.settled,
          ),
        ),
      ),
    )

pub returns-clause-run : goal.returns-clause-run
returns-clause-run g c = λ h n r w s.
    let e = c.args.self.now in
    let p = c.give_back_reading.new.pass in
    let back = c.give_back_reading.ensures in
    let o = c.requires.open in
    let here = inside _ _ _ o.2 in
    let step = c.finish_with-stamp.ensures in
    let named = g.C.Calling.call e.call.value in
    let before = stands_resting g.C.Calling.began e.shared.now.words e.at e.writes.items e.pass p h n r w back.same (inside_stands here s) here back.seen back.rest in
    rw step.stamp (
      ((λ q. cc), (λ q. absurd (q refl))),
      λ k used a may.
          outside_stands (adds_reader g.C.Calling.began e.shared.now.words named g.T.Ruled.rule e.at e.writes.items p c.finish_with-stamp.new.pass h n r w c.args.answer.value (back.rest.call ∙ o.1) here step.same step.book before
          k used (awaits_still named (book e.pass) (book p) back.rest.regions k used a) may),
    )

pub returns-clause-wants : goal.returns-clause-wants
returns-clause-wants g c = ap (λ (b : Book). b.wants) c.finish_with-stamp.ensures.book ∙ c.give_back_reading.ensures.wants
