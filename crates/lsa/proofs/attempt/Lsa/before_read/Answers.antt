use Rattle.std.proofs.Common.{◌≡◌, ◌∙◌, ℕ, true, false, refl, sym, ap, arith}
use Rattle.tx_table.specs.Book.{Face, Map}
use Rattle.tx_table.specs.Plays.{keys}
use Rattle.tx_table.specs.Passes.{book}
use Rattle.tl2.specs.declared.attempt.At.TheVariants.{Looked}
use Rattle.tl2.proofs.Entries.{inside}
use Rattle.lsa.proofs.Owned.{holds_from, owning_on, taken_still, tells_here}
use Rattle.tl2.proofs.Stepping.{awaits_still}
use Rattle.lsa.proofs.Stepping.{standing, inside_stands, outside_stands, snapshot_still, stands_on, stands_lost}
use Rattle.lsa.proofs.attempt.Lsa.before_read.Goals as goal

pub look_free-requires-clause-own : goal.look_free-requires-clause-own
look_free-requires-clause-own g c =
    let e = c.args.self.now in
    tells_here e.stripes.items e.own e.writes.items (book e.pass) (e.owns (inside _ _ _ c.requires.2)) (holds_from e.stripes.items (book e.pass) e.sits.2) c.args.address (sym c.contains.ensures ∙ c.if-contains.false)

pub returns-in-Ok-clause-run : goal.returns-in-Ok-clause-run
returns-in-Ok-clause-run g c = λ h n r w s.
    let e = c.args.self.now in
    let within = inside _ _ _ c.requires.2 in
    standing refl (stands_on g.C.Calling.began e.shared.now.words e.at e.writes.items e.pass c.look_free.new.pass h n r w c.look_free.ensures.same (inside_stands within s) (Looked c.args.address) within c.in-Ok.ensures.ok.3)

pub returns-in-Ok-clause-snapshot : goal.returns-in-Ok-clause-snapshot
returns-in-Ok-clause-snapshot g c =
    let e = c.args.self.now in
    snapshot_still (g.T.Story.story e.shared.now.table.shared.key.story.value) (book e.pass) (book c.look_free.new.pass) c.in-Ok.ensures.ok.3.reads c.in-Ok.ensures.ok.3.regions

pub returns-in-Err-clause-run : goal.returns-in-Err-clause-run
returns-in-Err-clause-run g c = λ h n r w s.
    let e = c.args.self.now in
    outside_stands (stands_lost g.C.Calling.began e.shared.now.words e.at e.writes.items e.pass c.look_free.new.pass h n r w c.look_free.ensures.same (inside_stands (inside _ _ _ c.requires.2) s) c.in-Err.conflict
    (λ whole. let no : false ≡ true = c.in-Err.ensures.sole whole in cc no) c.in-Err.ensures.err)

pub returns-in-Err-clause-snapshot : goal.returns-in-Err-clause-snapshot
returns-in-Err-clause-snapshot g c =
    let e = c.args.self.now in
    snapshot_still (g.T.Story.story e.shared.now.table.shared.key.story.value) (book e.pass) (book c.look_free.new.pass) c.in-Err.ensures.err.meets.reads c.in-Err.ensures.err.regions

pub look_free-requires-clause-table : goal.look_free-requires-clause-table
look_free-requires-clause-table g c = c.args.self.now.sits.0

pub look_free-requires-clause-heap : goal.look_free-requires-clause-heap
look_free-requires-clause-heap g c = rw c.deref.ensures.value (omega (arith, c.if-address-self.false), (c.args.self.now.logged (inside _ _ _ c.requires.2)).1)

pub look_free-requires-clause-settled : goal.look_free-requires-clause-settled
look_free-requires-clause-settled g c = (c.args.self.now.settled (inside _ _ _ c.requires.2)).0

pub look_free-requires-clause-ready : goal.look_free-requires-clause-ready
look_free-requires-clause-ready g c = (c.args.self.now.sits.1, c.requires.0)

pub look_free-requires-clause-reads : goal.look_free-requires-clause-reads
look_free-requires-clause-reads g c = rw c.deref.ensures.value ((c.args.self.now.logged (inside _ _ _ c.requires.2)).0)

pub look_free-requires-clause-even : goal.look_free-requires-clause-even
look_free-requires-clause-even g c = (c.args.self.now.settled (inside _ _ _ c.requires.2)).1

pub invariant_of-self-in-Ok : goal.invariant_of-self-in-Ok
invariant_of-self-in-Ok g c =
    let e = c.args.self.now in
    let v = book e.pass in
    let w = book c.look_free.new.pass in
    let within = inside _ _ _ c.requires.2 in
    let on = c.in-Ok.ensures.ok.3 in
    let read = e.logged within in
    record {
      sits = (c.look_free.ensures.same.0 ∙ e.sits.0, ap (λ (f : Face). f.stage) on.face ∙ e.sits.1, taken_still e.stripes.items v w on.face e.sits.2);
      settled = λ _. (c.in-Ok.ensures.settled, on.even (e.settled within).1);
      logged = λ _. (read.0 ∙ ap (λ (m : Map ℕ). keys m) (sym on.reads), read.1);
      owns = λ _. owning_on e.stripes.items e.own e.writes.items v w on.face on.bound (e.owns within);
    }

pub returns-in-Ok-clause-awaits : goal.returns-in-Ok-clause-awaits
returns-in-Ok-clause-awaits g c = λ k used a.
    awaits_still (g.C.Calling.call c.args.self.now.call.value) (book c.args.self.now.pass) (book c.look_free.new.pass) c.in-Ok.ensures.ok.3.regions k used a

pub returns-in-Ok-clause-begins : goal.returns-in-Ok-clause-begins
returns-in-Ok-clause-begins g c = c.in-Ok.ensures.ok.3.begins

pub returns-in-Ok-clause-ticks : goal.returns-in-Ok-clause-ticks
returns-in-Ok-clause-ticks g c = c.in-Ok.ensures.ok.3.ticks

pub returns-in-Ok-clause-same : goal.returns-in-Ok-clause-same
returns-in-Ok-clause-same g c = (c.look_free.ensures.same, (c.in-Ok.ensures.ok.3.numbers, c.in-Ok.ensures.ok.3.fresh, c.in-Ok.ensures.ok.3.ticks, c.in-Ok.ensures.ok.3.regions))

pub invariant_of-self-in-Err : goal.invariant_of-self-in-Err
invariant_of-self-in-Err g c =
    let e = c.args.self.now in
    let face = c.in-Err.ensures.err.face in
    record {
      sits = (c.look_free.ensures.same.0 ∙ e.sits.0, ap (λ (f : Face). f.stage) face ∙ e.sits.1, taken_still e.stripes.items (book e.pass) (book c.look_free.new.pass) face e.sits.2);
      settled = λ z. absurd (z refl);
      logged = λ z. absurd (z refl);
      owns = λ z. absurd (z refl);
    }

pub returns-in-Err-clause-awaits : goal.returns-in-Err-clause-awaits
returns-in-Err-clause-awaits g c = λ k used a.
    awaits_still (g.C.Calling.call c.args.self.now.call.value) (book c.args.self.now.pass) (book c.look_free.new.pass) c.in-Err.ensures.err.regions k used a

pub returns-in-Err-clause-begins : goal.returns-in-Err-clause-begins
returns-in-Err-clause-begins g c = c.in-Err.ensures.err.begins

pub returns-in-Err-clause-ticks : goal.returns-in-Err-clause-ticks
returns-in-Err-clause-ticks g c = c.in-Err.ensures.err.ticks

pub returns-in-Err-clause-same : goal.returns-in-Err-clause-same
returns-in-Err-clause-same g c = (c.look_free.ensures.same, (c.in-Err.ensures.err.numbers, c.in-Err.ensures.err.fresh, c.in-Err.ensures.err.ticks, c.in-Err.ensures.err.regions))

pub returns-in-Err-clause-seen : goal.returns-in-Err-clause-seen
returns-in-Err-clause-seen g c = c.in-Err.ensures.err.meets

pub returns-in-Err-clause-address : goal.returns-in-Err-clause-address
returns-in-Err-clause-address g c = rw c.deref.ensures.value at c.in-Err.ensures.address

pub returns-in-Err-clause-sole : goal.returns-in-Err-clause-sole
returns-in-Err-clause-sole g c = c.in-Err.ensures.sole
