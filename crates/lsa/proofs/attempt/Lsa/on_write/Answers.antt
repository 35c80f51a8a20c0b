use Rattle.std.proofs.Common.{◌≡◌, ◌<◌, ◌++◌, ◌-◌, ◌∙◌, ℕ, true, false, List, [], ◌∷◌, length, take, refl, sym, ap, subst, arith}
use Rattle.std.proofs.lemmas.List.{length_push}
use Rattle.jmodel.specs.declared.access.Access.{Access}
use Rattle.jmodel.specs.history.Log.{access}
use Rattle.tx_table.specs.Book.{Book, Face, Map}
use Rattle.tx_table.specs.Plays.{keys}
use Rattle.tx_table.specs.Passes.{book}
use Rattle.tl2.specs.declared.plan.Stripe.{Stripe}
use Rattle.tl2.specs.declared.attempt.At.TheVariants.{Inside}
use Rattle.tl2.proofs.Entries.{inside}
use Rattle.lsa.specs.Owning.{HasTaken}
use Rattle.lsa.proofs.Owned.{holds_from, holds_to, holds_taken, owning_taken, owning_wrote, take_last, taken_still, tells_more}
use Rattle.tl2.proofs.Stepping.{awaits_still, stands_wrote}
use Rattle.lsa.proofs.Stepping.{standing, inside_stands, outside_stands, snapshot_still, stands_taken, stands_lost}
use Rattle.lsa.proofs.attempt.Lsa.on_write.Goals as goal

pub returns-then-contains-clause-run : goal.returns-then-contains-clause-run
returns-then-contains-clause-run g c = λ h n r w s.
    let e = c.args.self.now in
    let low : c.args.address < e.shared.now.words = omega (arith, c.if-address-self.false) in
    standing refl (stands_wrote g.C.Calling.began e.shared.now.words e.at e.writes.items c.push.new.self.items e.pass h n r w (access c.args.address c.args.word) low c.in-Ok.ensures.items (inside_stands (inside _ _ _ c.requires.2) s))

pub invariant_of-self-then-contains : goal.invariant_of-self-then-contains
invariant_of-self-then-contains g c =
    let e = c.args.self.now in
    record {
      sits = e.sits;
      settled = e.settled;
      logged = e.logged;
      owns = λ z. owning_wrote e.stripes.items e.own e.writes.items c.push.new.self.items (book e.pass) (access c.args.address c.args.word) c.in-Ok.ensures.items (sym c.contains.ensures ∙ c.if-contains.true) (e.owns z);
    }

pub take_free-requires-clause-own : goal.take_free-requires-clause-own
take_free-requires-clause-own g c =
    let e = c.args.self.now in
    tells_more e.stripes.items e.own e.writes.items (book e.pass) (e.owns (inside _ _ _ c.requires.2)) (holds_from e.stripes.items (book e.pass) e.sits.2) c.make_room.new.own c.args.address
    (sym c.contains.ensures ∙ c.if-contains.false) c.in-Ok-make_room.ensures.own

pub invariant_of-self-in-Ok-take_free : goal.invariant_of-self-in-Ok-take_free
invariant_of-self-in-Ok-take_free g c =
    let e = c.args.self.now in
    let v = book e.pass in
    let w = book c.take_free.new.pass in
    let within = inside _ _ _ c.requires.2 in
    let t = c.in-Ok-take_free.ensures.ok in
    let l : Access = access c.args.address c.args.word in
    let place : Stripe = record { address = c.args.address; was_read = false; word = c.in-Ok-take_free.old } in
    let push = c.fill_last.ensures e.stripes.items (record { address = c.args.address; was_read = false; word = 0 }) c.in-Ok-make_room.ensures.ok in
    let free = sym c.contains.ensures ∙ c.if-contains.false in
    let owns = e.owns within in
    let holds = holds_from e.stripes.items v e.sits.2 in
    let taken = holds_taken e.stripes.items c.fill_last.new.stripes.items e.own c.make_room.new.own e.writes.items c.push.new.self.items v w l c.in-Ok-take_free.old place c.in-Ok.ensures.items free
    c.in-Ok-make_room.ensures.own t owns holds refl refl push in
    let read = e.logged within in
    record {
      sits = (
        c.take_free.ensures.same.0 ∙ e.sits.0,
        ap (λ (b : Book). b.face.stage) t.took ∙ ap (λ (f : Face). f.stage) t.on.face ∙ e.sits.1,
        holds_to c.fill_last.new.stripes.items w taken,
      );
      settled = λ z. (c.in-Ok-take_free.ensures.settled, ap (λ (b : Book). b.bound) t.took ∙ t.on.even (e.settled within).1 ∙ sym (ap (λ (b : Book). b.seen) t.took));
      logged = λ z. (read.0 ∙ ap (λ (m : Map ℕ). keys m) (sym (ap (λ (b : Book). b.reads) t.took ∙ t.on.reads)), read.1);
      owns = λ z. owning_taken e.stripes.items c.fill_last.new.stripes.items e.own c.make_room.new.own e.writes.items c.push.new.self.items v w l c.in-Ok-take_free.old place c.in-Ok.ensures.items free
          c.in-Ok-make_room.ensures.own t owns holds refl refl push;
    }

pub returns-in-Ok-take_free-clause-run : goal.returns-in-Ok-take_free-clause-run
returns-in-Ok-take_free-clause-run g c = λ h n r w s.
    let e = c.args.self.now in
    let within = inside _ _ _ c.requires.2 in
    let low : c.args.address < e.shared.now.words = omega (arith, c.if-address-self.false) in
    let taken = stands_taken g.C.Calling.began e.shared.now.words e.at e.writes.items e.pass c.take_free.new.pass h n r w c.take_free.ensures.same (inside_stands within s) Inside c.args.address c.in-Ok-take_free.old within
    c.in-Ok-take_free.ensures.ok in
    standing refl (stands_wrote g.C.Calling.began e.shared.now.words Inside e.writes.items c.push.new.self.items c.take_free.new.pass h n r w (access c.args.address c.args.word) low c.in-Ok.ensures.items taken)

pub returns-in-Ok-take_free-clause-snapshot : goal.returns-in-Ok-take_free-clause-snapshot
returns-in-Ok-take_free-clause-snapshot g c =
    let e = c.args.self.now in
    let t = c.in-Ok-take_free.ensures.ok in
    snapshot_still (g.T.Story.story e.shared.now.table.shared.key.story.value) (book e.pass) (book c.take_free.new.pass) (ap (λ (b : Book). b.reads) t.took ∙ t.on.reads) (ap (λ (b : Book). b.regions) t.took ∙ t.on.regions)

pub invariant_of-self-in-Err : goal.invariant_of-self-in-Err
invariant_of-self-in-Err g c =
    let e = c.args.self.now in
    let v = book e.pass in
    let w = book c.take_free.new.pass in
    let face = c.in-Err.ensures.err.face in
    let ss = e.stripes.items in
    let more = c.make_room.new.stripes in
    let place : Stripe = record { address = c.args.address; was_read = false; word = 0 } in
    let made : more.items ≡ ss ++ place ∷ [] = c.in-Ok-make_room.ensures.ok in
    let many : more.len - 1 ≡ length ss = omega (arith, more.ok.0, ap (λ (xs : List Stripe). length xs) made, length_push ss place) in
    let left : c.pop.new.self.items ≡ ss = c.pop.ensures.rest ∙ ap (λ (n : ℕ). take n more.items) many ∙ ap (take (length ss)) made ∙ take_last ss place in
    record {
      sits = (c.take_free.ensures.same.0 ∙ e.sits.0, ap (λ (f : Face). f.stage) face ∙ e.sits.1, subst (λ (xs : List Stripe). HasTaken xs w) (sym left) (taken_still ss v w face e.sits.2));
      settled = λ z. absurd (z refl);
      logged = λ z. absurd (z refl);
      owns = λ z. absurd (z refl);
    }

pub returns-in-Err-clause-run : goal.returns-in-Err-clause-run
returns-in-Err-clause-run g c = λ h n r w s.
    let e = c.args.self.now in
    outside_stands (stands_lost g.C.Calling.began e.shared.now.words e.at e.writes.items e.pass c.take_free.new.pass h n r w c.take_free.ensures.same (inside_stands (inside _ _ _ c.requires.2) s) c.in-Err.conflict
    (λ whole. let no : false ≡ true = c.in-Err.ensures.sole whole in cc no) c.in-Err.ensures.err)

pub returns-in-Err-clause-snapshot : goal.returns-in-Err-clause-snapshot
returns-in-Err-clause-snapshot g c =
    let e = c.args.self.now in
    snapshot_still (g.T.Story.story e.shared.now.table.shared.key.story.value) (book e.pass) (book c.take_free.new.pass) c.in-Err.ensures.err.meets.reads c.in-Err.ensures.err.regions

pub take_free-requires-clause-table : goal.take_free-requires-clause-table
take_free-requires-clause-table g c = c.args.self.now.sits.0

pub take_free-requires-clause-heap : goal.take_free-requires-clause-heap
take_free-requires-clause-heap g c = rw c.deref.ensures.value (omega (arith, c.if-address-self.false), (c.args.self.now.logged (inside _ _ _ c.requires.2)).1)

pub take_free-requires-clause-settled : goal.take_free-requires-clause-settled
take_free-requires-clause-settled g c = (c.args.self.now.settled (inside _ _ _ c.requires.2)).0

pub take_free-requires-clause-ready : goal.take_free-requires-clause-ready
take_free-requires-clause-ready g c = (c.args.self.now.sits.1, c.requires.0)

pub take_free-requires-clause-reads : goal.take_free-requires-clause-reads
take_free-requires-clause-reads g c = rw c.deref.ensures.value ((c.args.self.now.logged (inside _ _ _ c.requires.2)).0)

pub take_free-requires-clause-even : goal.take_free-requires-clause-even
take_free-requires-clause-even g c = (c.args.self.now.settled (inside _ _ _ c.requires.2)).1

pub returns-in-Ok-take_free-clause-awaits : goal.returns-in-Ok-take_free-clause-awaits
returns-in-Ok-take_free-clause-awaits g c = λ k used a.
    awaits_still (g.C.Calling.call c.args.self.now.call.value) (book c.args.self.now.pass) (book c.take_free.new.pass) (ap (λ (b : Book). b.regions) c.in-Ok-take_free.ensures.ok.took ∙ c.in-Ok-take_free.ensures.ok.on.regions) k used a

pub returns-in-Ok-take_free-clause-begins : goal.returns-in-Ok-take_free-clause-begins
returns-in-Ok-take_free-clause-begins g c = ap (λ (b : Book). b.begins) c.in-Ok-take_free.ensures.ok.took ∙ c.in-Ok-take_free.ensures.ok.on.begins

pub returns-in-Ok-take_free-clause-ticks : goal.returns-in-Ok-take_free-clause-ticks
returns-in-Ok-take_free-clause-ticks g c = ap (λ (b : Book). b.ticks) c.in-Ok-take_free.ensures.ok.took ∙ c.in-Ok-take_free.ensures.ok.on.ticks

pub returns-in-Ok-take_free-clause-same : goal.returns-in-Ok-take_free-clause-same
returns-in-Ok-take_free-clause-same g c =
    let t = c.in-Ok-take_free.ensures.ok in
    (c.take_free.ensures.same, (ap (λ (b : Book). b.numbers) t.took ∙ t.on.numbers, ap (λ (b : Book). b.fresh) t.took ∙ t.on.fresh, ap (λ (b : Book). b.ticks) t.took ∙ t.on.ticks, ap (λ (b : Book). b.regions) t.took ∙ t.on.regions))

pub returns-in-Err-clause-awaits : goal.returns-in-Err-clause-awaits
returns-in-Err-clause-awaits g c = λ k used a.
    awaits_still (g.C.Calling.call c.args.self.now.call.value) (book c.args.self.now.pass) (book c.take_free.new.pass) c.in-Err.ensures.err.regions k used a

pub returns-in-Err-clause-begins : goal.returns-in-Err-clause-begins
returns-in-Err-clause-begins g c = c.in-Err.ensures.err.begins

pub returns-in-Err-clause-ticks : goal.returns-in-Err-clause-ticks
returns-in-Err-clause-ticks g c = c.in-Err.ensures.err.ticks

pub returns-in-Err-clause-same : goal.returns-in-Err-clause-same
returns-in-Err-clause-same g c = (c.take_free.ensures.same, (c.in-Err.ensures.err.numbers, c.in-Err.ensures.err.fresh, c.in-Err.ensures.err.ticks, c.in-Err.ensures.err.regions))
