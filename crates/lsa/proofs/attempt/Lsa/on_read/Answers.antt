use Rattle.std.proofs.Common.{◌≡◌, ◌<◌, ◌%◌, ◌++◌, ◌∙◌, [], ◌∷◌, true, false, refl, sym, ap, subst, eqb-true, arith}
use Rattle.std.proofs.lemmas.Bool.Decides.{nat_tests}
use mathlib.Core.Option.{none}
use Rattle.tx_core.specs.declared.engine.Conflict.{Conflict}
use Rattle.tx_table.specs.Book.{Book, Face, lookup}
use Rattle.tx_table.specs.Plays.{value_in}
use Rattle.tx_table.specs.Passes.{book}
use Rattle.tl2.proofs.Entries.{inside}
use Rattle.tl2.proofs.Stepping.{awaits_still, open_logged, stands_logged}
use Rattle.lsa.specs.Conflicts.{Meets}
use Rattle.lsa.proofs.Extending.{lost_here}
use Rattle.lsa.proofs.Owned.{holds_from, own_word, free_when, taken_still, owning_logged, keys_logged}
use Rattle.lsa.proofs.Stepping.{akin_logged, standing, inside_stands, outside_stands, stands_own, stands_lost}
use Rattle.lsa.proofs.attempt.Lsa.on_read.Goals as goal

pub load_own-word-requires-clause-own : goal.load_own-word-requires-clause-own
load_own-word-requires-clause-own g c =
    let e = c.args.self.now in
    let owns = e.owns (inside _ _ _ c.requires.2) in
    (c.requires.0, e.sits.1, own_word e.stripes.items e.own e.writes.items (book e.pass) owns (holds_from e.stripes.items (book e.pass) e.sits.2) c.args.address (sym c.contains.ensures ∙ c.if-contains.true))

pub invariant_of-self-then-contains : goal.invariant_of-self-then-contains
invariant_of-self-then-contains g c =
    let e = c.args.self.now in
    let v = book e.pass in
    let w = book c.load_own-word.new.self in
    let room = c.if-not-log_read.ensures.logged in
    let low : c.args.address < e.shared.now.words = grind (arith, nat_tests) in
    let within = inside _ _ _ c.requires.2 in
    let step = c.load_own-word.ensures in
    let face = ap (λ (b : Book). b.face) step.book in
    record {
      sits = (step.same.0 ∙ e.sits.0, ap (λ (f : Face). f.stage) face ∙ e.sits.1, taken_still e.stripes.items v w face e.sits.2);
      settled = λ _. (step.settled, ap (λ (b : Book). b.bound) step.book ∙ (e.settled within).1 ∙ sym (ap (λ (b : Book). b.seen) step.book));
      logged = λ _. keys_logged v w c.args.address c.load_own-word.result step.book e.shared.now.words e.reads.items c.log_read.new.reads.items low room.1 (e.logged within);
      owns = λ _. owning_logged v w c.args.address c.load_own-word.result step.book e.stripes.items e.own e.writes.items (e.owns within);
    }

pub returns-then-contains-clause-run : goal.returns-then-contains-clause-run
returns-then-contains-clause-run g c = λ h n r w s.
    let e = c.args.self.now in
    let within = inside _ _ _ c.requires.2 in
    let t = stands_own g.C.Calling.began e.shared.now.words e.at e.writes.items e.pass c.load_own-word.new.self h n r w c.load_own-word.ensures.same (inside_stands within s) c.args.address c.load_own-word.result within
    (sym c.written.ensures ∙ c.in_default.is) c.load_own-word.ensures.book in
    (t.0, standing refl t.1)

pub invariant_of-self-in-Ok : goal.invariant_of-self-in-Ok
invariant_of-self-in-Ok g c =
    let e = c.args.self.now in
    let v = book e.pass in
    let w = book c.recheck.new.self in
    let within = inside _ _ _ c.requires.2 in
    let step = c.in-Ok.ensures in
    let face = ap (λ (b : Book). b.face) step.ok in
    let place = rw c.in-Loaded.is at c.requires.2 in
    let room = c.if-not-log_read-2.ensures.logged in
    let low : c.args.address < e.shared.now.words = rw (eqb-true c.in-Loaded.loaded.address c.args.address room.0) at place.0 in
    record {
      sits = (step.same.0 ∙ e.sits.0, ap (λ (f : Face). f.stage) face ∙ e.sits.1, taken_still e.stripes.items v w face e.sits.2);
      settled = λ _. (step.settled, ap (λ (b : Book). b.bound) step.ok ∙ (e.settled within).1 ∙ sym (ap (λ (b : Book). b.seen) step.ok));
      logged = λ _. keys_logged v w c.args.address (value_in v.look) step.ok e.shared.now.words e.reads.items c.log_read-2.new.reads.items low room.1 (e.logged within);
      owns = λ _. owning_logged v w c.args.address (value_in v.look) step.ok e.stripes.items e.own e.writes.items (e.owns within);
    }

pub returns-in-Ok-clause-run : goal.returns-in-Ok-clause-run
returns-in-Ok-clause-run g c = λ h n r w s.
    let e = c.args.self.now in
    let t = stands_logged g.C.Calling.began e.shared.now.words e.at e.writes.items e.pass c.recheck.new.self h n r w c.recheck.ensures.same (inside_stands (inside _ _ _ c.requires.2) s) c.in-Loaded.loaded
    c.args.address c.requires.2 c.in-Loaded.is (eqb-true c.in-Loaded.loaded.address c.args.address c.if-not-log_read-2.ensures.logged.0) (sym c.written.ensures ∙ c.in_default.is) c.in-Ok.ensures.ok in
    (t.0, standing refl t.1)

pub returns-in-Err-clause-run : goal.returns-in-Err-clause-run
returns-in-Err-clause-run g c = λ h n r w s.
    let e = c.args.self.now in
    let within = inside _ _ _ c.requires.2 in
    let free = free_when e.stripes.items e.own e.writes.items (book e.pass) (e.owns within) (holds_from e.stripes.items (book e.pass) e.sits.2) (c.args.address % 4096) (sym c.contains.ensures ∙ c.if-contains.false) in
    let f = c.in-Err.ensures in
    outside_stands (stands_lost g.C.Calling.began e.shared.now.words e.at e.writes.items e.pass c.recheck.new.self h n r w c.recheck.ensures.same (inside_stands within s) c.in-Err.conflict
    (λ whole. let no : false ≡ true = f.sole whole free in cc no)
    (lost_here (book e.pass) (book c.recheck.new.self) c.in-Err.conflict c.args.address f.conflict.0 f.conflict.1 f.past (f.other free) f.err.1))

pub returns-in-Err-clause-seen : goal.returns-in-Err-clause-seen
returns-in-Err-clause-seen g c = λ e q.
    let k = c.args.self.now in
    let within = inside _ _ _ c.requires.2 in
    let free = free_when k.stripes.items k.own k.writes.items (book k.pass) (k.owns within) (holds_from k.stripes.items (book k.pass) k.sits.2) (c.args.address % 4096) (sym c.contains.ensures ∙ c.if-contains.false) in
    let f = c.in-Err.ensures in
    let same : c.in-Err.conflict ≡ e = cc in
    let lost = lost_here (book k.pass) (book c.recheck.new.self) c.in-Err.conflict c.args.address f.conflict.0 f.conflict.1 f.past (f.other free) f.err.1 in
    subst (λ (d : Conflict). (d.address ≡ c.args.address) × Meets (book k.pass) (book c.recheck.new.self) d) same (f.conflict.0, lost.meets)

pub returns-in-Err-clause-sole : goal.returns-in-Err-clause-sole
returns-in-Err-clause-sole g c = λ whole.
    let e = c.args.self.now in
    let within = inside _ _ _ c.requires.2 in
    let free = free_when e.stripes.items e.own e.writes.items (book e.pass) (e.owns within) (holds_from e.stripes.items (book e.pass) e.sits.2) (c.args.address % 4096) (sym c.contains.ensures ∙ c.if-contains.false) in
    let no : false ≡ true = c.in-Err.ensures.sole whole free in
    cc no

pub returns-then-contains-clause-open : goal.returns-then-contains-clause-open
returns-then-contains-clause-open g c =
    let e = c.args.self.now in
    open_logged e.shared.now.words (g.C.Calling.call e.call.value) (book e.pass) (book c.load_own-word.new.self) c.args.address c.load_own-word.result c.load_own-word.ensures.book c.requires.0 c.requires.1

pub returns-then-contains-clause-awaits : goal.returns-then-contains-clause-awaits
returns-then-contains-clause-awaits g c = λ k used a.
    awaits_still (g.C.Calling.call c.args.self.now.call.value) (book c.args.self.now.pass) (book c.load_own-word.new.self) (ap (λ (b : Book). b.regions) c.load_own-word.ensures.book) k used a

pub returns-then-contains-clause-begins : goal.returns-then-contains-clause-begins
returns-then-contains-clause-begins g c = ap (λ (b : Book). b.begins) c.load_own-word.ensures.book

pub returns-then-contains-clause-ticks : goal.returns-then-contains-clause-ticks
returns-then-contains-clause-ticks g c = ap (λ (b : Book). b.ticks) c.load_own-word.ensures.book

pub returns-then-contains-clause-snapshot : goal.returns-then-contains-clause-snapshot
returns-then-contains-clause-snapshot g c = λ _. c.load_own-word.ensures.snapshot

pub returns-then-contains-clause-still : goal.returns-then-contains-clause-still
returns-then-contains-clause-still g c = λ _. c.load_own-word.ensures.snapshot

pub returns-then-contains-clause-same : goal.returns-then-contains-clause-same
returns-then-contains-clause-same g c =
    (c.load_own-word.ensures.same, akin_logged (book c.args.self.now.pass) (book c.load_own-word.new.self) c.args.address c.load_own-word.result c.load_own-word.ensures.book)

pub returns-in-Ok-clause-open : goal.returns-in-Ok-clause-open
returns-in-Ok-clause-open g c =
    let e = c.args.self.now in
    open_logged e.shared.now.words (g.C.Calling.call e.call.value) (book e.pass) (book c.recheck.new.self) c.args.address (value_in (book e.pass).look) c.in-Ok.ensures.ok c.requires.0 c.requires.1

pub returns-in-Ok-clause-awaits : goal.returns-in-Ok-clause-awaits
returns-in-Ok-clause-awaits g c = λ k used a.
    awaits_still (g.C.Calling.call c.args.self.now.call.value) (book c.args.self.now.pass) (book c.recheck.new.self) (ap (λ (b : Book). b.regions) c.in-Ok.ensures.ok) k used a

pub returns-in-Ok-clause-begins : goal.returns-in-Ok-clause-begins
returns-in-Ok-clause-begins g c = ap (λ (b : Book). b.begins) c.in-Ok.ensures.ok

pub returns-in-Ok-clause-ticks : goal.returns-in-Ok-clause-ticks
returns-in-Ok-clause-ticks g c = ap (λ (b : Book). b.ticks) c.in-Ok.ensures.ok

pub returns-in-Ok-clause-snapshot : goal.returns-in-Ok-clause-snapshot
returns-in-Ok-clause-snapshot g c = λ _. c.in-Ok.ensures.snapshot

pub returns-in-Ok-clause-still : goal.returns-in-Ok-clause-still
returns-in-Ok-clause-still g c = λ _. c.in-Ok.ensures.snapshot

pub returns-in-Ok-clause-same : goal.returns-in-Ok-clause-same
returns-in-Ok-clause-same g c =
    (c.recheck.ensures.same, akin_logged (book c.args.self.now.pass) (book c.recheck.new.self) c.args.address (value_in (book c.args.self.now.pass).look) c.in-Ok.ensures.ok)

pub invariant_of-self-in-Err : goal.invariant_of-self-in-Err
invariant_of-self-in-Err g c =
    let e = c.args.self.now in
    let face = ap (λ (b : Book). b.face) c.in-Err.ensures.err.1 in
    record {
      sits = (c.recheck.ensures.same.0 ∙ e.sits.0, ap (λ (f : Face). f.stage) face ∙ e.sits.1, taken_still e.stripes.items (book e.pass) (book c.recheck.new.self) face e.sits.2);
      settled = λ z. absurd (z refl);
      logged = λ z. absurd (z refl);
      owns = λ z. absurd (z refl);
    }

pub returns-in-Err-clause-awaits : goal.returns-in-Err-clause-awaits
returns-in-Err-clause-awaits g c = λ k used a.
    awaits_still (g.C.Calling.call c.args.self.now.call.value) (book c.args.self.now.pass) (book c.recheck.new.self) (ap (λ (b : Book). b.regions) c.in-Err.ensures.err.1) k used a

pub returns-in-Err-clause-begins : goal.returns-in-Err-clause-begins
returns-in-Err-clause-begins g c = ap (λ (b : Book). b.begins) c.in-Err.ensures.err.1

pub returns-in-Err-clause-ticks : goal.returns-in-Err-clause-ticks
returns-in-Err-clause-ticks g c = ap (λ (b : Book). b.ticks) c.in-Err.ensures.err.1

pub returns-in-Err-clause-same : goal.returns-in-Err-clause-same
returns-in-Err-clause-same g c =
    let e = c.in-Err.ensures.err.1 in
    (c.recheck.ensures.same, (ap (λ (b : Book). b.numbers) e, ap (λ (b : Book). b.fresh) e, ap (λ (b : Book). b.ticks) e, ap (λ (b : Book). b.regions) e))
