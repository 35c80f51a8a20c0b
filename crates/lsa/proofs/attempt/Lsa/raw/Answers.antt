use Rattle.std.proofs.Common.{refl, sym, ap, ◌∙◌, arith}
use Rattle.tl2.specs.declared.attempt.At.TheVariants.{Loaded}
use Rattle.jmodel.specs.history.Log.{access}
use Rattle.tx_table.specs.Book.{Book, Face}
use Rattle.tx_table.specs.Plays.{keys}
use Rattle.tx_table.specs.Passes.{book}
use Rattle.tl2.proofs.Entries.{inside}
use Rattle.tl2.proofs.Stepping.{awaits_still, loaded_is, open_loaded, snapshot_loaded, stands_loaded}
use Rattle.lsa.proofs.Owned.{owning_on, taken_still}
use Rattle.lsa.proofs.Stepping.{standing, inside_stands}
use Rattle.lsa.proofs.attempt.Lsa.raw.Goals as goal

pub returns-clause-run : goal.returns-clause-run
returns-clause-run g c = λ h n r w s.
    let e = c.args.self.now in
    standing refl (stands_loaded g.C.Calling.began e.shared.now.words e.at e.writes.items e.pass c.load-word.new.self h n r w c.load-word.ensures.same (inside_stands (inside _ _ _ c.requires.2) s)
    (Loaded (access c.args.address c.load-word.result)) c.args.address c.in-Looked.looked c.load-word.result c.requires.2 c.in-Looked.is c.load-word.ensures.book)

pub returns-clause-snapshot : goal.returns-clause-snapshot
returns-clause-snapshot g c = λ s.
    let e = c.args.self.now in
    snapshot_loaded (g.T.Story.story e.shared.now.table.shared.key.story.value) (book e.pass).look (book e.pass) (book c.load-word.new.self) c.args.address c.load-word.result c.load-word.ensures.book s

pub load-word-requires-clause-table : goal.load-word-requires-clause-table
load-word-requires-clause-table g c = c.args.self.now.sits.0

pub load-word-requires-clause-settled : goal.load-word-requires-clause-settled
load-word-requires-clause-settled g c = (c.args.self.now.settled (inside _ _ _ c.requires.2)).0

pub invariant_of-self : goal.invariant_of-self
invariant_of-self g c =
    let e = c.args.self.now in
    let step = (loaded_is e.shared.now.words e.at (book e.pass) (book c.load-word.new.self) c.args.address c.in-Looked.looked c.load-word.result c.requires.2 c.in-Looked.is c.load-word.ensures.book).1 in
    let v = book e.pass in
    let w = book c.load-word.new.self in
    let face = ap (λ (b : Book). b.face) step in
    let bound = ap (λ (b : Book). b.bound) step in
    let within = inside _ _ _ c.requires.2 in
    let read = e.logged within in
    record {
      sits = (c.load-word.ensures.same.0 ∙ e.sits.0, ap (λ (f : Face). f.stage) face ∙ e.sits.1, taken_still e.stripes.items v w face e.sits.2);
      settled = λ _. (c.load-word.ensures.settled, bound ∙ (e.settled within).1 ∙ sym (ap (λ (b : Book). b.seen) step));
      logged = λ _. (read.0 ∙ sym (ap (λ (b : Book). keys b.reads) step), read.1);
      owns = λ _. owning_on e.stripes.items e.own e.writes.items v w face (omega arith) (e.owns within);
    }

pub returns-clause-open : goal.returns-clause-open
returns-clause-open g c =
    let e = c.args.self.now in
    open_loaded e.shared.now.words e.at (g.C.Calling.call e.call.value) (book e.pass) (book c.load-word.new.self) c.args.address c.in-Looked.looked c.load-word.result c.requires.2 c.in-Looked.is c.if-looked-address.false
    c.load-word.ensures.book c.requires.0 c.requires.1

pub returns-clause-awaits : goal.returns-clause-awaits
returns-clause-awaits g c = λ k used a.
    let e = c.args.self.now in
    let step = (loaded_is e.shared.now.words e.at (book e.pass) (book c.load-word.new.self) c.args.address c.in-Looked.looked c.load-word.result c.requires.2 c.in-Looked.is c.load-word.ensures.book).1 in
    awaits_still (g.C.Calling.call e.call.value) (book e.pass) (book c.load-word.new.self) (ap (λ (b : Book). b.regions) step) k used a

pub returns-clause-begins : goal.returns-clause-begins
returns-clause-begins g c =
    let e = c.args.self.now in
    let step = (loaded_is e.shared.now.words e.at (book e.pass) (book c.load-word.new.self) c.args.address c.in-Looked.looked c.load-word.result c.requires.2 c.in-Looked.is c.load-word.ensures.book).1 in
    ap (λ (b : Book). b.begins) step

pub returns-clause-ticks : goal.returns-clause-ticks
returns-clause-ticks g c =
    let e = c.args.self.now in
    let step = (loaded_is e.shared.now.words e.at (book e.pass) (book c.load-word.new.self) c.args.address c.in-Looked.looked c.load-word.result c.requires.2 c.in-Looked.is c.load-word.ensures.book).1 in
    ap (λ (b : Book). b.ticks) step

pub returns-clause-same : goal.returns-clause-same
returns-clause-same g c =
    let e = c.args.self.now in
    let step = (loaded_is e.shared.now.words e.at (book e.pass) (book c.load-word.new.self) c.args.address c.in-Looked.looked c.load-word.result c.requires.2 c.in-Looked.is c.load-word.ensures.book).1 in
    (c.load-word.ensures.same, (ap (λ (b : Book). b.numbers) step, ap (λ (b : Book). b.fresh) step, ap (λ (b : Book). b.ticks) step, ap (λ (b : Book). b.regions) step))
