use Rattle.std.proofs.Common.{ℕ, ◌%◌, sym, ap, ◌∙◌}
use Rattle.tl2.specs.declared.attempt.At.TheVariants.{Loaded}
use Rattle.jmodel.specs.history.Log.{access}
use Rattle.tx_table.specs.Book.{Book, Face, Had}
use Rattle.tx_table.specs.Plays.{keys}
use Rattle.tx_table.specs.Passes.{book}
use Rattle.tl2.proofs.Entries.{inside}
use Rattle.tl2.proofs.Stepping.{awaits_still, kin_looking, loaded_is, open_loaded, snapshot_loaded, stands_loaded}
use Rattle.tl2.proofs.attempt.Tl2.raw.Goals as goal

pub returns-clause-run : goal.returns-clause-run
returns-clause-run g c = λ h n r w s.
    let e = c.args.self.now in
    stands_loaded g.C.Calling.began e.shared.now.words e.at e.writes.items e.pass c.load-word.new.self h n r w c.load-word.ensures.same s
    (Loaded (access c.args.address c.load-word.result)) c.args.address c.in-Looked.looked c.load-word.result c.requires.2 c.in-Looked.is c.load-word.ensures.book

pub returns-clause-snapshot : goal.returns-clause-snapshot
returns-clause-snapshot g c = λ s.
    let e = c.args.self.now in
    snapshot_loaded (g.T.Story.story e.shared.now.table.shared.key.story.value) (book e.pass).look (book e.pass) (book c.load-word.new.self) c.args.address c.load-word.result c.load-word.ensures.book s

pub load-word-requires-clause-table : goal.load-word-requires-clause-table
load-word-requires-clause-table g c = c.args.self.now.sits.0

pub load-word-requires-clause-settled : goal.load-word-requires-clause-settled
load-word-requires-clause-settled g c = c.args.self.now.settled (inside _ _ _ c.requires.2)

pub invariant_of-self : goal.invariant_of-self
invariant_of-self g c =
    let e = c.args.self.now in
    let step = (loaded_is e.shared.now.words e.at (book e.pass) (book c.load-word.new.self) c.args.address c.in-Looked.looked c.load-word.result c.requires.2 c.in-Looked.is c.load-word.ensures.book).1 in
    let face = ap (λ (b : Book). b.face) step in
    let read = e.logged (inside _ _ _ c.requires.2) in
    record {
      sits = (c.load-word.ensures.same.0 ∙ e.sits.0, ap (λ (f : Face). f.held) face ∙ e.sits.1, ap (λ (f : Face). f.stage) face ∙ e.sits.2);
      settled = λ _. c.load-word.ensures.settled;
      logged = λ _. (read.0 ∙ sym (ap (λ (b : Book). keys b.reads) step), read.1);
    }

pub returns-clause-open : goal.returns-clause-open
returns-clause-open g c =
    let e = c.args.self.now in
    open_loaded e.shared.now.words e.at (g.C.Calling.call e.call.value) (book e.pass) (book c.load-word.new.self) c.args.address c.in-Looked.looked c.load-word.result c.requires.2 c.in-Looked.is c.if-looked-address.false
    c.load-word.ensures.book c.requires.0 c.requires.1

pub returns-clause-awaits : goal.returns-clause-awaits
returns-clause-awaits g c = λ k used a.
    let e = c.args.self.now in
    let step = (loaded_is e.shared.now.words e.at (book e.pass) (book c.load-word.new.self) c.args.address c.in-Looked.looked c.load-word.result c.requires.2 c.in-Looked.is c.load-word.ensures.book).1 in
    awaits_still (g.C.Calling.call e.call.value) (book e.pass) (book c.load-word.new.self) (ap (λ (b : Book). b.regions) step) k used a

pub returns-clause-begins : goal.returns-clause-begins
returns-clause-begins g c =
    let e = c.args.self.now in
    let step = (loaded_is e.shared.now.words e.at (book e.pass) (book c.load-word.new.self) c.args.address c.in-Looked.looked c.load-word.result c.requires.2 c.in-Looked.is c.load-word.ensures.book).1 in
    ap (λ (b : Book). b.begins) step

pub returns-clause-ticks : goal.returns-clause-ticks
returns-clause-ticks g c =
    let e = c.args.self.now in
    let step = (loaded_is e.shared.now.words e.at (book e.pass) (book c.load-word.new.self) c.args.address c.in-Looked.looked c.load-word.result c.requires.2 c.in-Looked.is c.load-word.ensures.book).1 in
    ap (λ (b : Book). b.ticks) step

pub returns-clause-same : goal.returns-clause-same
returns-clause-same g c =
    let e = c.args.self.now in
    let step = loaded_is e.shared.now.words e.at (book e.pass) (book c.load-word.new.self) c.args.address c.in-Looked.looked c.load-word.result c.requires.2 c.in-Looked.is c.load-word.ensures.book in
    (c.load-word.ensures.same, kin_looking (book e.pass) (book c.load-word.new.self) (Had (c.in-Looked.looked % 4096) step.0 c.args.address c.load-word.result) step.1)
