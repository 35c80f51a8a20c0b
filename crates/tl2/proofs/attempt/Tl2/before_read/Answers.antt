use Rattle.std.proofs.Common.{◌≡◌, ◌<◌, ◌*◌, ℕ, true, false, ◌/◌, ◌%◌, refl, ap, sym, ◌∙◌, inl, inr, ⊎_elim}
use Rattle.tx_table.specs.Book.{Book, Face, Map, Saw, lookup}
use Rattle.tx_table.specs.Plays.{keys}
use Rattle.tx_table.specs.Steps.{IsPast}
use Rattle.tx_table.specs.Passes.{book}
use Rattle.tl2.specs.declared.attempt.At.TheVariants.{Looked}
use Rattle.tl2.proofs.Entries.{inside}
use Rattle.tl2.proofs.Stepping.{awaits_still, kin_looking, kin_lost, meets_lost, snapshot_looking, snapshot_lost, stands_looking, stands_lost}
use Rattle.tl2.proofs.attempt.Tl2.before_read.Goals as goal

pub returns-in-Ok-clause-run : goal.returns-in-Ok-clause-run
returns-in-Ok-clause-run g c = λ h n r w s.
    let e = c.args.self.now in
    stands_looking g.C.Calling.began e.shared.now.words e.at e.writes.items e.pass c.look.new.self h n r w c.look.ensures.same s (Looked c.args.address)
    (Saw (c.args.address % 4096) (c.in-Ok.field-0 / 2)) (inside _ _ _ c.requires.2) c.in-Ok.ensures.ok.2

pub returns-in-Err-clause-run : goal.returns-in-Err-clause-run
returns-in-Err-clause-run g c = λ h n r w s.
    let e = c.args.self.now in
    stands_lost g.C.Calling.began e.shared.now.words e.at e.writes.items e.pass c.look.new.self h n r w c.look.ensures.same s c.args.address c.in-Err.conflict.word
    (λ whole.
    let no : false ≡ true = c.in-Err.ensures.sole whole (ap (λ (m : Map ℕ). lookup m (c.args.address % 4096)) e.sits.1) in
    cc no) c.in-Err.ensures.err.1

pub returns-in-Ok-clause-snapshot : goal.returns-in-Ok-clause-snapshot
returns-in-Ok-clause-snapshot g c =
    let e = c.args.self.now in
    snapshot_looking (g.T.Story.story e.shared.now.table.shared.key.story.value) (book e.pass) (book c.look.new.self) (Saw (c.args.address % 4096) (c.in-Ok.field-0 / 2)) c.in-Ok.ensures.ok.2

pub returns-in-Err-clause-snapshot : goal.returns-in-Err-clause-snapshot
returns-in-Err-clause-snapshot g c =
    let e = c.args.self.now in
    snapshot_lost (g.T.Story.story e.shared.now.table.shared.key.story.value) (book e.pass) (book c.look.new.self) c.args.address c.in-Err.conflict.word c.in-Err.ensures.err.1

pub look-requires-clause-table : goal.look-requires-clause-table
look-requires-clause-table g c = c.args.self.now.sits.0

pub look-requires-clause-settled : goal.look-requires-clause-settled
look-requires-clause-settled g c = c.args.self.now.settled (inside _ _ _ c.requires.2)

pub look-requires-clause-live : goal.look-requires-clause-live
look-requires-clause-live g c = c.requires.0

pub invariant_of-self : goal.invariant_of-self
invariant_of-self g c =
    let e = c.args.self.now in
    let step = c.in-Ok.ensures.ok.2 in
    let face = ap (λ (b : Book). b.face) step in
    let read = e.logged (inside _ _ _ c.requires.2) in
    record {
      sits = (c.look.ensures.same.0 ∙ e.sits.0, ap (λ (f : Face). f.held) face ∙ e.sits.1, ap (λ (f : Face). f.stage) face ∙ e.sits.2);
      settled = λ _. c.in-Ok.ensures.settled;
      logged = λ _. (read.0 ∙ sym (ap (λ (b : Book). keys b.reads) step), read.1);
    }

pub returns-in-Ok-clause-awaits : goal.returns-in-Ok-clause-awaits
returns-in-Ok-clause-awaits g c = λ k used a.
    awaits_still (g.C.Calling.call c.args.self.now.call.value) (book c.args.self.now.pass) (book c.look.new.self) (ap (λ (b : Book). b.regions) c.in-Ok.ensures.ok.2) k used a

pub returns-in-Ok-clause-begins : goal.returns-in-Ok-clause-begins
returns-in-Ok-clause-begins g c = ap (λ (b : Book). b.begins) c.in-Ok.ensures.ok.2

pub returns-in-Ok-clause-ticks : goal.returns-in-Ok-clause-ticks
returns-in-Ok-clause-ticks g c = ap (λ (b : Book). b.ticks) c.in-Ok.ensures.ok.2

pub returns-in-Ok-clause-same : goal.returns-in-Ok-clause-same
returns-in-Ok-clause-same g c = (c.look.ensures.same, kin_looking (book c.args.self.now.pass) (book c.look.new.self) (Saw (c.args.address % 4096) (c.in-Ok.field-0 / 2)) c.in-Ok.ensures.ok.2)

pub invariant_of-self-in-Err : goal.invariant_of-self-in-Err
invariant_of-self-in-Err g c =
    let e = c.args.self.now in
    let face = ap (λ (b : Book). b.face) c.in-Err.ensures.err.1 in
    record {
      sits = (c.look.ensures.same.0 ∙ e.sits.0, ap (λ (f : Face). f.held) face ∙ e.sits.1, ap (λ (f : Face). f.stage) face ∙ e.sits.2);
      settled = λ z. absurd (z refl);
      logged = λ z. absurd (z refl);
    }

pub returns-in-Err-clause-awaits : goal.returns-in-Err-clause-awaits
returns-in-Err-clause-awaits g c = λ k used a.
    awaits_still (g.C.Calling.call c.args.self.now.call.value) (book c.args.self.now.pass) (book c.look.new.self) (ap (λ (b : Book). b.regions) c.in-Err.ensures.err.1) k used a

pub returns-in-Err-clause-begins : goal.returns-in-Err-clause-begins
returns-in-Err-clause-begins g c = ap (λ (b : Book). b.begins) c.in-Err.ensures.err.1

pub returns-in-Err-clause-ticks : goal.returns-in-Err-clause-ticks
returns-in-Err-clause-ticks g c = ap (λ (b : Book). b.ticks) c.in-Err.ensures.err.1

pub returns-in-Err-clause-same : goal.returns-in-Err-clause-same
returns-in-Err-clause-same g c = (c.look.ensures.same, kin_lost (book c.args.self.now.pass) (book c.look.new.self) c.args.address c.in-Err.conflict.word c.in-Err.ensures.err.1)

pub returns-in-Err-clause-seen : goal.returns-in-Err-clause-seen
returns-in-Err-clause-seen g c =
    let k = c.args.self.now in
    let f = c.in-Err.ensures in
    let free = ap (λ (m : Map ℕ). lookup m (c.args.address % 4096)) k.sits.1 in
    let past : IsPast (book k.pass).bound c.in-Err.conflict.word = ⊎_elim (λ odd. inl odd) (λ (over : (false ≡ false) × (2 * (book k.pass).bound < c.in-Err.conflict.word)). inr over.1) f.err.0 in
    (f.conflict.0, meets_lost (book k.pass) (book c.look.new.self) c.in-Err.conflict c.args.address f.conflict.0 f.conflict.1 past (f.other free) f.err.1)

pub returns-in-Err-clause-sole : goal.returns-in-Err-clause-sole
returns-in-Err-clause-sole g c = λ whole. c.in-Err.ensures.sole whole (ap (λ (m : Map ℕ). lookup m (c.args.address % 4096)) c.args.self.now.sits.1)
