use Rattle.std.proofs.Common.{◌≡◌, ◌<◌, ◌++◌, ℕ, true, false, ◌%◌, List, [], ◌∷◌, All, reverse, refl, ap, sym, ◌∙◌, subst}
use Rattle.std.proofs.lemmas.List.{reverse-append}
use Rattle.std.proofs.lemmas.List.Elements.{All-push}
use Rattle.tx_core.specs.declared.engine.Conflict.{Conflict}
use Rattle.tx_table.specs.Book.{Book, Face, Map, lookup}
use Rattle.tx_table.specs.Plays.{keys, value_in}
use Rattle.tx_table.specs.Passes.{book}
use Rattle.tl2.specs.Conflicts.{Meets}
use Rattle.tl2.proofs.Entries.{inside}
use Rattle.tl2.proofs.Stepping.{awaits_still, kin_logged, kin_lost, meets_lost, open_logged, snapshot_lost, stands_logged, stands_lost}
use Rattle.tl2.proofs.attempt.Tl2.on_read.Goals as goal

pub returns-in-Ok-clause-run : goal.returns-in-Ok-clause-run
returns-in-Ok-clause-run g c = λ h n r w s.
    let e = c.args.self.now in
    stands_logged g.C.Calling.began e.shared.now.words e.at e.writes.items e.pass c.recheck.new.self h n r w c.recheck.ensures.same s c.in-Loaded.loaded
    c.args.address c.requires.2 c.in-Loaded.is c.if-loaded-address.false (sym c.written.ensures ∙ c.in_default.is) c.in-Ok.ensures.ok

pub returns-in-Err-clause-run : goal.returns-in-Err-clause-run
returns-in-Err-clause-run g c = λ h n r w s.
    let e = c.args.self.now in
    stands_lost g.C.Calling.began e.shared.now.words e.at e.writes.items e.pass c.recheck.new.self h n r w c.recheck.ensures.same s c.args.address
    c.in-Err.conflict.word (λ whole.
    let no : false ≡ true = c.in-Err.ensures.sole whole (ap (λ (m : Map ℕ). lookup m (c.args.address % 4096)) e.sits.1) in
    cc no) c.in-Err.ensures.err.1

pub returns-in-Err-clause-still : goal.returns-in-Err-clause-still
returns-in-Err-clause-still g c =
    let e = c.args.self.now in
    snapshot_lost (g.T.Story.story e.shared.now.table.shared.key.story.value) (book e.pass) (book c.recheck.new.self) c.args.address c.in-Err.conflict.word c.in-Err.ensures.err.1

pub recheck-requires-clause-table : goal.recheck-requires-clause-table
recheck-requires-clause-table g c = c.args.self.now.sits.0

pub recheck-requires-clause-settled : goal.recheck-requires-clause-settled
recheck-requires-clause-settled g c = c.args.self.now.settled (inside _ _ _ c.requires.2)

pub invariant_of-self-in-Ok : goal.invariant_of-self-in-Ok
invariant_of-self-in-Ok g c =
    let e = c.args.self.now in
    let v = book e.pass in
    let step = c.in-Ok.ensures.ok in
    let read = e.logged (inside _ _ _ c.requires.2) in
    let place = rw c.in-Loaded.is at c.requires.2 in
    let low : c.args.address < e.shared.now.words = rw c.if-loaded-address.false at place.0 in
    let push : c.push.new.self.items ≡ e.reads.items ++ c.args.address ∷ [] = rw c.if-is_err.ensures.negation at c.push.ensures.items in
    let face = ap (λ (b : Book). b.face) step in
    record {
      sits = (c.recheck.ensures.same.0 ∙ e.sits.0, ap (λ (f : Face). f.held) face ∙ e.sits.1, ap (λ (f : Face). f.stage) face ∙ e.sits.2);
      settled = λ _. c.in-Ok.ensures.settled;
      logged = λ _. (
        ap (λ (xs : List ℕ). reverse xs) push ∙ reverse-append e.reads.items (c.args.address ∷ []) ∙ ap (λ (k : List ℕ). c.args.address ∷ k) read.0 ∙ sym (ap (λ (b : Book). keys b.reads) step),
        subst (All (λ a. a < e.shared.now.words)) (sym push) (All-push (λ a. a < e.shared.now.words) e.reads.items c.args.address read.1 low),
      );
    }

pub returns-in-Ok-clause-open : goal.returns-in-Ok-clause-open
returns-in-Ok-clause-open g c =
    let e = c.args.self.now in
    open_logged e.shared.now.words (g.C.Calling.call e.call.value) (book e.pass) (book c.recheck.new.self) c.args.address (value_in (book e.pass).look) c.in-Ok.ensures.ok c.requires.0 c.requires.1

pub returns-in-Ok-clause-awaits : goal.returns-in-Ok-clause-awaits
returns-in-Ok-clause-awaits g c = λ k used a.
    awaits_still (g.C.Calling.call c.args.self.now.call.value) (book c.args.self.now.pass) (book c.recheck.new.self) (ap (λ (b : Book). b.regions) c.in-Ok.ensures.ok) k used a

pub returns-in-Ok-clause-begins : goal.returns-in-Ok-clause-begins
returns-in-Ok-clause-begins g c = ap (λ (b : Book). b.begins) c.in-Ok.ensures.ok

pub returns-in-Ok-clause-ticks : goal.returns-in-Ok-clause-ticks
returns-in-Ok-clause-ticks g c = ap (λ (b : Book). b.ticks) c.in-Ok.ensures.ok

pub returns-in-Ok-clause-same : goal.returns-in-Ok-clause-same
returns-in-Ok-clause-same g c = (c.recheck.ensures.same, kin_logged (book c.args.self.now.pass) (book c.recheck.new.self) c.args.address (value_in (book c.args.self.now.pass).look) c.in-Ok.ensures.ok)

pub returns-in-Ok-clause-snapshot : goal.returns-in-Ok-clause-snapshot
returns-in-Ok-clause-snapshot g c = λ _. c.in-Ok.ensures.snapshot

pub returns-in-Ok-clause-still : goal.returns-in-Ok-clause-still
returns-in-Ok-clause-still g c = λ _. c.in-Ok.ensures.snapshot

pub invariant_of-self-in-Err : goal.invariant_of-self-in-Err
invariant_of-self-in-Err g c =
    let e = c.args.self.now in
    let face = ap (λ (b : Book). b.face) c.in-Err.ensures.err.1 in
    record {
      sits = (c.recheck.ensures.same.0 ∙ e.sits.0, ap (λ (f : Face). f.held) face ∙ e.sits.1, ap (λ (f : Face). f.stage) face ∙ e.sits.2);
      settled = λ z. absurd (z refl);
      logged = λ z. absurd (z refl);
    }

pub returns-in-Err-clause-awaits : goal.returns-in-Err-clause-awaits
returns-in-Err-clause-awaits g c = λ k used a.
    awaits_still (g.C.Calling.call c.args.self.now.call.value) (book c.args.self.now.pass) (book c.recheck.new.self) (ap (λ (b : Book). b.regions) c.in-Err.ensures.err.1) k used a

pub returns-in-Err-clause-begins : goal.returns-in-Err-clause-begins
returns-in-Err-clause-begins g c = ap (λ (b : Book). b.begins) c.in-Err.ensures.err.1

pub returns-in-Err-clause-ticks : goal.returns-in-Err-clause-ticks
returns-in-Err-clause-ticks g c = ap (λ (b : Book). b.ticks) c.in-Err.ensures.err.1

pub returns-in-Err-clause-same : goal.returns-in-Err-clause-same
returns-in-Err-clause-same g c = (c.recheck.ensures.same, kin_lost (book c.args.self.now.pass) (book c.recheck.new.self) c.args.address c.in-Err.conflict.word c.in-Err.ensures.err.1)

pub returns-in-Err-clause-seen : goal.returns-in-Err-clause-seen
returns-in-Err-clause-seen g c = λ e q.
    let k = c.args.self.now in
    let f = c.in-Err.ensures in
    let free = ap (λ (m : Map ℕ). lookup m (c.args.address % 4096)) k.sits.1 in
    let same : c.in-Err.conflict ≡ e = cc in
    subst (λ (d : Conflict). (d.address ≡ c.args.address) × Meets (book k.pass) (book c.recheck.new.self) d) same
    (f.conflict.0, meets_lost (book k.pass) (book c.recheck.new.self) c.in-Err.conflict c.args.address f.conflict.0 f.conflict.1 f.past (f.other free) f.err.1)

pub returns-in-Err-clause-sole : goal.returns-in-Err-clause-sole
returns-in-Err-clause-sole g c = λ whole.
    let no : false ≡ true = c.in-Err.ensures.sole whole (ap (λ (m : Map ℕ). lookup m (c.args.address % 4096)) c.args.self.now.sits.1) in
    cc no
