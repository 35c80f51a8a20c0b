use Rattle.std.proofs.Common.{◌⊎◌, inl, inr, ⊎_elim, ◌≡◌, ◌≢◌, ◌<◌, true, false, ℕ, List, [], All, reverse, length, refl, sym, ap, ◌∙◌, subst, arith}
use Rattle.std.proofs.lemmas.List.{length-reverse, reverse-reverse}
use Rattle.std.proofs.lemmas.Grind.{common_steps}
use Rattle.jmodel.specs.declared.access.Access.{Access}
use Rattle.jmodel.specs.history.Log.{Log}
use Rattle.tx_table.specs.Book.{Has, In, pairs}
use Rattle.tx_table.specs.Plays.{keys}
use Rattle.tx_core.specs.declared.engine.Conflict.{Conflict}
use Rattle.tx_table.specs.Passes.{book}
use Rattle.tl2.specs.Commits.{IsAdded, update_of}
use Rattle.tl2.specs.Conflicts.{Meets}
use Rattle.tl2.specs.Standing.{Awaits, Stands}
use Rattle.tl2.proofs.Entries.{inside, awaits_used, adds_nothing, update_fits, update_region, adds_update, lost_stands}
use Rattle.tl2.proofs.Stepping.{awaits_still}
use Rattle.tl2.proofs.Members.{all_turned, in_reversed}
use Rattle.tl2.proofs.attempt.Tl2.commit.Goals as goal

pub returns-then-is_empty-clause-run : goal.returns-then-is_empty-clause-run
returns-then-is_empty-clause-run g c = λ h n r w s.
    let e : c.args.self.now.writes.items ≡ [] = grind (arith, common_steps) in
    let q : w ≡ [] = sym s.writes ∙ ap reverse e in
    let f = c.finish_refused.ensures.run h n r w s in
    rw q (
      f.0,
      adds_nothing (Awaits (g.C.Calling.call c.args.self.now.call.value) (book c.args.self.now.pass)) g.T.Ruled.rule (Stands g.C.Calling.began c.finish_refused.new.self.shared.now.words c.finish_refused.new.self.at c.finish_refused.new.self.writes.items c.finish_refused.new.self.pass)
          h n c.args.answer.value c.args.used.value c.finish_refused.result r f.1,
    )

pub finish_refused-requires-clause-allowed : goal.finish_refused-requires-clause-allowed
finish_refused-requires-clause-allowed g c =
    let m = c.requires.allowed in
    let e : c.args.self.now.writes.items ≡ [] = grind (arith, common_steps) in
    let q : m.writes ≡ [] = sym m.stands.writes ∙ ap reverse e in
    let same : c.args.used.value ≡ m.used = m.allowed.stays (inl q) in
    record {
      history = m.history;
      conflicts = m.conflicts;
      reads = m.reads;
      writes = m.writes;
      call = m.call;
      used = m.used;
      stands = m.stands;
      awaits = m.awaits;
      allowed = rw (q, same) at m.allowed;
    }

pub returns-then-is_empty-clause-region : goal.returns-then-is_empty-clause-region
returns-then-is_empty-clause-region g c = λ k used a.
    let m = c.requires.allowed in
    let named = g.C.Calling.call c.args.self.now.call.value in
    let v = book c.args.self.now.pass in
    let e : c.args.self.now.writes.items ≡ [] = grind (arith, common_steps) in
    let q : m.writes ≡ [] = sym m.stands.writes ∙ ap reverse e in
    let same : used ≡ c.args.used.value = sym (awaits_used named v k used a) ∙ awaits_used named v m.call m.used m.awaits ∙ sym (m.allowed.stays (inl q)) in
    rw same at (c.finish_refused.ensures.region k used a)

pub update-done-requires-clause-heap : goal.update-done-requires-clause-heap
update-done-requires-clause-heap g c =
    let words = c.args.self.now.shared.now.words in
    let m = c.requires.allowed.stands in
    let written : All (λ (l : Access). l.address < words) (reverse c.args.self.now.writes.items) = subst (λ (k : Log). All (λ (l : Access). l.address < words) k) (sym m.writes) m.within in
    let read = c.args.self.now.logged (inside _ _ _ c.requires.open.2) in
    (written, subst (λ (k : List ℕ). All (λ a. a < words) k) read.0 (all_turned (λ a. a < words) c.args.self.now.reads.items read.1))

pub update-done-requires-clause-plan : goal.update-done-requires-clause-plan
update-done-requires-clause-plan g c =
    let read = c.args.self.now.logged (inside _ _ _ c.requires.open.2) in
    let turned : reverse (keys (book c.args.self.now.pass).reads) ≡ c.deref.result.now = ap (λ (k : List ℕ). reverse k) (sym read.0) ∙ reverse-reverse c.args.self.now.reads.items ∙ sym c.deref.ensures.value in
    rw turned c.in-Ok.ensures

pub update-done-requires-clause-entry : goal.update-done-requires-clause-entry
update-done-requires-clause-entry g c = λ t.
    let v = book c.args.self.now.pass in
    let m = c.requires.allowed in
    let o = c.requires.open in
    let value = c.args.self.now.shared.now.table.shared.key.story.value in
    let runs = g.met.T.Ruled.keeps value _ (m.allowed.anywhere (record { at = t; update = true })) in
    rw m.stands.writes (update_fits (g.T.Story.story value) (g.C.Calling.call c.args.self.now.call.value) v m.call m.used c.args.used.value m.reads m.writes c.args.answer.value t o.1 m.awaits (m.stands.reads (inside _ _ _ o.2)) runs m.allowed.stays)

pub returns-in-Ok-done-clause-run : goal.returns-in-Ok-done-clause-run
returns-in-Ok-done-clause-run g c = λ h n r w s.
    let v = book c.args.self.now.pass in
    let o = c.requires.open in
    let ok = c.in-Ok-done.ensures.ok in
    let stamp = c.in-Ok-done.stamp in
    let wrote : w ≢ [] = λ q.
    let z : length (reverse c.args.self.now.writes.items) ≡ 0 = ap length (s.writes ∙ q) in
    let y : length c.args.self.now.writes.items ≡ 0 = rw length-reverse at z in
    grind (arith, common_steps) in
    let e : reverse c.args.self.now.writes.items ≡ w = s.writes in
    let a = subst (λ (k : Log). IsAdded (update_of v stamp.at k c.args.answer.value c.args.used.value) v (book c.update-done.new.pass)) e ok.2 in (
      ((λ t. wrote), (λ t. ok.0)),
      rw c.clear.ensures.items (adds_update g.C.Calling.began c.args.self.now.shared.now.words (g.C.Calling.call c.args.self.now.call.value) g.T.Ruled.rule c.args.self.now.at c.args.self.now.writes.items c.args.self.now.pass c.update-done.new.pass h n r w c.args.answer.value c.args.used.value stamp o.1 (inside _ _ _ o.2) ok.0 ok.1 c.in-Ok-done.ensures.same a s),
    )

pub returns-in-Err-clause-seen : goal.returns-in-Err-clause-seen
returns-in-Err-clause-seen g c = λ e q.
    let k = c.in-Err.ensures.conflict in
    let rest = c.in-Err.ensures.err in
    let same : c.in-Err.conflict ≡ e = cc in
    let read = c.args.self.now.logged (inside _ _ _ c.requires.open.2) in
    subst (λ (d : Conflict). Meets (book c.args.self.now.pass) (book c.update-done.new.pass) d × (Has (pairs (reverse c.args.self.now.writes.items)) d.address ⊎ In d.address c.args.self.now.reads.items)) same (
      record { upto = k.0; past = k.1; other = c.in-Err.ensures.other; kept = rest.2.lost; bound = rest.2.bound; reads = rest.2.reads },
      ⊎_elim (λ (h : Has (pairs (reverse c.args.self.now.writes.items)) c.in-Err.conflict.address). inl h)
          (λ (i : In c.in-Err.conflict.address (keys (book c.args.self.now.pass).reads)). inr (in_reversed c.args.self.now.reads.items c.in-Err.conflict.address (subst (In c.in-Err.conflict.address) (sym read.0) i))) k.2,
    )

pub returns-in-Err-clause-run : goal.returns-in-Err-clause-run
returns-in-Err-clause-run g c = λ h n r w s.
    let e = c.args.self.now in
    let rest = c.in-Err.ensures.err in
    rw c.clear.ensures.items (lost_stands g.C.Calling.began e.shared.now.words rest.0 n e.at e.writes.items e.pass c.update-done.new.pass h r w _
    c.in-Err.ensures.same (λ whole. let no : false ≡ true = c.in-Err.ensures.sole whole in cc no) rest.2 s)

pub finish_refused-requires-clause-open : goal.finish_refused-requires-clause-open
finish_refused-requires-clause-open g c = c.requires.open

pub returns-then-is_empty-clause-begins : goal.returns-then-is_empty-clause-begins
returns-then-is_empty-clause-begins g c = c.finish_refused.ensures.begins

pub returns-then-is_empty-clause-ticks : goal.returns-then-is_empty-clause-ticks
returns-then-is_empty-clause-ticks g c =
    let t = c.finish_refused.ensures.ticks in
    omega (arith, t)

pub returns-then-is_empty-clause-same : goal.returns-then-is_empty-clause-same
returns-then-is_empty-clause-same g c = c.finish_refused.ensures.same

pub returns-in_default-clause-ticks : goal.returns-in_default-clause-ticks
returns-in_default-clause-ticks g c = omega arith

pub update-done-requires-clause-table : goal.update-done-requires-clause-table
update-done-requires-clause-table g c = c.args.self.now.sits.0

pub update-done-requires-clause-ready : goal.update-done-requires-clause-ready
update-done-requires-clause-ready g c = (c.args.self.now.sits.1, c.args.self.now.sits.2, c.requires.open.0, c.requires.clock)

pub update-done-requires-clause-settled : goal.update-done-requires-clause-settled
update-done-requires-clause-settled g c = c.args.self.now.settled (inside _ _ _ c.requires.open.2)

pub update-done-requires-clause-any : goal.update-done-requires-clause-any
update-done-requires-clause-any g c = λ q.
    let z : length (reverse c.args.self.now.writes.items) ≡ 0 = ap length q in
    let y : length c.args.self.now.writes.items ≡ 0 = rw length-reverse at z in
    grind (arith, common_steps)

pub returns-in-Ok-done-clause-begins : goal.returns-in-Ok-done-clause-begins
returns-in-Ok-done-clause-begins g c = c.in-Ok-done.ensures.ok.2.begins

pub returns-in-Ok-done-clause-ticks : goal.returns-in-Ok-done-clause-ticks
returns-in-Ok-done-clause-ticks g c =
    let t = c.in-Ok-done.ensures.ok.2.ticks in
    omega (arith, t)

pub returns-in-Ok-done-clause-region : goal.returns-in-Ok-done-clause-region
returns-in-Ok-done-clause-region g c = λ k used a.
    let v = book c.args.self.now.pass in
    update_region (g.C.Calling.call c.args.self.now.call.value) v (book c.update-done.new.pass) c.in-Ok-done.stamp.at (reverse c.args.self.now.writes.items) c.args.answer.value k used c.args.used.value c.requires.open.1
    c.in-Ok-done.ensures.ok.2 a

pub returns-in-Ok-done-clause-same : goal.returns-in-Ok-done-clause-same
returns-in-Ok-done-clause-same g c = (c.update-done.ensures.same, c.in-Ok-done.ensures.ok.2.numbers, c.in-Ok-done.ensures.ok.2.fresh)

pub returns-in-Ok-done-clause-means : goal.returns-in-Ok-done-clause-means
returns-in-Ok-done-clause-means g c = c.update-done.ensures.means

pub returns-in-Err-clause-awaits : goal.returns-in-Err-clause-awaits
returns-in-Err-clause-awaits g c = λ k used a.
    awaits_still (g.C.Calling.call c.args.self.now.call.value) (book c.args.self.now.pass) (book c.update-done.new.pass) c.in-Err.ensures.err.2.regions k used a

pub returns-in-Err-clause-begins : goal.returns-in-Err-clause-begins
returns-in-Err-clause-begins g c = c.in-Err.ensures.err.2.begins

pub returns-in-Err-clause-ticks : goal.returns-in-Err-clause-ticks
returns-in-Err-clause-ticks g c =
    let t = c.in-Err.ensures.err.2.ticks in
    let most = c.in-Err.ensures.err.1 in
    omega (arith, t, most)

pub returns-in-Err-clause-sole : goal.returns-in-Err-clause-sole
returns-in-Err-clause-sole g c = λ whole. let no : false ≡ true = c.in-Err.ensures.sole whole in cc no

pub returns-in-Err-clause-regions : goal.returns-in-Err-clause-regions
returns-in-Err-clause-regions g c = c.in-Err.ensures.err.2.regions

pub returns-in-Err-clause-same : goal.returns-in-Err-clause-same
returns-in-Err-clause-same g c = (c.update-done.ensures.same, c.in-Err.ensures.err.2.numbers, c.in-Err.ensures.err.2.fresh)

pub returns-in-Err-clause-means : goal.returns-in-Err-clause-means
returns-in-Err-clause-means g c = c.update-done.ensures.means

pub invariant_of-self-2 : goal.invariant_of-self-2
invariant_of-self-2 g c = record {
  sits = (c.update-done.ensures.same.0 ∙ c.args.self.now.sits.0, c.update-done.ensures.free.0, c.update-done.ensures.free.1);
  settled = λ z. absurd (z refl);
  logged = λ z. absurd (z refl);
}
