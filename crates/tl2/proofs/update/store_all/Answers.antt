use Rattle.std.proofs.Common.{◌≡◌, ℕ, [], ◌∷◌, reverse, ap, ◌∙◌}
use Rattle.jmodel.specs.history.Log.{Log, access}
use Rattle.tx_table.specs.Book.{Book, Map, without, pairs}
use Rattle.tx_table.specs.Plays.{wrote_back}
use Rattle.tx_table.specs.Passes.{book}
use Rattle.tx_table.proofs.MapLaws.{lookup_here}
use Rattle.tl2.specs.Plans.{IsListed}
use Rattle.tl2.proofs.Latest.{logged, entries_listed, entries_some, entries_fit}
use Rattle.tl2.proofs.Listed.{has_more, listed_here, listed_less, nothing_listed}
use Rattle.tl2.proofs.update.store_all.Goals as goal

pub returns-in_default-clause-book : goal.returns-in_default-clause-book
returns-in_default-clause-book g c =
    let w : Log = reverse c.args.writes.now.items in
    let all = c.iter-words.ensures in
    absurd (entries_some w c.iter-words.result all.words c.requires.1.1.1.0 c.in_default.ensures.steps.0)

pub decide-requires : goal.decide-requires
decide-requires g c κs within =
    let w : Log = reverse c.args.writes.now.items in
    let words = c.args.shared.now.words in
    let all = c.iter-words.ensures in
    let e : ℕ × ℕ = (c.in-Some.first.now, c.in-Some.word.now) in
    let first : c.iter-words.result ≡ e ∷ c.next.new.self = c.in-Some.ensures.steps in
    let listed : IsListed (pairs w) (access e.0 e.1 ∷ logged c.next.new.self) = rw first at (entries_listed w c.iter-words.result all.words all.once) in
    let ready = c.requires.1.1.1.1.0 in (
      within,
      (
        c.requires.1.0,
        (
          entries_fit w c.iter-words.result all.words words c.requires.1.1.0 e.0 (e.1, rw first (lookup_here c.next.new.self e.0 e.1)),
          ((ready.0, ready.1, rw ready.2 (listed_here (pairs w) (access e.0 e.1) (logged c.next.new.self) listed)), c.requires.1.1.1.1.1),
        ),
      ),
    )

pub loop-address-init : goal.loop-address-init
loop-address-init g c =
    let w : Log = reverse c.args.writes.now.items in
    let v = book c.args.pass.now in
    let all = c.iter-words.ensures in
    let e : ℕ × ℕ = (c.in-Some.first.now, c.in-Some.word.now) in
    let first : c.iter-words.result ≡ e ∷ c.next.new.self = c.in-Some.ensures.steps in
    let listed : IsListed (pairs w) (access e.0 e.1 ∷ logged c.next.new.self) = rw first at (entries_listed w c.iter-words.result all.words all.once) in
    let due : IsListed v.face.due (access e.0 e.1 ∷ logged c.next.new.self) = rw c.requires.1.1.1.1.0.2 listed in
    rw c.into_iter-address-iterator.ensures.into_iter_gives (record {
      same = c.decide.ensures.same;
      stored = (without v.face.due e.0, listed_less v.face.due (access e.0 e.1) (logged c.next.new.self) due, c.decide.ensures.book);
      fits = λ a h. entries_fit w c.iter-words.result all.words c.args.shared.now.words c.requires.1.1.0 a (rw first (has_more c.next.new.self e.0 e.1 a h));
    })

pub write_back-requires-clause-heap : goal.write_back-requires-clause-heap
write_back-requires-clause-heap g c =
    let e : ℕ × ℕ = (c.in-Some-2.address.now, c.in-Some-2.word.now) in
    let first : c.loop-address.address-iterator ≡ e ∷ c.next-in-loop-address.new.self = c.in-Some-2.ensures.steps in
    c.loop-address.invariant.fits e.0 (e.1, rw first (lookup_here c.next-in-loop-address.new.self e.0 e.1))

pub loop-address-preserved : goal.loop-address-preserved
loop-address-preserved g c =
    let i = c.loop-address.invariant in
    let rest : Map ℕ = c.next-in-loop-address.new.self in
    let e : ℕ × ℕ = (c.in-Some-2.address.now, c.in-Some-2.word.now) in
    let first : c.loop-address.address-iterator ≡ e ∷ rest = c.in-Some-2.ensures.steps in
    let now : IsListed i.stored.0 (access e.0 e.1 ∷ logged rest) = rw first at i.stored.1 in
    record {
      same = (c.write_back.ensures.same.0 ∙ i.same.0, c.write_back.ensures.same.1 ∙ i.same.1);
      stored = (without i.stored.0 e.0, listed_less i.stored.0 (access e.0 e.1) (logged rest) now, c.write_back.ensures.book ∙ ap (λ (b : Book). wrote_back b e.0) i.stored.2);
      fits = λ a h. i.fits a (rw first (has_more rest e.0 e.1 a h));
    }

pub returns-clause-book : goal.returns-clause-book
returns-clause-book g c =
    let i = c.loop-address.invariant in
    let over : c.loop-address.address-iterator ≡ [] = c.in-None.ensures.steps.0 in
    let none : IsListed i.stored.0 [] = rw over at i.stored.1 in
    (i.stored.0, nothing_listed i.stored.0 none, i.stored.2)
