use Rattle.std.proofs.Common.{◌≡◌, ℕ, List, true, false, sym, ap, ◌∙◌, take, map, []}
use Rattle.std.specs.Prelude.{nat_eq}
use Rattle.std.specs.List.{list_any}
use Rattle.std.specs.Ordering.{nat_cmp}
use Rattle.std.specs.BTreeSet as tree
use Rattle.std.proofs.lemmas.Bool.{not-true, not-false}
use Rattle.jmodel.specs.format.ClassFileReading.{distinct}
use Rattle.class_reader.specs.Numbers.{numbers_of, key_of}
use Rattle.class_reader.proofs.Keys.{keys_on, goes_on, is_double, all_distinct}
use Rattle.class_reader.proofs.distinct.distinct.Goals as goal

pub returns-then-not-branch : goal.returns-then-not-branch
returns-then-not-branch c =
    let pool = c.args.pool.now in
    let ms = c.args.members.now in
    let i = c.loop-m.m-index in
    let m = c.m-item.result in
    let key : c.key_of.result ≡ key_of (numbers_of pool) m = c.key_of.ensures ∙ ap (λ (ns : List ℕ). key_of ns m) (c.deref.ensures.value ∙ c.in_ok-numbers.ensures) in
    let seen : tree.contains nat_cmp c.loop-m.seen c.key_of.result ≡ true = not-false _ (sym c.in_ok-insert.ensures.added ∙ c.if-not-branch.true) in
    let old = sym (c.loop-m.invariant.0 c.key_of.result ∙ ap (λ (x : ℕ). list_any (nat_eq x) (map (key_of (numbers_of pool)) (take i ms))) key) ∙ seen in
    rw (is_double pool c.requires.few ms c.requires.named i m c.loop-m-test.true c.m-item.is (distinct pool [] ms) c.loop-m.invariant.1 old) c.doubled.ensures

pub loop-m-preserved : goal.loop-m-preserved
loop-m-preserved c =
    let pool = c.args.pool.now in
    let ms = c.args.members.now in
    let i = c.loop-m.m-index in
    let m = c.m-item.result in
    let key : c.key_of.result ≡ key_of (numbers_of pool) m = c.key_of.ensures ∙ ap (λ (ns : List ℕ). key_of ns m) (c.deref.ensures.value ∙ c.in_ok-numbers.ensures) in
    let seen : tree.contains nat_cmp c.loop-m.seen c.key_of.result ≡ false = not-true _ (sym c.in_ok-insert.ensures.added ∙ c.if-not-branch.false) in
    let new = sym (c.loop-m.invariant.0 c.key_of.result ∙ ap (λ (x : ℕ). list_any (nat_eq x) (map (key_of (numbers_of pool)) (take i ms))) key) ∙ seen in (
      λ q. keys_on (key_of (numbers_of pool)) ms i m c.key_of.result q c.loop-m-test.true c.m-item.is key (c.in_ok-insert.ensures.updates.0 q) (c.loop-m.invariant.0 q),
      goes_on pool c.requires.few ms c.requires.named i m c.loop-m-test.true c.m-item.is (distinct pool [] ms) c.loop-m.invariant.1 new,
    )

pub returns : goal.returns
returns c = all_distinct c.args.pool.now c.args.members.now c.loop-m.m-index (distinct c.args.pool.now [] c.args.members.now) c.loop-m-test.false c.loop-m.invariant.1
