use Rattle.std.proofs.Common.{◌≡◌, ℕ, List, length, sym, ap, ◌∙◌, subst, arith}
use Rattle.std.specs.List.{flat_map}
use Rattle.std.proofs.lemmas.List.{length-map}
use Rattle.resolution.specs.Ways.{FindSame, entry_at}
use Rattle.resolution.proofs.Finding.{whole_table}
use Rattle.resolution.proofs.Tables.{lists, pushed, entry_is, entry_past}
use Rattle.resolution.proofs.ways.all_joined.Goals as goal

pub loop-list-preserved : goal.loop-list-preserved
loop-list-preserved c =
    let T = lists c.args.table.now in
    let L = lists c.args.lists.now in
    let i : ℕ = c.loop-list.list-index in
    let f = λ (p : ℕ). flat_map (entry_at T) (entry_at L p) in
    let own = c.as_slice.ensures.value ∙ sym (entry_is c.args.lists.now i c.list-item.result c.loop-list-test.true c.list-item.is) in (
      omega arith,
      pushed f i c.loop-list.next.items c.push.new.self.items c.in_ok-joined.field-0 c.in_ok-push.ensures.items c.loop-list.invariant.1
          (subst (λ (l : List ℕ). FindSame c.in_ok-joined.field-0.items (flat_map (entry_at T) l)) own c.in_ok-joined.ensures),
    )

pub returns-clause-many : goal.returns-clause-many
returns-clause-many c =
    let count : length (lists c.loop-list.next.items) ≡ c.loop-list.list-index = c.loop-list.invariant.1.many in
    let same : length (lists c.loop-list.next.items) ≡ length c.loop-list.next.items = length-map _ _ in
    let below = c.loop-list.invariant.0 in
    let end = c.loop-list-test.false in
    omega (arith, count, same, below, end)

pub returns-clause-are : goal.returns-clause-are
returns-clause-are c =
    let T = lists c.args.table.now in
    let L = lists c.args.lists.now in
    whole_table (λ (p : ℕ). flat_map (entry_at T) (entry_at L p)) c.loop-list.list-index (lists c.loop-list.next.items) c.loop-list.invariant.1
    (λ p past. ap (flat_map (entry_at T)) (entry_past c.args.lists.now p (let end = c.loop-list-test.false in omega (arith, end, past))))
