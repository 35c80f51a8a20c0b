use Rattle.std.proofs.Common.{ℕ, ◌++◌, List, ap, ◌∙◌, arith}
use Rattle.resolution.specs.Ways.{entry_at}
use Rattle.resolution.proofs.Finding.{whole_table}
use Rattle.resolution.proofs.Tables.{lists, entry_past}
use Rattle.resolution.proofs.ways.all_behind.Goals as goal

pub returns : goal.returns
returns c =
    let F = lists c.args.first.now in
    let O = lists c.args.others.now in
    let same = c.requires in
    whole_table (λ (p : ℕ). entry_at F p ++ entry_at O p) c.loop-place.place (lists c.loop-place.next.items) c.loop-place.invariant
    (λ p past. let end = c.loop-place-test.false in ap (λ (l : List ℕ). l ++ entry_at O p) (entry_past c.args.first.now p (omega (arith, end, past))) ∙ entry_past c.args.others.now p (omega (arith, end, past, same)))
