use Rattle.std.proofs.Common.{ap, ◌∙◌}
use Rattle.const_pool.specs.Firsts.{or_at, key_known, has_key, name_key}
use Rattle.const_pool.proofs.FirstLemmas.{first_more}
use Rattle.const_pool.proofs.index.note_names.Goals as goal

pub loop-i-preserved : goal.loop-i-preserved
loop-i-preserved c = λ q.
    let entries = c.args.entries.now in
    let x = c.index-entries-i.result in
    first_more (λ e. has_key q (name_key entries e)) entries c.loop-i.i x (key_known c.loop-i.names q) (key_known c.note_key.new.keys q) c.loop-i-test.true c.index-entries-i.is (c.loop-i.invariant q) (c.in_ok-note_key.ensures q ∙ ap (λ k. or_at (key_known c.loop-i.names q) (has_key q k) c.loop-i.i) c.name_key-key.ensures)
