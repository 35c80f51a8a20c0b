use Rattle.jmodel.specs.format.PoolAdding.{means_text}
use Rattle.const_pool.specs.Firsts.{text_known}
use Rattle.const_pool.proofs.FirstLemmas.{first_more}
use Rattle.const_pool.proofs.index.note_texts.Goals as goal

pub loop-i-preserved : goal.loop-i-preserved
loop-i-preserved c = λ q. first_more (means_text q) c.args.entries.now c.loop-i.i c.index-entries-i.result (text_known c.loop-i.texts q) (text_known c.note_entry.new.texts q) c.loop-i-test.true c.index-entries-i.is (c.loop-i.invariant q) (c.in_ok-note_entry.ensures q)
