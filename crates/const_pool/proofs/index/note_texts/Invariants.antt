use Rattle.std.proofs.Common.{◌≡◌, ℕ, List, take}
use Rattle.jmodel.specs.format.PoolAdding.{means_text}
use Rattle.const_pool.specs.Firsts.{first, text_known}
use Rattle.const_pool.proofs.index.note_texts.Given as goal

abbrev pub invariant-loop-i : goal.invariant-loop-i
invariant-loop-i l = (t : List ℕ) → text_known l.texts t ≡ first (means_text t) (take l.i l.entries)
