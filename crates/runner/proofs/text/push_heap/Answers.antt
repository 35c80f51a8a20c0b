use Rattle.std.proofs.Common.{◌∙◌, append_assoc}
use Rattle.runner.proofs.text.push_heap.Goals as goal

pub returns : goal.returns
returns c = rw append_assoc (rw (c.as_bytes.ensures.value ∙ c.in_ok-text.ensures.ok) at c.extend_from_slice.ensures.ok)
