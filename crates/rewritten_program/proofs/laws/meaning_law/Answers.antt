use Rattle.rewritten_program.proofs.Applied.{meaning_is}
use Rattle.rewritten_program.proofs.laws.meaning_law.Goals as goal

pub returns : goal.returns
returns c =
    meaning_is
    (record {
      olds = c.old_law.ensures;
      heads = c.same_head_law.ensures;
      ties = c.ties_law.ensures;
      known = c.known_law.ensures;
      roots = c.root_law.ensures;
      starts = c.start_law.ensures;
      copies = c.duplicate_law.ensures;
    })
    c.accessors_law.ensures c.wrapper_law.ensures c.helper_law.ensures
