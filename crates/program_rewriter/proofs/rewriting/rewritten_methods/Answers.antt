use Rattle.program_rewriter.proofs.Tabled.{all_shaped}
use Rattle.program_rewriter.proofs.rewriting.rewritten_methods.Goals as goal

pub old_methods-requires : goal.old_methods-requires
old_methods-requires c = all_shaped c.args.program.now c.requires.source
