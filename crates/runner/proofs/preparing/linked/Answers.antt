use Rattle.std.proofs.Common.{map}
use Rattle.objects.proofs.LinkingMeans.{meaning_law}
use Rattle.runner.proofs.preparing.linked.Goals as goal

pub unreachable-requires : goal.unreachable-requires
unreachable-requires c = meaning_law (map (λ k. k.now) c.args.classes.now) c.requires.read (rw c.in-Err-NotBuilt.field-0-is at c.in-Err-NotBuilt.ensures)
