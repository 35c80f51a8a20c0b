use Rattle.std.proofs.Common.{arith}
use Rattle.jmodel.specs.format.ClassRules.{Spells}
use Rattle.rewriter.specs.Asked.{AreFiled}
use Rattle.deuce.proofs.Filed.{filed}
use Rattle.deuce.proofs.Lists.{on_ok}
use Rattle.deuce.proofs.classes.class_of.Goals as goal

pub returns-clause-filed : goal.returns-clause-filed
returns-clause-filed c =
    on_ok c.read_class.result (Spells c.args.bytes.now) AreFiled (λ file spells. filed c.args.bytes.now file (λ i. omega (arith, c.type_inv.bytes i)) spells) c.read_class.ensures.found
