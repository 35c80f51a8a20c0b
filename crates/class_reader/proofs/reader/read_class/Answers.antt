use Rattle.std.proofs.Common.{subst, arith}
use Rattle.jmodel.specs.format.Reading.{Gives}
use Rattle.class_reader.proofs.ClassLaws.{is_found, class_again}
use Rattle.class_reader.proofs.reader.read_class.Goals as goal

pub returns-clause-found : goal.returns-clause-found
returns-clause-found c = is_found c.args.bytes.now c.read.result (λ i. omega (arith, c.type_inv.bytes i)) c.read.ensures

pub returns-clause-only : goal.returns-clause-only
returns-clause-only c = λ k h. subst (λ f. Gives (λ x. x) c.read.result f) (class_again c.args.bytes.now k h) c.read.ensures
