use Rattle.std.proofs.Common.{subst, arith}
use Rattle.jmodel.specs.format.Reading.{Gives}
use Rattle.bytecode.proofs.CodeLaws.{is_found, code_again}
use Rattle.bytecode.proofs.decoding.decode_bytes.Goals as goal

pub returns-clause-found : goal.returns-clause-found
returns-clause-found c = is_found c.args.pool.now c.args.handlers.now c.args.code.now c.read.result (λ i. omega (arith, c.type_inv.code i)) c.requires c.read.ensures

pub returns-clause-only : goal.returns-clause-only
returns-clause-only c = λ is h. subst (λ r. Gives (λ v. v.items) c.read.result r) (code_again c.args.pool.now c.args.handlers.now c.args.code.now (λ i. omega (arith, c.type_inv.code i)) c.requires is h) c.read.ensures
