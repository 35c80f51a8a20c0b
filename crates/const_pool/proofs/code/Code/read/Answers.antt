use Rattle.std.proofs.Common.{subst, arith}
use Rattle.jmodel.specs.format.ClassReading.{AnswersCode}
use Rattle.const_pool.proofs.Parts.{code_is_found, code_is_read, code_is_none}
use Rattle.const_pool.proofs.code.Code.read.Goals as goal

pub returns-clause-found : goal.returns-clause-found
returns-clause-found c = code_is_found c.args.pool.now c.args.bytes.now c.read_code.result (λ i. omega (arith, c.type_inv.bytes i)) c.read_code.ensures

pub returns-clause-only : goal.returns-clause-only
returns-clause-only c = λ k h. subst (λ o. AnswersCode c.read_code.result o) (code_is_read c.args.pool.now c.args.bytes.now k h) c.read_code.ensures

pub returns-clause-none : goal.returns-clause-none
returns-clause-none c = λ n k h. code_is_none c.args.pool.now c.args.bytes.now c.read_code.result c.read_code.ensures n k h
