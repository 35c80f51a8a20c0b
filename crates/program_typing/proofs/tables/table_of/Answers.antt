use Rattle.std.proofs.Common.{◌≡◌, Some, true, sym, ◌∙◌}
use Rattle.objects.specs.semantics.Program.{has_code}
use Rattle.program_typing.proofs.Numbered.{the_method}
use Rattle.program_typing.proofs.Tabled.{found, not_found}
use Rattle.program_typing.proofs.tables.table_of.Goals as goal

pub returns-clause-table : goal.returns-clause-table
returns-clause-table c =
    let P = c.args.program.now in
    let x = c.index-methods-number.result in
    let code : has_code (Some x) ≡ true = sym c.has_code.ensures ∙ c.if-not-has_code.false in
    found P c.args.number x code (λ k there. the_method c.methods.result.now P.methods c.args.number x c.methods.ensures c.index-methods-number.is k there) c.infer.result c.infer.ensures.ok

pub returns-clause-cause : goal.returns-clause-cause
returns-clause-cause c =
    let P = c.args.program.now in
    let x = c.index-methods-number.result in
    let code : has_code (Some x) ≡ true = sym c.has_code.ensures ∙ c.if-not-has_code.false in
    not_found P c.args.number x code (λ k there. the_method c.methods.result.now P.methods c.args.number x c.methods.ensures c.index-methods-number.is k there) c.infer.result c.infer.ensures.err
