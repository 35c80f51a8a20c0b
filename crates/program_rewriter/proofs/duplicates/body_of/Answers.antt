use Rattle.std.proofs.Common.{◌∙◌, sym}
use Rattle.program_rewriter.proofs.Parts.{coded_ok, bare_ok, no_code}
use Rattle.program_rewriter.proofs.duplicates.body_of.Goals as goal

pub returns-then-has_code : goal.returns-then-has_code
returns-then-has_code c = coded_ok c.coded_body.result c.args.program.now c.args.method.now c.args.typing.now (sym c.has_code.ensures ∙ c.if-has_code.true) c.coded_body.ensures

pub bare_body-requires : goal.bare_body-requires
bare_body-requires c = no_code c.args.method.now.ops (sym c.has_code.ensures ∙ c.if-has_code.false)

pub returns-else-has_code : goal.returns-else-has_code
returns-else-has_code c =
    let bare = no_code c.args.method.now.ops (sym c.has_code.ensures ∙ c.if-has_code.false) in
    bare_ok c.bare_body.result c.args.program.now c.args.method.now c.args.typing.now bare c.bare_body.ensures.locals c.bare_body.ensures.stack c.bare_body.ensures.ops c.bare_body.ensures.catches
