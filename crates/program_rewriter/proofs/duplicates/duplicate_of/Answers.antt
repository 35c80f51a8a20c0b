use Rattle.std.proofs.Common.{◌∙◌, ap}
use Rattle.member_code.specs.Names.{duplicate_named}
use Rattle.program_rewriter.proofs.Parts.{made_is}
use Rattle.program_rewriter.proofs.duplicates.duplicate_of.Goals as goal

pub returns : goal.returns
returns c =
    let shape = c.in_ok-shape.shape in
    c.new.ensures
    ∙ made_is c.args.program.now c.args.method.now c.args.typing.now c.in_ok-name.name shape.dispatch shape.parameters.items shape.result c.in_ok-body.body (c.in_ok-name.ensures ∙ ap duplicate_named c.name.ensures) c.in_ok-shape.ensures.dispatch c.in_ok-shape.ensures.parameters c.requires c.in_ok-shape.ensures.gives c.in_ok-body.ensures
