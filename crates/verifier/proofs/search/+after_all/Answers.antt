use Rattle.std.proofs.Common.{◌∙◌, sym}
use Rattle.verifier.proofs.Afters.{parts_some, parts_none}
use Rattle.verifier.proofs.search.+after_all.Goals as goal

pub returns-in-Some : goal.returns-in-Some
returns-in-Some t c = c.after_all-in-Some.ensures ∙ parts_some c.args.after c.in-Some.between c.args.types.now c.in-Fork.left.now c.in-Fork.right.now c.in-Fork.ensures.0 (sym c.after_all.ensures ∙ c.in-Some.is)

pub returns-in-None : goal.returns-in-None
returns-in-None t c = parts_none c.args.after c.args.types.now c.in-Fork.left.now c.in-Fork.right.now c.in-Fork.ensures.0 (sym c.after_all.ensures ∙ c.in-None.is)
