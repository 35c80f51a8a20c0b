use Rattle.std.proofs.Common.{ap, ◌∙◌}
use Rattle.std.specs.Prelude.{option_map}
use Rattle.std.specs.Option.{option_flatten}
use Rattle.jmodel.specs.declared.refusal.Refusal.TheVariants.{UnknownClass}
use Rattle.hierarchy.proofs.Parts.{got}
use Rattle.resolution.proofs.Caught.{name_there}
use Rattle.resolution.proofs.constructs.name_at.Goals as goal

pub returns : goal.returns
returns c =
    let names = c.args.names.now in
    ap (option_map (λ n. UnknownClass n.now)) (c.flatten.ensures ∙ ap option_flatten (c.copied.ensures ∙ got names c.args.pc c.get.result c.get.ensures.lookup.0 c.get.ensures.lookup.1)) ∙ name_there names c.args.pc
