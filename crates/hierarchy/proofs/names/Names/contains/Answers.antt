use Rattle.std.proofs.Common.{ap, ◌∙◌}
use Rattle.hierarchy.specs.Names.{named, has}
use Rattle.hierarchy.proofs.Keys.{set_has}
use Rattle.hierarchy.proofs.names.Names.contains.Goals as goal

pub returns : goal.returns
returns c =
    c.contains.ensures ∙ set_has (record { name = c.args.name; descriptor = c.args.descriptor; class = c.args.class }) c.self.inside.keys.keys
    ∙ ap (λ names. has names (named c.args.class.now c.args.name.now c.args.descriptor.now)) c.self.view_is
