use Rattle.std.proofs.Common.{ap, ◌∙◌, not, ◌||◌}
use Rattle.objects.specs.linking.Members.{is_name}
use Rattle.hierarchy.specs.Names.{named, has}
use Rattle.hierarchy.proofs.Keys.{set_has, set_with}
use Rattle.hierarchy.proofs.names.Names.insert.Goals as goal

pub returns-clause-is_new : goal.returns-clause-is_new
returns-clause-is_new c =
    c.in_ok-insert.ensures.added ∙ ap not (set_has (record { name = c.args.name; descriptor = c.args.descriptor; class = c.args.class }) c.self.inside.keys.keys
    ∙ ap (λ names. has names (named c.args.class.now c.args.name.now c.args.descriptor.now)) c.self.view_is)

pub returns-clause-added : goal.returns-clause-added
returns-clause-added c = λ q.
    set_with (record { name = c.args.name; descriptor = c.args.descriptor; class = c.args.class }) c.self.inside.keys.keys c.insert.new.self.keys c.in_ok-insert.ensures.updates.0 q
    ∙ ap (λ names. has names q || is_name q (named c.args.class.now c.args.name.now c.args.descriptor.now)) c.self.view_is
