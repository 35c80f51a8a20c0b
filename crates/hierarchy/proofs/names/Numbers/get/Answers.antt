use Rattle.std.proofs.Common.{sym, ap, ◌∙◌}
use Rattle.hierarchy.specs.Names.{named, number_of}
use Rattle.hierarchy.specs.declared.names.Key.{Key}
use Rattle.hierarchy.proofs.Keys.{number_is}
use Rattle.hierarchy.proofs.names.Numbers.get.Goals as goal

pub returns : goal.returns
returns c =
    let k : Key = record { name = c.args.name; descriptor = c.args.descriptor; class = c.args.class } in
    c.copied.ensures ∙ c.get.ensures.value ∙ sym (number_is k c.self.inside.numbers.entries)
    ∙ ap (λ numbers. number_of numbers (named c.args.class.now c.args.name.now c.args.descriptor.now)) c.self.view_is
