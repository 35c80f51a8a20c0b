use Rattle.std.proofs.Common.{ap, ◌∙◌}
use Rattle.std.specs.Prelude.{bytes_eq, position}
use Rattle.linking.specs.Numbering.{Numbered}
use Rattle.linking.proofs.Lookups.{text_there}
use Rattle.linking.proofs.numbering.Numbering.text_number.Goals as goal

pub returns : goal.returns
returns c = c.get.ensures ∙ text_there c.self.inside.layout.now.texts.items c.self.inside.text_numbers c.self.invariant.numbered_texts c.args.text.now ∙ ap (λ (m : Numbered). position (bytes_eq c.args.text.now) m.texts) c.self.view_is
