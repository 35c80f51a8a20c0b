use Rattle.std.proofs.Common.{List, ℕ, ap, ◌∙◌}
use Rattle.std.specs.Prelude.{option_and_then}
use Rattle.jmodel.specs.format.PoolAdding.{means_class}
use Rattle.const_pool.specs.Firsts.{first, text_known, key_known}
use Rattle.const_pool.specs.declared.keys.Key.TheVariants.{Class}
use Rattle.const_pool.proofs.SameMeaning.{class_by_name}
use Rattle.const_pool.proofs.index.class_place.Goals as goal

pub returns-in-Some : goal.returns-in-Some
returns-in-Some c =
    let entries = c.args.entries.now in
    let names = key_known c.args.names.now in
    let texts = text_known c.args.texts.now in
    c.place_of_class.ensures
    ∙ ap (λ (t : List ℕ). option_and_then (λ j. names (Class j)) (texts t)) c.as_slice.ensures
    ∙ class_by_name texts names entries c.requires c.in-Some.name.now
    ∙ ap (option_and_then (λ t. first (means_class entries t) entries)) c.in-Some.ensures
