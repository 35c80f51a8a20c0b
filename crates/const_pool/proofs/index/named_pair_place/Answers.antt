use Rattle.std.proofs.Common.{List, ℕ, Option, Some, ap, ◌∙◌}
use Rattle.std.specs.Prelude.{option_and_then}
use Rattle.jmodel.specs.format.Pool.{both, utf8}
use Rattle.jmodel.specs.format.PoolAdding.{means_pair}
use Rattle.const_pool.specs.Firsts.{first, text_known, key_known, key_of}
use Rattle.const_pool.specs.declared.keys.Key.TheVariants.{Pair}
use Rattle.const_pool.proofs.SameMeaning.{pair_by_names}
use Rattle.const_pool.proofs.index.named_pair_place.Goals as goal

pub returns : goal.returns
returns c =
    let entries = c.args.entries.now in
    let names = key_known c.args.names.now in
    let texts = text_known c.args.texts.now in
    let found : Option (List ℕ × List ℕ) → Option ℕ = option_and_then (λ p. first (means_pair entries p.0 p.1) entries) in
    c.place_of_pair.ensures
    ∙ ap (λ (t : List ℕ). option_and_then names (key_of Pair (both (texts t) (texts c.as_slice-2.result.now)))) c.as_slice.ensures
    ∙ ap (λ (t : List ℕ). option_and_then names (key_of Pair (both (texts c.in_ok-name.name.now) (texts t)))) c.as_slice-2.ensures
    ∙ pair_by_names texts names entries c.requires c.in_ok-name.name.now c.in_ok-descriptor.descriptor.now
    ∙ ap (λ o. found (both o (Some c.in_ok-descriptor.descriptor.now))) c.in_ok-name.ensures
    ∙ ap (λ o. found (both (utf8 entries c.args.name) o)) c.in_ok-descriptor.ensures
