use Rattle.std.proofs.Common.{◌≡◌, ◌++◌, ◌∙◌}
use Rattle.std.specs.Prelude.{replicate}
use Rattle.tx_table.proofs.Heaps.{opens_at}
use Rattle.tx_table.proofs.shared.Shared.open.Goals as goal

pub of_words-requires : goal.of_words-requires
of_words-requires g c =
    let zeros : c.in_ok-all.all.items ≡ replicate 4097 0 = c.in_ok-all.ensures.items_if_clones_equal (λ y e. e) in
    let same : c.as_slice.result.now ≡ (g.T.Story.story c.args.story.value).words = c.as_slice.ensures.value ∙ c.requires.words in
    opens_at (Unit {0}) (g.T.Story.story c.args.story.value) c.as_slice-2.result.now (c.as_slice-2.ensures.value ∙ (c.in_ok-extend_from_slice.ensures.items ∙ (λ i. zeros i ++ same i)))
