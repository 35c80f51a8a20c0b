use Rattle.std.proofs.Common.{take, length, ◌-◌, sym, ◌∙◌}
use Rattle.std.specs.Prelude.{codes}
use Rattle.std.proofs.lemmas.Slice.Eq.{ends_is}
use Rattle.std.proofs.lemmas.Bool.Decides.{Decides-eqb}
use Rattle.deuce.proofs.listing.is_class_file.Goals as goal

pub returns : goal.returns
returns c =
    let text = c.as_bytes.result.now in
    let both = ends_is Decides-eqb text (codes ".class") _ c.ends_with.ensures.value in (
      λ yes. (take (length text - 6) text, sym c.as_bytes.ensures.value ∙ both.0 yes),
      λ named. both.1 named.0 (c.as_bytes.ensures.value ∙ named.1),
    )
