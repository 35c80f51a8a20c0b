use Rattle.std.proofs.Common.{◌≡◌, ℕ, ◌-◌, length, take, drop, ap, ◌∙◌, arith}
use Rattle.std.proofs.lemmas.List.{take_all, length-drop}
use Rattle.jmodel.specs.format.Descriptor.{is_array_name}
use Rattle.resolution.proofs.ArrayElements.{no_brackets}
use Rattle.resolution.proofs.calls.innermost.Goals as goal

pub reference_name-requires : goal.reference_name-requires
reference_name-requires c =
    let name = c.args.name.now in
    let d : ℕ = c.brackets-dimensions.result in
    let whole : take (length name - d) (drop d name) ≡ drop d name = take_all (length name - d) (drop d name) (omega (arith, length-drop d name)) in
    ap is_array_name (whole ∙ ap (λ (n : ℕ). drop n name) c.brackets-dimensions.ensures.exact) ∙ no_brackets name
