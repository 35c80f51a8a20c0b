use Rattle.std.proofs.Common.{◌≡◌, List, ℕ, [], Some, None, sym, ap, ◌∙◌}
use Rattle.std.specs.Prelude.{option_copied}
use Rattle.hierarchy.specs.Names.{named, number_of}
use Rattle.heap_layout.proofs.Images.{text_found, text_lost}
use Rattle.heap_layout.proofs.opening.text_word.Goals as goal

pub returns-in_ok-sum-in-Some-get : goal.returns-in_ok-sum-in-Some-get
returns-in_ok-sum-in-Some-get c = λ cs are.
    let numbers = c.args.texts.now.numbers in
    let is = sym c.constant_text.ensures ∙ ap option_copied c.in-Some.is in
    let found : number_of numbers (named c.in-Some.text.now [] []) ≡ Some c.in-Some-get.number =
    ap (λ (t : List ℕ). number_of numbers (named t [] [])) (sym c.as_slice.ensures) ∙ sym c.get.ensures ∙ c.in-Some-get.is in
    text_found cs numbers c.args.texts.now.from c.args.pool.now c.args.field.now c.in-Some.text.now are is c.in-Some-get.number c.in_ok-sum-in-Some-get.field-0 found c.in_ok-sum-in-Some-get.ensures

pub returns-in-None : goal.returns-in-None
returns-in-None c = λ cs are.
    let numbers = c.args.texts.now.numbers in
    let is = sym c.constant_text.ensures ∙ ap option_copied c.in-Some.is in
    let lost : number_of numbers (named c.in-Some.text.now [] []) ≡ None =
    ap (λ (t : List ℕ). number_of numbers (named t [] [])) (sym c.as_slice.ensures) ∙ sym c.get.ensures ∙ c.in-None.is in
    text_lost cs numbers c.args.texts.now.from c.args.pool.now c.args.field.now c.in-Some.text.now are is lost
