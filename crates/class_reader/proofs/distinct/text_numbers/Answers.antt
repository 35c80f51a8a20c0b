use Rattle.std.proofs.Common.{◌≡◌, ◌<◌, length, get_or, ◌∷◌, ◌++◌, [], ℕ, List, sym, ap, ◌∙◌, take, map}
use Rattle.std.proofs.lemmas.List.{map_more}
use Rattle.class_reader.specs.Numbers.{number_known, number_in}
use Rattle.class_reader.proofs.Texts.{known_on, number_is}
use Rattle.class_reader.proofs.distinct.text_numbers.Goals as goal

pub loop-i-preserved : goal.loop-i-preserved
loop-i-preserved c =
    let pool = c.args.pool.now in
    let i = c.loop-i.i in
    let x = c.index-entries-i.result in
    let below : i < length pool = rw c.entries-entries.ensures.value at c.loop-i-test.true in
    let is : x ≡ get_or pool i x = rw c.entries-entries.ensures.value at c.index-entries-i.is in
    let number = number_is pool i x below is (number_known c.loop-i.known) c.loop-i.invariant.0 in (
      known_on pool i x below is (number_known c.loop-i.known) c.loop-i.invariant.0 (number_known c.entry_number.new.known) c.in_ok-number.ensures.known,
      c.in_ok-push.ensures.items
          ∙ ap (λ (ns : List ℕ). ns ++ c.in_ok-number.number ∷ []) c.loop-i.invariant.1
          ∙ ap (λ (n : ℕ). map (number_in pool) (take i pool) ++ n ∷ []) (c.in_ok-number.ensures.number ∙ number ∙ ap (number_in pool) is)
          ∙ sym (map_more (number_in pool) pool i x below),
    )
