use Rattle.std.proofs.Common.{◌≡◌, List, ℕ, take, map}
use Rattle.class_reader.specs.Numbers.{number_known, number_in, is_text}
use Rattle.class_reader.proofs.Texts.{place_of}
use Rattle.class_reader.proofs.distinct.text_numbers.Given as goal

abbrev pub invariant-loop-i : goal.invariant-loop-i
invariant-loop-i l =
    ((q : List ℕ) → number_known l.known q ≡ place_of (is_text q) (take l.i l.pool)) × (l.numbers.items ≡ map (number_in l.pool) (take l.i l.pool))
