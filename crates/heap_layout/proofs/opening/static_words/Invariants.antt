use Rattle.std.proofs.Common.{◌≡◌, List, ◌++◌, drop}
use Rattle.std.specs.Prelude.{filter, map}
use Rattle.jmodel.specs.format.ClassFile.{ClassFile}
use Rattle.objects.specs.linking.Members.{is_static}
use Rattle.objects.specs.semantics.Value.{word_of}
use Rattle.objects.specs.linking.Layout.{opening_value}
use Rattle.heap_layout.specs.Opening.{ArePlaces}
use Rattle.heap_layout.proofs.opening.static_words.Given as goal

-- the words so far, and those that are still put
abbrev pub invariant-loop-member : goal.invariant-loop-member
invariant-loop-member l = (cs : List ClassFile) → ArePlaces cs l.texts.numbers l.texts.from
    → l.words.items ++ map (λ m. word_of (opening_value cs l.class.pool m)) (filter is_static (drop l.member-index l.member-items)) ≡ map (λ m. word_of (opening_value cs l.class.pool m)) (filter is_static l.member-items)
