use Rattle.std.proofs.Common.{◌≡◌, map, take}
use Rattle.heap_layout.specs.Texts.{class_texts}
use Rattle.heap_layout.proofs.texts.all_texts.Given as goal

-- the texts of the classes so far
abbrev pub invariant-loop-class : goal.invariant-loop-class
invariant-loop-class l = map (λ t. t.now) l.texts.items ≡ class_texts (map (λ c. c.now) (take l.class-index l.classes))
