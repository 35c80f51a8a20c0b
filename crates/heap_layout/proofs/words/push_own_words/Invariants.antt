use Rattle.std.proofs.Common.{◌≡◌, ◌++◌, drop}
use Rattle.std.specs.Prelude.{filter, map, not}
use Rattle.objects.specs.linking.Members.{is_static}
use Rattle.objects.specs.linking.Layout.{declared_as, field_type, own_words}
use Rattle.heap_layout.proofs.words.push_own_words.Given as goal

-- the words so far, and those that are still put
abbrev pub invariant-loop-member : goal.invariant-loop-member
invariant-loop-member l =
    l.words.items ++ map (λ m. declared_as l.folder (field_type l.class.pool m)) (filter (λ m. not (is_static m)) (drop l.member-index l.member-items)) ≡ l.fn.words.items ++ own_words l.folder l.class
