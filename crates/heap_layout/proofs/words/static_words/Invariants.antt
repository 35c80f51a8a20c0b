use Rattle.std.proofs.Common.{◌≡◌, ◌++◌, drop}
use Rattle.std.specs.Prelude.{filter, map}
use Rattle.objects.specs.linking.Members.{is_static}
use Rattle.objects.specs.linking.Layout.{declared_as, field_type, static_words}
use Rattle.heap_layout.proofs.words.static_words.Given as goal

-- the words so far, and those that are still put
abbrev pub invariant-loop-member : goal.invariant-loop-member
invariant-loop-member l =
    l.words.items ++ map (λ m. declared_as l.folder (field_type l.class.pool m)) (filter is_static (drop l.member-index l.member-items)) ≡ static_words l.folder l.class
