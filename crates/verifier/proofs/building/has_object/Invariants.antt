use Rattle.std.proofs.Common.{◌≡◌, length}
use Rattle.std.specs.List.{list_any}
use Rattle.objects.specs.typing.Typing.{is_uninit}
use Rattle.verifier.proofs.building.has_object.Given as goal

abbrev pub invariant-loop-part : goal.invariant-loop-part
invariant-loop-part l = list_any (is_uninit l.object) l.stack ≡ list_any (is_uninit l.object) l.left

abbrev pub decreases-loop-part : goal.decreases-loop-part
decreases-loop-part l = length l.left
