use Rattle.std.proofs.Common.{◌≡◌, drop}
use Rattle.objects.specs.linking.Reserved.{has_part}
use Rattle.hierarchy.proofs.reserved.has_part.Given as goal

-- the part doesn't begin before this place
abbrev pub invariant-loop-i : goal.invariant-loop-i
invariant-loop-i l = has_part l.part (drop l.i l.text) ≡ has_part l.part l.text
