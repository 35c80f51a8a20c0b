use Rattle.std.proofs.Common.{◌≡◌, map, take}
use Rattle.verifier.specs.Rules.{want_type}
use Rattle.verifier.proofs.rule.want_types.Given as goal

abbrev pub invariant-loop-want : goal.invariant-loop-want
invariant-loop-want l = l.types.items ≡ map want_type (take l.want-index l.wants)
