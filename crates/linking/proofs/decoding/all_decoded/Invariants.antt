use Rattle.std.proofs.Common.{◌≡◌, map, drop}
use Rattle.objects.specs.linking.Linking.{all_decoded}
use Rattle.linking.proofs.Decoded.{behind}
use Rattle.linking.proofs.decoding.all_decoded.Given as goal

-- what was decoded, and what is still decoded
abbrev pub invariant-loop-method : goal.invariant-loop-method
invariant-loop-method l = behind l.coded.items (all_decoded (map (λ m. m.now) (drop l.method-index l.methods))) ≡ all_decoded (map (λ m. m.now) l.methods)
