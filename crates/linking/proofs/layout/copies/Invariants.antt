use Rattle.std.proofs.Common.{◌≡◌, map, take}
use Rattle.linking.proofs.layout.copies.Given as goal

-- the copies so far
abbrev pub invariant-loop-text : goal.invariant-loop-text
invariant-loop-text l = l.copied.items ≡ map (λ t. t.now) (take l.text-index l.texts)
