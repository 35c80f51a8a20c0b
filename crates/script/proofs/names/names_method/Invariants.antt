use Rattle.std.proofs.Common.{◌≡◌, false, map, take}
use Rattle.script.specs.Script.{names_method}
use Rattle.script.proofs.names.names_method.Given as goal

-- none so far
abbrev pub invariant-loop-class : goal.invariant-loop-class
invariant-loop-class l = names_method (map (λ c. c.now) (take l.class-index l.classes)) l.text ≡ false
