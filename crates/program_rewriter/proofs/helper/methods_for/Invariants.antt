use Rattle.std.proofs.Common.{◌≡◌, [], ◌∷◌, take}
use Rattle.std.specs.List.{flat_map}
use Rattle.objects.specs.rewriting.Rewriting.{element_getter_method, element_setter_method}
use Rattle.program_rewriter.proofs.helper.methods_for.Given as goal

-- the methods so far
abbrev pub invariant-loop-word : goal.invariant-loop-word
invariant-loop-word l = l.methods.items ≡ flat_map (λ t. element_getter_method t ∷ element_setter_method t ∷ []) (take l.word-index l.words)
