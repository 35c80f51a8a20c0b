use Rattle.std.proofs.Common.{◌≡◌, ℕ, List, take}
use Rattle.jmodel.specs.format.ClassRules.{same_text}
use Rattle.const_pool.specs.Firsts.{first, text_known}
use Rattle.script.specs.Script.{call_text}
use Rattle.script.proofs.names.numbers_of.Given as goal

-- the first of the methods so far
abbrev pub invariant-loop-number : goal.invariant-loop-number
invariant-loop-number l = (text : List ℕ) → text_known l.numbers text ≡ first (λ k. same_text (call_text k) text) (take l.number l.method-items)
