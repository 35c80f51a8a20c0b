-- The loads of parameters, as a loop collects them.
use Rattle.std.proofs.Common.{◌≡◌, ℕ, suc, ◌+◌, ◌≤◌, ◌<◌, List, ◌++◌, length, drop, get_or, sym, ap, ◌∙◌, append_assoc, add-one}
use Rattle.std.proofs.lemmas.List.{append-nil, drop_all}
use Rattle.jmodel.specs.declared.typing.VType.{VType}
use Rattle.jmodel.specs.declared.instruction.Instr.{Instr}
use Rattle.member_code.proofs.Grow.{item_is}
use Rattle.retry_wrapper.specs.Wrappers.{one_load, loads_from}

-- one more load
pub loads_go_on : (front : List Instr) (ps : List VType) (i : ℕ) (t : VType) → i < length ps → t ≡ get_or ps i t → front ++ loads_from i (drop i ps) ≡ loads_from 0 ps
    → (front ++ one_load i t) ++ loads_from (i + 1) (drop (i + 1) ps) ≡ loads_from 0 ps
loads_go_on front ps i t h is so_far =
    ap (λ (n : ℕ). (front ++ one_load i t) ++ loads_from n (drop (i + 1) ps)) (add-one i)
    ∙ append_assoc front (one_load i t) (loads_from (suc i) (drop (i + 1) ps))
    ∙ sym (ap (λ (ts : List VType). front ++ loads_from i ts) (item_is ps i t h is))
    ∙ so_far

-- after the last
pub loads_are_done : (front : List Instr) (ps : List VType) (i : ℕ) → length ps ≤ i → front ++ loads_from i (drop i ps) ≡ loads_from 0 ps → front ≡ loads_from 0 ps
loads_are_done front ps i h so_far = sym (append-nil front) ∙ sym (ap (λ (ts : List VType). front ++ loads_from i ts) (drop_all i ps h)) ∙ so_far
