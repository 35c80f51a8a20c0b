use Rattle.std.proofs.Common.{◌≡◌, ℕ, ◌+◌, ◌-◌, ◌∷◌, length, sym, ◌∙◌, subst, add-one, arith}
use Rattle.std.specs.List.{flat_map}
use Rattle.resolution.specs.Ways.{AreReached, IsTable, entry_at}
use Rattle.resolution.proofs.Tables.{lists, as_many}
use Rattle.resolution.proofs.Reaching.{next_reached, settled}
use Rattle.resolution.proofs.ways.reached.Goals as goal

pub loop-step-preserved : goal.loop-step-preserved
loop-step-preserved c = λ cs many listed.
    let direct = c.args.direct.now in
    let D = lists direct in
    let next = lists c.in_ok-next.next.items in
    let is = subst (λ n. IsTable (λ p. p ∷ flat_map (entry_at (lists c.loop-step.table.items)) (entry_at D p)) n next) (sym (as_many direct))
    (subst (λ t. IsTable (λ p. p ∷ flat_map (entry_at (lists t)) (entry_at D p)) (length direct) next) c.as_slice.ensures.value c.in_ok-next.ensures) in
    subst (λ (n : ℕ). AreReached cs n next) (sym (add-one c.loop-step._step))
    (next_reached cs c.loop-step._step D (lists c.loop-step.table.items) next (many ∙ sym (as_many direct)) listed (c.loop-step.invariant cs many listed) is)

pub returns-then-are_same : goal.returns-then-are_same
returns-then-are_same c = λ cs many listed.
    let direct = c.args.direct.now in
    let D = lists direct in
    let table = lists c.loop-step.table.items in
    let next = lists c.in_ok-next.next.items in
    let step : ℕ = c.loop-step._step in
    let is = subst (λ n. IsTable (λ p. p ∷ flat_map (entry_at table) (entry_at D p)) n next) (sym (as_many direct))
    (subst (λ t. IsTable (λ p. p ∷ flat_map (entry_at (lists t)) (entry_at D p)) (length direct) next) c.as_slice.ensures.value c.in_ok-next.ensures) in
    let same = subst (λ t. (p : ℕ) → entry_at next p ≡ entry_at (lists t) p) c.as_slice-in-loop-step-2.ensures.value
    (subst (λ t. (p : ℕ) → entry_at (lists t) p ≡ entry_at (lists c.as_slice-in-loop-step-2.result.now) p) c.as_slice-in-loop-step.ensures.value (c.are_same.ensures c.if-are_same.true)) in
    let all : step + (length cs - step) ≡ length cs = let below = c.loop-step-test.true in omega (arith, many, below) in
    subst (λ (n : ℕ). AreReached cs n table) all
    (settled cs step D table next (many ∙ sym (as_many direct)) listed (c.loop-step.invariant cs many listed) is same (length cs - step))

pub returns : goal.returns
returns c = λ cs many listed.
    let step : ℕ = c.loop-step._step in
    let all : step ≡ length cs = let end = c.loop-step-test.false in omega (arith, many, end) in
    subst (λ (n : ℕ). AreReached cs n (lists c.loop-step.table.items)) all (c.loop-step.invariant cs many listed)
