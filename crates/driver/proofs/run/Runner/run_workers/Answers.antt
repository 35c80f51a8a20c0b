use Rattle.std.proofs.Common.{ℕ, ◌≡◌, ◌≤◌, ◌+◌, ◌*◌, ◌^◌, length, get_or, sym, subst, ◌∙◌, arith}
use Rattle.std.proofs.lemmas.List.{length-map}
use Rattle.claims.specs.Passes.{claims_of, IsOf}
use Rattle.claims.specs.declared.bag.BagPass.{BagPass}
use Rattle.session.specs.declared.claimed.Taken.{Taken}
use Rattle.driver.specs.Bags.{lists, IsRest}
use Rattle.driver.specs.Workers.{AreWorkers, HasWorked}
use Rattle.driver.proofs.Lists.{on_ok}
use Rattle.driver.proofs.Working.{collected_of, few_claims, whole_bag}
use Rattle.driver.proofs.HandedWorkers.{told_workers}
use Rattle.std.proofs.lemmas.Result.{IfOk-from_err}
use Rattle.driver.proofs.run.Runner.run_workers.Goals as goal

pub work_all-requires-clause-workers : goal.work_all-requires-clause-workers
work_all-requires-clause-workers g c = λ κs lives.
    let t = c.args.shared.now.table.shared.table_id in
    let seen = c.requires.starts.0 in (
      seen,
      subst (λ (n : ℕ). AreWorkers t seen c.args.phase c.in-Ok.bag n c.in_ok-workers.workers.items) c.in-Ok.ensures.0
          (c.in_ok-workers.ensures.workers t seen c.args.phase c.requires.starts.1),
    )

pub collect-requires-clause-left : goal.collect-requires-clause-left
collect-requires-clause-left g c =
    let t = c.args.shared.now.table.shared.table_id in
    let seen = c.requires.starts.0 in
    let starting = c.requires.starts.1 in
    let workers = subst (λ (n : ℕ). AreWorkers t seen c.args.phase c.in-Ok.bag n c.in_ok-workers.workers.items) c.in-Ok.ensures.0
    (c.in_ok-workers.ensures.workers t seen c.args.phase starting) in
    let have = c.in_ok-ends.ensures.worked seen workers in
    let long = have.len ∙ c.in_ok-workers.ensures.len in
    subst (λ (n : ℕ). (claims_of c.give_claims.new.claims).left + n * (c.in-Ok.bag.length + 1) ≡ 2 ^ 32) (sym long) c.in_ok-workers.ensures.claims.2

pub collect-requires-clause-ends : goal.collect-requires-clause-ends
collect-requires-clause-ends g c =
    let t = c.args.shared.now.table.shared.table_id in
    let seen = c.requires.starts.0 in
    let starting = c.requires.starts.1 in
    let workers = subst (λ (n : ℕ). AreWorkers t seen c.args.phase c.in-Ok.bag n c.in_ok-workers.workers.items) c.in-Ok.ensures.0
    (c.in_ok-workers.ensures.workers t seen c.args.phase starting) in
    let have = c.in_ok-ends.ensures.worked seen workers in
    λ k d inside. on_ok (get_or c.in_ok-ends.ends.items k d) (HasWorked t seen c.in-Ok.bag c.args.phase k c.args.calls.now)
    (λ (r : Taken × BagPass). IsOf c.in-Ok.bag r.1) (λ r worked. worked.bag) (have.each k d inside)

pub claim_rest-requires-clause-few : goal.claim_rest-requires-clause-few
claim_rest-requires-clause-few g c =
    let t = c.args.shared.now.table.shared.table_id in
    let seen = c.requires.starts.0 in
    let starting = c.requires.starts.1 in
    let workers = subst (λ (n : ℕ). AreWorkers t seen c.args.phase c.in-Ok.bag n c.in_ok-workers.workers.items) c.in-Ok.ensures.0
    (c.in_ok-workers.ensures.workers t seen c.args.phase starting) in
    let calls = c.args.calls.now in
    let count = length c.in_ok-workers.workers.items in
    let all = collected_of t seen c.in-Ok.bag c.args.phase calls count (claims_of c.collect.new.claims) (lists c.in_ok-ends-2.taken.items) c.in_ok-ends.ends.items
    c.in_ok-ends-2.ends.items (c.in_ok-ends.ensures.worked seen workers) (c.in_ok-ends-2.ensures.collected t seen c.args.phase calls c.in-Ok.ensures.0) in
    let few : count ≤ 16 = omega (arith, c.in_ok-workers.ensures.len, c.requires.some.1) in
    let most = few_claims t seen c.args.phase calls count (claims_of c.collect.new.claims) (lists c.in_ok-ends-2.taken.items) c.in_ok-ends-2.ends.items all few in
    (omega (arith, c.in-Ok.ensures.0, c.requires.few), omega (arith, c.in-Ok.ensures.0, most))

pub claim_rest-requires-clause-claims : goal.claim_rest-requires-clause-claims
claim_rest-requires-clause-claims g c =
    let t = c.args.shared.now.table.shared.table_id in
    let seen = c.requires.starts.0 in
    let starting = c.requires.starts.1 in
    let workers = subst (λ (n : ℕ). AreWorkers t seen c.args.phase c.in-Ok.bag n c.in_ok-workers.workers.items) c.in-Ok.ensures.0
    (c.in_ok-workers.ensures.workers t seen c.args.phase starting) in
    let calls = c.args.calls.now in
    let all = collected_of t seen c.in-Ok.bag c.args.phase calls (length c.in_ok-workers.workers.items) (claims_of c.collect.new.claims)
    (lists c.in_ok-ends-2.taken.items) c.in_ok-ends.ends.items
    c.in_ok-ends-2.ends.items (c.in_ok-ends.ensures.worked seen workers) (c.in_ok-ends-2.ensures.collected t seen c.args.phase calls c.in-Ok.ensures.0) in
    (c.in_ok-ends-2.ensures.bag, all.gathered)

pub index_mut-requires : goal.index_mut-requires
index_mut-requires g c =
    let t = c.args.shared.now.table.shared.table_id in
    let seen = c.requires.starts.0 in
    let starting = c.requires.starts.1 in
    let workers = subst (λ (n : ℕ). AreWorkers t seen c.args.phase c.in-Ok.bag n c.in_ok-workers.workers.items) c.in-Ok.ensures.0
    (c.in_ok-workers.ensures.workers t seen c.args.phase starting) in
    let calls = c.args.calls.now in
    let taken = c.in_ok-ends-2.taken in
    let all = collected_of t seen c.in-Ok.bag c.args.phase calls (length c.in_ok-workers.workers.items) (claims_of c.collect.new.claims)
    (lists taken.items) c.in_ok-ends.ends.items
    c.in_ok-ends-2.ends.items (c.in_ok-ends.ensures.worked seen workers) (c.in_ok-ends-2.ensures.collected t seen c.args.phase calls c.in-Ok.ensures.0) in
    omega (arith, taken.ok.0, length-map taken.items (λ w. w.items), all.len, c.in_ok-workers.ensures.len, c.requires.some.0)

pub returns-clause-len : goal.returns-clause-len
returns-clause-len g c =
    let t = c.args.shared.now.table.shared.table_id in
    let seen = c.requires.starts.0 in
    let starting = c.requires.starts.1 in
    let workers = subst (λ (n : ℕ). AreWorkers t seen c.args.phase c.in-Ok.bag n c.in_ok-workers.workers.items) c.in-Ok.ensures.0
    (c.in_ok-workers.ensures.workers t seen c.args.phase starting) in
    let calls = c.args.calls.now in
    let taken = c.in_ok-ends-2.taken.items in
    let count = length c.in_ok-workers.workers.items in
    let all = collected_of t seen c.in-Ok.bag c.args.phase calls count (claims_of c.collect.new.claims) (lists taken) c.in_ok-ends.ends.items
    c.in_ok-ends-2.ends.items (c.in_ok-ends.ensures.worked seen workers) (c.in_ok-ends-2.ensures.collected t seen c.args.phase calls c.in-Ok.ensures.0) in
    let some : 1 ≤ count = subst (λ (n : ℕ). 1 ≤ n) (sym c.in_ok-workers.ensures.len) c.requires.some.0 in
    let left = subst (λ (n : ℕ). IsRest n (claims_of c.collect.new.claims) c.in_ok-claim_rest.ensures.0) c.in-Ok.ensures.0 c.in_ok-claim_rest.ensures.1 in
    (whole_bag t seen c.args.phase calls count (claims_of c.collect.new.claims) taken c.in_ok-claim_rest.ensures.0 c.index_mut.result.now c.claim_rest.new.taken
    c.in_ok-ends-2.ends.items all some left c.index_mut.ensures.value c.in_ok-claim_rest.ensures.2).0 ∙ c.in_ok-workers.ensures.len

pub returns-clause-taken : goal.returns-clause-taken
returns-clause-taken g c =
    let t = c.args.shared.now.table.shared.table_id in
    let seen = c.requires.starts.0 in
    let starting = c.requires.starts.1 in
    let workers = subst (λ (n : ℕ). AreWorkers t seen c.args.phase c.in-Ok.bag n c.in_ok-workers.workers.items) c.in-Ok.ensures.0
    (c.in_ok-workers.ensures.workers t seen c.args.phase starting) in
    let calls = c.args.calls.now in
    let taken = c.in_ok-ends-2.taken.items in
    let count = length c.in_ok-workers.workers.items in
    let all = collected_of t seen c.in-Ok.bag c.args.phase calls count (claims_of c.collect.new.claims) (lists taken) c.in_ok-ends.ends.items
    c.in_ok-ends-2.ends.items (c.in_ok-ends.ensures.worked seen workers) (c.in_ok-ends-2.ensures.collected t seen c.args.phase calls c.in-Ok.ensures.0) in
    let some : 1 ≤ count = subst (λ (n : ℕ). 1 ≤ n) (sym c.in_ok-workers.ensures.len) c.requires.some.0 in
    let left = subst (λ (n : ℕ). IsRest n (claims_of c.collect.new.claims) c.in_ok-claim_rest.ensures.0) c.in-Ok.ensures.0 c.in_ok-claim_rest.ensures.1 in
    (whole_bag t seen c.args.phase calls count (claims_of c.collect.new.claims) taken c.in_ok-claim_rest.ensures.0 c.index_mut.result.now c.claim_rest.new.taken
    c.in_ok-ends-2.ends.items all some left c.index_mut.ensures.value c.in_ok-claim_rest.ensures.2).1

pub returns-clause-ended : goal.returns-clause-ended
returns-clause-ended g c = λ seen starting.
    let t = c.args.shared.now.table.shared.table_id in
    let workers = subst (λ (n : ℕ). AreWorkers t seen c.args.phase c.in-Ok.bag n c.in_ok-workers.workers.items) c.in-Ok.ensures.0
    (c.in_ok-workers.ensures.workers t seen c.args.phase starting) in
    let calls = c.args.calls.now in
    let taken = c.in_ok-ends-2.taken.items in
    let count = length c.in_ok-workers.workers.items in
    let all = collected_of t seen c.in-Ok.bag c.args.phase calls count (claims_of c.collect.new.claims) (lists taken) c.in_ok-ends.ends.items
    c.in_ok-ends-2.ends.items (c.in_ok-ends.ensures.worked seen workers) (c.in_ok-ends-2.ensures.collected t seen c.args.phase calls c.in-Ok.ensures.0) in
    let some : 1 ≤ count = subst (λ (n : ℕ). 1 ≤ n) (sym c.in_ok-workers.ensures.len) c.requires.some.0 in
    let left = subst (λ (n : ℕ). IsRest n (claims_of c.collect.new.claims) c.in_ok-claim_rest.ensures.0) c.in-Ok.ensures.0 c.in_ok-claim_rest.ensures.1 in
    (whole_bag t seen c.args.phase calls count (claims_of c.collect.new.claims) taken c.in_ok-claim_rest.ensures.0 c.index_mut.result.now c.claim_rest.new.taken
    c.in_ok-ends-2.ends.items all some left c.index_mut.ensures.value c.in_ok-claim_rest.ensures.2).2

pub returns-clause-told : goal.returns-clause-told
returns-clause-told g c =
    let t = c.args.shared.now.table.shared.table_id in
    let seen = c.requires.starts.0 in
    let workers = subst (λ (n : ℕ). AreWorkers t seen c.args.phase c.in-Ok.bag n c.in_ok-workers.workers.items) c.in-Ok.ensures.0
    (c.in_ok-workers.ensures.workers t seen c.args.phase c.requires.starts.1) in
    let calls = c.args.calls.now in
    let taken = c.in_ok-ends-2.taken.items in
    let count = length c.in_ok-workers.workers.items in
    let all = collected_of t seen c.in-Ok.bag c.args.phase calls count (claims_of c.collect.new.claims) (lists taken) c.in_ok-ends.ends.items
    c.in_ok-ends-2.ends.items (c.in_ok-ends.ensures.worked seen workers) (c.in_ok-ends-2.ensures.collected t seen c.args.phase calls c.in-Ok.ensures.0) in
    let many : length taken ≡ length c.args.starts.items = sym (length-map taken (λ w. w.items)) ∙ all.len ∙ c.in_ok-workers.ensures.len in
    let some : 1 ≤ length taken = subst (λ (n : ℕ). 1 ≤ n) (sym many) c.requires.some.0 in
    told_workers c.args.self.now.rewritten.now c.args.self.now.limits c.args.phase calls c.in_ok-ends.ends.items c.in_ok-ends-2.ends.items taken c.in_ok-claim_rest.ensures.0 c.index_mut.result.now c.claim_rest.new.taken _ _
    some c.in_ok-ends-2.ensures.sorted c.in_ok-ends.ensures.told c.index_mut.ensures.value c.in_ok-claim_rest.ensures.2

pub work_all-requires-clause-ready : goal.work_all-requires-clause-ready
work_all-requires-clause-ready g c = λ κs lives. c.requires.ready

pub work_all-requires-clause-calls : goal.work_all-requires-clause-calls
work_all-requires-clause-calls g c = λ κs lives. c.requires.calls

pub work_all-requires-clause-few : goal.work_all-requires-clause-few
work_all-requires-clause-few g c = λ κs lives. c.requires.few

pub work_all-requires-clause-attempts : goal.work_all-requires-clause-attempts
work_all-requires-clause-attempts g c = λ κs lives. c.requires.attempts

pub work_all-requires-clause-room_size : goal.work_all-requires-clause-room_size
work_all-requires-clause-room_size g c = λ κs lives. c.requires.room_size

pub work_all-requires-clause-rule : goal.work_all-requires-clause-rule
work_all-requires-clause-rule g c = λ κs lives. c.requires.rule

pub work_all-requires-clause-states : goal.work_all-requires-clause-states
work_all-requires-clause-states g c = λ κs lives. c.requires.states

pub work_all-requires-clause-bag : goal.work_all-requires-clause-bag
work_all-requires-clause-bag g c = λ κs lives. c.in-Ok.ensures.0

pub work_all-requires-clause-gates : goal.work_all-requires-clause-gates
work_all-requires-clause-gates g c = λ κs lives. omega (arith, c.in_ok-workers.ensures.len, c.requires.gates)

pub returns-in_err-workers : goal.returns-in_err-workers
returns-in_err-workers g c =
    let none = c.from_residual.ensures.0 in
    record {
      len = IfOk-from_err _ _ none;
      taken = IfOk-from_err _ _ none;
      ended = λ _ _. IfOk-from_err _ _ none;
      told = IfOk-from_err _ _ none;
    }

pub returns-in_err-ends : goal.returns-in_err-ends
returns-in_err-ends g c =
    let none = c.from_residual-in_err-ends.ensures.0 in
    record {
      len = IfOk-from_err _ _ none;
      taken = IfOk-from_err _ _ none;
      ended = λ _ _. IfOk-from_err _ _ none;
      told = IfOk-from_err _ _ none;
    }

pub returns-in_err-ends-2 : goal.returns-in_err-ends-2
returns-in_err-ends-2 g c =
    let none = c.from_residual-in_err-ends-2.ensures.0 in
    record {
      len = IfOk-from_err _ _ none;
      taken = IfOk-from_err _ _ none;
      ended = λ _ _. IfOk-from_err _ _ none;
      told = IfOk-from_err _ _ none;
    }

pub returns-in_err-claim_rest : goal.returns-in_err-claim_rest
returns-in_err-claim_rest g c =
    let none = c.from_residual-in_err-claim_rest.ensures.0 in
    record {
      len = IfOk-from_err _ _ none;
      taken = IfOk-from_err _ _ none;
      ended = λ _ _. IfOk-from_err _ _ none;
      told = IfOk-from_err _ _ none;
    }
