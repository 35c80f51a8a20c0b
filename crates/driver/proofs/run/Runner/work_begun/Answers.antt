use Rattle.std.proofs.Common.{◌≡◌, ◌<◌, ℕ, List, length, get_or, Option, Result, sym, subst, arith, rules}
use Rattle.std.specs.Prelude.{IfOk}
use Rattle.std.specs.declared.alloc.AllocError.{AllocError}
use Rattle.atomic_table.specs.Seated.{TableId}
use Rattle.claims.specs.declared.bag.Bag.{Bag}
use Rattle.claims.specs.declared.bag.BagPass.{BagPass}
use Rattle.jmodel.specs.history.Schedule.{Known}
use Rattle.objects.specs.declared.event.Event.{Event}
use Rattle.objects.specs.semantics.Program.{Program}
use Rattle.tx_table.specs.Passes.{book}
use Rattle.session.specs.declared.claimed.Taken.{Taken}
use Rattle.driver.specs.declared.memory.Limits.{Limits}
use Rattle.driver.specs.declared.workers.Worker.{Worker}
use Rattle.driver.specs.Passing.{used_of, first_of, IsOfOne}
use Rattle.driver.specs.Workers.{MayClaim}
use Rattle.driver.specs.Telling.{HasRunWorker, HaveRunWorkers}
use Rattle.driver.proofs.Lists.{if_both}
use Rattle.driver.proofs.run.Runner.work_begun.Goals as goal

-- a worker that ran has run as the one at its place
worked_there : {G : Type 0} (told : G → Option (List Event)) (Q : Program) (limits : Limits) (t : TableId) (seen : ℕ) (bag : Bag) (phase n : ℕ) (calls : List Known) (i : ℕ) (w job : Worker × G)
    (r : Result ((Taken × BagPass) × G) AllocError)
    → (w.0.start.lane ≡ i) × (w.0.start.used ≡ used_of (book w.0.start.pass) i) × IsOfOne t seen (first_of phase i) w.0.start.pass × MayClaim bag n w.0.claims → w ≡ job
    → IfOk r (HasRunWorker told Q limits t (book job.0.start.pass).seen bag phase job.0.start.lane calls (told job.1))
    → IfOk r (HasRunWorker told Q limits t seen bag phase i calls (told w.1))
worked_there {G} told Q limits t seen bag phase n calls i w job r at is ran =
    let here = subst (λ (x : Worker × G). IfOk r (HasRunWorker told Q limits t (book x.0.start.pass).seen bag phase x.0.start.lane calls (told x.1))) (sym is) ran in
    subst (λ (k : ℕ). IfOk r (HasRunWorker told Q limits t seen bag phase k calls (told w.1))) at.0
    (subst (λ (s : ℕ). IfOk r (HasRunWorker told Q limits t s bag phase w.0.start.lane calls (told w.1))) at.2.seen_is here)

pub returns : goal.returns
returns g c = λ seen starting.
    let told = g.G.Gate.told in
    let Q = c.args.self.now.rewritten.now in
    let limits = c.args.self.now.limits in
    let t = c.args.shared.now.table.shared.table_id in
    let bag = c.args.bag.now in
    let calls = c.args.calls.now in
    let begun = c.args.begun.items in
    if_both _ _ (λ ends. HaveRunWorkers told Q limits t seen bag c.args.phase calls begun ends.items) c.map_vec.result
    (λ ends len gives.
    let long : length ends.items ≡ length begun = omega (arith, len, ends.ok.0, c.args.begun.ok.0) in
    record {
      len = long;
      each = λ i e w low.
          let there : i < length begun = omega (arith, low, long) in
          let gave = (gives i e there).1 in
          let job = gave.job in
          let ran : IfOk (get_or ends.items i e) (HasRunWorker told Q limits t (book job.0.start.pass).seen bag c.args.phase job.0.start.lane calls (told job.1)) = search rules in
          worked_there told Q limits t seen bag c.args.phase (length calls) calls i (get_or begun i w) job (get_or ends.items i e) (starting i w there) (gave.job_is w) ran;
    }) c.map_vec.ensures.len c.map_vec.ensures.each
