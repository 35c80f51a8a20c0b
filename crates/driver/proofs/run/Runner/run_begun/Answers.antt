use Rattle.std.proofs.Common.{◌≡◌, ◌<◌, ℕ, List, [], length, get_or, Option, Result, sym, subst, arith, rules}
use Rattle.std.specs.Prelude.{IfOk, slice_index_or}
use Rattle.std.specs.declared.alloc.AllocError.{AllocError}
use Rattle.atomic_table.specs.Seated.{TableId}
use Rattle.jmodel.specs.history.Schedule.{Phase}
use Rattle.objects.specs.declared.event.Event.{Event}
use Rattle.objects.specs.semantics.Program.{Program}
use Rattle.tx_table.specs.Passes.{book}
use Rattle.tx_table.specs.declared.shared.Pass.{Pass}
use Rattle.session.specs.declared.record.Lane.{Lane}
use Rattle.driver.specs.declared.memory.Limits.{Limits}
use Rattle.driver.specs.declared.table.Start.{Start}
use Rattle.driver.specs.Passing.{used_of, first_of, IsOfOne}
use Rattle.driver.specs.Telling.{HasRunLane, HaveRunLanes}
use Rattle.driver.proofs.Lists.{if_both}
use Rattle.driver.proofs.run.Runner.run_begun.Goals as goal

-- a lane that ran has run as the one at its place
ran_there : {G : Type 0} (told : G → Option (List Event)) (Q : Program) (limits : Limits) (t : TableId) (seen phase : ℕ) (lanes : Phase) (i : ℕ) (b job : Start × G)
    (r : Result ((Lane × Pass) × G) AllocError)
    → (b.0.lane ≡ i) × (b.0.used ≡ used_of (book b.0.pass) i) × IsOfOne t seen (first_of phase i) b.0.pass → b ≡ job
    → IfOk r (HasRunLane told Q limits t (book job.0.pass).seen phase job.0.lane (slice_index_or lanes job.0.lane []) (told job.1))
    → IfOk r (HasRunLane told Q limits t seen phase i (slice_index_or lanes i []) (told b.1))
ran_there {G} told Q limits t seen phase lanes i b job r at is ran =
    let here = subst (λ (x : Start × G). IfOk r (HasRunLane told Q limits t (book x.0.pass).seen phase x.0.lane (slice_index_or lanes x.0.lane []) (told x.1))) (sym is) ran in
    subst (λ (n : ℕ). IfOk r (HasRunLane told Q limits t seen phase n (slice_index_or lanes n []) (told b.1))) at.0
    (subst (λ (s : ℕ). IfOk r (HasRunLane told Q limits t s phase b.0.lane (slice_index_or lanes b.0.lane []) (told b.1))) at.2.seen_is here)

pub returns : goal.returns
returns g c = λ seen starting.
    let told = g.G.Gate.told in
    let Q = c.args.self.now.rewritten.now in
    let limits = c.args.self.now.limits in
    let t = c.args.shared.now.table.shared.table_id in
    let lanes = c.args.lanes.now in
    let begun = c.args.begun.items in
    if_both _ _ (λ ends. HaveRunLanes told Q limits t seen c.args.phase lanes begun ends.items) c.map_vec.result
    (λ ends len gives.
    let long : length ends.items ≡ length begun = omega (arith, len, ends.ok.0, c.args.begun.ok.0) in
    record {
      len = long;
      each = λ i e b low.
          let there : i < length begun = omega (arith, low, long) in
          let gave = (gives i e there).1 in
          let job = gave.job in
          let ran : IfOk (get_or ends.items i e) (HasRunLane told Q limits t (book job.0.pass).seen c.args.phase job.0.lane (slice_index_or lanes job.0.lane []) (told job.1)) = search rules in
          ran_there told Q limits t seen c.args.phase lanes i (get_or begun i b) job (get_or ends.items i e) (starting i b there) (gave.job_is b) ran;
    }) c.map_vec.ensures.len c.map_vec.ensures.each
