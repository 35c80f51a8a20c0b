use Rattle.std.proofs.Common.{ℕ, List, [], ◌++◌, subst, ◌≡◌, ◌+◌, refl, sym, ◌∙◌, arith}
use Rattle.std.proofs.lemmas.List.{append-nil}
use Rattle.std.proofs.lemmas.Result.{err_from_is_err_and}
use Rattle.jmodel.specs.declared.value.Answer.TheVariants as answer
use Rattle.machine.specs.declared.running.Stage.TheVariants.{Ready, Open}
use Rattle.objects.specs.rewriting.Attempt.{Gives, Refuses, on_commit}
use Rattle.machine.specs.Machine.{bounds_of, Begins}
use Rattle.machine.specs.Running.{at, frames, meter, Saw, refusal}
use Rattle.objects.specs.declared.event.Event.{Event}
use Rattle.objects.specs.rewriting.Events.{Grows}
use Rattle.machine.proofs.Comes.{comes_trans}
use Rattle.machine.proofs.Ways.{grows_same, grows_trans, open_append, nothing_told}
use Rattle.machine.proofs.Ends.{within_open, within_end, way_start, way_on, told_turn, turn_fails, comes_turned, commit_ends, ends_by, last_made, leaves_of, added_as, may_refuse, turn_refused, refused_unlike}
use Rattle.machine.proofs.Knowing.{saw_fewer}
use Rattle.machine.proofs.Seen.{seen_committed, seen_spent, seen_again}
use Rattle.machine.proofs.running.Running.run.Goals as goal
use Rattle.machine.proofs.running.Running.run.Goals.{in-Go, in-Commit+in_ok-end-in-Commit+in_default}

pub returns-in_err-turn-clause-run : goal.returns-in_err-turn-clause-run
returns-in_err-turn-clause-run g c = λ h n kc s aw.
    let p = err_from_is_err_and c.from_residual.result c.from_residual.ensures.1 in
    let o = c.loop.invariant.3 h n kc s aw in
    rw (p.1, p.2) (turn_fails c.args.program.now (bounds_of c.args.limits) (at c.args.self.now [] []) (at c.loop.self o.writes o.reads) o.events (Grows (g.G.Gate.told c.loop.gate) (g.G.Gate.told c.turn.new.gate)) (Grows (g.G.Gate.told c.args.gate.now) (g.G.Gate.told c.turn.new.gate)) (g.E.Engine.awaits c.args.tx.now) g.E.Engine.allows (Begins (g.E.Engine.attempts c.args.tx.now) (g.E.Engine.attempts c.turn.new.engine)) (g.E.Engine.stands c.turn.new.engine) h n (Saw g.E.Engine.is_shared g.E.Engine.begins g.E.Engine.allows h kc c.args.limits.room.used) c.turn.new.self c.in_err-turn.field-0.0 o.comes o.no_entry (λ es t. grows_trans _ _ _ o.events es o.told t) (c.in_err-turn.ensures.run h n o.reads o.writes kc c.args.limits.room.used (c.loop.invariant.2 kc c.args.limits.room.used aw) o.holds))

pub returns-in_err-turn-clause-ticks : goal.returns-in_err-turn-clause-ticks
returns-in_err-turn-clause-ticks g c = within_end _ _ _ _ _ (c.in_err-turn.ensures.ticks _ c.loop.invariant.0)

pub commit-requires-clause-clock : goal.commit-requires-clause-clock
commit-requires-clause-clock g c = within_open _ _ _ _ _ (c.in_ok-turn.ensures.ticks _ c.loop.invariant.0) ((rw c.in-Commit.is at c.in_ok-turn.ensures.open) refl) c.requires.clock

pub commit-requires-clause-next : goal.commit-requires-clause-next
commit-requires-clause-next g c = (rw c.in-Commit.is at c.in_ok-turn.ensures.next) refl

pub returns-in_err-end-in-Commit-clause-run : goal.returns-in_err-end-in-Commit-clause-run
returns-in_err-end-in-Commit-clause-run g c = λ h n kc s aw.
    let p = err_from_is_err_and c.from_residual-in_err-end-in-Commit.result c.from_residual-in_err-end-in-Commit.ensures.1 in
    let o = c.loop.invariant.3 h n kc s aw in
    let u = (rw c.in-Commit.is at c.in_ok-turn.ensures.run) h n o.reads o.writes kc c.args.limits.room.used (c.loop.invariant.2 kc c.args.limits.room.used aw) o.holds in
    let t = u.turn in
    let e = (rw c.in-Commit.is at c.in_ok-turn.ensures.open) refl in
    let B = bounds_of c.args.limits in
    rw (p.1, p.2) (commit_ends c.args.program.now B (at c.args.self.now [] []) (λ v. on_commit B v (frames c.turn.new.self) (meter c.turn.new.self) t.1 t.0)
    (g.E.Engine.awaits c.args.tx.now) (g.E.Engine.awaits c.turn.new.engine) g.E.Engine.allows (Begins (g.E.Engine.attempts c.args.tx.now) (g.E.Engine.attempts c.commit.new.engine)) (Grows (g.G.Gate.told c.args.gate.now) (g.G.Gate.told c.commit.new.gate)) (g.E.Engine.stands c.commit.new.engine) h n (Saw g.E.Engine.is_shared g.E.Engine.begins g.E.Engine.allows h kc c.args.limits.room.used) c.commit.new.self (meter c.turn.new.self) t.0 t.1 c.in_err-end-in-Commit.field-0.0
    (told_turn (Grows (g.G.Gate.told c.loop.gate) (g.G.Gate.told c.commit.new.gate)) _ o.events u.events o.no_entry u.no_entry (λ es t. grows_trans _ _ _ o.events es o.told t)
    (nothing_told _ (subst (λ (l : List Event). Grows (g.G.Gate.told c.loop.gate) (g.G.Gate.told c.commit.new.gate) l) (append-nil (u.events ++ [])) (grows_trans _ _ _ (u.events ++ []) [] t.4.1 c.in_err-end-in-Commit.ensures.told)))) (comes_turned c.args.program.now B (at c.args.self.now [] []) (at c.loop.self o.writes o.reads) o.events _ _ _ _ _ (Gives 0) o.comes u (t.3 (Gives 0)))
    (c.in_err-end-in-Commit.ensures.run h n t.0 t.1 kc c.args.limits.room.used (rw e at t.2)))

pub returns-in_err-end-in-Commit-clause-ticks : goal.returns-in_err-end-in-Commit-clause-ticks
returns-in_err-end-in-Commit-clause-ticks g c =
    let e = (rw c.in-Commit.is at c.in_ok-turn.ensures.open) refl in
    within_end _ _ _ _ _ (c.in_err-end-in-Commit.ensures.ticks _ _ (rw e at (c.in_ok-turn.ensures.ticks _ c.loop.invariant.0)))

pub returns-in-Some-clause-run : goal.returns-in-Some-clause-run
returns-in-Some-clause-run g c = λ h n kc s aw.
    let o = c.loop.invariant.3 h n kc s aw in
    let u = (rw c.in-Commit.is at c.in_ok-turn.ensures.run) h n o.reads o.writes kc c.args.limits.room.used (c.loop.invariant.2 kc c.args.limits.room.used aw) o.holds in
    let t = u.turn in
    let e = (rw c.in-Commit.is at c.in_ok-turn.ensures.open) refl in
    let k = (rw c.in-Some.is at c.in_ok-end-in-Commit.ensures.run) h n t.0 t.1 kc c.args.limits.room.used (rw e at t.2) in
    let B = bounds_of c.args.limits in
    let x = seen_committed c.args.program.now B (Saw g.E.Engine.is_shared g.E.Engine.begins g.E.Engine.allows h kc c.args.limits.room.used) (saw_fewer g.E.Engine.is_shared g.E.Engine.begins g.E.Engine.allows h kc c.args.limits.room.used) (at c.args.self.now [] []) c.loop.self o.writes o.reads o.events [] [] _ _ c.turn.new.self _ c.in-Some.end.answer _ t.1 t.0 (Gives 0) o.comes o.knows u (t.3 (Gives 0)) (t.4.0 (Gives 0)) k.0.0 (last_made c.in-Some.end.answer k.0.1) e c.in_ok-turn.ensures.moves t.2.knew in
    ends_by c.args.program.now B (at c.args.self.now [] []) (g.E.Engine.awaits c.args.tx.now) g.E.Engine.allows (Begins (g.E.Engine.attempts c.args.tx.now) (g.E.Engine.attempts c.commit.new.engine)) (Grows (g.G.Gate.told c.args.gate.now) (g.G.Gate.told c.commit.new.gate)) (g.E.Engine.stands c.commit.new.engine) h n (Saw g.E.Engine.is_shared g.E.Engine.begins g.E.Engine.allows h kc c.args.limits.room.used) c.in-Some.end c.in-Some.end.answer k.0.1 (record {
      reads = t.0;
      writes = t.1;
      meter_then = meter c.turn.new.self;
      steps = o.events ++ ((u.events ++ []) ++ []);
      comes = x.0;
      knows = x.1;
      told = rw (append-nil (u.events ++ [])) (grows_trans _ _ _ (o.events ++ (u.events ++ [])) _ (grows_trans _ _ _ o.events (u.events ++ []) o.told t.4.1) (rw c.in-Some.is at c.in_ok-end-in-Commit.ensures.told));
      leaves = sym k.0.2;
      begun = λ j a. c.in_ok-end-in-Commit.ensures.attempts _ (c.in_ok-turn.ensures.attempts j (c.loop.invariant.4 j a));
      added = added_as (g.E.Engine.awaits c.args.tx.now) (g.E.Engine.awaits c.turn.new.engine) g.E.Engine.allows (g.E.Engine.stands c.commit.new.engine) h n c.args.limits.room.used c.turn.new.self.tried c.in-Some.end t.0 t.1
          (λ k used a. c.in_ok-turn.ensures.awaits k used (c.loop.invariant.2 k used a)) k.1;
    })

pub returns-in-Some-clause-ticks : goal.returns-in-Some-clause-ticks
returns-in-Some-clause-ticks g c =
    let e = (rw c.in-Commit.is at c.in_ok-turn.ensures.open) refl in
    within_end _ _ _ _ _ (c.in_ok-end-in-Commit.ensures.ticks _ _ (rw e at (c.in_ok-turn.ensures.ticks _ c.loop.invariant.0)))

pub refuse-requires-clause-open : goal.refuse-requires-clause-open
refuse-requires-clause-open g c = c.in_ok-turn.ensures.begun ((rw c.in-Refuse.is at c.in_ok-turn.ensures.refuse) c.in-Refuse.limit refl)

pub refuse-requires-clause-allowed : goal.refuse-requires-clause-allowed
refuse-requires-clause-allowed g c = λ shared.
    let m = c.requires.ready shared in
    let o = c.loop.invariant.3 m.history m.conflicts m.call m.stands m.awaits in
    let u = (rw c.in-Refuse.is at c.in_ok-turn.ensures.run) m.history m.conflicts o.reads o.writes m.call c.args.limits.room.used (c.loop.invariant.2 m.call c.args.limits.room.used m.awaits) o.holds in
    let t = u.turn in
    rw c.answer-answer.ensures (may_refuse c.args.program.now (bounds_of c.args.limits) (at c.args.self.now [] []) g.E.Engine.allows (g.E.Engine.stands c.args.tx.now) (g.E.Engine.stands c.turn.new.engine)
    (g.E.Engine.awaits c.args.tx.now) (g.E.Engine.awaits c.turn.new.engine) m (refusal c.in-Refuse.limit c.turn.new.self.used c.args.limits.room.size) (meter c.turn.new.self) t.0 t.1 t.2.conflicts
    (λ k used a. c.in_ok-turn.ensures.awaits k used (c.loop.invariant.2 k used a)) t.2.stands (refused_unlike c.in-Refuse.limit _ _)
    (comes_turned c.args.program.now (bounds_of c.args.limits) (at c.args.self.now [] []) (at c.loop.self o.writes o.reads) o.events _ _ _ _ _ t.3.0 o.comes u t.3.1))

pub commit-requires-clause-allowed : goal.commit-requires-clause-allowed
commit-requires-clause-allowed g c = λ shared.
    let m = c.requires.ready shared in
    let o = c.loop.invariant.3 m.history m.conflicts m.call m.stands m.awaits in
    let u = (rw c.in-Commit.is at c.in_ok-turn.ensures.run) m.history m.conflicts o.reads o.writes m.call c.args.limits.room.used (c.loop.invariant.2 m.call c.args.limits.room.used m.awaits) o.holds in
    let t = u.turn in
    let B = bounds_of c.args.limits in
    record {
      history = m.history;
      conflicts = t.2.conflicts;
      reads = t.0;
      writes = t.1;
      call = m.call;
      stands = t.2.stands;
      awaits = c.in_ok-turn.ensures.awaits m.call B.used (c.loop.invariant.2 m.call B.used m.awaits);
      allowed = λ x last comes. m.allowed x (meter c.turn.new.self) t.0 t.1 (last_made x last)
          (comes_trans c.args.program.now B (at c.args.self.now [] []) _ _ (comes_turned c.args.program.now B (at c.args.self.now [] []) (at c.loop.self o.writes o.reads) o.events _ _ _ _ _ (Gives 0) o.comes u (t.3 (Gives 0))) comes);
    }

pub returns-in-Refuse-clause-run : goal.returns-in-Refuse-clause-run
returns-in-Refuse-clause-run g c = λ h n kc s aw.
    let o = c.loop.invariant.3 h n kc s aw in
    let k = c.refuse in
    let K = Saw g.E.Engine.is_shared g.E.Engine.begins g.E.Engine.allows h kc c.args.limits.room.used in
    turn_refused c.args.program.now (bounds_of c.args.limits) (at c.args.self.now [] []) (g.E.Engine.awaits c.args.tx.now) (g.E.Engine.awaits c.turn.new.engine) g.E.Engine.allows (Begins (g.E.Engine.attempts c.args.tx.now) (g.E.Engine.attempts k.new.tx)) (Grows (g.G.Gate.told c.args.gate.now) (g.G.Gate.told k.new.gate)) (Grows (g.G.Gate.told c.args.gate.now) (g.G.Gate.told c.loop.gate)) (g.E.Engine.stands c.loop.tx h) (g.E.Engine.stands c.turn.new.engine) (g.E.Engine.stands k.new.tx) h n K c.loop.self c.turn.new.self k.result c.answer-answer.result c.in-Refuse.limit (Grows (g.G.Gate.told c.loop.gate) (g.G.Gate.told c.turn.new.gate))
    (saw_fewer g.E.Engine.is_shared g.E.Engine.begins g.E.Engine.allows h kc c.args.limits.room.used) c.in_ok-turn.ensures.moves ((rw c.in-Refuse.is at c.in_ok-turn.ensures.refuse) c.in-Refuse.limit refl) o
    (λ es t. grows_trans _ _ _ (o.events ++ es) _ (grows_trans _ _ _ o.events es o.told t) k.ensures.told)
    ((rw c.in-Refuse.is at c.in_ok-turn.ensures.run) h n o.reads o.writes kc c.args.limits.room.used (c.loop.invariant.2 kc c.args.limits.room.used aw) o.holds)
    (λ k used a. c.in_ok-turn.ensures.awaits k used (c.loop.invariant.2 k used a)) (λ j a. k.ensures.attempts _ (c.in_ok-turn.ensures.attempts j (c.loop.invariant.4 j a))) k.ensures.used k.ensures.answer c.answer-answer.ensures (k.ensures.run h)

pub returns-in-Refuse-clause-ticks : goal.returns-in-Refuse-clause-ticks
returns-in-Refuse-clause-ticks g c = rw c.refuse.ensures.ticks (within_end _ _ _ _ _ (c.in_ok-turn.ensures.ticks _ c.loop.invariant.0))

pub returns-in-Spent-clause-run : goal.returns-in-Spent-clause-run
returns-in-Spent-clause-run g c = λ h n kc s aw.
    let o = c.loop.invariant.3 h n kc s aw in
    let u = (rw c.in-Spent.is at c.in_ok-turn.ensures.run) h n o.reads o.writes kc c.args.limits.room.used (c.loop.invariant.2 kc c.args.limits.room.used aw) o.holds in
    let t = u.turn in
    let e = (rw c.in-Spent.is at c.in_ok-turn.ensures.spent) refl in
    let i = rw e at t.2.idle in
    let k = rw e at t.2.tries in
    let q : t.2.conflicts ≡ n + c.turn.new.self.tried = omega arith in
    let x = seen_spent c.args.program.now (bounds_of c.args.limits) (Saw g.E.Engine.is_shared g.E.Engine.begins g.E.Engine.allows h kc c.args.limits.room.used) (saw_fewer g.E.Engine.is_shared g.E.Engine.begins g.E.Engine.allows h kc c.args.limits.room.used) (at c.args.self.now [] []) c.loop.self o.writes o.reads o.events t.3.2.0 _ _ c.turn.new.self _ t.3.0 o.comes o.knows u t.3.1 t.3.2.1 e c.in_ok-turn.ensures.moves in
    rw c.unplaced.ensures (record {
      meter_then = meter c.turn.new.self;
      steps = o.events ++ (u.events ++ t.3.2.0);
      no_entry = open_append o.events (u.events ++ t.3.2.0) o.no_entry (open_append u.events t.3.2.0 u.no_entry t.3.2.2);
      comes = x.0;
      knows = x.1;
      begun = λ j a. c.in_ok-turn.ensures.attempts j (c.loop.invariant.4 j a);
      stands = rw (i.0, i.1, q) at t.2.stands;
      unplaced = record { unstamped = refl; unused = refl };
      told = grows_trans _ _ _ o.events (u.events ++ t.3.2.0) o.told t.3.2.3;
    })

pub returns-in-Spent-clause-ticks : goal.returns-in-Spent-clause-ticks
returns-in-Spent-clause-ticks g c = within_end _ _ _ _ _ (c.in_ok-turn.ensures.ticks _ c.loop.invariant.0)

pub loop-preserved : goal.loop-preserved
loop-preserved g c =
    elim c.match-branch-2.branch [
      | in-Go w ↦ rw (w.self-is, w.tx-is, w.gate-is) (
        c.in_ok-turn.ensures.ticks _ c.loop.invariant.0,
        c.in_ok-turn.ensures.begun,
        λ k used a. c.in_ok-turn.ensures.awaits k used (c.loop.invariant.2 k used a),
        λ h n kc s aw.
            let o = c.loop.invariant.3 h n kc s aw in
            way_on _ _ _ _ (Grows (g.G.Gate.told c.loop.gate) (g.G.Gate.told c.turn.new.gate)) _ (g.E.Engine.stands c.loop.tx h) _ (Saw g.E.Engine.is_shared g.E.Engine.begins g.E.Engine.allows h kc c.args.limits.room.used) n c.loop.self _ (saw_fewer g.E.Engine.is_shared g.E.Engine.begins g.E.Engine.allows h kc c.args.limits.room.used) c.in_ok-turn.ensures.moves o (λ es t. grows_trans _ _ _ o.events es o.told t) ((rw w.in-Go.is at c.in_ok-turn.ensures.run) h n o.reads o.writes kc c.args.limits.room.used (c.loop.invariant.2 kc c.args.limits.room.used aw) o.holds),
        λ j a. c.in_ok-turn.ensures.attempts j (c.loop.invariant.4 j a),
      )
      | in-Commit+in_ok-end-in-Commit+in_default w ↦
          let e = (rw w.in-Commit.is at c.in_ok-turn.ensures.open) refl in
          rw (w.self-is, w.tx-is, w.gate-is) (
            w.in_ok-end-in-Commit.ensures.ticks _ _ (rw e at (c.in_ok-turn.ensures.ticks _ c.loop.invariant.0)),
            λ q. let no : Ready ≡ Open = sym w.in_ok-end-in-Commit.ensures.closed ∙ q in let bad : ⊥ = cc in absurd bad,
            λ k used a. w.in_ok-end-in-Commit.ensures.awaits k used (c.in_ok-turn.ensures.awaits k used (c.loop.invariant.2 k used a)) w.in_default.is,
            λ h n kc s aw.
                let o = c.loop.invariant.3 h n kc s aw in
                let u = (rw w.in-Commit.is at c.in_ok-turn.ensures.run) h n o.reads o.writes kc c.args.limits.room.used (c.loop.invariant.2 kc c.args.limits.room.used aw) o.holds in
                let t = u.turn in
                let k = (rw w.in_default.is at w.in_ok-end-in-Commit.ensures.run) h n t.0 t.1 kc c.args.limits.room.used (rw e at t.2) in
                let x = seen_again c.args.program.now (bounds_of c.args.limits) (Saw g.E.Engine.is_shared g.E.Engine.begins g.E.Engine.allows h kc c.args.limits.room.used) (saw_fewer g.E.Engine.is_shared g.E.Engine.begins g.E.Engine.allows h kc c.args.limits.room.used) (at c.args.self.now [] []) c.loop.self o.writes o.reads o.events [] _ _ c.turn.new.self _ w.commit.new.self t.1 t.0 o.comes o.knows u t.3 (t.3 Refuses ∙ k.0) (t.4.0 Refuses) w.in_ok-end-in-Commit.ensures.closed e c.in_ok-turn.ensures.moves t.2.knew in
                record {
                  reads = [];
                  writes = [];
                  holds = k.1;
                  events = o.events ++ (u.events ++ []);
                  no_entry = open_append o.events (u.events ++ []) o.no_entry (open_append u.events [] u.no_entry tt);
                  comes = x.0;
                  knows = x.1;
                  told = rw (← append-nil (o.events ++ (u.events ++ []))) (grows_trans _ _ _ (o.events ++ (u.events ++ [])) [] (grows_trans _ _ _ o.events (u.events ++ []) o.told t.4.1) (rw w.in_default.is at w.in_ok-end-in-Commit.ensures.told));
                },
            λ j a. rw w.in_ok-end-in-Commit.ensures.tried (w.in_ok-end-in-Commit.ensures.attempts _ (c.in_ok-turn.ensures.attempts j (c.loop.invariant.4 j a))),
          )
    ]

pub returns-clause-run : goal.returns-clause-run
returns-clause-run g c = λ h n kc s aw. let o = c.loop.invariant.3 h n kc s aw in (leaves_of _ _ _ _ _ _ _ o.holds, record { events = o.events; no_entry = o.no_entry; told = o.told })

pub loop-init : goal.loop-init
loop-init g c = (
  rw (c.requires.stage, c.requires.tried) (record { clock_below = omega arith; tried_below = omega arith }),
  λ e. let no : Ready ≡ Open = sym c.requires.stage ∙ e in let bad : ⊥ = cc in absurd bad,
  λ k used a. a,
  λ h n kc s aw. way_start c.args.program.now (bounds_of c.args.limits) (Grows (g.G.Gate.told c.args.gate.now) (g.G.Gate.told c.args.gate.now)) (g.E.Engine.stands c.args.tx.now h) (Saw g.E.Engine.is_shared g.E.Engine.begins g.E.Engine.allows h kc c.args.limits.room.used) n c.args.self.now (grows_same (g.G.Gate.told c.args.gate.now)) c.requires.stage c.requires.tried s,
  λ j a. let t = c.requires.tried in let e : j ≡ j + c.args.self.now.tried = omega (arith, t) in subst (λ (i : ℕ). g.E.Engine.attempts c.args.tx.now i) e a,
)
