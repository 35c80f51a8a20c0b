-- What a call of a rewritten method adds to the history.
use Rattle.std.proofs.Common.{◌≡◌, ℕ, ◌<◌, ◌≤◌, List, [], Option, min, Ok, refl, ap, ◌∙◌, subst, arith}
use Rattle.std.specs.Prelude.{ℤ}
use Rattle.std.specs.Bool.{MatchBool}
use Rattle.jmodel.specs.declared.value.Answer.{Answer}
use Rattle.jmodel.specs.declared.value.Answer.TheVariants.{Returned, Threw, Budget, Depth, Heap, Spent, NoMemory}
use Rattle.jmodel.specs.declared.value.Value.{Value}
use Rattle.objects.specs.semantics.Program.{Method, Program, method_at}
use Rattle.objects.specs.rewriting.Attempt.{Log, Bounds, Meter, Ended, run_start, Comes, Runs, count_of}
use Rattle.jmodel.specs.history.History.{Call, Entry, Told, made}
use Rattle.tx_table.specs.Book.{IsOfLane}
use Rattle.jmodel.specs.history.Schedule.{Known, is_memory}
use Rattle.objects.proofs.Regions.{keeps_region}
use Rattle.machine.specs.declared.machine.Limits.{Limits}
use Rattle.machine.specs.declared.machine.End.{End}
use Rattle.machine.specs.Machine.{bounds_of, MayRun, MayStart, AddsEntry as AddsRunEntry, IsSpent, AddsBy, AddsRun}
use Rattle.session.specs.declared.record.Place.{Place}
use Rattle.machine.specs.Sound.{IsTypedCall}
use Rattle.session.specs.Rule.{MayAttempt, IsRuled, IsReady, IsCallOf}
use Rattle.session.specs.Adds.{call_of, is_spent, count_in, limit_of, IsUsedUp, AddsSpent, AddsEntry, AddsNothing, AddsCall}
use Rattle.session.proofs.Tries.{all_tried}
use Rattle.session.proofs.Marked.{holds_at, granted}

module _ (P Q : Program) (ready : IsReady P Q) (limits : Limits) (at : Place) (c : Known) (is : IsCallOf P c) (lane : IsOfLane (call_of limits.room at c)) where
  some_granted : 0 < count_of is.retries
  some_granted = granted is.method is.retries is.marked (holds_at MayAttempt P.methods c.method is.method ready.marked is.there)

  abbrev B : Bounds
  B = bounds_of limits

  -- each entry that the call may leave keeps to the rule
  pub may_run : (allows : Entry → Type 0) → ((e : Entry) → IsRuled P Q limits.room.size limits.budget limits.attempts e → allows e) → MayRun allows Q B (call_of limits.room at c)
  may_run allows rule = λ x used stamp r w runs.
      rule (made (call_of limits.room at c) x limits.room.used used stamp r w)
      (record {
        ready = ready;
        called = record { method = is.method; retries = is.retries; there = is.there; static = is.static; marked = is.marked; given = is.given };
        of_lane = lane;
        runs = runs;
      })

  pub may_start : (allows : Entry → Type 0) → ((e : Entry) → IsRuled P Q limits.room.size limits.budget limits.attempts e → allows e) → (S : List Entry → ℕ → Log → Log → Type 0) (A : Call → ℕ
      → Type 0) (h : List Entry) (n : ℕ) → S h n [] [] → A (call_of limits.room at c) limits.room.used
      → (m : ℕ) (args : List Value) → c.method ≡ m → c.args ≡ args → MayStart Q B (run_start Q B m args) allows S A
  may_start allows rule S A h n stands awaits m args is_method are_args =
      let Starts : ℕ → List Value → Type 0 = λ i xs. MayStart Q B (run_start Q B i xs) allows S A in
      let own : Starts c.method c.args = record {
        history = h;
        conflicts = n;
        call = call_of limits.room at c;
        stands = stands;
        awaits = awaits;
        allowed = λ x meter r w other comes.
            let runs : Runs Q B c.method c.args x meter.used w r = record { meter = meter; comes = comes; leaves = refl; made = other } in
            let taking = keeps_region Q B c.method c.args x meter.used w r runs in
            record { anywhere = λ stamp. may_run allows rule x meter.used stamp r w runs; stays = taking.stays };
      } in
      subst (λ (i : ℕ). Starts i args) is_method (subst (Starts c.method) are_args own)

  -- the call is one of rewritten typed code
  pub typed_call : (m : ℕ) (args : List Value) → c.method ≡ m → c.args ≡ args → IsTypedCall P ready.tables Q m args
  typed_call m args is_method are_args =
      let own : IsTypedCall P ready.tables Q c.method c.args = record {
        typed = ready.typed;
        is = ready.code;
        method = is.method;
        retries = is.retries;
        there = is.there;
        static = is.static;
        marked = is.marked;
        given = is.given;
      } in
      subst (λ (i : ℕ). IsTypedCall P ready.tables Q i args) is_method (subst (IsTypedCall P ready.tables Q c.method) are_args own)

  -- a call that is spent has made the attempts that it may make
  spent_tried : 1 ≤ limits.attempts → (M : Meter) → Comes Q B (run_start Q B c.method c.args) (Ended Spent M [] []) → IsUsedUp P Q B c.method c.args M.tried
  spent_tried some M comes =
      let Leads : Program → Type 0 = λ R. Comes R B (run_start R B c.method c.args) (Ended Spent M [] []) in
      let most = min (count_of is.retries) limits.attempts in
      let tries = all_tried P ready.tables ready.typed B c.method is.method is.retries is.there is.static is.marked c.args M (subst Leads ready.code comes) in
      let limit : limit_of (method_at P c.method) limits.attempts ≡ most =
      ap (λ (o : Option Method). limit_of o limits.attempts) is.there ∙ ap (λ (o : Option ℤ). min (count_in o) limits.attempts) is.marked in
      let own = some_granted in
      let all = tries.0 in
      record {
        meter = M;
        comes = comes;
        tried_are = refl;
        some = omega (arith, own, some, all);
        all = omega (arith, limit, all);
        most = tries.1;
      }

  module _ (some : 1 ≤ limits.attempts) (S : List Entry → ℕ → Log → Log → Type 0) (h : List Entry) (n : ℕ) (e : End) where
    abbrev told_then : Told
    told_then = record { stamp = e.stamp; call = call_of limits.room at c; answer = e.answer }

    one_more : AddsRunEntry Q B (call_of limits.room at c) S h n e → AddsEntry S h n limits.room.used told_then e.used
    one_more a = record {
      entry = made (call_of limits.room at c) e.answer limits.room.used e.used e.stamp a.reads a.writes;
      told_is = refl;
      used_before = refl;
      used_after = refl;
      grows = (keeps_region Q B c.method c.args e.answer e.used a.writes a.reads a.runs).grows;
      conflicts = a.conflicts;
      later = a.later;
      stands = a.stands;
    }

    none_more : IsSpent Q B (call_of limits.room at c) (S h) n e → AddsSpent P Q B (call_of limits.room at c) (S h) n e.used
    none_more a = record {
      tried = a.meter.tried;
      used_up = spent_tried some a.meter a.comes;
      stands = a.stands;
      unused = a.unplaced.unused;
    }

    abbrev Adds : Answer → Type 0
    Adds x = MatchBool (is_spent x) (AddsSpent P Q B (call_of limits.room at c) (S h) n e.used) (MatchBool (is_memory x) (AddsNothing (S h) n limits.room.used e.used) (AddsEntry S h n limits.room.used told_then e.used))

    by_answer : (x : Answer) → AddsBy x Q B (call_of limits.room at c) S h n e → Adds x
    by_answer (Returned v) a = one_more a
    by_answer (Threw class) a = one_more a
    by_answer Budget a = one_more a
    by_answer Depth a = one_more a
    by_answer (Heap u w s) a = one_more a
    by_answer Spent a = none_more a
    by_answer NoMemory a = (a.0, a.1.unused)

    pub call_adds : AddsRun Q B (call_of limits.room at c) S h n (Ok e) → AddsCall P Q B S h n told_then e.used
    call_adds a = by_answer e.answer a
