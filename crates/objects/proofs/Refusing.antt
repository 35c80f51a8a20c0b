-- Where a conflict goes: past every entry of a method's own to the stub of its duplicate, from there on to the callers, and to the wrapper, which rolls back and tries again.
use Rattle.std.proofs.Common.{◌≡◌, ℕ, ℤ, zero, suc, ◌+◌, ◌<◌, ◌≤◌, List, [], ◌∷◌, length, Option, Some, None, Bool, true, false, refl, sym, ap, subst, ◌∙◌, arith, ◌⊎◌, ⊎_elim, ◌&&◌, nat_le}
use Rattle.std.specs.Prelude.{map, slice_get, nat_lt, if◌then◌else◌}
use Rattle.std.specs.List.{AllByRecursion}
use Rattle.std.proofs.lemmas.Bool.{cases_lt}
use Rattle.std.proofs.lemmas.Bool.Decides.{nat_tests}
use Rattle.jmodel.specs.declared.typing.VType.{VType}
use Rattle.objects.specs.declared.op.Slot.{Slot}
use Rattle.objects.specs.declared.op.Slot.TheVariants.{Ref, Context}
use Rattle.objects.specs.declared.op.Op.TheVariants as op
use Rattle.objects.specs.declared.op.Catch.{Catch}
use Rattle.objects.specs.declared.op.Phase.TheVariants.{Ready, Doomed}
use Rattle.objects.specs.declared.op.Asking.TheVariants as asking
use Rattle.objects.specs.semantics.Program.{Method, Program, method_at}
use Rattle.objects.specs.typing.Typing.{Table}
use Rattle.objects.specs.typing.Source.{IsSourceCatch}
use Rattle.objects.specs.semantics.Step.{Frame, Frames, Asks, at, with_stack, find_catch, catch_at, unwinds, takes as taken}
use Rattle.objects.specs.rewriting.Attempt.{Log, Reply, Bounds, Meter, Run, On, next_run, unwound, set_back}
use Rattle.objects.specs.rewriting.Rewriting.{Typed, block_at, moved_catch, duplicate_code, rewritten}
use Rattle.objects.proofs.Frames.{frame}
use Rattle.objects.proofs.Places.{has_stub, blocks_most}
use Rattle.objects.proofs.Inner.{IsAdded}
use Rattle.objects.proofs.Added.{IsCopy}
use Rattle.objects.proofs.Above.{AboveCall, call, inner}
use Rattle.objects.proofs.Wrapper.{IsWrapper, call_refused, rolls_first, rolls_back, rolls_on}
use Rattle.objects.proofs.Replies.{IsOfEnds, Holds, on_leads, on_reply}

-- no entry that ends at or before a place takes what is thrown there
past_end : (Q : Program) (at : ℕ → ℕ) (end b : ℕ) (cs : List Catch) → end ≤ b → ((c : Catch) (i : ℕ) → slice_get cs i ≡ Some c → at c.to ≤ end) → find_catch Q (map (moved_catch at) cs) b 0 ≡ None
past_end Q at end b [] le within = refl
past_end Q at end b (c ∷ cs) le within =
    let w = within c 0 refl in
    let out : nat_lt b (at c.to) ≡ false = grind (arith, nat_tests) in
    rw (out, past_end Q at end b cs le (λ d i e. within d (suc i) e)) (no_second (nat_le (at c.from) b) (taken Q c.catches 0) (at c.at) None)
  where
    no_second : (a b : Bool) (to : ℕ) (r : Option ℕ) → (if a && false && b then Some to else r) ≡ r
    no_second true b to r = refl
    no_second false b to r = refl

module _ (P : Program) (Ts : List Table) (Q : Program) (same : Q ≡ rewritten P Ts) (first : ℕ) (code_added : (m : ℕ) (k : Method) → IsAdded Q first m → slice_get Q.methods m ≡ Some k → (k.catches ≡ []) ⊎ IsCopy P k) (B : Bounds)
    (mn : ℕ) (wm : Method) (is : slice_get Q.methods mn ≡ Some wm) (c id dn : ℕ) (retries : ℤ) (takes : List VType) (gives : Option VType) (q z : ℕ) (W : IsWrapper wm c id dn retries takes gives q z) (wl : List Slot) (here : slice_get wl c ≡ Some Context) where
  -- where a conflict goes on in a frame of an added method: nowhere, or at the stub, whose exception no entry takes
  data Stubs (f : Frame) : Type 0 where
    none : catch_at Q f.method f.pc 0 ≡ None → Stubs f
    stub : (end : ℕ) → catch_at Q f.method f.pc 0 ≡ Some end → nat_le end f.pc ≡ false → (k : Method) → slice_get Q.methods f.method ≡ Some k → slice_get k.ops end ≡ Some op.Throw → k.counted ≡ true → catch_at Q f.method end 0 ≡ None → Stubs f

  in_copy : (f : Frame) (k : Method) → slice_get Q.methods f.method ≡ Some k → IsCopy P k → Stubs f
  in_copy f k e y = ⊎_elim before after (cases_lt f.pc end)
    where
      xs : List Typed
      xs = y.code

      end : ℕ
      end = block_at xs (length xs)

      inside : (cs : List Catch) → AllByRecursion (IsSourceCatch P y.source) cs → (d : Catch) (i : ℕ) → slice_get cs i ≡ Some d → block_at xs d.to ≤ end
      inside [] all d i e = cc
      inside (x ∷ cs) all d zero e = let s : x ≡ d = cc in subst (λ (d : Catch). block_at xs d.to ≤ end) s (blocks_most xs x.to (length xs) (subst (λ (n : ℕ). x.to ≤ n) (sym y.many) all.0.to) (omega arith))
      inside (x ∷ cs) all d (suc i) e = inside cs all.1 d i e

      kept : slice_get Q.methods f.method ≡ Some (duplicate_code P y.source xs)
      kept = e ∙ ap Some y.is

      beyond : (b : ℕ) → end ≤ b → catch_at Q f.method b 0 ≡ None
      beyond b le =
          let out : nat_lt b end ≡ false = grind (arith, nat_tests) in
          let rest = past_end Q (block_at xs) end b y.source.catches le (inside y.source.catches y.kept.entries) in
          rw kept (rw (out, rest) (no_first (nat_le 0 b)))
        where
          no_first : (a : Bool) → (if a && false && true then Some end else None) ≡ None
          no_first true = refl
          no_first false = refl

      before : f.pc < end → Stubs f
      before lt =
          let low : nat_le 0 f.pc ≡ true = grind (arith, nat_tests) in
          let high : nat_lt f.pc end ≡ true = grind (arith, nat_tests) in
          let back : nat_le end f.pc ≡ false = grind (arith, nat_tests) in
          let here : catch_at Q f.method f.pc 0 ≡ Some end = rw kept (rw (low, high) refl) in
          stub end here back (duplicate_code P y.source xs) kept (has_stub P y.source xs) refl (beyond end (omega arith))

      after : end ≤ f.pc → Stubs f
      after le = none (beyond f.pc le)

  stubs : (f : Frame) → IsAdded Q first f.method → Stubs f
  stubs f a = by (method_at Q f.method) refl
    where
      by : (o : Option Method) → method_at Q f.method ≡ o → Stubs f
      by None e = none (rw e refl)
      by (Some k) e = ⊎_elim (λ (no : k.catches ≡ []). none (rw e (rw no refl))) (λ (y : IsCopy P k). in_copy f k e y) (code_added f.method k a e)

  abbrev Above : Frames → Type 0
  Above = AboveCall Q first mn q wl

  module _ (F : Run → Type 0) (fine : IsOfEnds Q B F) (n : ℕ) (w r : Log) (now : (gs : Frames) (m : Meter) → F (On Doomed gs m w r))
      (loop : (j : List Slot) (m : Meter) → Holds Q B F n (On Ready (frame mn 2 wl j ∷ []) (set_back B m) [] [])) where
    -- the wrapper rolls back
    rolls : (m : Meter) → Holds Q B F n (On Doomed (frame mn z wl (Ref 1 ∷ []) ∷ []) m w r)
    rolls m =
        on_leads Q B F fine 2 n _ (On Doomed (frame mn (z + 1 + 1) wl (Context ∷ []) ∷ []) m w r) (rolls_first Q B mn wm is c id dn retries takes q z gives W wl here m w r)
        (on_reply Q B F fine n _ (now _ m) (λ v. subst (Holds Q B F n) (sym (rolls_back Q B mn wm is c id dn retries takes q z gives W wl here m w r v))
        (on_leads Q B F fine 1 n _ (On Ready (frame mn 2 wl [] ∷ []) (set_back B m) [] []) (rolls_on Q B mn wm is c id dn retries takes q z gives W wl here m w r (set_back B m)) (loop [] m))))

    -- from the stub the exception goes on to the callers
    at_stub : (f : Frame) (fs : Frames) (m : Meter) (end : ℕ) (k : Method) → slice_get Q.methods f.method ≡ Some k → slice_get k.ops end ≡ Some op.Throw → k.counted ≡ true → catch_at Q f.method end 0 ≡ None
        → Holds Q B F n (unwound (unwinds Q 1 0 fs) m w r) → Holds Q B F n (On Doomed (at end (with_stack f (Ref 1 ∷ [])) ∷ fs) m w r)
    at_stub f fs m end k there code counted past up =
        let e : (v : Reply) → next_run Q B v (On Doomed (at end (with_stack f (Ref 1 ∷ [])) ∷ fs) m w r) ≡ unwound (unwinds Q 1 0 fs) m w r = let past2 : find_catch Q k.catches end 0 ≡ None = (let e : catch_at Q f.method end 0 ≡ find_catch Q k.catches end 0 = rw there refl in sym e ∙ past) in λ v. simp (there, code, counted, past2) in
        on_reply Q B F fine n _ (now _ m) (λ v. subst (Holds Q B F n) (sym (e v)) up)

    -- a conflict below an instruction that asked
    pub refuses : (fs : Frames) → Above fs → (m : Meter) → Holds Q B F n (unwound (unwinds Q 1 0 fs) m w r)
    refuses [] x m = elim x [ ]
    refuses (f ∷ []) (call j) m = subst (λ (a : _). Holds Q B F n (unwound a m w r)) (sym (call_refused Q B mn wm is c id dn retries takes q z gives W wl here m w r j)) (rolls m)
    refuses (f ∷ fs) (inner f1 fs1 a h) m = by (stubs f a) (refuses fs h m)
      where
        by : Stubs f → Holds Q B F n (unwound (unwinds Q 1 0 fs) m w r) → Holds Q B F n (unwound (unwinds Q 1 0 (f ∷ fs)) m w r)
        by (none gone) up = subst (λ (a : _). Holds Q B F n (unwound a m w r)) (let e : unwinds Q 1 0 fs ≡ unwinds Q 1 0 (f ∷ fs) = rw gone refl in e) up
        by (stub end caught_at back k there code counted past) up =
            let e : unwinds Q 1 0 (f ∷ fs) ≡ Asks asking.Go (at end (with_stack f (Ref 1 ∷ [])) ∷ fs) = rw caught_at (simp (back, there, counted)) in
            subst (λ (a : _). Holds Q B F n (unwound a m w r)) (sym e) (at_stub f fs m end k there code counted past up)
