-- Calls lead both on: into a method and into its duplicate, or to the same exception.
use Rattle.std.proofs.Common.{◌≡◌, ◌≢◌, ℕ, zero, suc, ◌+◌, ◌-◌, ◌<◌, ◌≤◌, List, [], ◌∷◌, ◌++◌, length, Option, Some, None, Bool, true, false, refl, sym, ap, subst, ◌∙◌, arith, length-append, append_assoc}
use Rattle.std.specs.Prelude.{slice_get, nat_eq, nat_lt, option_map}
use Rattle.std.specs.List.{AllByRecursion}
use Rattle.std.proofs.lemmas.List.{append-nil}
use Rattle.std.proofs.lemmas.Option.{same_Some}
use Rattle.jmodel.specs.declared.value.Value.{Value}
use Rattle.jmodel.specs.declared.typing.VType.{VType}
use Rattle.jmodel.specs.declared.typing.VType.TheVariants as type
use Rattle.jmodel.specs.history.History.{Words, Agrees}
use Rattle.objects.specs.declared.op.Slot.{Slot}
use Rattle.objects.specs.declared.op.Slot.TheVariants.{Int, Long, Second, Ref, Context, Loaded, Empty}
use Rattle.objects.specs.declared.op.Sort.TheVariants as sort
use Rattle.objects.specs.declared.op.Op.{Op}
use Rattle.objects.specs.declared.op.Op.TheVariants as op
use Rattle.objects.specs.declared.op.Use.{Use}
use Rattle.objects.specs.declared.op.Use.TheVariants.{Selects, Implements}
use Rattle.objects.specs.declared.op.Made.TheVariants.{Raised}
use Rattle.objects.specs.declared.op.Trap.{Trap as Trapping}
use Rattle.objects.specs.declared.op.Trap.TheVariants.{NullPointer, AbstractMethod, IncompatibleClassChange}
use Rattle.objects.specs.declared.op.Dispatch.{Dispatch}
use Rattle.objects.specs.declared.op.Dispatch.TheVariants as dispatch
use Rattle.objects.specs.declared.op.Doing.TheVariants as doing
use Rattle.objects.specs.declared.op.Asking.{Asking as Wanted}
use Rattle.objects.specs.declared.op.Asking.TheVariants as asking
use Rattle.objects.specs.declared.op.Phase.TheVariants.{Open}
use Rattle.objects.specs.linking.Library.{trap_type}
use Rattle.objects.specs.semantics.Program.{Method, Program, is_counted, is_instance, method_at, is_code, has_code, selected}
use Rattle.objects.specs.semantics.Region.{Region}
use Rattle.objects.specs.semantics.State.{Object, State, length_of}
use Rattle.objects.specs.semantics.Step.{Frame, Frames, Did, Does, Wrong, Asked, Asks, Fails, Taken, Took, TooFew, take_args, started, with_stack, depth, does, on_did, step, invokes, with_args, enters, found, enters_found, over_object, slot_in, ref_in, not_null, runs, receiver, told, or_trap, catch_at, unwinds}
use Rattle.objects.specs.semantics.Call.{Direct, next_direct}
use Rattle.objects.specs.semantics.Call as call
use Rattle.objects.specs.rewriting.Attempt.{Log, Reply, Bounds, Meter, Run, On, Asking, next_run, with_depth}
use Rattle.objects.specs.rewriting.Attempt as attempt
use Rattle.objects.specs.history.Meaning.{IsHeap}
use Rattle.objects.specs.typing.Typing.{Table, types_at, arguments}
use Rattle.objects.specs.laws.TypingLaw.{IsTypedProgram, HasTyping}
use Rattle.objects.specs.typing.Source.{IsSourceMethod, IsSourceOp, HasObject}
use Rattle.objects.specs.typing.TypeOrder.{name_read}
use Rattle.objects.specs.rewriting.Rewriting.{Typed, block_at, block_of, block_len_of, duplicate, duplicate_method, duplicate_code, is_stray, more_locals}
use Rattle.objects.proofs.Frames.{frame}
use Rattle.objects.proofs.Fields.{each_at}
use Rattle.objects.proofs.Moved.{pushed_on}
use Rattle.objects.proofs.Alike.{Stands, IsCallOp, call_stands}
use Rattle.objects.proofs.Inner.{IsAdded, IsInnerOp, IsInnerUse, SelectsAdded}
use Rattle.objects.proofs.Added.{all_at}
use Rattle.objects.proofs.Above.{AboveCall, inner}
use Rattle.objects.proofs.Lost.{IsSet}
use Rattle.objects.proofs.Replies.{Leads}
use Rattle.objects.proofs.Caught.{instance_moved}
use Rattle.objects.proofs.Places.{Rewrites, HasAt}
use Rattle.objects.proofs.Selection.{duplicate_has_code}
use Rattle.objects.proofs.Entered.{stands_first, has_op, takes_context, pushed_last}
use Rattle.objects.proofs.LocalRoom.{has_room}
use Rattle.objects.proofs.Safety.{step_fine}
use Rattle.objects.proofs.TypedFrames.{AreTyped, Fine, Heads, LastHeads}
use Rattle.objects.proofs.Tied.{Tied, Callers, caller, top, typed_code, source_of, counted_of, counted_dup, there_of, depth_both, depth_callers, callers_above, call_len}
use Rattle.objects.proofs.Tied as tied
use Rattle.objects.proofs.Makes.{open_asks, run_asks, used_in, heads_synced}
use Rattle.objects.proofs.Goals.{Here, IsGoal, Continues, reaches_next}
use Rattle.objects.proofs.Simple.{Stage, at_entry, at_make, at_head, onward, throws_on}
use Rattle.objects.proofs.Singles.{block_stands}

-- what is taken of a stack was pushed there, the first argument first
pub record WasPushed (n : ℕ) (acc s args s1 : List Slot) : Type 0 where
  pub taken : List Slot
  pub many : length taken ≡ n
  pub front : args ≡ taken ++ acc
  pub pushed : s ≡ pushed_on taken s1

pub was_pushed : (n : ℕ) (acc s args s1 : List Slot) → take_args n acc s ≡ Took args s1 → WasPushed n acc s args s1
was_pushed zero acc s args s1 e = let a : acc ≡ args = cc in let b : s ≡ s1 = cc in record { taken = []; many = refl; front = sym a; pushed = b }
was_pushed (suc n) acc [] args s1 e = cc
was_pushed (suc n) acc (v ∷ s) args s1 e =
    let h = was_pushed n (v ∷ acc) s args s1 e in
    let m = h.many in
    record {
      taken = h.taken ++ v ∷ [];
      many = let l = length-append h.taken (v ∷ []) in omega (arith, l, m);
      front = h.front ∙ sym (append_assoc h.taken (v ∷ []) acc);
      pushed = ap (λ (t : List Slot). v ∷ t) h.pushed ∙ sym (pushed_last h.taken v s1);
    }

-- instructions are code
code_of : (os : List Op) → 0 < length os → is_code os ≡ true
code_of [] some = absurd (omega (arith, some))
code_of (o ∷ os) some = refl

-- the object of a call lies under the context too
pub receiver_moved : (n : ℕ) (s : List Slot) → 1 ≤ n → slice_get (Context ∷ s) (n + 1 - 1) ≡ slice_get s (n - 1)
receiver_moved zero s some = absurd (omega (arith, some))
receiver_moved (suc n) s some = let a : suc n + 1 - 1 ≡ suc n = omega arith in let b : suc n - 1 ≡ n = omega arith in ap (slice_get (Context ∷ s)) a ∙ sym (ap (slice_get s) b)

-- a method over an object takes it
pub takes_object : (P : Program) (k : Method) → IsSourceMethod P k → k.dispatch ≢ dispatch.Static → 1 ≤ k.places
takes_object P k src over = by k.dispatch refl src.object
  where
    some : (c : List ℕ) → k.parameters ≡ type.Ref c ∷ arguments k → 1 ≤ k.places
    some c e = let m = src.many in let l : length k.parameters ≡ suc (length (arguments k)) = ap length e in omega (arith, m, l)

    by : (d : Dispatch) → k.dispatch ≡ d → HasObject P d k → 1 ≤ k.places
    by dispatch.Static e h = absurd (over e)
    by dispatch.Exact e h = some (name_read P k.name.class) h
    by dispatch.Virtual e h = some (name_read P k.name.class) h
    by dispatch.Abstract e h = some h.0 h.1

module _ (P : Program) (Ts : List Table) (S : IsTypedProgram P Ts) (Q : Program) (R : Rewrites P Ts Q) (dup_is : (i : ℕ) (o : Method) → method_at P i ≡ Some o → (T : Table) × (method_at Q (duplicate P i) ≡ Some (duplicate_method P o T)))
    (moved : (t m : ℕ) (k : Method) → method_at P m ≡ Some k → selected Q t (duplicate P m) ≡ option_map (duplicate P) (selected P t m))
    (B : Bounds) (mn : ℕ) (args : List Value) (ws : Words) (σ : State) (gives_type : Option VType) (c q z : ℕ) (slots : List Slot) (first_added : ℕ)
    (ops_inner : (m : ℕ) (k : Method) → IsAdded Q first_added m → slice_get Q.methods m ≡ Some k → AllByRecursion (IsInnerOp Q first_added) k.ops) (uncounted : is_counted Q mn ≡ false) (catch : catch_at Q mn (q + 1) 0 ≡ Some z)
    (catch_other : (t : ℕ) → nat_eq t 0 ≡ false → catch_at Q mn (q + 1) t ≡ Some (z + 4)) (Goal Astray : ℕ → Run → Type 0)
    (goal : IsGoal P Ts S Q B mn args ws σ gives_type c q z slots first_added ops_inner uncounted catch catch_other Goal Astray)
    (high : (m : ℕ) → first_added ≤ duplicate P m) (n : ℕ) (m pc dn : ℕ) (k : Method) (T : Table) (l l' s : List Slot) (fs gs : Frames) (t : Tied P Ts S m dn k T) (here : Stands k T pc l l')
    (callers : Callers P Ts S mn q gives_type c slots k.result fs gs) (τ : State) (M : Meter) (w r : Log) (hr : Here P Ts S Q B mn args ws σ (frame m pc l s ∷ fs) τ M w r)
    (kk : Continues P Ts S Q B mn args ws σ gives_type c q z slots first_added ops_inner uncounted catch catch_other Goal n (call.On (frame m pc l s ∷ fs) M.turns τ)) (o : Op) (e : slice_get k.ops pc ≡ Some o) (is_call : IsCallOp o) where
  abbrev G : Region
  G = B.region

  abbrev xs : List Typed
  xs = typed_code P Ts S k T

  abbrev a : ℕ
  a = block_at xs pc

  abbrev Tie : Frames → Frames → Type 0
  Tie = tied.Run P Ts S mn q gives_type c slots

  abbrev heap : IsHeap P B.region.size τ
  heap = hr.stands.represents.heap

  -- the frames at the call
  abbrev up : Frame
  up = frame m pc l s

  abbrev down : Frame
  down = frame dn (a + 1) l' (Context ∷ s)

  abbrev X : Direct
  X = call.On (up ∷ fs) M.turns τ

  abbrev d : Run
  d = On Open (down ∷ gs) M w r

  abbrev Goes : ℕ → Direct → Type 0
  Goes = Continues P Ts S Q B mn args ws σ gives_type c q z slots first_added ops_inner uncounted catch catch_other Goal

  abbrev IsStage : Direct → Run → Log → Type 0
  IsStage Y c0 r2 = Stage P Ts S Q R B mn args ws σ gives_type c q z slots first_added ops_inner uncounted catch catch_other Goal Astray goal Y c0 τ M w r2

  stage : IsStage X d r
  stage = record { reach = hr.reach; has = refl; on_way = (refl, refl); stands = hr.stands; agrees = hr.agrees }

  abbrev IsFineWith : (ℕ → Use → Frames → Type 0) → Asked → Type 0
  IsFineWith = Fine P Ts S B.region.size τ heap

  above : (wl : List Slot) × IsSet gives_type c slots wl × AboveCall Q first_added mn q wl gs
  above = callers_above P Ts S mn q gives_type c slots Q R uncounted first_added high k.result fs gs callers

  added_dup : first_added ≤ dn
  added_dup = subst (λ (i : ℕ). first_added ≤ i) (sym t.dup) (high m)

  len : block_len_of (types_at T pc) o ≡ 2
  len = call_len (types_at T pc) o is_call

  -- an exception of the call
  throws : (s2 s3 : List Slot) (x y : ℕ) → nat_eq y 0 ≡ false → tied.Thrown P Ts S mn q gives_type c slots Q R uncounted z (suc x) (unwinds P (suc x) y (frame m pc l s2 ∷ fs)) (unwinds Q (suc x) y (frame dn (a + 1) l' s3 ∷ gs))
  throws s2 s3 = throws_on P Ts S Q R B mn args ws σ gives_type c q z slots first_added ops_inner uncounted catch catch_other Goal Astray goal high n m pc dn k T l l' s fs gs t here callers o e (a + 1) (omega arith) (omega (arith, len)) s2 s3

  traps : (N : ℕ) (Y : Direct) (c0 : Run) (r2 : Log) → IsStage Y c0 r2 → Goes N Y → (x : Trapping) (Next : ℕ → Use → Frames → Type 0) → IsFineWith Next (Asks (asking.Make (trap_type x) 0 Raised) (up ∷ fs)) → run_asks P Y ≡ Asks (asking.Make (trap_type x) 0 Raised) (up ∷ fs) → open_asks Q c0 ≡ Asks (asking.Make (trap_type x) 0 Raised) (down ∷ gs) → used_in c0 ≡ M.used → next_direct P G Y ≡ call.on_asking P G (asking.Make (trap_type x) 0 Raised) (up ∷ fs) M.turns τ
      → ((v : Reply) → next_run Q B v c0 ≡ attempt.on_asking Q B (asking.Make (trap_type x) 0 Raised) Open v (down ∷ gs) M w r2) → Goal (suc N) c0
  traps N Y c0 r2 st ky x Next fine asks_up asks_down same eP eQ =
      at_make P Ts S Q R B mn args ws σ gives_type c q z slots first_added ops_inner uncounted catch catch_other Goal Astray goal N Y c0 τ M w r2 st ky (trap_type x) 0 Raised (up ∷ fs) (down ∷ gs) fine.row fine.is fine.few fine.goes (throws s (Context ∷ s)) asks_up asks_down same eP eQ above.0 above.1
      (inner down gs added_dup above.2)

  -- ---- a method is entered

  -- both enter, with the same callers behind
  record Enters (A C : Asked) : Type 0 where
    deep : Bool
    fs2 : Frames
    gs2 : Frames
    asks_up : A ≡ Asks (asking.Enter deep) fs2
    asks_down : C ≡ Asks (asking.Enter deep) gs2
    tie : Tie fs2 gs2

  module _ (m2 : ℕ) (k2 : Method) (is2 : method_at P m2 ≡ Some k2) where
    after : Stands k T (pc + 1) l l'
    after = call_stands P Q R.texts k T t.typing (has_room P k T t.typing (source_of P Ts S m k t.is).many) m pc dn a (block_at xs) (counted_of P Ts S m k t.is) (counted_dup P Ts S mn q gives_type c slots Q R uncounted m dn k T t) l l' here.types here.there here.agree o e is_call

    module _ (T2 : Table) (t2 : Tied P Ts S m2 (duplicate P m2) k2 T2) (args2 s1 : List Slot) (many : length args2 ≡ k2.places) (lies : s ≡ pushed_on args2 s1) where
      abbrev fs1 : Frames
      fs1 = frame m pc l s1 ∷ fs

      abbrev gs1 : Frames
      gs1 = frame dn (a + 1) l' s1 ∷ gs

      abbrev first : Frame
      first = started m2 k2 args2

      abbrev kd2 : Method
      kd2 = duplicate_code P k2 (typed_code P Ts S k2 T2)

      abbrev first2 : Frame
      first2 = started (duplicate P m2) kd2 (args2 ++ Context ∷ [])

      both : depth P (first ∷ fs1) ≡ depth Q (first2 ∷ gs1)
      both =
          depth_both P Ts S mn q gives_type c slots Q R uncounted m2 (duplicate P m2) k2 T2 t2 0 0 first.locals first2.locals [] [] fs1 gs1
          (depth_both P Ts S mn q gives_type c slots Q R uncounted m dn k T t pc (a + 1) l l' s1 s1 fs gs (depth_callers P Ts S mn q gives_type c slots Q R uncounted k.result fs gs callers))

      takes_down : take_args (k2.places + 1) [] (Context ∷ s) ≡ Took (args2 ++ Context ∷ []) s1
      takes_down = ap (λ (y : List Slot). take_args (k2.places + 1) [] (Context ∷ y)) lies ∙ takes_context args2 s1 k2.places many

      entered_down : invokes Q (method_at Q (duplicate P m2)) (duplicate P m2) down gs ≡ Asks (asking.Enter (nat_lt 200 (depth Q (first2 ∷ gs1)))) (first2 ∷ gs1)
      entered_down =
          ap (λ (y : Option Method). invokes Q y (duplicate P m2) down gs) (there_of P Ts S mn q gives_type c slots Q R uncounted m2 (duplicate P m2) k2 T2 t2)
          ∙ ap (λ (y : Taken). with_args Q y (duplicate P m2) kd2 down gs) takes_down

      entry : (A : Asked) → A ≡ Asks (asking.Enter (nat_lt 200 (depth P (first ∷ fs1)))) (first ∷ fs1) → Enters A (invokes Q (method_at Q (duplicate P m2)) (duplicate P m2) down gs)
      entry A asks = record {
        deep = nat_lt 200 (depth P (first ∷ fs1));
        fs2 = first ∷ fs1;
        gs2 = first2 ∷ gs1;
        asks_up = asks;
        asks_down = entered_down ∙ ap (λ (i : ℕ). Asks (asking.Enter (nat_lt 200 i)) (first2 ∷ gs1)) (sym both);
        tie = top m2 0 (duplicate P m2) k2 T2 first.locals first2.locals [] fs1 gs1 t2 (stands_first P k2 T2 t2.typing (source_of P Ts S m2 k2 is2) args2 many) (caller k2.result m pc dn k T l l' s1 fs gs t o e is_call here after callers);
      }

    tied_to : (typing : HasTyping P Ts m2 k2) → Tied P Ts S m2 (duplicate P m2) k2 typing.table
    tied_to typing = record {
      is = is2;
      code = code_of k2.ops (has_op P k2 typing.table typing.typing 0 _ typing.typing.first);
      table = typing.there;
      typing = typing.typing;
      dup = refl;
    }

    typing_of : (args2 : List Slot) (fs1 : Frames) → AreTyped P Ts S τ (started m2 k2 args2 ∷ fs1) → HasTyping P Ts m2 k2
    typing_of args2 fs1 typed = let same = same_Some typed.0 k2 (sym typed.1.code ∙ is2) in subst (HasTyping P Ts m2) same typed.1.typing

    enters_taken : (taken : Taken) (Next : ℕ → Use → Frames → Type 0) → take_args k2.places [] s ≡ taken → IsFineWith Next (with_args P taken m2 k2 up fs) → Enters (with_args P taken m2 k2 up fs) (invokes Q (method_at Q (duplicate P m2)) (duplicate P m2) down gs)
    enters_taken TooFew Next e2 fine = absurd fine
    enters_taken (Took args2 s1) Next e2 fine =
        let first = started m2 k2 args2 in
        let fs1 = frame m pc l s1 ∷ fs in
        let asks : with_args P (Took args2 s1) m2 k2 up fs ≡ Asks (asking.Enter (nat_lt 200 (depth P (first ∷ fs1)))) (first ∷ fs1) = ap (λ (b : Bool). enters P b (first ∷ fs1)) (source_of P Ts S m2 k2 is2).counted in
        let typing = typing_of args2 fs1 (subst (IsFineWith Next) asks fine) in
        let pushed = was_pushed k2.places [] s args2 s1 e2 in
        let whole : args2 ≡ pushed.taken = pushed.front ∙ append-nil pushed.taken in
        entry typing.table (tied_to typing) args2 s1 (ap length whole ∙ pushed.many) (pushed.pushed ∙ ap (λ (y : List Slot). pushed_on y s1) (sym whole)) _ asks

  enters_both : (m2 : ℕ) (o2 : Option Method) → method_at P m2 ≡ o2 → (Next : ℕ → Use → Frames → Type 0) → IsFineWith Next (invokes P o2 m2 up fs) → Enters (invokes P o2 m2 up fs) (invokes Q (method_at Q (duplicate P m2)) (duplicate P m2) down gs)
  enters_both m2 None is2 Next fine = absurd fine
  enters_both m2 (Some k2) is2 Next fine = enters_taken m2 k2 is2 (take_args k2.places [] s) Next refl fine

  -- a method is entered at once
  invoked : (N : ℕ) (Y : Direct) (c0 : Run) (r2 : Log) → IsStage Y c0 r2 → Goes N Y → (m2 : ℕ) (Next : ℕ → Use → Frames → Type 0) → IsFineWith Next (invokes P (method_at P m2) m2 up fs)
      → next_direct P G Y ≡ call.on_asked P G (invokes P (method_at P m2) m2 up fs) M.turns τ → ((v : Reply) → next_run Q B v c0 ≡ attempt.on_asked Q B (invokes Q (method_at Q (duplicate P m2)) (duplicate P m2) down gs) Open v M w r2) → Goal (suc N) c0
  invoked N Y c0 r2 st ky m2 Next fine eP eQ =
      let en = enters_both m2 (method_at P m2) refl Next fine in
      at_entry P Ts S Q R B mn args ws σ gives_type c q z slots first_added ops_inner uncounted catch catch_other Goal Astray goal N Y c0 τ M w r2 st ky en.deep en.fs2 en.gs2
      (eP ∙ ap (λ (x : Asked). call.on_asked P G x M.turns τ) en.asks_up) (λ v. eQ v ∙ ap (λ (x : Asked). attempt.on_asked Q B x Open v M w r2) en.asks_down) (subst (IsFineWith Next) en.asks_up fine) en.tie

  -- or behind the reading of a header
  module _ (rl : Log) (agrees : Agrees ws rl) where
    next_stage : (A : Wanted) (fs2 gs2 : Frames) → next_direct P G X ≡ call.Asking A fs2 M.turns τ → IsStage (call.Asking A fs2 M.turns τ) (Asking A gs2 M w rl) rl
    next_stage A fs2 gs2 f = record { reach = reaches_next P Ts S Q B mn args ws σ X _ hr.reach f; has = refl; on_way = (refl, refl); stands = hr.stands; agrees = agrees }

    trapped_behind : (x : Trapping) (Next : ℕ → Use → Frames → Type 0) → IsFineWith Next (Asks (asking.Make (trap_type x) 0 Raised) (up ∷ fs)) → next_direct P G X ≡ call.Asking (asking.Make (trap_type x) 0 Raised) (up ∷ fs) M.turns τ
        → Goal (suc n) (Asking (asking.Make (trap_type x) 0 Raised) (down ∷ gs) M w rl)
    trapped_behind x Next fine f = traps n _ _ rl (next_stage (asking.Make (trap_type x) 0 Raised) (up ∷ fs) (down ∷ gs) f) (goes_on f) x Next fine refl refl refl refl (λ v. refl)
      where
        goes_on : {Y : Direct} → next_direct P G X ≡ Y → Goes n Y
        goes_on {Y} f = onward P Ts S Q R B mn args ws σ gives_type c q z slots first_added ops_inner uncounted catch catch_other Goal Astray goal n X Y f kk

    found_behind : (o2 : Option ℕ) (Next : ℕ → Use → Frames → Type 0) → IsFineWith Next (found P o2 up fs) → next_direct P G X ≡ call.followed (found P o2 up fs) M.turns τ → Goal (suc n) (attempt.followed (found Q (option_map (duplicate P) o2) down gs) M w rl)
    found_behind None Next fine f = trapped_behind AbstractMethod Next fine f
    found_behind (Some m2) Next fine f =
        let en = enters_both m2 (method_at P m2) refl Next fine in
        let g : next_direct P G X ≡ call.Asking (asking.Enter en.deep) en.fs2 M.turns τ = f ∙ ap (λ (x : Asked). call.followed x M.turns τ) en.asks_up in
        let Y = call.Asking (asking.Enter en.deep) en.fs2 M.turns τ in
        subst (λ (x : Asked). Goal (suc n) (attempt.followed x M w rl)) (sym en.asks_down)
        (at_entry P Ts S Q R B mn args ws σ gives_type c q z slots first_added ops_inner uncounted catch catch_other Goal Astray goal n Y _ τ M w rl (next_stage (asking.Enter en.deep) en.fs2 en.gs2 g)
        (onward P Ts S Q R B mn args ws σ gives_type c q z slots first_added ops_inner uncounted catch catch_other Goal Astray goal n X Y g kk) en.deep en.fs2 en.gs2 refl (λ v. refl) (subst (IsFineWith Next) en.asks_up fine) en.tie)

  -- ---- each call

  -- the duplicate's instruction
  abbrev called : Op → Op
  called (op.InvokeStatic m1) = op.InvokeStatic (duplicate P m1)
  called (op.InvokeSpecial m1) = op.InvokeSpecial (duplicate P m1)
  called (op.InvokeVirtual m1 n) = op.InvokeVirtual (duplicate P m1) n
  called (op.InvokeInterface m1 name) = op.InvokeInterface (duplicate P m1) name
  called x = x

  block_is : (x : Op) → IsCallOp x → block_of P k.places k.locals (block_at xs) (types_at T pc) x ≡ op.Load sort.Reference k.places ∷ called x ∷ []
  block_is (op.InvokeStatic m1) i = refl
  block_is (op.InvokeSpecial m1) i = refl
  block_is (op.InvokeVirtual m1 n) i = refl
  block_is (op.InvokeInterface m1 name) i = refl
  block_is x i = absurd i

  stands_there : HasAt (duplicate_code P k xs).ops a (op.Load sort.Reference k.places ∷ called o ∷ [])
  stands_there = subst (HasAt (duplicate_code P k xs).ops a) (block_is o is_call) (block_stands P Ts S Q R B mn args ws σ gives_type c q z slots first_added ops_inner uncounted catch catch_other Goal Astray goal high n m pc dn k T l l' s fs gs t here callers τ M w r hr kk o e)

  down_there : slice_get Q.methods dn ≡ Some (duplicate_code P k xs)
  down_there = there_of P Ts S mn q gives_type c slots Q R uncounted m dn k T t

  context_first : Leads Q B 1 (On Open (frame dn a l' s ∷ gs) M w r) d
  context_first = let there = down_there in let load = stands_there.0 in let context = here.agree.context in ((refl, refl), λ v. simp (there, load, context))

  called_inner : IsInnerOp Q first_added (called o)
  called_inner = all_at (IsInnerOp Q first_added) (duplicate_code P k xs).ops (a + 1) (called o) (ops_inner dn (duplicate_code P k xs) added_dup down_there) stands_there.1.0

  dup_places : (k1 : Method) (T1 : Table) → (duplicate_method P k1 T1).places ≡ k1.places + 1
  dup_places k1 T1 = by k1.ops
    where
      by : (os : List Op) → (Rattle.objects.specs.rewriting.Rewriting.abstracted os (duplicate_code P k1 (typed_code P Ts S k1 T1))).places ≡ k1.places + 1
      by [] = refl
      by (x ∷ os) = refl

  next_up : (A : Asked) → step P (up ∷ fs) ≡ A → next_direct P G X ≡ call.on_asked P G A M.turns τ
  next_up A e = ap (λ (x : Asked). call.on_asked P G x M.turns τ) e

  next_down : (A : Asked) → step Q (down ∷ gs) ≡ A → (y : Reply) → next_run Q B y d ≡ attempt.on_asked Q B A Open y M w r
  next_down A e y = ap (λ (x : Asked). attempt.on_asked Q B x Open y M w r) e

  -- null, or an object
  on_receiver : (v : Option Slot) (f g : ℕ → Did) → IsFineWith (Heads P Ts S B.region.size τ heap (LastHeads P Ts S B.region.size τ heap)) (on_did P (slot_in v (λ v. ref_in v (λ x. not_null x up (f x)))) fs)
      → step P (up ∷ fs) ≡ on_did P (slot_in v (λ v. ref_in v (λ x. not_null x up (f x)))) fs
      → step Q (down ∷ gs) ≡ on_did Q (slot_in v (λ v. ref_in v (λ x. not_null x down (g x)))) gs
      → ((x : ℕ) → IsFineWith (Heads P Ts S B.region.size τ heap (LastHeads P Ts S B.region.size τ heap)) (on_did P (f (suc x)) fs) → step P (up ∷ fs) ≡ on_did P (f (suc x)) fs
      → step Q (down ∷ gs) ≡ on_did Q (g (suc x)) gs → Goal (suc n) d) → Goal (suc n) d
  on_receiver None f g fine eP eQ go = absurd fine
  on_receiver (Some (Ref zero)) f g fine eP eQ go = traps n X d r stage kk NullPointer (Heads P Ts S B.region.size τ heap (LastHeads P Ts S B.region.size τ heap)) fine eP eQ refl (next_up _ eP) (next_down _ eQ)
  on_receiver (Some (Ref (suc x))) f g fine eP eQ go = go x fine eP eQ
  on_receiver (Some (Int x)) f g fine eP eQ go = absurd fine
  on_receiver (Some (Long x)) f g fine eP eQ go = absurd fine
  on_receiver (Some Second) f g fine eP eQ go = absurd fine
  on_receiver (Some Context) f g fine eP eQ go = absurd fine
  on_receiver (Some Loaded) f g fine eP eQ go = absurd fine
  on_receiver (Some Empty) f g fine eP eQ go = absurd fine

  abbrev First : ℕ → Use → Frames → Type 0
  First = Heads P Ts S B.region.size τ heap (LastHeads P Ts S B.region.size τ heap)

  -- a call by its name
  runs_served : (m1 : ℕ) (b : Bool) → IsFineWith First (on_did P (runs b m1 up) fs) → step P (up ∷ fs) ≡ on_did P (runs b m1 up) fs
      → step Q (down ∷ gs) ≡ on_did Q (runs b (duplicate P m1) down) gs → Goal (suc n) d
  runs_served m1 true fine eP eQ = invoked n X d r stage kk m1 First fine (next_up _ eP) (next_down _ eQ)
  runs_served m1 false fine eP eQ = traps n X d r stage kk AbstractMethod First fine eP eQ refl (next_up _ eP) (next_down _ eQ)

  -- a call of a static method
  static_served : (m1 : ℕ) (k1 : Method) → method_at P m1 ≡ Some k1 → IsFineWith First (on_did P (does P (op.InvokeStatic m1) up) fs) → step P (up ∷ fs) ≡ on_did P (does P (op.InvokeStatic m1) up) fs
      → step Q (down ∷ gs) ≡ on_did Q (does Q (op.InvokeStatic (duplicate P m1)) down) gs → Goal (suc n) d
  static_served m1 k1 is1 fine eP eQ =
      let dup = dup_is m1 k1 is1 in
      let above : does P (op.InvokeStatic m1) up ≡ runs (has_code (Some k1)) m1 up = rw is1 refl in
      let below : does Q (op.InvokeStatic (duplicate P m1)) down ≡ runs (has_code (Some k1)) (duplicate P m1) down = (let there = dup.1 in let same = duplicate_has_code P k1 dup.0 in rw there (ap (λ (b : Bool). runs b (duplicate P m1) down) same)) in
      runs_served m1 (has_code (Some k1)) (subst (λ (y : Did). IsFineWith First (on_did P y fs)) above fine) (eP ∙ ap (λ (y : Did). on_did P y fs) above)
      (eQ ∙ ap (λ (y : Did). on_did Q y gs) below)

  -- a call over an object
  module _ (m1 : ℕ) (k1 : Method) (is1 : method_at P m1 ≡ Some k1) (over : k1.dispatch ≢ dispatch.Static) where
    abbrev T1 : Table
    T1 = (dup_is m1 k1 is1).0

    abbrev kd1 : Method
    kd1 = duplicate_method P k1 T1

    abbrev under : Option Slot
    under = slice_get s (k1.places - 1)

    over_up : (f : Method → ℕ → Did) → over_object P m1 up f ≡ slot_in under (λ v. ref_in v (λ x. not_null x up (f k1 x)))
    over_up f = rw is1 refl

    over_down : (g : Method → ℕ → Did) → over_object Q (duplicate P m1) down g ≡ slot_in under (λ v. ref_in v (λ x. not_null x down (g kd1 x)))
    over_down g =
        let there = (dup_is m1 k1 is1).1 in
        let lies : receiver kd1 (Context ∷ s) ≡ under = ap (λ (i : ℕ). slice_get (Context ∷ s) (i - 1)) (dup_places k1 T1) ∙ receiver_moved k1.places s (takes_object P k1 (source_of P Ts S m1 k1 is1) over) in
        ap (λ (y : Option Method). Rattle.objects.specs.semantics.Step.method_in y (λ (k : Method). slot_in (receiver k (Context ∷ s)) (λ v. ref_in v (λ x. not_null x down (g k x))))) there ∙ ap (λ (y : Option Slot). slot_in y (λ v. ref_in v (λ x. not_null x down (g kd1 x)))) lies

    over_served : (f g : Method → ℕ → Did) → IsFineWith First (on_did P (over_object P m1 up f) fs) → step P (up ∷ fs) ≡ on_did P (over_object P m1 up f) fs
        → step Q (down ∷ gs) ≡ on_did Q (over_object Q (duplicate P m1) down g) gs
        → ((x : ℕ) → IsFineWith First (on_did P (f k1 (suc x)) fs) → step P (up ∷ fs) ≡ on_did P (f k1 (suc x)) fs
        → step Q (down ∷ gs) ≡ on_did Q (g kd1 (suc x)) gs → Goal (suc n) d) → Goal (suc n) d
    over_served f g fine eP eQ go =
        on_receiver under (f k1) (g kd1) (subst (λ (y : Did). IsFineWith First (on_did P y fs)) (over_up f) fine) (eP ∙ ap (λ (y : Did). on_did P y fs) (over_up f))
        (eQ ∙ ap (λ (y : Did). on_did Q y gs) (over_down g)) go

    same_code : has_code (Some kd1) ≡ has_code (Some k1)
    same_code = duplicate_has_code P k1 T1

    -- by the header of its object
    selected_served : (x : ℕ) (u v : Use) → IsInnerUse Q first_added v → IsFineWith First (Asks (asking.Head (suc x) u) (up ∷ fs)) → step P (up ∷ fs) ≡ Asks (asking.Head (suc x) u) (up ∷ fs)
        → step Q (down ∷ gs) ≡ Asks (asking.Head (suc x) v) (down ∷ gs) → ((y : Reply) → next_run Q B y d ≡ attempt.on_head y Q v (suc x) (down ∷ gs) M w r)
        → ((b : Object) → IsFineWith (LastHeads P Ts S B.region.size τ heap) (told P u (suc x) b.type (length_of b) (up ∷ fs)) → (rl : Log) → Agrees ws rl → next_direct P G X ≡ call.followed (told P u (suc x) b.type (length_of b) (up ∷ fs)) M.turns τ
        → Goal (suc n) (attempt.followed (told Q v (suc x) b.type (length_of b) (down ∷ gs)) M w rl)) → Goal (suc n) d
    selected_served x u v inner_use fine eP asks eQ go =
        goal.more (suc n) d (at_head P Ts S Q R B mn args ws σ gives_type c q z slots first_added ops_inner uncounted catch catch_other Goal Astray goal (suc n) X d τ M w r stage (suc x) fine.object fine.there u v (up ∷ fs) (down ∷ gs) inner_use (next_up _ eP) eQ above.0 above.1
        (heads_synced P Q B mn args σ d (suc x) v (down ∷ gs) asks) (added_dup, above.2) (λ rl agrees f. go fine.object fine.goes rl agrees f))

    abbrev Last : ℕ → Use → Frames → Type 0
    Last = LastHeads P Ts S B.region.size τ heap

    virtual_served : (x : ℕ) → SelectsAdded Q first_added (duplicate P m1) → IsFineWith First (Asks (asking.Head (suc x) (Selects m1)) (up ∷ fs)) → step P (up ∷ fs) ≡ Asks (asking.Head (suc x) (Selects m1)) (up ∷ fs)
        → step Q (down ∷ gs) ≡ Asks (asking.Head (suc x) (Selects (duplicate P m1))) (down ∷ gs) → Goal (suc n) d
    virtual_served x inner_use fine eP eQ = selected_served x (Selects m1) (Selects (duplicate P m1)) inner_use fine eP eQ (next_down _ eQ) (λ b fine rl agrees f.
        subst (λ (y : Option ℕ). Goal (suc n) (attempt.followed (found Q y down gs) M w rl)) (sym (moved b.type m1 k1 is1)) (found_behind rl agrees (selected P b.type m1) Last fine f))

    interface_served : (x : ℕ) (name : List ℕ) → SelectsAdded Q first_added (duplicate P m1) → IsFineWith First (Asks (asking.Head (suc x) (Implements m1 name)) (up ∷ fs)) → step P (up ∷ fs) ≡ Asks (asking.Head (suc x) (Implements m1 name)) (up ∷ fs)
        → step Q (down ∷ gs) ≡ Asks (asking.Head (suc x) (Implements (duplicate P m1) name)) (down ∷ gs) → Goal (suc n) d
    interface_served x name inner_use fine eP eQ = selected_served x (Implements m1 name) (Implements (duplicate P m1) name) inner_use fine eP eQ (next_down _ eQ) (λ b fine rl agrees f.
        subst (λ (y : Bool). Goal (suc n) (attempt.followed (or_trap y IncompatibleClassChange (down ∷ gs) (found Q (selected Q b.type (duplicate P m1)) down gs)) M w rl)) (sym (instance_moved P Q Ts R b.type name))
        (subst (λ (y : Option ℕ). Goal (suc n) (attempt.followed (or_trap (is_instance P b.type name) IncompatibleClassChange (down ∷ gs) (found Q y down gs)) M w rl)) (sym (moved b.type m1 k1 is1))
        (by (is_instance P b.type name) b rl agrees fine f)))
      where
        by : (y : Bool) (b : Object) (rl : Log) → Agrees ws rl → IsFineWith Last (or_trap y IncompatibleClassChange (up ∷ fs) (found P (selected P b.type m1) up fs))
            → next_direct P G X ≡ call.followed (or_trap y IncompatibleClassChange (up ∷ fs) (found P (selected P b.type m1) up fs)) M.turns τ
            → Goal (suc n) (attempt.followed (or_trap y IncompatibleClassChange (down ∷ gs) (found Q (option_map (duplicate P) (selected P b.type m1)) down gs)) M w rl)
        by true b rl agrees fine f = found_behind rl agrees (selected P b.type m1) Last fine f
        by false b rl agrees fine f = trapped_behind rl agrees IncompatibleClassChange Last fine f

  served : (x : Op) → IsCallOp x → IsSourceOp P k x → IsInnerOp Q first_added (called x) → IsFineWith First (on_did P (does P x up) fs) → step P (up ∷ fs) ≡ on_did P (does P x up) fs
      → step Q (down ∷ gs) ≡ on_did Q (does Q (called x) down) gs → Goal (suc n) d
  served (op.InvokeStatic m1) i src inner_op fine eP eQ = static_served m1 src.method src.there fine eP eQ
  served (op.InvokeSpecial m1) i src inner_op fine eP eQ =
      over_served m1 src.method src.there src.over_object (λ k1 x. runs (has_code (Some k1)) m1 up) (λ k1 x. runs (has_code (Some k1)) (duplicate P m1) down) fine eP eQ
      (λ x fine eP eQ. runs_served m1 (has_code (Some src.method)) fine eP (eQ ∙ ap (λ (b : Bool). on_did Q (runs b (duplicate P m1) down) gs) (same_code m1 src.method src.there src.over_object)))
  served (op.InvokeVirtual m1 n) i src inner_op fine eP eQ =
      over_served m1 src.method src.there src.over_object (λ k1 x. Does (doing.Head x (Selects m1)) up) (λ k1 x. Does (doing.Head x (Selects (duplicate P m1))) down) fine eP eQ
      (λ x fine eP eQ. virtual_served m1 src.method src.there src.over_object x inner_op fine eP eQ)
  served (op.InvokeInterface m1 name) i src inner_op fine eP eQ =
      over_served m1 src.method src.there src.over_object (λ k1 x. Does (doing.Head x (Implements m1 name)) up) (λ k1 x. Does (doing.Head x (Implements (duplicate P m1) name)) down) fine eP eQ
      (λ x fine eP eQ. interface_served m1 src.method src.there src.over_object x name inner_op fine eP eQ)
  served x i src inner_op fine eP eQ = absurd i

  pub call_goes : Goal (suc n) (On Open (frame dn a l' s ∷ gs) M w r)
  call_goes =
      let src = each_at (IsSourceOp P k) k.ops pc o (source_of P Ts S m k t.is).each e in
      let step_up : step P (up ∷ fs) ≡ on_did P (does P o up) fs = (let i = t.is in rw i (rw e refl)) in
      let step_down : step Q (down ∷ gs) ≡ on_did Q (does Q (called o) down) gs = (let i = down_there in let j = stands_there.1.0 in rw i (rw j refl)) in
      goal.more (suc n) _ (goal.leads 0 (suc n) _ _ context_first
      (served o is_call src called_inner (subst (IsFineWith First) step_up (step_fine P Ts S B.region.size τ heap (up ∷ fs) hr.typed)) step_up step_down))
