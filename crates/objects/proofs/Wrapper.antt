-- What the parts of a wrapper do.
use Rattle.std.proofs.Common.{◌≡◌, ℕ, ℤ, suc, ◌+◌, List, [], ◌∷◌, ◌++◌, length, Option, Some, None, true, false, refl, sym, ap, subst, ◌∙◌, arith, append_assoc, length-append}
use Rattle.std.specs.Prelude.{pos, slice_get, slice_set, nat_lt, nat_le, nat_eq, ◌&&◌, min}
use Rattle.std.specs.List.{flat_map}
use Rattle.std.proofs.lemmas.Bool.Decides.{nat_tests}
use Rattle.jmodel.specs.declared.value.Value.{Value}
use Rattle.jmodel.specs.declared.value.Value.TheVariants as value
use Rattle.jmodel.specs.declared.value.Answer.TheVariants.{Returned, Threw}
use Rattle.jmodel.specs.declared.typing.VType.{VType}
use Rattle.jmodel.specs.declared.typing.VType.TheVariants as type
use Rattle.objects.specs.declared.op.Slot.{Slot}
use Rattle.objects.specs.declared.op.Slot.TheVariants.{Int, Long, Second, Ref, Context}
use Rattle.objects.specs.declared.op.Sort.{Sort}
use Rattle.objects.specs.declared.op.Sort.TheVariants as sort
use Rattle.objects.specs.declared.op.Dispatch.{Dispatch}
use Rattle.objects.specs.declared.op.Dispatch.TheVariants as dispatch
use Rattle.objects.specs.declared.op.Op.{Op}
use Rattle.objects.specs.declared.op.Op.TheVariants.{Load, InvokeStatic}
use Rattle.objects.specs.declared.op.Phase.TheVariants.{Ready, Open, Doomed, Closed}
use Rattle.objects.specs.declared.op.Asking.TheVariants.{Go}
use Rattle.objects.specs.semantics.Program.{Method, Program}
use Rattle.objects.specs.semantics.Value.{pushed, slots_of}
use Rattle.objects.specs.semantics.Step.{Asks, step, on_did, stores, unwinds, find_catch}
use Rattle.objects.specs.typing.Source.{AreArguments}
use Rattle.objects.specs.rewriting.Attempt.{Log, Reply, Bounds, Meter, On, Ended, Stuck, next_run, count_of, begun, on_commit, set_back, class_of}
use Rattle.objects.specs.rewriting.Rewriting.{result_sort, invoke, load_all, entry_code, begin_code, end_code, conflict_code, exception_code, conflict_at, duplicate, wrapper_method}
use Rattle.objects.proofs.Frames.{frame}
use Rattle.objects.proofs.Places.{HasAt, has_all}
use Rattle.objects.proofs.Moved.{pushed_on}
use Rattle.objects.proofs.Replies.{Leads}

-- The wrapper's code by its places: c is the context's local, and q where it stands before the call, for a method with these parameters and this result.
pub record IsWrapper (wm : Method) (c id dn : ℕ) (retries : ℤ) (takes : List VType) (gives : Option VType) (q z : ℕ) : Type 0 where
  pub entry : HasAt wm.ops 0 (entry_code c)
  pub begin : HasAt wm.ops 2 (begin_code c id retries)
  pub place : q ≡ 6 + length (load_all 0 takes)
  pub args : HasAt wm.ops 6 (load_all 0 takes)
  pub call : HasAt wm.ops q (Load sort.Reference c ∷ InvokeStatic dn ∷ end_code gives c)
  pub conflict : HasAt wm.ops z (conflict_code c)
  pub exception : HasAt wm.ops (z + 4) (exception_code c)
  pub catch : (Q : Program) → find_catch Q wm.catches (q + 1) 0 ≡ Some z
  -- another exception of the call goes on at its own part, whose end throws it past each entry
  pub catch_other : (Q : Program) (t : ℕ) → nat_eq t 0 ≡ false → find_catch Q wm.catches (q + 1) t ≡ Some (z + 4)
  pub past : (Q : Program) (t : ℕ) → find_catch Q wm.catches (z + 4 + 1 + 1 + 1 + 1 + 1) t ≡ None
  pub counted : wm.counted ≡ false

module _ (c id dn : ℕ) (retries : ℤ) (takes : List VType) (gives : Option VType) where
  abbrev loads : List Op
  loads = load_all 0 takes

  abbrev called : List Op
  called = Load sort.Reference c ∷ InvokeStatic dn ∷ end_code gives c

  abbrev head : List Op
  head = entry_code c ++ begin_code c id retries

  abbrev code : List Op
  code = entry_code c ++ begin_code c id retries ++ (loads ++ Load sort.Reference c ∷ InvokeStatic dn ∷ []) ++ end_code gives c ++ conflict_code c ++ exception_code c

  abbrev before : List Op
  before = head ++ loads

  code_args : HasAt code 6 loads
  code_args =
      let e : head ++ (loads ++ (called ++ (conflict_code c ++ exception_code c))) ≡ code = simp append_assoc in
      subst (λ l. HasAt l 6 loads) e (has_all head loads (called ++ (conflict_code c ++ exception_code c)))

  before_length : length before ≡ 6 + length loads
  before_length = let e = length-append head loads in omega (arith, e)

  code_call : HasAt code (6 + length loads) called
  code_call =
      let e : before ++ (called ++ (conflict_code c ++ exception_code c)) ≡ code = simp append_assoc in
      subst (λ n. HasAt code n called) before_length (subst (λ l. HasAt l (length before) called) e (has_all before called (conflict_code c ++ exception_code c)))

  abbrev conflict_place : ℕ
  conflict_place = 8 + length loads + length (end_code gives c)

  conflict_length : length (before ++ called) ≡ conflict_place
  conflict_length = omega (arith, length-append before called, before_length)

  code_conflict : HasAt code conflict_place (conflict_code c)
  code_conflict =
      let e : (before ++ called) ++ (conflict_code c ++ exception_code c) ≡ code = simp append_assoc in
      subst (λ n. HasAt code n (conflict_code c)) conflict_length (subst (λ l. HasAt l (length (before ++ called)) (conflict_code c)) e (has_all (before ++ called) (conflict_code c) (exception_code c)))

  exception_length : length ((before ++ called) ++ conflict_code c) ≡ conflict_place + 4
  exception_length = omega (arith, length-append (before ++ called) (conflict_code c), conflict_length)

  code_exception : HasAt code (conflict_place + 4) (exception_code c)
  code_exception =
      let e : ((before ++ called) ++ conflict_code c) ++ (exception_code c ++ []) ≡ code = simp append_assoc in
      subst (λ n. HasAt code n (exception_code c)) exception_length (subst (λ l. HasAt l (length ((before ++ called) ++ conflict_code c)) (exception_code c)) e (has_all ((before ++ called) ++ conflict_code c) (exception_code c) []))

in_call : (n : ℕ) → (nat_le 6 (6 + n + 1) && nat_lt (6 + n + 1) (8 + n)) ≡ true
in_call n = grind (arith, nat_tests)

behind_call : (n e : ℕ) → (nat_le 6 (8 + n + e + 4 + 1 + 1 + 1 + 1 + 1) && nat_lt (8 + n + e + 4 + 1 + 1 + 1 + 1 + 1) (8 + n)) ≡ false
behind_call n e = grind (arith, nat_tests)

-- the place before the call of a method
abbrev pub call_place : Method → ℕ
call_place k = 6 + length (load_all 0 k.parameters)

pub wrapper_is : (P : Program) (id m : ℕ) (retries : ℤ) (k : Method) → k.dispatch ≡ dispatch.Static
    → IsWrapper (wrapper_method P id m retries k) k.places id (duplicate P m) retries k.parameters k.result (call_place k) (conflict_at k)
wrapper_is P id m retries k static =
    let n = length (load_all 0 k.parameters) in
    let whole : Dispatch → List Op = λ d. entry_code k.places ++ begin_code k.places id retries ++ (load_all 0 k.parameters ++ Load sort.Reference k.places ∷ invoke d (duplicate P m) ∷ []) ++ end_code k.result k.places ++ conflict_code k.places ++ exception_code k.places in
    record {
      entry = (refl, (refl, tt));
      begin = (refl, (refl, (refl, (refl, tt))));
      place = refl;
      args = subst (λ (d : Dispatch). HasAt (whole d) 6 (load_all 0 k.parameters)) (sym static) (code_args k.places id (duplicate P m) retries k.parameters k.result);
      call = subst (λ (d : Dispatch). HasAt (whole d) (6 + n) (Load sort.Reference k.places ∷ InvokeStatic (duplicate P m) ∷ end_code k.result k.places)) (sym static) (code_call k.places id (duplicate P m) retries k.parameters k.result);
      conflict = subst (λ (d : Dispatch). HasAt (whole d) (conflict_at k) (conflict_code k.places)) (sym static) (code_conflict k.places id (duplicate P m) retries k.parameters k.result);
      exception = subst (λ (d : Dispatch). HasAt (whole d) (conflict_at k + 4) (exception_code k.places)) (sym static) (code_exception k.places id (duplicate P m) retries k.parameters k.result);
      catch = λ Q. rw (in_call n) refl;
      catch_other = λ Q t other. rw (in_call n, other) refl;
      past = λ Q t. rw (behind_call n (length (end_code k.result k.places))) refl;
      counted = refl;
    }

-- locals with a value at a place
abbrev pub set_value : ℕ → Value → List Slot → List Slot
set_value i (value.Int x) l = slice_set l i (Int x)
set_value i (value.Long x) l = slice_set (slice_set l i (Long x)) (i + 1) Second
set_value i (value.Ref o) l = slice_set l i (Ref o)

-- locals that have it there
abbrev pub HasValue : ℕ → Value → List Slot → Type 0
HasValue i (value.Int x) l = slice_get l i ≡ Some (Int x)
HasValue i (value.Long x) l = (slice_get l i ≡ Some (Long x)) × (slice_get l (i + 1) ≡ Some Second)
HasValue i (value.Ref o) l = slice_get l i ≡ Some (Ref o)

-- room for it
abbrev pub HasRoom : ℕ → Value → List Slot → Type 0
HasRoom i (value.Long x) l = nat_lt (i + 1) (length l) ≡ true
HasRoom i v l = nat_lt i (length l) ≡ true

-- the sort of a value
abbrev pub value_sort : Value → Sort
value_sort (value.Int x) = sort.Int
value_sort (value.Long x) = sort.Long
value_sort (value.Ref o) = sort.Reference

module _ (Q : Program) (B : Bounds) (mn : ℕ) (wm : Method) (is : slice_get Q.methods mn ≡ Some wm) (c id dn : ℕ) (retries : ℤ) (takes : List VType) (q z : ℕ) where
  module _ (gives : Option VType) (W : IsWrapper wm c id dn retries takes gives q z) (l : List Slot) (here : slice_get l c ≡ Some Context) (m : Meter) (w r : Log) where
    -- whatever lies below on its stack
    pub loop_first : (j : List Slot) → Leads Q B 3 (On Ready (frame mn 2 l j ∷ []) m w r) (On Ready (frame mn 5 l (Int retries ∷ Int (pos id) ∷ Context ∷ j) ∷ []) m w r)
    loop_first j = ((refl, refl), λ v1. (simp (is, W.begin.0, W.begin.1.0, W.begin.1.1.0, here) (refl, refl), λ v2. (simp (is, W.begin.0, W.begin.1.0, W.begin.1.1.0, here) (refl, refl), λ v3. simp (is, W.begin.0, W.begin.1.0, W.begin.1.1.0, here))))

    pub loop_begins : (j : List Slot) (v : Reply) → next_run Q B v (On Ready (frame mn 5 l (Int retries ∷ Int (pos id) ∷ Context ∷ j) ∷ []) m w r)
        ≡ begun (nat_lt m.tried (min (count_of retries) B.attempts)) B (frame mn 5 l j ∷ []) m
    loop_begins j v = simp (is, W.begin.1.1.1.0)

    pub call_first : (s : List Slot) → Leads Q B 1 (On Open (frame mn q l s ∷ []) m w r) (On Open (frame mn (q + 1) l (Context ∷ s) ∷ []) m w r)
    call_first s = ((refl, refl), λ v1. simp (is, W.call.0, here))

    pub call_refused : (s : List Slot) → unwinds Q 1 0 (frame mn (q + 1) l s ∷ []) ≡ Asks Go (frame mn z l (Ref 1 ∷ []) ∷ [])
    call_refused s = let catch = W.catch Q in simp (is, catch, W.counted)

    pub call_throws : (e t : ℕ) (s : List Slot) → nat_eq t 0 ≡ false → unwinds Q e t (frame mn (q + 1) l s ∷ []) ≡ Asks Go (frame mn (z + 4) l (Ref e ∷ []) ∷ [])
    call_throws e t s other = let catch = W.catch_other Q t other in simp (is, catch, W.counted)

    pub rolls_first : Leads Q B 2 (On Doomed (frame mn z l (Ref 1 ∷ []) ∷ []) m w r) (On Doomed (frame mn (z + 1 + 1) l (Context ∷ []) ∷ []) m w r)
    rolls_first = ((refl, refl), λ v1. (simp (is, W.conflict.0, W.conflict.1.0, here) (refl, refl), λ v2. simp (is, W.conflict.0, W.conflict.1.0, here)))

    pub rolls_back : (v : Reply) → next_run Q B v (On Doomed (frame mn (z + 1 + 1) l (Context ∷ []) ∷ []) m w r) ≡ On Ready (frame mn (z + 1 + 1 + 1) l [] ∷ []) (set_back B m) [] []
    rolls_back v = simp (is, W.conflict.1.1.0)

    pub rolls_on : (n : Meter) → Leads Q B 1 (On Ready (frame mn (z + 1 + 1 + 1) l [] ∷ []) n [] []) (On Ready (frame mn 2 l [] ∷ []) n [] [])
    rolls_on n = ((refl, refl), λ v. simp (is, W.conflict.1.1.1.0, W.counted))

    pub starts_up : (l0 : List Slot) → nat_lt c (length l0) ≡ true → slice_set l0 c Context ≡ l → Leads Q B 2 (On Ready (frame mn 0 l0 [] ∷ []) m w r) (On Ready (frame mn 2 l [] ∷ []) m w r)
    starts_up l0 room set = ((refl, refl), λ v1. (simp (is, W.entry.0, W.entry.1.0, room, set) (refl, refl), λ v2. simp (is, W.entry.0, W.entry.1.0, room, set)))

  -- the arguments are put on the stack, one after another
  module _ (l : List Slot) (m : Meter) (w r : Log) where
    -- locals from i on have the arguments
    abbrev pub HaveAll : ℕ → List Slot → Type 0
    HaveAll i [] = Unit {0}
    HaveAll i (v ∷ vs) = (slice_get l i ≡ Some v) × HaveAll (suc i) vs

    pub loads_args : (ts : List VType) (vs : List Value) → AreArguments ts vs → (i p : ℕ) (s : List Slot) → HasAt wm.ops p (load_all i ts) → HaveAll i (flat_map slots_of vs)
        → Leads Q B (length (load_all i ts)) (On Open (frame mn p l s ∷ []) m w r) (On Open (frame mn (p + length (load_all i ts)) l (pushed_on (flat_map slots_of vs) s) ∷ []) m w r)
    loads_args [] [] a i p s code has = let e : p ≡ p + 0 = omega arith in ap (λ (n : ℕ). On Open (frame mn n l s ∷ []) m w r) e
    loads_args (type.Int ∷ ts) (value.Int x ∷ vs) a i p s code has =
        let e : p + 1 + length (load_all (suc i) ts) ≡ p + suc (length (load_all (suc i) ts)) = omega arith in (
          (refl, refl),
          λ v. subst (λ (d : _). Leads Q B (length (load_all (suc i) ts)) (next_run Q B v (On Open (frame mn p l s ∷ []) m w r)) d) (ap (λ (n : ℕ). On Open (frame mn n l (pushed_on (flat_map slots_of vs) (Int x ∷ s)) ∷ []) m w r) e)
              (let f : next_run Q B v (On Open (frame mn p l s ∷ []) m w r) ≡ On Open (frame mn (p + 1) l (Int x ∷ s) ∷ []) m w r = simp (is, code.0, has.0) in
              subst (λ (c : _). Leads Q B (length (load_all (suc i) ts)) c (On Open (frame mn (p + 1 + length (load_all (suc i) ts)) l (pushed_on (flat_map slots_of vs) (Int x ∷ s)) ∷ []) m w r)) (sym f) (loads_args ts vs a.1 (suc i) (p + 1) (Int x ∷ s) code.1 has.1)),
        )
    loads_args (type.Ref n ∷ ts) (value.Ref o ∷ vs) a i p s code has =
        let e : p + 1 + length (load_all (suc i) ts) ≡ p + suc (length (load_all (suc i) ts)) = omega arith in (
          (refl, refl),
          λ v. subst (λ (d : _). Leads Q B (length (load_all (suc i) ts)) (next_run Q B v (On Open (frame mn p l s ∷ []) m w r)) d) (ap (λ (n : ℕ). On Open (frame mn n l (pushed_on (flat_map slots_of vs) (Ref o ∷ s)) ∷ []) m w r) e)
              (let f : next_run Q B v (On Open (frame mn p l s ∷ []) m w r) ≡ On Open (frame mn (p + 1) l (Ref o ∷ s) ∷ []) m w r = simp (is, code.0, has.0) in
              subst (λ (c : _). Leads Q B (length (load_all (suc i) ts)) c (On Open (frame mn (p + 1 + length (load_all (suc i) ts)) l (pushed_on (flat_map slots_of vs) (Ref o ∷ s)) ∷ []) m w r)) (sym f) (loads_args ts vs a.1 (suc i) (p + 1) (Ref o ∷ s) code.1 has.1)),
        )
    loads_args (type.Long ∷ type.Second ∷ ts) (value.Long x ∷ vs) a i p s code has =
        let e : p + 1 + length (load_all (suc (suc i)) ts) ≡ p + suc (length (load_all (suc (suc i)) ts)) = omega arith in
        let d : i + 1 ≡ suc i = omega arith in
        let second : slice_get l (i + 1) ≡ Some Second = ap (slice_get l) d ∙ has.1.0 in (
          (refl, refl),
          λ v. subst (λ (d : _). Leads Q B (length (load_all (suc (suc i)) ts)) (next_run Q B v (On Open (frame mn p l s ∷ []) m w r)) d) (ap (λ (n : ℕ). On Open (frame mn n l (pushed_on (flat_map slots_of vs) (Second ∷ Long x ∷ s)) ∷ []) m w r) e)
              (let f : next_run Q B v (On Open (frame mn p l s ∷ []) m w r) ≡ On Open (frame mn (p + 1) l (Second ∷ Long x ∷ s) ∷ []) m w r = simp (is, code.0, has.0, second) in
              subst (λ (c : _). Leads Q B (length (load_all (suc (suc i)) ts)) c (On Open (frame mn (p + 1 + length (load_all (suc (suc i)) ts)) l (pushed_on (flat_map slots_of vs) (Second ∷ Long x ∷ s)) ∷ []) m w r)) (sym f) (loads_args ts vs a.1 (suc (suc i)) (p + 1) (Second ∷ Long x ∷ s) code.1 has.1.1)),
        )
    loads_args ts vs a i p s code has = absurd a

  -- the end of a call that throws
  module _ (gives : Option VType) (W : IsWrapper wm c id dn retries takes gives q z) (l l2 : List Slot) (o : ℕ) (room : nat_lt (c + 1) (length l) ≡ true) (set : slice_set l (c + 1) (Ref o) ≡ l2) (here : slice_get l2 c ≡ Some Context) (kept : slice_get l2 (c + 1) ≡ Some (Ref o)) (m : Meter) (w r : Log) where
    pub throw_first : Leads Q B 2 (On Open (frame mn (z + 4) l (Ref o ∷ []) ∷ []) m w r) (On Open (frame mn (z + 4 + 1 + 1) l2 (Context ∷ []) ∷ []) m w r)
    throw_first = ((refl, refl), λ v1. (simp (is, W.exception.0, W.exception.1.0, room, set, here) (refl, refl), λ v2. simp (is, W.exception.0, W.exception.1.0, room, set, here)))

    pub throw_commits : (v : Reply) → next_run Q B v (On Open (frame mn (z + 4 + 1 + 1) l2 (Context ∷ []) ∷ []) m w r) ≡ on_commit B v (frame mn (z + 4 + 1 + 1) l2 [] ∷ []) m w r
    throw_commits v = simp (is, W.exception.1.1.0)

    pub throw_again : Leads Q B 1 (On Ready (frame mn (z + 4 + 1 + 1 + 1) l2 (Int (pos 0) ∷ []) ∷ []) m w r) (On Ready (frame mn 2 l2 [] ∷ []) m w r)
    throw_again = ((refl, refl), λ v1. simp (is, W.exception.1.1.1.0, W.counted))

    pub throw_last : (e : ℕ) → o ≡ suc e → (class : List ℕ) → class_of Q m.thrown (suc e) ≡ Some class → Leads Q B 3 (On Closed (frame mn (z + 4 + 1 + 1 + 1) l2 (Int (pos 1) ∷ []) ∷ []) m w r) (Ended (Threw class) m w r)
    throw_last e is_some class named = let past = W.past Q 0 in let kept : slice_get l2 (c + 1) ≡ Some (Ref (suc e)) = kept ∙ ap (λ (x : ℕ). Some (Ref x)) is_some in ((refl, refl), λ v1. (simp (is, W.exception.1.1.1.0, W.exception.1.1.1.1.0, W.exception.1.1.1.1.1.0, kept, past, named, W.counted) (refl, refl), λ v2. (simp (is, W.exception.1.1.1.0, W.exception.1.1.1.1.0, W.exception.1.1.1.1.1.0, kept, past, named, W.counted) (refl, refl), λ v3. simp (is, W.exception.1.1.1.0, W.exception.1.1.1.1.0, W.exception.1.1.1.1.1.0, kept, past, named, W.counted))))

  -- a rollback is wrong in an attempt that met no conflict
  module _ (gives : Option VType) (W : IsWrapper wm c id dn retries takes gives q z) (l : List Slot) (o : ℕ) (here : slice_get l c ≡ Some Context) (m : Meter) (w r : Log) where
    pub wrong_first : Leads Q B 2 (On Open (frame mn z l (Ref o ∷ []) ∷ []) m w r) (On Open (frame mn (z + 1 + 1) l (Context ∷ []) ∷ []) m w r)
    wrong_first = ((refl, refl), λ v1. (simp (is, W.conflict.0, W.conflict.1.0, here) (refl, refl), λ v2. simp (is, W.conflict.0, W.conflict.1.0, here)))

    pub wrong_last : (v : Reply) → next_run Q B v (On Open (frame mn (z + 1 + 1) l (Context ∷ []) ∷ []) m w r) ≡ Stuck r
    wrong_last v = simp (is, W.conflict.1.1.0)

  -- the end of a call that gives a value
  module _ (t : VType) (W : IsWrapper wm c id dn retries takes (Some t) q z) (l : List Slot) (m : Meter) (w r : Log) (j : List Slot) where
    pub end_first : (y : Value) (l2 : List Slot) → result_sort t ≡ value_sort y → HasRoom (c + 1) y l → set_value (c + 1) y l ≡ l2 → slice_get l2 c ≡ Some Context
        → Leads Q B 2 (On Open (frame mn (q + 1 + 1) l (pushed y j) ∷ []) m w r) (On Open (frame mn (q + 1 + 1 + 1 + 1) l2 (Context ∷ j) ∷ []) m w r)
    end_first (value.Int x) l2 s room set here = ((refl, refl), λ v1. (simp (is, W.call.1.1.0, W.call.1.1.1.0, s, room, set, here) (refl, refl), λ v2. simp (is, W.call.1.1.0, W.call.1.1.1.0, s, room, set, here)))
    end_first (value.Long x) l2 s room set here = ((refl, refl), λ v1. (simp (is, W.call.1.1.0, W.call.1.1.1.0, s, room, set, here) (refl, refl), λ v2. simp (is, W.call.1.1.0, W.call.1.1.1.0, s, room, set, here)))
    end_first (value.Ref o) l2 s room set here = ((refl, refl), λ v1. (simp (is, W.call.1.1.0, W.call.1.1.1.0, s, room, set, here) (refl, refl), λ v2. simp (is, W.call.1.1.0, W.call.1.1.1.0, s, room, set, here)))

    pub end_commits : (v : Reply) → next_run Q B v (On Open (frame mn (q + 1 + 1 + 1 + 1) l (Context ∷ j) ∷ []) m w r) ≡ on_commit B v (frame mn (q + 1 + 1 + 1 + 1) l j ∷ []) m w r
    end_commits v = simp (is, W.call.1.1.1.1.0)

    pub end_again : Leads Q B 1 (On Ready (frame mn (q + 1 + 1 + 1 + 1 + 1) l (Int (pos 0) ∷ j) ∷ []) m w r) (On Ready (frame mn 2 l j ∷ []) m w r)
    end_again = ((refl, refl), λ v1. simp (is, W.call.1.1.1.1.1.0, W.counted))

    pub end_last : (y : Value) → result_sort t ≡ value_sort y → HasValue (c + 1) y l → Leads Q B 3 (On Closed (frame mn (q + 1 + 1 + 1 + 1 + 1) l (Int (pos 1) ∷ j) ∷ []) m w r) (Ended (Returned (Some y)) m w r)
    end_last (value.Int x) s kept = ((refl, refl), λ v1. (simp (is, W.call.1.1.1.1.1.0, W.call.1.1.1.1.1.1.0, W.call.1.1.1.1.1.1.1.0, s, kept) (refl, refl), λ v2. (simp (is, W.call.1.1.1.1.1.0, W.call.1.1.1.1.1.1.0, W.call.1.1.1.1.1.1.1.0, s, kept) (refl, refl), λ v3. simp (is, W.call.1.1.1.1.1.0, W.call.1.1.1.1.1.1.0, W.call.1.1.1.1.1.1.1.0, s, kept))))
    end_last (value.Ref o) s kept = ((refl, refl), λ v1. (simp (is, W.call.1.1.1.1.1.0, W.call.1.1.1.1.1.1.0, W.call.1.1.1.1.1.1.1.0, s, kept) (refl, refl), λ v2. (simp (is, W.call.1.1.1.1.1.0, W.call.1.1.1.1.1.1.0, W.call.1.1.1.1.1.1.1.0, s, kept) (refl, refl), λ v3. simp (is, W.call.1.1.1.1.1.0, W.call.1.1.1.1.1.1.0, W.call.1.1.1.1.1.1.1.0, s, kept))))
    end_last (value.Long x) s kept = ((refl, refl), λ v1. (simp (is, W.call.1.1.1.1.1.0, W.call.1.1.1.1.1.1.0, W.call.1.1.1.1.1.1.1.0, s, kept.0, kept.1) (refl, refl), λ v2. (simp (is, W.call.1.1.1.1.1.0, W.call.1.1.1.1.1.1.0, W.call.1.1.1.1.1.1.1.0, s, kept.0, kept.1) (refl, refl), λ v3. simp (is, W.call.1.1.1.1.1.0, W.call.1.1.1.1.1.1.0, W.call.1.1.1.1.1.1.1.0, s, kept.0, kept.1))))

  -- the end of a call that gives none
  module _ (W : IsWrapper wm c id dn retries takes None q z) (l : List Slot) (here : slice_get l c ≡ Some Context) (m : Meter) (w r : Log) (j : List Slot) where
    pub bare_first : Leads Q B 1 (On Open (frame mn (q + 1 + 1) l j ∷ []) m w r) (On Open (frame mn (q + 1 + 1 + 1) l (Context ∷ j) ∷ []) m w r)
    bare_first = ((refl, refl), λ v1. simp (is, W.call.1.1.0, here))

    pub bare_commits : (v : Reply) → next_run Q B v (On Open (frame mn (q + 1 + 1 + 1) l (Context ∷ j) ∷ []) m w r) ≡ on_commit B v (frame mn (q + 1 + 1 + 1) l j ∷ []) m w r
    bare_commits v = simp (is, W.call.1.1.1.0)

    pub bare_again : Leads Q B 1 (On Ready (frame mn (q + 1 + 1 + 1 + 1) l (Int (pos 0) ∷ j) ∷ []) m w r) (On Ready (frame mn 2 l j ∷ []) m w r)
    bare_again = ((refl, refl), λ v1. simp (is, W.call.1.1.1.1.0, W.counted))

    pub bare_last : Leads Q B 2 (On Closed (frame mn (q + 1 + 1 + 1 + 1) l (Int (pos 1) ∷ j) ∷ []) m w r) (Ended (Returned None) m w r)
    bare_last = ((refl, refl), λ v1. (simp (is, W.call.1.1.1.1.0, W.call.1.1.1.1.1.0) (refl, refl), λ v2. simp (is, W.call.1.1.1.1.0, W.call.1.1.1.1.1.0)))

  -- a value is kept, whatever lies on the stack: where it isn't of the sort, the wrapper is stuck
  module _ (t : VType) (W : IsWrapper wm c id dn retries takes (Some t) q z) where
    pub end_asked : (l s : List Slot) → step Q (frame mn (q + 1 + 1) l s ∷ []) ≡ on_did Q (stores (result_sort t) (c + 1) (frame mn (q + 1 + 1) l s)) []
    end_asked l s = simp (is, W.call.1.1.0)

    pub end_loads : (l j : List Slot) → slice_get l c ≡ Some Context → (m : Meter) (w r : Log) → Leads Q B 1 (On Open (frame mn (q + 1 + 1 + 1) l j ∷ []) m w r) (On Open (frame mn (q + 1 + 1 + 1 + 1) l (Context ∷ j) ∷ []) m w r)
    end_loads l j here m w r = ((refl, refl), λ v. simp (is, W.call.1.1.1.0, here))
