-- Attempts whose reads no state has. Whatever they do, they come back to the wrapper's loop, or end.
use Rattle.std.proofs.Common.{◌≡◌, ℕ, ℤ, zero, suc, ◌+◌, ◌<◌, ◌≤◌, List, [], ◌∷◌, length, Option, Some, None, Bool, true, false, refl, sym, subst, ◌∙◌, arith}
use Rattle.std.specs.Prelude.{pos, slice_get, slice_set, nat_lt, nat_eq}
use Rattle.std.specs.List.{AllByRecursion}
use Rattle.std.proofs.lemmas.Bool.Decides.{nat_tests}
use Rattle.std.proofs.lemmas.List.{length-set}
use Rattle.std.proofs.lemmas.Option.{slice_get_within}
use Rattle.jmodel.specs.declared.value.Value.{Value}
use Rattle.jmodel.specs.declared.value.Answer.{Answer}
use Rattle.jmodel.specs.declared.typing.VType.{VType}
use Rattle.jmodel.specs.declared.access.Access.{Access}
use Rattle.objects.specs.declared.op.Slot.{Slot}
use Rattle.objects.specs.declared.op.Slot.TheVariants.{Int, Long, Second, Ref, Context, Loaded}
use Rattle.objects.specs.declared.op.Sort.{Sort}
use Rattle.objects.specs.declared.op.Sort.TheVariants as sort
use Rattle.objects.specs.declared.op.Doing.TheVariants as doing
use Rattle.objects.specs.declared.op.Element.TheVariants as element
use Rattle.objects.specs.declared.op.Made.{Made}
use Rattle.objects.specs.declared.op.Made.TheVariants.{Pushed, Raised}
use Rattle.objects.specs.declared.op.Use.{Use}
use Rattle.objects.specs.declared.op.Use.TheVariants.{Indexes}
use Rattle.objects.specs.declared.op.Phase.TheVariants.{Ready, Open, Closed}
use Rattle.objects.specs.declared.op.Request.{Request}
use Rattle.objects.specs.declared.op.Request.TheVariants as request
use Rattle.objects.specs.declared.op.Asking.{Asking as Wanted}
use Rattle.objects.specs.declared.op.Asking.TheVariants as asking
use Rattle.objects.specs.semantics.Value.{pushed, value_of}
use Rattle.objects.specs.semantics.Program.{Row, Method, Program, row_at, is_counted}
use Rattle.objects.specs.semantics.Region.{next_reference}
use Rattle.objects.specs.semantics.State.{Object, type_in, object_of}
use Rattle.objects.specs.semantics.Step.{Frames, Did, Does, Wrong, Asked, Asks, Fails, step, on_did, set_local, set_long, stores, catch_at, unwinds, told, next, received, resumed}
use Rattle.objects.specs.rewriting.Attempt.{Log, access, answered, written, recorded, Reply, Gives, Refuses, Bounds, Meter, Run, On, Asking, Ended, Stuck, next_run, unwound, set_back, with_turns, with_depth, class_of, threw_of, on_thrown, on_made, on_header, makes, made, followed, on_head, heads, on_raise, throws, on_commit, on_request, on_asked, address}
use Rattle.objects.specs.rewriting.Rewriting.{result_sort, spare_locals}
use Rattle.objects.proofs.Frames.{frame}
use Rattle.objects.proofs.Moved.{get_set_same, get_set_other}
use Rattle.objects.proofs.Inner.{IsAdded, IsInnerOp, IsInnerUse, IsInnerRequest}
use Rattle.objects.proofs.Above.{AboveCall, InsideCall, above_inside, LandsAt, inside, back, thrown, refused, IsInnerAsked, IsInnerWanted, unwinds_inner, step_inner, told_inner, advanced_inside, resumed_inside}
use Rattle.objects.proofs.Wrapper.{IsWrapper, throw_first, throw_commits, throw_again, wrong_first, wrong_last, bare_first, bare_commits, bare_again, end_asked, end_loads, end_commits, end_again}
use Rattle.objects.proofs.Replies.{IsOfEnds, Holds, on_leads, on_reply, on_reply_more, at_none, at_end, at_stuck}

-- locals of the wrapper, with the arguments and the context in place, and room for the result
pub record IsSet (gives : Option VType) (c : ℕ) (slots wl : List Slot) : Type 0 where
  pub here : slice_get wl c ≡ Some Context
  pub room : c + 1 < length wl
  pub wide : c + spare_locals gives ≤ length wl
  pub args : (j : ℕ) (v : Slot) → slice_get slots j ≡ Some v → slice_get wl j ≡ Some v

-- a store behind the context changes neither
pub set_behind : (gives : Option VType) (c : ℕ) (slots wl : List Slot) (i : ℕ) (v : Slot) → length slots ≡ c → c < i → IsSet gives c slots wl → IsSet gives c slots (slice_set wl i v)
set_behind gives c slots wl i v len lt h =
    let n = length-set wl i v in
    let room = h.room in
    let wide = h.wide in
    record {
      here = get_set_other wl i c v (λ d. omega (arith, d, lt)) ∙ h.here;
      room = omega (arith, n, room);
      wide = omega (arith, n, wide);
      args = λ j x e. let low = slice_get_within slots j x e in get_set_other wl i j v (λ d. omega (arith, d, lt, low, len)) ∙ h.args j x e;
    }

-- what reads a run has
abbrev pub reads_of : Run → Log
reads_of (On p fs m w r) = r
reads_of (Asking a fs m w r) = r
reads_of (Ended x m w r) = r
reads_of (Stuck r) = r

module _ (Q : Program) (B : Bounds) (F : Run → Type 0) (fine : IsOfEnds Q B F) (IsLost : Log → Type 0) (grows : (l : Access) (r : Log) → IsLost r → IsLost (l ∷ r)) (vacuous : (c : Run) → IsLost (reads_of c) → F c) where
  abbrev Hold : ℕ → Run → Type 0
  Hold = Holds Q B F

  logged : (o : Option ℕ) (a v : ℕ) (r : Log) → IsLost r → IsLost (recorded o a v r)
  logged None a v r h = grows (access a v) r h
  logged (Some x) a v r h = h

  over : (n : ℕ) (x : Answer) (m : Meter) (w r : Log) → IsLost r → Hold n (Ended x m w r)
  over n x m w r h = at_end Q B F fine n x m w r (vacuous (Ended x m w r) h)

  stuck : (n : ℕ) (r : Log) → IsLost r → Hold n (Stuck r)
  stuck n r h = at_stuck Q B F fine n r (vacuous (Stuck r) h)

  -- behind a commit
  named : (n : ℕ) (o : Option (List ℕ)) (m : Meter) (w r : Log) → IsLost r → Hold n (threw_of o m w r)
  named n None m w r h = stuck n r h
  named n (Some class) m w r h = over n _ m w r h

  pub closed : (n : ℕ) (fs : Frames) (m : Meter) (w r : Log) → IsLost r → Hold n (On Closed fs m w r)
  closed zero fs m w r h = at_none Q B F fine (On Closed fs m w r) (vacuous (On Closed fs m w r) h)
  closed (suc n) fs m w r h = on_reply_more Q B F fine n (On Closed fs m w r) (vacuous (On Closed fs m w r) h) (λ v. by v (step Q fs) (λ gs. closed n gs m w r h))
    where
      by : (v : Reply) (a : Asked) → ((gs : Frames) → Hold n (On Closed gs m w r)) → Hold n (on_asked Q B a Closed v m w r)
      by v Fails go = stuck n r h
      by v (Asks asking.Go gs) go = go gs
      by v (Asks asking.Turn gs) go = stuck n r h
      by v (Asks (asking.Enter deep) gs) go = stuck n r h
      by v (Asks (asking.Return x) gs) go = over n _ m w r h
      by v (Asks (asking.Throw o) gs) go = named n (class_of Q m.thrown o) m w r h
      by v (Asks (asking.Raise o) gs) go = stuck n r h
      by v (Asks (asking.Make t i d) gs) go = stuck n r h
      by v (Asks (asking.Head o u) gs) go = stuck n r h
      by v (Asks (asking.Ask (request.Begin i)) gs) go = stuck n r h
      by v (Asks (asking.Ask (request.Get p)) gs) go = stuck n r h
      by v (Asks (asking.Ask (request.Put p x)) gs) go = stuck n r h
      by v (Asks (asking.Ask (request.Look p)) gs) go = stuck n r h
      by v (Asks (asking.Ask (request.Read p t)) gs) go = stuck n r h
      by v (Asks (asking.Ask (request.Write p x)) gs) go = stuck n r h
      by v (Asks (asking.Ask request.Commit) gs) go = stuck n r h
      by v (Asks (asking.Ask request.Rollback) gs) go = stuck n r h

  module _ (mn : ℕ) (wm : Method) (is : slice_get Q.methods mn ≡ Some wm) (c id dn : ℕ) (retries : ℤ) (takes : List VType) (q z : ℕ) (slots : List Slot) (len : length slots ≡ c) where
    -- a store in the wrapper, behind its context: there is room, or it is stuck
    pub data StoreDid (gives : Option VType) (p : ℕ) : Did → Type 0 where
      none : StoreDid gives p Wrong
      sets : (l j : List Slot) → IsSet gives c slots l → StoreDid gives p (Does doing.Next (frame mn p l j))

    one_stored : (gives : Option VType) (p : ℕ) (wl j : List Slot) (v : Slot) → IsSet gives c slots wl → (b : Bool) → StoreDid gives p (set_local b (c + 1) v (frame mn p wl j))
    one_stored gives p wl j v h true = sets _ j (set_behind gives c slots wl (c + 1) v len (omega arith) h)
    one_stored gives p wl j v h false = none

    long_stored : (gives : Option VType) (p : ℕ) (wl j : List Slot) (x : ℤ) → IsSet gives c slots wl → (b : Bool) → StoreDid gives p (set_long b (c + 1) x (frame mn p wl j))
    long_stored gives p wl j x h true = sets _ j (set_behind gives c slots _ (c + 1 + 1) Second len (omega arith) (set_behind gives c slots wl (c + 1) (Long x) len (omega arith) h))
    long_stored gives p wl j x h false = none

    pub stored_by : (gives : Option VType) (p : ℕ) (t : Sort) (wl j : List Slot) → IsSet gives c slots wl → StoreDid gives p (stores t (c + 1) (frame mn p wl j))
    stored_by gives p sort.Int wl [] h = none
    stored_by gives p sort.Int wl (Int x ∷ j) h = one_stored gives p wl j (Int x) h (nat_lt (c + 1) (length wl))
    stored_by gives p sort.Int wl (v ∷ j) h = none
    stored_by gives p sort.Reference wl [] h = none
    stored_by gives p sort.Reference wl (Ref o ∷ j) h = one_stored gives p wl j (Ref o) h (nat_lt (c + 1) (length wl))
    stored_by gives p sort.Reference wl (Context ∷ j) h = one_stored gives p wl j Context h (nat_lt (c + 1) (length wl))
    stored_by gives p sort.Reference wl (v ∷ j) h = none
    stored_by gives p sort.Long wl [] h = none
    stored_by gives p sort.Long wl (Second ∷ []) h = none
    stored_by gives p sort.Long wl (Second ∷ Long x ∷ j) h = long_stored gives p wl j x h (nat_lt (c + 1 + 1) (length wl))
    stored_by gives p sort.Long wl (Second ∷ v ∷ j) h = none
    stored_by gives p sort.Long wl (v ∷ j) h = none

    module _ (n : ℕ) (w r : Log) (gone : IsLost r) where
      now : (c : Run) → reads_of c ≡ r → F c
      now c e = vacuous c (subst IsLost (sym e) gone)

      -- a commit: it ends the call, or the wrapper tries again
      commits : (gs hs : Frames) (m : Meter) (c0 : Run) → reads_of c0 ≡ r → ((v : Reply) → next_run Q B v c0 ≡ on_commit B v gs m w r)
          → Hold n (On Ready (resumed (Int (pos 0) ∷ []) gs) (set_back B m) [] []) → Hold n c0
      commits gs hs m c0 e asks again = on_reply Q B F fine n c0 (now c0 e) (λ v. subst (Hold n) (sym (asks v)) (by v))
        where
          by : (v : Reply) → Hold n (on_commit B v gs m w r)
          by (Gives x) = closed n _ m w r gone
          by Refuses = again

      module _ (gives : Option VType) (loop : (wl j : List Slot) → IsSet gives c slots wl → (m : Meter) → Hold n (On Ready (frame mn 2 wl j ∷ []) (set_back B m) [] [])) where
        bare : (W : IsWrapper wm c id dn retries takes None q z) → ((wl j : List Slot) → IsSet None c slots wl → (m : Meter) → Hold n (On Ready (frame mn 2 wl j ∷ []) (set_back B m) [] [])) → (wl j : List Slot) → IsSet None c slots wl → (m : Meter)
            → Hold n (On Open (frame mn (q + 1 + 1) wl j ∷ []) m w r)
        bare W loop wl j h m =
            on_leads Q B F fine 1 n _ _ (bare_first Q B mn wm is c id dn retries takes q z W wl h.here m w r j)
            (commits (frame mn (q + 1 + 1 + 1) wl j ∷ []) [] m _ refl (λ v. bare_commits Q B mn wm is c id dn retries takes q z W wl h.here m w r j v)
            (on_leads Q B F fine 1 n _ _ (bare_again Q B mn wm is c id dn retries takes q z W wl h.here (set_back B m) [] [] j) (loop wl j h m)))

        some : (t : VType) (W : IsWrapper wm c id dn retries takes (Some t) q z) → ((wl j : List Slot) → IsSet (Some t) c slots wl → (m : Meter) → Hold n (On Ready (frame mn 2 wl j ∷ []) (set_back B m) [] [])) → (wl j : List Slot) → IsSet (Some t) c slots wl → (m : Meter)
            → Hold n (On Open (frame mn (q + 1 + 1) wl j ∷ []) m w r)
        some t W loop wl j h m =
            let e = end_asked Q B mn wm is c id dn retries takes q z t W wl j in
            on_reply Q B F fine n _ (now _ refl) (λ v. subst (λ (a : Asked). Hold n (on_asked Q B a Open v m w r)) (sym e) (by v _ (stored_by (Some t) (q + 1 + 1) (result_sort t) wl j h)))
          where
            by : (v : Reply) (d : Did) → StoreDid (Some t) (q + 1 + 1) d → Hold n (on_asked Q B (on_did Q d []) Open v m w r)
            by v d none = stuck n r gone
            by v d (sets l s g) =
                on_leads Q B F fine 1 n _ _ (end_loads Q B mn wm is c id dn retries takes q z t W l s g.here m w r)
                (commits (frame mn (q + 1 + 1 + 1 + 1) l s ∷ []) [] m _ refl (λ v. end_commits Q B mn wm is c id dn retries takes q z t W l m w r s v)
                (on_leads Q B F fine 1 n _ _ (end_again Q B mn wm is c id dn retries takes q z t W l (set_back B m) [] [] s) (loop l s g m)))

    -- the wrapper goes on with what the call gave, or threw
    module _ (gives : Option VType) (W : IsWrapper wm c id dn retries takes gives q z) (n : ℕ) (loop : (wl j : List Slot) → IsSet gives c slots wl → (m : Meter) → Hold n (On Ready (frame mn 2 wl j ∷ []) (set_back B m) [] [])) where
      after_by : (g : Option VType) → IsWrapper wm c id dn retries takes g q z → ((wl j : List Slot) → IsSet g c slots wl → (m : Meter) → Hold n (On Ready (frame mn 2 wl j ∷ []) (set_back B m) [] []))
          → (wl j : List Slot) → IsSet g c slots wl → (m : Meter) (w r : Log) → IsLost r → Hold n (On Open (frame mn (q + 1 + 1) wl j ∷ []) m w r)
      after_by None W loop wl j h m w r gone = bare n w r gone None loop W loop wl j h m
      after_by (Some t) W loop wl j h m w r gone = some n w r gone (Some t) loop t W loop wl j h m

      after : (v : Option Value) (wl j : List Slot) → IsSet gives c slots wl → (m : Meter) (w r : Log) → IsLost r → Hold n (On Open (next (received v (frame mn (q + 1) wl j)) ∷ []) m w r)
      after None wl j h m w r gone = after_by gives W loop wl j h m w r gone
      after (Some y) wl j h m w r gone = after_by gives W loop wl (pushed y j) h m w r gone

      threw : (o : ℕ) (wl : List Slot) → IsSet gives c slots wl → (m : Meter) (w r : Log) → IsLost r → Hold n (On Open (frame mn (z + 4) wl (Ref o ∷ []) ∷ []) m w r)
      threw o wl h m w r gone =
          let l2 = slice_set wl (c + 1) (Ref o) in
          let room : nat_lt (c + 1) (length wl) ≡ true = let g = h.room in grind (arith, nat_tests) in
          let g = set_behind gives c slots wl (c + 1) (Ref o) len (omega arith) h in
          let kept = get_set_same wl (c + 1) (Ref o) h.room in
          on_leads Q B F fine 2 n _ _ (throw_first Q B mn wm is c id dn retries takes q z gives W wl l2 o room refl g.here kept m w r)
          (commits n w r gone (frame mn (z + 4 + 1 + 1) l2 [] ∷ []) [] m _ refl (λ v. throw_commits Q B mn wm is c id dn retries takes q z gives W wl l2 o room refl g.here kept m w r v)
          (on_leads Q B F fine 1 n _ _ (throw_again Q B mn wm is c id dn retries takes q z gives W wl l2 o room refl g.here kept (set_back B m) [] []) (loop l2 [] g m)))

      wrong : (o : ℕ) (wl : List Slot) → IsSet gives c slots wl → (m : Meter) (w r : Log) → IsLost r → Hold n (On Open (frame mn z wl (Ref o ∷ []) ∷ []) m w r)
      wrong o wl h m w r gone =
          on_leads Q B F fine 2 n _ _ (wrong_first Q B mn wm is c id dn retries takes q z gives W wl o h.here m w r)
          (on_reply Q B F fine n _ (now n w r gone _ refl) (λ v. subst (Hold n) (sym (wrong_last Q B mn wm is c id dn retries takes q z gives W wl o h.here m w r v)) (stuck n r gone)))

    -- ---- runs of added methods

    module _ (gives : Option VType) (W : IsWrapper wm c id dn retries takes gives q z) (first : ℕ) (ops_inner : (m : ℕ) (k : Method) → IsAdded Q first m → slice_get Q.methods m ≡ Some k → AllByRecursion (IsInnerOp Q first) k.ops)
        (uncounted : is_counted Q mn ≡ false) (catch : catch_at Q mn (q + 1) 0 ≡ Some z) (catch_other : (t : ℕ) → nat_eq t 0 ≡ false → catch_at Q mn (q + 1) t ≡ Some (z + 4)) where
      abbrev Loops : ℕ → Type 0
      Loops n = (wl j : List Slot) → IsSet gives c slots wl → (m : Meter) → Hold n (On Ready (frame mn 2 wl j ∷ []) (set_back B m) [] [])

      module _ (refuses_at : (n : ℕ) (w r : Log) → IsLost r → Loops n → (wl : List Slot) → IsSet gives c slots wl → (fs : Frames) → AboveCall Q first mn q wl fs → (m : Meter) → Hold n (unwound (unwinds Q 1 0 fs) m w r)) where
        module _ (wl : List Slot) (h : IsSet gives c slots wl) where
          abbrev Inside : Frames → Type 0
          Inside = InsideCall Q first mn q wl

          abbrev Asked' : Asked → Type 0
          Asked' = IsInnerAsked Q first ops_inner mn q z uncounted catch catch_other wl

          abbrev Wanted' : Wanted → Type 0
          Wanted' = IsInnerWanted Q first ops_inner mn q z uncounted catch catch_other wl

          module _ (n : ℕ) (loop : Loops n) (go : (fs : Frames) (m : Meter) (w r : Log) → IsLost r → Inside fs → Hold n (On Open fs m w r))
              (go_asking : (a : Wanted) (fs : Frames) (m : Meter) (w r : Log) → IsLost r → Inside fs → Wanted' a → Hold n (Asking a fs m w r)) where
            lands : (fs : Frames) → LandsAt Q first mn q wl z fs → (m : Meter) (w r : Log) → IsLost r → Hold n (On Open fs m w r)
            lands fs (inside gs i) m w r gone = go gs m w r gone i
            lands fs (back v j) m w r gone = after gives W n loop v wl j h m w r gone
            lands fs (thrown o) m w r gone = threw gives W n loop o wl h m w r gone
            lands fs (refused o) m w r gone = wrong gives W n loop o wl h m w r gone

            turned : (t : ℕ) (fs : Frames) (m : Meter) (w r : Log) → IsLost r → Inside fs → Hold n (with_turns B t fs m w r)
            turned zero fs m w r gone i = over n _ _ [] r gone
            turned (suc t) fs m w r gone i = go fs _ w r gone i

            entered : (deep : Bool) (t : ℕ) (fs : Frames) (m : Meter) (w r : Log) → IsLost r → Inside fs → Hold n (with_depth B deep t fs m w r)
            entered deep zero fs m w r gone i = over n _ _ [] r gone
            entered true (suc t) fs m w r gone i = over n _ _ [] r gone
            entered false (suc t) fs m w r gone i = go fs _ w r gone i

            conflict : (fs : Frames) (m : Meter) (w r : Log) → IsLost r → Inside fs → Hold n (unwound (unwinds Q 1 0 fs) m w r)
            conflict fs m w r gone i = refuses_at n w r gone loop wl h fs (above_inside Q first mn q wl fs i) m

            threw_on : (a : Asked) → Asked' a → (m : Meter) (w r : Log) → IsLost r → Hold n (on_thrown B a m w r)
            threw_on Fails i m w r gone = stuck n r gone
            threw_on (Asks asking.Go fs) i m w r gone = lands fs i m w r gone
            threw_on (Asks asking.Turn fs) i m w r gone = turned m.turns fs m w r gone i.0
            threw_on (Asks (asking.Enter deep) fs) i m w r gone = stuck n r gone
            threw_on (Asks (asking.Return x) fs) i m w r gone = stuck n r gone
            threw_on (Asks (asking.Throw o) fs) i m w r gone = stuck n r gone
            threw_on (Asks (asking.Raise o) fs) i m w r gone = stuck n r gone
            threw_on (Asks (asking.Make t k d) fs) i m w r gone = stuck n r gone
            threw_on (Asks (asking.Head o u) fs) i m w r gone = stuck n r gone
            threw_on (Asks (asking.Ask x) fs) i m w r gone = stuck n r gone

            throwing : (c : Option Row) (o t : ℕ) (fs : Frames) (m : Meter) (w r : Log) → IsLost r → Inside fs → Hold n (throws c Q B o t fs m w r)
            throwing None o t fs m w r gone i = stuck n r gone
            throwing (Some c) o t fs m w r gone i = threw_on (unwinds Q o t fs) (unwinds_inner Q first ops_inner mn q z uncounted catch catch_other wl o t fs (above_inside Q first mn q wl fs i)) _ w r gone

            raising : (v : Reply) (o : ℕ) (fs : Frames) (m : Meter) (w r : Log) → IsLost r → Inside fs → Hold n (on_raise v Q B o fs m w r)
            raising (Gives x) o fs m w r gone i = throwing (row_at Q (type_in (answered w o x))) o _ fs m w _ (logged (written w o) o x r gone) i
            raising Refuses o fs m w r gone i = conflict fs m w r gone i

            made_by : (d : Made) (b : Object) (fs : Frames) (m : Meter) (w r : Log) → IsLost r → Inside fs → Hold n (on_made d Q B b fs m w r)
            made_by Pushed b fs m w r gone i = go _ _ w r gone (resumed_inside Q first ops_inner mn q z uncounted catch catch_other wl (Ref (next_reference B.region m.used) ∷ []) fs i)
            made_by Raised b fs m w r gone i = threw_on (unwinds Q (next_reference B.region m.used) b.type fs) (unwinds_inner Q first ops_inner mn q z uncounted catch catch_other wl (next_reference B.region m.used) b.type fs (above_inside Q first mn q wl fs i)) _ w r gone

            headed : (v : Reply) (d : Made) (b : Object) (fs : Frames) (m : Meter) (w r : Log) → IsLost r → Inside fs → Hold n (on_header v d Q B b fs m w r)
            headed (Gives x) d b fs m w r gone i = made_by d b fs m _ r gone i
            headed Refuses d b fs m w r gone i = conflict fs m w r gone i

            roomy : (b : Bool) (v : Reply) (d : Made) (o : Object) (fs : Frames) (m : Meter) (w r : Log) → IsLost r → Inside fs → Hold n (makes b v d Q B o fs m w r)
            roomy true v d o fs m w r gone i = headed v d o fs m w r gone i
            roomy false v d o fs m w r gone i = over n _ _ [] r gone

            making : (c : Option Row) (t k : ℕ) (d : Made) (v : Reply) (fs : Frames) (m : Meter) (w r : Log) → IsLost r → Inside fs → Hold n (made c t k d v Q B fs m w r)
            making None t k d v fs m w r gone i = stuck n r gone
            making (Some c) t k d v fs m w r gone i = roomy _ v d (object_of t k c) fs m w r gone i

            follows : (a : Asked) → Asked' a → (m : Meter) (w r : Log) → IsLost r → Hold n (followed a m w r)
            follows Fails i m w r gone = stuck n r gone
            follows (Asks asking.Go fs) i m w r gone = lands fs i m w r gone
            follows (Asks asking.Turn fs) i m w r gone = go_asking asking.Turn fs m w r gone i.0 tt
            follows (Asks (asking.Enter deep) fs) i m w r gone = go_asking (asking.Enter deep) fs m w r gone i.0 tt
            follows (Asks (asking.Return x) fs) i m w r gone = absurd i.1
            follows (Asks (asking.Throw o) fs) i m w r gone = absurd i.1
            follows (Asks (asking.Raise o) fs) i m w r gone = go_asking (asking.Raise o) fs m w r gone i.0 tt
            follows (Asks (asking.Make t k d) fs) i m w r gone = go_asking (asking.Make t k d) fs m w r gone i.0 tt
            follows (Asks (asking.Head o u) fs) i m w r gone = go_asking (asking.Head o u) fs m w r gone i.0 i.1
            follows (Asks (asking.Ask x) fs) i m w r gone = go_asking (asking.Ask x) fs m w r gone i.0 i.1

            heading : (v : Reply) (u : Use) (o : ℕ) (fs : Frames) (m : Meter) (w r : Log) → IsLost r → Inside fs → IsInnerUse Q first u → Hold n (on_head v Q u o fs m w r)
            heading (Gives x) u o fs m w r gone i a = follows (told Q u o _ _ fs) (told_inner Q first ops_inner mn q z uncounted catch catch_other wl u a o _ _ fs i) m w _ (logged (written w o) o x r gone)
            heading Refuses u o fs m w r gone i a = conflict fs m w r gone i

            using : (v : Reply) (u : Use) (o : ℕ) (fs : Frames) (m : Meter) (w r : Log) → IsLost r → Inside fs → IsInnerUse Q first u → Hold n (heads v Q u o fs m w r)
            using v (Indexes x element.Load) o fs m w r gone i a = go _ m w r gone (resumed_inside Q first ops_inner mn q z uncounted catch catch_other wl (Loaded ∷ []) fs i)
            using v u o fs m w r gone i a = heading v u o fs m w r gone i a

            asked_for : (x : Request) → IsInnerRequest Q first x → (v : Reply) (fs : Frames) (m : Meter) (w r : Log) → IsLost r → Inside fs → Hold n (on_request Q B x Open v fs m w r)
            asked_for (request.Begin k) a v fs m w r gone i = absurd a
            asked_for request.Commit a v fs m w r gone i = absurd a
            asked_for request.Rollback a v fs m w r gone i = absurd a
            asked_for (request.Get p) a v fs m w r gone i = go _ m w r gone (resumed_inside Q first ops_inner mn q z uncounted catch catch_other wl (Loaded ∷ []) fs i)
            asked_for (request.Put p x) a v fs m w r gone i = stuck n r gone
            asked_for (request.Look p) a (Gives x) fs m w r gone i = go _ m w r gone (advanced_inside Q first ops_inner mn q z uncounted catch catch_other wl fs i)
            asked_for (request.Look p) a Refuses fs m w r gone i = conflict fs m w r gone i
            asked_for (request.Read p t) a (Gives x) fs m w r gone i = go _ m w _ (logged (written w _) _ x r gone) (resumed_inside Q first ops_inner mn q z uncounted catch catch_other wl (pushed (value_of t (answered w (address p) x)) []) fs i)
            asked_for (request.Read p t) a Refuses fs m w r gone i = conflict fs m w r gone i
            asked_for (request.Write p x) a (Gives y) fs m w r gone i = go _ m _ r gone (advanced_inside Q first ops_inner mn q z uncounted catch catch_other wl fs i)
            asked_for (request.Write p x) a Refuses fs m w r gone i = conflict fs m w r gone i

            asked : (a : Asked) → Asked' a → (v : Reply) (m : Meter) (w r : Log) → IsLost r → Hold n (on_asked Q B a Open v m w r)
            asked Fails i v m w r gone = stuck n r gone
            asked (Asks asking.Go fs) i v m w r gone = lands fs i m w r gone
            asked (Asks asking.Turn fs) i v m w r gone = turned m.turns fs m w r gone i.0
            asked (Asks (asking.Enter deep) fs) i v m w r gone = entered deep m.turns fs m w r gone i.0
            asked (Asks (asking.Return x) fs) i v m w r gone = absurd i.1
            asked (Asks (asking.Throw o) fs) i v m w r gone = absurd i.1
            asked (Asks (asking.Raise o) fs) i v m w r gone = raising v o fs m w r gone i.0
            asked (Asks (asking.Make t k d) fs) i v m w r gone = making (row_at Q t) t k d v fs m w r gone i.0
            asked (Asks (asking.Head o u) fs) i v m w r gone = using v u o fs m w r gone i.0 i.1
            asked (Asks (asking.Ask x) fs) i v m w r gone = asked_for x i.1 v fs m w r gone i.0

          wanted : (a : Wanted) (fs : Frames) → Inside fs → Wanted' a → Asked' (Asks a fs)
          wanted asking.Go fs i k = inside fs i
          wanted asking.Turn fs i k = (i, tt)
          wanted (asking.Enter deep) fs i k = (i, tt)
          wanted (asking.Return x) fs i k = absurd k
          wanted (asking.Throw o) fs i k = absurd k
          wanted (asking.Raise o) fs i k = (i, tt)
          wanted (asking.Make t j d) fs i k = (i, tt)
          wanted (asking.Head o u) fs i k = (i, k)
          wanted (asking.Ask x) fs i k = (i, k)

          fewer : (n : ℕ) (c0 : Run) → Hold (suc n) c0 → Hold n c0
          fewer n c0 k vs le = let le' : length vs ≤ suc n = omega (arith, le) in k vs le'

          less : (n : ℕ) → Loops (suc n) → Loops n
          less n loop wl j h m = fewer n _ (loop wl j h m)

          both : (n : ℕ) → Loops n → ((fs : Frames) (m : Meter) (w r : Log) → IsLost r → Inside fs → Hold n (On Open fs m w r)) × ((a : Wanted) (fs : Frames) (m : Meter) (w r : Log) → IsLost r → Inside fs → Wanted' a → Hold n (Asking a fs m w r))
          both zero loop = ((λ fs m w r gone i. at_none Q B F fine (On Open fs m w r) (vacuous _ gone)), λ a fs m w r gone i k. at_none Q B F fine (Asking a fs m w r) (vacuous _ gone))
          both (suc n) loop =
              let ih = both n (less n loop) in (
                (λ fs m w r gone i. on_reply_more Q B F fine n (On Open fs m w r) (vacuous _ gone) (λ v. asked n (less n loop) ih.0 ih.1 (step Q fs) (step_inner Q first ops_inner mn q z uncounted catch catch_other wl fs i) v m w r gone)),
                λ a fs m w r gone i k. on_reply_more Q B F fine n (Asking a fs m w r) (vacuous _ gone) (λ v. asked n (less n loop) ih.0 ih.1 (Asks a fs) (wanted a fs i k) v m w r gone),
              )

          pub lost : (n : ℕ) → Loops n → (fs : Frames) (m : Meter) (w r : Log) → IsLost r → Inside fs → Hold n (On Open fs m w r)
          lost n loop = (both n loop).0

          pub lost_asking : (n : ℕ) → Loops n → (a : Wanted) (fs : Frames) (m : Meter) (w r : Log) → IsLost r → Inside fs → Wanted' a → Hold n (Asking a fs m w r)
          lost_asking n loop = (both n loop).1

          -- what an instruction of theirs goes on with
          pub follows_lost : (n : ℕ) → Loops n → (a : Asked) → Asked' a → (m : Meter) (w r : Log) → IsLost r → Hold n (followed a m w r)
          follows_lost n loop a i m w r gone = follows n loop (lost n loop) (lost_asking n loop) a i m w r gone

          -- an exception that they throw
          pub throws_lost : (n : ℕ) → Loops n → (c : Option Row) (o t : ℕ) (fs : Frames) (m : Meter) (w r : Log) → IsLost r → Inside fs → Hold n (throws c Q B o t fs m w r)
          throws_lost n loop c o t fs m w r gone i = throwing n loop (lost n loop) (lost_asking n loop) c o t fs m w r gone i
