-- Frames of added methods above the call of a wrapper, and what a step of them asks.
use Rattle.std.proofs.Common.{◌≡◌, ℕ, zero, suc, ◌+◌, List, [], ◌∷◌, Option, Some, None, Bool, true, false, refl, sym, subst, arith, ◌&&◌, nat_le}
use Rattle.std.specs.Prelude.{pos, slice_get, nat_eq, option_and_then}
use Rattle.std.specs.List.{AllByRecursion}
use Rattle.std.proofs.lemmas.Bool.Decides.{nat_tests}
use Rattle.jmodel.specs.declared.value.Value.{Value}
use Rattle.jmodel.specs.declared.value.Value.TheVariants as value
use Rattle.objects.specs.declared.op.Slot.{Slot}
use Rattle.objects.specs.declared.op.Slot.TheVariants.{Int, Ref}
use Rattle.objects.specs.declared.op.Element.{Element}
use Rattle.objects.specs.declared.op.Element.TheVariants as element
use Rattle.objects.specs.declared.op.Trap.{Trap as Trapping}
use Rattle.objects.specs.declared.op.Use.{Use}
use Rattle.objects.specs.declared.op.Use.TheVariants.{Selects, Implements, Casts, Tests, Measures, Indexes, Fits}
use Rattle.objects.specs.declared.op.Op.{Op}
use Rattle.objects.specs.declared.op.Doing.{Doing}
use Rattle.objects.specs.declared.op.Doing.TheVariants as doing
use Rattle.objects.specs.declared.op.Asking.{Asking}
use Rattle.objects.specs.declared.op.Asking.TheVariants as asking
use Rattle.objects.specs.declared.op.Place.{Place}
use Rattle.objects.specs.semantics.Program.{Method, Program, method_at, is_counted, row_at, is_instance, selected}
use Rattle.objects.specs.semantics.Step.{Frame, Frames, Did, Does, Wrong, Asked, Asks, Fails, Taken, Took, TooFew, take_args, at, next, with_stack, goes, enters, with_args, invokes, trapped, found, received, gives, catch_at, caught, unwinds, on_doing, on_did, acts, step, advanced, resumed, or_trap, enters_found, accesses, fitted, stored, kept_in, element_name, element_place, has_address, if_addressed, in_bounds, truth, told, does}
use Rattle.objects.proofs.Frames.{frame}
use Rattle.objects.proofs.Inner.{IsAdded, SelectsAdded, IsInnerUse, IsInnerRequest, IsInnerDoing, IsInnerOp, IsInnerDid, does_inner}

-- a frame of the wrapper mn at its call, at place q + 1, over the locals wl
module _ (Q : Program) (first mn q : ℕ) (wl : List Slot) where
  -- frames of added methods, and below them the wrapper
  pub data AboveCall : Frames → Type 0 where
    call : (j : List Slot) → AboveCall (frame mn (q + 1) wl j ∷ [])
    inner : (f : Frame) (fs : Frames) → IsAdded Q first f.method → AboveCall fs → AboveCall (f ∷ fs)

  -- a frame of an added method on top
  abbrev pub InsideCall : Frames → Type 0
  InsideCall [] = ⊥
  InsideCall (f ∷ fs) = IsAdded Q first f.method × AboveCall fs

  pub above_inside : (fs : Frames) → InsideCall fs → AboveCall fs
  above_inside [] h = absurd h
  above_inside (f ∷ fs) h = inner f fs h.0 h.1

  -- or the wrapper alone: what was called gave its value, or threw
  pub data LandsAt (z : ℕ) : Frames → Type 0 where
    inside : (fs : Frames) → InsideCall fs → LandsAt z fs
    back : (v : Option Value) (j : List Slot) → LandsAt z (next (received v (frame mn (q + 1) wl j)) ∷ [])
    thrown : (o : ℕ) → LandsAt z (frame mn (z + 4) wl (Ref o ∷ []) ∷ [])
    refused : (o : ℕ) → LandsAt z (frame mn z wl (Ref o ∷ []) ∷ [])

-- `added` says of the code of added methods what the rewriting makes of it; the wrapper has number mn, waits at place q + 1, and takes exceptions at z and z + 4.
module _ (Q : Program) (first : ℕ) (ops_inner : (m : ℕ) (k : Method) → IsAdded Q first m → slice_get Q.methods m ≡ Some k → AllByRecursion (IsInnerOp Q first) k.ops)
    (mn q z : ℕ) (uncounted : is_counted Q mn ≡ false) (catch : catch_at Q mn (q + 1) 0 ≡ Some z) (catch_other : (t : ℕ) → nat_eq t 0 ≡ false → catch_at Q mn (q + 1) t ≡ Some (z + 4)) (wl : List Slot) where
  abbrev Above : Frames → Type 0
  Above = AboveCall Q first mn q wl

  abbrev IsInside : Frames → Type 0
  IsInside = InsideCall Q first mn q wl

  abbrev Lands : Frames → Type 0
  Lands = LandsAt Q first mn q wl z

  abbrev pub IsInnerWanted : Asking → Type 0
  IsInnerWanted (asking.Return v) = ⊥
  IsInnerWanted (asking.Throw o) = ⊥
  IsInnerWanted (asking.Head o u) = IsInnerUse Q first u
  IsInnerWanted (asking.Ask r) = IsInnerRequest Q first r
  IsInnerWanted a = Unit {0}

  abbrev pub IsInnerAsked : Asked → Type 0
  IsInnerAsked Fails = Unit {0}
  IsInnerAsked (Asks asking.Go fs) = Lands fs
  IsInnerAsked (Asks a fs) = IsInside fs × IsInnerWanted a

  -- ---- exceptions

  jumped : (b : Bool) (fs : Frames) → IsInside fs → IsInnerAsked (goes b fs)
  jumped true fs h = (h, tt)
  jumped false fs h = inside fs h

  wrapper_takes : (o to : ℕ) (j : List Slot) (t : ℕ) → catch_at Q mn (q + 1) t ≡ Some to → unwinds Q o t (frame mn (q + 1) wl j ∷ []) ≡ Asks asking.Go (frame mn to wl (Ref o ∷ []) ∷ [])
  wrapper_takes o to j t e = rw (e, uncounted) refl

  wrapper_unwinds : (o t : ℕ) (j : List Slot) (b : Bool) → nat_eq t 0 ≡ b → IsInnerAsked (unwinds Q o t (frame mn (q + 1) wl j ∷ []))
  wrapper_unwinds o t j true e = let d : t ≡ 0 = grind (arith, nat_tests) in rw d (rw (wrapper_takes o z j 0 catch) (refused o))
  wrapper_unwinds o t j false e = rw (wrapper_takes o (z + 4) j t (catch_other t e)) (thrown o)

  pub unwinds_inner : (o t : ℕ) (fs : Frames) → Above fs → IsInnerAsked (unwinds Q o t fs)
  unwinds_inner o t [] x = elim x [ ]
  unwinds_inner o t (f ∷ fs) (inner f1 fs1 a h) = by (catch_at Q f.method f.pc t) (unwinds_inner o t fs h)
    where
      by : (c : Option ℕ) → IsInnerAsked (unwinds Q o t fs) → IsInnerAsked (caught Q c o f fs (unwinds Q o t fs))
      by None i = i
      by (Some to) i = jumped (is_counted Q f.method && nat_le to f.pc) (at to (with_stack f (Ref o ∷ [])) ∷ fs) (a, h)
  unwinds_inner o t (f ∷ []) (call j) = wrapper_unwinds o t j (nat_eq t 0) refl

  -- ---- calls

  entered : (b : Bool) (fs : Frames) → IsInside fs → IsInnerAsked (enters Q b fs)
  entered true fs h = (h, tt)
  entered false fs h = inside fs h

  with_taken : (t : Taken) (m : ℕ) (k : Method) (f : Frame) (fs : Frames) → IsAdded Q first m → IsAdded Q first f.method → Above fs → IsInnerAsked (with_args Q t m k f fs)
  with_taken TooFew m k f fs a b h = tt
  with_taken (Took args s) m k f fs a b h = entered k.counted _ (a, inner (with_stack f s) fs b h)

  invoked : (o : Option Method) (m : ℕ) (f : Frame) (fs : Frames) → IsAdded Q first m → IsAdded Q first f.method → Above fs → IsInnerAsked (invokes Q o m f fs)
  invoked None m f fs a b h = tt
  invoked (Some k) m f fs a b h = with_taken (take_args k.places [] f.stack) m k f fs a b h

  traps_inner : (t : Trapping) (fs : Frames) → IsInside fs → IsInnerAsked (trapped t fs)
  traps_inner t fs h = (h, tt)

  given : (v : Option Value) (fs : Frames) → Above fs → IsInnerAsked (gives v fs)
  given v [] x = elim x [ ]
  given v (f ∷ fs) (inner f1 fs1 a h) = inside _ (received_method v f a, h)
    where
      received_method : (v : Option Value) (f : Frame) → IsAdded Q first f.method → IsAdded Q first (next (received v f)).method
      received_method None f a = a
      received_method (Some v) f a = a
  given v (f ∷ []) (call j) = back v j

  doing_inner : (d : Doing) → IsInnerDoing Q first d → (f : Frame) (fs : Frames) → IsAdded Q first f.method → Above fs → IsInnerAsked (on_doing Q d f fs)
  doing_inner doing.Next i f fs a h = inside _ (a, h)
  doing_inner (doing.Jump to) i f fs a h = jumped _ (at to f ∷ fs) (a, h)
  doing_inner (doing.Invoke m) i f fs a h = invoked (method_at Q m) m f fs i a h
  doing_inner (doing.Give v) i f fs a h = given v fs h
  doing_inner (doing.Throw o) i f fs a h = unwinds_inner o 0 (f ∷ fs) (inner f fs a h)
  doing_inner (doing.Raise o) i f fs a h = ((a, h), tt)
  doing_inner (doing.Trap t) i f fs a h = ((a, h), tt)
  doing_inner (doing.Make t n) i f fs a h = ((a, h), tt)
  doing_inner (doing.Head o u) i f fs a h = ((a, h), i)
  doing_inner (doing.Ask r) i f fs a h = ((a, h), i)

  did_inner : (d : Did) (f : Frame) (fs : Frames) → IsAdded Q first f.method → Above fs → IsInnerDid Q first f.method d → IsInnerAsked (on_did Q d fs)
  did_inner Wrong f fs a h i = tt
  did_inner (Does d g) f fs a h i = doing_inner d i.1 g fs (subst (λ (m : ℕ). IsAdded Q first m) (sym i.0) a) h

  op_there : (ops : List Op) (pc : ℕ) (o : Op) → AllByRecursion (IsInnerOp Q first) ops → slice_get ops pc ≡ Some o → IsInnerOp Q first o
  op_there [] pc o all e = cc
  op_there (x ∷ ops) zero o all e = let s : x ≡ o = cc in subst (IsInnerOp Q first) s all.0
  op_there (x ∷ ops) (suc pc) o all e = op_there ops pc o all.1 e

  -- what a step asks of frames inside
  pub step_inner : (fs : Frames) → IsInside fs → IsInnerAsked (step Q fs)
  step_inner [] h = absurd h
  step_inner (f ∷ fs) h = by (method_at Q f.method) refl
    where
      acted : (k : Method) → method_at Q f.method ≡ Some k → (o : Option Op) → slice_get k.ops f.pc ≡ o → IsInnerAsked (acts Q o f fs)
      acted k e None d = tt
      acted k e (Some o) d = did_inner (does Q o f) f fs h.0 h.1 (does_inner Q first f.method o (op_there k.ops f.pc o (ops_inner f.method k h.0 e) d) f refl)

      by : (o : Option Method) → method_at Q f.method ≡ o → IsInnerAsked (acts Q (option_and_then (λ (k : Method). slice_get k.ops f.pc) o) f fs)
      by None e = tt
      by (Some k) e = acted k e (slice_get k.ops f.pc) refl

  -- ---- what goes on by a header

  pub advanced_inside : (fs : Frames) → IsInside fs → IsInside (advanced fs)
  advanced_inside [] h = absurd h
  advanced_inside (f ∷ fs) h = h

  pub resumed_inside : (vs : List Slot) (fs : Frames) → IsInside fs → IsInside (resumed vs fs)
  resumed_inside vs [] h = absurd h
  resumed_inside vs (f ∷ fs) h = h

  or_traps : (b : Bool) (t : Trapping) (fs : Frames) (a : Asked) → IsInside fs → IsInnerAsked a → IsInnerAsked (or_trap b t fs a)
  or_traps true t fs a h i = i
  or_traps false t fs a h i = (h, tt)

  found_inner : (o : Option ℕ) (f : Frame) (fs : Frames) → IsAdded Q first f.method → Above fs → ((m : ℕ) → o ≡ Some m → IsAdded Q first m) → IsInnerAsked (found Q o f fs)
  found_inner None f fs a h i = ((a, h), tt)
  found_inner (Some m) f fs a h i = invoked (method_at Q m) m f fs (i m refl) a h

  selects_inner : (m t : ℕ) (fs : Frames) → IsInside fs → SelectsAdded Q first m → IsInnerAsked (enters_found Q (selected Q t m) fs)
  selects_inner m t [] h i = tt
  selects_inner m t (f ∷ fs) h i = found_inner (selected Q t m) f fs h.0 h.1 (i t)

  accesses_inner : (p : Place) (e : Element) (fs : Frames) → IsInside fs → IsInnerAsked (accesses p e fs)
  accesses_inner p element.Load fs h = (h, tt)
  accesses_inner p (element.Store v) fs h = (h, tt)
  accesses_inner p element.Look fs h = (h, tt)
  accesses_inner p (element.Write v) fs h = (h, tt)

  fitted_inner : (a : ℕ) (p : Place) (e : Element) (v : Value) (fs : Frames) → IsInside fs → IsInnerAsked (fitted a p e v fs)
  fitted_inner a p e (value.Ref (suc o)) fs h = (h, tt)
  fitted_inner a p e v fs h = accesses_inner p e fs h

  stored_inner : (a : ℕ) (p : Place) (e : Element) (fs : Frames) → IsInside fs → IsInnerAsked (stored a p e fs)
  stored_inner a p element.Load fs h = (h, tt)
  stored_inner a p (element.Store v) fs h = fitted_inner a p (element.Store v) v fs h
  stored_inner a p element.Look fs h = (h, tt)
  stored_inner a p (element.Write v) fs h = fitted_inner a p (element.Write v) v fs h

  addressed : (b : Bool) (a : Asked) → IsInnerAsked a → IsInnerAsked (if_addressed b a)
  addressed true a i = i
  addressed false a i = tt

  pub told_inner : (u : Use) → IsInnerUse Q first u → (o t n : ℕ) (fs : Frames) → IsInside fs → IsInnerAsked (told Q u o t n fs)
  told_inner (Selects m) i o t n fs h = selects_inner m t fs h i
  told_inner (Implements m c) i o t n fs h = or_traps (is_instance Q t c) _ fs _ h (selects_inner m t fs h i)
  told_inner (Casts c) i o t n fs h = or_traps (is_instance Q t c) _ fs _ h (inside (advanced fs) (advanced_inside fs h))
  told_inner (Tests c) i o t n fs h = inside (resumed (truth (is_instance Q t c) ∷ []) fs) (resumed_inside (truth (is_instance Q t c) ∷ []) fs h)
  told_inner Measures i o t n fs h = inside (resumed (Int (pos n) ∷ []) fs) (resumed_inside (Int (pos n) ∷ []) fs h)
  told_inner (Indexes x e) i o t n fs h = or_traps (in_bounds x n) _ fs _ h (addressed (has_address (element_place o x)) _ (stored_inner t (element_place o x) (kept_in (row_at Q t) e) fs h))
  told_inner (Fits a p e) i o t n fs h = or_traps (is_instance Q t (element_name (row_at Q a))) _ fs _ h (accesses_inner p e fs h)
