-- What a call takes of its region, step by step.
use Rattle.std.proofs.Common.{◌≡◌, ℕ, zero, suc, ◌+◌, ◌≤◌, List, [], ◌∷◌, Option, Some, None, Bool, true, false, refl, subst, arith, ⊎_elim}
use Rattle.std.specs.Prelude.{nat_lt, min}
use Rattle.jmodel.specs.declared.value.Value.{Value}
use Rattle.jmodel.specs.declared.value.Answer.{Answer}
use Rattle.jmodel.specs.declared.value.Answer.TheVariants.{Returned}
use Rattle.objects.specs.declared.op.Phase.{Phase}
use Rattle.objects.specs.declared.op.Phase.TheVariants.{Ready, Open, Doomed, Closed}
use Rattle.objects.specs.declared.op.Request.{Request}
use Rattle.objects.specs.declared.op.Request.TheVariants as request
use Rattle.objects.specs.declared.op.Asking.TheVariants.{Go, Turn, Enter, Return, Throw, Raise, Make, Head, Ask}
use Rattle.objects.specs.declared.op.Element.TheVariants as element
use Rattle.objects.specs.declared.op.Made.{Made}
use Rattle.objects.specs.declared.op.Made.TheVariants.{Pushed, Raised}
use Rattle.objects.specs.declared.op.Use.{Use}
use Rattle.objects.specs.declared.op.Use.TheVariants.{Indexes}
use Rattle.jmodel.specs.declared.access.Access.{Access}
use Rattle.objects.specs.semantics.Program.{Row, Method, Program, method_at, row_at}
use Rattle.objects.specs.semantics.Step.{Frames, Asked, Asks, Fails, step, unwinds, told}
use Rattle.objects.specs.semantics.Region.{has_words}
use Rattle.objects.specs.semantics.State.{Object, type_in, length_in, words_of, object_of}
use Rattle.objects.specs.rewriting.Attempt.{Log, Reply, Gives, Refuses, Bounds, Meter, Run, On, Asking, Ended, Stuck, with_turns, with_depth, class_of, threw_of, begun, unwound, on_thrown, on_made, on_header, makes, made, followed, on_head, heads, answered, on_raise, throws, count_of, on_request, on_asked, next_run, run, starts, run_start}
use Rattle.objects.specs.laws.RegionLaw.{IsTaking, RegionLaw}
use Rattle.objects.proofs.Room.{words_there}

module _ (P : Program) (B : Bounds) where
  -- what was taken since the attempt began
  pub record IsWithin (m : Meter) (w : Log) : Type 0 where
    pub grows : B.used ≤ m.used
    pub fits : B.used ≤ B.region.size → m.used ≤ B.region.size
    pub stays : w ≡ [] → m.used ≡ B.used

  -- outside an attempt nothing is
  abbrev Has : Phase → Meter → Log → Type 0
  Has Ready m w = m.used ≡ B.used
  Has p m w = IsWithin m w

  abbrev Keeps : Run → Type 0
  Keeps (On p fs m w r) = Has p m w
  Keeps (Asking a fs m w r) = IsWithin m w
  Keeps (Ended x m w r) = IsTaking B x m.used w
  Keeps (Stuck r) = Unit {0}

  as_before : (x : Answer) (u : ℕ) (w : Log) → u ≡ B.used → IsTaking B x u w
  as_before x u w e = record { grows = omega (arith, e); fits = λ h. omega (arith, e, h); stays = λ h. e }

  at_first : (m : Meter) (w : Log) → m.used ≡ B.used → IsWithin m w
  at_first m w e = record { grows = omega (arith, e); fits = λ h. omega (arith, e, h); stays = λ h. e }

  turns_kept : (t : ℕ) (fs : Frames) (m : Meter) (w r : Log) → IsWithin m w → Keeps (with_turns B t fs m w r)
  turns_kept zero fs m w r h = as_before _ _ [] refl
  turns_kept (suc t) fs m w r h = record { grows = h.grows; fits = h.fits; stays = h.stays }

  depth_kept : (deep : Bool) (t : ℕ) (fs : Frames) (m : Meter) (w r : Log) → IsWithin m w → Keeps (with_depth B deep t fs m w r)
  depth_kept deep zero fs m w r h = as_before _ _ [] refl
  depth_kept true (suc t) fs m w r h = as_before _ _ [] refl
  depth_kept false (suc t) fs m w r h = record { grows = h.grows; fits = h.fits; stays = h.stays }

  returns_kept : (v : Option Value) (m : Meter) (w : Log) → IsWithin m w → IsTaking B (Returned v) m.used w
  returns_kept v m w h = record { grows = h.grows; fits = h.fits; stays = λ e. ⊎_elim h.stays (λ no. cc) e }

  threw_kept : (c : Option (List ℕ)) (m : Meter) (w r : Log) → IsWithin m w → Keeps (threw_of c m w r)
  threw_kept None m w r h = tt
  threw_kept (Some class) m w r h = record { grows = h.grows; fits = h.fits; stays = λ e. ⊎_elim h.stays (λ no. cc) e }

  begins_kept : (b : Bool) (fs : Frames) (m : Meter) → m.used ≡ B.used → Keeps (begun b B fs m)
  begins_kept true fs m e = at_first _ [] e
  begins_kept false fs m e = as_before _ m.used [] e

  unwound_kept : (a : Asked) (m : Meter) (w r : Log) → IsWithin m w → Keeps (unwound a m w r)
  unwound_kept (Asks Go fs) m w r h = h
  unwound_kept a m w r h = tt

  thrown_kept : (a : Asked) (m : Meter) (w r : Log) → IsWithin m w → Keeps (on_thrown B a m w r)
  thrown_kept (Asks Go fs) m w r h = h
  thrown_kept (Asks Turn fs) m w r h = turns_kept m.turns fs m w r h
  thrown_kept a m w r h = tt

  throws_kept : (c : Option Row) (o t : ℕ) (fs : Frames) (m : Meter) (w r : Log) → IsWithin m w → Keeps (throws c P B o t fs m w r)
  throws_kept None o t fs m w r h = tt
  throws_kept (Some c) o t fs m w r h = thrown_kept (unwinds P o t fs) _ w r (record { grows = h.grows; fits = h.fits; stays = h.stays })

  raise_kept : (v : Reply) (o : ℕ) (fs : Frames) (m : Meter) (w r : Log) → IsWithin m w → Keeps (on_raise v P B o fs m w r)
  raise_kept (Gives x) o fs m w r h = throws_kept (row_at P (type_in (answered w o x))) o _ fs m w _ h
  raise_kept Refuses o fs m w r h = unwound_kept (unwinds P 1 0 fs) m w r h

  -- the words of a new object are counted, and its header is written
  made_kept : (d : Made) (b : Object) (fs : Frames) (m : Meter) (a : Access) (w r : Log) → m.used + words_of b ≤ B.region.size → IsWithin m w → Keeps (on_made d P B b fs m (a ∷ w) r)
  made_kept Pushed b fs m a w r room h = let g = h.grows in record { grows = omega (arith, g); fits = λ e. room; stays = λ e. cc }
  made_kept Raised b fs m a w r room h = let g = h.grows in thrown_kept (unwinds P _ _ fs) _ _ r (record { grows = omega (arith, g); fits = λ e. room; stays = λ e. cc })

  header_kept : (v : Reply) (d : Made) (b : Object) (fs : Frames) (m : Meter) (w r : Log) → m.used + words_of b ≤ B.region.size → IsWithin m w → Keeps (on_header v d P B b fs m w r)
  header_kept (Gives x) d b fs m w r room h = made_kept d b fs m _ w r room h
  header_kept Refuses d b fs m w r room h = unwound_kept (unwinds P 1 0 fs) m w r h

  room_kept : (b : Bool) (v : Reply) (d : Made) (o : Object) (fs : Frames) (m : Meter) (w r : Log) → has_words B.region m.used (words_of o) ≡ b → IsWithin m w → Keeps (makes b v d P B o fs m w r)
  room_kept true v d o fs m w r room h = header_kept v d o fs m w r (words_there B.region m.used (words_of o) room).fits h
  room_kept false v d o fs m w r room h = as_before _ _ [] refl

  object_kept : (c : Option Row) (t n : ℕ) (d : Made) (v : Reply) (fs : Frames) (m : Meter) (w r : Log) → IsWithin m w → Keeps (made c t n d v P B fs m w r)
  object_kept None t n d v fs m w r h = tt
  object_kept (Some c) t n d v fs m w r h = room_kept _ v d (object_of t n c) fs m w r refl h

  followed_kept : (a : Asked) (m : Meter) (w r : Log) → IsWithin m w → Keeps (followed a m w r)
  followed_kept Fails m w r h = tt
  followed_kept (Asks Go fs) m w r h = h
  followed_kept (Asks a fs) m w r h = h

  on_head_kept : (v : Reply) (u : Use) (o : ℕ) (fs : Frames) (m : Meter) (w r : Log) → IsWithin m w → Keeps (on_head v P u o fs m w r)
  on_head_kept (Gives x) u o fs m w r h = followed_kept (told P u o (type_in (answered w o x)) (length_in (answered w o x)) fs) m w _ h
  on_head_kept Refuses u o fs m w r h = unwound_kept (unwinds P 1 0 fs) m w r h

  head_kept : (v : Reply) (u : Use) (o : ℕ) (fs : Frames) (m : Meter) (w r : Log) → IsWithin m w → Keeps (heads v P u o fs m w r)
  head_kept v (Indexes i element.Load) o fs m w r h = h
  head_kept v u o fs m w r h = on_head_kept v u o fs m w r h

  request_kept : (q : Request) (p : Phase) (v : Reply) (fs : Frames) (m : Meter) (w r : Log) → Has p m w → Keeps (on_request P B q p v fs m w r)
  request_kept (request.Begin n) Ready v fs m w r h = begins_kept (nat_lt m.tried (min (count_of n) B.attempts)) fs m h
  request_kept (request.Get p) Open v fs m w r h = h
  request_kept (request.Look p) Open (Gives x) fs m w r h = h
  request_kept (request.Look p) Open Refuses fs m w r h = unwound_kept (unwinds P 1 0 fs) m w r h
  request_kept (request.Read p t) Open (Gives x) fs m w r h = h
  request_kept (request.Read p t) Open Refuses fs m w r h = unwound_kept (unwinds P 1 0 fs) m w r h
  request_kept (request.Write p x) Open (Gives y) fs m w r h = record { grows = h.grows; fits = h.fits; stays = λ e. cc }
  request_kept (request.Write p x) Open Refuses fs m w r h = unwound_kept (unwinds P 1 0 fs) m w r h
  request_kept request.Commit Open (Gives x) fs m w r h = h
  request_kept request.Commit Open Refuses fs m w r h = refl
  request_kept request.Rollback Doomed v fs m w r h = refl
  request_kept q p v fs m w r h = tt

  asked_kept : (a : Asked) (p : Phase) (v : Reply) (m : Meter) (w r : Log) → Has p m w → Keeps (on_asked P B a p v m w r)
  asked_kept Fails p v m w r h = tt
  asked_kept (Asks Go fs) p v m w r h = h
  asked_kept (Asks Turn fs) Open v m w r h = turns_kept m.turns fs m w r h
  asked_kept (Asks Turn fs) p v m w r h = tt
  asked_kept (Asks (Enter deep) fs) Open v m w r h = depth_kept deep m.turns fs m w r h
  asked_kept (Asks (Enter deep) fs) p v m w r h = tt
  asked_kept (Asks (Return x) fs) Closed v m w r h = returns_kept x m w h
  asked_kept (Asks (Return x) fs) p v m w r h = tt
  asked_kept (Asks (Throw o) fs) Closed v m w r h = threw_kept (class_of P m.thrown o) m w r h
  asked_kept (Asks (Throw o) fs) p v m w r h = tt
  asked_kept (Asks (Make t n d) fs) Open v m w r h = object_kept (row_at P t) t n d v fs m w r h
  asked_kept (Asks (Make t n d) fs) p v m w r h = tt
  asked_kept (Asks (Raise o) fs) Open v m w r h = raise_kept v o fs m w r h
  asked_kept (Asks (Raise o) fs) Doomed v m w r h = unwound_kept (unwinds P o 0 fs) m w r h
  asked_kept (Asks (Raise o) fs) p v m w r h = tt
  asked_kept (Asks (Head o u) fs) Open v m w r h = head_kept v u o fs m w r h
  asked_kept (Asks (Head o u) fs) p v m w r h = tt
  asked_kept (Asks (Ask q) fs) p v m w r h = request_kept q p v fs m w r h

  next_kept : (v : Reply) (c : Run) → Keeps c → Keeps (next_run P B v c)
  next_kept v (On p fs m w r) h = asked_kept (step P fs) p v m w r h
  next_kept v (Asking a fs m w r) h = asked_kept (Asks a fs) Open v m w r h
  next_kept v (Ended x m w r) h = h
  next_kept v (Stuck r) h = h

  run_kept : (vs : List Reply) (c : Run) → Keeps c → Keeps (run P B vs c)
  run_kept [] c h = h
  run_kept (v ∷ vs) c h = run_kept vs (next_run P B v c) (next_kept v c h)

  start_kept : (k : Option Method) (m : ℕ) (args : List Value) → Keeps (starts k B m args)
  start_kept None m args = tt
  start_kept (Some k) m args = refl

pub keeps_region : RegionLaw
keeps_region P B m args x used w r runs =
    let h : IsTaking B x runs.meter.used w = subst (Keeps P B) runs.comes.1 (run_kept P B runs.comes.0 (run_start P B m args) (start_kept P B (method_at P m) m args)) in
    subst (λ (n : ℕ). IsTaking B x n w) runs.leaves h
