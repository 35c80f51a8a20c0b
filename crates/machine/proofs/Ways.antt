-- Runs with what they tell, step by step.
use Rattle.std.proofs.Common.{◌≡◌, Bool, true, false, List, [], ◌∷◌, ◌++◌, Option, Some, None, refl, ap, sym, ◌∙◌}
use Rattle.std.proofs.lemmas.List.{append-nil, append_assoc}
use Rattle.objects.specs.declared.event.Event.{Event}
use Rattle.objects.specs.declared.event.Event.TheVariants as event
use Rattle.objects.specs.declared.op.Phase.{Phase}
use Rattle.objects.specs.declared.op.Phase.TheVariants.{Closed}
use Rattle.objects.specs.declared.op.Asking.TheVariants.{Go, Turn, Enter, Return, Throw, Raise, Make, Head, Ask}
use Rattle.objects.specs.declared.op.Request.{Request}
use Rattle.objects.specs.declared.op.Request.TheVariants as request
use Rattle.objects.specs.semantics.Program.{Program}
use Rattle.objects.specs.semantics.Step.{Frames, Asked, Asks, Fails, step, goes}
use Rattle.objects.specs.rewriting.Attempt.{Log, Bounds, Meter, Run, On, Reply, next_run, run, Comes}
use Rattle.objects.specs.rewriting.Events.{AreOfAsked, AreOfStep, AreOfRun, AreOpen, Grows, request_events}
use Rattle.machine.specs.Telling.{TellsNone}
use Rattle.machine.specs.Running.{Way, Told}
use Rattle.machine.proofs.Comes.{run_append}

-- ---- what is told

-- what is told after two stretches
pub grows_trans : (a b c : Option (List Event)) (es fs : List Event) → Grows a b es → Grows b c fs → Grows a c (es ++ fs)
grows_trans a b None es fs p q = tt
grows_trans a None (Some z) es fs p q = absurd q
grows_trans None (Some y) (Some z) es fs p q = absurd p
grows_trans (Some x) (Some y) (Some z) es fs p q = q ∙ ap (λ (l : List Event). l ++ fs) p ∙ append_assoc x es fs

-- nothing was told
pub grows_same : (a : Option (List Event)) → Grows a a []
grows_same None = tt
grows_same (Some x) = sym (append-nil x)

-- neither stretch told an entry
pub open_append : (es fs : List Event) → AreOpen es → AreOpen fs → AreOpen (es ++ fs)
open_append [] fs a b = b
open_append (event.Began ∷ es) fs a b = open_append es fs a b
open_append (event.Looked x ∷ es) fs a b = open_append es fs a b
open_append (event.Loaded x ∷ es) fs a b = open_append es fs a b
open_append (event.Checked x ∷ es) fs a b = open_append es fs a b
open_append (event.Wrote x ∷ es) fs a b = open_append es fs a b
open_append (event.Ended ∷ es) fs a b = absurd a

-- what a step told, whatever it is of
pub none_told : (D T : List Event → Type 0) → Told D T → TellsNone T
none_told D T t = record { events = t.0; no_entry = t.2; told = t.3 }

-- no event
pub nothing_told : (T : List Event → Type 0) → T [] → TellsNone T
nothing_told T t = record { events = []; no_entry = tt; told = t }

-- the same of other steps, or seen from another place
pub told_as : (D D' T T' : List Event → Type 0) → ((es : List Event) → D es → D' es) → ((es : List Event) → T es → T' es) → Told D T → Told D' T'
told_as D D' T T' d f t = (t.0, d t.0 t.1, t.2, f t.0 t.3)

-- what was told before it comes first
pub none_after : (T T' : List Event → Type 0) (es : List Event) → AreOpen es → ((fs : List Event) → T fs → T' (es ++ fs)) → TellsNone T → TellsNone T'
none_after T T' es o f t = record { events = es ++ t.events; no_entry = open_append es t.events o t.no_entry; told = f t.events t.told }

-- ---- ways

pub way_here : (P : Program) (B : Bounds) (c : Run) → Way P B c [] c
way_here P B c = ([], refl, refl)

pub told_append : (P : Program) (B : Bounds) (us vs : List Reply) (c : Run) (es fs : List Event) → AreOfRun P B us c es → AreOfRun P B vs (run P B us c) fs → AreOfRun P B (us ++ vs) c (es ++ fs)
told_append P B [] vs c es fs a b = rw a b
told_append P B (u ∷ us) vs c es fs a b =
    (a.0, a.1 ++ fs, a.2, told_append P B us vs (next_run P B u c) a.1 fs a.3 b, ap (λ (l : List Event). l ++ fs) a.4 ∙ append_assoc a.0 a.1 fs)

-- a way from c to d, and one from there on
pub way_trans : (P : Program) (B : Bounds) (c d e : Run) (es fs : List Event) → Way P B c es d → Way P B d fs e → Way P B c (es ++ fs) e
way_trans P B c d e es fs (us, p, s) (vs, q, t) = (us ++ vs, run_append P B us vs c ∙ rw p q, told_append P B us vs c es fs s (rw p t))

-- one step
pub way_next : (P : Program) (B : Bounds) (c d : Run) (v : Reply) (es : List Event) → next_run P B v c ≡ d → AreOfStep P B v c es → Way P B c es d
way_next P B c d v es e t = (v ∷ [], e, (es, [], t, refl, sym (append-nil es)))

-- one more step
pub way_more : (P : Program) (B : Bounds) (c d e : Run) (v : Reply) (es fs : List Event) → Way P B c es d → next_run P B v d ≡ e → AreOfStep P B v d fs → Way P B c (es ++ fs) e
way_more P B c d e v es fs h p t = way_trans P B c d e es fs h (way_next P B d e v fs p t)

-- one more step that tells nothing
pub way_quiet : (P : Program) (B : Bounds) (c d e : Run) (v : Reply) → Way P B c [] d → next_run P B v d ≡ e → AreOfStep P B v d [] → Way P B c [] e
way_quiet P B c d e v h p t = way_more P B c d e v [] [] h p t

-- where it comes to
pub comes_of : (P : Program) (B : Bounds) (c d : Run) (es : List Event) → Way P B c es d → Comes P B c d
comes_of P B c d es w = (w.0, w.1)

-- ---- steps that tell nothing

request_quiet : (B : Bounds) (q : Request) (v : Reply) (m : Meter) → request_events B q Closed v m ≡ []
request_quiet B (request.Get p) v m = refl
request_quiet B (request.Put p x) v m = refl
request_quiet B (request.Begin n) v m = refl
request_quiet B (request.Look p) v m = refl
request_quiet B (request.Read p t) v m = refl
request_quiet B (request.Write p x) v m = refl
request_quiet B request.Commit v m = refl
request_quiet B request.Rollback v m = refl

-- after the commit
pub closed_quiet : (P : Program) (B : Bounds) (x : Asked) (v : Reply) (m : Meter) → AreOfAsked P B x Closed v m []
closed_quiet P B Fails v m = refl
closed_quiet P B (Asks Go fs) v m = refl
closed_quiet P B (Asks Turn fs) v m = refl
closed_quiet P B (Asks (Enter d) fs) v m = refl
closed_quiet P B (Asks (Return x) fs) v m = refl
closed_quiet P B (Asks (Throw o) fs) v m = refl
closed_quiet P B (Asks (Raise o) fs) v m = refl
closed_quiet P B (Asks (Make t n d) fs) v m = refl
closed_quiet P B (Asks (Head o u) fs) v m = refl
closed_quiet P B (Asks (Ask q) fs) v m = sym (request_quiet B q v m)

-- a jump
pub jump_quiet : (P : Program) (B : Bounds) (b : Bool) (fs : Frames) (p : Phase) (v : Reply) (m : Meter) → AreOfAsked P B (goes b fs) p v m []
jump_quiet P B true fs p v m = refl
jump_quiet P B false fs p v m = refl

-- a step, by what it asks for
pub step_tells : (P : Program) (B : Bounds) (v : Reply) (p : Phase) (fs : Frames) (m : Meter) (w r : Log) (x : Asked) (es : List Event) → step P fs ≡ x → AreOfAsked P B x p v m es → AreOfStep P B v (On p fs m w r) es
step_tells P B v p fs m w r x es e t = rw e t
