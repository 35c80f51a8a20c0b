-- Objects that a call makes.
use Rattle.std.proofs.Common.{◌≡◌, ℕ, ◌+◌, List, [], ◌∷◌, Ok, Err, Option, None, Bool, true, false, refl, sym, subst, ap, ◌∙◌}
use Rattle.objects.specs.declared.op.Made.{Made}
use Rattle.objects.specs.declared.op.Made.TheVariants.{Pushed, Raised}
use Rattle.objects.specs.declared.op.Phase.TheVariants.{Open}
use Rattle.objects.specs.declared.event.Event.{Event}
use Rattle.objects.specs.declared.event.Event.TheVariants.{Wrote}
use Rattle.objects.specs.rewriting.Events.{made_events, header_events}
use Rattle.objects.specs.semantics.Program.{Row, Holds, Words, Elements, Program, row_at}
use Rattle.objects.specs.semantics.Region.{has_words, next_reference}
use Rattle.objects.specs.semantics.State.{Object, header, words_of, object_of}
use Rattle.objects.specs.semantics.Step.{unwinds}
use Rattle.objects.specs.rewriting.Attempt.{Log, Bounds, Reply, Gives, Refuses, access, Stuck, unwound, on_made, on_thrown, meter_thrown, meter_with, makes, made, making}
use Rattle.machine.specs.declared.failure.Failure.{Failure}
use Rattle.machine.specs.declared.failure.Failure.TheVariants as failure
use Rattle.machine.specs.declared.running.Running.{Running}
use Rattle.machine.specs.declared.running.Todo.TheVariants.{Refuse}
use Rattle.machine.specs.declared.running.Limit.TheVariants.{Heap}
use Rattle.machine.specs.declared.make.Fresh.{Fresh}
use Rattle.machine.specs.Running.{frames, meter, land, settled, IsTurn, IsFresh}
use Rattle.machine.proofs.Ways.{nothing_told}

-- an object has the type that it was made of
pub of_type : (t n : ℕ) (c : Row) → (object_of t n c).type ≡ t
of_type t n c = by c.holds refl
  where
    by : (h : Holds) → c.holds ≡ h → (object_of t n c).type ≡ t
    by (Words ds) e = rw e refl
    by (Elements d name) e = rw e refl

module _ (P : Program) (B : Bounds) (t n : ℕ) (d : Made) (a : Running) (w r : Log) where
  -- a type that isn't there
  pub make_none : (v : Reply) → row_at P t ≡ None → making Open t n d v P B (frames a) (meter a) w r ≡ Stuck r
  make_none v e = ap (λ (c : Option Row). made c t n d v P B (frames a) (meter a) w r) e

  module _ (x : Fresh) (f : IsFresh P t n x) where
    abbrev b : Object
    b = object_of t n f.row

    roomy : (v : Reply) → making Open t n d v P B (frames a) (meter a) w r ≡ makes (has_words B.region a.used (words_of b)) v d P B b (frames a) (meter a) w r
    roomy v = ap (λ (c : Option Row). made c t n d v P B (frames a) (meter a) w r) f.there

    by_room : (v : Reply) (room : Bool) → has_words B.region a.used x.words ≡ room → making Open t n d v P B (frames a) (meter a) w r ≡ makes room v d P B b (frames a) (meter a) w r
    by_room v room e =
        roomy v ∙ ap (λ (k : ℕ). makes (has_words B.region a.used k) v d P B b (frames a) (meter a) w r) (sym f.words) ∙ ap (λ (y : Bool). makes y v d P B b (frames a) (meter a) w r) e

    -- the region has no room for the object
    pub make_full : (v : Reply) → has_words B.region a.used x.words ≡ false → making Open t n d v P B (frames a) (meter a) w r ≡ land B a w r (Ok (Refuse (Heap x.words)))
    make_full v full = by_room v false full ∙ rw f.words refl

    -- the engine refuses the write of its header
    pub make_refused : has_words B.region a.used x.words ≡ true → making Open t n d Refuses P B (frames a) (meter a) w r ≡ unwound (unwinds P 1 0 (frames a)) (meter a) w r
    make_refused there = by_room Refuses true there

    -- its header is written, and it is pushed or thrown
    pub make_given : (reference : ℕ) → has_words B.region a.used x.words ≡ true → reference ≡ next_reference B.region a.used
        → making Open t n d (Gives 0) P B (frames a) (meter a) w r
        ≡ settled d P B reference t (record (meter a) { used = a.used + x.words }) (frames a) (access reference x.header ∷ w) r
    make_given reference there lies =
        by_room (Gives 0) true there ∙ subst (λ (k : ℕ). makes true (Gives 0) d P B b (frames a) (meter a) w r ≡ settled d P B k t (record (meter a) { used = a.used + x.words }) (frames a) (access k x.header ∷ w) r) (sym lies) (at_next d)
      where
        at_next : (e : Made) → on_made e P B b (frames a) (meter a) (access (next_reference B.region a.used) (header b) ∷ w) r
            ≡ settled e P B (next_reference B.region a.used) t (record (meter a) { used = a.used + x.words }) (frames a) (access (next_reference B.region a.used) x.header ∷ w) r
        at_next Pushed = rw (f.words, f.header_is) refl
        at_next Raised = rw (f.words, f.header_is) (ap (λ (k : ℕ). on_thrown B (unwinds P (next_reference B.region a.used) k (frames a)) (meter_thrown (next_reference B.region a.used) k (meter_with b (meter a))) (access (next_reference B.region a.used) (header b) ∷ w) r) (of_type t n f.row))

module _ (P : Program) (B : Bounds) (t n : ℕ) (a : Running) (x : Fresh) (f : IsFresh P t n x) where
  -- what its header's writing tells
  tells_by : (v : Reply) (room : Bool) → has_words B.region a.used x.words ≡ room → made_events (row_at P t) t n v B (meter a) ≡ header_events room v (next_reference B.region a.used)
  tells_by v room e =
      ap (λ (c : Option Row). made_events c t n v B (meter a)) f.there ∙ ap (λ (k : ℕ). header_events (has_words B.region a.used k) v (next_reference B.region a.used)) (sym f.words)
      ∙ ap (λ (y : Bool). header_events y v (next_reference B.region a.used)) e

  pub full_tells : (v : Reply) → has_words B.region a.used x.words ≡ false → made_events (row_at P t) t n v B (meter a) ≡ []
  full_tells v full = tells_by v false full

  pub refused_tells : has_words B.region a.used x.words ≡ true → made_events (row_at P t) t n Refuses B (meter a) ≡ []
  refused_tells there = tells_by Refuses true there

  pub given_tells : (reference : ℕ) → has_words B.region a.used x.words ≡ true → reference ≡ next_reference B.region a.used → made_events (row_at P t) t n (Gives 0) B (meter a) ≡ Wrote reference ∷ []
  given_tells reference there lies = tells_by (Gives 0) true there ∙ rw lies refl

-- a type that isn't there, or one too large
pub make_fails : (P : Program) (B : Bounds) (t n : ℕ) (d : Made) (a a' : Running) (w r : Log) (T : List Event → Type 0) (H : Log → Log → Type 0) (e : Failure)
    → (e ≡ failure.Wrong → row_at P t ≡ None) → T [] → H r w
    → IsTurn B (λ v. making Open t n d v P B (frames a) (meter a) w r) (λ v es. es ≡ made_events (row_at P t) t n v B (meter a)) T H a' (Err e)
make_fails P B t n d a a' w r T H failure.Wrong q k h =
    (r, w, h, (Gives 0, make_none P B t n d a w r (Gives 0) (q refl), ([], sym (ap (λ (c : Option Row). made_events c t n (Gives 0) B (meter a)) (q refl)), tt, k)))
make_fails P B t n d a a' w r T H failure.NoMemory q k h = (r, w, h, nothing_told T k)
