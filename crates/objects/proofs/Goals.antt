-- What is shown of an attempt, reply by reply, where words and a state that they stand for are given: a goal that each step of the rewritten code
-- passes on. A reply that isn't the word that is there leads astray.
use Rattle.std.proofs.Common.{◌≡◌, ◌≢◌, ℕ, zero, suc, ◌+◌, List, [], ◌∷◌, Option, Some, false, refl, ap, ◌∙◌, arith}
use Rattle.std.specs.Prelude.{slice_get, nat_eq}
use Rattle.std.specs.List.{AllByRecursion}
use Rattle.jmodel.specs.declared.value.Value.{Value}
use Rattle.jmodel.specs.declared.typing.VType.{VType}
use Rattle.jmodel.specs.declared.value.Answer.{Answer}
use Rattle.jmodel.specs.declared.value.Answer.TheVariants.{Returned, Threw}
use Rattle.jmodel.specs.history.History.{Words, overlaid, Agrees}
use Rattle.objects.specs.declared.op.Slot.{Slot}
use Rattle.objects.specs.declared.op.Slot.TheVariants.{Ref}
use Rattle.objects.specs.declared.op.Phase.TheVariants.{Open}
use Rattle.objects.specs.semantics.Program.{Row, Method, Program, name_at, is_counted}
use Rattle.objects.specs.semantics.Region.{Region}
use Rattle.objects.specs.semantics.State.{State}
use Rattle.objects.specs.semantics.Step.{Frames, Asked, next, received, catch_at, unwinds}
use Rattle.objects.specs.semantics.Call.{Direct, direct, next_direct, call_start}
use Rattle.objects.specs.semantics.Call as call
use Rattle.objects.specs.rewriting.Attempt.{Log, answered, written, recorded, Reply, Gives, Refuses, Bounds, Meter, Run, On, next_run, unwound, refused, followed, throws}
use Rattle.objects.specs.history.Meaning.{Represents}
use Rattle.objects.specs.typing.Typing.{Table}
use Rattle.objects.specs.laws.TypingLaw.{IsTypedProgram}
use Rattle.objects.specs.laws.Law.{IsOnWay, Matched, state_of}
use Rattle.objects.proofs.Frames.{frame}
use Rattle.objects.proofs.Inner.{IsAdded, IsInnerOp}
use Rattle.objects.proofs.Above.{AboveCall, InsideCall, IsInnerAsked}
use Rattle.objects.proofs.Lost.{IsSet}
use Rattle.objects.proofs.Replies.{Leads}
use Rattle.objects.proofs.Makes.{IsSynced}
use Rattle.objects.proofs.Alike.{IsGivenAs}
use Rattle.objects.proofs.TypedFrames.{AreTyped}
use Rattle.objects.proofs.Tied.{Run as Tie}

-- the reads of an attempt aren't what the words have
abbrev pub IsAstray : Words → Log → Type 0
IsAstray ws r = Agrees ws r → ⊥

pub direct_more : (P : Program) (G : Region) (j : ℕ) (d : Direct) → direct P G (suc j) d ≡ next_direct P G (direct P G j d)
direct_more P G zero d = refl
direct_more P G (suc j) d = direct_more P G j (next_direct P G d)

pub direct_both : (P : Program) (G : Region) (i j : ℕ) (d : Direct) → direct P G (i + j) d ≡ direct P G j (direct P G i d)
direct_both P G zero j d = let e : 0 + j ≡ j = omega arith in ap (λ (n : ℕ). direct P G n d) e
direct_both P G (suc i) j d = let e : suc i + j ≡ suc (i + j) = omega arith in ap (λ (n : ℕ). direct P G n d) e ∙ direct_both P G i j (next_direct P G d)

module _ (P : Program) (Ts : List Table) (S : IsTypedProgram P Ts) (Q : Program) (B : Bounds) (mn : ℕ) (args : List Value) (ws : Words) (σ : State) where
  abbrev G : Region
  G = B.region

  abbrev first : Direct
  first = call_start P mn args B.budget σ

  -- the call, run alone, comes there
  abbrev pub Reaches : Direct → Type 0
  Reaches d = (j : ℕ) × (direct P G j first ≡ d)

  -- the words with these writes stand for a state that has so many used words, as many as before in other regions
  pub record StandsFor (τ : State) (used : ℕ) (w : Log) : Type 0 where
    pub represents : Represents P G.size (overlaid w ws) τ
    pub own : τ.used G.number ≡ used
    pub others : (region : ℕ) → region ≢ G.number → τ.used region ≡ σ.used region

  -- the original method's run, where the attempt is
  pub record Here (fs : Frames) (τ : State) (M : Meter) (w r : Log) : Type 0 where
    pub reach : Reaches (call.On fs M.turns τ)
    pub stands : StandsFor τ M.used w
    pub agrees : Agrees ws r
    pub typed : AreTyped P Ts S τ fs

  abbrev pub SoFar : Log → Type 0
  SoFar w = Matched P B mn args w ws σ

  pub so_far : (fs : Frames) (τ : State) (M : Meter) (w r : Log) → Here fs τ M w r → SoFar w
  so_far fs τ M w r h = record { steps = h.reach.0; after = τ; comes = ap state_of h.reach.1; represents = h.stands.represents }

  pub reaches_next : (c d : Direct) → Reaches c → next_direct P G c ≡ d → Reaches d
  reaches_next c d (j, e) n = (suc j, direct_more P G j first ∙ ap (next_direct P G) e ∙ n)

  module _ (gives : Option VType) (c q z : ℕ) (slots : List Slot) (first_added : ℕ) (ops_inner : (m : ℕ) (k : Method) → IsAdded Q first_added m → slice_get Q.methods m ≡ Some k → AllByRecursion (IsInnerOp Q first_added) k.ops)
      (uncounted : is_counted Q mn ≡ false) (catch : catch_at Q mn (q + 1) 0 ≡ Some z) (catch_other : (t : ℕ) → nat_eq t 0 ≡ false → catch_at Q mn (q + 1) t ≡ Some (z + 4)) where
    -- G n c: the goal holds of c for n more replies. A n c: it holds of c, whose reads are astray.
    pub record IsGoal (Goal Astray : ℕ → Run → Type 0) : Type 0 where
      pub more : (n : ℕ) (d : Run) → Goal (suc n) d → Goal n d
      pub leads : (j n : ℕ) (d e : Run) → Leads Q B (suc j) d e → Goal n e → Goal (suc n) d
      pub steps : (n : ℕ) (w r : Log) (d e : Run) → IsOnWay w r d → SoFar w → Agrees ws r → ((v : Reply) → next_run Q B v d ≡ e) → Goal n e → Goal (suc n) d
      pub looks : (n : ℕ) (wl : List Slot) (gs : Frames) (M : Meter) (w r : Log) (d e : Run) → IsOnWay w r d → IsSynced P Q B mn args σ d → IsSet gives c slots wl → AboveCall Q first_added mn q wl gs → SoFar w → Agrees ws r
          → next_run Q B Refuses d ≡ unwound (unwinds Q 1 0 gs) M w r → ((x : ℕ) → next_run Q B (Gives x) d ≡ e) → Goal n e → Goal (suc n) d
      pub reads : (n : ℕ) (wl : List Slot) (gs : Frames) (M : Meter) (w r : Log) (d : Run) (a : ℕ) (next : ℕ → Log → Run) → IsOnWay w r d → IsSynced P Q B mn args σ d → IsSet gives c slots wl → AboveCall Q first_added mn q wl gs → SoFar w → Agrees ws r
          → next_run Q B Refuses d ≡ unwound (unwinds Q 1 0 gs) M w r → ((x : ℕ) → next_run Q B (Gives x) d ≡ next (answered w a x) (recorded (written w a) a x r))
          → ((y : ℕ) (s : Log) → IsAstray ws s → Astray n (next y s)) → ((s : Log) → Agrees ws s → Goal n (next (overlaid w ws a) s)) → Goal (suc n) d
      pub stray_on : (n : ℕ) (wl : List Slot) (gs : Frames) (M : Meter) (w s : Log) → IsSet gives c slots wl → InsideCall Q first_added mn q wl gs → IsAstray ws s → Astray n (On Open gs M w s)
      pub stray_follows : (n : ℕ) (wl : List Slot) (a : Asked) (M : Meter) (w s : Log) → IsSet gives c slots wl → IsInnerAsked Q first_added ops_inner mn q z uncounted catch catch_other wl a → IsAstray ws s → Astray n (followed a M w s)
      pub stray_throws : (n : ℕ) (wl : List Slot) (row : Option Row) (o t : ℕ) (gs : Frames) (M : Meter) (w s : Log) → IsSet gives c slots wl → InsideCall Q first_added mn q wl gs → IsAstray ws s → Astray n (throws row Q B o t gs M w s)

    -- how the call ends, and where the attempt is then: refused, or in the wrapper, with a value or an exception
    pub data EndsAs (τ : State) : Answer → Run → Type 0 where
      out : (x : Answer) (M : Meter) (r : Log) → call.kept x σ τ ≡ σ → Agrees ws r → EndsAs τ x (refused B x M r)
      back : (v : Option Value) (wl j : List Slot) (M : Meter) (w r : Log) → IsSet gives c slots wl → IsGivenAs gives v → StandsFor τ M.used w → Agrees ws r → EndsAs τ (Returned v) (On Open (next (received v (frame mn (q + 1) wl j)) ∷ []) M w r)
      threw : (class : List ℕ) (o t : ℕ) (wl : List Slot) (M : Meter) (w r : Log) → IsSet gives c slots wl → M.thrown ≡ Some (record { reference = suc o; type = t }) → name_at P t ≡ Some class → StandsFor τ M.used w → Agrees ws r
          → EndsAs τ (Threw class) (On Open (frame mn (z + 4) wl (Ref (suc o) ∷ []) ∷ []) M w r)

    -- an instruction leads on from one pair of frames: to another, or to an end
    pub record Continues (Goal : ℕ → Run → Type 0) (n : ℕ) (d : Direct) : Type 0 where
      pub on : (j : ℕ) (fs gs : Frames) (τ : State) (M : Meter) (w r : Log) → direct P G (suc j) d ≡ call.On fs M.turns τ → Here fs τ M w r → Tie P Ts S mn q gives c slots fs gs → Goal n (On Open gs M w r)
      pub ends : (j : ℕ) (x : Answer) (τ : State) (e : Run) → direct P G (suc j) d ≡ call.Ended x τ → EndsAs τ x e → Goal n e
