-- Instructions for which one stands in the duplicate: what both ask, and where both go on.
use Rattle.std.proofs.Common.{◌≡◌, ℕ, zero, suc, ◌+◌, ◌<◌, ◌≤◌, List, [], ◌∷◌, length, Option, Some, None, Bool, true, false, refl, sym, ap, subst, ◌∙◌, arith, ◌&&◌, nat_le}
use Rattle.std.specs.Prelude.{slice_get, nat_eq, option_map}
use Rattle.std.proofs.lemmas.Bool.Decides.{nat_tests}
use Rattle.std.specs.List.{AllByRecursion}
use Rattle.jmodel.specs.declared.value.Value.{Value}
use Rattle.jmodel.specs.declared.typing.VType.{VType}
use Rattle.jmodel.specs.declared.value.Answer.TheVariants.{Returned, Threw, Budget, Depth, Heap}
use Rattle.jmodel.specs.history.History.{Words, overlaid, Agrees}
use Rattle.objects.specs.declared.op.Slot.{Slot}
use Rattle.objects.specs.declared.op.Slot.TheVariants.{Ref}
use Rattle.objects.specs.declared.op.Op.{Op}
use Rattle.objects.specs.declared.op.Phase.TheVariants.{Open}
use Rattle.objects.specs.declared.op.Asking.TheVariants as asking
use Rattle.objects.specs.semantics.Value.{pushed}
use Rattle.objects.specs.declared.op.Use.{Use}
use Rattle.objects.specs.declared.op.Made.{Made}
use Rattle.objects.specs.declared.op.Made.TheVariants.{Pushed, Raised}
use Rattle.objects.specs.semantics.Program.{Row, Method, Program, is_counted, is_instance, name_at, row_at}
use Rattle.objects.specs.semantics.Region.{Region, next_reference, has_words}
use Rattle.objects.specs.semantics.State.{Object, State, header, words_of, with_object, object_of, type_at, length_of, type_in, length_in}
use Rattle.objects.specs.history.Meaning.{IsHeap, IsTyped}
use Rattle.objects.specs.semantics.Step.{step, Frames, Did, Asked, Asks, next, received, advanced, resumed, truth, or_trap, goes as goes_to, gives, on_did, catch_at, unwinds, told}
use Rattle.objects.specs.semantics.Call.{Direct, direct, next_direct, on_asked, turned}
use Rattle.objects.specs.semantics.Call as call
use Rattle.objects.specs.rewriting.Attempt.{Log, access, Reply, Bounds, Meter, Run, On, Asking, Ended, Stuck, next_run, with_turns, refused}
use Rattle.objects.specs.rewriting.Attempt as attempt
use Rattle.objects.specs.typing.Typing.{Table, types_at}
use Rattle.objects.specs.laws.TypingLaw.{IsTypedProgram}
use Rattle.objects.specs.rewriting.Rewriting.{Typed, block_len_of, block_at, duplicate}
use Rattle.objects.proofs.Frames.{frame}
use Rattle.objects.specs.declared.op.Use.TheVariants.{Casts, Tests, Measures}
use Rattle.objects.specs.declared.op.Trap.TheVariants.{ClassCast}
use Rattle.objects.specs.linking.Library.{trap_type}
use Rattle.objects.proofs.Alike.{Stands, IsSimpleUse, IsGivenAs, Alike, neither, goes, jumps, gives as gives_as, traps, makes, raises, heads}
use Rattle.objects.proofs.Inner.{IsAdded, IsInnerOp, IsInnerUse}
use Rattle.objects.proofs.Lost.{IsSet}
use Rattle.objects.proofs.Tied.{Tied, Callers, bottom, caller, top, Thrown, lands, leaves, typed_code, counted_of, counted_dup, call_len, callers_above, thrown_from, thrown_callers}
use Rattle.objects.proofs.Tied as tied
use Rattle.objects.proofs.Places.{Rewrites, typed_at, typed_length, next_block}
use Rattle.objects.proofs.Room.{HasWords, words_there}
use Rattle.objects.proofs.Caught.{row_moved, instance_moved, same_le}
use Rattle.objects.proofs.Above.{AboveCall, inner, InsideCall, above_inside, told_inner}
use Rattle.objects.proofs.Headers.{header_type, header_length}
use Rattle.objects.proofs.Heap.{KeepsTypes, object_at, type_of, used_with, used_without, new_keeps, new_here, heap_with_object, object_type, object_fits}
use Rattle.objects.proofs.Objects.{object_zero, represents_header}
use Rattle.objects.proofs.TypedFrames.{AreTyped, ThrownFine, IsThrown, Throws, MadeFine, MakesFine, Fine, Heads, NoHeads, AsksFine, keeps_same}
use Rattle.objects.specs.laws.Law.{IsOnWay, state_of}
use Rattle.objects.proofs.Makes.{open_asks, run_asks, used_in, IsSynced, heads_synced, raises_synced}
use Rattle.objects.proofs.Goals.{Reaches, SoFar, Here, StandsFor, IsGoal, out, back, threw, Continues, reaches_next}

module _ (P : Program) (Ts : List Table) (S : IsTypedProgram P Ts) (Q : Program) (R : Rewrites P Ts Q) (B : Bounds) (mn : ℕ) (args : List Value) (ws : Words) (σ : State) (gives_type : Option VType) (c q z : ℕ) (slots : List Slot) (first_added : ℕ)
    (ops_inner : (m : ℕ) (k : Method) → IsAdded Q first_added m → slice_get Q.methods m ≡ Some k → AllByRecursion (IsInnerOp Q first_added) k.ops) (uncounted : is_counted Q mn ≡ false) (catch : catch_at Q mn (q + 1) 0 ≡ Some z)
    (catch_other : (t : ℕ) → nat_eq t 0 ≡ false → catch_at Q mn (q + 1) t ≡ Some (z + 4)) (Goal Astray : ℕ → Run → Type 0)
    (goal : IsGoal P Ts S Q B mn args ws σ gives_type c q z slots first_added ops_inner uncounted catch catch_other Goal Astray) where
  abbrev G : Region
  G = B.region

  abbrev IsHere : Frames → State → Meter → Log → Log → Type 0
  IsHere = Here P Ts S Q B mn args ws σ

  abbrev Goes : ℕ → Direct → Type 0
  Goes = Continues P Ts S Q B mn args ws σ gives_type c q z slots first_added ops_inner uncounted catch catch_other Goal

  abbrev Tie : Frames → Frames → Type 0
  Tie = tied.Run P Ts S mn q gives_type c slots

  abbrev Calls : Option VType → Frames → Frames → Type 0
  Calls = Callers P Ts S mn q gives_type c slots

  abbrev ThrownTo : ℕ → ℕ → Asked → Asked → Type 0
  ThrownTo = Thrown P Ts S mn q gives_type c slots Q R uncounted

  abbrev IsReached : Direct → Type 0
  IsReached = Reaches P Ts S Q B mn args ws σ

  -- an attempt on its way, where the original is
  pub record Stage (X : Direct) (d : Run) (τ : State) (M : Meter) (w r : Log) : Type 0 where
    pub reach : IsReached X
    pub has : state_of X ≡ Some τ
    pub on_way : IsOnWay w r d
    pub stands : StandsFor P Ts S Q B mn args ws σ τ M.used w
    pub agrees : Agrees ws r

  pub stage_so_far : (X : Direct) (d : Run) (τ : State) (M : Meter) (w r : Log) → Stage X d τ M w r → SoFar P Ts S Q B mn args ws σ w
  stage_so_far X d τ M w r s = record { steps = s.reach.0; after = τ; comes = ap state_of s.reach.1 ∙ s.has; represents = s.stands.represents }

  -- the original goes on from X in one step, and the attempt from d, whatever the reply
  module _ (n : ℕ) (X : Direct) (d : Run) (τ : State) (M : Meter) (w r : Log) (s : Stage X d τ M w r) (k : Goes n X) where
    step_to : (e : Run) → ((v : Reply) → next_run Q B v d ≡ e) → Goal n e → Goal (suc n) d
    step_to e step go = goal.steps n w r d e s.on_way (stage_so_far X d τ M w r s) s.agrees step go

    -- to frames that are alike
    pub at_frames : (fs gs : Frames) → next_direct P G X ≡ call.On fs M.turns τ → ((v : Reply) → next_run Q B v d ≡ On Open gs M w r) → AreTyped P Ts S τ fs → Tie fs gs → Goal (suc n) d
    at_frames fs gs e step typed tie = step_to _ step (k.on 0 fs gs τ M w r e (record { reach = reaches_next P Ts S Q B mn args ws σ X _ s.reach e; stands = s.stands; agrees = s.agrees; typed = typed }) tie)

    -- a turn is counted by both
    turned_by : (t : ℕ) (fs gs : Frames) → next_direct P G X ≡ call.turned fs t τ → ((v : Reply) → next_run Q B v d ≡ with_turns B t gs M w r) → AreTyped P Ts S τ fs → Tie fs gs → Goal (suc n) d
    turned_by zero fs gs e step typed tie = step_to _ step (k.ends 0 Budget τ _ e (out Budget M r refl s.agrees))
    turned_by (suc t) fs gs e step typed tie =
        step_to _ step (k.on 0 fs gs τ (record M { turns = t }) w r e (record { reach = reaches_next P Ts S Q B mn args ws σ X _ s.reach e; stands = s.stands; agrees = s.agrees; typed = typed }) tie)

    pub at_turn : (fs gs : Frames) → next_direct P G X ≡ call.turned fs M.turns τ → ((v : Reply) → next_run Q B v d ≡ with_turns B M.turns gs M w r) → AreTyped P Ts S τ fs → Tie fs gs → Goal (suc n) d
    at_turn = turned_by M.turns

    entered_by : (t : ℕ) (deep : Bool) (fs gs : Frames) → next_direct P G X ≡ call.entered deep fs t τ → ((v : Reply) → next_run Q B v d ≡ attempt.with_depth B deep t gs M w r) → AreTyped P Ts S τ fs → Tie fs gs → Goal (suc n) d
    entered_by zero deep fs gs e step typed tie = step_to _ step (k.ends 0 Budget τ _ e (out Budget M r refl s.agrees))
    entered_by (suc t) true fs gs e step typed tie = step_to _ step (k.ends 0 Depth τ _ e (out Depth M r refl s.agrees))
    entered_by (suc t) false fs gs e step typed tie =
        step_to _ step (k.on 0 fs gs τ (record M { turns = t }) w r e (record { reach = reaches_next P Ts S Q B mn args ws σ X _ s.reach e; stands = s.stands; agrees = s.agrees; typed = typed }) tie)

    -- a method is entered
    pub at_entry : (deep : Bool) (fs gs : Frames) → next_direct P G X ≡ call.entered deep fs M.turns τ → ((v : Reply) → next_run Q B v d ≡ attempt.with_depth B deep M.turns gs M w r) → AreTyped P Ts S τ fs → Tie fs gs → Goal (suc n) d
    at_entry deep = entered_by M.turns deep

    -- a jump, which may be a turn
    pub at_jump : (b : Bool) (fs gs : Frames) → next_direct P G X ≡ on_asked P G (goes_to b fs) M.turns τ → ((v : Reply) → next_run Q B v d ≡ attempt.on_asked Q B (goes_to b gs) Open v M w r) → AreTyped P Ts S τ fs → Tie fs gs → Goal (suc n) d
    at_jump true fs gs e step typed tie = at_turn fs gs e step typed tie
    at_jump false fs gs e step typed tie = at_frames fs gs e step typed tie

  -- ---- exceptions

  -- the original throws an exception of a type at a reference, and so does the attempt
  module _ (n : ℕ) (X : Direct) (k : Goes n X) (reach : IsReached X) (τ : State) (M : Meter) (w r : Log) (stands : StandsFor P Ts S Q B mn args ws σ τ M.used w) (agrees : Agrees ws r) (o t : ℕ) (class : List ℕ) (named : name_at P t ≡ Some class)
      (thrown : M.thrown ≡ Some (record { reference = suc o; type = t })) where
    lands_by : (b : Bool) (fs gs : Frames) (turns : ℕ) → M.turns ≡ turns → next_direct P G X ≡ call.on_thrown P t (goes_to b fs) turns τ → AreTyped P Ts S τ fs → Tie fs gs → Goal n (attempt.on_thrown B (goes_to b gs) M w r)
    lands_by false fs gs turns same e typed tie =
        let f : next_direct P G X ≡ call.On fs M.turns τ = e ∙ ap (λ (i : ℕ). call.On fs i τ) (sym same) in
        k.on 0 fs gs τ M w r f (record { reach = reaches_next P Ts S Q B mn args ws σ X _ reach f; stands = stands; agrees = agrees; typed = typed }) tie
    lands_by true fs gs zero same e typed tie =
        subst (λ (i : ℕ). Goal n (with_turns B i gs M w r)) (sym same) (k.ends 0 Budget τ _ e (out Budget M r refl agrees))
    lands_by true fs gs (suc i) same e typed tie =
        subst (λ (i : ℕ). Goal n (with_turns B i gs M w r)) (sym same)
        (k.on 0 fs gs τ (record M { turns = i }) w r e (record { reach = reaches_next P Ts S Q B mn args ws σ X _ reach e; stands = stands; agrees = agrees; typed = typed }) tie)

    pub at_thrown : (a b : Asked) → ThrownTo z (suc o) a b → next_direct P G X ≡ call.on_thrown P t a M.turns τ → ThrownFine P Ts S τ a → Goal n (attempt.on_thrown B b M w r)
    at_thrown a b (lands turn fs gs tie) e fine = lands_by turn fs gs M.turns refl e (typed_by turn fine) tie
      where
        typed_by : (turn : Bool) → ThrownFine P Ts S τ (goes_to turn fs) → AreTyped P Ts S τ fs
        typed_by true h = h
        typed_by false h = h
    at_thrown a b (leaves wl set) e fine = k.ends 0 (Threw class) τ _ (e ∙ ap (λ (x : Option (List ℕ)). call.threw_of x τ) named) (threw class o t wl M w r set thrown named stands agrees)

  -- ---- new objects

  -- frames that a new object leads to: it is pushed, or thrown
  abbrev pub MadeTie : Made → Frames → Frames → Type 0
  MadeTie Pushed fs hs = (o : ℕ) → Tie (resumed (Ref o ∷ []) fs) (resumed (Ref o ∷ []) hs)
  MadeTie Raised fs hs = (o t : ℕ) → nat_eq t 0 ≡ false → ThrownTo z (suc o) (unwinds P (suc o) t fs) (unwinds Q (suc o) t hs)

  module _ (n : ℕ) (X : Direct) (d : Run) (τ : State) (M : Meter) (w r : Log) (s : Stage X d τ M w r) (k : Goes n X) (t len : ℕ) (made : Made) (fs hs : Frames) (row : Row) (is : row_at P t ≡ Some row) (few : len < 2147483648) where
    abbrev H : IsHeap P B.region.size τ
    H = s.stands.represents.heap

    abbrev b : Object
    b = object_of t len row

    abbrev u : ℕ
    u = τ.used B.region.number

    abbrev place : ℕ
    place = next_reference G u

    abbrev later : State
    later = with_object G b τ

    abbrev w2 : Log
    w2 = access place (header b) ∷ w

    module _ (room : HasWords G u (words_of b)) where
      heap2 : IsHeap P G.size later
      heap2 = heap_with_object P G τ b room H (object_fits P τ t len row is few)

      stands2 : (M2 : Meter) → M2.used ≡ M.used + words_of b → StandsFor P Ts S Q B mn args ws σ later M2.used w2
      stands2 M2 more = record {
        represents = represents_header P G w ws τ b (object_zero t len row) room heap2 s.stands.represents;
        own = let e = used_with G b τ in let o = s.stands.own in omega (arith, e, o, more);
        others = λ region ne. used_without G b τ region ne ∙ s.stands.others region ne;
      }

      typed2 : KeepsTypes τ later
      typed2 = new_keeps P G τ b room H

      at_new : type_at later place ≡ Some t
      at_new = type_of later place b (new_here P G τ b room H) ∙ ap Some (object_type t len row)

      some_place : (x : ℕ) × (place ≡ suc x)
      some_place = let p = room.past in by place p
        where
          by : (y : ℕ) → 1 < y → (x : ℕ) × (y ≡ suc x)
          by zero h = absurd (omega (arith, h))
          by (suc y) h = (y, refl)

    by_made : (v : Made) → MadeFine P Ts S B.region.size τ H v t row fs → MadeTie v fs hs → (room : HasWords G u (words_of b)) → next_direct P G X ≡ call.on_made v P place b fs M.turns later
        → Goal n (attempt.on_made v Q B b hs M w2 r)
    by_made Pushed fine tie room e =
        let p = some_place room in
        let same : place ≡ next_reference B.region M.used = ap (next_reference G) s.stands.own in
        let M2 = attempt.meter_with b M in
        subst (λ (x : ℕ). Goal n (On Open (resumed (Ref x ∷ []) hs) M2 w2 r)) same
        (k.on 0 (resumed (Ref place ∷ []) fs) (resumed (Ref place ∷ []) hs) later M2 w2 r e
        (record { reach = reaches_next P Ts S Q B mn args ws σ X _ s.reach e; stands = stands2 room M2 refl; agrees = s.agrees; typed = fine later (typed2 room) place (at_new room) (let q = room.past in omega (arith, q)) }) (tie place))
    by_made Raised fine tie room e =
        let p = some_place room in
        let same : place ≡ next_reference B.region M.used = ap (next_reference G) s.stands.own in
        let M2 = attempt.meter_after B b M in
        let kind : b.type ≡ t = object_type t len row in
        let thrown : M2.thrown ≡ Some (record { reference = suc p.0; type = t }) = ap (λ (x : ℕ). Some (record { reference = x; type = b.type })) (sym same ∙ p.1) ∙ ap (λ (y : ℕ). Some (record { reference = suc p.0; type = y })) kind in
        let other : nat_eq t 0 ≡ false = some_type t is in
        let e2 : next_direct P G X ≡ call.on_thrown P t (unwinds P (suc p.0) t fs) M2.turns later = e ∙ ap (λ (y : ℕ). call.on_thrown P y (unwinds P place y fs) M.turns later) kind ∙ ap (λ (x : ℕ). call.on_thrown P t (unwinds P x t fs) M.turns later) p.1 in
        let class : name_at P t ≡ Some row.name = ap (option_map (λ (x : Row). x.name)) is in
        let there : IsThrown P later (suc p.0) t = record { there = ap (type_at later) (sym p.1) ∙ at_new room; row = row; is = is; below = fine.0 } in
        let g = at_thrown n X k s.reach later M2 w2 r (stands2 room M2 refl) s.agrees p.0 t row.name class thrown (unwinds P (suc p.0) t fs) (unwinds Q (suc p.0) t hs) (tie p.0 t other) e2 (fine.1 later (typed2 room) (suc p.0) t there) in
        subst (λ (x : ℕ). Goal n (attempt.on_thrown B (unwinds Q x b.type hs) M2 w2 r)) (sym p.1 ∙ same) (subst (λ (y : ℕ). Goal n (attempt.on_thrown B (unwinds Q (suc p.0) y hs) M2 w2 r)) (sym kind) g)
      where
        some_type : (t : ℕ) → row_at P t ≡ Some row → nat_eq t 0 ≡ false
        some_type zero e = cc
        some_type (suc x) e = grind (arith, nat_tests)

    by_room : (v : Bool) → has_words G u (words_of b) ≡ v → MadeFine P Ts S B.region.size τ H made t row fs → MadeTie made fs hs → next_direct P G X ≡ call.makes v made P G b fs M.turns τ
        → ((x : Reply) → next_run Q B x d ≡ attempt.makes v x made Q B b hs M w r) → IsSynced P Q B mn args σ d → (wl : List Slot) → IsSet gives_type c slots wl → AboveCall Q first_added mn q wl hs → Goal (suc n) d
    by_room false lacks fine tie e step synced wl set above =
        let f : next_direct P G X ≡ call.Ended (Heap M.used (words_of b) G.size) τ = e ∙ ap (λ (x : ℕ). call.Ended (Heap x (words_of b) G.size) τ) s.stands.own in
        goal.steps n w r d _ s.on_way (stage_so_far X d τ M w r s) s.agrees step (k.ends 0 (Heap M.used (words_of b) G.size) τ _ f (out _ M r refl s.agrees))
    by_room true has fine tie e step synced wl set above =
        let same : place ≡ next_reference B.region M.used = ap (next_reference G) s.stands.own in
        goal.looks n wl hs M w r d (attempt.on_made made Q B b hs M w2 r) s.on_way synced set above (stage_so_far X d τ M w r s) s.agrees (step attempt.Refuses)
        (λ x. step (attempt.Gives x) ∙ ap (λ (y : ℕ). attempt.on_made made Q B b hs M (access y (header b) ∷ w) r) (sym same))
        (by_made made fine tie (words_there G u (words_of b) has) e)

    -- words are taken for an object, which is pushed or thrown
    pub at_make : MadeFine P Ts S B.region.size τ H made t row fs → MadeTie made fs hs → run_asks P X ≡ Asks (asking.Make t len made) fs → open_asks Q d ≡ Asks (asking.Make t len made) hs → used_in d ≡ M.used → next_direct P G X ≡ call.on_asking P G (asking.Make t len made) fs M.turns τ
        → ((x : Reply) → next_run Q B x d ≡ attempt.on_asking Q B (asking.Make t len made) Open x hs M w r) → (wl : List Slot) → IsSet gives_type c slots wl → AboveCall Q first_added mn q wl hs → Goal (suc n) d
    at_make fine tie asks_up asks_down same e step wl set above =
        let e2 : next_direct P G X ≡ call.makes (has_words G u (words_of b)) made P G b fs M.turns τ = e ∙ ap (λ (x : Option Row). call.made x t len made P G fs M.turns τ) is in
        let moved : row_at Q t ≡ Some row = row_moved P Q Ts R t ∙ is in
        let step2 : (x : Reply) → next_run Q B x d ≡ attempt.makes (has_words G u (words_of b)) x made Q B b hs M w r = λ x. step x ∙ ap (λ (y : Option Row). attempt.made y t len made x Q B hs M w r) moved ∙ ap (λ (y : ℕ). attempt.makes (has_words G y (words_of b)) x made Q B b hs M w r) (sym s.stands.own) in
        by_room (has_words G u (words_of b)) refl fine tie e2 step2 synced wl set above
      where
        synced : IsSynced P Q B mn args σ d
        synced t2 len2 made2 fs2 row2 asks is2 room =
            let f : asking.Make t len made ≡ asking.Make t2 len2 made2 = (let g = sym asks_down ∙ asks in cc) in
            record {
              steps = s.reach.0;
              frames = fs;
              state = τ;
              asks = ap (run_asks P) s.reach.1 ∙ asks_up ∙ ap (λ (x : _). Asks x fs) f;
              has = ap state_of s.reach.1 ∙ s.has;
              used_are = s.stands.own ∙ sym same;
            }

  -- ---- headers that are read

  -- what an instruction goes on with, it goes on with from a step later
  pub onward : (n : ℕ) (X Y : Direct) → next_direct P G X ≡ Y → Goes n X → Goes n Y
  onward n X Y e k = record {
    on = λ j fs gs τ M w r f here tie. k.on (suc j) fs gs τ M w r (ap (λ (y : Direct). direct P G (suc j) y) e ∙ f) here tie;
    ends = λ j x τ run f end. k.ends (suc j) x τ run (ap (λ (y : Direct). direct P G (suc j) y) e ∙ f) end;
  }

  module _ (n : ℕ) (X : Direct) (d : Run) (τ : State) (M : Meter) (w r : Log) (s : Stage X d τ M w r) (o : ℕ) (b : Object) (there : τ.objects o ≡ Some b) where
    abbrev typed_object : IsTyped P τ b
    typed_object = s.stands.represents.heap.typed o b there

    word_there : overlaid w ws o ≡ header b
    word_there = (s.stands.represents.laid o b there).header_lies

    -- an exception is thrown by its header's type
    pub at_raise : Goes n X → (fs hs : Frames) (x t : ℕ) → o ≡ suc x → IsThrown P τ o t → Throws P Ts S τ fs → ((y : ℕ) → nat_eq y 0 ≡ false → ThrownTo z (suc x) (unwinds P (suc x) y fs) (unwinds Q (suc x) y hs))
        → next_direct P G X ≡ call.on_asking P G (asking.Raise o) fs M.turns τ → ((v : Reply) → next_run Q B v d ≡ attempt.on_asking Q B (asking.Raise o) Open v hs M w r) → (wl : List Slot) → IsSet gives_type c slots wl → IsSynced P Q B mn args σ d → InsideCall Q first_added mn q wl hs → Goal (suc n) d
    at_raise k fs hs x t some thrown fine tie e step wl set synced inside =
        goal.reads n wl hs M w r d o (λ y l. attempt.throws (row_at Q (type_in y)) Q B o (type_in y) hs M w l) s.on_way synced set (above_inside Q first_added mn q wl hs inside) (stage_so_far X d τ M w r s) s.agrees (step attempt.Refuses) (λ y. step (attempt.Gives y))
        (λ y l gone. goal.stray_throws n wl (row_at Q (type_in y)) o (type_in y) hs M w l set inside gone) found
      where
        kind : b.type ≡ t
        kind = let f : Some b.type ≡ Some t = sym (type_of τ o b there) ∙ thrown.there in cc

        other : nat_eq t 0 ≡ false
        other = by t thrown.is
          where
            by : (t : ℕ) → row_at P t ≡ Some thrown.row → nat_eq t 0 ≡ false
            by zero e = cc
            by (suc y) e = grind (arith, nat_tests)

        found : (l : Log) → Agrees ws l → Goal n (attempt.throws (row_at Q (type_in (overlaid w ws o))) Q B o (type_in (overlaid w ws o)) hs M w l)
        found l agrees =
            let word : type_in (overlaid w ws o) ≡ t = ap type_in word_there ∙ header_type P τ b typed_object ∙ kind in
            let row : row_at Q t ≡ Some thrown.row = row_moved P Q Ts R t ∙ thrown.is in
            let e2 : next_direct P G X ≡ call.on_thrown P t (unwinds P (suc x) t fs) M.turns τ = e ∙ ap (λ (y : Option ℕ). call.on_raise y P o fs M.turns τ) thrown.there ∙ ap (λ (y : Option Row). call.throws y P o t fs M.turns τ) thrown.is
            ∙ ap (λ (y : ℕ). call.on_thrown P t (unwinds P y t fs) M.turns τ) some in
            let M2 = attempt.meter_thrown o t M in
            let there2 : IsThrown P τ (suc x) t = subst (λ (y : ℕ). IsThrown P τ y t) some thrown in
            let g = at_thrown n X k s.reach τ M2 w l (record { represents = s.stands.represents; own = s.stands.own; others = s.stands.others }) agrees x t thrown.row.name (ap (option_map (λ (y : Row). y.name)) thrown.is)
            (ap (λ (y : ℕ). Some (record { reference = y; type = t })) some) (unwinds P (suc x) t fs) (unwinds Q (suc x) t hs) (tie t other) e2 (fine τ (keeps_same τ) (suc x) t there2) in
            let g2 : Goal n (attempt.throws (Some thrown.row) Q B o t hs M w l) = subst (λ (y : ℕ). Goal n (attempt.on_thrown B (unwinds Q y t hs) M2 w l)) (sym some) g in
            subst (λ (y : ℕ). Goal n (attempt.throws (row_at Q y) Q B o y hs M w l)) (sym word) (subst (λ (y : Option Row). Goal n (attempt.throws y Q B o t hs M w l)) (sym row) g2)

    -- an instruction goes on by an object's header, and that of the duplicate by the same
    pub at_head : (u v : Use) (fs hs : Frames) → IsInnerUse Q first_added v → next_direct P G X ≡ call.on_asking P G (asking.Head o u) fs M.turns τ → ((x : Reply) → next_run Q B x d ≡ attempt.on_head x Q v o hs M w r)
        → (wl : List Slot) → IsSet gives_type c slots wl → IsSynced P Q B mn args σ d → InsideCall Q first_added mn q wl hs
        → ((l : Log) → Agrees ws l → next_direct P G X ≡ call.followed (told P u o b.type (length_of b) fs) M.turns τ → Goal n (attempt.followed (told Q v o b.type (length_of b) hs) M w l)) → Goal (suc n) d
    at_head u v fs hs inner_use e step wl set synced inside go =
        goal.reads n wl hs M w r d o (λ y l. attempt.followed (told Q v o (type_in y) (length_in y) hs) M w l) s.on_way synced set (above_inside Q first_added mn q wl hs inside) (stage_so_far X d τ M w r s) s.agrees (step attempt.Refuses) (λ y. step (attempt.Gives y))
        (λ y l gone. goal.stray_follows n wl (told Q v o (type_in y) (length_in y) hs) M w l set (told_inner Q first_added ops_inner mn q z uncounted catch catch_other wl v inner_use o (type_in y) (length_in y) hs inside) gone) found
      where
        found : (l : Log) → Agrees ws l → Goal n (attempt.followed (told Q v o (type_in (overlaid w ws o)) (length_in (overlaid w ws o)) hs) M w l)
        found l agrees =
            let kind : type_in (overlaid w ws o) ≡ b.type = ap type_in word_there ∙ header_type P τ b typed_object in
            let len : length_in (overlaid w ws o) ≡ length_of b = ap length_in word_there ∙ header_length P τ b typed_object in
            let e2 : next_direct P G X ≡ call.followed (told P u o b.type (length_of b) fs) M.turns τ = e ∙ ap (λ (y : Option Object). call.headed y P u o fs M.turns τ) there in
            subst (λ (y : ℕ). Goal n (attempt.followed (told Q v o y (length_in (overlaid w ws o)) hs) M w l)) (sym kind) (subst (λ (y : ℕ). Goal n (attempt.followed (told Q v o b.type y hs) M w l)) (sym len) (go l agrees e2))

  -- ---- instructions for which one stands

  module _ (high : (m : ℕ) → first_added ≤ duplicate P m) (n : ℕ) (m pc dn : ℕ) (k : Method) (T : Table) (l l' s : List Slot) (fs gs : Frames) (t : Tied P Ts S m dn k T) (here : Stands k T pc l l') (callers : Calls k.result fs gs) where
    abbrev xs : List Typed
    xs = typed_code P Ts S k T

    abbrev a : ℕ
    a = block_at xs pc

    abbrev ups : List Slot → Frames
    ups s = frame m pc l s ∷ fs

    abbrev downs : List Slot → Frames
    downs s = frame dn a l' s ∷ gs

    added_dup : first_added ≤ dn
    added_dup = subst (λ (i : ℕ). first_added ≤ i) (sym t.dup) (high m)

    above : (wl : List Slot) × IsSet gives_type c slots wl × AboveCall Q first_added mn q wl gs
    above = callers_above P Ts S mn q gives_type c slots Q R uncounted first_added high k.result fs gs callers

    module _ (o : Op) (e : slice_get k.ops pc ≡ Some o) where
      typed_o : slice_get xs pc ≡ Some (record { op = o; types = types_at T pc })
      typed_o = let z : 0 + pc ≡ pc = omega arith in typed_at 0 T k.ops pc o e ∙ ap (λ (i : ℕ). Some (record { op = o; types = types_at T i })) z

      -- an exception from inside the block
      pub throws_on : (b : ℕ) → a ≤ b → b < a + block_len_of (types_at T pc) o → (s2 s3 : List Slot) (x y : ℕ) → nat_eq y 0 ≡ false → ThrownTo z (suc x) (unwinds P (suc x) y (ups s2)) (unwinds Q (suc x) y (frame dn b l' s3 ∷ gs))
      throws_on b low above s2 s3 x y other = thrown_from P Ts S mn q gives_type c slots Q R uncounted z catch_other (suc x) y other m pc dn b k T l l' s2 s3 fs gs t o e low above here callers
          (thrown_callers P Ts S mn q gives_type c slots Q R uncounted z catch_other (suc x) y other k.result fs gs callers)

      -- the next place, behind the block
      pub next_tie : (l2 l2' s2 : List Slot) → Stands k T (pc + 1) l2 l2' → Tie (frame m (pc + 1) l2 s2 ∷ fs) (frame dn (a + block_len_of (types_at T pc) o) l2' s2 ∷ gs)
      next_tie l2 l2' s2 st =
          let f : block_at xs (pc + 1) ≡ a + block_len_of (types_at T pc) o = next_block xs pc _ typed_o in
          subst (λ (i : ℕ). Tie (frame m (pc + 1) l2 s2 ∷ fs) (frame dn i l2' s2 ∷ gs)) f (top m (pc + 1) dn k T l2 l2' s2 fs gs t st callers)

    module _ (τ : State) (M : Meter) (w r : Log) (hr : IsHere (ups s) τ M w r) (kk : Goes n (call.On (ups s) M.turns τ)) where
      abbrev X : Direct
      X = call.On (ups s) M.turns τ

      abbrev d : Run
      d = On Open (downs s) M w r

      abbrev stage : Stage X d τ M w r
      stage = record { reach = hr.reach; has = refl; on_way = (refl, refl); stands = hr.stands; agrees = hr.agrees }

      abbrev heap : IsHeap P B.region.size τ
      heap = hr.stands.represents.heap

      abbrev IsFineAsk : Asked → Type 0
      IsFineAsk = AsksFine P Ts S B.region.size τ heap

      module _ (o : Op) (e : slice_get k.ops pc ≡ Some o) (one : block_len_of (types_at T pc) o ≡ 1) where
        next_one : (l2 l2' s2 : List Slot) → Stands k T (pc + 1) l2 l2' → Tie (frame m (pc + 1) l2 s2 ∷ fs) (frame dn (a + 1) l2' s2 ∷ gs)
        next_one l2 l2' s2 st = subst (λ (i : ℕ). Tie (frame m (pc + 1) l2 s2 ∷ fs) (frame dn (a + i) l2' s2 ∷ gs)) one (next_tie o e l2 l2' s2 st)

        throws_one : (s2 s3 : List Slot) (x y : ℕ) → nat_eq y 0 ≡ false → ThrownTo z (suc x) (unwinds P (suc x) y (ups s2)) (unwinds Q (suc x) y (downs s3))
        throws_one s2 s3 = throws_on o e a (omega arith) (omega (arith, one)) s2 s3

        made_served : (Y : Direct) (c0 : Run) (st : Stage Y c0 τ M w r) (ky : Goes n Y) (ty len : ℕ) (made : Made) (s2 s3 : List Slot) → MakesFine P Ts S B.region.size τ st.stands.represents.heap ty len made (ups s2) → MadeTie made (ups s2) (downs s3)
            → run_asks P Y ≡ Asks (asking.Make ty len made) (ups s2) → open_asks Q c0 ≡ Asks (asking.Make ty len made) (downs s3) → used_in c0 ≡ M.used → next_direct P G Y ≡ call.on_asking P G (asking.Make ty len made) (ups s2) M.turns τ → ((v : Reply) → next_run Q B v c0 ≡ attempt.on_asking Q B (asking.Make ty len made) Open v (downs s3) M w r) → Goal (suc n) c0
        made_served Y c0 st ky ty len made s2 s3 fine tie up down same eP eQ =
            at_make n Y c0 τ M w r st ky ty len made (ups s2) (downs s3) fine.row fine.is fine.few fine.goes tie up down same eP eQ above.0 above.1 (inner (frame dn a l' s3) gs added_dup above.2)

        -- what a cast, a test or an array's length goes on with
        told_served : (u : Use) → IsSimpleUse u → (x : ℕ) (bo : Object) (s2 : List Slot) → τ.objects x ≡ Some bo → Stands k T (pc + 1) l l' → Fine P Ts S B.region.size τ heap (Heads P Ts S B.region.size τ heap (NoHeads P Ts S B.region.size τ heap)) (told P u x bo.type (length_of bo) (ups s2))
            → (rl : Log) → Agrees ws rl → next_direct P G X ≡ call.followed (told P u x bo.type (length_of bo) (ups s2)) M.turns τ → Goal n (attempt.followed (told Q u x bo.type (length_of bo) (downs s2)) M w rl)
        told_served (Casts c0) simple x bo s2 there st fine rl agrees f =
            subst (λ (v : Bool). Goal n (attempt.followed (or_trap v ClassCast (downs s2) (Asks asking.Go (advanced (downs s2)))) M w rl)) (sym (instance_moved P Q Ts R bo.type c0)) (by (is_instance P bo.type c0) fine f)
          where
            by : (v : Bool) → Fine P Ts S B.region.size τ heap (Heads P Ts S B.region.size τ heap (NoHeads P Ts S B.region.size τ heap)) (or_trap v ClassCast (ups s2) (Asks asking.Go (advanced (ups s2))))
                → next_direct P G X ≡ call.followed (or_trap v ClassCast (ups s2) (Asks asking.Go (advanced (ups s2)))) M.turns τ → Goal n (attempt.followed (or_trap v ClassCast (downs s2) (Asks asking.Go (advanced (downs s2)))) M w rl)
            by true fine f = kk.on 0 _ _ τ M w rl f (record { reach = reaches_next P Ts S Q B mn args ws σ X _ hr.reach f; stands = hr.stands; agrees = agrees; typed = fine }) (next_one l l' s2 st)
            by false fine f =
                let Y = call.Asking (asking.Make (trap_type ClassCast) 0 Raised) (ups s2) M.turns τ in
                let st2 : Stage Y (Asking (asking.Make (trap_type ClassCast) 0 Raised) (downs s2) M w rl) τ M w rl = record { reach = reaches_next P Ts S Q B mn args ws σ X _ hr.reach f; has = refl; on_way = (refl, refl); stands = hr.stands; agrees = agrees } in
                goal.more n _ (at_make n Y _ τ M w rl st2 (onward n X Y f kk) (trap_type ClassCast) 0 Raised (ups s2) (downs s2) fine.row fine.is fine.few fine.goes (throws_one s2 s2) refl refl refl refl (λ v. refl) above.0 above.1 (inner (frame dn a l' s2) gs added_dup above.2))
        told_served (Tests c0) simple x bo s2 there st fine rl agrees f =
            subst (λ (v : Bool). Goal n (On Open (resumed (truth v ∷ []) (downs s2)) M w rl)) (sym (instance_moved P Q Ts R bo.type c0))
            (kk.on 0 _ _ τ M w rl f (record { reach = reaches_next P Ts S Q B mn args ws σ X _ hr.reach f; stands = hr.stands; agrees = agrees; typed = fine }) (next_one l l' _ st))
        told_served Measures simple x bo s2 there st fine rl agrees f =
            kk.on 0 _ _ τ M w rl f (record { reach = reaches_next P Ts S Q B mn args ws σ X _ hr.reach f; stands = hr.stands; agrees = agrees; typed = fine }) (next_one l l' _ st)
        told_served u simple x bo s2 there st fine rl agrees f = absurd simple

        jump_same : (to : ℕ) → Stands k T to l l' → (is_counted Q dn && nat_le (block_at xs to) a) ≡ (is_counted P m && nat_le to pc)
        jump_same to st =
            let many = typed_length 0 T k.ops in
            let inside : to ≤ length xs = let i = st.inside in omega (arith, i, many) in
            let turn = same_le xs pc a _ (typed_o o e) (omega arith) (omega (arith, one)) to inside in
            rw (counted_of P Ts S m k t.is, counted_dup P Ts S mn q gives_type c slots Q R uncounted m dn k T t, turn) refl

        given_by : (g : Option VType) → (v : Option Value) → IsGivenAs g v → (fs2 gs2 : Frames) → Calls g fs2 gs2 → next_direct P G X ≡ on_asked P G (gives v fs2) M.turns τ → ((x : Reply) → next_run Q B x d ≡ attempt.on_asked Q B (gives v gs2) Open x M w r) → IsFineAsk (gives v fs2) → Goal (suc n) d
        given_by g v ok fs2 gs2 (bottom wl j set) eP eQ fine = goal.steps n w r d _ (refl, refl) (stage_so_far X d τ M w r stage) hr.agrees eQ (kk.ends 0 (Returned v) τ _ eP (back v wl j M w r set ok hr.stands hr.agrees))
        given_by g v ok fs2 gs2 (caller g1 m1 pc1 dn1 k1 T1 l1 l1' s1 fs1 gs1 t1 o1 e1 is_call st1 after1 up1) eP eQ fine = by v eP eQ fine
          where
            xs1 : List Typed
            xs1 = typed_code P Ts S k1 T1

            behind : block_at xs1 (pc1 + 1) ≡ block_at xs1 pc1 + 1 + 1
            behind =
                let z : 0 + pc1 ≡ pc1 = omega arith in
                let at1 : slice_get xs1 pc1 ≡ Some (record { op = o1; types = types_at T1 pc1 }) = typed_at 0 T1 k1.ops pc1 o1 e1 ∙ ap (λ (i : ℕ). Some (record { op = o1; types = types_at T1 i })) z in
                let f = next_block xs1 pc1 _ at1 in
                let two = call_len (types_at T1 pc1) o1 is_call in
                omega (arith, f, two)

            tie : (s2 : List Slot) → Tie (frame m1 (pc1 + 1) l1 s2 ∷ fs1) (frame dn1 (block_at xs1 pc1 + 1 + 1) l1' s2 ∷ gs1)
            tie s2 = subst (λ (i : ℕ). Tie (frame m1 (pc1 + 1) l1 s2 ∷ fs1) (frame dn1 i l1' s2 ∷ gs1)) behind (top m1 (pc1 + 1) dn1 k1 T1 l1 l1' s2 fs1 gs1 t1 after1 up1)

            by : (v : Option Value) → next_direct P G X ≡ call.On (next (received v (frame m1 pc1 l1 s1)) ∷ fs1) M.turns τ → ((x : Reply) → next_run Q B x d ≡ On Open (next (received v (frame dn1 (block_at xs1 pc1 + 1) l1' s1)) ∷ gs1) M w r) → AreTyped P Ts S τ (next (received v (frame m1 pc1 l1 s1)) ∷ fs1) → Goal (suc n) d
            by None eP eQ fine = at_frames n X d τ M w r stage kk _ _ eP eQ fine (tie s1)
            by (Some y) eP eQ fine = at_frames n X d τ M w r stage kk _ _ eP eQ fine (tie (pushed y s1))

        pub serves : (dP dQ : Did) → Alike k T m pc dn a (block_at xs) l l' dP dQ → step P (ups s) ≡ on_did P dP fs → step Q (downs s) ≡ on_did Q dQ gs → next_direct P G X ≡ on_asked P G (on_did P dP fs) M.turns τ → ((v : Reply) → next_run Q B v d ≡ attempt.on_asked Q B (on_did Q dQ gs) Open v M w r)
            → IsFineAsk (on_did P dP fs) → Goal (suc n) d
        serves dP dQ neither up down eP eQ fine = absurd fine
        serves dP dQ (goes l2 l2' s2 st) up down eP eQ fine = at_frames n X d τ M w r stage kk _ _ eP eQ fine (next_one l2 l2' s2 st)
        serves dP dQ (jumps to s2 st) up down eP eQ fine = jumped_by (is_counted P m && nat_le to pc) eP (λ v. eQ v ∙ ap (λ (b : Bool). attempt.on_asked Q B (goes_to b (frame dn (block_at xs to) l' s2 ∷ gs)) Open v M w r) (jump_same to st)) fine
          where
            jumped_by : (b : Bool) → next_direct P G X ≡ on_asked P G (goes_to b (frame m to l s2 ∷ fs)) M.turns τ → ((v : Reply) → next_run Q B v d ≡ attempt.on_asked Q B (goes_to b (frame dn (block_at xs to) l' s2 ∷ gs)) Open v M w r) → IsFineAsk (goes_to b (frame m to l s2 ∷ fs)) → Goal (suc n) d
            jumped_by true eP eQ fine = at_turn n X d τ M w r stage kk _ _ eP eQ fine (top m to dn k T l l' s2 fs gs t st callers)
            jumped_by false eP eQ fine = at_frames n X d τ M w r stage kk _ _ eP eQ fine (top m to dn k T l l' s2 fs gs t st callers)
        serves dP dQ (gives_as v s2 ok) up down eP eQ fine = given_by k.result v ok fs gs callers eP eQ fine
        serves dP dQ (traps x s2) up down eP eQ fine = made_served X d stage kk (trap_type x) 0 Raised s2 s2 fine (throws_one s2 s2) up down refl eP eQ
        serves dP dQ (makes ty len s2 st) up down eP eQ fine = made_served X d stage kk ty len Pushed s2 s2 fine (λ o2. next_one l l' (Ref o2 ∷ s2) st) up down refl eP eQ
        serves dP dQ (raises x s2) up down eP eQ fine =
            let bo = object_at τ x fine.type fine.thrown.there in
            let some : (y : ℕ) × (x ≡ suc y) = let i = (heap.regions x bo.0 bo.1).there in suc_of x i in
            at_raise n X d τ M w r stage x bo.0 bo.1 kk (ups s2) (downs s2) some.0 fine.type some.1 fine.thrown fine.throws (throws_one s2 s2 some.0) eP eQ above.0 above.1 (raises_synced P Q B mn args σ d x (downs s2) down) (added_dup, above.2)
          where
            suc_of : (x : ℕ) → 1 < x → (y : ℕ) × (x ≡ suc y)
            suc_of zero h = absurd (omega (arith, h))
            suc_of (suc y) h = (y, refl)
        serves dP dQ (heads x u s2 simple st) up down eP eQ fine =
            at_head n X d τ M w r stage x fine.object fine.there u u (ups s2) (downs s2) (inner_use u simple) eP (λ v. eQ v ∙ plain u simple v) above.0 above.1 (heads_synced P Q B mn args σ d x u (downs s2) down) (added_dup, above.2)
            (λ rl agrees f. told_served u simple x fine.object s2 fine.there st fine.goes rl agrees f)
          where
            inner_use : (u : Use) → IsSimpleUse u → IsInnerUse Q first_added u
            inner_use (Casts c0) i = tt
            inner_use (Tests c0) i = tt
            inner_use Measures i = tt
            inner_use u i = absurd i

            plain : (u : Use) → IsSimpleUse u → (v : Reply) → attempt.heads v Q u x (downs s2) M w r ≡ attempt.on_head v Q u x (downs s2) M w r
            plain (Casts c0) i v = refl
            plain (Tests c0) i v = refl
            plain Measures i v = refl
            plain u i v = absurd i
