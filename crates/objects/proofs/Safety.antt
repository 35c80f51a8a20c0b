-- A call of a program each of whose methods has a typing is never stuck over a heap of typed objects, and keeps it so.
use Rattle.std.proofs.Common.{◌≡◌, ℕ, zero, suc, ◌<◌, List, [], ◌∷◌, Option, Some, None, Bool, true, false, refl, sym, ap, subst, ◌∙◌, arith}
use Rattle.std.specs.Prelude.{slice_get, option_map}
use Rattle.std.specs.List.{flat_map}
use Rattle.jmodel.specs.declared.value.Value.{Value}
use Rattle.objects.specs.declared.op.Slot.{Slot}
use Rattle.objects.specs.declared.op.Op.{Op}
use Rattle.objects.specs.declared.op.Made.{Made}
use Rattle.objects.specs.declared.op.Made.TheVariants.{Pushed, Raised}
use Rattle.objects.specs.declared.op.Dispatch.{Dispatch}
use Rattle.objects.specs.declared.op.Dispatch.TheVariants as dispatch
use Rattle.objects.specs.declared.op.Request.TheVariants as request
use Rattle.objects.specs.declared.op.Asking.TheVariants as asking
use Rattle.objects.specs.semantics.Value.{slots_of}
use Rattle.objects.specs.semantics.Program.{Row, Method, Program, has_code, op_at, method_at, row_at, name_at}
use Rattle.objects.specs.semantics.Region.{Region, next_reference, has_words}
use Rattle.objects.specs.semantics.State.{Object, State, type_at, put, words_of, length_of, with_object, object_of}
use Rattle.objects.specs.history.Meaning.{IsHeap}
use Rattle.objects.specs.semantics.Step.{Frames, Asked, Asks, Fails, started, acts, step, told}
use Rattle.objects.specs.semantics.Call.{Direct, On, Asking, Ended, Stuck, next_direct, direct, call_start, turned, followed, on_asked, on_made}
use Rattle.objects.specs.semantics.Call as call
use Rattle.objects.specs.typing.Source.{IsSourceOp, IsSourceMethod, HasObject, AreArguments}
use Rattle.objects.specs.typing.Typing.{types_at, Types, Table, flow, first_locals, is_constructor, KeepsAt}
use Rattle.objects.specs.laws.TypingLaw.{HasTyping, IsTypedProgram, IsSafe, TypedSafety}
use Rattle.objects.proofs.Fields.{each_at}
use Rattle.objects.proofs.Frames.{frame}
use Rattle.objects.proofs.Heap.{type_of, held_at, put_keeps, HasWords, words_there, new_keeps, new_here, heap_with_object, object_type, object_fits}
use Rattle.objects.proofs.SlotTypes.{HaveTypes, argument_slots}
use Rattle.objects.proofs.TypedFrames.{keeps_same, lets, caught_before, AllWait, AreTyped, frames_kept, ThrownFine, starts_typed, handles_at, MadeFine, RaisesFine, AsksFine, last_fine}
use Rattle.objects.proofs.Typed.{op_fine}

module _ (P : Program) (Ts : List Table) (S : IsTypedProgram P Ts) where
  module _ (size : ℕ) (σ : State) (H : IsHeap P size σ) where
    acts_fine : (m pc : ℕ) (k : Method) (code : method_at P m ≡ Some k) (typing : HasTyping P Ts m k) (o : Option Op) (h : Types) (l s : List Slot) (fs : Frames) → types_at typing.table pc ≡ Some h → HaveTypes P k σ h.locals l → HaveTypes P k σ h.stack s → slice_get k.ops pc ≡ o → KeepsAt P k typing.table pc h o
        → AllWait P Ts S σ k.result fs → AsksFine P Ts S size σ H (acts P o (frame m pc l s) fs)
    acts_fine m pc k code typing None h l s fs there hl hs is e w = absurd e
    acts_fine m pc k code typing (Some o) h l s fs there hl hs is e w =
        let src = each_at (IsSourceOp P k) k.ops pc o (each_at (IsSourceMethod P) P.methods m k S.source.methods code).each is in
        op_fine P Ts S size σ H m pc k code typing fs w h there l hl (handles_at P Ts S m k code typing σ pc h.locals h.built l [] hl (caught_before P k typing.table pc h (flow P k pc o h) e)) o is src s hs (lets P k typing.table pc h (flow P k pc o h) e)

    pub step_fine : (fs : Frames) → AreTyped P Ts S σ fs → AsksFine P Ts S size σ H (step P fs)
    step_fine [] h = absurd h
    step_fine (f ∷ fs) (k, t, w) =
        let op : op_at P f.method f.pc ≡ slice_get k.ops f.pc = let c = t.code in rw c refl in
        rw op (acts_fine f.method f.pc k t.code t.typing (slice_get k.ops f.pc) t.types f.locals f.stack fs t.there t.locals t.stack refl (t.typing.typing.each f.pc t.types t.there).keeps w)

  -- a run whose frames and heap are typed
  abbrev pub IsFine : ℕ → Direct → Type 0
  IsFine size (On fs k σ) = AreTyped P Ts S σ fs × IsHeap P size σ
  IsFine size (Asking a fs k σ) = (H : IsHeap P size σ) × AsksFine P Ts S size σ H (Asks a fs)
  IsFine size (Ended x σ) = IsHeap P size σ
  IsFine size Stuck = ⊥

  module _ (G : Region) (σ : State) (H : IsHeap P G.size σ) where
    turned_fine : (fs : Frames) (k : ℕ) → AreTyped P Ts S σ fs → IsFine G.size (turned fs k σ)
    turned_fine fs zero h = H
    turned_fine fs (suc k) h = (h, H)

    entered_ends : (deep : Bool) (fs : Frames) (k : ℕ) → AreTyped P Ts S σ fs → IsFine G.size (call.entered deep fs k σ)
    entered_ends deep fs zero h = H
    entered_ends true fs (suc k) h = H
    entered_ends false fs (suc k) h = (h, H)

    named_ends : (t : ℕ) (r : Row) → row_at P t ≡ Some r → IsFine G.size (call.threw_of (name_at P t) σ)
    named_ends t r is = let e : name_at P t ≡ Some r.name = ap (option_map (λ (r : Row). r.name)) is in rw e H

    thrown_ends : (t : ℕ) (r : Row) → row_at P t ≡ Some r → (a : Asked) (k : ℕ) → ThrownFine P Ts S σ a → IsFine G.size (call.on_thrown P t a k σ)
    thrown_ends t r is (Asks asking.Go fs) k h = (h, H)
    thrown_ends t r is (Asks asking.Turn fs) k h = turned_fine fs k h
    thrown_ends t r is (Asks (asking.Throw o) fs) k h = named_ends t r is
    thrown_ends t r is a k h = absurd h

  -- a new object
  module _ (G : Region) (σ : State) (H : IsHeap P G.size σ) (t n : ℕ) (r : Row) (is : row_at P t ≡ Some r) (few : n < 2147483648) where
    abbrev new : Object
    new = object_of t n r

    abbrev at : ℕ
    at = next_reference G (σ.used G.number)

    abbrev τ : State
    τ = with_object G new σ

    module _ (room : HasWords G (σ.used G.number) (words_of new)) where
      heap : IsHeap P G.size τ
      heap = heap_with_object P G σ new room H (object_fits P σ t n r is few)

      there : type_at τ at ≡ Some new.type
      there = type_of τ at new (new_here P G σ new room H)

      made_fine : (made : Made) (fs : Frames) (k : ℕ) → MadeFine P Ts S G.size σ H made t r fs → IsFine G.size (on_made made P at new fs k τ)
      made_fine Pushed fs k h = let past = room.past in (h τ (new_keeps P G σ new room H) at (there ∙ ap (λ (t : ℕ). Some t) (object_type t n r)) (omega (arith, past)), heap)
      made_fine Raised fs k h =
          let row : row_at P new.type ≡ Some r = ap (row_at P) (object_type t n r) ∙ is in
          thrown_ends G τ heap new.type r row _ k (h.1 τ (new_keeps P G σ new room H) at new.type (record { there = there; row = r; is = row; below = h.0 }))

    makes_ends : (b : Bool) (made : Made) (fs : Frames) (k : ℕ) → has_words G (σ.used G.number) (words_of new) ≡ b → MadeFine P Ts S G.size σ H made t r fs → IsFine G.size (call.makes b made P G new fs k σ)
    makes_ends false made fs k room h = H
    makes_ends true made fs k room h = made_fine (words_there G (σ.used G.number) (words_of new) room) made fs k h

  module _ (G : Region) (σ : State) (H : IsHeap P G.size σ) where
    raises_ends : (o : ℕ) (fs : Frames) (k : ℕ) → RaisesFine P Ts S G.size σ H o fs → IsFine G.size (call.on_raise (type_at σ o) P o fs k σ)
    raises_ends o fs k h =
        let there = h.thrown.there in
        let is = h.thrown.is in
        rw (there, is) (thrown_ends G σ H h.type h.thrown.row h.thrown.is _ k (h.throws σ (keeps_same σ) o h.type h.thrown))

    followed_fine : (a : Asked) (k : ℕ) → AsksFine P Ts S G.size σ H a → IsFine G.size (followed a k σ)
    followed_fine Fails k h = absurd h
    followed_fine (Asks asking.Go fs) k h = (h, H)
    followed_fine (Asks a fs) k h = (H, h)

    asked_fine : (a : Asked) (k : ℕ) → AsksFine P Ts S G.size σ H a → IsFine G.size (on_asked P G a k σ)
    asked_fine Fails k h = absurd h
    asked_fine (Asks asking.Go fs) k h = (h, H)
    asked_fine (Asks asking.Turn fs) k h = turned_fine G σ H fs k h
    asked_fine (Asks (asking.Enter deep) fs) k h = entered_ends G σ H deep fs k h
    asked_fine (Asks (asking.Return v) fs) k h = H
    asked_fine (Asks (asking.Throw o) fs) k h = absurd h
    asked_fine (Asks (asking.Raise o) fs) k h = raises_ends o fs k h
    asked_fine (Asks (asking.Make t n made) fs) k h = let is = h.is in rw is (makes_ends G σ H t n h.row h.is h.few _ made fs k refl h.goes)
    asked_fine (Asks (asking.Head o u) fs) k h =
        let there = h.there in
        rw there (followed_fine (told P u o h.object.type (length_of h.object) fs) k (last_fine P Ts S G.size σ H _ h.goes))
    asked_fine (Asks (asking.Ask (request.Get p)) fs) k h = let held = h.held in rw held (h.goes, H)
    asked_fine (Asks (asking.Ask (request.Put p v)) fs) k h =
        let held = h.held in
        rw held (frames_kept P Ts S σ (put σ p v) (put_keeps σ p v h.old (held_at σ p h.old h.held)) _ h.goes, h.heap)
    asked_fine (Asks (asking.Ask r) fs) k h = absurd h

  pub next_fine : (G : Region) (c : Direct) → IsFine G.size c → IsFine G.size (next_direct P G c)
  next_fine G (On fs k σ) h = asked_fine G σ h.1 (step P fs) k (step_fine G.size σ h.1 fs h.0)
  next_fine G (Asking a fs k σ) h = asked_fine G σ h.0 (Asks a fs) k h.1
  next_fine G (Ended x σ) h = h
  next_fine G Stuck h = absurd h

  pub run_fine : (G : Region) (n : ℕ) (c : Direct) → IsFine G.size c → IsFine G.size (direct P G n c)
  run_fine G zero c h = h
  run_fine G (suc n) c h = run_fine G n (next_direct P G c) (next_fine G c h)

  -- a call from outside
  pub call_fine : (G : Region) (budget m : ℕ) (k : Method) → slice_get P.methods m ≡ Some k → k.dispatch ≡ dispatch.Static → has_code (Some k) ≡ true → (args : List Value) → AreArguments k.parameters args → (σ : State) → IsHeap P G.size σ → IsFine G.size (call_start P m args budget σ)
  call_fine G budget m k there static code args fit σ H =
      let src = each_at (IsSourceMethod P) P.methods m k S.source.methods there in
      let plain : is_constructor k ≡ false = subst (λ (y : Dispatch). HasObject P y k) static src.object in
      let slots : HaveTypes P k σ (first_locals (is_constructor k) k.parameters) (flat_map slots_of args) = subst (λ (b : Bool). HaveTypes P k σ (first_locals b k.parameters) (flat_map slots_of args)) (sym plain) (argument_slots P S.source.types k σ k.parameters args fit) in
      let typing = S.typed m k there code in
      rw there (turned_fine G σ H (started m k (flat_map slots_of args) ∷ []) budget (k, starts_typed P Ts S σ m k (flat_map slots_of args) there typing slots, tt))

pub safe : (P : Program) (Ts : List Table) (S : IsTypedProgram P Ts) (size : ℕ) (d : Direct) → IsFine P Ts S size d → IsSafe P size d
safe P Ts S size (On fs k σ) h = h.1
safe P Ts S size (Asking a fs k σ) h = h.0
safe P Ts S size (Ended x σ) h = h
safe P Ts S size Stuck h = h

pub safety : TypedSafety
safety P Ts S budget m G k there static code args fit σ H n = safe P Ts S G.size _ (run_fine P Ts S G n _ (call_fine P Ts S G budget m k there static code args fit σ H))
