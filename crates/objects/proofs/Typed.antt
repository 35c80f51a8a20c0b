-- An instruction of typed code finds what it takes, and leaves what the types say.
use Rattle.std.proofs.Common.{◌≡◌, ◌≢◌, ℕ, ℤ, zero, suc, ◌+◌, ◌-◌, ◌<◌, ◌^◌, List, [], ◌∷◌, ◌++◌, length, reverse, Option, Some, None, Bool, true, false, refl, sym, ap, subst, ◌∙◌, arith, lit<, ◌⊎◌, inl, inr, ⊎_elim}
use Rattle.std.specs.Prelude.{pos, negsuc, slice_get, slice_set, nat_eq, nat_lt, nat_le, ◌&&◌, ◌||◌, replicate, not, is_some, option_and_then, FitsSigned, if◌then◌else◌, bytes_eq, position}
use Rattle.std.specs.Ordering.{int_eq}
use Rattle.std.specs.Int.{w32, w64}
use Rattle.std.specs.List.{list_any}
use Rattle.std.proofs.lemmas.List.{reverse-reverse, length-reverse, length-set}
use Rattle.std.proofs.lemmas.Option.{none-some, same_Some}
use Rattle.std.proofs.lemmas.Bool.Decides.{nat_tests}
use Rattle.std.proofs.lemmas.Slice.Eq.{bytes_eq-Decides}
use mathlib.Core.List.{reverse_aux}
use Rattle.jmodel.specs.declared.value.Value.{Value}
use Rattle.jmodel.specs.declared.value.Value.TheVariants as value
use Rattle.jmodel.specs.declared.typing.VType.{VType}
use Rattle.jmodel.specs.declared.typing.VType.TheVariants.{Int, Long, Second, Null, Ref, Uninit, UninitThis, Top}
use Rattle.objects.specs.declared.op.Slot.{Slot}
use Rattle.objects.specs.declared.op.Slot.TheVariants as slot
use Rattle.objects.specs.declared.op.Sort.{Sort}
use Rattle.objects.specs.declared.op.Sort.TheVariants as sort
use Rattle.objects.specs.declared.op.Width.{Width}
use Rattle.objects.specs.declared.op.Width.TheVariants as width
use Rattle.objects.specs.declared.op.WordType.{WordType}
use Rattle.objects.specs.declared.op.WordType.TheVariants as word
use Rattle.objects.specs.declared.op.Op.{Op}
use Rattle.objects.specs.declared.op.Op.TheVariants as op
use Rattle.objects.specs.declared.op.Division.{Division}
use Rattle.objects.specs.declared.op.Conversion.{Conversion}
use Rattle.objects.specs.declared.op.Conversion.TheVariants.{IntToByte, IntToChar, IntToShort, IntToLong, LongToInt}
use Rattle.objects.specs.declared.op.StackOp.{StackOp}
use Rattle.objects.specs.declared.op.StackOp.TheVariants.{Nop, Pop, Pop2, Dup, DupX1, DupX2, Dup2, Dup2X1, Dup2X2, Swap}
use Rattle.objects.specs.declared.op.Dispatch.{Dispatch}
use Rattle.objects.specs.declared.op.Dispatch.TheVariants as dispatch
use Rattle.objects.specs.declared.op.Place.{Place}
use Rattle.objects.specs.declared.op.Trap.{Trap}
use Rattle.objects.specs.declared.op.Trap.TheVariants.{Arithmetic, NullPointer, ArrayIndex, ArrayStore, NegativeArraySize, ClassCast, AbstractMethod, IncompatibleClassChange}
use Rattle.objects.specs.declared.op.Use.{Use}
use Rattle.objects.specs.declared.op.Use.TheVariants.{Selects, Implements, Casts, Tests, Measures, Indexes}
use Rattle.objects.specs.declared.op.Element.{Element}
use Rattle.objects.specs.declared.op.Element.TheVariants as element
use Rattle.objects.specs.declared.op.Request.TheVariants as request
use Rattle.objects.specs.declared.op.Doing.TheVariants as doing
use Rattle.objects.specs.declared.op.Asking.TheVariants as asking
use Rattle.objects.specs.semantics.WordTypes.{narrowed}
use Rattle.objects.specs.semantics.Value.{pushed, kept_by}
use Rattle.objects.specs.semantics.Program.{Declared, Holds, Words, Elements, Row, Field, Method, Program, method_at, field_at, row_at, is_instance, is_counted, is_counted_in, has_code, is_code, is_selectable, overrides, first_in, or_else, lineage_in, runnable, selected, selected_by}
use Rattle.objects.specs.typing.TypeOrder.{object_class, throwable_class, string_class, is_array, element_class, name_read, stack_types, is_within, IsWithin}
use Rattle.objects.specs.semantics.State.{Object, State, value_held, type_at, put, length_of}
use Rattle.objects.specs.history.Meaning.{IsObjectOf, IsReferenceTo, IsValueOf, IsHeld, IsTyped, IsHolding, HasBase, IsFieldHeld, IsHeap}
use Rattle.objects.specs.semantics.Step.{Frame, Frames, Did, Does, Asked, Asks, at, next, received, does, on_top, on_int, on_ref, on_long, on_number, on_value, on_word, int_in, ref_in, long_in, second_in, object_in, slot_in, number_in, field_in, static_in, method_in, inner, sort_of, not_null, if_object, throws, receiver, over_object, runs, sized, holds, same, switched, shift_distance, numbered, converted, divides, branches, loads, stores, set_local, set_long, rearranged, without, Took, take_args, goes, enters, invokes, trapped, found, gives, on_did, truth, or_trap, enters_found, stored, kept_in, element_name, has_address, if_addressed, told}
use Rattle.objects.specs.typing.Source.{CanMake, HasField, HasMethod, HasVirtual, HasObject, HasCode, IsSourceOp, IsSourceCatches, IsSourceCatch, IsSourceMethod, AreTypes, IsTrapClass, IsArray}
use Rattle.objects.specs.typing.Source as source
use Rattle.objects.specs.typing.Typing.{freed, freed_by, Types, Table, types_at, FitsIn, Flow, Leads, Wrong, flow, first_types, first_locals, is_constructor, arguments, results, result_types, number_types, become, is_uninit, built_as, this_built, new_class, is_named, direct_superclass, constructs, is_one, is_reference, Covers, caught_type, is_guarded, AreCaught, KeepsFlow, KeepsAt, IsTypedAt, IsTyping, fits_elements, element_types, stored_types}
use Rattle.objects.specs.typing.Typing as typed
use Rattle.objects.specs.laws.TypingLaw.{HasTyping, IsTypedProgram}
use Rattle.objects.specs.rewriting.Rewriting.{word_places, helped}
use Rattle.objects.proofs.Places.{get_back}
use Rattle.objects.proofs.Switched.{exit_has}
use Rattle.objects.proofs.Fields.{each_at, some_at, all_set, found_at}
use Rattle.objects.proofs.Frames.{frame}
use Rattle.objects.proofs.WordTypes.{IsIntType, narrowed_number, number_fits}
use Rattle.objects.proofs.Fitting.{Fits as FitsWidth, binary_fits, shifted_fits, divided_fits, unary_fits, add_fits, compared_fits, cut_fits}
use Rattle.objects.proofs.Order.{Among, first, later}
use Rattle.objects.proofs.Elements.{never, both, order, class_within, superclass_within, field_place, IsArrayRow, array_row, AreElements, elements_are, int_helped}
use Rattle.objects.proofs.Heap.{KeepsTypes, object_at, type_of, value_there, values_set, held_at, heap_after_put}
use Rattle.objects.proofs.SlotTypes.{IsNew, IsThis, HasType, HaveTypes, HasTypeAt, types_kept, joined, set_types, freed_types, same_length, get_types, same_types, become_types, held_types, IsGiven, given_slots, given_types, pushed_on, parameters_moved, widen}
use Rattle.objects.proofs.TypedFrames.{keeps_same, Lets, IsReadAt, IsTypedFrame, Handles, Returns, AllWait, AreTyped, all_wait_kept, Throws, passed, passes, starts_typed, covered_frame, Fine, Heads, NoHeads, LastHeads, AsksFine, IsIndexedAt, IsAt}

-- the first argument lies deepest
first_taken : (n : ℕ) (acc s args left : List Slot) → take_args (suc n) acc s ≡ Took args left → (a : Slot) × (rest : List Slot) × (args ≡ a ∷ rest) × (slice_get s n ≡ Some a)
first_taken n acc [] args left e = cc
first_taken zero acc (v ∷ s) args left e = let same : args ≡ v ∷ acc = cc in (v, acc, same, refl)
first_taken (suc n) acc (v ∷ s) args left e = first_taken n (v ∷ acc) s args left e

deepest : (v w : Slot) (r s : List Slot) → v ∷ r ≡ w ∷ s → w ≡ v
deepest v w r s e = cc

-- one argument more
take_more : (n : ℕ) (acc s args left : List Slot) (v : Slot) → take_args n acc s ≡ Took args (v ∷ left) → take_args (suc n) acc s ≡ Took (v ∷ args) left
take_more zero acc [] args left v e = cc
take_more zero acc (x ∷ s) args left v e = let a : x ≡ v = cc in let b : s ≡ left = cc in let c : acc ≡ args = cc in rw (a, b, c) refl
take_more (suc n) acc [] args left v e = cc
take_more (suc n) acc (x ∷ s) args left v e = take_more n (x ∷ acc) s args left v e

-- a method that a class declares for calls of another
pub record IsFirst (P : Program) (d : Method) (names : List (List ℕ)) (to : ℕ) : Type 0 where
  pub class : List ℕ
  pub among : Among class names
  pub method : Method
  pub there : method_at P to ≡ Some method
  pub overrides : overrides d class method ≡ true

first_found : (P : Program) (d : Method) (names : List (List ℕ)) (to : ℕ) → first_in P d names ≡ Some to → IsFirst P d names to
first_found P d [] to e = cc
first_found P d (c ∷ cs) to e = by (first_found P d cs to) (position (overrides d c) P.methods) refl e
  where
    by : (first_in P d cs ≡ Some to → IsFirst P d cs to) → (o : Option ℕ) → position (overrides d c) P.methods ≡ o → or_else o (first_in P d cs) ≡ Some to → IsFirst P d (c ∷ cs) to
    by rest None is e = let x = rest e in record { class = x.class; among = later x.class c cs x.among; method = x.method; there = x.there; overrides = x.overrides }
    by rest (Some i) is e = let x = found_at (overrides d c) P.methods to (is ∙ e) in record { class = c; among = first c cs; method = x.0; there = x.1; overrides = x.2 }

-- a method that has its object first
pub object_first : (P : Program) (d : Method) → d.dispatch ≢ dispatch.Static → d.dispatch ≢ dispatch.Abstract → HasObject P d.dispatch d → d.parameters ≡ Ref (name_read P d.name.class) ∷ arguments d
object_first P d s a h = by d.dispatch s a h
  where
    by : (x : Dispatch) → x ≢ dispatch.Static → x ≢ dispatch.Abstract → HasObject P x d → d.parameters ≡ Ref (name_read P d.name.class) ∷ arguments d
    by dispatch.Static s a h = absurd (s refl)
    by dispatch.Abstract s a h = absurd (a refl)
    by dispatch.Exact s a h = h
    by dispatch.Virtual s a h = h

pub some_first : (P : Program) (d : Method) → d.dispatch ≢ dispatch.Static → HasObject P d.dispatch d → (c : List ℕ) × (d.parameters ≡ Ref c ∷ arguments d)
some_first P d s h = by d.dispatch s h
  where
    by : (x : Dispatch) → x ≢ dispatch.Static → HasObject P x d → (c : List ℕ) × (d.parameters ≡ Ref c ∷ arguments d)
    by dispatch.Static s h = absurd (s refl)
    by dispatch.Abstract s h = (h.0, h.1)
    by dispatch.Exact s h = (name_read P d.name.class, h)
    by dispatch.Virtual s h = (name_read P d.name.class, h)

-- a method with code isn't abstract
not_abstract : (d : Method) (os : List Op) → is_code os ≡ true → HasCode os d → d.dispatch ≢ dispatch.Abstract
not_abstract d [] h c = cc
not_abstract d (o ∷ os) h c = c

-- a method that calls can select has an object
selectable_over : (y : Dispatch) → is_selectable y ≡ true → y ≢ dispatch.Static
selectable_over dispatch.Static h a = let fall : ⊥ = cc in fall
selectable_over dispatch.Abstract h a = let fall : ⊥ = cc in fall
selectable_over dispatch.Exact h a = let fall : ⊥ = cc in fall
selectable_over dispatch.Virtual h a = let fall : ⊥ = cc in fall

-- equal types of references are of one class
same_first : (a b : List ℕ) (ts us : List VType) → Ref a ∷ ts ≡ Ref b ∷ us → a ≡ b
same_first a b ts us e = cc

-- an object that isn't null is a reference
pub reference_of : (P : Program) (σ : State) (n : List ℕ) (o : ℕ) → IsObjectOf P σ n o → IsReferenceTo P σ n o
reference_of P σ n zero h = tt
reference_of P σ n (suc o) h = h

pub object_of_reference : (P : Program) (σ : State) (n : List ℕ) (o : ℕ) → 0 < o → IsReferenceTo P σ n o → IsObjectOf P σ n o
object_of_reference P σ n zero lt h = absurd (omega (arith, lt))
object_of_reference P σ n (suc o) lt h = h

-- a place that holds a value of a type, and keeps the heap typed where another is put there
pub record IsPlaceOf (P : Program) (size : ℕ) (σ : State) (p : Place) (d : Declared) : Type 0 where
  pub v : Value
  pub held : value_held σ p ≡ Some v
  pub fits : IsHeld P σ d v
  pub put_fits : (y : Value) → IsHeld P σ d y → IsHeap P size (put σ p y)

module _ (P : Program) (size : ℕ) (σ : State) (H : IsHeap P size σ) (o : ℕ) (b : Object) (row : Row) (there : σ.objects o ≡ Some b) (is : row_at P b.type ≡ Some row) where
  abbrev value_place : ℕ → Place
  value_place i = record { object = o; index = suc i }

  holding : IsHolding P σ row.holds b.array b.values
  holding =
      let t = H.typed o b there in
      let same = same_Some t.row row (sym t.is ∙ is) in
      subst (λ (r : Row). IsHolding P σ r.holds b.array b.values) same t.holds

  module _ (i : ℕ) (d : Declared) (v : Value) (at : slice_get b.values i ≡ Some v) where
    held_there : value_held σ (value_place i) ≡ Some v
    held_there = rw (there, at) refl

    put_there : (y : Value) → IsHolding P σ row.holds b.array (slice_set b.values i y) → IsHeap P size (put σ (value_place i) y)
    put_there y holds =
        let x = held_at σ (value_place i) v held_there in
        let same = same_Some b x.o (sym there ∙ x.object) in
        let one : i ≡ x.i = let t = x.index in omega (arith, t) in
        let now : IsTyped P σ (record b { values = slice_set b.values i y }) = record { row = row; is = is; holds = holds } in
        heap_after_put σ (value_place i) y v x P size H
        (subst (λ (j : ℕ). IsTyped P σ (record x.o { values = slice_set x.o.values j y })) one (subst (λ (b : Object). IsTyped P σ (record b { values = slice_set b.values i y })) same now))

  -- a word of an object
  pub word_place : (ws : List Declared) → row.holds ≡ Words ws → (i : ℕ) (d : Declared) → slice_get ws i ≡ Some d → IsPlaceOf P size σ (value_place i) d
  word_place ws e i d at = by b.array refl (subst (λ (x : Holds). IsHolding P σ x b.array b.values) e holding)
    where
      by : (a : Bool) → b.array ≡ a → IsHolding P σ (Words ws) a b.values → IsPlaceOf P size σ (value_place i) d
      by true array h = absurd h
      by false array h =
          let v = value_there P σ ws b.values i d h at in
          record {
            v = v.0;
            held = held_there i d v.0 v.1;
            fits = v.2;
            put_fits = λ y fits. put_there i d v.0 v.1 y (subst (λ (x : Holds). IsHolding P σ x b.array (slice_set b.values i y)) (sym e) (subst (λ (a : Bool). IsHolding P σ (Words ws) a (slice_set b.values i y)) (sym array) (values_set P σ ws b.values i d y h at fits)));
          }

  -- an array, and its elements
  pub record IsArrayOf (d : Declared) : Type 0 where
    pub array : b.array ≡ true
    pub few : length b.values < 2147483648
    pub element : (i : ℕ) → i < length b.values → IsPlaceOf P size σ (value_place i) d

  pub array_of : (d : Declared) (name : List ℕ) → row.holds ≡ Elements d name → IsArrayOf d
  array_of d name e = by b.array refl (subst (λ (x : Holds). IsHolding P σ x b.array b.values) e holding)
    where
      by : (a : Bool) → b.array ≡ a → IsHolding P σ (Elements d name) a b.values → IsArrayOf d
      by false array h = absurd h
      by true array h = record { array = array; few = h.0; element = element }
        where
          element : (i : ℕ) → i < length b.values → IsPlaceOf P size σ (value_place i) d
          element i lt =
              let v = some_at b.values i lt in
              record {
                v = v.0;
                held = held_there i d v.0 v.1;
                fits = each_at (IsHeld P σ d) b.values i v.0 h.1 v.1;
                put_fits = λ y fits. put_there i d v.0 v.1 y (subst (λ (x : Holds). IsHolding P σ x b.array (slice_set b.values i y)) (sym e) (subst (λ (a : Bool). IsHolding P σ (Elements d name) a (slice_set b.values i y)) (sym array)
                    (let n = length-set b.values i y in let few = h.0 in (omega (arith, n, few), all_set (IsHeld P σ d) b.values i y h.1 fits))));
              }

  -- an object's length is below 2^31
  pub length_fits : FitsSigned w32 (pos (length_of b))
  length_fits = by row.holds b.array refl holding
    where
      by : (x : Holds) (a : Bool) → b.array ≡ a → IsHolding P σ x a b.values → FitsSigned w32 (pos (length_of b))
      by (Words ds) false array h = rw array (record { sfits = lit< tt })
      by (Elements d name) true array h = rw array (record { sfits = h.0 })
      by (Words ds) true array h = absurd h
      by (Elements d name) false array h = absurd h

-- a result goes to the frame that waits for it
pub gives_fine : (P : Program) (Ts : List Table) (S : IsTypedProgram P Ts) (size : ℕ) (σ : State) (H : IsHeap P size σ) (r : Option VType) (v : Option Value) (fs : Frames) → IsGiven P σ r v → AllWait P Ts S σ r fs → AsksFine P Ts S size σ H (gives v fs)
gives_fine P Ts S size σ H r v [] i w = tt
gives_fine P Ts S size σ H r v (f ∷ fs) i (k, b, w) = (k, b.1 σ (keeps_same σ) v i, w)

module _ (P : Program) (Ts : List Table) (S : IsTypedProgram P Ts) (size : ℕ) (σ : State) (H : IsHeap P size σ) (m pc : ℕ) (k : Method) (code : method_at P m ≡ Some k) (typing : HasTyping P Ts m k) (fs : Frames) (w : AllWait P Ts S σ k.result fs) where
  abbrev C : AreTypes P
  C = S.source.types

  abbrev T : Table
  T = typing.table

  abbrev Has : List VType → List Slot → Type 0
  Has ts s = HaveTypes P k σ ts s

  abbrev Keeps : Flow → Type 0
  Keeps f = Lets P k T f

  abbrev FirstHeads : ℕ → Use → Frames → Type 0
  FirstHeads = Heads P Ts S size σ H (LastHeads P Ts S size σ H)

  abbrev DidFine : Did → Type 0
  DidFine d = AsksFine P Ts S size σ H (on_did P d fs)

  -- a frame of this method at a place, and at this one
  abbrev here_at : ℕ → List Slot → List Slot → Frame
  here_at to l s = frame m to l s

  abbrev here : List Slot → List Slot → Frame
  here l s = frame m pc l s

  source_method : IsSourceMethod P k
  source_method = each_at (IsSourceMethod P) P.methods m k S.source.methods code

  -- in any state with these objects, a place that covers these types
  frame_at : (τ : State) (g : Types) (to : ℕ) (l s : List Slot) → Covers P k T g to → HaveTypes P k τ g.locals l → HaveTypes P k τ g.stack s → IsTypedFrame P Ts S τ (here_at to l s) k
  frame_at = covered_frame P Ts S m k code typing

  goes_to : (g : Types) (to : ℕ) (l s : List Slot) → Covers P k T g to → Has g.locals l → Has g.stack s → AreTyped P Ts S σ (here_at to l s ∷ fs)
  goes_to g to l s c hl hs = (k, frame_at σ g to l s c hl hs, w)

  goes_next : (g : Types) (l s : List Slot) → Keeps (Leads ((pc + 1) ∷ []) g) → Has g.locals l → Has g.stack s → DidFine (Does doing.Next (here l s))
  goes_next g l s e hl hs = goes_to g (pc + 1) l s e.0 hl hs

  jumps_fine : (to : ℕ) (l s : List Slot) → AreTyped P Ts S σ (here_at to l s ∷ fs) → DidFine (Does (doing.Jump to) (here l s))
  jumps_fine to l s h = by (is_counted P m && nat_le to pc)
    where
      by : (b : Bool) → AsksFine P Ts S size σ H (goes b (here_at to l s ∷ fs))
      by true = h
      by false = h

  -- ---- operands

  on_top_fine : (ts : List VType) (s : List Slot) (j : VType → List VType → Flow) (d : Slot → List Slot → Did) → Has ts s
      → ((t : VType) (v : Slot) (us : List VType) (r : List Slot) → HasType P k σ t v → Has us r → Keeps (j t us) → DidFine (d v r)) → Keeps (typed.on_top ts j) → DidFine (on_top s d)
  on_top_fine [] s j d h p e = absurd e
  on_top_fine (t ∷ ts) [] j d h p e = absurd h
  on_top_fine (t ∷ ts) (v ∷ s) j d h p e = p t v ts s h.0 h.1 e

  if_so_fine : (b : Bool) (j : Flow) (Q : Type 0) → (b ≡ true → Keeps j → Q) → Keeps (typed.if_so b j) → Q
  if_so_fine true j Q p e = p refl e
  if_so_fine false j Q p e = absurd e

  on_one_fine : (ts : List VType) (s : List Slot) (j : VType → List VType → Flow) (d : Slot → List Slot → Did) → Has ts s
      → ((t : VType) (v : Slot) (us : List VType) (r : List Slot) → HasType P k σ t v → Has us r → Keeps (j t us) → DidFine (d v r)) → Keeps (typed.on_one ts j) → DidFine (on_top s d)
  on_one_fine ts s j d h p e = on_top_fine ts s _ d h (λ t v us r a b e. if_so_fine (is_one t) (j t us) (DidFine (d v r)) (λ one e. p t v us r a b e) e) e

  on_two_fine : (ts : List VType) (s : List Slot) (j : VType → VType → List VType → Flow) (d : Slot → Slot → List Slot → Did) → Has ts s
      → ((t u : VType) (v x : Slot) (us : List VType) (r : List Slot) → HasType P k σ t v → HasType P k σ u x → Has us r → Keeps (j t u us) → DidFine (d v x r)) → Keeps (typed.on_two ts j) → DidFine (on_top s (λ v r. on_top r (λ x r. d v x r)))
  on_two_fine (Second ∷ Long ∷ ts) [] j d h p e = absurd h
  on_two_fine (Second ∷ Long ∷ ts) (v ∷ []) j d h p e = absurd h.1
  on_two_fine (Second ∷ Long ∷ ts) (v ∷ x ∷ r) j d h p e = p Second Long v x ts r h.0 h.1.0 h.1.1 e
  on_two_fine [] s j d h p e = absurd e
  on_two_fine (Second ∷ ts) s j d h p e = on_one_fine (Second ∷ ts) s _ _ h (λ t v us r a hr e. on_one_fine us r _ _ hr (λ u x us r b hr e. p t u v x us r a b hr e) e) e
  on_two_fine (y ∷ ts) s j d h p e = on_one_fine (y ∷ ts) s _ _ h (λ t v us r a hr e. on_one_fine us r _ _ hr (λ u x us r b hr e. p t u v x us r a b hr e) e) e

  -- what has a type on top
  on_fine : (t : VType) (ts : List VType) (s : List Slot) (j : List VType → Flow) (d : Slot → List Slot → Did) → Has ts s
      → ((v : Slot) (us : List VType) (r : List Slot) → s ≡ v ∷ r → HasType P k σ t v → Has us r → Keeps (j us) → DidFine (d v r)) → Keeps (typed.on P t ts j) → DidFine (on_top s d)
  on_fine t [] s j d h p e = absurd e
  on_fine t (u ∷ ts) [] j d h p e = absurd h
  on_fine t (u ∷ ts) (v ∷ s) j d h p e = go (is_within P u t) refl e
    where
      go : (b : Bool) → is_within P u t ≡ b → Keeps (if b then j ts else Wrong) → DidFine (d v s)
      go true w e = p v ts s refl (widen P C k σ u t v w h.0) h.1 e
      go false w e = absurd e

  on_int_fine : (ts : List VType) (s : List Slot) (j : List VType → Flow) (d : ℤ → List Slot → Did) → Has ts s
      → ((x : ℤ) (us : List VType) (r : List Slot) → FitsSigned w32 x → Has us r → Keeps (j us) → DidFine (d x r)) → Keeps (typed.on_int ts j) → DidFine (on_int s d)
  on_int_fine [] s j d h p e = absurd e
  on_int_fine (Int ∷ ts) [] j d h p e = absurd h
  on_int_fine (Int ∷ ts) (slot.Int x ∷ s) j d h p e = p x ts s h.0 h.1 e
  on_int_fine (Int ∷ ts) (v ∷ s) j d h p e = absurd h.0
  on_int_fine (t ∷ ts) s j d h p e = absurd e

  int_slot : (v : Slot) (d : ℤ → Did) → HasType P k σ Int v → ((x : ℤ) → FitsSigned w32 x → DidFine (d x)) → DidFine (int_in v d)
  int_slot (slot.Int x) d h p = p x h
  int_slot v d h p = absurd h

  second_fine : (v : Slot) (d : Did) → HasType P k σ Second v → DidFine d → DidFine (second_in v d)
  second_fine slot.Second d h p = p
  second_fine v d h p = absurd h

  long_fine : (v : Slot) (d : ℤ → Did) → HasType P k σ Long v → ((x : ℤ) → FitsSigned w64 x → DidFine (d x)) → DidFine (long_in v d)
  long_fine (slot.Long x) d h p = p x h
  long_fine v d h p = absurd h

  ref_fine : (n : List ℕ) (v : Slot) (d : ℕ → Did) → HasType P k σ (Ref n) v → ((o : ℕ) → v ≡ slot.Ref o → IsReferenceTo P σ n o → DidFine (d o)) → DidFine (ref_in v d)
  ref_fine n (slot.Ref o) d h p = p o refl h
  ref_fine n v d h p = absurd h

  on_long_fine : (ts : List VType) (s : List Slot) (j : List VType → Flow) (d : ℤ → List Slot → Did) → Has ts s
      → ((x : ℤ) (us : List VType) (r : List Slot) → FitsSigned w64 x → Has us r → Keeps (j us) → DidFine (d x r)) → Keeps (typed.on_long P ts j) → DidFine (on_long s d)
  on_long_fine ts s j d h p e = on_fine Second ts s _ _ h (λ v us r same hv hr e. second_fine v _ hv (on_fine Long us r _ _ hr (λ v us r same hv hr e. long_fine v _ hv (λ x hx. p x us r hx hr e)) e)) e

  on_number_fine : (b : Width) (ts : List VType) (s : List Slot) (j : List VType → Flow) (d : ℤ → List Slot → Did) → Has ts s
      → ((x : ℤ) (us : List VType) (r : List Slot) → FitsWidth b x → Has us r → Keeps (j us) → DidFine (d x r)) → Keeps (typed.on_number P b ts j) → DidFine (on_number b s d)
  on_number_fine width.Int ts s j d h p e = on_int_fine ts s j d h p e
  on_number_fine width.Long ts s j d h p e = on_long_fine ts s j d h p e

  on_ref_fine : (n : List ℕ) (ts : List VType) (s : List Slot) (j : List VType → Flow) (d : ℕ → List Slot → Did) → Has ts s
      → ((o : ℕ) (us : List VType) (r : List Slot) → s ≡ slot.Ref o ∷ r → IsReferenceTo P σ n o → Has us r → Keeps (j us) → DidFine (d o r)) → Keeps (typed.on P (Ref n) ts j) → DidFine (on_ref s d)
  on_ref_fine n ts s j d h p e = on_fine (Ref n) ts s _ _ h (λ v us r same hv hr e. ref_fine n v _ hv (λ o is ho. p o us r (same ∙ ap (λ (v : Slot). v ∷ r) is) ho hr e)) e

  -- a value as a load, a store or a return moves it
  abbrev IsSorted : List ℕ → Sort → Value → Type 0
  IsSorted c sort.Int (value.Int x) = FitsSigned w32 x
  IsSorted c sort.Long (value.Long x) = FitsSigned w64 x
  IsSorted c sort.Reference (value.Ref o) = IsReferenceTo P σ c o
  IsSorted c t v = ⊥

  on_value_fine : (t : WordType) (c : List ℕ) (ts : List VType) (s : List Slot) (j : List VType → Flow) (d : Value → List Slot → Did) → Has ts s
      → ((v : Value) (us : List VType) (r : List Slot) → IsSorted c (sort_of t) v → Has us r → Keeps (j us) → DidFine (d v r)) → Keeps (typed.on_each P (stack_types (record { word = t; class = c })) ts j) → DidFine (on_value (sort_of t) s d)
  on_value_fine word.Reference c ts s j d h p e = on_ref_fine c ts s _ _ h (λ o us r same ho hr e. p (value.Ref o) us r ho hr e) e
  on_value_fine word.Long c ts s j d h p e = on_long_fine ts s j _ h (λ x us r hx hr e. p (value.Long x) us r hx hr e) e
  on_value_fine word.Boolean c ts s j d h p e = on_fine Int ts s _ _ h (λ v us r same hv hr e. int_slot v _ hv (λ x hx. p (value.Int x) us r hx hr e)) e
  on_value_fine word.Byte c ts s j d h p e = on_fine Int ts s _ _ h (λ v us r same hv hr e. int_slot v _ hv (λ x hx. p (value.Int x) us r hx hr e)) e
  on_value_fine word.Char c ts s j d h p e = on_fine Int ts s _ _ h (λ v us r same hv hr e. int_slot v _ hv (λ x hx. p (value.Int x) us r hx hr e)) e
  on_value_fine word.Short c ts s j d h p e = on_fine Int ts s _ _ h (λ v us r same hv hr e. int_slot v _ hv (λ x hx. p (value.Int x) us r hx hr e)) e
  on_value_fine word.Int c ts s j d h p e = on_fine Int ts s _ _ h (λ v us r same hv hr e. int_slot v _ hv (λ x hx. p (value.Int x) us r hx hr e)) e

  -- the same, with the types that are taken
  on_fine_at : (t : VType) (ts : List VType) (s : List Slot) (j : List VType → Flow) (d : Slot → List Slot → Did) → Has ts s
      → ((z : VType) (v : Slot) (us : List VType) (r : List Slot) → ts ≡ z ∷ us → HasType P k σ t v → Has us r → Keeps (j us) → DidFine (d v r)) → Keeps (typed.on P t ts j) → DidFine (on_top s d)
  on_fine_at t [] s j d h p e = absurd e
  on_fine_at t (u ∷ ts) [] j d h p e = absurd h
  on_fine_at t (u ∷ ts) (v ∷ s) j d h p e = go (is_within P u t) refl e
    where
      go : (b : Bool) → is_within P u t ≡ b → Keeps (if b then j ts else Wrong) → DidFine (d v s)
      go true w e = p u v ts s refl (widen P C k σ u t v w h.0) h.1 e
      go false w e = absurd e

  on_int_at : (ts : List VType) (s : List Slot) (j : List VType → Flow) (d : ℤ → List Slot → Did) → Has ts s
      → ((x : ℤ) (us : List VType) (r : List Slot) → ts ≡ Int ∷ us → Has us r → Keeps (j us) → DidFine (d x r)) → Keeps (typed.on_int ts j) → DidFine (on_int s d)
  on_int_at [] s j d h p e = absurd e
  on_int_at (Int ∷ ts) [] j d h p e = absurd h
  on_int_at (Int ∷ ts) (slot.Int x ∷ s) j d h p e = p x ts s refl h.1 e
  on_int_at (Int ∷ ts) (v ∷ s) j d h p e = absurd h.0
  on_int_at (t ∷ ts) s j d h p e = absurd e

  on_value_at : (t : WordType) (c : List ℕ) (ts : List VType) (s : List Slot) (j : List VType → Flow) (d : Value → List Slot → Did) → Has ts s
      → ((zs : List VType) (v : Value) (us : List VType) (r : List Slot) → ts ≡ zs ++ us → length zs ≡ word_places t → IsSorted c (sort_of t) v → Has us r → Keeps (j us) → DidFine (d v r))
      → Keeps (typed.on_each P (stack_types (record { word = t; class = c })) ts j) → DidFine (on_value (sort_of t) s d)
  on_value_at t c ts s j d h p e = by t e p
    where
      one : ((x : ℤ) (z : VType) (us : List VType) (r : List Slot) → ts ≡ z ∷ us → FitsSigned w32 x → Has us r → Keeps (j us) → DidFine (d (value.Int x) r)) → Keeps (typed.on P Int ts j) → DidFine (on_value sort.Int s d)
      one q e = on_fine_at Int ts s _ _ h (λ z v us r same hv hr e. int_slot v _ hv (λ x hx. q x z us r same hx hr e)) e

      by : (t : WordType) → Keeps (typed.on_each P (stack_types (record { word = t; class = c })) ts j)
          → ((zs : List VType) (v : Value) (us : List VType) (r : List Slot) → ts ≡ zs ++ us → length zs ≡ word_places t → IsSorted c (sort_of t) v → Has us r → Keeps (j us) → DidFine (d v r)) → DidFine (on_value (sort_of t) s d)
      by word.Reference e p = on_fine_at (Ref c) ts s _ _ h (λ z v us r same hv hr e. ref_fine c v _ hv (λ o is ho. p (z ∷ []) (value.Ref o) us r same refl ho hr e)) e
      by word.Long e p = on_fine_at Second ts s _ _ h (λ y v us r same hv hr e. second_fine v _ hv (on_fine_at Long us r _ _ hr (λ z v vs q next hv hq e.
          long_fine v _ hv (λ x hx. p (y ∷ z ∷ []) (value.Long x) vs q (same ∙ ap (λ (us : List VType). y ∷ us) next) refl hx hq e)) e)) e
      by word.Boolean e p = one (λ x z us r same hx hr e. p (z ∷ []) (value.Int x) us r same refl hx hr e) e
      by word.Byte e p = one (λ x z us r same hx hr e. p (z ∷ []) (value.Int x) us r same refl hx hr e) e
      by word.Char e p = one (λ x z us r same hx hr e. p (z ∷ []) (value.Int x) us r same refl hx hr e) e
      by word.Short e p = one (λ x z us r same hx hr e. p (z ∷ []) (value.Int x) us r same refl hx hr e) e
      by word.Int e p = one (λ x z us r same hx hr e. p (z ∷ []) (value.Int x) us r same refl hx hr e) e

  kept_held : (t : WordType) (c : List ℕ) (v : Value) → IsSorted c (sort_of t) v → IsValueOf P σ c t (kept_by t v)
  kept_held word.Reference c (value.Ref o) h = h
  kept_held word.Long c (value.Long x) h = h
  kept_held word.Boolean c (value.Int x) h = narrowed_number word.Boolean x tt h
  kept_held word.Byte c (value.Int x) h = narrowed_number word.Byte x tt h
  kept_held word.Char c (value.Int x) h = narrowed_number word.Char x tt h
  kept_held word.Short c (value.Int x) h = narrowed_number word.Short x tt h
  kept_held word.Int c (value.Int x) h = h
  kept_held t c v h = absurd h

  numbered_types : (b : Width) (x : ℤ) (us : List VType) (s : List Slot) → FitsWidth b x → Has us s → Has (number_types b ++ us) (numbered b x s)
  numbered_types width.Int x us s h hs = (h, hs)
  numbered_types width.Long x us s h hs = (tt, (h, hs))

  -- a value goes on the stack
  pushed_types : (ts us : List VType) (v : Value) (s : List Slot) → Has ts (pushed v []) → Has us s → Has (ts ++ us) (pushed v s)
  pushed_types ts us v s hv hs = subst (Has (ts ++ us)) (sym (pushed_on v s)) (joined P k σ ts us (pushed v []) s hv hs)

  truth_fits : (b : Bool) → FitsSigned w32 (if b then pos 1 else pos 0)
  truth_fits true = record { sfits = lit< tt }
  truth_fits false = record { sfits = lit< tt }

  -- ---- what an instruction does over these types and locals
  module _ (h : Types) (h_is : types_at T pc ≡ Some h) (l : List Slot) (hl : Has h.locals l) (hn : Handles P Ts S σ (here l []) k) where
    thrown_on : (s : List Slot) → Throws P Ts S σ (here l s ∷ fs)
    thrown_on s = passed P Ts S σ (here l s) fs k code hn w (passes P Ts S σ k.result fs w)

    traps : (N : ℕ → Use → Frames → Type 0) (t : Trap) (s : List Slot) → Fine P Ts S size σ H N (trapped t (here l s ∷ fs))
    traps N t s = let x = C.traps t in record { row = x.row; is = x.is; few = omega arith; goes = (x.below, thrown_on s) }

    -- null, or an object
    null_fine : (n : List ℕ) (o : ℕ) (s : List Slot) (d : Did) → IsReferenceTo P σ n o → (0 < o → IsObjectOf P σ n o → DidFine d) → DidFine (not_null o (here l s) d)
    null_fine n zero s d a p = traps FirstHeads NullPointer s
    null_fine n (suc o) s d a p = p (omega arith) a

    set_fine : (i : ℕ) (t : VType) (v : Slot) (us : List VType) (s : List Slot) → HasType P k σ t v → Has us s → Keeps (typed.set_local (nat_lt i (length h.locals)) i t pc h us) → DidFine (set_local (nat_lt i (length l)) i v (here l s))
    set_fine i t v us s ht hs g = let e = same_length P k σ h.locals l hl in rw e (go (nat_lt i (length h.locals)) g)
      where
        go : (b : Bool) → Keeps (typed.set_local b i t pc h us) → DidFine (set_local b i v (here l s))
        go true g = goes_next _ (slice_set l i v) s g (set_types P k σ (freed i h.locals) l i t v (freed_types P k σ (slice_get h.locals i) i h.locals l hl) ht) hs
        go false g = absurd g

    set_long_fine : (i : ℕ) (x : ℤ) (us : List VType) (s : List Slot) → FitsSigned w64 x → Has us s → Keeps (typed.set_long (nat_lt (i + 1) (length h.locals)) i pc h us) → DidFine (set_long (nat_lt (i + 1) (length l)) i x (here l s))
    set_long_fine i x us s hx hs g = let e = same_length P k σ h.locals l hl in rw e (go (nat_lt (i + 1) (length h.locals)) g)
      where
        go : (b : Bool) → Keeps (typed.set_long b i pc h us) → DidFine (set_long b i x (here l s))
        go true g =
            let one = freed_types P k σ (slice_get h.locals i) i h.locals l hl in
            let two = freed_types P k σ (slice_get (freed i h.locals) (i + 1)) (i + 1) (freed i h.locals) l one in
            goes_next _ (slice_set (slice_set l i (slot.Long x)) (i + 1) slot.Second) s g
            (set_types P k σ (slice_set (freed (i + 1) (freed i h.locals)) i Long) (slice_set l i (slot.Long x)) (i + 1) Second slot.Second (set_types P k σ (freed (i + 1) (freed i h.locals)) l i Long (slot.Long x) two hx) tt) hs
        go false g = absurd g

    -- a slot of a type of references
    object_fine : (t : VType) (v : Slot) (d : Did) → is_reference t ≡ true → HasType P k σ t v → DidFine d → DidFine (object_in v d)
    object_fine Null (slot.Ref o) d e a p = p
    object_fine (Ref n) (slot.Ref o) d e a p = p
    object_fine (Uninit q) (slot.Ref o) d e a p = p
    object_fine UninitThis (slot.Ref o) d e a p = p
    object_fine Null v d e a p = absurd a
    object_fine (Ref n) v d e a p = absurd a
    object_fine (Uninit q) v d e a p = absurd a
    object_fine UninitThis v d e a p = absurd a
    object_fine t v d e a p = absurd (never false e refl)

    load_int : (a : Option VType) (v : Option Slot) (j : Flow) (d : ℤ → Did) → HasTypeAt P k σ a v → (a ≡ Some Int → (x : ℤ) → FitsSigned w32 x → Keeps j → DidFine (d x)) → Keeps (typed.int_in a j) → DidFine (slot_in v (λ v. int_in v d))
    load_int None v j d ha p e = absurd e
    load_int (Some Int) None j d ha p e = absurd ha
    load_int (Some Int) (Some (slot.Int x)) j d ha p e = p refl x ha e
    load_int (Some Int) (Some v) j d ha p e = absurd ha
    load_int (Some t) v j d ha p e = absurd e

    load_reference : (a : Option VType) (v : Option Slot) (s : List Slot) → HasTypeAt P k σ a v → Has h.stack s → Keeps (typed.local_in a (λ t. typed.if_so (is_reference t) (typed.leaves pc h (t ∷ h.stack)))) → DidFine (slot_in v (λ v. object_in v (Does doing.Next (here l (v ∷ s)))))
    load_reference None v s ha hs e = absurd e
    load_reference (Some t) None s ha hs e = absurd ha
    load_reference (Some t) (Some v) s ha hs e = if_so_fine (is_reference t) _ (DidFine (object_in v (Does doing.Next (here l (v ∷ s))))) (λ is e. object_fine t v _ is ha (goes_next _ l (v ∷ s) e hl (ha, hs))) e

    load_long : (a b : Option VType) (v x : Option Slot) (s : List Slot) → HasTypeAt P k σ a v → HasTypeAt P k σ b x → Has h.stack s
        → Keeps (typed.long_at a b (typed.leaves pc h (Second ∷ Long ∷ h.stack))) → DidFine (slot_in v (λ v. long_in v (λ y. slot_in x (λ x. second_in x (Does doing.Next (here l (slot.Second ∷ slot.Long y ∷ s)))))))
    load_long (Some Long) (Some Second) (Some (slot.Long y)) (Some slot.Second) s ha hb hs e = goes_next _ l _ e hl (tt, (ha, hs))
    load_long (Some Long) (Some Second) None x s ha hb hs e = absurd ha
    load_long (Some Long) (Some Second) (Some (slot.Long y)) None s ha hb hs e = absurd hb
    load_long (Some Long) (Some Second) (Some (slot.Long y)) (Some u) s ha hb hs e = absurd hb
    load_long (Some Long) (Some Second) (Some u) x s ha hb hs e = absurd ha
    load_long a b v x s ha hb hs e = absurd e

    loads_fine : (t : Sort) (i : ℕ) (s : List Slot) → Has h.stack s → Keeps (typed.loads t i pc h) → DidFine (loads t i (here l s))
    loads_fine sort.Int i s hs e = load_int (slice_get h.locals i) (slice_get l i) _ _ (get_types P k σ h.locals l i hl) (λ is x hx e. goes_next _ l _ e hl (hx, hs)) e
    loads_fine sort.Reference i s hs e = load_reference (slice_get h.locals i) (slice_get l i) s (get_types P k σ h.locals l i hl) hs e
    loads_fine sort.Long i s hs e = load_long (slice_get h.locals i) (slice_get h.locals (i + 1)) (slice_get l i) (slice_get l (i + 1)) s (get_types P k σ h.locals l i hl) (get_types P k σ h.locals l (i + 1) hl) hs e

    stores_fine : (t : Sort) (i : ℕ) (s : List Slot) → Has h.stack s → Keeps (typed.stores P t i pc h) → DidFine (stores t i (here l s))
    stores_fine sort.Int i s hs e = on_int_fine h.stack s _ _ hs (λ x us r hx hr e. set_fine i Int (slot.Int x) us r hx hr e) e
    stores_fine sort.Reference i s hs e = on_top_fine h.stack s _ _ hs (λ t v us r hv hr e. if_so_fine (is_reference t) _ (DidFine (object_in v (set_local (nat_lt i (length l)) i v (here l r)))) (λ is e. object_fine t v _ is hv (set_fine i t v us r hv hr e)) e) e
    stores_fine sort.Long i s hs e = on_long_fine h.stack s _ _ hs (λ x us r hx hr e. set_long_fine i x us r hx hr e) e

    rearranged_fine : (r : StackOp) (s : List Slot) → Has h.stack s → Keeps (typed.rearranged r pc h) → DidFine (rearranged r (here l s))
    rearranged_fine Nop s hs e = goes_next _ l s e hl hs
    rearranged_fine Pop s hs e = on_one_fine h.stack s _ _ hs (λ t v us r a hr e. goes_next _ l r e hl hr) e
    rearranged_fine Pop2 s hs e = on_two_fine h.stack s _ _ hs (λ t u v x us r a b hr e. goes_next _ l _ e hl hr) e
    rearranged_fine Dup s hs e = on_one_fine h.stack s _ _ hs (λ t v us r a hr e. goes_next _ l _ e hl (a, (a, hr))) e
    rearranged_fine DupX1 s hs e = on_one_fine h.stack s _ _ hs (λ t v us r a hr e. on_one_fine us r _ _ hr (λ u x us r b hr e. goes_next _ l _ e hl (a, (b, (a, hr)))) e) e
    rearranged_fine DupX2 s hs e = on_one_fine h.stack s _ _ hs (λ t v us r a hr e. on_two_fine us r _ _ hr (λ u z x y us r b c hr e. goes_next _ l _ e hl (a, (b, (c, (a, hr))))) e) e
    rearranged_fine Dup2 s hs e = on_two_fine h.stack s _ _ hs (λ t u v x us r a b hr e. goes_next _ l _ e hl (a, (b, (a, (b, hr))))) e
    rearranged_fine Dup2X1 s hs e = on_two_fine h.stack s _ _ hs (λ t u v x us r a b hr e. on_one_fine us r _ _ hr (λ z y us r c hr e. goes_next _ l _ e hl (a, (b, (c, (a, (b, hr)))))) e) e
    rearranged_fine Dup2X2 s hs e = on_two_fine h.stack s _ _ hs (λ t u v x us r a b hr e. on_two_fine us r _ _ hr (λ y z p q us r c d hr e. goes_next _ l _ e hl (a, (b, (c, (d, (a, (b, hr))))))) e) e
    rearranged_fine Swap s hs e = on_one_fine h.stack s _ _ hs (λ t v us r a hr e. on_one_fine us r _ _ hr (λ u x us r b hr e. goes_next _ l _ e hl (b, (a, hr))) e) e

    converted_fine : (c : Conversion) (s : List Slot) → Has h.stack s → Keeps (typed.converted P c pc h) → DidFine (converted c (here l s))
    converted_fine IntToLong s hs e = on_int_fine h.stack s _ _ hs (λ x us r hx hr e. goes_next _ l _ e hl (tt, (int_long x hx, hr))) e
      where
        int_long : (x : ℤ) → FitsSigned w32 x → FitsSigned w64 x
        int_long (pos n) h = let lt = h.sfits in record { sfits = omega arith }
        int_long (negsuc n) h = let lt = h.sfits in record { sfits = omega arith }
    converted_fine LongToInt s hs e = on_long_fine h.stack s _ _ hs (λ x us r hx hr e. goes_next _ l _ e hl (cut_fits _, hr)) e
    converted_fine IntToByte s hs e = on_int_fine h.stack s _ _ hs (λ x us r hx hr e. goes_next _ l _ e hl (number_fits word.Byte _ tt (narrowed_number word.Byte x tt hx), hr)) e
    converted_fine IntToChar s hs e = on_int_fine h.stack s _ _ hs (λ x us r hx hr e. goes_next _ l _ e hl (number_fits word.Char _ tt (narrowed_number word.Char x tt hx), hr)) e
    converted_fine IntToShort s hs e = on_int_fine h.stack s _ _ hs (λ x us r hx hr e. goes_next _ l _ e hl (number_fits word.Short _ tt (narrowed_number word.Short x tt hx), hr)) e

    divides_fine : (b : Bool) (v : Width) (d : Division) (x y : ℤ) (us : List VType) (s t : List Slot) → FitsWidth v x → FitsWidth v y → Has us s → Keeps (typed.leaves pc h (number_types v ++ us)) → DidFine (divides b v d x y s (here l t))
    divides_fine true v d x y us s t a b hs e = traps FirstHeads Arithmetic s
    divides_fine false v d x y us s t a b hs e = goes_next _ l _ e hl (numbered_types v _ us s (divided_fits v d x y a b) hs)

    branches_fine : (b : Bool) (to : ℕ) (us : List VType) (s : List Slot) → Has us s → Keeps (Leads ((pc + 1) ∷ to ∷ []) (typed.with_stack h us)) → DidFine (branches b to (here l s))
    branches_fine true to us s hs e = jumps_fine to l s (goes_to (typed.with_stack h us) to l s e.1.0 hl hs)
    branches_fine false to us s hs e = goes_to (typed.with_stack h us) (pc + 1) l s e.0 hl hs

    -- ---- calls

    -- the arguments of a call, and what is left of the stack
    record Finds (rs ks : List VType) (acc s : List Slot) (j : List VType → Flow) : Type 0 where
      args : List Slot
      left : List Slot
      types : List VType
      is : take_args (length rs) acc s ≡ Took args left
      given : Has (reverse_aux rs ks) args
      others : Has types left
      keeps : Keeps (j types)

    finds : (rs ks : List VType) (acc : List Slot) (ts : List VType) (s : List Slot) (j : List VType → Flow) → Has ks acc → Has ts s → Keeps (typed.on_each P rs ts j) → Finds rs ks acc s j
    finds [] ks acc ts s j a hs e = record { args = acc; left = s; types = ts; is = refl; given = a; others = hs; keeps = e }
    finds (t ∷ rs) ks acc [] s j a hs e = absurd e
    finds (t ∷ rs) ks acc (u ∷ ts) [] j a hs e = absurd hs
    finds (t ∷ rs) ks acc (u ∷ ts) (v ∷ s) j a hs e = go (λ w e. finds rs (t ∷ ks) (v ∷ acc) ts s j (widen P C k σ u t v w hs.0, a) hs.1 e) (is_within P u t) refl e
      where
        go : (is_within P u t ≡ true → Keeps (typed.on_each P rs ts j) → Finds rs (t ∷ ks) (v ∷ acc) s j) → (b : Bool) → is_within P u t ≡ b → Keeps (if b then typed.on_each P rs ts j else Wrong) → Finds (t ∷ rs) ks acc (v ∷ s) j
        go rest true w e =
            let f = rest w e in
            record { args = f.args; left = f.left; types = f.types; is = f.is; given = f.given; others = f.others; keeps = f.keeps }
        go rest false w e = absurd e

    each_inner : (rs ts : List VType) (j : List VType → Flow) → Keeps (typed.on_each P rs ts j) → (us : List VType) × Keeps (j us)
    each_inner [] ts j e = (ts, e)
    each_inner (t ∷ rs) [] j e = absurd e
    each_inner (t ∷ rs) (u ∷ ts) j e = go (each_inner rs ts j) (is_within P u t) e
      where
        go : (Keeps (typed.on_each P rs ts j) → (us : List VType) × Keeps (j us)) → (b : Bool) → Keeps (if b then typed.on_each P rs ts j else Wrong) → (us : List VType) × Keeps (j us)
        go rest true e = rest e
        go rest false e = absurd e

    source_of : (c : ℕ) (d : Method) → method_at P c ≡ Some d → IsSourceMethod P d
    source_of c d there = each_at (IsSourceMethod P) P.methods c d S.source.methods there

    enters_fine : (N : ℕ → Use → Frames → Type 0) (b : Bool) (gs : Frames) → AreTyped P Ts S σ gs → Fine P Ts S size σ H N (enters P b gs)
    enters_fine N true gs h = h
    enters_fine N false gs h = h

    -- a method that takes what was found, and gives what the caller waits for
    entered_fine : (N : ℕ → Use → Frames → Type 0) (c : ℕ) (d : Method) (s args left : List Slot) → method_at P c ≡ Some d → has_code (Some d) ≡ true → take_args d.places [] s ≡ Took args left
        → HaveTypes P d σ (first_locals (is_constructor d) d.parameters) args → Returns P Ts S σ d.result (here l left) k → Fine P Ts S size σ H N (invokes P (Some d) c (here l s) fs)
    entered_fine N c d s args left there ne is given returns = rw is (enters_fine N d.counted _ (d, starts_typed P Ts S σ c d args there (S.typed c d there ne) given, (k, (code, returns, hn), w)))

    -- where the caller goes on
    gives_back : (d : Method) (s : List Slot) (us : List VType) → Has us s → Keeps (typed.leaves pc h (results d ++ us)) → Returns P Ts S σ d.result (here l s) k
    gives_back d s us hs e τ keeps v i = by v (given_types P k τ d.result v i)
      where
        now : HaveTypes P k τ us s
        now = types_kept P k σ τ keeps us s hs

        by : (v : Option Value) → HaveTypes P k τ (results d) (given_slots v) → IsTypedFrame P Ts S τ (next (received v (here l s))) k
        by None i = frame_at τ _ (pc + 1) l s e.0 (types_kept P k σ τ keeps h.locals l hl) (joined P k τ (results d) us [] s i now)
        by (Some v) i =
            let p = pushed_on v s in
            rw p (frame_at τ _ (pc + 1) l (pushed v [] ++ s) e.0 (types_kept P k σ τ keeps h.locals l hl) (joined P k τ (results d) us (pushed v []) s i now))

    static_fine : (c : ℕ) (s : List Slot) → source.HasStatic P c → Has h.stack s → Keeps (typed.method_in (method_at P c) (λ d. typed.calls P pc d h)) → DidFine (method_in (method_at P c) (λ d. runs (has_code (Some d)) c (here l s)))
    static_fine c s x hs e = let there = x.there in rw there (by (has_code (Some x.method)) refl)
      where
        d : Method
        d = x.method

        by : (b : Bool) → has_code (Some d) ≡ b → DidFine (runs b c (here l s))
        by false code = traps FirstHeads AbstractMethod s
        by true code =
            let there = x.there in
            let src = source_of c d there in
            let f = finds (reverse d.parameters) [] [] h.stack s _ tt hs (subst (λ (o : Option Method). Keeps (typed.method_in o (λ d. typed.calls P pc d h))) there e) in
            let many : length (reverse d.parameters) ≡ d.places = length-reverse d.parameters ∙ src.many in
            let plain : is_constructor d ≡ false = subst (λ (y : Dispatch). HasObject P y d) x.static src.object in
            let given : HaveTypes P d σ d.parameters f.args = parameters_moved P k d σ false d.parameters f.args src.parameters (subst (λ (ts : List VType). Has ts f.args) (reverse-reverse d.parameters) f.given) in
            rw there (entered_fine FirstHeads c d s f.args f.left there code (ap (λ (n : ℕ). take_args n [] s) (sym many) ∙ f.is)
            (subst (λ (b : Bool). HaveTypes P d σ (first_locals b d.parameters) f.args) (sym plain) given) (gives_back d f.left f.types f.others f.keeps))

    -- what a call over an object finds
    record OverObject (d : Method) (s : List Slot) : Type 0 where
      o : ℕ
      rest : List Slot
      left : List Slot
      taken : take_args d.places [] s ≡ Took (slot.Ref o ∷ rest) left
      at : receiver d s ≡ Some (slot.Ref o)
      given : Has (arguments d) rest
      returns : Returns P Ts S σ d.result (here l left) k

    over_calls : (c : ℕ) (d : Method) (s : List Slot) (n : List ℕ) → method_at P c ≡ Some d → d.parameters ≡ Ref n ∷ arguments d → Has h.stack s → Keeps (typed.calls P pc d h) → (x : OverObject d s) × IsReferenceTo P σ n x.o
    over_calls c d s n there first hs e =
        let src = source_of c d there in
        let f = finds (reverse d.parameters) [] [] h.stack s _ tt hs e in
        let many : length (reverse d.parameters) ≡ d.places = length-reverse d.parameters ∙ src.many in
        let one : d.places ≡ suc (length (arguments d)) = sym src.many ∙ ap length first in
        let is : take_args (suc (length (arguments d))) [] s ≡ Took f.args f.left = ap (λ (n : ℕ). take_args n [] s) (sym one ∙ sym many) ∙ f.is in
        let t = first_taken (length (arguments d)) [] s f.args f.left is in
        let given : Has (Ref n ∷ arguments d) (t.0 ∷ t.1) = subst (Has (Ref n ∷ arguments d)) t.2 (subst (λ (ts : List VType). Has ts f.args) (reverse-reverse d.parameters ∙ first) f.given) in
        let place : d.places - 1 ≡ length (arguments d) = omega (arith, one) in
        by t.0 t.1 given f.left (ap (λ (n : ℕ). take_args n [] s) one ∙ is ∙ ap (λ (args : List Slot). Took args f.left) t.2) (ap (slice_get s) place ∙ t.3) (gives_back d f.left f.types f.others f.keeps)
      where
        by : (v : Slot) (rest : List Slot) → Has (Ref n ∷ arguments d) (v ∷ rest) → (left : List Slot) → take_args d.places [] s ≡ Took (v ∷ rest) left → receiver d s ≡ Some v → Returns P Ts S σ d.result (here l left) k → (x : OverObject d s) × IsReferenceTo P σ n x.o
        by (slot.Ref o) rest given left taken at returns = (record { o = o; rest = rest; left = left; taken = taken; at = at; given = given.1; returns = returns }, given.0)
        by v rest given left taken at returns = absurd given.0

    -- ---- objects that aren't built

    -- what an instruction made is of the class that it names
    new_this : (τ : State) (p : ℕ) (c : List ℕ) → is_named c (new_class P (slice_get k.ops p)) ≡ true → (o : ℕ) → IsNew k τ p o → IsThis P τ c o
    new_this τ p c named o x = record { object = record { object = at.0; row = can.row; there = at.1; is = ap (row_at P) at.2 ∙ can.there; below = within }; past = x.past }
      where
        can : CanMake P x.type false
        can = each_at (IsSourceOp P k) k.ops p (op.New x.type) source_method.each x.made

        at : (b : Object) × (τ.objects o ≡ Some b) × (b.type ≡ x.type)
        at = object_at τ o x.type x.there

        class : new_class P (slice_get k.ops p) ≡ Some can.row.name
        class = ap (new_class P) x.made ∙ ap (λ (r : Option Row). option_and_then (λ (r : Row). Some r.name) r) can.there

        name : can.row.name ≡ c
        name = (bytes_eq-Decides can.row.name c).0 (ap (is_named c) (sym class) ∙ named)

        made_of : (y : Holds) → source.IsMadeOf false can.row y → can.row.read ≡ can.row.name
        made_of (Words ds) e = e
        made_of (Elements d name) e = absurd e

        within : IsWithin P (Ref can.row.read) (Ref c)
        within = subst (λ (n : List ℕ). IsWithin P (Ref can.row.read) (Ref n)) (made_of can.row.holds can.holds ∙ name) can.known.itself

    new_turns : (τ : State) (p : ℕ) (c : List ℕ) → is_named c (new_class P (slice_get k.ops p)) ≡ true → (v : Slot) → HasType P k τ (Uninit p) v → HasType P k τ (Ref c) v
    new_turns τ p c named (slot.Ref o) x = reference_of P τ c o (new_this τ p c named o x).object
    new_turns τ p c named v x = absurd x

    this_turns : (τ : State) (v : Slot) → HasType P k τ UninitThis v → HasType P k τ (Ref k.name.class) v
    this_turns τ (slot.Ref o) x = reference_of P τ k.name.class o x.object
    this_turns τ v x = absurd x

    -- a constructor is given an object of its class, and leaves it built
    record Built (c : List ℕ) (v : Slot) (r : List Slot) : Type 0 where
      o : ℕ
      is : v ≡ slot.Ref o
      this : IsThis P σ c o
      goes : (τ : State) → KeepsTypes σ τ → IsTypedFrame P Ts S τ (here_at (pc + 1) l r) k

    built_at : (u : VType) (c : List ℕ) (b : Bool) (us : List VType) (r : List Slot) → ((τ : State) (v : Slot) → HasType P k τ u v → HasType P k τ (Ref c) v) → Has us r → Keeps (Leads ((pc + 1) ∷ []) (record (built_as u (Ref c) h us) { built = b }))
        → (τ : State) → KeepsTypes σ τ → IsTypedFrame P Ts S τ (here_at (pc + 1) l r) k
    built_at u c b us r turns hr e τ keeps = frame_at τ _ (pc + 1) l r e.0 (become_types P k τ u (Ref c) (turns τ) h.locals l (types_kept P k σ τ keeps h.locals l hl)) (become_types P k τ u (Ref c) (turns τ) us r (types_kept P k σ τ keeps us r hr))

    -- an object of a class is one of the class right above it
    above_this : (c : List ℕ) → (bytes_eq c k.name.class || is_named c (direct_superclass P k.name.class)) ≡ true → IsWithin P (Ref k.name.class) (Ref c) ⊎ (c ≡ k.name.class)
    above_this c e = by (bytes_eq c k.name.class) refl e
      where
        named : (x : Option (List ℕ)) → direct_superclass P k.name.class ≡ x → is_named c x ≡ true → IsWithin P (Ref k.name.class) (Ref c)
        named None is e = absurd (never false e refl)
        named (Some n) is e = superclass_within P C k.name.class c (is ∙ ap (λ (n : List ℕ). Some n) ((bytes_eq-Decides n c).0 e))

        by : (b : Bool) → bytes_eq c k.name.class ≡ b → (b || is_named c (direct_superclass P k.name.class)) ≡ true → IsWithin P (Ref k.name.class) (Ref c) ⊎ (c ≡ k.name.class)
        by true is e = inr ((bytes_eq-Decides c k.name.class).0 is)
        by false is e = inl (named (direct_superclass P k.name.class) refl e)

    widen_this : (c : List ℕ) (o : ℕ) → IsThis P σ k.name.class o → IsWithin P (Ref k.name.class) (Ref c) ⊎ (c ≡ k.name.class) → IsThis P σ c o
    widen_this c o x y = ⊎_elim
        (λ (n : IsWithin P (Ref k.name.class) (Ref c)).
        let b = x.object in
        record { object = record { object = b.object; row = b.row; there = b.there; is = b.is; below = order P C b.row.read k.name.class c b.below n }; past = x.past })
        (λ (e : c ≡ k.name.class). subst (λ (c : List ℕ). IsThis P σ c o) (sym e) x)
        y

    constructs_fine : (c : List ℕ) (t : VType) (v : Slot) (us : List VType) (r : List Slot) → HasType P k σ t v → Has us r → Keeps (constructs P k pc c h t us) → Built c v r
    constructs_fine c (Uninit p) (slot.Ref o) us r x hr e = if_so_fine (is_named c (new_class P (slice_get k.ops p))) _ (Built c (slot.Ref o) r)
        (λ named e. record { o = o; is = refl; this = new_this σ p c named o x; goes = built_at (Uninit p) c h.built us r (λ τ v h. new_turns τ p c named v h) hr e }) e
    constructs_fine c UninitThis (slot.Ref o) us r x hr e = if_so_fine (bytes_eq c k.name.class || is_named c (direct_superclass P k.name.class)) _ (Built c (slot.Ref o) r)
        (λ named e. record { o = o; is = refl; this = widen_this c o x (above_this c named); goes = built_at UninitThis k.name.class true us r this_turns hr e }) e
    constructs_fine c (Uninit p) v us r x hr e = absurd x
    constructs_fine c UninitThis v us r x hr e = absurd x
    constructs_fine c t v us r x hr e = absurd e

    -- ---- calls over objects

    not_null_fine : (o : ℕ) (s : List Slot) (d : Did) → (0 < o → DidFine d) → DidFine (not_null o (here l s) d)
    not_null_fine zero s d p = traps FirstHeads NullPointer s
    not_null_fine (suc o) s d p = p (omega arith)

    over_fine : (c : ℕ) (d : Method) (s : List Slot) → method_at P c ≡ Some d → (x : OverObject d s) → (on : Method → ℕ → Did) → (0 < x.o → DidFine (on d x.o)) → DidFine (over_object P c (here l s) on)
    over_fine c d s there x on p = let at = x.at in rw (there, at) (not_null_fine x.o s (on d x.o) p)

    -- a method over an object of its class; that of a constructor isn't built
    record IsOver (d e : Method) (o : ℕ) : Type 0 where
      runs_code : has_code (Some e) ≡ true
      class : List ℕ
      first : e.parameters ≡ Ref class ∷ arguments e
      arguments_are : arguments d ≡ arguments e
      result : d.result ≡ e.result
      own : is_constructor e ≡ false → IsReferenceTo P σ class o
      this : is_constructor e ≡ true → IsThis P σ e.name.class o

    object_arguments : (d e : Method) (o : ℕ) (rest : List Slot) → (x : IsOver d e o) → HaveTypes P e σ (arguments e) rest → HaveTypes P e σ (first_locals (is_constructor e) e.parameters) (slot.Ref o ∷ rest)
    object_arguments d e o rest x given = subst (λ (ts : List VType). HaveTypes P e σ (first_locals (is_constructor e) ts) (slot.Ref o ∷ rest)) (sym x.first) (by (is_constructor e) refl)
      where
        by : (b : Bool) → is_constructor e ≡ b → HaveTypes P e σ (first_locals b (Ref x.class ∷ arguments e)) (slot.Ref o ∷ rest)
        by true is = (x.this is, given)
        by false is = (x.own is, given)

    object_entered : (N : ℕ → Use → Frames → Type 0) (c : ℕ) (d : Method) (s : List Slot) → method_at P c ≡ Some d → (n : List ℕ) → d.parameters ≡ Ref n ∷ arguments d → (x : OverObject d s) → (to : ℕ) (e : Method) → method_at P to ≡ Some e → IsOver d e x.o
        → Fine P Ts S size σ H N (invokes P (method_at P to) to (here l s) fs)
    object_entered N c d s there n first x to e at y =
        let src = source_of to e at in
        let same : d.places ≡ e.places = sym (source_of c d there).many ∙ ap length first ∙ ap (λ (ts : List VType). suc (length ts)) y.arguments_are ∙ sym (ap length y.first) ∙ src.many in
        let given : Has (arguments e) x.rest = subst (λ (ts : List VType). Has ts x.rest) y.arguments_are x.given in
        let plain : HaveTypes P e σ (arguments e) x.rest = parameters_moved P k e σ false (arguments e) x.rest (subst (source.AreParametersAfter false) y.first src.parameters) given in
        rw at (entered_fine N to e s (slot.Ref x.o ∷ x.rest) x.left at y.runs_code (ap (λ (n : ℕ). take_args n [] s) (sym same) ∙ x.taken) (object_arguments d e x.o x.rest y plain)
        (subst (λ (r : Option VType). Returns P Ts S σ r (here l x.left) k) y.result x.returns))

    runs_fine : (c : ℕ) (d : Method) (s : List Slot) → method_at P c ≡ Some d → (n : List ℕ) → d.parameters ≡ Ref n ∷ arguments d → (x : OverObject d s) → (is_constructor d ≡ false → IsReferenceTo P σ n x.o) → (is_constructor d ≡ true → IsThis P σ d.name.class x.o)
        → DidFine (runs (has_code (Some d)) c (here l s))
    runs_fine c d s there n first x own this = by (has_code (Some d)) refl
      where
        by : (b : Bool) → has_code (Some d) ≡ b → DidFine (runs b c (here l s))
        by false e = traps FirstHeads AbstractMethod s
        by true e = object_entered FirstHeads c d s there n first x c d there (record { runs_code = e; class = n; first = first; arguments_are = refl; result = refl; own = own; this = this })

    -- a constructor's arguments, and what waits for it
    over_constructor : (c : ℕ) (d : Method) (s : List Slot) → method_at P c ≡ Some d → d.dispatch ≢ dispatch.Static → d.result ≡ None → Has h.stack s
        → Keeps (typed.on_each P (reverse (arguments d)) h.stack (λ s. typed.on_top s (λ t s. constructs P k pc d.name.class h t s))) → (x : OverObject d s) × IsThis P σ d.name.class x.o
    over_constructor c d s there over nothing_given hs e =
        let src = source_of c d there in
        let f = finds (reverse (arguments d)) [] [] h.stack s _ tt hs e in
        by f.args f.left f.types (subst (λ (ts : List VType). Has ts f.args) (reverse-reverse (arguments d)) f.given) f.others f.keeps (ap (λ (n : ℕ). take_args n [] s) (sym (length-reverse (arguments d))) ∙ f.is)
        (sym src.many ∙ ap length (some_first P d over src.object).1)
      where
        by : (args left : List Slot) (types : List VType) → Has (arguments d) args → Has types left → Keeps (typed.on_top types (λ t s. constructs P k pc d.name.class h t s)) → take_args (length (arguments d)) [] s ≡ Took args left
            → d.places ≡ suc (length (arguments d)) → (x : OverObject d s) × IsThis P σ d.name.class x.o
        by args left [] given others e is one = absurd e
        by args [] (t ∷ types) given others e is one = absurd others
        by args (v ∷ left) (t ∷ types) given others e is one =
            let b = constructs_fine d.name.class t v types left others.0 others.1 e in
            let taken : take_args d.places [] s ≡ Took (v ∷ args) left = ap (λ (n : ℕ). take_args n [] s) one ∙ take_more (length (arguments d)) [] s args left v is in
            let place : d.places - 1 ≡ length (arguments d) = omega (arith, one) in
            let at = first_taken (length (arguments d)) [] s (v ∷ args) left (take_more (length (arguments d)) [] s args left v is) in
            let first : at.0 ≡ v = deepest v at.0 args at.1 at.2 in (
              record {
                o = b.o;
                rest = args;
                left = left;
                taken = taken ∙ ap (λ (v : Slot). Took (v ∷ args) left) b.is;
                at = ap (slice_get s) place ∙ at.3 ∙ ap (λ (v : Slot). Some v) (first ∙ b.is);
                given = given;
                returns = λ τ keeps r i. back b τ keeps r i;
              },
              b.this,
            )
          where
            back : (b : Built d.name.class v left) (τ : State) → KeepsTypes σ τ → (r : Option Value) → IsGiven P τ d.result r → IsTypedFrame P Ts S τ (next (received r (here l left))) k
            back b τ keeps None i = b.goes τ keeps
            back b τ keeps (Some y) i = absurd (subst (λ (t : Option VType). IsGiven P τ t (Some y)) nothing_given i)

    special_fine : (c : ℕ) (s : List Slot) → HasMethod P c → Has h.stack s → Keeps (typed.method_in (method_at P c) (λ d. typed.special (is_constructor d) P k pc d h)) → DidFine (over_object P c (here l s) (λ d o. runs (has_code (Some d)) c (here l s)))
    special_fine c s x hs e = by (is_constructor x.method) refl (subst (λ (o : Option Method). Keeps (typed.method_in o (λ d. typed.special (is_constructor d) P k pc d h))) x.there e)
      where
        d : Method
        d = x.method

        gives_nothing : (r : Option VType) → not (is_some r) ≡ true → r ≡ None
        gives_nothing None gives = refl
        gives_nothing (Some y) gives = absurd (never false gives refl)

        by : (b : Bool) → is_constructor x.method ≡ b → Keeps (typed.special b P k pc x.method h) → DidFine (over_object P c (here l s) (λ d o. runs (has_code (Some d)) c (here l s)))
        by true new e = if_so_fine (not (is_some x.method.result)) _ (DidFine (over_object P c (here l s) (λ d o. runs (has_code (Some d)) c (here l s)))) (λ gives e.
            let n = some_first P x.method x.over_object (source_of c x.method x.there).object in
            let y = over_constructor c x.method s x.there x.over_object (gives_nothing x.method.result gives) hs e in
            over_fine c x.method s x.there y.0 _ (λ past. runs_fine c x.method s x.there n.0 n.1 y.0 (λ other. absurd (never (is_constructor x.method) new other)) (λ is. y.1))) e
        by false other e =
            let inner = each_inner (reverse (arguments x.method)) h.stack _ e in
            let n = some_first P x.method x.over_object (source_of c x.method x.there).object in
            let y = over_calls c x.method s n.0 x.there n.1 hs (below inner.0 inner.1) in
            over_fine c x.method s x.there y.0 _ (λ past. runs_fine c x.method s x.there n.0 n.1 y.0 (λ is. y.1) (λ new. absurd (never (is_constructor x.method) new other)))
          where
            below : (us : List VType) → Keeps (typed.on_top us (λ t u. typed.if_so (is_within P t (Ref (name_read P k.name.class))) (typed.on_each P (reverse x.method.parameters) h.stack (λ s. typed.leaves pc h (results x.method ++ s))))) → Keeps (typed.calls P pc x.method h)
            below [] e = absurd e
            below (t ∷ us) e = if_so_fine (is_within P t (Ref (name_read P k.name.class))) _ (Keeps (typed.calls P pc x.method h)) (λ is e. e) e

    -- what an object's class selects for a method is over the object, and takes and gives the same
    record IsTarget (d : Method) (o to : ℕ) : Type 0 where
      e : Method
      there : method_at P to ≡ Some e
      over : IsOver d e o

    target_of : (c : ℕ) (d : Method) → method_at P c ≡ Some d → d.dispatch ≢ dispatch.Static → (is_constructor d ≡ true → name_read P d.name.class ≡ d.name.class) → (n : List ℕ) → d.parameters ≡ Ref n ∷ arguments d → (o : ℕ) → 0 < o → (x : IsObjectOf P σ n o) → (to : ℕ) → selected P x.object.type c ≡ Some to → IsTarget d o to
    target_of c d there over named n first o past x to e = by (is_selectable d.dispatch) refl (ap (λ (m : Option Method). option_and_then (λ (k : Method). selected_by (is_selectable k.dispatch) P x.object.type c k) m) (sym there) ∙ e)
      where
        itself : has_code (Some d) ≡ true → c ≡ to → IsTarget d o to
        itself code same =
            let src = source_of c d there in
            record {
              e = d;
              there = ap (method_at P) (sym same) ∙ there;
              over = record {
                runs_code = code;
                class = n;
                first = first;
                arguments_are = refl;
                result = refl;
                own = λ other. reference_of P σ n o x;
                this = λ is.
                    let read = object_first P d over (not_abstract d d.ops code src.code) src.object in
                    let class = same_first n (name_read P d.name.class) (arguments d) (arguments d) (sym first ∙ read) in
                    record { object = subst (λ (n : List ℕ). IsObjectOf P σ n o) (class ∙ named is) x; past = past };
              };
            }

        declared : IsFirst P d (lineage_in (row_at P x.object.type)) to → has_code (method_at P to) ≡ true → IsTarget d o to
        declared f runs =
            let m = f.method in
            let src = source_of to m f.there in
            let a = both (is_selectable m.dispatch) _ f.overrides in
            let b = both (bytes_eq m.name.class f.class) _ a.1 in
            let g = both (bytes_eq m.name.name d.name.name) _ b.1 in
            let class : m.name.class ≡ f.class = (bytes_eq-Decides m.name.class f.class).0 b.0 in
            let descriptor : m.name.descriptor ≡ d.name.descriptor = (bytes_eq-Decides m.name.descriptor d.name.descriptor).0 g.1 in
            let code : has_code (Some m) ≡ true = ap has_code (sym f.there) ∙ runs in
            let dynamic = selectable_over m.dispatch a.0 in
            let alike = S.source.names.described c to d m there f.there over dynamic (sym descriptor) in
            let among : Among f.class x.row.lineage = subst (λ (r : Option Row). Among f.class (lineage_in r)) x.is f.among in
            let within : IsWithin P (Ref x.row.read) (Ref m.name.class) = subst (λ (n : List ℕ). IsWithin P (Ref x.row.read) (Ref n)) (sym class) (class_within P C x.object.type x.row x.is f.class among) in
            let read : IsWithin P (Ref x.row.read) (Ref (name_read P m.name.class)) = S.source.types.instances x.object.type x.row m.name.class x.is (S.source.types.within x.object.type x.row m.name.class x.is within) in
            record {
              e = m;
              there = f.there;
              over = record {
                runs_code = code;
                class = name_read P m.name.class;
                first = object_first P m dynamic (not_abstract m m.ops code src.code) src.object;
                arguments_are = alike.0;
                result = alike.1;
                own = λ other. reference_of P σ (name_read P m.name.class) o (record { object = x.object; row = x.row; there = x.there; is = x.is; below = read });
                this = λ is. record { object = record { object = x.object; row = x.row; there = x.there; is = x.is; below = within }; past = past };
              };
            }

        itself_runs : (b : Bool) → has_code (method_at P c) ≡ b → (if b then Some c else None) ≡ Some to → IsTarget d o to
        itself_runs false code e = absurd (none-some to e)
        itself_runs true code e = itself (ap has_code (sym there) ∙ code) (same_Some c to e)

        runs_first : (a : Option ℕ) → first_in P d (lineage_in (row_at P x.object.type)) ≡ a → runnable P a ≡ Some to → IsTarget d o to
        runs_first None is e = absurd (none-some to e)
        runs_first (Some i) is e = go (has_code (method_at P i)) refl e
          where
            go : (b : Bool) → has_code (method_at P i) ≡ b → (if b then Some i else None) ≡ Some to → IsTarget d o to
            go false is_code e = absurd (none-some to e)
            go true is_code e = let same = same_Some i to e in declared (first_found P d _ to (is ∙ e)) (ap (λ (i : ℕ). has_code (method_at P i)) (sym same) ∙ is_code)

        by : (b : Bool) → is_selectable d.dispatch ≡ b → selected_by (is_selectable d.dispatch) P x.object.type c d ≡ Some to → IsTarget d o to
        by false h e = itself_runs (has_code (method_at P c)) refl (ap (λ (b : Bool). selected_by b P x.object.type c d) (sym h) ∙ e)
        by true h e = runs_first _ refl (ap (λ (b : Bool). selected_by b P x.object.type c d) (sym h) ∙ e)

    found_fine : (N : ℕ → Use → Frames → Type 0) (c : ℕ) (d : Method) (s : List Slot) → method_at P c ≡ Some d → d.dispatch ≢ dispatch.Static → (is_constructor d ≡ true → name_read P d.name.class ≡ d.name.class) → (n : List ℕ) → d.parameters ≡ Ref n ∷ arguments d → (x : OverObject d s) → 0 < x.o → (y : IsObjectOf P σ n x.o)
        → Fine P Ts S size σ H N (enters_found P (selected P y.object.type c) (here l s ∷ fs))
    found_fine N c d s there over named n first x past y = by (selected P y.object.type c) refl
      where
        by : (a : Option ℕ) → selected P y.object.type c ≡ a → Fine P Ts S size σ H N (found P a (here l s) fs)
        by None is = traps N AbstractMethod s
        by (Some to) is =
            let t = target_of c d there over named n first x.o past y to is in
            object_entered N c d s there n first x to t.e t.there t.over

    or_trap_fine : (N : ℕ → Use → Frames → Type 0) (b : Bool) (t : Trap) (s : List Slot) (a : Asked) → (b ≡ true → Fine P Ts S size σ H N a) → Fine P Ts S size σ H N (or_trap b t (here l s ∷ fs) a)
    or_trap_fine N true t s a p = p refl
    or_trap_fine N false t s a p = traps N t s

    -- a call that goes by the class of its object
    virtual_fine : (c : ℕ) (s : List Slot) → HasVirtual P c → Has h.stack s → Keeps (typed.method_in (method_at P c) (λ d. typed.calls P pc d h)) → DidFine (over_object P c (here l s) (λ d o. Does (doing.Head o (Selects c)) (here l s)))
    virtual_fine c s x hs e =
        let d = x.method in
        let n = some_first P d x.over_object (source_of c d x.there).object in
        let y = over_calls c d s n.0 x.there n.1 hs (subst (λ (o : Option Method). Keeps (typed.method_in o (λ d. typed.calls P pc d h))) x.there e) in
        over_fine c d s x.there y.0 _ (λ past.
        let o = object_of_reference P σ n.0 y.0.o past y.1 in
        record { object = o.object; there = o.there; about = tt; goes = found_fine (LastHeads P Ts S size σ H) c d s x.there x.over_object x.constructor n.0 n.1 y.0 past o })

    interface_fine : (c : ℕ) (name : List ℕ) (s : List Slot) → HasVirtual P c → Has h.stack s → Keeps (typed.method_in (method_at P c) (λ d. typed.calls P pc d h)) → DidFine (over_object P c (here l s) (λ d o. Does (doing.Head o (Implements c name)) (here l s)))
    interface_fine c name s x hs e =
        let d = x.method in
        let n = some_first P d x.over_object (source_of c d x.there).object in
        let y = over_calls c d s n.0 x.there n.1 hs (subst (λ (o : Option Method). Keeps (typed.method_in o (λ d. typed.calls P pc d h))) x.there e) in
        over_fine c d s x.there y.0 _ (λ past.
        let o = object_of_reference P σ n.0 y.0.o past y.1 in
        record { object = o.object; there = o.there; about = tt; goes = or_trap_fine (LastHeads P Ts S size σ H) (is_instance P o.object.type name) IncompatibleClassChange s _ (λ is. found_fine (LastHeads P Ts S size σ H) c d s x.there x.over_object x.constructor n.0 n.1 y.0 past o) })

    -- the constructor of a library class
    without_fine : (n : ℕ) (t : VType) (ts : List VType) (s : List Slot) (j : List VType → Flow) (d : List Slot → Did) → Has ts s
        → ((us : List VType) (r : List Slot) → Has us r → Keeps (j us) → DidFine (d r)) → Keeps (typed.on_each P (replicate n t) ts j) → DidFine (without n s d)
    without_fine zero t ts s j d hs p e = p ts s hs e
    without_fine (suc n) t [] s j d hs p e = absurd e
    without_fine (suc n) t (u ∷ ts) [] j d hs p e = absurd hs
    without_fine (suc n) t (u ∷ ts) (v ∷ s) j d hs p e = go (is_within P u t) e (without_fine n t ts s j d hs.1 p)
      where
        go : (b : Bool) → Keeps (if b then typed.on_each P (replicate n t) ts j else Wrong) → (Keeps (typed.on_each P (replicate n t) ts j) → DidFine (without n s d)) → DidFine (without n s d)
        go true e rest = rest e
        go false e rest = absurd e

    library_fine : (c : List ℕ) (n : ℕ) (s : List Slot) → Has h.stack s → Keeps (typed.on_each P (replicate n (Ref string_class)) h.stack (λ s. typed.on_top s (λ t s. constructs P k pc c h t s))) → DidFine (without n s (λ s. on_ref s (λ o s. Does doing.Next (here l s))))
    library_fine c n s hs e = without_fine n (Ref string_class) h.stack s _ _ hs (λ us r hr e. on_top_fine us r _ _ hr (λ t v us r hv hr e.
        let b = constructs_fine c t v us r hv hr e in
        let is = b.is in
        rw is (k, b.goes σ (keeps_same σ), w)) e) e

    -- ---- words of objects

    -- what holds of this instruction
    at_here : (Q : Op → Types → Type 0) (o : Op) → slice_get k.ops pc ≡ Some o → Q o h → (s : List Slot) → IsAt P Ts (here l s) Q
    at_here Q o at_op q s = record { table = T; table_is = typing.there; types = h; types_are = h_is; op = o; op_is = rw code at_op; holds = q }

    -- the type of the word that it reads
    abbrev Reads : Declared → Type 0
    Reads d = (s : List Slot) → IsAt P Ts (here l s) (λ o h. IsReadAt P o h d)

    gets_fine : (N : ℕ → Use → Frames → Type 0) (p : Place) (d : Declared) → IsPlaceOf P size σ p d → (ts us : List VType) (s : List Slot) → ((v : Value) → IsHeld P σ d v → Has ts (pushed v [])) → Has us s → Reads d → Keeps (typed.leaves pc h (ts ++ us))
        → Fine P Ts S size σ H N (Asks (asking.Ask (request.Get p)) (here l s ∷ fs))
    gets_fine N p d x ts us s types hs read e = record {
      declared = d;
      v = x.v;
      held = x.held;
      fits = x.fits;
      read = read s;
      goes = goes_to _ (pc + 1) l _ e.0 hl (joined P k σ ts us (pushed x.v []) s (types x.v x.fits) hs);
    }

    puts_fine : (N : ℕ → Use → Frames → Type 0) (p : Place) (d : Declared) → IsPlaceOf P size σ p d → (y : Value) → IsHeld P σ d y → (us : List VType) (s : List Slot) → Has us s → Keeps (typed.leaves pc h us) → Fine P Ts S size σ H N (Asks (asking.Ask (request.Put p y)) (here l s ∷ fs))
    puts_fine N p d x y fits us s hs e = record { old = x.v; held = x.held; heap = x.put_fits y fits; goes = goes_to _ (pc + 1) l s e.0 hl hs }

    declared_types : (d : Declared) (v : Value) → IsHeld P σ d v → Has (stack_types d) (pushed v [])
    declared_types d v fits = held_types P k σ d.class d.word v fits

    static_place : (n : ℕ) (f : Field) (o : ℕ) → field_at P n ≡ Some f → f.base ≡ Some o → IsPlaceOf P size σ (inner o f) f.declared
    static_place n f o there base =
        let x = subst (λ (b : Option ℕ). HasBase P σ b f) base (each_at (IsFieldHeld P σ) P.fields n f H.fields there) in
        word_place P size σ H o x.base x.row x.there x.is x.words x.holds f.index f.declared x.place

    object_place : (n : ℕ) (f : Field) (o : ℕ) → field_at P n ≡ Some f → f.base ≡ None → IsObjectOf P σ f.class o → IsPlaceOf P size σ (inner o f) f.declared
    object_place n f o there base x =
        let y = field_place P C n f there base x.object.type x.row x.is x.below in
        word_place P size σ H o x.object x.row x.there x.is y.0 y.1 f.index f.declared y.2

    get_static_fine : (n : ℕ) (o : ℕ) (x : HasField P n (Some o)) (s : List Slot) → Has h.stack s → ((f : Field) → field_at P n ≡ Some f → Reads f.declared)
        → Keeps (typed.field_in (field_at P n) (λ f. typed.if_so (is_some f.base) (typed.leaves pc h (stack_types f.declared ++ h.stack)))) → DidFine (static_in (field_at P n) (λ f p. Does (doing.Ask (request.Get p)) (here l s)))
    get_static_fine n o x s hs read e =
        let there = x.there in
        let base = x.base_is in
        let f = x.field in
        let e1 = subst (λ (f : Option Field). Keeps (typed.field_in f (λ f. typed.if_so (is_some f.base) (typed.leaves pc h (stack_types f.declared ++ h.stack))))) there e in
        rw (there, base) (if_so_fine (is_some f.base) _ (DidFine (Does (doing.Ask (request.Get (inner o f))) (here l s))) (λ is e.
        gets_fine FirstHeads (inner o f) f.declared (static_place n f o there base) (stack_types f.declared) h.stack s (declared_types f.declared) hs (read f there) e) e1)

    put_static_fine : (n : ℕ) (o : ℕ) (x : HasField P n (Some o)) (s : List Slot) → Has h.stack s
        → Keeps (typed.field_in (field_at P n) (λ f. typed.if_so (is_some f.base) (typed.on_each P (stack_types f.declared) h.stack (λ s. typed.leaves pc h s))))
        → DidFine (static_in (field_at P n) (λ f p. on_word f.declared.word s (λ v s. Does (doing.Ask (request.Put p v)) (here l s))))
    put_static_fine n o x s hs e =
        let there = x.there in
        let base = x.base_is in
        let f = x.field in
        let e1 = subst (λ (f : Option Field). Keeps (typed.field_in f (λ f. typed.if_so (is_some f.base) (typed.on_each P (stack_types f.declared) h.stack (λ s. typed.leaves pc h s))))) there e in
        rw (there, base) (if_so_fine (is_some f.base) _ (DidFine (on_word f.declared.word s (λ v s. Does (doing.Ask (request.Put (inner o f) v)) (here l s)))) (λ is e.
        on_value_fine f.declared.word f.declared.class h.stack s _ _ hs (λ v us r hv hr e.
        puts_fine FirstHeads (inner o f) f.declared (static_place n f o there base) (kept_by f.declared.word v) (kept_held f.declared.word f.declared.class v hv) us r hr e) e) e1)

    get_field_fine : (n : ℕ) (x : HasField P n None) (s : List Slot) → Has h.stack s → ((f : Field) → field_at P n ≡ Some f → Reads f.declared)
        → Keeps (typed.field_in (field_at P n) (λ f. typed.on P (Ref f.class) h.stack (λ s. typed.leaves pc h (stack_types f.declared ++ s))))
        → DidFine (field_in (field_at P n) (λ f. on_ref s (λ o s. not_null o (here l s) (Does (doing.Ask (request.Get (inner o f))) (here l s)))))
    get_field_fine n x s hs read e =
        let there = x.there in
        let f = x.field in
        let e1 = subst (λ (f : Option Field). Keeps (typed.field_in f (λ f. typed.on P (Ref f.class) h.stack (λ s. typed.leaves pc h (stack_types f.declared ++ s))))) there e in
        rw there (on_ref_fine f.class h.stack s _ _ hs (λ o us r same ho hr e. null_fine f.class o r _ ho (λ past y.
        gets_fine FirstHeads (inner o f) f.declared (object_place n f o there x.base_is y) (stack_types f.declared) us r (declared_types f.declared) hr (read f there) e)) e1)

    -- an object that a field is stored in, which a constructor may be building
    put_object : (f : Field) (t : VType) (v : Slot) → ((is_uninit UninitThis t && bytes_eq f.class k.name.class) || is_within P t (Ref f.class)) ≡ true → HasType P k σ t v → HasType P k σ (Ref f.class) v
    put_object f t v e x = by (is_uninit UninitThis t && bytes_eq f.class k.name.class) refl e
      where
        built : (t : VType) → is_uninit UninitThis t ≡ true → f.class ≡ k.name.class → HasType P k σ t v → HasType P k σ (Ref f.class) v
        built UninitThis is same x = subst (λ (n : List ℕ). HasType P k σ (Ref n) v) (sym same) (this_turns σ v x)
        built t is same x = absurd (never false is refl)

        by : (b : Bool) → (is_uninit UninitThis t && bytes_eq f.class k.name.class) ≡ b → (b || is_within P t (Ref f.class)) ≡ true → HasType P k σ (Ref f.class) v
        by false is e = widen P C k σ t (Ref f.class) v e x
        by true is e = let y = both (is_uninit UninitThis t) (bytes_eq f.class k.name.class) is in built t y.0 ((bytes_eq-Decides f.class k.name.class).0 y.1) x

    put_field_fine : (n : ℕ) (x : HasField P n None) (s : List Slot) → Has h.stack s
        → Keeps (typed.field_in (field_at P n) (λ f. typed.on_each P (stack_types f.declared) h.stack (λ s. typed.puts P k pc f h s)))
        → DidFine (field_in (field_at P n) (λ f. on_word f.declared.word s (λ v s. on_ref s (λ o s. not_null o (here l s) (Does (doing.Ask (request.Put (inner o f) v)) (here l s))))))
    put_field_fine n x s hs e =
        let there = x.there in
        let f = x.field in
        let e1 = subst (λ (f : Option Field). Keeps (typed.field_in f (λ f. typed.on_each P (stack_types f.declared) h.stack (λ s. typed.puts P k pc f h s)))) there e in
        rw there (on_value_fine f.declared.word f.declared.class h.stack s _ _ hs (λ v us r hv hr e.
        on_top_fine us r _ _ hr (λ t z us r hz hr e.
        if_so_fine _ _ (DidFine (ref_in z (λ o. not_null o (here l r) (Does (doing.Ask (request.Put (inner o f) (kept_by f.declared.word v))) (here l r))))) (λ test e.
        ref_fine f.class z _ (put_object f t z test hz) (λ o is ho. null_fine f.class o r _ ho (λ past y.
        puts_fine FirstHeads (inner o f) f.declared (object_place n f o there x.base_is y) (kept_by f.declared.word v) (kept_held f.declared.word f.declared.class v hv) us r hr e))) e) e) e1)

    -- ---- arrays

    -- an array of a type, where there is one
    abbrev IsArrayAt : VType → ℕ → Type 0
    IsArrayAt u o = 0 < o → (n : List ℕ) × (u ≡ Ref n) × (is_array n ≡ true) × IsObjectOf P σ n o

    on_array_fine : (ts : List VType) (s : List Slot) (j : VType → List VType → Flow) (d : ℕ → List Slot → Did) → Has ts s
        → ((u : VType) (o : ℕ) (us : List VType) (r : List Slot) → ts ≡ u ∷ us → IsArrayAt u o → Has us r → Keeps (j u us) → DidFine (d o r)) → Keeps (typed.on_array ts j) → DidFine (on_ref s d)
    on_array_fine [] s j d hs p e = absurd e
    on_array_fine (t ∷ ts) [] j d hs p e = absurd hs
    on_array_fine (Null ∷ ts) (slot.Ref o ∷ s) j d hs p e = p Null o ts s refl (λ past. absurd (let z = hs.0 in omega (arith, past, z))) hs.1 e
    on_array_fine (Null ∷ ts) (v ∷ s) j d hs p e = absurd hs.0
    on_array_fine (Ref n ∷ ts) (slot.Ref o ∷ s) j d hs p e = if_so_fine (is_array n) _ (DidFine (d o s)) (λ is e. p (Ref n) o ts s refl (λ past. (n, refl, is, object_of_reference P σ n o past hs.0)) hs.1 e) e
    on_array_fine (Ref n ∷ ts) (v ∷ s) j d hs p e = absurd hs.0
    on_array_fine (t ∷ ts) s j d hs p e = absurd e

    length_fine : (s : List Slot) → Has h.stack s → Keeps (typed.on_array h.stack (λ t s. typed.leaves pc h (Int ∷ s))) → DidFine (on_ref s (λ o s. not_null o (here l s) (Does (doing.Head o Measures) (here l s))))
    length_fine s hs e = on_array_fine h.stack s _ _ hs (λ u o us r same array hr e. not_null_fine o r _ (λ past.
        let a = array past in
        let x = a.3 in
        record { object = x.object; there = x.there; about = tt; goes = goes_to _ (pc + 1) l _ e.0 hl (length_fits P size σ H o x.object x.row x.there x.is, hr) })) e

    -- an element of an array, by the row of its type
    record IsElement (t : WordType) (n : List ℕ) (row : Row) (p : Place) : Type 0 where
      declared : Declared
      name : List ℕ
      row_holds : row.holds ≡ Elements declared name
      array : IsArray P row declared name
      are : AreElements P t declared n
      place : IsPlaceOf P size σ p declared

    index_fine : (t : WordType) (n : List ℕ) (o : ℕ) (i : ℤ) (e : Element) (s : List Slot) → is_array n ≡ true → typed.has_elements t n ≡ true → (x : IsObjectOf P σ n o) → ((d : Declared) → AreElements P t d n → IsAt P Ts (here l s) (λ o h. IsIndexedAt P o h d))
        → ((p : Place) → IsElement t n x.row p → Fine P Ts S size σ H (LastHeads P Ts S size σ H) (stored x.object.type p (kept_in (Some x.row) e) (here l s ∷ fs))) → DidFine (Does (doing.Head o (Indexes i e)) (here l s))
    index_fine t n o i e s is has x top p =
        record { object = x.object; there = x.there; about = record { row = x.row; is = x.is; declared = a.declared; name = a.name; row_holds = a.holds; at = top a.declared (elements_are P t a.declared n has a.elements) }; goes = by i }
      where
        a : IsArrayRow P C x.row n
        a = array_row P C x.object.type x.row x.is n is x.below

        of : IsArrayOf P size σ H o x.object x.row x.there x.is a.declared
        of = array_of P size σ H o x.object x.row x.there x.is a.declared a.name a.holds

        at : (j : ℕ) → nat_lt j (length_of x.object) ≡ true
            → Fine P Ts S size σ H (LastHeads P Ts S size σ H) (if_addressed (has_address (record { object = o; index = suc j })) (stored x.object.type (record { object = o; index = suc j }) (kept_in (row_at P x.object.type) e) (here l s ∷ fs)))
        at j lt =
            let whole : length_of x.object ≡ length x.object.values = let b = of.array in rw b refl in
            let inside : j < length x.object.values = let f : nat_lt j (length x.object.values) ≡ true = ap (nat_lt j) (sym whole) ∙ lt in grind (arith, nat_tests) in
            let address : o + length x.object.values < 2 ^ 64 = (H.regions o x.object x.there).address in
            let below : o + suc j < 2 ^ 64 = omega (arith, inside, address) in
            let addressed : nat_lt (o + suc j) (2 ^ 64) ≡ true = grind (arith, nat_tests) in
            let row = x.is in
            rw (addressed, row) (p (record { object = o; index = suc j }) (record { declared = a.declared; name = a.name; row_holds = a.holds; array = a.array; are = elements_are P t a.declared n has a.elements; place = of.element j inside }))

        by : (i : ℤ) → Fine P Ts S size σ H (LastHeads P Ts S size σ H) (told P (Indexes i e) o x.object.type (length_of x.object) (here l s ∷ fs))
        by (pos j) = or_trap_fine (LastHeads P Ts S size σ H) (nat_lt j (length_of x.object)) ArrayIndex s _ (at j)
        by (negsuc j) = traps (LastHeads P Ts S size σ H) ArrayIndex s

    int_types : (t : WordType) (c : List ℕ) (v : Value) → IsIntType t → IsValueOf P σ c t v → Has (Int ∷ []) (pushed v [])
    int_types word.Boolean c v i fits = held_types P k σ c word.Boolean v fits
    int_types word.Byte c v i fits = held_types P k σ c word.Byte v fits
    int_types word.Char c v i fits = held_types P k σ c word.Char v fits
    int_types word.Short c v i fits = held_types P k σ c word.Short v fits
    int_types word.Int c v i fits = held_types P k σ c word.Int v fits
    int_types word.Long c v i fits = absurd i
    int_types word.Reference c v i fits = absurd i

    element_held : (t : WordType) (d : Declared) (n : List ℕ) → AreElements P t d n → (v : Value) → IsHeld P σ d v → Has (element_types t (Ref n)) (pushed v [])
    element_held t d n are v fits = by t are.word_is are.class
      where
        held_as : (x : WordType) → d.word ≡ x → IsValueOf P σ d.class x v
        held_as x same = subst (λ (x : WordType). IsValueOf P σ d.class x v) same fits

        int : (x : WordType) → IsIntType x → d.word ≡ helped (Some (Ref n)) x → Has (Int ∷ []) (pushed v [])
        int x i same = int_types (helped (Some (Ref n)) x) d.class v (int_helped (Some (Ref n)) x i) (held_as (helped (Some (Ref n)) x) same)

        reference : (v : Value) → IsValueOf P σ d.class word.Reference v → IsWithin P (Ref d.class) (Ref (element_class n)) → Has (Ref (element_class n) ∷ []) (pushed v [])
        reference (value.Ref o) fits w = (widen P C k σ (Ref d.class) (Ref (element_class n)) (slot.Ref o) w fits, tt)
        reference v fits w = absurd fits

        by : (t : WordType) → d.word ≡ helped (Some (Ref n)) t → (t ≡ word.Reference → IsWithin P (Ref d.class) (Ref (element_class n))) → Has (element_types t (Ref n)) (pushed v [])
        by word.Reference same w = reference v (held_as word.Reference same) (w refl)
        by word.Long same w = held_types P k σ d.class word.Long v (held_as word.Long same)
        by word.Boolean same w = int word.Boolean tt same
        by word.Byte same w = int word.Byte tt same
        by word.Char same w = int word.Char tt same
        by word.Short same w = int word.Short tt same
        by word.Int same w = int word.Int tt same

    load_element_fine : (t : WordType) (s : List Slot) → Has h.stack s → slice_get k.ops pc ≡ Some (op.LoadElement t) → Keeps (typed.on_int h.stack (λ s. typed.on_array s (λ u s. typed.if_so (fits_elements t u) (typed.leaves pc h (element_types t u ++ s)))))
        → DidFine (on_int s (λ i s. on_ref s (λ o s. not_null o (here l s) (Does (doing.Head o (Indexes i element.Load)) (here l s)))))
    load_element_fine t s hs at_op e = on_int_at h.stack s _ _ hs (λ i us r one hr e. on_array_fine us r _ _ hr (λ u o vs r two array hr e. not_null_fine o r _ (λ past.
        let a = array past in
        let under : slice_get h.stack 1 ≡ Some (Ref a.0) = ap (λ (ts : List VType). slice_get ts 1) (one ∙ ap (λ (us : List VType). Int ∷ us) (two ∙ ap (λ (u : VType). u ∷ vs) a.1)) in
        let e1 = subst (λ (u : VType). Keeps (typed.if_so (fits_elements t u) (typed.leaves pc h (element_types t u ++ vs)))) a.1 e in
        if_so_fine (typed.has_elements t a.0) _ (DidFine (Does (doing.Head o (Indexes i element.Load)) (here l r))) (λ has e.
        index_fine t a.0 o i element.Load r a.2 has a.3 (λ d are. at_here _ (op.LoadElement t) at_op (record { name = a.0; under = under; are = are }) r) (λ p y.
        gets_fine (LastHeads P Ts S size σ H) p y.declared y.place (element_types t (Ref a.0)) vs r (element_held t y.declared a.0 y.are) hr (λ s. at_here _ (op.LoadElement t) at_op (record { name = a.0; under = under; are = y.are }) s) e)) e1)) e) e

    int_held : (t : WordType) (c : List ℕ) (x : ℤ) → IsIntType t → FitsSigned w32 x → IsValueOf P σ c t (value.Int (narrowed t x))
    int_held word.Boolean c x i fits = narrowed_number word.Boolean x tt fits
    int_held word.Byte c x i fits = narrowed_number word.Byte x tt fits
    int_held word.Char c x i fits = narrowed_number word.Char x tt fits
    int_held word.Short c x i fits = narrowed_number word.Short x tt fits
    int_held word.Int c x i fits = fits
    int_held word.Long c x i fits = absurd i
    int_held word.Reference c x i fits = absurd i

    -- what is stored in an array, which asks for its own header where it is an object
    stored_fine : (t : WordType) (n : List ℕ) (type : ℕ) (row : Row) → row_at P type ≡ Some row → (p : Place) (x : IsElement t n row p) (v : Value) → IsSorted object_class (sort_of t) v → (us : List VType) (s : List Slot) → Has us s → Keeps (typed.leaves pc h us)
        → Fine P Ts S size σ H (LastHeads P Ts S size σ H) (stored type p (element.Store (kept_by x.declared.word v)) (here l s ∷ fs))
    stored_fine t n type row is p x v hv us s hs e = by t v hv x.are
      where
        d : Declared
        d = x.declared

        puts : (y : Value) → IsHeld P σ d y → Fine P Ts S size σ H (LastHeads P Ts S size σ H) (Asks (asking.Ask (request.Put p y)) (here l s ∷ fs))
        puts y fits = puts_fine (LastHeads P Ts S size σ H) p d x.place y fits us s hs e

        int_puts : (y : ℤ) → FitsSigned w32 y → IsIntType d.word → Fine P Ts S size σ H (LastHeads P Ts S size σ H) (stored type p (element.Store (kept_by d.word (value.Int y))) (here l s ∷ fs))
        int_puts y fits i = puts (value.Int (narrowed d.word y)) (int_held d.word d.class y i fits)

        held_as : (t : WordType) (y : Value) → d.word ≡ t → IsValueOf P σ d.class t y → IsHeld P σ d y
        held_as t y same fits = subst (λ (t : WordType). IsValueOf P σ d.class t y) (sym same) fits

        name_is : element_name (row_at P type) ≡ x.name
        name_is = ap element_name is ∙ ap (λ (y : Holds). element_name (Some (record row { holds = y }))) x.row_holds

        instance : (o : ℕ) (z : IsObjectOf P σ object_class (suc o)) → d.word ≡ word.Reference → is_instance P z.object.type (element_name (row_at P type)) ≡ true → IsHeld P σ d (value.Ref (suc o))
        instance o z same i =
            let one = C.instances z.object.type z.row x.name z.is (ap (is_instance P z.object.type) (sym name_is) ∙ i) in
            held_as word.Reference (value.Ref (suc o)) same (record { object = z.object; row = z.row; there = z.there; is = z.is; below = subst (λ (n : List ℕ). IsWithin P (Ref z.row.read) (Ref n)) (sym (x.array.element same)) one })

        helped_int : (t : WordType) → IsIntType t → AreElements P t d n → IsIntType d.word
        helped_int t i are = subst IsIntType (sym are.word_is) (int_helped (Some (Ref n)) t i)

        by : (t : WordType) (v : Value) → IsSorted object_class (sort_of t) v → AreElements P t d n → Fine P Ts S size σ H (LastHeads P Ts S size σ H) (stored type p (element.Store (kept_by d.word v)) (here l s ∷ fs))
        by word.Reference (value.Ref zero) hv are = puts (value.Ref zero) (held_as word.Reference (value.Ref zero) are.word_is tt)
        by word.Reference (value.Ref (suc o)) hv are = record {
          object = hv.object;
          there = hv.there;
          about = tt;
          goes = or_trap_fine (NoHeads P Ts S size σ H) (is_instance P hv.object.type (element_name (row_at P type))) ArrayStore s _ (λ i. puts_fine (NoHeads P Ts S size σ H) p d x.place (value.Ref (suc o)) (instance o hv are.word_is i) us s hs e);
        }
        by word.Long (value.Long y) hv are = puts (value.Long y) (held_as word.Long (value.Long y) are.word_is hv)
        by word.Boolean (value.Int y) hv are = int_puts y hv (helped_int word.Boolean tt are)
        by word.Byte (value.Int y) hv are = int_puts y hv (helped_int word.Byte tt are)
        by word.Char (value.Int y) hv are = int_puts y hv (helped_int word.Char tt are)
        by word.Short (value.Int y) hv are = int_puts y hv (helped_int word.Short tt are)
        by word.Int (value.Int y) hv are = int_puts y hv (helped_int word.Int tt are)
        by t v hv are = absurd hv

    store_element_fine : (t : WordType) (s : List Slot) → Has h.stack s → slice_get k.ops pc ≡ Some (op.StoreElement t) → Keeps (typed.on_each P (stored_types t) h.stack (λ s. typed.on_int s (λ s. typed.on_array s (λ u s. typed.if_so (fits_elements t u) (typed.leaves pc h s)))))
        → DidFine (on_value (sort_of t) s (λ v s. on_int s (λ i s. on_ref s (λ o s. not_null o (here l s) (Does (doing.Head o (Indexes i (element.Store v))) (here l s))))))
    store_element_fine t s hs at_op e = on_value_at t object_class h.stack s _ _ hs (λ zs v us r first many hv hr e. on_int_at us r _ _ hr (λ i vs r one hr e. on_array_fine vs r _ _ hr (λ u o ws r two array hr e. not_null_fine o r _ (λ past.
        let a = array past in
        let place : 1 + word_places t ≡ length zs + 1 = omega (arith, many) in
        let under : slice_get h.stack (1 + word_places t) ≡ Some (Ref a.0) = ap (slice_get h.stack) place ∙ ap (λ (ts : List VType). slice_get ts (length zs + 1)) (first ∙ ap (λ (us : List VType). zs ++ us) (one ∙ ap (λ (us : List VType). Int ∷ us) (two ∙ ap (λ (u : VType). u ∷ ws) a.1))) ∙ get_back zs _ 1 in
        let e1 = subst (λ (u : VType). Keeps (typed.if_so (fits_elements t u) (typed.leaves pc h ws))) a.1 e in
        if_so_fine (typed.has_elements t a.0) _ (DidFine (Does (doing.Head o (Indexes i (element.Store v))) (here l r))) (λ has e.
        index_fine t a.0 o i (element.Store v) r a.2 has a.3 (λ d are. at_here _ (op.StoreElement t) at_op (record { name = a.0; under = under; are = are }) r) (λ p y.
        let kept : kept_in (Some a.3.row) (element.Store v) ≡ element.Store (kept_by y.declared.word v) = ap (λ (z : Holds). kept_in (Some (record a.3.row { holds = z })) (element.Store v)) y.row_holds in
        subst (λ (z : Element). Fine P Ts S size σ H (LastHeads P Ts S size σ H) (stored a.3.object.type p z (here l r ∷ fs))) (sym kept) (stored_fine t a.0 a.3.object.type a.3.row a.3.is p y v hv ws r hr e))) e1)) e) e) e

    -- ---- new objects, casts, results and exceptions

    makes_fine : (t n : ℕ) (row : Row) → row_at P t ≡ Some row → n < 2147483648 → (g : Types) (s : List Slot) → ((τ : State) → KeepsTypes σ τ → HaveTypes P k τ g.locals l) → ((τ : State) → KeepsTypes σ τ → (o : ℕ) → type_at τ o ≡ Some t → 0 < o → HaveTypes P k τ g.stack (slot.Ref o ∷ s))
        → Keeps (Leads ((pc + 1) ∷ []) g) → DidFine (Does (doing.Make t n) (here l s))
    makes_fine t n row is few g s locals stack e = record { row = row; is = is; few = few; goes = λ τ keeps o there past. (k, frame_at τ g (pc + 1) l (slot.Ref o ∷ s) e.0 (locals τ keeps) (stack τ keeps o there past), all_wait_kept P Ts S σ τ keeps k.result fs w) }

    new_fine : (t : ℕ) → CanMake P t false → slice_get k.ops pc ≡ Some (op.New t) → (s : List Slot) → Has h.stack s → Keeps (typed.row_in (row_at P t) (λ r. typed.makes_new (list_any (is_uninit (Uninit pc)) h.stack) pc h)) → DidFine (Does (doing.Make t 0) (here l s))
    new_fine t can at_op s hs e = by (list_any (is_uninit (Uninit pc)) h.stack) (subst (λ (r : Option Row). Keeps (typed.row_in r (λ r. typed.makes_new (list_any (is_uninit (Uninit pc)) h.stack) pc h))) can.there e)
      where
        by : (b : Bool) → Keeps (typed.makes_new b pc h) → DidFine (Does (doing.Make t 0) (here l s))
        by true e = absurd e
        by false e = makes_fine t 0 can.row can.there (omega arith) _ s
            (λ τ keeps. become_types P k τ (Uninit pc) Top (λ v h. tt) h.locals l (types_kept P k σ τ keeps h.locals l hl))
            (λ τ keeps o there past. (record { type = t; made = at_op; there = there; past = past }, types_kept P k σ τ keeps h.stack s hs)) e

    new_array_fine : (t : ℕ) → CanMake P t true → (s : List Slot) → Has h.stack s → Keeps (typed.row_in (row_at P t) (λ r. typed.on_int h.stack (λ s. typed.leaves pc h (Ref r.read ∷ s)))) → DidFine (on_int s (λ n s. sized n t (here l s)))
    new_array_fine t can s hs e = on_int_fine h.stack s _ _ hs by (subst (λ (r : Option Row). Keeps (typed.row_in r (λ r. typed.on_int h.stack (λ s. typed.leaves pc h (Ref r.read ∷ s))))) can.there e)
      where
        made : (τ : State) (o : ℕ) → type_at τ o ≡ Some t → IsObjectOf P τ can.row.read o
        made τ o there = let x = object_at τ o t there in record { object = x.0; row = can.row; there = x.1; is = ap (row_at P) x.2 ∙ can.there; below = can.known.itself }

        by : (x : ℤ) (us : List VType) (r : List Slot) → FitsSigned w32 x → Has us r → Keeps (typed.leaves pc h (Ref can.row.read ∷ us)) → DidFine (sized x t (here l r))
        by (negsuc n) us r fits hr e = traps FirstHeads NegativeArraySize r
        by (pos n) us r fits hr e = makes_fine t n can.row can.there fits.sfits _ r
            (λ τ keeps. types_kept P k σ τ keeps h.locals l hl)
            (λ τ keeps o there past. (reference_of P τ can.row.read o (made τ o there), types_kept P k σ τ keeps us r hr)) e

    under_kind : (c : List ℕ) (o : ℕ) (n : List ℕ) (x : IsObjectOf P σ n (suc o)) → is_instance P x.object.type c ≡ true → IsObjectOf P σ (name_read P c) (suc o)
    under_kind c o n x e = record { object = x.object; row = x.row; there = x.there; is = x.is; below = C.instances x.object.type x.row c x.is e }

    casts_fine : (c : List ℕ) (s : List Slot) → Has h.stack s → Keeps (typed.on_reference P h.stack (λ s. typed.leaves pc h (Ref (name_read P c) ∷ s))) → DidFine (on_ref s (λ o r. if_object o (Does doing.Next (here l s)) (Does (doing.Head o (Casts c)) (here l s))))
    casts_fine c s hs e = on_ref_fine object_class h.stack s _ _ hs by e
      where
        by : (o : ℕ) (us : List VType) (r : List Slot) → s ≡ slot.Ref o ∷ r → IsReferenceTo P σ object_class o → Has us r → Keeps (typed.leaves pc h (Ref (name_read P c) ∷ us)) → DidFine (if_object o (Does doing.Next (here l s)) (Does (doing.Head o (Casts c)) (here l s)))
        by zero us r same ho hr e = goes_next _ l s e hl (subst (Has (Ref (name_read P c) ∷ us)) (sym same) (tt, hr))
        by (suc o) us r same ho hr e = record {
          object = ho.object;
          there = ho.there;
          about = tt;
          goes = or_trap_fine (LastHeads P Ts S size σ H) (is_instance P ho.object.type c) ClassCast s _ (λ is. goes_to _ (pc + 1) l s e.0 hl (subst (Has (Ref (name_read P c) ∷ us)) (sym same) (under_kind c o object_class ho is, hr)));
        }

    tests_fine : (c : List ℕ) (s : List Slot) → Has h.stack s → Keeps (typed.on_reference P h.stack (λ s. typed.leaves pc h (Int ∷ s))) → DidFine (on_ref s (λ o r. if_object o (Does doing.Next (here l (slot.Int (pos 0) ∷ r))) (Does (doing.Head o (Tests c)) (here l r))))
    tests_fine c s hs e = on_ref_fine object_class h.stack s _ _ hs by e
      where
        told_truth : (b : Bool) → HasType P k σ Int (truth b)
        told_truth true = truth_fits true
        told_truth false = truth_fits false

        by : (o : ℕ) (us : List VType) (r : List Slot) → s ≡ slot.Ref o ∷ r → IsReferenceTo P σ object_class o → Has us r → Keeps (typed.leaves pc h (Int ∷ us)) → DidFine (if_object o (Does doing.Next (here l (slot.Int (pos 0) ∷ r))) (Does (doing.Head o (Tests c)) (here l r)))
        by zero us r same ho hr e = goes_next _ l _ e hl (truth_fits false, hr)
        by (suc o) us r same ho hr e = record { object = ho.object; there = ho.there; about = tt; goes = goes_to _ (pc + 1) l _ e.0 hl (told_truth (is_instance P ho.object.type c), hr) }

    given_fine : (v : Option Value) → IsGiven P σ k.result v → AsksFine P Ts S size σ H (gives v fs)
    given_fine v i = gives_fine P Ts S size σ H k.result v fs i w

    return_fine : (g : Types) (s : List Slot) → Keeps (typed.ends (not (is_some k.result) && (not (is_constructor k) || h.built)) g) → DidFine (Does (doing.Give None) (here l s))
    return_fine g s e = by k.result refl e
      where
        by : (r : Option VType) → k.result ≡ r → Keeps (typed.ends (not (is_some r) && (not (is_constructor k) || h.built)) g) → DidFine (Does (doing.Give None) (here l s))
        by None is e = given_fine None (subst (λ (r : Option VType). IsGiven P σ r None) (sym is) tt)
        by (Some t) is e = absurd e

    return_value_fine : (t : Sort) (s : List Slot) → Has h.stack s → Keeps (typed.if_so (typed.returns t k.result) (typed.on_each P (results k) h.stack (λ s. typed.ends true (typed.with_stack h s)))) → DidFine (on_value t s (λ v s. Does (doing.Give (Some v)) (here l s)))
    return_value_fine t s hs e = by t k.result refl e
      where
        give : (r : VType) (v : Value) → k.result ≡ Some r → IsGiven P σ (Some r) (Some v) → AsksFine P Ts S size σ H (gives (Some v) fs)
        give r v is i = given_fine (Some v) (subst (λ (r : Option VType). IsGiven P σ r (Some v)) (sym is) i)

        by : (t : Sort) (r : Option VType) → k.result ≡ r → Keeps (typed.if_so (typed.returns t r) (typed.on_each P (result_types r) h.stack (λ s. typed.ends true (typed.with_stack h s)))) → DidFine (on_value t s (λ v s. Does (doing.Give (Some v)) (here l s)))
        by sort.Int (Some Int) is e = on_fine Int h.stack s _ _ hs (λ v us r same hv hr e. int_slot v _ hv (λ x hx. give Int (value.Int x) is hx)) e
        by sort.Long (Some Long) is e = on_long_fine h.stack s _ _ hs (λ x us r hx hr e. give Long (value.Long x) is hx) e
        by sort.Reference (Some (Ref n)) is e = on_ref_fine n h.stack s _ _ hs (λ o us r same ho hr e. give (Ref n) (value.Ref o) is ho) e
        by t r is e = absurd e

    -- an exception, whose class is that of an object
    throw_fine : (s : List Slot) → Has h.stack s → Keeps (typed.on P (Ref throwable_class) h.stack (λ s. typed.ends true (typed.with_stack h s))) → DidFine (on_ref s (λ o s. not_null o (here l s) (throws (is_counted P m) o (here l s))))
    throw_fine s hs e = on_ref_fine throwable_class h.stack s _ _ hs (λ o us r same ho hr e. null_fine throwable_class o r _ ho (λ past x.
        let counted : is_counted P m ≡ true = ap is_counted_in code ∙ source_method.counted in
        rw counted (record { type = x.object.type; thrown = record { there = type_of σ o x.object x.there; row = x.row; is = x.is; below = x.below }; throws = thrown_on r }))) e

    constant_fine : (v : Value) (s : List Slot) → source.IsConstant v → Has h.stack s → Keeps (typed.leaves pc h (typed.constant_types v ++ h.stack)) → DidFine (Does doing.Next (here l (pushed v s)))
    constant_fine (value.Int n) s src hs e = goes_next _ l _ e hl (src, hs)
    constant_fine (value.Long n) s src hs e = goes_next _ l _ e hl (tt, (src, hs))
    constant_fine (value.Ref zero) s src hs e = goes_next _ l _ e hl (refl, hs)
    constant_fine (value.Ref (suc o)) s src hs e = absurd (omega (arith, src))

    text_fine : (n : ℕ) (s : List Slot) → n < length P.texts → Has h.stack s → Keeps (typed.if_so (is_some (slice_get P.texts n)) (typed.leaves pc h (Ref string_class ∷ h.stack))) → DidFine (number_in (slice_get P.texts n) (λ o. Does doing.Next (here l (slot.Ref o ∷ s))))
    text_fine n s lt hs e =
        let x = some_at P.texts n lt in
        let o = each_at (IsObjectOf P σ string_class) P.texts n x.0 H.texts x.1 in
        let is = x.1 in
        rw is (if_so_fine (is_some (slice_get P.texts n)) _ (DidFine (Does doing.Next (here l (slot.Ref x.0 ∷ s)))) (λ there e. goes_next _ l _ e hl (reference_of P σ string_class x.0 o, hs)) e)

    -- an instruction that keeps the rules finds what it takes, and leaves what they say
    pub op_fine : (o : Op) → slice_get k.ops pc ≡ Some o → IsSourceOp P k o → (s : List Slot) → Has h.stack s → Keeps (flow P k pc o h) → DidFine (does P o (here l s))
    op_fine (op.Constant v) at_op src s hs e = constant_fine v s src hs e
    op_fine (op.Text n) at_op src s hs e = text_fine n s src hs e
    op_fine (op.Load t i) at_op src s hs e = loads_fine t i s hs e
    op_fine (op.Store t i) at_op src s hs e = stores_fine t i s hs e
    op_fine (op.Stack r) at_op src s hs e = rearranged_fine r s hs e
    op_fine (op.Binary b x) at_op src s hs e =
        on_number_fine b h.stack s _ _ hs (λ y us r hy hr e. on_number_fine b us r _ _ hr (λ z us r hz hr e. goes_next _ l _ e hl (numbered_types b _ us r (binary_fits b x z y hz hy) hr)) e) e
    op_fine (op.Shift b x) at_op src s hs e = on_int_fine h.stack s _ _ hs (λ y us r hy hr e. on_number_fine b us r _ _ hr (λ z us r hz hr e. goes_next _ l _ e hl (numbered_types b _ us r (shifted_fits b x z (shift_distance b y) hz) hr)) e) e
    op_fine (op.Divide b d) at_op src s hs e = on_number_fine b h.stack s _ _ hs (λ y us r hy hr e. on_number_fine b us r _ _ hr (λ x us r hx hr e. divides_fine (int_eq y (pos 0)) b d x y us r s hx hy hr e) e) e
    op_fine (op.Unary b u) at_op src s hs e = on_number_fine b h.stack s _ _ hs (λ x us r hx hr e. goes_next _ l _ e hl (numbered_types b _ us r (unary_fits b u x hx) hr)) e
    op_fine (op.Convert c) at_op src s hs e = converted_fine c s hs e
    op_fine op.CompareLongs at_op src s hs e = on_long_fine h.stack s _ _ hs (λ y us r hy hr e. on_long_fine us r _ _ hr (λ x us r hx hr e. goes_next _ l _ e hl (compared_fits x y, hr)) e) e
    op_fine (op.Increment i n) at_op src s hs e = load_int (slice_get h.locals i) (slice_get l i) _ _ (get_types P k σ h.locals l i hl) (λ is x hx e. goes_next _ _ s e (same_types P k σ h.locals l i Int _ is hl (add_fits x n)) hs) e
    op_fine (op.Branch t to) at_op src s hs e = on_int_fine h.stack s _ _ hs (λ x us r hx hr e. branches_fine (holds t x (pos 0)) to us r hr e) e
    op_fine (op.BranchInts t to) at_op src s hs e = on_int_fine h.stack s _ _ hs (λ y us r hy hr e. on_int_fine us r _ _ hr (λ x us r hx hr e. branches_fine (holds t x y) to us r hr e) e) e
    op_fine (op.BranchNull b to) at_op src s hs e = on_ref_fine object_class h.stack s _ _ hs (λ o us r z ho hr e. branches_fine (same b (nat_eq o 0)) to us r hr e) e
    op_fine (op.BranchReferences b to) at_op src s hs e = on_ref_fine object_class h.stack s _ _ hs (λ q us r z hq hr e. on_ref_fine object_class us r _ _ hr (λ o us r z ho hr e. branches_fine (same b (nat_eq o q)) to us r hr e) e) e
    op_fine (op.Goto to) at_op src s hs e = jumps_fine to l s (goes_to h to l s e.0 hl hs)
    op_fine (op.Switch other cases) at_op src s hs e =
        on_int_fine h.stack s _ _ hs (λ x us r hx hr e. jumps_fine (switched other cases x) l r (goes_to (typed.with_stack h us) (switched other cases x) l r (exit_has (Covers P k T (typed.with_stack h us)) other cases x e) hl hr)) e
    op_fine (op.GetStatic n) at_op src s hs e = get_static_fine n src.0 src.1 s hs (λ f there s. at_here _ (op.GetStatic n) at_op (f, there, refl) s) e
    op_fine (op.PutStatic n) at_op src s hs e = put_static_fine n src.0 src.1 s hs e
    op_fine (op.GetField n c) at_op src s hs e = if_so_fine _ _ (DidFine (does P (op.GetField n c) (here l s))) (λ is e. get_field_fine n src s hs (λ f there s. at_here _ (op.GetField n c) at_op (f, there, refl) s) e) e
    op_fine (op.PutField n c) at_op src s hs e = if_so_fine _ _ (DidFine (does P (op.PutField n c) (here l s))) (λ is e. put_field_fine n src s hs e) e
    op_fine (op.InvokeStatic c) at_op src s hs e = static_fine c s src hs e
    op_fine (op.InvokeSpecial c) at_op src s hs e = special_fine c s src hs e
    op_fine (op.InvokeVirtual m c) at_op src s hs e = if_so_fine _ _ (DidFine (does P (op.InvokeVirtual m c) (here l s))) (λ is e. virtual_fine m s src hs e) e
    op_fine (op.InvokeInterface c n) at_op src s hs e = interface_fine c n s src hs e
    op_fine (op.InitLibrary c n) at_op src s hs e = library_fine c n s hs e
    op_fine (op.New t) at_op src s hs e = new_fine t src at_op s hs e
    op_fine (op.NewArray t) at_op src s hs e = new_array_fine t src s hs e
    op_fine op.ArrayLength at_op src s hs e = length_fine s hs e
    op_fine (op.LoadElement t) at_op src s hs e = load_element_fine t s hs at_op e
    op_fine (op.StoreElement t) at_op src s hs e = store_element_fine t s hs at_op e
    op_fine (op.CheckCast c) at_op src s hs e = casts_fine c s hs e
    op_fine (op.InstanceOf c) at_op src s hs e = tests_fine c s hs e
    op_fine op.Return at_op src s hs e = return_fine h s e
    op_fine (op.ReturnValue t) at_op src s hs e = return_value_fine t s hs e
    op_fine op.Throw at_op src s hs e = throw_fine s hs e
    op_fine op.GetContext at_op src s hs e = absurd src
    op_fine (op.Context c) at_op src s hs e = absurd src
