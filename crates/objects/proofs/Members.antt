-- Instructions that read and write fields: what the original does in one step, the accessor does with the engine.
use Rattle.std.proofs.Common.{◌≡◌, ℕ, ℤ, zero, suc, ◌+◌, ◌^◌, ◌<◌, ◌≤◌, List, [], ◌∷◌, ◌++◌, length, Option, Some, None, Bool, true, false, refl, sym, ap, subst, ◌∙◌, arith, ◌⊎◌, inl, inr, ⊎_elim}
use Rattle.std.specs.Prelude.{pos, negsuc, codes, slice_get, nat_eq, nat_lt, bytes_eq, if◌then◌else◌}
use Rattle.std.specs.List.{AllByRecursion}
use Rattle.jmodel.specs.declared.value.Value.{Value}
use Rattle.jmodel.specs.declared.value.Value.TheVariants as value
use Rattle.jmodel.specs.declared.typing.VType.{VType}
use Rattle.jmodel.specs.declared.typing.VType.TheVariants as type
use Rattle.jmodel.specs.history.History.{Words, overlaid, Agrees}
use Rattle.objects.specs.declared.op.Slot.{Slot}
use Rattle.objects.specs.declared.op.Slot.TheVariants.{Int, Long, Second, Ref, Context, Loaded}
use Rattle.objects.specs.declared.op.Sort.{Sort}
use Rattle.objects.specs.declared.op.Sort.TheVariants as sort
use Rattle.objects.specs.declared.op.WordType.{WordType}
use Rattle.objects.specs.declared.op.WordType.TheVariants as word
use Rattle.objects.specs.declared.op.Op.{Op}
use Rattle.objects.specs.declared.op.Op.TheVariants.{CheckCast, ReturnValue}
use Rattle.objects.specs.declared.op.Op.TheVariants as op
use Rattle.objects.specs.declared.op.Place.{Place}
use Rattle.objects.specs.declared.op.Phase.TheVariants.{Open}
use Rattle.objects.specs.declared.op.Made.TheVariants.{Raised}
use Rattle.objects.specs.declared.op.Use.TheVariants.{Casts, Indexes, Fits}
use Rattle.objects.specs.declared.op.Element.{Element}
use Rattle.objects.specs.declared.op.Element.TheVariants as element
use Rattle.objects.specs.declared.op.Trap.TheVariants.{NullPointer, ClassCast, ArrayIndex, ArrayStore}
use Rattle.objects.specs.declared.op.Request.TheVariants as request
use Rattle.objects.specs.declared.op.Asking.TheVariants as asking
use Rattle.objects.specs.linking.Library.{trap_type}
use Rattle.objects.specs.typing.TypeOrder.{object_class, element_class, IsWithin}
use Rattle.objects.proofs.Elements.{never, order}
use Rattle.objects.specs.semantics.Value.{word_of, value_of, pushed, kept_by, slots_of}
use Rattle.objects.specs.semantics.Program.{Declared, Holds, Row, Field, Method, Program, field_at, op_at, row_at, is_counted, is_instance}
use Rattle.objects.specs.semantics.Region.{Region}
use Rattle.objects.specs.semantics.State.{Object, length_of, State, put, type_in, length_in}
use Rattle.objects.specs.history.Meaning.{IsHeap}
use Rattle.objects.specs.declared.op.Doing.TheVariants as doing
use Rattle.objects.specs.semantics.Step.{Frame, Frames, Did, Does, Asked, Asks, Fails, step, on_did, on_int, on_value, on_ref, sort_of, not_null, inner, advanced, resumed, catch_at, unwinds, told, or_trap, in_bounds, has_address, element_place, element_name, kept_in, stored}
use Rattle.objects.specs.semantics.Call.{Direct, direct, next_direct}
use Rattle.objects.specs.semantics.Call as call
use Rattle.objects.specs.rewriting.Attempt.{Log, access, address, answered, written, recorded, Reply, Gives, Refuses, Bounds, Meter, Run, On, next_run, on_look, on_read, on_write, on_head}
use Rattle.objects.specs.rewriting.Attempt as attempt
use Rattle.objects.specs.typing.Typing.{Types, Table, types_at}
use Rattle.objects.specs.laws.TypingLaw.{IsTypedProgram}
use Rattle.objects.specs.laws.Law.{IsOnWay, state_of}
use Rattle.objects.specs.declared.op.Use.{Use}
use Rattle.objects.specs.declared.op.Trap.{Trap}
use Rattle.objects.specs.typing.Source.{IsBase, IsBased, IsSourceField, IsSourceOp, IsSourceMethod}
use Rattle.objects.specs.rewriting.Rewriting.{Typed, array_under, helped, after_load, word_places, element_getter, element_setter, element_getter_method, element_setter_method, getter_method, setter_method, static_getter, static_setter, field_getter, field_setter, duplicate_code, block_len_of, block_at, duplicate, getter, setter, cast_of}
use Rattle.objects.proofs.Frames.{frame}
use Rattle.objects.proofs.Fields.{each_at}
use Rattle.objects.proofs.Alike.{Stands}
use Rattle.objects.proofs.Agreeing.{agree_within}
use Rattle.objects.proofs.Exits
use Rattle.objects.proofs.Exits.{KeepsLocals, exits_of, exits_reached}
use Rattle.objects.proofs.Inner.{IsAdded, IsInnerOp, IsInnerUse}
use Rattle.objects.proofs.Lost.{IsSet}
use Rattle.objects.proofs.Replies.{Leads}
use Rattle.objects.proofs.Places.{Rewrites, HasAt, has_block, typed_at}
use Rattle.objects.proofs.Caught.{row_moved, instance_moved}
use Rattle.objects.proofs.Above.{AboveCall, inner as added_frame, InsideCall, above_inside, told_inner}
use Rattle.objects.proofs.Tied.{Tied, Callers, Thrown, typed_code, there_of}
use Rattle.objects.proofs.Tied as tied
use Rattle.objects.proofs.Makes.{run_asks, IsSynced, on, casts_on, goes_synced, heads_synced, requests_synced}
use Rattle.objects.proofs.Goals.{Here, StandsFor, IsGoal, Continues, reaches_next, Reaches, SoFar}
use Rattle.objects.proofs.Simple.{onward, Stage, stage_so_far, at_make, throws_on, next_tie}
use Rattle.objects.proofs.Heap.{held_at, put_keeps}
use Rattle.objects.proofs.Wrapper.{value_sort}
use Rattle.objects.proofs.SlotTypes.{pushed_on}
use Rattle.std.proofs.lemmas.List.{append-nil}
use Rattle.std.proofs.lemmas.Option.{same_Some}
use Rattle.objects.proofs.TypedFrames.{AreTyped, frames_kept, AsksFine, GetsFine, PutsFine, MakesFine, Heads, NoHeads, LastHeads, Fine, IsIndexedAt, IsElementOf, IsReadAt, IsAt}
use Rattle.objects.proofs.Safety.{step_fine}
use Rattle.objects.proofs.Standing.{header_back, place_near}
use Rattle.objects.proofs.Steps.{value_is, gets, cast_holds, puts, put_stands}
use Rattle.objects.proofs.Rows.{known_field, known_static, far, cast_cases, static_end, field_end, returns, passes, cast_null, cast_asks, cast_returns, static_first, static_look, static_second, static_read, static_put, static_write, static_last, field_first, field_null, field_look, field_second, field_read, field_put, put_null, field_write, field_last, element_end, element_first, element_null, element_look, element_look_asks, element_second, element_read, element_put, element_put_null, element_write, element_write_asks, element_last}

from_zero : (i : ℕ) → 0 + i ≡ i
from_zero i = omega arith

-- a value on top of a stack
pub record Popped (t : Sort) (s : List Slot) : Type 0 where
  pub v : Value
  pub rest : List Slot
  pub is : s ≡ pushed v rest
  pub sort : value_sort v ≡ t

pub popped : (P : Program) (fs : Frames) (F : Asked → Type 0) → (F Fails → ⊥) → (t : Sort) (s : List Slot) (d : Value → List Slot → Did) → F (on_did P (on_value t s d) fs) → Popped t s
popped P fs F wrong sort.Int (Int x ∷ s) d h = record { v = value.Int x; rest = s; is = refl; sort = refl }
popped P fs F wrong sort.Long (Second ∷ Long x ∷ s) d h = record { v = value.Long x; rest = s; is = refl; sort = refl }
popped P fs F wrong sort.Reference (Ref o ∷ s) d h = record { v = value.Ref o; rest = s; is = refl; sort = refl }
popped P fs F wrong t s d h = absurd (wrong h)

pub ref_popped : (P : Program) (fs : Frames) (F : Asked → Type 0) → (F Fails → ⊥) → (s : List Slot) (d : ℕ → List Slot → Did) → F (on_did P (on_ref s d) fs) → (o : ℕ) × (rest : List Slot) × (s ≡ Ref o ∷ rest)
ref_popped P fs F wrong (Ref o ∷ s) d h = (o, s, refl)
ref_popped P fs F wrong s d h = absurd (wrong h)

pub int_popped : (P : Program) (fs : Frames) (F : Asked → Type 0) → (F Fails → ⊥) → (s : List Slot) (d : ℤ → List Slot → Did) → F (on_did P (on_int s d) fs) → (i : ℤ) × (rest : List Slot) × (s ≡ Int i ∷ rest) × F (on_did P (d i rest) fs)
int_popped P fs F wrong (Int i ∷ s) d h = (i, s, refl, h)
int_popped P fs F wrong s d h = absurd (wrong h)

-- what stands behind the load of an element
load_cases : (t : WordType) (n : List ℕ) → (after_load t (Some (type.Ref n)) ≡ []) ⊎ ((t ≡ word.Reference) × (after_load t (Some (type.Ref n)) ≡ CheckCast (element_class n) ∷ []))
load_cases word.Reference n = by (bytes_eq (element_class n) object_class)
  where
    by : (b : Bool) → ((if b then [] else CheckCast (element_class n) ∷ []) ≡ []) ⊎ ((word.Reference ≡ word.Reference) × ((if b then [] else CheckCast (element_class n) ∷ []) ≡ CheckCast (element_class n) ∷ []))
    by true = inl refl
    by false = inr (refl, refl)
load_cases t n = inl refl

value_kind_of : (t : WordType) (x : ℕ) → value_sort (value_of t x) ≡ sort_of t
value_kind_of word.Boolean x = refl
value_kind_of word.Byte x = refl
value_kind_of word.Char x = refl
value_kind_of word.Short x = refl
value_kind_of word.Int x = refl
value_kind_of word.Long x = refl
value_kind_of word.Reference x = refl

module _ (P : Program) (Ts : List Table) (S : IsTypedProgram P Ts) (Q : Program) (R : Rewrites P Ts Q) (B : Bounds) (mn : ℕ) (args : List Value) (ws : Words) (σ : State) (gives_type : Option VType) (c q z : ℕ) (slots : List Slot) (first_added : ℕ)
    (ops_inner : (m : ℕ) (k : Method) → IsAdded Q first_added m → slice_get Q.methods m ≡ Some k → AllByRecursion (IsInnerOp Q first_added) k.ops) (uncounted : is_counted Q mn ≡ false) (catch : catch_at Q mn (q + 1) 0 ≡ Some z)
    (catch_other : (t : ℕ) → nat_eq t 0 ≡ false → catch_at Q mn (q + 1) t ≡ Some (z + 4)) (Goal Astray : ℕ → Run → Type 0)
    (goal : IsGoal P Ts S Q B mn args ws σ gives_type c q z slots first_added ops_inner uncounted catch catch_other Goal Astray) where
  abbrev G : Region
  G = B.region

  abbrev IsHere : Frames → State → Meter → Log → Log → Type 0
  IsHere = Here P Ts S Q B mn args ws σ

  abbrev Goes : ℕ → Direct → Type 0
  Goes = Continues P Ts S Q B mn args ws σ gives_type c q z slots first_added ops_inner uncounted catch catch_other Goal

  abbrev IsStage : Direct → Run → State → Meter → Log → Log → Type 0
  IsStage = Stage P Ts S Q R B mn args ws σ gives_type c q z slots first_added ops_inner uncounted catch catch_other Goal Astray goal

  abbrev IsAbove : List Slot → Frames → Type 0
  IsAbove wl hs = AboveCall Q first_added mn q wl hs

  abbrev Inside : List Slot → Frames → Type 0
  Inside wl hs = InsideCall Q first_added mn q wl hs

  -- an attempt asks the engine while the original stands before the instruction
  module _ (n : ℕ) (X : Direct) (τ : State) (M : Meter) (w r : Log) (reach : Reaches P Ts S Q B mn args ws σ X) (stands : StandsFor P Ts S Q B mn args ws σ τ M.used w) (so_far : SoFar P Ts S Q B mn args ws σ w) (wl : List Slot) (set : IsSet gives_type c slots wl) where
    pub looks_at : (agrees : Agrees ws r) (hs gs : Frames) → IsAbove wl hs → ((v : Reply) → next_run Q B v (On Open gs M w r) ≡ on_look v Q hs M w r) → Goal n (On Open (advanced hs) M w r) → Goal (suc n) (On Open gs M w r)
    looks_at agrees hs gs inside step go = goal.looks n wl hs M w r (On Open gs M w r) (On Open (advanced hs) M w r) (refl, refl) (goes_synced P Q B mn args σ (On Open gs M w r) (let f = step (Gives 0) in rw f (on Open _ M _ _ refl))) set inside so_far agrees (step Refuses) (λ x. step (Gives x)) go

    pub writes_at : (agrees : Agrees ws r) (p : Place) (y : ℕ) (hs gs : Frames) → IsAbove wl hs → ((v : Reply) → next_run Q B v (On Open gs M w r) ≡ on_write v Q p y hs M w r) → Goal n (On Open (advanced hs) M (access (address p) y ∷ w) r) → Goal (suc n) (On Open gs M w r)
    writes_at agrees p y hs gs inside step go = goal.looks n wl hs M w r (On Open gs M w r) (On Open (advanced hs) M (access (address p) y ∷ w) r) (refl, refl) (goes_synced P Q B mn args σ (On Open gs M w r) (let f = step (Gives 0) in rw f (on Open _ M _ _ refl))) set inside so_far agrees (step Refuses) (λ x. step (Gives x)) go

    pub reads_at : (agrees : Agrees ws r) (p : Place) (t : WordType) (f : Frame) (hs gs : Frames) → Inside wl (f ∷ hs) → ((v : Reply) → next_run Q B v (On Open gs M w r) ≡ on_read v Q p t (f ∷ hs) M w r)
        → ((l : Log) → Agrees ws l → Goal n (On Open (resumed (pushed (value_of t (overlaid w ws (address p))) []) (f ∷ hs)) M w l)) → Goal (suc n) (On Open gs M w r)
    reads_at agrees p t f hs gs inside step go =
        goal.reads n wl (f ∷ hs) M w r (On Open gs M w r) (address p) (λ y l. On Open (resumed (pushed (value_of t y) []) (f ∷ hs)) M w l) (refl, refl) (goes_synced P Q B mn args σ (On Open gs M w r) (let f = step (Gives 0) in rw f (on Open _ M _ _ refl))) set (above_inside Q first_added mn q wl (f ∷ hs) inside) so_far agrees (step Refuses) (λ x. step (Gives x))
        (λ y l gone. goal.stray_on n wl (resumed (pushed (value_of t y) []) (f ∷ hs)) M w l set inside gone) go

  module _ (low : first_added ≤ length P.methods) (n : ℕ) (m pc dn : ℕ) (k : Method) (T : Table) (l l' : List Slot) (fs gs : Frames) (t : Tied P Ts S m dn k T) (here : Stands k T pc l l') (callers : Callers P Ts S mn q gives_type c slots k.result fs gs)
      (τ : State) (M : Meter) (w r : Log) (s : List Slot) (hr : IsHere (frame m pc l s ∷ fs) τ M w r) (kk : Goes n (call.On (frame m pc l s ∷ fs) M.turns τ)) where
    abbrev X : Direct
    X = call.On (frame m pc l s ∷ fs) M.turns τ

    abbrev xs : List Typed
    xs = typed_code P Ts S k T

    abbrev a : ℕ
    a = block_at xs pc

    abbrev heap : IsHeap P B.region.size τ
    heap = hr.stands.represents.heap

    abbrev IsFineAsk : Asked → Type 0
    IsFineAsk = AsksFine P Ts S B.region.size τ heap

    high : (j : ℕ) → first_added ≤ duplicate P j
    high j = omega (arith, low)

    added_dup : first_added ≤ dn
    added_dup = subst (λ (i : ℕ). first_added ≤ i) (sym t.dup) (high m)

    over : (wl : List Slot) × IsSet gives_type c slots wl × AboveCall Q first_added mn q wl gs
    over = tied.callers_above P Ts S mn q gives_type c slots Q R uncounted first_added high k.result fs gs callers

    stage : IsStage X (On Open (frame dn a l' s ∷ gs) M w r) τ M w r
    stage = record { reach = hr.reach; has = refl; on_way = (refl, refl); stands = hr.stands; agrees = hr.agrees }

    so_far : SoFar P Ts S Q B mn args ws σ w
    so_far = stage_so_far P Ts S Q R B mn args ws σ gives_type c q z slots first_added ops_inner uncounted catch catch_other Goal Astray goal X _ τ M w r stage

    module _ (o : Op) (e : slice_get k.ops pc ≡ Some o) where
      typed_o : slice_get xs pc ≡ Some (record { op = o; types = types_at T pc })
      typed_o = typed_at 0 T k.ops pc o e ∙ ap (λ (i : ℕ). Some (record { op = o; types = types_at T i })) (from_zero pc)

      op_there : op_at P m pc ≡ Some o
      op_there = let is = t.is in rw is e

      pub fine : (asked : Asked) → step P (frame m pc l s ∷ fs) ≡ asked → IsFineAsk asked
      fine asked f = subst IsFineAsk f (step_fine P Ts S B.region.size τ heap (frame m pc l s ∷ fs) hr.typed)

      goes_at : (asked : Asked) → step P (frame m pc l s ∷ fs) ≡ asked → next_direct P G X ≡ call.on_asked P G asked M.turns τ
      goes_at asked f = ap (λ (x : Asked). call.on_asked P G x M.turns τ) f

      -- what is said of the running frame's instruction is said of this one
      at_this : (s1 : List Slot) (A : Op → Types → Type 0) (x : IsAt P Ts (frame m pc l s1) A) → A o x.types
      at_this s1 A x = let same = same_Some x.op o (sym x.op_is ∙ op_there) in subst (λ (o : Op). A o x.types) same x.holds

      above_two : (g pcg : ℕ) (z1 st s1 : List Slot) → first_added ≤ g → AboveCall Q first_added mn q over.0 (frame g pcg z1 st ∷ frame dn (a + 1) l' s1 ∷ gs)
      above_two g pcg z1 st s1 lowg = added_frame (frame g pcg z1 st) (frame dn (a + 1) l' s1 ∷ gs) lowg (added_frame (frame dn (a + 1) l' s1) gs added_dup over.2)

      -- where both stand behind the instruction
      arrives : block_len_of (types_at T pc) o ≡ 2 → Stands k T (pc + 1) l l' → (s2 : List Slot) (τ2 : State) (w2 l2 : Log) → next_direct P G X ≡ call.On (frame m (pc + 1) l s2 ∷ fs) M.turns τ2 → AreTyped P Ts S τ2 (frame m (pc + 1) l s2 ∷ fs)
          → StandsFor P Ts S Q B mn args ws σ τ2 M.used w2 → Agrees ws l2 → Goal n (On Open (frame dn (a + 1 + 1) l' s2 ∷ gs) M w2 l2)
      arrives two st s2 τ2 w2 l2 f typed stands agrees =
          let y : a + block_len_of (types_at T pc) o ≡ a + 1 + 1 = omega (arith, two) in
          let tie = next_tie P Ts S Q R B mn args ws σ gives_type c q z slots first_added ops_inner uncounted catch catch_other Goal Astray goal high n m pc dn k T l l' s fs gs t here callers o e l l' s2 st in
          kk.on 0 _ _ τ2 M w2 l2 f (record { reach = reaches_next P Ts S Q B mn args ws σ X _ hr.reach f; stands = stands; agrees = agrees; typed = typed })
          (subst (λ (i : ℕ). tied.Run P Ts S mn q gives_type c slots (frame m (pc + 1) l s2 ∷ fs) (frame dn i l' s2 ∷ gs)) y tie)

      -- a place behind it, where the types of locals are kept
      stands_next : (KeepsLocals o) → (exits_of pc o ≡ (pc + 1) ∷ []) → Stands k T (pc + 1) l l'
      stands_next keeps one =
          let x = (subst (AllByRecursion (Exits.Reaches P k T here.types.locals)) one (exits_reached P k T t.typing pc here.types here.there o e keeps)).0 in
          record { inside = x.inside; types = x.types; there = x.there; agree = agree_within P k here.types.locals x.types.locals l l' x.wider here.agree }

      -- the end of a getter: what was read is cast, where it is a reference, and given back
      module _ (g pcg : ℕ) (gm : Method) (there : slice_get Q.methods g ≡ Some gm) (lowg : first_added ≤ g) (zl s1 : List Slot) (p : Place) (fs0 : Frames) (F : GetsFine P Ts S B.region.size τ heap p fs0)
          (end : HasAt gm.ops pcg (cast_of F.declared (ReturnValue (sort_of F.declared.word) ∷ []))) where
        abbrev read_word : ℕ
        read_word = overlaid w ws (address p)

        abbrev read_value : Value
        read_value = value_of F.declared.word read_word

        abbrev back : Frame
        back = frame dn (a + 1) l' s1

        abbrev given : List Slot → Frames
        given st = frame g pcg zl st ∷ back ∷ gs

        inside : (st : List Slot) → Inside over.0 (given st)
        inside st = (lowg, added_frame back gs added_dup over.2)

        value_kind : value_sort read_value ≡ sort_of F.declared.word
        value_kind = by F.declared.word
          where
            by : (t : WordType) → value_sort (value_of t read_word) ≡ sort_of t
            by word.Boolean = refl
            by word.Byte = refl
            by word.Char = refl
            by word.Short = refl
            by word.Int = refl
            by word.Long = refl
            by word.Reference = refl

        module _ (go : (j : Log) → Agrees ws j → Goal n (On Open (frame dn (a + 1 + 1) l' (pushed read_value s1) ∷ gs) M w j)) where
          plain_end : (j : Log) → Agrees ws j → cast_of F.declared (ReturnValue (sort_of F.declared.word) ∷ []) ≡ ReturnValue (sort_of F.declared.word) ∷ [] → Goal (suc n) (On Open (given (pushed read_value [])) M w j)
          plain_end j agrees e = goal.leads 0 n _ _ (returns Q B g pcg gm there zl dn a l' s1 gs M w j (sort_of F.declared.word) (subst (HasAt gm.ops pcg) e end) read_value value_kind) (go j agrees)

          module _ (j : Log) (agrees : Agrees ws j) (reference : F.declared.word ≡ word.Reference) (code : HasAt gm.ops pcg (CheckCast F.declared.class ∷ ReturnValue (sort_of F.declared.word) ∷ [])) where
            sort_is : sort_of F.declared.word ≡ sort.Reference
            sort_is = ap sort_of reference

            value_ref : read_value ≡ value.Ref read_word
            value_ref = ap (λ (t : WordType). value_of t read_word) reference

            null_end : read_word ≡ 0 → Goal (suc n) (On Open (given (pushed read_value [])) M w j)
            null_end e =
                let v : read_value ≡ value.Ref 0 = value_ref ∙ ap value.Ref e in
                subst (λ (v : Value). Goal (suc n) (On Open (given (pushed v [])) M w j)) (sym v)
                (goal.leads 1 n _ _ (cast_null Q B g pcg gm there zl dn a l' s1 gs M w j F.declared.class (sort_of F.declared.word) code sort_is) (subst (λ (v : Value). Goal n (On Open (frame dn (a + 1 + 1) l' (pushed v s1) ∷ gs) M w j)) v (go j agrees)))

            object_end : (o2 : ℕ) → read_word ≡ suc o2 → Goal (suc n) (On Open (given (pushed read_value [])) M w j)
            object_end o2 e =
                let v : read_value ≡ value.Ref (suc o2) = value_ref ∙ ap value.Ref e in
                subst (λ (v : Value). Goal (suc n) (On Open (given (pushed v [])) M w j)) (sym v)
                (goal.reads n over.0 hs M w j (On Open hs M w j) (suc o2) (λ y i. attempt.followed (told Q (Casts F.declared.class) (suc o2) (type_in y) (length_in y) hs) M w i) (refl, refl) (goes_synced P Q B mn args σ (On Open hs M w j) (let f = asks (Gives 0) in rw f (casts_on Q F.declared.class (suc o2) hs M w j))) over.1 (above_inside Q first_added mn q over.0 hs (inside (Ref (suc o2) ∷ []))) so_far agrees (asks Refuses) (λ x. asks (Gives x))
                (λ y i gone. goal.stray_follows n over.0 (told Q (Casts F.declared.class) (suc o2) (type_in y) (length_in y) hs) M w i over.1
                (told_inner Q first_added ops_inner mn q z uncounted catch catch_other over.0 (Casts F.declared.class) tt (suc o2) (type_in y) (length_in y) hs (inside (Ref (suc o2) ∷ []))) gone)
                found)
              where
                hs : Frames
                hs = given (Ref (suc o2) ∷ [])

                asks : (v : Reply) → next_run Q B v (On Open (given (Ref (suc o2) ∷ [])) M w j) ≡ on_head v Q (Casts F.declared.class) (suc o2) (given (Ref (suc o2) ∷ [])) M w j
                asks v = cast_asks Q B g pcg gm there zl dn a l' s1 gs M w j F.declared.class (sort_of F.declared.word) code o2 v

                header : ℕ
                header = overlaid w ws (suc o2)

                found : (i : Log) → Agrees ws i → Goal n (attempt.followed (told Q (Casts F.declared.class) (suc o2) (type_in (overlaid w ws (suc o2))) (length_in (overlaid w ws (suc o2))) (given (Ref (suc o2) ∷ []))) M w i)
                found i agrees2 =
                    let holds = cast_holds P Ts S G fs0 M.turns τ heap w ws hr.stands.represents p F reference F.declared.class (λ m below. below) o2 e in
                    let yes : is_instance Q (type_in (overlaid w ws (suc o2))) F.declared.class ≡ true = instance_moved P Q Ts R (type_in (overlaid w ws (suc o2))) F.declared.class ∙ holds in
                    subst (λ (b : Bool). Goal n (attempt.followed (or_trap b ClassCast (given (Ref (suc o2) ∷ [])) (Asks asking.Go (advanced (given (Ref (suc o2) ∷ []))))) M w i)) (sym yes)
                    (goal.more n _ (goal.leads 0 n _ _ (cast_returns Q B g pcg gm there zl dn a l' s1 gs M w i F.declared.class (sort_of F.declared.word) code sort_is o2) (subst (λ (v : Value). Goal n (On Open (frame dn (a + 1 + 1) l' (pushed v s1) ∷ gs) M w i)) v2 (go i agrees2))))
                  where
                    v2 : read_value ≡ value.Ref (suc o2)
                    v2 = value_ref ∙ ap value.Ref e

          pub getter_end : (j : Log) → Agrees ws j → Goal (suc n) (On Open (given (pushed read_value [])) M w j)
          getter_end j agrees = ⊎_elim
              (plain_end j agrees)
              (λ (x : (F.declared.word ≡ word.Reference) × (cast_of F.declared (ReturnValue (sort_of F.declared.word) ∷ []) ≡ CheckCast F.declared.class ∷ ReturnValue (sort_of F.declared.word) ∷ [])).
              by j agrees x.0 (subst (HasAt gm.ops pcg) x.1 end) read_word refl)
              (cast_cases F.declared (ReturnValue (sort_of F.declared.word) ∷ []))
            where
              by : (j : Log) (agrees : Agrees ws j) (reference : F.declared.word ≡ word.Reference) (code : HasAt gm.ops pcg (CheckCast F.declared.class ∷ ReturnValue (sort_of F.declared.word) ∷ [])) → (o : ℕ) → read_word ≡ o → Goal (suc n) (On Open (given (pushed read_value [])) M w j)
              by j agrees reference code zero e = null_end j agrees reference code e
              by j agrees reference code (suc o2) e = object_end j agrees reference code o2 e

      -- ---- what a read of a field gives

      module _ (two : block_len_of (types_at T pc) o ≡ 2) (st : Stands k T (pc + 1) l l') (s1 : List Slot) (p : Place) (asks : step P (frame m pc l s ∷ fs) ≡ Asks (asking.Ask (request.Get p)) (frame m pc l s1 ∷ fs)) where
        abbrev F : GetsFine P Ts S B.region.size τ heap p (frame m pc l s1 ∷ fs)
        F = fine _ asks

        abbrev given_value : Value
        given_value = value_of F.declared.word (overlaid w ws (address p))

        same_value : F.v ≡ given_value
        same_value = sym (value_is P Ts S G (frame m pc l s1 ∷ fs) M.turns τ heap w ws hr.stands.represents p F)

        got_at : next_direct P G X ≡ call.On (frame m (pc + 1) l (pushed given_value s1) ∷ fs) M.turns τ
        got_at = goes_at _ asks ∙ gets P Ts S G (frame m pc l s1 ∷ fs) M.turns τ heap w ws hr.stands.represents p F ∙ ap (λ (st : List Slot). call.On (frame m (pc + 1) l st ∷ fs) M.turns τ) (sym (pushed_on given_value s1))

        typed_then : AreTyped P Ts S τ (frame m (pc + 1) l (pushed given_value s1) ∷ fs)
        typed_then = subst (λ (st : List Slot). AreTyped P Ts S τ (frame m (pc + 1) l st ∷ fs)) (sym (pushed_on given_value s1)) (subst (λ (v : Value). AreTyped P Ts S τ (resumed (pushed v []) (frame m pc l s1 ∷ fs))) same_value F.goes)

        pub got_goes : (j : Log) → Agrees ws j → Goal n (On Open (frame dn (a + 1 + 1) l' (pushed given_value s1) ∷ gs) M w j)
        got_goes j agrees = arrives two st (pushed given_value s1) τ w j got_at typed_then hr.stands agrees

        -- a getter reads it, at a place of its code
        module _ (g pcg : ℕ) (gm : Method) (there : slice_get Q.methods g ≡ Some gm) (lowg : first_added ≤ g) (zl : List Slot) (end : HasAt gm.ops (pcg + 1) (cast_of F.declared (ReturnValue (sort_of F.declared.word) ∷ []))) (before : Frames) (j : Log) (agrees : Agrees ws j) where
          abbrev reader : List Slot → Frames
          reader st = frame g pcg zl st ∷ frame dn (a + 1) l' s1 ∷ gs

          is_inside : (y : ℕ) (st : List Slot) → Inside over.0 (frame g y zl st ∷ frame dn (a + 1) l' s1 ∷ gs)
          is_inside y st = (lowg, added_frame (frame dn (a + 1) l' s1) gs added_dup over.2)

          pub getter_reads : ((v : Reply) → next_run Q B v (On Open before M w j) ≡ on_read v Q p F.declared.word (reader []) M w j) → Goal (suc n) (On Open before M w j)
          getter_reads step = reads_at n X τ M w j hr.reach hr.stands so_far over.0 over.1 agrees p F.declared.word (frame g pcg zl []) (frame dn (a + 1) l' s1 ∷ gs) before (is_inside pcg []) step
              (λ i agrees2. subst (λ (st : List Slot). Goal n (On Open (frame g (pcg + 1) zl st ∷ frame dn (a + 1) l' s1 ∷ gs) M w i)) (sym (append-nil (pushed given_value []))) (goal.more n _ (getter_end g (pcg + 1) gm there lowg zl s1 p (frame m pc l s1 ∷ fs) F end got_goes i agrees2)))

      -- ---- where the object is null, both throw

      module _ (within : a + 1 < a + block_len_of (types_at T pc) o) (s1 : List Slot) (asks : step P (frame m pc l s ∷ fs) ≡ Asks (asking.Make (trap_type NullPointer) 0 Raised) (frame m pc l s1 ∷ fs)) (g pcg : ℕ) (gm : Method) (there : slice_get Q.methods g ≡ Some gm) (none : gm.catches ≡ [])
          (lowg : first_added ≤ g) (zl st s2 : List Slot) where
        abbrev thrower : List Slot → Frames
        thrower v = frame g pcg zl v ∷ frame dn (a + 1) l' s2 ∷ gs

        null_tie : (x y : ℕ) → nat_eq y 0 ≡ false → Thrown P Ts S mn q gives_type c slots Q R uncounted z (suc x) (unwinds P (suc x) y (frame m pc l s1 ∷ fs)) (unwinds Q (suc x) y (thrower []))
        null_tie x y other =
            let f = throws_on P Ts S Q R B mn args ws σ gives_type c q z slots first_added ops_inner uncounted catch catch_other Goal Astray goal high n m pc dn k T l l' s fs gs t here callers o e (a + 1) (omega arith) within s1 s2 x y other in
            subst (λ (b : Asked). Thrown P Ts S mn q gives_type c slots Q R uncounted z (suc x) (unwinds P (suc x) y (frame m pc l s1 ∷ fs)) b) (sym (passes Q B g pcg gm there zl dn a l' s2 gs M w r none (suc x) y [])) f

        pub null_in : step Q (thrower st) ≡ Asks (asking.Make (trap_type NullPointer) 0 Raised) (thrower []) → Goal (suc n) (On Open (thrower st) M w r)
        null_in step_is =
            let F : MakesFine P Ts S B.region.size τ heap (trap_type NullPointer) 0 Raised (frame m pc l s1 ∷ fs) = fine _ asks in
            at_make P Ts S Q R B mn args ws σ gives_type c q z slots first_added ops_inner uncounted catch catch_other Goal Astray goal n X (On Open (thrower st) M w r) τ M w r
            (record { reach = hr.reach; has = refl; on_way = (refl, refl); stands = hr.stands; agrees = hr.agrees }) kk (trap_type NullPointer) 0 Raised (frame m pc l s1 ∷ fs) (thrower []) F.row F.is F.few F.goes null_tie asks step_is refl (goes_at _ asks)
            (λ x. ap (λ (b : Asked). attempt.on_asked Q B b Open x M w r) step_is) over.0 over.1 (above_two g pcg zl [] s2 lowg)

      -- ---- what is written

      module _ (two : block_len_of (types_at T pc) o ≡ 2) (st : Stands k T (pc + 1) l l') (s1 : List Slot) (p : Place) (y : Value) (asks : step P (frame m pc l s ∷ fs) ≡ Asks (asking.Ask (request.Put p y)) (frame m pc l s1 ∷ fs)) where
        abbrev put_after : State
        put_after = put τ p y

        abbrev put_log : Log
        put_log = access (address p) (word_of y) ∷ w

        put_goes : Goal n (On Open (frame dn (a + 1 + 1) l' s1 ∷ gs) M put_log r)
        put_goes =
            let F : PutsFine P Ts S B.region.size τ heap p y (frame m pc l s1 ∷ fs) = fine _ asks in
            arrives two st s1 put_after put_log r (goes_at _ asks ∙ puts P Ts S G (frame m pc l s1 ∷ fs) M.turns τ heap w ws hr.stands.represents p y F)
            (frames_kept P Ts S τ put_after (put_keeps τ p y F.old (held_at τ p F.old F.held)) (advanced (frame m pc l s1 ∷ fs)) F.goes)
            (record { represents = put_stands P Ts S G (frame m pc l s1 ∷ fs) M.turns τ heap w ws hr.stands.represents p y F; own = hr.stands.own; others = hr.stands.others }) hr.agrees

        -- a setter writes it
        module _ (g pcg : ℕ) (lowg : first_added ≤ g) (zl : List Slot) (before : Frames) where
          abbrev writer : ℕ → Frames
          writer y = frame g y zl [] ∷ frame dn (a + 1) l' s1 ∷ gs

          pub setter_writes : ((v : Reply) → next_run Q B v (On Open before M w r) ≡ on_write v Q p (word_of y) (writer pcg) M w r) → Leads Q B 1 (On Open (writer (pcg + 1)) M put_log r) (On Open (frame dn (a + 1 + 1) l' s1 ∷ gs) M put_log r) → Goal (suc n) (On Open before M w r)
          setter_writes step last = writes_at n X τ M w r hr.reach hr.stands so_far over.0 over.1 hr.agrees p (word_of y) (writer pcg) before (above_two g pcg zl [] s1 lowg) step (goal.more n _ (goal.leads 0 n _ _ last put_goes))

    read_declared : (i : ℕ) (f : Field) (d : Declared) → slice_get P.fields i ≡ Some f → (x : Field) × (field_at P i ≡ Some x) × (x.declared ≡ d) → d ≡ f.declared
    read_declared i f d there x = let same = same_Some x.0 f (sym x.1 ∙ there) in sym x.2 ∙ ap (λ (f : Field). f.declared) same

    -- a static field that is read
    module _ (i : ℕ) (e : slice_get k.ops pc ≡ Some (op.GetStatic i)) (f : Field) (o : ℕ) (there : slice_get P.fields i ≡ Some f) (base : f.base ≡ Some (suc o)) where
      pub get_static : Goal (suc n) (On Open (frame dn a l' s ∷ gs) M w r)
      get_static =
          let gm = static_getter i f (suc o) in
          let h : slice_get Q.methods (getter P i) ≡ Some gm = R.getters i f there ∙ ap (λ (b : Option ℕ). Some (getter_method i (record f { base = b }))) base in
          let there2 : slice_get Q.fields i ≡ Some f = ap (λ (xs : List Field). slice_get xs i) R.fields ∙ there in
          let known = known_static f o (each_at (IsSourceField P) P.fields i f S.source.fields there).based base in
          let is = there_of P Ts S mn q gives_type c slots Q R uncounted m dn k T t in
          let at = has_block P k xs pc (record { op = op.GetStatic i; types = types_at T pc }) (typed_o (op.GetStatic i) e) in
          let lowg : first_added ≤ getter P i = omega (arith, low) in
          let ctx = here.agree.context in
          let isp = t.is in
          let asks : step P (frame m pc l s ∷ fs) ≡ Asks (asking.Ask (request.Get (inner (suc o) f))) (frame m pc l s ∷ fs) = simp (isp, e, there, base) in
          let F : GetsFine P Ts S B.region.size τ heap (inner (suc o) f) (frame m pc l s ∷ fs) = fine (op.GetStatic i) e _ asks in
          let d : F.declared ≡ f.declared = read_declared i f F.declared there (at_this (op.GetStatic i) e s (λ o h. IsReadAt P o h F.declared) F.read) in
          let st = stands_next (op.GetStatic i) e tt refl in
          let above = above_two (op.GetStatic i) e (getter P i) 3 (Context ∷ []) [] s lowg in
          let end : HasAt gm.ops 9 (cast_of F.declared (ReturnValue (sort_of F.declared.word) ∷ [])) = subst (λ (d : Declared). HasAt gm.ops 9 (cast_of d (ReturnValue (sort_of d.word) ∷ []))) (sym d) (static_end i f (suc o)) in
          let third = getter_reads (op.GetStatic i) e refl st s (inner (suc o) f) asks (getter P i) 8 gm h lowg (Context ∷ []) end _ r hr.agrees
          (λ v. static_read Q B dn a _ is l' k.places ctx (getter P i) [] at i f gs M w r s o known h there2 base v ∙ ap (λ (x : WordType). on_read v Q (inner (suc o) f) x (frame (getter P i) 8 (Context ∷ []) [] ∷ frame dn (a + 1) l' s ∷ gs) M w r) (sym (ap (λ (d : Declared). d.word) d))) in
          let second = goal.leads 3 n _ _ (static_second Q B dn a _ is l' k.places ctx (getter P i) [] at i f gs M w r s o known h there2 base) (goal.more n _ third) in
          let first = looks_at n X τ M w r hr.reach hr.stands so_far over.0 over.1 hr.agrees _ _ above (static_look Q B dn a _ is l' k.places ctx (getter P i) [] at i f gs M w r s o known h there2 base) (goal.more n _ second) in
          goal.leads 4 n _ _ (static_first Q B dn a _ is l' k.places ctx (getter P i) [] at i f gs M w r s o known h there2 base) (goal.more n _ first)

    -- a field of an object that is read
    module _ (i : ℕ) (cn : List ℕ) (e : slice_get k.ops pc ≡ Some (op.GetField i cn)) (f : Field) (there : slice_get P.fields i ≡ Some f) (base : f.base ≡ None) where
      get_null : (s1 : List Slot) → s ≡ Ref 0 ∷ s1 → Goal (suc n) (On Open (frame dn a l' (Ref 0 ∷ s1) ∷ gs) M w r)
      get_null s1 same =
          let gm = field_getter i f in
          let h : slice_get Q.methods (getter P i) ≡ Some gm = R.getters i f there ∙ ap (λ (b : Option ℕ). Some (getter_method i (record f { base = b }))) base in
          let there2 : slice_get Q.fields i ≡ Some f = ap (λ (xs : List Field). slice_get xs i) R.fields ∙ there in
          let is = there_of P Ts S mn q gives_type c slots Q R uncounted m dn k T t in
          let at = has_block P k xs pc (record { op = op.GetField i cn; types = types_at T pc }) (typed_o (op.GetField i cn) e) in
          let lowg : first_added ≤ getter P i = omega (arith, low) in
          let ctx = here.agree.context in
          let isp = t.is in
          let asks : step P (frame m pc l s ∷ fs) ≡ Asks (asking.Make (trap_type NullPointer) 0 Raised) (frame m pc l s1 ∷ fs) = simp (same, isp, e, there) in
          goal.leads 4 n _ _ (field_first Q B dn a _ is l' k.places ctx (getter P i) [] at i f gs M w r s1 h there2 0)
          (goal.more n _ (null_in (op.GetField i cn) e (omega arith) s1 asks (getter P i) 3 gm h refl lowg (Ref 0 ∷ Context ∷ []) _ s1 (field_null Q B dn a _ is l' k.places ctx (getter P i) [] at i f gs M w r s1 h there2)))

      get_object : (o : ℕ) (s1 : List Slot) → s ≡ Ref (suc o) ∷ s1 → Goal (suc n) (On Open (frame dn a l' (Ref (suc o) ∷ s1) ∷ gs) M w r)
      get_object o s1 same =
          let gm = field_getter i f in
          let h : slice_get Q.methods (getter P i) ≡ Some gm = R.getters i f there ∙ ap (λ (b : Option ℕ). Some (getter_method i (record f { base = b }))) base in
          let there2 : slice_get Q.fields i ≡ Some f = ap (λ (xs : List Field). slice_get xs i) R.fields ∙ there in
          let is = there_of P Ts S mn q gives_type c slots Q R uncounted m dn k T t in
          let at = has_block P k xs pc (record { op = op.GetField i cn; types = types_at T pc }) (typed_o (op.GetField i cn) e) in
          let lowg : first_added ≤ getter P i = omega (arith, low) in
          let ctx = here.agree.context in
          let isp = t.is in
          let asks : step P (frame m pc l s ∷ fs) ≡ Asks (asking.Ask (request.Get (inner (suc o) f))) (frame m pc l s1 ∷ fs) = simp (same, isp, e, there) in
          let F : GetsFine P Ts S B.region.size τ heap (inner (suc o) f) (frame m pc l s1 ∷ fs) = fine (op.GetField i cn) e _ asks in
          let known = known_field f o (each_at (IsSourceField P) P.fields i f S.source.fields there).based (place_near P B.region.size (overlaid w ws) τ hr.stands.represents (inner (suc o) f) F.v F.held) in
          let d : F.declared ≡ f.declared = read_declared i f F.declared there (at_this (op.GetField i cn) e s1 (λ o h. IsReadAt P o h F.declared) F.read) in
          let st = stands_next (op.GetField i cn) e tt refl in
          let above = above_two (op.GetField i cn) e (getter P i) 3 (Ref (suc o) ∷ Context ∷ []) [] s1 lowg in
          let end : HasAt gm.ops 10 (cast_of F.declared (ReturnValue (sort_of F.declared.word) ∷ [])) = subst (λ (d : Declared). HasAt gm.ops 10 (cast_of d (ReturnValue (sort_of d.word) ∷ []))) (sym d) (field_end i f) in
          let third = getter_reads (op.GetField i cn) e refl st s1 (inner (suc o) f) asks (getter P i) 9 gm h lowg (Ref (suc o) ∷ Context ∷ []) end _ r hr.agrees
          (λ v. field_read Q B dn a _ is l' k.places ctx (getter P i) [] at i f gs M w r s1 h there2 o known v ∙ ap (λ (x : WordType). on_read v Q (inner (suc o) f) x (frame (getter P i) 9 (Ref (suc o) ∷ Context ∷ []) [] ∷ frame dn (a + 1) l' s1 ∷ gs) M w r) (sym (ap (λ (d : Declared). d.word) d))) in
          let second = goal.leads 4 n _ _ (field_second Q B dn a _ is l' k.places ctx (getter P i) [] at i f gs M w r s1 h there2 o known) (goal.more n _ third) in
          let first = looks_at n X τ M w r hr.reach hr.stands so_far over.0 over.1 hr.agrees _ _ above (field_look Q B dn a _ is l' k.places ctx (getter P i) [] at i f gs M w r s1 h there2 o known) (goal.more n _ second) in
          goal.leads 4 n _ _ (field_first Q B dn a _ is l' k.places ctx (getter P i) [] at i f gs M w r s1 h there2 (suc o)) (goal.more n _ first)

      pub get_field : Goal (suc n) (On Open (frame dn a l' s ∷ gs) M w r)
      get_field =
          let isp = t.is in
          let f1 = fine (op.GetField i cn) e _ (step_of isp) in
          let x = ref_popped P fs IsFineAsk (λ h. h) s _ f1 in
          subst (λ (s : List Slot). Goal (suc n) (On Open (frame dn a l' s ∷ gs) M w r)) (sym x.2) (by x.0 x.1 x.2)
        where
          step_of : slice_get P.methods m ≡ Some k → step P (frame m pc l s ∷ fs) ≡ on_did P (on_ref s (λ o s1. not_null o (frame m pc l s1) (Does (doing.Ask (request.Get (inner o f))) (frame m pc l s1)))) fs
          step_of isp = simp (isp, e, there)

          by : (o : ℕ) (s1 : List Slot) → s ≡ Ref o ∷ s1 → Goal (suc n) (On Open (frame dn a l' (Ref o ∷ s1) ∷ gs) M w r)
          by zero s1 same = get_null s1 same
          by (suc o) s1 same = get_object o s1 same

    -- a static field that is written
    module _ (i : ℕ) (e : slice_get k.ops pc ≡ Some (op.PutStatic i)) (f : Field) (o : ℕ) (there : slice_get P.fields i ≡ Some f) (base : f.base ≡ Some (suc o)) where
      put_static_asks : (v : Value) (s1 : List Slot) → s ≡ pushed v s1 → value_sort v ≡ sort_of f.declared.word → slice_get P.methods m ≡ Some k → step P (frame m pc l s ∷ fs) ≡ Asks (asking.Ask (request.Put (inner (suc o) f) (kept_by f.declared.word v))) (frame m pc l s1 ∷ fs)
      put_static_asks (value.Int x) s1 same kind isp = let y = sym kind in simp (same, isp, e, there, base, y)
      put_static_asks (value.Long x) s1 same kind isp = let y = sym kind in simp (same, isp, e, there, base, y)
      put_static_asks (value.Ref x) s1 same kind isp = let y = sym kind in simp (same, isp, e, there, base, y)

      put_static_at : (v : Value) (s1 : List Slot) → s ≡ pushed v s1 → value_sort v ≡ sort_of f.declared.word → Goal (suc n) (On Open (frame dn a l' (pushed v s1) ∷ gs) M w r)
      put_static_at v s1 same kind =
          let h : slice_get Q.methods (setter P i) ≡ Some (static_setter f (suc o)) = R.setters i f there ∙ ap (λ (b : Option ℕ). Some (setter_method (record f { base = b }))) base in
          let known = known_static f o (each_at (IsSourceField P) P.fields i f S.source.fields there).based base in
          let is = there_of P Ts S mn q gives_type c slots Q R uncounted m dn k T t in
          let at = has_block P k xs pc (record { op = op.PutStatic i; types = types_at T pc }) (typed_o (op.PutStatic i) e) in
          let lowg : first_added ≤ setter P i = omega (arith, low) in
          let ctx = here.agree.context in
          let asks = put_static_asks v s1 same kind t.is in
          let st = stands_next (op.PutStatic i) e tt refl in
          let write = setter_writes (op.PutStatic i) e refl st s1 (inner (suc o) f) (kept_by f.declared.word v) asks (setter P i) 4 lowg (slots_of v ++ Context ∷ []) _
          (static_write Q B dn a _ is l' k.places ctx (setter P i) [] at i f gs M w r s1 o known h v kind)
          (static_last Q B dn a _ is l' k.places ctx (setter P i) [] at i f gs M (access (address (inner (suc o) f)) (word_of (kept_by f.declared.word v)) ∷ w) r s1 o known h (slots_of v ++ Context ∷ [])) in
          goal.leads 5 n _ _ (static_put Q B dn a _ is l' k.places ctx (setter P i) [] at i f gs M w r s1 o known h v kind) (goal.more n _ write)

      pub put_static : Goal (suc n) (On Open (frame dn a l' s ∷ gs) M w r)
      put_static =
          let x = popped P fs IsFineAsk (λ h. h) (sort_of f.declared.word) s _ (fine (op.PutStatic i) e _ (step_of t.is)) in
          subst (λ (s : List Slot). Goal (suc n) (On Open (frame dn a l' s ∷ gs) M w r)) (sym x.is) (put_static_at x.v x.rest x.is x.sort)
        where
          step_of : slice_get P.methods m ≡ Some k → step P (frame m pc l s ∷ fs) ≡ on_did P (on_value (sort_of f.declared.word) s (λ v s1. Does (doing.Ask (request.Put (inner (suc o) f) (kept_by f.declared.word v))) (frame m pc l s1))) fs
          step_of isp = simp (isp, e, there, base)

    -- a field of an object that is written
    module _ (i : ℕ) (cn : List ℕ) (e : slice_get k.ops pc ≡ Some (op.PutField i cn)) (f : Field) (there : slice_get P.fields i ≡ Some f) (base : f.base ≡ None) where
      put_null_asks : (v : Value) (s1 : List Slot) → s ≡ pushed v (Ref 0 ∷ s1) → value_sort v ≡ sort_of f.declared.word → slice_get P.methods m ≡ Some k → step P (frame m pc l s ∷ fs) ≡ Asks (asking.Make (trap_type NullPointer) 0 Raised) (frame m pc l s1 ∷ fs)
      put_null_asks (value.Int x) s1 same kind isp = let y = sym kind in simp (same, isp, e, there, y)
      put_null_asks (value.Long x) s1 same kind isp = let y = sym kind in simp (same, isp, e, there, y)
      put_null_asks (value.Ref x) s1 same kind isp = let y = sym kind in simp (same, isp, e, there, y)

      put_object_asks : (v : Value) (o : ℕ) (s1 : List Slot) → s ≡ pushed v (Ref (suc o) ∷ s1) → value_sort v ≡ sort_of f.declared.word → slice_get P.methods m ≡ Some k
          → step P (frame m pc l s ∷ fs) ≡ Asks (asking.Ask (request.Put (inner (suc o) f) (kept_by f.declared.word v))) (frame m pc l s1 ∷ fs)
      put_object_asks (value.Int x) o s1 same kind isp = let y = sym kind in simp (same, isp, e, there, y)
      put_object_asks (value.Long x) o s1 same kind isp = let y = sym kind in simp (same, isp, e, there, y)
      put_object_asks (value.Ref x) o s1 same kind isp = let y = sym kind in simp (same, isp, e, there, y)

      put_field_at : (v : Value) (o : ℕ) (s1 : List Slot) → s ≡ pushed v (Ref o ∷ s1) → value_sort v ≡ sort_of f.declared.word → Goal (suc n) (On Open (frame dn a l' (pushed v (Ref o ∷ s1)) ∷ gs) M w r)
      put_field_at v o s1 same kind = goal.leads 5 n _ _ (field_put Q B dn a _ is l' k.places ctx (setter P i) [] at i f gs M w r s1 h v kind o) (goal.more n _ (by o same))
        where
          h : slice_get Q.methods (setter P i) ≡ Some (field_setter f)
          h = R.setters i f there ∙ ap (λ (b : Option ℕ). Some (setter_method (record f { base = b }))) base

          is : slice_get Q.methods dn ≡ Some (duplicate_code P k xs)
          is = there_of P Ts S mn q gives_type c slots Q R uncounted m dn k T t

          at : HasAt (duplicate_code P k xs).ops a (op.Load sort.Reference k.places ∷ op.InvokeStatic (setter P i) ∷ [])
          at = has_block P k xs pc (record { op = op.PutField i cn; types = types_at T pc }) (typed_o (op.PutField i cn) e)

          lowg : first_added ≤ setter P i
          lowg = omega (arith, low)

          ctx : slice_get l' k.places ≡ Some Context
          ctx = here.agree.context

          by : (o : ℕ) → s ≡ pushed v (Ref o ∷ s1) → Goal (suc n) (On Open (frame (setter P i) 4 (Ref o ∷ slots_of v ++ Context ∷ []) (Second ∷ Long (far f) ∷ pushed v (Ref o ∷ Context ∷ [])) ∷ frame dn (a + 1) l' s1 ∷ gs) M w r)
          by zero same = null_in (op.PutField i cn) e (omega arith) s1 (put_null_asks v s1 same kind t.is) (setter P i) 4 (field_setter f) h refl lowg (Ref 0 ∷ slots_of v ++ Context ∷ []) _ s1 (put_null Q B dn a _ is l' k.places ctx (setter P i) [] at i f gs M w r s1 h v kind (Ref 0 ∷ slots_of v ++ Context ∷ []))
          by (suc o) same =
              let asks = put_object_asks v o s1 same kind t.is in
              let F : PutsFine P Ts S B.region.size τ heap (inner (suc o) f) (kept_by f.declared.word v) (frame m pc l s1 ∷ fs) = fine (op.PutField i cn) e _ asks in
              let known = known_field f o (each_at (IsSourceField P) P.fields i f S.source.fields there).based (place_near P B.region.size (overlaid w ws) τ hr.stands.represents (inner (suc o) f) F.old F.held) in
              let st = stands_next (op.PutField i cn) e tt refl in
              setter_writes (op.PutField i cn) e refl st s1 (inner (suc o) f) (kept_by f.declared.word v) asks (setter P i) 4 lowg (Ref (suc o) ∷ slots_of v ++ Context ∷ []) _
              (field_write Q B dn a _ is l' k.places ctx (setter P i) [] at i f gs M w r s1 h o known v kind (Ref (suc o) ∷ slots_of v ++ Context ∷ []))
              (field_last Q B dn a _ is l' k.places ctx (setter P i) [] at i f gs M (access (address (inner (suc o) f)) (word_of (kept_by f.declared.word v)) ∷ w) r s1 h (Ref (suc o) ∷ slots_of v ++ Context ∷ []))

      pub put_field : Goal (suc n) (On Open (frame dn a l' s ∷ gs) M w r)
      put_field = let start = fine (op.PutField i cn) e _ (step_of t.is) in first_of (popped P fs IsFineAsk (λ h. h) (sort_of f.declared.word) s _ start) start
        where
          then_puts : Value → List Slot → Did
          then_puts v s1 = on_ref s1 (λ o s2. not_null o (frame m pc l s2) (Does (doing.Ask (request.Put (inner o f) (kept_by f.declared.word v))) (frame m pc l s2)))

          step_of : slice_get P.methods m ≡ Some k → step P (frame m pc l s ∷ fs) ≡ on_did P (on_value (sort_of f.declared.word) s then_puts) fs
          step_of isp = simp (isp, e, there)

          object_of : (v : Value) (s1 : List Slot) → s ≡ pushed v s1 → value_sort v ≡ sort_of f.declared.word → IsFineAsk (on_did P (on_value (sort_of f.declared.word) s then_puts) fs) → (o : ℕ) × (rest : List Slot) × (s1 ≡ Ref o ∷ rest)
          object_of v s1 same kind h = ref_popped P fs IsFineAsk (λ h. h) s1 _ (under v kind (subst (λ (st : List Slot). IsFineAsk (on_did P (on_value (sort_of f.declared.word) st then_puts) fs)) same h))
            where
              under : (v : Value) → value_sort v ≡ sort_of f.declared.word → IsFineAsk (on_did P (on_value (sort_of f.declared.word) (pushed v s1) then_puts) fs) → IsFineAsk (on_did P (then_puts v s1) fs)
              under (value.Int x) kind h = subst (λ (t : Sort). IsFineAsk (on_did P (on_value t (Int x ∷ s1) then_puts) fs)) (sym kind) h
              under (value.Long x) kind h = subst (λ (t : Sort). IsFineAsk (on_did P (on_value t (Second ∷ Long x ∷ s1) then_puts) fs)) (sym kind) h
              under (value.Ref x) kind h = subst (λ (t : Sort). IsFineAsk (on_did P (on_value t (Ref x ∷ s1) then_puts) fs)) (sym kind) h

          both_of : (x : Popped (sort_of f.declared.word) s) → (o : ℕ) × (rest : List Slot) × (x.rest ≡ Ref o ∷ rest) → Goal (suc n) (On Open (frame dn a l' s ∷ gs) M w r)
          both_of x y = let same : s ≡ pushed x.v (Ref y.0 ∷ y.1) = x.is ∙ ap (pushed x.v) y.2 in subst (λ (s : List Slot). Goal (suc n) (On Open (frame dn a l' s ∷ gs) M w r)) (sym same) (put_field_at x.v y.0 y.1 same x.sort)

          first_of : (x : Popped (sort_of f.declared.word) s) → IsFineAsk (on_did P (on_value (sort_of f.declared.word) s then_puts) fs) → Goal (suc n) (On Open (frame dn a l' s ∷ gs) M w r)
          first_of x start = both_of x (object_of x.v x.rest x.is x.sort start)

    -- ---- elements

    -- where the original stands, which may want something more
    pub record Stood : Type 0 where
      pub at : Direct
      pub reach : Reaches P Ts S Q B mn args ws σ at
      pub goes : Goes n at

    abbrev stood_first : Stood
    stood_first = record { at = X; reach = hr.reach; goes = kk }

    abbrev stood_next : (y : Stood) (Z : Direct) → next_direct P G y.at ≡ Z → Stood
    stood_next y Z f = record { at = Z; reach = reaches_next P Ts S Q B mn args ws σ y.at Z y.reach f; goes = onward P Ts S Q R B mn args ws σ gives_type c q z slots first_added ops_inner uncounted catch catch_other Goal Astray goal n y.at Z f y.goes }

    -- the header of an object is read
    heads_at : (d : Run) (j : Log) → IsOnWay w j d → IsSynced P Q B mn args σ d → Agrees ws j → (o : ℕ) (b : Object) → τ.objects o ≡ Some b → (u : Use) → IsInnerUse Q first_added u → (f : Frame) (hs : Frames) → Inside over.0 (f ∷ hs)
        → ((v : Reply) → next_run Q B v d ≡ on_head v Q u o (f ∷ hs) M w j) → ((l : Log) → Agrees ws l → Goal n (attempt.followed (told Q u o b.type (length_of b) (f ∷ hs)) M w l)) → Goal (suc n) d
    heads_at d j on_way synced agrees o b there u inner_use f hs inside step go =
        goal.reads n over.0 (f ∷ hs) M w j d o (λ y l. attempt.followed (told Q u o (type_in y) (length_in y) (f ∷ hs)) M w l) on_way synced over.1 (above_inside Q first_added mn q over.0 (f ∷ hs) inside) so_far agrees (step Refuses) (λ x. step (Gives x))
        (λ y l gone. goal.stray_follows n over.0 (told Q u o (type_in y) (length_in y) (f ∷ hs)) M w l over.1 (told_inner Q first_added ops_inner mn q z uncounted catch catch_other over.0 u inner_use o (type_in y) (length_in y) (f ∷ hs) inside) gone)
        (λ l agrees2.
        let x = header_back P B.region.size (overlaid w ws) τ hr.stands.represents o b there in
        subst (λ (y : ℕ). Goal n (attempt.followed (told Q u o y (length_in (overlaid w ws o)) (f ∷ hs)) M w l)) (sym x.0) (subst (λ (y : ℕ). Goal n (attempt.followed (told Q u o b.type y (f ∷ hs)) M w l)) (sym x.1) (go l agrees2)))

    module _ (o : Op) (e : slice_get k.ops pc ≡ Some o) where
      -- where both stand behind the instruction
      lands : (y : Stood) (b : ℕ) → a + block_len_of (types_at T pc) o ≡ b → Stands k T (pc + 1) l l' → (s2 : List Slot) (τ2 : State) (w2 l2 : Log) → next_direct P G y.at ≡ call.On (frame m (pc + 1) l s2 ∷ fs) M.turns τ2 → AreTyped P Ts S τ2 (frame m (pc + 1) l s2 ∷ fs)
          → StandsFor P Ts S Q B mn args ws σ τ2 M.used w2 → Agrees ws l2 → Goal n (On Open (frame dn b l' s2 ∷ gs) M w2 l2)
      lands y b same st s2 τ2 w2 l2 f typed stands agrees =
          let tie = next_tie P Ts S Q R B mn args ws σ gives_type c q z slots first_added ops_inner uncounted catch catch_other Goal Astray goal high n m pc dn k T l l' s fs gs t here callers o e l l' s2 st in
          y.goes.on 0 _ _ τ2 M w2 l2 f (record { reach = reaches_next P Ts S Q B mn args ws σ y.at _ y.reach f; stands = stands; agrees = agrees; typed = typed })
          (subst (λ (i : ℕ). tied.Run P Ts S mn q gives_type c slots (frame m (pc + 1) l s2 ∷ fs) (frame dn i l' s2 ∷ gs)) same tie)

      -- both throw a new exception, the attempt from an accessor
      module _ (within : a + 1 < a + block_len_of (types_at T pc) o) (s1 s2 : List Slot) (g pcg : ℕ) (gm : Method) (there : slice_get Q.methods g ≡ Some gm) (none : gm.catches ≡ []) (lowg : first_added ≤ g) (zl : List Slot) where
        abbrev accessor : Frames
        accessor = frame g pcg zl [] ∷ frame dn (a + 1) l' s2 ∷ gs

        abbrev ups1 : Frames
        ups1 = frame m pc l s1 ∷ fs

        accessor_tie : (x y : ℕ) → nat_eq y 0 ≡ false → Thrown P Ts S mn q gives_type c slots Q R uncounted z (suc x) (unwinds P (suc x) y ups1) (unwinds Q (suc x) y accessor)
        accessor_tie x y other =
            let f = throws_on P Ts S Q R B mn args ws σ gives_type c q z slots first_added ops_inner uncounted catch catch_other Goal Astray goal high n m pc dn k T l l' s fs gs t here callers o e (a + 1) (omega arith) within s1 s2 x y other in
            subst (λ (b : Asked). Thrown P Ts S mn q gives_type c slots Q R uncounted z (suc x) (unwinds P (suc x) y ups1) b) (sym (passes Q B g pcg gm there zl dn a l' s2 gs M w r none (suc x) y [])) f

        pub traps_at : (y : Stood) (j : Log) → Agrees ws j → (x : Trap) → y.at ≡ call.Asking (asking.Make (trap_type x) 0 Raised) ups1 M.turns τ → MakesFine P Ts S B.region.size τ heap (trap_type x) 0 Raised ups1 → Goal (suc n) (attempt.Asking (asking.Make (trap_type x) 0 Raised) accessor M w j)
        traps_at y j agrees x at F =
            at_make P Ts S Q R B mn args ws σ gives_type c q z slots first_added ops_inner uncounted catch catch_other Goal Astray goal n y.at (attempt.Asking (asking.Make (trap_type x) 0 Raised) accessor M w j) τ M w j
            (record { reach = y.reach; has = ap state_of at; on_way = (refl, refl); stands = hr.stands; agrees = agrees }) y.goes (trap_type x) 0 Raised ups1 accessor F.row F.is F.few F.goes accessor_tie (ap (run_asks P) at) refl refl (ap (next_direct P G) at)
            (λ v. refl) over.0 over.1 (above_two o e g pcg zl [] s2 lowg)

      -- the types before this instruction
      types_this : (s1 : List Slot) (A : Op → Types → Type 0) (x : IsAt P Ts (frame m pc l s1) A) → x.types ≡ here.types
      types_this s1 A x =
          let table = same_Some x.table T (sym x.table_is ∙ t.table) in
          same_Some x.types here.types (sym x.types_are ∙ ap (λ (T : Table). types_at T pc) table ∙ here.there)

      indexed_this : (s1 : List Slot) (d : Declared) → IsAt P Ts (frame m pc l s1) (λ o h. IsIndexedAt P o h d) → IsIndexedAt P o here.types d
      indexed_this s1 d x = subst (λ (h : Types). IsIndexedAt P o h d) (types_this s1 (λ o h. IsIndexedAt P o h d) x) (at_this o e s1 (λ o h. IsIndexedAt P o h d) x)

    -- an element that is read
    module _ (t1 : WordType) (e : slice_get k.ops pc ≡ Some (op.LoadElement t1)) where
      abbrev under : Option VType
      under = array_under 1 (types_at T pc)

      abbrev th : WordType
      th = helped under t1

      abbrev g1 : ℕ
      g1 = element_getter P th

      loader : slice_get Q.methods g1 ≡ Some (element_getter_method th)
      loader = R.element_getters th

      dup_is : slice_get Q.methods dn ≡ Some (duplicate_code P k xs)
      dup_is = there_of P Ts S mn q gives_type c slots Q R uncounted m dn k T t

      dup_at : HasAt (duplicate_code P k xs).ops a (op.Load sort.Reference k.places ∷ op.InvokeStatic g1 ∷ after_load t1 under)
      dup_at = has_block P k xs pc (record { op = op.LoadElement t1; types = types_at T pc }) (typed_o (op.LoadElement t1) e)

      lowl : first_added ≤ g1
      lowl = omega (arith, low)

      in_block : a + 1 < a + block_len_of (types_at T pc) (op.LoadElement t1)
      in_block = omega arith

      load_null : (i : ℤ) (s1 : List Slot) → s ≡ Int i ∷ Ref 0 ∷ s1 → Goal (suc n) (On Open (frame dn a l' (Int i ∷ Ref 0 ∷ s1) ∷ gs) M w r)
      load_null i s1 same =
          let isp = t.is in
          let ctx = here.agree.context in
          let asks : step P (frame m pc l s ∷ fs) ≡ Asks (asking.Make (trap_type NullPointer) 0 Raised) (frame m pc l s1 ∷ fs) = simp (same, isp, e) in
          goal.leads 4 n _ _ (element_first Q B dn a _ dup_is l' k.places ctx g1 _ dup_at th gs M w r s1 i loader 0)
          (goal.more n _ (null_in (op.LoadElement t1) e in_block s1 asks g1 3 (element_getter_method th) loader refl lowl (Ref 0 ∷ Int i ∷ Context ∷ []) _ s1 (element_null Q B dn a _ dup_is l' k.places ctx g1 _ dup_at th gs M w r s1 i loader)))

      module _ (i : ℤ) (o : ℕ) (s1 : List Slot) (same : s ≡ Int i ∷ Ref (suc o) ∷ s1) where
        abbrev taken1 : List Slot
        taken1 = Ref (suc o) ∷ Int i ∷ Context ∷ []

        abbrev caller1 : Frame
        caller1 = frame dn (a + 1) l' s1

        abbrev looker : Frames
        looker = frame g1 3 taken1 [] ∷ caller1 ∷ gs

        abbrev ups2 : Frames
        ups2 = frame m pc l s1 ∷ fs

        asks_load : slice_get P.methods m ≡ Some k → step P (frame m pc l s ∷ fs) ≡ Asks (asking.Head (suc o) (Indexes i element.Load)) ups2
        asks_load isp = simp (same, isp, e)

        F1 : Heads P Ts S B.region.size τ heap (LastHeads P Ts S B.region.size τ heap) (suc o) (Indexes i element.Load) ups2
        F1 = fine (op.LoadElement t1) e _ (asks_load t.is)

        abbrev array1 : Object
        array1 = F1.object

        abbrev told1 : Asked
        told1 = told P (Indexes i element.Load) (suc o) array1.type (length_of array1) ups2

        next1 : next_direct P G X ≡ call.followed told1 M.turns τ
        next1 = goes_at (op.LoadElement t1) e _ (asks_load t.is) ∙ ap (λ (x : Option Object). call.headed x P (Indexes i element.Load) (suc o) ups2 M.turns τ) F1.there

        inside1 : Inside over.0 looker
        inside1 = (lowl, added_frame caller1 gs added_dup over.2)

        outside1 : in_bounds i (length_of array1) ≡ false → (j : Log) → Agrees ws j → Goal n (attempt.followed (told Q (Indexes i element.Look) (suc o) array1.type (length_of array1) looker) M w j)
        outside1 is j agrees =
            let toldP : told1 ≡ Asks (asking.Make (trap_type ArrayIndex) 0 Raised) ups2 = rw is refl in
            let toldQ : told Q (Indexes i element.Look) (suc o) array1.type (length_of array1) looker ≡ Asks (asking.Make (trap_type ArrayIndex) 0 Raised) looker = rw is refl in
            let F2 : MakesFine P Ts S B.region.size τ heap (trap_type ArrayIndex) 0 Raised ups2 = subst (Fine P Ts S B.region.size τ heap (LastHeads P Ts S B.region.size τ heap)) toldP F1.goes in
            let y = stood_next stood_first (call.Asking (asking.Make (trap_type ArrayIndex) 0 Raised) ups2 M.turns τ) (next1 ∙ ap (λ (x : Asked). call.followed x M.turns τ) toldP) in
            subst (λ (x : Asked). Goal n (attempt.followed x M w j)) (sym toldQ)
            (goal.more n _ (traps_at (op.LoadElement t1) e in_block s1 s1 g1 3 (element_getter_method th) loader refl lowl taken1 y j agrees ArrayIndex refl F2))

        module _ (x : ℕ) (index : i ≡ pos x) (is : in_bounds i (length_of array1) ≡ true) (near : has_address (element_place (suc o) i) ≡ true) where
          abbrev place1 : Place
          place1 = element_place (suc o) i

          toldP : told1 ≡ Asks (asking.Ask (request.Get place1)) ups2
          toldP = let row = F1.about.is in rw (is, near, row) refl

          toldQ : told Q (Indexes i element.Look) (suc o) array1.type (length_of array1) looker ≡ Asks (asking.Ask (request.Look place1)) looker
          toldQ = let row : row_at Q array1.type ≡ Some F1.about.row = row_moved P Q Ts R array1.type ∙ F1.about.is in rw (is, near, row) refl

          F2 : GetsFine P Ts S B.region.size τ heap place1 ups2
          F2 = subst (Fine P Ts S B.region.size τ heap (LastHeads P Ts S B.region.size τ heap)) toldP F1.goes

          abbrev stood1 : Stood
          stood1 = stood_next stood_first (call.Asking (asking.Ask (request.Get place1)) ups2 M.turns τ) (next1 ∙ ap (λ (x : Asked). call.followed x M.turns τ) toldP)

          abbrev word1 : ℕ
          word1 = overlaid w ws (address place1)

          abbrev value1 : Value
          value1 = value_of F2.declared.word word1

          element_is : IsElementOf P (array_under 1 (Some here.types)) t1 F2.declared
          element_is = subst (λ (h : Types). IsElementOf P (array_under 1 (Some h)) t1 F2.declared) (types_this (op.LoadElement t1) e s1 _ F2.read) (at_this (op.LoadElement t1) e s1 (λ o h. IsReadAt P o h F2.declared) F2.read)

          under_is : under ≡ Some (type.Ref element_is.name)
          under_is = ap (array_under 1) here.there ∙ element_is.under

          word_is : F2.declared.word ≡ th
          word_is = element_is.are.word_is ∙ ap (λ (u : Option VType). helped u t1) (sym under_is)

          st1 : Stands k T (pc + 1) l l'
          st1 = stands_next (op.LoadElement t1) e tt refl

          got1 : next_direct P G stood1.at ≡ call.On (frame m (pc + 1) l (pushed value1 s1) ∷ fs) M.turns τ
          got1 = gets P Ts S G ups2 M.turns τ heap w ws hr.stands.represents place1 F2 ∙ ap (λ (st : List Slot). call.On (frame m (pc + 1) l st ∷ fs) M.turns τ) (sym (pushed_on value1 s1))

          typed1 : AreTyped P Ts S τ (frame m (pc + 1) l (pushed value1 s1) ∷ fs)
          typed1 =
              let same : F2.v ≡ value1 = sym (value_is P Ts S G ups2 M.turns τ heap w ws hr.stands.represents place1 F2) in
              subst (λ (st : List Slot). AreTyped P Ts S τ (frame m (pc + 1) l st ∷ fs)) (sym (pushed_on value1 s1)) (subst (λ (v : Value). AreTyped P Ts S τ (resumed (pushed v []) ups2)) same F2.goes)

          behind1 : (b : ℕ) → a + block_len_of (types_at T pc) (op.LoadElement t1) ≡ b → (j : Log) → Agrees ws j → Goal n (On Open (frame dn b l' (pushed value1 s1) ∷ gs) M w j)
          behind1 b same j agrees = lands (op.LoadElement t1) e stood1 b same st1 (pushed value1 s1) τ w j got1 typed1 hr.stands agrees

          -- what was read is cast in the duplicate, where it is a reference to a class
          module _ (c1 : List ℕ) (cast : after_load t1 under ≡ CheckCast c1 ∷ []) (reference : F2.declared.word ≡ word.Reference) (class : (y : List ℕ) → IsWithin P (type.Ref y) (type.Ref F2.declared.class) → IsWithin P (type.Ref y) (type.Ref c1)) where
            long1 : a + block_len_of (types_at T pc) (op.LoadElement t1) ≡ a + 1 + 1 + 1
            long1 = let f : length (after_load t1 under) ≡ 1 = ap (λ (ops : List Op). length ops) cast in omega (arith, f)

            cast_at : slice_get (duplicate_code P k xs).ops (a + 1 + 1) ≡ Some (CheckCast c1)
            cast_at = (subst (λ (ops : List Op). HasAt (duplicate_code P k xs).ops a (op.Load sort.Reference k.places ∷ op.InvokeStatic g1 ∷ ops)) cast dup_at).1.1.0

            value_ref1 : value1 ≡ value.Ref word1
            value_ref1 = ap (λ (t : WordType). value_of t word1) reference

            cast_null1 : (j : Log) → Agrees ws j → word1 ≡ 0 → Goal (suc n) (On Open (frame dn (a + 1 + 1) l' (pushed value1 s1) ∷ gs) M w j)
            cast_null1 j agrees e0 =
                let v : value1 ≡ value.Ref 0 = value_ref1 ∙ ap value.Ref e0 in
                let quiet : Leads Q B 1 (On Open (frame dn (a + 1 + 1) l' (Ref 0 ∷ s1) ∷ gs) M w j) (On Open (frame dn (a + 1 + 1 + 1) l' (Ref 0 ∷ s1) ∷ gs) M w j) = ((refl, refl), λ v. simp (dup_is, cast_at)) in
                subst (λ (v : Value). Goal (suc n) (On Open (frame dn (a + 1 + 1) l' (pushed v s1) ∷ gs) M w j)) (sym v)
                (goal.leads 0 n _ _ quiet (subst (λ (v : Value). Goal n (On Open (frame dn (a + 1 + 1 + 1) l' (pushed v s1) ∷ gs) M w j)) v (behind1 (a + 1 + 1 + 1) long1 j agrees)))

            cast_object1 : (j : Log) → Agrees ws j → (o2 : ℕ) → word1 ≡ suc o2 → Goal (suc n) (On Open (frame dn (a + 1 + 1) l' (pushed value1 s1) ∷ gs) M w j)
            cast_object1 j agrees o2 e0 =
                subst (λ (v : Value). Goal (suc n) (On Open (frame dn (a + 1 + 1) l' (pushed v s1) ∷ gs) M w j)) (sym v)
                (goal.reads n over.0 hs M w j (On Open hs M w j) (suc o2) (λ y i. attempt.followed (told Q (Casts c1) (suc o2) (type_in y) (length_in y) hs) M w i) (refl, refl) (goes_synced P Q B mn args σ (On Open hs M w j) (let f = asks (Gives 0) in rw f (casts_on Q c1 (suc o2) hs M w j))) over.1 (above_inside Q first_added mn q over.0 hs within) so_far agrees (asks Refuses) (λ x. asks (Gives x))
                (λ y i gone. goal.stray_follows n over.0 (told Q (Casts c1) (suc o2) (type_in y) (length_in y) hs) M w i over.1
                (told_inner Q first_added ops_inner mn q z uncounted catch catch_other over.0 (Casts c1) tt (suc o2) (type_in y) (length_in y) hs within) gone)
                found)
              where
                v : value1 ≡ value.Ref (suc o2)
                v = value_ref1 ∙ ap value.Ref e0

                hs : Frames
                hs = frame dn (a + 1 + 1) l' (Ref (suc o2) ∷ s1) ∷ gs

                within : Inside over.0 (frame dn (a + 1 + 1) l' (Ref (suc o2) ∷ s1) ∷ gs)
                within = (added_dup, over.2)

                asks : (x : Reply) → next_run Q B x (On Open (frame dn (a + 1 + 1) l' (Ref (suc o2) ∷ s1) ∷ gs) M w j) ≡ on_head x Q (Casts c1) (suc o2) (frame dn (a + 1 + 1) l' (Ref (suc o2) ∷ s1) ∷ gs) M w j
                asks x = simp (dup_is, cast_at)

                found : (i : Log) → Agrees ws i → Goal n (attempt.followed (told Q (Casts c1) (suc o2) (type_in (overlaid w ws (suc o2))) (length_in (overlaid w ws (suc o2))) (frame dn (a + 1 + 1) l' (Ref (suc o2) ∷ s1) ∷ gs)) M w i)
                found i agrees2 =
                    let holds = cast_holds P Ts S G ups2 M.turns τ heap w ws hr.stands.represents place1 F2 reference c1 class o2 e0 in
                    let yes : is_instance Q (type_in (overlaid w ws (suc o2))) c1 ≡ true = instance_moved P Q Ts R (type_in (overlaid w ws (suc o2))) c1 ∙ holds in
                    subst (λ (b : Bool). Goal n (attempt.followed (or_trap b ClassCast (frame dn (a + 1 + 1) l' (Ref (suc o2) ∷ s1) ∷ gs) (Asks asking.Go (advanced (frame dn (a + 1 + 1) l' (Ref (suc o2) ∷ s1) ∷ gs)))) M w i)) (sym yes)
                    (subst (λ (v : Value). Goal n (On Open (frame dn (a + 1 + 1 + 1) l' (pushed v s1) ∷ gs) M w i)) v (behind1 (a + 1 + 1 + 1) long1 i agrees2))

          after_goes : (j : Log) → Agrees ws j → Goal n (On Open (frame dn (a + 1 + 1) l' (pushed value1 s1) ∷ gs) M w j)
          after_goes j agrees = ⊎_elim plain cast (load_cases t1 element_is.name)
            where
              after_is : after_load t1 under ≡ after_load t1 (Some (type.Ref element_is.name))
              after_is = ap (after_load t1) under_is

              plain : after_load t1 (Some (type.Ref element_is.name)) ≡ [] → Goal n (On Open (frame dn (a + 1 + 1) l' (pushed value1 s1) ∷ gs) M w j)
              plain e0 =
                  let f : length (after_load t1 under) ≡ 0 = ap (λ (ops : List Op). length ops) (after_is ∙ e0) in
                  let same : a + block_len_of (types_at T pc) (op.LoadElement t1) ≡ a + 1 + 1 = omega (arith, f) in
                  behind1 (a + 1 + 1) same j agrees

              cast : (t1 ≡ word.Reference) × (after_load t1 (Some (type.Ref element_is.name)) ≡ CheckCast (element_class element_is.name) ∷ []) → Goal n (On Open (frame dn (a + 1 + 1) l' (pushed value1 s1) ∷ gs) M w j)
              cast x =
                  let reference : F2.declared.word ≡ word.Reference = element_is.are.word_is ∙ ap (λ (t : WordType). helped (Some (type.Ref element_is.name)) t) x.0 in
                  let class : (y : List ℕ) → IsWithin P (type.Ref y) (type.Ref F2.declared.class) → IsWithin P (type.Ref y) (type.Ref (element_class element_is.name)) = λ y h. order P S.source.types y F2.declared.class (element_class element_is.name) h (element_is.are.class x.0) in
                  goal.more n _ (by word1 refl (after_is ∙ x.1) reference class)
                where
                  by : (v : ℕ) → word1 ≡ v → after_load t1 under ≡ CheckCast (element_class element_is.name) ∷ [] → F2.declared.word ≡ word.Reference
                      → ((y : List ℕ) → IsWithin P (type.Ref y) (type.Ref F2.declared.class) → IsWithin P (type.Ref y) (type.Ref (element_class element_is.name))) → Goal (suc n) (On Open (frame dn (a + 1 + 1) l' (pushed value1 s1) ∷ gs) M w j)
                  by zero e0 code reference class = cast_null1 (element_class element_is.name) code reference class j agrees e0
                  by (suc o2) e0 code reference class = cast_object1 (element_class element_is.name) code reference class j agrees o2 e0

          -- the element is read, and given back to the duplicate
          returned1 : (j : Log) → Agrees ws j → Goal n (On Open (resumed (pushed value1 []) (frame g1 10 taken1 [] ∷ caller1 ∷ gs)) M w j)
          returned1 j agrees =
              let end : HasAt (element_getter_method th).ops 11 (ReturnValue (sort_of F2.declared.word) ∷ []) = subst (λ (x : WordType). HasAt (element_getter_method th).ops 11 (ReturnValue (sort_of x) ∷ [])) (sym word_is) (element_end th) in
              subst (λ (st : List Slot). Goal n (On Open (frame g1 11 taken1 st ∷ caller1 ∷ gs) M w j)) (sym (append-nil (pushed value1 [])))
              (goal.more n _ (goal.leads 0 n _ _ (returns Q B g1 11 (element_getter_method th) loader taken1 dn a l' s1 gs M w j (sort_of F2.declared.word) end value1 (value_kind_of F2.declared.word word1)) (after_goes j agrees)))

          read1 : (j : Log) → Agrees ws j → Goal (suc n) (On Open (frame g1 10 taken1 (Int i ∷ Loaded ∷ Ref (suc o) ∷ Context ∷ []) ∷ caller1 ∷ gs) M w j)
          read1 j agrees = reads_at n X τ M w j hr.reach hr.stands so_far over.0 over.1 agrees place1 F2.declared.word (frame g1 10 taken1 []) (caller1 ∷ gs) _ inside1 step returned1
            where
              at_place : place1 ≡ record { object = suc o; index = suc x }
              at_place = ap (element_place (suc o)) index

              step : (v : Reply) → next_run Q B v (On Open (frame g1 10 taken1 (Int i ∷ Loaded ∷ Ref (suc o) ∷ Context ∷ []) ∷ caller1 ∷ gs) M w j) ≡ on_read v Q place1 F2.declared.word (frame g1 10 taken1 [] ∷ caller1 ∷ gs) M w j
              step v =
                  let ctx = here.agree.context in
                  let near2 : nat_lt (suc o + suc x) (2 ^ 64) ≡ true = ap has_address (sym at_place) ∙ near in
                  element_read Q B dn a _ dup_is l' k.places ctx g1 _ dup_at th gs M w j s1 i loader o x index near2 v
                  ∙ ap (λ (p : Place). on_read v Q p th (frame g1 10 taken1 [] ∷ caller1 ∷ gs) M w j) (sym at_place)
                  ∙ ap (λ (t : WordType). on_read v Q place1 t (frame g1 10 taken1 [] ∷ caller1 ∷ gs) M w j) (sym word_is)

          look1 : (j : Log) → Agrees ws j → Goal n (attempt.followed (told Q (Indexes i element.Look) (suc o) array1.type (length_of array1) looker) M w j)
          look1 j agrees =
              let ctx = here.agree.context in
              let second = goal.leads 5 n _ _ (element_second Q B dn a _ dup_is l' k.places ctx g1 _ dup_at th gs M w j s1 i loader o) (goal.more n _ (read1 j agrees)) in
              subst (λ (x : Asked). Goal n (attempt.followed x M w j)) (sym toldQ)
              (goal.more n _ (goal.looks n over.0 looker M w j (attempt.Asking (asking.Ask (request.Look place1)) looker M w j) (On Open (advanced looker) M w j) (refl, refl) (requests_synced P Q B mn args σ (attempt.Asking (asking.Ask (request.Look place1)) looker M w j) _ _ refl) over.1 (above_inside Q first_added mn q over.0 looker inside1) so_far agrees refl (λ y. refl) (goal.more n _ second)))

        load_object : Goal (suc n) (On Open (frame dn a l' (Int i ∷ Ref (suc o) ∷ s1) ∷ gs) M w r)
        load_object =
            let ctx = here.agree.context in
            goal.leads 4 n _ _ (element_first Q B dn a _ dup_is l' k.places ctx g1 _ dup_at th gs M w r s1 i loader (suc o))
            (goal.more n _ (heads_at _ r (refl, refl) (heads_synced P Q B mn args σ (On Open (frame g1 3 (Ref (suc o) ∷ Int i ∷ Context ∷ []) (Int i ∷ Ref (suc o) ∷ Context ∷ []) ∷ frame dn (a + 1) l' s1 ∷ gs) M w r) _ _ _ (element_look_asks Q B dn a _ dup_is l' k.places ctx g1 _ dup_at th gs M w r s1 i loader o)) hr.agrees (suc o) array1 F1.there (Indexes i element.Look) tt (frame g1 3 taken1 []) (caller1 ∷ gs) inside1
            (element_look Q B dn a _ dup_is l' k.places ctx g1 _ dup_at th gs M w r s1 i loader o) (λ j agrees. by (in_bounds i (length_of array1)) refl j agrees)))
          where
            addressed : (b : Bool) → has_address (element_place (suc o) i) ≡ b → in_bounds i (length_of array1) ≡ true → has_address (element_place (suc o) i) ≡ true
            addressed true e0 is = e0
            addressed false e0 is = let none : told1 ≡ Fails = rw (is, e0) refl in absurd (subst (Fine P Ts S B.region.size τ heap (LastHeads P Ts S B.region.size τ heap)) none F1.goes)

            positive : (y : ℤ) → in_bounds y (length_of array1) ≡ true → (x : ℕ) × (y ≡ pos x)
            positive (pos x) h = (x, refl)
            positive (negsuc x) h = absurd (never false h refl)

            by : (b : Bool) → in_bounds i (length_of array1) ≡ b → (j : Log) → Agrees ws j → Goal n (attempt.followed (told Q (Indexes i element.Look) (suc o) array1.type (length_of array1) looker) M w j)
            by false is j agrees = outside1 is j agrees
            by true is j agrees = let x = positive i is in look1 x.0 x.1 is (addressed (has_address (element_place (suc o) i)) refl is) j agrees

      pub get_element : Goal (suc n) (On Open (frame dn a l' s ∷ gs) M w r)
      get_element = first_of (int_popped P fs IsFineAsk (λ h. h) s _ (fine (op.LoadElement t1) e _ (step_of t.is)))
        where
          then_loads : ℤ → List Slot → Did
          then_loads i s1 = on_ref s1 (λ o s2. not_null o (frame m pc l s2) (Does (doing.Head o (Indexes i element.Load)) (frame m pc l s2)))

          step_of : slice_get P.methods m ≡ Some k → step P (frame m pc l s ∷ fs) ≡ on_did P (on_int s then_loads) fs
          step_of isp = simp (isp, e)

          by : {i : ℤ} {s1 : List Slot} (o : ℕ) → s ≡ Int i ∷ Ref o ∷ s1 → Goal (suc n) (On Open (frame dn a l' (Int i ∷ Ref o ∷ s1) ∷ gs) M w r)
          by {i} {s1} zero same = load_null i s1 same
          by {i} {s1} (suc o) same = load_object i o s1 same

          both_of : (i : ℤ) (s1 : List Slot) → s ≡ Int i ∷ s1 → (o : ℕ) × (rest : List Slot) × (s1 ≡ Ref o ∷ rest) → Goal (suc n) (On Open (frame dn a l' s ∷ gs) M w r)
          both_of i s1 is y = let same : s ≡ Int i ∷ Ref y.0 ∷ y.1 = is ∙ ap (λ (st : List Slot). Int i ∷ st) y.2 in subst (λ (s : List Slot). Goal (suc n) (On Open (frame dn a l' s ∷ gs) M w r)) (sym same) (by y.0 same)

          first_of : (i : ℤ) × (rest : List Slot) × (s ≡ Int i ∷ rest) × IsFineAsk (on_did P (then_loads i rest) fs) → Goal (suc n) (On Open (frame dn a l' s ∷ gs) M w r)
          first_of x = both_of x.0 x.1 x.2 (ref_popped P fs IsFineAsk (λ h. h) x.1 _ x.3)

    -- an element that is written
    module _ (t1 : WordType) (e : slice_get k.ops pc ≡ Some (op.StoreElement t1)) where
      abbrev under2 : Option VType
      under2 = array_under (1 + word_places t1) (types_at T pc)

      abbrev th2 : WordType
      th2 = helped under2 t1

      abbrev g2 : ℕ
      g2 = element_setter P th2

      storer : slice_get Q.methods g2 ≡ Some (element_setter_method th2)
      storer = R.element_setters th2

      dup_is2 : slice_get Q.methods dn ≡ Some (duplicate_code P k xs)
      dup_is2 = there_of P Ts S mn q gives_type c slots Q R uncounted m dn k T t

      dup_at2 : HasAt (duplicate_code P k xs).ops a (op.Load sort.Reference k.places ∷ op.InvokeStatic g2 ∷ [])
      dup_at2 = has_block P k xs pc (record { op = op.StoreElement t1; types = types_at T pc }) (typed_o (op.StoreElement t1) e)

      lows : first_added ≤ g2
      lows = omega (arith, low)

      in_block2 : a + 1 < a + block_len_of (types_at T pc) (op.StoreElement t1)
      in_block2 = omega arith

      -- a value of the helper's type is one of the instruction's
      same_sort : (u : Option VType) (t : WordType) → sort_of (helped u t) ≡ sort_of t
      same_sort (Some (type.Ref n)) word.Byte = by (bytes_eq n (codes "[Z"))
        where
          by : (b : Bool) → sort_of (if b then word.Boolean else word.Byte) ≡ sort.Int
          by true = refl
          by false = refl
      same_sort (Some (type.Ref n)) t = refl
      same_sort u t = refl

      module _ (v : Value) (kind : value_sort v ≡ sort_of t1) (i : ℤ) (s1 : List Slot) where
        kind2 : value_sort v ≡ sort_of th2
        kind2 = kind ∙ sym (same_sort under2 t1)

        abbrev caller2 : Frame
        caller2 = frame dn (a + 1) l' s1

        abbrev ups3 : Frames
        ups3 = frame m pc l s1 ∷ fs

        store_null : s ≡ pushed v (Int i ∷ Ref 0 ∷ s1) → Goal (suc n) (On Open (frame dn a l' (pushed v (Int i ∷ Ref 0 ∷ s1)) ∷ gs) M w r)
        store_null same =
            let ctx = here.agree.context in
            goal.leads 5 n _ _ (element_put Q B dn a _ dup_is2 l' k.places ctx g2 [] dup_at2 th2 gs M w r s1 i storer v kind2 0)
            (goal.more n _ (null_in (op.StoreElement t1) e in_block2 s1 (asks v kind same t.is) g2 4 (element_setter_method th2) storer refl lows (Ref 0 ∷ Int i ∷ slots_of v ++ Context ∷ []) _ s1
            (element_put_null Q B dn a _ dup_is2 l' k.places ctx g2 [] dup_at2 th2 gs M w r s1 i storer v kind2 (Ref 0 ∷ Int i ∷ slots_of v ++ Context ∷ []))))
          where
            asks : (v : Value) → value_sort v ≡ sort_of t1 → s ≡ pushed v (Int i ∷ Ref 0 ∷ s1) → slice_get P.methods m ≡ Some k → step P (frame m pc l s ∷ fs) ≡ Asks (asking.Make (trap_type NullPointer) 0 Raised) (frame m pc l s1 ∷ fs)
            asks (value.Int x) kind same isp = let y = sym kind in simp (same, isp, e, y)
            asks (value.Long x) kind same isp = let y = sym kind in simp (same, isp, e, y)
            asks (value.Ref x) kind same isp = let y = sym kind in simp (same, isp, e, y)

        module _ (o : ℕ) (same : s ≡ pushed v (Int i ∷ Ref (suc o) ∷ s1)) where
          asks_store : (v : Value) → value_sort v ≡ sort_of t1 → s ≡ pushed v (Int i ∷ Ref (suc o) ∷ s1) → slice_get P.methods m ≡ Some k → step P (frame m pc l s ∷ fs) ≡ Asks (asking.Head (suc o) (Indexes i (element.Store v))) ups3
          asks_store (value.Int x) kind same isp = let y = sym kind in simp (same, isp, e, y)
          asks_store (value.Long x) kind same isp = let y = sym kind in simp (same, isp, e, y)
          asks_store (value.Ref x) kind same isp = let y = sym kind in simp (same, isp, e, y)

          abbrev local2 : List Slot
          local2 = Ref (suc o) ∷ Int i ∷ slots_of v ++ Context ∷ []

          abbrev writer2 : ℕ → Frames
          writer2 y = frame g2 y local2 [] ∷ caller2 ∷ gs

          H1 : Heads P Ts S B.region.size τ heap (LastHeads P Ts S B.region.size τ heap) (suc o) (Indexes i (element.Store v)) ups3
          H1 = fine (op.StoreElement t1) e _ (asks_store v kind same t.is)

          abbrev array2 : Object
          array2 = H1.object

          abbrev told2 : Asked
          told2 = told P (Indexes i (element.Store v)) (suc o) array2.type (length_of array2) ups3

          abbrev kept2 : Value
          kept2 = kept_by th2 v

          abbrev told3 : Asked
          told3 = told Q (Indexes i (element.Write kept2)) (suc o) array2.type (length_of array2) (writer2 4)

          next2 : next_direct P G X ≡ call.followed told2 M.turns τ
          next2 = goes_at (op.StoreElement t1) e _ (asks_store v kind same t.is) ∙ ap (λ (x : Option Object). call.headed x P (Indexes i (element.Store v)) (suc o) ups3 M.turns τ) H1.there

          inside2 : (y : ℕ) → Inside over.0 (writer2 y)
          inside2 y = (lows, added_frame caller2 gs added_dup over.2)

          outside2 : in_bounds i (length_of array2) ≡ false → (j : Log) → Agrees ws j → Goal n (attempt.followed told3 M w j)
          outside2 is j agrees =
              let toldP : told2 ≡ Asks (asking.Make (trap_type ArrayIndex) 0 Raised) ups3 = rw is refl in
              let toldQ : told3 ≡ Asks (asking.Make (trap_type ArrayIndex) 0 Raised) (writer2 4) = rw is refl in
              let F3 : MakesFine P Ts S B.region.size τ heap (trap_type ArrayIndex) 0 Raised ups3 = subst (Fine P Ts S B.region.size τ heap (LastHeads P Ts S B.region.size τ heap)) toldP H1.goes in
              let y = stood_next stood_first (call.Asking (asking.Make (trap_type ArrayIndex) 0 Raised) ups3 M.turns τ) (next2 ∙ ap (λ (x : Asked). call.followed x M.turns τ) toldP) in
              subst (λ (x : Asked). Goal n (attempt.followed x M w j)) (sym toldQ)
              (goal.more n _ (traps_at (op.StoreElement t1) e in_block2 s1 s1 g2 4 (element_setter_method th2) storer refl lows local2 y j agrees ArrayIndex refl F3))

          element_is2 : IsElementOf P (array_under (1 + word_places t1) (Some here.types)) t1 H1.about.declared
          element_is2 = subst (λ (h : Types). IsElementOf P (array_under (1 + word_places t1) (Some h)) t1 H1.about.declared) (types_this (op.StoreElement t1) e s1 _ H1.about.at) (at_this (op.StoreElement t1) e s1 (λ o h. IsIndexedAt P o h H1.about.declared) H1.about.at)

          word_is2 : H1.about.declared.word ≡ th2
          word_is2 = element_is2.are.word_is ∙ ap (λ (u : Option VType). helped u t1) (sym (ap (array_under (1 + word_places t1)) here.there ∙ element_is2.under))

          module _ (is : in_bounds i (length_of array2) ≡ true) (near : has_address (element_place (suc o) i) ≡ true) where
            abbrev place2 : Place
            place2 = element_place (suc o) i

            abbrev type2 : ℕ
            type2 = array2.type

            kept_is : kept_in (row_at P type2) (element.Store v) ≡ element.Store kept2
            kept_is =
                ap (λ (x : Option Row). kept_in x (element.Store v)) H1.about.is
                ∙ ap (λ (y : Holds). kept_in (Some (record H1.about.row { holds = y })) (element.Store v)) H1.about.row_holds
                ∙ ap (λ (t : WordType). element.Store (kept_by t v)) word_is2

            written_is : kept_in (row_at Q type2) (element.Write kept2) ≡ element.Write kept2
            written_is = by (row_at Q type2)
              where
                by : (x : Option Row) → kept_in x (element.Write kept2) ≡ element.Write kept2
                by None = refl
                by (Some x) = refl

            stores_as : told2 ≡ stored type2 place2 (element.Store kept2) ups3
            stores_as = let at : told2 ≡ stored type2 place2 (kept_in (row_at P type2) (element.Store v)) ups3 = rw (is, near) refl in at ∙ ap (λ (x : Element). stored type2 place2 x ups3) kept_is

            writes_as : told3 ≡ stored type2 place2 (element.Write kept2) (writer2 4)
            writes_as = let at : told3 ≡ stored type2 place2 (kept_in (row_at Q type2) (element.Write kept2)) (writer2 4) = rw (is, near) refl in at ∙ ap (λ (x : Element). stored type2 place2 x (writer2 4)) written_is

            write2 : (y : Value) (stood : Stood) → stood.at ≡ call.Asking (asking.Ask (request.Put place2 y)) ups3 M.turns τ → PutsFine P Ts S B.region.size τ heap place2 y ups3 → (j : Log) → Agrees ws j → Goal (suc n) (attempt.Asking (asking.Ask (request.Write place2 (word_of y))) (writer2 4) M w j)
            write2 y stood at F j agrees =
                let log = access (address place2) (word_of y) ∷ w in
                let ctx = here.agree.context in
                let st = stands_next (op.StoreElement t1) e tt refl in
                let two : a + block_len_of (types_at T pc) (op.StoreElement t1) ≡ a + 1 + 1 = omega arith in
                let landed = lands (op.StoreElement t1) e stood (a + 1 + 1) two st s1 (put τ place2 y) log j (ap (next_direct P G) at ∙ puts P Ts S G ups3 M.turns τ heap w ws hr.stands.represents place2 y F)
                (frames_kept P Ts S τ (put τ place2 y) (put_keeps τ place2 y F.old (held_at τ place2 F.old F.held)) (advanced ups3) F.goes)
                (record { represents = put_stands P Ts S G ups3 M.turns τ heap w ws hr.stands.represents place2 y F; own = hr.stands.own; others = hr.stands.others }) agrees in
                goal.looks n over.0 (writer2 4) M w j (attempt.Asking (asking.Ask (request.Write place2 (word_of y))) (writer2 4) M w j) (On Open (advanced (writer2 4)) M log j) (refl, refl) (requests_synced P Q B mn args σ (attempt.Asking (asking.Ask (request.Write place2 (word_of y))) (writer2 4) M w j) _ _ refl) over.1 (above_inside Q first_added mn q over.0 (writer2 4) (inside2 4)) so_far agrees refl (λ x. refl)
                (goal.more n _ (goal.leads 0 n _ _ (element_last Q B dn a _ dup_is2 l' k.places ctx g2 [] dup_at2 th2 gs M log j s1 i storer local2) landed))

            -- a stored object is asked for its own header
            module _ (q2 : ℕ) (stood : Stood) (at : stood.at ≡ call.Asking (asking.Head (suc q2) (Fits type2 place2 (element.Store (value.Ref (suc q2))))) ups3 M.turns τ)
                (F : LastHeads P Ts S B.region.size τ heap (suc q2) (Fits type2 place2 (element.Store (value.Ref (suc q2)))) ups3) where
              abbrev told4 : Asked
              told4 = told P (Fits type2 place2 (element.Store (value.Ref (suc q2)))) (suc q2) F.object.type (length_of F.object) ups3

              abbrev told5 : Asked
              told5 = told Q (Fits type2 place2 (element.Write (value.Ref (suc q2)))) (suc q2) F.object.type (length_of F.object) (writer2 4)

              next4 : next_direct P G stood.at ≡ call.followed told4 M.turns τ
              next4 = ap (next_direct P G) at ∙ ap (λ (x : Option Object). call.headed x P (Fits type2 place2 (element.Store (value.Ref (suc q2)))) (suc q2) ups3 M.turns τ) F.there

              instance_same : is_instance Q F.object.type (element_name (row_at Q type2)) ≡ is_instance P F.object.type (element_name (row_at P type2))
              instance_same = instance_moved P Q Ts R F.object.type (element_name (row_at Q type2)) ∙ ap (λ (x : Option Row). is_instance P F.object.type (element_name x)) (row_moved P Q Ts R type2)

              fits_by : (b : Bool) → is_instance P F.object.type (element_name (row_at P type2)) ≡ b → (j : Log) → Agrees ws j → Goal n (attempt.followed told5 M w j)
              fits_by false unfit j agrees =
                  let toldP : told4 ≡ Asks (asking.Make (trap_type ArrayStore) 0 Raised) ups3 = rw unfit refl in
                  let unfitQ = instance_same ∙ unfit in
                  let toldQ : told5 ≡ Asks (asking.Make (trap_type ArrayStore) 0 Raised) (writer2 4) = rw unfitQ refl in
                  let F3 : MakesFine P Ts S B.region.size τ heap (trap_type ArrayStore) 0 Raised ups3 = subst (Fine P Ts S B.region.size τ heap (NoHeads P Ts S B.region.size τ heap)) toldP F.goes in
                  let y = stood_next stood (call.Asking (asking.Make (trap_type ArrayStore) 0 Raised) ups3 M.turns τ) (next4 ∙ ap (λ (x : Asked). call.followed x M.turns τ) toldP) in
                  subst (λ (x : Asked). Goal n (attempt.followed x M w j)) (sym toldQ)
                  (goal.more n _ (traps_at (op.StoreElement t1) e in_block2 s1 s1 g2 4 (element_setter_method th2) storer refl lows local2 y j agrees ArrayStore refl F3))
              fits_by true fit j agrees =
                  let toldP : told4 ≡ Asks (asking.Ask (request.Put place2 (value.Ref (suc q2)))) ups3 = rw fit refl in
                  let fitQ = instance_same ∙ fit in
                  let toldQ : told5 ≡ Asks (asking.Ask (request.Write place2 (suc q2))) (writer2 4) = rw fitQ refl in
                  let F3 : PutsFine P Ts S B.region.size τ heap place2 (value.Ref (suc q2)) ups3 = subst (Fine P Ts S B.region.size τ heap (NoHeads P Ts S B.region.size τ heap)) toldP F.goes in
                  let y = stood_next stood (call.Asking (asking.Ask (request.Put place2 (value.Ref (suc q2)))) ups3 M.turns τ) (next4 ∙ ap (λ (x : Asked). call.followed x M.turns τ) toldP) in
                  subst (λ (x : Asked). Goal n (attempt.followed x M w j)) (sym toldQ) (goal.more n _ (write2 (value.Ref (suc q2)) y refl F3 j agrees))

              fits2 : (j : Log) → Agrees ws j → Goal (suc n) (attempt.Asking (asking.Head (suc q2) (Fits type2 place2 (element.Write (value.Ref (suc q2))))) (writer2 4) M w j)
              fits2 j agrees = heads_at _ j (refl, refl) (heads_synced P Q B mn args σ (attempt.Asking (asking.Head (suc q2) (Fits type2 place2 (element.Write (value.Ref (suc q2))))) (writer2 4) M w j) _ _ _ refl) agrees (suc q2) F.object F.there (Fits type2 place2 (element.Write (value.Ref (suc q2)))) tt (frame g2 4 local2 []) (caller2 ∷ gs) (inside2 4) (λ x. refl)
                  (λ i agrees2. fits_by (is_instance P F.object.type (element_name (row_at P type2))) refl i agrees2)

            stored_by : (y : Value) → kept2 ≡ y → (j : Log) → Agrees ws j → Goal n (attempt.followed told3 M w j)
            stored_by y same j agrees = subst (λ (x : Asked). Goal n (attempt.followed x M w j)) (sym (writes_as ∙ ap (λ (y : Value). stored type2 place2 (element.Write y) (writer2 4)) same)) (by y (stores_as ∙ ap (λ (y : Value). stored type2 place2 (element.Store y) ups3) same))
              where
                by : (y : Value) → told2 ≡ stored type2 place2 (element.Store y) ups3 → Goal n (attempt.followed (stored type2 place2 (element.Write y) (writer2 4)) M w j)
                by (value.Int x) f =
                    let F3 = subst (Fine P Ts S B.region.size τ heap (LastHeads P Ts S B.region.size τ heap)) f H1.goes in
                    goal.more n _ (write2 (value.Int x) (stood_next stood_first (call.Asking (asking.Ask (request.Put place2 (value.Int x))) ups3 M.turns τ) (next2 ∙ ap (λ (x : Asked). call.followed x M.turns τ) f)) refl F3 j agrees)
                by (value.Long x) f =
                    let F3 = subst (Fine P Ts S B.region.size τ heap (LastHeads P Ts S B.region.size τ heap)) f H1.goes in
                    goal.more n _ (write2 (value.Long x) (stood_next stood_first (call.Asking (asking.Ask (request.Put place2 (value.Long x))) ups3 M.turns τ) (next2 ∙ ap (λ (x : Asked). call.followed x M.turns τ) f)) refl F3 j agrees)
                by (value.Ref zero) f =
                    let F3 = subst (Fine P Ts S B.region.size τ heap (LastHeads P Ts S B.region.size τ heap)) f H1.goes in
                    goal.more n _ (write2 (value.Ref zero) (stood_next stood_first (call.Asking (asking.Ask (request.Put place2 (value.Ref zero))) ups3 M.turns τ) (next2 ∙ ap (λ (x : Asked). call.followed x M.turns τ) f)) refl F3 j agrees)
                by (value.Ref (suc q2)) f =
                    let F3 = subst (Fine P Ts S B.region.size τ heap (LastHeads P Ts S B.region.size τ heap)) f H1.goes in
                    goal.more n _ (fits2 q2 (stood_next stood_first (call.Asking (asking.Head (suc q2) (Fits type2 place2 (element.Store (value.Ref (suc q2))))) ups3 M.turns τ) (next2 ∙ ap (λ (x : Asked). call.followed x M.turns τ) f)) refl F3 j agrees)

          store_object : Goal (suc n) (On Open (frame dn a l' (pushed v (Int i ∷ Ref (suc o) ∷ s1)) ∷ gs) M w r)
          store_object =
              let ctx = here.agree.context in
              goal.leads 5 n _ _ (element_put Q B dn a _ dup_is2 l' k.places ctx g2 [] dup_at2 th2 gs M w r s1 i storer v kind2 (suc o))
              (goal.more n _ (heads_at _ r (refl, refl) (heads_synced P Q B mn args σ (On Open (frame g2 4 (Ref (suc o) ∷ Int i ∷ slots_of v ++ Context ∷ []) (Int i ∷ pushed v (Ref (suc o) ∷ Context ∷ [])) ∷ frame dn (a + 1) l' s1 ∷ gs) M w r) _ _ _ (element_write_asks Q B dn a _ dup_is2 l' k.places ctx g2 [] dup_at2 th2 gs M w r s1 i storer o v kind2 local2)) hr.agrees (suc o) array2 H1.there (Indexes i (element.Write kept2)) tt (frame g2 4 local2 []) (caller2 ∷ gs) (inside2 4)
              (λ x. element_write Q B dn a _ dup_is2 l' k.places ctx g2 [] dup_at2 th2 gs M w r s1 i storer o v kind2 local2 x) (λ j agrees. by (in_bounds i (length_of array2)) refl j agrees)))
            where
              addressed : (b : Bool) → has_address (element_place (suc o) i) ≡ b → in_bounds i (length_of array2) ≡ true → has_address (element_place (suc o) i) ≡ true
              addressed true e0 is = e0
              addressed false e0 is = let none : told2 ≡ Fails = rw (is, e0) refl in absurd (subst (Fine P Ts S B.region.size τ heap (LastHeads P Ts S B.region.size τ heap)) none H1.goes)

              by : (b : Bool) → in_bounds i (length_of array2) ≡ b → (j : Log) → Agrees ws j → Goal n (attempt.followed told3 M w j)
              by false is j agrees = outside2 is j agrees
              by true is j agrees = stored_by is (addressed (has_address (element_place (suc o) i)) refl is) kept2 refl j agrees

      pub put_element : Goal (suc n) (On Open (frame dn a l' s ∷ gs) M w r)
      put_element = let start = fine (op.StoreElement t1) e _ (step_of t.is) in first_of (popped P fs IsFineAsk (λ h. h) (sort_of t1) s _ start) start
        where
          then_at : Value → ℤ → List Slot → Did
          then_at v i s2 = on_ref s2 (λ o s3. not_null o (frame m pc l s3) (Does (doing.Head o (Indexes i (element.Store v))) (frame m pc l s3)))

          then_stores : Value → List Slot → Did
          then_stores v s1 = on_int s1 (then_at v)

          step_of : slice_get P.methods m ≡ Some k → step P (frame m pc l s ∷ fs) ≡ on_did P (on_value (sort_of t1) s then_stores) fs
          step_of isp = simp (isp, e)

          under : (v : Value) (s1 : List Slot) → value_sort v ≡ sort_of t1 → IsFineAsk (on_did P (on_value (sort_of t1) (pushed v s1) then_stores) fs) → IsFineAsk (on_did P (then_stores v s1) fs)
          under (value.Int x) s1 kind h = subst (λ (t : Sort). IsFineAsk (on_did P (on_value t (Int x ∷ s1) then_stores) fs)) (sym kind) h
          under (value.Long x) s1 kind h = subst (λ (t : Sort). IsFineAsk (on_did P (on_value t (Second ∷ Long x ∷ s1) then_stores) fs)) (sym kind) h
          under (value.Ref x) s1 kind h = subst (λ (t : Sort). IsFineAsk (on_did P (on_value t (Ref x ∷ s1) then_stores) fs)) (sym kind) h

          by : (v : Value) → value_sort v ≡ sort_of t1 → (i : ℤ) (s1 : List Slot) (o : ℕ) → s ≡ pushed v (Int i ∷ Ref o ∷ s1) → Goal (suc n) (On Open (frame dn a l' (pushed v (Int i ∷ Ref o ∷ s1)) ∷ gs) M w r)
          by v kind i s1 zero same = store_null v kind i s1 same
          by v kind i s1 (suc o) same = store_object v kind i s1 o same

          all_of : (x : Popped (sort_of t1) s) (i : ℤ) (s1 : List Slot) → x.rest ≡ Int i ∷ s1 → (o : ℕ) × (rest : List Slot) × (s1 ≡ Ref o ∷ rest) → Goal (suc n) (On Open (frame dn a l' s ∷ gs) M w r)
          all_of x i s1 is u =
              let same : s ≡ pushed x.v (Int i ∷ Ref u.0 ∷ u.1) = x.is ∙ ap (λ (st : List Slot). pushed x.v st) (is ∙ ap (λ (st : List Slot). Int i ∷ st) u.2) in
              subst (λ (s : List Slot). Goal (suc n) (On Open (frame dn a l' s ∷ gs) M w r)) (sym same) (by x.v x.sort i u.1 u.0 same)

          both_of : (x : Popped (sort_of t1) s) → (i : ℤ) × (rest : List Slot) × (x.rest ≡ Int i ∷ rest) × IsFineAsk (on_did P (then_at x.v i rest) fs) → Goal (suc n) (On Open (frame dn a l' s ∷ gs) M w r)
          both_of x y = all_of x y.0 y.1 y.2 (ref_popped P fs IsFineAsk (λ h. h) y.1 _ y.3)

          first_of : (x : Popped (sort_of t1) s) → IsFineAsk (on_did P (on_value (sort_of t1) s then_stores) fs) → Goal (suc n) (On Open (frame dn a l' s ∷ gs) M w r)
          first_of x start = both_of x (int_popped P fs IsFineAsk (λ h. h) x.rest _ (under x.v x.rest x.sort (subst (λ (st : List Slot). IsFineAsk (on_did P (on_value (sort_of t1) st then_stores) fs)) x.is start)))

    -- ---- each instruction of memory

    abbrev pub IsMemory : Op → Type 0
    IsMemory (op.GetStatic i) = Unit {0}
    IsMemory (op.PutStatic i) = Unit {0}
    IsMemory (op.GetField i cn) = Unit {0}
    IsMemory (op.PutField i cn) = Unit {0}
    IsMemory (op.LoadElement t) = Unit {0}
    IsMemory (op.StoreElement t) = Unit {0}
    IsMemory o = ⊥

    -- a static field's object isn't null
    based : (i : ℕ) (f : Field) (o : ℕ) → slice_get P.fields i ≡ Some f → f.base ≡ Some o → (x : ℕ) × (f.base ≡ Some (suc x))
    based i f o there base =
        let h : IsBase f o = subst (IsBased f) base (each_at (IsSourceField P) P.fields i f S.source.fields there).based in
        by o h.object base
      where
        by : (o : ℕ) → 1 < o → f.base ≡ Some o → (x : ℕ) × (f.base ≡ Some (suc x))
        by zero lt base = absurd (omega (arith, lt))
        by (suc x) lt base = (x, base)

    -- What stands for an instruction of memory leads where it leads.
    pub serves_memory : (o : Op) → slice_get k.ops pc ≡ Some o → IsMemory o → Goal (suc n) (On Open (frame dn a l' s ∷ gs) M w r)
    serves_memory o e memory = by o e memory (each_at (IsSourceOp P k) k.ops pc o (each_at (IsSourceMethod P) P.methods m k S.source.methods t.is).each e)
      where
        by : (o : Op) → slice_get k.ops pc ≡ Some o → IsMemory o → IsSourceOp P k o → Goal (suc n) (On Open (frame dn a l' s ∷ gs) M w r)
        by (op.GetStatic i) e memory src = let x = based i src.1.field src.0 src.1.there src.1.base_is in get_static i e src.1.field x.0 src.1.there x.1
        by (op.PutStatic i) e memory src = let x = based i src.1.field src.0 src.1.there src.1.base_is in put_static i e src.1.field x.0 src.1.there x.1
        by (op.GetField i cn) e memory src = get_field i cn e src.field src.there src.base_is
        by (op.PutField i cn) e memory src = put_field i cn e src.field src.there src.base_is
        by (op.LoadElement t1) e memory src = get_element t1 e
        by (op.StoreElement t1) e memory src = put_element t1 e
        by o e memory src = absurd memory
