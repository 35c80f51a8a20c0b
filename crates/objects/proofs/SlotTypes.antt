-- Which slots have a type: objects that aren't built go by the instruction that made them, or by the constructor's own class.
use Rattle.std.proofs.Common.{◌≡◌, ℕ, zero, suc, ◌+◌, ◌-◌, ◌<◌, List, [], ◌∷◌, ◌++◌, map, length, Option, Some, None, Bool, true, false, refl, sym, ap, subst, arith}
use Rattle.std.specs.Prelude.{slice_get, slice_set, replicate, FitsSigned, if◌then◌else◌}
use Rattle.std.specs.Int.{w32, w64}
use Rattle.std.specs.List.{flat_map}
use Rattle.std.proofs.lemmas.Bool.Decides.{nat_tests}
use Rattle.jmodel.specs.declared.value.Value.{Value}
use Rattle.jmodel.specs.declared.value.Value.TheVariants as value
use Rattle.jmodel.specs.declared.typing.VType.{VType}
use Rattle.jmodel.specs.declared.typing.VType.TheVariants.{Int, Long, Second, Null, Ref, Uninit, UninitThis, Top}
use Rattle.objects.specs.declared.op.Slot.{Slot}
use Rattle.objects.specs.declared.op.Slot.TheVariants as slot
use Rattle.objects.specs.declared.op.WordType.{WordType}
use Rattle.objects.specs.declared.op.WordType.TheVariants as word
use Rattle.objects.specs.declared.op.Op.TheVariants as op
use Rattle.objects.specs.semantics.Value.{slots_of, pushed}
use Rattle.objects.specs.semantics.Program.{Method, Program}
use Rattle.objects.specs.typing.TypeOrder.{stack_types, IsWithin, AreWithin}
use Rattle.objects.specs.semantics.State.{State, type_at}
use Rattle.objects.specs.history.Meaning.{IsObjectOf, IsReferenceTo, IsValueOf}
use Rattle.objects.specs.typing.Source.{AreParametersAfter, AreArguments, AreTypes}
use Rattle.objects.specs.typing.Typing.{freed_by, become, is_uninit, result_types}
use Rattle.objects.proofs.WordTypes.{number_fits}
use Rattle.objects.proofs.Elements.{never, order}
use Rattle.objects.proofs.Heap.{KeepsTypes, object_kept, reference_kept}

-- an object that an instruction of a method made
pub record IsNew (k : Method) (σ : State) (p o : ℕ) : Type 0 where
  pub type : ℕ
  pub made : slice_get k.ops p ≡ Some (op.New type)
  pub there : type_at σ o ≡ Some type
  pub past : 0 < o

-- an object of a class, which isn't null
pub record IsThis (P : Program) (σ : State) (n : List ℕ) (o : ℕ) : Type 0 where
  pub object : IsObjectOf P σ n o
  pub past : 0 < o

-- a type that says the same in each method
abbrev pub IsPlain : VType → Type 0
IsPlain (Uninit p) = ⊥
IsPlain UninitThis = ⊥
IsPlain t = Unit {0}

module _ (P : Program) (k : Method) where
  -- a slot of a type, in a frame of the method
  abbrev pub HasType : State → VType → Slot → Type 0
  HasType σ Int (slot.Int x) = FitsSigned w32 x
  HasType σ Null (slot.Ref o) = o ≡ 0
  HasType σ Long (slot.Long x) = FitsSigned w64 x
  HasType σ Second slot.Second = Unit {0}
  HasType σ (Ref n) (slot.Ref o) = IsReferenceTo P σ n o
  HasType σ (Uninit p) (slot.Ref o) = IsNew k σ p o
  HasType σ UninitThis (slot.Ref o) = IsThis P σ k.name.class o
  HasType σ Top v = Unit {0}
  HasType σ t v = ⊥

  abbrev pub HaveTypes : State → List VType → List Slot → Type 0
  HaveTypes σ [] [] = Unit {0}
  HaveTypes σ (t ∷ ts) (v ∷ vs) = HasType σ t v × HaveTypes σ ts vs
  HaveTypes σ ts vs = ⊥

  module _ (σ τ : State) (keeps : KeepsTypes σ τ) where
    pub type_kept : (t : VType) (v : Slot) → HasType σ t v → HasType τ t v
    type_kept Int (slot.Int x) h = h
    type_kept Null (slot.Ref o) h = h
    type_kept Long (slot.Long x) h = h
    type_kept Second slot.Second h = h
    type_kept (Ref n) (slot.Ref o) h = reference_kept P σ τ keeps n o h
    type_kept (Uninit p) (slot.Ref o) h = record { type = h.type; made = h.made; there = keeps o h.type h.there; past = h.past }
    type_kept UninitThis (slot.Ref o) h = record { object = object_kept P σ τ keeps k.name.class o h.object; past = h.past }
    type_kept Top v h = tt
    type_kept t v h = absurd h

    pub types_kept : (ts : List VType) (vs : List Slot) → HaveTypes σ ts vs → HaveTypes τ ts vs
    types_kept [] [] h = tt
    types_kept (t ∷ ts) (v ∷ vs) h = (type_kept t v h.0, types_kept ts vs h.1)
    types_kept [] (v ∷ vs) h = absurd h
    types_kept (t ∷ ts) [] h = absurd h

  module _ (σ : State) where
    pub joined : (ts us : List VType) (vs ws : List Slot) → HaveTypes σ ts vs → HaveTypes σ us ws → HaveTypes σ (ts ++ us) (vs ++ ws)
    joined [] us [] ws h g = g
    joined [] us (v ∷ vs) ws h g = absurd h
    joined (t ∷ ts) us [] ws h g = absurd h
    joined (t ∷ ts) us (v ∷ vs) ws h g = (h.0, joined ts us vs ws h.1 g)

    pub nothing : (n : ℕ) → HaveTypes σ (replicate n Top) (replicate n slot.Empty)
    nothing zero = tt
    nothing (suc n) = (tt, nothing n)

    pub set_types : (ts : List VType) (vs : List Slot) (i : ℕ) (t : VType) (v : Slot) → HaveTypes σ ts vs → HasType σ t v → HaveTypes σ (slice_set ts i t) (slice_set vs i v)
    set_types [] [] i t v h g = tt
    set_types [] (w ∷ vs) i t v h g = absurd h
    set_types (u ∷ ts) [] i t v h g = absurd h
    set_types (u ∷ ts) (w ∷ vs) zero t v h g = (g, h.1)
    set_types (u ∷ ts) (w ∷ vs) (suc i) t v h g = (h.0, set_types ts vs i t v h.1 g)

    -- where nothing is known of a place
    top_types : (ts : List VType) (vs : List Slot) (i : ℕ) → HaveTypes σ ts vs → HaveTypes σ (slice_set ts i Top) vs
    top_types [] [] i h = tt
    top_types [] (w ∷ vs) i h = absurd h
    top_types (u ∷ ts) [] i h = absurd h
    top_types (u ∷ ts) (w ∷ vs) zero h = (tt, h.1)
    top_types (u ∷ ts) (w ∷ vs) (suc i) h = (h.0, top_types ts vs i h.1)

    pub freed_types : (o : Option VType) (i : ℕ) (ts : List VType) (vs : List Slot) → HaveTypes σ ts vs → HaveTypes σ (freed_by o i ts) vs
    freed_types (Some Second) i ts vs h = top_types ts vs (i - 1) h
    freed_types (Some Long) i ts vs h = top_types ts vs (i + 1) h
    freed_types o i ts vs h = h

    pub same_length : (ts : List VType) (vs : List Slot) → HaveTypes σ ts vs → length vs ≡ length ts
    same_length [] [] h = refl
    same_length [] (v ∷ vs) h = absurd h
    same_length (t ∷ ts) [] h = absurd h
    same_length (t ∷ ts) (v ∷ vs) h = ap suc (same_length ts vs h.1)

    abbrev pub HasTypeAt : Option VType → Option Slot → Type 0
    HasTypeAt None None = Unit {0}
    HasTypeAt (Some t) (Some v) = HasType σ t v
    HasTypeAt t v = ⊥

    pub get_types : (ts : List VType) (vs : List Slot) (i : ℕ) → HaveTypes σ ts vs → HasTypeAt (slice_get ts i) (slice_get vs i)
    get_types [] [] i h = tt
    get_types [] (v ∷ vs) i h = absurd h
    get_types (t ∷ ts) [] i h = absurd h
    get_types (t ∷ ts) (v ∷ vs) zero h = h.0
    get_types (t ∷ ts) (v ∷ vs) (suc i) h = get_types ts vs i h.1

    pub same_types : (ts : List VType) (vs : List Slot) (i : ℕ) (t : VType) (v : Slot) → slice_get ts i ≡ Some t → HaveTypes σ ts vs → HasType σ t v → HaveTypes σ ts (slice_set vs i v)
    same_types [] [] i t v e h g = tt
    same_types [] (w ∷ vs) i t v e h g = absurd h
    same_types (u ∷ ts) [] i t v e h g = absurd h
    same_types (u ∷ ts) (w ∷ vs) zero t v e h g = let s : t ≡ u = cc in (subst (λ (x : VType). HasType σ x v) s g, h.1)
    same_types (u ∷ ts) (w ∷ vs) (suc i) t v e h g = (h.0, same_types ts vs i t v e h.1 g)

    -- a type that becomes another, of which each slot of it is
    module _ (u t : VType) (turns : (v : Slot) → HasType σ u v → HasType σ t v) where
      same_kind : (a b : VType) → is_uninit a b ≡ true → a ≡ b
      same_kind (Uninit p) (Uninit q) e = let s : p ≡ q = grind (arith, nat_tests) in ap Uninit s
      same_kind UninitThis UninitThis e = refl
      same_kind a b e = cc

      become_type : (x : VType) (v : Slot) → HasType σ x v → HasType σ (become u t x) v
      become_type x v h = by (is_uninit u x) refl
        where
          by : (b : Bool) → is_uninit u x ≡ b → HasType σ (if b then t else x) v
          by true e = turns v (subst (λ (x : VType). HasType σ x v) (sym (same_kind u x e)) h)
          by false e = h

      pub become_types : (ts : List VType) (vs : List Slot) → HaveTypes σ ts vs → HaveTypes σ (map (become u t) ts) vs
      become_types [] [] h = tt
      become_types [] (v ∷ vs) h = absurd h
      become_types (x ∷ ts) [] h = absurd h
      become_types (x ∷ ts) (v ∷ vs) h = (become_type x v h.0, become_types ts vs h.1)

    -- a value that a word holds
    pub held_types : (c : List ℕ) (t : WordType) (v : Value) → IsValueOf P σ c t v → HaveTypes σ (stack_types (record { word = t; class = c })) (pushed v [])
    held_types c word.Reference (value.Ref o) h = (h, tt)
    held_types c word.Reference v h = absurd h
    held_types c word.Long (value.Long x) h = (tt, (h, tt))
    held_types c word.Long v h = absurd h
    held_types c word.Boolean (value.Int x) h = (number_fits word.Boolean x tt h, tt)
    held_types c word.Byte (value.Int x) h = (number_fits word.Byte x tt h, tt)
    held_types c word.Char (value.Int x) h = (number_fits word.Char x tt h, tt)
    held_types c word.Short (value.Int x) h = (number_fits word.Short x tt h, tt)
    held_types c word.Int (value.Int x) h = (number_fits word.Int x tt h, tt)
    held_types c t v h = absurd h

-- what a method's result is
abbrev pub IsGiven : Program → State → Option VType → Option Value → Type 0
IsGiven P σ None None = Unit {0}
IsGiven P σ (Some Int) (Some (value.Int x)) = FitsSigned w32 x
IsGiven P σ (Some Long) (Some (value.Long x)) = FitsSigned w64 x
IsGiven P σ (Some (Ref n)) (Some (value.Ref o)) = IsReferenceTo P σ n o
IsGiven P σ t v = ⊥

abbrev pub given_slots : Option Value → List Slot
given_slots None = []
given_slots (Some v) = pushed v []

pub given_types : (P : Program) (k : Method) (σ : State) (t : Option VType) (v : Option Value) → IsGiven P σ t v → HaveTypes P k σ (result_types t) (given_slots v)
given_types P k σ None None h = tt
given_types P k σ (Some Int) (Some (value.Int x)) h = (h, tt)
given_types P k σ (Some Long) (Some (value.Long x)) h = (tt, (h, tt))
given_types P k σ (Some (Ref n)) (Some (value.Ref o)) h = (h, tt)
given_types P k σ t v h = absurd h

pub pushed_on : (v : Value) (s : List Slot) → pushed v s ≡ pushed v [] ++ s
pushed_on (value.Int x) s = refl
pushed_on (value.Long x) s = refl
pushed_on (value.Ref o) s = refl

-- a plain type says the same in another method
module _ (P : Program) (k d : Method) (σ : State) where
  plain_moved : (t : VType) (v : Slot) → IsPlain t → HasType P k σ t v → HasType P d σ t v
  plain_moved Int (slot.Int x) p h = h
  plain_moved Null (slot.Ref o) p h = h
  plain_moved Long (slot.Long x) p h = h
  plain_moved Second slot.Second p h = h
  plain_moved (Ref n) (slot.Ref o) p h = h
  plain_moved Top v p h = tt
  plain_moved (Uninit p) v q h = absurd q
  plain_moved UninitThis v q h = absurd q
  plain_moved t v p h = absurd h

  pub parameters_moved : (b : Bool) (ts : List VType) (vs : List Slot) → AreParametersAfter b ts → HaveTypes P k σ ts vs → HaveTypes P d σ ts vs
  parameters_moved false [] [] p h = tt
  parameters_moved false (Int ∷ ts) (v ∷ vs) p h = (plain_moved Int v tt h.0, parameters_moved false ts vs p h.1)
  parameters_moved false (Ref n ∷ ts) (v ∷ vs) p h = (plain_moved (Ref n) v tt h.0, parameters_moved false ts vs p h.1)
  parameters_moved false (Long ∷ ts) (v ∷ vs) p h = (plain_moved Long v tt h.0, parameters_moved true ts vs p h.1)
  parameters_moved true (Second ∷ ts) (v ∷ vs) p h = (plain_moved Second v tt h.0, parameters_moved false ts vs p h.1)
  parameters_moved false [] (v ∷ vs) p h = absurd h
  parameters_moved b (t ∷ ts) [] p h = absurd h
  parameters_moved b ts vs p h = absurd p

module _ (P : Program) (C : AreTypes P) (k : Method) (σ : State) where
  widen_ref : (m n : List ℕ) (o : ℕ) → IsWithin P (Ref m) (Ref n) → IsReferenceTo P σ m o → IsReferenceTo P σ n o
  widen_ref m n zero w h = tt
  widen_ref m n (suc o) w h = record { object = h.object; row = h.row; there = h.there; is = h.is; below = order P C h.row.read m n h.below w }

  pub null_ref : (n : List ℕ) (o : ℕ) → o ≡ 0 → IsReferenceTo P σ n o
  null_ref n zero e = tt
  null_ref n (suc o) e = absurd (omega (arith, e))

  pub widen : (t u : VType) (v : Slot) → IsWithin P t u → HasType P k σ t v → HasType P k σ u v
  widen t Top v w h = tt
  widen Int Int v w h = h
  widen Null Null v w h = h
  widen Long Long v w h = h
  widen Second Second v w h = h
  widen Null (Ref n) (slot.Ref o) w h = null_ref n o h
  widen Null (Ref n) v w h = absurd h
  widen (Ref m) (Ref n) (slot.Ref o) w h = widen_ref m n o w h
  widen (Ref m) (Ref n) v w h = absurd h
  widen (Uninit p) (Uninit q) v w h = let s : p ≡ q = grind (arith, nat_tests) in subst (λ (p : ℕ). HasType P k σ (Uninit p) v) s h
  widen UninitThis UninitThis v w h = h
  widen Int u v w h = absurd (never false w refl)
  widen Top u v w h = absurd (never false w refl)
  widen Long u v w h = absurd (never false w refl)
  widen Second u v w h = absurd (never false w refl)
  widen Null u v w h = absurd (never false w refl)
  widen (Ref m) u v w h = absurd (never false w refl)
  widen (Uninit p) u v w h = absurd (never false w refl)
  widen UninitThis u v w h = absurd (never false w refl)

  pub widen_all : (ts us : List VType) (vs : List Slot) → AreWithin P ts us → HaveTypes P k σ ts vs → HaveTypes P k σ us vs
  widen_all [] [] vs w h = h
  widen_all (t ∷ ts) (u ∷ us) [] w h = absurd h
  widen_all (t ∷ ts) (u ∷ us) (v ∷ vs) w h = (widen t u v w.0 h.0, widen_all ts us vs w.1 h.1)
  widen_all [] (u ∷ us) vs w h = absurd w
  widen_all (t ∷ ts) [] vs w h = absurd w

  pub argument_slots : (ts : List VType) (args : List Value) → AreArguments ts args → HaveTypes P k σ ts (flat_map slots_of args)
  argument_slots [] [] h = tt
  argument_slots (Int ∷ ts) (value.Int x ∷ vs) h = (h.0, argument_slots ts vs h.1)
  argument_slots (Long ∷ Second ∷ ts) (value.Long x ∷ vs) h = (h.0, (tt, argument_slots ts vs h.1))
  argument_slots (Ref n ∷ ts) (value.Ref o ∷ vs) h = (null_ref n o h.0, argument_slots ts vs h.1)
  argument_slots ts vs h = absurd h
