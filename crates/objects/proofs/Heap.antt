-- Heaps whose objects have values of their types: what a write and a new object keep.
use Rattle.std.proofs.Common.{◌≡◌, ◌≢◌, ℕ, zero, suc, ◌+◌, ◌*◌, ◌/◌, ◌%◌, ◌^◌, ◌<◌, ◌≤◌, List, [], ◌∷◌, map, length, Option, Some, None, Bool, true, false, nat_le, refl, sym, ap, subst, ◌∙◌, arith, ◌⊎◌, inl, inr, ⊎_elim}
use Rattle.std.specs.Prelude.{slice_get, slice_set, nat_eq, nat_lt, option_and_then, option_map, replicate}
use Rattle.std.specs.List.{AllByRecursion}
use Rattle.std.proofs.lemmas.Bool.{cases_lt}
use Rattle.std.proofs.lemmas.Bool.Decides.{nat_tests}
use Rattle.std.proofs.lemmas.List.{length-set, length-replicate}
use Rattle.std.proofs.lemmas.Option.{slice_get_within}
use Rattle.std.proofs.Math.Nat.{mul-le-mul_right}
use Rattle.std.proofs.lemmas.Nat.{div-mul-add, mod-mul-add, div-add-mod'}
use Rattle.jmodel.specs.declared.value.Value.{Value}
use Rattle.jmodel.specs.declared.value.Value.TheVariants as value
use Rattle.objects.specs.declared.op.Place.{Place}
use Rattle.objects.specs.declared.op.WordType.{WordType}
use Rattle.objects.specs.declared.op.WordType.TheVariants as word
use Rattle.objects.specs.semantics.Program.{Declared, Holds, Words, Elements, Row, Field, Program, row_at}
use Rattle.objects.specs.typing.TypeOrder.{string_class}
use Rattle.objects.specs.semantics.Region.{Region, next_reference, has_words}
use Rattle.objects.specs.semantics.State.{Object, State, value_at, value_held, type_at, put, words_of, with_object, first_word, object_of}
use Rattle.objects.specs.history.Meaning.{IsInRegion, IsObjectOf, IsReferenceTo, IsValueOf, IsHeld, AreHeld, IsHolding, IsTyped, HasBase, IsFieldHeld, IsHeap}
pub use Rattle.objects.proofs.Room.{HasWords, words_there}

pub one_or : (r q : ℕ) → (r ≡ q) ⊎ (r ≢ q)
one_or r q = go (nat_eq r q) refl
  where
    go : (b : Bool) → nat_eq r q ≡ b → (r ≡ q) ⊎ (r ≢ q)
    go true e = let s : r ≡ q = grind (arith, nat_tests) in inl s
    go false e = let s : r ≢ q = grind (arith, nat_tests) in inr s

-- the object of a type
pub object_at : (σ : State) (r t : ℕ) → type_at σ r ≡ Some t → (o : Object) × (σ.objects r ≡ Some o) × (o.type ≡ t)
object_at σ r t e = go (σ.objects r) refl e
  where
    go : (x : Option Object) → σ.objects r ≡ x → option_map (λ (o : Object). o.type) x ≡ Some t → (o : Object) × (σ.objects r ≡ Some o) × (o.type ≡ t)
    go None is e = cc
    go (Some o) is e = let s : o.type ≡ t = cc in (o, is, s)

pub type_of : (σ : State) (r : ℕ) (o : Object) → σ.objects r ≡ Some o → type_at σ r ≡ Some o.type
type_of σ r o e = ap (option_map (λ (o : Object). o.type)) e

-- each object of one state is in another, of the same type
abbrev pub KeepsTypes : State → State → Type 0
KeepsTypes σ τ = (r t : ℕ) → type_at σ r ≡ Some t → type_at τ r ≡ Some t

module _ (P : Program) (σ τ : State) (keeps : KeepsTypes σ τ) where
  pub object_kept : (n : List ℕ) (r : ℕ) → IsObjectOf P σ n r → IsObjectOf P τ n r
  object_kept n r h =
      let x = object_at τ r h.object.type (keeps r h.object.type (type_of σ r h.object h.there)) in
      record { object = x.0; row = h.row; there = x.1; is = ap (row_at P) x.2 ∙ h.is; below = h.below }

  pub reference_kept : (n : List ℕ) (r : ℕ) → IsReferenceTo P σ n r → IsReferenceTo P τ n r
  reference_kept n zero h = tt
  reference_kept n (suc o) h = object_kept n (suc o) h

  pub value_kept : (c : List ℕ) (t : WordType) (v : Value) → IsValueOf P σ c t v → IsValueOf P τ c t v
  value_kept c word.Reference (value.Ref o) h = reference_kept c o h
  value_kept c word.Reference v h = absurd h
  value_kept c word.Long (value.Long x) h = h
  value_kept c word.Long v h = absurd h
  value_kept c word.Boolean (value.Int x) h = h
  value_kept c word.Byte (value.Int x) h = h
  value_kept c word.Char (value.Int x) h = h
  value_kept c word.Short (value.Int x) h = h
  value_kept c word.Int (value.Int x) h = h
  value_kept c t v h = absurd h

  pub values_kept : (ds : List Declared) (vs : List Value) → AreHeld P σ ds vs → AreHeld P τ ds vs
  values_kept [] [] h = tt
  values_kept (d ∷ ds) (v ∷ vs) h = (value_kept d.class d.word v h.0, values_kept ds vs h.1)
  values_kept [] (v ∷ vs) h = absurd h
  values_kept (d ∷ ds) [] h = absurd h

  elements_kept : (d : Declared) (vs : List Value) → AllByRecursion (IsHeld P σ d) vs → AllByRecursion (IsHeld P τ d) vs
  elements_kept d [] h = tt
  elements_kept d (v ∷ vs) h = (value_kept d.class d.word v h.0, elements_kept d vs h.1)

  holding_kept : (x : Holds) (array : Bool) (vs : List Value) → IsHolding P σ x array vs → IsHolding P τ x array vs
  holding_kept (Words ds) false vs h = values_kept ds vs h
  holding_kept (Elements d name) true vs h = (h.0, elements_kept d vs h.1)
  holding_kept (Words ds) true vs h = absurd h
  holding_kept (Elements d name) false vs h = absurd h

  pub typed_kept : (o : Object) → IsTyped P σ o → IsTyped P τ o
  typed_kept o h = record { row = h.row; is = h.is; holds = holding_kept h.row.holds o.array o.values h.holds }

  base_kept : (x : Option ℕ) (f : Field) → HasBase P σ x f → HasBase P τ x f
  base_kept None f h = tt
  base_kept (Some r) f h =
      let x = object_at τ r h.base.type (keeps r h.base.type (type_of σ r h.base h.there)) in
      record { base = x.0; row = h.row; words = h.words; there = x.1; is = ap (row_at P) x.2 ∙ h.is; holds = h.holds; place = h.place }

  pub fields_kept : (fs : List Field) → AllByRecursion (IsFieldHeld P σ) fs → AllByRecursion (IsFieldHeld P τ) fs
  fields_kept [] h = tt
  fields_kept (f ∷ fs) h = (base_kept f.base f h.0, fields_kept fs h.1)

  pub texts_kept : (rs : List ℕ) → AllByRecursion (IsObjectOf P σ string_class) rs → AllByRecursion (IsObjectOf P τ string_class) rs
  texts_kept [] h = tt
  texts_kept (r ∷ rs) h = (object_kept string_class r h.0, texts_kept rs h.1)

-- the value at a place of an object
pub value_there : (P : Program) (σ : State) (ds : List Declared) (vs : List Value) (i : ℕ) (d : Declared) → AreHeld P σ ds vs → slice_get ds i ≡ Some d → (v : Value) × (slice_get vs i ≡ Some v) × IsHeld P σ d v
value_there P σ [] [] i d h e = cc
value_there P σ [] (v ∷ vs) i d h e = absurd h
value_there P σ (u ∷ ds) [] i d h e = absurd h
value_there P σ (u ∷ ds) (v ∷ vs) zero d h e = let s : u ≡ d = cc in (v, refl, subst (λ (d : Declared). IsHeld P σ d v) s h.0)
value_there P σ (u ∷ ds) (v ∷ vs) (suc i) d h e = value_there P σ ds vs i d h.1 e

pub values_set : (P : Program) (σ : State) (ds : List Declared) (vs : List Value) (i : ℕ) (d : Declared) (v : Value) → AreHeld P σ ds vs → slice_get ds i ≡ Some d → IsHeld P σ d v → AreHeld P σ ds (slice_set vs i v)
values_set P σ [] [] i d v h e f = tt
values_set P σ [] (w ∷ vs) i d v h e f = absurd h
values_set P σ (u ∷ ds) [] i d v h e f = absurd h
values_set P σ (u ∷ ds) (w ∷ vs) zero d v h e f = let s : d ≡ u = cc in (subst (λ (d : Declared). IsHeld P σ d v) s f, h.1)
values_set P σ (u ∷ ds) (w ∷ vs) (suc i) d v h e f = (h.0, values_set P σ ds vs i d v h.1 e f)

first_fits : (P : Program) (σ : State) (c : List ℕ) (t : WordType) → IsHeld P σ (record { word = t; class = c }) (first_word (record { word = t; class = c }))
first_fits P σ c word.Reference = tt
first_fits P σ c word.Long = omega arith
first_fits P σ c word.Boolean = omega arith
first_fits P σ c word.Byte = omega arith
first_fits P σ c word.Char = omega arith
first_fits P σ c word.Short = omega arith
first_fits P σ c word.Int = omega arith

firsts_fit : (P : Program) (σ : State) (ds : List Declared) → AreHeld P σ ds (map first_word ds)
firsts_fit P σ [] = tt
firsts_fit P σ (d ∷ ds) = (first_fits P σ d.class d.word, firsts_fit P σ ds)

copies_fit : (P : Program) (σ : State) (d : Declared) (n : ℕ) → AllByRecursion (IsHeld P σ d) (replicate n (first_word d))
copies_fit P σ d zero = tt
copies_fit P σ d (suc n) = (first_fits P σ d.class d.word, copies_fit P σ d n)

-- ---- a write

-- a value that is held lies in an object
pub record IsHeldAt (τ : State) (p : Place) (v : Value) : Type 0 where
  pub o : Object
  pub i : ℕ
  pub object : τ.objects p.object ≡ Some o
  pub index : p.index ≡ suc i
  pub there : slice_get o.values i ≡ Some v

pub held_at : (τ : State) (p : Place) (v : Value) → value_held τ p ≡ Some v → IsHeldAt τ p v
held_at τ p v h = go (τ.objects p.object) refl p.index refl h
  where
    go : (x : Option Object) → τ.objects p.object ≡ x → (n : ℕ) → p.index ≡ n → option_and_then (value_at n) x ≡ Some v → IsHeldAt τ p v
    go None e n d h = cc
    go (Some o) e zero d h = cc
    go (Some o) e (suc i) d h = record { o = o; i = i; object = e; index = d; there = h }

module _ (τ : State) (p : Place) (x : Value) (old : Value) (h : IsHeldAt τ p old) where
  abbrev pub put_after : State
  put_after = put τ p x

  abbrev pub written_object : Object
  written_object = record h.o { values = slice_set h.o.values h.i x }

  pub inside : h.i < length h.o.values
  inside = slice_get_within h.o.values h.i old h.there

  pub object_here : put_after.objects p.object ≡ Some written_object
  object_here = let e : nat_eq p.object p.object ≡ true = grind (arith, nat_tests) in rw (e, h.object, h.index) refl

  pub object_there : (r : ℕ) → r ≢ p.object → put_after.objects r ≡ τ.objects r
  object_there r n = let e : nat_eq r p.object ≡ false = grind (arith, nat_tests) in rw e refl

  abbrev pub IsWhole : ℕ → Object → Type 0
  IsWhole r o = ((r ≡ p.object) × (o ≡ written_object)) ⊎ ((r ≢ p.object) × (τ.objects r ≡ Some o))

  pub whole : (r : ℕ) (o : Object) → put_after.objects r ≡ Some o → IsWhole r o
  whole r o e = ⊎_elim (λ (s : r ≡ p.object). let t : Some o ≡ Some written_object = sym e ∙ ap put_after.objects s ∙ object_here in inl (s, cc)) (λ (n : r ≢ p.object). inr (n, sym (object_there r n) ∙ e)) (one_or r p.object)

  -- an object of the state, of the same length
  pub before : (r : ℕ) (o : Object) → put_after.objects r ≡ Some o → (b : Object) × (τ.objects r ≡ Some b) × (length b.values ≡ length o.values)
  before r o e = ⊎_elim (λ (w : (r ≡ p.object) × (o ≡ written_object)). (h.o, ap τ.objects w.0 ∙ h.object, sym (length-set h.o.values h.i x) ∙ ap (λ (o : Object). length o.values) (sym w.1))) (λ (w : (r ≢ p.object) × (τ.objects r ≡ Some o)). (o, w.1, refl)) (whole r o e)

  pub put_keeps : KeepsTypes τ put_after
  put_keeps r t e = ⊎_elim
      (λ (s : r ≡ p.object).
      let was : type_at τ r ≡ Some h.o.type = ap (option_map (λ (o : Object). o.type)) (ap τ.objects s ∙ h.object) in
      let now : type_at put_after r ≡ Some h.o.type = ap (option_map (λ (o : Object). o.type)) (ap put_after.objects s ∙ object_here) in
      now ∙ sym was ∙ e)
      (λ (n : r ≢ p.object). ap (option_map (λ (o : Object). o.type)) (object_there r n) ∙ e)
      (one_or r p.object)

  module _ (P : Program) (size : ℕ) (H : IsHeap P size τ) (typed : IsTyped P τ written_object) where
    regions_after : (r : ℕ) (o : Object) → put_after.objects r ≡ Some o → IsInRegion size put_after.used r o
    regions_after r o e =
        let b = before r o e in
        let i = H.regions r b.0 b.1 in
        record { there = i.there; inside = rw (← b.2) i.inside; below = rw (← b.2) i.below; address = rw (← b.2) i.address }

    typed_after : (r : ℕ) (o : Object) → put_after.objects r ≡ Some o → IsTyped P put_after o
    typed_after r o e = typed_kept P τ put_after put_keeps o (⊎_elim
        (λ (w : (r ≡ p.object) × (o ≡ written_object)). subst (IsTyped P τ) (sym w.1) typed)
        (λ (w : (r ≢ p.object) × (τ.objects r ≡ Some o)). H.typed r o w.1)
        (whole r o e))

    pub heap_after_put : IsHeap P size put_after
    heap_after_put = record { regions = regions_after; typed = typed_after; fields = fields_kept P τ put_after put_keeps P.fields H.fields; texts = texts_kept P τ put_after put_keeps P.texts H.texts }

-- ---- a new object

pub has_words_there : (G : Region) (used n : ℕ) → HasWords G used n → has_words G used n ≡ true
has_words_there G used n h =
    let a = h.past in
    let b = h.fits in
    let c = h.address in
    let past : nat_lt 1 (next_reference G used) ≡ true = grind (arith, nat_tests) in
    let fits : nat_le (used + n) G.size ≡ true = grind (arith, nat_tests) in
    let address : nat_le (next_reference G used + n) (2 ^ 64) ≡ true = grind (arith, nat_tests) in
    rw (past, fits, address) refl

-- the used words with a new object
pub used_with : (G : Region) (o : Object) (τ : State) → (with_object G o τ).used G.number ≡ τ.used G.number + words_of o
used_with G o τ = let e : nat_eq G.number G.number ≡ true = grind (arith, nat_tests) in rw e refl

pub used_without : (G : Region) (o : Object) (τ : State) (region : ℕ) → region ≢ G.number → (with_object G o τ).used region ≡ τ.used region
used_without G o τ region ne = let e : nat_eq region G.number ≡ false = grind (arith, nat_tests) in rw e refl

module _ (P : Program) (G : Region) (τ : State) (o : Object) (room : HasWords G (τ.used G.number) (words_of o)) (H : IsHeap P G.size τ) where
  abbrev n : ℕ
  n = G.number

  abbrev u : ℕ
  u = τ.used n

  abbrev pub new_at : ℕ
  new_at = next_reference G u

  abbrev pub after : State
  after = with_object G o τ

  pub fits_region : u + length o.values + 1 ≤ G.size
  fits_region = let f = room.fits in omega (arith, f)

  pub in_region : new_at / G.size ≡ n
  in_region = div-mul-add n G.size u (omega (arith, fits_region))

  pub in_place : new_at % G.size ≡ u
  in_place = mod-mul-add n G.size u (omega (arith, fits_region))

  pub new_here : after.objects new_at ≡ Some o
  new_here = let e : nat_eq new_at new_at ≡ true = grind (arith, nat_tests) in rw e refl

  pub new_there : (r : ℕ) → r ≢ new_at → after.objects r ≡ τ.objects r
  new_there r ne = let e : nat_eq r new_at ≡ false = grind (arith, nat_tests) in rw e refl

  pub used_here : after.used n ≡ u + words_of o
  used_here = used_with G o τ

  pub used_more : (k : ℕ) → τ.used k ≤ after.used k
  used_more k = ⊎_elim (λ (e : k ≡ n). let h : after.used k ≡ u + words_of o = ap after.used e ∙ used_here in let i : τ.used k ≡ u = ap τ.used e in omega (arith, h, i)) (λ (ne : k ≢ n). let h = used_without G o τ k ne in omega (arith, h)) (one_or k n)

  abbrev pub IsWholeNew : ℕ → Object → Type 0
  IsWholeNew r p = ((r ≡ new_at) × (p ≡ o)) ⊎ ((r ≢ new_at) × (τ.objects r ≡ Some p))

  pub whole_new : (r : ℕ) (p : Object) → after.objects r ≡ Some p → IsWholeNew r p
  whole_new r p e = ⊎_elim (λ (s : r ≡ new_at). let t : Some p ≡ Some o = sym e ∙ ap after.objects s ∙ new_here in inl (s, cc)) (λ (ne : r ≢ new_at). inr (ne, sym (new_there r ne) ∙ e)) (one_or r new_at)

  -- an object of the state ends before the new one, or lies in a later region
  pub record LiesApart (r len : ℕ) : Type 0 where
    pub where_it_is : (r + len < new_at) ⊎ (new_at + length o.values < r)

  pub apart_from : (r : ℕ) (p : Object) → τ.objects r ≡ Some p → LiesApart r (length p.values)
  apart_from r p e =
      let size = G.size in
      let i = H.regions r p e in
      let d : r ≡ r / size * size + r % size = sym (div-add-mod' r size) in
      let inside = i.inside in
      let fits = fits_region in
      record {
        where_it_is = ⊎_elim
            (λ (low : r / size < n).
            let m : (r / size + 1) * size ≤ n * size = mul-le-mul_right size (omega (arith, low)) in
            let lt : r + length p.values < new_at = omega (arith, d, m, inside) in
            inl lt)
            (λ (high : n ≤ r / size). ⊎_elim
            (λ (up : n < r / size).
            let m : (n + 1) * size ≤ r / size * size = mul-le-mul_right size (omega (arith, up)) in
            let lt : new_at + length o.values < r = omega (arith, d, m, fits) in
            inr lt)
            (λ (down : r / size ≤ n).
            let one : r / size ≡ n = omega (arith, high, down) in
            let below = i.below in
            let b : τ.used (r / size) ≡ u = ap τ.used one in
            let c : r / size * size ≡ n * size = ap (λ (k : ℕ). k * size) one in
            let lt : r + length p.values < new_at = omega (arith, d, b, c, below) in
            inl lt)
            (cases_lt n (r / size)))
            (cases_lt (r / size) n);
      }

  pub none_here : (p : Object) → τ.objects new_at ≡ Some p → ⊥
  none_here p e = ⊎_elim (λ (h : new_at + length p.values < new_at). omega (arith, h)) (λ (h : new_at + length o.values < new_at). omega (arith, h)) (apart_from new_at p e).where_it_is

  pub new_keeps : KeepsTypes τ after
  new_keeps r t e = ⊎_elim (λ (s : r ≡ new_at). absurd (no (τ.objects new_at) refl (ap (type_at τ) (sym s) ∙ e))) (λ (ne : r ≢ new_at). ap (option_map (λ (o : Object). o.type)) (new_there r ne) ∙ e) (one_or r new_at)
    where
      no : (x : Option Object) → τ.objects new_at ≡ x → option_map (λ (o : Object). o.type) x ≡ Some t → ⊥
      no None is h = cc
      no (Some p) is h = none_here p is

  regions_new : (r : ℕ) (p : Object) → after.objects r ≡ Some p → IsInRegion G.size after.used r p
  regions_new r p e = ⊎_elim here elsewhere (whole_new r p e)
    where
      here : (r ≡ new_at) × (p ≡ o) → IsInRegion G.size after.used r p
      here w =
          let past = room.past in
          let address = room.address in
          let fits = fits_region in
          let more : after.used (new_at / G.size) ≡ u + words_of o = ap after.used in_region ∙ used_here in
          let t : IsInRegion G.size after.used new_at o = record { there = omega (arith, past); inside = omega (arith, in_place, fits); below = omega (arith, in_place, more); address = omega (arith, address) } in
          rw (w.0, w.1) t

      elsewhere : (r ≢ new_at) × (τ.objects r ≡ Some p) → IsInRegion G.size after.used r p
      elsewhere w = let i = H.regions r p w.1 in let b = i.below in let m = used_more (r / G.size) in record { there = i.there; inside = i.inside; below = omega (arith, b, m); address = i.address }

  module _ (typed : IsTyped P τ o) where
    typed_new : (r : ℕ) (p : Object) → after.objects r ≡ Some p → IsTyped P after p
    typed_new r p e = typed_kept P τ after new_keeps p (⊎_elim
        (λ (w : (r ≡ new_at) × (p ≡ o)). subst (IsTyped P τ) (sym w.1) typed)
        (λ (w : (r ≢ new_at) × (τ.objects r ≡ Some p)). H.typed r p w.1)
        (whole_new r p e))

    pub heap_with_object : IsHeap P G.size after
    heap_with_object = record { regions = regions_new; typed = typed_new; fields = fields_kept P τ after new_keeps P.fields H.fields; texts = texts_kept P τ after new_keeps P.texts H.texts }

-- a new object is of its type
pub object_type : (t n : ℕ) (r : Row) → (object_of t n r).type ≡ t
object_type t n r = by r.holds
  where
    by : (x : Holds) → (object_of t n (record r { holds = x })).type ≡ t
    by (Words ds) = refl
    by (Elements d name) = refl

-- and holds what that says
pub object_fits : (P : Program) (τ : State) (t n : ℕ) (r : Row) → row_at P t ≡ Some r → n < 2147483648 → IsTyped P τ (object_of t n r)
object_fits P τ t n r is lt = record { row = r; is = ap (row_at P) (object_type t n r) ∙ is; holds = by r.holds }
  where
    by : (x : Holds) → IsHolding P τ x (object_of t n (record r { holds = x })).array (object_of t n (record r { holds = x })).values
    by (Words ds) = firsts_fit P τ ds
    by (Elements d name) = let e = length-replicate n (first_word d) in (omega (arith, e, lt), copies_fit P τ d n)
