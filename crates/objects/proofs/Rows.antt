-- What the added code does, over each engine: the accessors of fields, and those of elements.
use Rattle.std.proofs.Common.{◌≡◌, ℕ, ℤ, suc, ◌+◌, ◌^◌, ◌<◌, List, [], ◌∷◌, ◌++◌, length, Option, Some, None, Bool, true, false, refl, sym, subst, arith, ◌⊎◌, inl, inr}
use Rattle.std.specs.Prelude.{pos, slice_get, nat_lt, bytes_eq, if◌then◌else◌}
use Rattle.std.specs.Int.{w64, cast_signed, cast_unsigned}
use Rattle.std.proofs.lemmas.Bool.Decides.{nat_tests}
use Rattle.std.proofs.lemmas.Int.{of_z-to_z}
use Rattle.jmodel.specs.declared.value.Value.{Value}
use Rattle.jmodel.specs.declared.value.Value.TheVariants as value
use Rattle.objects.specs.declared.op.Slot.{Slot}
use Rattle.objects.specs.declared.op.Slot.TheVariants.{Int, Long, Second, Ref, Context, Loaded}
use Rattle.objects.specs.declared.op.Sort.{Sort}
use Rattle.objects.specs.declared.op.Sort.TheVariants as sort
use Rattle.objects.specs.declared.op.WordType.{WordType}
use Rattle.objects.specs.declared.op.WordType.TheVariants as word
use Rattle.objects.specs.declared.op.Op.{Op}
use Rattle.objects.specs.declared.op.Op.TheVariants.{Constant, Load, GetStatic, GetField, InvokeStatic, LoadElement, CheckCast, Return, ReturnValue}
use Rattle.objects.specs.declared.op.Op.TheVariants as op
use Rattle.objects.specs.declared.op.ContextCall.TheVariants.{BeforeRead, OnRead}
use Rattle.objects.specs.declared.op.Phase.TheVariants.{Open}
use Rattle.objects.specs.declared.op.Element.TheVariants as element
use Rattle.objects.specs.declared.op.Use.TheVariants.{Casts, Indexes}
use Rattle.objects.specs.declared.op.Made.TheVariants.{Raised}
use Rattle.objects.specs.declared.op.Trap.TheVariants.{NullPointer}
use Rattle.objects.specs.declared.op.Asking.TheVariants as asking
use Rattle.objects.specs.linking.Library.{trap_type}
use Rattle.objects.specs.semantics.Value.{word_of, pushed, kept_by, slots_of}
use Rattle.objects.specs.semantics.Program.{Declared, Field, Method, Program}
use Rattle.objects.specs.typing.TypeOrder.{object_class, place_types}
use Rattle.objects.specs.semantics.Step.{Frame, Frames, Asks, step, unwinds, inner, sort_of}
use Rattle.objects.specs.rewriting.Attempt.{Log, Reply, Bounds, Meter, On, next_run, on_look, on_read, on_write, on_head}
use Rattle.objects.specs.rewriting.Rewriting.{context, word_places, distance, cast_of, plain_load, static_getter, static_setter, field_getter, field_setter, element_getter_method, element_setter_method}
use Rattle.objects.specs.typing.Source.{IsBase, IsBased}
use Rattle.objects.proofs.Frames.{frame}
use Rattle.objects.proofs.Places.{HasAt, has_rest}
use Rattle.objects.proofs.Wrapper.{value_sort}
use Rattle.objects.proofs.Replies.{Leads}

-- what the place of a field computes to
pub record IsKnown (f : Field) (o : ℕ) : Type 0 where
  pub index : cast_unsigned w64 (cast_signed w64 (suc f.index)) ≡ suc f.index
  pub below : nat_lt (suc o + suc f.index) (2 ^ 64) ≡ true

pub known_field : (f : Field) (o : ℕ) → IsBased f f.base → nat_lt (suc o + suc f.index) (2 ^ 64) ≡ true → IsKnown f o
known_field f o src near = record { index = of_z-to_z w64 (suc f.index) (by f.base src); below = near }
  where
    by : (b : Option ℕ) → IsBased f b → suc f.index < 2 ^ 64
    by None h = omega (arith, h)
    by (Some q) h = let a = h.address in omega (arith, a)

pub known_static : (f : Field) (o : ℕ) → IsBased f f.base → f.base ≡ Some (suc o) → IsKnown f o
known_static f o src base =
    let h : IsBase f (suc o) = subst (IsBased f) base src in
    let a = h.address in
    let lt : suc o + suc f.index < 2 ^ 64 = omega (arith, a) in
    let near : nat_lt (suc o + suc f.index) (2 ^ 64) ≡ true = grind (arith, nat_tests) in
    known_field f o src near

-- a field's distance, as a constant
abbrev pub far : Field → ℤ
far f = cast_signed w64 (suc f.index)

-- what the end of a getter returns, where it casts and where it doesn't
pub cast_cases : (d : Declared) (code : List Op) → (cast_of d code ≡ code) ⊎ ((d.word ≡ word.Reference) × (cast_of d code ≡ CheckCast d.class ∷ code))
cast_cases d code = by d.word
  where
    of_class : (b : Bool) → ((if b then code else CheckCast d.class ∷ code) ≡ code) ⊎ ((word.Reference ≡ word.Reference) × ((if b then code else CheckCast d.class ∷ code) ≡ CheckCast d.class ∷ code))
    of_class true = inl refl
    of_class false = inr (refl, refl)

    by : (w : WordType) → (cast_of (record { word = w; class = d.class }) code ≡ code) ⊎ ((w ≡ word.Reference) × (cast_of (record { word = w; class = d.class }) code ≡ CheckCast d.class ∷ code))
    by word.Reference = of_class (bytes_eq d.class object_class)
    by word.Boolean = inl refl
    by word.Byte = inl refl
    by word.Char = inl refl
    by word.Short = inl refl
    by word.Int = inl refl
    by word.Long = inl refl

-- how many places a word's value has
places_fact : (t : WordType) (v : Value) → value_sort v ≡ sort_of t → word_places t ≡ length (slots_of v)
places_fact word.Boolean (value.Int x) e = refl
places_fact word.Byte (value.Int x) e = refl
places_fact word.Char (value.Int x) e = refl
places_fact word.Short (value.Int x) e = refl
places_fact word.Int (value.Int x) e = refl
places_fact word.Long (value.Long x) e = refl
places_fact word.Reference (value.Ref o) e = refl
places_fact t v e = cc

takes_fact : (t : WordType) (c : List ℕ) (v : Value) → value_sort v ≡ sort_of t → length (place_types (record { word = t; class = c }) ++ context ∷ []) ≡ suc (length (slots_of v))
takes_fact word.Boolean c (value.Int x) e = refl
takes_fact word.Byte c (value.Int x) e = refl
takes_fact word.Char c (value.Int x) e = refl
takes_fact word.Short c (value.Int x) e = refl
takes_fact word.Int c (value.Int x) e = refl
takes_fact word.Long c (value.Long x) e = refl
takes_fact word.Reference c (value.Ref o) e = refl
takes_fact t c v e = cc

-- where the ends of getters stand
pub static_end : (n : ℕ) (f : Field) (o : ℕ) → HasAt (static_getter n f o).ops 9 (cast_of f.declared (ReturnValue (sort_of f.declared.word) ∷ []))
static_end n f o = has_rest (Load sort.Reference 0 ∷ Constant (value.Ref o) ∷ distance f.index ∷ op.Context BeforeRead ∷ Load sort.Reference 0 ∷ Constant (value.Ref o) ∷ GetStatic n ∷ distance f.index ∷ op.Context (OnRead f.declared.word) ∷ []) (cast_of f.declared (ReturnValue (sort_of f.declared.word) ∷ []))

pub field_end : (n : ℕ) (f : Field) → HasAt (field_getter n f).ops 10 (cast_of f.declared (ReturnValue (sort_of f.declared.word) ∷ []))
field_end n f = has_rest (Load sort.Reference 1 ∷ Load sort.Reference 0 ∷ distance f.index ∷ op.Context BeforeRead ∷ Load sort.Reference 1 ∷ Load sort.Reference 0 ∷ Load sort.Reference 0 ∷ GetField n f.class ∷ distance f.index ∷ op.Context (OnRead f.declared.word) ∷ []) (cast_of f.declared (ReturnValue (sort_of f.declared.word) ∷ []))

pub element_end : (t : WordType) → HasAt (element_getter_method t).ops 11 (ReturnValue (sort_of t) ∷ [])
element_end t = (refl, tt)

-- a plain load of an element, whatever its type
plain_of : (t : WordType) → (x : WordType) × (plain_load t ≡ LoadElement x)
plain_of word.Boolean = (word.Byte, refl)
plain_of word.Byte = (word.Byte, refl)
plain_of word.Char = (word.Char, refl)
plain_of word.Short = (word.Short, refl)
plain_of word.Int = (word.Int, refl)
plain_of word.Long = (word.Long, refl)
plain_of word.Reference = (word.Reference, refl)

-- a value is returned to the frame that called
module _ (Q : Program) (B : Bounds) (g pc : ℕ) (gm : Method) (is : slice_get Q.methods g ≡ Some gm) (z : List Slot) (dn a : ℕ) (l s : List Slot) (fs : Frames) (m : Meter) (w r : Log) where
  abbrev caller_then : Frame
  caller_then = frame dn (a + 1) l s

  pub returns : (t : Sort) → HasAt gm.ops pc (ReturnValue t ∷ []) → (v : Value) → value_sort v ≡ t → Leads Q B 1 (On Open (frame g pc z (pushed v []) ∷ caller_then ∷ fs) m w r) (On Open (frame dn (a + 1 + 1) l (pushed v s) ∷ fs) m w r)
  returns t at (value.Int x) sort = let e = sym sort in ((refl, refl), λ v. simp (is, at.0, e))
  returns t at (value.Long x) sort = let e = sym sort in ((refl, refl), λ v. simp (is, at.0, e))
  returns t at (value.Ref o) sort = let e = sym sort in ((refl, refl), λ v. simp (is, at.0, e))

  pub passes : (none : gm.catches ≡ []) (x t : ℕ) (st : List Slot) → unwinds Q x t (frame g pc z st ∷ caller_then ∷ fs) ≡ unwinds Q x t (caller_then ∷ fs)
  passes none x t st = simp (is, none)

  module _ (c : List ℕ) (t : Sort) (at : HasAt gm.ops pc (CheckCast c ∷ ReturnValue t ∷ [])) where
    pub cast_null : t ≡ sort.Reference → Leads Q B 2 (On Open (frame g pc z (Ref 0 ∷ []) ∷ caller_then ∷ fs) m w r) (On Open (frame dn (a + 1 + 1) l (Ref 0 ∷ s) ∷ fs) m w r)
    cast_null sort = ((refl, refl), λ v1. (simp (is, at.0) (refl, refl), λ v2. simp (is, at.0, at.1.0, sort)))

    pub cast_asks : (o : ℕ) (v : Reply) → next_run Q B v (On Open (frame g pc z (Ref (suc o) ∷ []) ∷ caller_then ∷ fs) m w r) ≡ on_head v Q (Casts c) (suc o) (frame g pc z (Ref (suc o) ∷ []) ∷ caller_then ∷ fs) m w r
    cast_asks o v = simp (is, at.0)

    pub cast_returns : t ≡ sort.Reference → (o : ℕ) → Leads Q B 1 (On Open (frame g (pc + 1) z (Ref (suc o) ∷ []) ∷ caller_then ∷ fs) m w r) (On Open (frame dn (a + 1 + 1) l (Ref (suc o) ∷ s) ∷ fs) m w r)
    cast_returns sort o = ((refl, refl), λ v. simp (is, at.1.0, sort))

module _ (Q : Program) (B : Bounds) (dn a : ℕ) (dm : Method) (is : slice_get Q.methods dn ≡ Some dm) (l : List Slot) (c : ℕ) (here : slice_get l c ≡ Some Context) (g : ℕ) (rest : List Op) (at : HasAt dm.ops a (Load sort.Reference c ∷ InvokeStatic g ∷ rest)) (n : ℕ) (f : Field) (fs : Frames) (m : Meter) (w r : Log) (s : List Slot) where
  abbrev pub caller : Frame
  caller = frame dn (a + 1) l s

  -- a static field
  module _ (o : ℕ) (known : IsKnown f o) where
    module _ (h : slice_get Q.methods g ≡ Some (static_getter n f (suc o))) (there : slice_get Q.fields n ≡ Some f) (base : f.base ≡ Some (suc o)) where
      pub static_first : Leads Q B 5 (On Open (frame dn a l s ∷ fs) m w r) (On Open (frame g 3 (Context ∷ []) (Second ∷ Long (far f) ∷ Ref (suc o) ∷ Context ∷ []) ∷ caller ∷ fs) m w r)
      static_first = ((refl, refl), λ v1. (simp (is, at.0, here) (refl, refl), λ v2. (simp (is, at.0, at.1.0, here, h) (refl, refl), λ v3. (simp (is, at.0, at.1.0, here, h) (refl, refl), λ v4. (simp (is, at.0, at.1.0, here, h) (refl, refl), λ v5. simp (is, at.0, at.1.0, here, h))))))

      pub static_look : (v : Reply) → next_run Q B v (On Open (frame g 3 (Context ∷ []) (Second ∷ Long (far f) ∷ Ref (suc o) ∷ Context ∷ []) ∷ caller ∷ fs) m w r) ≡ on_look v Q (frame g 3 (Context ∷ []) [] ∷ caller ∷ fs) m w r
      static_look v = simp (h, known.index, known.below)

      pub static_second : Leads Q B 4 (On Open (frame g 4 (Context ∷ []) [] ∷ caller ∷ fs) m w r) (On Open (frame g 8 (Context ∷ []) (Second ∷ Long (far f) ∷ Loaded ∷ Ref (suc o) ∷ Context ∷ []) ∷ caller ∷ fs) m w r)
      static_second = ((refl, refl), λ v1. (simp h (refl, refl), λ v2. (simp h (refl, refl), λ v3. (simp (h, there, base) (refl, refl), λ v4. simp (h, there, base)))))

      pub static_read : (v : Reply) → next_run Q B v (On Open (frame g 8 (Context ∷ []) (Second ∷ Long (far f) ∷ Loaded ∷ Ref (suc o) ∷ Context ∷ []) ∷ caller ∷ fs) m w r) ≡ on_read v Q (inner (suc o) f) f.declared.word (frame g 8 (Context ∷ []) [] ∷ caller ∷ fs) m w r
      static_read v = simp (h, known.index, known.below)

    module _ (h : slice_get Q.methods g ≡ Some (static_setter f (suc o))) where
      pub static_put : (v : Value) → value_sort v ≡ sort_of f.declared.word
          → Leads Q B 6 (On Open (frame dn a l (pushed v s) ∷ fs) m w r) (On Open (frame g 4 (slots_of v ++ Context ∷ []) (Second ∷ Long (far f) ∷ pushed v (Ref (suc o) ∷ Context ∷ [])) ∷ caller ∷ fs) m w r)
      static_put v e = by v (sym e) (places_fact f.declared.word v e) (takes_fact f.declared.word f.declared.class v e)
        where
          by : (v : Value) → sort_of f.declared.word ≡ value_sort v → word_places f.declared.word ≡ length (slots_of v) → length (place_types f.declared ++ context ∷ []) ≡ suc (length (slots_of v))
              → Leads Q B 6 (On Open (frame dn a l (pushed v s) ∷ fs) m w r) (On Open (frame g 4 (slots_of v ++ Context ∷ []) (Second ∷ Long (far f) ∷ pushed v (Ref (suc o) ∷ Context ∷ [])) ∷ caller ∷ fs) m w r)
          by (value.Int x) t p k =
              ((refl, refl), λ v1. (simp (is, at.0, here) (refl, refl), λ v2. (simp (is, at.0, at.1.0, here, h, k) (refl, refl), λ v3. (simp (is, at.0, at.1.0, here, h, k, p) (refl, refl), λ v4. (simp (is, at.0, at.1.0, here, h, k, p) (refl, refl), λ v5. (simp (is, at.0, at.1.0, here, h, k, p, t) (refl, refl), λ v6. simp (is, at.0, at.1.0, here, h, k, p, t)))))))
          by (value.Long x) t p k =
              ((refl, refl), λ v1. (simp (is, at.0, here) (refl, refl), λ v2. (simp (is, at.0, at.1.0, here, h, k) (refl, refl), λ v3. (simp (is, at.0, at.1.0, here, h, k, p) (refl, refl), λ v4. (simp (is, at.0, at.1.0, here, h, k, p) (refl, refl), λ v5. (simp (is, at.0, at.1.0, here, h, k, p, t) (refl, refl), λ v6. simp (is, at.0, at.1.0, here, h, k, p, t)))))))
          by (value.Ref x) t p k =
              ((refl, refl), λ v1. (simp (is, at.0, here) (refl, refl), λ v2. (simp (is, at.0, at.1.0, here, h, k) (refl, refl), λ v3. (simp (is, at.0, at.1.0, here, h, k, p) (refl, refl), λ v4. (simp (is, at.0, at.1.0, here, h, k, p) (refl, refl), λ v5. (simp (is, at.0, at.1.0, here, h, k, p, t) (refl, refl), λ v6. simp (is, at.0, at.1.0, here, h, k, p, t)))))))

      pub static_write : (v : Value) → value_sort v ≡ sort_of f.declared.word → (y : Reply)
          → next_run Q B y (On Open (frame g 4 (slots_of v ++ Context ∷ []) (Second ∷ Long (far f) ∷ pushed v (Ref (suc o) ∷ Context ∷ [])) ∷ caller ∷ fs) m w r) ≡ on_write y Q (inner (suc o) f) (word_of (kept_by f.declared.word v)) (frame g 4 (slots_of v ++ Context ∷ []) [] ∷ caller ∷ fs) m w r
      static_write (value.Int x) e y = let t = sym e in simp (h, t, known.index, known.below)
      static_write (value.Long x) e y = let t = sym e in simp (h, t, known.index, known.below)
      static_write (value.Ref x) e y = let t = sym e in simp (h, t, known.index, known.below)

      pub static_last : (z : List Slot) → Leads Q B 1 (On Open (frame g 5 z [] ∷ caller ∷ fs) m w r) (On Open (frame dn (a + 1 + 1) l s ∷ fs) m w r)
      static_last z = ((refl, refl), λ v. simp h)

  -- a field of objects
  module _ (h : slice_get Q.methods g ≡ Some (field_getter n f)) (there : slice_get Q.fields n ≡ Some f) where
    pub field_first : (o : ℕ) → Leads Q B 5 (On Open (frame dn a l (Ref o ∷ s) ∷ fs) m w r) (On Open (frame g 3 (Ref o ∷ Context ∷ []) (Second ∷ Long (far f) ∷ Ref o ∷ Context ∷ []) ∷ caller ∷ fs) m w r)
    field_first o = ((refl, refl), λ v1. (simp (is, at.0, here) (refl, refl), λ v2. (simp (is, at.0, at.1.0, here, h) (refl, refl), λ v3. (simp (is, at.0, at.1.0, here, h) (refl, refl), λ v4. (simp (is, at.0, at.1.0, here, h) (refl, refl), λ v5. simp (is, at.0, at.1.0, here, h))))))

    pub field_null : step Q (frame g 3 (Ref 0 ∷ Context ∷ []) (Second ∷ Long (far f) ∷ Ref 0 ∷ Context ∷ []) ∷ caller ∷ fs) ≡ Asks (asking.Make (trap_type NullPointer) 0 Raised) (frame g 3 (Ref 0 ∷ Context ∷ []) [] ∷ caller ∷ fs)
    field_null = simp h

    module _ (o : ℕ) (known : IsKnown f o) where
      pub field_look : (v : Reply) → next_run Q B v (On Open (frame g 3 (Ref (suc o) ∷ Context ∷ []) (Second ∷ Long (far f) ∷ Ref (suc o) ∷ Context ∷ []) ∷ caller ∷ fs) m w r) ≡ on_look v Q (frame g 3 (Ref (suc o) ∷ Context ∷ []) [] ∷ caller ∷ fs) m w r
      field_look v = simp (h, known.index, known.below)

      pub field_second : Leads Q B 5 (On Open (frame g 4 (Ref (suc o) ∷ Context ∷ []) [] ∷ caller ∷ fs) m w r) (On Open (frame g 9 (Ref (suc o) ∷ Context ∷ []) (Second ∷ Long (far f) ∷ Loaded ∷ Ref (suc o) ∷ Context ∷ []) ∷ caller ∷ fs) m w r)
      field_second = ((refl, refl), λ v1. (simp h (refl, refl), λ v2. (simp h (refl, refl), λ v3. (simp h (refl, refl), λ v4. (simp (h, there) (refl, refl), λ v5. simp (h, there))))))

      pub field_read : (v : Reply) → next_run Q B v (On Open (frame g 9 (Ref (suc o) ∷ Context ∷ []) (Second ∷ Long (far f) ∷ Loaded ∷ Ref (suc o) ∷ Context ∷ []) ∷ caller ∷ fs) m w r)
          ≡ on_read v Q (inner (suc o) f) f.declared.word (frame g 9 (Ref (suc o) ∷ Context ∷ []) [] ∷ caller ∷ fs) m w r
      field_read v = simp (h, known.index, known.below)

  module _ (h : slice_get Q.methods g ≡ Some (field_setter f)) where
    pub field_put : (v : Value) → value_sort v ≡ sort_of f.declared.word → (o : ℕ)
        → Leads Q B 6 (On Open (frame dn a l (pushed v (Ref o ∷ s)) ∷ fs) m w r) (On Open (frame g 4 (Ref o ∷ slots_of v ++ Context ∷ []) (Second ∷ Long (far f) ∷ pushed v (Ref o ∷ Context ∷ [])) ∷ caller ∷ fs) m w r)
    field_put v e o = by v (sym e) (places_fact f.declared.word v e) (takes_fact f.declared.word f.declared.class v e)
      where
        by : (v : Value) → sort_of f.declared.word ≡ value_sort v → word_places f.declared.word ≡ length (slots_of v) → length (place_types f.declared ++ context ∷ []) ≡ suc (length (slots_of v))
            → Leads Q B 6 (On Open (frame dn a l (pushed v (Ref o ∷ s)) ∷ fs) m w r) (On Open (frame g 4 (Ref o ∷ slots_of v ++ Context ∷ []) (Second ∷ Long (far f) ∷ pushed v (Ref o ∷ Context ∷ [])) ∷ caller ∷ fs) m w r)
        by (value.Int x) t p k =
            ((refl, refl), λ v1. (simp (is, at.0, here) (refl, refl), λ v2. (simp (is, at.0, at.1.0, here, h, k) (refl, refl), λ v3. (simp (is, at.0, at.1.0, here, h, k, p) (refl, refl), λ v4. (simp (is, at.0, at.1.0, here, h, k, p) (refl, refl), λ v5. (simp (is, at.0, at.1.0, here, h, k, p, t) (refl, refl), λ v6. simp (is, at.0, at.1.0, here, h, k, p, t)))))))
        by (value.Long x) t p k =
            ((refl, refl), λ v1. (simp (is, at.0, here) (refl, refl), λ v2. (simp (is, at.0, at.1.0, here, h, k) (refl, refl), λ v3. (simp (is, at.0, at.1.0, here, h, k, p) (refl, refl), λ v4. (simp (is, at.0, at.1.0, here, h, k, p) (refl, refl), λ v5. (simp (is, at.0, at.1.0, here, h, k, p, t) (refl, refl), λ v6. simp (is, at.0, at.1.0, here, h, k, p, t)))))))
        by (value.Ref x) t p k =
            ((refl, refl), λ v1. (simp (is, at.0, here) (refl, refl), λ v2. (simp (is, at.0, at.1.0, here, h, k) (refl, refl), λ v3. (simp (is, at.0, at.1.0, here, h, k, p) (refl, refl), λ v4. (simp (is, at.0, at.1.0, here, h, k, p) (refl, refl), λ v5. (simp (is, at.0, at.1.0, here, h, k, p, t) (refl, refl), λ v6. simp (is, at.0, at.1.0, here, h, k, p, t)))))))

    pub put_null : (v : Value) → value_sort v ≡ sort_of f.declared.word → (z : List Slot)
        → step Q (frame g 4 z (Second ∷ Long (far f) ∷ pushed v (Ref 0 ∷ Context ∷ [])) ∷ caller ∷ fs) ≡ Asks (asking.Make (trap_type NullPointer) 0 Raised) (frame g 4 z [] ∷ caller ∷ fs)
    put_null (value.Int x) e z = let t = sym e in simp (h, t)
    put_null (value.Long x) e z = let t = sym e in simp (h, t)
    put_null (value.Ref x) e z = let t = sym e in simp (h, t)

    pub field_write : (o : ℕ) → IsKnown f o → (v : Value) → value_sort v ≡ sort_of f.declared.word → (z : List Slot) (y : Reply)
        → next_run Q B y (On Open (frame g 4 z (Second ∷ Long (far f) ∷ pushed v (Ref (suc o) ∷ Context ∷ [])) ∷ caller ∷ fs) m w r) ≡ on_write y Q (inner (suc o) f) (word_of (kept_by f.declared.word v)) (frame g 4 z [] ∷ caller ∷ fs) m w r
    field_write o known (value.Int x) e z y = let t = sym e in simp (h, t, known.index, known.below)
    field_write o known (value.Long x) e z y = let t = sym e in simp (h, t, known.index, known.below)
    field_write o known (value.Ref x) e z y = let t = sym e in simp (h, t, known.index, known.below)

    pub field_last : (z : List Slot) → Leads Q B 1 (On Open (frame g 5 z [] ∷ caller ∷ fs) m w r) (On Open (frame dn (a + 1 + 1) l s ∷ fs) m w r)
    field_last z = ((refl, refl), λ v. simp h)

module _ (Q : Program) (B : Bounds) (dn a : ℕ) (dm : Method) (is : slice_get Q.methods dn ≡ Some dm) (l : List Slot) (c : ℕ) (here : slice_get l c ≡ Some Context) (g : ℕ) (rest : List Op) (at : HasAt dm.ops a (Load sort.Reference c ∷ InvokeStatic g ∷ rest)) (t : WordType) (fs : Frames) (m : Meter) (w r : Log) (s : List Slot) (i : ℤ) where
  abbrev element_caller : Frame
  element_caller = frame dn (a + 1) l s

  -- an element
  module _ (h : slice_get Q.methods g ≡ Some (element_getter_method t)) where
    abbrev taken : ℕ → List Slot
    taken o = Ref o ∷ Int i ∷ Context ∷ []

    pub element_first : (o : ℕ) → Leads Q B 5 (On Open (frame dn a l (Int i ∷ Ref o ∷ s) ∷ fs) m w r) (On Open (frame g 3 (taken o) (Int i ∷ Ref o ∷ Context ∷ []) ∷ element_caller ∷ fs) m w r)
    element_first o = ((refl, refl), λ v1. (simp (is, at.0, here) (refl, refl), λ v2. (simp (is, at.0, at.1.0, here, h) (refl, refl), λ v3. (simp (is, at.0, at.1.0, here, h) (refl, refl), λ v4. (simp (is, at.0, at.1.0, here, h) (refl, refl), λ v5. simp (is, at.0, at.1.0, here, h))))))

    pub element_null : step Q (frame g 3 (taken 0) (Int i ∷ Ref 0 ∷ Context ∷ []) ∷ element_caller ∷ fs) ≡ Asks (asking.Make (trap_type NullPointer) 0 Raised) (frame g 3 (taken 0) [] ∷ element_caller ∷ fs)
    element_null = simp h

    pub element_look : (o : ℕ) (v : Reply) → next_run Q B v (On Open (frame g 3 (taken (suc o)) (Int i ∷ Ref (suc o) ∷ Context ∷ []) ∷ element_caller ∷ fs) m w r) ≡ on_head v Q (Indexes i element.Look) (suc o) (frame g 3 (taken (suc o)) [] ∷ element_caller ∷ fs) m w r
    element_look o v = simp h

    pub element_look_asks : (o : ℕ) → step Q (frame g 3 (taken (suc o)) (Int i ∷ Ref (suc o) ∷ Context ∷ []) ∷ element_caller ∷ fs) ≡ Asks (asking.Head (suc o) (Indexes i element.Look)) (frame g 3 (taken (suc o)) [] ∷ element_caller ∷ fs)
    element_look_asks o = simp h

    pub element_second : (o : ℕ) → Leads Q B 6 (On Open (frame g 4 (taken (suc o)) [] ∷ element_caller ∷ fs) m w r) (On Open (frame g 10 (taken (suc o)) (Int i ∷ Loaded ∷ Ref (suc o) ∷ Context ∷ []) ∷ element_caller ∷ fs) m w r)
    element_second o =
        let x = (plain_of t).1 in
        ((refl, refl), λ v1. (simp h (refl, refl), λ v2. (simp h (refl, refl), λ v3. (simp h (refl, refl), λ v4. (simp h (refl, refl), λ v5. (simp (h, x) (refl, refl), λ v6. simp (h, x)))))))

    pub element_read : (o j : ℕ) → i ≡ pos j → nat_lt (suc o + suc j) (2 ^ 64) ≡ true → (v : Reply) → next_run Q B v (On Open (frame g 10 (taken (suc o)) (Int i ∷ Loaded ∷ Ref (suc o) ∷ Context ∷ []) ∷ element_caller ∷ fs) m w r)
        ≡ on_read v Q (record { object = suc o; index = suc j }) t (frame g 10 (taken (suc o)) [] ∷ element_caller ∷ fs) m w r
    element_read o j e below v = simp (h, e, below)

  module _ (h : slice_get Q.methods g ≡ Some (element_setter_method t)) where
    pub element_put : (v : Value) → value_sort v ≡ sort_of t → (o : ℕ)
        → Leads Q B 6 (On Open (frame dn a l (pushed v (Int i ∷ Ref o ∷ s)) ∷ fs) m w r) (On Open (frame g 4 (Ref o ∷ Int i ∷ slots_of v ++ Context ∷ []) (Int i ∷ pushed v (Ref o ∷ Context ∷ [])) ∷ element_caller ∷ fs) m w r)
    element_put v e o = by v (sym e) (places_fact t v e) (takes_fact t object_class v e)
      where
        by : (v : Value) → sort_of t ≡ value_sort v → word_places t ≡ length (slots_of v) → length (place_types (record { word = t; class = object_class }) ++ context ∷ []) ≡ suc (length (slots_of v))
            → Leads Q B 6 (On Open (frame dn a l (pushed v (Int i ∷ Ref o ∷ s)) ∷ fs) m w r) (On Open (frame g 4 (Ref o ∷ Int i ∷ slots_of v ++ Context ∷ []) (Int i ∷ pushed v (Ref o ∷ Context ∷ [])) ∷ element_caller ∷ fs) m w r)
        by (value.Int x) y p k =
            ((refl, refl), λ v1. (simp (is, at.0, here) (refl, refl), λ v2. (simp (is, at.0, at.1.0, here, h, k) (refl, refl), λ v3. (simp (is, at.0, at.1.0, here, h, k, p) (refl, refl), λ v4. (simp (is, at.0, at.1.0, here, h, k, p) (refl, refl), λ v5. (simp (is, at.0, at.1.0, here, h, k, p, y) (refl, refl), λ v6. simp (is, at.0, at.1.0, here, h, k, p, y)))))))
        by (value.Long x) y p k =
            ((refl, refl), λ v1. (simp (is, at.0, here) (refl, refl), λ v2. (simp (is, at.0, at.1.0, here, h, k) (refl, refl), λ v3. (simp (is, at.0, at.1.0, here, h, k, p) (refl, refl), λ v4. (simp (is, at.0, at.1.0, here, h, k, p) (refl, refl), λ v5. (simp (is, at.0, at.1.0, here, h, k, p, y) (refl, refl), λ v6. simp (is, at.0, at.1.0, here, h, k, p, y)))))))
        by (value.Ref x) y p k =
            ((refl, refl), λ v1. (simp (is, at.0, here) (refl, refl), λ v2. (simp (is, at.0, at.1.0, here, h, k) (refl, refl), λ v3. (simp (is, at.0, at.1.0, here, h, k, p) (refl, refl), λ v4. (simp (is, at.0, at.1.0, here, h, k, p) (refl, refl), λ v5. (simp (is, at.0, at.1.0, here, h, k, p, y) (refl, refl), λ v6. simp (is, at.0, at.1.0, here, h, k, p, y)))))))

    pub element_put_null : (v : Value) → value_sort v ≡ sort_of t → (z : List Slot)
        → step Q (frame g 4 z (Int i ∷ pushed v (Ref 0 ∷ Context ∷ [])) ∷ element_caller ∷ fs) ≡ Asks (asking.Make (trap_type NullPointer) 0 Raised) (frame g 4 z [] ∷ element_caller ∷ fs)
    element_put_null (value.Int x) e z = let y = sym e in simp (h, y)
    element_put_null (value.Long x) e z = let y = sym e in simp (h, y)
    element_put_null (value.Ref x) e z = let y = sym e in simp (h, y)

    pub element_write : (o : ℕ) (v : Value) → value_sort v ≡ sort_of t → (z : List Slot) (u : Reply)
        → next_run Q B u (On Open (frame g 4 z (Int i ∷ pushed v (Ref (suc o) ∷ Context ∷ [])) ∷ element_caller ∷ fs) m w r) ≡ on_head u Q (Indexes i (element.Write (kept_by t v))) (suc o) (frame g 4 z [] ∷ element_caller ∷ fs) m w r
    element_write o (value.Int x) e z u = let y = sym e in simp (h, y)
    element_write o (value.Long x) e z u = let y = sym e in simp (h, y)
    element_write o (value.Ref x) e z u = let y = sym e in simp (h, y)

    pub element_write_asks : (o : ℕ) (v : Value) → value_sort v ≡ sort_of t → (z : List Slot)
        → step Q (frame g 4 z (Int i ∷ pushed v (Ref (suc o) ∷ Context ∷ [])) ∷ element_caller ∷ fs) ≡ Asks (asking.Head (suc o) (Indexes i (element.Write (kept_by t v)))) (frame g 4 z [] ∷ element_caller ∷ fs)
    element_write_asks o (value.Int x) e z = let y = sym e in simp (h, y)
    element_write_asks o (value.Long x) e z = let y = sym e in simp (h, y)
    element_write_asks o (value.Ref x) e z = let y = sym e in simp (h, y)

    pub element_last : (z : List Slot) → Leads Q B 1 (On Open (frame g 5 z [] ∷ element_caller ∷ fs) m w r) (On Open (frame dn (a + 1 + 1) l s ∷ fs) m w r)
    element_last z = ((refl, refl), λ v. simp h)
