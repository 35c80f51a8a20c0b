-- Typings of accessors, and of the methods of the helper of arrays.
use Rattle.std.proofs.Common.{◌≡◌, ℕ, zero, suc, ◌+◌, ◌<◌, ◌≤◌, List, [], ◌∷◌, ◌++◌, length, Option, Some, None, Bool, true, false, refl, sym, ap, subst, ◌∙◌, arith, length-append}
use Rattle.std.specs.Prelude.{slice_get, bytes_eq, codes, if◌then◌else◌}
use Rattle.std.proofs.lemmas.Slice.Eq.{bytes_eq-Decides}
use Rattle.jmodel.specs.declared.typing.VType.{VType}
use Rattle.jmodel.specs.declared.typing.VType.TheVariants.{Int, Long, Second, Ref}
use Rattle.objects.specs.declared.op.Sort.TheVariants as sort
use Rattle.objects.specs.declared.op.WordType.{WordType}
use Rattle.objects.specs.declared.op.WordType.TheVariants as word
use Rattle.objects.specs.declared.op.Op.TheVariants as op
use Rattle.objects.specs.declared.op.ContextCall.TheVariants as call
use Rattle.objects.specs.semantics.Program.{Declared, Field, Method, Program, field_at}
use Rattle.objects.specs.semantics.Step.{sort_of}
use Rattle.objects.specs.typing.TypeOrder.{object_class, context_class, IsWithin, AreWithin, IsLocals, IsStack, stack_types, place_types}
use Rattle.objects.specs.typing.Typing.{Flow, Leads, leaves, loads, on_each, called, flow, is_constructor, stored_types, IsTypable}
use Rattle.objects.specs.typing.Source.{IsReadName, IsReadWord}
use Rattle.objects.specs.rewriting.Rewriting.{word_places, array_type, any_of, plain_load, as_result, cast_of, getter_method, setter_method, element_getter_method, element_setter_method}
use Rattle.objects.proofs.TypingTables.{over, Line, line_typable, added_first}

-- the class of contexts is at most itself, and Object is read
pub record HasContext (Q : Program) : Type 0 where
  pub context : IsWithin Q (Ref context_class) (Ref context_class)
  pub object : IsReadName Q object_class

abbrev context : VType
context = Ref context_class

abbrev object : VType
object = Ref object_class

-- a name that isn't short is no constructor's
no_constructor : (n m : List ℕ) → 7 ≤ length m → bytes_eq (n ++ m) (codes "<init>") ≡ false
no_constructor n m long = by (bytes_eq (n ++ m) (codes "<init>")) refl
  where
    by : (b : Bool) → bytes_eq (n ++ m) (codes "<init>") ≡ b → b ≡ false
    by false e = refl
    by true e = let same : length (n ++ m) ≡ 6 = ap length ((bytes_eq-Decides (n ++ m) (codes "<init>")).0 e) in absurd (omega (arith, same, long, length-append n m))

-- ---- the places of a word

abbrev kind : WordType → List ℕ → Declared
kind w c = record { word = w; class = c }

module _ (Q : Program) where
  value_stack : (w : WordType) (c : List ℕ) (s : List VType) → IsStack s → IsStack (stack_types (kind w c) ++ s)
  value_stack word.Boolean c s h = h
  value_stack word.Byte c s h = h
  value_stack word.Char c s h = h
  value_stack word.Short c s h = h
  value_stack word.Int c s h = h
  value_stack word.Long c s h = h
  value_stack word.Reference c s h = h

  value_itself : (w : WordType) (c : List ℕ) (s : List VType) → IsReadWord Q w c → AreWithin Q s s → AreWithin Q (stack_types (kind w c) ++ s) (stack_types (kind w c) ++ s)
  value_itself word.Boolean c s r h = (refl, h)
  value_itself word.Byte c s r h = (refl, h)
  value_itself word.Char c s r h = (refl, h)
  value_itself word.Short c s r h = (refl, h)
  value_itself word.Int c s r h = (refl, h)
  value_itself word.Long c s r h = (refl, (refl, h))
  value_itself word.Reference c s r h = (r.itself, h)

  value_places : (w : WordType) (c : List ℕ) (s : List VType) → length (stack_types (kind w c) ++ s) ≡ word_places w + length s
  value_places word.Boolean c s = omega arith
  value_places word.Byte c s = omega arith
  value_places word.Char c s = omega arith
  value_places word.Short c s = omega arith
  value_places word.Int c s = omega arith
  value_places word.Long c s = omega arith
  value_places word.Reference c s = omega arith

  value_taken : (w : WordType) (c : List ℕ) (s : List VType) (j : List VType → Flow) → IsReadWord Q w c → on_each Q (stored_types w) (stack_types (kind w c) ++ s) j ≡ j s
  value_taken word.Boolean c s j r = refl
  value_taken word.Byte c s j r = refl
  value_taken word.Char c s j r = refl
  value_taken word.Short c s j r = refl
  value_taken word.Int c s j r = refl
  value_taken word.Long c s j r = refl
  value_taken word.Reference c s j r = let e = r.top in rw e refl

  value_locals : (w : WordType) (c : List ℕ) (s : List VType) → IsLocals s → IsLocals (place_types (kind w c) ++ s)
  value_locals word.Boolean c s h = h
  value_locals word.Byte c s h = h
  value_locals word.Char c s h = h
  value_locals word.Short c s h = h
  value_locals word.Int c s h = h
  value_locals word.Long c s h = h
  value_locals word.Reference c s h = h

  place_itself : (w : WordType) (c : List ℕ) (s : List VType) → IsReadWord Q w c → AreWithin Q s s → AreWithin Q (place_types (kind w c) ++ s) (place_types (kind w c) ++ s)
  place_itself word.Boolean c s r h = (refl, h)
  place_itself word.Byte c s r h = (refl, h)
  place_itself word.Char c s r h = (refl, h)
  place_itself word.Short c s r h = (refl, h)
  place_itself word.Int c s r h = (refl, h)
  place_itself word.Long c s r h = (refl, (refl, h))
  place_itself word.Reference c s r h = (r.itself, h)

  -- the value is loaded from the first place, from the second, or from the third
  value_first : (w : WordType) (c : List ℕ) (l s : List VType) (pc : ℕ) → loads (sort_of w) 0 pc (over (place_types (kind w c) ++ l) s) ≡ leaves pc (over (place_types (kind w c) ++ l) s) (stack_types (kind w c) ++ s)
  value_first word.Boolean c l s pc = refl
  value_first word.Byte c l s pc = refl
  value_first word.Char c l s pc = refl
  value_first word.Short c l s pc = refl
  value_first word.Int c l s pc = refl
  value_first word.Long c l s pc = refl
  value_first word.Reference c l s pc = refl

  value_second : (t : VType) (w : WordType) (c : List ℕ) (l s : List VType) (pc : ℕ) → loads (sort_of w) 1 pc (over (t ∷ place_types (kind w c) ++ l) s) ≡ leaves pc (over (t ∷ place_types (kind w c) ++ l) s) (stack_types (kind w c) ++ s)
  value_second t word.Boolean c l s pc = refl
  value_second t word.Byte c l s pc = refl
  value_second t word.Char c l s pc = refl
  value_second t word.Short c l s pc = refl
  value_second t word.Int c l s pc = refl
  value_second t word.Long c l s pc = refl
  value_second t word.Reference c l s pc = refl

  value_third : (t u : VType) (w : WordType) (c : List ℕ) (l s : List VType) (pc : ℕ) → loads (sort_of w) 2 pc (over (t ∷ u ∷ place_types (kind w c) ++ l) s) ≡ leaves pc (over (t ∷ u ∷ place_types (kind w c) ++ l) s) (stack_types (kind w c) ++ s)
  value_third t u word.Boolean c l s pc = refl
  value_third t u word.Byte c l s pc = refl
  value_third t u word.Char c l s pc = refl
  value_third t u word.Short c l s pc = refl
  value_third t u word.Int c l s pc = refl
  value_third t u word.Long c l s pc = refl
  value_third t u word.Reference c l s pc = refl

  -- and the context from behind it
  context_first : (w : WordType) (c : List ℕ) → slice_get (place_types (kind w c) ++ context ∷ []) (word_places w) ≡ Some context
  context_first word.Boolean c = refl
  context_first word.Byte c = refl
  context_first word.Char c = refl
  context_first word.Short c = refl
  context_first word.Int c = refl
  context_first word.Long c = refl
  context_first word.Reference c = refl

  context_second : (t : VType) (w : WordType) (c : List ℕ) → slice_get (t ∷ place_types (kind w c) ++ context ∷ []) (1 + word_places w) ≡ Some context
  context_second t word.Boolean c = refl
  context_second t word.Byte c = refl
  context_second t word.Char c = refl
  context_second t word.Short c = refl
  context_second t word.Int c = refl
  context_second t word.Long c = refl
  context_second t word.Reference c = refl

  context_third : (t u : VType) (w : WordType) (c : List ℕ) → slice_get (t ∷ u ∷ place_types (kind w c) ++ context ∷ []) (2 + word_places w) ≡ Some context
  context_third t u word.Boolean c = refl
  context_third t u word.Byte c = refl
  context_third t u word.Char c = refl
  context_third t u word.Short c = refl
  context_third t u word.Int c = refl
  context_third t u word.Long c = refl
  context_third t u word.Reference c = refl

  abbrev cast_stacks : WordType → List ℕ → List (List VType)
  cast_stacks word.Reference c = if bytes_eq c object_class then [] else (Ref c ∷ []) ∷ []
  cast_stacks w c = []

  module _ (X : HasContext Q) where
    con : IsWithin Q context context
    con = X.context

    obj : IsWithin Q object object
    obj = X.object.itself

    stored_read : (w : WordType) → IsReadWord Q w object_class
    stored_read word.Reference = X.object
    stored_read w = tt

    -- ---- calls of the context

    before_read : (pc : ℕ) (l s : List VType) (n : List ℕ) → IsWithin Q (Ref n) object → called Q call.BeforeRead pc (over l (Second ∷ Long ∷ Ref n ∷ context ∷ s)) ≡ leaves pc (over l (Second ∷ Long ∷ Ref n ∷ context ∷ s)) s
    before_read pc l s n top = let e = con in rw (top, e) refl

    before_element : (pc : ℕ) (l s : List VType) (n : List ℕ) → IsWithin Q (Ref n) object → called Q call.BeforeReadElement pc (over l (Int ∷ Ref n ∷ context ∷ s)) ≡ leaves pc (over l (Int ∷ Ref n ∷ context ∷ s)) s
    before_element pc l s n top = let e = con in rw (top, e) refl

    on_read : (w : WordType) (c : List ℕ) (pc : ℕ) (l s : List VType) (n : List ℕ) → IsReadWord Q w c → IsWithin Q (Ref n) object
        → called Q (call.OnRead w) pc (over l (Second ∷ Long ∷ (stack_types (kind w c) ++ Ref n ∷ context ∷ s))) ≡ leaves pc (over l (Second ∷ Long ∷ (stack_types (kind w c) ++ Ref n ∷ context ∷ s))) (stored_types w ++ s)
    on_read w c pc l s n r top = value_taken w c (Ref n ∷ context ∷ s) _ r ∙ (let e = con in rw (top, e) refl)

    on_element : (w : WordType) (c : List ℕ) (pc : ℕ) (l s : List VType) (n : List ℕ) → IsReadWord Q w c → IsWithin Q (Ref n) object
        → called Q (call.OnReadElement w) pc (over l (Int ∷ (stack_types (kind w c) ++ Ref n ∷ context ∷ s))) ≡ leaves pc (over l (Int ∷ (stack_types (kind w c) ++ Ref n ∷ context ∷ s))) (stored_types w ++ s)
    on_element w c pc l s n r top = value_taken w c (Ref n ∷ context ∷ s) _ r ∙ (let e = con in rw (top, e) refl)

    on_write : (w : WordType) (c : List ℕ) (pc : ℕ) (l s : List VType) (n : List ℕ) → IsReadWord Q w c → IsWithin Q (Ref n) object
        → called Q (call.OnWrite w) pc (over l (Second ∷ Long ∷ (stack_types (kind w c) ++ Ref n ∷ context ∷ s))) ≡ leaves pc (over l (Second ∷ Long ∷ (stack_types (kind w c) ++ Ref n ∷ context ∷ s))) s
    on_write w c pc l s n r top = value_taken w c (Ref n ∷ context ∷ s) _ r ∙ (let e = con in rw (top, e) refl)

    write_element : (w : WordType) (c : List ℕ) (pc : ℕ) (l s : List VType) (n : List ℕ) → IsReadWord Q w c → IsWithin Q (Ref n) object
        → called Q (call.OnWriteElement w) pc (over l (Int ∷ (stack_types (kind w c) ++ Ref n ∷ context ∷ s))) ≡ leaves pc (over l (Int ∷ (stack_types (kind w c) ++ Ref n ∷ context ∷ s))) s
    write_element w c pc l s n r top = value_taken w c (Ref n ∷ context ∷ s) _ r ∙ (let e = con in rw (top, e) refl)

    -- ---- the end of a getter

    cast_line : (k : Method) (l : List VType) (w : WordType) (c : List ℕ) (pc : ℕ) → k.result ≡ Some (as_result (kind w c)) → 1 ≤ k.max_stack → IsReadWord Q w c
        → Line Q k l pc (stored_types w ++ []) (cast_of (kind w c) (op.ReturnValue (sort_of w) ∷ [])) (cast_stacks w c)
    cast_line k l word.Boolean c pc is room r = rw is refl
    cast_line k l word.Byte c pc is room r = rw is refl
    cast_line k l word.Char c pc is room r = rw is refl
    cast_line k l word.Short c pc is room r = rw is refl
    cast_line k l word.Int c pc is room r = rw is refl
    cast_line k l word.Long c pc is room r = rw is refl
    cast_line k l word.Reference c pc is room r = by (bytes_eq c object_class) refl
      where
        by : (b : Bool) → bytes_eq c object_class ≡ b → Line Q k l pc (object ∷ []) (if b then op.ReturnValue sort.Reference ∷ [] else op.CheckCast c ∷ op.ReturnValue sort.Reference ∷ []) (if b then [] else (Ref c ∷ []) ∷ [])
        by true e = let same : IsWithin Q object (Ref c) = subst (λ n. IsWithin Q object (Ref n)) (sym ((bytes_eq-Decides c object_class).0 e)) obj in rw (is, same) refl
        by false e =
            let f = obj in let read = r.read in let itself = r.itself in
            (rw (f, read) refl, record { stack = tt; itself = (itself, tt); room = room }, rw (is, itself) refl)

    -- ---- accessors of static fields

    module _ (n : ℕ) (class name descriptor : List ℕ) (o index : ℕ) (w : WordType) (c : List ℕ) (r : IsReadWord Q w c) where
      abbrev static_field : Field
      static_field = record { class = class; name = name; descriptor = descriptor; base = Some (suc o); index = index; declared = kind w c }

      abbrev own : List VType
      own = context ∷ []

      abbrev static_get : Method
      static_get = getter_method n static_field

      one_more : 1 ≤ 4 + word_places w
      one_more = omega arith

      pub static_getter_typable : field_at Q n ≡ Some static_field → IsTypable Q static_get
      static_getter_typable there =
          let taken : List VType = stack_types (kind w c) ++ object ∷ context ∷ [] in
          let many = value_places w c (object ∷ context ∷ []) in
          let stored = value_places w object_class [] in
          let ro = stored_read w in
          let e = con in let f = obj in
          line_typable Q static_get own refl refl tt (e, tt) (added_first static_get own (no_constructor name (codes "__Getter$") (omega arith)) refl refl refl)
          ((context ∷ []) ∷ (object ∷ context ∷ []) ∷ (Second ∷ Long ∷ object ∷ context ∷ []) ∷ [] ∷ (context ∷ []) ∷ (object ∷ context ∷ []) ∷ taken ∷ (Second ∷ Long ∷ taken) ∷ (stored_types w ++ []) ∷ cast_stacks w c) (
            refl,
            record { stack = tt; itself = (e, tt); room = omega arith },
            (
              refl,
              record { stack = tt; itself = (f, (e, tt)); room = omega arith },
              (
                refl,
                record { stack = tt; itself = (refl, (refl, (f, (e, tt)))); room = omega arith },
                (
                  before_read 3 own [] object_class f,
                  record { stack = tt; itself = tt; room = omega arith },
                  (
                    refl,
                    record { stack = tt; itself = (e, tt); room = omega arith },
                    (
                      refl,
                      record { stack = tt; itself = (f, (e, tt)); room = omega arith },
                      (
                        rw there refl,
                        record { stack = value_stack w c (object ∷ context ∷ []) tt; itself = value_itself w c (object ∷ context ∷ []) r (f, (e, tt)); room = omega (arith, many) },
                        (
                          refl,
                          record { stack = value_stack w c (object ∷ context ∷ []) tt; itself = (refl, (refl, value_itself w c (object ∷ context ∷ []) r (f, (e, tt)))); room = omega (arith, many) },
                          (
                            on_read w c 8 own [] object_class r f,
                            record { stack = value_stack w object_class [] tt; itself = value_itself w object_class [] ro tt; room = omega (arith, stored) },
                            cast_line static_get own w c _ refl one_more r,
                          ),
                        ),
                      ),
                    ),
                  ),
                ),
              ),
            ),
          )

      abbrev given : List VType
      given = place_types (kind w c) ++ context ∷ []

      abbrev static_put : Method
      static_put = setter_method static_field

      static_setter_typable : IsTypable Q static_put
      static_setter_typable =
          let taken : List VType = stack_types (kind w c) ++ object ∷ context ∷ [] in
          let many = value_places w c (object ∷ context ∷ []) in
          let x = context_first w c in
          let plain = no_constructor name (codes "__Setter$") (omega arith) in
          let e = con in let f = obj in
          line_typable Q static_put given refl refl (value_locals w c (context ∷ []) tt) (place_itself w c (context ∷ []) r (e, tt)) (added_first static_put given plain refl refl refl)
          ((context ∷ []) ∷ (object ∷ context ∷ []) ∷ taken ∷ (Second ∷ Long ∷ taken) ∷ [] ∷ []) (
            rw x refl,
            record { stack = tt; itself = (e, tt); room = omega arith },
            (
              refl,
              record { stack = tt; itself = (f, (e, tt)); room = omega arith },
              (
                value_first w c (context ∷ []) (object ∷ context ∷ []) 2,
                record { stack = value_stack w c (object ∷ context ∷ []) tt; itself = value_itself w c (object ∷ context ∷ []) r (f, (e, tt)); room = omega (arith, many) },
                (
                  refl,
                  record { stack = value_stack w c (object ∷ context ∷ []) tt; itself = (refl, (refl, value_itself w c (object ∷ context ∷ []) r (f, (e, tt)))); room = omega (arith, many) },
                  (
                    on_write w c 4 given [] object_class r f,
                    record { stack = tt; itself = tt; room = omega arith },
                    rw plain refl,
                  ),
                ),
              ),
            ),
          )

    -- ---- accessors of fields of objects

    module _ (n : ℕ) (class name descriptor : List ℕ) (index : ℕ) (w : WordType) (c : List ℕ) (r : IsReadWord Q w c) (owner : IsReadName Q class) where
      abbrev object_field : Field
      object_field = record { class = class; name = name; descriptor = descriptor; base = None; index = index; declared = kind w c }

      abbrev this : VType
      this = Ref class

      abbrev pair : List VType
      pair = this ∷ context ∷ []

      abbrev field_get : Method
      field_get = getter_method n object_field

      field_getter_typable : field_at Q n ≡ Some object_field → IsTypable Q field_get
      field_getter_typable there =
          let taken : List VType = stack_types (kind w c) ++ this ∷ context ∷ [] in
          let many = value_places w c (this ∷ context ∷ []) in
          let stored = value_places w object_class [] in
          let ro = stored_read w in
          let room : 1 ≤ 4 + word_places w = omega arith in
          let e = con in let f = owner.itself in
          line_typable Q field_get pair refl refl tt (f, (e, tt)) (added_first field_get pair (no_constructor name (codes "__Getter$") (omega arith)) refl refl refl)
          ((context ∷ []) ∷ (this ∷ context ∷ []) ∷ (Second ∷ Long ∷ this ∷ context ∷ []) ∷ [] ∷ (context ∷ []) ∷ (this ∷ context ∷ []) ∷ (this ∷ this ∷ context ∷ []) ∷ taken ∷ (Second ∷ Long ∷ taken) ∷ (stored_types w ++ []) ∷ cast_stacks w c) (
            refl,
            record { stack = tt; itself = (e, tt); room = omega arith },
            (
              refl,
              record { stack = tt; itself = (f, (e, tt)); room = omega arith },
              (
                refl,
                record { stack = tt; itself = (refl, (refl, (f, (e, tt)))); room = omega arith },
                (
                  before_read 3 pair [] class owner.top,
                  record { stack = tt; itself = tt; room = omega arith },
                  (
                    refl,
                    record { stack = tt; itself = (e, tt); room = omega arith },
                    (
                      refl,
                      record { stack = tt; itself = (f, (e, tt)); room = omega arith },
                      (
                        refl,
                        record { stack = tt; itself = (f, (f, (e, tt))); room = omega arith },
                        (
                          rw (there, f) refl,
                          record { stack = value_stack w c (this ∷ context ∷ []) tt; itself = value_itself w c (this ∷ context ∷ []) r (f, (e, tt)); room = omega (arith, many) },
                          (
                            refl,
                            record { stack = value_stack w c (this ∷ context ∷ []) tt; itself = (refl, (refl, value_itself w c (this ∷ context ∷ []) r (f, (e, tt)))); room = omega (arith, many) },
                            (
                              on_read w c 9 pair [] class r owner.top,
                              record { stack = value_stack w object_class [] tt; itself = value_itself w object_class [] ro tt; room = omega (arith, stored) },
                              cast_line field_get pair w c _ refl room r,
                            ),
                          ),
                        ),
                      ),
                    ),
                  ),
                ),
              ),
            ),
          )

      abbrev all_given : List VType
      all_given = this ∷ place_types (kind w c) ++ context ∷ []

      abbrev field_put : Method
      field_put = setter_method object_field

      field_setter_typable : IsTypable Q field_put
      field_setter_typable =
          let taken : List VType = stack_types (kind w c) ++ this ∷ context ∷ [] in
          let many = value_places w c (this ∷ context ∷ []) in
          let x = context_second this w c in
          let plain = no_constructor name (codes "__Setter$") (omega arith) in
          let e = con in let f = owner.itself in
          line_typable Q field_put all_given refl refl (value_locals w c (context ∷ []) tt) (f, place_itself w c (context ∷ []) r (e, tt)) (added_first field_put all_given plain refl refl refl)
          ((context ∷ []) ∷ (this ∷ context ∷ []) ∷ taken ∷ (Second ∷ Long ∷ taken) ∷ [] ∷ []) (
            rw x refl,
            record { stack = tt; itself = (e, tt); room = omega arith },
            (
              refl,
              record { stack = tt; itself = (f, (e, tt)); room = omega arith },
              (
                value_second this w c (context ∷ []) (this ∷ context ∷ []) 2,
                record { stack = value_stack w c (this ∷ context ∷ []) tt; itself = value_itself w c (this ∷ context ∷ []) r (f, (e, tt)); room = omega (arith, many) },
                (
                  refl,
                  record { stack = value_stack w c (this ∷ context ∷ []) tt; itself = (refl, (refl, value_itself w c (this ∷ context ∷ []) r (f, (e, tt)))); room = omega (arith, many) },
                  (
                    on_write w c 4 all_given [] class r owner.top,
                    record { stack = tt; itself = tt; room = omega arith },
                    rw plain refl,
                  ),
                ),
              ),
            ),
          )

    -- ---- the helper of arrays

    abbrev array : WordType → VType
    array t = Ref (array_type t)

    array_itself : (t : WordType) → IsWithin Q (array t) (array t)
    array_itself word.Boolean = refl
    array_itself word.Byte = refl
    array_itself word.Char = refl
    array_itself word.Short = refl
    array_itself word.Int = refl
    array_itself word.Long = refl
    array_itself word.Reference = obj

    array_top : (t : WordType) → IsWithin Q (array t) object
    array_top word.Boolean = refl
    array_top word.Byte = refl
    array_top word.Char = refl
    array_top word.Short = refl
    array_top word.Int = refl
    array_top word.Long = refl
    array_top word.Reference = refl

    array_local : (t : WordType) → IsLocals (array t ∷ Int ∷ context ∷ [])
    array_local t = tt

    some_place : (t : WordType) → 1 ≤ word_places t
    some_place word.Boolean = omega arith
    some_place word.Byte = omega arith
    some_place word.Char = omega arith
    some_place word.Short = omega arith
    some_place word.Int = omega arith
    some_place word.Long = omega arith
    some_place word.Reference = omega arith

    -- the element is loaded
    load_flow : (t : WordType) (k : Method) (pc : ℕ) (l s : List VType) → flow Q k pc (plain_load t) (over l (Int ∷ array t ∷ s)) ≡ leaves pc (over l (Int ∷ array t ∷ s)) (stack_types (any_of t) ++ s)
    load_flow word.Boolean k pc l s = refl
    load_flow word.Byte k pc l s = refl
    load_flow word.Char k pc l s = refl
    load_flow word.Short k pc l s = refl
    load_flow word.Int k pc l s = refl
    load_flow word.Long k pc l s = refl
    load_flow word.Reference k pc l s = refl

    return_flow : (t : WordType) (k : Method) (pc : ℕ) (l : List VType) → k.result ≡ Some (as_result (any_of t)) → flow Q k pc (op.ReturnValue (sort_of t)) (over l (stored_types t ++ [])) ≡ Leads [] (over l [])
    return_flow word.Boolean k pc l is = rw is refl
    return_flow word.Byte k pc l is = rw is refl
    return_flow word.Char k pc l is = rw is refl
    return_flow word.Short k pc l is = rw is refl
    return_flow word.Int k pc l is = rw is refl
    return_flow word.Long k pc l is = rw is refl
    return_flow word.Reference k pc l is = let f = obj in rw (is, f) refl

    getter_name : (t : WordType) → is_constructor (element_getter_method t) ≡ false
    getter_name word.Boolean = refl
    getter_name word.Byte = refl
    getter_name word.Char = refl
    getter_name word.Short = refl
    getter_name word.Int = refl
    getter_name word.Long = refl
    getter_name word.Reference = refl

    setter_name : (t : WordType) → is_constructor (element_setter_method t) ≡ false
    setter_name word.Boolean = refl
    setter_name word.Byte = refl
    setter_name word.Char = refl
    setter_name word.Short = refl
    setter_name word.Int = refl
    setter_name word.Long = refl
    setter_name word.Reference = refl

    module _ (t : WordType) where
      abbrev a : VType
      a = array t

      abbrev element_get : Method
      element_get = element_getter_method t

      abbrev element_put : Method
      element_put = element_setter_method t

      abbrev three : List VType
      three = a ∷ Int ∷ context ∷ []

      abbrev element_taken : List VType
      element_taken = stack_types (kind t object_class) ++ a ∷ context ∷ []

      pub element_getter_typable : IsTypable Q element_get
      element_getter_typable =
          let many = value_places t object_class (a ∷ context ∷ []) in
          let stored = value_places t object_class [] in
          let some = some_place t in
          let ro = stored_read t in
          let e = con in let f = array_itself t in
          let taken_stack = value_stack t object_class (a ∷ context ∷ []) tt in
          let taken_itself = value_itself t object_class (a ∷ context ∷ []) ro (f, (e, tt)) in
          line_typable Q element_get three refl refl tt (f, (refl, (e, tt))) (added_first element_get three (getter_name t) refl refl refl)
          ((context ∷ []) ∷ (a ∷ context ∷ []) ∷ (Int ∷ a ∷ context ∷ []) ∷ [] ∷ (context ∷ []) ∷ (a ∷ context ∷ []) ∷ (a ∷ a ∷ context ∷ []) ∷ (Int ∷ a ∷ a ∷ context ∷ []) ∷ element_taken ∷ (Int ∷ element_taken) ∷ (stored_types t ++ []) ∷ []) (
            refl,
            record { stack = tt; itself = (e, tt); room = omega arith },
            (
              refl,
              record { stack = tt; itself = (f, (e, tt)); room = omega arith },
              (
                refl,
                record { stack = tt; itself = (refl, (f, (e, tt))); room = omega arith },
                (
                  before_element 3 three [] (array_type t) (array_top t),
                  record { stack = tt; itself = tt; room = omega arith },
                  (
                    refl,
                    record { stack = tt; itself = (e, tt); room = omega arith },
                    (
                      refl,
                      record { stack = tt; itself = (f, (e, tt)); room = omega arith },
                      (
                        refl,
                        record { stack = tt; itself = (f, (f, (e, tt))); room = omega arith },
                        (
                          refl,
                          record { stack = tt; itself = (refl, (f, (f, (e, tt)))); room = omega (arith, some) },
                          (
                            load_flow t element_get 8 three (a ∷ context ∷ []),
                            record { stack = taken_stack; itself = taken_itself; room = omega (arith, many) },
                            (
                              refl,
                              record { stack = taken_stack; itself = (refl, taken_itself); room = omega (arith, many) },
                              (
                                on_element t object_class 10 three [] (array_type t) ro (array_top t),
                                record { stack = value_stack t object_class [] tt; itself = value_itself t object_class [] ro tt; room = omega (arith, stored) },
                                return_flow t element_get 11 three refl,
                              ),
                            ),
                          ),
                        ),
                      ),
                    ),
                  ),
                ),
              ),
            ),
          )

      abbrev four : List VType
      four = a ∷ Int ∷ place_types (kind t object_class) ++ context ∷ []

      pub element_setter_typable : IsTypable Q element_put
      element_setter_typable =
          let many = value_places t object_class (a ∷ context ∷ []) in
          let ro = stored_read t in
          let x = context_third a Int t object_class in
          let plain = setter_name t in
          let e = con in let f = array_itself t in
          let taken_stack = value_stack t object_class (a ∷ context ∷ []) tt in
          let taken_itself = value_itself t object_class (a ∷ context ∷ []) ro (f, (e, tt)) in
          line_typable Q element_put four refl refl (value_locals t object_class (context ∷ []) tt) (f, (refl, place_itself t object_class (context ∷ []) ro (e, tt))) (added_first element_put four plain refl refl refl)
          ((context ∷ []) ∷ (a ∷ context ∷ []) ∷ element_taken ∷ (Int ∷ element_taken) ∷ [] ∷ []) (
            rw x refl,
            record { stack = tt; itself = (e, tt); room = omega arith },
            (
              refl,
              record { stack = tt; itself = (f, (e, tt)); room = omega arith },
              (
                value_third a Int t object_class (context ∷ []) (a ∷ context ∷ []) 2,
                record { stack = taken_stack; itself = taken_itself; room = omega (arith, many) },
                (
                  refl,
                  record { stack = taken_stack; itself = (refl, taken_itself); room = omega (arith, many) },
                  (
                    write_element t object_class 4 four [] (array_type t) ro (array_top t),
                    record { stack = tt; itself = tt; room = omega arith },
                    rw plain refl,
                  ),
                ),
              ),
            ),
          )

    -- ---- the accessors of a field

    module _ (n : ℕ) (f : Field) (there : field_at Q n ≡ Some f) (word : IsReadWord Q f.declared.word f.declared.class) (owner : f.base ≡ None → IsReadName Q f.class) (known : (o : ℕ) → f.base ≡ Some o → 0 < o) where
      abbrev based : Option ℕ → Field
      based b = record f { base = b }

      abbrev AreTypable : Field → Type 0
      AreTypable g = field_at Q n ≡ Some g → IsTypable Q (getter_method n g) × IsTypable Q (setter_method g)

      by_base : (b : Option ℕ) → f.base ≡ b → AreTypable (based b)
      by_base None e there = (
        field_getter_typable n f.class f.name f.descriptor f.index f.declared.word f.declared.class word (owner e) there,
        field_setter_typable n f.class f.name f.descriptor f.index f.declared.word f.declared.class word (owner e),
      )
      by_base (Some zero) e there = absurd (let h = known 0 e in omega (arith, h))
      by_base (Some (suc o)) e there = (
        static_getter_typable n f.class f.name f.descriptor o f.index f.declared.word f.declared.class word there,
        static_setter_typable n f.class f.name f.descriptor o f.index f.declared.word f.declared.class word,
      )

      pub accessors_typable : IsTypable Q (getter_method n f) × IsTypable Q (setter_method f)
      accessors_typable = by_base f.base refl there
