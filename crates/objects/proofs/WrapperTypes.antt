-- Typings of wrappers.
use Rattle.std.proofs.Common.{◌≡◌, ◌≢◌, ℕ, ℤ, suc, ◌+◌, ◌-◌, ◌<◌, ◌≤◌, List, [], ◌∷◌, ◌++◌, length, reverse, Option, Some, None, Bool, true, false, refl, sym, ap, subst, ◌∙◌, arith, append_assoc, append-nil, length-append}
use Rattle.std.specs.Prelude.{slice_get, slice_set, nat_lt, nat_le, ◌&&◌, max, replicate, bytes_eq, codes, if◌then◌else◌}
use Rattle.std.proofs.lemmas.Bool.Decides.{nat_tests}
use Rattle.std.proofs.lemmas.List.{reverse-append}
use Rattle.std.proofs.lemmas.Option.{slice_get_within}
use mathlib.Core.List.{reverse_aux}
use Rattle.jmodel.specs.declared.typing.VType.{VType}
use Rattle.jmodel.specs.declared.typing.VType.TheVariants.{Int, Long, Second, Ref, Top}
use Rattle.objects.specs.declared.op.Sort.TheVariants as sort
use Rattle.objects.specs.declared.op.Op.{Op}
use Rattle.objects.specs.declared.op.Op.TheVariants as op
use Rattle.objects.specs.declared.op.ContextCall.TheVariants as asked
use Rattle.objects.specs.declared.op.Test.TheVariants.{Equal}
use Rattle.objects.specs.declared.op.Catches.TheVariants.{Conflict, Any}
use Rattle.objects.specs.semantics.Program.{Method, Program, has_code}
use Rattle.objects.specs.typing.TypeOrder.{throwable_class, context_class, conflict_class, name_read, AreWithin, IsWithin, IsLocals, IsLocalsAfter, IsStack, is_within}
use Rattle.objects.specs.typing.Typing.{Types, Table, types_at, Flow, Leads, flow, leaves, if_so, on_each, on_top, arguments, result_types, first_types, is_constructor, Covers, AreCaught, IsTypedAt, IsTypable}
use Rattle.objects.specs.declared.op.Dispatch.{Dispatch}
use Rattle.objects.specs.declared.op.Dispatch.TheVariants as dispatch
use Rattle.objects.specs.typing.Source.{AreParameters, AreParametersAfter, IsResult, HasObject}
use Rattle.objects.specs.rewriting.Rewriting.{spare_locals, duplicate, duplicate_name, duplicate_code, duplicate_method, typed_from, wrapper_method, invoke, result_sort, load_all, entry_code, begin_code, end_code, conflict_code, exception_code, catch}
use Rattle.objects.proofs.Places.{HasAt, has_rest, has_duplicate, get_front, get_back}
use Rattle.objects.proofs.TypingTables.{over, entry, Shape, FineFrom, fine_append, fine_typing, typed_here}

abbrev context : VType
context = Ref context_class

abbrev conflict : VType
conflict = Ref conflict_class

abbrev throwable : VType
throwable = Ref throwable_class

-- ---- lists

has_front : {A : Type 0} (xs ys zs : List A) (a : ℕ) → HasAt xs a zs → HasAt (xs ++ ys) a zs
has_front xs ys [] a h = tt
has_front xs ys (z ∷ zs) a h = (get_front xs ys a z h.0, has_front xs ys zs (a + 1) h.1)

set_back : (xs ys : List VType) (i : ℕ) (v : VType) → slice_set (xs ++ ys) (length xs + i) v ≡ xs ++ slice_set ys i v
set_back [] ys i v = let e : 0 + i ≡ i = omega arith in rw e refl
set_back (x ∷ xs) ys i v = let e : length (x ∷ xs) + i ≡ suc (length xs + i) = omega arith in rw e (ap (λ l. x ∷ l) (set_back xs ys i v))

within_append : (Q : Program) (ts us vs : List VType) → AreWithin Q ts ts → AreWithin Q us vs → AreWithin Q (ts ++ us) (ts ++ vs)
within_append Q [] us vs h g = g
within_append Q (t ∷ ts) us vs h g = (h.0, within_append Q ts us vs h.1 g)

parameter_locals : (b : Bool) (ts us : List VType) → AreParametersAfter b ts → IsLocals us → IsLocalsAfter b (ts ++ us)
parameter_locals false [] us h g = g
parameter_locals false (Int ∷ ts) us h g = parameter_locals false ts us h g
parameter_locals false (Ref n ∷ ts) us h g = parameter_locals false ts us h g
parameter_locals false (Long ∷ ts) us h g = parameter_locals true ts us h g
parameter_locals true (Second ∷ ts) us h g = parameter_locals false ts us h g
parameter_locals false (t ∷ ts) us h g = absurd h
parameter_locals true [] us h g = absurd h
parameter_locals true (t ∷ ts) us h g = absurd h

taken_each : (Q : Program) (us s : List VType) (j : List VType → Flow) → AreWithin Q us us → on_each Q us (us ++ s) j ≡ j s
taken_each Q [] s j h = refl
taken_each Q (u ∷ us) s j h = let e = h.0 in let f = taken_each Q us s j h.1 in rw (e, f) refl

taken_all : (Q : Program) (us : List VType) (j : List VType → Flow) → AreWithin Q us us → on_each Q us us j ≡ j []
taken_all Q us j h = let e = append-nil us in ap (λ (s : List VType). on_each Q us s j) (sym e) ∙ taken_each Q us [] j h

reverse_itself : (Q : Program) (us s : List VType) → AreWithin Q us us → AreWithin Q s s → AreWithin Q (reverse_aux us s) (reverse_aux us s)
reverse_itself Q [] s h g = g
reverse_itself Q (u ∷ us) s h g = reverse_itself Q us (u ∷ s) h.1 (h.0, g)

-- ---- the places behind the parameters

abbrev spare : Option VType → List VType
spare (Some Long) = Top ∷ Top ∷ []
spare t = Top ∷ []

abbrev kept : Option VType → List VType
kept (Some Long) = Long ∷ Second ∷ []
kept (Some t) = t ∷ []
kept None = Top ∷ []

abbrev thrown : Option VType → List VType
thrown (Some Long) = throwable ∷ Top ∷ []
thrown t = throwable ∷ []

-- ---- the table

module _ (ts : List VType) (r : Option VType) where
  abbrev L0 : List VType
  L0 = ts ++ Top ∷ spare r

  abbrev L : List VType
  L = ts ++ context ∷ spare r

  abbrev LK : List VType
  LK = ts ++ context ∷ kept r

  abbrev LT : List VType
  LT = ts ++ context ∷ thrown r

  abbrev opening : Table
  opening = entry L0 [] ∷ entry L0 (context ∷ []) ∷ entry L [] ∷ entry L (context ∷ []) ∷ entry L (Int ∷ context ∷ []) ∷ entry L (Int ∷ Int ∷ context ∷ []) ∷ []

  abbrev loading : List VType → List VType → Table
  loading s [] = []
  loading s (Second ∷ us) = loading (Second ∷ s) us
  loading s (t ∷ us) = entry L s ∷ loading (t ∷ s) us

  abbrev calling : List VType → Table
  calling s = entry L s ∷ entry L (context ∷ s) ∷ []

  abbrev ending : Option VType → Table
  ending None = entry L [] ∷ entry L (context ∷ []) ∷ entry L (Int ∷ []) ∷ entry L [] ∷ []
  ending (Some t) = entry L (result_types r ++ []) ∷ entry LK [] ∷ entry LK (context ∷ []) ∷ entry LK (Int ∷ []) ∷ entry LK [] ∷ entry LK (result_types r ++ []) ∷ []

  abbrev on_conflict : Table
  on_conflict = entry L (conflict ∷ []) ∷ entry L [] ∷ entry L (context ∷ []) ∷ entry L [] ∷ []

  abbrev on_exception : Table
  on_exception = entry L (throwable ∷ []) ∷ entry LT [] ∷ entry LT (context ∷ []) ∷ entry LT (Int ∷ []) ∷ entry LT [] ∷ entry LT (throwable ∷ []) ∷ []

-- what a wrapper is, by its parts
pub record IsWrapping (Q : Program) (wm : Method) (ts : List VType) (r : Option VType) (c id : ℕ) (retries : ℤ) (call : Op) : Type 0 where
  pub ops : wm.ops ≡ (((entry_code c ++ begin_code c id retries) ++ (load_all 0 ts ++ op.Load sort.Reference c ∷ call ∷ [])) ++ end_code r c) ++ conflict_code c ++ exception_code c
  pub catches : wm.catches ≡ catch 6 (8 + length (load_all 0 ts)) (8 + length (load_all 0 ts) + length (end_code r c)) Conflict ∷ catch 6 (8 + length (load_all 0 ts)) (8 + length (load_all 0 ts) + length (end_code r c) + 4) Any ∷ []
  pub size : wm.locals ≡ c + length (context ∷ spare r)
  pub max_stack : wm.max_stack ≡ max (c + 1) 3
  pub result : wm.result ≡ r
  pub plain : is_constructor wm ≡ false
  pub takes : wm.parameters ≡ ts
  pub places : wm.places ≡ c
  pub many : length ts ≡ c
  pub parameters : AreParameters ts
  pub gives : IsResult r
  -- the types of what it takes and gives, and of the transaction's objects
  pub takes_itself : AreWithin Q ts ts
  pub gives_itself : AreWithin Q (result_types r) (result_types r)
  pub context_itself : IsWithin Q context context
  pub conflict_itself : IsWithin Q conflict conflict
  pub conflict_thrown : IsWithin Q conflict throwable
  pub throwable_itself : IsWithin Q throwable throwable
  -- the call takes the parameters and the context, and gives the result
  pub calls : (pc : ℕ) → flow Q wm pc call (over (ts ++ context ∷ spare r) (context ∷ reverse ts)) ≡ leaves pc (over (ts ++ context ∷ spare r) (context ∷ reverse ts)) (result_types r ++ [])

-- the places behind the context's
record IsTail (Q : Program) (r : Option VType) (us : List VType) : Type 0 where
  many : length us ≡ length (spare r)
  locals : IsLocals us
  itself : AreWithin Q us us
  top : AreWithin Q us (spare r)

tail_spare : (Q : Program) (r : Option VType) → IsTail Q r (spare r)
tail_spare Q (Some Long) = record { many = refl; locals = tt; itself = (refl, (refl, tt)); top = (refl, (refl, tt)) }
tail_spare Q r = record { many = refl; locals = tt; itself = (refl, tt); top = (refl, tt) }

tail_kept : (Q : Program) (r : Option VType) → IsResult r → AreWithin Q (result_types r) (result_types r) → IsTail Q r (kept r)
tail_kept Q None g h = record { many = refl; locals = tt; itself = (refl, tt); top = (refl, tt) }
tail_kept Q (Some Int) g h = record { many = refl; locals = tt; itself = (refl, tt); top = (refl, tt) }
tail_kept Q (Some Long) g h = record { many = refl; locals = tt; itself = (refl, (refl, tt)); top = (refl, (refl, tt)) }
tail_kept Q (Some (Ref n)) g h = record { many = refl; locals = tt; itself = (h.0, tt); top = (refl, tt) }
tail_kept Q (Some t) g h = absurd g

tail_thrown : (Q : Program) (r : Option VType) → IsWithin Q throwable throwable → IsTail Q r (thrown r)
tail_thrown Q (Some Long) h = record { many = refl; locals = tt; itself = (h, (refl, tt)); top = (refl, (refl, tt)) }
tail_thrown Q r h = record { many = refl; locals = tt; itself = (h, tt); top = (refl, tt) }

spare_first : (r : Option VType) → slice_get (spare r) 0 ≡ Some Top
spare_first (Some Long) = refl
spare_first r = refl

spare_thrown : (r : Option VType) → slice_set (spare r) 0 throwable ≡ thrown r
spare_thrown (Some Long) = refl
spare_thrown r = refl

thrown_first : (r : Option VType) → slice_get (thrown r) 0 ≡ Some throwable
thrown_first (Some Long) = refl
thrown_first r = refl

-- the result on the stack
record IsOnStack (Q : Program) (s : List VType) : Type 0 where
  stack : IsStack s
  itself : AreWithin Q s s
  few : length s ≤ 2

result_stack : (Q : Program) (r : Option VType) → IsResult r → AreWithin Q (result_types r) (result_types r) → IsOnStack Q (result_types r ++ [])
result_stack Q None g h = record { stack = tt; itself = tt; few = omega arith }
result_stack Q (Some Int) g h = record { stack = tt; itself = (refl, tt); few = omega arith }
result_stack Q (Some Long) g h = record { stack = tt; itself = (refl, (refl, tt)); few = omega arith }
result_stack Q (Some (Ref n)) g h = record { stack = tt; itself = (h.0, tt); few = omega arith }
result_stack Q (Some t) g h = absurd g

module _ (Q : Program) (wm : Method) (ts : List VType) (r : Option VType) (c id : ℕ) (retries : ℤ) (call : Op) (W : IsWrapping Q wm ts r c id retries call) where
  abbrev loads : List Op
  loads = load_all 0 ts

  abbrev n : ℕ
  n = length loads

  abbrev z : ℕ
  z = 8 + n + length (end_code r c)

  abbrev caller : List Op
  caller = op.Load sort.Reference c ∷ call ∷ []

  abbrev V : Table
  V = (((opening ts r ++ (loading ts r [] ts ++ calling ts r (reverse ts))) ++ ending ts r r) ++ on_conflict ts r) ++ on_exception ts r

  -- ---- where the parts stand

  loading_length : (i : ℕ) (s us : List VType) → length (loading ts r s us) ≡ length (load_all i us)
  loading_length i s [] = refl
  loading_length i s (Int ∷ us) = ap suc (loading_length (suc i) (Int ∷ s) us)
  loading_length i s (Long ∷ us) = ap suc (loading_length (suc i) (Long ∷ s) us)
  loading_length i s (Second ∷ us) = loading_length (suc i) (Second ∷ s) us
  loading_length i s (t ∷ us) = ap suc (loading_length (suc i) (t ∷ s) us)

  ending_length : (x : Option VType) → length (ending ts r x) ≡ length (end_code x c)
  ending_length None = refl
  ending_length (Some t) = refl

  -- five parts one after another
  module _ {A : Type 0} (xs ys zs us vs : List A) where
    abbrev all : List A
    all = (((xs ++ ys) ++ zs) ++ us) ++ vs

    part_one : HasAt all 0 xs
    part_one = has_front (((xs ++ ys) ++ zs) ++ us) vs xs 0 (has_front ((xs ++ ys) ++ zs) us xs 0 (has_front (xs ++ ys) zs xs 0 (has_front xs ys xs 0 (has_rest [] xs))))

    part_two : HasAt all (length xs) ys
    part_two = has_front (((xs ++ ys) ++ zs) ++ us) vs ys _ (has_front ((xs ++ ys) ++ zs) us ys _ (has_front (xs ++ ys) zs ys _ (has_rest xs ys)))

    part_three : HasAt all (length (xs ++ ys)) zs
    part_three = has_front (((xs ++ ys) ++ zs) ++ us) vs zs _ (has_front ((xs ++ ys) ++ zs) us zs _ (has_rest (xs ++ ys) zs))

    part_four : HasAt all (length ((xs ++ ys) ++ zs)) us
    part_four = has_front (((xs ++ ys) ++ zs) ++ us) vs us _ (has_rest ((xs ++ ys) ++ zs) us)

    part_five : HasAt all (length (((xs ++ ys) ++ zs) ++ us)) vs
    part_five = has_rest (((xs ++ ys) ++ zs) ++ us) vs

  abbrev head : List Op
  head = entry_code c ++ begin_code c id retries

  two_ops : length (head ++ (loads ++ caller)) ≡ 8 + n
  two_ops = omega (arith, length-append loads caller)

  three_ops : length ((head ++ (loads ++ caller)) ++ end_code r c) ≡ z
  three_ops = omega (arith, two_ops, length-append (head ++ (loads ++ caller)) (end_code r c))

  four_ops : length (((head ++ (loads ++ caller)) ++ end_code r c) ++ conflict_code c) ≡ z + 4
  four_ops = omega (arith, three_ops, length-append ((head ++ (loads ++ caller)) ++ end_code r c) (conflict_code c))

  abbrev code : List Op
  code = all head (loads ++ caller) (end_code r c) (conflict_code c) (exception_code c)

  abbrev Code : ℕ → List Op → Type 0
  Code p os = HasAt wm.ops p os

  at_head : Code 0 head
  at_head = subst (λ os. HasAt os 0 head) (sym W.ops) (part_one head (loads ++ caller) (end_code r c) (conflict_code c) (exception_code c))

  at_body : Code 6 (loads ++ caller)
  at_body = subst (λ os. HasAt os 6 (loads ++ caller)) (sym W.ops) (part_two head (loads ++ caller) (end_code r c) (conflict_code c) (exception_code c))

  at_end : Code (8 + n) (end_code r c)
  at_end = subst (λ os. HasAt os (8 + n) (end_code r c)) (sym W.ops) (subst (λ p. HasAt code p (end_code r c)) two_ops (part_three head (loads ++ caller) (end_code r c) (conflict_code c) (exception_code c)))

  at_conflict : Code z (conflict_code c)
  at_conflict = subst (λ os. HasAt os z (conflict_code c)) (sym W.ops) (subst (λ p. HasAt code p (conflict_code c)) three_ops (part_four head (loads ++ caller) (end_code r c) (conflict_code c) (exception_code c)))

  at_exception : Code (z + 4) (exception_code c)
  at_exception = subst (λ os. HasAt os (z + 4) (exception_code c)) (sym W.ops) (subst (λ p. HasAt code p (exception_code c)) four_ops (part_five head (loads ++ caller) (end_code r c) (conflict_code c) (exception_code c)))

  -- so the parts of the table
  abbrev body : Table
  body = loading ts r [] ts ++ calling ts r (reverse ts)

  two_types : length (opening ts r ++ body) ≡ 8 + n
  two_types = omega (arith, loading_length 0 [] ts, length-append (loading ts r [] ts) (calling ts r (reverse ts)))

  three_types : length ((opening ts r ++ body) ++ ending ts r r) ≡ z
  three_types = omega (arith, two_types, ending_length r, length-append (opening ts r ++ body) (ending ts r r))

  four_types : length (((opening ts r ++ body) ++ ending ts r r) ++ on_conflict ts r) ≡ z + 4
  four_types = omega (arith, three_types, length-append ((opening ts r ++ body) ++ ending ts r r) (on_conflict ts r))

  types_head : HasAt V 0 (opening ts r)
  types_head = part_one (opening ts r) body (ending ts r r) (on_conflict ts r) (on_exception ts r)

  types_body : HasAt V 6 body
  types_body = part_two (opening ts r) body (ending ts r r) (on_conflict ts r) (on_exception ts r)

  types_end : HasAt V (8 + n) (ending ts r r)
  types_end = subst (λ p. HasAt V p (ending ts r r)) two_types (part_three (opening ts r) body (ending ts r r) (on_conflict ts r) (on_exception ts r))

  types_conflict : HasAt V z (on_conflict ts r)
  types_conflict = subst (λ p. HasAt V p (on_conflict ts r)) three_types (part_four (opening ts r) body (ending ts r r) (on_conflict ts r) (on_exception ts r))

  types_exception : HasAt V (z + 4) (on_exception ts r)
  types_exception = subst (λ p. HasAt V p (on_exception ts r)) four_types (part_five (opening ts r) body (ending ts r r) (on_conflict ts r) (on_exception ts r))

  -- ---- locals

  get_context : (x : VType) (us : List VType) → slice_get (ts ++ x ∷ us) c ≡ Some x
  get_context x us = let m = W.many in let e : c ≡ length ts + 0 = omega arith in ap (slice_get (ts ++ x ∷ us)) e ∙ get_back ts (x ∷ us) 0

  get_first : (x : VType) (us : List VType) → slice_get (ts ++ x ∷ us) (c + 1) ≡ slice_get us 0
  get_first x us = let m = W.many in let e : c + 1 ≡ length ts + 1 = omega arith in ap (slice_get (ts ++ x ∷ us)) e ∙ get_back ts (x ∷ us) 1

  get_second : (x : VType) (us : List VType) → slice_get (ts ++ x ∷ us) (c + 1 + 1) ≡ slice_get us 1
  get_second x us = let m = W.many in let e : c + 1 + 1 ≡ length ts + 2 = omega arith in ap (slice_get (ts ++ x ∷ us)) e ∙ get_back ts (x ∷ us) 2

  set_context : (x v : VType) (us : List VType) → slice_set (ts ++ x ∷ us) c v ≡ ts ++ v ∷ us
  set_context x v us = let m = W.many in let e : c ≡ length ts + 0 = omega arith in ap (λ i. slice_set (ts ++ x ∷ us) i v) e ∙ set_back ts (x ∷ us) 0 v

  set_first : (x v : VType) (us : List VType) → slice_set (ts ++ x ∷ us) (c + 1) v ≡ ts ++ x ∷ slice_set us 0 v
  set_first x v us = let m = W.many in let e : c + 1 ≡ length ts + 1 = omega arith in ap (λ i. slice_set (ts ++ x ∷ us) i v) e ∙ set_back ts (x ∷ us) 1 v

  set_second : (x v : VType) (us : List VType) → slice_set (ts ++ x ∷ us) (c + 1 + 1) v ≡ ts ++ x ∷ slice_set us 1 v
  set_second x v us = let m = W.many in let e : c + 1 + 1 ≡ length ts + 2 = omega arith in ap (λ i. slice_set (ts ++ x ∷ us) i v) e ∙ set_back ts (x ∷ us) 2 v

  size_of : (us : List VType) → length (ts ++ us) ≡ c + length us
  size_of us = let m = W.many in omega (arith, length-append ts us)

  room_at : (i : ℕ) (us : List VType) → i < length us → nat_lt (c + i) (length (ts ++ us)) ≡ true
  room_at i us h = let e = size_of us in let lt : c + i < length (ts ++ us) = omega (arith, e, h) in grind (arith, nat_tests)

  some_spare : 1 ≤ length (spare r)
  some_spare = go r
    where
      go : (x : Option VType) → 1 ≤ length (spare x)
      go (Some Long) = omega arith
      go x = omega arith

  small : (i : ℕ) → i ≤ 3 → i ≤ wm.max_stack
  small i h = let e = W.max_stack in let l : i ≤ max (c + 1) 3 = omega (arith, h) in omega (arith, e, l)

  shape : (x : VType) (us s : List VType) → IsLocals (x ∷ us) → length us ≡ length (spare r) → length s ≤ wm.max_stack → IsStack s → Shape wm (over (ts ++ x ∷ us) s)
  shape x us s locals many room stack = record {
    locals = let e = size_of (x ∷ us) in let f = W.size in omega (arith, e, f, many);
    each_local = parameter_locals false ts (x ∷ us) W.parameters locals;
    room = room;
    stack = stack;
  }

  -- ---- exceptions

  there : (pc : ℕ) (l s : List VType) → slice_get V pc ≡ Some (entry l s) → types_at V pc ≡ Some (over l s)
  there pc l s e = rw e refl

  within : (us : List VType) → IsTail Q r us → AreWithin Q (ts ++ context ∷ us) (L ts r)
  within us t = within_append Q ts (context ∷ us) (context ∷ spare r) W.takes_itself (W.context_itself, t.top)

  itself : (us : List VType) → IsTail Q r us → AreWithin Q (ts ++ context ∷ us) (ts ++ context ∷ us)
  itself us t = within_append Q ts (context ∷ us) (context ∷ us) W.takes_itself (W.context_itself, t.itself)

  caught : (pc : ℕ) (us : List VType) → IsTail Q r us → AreCaught Q wm V pc (ts ++ context ∷ us) true wm.catches
  caught pc us t = subst (AreCaught Q wm V pc (ts ++ context ∷ us) true) (sym W.catches) (
    λ i. (W.conflict_thrown, record { inside = slice_get_within wm.ops z _ at_conflict.0; types = over (L ts r) (conflict ∷ []); there = there z _ _ types_conflict.0; fits = record { locals = within us t; stack = (W.conflict_itself, tt); built = λ b. b } }),
    (
      λ i. (W.throwable_itself, record { inside = slice_get_within wm.ops (z + 4) _ at_exception.0; types = over (L ts r) (throwable ∷ []); there = there (z + 4) _ _ types_exception.0; fits = record { locals = within us t; stack = (W.throwable_itself, tt); built = λ b. b } }),
      tt,
    ),
  )

  uncaught : (pc : ℕ) (l : List VType) → (nat_le 6 pc && nat_lt pc (8 + n)) ≡ false → AreCaught Q wm V pc l true wm.catches
  uncaught pc l e = subst (AreCaught Q wm V pc l true) (sym W.catches) (λ i. absurd (cc (i, e)), (λ i. absurd (cc (i, e)), tt))

  -- ---- steps

  falls : (pc : ℕ) (o next : Op) (l l' s s' : List VType) → slice_get wm.ops pc ≡ Some o → slice_get wm.ops (pc + 1) ≡ Some next → flow Q wm pc o (over l s) ≡ Leads ((pc + 1) ∷ []) (over l' s')
      → slice_get V (pc + 1) ≡ Some (entry l' s') → Shape wm (over l s) → length s' ≤ wm.max_stack → AreWithin Q l' l' → AreWithin Q s' s'
      → AreCaught Q wm V pc l true wm.catches → AreCaught Q wm V pc l' true wm.catches → IsTypedAt Q wm V pc (over l s)
  falls pc o next l l' s s' is follows leads typed x room self self' before after =
      typed_here Q wm V pc (over l s) o ((pc + 1) ∷ []) (over l' s') is leads x room
      (record { inside = slice_get_within wm.ops (pc + 1) next follows; types = over l' s'; there = there (pc + 1) l' s' typed; fits = record { locals = self; stack = self'; built = λ b. b } }, tt) before after

  -- where the context is a local
  goes_on : (pc : ℕ) (o next : Op) (us us' s s' : List VType) → IsTail Q r us → IsTail Q r us' → slice_get wm.ops pc ≡ Some o → slice_get wm.ops (pc + 1) ≡ Some next
      → flow Q wm pc o (over (ts ++ context ∷ us) s) ≡ Leads ((pc + 1) ∷ []) (over (ts ++ context ∷ us') s') → slice_get V (pc + 1) ≡ Some (entry (ts ++ context ∷ us') s')
      → IsStack s → length s ≤ wm.max_stack → length s' ≤ wm.max_stack → AreWithin Q s' s' → IsTypedAt Q wm V pc (over (ts ++ context ∷ us) s)
  goes_on pc o next us us' s s' t t' is follows leads typed stack room room' self =
      falls pc o next (ts ++ context ∷ us) (ts ++ context ∷ us') s s' is follows leads typed (shape context us s t.locals t.many room stack) room' (itself us' t') self (caught pc us t) (caught pc us' t')

  -- back to an attempt's beginning, or on
  begins : (us : List VType) → IsTail Q r us → Covers Q wm V (over (ts ++ context ∷ us) []) 2
  begins us t = record { inside = slice_get_within wm.ops 2 _ at_head.1.1.0; types = over (L ts r) []; there = there 2 _ _ types_head.1.1.0; fits = record { locals = within us t; stack = tt; built = λ b. b } }

  again : (pc : ℕ) (next : Op) (us : List VType) → IsTail Q r us → slice_get wm.ops pc ≡ Some (op.Branch Equal 2) → slice_get wm.ops (pc + 1) ≡ Some next → slice_get V (pc + 1) ≡ Some (entry (ts ++ context ∷ us) [])
      → IsTypedAt Q wm V pc (over (ts ++ context ∷ us) (Int ∷ []))
  again pc next us t is follows typed =
      typed_here Q wm V pc _ _ ((pc + 1) ∷ 2 ∷ []) (over (ts ++ context ∷ us) []) is refl (shape context us (Int ∷ []) t.locals t.many (small 1 (omega arith)) tt) (small 0 (omega arith))
      (record { inside = slice_get_within wm.ops (pc + 1) next follows; types = over (ts ++ context ∷ us) []; there = there (pc + 1) _ _ typed; fits = record { locals = itself us t; stack = tt; built = λ b. b } }, (begins us t, tt))
      (caught pc us t) (caught pc us t)

  leaves_it : (pc : ℕ) (o : Op) (us s : List VType) → IsTail Q r us → slice_get wm.ops pc ≡ Some o → flow Q wm pc o (over (ts ++ context ∷ us) s) ≡ Leads [] (over (ts ++ context ∷ us) [])
      → IsStack s → length s ≤ wm.max_stack → IsTypedAt Q wm V pc (over (ts ++ context ∷ us) s)
  leaves_it pc o us s t is leads stack room =
      typed_here Q wm V pc _ o [] (over (ts ++ context ∷ us) []) is leads (shape context us s t.locals t.many room stack) (small 0 (omega arith)) tt (caught pc us t) (caught pc us t)

  con : IsWithin Q context context
  con = W.context_itself

  loads_context : (pc : ℕ) (us s : List VType) → flow Q wm pc (op.Load sort.Reference c) (over (ts ++ context ∷ us) s) ≡ Leads ((pc + 1) ∷ []) (over (ts ++ context ∷ us) (context ∷ s))
  loads_context pc us s = let e = get_context context us in rw e refl

  commits : (pc : ℕ) (us : List VType) → flow Q wm pc (op.Context asked.Commit) (over (ts ++ context ∷ us) (context ∷ [])) ≡ Leads ((pc + 1) ∷ []) (over (ts ++ context ∷ us) (Int ∷ []))
  commits pc us = let e = con in rw e refl

  -- ---- the loads of the parameters, and the call

  record Next (p : ℕ) (s : List VType) : Type 0 where
    op : Op
    code : slice_get wm.ops p ≡ Some op
    types : slice_get V p ≡ Some (entry (L ts r) s)

  next_of : (i p : ℕ) (s us : List VType) → AreParameters us → Code p (load_all i us ++ caller) → HasAt V p (loading ts r s us ++ calling ts r (reverse_aux us s)) → Next p s
  next_of i p s [] x C S = record { op = _; code = C.0; types = S.0 }
  next_of i p s (Int ∷ us) x C S = record { op = _; code = C.0; types = S.0 }
  next_of i p s (Long ∷ us) x C S = record { op = _; code = C.0; types = S.0 }
  next_of i p s (Ref m ∷ us) x C S = record { op = _; code = C.0; types = S.0 }
  next_of i p s (t ∷ us) x C S = absurd x

  end_next : Next (8 + n) (result_types r ++ [])
  end_next = go r refl
    where
      go : (x : Option VType) → r ≡ x → Next (8 + n) (result_types r ++ [])
      go None e = record {
        op = _;
        code = (subst (λ (x : Option VType). HasAt wm.ops (8 + n) (end_code x c)) e at_end).0;
        types = (subst (λ (x : Option VType). HasAt V (8 + n) (ending ts r x)) e types_end).0 ∙ ap (λ (x : Option VType). Some (entry (L ts r) (result_types x ++ []))) (sym e);
      }
      go (Some t) e = record {
        op = _;
        code = (subst (λ (x : Option VType). HasAt wm.ops (8 + n) (end_code x c)) e at_end).0;
        types = (subst (λ (x : Option VType). HasAt V (8 + n) (ending ts r x)) e types_end).0;
      }

  spares : IsTail Q r (spare r)
  spares = tail_spare Q r

  results : IsOnStack Q (result_types r ++ [])
  results = result_stack Q r W.gives W.gives_itself

  in_front : (pre us : List VType) (t : VType) (rest : List VType) → ts ≡ pre ++ t ∷ us → slice_get (ts ++ rest) (length pre) ≡ Some t
  in_front pre us t rest e =
      let z : length pre + 0 ≡ length pre = omega arith in
      get_front ts rest (length pre) t (ap (λ (l : List VType). slice_get l (length pre)) e ∙ ap (slice_get (pre ++ t ∷ us)) (sym z) ∙ get_back pre (t ∷ us) 0)

  step_in : (i : ℕ) (us pre : List VType) (t : VType) → ts ≡ pre ++ t ∷ us → ts ≡ (pre ++ t ∷ []) ++ us
  step_in i us pre t e = e ∙ sym (append_assoc pre (t ∷ []) us)

  one_longer : (pre : List VType) (t : VType) → length (pre ++ t ∷ []) ≡ suc (length pre)
  one_longer pre t = omega (arith, length-append pre (t ∷ []))

  fine_loading : (pre us s : List VType) (p : ℕ) → ts ≡ pre ++ us → length pre + length us ≡ c → length s ≡ length pre → AreParameters us → AreWithin Q us us → IsStack s → AreWithin Q s s → p + length (load_all (length pre) us) ≡ 6 + n
      → reverse_aux us s ≡ reverse ts → Code p (load_all (length pre) us ++ caller) → HasAt V p (loading ts r s us ++ calling ts r (reverse_aux us s)) → FineFrom Q wm V p (loading ts r s us ++ calling ts r (reverse_aux us s))
  fine_loading pre [] s p e whole many x self stack selves place turned C S =
      let room : length s ≤ wm.max_stack = let f = W.max_stack in omega (arith, f, whole, many) in
      let room' : suc (length s) ≤ wm.max_stack = let f = W.max_stack in omega (arith, f, whole, many) in
      let room2 : length (result_types r ++ []) ≤ wm.max_stack = let f = W.max_stack in let g = results.few in omega (arith, f, g) in
      let z : 8 + n ≡ p + 1 + 1 = omega (arith, place) in
      let next : slice_get wm.ops (p + 1 + 1) ≡ Some end_next.op = subst (λ (i : ℕ). slice_get wm.ops i ≡ Some end_next.op) z end_next.code in
      let typed : slice_get V (p + 1 + 1) ≡ Some (entry (L ts r) (result_types r ++ [])) = subst (λ (i : ℕ). slice_get V i ≡ Some (entry (L ts r) (result_types r ++ []))) z end_next.types in
      let calls : flow Q wm (p + 1) call (over (L ts r) (context ∷ s)) ≡ Leads ((p + 1 + 1) ∷ []) (over (L ts r) (result_types r ++ [])) = subst (λ (s : List VType). flow Q wm (p + 1) call (over (L ts r) (context ∷ s)) ≡ Leads ((p + 1 + 1) ∷ []) (over (L ts r) (result_types r ++ []))) (sym turned) (W.calls (p + 1)) in (
        goes_on p _ call (spare r) (spare r) s (context ∷ s) spares spares C.0 C.1.0 (loads_context p (spare r) s) S.1.0 stack room room' (con, selves),
        (
          goes_on (p + 1) call end_next.op (spare r) (spare r) (context ∷ s) (result_types r ++ []) spares spares C.1.0 next calls typed stack room' room2 results.itself,
          tt,
        ),
      )
  fine_loading pre (Int ∷ us) s p e whole many x self stack selves place turned C S =
      let m = W.max_stack in
      let N = next_of (suc (length pre)) (p + 1) (Int ∷ s) us x C.1 S.1 in
      let there = in_front pre us Int (context ∷ spare r) e in
      let l = one_longer pre Int in (
        goes_on p _ N.op (spare r) (spare r) s (Int ∷ s) spares spares C.0 N.code (rw there refl) N.types stack (omega (arith, m, whole, many)) (omega (arith, m, whole, many)) (refl, selves),
        fine_loading (pre ++ Int ∷ []) us (Int ∷ s) (p + 1) (step_in 0 us pre Int e) (omega (arith, l, whole)) (omega (arith, l, many)) x self.1 stack (refl, selves)
            (let q : p + 1 + length (load_all (suc (length pre)) us) ≡ 6 + n = omega (arith, place) in rw l q) turned (rw l C.1) S.1,
      )
  fine_loading pre (Ref y ∷ us) s p e whole many x self stack selves place turned C S =
      let m = W.max_stack in
      let N = next_of (suc (length pre)) (p + 1) (Ref y ∷ s) us x C.1 S.1 in
      let there = in_front pre us (Ref y) (context ∷ spare r) e in
      let l = one_longer pre (Ref y) in (
        goes_on p _ N.op (spare r) (spare r) s (Ref y ∷ s) spares spares C.0 N.code (rw there refl) N.types stack (omega (arith, m, whole, many)) (omega (arith, m, whole, many)) (self.0, selves),
        fine_loading (pre ++ Ref y ∷ []) us (Ref y ∷ s) (p + 1) (step_in 0 us pre (Ref y) e) (omega (arith, l, whole)) (omega (arith, l, many)) x self.1 stack (self.0, selves)
            (let q : p + 1 + length (load_all (suc (length pre)) us) ≡ 6 + n = omega (arith, place) in rw l q) turned (rw l C.1) S.1,
      )
  fine_loading pre (Long ∷ Second ∷ us) s p e whole many x self stack selves place turned C S =
      let m = W.max_stack in
      let N = next_of (suc (suc (length pre))) (p + 1) (Second ∷ Long ∷ s) us x C.1 S.1 in
      let there = in_front pre (Second ∷ us) Long (context ∷ spare r) e in
      let l = one_longer pre Long in
      let e' = step_in 0 (Second ∷ us) pre Long e in
      let k = one_longer (pre ++ Long ∷ []) Second in
      let z : length pre + 1 ≡ length (pre ++ Long ∷ []) = omega (arith, l) in
      let beside : slice_get (ts ++ context ∷ spare r) (length pre + 1) ≡ Some Second = ap (slice_get (ts ++ context ∷ spare r)) z ∙ in_front (pre ++ Long ∷ []) us Second (context ∷ spare r) e' in
      let w : length ((pre ++ Long ∷ []) ++ Second ∷ []) ≡ suc (suc (length pre)) = omega (arith, l, k) in (
        goes_on p _ N.op (spare r) (spare r) s (Second ∷ Long ∷ s) spares spares C.0 N.code (rw (there, beside) refl) N.types stack (omega (arith, m, whole, many)) (omega (arith, m, whole, many)) (refl, (refl, selves)),
        fine_loading ((pre ++ Long ∷ []) ++ Second ∷ []) us (Second ∷ Long ∷ s) (p + 1) (step_in 0 us (pre ++ Long ∷ []) Second e') (omega (arith, w, whole)) (omega (arith, w, many)) x self.1.1 stack (refl, (refl, selves))
            (let q : p + 1 + length (load_all (suc (suc (length pre))) us) ≡ 6 + n = omega (arith, place) in rw w q) turned (rw w C.1) S.1,
      )
  fine_loading pre (t ∷ us) s p e whole many x self stack selves place turned C S = absurd x

  fine_body : FineFrom Q wm V 6 body
  fine_body = fine_loading [] ts [] 6 refl (let m = W.many in omega (arith, m)) refl W.parameters W.takes_itself tt tt refl refl at_body types_body

  fine_opening : FineFrom Q wm V 0 (opening ts r)
  fine_opening =
      let a = room_at 0 (Top ∷ spare r) (omega arith) in
      let z : c + 0 ≡ c = omega arith in
      let a' : nat_lt c (length (ts ++ Top ∷ spare r)) ≡ true = ap (λ i. nat_lt i (length (ts ++ Top ∷ spare r))) (sym z) ∙ a in
      let b = get_context Top (spare r) in
      let d = set_context Top context (spare r) in
      let e = con in
      let r0 = small 0 (omega arith) in let r1 = small 1 (omega arith) in let r2 = small 2 (omega arith) in let r3 = small 3 (omega arith) in
      let self0 = within_append Q ts (Top ∷ spare r) (Top ∷ spare r) W.takes_itself (refl, spares.itself) in
      let stored : flow Q wm 1 (op.Store sort.Reference c) (over (L0 ts r) (context ∷ [])) ≡ Leads (2 ∷ []) (over (L ts r) []) = rw (a', b, d) refl in
      let N = next_of 0 6 [] ts W.parameters at_body types_body in
      let H = at_head in let S = types_head in (
        falls 0 _ _ (L0 ts r) (L0 ts r) [] (context ∷ []) H.0 H.1.0 refl S.1.0 (shape Top (spare r) [] spares.locals refl r0 tt) r1 self0 (e, tt) (uncaught 0 _ refl) (uncaught 0 _ refl),
        (
          falls 1 _ _ (L0 ts r) (L ts r) (context ∷ []) [] H.1.0 H.1.1.0 stored S.1.1.0 (shape Top (spare r) (context ∷ []) spares.locals refl r1 tt) r0 (itself (spare r) spares) tt (uncaught 1 _ refl) (uncaught 1 _ refl),
          (
            goes_on 2 _ _ (spare r) (spare r) [] (context ∷ []) spares spares H.1.1.0 H.1.1.1.0 (loads_context 2 (spare r) []) S.1.1.1.0 tt r0 r1 (e, tt),
            (
              goes_on 3 _ _ (spare r) (spare r) (context ∷ []) (Int ∷ context ∷ []) spares spares H.1.1.1.0 H.1.1.1.1.0 refl S.1.1.1.1.0 tt r1 r2 (refl, (e, tt)),
              (
                goes_on 4 _ _ (spare r) (spare r) (Int ∷ context ∷ []) (Int ∷ Int ∷ context ∷ []) spares spares H.1.1.1.1.0 H.1.1.1.1.1.0 refl S.1.1.1.1.1.0 tt r2 r3 (refl, (refl, (e, tt))),
                (
                  goes_on 5 _ N.op (spare r) (spare r) (Int ∷ Int ∷ context ∷ []) [] spares spares H.1.1.1.1.1.0 N.code (rw e refl) N.types tt r3 r0 tt,
                  tt,
                ),
              ),
            ),
          ),
        ),
      )

  fine_conflict : FineFrom Q wm V z (on_conflict ts r)
  fine_conflict =
      let C = at_conflict in let S = types_conflict in
      let e = con in
      let r0 = small 0 (omega arith) in let r1 = small 1 (omega arith) in (
        goes_on z _ _ (spare r) (spare r) (conflict ∷ []) [] spares spares C.0 C.1.0 refl S.1.0 tt r1 r0 tt,
        (
          goes_on (z + 1) _ _ (spare r) (spare r) [] (context ∷ []) spares spares C.1.0 C.1.1.0 (loads_context (z + 1) (spare r) []) S.1.1.0 tt r0 r1 (e, tt),
          (
            goes_on (z + 1 + 1) _ _ (spare r) (spare r) (context ∷ []) [] spares spares C.1.1.0 C.1.1.1.0 (rw e refl) S.1.1.1.0 tt r1 r0 tt,
            (
              typed_here Q wm V (z + 1 + 1 + 1) (over (L ts r) []) _ (2 ∷ []) (over (L ts r) []) C.1.1.1.0 refl (shape context (spare r) [] spares.locals refl r0 tt) r0 (begins (spare r) spares, tt)
                  (caught (z + 1 + 1 + 1) (spare r) spares) (caught (z + 1 + 1 + 1) (spare r) spares),
              tt,
            ),
          ),
        ),
      )

  throws : IsTail Q r (thrown r)
  throws = tail_thrown Q r W.throwable_itself

  fine_exception : FineFrom Q wm V (z + 4) (on_exception ts r)
  fine_exception =
      let C = at_exception in let S = types_exception in
      let e = con in let y = W.throwable_itself in
      let r0 = small 0 (omega arith) in let r1 = small 1 (omega arith) in
      let lt : 1 < length (context ∷ spare r) = let f = some_spare in omega (arith, f) in
      let a = room_at 1 (context ∷ spare r) lt in
      let b = get_first context (spare r) ∙ spare_first r in
      let d = set_first context throwable (spare r) ∙ ap (λ us. ts ++ context ∷ us) (spare_thrown r) in
      let g = get_first context (thrown r) ∙ thrown_first r in
      let p = z + 4 in (
        goes_on p _ _ (spare r) (thrown r) (throwable ∷ []) [] spares throws C.0 C.1.0 (rw (a, b, d) refl) S.1.0 tt r1 r0 tt,
        (
          goes_on (p + 1) _ _ (thrown r) (thrown r) [] (context ∷ []) throws throws C.1.0 C.1.1.0 (loads_context (p + 1) (thrown r) []) S.1.1.0 tt r0 r1 (e, tt),
          (
            goes_on (p + 1 + 1) _ _ (thrown r) (thrown r) (context ∷ []) (Int ∷ []) throws throws C.1.1.0 C.1.1.1.0 (commits (p + 1 + 1) (thrown r)) S.1.1.1.0 tt r1 r1 (refl, tt),
            (
              again (p + 1 + 1 + 1) _ (thrown r) throws C.1.1.1.0 C.1.1.1.1.0 S.1.1.1.1.0,
              (
                goes_on (p + 1 + 1 + 1 + 1) _ _ (thrown r) (thrown r) [] (throwable ∷ []) throws throws C.1.1.1.1.0 C.1.1.1.1.1.0 (rw g refl) S.1.1.1.1.1.0 tt r0 r1 (y, tt),
                (
                  leaves_it (p + 1 + 1 + 1 + 1 + 1) _ (thrown r) (throwable ∷ []) throws C.1.1.1.1.1.0 (rw y refl) tt r1,
                  tt,
                ),
              ),
            ),
          ),
        ),
      )

  -- ---- the end, where the method gives a value, and where it gives none

  record Ends (t : VType) : Type 0 where
    stores : (pc : ℕ) → flow Q wm pc (op.Store (result_sort t) (c + 1)) (over (L ts r) (result_types r ++ [])) ≡ Leads ((pc + 1) ∷ []) (over (LK ts r) [])
    loads : (pc : ℕ) → flow Q wm pc (op.Load (result_sort t) (c + 1)) (over (LK ts r) []) ≡ Leads ((pc + 1) ∷ []) (over (LK ts r) (result_types r ++ []))
    returns : (pc : ℕ) → flow Q wm pc (op.ReturnValue (result_sort t)) (over (LK ts r) (result_types r ++ [])) ≡ Leads [] (over (LK ts r) [])

  keeps : IsTail Q r (kept r)
  keeps = tail_kept Q r W.gives W.gives_itself

  fine_value : (t : VType) → r ≡ Some t → Ends t → FineFrom Q wm V (8 + n) (ending ts r r)
  fine_value t is E = subst (λ (x : Option VType). FineFrom Q wm V (8 + n) (ending ts r x)) (sym is) (
      let C = subst (λ (x : Option VType). HasAt wm.ops (8 + n) (end_code x c)) is at_end in
      let S = subst (λ (x : Option VType). HasAt V (8 + n) (ending ts r x)) is types_end in
      let e = con in
      let r0 = small 0 (omega arith) in let r1 = small 1 (omega arith) in
      let few : length (result_types r ++ []) ≤ 3 = let f = results.few in omega (arith, f) in
      let r2 = small (length (result_types r ++ [])) few in
      let p = 8 + n in (
        goes_on p _ _ (spare r) (kept r) (result_types r ++ []) [] spares keeps C.0 C.1.0 (E.stores p) S.1.0 results.stack r2 r0 tt,
        (
          goes_on (p + 1) _ _ (kept r) (kept r) [] (context ∷ []) keeps keeps C.1.0 C.1.1.0 (loads_context (p + 1) (kept r) []) S.1.1.0 tt r0 r1 (e, tt),
          (
            goes_on (p + 1 + 1) _ _ (kept r) (kept r) (context ∷ []) (Int ∷ []) keeps keeps C.1.1.0 C.1.1.1.0 (commits (p + 1 + 1) (kept r)) S.1.1.1.0 tt r1 r1 (refl, tt),
            (
              again (p + 1 + 1 + 1) _ (kept r) keeps C.1.1.1.0 C.1.1.1.1.0 S.1.1.1.1.0,
              (
                goes_on (p + 1 + 1 + 1 + 1) _ _ (kept r) (kept r) [] (result_types r ++ []) keeps keeps C.1.1.1.1.0 C.1.1.1.1.1.0 (E.loads (p + 1 + 1 + 1 + 1)) S.1.1.1.1.1.0 tt r0 r2 results.itself,
                (
                  leaves_it (p + 1 + 1 + 1 + 1 + 1) _ (kept r) (result_types r ++ []) keeps C.1.1.1.1.1.0 (E.returns (p + 1 + 1 + 1 + 1 + 1)) results.stack r2,
                  tt,
                ),
              ),
            ),
          ),
        ),
      ))

  fine_bare : r ≡ None → FineFrom Q wm V (8 + n) (ending ts r r)
  fine_bare is = subst (λ (x : Option VType). FineFrom Q wm V (8 + n) (ending ts r x)) (sym is) (
      let C = subst (λ (x : Option VType). HasAt wm.ops (8 + n) (end_code x c)) is at_end in
      let S = subst (λ (x : Option VType). HasAt V (8 + n) (ending ts r x)) is types_end in
      let e = con in
      let gives : wm.result ≡ None = W.result ∙ is in
      let plain = W.plain in
      let r0 = small 0 (omega arith) in let r1 = small 1 (omega arith) in
      let p = 8 + n in (
        goes_on p _ _ (spare r) (spare r) [] (context ∷ []) spares spares C.0 C.1.0 (loads_context p (spare r) []) S.1.0 tt r0 r1 (e, tt),
        (
          goes_on (p + 1) _ _ (spare r) (spare r) (context ∷ []) (Int ∷ []) spares spares C.1.0 C.1.1.0 (commits (p + 1) (spare r)) S.1.1.0 tt r1 r1 (refl, tt),
          (
            again (p + 1 + 1) _ (spare r) spares C.1.1.0 C.1.1.1.0 S.1.1.1.0,
            (
              leaves_it (p + 1 + 1 + 1) _ (spare r) [] spares C.1.1.1.0 (rw (gives, plain) refl) tt r0,
              tt,
            ),
          ),
        ),
      ))

  -- ---- the whole

  spare_tops : (x : Option VType) → replicate (length (spare x)) Top ≡ spare x
  spare_tops (Some Long) = refl
  spare_tops x = refl

  is_first : types_at V 0 ≡ Some (first_types wm)
  is_first =
      let plain = W.plain in let takes = W.takes in let places = W.places in let size = W.size in
      let d : c + suc (length (spare r)) - c ≡ suc (length (spare r)) = omega arith in
      let tops = spare_tops r in
      let same : first_types wm ≡ over (L0 ts r) [] = rw (plain, takes, size, places, d, tops) refl in
      ap (λ (h : Types). Some h) (sym same)

  fine_table : FineFrom Q wm V (8 + n) (ending ts r r) → FineFrom Q wm V 0 V
  fine_table fine_end =
      let a : Table = opening ts r ++ body in
      let b : Table = a ++ ending ts r r in
      let d : Table = b ++ on_conflict ts r in
      let z1 : 8 + n ≡ 0 + length a = let e = two_types in omega (arith, e) in
      let z2 : z ≡ 0 + length b = let e = three_types in omega (arith, e) in
      let z3 : z + 4 ≡ 0 + length d = let e = four_types in omega (arith, e) in
      let f0 = fine_append Q wm V 0 (opening ts r) body fine_opening fine_body in
      let f1 = fine_append Q wm V 0 a (ending ts r r) f0 (subst (λ (p : ℕ). FineFrom Q wm V p (ending ts r r)) z1 fine_end) in
      let f2 = fine_append Q wm V 0 b (on_conflict ts r) f1 (subst (λ (p : ℕ). FineFrom Q wm V p (on_conflict ts r)) z2 fine_conflict) in
      fine_append Q wm V 0 d (on_exception ts r) f2 (subst (λ (p : ℕ). FineFrom Q wm V p (on_exception ts r)) z3 fine_exception)

  typable_with : FineFrom Q wm V (8 + n) (ending ts r r) → IsTypable Q wm
  typable_with fine_end = record { table = V; typing = fine_typing Q wm V is_first (fine_table fine_end) }

-- by the result
wrapping_typable : (Q : Program) (wm : Method) (ts : List VType) (r : Option VType) (c id : ℕ) (retries : ℤ) (call : Op) → IsWrapping Q wm ts r c id retries call → IsTypable Q wm
wrapping_typable Q wm ts None c id retries call W = typable_with Q wm ts None c id retries call W (fine_bare Q wm ts None c id retries call W refl)
wrapping_typable Q wm ts (Some Int) c id retries call W =
    let a = room_at Q wm ts (Some Int) c id retries call W 1 (context ∷ Top ∷ []) (omega arith) in
    let b = get_first Q wm ts (Some Int) c id retries call W context (Top ∷ []) in
    let d = set_first Q wm ts (Some Int) c id retries call W context Int (Top ∷ []) in
    let e = get_first Q wm ts (Some Int) c id retries call W context (Int ∷ []) in
    let g = W.result in
    typable_with Q wm ts (Some Int) c id retries call W (fine_value Q wm ts (Some Int) c id retries call W Int refl (record { stores = λ pc. rw (a, b, d) refl; loads = λ pc. rw e refl; returns = λ pc. rw g refl }))
wrapping_typable Q wm ts (Some (Ref m)) c id retries call W =
    let a = room_at Q wm ts (Some (Ref m)) c id retries call W 1 (context ∷ Top ∷ []) (omega arith) in
    let b = get_first Q wm ts (Some (Ref m)) c id retries call W context (Top ∷ []) in
    let d = set_first Q wm ts (Some (Ref m)) c id retries call W context (Ref m) (Top ∷ []) in
    let e = get_first Q wm ts (Some (Ref m)) c id retries call W context (Ref m ∷ []) in
    let g = W.result in
    let h = W.gives_itself.0 in
    typable_with Q wm ts (Some (Ref m)) c id retries call W (fine_value Q wm ts (Some (Ref m)) c id retries call W (Ref m) refl (record { stores = λ pc. rw (a, b, d) refl; loads = λ pc. rw e refl; returns = λ pc. rw (g, h) refl }))
wrapping_typable Q wm ts (Some Long) c id retries call W =
    let z : c + 2 ≡ c + 1 + 1 = omega arith in
    let a : nat_lt (c + 1 + 1) (length (ts ++ context ∷ Top ∷ Top ∷ [])) ≡ true = subst (λ i. nat_lt i (length (ts ++ context ∷ Top ∷ Top ∷ [])) ≡ true) z (room_at Q wm ts (Some Long) c id retries call W 2 (context ∷ Top ∷ Top ∷ []) (omega arith)) in
    let b = get_first Q wm ts (Some Long) c id retries call W context (Top ∷ Top ∷ []) in
    let b2 = get_second Q wm ts (Some Long) c id retries call W context (Top ∷ Top ∷ []) in
    let d = set_first Q wm ts (Some Long) c id retries call W context Long (Top ∷ Top ∷ []) in
    let d2 = set_second Q wm ts (Some Long) c id retries call W context Second (Long ∷ Top ∷ []) in
    let e = get_first Q wm ts (Some Long) c id retries call W context (Long ∷ Second ∷ []) in
    let e2 = get_second Q wm ts (Some Long) c id retries call W context (Long ∷ Second ∷ []) in
    let g = W.result in
    typable_with Q wm ts (Some Long) c id retries call W (fine_value Q wm ts (Some Long) c id retries call W Long refl (record { stores = λ pc. rw (a, b, b2, d, d2) refl; loads = λ pc. rw (e, e2) refl; returns = λ pc. rw g refl }))
wrapping_typable Q wm ts (Some t) c id retries call W = absurd W.gives

-- ---- the wrapper of a method

-- what the method keeps, and what its parameters, its result and the transaction's types are in the rewritten program
pub record IsWrapped (P Q : Program) (k : Method) : Type 0 where
  pub code : has_code (Some k) ≡ true
  pub concrete : k.dispatch ≢ dispatch.Abstract
  pub class : name_read Q k.name.class ≡ name_read P k.name.class
  pub plain : is_constructor k ≡ false
  pub parameters : AreParameters k.parameters
  pub many : length k.parameters ≡ k.places
  pub object : HasObject P k.dispatch k
  pub result : IsResult k.result
  pub takes_itself : AreWithin Q k.parameters k.parameters
  pub gives_itself : AreWithin Q (result_types k.result) (result_types k.result)
  pub context_itself : IsWithin Q context context
  pub conflict_itself : IsWithin Q conflict conflict
  pub conflict_thrown : IsWithin Q conflict throwable
  pub throwable_itself : IsWithin Q throwable throwable

spare_size : (r : Option VType) → spare_locals r ≡ length (context ∷ spare r)
spare_size (Some Long) = refl
spare_size r = refl

plain_duplicate : (n : List ℕ) → bytes_eq n (codes "<init>") ≡ false → bytes_eq (duplicate_name n) (codes "<init>") ≡ false
plain_duplicate n plain = by (bytes_eq n (codes "<clinit>"))
  where
    by : (b : Bool) → bytes_eq (if b then codes "__CLINIT__" else n) (codes "<init>") ≡ false
    by true = refl
    by false = plain

module _ (P Q : Program) (wm k d : Method) (dn : ℕ) (H : IsWrapped P Q k) (there : slice_get Q.methods dn ≡ Some d) (takes : d.parameters ≡ k.parameters ++ context ∷ []) (gives : d.result ≡ k.result) (plain : is_constructor d ≡ false)
    (class : wm.name.class ≡ k.name.class) (l : List VType) (pc : ℕ) where
  abbrev us : List VType
  us = context ∷ reverse k.parameters

  abbrev done : List VType → Flow
  done s = leaves pc (over l us) (result_types k.result ++ s)

  all_taken : on_each Q (reverse d.parameters) us (λ s. leaves pc (over l us) (result_types d.result ++ s)) ≡ done []
  all_taken =
      let turned : reverse (k.parameters ++ context ∷ []) ≡ us = reverse-append k.parameters (context ∷ []) in
      let itself : AreWithin Q us us = (H.context_itself, reverse_itself Q k.parameters [] H.takes_itself tt) in
      ap (λ ts. on_each Q (reverse ts) us (λ s. leaves pc (over l us) (result_types d.result ++ s))) takes
      ∙ ap (λ ts. on_each Q ts us (λ s. leaves pc (over l us) (result_types d.result ++ s))) turned
      ∙ ap (λ (x : Option VType). on_each Q us us (λ s. leaves pc (over l us) (result_types x ++ s))) gives
      ∙ taken_all Q us done itself

  static_call : flow Q wm pc (op.InvokeStatic dn) (over l us) ≡ done []
  static_call = rw there all_taken

  -- the class of its object
  abbrev own : List ℕ
  own = name_read P k.name.class

  special_call : k.parameters ≡ Ref own ∷ arguments k → flow Q wm pc (op.InvokeSpecial dn) (over l us) ≡ done []
  special_call first =
      let args = arguments k in
      let whole : d.parameters ≡ Ref own ∷ args ++ context ∷ [] = takes ∙ ap (λ (ts : List VType). ts ++ context ∷ []) first in
      let rest : arguments d ≡ args ++ context ∷ [] = arguments_by d.parameters whole in
      let vs : List VType = context ∷ reverse args in
      let turned : reverse (args ++ context ∷ []) ≡ vs = reverse-append args (context ∷ []) in
      let stacked : us ≡ vs ++ Ref own ∷ [] = ap (λ (ts : List VType). context ∷ reverse ts) first ∙ ap (λ (ts : List VType). context ∷ ts) (reverse-append (Ref own ∷ []) args) in
      let selves : AreWithin Q (Ref own ∷ args) (Ref own ∷ args) = subst (λ (ts : List VType). AreWithin Q ts ts) first H.takes_itself in
      let itself : AreWithin Q vs vs = (H.context_itself, reverse_itself Q args [] selves.1 tt) in
      let last : List VType → Flow = λ s. on_top s (λ t u. if_so (is_within Q t (Ref (name_read Q wm.name.class))) (on_each Q (reverse d.parameters) us (λ s. leaves pc (over l us) (result_types d.result ++ s)))) in
      let same : name_read Q wm.name.class ≡ own = ap (name_read Q) class ∙ H.class in
      let fits : is_within Q (Ref own) (Ref (name_read Q wm.name.class)) ≡ true = subst (λ n. is_within Q (Ref own) (Ref n) ≡ true) (sym same) selves.0 in
      let start : flow Q wm pc (op.InvokeSpecial dn) (over l us) ≡ on_each Q (reverse (arguments d)) us last = rw (there, plain) refl in
      start ∙ ap (λ ts. on_each Q (reverse ts) us last) rest ∙ ap (λ ts. on_each Q ts us last) turned ∙ ap (λ s. on_each Q vs s last) stacked ∙ taken_each Q vs (Ref own ∷ []) last itself
      ∙ ap (λ (b : Bool). if_so b (on_each Q (reverse d.parameters) us (λ s. leaves pc (over l us) (result_types d.result ++ s)))) fits ∙ all_taken
    where
      arguments_by : (ps : List VType) → ps ≡ Ref own ∷ arguments k ++ context ∷ [] → arguments (record d { parameters = ps }) ≡ arguments k ++ context ∷ []
      arguments_by ps e = ap (λ (ps : List VType). arguments (record d { parameters = ps })) e

pub wrapper_typable : (Q P : Program) (id m : ℕ) (retries : ℤ) (k : Method) (T : Table) → IsWrapped P Q k → slice_get Q.methods (duplicate P m) ≡ Some (duplicate_method P k T) → IsTypable Q (wrapper_method P id m retries k)
wrapper_typable Q P id m retries k T H copy = wrapping_typable Q wm k.parameters k.result k.places id retries (invoke k.dispatch (duplicate P m)) (record {
  ops = refl;
  catches = refl;
  size = let e = spare_size k.result in ap (λ (n : ℕ). k.places + n) e;
  max_stack = refl;
  result = refl;
  plain = H.plain;
  takes = refl;
  places = refl;
  many = H.many;
  parameters = H.parameters;
  gives = H.result;
  takes_itself = H.takes_itself;
  gives_itself = H.gives_itself;
  context_itself = H.context_itself;
  conflict_itself = H.conflict_itself;
  conflict_thrown = H.conflict_thrown;
  throwable_itself = H.throwable_itself;
  calls = λ pc. by pc k.dispatch refl H.object;
})
  where
    wm : Method
    wm = wrapper_method P id m retries k

    d : Method
    d = duplicate_code P k (typed_from 0 T k.ops)

    there : slice_get Q.methods (duplicate P m) ≡ Some d
    there = copy ∙ ap (λ (x : Method). Some x) (has_duplicate P k T H.code)

    L' : List VType
    L' = k.parameters ++ context ∷ spare k.result

    by : (pc : ℕ) (x : Dispatch) → k.dispatch ≡ x → HasObject P x k → flow Q wm pc (invoke x (duplicate P m)) (over L' (context ∷ reverse k.parameters)) ≡ leaves pc (over L' (context ∷ reverse k.parameters)) (result_types k.result ++ [])
    by pc dispatch.Static e o = static_call P Q wm k d (duplicate P m) H there refl refl (plain_duplicate k.name.name H.plain) refl L' pc
    by pc dispatch.Exact e o = special_call P Q wm k d (duplicate P m) H there refl refl (plain_duplicate k.name.name H.plain) refl L' pc o
    by pc dispatch.Virtual e o = special_call P Q wm k d (duplicate P m) H there refl refl (plain_duplicate k.name.name H.plain) refl L' pc o
    by pc dispatch.Abstract e o = absurd (H.concrete e)
