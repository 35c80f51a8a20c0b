-- An instruction goes on over narrower types where it does over wider ones, and leaves no more.
use Rattle.std.proofs.Common.{◌≡◌, ◌≢◌, ℕ, zero, suc, ◌+◌, ◌-◌, ◌<◌, List, [], ◌∷◌, ◌++◌, length, map, replicate, reverse, Option, Some, None, Bool, true, false, refl, sym, ap, subst, ◌∙◌, arith, ◌⊎◌, inl, inr, ⊎_elim}
use Rattle.std.proofs.lemmas.Bool.Decides.{nat_tests}
use Rattle.std.proofs.Math.ListN.{length-set}
use Rattle.std.proofs.lemmas.List.{length-map}
use Rattle.std.specs.Prelude.{not, ◌&&◌, ◌||◌, slice_get, slice_set, IsTrue, nat_lt, bytes_eq, is_some, if◌then◌else◌}
use Rattle.std.specs.List.{list_any}
use Rattle.jmodel.specs.declared.typing.VType.{VType}
use Rattle.jmodel.specs.declared.typing.VType.TheVariants.{Int, Long, Second, Null, Ref, Uninit, UninitThis, Top}
use Rattle.objects.specs.declared.op.Sort.{Sort}
use Rattle.objects.specs.declared.op.Sort.TheVariants as sort
use Rattle.objects.specs.declared.op.Width.{Width}
use Rattle.objects.specs.declared.op.WordType.{WordType}
use Rattle.objects.specs.declared.op.WordType.TheVariants as word
use Rattle.objects.specs.declared.op.Conversion.{Conversion}
use Rattle.objects.specs.declared.op.Conversion.TheVariants.{IntToLong, LongToInt}
use Rattle.objects.specs.declared.op.StackOp.{StackOp}
use Rattle.objects.specs.declared.op.StackOp.TheVariants.{Nop, Pop, Pop2, Dup, DupX1, DupX2, Dup2, Dup2X1, Dup2X2, Swap}
use Rattle.objects.specs.declared.op.ContextCall.{ContextCall}
use Rattle.objects.specs.declared.op.ContextCall.TheVariants as call
use Rattle.objects.specs.declared.op.Op.{Op}
use Rattle.objects.specs.declared.op.Op.TheVariants as op
use Rattle.objects.specs.semantics.Program.{Field, Method, Row, Program, method_at, field_at, row_at}
use Rattle.objects.specs.typing.TypeOrder.{object_class, throwable_class, string_class, context_class, is_array, name_read, stack_types, is_within, IsWithin, AreWithin, IsLocals, IsStack, IsStackUnder}
use Rattle.objects.specs.typing.Typing as typed
use Rattle.objects.specs.typing.Typing.{Types, Flow, Leads, Wrong, FitsIn, if_so, flow, freed, stored_types, is_reference, is_one, become, is_uninit, built_as, this_built, constructs, is_received, number_types, results, exits}
use Rattle.objects.specs.typing.Source.{AreTypes}
use Rattle.verifier.proofs.Orders.{within_trans, within_top}
use Rattle.verifier.proofs.Lists.{same_length}
use Rattle.verifier.proofs.Locals.{IsWhole, stored, wide, stored_locals, wide_locals, become_locals}
use Rattle.verifier.proofs.Stores.{stored_within, wide_within}
use Rattle.verifier.proofs.Elements.{array_down, elements_down}
use Rattle.verifier.proofs.Under.{IsUnder, AreUnder, Under, under_same, under_append, Narrower, so_narrow, within_under, Goes, GoesBy, on_narrow, each_narrow, int_narrow, number_narrow, top_narrow, one_narrow, two_narrow}

-- one place of two lists, of which the first is within the second
abbrev AtWithin : Program → Option VType → Option VType → Type 0
AtWithin P None None = Unit {0}
AtWithin P (Some t) (Some u) = IsWithin P t u
AtWithin P o q = ⊥

at_get : (P : Program) (l m : List VType) → AreWithin P l m → (i : ℕ) → AtWithin P (slice_get l i) (slice_get m i)
at_get P [] [] a i = tt
at_get P [] (u ∷ m) a i = absurd a
at_get P (t ∷ l) [] a i = absurd a
at_get P (t ∷ l) (u ∷ m) a zero = a.0
at_get P (t ∷ l) (u ∷ m) a (suc i) = at_get P l m a.1 i

int_down : (P : Program) (t : VType) → IsWithin P t Int → t ≡ Int
int_down P Int a = refl
int_down P t a = cc

long_down : (P : Program) (t : VType) → IsWithin P t Long → t ≡ Long
long_down P Long a = refl
long_down P t a = cc

second_down : (P : Program) (t : VType) → IsWithin P t Second → t ≡ Second
second_down P Second a = refl
second_down P t a = cc

this_down : (P : Program) (t : VType) → IsWithin P t UninitThis → t ≡ UninitThis
this_down P UninitThis a = refl
this_down P t a = cc

uninit_down : (P : Program) (p : ℕ) (t : VType) → IsWithin P t (Uninit p) → t ≡ Uninit p
uninit_down P p (Uninit q) a = let s : q ≡ p = grind (arith, nat_tests) in ap (λ (x : ℕ). Uninit x) s
uninit_down P p t a = cc

reference_down : (P : Program) (t u : VType) → IsWithin P t u → is_reference u ≡ true → is_reference t ≡ true
reference_down P Null u a e = refl
reference_down P (Ref n) u a e = refl
reference_down P (Uninit p) u a e = refl
reference_down P UninitThis u a e = refl
reference_down P t Top a e = cc
reference_down P t u a e = cc

received_down : (P : Program) (C : AreTypes P) (n : List ℕ) (o q : Option VType) → AtWithin P o q → is_received P n q ≡ true → is_received P n o ≡ true
received_down P C n None None a e = cc
received_down P C n (Some t) None a e = absurd a
received_down P C n None (Some u) a e = absurd a
received_down P C n (Some UninitThis) (Some u) a e = refl
received_down P C n (Some t) (Some UninitThis) a e = cc
received_down P C n (Some t) (Some u) a e = within_trans P C t u (Ref n) a e

top_under : (P : Program) (t : VType) → IsUnder P t Top
top_under P t Top e = within_top P t
top_under P t v e = cc

is_uninit_same : (u v : VType) → is_uninit u v ≡ true → v ≡ u
is_uninit_same (Uninit p) (Uninit q) e = let s : p ≡ q = grind (arith, nat_tests) in ap (λ (x : ℕ). Uninit x) (sym s)
is_uninit_same UninitThis UninitThis e = refl
is_uninit_same u v e = cc

uninit_self : (u v : VType) → is_uninit u v ≡ true → is_uninit u u ≡ true
uninit_self (Uninit p) v e = grind (arith, nat_tests)
uninit_self UninitThis v e = refl
uninit_self u v e = cc

-- what is above an object that isn't built is that, or top
uninit_up : (P : Program) (u v w : VType) → is_uninit u v ≡ true → IsWithin P v w → (is_uninit u w ≡ true) ⊎ (w ≡ Top)
uninit_up P u v w e a = go u w (uninit_self u v e) (subst (λ (v : VType). IsWithin P v w) (is_uninit_same u v e) a)
  where
    go : (u w : VType) → is_uninit u u ≡ true → IsWithin P u w → (is_uninit u w ≡ true) ⊎ (w ≡ Top)
    go (Uninit p) (Uninit q) e a = inl a
    go (Uninit p) Top e a = inr refl
    go UninitThis UninitThis e a = inl refl
    go UninitThis Top e a = inr refl
    go (Uninit p) w e a = absurd (let no : ⊥ = cc in no)
    go UninitThis w e a = absurd (let no : ⊥ = cc in no)
    go u w e a = absurd (let no : ⊥ = cc in no)

or_true : (b c : Bool) → c ≡ true → (b || c) ≡ true
or_true true c e = refl
or_true false c e = e

abbrev puts_test : Program → List ℕ → Bool → VType → Bool
puts_test P n b t = (is_uninit UninitThis t && b) || is_within P t (Ref n)

puts_down : (P : Program) (C : AreTypes P) (n : List ℕ) (b : Bool) (t u : VType) → IsWithin P t u → puts_test P n b u ≡ true → puts_test P n b t ≡ true
puts_down P C n b t UninitThis a e = let s = this_down P t a in rw s e
puts_down P C n b t Int a e = or_true (is_uninit UninitThis t && b) (is_within P t (Ref n)) (within_trans P C t Int (Ref n) a e)
puts_down P C n b t Long a e = or_true (is_uninit UninitThis t && b) (is_within P t (Ref n)) (within_trans P C t Long (Ref n) a e)
puts_down P C n b t Second a e = or_true (is_uninit UninitThis t && b) (is_within P t (Ref n)) (within_trans P C t Second (Ref n) a e)
puts_down P C n b t Null a e = or_true (is_uninit UninitThis t && b) (is_within P t (Ref n)) (within_trans P C t Null (Ref n) a e)
puts_down P C n b t (Ref m) a e = or_true (is_uninit UninitThis t && b) (is_within P t (Ref n)) (within_trans P C t (Ref m) (Ref n) a e)
puts_down P C n b t (Uninit p) a e = or_true (is_uninit UninitThis t && b) (is_within P t (Ref n)) (within_trans P C t (Uninit p) (Ref n) a e)
puts_down P C n b t Top a e = or_true (is_uninit UninitThis t && b) (is_within P t (Ref n)) (within_trans P C t Top (Ref n) a e)

module _ (P : Program) (C : AreTypes P) where
  become_under : (u t v w : VType) → IsWithin P v w → IsUnder P (become u t v) (become u t w)
  become_under u t v w a = by (is_uninit u v) (is_uninit u w) refl refl
    where
      none_down : is_uninit u v ≡ false → is_uninit u w ≡ true → ⊥
      none_down x y =
          let s = is_uninit_same u w y in
          let b : IsWithin P v u = subst (IsWithin P v) s a in
          go u v (uninit_self u w y) b x
        where
          go : (u v : VType) → is_uninit u u ≡ true → IsWithin P v u → is_uninit u v ≡ false → ⊥
          go (Uninit p) v e b x = let s = uninit_down P p v b in let y : is_uninit (Uninit p) (Uninit p) ≡ false = subst (λ (v : VType). is_uninit (Uninit p) v ≡ false) s x in cc
          go UninitThis v e b x = let s = this_down P v b in let y : is_uninit UninitThis UninitThis ≡ false = subst (λ (v : VType). is_uninit UninitThis v ≡ false) s x in cc
          go u v e b x = cc

      by : (b c : Bool) → is_uninit u v ≡ b → is_uninit u w ≡ c → IsUnder P (if b then t else v) (if c then t else w)
      by true true x y = λ z e. e
      by true false x y = ⊎_elim (λ (k : is_uninit u w ≡ true). absurd (let no : ⊥ = cc in no)) (λ (k : w ≡ Top). subst (λ (w : VType). IsUnder P t w) (sym k) (top_under P t)) (uninit_up P u v w x a)
      by false true x y = absurd (none_down x y)
      by false false x y = λ z e. within_trans P C v w z a e

  becomes_under : (u t : VType) (l m : List VType) → AreWithin P l m → AreUnder P (map (become u t) l) (map (become u t) m)
  becomes_under u t [] [] a = tt
  becomes_under u t (v ∷ l) (w ∷ m) a = (become_under u t v w a.0, becomes_under u t l m a.1)
  becomes_under u t [] (w ∷ m) a = absurd a
  becomes_under u t (v ∷ l) [] a = absurd a

  -- an object that isn't built stands in the wider stack too
  uninit_stack : (b : Bool) (u : VType) (l m : List VType) → IsStackUnder b m → AreWithin P l m → list_any (is_uninit u) m ≡ false → list_any (is_uninit u) l ≡ false
  uninit_stack b u [] m h a e = refl
  uninit_stack b u (v ∷ l) [] h a e = absurd a
  uninit_stack b u (v ∷ l) (w ∷ m) h a e = by (λ c k e. uninit_stack c u l m k a.1 e) (is_uninit u v) (is_uninit u w) refl refl e (rest b w h)
    where
      rest : (b : Bool) (w : VType) → IsStackUnder b (w ∷ m) → (c : Bool) × IsStackUnder c m × (w ≢ Top)
      rest false Int h = (false, h, λ e. cc)
      rest false Null h = (false, h, λ e. cc)
      rest false (Ref n) h = (false, h, λ e. cc)
      rest false (Uninit p) h = (false, h, λ e. cc)
      rest false UninitThis h = (false, h, λ e. cc)
      rest false Second h = (true, h, λ e. cc)
      rest true Long h = (false, h, λ e. cc)
      rest b w h = absurd h

      by : ((c : Bool) → IsStackUnder c m → list_any (is_uninit u) m ≡ false → list_any (is_uninit u) l ≡ false) → (x y : Bool) → is_uninit u v ≡ x → is_uninit u w ≡ y → (y || list_any (is_uninit u) m) ≡ false → ((c : Bool) × IsStackUnder c m × (w ≢ Top)) → (is_uninit u v || list_any (is_uninit u) l) ≡ false
      by more x true i j e r = cc
      by more true false i j e r = ⊎_elim (λ (k : is_uninit u w ≡ true). absurd (let no : ⊥ = cc in no)) (λ (k : w ≡ Top). absurd (r.2 k)) (uninit_up P u v w i a.0)
      by more false false i j e r = rw i (more r.0 r.1 e)

module _ (P : Program) (C : AreTypes P) (pc : ℕ) (h g : Types) (f : FitsIn P h g) (hl : IsLocals h.locals) (gl : IsLocals g.locals) (gs : IsStack g.stack) where
  under_refl : (t : VType) → IsUnder P t t
  under_refl t v e = e

  under_of : (t u : VType) → IsWithin P t u → IsUnder P t u
  under_of t u a v e = within_trans P C t u v a e

  locals_under : AreUnder P h.locals g.locals
  locals_under = within_under P C h.locals g.locals f.locals

  -- with other stacks, at the same places
  with_under : (s q : List VType) → AreUnder P s q → Under P (typed.with_stack h s) (typed.with_stack g q)
  with_under s q a = record { locals = locals_under; stack = a; built = f.built }

  abbrev n : ℕ
  n = length h.locals

  ways_narrow : (tos : List ℕ) (s q : List VType) → AreUnder P s q → Narrower P n (Leads tos (typed.with_stack h s)) (Leads tos (typed.with_stack g q))
  ways_narrow tos s q a = (refl, with_under s q a, record { places = refl; each = hl })

  -- the same types on top of what is left of a stack
  pushes : (tos : List ℕ) (ls : List VType) → Goes P C n (λ s. Leads tos (typed.with_stack h (ls ++ s))) (λ s. Leads tos (typed.with_stack g (ls ++ s)))
  pushes tos ls r q a = ways_narrow tos (ls ++ r) (ls ++ q) (under_append P ls ls r q (under_same P ls) (within_under P C r q a))

  leaves_narrow : (ls : List VType) → Goes P C n (λ s. typed.leaves pc h (ls ++ s)) (λ s. typed.leaves pc g (ls ++ s))
  leaves_narrow ls = pushes ((pc + 1) ∷ []) ls

  abbrev Here : (Types → Flow) → Type 0
  Here k = Narrower P n (k h) (k g)

  taking : (ts ls : List VType) (tos : List ℕ) → Here (λ h. typed.on_each P ts h.stack (λ s. Leads tos (typed.with_stack h (ls ++ s))))
  taking ts ls tos = each_narrow P C n ts _ _ (pushes tos ls) h.stack g.stack f.stack

  abbrev IsGoing : (Types → Flow) → Type 0
  IsGoing k = Narrower P n (k h) (k g)

  same_so : (b : Bool) (k j : Flow) → Narrower P n k j → Narrower P n (if_so b k) (if_so b j)
  same_so b k j r = so_narrow P n b b k j (λ e. e) (λ e. r)

  -- ---- locals

  local_at : (i : ℕ) → AtWithin P (slice_get h.locals i) (slice_get g.locals i)
  local_at i = at_get P h.locals g.locals f.locals i

  stack_at : (i : ℕ) → AtWithin P (slice_get h.stack i) (slice_get g.stack i)
  stack_at i = at_get P h.stack g.stack f.stack i

  int_in_narrow : (o q : Option VType) → AtWithin P o q → (k j : Flow) → Narrower P n k j → Narrower P n (typed.int_in o k) (typed.int_in q j)
  int_in_narrow None None a k j r = tt
  int_in_narrow (Some t) None a k j r = absurd a
  int_in_narrow None (Some u) a k j r = absurd a
  int_in_narrow (Some t) (Some Int) a k j r = let e = int_down P t a in rw e r
  int_in_narrow (Some t) (Some u) a k j r = tt

  long_at_narrow : (o q x y : Option VType) → AtWithin P o q → AtWithin P x y → (k j : Flow) → Narrower P n k j → Narrower P n (typed.long_at o x k) (typed.long_at q y j)
  long_at_narrow (Some t) (Some Long) (Some v) (Some Second) a b k j r = let e = long_down P t a in let d = second_down P v b in rw (e, d) r
  long_at_narrow None (Some Long) x (Some Second) a b k j r = absurd a
  long_at_narrow (Some t) (Some Long) None (Some Second) a b k j r = absurd b
  long_at_narrow o None x y a b k j r = tt
  long_at_narrow o (Some Long) x None a b k j r = tt
  long_at_narrow o (Some Long) x (Some u) a b k j r = tt
  long_at_narrow o (Some u) x y a b k j r = tt

  reference_in_narrow : (o q : Option VType) → AtWithin P o q → Narrower P n (typed.local_in o (λ t. if_so (is_reference t) (typed.leaves pc h (t ∷ h.stack)))) (typed.local_in q (λ t. if_so (is_reference t) (typed.leaves pc g (t ∷ g.stack))))
  reference_in_narrow None None a = tt
  reference_in_narrow (Some t) None a = absurd a
  reference_in_narrow None (Some u) a = absurd a
  reference_in_narrow (Some t) (Some u) a = so_narrow P n (is_reference t) (is_reference u) _ _ (reference_down P t u a) (λ e. ways_narrow ((pc + 1) ∷ []) (t ∷ h.stack) (u ∷ g.stack) (under_of t u a, within_under P C h.stack g.stack f.stack))

  loads_narrow : (s : Sort) (i : ℕ) → IsGoing (typed.loads s i pc)
  loads_narrow sort.Int i = int_in_narrow (slice_get h.locals i) (slice_get g.locals i) (local_at i) _ _ (leaves_narrow (Int ∷ []) h.stack g.stack f.stack)
  loads_narrow sort.Reference i = reference_in_narrow (slice_get h.locals i) (slice_get g.locals i) (local_at i)
  loads_narrow sort.Long i = long_at_narrow (slice_get h.locals i) (slice_get g.locals i) (slice_get h.locals (i + 1)) (slice_get g.locals (i + 1)) (local_at i) (local_at (i + 1)) _ _ (leaves_narrow (Second ∷ Long ∷ []) h.stack g.stack f.stack)

  abbrev with_locals : Types → List VType → List VType → Types
  with_locals h l s = record h { locals = l; stack = s }

  places_narrow : (l m s q : List VType) → AreUnder P l m → AreUnder P s q → length l ≡ n → IsLocals l → Narrower P n (Leads ((pc + 1) ∷ []) (with_locals h l s)) (Leads ((pc + 1) ∷ []) (with_locals g m q))
  places_narrow l m s q a b e i = (refl, record { locals = a; stack = b; built = f.built }, record { places = e; each = i })

  same_places : length h.locals ≡ length g.locals
  same_places = same_length P h.locals g.locals f.locals

  freed_length : (i : ℕ) (l : List VType) → length (freed i l) ≡ length l
  freed_length i l = by (slice_get l i)
    where
      by : (o : Option VType) → length (typed.freed_by o i l) ≡ length l
      by (Some Second) = length-set l (i - 1) Top
      by (Some Long) = length-set l (i + 1) Top
      by None = refl
      by (Some t) = refl

  set_narrow : (i : ℕ) (t u : VType) → IsWhole t → IsWithin P t u → Goes P C n (λ s. typed.set_local (nat_lt i (length h.locals)) i t pc h s) (λ s. typed.set_local (nat_lt i (length g.locals)) i u pc g s)
  set_narrow i t u w a r q b = by (nat_lt i (length g.locals)) refl
    where
      by : (c : Bool) → nat_lt i (length g.locals) ≡ c → Narrower P n (typed.set_local (nat_lt i (length h.locals)) i t pc h r) (typed.set_local c i u pc g q)
      by false e = tt
      by true e =
          let lt : i < length h.locals = let z = same_places in grind (arith, nat_tests) in
          let e' : nat_lt i (length h.locals) ≡ true = grind (arith, nat_tests) in
          let x = freed_length i h.locals in
          rw e' (places_narrow (stored i t h.locals) (stored i u g.locals) r q (within_under P C _ _ (stored_within P t u a i h.locals g.locals lt hl gl f.locals)) (within_under P C r q b)
          (length-set (freed i h.locals) i t ∙ x) (stored_locals i t h.locals w lt hl))

  wide_narrow : (i : ℕ) → Goes P C n (λ s. typed.set_long (nat_lt (i + 1) (length h.locals)) i pc h s) (λ s. typed.set_long (nat_lt (i + 1) (length g.locals)) i pc g s)
  wide_narrow i r q b = by (nat_lt (i + 1) (length g.locals)) refl
    where
      wide_is : (l : List VType) → slice_set (slice_set (freed (i + 1) (freed i l)) i Long) (i + 1) Second ≡ wide i l
      wide_is l = let e : i + 1 ≡ suc i = omega arith in ap (λ (j : ℕ). slice_set (slice_set (freed j (freed i l)) i Long) j Second) e

      both_wide : (l m : List VType) → l ≡ wide i h.locals → m ≡ wide i g.locals → suc i < length h.locals → Narrower P n (Leads ((pc + 1) ∷ []) (with_locals h l r)) (Leads ((pc + 1) ∷ []) (with_locals g m q))
      both_wide l m x y lt =
          subst (λ (l : List VType). Narrower P n (Leads ((pc + 1) ∷ []) (with_locals h l r)) (Leads ((pc + 1) ∷ []) (with_locals g m q))) (sym x)
          (subst (λ (m : List VType). Narrower P n (Leads ((pc + 1) ∷ []) (with_locals h (wide i h.locals) r)) (Leads ((pc + 1) ∷ []) (with_locals g m q))) (sym y)
          (places_narrow (wide i h.locals) (wide i g.locals) r q (within_under P C _ _ (wide_within P i h.locals g.locals lt hl gl f.locals)) (within_under P C r q b)
          (length-set (slice_set (freed (suc i) (freed i h.locals)) i Long) (suc i) Second ∙ length-set (freed (suc i) (freed i h.locals)) i Long ∙ freed_length (suc i) (freed i h.locals) ∙ freed_length i h.locals) (wide_locals i h.locals lt hl)))

      by : (c : Bool) → nat_lt (i + 1) (length g.locals) ≡ c → Narrower P n (typed.set_long (nat_lt (i + 1) (length h.locals)) i pc h r) (typed.set_long c i pc g q)
      by false e = tt
      by true e =
          let z = same_places in
          let lt : suc i < length h.locals = grind (arith, nat_tests) in
          let e' : nat_lt (i + 1) (length h.locals) ≡ true = grind (arith, nat_tests) in
          rw e' (both_wide _ _ (wide_is h.locals) (wide_is g.locals) lt)

  whole_reference : (t : VType) → is_reference t ≡ true → IsWhole t
  whole_reference Int e = tt
  whole_reference Null e = tt
  whole_reference (Ref m) e = tt
  whole_reference (Uninit p) e = tt
  whole_reference UninitThis e = tt
  whole_reference Top e = tt
  whole_reference t e = cc

  stores_narrow : (s : Sort) (i : ℕ) → IsGoing (typed.stores P s i pc)
  stores_narrow sort.Int i = int_narrow P C n _ _ (set_narrow i Int Int tt refl) h.stack g.stack f.stack
  stores_narrow sort.Reference i = top_narrow P C n _ _ (λ t u r q a b. so_narrow P n (is_reference t) (is_reference u) _ _ (reference_down P t u a) (λ e. set_narrow i t u (whole_reference t (reference_down P t u a e)) a r q b)) h.stack g.stack f.stack
  stores_narrow sort.Long i = each_narrow P C n (Second ∷ Long ∷ []) _ _ (wide_narrow i) h.stack g.stack f.stack

  -- ---- the stack

  one_under : (t u : VType) → IsWithin P t u → AreUnder P (t ∷ []) (u ∷ [])
  one_under t u a = (under_of t u a, tt)

  on_leaves : (l m : List VType) → AreUnder P l m → Goes P C n (λ s. typed.leaves pc h (l ++ s)) (λ s. typed.leaves pc g (m ++ s))
  on_leaves l m a r q b = ways_narrow ((pc + 1) ∷ []) (l ++ r) (m ++ q) (under_append P l m r q a (within_under P C r q b))

  rearranged_narrow : (r : StackOp) → IsGoing (typed.rearranged r pc)
  rearranged_narrow Nop = leaves_narrow [] h.stack g.stack f.stack
  rearranged_narrow Pop = one_narrow P C n _ _ (λ t u r q a b. leaves_narrow [] r q b) h.stack g.stack f.stack
  rearranged_narrow Pop2 = two_narrow P C n _ _ (λ t u v w r q a c b. leaves_narrow [] r q b) h.stack g.stack f.stack
  rearranged_narrow Dup = one_narrow P C n _ _ (λ t u r q a b. on_leaves (t ∷ t ∷ []) (u ∷ u ∷ []) (under_of t u a, (under_of t u a, tt)) r q b) h.stack g.stack f.stack
  rearranged_narrow DupX1 = one_narrow P C n _ _ (λ t u r q a b. one_narrow P C n _ _ (λ v w r q c d. on_leaves (t ∷ v ∷ t ∷ []) (u ∷ w ∷ u ∷ []) (under_of t u a, (under_of v w c, (under_of t u a, tt))) r q d) r q b) h.stack g.stack f.stack
  rearranged_narrow DupX2 = one_narrow P C n _ _ (λ t u r q a b. two_narrow P C n _ _ (λ v w x y r q c e d. on_leaves (t ∷ v ∷ w ∷ t ∷ []) (u ∷ x ∷ y ∷ u ∷ []) (under_of t u a, (under_of v x c, (under_of w y e, (under_of t u a, tt)))) r q d) r q b) h.stack g.stack f.stack
  rearranged_narrow Dup2 = two_narrow P C n _ _ (λ t u v w r q a c b. on_leaves (t ∷ u ∷ t ∷ u ∷ []) (v ∷ w ∷ v ∷ w ∷ []) (under_of t v a, (under_of u w c, (under_of t v a, (under_of u w c, tt)))) r q b) h.stack g.stack f.stack
  rearranged_narrow Dup2X1 = two_narrow P C n _ _ (λ t u v w r q a c b. one_narrow P C n _ _ (λ x y r q e d. on_leaves (t ∷ u ∷ x ∷ t ∷ u ∷ []) (v ∷ w ∷ y ∷ v ∷ w ∷ []) (under_of t v a, (under_of u w c, (under_of x y e, (under_of t v a, (under_of u w c, tt))))) r q d) r q b) h.stack g.stack f.stack
  rearranged_narrow Dup2X2 = two_narrow P C n _ _ (λ t u v w r q a c b. two_narrow P C n _ _ (λ x x' y y' r q e i d. on_leaves (t ∷ u ∷ x ∷ x' ∷ t ∷ u ∷ []) (v ∷ w ∷ y ∷ y' ∷ v ∷ w ∷ []) (under_of t v a, (under_of u w c, (under_of x y e, (under_of x' y' i, (under_of t v a, (under_of u w c, tt)))))) r q d) r q b) h.stack g.stack f.stack
  rearranged_narrow Swap = one_narrow P C n _ _ (λ t u r q a b. one_narrow P C n _ _ (λ v w r q c d. on_leaves (v ∷ t ∷ []) (w ∷ u ∷ []) (under_of v w c, (under_of t u a, tt)) r q d) r q b) h.stack g.stack f.stack

  converted_narrow : (c : Conversion) → IsGoing (typed.converted P c pc)
  converted_narrow IntToLong = int_narrow P C n _ _ (leaves_narrow (Second ∷ Long ∷ [])) h.stack g.stack f.stack
  converted_narrow LongToInt = taking (Second ∷ Long ∷ []) (Int ∷ []) ((pc + 1) ∷ [])
  converted_narrow c = int_narrow P C n _ _ (leaves_narrow (Int ∷ [])) h.stack g.stack f.stack

  binary_narrow : (w : Width) → IsGoing (λ h. typed.on_number P w h.stack (λ s. typed.on_number P w s (λ s. typed.leaves pc h (number_types w ++ s))))
  binary_narrow w = number_narrow P C n w _ _ (number_narrow P C n w _ _ (leaves_narrow (number_types w))) h.stack g.stack f.stack

  -- ---- arrays

  arrays_narrow : (k j : VType → List VType → Flow) → ((r q : List VType) → AreWithin P r q → Narrower P n (k Null r) (j Null q)) → ((m : List ℕ) (r q : List VType) → AreWithin P r q → Narrower P n (k Null r) (j (Ref m) q))
      → ((l m : List ℕ) → is_array l ≡ true → is_array m ≡ true → IsWithin P (Ref l) (Ref m) → (r q : List VType) → AreWithin P r q → Narrower P n (k (Ref l) r) (j (Ref m) q)) → Goes P C n (λ s. typed.on_array s k) (λ s. typed.on_array s j)
  arrays_narrow k j nulls mixed refs [] [] a = tt
  arrays_narrow k j nulls mixed refs [] (u ∷ q) a = absurd a
  arrays_narrow k j nulls mixed refs (t ∷ r) [] a = tt
  arrays_narrow k j nulls mixed refs (t ∷ r) (Null ∷ q) a = let e = null_down t a.0 in rw e (nulls r q a.1)
    where
      null_down : (t : VType) → IsWithin P t Null → t ≡ Null
      null_down Null a = refl
      null_down t a = cc
  arrays_narrow k j nulls mixed refs (Null ∷ r) (Ref m ∷ q) a = by (is_array m)
    where
      by : (b : Bool) → Narrower P n (k Null r) (if_so b (j (Ref m) q))
      by true = mixed m r q a.1
      by false = tt
  arrays_narrow k j nulls mixed refs (Ref l ∷ r) (Ref m ∷ q) a = so_narrow P n (is_array l) (is_array m) (k (Ref l) r) (j (Ref m) q) (array_down P C l m a.0) (λ e. refs l m (array_down P C l m a.0 e) e a.0 r q a.1)
  arrays_narrow k j nulls mixed refs (t ∷ r) (Ref m ∷ q) a = absurd (let no : ⊥ = cc in no)
  arrays_narrow k j nulls mixed refs (t ∷ r) (u ∷ q) a = tt

  -- what an array's elements are, under those of one above it
  elements_narrow : (w : WordType) (l m : List ℕ) → is_array l ≡ true → is_array m ≡ true → IsWithin P (Ref l) (Ref m) → typed.has_elements w m ≡ true → (typed.has_elements w l ≡ true) × AreUnder P (typed.element_types w (Ref l)) (typed.element_types w (Ref m))
  elements_narrow w l m a b c e = elements_down P C w l m a b c e

  null_elements : (w : WordType) (m : List ℕ) → AreUnder P (typed.element_types w Null) (typed.element_types w (Ref m))
  null_elements word.Reference m = (null_under (typed.element_class m), tt)
    where
      null_under : (c : List ℕ) → IsUnder P Null (Ref c)
      null_under c Top e = refl
      null_under c (Ref d) e = refl
      null_under c v e = absurd (let no : ⊥ = cc in no)
  null_elements word.Long m = under_same P (Second ∷ Long ∷ [])
  null_elements word.Boolean m = under_same P (Int ∷ [])
  null_elements word.Byte m = under_same P (Int ∷ [])
  null_elements word.Char m = under_same P (Int ∷ [])
  null_elements word.Short m = under_same P (Int ∷ [])
  null_elements word.Int m = under_same P (Int ∷ [])

  load_element_narrow : (w : WordType) → IsGoing (λ h. typed.on_int h.stack (λ s. typed.on_array s (λ u s. if_so (typed.fits_elements w u) (typed.leaves pc h (typed.element_types w u ++ s)))))
  load_element_narrow w = int_narrow P C n _ _ (arrays_narrow _ _
      (λ r q b. leaves_narrow (typed.element_types w Null) r q b)
      (λ m r q b. so_narrow P n true (typed.has_elements w m) (typed.leaves pc h (typed.element_types w Null ++ r)) (typed.leaves pc g (typed.element_types w (Ref m) ++ q)) (λ e. refl) (λ e. on_leaves (typed.element_types w Null) (typed.element_types w (Ref m)) (null_elements w m) r q b))
      (λ l m x y a r q b. so_narrow P n (typed.has_elements w l) (typed.has_elements w m) _ _ (λ e. (elements_narrow w l m x y a e).0) (λ e. on_leaves (typed.element_types w (Ref l)) (typed.element_types w (Ref m)) (elements_narrow w l m x y a e).1 r q b)))
      h.stack g.stack f.stack

  store_element_narrow : (w : WordType) → IsGoing (λ h. typed.on_each P (stored_types w) h.stack (λ s. typed.on_int s (λ s. typed.on_array s (λ u s. if_so (typed.fits_elements w u) (typed.leaves pc h s)))))
  store_element_narrow w = each_narrow P C n (stored_types w) _ _ (int_narrow P C n _ _ (arrays_narrow _ _
      (λ r q b. leaves_narrow [] r q b)
      (λ m r q b. so_narrow P n true (typed.has_elements w m) (typed.leaves pc h r) (typed.leaves pc g q) (λ e. refl) (λ e. leaves_narrow [] r q b))
      (λ l m x y a r q b. so_narrow P n (typed.has_elements w l) (typed.has_elements w m) _ _ (λ e. (elements_narrow w l m x y a e).0) (λ e. leaves_narrow [] r q b))))
      h.stack g.stack f.stack

  array_length_narrow : IsGoing (λ h. typed.on_array h.stack (λ t s. typed.leaves pc h (Int ∷ s)))
  array_length_narrow = arrays_narrow _ _ (leaves_narrow (Int ∷ [])) (λ m. leaves_narrow (Int ∷ [])) (λ l m x y a. leaves_narrow (Int ∷ [])) h.stack g.stack f.stack

  -- ---- objects that aren't built

  built_narrow : (u t : VType) → IsWhole t → (b : Bool) → Goes P C n (λ s. Leads ((pc + 1) ∷ []) (record (built_as u t h s) { built = b })) (λ s. Leads ((pc + 1) ∷ []) (record (built_as u t g s) { built = b }))
  built_narrow u t w b r q a = (
    refl,
    record { locals = becomes_under P C u t h.locals g.locals f.locals; stack = becomes_under P C u t r q a; built = λ e. e },
    record { places = length-map h.locals (become u t); each = become_locals u t w false h.locals hl },
  )

  constructed_narrow : (u t : VType) → IsWhole t → Goes P C n (λ s. Leads ((pc + 1) ∷ []) (built_as u t h s)) (λ s. Leads ((pc + 1) ∷ []) (built_as u t g s))
  constructed_narrow u t w r q a = (
    refl,
    record { locals = becomes_under P C u t h.locals g.locals f.locals; stack = becomes_under P C u t r q a; built = f.built },
    record { places = length-map h.locals (become u t); each = become_locals u t w false h.locals hl },
  )

  constructs_narrow : (k : Method) (c : List ℕ) → GoesBy P C n (λ t s. constructs P k pc c h t s) (λ t s. constructs P k pc c g t s)
  constructs_narrow k c t (Uninit p) r q a b = let e = uninit_down P p t a in rw e (same_so (typed.is_named c (typed.new_class P (slice_get k.ops p))) _ _ (constructed_narrow (Uninit p) (Ref c) tt r q b))
  constructs_narrow k c t UninitThis r q a b = let e = this_down P t a in rw e (same_so (bytes_eq c k.name.class || typed.is_named c (typed.direct_superclass P k.name.class)) _ _ (built_narrow UninitThis (Ref k.name.class) tt true r q b))
  constructs_narrow k c t u r q a b = tt

  new_narrow : IsGoing (λ h. typed.makes_new (list_any (is_uninit (Uninit pc)) h.stack) pc h)
  new_narrow = by (list_any (is_uninit (Uninit pc)) g.stack) refl
    where
      by : (b : Bool) → list_any (is_uninit (Uninit pc)) g.stack ≡ b → Narrower P n (typed.makes_new (list_any (is_uninit (Uninit pc)) h.stack) pc h) (typed.makes_new b pc g)
      by true e = tt
      by false e = let d = uninit_stack P C false (Uninit pc) h.stack g.stack gs f.stack e in rw d (
        refl,
        record { locals = becomes_under P C (Uninit pc) Top h.locals g.locals f.locals; stack = under_append P (Uninit pc ∷ []) (Uninit pc ∷ []) h.stack g.stack (under_same P (Uninit pc ∷ [])) (within_under P C h.stack g.stack f.stack); built = f.built },
        record { places = length-map h.locals (become (Uninit pc) Top); each = become_locals (Uninit pc) Top tt false h.locals hl },
      )

  -- ---- calls, fields and returns

  calls_narrow : (c : Method) → IsGoing (typed.calls P pc c)
  calls_narrow c = each_narrow P C n (reverse c.parameters) _ _ (leaves_narrow (results c)) h.stack g.stack f.stack

  special_narrow : (b : Bool) (k c : Method) → IsGoing (typed.special b P k pc c)
  special_narrow true k c = same_so (not (is_some c.result)) _ _ (each_narrow P C n (reverse (typed.arguments c)) _ _ (top_narrow P C n _ _ (constructs_narrow k c.name.class)) h.stack g.stack f.stack)
  special_narrow false k c = each_narrow P C n (reverse (typed.arguments c)) _ _ (top_narrow P C n _ _ (λ t u r q a b. so_narrow P n (is_within P t (Ref (name_read P k.name.class))) (is_within P u (Ref (name_read P k.name.class))) _ _ (λ e. within_trans P C t u (Ref (name_read P k.name.class)) a e) (λ e. calls_narrow c))) h.stack g.stack f.stack

  field_narrow : (o : Option Field) (k j : Field → Flow) → ((d : Field) → Narrower P n (k d) (j d)) → Narrower P n (typed.field_in o k) (typed.field_in o j)
  field_narrow None k j r = tt
  field_narrow (Some d) k j r = r d

  method_narrow : (o : Option Method) (k j : Method → Flow) → ((d : Method) → Narrower P n (k d) (j d)) → Narrower P n (typed.method_in o k) (typed.method_in o j)
  method_narrow None k j r = tt
  method_narrow (Some d) k j r = r d

  row_narrow : (o : Option Row) (k j : Row → Flow) → ((d : Row) → Narrower P n (k d) (j d)) → Narrower P n (typed.row_in o k) (typed.row_in o j)
  row_narrow None k j r = tt
  row_narrow (Some d) k j r = r d

  receives_narrow : (c : List ℕ) (i : ℕ) (k j : Flow) → Narrower P n k j → Narrower P n (if_so (is_received P c (slice_get h.stack i)) k) (if_so (is_received P c (slice_get g.stack i)) j)
  receives_narrow c i k j r = so_narrow P n (is_received P c (slice_get h.stack i)) (is_received P c (slice_get g.stack i)) k j (received_down P C c (slice_get h.stack i) (slice_get g.stack i) (stack_at i)) (λ e. r)

  puts_narrow : (k : Method) (d : Field) → Goes P C n (λ s. typed.puts P k pc d h s) (λ s. typed.puts P k pc d g s)
  puts_narrow k d = top_narrow P C n _ _ (λ t u r q a b. so_narrow P n _ _ _ _ (puts_down P C d.class (bytes_eq d.class k.name.class) t u a) (λ e. leaves_narrow [] r q b))

  ends_narrow : (b : Bool) → Goes P C n (λ s. typed.ends b (typed.with_stack h s)) (λ s. typed.ends b (typed.with_stack g s))
  ends_narrow true r q a = ways_narrow [] r q (within_under P C r q a)
  ends_narrow false r q a = tt

  return_narrow : (k : Method) → IsGoing (λ h. typed.ends (not (is_some k.result) && (not (typed.is_constructor k) || h.built)) h)
  return_narrow k = by (not (is_some k.result)) (typed.is_constructor k) h.built g.built f.built
    where
      go : Narrower P n (Leads [] h) (Leads [] g)
      go = (refl, record { locals = locals_under; stack = within_under P C h.stack g.stack f.stack; built = f.built }, record { places = refl; each = hl })

      by : (a b x y : Bool) → (IsTrue y → IsTrue x) → Narrower P n (typed.ends (a && (not b || x)) h) (typed.ends (a && (not b || y)) g)
      by false b x y r = tt
      by true false x y r = go
      by true true true true r = go
      by true true false true r = absurd (let no : ⊥ = cc (r refl) in no)
      by true true true false r = tt
      by true true false false r = tt

  called_narrow : (c : ContextCall) → IsGoing (typed.called P c pc)
  called_narrow call.Init = int_narrow P C n _ _ (int_narrow P C n _ _ (on_narrow P C n (Ref context_class) _ _ (leaves_narrow []))) h.stack g.stack f.stack
  called_narrow call.BeforeRead = each_narrow P C n (Second ∷ Long ∷ []) _ _ (on_narrow P C n (Ref object_class) _ _ (on_narrow P C n (Ref context_class) _ _ (leaves_narrow []))) h.stack g.stack f.stack
  called_narrow (call.OnRead t) = each_narrow P C n (Second ∷ Long ∷ []) _ _ (each_narrow P C n (stored_types t) _ _ (on_narrow P C n (Ref object_class) _ _ (on_narrow P C n (Ref context_class) _ _ (leaves_narrow (stored_types t))))) h.stack g.stack f.stack
  called_narrow (call.OnWrite t) = each_narrow P C n (Second ∷ Long ∷ []) _ _ (each_narrow P C n (stored_types t) _ _ (on_narrow P C n (Ref object_class) _ _ (on_narrow P C n (Ref context_class) _ _ (leaves_narrow [])))) h.stack g.stack f.stack
  called_narrow call.BeforeReadElement = int_narrow P C n _ _ (on_narrow P C n (Ref object_class) _ _ (on_narrow P C n (Ref context_class) _ _ (leaves_narrow []))) h.stack g.stack f.stack
  called_narrow (call.OnReadElement t) = int_narrow P C n _ _ (each_narrow P C n (stored_types t) _ _ (on_narrow P C n (Ref object_class) _ _ (on_narrow P C n (Ref context_class) _ _ (leaves_narrow (stored_types t))))) h.stack g.stack f.stack
  called_narrow (call.OnWriteElement t) = int_narrow P C n _ _ (each_narrow P C n (stored_types t) _ _ (on_narrow P C n (Ref object_class) _ _ (on_narrow P C n (Ref context_class) _ _ (leaves_narrow [])))) h.stack g.stack f.stack
  called_narrow call.Commit = taking (Ref context_class ∷ []) (Int ∷ []) ((pc + 1) ∷ [])
  called_narrow call.Rollback = taking (Ref context_class ∷ []) [] ((pc + 1) ∷ [])

  pub flow_narrow : (k : Method) (o : Op) → IsGoing (flow P k pc o)
  flow_narrow k (op.Constant v) = leaves_narrow (typed.constant_types v) h.stack g.stack f.stack
  flow_narrow k (op.Text i) = same_so (is_some (slice_get P.texts i)) _ _ (leaves_narrow (Ref string_class ∷ []) h.stack g.stack f.stack)
  flow_narrow k (op.Load s i) = loads_narrow s i
  flow_narrow k (op.Store s i) = stores_narrow s i
  flow_narrow k (op.Stack r) = rearranged_narrow r
  flow_narrow k (op.Binary w b) = binary_narrow w
  flow_narrow k (op.Shift w b) = int_narrow P C n _ _ (number_narrow P C n w _ _ (leaves_narrow (number_types w))) h.stack g.stack f.stack
  flow_narrow k (op.Divide w d) = binary_narrow w
  flow_narrow k (op.Unary w u) = number_narrow P C n w _ _ (leaves_narrow (number_types w)) h.stack g.stack f.stack
  flow_narrow k (op.Convert c) = converted_narrow c
  flow_narrow k op.CompareLongs = each_narrow P C n (Second ∷ Long ∷ []) _ _ (each_narrow P C n (Second ∷ Long ∷ []) _ _ (leaves_narrow (Int ∷ []))) h.stack g.stack f.stack
  flow_narrow k (op.Increment i d) = int_in_narrow (slice_get h.locals i) (slice_get g.locals i) (local_at i) _ _ (leaves_narrow [] h.stack g.stack f.stack)
  flow_narrow k (op.Branch t to) = int_narrow P C n _ _ (pushes ((pc + 1) ∷ to ∷ []) []) h.stack g.stack f.stack
  flow_narrow k (op.BranchInts t to) = int_narrow P C n _ _ (int_narrow P C n _ _ (pushes ((pc + 1) ∷ to ∷ []) [])) h.stack g.stack f.stack
  flow_narrow k (op.BranchNull b to) = taking (Ref object_class ∷ []) [] ((pc + 1) ∷ to ∷ [])
  flow_narrow k (op.BranchReferences b to) = taking (Ref object_class ∷ Ref object_class ∷ []) [] ((pc + 1) ∷ to ∷ [])
  flow_narrow k (op.Goto to) = pushes (to ∷ []) [] h.stack g.stack f.stack
  flow_narrow k (op.Switch other cases) = int_narrow P C n _ _ (pushes (exits other cases) []) h.stack g.stack f.stack
  flow_narrow k (op.GetStatic i) = field_narrow (field_at P i) _ _ (λ d. same_so (is_some d.base) _ _ (leaves_narrow (stack_types d.declared) h.stack g.stack f.stack))
  flow_narrow k (op.PutStatic i) = field_narrow (field_at P i) _ _ (λ d. same_so (is_some d.base) _ _ (each_narrow P C n (stack_types d.declared) _ _ (leaves_narrow []) h.stack g.stack f.stack))
  flow_narrow k (op.GetField i c) = receives_narrow c 0 _ _ (field_narrow (field_at P i) _ _ (λ d. on_narrow P C n (Ref d.class) _ _ (leaves_narrow (stack_types d.declared)) h.stack g.stack f.stack))
  flow_narrow k (op.PutField i c) = receives_narrow c (typed.value_places (field_at P i)) _ _ (field_narrow (field_at P i) _ _ (λ d. each_narrow P C n (stack_types d.declared) _ _ (puts_narrow k d) h.stack g.stack f.stack))
  flow_narrow k (op.InvokeStatic m) = method_narrow (method_at P m) _ _ (λ c. calls_narrow c)
  flow_narrow k (op.InvokeSpecial m) = method_narrow (method_at P m) _ _ (λ c. special_narrow (typed.is_constructor c) k c)
  flow_narrow k (op.InvokeVirtual m i) = receives_narrow i (typed.argument_places (method_at P m)) _ _ (method_narrow (method_at P m) _ _ (λ c. calls_narrow c))
  flow_narrow k (op.InvokeInterface m i) = method_narrow (method_at P m) _ _ (λ c. calls_narrow c)
  flow_narrow k (op.InitLibrary c i) = each_narrow P C n (replicate i (Ref string_class)) _ _ (top_narrow P C n _ _ (constructs_narrow k c)) h.stack g.stack f.stack
  flow_narrow k (op.New t) = row_narrow (row_at P t) _ _ (λ r. new_narrow)
  flow_narrow k (op.NewArray t) = row_narrow (row_at P t) _ _ (λ r. int_narrow P C n _ _ (leaves_narrow (Ref r.read ∷ [])) h.stack g.stack f.stack)
  flow_narrow k op.ArrayLength = array_length_narrow
  flow_narrow k (op.LoadElement t) = load_element_narrow t
  flow_narrow k (op.StoreElement t) = store_element_narrow t
  flow_narrow k (op.CheckCast c) = taking (Ref object_class ∷ []) (Ref (name_read P c) ∷ []) ((pc + 1) ∷ [])
  flow_narrow k (op.InstanceOf c) = taking (Ref object_class ∷ []) (Int ∷ []) ((pc + 1) ∷ [])
  flow_narrow k op.Return = return_narrow k
  flow_narrow k (op.ReturnValue t) = same_so (typed.returns t k.result) _ _ (each_narrow P C n (results k) _ _ (ends_narrow true) h.stack g.stack f.stack)
  flow_narrow k op.Throw = on_narrow P C n (Ref throwable_class) _ _ (ends_narrow true) h.stack g.stack f.stack
  flow_narrow k op.GetContext = leaves_narrow (Ref context_class ∷ []) h.stack g.stack f.stack
  flow_narrow k (op.Context c) = called_narrow c
