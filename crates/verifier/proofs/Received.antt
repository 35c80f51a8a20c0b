-- What instructions that go by an object's class do, as tests and what follows them.
use Rattle.std.proofs.Common.{◌≡◌, ℕ, suc, ◌≤◌, List, [], ◌∷◌, ◌++◌, length, reverse, drop, Option, Some, None, Bool, true, false, refl, sym, ap, subst, ◌∙◌}
use Rattle.std.proofs.lemmas.Grind.{reverse_onto}
use Rattle.std.proofs.lemmas.List.{length-reverse, drop_all}
use Rattle.std.specs.Prelude.{◌&&◌, bytes_eq, slice_get, if◌then◌else◌}
use Rattle.jmodel.specs.declared.typing.VType.{VType}
use Rattle.jmodel.specs.declared.typing.VType.TheVariants.{Ref}
use Rattle.objects.specs.declared.op.Op.TheVariants as op
use Rattle.objects.specs.semantics.Program.{Field, Method, Program, field_at, method_at}
use Rattle.objects.specs.typing.TypeOrder.{name_read, stack_types, is_within}
use Rattle.objects.specs.typing.Typing as typed
use Rattle.objects.specs.typing.Typing.{Types, Flow, Leads, Wrong, arguments, field_in, if_so, is_received, local_in, method_in, on_each, on_top, puts, results, special, argument_places, value_places}
use Rattle.verifier.specs.Flows.{is_at_most, is_put}
use Rattle.verifier.specs.Rules.{Rule, are_taken, next, rule, ruled}
use Rattle.verifier.proofs.Parts.{top_at}
use Rattle.verifier.proofs.Ruled.{each_is}

-- a test before what is wrong
so_wrong : (b : Bool) → if_so b Wrong ≡ Wrong
so_wrong true = refl
so_wrong false = refl

module _ (P : Program) (k : Method) (pc : ℕ) (h : Types) where
  -- a store to a field of the object under so many places
  pub puts_is : (f : Field) (n : ℕ) → puts P k pc f h (drop n h.stack) ≡ if_so (is_put P (bytes_eq f.class k.name.class) f.class (slice_get h.stack n)) (typed.leaves pc h (drop (suc n) h.stack))
  puts_is f n = top_at n h.stack _ ∙ go (slice_get h.stack n)
    where
      go : (o : Option VType) → local_in o (λ t. if_so (is_put P (bytes_eq f.class k.name.class) f.class (Some t)) (typed.leaves pc h (drop (suc n) h.stack))) ≡ if_so (is_put P (bytes_eq f.class k.name.class) f.class o) (typed.leaves pc h (drop (suc n) h.stack))
      go None = refl
      go (Some t) = refl

  pub puts_past : (f : Field) (n : ℕ) → length h.stack ≤ n → Wrong ≡ puts P k pc f h (drop n h.stack)
  puts_past f n le = let e = drop_all n h.stack le in rw e refl

  abbrev stored : List ℕ → Field → Flow
  stored c f = if_so (is_received P c (slice_get h.stack (length (stack_types f.declared)))) (if are_taken P (stack_types f.declared) h.stack then puts P k pc f h (drop (length (stack_types f.declared)) h.stack) else Wrong)

  -- a write of an object's field
  pub put_field_is : (n : ℕ) (c : List ℕ) → typed.flow P k pc (op.PutField n c) h ≡ field_in (field_at P n) (stored c)
  put_field_is n c = go (field_at P n)
    where
      go : (o : Option Field) → if_so (is_received P c (slice_get h.stack (value_places o))) (field_in o (λ f. on_each P (stack_types f.declared) h.stack (λ s. puts P k pc f h s))) ≡ field_in o (stored c)
      go None = so_wrong (is_received P c (slice_get h.stack 0))
      go (Some f) = ap (if_so (is_received P c (slice_get h.stack (length (stack_types f.declared))))) (each_is P (stack_types f.declared) h.stack (λ s. puts P k pc f h s))

  abbrev by_call : Method → Flow
  by_call d = ruled P h (rule (reverse d.parameters) (results d) (next pc))

  call_is : (d : Method) → on_each P (reverse d.parameters) h.stack (λ s. typed.leaves pc h (results d ++ s)) ≡ by_call d
  call_is d = each_is P (reverse d.parameters) h.stack (λ s. typed.leaves pc h (results d ++ s))

  -- a call that an object's class selects
  pub virtual_of : (m : ℕ) (c : List ℕ) → typed.flow P k pc (op.InvokeVirtual m c) h ≡ method_in (method_at P m) (λ d. if_so (is_received P c (slice_get h.stack (length (arguments d)))) (by_call d))
  virtual_of m c = go (method_at P m)
    where
      go : (o : Option Method) → if_so (is_received P c (slice_get h.stack (argument_places o))) (method_in o (λ d. typed.calls P pc d h)) ≡ method_in o (λ d. if_so (is_received P c (slice_get h.stack (length (arguments d)))) (by_call d))
      go None = so_wrong (is_received P c (slice_get h.stack 0))
      go (Some d) = ap (if_so (is_received P c (slice_get h.stack (length (arguments d))))) (call_is d)

  -- such a call where its object is received, by its rule
  pub virtual_some : (m : ℕ) (c : List ℕ) (d : Method) (r : Option Rule) → method_at P m ≡ Some d → r ≡ rule (reverse d.parameters) (results d) (next pc) → is_received P c (slice_get h.stack (length (arguments d))) ≡ true → ruled P h r ≡ typed.flow P k pc (op.InvokeVirtual m c) h
  virtual_some m c d r e f x =
      sym (virtual_of m c ∙ ap (λ (o : Option Method). method_in o (λ d. if_so (is_received P c (slice_get h.stack (length (arguments d)))) (by_call d))) e ∙ ap (λ (b : Bool). if_so b (by_call d)) x ∙ ap (ruled P h) (sym f))

-- fewer places are taken where more are
taken_first : (P : Program) (a b s : List VType) → are_taken P (a ++ b) s ≡ true → are_taken P a s ≡ true
taken_first P [] b s e = refl
taken_first P (t ∷ a) b [] e = e
taken_first P (t ∷ a) b (u ∷ s) e = go (λ e. taken_first P a b s e) (is_within P u t) e
  where
    go : (are_taken P (a ++ b) s ≡ true → are_taken P a s ≡ true) → (x : Bool) → (x && are_taken P (a ++ b) s) ≡ true → (x && are_taken P a s) ≡ true
    go more true e = more e
    go more false e = e

-- the arguments are the parameters behind the first
pub arguments_are : (c : Method) → arguments c ≡ drop 1 c.parameters
arguments_are c = go c.parameters
  where
    go : (ts : List VType) → arguments (record c { parameters = ts }) ≡ drop 1 ts
    go [] = refl
    go (t ∷ ts) = refl

-- the arguments of a call are taken where its object is too
taken_arguments : (P : Program) (c : Method) (s : List VType) → are_taken P (reverse c.parameters) s ≡ true → are_taken P (reverse (arguments c)) s ≡ true
taken_arguments P c s e = rw (arguments_are c) (go c.parameters e)
  where
    go : (ts : List VType) → are_taken P (reverse ts) s ≡ true → are_taken P (reverse (drop 1 ts)) s ≡ true
    go [] e = e
    go (t ∷ ts) e = taken_first P (reverse ts) (t ∷ []) s (subst (λ (l : List VType). are_taken P l s ≡ true) (reverse_onto ts t []) e)

-- a test that another one has in it says nothing more
tested_once : (a b t : Bool) (f : Flow) → (t ≡ true → a ≡ true) → (if a then if_so b (if t then f else Wrong) else Wrong) ≡ if_so b (if t then f else Wrong)
tested_once true b t f i = refl
tested_once false b true f i = absurd (let no : ⊥ = cc (i refl) in no)
tested_once false b false f i = sym (so_wrong b)

module _ (P : Program) (k : Method) (pc : ℕ) (h : Types) where
  abbrev own : List ℕ
  own = name_read P k.name.class

  object_in : (o : Option VType) (f : Flow) → local_in o (λ t. if_so (is_within P t (Ref own)) f) ≡ if_so (is_at_most P own o) f
  object_in None f = refl
  object_in (Some t) f = refl

  -- a call by name of a method over an object
  pub own_is : (c : Method) → special false P k pc c h ≡ if_so (is_at_most P own (slice_get h.stack (length (arguments c)))) (ruled P h (rule (reverse c.parameters) (results c) (next pc)))
  own_is c =
      let ts = reverse (arguments c) in
      let called : Flow = on_each P (reverse c.parameters) h.stack (λ s. typed.leaves pc h (results c ++ s)) in
      let f : Flow = Leads (next pc) (typed.with_stack h (results c ++ drop (length (reverse c.parameters)) h.stack)) in
      each_is P ts h.stack (λ s. on_top s (λ t u. if_so (is_within P t (Ref own)) called))
      ∙ ap (λ (f : Flow). if are_taken P ts h.stack then f else Wrong) (top_at (length ts) h.stack (λ t u. if_so (is_within P t (Ref own)) called) ∙ object_in (slice_get h.stack (length ts)) called)
      ∙ ap (λ (n : ℕ). if are_taken P ts h.stack then if_so (is_at_most P own (slice_get h.stack n)) called else Wrong) (length-reverse (arguments c))
      ∙ ap (λ (f : Flow). if are_taken P ts h.stack then if_so (is_at_most P own (slice_get h.stack (length (arguments c)))) f else Wrong) (call_is P k pc h c)
      ∙ tested_once (are_taken P ts h.stack) (is_at_most P own (slice_get h.stack (length (arguments c)))) (are_taken P (reverse c.parameters) h.stack) f (taken_arguments P c h.stack)

  -- such a call where its object is at most of the current class, by its rule
  pub own_some : (c : Method) (r : Option Rule) → r ≡ rule (reverse c.parameters) (results c) (next pc) → is_at_most P own (slice_get h.stack (length (arguments c))) ≡ true → ruled P h r ≡ special false P k pc c h
  own_some c r e x = sym (own_is c ∙ ap (λ (b : Bool). if_so b (ruled P h (rule (reverse c.parameters) (results c) (next pc)))) x ∙ ap (ruled P h) (sym e))

  -- and where it isn't
  pub own_none : (c : Method) → is_at_most P own (slice_get h.stack (length (arguments c))) ≡ false → Wrong ≡ special false P k pc c h
  own_none c x = sym (own_is c ∙ ap (λ (b : Bool). if_so b (ruled P h (rule (reverse c.parameters) (results c) (next pc)))) x)
