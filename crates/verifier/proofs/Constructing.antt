-- What constructors do, as tests and what follows them.
use Rattle.std.proofs.Common.{◌≡◌, ℕ, List, [], ◌∷◌, length, reverse, drop, Bool, true, refl, sym, ap, ◌∙◌}
use Rattle.std.proofs.lemmas.List.{length-replicate}
use Rattle.std.specs.Prelude.{not, is_some, replicate, if◌then◌else◌}
use Rattle.jmodel.specs.declared.typing.VType.{VType}
use Rattle.jmodel.specs.declared.typing.VType.TheVariants.{Ref, Uninit, UninitThis}
use Rattle.objects.specs.semantics.Program.{Method, Program}
use Rattle.objects.specs.typing.TypeOrder.{string_class}
use Rattle.objects.specs.typing.Typing.{Types, Flow, Leads, Wrong, arguments, constructs, if_so, on_each, on_top, special}
use Rattle.verifier.specs.Flows.{constructed, may_construct}
use Rattle.verifier.specs.Rules.{are_taken, next}
use Rattle.verifier.proofs.Ruled.{each_is}

module _ (P : Program) (k : Method) (pc : ℕ) (h : Types) where
  -- a constructor runs over an object where it may
  constructs_is : (c : List ℕ) (t : VType) (s : List VType) → constructs P k pc c h t s ≡ if_so (may_construct P k c t) (Leads (next pc) (constructed k c h t s))
  constructs_is c (Uninit p) s = refl
  constructs_is c UninitThis s = refl
  constructs_is c t s = refl

  abbrev built : List ℕ → VType → List VType → Flow
  built c t s = if_so (may_construct P k c t) (Leads (next pc) (constructed k c h t s))

  -- so over the object under so many places
  pub constructs_over : (c : List ℕ) (r : List VType) (n : ℕ) (t : VType) (s : List VType) → r ≡ drop n h.stack → r ≡ t ∷ s → on_top (drop n h.stack) (λ t s. constructs P k pc c h t s) ≡ built c t s
  constructs_over c r n t s e f = ap (λ (r : List VType). on_top r (λ t s. constructs P k pc c h t s)) (sym e ∙ f) ∙ constructs_is c t s

  pub constructs_none : (c : List ℕ) (r : List VType) (n : ℕ) → r ≡ drop n h.stack → r ≡ [] → on_top (drop n h.stack) (λ t s. constructs P k pc c h t s) ≡ Wrong
  constructs_none c r n e f = ap (λ (r : List VType). on_top r (λ t s. constructs P k pc c h t s)) (sym e ∙ f)

  -- a call of a constructor
  pub constructor_is : (c : Method) → special true P k pc c h ≡ if_so (not (is_some c.result)) (if are_taken P (reverse (arguments c)) h.stack then on_top (drop (length (reverse (arguments c))) h.stack) (λ t s. constructs P k pc c.name.class h t s) else Wrong)
  constructor_is c = ap (if_so (not (is_some c.result))) (each_is P (reverse (arguments c)) h.stack (λ s. on_top s (λ t s. constructs P k pc c.name.class h t s)))

  library_is : (c : List ℕ) (n : ℕ) → on_each P (replicate n (Ref string_class)) h.stack (λ s. on_top s (λ t s. constructs P k pc c h t s)) ≡ (if are_taken P (replicate n (Ref string_class)) h.stack then on_top (drop n h.stack) (λ t s. constructs P k pc c h t s) else Wrong)
  library_is c n =
      each_is P (replicate n (Ref string_class)) h.stack (λ s. on_top s (λ t s. constructs P k pc c h t s))
      ∙ ap (λ (m : ℕ). if are_taken P (replicate n (Ref string_class)) h.stack then on_top (drop m h.stack) (λ t s. constructs P k pc c h t s) else Wrong) (length-replicate n (Ref string_class))

  -- a call of a constructor of the library, as its strings are there or not
  pub library_by : (c : List ℕ) (n : ℕ) (b : Bool) → are_taken P (replicate n (Ref string_class)) h.stack ≡ b → (if b then on_top (drop n h.stack) (λ t s. constructs P k pc c h t s) else Wrong) ≡ on_each P (replicate n (Ref string_class)) h.stack (λ s. on_top s (λ t s. constructs P k pc c h t s))
  library_by c n b e = sym (library_is c n ∙ ap (λ (b : Bool). if b then on_top (drop n h.stack) (λ t s. constructs P k pc c h t s) else Wrong) e)
