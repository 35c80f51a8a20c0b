-- What keeps the rules of class files over a pool keeps them over one that has grown.
use Rattle.std.proofs.Common.{◌≡◌, ℕ, zero, suc, ◌≤◌, inl, inr, Bool, true, false, List, [], ◌∷◌, length, Option, Some, refl, sym, ap, ◌∙◌, subst, arith}
use Rattle.std.specs.Prelude.{codes, cond, filter, is_some, IsSome, IsSomeAnd}
use Rattle.std.specs.List.{AllByRecursion}
use Rattle.jmodel.specs.declared.class_file.Handler.{Handler}
use Rattle.jmodel.specs.format.ClassFile.{Attribute, Member, Pool, Code}
use Rattle.jmodel.specs.format.Pool.{utf8, class_name}
use Rattle.jmodel.specs.format.ClassRules.{IsTwoBytes, IsPool, IsAttribute, AreAttributes, IsHandler, IsCode, is_named, named_attributes, has_no_code, AreCodes, IsMember, IsMethod}
use Rattle.member_code.proofs.Grown.{the_some, the_and, Grown, utf8_grown, class_grown}
use Rattle.rewritten_form.proofs.Lists.{all_as}

-- ---- names of attributes

-- a text names the same in a pool and a longer one
pub named_same : (pool Z : Pool) → Grown pool Z → (name : List ℕ) (a : Attribute) → IsAttribute pool a → is_named Z name a ≡ is_named pool name a
named_same pool Z G name a h =
    let t = the_some (utf8 pool a.name) h.named in
    let here = t.1 in
    let there = utf8_grown pool Z G a.name t.0 t.1 in
    rw (here, there) refl

-- ---- indexes

-- the index of a text is one of the pool
text_within : (Z : Pool) (i : ℕ) (t : List ℕ) → utf8 Z i ≡ Some t → i ≤ length Z
text_within Z zero t e = omega arith
text_within [] (suc i) t e = absurd cc
text_within (c ∷ Z) (suc zero) t e = omega arith
text_within (c ∷ Z) (suc (suc i)) t e = omega (arith, text_within Z (suc i) t e)

-- so it has two bytes
pub two_bytes : (Z : Pool) → IsPool Z → (i : ℕ) (t : List ℕ) → utf8 Z i ≡ Some t → IsTwoBytes i
two_bytes Z p i t e = omega (arith, p.few, text_within Z i t e)

-- ---- what an index names

-- an index that names a text names one
pub some_text : (o : Option (List ℕ)) (t : List ℕ) → o ≡ Some t → IsSome o
some_text o t e = ap is_some e

-- an index that names a fitting text names a fitting one
pub text_fits : (Q : List ℕ → Type 0) (o : Option (List ℕ)) (t : List ℕ) → o ≡ Some t → Q t → IsSomeAnd o Q
text_fits Q o t e h = subst (λ (x : Option (List ℕ)). IsSomeAnd x Q) (sym e) h

module _ (a b : Pool) (G : Grown a b) where
  -- the name of a text
  text_still : (i : ℕ) → IsSome (utf8 a i) → IsSome (utf8 b i)
  text_still i h = let t = the_some (utf8 a i) h in some_text (utf8 b i) t.0 (utf8_grown a b G i t.0 t.1)

  -- the name of a class
  pub class_still : (i : ℕ) → IsSome (class_name a i) → IsSome (class_name b i)
  class_still i h = let t = the_some (class_name a i) h in some_text (class_name b i) t.0 (class_grown a b G i t.0 t.1)

  -- the name of a text that fits
  text_still_fits : (Q : List ℕ → Type 0) (i : ℕ) → IsSomeAnd (utf8 a i) Q → IsSomeAnd (utf8 b i) Q
  text_still_fits Q i h =
      let t = the_and (utf8 a i) Q h in
      text_fits Q (utf8 b i) t.0 (utf8_grown a b G i t.0 t.1) (subst (λ (o : Option (List ℕ)). IsSomeAnd o Q) t.1 h)

  -- the name of a class whose name fits
  pub class_still_fits : (Q : List ℕ → Type 0) (i : ℕ) → IsSomeAnd (class_name a i) Q → IsSomeAnd (class_name b i) Q
  class_still_fits Q i h =
      let t = the_and (class_name a i) Q h in
      text_fits Q (class_name b i) t.0 (class_grown a b G i t.0 t.1) (subst (λ (o : Option (List ℕ)). IsSomeAnd o Q) t.1 h)

  -- ---- attributes and code

  -- an attribute
  pub attribute_still : (x : Attribute) → IsAttribute a x → IsAttribute b x
  attribute_still x h = record { name = h.name; named = text_still x.name h.named; short = h.short }

  -- a list of attributes
  pub attributes_still : (xs : List Attribute) → AreAttributes a xs → AreAttributes b xs
  attributes_still xs h = record { few = h.few; each = all_as (IsAttribute a) (IsAttribute b) attribute_still xs h.each }

  -- an exception entry
  handler_still : (n : ℕ) (x : Handler) → IsHandler a n x → IsHandler b n x
  handler_still n x h = record { some = h.some; inside = h.inside; target = h.target; catches = elim h.catches [ inl z ↦ inl z | inr s ↦ inr (class_still x.catch_type s) ]; class = h.class }

  -- the code of a method
  code_still : (k : Code) → IsCode a k → IsCode b k
  code_still k h = record {
    stack = h.stack;
    locals = h.locals;
    some = h.some;
    short = h.short;
    few = h.few;
    handlers = all_as (IsHandler a (length k.code)) (IsHandler b (length k.code)) (handler_still (length k.code)) k.handlers h.handlers;
    attributes = attributes_still k.attributes h.attributes;
  }

  -- the Code attributes of a method
  codes_still : (none : Bool) (xs : List Attribute) → AreCodes a none xs → AreCodes b none xs
  codes_still true xs h = h
  codes_still false xs h = (h.0, h.1, h.2, record { code = code_still h.1 h.3.code; is = h.3.is })

  -- attributes of a name are the same
  pub named_still : (name : List ℕ) (xs : List Attribute) → AllByRecursion (IsAttribute a) xs → named_attributes b name xs ≡ named_attributes a name xs
  named_still name [] h = refl
  named_still name (x ∷ xs) h =
      let same = named_same a b G name x h.0 in
      let rest = named_still name xs h.1 in
      ap (λ (v : Bool). cond v (x ∷ filter (is_named b name) xs) (filter (is_named b name) xs)) same ∙ ap (λ (l : List Attribute). cond (is_named a name x) (x ∷ l) l) rest

  -- ---- members

  -- a field or a method by its name, its descriptor and its attributes
  pub member_still : (Fits : List ℕ → Type 0) (m : Member) → IsMember a Fits m → IsMember b Fits m
  member_still Fits m h = record {
    flags = h.flags;
    name = h.name;
    descriptor = h.descriptor;
    named = text_still m.name h.named;
    typed = text_still_fits Fits m.descriptor h.typed;
    attributes = attributes_still m.attributes h.attributes;
  }

  -- a method
  pub method_still : (m : Member) → IsMethod a m → IsMethod b m
  method_still m h = record {
    member = member_still _ m h.member;
    codes_fit = subst (AreCodes b (has_no_code m.flags)) (sym (named_still (codes "Code") m.attributes h.member.attributes.each))
        (codes_still (has_no_code m.flags) (named_attributes a (codes "Code") m.attributes) h.codes_fit);
  }
