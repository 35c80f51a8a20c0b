-- What an option or an answer gives, another gives too.
use Rattle.std.proofs.Common.{◌≡◌, Bool, true, false, List, [], ◌∷◌, Option, Some, None, Result, Ok, Err, refl, ◌∙◌}
use Rattle.std.specs.Prelude.{if◌then◌else◌, option_map, option_and_then}
use Rattle.std.specs.List.{AllByRecursion}
use Rattle.jmodel.specs.declared.refusal.Refusal.{Refusal}
use Rattle.jmodel.specs.format.Reading.{◌>>=◌}
use Rattle.objects.specs.linking.Each.{in_front, each}

-- ---- options

-- what the first has, the second has
pub record Kept {A : Type 0} (x y : Option A) : Type 0 where
  pub kept : (o : A) → x ≡ Some o → y ≡ Some o

-- nothing is kept by everything
pub kept_none : {A : Type 0} (y : Option A) → Kept None y
kept_none y = record { kept = λ o e. absurd cc }

-- an option keeps itself
pub kept_refl : {A : Type 0} (x : Option A) → Kept x x
kept_refl x = record { kept = λ o e. e }

-- so do two that are one
pub kept_same : {A : Type 0} (x y : Option A) → y ≡ x → Kept x y
kept_same x y s = record { kept = λ o e. s ∙ e }

-- a choice by one test
pub kept_when : {A : Type 0} (b : Bool) (x x' y y' : Option A) → Kept x x' → Kept y y' → Kept (if b then x else y) (if b then x' else y')
kept_when true x x' y y' p q = p
kept_when false x x' y y' p q = q

-- a function of what is there
pub kept_map : {A B : Type 0} (f : A → B) (x y : Option A) → Kept x y → Kept (option_map f x) (option_map f y)
kept_map f None y h = kept_none (option_map f y)
kept_map f (Some a) y h = let e = h.kept a refl in rw e (kept_refl _)

-- a function that may give nothing
pub kept_then : {A B : Type 0} (f g : A → Option B) (x y : Option A) → Kept x y → ((a : A) → x ≡ Some a → Kept (f a) (g a)) → Kept (option_and_then f x) (option_and_then g y)
kept_then f g None y h k = kept_none (option_and_then g y)
kept_then f g (Some a) y h k = let e = h.kept a refl in rw e (k a refl)

-- lists of them
pub kept_each : {A B : Type 0} (f g : A → Option B) (xs : List A) → AllByRecursion (λ x. Kept (f x) (g x)) xs → Kept (each f xs) (each g xs)
kept_each f g [] all = kept_refl (Some [])
kept_each {A} {B} f g (x ∷ xs) all = record { kept = λ os e. go os (f x) refl (each f xs) refl e (kept_each f g xs all.1) }
  where
    go : (os : List B) (o : Option B) → f x ≡ o → (r : Option (List B)) → each f xs ≡ r → in_front o r ≡ Some os → Kept (each f xs) (each g xs) → in_front (g x) (each g xs) ≡ Some os
    go os None p r q e rest = cc
    go os (Some y) p None q e rest = cc
    go os (Some y) p (Some ys) q e rest = let a = all.0.kept y p in let b = rest.kept ys q in rw (a, b) e

-- ---- answers

-- what is read the one way, is read the other way too
pub record Keeps {A : Type 0} (r s : Result A Refusal) : Type 0 where
  pub keeps : (x : A) → r ≡ Ok x → s ≡ Ok x

-- of a fault nothing is read
pub keeps_err : {A : Type 0} (r : Refusal) (s : Result A Refusal) → Keeps (Err r) s
keeps_err r s = record { keeps = λ x e. absurd cc }

-- an answer keeps itself
pub keeps_refl : {A : Type 0} (r : Result A Refusal) → Keeps r r
keeps_refl r = record { keeps = λ x e. e }

-- one reading behind another
pub keeps_then : {A B : Type 0} (r s : Result A Refusal) (f g : A → Result B Refusal) → Keeps r s → ((x : A) → Keeps (f x) (g x)) → Keeps (r >>= f) (s >>= g)
keeps_then (Err e) s f g h k = keeps_err e (s >>= g)
keeps_then (Ok x) s f g h k = let e = h.keeps x refl in rw e (k x)

-- a choice by one test
pub keeps_when : {A : Type 0} (b : Bool) (r r' s s' : Result A Refusal) → Keeps r r' → Keeps s s' → Keeps (if b then r else s) (if b then r' else s')
keeps_when true r r' s s' p q = p
keeps_when false r r' s s' p q = q
