-- Locals, and whether the last has the first place of a long.
use Rattle.std.proofs.Common.{◌≡◌, ℕ, zero, suc, ◌+◌, ◌-◌, ◌<◌, arith, List, [], ◌∷◌, ◌++◌, replicate, Option, Some, None, Bool, refl, sym, ap, ◌∙◌}
use Rattle.std.specs.Prelude.{not, option_and_then}
use Rattle.jmodel.specs.declared.typing.VType.{VType}
use Rattle.verifier.specs.Search.{some_and, next_local, after_all, are_locals_after}

pub ends_are : (after : Bool) (ts : List VType) → are_locals_after after ts ≡ some_and (after_all after ts) not
ends_are after [] = refl
ends_are after (t ∷ ts) = by (λ b. ends_are b ts) (next_local after t)
  where
    by : ((b : Bool) → are_locals_after b ts ≡ some_and (after_all b ts) not) → (o : Option Bool) → some_and o (λ (b : Bool). are_locals_after b ts) ≡ some_and (option_and_then (λ (b : Bool). after_all b ts) o) not
    by rest None = refl
    by rest (Some b) = rest b

pub after_parts : (after : Bool) (xs ys : List VType) → after_all after (xs ++ ys) ≡ option_and_then (λ (b : Bool). after_all b ys) (after_all after xs)
after_parts after [] ys = refl
after_parts after (x ∷ xs) ys = by (λ b. after_parts b xs ys) (next_local after x)
  where
    by : ((b : Bool) → after_all b (xs ++ ys) ≡ option_and_then (λ (b : Bool). after_all b ys) (after_all b xs)) → (o : Option Bool) → option_and_then (λ (b : Bool). after_all b (xs ++ ys)) o ≡ option_and_then (λ (b : Bool). after_all b ys) (option_and_then (λ (b : Bool). after_all b xs) o)
    by rest None = refl
    by rest (Some b) = rest b

-- of a type that leaves it as it was, any number does
pub run_stays : (after : Bool) (t : VType) (n : ℕ) → next_local after t ≡ Some after → after_all after (replicate n t) ≡ Some after
run_stays after t zero e = refl
run_stays after t (suc n) e = rw e (run_stays after t n e)

pub run_step : (a b : Bool) (t : VType) (c k : ℕ) → next_local a t ≡ Some b → k < c → after_all a (replicate (c - k) t) ≡ after_all b (replicate (c - (k + 1)) t)
run_step a b t c k e h = let n : c - k ≡ suc (c - (k + 1)) = omega (arith, h) in rw (n, e) refl

pub run_none : (a : Bool) (t : VType) (c k : ℕ) → next_local a t ≡ None → k < c → None ≡ after_all a (replicate (c - k) t)
run_none a t c k e h = let n : c - k ≡ suc (c - (k + 1)) = omega (arith, h) in rw (n, e) refl

pub parts_some : (a b : Bool) (ts l r : List VType) → ts ≡ l ++ r → after_all a l ≡ Some b → after_all b r ≡ after_all a ts
parts_some a b ts l r e f = sym (ap (after_all a) e ∙ after_parts a l r ∙ ap (option_and_then (λ (b : Bool). after_all b r)) f)

pub parts_none : (a : Bool) (ts l r : List VType) → ts ≡ l ++ r → after_all a l ≡ None → None ≡ after_all a ts
parts_none a ts l r e f = sym (ap (after_all a) e ∙ after_parts a l r ∙ ap (option_and_then (λ (b : Bool). after_all b r)) f)
