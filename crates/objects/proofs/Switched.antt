-- Where switches go.
use Rattle.std.proofs.Common.{◌≡◌, ℕ, ℤ, List, [], ◌∷◌, map, Bool, true, false, refl, ap}
use Rattle.std.specs.Prelude.{if◌then◌else◌}
use Rattle.std.specs.List.{AllByRecursion}
use Rattle.std.specs.Ordering.{int_eq}
use Rattle.objects.specs.semantics.Step.{switched}
use Rattle.objects.specs.typing.Typing.{exits}
use Rattle.objects.specs.rewriting.Rewriting.{moved_cases}

-- what all exits of a switch have, the place has where it goes
pub switched_has : (P : ℕ → Type 0) (other : ℕ) (cases : List (ℤ × ℕ)) (x : ℤ) → P other → AllByRecursion (λ (c : ℤ × ℕ). P c.1) cases → P (switched other cases x)
switched_has P other [] x p all = p
switched_has P other ((key, to) ∷ cases) x p all = go (int_eq key x) (switched_has P other cases x p all.1)
  where
    go : (b : Bool) → P (switched other cases x) → P (if b then to else switched other cases x)
    go true rest = all.0
    go false rest = rest

pub each_exit : (P : ℕ → Type 0) (cases : List (ℤ × ℕ)) → AllByRecursion P (map (λ (c : ℤ × ℕ). c.1) cases) → AllByRecursion (λ (c : ℤ × ℕ). P c.1) cases
each_exit P [] all = tt
each_exit P (c ∷ cases) all = (all.0, each_exit P cases all.1)

pub exit_has : (P : ℕ → Type 0) (other : ℕ) (cases : List (ℤ × ℕ)) (x : ℤ) → AllByRecursion P (exits other cases) → P (switched other cases x)
exit_has P other cases x all = switched_has P other cases x all.0 (each_exit P cases all.1)

-- a switch whose targets are moved goes where the place is moved to which the old one goes
pub switched_moved : (at : ℕ → ℕ) (other : ℕ) (cases : List (ℤ × ℕ)) (x : ℤ) → switched (at other) (moved_cases at cases) x ≡ at (switched other cases x)
switched_moved at other [] x = refl
switched_moved at other ((key, to) ∷ cases) x = go (int_eq key x) (switched_moved at other cases x)
  where
    go : (b : Bool) → switched (at other) (moved_cases at cases) x ≡ at (switched other cases x)
        → (if b then at to else switched (at other) (moved_cases at cases) x) ≡ at (if b then to else switched other cases x)
    go true e = refl
    go false e = e

targets_moved : (at : ℕ → ℕ) (cases : List (ℤ × ℕ)) → map (λ (c : ℤ × ℕ). c.1) (moved_cases at cases) ≡ map at (map (λ (c : ℤ × ℕ). c.1) cases)
targets_moved at [] = refl
targets_moved at (c ∷ cases) = ap (λ (l : List ℕ). at c.1 ∷ l) (targets_moved at cases)

pub exits_moved : (at : ℕ → ℕ) (other : ℕ) (cases : List (ℤ × ℕ)) → exits (at other) (moved_cases at cases) ≡ map at (exits other cases)
exits_moved at other cases = ap (λ (l : List ℕ). at other ∷ l) (targets_moved at cases)
