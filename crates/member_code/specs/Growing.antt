-- What is added to a class together with entries of its pool, or why it can't be.
use Rattle.std.specs.Prelude.{◌≡◌, ℕ, ◌+◌, List, [], ◌∷◌, Result, Ok, Err}
use Rattle.jmodel.specs.declared.refusal.Refusal.{Refusal}
use Rattle.jmodel.specs.declared.refusal.Halt.{Halt}
use Rattle.jmodel.specs.format.ClassFile.{Pool}
use Rattle.jmodel.specs.format.Reading.{◌>>=◌, Fails}

-- what is added, with the pool that is left, or a refusal
abbrev pub Growth : Type 0 → Type 0
Growth A = Result (A × Pool) Refusal

-- What was answered, seen by view, with the pool that was left, is what adding gives, unless memory ran out.
abbrev pub Grows : {X Y : Type 0} → (X → Y) → Result X Halt → Pool → Growth Y → Type 0
Grows view (Ok x) pool added = added ≡ Ok (view x, pool)
Grows view (Err e) pool added = Fails e added

-- What was changed in place is what a change gives, unless memory ran out.
abbrev pub Becomes : {X Y : Type 0} → Result X Halt → Y → Result Y Refusal → Type 0
Becomes (Ok x) new changed = changed ≡ Ok new
Becomes (Err e) new changed = Fails e changed

-- what each item gives, the first with number n, one after another
abbrev pub grow_from : {A B : Type 0} → (ℕ → A → Pool → Growth B) → ℕ → List A → Pool → Growth (List B)
grow_from f n [] pool = Ok ([], pool)
grow_from f n (x ∷ xs) pool = do
  first ← f n x pool
  others ← grow_from f (n + 1) xs first.1
  Ok (first.0 ∷ others.0, others.1)
