-- Static initialisers among the methods of a program.
use Rattle.std.proofs.Common.{◌≡◌, ℕ, ◌+◌, Bool, true, false, cond, List, [], ◌∷◌, ◌++◌, Option, Some, None, refl, sym, ap, ◌∙◌, append_assoc}
use Rattle.std.specs.Prelude.{filter}
use Rattle.objects.specs.linking.Code.{names_initialiser}
use Rattle.objects.specs.semantics.Program.{Method, Program, method_at}
use Rattle.objects.specs.linking.Linking.{is_initialiser_of, numbers_from}
use Rattle.heap_layout.specs.Starting.{is_initialiser, is_initialiser_at}

-- those that pass a test which a weaker one passes too
narrower : {A : Type 0} (p q : A → Bool) → ((x : A) → q x ≡ false → p x ≡ false) → (xs : List A) → filter p (filter q xs) ≡ filter p xs
narrower p q h [] = refl
narrower {A} p q h (x ∷ xs) = go (q x) refl (narrower p q h xs)
  where
    go : (b : Bool) → q x ≡ b → filter p (filter q xs) ≡ filter p xs → filter p (filter q (x ∷ xs)) ≡ filter p (x ∷ xs)
    go true e next = rw e (ap (λ (l : List A). cond (p x) (x ∷ l) l) next)
    go false e next = rw (e, h x e) next

none_of : (name : List ℕ) (o : Option Method) → is_initialiser o ≡ false → is_initialiser_of name o ≡ false
none_of name None h = refl
none_of name (Some k) h = rw h refl

-- the static initialisers of a class are among those of all
pub of_class : (P : Program) (name : List ℕ) (ms : List ℕ) → filter (λ m. is_initialiser_of name (method_at P m)) (filter (is_initialiser_at P) ms) ≡ filter (λ m. is_initialiser_of name (method_at P m)) ms
of_class P name ms = narrower (λ m. is_initialiser_of name (method_at P m)) (is_initialiser_at P) (λ m. none_of name (method_at P m)) ms

-- ---- the numbers of all, method by method

module _ (P : Program) (n : ℕ) (k : Method) (ks : List Method) (front more total : List ℕ) (there : method_at P n ≡ Some k) (so_far : front ++ filter (is_initialiser_at P) (numbers_from n (k ∷ ks)) ≡ total) where
  step : (b : Bool) → names_initialiser k.name ≡ b → front ++ cond b (n ∷ filter (is_initialiser_at P) (numbers_from (n + 1) ks)) (filter (is_initialiser_at P) (numbers_from (n + 1) ks)) ≡ total
  step b is = ap (λ (t : Bool). front ++ cond t (n ∷ filter (is_initialiser_at P) (numbers_from (n + 1) ks)) (filter (is_initialiser_at P) (numbers_from (n + 1) ks))) (sym (ap is_initialiser there ∙ is)) ∙ so_far

  -- a static initialiser is put
  pub one_put : names_initialiser k.name ≡ true → more ≡ front ++ n ∷ [] → more ++ filter (is_initialiser_at P) (numbers_from (n + 1) ks) ≡ total
  one_put is put = ap (λ (l : List ℕ). l ++ filter (is_initialiser_at P) (numbers_from (n + 1) ks)) put ∙ append_assoc front (n ∷ []) (filter (is_initialiser_at P) (numbers_from (n + 1) ks)) ∙ step true is

  -- another method is passed over
  pub one_passed : names_initialiser k.name ≡ false → more ≡ front → more ++ filter (is_initialiser_at P) (numbers_from (n + 1) ks) ≡ total
  one_passed is same = ap (λ (l : List ℕ). l ++ filter (is_initialiser_at P) (numbers_from (n + 1) ks)) same ∙ step false is
