-- Finite maps.
use Rattle.std.proofs.Common.{◌==◌, ◌++◌, ◌≡◌, ◌≢◌, ◌⊎◌, ℕ, Bool, true, false, cond, [], ◌∷◌, sym, refl, ap, ◌∙◌, inl, inr, ⊎_elim, eq-eqb, ne_eqb}
use mathlib.Core.Option.{none, some, some-injective, some-ne-none}
use mathlib.Core.Logic.{dite}
use native.Mathlib.Decide.{ℕ_discrete}
use Rattle.tx_table.specs.Book.{Map, lookup, without, only}

pub eq_cond : {A : Type 0} (i j : ℕ) (x y : A) → i ≡ j → cond (i == j) x y ≡ x
eq_cond i j x y e = rw (eq-eqb i j e) refl

pub ne_cond : {A : Type 0} (i j : ℕ) (x y : A) → i ≢ j → cond (i == j) x y ≡ y
ne_cond i j x y e = rw (ne_eqb i j e) refl

pub lookup_here : {A : Type 0} (m : Map A) (k : ℕ) (v : A) → lookup ((k, v) ∷ m) k ≡ some v
lookup_here m k v = eq_cond k k (some v) (lookup m k) refl

pub lookup_else : {A : Type 0} (m : Map A) (k : ℕ) (v : A) (a : ℕ) → k ≢ a → lookup ((k, v) ∷ m) a ≡ lookup m a
lookup_else m k v a n = ne_cond k a (some v) (lookup m a) n

pub lookup_put : {A : Type 0} (m : Map A) (k : ℕ) (v : A) (a : ℕ) (x : A) → lookup ((k, v) ∷ m) a ≡ some x → ((k ≡ a) × (v ≡ x)) ⊎ ((k ≢ a) × (lookup m a ≡ some x))
lookup_put m k v a x e = dite (ℕ_discrete k a)
    (λ h. inl (h, some-injective v x (sym (eq_cond k a (some v) (lookup m a) h) ∙ e)))
    (λ n. inr (n, sym (lookup_else m k v a n) ∙ e))

pub lookup_gone : {A : Type 0} (m : Map A) (k : ℕ) → lookup (without m k) k ≡ none
lookup_gone [] k = refl
lookup_gone {A} (y ∷ ys) k = dite (ℕ_discrete y.0 k)
    (λ h. ap (λ (m : Map A). lookup m k) (eq_cond y.0 k (without ys k) (y ∷ without ys k) h) ∙ lookup_gone ys k)
    (λ n. ap (λ (m : Map A). lookup m k) (ne_cond y.0 k (without ys k) (y ∷ without ys k) n) ∙ (ne_cond y.0 k (some y.1) (lookup (without ys k) k) n ∙ lookup_gone ys k))

pub lookup_kept : {A : Type 0} (m : Map A) (k a : ℕ) → k ≢ a → lookup (without m k) a ≡ lookup m a
lookup_kept [] k a n = refl
lookup_kept {A} (y ∷ ys) k a n = dite (ℕ_discrete y.0 k)
    (λ h. ap (λ (m : Map A). lookup m a) (eq_cond y.0 k (without ys k) (y ∷ without ys k) h) ∙ (lookup_kept ys k a n ∙ sym (ne_cond y.0 a (some y.1) (lookup ys a) (λ e. n (sym h ∙ e)))))
    (λ m. ap (λ (z : Map A). lookup z a) (ne_cond y.0 k (without ys k) (y ∷ without ys k) m) ∙ ap (cond (y.0 == a) (some y.1)) (lookup_kept ys k a n))

pub lookup_without : {A : Type 0} (m : Map A) (k a : ℕ) (x : A) → lookup (without m k) a ≡ some x → (k ≢ a) × (lookup m a ≡ some x)
lookup_without m k a x e = dite (ℕ_discrete k a)
    (λ h. absurd (some-ne-none x (sym e ∙ (ap (lookup (without m k)) (sym h) ∙ lookup_gone m k))))
    (λ n. (n, sym (lookup_kept m k a n) ∙ e))

only_step : {A : Type 0} (p : ℕ → Bool) (y : ℕ × A) (ys : Map A) (a : ℕ) (x : A) → (lookup (only p ys) a ≡ some x → (p a ≡ true) × (lookup ys a ≡ some x)) → (b : Bool) → p y.0 ≡ b → lookup (only p (y ∷ ys)) a ≡ some x → (p a ≡ true) × (lookup (y ∷ ys) a ≡ some x)
only_step p y ys a x h true f e = let e' : lookup (y ∷ only p ys) a ≡ some x = ap (λ c. lookup (cond c (y ∷ only p ys) (only p ys)) a) (sym f) ∙ e in ⊎_elim
    (λ (t : (y.0 ≡ a) × (y.1 ≡ x)). (ap p (sym t.0) ∙ f, eq_cond y.0 a (some y.1) (lookup ys a) t.0 ∙ ap some t.1))
    (λ (t : (y.0 ≢ a) × (lookup (only p ys) a ≡ some x)). let g = h t.1 in (g.0, ne_cond y.0 a (some y.1) (lookup ys a) t.0 ∙ g.1)) (lookup_put (only p ys) y.0 y.1 a x e')
only_step p y ys a x h false f e = let e' : lookup (only p ys) a ≡ some x = ap (λ c. lookup (cond c (y ∷ only p ys) (only p ys)) a) (sym f) ∙ e in let g = h e' in
    (g.0, ne_cond y.0 a (some y.1) (lookup ys a) (λ k. let z : true ≡ false = sym g.0 ∙ (ap p (sym k) ∙ f) in cc z) ∙ g.1)

pub lookup_only : {A : Type 0} (p : ℕ → Bool) (m : Map A) (a : ℕ) (x : A) → lookup (only p m) a ≡ some x → (p a ≡ true) × (lookup m a ≡ some x)
lookup_only p [] a x e = absurd (some-ne-none x (sym e))
lookup_only p (y ∷ ys) a x e = only_step p y ys a x (lookup_only p ys a x) (p y.0) refl e

pub lookup_append : {A : Type 0} (m k : Map A) (a : ℕ) (x : A) → lookup (m ++ k) a ≡ some x → (lookup m a ≡ some x) ⊎ (lookup k a ≡ some x)
lookup_append [] k a x e = inr e
lookup_append (y ∷ ys) k a x e = ⊎_elim (λ (t : (y.0 ≡ a) × (y.1 ≡ x)). inl (eq_cond y.0 a (some y.1) (lookup ys a) t.0 ∙ ap some t.1))
    (λ (t : (y.0 ≢ a) × (lookup (ys ++ k) a ≡ some x)). ⊎_elim (λ f. inl (ne_cond y.0 a (some y.1) (lookup ys a) t.0 ∙ f)) (λ f. inr f) (lookup_append ys k a x t.1)) (lookup_put (ys ++ k) y.0 y.1 a x e)
