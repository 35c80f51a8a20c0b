-- Lists that have each key of a map once, with one key more or less.
use Rattle.std.proofs.Common.{◌≡◌, ◌≢◌, ◌⊎◌, ◌==◌, ℕ, cond, [], ◌∷◌, ◌++◌, refl, sym, ap, ◌∙◌, inl, inr, ⊎_elim, subst}
use mathlib.Core.Option.{none, some, some-ne-none}
use mathlib.Core.Logic.{dite}
use native.Mathlib.Decide.{ℕ_discrete}
use Rattle.jmodel.specs.declared.access.Access.{Access}
use Rattle.jmodel.specs.history.Log.{Log}
use Rattle.tx_table.specs.Book.{Map, Has, In, lookup, pairs, without}
use Rattle.tx_table.proofs.MapLaws.{eq_cond, lookup_here, lookup_else, lookup_put, lookup_gone, lookup_kept}
use Rattle.tl2.specs.Plans.{AreApart, IsListed}

pub has_cases : (m : Map ℕ) (k x a : ℕ) → Has ((k, x) ∷ m) a → (k ≡ a) ⊎ Has m a
has_cases m k x a h = ⊎_elim (λ t. inl t.0) (λ t. inr (h.0, t.1)) (lookup_put m k x a h.0 h.1)

pub has_more : (m : Map ℕ) (k x a : ℕ) → Has m a → Has ((k, x) ∷ m) a
has_more m k x a h = dite (ℕ_discrete k a)
    (λ e. (x, subst (λ (b : ℕ). lookup ((k, x) ∷ m) b ≡ some x) e (lookup_here m k x)))
    (λ n. (h.0, lookup_else m k x a n ∙ h.1))

-- what a list has as a map, it has
pub has_in : (ls : Log) (a : ℕ) → Has (pairs ls) a → (l : Access) × In l ls × (l.address ≡ a)
has_in [] a h = absurd (some-ne-none h.0 (sym h.1))
has_in (l ∷ ls) a h = ⊎_elim (λ (e : l.address ≡ a). (l, inl refl, e)) (λ (k : Has (pairs ls) a). let t = has_in ls a k in (t.0, inr t.1, t.2)) (has_cases (pairs ls) l.address l.word a h)

pub in_has : (ls : Log) (p : Access) → In p ls → Has (pairs ls) p.address
in_has [] p i = absurd i
in_has (l ∷ ls) p (inl e) = (l.word, ap (λ (k : Access). lookup ((l.address, l.word) ∷ pairs ls) k.address) e ∙ lookup_here (pairs ls) l.address l.word)
in_has (l ∷ ls) p (inr i) = has_more (pairs ls) l.address l.word p.address (in_has ls p i)

-- a map with one pair more behind the others
pub lookup_found : (m k : Map ℕ) (a x : ℕ) → lookup m a ≡ some x → lookup (m ++ k) a ≡ some x
lookup_found [] k a x e = absurd (some-ne-none x (sym e))
lookup_found (y ∷ ys) k a x e = ⊎_elim
    (λ (t : (y.0 ≡ a) × (y.1 ≡ x)). eq_cond y.0 a (some y.1) (lookup (ys ++ k) a) t.0 ∙ ap some t.1)
    (λ (t : (y.0 ≢ a) × (lookup ys a ≡ some x)). lookup_else (ys ++ k) y.0 y.1 a t.0 ∙ lookup_found ys k a x t.1)
    (lookup_put ys y.0 y.1 a x e)

pub lookup_missed : (m k : Map ℕ) (a : ℕ) → lookup m a ≡ none → lookup (m ++ k) a ≡ lookup k a
lookup_missed [] k a e = refl
lookup_missed (y ∷ ys) k a e = dite (ℕ_discrete y.0 a)
    (λ q. absurd (some-ne-none y.1 (sym (eq_cond y.0 a (some y.1) (lookup ys a) q) ∙ e)))
    (λ n. lookup_else (ys ++ k) y.0 y.1 a n ∙ lookup_missed ys k a (sym (lookup_else ys y.0 y.1 a n) ∙ e))

lookup_last : (m : Map ℕ) (k x : ℕ) → lookup m k ≡ none → lookup (m ++ (k, x) ∷ []) k ≡ some x
lookup_last m k x e = lookup_missed m ((k, x) ∷ []) k e ∙ lookup_here [] k x

lookup_before : (m : Map ℕ) (k x a : ℕ) → k ≢ a → lookup (m ++ (k, x) ∷ []) a ≡ lookup m a
lookup_before [] k x a n = lookup_else [] k x a n
lookup_before (y ∷ ys) k x a n = ap (cond (y.0 == a) (some y.1)) (lookup_before ys k x a n)

pub pairs_last : (ls : Log) (l : Access) → pairs (ls ++ l ∷ []) ≡ pairs ls ++ (l.address, l.word) ∷ []
pairs_last [] l = refl
pairs_last (k ∷ ls) l = ap (λ (m : Map ℕ). (k.address, k.word) ∷ m) (pairs_last ls l)

apart_more : (ls : Log) (l : Access) → AreApart ls → lookup (pairs ls) l.address ≡ none → AreApart (ls ++ l ∷ [])
apart_more [] l s n = (refl, tt)
apart_more (k ∷ ls) l s n = (
  ap (λ (m : Map ℕ). lookup m k.address) (pairs_last ls l) ∙ lookup_before (pairs ls) l.address l.word k.address other ∙ s.0,
  apart_more ls l s.1 (sym (lookup_else (pairs ls) k.address k.word l.address (λ e. other (sym e))) ∙ n),
)
  where
    other : l.address ≢ k.address
    other e = some-ne-none k.word (sym (eq_cond k.address l.address (some k.word) (lookup (pairs ls) l.address) (sym e)) ∙ n)

-- a key that a list lacks is listed last
listed_more : (m n : Map ℕ) (ls : Log) (l : Access) → IsListed m ls → lookup m l.address ≡ none → lookup n l.address ≡ some l.word → ((a : ℕ) → l.address ≢ a → lookup n a ≡ lookup m a)
    → IsListed n (ls ++ l ∷ [])
listed_more m n ls l s new here others = record {
  same = λ a. dite (ℕ_discrete l.address a)
      (λ e. subst (λ (b : ℕ). lookup n b ≡ lookup (pairs (ls ++ l ∷ [])) b) e (here ∙ sym (at l.address ∙ lookup_last (pairs ls) l.address l.word unlisted)))
      (λ d. others a d ∙ s.same a ∙ sym (at a ∙ lookup_before (pairs ls) l.address l.word a d));
  apart = apart_more ls l s.apart unlisted;
}
  where
    at : (a : ℕ) → lookup (pairs (ls ++ l ∷ [])) a ≡ lookup (pairs ls ++ (l.address, l.word) ∷ []) a
    at a = ap (λ (k : Map ℕ). lookup k a) (pairs_last ls l)

    unlisted : lookup (pairs ls) l.address ≡ none
    unlisted = sym (s.same l.address) ∙ new

pub listed_first : (m : Map ℕ) (ls : Log) (l : Access) → IsListed m ls → lookup m l.address ≡ none → IsListed ((l.address, l.word) ∷ m) (ls ++ l ∷ [])
listed_first m ls l s new = listed_more m ((l.address, l.word) ∷ m) ls l s new (lookup_here m l.address l.word) (λ a d. lookup_else m l.address l.word a d)

pub listed_last : (m : Map ℕ) (ls : Log) (l : Access) → IsListed m ls → lookup m l.address ≡ none → IsListed (m ++ (l.address, l.word) ∷ []) (ls ++ l ∷ [])
listed_last m ls l s new = listed_more m (m ++ (l.address, l.word) ∷ []) ls l s new (lookup_last m l.address l.word new) (λ a d. lookup_before m l.address l.word a d)

-- a key that a map has already
pub listed_still : (m : Map ℕ) (ls : Log) (l : Access) → IsListed m ls → Has m l.address → IsListed (m ++ (l.address, l.word) ∷ []) ls
listed_still m ls l s h = record {
  same = λ a. dite (ℕ_discrete l.address a)
      (λ e. subst (λ (b : ℕ). lookup (m ++ (l.address, l.word) ∷ []) b ≡ lookup (pairs ls) b) e (lookup_found m ((l.address, l.word) ∷ []) l.address h.0 h.1 ∙ sym h.1 ∙ s.same l.address))
      (λ d. lookup_before m l.address l.word a d ∙ s.same a);
  apart = s.apart;
}

pub listed_here : (m : Map ℕ) (l : Access) (ls : Log) → IsListed m (l ∷ ls) → lookup m l.address ≡ some l.word
listed_here m l ls s = s.same l.address ∙ lookup_here (pairs ls) l.address l.word

-- the first key goes
pub listed_less : (m : Map ℕ) (l : Access) (ls : Log) → IsListed m (l ∷ ls) → IsListed (without m l.address) ls
listed_less m l ls s = record {
  same = λ a. dite (ℕ_discrete l.address a)
      (λ e. subst (λ (b : ℕ). lookup (without m l.address) b ≡ lookup (pairs ls) b) e (lookup_gone m l.address ∙ sym s.apart.0))
      (λ d. lookup_kept m l.address a d ∙ s.same a ∙ lookup_else (pairs ls) l.address l.word a d);
  apart = s.apart.1;
}

pub nothing_listed : (m : Map ℕ) → IsListed m [] → (b x : ℕ) → lookup m b ≡ some x → ⊥
nothing_listed m s b x e = some-ne-none x (sym e ∙ s.same b)

pub none_listed : (m : Map ℕ) → IsListed m [] → m ≡ []
none_listed [] s = refl
none_listed (y ∷ ys) s = absurd (nothing_listed (y ∷ ys) s y.0 y.1 (lookup_here ys y.0 y.1))
