-- Look-ups in maps from keys and texts to places.
use Rattle.std.proofs.Common.{◌≡◌, ℕ, Bool, true, false, ◌&&◌, cond, List, [], ◌∷◌, Option, Some, None, refl, sym, ap, ◌∙◌, rules}
use Rattle.std.specs.Prelude.{nat_eq, is_some}
use Rattle.std.specs.Map.{lookup}
use Rattle.std.specs.BTreeMap.{BTreeMap, get, is_at}
use Rattle.std.specs.Ordering.{nat_cmp, is_eq}
use Rattle.std.proofs.lemmas.Bool.{eqb-true}
use Rattle.const_pool.specs.declared.keys.Key.{Key}
use Rattle.const_pool.specs.declared.keys.Key.TheVariants.{Integer, Long, Class, Pair, Field, Method, InterfaceMethod}
use Rattle.const_pool.specs.contracts.keys.KeyOrd.TheImpl.{cmp-value}
use Rattle.const_pool.specs.Firsts.{or_at, same_key, key_known}

lookup-congr : {K X : Type 0} (f g : K → Bool) (es : List (K × X)) → ((k : K) → f k ≡ g k) → lookup f es ≡ lookup g es
lookup-congr f g [] h = refl
lookup-congr f g (e ∷ es) h = rw (h e.0, lookup-congr f g es h) refl

same_nat : (a b : ℕ) → is_eq (nat_cmp a b) ≡ nat_eq a b
same_nat a b = search rules

tested : (k l : Key) → is_at (cmp-value.it k) l ≡ same_key k l
tested (Integer n) (Integer m) = search rules
tested (Long n) (Long m) = search rules
tested (Class n) (Class m) = search rules
tested (Pair n d) (Pair m e) = search rules
tested (Field n d) (Field m e) = search rules
tested (Method n d) (Method m e) = search rules
tested (InterfaceMethod n d) (InterfaceMethod m e) = search rules
tested k l = refl

pub found : (k : Key) (m : BTreeMap Key ℕ) → get cmp-value.it m k ≡ key_known m k
found k m = lookup-congr (is_at (cmp-value.it k)) (same_key k) m.entries (tested k)

both_true : (a b : Bool) → (a && b) ≡ true → (a ≡ true) × (b ≡ true)
both_true true b h = (refl, h)
both_true false b h = absurd cc

pub one_key : (k l : Key) → same_key k l ≡ true → k ≡ l
one_key (Integer n) (Integer m) h = search rules
one_key (Long n) (Long m) h = search rules
one_key (Class n) (Class m) h = ap Class (eqb-true n m h)
one_key (Pair n d) (Pair m e) h = let p = both_true (nat_eq n m) (nat_eq d e) h in let a = eqb-true n m p.0 in let b = eqb-true d e p.1 in cc
one_key (Field n d) (Field m e) h = let p = both_true (nat_eq n m) (nat_eq d e) h in let a = eqb-true n m p.0 in let b = eqb-true d e p.1 in cc
one_key (Method n d) (Method m e) h = let p = both_true (nat_eq n m) (nat_eq d e) h in let a = eqb-true n m p.0 in let b = eqb-true d e p.1 in cc
one_key (InterfaceMethod n d) (InterfaceMethod m e) h = let p = both_true (nat_eq n m) (nat_eq d e) h in let a = eqb-true n m p.0 in let b = eqb-true d e p.1 in cc
one_key k l h = absurd cc

pub none_from_test : {X : Type 0} (o : Option X) → is_some o ≡ false → o ≡ None
none_from_test None h = refl
none_from_test (Some x) h = absurd cc

-- nothing is noted where the test fails
pub or_at-false : (o : Option ℕ) (n : ℕ) → or_at o false n ≡ o
or_at-false (Some m) n = refl
or_at-false None n = refl

-- nor where something is known
pub or_at-known : (o : Option ℕ) (b : Bool) (n m : ℕ) → o ≡ Some m → or_at o b n ≡ o
or_at-known o b n m h = rw h refl

module _ (old new : BTreeMap Key ℕ) (key : Key) (at : ℕ) (absent : get cmp-value.it old key ≡ None) (updates : (q : Key) → get cmp-value.it new q ≡ cond (is_at (cmp-value.it key) q) (Some at) (get cmp-value.it old q)) where
  pub key_noted : (q : Key) → key_known new q ≡ or_at (key_known old q) (same_key key q) at
  key_noted q = sym (found q new) ∙ updates q ∙ by_test (same_key key q) refl where
    by_test : (b : Bool) → same_key key q ≡ b → cond (is_at (cmp-value.it key) q) (Some at) (get cmp-value.it old q) ≡ or_at (key_known old q) (same_key key q) at
    by_test true e =
        let one : key ≡ q = one_key key q e in
        let none : key_known old q ≡ None = sym (found q old) ∙ ap (get cmp-value.it old) (sym one) ∙ absent in
        let test : is_at (cmp-value.it key) q ≡ true = tested key q ∙ e in
        rw (test, e, none) refl
    by_test false e =
        let test : is_at (cmp-value.it key) q ≡ false = tested key q ∙ e in
        rw (test, e) (found q old ∙ sym (or_at-false (key_known old q) at))
