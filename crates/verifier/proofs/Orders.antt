-- The order of types, and the narrowest types above two.
use Rattle.std.proofs.Common.{◌≡◌, ℕ, List, Option, Some, None, Bool, true, false, refl, sym, ap, subst, arith}
use Rattle.std.proofs.lemmas.Bool.Decides.{nat_tests}
use Rattle.std.specs.Prelude.{nat_eq, if◌then◌else◌}
use Rattle.jmodel.specs.declared.typing.VType.{VType}
use Rattle.jmodel.specs.declared.typing.VType.TheVariants.{Int, Long, Second, Null, Ref, Uninit, UninitThis, Top}
use Rattle.objects.specs.semantics.Program.{Program}
use Rattle.objects.specs.typing.TypeOrder.{IsWithin}
use Rattle.objects.specs.typing.Source.{AreTypes}
use Rattle.objects.proofs.Elements.{order}
use Rattle.verifier.specs.Order.{join_name, ref_or_top, join}
use Rattle.verifier.proofs.Joins.{name_first, name_least}

pub within_top : (P : Program) (t : VType) → IsWithin P t Top
within_top P Int = refl
within_top P t = refl

module _ (P : Program) where
  -- the types above a type: top, itself, and classes
  abbrev AreRefs : VType → VType → Type 0
  AreRefs Null (Ref n) = Unit {0}
  AreRefs (Ref m) (Ref n) = IsWithin P (Ref m) (Ref n)
  AreRefs t u = ⊥

  abbrev IsPlain : VType → Type 0
  IsPlain (Ref n) = ⊥
  IsPlain t = Unit {0}

  pub data Below (t u : VType) : Type 0 where
    AtTop : u ≡ Top → Below t u
    Equal : IsPlain t → t ≡ u → Below t u
    Refs : AreRefs t u → Below t u

  pub below : (t u : VType) → IsWithin P t u → Below t u
  below t Top e = AtTop refl
  below Int Int e = Equal tt refl
  below Long Long e = Equal tt refl
  below Second Second e = Equal tt refl
  below Null Null e = Equal tt refl
  below Null (Ref n) e = Refs tt
  below (Ref m) (Ref n) e = Refs e
  below (Uninit p) (Uninit q) e = let s : p ≡ q = grind (arith, nat_tests) in Equal tt (ap (λ (x : ℕ). Uninit x) s)
  below UninitThis UninitThis e = Equal tt refl
  below t u e = cc

  plain_self : (t : VType) → IsPlain t → IsWithin P t t
  plain_self Int h = refl
  plain_self Long h = refl
  plain_self Second h = refl
  plain_self Null h = refl
  plain_self (Ref n) h = absurd h
  plain_self (Uninit p) h = grind (arith, nat_tests)
  plain_self UninitThis h = refl
  plain_self Top h = refl

  refs_within : (t u : VType) → AreRefs t u → IsWithin P t u
  refs_within Null (Ref n) a = refl
  refs_within (Ref m) (Ref n) a = a
  refs_within t u a = absurd a

  pub of_below : (t u : VType) → Below t u → IsWithin P t u
  of_below t u (AtTop e) = subst (IsWithin P t) (sym e) (within_top P t)
  of_below t u (Equal p e) = subst (IsWithin P t) e (plain_self t p)
  of_below t u (Refs a) = refs_within t u a

  no_refs_top : (v : VType) → AreRefs Top v → ⊥
  no_refs_top v a = a

module _ (P : Program) (C : AreTypes P) where
  refs_trans : (t u v : VType) → AreRefs P t u → AreRefs P u v → AreRefs P t v
  refs_trans Null (Ref n) (Ref p) a b = tt
  refs_trans (Ref m) (Ref n) (Ref p) a b = order P C m n p a b
  refs_trans Null (Ref n) v a b = absurd b
  refs_trans (Ref m) (Ref n) v a b = absurd b
  refs_trans t u v a b = absurd a

  below_trans : (t u v : VType) → Below P t u → Below P u v → Below P t v
  below_trans t u v b (AtTop e) = AtTop e
  below_trans t u v b (Equal p e) = subst (Below P t) e b
  below_trans t u v (AtTop e) (Refs a) = absurd (no_refs_top P v (subst (λ (x : VType). AreRefs P x v) e a))
  below_trans t u v (Equal p e) (Refs a) = Refs (subst (λ (x : VType). AreRefs P x v) (sym e) a)
  below_trans t u v (Refs b) (Refs a) = Refs (refs_trans t u v b a)

  pub within_trans : (t u v : VType) → IsWithin P t u → IsWithin P u v → IsWithin P t v
  within_trans t u v a b = of_below P t v (below_trans t u v (below P t u a) (below P u v b))

  -- the join of two is above both
  named_first : (m n : List ℕ) (o : Option (List ℕ)) → join_name P m n ≡ o → IsWithin P (Ref m) (ref_or_top o) × IsWithin P (Ref n) (ref_or_top o)
  named_first m n None e = (refl, refl)
  named_first m n (Some x) e = name_first P C m n x e

  null_under : (o : Option (List ℕ)) → IsWithin P Null (ref_or_top o)
  null_under None = refl
  null_under (Some n) = refl

  abbrev Both : VType → VType → Type 0
  Both t u = IsWithin P t (join P t u) × IsWithin P u (join P t u)

  tops : (t u : VType) → IsWithin P t Top × IsWithin P u Top
  tops t u = (within_top P t, within_top P u)

  uninits : (p q : ℕ) → Both (Uninit p) (Uninit q)
  uninits p q = by (nat_eq p q) refl
    where
      by : (b : Bool) → nat_eq p q ≡ b → IsWithin P (Uninit p) (if b then Uninit p else Top) × IsWithin P (Uninit q) (if b then Uninit p else Top)
      by true e = (grind (arith, nat_tests), grind (arith, nat_tests))
      by false e = (refl, refl)

  joins : (t u : VType) → Both t u
  joins Int Int = (refl, refl)
  joins Long Long = (refl, refl)
  joins Second Second = (refl, refl)
  joins Null Null = (refl, refl)
  joins Null (Ref n) = (null_under (join_name P n n), (named_first n n (join_name P n n) refl).0)
  joins (Ref m) Null = ((named_first m m (join_name P m m) refl).0, null_under (join_name P m m))
  joins (Ref m) (Ref n) = named_first m n (join_name P m n) refl
  joins (Uninit p) (Uninit q) = uninits p q
  joins UninitThis UninitThis = (refl, refl)
  joins t u = tops t u

  pub join_first : (t u : VType) → IsWithin P t (join P t u)
  join_first t u = (joins t u).0

  pub join_second : (t u : VType) → IsWithin P u (join P t u)
  join_second t u = (joins t u).1

  -- and within each type above both
  named_least : (m n p : List ℕ) → IsWithin P (Ref m) (Ref p) → IsWithin P (Ref n) (Ref p) → IsWithin P (ref_or_top (join_name P m n)) (Ref p)
  named_least m n p h g = let r = name_least P C m n p h g in let is = r.is in subst (λ (o : Option (List ℕ)). IsWithin P (ref_or_top o) (Ref p)) (sym is) r.below

  uninit_least : (p q r : ℕ) → IsWithin P (Uninit p) (Uninit r) → IsWithin P (Uninit q) (Uninit r) → IsWithin P (if nat_eq p q then Uninit p else Top) (Uninit r)
  uninit_least p q r h g = let e : nat_eq p q ≡ true = grind (arith, nat_tests) in rw e h

  pub join_least : (t u v : VType) → IsWithin P t v → IsWithin P u v → IsWithin P (join P t u) v
  join_least t u Top h g = within_top P (join P t u)
  join_least Int Int Int h g = refl
  join_least Long Long Long h g = refl
  join_least Second Second Second h g = refl
  join_least Null Null Null h g = refl
  join_least Null Null (Ref p) h g = refl
  join_least Null (Ref n) (Ref p) h g = named_least n n p g g
  join_least (Ref m) Null (Ref p) h g = named_least m m p h h
  join_least (Ref m) (Ref n) (Ref p) h g = named_least m n p h g
  join_least (Uninit p) (Uninit q) (Uninit r) h g = uninit_least p q r h g
  join_least UninitThis UninitThis UninitThis h g = refl
  join_least t u v h g = cc
