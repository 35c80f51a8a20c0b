-- Types that flow to a place: the table only widens, and stays within each other typing.
use Rattle.std.proofs.Common.{◌≡◌, ◌≢◌, ℕ, ◌<◌, ◌⊎◌, inl, inr, length, Option, Some, Bool, true, false, cond, refl, sym, subst, ◌∙◌}
use Rattle.std.proofs.Math.ListN.{length-set}
use Rattle.std.specs.Prelude.{slice_get, slice_set}
use Rattle.std.specs.Ordering.{nat_cmp}
use Rattle.std.specs.BTreeMap.{is_at}
use Rattle.objects.specs.semantics.Program.{Method, Program}
use Rattle.objects.specs.typing.Typing.{Types, Table, FitsIn, Covers, types_at}
use Rattle.objects.specs.typing.Source.{AreTypes}
use Rattle.verifier.specs.Search.{State, waits, IsInserted}
use Rattle.verifier.proofs.Lists.{fits_trans}
use Rattle.verifier.proofs.Numbers.{same_or_not, get_same, get_other, get_within, of_entry, at_self, at_same}
use Rattle.verifier.proofs.Under.{IsFramed}
use Rattle.verifier.proofs.Demands.{Above}

-- an entry of the table of a search: it is of a frame, and within itself
pub record Entered (P : Program) (k : Method) (h : Types) : Type 0 where
  pub framed : IsFramed P k.locals h
  pub itself : FitsIn P h h

abbrev pub AreEntered : Program → Method → Table → Type 0
AreEntered P k T = (q : ℕ) (h : Types) → types_at T q ≡ Some h → Entered P k h

abbrev pub AreCovered : Program → Method → Table → Table → Type 0
AreCovered P k U T = (q : ℕ) (h : Types) → types_at T q ≡ Some h → Covers P k U h q

pub record Grows (P : Program) (k : Method) (s n : State) : Type 0 where
  pub size : length n.table ≡ length s.table
  pub first : types_at n.table 0 ≡ types_at s.table 0
  pub kept : (q : ℕ) (h : Types) → types_at s.table q ≡ Some h → Above P n.table q h
  pub fresh : (q : ℕ) (h : Types) → types_at n.table q ≡ Some h → waits n.waiting q ≡ false → types_at s.table q ≡ Some h
  pub waited : (q : ℕ) → waits n.waiting q ≡ false → waits s.waiting q ≡ false
  pub there : (q : ℕ) → waits n.waiting q ≡ true → (waits s.waiting q ≡ true) ⊎ ((h : Types) × (types_at n.table q ≡ Some h))
  pub entered : AreEntered P k n.table

module _ (P : Program) (C : AreTypes P) (k : Method) where
  pub grows_refl : (s : State) → AreEntered P k s.table → Grows P k s s
  grows_refl s a = record {
    size = refl;
    first = refl;
    kept = λ q h e. record { types = h; there = e; fits = (a q h e).itself };
    fresh = λ q h e w. e;
    waited = λ q w. w;
    there = λ q w. inl w;
    entered = a;
  }

  pub grows_trans : (s m n : State) → Grows P k s m → Grows P k m n → Grows P k s n
  grows_trans s m n a b = record {
    size = b.size ∙ a.size;
    first = b.first ∙ a.first;
    kept = λ q h e. let x = a.kept q h e in let y = b.kept q x.types x.there in record { types = y.types; there = y.there; fits = fits_trans P C h x.types y.types x.fits y.fits };
    fresh = λ q h e w. a.fresh q h (b.fresh q h e w) (b.waited q w);
    waited = λ q w. a.waited q (b.waited q w);
    there = λ q w. elim (b.there q w) as (λ x. (waits s.waiting q ≡ true) ⊎ ((h : Types) × (types_at n.table q ≡ Some h))) [
      | inl u ↦ elim (a.there q u) as (λ x. (waits s.waiting q ≡ true) ⊎ ((h : Types) × (types_at n.table q ≡ Some h))) [
        | inl v ↦ inl v
        | inr v ↦ let y = b.kept q v.0 v.1 in inr (y.types, y.there)
      ]
      | inr u ↦ inr u
    ];
    entered = b.entered;
  }

  -- an entry put at a place
  module _ (s n : State) (to : ℕ) (o : Option Types) (g : Types) (old : slice_get s.table to ≡ Some o) (new : n.table ≡ slice_set s.table to (Some g)) (put : IsInserted to s.waiting n.waiting) where
    inside : to < length s.table
    inside = get_within s.table to o old

    at_to : types_at n.table to ≡ Some g
    at_to = of_entry n.table to (Some g) (rw new (get_same s.table to (Some g) inside))

    at_other : (q : ℕ) → q ≢ to → types_at n.table q ≡ types_at s.table q
    at_other q ne = let e : slice_get n.table q ≡ slice_get s.table q = rw new (get_other s.table to q (Some g) ne) in rw e refl

    put_waited : (q : ℕ) → waits n.waiting q ≡ false → (waits s.waiting q ≡ false) × (q ≢ to)
    put_waited q w = go (is_at (nat_cmp to) q) refl (sym (put q) ∙ w)
      where
        go : (b : Bool) → is_at (nat_cmp to) q ≡ b → cond b true (waits s.waiting q) ≡ false → (waits s.waiting q ≡ false) × (q ≢ to)
        go true e c = cc
        go false e c = (c, λ x. let y = at_self to in let z : is_at (nat_cmp to) to ≡ false = subst (λ (i : ℕ). is_at (nat_cmp to) i ≡ false) x e in absurd (cc (y, z)))

    put_there : (q : ℕ) → waits n.waiting q ≡ true → (waits s.waiting q ≡ true) ⊎ (q ≡ to)
    put_there q w = go (is_at (nat_cmp to) q) refl (sym (put q) ∙ w)
      where
        go : (b : Bool) → is_at (nat_cmp to) q ≡ b → cond b true (waits s.waiting q) ≡ true → (waits s.waiting q ≡ true) ⊎ (q ≡ to)
        go true e c = inr (at_same to q e)
        go false e c = inl c

    module _ (entered : AreEntered P k s.table) (entry : Entered P k g) (not_first : to ≢ 0) (fits : (h : Types) → o ≡ Some h → FitsIn P h g) where
      pub put_grows : Grows P k s n
      put_grows = record {
        size = rw new (length-set s.table to (Some g));
        first = at_other 0 (λ e. not_first (sym e));
        kept = λ q h e. elim (same_or_not q to) as (λ x. Above P n.table q h) [
          | inl x ↦ let e' : types_at s.table to ≡ Some h = subst (λ (i : ℕ). types_at s.table i ≡ Some h) x e in
              let f : o ≡ Some h = sym (of_entry s.table to o old) ∙ e' in
              record { types = g; there = subst (λ (i : ℕ). types_at n.table i ≡ Some g) (sym x) at_to; fits = fits h f }
          | inr x ↦ record { types = h; there = at_other q x ∙ e; fits = (entered q h e).itself }
        ];
        fresh = λ q h e w. sym (at_other q (put_waited q w).1) ∙ e;
        waited = λ q w. (put_waited q w).0;
        there = λ q w. elim (put_there q w) as (λ x. (waits s.waiting q ≡ true) ⊎ ((h : Types) × (types_at n.table q ≡ Some h))) [
          | inl x ↦ inl x
          | inr x ↦ inr (g, subst (λ (i : ℕ). types_at n.table i ≡ Some g) (sym x) at_to)
        ];
        entered = λ q h e. elim (same_or_not q to) as (λ x. Entered P k h) [
          | inl x ↦ let e' : types_at n.table to ≡ Some h = subst (λ (i : ℕ). types_at n.table i ≡ Some h) x e in let f : g ≡ h = cc (e', at_to) in subst (Entered P k) f entry
          | inr x ↦ entered q h (sym (at_other q x) ∙ e)
        ];
      }

    pub put_covers : (out : Types) → to < length k.ops → FitsIn P out g → Covers P k n.table out to
    put_covers out i f = record { inside = i; types = g; there = at_to; fits = f }

    pub put_forced : (U : Table) → AreCovered P k U s.table → Covers P k U g to → AreCovered P k U n.table
    put_forced U c d q h e = elim (same_or_not q to) as (λ x. Covers P k U h q) [
      | inl x ↦ let e' : types_at n.table to ≡ Some h = subst (λ (i : ℕ). types_at n.table i ≡ Some h) x e in
          let f : g ≡ h = cc (e', at_to) in
          subst (λ (i : ℕ). Covers P k U h i) (sym x) (subst (λ (y : Types). Covers P k U y to) f d)
      | inr x ↦ c q h (sym (at_other q x) ∙ e)
    ]
