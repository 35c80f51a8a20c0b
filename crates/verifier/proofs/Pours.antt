-- Types that flow to places are taken or refused there.
use Rattle.std.proofs.Common.{◌≡◌, ◌≢◌, ℕ, ◌<◌, [], ◌∷◌, length, Option, Some, None, Bool, true, false, refl, sym, subst, ◌∙◌, arith}
use Rattle.std.proofs.lemmas.Bool.Decides.{nat_tests}
use Rattle.std.specs.Prelude.{not, slice_get, nat_eq, if◌then◌else◌}
use Rattle.objects.specs.semantics.Program.{Method, Program}
use Rattle.objects.specs.typing.Typing.{Types, Table, FitsIn, Covers, types_at, first_types}
use Rattle.objects.specs.typing.Source.{AreTypes}
use Rattle.verifier.specs.Order.{joined, fits_in, join_all}
use Rattle.verifier.specs.declared.search.Change.TheVariants.{Nothing, Put, Refused}
use Rattle.verifier.specs.Search.{State, is_alike, change_of, merged, Makes, IsPour, Demands, Flows}
use Rattle.verifier.proofs.Lists.{both, and_true, same_length, to_fits, of_fits, joined_first, joined_second, joined_least}
use Rattle.verifier.proofs.Locals.{join_locals}
use Rattle.verifier.proofs.Numbers.{get_within, get_past, of_entry}
use Rattle.verifier.proofs.Under.{IsFramed}
use Rattle.verifier.proofs.Demands.{Met, AreFramed, covers_up}
use Rattle.verifier.proofs.Growth.{Entered, AreEntered, AreCovered, Grows, grows_refl, grows_trans, put_grows, put_covers, put_forced}

-- what a flow to a place leaves
pub record Poured (P : Program) (k : Method) (s n : State) (to : ℕ) (out : Types) : Type 0 where
  pub grows : Grows P k s n
  pub covers : Covers P k n.table out to
  pub forced : (U : Table) → AreCovered P k U s.table → Covers P k U out to → AreCovered P k U n.table

-- a flow that no table takes that covers this one
abbrev pub IsRefused : Program → Method → State → ℕ → Types → Type 0
IsRefused P k s to out = (U : Table) → types_at U 0 ≡ Some (first_types k) → AreCovered P k U s.table → Covers P k U out to → ⊥

to_alike : (h g : Types) → is_alike h g ≡ true → (length h.locals ≡ length g.locals) × (length h.stack ≡ length g.stack)
to_alike h g e =
    let p = both (nat_eq (length h.locals) (length g.locals)) (nat_eq (length h.stack) (length g.stack)) e in
    let a = p.0 in
    let b = p.1 in
    (grind (arith, nat_tests), grind (arith, nat_tests))

of_alike : (h g : Types) → length h.locals ≡ length g.locals → length h.stack ≡ length g.stack → is_alike h g ≡ true
of_alike h g l s =
    let a : nat_eq (length h.locals) (length g.locals) ≡ true = grind (arith, nat_tests) in
    let b : nat_eq (length h.stack) (length g.stack) ≡ true = grind (arith, nat_tests) in
    and_true (nat_eq (length h.locals) (length g.locals)) (nat_eq (length h.stack) (length g.stack)) a b

module _ (P : Program) (C : AreTypes P) (k : Method) where
  -- a join of frames is one, and within itself
  joined_entered : (h g : Types) → IsFramed P k.locals h → IsFramed P k.locals g → length h.stack ≡ length g.stack → Entered P k (joined P h g)
  joined_entered h g a b s =
      let l : length h.locals ≡ length g.locals = a.places ∙ sym b.places in
      let x = joined_first P C h g l s in
      let y = joined_second P C h g l s in
      record {
        framed = record { places = sym (same_length P h.locals (join_all P h.locals g.locals) x.locals) ∙ a.places; each = join_locals P h.locals g.locals l a.each b.each };
        itself = joined_least P C h g (joined P h g) x y;
      }

  module _ (s n : State) (to : ℕ) (out : Types) (size : length s.table ≡ length k.ops) (first : types_at s.table 0 ≡ Some (first_types k)) (entered : AreEntered P k s.table) (frame : IsFramed P k.locals out) where
    is_inside : (o : Option Types) → slice_get s.table to ≡ Some o → to < length k.ops
    is_inside o e = let h = get_within s.table to o e in omega arith

    empty_place : slice_get s.table to ≡ Some None → Makes (Put (joined P out out)) to s n true → Poured P k s n to out
    empty_place e m =
        let g = joined P out out in
        let nf : to ≢ 0 = λ z. let a : types_at s.table 0 ≡ None = of_entry s.table 0 None (subst (λ (i : ℕ). slice_get s.table i ≡ Some None) z e) in absurd (cc (a, first)) in
        record {
          grows = put_grows P C k s n to None g e m.1 m.2 entered (joined_entered out out frame frame refl) nf (λ h x. cc);
          covers = put_covers P C k s n to None g e m.1 m.2 out (is_inside None e) (joined_first P C out out refl refl);
          forced = λ U a c. put_forced P C k s n to None g e m.1 m.2 U a (record { inside = c.inside; types = c.types; there = c.there; fits = joined_least P C out out c.types c.fits c.fits });
        }

    module _ (h : Types) (e : slice_get s.table to ≡ Some (Some h)) where
      eh : Entered P k h
      eh = entered to h (of_entry s.table to (Some h) e)

      -- another table's types at the place are above both
      record Both (U : Table) : Type 0 where
        types : Types
        there : types_at U to ≡ Some types
        old : FitsIn P h types
        new : FitsIn P out types

      above : (U : Table) → AreCovered P k U s.table → Covers P k U out to → Both U
      above U a c =
          let b = a to h (of_entry s.table to (Some h) e) in
          let bt = b.there in let ct = c.there in
          let same : b.types ≡ c.types = cc (bt, ct) in
          record { types = c.types; there = c.there; old = subst (FitsIn P h) same b.fits; new = c.fits }

      unlike : is_alike out h ≡ false → IsRefused P k s to out
      unlike d U f a c =
          let b = above U a c in
          let x = same_length P h.stack b.types.stack b.old.stack in
          let y = same_length P out.stack b.types.stack b.new.stack in
          let z = same_length P h.locals b.types.locals b.old.locals in
          let w = same_length P out.locals b.types.locals b.new.locals in
          let t = of_alike out h (w ∙ sym z) (y ∙ sym x) in
          absurd (let no : ⊥ = cc (t, d) in no)

      at_first : to ≡ 0 → fits_in P out h ≡ false → IsRefused P k s to out
      at_first z w U f a c =
          let t : types_at s.table 0 ≡ Some h = subst (λ (i : ℕ). types_at s.table i ≡ Some h) z (of_entry s.table to (Some h) e) in
          let ct : types_at U 0 ≡ Some c.types = subst (λ (i : ℕ). types_at U i ≡ Some c.types) z c.there in
          let same : c.types ≡ h = cc (t, first, f, ct) in
          let y = of_fits P out h (subst (FitsIn P out) same c.fits) in
          absurd (let no : ⊥ = cc (y, w) in no)

      stays : fits_in P out h ≡ true → n ≡ s → Poured P k s n to out
      stays w same =
          let p : Poured P k s s to out = record { grows = grows_refl P C k s entered; covers = record { inside = is_inside (Some h) e; types = h; there = of_entry s.table to (Some h) e; fits = to_fits P out h w }; forced = λ U a c. a } in
          subst (λ (x : State). Poured P k s x to out) (sym same) p

      widens : is_alike out h ≡ true → to ≢ 0 → Makes (Put (joined P h out)) to s n true → Poured P k s n to out
      widens d nf m =
          let g = joined P h out in
          let p = to_alike out h d in
          let ls = sym p.0 in
          let ss = sym p.1 in
          let old = joined_first P C h out ls ss in
          let new = joined_second P C h out ls ss in
          record {
            grows = put_grows P C k s n to (Some h) g e m.1 m.2 entered (joined_entered h out eh.framed frame ss) nf (λ x y. let z : h ≡ x = cc (y) in subst (λ (v : Types). FitsIn P v g) z old);
            covers = put_covers P C k s n to (Some h) g e m.1 m.2 out (is_inside (Some h) e) new;
            forced = λ U a c. let b = above U a c in put_forced P C k s n to (Some h) g e m.1 m.2 U a (record { inside = c.inside; types = b.types; there = b.there; fits = joined_least P C h out b.types b.old b.new });
          }

      merges : Makes (merged P to out h) to s n true → Poured P k s n to out
      merges m = go (is_alike out h) (fits_in P out h) (nat_eq to 0) refl refl refl m
        where
          go : (x y z : Bool) → is_alike out h ≡ x → fits_in P out h ≡ y → nat_eq to 0 ≡ z
              → Makes (if not x then Refused else if y then Nothing else if z then Refused else Put (joined P h out)) to s n true → Poured P k s n to out
          go false y z d w f m = absurd (let no : ⊥ = cc (m) in no)
          go true true z d w f m = stays w m.1
          go true false true d w f m = absurd (let no : ⊥ = cc (m) in no)
          go true false false d w f m = let f' : to ≢ 0 = grind (arith, nat_tests) in widens d f' m

      does_not_merge : Makes (merged P to out h) to s n false → IsRefused P k s to out
      does_not_merge m = go (is_alike out h) (fits_in P out h) (nat_eq to 0) refl refl refl m
        where
          go : (x y z : Bool) → is_alike out h ≡ x → fits_in P out h ≡ y → nat_eq to 0 ≡ z
              → Makes (if not x then Refused else if y then Nothing else if z then Refused else Put (joined P h out)) to s n false → IsRefused P k s to out
          go false y z d w f m = unlike d
          go true true z d w f m = absurd (let a = m.0 in let no : ⊥ = cc (a) in no)
          go true false true d w f m = let f' : to ≡ 0 = grind (arith, nat_tests) in at_first f' w
          go true false false d w f m = absurd (let a = m.0 in let no : ⊥ = cc (a) in no)

    pub pours : IsPour P to out s n true → Poured P k s n to out
    pours m = go (slice_get s.table to) refl m
      where
        go : (o : Option (Option Types)) → slice_get s.table to ≡ o → Makes (change_of P to out o) to s n true → Poured P k s n to out
        go None e m = absurd (let no : ⊥ = cc (m) in no)
        go (Some None) e m = empty_place e m
        go (Some (Some h)) e m = merges h e m

    pub refuses : IsPour P to out s n false → IsRefused P k s to out
    refuses m = go (slice_get s.table to) refl m
      where
        go : (o : Option (Option Types)) → slice_get s.table to ≡ o → Makes (change_of P to out o) to s n false → IsRefused P k s to out
        go None e m = λ U f a c. let p = get_past s.table to e in let i = c.inside in absurd (omega arith)
        go (Some None) e m = absurd (let a = m.0 in let no : ⊥ = cc (a) in no)
        go (Some (Some h)) e m = does_not_merge h e m

-- what flows to the places of a list leave
pub record Flowed (P : Program) (k : Method) (s n : State) (ds : Demands) : Type 0 where
  pub grows : Grows P k s n
  pub met : Met P k n.table ds
  pub forced : (U : Table) → AreCovered P k U s.table → Met P k U ds → AreCovered P k U n.table

abbrev pub IsBlocked : Program → Method → State → Demands → Type 0
IsBlocked P k s ds = (U : Table) → types_at U 0 ≡ Some (first_types k) → AreCovered P k U s.table → Met P k U ds → ⊥

module _ (P : Program) (C : AreTypes P) (k : Method) where
  pub flows : (ds : Demands) (s n : State) → length s.table ≡ length k.ops → types_at s.table 0 ≡ Some (first_types k) → AreEntered P k s.table → AreFramed P k.locals ds → Flows P ds s n true → Flowed P k s n ds
  flows [] s n size first entered frames g = subst (λ (x : State). Flowed P k s x []) (sym g.1) (record { grows = grows_refl P C k s entered; met = tt; forced = λ U a c. a })
  flows (d ∷ ds) s n size first entered frames (m, true, a, b) =
      let x = pours P C k s m d.0 d.1 size first entered frames.0 a in
      let y = flows ds m n (x.grows.size ∙ size) (x.grows.first ∙ first) x.grows.entered frames.1 b in
      record {
        grows = grows_trans P C k s m n x.grows y.grows;
        met = (covers_up P C k m.table n.table d.1 d.0 y.grows.kept x.covers, y.met);
        forced = λ U c e. y.forced U (x.forced U c e.0) e.1;
      }
  flows (d ∷ ds) s n size first entered frames (m, false, a, b) = absurd (let no : ⊥ = cc (b) in no)

  pub blocked : (ds : Demands) (s n : State) → length s.table ≡ length k.ops → types_at s.table 0 ≡ Some (first_types k) → AreEntered P k s.table → AreFramed P k.locals ds → Flows P ds s n false → IsBlocked P k s ds
  blocked [] s n size first entered frames g U f a c = absurd (let b = g.0 in let no : ⊥ = cc (b) in no)
  blocked (d ∷ ds) s n size first entered frames (m, true, x, y) U f a c =
      let p = pours P C k s m d.0 d.1 size first entered frames.0 x in
      blocked ds m n (p.grows.size ∙ size) (p.grows.first ∙ first) p.grows.entered frames.1 y U f (p.forced U a c.0) c.1
  blocked (d ∷ ds) s n size first entered frames (m, false, x, y) U f a c = refuses P C k s m d.0 d.1 size first entered frames.0 x U f a c.0
