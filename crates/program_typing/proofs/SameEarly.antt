-- The narrowest typings of a method agree on where the object of a constructor isn't built.
use Rattle.std.proofs.Common.{◌≡◌, ℕ, zero, suc, List, [], ◌∷◌, Option, Some, None, Bool, true, false, refl, sym, ap, ◌∙◌, subst}
use Rattle.std.specs.Prelude.{slice_get, if◌then◌else◌}
use Rattle.jmodel.specs.declared.typing.VType.{VType}
use Rattle.jmodel.specs.declared.typing.VType.TheVariants.{Int, Long, Second, Null, Ref, Uninit, UninitThis, Top}
use Rattle.objects.specs.declared.op.Op.{Op}
use Rattle.objects.specs.declared.op.Op.TheVariants as op
use Rattle.objects.specs.semantics.Program.{Field, Method, Program, field_at, has_code}
use Rattle.objects.specs.rewriting.Rewriting.{word_places}
use Rattle.objects.specs.typing.TypeOrder.{IsWithin, AreWithin}
use Rattle.objects.specs.typing.Typing.{Types, Table, types_at}
use Rattle.program_typing.specs.Early.{is_this, is_early_over, is_early, early_from, early_store}
use Rattle.program_typing.specs.Tables.{IsNarrowTyping, IsTableFor, IsTableOf}

-- below such an object is nothing else
this_below : (P : Program) (t u : VType) → IsWithin P t u → is_this (Some u) ≡ true → is_this (Some t) ≡ true
this_below P t Int w h = cc
this_below P t Long w h = cc
this_below P t Second w h = cc
this_below P t Null w h = cc
this_below P t (Ref n) w h = cc
this_below P t (Uninit p) w h = cc
this_below P t Top w h = cc
this_below P Int UninitThis w h = cc
this_below P Long UninitThis w h = cc
this_below P Second UninitThis w h = cc
this_below P Null UninitThis w h = cc
this_below P (Ref n) UninitThis w h = cc
this_below P (Uninit p) UninitThis w h = cc
this_below P UninitThis UninitThis w h = refl
this_below P Top UninitThis w h = cc

this_under : (P : Program) (ts us : List VType) (n : ℕ) → AreWithin P ts us → is_this (slice_get us n) ≡ true → is_this (slice_get ts n) ≡ true
this_under P [] [] n w h = h
this_under P [] (u ∷ us) n w h = absurd w
this_under P (t ∷ ts) [] n w h = absurd w
this_under P (t ∷ ts) (u ∷ us) zero w h = this_below P t u w.0 h
this_under P (t ∷ ts) (u ∷ us) (suc n) w h = this_under P ts us n w.1 h

same_tests : (a b : Bool) → (a ≡ true → b ≡ true) → (b ≡ true → a ≡ true) → a ≡ b
same_tests true b f g = sym (f refl)
same_tests false true f g = g refl
same_tests false false f g = refl

module _ (P : Program) (k : Method) (T U : Table) (a : IsNarrowTyping P k T) (b : IsNarrowTyping P k U) where
  over_same : (pc : ℕ) (f : Option Field) (h g : Option Types) → types_at T pc ≡ h → types_at U pc ≡ g → is_early_over f h ≡ is_early_over f g
  over_same pc None h g is too = refl
  over_same pc (Some f) None None is too = refl
  over_same pc (Some f) (Some h) None is too = let c = a.narrowest U b.typing pc h is in let there = c.there in cc
  over_same pc (Some f) None (Some g) is too = let c = b.narrowest T a.typing pc g too in let there = c.there in cc
  over_same pc (Some f) (Some h) (Some g) is too =
      let c = a.narrowest U b.typing pc h is in
      let d = b.narrowest T a.typing pc g too in
      let up : c.types ≡ g = let there = c.there in cc in
      let down : d.types ≡ h = let there = d.there in cc in
      let n = word_places f.declared.word in
      same_tests (is_this (slice_get h.stack n)) (is_this (slice_get g.stack n))
      (λ e. this_under P g.stack h.stack n (subst (λ (x : Types). AreWithin P g.stack x.stack) down d.fits.stack) e)
      (λ e. this_under P h.stack g.stack n (subst (λ (x : Types). AreWithin P h.stack x.stack) up c.fits.stack) e)

  early_same : (pc : ℕ) (o : Op) → is_early P (types_at T pc) o ≡ is_early P (types_at U pc) o
  early_same pc (op.PutField n c) = over_same pc (field_at P n) (types_at T pc) (types_at U pc) refl refl
  early_same pc o = refl

  from_same : (pc : ℕ) (os : List Op) → early_from P T pc os ≡ early_from P U pc os
  from_same pc [] = refl
  from_same pc (o ∷ os) =
      ap (λ (t : Bool). if t then Some pc else early_from P T (suc pc) os) (early_same pc o)
      ∙ ap (λ (r : Option ℕ). if is_early P (types_at U pc) o then Some pc else r) (from_same (suc pc) os)

same_for : (b : Bool) (P : Program) (k : Method) (T U : Table) → IsTableFor b P k T → IsTableFor b P k U → early_store P k T ≡ early_store P k U
same_for true P k T U h g = from_same P k T U h g 0 k.ops
same_for false P k T U h g = ap (early_store P k) (h ∙ sym g)

-- whichever narrowest table is taken, the first such store is the same
pub store_same : (P : Program) (k : Method) (T U : Table) → IsTableOf P k T → IsTableOf P k U → early_store P k T ≡ early_store P k U
store_same P k T U h g = same_for (has_code (Some k)) P k T U h g
