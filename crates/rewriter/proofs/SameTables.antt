-- The narrowest typings of a method have the same types at each place.
use Rattle.std.proofs.Common.{◌≡◌, ℕ, List, [], ◌∷◌, Option, Some, None, Bool, true, false, refl, sym, ap, ◌∙◌, subst, arith}
use Rattle.std.specs.Prelude.{IsTrue}
use Rattle.std.proofs.lemmas.Bool.Decides.{nat_tests}
use Rattle.jmodel.specs.declared.typing.VType.{VType}
use Rattle.jmodel.specs.declared.typing.VType.TheVariants.{Int, Long, Second, Null, Ref, Uninit, UninitThis, Top}
use Rattle.objects.specs.semantics.Program.{Method, Program, has_code}
use Rattle.objects.specs.typing.TypeOrder.{IsWithin, AreWithin}
use Rattle.objects.specs.typing.Typing.{Types, Table, types_at, FitsIn}
use Rattle.objects.specs.typing.Source.{AreTypes}
use Rattle.program_typing.specs.Tables.{IsNarrowTyping, IsTableFor, IsTableOf}
use Rattle.rewriter.proofs.SameNames.{name_same}

module _ (P : Program) (C : AreTypes P) where
  -- types that are within one another are the same
  type_same : (t u : VType) → IsWithin P t u → IsWithin P u t → t ≡ u
  type_same Top Top a b = refl
  type_same Int Int a b = refl
  type_same Long Long a b = refl
  type_same Second Second a b = refl
  type_same Null Null a b = refl
  type_same (Ref m) (Ref n) a b = ap (λ (x : List ℕ). Ref x) (name_same P C m n a b)
  type_same (Uninit p) (Uninit q) a b = let s : p ≡ q = grind (arith, nat_tests) in ap (λ (x : ℕ). Uninit x) s
  type_same UninitThis UninitThis a b = refl
  type_same t u a b = cc

  list_same : (ts us : List VType) → AreWithin P ts us → AreWithin P us ts → ts ≡ us
  list_same [] [] a b = refl
  list_same [] (u ∷ us) a b = absurd a
  list_same (t ∷ ts) [] a b = absurd a
  list_same (t ∷ ts) (u ∷ us) a b = ap (λ (x : VType). x ∷ ts) (type_same t u a.0 b.0) ∙ ap (λ (l : List VType). u ∷ l) (list_same ts us a.1 b.1)

  bit_same : (a b : Bool) → (IsTrue a → IsTrue b) → (IsTrue b → IsTrue a) → a ≡ b
  bit_same true true f g = refl
  bit_same false false f g = refl
  bit_same true false f g = absurd (let e = f refl in let no : ⊥ = cc in no)
  bit_same false true f g = absurd (let e = g refl in let no : ⊥ = cc in no)

  types_same : (h g : Types) → FitsIn P h g → FitsIn P g h → h ≡ g
  types_same h g a b =
      ap (λ (l : List VType). record { locals = l; stack = h.stack; built = h.built }) (list_same h.locals g.locals a.locals b.locals)
      ∙ ap (λ (s : List VType). record { locals = g.locals; stack = s; built = h.built }) (list_same h.stack g.stack a.stack b.stack)
      ∙ ap (λ (x : Bool). record { locals = g.locals; stack = g.stack; built = x }) (bit_same h.built g.built b.built a.built)

  module _ (k : Method) (T U : Table) (a : IsNarrowTyping P k T) (b : IsNarrowTyping P k U) where
    at_place : (pc : ℕ) (h g : Option Types) → types_at T pc ≡ h → types_at U pc ≡ g → h ≡ g
    at_place pc None None is too = refl
    at_place pc (Some h) None is too = let c = a.narrowest U b.typing pc h is in let there = c.there in cc
    at_place pc None (Some g) is too = let c = b.narrowest T a.typing pc g too in let there = c.there in cc
    at_place pc (Some h) (Some g) is too =
        let c = a.narrowest U b.typing pc h is in
        let d = b.narrowest T a.typing pc g too in
        let up : c.types ≡ g = (let there = c.there in cc) in
        let down : d.types ≡ h = (let there = d.there in cc) in
        ap (λ (x : Types). Some x) (types_same h g (subst (FitsIn P h) up c.fits) (subst (FitsIn P g) down d.fits))

  -- at each place two tables of a method have the same types
  pub same_entries : (k : Method) (T U : Table) → IsTableOf P k T → IsTableOf P k U → (pc : ℕ) → types_at T pc ≡ types_at U pc
  same_entries k T U h g pc = go (has_code (Some k)) h g
    where
      go : (b : Bool) → IsTableFor b P k T → IsTableFor b P k U → types_at T pc ≡ types_at U pc
      go true h g = at_place k T U h g pc (types_at T pc) (types_at U pc) refl refl
      go false h g = ap (λ (V : Table). types_at V pc) (h ∙ sym g)
