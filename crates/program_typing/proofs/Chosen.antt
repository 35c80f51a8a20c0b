-- The table of a method by the method's number.
use Rattle.std.proofs.Common.{◌≡◌, ℕ, zero, suc, List, [], ◌∷◌, length, get_or, Some, refl, sym, subst, arith}
use Rattle.std.specs.Prelude.{slice_get}
use Rattle.std.specs.List.{AllZip}
use Rattle.objects.specs.semantics.Program.{Method, Program}
use Rattle.objects.specs.typing.Typing.{Table}
use Rattle.program_typing.specs.Tables.{IsTableOf}

module _ (P : Program) where
  -- there are as many tables as methods
  pub as_many : (ks : List Method) (Ts : List Table) → AllZip (IsTableOf P) ks Ts → length Ts ≡ length ks
  as_many [] [] all = refl
  as_many [] (T ∷ Ts) all = absurd all
  as_many (k ∷ ks) [] all = absurd all
  as_many (k ∷ ks) (T ∷ Ts) all = omega (arith, as_many ks Ts all.1)

  -- the table with a method's number is the method's
  pub chosen : (ks : List Method) (Ts : List Table) (i : ℕ) (k : Method) (T : Table) → AllZip (IsTableOf P) ks Ts → slice_get ks i ≡ Some k → T ≡ get_or Ts i T → IsTableOf P k T
  chosen [] Ts i k T all there is = cc
  chosen (x ∷ ks) [] i k T all there is = absurd all
  chosen (x ∷ ks) (U ∷ Ts) zero k T all there is =
      let same : x ≡ k = cc in
      subst (IsTableOf P k) (sym is) (subst (λ (y : Method). IsTableOf P y U) same all.0)
  chosen (x ∷ ks) (U ∷ Ts) (suc i) k T all there is = chosen ks Ts i k T all.1 there is
