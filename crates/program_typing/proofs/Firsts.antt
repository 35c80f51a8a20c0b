-- The typing of a program's methods, one after another.
use Rattle.std.proofs.Common.{◌≡◌, ℕ, zero, suc, ◌+◌, ◌<◌, List, [], ◌∷◌, ◌++◌, length, take, Option, Some, None, refl, sym, ap, ◌∙◌, subst, arith}
use Rattle.std.specs.Prelude.{slice_get, option_map}
use Rattle.std.specs.List.{AllByRecursion, AllZip}
use Rattle.std.specs.Option.{option_or}
use Rattle.std.proofs.lemmas.List.{take_all, take_more}
use Rattle.std.proofs.lemmas.Option.{get_or_from_slice_get}
use Rattle.objects.specs.semantics.Program.{Method, Program}
use Rattle.objects.specs.typing.Typing.{Table}
use Rattle.program_typing.specs.Early.{early_store}
use Rattle.program_typing.specs.Tables.{IsTableOf, IsTypedOrBare}
use Rattle.program_typing.specs.Typed.{IsUntyped, IsLate, IsFirstUntyped, IsFirstEarly, IsEarlyAmong, AreTyped}
use Rattle.program_typing.proofs.SameEarly.{store_same}
use Rattle.program_typing.proofs.Typings.{all_typed}

-- ---- lists

pushed : {A : Type 0} (Q : A → Type 0) (xs : List A) (x : A) → AllByRecursion Q xs → Q x → AllByRecursion Q (xs ++ x ∷ [])
pushed Q [] x all one = (one, tt)
pushed Q (y ∷ xs) x all one = (all.0, pushed Q xs x all.1 one)

zip_pushed : {A B : Type 0} (R : A → B → Type 0) (xs : List A) (ys : List B) (x : A) (y : B) → AllZip R xs ys → R x y → AllZip R (xs ++ x ∷ []) (ys ++ y ∷ [])
zip_pushed R [] [] x y all one = (one, tt)
zip_pushed R [] (z ∷ ys) x y all one = absurd all
zip_pushed R (w ∷ xs) [] x y all one = absurd all
zip_pushed R (w ∷ xs) (z ∷ ys) x y all one = (all.0, zip_pushed R xs ys x y all.1 one)

there_less : {A : Type 0} (xs : List A) (i : ℕ) (x : A) → slice_get xs i ≡ Some x → i < length xs
there_less [] i x h = cc
there_less (y ∷ xs) zero x h = omega arith
there_less (y ∷ xs) (suc i) x h = let lt = there_less xs i x h in omega (arith, lt)

-- what there is at a place
at_place : {A : Type 0} (xs : List A) (i : ℕ) → i < length xs → (x : A) × (slice_get xs i ≡ Some x)
at_place [] i lt = absurd (omega (arith, lt))
at_place (y ∷ xs) zero lt = (y, refl)
at_place (y ∷ xs) (suc i) lt = at_place xs i (omega (arith, lt))

-- one more of the front
front_more : {A : Type 0} (xs : List A) (i : ℕ) (x : A) → slice_get xs i ≡ Some x → take (i + 1) xs ≡ take i xs ++ x ∷ []
front_more xs i x h = take_more xs i x (there_less xs i x h) ∙ ap (λ y. take i xs ++ y ∷ []) (get_or_from_slice_get xs i x x h)

-- ---- methods

module _ (P : Program) (n : ℕ) (Ts : List Table) (early : Option (ℕ × ℕ)) (so_far : AreTyped P n Ts early) where
  pub untyped : (place : ℕ) → n < length P.methods → IsUntyped P n place → IsFirstUntyped P n place
  untyped place lt none = let k = at_place P.methods n lt in record {
    method = k.0;
    there = k.1;
    before = all_typed P Ts (take n P.methods) so_far.tables;
    code = (none k.0 k.1).0;
    untypable = (none k.0 k.1).1;
  }

  module _ (k : Method) (T : Table) (there : slice_get P.methods n ≡ Some k) (is : IsTableOf P k T) where
    late : early_store P k T ≡ None → IsLate P k
    late none U other = store_same P k U T other is ∙ none

    among_late : (o : Option ℕ) → early_store P k T ≡ o → AllByRecursion (IsLate P) (take n P.methods) → IsEarlyAmong P (n + 1) (option_map (λ (pc : ℕ). (n, pc)) o)
    among_late None none before = subst (AllByRecursion (IsLate P)) (sym (front_more P.methods n k there)) (pushed (IsLate P) (take n P.methods) k before (late none))
    among_late (Some pc) some before = record { method = k; there = there; before = before; table = T; is_table = is; early = some }

    among : (o : Option (ℕ × ℕ)) → IsEarlyAmong P n o → IsEarlyAmong P (n + 1) (option_or o (option_map (λ (pc : ℕ). (n, pc)) (early_store P k T)))
    among None before = among_late (early_store P k T) refl before
    among (Some e) at = at

    pub next : (new : Option (ℕ × ℕ)) → new ≡ option_or early (option_map (λ (pc : ℕ). (n, pc)) (early_store P k T)) → AreTyped P (n + 1) (Ts ++ T ∷ []) new
    next new e = record {
      tables = subst (λ (ks : List Method). AllZip (IsTableOf P) ks (Ts ++ T ∷ [])) (sym (front_more P.methods n k there)) (zip_pushed (IsTableOf P) (take n P.methods) Ts k T so_far.tables is);
      first = subst (IsEarlyAmong P (n + 1)) (sym e) (among early so_far.first);
    }

  pub next_typed : (T : Table) (found new : Option (ℕ × ℕ)) → n < length P.methods → ((k : Method) → slice_get P.methods n ≡ Some k → IsTableOf P k T)
      → ((k : Method) → slice_get P.methods n ≡ Some k → found ≡ option_map (λ (pc : ℕ). (n, pc)) (early_store P k T)) → new ≡ option_or early found → AreTyped P (n + 1) (Ts ++ T ∷ []) new
  next_typed T found new lt is finds e =
      let k = at_place P.methods n lt in
      next k.0 T k.1 (is k.0 k.1) new (e ∙ ap (option_or early) (finds k.0 k.1))

-- all methods
pub all_early : (P : Program) (n : ℕ) (Ts : List Table) (e : ℕ × ℕ) → length P.methods ≡ n → AreTyped P n Ts (Some e) → IsFirstEarly P e.0 e.1
all_early P n Ts e many all = record {
  typed = subst (AllByRecursion (IsTypedOrBare P)) (take_all n P.methods (omega (arith, many))) (all_typed P Ts (take n P.methods) all.tables);
  at = all.first;
}
