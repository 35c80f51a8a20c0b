-- How many attempts a mark grants fits an int.
use Rattle.std.proofs.Common.{◌≡◌, ℕ, Bool, true, false, List, [], ◌∷◌, refl, ℤ, zero, suc, Option, Some, None, Result, Ok, Err, subst, arith}
use Rattle.std.specs.Prelude.{find, option_and_then, pos, int_lt, ◌==◌, if◌then◌else◌, option_map, unwrap_or, slice_get, FitsSigned}
use Rattle.std.specs.List.{AllByRecursion}
use Rattle.std.specs.Int.{w32}
use Rattle.std.proofs.lemmas.Int.{ints}
use Rattle.jmodel.specs.declared.class_file.Constant.{Constant}
use Rattle.jmodel.specs.declared.class_file.Constant.TheVariants as constants
use Rattle.jmodel.specs.declared.mark.AnnotationFault.TheVariants.{Retries}
use Rattle.jmodel.specs.format.ClassFile.{Member, Pool}
use Rattle.jmodel.specs.format.ClassRules.{IsConstant}
use Rattle.jmodel.specs.format.Annotation.{Pair, Annotation, Shape, Single, Value}
use Rattle.jmodel.specs.format.AnnotationRules.{is_mark, is_retries, integer_in, integer, int_of, retries_of as said}
use Rattle.jmodel.specs.format.AnnotationReading.{◌>>=◌, value_at}
use Rattle.jmodel.specs.format.Mark.{annotation_attributes, all_annotations, marked_retries, retries_in, granted, answer}
use Rattle.objects.specs.linking.Code.{attempts_in, mark_retries, is_initialiser, retries_of}

fits_in : (pool : Pool) (k : Constant) (n : ℤ) → IsConstant pool k → integer_in k ≡ Some n → FitsSigned w32 n
fits_in pool (constants.Integer x) n h e = let same : x ≡ n = cc in subst (λ (y : ℤ). FitsSigned w32 y) same h
fits_in pool k n h e = cc

fits_at : (pool ks : Pool) (i : ℕ) (n : ℤ) → AllByRecursion (IsConstant pool) ks → option_and_then integer_in (slice_get ks i) ≡ Some n → FitsSigned w32 n
fits_at pool [] i n h e = absurd cc
fits_at pool (k ∷ ks) zero n h e = fits_in pool k n h.0 e
fits_at pool (k ∷ ks) (suc i) n h e = fits_at pool ks i n h.1 e

module _ (pool : Pool) (each : AllByRecursion (IsConstant pool) pool) where
  integer_fits : (i : ℕ) (n : ℤ) → integer pool i ≡ Some n → FitsSigned w32 n
  integer_fits zero n e = absurd cc
  integer_fits (suc i) n e = fits_at pool pool i n each e

  most_fits : FitsSigned w32 (pos 2147483647)
  most_fits = omega (arith, ints)

  module _ {V : Type 0} where
    value_fits : (v : Shape V) (n : ℤ) → int_of pool v ≡ Some n → FitsSigned w32 n
    value_fits (Single tag index) n e = go (tag == 73) e
      where
        go : (b : Bool) → (if b then integer pool index else None) ≡ Some n → FitsSigned w32 n
        go true h = integer_fits index n h
        go false h = absurd cc
    value_fits v n e = absurd cc

    said_fits : (a : Annotation (Shape V)) → FitsSigned w32 (said pool a)
    said_fits a = by_pair (find (is_retries pool) a.pairs)
      where
        by_int : (o : Option ℤ) → ((n : ℤ) → o ≡ Some n → FitsSigned w32 n) → FitsSigned w32 (unwrap_or o (pos 2147483647))
        by_int None h = most_fits
        by_int (Some n) h = h n refl

        by_pair : (o : Option (Pair (Shape V))) → FitsSigned w32 (unwrap_or (option_and_then (λ (p : Pair (Shape V)). int_of pool p.value) o) (pos 2147483647))
        by_pair None = most_fits
        by_pair (Some p) = by_int (int_of pool p.value) (value_fits p.value)

  mark_fits : (m : Member) (n : ℤ) → mark_retries pool m ≡ Some n → FitsSigned w32 n
  unfolding retries_in
  mark_fits m n e = by_read (all_annotations pool (value_at 16 pool) true (annotation_attributes pool m.attributes)) e
    where
      by_test : (b : Bool) (x : ℤ) → FitsSigned w32 x → attempts_in (if b then Err (Retries x) else Ok (Some (record { retries = x }))) ≡ Some n → FitsSigned w32 n
      by_test true x f h = absurd cc
      by_test false x f h = let same : x ≡ n = cc in subst (λ (y : ℤ). FitsSigned w32 y) same f

      by_mark : (o : Option (Annotation (Value 16))) → attempts_in (granted (option_map (said pool) o)) ≡ Some n → FitsSigned w32 n
      by_mark None h = absurd cc
      by_mark (Some a) h = by_test (int_lt (said pool a) (pos 1)) (said pool a) (said_fits a) h

      by_read : (r : Result (List (Annotation (Value 16))) ℕ) → attempts_in (answer (r >>= λ every. Ok (marked_retries pool every))) ≡ Some n → FitsSigned w32 n
      by_read (Ok every) h = by_mark (find (is_mark pool) every) h
      by_read (Err at) h = absurd cc

  pub attempts_fit : (m : Member) (n : ℤ) → retries_of pool m ≡ Some n → FitsSigned w32 n
  attempts_fit m n e = by_kind (is_initialiser pool m) (λ h. mark_fits m n h) e
    where
      by_kind : (b : Bool) → (mark_retries pool m ≡ Some n → FitsSigned w32 n) → (if b then Some (pos 2147483647) else mark_retries pool m) ≡ Some n → FitsSigned w32 n
      by_kind true marked h = let same : pos 2147483647 ≡ n = cc in subst (λ (y : ℤ). FitsSigned w32 y) same most_fits
      by_kind false marked h = marked h
