-- The classes of the library keep the rules of types in each program that has them first.
use Rattle.std.proofs.Common.{◌≡◌, ℕ, zero, suc, ◌+◌, List, [], ◌∷◌, ◌++◌, Some, None, Bool, true, false, refl, sym, ap, subst, ◌∙◌, arith, inl, inr}
use Rattle.std.specs.Prelude.{slice_get, find, bytes_eq, ◌||◌, codes}
use Rattle.std.specs.List.{AllByRecursion, list_any}
use Rattle.std.proofs.lemmas.Slice.Eq.{bytes_eq-Decides}
use Rattle.jmodel.specs.declared.typing.VType.TheVariants as type
use Rattle.objects.specs.declared.op.Trap.{Trap}
use Rattle.objects.specs.declared.op.Trap.TheVariants.{Arithmetic, NullPointer, ArrayIndex, ArrayStore, NegativeArraySize, ClassCast, AbstractMethod, IncompatibleClassChange}
use Rattle.objects.specs.semantics.Program.{Row, Field, Method, Program, row_at, is_instance}
use Rattle.objects.specs.linking.LibraryClasses.{under, object, throwable, exception, error, runtime_exception, index_out_of_bounds, linkage_error, class_change_error, library_rows}
use Rattle.objects.specs.typing.TypeOrder.{string_class, context_class, conflict_class, conflict_classes, from_class, classes_from, is_within, IsWithin, name_read}
use Rattle.objects.specs.typing.Source.{IsRowOf, IsTrapClass, IsKnownName}

-- ---- lists of names

any_front : (p : List ℕ → Bool) (xs ys : List (List ℕ)) → list_any p xs ≡ true → list_any p (xs ++ ys) ≡ true
any_front p [] ys e = cc
any_front p (x ∷ xs) ys e = go (p x) e (any_front p xs ys)
  where
    go : (b : Bool) → (b || list_any p xs) ≡ true → (list_any p xs ≡ true → list_any p (xs ++ ys) ≡ true) → (b || list_any p (xs ++ ys)) ≡ true
    go true e rest = refl
    go false e rest = rest e

-- what holds of each name of a list holds of a name that is one of them
pub for_any : (Rule : List ℕ → Type 0) (n : List ℕ) (xs : List (List ℕ)) → AllByRecursion Rule xs → list_any (bytes_eq n) xs ≡ true → Rule n
for_any Rule n [] all e = cc
for_any Rule n (x ∷ xs) all e = go (bytes_eq n x) refl e (for_any Rule n xs all.1)
  where
    go : (b : Bool) → bytes_eq n x ≡ b → (b || list_any (bytes_eq n) xs) ≡ true → (list_any (bytes_eq n) xs ≡ true → Rule n) → Rule n
    go true is e rest = subst Rule (sym ((bytes_eq-Decides n x).0 is)) all.0
    go false is e rest = rest e

-- ---- rules of a row

abbrev pub HasInstances : Program → ℕ → Row → Type 0
HasInstances P t r = (n : List ℕ) → is_instance P t n ≡ true → IsWithin P (type.Ref r.read) (type.Ref (name_read P n))

abbrev pub HasWithin : Program → ℕ → Row → Type 0
HasWithin P t r = (n : List ℕ) → IsWithin P (type.Ref r.read) (type.Ref n) → is_instance P t n ≡ true

pub record IsRow (P : Program) (t : ℕ) (r : Row) : Type 0 where
  pub row : IsRowOf P r r.holds
  pub instances : HasInstances P t r
  pub within : HasWithin P t r

abbrev pub AreRows : Program → ℕ → List Row → Type 0
AreRows P t [] = Unit {0}
AreRows P t (r ∷ rs) = IsRow P t r × AreRows P (suc t) rs

pub row_of : (P : Program) (t : ℕ) (rs : List Row) → AreRows P t rs → (i : ℕ) (r : Row) → slice_get rs i ≡ Some r → IsRow P (t + i) r
row_of P t [] all i r e = cc
row_of P t (x ∷ rs) all zero r e = let s : x ≡ r = cc in let z : t + 0 ≡ t = omega arith in rw (z, ← s) all.0
row_of P t (x ∷ rs) all (suc i) r e = let z : t + suc i ≡ suc t + i = omega arith in rw z (row_of P (suc t) rs all.1 i r e)

abbrev pub IsReadIn : Program → Row → List ℕ → Type 0
IsReadIn P r n = IsWithin P (type.Ref r.read) (type.Ref (name_read P n))

-- a row of a class, which is an instance of the classes of its lineage and of these names
pub class_row : (P : Program) (t : ℕ) (r : Row) (more : List (List ℕ)) → row_at P t ≡ Some r → IsRowOf P r r.holds → AllByRecursion (IsReadIn P r) r.instance_of
    → ((n : List ℕ) → is_within P (type.Ref r.read) (type.Ref n) ≡ list_any (bytes_eq n) r.lineage) → r.instance_of ≡ r.lineage ++ more → IsRow P t r
class_row P t r more is row names above extended = record {
  row = row;
  instances = λ n e. for_any (IsReadIn P r) n r.instance_of names (sym (instance n) ∙ e);
  within = λ n e. instance n ∙ ap (list_any (bytes_eq n)) extended ∙ any_front (bytes_eq n) r.lineage more (sym (above n) ∙ e);
}
  where
    instance : (n : List ℕ) → is_instance P t n ≡ list_any (bytes_eq n) r.instance_of
    instance n = rw is refl

-- ---- the library

module _ (more : List Row) (texts : List ℕ) (fields : List Field) (methods : List Method) where
  abbrev whole : Program
  whole = record { types = library_rows ++ more; texts = texts; fields = fields; methods = methods }

  pub library : AreRows whole 1 library_rows
  library = (
    class_row whole 1 (object) [] refl (inr (record { named = refl; read = refl; found = refl; placed = inl (refl, refl) })) (refl, tt) (λ n. refl) refl,
    (
      class_row whole 2 (under object (codes "String")) [] refl (inr (record { named = refl; read = refl; found = refl; placed = inr (record { number = 1; upper = object; upper_words = []; own = []; is = refl; class = λ e. cc; lineage = refl; holds = refl; words_are = refl }) })) (refl, (refl, tt)) (λ n. refl) refl,
      (
        class_row whole 3 (under object (codes "Math")) [] refl (inr (record { named = refl; read = refl; found = refl; placed = inr (record { number = 1; upper = object; upper_words = []; own = []; is = refl; class = λ e. cc; lineage = refl; holds = refl; words_are = refl }) })) (refl, (refl, tt)) (λ n. refl) refl,
        (
          class_row whole 4 (throwable) [] refl (inr (record { named = refl; read = refl; found = refl; placed = inr (record { number = 1; upper = object; upper_words = []; own = []; is = refl; class = λ e. cc; lineage = refl; holds = refl; words_are = refl }) })) (refl, (refl, tt)) (λ n. refl) refl,
          (
            class_row whole 5 (exception) [] refl (inr (record { named = refl; read = refl; found = refl; placed = inr (record { number = 4; upper = throwable; upper_words = []; own = []; is = refl; class = λ e. cc; lineage = refl; holds = refl; words_are = refl }) })) (refl, (refl, (refl, tt))) (λ n. refl) refl,
            (
              class_row whole 6 (error) [] refl (inr (record { named = refl; read = refl; found = refl; placed = inr (record { number = 4; upper = throwable; upper_words = []; own = []; is = refl; class = λ e. cc; lineage = refl; holds = refl; words_are = refl }) })) (refl, (refl, (refl, tt))) (λ n. refl) refl,
              (
                class_row whole 7 (runtime_exception) [] refl (inr (record { named = refl; read = refl; found = refl; placed = inr (record { number = 5; upper = exception; upper_words = []; own = []; is = refl; class = λ e. cc; lineage = refl; holds = refl; words_are = refl }) })) (refl, (refl, (refl, (refl, tt)))) (λ n. refl) refl,
                (
                  class_row whole 8 (under runtime_exception (codes "ArithmeticException")) [] refl (inr (record { named = refl; read = refl; found = refl; placed = inr (record { number = 7; upper = runtime_exception; upper_words = []; own = []; is = refl; class = λ e. cc; lineage = refl; holds = refl; words_are = refl }) })) (refl, (refl, (refl, (refl, (refl, tt))))) (λ n. refl) refl,
                  (
                    class_row whole 9 (under runtime_exception (codes "ArrayStoreException")) [] refl (inr (record { named = refl; read = refl; found = refl; placed = inr (record { number = 7; upper = runtime_exception; upper_words = []; own = []; is = refl; class = λ e. cc; lineage = refl; holds = refl; words_are = refl }) })) (refl, (refl, (refl, (refl, (refl, tt))))) (λ n. refl) refl,
                    (
                      class_row whole 10 (under runtime_exception (codes "ClassCastException")) [] refl (inr (record { named = refl; read = refl; found = refl; placed = inr (record { number = 7; upper = runtime_exception; upper_words = []; own = []; is = refl; class = λ e. cc; lineage = refl; holds = refl; words_are = refl }) })) (refl, (refl, (refl, (refl, (refl, tt))))) (λ n. refl) refl,
                      (
                        class_row whole 11 (under runtime_exception (codes "IllegalArgumentException")) [] refl (inr (record { named = refl; read = refl; found = refl; placed = inr (record { number = 7; upper = runtime_exception; upper_words = []; own = []; is = refl; class = λ e. cc; lineage = refl; holds = refl; words_are = refl }) })) (refl, (refl, (refl, (refl, (refl, tt))))) (λ n. refl) refl,
                        (
                          class_row whole 12 (under runtime_exception (codes "IllegalStateException")) [] refl (inr (record { named = refl; read = refl; found = refl; placed = inr (record { number = 7; upper = runtime_exception; upper_words = []; own = []; is = refl; class = λ e. cc; lineage = refl; holds = refl; words_are = refl }) })) (refl, (refl, (refl, (refl, (refl, tt))))) (λ n. refl) refl,
                          (
                            class_row whole 13 (index_out_of_bounds) [] refl (inr (record { named = refl; read = refl; found = refl; placed = inr (record { number = 7; upper = runtime_exception; upper_words = []; own = []; is = refl; class = λ e. cc; lineage = refl; holds = refl; words_are = refl }) })) (refl, (refl, (refl, (refl, (refl, tt))))) (λ n. refl) refl,
                            (
                              class_row whole 14 (under runtime_exception (codes "NegativeArraySizeException")) [] refl (inr (record { named = refl; read = refl; found = refl; placed = inr (record { number = 7; upper = runtime_exception; upper_words = []; own = []; is = refl; class = λ e. cc; lineage = refl; holds = refl; words_are = refl }) })) (refl, (refl, (refl, (refl, (refl, tt))))) (λ n. refl) refl,
                              (
                                class_row whole 15 (under runtime_exception (codes "NullPointerException")) [] refl (inr (record { named = refl; read = refl; found = refl; placed = inr (record { number = 7; upper = runtime_exception; upper_words = []; own = []; is = refl; class = λ e. cc; lineage = refl; holds = refl; words_are = refl }) })) (refl, (refl, (refl, (refl, (refl, tt))))) (λ n. refl) refl,
                                (
                                  class_row whole 16 (under runtime_exception (codes "UnsupportedOperationException")) [] refl (inr (record { named = refl; read = refl; found = refl; placed = inr (record { number = 7; upper = runtime_exception; upper_words = []; own = []; is = refl; class = λ e. cc; lineage = refl; holds = refl; words_are = refl }) })) (refl, (refl, (refl, (refl, (refl, tt))))) (λ n. refl) refl,
                                  (
                                    class_row whole 17 (under index_out_of_bounds (codes "ArrayIndexOutOfBoundsException")) [] refl (inr (record { named = refl; read = refl; found = refl; placed = inr (record { number = 13; upper = index_out_of_bounds; upper_words = []; own = []; is = refl; class = λ e. cc; lineage = refl; holds = refl; words_are = refl }) })) (refl, (refl, (refl, (refl, (refl, (refl, tt)))))) (λ n. refl) refl,
                                    (
                                      class_row whole 18 (linkage_error) [] refl (inr (record { named = refl; read = refl; found = refl; placed = inr (record { number = 6; upper = error; upper_words = []; own = []; is = refl; class = λ e. cc; lineage = refl; holds = refl; words_are = refl }) })) (refl, (refl, (refl, (refl, tt)))) (λ n. refl) refl,
                                      (
                                        class_row whole 19 (class_change_error) [] refl (inr (record { named = refl; read = refl; found = refl; placed = inr (record { number = 18; upper = linkage_error; upper_words = []; own = []; is = refl; class = λ e. cc; lineage = refl; holds = refl; words_are = refl }) })) (refl, (refl, (refl, (refl, (refl, tt))))) (λ n. refl) refl,
                                        (
                                          class_row whole 20 (under class_change_error (codes "AbstractMethodError")) [] refl (inr (record { named = refl; read = refl; found = refl; placed = inr (record { number = 19; upper = class_change_error; upper_words = []; own = []; is = refl; class = λ e. cc; lineage = refl; holds = refl; words_are = refl }) })) (refl, (refl, (refl, (refl, (refl, (refl, tt)))))) (λ n. refl) refl,
                                          tt,
                                        ),
                                      ),
                                    ),
                                  ),
                                ),
                              ),
                            ),
                          ),
                        ),
                      ),
                    ),
                  ),
                ),
              ),
            ),
          ),
        ),
      ),
    ),
  )

  pub traps : (x : Trap) → IsTrapClass whole x
  traps Arithmetic = record { row = _; is = refl; empty = refl; below = refl }
  traps NullPointer = record { row = _; is = refl; empty = refl; below = refl }
  traps ArrayIndex = record { row = _; is = refl; empty = refl; below = refl }
  traps ArrayStore = record { row = _; is = refl; empty = refl; below = refl }
  traps NegativeArraySize = record { row = _; is = refl; empty = refl; below = refl }
  traps ClassCast = record { row = _; is = refl; empty = refl; below = refl }
  traps AbstractMethod = record { row = _; is = refl; empty = refl; below = refl }
  traps IncompatibleClassChange = record { row = _; is = refl; empty = refl; below = refl }

  -- where no class has the name of the conflict's
  pub conflict : find (λ (r : Row). bytes_eq r.name conflict_class) more ≡ None → AllByRecursion (λ n. classes_from whole n ≡ from_class n conflict_classes) conflict_classes
  conflict none = (rw none refl, (refl, (refl, (refl, (refl, tt)))))

  -- where no class has that of the context's
  pub context : find (λ (r : Row). bytes_eq r.name context_class) more ≡ None → classes_from whole context_class ≡ from_class context_class conflict_classes
  context none = rw none refl

  pub string : IsKnownName whole string_class
  string = record { itself = refl; array = λ e. cc }
