-- The classes that every program knows, the first of its types, in the order of their numbers from 1 on.
use Rattle.std.specs.Prelude.{ℕ, List, [], ◌∷◌, ◌++◌, codes}
use Rattle.objects.specs.semantics.Program.{Words, Row}

-- a class of the library under another
abbrev pub under : Row → List ℕ → Row
under upper n = record {
  name = codes "java/lang/" ++ n;
  read = codes "java/lang/" ++ n;
  holds = Words [];
  lineage = (codes "java/lang/" ++ n) ∷ upper.lineage;
  instance_of = (codes "java/lang/" ++ n) ∷ upper.lineage;
}

abbrev pub object : Row
object = record { name = codes "java/lang/Object"; read = codes "java/lang/Object"; holds = Words []; lineage = codes "java/lang/Object" ∷ []; instance_of = codes "java/lang/Object" ∷ [] }

abbrev pub throwable : Row
throwable = under object (codes "Throwable")

abbrev pub exception : Row
exception = under throwable (codes "Exception")

abbrev pub error : Row
error = under throwable (codes "Error")

abbrev pub runtime_exception : Row
runtime_exception = under exception (codes "RuntimeException")

abbrev pub index_out_of_bounds : Row
index_out_of_bounds = under runtime_exception (codes "IndexOutOfBoundsException")

abbrev pub linkage_error : Row
linkage_error = under error (codes "LinkageError")

abbrev pub class_change_error : Row
class_change_error = under linkage_error (codes "IncompatibleClassChangeError")

abbrev pub library_rows : List Row
library_rows =
    object ∷ under object (codes "String") ∷ under object (codes "Math") ∷ throwable ∷ exception ∷ error ∷ runtime_exception
    ∷ under runtime_exception (codes "ArithmeticException") ∷ under runtime_exception (codes "ArrayStoreException") ∷ under runtime_exception (codes "ClassCastException")
    ∷ under runtime_exception (codes "IllegalArgumentException") ∷ under runtime_exception (codes "IllegalStateException") ∷ index_out_of_bounds
    ∷ under runtime_exception (codes "NegativeArraySizeException") ∷ under runtime_exception (codes "NullPointerException")
    ∷ under runtime_exception (codes "UnsupportedOperationException") ∷ under index_out_of_bounds (codes "ArrayIndexOutOfBoundsException") ∷ linkage_error
    ∷ class_change_error ∷ under class_change_error (codes "AbstractMethodError") ∷ []
