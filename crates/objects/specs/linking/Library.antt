-- The classes that every program knows, their numbers among types, and the exceptions that instructions throw.
use Rattle.std.specs.Prelude.{ℕ, List, [], ◌∷◌, ◌++◌, map, codes}
use Rattle.objects.specs.declared.op.Trap.{Trap}
use Rattle.objects.specs.declared.op.Trap.TheVariants.{Arithmetic, NullPointer, ArrayIndex, ArrayStore, NegativeArraySize, ClassCast, AbstractMethod, IncompatibleClassChange}

-- the classes that every program knows, in the order of their type numbers, which begin at 1
abbrev pub library : List (List ℕ)
library = map (λ n. codes "java/lang/" ++ n) (
    codes "Object" ∷ codes "String" ∷ codes "Math" ∷ codes "Throwable" ∷ codes "Exception" ∷ codes "Error" ∷ codes "RuntimeException"
    ∷ codes "ArithmeticException" ∷ codes "ArrayStoreException" ∷ codes "ClassCastException" ∷ codes "IllegalArgumentException"
    ∷ codes "IllegalStateException" ∷ codes "IndexOutOfBoundsException" ∷ codes "NegativeArraySizeException" ∷ codes "NullPointerException"
    ∷ codes "UnsupportedOperationException" ∷ codes "ArrayIndexOutOfBoundsException" ∷ codes "LinkageError"
    ∷ codes "IncompatibleClassChangeError" ∷ codes "AbstractMethodError" ∷ [])

-- the number among types of the class of an exception that an instruction throws
abbrev pub trap_type : Trap → ℕ
trap_type Arithmetic = 8
trap_type ArrayStore = 9
trap_type ClassCast = 10
trap_type NegativeArraySize = 14
trap_type NullPointer = 15
trap_type ArrayIndex = 17
trap_type IncompatibleClassChange = 19
trap_type AbstractMethod = 20
