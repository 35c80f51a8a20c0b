-- The methods of the library that a program may call, and those that Object declares in Java.
use Rattle.std.specs.Prelude.{ℕ, List, [], ◌∷◌, map, drop, Bool, ◌&&◌, ◌||◌, codes, bytes_eq}
use Rattle.std.specs.List.{list_any}
use Rattle.jmodel.specs.format.Pool.{MemberName}
use Rattle.objects.specs.semantics.Program.{Row}
use Rattle.objects.specs.linking.LibraryClasses.{library_rows}

-- the names of the classes that every program knows
abbrev pub library : List (List ℕ)
library = map (λ (r : Row). r.name) library_rows

abbrev pub is_library : List ℕ → Bool
is_library name = list_any (bytes_eq name) library

-- String and Math are final
abbrev pub is_final_library : List ℕ → Bool
is_final_library name = bytes_eq name (codes "java/lang/String") || bytes_eq name (codes "java/lang/Math")

-- Throwable and the classes below it
abbrev pub throwables : List (List ℕ)
throwables = drop 3 library

-- whether a member has a name and one of these descriptors
abbrev pub is_like : List ℕ → List (List ℕ) → MemberName → Bool
is_like name descriptors n = bytes_eq n.name name && list_any (bytes_eq n.descriptor) descriptors

-- The constructors of the library: that of Object, and two of Throwable and each class below it, of which one takes a text.
abbrev pub is_library_constructor : MemberName → Bool
is_library_constructor n = bytes_eq n.class (codes "java/lang/Object") && is_like (codes "<init>") (codes "()V" ∷ []) n
    || list_any (bytes_eq n.class) throwables && is_like (codes "<init>") (codes "()V" ∷ codes "(Ljava/lang/String;)V" ∷ []) n

-- The static methods of the library: abs, min and max of Math, of ints and of longs.
abbrev pub is_library_function : MemberName → Bool
is_library_function n = bytes_eq n.class (codes "java/lang/Math")
    && (is_like (codes "abs") (codes "(I)I" ∷ codes "(J)J" ∷ []) n
    || is_like (codes "min") (codes "(II)I" ∷ codes "(JJ)J" ∷ []) n
    || is_like (codes "max") (codes "(II)I" ∷ codes "(JJ)J" ∷ []) n)

abbrev pub is_library_method : MemberName → Bool
is_library_method n = is_library_constructor n || is_library_function n

-- The name and the descriptor are those of a method that Object declares in Java, whatever class is named.
abbrev pub is_object_method : MemberName → Bool
is_object_method n = is_like (codes "toString") (codes "()Ljava/lang/String;" ∷ []) n
    || is_like (codes "equals") (codes "(Ljava/lang/Object;)Z" ∷ []) n
    || is_like (codes "hashCode") (codes "()I" ∷ []) n
    || is_like (codes "getClass") (codes "()Ljava/lang/Class;" ∷ []) n
    || is_like (codes "clone") (codes "()Ljava/lang/Object;" ∷ []) n
    || is_like (codes "finalize") (codes "()V" ∷ []) n
    || is_like (codes "notify") (codes "()V" ∷ []) n
    || is_like (codes "notifyAll") (codes "()V" ∷ []) n
    || is_like (codes "wait") (codes "()V" ∷ codes "(J)V" ∷ codes "(JI)V" ∷ []) n
