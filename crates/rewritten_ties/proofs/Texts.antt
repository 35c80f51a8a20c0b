-- Names of members that are added are none of the library's, nor of the context's.
use Rattle.std.proofs.Common.{◌≡◌, ℕ, List, [], ◌∷◌, Bool, true, false, ◌||◌, ◌&&◌, refl, sym, ap, ◌∙◌}
use Rattle.std.specs.Prelude.{bytes_eq, codes}
use Rattle.std.specs.List.{list_any}
use Rattle.std.proofs.lemmas.Slice.Eq.{bytes_eq-Decides}
use Rattle.objects.specs.linking.Reserved.{is_reserved}
use Rattle.jmodel.specs.format.Pool.{MemberName}
use Rattle.objects.specs.linking.LibraryMethods.{throwables, is_like, is_library_constructor, is_library_function}
use Rattle.objects.specs.linking.Decoding.{is_get_context}

-- a text that is kept is another than one that isn't
pub kept_apart : (t u : List ℕ) → is_reserved t ≡ true → is_reserved u ≡ false → bytes_eq t u ≡ false
kept_apart t u kept free = go (bytes_eq t u) refl
  where
    go : (b : Bool) → bytes_eq t u ≡ b → b ≡ false
    go true e = let fall : true ≡ false = sym kept ∙ ap is_reserved ((bytes_eq-Decides t u).0 e) ∙ free in cc
    go false e = refl

-- a test with a part that fails
pub none_left : (a b : Bool) → a ≡ false → (a && b) ≡ false
none_left true b e = cc
none_left false b e = refl

-- the same of its second part
pub none_right : (a b : Bool) → b ≡ false → (a && b) ≡ false
none_right true b e = e
none_right false b e = refl

-- two tests that fail
pub neither_of : (a b : Bool) → a ≡ false → b ≡ false → (a || b) ≡ false
neither_of true b e f = cc
neither_of false b e f = f

-- ---- by the descriptor

-- none of two descriptors
unlike : (name : List ℕ) (a b : List ℕ) (n : MemberName) → is_reserved n.descriptor ≡ true → is_reserved a ≡ false → is_reserved b ≡ false → is_like name (a ∷ b ∷ []) n ≡ false
unlike name a b n kept x y =
    none_right (bytes_eq n.name name) _ (neither_of (bytes_eq n.descriptor a) _ (kept_apart n.descriptor a kept x) (neither_of (bytes_eq n.descriptor b) false (kept_apart n.descriptor b kept y) refl))

-- no function of Math
pub no_function : (n : MemberName) → is_reserved n.descriptor ≡ true → is_library_function n ≡ false
no_function n kept =
    none_right (bytes_eq n.class (codes "java/lang/Math")) _
    (neither_of (is_like (codes "abs") (codes "(I)I" ∷ codes "(J)J" ∷ []) n || is_like (codes "min") (codes "(II)I" ∷ codes "(JJ)J" ∷ []) n) _
    (neither_of (is_like (codes "abs") (codes "(I)I" ∷ codes "(J)J" ∷ []) n) _ (unlike (codes "abs") (codes "(I)I") (codes "(J)J") n kept refl refl) (unlike (codes "min") (codes "(II)I") (codes "(JJ)J") n kept refl refl))
    (unlike (codes "max") (codes "(II)I") (codes "(JJ)J") n kept refl refl))

-- no constructor of the library
pub no_constructor : (n : MemberName) → is_reserved n.descriptor ≡ true → is_library_constructor n ≡ false
no_constructor n kept =
    neither_of (bytes_eq n.class (codes "java/lang/Object") && is_like (codes "<init>") (codes "()V" ∷ []) n) _
    (none_right (bytes_eq n.class (codes "java/lang/Object")) _ (none_right (bytes_eq n.name (codes "<init>")) _ (neither_of (bytes_eq n.descriptor (codes "()V")) false (kept_apart n.descriptor (codes "()V") kept refl) refl)))
    (none_right (list_any (bytes_eq n.class) throwables) _ (unlike (codes "<init>") (codes "()V") (codes "(Ljava/lang/String;)V") n kept refl refl))

-- ---- by the name

-- no method of a name
unnamed : (name : List ℕ) (ds : List (List ℕ)) (n : MemberName) → is_reserved n.name ≡ true → is_reserved name ≡ false → is_like name ds n ≡ false
unnamed name ds n kept free = none_left (bytes_eq n.name name) _ (kept_apart n.name name kept free)

-- no function of Math
pub no_function_named : (n : MemberName) → is_reserved n.name ≡ true → is_library_function n ≡ false
no_function_named n kept =
    none_right (bytes_eq n.class (codes "java/lang/Math")) _
    (neither_of (is_like (codes "abs") (codes "(I)I" ∷ codes "(J)J" ∷ []) n || is_like (codes "min") (codes "(II)I" ∷ codes "(JJ)J" ∷ []) n) _
    (neither_of (is_like (codes "abs") (codes "(I)I" ∷ codes "(J)J" ∷ []) n) _ (unnamed (codes "abs") (codes "(I)I" ∷ codes "(J)J" ∷ []) n kept refl) (unnamed (codes "min") (codes "(II)I" ∷ codes "(JJ)J" ∷ []) n kept refl))
    (unnamed (codes "max") (codes "(II)I" ∷ codes "(JJ)J" ∷ []) n kept refl))

-- not the call for the lane's context
pub no_get_named : (n : MemberName) → is_reserved n.name ≡ true → is_get_context n ≡ false
no_get_named n kept = none_right (bytes_eq n.class (codes "org/deuce/transaction/ContextDelegator")) _ (none_left (bytes_eq n.name (codes "getInstance")) _ (kept_apart n.name (codes "getInstance") kept refl))

-- ---- by the class

-- not the call for the lane's context
pub no_get : (n : MemberName) → bytes_eq n.class (codes "org/deuce/transaction/ContextDelegator") ≡ false → is_get_context n ≡ false
no_get n other = none_left (bytes_eq n.class (codes "org/deuce/transaction/ContextDelegator")) _ other

-- a class whose name isn't kept isn't the context's delegator
pub no_delegator : (class : List ℕ) → is_reserved class ≡ false → bytes_eq class (codes "org/deuce/transaction/ContextDelegator") ≡ false
no_delegator class free = go (bytes_eq class (codes "org/deuce/transaction/ContextDelegator")) refl
  where
    go : (b : Bool) → bytes_eq class (codes "org/deuce/transaction/ContextDelegator") ≡ b → b ≡ false
    go true e = let fall : true ≡ false = ap is_reserved (sym ((bytes_eq-Decides class (codes "org/deuce/transaction/ContextDelegator")).0 e)) ∙ free in cc
    go false e = refl
