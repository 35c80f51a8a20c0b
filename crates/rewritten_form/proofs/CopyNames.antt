-- The duplicates of a class's methods have names and descriptors of their own.
use Rattle.std.proofs.Common.{◌≡◌, ℕ, Bool, true, false, ◌||◌, cond, List, [], ◌∷◌, ◌++◌, map, refl, sym, ap, ◌∙◌}
use Rattle.std.specs.Prelude.{codes, bytes_eq, filter, if◌then◌else◌}
use Rattle.std.specs.List.{AllByRecursion}
use Rattle.std.proofs.lemmas.Slice.Eq.{bytes_eq-Decides}
use Rattle.objects.specs.linking.Reserved.{has_part, is_reserved}
use Rattle.objects.specs.rewriting.Rewriting.{with_context, duplicate_name}
use Rattle.objects.proofs.Contexts.{with_context_told}
use Rattle.objects.specs.semantics.Program.{Field}
use Rattle.rewritten_names.proofs.Resolved.{context_kept}
use Rattle.rewritten_form.proofs.Lists.{all_append, or_false}
use Rattle.rewritten_form.proofs.Keys.{Key, IsNone, AreUnlike, IsNamedFree, IsTypedFree, IsTypedReserved, kinds_apart, types_apart}
use Rattle.rewritten_form.proofs.MethodSteps.{accessor_keys, shows_accessor, IsAccessorNamed, accessors_shown}

-- the name and the descriptor of a duplicate, by those of its method
abbrev pub copied : Key → Key
copied k = (duplicate_name k.0, with_context k.1)

-- names without reserved parts whose duplicates have one name are one
duplicate_apart : (a b : List ℕ) → is_reserved a ≡ false → is_reserved b ≡ false → duplicate_name a ≡ duplicate_name b → a ≡ b
duplicate_apart a b free also e = go (bytes_eq a (codes "<clinit>")) (bytes_eq b (codes "<clinit>")) refl refl e
  where
    go : (x y : Bool) → bytes_eq a (codes "<clinit>") ≡ x → bytes_eq b (codes "<clinit>") ≡ y → (if x then codes "__CLINIT__" else a) ≡ (if y then codes "__CLINIT__" else b) → a ≡ b
    go true true p q e = (bytes_eq-Decides a (codes "<clinit>")).0 p ∙ sym ((bytes_eq-Decides b (codes "<clinit>")).0 q)
    go true false p q e = let t : is_reserved b ≡ true = ap is_reserved (sym e) in absurd (cc (t, also))
    go false true p q e = let t : is_reserved a ≡ true = ap is_reserved e in absurd (cc (t, free))
    go false false p q e = e

-- the name of a duplicate has a part only where the method's own name has it
duplicate_shows : (part n : List ℕ) → has_part part (codes "__CLINIT__") ≡ false → has_part part n ≡ false → has_part part (duplicate_name n) ≡ false
duplicate_shows part n none own = go (bytes_eq n (codes "<clinit>"))
  where
    go : (b : Bool) → has_part part (if b then codes "__CLINIT__" else n) ≡ false
    go true = none
    go false = own

-- duplicates of unlike methods
none_copied : (k : Key) (ks : List Key) → IsNamedFree k → AllByRecursion IsNamedFree ks → IsNone ks k → IsNone (map copied ks) (copied k)
none_copied k [] f g h = tt
none_copied k (j ∷ ks) f g h = (λ e. h.0 (same (duplicate_apart k.0 j.0 f g.0 (ap (λ (x : Key). x.0) e)) (with_context_told k.1 j.1 (ap (λ (x : Key). x.1) e))), none_copied k ks f g.1 h.1)
  where
    same : k.0 ≡ j.0 → k.1 ≡ j.1 → k ≡ j
    same a b = ap (λ (t : List ℕ). (t, k.1)) a ∙ ap (λ (t : List ℕ). (j.0, t)) b

pub copies_unlike : (ks : List Key) → AllByRecursion IsNamedFree ks → AreUnlike ks → AreUnlike (map copied ks)
copies_unlike [] f h = tt
copies_unlike (k ∷ ks) f h = (none_copied k ks f.0 f.1 h.0, copies_unlike ks f.1 h.1)

copies_typed : (ks : List Key) → AllByRecursion IsTypedReserved (map copied ks)
copies_typed [] = tt
copies_typed (k ∷ ks) = (context_kept k.1, copies_typed ks)

abbrev IsCopyNamed : Key → Type 0
IsCopyNamed k = shows_accessor k.0 ≡ false

neither : (a b : Bool) → a ≡ false → b ≡ false → (a || b) ≡ false
neither true b e f = cc
neither false b e f = f

copy_named : (k : Key) → IsNamedFree k → IsCopyNamed (copied k)
copy_named k f =
    let a = or_false _ (has_part (codes "__CLINIT__") k.0) f in
    let b = or_false _ (has_part (codes "__CLASS_BASE__") k.0) a.0 in
    let c = or_false _ (has_part (codes "__Setter$") k.0) b.0 in
    let d = or_false _ (has_part (codes "__Getter$") k.0) c.0 in
    neither (has_part (codes "__Getter$") (duplicate_name k.0)) (has_part (codes "__Setter$") (duplicate_name k.0)) (duplicate_shows (codes "__Getter$") k.0 refl d.1) (duplicate_shows (codes "__Setter$") k.0 refl c.1)

copies_named : (ks : List Key) → AllByRecursion IsNamedFree ks → AllByRecursion IsCopyNamed (map copied ks)
copies_named [] f = tt
copies_named (k ∷ ks) f = (copy_named k f.0, copies_named ks f.1)

names_differ : (k j : Key) → IsAccessorNamed k → IsCopyNamed j → ¬ (k ≡ j)
names_differ k j h f e = let t : shows_accessor j.0 ≡ true = ap (λ (y : Key). shows_accessor y.0) (sym e) ∙ h in absurd (cc (t, f))

-- duplicates differ from old methods and from accessors
pub copies_away : (olds ks : List Key) (fs : List Field) → AllByRecursion IsTypedFree olds → AllByRecursion IsNamedFree ks → AllByRecursion (IsNone (map copied ks)) (olds ++ accessor_keys fs)
copies_away olds ks fs free named =
    all_append (IsNone (map copied ks)) olds (accessor_keys fs)
    (kinds_apart IsTypedFree IsTypedReserved types_apart olds (map copied ks) free (copies_typed ks))
    (kinds_apart IsAccessorNamed IsCopyNamed names_differ (accessor_keys fs) (map copied ks) (accessors_shown fs) (copies_named ks named))

-- ---- those of some members

none_where : {A : Type 0} (f : A → Key) (p : A → Bool) (k : Key) (xs : List A) → IsNone (map f xs) k → IsNone (map f (filter p xs)) k
none_where f p k [] h = tt
none_where {A} f p k (x ∷ xs) h = go (p x) (none_where f p k xs h.1)
  where
    go : (b : Bool) → IsNone (map f (filter p xs)) k → IsNone (map f (cond b (x ∷ filter p xs) (filter p xs))) k
    go true rest = (h.0, rest)
    go false rest = rest

pub unlike_where : {A : Type 0} (f : A → Key) (p : A → Bool) (xs : List A) → AreUnlike (map f xs) → AreUnlike (map f (filter p xs))
unlike_where f p [] h = tt
unlike_where {A} f p (x ∷ xs) h = go (p x) (unlike_where f p xs h.1)
  where
    go : (b : Bool) → AreUnlike (map f (filter p xs)) → AreUnlike (map f (cond b (x ∷ filter p xs) (filter p xs)))
    go true rest = (none_where f p (f x) xs h.0, rest)
    go false rest = rest

pub all_mapped_where : {A : Type 0} (Q : Key → Type 0) (f : A → Key) (p : A → Bool) (xs : List A) → AllByRecursion Q (map f xs) → AllByRecursion Q (map f (filter p xs))
all_mapped_where Q f p [] h = tt
all_mapped_where {A} Q f p (x ∷ xs) h = go (p x) (all_mapped_where Q f p xs h.1)
  where
    go : (b : Bool) → AllByRecursion Q (map f (filter p xs)) → AllByRecursion Q (map f (cond b (x ∷ filter p xs) (filter p xs)))
    go true rest = (h.0, rest)
    go false rest = rest
