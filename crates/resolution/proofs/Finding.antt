-- Searches in lists of places, and tables of such lists.
use Rattle.std.proofs.Common.{◌≡◌, ℕ, ◌+◌, ◌<◌, ◌≤◌, List, [], ◌∷◌, ◌++◌, length, get_or, take, Option, Some, None, Bool, true, false, cond, ◌||◌, nat_eq, nat_lt, refl, sym, ap, ◌∙◌, arith, subst}
use Rattle.std.specs.Prelude.{is_some, option_and_then}
use Rattle.std.specs.List.{find, list_any, flat_map}
use Rattle.std.specs.Option.{option_or}
use Rattle.std.proofs.lemmas.List.Folds.{find-append}
use Rattle.std.proofs.lemmas.List.{get_or_past, length-append, append-nil, take_more}
use Rattle.std.proofs.lemmas.Grind.{flat_map-append}
use Rattle.std.proofs.Math.ListN.{get_or-append}
use Rattle.std.proofs.Math.Seq.{get_or-append_seam}
use Rattle.std.proofs.lemmas.Bool.Decides.{nat_tests}
use Rattle.resolution.specs.Ways.{FindSame, entry_at, IsTable}

-- nothing behind an answer leaves it
or_none : {A : Type 0} (o : Option A) → option_or o None ≡ o
or_none None = refl
or_none (Some x) = refl

-- a list finds what it finds
pub found_itself : (xs : List ℕ) → FindSame xs xs
found_itself xs test = refl

-- lists that find the same do so behind lists that do
pub same_front : (xs ys zs ws : List ℕ) → FindSame xs ys → FindSame zs ws → FindSame (xs ++ zs) (ys ++ ws)
same_front xs ys zs ws h k test =
    find-append test xs zs ∙ ap (λ (o : Option ℕ). option_or o (find test zs)) (h test) ∙ ap (option_or (find test ys)) (k test) ∙ sym (find-append test ys ws)

-- a place that is among them already changes no search
pub again : (test : ℕ → Bool) (xs : List ℕ) (p : ℕ) → list_any (nat_eq p) xs ≡ true → find test (xs ++ p ∷ []) ≡ find test xs
again test [] p h = cc
again test (x ∷ xs) p h = go (test x) refl (nat_eq p x) refl (again test xs p)
  where
    go : (b : Bool) → test x ≡ b → (e : Bool) → nat_eq p x ≡ e → (list_any (nat_eq p) xs ≡ true → find test (xs ++ p ∷ []) ≡ find test xs)
        → cond b (Some x) (find test (xs ++ p ∷ [])) ≡ cond b (Some x) (find test xs)
    go true t e s later = refl
    go false t true s later =
        let same : p ≡ x = grind (arith, nat_tests) in
        find-append test xs (p ∷ []) ∙ ap (λ (b : Bool). option_or (find test xs) (cond b (Some p) None)) (ap test same ∙ t) ∙ or_none (find test xs)
    go false t false s later = later (sym (ap (λ (b : Bool). b || list_any (nat_eq p) xs) s) ∙ h)

-- a search goes from list to list
pub find_flat : {A B : Type 0} (q : B → Bool) (f : A → List B) (xs : List A) → find q (flat_map f xs) ≡ option_and_then (λ x. find q (f x)) (find (λ x. is_some (find q (f x))) xs)
find_flat q f [] = refl
find_flat {A} {B} q f (x ∷ xs) = find-append q (f x) (flat_map f xs) ∙ go (find q (f x)) refl (find_flat q f xs)
  where
    go : (o : Option B) → find q (f x) ≡ o → find q (flat_map f xs) ≡ option_and_then (λ x. find q (f x)) (find (λ x. is_some (find q (f x))) xs)
        → option_or o (find q (flat_map f xs)) ≡ option_and_then (λ x. find q (f x)) (cond (is_some o) (Some x) (find (λ x. is_some (find q (f x))) xs))
    go None e rest = rest
    go (Some y) e rest = sym e

-- places that find the same lead to lists that do
pub same_flat : (f : ℕ → List ℕ) (xs ys : List ℕ) → FindSame xs ys → FindSame (flat_map f xs) (flat_map f ys)
same_flat f xs ys h test = find_flat test f xs ∙ ap (option_and_then (λ x. find test (f x))) (h (λ x. is_some (find test (f x)))) ∙ sym (find_flat test f ys)

-- lists that find the same do so joined
pub each_same : (f g : ℕ → List ℕ) (xs : List ℕ) → ((p : ℕ) → FindSame (f p) (g p)) → FindSame (flat_map f xs) (flat_map g xs)
each_same f g [] h = found_itself []
each_same f g (x ∷ xs) h = same_front (f x) (g x) (flat_map f xs) (flat_map g xs) (h x) (each_same f g xs h)

-- a place in front of both changes nothing
pub same_behind : (p : ℕ) (xs ys : List ℕ) → FindSame xs ys → FindSame (p ∷ xs) (p ∷ ys)
same_behind p xs ys h test = ap (cond (test p) (Some p)) (h test)

-- what a third list finds, as the second does, the first finds
pub same_then : (xs ys zs : List ℕ) → FindSame xs ys → FindSame ys zs → FindSame xs zs
same_then xs ys zs h k test = h test ∙ k test

-- the lists of some items, and that of one more
pub flat_more : {A : Type 0} (f : A → List ℕ) (so_far next : List ℕ) (xs : List A) (i : ℕ) (d x : A) → i < length xs → x ≡ get_or xs i d → FindSame so_far (flat_map f (take i xs)) → FindSame next (so_far ++ f x)
    → FindSame next (flat_map f (take (i + 1) xs))
flat_more {A} f so_far next xs i d x inside is before put test =
    let more : take (i + 1) xs ≡ take i xs ++ x ∷ [] = take_more xs i d inside ∙ ap (λ (y : A). take i xs ++ y ∷ []) (sym is) in
    let lists : flat_map f (take (i + 1) xs) ≡ flat_map f (take i xs) ++ f x =
    ap (flat_map f) more ∙ flat_map-append f (take i xs) (x ∷ []) ∙ ap (λ (l : List ℕ). flat_map f (take i xs) ++ l) (append-nil (f x)) in
    put test ∙ same_front so_far (flat_map f (take i xs)) (f x) (f x) before (found_itself (f x)) test ∙ ap (find test) (sym lists)

-- ---- tables

-- one more list is put behind a table
pub table_more : (f : ℕ → List ℕ) (n : ℕ) (table : List (List ℕ)) (xs : List ℕ) → IsTable f n table → FindSame xs (f n) → IsTable f (n + 1) (table ++ xs ∷ [])
table_more f n table xs so_far is = record {
  many = length-append table (xs ∷ []) ∙ ap (λ (k : ℕ). k + 1) so_far.many;
  each = λ p h. go p h (nat_lt p n) refl;
}
  where
    go : (p : ℕ) → p < n + 1 → (b : Bool) → nat_lt p n ≡ b → FindSame (entry_at (table ++ xs ∷ []) p) (f p)
    go p h true e =
        let inside : p < n = grind (arith, nat_tests) in
        let old : entry_at (table ++ xs ∷ []) p ≡ entry_at table p = get_or-append table (xs ∷ []) [] p (omega (arith, inside, so_far.many)) in
        subst (λ (l : List ℕ). FindSame l (f p)) (sym old) (so_far.each p inside)
    go p h false e =
        let last : n ≡ p = grind (arith, nat_tests) in
        let new : entry_at (table ++ xs ∷ []) n ≡ xs = ap (entry_at (table ++ xs ∷ [])) (sym so_far.many) ∙ get_or-append_seam table xs [] [] in
        subst (λ (k : ℕ). FindSame (entry_at (table ++ xs ∷ []) k) (f k)) last (subst (λ (l : List ℕ). FindSame l (f n)) (sym new) is)

-- past its end a table has nothing
pub whole_table : (f : ℕ → List ℕ) (n : ℕ) (table : List (List ℕ)) → IsTable f n table → ((p : ℕ) → n ≤ p → f p ≡ []) → (p : ℕ) → FindSame (entry_at table p) (f p)
whole_table f n table is past p = go (nat_lt p n) refl
  where
    go : (b : Bool) → nat_lt p n ≡ b → FindSame (entry_at table p) (f p)
    go true e = let inside : p < n = grind (arith, nat_tests) in is.each p inside
    go false e =
        let outside : n ≤ p = grind (arith, nat_tests) in
        let none : entry_at table p ≡ [] = get_or_past table p [] (omega (arith, is.many, outside)) in
        λ test. ap (find test) (none ∙ sym (past p outside))
