-- The members of classes by their names and descriptors.
use Rattle.std.proofs.Common.{◌≡◌, ℕ, zero, suc, ◌+◌, ◌<◌, ◌≤◌, Bool, true, false, ◌&&◌, cond, List, [], ◌∷◌, ◌++◌, length, map, take, get_or, nat_lt, Option, Some, refl, sym, ap, ◌∙◌, subst, arith}
use Rattle.std.specs.Prelude.{bytes_eq, slice_get, option_map, option_and_then, position, if◌then◌else◌}
use Rattle.std.specs.List.{find}
use Rattle.std.specs.Cmp.Lexicographic.{nat_list_eq_equiv}
use Rattle.std.proofs.lemmas.List.{append-nil, take_more, length-append, length-take-le}
use Rattle.std.proofs.lemmas.Bool.Decides.{nat_tests}
use Rattle.jmodel.specs.declared.name.MethodName.{MethodName}
use Rattle.jmodel.specs.format.ClassFile.{Member, Pool, ClassFile}
use Rattle.jmodel.specs.format.Pool.{MemberName, utf8}
use Rattle.objects.specs.linking.Members.{is_name, is_member}
use Rattle.objects.specs.linking.Classes.{Declared, declared_in}
use Rattle.hierarchy.specs.Names.{named, number_of}
use Rattle.hierarchy.specs.Numbers.{or_number}
use Rattle.resolution.specs.Resolving.{member_key, HasFirst, AreFirsts}
use Rattle.hierarchy.proofs.Numbering.{position_push, position_get}

-- a last test that always passes
and_true : (a b : Bool) → (a && b && true) ≡ (a && b)
and_true true true = refl
and_true true false = refl
and_true false b = refl

-- a member with both texts
pub is_both : (pool : Pool) (m : Member) (n : MemberName) (name descriptor : List ℕ) → utf8 pool m.name ≡ Some name → utf8 pool m.descriptor ≡ Some descriptor
    → is_name (member_key n) (named [] name descriptor) ≡ is_member pool n.name n.descriptor m
is_both pool m n name descriptor first second = rw (first, second) (rw (nat_list_eq_equiv.symm n.name name, nat_list_eq_equiv.symm n.descriptor descriptor) (and_true (bytes_eq name n.name) (bytes_eq descriptor n.descriptor)))

-- ---- members of a class

-- one more member is noted, if it passes
pub first_more : (passes : Member → Bool) (pool : Pool) (ms : List Member) (i : ℕ) (m : Member) (before after : List (MethodName × ℕ)) → i < length ms → m ≡ get_or ms i m → HasFirst passes pool (take i ms) before
    → ((n : MemberName) → number_of after (member_key n) ≡ (if is_member pool n.name n.descriptor m && passes m then or_number (number_of before (member_key n)) i else number_of before (member_key n)))
    → HasFirst passes pool (take (i + 1) ms) after
first_more passes pool ms i m before after inside is so_far notes n =
    let test = λ (k : Member). is_member pool n.name n.descriptor k && passes k in
    let front : List Member = take i ms in
    let len : length (take i ms) ≡ i = length-take-le i ms (omega (arith, inside)) in
    let whole : take (i + 1) ms ≡ take i ms ++ m ∷ [] = take_more ms i m inside ∙ ap (λ (k : Member). take i ms ++ k ∷ []) (sym is) in
    notes n ∙ ap (λ (o : Option ℕ). if test m then or_number o i else o) (so_far n)
    ∙ ap (λ (k : ℕ). if test m then or_number (position test front) k else position test front) (sym len)
    ∙ sym (position_push test front m) ∙ ap (position test) (sym whole)

-- a test that passes changes no other
pub passing : (a b : Bool) → b ≡ true → (a && b) ≡ a
passing true b h = h
passing false b h = refl

-- with a test that fails both do
pub failing : (a b : Bool) → b ≡ false → (a && b) ≡ false
failing true b h = h
failing false b h = refl

-- ---- members of classes

-- what stands in a table at the place of a class
abbrev Stands : (Member → Bool) → (ClassFile → List Member) → List (List (MethodName × ℕ)) → ℕ → ClassFile → Type 0
Stands passes members table p c = (numbers : List (MethodName × ℕ)) × (slice_get table p ≡ Some numbers) × HasFirst passes c.pool (members c) numbers

-- a table has the first members of the classes before a place
pub record AreUpTo (passes : Member → Bool) (members : ClassFile → List Member) (cs : List ClassFile) (i : ℕ) (table : List (List (MethodName × ℕ))) : Type 0 where
  pub many : length table ≡ i
  pub each : (p : ℕ) (c : ClassFile) → p < i → slice_get cs p ≡ Some c → Stands passes members table p c

-- what stands in front of a new last item
slice_front : {A : Type 0} (xs : List A) (x : A) (p : ℕ) → p < length xs → slice_get (xs ++ x ∷ []) p ≡ slice_get xs p
slice_front [] x p h = absurd (omega (arith, h))
slice_front (y ∷ xs) x zero h = refl
slice_front (y ∷ xs) x (suc p) h = slice_front xs x p (omega (arith, h))

-- the new last item
slice_last : {A : Type 0} (xs : List A) (x : A) → slice_get (xs ++ x ∷ []) (length xs) ≡ Some x
slice_last [] x = refl
slice_last (y ∷ xs) x = slice_last xs x

-- a place with an item is inside the list
slice_inside : {A : Type 0} (xs : List A) (p : ℕ) (x : A) → slice_get xs p ≡ Some x → p < length xs
slice_inside [] p x h = absurd cc
slice_inside (y ∷ xs) zero x h = omega arith
slice_inside (y ∷ xs) (suc p) x h = let less : p < length xs = slice_inside xs p x h in omega (arith, less)

-- the members of one more class are put behind a table
pub firsts_more : (passes : Member → Bool) (members : ClassFile → List Member) (cs : List ClassFile) (i : ℕ) (c : ClassFile) (table : List (List (MethodName × ℕ))) (numbers : List (MethodName × ℕ))
    → slice_get cs i ≡ Some c → HasFirst passes c.pool (members c) numbers → AreUpTo passes members cs i table → AreUpTo passes members cs (i + 1) (table ++ numbers ∷ [])
firsts_more passes members cs i c table numbers at has so_far = record {
  many = length-append table (numbers ∷ []) ∙ ap (λ (k : ℕ). k + 1) so_far.many;
  each = λ p d h e. go p d h e (nat_lt p i) refl;
}
  where
    go : (p : ℕ) (d : ClassFile) → p < i + 1 → slice_get cs p ≡ Some d → (b : Bool) → nat_lt p i ≡ b → Stands passes members (table ++ numbers ∷ []) p d
    go p d h e true t =
        let inside : p < i = grind (arith, nat_tests) in
        let old = so_far.each p d inside e in
        (old.0, slice_front table numbers p (omega (arith, inside, so_far.many)) ∙ old.1, old.2)
    go p d h e false t =
        let last : p ≡ i = grind (arith, nat_tests) in
        let same : c ≡ d = one c d (sym at ∙ ap (slice_get cs) (sym last) ∙ e) in
        (numbers, ap (slice_get (table ++ numbers ∷ [])) (last ∙ sym so_far.many) ∙ slice_last table numbers, subst (λ (k : ClassFile). HasFirst passes k.pool (members k) numbers) same has)
      where
        one : (x y : ClassFile) → Some x ≡ Some y → x ≡ y
        one x y h = cc

-- a table of as many as there are classes has those of each
pub all_firsts : (passes : Member → Bool) (members : ClassFile → List Member) (cs : List ClassFile) (i : ℕ) (table : List (List (MethodName × ℕ))) → length cs ≤ i → AreUpTo passes members cs i table → AreFirsts passes members cs table
all_firsts passes members cs i table le are p c e = are.each p c (let inside = slice_inside cs p c e in omega (arith, le, inside)) e

-- ---- what is found

-- a search in what is seen of items
find_map : {A B : Type 0} (q : B → Bool) (f : A → B) (xs : List A) → find q (map f xs) ≡ option_map f (find (λ x. q (f x)) xs)
find_map q f [] = refl
find_map {A} {B} q f (x ∷ xs) = go (q (f x)) (find_map q f xs)
  where
    go : (b : Bool) → find q (map f xs) ≡ option_map f (find (λ x. q (f x)) xs) → cond b (Some (f x)) (find q (map f xs)) ≡ option_map f (cond b (Some x) (find (λ x. q (f x)) xs))
    go true h = refl
    go false h = h

-- tests of the same answers find the same
find_same : {A : Type 0} (p q : A → Bool) (xs : List A) → ((x : A) → p x ≡ q x) → find p xs ≡ find q xs
find_same p q [] h = refl
find_same {A} p q (x ∷ xs) h = ap (λ (b : Bool). cond b (Some x) (find p xs)) (h x) ∙ ap (cond (q x) (Some x)) (find_same p q xs h)

-- the first member of a class that passes stands at its number
pub own_found : (passes : Member → Bool) (q : Declared → Bool) (c : ClassFile) (ms : List Member) (n : MemberName) (numbers : List (MethodName × ℕ)) → HasFirst passes c.pool ms numbers
    → ((m : Member) → q (record { class = c; member = m }) ≡ (is_member c.pool n.name n.descriptor m && passes m))
    → option_map (λ (m : Member). record { class = c; member = m }) (option_and_then (slice_get ms) (number_of numbers (member_key n))) ≡ find q (declared_in c ms ++ [])
own_found passes q c ms n numbers has same =
    let make : Member → Declared = λ m. record { class = c; member = m } in
    let test = λ (m : Member). is_member c.pool n.name n.descriptor m && passes m in
    ap (λ (o : Option ℕ). option_map make (option_and_then (slice_get ms) o)) (has n)
    ∙ ap (option_map make) (position_get test ms ∙ find_same test (λ (m : Member). q (make m)) ms (λ m. sym (same m)))
    ∙ sym (find_map q make ms) ∙ ap (find q) (sym (append-nil (declared_in c ms)))
