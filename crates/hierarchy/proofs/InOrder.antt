-- Class files with names of their own, and their order in a tree by these names.
use Rattle.std.proofs.Common.{◌≡◌, ℕ, Bool, true, false, ◌||◌, cond, List, [], ◌∷◌, ◌++◌, map, reverse, Option, Some, None, Bor, refl, sym, ap, ◌∙◌}
use Rattle.std.specs.Prelude.{bytes_eq, if◌then◌else◌}
use Rattle.std.specs.List.{list_any}
use Rattle.std.specs.Map.{values_of}
use Rattle.std.specs.BTreeMap.{is_at, insert_entry}
use Rattle.std.specs.declared.cmp.Ordering.{Ordering}
use Rattle.std.specs.declared.cmp.Ordering.TheVariants.{Less, Equal, Greater}
use Rattle.std.specs.Ordering.{is_lt, is_eq, nat_cmp, ordering_reverse}
use Rattle.std.specs.Cmp.Lexicographic.{slice_cmp, nat_list_cmp_total, nat_list_eq_equiv}
use Rattle.std.proofs.lemmas.List.{map-append, reverse-append}
use Rattle.std.proofs.lemmas.List.Folds.{list_any-append}
use Rattle.std.proofs.lemmas.Slice.Eq.{bytes_eq-Decides}
use Rattle.std.proofs.lemmas.Map.Text.{is_eq-slice_cmp}
use Rattle.jmodel.specs.declared.refusal.Refusal.{Refusal}
use Rattle.jmodel.specs.declared.refusal.Refusal.TheVariants.{DoubledClass}
use Rattle.jmodel.specs.format.ClassFile.{ClassFile}
use Rattle.objects.specs.linking.Library.{library}
use Rattle.objects.specs.linking.Members.{own_name}
use Rattle.objects.specs.linking.Classes.{placed, in_order, doubled_among}
use Rattle.objects.proofs.TakenLaws.{or_right}
use Rattle.hierarchy.specs.Ordered.{named_classes, IsInOrder}
use Rattle.hierarchy.proofs.Bools.{or_second}
use Rattle.hierarchy.proofs.Parts.{same_bytes}

-- ---- classes with names of their own

-- whether some class has a name
abbrev pub has_class : List ℕ → List ClassFile → Bool
has_class name cs = list_any (λ c. bytes_eq (own_name c) name) cs

abbrev pub AreApart : List ClassFile → Type 0
AreApart [] = Unit {0}
AreApart (c ∷ cs) = (has_class (own_name c) cs ≡ false) × AreApart cs

pub itself : (a : List ℕ) → bytes_eq a a ≡ true
itself a = (bytes_eq-Decides a a).1 refl

split : {A : Type 0} (b : Bool) (x : A) (o : Option A) → (if b then Some x else o) ≡ None → (b ≡ false) × (o ≡ None)
split true x o h = absurd cc
split false x o h = (refl, h)

-- a name that isn't among names differs from one that is
apart_from : (names : List (List ℕ)) (a b : List ℕ) → list_any (bytes_eq a) names ≡ false → list_any (bytes_eq b) names ≡ true → bytes_eq a b ≡ false
apart_from names a b f g = go (bytes_eq a b) refl
  where
    go : (t : Bool) → bytes_eq a b ≡ t → t ≡ false
    go true e = sym g ∙ sym (ap (λ (x : List ℕ). list_any (bytes_eq x) names) (same_bytes a b e)) ∙ f
    go false e = refl

pub none_has : (names : List (List ℕ)) (cs : List ClassFile) → doubled_among names cs ≡ None → (name : List ℕ) → list_any (bytes_eq name) names ≡ true → has_class name cs ≡ false
none_has names [] h name k = refl
none_has names (c ∷ cs) h name k =
    let parts = split (list_any (bytes_eq (own_name c)) names) (DoubledClass (own_name c)) (doubled_among (own_name c ∷ names) cs) h in
    let rest = none_has (own_name c ∷ names) cs parts.1 name (or_right (bytes_eq name (own_name c)) (list_any (bytes_eq name) names) k) in
    rw (apart_from names (own_name c) name parts.0 k) rest

-- where no class is named as an earlier one, each has a name of its own
pub apart_of : (names : List (List ℕ)) (cs : List ClassFile) → doubled_among names cs ≡ None → AreApart cs
apart_of names [] h = tt
apart_of names (c ∷ cs) h =
    let parts = split (list_any (bytes_eq (own_name c)) names) (DoubledClass (own_name c)) (doubled_among (own_name c ∷ names) cs) h in
    (none_has (own_name c ∷ names) cs parts.1 (own_name c) (rw (itself (own_name c)) refl), apart_of (own_name c ∷ names) cs parts.1)

-- ---- names of the library and of classes

doubled_same : (old new : List (List ℕ)) → ((q : List ℕ) → list_any (bytes_eq q) old ≡ list_any (bytes_eq q) new) → (cs : List ClassFile) → doubled_among old cs ≡ doubled_among new cs
doubled_same old new h [] = refl
doubled_same old new h (c ∷ cs) =
    ap (λ (b : Bool). if b then Some (DoubledClass (own_name c)) else doubled_among (own_name c ∷ old) cs) (h (own_name c))
    ∙ ap (λ (o : Option Refusal). if list_any (bytes_eq (own_name c)) new then Some (DoubledClass (own_name c)) else o)
    (doubled_same (own_name c ∷ old) (own_name c ∷ new) (λ q. ap (λ (b : Bool). bytes_eq q (own_name c) || b) (h q)) cs)

abbrev pub by_bytes : Bor (List ℕ) → Bor (List ℕ) → Ordering
by_bytes x y = slice_cmp nat_cmp x.now y.now

abbrev pub texts : List (Bor (List ℕ)) → List (List ℕ)
texts ks = map (λ k. k.now) ks

-- the names that a set has
pub set_has : (k : Bor (List ℕ)) (ks : List (Bor (List ℕ))) → list_any (is_at (by_bytes k)) ks ≡ list_any (bytes_eq k.now) (texts ks)
set_has k [] = refl
set_has k (x ∷ xs) =
    ap (λ (b : Bool). b || list_any (is_at (by_bytes k)) xs) (is_eq-slice_cmp k.now x.now) ∙ ap (λ (b : Bool). bytes_eq k.now x.now || b) (set_has k xs)

-- a set after a name is put in
pub set_with : (k : Bor (List ℕ)) (old new : List (Bor (List ℕ))) → ((q : Bor (List ℕ)) → list_any (is_at (by_bytes q)) new ≡ cond (is_at (by_bytes k) q) true (list_any (is_at (by_bytes q)) old))
    → (q : List ℕ) → list_any (bytes_eq q) (texts new) ≡ (bytes_eq q k.now || list_any (bytes_eq q) (texts old))
set_with k old new h q =
    let some : Bor (List ℕ) = record { ref_ptr = (0, 0); now = q } in
    sym (set_has some new) ∙ h some ∙ ap (λ (b : Bool). cond b true (list_any (is_at (by_bytes some)) old)) (is_eq-slice_cmp k.now q ∙ nat_list_eq_equiv.symm k.now q)
    ∙ ap (λ (b : Bool). cond (bytes_eq q k.now) true b) (set_has some old) ∙ go (bytes_eq q k.now) (list_any (bytes_eq q) (texts old))
  where
    go : (a b : Bool) → cond a true b ≡ (a || b)
    go true b = refl
    go false b = refl

-- a class of another name is passed
pub goes_on : (keys more : List (List ℕ)) (c : ClassFile) (cs : List ClassFile) → list_any (bytes_eq (own_name c)) library ≡ false → list_any (bytes_eq (own_name c)) keys ≡ false
    → ((q : List ℕ) → list_any (bytes_eq q) more ≡ (bytes_eq q (own_name c) || list_any (bytes_eq q) keys)) → doubled_among (library ++ keys) (c ∷ cs) ≡ doubled_among (library ++ more) cs
goes_on keys more c cs free new added =
    let none : list_any (bytes_eq (own_name c)) (library ++ keys) ≡ false = list_any-append (bytes_eq (own_name c)) library keys ∙ ap (λ (b : Bool). b || list_any (bytes_eq (own_name c)) keys) free ∙ new in
    ap (λ (b : Bool). if b then Some (DoubledClass (own_name c)) else doubled_among (own_name c ∷ (library ++ keys)) cs) none
    ∙ doubled_same (own_name c ∷ (library ++ keys)) (library ++ more) (λ q.
    ap (λ (b : Bool). bytes_eq q (own_name c) || b) (list_any-append (bytes_eq q) library keys) ∙ or_second (bytes_eq q (own_name c)) (list_any (bytes_eq q) library) (list_any (bytes_eq q) keys)
    ∙ sym (list_any-append (bytes_eq q) library more ∙ ap (λ (b : Bool). list_any (bytes_eq q) library || b) (added q))) cs

-- a class of one of the names is the fault
pub is_doubled : (keys : List (List ℕ)) (c : ClassFile) (cs : List ClassFile) → (list_any (bytes_eq (own_name c)) library || list_any (bytes_eq (own_name c)) keys) ≡ true
    → doubled_among (library ++ keys) (c ∷ cs) ≡ Some (DoubledClass (own_name c))
is_doubled keys c cs h =
    ap (λ (b : Bool). if b then Some (DoubledClass (own_name c)) else doubled_among (own_name c ∷ (library ++ keys)) cs) (list_any-append (bytes_eq (own_name c)) library keys ∙ h)

-- ---- classes in order

pub has_placed : (name : List ℕ) (c : ClassFile) (ds : List ClassFile) → has_class name (placed c ds) ≡ (bytes_eq (own_name c) name || has_class name ds)
has_placed name c [] = refl
has_placed name c (d ∷ ds) = go (is_lt (slice_cmp nat_cmp (own_name d) (own_name c))) (has_placed name c ds)
  where
    go : (b : Bool) → has_class name (placed c ds) ≡ (bytes_eq (own_name c) name || has_class name ds)
        → has_class name (if b then d ∷ placed c ds else c ∷ d ∷ ds) ≡ (bytes_eq (own_name c) name || (bytes_eq (own_name d) name || has_class name ds))
    go true h = ap (λ (b : Bool). bytes_eq (own_name d) name || b) h ∙ or_second (bytes_eq (own_name d) name) (bytes_eq (own_name c) name) (has_class name ds)
    go false h = refl

pub has_in_order : (name : List ℕ) (cs : List ClassFile) → has_class name (in_order cs) ≡ has_class name cs
has_in_order name [] = refl
has_in_order name (c ∷ cs) = has_placed name c (in_order cs) ∙ ap (λ (b : Bool). bytes_eq (own_name c) name || b) (has_in_order name cs)

abbrev pub seen : List (Bor ClassFile) → List ClassFile
seen cs = map (λ c. c.now) cs

abbrev Entry : Type 0
Entry = Bor (List ℕ) × Bor ClassFile

abbrev named : ClassFile → List ℕ × ClassFile
named c = (own_name c, c)

-- an entry goes where its class is placed
inserted : (es : List Entry) (cs : List ClassFile) (k : Bor (List ℕ)) (v : Bor ClassFile) → k.now ≡ own_name v.now → named_classes es ≡ map named cs → has_class (own_name v.now) cs ≡ false
    → named_classes (insert_entry by_bytes es k v) ≡ map named (placed v.now cs)
inserted [] [] k v is same apart = ap (λ (name : List ℕ). (name, v.now) ∷ []) is
inserted [] (c ∷ cs) k v is same apart = absurd cc
inserted (e ∷ es) [] k v is same apart = absurd cc
inserted (e ∷ es) (c ∷ cs) k v is same apart = go (slice_cmp nat_cmp k.now e.0.now) refl (inserted es cs k v is others later)
  where
    head_is : (x : List ℕ × ClassFile) (y : List ℕ × ClassFile) (xs ys : List (List ℕ × ClassFile)) → x ∷ xs ≡ y ∷ ys → x ≡ y
    head_is x y xs ys h = cc

    tail_is : (x : List ℕ × ClassFile) (y : List ℕ × ClassFile) (xs ys : List (List ℕ × ClassFile)) → x ∷ xs ≡ y ∷ ys → xs ≡ ys
    tail_is x y xs ys h = cc

    first : (e.0.now, e.1.now) ≡ named c
    first = head_is (e.0.now, e.1.now) (named c) (named_classes es) (map named cs) same

    others : named_classes es ≡ map named cs
    others = tail_is (e.0.now, e.1.now) (named c) (named_classes es) (map named cs) same

    names : slice_cmp nat_cmp k.now e.0.now ≡ slice_cmp nat_cmp (own_name v.now) (own_name c)
    names = ap (λ (x : List ℕ). slice_cmp nat_cmp x e.0.now) is ∙ ap (λ (p : List ℕ × ClassFile). slice_cmp nat_cmp (own_name v.now) p.0) first

    back : (o : Ordering) → slice_cmp nat_cmp k.now e.0.now ≡ o → slice_cmp nat_cmp (own_name c) (own_name v.now) ≡ ordering_reverse o
    back o h = nat_list_cmp_total.antisymm (own_name c) (own_name v.now) ∙ ap ordering_reverse (sym names ∙ h)

    different : bytes_eq (own_name c) (own_name v.now) ≡ false
    different = left (bytes_eq (own_name c) (own_name v.now)) (has_class (own_name v.now) cs) apart
      where
        left : (a b : Bool) → (a || b) ≡ false → a ≡ false
        left true b h = h
        left false b h = refl

    later : has_class (own_name v.now) cs ≡ false
    later = right (bytes_eq (own_name c) (own_name v.now)) (has_class (own_name v.now) cs) apart
      where
        right : (a b : Bool) → (a || b) ≡ false → b ≡ false
        right true b h = absurd cc
        right false b h = h

    go : (o : Ordering) → slice_cmp nat_cmp k.now e.0.now ≡ o → named_classes (insert_entry by_bytes es k v) ≡ map named (placed v.now cs)
        → named_classes (insert_entry by_bytes (e ∷ es) k v) ≡ map named (placed v.now (c ∷ cs))
    go Less h next =
        rw (h, back Less h) (ap (λ (name : List ℕ). (name, v.now) ∷ named_classes (e ∷ es)) is ∙ ap (λ (l : List (List ℕ × ClassFile)). named v.now ∷ l) same)
    go Equal h next =
        let equal : bytes_eq (own_name c) (own_name v.now) ≡ true = sym (is_eq-slice_cmp (own_name c) (own_name v.now)) ∙ ap is_eq (back Equal h) in
        absurd cc
    go Greater h next =
        rw (h, back Greater h) (ap (λ (p : List ℕ × ClassFile). p ∷ named_classes (insert_entry by_bytes es k v)) first
        ∙ ap (λ (l : List (List ℕ × ClassFile)). named c ∷ l) next)

-- one more class, before those that were put in
pub one_more : (es : List Entry) (cs : List ClassFile) (k : Bor (List ℕ)) (v : Bor ClassFile) → k.now ≡ own_name v.now → (AreApart cs → IsInOrder es cs)
    → AreApart (v.now ∷ cs) → IsInOrder (insert_entry by_bytes es k v) (v.now ∷ cs)
one_more es cs k v is so_far apart = inserted es (in_order cs) k v is (so_far apart.1) (has_in_order (own_name v.now) cs ∙ apart.0)

-- the last one of classes comes first
pub last_first : (ys : List (Bor ClassFile)) (x : Bor ClassFile) → reverse (seen (ys ++ x ∷ [])) ≡ x.now ∷ reverse (seen ys)
last_first ys x = ap (λ (l : List ClassFile). reverse l) (map-append (λ (c : Bor ClassFile). c.now) ys (x ∷ [])) ∙ reverse-append (seen ys) (x.now ∷ [])

-- the classes of the entries are the classes in order
pub values_in_order : (es : List Entry) (cs : List ClassFile) → IsInOrder es cs → seen (values_of es) ≡ in_order cs
values_in_order es cs h = seconds es ∙ ap (map (λ (p : List ℕ × ClassFile). p.1)) h ∙ classes (in_order cs)
  where
    seconds : (es : List Entry) → seen (values_of es) ≡ map (λ (p : List ℕ × ClassFile). p.1) (named_classes es)
    seconds [] = refl
    seconds (e ∷ es) = ap (λ (l : List ClassFile). e.1.now ∷ l) (seconds es)

    classes : (cs : List ClassFile) → map (λ (p : List ℕ × ClassFile). p.1) (map named cs) ≡ cs
    classes [] = refl
    classes (c ∷ cs) = ap (λ (l : List ClassFile). c ∷ l) (classes cs)
