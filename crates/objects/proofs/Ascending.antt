-- A binary search among the cases of a switch, whose keys ascend.
use Rattle.std.proofs.Common.{◌≡◌, ℕ, ℤ, zero, suc, ◌<◌, ◌≤◌, List, [], ◌∷◌, length, get_or, Bool, true, false, ◌&&◌, Some, Ok, Err, refl, sym, arith, add-one, ap, Less, Greater}
use Rattle.std.specs.List.Sorted.{IsBinarySearchResult, IsNonDecreasingBy, IsPartitionPoint, IsSortedBy}
use Rattle.std.specs.Ordering.{int_cmp, int_eq, is_lt, is_eq, ordering_index}
use Rattle.std.specs.Prelude.{pos, int_lt, nat_lt}
use Rattle.std.proofs.lemmas.Bool.Decides.{nat_tests}
use Rattle.std.proofs.lemmas.Int.{ints}
use Rattle.std.proofs.lemmas.Cmp.{int_cmp_total, int_ranked}
use Rattle.std.proofs.lemmas.List.Sorted.{searchable_from_sorted}
use Rattle.jmodel.specs.format.Instruction.{ascend, ascend_after}
use Rattle.objects.specs.semantics.Step.{switched}

both : (a b : Bool) → (a && b) ≡ true → (a ≡ true) × (b ≡ true)
both true true h = (refl, refl)
both true false h = cc
both false b h = cc

less_trans : (x y z : ℤ) → int_lt x y ≡ true → int_lt y z ≡ true → int_lt x z ≡ true
less_trans x y z a b = grind (arith, ints, nat_tests)

less_differs : (x y : ℤ) → int_lt x y ≡ true → int_eq x y ≡ false
less_differs x y a = grind (arith, ints, nat_tests)

less_not_above : (x y : ℤ) → int_lt x y ≡ true → is_lt (int_cmp y x) ≡ false
less_not_above x y a = grind (arith, ints, nat_tests)

same : (x y : ℤ) → x ≡ y → int_eq x y ≡ true
same x y e = grind (arith, ints, nat_tests)

-- what ascends behind a key ascends
behind : (k : ℤ) (cs : List (ℤ × ℕ)) → ascend_after (Some k) cs ≡ true → ascend cs ≡ true
behind k [] a = refl
behind k (c ∷ cs) a = (both (int_lt k c.0) (ascend_after (Some c.0) cs) a).1

above : (k : ℤ) (cs : List (ℤ × ℕ)) (i : ℕ) (d : ℤ × ℕ) → ascend_after (Some k) cs ≡ true → i < length cs → int_lt k (get_or cs i d).0 ≡ true
above k [] i d a lt = absurd (omega arith)
above k (c ∷ cs) zero d a lt = (both (int_lt k c.0) (ascend_after (Some c.0) cs) a).0
above k (c ∷ cs) (suc i) d a lt =
    let b = both (int_lt k c.0) (ascend_after (Some c.0) cs) a in
    let lt' : i < length cs = omega arith in
    less_trans k c.0 (get_or cs i d).0 b.0 (above c.0 cs i d b.1 lt')

next_above : (cs : List (ℤ × ℕ)) (k : ℕ) (d : ℤ × ℕ) → ascend cs ≡ true → suc k < length cs → int_lt (get_or cs k d).0 (get_or cs (suc k) d).0 ≡ true
next_above [] k d a lt = absurd (omega arith)
next_above (c ∷ cs) zero d a lt = let lt' : 0 < length cs = omega arith in above c.0 cs 0 d a lt'
next_above (c ∷ cs) (suc k) d a lt = let lt' : suc k < length cs = omega arith in next_above cs k d (behind c.0 cs a) lt'

sorted : (cs : List (ℤ × ℕ)) → ascend cs ≡ true → IsSortedBy (λ (a b : ℤ × ℕ). is_lt (int_cmp a.0 b.0)) cs
sorted cs a = λ k d low lt. rw (add-one k) (let lt' : suc k < length cs = omega arith in less_not_above (get_or cs k d).0 (get_or cs (suc k) d).0 (next_above cs k d a lt'))

rising : (cs : List (ℤ × ℕ)) (x : ℤ) → ascend cs ≡ true → IsNonDecreasingBy (λ (c : ℤ × ℕ). ordering_index (int_cmp c.0 x)) cs
rising cs x a = searchable_from_sorted int_cmp_total (λ (c : ℤ × ℕ). c.0) cs x (sorted cs a)

-- the case of a key is where a switch goes
found : (cs : List (ℤ × ℕ)) (other : ℕ) (x : ℤ) (i : ℕ) (d : ℤ × ℕ) → ascend cs ≡ true → i < length cs → (get_or cs i d).0 ≡ x → switched other cs x ≡ (get_or cs i d).1
found [] other x i d a lt e = absurd (omega arith)
found (c ∷ cs) other x zero d a lt e = let h = same c.0 x e in rw h refl
found (c ∷ cs) other x (suc i) d a lt e =
    let lt' : i < length cs = omega arith in
    let less : int_lt c.0 x ≡ true = rw e at (above c.0 cs i d a lt') in
    let h = less_differs c.0 x less in
    rw h (found cs other x i d (behind c.0 cs a) lt' e)

-- where no case has the key, it goes to the other target
missing : (cs : List (ℤ × ℕ)) (other : ℕ) (x : ℤ) (d : ℤ × ℕ) → ((i : ℕ) → i < length cs → int_eq (get_or cs i d).0 x ≡ false) → switched other cs x ≡ other
missing [] other x d h = refl
missing (c ∷ cs) other x d h =
    let lt : 0 < length (c ∷ cs) = omega arith in
    let e : int_eq c.0 x ≡ false = h 0 lt in
    rw e (missing cs other x d (λ i lt. let lt' : suc i < length (c ∷ cs) = omega arith in h (suc i) lt'))

pub found_case : (cs : List (ℤ × ℕ)) (other : ℕ) (x : ℤ) (i : ℕ) (d : ℤ × ℕ) → ascend cs ≡ true → i < length cs → IsBinarySearchResult (λ (c : ℤ × ℕ). int_cmp c.0 x) cs (Ok i)
    → (get_or cs i d).1 ≡ switched other cs x
found_case cs other x i d a lt r = sym (found cs other x i d a lt (int_ranked (get_or cs i d).0 x _ (sym (r d))))

pub missing_case : (cs : List (ℤ × ℕ)) (other : ℕ) (x : ℤ) (i : ℕ) → ascend cs ≡ true → IsBinarySearchResult (λ (c : ℤ × ℕ). int_cmp c.0 x) cs (Err i) → other ≡ switched other cs x
missing_case cs other x i a r = sym (missing cs other x d (λ j lt. go j lt (nat_lt j i) refl))
  where
    d : ℤ × ℕ
    d = (pos 0, 0)

    p : IsPartitionPoint (λ (c : ℤ × ℕ). int_cmp c.0 x ≡ Less) (λ (c : ℤ × ℕ). int_cmp c.0 x ≡ Greater) cs i
    p = r (rising cs x a)

    go : (j : ℕ) → j < length cs → (b : Bool) → nat_lt j i ≡ b → int_eq (get_or cs j d).0 x ≡ false
    go j lt true e = let low : j < i = grind (arith, nat_tests) in ap is_eq (p.0 j d (omega arith) low)
    go j lt false e = let high : i ≤ j = grind (arith, nat_tests) in ap is_eq (p.1 j d high lt)
