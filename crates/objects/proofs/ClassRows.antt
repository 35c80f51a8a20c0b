-- The rows of a folder's classes keep the rules of types.
use Rattle.std.proofs.Common.{◌≡◌, ℕ, zero, suc, List, [], ◌∷◌, ◌++◌, map, Option, Some, None, Bool, true, false, not, refl, sym, ap, subst, ◌∙◌}
use Rattle.std.specs.Prelude.{slice_get, find, cond, bytes_eq, ◌&&◌, ◌||◌, if◌then◌else◌}
use Rattle.std.specs.List.{list_any}
use Rattle.std.proofs.lemmas.Slice.Eq.{bytes_eq-Decides}
use Rattle.std.proofs.lemmas.Bool.Decides.{same_from_decides}
use Rattle.jmodel.specs.format.ClassFile.{ClassFile}
use Rattle.jmodel.specs.declared.refusal.Refusal.TheVariants.{DoubledClass}
use Rattle.objects.specs.linking.Members.{own_name}
use Rattle.objects.specs.linking.Superclasses.{class_named}
use Rattle.objects.specs.linking.Classes.{doubled_among}
use Rattle.objects.specs.semantics.Program.{Row}
use Rattle.objects.specs.typing.TypeOrder.{is_class_name}
use Rattle.objects.specs.linking.Resolution.{is_interface, holds_of}
use Rattle.objects.specs.linking.Layout.{class_row}

-- ---- lists

pub find_front : {A : Type 0} (p : A → Bool) (xs ys : List A) (x : A) → find p xs ≡ Some x → find p (xs ++ ys) ≡ Some x
find_front p [] ys x e = cc
find_front p (y ∷ xs) ys x e = go (p y) e (find_front p xs ys x)
  where
    go : (b : Bool) → cond b (Some y) (find p xs) ≡ Some x → (find p xs ≡ Some x → find p (xs ++ ys) ≡ Some x) → cond b (Some y) (find p (xs ++ ys)) ≡ Some x
    go true e rest = e
    go false e rest = rest e

pub find_back : {A : Type 0} (p : A → Bool) (xs ys : List A) → find p xs ≡ None → find p (xs ++ ys) ≡ find p ys
find_back p [] ys e = refl
find_back p (y ∷ xs) ys e = go (p y) e (find_back p xs ys)
  where
    go : (b : Bool) → cond b (Some y) (find p xs) ≡ None → (find p xs ≡ None → find p (xs ++ ys) ≡ find p ys) → cond b (Some y) (find p (xs ++ ys)) ≡ find p ys
    go true e rest = cc
    go false e rest = rest e

-- what is found stands at a place
pub found_at : {A : Type 0} (p : A → Bool) (xs : List A) (x : A) → find p xs ≡ Some x → (i : ℕ) × (slice_get xs i ≡ Some x)
found_at p [] x e = cc
found_at p (y ∷ xs) x e = go (p y) e (found_at p xs x)
  where
    go : (b : Bool) → cond b (Some y) (find p xs) ≡ Some x → (find p xs ≡ Some x → (i : ℕ) × (slice_get xs i ≡ Some x)) → (i : ℕ) × (slice_get (y ∷ xs) i ≡ Some x)
    go true e rest = (0, e)
    go false e rest = let r = rest e in (suc r.0, r.1)

pub found_passes : {A : Type 0} (p : A → Bool) (xs : List A) (x : A) → find p xs ≡ Some x → p x ≡ true
found_passes p [] x e = cc
found_passes p (y ∷ xs) x e = go (p y) refl e (found_passes p xs x)
  where
    go : (b : Bool) → p y ≡ b → cond b (Some y) (find p xs) ≡ Some x → (find p xs ≡ Some x → p x ≡ true) → p x ≡ true
    go true is e rest = let s : y ≡ x = cc in ap p (sym s) ∙ is
    go false is e rest = rest e

pub swapped : (x y : List ℕ) → bytes_eq x y ≡ bytes_eq y x
swapped x y =
    let a = bytes_eq-Decides x y in
    let b = bytes_eq-Decides y x in
    same_from_decides {P = x ≡ y} (bytes_eq x y) (bytes_eq y x) a (λ e. sym (b.0 e), λ e. b.1 (sym e))

-- ---- names of classes

-- what has none of these names isn't found by them
pub absent : (n : List ℕ) (rs : List Row) → list_any (bytes_eq n) (map (λ (r : Row). r.name) rs) ≡ false → find (λ (r : Row). bytes_eq r.name n) rs ≡ None
absent n [] e = refl
absent n (r ∷ rs) e = ap (λ b. cond b (Some r) (find (λ (r : Row). bytes_eq r.name n) rs)) (swapped r.name n) ∙ go (bytes_eq n r.name) e (absent n rs)
  where
    go : (b : Bool) → (b || list_any (bytes_eq n) (map (λ (r : Row). r.name) rs)) ≡ false → (list_any (bytes_eq n) (map (λ (r : Row). r.name) rs) ≡ false → find (λ (r : Row). bytes_eq r.name n) rs ≡ None)
        → cond b (Some r) (find (λ (r : Row). bytes_eq r.name n) rs) ≡ None
    go true e rest = cc
    go false e rest = rest e

-- no class that is left has one of the names before it
module _ (names : List (List ℕ)) where
  pub new_head : (c : ClassFile) (cs : List ClassFile) → doubled_among names (c ∷ cs) ≡ None → (list_any (bytes_eq (own_name c)) names ≡ false) × (doubled_among (own_name c ∷ names) cs ≡ None)
  new_head c cs e = go (list_any (bytes_eq (own_name c)) names) refl e
    where
      go : (b : Bool) → list_any (bytes_eq (own_name c)) names ≡ b → (if b then Some (DoubledClass (own_name c)) else doubled_among (own_name c ∷ names) cs) ≡ None
          → (list_any (bytes_eq (own_name c)) names ≡ false) × (doubled_among (own_name c ∷ names) cs ≡ None)
      go true is e = cc
      go false is e = (is, e)

pub any_later : (n m : List ℕ) (names : List (List ℕ)) → list_any (bytes_eq n) (m ∷ names) ≡ false → (bytes_eq n m ≡ false) × (list_any (bytes_eq n) names ≡ false)
any_later n m names e = go (bytes_eq n m) refl e
  where
    go : (b : Bool) → bytes_eq n m ≡ b → (b || list_any (bytes_eq n) names) ≡ false → (bytes_eq n m ≡ false) × (list_any (bytes_eq n) names ≡ false)
    go true is e = cc
    go false is e = (is, e)

-- a name that stands before is none of a class that is left
pub new_names : (names : List (List ℕ)) (cs : List ClassFile) → doubled_among names cs ≡ None → (i : ℕ) (c : ClassFile) → slice_get cs i ≡ Some c → list_any (bytes_eq (own_name c)) names ≡ false
new_names names [] e i c h = cc
new_names names (d ∷ cs) e zero c h = let s : d ≡ c = cc in subst (λ (c : ClassFile). list_any (bytes_eq (own_name c)) names ≡ false) s (new_head names d cs e).0
new_names names (d ∷ cs) e (suc i) c h = (any_later (own_name c) (own_name d) names (new_names (own_name d ∷ names) cs (new_head names d cs e).1 i c h)).1

-- each class is found by its name
pub found_by_name : (names : List (List ℕ)) (cs : List ClassFile) → doubled_among names cs ≡ None → (i : ℕ) (c : ClassFile) → slice_get cs i ≡ Some c → class_named cs (own_name c) ≡ Some c
found_by_name names [] e i c h = cc
found_by_name names (d ∷ cs) e zero c h =
    let s : d ≡ c = cc in
    let own : bytes_eq (own_name d) (own_name d) ≡ true = (bytes_eq-Decides (own_name d) (own_name d)).1 refl in
    subst (λ (c : ClassFile). class_named (d ∷ cs) (own_name c) ≡ Some c) s (rw own refl)
found_by_name names (d ∷ cs) e (suc i) c h =
    let other = (any_later (own_name c) (own_name d) names (new_names (own_name d ∷ names) cs (new_head names d cs e).1 i c h)).0 in
    let no : bytes_eq (own_name d) (own_name c) ≡ false = swapped (own_name d) (own_name c) ∙ other in
    rw no (found_by_name (own_name d ∷ names) cs (new_head names d cs e).1 i c h)

-- ---- rows by name

abbrev pub is_row : List ℕ → Row → Bool
is_row n r = bytes_eq r.name n

empty_differs : (n : List ℕ) → is_class_name n ≡ true → bytes_eq [] n ≡ false
empty_differs [] e = cc
empty_differs (c ∷ cs) e = go (bytes_eq [] (c ∷ cs)) refl
  where
    go : (b : Bool) → bytes_eq [] (c ∷ cs) ≡ b → b ≡ false
    go true is = let fall : [] ≡ c ∷ cs = (bytes_eq-Decides [] (c ∷ cs)).0 is in cc
    go false is = refl

-- the row of a class that isn't an interface is that of its name
module _ (cs : List ClassFile) (n : List ℕ) (named : is_class_name n ≡ true) where
  row_name : (d : ClassFile) → is_row n (class_row cs d) ≡ (not (is_interface d) && bytes_eq (own_name d) n)
  row_name d = go (is_interface d) refl
    where
      go : (b : Bool) → is_interface d ≡ b → is_row n (class_row cs d) ≡ (not b && bytes_eq (own_name d) n)
      go true is = rw is (empty_differs n named)
      go false is = rw is refl

  pub find_row : (ds : List ClassFile) (c : ClassFile) → class_named ds n ≡ Some c → is_interface c ≡ false → find (is_row n) (map (class_row cs) ds) ≡ Some (class_row cs c)
  find_row [] c e plain = cc
  find_row (d ∷ ds) c e plain = rw (row_name d) (go (bytes_eq (own_name d) n) e (find_row ds c))
    where
      go : (b : Bool) → cond b (Some d) (class_named ds n) ≡ Some c → (class_named ds n ≡ Some c → is_interface c ≡ false → find (is_row n) (map (class_row cs) ds) ≡ Some (class_row cs c))
          → cond (not (is_interface d) && b) (Some (class_row cs d)) (find (is_row n) (map (class_row cs) ds)) ≡ Some (class_row cs c)
      go true e rest = let s : d ≡ c = cc in rw s (rw plain refl)
      go false e rest = both_false (is_interface d) (rest e plain)
        where
          both_false : (a : Bool) → find (is_row n) (map (class_row cs) ds) ≡ Some (class_row cs c) → cond (not a && false) (Some (class_row cs d)) (find (is_row n) (map (class_row cs) ds)) ≡ Some (class_row cs c)
          both_false true f = f
          both_false false f = f

  -- an interface, or a name of no class, has no row
  pub find_none : (names : List (List ℕ)) (ds : List ClassFile) → doubled_among names ds ≡ None → holds_of (λ d. not (is_interface d)) (class_named ds n) ≡ false → find (is_row n) (map (class_row cs) ds) ≡ None
  find_none names [] new e = refl
  find_none names (d ∷ ds) new e =
      let later = find_none (own_name d ∷ names) ds (new_head names d ds new).1 in
      rw (row_name d) (go (bytes_eq (own_name d) n) refl e later)
    where
      unnamed : bytes_eq (own_name d) n ≡ true → class_named ds n ≡ None
      unnamed is = by (class_named ds n) refl
        where
          by : (o : Option ClassFile) → class_named ds n ≡ o → o ≡ None
          by None f = refl
          by (Some c) f =
              let at = found_at (λ c. bytes_eq (own_name c) n) ds c f in
              let own : own_name c ≡ n = (bytes_eq-Decides (own_name c) n).0 (found_passes (λ c. bytes_eq (own_name c) n) ds c f) in
              let first : own_name d ≡ n = (bytes_eq-Decides (own_name d) n).0 is in
              let differs = (any_later (own_name c) (own_name d) names (new_names (own_name d ∷ names) ds (new_head names d ds new).1 at.0 c at.1)).0 in
              let same : bytes_eq (own_name c) (own_name d) ≡ true = (bytes_eq-Decides (own_name c) (own_name d)).1 (own ∙ sym first) in
              let fall : true ≡ false = sym same ∙ differs in
              cc

      go : (b : Bool) → bytes_eq (own_name d) n ≡ b → holds_of (λ d. not (is_interface d)) (cond b (Some d) (class_named ds n)) ≡ false
          → (holds_of (λ d. not (is_interface d)) (class_named ds n) ≡ false → find (is_row n) (map (class_row cs) ds) ≡ None)
          → cond (not (is_interface d) && b) (Some (class_row cs d)) (find (is_row n) (map (class_row cs) ds)) ≡ None
      go true is e later = let none = later (ap (holds_of (λ d. not (is_interface d))) (unnamed is)) in rw (e, none) refl
      go false is e later = both_false (is_interface d) (later e)
        where
          both_false : (a : Bool) → find (is_row n) (map (class_row cs) ds) ≡ None → cond (not a && false) (Some (class_row cs d)) (find (is_row n) (map (class_row cs) ds)) ≡ None
          both_false true f = f
          both_false false f = f
