-- No two methods of a folder have one full name, so each of the program's has the number at which it stands.
use Rattle.std.proofs.Common.{◌≡◌, ◌≢◌, ℕ, zero, suc, ◌<◌, List, [], ◌∷◌, ◌++◌, map, Some, Bool, true, false, refl, sym, ap, ◌∙◌, subst, arith}
use Rattle.std.specs.Prelude.{bytes_eq, slice_get, position, filter, cond, option_map}
use Rattle.std.specs.List.{AllByRecursion}
use Rattle.std.proofs.lemmas.Option.{get_or_from_slice_get, slice_get_within}
use Rattle.std.proofs.lemmas.Slice.Eq.{bytes_eq-Decides}
use Rattle.jmodel.specs.declared.name.MethodName.{MethodName}
use Rattle.jmodel.specs.format.ClassFile.{Member, Pool, ClassFile}
use Rattle.jmodel.specs.format.ClassRules.{IsMethod, IsSameMember, AreDistinct}
use Rattle.objects.specs.linking.Members.{own_name}
use Rattle.objects.specs.linking.Classes.{Declared, declared_in, methods_in, full_name}
use Rattle.objects.specs.linking.Taken.{is_taken}
use Rattle.objects.specs.linking.Decoding.{is_method}
use Rattle.objects.specs.linking.Linking.{taken_methods}
use Rattle.objects.specs.laws.LinkingLaw.{AreRead}
use Rattle.objects.proofs.AsRead.{is_file}
use Rattle.objects.proofs.DeclaredMembers.{of_methods, same_names}
use Rattle.objects.proofs.Items.{IsAt, item, later, all_items, of_map}
use Rattle.const_pool.specs.Firsts.{first}
use Rattle.const_pool.proofs.FirstLemmas.{position_first}
use Rattle.rewritten_names.proofs.Blocks.{Differ, AreOthers}
use Rattle.rewritten_names.proofs.Numbers.{differs}
use Rattle.rewritten_names.proofs.Ordinary.{method_itself}

-- ---- names that differ

abbrev IsOther : Declared → Declared → Type 0
IsOther k o = full_name o ≢ full_name k

abbrev pub AreNew : List Declared → Type 0
AreNew [] = Unit {0}
AreNew (k ∷ ks) = AllByRecursion (IsOther k) ks × AreNew ks

-- what holds of each of two lists
all_both : {A : Type 0} (Rule : A → Type 0) (xs ys : List A) → AllByRecursion Rule xs → AllByRecursion Rule ys → AllByRecursion Rule (xs ++ ys)
all_both Rule [] ys h k = k
all_both Rule (x ∷ xs) ys h k = (h.0, all_both Rule xs ys h.1 k)

-- names of two lists that differ from one another
new_append : (xs ys : List Declared) → AreNew xs → AreNew ys → AllByRecursion (λ k. AllByRecursion (IsOther k) ys) xs → AreNew (xs ++ ys)
new_append [] ys a b c = b
new_append (x ∷ xs) ys a b c = (all_both (IsOther x) xs ys a.0 c.0, new_append xs ys a.1 b c.1)

-- fewer methods are other ones too
kept : (p : Declared → Bool) (k : Declared) (xs : List Declared) → AllByRecursion (IsOther k) xs → AllByRecursion (IsOther k) (filter p xs)
kept p k [] all = tt
kept p k (x ∷ xs) all = go (p x) (kept p k xs all.1)
  where
    go : (b : Bool) → AllByRecursion (IsOther k) (filter p xs) → AllByRecursion (IsOther k) (cond b (x ∷ filter p xs) (filter p xs))
    go true rest = (all.0, rest)
    go false rest = rest

-- of methods whose names differ, so do those of fewer
new_filter : (p : Declared → Bool) (xs : List Declared) → AreNew xs → AreNew (filter p xs)
new_filter p [] new = tt
new_filter p (x ∷ xs) new = go (p x) (new_filter p xs new.1)
  where
    go : (b : Bool) → AreNew (filter p xs) → AreNew (cond b (x ∷ filter p xs) (filter p xs))
    go true rest = (kept p x xs new.0, rest)
    go false rest = rest

-- ---- of one class

abbrev AreApartIn : ClassFile → List Member → Type 0
AreApartIn c ms = (i j : ℕ) (x y : Member) → i < j → slice_get ms i ≡ Some x → slice_get ms j ≡ Some y → full_name (record { class = c; member = x }) ≡ full_name (record { class = c; member = y }) → ⊥

-- of one class, by the places of its members
new_in : (c : ClassFile) (ms : List Member) → AreApartIn c ms → AreNew (declared_in c ms)
new_in c [] h = tt
new_in c (m ∷ ms) h = (
  all_items (IsOther (record { class = c; member = m })) (declared_in c ms) (λ k at.
      let o = of_map (λ (m : Member). record { class = c; member = m }) ms k at in
      λ same. h 0 (suc o.1.0) m o.0 (omega arith) refl o.1.1 (sym (ap full_name o.2 ∙ same))),
  new_in c ms (λ i j x y less e f. h (suc i) (suc j) x y (omega (arith, less)) e f),
)

-- members at two places of a class differ
pairs : (pool : Pool) (ms : List Member) → AreDistinct pool ms → (i j : ℕ) (x y : Member) → i < j → slice_get ms i ≡ Some x → slice_get ms j ≡ Some y → IsSameMember pool x y → ⊥
pairs pool ms distinct i j x y less e f s =
    let d = distinct i j x less (slice_get_within ms j y f) in
    let p = get_or_from_slice_get ms i x x e in
    let q = get_or_from_slice_get ms j y x f in
    d (rw (p, q) s)

module _ (cs : List ClassFile) (read : AreRead cs) where
  -- the methods of a class differ
  class_new : (c : ClassFile) → IsAt cs c → AreNew (declared_in c c.methods)
  class_new c at = new_in c c.methods (λ i j x y less e f same.
      let file = is_file cs read c at in
      let a = (item (IsMethod c.pool) c.methods x file.methods (i, e)).member in
      let b = (item (IsMethod c.pool) c.methods y file.methods (j, f)).member in
      pairs c.pool c.methods file.distinct_methods i j x y less e f (same_names c.pool _ x y a b (ap (λ (n : MethodName). n.name) same) (ap (λ (n : MethodName). n.descriptor) same)))

  -- ---- of all classes

  -- a class among others has another name
  others_at : (n : List ℕ) (ds : List ClassFile) (i : ℕ) (c : ClassFile) → AreOthers n ds → slice_get ds i ≡ Some c → bytes_eq (own_name c) n ≡ false
  others_at n [] i c o e = cc
  others_at n (d ∷ ds) zero c o e = let s : d ≡ c = cc in subst (λ (d : ClassFile). bytes_eq (own_name d) n ≡ false) s o.0
  others_at n (d ∷ ds) (suc i) c o e = others_at n ds i c o.1 e

  -- the methods of classes of other names differ
  all_new : (ds : List ClassFile) → ((c : ClassFile) → IsAt ds c → IsAt cs c) → Differ ds → AreNew (methods_in ds)
  all_new [] inside differ = tt
  all_new (c ∷ ds) inside differ =
      new_append (declared_in c c.methods) (methods_in ds) (class_new c (inside c (0, refl))) (all_new ds (λ d at. inside d (later c ds d at)) differ.1)
      (all_items (λ k. AllByRecursion (IsOther k) (methods_in ds)) (declared_in c c.methods) (λ k at.
      let m = of_map (λ (m : Member). record { class = c; member = m }) c.methods k at in
      all_items (IsOther k) (methods_in ds) (λ o there.
      let p = of_methods ds o there in
      λ same.
      let class : own_name o.class ≡ own_name c = ap (λ (n : MethodName). n.class) same ∙ ap (λ (k : Declared). own_name k.class) (sym m.2) in
      let fall : true ≡ false = sym ((bytes_eq-Decides (own_name o.class) (own_name c)).1 class) ∙ others_at (own_name c) ds p.0.0 o.class differ.0 p.0.1 in
      cc)))

  -- so do those that are taken
  pub taken_new : Differ cs → AreNew (taken_methods cs)
  taken_new differ = new_filter (is_taken cs) (methods_in cs) (all_new cs (λ c at. at) differ)

-- ---- numbers

-- what stands among other methods is another one
other_at : (g : Declared) (ks : List Declared) (i : ℕ) (k : Declared) → AllByRecursion (IsOther g) ks → slice_get ks i ≡ Some k → IsOther g k
other_at g [] i k all e = cc
other_at g (h ∷ ks) zero k all e = let s : h ≡ k = cc in subst (IsOther g) s all.0
other_at g (h ∷ ks) (suc i) k all e = other_at g ks i k all.1 e

-- the first method of a name
first_named : (ks : List Declared) → AreNew ks → (i : ℕ) (k : Declared) → slice_get ks i ≡ Some k → first (is_method (full_name k)) (map full_name ks) ≡ Some i
first_named [] new i k e = cc
first_named (g ∷ ks) new zero k e = let s : g ≡ k = cc in let t = ap (λ (g : Declared). is_method (full_name k) (full_name g)) s ∙ method_itself (full_name k) in rw t refl
first_named (g ∷ ks) new (suc i) k e =
    let o = other_at g ks i k new.0 e in
    let a = differs (full_name k) (full_name g) (λ same. o (sym same)) in
    let r = first_named ks new.1 i k e in
    rw a (ap (option_map suc) r)

-- a method's name leads to where it stands
pub place_named : (ks : List Declared) → AreNew ks → (i : ℕ) (k : Declared) → slice_get ks i ≡ Some k → position (is_method (full_name k)) (map full_name ks) ≡ Some i
place_named ks new i k e = position_first (is_method (full_name k)) (map full_name ks) ∙ first_named ks new i k e
