-- What a class declares for calls of a method, by the numbers of the class and of the method's group.
use Rattle.std.proofs.Common.{◌≡◌, ℕ, ◌+◌, ◌<◌, List, [], ◌∷◌, ◌++◌, length, map, take, get_or, Option, Some, None, Bool, true, false, refl, sym, ap, ◌∙◌, arith}
use Rattle.std.specs.Prelude.{◌&&◌, nat_eq, bytes_eq, slice_get, position, if◌then◌else◌}
use Rattle.std.specs.List.{AllByRecursion}
use Rattle.std.specs.Cmp.Lexicographic.{nat_list_eq_equiv}
use Rattle.std.specs.BTreeMap.{BTreeMap}
use Rattle.std.proofs.lemmas.Bool.Decides.{nat_tests}
use Rattle.std.proofs.lemmas.List.{take_more, length-take-le}
use Rattle.jmodel.specs.declared.name.MethodName.{MethodName}
use Rattle.objects.specs.linking.Members.{is_name}
use Rattle.const_pool.specs.Firsts.{first}
use Rattle.const_pool.proofs.FirstLemmas.{position_first, first_stands}
use Rattle.const_pool.proofs.Entries.{nowhere, no_place}
use Rattle.objects.specs.semantics.Program.{Method, is_selectable, overrides}
use Rattle.hierarchy.specs.Names.{number_of, AreFirst}
use Rattle.hierarchy.specs.Numbers.{or_number}
use Rattle.hierarchy.specs.Selecting.{class_of, class_key, group_key, both, place_in, is_place, first_at}
use Rattle.hierarchy.proofs.Numbering.{position_push}
use Rattle.hierarchy.proofs.SearchLaws.{same_name, name_symm}

-- ---- tests that agree

first_same : {A : Type 0} (p q : A → Bool) (xs : List A) → ((x : A) → p x ≡ q x) → first p xs ≡ first q xs
first_same p q [] same = refl
first_same p q (x ∷ xs) same = rw (same x, first_same p q xs same) refl

position_same : {A : Type 0} (p q : A → Bool) (xs : List A) → ((x : A) → p x ≡ q x) → position p xs ≡ position q xs
position_same p q xs same = position_first p xs ∙ first_same p q xs same ∙ sym (position_first q xs)

-- ---- numbers of names

-- whether it is this one
abbrev is_number : Option ℕ → ℕ → Bool
is_number None n = false
is_number (Some m) n = nat_eq n m

name_itself : (a : MethodName) → is_name a a ≡ true
name_itself a = rw (nat_list_eq_equiv.refl a.name, nat_list_eq_equiv.refl a.descriptor, nat_list_eq_equiv.refl a.class) refl

module _ (numbers : List (MethodName × ℕ)) (names : List MethodName) (are : AreFirst numbers names) where
  -- at its number a name stands
  stands : (a : MethodName) (n : ℕ) → number_of numbers a ≡ Some n → slice_get names n ≡ Some a
  stands a n e =
      let s = first_stands (is_name a) names n (sym (position_first (is_name a) names) ∙ sym (are a) ∙ e) in
      s.1 ∙ ap (λ (x : MethodName). Some x) (sym (same_name a s.0 s.2))

  -- only the same name has the same number
  other_number : (a b : MethodName) (n m : ℕ) → number_of numbers a ≡ Some n → number_of numbers b ≡ Some m → is_name b a ≡ false → nat_eq n m ≡ false
  other_number a b n m e f s = go (nat_eq n m) refl
    where
      go : (t : Bool) → nat_eq n m ≡ t → nat_eq n m ≡ false
      go false g = g
      go true g =
          let is : n ≡ m = grind (arith, nat_tests) in
          let one : Some a ≡ Some b = sym (stands a n e) ∙ ap (slice_get names) is ∙ stands b m f in
          let same : a ≡ b = cc in
          let is_true : is_name b a ≡ true = ap (is_name b) same ∙ name_itself b in
          absurd cc

  same_number : (a b : MethodName) (n : ℕ) → number_of numbers a ≡ Some n → is_number (number_of numbers b) n ≡ is_name b a
  same_number a b n e = go (is_name b a) refl
    where
      other : (o : Option ℕ) → number_of numbers b ≡ o → is_name b a ≡ false → is_number o n ≡ false
      other None f s = refl
      other (Some m) f s = other_number a b n m e f s

      go : (t : Bool) → is_name b a ≡ t → is_number (number_of numbers b) n ≡ t
      go true s = let is : n ≡ n = refl in let one : nat_eq n n ≡ true = grind (arith, nat_tests) in ap (λ (k : MethodName). is_number (number_of numbers k) n) (same_name b a s) ∙ ap (λ (o : Option ℕ). is_number o n) e ∙ one
      go false s = other (number_of numbers b) refl s

-- a test that only items pass whose name has a number
all_fail : {A : Type 0} (key : A → MethodName) (a : MethodName) (test : A → Bool) (xs : List A) → ((x : A) → is_name a (key x) ≡ false → test x ≡ false)
    → AllByRecursion (λ (b : MethodName). is_name a b ≡ false) (map key xs) → AllByRecursion (λ (x : A). test x ≡ false) xs
all_fail key a test [] fails all = tt
all_fail key a test (x ∷ xs) fails all = (fails x all.0, all_fail key a test xs fails all.1)

none_passes : {A : Type 0} (key : A → MethodName) (numbers : List (MethodName × ℕ)) (a : MethodName) (test : A → Bool) (xs : List A) → AreFirst numbers (map key xs) → number_of numbers a ≡ None
    → ((x : A) → is_name a (key x) ≡ false → test x ≡ false) → position test xs ≡ None
none_passes key numbers a test xs are none fails = no_place test xs (all_fail key a test xs fails (nowhere (is_name a) (map key xs) (sym (are a) ∙ none)))

-- ---- what overrides a method

place_parts : (group class : Option ℕ) (g c : ℕ) → is_place (both group class) g c ≡ (is_number group g && is_number class c)
place_parts None class g c = refl
place_parts (Some h) None g c = no (nat_eq g h)
  where
    no : (a : Bool) → false ≡ (a && false)
    no true = refl
    no false = refl
place_parts (Some h) (Some d) g c = refl

-- it has the class's name, and the method's name and descriptor
in_parts : (k : Method) (class : List ℕ) (o : Method) → (is_name (group_key o) (group_key k) && is_name (class_key o) (class_of class)) ≡ (bytes_eq o.name.class class && (bytes_eq o.name.name k.name.name && bytes_eq o.name.descriptor k.name.descriptor))
in_parts k class o = go (bytes_eq o.name.name k.name.name) (bytes_eq o.name.descriptor k.name.descriptor) (bytes_eq o.name.class class)
  where
    go : (a b c : Bool) → ((a && b && true) && (true && true && c)) ≡ (c && (a && b))
    go true true true = refl
    go true true false = refl
    go true false true = refl
    go true false false = refl
    go false b true = refl
    go false b false = refl

no_class : (k : Method) (class : List ℕ) (o : Method) → is_name (class_of class) (class_key o) ≡ false → overrides k class o ≡ false
no_class k class o other =
    let here : bytes_eq o.name.class class ≡ false = nat_list_eq_equiv.symm o.name.class class ∙ other in
    ap (λ (b : Bool). is_selectable o.dispatch && (b && (bytes_eq o.name.name k.name.name && bytes_eq o.name.descriptor k.name.descriptor))) here ∙ no (is_selectable o.dispatch)
  where
    no : (a : Bool) → (a && false) ≡ false
    no true = refl
    no false = refl

no_group : (k : Method) (class : List ℕ) (o : Method) → is_name (group_key k) (group_key o) ≡ false → overrides k class o ≡ false
no_group k class o other = go (is_selectable o.dispatch) (bytes_eq o.name.class class) (bytes_eq o.name.name k.name.name) (bytes_eq o.name.descriptor k.name.descriptor) (name_symm (group_key o) (group_key k) ∙ other)
  where
    go : (s c a b : Bool) → (a && b && true) ≡ false → (s && (c && (a && b))) ≡ false
    go true true true true h = absurd cc
    go true true true false h = refl
    go true true false b h = refl
    go true false a b h = refl
    go false c a b h = refl

module _ (groups classes : List (MethodName × ℕ)) (ms : List Method) (grouped : AreFirst groups (map group_key ms)) (classed : AreFirst classes (map class_key ms)) (k : Method) where
  passes : (class : List ℕ) (g c : ℕ) → number_of groups (group_key k) ≡ Some g → number_of classes (class_of class) ≡ Some c → (o : Method) → is_place (place_in groups classes o) g c ≡ overrides k class o
  passes class g c e f o = go (is_selectable o.dispatch)
    where
      both_parts : is_place (both (number_of groups (group_key o)) (number_of classes (class_key o))) g c ≡ (bytes_eq o.name.class class && (bytes_eq o.name.name k.name.name && bytes_eq o.name.descriptor k.name.descriptor))
      both_parts =
          place_parts (number_of groups (group_key o)) (number_of classes (class_key o)) g c
          ∙ ap (λ (b : Bool). b && is_number (number_of classes (class_key o)) c) (same_number groups (map group_key ms) grouped (group_key k) (group_key o) g e)
          ∙ ap (λ (b : Bool). is_name (group_key o) (group_key k) && b) (same_number classes (map class_key ms) classed (class_of class) (class_key o) c f)
          ∙ in_parts k class o

      go : (b : Bool) → is_place (if b then both (number_of groups (group_key o)) (number_of classes (class_key o)) else None) g c ≡ (b && (bytes_eq o.name.class class && (bytes_eq o.name.name k.name.name && bytes_eq o.name.descriptor k.name.descriptor)))
      go true = both_parts
      go false = refl

  -- the first of the group that the class declares
  pub declared : (class : List ℕ) (g c : ℕ) → number_of groups (group_key k) ≡ Some g → number_of classes (class_of class) ≡ Some c → position (λ o. is_place (place_in groups classes o) g c) ms ≡ position (overrides k class) ms
  declared class g c e f = position_same (λ o. is_place (place_in groups classes o) g c) (overrides k class) ms (passes class g c e f)

  -- a class with no number declares none
  pub none_declared : (class : List ℕ) → number_of classes (class_of class) ≡ None → position (overrides k class) ms ≡ None
  none_declared class e = none_passes class_key classes (class_of class) (overrides k class) ms classed e (no_class k class)

  -- nor does any where the group has no number
  pub none_grouped : number_of groups (group_key k) ≡ None → (class : List ℕ) → position (overrides k class) ms ≡ None
  none_grouped e class = none_passes group_key groups (group_key k) (overrides k class) ms grouped e (no_group k class)

-- ---- one more method is noted

module _ (before after : BTreeMap ℕ (BTreeMap ℕ ℕ)) (place : Method → Option (ℕ × ℕ)) (ms : List Method) (n : ℕ) (k : Method) (inside : n < length ms) (is : k ≡ get_or ms n k)
    (so_far : (g c : ℕ) → first_at before g c ≡ position (λ o. is_place (place o) g c) (take n ms)) where
  next : (g c : ℕ) → position (λ o. is_place (place o) g c) (take (n + 1) ms) ≡ (if is_place (place k) g c then or_number (first_at before g c) n else first_at before g c)
  next g c =
      let test : Method → Bool = λ o. is_place (place o) g c in
      let whole : take (n + 1) ms ≡ take n ms ++ k ∷ [] = take_more ms n k inside ∙ ap (λ (j : Method). take n ms ++ j ∷ []) (sym is) in
      let many : length (take n ms) ≡ n = length-take-le n ms (omega (arith, inside)) in
      ap (position test) whole ∙ position_push test (take n ms) k ∙ ap (λ (i : ℕ). if test k then or_number (position test (take n ms)) i else position test (take n ms)) many
      ∙ ap (λ (o : Option ℕ). if test k then or_number o n else o) (sym (so_far g c))

  pub more_firsts : (o : Option (ℕ × ℕ)) → place k ≡ o → ((g c : ℕ) → first_at after g c ≡ (if is_place o g c then or_number (first_at before g c) n else first_at before g c))
      → (g c : ℕ) → first_at after g c ≡ position (λ o. is_place (place o) g c) (take (n + 1) ms)
  more_firsts o e noted g c = noted g c ∙ ap (λ (p : Option (ℕ × ℕ)). if is_place p g c then or_number (first_at before g c) n else first_at before g c) (sym e) ∙ sym (next g c)
