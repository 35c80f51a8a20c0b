-- The methods of a linked program by their names: they are the taken methods of its classes.
use Rattle.std.proofs.Common.{◌≡◌, ℕ, zero, suc, List, [], ◌∷◌, ◌++◌, length, map, Some, Bool, true, false, ◌||◌, ◌&&◌, refl, sym, ap, ◌∙◌, subst, arith}
use Rattle.std.specs.Prelude.{filter, cond, bytes_eq, slice_get}
use Rattle.std.specs.List.{AllByRecursion, flat_map, list_any}
use Rattle.std.proofs.lemmas.List.{length-map}
use Rattle.std.proofs.lemmas.List.Elements.{filter-append}
use Rattle.std.proofs.lemmas.Slice.Eq.{bytes_eq-Decides}
use Rattle.jmodel.specs.declared.name.MethodName.{MethodName}
use Rattle.jmodel.specs.format.ClassFile.{Member, ClassFile}
use Rattle.objects.specs.linking.Library.{library}
use Rattle.objects.specs.linking.Members.{own_name}
use Rattle.objects.specs.linking.Classes.{Declared, declared_in, methods_in, full_name}
use Rattle.objects.specs.linking.Taken.{is_taken}
use Rattle.objects.specs.semantics.Program.{Method, Program}
use Rattle.objects.specs.linking.Decoding.{is_method}
use Rattle.objects.specs.linking.Linking.{taken_methods}
use Rattle.objects.specs.laws.LinkingLaw.{AreRead}
use Rattle.objects.specs.rewriting.Relinking.{is_of, old_members}
use Rattle.objects.proofs.Items.{IsAt, all_items, later, of_filter, into_filter, any_item}
use Rattle.objects.proofs.DeclaredMembers.{same_method}
use Rattle.objects.proofs.Links.{IsLinkedTo, method_from, methods_many}
use Rattle.rewritten_names.specs.Heads.{heads, name_under, is_numbered}
use Rattle.rewritten_names.proofs.Blocks.{Differ, differ, AreBlocks, joined, of_class, block_at}
use Rattle.rewritten_names.proofs.Groups.{old_names}
use Rattle.rewritten_names.proofs.Lists.{filter_map, both_true}

-- ---- lists

filter_same : {A : Type 0} (p q : A → Bool) (xs : List A) → AllByRecursion (λ x. p x ≡ q x) xs → filter p xs ≡ filter q xs
filter_same p q [] all = refl
filter_same p q (x ∷ xs) all = ap (λ (b : Bool). cond b (x ∷ filter p xs) (filter p xs)) all.0 ∙ ap (λ (l : List _). cond (q x) (x ∷ l) l) (filter_same p q xs all.1)

filter_flat : {A B : Type 0} (p : B → Bool) (f : A → List B) (xs : List A) → filter p (flat_map f xs) ≡ flat_map (λ x. filter p (f x)) xs
filter_flat p f [] = refl
filter_flat p f (x ∷ xs) = filter-append p (f x) (flat_map f xs) ∙ ap (λ (l : List _). filter p (f x) ++ l) (filter_flat p f xs)

any_map : {A B : Type 0} (f : A → B) (p : B → Bool) (xs : List A) → list_any p (map f xs) ≡ list_any (λ x. p (f x)) xs
any_map f p [] = refl
any_map f p (x ∷ xs) = ap (λ (b : Bool). p (f x) || b) (any_map f p xs)

any_at : {A : Type 0} (p : A → Bool) (xs : List A) (x : A) → IsAt xs x → p x ≡ true → list_any p xs ≡ true
any_at {A} p xs x h is = go xs h.0 h.1
  where
    on_left : (a b : Bool) → a ≡ true → (a || b) ≡ true
    on_left true b e = refl
    on_left false b e = cc

    on_right : (a b : Bool) → b ≡ true → (a || b) ≡ true
    on_right true b e = refl
    on_right false b e = e

    go : (xs : List A) (i : ℕ) → slice_get xs i ≡ Some x → list_any p xs ≡ true
    go [] i e = cc
    go (y ∷ xs) zero e = let s : y ≡ x = cc in on_left (p y) (list_any p xs) (ap p s ∙ is)
    go (y ∷ xs) (suc i) e = on_right (p y) (list_any p xs) (go xs i e)

same_each : {A B C : Type 0} (f : A → C) (g : B → C) (xs : List A) (ys : List B) → length xs ≡ length ys
    → ((i : ℕ) (x : A) → slice_get xs i ≡ Some x → (y : B) × (slice_get ys i ≡ Some y) × (f x ≡ g y)) → map f xs ≡ map g ys
same_each f g [] [] l h = refl
same_each f g [] (y ∷ ys) l h = absurd (omega (arith, l))
same_each f g (x ∷ xs) [] l h = absurd (omega (arith, l))
same_each f g (x ∷ xs) (y ∷ ys) l h =
    let a = h 0 x refl in
    let s : y ≡ a.0 = (let e = a.1 in cc) in
    let first : f x ≡ g y = a.2 ∙ ap g (sym s) in
    ap (λ (c : _). c ∷ map f xs) first ∙ ap (λ (l : List _). g y ∷ l) (same_each f g xs ys (omega (arith, l)) (λ i z e. h (suc i) z e))

-- ---- names

same_text : (x y : List ℕ) → bytes_eq x y ≡ true → x ≡ y
same_text x y e = (bytes_eq-Decides x y).0 e

pub method_itself : (n : MethodName) → is_method n n ≡ true
method_itself n =
    let a = (bytes_eq-Decides n.name n.name).1 refl in
    let b = (bytes_eq-Decides n.descriptor n.descriptor).1 refl in
    let c = (bytes_eq-Decides n.class n.class).1 refl in
    rw (a, b, c) refl

pub method_same : (n k : MethodName) → is_method n k ≡ true → k ≡ n
method_same n k e =
    let a = both_true (bytes_eq k.name n.name) (bytes_eq k.descriptor n.descriptor && bytes_eq k.class n.class) e in
    let b = both_true (bytes_eq k.descriptor n.descriptor) (bytes_eq k.class n.class) a.1 in
    built k n (same_text k.class n.class b.1) (same_text k.name n.name a.0) (same_text k.descriptor n.descriptor b.0)
  where
    built : (k n : MethodName) → k.class ≡ n.class → k.name ≡ n.name → k.descriptor ≡ n.descriptor → k ≡ n
    built k n c m d = ap (λ (t : List ℕ). record { class = t; name = k.name; descriptor = k.descriptor }) c ∙ ap (λ (t : List ℕ). record { class = n.class; name = t; descriptor = k.descriptor }) m ∙ ap (λ (t : List ℕ). record { class = n.class; name = n.name; descriptor = t }) d

module _ (cs : List ClassFile) (P : Program) (read : AreRead cs) (l : IsLinkedTo cs P) where
  -- ---- the program's methods are the taken ones

  pub program_names : map (λ (k : Method). k.name) P.methods ≡ map full_name (taken_methods cs)
  program_names = same_each (λ (k : Method). k.name) full_name P.methods (taken_methods cs) (methods_many cs P l) one
    where
      one : (i : ℕ) (k : Method) → slice_get P.methods i ≡ Some k → (m : Declared) × (slice_get (taken_methods cs) i ≡ Some m) × (k.name ≡ full_name m)
      one i k e = let f = method_from cs P l i k e in (f.member, f.there, ap (λ (k : Method). k.name) f.meant.is)

  named_in : (k : Declared) → is_of P k ≡ list_any (λ (m : Declared). is_method (full_name k) (full_name m)) (taken_methods cs)
  named_in k =
      sym (any_map (λ (o : Method). o.name) (is_method (full_name k)) P.methods) ∙ ap (list_any (is_method (full_name k))) program_names ∙ any_map full_name (is_method (full_name k)) (taken_methods cs)

  pub numbered_taken : (k : Declared) → IsAt (methods_in cs) k → is_of P k ≡ is_taken cs k
  numbered_taken k at = go (is_of P k) refl (is_taken cs k) refl
    where
      taken : is_of P k ≡ true → is_taken cs k ≡ true
      taken e =
          let a = any_item (λ (m : Declared). is_method (full_name k) (full_name m)) (taken_methods cs) (sym (named_in k) ∙ e) in
          let m = of_filter (is_taken cs) (methods_in cs) a.0 a.1 in
          let same : a.0 ≡ k = same_method cs read a.0 k m.0 at (method_same (full_name k) (full_name a.0) a.2) in
          ap (is_taken cs) (sym same) ∙ m.1

      numbered : is_taken cs k ≡ true → is_of P k ≡ true
      numbered e =
          named_in k ∙ any_at (λ (m : Declared). is_method (full_name k) (full_name m)) (taken_methods cs) k (into_filter (is_taken cs) (methods_in cs) k at e) (method_itself (full_name k))

      go : (b : Bool) → is_of P k ≡ b → (c : Bool) → is_taken cs k ≡ c → is_of P k ≡ is_taken cs k
      go true e true f = e ∙ sym f
      go true e false f = let t = taken e in cc
      go false e true f = let t = numbered f in cc
      go false e false f = e ∙ sym f

  in_class : (c : ClassFile) → IsAt cs c → (k : Declared) → IsAt (declared_in c c.methods) k → IsAt (methods_in cs) k
  in_class c at k h = go cs at.0 at.1
    where
      front : (xs ys : List Declared) (j : ℕ) → slice_get xs j ≡ Some k → IsAt (xs ++ ys) k
      front [] ys j e = cc
      front (x ∷ xs) ys zero e = (0, e)
      front (x ∷ xs) ys (suc j) e = later x (xs ++ ys) k (front xs ys j e)

      back : (xs ys : List Declared) → IsAt ys k → IsAt (xs ++ ys) k
      back [] ys h = h
      back (x ∷ xs) ys h = later x (xs ++ ys) k (back xs ys h)

      go : (xs : List ClassFile) (i : ℕ) → slice_get xs i ≡ Some c → IsAt (methods_in xs) k
      go [] i e = cc
      go (x ∷ xs) zero e = let s : c ≡ x = cc in front (declared_in x x.methods) (methods_in xs) h.0 (subst (λ (x : ClassFile). slice_get (declared_in x x.methods) h.0 ≡ Some k) s h.1)
      go (x ∷ xs) (suc i) e = back (declared_in x x.methods) (methods_in xs) (go xs i e)

  -- the program's methods of a class are those of its file that are taken
  pub olds_taken : (c : ClassFile) → IsAt cs c → old_members P c ≡ filter (is_taken cs) (declared_in c c.methods)
  olds_taken c at = filter_same (is_of P) (is_taken cs) (declared_in c c.methods) (all_items (λ k. is_of P k ≡ is_taken cs k) (declared_in c c.methods) (λ k h. numbered_taken k (in_class c at k h)))

  flat_same : {B : Type 0} (f g : ClassFile → List B) (xs : List ClassFile) → AllByRecursion (λ c. f c ≡ g c) xs → flat_map f xs ≡ flat_map g xs
  flat_same f g [] all = refl
  flat_same f g (x ∷ xs) all = ap (λ (l : List _). l ++ flat_map f xs) all.0 ∙ ap (λ (l : List _). g x ++ l) (flat_same f g xs all.1)

  pub all_taken : flat_map (old_members P) cs ≡ taken_methods cs
  all_taken =
      flat_same (old_members P) (λ c. filter (is_taken cs) (declared_in c c.methods)) cs (all_items (λ c. old_members P c ≡ filter (is_taken cs) (declared_in c c.methods)) cs olds_taken)
      ∙ sym (filter_flat (is_taken cs) (λ (c : ClassFile). declared_in c c.methods) cs)

  pub all_named : map full_name (flat_map (old_members P) cs) ≡ map (λ (k : Method). k.name) P.methods
  all_named = ap (map full_name) all_taken ∙ sym program_names

  -- ---- class by class

  pub distinct : Differ cs
  distinct = differ library cs read.doubled

  abbrev name_blocks : List (List MethodName)
  name_blocks = map (λ c. map full_name (old_members P c)) cs

  own_names : (c : ClassFile) (ms : List Member) → AllByRecursion (λ (n : MethodName). n.class ≡ own_name c) (map full_name (filter (is_of P) (declared_in c ms)))
  own_names c [] = tt
  own_names c (m ∷ ms) = go (is_of P (record { class = c; member = m })) (own_names c ms)
    where
      go : (b : Bool) → AllByRecursion (λ (n : MethodName). n.class ≡ own_name c) (map full_name (filter (is_of P) (declared_in c ms)))
          → AllByRecursion (λ (n : MethodName). n.class ≡ own_name c) (map full_name (cond b (record { class = c; member = m } ∷ filter (is_of P) (declared_in c ms)) (filter (is_of P) (declared_in c ms))))
      go true rest = (refl, rest)
      go false rest = rest

  blocks_of : (xs : List ClassFile) → AreBlocks (λ (n : MethodName). n.class) xs (map (λ c. map full_name (old_members P c)) xs)
  blocks_of [] = tt
  blocks_of (x ∷ xs) = (own_names x x.methods, blocks_of xs)

  joined_blocks : (xs : List ClassFile) → joined (λ (n : MethodName). n.class) (map (λ c. map full_name (old_members P c)) xs) ≡ map full_name (flat_map (old_members P) xs)
  joined_blocks [] = refl
  joined_blocks (x ∷ xs) = ap (λ (l : List MethodName). map full_name (old_members P x) ++ l) (joined_blocks xs) ∙ sym (map_append full_name (old_members P x) (flat_map (old_members P) xs))
    where
      map_append : (f : Declared → MethodName) (xs bs : List Declared) → map f (xs ++ bs) ≡ map f xs ++ map f bs
      map_append f [] bs = refl
      map_append f (a ∷ rest) bs = ap (λ (l : List MethodName). f a ∷ l) (map_append f rest bs)

  block_there : (xs : List ClassFile) (i : ℕ) (c : ClassFile) → slice_get xs i ≡ Some c → slice_get (map (λ c. map full_name (old_members P c)) xs) i ≡ Some (map full_name (old_members P c))
  block_there [] i c e = cc
  block_there (x ∷ xs) zero c e = let s : x ≡ c = cc in ap (λ (x : ClassFile). Some (map full_name (old_members P x))) s
  block_there (x ∷ xs) (suc i) c e = block_there xs i c e

  pub many : (c : ClassFile) → IsAt cs c → length (filter (λ (k : Method). bytes_eq k.name.class (own_name c)) P.methods) ≡ length (filter (is_numbered P (own_name c)) (heads c.pool c.methods))
  many c at =
      sym (length-map (filter (λ (k : Method). bytes_eq k.name.class (own_name c)) P.methods) (λ (k : Method). k.name))
      ∙ ap length (sym (filter_map (λ (k : Method). k.name) (of_class (λ (n : MethodName). n.class) (own_name c)) P.methods)
      ∙ ap (filter (of_class (λ (n : MethodName). n.class) (own_name c))) (sym all_named ∙ sym (joined_blocks cs))
      ∙ block_at (λ (n : MethodName). n.class) cs name_blocks distinct (blocks_of cs) at.0 c (map full_name (old_members P c)) at.1 (block_there cs at.0 c at.1)
      ∙ old_names P c)
      ∙ length-map (filter (is_numbered P (own_name c)) (heads c.pool c.methods)) (name_under (own_name c))
