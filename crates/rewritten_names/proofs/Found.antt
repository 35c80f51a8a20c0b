-- Which member a search finds among rewritten classes.
use Rattle.std.proofs.Common.{◌≡◌, ℕ, List, [], ◌∷◌, ◌++◌, map, Option, Some, None, Bool, true, false, refl, sym, ap, ◌∙◌}
use Rattle.std.specs.Prelude.{find, filter, cond, option_map}
use Rattle.std.specs.List.{AllByRecursion, AllZip}
use Rattle.std.specs.Option.{option_or}
use Rattle.std.proofs.lemmas.List.Folds.{find-append}
use Rattle.jmodel.specs.declared.name.MethodName.{MethodName}
use Rattle.jmodel.specs.format.ClassFile.{Member, ClassFile}
use Rattle.objects.specs.linking.Members.{own_name}
use Rattle.objects.specs.linking.Classes.{Declared, declared_in, methods_in, full_name}
use Rattle.objects.specs.semantics.Program.{Program}
use Rattle.objects.specs.linking.Resolution.{fields_in}
use Rattle.rewritten_names.specs.Heads.{Head, head_of, heads, name_under, is_numbered, copy_of, accessor_heads, own_fields, IsAdded, Rewrites}
use Rattle.rewritten_names.proofs.Lists.{all_both}

-- ---- members as a search sees them

-- the name of a class, and the head of a member of it
abbrev pub View : Type 0
View = List ℕ × Head

abbrev pub view : Declared → View
view k = (own_name k.class, head_of k.class.pool k.member)

abbrev pub view_name : View → MethodName
view_name v = name_under v.0 v.1

pub name_is : (k : Declared) → full_name k ≡ view_name (view k)
name_is k = refl

abbrev pub under : List ℕ → List Head → List View
under class hs = map (λ (h : Head). (class, h)) hs

pub views_declared : (c : ClassFile) (ms : List Member) → map view (declared_in c ms) ≡ under (own_name c) (heads c.pool ms)
views_declared c [] = refl
views_declared c (m ∷ ms) = ap (λ (l : List View). (own_name c, head_of c.pool m) ∷ l) (views_declared c ms)

-- ---- searches

pub find_map : {A B : Type 0} (f : A → B) (p : B → Bool) (xs : List A) → find p (map f xs) ≡ option_map f (find (λ x. p (f x)) xs)
find_map f p [] = refl
find_map f p (x ∷ xs) = go (p (f x)) (find_map f p xs)
  where
    go : (b : Bool) → find p (map f xs) ≡ option_map f (find (λ x. p (f x)) xs) → cond b (Some (f x)) (find p (map f xs)) ≡ option_map f (cond b (Some x) (find (λ x. p (f x)) xs))
    go true rest = refl
    go false rest = rest

map_both : {A B : Type 0} (f : A → B) (xs ys : List A) → map f (xs ++ ys) ≡ map f xs ++ map f ys
map_both f [] ys = refl
map_both f (x ∷ xs) ys = ap (λ (l : List _). f x ∷ l) (map_both f xs ys)

none_found : {A : Type 0} (p : A → Bool) (xs : List A) → AllByRecursion (λ x. p x ≡ false) xs → find p xs ≡ None
none_found p [] all = refl
none_found p (x ∷ xs) all = let e = all.0 in rw e (none_found p xs all.1)

or_none : {A : Type 0} (o : Option A) → option_or o None ≡ o
or_none None = refl
or_none (Some x) = refl

find_front : {A : Type 0} (p : A → Bool) (xs ys : List A) → AllByRecursion (λ x. p x ≡ false) ys → find p (xs ++ ys) ≡ find p xs
find_front p xs ys none = find-append p xs ys ∙ ap (option_or (find p xs)) (none_found p ys none) ∙ or_none (find p xs)

find_back : {A : Type 0} (p : A → Bool) (xs ys : List A) → AllByRecursion (λ x. p x ≡ false) xs → find p (xs ++ ys) ≡ find p ys
find_back p [] ys none = refl
find_back p (x ∷ xs) ys none = let e = none.0 in rw e (find_back p xs ys none.1)

under_rule : (class : List ℕ) (q : Head → Bool) (hs : List Head) → AllByRecursion (λ h. q h ≡ false) hs → AllByRecursion (λ (v : View). q v.1 ≡ false) (under class hs)
under_rule class q [] all = tt
under_rule class q (h ∷ hs) all = (all.0, under_rule class q hs all.1)

-- a search by heads
abbrev pub by : (Head → Bool) → View → Bool
by q v = q v.1

-- ---- methods

module _ (P : Program) (Rule : ClassFile → Type 0) where
  abbrev Pairs : List ClassFile → List ClassFile → Type 0
  Pairs xs ys = AllZip (λ c d. Rewrites P c d × Rule c) xs ys

  abbrev pub views : List ClassFile → List View
  views cs = map view (methods_in cs)

  views_cons : (c : ClassFile) (cs : List ClassFile) → views (c ∷ cs) ≡ under (own_name c) (heads c.pool c.methods) ++ views cs
  views_cons c cs = map_both view (declared_in c c.methods) (methods_in cs) ∙ ap (λ (l : List View). l ++ views cs) (views_declared c c.methods)

  abbrev copies : ClassFile → List Head
  copies c = map copy_of (filter (is_numbered P (own_name c)) (heads c.pool c.methods))

  abbrev old_views : ClassFile → List View
  old_views c = under (own_name c) (heads c.pool c.methods)

  abbrev added_views : ClassFile → List View
  added_views c = under (own_name c) (accessor_heads (own_fields P c)) ++ under (own_name c) (copies c)

  views_rewritten : (c d : ClassFile) (ds : List ClassFile) → Rewrites P c d
      → views (d ∷ ds) ≡ (old_views c ++ added_views c) ++ views ds
  views_rewritten c d ds r =
      views_cons d ds
      ∙ ap (λ (t : List ℕ). under t (heads d.pool d.methods) ++ views ds) r.own
      ∙ ap (λ (l : List Head). under (own_name c) l ++ views ds) r.methods
      ∙ ap (λ (l : List View). l ++ views ds) (map_both (λ (h : Head). (own_name c, h)) (heads c.pool c.methods) (accessor_heads (own_fields P c) ++ copies c)
      ∙ ap (λ (l : List View). under (own_name c) (heads c.pool c.methods) ++ l) (map_both (λ (h : Head). (own_name c, h)) (accessor_heads (own_fields P c)) (copies c)))

  -- a search that passes over all that is added
  pub record Passes (q : Head → Bool) (c : ClassFile) : Type 0 where
    pub accessors : AllByRecursion (λ h. q h ≡ false) (accessor_heads (own_fields P c))
    pub copies : AllByRecursion (λ h. q h ≡ false) (map copy_of (filter (is_numbered P (own_name c)) (heads c.pool c.methods)))

  -- finds what it found
  pub old_found : (q : Head → Bool) → ((c : ClassFile) → Rule c → Passes q c) → (cs ds : List ClassFile) → Pairs cs ds → find (by q) (views ds) ≡ find (by q) (views cs)
  old_found q passes [] [] z = refl
  old_found q passes [] (d ∷ ds) z = absurd z
  old_found q passes (c ∷ cs) [] z = absurd z
  old_found q passes (c ∷ cs) (d ∷ ds) z =
      ap (find (by q)) (views_rewritten c d ds z.0.0)
      ∙ find-append (by q) (old_views c ++ added_views c) (views ds)
      ∙ ap (λ (o : Option View). option_or o (find (by q) (views ds))) (find_front (by q) (old_views c) (added_views c) none)
      ∙ ap (option_or (find (by q) (old_views c))) (old_found q passes cs ds z.1)
      ∙ sym (find-append (by q) (old_views c) (views cs))
      ∙ sym (ap (find (by q)) (views_cons c cs))
    where
      none : AllByRecursion (λ (v : View). by q v ≡ false) (added_views c)
      none =
          all_both (λ (v : View). by q v ≡ false) (under (own_name c) (accessor_heads (own_fields P c))) (under (own_name c) (copies c))
          (under_rule (own_name c) q (accessor_heads (own_fields P c)) (passes c z.0.1).accessors) (under_rule (own_name c) q (copies c) (passes c z.0.1).copies)

  -- Two searches, of which the one passes a duplicate where the other passes its original, which is numbered.
  pub record Suits (q r : Head → Bool) (class : List ℕ) (h : Head) : Type 0 where
    pub old : r h ≡ false
    pub copy : r (copy_of h) ≡ q h
    pub numbered : q h ≡ true → is_numbered P class h ≡ true

  pub record Copies (q r : Head → Bool) (c : ClassFile) : Type 0 where
    pub heads_suit : AllByRecursion (Suits q r (own_name c)) (heads c.pool c.methods)
    pub accessors : AllByRecursion (λ h. r h ≡ false) (accessor_heads (own_fields P c))

  abbrev pub copy_view : View → View
  copy_view v = (v.0, copy_of v.1)

  old_none : (q r : Head → Bool) (class : List ℕ) (hs : List Head) → AllByRecursion (Suits q r class) hs → AllByRecursion (λ (v : View). r v.1 ≡ false) (under class hs)
  old_none q r class [] all = tt
  old_none q r class (h ∷ hs) all = (all.0.old, old_none q r class hs all.1)

  found_copy : (q r : Head → Bool) (class : List ℕ) (hs : List Head) → AllByRecursion (Suits q r class) hs
      → find (by r) (under class (map copy_of (filter (is_numbered P class) hs))) ≡ option_map copy_view (find (by q) (under class hs))
  found_copy q r class [] all = refl
  found_copy q r class (h ∷ hs) all = go (q h) refl (is_numbered P class h) refl (found_copy q r class hs all.1)
    where
      go : (a : Bool) → q h ≡ a → (b : Bool) → is_numbered P class h ≡ b
          → find (by r) (under class (map copy_of (filter (is_numbered P class) hs))) ≡ option_map copy_view (find (by q) (under class hs))
          → find (by r) (under class (map copy_of (cond b (h ∷ filter (is_numbered P class) hs) (filter (is_numbered P class) hs)))) ≡ option_map copy_view (cond a (Some (class, h)) (find (by q) (under class hs)))
      go true e true f rest = let s = all.0.copy ∙ e in rw s refl
      go true e false f rest = let n = all.0.numbered e in cc
      go false e true f rest = let s = all.0.copy ∙ e in rw s rest
      go false e false f rest = rest

  -- finds the duplicate of what the other finds
  pub copy_found : (q r : Head → Bool) → ((c : ClassFile) → Rule c → Copies q r c) → (cs ds : List ClassFile) → Pairs cs ds
      → find (by r) (views ds) ≡ option_map copy_view (find (by q) (views cs))
  copy_found q r suits [] [] z = refl
  copy_found q r suits [] (d ∷ ds) z = absurd z
  copy_found q r suits (c ∷ cs) [] z = absurd z
  copy_found q r suits (c ∷ cs) (d ∷ ds) z =
      ap (find (by r)) (views_rewritten c d ds z.0.0)
      ∙ find-append (by r) (old_views c ++ added_views c) (views ds)
      ∙ ap (λ (o : Option View). option_or o (find (by r) (views ds)))
      (find_back (by r) (old_views c) (added_views c) (old_none q r (own_name c) (heads c.pool c.methods) (suits c z.0.1).heads_suit)
      ∙ find_back (by r) (under (own_name c) (accessor_heads (own_fields P c))) (under (own_name c) (copies c)) (under_rule (own_name c) r (accessor_heads (own_fields P c)) (suits c z.0.1).accessors)
      ∙ found_copy q r (own_name c) (heads c.pool c.methods) (suits c z.0.1).heads_suit)
      ∙ ap (option_or (option_map copy_view (find (by q) (old_views c)))) (copy_found q r suits cs ds z.1)
      ∙ or_map (find (by q) (old_views c)) (find (by q) (views cs))
      ∙ ap (option_map copy_view) (sym (find-append (by q) (old_views c) (views cs)) ∙ sym (ap (find (by q)) (views_cons c cs)))
    where
      or_map : (o u : Option View) → option_or (option_map copy_view o) (option_map copy_view u) ≡ option_map copy_view (option_or o u)
      or_map None u = refl
      or_map (Some x) u = refl

  -- ---- fields

  abbrev pub field_views : List ClassFile → List View
  field_views cs = map view (fields_in cs)

  field_views_cons : (c : ClassFile) (cs : List ClassFile) → field_views (c ∷ cs) ≡ under (own_name c) (heads c.pool c.fields) ++ field_views cs
  field_views_cons c cs = map_both view (declared_in c c.fields) (fields_in cs) ∙ ap (λ (l : List View). l ++ field_views cs) (views_declared c c.fields)

  abbrev old_fields : ClassFile → List View
  old_fields c = under (own_name c) (heads c.pool c.fields)

  added_none : (q : Head → Bool) → ((h : Head) → IsAdded h → q h ≡ false) → (class : List ℕ) (hs : List Head) → AllByRecursion IsAdded hs → AllByRecursion (λ (v : View). q v.1 ≡ false) (under class hs)
  added_none q other class [] all = tt
  added_none q other class (h ∷ hs) all = (other h all.0, added_none q other class hs all.1)

  -- a search that passes over all names that rewriting keeps for itself finds the field that it found
  pub field_found : (q : Head → Bool) → ((h : Head) → IsAdded h → q h ≡ false) → (cs ds : List ClassFile) → Pairs cs ds → find (by q) (field_views ds) ≡ find (by q) (field_views cs)
  field_found q other [] [] z = refl
  field_found q other [] (d ∷ ds) z = absurd z
  field_found q other (c ∷ cs) [] z = absurd z
  field_found q other (c ∷ cs) (d ∷ ds) z =
      ap (find (by q)) (field_views_cons d ds
      ∙ ap (λ (t : List ℕ). under t (heads d.pool d.fields) ++ field_views ds) z.0.0.own
      ∙ ap (λ (l : List Head). under (own_name c) l ++ field_views ds) z.0.0.fields
      ∙ ap (λ (l : List View). l ++ field_views ds) (map_both (λ (h : Head). (own_name c, h)) (heads c.pool c.fields) z.0.0.added))
      ∙ find-append (by q) (old_fields c ++ under (own_name c) z.0.0.added) (field_views ds)
      ∙ ap (λ (o : Option View). option_or o (find (by q) (field_views ds))) (find_front (by q) (old_fields c) (under (own_name c) z.0.0.added) (added_none q other (own_name c) z.0.0.added z.0.0.reserved))
      ∙ ap (option_or (find (by q) (old_fields c))) (field_found q other cs ds z.1)
      ∙ sym (find-append (by q) (old_fields c) (field_views cs))
      ∙ sym (ap (find (by q)) (field_views_cons c cs))
