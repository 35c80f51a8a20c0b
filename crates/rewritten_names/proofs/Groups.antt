-- The members of rewritten classes by their groups: the program's methods as they were, accessors, and duplicates.
use Rattle.std.proofs.Common.{◌≡◌, ℕ, zero, suc, ◌+◌, ◌-◌, ◌*◌, List, [], ◌∷◌, ◌++◌, length, map, take, drop, false, refl, sym, ap, ◌∙◌, arith, length-append}
use Rattle.std.specs.Prelude.{filter, bytes_eq}
use Rattle.std.specs.List.{AllByRecursion, AllZip, flat_map}
use Rattle.std.proofs.lemmas.List.{length-map}
use Rattle.std.proofs.lemmas.List.Elements.{filter-append}
use Rattle.jmodel.specs.format.ClassFile.{Member, ClassFile}
use Rattle.objects.specs.linking.Members.{own_name}
use Rattle.objects.specs.linking.Classes.{declared_in, full_name}
use Rattle.objects.specs.semantics.Program.{Field, Method, Program}
use Rattle.objects.specs.rewriting.Rewriting.{getter_method, setter_method}
use Rattle.objects.specs.rewriting.Relinking.{old_members, duplicates_count, accessors_count, duplicate_members, accessor_members}
use Rattle.rewritten_names.specs.Heads.{Head, head_of, heads, name_under, is_numbered, copy_of, added_head, accessor_heads, own_fields, Rewrites}
use Rattle.rewritten_names.proofs.Found.{View, view, view_name, under, views_declared}
use Rattle.rewritten_names.proofs.Lists.{map_map, filter_map, filter_none, append_none, map_flat}

-- ---- lists

take_map : {A B : Type 0} (f : A → B) (n : ℕ) (xs : List A) → map f (take n xs) ≡ take n (map f xs)
take_map f zero xs = refl
take_map f (suc n) [] = refl
take_map f (suc n) (x ∷ xs) = ap (λ (l : List _). f x ∷ l) (take_map f n xs)

drop_map : {A B : Type 0} (f : A → B) (n : ℕ) (xs : List A) → map f (drop n xs) ≡ drop n (map f xs)
drop_map f zero xs = refl
drop_map f (suc n) [] = refl
drop_map f (suc n) (x ∷ xs) = drop_map f n xs

drop_front : {A : Type 0} (xs ys : List A) → drop (length xs) (xs ++ ys) ≡ ys
drop_front [] ys = refl
drop_front (x ∷ xs) ys = drop_front xs ys

take_front : {A : Type 0} (xs ys : List A) → take (length xs) (xs ++ ys) ≡ xs
take_front [] ys = refl
take_front (x ∷ xs) ys = ap (λ (l : List _). x ∷ l) (take_front xs ys)

two_each : {A B : Type 0} (f g : A → B) (xs : List A) → length (flat_map (λ x. f x ∷ g x ∷ []) xs) ≡ 2 * length xs
two_each f g [] = refl
two_each f g (x ∷ xs) = let e = two_each f g xs in omega (arith, e)

under_length : (class : List ℕ) (hs : List Head) → length (under class hs) ≡ length hs
under_length class hs = length-map hs (λ (h : Head). (class, h))

-- ---- the groups of a class

module _ (P : Program) where
  abbrev copies : ClassFile → List Head
  copies c = map copy_of (filter (is_numbered P (own_name c)) (heads c.pool c.methods))

  -- Nothing that is added to a class is numbered, and as many methods as are numbered are the program's.
  pub record IsCounted (c : ClassFile) : Type 0 where
    pub accessors : AllByRecursion (λ h. is_numbered P (own_name c) h ≡ false) (accessor_heads (own_fields P c))
    pub copies_free : AllByRecursion (λ h. is_numbered P (own_name c) h ≡ false) (copies c)
    pub many : length (filter (λ (k : Method). bytes_eq k.name.class (own_name c)) P.methods) ≡ length (filter (is_numbered P (own_name c)) (heads c.pool c.methods))

  names_of : (d : ClassFile) (ms : List Member) → map full_name (declared_in d ms) ≡ map view_name (under (own_name d) (heads d.pool ms))
  names_of d ms = sym (map_map view view_name (declared_in d ms)) ∙ ap (map view_name) (views_declared d ms)

  under_names : (class : List ℕ) (hs : List Head) → map view_name (under class hs) ≡ map (name_under class) hs
  under_names class hs = map_map (λ (h : Head). (class, h)) view_name hs

  numbered_names : (class : List ℕ) (hs : List Head) → filter (λ (v : View). is_numbered P v.0 v.1) (under class hs) ≡ under class (filter (is_numbered P class) hs)
  numbered_names class hs = filter_map (λ (h : Head). (class, h)) (λ (v : View). is_numbered P v.0 v.1) hs

  pub old_names : (d : ClassFile) → map full_name (old_members P d) ≡ map (name_under (own_name d)) (filter (is_numbered P (own_name d)) (heads d.pool d.methods))
  old_names d =
      sym (map_map view view_name (old_members P d))
      ∙ ap (map view_name) (sym (filter_map view (λ (v : View). is_numbered P v.0 v.1) (declared_in d d.methods)) ∙ ap (filter (λ (v : View). is_numbered P v.0 v.1)) (views_declared d d.methods) ∙ numbered_names (own_name d) (heads d.pool d.methods))
      ∙ under_names (own_name d) (filter (is_numbered P (own_name d)) (heads d.pool d.methods))

  module _ (c d : ClassFile) (r : Rewrites P c d) (k : IsCounted c) where
    abbrev olds : List Head
    olds = heads c.pool c.methods

    abbrev accessors : List Head
    accessors = accessor_heads (own_fields P c)

    -- the methods of the original's program stay
    pub olds_stay : map full_name (old_members P d) ≡ map full_name (old_members P c)
    olds_stay =
        old_names d
        ∙ ap (λ (t : List ℕ). map (name_under t) (filter (is_numbered P t) (heads d.pool d.methods))) r.own
        ∙ ap (λ (l : List Head). map (name_under (own_name c)) (filter (is_numbered P (own_name c)) l)) r.methods
        ∙ ap (map (name_under (own_name c)))
        (filter-append (is_numbered P (own_name c)) olds (accessors ++ copies c)
        ∙ ap (λ (l : List Head). filter (is_numbered P (own_name c)) olds ++ l) (filter-append (is_numbered P (own_name c)) accessors (copies c) ∙ none)
        ∙ append_none (filter (is_numbered P (own_name c)) olds))
        ∙ sym (old_names c)
      where
        none : filter (is_numbered P (own_name c)) accessors ++ filter (is_numbered P (own_name c)) (copies c) ≡ []
        none = ap (λ (l : List Head). l ++ filter (is_numbered P (own_name c)) (copies c)) (filter_none (is_numbered P (own_name c)) accessors k.accessors) ∙ filter_none (is_numbered P (own_name c)) (copies c) k.copies_free

    all_names : map full_name (declared_in d d.methods) ≡ map (name_under (own_name c)) (olds ++ (accessors ++ copies c))
    all_names =
        names_of d d.methods ∙ under_names (own_name d) (heads d.pool d.methods) ∙ ap (λ (t : List ℕ). map (name_under t) (heads d.pool d.methods)) r.own ∙ ap (map (name_under (own_name c))) r.methods

    long : length d.methods ≡ length olds + (length accessors + length (copies c))
    long =
        sym (length-map d.methods (head_of d.pool)) ∙ ap length r.methods ∙ length-append olds (accessors ++ copies c) ∙ ap (λ (n : ℕ). length olds + n) (length-append accessors (copies c))

    many_copies : duplicates_count P d ≡ length (copies c)
    many_copies =
        ap (λ (t : List ℕ). length (filter (λ (k : Method). bytes_eq k.name.class t) P.methods)) r.own ∙ k.many
        ∙ sym (length-map (filter (is_numbered P (own_name c)) (heads c.pool c.methods)) copy_of)

    many_accessors : accessors_count P d ≡ length accessors
    many_accessors =
        ap (λ (t : List ℕ). 2 * length (filter (λ (f : Field). bytes_eq f.class t) P.fields)) r.own
        ∙ sym (two_each (λ (f : Field). added_head (getter_method 0 f).name) (λ (f : Field). added_head (setter_method f).name) (own_fields P c))

    pub copies_named : map full_name (duplicate_members P d) ≡ map (name_under (own_name c)) (copies c)
    copies_named =
        drop_map full_name (length d.methods - duplicates_count P d) (declared_in d d.methods)
        ∙ ap (drop (length d.methods - duplicates_count P d)) all_names
        ∙ ap (λ (n : ℕ). drop n (map (name_under (own_name c)) (olds ++ (accessors ++ copies c)))) place
        ∙ sym (drop_map (name_under (own_name c)) (length (olds ++ accessors)) (olds ++ (accessors ++ copies c)))
        ∙ ap (map (name_under (own_name c))) (ap (drop (length (olds ++ accessors))) (sym (grouped olds accessors (copies c))) ∙ drop_front (olds ++ accessors) (copies c))
      where
        place : length d.methods - duplicates_count P d ≡ length (olds ++ accessors)
        place = let a = long in let b = many_copies in let e = length-append olds accessors in omega (arith, a, b, e)

        grouped : (xs ys zs : List Head) → (xs ++ ys) ++ zs ≡ xs ++ (ys ++ zs)
        grouped [] ys zs = refl
        grouped (x ∷ xs) ys zs = ap (λ (l : List Head). x ∷ l) (grouped xs ys zs)

    pub accessors_named : map full_name (accessor_members P d) ≡ map (name_under (own_name c)) accessors
    accessors_named =
        take_map full_name (accessors_count P d) (drop (length d.methods - duplicates_count P d - accessors_count P d) (declared_in d d.methods))
        ∙ ap (take (accessors_count P d)) (drop_map full_name (length d.methods - duplicates_count P d - accessors_count P d) (declared_in d d.methods) ∙ ap (drop (length d.methods - duplicates_count P d - accessors_count P d)) all_names)
        ∙ ap (λ (n : ℕ). take n (drop (length d.methods - duplicates_count P d - accessors_count P d) (map (name_under (own_name c)) (olds ++ (accessors ++ copies c))))) many_accessors
        ∙ ap (λ (n : ℕ). take (length accessors) (drop n (map (name_under (own_name c)) (olds ++ (accessors ++ copies c))))) place
        ∙ ap (take (length accessors)) (sym (drop_map (name_under (own_name c)) (length olds) (olds ++ (accessors ++ copies c))) ∙ ap (map (name_under (own_name c))) (drop_front olds (accessors ++ copies c)))
        ∙ sym (take_map (name_under (own_name c)) (length accessors) (accessors ++ copies c))
        ∙ ap (map (name_under (own_name c))) (take_front accessors (copies c))
      where
        place : length d.methods - duplicates_count P d - accessors_count P d ≡ length olds
        place = let a = long in let b = many_copies in let e = many_accessors in omega (arith, a, b, e)

  -- ---- of all classes

  abbrev All : List ClassFile → List ClassFile → Type 0
  All cs ds = AllZip (Rewrites P) cs ds

  by_class : {A : Type 0} (f : ClassFile → List A) (g : ClassFile → List A) → ((c d : ClassFile) → Rewrites P c d → IsCounted c → f d ≡ g c) → (cs ds : List ClassFile) → All cs ds → AllByRecursion IsCounted cs → flat_map f ds ≡ flat_map g cs
  by_class f g each [] [] z k = refl
  by_class f g each [] (d ∷ ds) z k = absurd z
  by_class f g each (c ∷ cs) [] z k = absurd z
  by_class f g each (c ∷ cs) (d ∷ ds) z k = ap (λ (l : List _). l ++ flat_map f ds) (each c d z.0 k.0) ∙ ap (λ (l : List _). g c ++ l) (by_class f g each cs ds z.1 k.1)

  module _ (cs ds : List ClassFile) (z : All cs ds) (k : AllByRecursion IsCounted cs) where
    pub all_olds : map full_name (flat_map (old_members P) ds) ≡ map full_name (flat_map (old_members P) cs)
    all_olds =
        map_flat full_name (old_members P) ds ∙ by_class (λ d. map full_name (old_members P d)) (λ c. map full_name (old_members P c)) olds_stay cs ds z k ∙ sym (map_flat full_name (old_members P) cs)

    pub all_accessors_named : map full_name (flat_map (accessor_members P) ds) ≡ flat_map (λ c. map (name_under (own_name c)) (accessor_heads (own_fields P c))) cs
    all_accessors_named =
        map_flat full_name (accessor_members P) ds ∙ by_class (λ d. map full_name (accessor_members P d)) (λ c. map (name_under (own_name c)) (accessor_heads (own_fields P c))) accessors_named cs ds z k

    pub all_copies_named : map full_name (flat_map (duplicate_members P) ds) ≡ flat_map (λ c. map (name_under (own_name c)) (copies c)) cs
    all_copies_named =
        map_flat full_name (duplicate_members P) ds ∙ by_class (λ d. map full_name (duplicate_members P d)) (λ c. map (name_under (own_name c)) (copies c)) copies_named cs ds z k
