-- The ways upward among rewritten classes are those among their originals.
use Rattle.std.proofs.Common.{◌≡◌, ℕ, zero, suc, List, [], ◌∷◌, ◌++◌, length, Option, Some, None, Bool, true, false, refl, sym, ap, ◌∙◌, subst, arith, length-append}
use Rattle.std.specs.Prelude.{bytes_eq}
use Rattle.std.specs.List.{AllByRecursion, AllZip, flat_map}
use Rattle.std.specs.Option.{option_or}
use Rattle.std.proofs.lemmas.Slice.Eq.{bytes_eq-Decides}
use Rattle.std.proofs.lemmas.List.Folds.{find-append}
use Rattle.jmodel.specs.format.ClassFile.{ClassFile}
use Rattle.objects.specs.linking.Members.{own_name}
use Rattle.objects.specs.linking.Superclasses.{class_named, super_name, with_above, upward, lineage}
use Rattle.objects.specs.semantics.Program.{Program}
use Rattle.objects.specs.linking.Resolution.{holds_of, interface_names, names_above, all_upward, ancestry, method_way}
use Rattle.objects.specs.laws.LinkingLaw.{IsUpward}
use Rattle.objects.specs.rewriting.Rewriting.{helper_class}
use Rattle.rewritten_names.specs.Heads.{Rewrites}
use Rattle.rewritten_names.proofs.Lists.{turned}

-- ---- lists, item by item

pub zip_append : {A B : Type 0} (R : A → B → Type 0) (xs : List A) (ys : List B) (us : List A) (vs : List B) → AllZip R xs ys → AllZip R us vs → AllZip R (xs ++ us) (ys ++ vs)
zip_append R [] [] us vs h k = k
zip_append R [] (y ∷ ys) us vs h k = absurd h
zip_append R (x ∷ xs) [] us vs h k = absurd h
zip_append R (x ∷ xs) (y ∷ ys) us vs h k = (h.0, zip_append R xs ys us vs h.1 k)

-- a name is not the helper's
abbrev pub IsOther : List ℕ → Type 0
IsOther name = bytes_eq helper_class name ≡ false

-- a class none of whose names is the helper's
pub record IsApart (c : ClassFile) : Type 0 where
  pub own : IsOther (own_name c)
  pub above : IsOther (super_name c)
  pub interfaces : AllByRecursion IsOther (interface_names c)

-- each original is apart, and keeps a rule beside
module _ (P : Program) (Rule : ClassFile → Type 0) (is_apart : (c : ClassFile) → Rule c → IsApart c) (cs ds : List ClassFile) (h : ClassFile) (R : AllZip (Rewrites P) cs ds) (rules : AllByRecursion Rule cs) (helper : own_name h ≡ helper_class) where
  abbrev all : List ClassFile
  all = ds ++ h ∷ []

  -- ---- classes by their names

  abbrev Both : Option ClassFile → Option ClassFile → Type 0
  Both None None = Unit {0}
  Both None (Some d) = ⊥
  Both (Some c) None = ⊥
  Both (Some c) (Some d) = Rewrites P c d × Rule c

  both_named : (name : List ℕ) (xs ys : List ClassFile) → AllZip (Rewrites P) xs ys → AllByRecursion Rule xs → Both (class_named xs name) (class_named ys name)
  both_named name [] [] z a = tt
  both_named name [] (y ∷ ys) z a = absurd z
  both_named name (x ∷ xs) [] z a = absurd z
  both_named name (x ∷ xs) (y ∷ ys) z a = go (bytes_eq (own_name x) name) refl (both_named name xs ys z.1 a.1)
    where
      go : (b : Bool) → bytes_eq (own_name x) name ≡ b → Both (class_named xs name) (class_named ys name) → Both (class_named (x ∷ xs) name) (class_named (y ∷ ys) name)
      go true e rest = let f : bytes_eq (own_name y) name ≡ true = ap (λ (t : List ℕ). bytes_eq t name) z.0.own ∙ e in rw (e, f) (z.0, a.0)
      go false e rest = let f : bytes_eq (own_name y) name ≡ false = ap (λ (t : List ℕ). bytes_eq t name) z.0.own ∙ e in rw (e, f) rest

  none_last : (o : Option ClassFile) → option_or o None ≡ o
  none_last None = refl
  none_last (Some c) = refl

  without_helper : (name : List ℕ) → IsOther name → class_named all name ≡ class_named ds name
  without_helper name other =
      let last : class_named (h ∷ []) name ≡ None = (let f : bytes_eq (own_name h) name ≡ false = ap (λ (t : List ℕ). bytes_eq t name) helper ∙ other in rw f refl) in
      find-append (λ c. bytes_eq (own_name c) name) ds (h ∷ []) ∙ ap (option_or (class_named ds name)) last ∙ none_last (class_named ds name)

  pub named : (name : List ℕ) → IsOther name → Both (class_named cs name) (class_named all name)
  named name other = subst (Both (class_named cs name)) (sym (without_helper name other)) (both_named name cs ds R rules)

  -- what is asked of a class's flags
  pub flags_kept : (p : ℕ → Bool) (name : List ℕ) → IsOther name → holds_of (λ (c : ClassFile). p c.flags) (class_named all name) ≡ holds_of (λ (c : ClassFile). p c.flags) (class_named cs name)
  flags_kept p name other = go (class_named cs name) (class_named all name) (named name other)
    where
      go : (o u : Option ClassFile) → Both o u → holds_of (λ (c : ClassFile). p c.flags) u ≡ holds_of (λ (c : ClassFile). p c.flags) o
      go None None b = refl
      go None (Some d) b = absurd b
      go (Some c) None b = absurd b
      go (Some c) (Some d) b = ap p b.0.flags

  -- the helper's class
  pub helper_named : class_named all helper_class ≡ Some h
  helper_named =
      find-append (λ c. bytes_eq (own_name c) helper_class) ds (h ∷ [])
      ∙ ap (λ (o : Option ClassFile). option_or o (class_named (h ∷ []) helper_class)) (none cs ds R rules)
      ∙ (let f : bytes_eq (own_name h) helper_class ≡ true = (bytes_eq-Decides (own_name h) helper_class).1 helper in rw f refl)
    where
      none : (xs ys : List ClassFile) → AllZip (Rewrites P) xs ys → AllByRecursion Rule xs → class_named ys helper_class ≡ None
      none [] [] z a = refl
      none [] (y ∷ ys) z a = absurd z
      none (x ∷ xs) [] z a = absurd z
      none (x ∷ xs) (y ∷ ys) z a = let f = turned helper_class (own_name y) (ap (bytes_eq helper_class) z.0.own ∙ (is_apart x a.0).own) in rw f (none xs ys z.1 a.1)

  -- ---- superclasses

  abbrev pub Pairs : List ClassFile → List ClassFile → Type 0
  Pairs xs ys = AllZip (λ c d. Rewrites P c d × Rule c) xs ys

  both_upward : (n : ℕ) (name : List ℕ) → IsOther name → Pairs (upward cs n name) (upward all n name)
  both_upward zero name other = tt
  both_upward (suc n) name other = go (class_named cs name) (class_named all name) (named name other) (λ above o. both_upward n above o)
    where
      go : (o u : Option ClassFile) → Both o u → ((above : List ℕ) → IsOther above → Pairs (upward cs n above) (upward all n above))
          → Pairs (with_above (λ c. upward cs n (super_name c)) o) (with_above (λ c. upward all n (super_name c)) u)
      go None None b rest = tt
      go None (Some d) b rest = absurd b
      go (Some c) None b rest = absurd b
      go (Some c) (Some d) b rest = (b, subst (λ (t : List ℕ). Pairs (upward cs n (super_name c)) (upward all n t)) (sym b.0.above) (rest (super_name c) (is_apart c b.1).above))

  -- ---- superclasses and interfaces

  abbrev AreOther : List (List ℕ) → Type 0
  AreOther names = AllByRecursion IsOther names

  both_flat : (f g : List ℕ → List ClassFile) (names : List (List ℕ)) → AreOther names → ((name : List ℕ) → IsOther name → Pairs (f name) (g name)) → Pairs (flat_map f names) (flat_map g names)
  both_flat f g [] others each = tt
  both_flat f g (n ∷ ns) others each = zip_append (λ c d. Rewrites P c d × Rule c) (f n) (g n) (flat_map f ns) (flat_map g ns) (each n others.0) (both_flat f g ns others.1 each)

  others_append : (xs ys : List (List ℕ)) → AreOther xs → AreOther ys → AreOther (xs ++ ys)
  others_append [] ys h k = k
  others_append (x ∷ xs) ys h k = (h.0, others_append xs ys h.1 k)

  above_other : (c : ClassFile) → IsApart c → AreOther (names_above c)
  above_other c a = others_append (interface_names c) (super_name c ∷ []) a.interfaces (a.above, tt)

  same_above : (c d : ClassFile) → Rewrites P c d → names_above d ≡ names_above c
  same_above c d r = ap (λ (l : List (List ℕ)). l ++ super_name d ∷ []) r.interfaces ∙ ap (λ (t : List ℕ). interface_names c ++ t ∷ []) r.above

  both_all : (n : ℕ) (name : List ℕ) → IsOther name → Pairs (all_upward cs n name) (all_upward all n name)
  both_all zero name other = tt
  both_all (suc n) name other = go (class_named cs name) (class_named all name) (named name other) (λ above o. both_all n above o)
    where
      go : (o u : Option ClassFile) → Both o u → ((above : List ℕ) → IsOther above → Pairs (all_upward cs n above) (all_upward all n above))
          → Pairs (with_above (λ c. flat_map (all_upward cs n) (names_above c)) o) (with_above (λ c. flat_map (all_upward all n) (names_above c)) u)
      go None None b rest = tt
      go None (Some d) b rest = absurd b
      go (Some c) None b rest = absurd b
      go (Some c) (Some d) b rest = (
        b,
        subst (λ (l : List (List ℕ)). Pairs (flat_map (all_upward cs n) (names_above c)) (flat_map (all_upward all n) l)) (sym (same_above c d b.0))
            (both_flat (all_upward cs n) (all_upward all n) (names_above c) (above_other c (is_apart c b.1)) rest),
      )

  -- ---- whole ways

  pub many : length all ≡ suc (length cs)
  many = let e = length-append ds (h ∷ []) in let z = zipped cs ds R in omega (arith, e, z)
    where
      zipped : (xs ys : List ClassFile) → AllZip (Rewrites P) xs ys → length ys ≡ length xs
      zipped [] [] z = refl
      zipped [] (y ∷ ys) z = absurd z
      zipped (x ∷ xs) [] z = absurd z
      zipped (x ∷ xs) (y ∷ ys) z = let e = zipped xs ys z.1 in omega (arith, e)

  module _ (up : IsUpward cs) where
    pub lineages : (name : List ℕ) → IsOther name → Pairs (lineage cs name) (lineage all name)
    lineages name other =
        subst (λ (l : List ClassFile). Pairs l (lineage all name)) (sym (up.supers name))
        (subst (λ (n : ℕ). Pairs (with_above (λ c. lineage cs (super_name c)) (class_named cs name)) (upward all n name)) (sym many) (both_upward (suc (length cs)) name other))

    pub ancestries : (name : List ℕ) → IsOther name → Pairs (ancestry cs name) (ancestry all name)
    ancestries name other =
        subst (λ (l : List ClassFile). Pairs l (ancestry all name)) (sym (up.all name))
        (subst (λ (n : ℕ). Pairs (with_above (λ c. flat_map (ancestry cs) (names_above c)) (class_named cs name)) (all_upward all n name)) (sym many) (both_all (suc (length cs)) name other))

    -- the interfaces of each class of a way
    both_interfaces : (xs ys : List ClassFile) → Pairs xs ys → Pairs (flat_map (λ c. flat_map (ancestry cs) (interface_names c)) xs) (flat_map (λ c. flat_map (ancestry all) (interface_names c)) ys)
    both_interfaces [] [] z = tt
    both_interfaces [] (y ∷ ys) z = absurd z
    both_interfaces (x ∷ xs) [] z = absurd z
    both_interfaces (x ∷ xs) (y ∷ ys) z =
        zip_append (λ c d. Rewrites P c d × Rule c) (flat_map (ancestry cs) (interface_names x)) (flat_map (ancestry all) (interface_names y)) _ _
        (subst (λ (l : List (List ℕ)). Pairs (flat_map (ancestry cs) (interface_names x)) (flat_map (ancestry all) l)) (sym z.0.0.interfaces)
        (both_flat (ancestry cs) (ancestry all) (interface_names x) (is_apart x z.0.1).interfaces ancestries))
        (both_interfaces xs ys z.1)

    pub method_ways : (name : List ℕ) → IsOther name → Pairs (method_way cs name) (method_way all name)
    method_ways name other =
        zip_append (λ c d. Rewrites P c d × Rule c) (lineage cs name) (lineage all name) _ _ (lineages name other) (both_interfaces (lineage cs name) (lineage all name) (lineages name other))
