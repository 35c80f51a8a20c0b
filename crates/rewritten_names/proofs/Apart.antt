-- No two fields of a linked program have one class and one name.
use Rattle.std.proofs.Common.{◌≡◌, ℕ, suc, List, [], ◌∷◌, ◌++◌, length, map, None, Bool, true, false, not, ◌&&◌, refl, sym, ap, ◌∙◌, subst}
use Rattle.std.specs.Prelude.{bytes_eq, if◌then◌else◌, option_map, codes, pos}
use Rattle.std.specs.List.{AllByRecursion, list_any}
use Rattle.std.proofs.lemmas.Slice.Eq.{bytes_eq-Decides}
use Rattle.jmodel.specs.declared.refusal.Refusal.TheVariants.{Construct}
use Rattle.jmodel.specs.format.ClassFile.{Member, ClassFile}
use Rattle.objects.specs.linking.Members.{is_static, are_distinct, field_name_of, own_name}
use Rattle.jmodel.specs.format.Pool.{text_or_none, utf8}
use Rattle.objects.specs.linking.Superclasses.{super_name}
use Rattle.objects.specs.semantics.Program.{Field, Program}
use Rattle.objects.specs.linking.Constructs.{is_floating, first_kind}
use Rattle.objects.specs.linking.ClassesFaults.{has_interface_init, has_twin_fields, member_fault}
use Rattle.objects.specs.linking.Resolution.{is_interface}
use Rattle.objects.specs.linking.Layout.{field_type, words_upward, field_record, if_not, fields_behind, class_fields, fields_from}
use Rattle.objects.specs.laws.LinkingLaw.{AreRead}
use Rattle.objects.proofs.ClassTypes.{each_none}
use Rattle.objects.proofs.Links.{IsLinkedTo}
use Rattle.rewritten_names.proofs.Blocks.{AreOthers, Differ}
use Rattle.rewritten_names.proofs.Ordinary.{distinct}
use Rattle.rewritten_names.proofs.Lists.{all_both, either_false}

-- ---- fields that differ

abbrev pub IsOtherField : Field → Field → Type 0
IsOtherField f g = g.class ≡ f.class → g.name ≡ f.name → ⊥

abbrev pub AreApart : List Field → Type 0
AreApart [] = Unit {0}
AreApart (f ∷ fs) = AllByRecursion (IsOtherField f) fs × AreApart fs

each_of : {A : Type 0} (Given Rule : A → Type 0) → ((x : A) → Given x → Rule x) → (xs : List A) → AllByRecursion Given xs → AllByRecursion Rule xs
each_of Given Rule h [] all = tt
each_of Given Rule h (x ∷ xs) all = (h x all.0, each_of Given Rule h xs all.1)

apart_append : (xs ys : List Field) → AreApart xs → AreApart ys → AllByRecursion (λ f. AllByRecursion (IsOtherField f) ys) xs → AreApart (xs ++ ys)
apart_append [] ys a b c = b
apart_append (x ∷ xs) ys a b c = (all_both (IsOtherField x) xs ys a.0 c.0, apart_append xs ys a.1 b c.1)

-- ---- of one class

no_kind : (a b : Bool) (x y : List ℕ) (name : List ℕ) → option_map (λ kind. Construct kind name (pos 0)) (first_kind ((x, a) ∷ (y, b) ∷ [])) ≡ None → b ≡ false
no_kind true b x y name e = cc
no_kind false true x y name e = cc
no_kind false false x y name e = refl

turned : (b : Bool) → not b ≡ false → b ≡ true
turned true e = refl
turned false e = cc

split : (a b : Bool) → (not a && b) ≡ true → (a ≡ false) × (b ≡ true)
split true b e = cc
split false b e = (refl, e)

module _ (cs : List ClassFile) (n : ℕ) (c : ClassFile) where
  abbrev IsNot : List ℕ → Field → Type 0
  IsNot text g = g.name ≡ text → ⊥

  behind_not : (text : List ℕ) (s w : ℕ) (ms : List Member) → list_any (bytes_eq text) (map (field_name_of c.pool) ms) ≡ false → AllByRecursion (IsNot text) (fields_behind cs n c s w ms)
  behind_not text s w [] e = tt
  behind_not text s w (m ∷ ms) e =
      let a = either_false (bytes_eq text (field_name_of c.pool m)) (list_any (bytes_eq text) (map (field_name_of c.pool) ms)) e in
      go (is_static m) (is_floating (field_type c.pool m)) (λ same. let fall : true ≡ false = sym ((bytes_eq-Decides text (field_name_of c.pool m)).1 (sym same)) ∙ a.0 in cc) (behind_not text (suc s) w ms a.1) (behind_not text s (suc w) ms a.1)
    where
      go : (a b : Bool) → (text_or_none (utf8 c.pool m.name) ≡ text → ⊥) → AllByRecursion (IsNot text) (fields_behind cs n c (suc s) w ms) → AllByRecursion (IsNot text) (fields_behind cs n c s (suc w) ms)
          → AllByRecursion (IsNot text) (if a then if_not b (field_record cs n c m s) (fields_behind cs n c (suc s) w ms) else if_not b (field_record cs n c m w) (fields_behind cs n c s (suc w) ms))
      go true true h first second = first
      go true false h first second = (h, first)
      go false true h first second = second
      go false false h first second = (h, second)

  behind_apart : (s w : ℕ) (ms : List Member) → are_distinct (map (field_name_of c.pool) ms) ≡ true → AreApart (fields_behind cs n c s w ms)
  behind_apart s w [] e = tt
  behind_apart s w (m ∷ ms) e =
      let a = split (list_any (bytes_eq (field_name_of c.pool m)) (map (field_name_of c.pool) ms)) (are_distinct (map (field_name_of c.pool) ms)) e in
      go (is_static m) (is_floating (field_type c.pool m)) a.0 (behind_apart (suc s) w ms a.1) (behind_apart s (suc w) ms a.1)
    where
      others : (s w : ℕ) (f : Field) → f.name ≡ field_name_of c.pool m → list_any (bytes_eq (field_name_of c.pool m)) (map (field_name_of c.pool) ms) ≡ false → AllByRecursion (IsOtherField f) (fields_behind cs n c s w ms)
      others s w f same none = each_of (IsNot (field_name_of c.pool m)) (IsOtherField f) (λ g h class name. h (name ∙ same)) (fields_behind cs n c s w ms) (behind_not (field_name_of c.pool m) s w ms none)

      go : (a b : Bool) → list_any (bytes_eq (field_name_of c.pool m)) (map (field_name_of c.pool) ms) ≡ false → AreApart (fields_behind cs n c (suc s) w ms) → AreApart (fields_behind cs n c s (suc w) ms)
          → AreApart (if a then if_not b (field_record cs n c m s) (fields_behind cs n c (suc s) w ms) else if_not b (field_record cs n c m w) (fields_behind cs n c s (suc w) ms))
      go true true none first second = first
      go true false none first second = (others (suc s) w (field_record cs n c m s) refl none, first)
      go false true none first second = second
      go false false none first second = (others s (suc w) (field_record cs n c m w) refl none, second)

  class_apart : are_distinct (map (field_name_of c.pool) c.fields) ≡ true → AreApart (class_fields cs n c)
  class_apart e = go (is_interface c)
    where
      go : (b : Bool) → AreApart (if b then [] else fields_behind cs n c 0 (length (words_upward cs (super_name c))) c.fields)
      go true = tt
      go false = behind_apart 0 (length (words_upward cs (super_name c))) c.fields e

  -- the class of each field of the class
  behind_class : (s w : ℕ) (ms : List Member) → AllByRecursion (λ (f : Field). f.class ≡ own_name c) (fields_behind cs n c s w ms)
  behind_class s w [] = tt
  behind_class s w (m ∷ ms) = go (is_static m) (is_floating (field_type c.pool m)) (behind_class (suc s) w ms) (behind_class s (suc w) ms)
    where
      go : (a b : Bool) → AllByRecursion (λ (f : Field). f.class ≡ own_name c) (fields_behind cs n c (suc s) w ms) → AllByRecursion (λ (f : Field). f.class ≡ own_name c) (fields_behind cs n c s (suc w) ms)
          → AllByRecursion (λ (f : Field). f.class ≡ own_name c) (if a then if_not b (field_record cs n c m s) (fields_behind cs n c (suc s) w ms) else if_not b (field_record cs n c m w) (fields_behind cs n c s (suc w) ms))
      go true true first second = first
      go true false first second = (refl, first)
      go false true first second = second
      go false false first second = (refl, second)

  pub fields_class : AllByRecursion (λ (f : Field). f.class ≡ own_name c) (class_fields cs n c)
  fields_class = go (is_interface c)
    where
      go : (b : Bool) → AllByRecursion (λ (f : Field). f.class ≡ own_name c) (if b then [] else fields_behind cs n c 0 (length (words_upward cs (super_name c))) c.fields)
      go true = tt
      go false = behind_class 0 (length (words_upward cs (super_name c))) c.fields

-- ---- of several classes

module _ (cs : List ClassFile) where
  later_class : (name : List ℕ) (n : ℕ) (ds : List ClassFile) → AreOthers name ds → AllByRecursion (λ (f : Field). bytes_eq f.class name ≡ false) (fields_from cs n ds)
  later_class name n [] o = tt
  later_class name n (d ∷ ds) o =
      all_both (λ (f : Field). bytes_eq f.class name ≡ false) (class_fields cs n d) (fields_from cs (suc n) ds)
      (each_of (λ (f : Field). f.class ≡ own_name d) (λ (f : Field). bytes_eq f.class name ≡ false) (λ f e. ap (λ (t : List ℕ). bytes_eq t name) e ∙ o.0) (class_fields cs n d) (fields_class cs n d))
      (later_class name (suc n) ds o.1)

  from_apart : (n : ℕ) (ds : List ClassFile) → Differ ds → AllByRecursion (λ d. member_fault d ≡ None) ds → AreApart (fields_from cs n ds)
  from_apart n [] d all = tt
  from_apart n (c ∷ ds) d all =
      apart_append (class_fields cs n c) (fields_from cs (suc n) ds)
      (class_apart cs n c (turned (are_distinct (map (field_name_of c.pool) c.fields)) (no_kind (has_interface_init c) (has_twin_fields c) (codes "InterfaceInit") (codes "TwinField") (own_name c) all.0)))
      (from_apart (suc n) ds d.1 all.1)
      (each_of (λ (f : Field). f.class ≡ own_name c) (λ f. AllByRecursion (IsOtherField f) (fields_from cs (suc n) ds)) crossed (class_fields cs n c) (fields_class cs n c))
    where
      crossed : (f : Field) → f.class ≡ own_name c → AllByRecursion (IsOtherField f) (fields_from cs (suc n) ds)
      crossed f e =
          each_of (λ (g : Field). bytes_eq g.class (own_name c) ≡ false) (IsOtherField f)
          (λ g no class name. let fall : true ≡ false = sym ((bytes_eq-Decides g.class (own_name c)).1 (class ∙ e)) ∙ no in cc) (fields_from cs (suc n) ds) (later_class (own_name c) (suc n) ds d.0)

-- The fields of the program of linked classes differ.
pub fields_apart : (cs : List ClassFile) (P : Program) → AreRead cs → IsLinkedTo cs P → AreApart P.fields
fields_apart cs P read l =
    subst AreApart (sym (ap (λ (P : Program). P.fields) l.is)) (from_apart cs 0 cs (distinct cs P read l) (each_none member_fault cs l.members))
