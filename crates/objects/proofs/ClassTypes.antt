-- The rows of a folder's classes, in a program that has them behind the library's, keep the rules of types.
use Rattle.std.proofs.Common.{◌≡◌, ◌≢◌, ℕ, zero, suc, List, [], ◌∷◌, ◌++◌, length, map, Option, Some, None, Bool, true, false, not, refl, sym, ap, subst, ◌∙◌, inl, inr}
use Rattle.std.specs.Prelude.{slice_get, find, filter, cond, bytes_eq, ◌&&◌, ◌||◌, ◌==◌, reverse, is_some, codes, if◌then◌else◌}
use Rattle.std.specs.List.{AllByRecursion, list_any, flat_map}
use Rattle.std.specs.Option.{option_or}
use Rattle.std.proofs.lemmas.Slice.Eq.{bytes_eq-Decides}
use Rattle.jmodel.specs.format.ClassFile.{ClassFile}
use Rattle.jmodel.specs.declared.refusal.Refusal.{Refusal}
use Rattle.jmodel.specs.declared.refusal.Refusal.TheVariants.{UnknownClass, BadSuper}
use Rattle.objects.specs.linking.Library.{library as library_names}
use Rattle.objects.specs.linking.Members.{own_name}
use Rattle.objects.specs.linking.Superclasses.{class_named, super_name, with_above, lineage}
use Rattle.objects.specs.linking.Faults.{first_fault}
use Rattle.objects.specs.linking.Classes.{doubled_class, is_before}
use Rattle.jmodel.specs.declared.typing.VType.TheVariants as type
use Rattle.objects.specs.semantics.Program.{Declared, Words, Row, Field, Method, Program, row_at, is_instance, is_instance_in}
use Rattle.objects.specs.linking.LibraryClasses.{library_rows}
use Rattle.objects.specs.linking.LibraryMethods.{is_library}
use Rattle.objects.specs.typing.TypeOrder.{object_class, is_array, is_class_name, IsWithin, is_within, class_read, name_read, read_in, above_in, classes_from, is_class_above}
use Rattle.jmodel.specs.format.Descriptor.{is_array_name}
use Rattle.objects.specs.linking.Resolution.{is_interface, holds_of, is_in_folder, names_interface, is_known, interface_names, names_above, all_upward, ancestry}
use Rattle.objects.specs.linking.ClassesFaults.{has_subclasses, may_be_super, superclass_fault, interface_fault, super_fault, supers_fault}
use Rattle.objects.specs.laws.LinkingLaw.{IsUpward}
use Rattle.objects.specs.typing.Source.{IsClass, IsUnder}
use Rattle.std.proofs.lemmas.Grind.{reverse_onto, flat_map-append}
use Rattle.std.proofs.lemmas.List.{append-nil}
use Rattle.objects.specs.linking.Layout.{nameless, class_row, class_instances, with_text, in_text_order, names_upward, words_upward, own_words, library_lineage, lineage_of, above_last}
use Rattle.objects.proofs.LibraryRows.{IsRow, IsReadIn, class_row as class_row_of}
use Rattle.objects.proofs.ClassRows.{find_front, find_back, found_at, found_passes, swapped, absent, new_names, found_by_name, is_row, find_row, find_none}

-- ---- faults

pub no_first : (a b : Option Refusal) → option_or a b ≡ None → (a ≡ None) × (b ≡ None)
no_first None b e = (refl, e)
no_first (Some r) b e = cc

none_at : {A : Type 0} (fault : A → Option Refusal) (xs : List A) → first_fault fault xs ≡ None → (i : ℕ) (x : A) → slice_get xs i ≡ Some x → fault x ≡ None
none_at fault [] e i x h = cc
none_at fault (y ∷ ys) e zero x h = let s : y ≡ x = cc in subst (λ x. fault x ≡ None) s (no_first (fault y) (first_fault fault ys) e).0
none_at fault (y ∷ ys) e (suc i) x h = none_at fault ys (no_first (fault y) (first_fault fault ys) e).1 i x h

-- ---- the library

any_found : (n : List ℕ) (rs : List Row) → list_any (bytes_eq n) (map (λ (r : Row). r.name) rs) ≡ true → (r : Row) × (find (is_row n) rs ≡ Some r)
any_found n [] e = cc
any_found n (r ∷ rs) e = go (bytes_eq r.name n) (bytes_eq n r.name) (swapped r.name n) e (any_found n rs)
  where
    go : (a b : Bool) → a ≡ b → (b || list_any (bytes_eq n) (map (λ (r : Row). r.name) rs)) ≡ true
        → (list_any (bytes_eq n) (map (λ (r : Row). r.name) rs) ≡ true → (r : Row) × (find (is_row n) rs ≡ Some r)) → (q : Row) × (cond a (Some r) (find (is_row n) rs) ≡ Some q)
    go true b s e rest = (r, refl)
    go false true s e rest = cc
    go false false s e rest = rest e

-- what holds of each item holds of the one that is found
found_has : {A : Type 0} (p : A → Bool) (Rule : A → Type 0) (xs : List A) (x : A) → find p xs ≡ Some x → AllByRecursion Rule xs → Rule x
found_has p Rule [] x e all = cc
found_has p Rule (y ∷ ys) x e all = go (p y) e (found_has p Rule ys x)
  where
    go : (b : Bool) → cond b (Some y) (find p ys) ≡ Some x → (find p ys ≡ Some x → AllByRecursion Rule ys → Rule x) → Rule x
    go true e rest = let s : y ≡ x = cc in subst Rule s all.0
    go false e rest = rest e all.1

abbrev IsEmpty : Row → Type 0
IsEmpty r = r.holds ≡ Words []

library_empty : AllByRecursion IsEmpty library_rows
library_empty = (refl, (refl, (refl, (refl, (refl, (refl, (refl, (refl, (refl, (refl, (refl, (refl, (refl, (refl, (refl, (refl, (refl, (refl, (refl, (refl, tt))))))))))))))))))))

-- a class of the library by its name
pub record IsOfLibrary (n : List ℕ) : Type 0 where
  pub row : Row
  pub place : ℕ
  pub found : find (is_row n) library_rows ≡ Some row
  pub there : slice_get library_rows place ≡ Some row
  pub lineage : row.lineage ≡ library_lineage n
  pub empty : row.holds ≡ Words []

pub of_library : (n : List ℕ) → is_library n ≡ true → IsOfLibrary n
of_library n e =
    let f = any_found n library_rows e in
    let at = found_at (is_row n) library_rows f.0 f.1 in
    record { row = f.0; place = at.0; found = f.1; there = at.1; lineage = ap lineage_of (sym f.1); empty = found_has (is_row n) IsEmpty library_rows f.0 f.1 library_empty }

-- ---- what holds of each item

all_append : {A : Type 0} (Rule : A → Type 0) (xs ys : List A) → AllByRecursion Rule xs → AllByRecursion Rule ys → AllByRecursion Rule (xs ++ ys)
all_append Rule [] ys all more = more
all_append Rule (x ∷ xs) ys all more = (all.0, all_append Rule xs ys all.1 more)

all_flat : {A B : Type 0} (f : A → List B) (Given : A → Type 0) (Rule : B → Type 0) → ((x : A) → Given x → AllByRecursion Rule (f x)) → (xs : List A) → AllByRecursion Given xs → AllByRecursion Rule (flat_map f xs)
all_flat f Given Rule each [] all = tt
all_flat f Given Rule each (x ∷ xs) all = all_append Rule (f x) (flat_map f xs) (each x all.0) (all_flat f Given Rule each xs all.1)

all_filter : {A : Type 0} (p : A → Bool) (Given Rule : A → Type 0) → ((x : A) → p x ≡ true → Given x → Rule x) → (xs : List A) → AllByRecursion Given xs → AllByRecursion Rule (filter p xs)
all_filter p Given Rule each [] all = tt
all_filter p Given Rule each (x ∷ xs) all = go (p x) refl (all_filter p Given Rule each xs all.1)
  where
    go : (b : Bool) → p x ≡ b → AllByRecursion Rule (filter p xs) → AllByRecursion Rule (cond b (x ∷ filter p xs) (filter p xs))
    go true is rest = (each x is all.0, rest)
    go false is rest = rest

-- what holds of each of some texts holds of each of them in their order
all_with : (Rule : List ℕ → Type 0) (t : List ℕ) (us : List (List ℕ)) → Rule t → AllByRecursion Rule us → AllByRecursion Rule (with_text t us)
all_with Rule t [] one all = (one, tt)
all_with Rule t (u ∷ us) one all = go (bytes_eq t u) (is_before u t) (all_with Rule t us one all.1)
  where
    go : (b c : Bool) → AllByRecursion Rule (with_text t us) → AllByRecursion Rule (if b then u ∷ us else (if c then u ∷ with_text t us else t ∷ u ∷ us))
    go true c rest = all
    go false true rest = (all.0, rest)
    go false false rest = (one, all)

all_in_order : (Rule : List ℕ → Type 0) (ts : List (List ℕ)) → AllByRecursion Rule ts → AllByRecursion Rule (in_text_order ts)
all_in_order Rule [] all = tt
all_in_order Rule (t ∷ ts) all = all_with Rule t (in_text_order ts) all.0 (all_in_order Rule ts all.1)

pub all_map : {A : Type 0} (Given Rule : A → Type 0) → ((x : A) → Given x → Rule x) → (xs : List A) → AllByRecursion Given xs → AllByRecursion Rule xs
all_map Given Rule each [] all = tt
all_map Given Rule each (x ∷ xs) all = (each x all.0, all_map Given Rule each xs all.1)

pub each_none : {A : Type 0} (fault : A → Option Refusal) (xs : List A) → first_fault fault xs ≡ None → AllByRecursion (λ x. fault x ≡ None) xs
each_none fault [] e = tt
each_none fault (x ∷ xs) e = let a = no_first (fault x) (first_fault fault xs) e in (a.0, each_none fault xs a.1)

abbrev IsIn : List (List ℕ) → List ℕ → Type 0
IsIn l n = list_any (bytes_eq n) l ≡ true

or_right : (a b : Bool) → b ≡ true → (a || b) ≡ true
or_right true b e = refl
or_right false b e = e

-- each item is one of its list
each_in : (xs : List (List ℕ)) → AllByRecursion (IsIn xs) xs
each_in [] = tt
each_in (x ∷ xs) =
    let own : bytes_eq x x ≡ true = (bytes_eq-Decides x x).1 refl in
    (ap (λ b. b || list_any (bytes_eq x) xs) own, all_map (IsIn xs) (IsIn (x ∷ xs)) (λ n e. or_right (bytes_eq n x) (list_any (bytes_eq n) xs) e) xs (each_in xs))

any_back : (n : List ℕ) (xs ys : List (List ℕ)) → list_any (bytes_eq n) ys ≡ true → list_any (bytes_eq n) (xs ++ ys) ≡ true
any_back n [] ys e = e
any_back n (x ∷ xs) ys e = or_right (bytes_eq n x) (list_any (bytes_eq n) (xs ++ ys)) (any_back n xs ys e)

no_array : (n : List ℕ) → is_class_name n ≡ true → is_array n ≡ false
no_array [] e = refl
no_array (c ∷ cs) e = go (c == 91) e
  where
    go : (b : Bool) → not b ≡ true → b ≡ false
    go true e = cc
    go false e = refl

no_names : (n : List ℕ) (ns : List (List ℕ)) → n ∷ ns ≡ [] → ⊥
no_names n ns e = cc

-- those of the library are classes
library_classes : AllByRecursion (λ (r : Row). r.lineage ≢ []) library_rows
library_classes = (λ e. cc, (λ e. cc, (λ e. cc, (λ e. cc, (λ e. cc, (λ e. cc, (λ e. cc, (λ e. cc, (λ e. cc, (λ e. cc, (λ e. cc, (λ e. cc, (λ e. cc, (λ e. cc, (λ e. cc, (λ e. cc, (λ e. cc, (λ e. cc, (λ e. cc, (λ e. cc, tt))))))))))))))))))))

-- ---- a folder

module _ (cs : List ClassFile) (fine : supers_fault cs ≡ None) (new : doubled_class cs ≡ None) where
  -- no class of the folder has a name of the library
  pub new_to_library : (i : ℕ) (c : ClassFile) → slice_get cs i ≡ Some c → is_library (own_name c) ≡ false
  new_to_library i c h = new_names library_names cs new i c h

  library_not_here : (n : List ℕ) → is_library n ≡ true → class_named cs n ≡ None
  library_not_here n e = go (class_named cs n) refl
    where
      go : (o : Option ClassFile) → class_named cs n ≡ o → o ≡ None
      go None f = refl
      go (Some c) f =
          let at = found_at (λ c. bytes_eq (own_name c) n) cs c f in
          let own : own_name c ≡ n = (bytes_eq-Decides (own_name c) n).0 (found_passes (λ c. bytes_eq (own_name c) n) cs c f) in
          let fall : true ≡ false = sym e ∙ ap is_library (sym own) ∙ new_to_library at.0 c at.1 in
          cc

  -- what stands right above a class that isn't an interface
  pub data IsAbove (n : List ℕ) : Type 0 where
    here : (d : ClassFile) (found : class_named cs n ≡ Some d) (plain : is_interface d ≡ false) → IsAbove n
    library_class : (none : class_named cs n ≡ None) (is : is_library n ≡ true) → IsAbove n

  or_false : (a b : Bool) → (a || b) ≡ false → (a ≡ false) × (b ≡ false)
  or_false true b e = cc
  or_false false b e = (refl, e)

  not_true : (a : Bool) → not a ≡ true → a ≡ false
  not_true true e = cc
  not_true false e = refl

  pub above : (i : ℕ) (c : ClassFile) → slice_get cs i ≡ Some c → IsAbove (super_name c)
  above i c h = top (bytes_eq (super_name c) (codes "java/lang/Object")) refl (superclass_fine)
    where
      superclass_fine : superclass_fault cs c ≡ None
      superclass_fine = (no_first (superclass_fault cs c) (first_fault (interface_fault cs (own_name c)) (interface_names c)) (none_at (super_fault cs) cs (no_first (first_fault (super_fault cs) cs) _ fine).0 i c h)).0

      fit : (b : Bool) → (is_interface c || not (may_be_super cs (super_name c))) ≡ b → (if b then Some (BadSuper (own_name c) (super_name c)) else None) ≡ None → is_known cs (super_name c) ≡ true → IsAbove (super_name c)
      fit true is e known = cc
      fit false is e known = by (class_named cs (super_name c)) refl
        where
          allowed : may_be_super cs (super_name c) ≡ true
          allowed = go (may_be_super cs (super_name c)) (or_false (is_interface c) (not (may_be_super cs (super_name c))) is).1
            where
              go : (b : Bool) → not b ≡ false → b ≡ true
              go true e = refl
              go false e = cc

          by : (o : Option ClassFile) → class_named cs (super_name c) ≡ o → IsAbove (super_name c)
          by None f = library_class f (sym (ap (λ (o : Option ClassFile). is_some o || is_library (super_name c)) f) ∙ known)
          by (Some d) f = here d f (or_false (is_interface d) _ (not_true _ (sym (ap (has_subclasses (super_name c)) f) ∙ allowed))).0

      known : (b : Bool) → is_known cs (super_name c) ≡ b
          → (if not b then Some (UnknownClass (super_name c)) else (if is_interface c || not (may_be_super cs (super_name c)) then Some (BadSuper (own_name c) (super_name c)) else None)) ≡ None → IsAbove (super_name c)
      known true is e = fit (is_interface c || not (may_be_super cs (super_name c))) refl e is
      known false is e = cc

      top : (b : Bool) → bytes_eq (super_name c) (codes "java/lang/Object") ≡ b
          → (if b then None else (if not (is_known cs (super_name c)) then Some (UnknownClass (super_name c)) else (if is_interface c || not (may_be_super cs (super_name c)) then Some (BadSuper (own_name c) (super_name c)) else None))) ≡ None → IsAbove (super_name c)
      top true is e =
          let same : super_name c ≡ codes "java/lang/Object" = (bytes_eq-Decides (super_name c) (codes "java/lang/Object")).0 is in
          let lib : is_library (super_name c) ≡ true = ap is_library same in
          library_class (library_not_here (super_name c) lib) lib
      top false is e = known (is_known cs (super_name c)) refl e

  -- ---- the program's types

  module _ (rest : List Row) (others : AllByRecursion (λ (r : Row). is_class_name r.name ≡ false) rest) (texts : List ℕ) (fields : List Field) (methods : List Method)
      (up : IsUpward cs) (named : (i : ℕ) (c : ClassFile) → slice_get cs i ≡ Some c → is_class_name (own_name c) ≡ true) where
    abbrev P : Program
    P = record { types = library_rows ++ (map (class_row cs) cs ++ rest); texts = texts; fields = fields; methods = methods }

    other_none : (n : List ℕ) → is_class_name n ≡ true → (rs : List Row) → AllByRecursion (λ (r : Row). is_class_name r.name ≡ false) rs → find (is_row n) rs ≡ None
    other_none n e [] all = refl
    other_none n e (r ∷ rs) all = go (is_row n r) refl (other_none n e rs all.1)
      where
        go : (b : Bool) → is_row n r ≡ b → find (is_row n) rs ≡ None → cond b (Some r) (find (is_row n) rs) ≡ None
        go true is later =
            let same : r.name ≡ n = (bytes_eq-Decides r.name n).0 is in
            let fall : true ≡ false = sym e ∙ ap is_class_name (sym same) ∙ all.0 in
            cc
        go false is later = later

    -- a class that isn't an interface has its own row
    pub class_found : (n : List ℕ) (c : ClassFile) → class_named cs n ≡ Some c → is_interface c ≡ false → find (is_row n) P.types ≡ Some (class_row cs c)
    class_found n c e plain =
        let at = found_at (λ c. bytes_eq (own_name c) n) cs c e in
        let own : own_name c ≡ n = (bytes_eq-Decides (own_name c) n).0 (found_passes (λ c. bytes_eq (own_name c) n) cs c e) in
        let name : is_class_name n ≡ true = ap is_class_name (sym own) ∙ named at.0 c at.1 in
        let apart : list_any (bytes_eq n) (map (λ (r : Row). r.name) library_rows) ≡ false = ap is_library (sym own) ∙ new_to_library at.0 c at.1 in
        find_back (is_row n) library_rows (map (class_row cs) cs ++ rest) (absent n library_rows apart)
        ∙ find_front (is_row n) (map (class_row cs) cs) rest (class_row cs c) (find_row cs n name cs c e plain)

    pub library_found : (n : List ℕ) (l : IsOfLibrary n) → find (is_row n) P.types ≡ Some l.row
    library_found n l = find_front (is_row n) library_rows (map (class_row cs) cs ++ rest) l.row l.found

    -- an interface, and what is no class, has none
    pub none_found : (n : List ℕ) → is_class_name n ≡ true → is_library n ≡ false → holds_of (λ d. not (is_interface d)) (class_named cs n) ≡ false → find (is_row n) P.types ≡ None
    none_found n name apart e =
        find_back (is_row n) library_rows (map (class_row cs) cs ++ rest) (absent n library_rows apart)
        ∙ find_back (is_row n) (map (class_row cs) cs) rest (find_none cs n name library_names cs new e)
        ∙ other_none n name rest others

    -- ---- a class of the folder that isn't an interface

    module _ (i : ℕ) (c : ClassFile) (there : slice_get cs i ≡ Some c) (plain : is_interface c ≡ false) where
      by_name : class_named cs (own_name c) ≡ Some c
      by_name = found_by_name library_names cs new i c there

      lineage_step : lineage cs (own_name c) ≡ c ∷ lineage cs (super_name c)
      lineage_step = up.supers (own_name c) ∙ ap (with_above (λ c. lineage cs (super_name c))) by_name

      pub names_step : names_upward cs (own_name c) ≡ own_name c ∷ names_upward cs (super_name c)
      names_step = ap (λ (l : List ClassFile). map own_name l ++ library_lineage (above_last (own_name c) l)) lineage_step

      pub words_step : words_upward cs (own_name c) ≡ words_upward cs (super_name c) ++ own_words cs c
      words_step =
          let upper = lineage cs (super_name c) in
          ap (λ (l : List ClassFile). flat_map (own_words cs) (reverse l)) lineage_step ∙ ap (flat_map (own_words cs)) (reverse_onto upper c [])
          ∙ flat_map-append (own_words cs) (reverse upper) (c ∷ []) ∙ ap (λ (w : List Declared). words_upward cs (super_name c) ++ w) (append-nil (own_words cs c))

      abbrev row : Row
      row = record {
        name = own_name c;
        read = own_name c;
        holds = Words (words_upward cs (own_name c));
        lineage = names_upward cs (own_name c);
        instance_of = class_instances cs (own_name c);
      }

      row_is : class_row cs c ≡ row
      row_is = rw plain refl

      place_of : (n : List ℕ) (r : Row) → find (is_row n) P.types ≡ Some r → (t : ℕ) × (row_at P t ≡ Some r)
      place_of n r e = let at = found_at (is_row n) P.types r e in (suc at.0, at.1)

      -- the class above it is of the folder, or of the library
      under : IsAbove (super_name c) → IsUnder P row (words_upward cs (own_name c))
      under (here d found plain_d) =
          let own : own_name d ≡ super_name c = (bytes_eq-Decides (own_name d) (super_name c)).0 (found_passes (λ x. bytes_eq (own_name x) (super_name c)) cs d found) in
          let at = place_of (super_name c) (class_row cs d) (class_found (super_name c) d found plain_d) in
          let upper : class_row cs d ≡ record { name = own_name d; read = own_name d; holds = Words (words_upward cs (own_name d)); lineage = names_upward cs (own_name d); instance_of = class_instances cs (own_name d) } = rw plain_d refl in
          let lines : (class_row cs d).lineage ≡ names_upward cs (super_name c) = ap (λ (r : Row). r.lineage) upper ∙ ap (names_upward cs) own in
          let step : lineage cs (super_name c) ≡ d ∷ lineage cs (super_name d) = up.supers (super_name c) ∙ ap (with_above (λ c. lineage cs (super_name c))) found in
          let names : names_upward cs (super_name c) ≡ own_name d ∷ (map own_name (lineage cs (super_name d)) ++ library_lineage (above_last (super_name d) (lineage cs (super_name d)))) =
          ap (λ (l : List ClassFile). map own_name l ++ library_lineage (above_last (super_name c) l)) step in
          record {
            number = at.0;
            upper = class_row cs d;
            upper_words = words_upward cs (super_name c);
            own = own_words cs c;
            is = at.1;
            class = λ e. no_names _ _ (sym (lines ∙ names) ∙ e);
            lineage = names_step ∙ ap (λ (l : List (List ℕ)). own_name c ∷ l) (sym lines);
            holds = ap (λ (r : Row). r.holds) upper ∙ ap (λ n. Words (words_upward cs n)) own;
            words_are = words_step;
          }
      under (library_class none is) =
          let l = of_library (super_name c) is in
          let at = place_of (super_name c) l.row (library_found (super_name c) l) in
          let top : lineage cs (super_name c) ≡ [] = up.supers (super_name c) ∙ ap (with_above (λ c. lineage cs (super_name c))) none in
          let above_is : names_upward cs (super_name c) ≡ library_lineage (super_name c) = ap (λ (u : List ClassFile). map own_name u ++ library_lineage (above_last (super_name c) u)) top in
          record {
            number = at.0;
            upper = l.row;
            upper_words = [];
            own = own_words cs c;
            is = at.1;
            class = found_has (is_row (super_name c)) (λ (r : Row). r.lineage ≢ []) library_rows l.row l.found library_classes;
            lineage = names_step ∙ ap (λ (u : List (List ℕ)). own_name c ∷ u) (above_is ∙ sym l.lineage);
            holds = l.empty;
            words_are = words_step ∙ ap (λ (u : List ClassFile). flat_map (own_words cs) (reverse u) ++ own_words cs c) top;
          }

      pub is_class : IsClass P row (words_upward cs (own_name c))
      is_class = record { named = named i c there; read = refl; found = class_found (own_name c) c by_name plain ∙ ap (λ (r : Row). Some r) row_is; placed = inr (under (above i c there)) }

    -- ---- what typing reads of names

    abbrev Reads : List ℕ → Type 0
    Reads n = name_read P n ≡ n

    abbrev ReadsLineage : Row → Type 0
    ReadsLineage r = AllByRecursion Reads r.lineage

    library_reads : AllByRecursion ReadsLineage library_rows
    library_reads = ((refl, tt), ((refl, (refl, tt)), ((refl, (refl, tt)), ((refl, (refl, tt)), ((refl, (refl, (refl, tt))), ((refl, (refl, (refl, tt))), ((refl, (refl, (refl, (refl, tt)))), ((refl, (refl, (refl, (refl, (refl, tt))))), ((refl, (refl, (refl, (refl, (refl, tt))))), ((refl, (refl, (refl, (refl, (refl, tt))))), ((refl, (refl, (refl, (refl, (refl, tt))))), ((refl, (refl, (refl, (refl, (refl, tt))))), ((refl, (refl, (refl, (refl, (refl, tt))))), ((refl, (refl, (refl, (refl, (refl, tt))))), ((refl, (refl, (refl, (refl, (refl, tt))))), ((refl, (refl, (refl, (refl, (refl, tt))))), ((refl, (refl, (refl, (refl, (refl, (refl, tt)))))), ((refl, (refl, (refl, (refl, tt)))), ((refl, (refl, (refl, (refl, (refl, tt))))), ((refl, (refl, (refl, (refl, (refl, (refl, tt)))))), tt))))))))))))))))))))

    reads_library : (n : List ℕ) → is_library n ≡ true → AllByRecursion Reads (library_lineage n)
    reads_library n e = let l = of_library n e in subst (AllByRecursion Reads) l.lineage (found_has (is_row n) ReadsLineage library_rows l.row l.found library_reads)

    step_of : (n : List ℕ) (d : ClassFile) → class_named cs n ≡ Some d → lineage cs n ≡ d ∷ lineage cs (super_name d)
    step_of n d e = up.supers n ∙ ap (with_above (λ c. lineage cs (super_name c))) e

    top_of : (n : List ℕ) → class_named cs n ≡ None → lineage cs n ≡ []
    top_of n e = up.supers n ∙ ap (with_above (λ c. lineage cs (super_name c))) e

    same_head : (a b : ClassFile) (xs ys : List ClassFile) → a ∷ xs ≡ b ∷ ys → (a ≡ b) × (xs ≡ ys)
    same_head a b xs ys e = (cc, cc)

    no_class : (a : ClassFile) (xs : List ClassFile) → a ∷ xs ≡ [] → ⊥
    no_class a xs e = cc

    plain_reads : (n : List ℕ) (d : ClassFile) → class_named cs n ≡ Some d → is_interface d ≡ false → Reads (own_name d)
    plain_reads n d e plain =
        let at = found_at (λ x. bytes_eq (own_name x) n) cs d e in
        let name = named at.0 d at.1 in
        let found = class_found (own_name d) d (found_by_name library_names cs new at.0 d at.1) plain in
        let read : (class_row cs d).read ≡ own_name d = rw plain refl in
        rw (no_array (own_name d) name, found) read

    -- the names of a class and those above it are read as they are
    reads_upward : (l : List ClassFile) (n : List ℕ) → lineage cs n ≡ l → IsAbove n → AllByRecursion Reads (map own_name l ++ library_lineage (above_last n l))
    reads_upward [] n e (here d found plain) = absurd (no_class d (lineage cs (super_name d)) (sym (step_of n d found) ∙ e))
    reads_upward [] n e (library_class none is) = reads_library n is
    reads_upward (d ∷ l) n e (here x found plain) =
        let s = same_head x d (lineage cs (super_name x)) l (sym (step_of n x found) ∙ e) in
        let at = found_at (λ y. bytes_eq (own_name y) n) cs x found in
        let rest = reads_upward l (super_name x) s.1 (above at.0 x at.1) in
        (subst (λ y. Reads (own_name y)) s.0 (plain_reads n x found plain), subst (λ y. AllByRecursion Reads (map own_name l ++ library_lineage (above_last (super_name y) l))) s.0 rest)
    reads_upward (d ∷ l) n e (library_class none is) = absurd (no_class d l (sym e ∙ top_of n none))

    -- ---- Object is above each class

    abbrev HasObjectAbove : Row → Type 0
    HasObjectAbove r = IsIn r.lineage object_class

    object_above_library : AllByRecursion HasObjectAbove library_rows
    object_above_library = (refl, (refl, (refl, (refl, (refl, (refl, (refl, (refl, (refl, (refl, (refl, (refl, (refl, (refl, (refl, (refl, (refl, (refl, (refl, (refl, tt))))))))))))))))))))

    object_above : (l : List ClassFile) (n : List ℕ) → lineage cs n ≡ l → IsAbove n → IsIn (map own_name l ++ library_lineage (above_last n l)) object_class
    object_above [] n e (here d found plain) = absurd (no_class d (lineage cs (super_name d)) (sym (step_of n d found) ∙ e))
    object_above [] n e (library_class none is) = let l = of_library n is in subst (λ u. IsIn u object_class) l.lineage (found_has (is_row n) HasObjectAbove library_rows l.row l.found object_above_library)
    object_above (d ∷ l) n e (here x found plain) =
        let s = same_head x d (lineage cs (super_name x)) l (sym (step_of n x found) ∙ e) in
        let at = found_at (λ y. bytes_eq (own_name y) n) cs x found in
        let rest = object_above l (super_name x) s.1 (above at.0 x at.1) in
        or_right (bytes_eq object_class (own_name d)) (list_any (bytes_eq object_class) (map own_name l ++ library_lineage (above_last (super_name d) l)))
        (subst (λ y. IsIn (map own_name l ++ library_lineage (above_last (super_name y) l)) object_class) s.0 rest)
    object_above (d ∷ l) n e (library_class none is) = absurd (no_class d l (sym e ∙ top_of n none))

    -- ---- interfaces that are listed

    abbrev IsFine : ClassFile → Type 0
    IsFine d = super_fault cs d ≡ None

    all_fine : AllByRecursion IsFine cs
    all_fine = each_none (super_fault cs) cs (no_first (first_fault (super_fault cs) cs) _ fine).0

    upward_fine : (k : ℕ) (n : List ℕ) → AllByRecursion IsFine (all_upward cs k n)
    upward_fine zero n = tt
    upward_fine (suc k) n = go (class_named cs n) refl (upward_fine k)
      where
        go : (o : Option ClassFile) → class_named cs n ≡ o → ((m : List ℕ) → AllByRecursion IsFine (all_upward cs k m)) → AllByRecursion IsFine (with_above (λ c. flat_map (all_upward cs k) (names_above c)) o)
        go None e each = tt
        go (Some d) e each = (
          found_has (λ x. bytes_eq (own_name x) n) IsFine cs d e all_fine,
          all_flat (all_upward cs k) (λ m. Unit {0}) IsFine (λ m t. each m) (names_above d) (any_unit (names_above d)),
        )
          where
            any_unit : (ms : List (List ℕ)) → AllByRecursion (λ m. Unit {0}) ms
            any_unit [] = tt
            any_unit (m ∷ ms) = (tt, any_unit ms)

    abbrev IsListed : List ℕ → Type 0
    IsListed m = (is_known cs m && not (names_interface cs m)) ≡ false

    listed_in : (own m : List ℕ) → interface_fault cs own m ≡ None → IsListed m
    listed_in own m e = go (is_array_name m || is_known cs m && not (names_interface cs m)) refl e
      where
        go : (b : Bool) → (is_array_name m || is_known cs m && not (names_interface cs m)) ≡ b → (if b then Some (BadSuper own m) else None) ≡ None → IsListed m
        go true is e = cc
        go false is e = (or_false (is_array_name m) (is_known cs m && not (names_interface cs m)) is).1

    listed_of : (d : ClassFile) → IsFine d → AllByRecursion IsListed (interface_names d)
    listed_of d e =
        all_map (λ m. interface_fault cs (own_name d) m ≡ None) IsListed (listed_in (own_name d)) (interface_names d)
        (each_none (interface_fault cs (own_name d)) (interface_names d) (no_first (superclass_fault cs d) (first_fault (interface_fault cs (own_name d)) (interface_names d)) e).1)

    -- such a name has no row, and is read as Object
    listed_reads : (m : List ℕ) → is_class_name m ≡ true → IsListed m → name_read P m ≡ object_class
    listed_reads m name e = rw (no_array m name, none_found m name apart plain) refl
      where
        both_no : (a b : Bool) → (a && b) ≡ false → a ≡ true → b ≡ false
        both_no true b e s = e
        both_no false b e s = cc

        not_no : (a : Bool) → not a ≡ false → a ≡ true
        not_no true e = refl
        not_no false e = cc

        interface : is_known cs m ≡ true → names_interface cs m ≡ true
        interface k = not_no (names_interface cs m) (both_no (is_known cs m) (not (names_interface cs m)) e k)

        apart : is_library m ≡ false
        apart = go (is_library m) refl
          where
            go : (b : Bool) → is_library m ≡ b → b ≡ false
            go true is =
                let k : is_known cs m ≡ true = or_right (is_in_folder cs m) (is_library m) is in
                let none : names_interface cs m ≡ false = ap (holds_of is_interface) (library_not_here m is) in
                let fall : true ≡ false = sym (interface k) ∙ none in
                cc
            go false is = refl

        plain : holds_of (λ d. not (is_interface d)) (class_named cs m) ≡ false
        plain = go (class_named cs m) refl
          where
            go : (o : Option ClassFile) → class_named cs m ≡ o → holds_of (λ d. not (is_interface d)) o ≡ false
            go None f = refl
            go (Some d) f =
                let k : is_known cs m ≡ true = ap (λ (o : Option ClassFile). is_some o || is_library m) f in
                let i : is_interface d ≡ true = sym (ap (holds_of is_interface) f) ∙ interface k in
                ap not i

    -- ---- the row keeps the rules

    module _ (i : ℕ) (c : ClassFile) (there : slice_get cs i ≡ Some c) (plain : is_interface c ≡ false) where
      abbrev own_row : Row
      own_row = row i c there plain

      own_above : IsAbove (own_name c)
      own_above = here c (by_name i c there plain) plain

      found_row : find (is_row (own_name c)) P.types ≡ Some own_row
      found_row = (is_class i c there plain).found

      array_no : is_array (own_name c) ≡ false
      array_no = no_array (own_name c) (named i c there)

      within_is : (n : List ℕ) → is_within P (type.Ref own_row.read) (type.Ref n) ≡ list_any (bytes_eq n) own_row.lineage
      within_is n = rw (array_no, found_row) refl

      reads_in : (n : List ℕ) → Reads n → IsIn own_row.lineage n → IsReadIn P own_row n
      reads_in n read is = rw read (within_is n ∙ is)

      class_names : AllByRecursion (IsReadIn P own_row) own_row.lineage
      class_names = both (own_row.lineage) (reads_upward (lineage cs (own_name c)) (own_name c) refl own_above) (each_in own_row.lineage)
        where
          both : (xs : List (List ℕ)) → AllByRecursion Reads xs → AllByRecursion (IsIn own_row.lineage) xs → AllByRecursion (IsReadIn P own_row) xs
          both [] all more = tt
          both (x ∷ xs) all more = (reads_in x all.0 more.0, both xs all.1 more.1)

      interface_read : (m : List ℕ) → is_class_name m ≡ true → IsListed m → IsReadIn P own_row m
      interface_read m name e = rw (listed_reads m name e) (within_is object_class ∙ object_above (lineage cs (own_name c)) (own_name c) refl own_above)

      interfaces_read : AllByRecursion (IsReadIn P own_row) (in_text_order (filter is_class_name (flat_map interface_names (ancestry cs (own_name c)))))
      interfaces_read =
          all_in_order (IsReadIn P own_row) _ (all_filter is_class_name IsListed (IsReadIn P own_row) interface_read (flat_map interface_names (ancestry cs (own_name c)))
          (all_flat interface_names IsFine IsListed listed_of (ancestry cs (own_name c)) (upward_fine (length cs) (own_name c))))

      -- A class's row, at its number, keeps the rules of types.
      pub class_row_is : (t : ℕ) → row_at P t ≡ Some (class_row cs c) → IsRow P t (class_row cs c)
      class_row_is t e =
          let same = row_is i c there plain in
          subst (IsRow P t) (sym same) (class_row_of P t own_row (in_text_order (filter is_class_name (flat_map interface_names (ancestry cs (own_name c))))) (e ∙ ap (λ (r : Row). Some r) same)
          (inr (is_class i c there plain)) (all_append (IsReadIn P own_row) own_row.lineage _ class_names interfaces_read) within_is refl)

    -- ---- rows without a name

    abbrev IsLow : Row → Type 0
    IsLow r = r.name ≡ [] → r.lineage ≡ []

    named_low : (r : Row) → is_class_name r.name ≡ true → IsLow r
    named_low r e same = let fall : false ≡ true = ap is_class_name (sym same) ∙ e in cc

    library_low : AllByRecursion IsLow library_rows
    library_low = (λ e. cc, (λ e. cc, (λ e. cc, (λ e. cc, (λ e. cc, (λ e. cc, (λ e. cc, (λ e. cc, (λ e. cc, (λ e. cc, (λ e. cc, (λ e. cc, (λ e. cc, (λ e. cc, (λ e. cc, (λ e. cc, (λ e. cc, (λ e. cc, (λ e. cc, (λ e. cc, tt))))))))))))))))))))

    classes_low : (k : ℕ) (ds : List ClassFile) → ((i : ℕ) (d : ClassFile) → slice_get ds i ≡ Some d → is_class_name (own_name d) ≡ true) → AllByRecursion IsLow (map (class_row cs) ds)
    classes_low k [] each = tt
    classes_low k (d ∷ ds) each = (go (is_interface d) refl, classes_low (suc k) ds (λ i e h. each (suc i) e h))
      where
        go : (b : Bool) → is_interface d ≡ b → IsLow (class_row cs d)
        go true is = rw is (λ e. refl)
        go false is = rw is (λ e. let fall : false ≡ true = ap is_class_name (sym e) ∙ each 0 d refl in cc)

    module _ (low : AllByRecursion IsLow rest) where
      all_low : AllByRecursion IsLow P.types
      all_low = all_append IsLow library_rows (map (class_row cs) cs ++ rest) library_low (all_append IsLow (map (class_row cs) cs) rest (classes_low 0 cs named) low)

      -- an interface's row and that of static fields have no instance, and nothing is at least as wide as what they read
      pub nameless_row_is : (t : ℕ) (words : List Declared) → row_at P t ≡ Some (nameless words) → IsRow P t (nameless words)
      nameless_row_is t words e = record { row = inl (refl, refl); instances = λ n is. absurd (no_instance n is); within = λ n is. absurd (nothing n is) }
        where
          no_instance : (n : List ℕ) → is_instance P t n ≡ true → ⊥
          no_instance n is = let fall : false ≡ true = sym (ap (is_instance_in n) e) ∙ is in cc

          some_found : (rs : List Row) (i : ℕ) (r : Row) → slice_get rs i ≡ Some r → is_row [] r ≡ true → (q : Row) × (find (is_row []) rs ≡ Some q)
          some_found [] i r h is = cc
          some_found (x ∷ rs) zero r h is = let s : x ≡ r = cc in (r, rw (s, is) refl)
          some_found (x ∷ rs) (suc i) r h is = by (is_row [] x) (some_found rs i r h is)
            where
              by : (b : Bool) → (q : Row) × (find (is_row []) rs ≡ Some q) → (q : Row) × (cond b (Some x) (find (is_row []) rs) ≡ Some q)
              by true later = (x, refl)
              by false later = later

          at_place : (k : ℕ) → row_at P k ≡ Some (nameless words) → (i : ℕ) × (slice_get P.types i ≡ Some (nameless words))
          at_place zero h = cc
          at_place (suc k) h = (k, h)

          nothing : (n : List ℕ) → IsWithin P (type.Ref []) (type.Ref n) → ⊥
          nothing n is =
              let at = at_place t e in
              let f = some_found P.types at.0 (nameless words) at.1 refl in
              let name : f.0.name ≡ [] = (bytes_eq-Decides f.0.name []).0 (found_passes (is_row []) P.types f.0 f.1) in
              let none : f.0.lineage ≡ [] = found_has (is_row []) IsLow P.types f.0 f.1 all_low name in
              let above_is : classes_from P [] ≡ [] = ap (λ (o : Option Row). above_in o []) f.1 ∙ none in
              let fall : false ≡ true = sym (ap (list_any (bytes_eq n)) above_is) ∙ is in
              cc

    -- ---- what instances of a known name are, as typing reads them

    -- the name is a class's, and is above what is read of another
    pub record IsAboveAs (r e : List ℕ) : Type 0 where
      pub class : is_class_name e ≡ true
      pub above_it : is_class_above P r (class_read P e) ≡ true

    abbrev IsNamed : List ℕ → Type 0
    IsNamed n = is_class_name n ≡ true

    abbrev NamesLineage : Row → Type 0
    NamesLineage r = AllByRecursion IsNamed r.lineage

    library_named : AllByRecursion NamesLineage library_rows
    library_named = ((refl, tt), ((refl, (refl, tt)), ((refl, (refl, tt)), ((refl, (refl, tt)), ((refl, (refl, (refl, tt))), ((refl, (refl, (refl, tt))), ((refl, (refl, (refl, (refl, tt)))), ((refl, (refl, (refl, (refl, (refl, tt))))), ((refl, (refl, (refl, (refl, (refl, tt))))), ((refl, (refl, (refl, (refl, (refl, tt))))), ((refl, (refl, (refl, (refl, (refl, tt))))), ((refl, (refl, (refl, (refl, (refl, tt))))), ((refl, (refl, (refl, (refl, (refl, tt))))), ((refl, (refl, (refl, (refl, (refl, tt))))), ((refl, (refl, (refl, (refl, (refl, tt))))), ((refl, (refl, (refl, (refl, (refl, tt))))), ((refl, (refl, (refl, (refl, (refl, (refl, tt)))))), ((refl, (refl, (refl, (refl, tt)))), ((refl, (refl, (refl, (refl, (refl, tt))))), ((refl, (refl, (refl, (refl, (refl, (refl, tt)))))), tt))))))))))))))))))))

    names_library : (n : List ℕ) → is_library n ≡ true → AllByRecursion IsNamed (library_lineage n)
    names_library n e = let l = of_library n e in subst (AllByRecursion IsNamed) l.lineage (found_has (is_row n) NamesLineage library_rows l.row l.found library_named)

    names_named : (l : List ClassFile) (n : List ℕ) → lineage cs n ≡ l → IsAbove n → AllByRecursion IsNamed (map own_name l ++ library_lineage (above_last n l))
    names_named [] n e (here d found plain) = absurd (no_class d (lineage cs (super_name d)) (sym (step_of n d found) ∙ e))
    names_named [] n e (library_class none is) = names_library n is
    names_named (d ∷ l) n e (here x found plain) =
        let s = same_head x d (lineage cs (super_name x)) l (sym (step_of n x found) ∙ e) in
        let at = found_at (λ y. bytes_eq (own_name y) n) cs x found in
        let rest = names_named l (super_name x) s.1 (above at.0 x at.1) in
        (subst (λ y. IsNamed (own_name y)) s.0 (named at.0 x at.1), subst (λ y. AllByRecursion IsNamed (map own_name l ++ library_lineage (above_last (super_name y) l))) s.0 rest)
    names_named (d ∷ l) n e (library_class none is) = absurd (no_class d l (sym e ∙ top_of n none))

    listed_all : (n : List ℕ) → AllByRecursion IsListed (flat_map interface_names (ancestry cs n))
    listed_all n = all_flat interface_names IsFine IsListed listed_of (ancestry cs n) (upward_fine (length cs) n)

    filter_named : (xs : List (List ℕ)) → AllByRecursion IsNamed (filter is_class_name xs)
    filter_named xs = all_filter is_class_name (λ m. Unit {0}) IsNamed (λ m e t. e) xs (units xs)
      where
        units : (ms : List (List ℕ)) → AllByRecursion (λ m. Unit {0}) ms
        units [] = tt
        units (m ∷ ms) = (tt, units ms)

    with_both : {A : Type 0} (Left Right Rule : A → Type 0) → ((x : A) → Left x → Right x → Rule x) → (xs : List A) → AllByRecursion Left xs → AllByRecursion Right xs → AllByRecursion Rule xs
    with_both Left Right Rule each [] all more = tt
    with_both Left Right Rule each (x ∷ xs) all more = (each x all.0 more.0, with_both Left Right Rule each xs all.1 more.1)

    -- of a class of the folder
    pub plain_instances : (m : List ℕ) (d : ClassFile) → class_named cs m ≡ Some d → is_interface d ≡ false → AllByRecursion (IsAboveAs m) (class_instances cs m)
    plain_instances m d e plain = subst (λ n. AllByRecursion (IsAboveAs n) (class_instances cs n)) own (with_both IsNamed (IsReadIn P (own_row at.0 d at.1 plain)) (IsAboveAs (own_name d)) each (class_instances cs (own_name d)) all_named all_read)
      where
        at : (i : ℕ) × (slice_get cs i ≡ Some d)
        at = found_at (λ x. bytes_eq (own_name x) m) cs d e

        own : own_name d ≡ m
        own = (bytes_eq-Decides (own_name d) m).0 (found_passes (λ x. bytes_eq (own_name x) m) cs d e)

        all_read : AllByRecursion (IsReadIn P (own_row at.0 d at.1 plain)) (class_instances cs (own_name d))
        all_read = all_append (IsReadIn P (own_row at.0 d at.1 plain)) (names_upward cs (own_name d)) _ (class_names at.0 d at.1 plain) (interfaces_read at.0 d at.1 plain)

        all_named : AllByRecursion IsNamed (class_instances cs (own_name d))
        all_named = all_append IsNamed (names_upward cs (own_name d)) _ (names_named (lineage cs (own_name d)) (own_name d) refl (own_above at.0 d at.1 plain)) (all_in_order IsNamed _ (filter_named (flat_map interface_names (ancestry cs (own_name d)))))

        each : (x : List ℕ) → IsNamed x → IsReadIn P (own_row at.0 d at.1 plain) x → IsAboveAs (own_name d) x
        each x name read = record { class = name; above_it = (rw (no_array x name, array_no at.0 d at.1 plain) at read) }

    object_reads : class_read P object_class ≡ object_class
    object_reads = refl

    object_over_itself : is_class_above P object_class object_class ≡ true
    object_over_itself = refl

    over_object : (e : List ℕ) → is_class_name e ≡ true → class_read P e ≡ object_class → IsAboveAs object_class e
    over_object e name read = record { class = name; above_it = ap (is_class_above P object_class) read ∙ object_over_itself }

    -- an interface stands under Object
    super_object : (i : ℕ) (d : ClassFile) → slice_get cs i ≡ Some d → is_interface d ≡ true → super_name d ≡ object_class
    super_object i d h is = top (bytes_eq (super_name d) (codes "java/lang/Object")) refl superclass_fine
      where
        superclass_fine : superclass_fault cs d ≡ None
        superclass_fine = (no_first (superclass_fault cs d) (first_fault (interface_fault cs (own_name d)) (interface_names d)) (none_at (super_fault cs) cs (no_first (first_fault (super_fault cs) cs) _ fine).0 i d h)).0

        bad : (a b : Bool) → a ≡ true → (if not b then Some (UnknownClass (super_name d)) else (if a || not (may_be_super cs (super_name d)) then Some (BadSuper (own_name d) (super_name d)) else None)) ≡ None → ⊥
        bad true true e f = cc
        bad true false e f = cc
        bad false b e f = cc

        top : (b : Bool) → bytes_eq (super_name d) (codes "java/lang/Object") ≡ b
            → (if b then None else (if not (is_known cs (super_name d)) then Some (UnknownClass (super_name d)) else (if is_interface d || not (may_be_super cs (super_name d)) then Some (BadSuper (own_name d) (super_name d)) else None))) ≡ None → super_name d ≡ object_class
        top true same e = (bytes_eq-Decides (super_name d) (codes "java/lang/Object")).0 same
        top false same e = absurd (bad (is_interface d) (is_known cs (super_name d)) is e)

    -- of an interface
    pub interface_instances : (m : List ℕ) (d : ClassFile) → class_named cs m ≡ Some d → is_interface d ≡ true → AllByRecursion (IsAboveAs object_class) (class_instances cs m)
    interface_instances m d e is = all_append (IsAboveAs object_class) (names_upward cs m) _ (subst (AllByRecursion (IsAboveAs object_class)) (sym upward_is) (itself, (top, tt))) listed
      where
        at : (i : ℕ) × (slice_get cs i ≡ Some d)
        at = found_at (λ x. bytes_eq (own_name x) m) cs d e

        own : own_name d ≡ m
        own = (bytes_eq-Decides (own_name d) m).0 (found_passes (λ x. bytes_eq (own_name x) m) cs d e)

        name : is_class_name m ≡ true
        name = ap is_class_name (sym own) ∙ named at.0 d at.1

        apart : is_library m ≡ false
        apart = ap is_library (sym own) ∙ new_to_library at.0 d at.1

        super_is : super_name d ≡ object_class
        super_is = super_object at.0 d at.1 is

        lineage_is : lineage cs m ≡ d ∷ []
        lineage_is = step_of m d e ∙ ap (λ (l : List ClassFile). d ∷ l) (top_of (super_name d) (library_not_here (super_name d) (ap is_library super_is)))

        upward_is : names_upward cs m ≡ m ∷ object_class ∷ []
        upward_is =
            ap (λ (l : List ClassFile). map own_name l ++ library_lineage (above_last m l)) lineage_is ∙ ap (λ n. own_name d ∷ library_lineage n) super_is
            ∙ ap (λ n. n ∷ object_class ∷ []) own

        read : class_read P m ≡ object_class
        read = ap read_in (none_found m name apart (ap (holds_of (λ d. not (is_interface d))) e ∙ ap not is))

        itself : IsAboveAs object_class m
        itself = over_object m name read

        top : IsAboveAs object_class object_class
        top = over_object object_class refl object_reads

        each : (x : List ℕ) → is_class_name x ≡ true → IsListed x → IsAboveAs object_class x
        each x n l = let r = listed_reads x n l in over_object x n (rw (no_array x n) at r)

        listed : AllByRecursion (IsAboveAs object_class) (in_text_order (filter is_class_name (flat_map interface_names (ancestry cs m))))
        listed = all_in_order (IsAboveAs object_class) _ (all_filter is_class_name IsListed (IsAboveAs object_class) each (flat_map interface_names (ancestry cs m)) (listed_all m))

    abbrev ReadsIn : List (List ℕ) → List ℕ → Type 0
    ReadsIn l x = Reads x × IsIn l x

    -- of a class of the library
    pub library_instances : (m : List ℕ) → is_library m ≡ true → AllByRecursion (IsAboveAs m) (class_instances cs m)
    library_instances m is = subst (AllByRecursion (IsAboveAs m)) (sym instances_are) (with_both IsNamed (ReadsIn (library_lineage m)) (IsAboveAs m) each (library_lineage m) (names_library m is) both)
      where
        none : class_named cs m ≡ None
        none = library_not_here m is

        l : IsOfLibrary m
        l = of_library m is

        instances_are : class_instances cs m ≡ library_lineage m
        instances_are =
            ap (λ (u : List ClassFile). (map own_name u ++ library_lineage (above_last m u)) ++ in_text_order (filter is_class_name (flat_map interface_names (ancestry cs m)))) (top_of m none)
            ∙ ap (λ (u : List ClassFile). library_lineage m ++ in_text_order (filter is_class_name (flat_map interface_names u))) (up.all m ∙ ap (with_above (λ c. flat_map (ancestry cs) (names_above c))) none)
            ∙ append-nil (library_lineage m)

        above_is : classes_from P m ≡ library_lineage m
        above_is = ap (λ (o : Option Row). above_in o m) (library_found m l) ∙ l.lineage

        both : AllByRecursion (ReadsIn (library_lineage m)) (library_lineage m)
        both = with_both Reads (IsIn (library_lineage m)) (ReadsIn (library_lineage m)) (λ x r i. (r, i)) (library_lineage m) (reads_library m is) (each_in (library_lineage m))

        each : (x : List ℕ) → IsNamed x → ReadsIn (library_lineage m) x → IsAboveAs m x
        each x name b =
            let read : class_read P x ≡ x = (let r = b.0 in rw (no_array x name) at r) in
            record { class = name; above_it = ap (is_class_above P m) read ∙ ap (list_any (bytes_eq x)) above_is ∙ b.1 }

    any_front : (n : List ℕ) (xs ys : List (List ℕ)) → list_any (bytes_eq n) xs ≡ true → list_any (bytes_eq n) (xs ++ ys) ≡ true
    any_front n [] ys e = cc
    any_front n (x ∷ xs) ys e = go (bytes_eq n x) e (any_front n xs ys)
      where
        go : (b : Bool) → (b || list_any (bytes_eq n) xs) ≡ true → (list_any (bytes_eq n) xs ≡ true → list_any (bytes_eq n) (xs ++ ys) ≡ true) → (b || list_any (bytes_eq n) (xs ++ ys)) ≡ true
        go true e rest = refl
        go false e rest = rest e

    -- what is above what is read of a name is one of its instances
    pub plain_wider : (m : List ℕ) (d : ClassFile) → class_named cs m ≡ Some d → is_interface d ≡ false → (z : List ℕ) → is_class_above P m z ≡ true → IsIn (class_instances cs m) z
    plain_wider m d e plain z above_it =
        let at = found_at (λ x. bytes_eq (own_name x) m) cs d e in
        let own : own_name d ≡ m = (bytes_eq-Decides (own_name d) m).0 (found_passes (λ x. bytes_eq (own_name x) m) cs d e) in
        let row_found = found_row at.0 d at.1 plain in
        let lines : classes_from P (own_name d) ≡ names_upward cs (own_name d) = ap (λ (o : Option Row). above_in o (own_name d)) row_found in
        any_front z (names_upward cs m) _ (subst (λ n. list_any (bytes_eq z) (names_upward cs n) ≡ true) own (sym (ap (list_any (bytes_eq z)) lines) ∙ ap (λ n. is_class_above P n z) own ∙ above_it))

    pub library_wider : (m : List ℕ) → is_library m ≡ true → (z : List ℕ) → is_class_above P m z ≡ true → IsIn (class_instances cs m) z
    library_wider m is z above_it =
        let l = of_library m is in
        let lines : classes_from P m ≡ library_lineage m = ap (λ (o : Option Row). above_in o m) (library_found m l) ∙ l.lineage in
        let top : names_upward cs m ≡ library_lineage m = ap (λ (u : List ClassFile). map own_name u ++ library_lineage (above_last m u)) (top_of m (library_not_here m is)) in
        any_front z (names_upward cs m) _ (ap (list_any (bytes_eq z)) top ∙ sym (ap (list_any (bytes_eq z)) lines) ∙ above_it)

    pub interface_wider : (m : List ℕ) (d : ClassFile) → class_named cs m ≡ Some d → is_interface d ≡ true → (z : List ℕ) → is_class_above P object_class z ≡ true → IsIn (class_instances cs m) z
    interface_wider m d e is z above_it = any_front z (names_upward cs m) _ (subst (λ (l : List (List ℕ)). IsIn l z) (sym upward_is) (or_right (bytes_eq z m) (list_any (bytes_eq z) (object_class ∷ [])) above_it))
      where
        at : (i : ℕ) × (slice_get cs i ≡ Some d)
        at = found_at (λ x. bytes_eq (own_name x) m) cs d e

        own : own_name d ≡ m
        own = (bytes_eq-Decides (own_name d) m).0 (found_passes (λ x. bytes_eq (own_name x) m) cs d e)

        super_is : super_name d ≡ object_class
        super_is = super_object at.0 d at.1 is

        upward_is : names_upward cs m ≡ m ∷ object_class ∷ []
        upward_is =
            ap (λ (l : List ClassFile). map own_name l ++ library_lineage (above_last m l)) (step_of m d e ∙ ap (λ (l : List ClassFile). d ∷ l) (top_of (super_name d) (library_not_here (super_name d) (ap is_library super_is))))
            ∙ ap (λ n. own_name d ∷ library_lineage n) super_is ∙ ap (λ n. n ∷ object_class ∷ []) own
