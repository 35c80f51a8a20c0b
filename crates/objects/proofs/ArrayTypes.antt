-- The rows of arrays, in a program that has a folder's classes behind the library's, keep the rules of types.
use Rattle.std.proofs.Common.{◌≡◌, ℕ, List, [], ◌∷◌, ◌++◌, map, Some, None, Bool, true, false, not, refl, sym, ap, subst, ◌∙◌}
use Rattle.std.specs.Prelude.{slice_get, find, cond, bytes_eq, ◌||◌, codes, if◌then◌else◌}
use Rattle.std.specs.List.{AllByRecursion, list_any}
use Rattle.std.proofs.lemmas.Slice.Eq.{bytes_eq-Decides}
use Rattle.jmodel.specs.format.ClassFile.{ClassFile}
use Rattle.objects.specs.linking.Members.{own_name}
use Rattle.objects.specs.linking.Superclasses.{class_named}
use Rattle.objects.specs.linking.Classes.{doubled_class}
use Rattle.objects.specs.semantics.Program.{Row, Field, Method, Program}
use Rattle.objects.specs.linking.LibraryClasses.{library_rows}
use Rattle.objects.specs.linking.LibraryMethods.{is_library}
use Rattle.objects.specs.typing.TypeOrder.{object_class, context_class, is_class_name, without_last, is_ended, read_in, is_class_above}
use Rattle.objects.specs.typing.TypeOrder as typing
use Rattle.objects.specs.linking.Resolution.{is_interface, holds_of}
use Rattle.objects.specs.linking.ClassesFaults.{supers_fault}
use Rattle.objects.specs.laws.LinkingLaw.{IsUpward}
use Rattle.objects.specs.linking.Layout as layout
use Rattle.objects.specs.linking.Layout.{class_row, class_instances}
use Rattle.objects.proofs.ClassRows.{found_at, found_passes, is_row}
use Rattle.objects.proofs.ClassTypes.{of_library, new_to_library, class_found, library_found, none_found, IsAboveAs, plain_instances, interface_instances, library_instances, plain_wider, interface_wider, library_wider}

-- ---- texts

-- a name before its semicolon
pub without_end : (m : List ℕ) → without_last (m ++ codes ";") ≡ m
without_end [] = refl
without_end (c ∷ []) = refl
without_end (c ∷ d ∷ m) = ap (λ (l : List ℕ). c ∷ l) (without_end (d ∷ m))

pub ended : (m : List ℕ) → is_ended (m ++ codes ";") ≡ true
ended m = rw (without_end m) ((bytes_eq-Decides (m ++ codes ";") (m ++ codes ";")).1 refl)

or_left : (a b : Bool) → a ≡ true → (a || b) ≡ true
or_left true b e = refl
or_left false b e = cc

or_right : (a b : Bool) → b ≡ true → (a || b) ≡ true
or_right true b e = refl
or_right false b e = e

both_no : (a b : Bool) → a ≡ false → b ≡ false → (a || b) ≡ false
both_no true b e f = cc
both_no false b e f = f

abbrev IsReadSo : Row → Type 0
IsReadSo r = r.read ≡ r.name

library_read : AllByRecursion IsReadSo library_rows
library_read = (refl, (refl, (refl, (refl, (refl, (refl, (refl, (refl, (refl, (refl, (refl, (refl, (refl, (refl, (refl, (refl, (refl, (refl, (refl, (refl, tt))))))))))))))))))))

found_has : {A : Type 0} (p : A → Bool) (Rule : A → Type 0) (xs : List A) (x : A) → find p xs ≡ Some x → AllByRecursion Rule xs → Rule x
found_has p Rule [] x e all = cc
found_has p Rule (y ∷ ys) x e all = go (p y) e (found_has p Rule ys x)
  where
    go : (b : Bool) → cond b (Some y) (find p ys) ≡ Some x → (find p ys ≡ Some x → AllByRecursion Rule ys → Rule x) → Rule x
    go true e rest = let s : y ≡ x = cc in subst Rule s all.0
    go false e rest = rest e all.1

abbrev IsNamedRow : Row → Type 0
IsNamedRow r = is_class_name r.name ≡ true

library_names_are : AllByRecursion IsNamedRow library_rows
library_names_are = (refl, (refl, (refl, (refl, (refl, (refl, (refl, (refl, (refl, (refl, (refl, (refl, (refl, (refl, (refl, (refl, (refl, (refl, (refl, (refl, tt))))))))))))))))))))

-- ---- a folder

module _ (cs : List ClassFile) (fine : supers_fault cs ≡ None) (new : doubled_class cs ≡ None) (no_context : class_named cs context_class ≡ None)
    (rest : List Row) (others : AllByRecursion (λ (r : Row). is_class_name r.name ≡ false) rest) (texts : List ℕ) (fields : List Field) (methods : List Method)
    (up : IsUpward cs) (named : (i : ℕ) (c : ClassFile) → slice_get cs i ≡ Some c → is_class_name (own_name c) ≡ true) where
  abbrev P : Program
  P = record { types = library_rows ++ (map (class_row cs) cs ++ rest); texts = texts; fields = fields; methods = methods }

  -- the name of a class or an interface of the folder, or of a class of the library
  pub data IsKnown (m : List ℕ) : Type 0 where
    plain : (d : ClassFile) (found : class_named cs m ≡ Some d) (is : is_interface d ≡ false) → IsKnown m
    interface : (d : ClassFile) (found : class_named cs m ≡ Some d) (is : is_interface d ≡ true) → IsKnown m
    library : (is : is_library m ≡ true) → IsKnown m

  own_is : (m : List ℕ) (d : ClassFile) → class_named cs m ≡ Some d → own_name d ≡ m
  own_is m d e = (bytes_eq-Decides (own_name d) m).0 (found_passes (λ x. bytes_eq (own_name x) m) cs d e)

  here_named : (m : List ℕ) (d : ClassFile) → class_named cs m ≡ Some d → is_class_name m ≡ true
  here_named m d e = let at = found_at (λ x. bytes_eq (own_name x) m) cs d e in ap is_class_name (sym (own_is m d e)) ∙ named at.0 d at.1

  here_new : (m : List ℕ) (d : ClassFile) → class_named cs m ≡ Some d → is_library m ≡ false
  here_new m d e = let at = found_at (λ x. bytes_eq (own_name x) m) cs d e in ap is_library (sym (own_is m d e)) ∙ new_to_library cs fine new at.0 d at.1

  -- Layout reads a known name as typing does
  pub class_read_is : (m : List ℕ) → IsKnown m → layout.class_read cs m ≡ typing.class_read P m
  class_read_is m (plain d found is) =
      let yes : (is_library m || (bytes_eq m context_class || holds_of (λ c. not (is_interface c)) (class_named cs m))) ≡ true =
      or_right (is_library m) _ (or_right (bytes_eq m context_class) _ (ap (holds_of (λ c. not (is_interface c))) found ∙ ap not is)) in
      let row = class_found cs fine new rest others texts fields methods up named m d found is in
      let read : (class_row cs d).read ≡ own_name d = rw is refl in
      ap (λ b. if b then m else object_class) yes ∙ sym (own_is m d found) ∙ sym read ∙ sym (ap read_in row)
  class_read_is m (interface d found is) =
      let apart : bytes_eq m context_class ≡ false = differs (bytes_eq m context_class) refl in
      let others_no : holds_of (λ c. not (is_interface c)) (class_named cs m) ≡ false = ap (holds_of (λ c. not (is_interface c))) found ∙ ap not is in
      let isnt : (is_library m || (bytes_eq m context_class || holds_of (λ c. not (is_interface c)) (class_named cs m))) ≡ false = both_no (is_library m) _ (here_new m d found) (both_no (bytes_eq m context_class) _ apart others_no) in
      let none = none_found cs fine new rest others texts fields methods up named m (here_named m d found) (here_new m d found) others_no in
      ap (λ b. if b then m else object_class) isnt ∙ sym (ap read_in none)
    where
      differs : (b : Bool) → bytes_eq m context_class ≡ b → b ≡ false
      differs true e =
          let same : m ≡ context_class = (bytes_eq-Decides m context_class).0 e in
          let fall : None ≡ Some d = sym no_context ∙ ap (class_named cs) (sym same) ∙ found in
          cc
      differs false e = refl
  class_read_is m (library is) =
      let l = of_library m is in
      let name : l.row.name ≡ m = (bytes_eq-Decides l.row.name m).0 (found_passes (is_row m) library_rows l.row l.found) in
      let read : l.row.read ≡ l.row.name = found_has (is_row m) IsReadSo library_rows l.row l.found library_read in
      ap (λ b. if b then m else object_class) (or_left (is_library m) _ is) ∙ sym name ∙ sym read ∙ sym (ap read_in (library_found cs fine new rest others texts fields methods up named m l))

  -- ---- what is read of a known name

  pub record KnownRead (m : List ℕ) : Type 0 where
    pub name : is_class_name m ≡ true
    pub reads : List ℕ
    pub named_so : is_class_name reads ≡ true
    pub laid : layout.class_read cs m ≡ reads
    pub typed : typing.class_read P m ≡ reads
    pub instances : AllByRecursion (IsAboveAs cs fine new rest others texts fields methods up named reads) (class_instances cs m)
    pub wider : (z : List ℕ) → is_class_above P reads z ≡ true → list_any (bytes_eq z) (class_instances cs m) ≡ true

  library_name : (m : List ℕ) → is_library m ≡ true → is_class_name m ≡ true
  library_name m is =
      let l = of_library m is in
      let name : l.row.name ≡ m = (bytes_eq-Decides l.row.name m).0 (found_passes (is_row m) library_rows l.row l.found) in
      ap is_class_name (sym name) ∙ found_has (is_row m) IsNamedRow library_rows l.row l.found library_names_are

  pub known_read : (m : List ℕ) → IsKnown m → KnownRead m
  known_read m (plain d found is) =
      let row = class_found cs fine new rest others texts fields methods up named m d found is in
      let read : (class_row cs d).read ≡ own_name d = rw is refl in
      let typed_is : typing.class_read P m ≡ m = ap read_in row ∙ read ∙ own_is m d found in
      record {
        name = here_named m d found;
        reads = m;
        named_so = here_named m d found;
        laid = class_read_is m (plain d found is) ∙ typed_is;
        typed = typed_is;
        instances = plain_instances cs fine new rest others texts fields methods up named m d found is;
        wider = plain_wider cs fine new rest others texts fields methods up named m d found is;
      }
  known_read m (interface d found is) =
      let none = none_found cs fine new rest others texts fields methods up named m (here_named m d found) (here_new m d found) (ap (holds_of (λ c. not (is_interface c))) found ∙ ap not is) in
      record {
        name = here_named m d found;
        reads = object_class;
        named_so = refl;
        laid = class_read_is m (interface d found is) ∙ ap read_in none;
        typed = ap read_in none;
        instances = interface_instances cs fine new rest others texts fields methods up named m d found is;
        wider = interface_wider cs fine new rest others texts fields methods up named m d found is;
      }
  known_read m (library is) =
      let l = of_library m is in
      let name : l.row.name ≡ m = (bytes_eq-Decides l.row.name m).0 (found_passes (is_row m) library_rows l.row l.found) in
      let read : l.row.read ≡ l.row.name = found_has (is_row m) IsReadSo library_rows l.row l.found library_read in
      let typed_is : typing.class_read P m ≡ m = ap read_in (library_found cs fine new rest others texts fields methods up named m l) ∙ read ∙ name in
      record {
        name = library_name m is;
        reads = m;
        named_so = library_name m is;
        laid = class_read_is m (library is) ∙ typed_is;
        typed = typed_is;
        instances = library_instances cs fine new rest others texts fields methods up named m is;
        wider = library_wider cs fine new rest others texts fields methods up named m is;
      }
