-- Which elements may be those of others, and the rows of arrays.
use Rattle.std.proofs.Common.{◌≡◌, ℕ, ◌-◌, List, [], ◌∷◌, ◌++◌, length, map, take, Some, Bool, true, false, not, refl, sym, ap, subst, ◌∙◌, arith, length-append}
use Rattle.std.specs.Prelude.{bytes_eq, ◌&&◌, ◌||◌, ◌==◌, codes, if◌then◌else◌}
use Rattle.std.specs.List.{AllByRecursion, list_any}
use Rattle.std.proofs.lemmas.Slice.Eq.{bytes_eq-Decides}
use Rattle.std.proofs.lemmas.Bool.Decides.{Decides-eqb}
use Rattle.jmodel.specs.format.ClassFile.{ClassFile}
use Rattle.jmodel.specs.declared.typing.VType.TheVariants as type
use Rattle.objects.specs.semantics.Program.{Row, Program, row_at, is_instance, is_instance_in}
use Rattle.objects.specs.typing.TypeOrder.{object_class, context_class, is_array, is_class_name, without_last, named_by, descriptor_of, is_ended, is_within, IsWithin, is_class_above, is_element_within, element_read, name_read}
use Rattle.objects.specs.typing.TypeOrder as typing
use Rattle.objects.specs.linking.Layout as layout
use Rattle.objects.specs.linking.Layout.{class_instances, descriptor_read, declared_as, element_instances, array_row}
use Rattle.jmodel.specs.declared.class_file.FieldType.{FieldType}
use Rattle.jmodel.specs.declared.class_file.FieldType.TheVariants as types
use Rattle.jmodel.specs.format.DescriptorReading.{type_of}
use Rattle.objects.specs.declared.op.WordType.TheVariants as word
use Rattle.objects.specs.typing.Source.{element_descriptor}
use Rattle.objects.proofs.LibraryRows.{HasInstances, HasWithin, IsRow, for_any}
use Rattle.objects.proofs.ArrayTypes.{without_end, ended}

both : (a b : Bool) → (a && b) ≡ true → (a ≡ true) × (b ≡ true)
both true b e = (refl, e)
both false b e = cc

no_array : (n : List ℕ) → is_class_name n ≡ true → is_array n ≡ false
no_array [] e = refl
no_array (c ∷ cs) e = go (c == 91) e
  where
    go : (b : Bool) → not b ≡ true → b ≡ false
    go true e = cc
    go false e = refl

all_map_to : {A B : Type 0} (f : A → B) (Given : A → Type 0) (Rule : B → Type 0) → ((x : A) → Given x → Rule (f x)) → (xs : List A) → AllByRecursion Given xs → AllByRecursion Rule (map f xs)
all_map_to f Given Rule each [] all = tt
all_map_to f Given Rule each (x ∷ xs) all = (each x all.0, all_map_to f Given Rule each xs all.1)

-- a mapped name is one of the mapped ones
any_map : (f : List ℕ → List ℕ) (n : List ℕ) (xs : List (List ℕ)) → list_any (bytes_eq n) xs ≡ true → list_any (bytes_eq (f n)) (map f xs) ≡ true
any_map f n [] e = cc
any_map f n (x ∷ xs) e = go (bytes_eq n x) refl e (any_map f n xs)
  where
    go : (b : Bool) → bytes_eq n x ≡ b → (b || list_any (bytes_eq n) xs) ≡ true → (list_any (bytes_eq n) xs ≡ true → list_any (bytes_eq (f n)) (map f xs) ≡ true)
        → (bytes_eq (f n) (f x) || list_any (bytes_eq (f n)) (map f xs)) ≡ true
    go true is e rest =
        let same : bytes_eq (f n) (f x) ≡ true = (bytes_eq-Decides (f n) (f x)).1 (ap f ((bytes_eq-Decides n x).0 is)) in
        ap (λ b. b || list_any (bytes_eq (f n)) (map f xs)) same
    go false is e rest = right (bytes_eq (f n) (f x)) (list_any (bytes_eq (f n)) (map f xs)) (rest e)
      where
        right : (a b : Bool) → b ≡ true → (a || b) ≡ true
        right true b e = refl
        right false b e = e

right : (a b : Bool) → b ≡ true → (a || b) ≡ true
right true b e = refl
right false b e = e

left : (a b : Bool) → a ≡ true → (a || b) ≡ true
left true b e = refl
left false b e = cc

-- a class's name, what is read of it in a program, and what stands above that
pub record IsNameIn (Q : Program) (r e : List ℕ) : Type 0 where
  pub class : is_class_name e ≡ true
  pub above_it : is_class_above Q r (typing.class_read Q e) ≡ true

pub record IsKnownIn (cs : List ClassFile) (Q : Program) (m : List ℕ) : Type 0 where
  pub reads : List ℕ
  pub named_so : is_class_name reads ≡ true
  pub name : is_class_name m ≡ true
  pub laid : layout.class_read cs m ≡ reads
  pub typed : typing.class_read Q m ≡ reads
  pub instances : AllByRecursion (IsNameIn Q reads) (class_instances cs m)
  pub wider : (z : List ℕ) → is_class_above Q reads z ≡ true → list_any (bytes_eq z) (class_instances cs m) ≡ true

over_class : (Q : Program) (r z : List ℕ) → is_element_within Q (76 ∷ r ++ codes ";") (76 ∷ z ++ codes ";") ≡ is_class_above Q r z
over_class Q r z =
    ap (λ b. b && is_class_above Q (without_last (r ++ codes ";")) (without_last (z ++ codes ";"))) (ended z)
    ∙ ap (λ n. is_class_above Q n (without_last (z ++ codes ";"))) (without_end r) ∙ ap (is_class_above Q r) (without_end z)

module _ (cs : List ClassFile) (Q : Program) (object_read : typing.class_read Q object_class ≡ object_class) where
  abbrev Known : List ℕ → Type 0
  Known m = IsKnownIn cs Q m

  -- A descriptor of an element: a letter, a known class, or an array.
  pub data IsElement : List ℕ → Type 0 where
    letter : (x : ℕ) (no_bracket : (x == 91) ≡ false) (no_name : (x == 76) ≡ false) → IsElement (x ∷ [])
    of_class : (m : List ℕ) (known : Known m) → IsElement (76 ∷ m ++ codes ";")
    of_array : (d : List ℕ) (element : IsElement d) → IsElement (91 ∷ d)

  abbrev IsWithinOf : List ℕ → List ℕ → Type 0
  IsWithinOf d e = is_element_within Q (descriptor_read cs d) (element_read Q e) ≡ true

  read_class : (m : List ℕ) (k : Known m) → descriptor_read cs (76 ∷ m ++ codes ";") ≡ 76 ∷ k.reads ++ codes ";"
  read_class m k = ap (λ n. codes "L" ++ layout.class_read cs n ++ codes ";") (without_end m) ∙ ap (λ n. codes "L" ++ n ++ codes ";") k.laid

  class_element : (m : List ℕ) (k : Known m) (e : List ℕ) → IsNameIn Q k.reads e → IsWithinOf (76 ∷ m ++ codes ";") (descriptor_of e)
  class_element m k e a =
      let d : descriptor_of e ≡ 76 ∷ e ++ codes ";" = ap (λ b. if b then e else codes "L" ++ e ++ codes ";") (no_array e a.class) in
      let r : element_read Q (76 ∷ e ++ codes ";") ≡ 76 ∷ typing.class_read Q e ++ codes ";" = ap (λ n. codes "L" ++ typing.class_read Q n ++ codes ";") (without_end e) in
      ap (λ n. is_element_within Q n (element_read Q (descriptor_of e))) (read_class m k) ∙ ap (λ n. is_element_within Q (76 ∷ k.reads ++ codes ";") (element_read Q n)) d
      ∙ ap (is_element_within Q (76 ∷ k.reads ++ codes ";")) r ∙ over_class Q k.reads (typing.class_read Q e) ∙ a.above_it

  letter_over : (x y : ℕ) (ys : List ℕ) → (x == 91) ≡ false → (x == 76) ≡ false → is_element_within Q (x ∷ []) (y ∷ ys) ≡ bytes_eq (x ∷ []) (y ∷ ys)
  letter_over x y ys a b =
      ap (λ c. if c then (if y == 91 then is_element_within Q [] ys else (y == 76) && bytes_eq ys (object_class ++ codes ";"))
      else (if x == 76 then (y == 76) && (is_ended ys && is_class_above Q (without_last []) (without_last ys)) else bytes_eq (x ∷ []) (y ∷ ys))) a
      ∙ ap (λ c. if c then (y == 76) && (is_ended ys && is_class_above Q (without_last []) (without_last ys)) else bytes_eq (x ∷ []) (y ∷ ys)) b

  letter_instances : (x : ℕ) → (x == 91) ≡ false → (x == 76) ≡ false → element_instances cs (x ∷ []) ≡ (x ∷ []) ∷ []
  letter_instances x a b = rw (a, b) refl

  letter_within : (x : ℕ) → (x == 91) ≡ false → (x == 76) ≡ false → IsWithinOf (x ∷ []) (x ∷ [])
  letter_within x a b =
      let own : bytes_eq (x ∷ []) (x ∷ []) ≡ true = (bytes_eq-Decides (x ∷ []) (x ∷ [])).1 refl in
      let laid : descriptor_read cs (x ∷ []) ≡ x ∷ [] = rw (a, b) refl in
      let read : element_read Q (x ∷ []) ≡ x ∷ [] = rw (a, b) refl in
      ap (λ n. is_element_within Q n (element_read Q (x ∷ []))) laid ∙ ap (is_element_within Q (x ∷ [])) read ∙ letter_over x x [] a b ∙ own

  -- Object is above each array
  object_first : (d : List ℕ) → IsWithinOf (91 ∷ d) (descriptor_of object_class)
  object_first d =
      let read : element_read Q (descriptor_of object_class) ≡ descriptor_of object_class = ap (λ n. codes "L" ++ n ++ codes ";") object_read in
      ap (is_element_within Q (91 ∷ descriptor_read cs d)) read ∙ (bytes_eq-Decides (object_class ++ codes ";") (object_class ++ codes ";")).1 refl

  -- instances of an element may be elements where it may
  pub elements_within : (d : List ℕ) → IsElement d → AllByRecursion (IsWithinOf d) (element_instances cs d)
  elements_within d (letter x a b) = subst (AllByRecursion (IsWithinOf (x ∷ []))) (sym (letter_instances x a b)) (letter_within x a b, tt)
  elements_within d (of_class m k) =
      subst (λ n. AllByRecursion (IsWithinOf (76 ∷ m ++ codes ";")) (map descriptor_of (class_instances cs n))) (sym (without_end m))
      (all_map_to descriptor_of (IsNameIn Q k.reads) (IsWithinOf (76 ∷ m ++ codes ";")) (class_element m k) (class_instances cs m) k.instances)
  elements_within d (of_array e i) = (object_first e, all_map_to (λ (x : List ℕ). 91 ∷ x) (IsWithinOf e) (IsWithinOf (91 ∷ e)) (λ x h. h) (element_instances cs e) (elements_within e i))

  -- what may be an element where it may is one of its instances
  abbrev IsOf : List ℕ → List ℕ → Type 0
  IsOf d f = list_any (bytes_eq f) (element_instances cs d) ≡ true

  letter_of : (x : ℕ) → (x == 91) ≡ false → (x == 76) ≡ false → (f : List ℕ) → is_element_within Q (descriptor_read cs (x ∷ [])) f ≡ true → IsOf (x ∷ []) f
  letter_of x a b f e = subst (λ (l : List (List ℕ)). list_any (bytes_eq f) l ≡ true) (sym (letter_instances x a b)) (left (bytes_eq f (x ∷ [])) false (by f (ap (λ n. is_element_within Q n f) (sym read) ∙ e)))
    where
      read : descriptor_read cs (x ∷ []) ≡ x ∷ []
      read = rw (a, b) refl

      by : (f : List ℕ) → is_element_within Q (x ∷ []) f ≡ true → bytes_eq f (x ∷ []) ≡ true
      by [] e = cc
      by (y ∷ ys) e =
          let same : bytes_eq (x ∷ []) (y ∷ ys) ≡ true = sym (letter_over x y ys a b) ∙ e in
          (bytes_eq-Decides (y ∷ ys) (x ∷ [])).1 (sym ((bytes_eq-Decides (x ∷ []) (y ∷ ys)).0 same))

  class_of : (m : List ℕ) (k : Known m) (f : List ℕ) → is_element_within Q (descriptor_read cs (76 ∷ m ++ codes ";")) f ≡ true → IsOf (76 ∷ m ++ codes ";") f
  class_of m k f e = by f (ap (λ n. is_element_within Q n f) (sym (read_class m k)) ∙ e)
    where
      one : (y : ℕ) (ys : List ℕ) → ((y == 76) && (is_ended ys && is_class_above Q (without_last (k.reads ++ codes ";")) (without_last ys))) ≡ true → IsOf (76 ∷ m ++ codes ";") (y ∷ ys)
      one y ys e =
          let a = both (y == 76) _ e in
          let b = both (is_ended ys) _ a.1 in
          let letter : y ≡ 76 = (Decides-eqb y 76).0 a.0 in
          let tail : ys ≡ without_last ys ++ codes ";" = (bytes_eq-Decides ys (without_last ys ++ codes ";")).0 b.0 in
          let above_it : is_class_above Q k.reads (without_last ys) ≡ true = ap (λ n. is_class_above Q n (without_last ys)) (sym (without_end k.reads)) ∙ b.1 in
          let listed = k.wider (without_last ys) above_it in
          let name = for_any (IsNameIn Q k.reads) (without_last ys) (class_instances cs m) k.instances listed in
          let d : descriptor_of (without_last ys) ≡ y ∷ ys = ap (λ b. if b then without_last ys else codes "L" ++ without_last ys ++ codes ";") (no_array (without_last ys) name.class) ∙ ap (λ l. 76 ∷ l) (sym tail) ∙ ap (λ n. n ∷ ys) (sym letter) in
          subst (λ n. list_any (bytes_eq (y ∷ ys)) (map descriptor_of (class_instances cs n)) ≡ true) (sym (without_end m))
          (subst (λ f. list_any (bytes_eq f) (map descriptor_of (class_instances cs m)) ≡ true) d (any_map descriptor_of (without_last ys) (class_instances cs m) listed))

      by : (f : List ℕ) → is_element_within Q (76 ∷ k.reads ++ codes ";") f ≡ true → IsOf (76 ∷ m ++ codes ";") f
      by [] e = cc
      by (y ∷ ys) e = one y ys e

  array_of : (d : List ℕ) → ((f : List ℕ) → is_element_within Q (descriptor_read cs d) f ≡ true → IsOf d f) → (f : List ℕ) → is_element_within Q (91 ∷ descriptor_read cs d) f ≡ true → IsOf (91 ∷ d) f
  array_of d rest [] e = cc
  array_of d rest (y ∷ ys) e = go (y == 91) refl e
    where
      go : (b : Bool) → (y == 91) ≡ b → (if b then is_element_within Q (descriptor_read cs d) ys else (y == 76) && bytes_eq ys (object_class ++ codes ";")) ≡ true → IsOf (91 ∷ d) (y ∷ ys)
      go true is e =
          let bracket : y ≡ 91 = (Decides-eqb y 91).0 is in
          right (bytes_eq (y ∷ ys) (descriptor_of object_class)) _ (subst (λ n. list_any (bytes_eq (n ∷ ys)) (map (λ (x : List ℕ). 91 ∷ x) (element_instances cs d)) ≡ true) (sym bracket)
          (any_map (λ (x : List ℕ). 91 ∷ x) ys (element_instances cs d) (rest ys e)))
      go false is e =
          let a = both (y == 76) _ e in
          let letter : y ≡ 76 = (Decides-eqb y 76).0 a.0 in
          let tail : ys ≡ object_class ++ codes ";" = (bytes_eq-Decides ys (object_class ++ codes ";")).0 a.1 in
          let same : y ∷ ys ≡ descriptor_of object_class = ap (λ n. n ∷ ys) letter ∙ ap (λ l. 76 ∷ l) tail in
          left (bytes_eq (y ∷ ys) (descriptor_of object_class)) _ ((bytes_eq-Decides (y ∷ ys) (descriptor_of object_class)).1 same)

  pub elements_of : (d : List ℕ) → IsElement d → (f : List ℕ) → is_element_within Q (descriptor_read cs d) f ≡ true → IsOf d f
  elements_of d (letter x a b) f e = letter_of x a b f e
  elements_of d (of_class m k) f e = class_of m k f e
  elements_of d (of_array i element) f e = array_of i (elements_of i element) f e

  -- ---- rows of arrays

  abbrev whole : List ℕ → Row
  whole d = array_row cs (91 ∷ d)

  abbrev IsReadAs : List ℕ → List ℕ → Type 0
  IsReadAs d n = IsWithin Q (type.Ref (91 ∷ descriptor_read cs d)) (type.Ref (name_read Q n))

  top_read : (d : List ℕ) → IsReadAs d object_class
  top_read d = ap (λ n. is_within Q (type.Ref (91 ∷ descriptor_read cs d)) (type.Ref n)) object_read ∙ (bytes_eq-Decides object_class object_class).1 refl

  all_read : (d : List ℕ) → IsElement d → AllByRecursion (IsReadAs d) (whole d).instance_of
  all_read d i = (
    top_read d,
    all_map_to named_by (λ x. IsReadAs d (named_by x)) (IsReadAs d) (λ x h. h) (map (λ (x : List ℕ). 91 ∷ x) (element_instances cs d))
        (all_map_to (λ (x : List ℕ). 91 ∷ x) (IsWithinOf d) (λ x. IsReadAs d (named_by x)) (λ x h. h) (element_instances cs d) (elements_within d i)),
  )

  instance_at : (t : ℕ) (r : Row) → row_at Q t ≡ Some r → (n : List ℕ) → is_instance Q t n ≡ list_any (bytes_eq n) r.instance_of
  instance_at t r e n = ap (is_instance_in n) e

  pub array_instances : (t : ℕ) (d : List ℕ) → IsElement d → row_at Q t ≡ Some (whole d) → HasInstances Q t (whole d)
  array_instances t d i e n is = for_any (IsReadAs d) n (whole d).instance_of (all_read d i) (sym (instance_at t (whole d) e n) ∙ is)

  abbrev IsListed : List ℕ → List ℕ → Type 0
  IsListed d n = list_any (bytes_eq n) (whole d).instance_of ≡ true

  object_listed : (d : List ℕ) → IsListed d object_class
  object_listed d = left (bytes_eq object_class object_class) (list_any (bytes_eq object_class) (map named_by (map (λ (x : List ℕ). 91 ∷ x) (element_instances cs d)))) ((bytes_eq-Decides object_class object_class).1 refl)

  array_listed : (d : List ℕ) → IsElement d → (ys : List ℕ) → is_element_within Q (descriptor_read cs d) ys ≡ true → IsListed d (91 ∷ ys)
  array_listed d i ys e =
      right (bytes_eq (91 ∷ ys) object_class) _ (any_map named_by (91 ∷ ys) (map (λ (x : List ℕ). 91 ∷ x) (element_instances cs d)) (any_map (λ (x : List ℕ). 91 ∷ x) ys (element_instances cs d) (elements_of d i ys e)))

  listed : (d : List ℕ) → IsElement d → (n : List ℕ) → IsWithin Q (type.Ref (91 ∷ descriptor_read cs d)) (type.Ref n) → IsListed d n
  listed d i [] e = cc
  listed d i (y ∷ ys) e = go (y == 91) refl e
    where
      go : (b : Bool) → (y == 91) ≡ b → (if b then is_element_within Q (descriptor_read cs d) ys else bytes_eq (y ∷ ys) object_class) ≡ true → IsListed d (y ∷ ys)
      go true is e = subst (λ n. IsListed d (n ∷ ys)) (sym ((Decides-eqb y 91).0 is)) (array_listed d i ys e)
      go false is e = subst (IsListed d) (sym ((bytes_eq-Decides (y ∷ ys) object_class).0 e)) (object_listed d)

  pub array_within : (t : ℕ) (d : List ℕ) → IsElement d → row_at Q t ≡ Some (whole d) → HasWithin Q t (whole d)
  array_within t d i e n is = instance_at t (whole d) e n ∙ listed d i n is

  -- ---- what typing reads of an array's elements

  pub element_read_is : (d : List ℕ) → IsElement d → element_read Q d ≡ descriptor_read cs d
  element_read_is d (letter x a b) =
      let laid : descriptor_read cs (x ∷ []) ≡ x ∷ [] = rw (a, b) refl in
      let read : element_read Q (x ∷ []) ≡ x ∷ [] = rw (a, b) refl in
      read ∙ sym laid
  element_read_is d (of_class m k) =
      ap (λ n. codes "L" ++ typing.class_read Q n ++ codes ";") (without_end m) ∙ ap (λ n. codes "L" ++ n ++ codes ";") k.typed ∙ sym (read_class m k)
  element_read_is d (of_array e i) = ap (λ (x : List ℕ). 91 ∷ x) (element_read_is e i)

  -- what an array holds is what typing reads of it
  pub record IsHeld (d : List ℕ) : Type 0 where
    pub read : descriptor_read cs d ≡ element_descriptor (declared_as cs (type_of d))
    pub class : (declared_as cs (type_of d)).word ≡ word.Reference → (declared_as cs (type_of d)).class ≡ name_read Q (named_by d)

  cut : (m : List ℕ) → take (length (m ++ codes ";") - 1) (m ++ codes ";") ≡ m
  cut m = let e : length (m ++ codes ";") - 1 ≡ length m = omega (arith, length-append m (codes ";")) in ap (λ n. take n (m ++ codes ";")) e ∙ front m
    where
      front : (m : List ℕ) → take (length m) (m ++ codes ";") ≡ m
      front [] = refl
      front (c ∷ m) = ap (λ (l : List ℕ). c ∷ l) (front m)

  pub class_type : (m : List ℕ) → type_of (76 ∷ m ++ codes ";") ≡ types.Reference m
  unfolding type_of
  class_type m = ap types.Reference (cut m)

  array_type : (d : List ℕ) → type_of (91 ∷ d) ≡ types.Reference (91 ∷ d)
  unfolding type_of
  array_type d = refl

  pub class_held : (m : List ℕ) → Known m → IsHeld (76 ∷ m ++ codes ";")
  class_held m k = record {
    read = read_class m k ∙ sym (ap (λ (t : FieldType). element_descriptor (declared_as cs t)) (class_type m) ∙ ap (λ n. descriptor_of n) class_is ∙ ap (λ b. if b then k.reads else codes "L" ++ k.reads ++ codes ";") (no_array k.reads k.named_so));
    class = λ e. ap (λ (t : FieldType). (declared_as cs t).class) (class_type m) ∙ class_is ∙ sym (named_read ∙ k.typed);
  }
    where
      class_is : layout.name_read cs m ≡ k.reads
      class_is = ap (λ b. if b then descriptor_read cs m else layout.class_read cs m) (no_array m k.name) ∙ k.laid

      named_read : name_read Q (without_last (m ++ codes ";")) ≡ typing.class_read Q m
      named_read = ap (name_read Q) (without_end m) ∙ ap (λ b. if b then element_read Q m else typing.class_read Q m) (no_array m k.name)

  pub array_held : (d : List ℕ) → IsElement d → IsHeld (91 ∷ d)
  array_held d i = record {
    read = sym (ap (λ (t : FieldType). element_descriptor (declared_as cs t)) (array_type d));
    class = λ e. ap (λ (t : FieldType). (declared_as cs t).class) (array_type d) ∙ ap (λ (x : List ℕ). 91 ∷ x) (sym (element_read_is d i));
  }

  pub array_row_is : (t : ℕ) (d : List ℕ) → IsElement d → IsHeld d → row_at Q t ≡ Some (whole d) → IsRow Q t (whole d)
  array_row_is t d i h e = record {
    row = record { read = ap (λ (x : List ℕ). 91 ∷ x) h.read; element = h.class; apart = refl };
    instances = array_instances t d i e;
    within = array_within t d i e;
  }
