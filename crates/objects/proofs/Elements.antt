-- The order of arrays, by their descriptors; and what the type of an object says of its row.
use Rattle.std.proofs.Common.{◌≡◌, ◌≢◌, ℕ, List, [], ◌∷◌, ◌++◌, drop, Option, Some, None, Bool, true, false, refl, sym, ap, subst, ◌∙◌, arith, ◌⊎◌, inl, inr, ⊎_elim}
use Rattle.std.specs.Prelude.{slice_get, find, bytes_eq, codes, ◌||◌, ◌&&◌, ◌==◌, if◌then◌else◌}
use Rattle.std.proofs.lemmas.Slice.Eq.{bytes_eq-Decides}
use Rattle.std.proofs.lemmas.Bool.Decides.{nat_tests}
use Rattle.jmodel.specs.declared.typing.VType.{VType}
use Rattle.jmodel.specs.declared.typing.VType.TheVariants.{Ref}
use Rattle.objects.specs.declared.op.WordType.{WordType}
use Rattle.objects.specs.declared.op.WordType.TheVariants as word
use Rattle.objects.specs.semantics.Program.{Declared, Holds, Words, Elements, Row, Field, Program, row_at, field_at}
use Rattle.objects.specs.typing.TypeOrder.{object_class, IsWithin, classes_from, is_class_name, is_array, is_class_above, is_ended, without_last, named_by, element_class, descriptor_of, is_element_within, is_array_within}
use Rattle.objects.specs.typing.Typing.{begins, has_elements, direct_superclass}
use Rattle.objects.specs.typing.Source.{IsClass, IsArray, IsRowOf, IsDeclared, AreTypes, element_descriptor}
use Rattle.objects.specs.rewriting.Rewriting.{helped}
use Rattle.objects.proofs.Places.{get_front}
use Rattle.objects.proofs.WordTypes.{IsIntType}
use Rattle.objects.proofs.Order.{Among, either, first, later, plain_name, Above, by_class, class_row, object_top, above_order, array_above, by_found, free_second, free_is}

-- what is between L and the semicolon
pub inner_name : (n : List ℕ) → without_last (n ++ codes ";") ≡ n
inner_name [] = refl
inner_name (c ∷ []) = refl
inner_name (c ∷ d ∷ n) = ap (λ (m : List ℕ). c ∷ m) (inner_name (d ∷ n))

-- a test doesn't come out both ways
pub never : (b : Bool) → b ≡ true → b ≡ false → ⊥
never true e f = cc
never false e f = cc

pub both : (a b : Bool) → (a && b) ≡ true → (a ≡ true) × (b ≡ true)
both true b h = (refl, h)
both false b h = cc

if_true : {A : Type 0} (b : Bool) (x y : A) → b ≡ true → (if b then x else y) ≡ x
if_true true x y e = refl
if_true false x y e = cc

if_false : {A : Type 0} (b : Bool) (x y : A) → b ≡ false → (if b then x else y) ≡ y
if_false true x y e = cc
if_false false x y e = refl

same_number : (c d : ℕ) → (c == d) ≡ true → c ≡ d
same_number c d e = grind (arith, nat_tests)

is_number : (c d : ℕ) → c ≡ d → (c == d) ≡ true
is_number c d e = grind (arith, nat_tests)

no_number : (c d : ℕ) → c ≢ d → (c == d) ≡ false
no_number c d e = grind (arith, nat_tests)

other_number : (c d : ℕ) → (c == d) ≡ false → c ≢ d
other_number c d e = grind (arith, nat_tests)

module _ (P : Program) where
  -- how one descriptor is at most another
  pub data Shape (c : ℕ) (m : List ℕ) (d : ℕ) (n : List ℕ) : Type 0 where
    deeper : c ≡ 91 → d ≡ 91 → is_element_within P m n ≡ true → Shape c m d n
    under_object : c ≡ 91 → d ≡ 76 → n ≡ object_class ++ codes ";" → Shape c m d n
    class : c ≡ 76 → d ≡ 76 → n ≡ without_last n ++ codes ";" → is_class_above P (without_last m) (without_last n) ≡ true → Shape c m d n
    same : c ≢ 91 → c ≢ 76 → c ∷ m ≡ d ∷ n → Shape c m d n

  pub shape : (c : ℕ) (m : List ℕ) (d : ℕ) (n : List ℕ) → is_element_within P (c ∷ m) (d ∷ n) ≡ true → Shape c m d n
  shape c m d n h = by (c == 91) refl h
    where
      by_class : (b : Bool) → (c == 76) ≡ b → (c == 91) ≡ false → (if b then (d == 76) && (is_ended n && is_class_above P (without_last m) (without_last n)) else bytes_eq (c ∷ m) (d ∷ n)) ≡ true → Shape c m d n
      by_class true is off h =
          let x = both (d == 76) (is_ended n && is_class_above P (without_last m) (without_last n)) h in
          let y = both (is_ended n) (is_class_above P (without_last m) (without_last n)) x.1 in
          class (same_number c 76 is) (same_number d 76 x.0) ((bytes_eq-Decides n (without_last n ++ codes ";")).0 y.0) y.1
      by_class false is off h = same (other_number c 91 off) (other_number c 76 is) ((bytes_eq-Decides (c ∷ m) (d ∷ n)).0 h)

      by_array : (b : Bool) → (d == 91) ≡ b → (c == 91) ≡ true → (if b then is_element_within P m n else (d == 76) && bytes_eq n (object_class ++ codes ";")) ≡ true → Shape c m d n
      by_array true is on h = deeper (same_number c 91 on) (same_number d 91 is) h
      by_array false is on h =
          let x = both (d == 76) (bytes_eq n (object_class ++ codes ";")) h in
          under_object (same_number c 91 on) (same_number d 76 x.0) ((bytes_eq-Decides n (object_class ++ codes ";")).0 x.1)

      by : (b : Bool) → (c == 91) ≡ b → (if b then (if d == 91 then is_element_within P m n else (d == 76) && bytes_eq n (object_class ++ codes ";")) else (if c == 76 then (d == 76) && (is_ended n && is_class_above P (without_last m) (without_last n)) else bytes_eq (c ∷ m) (d ∷ n))) ≡ true → Shape c m d n
      by true is h = by_array (d == 91) refl is h
      by false is h = by_class (c == 76) refl is h

  pub shaped : (c : ℕ) (m : List ℕ) (d : ℕ) (n : List ℕ) → Shape c m d n → is_element_within P (c ∷ m) (d ∷ n) ≡ true
  shaped c m d n (deeper x y h) = let a = is_number c 91 x in let b = is_number d 91 y in rw (a, b) h
  shaped c m d n (under_object x y h) =
      let a = is_number c 91 x in
      let b : (d == 91) ≡ false = grind (arith, nat_tests) in
      let e = is_number d 76 y in
      rw (a, b, e) ((bytes_eq-Decides n (object_class ++ codes ";")).1 h)
  shaped c m d n (class x y z h) =
      let a : (c == 91) ≡ false = grind (arith, nat_tests) in
      let b = is_number c 76 x in
      let e = is_number d 76 y in
      let f = (bytes_eq-Decides n (without_last n ++ codes ";")).1 z in
      rw (a, b, e, f) h
  shaped c m d n (same x y h) =
      let a = no_number c 91 x in
      let b = no_number c 76 y in
      rw (a, b) ((bytes_eq-Decides (c ∷ m) (d ∷ n)).1 h)

  -- how one class or array is at most another
  pub data Within (l m : List ℕ) : Type 0 where
    arrays : is_array l ≡ true → is_array m ≡ true → is_element_within P (drop 1 l) (drop 1 m) ≡ true → Within l m
    object : is_array l ≡ true → m ≡ object_class → Within l m
    classes : is_array l ≡ false → is_class_above P l m ≡ true → Within l m

  pub within : (l m : List ℕ) → IsWithin P (Ref l) (Ref m) → Within l m
  within l m h = by (is_array l) refl h
    where
      by_array : (b : Bool) → is_array m ≡ b → is_array l ≡ true → (if b then is_element_within P (drop 1 l) (drop 1 m) else bytes_eq m object_class) ≡ true → Within l m
      by_array true is on h = arrays on is h
      by_array false is on h = object on ((bytes_eq-Decides m object_class).0 h)

      by : (b : Bool) → is_array l ≡ b → (if b then is_array_within P l m else is_class_above P l m) ≡ true → Within l m
      by true is h = by_array (is_array m) refl is h
      by false is h = classes is h

  pub is_within_by : (l m : List ℕ) → Within l m → IsWithin P (Ref l) (Ref m)
  is_within_by l m (arrays x y h) = rw (x, y) h
  is_within_by l m (object x h) = let e = ap (λ (m : List ℕ). is_array_within P l m) h in rw x e
  is_within_by l m (classes x h) = rw x h

  -- the elements that an array of references has are at most what typing reads of its descriptor
  reference_shape : (n : List ℕ) (e : ℕ) (es : List ℕ) → is_element_within P (descriptor_of n) (e ∷ es) ≡ true → ((e ≡ 91) ⊎ (e ≡ 76)) × IsWithin P (Ref n) (Ref (named_by (e ∷ es)))
  reference_shape n e es h = by n (is_array n) refl h
    where
      named : e ≡ 76 → named_by (e ∷ es) ≡ without_last es
      named x = let b = is_number e 76 x in rw b refl

      unnamed : e ≡ 91 → named_by (e ∷ es) ≡ e ∷ es
      unnamed x = let b : (e == 76) ≡ false = grind (arith, nat_tests) in rw b refl

      of_array : (c : ℕ) (cs : List ℕ) → is_array (c ∷ cs) ≡ true → Shape c cs e es → ((e ≡ 91) ⊎ (e ≡ 76)) × IsWithin P (Ref (c ∷ cs)) (Ref (named_by (e ∷ es)))
      of_array c cs is (deeper x y h) = (inl y, subst (λ (n : List ℕ). IsWithin P (Ref (c ∷ cs)) (Ref n)) (sym (unnamed y)) (is_within_by (c ∷ cs) (e ∷ es) (arrays is (is_number e 91 y) h)))
      of_array c cs is (under_object x y h) =
          (inr y, subst (λ (n : List ℕ). IsWithin P (Ref (c ∷ cs)) (Ref n)) (sym (named y)) (is_within_by (c ∷ cs) (without_last es) (object is (ap without_last h ∙ inner_name object_class))))
      of_array c cs is (class x y g h) = absurd (let t = same_number c 91 is in omega (arith, t, x))
      of_array c cs is (same x y h) = absurd (x (same_number c 91 is))

      of_class : (n : List ℕ) → is_array n ≡ false → Shape 76 (n ++ codes ";") e es → ((e ≡ 91) ⊎ (e ≡ 76)) × IsWithin P (Ref n) (Ref (named_by (e ∷ es)))
      of_class n is (deeper x y h) = absurd (omega (arith, x))
      of_class n is (under_object x y h) = absurd (omega (arith, x))
      of_class n is (class x y g h) =
          (inr y, subst (λ (m : List ℕ). IsWithin P (Ref n) (Ref m)) (sym (named y)) (is_within_by n (without_last es) (classes is (subst (λ (l : List ℕ). is_class_above P l (without_last es) ≡ true) (inner_name n) h))))
      of_class n is (same x y h) = absurd (y refl)

      by : (n : List ℕ) (b : Bool) → is_array n ≡ b → is_element_within P (if b then n else codes "L" ++ n ++ codes ";") (e ∷ es) ≡ true → ((e ≡ 91) ⊎ (e ≡ 76)) × IsWithin P (Ref n) (Ref (named_by (e ∷ es)))
      by [] true is h = cc
      by (c ∷ cs) true is h = of_array c cs is (shape c cs e es h)
      by n false is h = of_class n is (shape 76 (n ++ codes ";") e es h)

  -- a primitive type is at most itself alone
  pub primitive_shape : (c e : ℕ) (es : List ℕ) → c ≢ 91 → c ≢ 76 → is_element_within P (c ∷ []) (e ∷ es) ≡ true → c ∷ [] ≡ e ∷ es
  primitive_shape c e es x y h = by (shape c [] e es h)
    where
      by : Shape c [] e es → c ∷ [] ≡ e ∷ es
      by (deeper z w g) = absurd (x z)
      by (under_object z w g) = absurd (x z)
      by (class z w g i) = absurd (y z)
      by (same z w g) = g

module _ (P : Program) (C : AreTypes P) where
  element_order : (l m n : List ℕ) → is_element_within P l m ≡ true → is_element_within P m n ≡ true → is_element_within P l n ≡ true
  element_order [] m n h g = cc
  element_order (c ∷ l) [] n h g = cc
  element_order (c ∷ l) (d ∷ m) [] h g = cc
  element_order (c ∷ l) (d ∷ m) (e ∷ n) h g = shaped P c l e n (by (element_order l m n) (shape P c l d m h) (shape P d m e n g))
    where
      below_object : without_last m ≡ object_class → n ≡ without_last n ++ codes ";" → is_class_above P (without_last m) (without_last n) ≡ true → n ≡ object_class ++ codes ";"
      below_object s f h = f ∙ ap (λ (n : List ℕ). n ++ codes ";") (object_top P C (without_last n) (subst (λ (m : List ℕ). Above P C m (without_last n)) s h))

      by : (is_element_within P l m ≡ true → is_element_within P m n ≡ true → is_element_within P l n ≡ true) → Shape P c l d m → Shape P d m e n → Shape P c l e n
      by rest (deeper x y h) (deeper z w g) = deeper x w (rest h g)
      by rest (deeper x y h) (under_object z w g) = under_object x w g
      by rest (deeper x y h) (class z w g i) = absurd (omega (arith, y, z))
      by rest (deeper x y h) (same z w g) = absurd (z y)
      by rest (under_object x y h) (deeper z w g) = absurd (omega (arith, y, z))
      by rest (under_object x y h) (under_object z w g) = absurd (omega (arith, y, z))
      by rest (under_object x y h) (class z w g i) = under_object x w (below_object (ap without_last h ∙ inner_name object_class) g i)
      by rest (under_object x y h) (same z w g) = absurd (w y)
      by rest (class x y h i) (deeper z w g) = absurd (omega (arith, y, z))
      by rest (class x y h i) (under_object z w g) = absurd (omega (arith, y, z))
      by rest (class x y h i) (class z w g j) = class x w g (above_order P C (without_last l) (without_last m) (without_last n) i j)
      by rest (class x y h i) (same z w g) = absurd (w y)
      by rest (same x y h) s = let one : c ≡ d = cc in let tail : l ≡ m = cc in subst (λ (c : ℕ). Shape P c l e n) (sym one) (subst (λ (l : List ℕ). Shape P d l e n) (sym tail) s)

  pub order : (l m n : List ℕ) → IsWithin P (Ref l) (Ref m) → IsWithin P (Ref m) (Ref n) → IsWithin P (Ref l) (Ref n)
  order l m n h g = is_within_by P l n (by (within P l m h) (within P m n g))
    where
      by : Within P l m → Within P m n → Within P l n
      by (arrays x y h) (arrays z w g) = arrays x w (element_order (drop 1 l) (drop 1 m) (drop 1 n) h g)
      by (arrays x y h) (object z g) = object x g
      by (arrays x y h) (classes z g) = absurd (let fall : ⊥ = cc in fall)
      by (object x h) (arrays z w g) = absurd (let e : is_array m ≡ false = ap is_array h in let fall : ⊥ = cc in fall)
      by (object x h) (object z g) = absurd (let e : is_array m ≡ false = ap is_array h in let fall : ⊥ = cc in fall)
      by (object x h) (classes z g) = object x (object_top P C n (subst (λ (m : List ℕ). Above P C m n) h g))
      by (classes x h) (arrays z w g) = absurd (let e = array_above P C l m h z in let fall : ⊥ = cc in fall)
      by (classes x h) (object z g) = absurd (let e = array_above P C l m h z in let fall : ⊥ = cc in fall)
      by (classes x h) (classes z g) = classes x (above_order P C l m n h g)

  -- what is at most an array is an array, whose elements are at most those
  pub record IsArrayRow (r : Row) (n : List ℕ) : Type 0 where
    pub declared : Declared
    pub name : List ℕ
    pub holds : r.holds ≡ Elements declared name
    pub array : IsArray P r declared name
    pub elements : is_element_within P (element_descriptor declared) (drop 1 n) ≡ true

  pub array_row : (t : ℕ) (r : Row) → row_at P t ≡ Some r → (n : List ℕ) → is_array n ≡ true → IsWithin P (Ref r.read) (Ref n) → IsArrayRow r n
  array_row t r is n array h = by r.holds refl (C.rows t r is)
    where
      no_class : is_array r.read ≡ false → IsArrayRow r n
      no_class plain = go (within P r.read n h)
        where
          go : Within P r.read n → IsArrayRow r n
          go (arrays x y g) = absurd (let fall : ⊥ = cc in fall)
          go (object x g) = absurd (let fall : ⊥ = cc in fall)
          go (classes x g) = absurd (let e = array_above P C r.read n g array in let fall : ⊥ = cc in fall)

      by : (x : Holds) → r.holds ≡ x → IsRowOf P r x → IsArrayRow r n
      by (Words ds) e row = ⊎_elim
          (λ (b : (r.lineage ≡ []) × (r.read ≡ [])). no_class (ap is_array b.1))
          (λ (c : IsClass P r ds). no_class (ap is_array c.read ∙ plain_name r.name c.named))
          row
      by (Elements d name) e row = go (within P r.read n h)
        where
          go : Within P r.read n → IsArrayRow r n
          go (arrays x y g) = record { declared = d; name = name; holds = e; array = row; elements = ap (λ (m : List ℕ). is_element_within P (drop 1 m) (drop 1 n)) (sym row.read) ∙ g }
          go (object x g) = absurd (let e : is_array n ≡ false = ap is_array g in let fall : ⊥ = cc in fall)
          go (classes x g) = absurd (let e = ap is_array row.read in let fall : ⊥ = cc in fall)

  -- a type is at most each class of its lineage
  pub class_within : (t : ℕ) (r : Row) → row_at P t ≡ Some r → (c : List ℕ) → Among c r.lineage → IsWithin P (Ref r.read) (Ref c)
  class_within t r is c h =
      let x = class_row P C t r is c h in
      let k = x.1 in
      let plain : is_array r.read ≡ false = ap is_array k.read ∙ plain_name r.name k.named in
      let above : classes_from P r.read ≡ r.lineage = ap (classes_from P) k.read ∙ above_name r x.0 k in
      is_within_by P r.read c (classes plain (subst (Among c) (sym above) h))
    where
      above_name : (r : Row) (ds : List Declared) → IsClass P r ds → classes_from P r.name ≡ r.lineage
      above_name r ds k = let found = k.found in rw found refl

  -- and each class is at most the next one above it
  pub superclass_within : (n c : List ℕ) → direct_superclass P n ≡ Some c → IsWithin P (Ref n) (Ref c)
  superclass_within n c h = by (is_array n) refl
    where
      second : (ns : List (List ℕ)) → slice_get ns 1 ≡ Some c → Among c ns
      second [] e = cc
      second (a ∷ []) e = cc
      second (a ∷ b ∷ ns) e = let s : b ≡ c = cc in later c a (b ∷ ns) (subst (λ (b : List ℕ). Among c (b ∷ ns)) (sym s) (first c ns))

      above : Above P C n c
      above = second (classes_from P n) h

      by : (b : Bool) → is_array n ≡ b → IsWithin P (Ref n) (Ref c)
      by false is = is_within_by P n c (classes is above)
      by true is = by_found P C (IsWithin P (Ref n) (Ref c)) n
          (λ t r row name lineage.
          let x = class_row P C t r row c (subst (Among c) lineage above) in
          let k = x.1 in
          absurd (let p : is_array n ≡ false = ap is_array (sym name) ∙ plain_name r.name k.named in let fall : ⊥ = cc in fall))
          (λ free. ⊎_elim
          (λ (e : c ≡ object_class). is_within_by P n c (object is e))
          (λ (p : is_array n ≡ false). absurd (let fall : ⊥ = cc in fall))
          (free_second P C n free c h))

-- what the elements of an array are that has elements of a type
pub record AreElements (P : Program) (t : WordType) (d : Declared) (n : List ℕ) : Type 0 where
  pub word_is : d.word ≡ helped (Some (Ref n)) t
  pub class : t ≡ word.Reference → IsWithin P (Ref d.class) (Ref (element_class n))

module _ (P : Program) where
  abbrev declared : WordType → List ℕ → Declared
  declared w c = record { word = w; class = c }

  abbrev HasElement : WordType → List ℕ → ℕ → Type 0
  HasElement w c x = is_element_within P (element_descriptor (declared w c)) (x ∷ []) ≡ true

  no_reference : (c : List ℕ) (x : ℕ) → x ≢ 91 → x ≢ 76 → is_element_within P (descriptor_of c) (x ∷ []) ≡ true → ⊥
  no_reference c x p q h = ⊎_elim p q (reference_shape P c x [] h).0

  boolean_elements : (w : WordType) (c : List ℕ) → HasElement w c 90 → w ≡ word.Boolean
  boolean_elements word.Boolean c h = refl
  boolean_elements word.Reference c h = absurd (no_reference c 90 (λ e. omega arith) (λ e. omega arith) h)
  boolean_elements w c h = cc

  byte_elements : (w : WordType) (c : List ℕ) → HasElement w c 66 → w ≡ word.Byte
  byte_elements word.Byte c h = refl
  byte_elements word.Reference c h = absurd (no_reference c 66 (λ e. omega arith) (λ e. omega arith) h)
  byte_elements w c h = cc

  char_elements : (w : WordType) (c : List ℕ) → HasElement w c 67 → w ≡ word.Char
  char_elements word.Char c h = refl
  char_elements word.Reference c h = absurd (no_reference c 67 (λ e. omega arith) (λ e. omega arith) h)
  char_elements w c h = cc

  short_elements : (w : WordType) (c : List ℕ) → HasElement w c 83 → w ≡ word.Short
  short_elements word.Short c h = refl
  short_elements word.Reference c h = absurd (no_reference c 83 (λ e. omega arith) (λ e. omega arith) h)
  short_elements w c h = cc

  int_elements : (w : WordType) (c : List ℕ) → HasElement w c 73 → w ≡ word.Int
  int_elements word.Int c h = refl
  int_elements word.Reference c h = absurd (no_reference c 73 (λ e. omega arith) (λ e. omega arith) h)
  int_elements w c h = cc

  long_elements : (w : WordType) (c : List ℕ) → HasElement w c 74 → w ≡ word.Long
  long_elements word.Long c h = refl
  long_elements word.Reference c h = absurd (no_reference c 74 (λ e. omega arith) (λ e. omega arith) h)
  long_elements w c h = cc

  other : (c e : ℕ) (es : List ℕ) → c ≢ 91 → c ≢ 76 → (e ≡ 91) ⊎ (e ≡ 76) → is_element_within P (c ∷ []) (e ∷ es) ≡ true → ⊥
  other c e es p q x h = let f = primitive_shape P c e es p q h in let s : c ≡ e = cc in ⊎_elim (λ (y : e ≡ 91). p (s ∙ y)) (λ (y : e ≡ 76). q (s ∙ y)) x

  reference_elements : (w : WordType) (c : List ℕ) (e : ℕ) (es : List ℕ) → (e ≡ 91) ⊎ (e ≡ 76) → is_element_within P (element_descriptor (declared w c)) (e ∷ es) ≡ true → (w ≡ word.Reference) × IsWithin P (Ref c) (Ref (named_by (e ∷ es)))
  reference_elements word.Reference c e es x h = (refl, (reference_shape P c e es h).1)
  reference_elements word.Boolean c e es x h = absurd (other 90 e es (λ e. omega arith) (λ e. omega arith) x h)
  reference_elements word.Byte c e es x h = absurd (other 66 e es (λ e. omega arith) (λ e. omega arith) x h)
  reference_elements word.Char c e es x h = absurd (other 67 e es (λ e. omega arith) (λ e. omega arith) x h)
  reference_elements word.Short c e es x h = absurd (other 83 e es (λ e. omega arith) (λ e. omega arith) x h)
  reference_elements word.Int c e es x h = absurd (other 73 e es (λ e. omega arith) (λ e. omega arith) x h)
  reference_elements word.Long c e es x h = absurd (other 74 e es (λ e. omega arith) (λ e. omega arith) x h)

  -- the elements of an array of that name
  elements_at : (d : Declared) (n m : List ℕ) → bytes_eq n m ≡ true → is_element_within P (element_descriptor d) (drop 1 n) ≡ true → is_element_within P (element_descriptor d) (drop 1 m) ≡ true
  elements_at d n m h g = subst (λ (m : List ℕ). is_element_within P (element_descriptor d) (drop 1 m) ≡ true) ((bytes_eq-Decides n m).0 h) g

  pub elements_are : (t : WordType) (d : Declared) (n : List ℕ) → has_elements t n ≡ true → is_element_within P (element_descriptor d) (drop 1 n) ≡ true → AreElements P t d n
  elements_are word.Reference d n h g = by (drop 1 n) refl h g
    where
      first_is : (b c : Bool) (e : ℕ) → (e == 76) ≡ b → (e == 91) ≡ c → (b || c) ≡ true → (e ≡ 91) ⊎ (e ≡ 76)
      first_is true c e x y h = inr (same_number e 76 x)
      first_is false true e x y h = inl (same_number e 91 y)
      first_is false false e x y h = cc

      by : (m : List ℕ) → drop 1 n ≡ m → (begins 76 m || begins 91 m) ≡ true → is_element_within P (element_descriptor d) m ≡ true → AreElements P word.Reference d n
      by [] s h g = cc
      by (e ∷ es) s h g =
          let x = reference_elements d.word d.class e es (first_is (e == 76) (e == 91) e refl refl h) g in
          record { word_is = x.0; class = λ z. subst (λ (m : List ℕ). IsWithin P (Ref d.class) (Ref (named_by m))) (sym s) x.1 }
  elements_are word.Byte d n h g = by (bytes_eq n (codes "[Z")) refl (bytes_eq n (codes "[B")) refl h
    where
      no_class : word.Byte ≡ word.Reference → IsWithin P (Ref d.class) (Ref (element_class n))
      no_class e = let fall : ⊥ = cc in absurd fall

      by : (z : Bool) → bytes_eq n (codes "[Z") ≡ z → (b : Bool) → bytes_eq n (codes "[B") ≡ b → (b || z) ≡ true → AreElements P word.Byte d n
      by true is b other h = record { word_is = rw is (boolean_elements d.word d.class (elements_at d n (codes "[Z") is g)); class = no_class }
      by false is true other h = record { word_is = rw is (byte_elements d.word d.class (elements_at d n (codes "[B") other g)); class = no_class }
      by false is false other h = cc
  elements_are word.Long d n h g = record { word_is = long_elements d.word d.class (elements_at d n (codes "[J") h g); class = λ e. let fall : ⊥ = cc in absurd fall }
  elements_are word.Boolean d n h g = record { word_is = boolean_elements d.word d.class (elements_at d n (codes "[Z") h g); class = λ e. let fall : ⊥ = cc in absurd fall }
  elements_are word.Char d n h g = record { word_is = char_elements d.word d.class (elements_at d n (codes "[C") h g); class = λ e. let fall : ⊥ = cc in absurd fall }
  elements_are word.Short d n h g = record { word_is = short_elements d.word d.class (elements_at d n (codes "[S") h g); class = λ e. let fall : ⊥ = cc in absurd fall }
  elements_are word.Int d n h g = record { word_is = int_elements d.word d.class (elements_at d n (codes "[I") h g); class = λ e. let fall : ⊥ = cc in absurd fall }

-- elements of ints
pub int_helped : (u : Option VType) (t : WordType) → IsIntType t → IsIntType (helped u t)
int_helped (Some (Ref n)) word.Byte i = by (bytes_eq n (codes "[Z"))
  where
    by : (b : Bool) → IsIntType (if b then word.Boolean else word.Byte)
    by true = tt
    by false = tt
int_helped (Some (Ref n)) t i = i
int_helped u t i = i

module _ (P : Program) (C : AreTypes P) where
  -- a field of a class is at its place in each class under it
  module _ (d : Row) (words : List Declared) (i : ℕ) (w : Declared) (class : IsClass P d words) (holds : d.holds ≡ Words words) (there : slice_get words i ≡ Some w) where
    abbrev HasPlace : Row → List Declared → Type 0
    HasPlace r ds = r.holds ≡ Words ds → Among d.name r.lineage → slice_get ds i ≡ Some w

    same_class : (r : Row) (ds : List Declared) → IsClass P r ds → r.holds ≡ Words ds → d.name ≡ r.name → slice_get ds i ≡ Some w
    same_class r ds c h e =
        let one : d ≡ r = let f : Some d ≡ Some r = sym class.found ∙ ap (λ (n : List ℕ). find (λ (k : Row). bytes_eq k.name n) P.types) e ∙ c.found in cc in
        let both_hold : Words words ≡ Words ds = sym holds ∙ ap (λ (r : Row). r.holds) one ∙ h in
        let s : words ≡ ds = cc in
        ap (λ (ds : List Declared). slice_get ds i) (sym s) ∙ there

    in_class : (r : Row) (ds : List Declared) → IsClass P r ds → HasPlace r ds
    in_class = by_class P C HasPlace
        (λ r ds c o e h a. ⊎_elim (same_class r ds c h) (λ (f : Among d.name []). let no : ⊥ = cc in absurd no) (either d.name r.name [] (subst (Among d.name) e a)))
        (λ r ds c u k rest h a. ⊎_elim
        (same_class r ds c h)
        (λ (f : Among d.name u.upper.lineage). ap (λ (ds : List Declared). slice_get ds i) u.words_are ∙ get_front u.upper_words u.own i w (rest u.holds f))
        (either d.name r.name u.upper.lineage (subst (Among d.name) u.lineage a)))

  pub field_place : (i : ℕ) (f : Field) → field_at P i ≡ Some f → f.base ≡ None → (t : ℕ) (r : Row) → row_at P t ≡ Some r → IsWithin P (Ref r.read) (Ref f.class) → (ds : List Declared) × (r.holds ≡ Words ds) × (slice_get ds f.index ≡ Some f.declared)
  field_place i f at own t r is h = by r.holds refl (C.rows t r is)
    where
      x : IsDeclared P f
      x = C.fields i f at own

      named : is_class_name f.class ≡ true
      named = ap is_class_name (sym x.name) ∙ x.class.named

      no_array : is_array r.read ≡ true → ⊥
      no_array array = go (within P r.read f.class h)
        where
          go : Within P r.read f.class → ⊥
          go (arrays p y g) = never (is_array f.class) y (plain_name f.class named)
          go (object y g) = x.below g
          go (classes y g) = never (is_array r.read) array y

      above : Above P C r.read f.class
      above = go (within P r.read f.class h)
        where
          go : Within P r.read f.class → Above P C r.read f.class
          go (arrays y z g) = absurd (no_array y)
          go (object y g) = absurd (no_array y)
          go (classes y g) = g

      no_base : r.read ≡ [] → ⊥
      no_base e = by_found P C ⊥ []
          (λ s d row name lineage.
          let k = class_row P C s d row f.class (subst (Among f.class) (ap (classes_from P) e ∙ lineage) above) in
          never (is_class_name d.name) k.1.named (ap is_class_name name))
          (λ free. go (subst (Among f.class) (ap (classes_from P) e ∙ free_is P C [] free) above))
        where
          go : Among f.class ([] ∷ object_class ∷ []) → ⊥
          go a = ⊎_elim
              (λ (s : f.class ≡ []). never (is_class_name f.class) named (ap is_class_name s))
              (λ (b : Among f.class (object_class ∷ [])). ⊎_elim x.below (λ (c : Among f.class []). let no : ⊥ = cc in no) (either f.class object_class [] b))
              (either f.class [] (object_class ∷ []) a)

      by : (y : Holds) → r.holds ≡ y → IsRowOf P r y → (ds : List Declared) × (r.holds ≡ Words ds) × (slice_get ds f.index ≡ Some f.declared)
      by (Words ds) e row = ⊎_elim
          (λ (b : (r.lineage ≡ []) × (r.read ≡ [])). absurd (no_base b.1))
          (λ (c : IsClass P r ds).
          let found = c.found in
          let lineage : classes_from P r.name ≡ r.lineage = rw found refl in
          let among : Among x.row.name r.lineage = subst (λ (n : List ℕ). Among n r.lineage) (sym x.name) (subst (Among f.class) (ap (classes_from P) c.read ∙ lineage) above) in
          (ds, e, in_class x.row x.words f.index f.declared x.class x.holds x.place r ds c e among))
          row
      by (Elements d name) e row = absurd (no_array (ap is_array row.read))
