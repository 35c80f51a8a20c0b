-- A descriptor that is read is one, and a descriptor is read.
use Rattle.std.proofs.Common.{◌≡◌, ℕ, zero, suc, ◌+◌, ◌-◌, ◌<◌, ◌≤◌, ◌≢◌, Bool, true, false, not, cond, eqb, ltb, ◌||◌, List, [], ◌∷◌, ◌++◌, length, take, drop, replicate, Option, Some, None, refl, sym, ap, subst, ◌∙◌, append_assoc, arith}
use Rattle.std.specs.Prelude.{position, is_some}
use Rattle.std.specs.List.{AllByRecursion, position_or_len}
use Rattle.std.proofs.lemmas.Bool.{eqb-true, eqb-false, ltb-true, ltb-false, lt-ltb, le-ltb, ne_eqb}
use Rattle.std.proofs.lemmas.List.{take_at, drop_at, length-append, append-nil, length-replicate, nil_from_length}
use Rattle.jmodel.specs.declared.class_file.FieldType.{FieldType}
use Rattle.jmodel.specs.declared.class_file.FieldType.TheVariants.{Boolean, Byte, Char, Short, Int, Long, Float, Double, Reference}
use Rattle.jmodel.specs.format.Descriptor.{is_array_name, field_descriptor, IsClassName, IsElement, IsReferenceName, IsFieldType, DescribesField}
use Rattle.jmodel.specs.format.DescriptorReading.{base, class_end, class_rest, element_rest, brackets, type_rest, is_end, is_field_descriptor, type_of, before}

-- which way a test went
by_bool : {P : Type 0} (b : Bool) → (b ≡ true → P) → (b ≡ false → P) → P
by_bool true t f = t refl
by_bool false t f = f refl

-- ---- letters

-- a letter, and the descriptor that it is
abbrev IsLetter : ℕ → FieldType → Type 0
IsLetter c t = (field_descriptor t ≡ c ∷ []) × IsElement t × IsFieldType t × (is_array_name (c ∷ []) ≡ false)

letters : (c : ℕ) (t : FieldType) → base c ≡ Some t → IsLetter c t
letters c t e = one (eqb c 66) refl e where
  abbrev_is : ℕ
  abbrev_is = c

  eight : (b : Bool) → eqb c 90 ≡ b → cond b (Some Boolean) None ≡ Some t → IsLetter c t
  eight true p h = let i : Boolean ≡ t = cc in let k = eqb-true c 90 p in subst (IsLetter c) i (subst (λ (d : ℕ). IsLetter d Boolean) (sym k) (refl, tt, tt, refl))
  eight false p h = absurd cc

  seven : (b : Bool) → eqb c 83 ≡ b → cond b (Some Short) (cond (eqb c 90) (Some Boolean) None) ≡ Some t → IsLetter c t
  seven true p h = let i : Short ≡ t = cc in let k = eqb-true c 83 p in subst (IsLetter c) i (subst (λ (d : ℕ). IsLetter d Short) (sym k) (refl, tt, tt, refl))
  seven false p h = eight (eqb c 90) refl h

  six : (b : Bool) → eqb c 74 ≡ b → cond b (Some Long) (cond (eqb c 83) (Some Short) (cond (eqb c 90) (Some Boolean) None)) ≡ Some t → IsLetter c t
  six true p h = let i : Long ≡ t = cc in let k = eqb-true c 74 p in subst (IsLetter c) i (subst (λ (d : ℕ). IsLetter d Long) (sym k) (refl, tt, tt, refl))
  six false p h = seven (eqb c 83) refl h

  five : (b : Bool) → eqb c 73 ≡ b → cond b (Some Int) (cond (eqb c 74) (Some Long) (cond (eqb c 83) (Some Short) (cond (eqb c 90) (Some Boolean) None))) ≡ Some t → IsLetter c t
  five true p h = let i : Int ≡ t = cc in let k = eqb-true c 73 p in subst (IsLetter c) i (subst (λ (d : ℕ). IsLetter d Int) (sym k) (refl, tt, tt, refl))
  five false p h = six (eqb c 74) refl h

  four : (b : Bool) → eqb c 70 ≡ b → cond b (Some Float) (cond (eqb c 73) (Some Int) (cond (eqb c 74) (Some Long) (cond (eqb c 83) (Some Short) (cond (eqb c 90) (Some Boolean) None)))) ≡ Some t → IsLetter c t
  four true p h = let i : Float ≡ t = cc in let k = eqb-true c 70 p in subst (IsLetter c) i (subst (λ (d : ℕ). IsLetter d Float) (sym k) (refl, tt, tt, refl))
  four false p h = five (eqb c 73) refl h

  three : (b : Bool) → eqb c 68 ≡ b → cond b (Some Double) (cond (eqb c 70) (Some Float) (cond (eqb c 73) (Some Int) (cond (eqb c 74) (Some Long) (cond (eqb c 83) (Some Short) (cond (eqb c 90) (Some Boolean) None))))) ≡ Some t → IsLetter c t
  three true p h = let i : Double ≡ t = cc in let k = eqb-true c 68 p in subst (IsLetter c) i (subst (λ (d : ℕ). IsLetter d Double) (sym k) (refl, tt, tt, refl))
  three false p h = four (eqb c 70) refl h

  two : (b : Bool) → eqb c 67 ≡ b → cond b (Some Char) (cond (eqb c 68) (Some Double) (cond (eqb c 70) (Some Float) (cond (eqb c 73) (Some Int) (cond (eqb c 74) (Some Long) (cond (eqb c 83) (Some Short) (cond (eqb c 90) (Some Boolean) None)))))) ≡ Some t → IsLetter c t
  two true p h = let i : Char ≡ t = cc in let k = eqb-true c 67 p in subst (IsLetter c) i (subst (λ (d : ℕ). IsLetter d Char) (sym k) (refl, tt, tt, refl))
  two false p h = three (eqb c 68) refl h

  one : (b : Bool) → eqb c 66 ≡ b → cond b (Some Byte) (cond (eqb c 67) (Some Char) (cond (eqb c 68) (Some Double) (cond (eqb c 70) (Some Float) (cond (eqb c 73) (Some Int) (cond (eqb c 74) (Some Long) (cond (eqb c 83) (Some Short) (cond (eqb c 90) (Some Boolean) None))))))) ≡ Some t → IsLetter c t
  one true p h = let i : Byte ≡ t = cc in let k = eqb-true c 66 p in subst (IsLetter c) i (subst (λ (d : ℕ). IsLetter d Byte) (sym k) (refl, tt, tt, refl))
  one false p h = two (eqb c 67) refl h

-- ---- classes

-- what stands in front of the first that passes, and that
record Split {X : Type 0} (p : X → Bool) (xs : List X) (n : ℕ) : Type 0 where
  pub mark : X
  pub whole : xs ≡ take n xs ++ mark ∷ drop (suc n) xs
  pub marked : p mark ≡ true
  pub others : AllByRecursion (λ x. p x ≡ false) (take n xs)

split_first : {X : Type 0} (p : X → Bool) (xs : List X) → position_or_len p xs < length xs → Split p xs (position_or_len p xs)
split_first p [] lt = absurd (omega arith)
split_first {X} p (x ∷ xs) lt = by_test (p x) refl lt (λ l. split_first p xs l) where
  by_test : (b : Bool) → p x ≡ b → cond (not b) (1 + position_or_len p xs) 0 < suc (length xs) → (position_or_len p xs < length xs → Split p xs (position_or_len p xs)) → Split p (x ∷ xs) (cond (not b) (1 + position_or_len p xs) 0)
  by_test true e l more = record { mark = x; whole = refl; marked = e; others = tt }
  by_test false e l more =
      let m = more (omega arith) in
      let s : 1 + position_or_len p xs ≡ suc (position_or_len p xs) = omega arith in
      let made : Split p (x ∷ xs) (suc (position_or_len p xs)) = record { mark = m.mark; whole = ap (λ (ys : List X). x ∷ ys) m.whole; marked = m.marked; others = (e, m.others) } in
      rw s made

position_some : {X : Type 0} (p : X → Bool) (xs : List X) (n : ℕ) → position p xs ≡ Some n → Split p xs n
position_some p xs n e = by_bool (ltb (position_or_len p xs) (length xs)) (λ l. let found : Some (position_or_len p xs) ≡ Some n = sym (rw l refl) ∙ e in let is : position_or_len p xs ≡ n = cc in subst (Split p xs) is (split_first p xs (ltb-true _ _ l))) (λ l. let none : position p xs ≡ None = rw l refl in absurd cc)

-- the first place behind a front where nothing passes
position_at : {X : Type 0} (p : X → Bool) (front : List X) (x : X) (rest : List X) → AllByRecursion (λ y. p y ≡ false) front → p x ≡ true → position_or_len p (front ++ x ∷ rest) ≡ length front
position_at p [] x rest h e = rw e refl
position_at p (y ∷ ys) x rest h e = rw h.0 (omega (arith, position_at p ys x rest h.1 e))

not_59 : (xs : List ℕ) → AllByRecursion (λ c. eqb c 59 ≡ false) xs → AllByRecursion (λ c. c ≢ 59) xs
not_59 [] h = tt
not_59 (x ∷ xs) h = (eqb-false x 59 h.0, not_59 xs h.1)

is_not_59 : (xs : List ℕ) → AllByRecursion (λ c. c ≢ 59) xs → AllByRecursion (λ c. eqb c 59 ≡ false) xs
is_not_59 [] h = tt
is_not_59 (x ∷ xs) h = (ne_eqb x 59 h.0, is_not_59 xs h.1)

-- a class between its letter and its semicolon
record IsClassAt (cs rest : List ℕ) : Type 0 where
  pub name : List ℕ
  pub is : cs ≡ name ++ 59 ∷ rest
  pub named : IsClassName name

class_found : (cs rest : List ℕ) (o : Option ℕ) → position (λ c. eqb c 59) cs ≡ o → class_end cs o ≡ Some rest → IsClassAt cs rest
class_found cs rest None p e = absurd cc
class_found cs rest (Some n) p e = by_bool (eqb n 0 || is_array_name cs) (λ b. let no : class_end cs (Some n) ≡ None = rw b refl in absurd cc) (λ b.
    let s = position_some (λ c. eqb c 59) cs n p in
    let yes : class_end cs (Some n) ≡ Some (drop (n + 1) cs) = rw b refl in
    let found : Some (drop (n + 1) cs) ≡ Some rest = sym yes ∙ e in
    let is_rest : drop (n + 1) cs ≡ rest = cc in
    let t = neither (eqb n 0) (is_array_name cs) b in
    let mark : s.mark ≡ 59 = eqb-true s.mark 59 s.marked in
    let next : suc n ≡ n + 1 = omega arith in
    let after : drop (suc n) cs ≡ rest = ap (λ (k : ℕ). drop k cs) next ∙ is_rest in
    let whole : cs ≡ take n cs ++ 59 ∷ rest = s.whole ∙ ap (λ (m : ℕ). take n cs ++ m ∷ drop (suc n) cs) mark ∙ ap (λ (r : List ℕ). take n cs ++ 59 ∷ r) after in
    record { name = take n cs; is = whole; named = record { is_there = there n cs s.mark (drop (suc n) cs) (eqb-false n 0 t.0) s.whole; no_end = not_59 (take n cs) s.others; no_array = no_bracket n cs t.1 } }) where
      neither : (a b : Bool) → (a || b) ≡ false → (a ≡ false) × (b ≡ false)
      neither true b e = absurd cc
      neither false b e = (refl, e)

      there : (k : ℕ) (xs : List ℕ) (m : ℕ) (more : List ℕ) → k ≢ 0 → xs ≡ take k xs ++ m ∷ more → take k xs ≢ []
      there zero xs m more h w = λ z. h refl
      there (suc k) [] m more h w = λ z. absurd cc
      there (suc k) (x ∷ xs) m more h w = λ z. absurd cc

      no_bracket : (k : ℕ) (xs : List ℕ) → is_array_name xs ≡ false → is_array_name (take k xs) ≡ false
      no_bracket zero xs h = refl
      no_bracket (suc k) [] h = refl
      no_bracket (suc k) (x ∷ xs) h = h

class_again : (name rest : List ℕ) → IsClassName name → class_rest (name ++ 59 ∷ rest) ≡ Some rest
class_again [] rest named = absurd (named.is_there refl)
class_again (x ∷ xs) rest named =
    let name : List ℕ = x ∷ xs in
    let n : position_or_len (λ c. eqb c 59) (name ++ 59 ∷ rest) ≡ length name = position_at (λ c. eqb c 59) name 59 rest (is_not_59 name named.no_end) refl in
    let within : ltb (length name) (length (name ++ 59 ∷ rest)) ≡ true = lt-ltb _ _ (omega (arith, length-append name (59 ∷ rest))) in
    let found : position (λ c. eqb c 59) (name ++ 59 ∷ rest) ≡ Some (length name) = ap (λ (k : ℕ). cond (ltb k (length (name ++ 59 ∷ rest))) (Some k) None) n ∙ rw within refl in
    let left : drop (length name + 1) (name ++ 59 ∷ rest) ≡ rest = ap (drop (length name + 1)) (sym (append_assoc name (59 ∷ []) rest)) ∙ drop_at (name ++ 59 ∷ []) rest (length name + 1) (omega (arith, length-append name (59 ∷ []))) in
    let some : eqb (length name) 0 ≡ false = ne_eqb _ _ (λ e. omega arith) in
    ap (class_end (name ++ 59 ∷ rest)) found ∙ rw (some, named.no_array) (ap (λ (r : List ℕ). Some r) left)

-- ---- types

-- what stands before a rest is what was put there
pub before_is : (text rest : List ℕ) → before (text ++ rest) rest ≡ text
before_is text rest = take_at text rest (length (text ++ rest) - length rest) (omega (arith, length-append text rest))

record ElementAt (bytes rest : List ℕ) : Type 0 where
  pub type : FieldType
  pub is : bytes ≡ field_descriptor type ++ rest
  pub element : IsElement type
  pub fits : IsFieldType type
  pub plain : is_array_name bytes ≡ false

class_element : (cs rest : List ℕ) → IsClassAt cs rest → ElementAt (76 ∷ cs) rest
class_element cs rest k =
    let whole : 76 ∷ cs ≡ field_descriptor (Reference k.name) ++ rest = rw k.named.no_array (ap (λ (xs : List ℕ). 76 ∷ xs) (k.is ∙ sym (append_assoc k.name (59 ∷ []) rest))) in
    record { type = Reference k.name; is = whole; element = k.named; fits = rw k.named.no_array k.named; plain = refl }

element_found : (bytes rest : List ℕ) → element_rest bytes ≡ Some rest → ElementAt bytes rest
unfolding element_rest
element_found [] rest e = absurd cc
element_found (c ∷ cs) rest e = by_letter (base c) refl e where
  by_class : (b : Bool) → eqb c 76 ≡ b → cond b (class_rest cs) None ≡ Some rest → ElementAt (c ∷ cs) rest
  by_class true p h = subst (λ (d : ℕ). ElementAt (d ∷ cs) rest) (sym (eqb-true c 76 p)) (class_element cs rest (class_found cs rest (position (λ d. eqb d 59) cs) refl h))
  by_class false p h = absurd cc

  by_letter : (o : Option FieldType) → base c ≡ o → cond (is_some o) (Some cs) (cond (eqb c 76) (class_rest cs) None) ≡ Some rest → ElementAt (c ∷ cs) rest
  by_letter (Some t) p h =
      let l = letters c t p in
      let r : cs ≡ rest = cc in
      record { type = t; is = rw (l.0, ← r) refl; element = l.1; fits = l.2; plain = l.3 }
  by_letter None p h = by_class (eqb c 76) refl h

element_again : (t : FieldType) (rest : List ℕ) → IsElement t → element_rest (field_descriptor t ++ rest) ≡ Some rest
unfolding element_rest
element_again Boolean rest h = refl
element_again Byte rest h = refl
element_again Char rest h = refl
element_again Short rest h = refl
element_again Int rest h = refl
element_again Long rest h = refl
element_again Float rest h = refl
element_again Double rest h = refl
element_again (Reference name) rest h =
    let is : field_descriptor (Reference name) ++ rest ≡ 76 ∷ (name ++ 59 ∷ rest) = rw h.no_array (ap (λ (xs : List ℕ). 76 ∷ xs) (append_assoc name (59 ∷ []) rest)) in
    ap element_rest is ∙ class_again name rest h

-- an element begins with no bracket, and isn't empty
pub element_plain : (t : FieldType) → IsElement t → (c : ℕ) × (cs : List ℕ) × (field_descriptor t ≡ c ∷ cs) × (eqb c 91 ≡ false) × (eqb c 41 ≡ false) × (eqb c 86 ≡ false)
element_plain Boolean h = (90, [], refl, refl, refl, refl)
element_plain Byte h = (66, [], refl, refl, refl, refl)
element_plain Char h = (67, [], refl, refl, refl, refl)
element_plain Short h = (83, [], refl, refl, refl, refl)
element_plain Int h = (73, [], refl, refl, refl, refl)
element_plain Long h = (74, [], refl, refl, refl, refl)
element_plain Float h = (70, [], refl, refl, refl, refl)
element_plain Double h = (68, [], refl, refl, refl, refl)
element_plain (Reference name) h = (76, name ++ 59 ∷ [], rw h.no_array refl, refl, refl, refl)

brackets_at : (n : ℕ) (rest : List ℕ) → is_array_name rest ≡ false → brackets (replicate n 91 ++ rest) ≡ n
brackets_at zero [] h = refl
brackets_at zero (c ∷ cs) h = rw h refl
brackets_at (suc n) rest h = omega (arith, brackets_at n rest h)

brackets_split : (bytes : List ℕ) → bytes ≡ replicate (brackets bytes) 91 ++ drop (brackets bytes) bytes
brackets_split [] = refl
brackets_split (c ∷ cs) = by_bool (eqb c 91) (λ e. let n : brackets (c ∷ cs) ≡ suc (brackets cs) = rw e (omega arith) in rw n (ap (λ (d : ℕ). d ∷ cs) (eqb-true c 91 e) ∙ ap (λ (xs : List ℕ). 91 ∷ xs) (brackets_split cs))) (λ e. let n : brackets (c ∷ cs) ≡ 0 = rw e refl in rw n refl)

-- a type at the front
pub record TypeAt (bytes rest : List ℕ) : Type 0 where
  pub type : FieldType
  pub is : bytes ≡ field_descriptor type ++ rest
  pub fits : IsFieldType type

array_at : (n : ℕ) (bytes rest : List ℕ) → n ≤ 255 → bytes ≡ replicate n 91 ++ drop n bytes → ElementAt (drop n bytes) rest → TypeAt bytes rest
array_at zero bytes rest few split e = record { type = e.type; is = e.is; fits = e.fits }
array_at (suc n) bytes rest few split e =
    let name : List ℕ = replicate (suc n) 91 ++ field_descriptor e.type in
    let whole : bytes ≡ name ++ rest = split ∙ ap (λ (xs : List ℕ). replicate (suc n) 91 ++ xs) e.is ∙ sym (append_assoc (replicate (suc n) 91) (field_descriptor e.type) rest) in
    record { type = Reference name; is = whole; fits = record { dimensions = suc n; element = e.type; some = omega arith; few = few; is_element = e.element; is = refl } }

pub type_found : (bytes rest : List ℕ) → type_rest bytes ≡ Some rest → TypeAt bytes rest
unfolding type_rest
type_found bytes rest e = by_count (ltb 255 (brackets bytes)) refl e where
  by_count : (b : Bool) → ltb 255 (brackets bytes) ≡ b → cond b None (element_rest (drop (brackets bytes) bytes)) ≡ Some rest → TypeAt bytes rest
  by_count true p h = absurd cc
  by_count false p h = array_at (brackets bytes) bytes rest (ltb-false 255 (brackets bytes) p) (brackets_split bytes) (element_found (drop (brackets bytes) bytes) rest h)

plain_front : (t : FieldType) (rest : List ℕ) → IsElement t → is_array_name (field_descriptor t ++ rest) ≡ false
plain_front t rest h = let e = element_plain t h in ap is_array_name (ap (λ (xs : List ℕ). xs ++ rest) e.2) ∙ e.3

dimensions_again : (n : ℕ) (t : FieldType) (rest : List ℕ) → n ≤ 255 → IsElement t → type_rest (replicate n 91 ++ (field_descriptor t ++ rest)) ≡ Some rest
unfolding type_rest
dimensions_again n t rest few h =
    let count = brackets_at n (field_descriptor t ++ rest) (plain_front t rest h) in
    let left : drop n (replicate n 91 ++ (field_descriptor t ++ rest)) ≡ field_descriptor t ++ rest = drop_at (replicate n 91) (field_descriptor t ++ rest) n (length-replicate n 91) in
    rw (count, le-ltb 255 n few, left) (element_again t rest h)

reference_again : (b : Bool) (name rest : List ℕ) → is_array_name name ≡ b → IsReferenceName b name → type_rest (field_descriptor (Reference name) ++ rest) ≡ Some rest
reference_again true name rest a h =
    let is : field_descriptor (Reference name) ++ rest ≡ replicate h.dimensions 91 ++ (field_descriptor h.element ++ rest) = rw a (ap (λ (xs : List ℕ). xs ++ rest) h.is ∙ append_assoc (replicate h.dimensions 91) (field_descriptor h.element) rest) in
    ap type_rest is ∙ dimensions_again h.dimensions h.element rest h.few h.is_element
reference_again false name rest a h = dimensions_again 0 (Reference name) rest (omega arith) h

pub type_again : (t : FieldType) (rest : List ℕ) → IsFieldType t → type_rest (field_descriptor t ++ rest) ≡ Some rest
type_again Boolean rest h = dimensions_again 0 Boolean rest (omega arith) tt
type_again Byte rest h = dimensions_again 0 Byte rest (omega arith) tt
type_again Char rest h = dimensions_again 0 Char rest (omega arith) tt
type_again Short rest h = dimensions_again 0 Short rest (omega arith) tt
type_again Int rest h = dimensions_again 0 Int rest (omega arith) tt
type_again Long rest h = dimensions_again 0 Long rest (omega arith) tt
type_again Float rest h = dimensions_again 0 Float rest (omega arith) tt
type_again Double rest h = dimensions_again 0 Double rest (omega arith) tt
type_again (Reference name) rest h = reference_again (is_array_name name) name rest refl h

-- the type of a descriptor is its type
reference_of : (b : Bool) (name : List ℕ) → is_array_name name ≡ b → IsReferenceName b name → type_of (field_descriptor (Reference name)) ≡ Reference name
unfolding type_of
reference_of true [] a h = absurd cc
reference_of true (c ∷ cs) a h =
    let k : c ≡ 91 = eqb-true c 91 a in
    rw (a, k) refl
reference_of false name a h =
    let short : take (length (name ++ 59 ∷ []) - 1) (name ++ 59 ∷ []) ≡ name = take_at name (59 ∷ []) (length (name ++ 59 ∷ []) - 1) (omega (arith, length-append name (59 ∷ []))) in
    rw (a, short) refl

pub of_type : (t : FieldType) → IsFieldType t → type_of (field_descriptor t) ≡ t
unfolding type_of
of_type Boolean h = refl
of_type Byte h = refl
of_type Char h = refl
of_type Short h = refl
of_type Int h = refl
of_type Long h = refl
of_type Float h = refl
of_type Double h = refl
of_type (Reference name) h = reference_of (is_array_name name) name refl h

-- ---- whole field descriptors

pub field_found : (bytes : List ℕ) → is_field_descriptor bytes ≡ true → (t : FieldType) × DescribesField bytes t × (type_of bytes ≡ t)
unfolding is_field_descriptor
field_found bytes e = by_rest (type_rest bytes) refl e where
  by_rest : (o : Option (List ℕ)) → type_rest bytes ≡ o → is_end o ≡ true → (t : FieldType) × DescribesField bytes t × (type_of bytes ≡ t)
  by_rest None p h = absurd cc
  by_rest (Some rest) p h =
      let t = type_found bytes rest p in
      let none : rest ≡ [] = nil_from_length rest (eqb-true _ _ h) in
      let is : bytes ≡ field_descriptor t.type = t.is ∙ ap (λ (xs : List ℕ). field_descriptor t.type ++ xs) none ∙ append-nil (field_descriptor t.type) in
      (t.type, record { type = t.fits; is = is }, ap type_of is ∙ of_type t.type t.fits)

pub field_again : (bytes : List ℕ) (t : FieldType) → DescribesField bytes t → is_field_descriptor bytes ≡ true
unfolding is_field_descriptor
field_again bytes t d =
    let is : type_rest bytes ≡ Some [] = ap type_rest (d.is ∙ sym (append-nil (field_descriptor t))) ∙ type_again t [] d.type in
    rw is refl
