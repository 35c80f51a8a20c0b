-- Names of arrays that may stand in a class file, by a test.
use Rattle.std.proofs.Common.{◌≡◌, ◌≢◌, ℕ, zero, suc, ◌<◌, ◌≤◌, Bool, true, false, not, ◌&&◌, ◌||◌, List, [], ◌∷◌, ◌++◌, replicate, refl, sym, ap, ◌∙◌, subst, arith}
use Rattle.std.specs.Prelude.{codes, nat_lt, bytes_eq, ◌==◌, if◌then◌else◌}
use Rattle.std.specs.List.{AllByRecursion, list_all, list_any}
use Rattle.std.proofs.lemmas.Bool.Decides.{nat_tests}
use Rattle.std.proofs.lemmas.Slice.Eq.{bytes_eq-Decides}
use Rattle.jmodel.specs.declared.class_file.FieldType.{FieldType}
use Rattle.jmodel.specs.declared.class_file.FieldType.TheVariants as types
use Rattle.jmodel.specs.format.Descriptor.{field_descriptor, is_array_name, IsClassName, IsElement, IsArrayName}
use Rattle.jmodel.specs.format.ClassRules.{IsTextByte}
use Rattle.objects.specs.typing.TypeOrder.{is_array, is_class_name, without_last, named_by, element_class, is_ended}
use Rattle.objects.proofs.Items.{item, any_item}
use Rattle.objects.proofs.Order.{plain_name}
use Rattle.objects.proofs.Elements.{inner_name}
use Rattle.member_code.proofs.Added.{two_true}
use Rattle.rewritten_form.proofs.Adding.{IsText, IsClassText}
use Rattle.rewritten_form.proofs.Texts.{is_text_byte, text_good, text_append}
use Rattle.rewritten_form.proofs.ContextTypes.{unlike}
use Rattle.rewritten_form.proofs.ReadNames.{same_array, class_lawful, array_lawful, text_front}

-- ---- names of classes

-- the name of a class that may stand in a class file
pub record IsLawful (n : List ℕ) : Type 0 where
  pub text : IsText n
  pub named : IsClassName n

abbrev pub is_lawful : List ℕ → Bool
is_lawful n = list_all is_text_byte n && (list_all (λ c. not (c == 59)) n && is_class_name n)

named_some : (n : List ℕ) → is_class_name n ≡ true → n ≢ []
named_some [] h e = absurd cc
named_some (c ∷ n) h e = absurd cc

pub lawful_by : (n : List ℕ) → is_lawful n ≡ true → IsLawful n
lawful_by n h =
    let a = two_true (list_all is_text_byte n) _ h in
    let b = two_true (list_all (λ c. not (c == 59)) n) (is_class_name n) a.1 in
    record { text = text_good n a.0; named = record { is_there = named_some n b.1; no_end = unlike n b.0; no_array = sym (same_array n) ∙ plain_name n b.1 } }

both_true : (a b : Bool) → a ≡ true → b ≡ true → (a && b) ≡ true
both_true true b h g = g
both_true false b h g = cc

byte_test : (b : ℕ) → IsTextByte b → is_text_byte b ≡ true
byte_test b h =
    let x = h.0 in
    let y = h.1 in
    both_true (nat_lt 0 b) (nat_lt b 240) (grind (arith, nat_tests)) (grind (arith, nat_tests))

text_test : (n : List ℕ) → IsText n → list_all is_text_byte n ≡ true
text_test [] h = refl
text_test (c ∷ n) h = both_true (is_text_byte c) (list_all is_text_byte n) (byte_test c h.0) (text_test n h.1)

no_end : (c : ℕ) → c ≢ 59 → not (c == 59) ≡ true
no_end c h = grind (arith, nat_tests)

end_test : (n : List ℕ) → AllByRecursion (λ c. c ≢ 59) n → list_all (λ c. not (c == 59)) n ≡ true
end_test [] h = refl
end_test (c ∷ n) h = both_true (not (c == 59)) (list_all (λ c. not (c == 59)) n) (no_end c h.0) (end_test n h.1)

name_test : (n : List ℕ) → n ≢ [] → is_array n ≡ false → is_class_name n ≡ true
name_test [] h a = absurd (h refl)
name_test (c ∷ n) h a = rw a refl

pub lawful_test : (n : List ℕ) → IsLawful n → is_lawful n ≡ true
lawful_test n h =
    both_true (list_all is_text_byte n) _ (text_test n h.text)
    (both_true (list_all (λ c. not (c == 59)) n) (is_class_name n) (end_test n h.named.no_end) (name_test n h.named.is_there (same_array n ∙ h.named.no_array)))

-- ---- elements

-- the descriptors of types that are no references
abbrev pub primitives : List FieldType
primitives = types.Boolean ∷ types.Byte ∷ types.Char ∷ types.Short ∷ types.Int ∷ types.Long ∷ types.Float ∷ types.Double ∷ []

abbrev pub is_letter : List ℕ → Bool
is_letter n = list_any (λ (e : FieldType). bytes_eq n (field_descriptor e)) primitives

-- a descriptor, behind its brackets, of a class that is lawful or of a type that is no reference
abbrev pub core_good : List ℕ → Bool
core_good [] = false
core_good (c ∷ n) = if c == 91 then core_good n else (if c == 76 then is_ended n && is_lawful (without_last n) else is_letter (c ∷ n))

-- how many brackets stand first
abbrev pub depth : List ℕ → ℕ
depth [] = 0
depth (c ∷ n) = if c == 91 then suc (depth n) else 0

-- the name of a class, or one of an array that may stand in a class file
abbrev pub is_good : List ℕ → Bool
is_good n = not (is_array n) || (nat_lt (depth n) 256 && core_good n)

-- a name that is no array's
pub plain_good : (n : List ℕ) → is_array n ≡ false → is_good n ≡ true
plain_good n e = rw e refl

pub record IsGoodArray (n : List ℕ) : Type 0 where
  pub few : depth n < 256
  pub core : core_good n ≡ true

pub good_array : (n : List ℕ) → is_array n ≡ true → is_good n ≡ true → IsGoodArray n
good_array n a h =
    let g : (nat_lt (depth n) 256 && core_good n) ≡ true = (rw a at h) in
    let x = two_true (nat_lt (depth n) 256) (core_good n) g in
    let less = x.0 in
    record { few = grind (arith, nat_tests); core = x.1 }

pub array_good : (n : List ℕ) → IsGoodArray n → is_good n ≡ true
array_good n h =
    let f = h.few in
    let less : nat_lt (depth n) 256 ≡ true = grind (arith, nat_tests) in
    go (not (is_array n)) (both_true (nat_lt (depth n) 256) (core_good n) less h.core)
  where
    go : (b : Bool) → (nat_lt (depth n) 256 && core_good n) ≡ true → (b || (nat_lt (depth n) 256 && core_good n)) ≡ true
    go true g = refl
    go false g = g

-- ---- what a good descriptor is made of

-- brackets before the descriptor of an element, whose bytes may stand in a text
pub record IsCore (n : List ℕ) : Type 0 where
  pub element : FieldType
  pub is_element : IsElement element
  pub is : n ≡ replicate (depth n) 91 ++ field_descriptor element
  pub text : IsText n

is_number : (c d : ℕ) → (c == d) ≡ true → c ≡ d
is_number c d e = grind (arith, nat_tests)

abbrev IsPrimitive : FieldType → Type 0
IsPrimitive e = IsElement e × IsText (field_descriptor e)

primitive : AllByRecursion IsPrimitive primitives
primitive = ((tt, text_good (field_descriptor types.Boolean) refl), ((tt, text_good (field_descriptor types.Byte) refl), ((tt, text_good (field_descriptor types.Char) refl), ((tt, text_good (field_descriptor types.Short) refl), ((tt, text_good (field_descriptor types.Int) refl), ((tt, text_good (field_descriptor types.Long) refl), ((tt, text_good (field_descriptor types.Float) refl), ((tt, text_good (field_descriptor types.Double) refl), tt))))))))

pub core_is : (n : List ℕ) → core_good n ≡ true → IsCore n
core_is [] h = cc
core_is (c ∷ n) h = go (c == 91) (c == 76) refl refl h (core_is n)
  where
    letter : (c == 91) ≡ false → is_letter (c ∷ n) ≡ true → IsCore (c ∷ n)
    letter a t =
        let x = any_item (λ (e : FieldType). bytes_eq (c ∷ n) (field_descriptor e)) primitives t in
        let p = item IsPrimitive primitives x.0 primitive x.1 in
        let same = (bytes_eq-Decides (c ∷ n) (field_descriptor x.0)).0 x.2 in
        record { element = x.0; is_element = p.0; is = rw a same; text = subst IsText (sym same) p.1 }

    class : (c == 91) ≡ false → c ≡ 76 → (is_ended n && is_lawful (without_last n)) ≡ true → IsCore (c ∷ n)
    class a b t =
        let x = two_true (is_ended n) (is_lawful (without_last n)) t in
        let l = lawful_by (without_last n) x.1 in
        let ended = (bytes_eq-Decides n (without_last n ++ codes ";")).0 x.0 in
        let plain = l.named.no_array in
        let here : field_descriptor (types.Reference (without_last n)) ≡ 76 ∷ (without_last n ++ codes ";") = rw plain refl in
        let same : c ∷ n ≡ field_descriptor (types.Reference (without_last n)) = ap (λ (d : ℕ). d ∷ n) b ∙ ap (λ (l : List ℕ). 76 ∷ l) ended ∙ sym here in
        let text : IsText (76 ∷ (without_last n ++ codes ";")) =
        text_append (76 ∷ without_last n) (codes ";") (text_append (codes "L") (without_last n) (text_good (codes "L") refl) l.text) (text_good (codes ";") refl) in
        record { element = types.Reference (without_last n); is_element = l.named; is = rw a same; text = subst IsText (sym (same ∙ here)) text }

    go : (a b : Bool) → (c == 91) ≡ a → (c == 76) ≡ b → (if a then core_good n else (if b then is_ended n && is_lawful (without_last n) else is_letter (c ∷ n))) ≡ true → (core_good n ≡ true → IsCore n) → IsCore (c ∷ n)
    go true b p q h rest =
        let r = rest h in
        let is = is_number c 91 p in
        record {
          element = r.element;
          is_element = r.is_element;
          is = rw p (ap (λ (d : ℕ). d ∷ n) is ∙ ap (λ (l : List ℕ). 91 ∷ l) r.is);
          text = (subst IsTextByte (sym is) (omega arith, omega arith), r.text);
        }
    go false true p q h rest = class p (is_number c 76 q) h
    go false false p q h rest = letter p h

-- ---- the elements of a good array

-- the class that an element is cast to
named_lawful : (y : List ℕ) → core_good y ≡ true → depth y ≤ 255 → IsClassText (named_by y)
named_lawful [] h f = cc
named_lawful (c ∷ n) h f = go (c == 76) refl
  where
    array : is_array_name (c ∷ n) ≡ true → IsClassText (c ∷ n)
    array a =
        let k = core_is (c ∷ n) h in
        let some : depth (c ∷ n) ≡ suc (depth n) = rw a refl in
        array_lawful (c ∷ n) k.text a (record { dimensions = depth (c ∷ n); element = k.element; some = omega (arith, some); few = f; is_element = k.is_element; is = k.is })

    plain : (b : Bool) → is_array_name (c ∷ n) ≡ b → IsClassText (c ∷ n)
    plain true a = array a
    plain false a = record { text = (core_is (c ∷ n) h).text; named = rw a tt }

    go : (b : Bool) → (c == 76) ≡ b → IsClassText (if b then without_last n else c ∷ n)
    go true q =
        let is = is_number c 76 q in
        let t : (is_ended n && is_lawful (without_last n)) ≡ true = subst (λ (c : ℕ). core_good (c ∷ n) ≡ true) is h in
        let l = lawful_by (without_last n) (two_true (is_ended n) (is_lawful (without_last n)) t).1 in
        class_lawful (without_last n) l.text l.named
    go false q = plain (is_array_name (c ∷ n)) refl

pub element_lawful : (n : List ℕ) → is_array n ≡ true → is_good n ≡ true → IsClassText (element_class n)
element_lawful [] a h = cc
element_lawful (c ∷ n) a h =
    let g = good_array (c ∷ n) a h in
    let core : core_good n ≡ true = (let k = g.core in (rw a at k)) in
    let some : depth (c ∷ n) ≡ suc (depth n) = rw a refl in
    named_lawful n core (omega (arith, g.few, some))

-- ---- names of a class file

brackets_over : (k : ℕ) (d : List ℕ) → is_array d ≡ false → depth (replicate k 91 ++ d) ≡ k
brackets_over zero [] h = refl
brackets_over zero (c ∷ d) h = rw h refl
brackets_over (suc k) d h = ap suc (brackets_over k d h)

core_over : (k : ℕ) (d : List ℕ) → core_good d ≡ true → core_good (replicate k 91 ++ d) ≡ true
core_over zero d h = h
core_over (suc k) d h = core_over k d h

-- a class's descriptor
pub class_core : (n : List ℕ) → IsLawful n → core_good (76 ∷ (n ++ codes ";")) ≡ true
class_core n l =
    let e : without_last (n ++ codes ";") ≡ n = inner_name n in
    let ended : is_ended (n ++ codes ";") ≡ true = (bytes_eq-Decides (n ++ codes ";") (without_last (n ++ codes ";") ++ codes ";")).1 (ap (λ (m : List ℕ). m ++ codes ";") (sym e)) in
    both_true (is_ended (n ++ codes ";")) (is_lawful (without_last (n ++ codes ";"))) ended (ap is_lawful e ∙ lawful_test n l)

text_behind : (k : ℕ) (d : List ℕ) → IsText (replicate k 91 ++ d) → IsText d
text_behind zero d h = h
text_behind (suc k) d h = text_behind k d h.1

descriptor_plain : (e : FieldType) → IsElement e → is_array (field_descriptor e) ≡ false
descriptor_plain (types.Reference n) h = let p = h.no_array in rw p refl
descriptor_plain types.Boolean h = refl
descriptor_plain types.Byte h = refl
descriptor_plain types.Char h = refl
descriptor_plain types.Short h = refl
descriptor_plain types.Int h = refl
descriptor_plain types.Long h = refl
descriptor_plain types.Float h = refl
descriptor_plain types.Double h = refl

element_core : (e : FieldType) → IsElement e → IsText (field_descriptor e) → core_good (field_descriptor e) ≡ true
element_core (types.Reference n) h t =
    let p = h.no_array in
    let here : field_descriptor (types.Reference n) ≡ 76 ∷ (n ++ codes ";") = rw p refl in
    let text = subst IsText here t in
    ap core_good here ∙ class_core n (record { text = text_front n (codes ";") text.1; named = h })
element_core types.Boolean h t = refl
element_core types.Byte h t = refl
element_core types.Char h t = refl
element_core types.Short h t = refl
element_core types.Int h t = refl
element_core types.Long h t = refl
element_core types.Float h t = refl
element_core types.Double h t = refl

-- an array's name, and one of an array over it
pub array_form : (n : List ℕ) → IsText n → IsArrayName n → (core_good n ≡ true) × (depth n ≤ 255)
array_form n t h =
    let text = text_behind h.dimensions (field_descriptor h.element) (subst IsText h.is t) in
    let few = h.few in
    let b : depth n ≡ h.dimensions = ap depth h.is ∙ brackets_over h.dimensions (field_descriptor h.element) (descriptor_plain h.element h.is_element) in
    (ap core_good h.is ∙ core_over h.dimensions (field_descriptor h.element) (element_core h.element h.is_element text), omega (arith, b, few))

pub text_is_good : (n : List ℕ) → IsClassText n → is_good n ≡ true
text_is_good n h = go (is_array n) refl
  where
    go : (b : Bool) → is_array n ≡ b → is_good n ≡ true
    go false a = plain_good n a
    go true a =
        let p = sym (same_array n) ∙ a in
        let named = h.named in
        let array : IsArrayName n = (rw p at named) in
        let f = array_form n h.text array in
        array_good n (record { few = omega (arith, f.1); core = f.0 })
