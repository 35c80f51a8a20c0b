-- Methods whose Code was laid keep the rules of methods.
use Rattle.std.proofs.Common.{◌≡◌, ℕ, ◌+◌, ◌*◌, ◌<◌, Bool, true, false, not, List, [], ◌∷◌, ◌++◌, length, map, Some, refl, sym, ap, ◌∙◌, subst, arith, length-append}
use Rattle.std.specs.Prelude.{codes, bit_and, bit_or, ◌^◌, ◌==◌}
use Rattle.std.specs.List.{AllByRecursion, flat_map}
use Rattle.std.proofs.lemmas.List.{length-map}
use Rattle.std.proofs.lemmas.List.Concat.{flat_map-cons}
use Rattle.std.proofs.lemmas.Nat.{and_le_r, or_lt, and_or_apart, and_assoc}
use Rattle.jmodel.specs.declared.class_file.Handler.{Handler}
use Rattle.jmodel.specs.format.ClassFile.{u2, u4, handler, attributes, Attribute, Member, Pool, Code, code_spelling}
use Rattle.jmodel.specs.format.Pool.{utf8}
use Rattle.jmodel.specs.format.Descriptor.{IsMethodDescriptor}
use Rattle.jmodel.specs.format.ClassRules.{IsTwoBytes, IsPool, IsAttribute, IsCode, is_named, named_attributes, has_no_code, AreCodes, IsMethod}
use Rattle.member_code.specs.Coding.{added_method}
use Rattle.dup_methods.specs.Duplicates.{duplicate_flags}
use Rattle.retry_wrapper.specs.Wrappers.{with_bytes, with_code}
use Rattle.member_code.proofs.Grown.{Grown}
use Rattle.rewritten_form.proofs.StillForms.{named_same, two_bytes, some_text, text_fits, attribute_still, member_still}

-- ---- the length of a Code

-- an exception entry has eight bytes
handlers_length : (hs : List Handler) → length (flat_map handler hs) ≡ 8 * length hs
handlers_length [] = refl
handlers_length (h ∷ hs) =
    let list = ap length (flat_map-cons handler h hs) in
    let both = length-append (handler h) (flat_map handler hs) in
    let one : length (handler h) ≡ 8 = refl in
    omega (arith, list, both, one, handlers_length hs)

-- the length of seven lists
seven : (a b c d e f g : List ℕ) → length (a ++ b ++ c ++ d ++ e ++ f ++ g) ≡ length a + length b + length c + length d + length e + length f + length g
seven a b c d e f g = simp length-append

-- code without attributes is short
pub short_code : (Z : Pool) (k : Code) → IsCode Z k → k.attributes ≡ [] → length (code_spelling k) < 2 ^ 32
short_code Z k rules alone =
    let parts = seven (u2 k.max_stack) (u2 k.max_locals) (u4 (length k.code)) k.code (u2 (length k.handlers)) (flat_map handler k.handlers) (attributes k.attributes) in
    let a : length (u2 k.max_stack) ≡ 2 = refl in
    let b : length (u2 k.max_locals) ≡ 2 = refl in
    let c : length (u4 (length k.code)) ≡ 4 = refl in
    let e : length (u2 (length k.handlers)) ≡ 2 = refl in
    let g : length (attributes k.attributes) ≡ 2 = ap (λ (xs : List Attribute). length (attributes xs)) alone in
    omega (arith, parts, a, b, c, e, g, handlers_length k.handlers, rules.short, rules.few)

-- ---- flags

-- whether a number has bits
abbrev has_bits : ℕ → Bool
has_bits n = not (n == 0)

-- a duplicate has Code where its method has
pub duplicate_coded : (flags : ℕ) → has_no_code (duplicate_flags flags) ≡ has_no_code flags
duplicate_coded flags =
    let first : bit_and (bit_or (bit_and flags 0xff7f) 0x1000) 0x500 ≡ bit_and (bit_and flags 0xff7f) 0x500 = and_or_apart 0x500 (bit_and flags 0xff7f) 0x1000 refl in
    let second : bit_and (bit_and flags 0xff7f) 0x500 ≡ bit_and flags 0x500 = and_assoc 0x500 flags 0xff7f in
    ap has_bits (first ∙ second)

-- a duplicate's flags have two bytes
pub duplicate_two : (flags : ℕ) → IsTwoBytes (duplicate_flags flags)
duplicate_two flags = or_lt 16 (bit_and flags 0xff7f) 0x1000 (omega (arith, and_le_r flags 0xff7f)) (omega arith)

-- ---- methods that are added

-- a method that is added, whose code keeps the rules of code
pub record IsAdded (Z : Pool) (flags : ℕ) (name type : List ℕ) (m : Member) : Type 0 where
  pub n : ℕ
  pub t : ℕ
  pub c : ℕ
  pub code : Code
  pub is : m ≡ added_method flags n t c (code_spelling code)
  pub named : utf8 Z n ≡ Some name
  pub typed : utf8 Z t ≡ Some type
  pub coded : utf8 Z c ≡ Some (codes "Code")
  pub rules : IsCode Z code
  pub alone : code.attributes ≡ []

-- a method that is added is a method
pub added_form : (Z : Pool) (flags : ℕ) (name type : List ℕ) (m : Member) → IsPool Z → IsAdded Z flags name type m → IsTwoBytes flags → has_no_code flags ≡ false → IsMethodDescriptor type → IsMethod Z m
added_form Z flags name type m p h two coded fits =
    let a : Attribute = record { name = h.c; bytes = code_spelling h.code } in
    let told = h.coded in
    let one : IsAttribute Z (record { name = h.c; bytes = code_spelling h.code }) =
    record { name = two_bytes Z p h.c (codes "Code") h.coded; named = some_text (utf8 Z h.c) (codes "Code") h.coded; short = short_code Z h.code h.rules h.alone } in
    let named : named_attributes Z (codes "Code") (record { name = h.c; bytes = code_spelling h.code } ∷ []) ≡ record { name = h.c; bytes = code_spelling h.code } ∷ [] = rw told refl in
    subst (IsMethod Z) (sym h.is) (record {
      member = record {
        flags = two;
        name = two_bytes Z p h.n name h.named;
        descriptor = two_bytes Z p h.t type h.typed;
        named = some_text (utf8 Z h.n) name h.named;
        typed = text_fits IsMethodDescriptor (utf8 Z h.t) type h.typed fits;
        attributes = record { few = omega arith; each = (one, tt) };
      };
      codes_fit = subst (λ (b : Bool). AreCodes Z b (named_attributes Z (codes "Code") (record { name = h.c; bytes = code_spelling h.code } ∷ []))) (sym coded)
          (a, h.code, named, record { code = h.rules; is = refl });
    })

-- a method without code that is added is a method
pub bare_form : (Z : Pool) (flags n t : ℕ) (name type : List ℕ) → IsPool Z → IsTwoBytes flags → has_no_code flags ≡ true → utf8 Z n ≡ Some name → utf8 Z t ≡ Some type → IsMethodDescriptor type
    → IsMethod Z (record { flags = flags; name = n; descriptor = t; attributes = [] })
bare_form Z flags n t name type p two bare named typed fits = record {
  member = record {
    flags = two;
    name = two_bytes Z p n name named;
    descriptor = two_bytes Z p t type typed;
    named = some_text (utf8 Z n) name named;
    typed = text_fits IsMethodDescriptor (utf8 Z t) type typed fits;
    attributes = record { few = omega arith; each = tt };
  };
  codes_fit = subst (λ (b : Bool). AreCodes Z b []) (sym bare) refl;
}

-- ---- methods whose Code is another

-- the pool before, and the one in which the other Code was made
module _ (pool Z : Pool) (G : Grown pool Z) (bytes : List ℕ) where
  -- an attribute with other bytes
  abbrev renamed : Attribute → Attribute
  renamed a = record { name = a.name; bytes = bytes }

  -- the Codes have other bytes
  named_swapped : (xs : List Attribute) → AllByRecursion (IsAttribute pool) xs → named_attributes Z (codes "Code") (map (with_bytes Z bytes) xs) ≡ map renamed (named_attributes pool (codes "Code") xs)
  named_swapped [] h = refl
  named_swapped (a ∷ xs) h = go (is_named pool (codes "Code") a) refl (named_swapped xs h.1)
    where
      go : (b : Bool) → is_named pool (codes "Code") a ≡ b → named_attributes Z (codes "Code") (map (with_bytes Z bytes) xs) ≡ map renamed (named_attributes pool (codes "Code") xs)
          → named_attributes Z (codes "Code") (map (with_bytes Z bytes) (a ∷ xs)) ≡ map renamed (named_attributes pool (codes "Code") (a ∷ xs))
      go true e rest = let same = named_same pool Z G (codes "Code") a h.0 ∙ e in rw e (rw same (rw same (ap (λ (l : List Attribute). renamed a ∷ l) rest)))
      go false e rest = let same = named_same pool Z G (codes "Code") a h.0 ∙ e in rw e (rw same (rw same rest))

  module _ (short : length bytes < 2 ^ 32) where
    -- an attribute, with other bytes where it is the Code
    swapped : (a : Attribute) → IsAttribute pool a → IsAttribute Z (with_bytes Z bytes a)
    swapped a h = go (is_named Z (codes "Code") a) refl
      where
        still : IsAttribute Z a
        still = attribute_still pool Z G a h

        go : (b : Bool) → is_named Z (codes "Code") a ≡ b → IsAttribute Z (with_bytes Z bytes a)
        go true e = rw e (record { name = still.name; named = still.named; short = short })
        go false e = rw e still

    -- all attributes
    all_swapped : (xs : List Attribute) → AllByRecursion (IsAttribute pool) xs → AllByRecursion (IsAttribute Z) (map (with_bytes Z bytes) xs)
    all_swapped [] h = tt
    all_swapped (a ∷ xs) h = (swapped a h.0, all_swapped xs h.1)

  -- a method with another Code, if it has one, is a method
  pub swapped_form : (m : Member) (k : Code) → IsMethod pool m → bytes ≡ code_spelling k → IsCode Z k → k.attributes ≡ [] → IsMethod Z (with_code Z bytes m)
  swapped_form m k h is rules alone =
      let M = member_still pool Z G IsMethodDescriptor m h.member in
      let short : length bytes < 2 ^ 32 = omega (arith, short_code Z k rules alone, ap length is) in
      let many : length (map (with_bytes Z bytes) m.attributes) ≡ length m.attributes = length-map _ _ in
      let few = M.attributes.few in
      record {
        member = record {
          flags = M.flags;
          name = M.name;
          descriptor = M.descriptor;
          named = M.named;
          typed = M.typed;
          attributes = record { few = omega (arith, many, few); each = all_swapped short m.attributes h.member.attributes.each };
        };
        codes_fit = by (has_no_code m.flags) (named_attributes pool (codes "Code") m.attributes) (named_swapped m.attributes h.member.attributes.each) h.codes_fit;
      }
    where
      by : (b : Bool) (xs : List Attribute) → named_attributes Z (codes "Code") (map (with_bytes Z bytes) m.attributes) ≡ map renamed xs → AreCodes pool b xs → AreCodes Z b (named_attributes Z (codes "Code") (map (with_bytes Z bytes) m.attributes))
      by true xs e fit = e ∙ ap (map renamed) fit
      by false xs e fit = (renamed fit.0, k, e ∙ ap (map renamed) fit.2, record { code = rules; is = is })
