-- The memory that a run begins with stands for the state of the opening words.
use Rattle.std.proofs.Common.{◌≡◌, ℕ, zero, suc, ◌+◌, ◌*◌, ◌≤◌, ◌<◌, ◌^◌, List, [], ◌∷◌, ◌++◌, length, map, Bool, true, false, nat_eq, Some, Ok, refl, sym, ap, subst, arith, length-append, ◌∙◌}
use Rattle.std.specs.Prelude.{if◌then◌else◌, replicate, slice_index, sum_by}
use Rattle.std.proofs.lemmas.List.{length-map}
use Rattle.std.proofs.lemmas.List.Sums.{sum_by-cons}
use Rattle.std.proofs.lemmas.Bool.Decides.{nat_tests}
use Rattle.std.proofs.Math.Nat.{mul-le-mul_right}
use Rattle.jmodel.specs.format.ClassFile.{ClassFile}
use Rattle.objects.specs.linking.Members.{statics}
use Rattle.objects.specs.linking.StaticBases.{has_base, base_words, at_address}
use Rattle.objects.specs.semantics.Program.{Program}
use Rattle.objects.specs.linking.Layout.{texts_of, statics_object, text_object, opening_value, object_image, base_images, opening_words, opening_state, fixed_words}
use Rattle.objects.specs.semantics.State.{header}
use Rattle.objects.specs.semantics.Value.{word_of}
use Rattle.objects.specs.linking.Linking.{linking}
use Rattle.objects.specs.laws.LinkingLaw.{AreRead}
use Rattle.objects.specs.history.Meaning.{Represents}
use Rattle.objects.proofs.OpeningProof.{opening_law}
use Rattle.script.specs.Script.{region_limit}
use Rattle.driver.specs.declared.memory.Memory.{Memory}
use Rattle.driver.specs.Memory.{used_at_first, Holds}

-- ---- how many words there are

image_words : (cs : List ClassFile) (n : ℕ) (c : ClassFile) → length (if has_base c then object_image (statics_object cs n c) else []) ≡ base_words c
image_words cs n c = go (has_base c)
  where
    go : (b : Bool) → length (if b then object_image (statics_object cs n c) else []) ≡ (if b then length (statics c) + 1 else 0)
    go true =
        let values = length-map (map (opening_value cs c.pool) (statics c)) word_of in
        let given = length-map (statics c) (opening_value cs c.pool) in
        omega (arith, values, given)
    go false = refl

images_words : (all : List ClassFile) (n : ℕ) (cs : List ClassFile) → length (base_images all n cs) ≡ sum_by base_words cs
images_words all n [] = refl
images_words all n (c ∷ cs) =
    let one = image_words all n c in
    let more = images_words all (suc n) cs in
    let both = length-append (if has_base c then object_image (statics_object all n c) else []) (base_images all (suc n) cs) in
    let sum = sum_by-cons base_words c cs in
    omega (arith, one, more, both, sum)

-- there are as many opening words as are fixed
pub words_fixed : (cs : List ClassFile) → length (opening_words cs) ≡ fixed_words cs
words_fixed cs =
    let images = images_words cs 0 cs in
    let texts = length-map (texts_of cs) (λ (t : List ℕ). header text_object) in
    let both = length-append (base_images cs 0 cs) (map (λ (t : List ℕ). header text_object) (texts_of cs)) in
    omega (arith, images, texts, both)

-- ---- what they stand for

-- words behind which all are 0
beyond : (xs : List ℕ) (n a : ℕ) → slice_index (xs ++ replicate n 0) a ≡ slice_index xs a
beyond (x ∷ xs) n zero = refl
beyond (x ∷ xs) n (suc a) = beyond xs n a
beyond [] n a = none n a
  where
    none : (n a : ℕ) → slice_index (replicate n 0) a ≡ 0
    none zero a = refl
    none (suc n) zero = refl
    none (suc n) (suc a) = none n a

-- the used words of each region are those of the state
used_first : (cs : List ClassFile) (used region : ℕ) → used ≡ fixed_words cs → (opening_state cs).used region ≡ used_at_first used region
used_first cs used zero same =
    let here : nat_eq 0 0 ≡ true = grind (arith, nat_tests) in
    ap (λ (b : Bool). if b then fixed_words cs else 0) here ∙ sym same
used_first cs used (suc region) same =
    let other : nat_eq (suc region) 0 ≡ false = grind (arith, nat_tests) in
    ap (λ (b : Bool). if b then fixed_words cs else 0) other

-- memory stands for the state of the opening words
pub opening_holds : (cs : List ClassFile) (P : Program) (size n : ℕ) (memory : Memory) → AreRead cs → linking cs ≡ Ok (Some P) → memory.words.items ≡ opening_words cs ++ replicate n 0
    → memory.used ≡ fixed_words cs → fixed_words cs ≤ size → size < 2 ^ 64 → Holds P size memory (opening_state cs)
opening_holds cs P size n memory read links words used room small =
    let words_are : at_address (opening_words cs) ≡ at_address memory.words.items =
    λ i a. sym (ap (λ (l : List ℕ). slice_index l a) words ∙ beyond (opening_words cs) n a) i in
    record {
      represents = subst (λ (w : ℕ → ℕ). Represents P size w (opening_state cs)) words_are (opening_law cs P size read links room small);
      used_are = λ region. used_first cs memory.used region used;
    }

-- all regions have room for the words of one, and aren't too many words together
pub room_for : (size lanes n : ℕ) → n ≤ size → n ≤ size * (lanes + 1)
room_for size lanes n small = let more : 1 * size ≤ (lanes + 1) * size = mul-le-mul_right size (omega arith) in omega (arith, more, small)

pub few_words : (size lanes : ℕ) → size ≤ region_limit → lanes ≤ 16 → size * (lanes + 1) ≤ 17825792
few_words size lanes small few = let more : size * (lanes + 1) ≤ region_limit * (lanes + 1) = mul-le-mul_right (lanes + 1) small in omega (arith, more, few)

pub small_region : (size : ℕ) → size ≤ region_limit → size < 2 ^ 64
small_region size small = omega (arith, small)
