-- The words of static bases, and the references of string constants.
use Rattle.std.proofs.Common.{◌≡◌, ℕ, suc, ◌+◌, ◌*◌, ◌^◌, Bool, true, false, cond, List, [], ◌∷◌, ◌++◌, map, Option, Some, None, refl, sym, ap, ◌∙◌, add-zero}
use Rattle.std.specs.Prelude.{bytes_eq, position, option_map, option_and_then, unwrap_or}
use Rattle.jmodel.specs.declared.name.MethodName.{MethodName}
use Rattle.jmodel.specs.format.ClassFile.{Member, Pool, ClassFile}
use Rattle.objects.specs.linking.Members.{statics, is_name}
use Rattle.objects.specs.linking.StaticBases.{has_base, bases_end, base_type}
use Rattle.objects.specs.semantics.Value.{word_of}
use Rattle.objects.specs.linking.Layout.{texts_of, text_place, constant_text, opening_value, statics_object, object_image, base_images}
use Rattle.hierarchy.specs.Names.{named, number_of}
use Rattle.hierarchy.proofs.Numbering.{position_seen}
use Rattle.heap_layout.specs.Opening.{text_key, image_of, ArePlaces, text_value}
use Rattle.heap_layout.proofs.LibraryRows.{map_twice}

-- the words of the base of the class that is the n-th, by its type
pub image_same : (cs : List ClassFile) (n : ℕ) (c : ClassFile) → (cond (has_base c) (object_image (statics_object cs n c)) []) ≡ image_of cs (base_type cs n) c
image_same cs n c = go (has_base c)
  where
    words : object_image (statics_object cs n c) ≡ base_type cs n * 2 ^ 32 ∷ map (λ m. word_of (opening_value cs c.pool m)) (statics c)
    words =
        ap (λ (h : ℕ). h ∷ map word_of (map (opening_value cs c.pool) (statics c))) (add-zero (base_type cs n * 2 ^ 32))
        ∙ ap (λ (l : List ℕ). base_type cs n * 2 ^ 32 ∷ l) (map_twice word_of (opening_value cs c.pool) (statics c))

    go : (b : Bool) → cond b (object_image (statics_object cs n c)) [] ≡ cond b (base_type cs n * 2 ^ 32 ∷ map (λ m. word_of (opening_value cs c.pool m)) (statics c)) []
    go true = words
    go false = refl

-- the bases of one more class
pub images_step : (cs : List ClassFile) (n : ℕ) (c : ClassFile) (ds : List ClassFile) → base_images cs n (c ∷ ds) ≡ image_of cs (base_type cs n) c ++ base_images cs (suc n) ds
images_step cs n c ds = ap (λ (l : List ℕ). l ++ base_images cs (suc n) ds) (image_same cs n c)

-- the number of a text by its name
pub text_number : (cs : List ClassFile) (numbers : List (MethodName × ℕ)) (from : ℕ) (t : List ℕ) → ArePlaces cs numbers from → number_of numbers (named t [] []) ≡ position (bytes_eq t) (texts_of cs)
text_number cs numbers from t are = are.numbers_are (text_key t) ∙ position_seen (bytes_eq t) (is_name (text_key t)) text_key (λ u. refl) (texts_of cs)

-- ---- the word of a string constant

module _ (cs : List ClassFile) (numbers : List (MethodName × ℕ)) (from : ℕ) (pool : Pool) (m : Member) (t : List ℕ) (are : ArePlaces cs numbers from) (is : constant_text pool m ≡ Some t) where
  numbered : (o : Option ℕ) → number_of numbers (named t [] []) ≡ o → text_value cs pool m ≡ unwrap_or (option_map (λ (n : ℕ). bases_end cs + n) o) 0
  numbered o found =
      ap (λ (text : Option (List ℕ)). unwrap_or (option_and_then (text_place cs) text) 0) is
      ∙ ap (λ (o : Option ℕ). unwrap_or (option_map (λ (n : ℕ). bases_end cs + n) o) 0) (sym (text_number cs numbers from t are) ∙ found)

  -- of a text that has a number
  pub text_found : (n w : ℕ) → number_of numbers (named t [] []) ≡ Some n → w ≡ from + n → w ≡ text_value cs pool m
  text_found n w found sum = sum ∙ ap (λ (k : ℕ). k + n) are.from_is ∙ sym (numbered (Some n) found)

  -- of a text that has none
  pub text_lost : number_of numbers (named t [] []) ≡ None → ◌≡◌ {A = ℕ} 0 (text_value cs pool m)
  text_lost lost = sym (numbered None lost)

-- where the constant is no text
pub no_text : (cs : List ClassFile) (pool : Pool) (m : Member) → constant_text pool m ≡ None → ◌≡◌ {A = ℕ} 0 (text_value cs pool m)
no_text cs pool m none = sym (ap (λ (text : Option (List ℕ)). unwrap_or (option_and_then (text_place cs) text) 0) none)
