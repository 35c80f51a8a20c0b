-- Parts of texts, and tests of what is seen of items.
use Rattle.std.proofs.Common.{◌≡◌, ℕ, suc, ◌+◌, ◌<◌, ◌≤◌, List, length, drop, get_or, ◌∷◌, true, false, Bor, IfSome, refl, ap, ◌∙◌, sym, nat_eq, nat_lt, add-one, drop-cons, arith}
use Rattle.std.specs.List.{starts_with, list_any}
use Rattle.std.specs.Option.{option_eq}
use Rattle.std.proofs.lemmas.Slice.Eq.{bytes_eq-Decides}
use Rattle.std.specs.Prelude.{◌||◌, bytes_eq, map, [], Bool, Option, Some, None, Err, is_some, option_copied, option_map, slice_get}
use Rattle.std.proofs.lemmas.Bool.Decides.{nat_tests}
use Rattle.std.proofs.lemmas.Option.{slice_get_past, slice_get-get_or}
use Rattle.jmodel.specs.declared.refusal.Refusal.{Refusal}
use Rattle.jmodel.specs.format.Descriptor.{Signature}
use Rattle.jmodel.specs.format.DescriptorReading.{signature_or}
use Rattle.objects.specs.linking.Reserved.{has_part}

-- a part that doesn't begin at a place is behind it or nowhere
pub has_part_after : (part text : List ℕ) (i : ℕ) → i < length text → starts_with nat_eq (drop i text) part ≡ false → has_part part (drop (i + 1) text) ≡ has_part part (drop i text)
has_part_after part text i h none =
    let cons : drop i text ≡ (get_or text i 0 ∷ drop (suc i) text) = drop-cons text i 0 h in
    let no_here : starts_with nat_eq (get_or text i 0 ∷ drop (suc i) text) part ≡ false = sym (ap (λ t. starts_with nat_eq t part) cons) ∙ none in
    let here : has_part part (get_or text i 0 ∷ drop (suc i) text) ≡ has_part part (drop (suc i) text) = ap (λ b. b || has_part part (drop (suc i) text)) no_here in
    ap (λ n. has_part part (drop n text)) (add-one i) ∙ sym here ∙ sym (ap (has_part part) cons)

pub same_bytes : (a b : List ℕ) → bytes_eq a b ≡ true → a ≡ b
same_bytes a b h = (bytes_eq-Decides a b).0 h

-- some item passes as it is seen
pub any_map : {A B : Type 0} (p : B → Bool) (f : A → B) (xs : List A) → list_any p (map f xs) ≡ list_any (λ x. p (f x)) xs
any_map p f [] = refl
any_map p f (x ∷ xs) = ap (λ b. p (f x) || b) (any_map p f xs)

-- a text that is refused has no signature
pub no_signature : (q r : Refusal) (o : Option Signature) → signature_or q o ≡ Err r → o ≡ None
no_signature q r None h = refl
no_signature q r (Some s) h = cc

-- what is got at an index is the item there
pub got : {A : Type 0} (xs : List A) (i : ℕ) (o : Option (Bor A)) → is_some o ≡ nat_lt i (length xs) → IfSome o (λ x. x.now ≡ get_or xs i x.now) → option_copied o ≡ slice_get xs i
got xs i None there is = let past : length xs ≤ i = grind (arith, nat_tests) in sym (slice_get_past xs i past)
got xs i (Some x) there is =
    let inside : i < length xs = grind (arith, nat_tests) in
    ap (λ y. Some y) is ∙ sym (slice_get-get_or xs i x.now inside)

-- what is there behind a reference
pub none_seen : {A : Type 0} (o : Option (Bor A)) → is_some o ≡ false → option_map (λ x. x.now) o ≡ None
none_seen None there = refl
none_seen (Some x) there = absurd cc

pub some_seen : {A : Type 0} (o : Option (Bor A)) → is_some o ≡ true → (x : A) × (option_map (λ y. y.now) o ≡ Some x)
some_seen None there = absurd cc
some_seen (Some x) there = (x.now, refl)

-- numbers that are there, compared
pub same_option : (a b : Option ℕ) → option_eq nat_eq a b ≡ true → a ≡ b
same_option None None h = refl
same_option None (Some y) h = absurd cc
same_option (Some x) None h = absurd cc
same_option (Some x) (Some y) h = let same : x ≡ y = grind (arith, nat_tests) in ap (λ (n : ℕ). Some n) same

pub option_itself : (a b : Option ℕ) → a ≡ b → option_eq nat_eq a b ≡ true
option_itself a b h = ap (option_eq nat_eq a) (sym h) ∙ itself a
  where
    itself : (o : Option ℕ) → option_eq nat_eq o o ≡ true
    itself None = refl
    itself (Some x) = grind (arith, nat_tests)
