-- Methods side by side with their code, as a loop sees them.
use Rattle.std.proofs.Common.{◌≡◌, ℕ, ◌+◌, ◌<◌, ◌≤◌, List, [], ◌∷◌, ◌++◌, length, map, drop, get_or, Option, Bor, sym, ap, ◌∙◌, arith}
use Rattle.std.specs.Prelude.{zip, min}
use Rattle.std.proofs.Math.ListN.{get_or-map}
use Rattle.std.proofs.lemmas.List.{length-map, length-append}
use Rattle.std.proofs.lemmas.Slice.Zip.{length-zip, get_or-zip}
use Rattle.objects.specs.linking.Code.{Coded}
use Rattle.objects.specs.linking.Classes.{Declared}
use Rattle.hierarchy.proofs.Each.{item_at}

abbrev pub side_by_side : List (Bor Declared) → List (Option Coded) → List (Declared × Option Coded)
side_by_side ms ks = zip (map (λ m. m.now) ms) ks

pub length_more : {A : Type 0} (xs : List A) (x : A) → length (xs ++ x ∷ []) ≡ length xs + 1
length_more xs x = length-append xs (x ∷ [])

module _ (ms : List (Bor Declared)) (ks : List (Option Coded)) where
  long : length (side_by_side ms ks) ≡ min (length ms) (length ks)
  long = length-zip (map (λ m. m.now) ms) ks ∙ ap (λ (n : ℕ). min n (length ks)) (length-map _ _)

  pub pair_is : (n : ℕ) (m : Bor Declared) (k : Option Coded) → n < length ms → n < length ks → m ≡ get_or ms n m → k ≡ get_or ks n k
      → drop n (side_by_side ms ks) ≡ (m.now, k) ∷ drop (n + 1) (side_by_side ms ks)
  pair_is n m k left right is told =
      let same : length (map (λ m. m.now) ms) ≡ length ms = length-map _ _ in
      let inside : n < length (map (λ m. m.now) ms) = omega (arith, left, same) in
      let pair : get_or (side_by_side ms ks) n (m.now, k) ≡ (get_or (map (λ m. m.now) ms) n m.now, get_or ks n k) = get_or-zip (map (λ m. m.now) ms) ks n (m.now, k) inside right in
      let first : get_or (map (λ m. m.now) ms) n m.now ≡ m.now = get_or-map (λ (m : Bor Declared). m.now) ms n m ∙ ap (λ (m : Bor Declared). m.now) (sym is) in
      let both : get_or (side_by_side ms ks) n (m.now, k) ≡ (m.now, k) =
      pair ∙ ap (λ (x : Declared). (x, get_or ks n k)) first ∙ ap (λ (x : Option Coded). (m.now, x)) (sym told) in
      item_at (side_by_side ms ks) n (m.now, k) (omega (arith, long, left, right)) ∙ ap (λ (x : Declared × Option Coded). x ∷ drop (n + 1) (side_by_side ms ks)) both

  pub no_more : (n : ℕ) → n ≡ min (length ms) (length ks) → length (side_by_side ms ks) ≤ n
  no_more n e = omega (arith, long, e)
