-- The number of the first instruction at a place, as one more instruction is seen.
use Rattle.std.proofs.Common.{◌≡◌, ℕ, ◌+◌, ◌<◌, ◌≤◌, List, [], ◌∷◌, ◌++◌, length, map, take, get_or, Option, Some, None, Bool, true, false, not, cond, eqb, nat_lt, nat_eq, refl, sym, ap, ◌∙◌, arith}
use Rattle.std.specs.Prelude.{if◌then◌else◌, position, find, slice_get, option_and_then}
use Rattle.std.specs.List.{position_or_len}
use Rattle.std.proofs.lemmas.Bool.Decides.{nat_tests}
use Rattle.std.proofs.lemmas.List.{take_more, length-append, length-map, length-take-le}
use Rattle.std.proofs.lemmas.List.Folds.{position_or_len_push, find_at}
use Rattle.std.proofs.lemmas.Option.{slice_get_past}
use Rattle.std.proofs.lemmas.List.Sums.{prefix_len-le-length}
use Rattle.jmodel.specs.declared.instruction.Instr.{Instr}
use Rattle.hierarchy.specs.Numbers.{AreNumbers, Notes, or_number}

-- the same of the first places, as numbers
first_push : (first n more len : ℕ) (b : Bool) → first ≤ n → len ≡ n + 1 → more ≡ cond (eqb first n) (n + cond b 0 1) first
    → cond (nat_lt more len) (Some more) None ≡ (if b then or_number (cond (nat_lt first n) (Some first) None) n else cond (nat_lt first n) (Some first) None)
first_push first n more len true h l e = at (nat_lt first n) refl
  where
    at : (b : Bool) → nat_lt first n ≡ b → cond (nat_lt more len) (Some more) None ≡ or_number (cond b (Some first) None) n
    at true t = let lt : first < n = grind (arith, nat_tests) in let same : more ≡ first = grind (arith, nat_tests) in let inside : nat_lt more len ≡ true = grind (arith, nat_tests) in rw (inside, same) refl
    at false t = let eq : first ≡ n = grind (arith, nat_tests) in let same : more ≡ n = grind (arith, nat_tests) in let inside : nat_lt more len ≡ true = grind (arith, nat_tests) in rw (inside, same) refl
first_push first n more len false h l e = at (nat_lt first n) refl
  where
    at : (b : Bool) → nat_lt first n ≡ b → cond (nat_lt more len) (Some more) None ≡ cond b (Some first) None
    at true t = let lt : first < n = grind (arith, nat_tests) in let same : more ≡ first = grind (arith, nat_tests) in let inside : nat_lt more len ≡ true = grind (arith, nat_tests) in rw (inside, same) refl
    at false t = let eq : first ≡ n = grind (arith, nat_tests) in let same : more ≡ n + 1 = grind (arith, nat_tests) in let outside : nat_lt more len ≡ false = grind (arith, nat_tests) in rw outside refl

pub position_push : {A : Type 0} (p : A → Bool) (xs : List A) (y : A) → position p (xs ++ y ∷ []) ≡ (if p y then or_number (position p xs) (length xs) else position p xs)
position_push p xs y = first_push (position_or_len p xs) (length xs) (position_or_len p (xs ++ y ∷ [])) (length (xs ++ y ∷ [])) (p y) (prefix_len-le-length (λ x. not (p x)) xs) (length-append xs (y ∷ [])) (position_or_len_push p xs y)

-- the table has one more instruction
pub numbers_more : (before after : List (Option ℕ)) (is : List Instr) (n : ℕ) (i : Instr) → n < length is → i ≡ get_or is n i → AreNumbers before (take n is) → Notes before after i.pc n → AreNumbers after (take (n + 1) is)
numbers_more before after is n i h at so_far notes pc =
    let has = λ (j : Instr). nat_eq j.pc pc in
    let front : List Instr = take n is in
    let len : length (take n is) ≡ n = length-take-le n is (omega arith) in
    let whole : take (n + 1) is ≡ take n is ++ i ∷ [] = take_more is n i h ∙ ap (λ (j : Instr). take n is ++ j ∷ []) (sym at) in
    let pushed = position_push has (take n is) i in
    notes pc ∙ ap (λ (o : Option ℕ). if nat_eq i.pc pc then or_number o n else o) (so_far pc)
    ∙ ap (λ (k : ℕ). if nat_eq i.pc pc then or_number (position has (take n is)) k else position has (take n is)) (sym len)
    ∙ sym pushed ∙ ap (position has) (sym whole)

-- the item at the first place is the first item
pub position_get : {A : Type 0} (p : A → Bool) (xs : List A) → option_and_then (slice_get xs) (position p xs) ≡ find p xs
position_get p xs = go (nat_lt (position_or_len p xs) (length xs)) refl ∙ sym (find_at p xs)
  where
    go : (b : Bool) → nat_lt (position_or_len p xs) (length xs) ≡ b → option_and_then (slice_get xs) (cond b (Some (position_or_len p xs)) None) ≡ slice_get xs (position_or_len p xs)
    go true t = refl
    go false t = let past : length xs ≤ position_or_len p xs = grind (arith, nat_tests) in sym (slice_get_past xs (position_or_len p xs) past)

-- the same first place, by a test of what is seen of items
module _ {A B : Type 0} (p : A → Bool) (q : B → Bool) (see : A → B) (same : (x : A) → q (see x) ≡ p x) where
  first_seen : (xs : List A) → position_or_len q (map see xs) ≡ position_or_len p xs
  first_seen [] = refl
  first_seen (x ∷ xs) = rw (same x, first_seen xs) refl

  pub position_seen : (xs : List A) → position q (map see xs) ≡ position p xs
  position_seen xs = let many : length (map see xs) ≡ length xs = length-map _ _ in rw (first_seen xs, many) refl
