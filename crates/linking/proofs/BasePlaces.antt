-- Where the objects of static fields lie, as a loop goes from class to class, and by the names of classes.
use Rattle.std.proofs.Common.{◌≡◌, ℕ, ◌+◌, ◌<◌, ◌≤◌, Bool, true, false, not, cond, nat_lt, List, [], ◌∷◌, ◌++◌, length, get_or, Some, None, refl, sym, ap, ◌∙◌, arith, below_more}
use Rattle.std.specs.Prelude.{bytes_eq, unwrap_or}
use Rattle.std.specs.List.{position_or_len}
use Rattle.std.proofs.lemmas.Bool.Decides.{nat_tests}
use Rattle.std.proofs.lemmas.List.{get_or_append_left, get_or_push}
use Rattle.std.proofs.lemmas.List.Sums.{prefix_len-le-length}
use Rattle.jmodel.specs.format.ClassFile.{ClassFile}
use Rattle.objects.specs.linking.Members.{own_name}
use Rattle.objects.specs.linking.Linking.{place_from, base_in}
use Rattle.hierarchy.specs.Places.{place_of}
use Rattle.linking.specs.Bases.{AreBases}

-- one more address
pub one_more : (bases : List ℕ) (f : ℕ → ℕ) (i b : ℕ) → length bases ≡ i → ((n : ℕ) → n < i → get_or bases n 0 ≡ f n) → b ≡ f i → (n : ℕ) → n < i + 1 → get_or (bases ++ b ∷ []) n 0 ≡ f n
one_more bases f i b many so_far is =
    below_more (λ n. get_or (bases ++ b ∷ []) n 0 ≡ f n) i (λ n less. get_or_append_left bases (b ∷ []) 0 n (omega (arith, many, less)) ∙ so_far n less) (get_or_push bases b 0 i many ∙ is)

-- whether a class has a name
abbrev named : List ℕ → ClassFile → Bool
named name c = bytes_eq (own_name c) name

-- the place of a name among classes, or behind them
place_is : (n : ℕ) (cs : List ClassFile) (name : List ℕ) → place_from n cs name ≡ n + position_or_len (named name) cs
place_is n [] name = omega arith
place_is n (c ∷ cs) name = go (bytes_eq (own_name c) name) (place_is (n + 1) cs name)
  where
    go : (b : Bool) → place_from (n + 1) cs name ≡ n + 1 + position_or_len (named name) cs → cond b n (place_from (n + 1) cs name) ≡ n + cond (not b) (1 + position_or_len (named name) cs) 0
    go true others = omega arith
    go false others = omega (arith, others)

-- a place among so many, or their number
within : (at many : ℕ) → at ≤ many → unwrap_or (cond (nat_lt at many) (Some at) None) many ≡ 0 + at
within at many le = go (nat_lt at many) refl
  where
    go : (b : Bool) → nat_lt at many ≡ b → unwrap_or (cond b (Some at) None) many ≡ 0 + at
    go true e = omega arith
    go false e = grind (arith, nat_tests)

-- the place that was looked up, or the place behind all
pub place_or_len : (cs : List ClassFile) (name : List ℕ) → unwrap_or (place_of cs name) (length cs) ≡ place_from 0 cs name
place_or_len cs name = within (position_or_len (named name) cs) (length cs) (prefix_len-le-length (λ c. not (named name c)) cs) ∙ sym (place_is 0 cs name)

-- it is inside or right behind
pub place_inside : (cs : List ClassFile) (name : List ℕ) → place_from 0 cs name ≤ length cs
place_inside cs name = omega (arith, place_is 0 cs name, prefix_len-le-length (λ c. not (named name c)) cs)

-- the address at a place that was looked up
pub base_is : (bases : List ℕ) (cs : List ClassFile) (name : List ℕ) (place : ℕ) → AreBases bases cs → place ≡ unwrap_or (place_of cs name) (length cs) → get_or bases place 0 ≡ base_in cs name
base_is bases cs name place are is =
    let same : place ≡ place_from 0 cs name = is ∙ place_or_len cs name in
    ap (λ (n : ℕ). get_or bases n 0) same ∙ are.each (place_from 0 cs name) (place_inside cs name)
