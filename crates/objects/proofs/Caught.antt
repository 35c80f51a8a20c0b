-- Exception entries of a method, and those of its duplicate.
use Rattle.std.proofs.Common.{◌≡◌, ℕ, zero, suc, ◌+◌, ◌<◌, ◌≤◌, List, [], ◌∷◌, length, Option, Some, None, Bool, true, false, refl, sym, ap, subst, arith, ⊎_elim}
use Rattle.std.specs.Prelude.{slice_get, map, option_map, nat_lt, nat_le, nat_eq, ◌&&◌, if◌then◌else◌}
use Rattle.std.specs.List.{AllByRecursion}
use Rattle.std.proofs.lemmas.Bool.{cases_lt}
use Rattle.std.proofs.lemmas.Bool.Decides.{nat_tests}
use Rattle.std.proofs.lemmas.Option.{slice_get_within}
use Rattle.objects.specs.declared.op.Catch.{Catch}
use Rattle.objects.specs.declared.op.Catches.{Catches}
use Rattle.objects.specs.declared.op.Catches.TheVariants.{Conflict, Any, Of}
use Rattle.objects.specs.semantics.Program.{Row, Method, Program, row_at, is_instance, is_instance_in}
use Rattle.objects.specs.typing.Typing.{Table}
use Rattle.objects.specs.semantics.Step.{takes, find_catch}
use Rattle.objects.specs.typing.Source.{IsSourceCatch}
use Rattle.objects.specs.rewriting.Rewriting.{Typed, block_len, block_at, moved_catch, duplicate_code}
use Rattle.objects.proofs.Places.{Rewrites, next_block, blocks_most}

-- a place of the code, by one inside a block
module _ (code : List Typed) (pc b : ℕ) (o : Typed) (e : slice_get code pc ≡ Some o) (low : block_at code pc ≤ b) (high : b < block_at code pc + block_len o) (i : ℕ) (inside : i ≤ length code) where
  behind : pc < i → b < block_at code i
  behind lt = let n = next_block code pc o e in let le : pc + 1 ≤ i = omega arith in let m = blocks_most code (pc + 1) i le inside in omega (arith, n, m, high)

  before : i ≤ pc → block_at code i ≤ b
  before le = let here : pc ≤ length code = let h = slice_get_within code pc o e in omega (arith, h) in let m = blocks_most code i pc le here in omega (arith, m, low)

  pub same_le : nat_le (block_at code i) b ≡ nat_le i pc
  same_le = ⊎_elim (λ (lt : pc < i). let h = behind lt in grind (arith, nat_tests)) (λ (le : i ≤ pc). let h = before le in grind (arith, nat_tests)) (cases_lt pc i)

  pub same_lt : nat_lt b (block_at code i) ≡ nat_lt pc i
  same_lt = ⊎_elim (λ (lt : pc < i). let h = behind lt in grind (arith, nat_tests)) (λ (le : i ≤ pc). let h = before le in grind (arith, nat_tests)) (cases_lt pc i)

-- the rows of types are the same
pub row_moved : (P Q : Program) (Ts : List Table) → Rewrites P Ts Q → (t : ℕ) → row_at Q t ≡ row_at P t
row_moved P Q Ts R zero = refl
row_moved P Q Ts R (suc t) = ap (λ (rs : List Row). slice_get rs t) R.types

pub instance_moved : (P Q : Program) (Ts : List Table) → Rewrites P Ts Q → (t : ℕ) (n : List ℕ) → is_instance Q t n ≡ is_instance P t n
instance_moved P Q Ts R t n = ap (is_instance_in n) (row_moved P Q Ts R t)

pub takes_moved : (P Q : Program) (Ts : List Table) → Rewrites P Ts Q → (c : Catches) (t : ℕ) → takes Q c t ≡ takes P c t
takes_moved P Q Ts R Conflict t = refl
takes_moved P Q Ts R Any t = refl
takes_moved P Q Ts R (Of c) t = instance_moved P Q Ts R t c

no_second : (a b : Bool) (to : ℕ) (r : Option ℕ) → (if a && false && b then Some to else r) ≡ r
no_second true b to r = refl
no_second false b to r = refl

no_third : (a b : Bool) (to : ℕ) (r : Option ℕ) → (if a && b && false then Some to else r) ≡ r
no_third true true to r = refl
no_third true false to r = refl
no_third false b to r = refl

module _ (P Q : Program) (Ts : List Table) (R : Rewrites P Ts Q) (k : Method) (xs : List Typed) (many : length xs ≡ length k.ops) where
  module _ (pc b : ℕ) (o : Typed) (e : slice_get xs pc ≡ Some o) (low : block_at xs pc ≤ b) (high : b < block_at xs pc + block_len o) (t : ℕ) where
    finds : (cs : List Catch) → AllByRecursion (IsSourceCatch P k) cs → find_catch Q (map (moved_catch (block_at xs)) cs) b t ≡ option_map (block_at xs) (find_catch P cs pc t)
    finds [] all = refl
    finds (c ∷ cs) all =
        let h = same_le xs pc b o e low high c.from (subst (λ (n : ℕ). c.from ≤ n) (sym many) all.0.from) in
        let g = same_lt xs pc b o e low high c.to (subst (λ (n : ℕ). c.to ≤ n) (sym many) all.0.to) in
        let s = takes_moved P Q Ts R c.catches t in
        rw (h, g, s, finds cs all.1) (by (nat_le c.from pc && nat_lt pc c.to && takes P c.catches t) (find_catch P cs pc t))
      where
        by : (x : Bool) (r : Option ℕ) → (if x then Some (block_at xs c.at) else option_map (block_at xs) r) ≡ option_map (block_at xs) (if x then Some c.at else r)
        by true r = refl
        by false r = refl

    -- an exception that isn't the conflict
    pub duplicate_finds : nat_eq t 0 ≡ false → AllByRecursion (IsSourceCatch P k) k.catches → find_catch Q (duplicate_code P k xs).catches b t ≡ option_map (block_at xs) (find_catch P k.catches pc t)
    duplicate_finds other all = rw (other, finds k.catches all) (no_third (nat_le 0 b) (nat_lt b (block_at xs (length xs))) (block_at xs (length xs)) _)

  abbrev end : ℕ
  end = block_at xs (length xs)

  -- no entry of the method's own takes what its stub throws
  pub past_all : (t : ℕ) (cs : List Catch) → AllByRecursion (IsSourceCatch P k) cs → find_catch Q (map (moved_catch (block_at xs)) cs) end t ≡ None
  past_all t [] all = refl
  past_all t (c ∷ cs) all =
      let m = blocks_most xs c.to (length xs) (subst (λ (n : ℕ). c.to ≤ n) (sym many) all.0.to) (omega arith) in
      let out : nat_lt end (block_at xs c.to) ≡ false = grind (arith, nat_tests) in
      rw (out, past_all t cs all.1) (no_second (nat_le (block_at xs c.from) end) (takes Q c.catches t) (block_at xs c.at) None)
