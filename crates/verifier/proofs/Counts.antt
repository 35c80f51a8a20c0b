-- How many places wait to be looked at.
use Rattle.std.proofs.Common.{◌≡◌, ◌≢◌, ℕ, zero, suc, ◌+◌, ◌<◌, ◌≤◌, List, Bool, true, false, cond, refl, sym, ap, subst, arith}
use Rattle.std.specs.Ordering.{nat_cmp}
use Rattle.std.specs.BTreeMap.{is_at}
use Rattle.verifier.specs.Search.{IsInserted, IsTaken, waits}
use Rattle.verifier.proofs.Numbers.{at_self, at_same}
use Rattle.verifier.proofs.Weights.{bit}

-- how many places below a number wait
abbrev pub count : ℕ → List ℕ → ℕ
count zero ws = 0
count (suc i) ws = bit (waits ws i) + count i ws

-- a bit is one at most
bit_high : (x : Bool) → bit x ≤ 1
bit_high true = omega arith
bit_high false = omega arith

-- a place that waits anew
module _ (to : ℕ) (ws ns : List ℕ) (put : IsInserted to ws ns) where
  -- below the place as many wait as before
  count_other : (i : ℕ) → i ≤ to → count i ns ≡ count i ws
  count_other zero h = refl
  count_other (suc i) h = by (let l : i ≤ to = omega arith in count_other i l) (is_at (nat_cmp to) i) refl (put i)
    where
      by : count i ns ≡ count i ws → (x : Bool) → is_at (nat_cmp to) i ≡ x → waits ns i ≡ cond x true (waits ws i) → bit (waits ns i) + count i ns ≡ bit (waits ws i) + count i ws
      by rest true e p = absurd (let s = at_same to i e in omega arith)
      by rest false e p = let a = ap bit p in omega arith

  -- one more waits at most
  pub count_put : (i : ℕ) → count i ns ≤ count i ws + 1
  count_put zero = omega arith
  count_put (suc i) = by (count_put i) (is_at (nat_cmp to) i) refl (put i)
    where
      by : count i ns ≤ count i ws + 1 → (x : Bool) → is_at (nat_cmp to) i ≡ x → waits ns i ≡ cond x true (waits ws i) → bit (waits ns i) + count i ns ≤ bit (waits ws i) + count i ws + 1
      by rest true e p = let s = at_same to i e in let l : i ≤ to = omega arith in let r = count_other i l in let a = bit_high (waits ns i) in omega arith
      by rest false e p = let a = ap bit p in omega arith

-- a place is taken
module _ (pc : ℕ) (ws ns : List ℕ) (there : waits ws pc ≡ true) (taken : IsTaken pc ws ns) where
  -- below it as many wait
  count_below : (i : ℕ) → i ≤ pc → count i ns ≡ count i ws
  count_below zero h = refl
  count_below (suc i) h = by (let l : i ≤ pc = omega arith in count_below i l) (is_at (nat_cmp pc) i) refl (taken i)
    where
      by : count i ns ≡ count i ws → (x : Bool) → is_at (nat_cmp pc) i ≡ x → waits ns i ≡ cond x false (waits ws i) → bit (waits ns i) + count i ns ≡ bit (waits ws i) + count i ws
      by rest true e p = absurd (let s = at_same pc i e in omega arith)
      by rest false e p = let a = ap bit p in omega arith

  -- one less waits
  pub count_taken : (i : ℕ) → pc < i → count i ws ≡ count i ns + 1
  count_taken zero h = absurd (omega arith)
  count_taken (suc i) h = by (count_taken i) (is_at (nat_cmp pc) i) refl (taken i)
    where
      by : (pc < i → count i ws ≡ count i ns + 1) → (x : Bool) → is_at (nat_cmp pc) i ≡ x → waits ns i ≡ cond x false (waits ws i) → bit (waits ws i) + count i ws ≡ bit (waits ns i) + count i ns + 1
      by rest true e p =
          let s = at_same pc i e in
          let l : i ≤ pc = omega arith in
          let w : bit (waits ws i) ≡ 1 = ap bit (subst (λ (j : ℕ). waits ws j ≡ true) (sym s) there) in
          let a : bit (waits ns i) ≡ 0 = ap bit p in
          let r = count_below i l in
          omega arith
      by rest false e p =
          let ne : pc ≢ i = λ s. let t = at_self pc in let u : is_at (nat_cmp pc) pc ≡ false = subst (λ (j : ℕ). is_at (nat_cmp pc) j ≡ false) (sym s) e in let no : ⊥ = cc (t, u) in no in
          let l : pc < i = omega arith in
          let a = ap bit p in
          let r = rest l in
          omega arith
