-- Words stand for the example's state in which s is an A.
use Rattle.std.proofs.Common.{◌≡◌, ℕ, ◌+◌, ◌*◌, ◌^◌, ◌/◌, ◌%◌, ◌<◌, ◌≤◌, length, Some, None, Bool, true, false, refl, subst, arith}
use Rattle.std.specs.Prelude.{nat_eq, codes, if◌then◌else◌}
use Rattle.std.proofs.lemmas.Bool.Decides.{nat_tests}
use Rattle.jmodel.specs.history.History.{Words}
use Rattle.objects.specs.semantics.State.{Object, State}
use Rattle.objects.specs.history.Meaning.{IsLaid, IsInRegion, IsTyped, IsHeap, Represents}
use Rattle.objects.proofs.ExampleProgram.{class_a, static_base, static_words, program}
use Rattle.objects.proofs.Example.{base, a_text, an_a, state_with}
use Rattle.objects.specs.linking.LibraryClasses.{object, under}

abbrev state : State
state = state_with an_a

-- the objects are these three
data IsThere : ℕ → Object → Type 0 where
  the_base : IsThere 2 base
  the_text : IsThere 5 a_text
  the_a : IsThere 64 an_a

there : (r : ℕ) (o : Object) → state.objects r ≡ Some o → IsThere r o
there r o e = at_base (nat_eq r 2) refl e
  where
    last : (b : Bool) → nat_eq r 64 ≡ b → (if b then Some an_a else None) ≡ Some o → IsThere r o
    last true is e = let s : r ≡ 64 = grind (arith, nat_tests) in let t : an_a ≡ o = cc in rw (s, ← t) the_a
    last false is e = cc

    at_text : (b : Bool) → nat_eq r 5 ≡ b → (if b then Some a_text else (if nat_eq r 64 then Some an_a else None)) ≡ Some o → IsThere r o
    at_text true is e = let s : r ≡ 5 = grind (arith, nat_tests) in let t : a_text ≡ o = cc in rw (s, ← t) the_text
    at_text false is e = last (nat_eq r 64) refl e

    at_base : (b : Bool) → nat_eq r 2 ≡ b → (if b then Some base else (if nat_eq r 5 then Some a_text else (if nat_eq r 64 then Some an_a else None))) ≡ Some o → IsThere r o
    at_base true is e = let s : r ≡ 2 = grind (arith, nat_tests) in let t : base ≡ o = cc in rw (s, ← t) the_base
    at_base false is e = at_text (nat_eq r 5) refl e

in_region : (r : ℕ) (o : Object) → IsThere r o → IsInRegion 64 state.used r o
in_region r o the_base = record { there = omega arith; inside = omega arith; below = omega arith; address = omega arith }
in_region r o the_text = record { there = omega arith; inside = omega arith; below = omega arith; address = omega arith }
in_region r o the_a = record { there = omega arith; inside = omega arith; below = omega arith; address = omega arith }

is_typed : (r : ℕ) (o : Object) → IsThere r o → IsTyped program state o
is_typed r o the_base = record { row = static_base; is = refl; holds = (record { object = an_a; row = class_a; there = refl; is = refl; below = refl }, (tt, tt)) }
is_typed r o the_text = record { row = under object (codes "String"); is = refl; holds = tt }
is_typed r o the_a = record { row = class_a; is = refl; holds = (omega arith, (tt, (omega arith, tt))) }

heap : IsHeap program 64 state
heap = record {
  regions = λ r o e. in_region r o (there r o e);
  typed = λ r o e. is_typed r o (there r o e);
  fields = (tt, (tt, (tt, (record { base = base; row = static_base; words = static_words; there = refl; is = refl; holds = refl; place = refl }, (record { base = base; row = static_base; words = static_words; there = refl; is = refl; holds = refl; place = refl }, (tt, tt))))));
  texts = (record { object = a_text; row = under object (codes "String"); there = refl; is = refl; below = refl }, tt);
}

abbrev words : Words
words a =
    if nat_eq a 2 then 24 * 2 ^ 32
    else (if nat_eq a 3 then 64
    else (if nat_eq a 5 then 2 * 2 ^ 32
    else (if nat_eq a 64 then 21 * 2 ^ 32
    else (if nat_eq a 65 then 4 else 0))))

laid : (r : ℕ) (o : Object) → IsThere r o → IsLaid words r o
laid r o the_base = record { header_lies = refl; values_lie = (refl, (refl, tt)) }
laid r o the_text = record { header_lies = refl; values_lie = tt }
laid r o the_a = record { header_lies = refl; values_lie = (refl, (refl, (refl, tt))) }

apart : (r q : ℕ) (o p : Object) → IsThere r o → IsThere q p → r < q → r + length o.values < q
apart r q o p the_base the_base lt = absurd (omega arith)
apart r q o p the_base the_text lt = omega arith
apart r q o p the_base the_a lt = omega arith
apart r q o p the_text the_base lt = absurd (omega arith)
apart r q o p the_text the_text lt = absurd (omega arith)
apart r q o p the_text the_a lt = omega arith
apart r q o p the_a the_base lt = absurd (omega arith)
apart r q o p the_a the_text lt = absurd (omega arith)
apart r q o p the_a the_a lt = absurd (omega arith)

free : (a : ℕ) → state.used (a / 64) ≤ a % 64 → words a ≡ 0
free a le = at_2 (nat_eq a 2) refl
  where
    used : (k : ℕ) → a ≡ k → state.used (k / 64) ≤ k % 64
    used k e = subst (λ n. state.used (n / 64) ≤ n % 64) e le

    at_65 : (b : Bool) → nat_eq a 65 ≡ b → ◌≡◌ {A = ℕ} (if b then 4 else 0) 0
    at_65 true is = let e : a ≡ 65 = grind (arith, nat_tests) in let u = used 65 e in absurd (omega (arith, u))
    at_65 false is = refl

    at_64 : (b : Bool) → nat_eq a 64 ≡ b → ◌≡◌ {A = ℕ} (if b then 21 * 2 ^ 32 else (if nat_eq a 65 then 4 else 0)) 0
    at_64 true is = let e : a ≡ 64 = grind (arith, nat_tests) in let u = used 64 e in absurd (omega (arith, u))
    at_64 false is = at_65 (nat_eq a 65) refl

    at_5 : (b : Bool) → nat_eq a 5 ≡ b → ◌≡◌ {A = ℕ} (if b then 2 * 2 ^ 32 else (if nat_eq a 64 then 21 * 2 ^ 32 else (if nat_eq a 65 then 4 else 0))) 0
    at_5 true is = let e : a ≡ 5 = grind (arith, nat_tests) in let u = used 5 e in absurd (omega (arith, u))
    at_5 false is = at_64 (nat_eq a 64) refl

    at_3 : (b : Bool) → nat_eq a 3 ≡ b → ◌≡◌ {A = ℕ} (if b then 64 else (if nat_eq a 5 then 2 * 2 ^ 32 else (if nat_eq a 64 then 21 * 2 ^ 32 else (if nat_eq a 65 then 4 else 0)))) 0
    at_3 true is = let e : a ≡ 3 = grind (arith, nat_tests) in let u = used 3 e in absurd (omega (arith, u))
    at_3 false is = at_5 (nat_eq a 5) refl

    at_2 : (b : Bool) → nat_eq a 2 ≡ b → ◌≡◌ {A = ℕ} (if b then 24 * 2 ^ 32 else (if nat_eq a 3 then 64 else (if nat_eq a 5 then 2 * 2 ^ 32 else (if nat_eq a 64 then 21 * 2 ^ 32 else (if nat_eq a 65 then 4 else 0))))) 0
    at_2 true is = let e : a ≡ 2 = grind (arith, nat_tests) in let u = used 2 e in absurd (omega (arith, u))
    at_2 false is = at_3 (nat_eq a 3) refl

-- The words stand for the state.
pub represents : Represents program 64 words state
represents = record {
  laid = λ r o e. laid r o (there r o e);
  apart = λ r q o p e f lt. apart r q o p (there r o e) (there q p f) lt;
  heap = heap;
  free = free;
}
