-- The calls that a phase's lanes made, lane by lane.
use Rattle.std.proofs.Common.{◌≡◌, ℕ, suc, ◌≤◌, ◌+◌, List, [], ◌∷◌, ◌++◌, length, take, drop, map, Bool, refl, sym, ◌∙◌, ap, subst, arith}
use Rattle.std.specs.Prelude.{filter, IsPermutation}
use Rattle.std.specs.List.{flat_map, AllZip}
use Rattle.std.proofs.lemmas.List.{map-append, length-drop, length-take-le, take_all, take-append-drop}
use Rattle.std.proofs.lemmas.List.Elements.{filter-append}
use Rattle.std.proofs.lemmas.List.Sorted.{IsPermutation-refl}
use Rattle.jmodel.specs.history.History.{Told}
use Rattle.jmodel.specs.history.Schedule.{Known, Phase, lane_calls, phase_calls}
use Rattle.session.specs.Rule.{calls_of}
use Rattle.session.specs.Lane.{is_unplaced, record_of}
use Rattle.driver.specs.declared.side.Part.{Part}
use Rattle.driver.specs.Sides.{IsPart, AreParts, AreWhole, none_made, made_counts, unplaced_of, joined}
use Rattle.driver.proofs.Lists.{sorted_out}
use Rattle.driver.proofs.Places.{lane_append}

-- what passes a test of what was made is what passes it of the first, and of what came behind it
pub filter_joined : {A : Type 0} (test : A → Bool) (ts us : List (List A)) → length ts ≡ length us
    → IsPermutation (filter test (joined ts us)) (flat_map (filter test) ts ++ flat_map (filter test) us)
filter_joined test [] [] e = IsPermutation-refl []
filter_joined test [] (u ∷ us) e = absurd (omega (arith, e))
filter_joined test (t ∷ ts) [] e = absurd (omega (arith, e))
filter_joined test (t ∷ ts) (u ∷ us) e =
    let split : filter test ((t ++ u) ++ joined ts us) ≡ (filter test t ++ filter test u) ++ filter test (joined ts us)
    = filter-append test (t ++ u) (joined ts us) ∙ ap (λ l. l ++ filter test (joined ts us)) (filter-append test t u) in
    subst (λ l. IsPermutation l ((filter test t ++ flat_map (filter test) ts) ++ (filter test u ++ flat_map (filter test) us))) (sym split)
    (sorted_out (filter test t ++ filter test u) (filter test (joined ts us)) (filter test t) (flat_map (filter test) ts) (filter test u) (flat_map (filter test) us)
    (IsPermutation-refl (filter test t ++ filter test u)) (filter_joined test ts us (omega (arith, e))))

-- all of a lane's calls, made first and behind
pub lane_joined : (phase lane : ℕ) (cs : List Known) (t u : List Told) (r s : Part) → IsPart phase lane 0 cs t r → IsPart phase lane r.made cs u s
    → r.made + s.made ≡ length cs
    → calls_of (t ++ u) ≡ lane_calls phase lane 0 cs
lane_joined phase lane cs t u r s h k whole =
    let all : take s.made (drop r.made cs) ≡ drop r.made cs = take_all s.made (drop r.made cs) (omega (arith, length-drop r.made cs)) in
    let n : length (take r.made cs) ≡ r.made = length-take-le r.made cs (omega (arith, h.within)) in
    let e : 0 + length (take r.made cs) ≡ r.made = omega (arith, n) in
    map-append (λ (x : Told). x.call) t u
    ∙ ap (λ l. l ++ calls_of u) h.calls_are
    ∙ ap (λ l. lane_calls phase lane 0 (take r.made cs) ++ l) (k.calls_are ∙ ap (lane_calls phase lane r.made) all
    ∙ ap (λ i. lane_calls phase lane i (drop r.made cs)) (sym e))
    ∙ sym (lane_append phase lane 0 (take r.made cs) (drop r.made cs))
    ∙ ap (lane_calls phase lane 0) (take-append-drop r.made cs)

-- what ran out of memory of a lane's calls, made first and behind
unplaced_joined : (t u : List Told) (r s : Part) → r.unplaced.items ≡ map record_of (filter is_unplaced t) → s.unplaced.items ≡ map record_of (filter is_unplaced u)
    → r.unplaced.items ++ s.unplaced.items ≡ map record_of (filter is_unplaced (t ++ u))
unplaced_joined t u r s h k =
    ap (λ l. l ++ s.unplaced.items) h
    ∙ ap (λ l. map record_of (filter is_unplaced t) ++ l) k
    ∙ sym (map-append record_of (filter is_unplaced t) (filter is_unplaced u))
    ∙ ap (map record_of) (sym (filter-append is_unplaced t u))

-- the calls of a phase that were made first and those that were made behind are all of its calls
pub record AreJoined (phase lane : ℕ) (ls : Phase) (ts us : List (List Told)) (rs ss : List Part) : Type 0 where
  pub calls_are : calls_of (joined ts us) ≡ phase_calls phase lane ls
  pub unplaced_are : joined (unplaced_of rs) (unplaced_of ss) ≡ map record_of (filter is_unplaced (joined ts us))
  pub same_length : length ts ≡ length us

pub are_joined : (phase lane : ℕ) (ls : Phase) (ts us : List (List Told)) (rs ss : List Part) → AreParts phase lane ls (none_made ls) ts rs
    → AreParts phase lane ls (made_counts rs) us ss
    → AreWhole ls (made_counts rs) ss → AreJoined phase lane ls ts us rs ss
are_joined phase lane [] [] [] [] [] h k whole = record { calls_are = refl; unplaced_are = refl; same_length = refl }
are_joined phase lane [] [] [] [] (s ∷ ss) h k whole = absurd whole
are_joined phase lane [] [] (u ∷ us) [] ss h k whole = absurd k
are_joined phase lane [] [] us (r ∷ rs) ss h k whole = absurd h
are_joined phase lane [] (t ∷ ts) us rs ss h k whole = absurd h
are_joined phase lane (cs ∷ ls) [] us rs ss h k whole = absurd h
are_joined phase lane (cs ∷ ls) (t ∷ ts) us [] ss h k whole = absurd h
are_joined phase lane (cs ∷ ls) (t ∷ ts) [] (r ∷ rs) ss h k whole = absurd k
are_joined phase lane (cs ∷ ls) (t ∷ ts) (u ∷ us) (r ∷ rs) [] h k whole = absurd whole
are_joined phase lane (cs ∷ ls) (t ∷ ts) (u ∷ us) (r ∷ rs) (s ∷ ss) h k whole =
    let rest = are_joined phase (suc lane) ls ts us rs ss h.1 k.1 whole.1 in
    record {
      calls_are = map-append (λ (x : Told). x.call) (t ++ u) (joined ts us)
          ∙ ap (λ l. l ++ calls_of (joined ts us)) (lane_joined phase lane cs t u r s h.0 k.0 whole.0)
          ∙ ap (λ l. lane_calls phase lane 0 cs ++ l) rest.calls_are;
      unplaced_are = ap (λ l. l ++ joined (unplaced_of rs) (unplaced_of ss)) (unplaced_joined t u r s h.0.unplaced_are k.0.unplaced_are)
          ∙ ap (λ l. map record_of (filter is_unplaced (t ++ u)) ++ l) rest.unplaced_are
          ∙ sym (map-append record_of (filter is_unplaced (t ++ u)) (filter is_unplaced (joined ts us)))
          ∙ ap (map record_of) (sym (filter-append is_unplaced (t ++ u) (joined ts us)));
      same_length = ap suc rest.same_length;
    }

-- where none was made before, no more were made than there are
pub counts_within : (phase lane : ℕ) (ls : Phase) (ts : List (List Told)) (rs : List Part) → AreParts phase lane ls (none_made ls) ts rs
    → AllZip (λ (cs : List Known) (n : ℕ). n ≤ length cs) ls (made_counts rs)
counts_within phase lane [] [] [] h = tt
counts_within phase lane (cs ∷ ls) (t ∷ ts) (r ∷ rs) h = let part = h.0 in (omega (arith, part.within), counts_within phase (suc lane) ls ts rs h.1)
counts_within phase lane ls ts rs h = absurd h
