-- The calls of workers by their indexes in the bag.
use Rattle.std.proofs.Common.{◌≡◌, ℕ, suc, ◌+◌, ◌<◌, ◌≤◌, List, [], ◌∷◌, ◌++◌, length, get_or, drop, map, min, All, refl, sym, ◌∙◌, ap, subst, arith}
use Rattle.std.specs.Prelude.{IsPermutation}
use Rattle.std.specs.List.{flat_map, range_with_len}
use Rattle.std.proofs.lemmas.List.{map-append, length-map}
use Rattle.std.proofs.lemmas.List.Elements.{All-nil, All-append, All-map, recursion_from_All}
use Rattle.std.proofs.lemmas.List.Sorted.{All-permutation, IsPermutation-map}
use Rattle.std.proofs.lemmas.List.FromFn.{length-range_with_len}
use Rattle.driver.proofs.Permuted.{permuted_before}
use Rattle.claims.specs.Claims.{below}
use Rattle.jmodel.specs.history.History.{Call}
use Rattle.jmodel.specs.history.Schedule.{Known, call_at, lane_calls, phase_calls, bag_calls, Bag, AreDealt}
use Rattle.session.specs.Claimed.{calls_at}
use Rattle.driver.specs.Bags.{as_lanes, AreTaken, in_bag}

abbrev nothing : Known
nothing = record { method = 0; args = [] }

-- the call of a bag at an index
abbrev at_index : List Known → ℕ → Known
at_index cs i = get_or cs i nothing

-- an index with the worker that took it
abbrev Deal : Type 0
Deal = ℕ × ℕ

abbrev called : ℕ → List Known → Deal → Call
called phase cs d = call_at phase d.0 d.1 (at_index cs d.1)

-- what the workers took, from one on
abbrev deals : ℕ → List (List ℕ) → List Deal
deals lane [] = []
deals lane (l ∷ ls) = map (λ i. (lane, i)) l ++ deals (suc lane) ls

same_indexes : (lane : ℕ) (l : List ℕ) → map (λ (d : Deal). d.1) (map (λ (i : ℕ). (lane, i)) l) ≡ l
same_indexes lane [] = refl
same_indexes lane (i ∷ l) = ap (λ (k : List ℕ). i ∷ k) (same_indexes lane l)

all_indexes : (lane : ℕ) (ls : List (List ℕ)) → map (λ (d : Deal). d.1) (deals lane ls) ≡ flat_map (λ (l : List ℕ). l) ls
all_indexes lane [] = refl
all_indexes lane (l ∷ ls) =
    map-append (λ (d : Deal). d.1) (map (λ (i : ℕ). (lane, i)) l) (deals (suc lane) ls)
    ∙ ap (λ (k : List ℕ). k ++ map (λ (d : Deal). d.1) (deals (suc lane) ls)) (same_indexes lane l)
    ∙ ap (λ (k : List ℕ). l ++ k) (all_indexes (suc lane) ls)

module _ (phase : ℕ) (cs : List Known) (taken : List (List ℕ)) where
  lane_called : (lane k : ℕ) (is : List ℕ) → ((j : ℕ) → get_or (get_or taken lane []) (k + j) 0 ≡ get_or is j 0)
      → map (in_bag taken) (lane_calls phase lane k (calls_at cs is)) ≡ map (called phase cs) (map (λ (i : ℕ). (lane, i)) is)
  lane_called lane k [] there = refl
  lane_called lane k (i ∷ is) there =
      let here : get_or (get_or taken lane []) k 0 ≡ i = let z : k ≡ k + 0 = omega arith in ap (λ (n : ℕ). get_or (get_or taken lane []) n 0) z ∙ there 0 in
      ap (λ (n : ℕ). call_at phase lane n (at_index cs i) ∷ map (in_bag taken) (lane_calls phase lane (suc k) (calls_at cs is))) here
      ∙ ap (λ (l : List Call). call_at phase lane i (at_index cs i) ∷ l) (lane_called lane (suc k) is (λ j.
      let z : suc k + j ≡ k + suc j = omega arith in ap (λ (n : ℕ). get_or (get_or taken lane []) n 0) z ∙ there (suc j)))

  pub phase_called : (lane : ℕ) (ls : List (List ℕ)) → ((j : ℕ) → get_or taken (lane + j) [] ≡ get_or ls j [])
      → map (in_bag taken) (phase_calls phase lane (as_lanes cs ls)) ≡ map (called phase cs) (deals lane ls)
  phase_called lane [] there = refl
  phase_called lane (is ∷ ls) there =
      let here : get_or taken lane [] ≡ is = let z : lane ≡ lane + 0 = omega arith in ap (λ (n : ℕ). get_or taken n []) z ∙ there 0 in
      map-append (in_bag taken) (lane_calls phase lane 0 (calls_at cs is)) (phase_calls phase (suc lane) (as_lanes cs ls))
      ∙ ap (λ (l : List Call). l ++ map (in_bag taken) (phase_calls phase (suc lane) (as_lanes cs ls)))
      (lane_called lane 0 is (λ j. let z : 0 + j ≡ j = omega arith in ap (λ (n : ℕ). get_or (get_or taken lane []) n 0) z ∙ ap (λ (l : List ℕ). get_or l j 0) here))
      ∙ ap (λ (l : List Call). map (called phase cs) (map (λ (i : ℕ). (lane, i)) is) ++ l) (phase_called (suc lane) ls (λ j.
      let z : suc lane + j ≡ lane + suc j = omega arith in ap (λ (n : ℕ). get_or taken n []) z ∙ there (suc j)))
      ∙ sym (map-append (called phase cs) (map (λ (i : ℕ). (lane, i)) is) (deals (suc lane) ls))

-- in the order of the bag
in_order : (phase : ℕ) (all : List Known) (qs : List Deal) (cs : List Known) (index : ℕ) → map (λ (d : Deal). d.1) qs ≡ range_with_len index (length cs)
    → ((j : ℕ) → j < length cs → at_index all (index + j) ≡ at_index cs j)
    → map (called phase all) qs ≡ bag_calls phase index (map (λ (d : Deal). d.0) qs) cs
in_order phase all [] cs index are there = refl
in_order phase all (q ∷ qs) [] index are there = absurd (let n = ap length are in omega (arith, n))
in_order phase all (q ∷ qs) (c ∷ cs) index are there =
    let first : q.1 ≡ index = ap (λ (l : List ℕ). get_or l 0 0) are in
    let rest : map (λ (d : Deal). d.1) qs ≡ range_with_len (suc index) (length cs) =
    let z : index + 1 ≡ suc index = omega arith in ap (drop 1) are ∙ ap (λ (n : ℕ). range_with_len n (length cs)) z in
    let here : at_index all q.1 ≡ c = ap (at_index all) first ∙ (let z : index ≡ index + 0 = omega arith in ap (at_index all) z ∙ there 0 (omega arith)) in
    let qs_are = in_order phase all qs cs (suc index) rest (λ j less. let z : suc index + j ≡ index + suc j = omega arith in ap (at_index all) z
    ∙ there (suc j) (omega arith)) in
    ap (λ (n : ℕ). call_at phase q.0 n (at_index all q.1) ∷ map (called phase all) qs) first
    ∙ ap (λ (k : Known). call_at phase q.0 index k ∷ map (called phase all) qs) here
    ∙ ap (λ (l : List Call). call_at phase q.0 index c ∷ l) qs_are

dealt_under : (n lane : ℕ) (ls : List (List ℕ)) → lane + length ls ≤ n → All (λ (d : Deal). d.0 < n) (deals lane ls)
dealt_under n lane [] h = All-nil (λ (d : Deal). d.0 < n)
dealt_under n lane (l ∷ ls) h =
    All-append (λ (d : Deal). d.0 < n) (map (λ i. (lane, i)) l) (deals (suc lane) ls)
    (All-map (λ (d : Deal). d.0 < n) (λ i. (lane, i)) l (λ k d less. omega arith)) (dealt_under n (suc lane) ls (omega arith))

-- The calls that workers took are the calls of the bag.
pub dealt_taken : (phase lanes : ℕ) (cs : List Known) (taken : List (List ℕ)) → AreTaken (length cs) taken → length taken ≤ min lanes (length cs)
    → (calls : List Call) × AreDealt phase (Bag lanes cs) calls × IsPermutation (map (in_bag taken) (phase_calls phase 0 (as_lanes cs taken))) calls
dealt_taken phase lanes cs taken are few =
    let ps = deals 0 taken in
    let n = length cs in
    let from = permuted_before (λ (d : Deal). d.1) ps (below n)
    (subst (λ (l : List ℕ). IsPermutation l (below n)) (sym (all_indexes 0 taken)) are.each_once) in
    let qs = from.0 in
    let takers = map (λ (d : Deal). d.0) qs in
    let count : length takers ≡ n = length-map qs (λ (d : Deal). d.0) ∙ sym (length-map qs (λ (d : Deal). d.1)) ∙ ap length (sym from.2) ∙ length-range_with_len 0 n in
    let under = All-permutation (λ (d : Deal). d.0 < min lanes n) ps qs from.1 (dealt_under (min lanes n) 0 taken (omega arith)) in
    let shifted : (j : ℕ) → get_or taken (0 + j) [] ≡ get_or taken j [] = λ j. let z : 0 + j ≡ j = omega arith in ap (λ (k : ℕ). get_or taken k []) z in (
      map (called phase cs) qs,
      (
        takers,
        count,
        recursion_from_All (λ lane. lane < min lanes n) takers (All-map (λ lane. lane < min lanes n) (λ (d : Deal). d.0) qs under),
        in_order phase cs qs cs 0 (sym from.2) (λ j less. let z : 0 + j ≡ j = omega arith in ap (at_index cs) z),
      ),
      subst (λ (l : List Call). IsPermutation l (map (called phase cs) qs)) (sym (phase_called phase cs taken 0 taken shifted))
          (IsPermutation-map (called phase cs) ps qs from.1),
    )
