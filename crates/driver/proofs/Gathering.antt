-- The lanes of a phase, gathered one after another.
use Rattle.std.proofs.Common.{◌≡◌, ℕ, suc, ◌+◌, List, [], ◌∷◌, ◌++◌, length, map, reverse, refl, sym, ap, ◌∙◌, subst, arith}
use Rattle.std.specs.Prelude.{IsPermutation, filter}
use Rattle.std.specs.List.{flat_map}
use Rattle.std.proofs.lemmas.List.{map-append, flat_map_more}
use Rattle.std.proofs.lemmas.List.Sorted.{IsPermutation-refl, IsPermutation-sym, IsPermutation-reverse, IsPermutation-map, IsPermutation-append}
use Rattle.jmodel.specs.history.History.{Call, Entry, Told, told}
use Rattle.jmodel.specs.history.Schedule.{Known, Phase}
use Rattle.session.specs.declared.record.Record.{Record}
use Rattle.session.specs.declared.record.Lane.{Lane}
use Rattle.session.specs.Lane.{is_placed, record_of, HasMade}
use Rattle.driver.specs.declared.side.Part.{Part}
use Rattle.driver.specs.Sides.{IsPart, AreParts, none_made}
use Rattle.driver.specs.Gathering.{IsGathered}

-- one lane more
parts_push : (phase lane : ℕ) (ls : Phase) (ts : List (List Told)) (rs : List Part) (cs : List Known) (t : List Told) (r : Part)
    → AreParts phase lane ls (none_made ls) ts rs → IsPart phase (lane + length ls) 0 cs t r
    → AreParts phase lane (ls ++ cs ∷ []) (none_made (ls ++ cs ∷ [])) (ts ++ t ∷ []) (rs ++ r ∷ [])
parts_push phase lane [] [] [] cs t r a p = let here : lane + 0 ≡ lane = omega arith in (subst (λ (n : ℕ). IsPart phase n 0 cs t r) here p, tt)
parts_push phase lane (l ∷ ls) (u ∷ us) (q ∷ rs) cs t r a p =
    let next : lane + length (l ∷ ls) ≡ suc lane + length ls = omega arith in
    (a.0, parts_push phase (suc lane) ls us rs cs t r a.1 (subst (λ (n : ℕ). IsPart phase n 0 cs t r) next p))
parts_push phase lane [] [] (q ∷ rs) cs t r a p = absurd a
parts_push phase lane [] (u ∷ us) [] cs t r a p = absurd a
parts_push phase lane [] (u ∷ us) (q ∷ rs) cs t r a p = absurd a
parts_push phase lane (l ∷ ls) [] [] cs t r a p = absurd a
parts_push phase lane (l ∷ ls) [] (q ∷ rs) cs t r a p = absurd a
parts_push phase lane (l ∷ ls) (u ∷ us) [] cs t r a p = absurd a

-- no lane
pub gathered_none : (phase : ℕ) → IsGathered phase [] [] [] []
gathered_none phase = record { tolds = []; parts_are = tt; history = IsPermutation-refl []; placed_are = refl }

abbrev pub part_of : Lane → Part
part_of l = record { made = l.made; used = l.used; unplaced = l.unplaced }

-- one lane more, whose pass has its entries from the last on
pub gathered_more : (phase before : ℕ) (ls : Phase) (es : List Entry) (placed : List Record) (parts : List Part) (cs : List Known) (h : List Entry) (l : Lane)
    → IsGathered phase ls es placed parts → HasMade (record { phase = phase; lane = length ls; first = 0 }) before cs h l
    → IsGathered phase (ls ++ cs ∷ []) (es ++ reverse h) (placed ++ l.placed.items) (parts ++ part_of l ∷ [])
gathered_more phase before ls es placed parts cs h l g made =
    let ts = made.tolds in
    let all : flat_map (filter is_placed) g.tolds ++ filter is_placed ts ≡ flat_map (filter is_placed) (g.tolds ++ ts ∷ []) =
    flat_map_more (filter is_placed) [] g.tolds ts in
    let mine : IsPermutation (map told (reverse h)) (filter is_placed ts) =
    subst (IsPermutation (map told (reverse h))) made.history (IsPermutation-map told (reverse h) h (IsPermutation-sym h (reverse h) (IsPermutation-reverse h))) in
    record {
      tolds = g.tolds ++ ts ∷ [];
      parts_are = parts_push phase 0 ls g.tolds parts cs ts (part_of l) g.parts_are
          (subst (λ (n : ℕ). IsPart phase n 0 cs ts (part_of l)) (omega arith) (record {
            within = omega (arith, made.within);
            calls_are = made.calls_are;
            unplaced_are = made.unplaced_are;
          }));
      history = subst (IsPermutation (map told (es ++ reverse h))) all
          (subst (λ (xs : List Told). IsPermutation xs (flat_map (filter is_placed) g.tolds ++ filter is_placed ts)) (sym (map-append told es (reverse h)))
          (IsPermutation-append (map told es) (flat_map (filter is_placed) g.tolds) (map told (reverse h)) (filter is_placed ts) g.history mine));
      placed_are = ap (λ (xs : List Record). xs ++ l.placed.items) g.placed_are
          ∙ ap (λ (xs : List Record). map record_of (flat_map (filter is_placed) g.tolds) ++ xs) made.placed_are
          ∙ sym (map-append record_of (flat_map (filter is_placed) g.tolds) (filter is_placed ts)) ∙ ap (map record_of) all;
    }

-- a call of a phase, whose lane takes words from its own region
abbrev pub IsOfPhase : ℕ → Call → Type 0
IsOfPhase phase c = (c.region ≡ suc c.lane) × (c.phase ≡ phase)

abbrev pub IsToldOf : ℕ → Told → Type 0
IsToldOf phase t = IsOfPhase phase t.call
