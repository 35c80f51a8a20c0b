-- Each lane's calls of a phase stand in order, as they were made.
use Rattle.std.proofs.Common.{◌≡◌, ◌<◌, ◌+◌, ℕ, zero, suc, List, [], ◌∷◌, ◌++◌, length, map, get_or, All, AllPairs, refl, sym, ◌∙◌, ap, subst}
use Rattle.std.specs.Prelude.{filter}
use Rattle.std.specs.List.{flat_map}
use Rattle.std.proofs.lemmas.List.{map-append}
use Rattle.std.proofs.lemmas.List.Elements.{filter-append, All-filter, All-weaker}
use Rattle.std.proofs.lemmas.List.Kept.{AllPairs-filter}
use Rattle.jmodel.specs.history.History.{Call, Told}
use Rattle.jmodel.specs.history.Schedule.{Known, Phase, lane_calls}
use Rattle.session.specs.declared.record.Record.{Record}
use Rattle.session.specs.Rule.{calls_of}
use Rattle.session.specs.Lane.{is_placed, record_of}
use Rattle.driver.specs.declared.side.Part.{Part}
use Rattle.driver.specs.Sides.{AreParts, AreWhole, none_made, made_counts}
use Rattle.driver.specs.Telling.{is_of_lane}
use Rattle.driver.proofs.Lists.{all_map, all_from_map, pairs_map, pairs_from_map, pairs_nil}
use Rattle.driver.proofs.Places.{IsOfLane, all_lane, lane_pairs}
use Rattle.driver.proofs.Parts.{lane_joined}
use Rattle.driver.proofs.Told.{OfLane, AreApart, together, one_here}

abbrev pub Rises : Record → Record → Type 0
Rises r s = r.index < s.index

abbrev kept_told : List Told → List Record
kept_told ts = map record_of (filter is_placed ts)

abbrev kepts : List (List Told) → List (List Record)
kepts tss = map kept_told tss

kept_both : (ts us : List Told) → kept_told (ts ++ us) ≡ kept_told ts ++ kept_told us
kept_both ts us = ap (map record_of) (filter-append is_placed ts us) ∙ map-append record_of (filter is_placed ts) (filter is_placed us)

-- the calls of one lane
rise_one : (phase lane first : ℕ) (cs : List Known) (ts : List Told) → calls_of ts ≡ lane_calls phase lane first cs → AllPairs Rises (kept_told ts)
rise_one phase lane first cs ts is =
    let Calls : Call → Call → Type 0 = λ c d. c.index < d.index in
    let Tolds : Told → Told → Type 0 = λ s t. s.call.index < t.call.index in
    let calls = subst (AllPairs Calls) (sym is) (lane_pairs Calls (λ c d p l less. less) phase lane first cs) in
    pairs_map record_of Rises (filter is_placed ts) (AllPairs-filter Tolds is_placed ts (pairs_from_map (λ (t : Told). t.call) Calls ts calls))

lane_of : (phase lane first : ℕ) (cs : List Known) (ts : List Told) → calls_of ts ≡ lane_calls phase lane first cs → All (OfLane lane) (kept_told ts)
lane_of phase lane first cs ts is =
    let Calls : Call → Type 0 = λ c. c.lane ≡ lane in
    let all = All-weaker (IsOfLane phase lane first (first + length cs)) Calls (λ c of. of.of_lane) (lane_calls phase lane first cs) (all_lane phase lane first cs) in
    let tolds = all_from_map (λ (t : Told). t.call) Calls ts (subst (All Calls) (sym is) all) in
    all_map record_of (OfLane lane) (filter is_placed ts) (All-filter is_placed (λ (t : Told). t.call.lane ≡ lane) ts tolds)

pub together_kepts : (tss : List (List Told)) → map record_of (flat_map (filter is_placed) tss) ≡ together (kepts tss)
together_kepts [] = refl
together_kepts (ts ∷ tss) =
    map-append record_of (filter is_placed ts) (flat_map (filter is_placed) tss) ∙ ap (λ (l : List Record). kept_told ts ++ l) (together_kepts tss)

apart_kepts : (phase n : ℕ) (ls : Phase) (ns : List ℕ) (tss : List (List Told)) (rs : List Part) → AreParts phase n ls ns tss rs → AreApart n (kepts tss)
apart_kepts phase n [] [] [] [] h = tt
apart_kepts phase n (cs ∷ ls) (m ∷ ns) (ts ∷ tss) (r ∷ rs) h = (lane_of phase n m _ ts h.0.calls_are, apart_kepts phase (suc n) ls ns tss rs h.1)
apart_kepts phase n ls ns tss rs h = absurd h

rises : (phase n : ℕ) (ls : Phase) (ts us : List (List Told)) (rs ss : List Part) → AreParts phase n ls (none_made ls) ts rs → AreParts phase n ls (made_counts rs) us ss → AreWhole ls (made_counts rs) ss
    → (i : ℕ) → AllPairs Rises (get_or (kepts ts) i [] ++ get_or (kepts us) i [])
rises phase n [] [] [] [] [] h k whole i = pairs_nil Rises
rises phase n [] [] [] [] (s ∷ ss) h k whole i = absurd whole
rises phase n [] [] (u ∷ us) [] ss h k whole i = absurd k
rises phase n [] [] us (r ∷ rs) ss h k whole i = absurd h
rises phase n [] (t ∷ ts) us rs ss h k whole i = absurd h
rises phase n (cs ∷ ls) [] us rs ss h k whole i = absurd h
rises phase n (cs ∷ ls) (t ∷ ts) us [] ss h k whole i = absurd h
rises phase n (cs ∷ ls) (t ∷ ts) [] (r ∷ rs) ss h k whole i = absurd k
rises phase n (cs ∷ ls) (t ∷ ts) (u ∷ us) (r ∷ rs) [] h k whole i = absurd whole
rises phase n (cs ∷ ls) (t ∷ ts) (u ∷ us) (r ∷ rs) (s ∷ ss) h k whole zero =
    subst (AllPairs Rises) (kept_both t u) (rise_one phase n 0 cs (t ++ u) (lane_joined phase n cs t u r s h.0 k.0 whole.0))
rises phase n (cs ∷ ls) (t ∷ ts) (u ∷ us) (r ∷ rs) (s ∷ ss) h k whole (suc i) = rises phase (suc n) ls ts us rs ss h.1 k.1 whole.1 i

-- a lane's calls of a phase, made first and behind
pub lanes_rise : (phase : ℕ) (lanes : Phase) (first rest : List Record) (ts us : List (List Told)) (rs ss : List Part) → AreParts phase 0 lanes (none_made lanes) ts rs
    → AreParts phase 0 lanes (made_counts rs) us ss → AreWhole lanes (made_counts rs) ss → first ≡ map record_of (flat_map (filter is_placed) ts)
    → rest ≡ map record_of (flat_map (filter is_placed) us) → (lane : ℕ) → AllPairs Rises (filter (is_of_lane lane) (first ++ rest))
lanes_rise phase lanes first rest ts us rs ss h k whole firsts rests lane =
    let one = ap (filter (is_of_lane lane)) (firsts ∙ together_kepts ts) ∙ one_here lane (kepts ts) (apart_kepts phase 0 lanes (none_made lanes) ts rs h) in
    let other = ap (filter (is_of_lane lane)) (rests ∙ together_kepts us) ∙ one_here lane (kepts us) (apart_kepts phase 0 lanes (made_counts rs) us ss k) in
    let both = filter-append (is_of_lane lane) first rest ∙ ap (λ (l : List Record). l ++ filter (is_of_lane lane) rest) one ∙ ap (λ (l : List Record). get_or (kepts ts) lane [] ++ l) other in
    subst (AllPairs Rises) (sym both) (rises phase 0 lanes ts us rs ss h k whole lane)
