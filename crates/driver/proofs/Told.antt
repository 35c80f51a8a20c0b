-- What gates are told, as the calls of lanes are gathered.
use Rattle.std.proofs.Common.{◌≡◌, ◌≢◌, ◌≤◌, ◌<◌, ◌+◌, ℕ, zero, suc, List, [], ◌∷◌, ◌++◌, length, drop, get_or, All, Bool, true, false, Option, Some, None, ⊎_elim, refl, sym, ◌∙◌, ap, subst, arith, append-nil}
use Rattle.std.specs.Prelude.{filter, slice_get, AllPairs, IsPermutation}
use Rattle.std.specs.List.{flat_map}
use Rattle.std.proofs.lemmas.Bool.Decides.{nat_tests}
use Rattle.std.proofs.lemmas.Bool.{cases_lt}
use Rattle.std.proofs.lemmas.List.{get_or_past}
use Rattle.std.proofs.lemmas.List.Elements.{filter-append, All-nil, All-cons, All-head, All-tail}
use mathlib.Core.Logic.{dite}
use native.Mathlib.Decide.{ℕ_discrete}
use Rattle.jmodel.specs.history.Schedule.{Known, Phase, Lanes}
use Rattle.objects.specs.declared.event.Event.{Event}
use Rattle.objects.specs.semantics.Program.{Program}
use Rattle.objects.specs.rewriting.Attempt.{Bounds}
use Rattle.objects.specs.rewriting.Events.{Grows}
use Rattle.session.specs.declared.record.Record.{Record}
use Rattle.machine.specs.declared.machine.Limits.{Limits as CallLimits}
use Rattle.machine.specs.Machine.{bounds_of}
use Rattle.session.specs.Telling.{TellsEach, IsRecordOf, TellsRecord, HasTold}
use Rattle.session.specs.Passes.{behind}
use Rattle.session.proofs.Telling.{each_weaker, told_weaker, told_first, told_append}
use Rattle.driver.specs.declared.memory.Limits.{Limits}
use Rattle.driver.specs.Passing.{first_of}
use Rattle.driver.specs.Telling.{lane_bounds, lane_limits, is_of_lane, IsCallAt, HaveTold, AreTold, TellsPhase}

-- the used words of bounds say nothing of what is told of several calls
pub told_bounds : (Q : Program) (B : Bounds) (used : ℕ) (C : Record → Known → Type 0) (placed : List Record) (T : List Event → Type 0) → HasTold Q (record B { used = used }) C placed T → HasTold Q B C placed T
told_bounds Q B used C placed T has = record {
  events = has.events;
  tells =
      each_weaker (TellsRecord Q (record B { used = used }) C) (TellsRecord Q B C)
      (λ r es t. record { call = t.call; is_of = t.is_of; before = t.before; run = t.run }) placed has.events has.tells;
  told = has.told;
}

-- what is known of records by the calls that they are of
each_all : (Q : Program) (B : Bounds) (C : Record → Known → Type 0) (P : Record → Type 0) → ((r : Record) (c : Known) → C r c → P r) → (rs : List Record) (es : List Event) → TellsEach (TellsRecord Q B C) rs es → All P rs
each_all Q B C P more [] es each = All-nil P
each_all Q B C P more (r ∷ rs) es each = All-cons P r rs (more r each.4.call each.4.is_of) (each_all Q B C P more rs each.2 each.5)

pub told_all : (Q : Program) (B : Bounds) (C : Record → Known → Type 0) (P : Record → Type 0) → ((r : Record) (c : Known) → C r c → P r) → (rs : List Record) (T : List Event → Type 0) → HasTold Q B C rs T → All P rs
told_all Q B C P more rs T has = each_all Q B C P more rs has.events has.tells

-- Records by lane.
abbrev pub OfLane : ℕ → Record → Type 0
OfLane lane r = r.lane ≡ lane

is_here : (lane : ℕ) (r : Record) → r.lane ≡ lane → is_of_lane lane r ≡ true
is_here lane r is = grind (arith, nat_tests)

is_elsewhere : (lane : ℕ) (r : Record) (other : ℕ) → r.lane ≡ other → other ≢ lane → is_of_lane lane r ≡ false
is_elsewhere lane r other is ne = (let e : r.lane ≢ lane = λ same. ne (sym is ∙ same) in grind (arith, nat_tests))

pub filter_all : (lane : ℕ) (rs : List Record) → All (OfLane lane) rs → filter (is_of_lane lane) rs ≡ rs
filter_all lane [] all = refl
filter_all lane (r ∷ rs) all = rw (is_here lane r (All-head (OfLane lane) r rs all)) (ap (λ (l : List Record). r ∷ l) (filter_all lane rs (All-tail (OfLane lane) r rs all)))

pub filter_none : (lane other : ℕ) (rs : List Record) → other ≢ lane → All (OfLane other) rs → filter (is_of_lane lane) rs ≡ []
filter_none lane other [] ne all = refl
filter_none lane other (r ∷ rs) ne all =
    rw (is_elsewhere lane r other (All-head (OfLane other) r rs all) ne) (filter_none lane other rs ne (All-tail (OfLane other) r rs all))

-- lists of records, each of its lane, from one on
abbrev pub AreApart : ℕ → List (List Record) → Type 0
AreApart n [] = Unit {0}
AreApart n (rs ∷ rss) = All (OfLane n) rs × AreApart (suc n) rss

abbrev pub together : List (List Record) → List Record
together rss = flat_map (λ (rs : List Record). rs) rss

none_below : (n lane : ℕ) (rss : List (List Record)) → lane < n → AreApart n rss → filter (is_of_lane lane) (together rss) ≡ []
none_below n lane [] low apart = refl
none_below n lane (rs ∷ rss) low apart =
    let ne : n ≢ lane = λ e. absurd (omega (arith, e, low)) in
    filter-append (is_of_lane lane) rs (together rss) ∙ ap (λ (l : List Record). l ++ filter (is_of_lane lane) (together rss)) (filter_none lane n rs ne apart.0)
    ∙ none_below (suc n) lane rss (omega (arith, low)) apart.1

one_of : (n i : ℕ) (rss : List (List Record)) → AreApart n rss → filter (is_of_lane (n + i)) (together rss) ≡ get_or rss i []
one_of n i [] apart = refl
one_of n zero (rs ∷ rss) apart =
    let here : n + 0 ≡ n = omega arith in
    rw here (
    filter-append (is_of_lane n) rs (together rss) ∙ ap (λ (l : List Record). filter (is_of_lane n) rs ++ l) (none_below (suc n) n rss (omega arith) apart.1)
    ∙ append-nil (filter (is_of_lane n) rs) ∙ filter_all n rs apart.0)
one_of n (suc i) (rs ∷ rss) apart =
    let ne : n ≢ n + suc i = λ e. absurd (omega (arith, e)) in
    let on : n + suc i ≡ suc n + i = omega arith in
    filter-append (is_of_lane (n + suc i)) rs (together rss) ∙ ap (λ (l : List Record). l ++ filter (is_of_lane (n + suc i)) (together rss)) (filter_none (n + suc i) n rs ne apart.0)
    ∙ ap (λ (k : ℕ). filter (is_of_lane k) (together rss)) on ∙ one_of (suc n) i rss apart.1

pub one_here : (lane : ℕ) (rss : List (List Record)) → AreApart 0 rss → filter (is_of_lane lane) (together rss) ≡ get_or rss lane []
one_here lane rss apart = let on : lane ≡ 0 + lane = omega arith in ap (λ (k : ℕ). filter (is_of_lane k) (together rss)) on ∙ one_of 0 lane rss apart

apart_from : (n : ℕ) (rss : List (List Record)) → ((i : ℕ) → i < length rss → All (OfLane (n + i)) (get_or rss i [])) → AreApart n rss
apart_from n [] each = tt
apart_from n (rs ∷ rss) each =
    let here : n + 0 ≡ n = omega arith in (
      subst (λ (k : ℕ). All (OfLane k) rs) here (each 0 (omega arith)),
      apart_from (suc n) rss
          (λ i low.
          let on : n + suc i ≡ suc n + i = omega arith in
          subst (λ (k : ℕ). All (OfLane k) (get_or rss i [])) on (each (suc i) (omega (arith, low)))),
    )

got_drop : {A : Type 0} (n : ℕ) (xs : List A) (i : ℕ) (x : A) → slice_get (drop n xs) i ≡ Some x → slice_get xs (n + i) ≡ Some x
got_drop zero xs i x h = let z : i ≡ 0 + i = omega arith in subst (λ (k : ℕ). slice_get xs k ≡ Some x) z h
got_drop (suc n) [] i x h = cc
got_drop (suc n) (y ∷ xs) i x h =
    let on : suc (n + i) ≡ suc n + i = omega arith in
    subst (λ (k : ℕ). slice_get (y ∷ xs) k ≡ Some x) on (got_drop n xs i x h)

-- a record of a lane's call is one of the phase's
pub of_phase : (phase lane first : ℕ) (lanes : Phase) (r : Record) (c : Known) → IsRecordOf (behind (first_of phase lane) first) (drop first (get_or lanes lane [])) r c → IsCallAt phase (Lanes lanes) r c
of_phase phase lane first lanes r c is = (
  is.phase,
  subst (λ (l : ℕ). slice_get (get_or lanes l []) r.index ≡ Some c) (sym is.lane)
      (let at : first + is.count ≡ r.index = (let here = is.index in omega (arith, here)) in
      subst (λ (i : ℕ). slice_get (get_or lanes lane []) i ≡ Some c) at (got_drop first (get_or lanes lane []) is.count c is.there)),
)

pub of_phase_first : (phase lane : ℕ) (lanes : Phase) (r : Record) (c : Known) → IsRecordOf (first_of phase lane) (get_or lanes lane []) r c → IsCallAt phase (Lanes lanes) r c
of_phase_first phase lane lanes r c is =
    let at : r.index ≡ 0 + 0 + is.count = (let here = is.index in omega (arith, here)) in
    of_phase phase lane 0 lanes r c (record { phase = is.phase; lane = is.lane; count = is.count; index = at; there = is.there })

-- what lanes that ran side by side told
pub told_side : (Q : Program) (limits : Limits) (phase : ℕ) (lanes : Phase) (kept : List (List Record)) (placed : List Record) (count : ℕ) (before after : List (Option (List Event)))
    → HaveTold Q limits phase lanes kept before after → placed ≡ together kept → length kept ≡ count → AreTold Q limits (IsCallAt phase (Lanes lanes)) count placed before after
told_side Q limits phase lanes kept placed count before after have are long =
    subst (λ (rs : List Record). AreTold Q limits (IsCallAt phase (Lanes lanes)) count rs before after) (sym are) (record {
      len = have.len;
      each = each;
      others = λ lane high. have.others lane (omega (arith, high, long));
    })
  where
    apart : AreApart 0 kept
    apart = apart_from 0 kept
        (λ i low.
        let on : i ≡ 0 + i = omega arith in
        subst (λ (k : ℕ). All (OfLane k) (get_or kept i [])) on
        (told_all Q (lane_bounds limits i) (IsRecordOf (first_of phase i) (get_or lanes i [])) (OfLane i) (λ r c is. is.lane) (get_or kept i []) _ (have.each i low)))

    Here : ℕ → List Record → Type 0
    Here lane rs = HasTold Q (lane_bounds limits lane) (IsCallAt phase (Lanes lanes)) rs (Grows (get_or before lane None) (get_or after lane None))

    of : (lane : ℕ) → Here lane (get_or kept lane [])
    of lane = ⊎_elim (λ low.
        told_weaker Q (lane_bounds limits lane) (IsRecordOf (first_of phase lane) (get_or lanes lane [])) (IsCallAt phase (Lanes lanes)) (of_phase_first phase lane lanes) (get_or kept lane []) _
        (have.each lane low)) (λ high.
        subst (λ (x : Option (List Event)). HasTold Q (lane_bounds limits lane) (IsCallAt phase (Lanes lanes)) (get_or kept lane []) (Grows (get_or before lane None) x)) (sym (have.others lane high))
        (told_first Q (lane_bounds limits lane) (IsCallAt phase (Lanes lanes)) (get_or kept lane []) (get_or before lane None) (get_or_past kept lane [] high))) (cases_lt lane (length kept))

    each : (lane : ℕ) → Here lane (filter (is_of_lane lane) (together kept))
    each lane = subst (Here lane) (sym (one_here lane kept apart)) (of lane)

-- what was told of records, and then of others
pub told_both : (Q : Program) (limits : Limits) (C : Record → Known → Type 0) (count : ℕ) (rs ss : List Record) (x y z : List (Option (List Event))) → AreTold Q limits C count rs x y → AreTold Q limits C count ss y z
    → AreTold Q limits C count (rs ++ ss) x z
told_both Q limits C count rs ss x y z first next = record {
  len = next.len ∙ first.len;
  each = λ lane.
      subst (λ (l : List Record). HasTold Q (lane_bounds limits lane) C l (Grows (get_or x lane None) (get_or z lane None))) (sym (filter-append (is_of_lane lane) rs ss))
      (told_append Q (lane_bounds limits lane) C (filter (is_of_lane lane) rs) (filter (is_of_lane lane) ss) (get_or x lane None) (get_or y lane None) (get_or z lane None) (first.each lane)
      (next.each lane));
  others = λ lane high. next.others lane high ∙ first.others lane high;
}

-- nothing was told
pub told_nothing : (Q : Program) (limits : Limits) (C : Record → Known → Type 0) (count : ℕ) (rs : List Record) (x : List (Option (List Event))) → rs ≡ [] → AreTold Q limits C count rs x x
told_nothing Q limits C count rs x none = record {
  len = refl;
  each = λ lane. told_first Q (lane_bounds limits lane) C (filter (is_of_lane lane) rs) (get_or x lane None) (ap (filter (is_of_lane lane)) none);
  others = λ lane high. refl;
}

-- what one lane's gate was told
pub told_lane : (Q : Program) (limits : Limits) (C : Record → Known → Type 0) (count lane : ℕ) (rs : List Record) (x y : List (Option (List Event))) → lane < count → length y ≡ length x
    → All (OfLane lane) rs → HasTold Q (lane_bounds limits lane) C rs (Grows (get_or x lane None) (get_or y lane None)) → ((k : ℕ) → k ≢ lane → get_or y k None ≡ get_or x k None)
    → AreTold Q limits C count rs x y
told_lane Q limits C count lane rs x y low len of has others = record {
  len = len;
  each = λ k. dite (ℕ_discrete k lane) (here k) (there k);
  others = λ k high. others k (λ e. absurd (omega (arith, e, high, low)));
}
  where
    Told : ℕ → List Record → Type 0
    Told k l = HasTold Q (lane_bounds limits k) C l (Grows (get_or x k None) (get_or y k None))

    here : (k : ℕ) → k ≡ lane → Told k (filter (is_of_lane k) rs)
    here k e = subst (λ (j : ℕ). Told j (filter (is_of_lane j) rs)) (sym e) (subst (Told lane) (sym (filter_all lane rs of)) has)

    there : (k : ℕ) → k ≢ lane → Told k (filter (is_of_lane k) rs)
    there k ne =
        subst (λ (a : Option (List Event)). HasTold Q (lane_bounds limits k) C (filter (is_of_lane k) rs) (Grows (get_or x k None) a)) (sym (others k ne))
        (told_first Q (lane_bounds limits k) C (filter (is_of_lane k) rs) (get_or x k None) (filter_none k lane rs (λ e. ne (sym e)) of))

pub told_as : (Q : Program) (limits : Limits) (C D : Record → Known → Type 0) → ((r : Record) (c : Known) → C r c → D r c) → (count more : ℕ) → count ≤ more → (rs : List Record) (x y : List (Option (List Event)))
    → AreTold Q limits C count rs x y → AreTold Q limits D more rs x y
told_as Q limits C D is count more low rs x y told = record {
  len = told.len;
  each = λ lane. told_weaker Q (lane_bounds limits lane) C D is (filter (is_of_lane lane) rs) _ (told.each lane);
  others = λ lane high. told.others lane (omega (arith, high, low));
}

-- what was told of a phase's calls, in the order in which they were made, first side by side and then one lane after another
pub told_phase : (Q : Program) (limits : Limits) (phase : ℕ) (lanes : Phase) (first rest sorted old new : List Record) (x y z : List (Option (List Event)))
    → AreTold Q limits (IsCallAt phase (Lanes lanes)) (length lanes) first x y → AreTold Q limits (IsCallAt phase (Lanes lanes)) (length lanes) rest y z → IsPermutation (first ++ rest) sorted
    → new ≡ old ++ sorted → ((lane : ℕ) → AllPairs (λ r s. r.index < s.index) (filter (is_of_lane lane) (first ++ rest))) → TellsPhase Q limits phase (Lanes lanes) old new x z
told_phase Q limits phase lanes first rest sorted old new x y z one other moved added ascends = record {
  made = first ++ rest;
  more = sorted;
  added = added;
  same = moved;
  told = told_both Q limits (IsCallAt phase (Lanes lanes)) (length lanes) first rest x y z one other;
  ascends = ascends;
}

-- those that pass the test of a lane are of it
pub filtered : (lane : ℕ) (rs : List Record) → All (OfLane lane) (filter (is_of_lane lane) rs)
filtered lane [] = All-nil (OfLane lane)
filtered lane (r ∷ rs) = by (filtered lane rs) (is_of_lane lane r) refl
  where
    by : All (OfLane lane) (filter (is_of_lane lane) rs) → (b : Bool) → is_of_lane lane r ≡ b → All (OfLane lane) (filter (is_of_lane lane) (r ∷ rs))
    by rest true is = rw is (All-cons (OfLane lane) r (filter (is_of_lane lane) rs) (let e : r.lane ≡ lane = grind (arith, nat_tests) in e) rest)
    by rest false is = rw is rest

-- the limits of a lane's calls
pub limits_are : (limits : Limits) (l : CallLimits) (region lane used : ℕ) → l ≡ record { budget = limits.budget; attempts = limits.attempts; room = record { region = region; size = limits.size; used = used } }
    → region ≡ suc lane → l ≡ lane_limits limits lane used
limits_are limits l region lane used is number =
    let within : ℕ → CallLimits = λ r. record { budget = limits.budget; attempts = limits.attempts; room = record { region = r; size = limits.size; used = used } } in
    is ∙ ap within number

-- what the calls of a lane told, whatever words of its region were used before the first
pub lane_told : (Q : Program) (limits : Limits) (l : CallLimits) (region lane used : ℕ) (C : Record → Known → Type 0) (placed : List Record) (T : List Event → Type 0)
    → l ≡ record { budget = limits.budget; attempts = limits.attempts; room = record { region = region; size = limits.size; used = used } } → region ≡ suc lane
    → HasTold Q (bounds_of l) C placed T → HasTold Q (lane_bounds limits lane) C placed T
lane_told Q limits l region lane used C placed T is number told =
    let Of : CallLimits → Type 0 = λ m. HasTold Q (bounds_of m) C placed T in
    let within : ℕ → CallLimits = λ r. record { budget = limits.budget; attempts = limits.attempts; room = record { region = r; size = limits.size; used = used } } in
    told_bounds Q (lane_bounds limits lane) used C placed T (subst (λ (r : ℕ). Of (within r)) number (subst Of is told))

-- one lane more of those that are made one after another
pub told_turn : (Q : Program) (limits : Limits) (phase n first : ℕ) (lanes : Phase) (cs : List Known) (l : CallLimits) (region used : ℕ) (placed more new : List Record) (x y z : List (Option (List Event)))
    → n < length lanes → cs ≡ get_or lanes n [] → l ≡ record { budget = limits.budget; attempts = limits.attempts; room = record { region = region; size = limits.size; used = used } } → region ≡ suc n
    → HasTold Q (bounds_of l) (IsRecordOf (record { phase = phase; lane = n; first = first }) (drop first cs)) more (Grows (get_or y n None) (get_or z n None)) → length z ≡ length y
    → ((k : ℕ) → k ≢ n → get_or z k None ≡ get_or y k None) → AreTold Q limits (IsCallAt phase (Lanes lanes)) (length lanes) placed x y → new ≡ placed ++ more
    → AreTold Q limits (IsCallAt phase (Lanes lanes)) (length lanes) new x z
told_turn Q limits phase n first lanes cs l region used placed more new x y z low here is number has len others told added =
    let C = IsCallAt phase (Lanes lanes) in
    let At : ℕ → List Known → Record → Known → Type 0 = λ f ds. IsRecordOf (record { phase = phase; lane = n; first = f }) (drop first ds) in
    let on : first ≡ 0 + first = omega arith in
    let T = Grows (get_or y n None) (get_or z n None) in
    let lane = lane_told Q limits l region n used (At first cs) more T is number has in
    let there = subst (λ (f : ℕ). HasTold Q (lane_bounds limits n) (At f (get_or lanes n [])) more T) on (subst (λ (ds : List Known). HasTold Q (lane_bounds limits n) (At first ds) more T) here lane) in
    let own = told_weaker Q (lane_bounds limits n) (At (0 + first) (get_or lanes n [])) C (of_phase phase n first lanes) more T there in
    let of = told_all Q (lane_bounds limits n) (At first cs) (OfLane n) (λ r c at. at.lane) more T lane in
    subst (λ (rs : List Record). AreTold Q limits C (length lanes) rs x z) (sym added)
    (told_both Q limits C (length lanes) placed more x y z told (told_lane Q limits C (length lanes) n more y z low len of own others))
