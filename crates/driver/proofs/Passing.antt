-- The passes of a phase over a table that phases before it had, too: how they are split off, and how they come back.
use Rattle.std.proofs.Common.{◌≡◌, ◌≢◌, ◌<◌, ◌≤◌, ◌-◌, ◌==◌, ℕ, zero, suc, ◌+◌, Bool, true, false, cond, List, [], ◌∷◌, ◌++◌, length, map, reverse, take, get_or, set, get_or-set_same, get_or-set_other, nat_lt, ltb-true, All, append-nil, append_assoc, inl, inr, ⊎_elim, refl, sym, ap, ◌∙◌, subst, arith}
use Rattle.std.specs.Prelude.{◌⊎◌, filter, max, slice_index}
use Rattle.std.specs.List.{AllByRecursion}
use Rattle.std.proofs.Math.Nat.{le-max_left, le-max_right}
use Rattle.std.proofs.lemmas.Bool.Decides.{nat_tests}
use Rattle.std.proofs.lemmas.List.{length_push, length-map, map-append, get_or_push, get_or_append_left, reverse-reverse}
use Rattle.std.proofs.lemmas.List.Elements.{All-from_recursion}
use mathlib.Core.Logic.{dite}
use native.Mathlib.Decide.{ℕ_discrete}
use mathlib.Core.Option.{Option, some, none}
use Rattle.atomic_table.specs.Seated.{TableId}
use Rattle.jmodel.specs.history.History.{Call, Entry, Told, told}
use Rattle.tx_table.specs.Book.{Map, Region, Book, In, lookup, only}
use Rattle.tx_table.specs.Rule.{Story, last_of}
use Rattle.tx_table.specs.Plays.{used_in, stays_here, goes_out, inverse, joined, first_book, opening_regions}
use Rattle.jmodel.specs.history.Schedule.{Known, Phase, lane_calls}
use Rattle.tx_table.specs.declared.shared.Pass.{Pass}
use Rattle.tx_table.specs.Passes.{book, IsOf, IsSame}
use Rattle.tx_table.proofs.MapLaws.{eq_cond, ne_cond}
use Rattle.tl2.specs.Standing.{IsBehind, region_since}
use Rattle.tl2.proofs.Updating.{all_in, all_reversed}
use Rattle.session.specs.declared.record.Lane.{Lane}
use Rattle.session.specs.declared.record.Place.{Place}
use Rattle.session.specs.declared.record.Record.{Record}
use Rattle.session.specs.Rule.{calls_of}
use Rattle.session.specs.Lane.{is_placed, HasMade}
use Rattle.session.specs.Passes.{MayBegin, IsStarting, IsEnding, behind}
use Rattle.driver.specs.declared.side.Part.{Part}
use Rattle.driver.specs.declared.table.Start.{Start}
use Rattle.driver.specs.Sides.{made_counts}
use Rattle.driver.specs.Stories.{of_lane, lane_regions, first_regions}
use Rattle.driver.specs.Passing.{used_of, AreUsed, MayGoOn, first_of, AreStarting, IsWhole, IsUnused, IsOfOne, IsDone, IsSplit, IsJoining}
use Rattle.driver.proofs.Gathering.{part_of, gathered_more}

-- one number is below another, or it isn't
pub by_order : {A : Type 0} (m n : ℕ) → (m < n → A) → (n ≤ m → A) → A
by_order {A} m n f g = go (nat_lt m n) refl
  where
    go : (b : Bool) → nat_lt m n ≡ b → A
    go true is = f (let l = ltb-true m n is in omega arith)
    go false is = g (grind (arith, nat_tests))

-- Maps. A key that a test allows is looked up as before, and another one isn't there.
kept_by : {A : Type 0} (p : ℕ → Bool) (m : Map A) (a : ℕ) → p a ≡ true → lookup (only p m) a ≡ lookup m a
kept_by p [] a t = refl
kept_by {A} p (y ∷ ys) a t = by (p y.0) refl (kept_by p ys a t)
  where
    by : (b : Bool) → p y.0 ≡ b → lookup (only p ys) a ≡ lookup ys a → lookup (cond b (y ∷ only p ys) (only p ys)) a ≡ cond (y.0 == a) (some y.1) (lookup ys a)
    by true e rest = ap (λ (z : Option A). cond (y.0 == a) (some y.1) z) rest
    by false e rest =
        let other : y.0 ≢ a = λ q. let no : false ≡ true = sym e ∙ ap p q ∙ t in cc no in
        rest ∙ sym (ne_cond y.0 a (some y.1) (lookup ys a) other)

dropped_by : {A : Type 0} (p : ℕ → Bool) (m : Map A) (a : ℕ) → p a ≡ false → lookup (only p m) a ≡ none
dropped_by p [] a f = refl
dropped_by {A} p (y ∷ ys) a f = by (p y.0) refl (dropped_by p ys a f)
  where
    by : (b : Bool) → p y.0 ≡ b → lookup (only p ys) a ≡ none → lookup (cond b (y ∷ only p ys) (only p ys)) a ≡ none
    by true e rest =
        let other : y.0 ≢ a = λ q. let no : true ≡ false = sym e ∙ ap p q ∙ f in cc no in
        ne_cond y.0 a (some y.1) (lookup (only p ys) a) other ∙ rest
    by false e rest = rest

-- a key that isn't in the first of two maps is looked up in the second, and one that isn't in the second in the first
lookup_past : {A : Type 0} (m k : Map A) (a : ℕ) → lookup m a ≡ none → lookup (m ++ k) a ≡ lookup k a
lookup_past [] k a gone = refl
lookup_past {A} (y ∷ ys) k a gone = go (y.0 == a) gone (λ e. lookup_past ys k a e)
  where
    go : (b : Bool) → cond b (some y.1) (lookup ys a) ≡ none → (lookup ys a ≡ none → lookup (ys ++ k) a ≡ lookup k a)
        → cond b (some y.1) (lookup (ys ++ k) a) ≡ lookup k a
    go true e rest = cc
    go false e rest = rest e

lookup_alone : {A : Type 0} (m k : Map A) (a : ℕ) → lookup k a ≡ none → lookup (m ++ k) a ≡ lookup m a
lookup_alone [] k a gone = gone
lookup_alone {A} (y ∷ ys) k a gone = ap (λ (z : Option A). cond (y.0 == a) (some y.1) z) (lookup_alone ys k a gone)

-- the region of a lane alone is given to its pass
here : (lane : ℕ) → of_lane lane (suc lane) ≡ true
here lane = grind (arith, nat_tests)

elsewhere : (lane r : ℕ) → r ≢ suc lane → of_lane lane r ≡ false
elsewhere lane r other = go (of_lane lane r) refl
  where
    go : (b : Bool) → of_lane lane r ≡ b → of_lane lane r ≡ false
    go true is = let same : r ≡ suc lane = grind (arith, nat_tests) in absurd (other same)
    go false is = is

gone_here : (lane : ℕ) → inverse (of_lane lane) (suc lane) ≡ false
gone_here lane = ap (λ (b : Bool). cond b false true) (here lane)

kept_elsewhere : (lane r : ℕ) → r ≢ suc lane → inverse (of_lane lane) r ≡ true
kept_elsewhere lane r other = ap (λ (b : Bool). cond b false true) (elsewhere lane r other)

-- a lane's calls may begin with any book that has its region so
pub may_begin_as : (at : Place) (v w : Book) → lookup v.regions (suc at.lane) ≡ lookup w.regions (suc at.lane) → MayGoOn at v → MayGoOn at w
may_begin_as at v w same begins =
    let used : used_of v at.lane ≡ used_of w at.lane = ap used_in same in
    let Begins : ℕ → Type 0 = λ n. MayBegin at n w in
    subst Begins used (record { last = begins.last; region = sym same ∙ begins.region; follows = begins.follows })

-- and where its calls from a place on may, so may those of a later phase
pub may_begin_later : (phase later lane first : ℕ) (v : Book) → phase < later → MayGoOn (record { phase = phase; lane = lane; first = first }) v
    → MayGoOn (first_of later lane) v
may_begin_later phase later lane first v l begins = record {
  last = begins.last;
  region = begins.region;
  follows = λ next index c behind.
      begins.follows next index c (inl (⊎_elim (λ (m : later < next). omega arith) (λ (both : (later ≡ next) × (0 ≤ index)). let same = both.0 in omega arith) behind));
}

-- the used words with which calls may begin are those of the book
pub goes_on_from : (at : Place) (used : ℕ) (v : Book) → MayBegin at used v → MayGoOn at v × (used ≡ used_of v at.lane)
goes_on_from at used v begins =
    let same : used ≡ used_of v at.lane = sym (ap used_in begins.region) in
    let Begins : ℕ → Type 0 = λ n. MayBegin at n v in
    (subst Begins same begins, same)

-- as a table opens, no call of any lane came before
abbrev first_region : Region
first_region = record { used = 0; last = none }

opened : (n lane : ℕ) → lane < n → lookup (opening_regions (lane_regions n)) (suc lane) ≡ some (record { used = 0; last = none })
opened zero lane l = absurd (omega (arith, l))
opened (suc n) lane l =
    dite (ℕ_discrete n lane)
    (λ same. eq_cond (suc n) (suc lane) (some first_region) (lookup (opening_regions (lane_regions n)) (suc lane)) (ap suc same))
    (λ other. ne_cond (suc n) (suc lane) (some first_region) (lookup (opening_regions (lane_regions n)) (suc lane)) (λ e. other (omega (arith, e)))
    ∙ opened n lane (omega arith))

-- whatever region 0 has, no word of a lane's region is used
opened_lane : (used lane : ℕ) → lane < 16 → lookup (opening_regions (first_regions used)) (suc lane) ≡ some (record { used = 0; last = none })
opened_lane used lane low =
    ne_cond 0 (suc lane) (some (record { used = used; last = none })) (lookup (opening_regions (lane_regions 16)) (suc lane)) (λ e. omega (arith, e)) ∙ opened 16 lane low

pub whole_first : (t : TableId) (S : Story) (used : ℕ) (p : Pass) → IsOf t p → book p ≡ first_book S → S.regions ≡ first_regions used
    → IsWhole t 0 p × IsUnused (book p) × ((lane : ℕ) → lane < 16 → used_of (book p) lane ≡ 0)
whole_first t S used p of is regions =
    let region : (lane : ℕ) → lane < 16 → lookup (book p).regions (suc lane) ≡ some (record { used = 0; last = none }) =
    λ lane low. ap (λ (c : Book). lookup c.regions (suc lane)) is ∙ ap (λ (m : Map ℕ). lookup (opening_regions m) (suc lane)) regions ∙ opened_lane used lane low in
    let none_used : (lane : ℕ) → lane < 16 → used_of (book p) lane ≡ 0 = λ lane low. ap used_in (region lane low) in (
      record {
        seated = record {
          table = of;
          held = ap (λ (c : Book). c.face.held) is;
          stage = ap (λ (c : Book). c.face.stage) is;
        };
        numbers = ap (λ (c : Book). c.numbers) is;
        begins = λ lane low.
            let Begins : ℕ → Type 0 = λ n. MayBegin (first_of 0 lane) n (book p) in
            subst Begins (sym (none_used lane low)) (record { last = none; region = region lane low; follows = λ next index c later. tt });
      },
      record {
        fresh = ap (λ (c : Book). c.fresh) is;
        ticks = ap (λ (c : Book). c.ticks) is;
        entries = ap (λ (c : Book). c.entries) is;
      },
      none_used,
    )

-- nothing was split off yet
pub split_first : (t : TableId) (phase : ℕ) (p : Pass) → IsWhole t phase p → IsSplit t (book p) 0 p
split_first t phase p w = record {
  seated = w.seated;
  numbers = omega arith;
  fresh = omega arith;
  ticks = refl;
  seen = refl;
  entries = refl;
  gone = λ lane low. absurd (omega (arith, low));
  kept = λ lane any. refl;
}

-- One lane more: what is left, and the lane's pass.
pub split_next : (t : TableId) (b : Book) (phase n : ℕ) (p q r : Pass) → IsSplit t b n p → n < 16 → b.numbers ≡ 1048576 → 16 ≤ b.fresh → IsOf t q → IsOf t r
    → book q ≡ stays_here (of_lane (1048576 - (book p).numbers)) (book p)
    → book r ≡ goes_out (of_lane (1048576 - (book p).numbers)) (book p) → MayGoOn (first_of phase n) b
    → IsSplit t b (n + 1) q × IsOfOne t b.seen (first_of phase n) r × (lookup (book r).regions (suc n) ≡ lookup b.regions (suc n))
split_next t b phase n p q r split low whole some_left left right staying going begins =
    let numbers = split.numbers in
    let fresh = split.fresh in
    let lane : 1048576 - (book p).numbers ≡ n = omega arith in
    let stays : book q ≡ stays_here (of_lane n) (book p) = staying ∙ ap (λ (k : ℕ). stays_here (of_lane k) (book p)) lane in
    let goes : book r ≡ goes_out (of_lane n) (book p) = going ∙ ap (λ (k : ℕ). goes_out (of_lane k) (book p)) lane in
    let region : lookup (book r).regions (suc n) ≡ lookup b.regions (suc n) =
    ap (λ (c : Book). lookup c.regions (suc n)) goes ∙ kept_by (of_lane n) (book p).regions (suc n) (here n) ∙ split.kept n (omega arith) in (
      record {
        seated = record {
          table = left;
          held = ap (λ (c : Book). c.face.held) stays ∙ split.seated.held;
          stage = ap (λ (c : Book). c.face.stage) stays ∙ split.seated.stage;
        };
        numbers = let e : (book q).numbers ≡ (book p).numbers - 1 = ap (λ (c : Book). c.numbers) stays in omega arith;
        fresh = let e : (book q).fresh ≡ (book p).fresh - 1 = ap (λ (c : Book). c.fresh) stays in omega arith;
        ticks = ap (λ (c : Book). c.ticks) stays ∙ split.ticks;
        seen = ap (λ (c : Book). c.seen) stays ∙ split.seen;
        entries = ap (λ (c : Book). c.entries) stays ∙ split.entries;
        gone = λ k inside. ap (λ (c : Book). lookup c.regions (suc k)) stays
            ∙ dite (ℕ_discrete k n)
            (λ same. dropped_by (inverse (of_lane n)) (book p).regions (suc k) (ap (λ (m : ℕ). inverse (of_lane n) (suc m)) same ∙ gone_here n))
            (λ other. kept_by (inverse (of_lane n)) (book p).regions (suc k) (kept_elsewhere n (suc k) (λ same. other (omega (arith, same))))
            ∙ split.gone k (omega arith));
        kept = λ k past. ap (λ (c : Book). lookup c.regions (suc k)) stays
            ∙ kept_by (inverse (of_lane n)) (book p).regions (suc k) (kept_elsewhere n (suc k) (λ same. absurd (omega (arith, same, past))))
            ∙ split.kept k (omega (arith, past));
      },
      record {
        seated = record {
          table = right;
          held = ap (λ (c : Book). c.face.held) goes;
          stage = ap (λ (c : Book). c.face.stage) goes;
        };
        numbers = ap (λ (c : Book). c.numbers) goes;
        fresh = ap (λ (c : Book). c.fresh) goes;
        ticks = ap (λ (c : Book). c.ticks) goes;
        seen_is = ap (λ (c : Book). c.seen) goes ∙ split.seen;
        entries = ap (λ (c : Book). c.entries) goes;
        begins = may_begin_as (first_of phase n) b (book r) (sym region) begins;
        others = λ k other. ap (λ (c : Book). lookup c.regions k) goes ∙ dropped_by (of_lane n) (book p).regions k (elsewhere n k other);
      },
      region,
    )

-- one lane more by its number
pub starts_push : (t : TableId) (seen phase : ℕ) (starts : List Start) (n : ℕ) (s : Start) → length starts ≡ n → s.lane ≡ n
    → s.used ≡ used_of (book s.pass) n → IsOfOne t seen (first_of phase n) s.pass → AreStarting t seen phase starts → AreStarting t seen phase (starts ++ s ∷ [])
starts_push t seen phase starts n s long lane used starting all i d inside = dite (ℕ_discrete i n) last before
  where
    Fine : Start → Type 0
    Fine x = (x.lane ≡ i) × (x.used ≡ used_of (book x.pass) i) × IsOfOne t seen (first_of phase i) x.pass

    last : i ≡ n → Fine (get_or (starts ++ s ∷ []) i d)
    last e = subst Fine (sym (get_or_push starts s d i (long ∙ sym e)))
        (lane ∙ sym e, used ∙ ap (used_of (book s.pass)) (sym e), subst (λ (k : ℕ). IsOfOne t seen (first_of phase k) s.pass) (sym e) starting)

    before : i ≢ n → Fine (get_or (starts ++ s ∷ []) i d)
    before ne = let more = length_push starts s in let low : i < length starts = omega arith in
        subst Fine (sym (get_or_append_left starts (s ∷ []) d i low)) (all i d low)

-- the used words of a lane's region go with its pass
pub used_goes : (b : Book) (lane : ℕ) (p : Pass) (used : ℕ) → used ≡ used_of b lane → lookup (book p).regions (suc lane) ≡ lookup b.regions (suc lane)
    → used ≡ used_of (book p) lane
used_goes b lane p used were same = were ∙ ap used_in (sym same)

-- a lane's calls may begin with its pass
pub may_start : (t : TableId) (seen : ℕ) (at : Place) (count : ℕ) (p : Pass) → count ≤ 100000 → IsOfOne t seen at p → IsStarting t at (used_of (book p) at.lane) count p
may_start t seen at count p few one = record {
  seated = one.seated;
  begins = one.begins;
  ticks = let unmoved = one.ticks in omega arith;
}

-- Entries of a lane's calls are of the lane's region.
region_calls : (phase lane i : ℕ) (cs : List Known) → AllByRecursion (λ (c : Call). c.region ≡ suc lane) (lane_calls phase lane i cs)
region_calls phase lane i [] = tt
region_calls phase lane i (c ∷ cs) = (refl, region_calls phase lane (suc i) cs)

placed_calls : (Q : Call → Type 0) (ts : List Told) → AllByRecursion Q (calls_of ts) → AllByRecursion (λ (t : Told). Q t.call) (filter is_placed ts)
placed_calls Q [] a = tt
placed_calls Q (t ∷ ts) a =
    let rest : AllByRecursion (λ (u : Told). Q u.call) (filter is_placed ts) = placed_calls Q ts a.1 in
    elim (is_placed t) as (λ b. AllByRecursion (λ (u : Told). Q u.call) (cond b (t ∷ filter is_placed ts) (filter is_placed ts))) [ true ↦ (a.0, rest) | false ↦ rest ]

told_calls : (Q : Call → Type 0) (h : List Entry) → AllByRecursion (λ (t : Told). Q t.call) (map told h) → AllByRecursion (λ (e : Entry). Q e.call) h
told_calls Q [] a = tt
told_calls Q (e ∷ h) a = (a.0, told_calls Q h a.1)

of_region : (at : Place) (before : ℕ) (calls : List Known) (h made : List Entry) (lane : Lane) → HasMade at before calls h lane → made ≡ reverse h
    → (e : Entry) → In e made → e.call.region ≡ suc at.lane
of_region at before calls h made lane has is =
    let Q : Call → Type 0 = λ c. c.region ≡ suc at.lane in
    let P : Entry → Type 0 = λ e. Q e.call in
    let each = subst (AllByRecursion Q) (sym has.calls_are) (region_calls at.phase at.lane at.first (take lane.made calls)) in
    let mine = told_calls Q h (subst (AllByRecursion (λ (t : Told). Q t.call)) (sym has.history) (placed_calls Q has.tolds each)) in
    let all : All P (reverse made) = subst (All P) (sym (ap reverse is ∙ reverse-reverse h)) (All-from_recursion P h mine) in
    λ e i. all_in P made e (all_reversed P made all) i

last_none : (es : List Entry) (r : ℕ) → ((e : Entry) → In e es → e.call.region ≢ r) → last_of es r ≡ none
last_none [] r f = refl
last_none (e ∷ es) r f = ne_cond e.call.region r (some e) (last_of es r) (f e (inl refl)) ∙ last_none es r (λ d i. f d (inr i))

-- so they leave the other regions as they were
pub other_regions : (t : TableId) (b : Book) (at : Place) (before count made used : ℕ) (calls : List Known) (lane : Lane) (h : List Entry) (q : Pass)
    → IsEnding t b at count made used h q → HasMade at before calls h lane → (r : ℕ) → r ≢ suc at.lane → lookup (book q).regions r ≡ lookup b.regions r
other_regions t b at before count made used calls lane h q ending has r other =
    let since = ending.since in
    let After : Option Entry → Option Region = λ e. region_since (lookup b.regions r) e in
    since.regions r
    ∙ ap After (last_none since.made r (λ e i same. other (sym same ∙ of_region at before calls h since.made lane has ending.entries e i)))

-- and when they are made, its pass is done
pub is_done : (t : TableId) (seen : ℕ) (at : Place) (before count made used : ℕ) (calls : List Known) (lane : Lane) (h : List Entry) (p q : Pass) → IsOfOne t seen at p
    → IsEnding t (book p) at count made used h q → HasMade at before calls h lane → IsDone t seen at count made h q × (used ≡ used_of (book q) at.lane)
is_done t seen at before count made used calls lane h p q one ending has =
    let since = ending.since in
    let mine : (book q).entries ≡ since.made = since.entries ∙ ap (λ (es : List Entry). since.made ++ es) one.entries ∙ append-nil since.made in
    let there : (e : Entry) → In e (book q).entries → In e since.made = λ e i. subst (λ (es : List Entry). In e es) mine i in
    let left = goes_on_from (behind at made) used (book q) ending.next in (
      record {
        seated = ending.seated;
        numbers = since.numbers ∙ one.numbers;
        fresh = since.fresh ∙ one.fresh;
        ticks = let unmoved = one.ticks in let more = ending.ticks in omega arith;
        on = subst (λ (n : ℕ). n ≤ (book q).seen) one.seen_is since.seen;
        entries = mine ∙ ending.entries;
        stand_behind = λ e i. subst (λ (n : ℕ). IsBehind n e) one.seen_is (since.behind e (there e i));
        known = λ e i. since.known e (there e i);
        next = left.0;
        others = λ r other. other_regions t (book p) at before count made used calls lane h q ending has r other ∙ one.others r other;
      },
      left.1,
    )

-- what is in two lists together is in one of them
pub in_either : {A : Type 0} (x : A) (xs ys : List A) → In x (xs ++ ys) → In x xs ⊎ In x ys
in_either x [] ys i = inr i
in_either x (z ∷ xs) ys (inl e) = inl (inl e)
in_either {A} x (z ∷ xs) ys (inr i) = ⊎_elim (λ (l : In x xs). inl (inr l)) (λ (r : In x ys). inr r) (in_either x xs ys i)

-- how many calls of a lane were made, as one lane more is kept
count_before : (parts : List Part) (part : Part) (k : ℕ) → k < length parts → get_or (made_counts (parts ++ part ∷ [])) k 0 ≡ get_or (made_counts parts) k 0
count_before parts part k inside =
    let long = length-map parts (λ (x : Part). x.made) in
    ap (λ (ns : List ℕ). get_or ns k 0) (map-append (λ (x : Part). x.made) parts (part ∷ []))
    ∙ get_or_append_left (made_counts parts) (part.made ∷ []) 0 k (omega arith)

count_last : (parts : List Part) (part : Part) (k : ℕ) → length parts ≡ k → get_or (made_counts (parts ++ part ∷ [])) k 0 ≡ part.made
count_last parts part k long =
    ap (λ (ns : List ℕ). get_or ns k 0) (map-append (λ (x : Part). x.made) parts (part ∷ []))
    ∙ get_or_push (made_counts parts) part.made 0 k (length-map parts (λ (x : Part). x.made) ∙ long)

-- One lane's pass more is back.
pub joins_next : (t : TableId) (b : Book) (phase all calls count : ℕ) (lanes : Phase) (cs : List Known) (placed : List Record) (parts : List Part)
    (lane : Lane) (h : List Entry) (p q other : Pass) → IsJoining t b phase all calls lanes placed parts p → length lanes < all → length parts ≡ length lanes
    → IsDone t b.seen (first_of phase (length lanes)) count lane.made h other → (before : ℕ) → HasMade (first_of phase (length lanes)) before cs h lane
    → lane.used ≡ used_of (book other) (length lanes)
    → IsSame p q → book q ≡ joined (book p) (book other)
    → IsJoining t b phase all (calls + count) (lanes ++ cs ∷ []) (placed ++ lane.placed.items) (parts ++ part_of lane ∷ []) q
joins_next t b phase all calls count lanes cs placed parts lane h p q other j inside long done before_used has used same join =
    let n = length lanes in
    let more : length (lanes ++ cs ∷ []) ≡ n + 1 = length_push lanes cs in
    let numbers : (book q).numbers ≡ (book p).numbers + (book other).numbers = ap (λ (c : Book). c.numbers) join in
    let fresh : (book q).fresh ≡ (book p).fresh + (book other).fresh = ap (λ (c : Book). c.fresh) join in
    let ticks : (book q).ticks ≡ (book p).ticks + (book other).ticks = ap (λ (c : Book). c.ticks) join in
    let seen : (book q).seen ≡ max (book p).seen (book other).seen = ap (λ (c : Book). c.seen) join in
    let mine = le-max_left (book p).seen (book other).seen in
    let theirs = le-max_right (book p).seen (book other).seen in
    let added : (e : Entry) → In e (reverse h) → In e (book other).entries = λ e i. subst (λ (es : List Entry). In e es) (sym done.entries) i in
    let as_before : (k : ℕ) → k ≢ n → lookup (book q).regions (suc k) ≡ lookup (book p).regions (suc k) =
    λ k apart. ap (λ (c : Book). lookup c.regions (suc k)) join
    ∙ lookup_alone (book p).regions (book other).regions (suc k) (done.others (suc k) (λ e. apart (omega (arith, e)))) in
    let as_theirs : lookup (book q).regions (suc n) ≡ lookup (book other).regions (suc n) =
    ap (λ (c : Book). lookup c.regions (suc n)) join ∙ lookup_past (book p).regions (book other).regions (suc n) (j.gone n (omega arith) inside) in
    let Begins : ℕ → ℕ → Type 0 = λ k made. MayGoOn (behind (first_of phase k) made) (book q) in
    record {
      seated = record {
        table = same.0 ∙ j.seated.table;
        held = ap (λ (c : Book). c.face.held) join ∙ j.seated.held;
        stage = ap (λ (c : Book). c.face.stage) join ∙ j.seated.stage;
      };
      numbers = let one = done.numbers in let before = j.numbers in omega arith;
      fresh = let none_left = done.fresh in let before = j.fresh in omega arith;
      few = let none_left = done.fresh in let before = j.few in omega arith;
      ticks = let few = done.ticks in let before = j.ticks in omega arith;
      on = let before = j.on in omega arith;
      since = j.since ++ reverse h;
      entries = ap (λ (c : Book). c.entries) join ∙ ap (λ (es : List Entry). es ++ (book other).entries) j.entries
          ∙ ap (λ (es : List Entry). (b.entries ++ j.since) ++ es) done.entries ∙ append_assoc b.entries j.since (reverse h);
      gathered = gathered_more phase before_used lanes j.since placed parts cs h lane j.gathered has;
      stand_behind = λ e i. ⊎_elim (λ (l : In e j.since). j.stand_behind e l) (λ (r : In e (reverse h)). done.stand_behind e (added e r))
          (in_either e j.since (reverse h) i);
      known = λ e i. ⊎_elim (λ (l : In e j.since). let k = j.known e l in omega (arith, k, seen, mine))
          (λ (r : In e (reverse h)). let k = done.known e (added e r) in omega (arith, k, seen, theirs)) (in_either e j.since (reverse h) i);
      back = λ k low. dite (ℕ_discrete k n)
          (λ (e : k ≡ n). subst (λ (i : ℕ). Begins i (get_or (made_counts (parts ++ part_of lane ∷ [])) i 0)) (sym e)
          (subst (Begins n) (sym (count_last parts (part_of lane) n long))
          (may_begin_as (behind (first_of phase n) lane.made) (book other) (book q) (sym as_theirs) done.next)))
          (λ (apart : k ≢ n).
          let under : k < n = omega arith in
          subst (Begins k) (sym (count_before parts (part_of lane) k (omega arith)))
          (may_begin_as (behind (first_of phase k) (get_or (made_counts parts) k 0)) (book p) (book q) (sym (as_before k apart)) (j.back k under)));
      used = λ k d low. dite (ℕ_discrete k n)
          (λ (e : k ≡ n). let Same : ℕ → Type 0 = λ i. (get_or (parts ++ part_of lane ∷ []) i d).used ≡ used_of (book q) i in
          subst Same (sym e) (ap (λ (r : Part). r.used) (get_or_push parts (part_of lane) d n long) ∙ used ∙ ap used_in (sym as_theirs)))
          (λ (apart : k ≢ n).
          let under : k < n = omega arith in
          ap (λ (r : Part). r.used) (get_or_append_left parts (part_of lane ∷ []) d k (omega arith)) ∙ j.used k d under ∙ ap used_in (sym (as_before k apart)));
      gone = λ k past low. as_before k (λ e. absurd (omega (arith, e, more, past))) ∙ j.gone k (omega (arith, more, past)) low;
      kept = λ k past. as_before k (λ e. absurd (omega (arith, e, inside, past))) ∙ j.kept k past;
    }

-- a list that is long enough has a part
some_part : (parts : List Part) (lane : ℕ) → lane < length parts → Part
some_part [] lane low = absurd (omega (arith, low))
some_part (r ∷ rs) lane low = r

-- The used words of lanes as their passes are back: each lane's part tells those of its own, and the others are as before.
pub used_back : (t : TableId) (b : Book) (phase calls : ℕ) (lanes : Phase) (placed : List Record) (parts : List Part) (p : Pass) (old new : List ℕ)
    → IsJoining t b phase (length lanes) calls lanes placed parts p → AreUsed old b → length parts ≡ length lanes
    → ((lane : ℕ) (r : Part) → lane < length parts → slice_index new lane ≡ (get_or parts lane r).used)
    → ((lane : ℕ) → length parts ≤ lane → slice_index new lane ≡ slice_index old lane) → AreUsed new (book p)
used_back t b phase calls lanes placed parts p old new j were long lanes_kept others_kept lane low =
    by_order lane (length lanes)
    (λ under. let r = some_part parts lane (omega (arith, under, long)) in lanes_kept lane r (omega (arith, under, long)) ∙ j.used lane r under)
    (λ over. others_kept lane (omega (arith, over, long)) ∙ were lane low ∙ ap used_in (sym (j.kept lane over)))

-- the used words of lanes behind the calls of one of them
pub used_on : (t : TableId) (at : Place) (before count made used : ℕ) (calls : List Known) (lane : Lane) (h : List Entry) (p q : Pass) (old : List ℕ)
    → at.lane < length old → IsEnding t (book p) at count made used h q → HasMade at before calls h lane → AreUsed old (book p)
    → AreUsed (set old at.lane used) (book q)
used_on t at before count made used calls lane h p q old inside ending has were k low =
    dite (ℕ_discrete k at.lane)
    (λ (e : k ≡ at.lane). ap (slice_index (set old at.lane used)) e ∙ get_or-set_same old at.lane used 0 inside ∙ (goes_on_from (behind at made) used (book q) ending.next).1
    ∙ ap (used_of (book q)) (sym e))
    (λ (apart : k ≢ at.lane). get_or-set_other old at.lane k used 0 apart ∙ were k low
    ∙ ap used_in (sym (other_regions t (book p) at before count made used calls lane h q ending has (suc k) (λ e. apart (omega (arith, e))))))
