-- One call more of a lane.
use Rattle.std.proofs.Common.{◌≤◌, ◌≡◌, ◌<◌, ◌+◌, ℕ, suc, List, [], ◌∷◌, ◌++◌, length, map, take, get_or, Bool, true, false, refl, sym, ◌∙◌, ap, subst, arith}
use Rattle.std.specs.Prelude.{filter, nat_eq}
use Rattle.std.proofs.lemmas.Bool.Decides.{nat_tests}
use Rattle.std.specs.Bool.{MatchBool}
use Rattle.std.proofs.lemmas.List.{map-append, append-nil, length-take, take_more}
use Rattle.std.proofs.lemmas.List.Elements.{filter-append}
use Rattle.objects.specs.semantics.Program.{Program}
use Rattle.objects.specs.rewriting.Attempt.{Log, Bounds}
use Rattle.jmodel.specs.history.History.{Call, Entry, Told, Words, told, used_after}
use Rattle.jmodel.specs.history.Schedule.{Known, is_memory, call_at, lane_calls}
use Rattle.machine.specs.declared.room.Room.{Room}
use Rattle.machine.specs.declared.machine.Limits.{Limits}
use Rattle.machine.specs.Sound.{IsOverStates}
use Rattle.session.specs.declared.record.Record.{Record}
use Rattle.session.specs.declared.record.Lane.{Lane}
use Rattle.session.specs.declared.record.Place.{Place}
use Rattle.session.specs.Lane.{is_placed, is_unplaced, record_of, Takes, HasMade}
use Rattle.session.specs.Passes.{limits_with}
use Rattle.session.specs.Adds.{told_by, call_of, is_spent, AddsSpent, AddsEntry, AddsNothing, AddsCall, has_place, has_none, AddsRecord, AddsMade, IsEmpty}

calls_more : (phase lane i : ℕ) (cs : List Known) (c : Known) → lane_calls phase lane i (cs ++ c ∷ []) ≡ lane_calls phase lane i cs ++ call_at phase lane (i
    + length cs) c ∷ []
calls_more phase lane i [] c = let z : i ≡ i + 0 = omega arith in ap (λ (j : ℕ). call_at phase lane j c ∷ []) z
calls_more phase lane i (k ∷ cs) c =
    let z : suc i + length cs ≡ i + suc (length cs) = omega arith in
    ap (λ (l : List Call). call_at phase lane i k ∷ l)
    (calls_more phase lane (suc i) cs c ∙ ap (λ (j : ℕ). lane_calls phase lane (suc i) cs ++ call_at phase lane j c ∷ []) z)

-- the records of those of one that are kept
kept_one : (p : Told → Bool) (q : Record → Bool) (t : Told) (b : Bool) → p t ≡ b → q (record_of t) ≡ b
    → filter q (record_of t ∷ []) ≡ map record_of (filter p (t ∷ []))
kept_one p q t true is same = rw (is, same) refl
kept_one p q t false is same = rw (is, same) refl

kept_more : (p : Told → Bool) (q : Record → Bool) → ((t : Told) → q (record_of t) ≡ p t) → (ts : List Told) (t : Told) (rs new : List Record)
    → rs ≡ map record_of (filter p ts) → new ≡ rs ++ filter q (record_of t ∷ []) → new ≡ map record_of (filter p (ts ++ t ∷ []))
kept_more p q same ts t rs new are is =
    is ∙ ap (λ (l : List Record). l ++ filter q (record_of t ∷ [])) are ∙ ap (λ (l : List Record). map record_of (filter p ts) ++ l) (kept_one p q t (p t)
    refl (same t))
    ∙ sym (map-append record_of (filter p ts) (filter p (t ∷ []))) ∙ ap (map record_of) (sym (filter-append p ts (t ∷ [])))

-- entries that follow others
pub takes_append : (region before between after : ℕ) (h added : List Entry) → Takes region before h between → Takes region between added after → Takes region before (h ++ added) after
takes_append region before between after [] added is more = subst (λ (u : ℕ). Takes region u added after) is more
takes_append region before between after (e ∷ h) added is more = (is.0, is.1, takes_append region e.used_after between after h added is.2 more)

-- the used words of a region after entries that follow one another in it
pub takes_after : (region before after : ℕ) (h : List Entry) → Takes region before h after → used_after h region before ≡ after
takes_after region before after [] is = sym is
takes_after region before after (e ∷ h) is =
    let here : nat_eq e.call.region region ≡ true = (let same = is.0 in grind (arith, nat_tests)) in
    rw here (takes_after region e.used_after after h is.2)

pub lane_more : (at : Place) (before : ℕ) (calls : List Known) (h added : List Entry) (old new : Lane) (c : Known) (t : Told) (used : ℕ) → HasMade at before calls h old
    → old.made < length calls → c ≡ get_or calls old.made c → t.call ≡ call_at at.phase at.lane (at.first + old.made) c → AddsRecord old new (record_of t) used
    → map told added ≡ filter is_placed (t ∷ []) → Takes (suc at.lane) old.used added used → old.used ≤ new.used → HasMade at before calls (h ++ added) new
lane_more at before calls h added old new c t used made less is of_call adds are takes grows =
    let count : length (take old.made calls) ≡ old.made = omega (arith, length-take old.made calls) in
    let next : take (old.made + 1) calls ≡ take old.made calls ++ c ∷ [] = take_more calls old.made c less ∙ ap (λ (d : Known). take old.made calls ++ d ∷
    []) (sym is) in
    let place : (Known → Call) = λ k. call_at at.phase at.lane (at.first + old.made) k in
    record {
      tolds = made.tolds ++ t ∷ [];
      within = omega (arith, adds.made, less);
      calls_are =
          map-append (λ (t : Told). t.call) made.tolds (t ∷ []) ∙ ap (λ (l : List Call). l ++ t.call ∷ []) made.calls_are
          ∙ ap (λ (k : Call). lane_calls at.phase at.lane at.first (take old.made calls) ++ k ∷ [])
          (of_call ∙ ap (λ (n : ℕ). call_at at.phase at.lane (at.first + n) c) (sym count))
          ∙ sym (calls_more at.phase at.lane at.first (take old.made calls) c)
          ∙ ap (lane_calls at.phase at.lane at.first) (sym next ∙ ap (λ (n : ℕ). take n calls) (sym adds.made));
      history =
          map-append told h added ∙ ap (λ (l : List Told). l ++ map told added) made.history ∙ ap (λ (l : List Told). filter is_placed made.tolds ++ l) are
          ∙ sym (filter-append is_placed made.tolds (t ∷ []));
      takes = takes_append (suc at.lane) before old.used new.used h added made.takes (subst (λ (u : ℕ). Takes (suc at.lane) old.used added u) (sym adds.used_are) takes);
      grows = omega (arith, made.grows, grows);
      placed_are = kept_more is_placed has_place (λ t. refl) made.tolds t old.placed.items new.placed.items made.placed_are adds.placed;
      unplaced_are = kept_more is_unplaced has_none (λ t. refl) made.tolds t old.unplaced.items new.unplaced.items made.unplaced_are adds.unplaced;
    }

pub lane_empty : (at : Place) (before : ℕ) (calls : List Known) (lane : Lane) → IsEmpty lane before → HasMade at before calls [] lane
lane_empty at before calls lane empty = record {
  tolds = [];
  within = omega (arith, empty.made);
  calls_are = sym (ap (λ (n : ℕ). lane_calls at.phase at.lane at.first (take n calls)) empty.made);
  history = refl;
  takes = empty.used_are;
  grows = omega (arith, empty.used_are);
  placed_are = empty.placed;
  unplaced_are = empty.unplaced;
}

-- what a call that was made adds
module _ (P Q : Program) (B : Bounds) (S : List Entry → ℕ → Log → Log → Type 0) (h : List Entry) (n : ℕ) (room : Room) (at : Place) (c : Known) (r : Record) (after : ℕ) (old new : Lane)
    (same : B.used ≡ old.used) (adds : AddsCall P Q B S h n (told_by room at c r) after) where
  abbrev t : Told
  t = told_by room at c r

  abbrev Other : Type 0
  Other = MatchBool (is_memory r.answer) (AddsNothing (S h) n B.used after) (AddsEntry S h n B.used t after)

  spare : (b : Bool) → b ≡ false → MatchBool b (AddsSpent P Q B t.call (S h) n after) Other → Other
  spare true is a = cc
  spare false is a = a

  of_spent : (b : Bool) → b ≡ true → MatchBool b (AddsSpent P Q B t.call (S h) n after) Other → AddsSpent P Q B t.call (S h) n after
  of_spent true is a = a
  of_spent false is a = cc

  pub spent_one : is_spent r.answer ≡ true → after ≡ old.used
  spent_one spent = (of_spent (is_spent r.answer) spent adds).unused ∙ same

  pub made_one : is_spent r.answer ≡ false → r ≡ record_of t → AddsRecord old new r after → AddsMade t.call S h n old new
  made_one unspent tells keeps = by (is_memory r.answer) refl (spare (is_spent r.answer) unspent adds)
    where
      record_is : AddsRecord old new (record_of t) new.used
      record_is = subst (λ (x : Record). AddsRecord old new x new.used) tells (record { made = keeps.made; used_are = refl; placed = keeps.placed; unplaced = keeps.unplaced })

      used_is : after ≡ new.used
      used_is = sym keeps.used_are

      by : (b : Bool) → is_memory r.answer ≡ b → MatchBool b (AddsNothing (S h) n B.used after) (AddsEntry S h n B.used t after) → AddsMade t.call S h n old new
      by true is a = record {
        told_of = t;
        of_call = refl;
        record_is = record_is;
        added = [];
        are = rw is refl;
        entries = tt;
        takes = sym used_is ∙ a.1 ∙ same;
        grows = let kept : new.used ≡ old.used = sym used_is ∙ a.1 ∙ same in omega (arith, kept);
        conflicts = a.0.conflicts;
        later = a.0.later;
        stands = subst (λ (l : List Entry). S l a.0.conflicts [] []) (sym (append-nil h)) a.0.stands;
      }
      by false is a = record {
        told_of = t;
        of_call = refl;
        record_is = record_is;
        added = a.entry ∷ [];
        are = rw is (ap (λ (t : Told). t ∷ []) a.told_is);
        entries = (ap (λ (t : Told). t.call) a.told_is, tt);
        takes = (ap (λ (t : Told). t.call.region) a.told_is, a.used_before ∙ same, sym used_is ∙ sym a.used_after);
        grows = let up = a.grows in omega (arith, up, same, used_is);
        conflicts = a.conflicts;
        later = a.later;
        stands = a.stands;
      }

  pub left_out : is_spent r.answer ≡ true → AddsSpent P Q B t.call (S h) n old.used
  left_out spent = by (is_spent r.answer) spent adds
    where
      by : (b : Bool) → b ≡ true → MatchBool b (AddsSpent P Q B t.call (S h) n after) Other → AddsSpent P Q B t.call (S h) n old.used
      by true is a = record { tried = a.tried; used_up = a.used_up; stands = a.stands; unused = sym same }
      by false is a = cc

-- what is known of words holds behind the calls of a lane: no call gives one back
pub over_more : (P : Program) (limits : Limits) (begins : Words → (ℕ → ℕ) → Type 0) (allows : Entry → Type 0) (used : ℕ) → limits.room.used ≤ used → IsOverStates P limits begins allows
    → IsOverStates P (limits_with limits used) begins allows
over_more P limits begins allows used grows over = record {
  begun = over.begun;
  reached = let r = over.reached in record { words = r.words; opened = r.opened; stand = r.stand; below = let low = r.below in omega (arith, low, grows) };
  explained = over.explained;
}

-- One turn of the loop over the calls.
module _ (S : List Entry → ℕ → Log → Log → Type 0) (room : Room) (at here : Place) (used : ℕ) (calls : List Known) (i : ℕ) (old new : Lane) (c : Known)
    (region : room.region ≡ suc at.lane) (place : here ≡ record at { first = at.first + i }) (count : old.made ≡ i) (less : i < length calls) (is : c ≡ get_or calls i c) where
  -- the call is that of the lane
  pub call_there : call_of room here c ≡ call_at at.phase at.lane (at.first + i) c
  call_there = λ j. record { phase = (place j).phase; lane = (place j).lane; index = (place j).first; method = c.method; args = c.args; region = region j }

  pub made_more : (first h : List Entry) (n : ℕ) → HasMade at used calls h old → (adds : AddsMade (call_of room here c) S first n old new)
      → HasMade at used calls (h ++ adds.added) new
  made_more first h n made adds =
      let At : ℕ → Type 0 = λ j. (j < length calls) × (c ≡ get_or calls j c) × (adds.told_of.call ≡ call_at at.phase at.lane (at.first + j) c) in
      let there : At i = (less, is, adds.of_call ∙ call_there) in
      let parts = subst At (sym count) there in
      lane_more at used calls h adds.added old new c adds.told_of new.used made parts.0 parts.1 parts.2 adds.record_is adds.are
      (subst (λ (m : ℕ). Takes m old.used adds.added new.used) region adds.takes) adds.grows

-- the call that is named is this one
pub same_call : (room other : Room) (here there : Place) (c d : Known) → other ≡ room → there ≡ here → d ≡ c → call_of room here c ≡ call_of other there d
same_call room other here there c d rooms places calls = rw (rooms, places, calls) refl
