-- What a phase's lanes left, made over the pass that holds every number, and the pass behind the phase.
use Rattle.std.proofs.Common.{◌≡◌, ◌≢◌, ◌<◌, ◌≤◌, ℕ, suc, ◌+◌, List, [], ◌∷◌, ◌++◌, length, map, reverse, drop, get_or, ⊎_elim, refl, sym, ap, ◌∙◌, subst, append_assoc, arith}
use Rattle.std.specs.Prelude.{filter, IsPermutation}
use Rattle.std.specs.List.{flat_map}
use Rattle.std.proofs.lemmas.List.{length_push, length-drop, map-append, flat_map_more}
use Rattle.std.proofs.lemmas.List.Sorted.{IsPermutation-refl, IsPermutation-sym, IsPermutation-reverse, IsPermutation-map, IsPermutation-append, IsPermutation-append_comm, IsPermutation-trans}
use mathlib.Core.Logic.{dite}
use native.Mathlib.Decide.{ℕ_discrete}
use Rattle.atomic_table.specs.Seated.{TableId}
use Rattle.jmodel.specs.history.History.{Entry, Told, told}
use Rattle.tx_table.specs.Book.{Book, In, lookup}
use Rattle.jmodel.specs.history.Schedule.{Known, Phase}
use Rattle.tx_table.specs.declared.shared.Pass.{Pass}
use Rattle.tx_table.specs.Passes.{book}
use Rattle.tl2.specs.Standing.{IsBehind}
use Rattle.session.specs.declared.record.Lane.{Lane}
use Rattle.session.specs.declared.record.Place.{Place}
use Rattle.session.specs.declared.record.Record.{Record}
use Rattle.session.specs.Lane.{is_placed, record_of, HasMade}
use Rattle.session.specs.Passes.{IsEnding}
use Rattle.driver.specs.declared.side.Part.{Part}
use Rattle.driver.specs.declared.side.Side.{Side}
use Rattle.driver.specs.Over.{IsMadeOver, HasAdded}
use Rattle.driver.specs.Sides.{IsPart, made_counts}
use Rattle.driver.specs.Passing.{MayGoOn, first_of, call_count, IsWhole, IsJoining, IsMidway, IsResting}
use Rattle.driver.proofs.More.{parts_more}
use Rattle.driver.proofs.Gathering.{part_of}
use Rattle.driver.proofs.Passing.{may_begin_as, may_begin_later, goes_on_from, other_regions, in_either, by_order}

-- What stands behind a later value of the clock stands behind an earlier one.
pub behind_before : (a b : ℕ) (e : Entry) → a ≤ b → IsBehind b e → IsBehind a e
behind_before a b e on is = let least = is.0 in (omega (arith, on, least), λ update. let over = is.1 update in omega (arith, on, over))

-- the calls of one lane more, from a place on
over_next : (phase first : ℕ) (lanes : Phase) (firsts : List ℕ) (es made : List Entry) (placed : List Record) (parts : List Part) (cs : List Known) (h : List Entry)
    (lane : Lane) → IsMadeOver phase lanes firsts es placed parts
    → (before : ℕ) → HasMade (record { phase = phase; lane = length lanes; first = first }) before (drop first cs) h lane → first ≤ length cs → made ≡ reverse h
    → IsMadeOver phase (lanes ++ cs ∷ []) (firsts ++ first ∷ []) (made ++ es) (placed ++ lane.placed.items) (parts ++ part_of lane ∷ [])
over_next phase first lanes firsts es made placed parts cs h lane g before has within is =
    let ts = has.tolds in
    let all : flat_map (filter is_placed) g.tolds ++ filter is_placed ts ≡ flat_map (filter is_placed) (g.tolds ++ ts ∷ []) =
    flat_map_more (filter is_placed) [] g.tolds ts in
    let long = length-drop first cs in
    let Here : ℕ → Type 0 = λ n. IsPart phase n first cs ts (part_of lane) in
    let at_end : length lanes ≡ 0 + length lanes = omega arith in
    let mine : IsPermutation (map told made) (filter is_placed ts) =
    subst (IsPermutation (map told made)) has.history
    (IsPermutation-map told made h (subst (λ (es : List Entry). IsPermutation es h) (sym is) (IsPermutation-sym h (reverse h) (IsPermutation-reverse h)))) in
    let both : IsPermutation (map told es ++ map told made) (flat_map (filter is_placed) g.tolds ++ filter is_placed ts) =
    IsPermutation-append (map told es) (flat_map (filter is_placed) g.tolds) (map told made) (filter is_placed ts) g.history mine in
    let moved : IsPermutation (map told (made ++ es)) (map told es ++ map told made) =
    subst (λ (xs : List Told). IsPermutation xs (map told es ++ map told made)) (sym (map-append told made es)) (IsPermutation-append_comm (map told made) (map told es)) in
    record {
      tolds = g.tolds ++ ts ∷ [];
      parts_are = parts_more phase 0 first cs ts (part_of lane) lanes firsts g.tolds parts g.parts_are
          (subst Here at_end (record {
            within = let few = has.within in omega (arith, few, long, within);
            calls_are = has.calls_are;
            unplaced_are = has.unplaced_are;
          }));
      history = subst (IsPermutation (map told (made ++ es))) all
          (IsPermutation-trans (map told (made ++ es)) (map told es ++ map told made) (flat_map (filter is_placed) g.tolds ++ filter is_placed ts) moved both);
      placed_are = ap (λ (xs : List Record). xs ++ lane.placed.items) g.placed_are
          ∙ ap (λ (xs : List Record). map record_of (flat_map (filter is_placed) g.tolds) ++ xs) has.placed_are
          ∙ sym (map-append record_of (flat_map (filter is_placed) g.tolds) (filter is_placed ts)) ∙ ap (map record_of) all;
    }

-- The calls of one lane more that were left are made.
pub rests_next : (t : TableId) (b : Book) (phase calls count first : ℕ) (lanes : Phase) (firsts : List ℕ) (cs : List Known) (placed : List Record)
    (parts : List Part) (lane : Lane) (h : List Entry) (p q : Pass) → IsResting t b phase calls lanes firsts placed parts p
    → (before : ℕ) → HasMade (record { phase = phase; lane = length lanes; first = first }) before (drop first cs) h lane → first ≤ length cs
    → (used : ℕ) → IsEnding t (book p) (record { phase = phase; lane = length lanes; first = first }) count lane.made used h q
    → IsResting t b phase (calls + count) (lanes ++ cs ∷ []) (firsts ++ first ∷ []) (placed ++ lane.placed.items) (parts ++ part_of lane ∷ []) q
rests_next t b phase calls count first lanes firsts cs placed parts lane h p q r before_used has within used ending =
    let n = length lanes in
    let at : Place = record { phase = phase; lane = n; first = first } in
    let since = ending.since in
    let more : length (lanes ++ cs ∷ []) ≡ n + 1 = length_push lanes cs in
    let as_before : (k : ℕ) → k ≢ n → lookup (book q).regions (suc k) ≡ lookup (book p).regions (suc k) =
    λ k apart. other_regions t (book p) at before_used count lane.made used (drop first cs) lane h q ending has (suc k) (λ e. apart (omega (arith, e))) in
    record {
      seated = ending.seated;
      numbers = since.numbers ∙ r.numbers;
      fresh = since.fresh ∙ r.fresh;
      ticks = let few = ending.ticks in let before = r.ticks in omega arith;
      on = let before = r.on in let now = since.seen in omega arith;
      since = since.made ++ r.since;
      entries = since.entries ∙ ap (λ (es : List Entry). since.made ++ es) r.entries ∙ sym (append_assoc since.made r.since b.entries);
      over = over_next phase first lanes firsts r.since since.made placed parts cs h lane r.over before_used has within ending.entries;
      stand_behind = λ e i. ⊎_elim (λ (l : In e since.made). behind_before b.seen (book p).seen e r.on (since.behind e l))
          (λ (l : In e r.since). r.stand_behind e l) (in_either e since.made r.since i);
      known = λ e i. ⊎_elim (λ (l : In e since.made). since.known e l)
          (λ (l : In e r.since). let k = r.known e l in let now = since.seen in omega (arith, k, now)) (in_either e since.made r.since i);
      waits = λ k past. as_before k (λ e. absurd (omega (arith, e, more, past))) ∙ r.waits k (omega (arith, more, past));
      later = λ k low. dite (ℕ_discrete k n)
          (λ (e : k ≡ n). subst (λ (i : ℕ). MayGoOn (first_of (suc phase) i) (book q)) (sym e)
          (may_begin_later phase (suc phase) n (first + lane.made) (book q) (omega arith) (goes_on_from (record { phase = phase; lane = n; first = first + lane.made }) used (book q) ending.next).0))
          (λ (apart : k ≢ n). may_begin_as (first_of (suc phase) k) (book p) (book q) (sym (as_before k apart)) (r.later k low));
    }

-- When all passes are back, the calls of the next phase may begin.
later_again : (t : TableId) (b : Book) (phase all calls : ℕ) (lanes : Phase) (placed : List Record) (parts : List Part) (p : Pass)
    → IsJoining t b phase all calls lanes placed parts p → length lanes ≡ all → ((lane : ℕ) → lane < 16 → MayGoOn (first_of phase lane) b)
    → (lane : ℕ) → lane < 16 → MayGoOn (first_of (suc phase) lane) (book p)
later_again t b phase all calls lanes placed parts p j whole begins k low =
    by_order k (length lanes)
    (λ under. may_begin_later phase (suc phase) k (0 + get_or (made_counts parts) k 0) (book p) (omega arith) (j.back k under))
    (λ over. may_begin_later phase (suc phase) k 0 (book p) (omega arith)
    (may_begin_as (first_of phase k) b (book p) (sym (j.kept k (omega (arith, whole, over)))) (begins k low)))

-- nothing was made yet of what was left
pub rests_first : (t : TableId) (b : Book) (phase all calls : ℕ) (lanes : Phase) (placed : List Record) (parts : List Part) (p : Pass)
    → IsJoining t b phase all calls lanes placed parts p → length lanes ≡ all → ((lane : ℕ) → lane < 16 → MayGoOn (first_of phase lane) b)
    → IsResting t (book p) phase 0 [] [] [] [] p
rests_first t b phase all calls lanes placed parts p j whole begins = record {
  seated = j.seated;
  numbers = refl;
  fresh = refl;
  ticks = omega arith;
  on = omega arith;
  since = [];
  entries = refl;
  over = record { tolds = []; parts_are = tt; history = IsPermutation-refl []; placed_are = refl };
  stand_behind = λ e i. absurd i;
  known = λ e i. absurd i;
  waits = λ lane past. refl;
  later = later_again t b phase all calls lanes placed parts p j whole begins;
}

-- the same after no more calls than these
pub rests_within : (t : TableId) (b : Book) (phase calls more : ℕ) (lanes : Phase) (firsts : List ℕ) (placed : List Record) (parts : List Part) (p : Pass)
    → calls ≤ more → IsResting t b phase calls lanes firsts placed parts p → IsResting t b phase more lanes firsts placed parts p
rests_within t b phase calls more lanes firsts placed parts p few r = record {
  seated = r.seated;
  numbers = r.numbers;
  fresh = r.fresh;
  ticks = let e = r.ticks in omega arith;
  on = r.on;
  since = r.since;
  entries = r.entries;
  over = r.over;
  stand_behind = r.stand_behind;
  known = r.known;
  waits = r.waits;
  later = r.later;
}

-- The pass behind a phase, and what the phase added.
pub whole_next : (t : TableId) (phase : ℕ) (b : Book) (lanes : Phase) (firsts : List ℕ) (side : Side) (rest : List Record) (behind : List Part) (q r : Pass)
    → length lanes ≤ 16 → (m : IsMidway t b phase lanes side q) → (k : IsResting t (book q) phase (call_count lanes) lanes firsts rest behind r)
    → IsWhole t (suc phase) r × HasAdded (call_count lanes) b (book r) (m.joining.since ++ k.since)
whole_next t phase b lanes firsts side rest behind q r few m k =
    let j = m.joining in
    let numbers : (book q).numbers ≡ b.numbers = (let e = j.numbers in omega arith) in (
      record {
        seated = k.seated;
        numbers = k.numbers ∙ numbers ∙ m.numbers;
        begins = k.later;
      },
      record {
        fresh = let e = k.fresh in let f = j.fresh in omega arith;
        few = let e = k.fresh in let f = j.few in omega arith;
        ticks = let e = k.ticks in let f = j.ticks in omega arith;
        entries = subst (λ (es : List Entry). IsPermutation es (b.entries ++ (j.since ++ k.since))) (sym k.entries)
            (subst (λ (es : List Entry). IsPermutation (k.since ++ es) (b.entries ++ (j.since ++ k.since))) (sym j.entries)
            (subst (IsPermutation (k.since ++ (b.entries ++ j.since))) (append_assoc b.entries j.since k.since)
            (IsPermutation-append_comm k.since (b.entries ++ j.since))));
        on = let e = j.on in let f = k.on in omega arith;
        stand_behind = λ e i. ⊎_elim (λ (l : In e j.since). j.stand_behind e l)
            (λ (l : In e k.since). behind_before b.seen (book q).seen e j.on (k.stand_behind e l)) (in_either e j.since k.since i);
        known = λ e i. ⊎_elim (λ (l : In e j.since). let a = j.known e l in let f = k.on in omega (arith, a, f)) (λ (l : In e k.since). k.known e l)
            (in_either e j.since k.since i);
      },
    )
