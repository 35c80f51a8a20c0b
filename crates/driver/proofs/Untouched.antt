-- A phase of which no call was made.
use Rattle.std.proofs.Common.{◌≡◌, ◌≤◌, ◌+◌, ℕ, zero, suc, List, [], ◌∷◌, length, take, drop, get_or, map, All, append-nil, refl, sym, ◌∙◌, ap, subst, arith}
use Rattle.std.specs.Prelude.{◌<◌, filter, IsPermutation, slice_index_or}
use Rattle.std.specs.List.{flat_map}
use Rattle.std.proofs.lemmas.List.Elements.{All-head, All-tail}
use Rattle.std.proofs.lemmas.List.Sorted.{IsPermutation-refl}
use Rattle.atomic_table.specs.Seated.{TableId}
use Rattle.jmodel.specs.history.History.{Told}
use Rattle.jmodel.specs.history.Schedule.{Known, Phase, lane_calls}
use Rattle.tx_table.specs.declared.shared.Pass.{Pass}
use Rattle.tx_table.specs.Passes.{book}
use Rattle.session.specs.Lane.{is_placed, record_of}
use Rattle.driver.specs.declared.side.Part.{Part}
use Rattle.driver.specs.declared.side.Side.{Side}
use Rattle.driver.specs.Sides.{AreParts, none_made, made_counts}
use Rattle.driver.specs.Passing.{used_of, MayGoOn, call_count, HasRoom, IsWhole, IsMidway}

-- no call was made of a lane
abbrev pub IsNone : Part → Type 0
IsNone r = (r.made ≡ 0) × (r.unplaced.items ≡ [])

abbrev nothing : Phase → List (List Told)
nothing ls = map (λ (cs : List Known). []) ls

parts_of : (phase lane : ℕ) (ls : Phase) (rs : List Part) → length rs ≡ length ls → All IsNone rs → AreParts phase lane ls (none_made ls) (nothing ls) rs
parts_of phase lane [] [] e h = tt
parts_of phase lane [] (r ∷ rs) e h = absurd (omega (arith, e))
parts_of phase lane (cs ∷ ls) [] e h = absurd (omega (arith, e))
parts_of phase lane (cs ∷ ls) (r ∷ rs) e h =
    let none = All-head IsNone r rs h in (
      record {
        within = omega (arith, none.0);
        calls_are = sym (ap (λ n. lane_calls phase lane 0 (take n (drop 0 cs))) none.0);
        unplaced_are = none.1;
      },
      parts_of phase (suc lane) ls rs (omega (arith, e)) (All-tail IsNone r rs h),
    )

no_calls : (ls : Phase) → flat_map (filter is_placed) (nothing ls) ≡ []
no_calls [] = refl
no_calls (cs ∷ ls) = no_calls ls

none_count : (rs : List Part) (lane : ℕ) → All IsNone rs → get_or (made_counts rs) lane 0 ≡ 0
none_count [] lane h = refl
none_count (r ∷ rs) zero h = (All-head IsNone r rs h).0
none_count (r ∷ rs) (suc lane) h = none_count rs lane (All-tail IsNone r rs h)

-- a phase that goes on as it began
pub untouched_side : (t : TableId) (phase : ℕ) (lanes : Phase) (side : Side) (p : Pass) → side.placed.items ≡ [] → length side.parts.items ≡ length lanes
    → All IsNone side.parts.items → ((lane : ℕ) (d : Part) → lane < length lanes → (slice_index_or side.parts.items lane d).used ≡ used_of (book p) lane) → IsWhole t phase p → HasRoom (call_count lanes) (book p) → length lanes ≤ 16 → IsMidway t (book p) phase lanes side p
untouched_side t phase lanes side p placed same none used w room few = record {
  numbers = w.numbers;
  room = room;
  begins = w.begins;
  joining = record {
    seated = w.seated;
    numbers = refl;
    fresh = omega arith;
    few = omega arith;
    ticks = omega arith;
    on = omega arith;
    since = [];
    entries = sym (append-nil (book p).entries);
    gathered = record {
      tolds = nothing lanes;
      parts_are = parts_of phase 0 lanes side.parts.items same none;
      history = subst (IsPermutation []) (sym (no_calls lanes)) (IsPermutation-refl []);
      placed_are = placed ∙ ap (map record_of) (sym (no_calls lanes));
    };
    stand_behind = λ e i. absurd i;
    known = λ e i. absurd i;
    back = λ lane low.
        let none_made : 0 ≡ 0 + get_or (made_counts side.parts.items) lane 0 = (let z = none_count side.parts.items lane none in omega arith) in
        subst (λ (n : ℕ). MayGoOn (record { phase = phase; lane = lane; first = n }) (book p)) none_made (w.begins lane (omega arith));
    used = used;
    gone = λ lane high low. absurd (omega (arith, high, low));
    kept = λ lane any. refl;
  };
}
