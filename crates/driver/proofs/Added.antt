-- A phase whose lanes were split off from a pass and joined to it, as what is added to a journal.
use Rattle.std.proofs.Common.{◌≡◌, ◌≤◌, ℕ, List, ◌++◌, length, map, ◌∙◌, ap}
use Rattle.std.specs.Prelude.{IsPermutation}
use Rattle.std.specs.List.Sorted.{IsSortedBy}
use Rattle.atomic_table.specs.Seated.{TableId}
use Rattle.tx_table.specs.Book.{Book}
use Rattle.jmodel.specs.history.Schedule.{Phase, Lanes}
use Rattle.tx_table.specs.declared.shared.Pass.{Pass}
use Rattle.tx_table.specs.Passes.{book}
use Rattle.session.specs.declared.record.Record.{Record}
use Rattle.driver.specs.declared.journal.Records.{Records}
use Rattle.driver.specs.declared.side.Part.{Part}
use Rattle.driver.specs.declared.side.Side.{Side}
use Rattle.driver.specs.Sides.{AreWhole, none_made, made_counts, unplaced_of, joined}
use Rattle.driver.specs.Order.{stands_before}
use Rattle.driver.specs.Over.{IsMadeOver, AddsPhase}
use Rattle.driver.specs.Passing.{call_count, IsMidway, IsResting}
use Rattle.driver.proofs.Phased.{itself, phase_over, placed_is, unplaced_is, order, rest_of}
use Rattle.driver.proofs.Resting.{whole_next}

pub phase_added : (t : TableId) (phase : ℕ) (b : Book) (lanes : Phase) (side : Side) (rest sorted : List Record) (behind : List Part) (q r : Pass) (old new : Records)
    → length lanes ≤ 16 → IsMidway t b phase lanes side q
    → IsResting t (book q) phase (call_count lanes) lanes (made_counts side.parts.items) rest behind r
    → AreWhole lanes (made_counts side.parts.items) behind → IsPermutation (side.placed.items ++ rest) sorted → IsSortedBy stands_before sorted
    → new.placed.items ≡ old.placed.items ++ sorted
    → new.unplaced.items ≡ old.unplaced.items ++ joined (unplaced_of side.parts.items) (unplaced_of behind)
    → AddsPhase phase (call_count lanes) (Lanes lanes) b (book r) old new
phase_added t phase b lanes side rest sorted behind q r old new few m k whole moved in_order placed unplaced =
    let j = m.joining in
    let parts = side.parts.items in
    let first = side.placed.items in
    let seen = b.seen in
    let later = (book r).seen in
    let added = (whole_next t phase b lanes (made_counts parts) side rest behind q r few m k).1 in
    let g : IsMadeOver phase lanes (none_made lanes) j.since first parts = record {
      tolds = j.gathered.tolds;
      parts_are = j.gathered.parts_are;
      history = j.gathered.history;
      placed_are = j.gathered.placed_are;
    } in
    record {
      entries = j.since ++ k.since;
      placed = map itself (order phase lanes j.since k.since seen later first rest sorted parts behind g k.over whole moved in_order added.stand_behind added.known);
      unplaced = rest_of phase lanes j.since k.since seen later first rest sorted parts behind g k.over whole moved in_order added.stand_behind added.known;
      adds = added;
      is_phase = phase_over phase lanes j.since k.since seen later first rest sorted parts behind g k.over whole moved in_order added.stand_behind added.known;
      placed_are = placed
          ∙ ap (λ (rs : List Record). old.placed.items ++ rs)
          (placed_is phase lanes j.since k.since seen later first rest sorted parts behind g k.over whole moved in_order added.stand_behind added.known);
      unplaced_are = unplaced
          ∙ ap (λ (rs : List Record). old.unplaced.items ++ rs)
          (unplaced_is phase lanes j.since k.since seen later first rest sorted parts behind g k.over whole moved in_order added.stand_behind added.known);
    }
