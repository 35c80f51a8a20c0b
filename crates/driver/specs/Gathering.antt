-- What is gathered of the lanes of a phase, once their threads have ended.
use Rattle.std.specs.Prelude.{◌≡◌, ℕ, List, map, filter, IsPermutation}
use Rattle.std.specs.List.{flat_map}
use Rattle.jmodel.specs.history.History.{Entry, Told, told}
use Rattle.jmodel.specs.history.Schedule.{Phase}
use Rattle.session.specs.declared.record.Record.{Record}
use Rattle.session.specs.Lane.{is_placed, record_of}
use Rattle.driver.specs.declared.side.Part.{Part}
use Rattle.driver.specs.Sides.{AreParts, none_made}

-- Lanes were run from their first calls on. These are the entries that they added, and what is kept of their calls, lane by lane.
pub record IsGathered (phase : ℕ) (lanes : Phase) (entries : List Entry) (placed : List Record) (parts : List Part) : Type 0 where
  pub tolds : List (List Told)
  pub parts_are : AreParts phase 0 lanes (none_made lanes) tolds parts
  pub history : IsPermutation (map told entries) (flat_map (filter is_placed) tolds)
  pub placed_are : placed ≡ map record_of (flat_map (filter is_placed) tolds)
