-- A pass and its table.
use Rattle.std.specs.Prelude.{◌≡◌, ◌≤◌, true}
use Rattle.atomic_table.specs.Seated.{TableId}
use Rattle.tx_table.specs.Book.{Book, Unticked}
use Rattle.tx_table.specs.declared.shared.Pass.{Pass}

-- what the pass knows
abbrev pub book : Pass → Book
book p = p.seat.me.0

-- the pass is one of the table's
abbrev pub IsOf : TableId → Pass → Type 0
IsOf t p = p.seat.table_id ≡ t

-- the same pass, before and after a step
abbrev pub IsSame : Pass → Pass → Type 0
IsSame p q = (q.seat.table_id ≡ p.seat.table_id) × (q.seat.id ≡ p.seat.id)

-- The bound that the pass steps with is the one of its book, and no extension is open: the reads hold up to the bound, and none is to be
-- validated up to a goal over it.
abbrev pub IsSettled : Pass → Type 0
IsSettled p = (p.bound ≡ (book p).bound) × ((book p).live ≡ true → (book p).face.stage ≡ Unticked → (book p).goal ≤ (book p).bound)

-- the same pass between attempts: its number, its stripes, its regions, and what it may hand on
abbrev pub IsKin : Book → Book → Type 0
IsKin v w = (w.face ≡ v.face) × (w.numbers ≡ v.numbers) × (w.fresh ≡ v.fresh) × (w.ticks ≡ v.ticks) × (w.regions ≡ v.regions)
