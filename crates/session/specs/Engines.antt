-- The engine of a lane's calls over a table, of either kind.
use Rattle.std.specs.Prelude.{ℕ, List}
use Rattle.atomic_table.specs.Seated.{TableId}
use Rattle.jmodel.specs.history.Log.{Log}
use Rattle.jmodel.specs.history.History.{Entry}
use Rattle.tx_table.specs.Book.{Book}
use Rattle.tx_table.specs.declared.shared.Pass.{Pass}
use Rattle.tx_table.specs.declared.calling.Ruled as ruled
use Rattle.tx_table.specs.declared.shared.Story as story
use Rattle.tl2.specs.declared.attempt.Tl2.{Tl2}
use Rattle.tl2.specs.Standing.{Stands}
use Rattle.lsa.specs.declared.attempt.Lsa.{Lsa}
use Rattle.lsa.specs.Standing.{StandsFor}
use Rattle.engines.specs.declared.chosen.Chosen.{Chosen}
use Rattle.engines.specs.Chosen.{by_kind, MatchKind}

abbrev pub pass_of : {T C : Type 0} {R : ruled.Ghosts T} {S : story.Ghosts T} → Chosen (Tl2 T C R S) (Lsa T C R S) → Pass
pass_of e = by_kind (λ a. a.pass) (λ b. b.pass) e

abbrev pub named_by : {T C : Type 0} {R : ruled.Ghosts T} {S : story.Ghosts T} → Chosen (Tl2 T C R S) (Lsa T C R S) → C
named_by e = by_kind (λ a. a.call.value) (λ b. b.call.value) e

abbrev pub StandsIn : {T C : Type 0} {R : ruled.Ghosts T} {S : story.Ghosts T} → (TableId → Book → Type 0) → Chosen (Tl2 T C R S) (Lsa T C R S) → List Entry → ℕ → Log → Log → Type 0
StandsIn began e h n r w = MatchKind e
    (λ a. Stands began a.shared.now.words a.at a.writes.items a.pass h n r w)
    (λ b. StandsFor began b.shared.now.words b.at b.writes.items b.pass h n r w)
