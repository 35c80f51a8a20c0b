-- An engine of either kind rests on its pass between calls.
use Rattle.std.proofs.Common.{ℕ, List}
use Rattle.atomic_table.specs.Seated.{TableId}
use Rattle.jmodel.specs.history.Log.{Log}
use Rattle.jmodel.specs.history.History.{Entry}
use Rattle.tx_table.specs.Book.{Book}
use Rattle.tx_table.specs.declared.calling.Ruled as ruled
use Rattle.tx_table.specs.declared.shared.Story as story
use Rattle.tl2.specs.declared.attempt.Tl2.{Tl2}
use Rattle.lsa.specs.declared.attempt.Lsa.{Lsa}
use Rattle.engines.specs.declared.chosen.Chosen.{Chosen}
use Rattle.engines.specs.declared.chosen.Chosen.TheVariants as kinds
use Rattle.engines.specs.Chosen.{Rests}
use Rattle.session.specs.Engines.{pass_of, StandsIn}

pub rests : {T C : Type 0} {R : ruled.Ghosts T} {S : story.Ghosts T} (began : TableId → Book → Type 0) (e : Chosen (Tl2 T C R S) (Lsa T C R S)) (h : List Entry) (n : ℕ) (r w : Log) → StandsIn began e h n r w → Rests began (pass_of e) h n
rests began (kinds.Tl2 a) h n r w s = record { entries = s.entries; lost = s.lost; keeps = s.keeps }
rests began (kinds.Lsa b) h n r w s = record { entries = s.stands.entries; lost = s.stands.lost; keeps = s.stands.keeps }
