use Rattle.std.proofs.Common.{ℕ, ◌≡◌, ◌<◌, refl}
use Rattle.tx_table.specs.Passes.{book}
use Rattle.driver.specs.Stories.{story_of}
use Rattle.driver.specs.Passing.{used_of, IsWhole, IsUnused}
use Rattle.driver.proofs.Lists.{on_kept}
use Rattle.driver.proofs.Passing.{whole_first}
use Rattle.driver.proofs.table.open_table.Goals as goal

pub returns-clause-pass : goal.returns-clause-pass
returns-clause-pass g c =
    on_kept c.open.result c.map_err.result _ _ (λ r. IsWhole r.0.table.shared.table_id 0 r.1 × IsUnused (book r.1))
    (λ r opened. let first = whole_first r.0.table.shared.table_id (story_of g.K.Keeping.rule g.K.Keeping.words g.K.Keeping.used) g.K.Keeping.used r.1 opened.0 opened.1 refl in (first.0, first.1))
    c.map_err.ensures.cases c.open.ensures

pub returns-clause-unused : goal.returns-clause-unused
returns-clause-unused g c =
    on_kept c.open.result c.map_err.result _ _ (λ r. (lane : ℕ) → lane < 16 → used_of (book r.1) lane ≡ 0)
    (λ r opened. (whole_first r.0.table.shared.table_id (story_of g.K.Keeping.rule g.K.Keeping.words g.K.Keeping.used) g.K.Keeping.used r.1 opened.0 opened.1 refl).2)
    c.map_err.ensures.cases c.open.ensures
