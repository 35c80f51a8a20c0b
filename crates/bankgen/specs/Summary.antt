-- The summary of a run of a workload.
use Rattle.std.specs.Prelude.{ℕ, List, ◌++◌, codes}
use Rattle.std.specs.Fmt.{decimal}
use Rattle.jmodel.specs.declared.value.Answer.{Answer}
use Rattle.jmodel.specs.history.Output.{line, ◌and◌, answer_text}
use Rattle.bankgen.specs.declared.figures.Figures.{Figures}

-- the numbers of the workload and the engine
abbrev pub head_line : Figures → List ℕ → List ℕ
head_line f engine = line (codes "bank" and decimal f.seed and decimal f.accounts and decimal f.calls and decimal f.lanes and engine)

-- the same, how many calls stand in the history, how many ran out of memory, and a text of how the last call ended
abbrev pub summary_lines : Figures → (engine : List ℕ) → (placed unplaced : ℕ) → (answer : List ℕ) → List ℕ
summary_lines f engine placed unplaced answer =
    head_line f engine ++ line (codes "placed" and decimal placed) ++ line (codes "unplaced" and decimal unplaced) ++ line (codes "total" and answer)

abbrev pub summary_text : Figures → (engine : List ℕ) → (placed unplaced : ℕ) → Answer → List ℕ
summary_text f engine placed unplaced x = summary_lines f engine placed unplaced (answer_text x)
