use Rattle.std.proofs.Common.{ℕ, List, Bor, map, sym, ap, ◌∙◌}
use Rattle.heap_layout.specs.Library.{row_with}
use Rattle.heap_layout.proofs.LibraryRows.{map_twice, rows_are}
use Rattle.heap_layout.proofs.library_rows.library_rows.Goals as goal

pub returns : goal.returns
returns c =
    let seen : Bor (List (Bor (List ℕ))) → List (List ℕ) = λ l. map (λ n. n.now) l.now in
    c.in_ok-rows_with.ensures ∙ sym (map_twice row_with seen _) ∙ ap (map row_with) c.lineages.ensures ∙ rows_are
