use Rattle.std.proofs.Common.{ap, ◌∙◌}
use Rattle.heap_layout.specs.Library.{lineage_among}
use Rattle.heap_layout.proofs.LibraryRows.{lineage_is}
use Rattle.heap_layout.proofs.library_rows.library_lineage.Goals as goal

pub returns : goal.returns
returns c = c.in_ok-copies.ensures ∙ c.lineage_named.ensures ∙ ap (lineage_among c.args.name.now) c.lineages.ensures ∙ lineage_is c.args.name.now
