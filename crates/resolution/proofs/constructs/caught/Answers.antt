use Rattle.std.proofs.Common.{ℕ, List, map, take, sym, subst}
use Rattle.std.specs.Prelude.{option_copied}
use Rattle.std.proofs.lemmas.List.{take_more}
use Rattle.jmodel.specs.declared.class_file.Handler.{Handler}
use Rattle.resolution.specs.Catching.{AreCaught}
use Rattle.resolution.proofs.constructs.caught.Goals as goal

-- what stands for an entry past the last
no_entry : Handler
no_entry = record { start = 0; end = 0; handler = 0; catch_type = 0 }

pub loop-entry-preserved : goal.loop-entry-preserved
unfolding no_entry
loop-entry-preserved c =
    let handlers = c.args.entries.now in
    let i : ℕ = c.loop-entry.entry-index in
    subst (λ (l : List Handler). AreCaught c.args.places.now c.args.pool.now l (map option_copied c.note_caught.new.names.items)) (sym (take_more handlers i no_entry c.loop-entry-test.true))
    (c.in_ok-note_caught.ensures (take i handlers) c.loop-entry.invariant)
