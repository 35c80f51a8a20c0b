use Rattle.std.proofs.Common.{List, ap, ◌∙◌}
use Rattle.std.specs.Prelude.{slice_get, option_and_then}
use Rattle.jmodel.specs.format.ClassFile.{ClassFile}
use Rattle.hierarchy.proofs.Standing.{stands}
use Rattle.heap_layout.proofs.folder.Folder.class_named.Goals as goal

pub returns : goal.returns
returns c =
    c.class_at.ensures ∙ ap (λ (cs : List ClassFile). option_and_then (slice_get cs) c.place_of.result) c.self.view_is
    ∙ ap (option_and_then (slice_get c.args.self.now)) c.place_of.ensures ∙ stands c.args.self.now c.args.name.now
