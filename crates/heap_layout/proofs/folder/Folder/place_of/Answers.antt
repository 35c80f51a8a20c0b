use Rattle.std.proofs.Common.{List, ap, ◌∙◌}
use Rattle.jmodel.specs.format.ClassFile.{ClassFile}
use Rattle.hierarchy.specs.Places.{place_of}
use Rattle.heap_layout.proofs.Places.{got}
use Rattle.heap_layout.proofs.folder.Folder.place_of.Goals as goal

pub returns : goal.returns
returns c =
    c.copied.ensures ∙ c.get.ensures.value ∙ got c.args.name.now c.self.inside.own.entries ∙ c.self.invariant c.args.name.now
    ∙ ap (λ (cs : List ClassFile). place_of cs c.args.name.now) c.self.view_is
