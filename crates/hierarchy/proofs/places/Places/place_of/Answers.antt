use Rattle.std.proofs.Common.{List, ap, ◌∙◌}
use Rattle.jmodel.specs.format.ClassFile.{ClassFile}
use Rattle.hierarchy.specs.Places.{place_of}
use Rattle.hierarchy.proofs.InOrder.{seen}
use Rattle.hierarchy.proofs.ClassPlaces.{found}
use Rattle.hierarchy.proofs.places.Places.place_of.Goals as goal

pub returns : goal.returns
returns c =
    let cs = seen c.self.inside.classes.now in
    c.get.ensures ∙ found cs c.self.inside.own c.self.invariant.own c.args.name.now ∙ ap (λ (cs : List ClassFile). place_of cs c.args.name.now) c.self.view_is
