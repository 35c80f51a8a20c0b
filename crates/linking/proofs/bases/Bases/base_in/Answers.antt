use Rattle.std.proofs.Common.{ℕ, List, get_or, Option, ap, ◌∙◌}
use Rattle.std.specs.Prelude.{unwrap_or}
use Rattle.jmodel.specs.format.ClassFile.{ClassFile}
use Rattle.hierarchy.specs.Places.{place_of}
use Rattle.objects.specs.linking.Linking.{base_in}
use Rattle.linking.proofs.BasePlaces.{base_is}
use Rattle.linking.proofs.bases.Bases.base_in.Goals as goal

pub returns : goal.returns
returns c =
    let cs = c.self.inside.places in
    let name = c.args.name.now in
    let is = c.unwrap_or-place.ensures ∙ ap (λ (o : Option ℕ). unwrap_or o c.len.result) c.place_of.ensures ∙ ap (λ (n : ℕ). unwrap_or (place_of cs name) n) c.len.ensures in
    ap (λ (l : List ℕ). get_or l c.unwrap_or-place.result 0) c.as_slice-bases.ensures.value ∙ base_is c.self.inside.bases.items cs name c.unwrap_or-place.result c.self.invariant is ∙ ap (λ (ds : List ClassFile). base_in ds name) c.self.view_is
