use Rattle.std.proofs.Common.{◌≡◌, List, Some, refl, sym, ap, ◌∙◌}
use Rattle.std.specs.Prelude.{option_map}
use Rattle.jmodel.specs.format.ClassFile.{ClassFile}
use Rattle.objects.specs.linking.Members.{own_name}
use Rattle.objects.specs.linking.Superclasses.{class_named, lineage}
use Rattle.hierarchy.proofs.Parts.{same_bytes}
use Rattle.hierarchy.proofs.Standing.{stands}
use Rattle.hierarchy.proofs.Upward.{same_place}
use Rattle.hierarchy.specs.Places.{place_of}
use Rattle.heap_layout.proofs.folder.Folder.lineage.Goals as goal

pub returns-in_ok-lineage-in-Some : goal.returns-in_ok-lineage-in-Some
returns-in_ok-lineage-in-Some c =
    let cs = c.args.self.now in
    let name = c.args.name.now in
    let class = c.in-Some.class.now in
    let is : class_named cs name ≡ Some class = sym c.class_named.ensures ∙ ap (option_map (λ k. k.now)) c.in-Some.is in
    let own : own_name class ≡ name = same_bytes (own_name class) name (same_place cs (place_of cs name) class name (stands cs name ∙ is) refl) in
    c.in_ok-lineage-in-Some.ensures ∙ ap (λ (l : List ClassFile). lineage l c.own_name.result.now) c.self.view_is ∙ ap (lineage cs) (c.own_name.ensures ∙ own)
