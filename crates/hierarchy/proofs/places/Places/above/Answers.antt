use Rattle.std.proofs.Common.{ℕ, List, Option, sym, ap, ◌∙◌}
use Rattle.std.specs.Prelude.{slice_get, option_and_then}
use Rattle.std.specs.Option.{option_flatten}
use Rattle.jmodel.specs.format.ClassFile.{ClassFile}
use Rattle.objects.specs.linking.Superclasses.{super_name}
use Rattle.hierarchy.specs.Places.{place_of, place_above}
use Rattle.hierarchy.proofs.InOrder.{seen}
use Rattle.hierarchy.proofs.Parts.{got}
use Rattle.hierarchy.proofs.ClassPlaces.{up, flat}
use Rattle.hierarchy.proofs.places.Places.above.Goals as goal

pub returns : goal.returns
returns c =
    let cs = seen c.self.inside.classes.now in
    let place : ℕ = c.in_ok-place.field-0 in
    let there = got c.deref.result.now place c.get.result c.get.ensures.lookup.0 c.get.ensures.lookup.1 in
    c.flatten.ensures ∙ ap option_flatten (c.copied.ensures ∙ there ∙ ap (λ (l : List (Option ℕ)). slice_get l place) c.deref.ensures.value ∙ up cs c.self.inside.above.items place c.self.invariant.above)
    ∙ flat (λ (k : ClassFile). place_of cs (super_name k)) (slice_get cs place)
    ∙ ap (λ (cs : List ClassFile). place_above cs place) c.self.view_is ∙ sym (ap (option_and_then (place_above c.args.self.now)) c.in_ok-place.was)
