use Rattle.std.proofs.Common.{sym, ap, ◌∙◌}
use Rattle.std.specs.List.{find}
use Rattle.std.proofs.lemmas.List.{append-nil}
use Rattle.objects.specs.linking.Superclasses.{super_name}
use Rattle.objects.specs.linking.Resolution.{interface_names}
use Rattle.hierarchy.specs.Places.{place_of}
use Rattle.resolution.proofs.Listing.{place_more}
use Rattle.resolution.proofs.ways.direct_of.Goals as goal
use Rattle.resolution.proofs.ways.direct_of.Goals.{in-Some+in_ok-push, in_default}

pub returns : goal.returns
returns c =
    let cs = c.args.places.now in
    let class = c.args.class.now in
    let before = c.in_ok-list.list.items in
    let found = ap (place_of cs) (sym c.super_name.ensures) ∙ sym c.place_of.ensures in
    elim c.match-place_of.branch [
      | in-Some+in_ok-push w ↦
          place_more cs before c.match-place_of.list.items (interface_names class) (super_name class) _ (found ∙ w.in-Some.is) c.in_ok-list.ensures
          (λ test. ap (find test) (ap (λ v. v.items) w.list-is ∙ w.in_ok-push.ensures.items))
      | in_default w ↦
          place_more cs before c.match-place_of.list.items (interface_names class) (super_name class) _ (found ∙ w.in_default.is) c.in_ok-list.ensures
          (λ test. ap (find test) (ap (λ v. v.items) w.list-is ∙ sym (append-nil before)))
    ]
