use Rattle.std.proofs.Common.{List, ◌++◌, Bor, sym, ap, ◌∙◌}
use Rattle.std.specs.Prelude.{map}
use Rattle.std.specs.Option.{option_copied}
use Rattle.std.proofs.lemmas.List.{append-nil, map-append}
use Rattle.objects.specs.linking.Classes.{Declared}
use Rattle.hierarchy.specs.Names.{named, group_of}
use Rattle.hierarchy.specs.declared.names.Key.{Key}
use Rattle.hierarchy.proofs.Keys.{group, group_is}
use Rattle.hierarchy.proofs.names.Groups.append_to.Goals as goal

pub returns-in_ok-extend_from_slice : goal.returns-in_ok-extend_from_slice
returns-in_ok-extend_from_slice c =
    let k : Key = record { name = c.args.name; descriptor = c.args.descriptor; class = c.args.class } in
    let under = ap (λ groups. group_of groups (named c.args.class.now c.args.name.now c.args.descriptor.now)) (sym c.self.view_is) ∙ group_is k c.self.inside.methods.entries ∙ ap group (sym c.in-Some.ensures.value)
    ∙ ap (map (λ (m : Bor Declared). m.now)) (sym c.as_slice.ensures.value) in
    ap (map (λ (m : Bor Declared). m.now)) c.in_ok-extend_from_slice.ensures.items ∙ map-append (λ (m : Bor Declared). m.now) c.args.list.now.items c.as_slice.result.now
    ∙ ap (λ (l : List Declared). map (λ (m : Bor Declared). m.now) c.args.list.now.items ++ l) (sym under)

pub returns-in_default : goal.returns-in_default
returns-in_default c =
    let k : Key = record { name = c.args.name; descriptor = c.args.descriptor; class = c.args.class } in
    let under = ap (λ groups. group_of groups (named c.args.class.now c.args.name.now c.args.descriptor.now)) (sym c.self.view_is) ∙ group_is k c.self.inside.methods.entries ∙ ap group (sym c.get.ensures.value) in
    sym (append-nil (map (λ (m : Bor Declared). m.now) c.args.list.now.items)) ∙ ap (λ (l : List Declared). map (λ (m : Bor Declared). m.now) c.args.list.now.items ++ l) (sym (under ∙ ap (λ o. group (option_copied o)) c.in_default.is))
