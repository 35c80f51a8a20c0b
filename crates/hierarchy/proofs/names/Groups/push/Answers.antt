use Rattle.std.proofs.Common.{◌≡◌, ◌++◌, ◌∷◌, [], Bor, rules, sym, ap, ◌∙◌}
use Rattle.std.specs.Prelude.{map, if◌then◌else◌}
use Rattle.std.proofs.lemmas.List.{map-append}
use Rattle.objects.specs.linking.Classes.{Declared}
use Rattle.objects.specs.linking.Members.{is_name}
use Rattle.hierarchy.specs.Names.{named, group_of}
use Rattle.hierarchy.specs.declared.names.Key.{Key}
use Rattle.hierarchy.proofs.Keys.{group, group_with, seen, under}
use Rattle.hierarchy.proofs.names.Groups.push.Goals as goal

pub returns-in-Some : goal.returns-in-Some
returns-in-Some c = λ q.
    let k : Key = record { name = c.args.name; descriptor = c.args.descriptor; class = c.args.class } in
    let w = c.push.new.self in
    let updates = (c.get_mut.follows.holds w).3 (search rules) in
    let is = ap (map (λ (m : Bor Declared). m.now)) c.in_ok-push.ensures.items ∙ map-append (λ (m : Bor Declared). m.now) c.in-Some.group.now.items (c.args.method ∷ [])
    ∙ ap (λ o. group o ++ c.args.method.now ∷ []) c.in-Some.ensures.value in
    group_with k c.args.method w c.self.inside.methods.entries (c.get_mut.follows.lender w).entries is updates.0 q
    ∙ ap (λ groups. group_of groups q ++ (if is_name q (named c.args.class.now c.args.name.now c.args.descriptor.now) then c.args.method.now ∷ [] else [])) c.self.view_is

pub returns : goal.returns
returns c = λ q.
    let k : Key = record { name = c.args.name; descriptor = c.args.descriptor; class = c.args.class } in
    let w = c.in_ok-vec.field-0 in
    let old = c.get_mut.follows.lender-at-none.entries in
    let same : old ≡ c.self.inside.methods.entries = ap (λ m. m.entries) c.get_mut.follows.holds-at-none in
    let is = ap (map (λ (m : Bor Declared). m.now)) c.in_ok-vec.ensures.items ∙ ap (λ o. group o ++ c.args.method.now ∷ []) c.in_default.ensures.value in
    group_with k c.args.method w old c.insert.new.self.entries (is ∙ ap (λ es. group (under es k) ++ c.args.method.now ∷ []) (sym same)) c.in_ok-insert.ensures.updates.0 q
    ∙ ap (λ es. group_of (seen es) q ++ (if is_name q (named c.args.class.now c.args.name.now c.args.descriptor.now) then c.args.method.now ∷ [] else [])) same
    ∙ ap (λ groups. group_of groups q ++ (if is_name q (named c.args.class.now c.args.name.now c.args.descriptor.now) then c.args.method.now ∷ [] else [])) c.self.view_is
