use Rattle.std.proofs.Common.{rules, ◌≡◌, ℕ, List, length, map, Bor, sym, ap, ◌∙◌, arith}
use Rattle.std.specs.Prelude.{filter}
use Rattle.std.specs.List.{prefix_len}
use Rattle.std.proofs.lemmas.List.{length-map}
use Rattle.jmodel.specs.format.ClassFile.{Member}
use Rattle.objects.specs.linking.Members.{own_name}
use Rattle.rewriter.specs.Part.{Rest, is_of_class, wrapper_count}
use Rattle.rewriter.proofs.Lists.{taken_off}
use Rattle.rewriter.proofs.Splits.{wrappers_few, same_share, same_rest}
use Rattle.rewriter.proofs.share.Rest.split.Goals as goal

pub overflow_add-behind-2 : goal.overflow_add-behind-2
overflow_add-behind-2 c =
    let first = ap (λ (r : Rest). r.first) c.self.view_is in
    let wrapper = ap (λ (r : Rest). r.wrapper) c.self.view_is in
    let many = ap (λ (r : Rest). length r.methods) c.self.view_is in
    omega (arith, c.requires.room, c.requires.wrapper, first, wrapper, many, c.split_at-3.ensures.front_len, c.split_at-3.ensures.back_len, wrappers_few c.split_at-3.result.0.now, c.count_wrappers.ensures)

pub returns : goal.returns
returns c = λ part behind s.
    let class = c.args.class.now in
    let inside = c.self.inside in
    let members_now : c.as_slice.result.now ≡ c.args.class.now.methods = search rules in
    let mid : c.len.result ≡ length c.args.class.now.methods = search rules in
    let all : length (map part.is_taken c.args.class.now.methods) ≡ length c.args.class.now.methods = length-map _ _ in
    let flags = taken_off c.self.inside.flags.now (map part.is_taken c.args.class.now.methods) behind.flags c.len.result (ap (λ (r : Rest). r.flags) c.self.view_is ∙ s.flags) (mid ∙ sym all) in
    let own_flags = c.split_at.ensures.front ∙ flags.0 in
    let name : c.own_name.result.now ≡ own_name c.args.class.now = search rules in
    let counted = c.count_own.ensures.exact ∙ ap (λ (n : List ℕ). prefix_len (is_of_class n) c.self.inside.fields.now) name ∙ ap (λ (r : Rest). prefix_len (is_of_class (own_name c.args.class.now)) r.fields) c.self.view_is ∙ s.own in
    let fields = taken_off c.self.inside.fields.now part.fields behind.fields c.count_own.result (ap (λ (r : Rest). r.fields) c.self.view_is ∙ s.fields) counted in
    let members = c.in_ok-members.ensures part.is_taken (own_flags ∙ ap (map part.is_taken) (sym members_now)) ∙ ap (filter part.is_taken) members_now in
    let seen : length (map (λ (m : Bor Member). m.now) c.in_ok-members.members.items) ≡ length c.in_ok-members.members.items = length-map _ _ in
    let long : c.len-2.result ≡ length c.in_ok-members.members.items = search rules in
    let many : c.len-2.result ≡ length part.methods = omega (arith, long, seen, ap (λ (ms : List Member). length ms) members, s.members) in
    let methods = taken_off c.self.inside.methods.now part.methods behind.methods c.len-2.result (ap (λ (r : Rest). r.methods) c.self.view_is ∙ s.methods) many in
    let own_methods = c.split_at-3.ensures.front ∙ methods.0 in
    let first = ap (λ (r : Rest). r.first) c.self.view_is ∙ s.first in
    let wrapper = ap (λ (r : Rest). r.wrapper) c.self.view_is ∙ s.wrapper in
    let count = c.count_wrappers.ensures ∙ ap wrapper_count own_methods in (
      same_share _ _ members own_flags (c.split_at-2.ensures.front ∙ fields.0) own_methods first wrapper,
      same_rest _ _ (c.split_at.ensures.back ∙ flags.1) (c.split_at-2.ensures.back ∙ fields.1) (c.split_at-3.ensures.back ∙ methods.1) (omega (arith, first, ap length own_methods, s.first_behind)) (omega (arith, wrapper, count, s.wrapper_behind)),
    )
