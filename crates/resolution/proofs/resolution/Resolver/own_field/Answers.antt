use Rattle.std.proofs.Common.{◌≡◌, ℕ, true, List, Option, Some, None, refl, sym, subst, ap, ◌∙◌}
use Rattle.std.specs.Prelude.{slice_get, option_map, option_and_then}
use Rattle.std.specs.List.{find}
use Rattle.jmodel.specs.declared.name.MethodName.{MethodName}
use Rattle.jmodel.specs.format.ClassFile.{Member, ClassFile}
use Rattle.objects.specs.linking.Members.{is_member}
use Rattle.objects.specs.linking.Classes.{Declared}
use Rattle.objects.specs.linking.Resolution.{has_name, fields_in}
use Rattle.hierarchy.specs.Names.{number_of}
use Rattle.resolution.specs.Ways.{some_class}
use Rattle.resolution.specs.Resolving.{member_key, AreFirsts, any_member}
use Rattle.resolution.proofs.Resolved.{own_found, passing}
use Rattle.resolution.proofs.resolution.Resolver.own_field.Goals as goal

pub returns-in_err-class : goal.returns-in_err-class
returns-in_err-class c =
    let none : slice_get c.args.self.now c.args.place ≡ None = sym c.class_at.ensures ∙ ap (option_map (λ k. k.now)) c.in_err-class.was in
    c.from_residual.ensures ∙ sym (ap (λ (o : Option ClassFile). find (has_name c.args.r.now) (fields_in (some_class o))) none)

pub returns : goal.returns
returns c =
    let cs = c.args.self.now in
    let r = c.args.r.now in
    let class = c.in_ok-class.class.now in
    let at : slice_get cs c.args.place ≡ Some class = sym c.class_at.ensures ∙ ap (option_map (λ k. k.now)) c.in_ok-class.was in
    let are = subst (λ (ds : List ClassFile). AreFirsts any_member (λ k. k.fields) ds c.self.inside.fields.items) c.self.view_is c.self.invariant.has_fields in
    let stands = are c.args.place class at in
    let number = c.number_in-number.ensures ∙ ap (λ (t : List (List (MethodName × ℕ))). option_and_then (λ numbers. number_of numbers (member_key r)) (slice_get t c.args.place)) c.as_slice.ensures.value
    ∙ ap (option_and_then (λ numbers. number_of numbers (member_key r))) stands.1 in
    let make : Member → Declared = λ m. record { class = class; member = m } in
    c.member_at.ensures ∙ ap (λ (ms : List Member). option_map make (option_and_then (slice_get ms) c.number_in-number.result)) (c.as_slice-2.ensures.value ∙ ap (λ (k : ClassFile). k.fields) c.class.view_is)
    ∙ ap (λ (o : Option ℕ). option_map make (option_and_then (slice_get class.fields) o)) number
    ∙ own_found any_member (has_name r) class class.fields r stands.0 stands.2 (λ m. sym (passing (is_member class.pool r.name r.descriptor m) true refl))
    ∙ sym (ap (λ (o : Option ClassFile). find (has_name r) (fields_in (some_class o))) at)
