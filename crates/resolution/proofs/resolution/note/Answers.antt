use Rattle.std.proofs.Common.{ℕ, Bool, List, [], sym, ap, ◌∙◌}
use Rattle.std.specs.Prelude.{option_copied, if◌then◌else◌}
use Rattle.jmodel.specs.format.ClassFile.{Member}
use Rattle.jmodel.specs.format.Pool.{utf8}
use Rattle.objects.specs.linking.Members.{is_name}
use Rattle.hierarchy.specs.Names.{named, number_of}
use Rattle.hierarchy.specs.Numbers.{or_number}
use Rattle.resolution.specs.Resolving.{member_key}
use Rattle.resolution.proofs.Resolved.{is_both}
use Rattle.resolution.proofs.resolution.note.Goals as goal

pub returns : goal.returns
returns c = λ n.
    let pool = c.args.pool.now in
    let name = c.in-Some.name.now in
    let descriptor = c.in-Some-utf8.descriptor.now in
    let first = sym (ap (λ (m : Member). utf8 pool m.name) c.member.view_is) ∙ sym c.utf8-2.ensures ∙ ap option_copied c.in-Some.is in
    let second = sym (ap (λ (m : Member). utf8 pool m.descriptor) c.member.view_is) ∙ sym c.utf8-2-2.ensures ∙ ap option_copied c.in-Some-utf8.is in
    c.in_ok-note.ensures (member_key n)
    ∙ ap (λ (b : Bool). if b then or_number (number_of c.args.numbers.now (member_key n)) c.args.number else number_of c.args.numbers.now (member_key n))
    (ap (λ (t : List ℕ). is_name (member_key n) (named [] t c.as_slice-2.result.now)) c.as_slice.ensures ∙ ap (λ (t : List ℕ). is_name (member_key n) (named [] name t)) c.as_slice-2.ensures
    ∙ is_both pool c.args.member.now n name descriptor first second)
