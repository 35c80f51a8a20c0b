use Rattle.std.proofs.Common.{ℕ, Bool, true, List, refl, sym, subst, ap, ◌∙◌}
use Rattle.std.specs.Prelude.{if◌then◌else◌}
use Rattle.std.proofs.lemmas.List.{take_all}
use Rattle.jmodel.specs.format.ClassFile.{Member}
use Rattle.objects.specs.linking.Members.{is_member}
use Rattle.hierarchy.specs.Names.{number_of}
use Rattle.hierarchy.specs.Numbers.{or_number}
use Rattle.resolution.specs.Resolving.{member_key, HasFirst, any_member}
use Rattle.resolution.proofs.Resolved.{first_more, passing}
use Rattle.resolution.proofs.resolution.numbers_of.Goals as goal

pub loop-number-preserved : goal.loop-number-preserved
loop-number-preserved c =
    let pool = c.args.pool.now in
    let i : ℕ = c.loop-number.number in
    let m = c.index-members-number.result in
    first_more any_member pool c.args.members.now i m c.loop-number.numbers c.note.new.numbers c.loop-number-test.true c.index-members-number.is c.loop-number.invariant
    (λ n. c.in_ok-note.ensures n
    ∙ ap (λ (b : Bool). if b then or_number (number_of c.loop-number.numbers (member_key n)) i else number_of c.loop-number.numbers (member_key n)) (sym (passing (is_member pool n.name n.descriptor m) true refl)))

pub returns : goal.returns
returns c = subst (λ (l : List Member). HasFirst any_member c.args.pool.now l c.loop-number.numbers) (take_all c.loop-number.number c.args.members.now c.loop-number-test.false) c.loop-number.invariant
