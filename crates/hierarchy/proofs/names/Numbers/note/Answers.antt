use Rattle.std.proofs.Common.{◌≡◌, Some, None, sym, ap, ◌∙◌}
use Rattle.std.specs.Prelude.{if◌then◌else◌, not}
use Rattle.objects.specs.linking.Members.{is_name}
use Rattle.hierarchy.specs.Names.{named, number_of}
use Rattle.hierarchy.specs.Numbers.{or_number}
use Rattle.hierarchy.specs.declared.names.Key.{Key}
use Rattle.hierarchy.proofs.Keys.{number_is, first, stays, noted, some_there, none_there}
use Rattle.hierarchy.proofs.names.Numbers.note.Goals as goal

pub returns-in_ok-insert : goal.returns-in_ok-insert
returns-in_ok-insert c = λ q.
    let k : Key = record { name = c.args.name; descriptor = c.args.descriptor; class = c.args.class } in
    let old = c.self.inside.numbers.entries in
    let none : number_of (noted old) (named c.args.class.now c.args.name.now c.args.descriptor.now) ≡ None = number_is k old ∙ sym c.get.ensures.value ∙ none_there c.get.result (c.is_none.ensures ∙ ap not c.if-is_none.true) in
    first k c.args.number old c.insert.new.self.entries c.in_ok-insert.ensures.updates.0 none q
    ∙ ap (λ numbers. if is_name q (named c.args.class.now c.args.name.now c.args.descriptor.now) then or_number (number_of numbers q) c.args.number else number_of numbers q) c.self.view_is

pub returns-else-is_none : goal.returns-else-is_none
returns-else-is_none c =
    let k : Key = record { name = c.args.name; descriptor = c.args.descriptor; class = c.args.class } in
    let old = c.self.inside.numbers.entries in
    let there = some_there c.get.result (c.is_none.ensures ∙ ap not c.if-is_none.false) in
    let under : number_of c.args.self.now (named c.args.class.now c.args.name.now c.args.descriptor.now) ≡ Some there.0 =
    ap (λ numbers. number_of numbers (named c.args.class.now c.args.name.now c.args.descriptor.now)) (sym c.self.view_is) ∙ number_is k old ∙ sym c.get.ensures.value ∙ there.1 in
    stays c.args.self.now (named c.args.class.now c.args.name.now c.args.descriptor.now) there.0 c.args.number under
