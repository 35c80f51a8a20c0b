use Rattle.std.proofs.Common.{◌≡◌, ℕ, ◌+◌, Option, sym, ap, ◌∙◌, arith}
use Rattle.std.specs.Prelude.{if◌then◌else◌, unwrap_or}
use Rattle.objects.specs.linking.Members.{is_name}
use Rattle.hierarchy.specs.Names.{named, count_of}
use Rattle.hierarchy.specs.declared.names.Key.{Key}
use Rattle.hierarchy.proofs.Keys.{number_is, counts, noted}
use Rattle.hierarchy.proofs.names.Numbers.count.Goals as goal

pub overflow_add-count : goal.overflow_add-count
overflow_add-count c =
    let k : Key = record { name = c.args.name; descriptor = c.args.descriptor; class = c.args.class } in
    let is : c.unwrap_or-count.result ≡ count_of c.args.self.now (named c.args.class.now c.args.name.now c.args.descriptor.now) =
    c.unwrap_or-count.ensures ∙ ap (λ (o : Option ℕ). unwrap_or o 0) (c.copied.ensures ∙ c.get.ensures.value ∙ sym (number_is k c.self.inside.numbers.entries))
    ∙ ap (λ numbers. count_of numbers (named c.args.class.now c.args.name.now c.args.descriptor.now)) c.self.view_is in
    omega (arith, is, c.requires)

pub returns : goal.returns
returns c = λ q.
    let k : Key = record { name = c.args.name; descriptor = c.args.descriptor; class = c.args.class } in
    let old = c.self.inside.numbers.entries in
    let is : c.unwrap_or-count.result + 1 ≡ count_of (noted old) (named c.args.class.now c.args.name.now c.args.descriptor.now) + 1 =
    ap (λ (n : ℕ). n + 1) (c.unwrap_or-count.ensures ∙ ap (λ (o : Option ℕ). unwrap_or o 0) (c.copied.ensures ∙ c.get.ensures.value ∙ sym (number_is k old))) in
    counts k (c.unwrap_or-count.result + 1) old c.insert.new.self.entries c.in_ok-insert.ensures.updates.0 is q
    ∙ ap (λ numbers. count_of numbers q + (if is_name q (named c.args.class.now c.args.name.now c.args.descriptor.now) then 1 else 0)) c.self.view_is
