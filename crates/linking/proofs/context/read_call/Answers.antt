use Rattle.std.proofs.Common.{rules, ◌≡◌, Option, Some, None, sym, ap, ◌∙◌}
use Rattle.std.specs.Prelude.{codes, option_map}
use Rattle.std.specs.Option.{option_or}
use Rattle.objects.specs.declared.op.WordType.{WordType}
use Rattle.objects.specs.declared.op.ContextCall.{ContextCall}
use Rattle.objects.specs.declared.op.ContextCall.TheVariants.{OnRead, OnReadElement}
use Rattle.objects.specs.linking.Decoding.{type_with, read_descriptor}
use Rattle.linking.specs.ContextCalls.{read_of, read_text, read_element_text}
use Rattle.linking.proofs.context.read_call.Goals as goal

-- the call of a type's descriptor, of a field or else of an element
either : Option WordType → Option WordType → Option ContextCall
either field element = option_or (option_map OnRead field) (option_map OnReadElement element)

pub returns-in-Some : goal.returns-in-Some
unfolding read_of read_text read_element_text either
returns-in-Some c =
    let first : type_with (read_descriptor (codes "J")) c.args.descriptor.now ≡ Some c.in-Some.word_type = sym c.in-Some.ensures in
    sym (ap (λ (o : Option WordType). either o (type_with (read_descriptor (codes "I")) c.args.descriptor.now)) first)

pub returns-in_ok-read_element_type-in-None : goal.returns-in_ok-read_element_type-in-None
unfolding read_of read_text read_element_text either
returns-in_ok-read_element_type-in-None c =
    let first : type_with (read_descriptor (codes "J")) c.args.descriptor.now ≡ None = sym c.in-None.ensures in
    let second : type_with (read_descriptor (codes "I")) c.args.descriptor.now ≡ Some c.in_ok-read_element_type-in-None.field-0 = sym c.read_element_type.ensures ∙ c.in_ok-read_element_type-in-None.was in
    sym (ap (λ (o : Option WordType). either o (type_with (read_descriptor (codes "I")) c.args.descriptor.now)) first ∙ ap (either None) second)

pub returns-in_err-read_element_type-in-None : goal.returns-in_err-read_element_type-in-None
unfolding read_of read_text read_element_text either
returns-in_err-read_element_type-in-None c =
    let first : type_with (read_descriptor (codes "J")) c.args.descriptor.now ≡ None = sym c.in-None.ensures in
    let second : type_with (read_descriptor (codes "I")) c.args.descriptor.now ≡ None = sym c.read_element_type.ensures ∙ c.in_err-read_element_type-in-None.was in
    let none : c.from_residual.result ≡ None = first_of (cc, search rules) in
    none ∙ sym (ap (λ (o : Option WordType). either o (type_with (read_descriptor (codes "I")) c.args.descriptor.now)) first ∙ ap (either None) second)
