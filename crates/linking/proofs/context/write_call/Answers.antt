use Rattle.std.proofs.Common.{rules, ◌≡◌, Option, Some, None, sym, ap, ◌∙◌}
use Rattle.std.specs.Prelude.{codes, option_map}
use Rattle.std.specs.Option.{option_or}
use Rattle.objects.specs.declared.op.WordType.{WordType}
use Rattle.objects.specs.declared.op.ContextCall.{ContextCall}
use Rattle.objects.specs.declared.op.ContextCall.TheVariants.{OnWrite, OnWriteElement}
use Rattle.objects.specs.linking.Decoding.{type_with, write_descriptor}
use Rattle.linking.specs.ContextCalls.{write_of, write_text, write_element_text}
use Rattle.linking.proofs.context.write_call.Goals as goal

-- the call of a type's descriptor, of a field or else of an element
either : Option WordType → Option WordType → Option ContextCall
either field element = option_or (option_map OnWrite field) (option_map OnWriteElement element)

pub returns-in-Some : goal.returns-in-Some
unfolding write_of write_text write_element_text either
returns-in-Some c =
    let first : type_with (write_descriptor (codes "J")) c.args.descriptor.now ≡ Some c.in-Some.word_type = sym c.in-Some.ensures in
    sym (ap (λ (o : Option WordType). either o (type_with (write_descriptor (codes "I")) c.args.descriptor.now)) first)

pub returns-in_ok-write_element_type-in-None : goal.returns-in_ok-write_element_type-in-None
unfolding write_of write_text write_element_text either
returns-in_ok-write_element_type-in-None c =
    let first : type_with (write_descriptor (codes "J")) c.args.descriptor.now ≡ None = sym c.in-None.ensures in
    let second : type_with (write_descriptor (codes "I")) c.args.descriptor.now ≡ Some c.in_ok-write_element_type-in-None.field-0 = sym c.write_element_type.ensures ∙ c.in_ok-write_element_type-in-None.was in
    sym (ap (λ (o : Option WordType). either o (type_with (write_descriptor (codes "I")) c.args.descriptor.now)) first ∙ ap (either None) second)

pub returns-in_err-write_element_type-in-None : goal.returns-in_err-write_element_type-in-None
unfolding write_of write_text write_element_text either
returns-in_err-write_element_type-in-None c =
    let first : type_with (write_descriptor (codes "J")) c.args.descriptor.now ≡ None = sym c.in-None.ensures in
    let second : type_with (write_descriptor (codes "I")) c.args.descriptor.now ≡ None = sym c.write_element_type.ensures ∙ c.in_err-write_element_type-in-None.was in
    let none : c.from_residual.result ≡ None = first_of (cc, search rules) in
    none ∙ sym (ap (λ (o : Option WordType). either o (type_with (write_descriptor (codes "I")) c.args.descriptor.now)) first ∙ ap (either None) second)
