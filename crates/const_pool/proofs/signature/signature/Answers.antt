use Rattle.std.proofs.Common.{◌≡◌, sym, ap, subst, ◌∙◌, Option}
use Rattle.std.specs.Prelude.{IfOk}
use Rattle.std.proofs.lemmas.Bool.{eqb-true}
use Rattle.std.proofs.lemmas.List.{take_rest}
use Rattle.jmodel.specs.format.Descriptor.{Signature}
use Rattle.jmodel.specs.format.DescriptorReading.{types_at}
use Rattle.const_pool.specs.Results.{made_of}
use Rattle.const_pool.proofs.Reading.{no_signature, empty_signature, by_types}
use Rattle.const_pool.proofs.signature.signature.Goals as goal
use Rattle.const_pool.proofs.signature.signature.Goals.{then-is_empty-via-then-is_empty, then-is_empty-via-else-is_empty+then-not-is_method_descriptor}

pub returns-then-is_empty : goal.returns-then-is_empty
returns-then-is_empty c = elim c.then-is_empty.branch [
  | then-is_empty-via-then-is_empty w ↦ sym (empty_signature c.args.bytes.now (eqb-true _ _ (sym c.is_empty.ensures ∙ w.if-is_empty.true)))
  | then-is_empty-via-else-is_empty+then-not-is_method_descriptor w ↦ sym (no_signature c.args.bytes.now (sym w.is_method_descriptor.ensures ∙ w.if-not-is_method_descriptor.true))
]

pub returns : goal.returns
returns c =
    let e = ap made_of (c.in_ok-found.ensures ∙ ap (types_at 256) (take_rest c.args.bytes.now 1)) ∙ sym (by_types c.args.bytes.now (sym c.is_method_descriptor.ensures ∙ c.if-not-is_method_descriptor.false)) in
    subst (λ (s : Option Signature). IfOk c.from_types.result (λ o. o ≡ s)) e c.from_types.ensures
