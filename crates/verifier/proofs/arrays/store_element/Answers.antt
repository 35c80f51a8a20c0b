use Rattle.std.proofs.Common.{◌≡◌, ℕ, ◌+◌, ◌++◌, length, drop, true, Some, None, sym, subst, ap, ◌∙◌}
use Rattle.std.specs.Prelude.{IfOk, option_copied}
use Rattle.objects.specs.typing.Typing.{Flow, stored_types, leaves}
use Rattle.verifier.specs.Flows.{flow_of, array_under}
use Rattle.verifier.specs.Rules.{are_taken}
use Rattle.verifier.proofs.Parts.{store_some, store_none}
use Rattle.verifier.proofs.arrays.store_element.Goals as goal

pub returns-in-Some : goal.returns-in-Some
returns-in-Some c =
    let e : c.in_ok-value.value.items ≡ stored_types c.args.of = c.in_ok-value.ensures ∙ c.stored.ensures in
    let taken : are_taken c.args.program.now c.in_ok-value.value.items c.args.entry.now.stack ≡ true = cc in
    let counted : c.len-count.result ≡ length c.in_ok-value.value.items = cc in
    let place : drop (length c.in_ok-value.value.items) c.args.entry.now.stack ≡ c.in_ok-under.under = sym (c.in_ok-under.ensures ∙ ap (λ (n : ℕ). drop n c.stack-2.result.now) counted ∙ ap (drop (length c.in_ok-value.value.items)) c.stack-2.ensures) in
    let under : array_under c.args.of (drop (length c.in_ok-value.value.items) c.args.entry.now.stack) ≡ Some c.in-Some.field-0.now = ap (array_under c.args.of) place ∙ sym c.array_under.ensures ∙ ap option_copied c.in-Some.is in
    let left : c.new.result.items ++ drop (c.len-count.result + 2) c.args.entry.now.stack ≡ drop (length c.in_ok-value.value.items + 2) c.args.entry.now.stack = cc in
    subst (λ (f : Flow). IfOk c.leaves.result (λ o. flow_of o ≡ f)) (ap (leaves c.args.pc c.args.entry.now) left ∙ store_some c.args.pc c.args.entry.now c.args.program.now c.args.of c.in_ok-value.value.items c.in-Some.field-0.now e taken under) c.leaves.ensures

pub returns : goal.returns
returns c =
    let e : c.in_ok-value.value.items ≡ stored_types c.args.of = c.in_ok-value.ensures ∙ c.stored.ensures in
    let taken : are_taken c.args.program.now c.in_ok-value.value.items c.args.entry.now.stack ≡ true = cc in
    let counted : c.len-count.result ≡ length c.in_ok-value.value.items = cc in
    let place : drop (length c.in_ok-value.value.items) c.args.entry.now.stack ≡ c.in_ok-under.under = sym (c.in_ok-under.ensures ∙ ap (λ (n : ℕ). drop n c.stack-2.result.now) counted ∙ ap (drop (length c.in_ok-value.value.items)) c.stack-2.ensures) in
    let under : array_under c.args.of (drop (length c.in_ok-value.value.items) c.args.entry.now.stack) ≡ None = ap (array_under c.args.of) place ∙ sym c.array_under.ensures ∙ ap option_copied c.in-None.is in
    store_none c.args.pc c.args.entry.now c.args.program.now c.args.of c.in_ok-value.value.items e taken under
