use Rattle.std.proofs.Common.{◌≡◌, take, ap, ◌∙◌}
use Rattle.std.proofs.lemmas.List.{take_all}
use Rattle.objects.specs.semantics.Program.{Method}
use Rattle.jmodel.specs.format.ClassRules.{same_text}
use Rattle.const_pool.specs.Firsts.{first, text_known}
use Rattle.const_pool.proofs.FirstLemmas.{first_more}
use Rattle.script.specs.Script.{call_text}
use Rattle.script.proofs.Named.{number_is}
use Rattle.script.proofs.names.numbers_of.Goals as goal

pub loop-number-preserved : goal.loop-number-preserved
loop-number-preserved c = λ q.
    first_more (λ k. same_text (call_text k) q) c.methods-method-items.result.now c.loop-number.number c.method-item.result (text_known c.loop-number.numbers q) (text_known c.note_method.new.numbers q)
    c.loop-number-test.true c.method-item.is (c.loop-number.invariant q) (c.in_ok-note_method.ensures q)

pub returns : goal.returns
returns c = λ q.
    let methods = c.methods-method-items.result.now in
    let all : take c.loop-number.number methods ≡ methods = take_all c.loop-number.number methods c.loop-number-test.false in
    c.loop-number.invariant q ∙ ap (first (λ (k : Method). same_text (call_text k) q)) (all ∙ c.methods-method-items.ensures) ∙ number_is q c.args.program.now.methods
