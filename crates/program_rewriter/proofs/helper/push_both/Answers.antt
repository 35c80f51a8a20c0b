use Rattle.objects.specs.rewriting.Rewriting.{element_getter_method, element_setter_method}
use Rattle.program_rewriter.proofs.Pairs.{both_pushed}
use Rattle.program_rewriter.proofs.helper.push_both.Goals as goal

pub returns : goal.returns
returns c =
    both_pushed c.args.methods.now.items c.push.new.self.items c.push-2.new.self.items c.in_ok-element_getter.field-0 c.in_ok-element_setter.field-0 (element_getter_method c.args.word) (element_setter_method c.args.word)
    c.in_ok-push.ensures.items c.in_ok-push-2.ensures.items c.in_ok-element_getter.ensures c.in_ok-element_setter.ensures
