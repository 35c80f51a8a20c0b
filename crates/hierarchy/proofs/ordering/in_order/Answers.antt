use Rattle.std.proofs.Common.{sym, ap, ◌∙◌}
use Rattle.objects.specs.linking.Classes.{doubled_class}
use Rattle.hierarchy.proofs.Single.{single_in_order}
use Rattle.hierarchy.proofs.ordering.in_order.Goals as goal

pub returns-clause-single : goal.returns-clause-single
returns-clause-single c = ap doubled_class c.in_ok-sorted.ensures ∙ single_in_order c.args.files.now (sym c.in_ok-fault.ensures ∙ c.in_default.is)
