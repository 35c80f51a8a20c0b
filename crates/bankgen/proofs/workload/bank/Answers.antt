use Rattle.std.proofs.Common.{rules}
use Rattle.bankgen.specs.Workload.{workload}
use Rattle.bankgen.proofs.workload.bank.Goals as goal

pub returns : goal.returns
unfolding workload
returns c = search rules

pub returns-in_err-within : goal.returns-in_err-within
unfolding workload
returns-in_err-within c = search rules

pub returns-in_err-within-2 : goal.returns-in_err-within-2
unfolding workload
returns-in_err-within-2 c = search rules

pub returns-in_err-within-3 : goal.returns-in_err-within-3
unfolding workload
returns-in_err-within-3 c = search rules
