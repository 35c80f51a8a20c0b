use Rattle.std.proofs.Common.{◌≡◌}
use Rattle.bankgen.specs.Workload.{classes}
use Rattle.bankgen.proofs.AllFormed.{formed}
use Rattle.bankgen.proofs.workload.classes.Goals as goal

pub returns : goal.returns
returns c =
    let e : c.in_ok-vec.field-0.items ≡ classes c.args.accounts = cc (c.in_ok-vec.ensures.items, c.in_ok-account_file.ensures, c.in_ok-bank_file.ensures) in
    record { made = e; formed = formed c.args.accounts _ e }
