-- The bank's classes keep the rules of class files.
use Rattle.std.proofs.Common.{◌≡◌, ℕ, List, sym, subst}
use Rattle.jmodel.specs.format.ClassFile.{ClassFile}
use Rattle.bankgen.specs.Formed.{AreFormed}
use Rattle.bankgen.specs.Workload.{classes}
use Rattle.bankgen.proofs.AccountFormed as account
use Rattle.bankgen.proofs.BankFormed as bank

are_formed : (accounts : ℕ) → AreFormed (classes accounts)
are_formed accounts = record { form = (account.is_class_file, (bank.is_class_file accounts, tt)); filed = (account.holds_bytes, (bank.holds_bytes accounts, tt)) }

pub formed : (accounts : ℕ) (cs : List ClassFile) → cs ≡ classes accounts → AreFormed cs
formed accounts cs e = subst AreFormed (sym e) (are_formed accounts)
