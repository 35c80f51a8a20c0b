-- What the indexes mean that the code of Account and of Bank names, and which methods are marked.
use Rattle.std.specs.Prelude.{◌≡◌, ℕ, pos, List, Option, Some, Ok, codes}
use Rattle.jmodel.specs.format.Pool.{MemberName, class_name, field_name, method_name}
use Rattle.jmodel.specs.format.Mark.{mark_of}
use Rattle.bankgen.specs.Classes.{account_pool, bank_pool, transfer_method, total_method}

abbrev pub member : (class name descriptor : List ℕ) → Option MemberName
member class name descriptor = Some (record { class = class; name = name; descriptor = descriptor })

pub record BankLaw : Type 0 where
  -- in Account
  pub object_init : method_name account_pool 10 ≡ member (codes "java/lang/Object") (codes "<init>") (codes "()V")
  pub balance : field_name account_pool 13 ≡ member (codes "Account") (codes "b") (codes "I")
  -- in Bank
  pub account : class_name bank_pool 10 ≡ Some (codes "Account")
  pub all : field_name bank_pool 12 ≡ member (codes "Bank") (codes "all") (codes "[LAccount;")
  pub account_init : method_name bank_pool 14 ≡ member (codes "Account") (codes "<init>") (codes "(I)V")
  pub get : method_name bank_pool 20 ≡ member (codes "Account") (codes "get") (codes "()I")
  pub add : method_name bank_pool 24 ≡ member (codes "Account") (codes "add") (codes "(I)V")
  -- the marks, which let a call have as many attempts as a script does
  pub transfer_marked : mark_of bank_pool transfer_method ≡ Ok (Some (record { retries = pos 2147483647 }))
  pub total_marked : mark_of bank_pool total_method ≡ Ok (Some (record { retries = pos 2147483647 }))
