-- What the search for a typing answers, as the table of a method that has code.
use Rattle.std.proofs.Common.{◌≡◌, ℕ, Some, Result, Ok, Err, true, subst, sym}
use Rattle.std.specs.Prelude.{IfOk, IfErr}
use Rattle.objects.specs.semantics.Program.{Method, Program, method_at, has_code}
use Rattle.objects.specs.typing.Typing.{Table}
use Rattle.verifier.specs.declared.inference.TypeEnd.{TypeEnd}
use Rattle.verifier.specs.declared.inference.TypeEnd.TheVariants as ends
use Rattle.verifier.specs.Answer.{IsInferred, IsEnd}
use Rattle.program_typing.specs.Tables.{IsNarrowTyping, IsTableFor, IsTableOf}
use Rattle.program_typing.specs.Typed.{EndsTable}

narrow : (P : Program) (m : ℕ) (k : Method) (T : Table) → method_at P m ≡ Some k → IsInferred P m T → IsNarrowTyping P k T
narrow P m k T there h = record { typing = h.typing k there; narrowest = h.narrowest k there }

module _ (P : Program) (m : ℕ) (x : Method) (code : has_code (Some x) ≡ true) (is : (k : Method) → method_at P m ≡ Some k → x ≡ k) where
  coded : (k : Method) → method_at P m ≡ Some k → has_code (Some k) ≡ true
  coded k there = subst (λ (y : Method). has_code (Some y) ≡ true) (is k there) code

  pub found : (r : Result Table TypeEnd) → IfOk r (IsInferred P m) → IfOk r (λ T. (k : Method) → method_at P m ≡ Some k → IsTableOf P k T)
  found (Ok T) h = λ k there. subst (λ b. IsTableFor b P k T) (sym (coded k there)) (narrow P m k T there h)
  found (Err e) h = tt

  ended : (e : TypeEnd) → IsEnd P m e → EndsTable P m e
  ended (ends.Untypable place) h = λ k there. (coded k there, h k there)
  ended ends.NoMemory h = tt

  pub not_found : (r : Result Table TypeEnd) → IfErr r (IsEnd P m) → IfErr r (EndsTable P m)
  not_found (Ok T) h = tt
  not_found (Err e) h = ended e h
