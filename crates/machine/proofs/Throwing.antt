-- Exceptions that a call throws last.
use Rattle.std.proofs.Common.{◌≡◌, ◌≢◌, ℕ, List, [], Ok, Err, Some, None, true, false, nat_eq, refl, arith}
use Rattle.std.proofs.lemmas.Bool.Decides.{nat_tests}
use Rattle.jmodel.specs.declared.value.Answer.TheVariants as answer
use Rattle.objects.specs.semantics.Program.{Program, name_at}
use Rattle.objects.specs.rewriting.Attempt.{Log, Bounds, Meter, class_of, threw_of}
use Rattle.machine.specs.declared.failure.Failure.TheVariants as failure
use Rattle.machine.specs.declared.room.Thrown.{Thrown}
use Rattle.machine.specs.Running.{thrown_of, IsFinished}

module _ (P : Program) (B : Bounds) (m : Meter) (w r : Log) (o : ℕ) where
  -- a call that throws what it threw last
  pub threw_last : (t : Thrown) (class : List ℕ) → m.thrown ≡ thrown_of (Some t) → t.reference ≡ o → name_at P t.of ≡ Some class
      → IsFinished P B (threw_of (class_of P m.thrown o) m w r) m w r (Ok (answer.Threw class))
  threw_last t class e same named =
      let here : nat_eq t.reference o ≡ true = grind (arith, nat_tests) in
      (([], rw (e, here, named) refl, refl), tt)

  -- or one of a type that isn't there
  pub threw_unnamed : (t : Thrown) → m.thrown ≡ thrown_of (Some t) → t.reference ≡ o → name_at P t.of ≡ None
      → IsFinished P B (threw_of (class_of P m.thrown o) m w r) m w r (Err failure.Wrong)
  threw_unnamed t e same named =
      let here : nat_eq t.reference o ≡ true = grind (arith, nat_tests) in
      ([], rw (e, here, named) refl, refl)

  -- or another exception
  pub threw_other : (t : Thrown) → m.thrown ≡ thrown_of (Some t) → t.reference ≢ o
      → IsFinished P B (threw_of (class_of P m.thrown o) m w r) m w r (Err failure.Wrong)
  threw_other t e other =
      let here : nat_eq t.reference o ≡ false = grind (arith, nat_tests) in
      ([], rw (e, here) refl, refl)

  -- or where it threw none
  pub threw_none : m.thrown ≡ None → IsFinished P B (threw_of (class_of P m.thrown o) m w r) m w r (Err failure.Wrong)
  threw_none e = ([], rw e refl, refl)
