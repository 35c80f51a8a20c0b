-- The element at an index of an array.
use Rattle.std.proofs.Common.{◌≡◌, ℕ, ℤ, pos, suc, ◌+◌, ◌<◌, ◌^◌, true, refl, arith, add-one}
use Rattle.std.specs.Prelude.{nat_lt}
use Rattle.std.proofs.lemmas.Bool.Decides.{nat_tests}
use Rattle.objects.specs.declared.op.Asking.{Asking}
use Rattle.objects.specs.declared.op.Asking.TheVariants as A
use Rattle.objects.specs.declared.op.Element.{Element}
use Rattle.objects.specs.declared.op.Use.TheVariants.{Indexes}
use Rattle.objects.specs.semantics.Program.{Program, row_at}
use Rattle.objects.specs.semantics.Step.{Frames, Asked, Asks, told, stored, kept_in}
use Rattle.machine.specs.Meets.{GoesOn, IsAsked}

-- an index in bounds, whose element's address has 64 bits
pub indexed : (P : Program) (o t n k : ℕ) (i : ℤ) (e : Element) (fs : Frames) → i ≡ pos k → k < n → o + (k + 1) < 2 ^ 64
    → told P (Indexes i e) o t n fs ≡ stored t (record { object = o; index = k + 1 }) (kept_in (row_at P t) e) fs
indexed P o t n k i e fs is within address =
    let inside : nat_lt k n ≡ true = grind (arith, nat_tests) in
    let there : nat_lt (o + suc k) (2 ^ 64) ≡ true = grind (arith, nat_tests) in
    rw (is, inside, there, add-one) refl

-- what leaves frames asks so of these
pub asked_on : (a : Asking) (fs : Frames) (x : Asked) → GoesOn a → x ≡ Asks a fs → IsAsked a fs x
asked_on A.Go fs x on e = e
asked_on A.Turn fs x on e = e
asked_on (A.Enter d) fs x on e = e
asked_on (A.Return v) fs x on e = absurd on
asked_on (A.Throw o) fs x on e = absurd on
asked_on (A.Raise o) fs x on e = e
asked_on (A.Make t n d) fs x on e = e
asked_on (A.Head o u) fs x on e = e
asked_on (A.Ask q) fs x on e = e
