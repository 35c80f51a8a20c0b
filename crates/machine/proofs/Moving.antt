-- From stage to stage.
use Rattle.std.proofs.Common.{◌≡◌, ◌≢◌, ℕ, Result, Ok, Err, refl, sym, subst}
use mathlib.Core.Bool.{true≢false}
use Rattle.std.specs.Prelude.{IfOk, IsErr}
use Rattle.machine.specs.declared.failure.Failure.{Failure}
use Rattle.machine.specs.declared.running.Stage.{Stage}
use Rattle.machine.specs.declared.running.Stage.TheVariants.{Ready, Open, Doomed}
use Rattle.machine.specs.declared.running.Limit.{Limit}
use Rattle.machine.specs.declared.running.Todo.{Todo}
use Rattle.machine.specs.declared.running.Todo.TheVariants.{Go, Commit, Refuse, Spent}
use Rattle.machine.specs.Running.{Moves}

-- from an equal stage
pub moves_as : (s s' z : Stage) (t t' u : ℕ) → s ≡ s' → t ≡ t' → Moves s t z u → Moves s' t' z u
moves_as s s' z t t' u e f m = subst (λ (x : Stage). Moves x t' z u) e (subst (λ (i : ℕ). Moves s i z u) f m)

-- the same, where it may be an error
pub moves_if : (x : Result Todo Failure) (s s' z : Stage) (t t' u : ℕ) → s ≡ s' → t ≡ t' → IfOk x (λ y. Moves s t z u) → IfOk x (λ y. Moves s' t' z u)
moves_if x s s' z t t' u e f m = subst (λ (y : Stage). IfOk x (λ r. Moves y t' z u)) e (subst (λ (i : ℕ). IfOk x (λ r. Moves s i z u)) f m)

-- from a stage to itself
pub moves_none : (s : Stage) (t : ℕ) → Moves s t s t
moves_none Ready t = refl
moves_none Open t = refl
moves_none Doomed t = refl

-- what holds anyway, where it may be an error
pub if_ok_any : (x : Result Todo Failure) (P : Type 0) → P → IfOk x (λ y. P)
if_ok_any (Ok y) P p = p
if_ok_any (Err e) P p = tt

-- what goes on does nothing else
pub goes_alone : (x : Result Todo Failure) (t : Todo) → IfOk x (λ y. y ≡ Go) → t ≢ Go → x ≢ Ok t
goes_alone x t g n e = n (rw e at g)

pub goes_uncommitted : (x : Result Todo Failure) → IfOk x (λ y. y ≡ Go) → x ≢ Ok Commit
goes_uncommitted x g = goes_alone x Commit g (λ q. cc)

pub goes_unspent : (x : Result Todo Failure) → IfOk x (λ y. y ≡ Go) → x ≢ Ok Spent
goes_unspent x g = goes_alone x Spent g (λ q. cc)

pub goes_unrefused : (x : Result Todo Failure) (l : Limit) → IfOk x (λ y. y ≡ Go) → x ≢ Ok (Refuse l)
goes_unrefused x l g = goes_alone x (Refuse l) g (λ q. cc)

-- an error does nothing
pub failed_unlike : (x : Result Todo Failure) (t : Todo) → IsErr x → x ≢ Ok t
failed_unlike (Ok y) t e q = absurd (true≢false (sym e))
failed_unlike (Err y) t e q = cc
