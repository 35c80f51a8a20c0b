-- The traps that runs meet: the exceptions that instructions make, by the types of their objects.
use Rattle.std.specs.Prelude.{◌≡◌, ℕ, zero, suc, List, [], ◌∷◌, ◌++◌}
use Rattle.jmodel.specs.declared.value.Value.{Value}
use Rattle.objects.specs.declared.op.Phase.TheVariants.{Ready, Open}
use Rattle.objects.specs.declared.op.Made.TheVariants.{Raised}
use Rattle.objects.specs.declared.op.Asking.TheVariants.{Make}
use Rattle.objects.specs.semantics.Program.{Program}
use Rattle.objects.specs.semantics.Region.{Region}
use Rattle.objects.specs.semantics.Step.{Asked, Asks, step}
use Rattle.objects.specs.semantics.Call.{Direct, next_direct}
use Rattle.objects.specs.semantics.Call as call
use Rattle.objects.specs.rewriting.Attempt.{Log, Reply, Bounds, Run, On, Asking, next_run, run, run_start}

-- the exception that a step asks for
abbrev pub trap_in : Asked → List ℕ
trap_in (Asks (Make t n Raised) fs) = t ∷ []
trap_in a = []

-- ---- an original method, run alone

-- the trap that the next step meets, if it meets one
abbrev pub trap_of : Program → Direct → List ℕ
trap_of P (call.On fs k σ) = trap_in (step P fs)
trap_of P (call.Asking a fs k σ) = trap_in (Asks a fs)
trap_of P d = []

-- the traps that n steps meet, in their order
abbrev pub traps : Program → Region → ℕ → Direct → List ℕ
traps P G zero d = []
traps P G (suc n) d = trap_of P d ++ traps P G n (next_direct P G d)

-- ---- an attempt of rewritten code

abbrev pub trap_at : Program → Run → List ℕ
trap_at P (On Open fs m w r) = trap_in (step P fs)
trap_at P (Asking a fs m w r) = trap_in (Asks a fs)
trap_at P c = []

-- outside an attempt none was met
abbrev pub traps_of : Run → List ℕ → List ℕ
traps_of (On Ready fs m w r) ts = []
traps_of c ts = ts

-- behind these replies the traps that the attempt has met by then, where it had met some before
abbrev pub traps_met : Program → Bounds → List Reply → Run → List ℕ → List ℕ
traps_met P B [] c ts = ts
traps_met P B (v ∷ vs) c ts = traps_met P B vs (next_run P B v c) (traps_of (next_run P B v c) (ts ++ trap_at P c))

-- an open attempt that has read this
abbrev pub IsOpen : Log → Run → Type 0
IsOpen r (On Open fs m w q) = r ≡ q
IsOpen r (Asking a fs m w q) = r ≡ q
IsOpen r c = ⊥

-- An attempt of a wrapper's call so far, up to one of its steps or to its commit, with the used words of the bounds before it: it has read just this,
-- and met these traps.
pub record Begins (P : Program) (B : Bounds) (m : ℕ) (args : List Value) (r : Log) (ts : List ℕ) : Type 0 where
  pub replies : List Reply
  pub reads : IsOpen r (run P B replies (run_start P B m args))
  pub meets : traps_met P B replies (run_start P B m args) [] ≡ ts
