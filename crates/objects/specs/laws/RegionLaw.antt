-- What a call takes of its region.
use Rattle.std.specs.Prelude.{◌≡◌, ◌⊎◌, ℕ, ◌≤◌, List, [], false}
use Rattle.jmodel.specs.declared.value.Value.{Value}
use Rattle.jmodel.specs.declared.value.Answer.{Answer}
use Rattle.objects.specs.semantics.Program.{Program}
use Rattle.objects.specs.rewriting.Attempt.{Log, Bounds, Runs}
use Rattle.jmodel.specs.history.History.{leaves_words}

-- A call with this answer gives no word back that was used before, and takes none beyond its region. It takes none at all where it wrote nothing or was
-- refused.
pub record IsTaking (B : Bounds) (x : Answer) (used : ℕ) (w : Log) : Type 0 where
  pub grows : B.used ≤ used
  pub fits : B.used ≤ B.region.size → used ≤ B.region.size
  pub stays : (w ≡ []) ⊎ (leaves_words x ≡ false) → used ≡ B.used

-- so does each call, whatever its code
abbrev pub RegionLaw : Type 0
RegionLaw = (P : Program) (B : Bounds) (m : ℕ) (args : List Value) (x : Answer) (used : ℕ) (w r : Log) → Runs P B m args x used w r → IsTaking B x used w
