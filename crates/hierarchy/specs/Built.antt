-- What building a program answers.
use Rattle.std.specs.Prelude.{◌≡◌, Option, Some, None, Result, Ok, Err}
use Rattle.jmodel.specs.declared.refusal.Refusal.{Refusal}
use Rattle.hierarchy.specs.declared.outcome.BuildEnd.{BuildEnd}
use Rattle.hierarchy.specs.declared.outcome.BuildEnd.TheVariants.{Refused, NotBuilt, NoMemory}

-- an end that says that there is nothing says so rightly, and none is a fault
abbrev pub Ends : {Y : Type 0} → BuildEnd → Option Y → Type 0
Ends (Refused r) meaning = ⊥
Ends NotBuilt meaning = meaning ≡ None
Ends NoMemory meaning = Unit {0}

-- What was answered, seen by view, is what there is, unless memory ran out.
abbrev pub Builds : {X Y : Type 0} → (X → Y) → Result X BuildEnd → Option Y → Type 0
Builds view (Ok x) meaning = meaning ≡ Some (view x)
Builds view (Err e) meaning = Ends e meaning

-- an end says rightly which fault there is, or that there is nothing
abbrev pub EndsLinking : {Y : Type 0} → BuildEnd → Result (Option Y) Refusal → Type 0
EndsLinking (Refused r) meaning = meaning ≡ Err r
EndsLinking NotBuilt meaning = meaning ≡ Ok None
EndsLinking NoMemory meaning = Unit {0}

-- What was answered, seen by view, is what linking gives, unless memory ran out.
abbrev pub Links : {X Y : Type 0} → (X → Y) → Result X BuildEnd → Result (Option Y) Refusal → Type 0
Links view (Ok x) meaning = meaning ≡ Ok (Some (view x))
Links view (Err e) meaning = EndsLinking e meaning
