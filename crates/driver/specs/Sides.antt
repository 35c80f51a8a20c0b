-- What is kept of the calls of a phase's lanes: of those that its lanes made side by side, or of those that were made one lane after another.
use Rattle.std.specs.Prelude.{◌≡◌, ◌≤◌, ◌+◌, ℕ, suc, List, [], ◌∷◌, ◌++◌, length, map, filter, take, drop}
use Rattle.jmodel.specs.history.History.{Told}
use Rattle.jmodel.specs.history.Schedule.{Known, Phase, lane_calls}
use Rattle.session.specs.declared.record.Record.{Record}
use Rattle.session.specs.Rule.{calls_of}
use Rattle.session.specs.Lane.{is_unplaced, record_of}
use Rattle.driver.specs.declared.side.Part.{Part}

-- of a lane's calls, those from a place on were made, as many as the part says
pub record IsPart (phase lane first : ℕ) (calls : List Known) (ts : List Told) (part : Part) : Type 0 where
  pub within : first + part.made ≤ length calls
  pub calls_are : calls_of ts ≡ lane_calls phase lane first (take part.made (drop first calls))
  pub unplaced_are : part.unplaced.items ≡ map record_of (filter is_unplaced ts)

-- the same of each lane, from one on
abbrev pub AreParts : ℕ → ℕ → Phase → List ℕ → List (List Told) → List Part → Type 0
AreParts phase lane [] [] [] [] = Unit {0}
AreParts phase lane (cs ∷ ls) (n ∷ ns) (t ∷ ts) (r ∷ rs) = IsPart phase lane n cs t r × AreParts phase (suc lane) ls ns ts rs
AreParts phase lane ls ns ts rs = ⊥

-- all calls of each lane were made
abbrev pub AreWhole : Phase → List ℕ → List Part → Type 0
AreWhole [] [] [] = Unit {0}
AreWhole (cs ∷ ls) (n ∷ ns) (r ∷ rs) = (n + r.made ≡ length cs) × AreWhole ls ns rs
AreWhole ls ns rs = ⊥

-- no call of any lane was made yet
abbrev pub none_made : Phase → List ℕ
none_made lanes = map (λ (cs : List Known). 0) lanes

-- how many calls of each lane were made
abbrev pub made_counts : List Part → List ℕ
made_counts parts = map (λ (p : Part). p.made) parts

-- which calls of each lane ran out of memory
abbrev pub unplaced_of : List Part → List (List Record)
unplaced_of parts = map (λ (p : Part). p.unplaced.items) parts

-- lane by lane what was first and what came behind it
abbrev pub joined : {X : Type 0} → List (List X) → List (List X) → List X
joined [] us = []
joined (t ∷ ts) [] = []
joined (t ∷ ts) (u ∷ us) = (t ++ u) ++ joined ts us
