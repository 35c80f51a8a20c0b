-- A bag whose calls one worker makes.
use Rattle.std.proofs.Common.{◌≡◌, ℕ, suc, ◌<◌, ◌≤◌, List, [], ◌∷◌, length, min, refl, ◌∙◌, ap, arith}
use Rattle.std.specs.List.{AllByRecursion}
use Rattle.std.proofs.lemmas.List.{append-nil}
use Rattle.jmodel.specs.history.History.{Call}
use Rattle.jmodel.specs.history.Schedule.{Known, Bag, call_at, lane_calls, phase_calls, bag_calls, AreDealt}

-- lane 0 for each call
abbrev firsts : List Known → List ℕ
firsts [] = []
firsts (c ∷ cs) = 0 ∷ firsts cs

as_many : (cs : List Known) → length (firsts cs) ≡ length cs
as_many [] = refl
as_many (c ∷ cs) = ap suc (as_many cs)

all_first : (n : ℕ) (cs : List Known) → 0 < n → AllByRecursion (λ lane. lane < n) (firsts cs)
all_first n [] some = tt
all_first n (c ∷ cs) some = (some, all_first n cs some)

within : (lanes : ℕ) (cs : List Known) → 1 ≤ lanes → AllByRecursion (λ lane. lane < min lanes (length cs)) (firsts cs)
within lanes [] some = tt
within lanes (c ∷ cs) some = all_first (min lanes (suc (length cs))) (c ∷ cs) (omega arith)

on_first : (phase index : ℕ) (cs : List Known) → lane_calls phase 0 index cs ≡ bag_calls phase index (firsts cs) cs
on_first phase index [] = refl
on_first phase index (c ∷ cs) = ap (λ (l : List Call). call_at phase 0 index c ∷ l) (on_first phase (suc index) cs)

pub dealt_alone : (phase lanes : ℕ) (cs : List Known) → 1 ≤ lanes → AreDealt phase (Bag lanes cs) (phase_calls phase 0 (cs ∷ []))
dealt_alone phase lanes cs some = (firsts cs, as_many cs, within lanes cs some, append-nil (lane_calls phase 0 0 cs) ∙ on_first phase 0 cs)
