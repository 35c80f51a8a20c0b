-- What was made of the calls that a worker claimed, as it claims one more.
use Rattle.std.proofs.Common.{◌≡◌, ◌≤◌, ℕ, zero, suc, List, [], ◌∷◌, ◌++◌, length, get_or, take, refl, sym, ◌∙◌, ap, subst, arith}
use Rattle.std.proofs.lemmas.List.{length-append, length-map, map-append}
use Rattle.jmodel.specs.history.History.{Entry}
use Rattle.jmodel.specs.history.Schedule.{Known, lane_calls}
use Rattle.session.specs.declared.record.Lane.{Lane}
use Rattle.session.specs.declared.record.Place.{Place}
use Rattle.session.specs.Lane.{HasMade}
use Rattle.session.specs.Claimed.{calls_at}

take_left : {A : Type 0} (n : ℕ) (xs ys : List A) → n ≤ length xs → take n (xs ++ ys) ≡ take n xs
take_left zero xs ys h = refl
take_left (suc n) [] ys h = absurd (omega (arith, h))
take_left (suc n) (x ∷ xs) ys h = ap (λ l. x ∷ l) (take_left n xs ys (omega (arith, h)))

-- what was made of calls was made of them with others behind
pub made_longer : (at : Place) (used : ℕ) (cs ds : List Known) (h : List Entry) (lane : Lane) → HasMade at used cs h lane → HasMade at used (cs ++ ds) h lane
made_longer at used cs ds h lane made = record {
  tolds = made.tolds;
  within = let long = length-append cs ds in omega (arith, long, made.within);
  calls_are = made.calls_are ∙ ap (lane_calls at.phase at.lane at.first) (sym (take_left lane.made cs ds made.within));
  history = made.history;
  takes = made.takes;
  grows = made.grows;
  placed_are = made.placed_are;
  unplaced_are = made.unplaced_are;
}

-- one index more
pub calls_push : (cs : List Known) (is next : List ℕ) (i : ℕ) → next ≡ is ++ i ∷ [] → calls_at cs next ≡ calls_at cs is ++ calls_at cs (i ∷ [])
calls_push cs is next i pushed = ap (calls_at cs) pushed ∙ map-append (λ (j : ℕ). get_or cs j (record { method = 0; args = [] })) is (i ∷ [])

-- the call at an index that was claimed last
pub call_last : (cs : List Known) (is next : List ℕ) (i : ℕ) (c : Known) → next ≡ is ++ i ∷ [] → c ≡ get_or cs i (record { method = 0; args = [] })
    → c ≡ get_or (calls_at cs next) (length is) c
call_last cs is next i c pushed there = there ∙ last is ∙ ap (λ (l : List ℕ). get_or (calls_at cs l) (length is) c) (sym pushed)
  where
    last : (js : List ℕ) → get_or cs i (record { method = 0; args = [] }) ≡ get_or (calls_at cs (js ++ i ∷ [])) (length js) c
    last [] = refl
    last (j ∷ js) = last js

pub made_next : (at : Place) (used : ℕ) (cs : List Known) (is next : List ℕ) (i : ℕ) (h : List Entry) (lane : Lane) → next ≡ is ++ i ∷ [] → HasMade at used (calls_at cs is) h lane
    → HasMade at used (calls_at cs next) h lane
made_next at used cs is next i h lane pushed made =
    let At : List Known → Type 0 = λ l. HasMade at used l h lane in
    subst At (sym (calls_push cs is next i pushed)) (made_longer at used (calls_at cs is) (calls_at cs (i ∷ [])) h lane made)

pub length_calls : (cs : List Known) (is : List ℕ) → length (calls_at cs is) ≡ length is
length_calls cs is = length-map is (λ (j : ℕ). get_or cs j (record { method = 0; args = [] }))
