-- The passes of lanes, as they come back.
use Rattle.std.proofs.Common.{◌≡◌, ◌<◌, ◌≤◌, ℕ, zero, suc, ◌+◌, ◌^◌, List, [], ◌∷◌, ◌++◌, length, get_or, take, Result, Ok, refl, sym, ap, ◌∙◌, subst, append-nil, arith}
use Rattle.std.specs.Prelude.{IfOk}
use Rattle.std.specs.declared.alloc.AllocError.{AllocError}
use Rattle.std.proofs.lemmas.List.{length-take-le, take_more, take_all}
use Rattle.std.proofs.lemmas.Result.{IfOk-at_ok}
use Rattle.atomic_table.specs.Seated.{TableId}
use Rattle.tx_table.specs.Book.{Book, Unticked}
use Rattle.jmodel.specs.history.History.{Told}
use Rattle.tx_table.specs.Plays.{joined}
use Rattle.jmodel.specs.history.Schedule.{Known, Phase}
use Rattle.tx_table.specs.declared.shared.Pass.{Pass}
use Rattle.tx_table.specs.Passes.{book, IsOf, IsSame}
use Rattle.session.specs.declared.record.Record.{Record}
use Rattle.session.specs.declared.record.Lane.{Lane}
use Rattle.driver.specs.declared.side.Part.{Part}
use Rattle.driver.specs.Sides.{AreParts, none_made}
use Rattle.driver.specs.Passing.{call_count, HasEnded, IsSplit, AreEnding, IsJoining}
use Rattle.driver.proofs.Gathering.{part_of, gathered_none}
use Rattle.driver.proofs.Passing.{joins_next}

-- how many calls lanes have
pub count_append : (ls ks : Phase) → call_count (ls ++ ks) ≡ call_count ls + call_count ks
count_append [] ks = omega arith
count_append (cs ∷ ls) ks = let rest = count_append ls ks in omega (arith, rest)

pub count_push : (ls : Phase) (cs : List Known) → call_count (ls ++ cs ∷ []) ≡ call_count ls + length cs
count_push ls cs = let all = count_append ls (cs ∷ []) in omega (arith, all)

pub count_take : (n : ℕ) (ls : Phase) → call_count (take n ls) ≤ call_count ls
count_take zero ls = omega arith
count_take (suc n) [] = omega arith
count_take (suc n) (cs ∷ ls) = let rest = count_take n ls in omega (arith, rest)

pub count_at : (ls : Phase) (k : ℕ) → length (get_or ls k []) ≤ call_count ls
count_at [] k = omega arith
count_at (cs ∷ ls) zero = omega arith
count_at (cs ∷ ls) (suc k) = let rest = count_at ls k in omega (arith, rest)

-- as many parts as lanes
pub as_many : (phase lane : ℕ) (ls : Phase) (ns : List ℕ) (ts : List (List Told)) (rs : List Part) → AreParts phase lane ls ns ts rs → length rs ≡ length ls
as_many phase lane [] [] [] [] h = refl
as_many phase lane (cs ∷ ls) (n ∷ ns) (t ∷ ts) (r ∷ rs) h = ap suc (as_many phase (suc lane) ls ns ts rs h.1)
as_many phase lane ls ns ts rs h = absurd h

-- what holds of the end of a lane that stands in a list
ended_at : (P : Lane × Pass → Type 0) (ends : List (Result (Lane × Pass) AllocError)) (k : ℕ) (end : Result (Lane × Pass) AllocError) (lane : Lane) (other : Pass)
    → end ≡ get_or ends k end → end ≡ Ok (lane, other) → IfOk (get_or ends k end) P → P (lane, other)
ended_at P ends k end lane other there is holds = IfOk-at_ok P is (subst (λ (r : Result (Lane × Pass) AllocError). IfOk r P) (sym there) holds)

-- no pass is back yet
pub joins_first : (t : TableId) (b : Book) (phase n : ℕ) (p : Pass) → IsSplit t b n p → IsJoining t b phase n 0 [] [] [] p
joins_first t b phase n p s = record {
  seated = s.seated;
  numbers = let e = s.numbers in omega arith;
  fresh = let e = s.fresh in omega arith;
  few = let e = s.fresh in omega arith;
  ticks = let e = s.ticks in omega arith;
  on = let e = s.seen in omega arith;
  since = [];
  entries = s.entries ∙ sym (append-nil b.entries);
  gathered = gathered_none phase;
  stand_behind = λ e i. absurd i;
  known = λ e i. absurd i;
  back = λ lane low. absurd (omega (arith, low));
  used = λ lane d low. absurd (omega (arith, low));
  gone = λ lane any low. s.gone lane low;
  kept = s.kept;
}

module _ (t : TableId) (b : Book) (phase k : ℕ) (lanes : Phase) (ends : List (Result (Lane × Pass) AllocError)) (end : Result (Lane × Pass) AllocError)
    (lane : Lane) (first p other : Pass) (placed : List Record) (parts : List Part) (ending : AreEnding t b phase lanes ends first) (inside : k < length ends)
    (there : end ≡ get_or ends k end) (is : end ≡ Ok (lane, other))
    (j : IsJoining t b phase (length ends) (call_count (take k lanes)) (take k lanes) placed parts p) where
  abbrev calls : List Known
  calls = get_or lanes k []

  mine : HasEnded t b.seen phase k calls (lane, other)
  mine = ended_at (HasEnded t b.seen phase k calls) ends k end lane other there is (ending.ended.each k end inside)

  -- one pass more may be joined
  pub may_join : IsOf t other × ((book other).face.held ≡ []) × ((book other).face.stage ≡ Unticked)
  may_join = (mine.pass.seated.table, mine.pass.seated.held, mine.pass.seated.stage)

  pub sums_fit : ((book p).fresh + (book other).fresh < 2 ^ 62) × ((book p).ticks + (book other).ticks < 2 ^ 62)
  sums_fit =
      let room = ending.room in
      let none = mine.pass.fresh in
      let few = mine.pass.ticks in
      let before = j.ticks in
      let left = j.few in
      let some = count_take k lanes in
      let here = count_at lanes k in
      let fresh = room.few in
      let ticks = room.ticks in
      (omega arith, omega arith)

  -- and then it is back
  pub gathers_next : (q : Pass) (placed' : List Record) (parts' : List Part) → IsSame p q → book q ≡ joined (book p) (book other)
      → placed' ≡ placed ++ lane.placed.items → parts' ≡ parts ++ part_of lane ∷ []
      → IsJoining t b phase (length ends) (call_count (take (k + 1) lanes)) (take (k + 1) lanes) placed' parts' q
  gathers_next q placed' parts' same join placed_is parts_is =
      let long = ending.ended.len in
      let within : k < length lanes = omega arith in
      let few : length (take k lanes) ≡ k = length-take-le k lanes (omega arith) in
      let under : length (take k lanes) < length ends = omega arith in
      let here : HasEnded t b.seen phase (length (take k lanes)) calls (lane, other) = subst (λ (n : ℕ). HasEnded t b.seen phase n calls (lane, other)) (sym few) mine in
      let next = joins_next t b phase (length ends) (call_count (take k lanes)) (length calls) (take k lanes) calls placed parts lane here.history p q other j under
      (as_many phase 0 (take k lanes) (none_made (take k lanes)) j.gathered.tolds parts j.gathered.parts_are) here.pass here.before here.made here.used same join in
      let Counts : ℕ → Type 0 = λ n. IsJoining t b phase (length ends) n (take k lanes ++ calls ∷ []) (placed ++ lane.placed.items) (parts ++ part_of lane ∷ []) q in
      let Lanes : Phase → Type 0 = λ ls. IsJoining t b phase (length ends) (call_count ls) ls (placed ++ lane.placed.items) (parts ++ part_of lane ∷ []) q in
      let Placed : List Record → Type 0 =
      λ rs. IsJoining t b phase (length ends) (call_count (take (k + 1) lanes)) (take (k + 1) lanes) rs (parts ++ part_of lane ∷ []) q in
      let Parts : List Part → Type 0 = λ ps. IsJoining t b phase (length ends) (call_count (take (k + 1) lanes)) (take (k + 1) lanes) placed' ps q in
      subst Parts (sym parts_is) (subst Placed (sym placed_is) (subst Lanes (sym (take_more lanes k [] within)) (subst Counts (sym (count_push (take k lanes) calls)) next)))

-- all passes are back
pub gathers_all : (t : TableId) (b : Book) (phase k : ℕ) (lanes : Phase) (ends : List (Result (Lane × Pass) AllocError)) (placed : List Record) (parts : List Part)
    (first p : Pass) → AreEnding t b phase lanes ends first → k ≡ length ends
    → IsJoining t b phase (length ends) (call_count (take k lanes)) (take k lanes) placed parts p
    → IsJoining t b phase (length lanes) (call_count lanes) lanes placed parts p
gathers_all t b phase k lanes ends placed parts first p ending whole j =
    let long = ending.ended.len in
    let all : take k lanes ≡ lanes = take_all k lanes (omega arith) in
    subst (λ (n : ℕ). IsJoining t b phase n (call_count lanes) lanes placed parts p) long
    (subst (λ (ls : Phase). IsJoining t b phase (length ends) (call_count ls) ls placed parts p) all j)
