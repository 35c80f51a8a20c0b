-- A phase between its two parts: its lanes' passes are back, and what they left may be made.
use Rattle.std.proofs.Common.{◌≡◌, ◌<◌, ◌≤◌, ◌+◌, ◌*◌, ◌^◌, ℕ, List, [], ◌∷◌, ◌++◌, length, get_or, take, drop, refl, sym, ◌∙◌, ap, subst, arith}
use Rattle.std.specs.List.{AllZip}
use Rattle.std.specs.Prelude.{Result}
use Rattle.std.specs.declared.alloc.AllocError.{AllocError}
use Rattle.std.proofs.lemmas.List.{length-take-le, length-drop, take_more}
use Rattle.atomic_table.specs.Seated.{TableId}
use Rattle.tx_table.specs.Book.{Book}
use Rattle.jmodel.specs.history.History.{Entry}
use Rattle.jmodel.specs.history.Schedule.{Known, Phase}
use Rattle.tx_table.specs.declared.shared.Pass.{Pass}
use Rattle.tx_table.specs.Passes.{book}
use Rattle.session.specs.declared.record.Lane.{Lane}
use Rattle.session.specs.declared.record.Place.{Place}
use Rattle.session.specs.declared.record.Record.{Record}
use Rattle.session.specs.Lane.{HasMade}
use Rattle.session.specs.Passes.{IsStarting, IsEnding, behind}
use Rattle.driver.specs.declared.side.Part.{Part}
use Rattle.driver.specs.declared.side.Side.{Side}
use Rattle.driver.specs.Sides.{AreWhole, none_made, made_counts}
use Rattle.driver.specs.Passing.{used_of, MayGoOn, first_of, call_count, HasRoom, IsWhole, HaveEnded, IsSplit, AreEnding, IsJoining, IsMidway, IsResting}
use Rattle.driver.proofs.More.{whole_more}
use Rattle.driver.proofs.Gathering.{part_of}
use Rattle.driver.proofs.Joining.{count_push, count_take, as_many}
use Rattle.driver.proofs.Parts.{counts_within}
use Rattle.driver.proofs.Passing.{may_begin_as}
use Rattle.driver.proofs.Resting.{rests_first, rests_next, rests_within}

-- where there is room for calls, there is for fewer
pub room_within : (few count : ℕ) (b : Book) → few ≤ count → HasRoom count b → HasRoom few b
room_within few count b less room = record { fresh = room.fresh; few = room.few; ticks = let e = room.ticks in omega (arith, e, less) }

-- the lanes of a phase have ended, which were split off
pub ending_of : (t : TableId) (b : Book) (phase n : ℕ) (lanes : Phase) (ends : List (Result (Lane × Pass) AllocError)) (p : Pass) → HasRoom (call_count lanes) b
    → n ≡ length lanes → IsSplit t b n p → HaveEnded t b.seen phase lanes ends → AreEnding t b phase lanes ends p
ending_of t b phase n lanes ends p room long split ended = record {
  room = room;
  split = subst (λ (k : ℕ). IsSplit t b k p) (long ∙ sym ended.len) split;
  ended = ended;
}

-- and their passes are back
pub midway_of : (t : TableId) (phase : ℕ) (lanes : Phase) (side : Side) (p q : Pass) → IsWhole t phase p → HasRoom (call_count lanes) (book p)
    → IsJoining t (book p) phase (length lanes) (call_count lanes) lanes side.placed.items side.parts.items q → IsMidway t (book p) phase lanes side q
midway_of t phase lanes side p q w room j = record { numbers = w.numbers; room = room; begins = w.begins; joining = j }

-- a part for each lane
pub joined_long : (t : TableId) (b : Book) (phase : ℕ) (lanes : Phase) (side : Side) (q : Pass)
    → IsJoining t b phase (length lanes) (call_count lanes) lanes side.placed.items side.parts.items q → length side.parts.items ≡ length lanes
joined_long t b phase lanes side q j = as_many phase 0 lanes (none_made lanes) j.gathered.tolds side.parts.items j.gathered.parts_are

-- so what is left may be made
pub may_rest : (t : TableId) (b : Book) (phase : ℕ) (lanes : Phase) (side : Side) (q : Pass) → IsMidway t b phase lanes side q
    → ((book q).numbers ≡ 2 ^ 20) × ((book q).ticks + call_count lanes * 1000000 ≤ 2 ^ 40) × IsResting t (book q) phase 0 [] [] [] [] q
may_rest t b phase lanes side q m =
    let j = m.joining in
    let whole = m.numbers in
    let numbers = j.numbers in
    let ticks = j.ticks in
    let room = m.room.ticks in (
      omega arith,
      omega arith,
      rests_first t b phase (length lanes) (call_count lanes) lanes side.placed.items side.parts.items q j refl m.begins,
    )

-- no more calls of each lane were made than there are
pub firsts_within : (t : TableId) (b : Book) (phase : ℕ) (lanes : Phase) (side : Side) (q : Pass) → IsMidway t b phase lanes side q
    → AllZip (λ (cs : List Known) (n : ℕ). n ≤ length cs) lanes (made_counts side.parts.items)
firsts_within t b phase lanes side q m =
    counts_within phase 0 lanes m.joining.gathered.tolds side.parts.items m.joining.gathered.parts_are

-- the calls of lanes up to one more
count_next : (n : ℕ) (lanes : Phase) → n < length lanes → call_count (take (n + 1) lanes) ≡ call_count (take n lanes) + length (get_or lanes n [])
count_next n lanes inside = ap call_count (take_more lanes n [] inside) ∙ count_push (take n lanes) (get_or lanes n [])

module _ (t : TableId) (b : Book) (phase n first : ℕ) (lanes : Phase) (firsts : List ℕ) (cs : List Known) (placed : List Record) (parts : List Part) (p : Pass)
    (inside : n < length lanes) (here : cs ≡ get_or lanes n []) (as_many : length firsts ≡ length lanes) (from : first ≡ get_or firsts n 0)
    (r : IsResting t b phase (call_count (take n lanes)) (take n lanes) (take n firsts) placed parts p) where
  abbrev at : Place
  at = record { phase = phase; lane = n; first = first }

  long : length (take n lanes) ≡ n
  long = length-take-le n lanes (omega arith)

  counted : call_count (take (n + 1) lanes) ≡ call_count (take n lanes) + length cs
  counted = count_next n lanes inside ∙ ap (λ (ks : List Known). call_count (take n lanes) + length ks) (sym here)

  -- a lane's calls that are left may begin
  pub may_go_on : b.ticks + call_count lanes * 1000000 ≤ 2 ^ 40 → MayGoOn (behind (first_of phase n) (get_or firsts n 0)) b → IsStarting t at (used_of (book p) n) (length (drop first cs)) p
  may_go_on room begins =
      let all = counted in
      let some = count_take (n + 1) lanes in
      let left = length-drop first cs in
      let ticks = r.ticks in
      let z : 0 + get_or firsts n 0 ≡ first = omega (arith, from) in
      let mine : MayGoOn at b = subst (λ (k : ℕ). MayGoOn (record { phase = phase; lane = n; first = k }) b) z begins in
      record {
        seated = r.seated;
        begins = may_begin_as at b (book p) (sym (r.waits n (omega (arith, long)))) mine;
        ticks = omega arith;
      }

  module _ (lane : Lane) (h : List Entry) (q : Pass) (within : first ≤ length cs) (placed' : List Record) (parts' : List Part)
      (placed_is : placed' ≡ placed ++ lane.placed.items) (parts_is : parts' ≡ parts ++ part_of lane ∷ []) where
    lanes_are : take n lanes ++ cs ∷ [] ≡ take (n + 1) lanes
    lanes_are = ap (λ (ks : List Known). take n lanes ++ ks ∷ []) here ∙ sym (take_more lanes n [] inside)

    firsts_are : take n firsts ++ first ∷ [] ≡ take (n + 1) firsts
    firsts_are = ap (λ (k : ℕ). take n firsts ++ k ∷ []) from ∙ sym (take_more firsts n 0 (omega arith))

    -- and are made then
    pub goes_on : (before used : ℕ) → IsEnding t (book p) at (length (drop first cs)) lane.made used h q → HasMade at before (drop first cs) h lane
        → IsResting t b phase (call_count (take (n + 1) lanes)) (take (n + 1) lanes) (take (n + 1) firsts) placed' parts' q
    goes_on before used ending has =
        let all = counted in
        let left = length-drop first cs in
        let At : ℕ → Place = λ k. record { phase = phase; lane = k; first = first } in
        let next = rests_next t b phase (call_count (take n lanes)) (length (drop first cs)) first (take n lanes) (take n firsts) cs placed parts lane h p q r
        before (subst (λ (k : ℕ). HasMade (At k) before (drop first cs) h lane) (sym long) has) within
        used (subst (λ (k : ℕ). IsEnding t (book p) (At k) (length (drop first cs)) lane.made used h q) (sym long) ending) in
        let few = rests_within t b phase (call_count (take n lanes) + length (drop first cs)) (call_count (take (n + 1) lanes)) (take n lanes ++ cs ∷ [])
        (take n firsts ++ first ∷ []) (placed ++ lane.placed.items) (parts ++ part_of lane ∷ []) q (omega arith) next in
        let Lanes : Phase → Type 0 =
        λ ls. IsResting t b phase (call_count (take (n + 1) lanes)) ls (take n firsts ++ first ∷ []) (placed ++ lane.placed.items) (parts ++ part_of lane ∷ []) q in
        let Firsts : List ℕ → Type 0 =
        λ ns. IsResting t b phase (call_count (take (n + 1) lanes)) (take (n + 1) lanes) ns (placed ++ lane.placed.items) (parts ++ part_of lane ∷ []) q in
        let Placed : List Record → Type 0 =
        λ rs. IsResting t b phase (call_count (take (n + 1) lanes)) (take (n + 1) lanes) (take (n + 1) firsts) rs (parts ++ part_of lane ∷ []) q in
        let Parts : List Part → Type 0 = λ ps. IsResting t b phase (call_count (take (n + 1) lanes)) (take (n + 1) lanes) (take (n + 1) firsts) placed' ps q in
        subst Parts (sym parts_is) (subst Placed (sym placed_is) (subst Firsts firsts_are (subst Lanes lanes_are few)))

    pub whole_on : AreWhole (take n lanes) (take n firsts) parts → lane.made ≡ length (drop first cs) → AreWhole (take (n + 1) lanes) (take (n + 1) firsts) parts'
    whole_on whole all =
        let left = length-drop first cs in
        let next = whole_more first cs (part_of lane) (take n lanes) (take n firsts) parts whole (omega (arith, all, left, within)) in
        subst (AreWhole (take (n + 1) lanes) (take (n + 1) firsts)) (sym parts_is)
        (subst (λ (ns : List ℕ). AreWhole (take (n + 1) lanes) ns (parts ++ part_of lane ∷ [])) firsts_are
        (subst (λ (ls : Phase). AreWhole ls (take n firsts ++ first ∷ []) (parts ++ part_of lane ∷ [])) lanes_are next))
