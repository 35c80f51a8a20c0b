-- The workers of a bag, as they get their claims and as they come back.
use Rattle.std.proofs.Common.{◌≡◌, ◌≢◌, ◌≤◌, ◌<◌, ◌+◌, ◌-◌, ◌*◌, ◌^◌, ℕ, zero, suc, List, [], ◌∷◌, ◌++◌, length, length-set, get_or, set, Result, Ok, Err, refl, sym, ap, ◌∙◌, subst, arith}
use Rattle.std.specs.Prelude.{IfOk, IsPermutation, filter, nat_lt}
use Rattle.std.specs.List.{AllByRecursion, flat_map}
use Rattle.std.specs.Global.{Global}
use Rattle.std.specs.declared.vec.Vec.{Vec}
use Rattle.std.specs.declared.alloc.AllocError.{AllocError}
use Rattle.std.proofs.lemmas.List.{length_push, length-map, length-append, map-append, get_or_push, get_or_append_left}
use Rattle.std.proofs.lemmas.List.Sorted.{IsPermutation-refl}
use Rattle.std.proofs.lemmas.Result.{IfOk-at_ok}
use Rattle.std.proofs.Math.Nat.{mul-le-mul_right}
use mathlib.Core.Logic.{dite}
use native.Mathlib.Decide.{ℕ_discrete}
use Rattle.claims.specs.Claims.{Claims, Ascends, stays, joined}
use Rattle.claims.specs.Passes.{claims_of, IsOf}
use Rattle.claims.specs.declared.bag.Bag.{Bag}
use Rattle.claims.specs.declared.bag.BagPass.{BagPass}
use Rattle.jmodel.specs.history.Schedule.{Known, Phase}
use Rattle.session.specs.declared.record.Lane.{Lane}
use Rattle.session.specs.declared.record.Place.{Place}
use Rattle.jmodel.specs.history.History.{Entry}
use Rattle.tx_table.specs.declared.shared.Pass.{Pass}
use Rattle.driver.specs.declared.table.Start.{Start}
use Rattle.session.specs.declared.claimed.Taken.{Taken}
use Rattle.driver.specs.declared.workers.Worker.{Worker}
use Rattle.atomic_table.specs.Seated.{TableId}
use Rattle.session.specs.Lane.{HasMade}
use Rattle.tx_table.specs.Passes.{book}
use Rattle.driver.specs.Passing.{used_of, first_of, IsOfOne, AreStarting, IsDone, HasEnded, HaveEnded}
use Rattle.session.specs.Claimed.{calls_at}
use Rattle.driver.specs.Bags.{as_lanes, AreTaken, IsRest, lists}
use Rattle.driver.specs.Workers.{MayClaim, AreWorkers, HasWorked, HaveWorked, AreCollected}
use Rattle.driver.proofs.Taking.{Collected, collected_more}
use Rattle.driver.proofs.Together.{collected_all, taken_all}
use Rattle.driver.proofs.Giving.{grown}
use Rattle.session.proofs.Longer.{made_longer}

-- a pass of a bag of n that gave claims to so many workers
pub record Handed (b : Bag) (n k : ℕ) (p : BagPass) : Type 0 where
  pub bag : IsOf b p
  pub none : (claims_of p).indexes ≡ []
  pub left : (claims_of p).left + k * (n + 1) ≡ 2 ^ 32

pub handed_more : (b : Bag) (n k : ℕ) (p q : BagPass) → k < 16 → n ≤ 100000 → IsOf b q → claims_of q ≡ stays (n + 1) (claims_of p) → Handed b n k p → Handed b n (k + 1) q
handed_more b n k p q few small of is h = record {
  bag = of;
  none = ap (λ (v : Claims). v.indexes) is ∙ h.none;
  left = let e : (claims_of q).left ≡ (claims_of p).left - (n + 1) = ap (λ (v : Claims). v.left) is in let l = h.left in
      let most : k * (n + 1) ≤ 15 * (n + 1) = mul-le-mul_right (n + 1) (omega arith) in omega arith;
}

-- one worker more by its number
pub workers_push : (t : TableId) (seen phase : ℕ) (b : Bag) (n : ℕ) (starts : List Start) (workers : List Worker) (s : Start) (p : BagPass) → length workers < length starts
    → s ≡ get_or starts (length workers) s → AreStarting t seen phase starts → MayClaim b n p → AreWorkers t seen phase b n workers
    → AreWorkers t seen phase b n (workers ++ (record { start = s; claims = p }) ∷ [])
workers_push t seen phase b n starts workers s p inside there starting may all i d within = dite (ℕ_discrete i (length workers)) last before
  where
    w : Worker
    w = record { start = s; claims = p }

    Fine : ℕ → Worker → Type 0
    Fine k x = (x.start.lane ≡ k) × (x.start.used ≡ used_of (book x.start.pass) k) × IsOfOne t seen (first_of phase k) x.start.pass × MayClaim b n x.claims

    Starts : Start → Type 0
    Starts x = (x.lane ≡ length workers) × (x.used ≡ used_of (book x.pass) (length workers)) × IsOfOne t seen (first_of phase (length workers)) x.pass

    mine : Starts s
    mine = subst Starts (sym there) (starting (length workers) s inside)

    last : i ≡ length workers → Fine i (get_or (workers ++ w ∷ []) i d)
    last e = subst (Fine i) (sym (get_or_push workers w d i (sym e))) (subst (λ (k : ℕ). Fine k w) (sym e) (mine.0, mine.1, mine.2, may))

    before : i ≢ length workers → Fine i (get_or (workers ++ w ∷ []) i d)
    before ne = let more = length_push workers w in let low : i < length workers = omega arith in
        subst (Fine i) (sym (get_or_append_left workers (w ∷ []) d i low)) (all i d low)

-- what holds of the end of a worker that stands in a list
worked_at : (P : Taken × BagPass → Type 0) (ends : List (Result (Taken × BagPass) AllocError)) (k : ℕ) (end : Result (Taken × BagPass) AllocError) (taken : Taken)
    (other : BagPass) → end ≡ get_or ends k end → end ≡ Ok (taken, other) → IfOk (get_or ends k end) P → P (taken, other)
worked_at P ends k end taken other there is holds = IfOk-at_ok P is (subst (λ (r : Result (Taken × BagPass) AllocError). IfOk r P) (sym there) holds)

-- one lane more that has ended
ended_push : (t : TableId) (seen phase : ℕ) (ls : Phase) (ends : List (Result (Lane × Pass) AllocError)) (cs : List Known) (end : Lane × Pass) → HaveEnded t seen phase ls ends
    → HasEnded t seen phase (length ls) cs end → HaveEnded t seen phase (ls ++ cs ∷ []) (ends ++ Ok end ∷ [])
ended_push t seen phase ls ends cs end have has = record {
  len = length_push ends (Ok end) ∙ ap (λ (n : ℕ). n + 1) have.len ∙ sym (length_push ls cs);
  each = λ i d within. dite (ℕ_discrete i (length ls)) (last i d) (before i d within);
}
  where
    Fine : ℕ → List Known → Result (Lane × Pass) AllocError → Type 0
    Fine i calls r = IfOk r (HasEnded t seen phase i calls)

    last : (i : ℕ) (d : Result (Lane × Pass) AllocError) → i ≡ length ls → Fine i (get_or (ls ++ cs ∷ []) i []) (get_or (ends ++ Ok end ∷ []) i d)
    last i d e =
        subst (Fine i (get_or (ls ++ cs ∷ []) i [])) (sym (get_or_push ends (Ok end) d i (have.len ∙ sym e)))
        (subst (λ (calls : List Known). Fine i calls (Ok end)) (sym (get_or_push ls cs [] i (sym e))) (subst (λ (k : ℕ). HasEnded t seen phase k cs end) (sym e) has))

    before : (i : ℕ) (d : Result (Lane × Pass) AllocError) → i < length (ends ++ Ok end ∷ []) → i ≢ length ls
        → Fine i (get_or (ls ++ cs ∷ []) i []) (get_or (ends ++ Ok end ∷ []) i d)
    before i d within ne =
        let more = length_push ends (Ok end) in
        let long = have.len in
        let low : i < length ends = omega arith in
        let low' : i < length ls = omega arith in
        subst (Fine i (get_or (ls ++ cs ∷ []) i [])) (sym (get_or_append_left ends (Ok end ∷ []) d i low))
        (subst (λ (calls : List Known). Fine i calls (get_or ends i d)) (sym (get_or_append_left ls (cs ∷ []) [] i low')) (have.each i d low))

-- How the first k workers ended.
pub record Collecting (t : TableId) (seen phase : ℕ) (calls : List Known) (all k : ℕ) (v : Claims) (taken : List (List ℕ)) (ends : List (Result (Lane × Pass) AllocError)) : Type 0 where
  pub len : length taken ≡ k
  pub collected : Collected (length calls) all k v taken
  pub ended : HaveEnded t seen phase (as_lanes calls taken) ends

pub collecting_first : (t : TableId) (seen phase : ℕ) (calls : List Known) (all : ℕ) (v : Claims) (indexes : List (Vec ℕ Global)) (ends : List (Result (Lane × Pass) AllocError))
    → indexes ≡ [] → ends ≡ [] → v.indexes ≡ [] → v.left + all * (length calls + 1) ≡ 2 ^ 32 → Collecting t seen phase calls all 0 v (lists indexes) ends
collecting_first t seen phase calls all v indexes ends no_taken no_ends none left =
    let long : length v.indexes ≡ 0 = ap length none in
    let empty : lists indexes ≡ [] = ap lists no_taken in
    subst (λ (taken : List (List ℕ)). Collecting t seen phase calls all 0 v taken ends) (sym empty) (record {
      len = refl;
      collected = record {
        claims = omega arith;
        few = omega arith;
        ascending = tt;
        same = subst (λ (l : List ℕ). IsPermutation (filter (λ i. nat_lt i (length calls)) l) []) (sym none) (IsPermutation-refl []);
      };
      ended = subst (HaveEnded t seen phase []) (sym no_ends) (record { len = refl; each = λ i e within. absurd (omega arith) });
    })

pub collecting_more : (t : TableId) (seen : ℕ) (b : Bag) (phase : ℕ) (calls : List Known) (all k : ℕ) (v u : Claims) (old new : List (Vec ℕ Global))
    (lanes lanes' : List (Result (Lane × Pass) AllocError)) (ends : List (Result (Taken × BagPass) AllocError)) (end : Result (Taken × BagPass) AllocError)
    (taken : Taken) (other : BagPass)
    → HaveWorked t seen b phase calls all ends → k < length ends → end ≡ get_or ends k end → end ≡ Ok (taken, other) → u ≡ joined v (claims_of other)
    → lanes' ≡ lanes ++ Ok (taken.lane, taken.pass) ∷ [] → new ≡ old ++ taken.indexes ∷ [] → Collecting t seen phase calls all k v (lists old) lanes
    → Collecting t seen phase calls all (k + 1) u (lists new) lanes'
collecting_more t seen b phase calls all k v u old new lanes lanes' ends end taken other have inside there is join lanes_are pushed c =
    let worked = worked_at (HasWorked t seen b phase k calls) ends k end taken other there is (have.each k end inside) in
    let indexes = taken.indexes.items in
    let next : lists new ≡ lists old ++ indexes ∷ [] = ap lists pushed ∙ map-append (λ (w : Vec ℕ Global). w.items) old (taken.indexes ∷ []) in
    let place : k ≡ length (as_lanes calls (lists old)) = sym (length-map (lists old) (calls_at calls) ∙ c.len) in
    let has = subst (λ (i : ℕ). HasEnded t seen phase i (calls_at calls indexes) (taken.lane, taken.pass)) place worked.ended in
    let ended = ended_push t seen phase (as_lanes calls (lists old)) lanes (calls_at calls indexes) (taken.lane, taken.pass) c.ended has in
    let grown : as_lanes calls (lists new) ≡ as_lanes calls (lists old) ++ calls_at calls indexes ∷ [] =
    ap (as_lanes calls) next ∙ map-append (calls_at calls) (lists old) (indexes ∷ []) in
    record {
      len = ap length next ∙ length_push (lists old) indexes ∙ ap (λ (n : ℕ). n + 1) c.len;
      collected = collected_more (length calls) all k v (claims_of other) u (lists old) (lists new) indexes join worked.taken next c.collected;
      ended = subst (λ (ls : Phase). HaveEnded t seen phase ls lanes') (sym grown)
          (subst (HaveEnded t seen phase (as_lanes calls (lists old) ++ calls_at calls indexes ∷ [])) (sym lanes_are) ended);
    }

pub collecting_all : (t : TableId) (seen phase : ℕ) (calls : List Known) (all k : ℕ) (v : Claims) (taken : List (List ℕ)) (ends : List (Result (Lane × Pass) AllocError)) → k ≡ all
    → Collecting t seen phase calls all k v taken ends → AreCollected t seen phase calls all v taken ends
collecting_all t seen phase calls all k v taken ends whole c =
    let d = subst (λ (n : ℕ). Collecting t seen phase calls all n v taken ends) whole c in
    record {
      len = d.len;
      gathered = collected_all (length calls) all v taken d.collected;
      few = d.collected.few;
      ascending = d.collected.ascending;
      same = d.collected.same;
      ended = d.ended;
    }

-- a pass that is done after so many calls is so after more
done_within : (t : TableId) (seen : ℕ) (at : Place) (count more made : ℕ) (h : List Entry) (p : Pass) → count ≤ more → IsDone t seen at count made h p
    → IsDone t seen at more made h p
done_within t seen at count more made h p few d = record {
  seated = d.seated;
  numbers = d.numbers;
  fresh = d.fresh;
  ticks = let e = d.ticks in omega arith;
  on = d.on;
  entries = d.entries;
  stand_behind = d.stand_behind;
  known = d.known;
  next = d.next;
  others = d.others;
}

-- a pass that is done after the calls at so many indexes
pub done_as : (t : TableId) (seen : ℕ) (at : Place) (calls : List Known) (indexes : List ℕ) (made : ℕ) (h : List Entry) (p : Pass)
    → IsDone t seen at (length indexes) made h p → IsDone t seen at (length (calls_at calls indexes)) made h p
done_as t seen at calls indexes made h p d =
    subst (λ (n : ℕ). IsDone t seen at n made h p) (sym (length-map indexes (λ i. get_or calls i (record { method = 0; args = [] })))) d

-- the first worker's calls, with others behind that it didn't make
pub ended_longer : (t : TableId) (seen phase : ℕ) (calls : List Known) (first rest : List ℕ) (others : List (List ℕ)) (ends : List (Result (Lane × Pass) AllocError))
    → HaveEnded t seen phase (as_lanes calls (first ∷ others)) ends → HaveEnded t seen phase (as_lanes calls ((first ++ rest) ∷ others)) ends
ended_longer t seen phase calls first rest others ends have = record { len = have.len; each = each }
  where
    at_first : (r : Result (Lane × Pass) AllocError) → IfOk r (HasEnded t seen phase 0 (calls_at calls first)) → IfOk r (HasEnded t seen phase 0 (calls_at calls (first ++ rest)))
    at_first (Ok e) h =
        let both : calls_at calls (first ++ rest) ≡ calls_at calls first ++ calls_at calls rest =
        map-append (λ (i : ℕ). get_or calls i (record { method = 0; args = [] })) first rest in
        let At : List Known → Type 0 = λ l. HasMade (first_of phase 0) h.before l h.history e.0 in
        let Done : List Known → Type 0 = λ l. IsDone t seen (first_of phase 0) (length l) e.0.made h.history e.1 in
        let long = length-append (calls_at calls first) (calls_at calls rest) in
        record {
          history = h.history;
          before = h.before;
          used = h.used;
          pass = subst Done (sym both) (done_within t seen (first_of phase 0) (length (calls_at calls first)) (length (calls_at calls first ++ calls_at calls rest)) e.0.made
              h.history e.1 (omega arith) h.pass);
          made = subst At (sym both) (made_longer (first_of phase 0) h.before (calls_at calls first) (calls_at calls rest) h.history e.0 h.made);
        }
    at_first (Err x) h = tt

    each : (i : ℕ) (e : Result (Lane × Pass) AllocError) → i < length ends
        → IfOk (get_or ends i e) (HasEnded t seen phase i (get_or (as_lanes calls ((first ++ rest) ∷ others)) i []))
    each zero e within = at_first (get_or ends 0 e) (have.each 0 e within)
    each (suc i) e within = have.each (suc i) e within

-- what was collected, of as many workers as there were
pub collected_of : (t : TableId) (seen : ℕ) (b : Bag) (phase : ℕ) (calls : List Known) (count : ℕ) (v : Claims) (taken : List (List ℕ))
    (worked : List (Result (Taken × BagPass) AllocError)) (ends : List (Result (Lane × Pass) AllocError))
    → HaveWorked t seen b phase calls count worked
    → (HaveWorked t seen b phase calls (length worked) worked → AreCollected t seen phase calls (length worked) v taken ends) → AreCollected t seen phase calls count v taken ends
collected_of t seen b phase calls count v taken worked ends have from =
    subst (λ (n : ℕ). AreCollected t seen phase calls n v taken ends) have.len
    (from (subst (λ (n : ℕ). HaveWorked t seen b phase calls n worked) (sym have.len) have))

pub few_claims : (t : TableId) (seen phase : ℕ) (calls : List Known) (count : ℕ) (v : Claims) (taken : List (List ℕ)) (ends : List (Result (Lane × Pass) AllocError))
    → AreCollected t seen phase calls count v taken ends → count ≤ 16 → length v.indexes ≤ 16 * (length calls + 1)
few_claims t seen phase calls count v taken ends c few =
    let most : count * (length calls + 1) ≤ 16 * (length calls + 1) = mul-le-mul_right (length calls + 1) few in let h = c.few in omega arith

-- with what nobody had claimed
pub whole_bag : (t : TableId) (seen phase : ℕ) (calls : List Known) (count : ℕ) (v : Claims) (vs : List (Vec ℕ Global)) (rest : List ℕ) (old new : Vec ℕ Global)
    (ends : List (Result (Lane × Pass) AllocError)) → AreCollected t seen phase calls count v (lists vs) ends → 1 ≤ count → IsRest (length calls) v rest
    → old ≡ get_or vs 0 old → new.items ≡ old.items ++ rest
    → (length (set vs 0 new) ≡ count) × AreTaken (length calls) (lists (set vs 0 new)) × HaveEnded t seen phase (as_lanes calls (lists (set vs 0 new))) ends
whole_bag t seen phase calls count v vs rest old new ends c some left here more =
    let long : length vs ≡ count = sym (length-map vs (λ (w : Vec ℕ Global). w.items)) ∙ c.len in
    let g = grown vs rest old new (omega arith) here more in
    let Up : List (List ℕ) → Type 0 = λ l. AllByRecursion Ascends l in
    let Same : List (List ℕ) → Type 0 = λ l. IsPermutation (filter (λ i. nat_lt i (length calls)) v.indexes) (flat_map (λ (x : List ℕ). x) l) in
    let Ended : List (List ℕ) → Type 0 = λ l. HaveEnded t seen phase (as_lanes calls l) ends in (
      length-set vs 0 new ∙ long,
      subst (AreTaken (length calls)) (sym g.3) (taken_all (length calls) v g.0 rest g.1 (subst Up g.2 c.ascending) (subst Same g.2 c.same) left),
      subst Ended (sym g.3) (ended_longer t seen phase calls g.0 rest g.1 ends (subst Ended g.2 c.ended)),
    )

-- as many lanes as lists of what workers took
pub lanes_long : (calls : List Known) (taken : List (Vec ℕ Global)) → length (as_lanes calls (lists taken)) ≡ length taken
lanes_long calls taken = length-map (lists taken) (calls_at calls) ∙ length-map taken (λ (w : Vec ℕ Global). w.items)
