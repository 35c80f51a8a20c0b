-- Workers that ran with gates of their own, and the gates that came back.
use Rattle.std.proofs.Common.{◌≡◌, ◌≤◌, ◌<◌, ℕ, zero, suc, List, [], ◌∷◌, ◌++◌, length, map, set, get_or, Option, Some, None, Result, Ok, refl, sym, ◌∙◌, ap, subst, arith}
use Rattle.std.specs.Prelude.{slice_get, IfOk}
use Rattle.std.specs.Global.{Global}
use Rattle.std.specs.declared.vec.Vec.{Vec}
use Rattle.std.specs.declared.alloc.AllocError.{AllocError}
use Rattle.std.proofs.lemmas.List.{length-map, map-append}
use Rattle.std.proofs.Math.ListN.{get_or-map}
use Rattle.atomic_table.specs.Seated.{TableId}
use Rattle.claims.specs.declared.bag.Bag.{Bag}
use Rattle.claims.specs.declared.bag.BagPass.{BagPass}
use Rattle.jmodel.specs.history.Schedule.{Known}
use Rattle.objects.specs.declared.event.Event.{Event}
use Rattle.objects.specs.semantics.Program.{Program}
use Rattle.objects.specs.rewriting.Events.{Grows}
use Rattle.tx_table.specs.declared.shared.Pass.{Pass}
use Rattle.tx_table.specs.Passes.{book}
use Rattle.session.specs.declared.record.Record.{Record}
use Rattle.session.specs.declared.record.Lane.{Lane}
use Rattle.session.specs.declared.record.Place.{Place}
use Rattle.session.specs.declared.claimed.Taken.{Taken}
use Rattle.session.specs.Claimed.{calls_at}
use Rattle.session.specs.Telling.{IsRecordOf, HasTold}
use Rattle.session.proofs.Telling.{told_weaker, record_longer}
use Rattle.driver.specs.declared.memory.Limits.{Limits}
use Rattle.driver.specs.declared.workers.Worker.{Worker}
use Rattle.driver.specs.Bags.{lists, as_lanes}
use Rattle.driver.specs.Passing.{used_of, first_of, IsOfOne}
use Rattle.driver.specs.Workers.{MayClaim, AreWorkers, HasWorked, HaveWorked}
use Rattle.driver.specs.Telling.{lane_bounds, kept_of, AreWorkersBegun, HasRunWorker, HaveRunWorkers, HaveTold, HaveToldClaimed, AreSorted}
use Rattle.driver.proofs.Giving.{grown}
use Rattle.driver.proofs.Handing.{told_at, told_behind, told_long, told_parts}
use Rattle.driver.proofs.Handed.{got, got_of, got_here}

module _ {G : Type 0} (told : G → Option (List Event)) (Q : Program) (limits : Limits) (t : TableId) (seen : ℕ) (b : Bag) (phase : ℕ) (calls : List Known) (begun : List (Worker × G)) where
  -- workers may start with gates
  pub begun_workers : (n : ℕ) (workers : List Worker) → map (λ p. p.0) begun ≡ workers → AreWorkers t seen phase b n workers → AreWorkersBegun t seen phase b n begun
  begun_workers n workers are all = λ i w low.
      let W : List Worker → Type 0 = λ l. AreWorkers t seen phase b n l in
      let every = subst W (sym are) all in
      let here : get_or (map (λ p. p.0) begun) i w.0 ≡ (get_or begun i w).0 = get_or-map (λ p. p.0) begun i w in
      let within : i < length (map (λ p. p.0) begun) = (let long = length-map begun (λ p. p.0) in omega (arith, low, long)) in
      subst (λ (x : Worker). (x.start.lane ≡ i) × (x.start.used ≡ used_of (book x.start.pass) i) × IsOfOne t seen (first_of phase i) x.start.pass × MayClaim b n x.claims) here (every i w.0 within)

  module _ (ran : List ((Taken × BagPass) × G)) (have : HaveRunWorkers told Q limits t seen b phase calls begun (map Ok ran)) where
    many : length begun ≡ length ran
    many = sym have.len ∙ length-map {B = Result ((Taken × BagPass) × G) AllocError} ran Ok

    at : (i : ℕ) (r : (Taken × BagPass) × G) (w : Worker × G) → slice_get ran i ≡ Some r → slice_get begun i ≡ Some w → i < length ran → HasRunWorker told Q limits t seen b phase i calls (told w.1) r
    at i r w there first low =
        let within : i < length (map Ok ran) = (let long = length-map {B = Result ((Taken × BagPass) × G) AllocError} ran Ok in omega (arith, low, long)) in
        let P : Worker × G → Result ((Taken × BagPass) × G) AllocError → Type 0 = λ c e. IfOk e (HasRunWorker told Q limits t seen b phase i calls (told c.1)) in
        subst (λ (c : Worker × G). P c (Ok r)) (got_here begun i w w first) (subst (P (get_or begun i w)) (got_of Ok ran i r (Ok r) there) (have.each i (Ok r) w within))

    -- as workers that have ended
    pub worked_of : HaveWorked t seen b phase calls (length begun) (map (λ r. Ok r.0) ran)
    worked_of = record {
      len = length-map {B = Result (Taken × BagPass) AllocError} ran (λ r. Ok r.0) ∙ sym many;
      each = λ i e low.
          let within : i < length ran = (let long = length-map {B = Result (Taken × BagPass) AllocError} ran (λ r. Ok r.0) in omega (arith, low, long)) in
          let r = got ran i within in
          let w = got begun i (omega (arith, within, many)) in
          subst (λ (x : Result (Taken × BagPass) AllocError). IfOk x (HasWorked t seen b phase i calls)) (sym (got_of (λ r. Ok r.0) ran i r.0 e r.1)) (at i r.0 w.0 r.1 w.1 within).0;
    }

    -- and what their gates were told
    pub have_told_claimed : (left before after : List G) → map (λ p. p.1) begun ++ left ≡ before → after ≡ map (λ r. r.1) ran ++ left
        → HaveToldClaimed Q limits phase calls (map (λ r. Ok r.0) ran) (map told before) (map told after)
    have_told_claimed left before after given back =
        let old = told_parts told (λ (p : Worker × G). p.1) begun left before given in
        let new = told_parts told (λ (r : (Taken × BagPass) × G). r.1) ran left after (sym back) in
        let a : Worker × G → Option (List Event) = λ p. told p.1 in
        let d : (Taken × BagPass) × G → Option (List Event) = λ r. told r.1 in
        let rest = map told left in
        let ends : List (Result (Taken × BagPass) AllocError) = map (λ r. Ok r.0) ran in
        let long : length ends ≡ length ran = length-map {B = Result (Taken × BagPass) AllocError} ran (λ r. Ok r.0) in
        subst (λ (l : List (Option (List Event))). HaveToldClaimed Q limits phase calls ends l (map told after)) (sym old)
        (subst (HaveToldClaimed Q limits phase calls ends (map a begun ++ rest)) (sym new) (record {
          len = told_long a d begun ran rest many;
          each = λ i e low.
              let within : i < length ran = omega (arith, low, long) in
              let r = got ran i within in
              let w = got begun i (omega (arith, within, many)) in
              let one = (at i r.0 w.0 r.1 w.1 within).1 in
              let Of : Option (List Event) → Option (List Event) → Taken × BagPass → Type 0 =
              λ x y q. HasTold Q (lane_bounds limits i) (IsRecordOf (first_of phase i) (calls_at calls q.0.indexes.items)) q.0.lane.placed.items (Grows x y) in
              let here = subst (λ (x : Option (List Event)). Of x (get_or (map d ran ++ rest) i None) r.0.0) (sym (told_at a begun rest i w.0 w.1))
              (subst (λ (y : Option (List Event)). Of (told w.0.1) y r.0.0) (sym (told_at d ran rest i r.0 r.1)) one) in
              subst (λ (x : Result (Taken × BagPass) AllocError). IfOk x (Of (get_or (map a begun ++ rest) i None) (get_or (map d ran ++ rest) i None))) (sym (got_of (λ r. Ok r.0) ran i r.0 e r.1)) here;
          others = λ i high. told_behind a d begun ran rest many i (omega (arith, high, long));
        }))

-- sorted so far, and one more
pub sorted_first : (lanes : List (Result (Lane × Pass) AllocError)) (taken : List (Vec ℕ Global)) → lanes ≡ [] → taken ≡ [] → AreSorted [] lanes taken
sorted_first lanes taken no_lanes none = record { tooks = []; ends_are = refl; lanes_are = no_lanes; taken_are = none }

pub sorted_more : (ends : List (Result (Taken × BagPass) AllocError)) (end : Result (Taken × BagPass) AllocError) (lanes more : List (Result (Lane × Pass) AllocError)) (taken next : List (Vec ℕ Global)) (one : Taken)
    (other : BagPass) → end ≡ Ok (one, other) → more ≡ lanes ++ Ok (one.lane, one.pass) ∷ [] → next ≡ taken ++ one.indexes ∷ [] → AreSorted ends lanes taken → AreSorted (ends ++ end ∷ []) more next
sorted_more ends end lanes more taken next one other is pushed longer s = record {
  tooks = s.tooks ++ (one, other) ∷ [];
  ends_are = ap (λ l. l ++ end ∷ []) s.ends_are ∙ ap (λ e. map Ok s.tooks ++ e ∷ []) is ∙ sym (map-append Ok s.tooks ((one, other) ∷ []));
  lanes_are = pushed ∙ ap (λ l. l ++ Ok (one.lane, one.pass) ∷ []) s.lanes_are ∙ sym (map-append (λ t. Ok (t.0.lane, t.0.pass)) s.tooks ((one, other) ∷ []));
  taken_are = longer ∙ ap (λ l. l ++ one.indexes ∷ []) s.taken_are ∙ sym (map-append (λ t. t.0.indexes) s.tooks ((one, other) ∷ []));
}

-- the first worker's calls, with others behind that nobody had claimed
longer_at : (at : Place) (calls : List Known) (first rest : List ℕ) (others : List (List ℕ)) (i : ℕ) (r : Record) (c : Known) → IsRecordOf at (get_or (as_lanes calls (first ∷ others)) i []) r c
    → IsRecordOf at (get_or (as_lanes calls ((first ++ rest) ∷ others)) i []) r c
longer_at at calls first rest others zero r c is =
    record_longer at (calls_at calls first) (calls_at calls rest) (calls_at calls (first ++ rest)) (map-append (λ (i : ℕ). get_or calls i (record { method = 0; args = [] })) first rest) r c is
longer_at at calls first rest others (suc i) r c is = is

-- what workers' gates were told, with what nobody had claimed
pub told_workers : (Q : Program) (limits : Limits) (phase : ℕ) (calls : List Known) (ends : List (Result (Taken × BagPass) AllocError)) (lanes : List (Result (Lane × Pass) AllocError)) (taken : List (Vec ℕ Global))
    (rest : List ℕ) (old new : Vec ℕ Global) (before after : List (Option (List Event))) → 1 ≤ length taken → AreSorted ends lanes taken → HaveToldClaimed Q limits phase calls ends before after
    → old ≡ get_or taken 0 old → new.items ≡ old.items ++ rest → HaveTold Q limits phase (as_lanes calls (lists (set taken 0 new))) (map kept_of lanes) before after
told_workers Q limits phase calls ends lanes taken rest old new before after some s have here more =
    let g = grown taken rest old new some here more in
    let tooks = s.tooks in
    let kepts : List (List Record) = map kept_of lanes in
    let many : length kepts ≡ length tooks = length-map lanes kept_of ∙ ap length s.lanes_are ∙ length-map {B = Result (Lane × Pass) AllocError} tooks (λ t. Ok (t.0.lane, t.0.pass)) in
    let long : length ends ≡ length tooks = ap length s.ends_are ∙ length-map {B = Result (Taken × BagPass) AllocError} tooks Ok in
    record {
      len = have.len;
      each = λ i low.
          let within : i < length tooks = omega (arith, low, many) in
          let one = got tooks i within in
          let took = one.0.0 in
          let kept : get_or kepts i [] ≡ took.lane.placed.items =
          ap (λ l. get_or (map kept_of l) i []) s.lanes_are ∙ kept_at tooks i one.0 one.1 in
          let at = first_of phase i in
          let Of : List Known → List Record → Type 0 = λ cs rs. HasTold Q (lane_bounds limits i) (IsRecordOf at cs) rs (Grows (get_or before i None) (get_or after i None)) in
          let P : Result (Taken × BagPass) AllocError → Type 0 = λ e. IfOk e (λ r. Of (calls_at calls r.0.indexes.items) r.0.lane.placed.items) in
          let told = subst P (ap (λ l. get_or l i (Ok one.0)) s.ends_are ∙ got_of Ok tooks i one.0 (Ok one.0) one.1) (have.each i (Ok one.0) (omega (arith, within, long))) in
          let mine : get_or (as_lanes calls (g.0 ∷ g.1)) i [] ≡ calls_at calls took.indexes.items =
          ap (λ l. get_or (as_lanes calls l) i []) (sym g.2 ∙ ap lists s.taken_are) ∙ lane_at tooks i one.0 one.1 in
          let first = subst (λ cs. Of cs took.lane.placed.items) (sym mine) told in
          let all = told_weaker Q (lane_bounds limits i) (IsRecordOf at (get_or (as_lanes calls (g.0 ∷ g.1)) i [])) (IsRecordOf at (get_or (as_lanes calls ((g.0 ++ rest) ∷ g.1)) i []))
          (longer_at at calls g.0 rest g.1 i) took.lane.placed.items _ first in
          subst (λ l. Of (get_or (as_lanes calls l) i []) (get_or kepts i [])) (sym g.3) (subst (Of (get_or (as_lanes calls ((g.0 ++ rest) ∷ g.1)) i [])) (sym kept) all);
      others = λ i high. have.others i (omega (arith, high, many, long));
    }
  where
    kept_at : (ts : List (Taken × BagPass)) (i : ℕ) (x : Taken × BagPass) → slice_get ts i ≡ Some x → get_or (map kept_of (map (λ t. Ok (t.0.lane, t.0.pass)) ts)) i [] ≡ x.0.lane.placed.items
    kept_at [] i x h = cc
    kept_at (y ∷ ts) zero x h = let e : y ≡ x = cc in ap (λ (z : Taken × BagPass). z.0.lane.placed.items) e
    kept_at (y ∷ ts) (suc i) x h = kept_at ts i x h

    lane_at : (ts : List (Taken × BagPass)) (i : ℕ) (x : Taken × BagPass) → slice_get ts i ≡ Some x → get_or (as_lanes calls (lists (map (λ t. t.0.indexes) ts))) i [] ≡ calls_at calls x.0.indexes.items
    lane_at [] i x h = cc
    lane_at (y ∷ ts) zero x h = let e : y ≡ x = cc in ap (λ (z : Taken × BagPass). calls_at calls z.0.indexes.items) e
    lane_at (y ∷ ts) (suc i) x h = lane_at ts i x h
