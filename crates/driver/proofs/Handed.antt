-- Lanes that ran with gates of their own, and the gates that came back.
use Rattle.std.proofs.Common.{◌≡◌, ◌<◌, ℕ, zero, suc, List, [], ◌∷◌, ◌++◌, length, map, get_or, Option, Some, None, Result, Ok, refl, sym, ◌∙◌, ap, subst, arith}
use Rattle.std.specs.Prelude.{slice_get, IfOk}
use Rattle.std.specs.declared.alloc.AllocError.{AllocError}
use Rattle.std.proofs.lemmas.List.{length-map}
use Rattle.std.proofs.Math.ListN.{get_or-map}
use Rattle.atomic_table.specs.Seated.{TableId}
use Rattle.jmodel.specs.history.Schedule.{Phase}
use Rattle.objects.specs.declared.event.Event.{Event}
use Rattle.objects.specs.semantics.Program.{Program}
use Rattle.objects.specs.rewriting.Events.{Grows}
use Rattle.tx_table.specs.declared.shared.Pass.{Pass}
use Rattle.session.specs.declared.record.Record.{Record}
use Rattle.session.specs.declared.record.Lane.{Lane}
use Rattle.session.specs.Telling.{IsRecordOf, HasTold}
use Rattle.driver.specs.declared.memory.Limits.{Limits}
use Rattle.driver.specs.declared.table.Start.{Start}
use Rattle.tx_table.specs.Passes.{book}
use Rattle.driver.specs.Passing.{used_of, first_of, IsOfOne, AreStarting, HasEnded, HaveEnded}
use Rattle.driver.specs.Telling.{lane_bounds, kept_of, AreBegun, HasRunLane, HaveRunLanes, HaveTold}
use Rattle.driver.proofs.Handing.{told_at, told_behind, told_long, told_parts}

-- the element at a place within a list
pub got : {A : Type 0} → (xs : List A) → (i : ℕ) → i < length xs → (x : A) × (slice_get xs i ≡ Some x)
got [] i low = absurd (omega (arith, low))
got (x ∷ xs) zero low = (x, refl)
got (x ∷ xs) (suc i) low = got xs i (omega (arith, low))

pub got_of : {A B : Type 0} → (f : A → B) → (xs : List A) → (i : ℕ) → (x : A) → (d : B) → slice_get xs i ≡ Some x → get_or (map f xs) i d ≡ f x
got_of f [] i x d h = cc
got_of f (y ∷ xs) zero x d h = let e : y ≡ x = cc in ap f e
got_of f (y ∷ xs) (suc i) x d h = got_of f xs i x d h

pub got_here : {A : Type 0} → (xs : List A) → (i : ℕ) → (x d : A) → slice_get xs i ≡ Some x → get_or xs i d ≡ x
got_here [] i x d h = cc
got_here (y ∷ xs) zero x d h = cc
got_here (y ∷ xs) (suc i) x d h = got_here xs i x d h

module _ {G : Type 0} (told : G → Option (List Event)) (Q : Program) (limits : Limits) (t : TableId) (seen phase : ℕ) (lanes : Phase) (begun : List (Start × G)) where
  -- lanes that may start may start with gates
  pub begun_of : (starts : List Start) → map (λ p. p.0) begun ≡ starts → AreStarting t seen phase starts → AreBegun t seen phase begun
  begun_of starts are starting = λ i b low.
      let S : List Start → Type 0 = λ l. AreStarting t seen phase l in
      let all = subst S (sym are) starting in
      let here : get_or (map (λ p. p.0) begun) i b.0 ≡ (get_or begun i b).0 = get_or-map (λ p. p.0) begun i b in
      let within : i < length (map (λ p. p.0) begun) = (let long = length-map begun (λ p. p.0) in omega (arith, low, long)) in
      subst (λ (s : Start). (s.lane ≡ i) × (s.used ≡ used_of (book s.pass) i) × IsOfOne t seen (first_of phase i) s.pass) here (all i b.0 within)

  module _ (ran : List ((Lane × Pass) × G)) (have : HaveRunLanes told Q limits t seen phase lanes begun (map Ok ran)) where
    many : length begun ≡ length ran
    many = sym have.len ∙ length-map {B = Result ((Lane × Pass) × G) AllocError} ran Ok

    at : (i : ℕ) (r : (Lane × Pass) × G) (b : Start × G) → slice_get ran i ≡ Some r → slice_get begun i ≡ Some b → i < length ran → HasRunLane told Q limits t seen phase i (get_or lanes i []) (told b.1) r
    at i r b there first low =
        let within : i < length (map Ok ran) = (let long = length-map {B = Result ((Lane × Pass) × G) AllocError} ran Ok in omega (arith, low, long)) in
        let P : Start × G → Result ((Lane × Pass) × G) AllocError → Type 0 = λ c e. IfOk e (HasRunLane told Q limits t seen phase i (get_or lanes i []) (told c.1)) in
        subst (λ (c : Start × G). P c (Ok r)) (got_here begun i b b first) (subst (P (get_or begun i b)) (got_of Ok ran i r (Ok r) there) (have.each i (Ok r) b within))

    -- as lanes that have ended
    pub ended_of : length begun ≡ length lanes → HaveEnded t seen phase lanes (map (λ r. Ok r.0) ran)
    ended_of whole = record {
      len = length-map {B = Result (Lane × Pass) AllocError} ran (λ r. Ok r.0) ∙ sym many ∙ whole;
      each = λ i e low.
          let within : i < length ran = (let long = length-map {B = Result (Lane × Pass) AllocError} ran (λ r. Ok r.0) in omega (arith, low, long)) in
          let r = got ran i within in
          let b = got begun i (omega (arith, within, many)) in
          subst (λ (x : Result (Lane × Pass) AllocError). IfOk x (HasEnded t seen phase i (get_or lanes i []))) (sym (got_of (λ r. Ok r.0) ran i r.0 e r.1)) (at i r.0 b.0 r.1 b.1 within).0;
    }

    -- and what their gates were told
    pub have_told : (left before after : List G) → map (λ p. p.1) begun ++ left ≡ before → after ≡ map (λ r. r.1) ran ++ left
        → HaveTold Q limits phase lanes (map kept_of (map (λ r. Ok r.0) ran)) (map told before) (map told after)
    have_told left before after given back =
        let old = told_parts told (λ (p : Start × G). p.1) begun left before given in
        let new = told_parts told (λ (r : (Lane × Pass) × G). r.1) ran left after (sym back) in
        let a : Start × G → Option (List Event) = λ p. told p.1 in
        let b : (Lane × Pass) × G → Option (List Event) = λ r. told r.1 in
        let rest = map told left in
        let long : length (map kept_of (map (λ r. Ok r.0) ran)) ≡ length ran = length-map (map (λ r. Ok r.0) ran) kept_of ∙ length-map {B = Result (Lane × Pass) AllocError} ran (λ r. Ok r.0) in
        subst (λ (l : List (Option (List Event))). HaveTold Q limits phase lanes (map kept_of (map (λ r. Ok r.0) ran)) l (map told after)) (sym old)
        (subst (HaveTold Q limits phase lanes (map kept_of (map (λ r. Ok r.0) ran)) (map a begun ++ rest)) (sym new) (record {
          len = told_long a b begun ran rest many;
          each = λ i low.
              let within : i < length ran = omega (arith, low, long) in
              let r = got ran i within in
              let p = got begun i (omega (arith, within, many)) in
              let one = (at i r.0 p.0 r.1 p.1 within).1 in
              let kept : get_or (map kept_of (map (λ r. Ok r.0) ran)) i [] ≡ r.0.0.0.placed.items = kept_at ran i r.0 r.1 in
              let Of : List Record → Option (List Event) → Option (List Event) → Type 0 = λ rs x y. HasTold Q (lane_bounds limits i) (IsRecordOf (first_of phase i) (get_or lanes i [])) rs (Grows x y) in
              subst (λ (rs : List Record). Of rs (get_or (map a begun ++ rest) i None) (get_or (map b ran ++ rest) i None)) (sym kept)
              (subst (λ (x : Option (List Event)). Of r.0.0.0.placed.items x (get_or (map b ran ++ rest) i None)) (sym (told_at a begun rest i p.0 p.1))
              (subst (Of r.0.0.0.placed.items (told p.0.1)) (sym (told_at b ran rest i r.0 r.1)) one));
          others = λ i high. told_behind a b begun ran rest many i (omega (arith, high, long));
        }))
      where
        kept_at : (rs : List ((Lane × Pass) × G)) (i : ℕ) (r : (Lane × Pass) × G) → slice_get rs i ≡ Some r → get_or (map kept_of (map (λ r. Ok r.0) rs)) i [] ≡ r.0.0.placed.items
        kept_at [] i r h = cc
        kept_at (s ∷ rs) zero r h = let e : s ≡ r = cc in ap (λ (z : (Lane × Pass) × G). z.0.0.placed.items) e
        kept_at (s ∷ rs) (suc i) r h = kept_at rs i r h
