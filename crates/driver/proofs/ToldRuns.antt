-- What gates are told, phase by phase.
use Rattle.std.proofs.Common.{◌≡◌, ◌≤◌, ◌<◌, ◌+◌, ℕ, List, [], ◌∷◌, ◌++◌, length, get_or, All, AllPairs, Option, Some, None, inl, inr, refl, sym, ◌∙◌, subst, arith}
use Rattle.std.specs.Prelude.{filter, slice_get, IsPermutation}
use Rattle.std.proofs.lemmas.List.Elements.{filter-append, All-append, All-weaker, All-nil, All-head}
use Rattle.std.proofs.lemmas.List.Sorted.{IsPermutation-refl, IsPermutation-append}
use Rattle.std.proofs.lemmas.Option.{slice_get_within, get_or_from_slice_get}
use Rattle.jmodel.specs.history.Schedule.{Known, ScriptPhase}
use Rattle.objects.specs.declared.event.Event.{Event}
use Rattle.objects.specs.semantics.Program.{Program}
use Rattle.objects.specs.rewriting.Events.{Grows}
use Rattle.session.specs.declared.record.Record.{Record}
use Rattle.session.specs.Telling.{HasTold}
use Rattle.session.proofs.Telling.{told_first, told_append, told_weaker}
use Rattle.driver.specs.declared.memory.Limits.{Limits}
use Rattle.driver.specs.Telling.{lane_bounds, is_of_lane, IsCallAt, IsCallOfScript, TellsPhase, TellsScript, Precedes, lanes_in}
use Rattle.driver.proofs.Lists.{all_left, all_right, pairs_nil, pairs_append}
use Rattle.driver.proofs.Rising.{Rises}
use Rattle.driver.proofs.Told.{told_all}
use Rattle.driver.proofs.Renumbered.{pairs_of}

-- what was told after the first n phases
pub record ToldTo (Q : Program) (limits : Limits) (phases first : List ScriptPhase) (placed : List Record) (before after : List (Option (List Event))) : Type 0 where
  pub script : TellsScript Q limits phases placed before after
  pub below : (lane : ℕ) → All (λ (r : Record). r.phase < length first) (filter (is_of_lane lane) script.made)
  pub others : (lane : ℕ) → All (λ p. lanes_in p ≤ lane) first → get_or after lane None ≡ get_or before lane None

module _ (Q : Program) (limits : Limits) (phases : List ScriptPhase) where
  pub told_to_first : (placed : List Record) (x : List (Option (List Event))) → placed ≡ [] → ToldTo Q limits phases [] placed x x
  told_to_first placed x none = record {
    script = record {
      made = [];
      same = subst (λ (rs : List Record). IsPermutation [] rs) (sym none) (IsPermutation-refl []);
      len = refl;
      each = λ lane. told_first Q (lane_bounds limits lane) (IsCallOfScript phases) [] (get_or x lane None) refl;
      ascends = λ lane. pairs_nil Precedes;
      others = λ lane high. refl;
    };
    below = λ lane. All-nil (λ (r : Record). r.phase < 0);
    others = λ lane high. refl;
  }

  module _ (first : List ScriptPhase) (p : ScriptPhase) (there : slice_get phases (length first) ≡ Some p) (placed new : List Record) (x y z : List (Option (List Event)))
      (one : ToldTo Q limits phases first placed x y) (t : TellsPhase Q limits (length first) p placed new y z) where
    abbrev n : ℕ
    n = length first

    in_script : (r : Record) (c : Known) → IsCallAt n p r c → IsCallOfScript phases r c
    in_script r c is = (p, subst (λ (k : ℕ). slice_get phases k ≡ Some p) (sym is.0) there, is.1)

    abbrev of : ℕ → List Record → List Record
    of lane rs = filter (is_of_lane lane) rs

    both : (lane : ℕ) → of lane (one.script.made ++ t.made) ≡ of lane one.script.made ++ of lane t.made
    both lane = filter-append (is_of_lane lane) one.script.made t.made

    abbrev Here : Record → Type 0
    Here r = r.phase ≡ n

    abbrev Low : Record → Type 0
    Low r = r.phase < n

    here : (lane : ℕ) → All Here (of lane t.made)
    here lane = told_all Q (lane_bounds limits lane) (IsCallAt n p) Here (λ r c is. is.0) (of lane t.made) _ (t.told.each lane)

    up : (lane : ℕ) → AllPairs Precedes (of lane t.made)
    up lane = pairs_of Here Rises Precedes (λ r s a b less. inr (a ∙ sym b, less)) (of lane t.made) (here lane) (t.ascends lane)

    pub told_to_next : ToldTo Q limits phases (first ++ p ∷ []) new x z
    told_to_next =
        let long : length (first ++ p ∷ []) ≡ n + 1 = length_more first in
        record {
          script = record {
            made = one.script.made ++ t.made;
            same = subst (λ (rs : List Record). IsPermutation (one.script.made ++ t.made) rs) (sym t.added) (IsPermutation-append one.script.made placed t.made t.more one.script.same t.same);
            len = t.told.len ∙ one.script.len;
            each = λ lane. subst (λ (rs : List Record). HasTold Q (lane_bounds limits lane) (IsCallOfScript phases) rs (Grows (get_or x lane None) (get_or z lane None))) (sym (both lane))
                (told_append Q (lane_bounds limits lane) (IsCallOfScript phases) (of lane one.script.made) (of lane t.made) (get_or x lane None) (get_or y lane None) (get_or z lane None)
                (one.script.each lane) (told_weaker Q (lane_bounds limits lane) (IsCallAt n p) (IsCallOfScript phases) in_script (of lane t.made) _ (t.told.each lane)));
            ascends = λ lane. subst (AllPairs Precedes) (sym (both lane))
                (pairs_append Precedes Low Here (λ r s low at. inl (subst (λ (k : ℕ). r.phase < k) (sym at) low)) (of lane one.script.made) (of lane t.made) (one.script.ascends lane) (up lane)
                (one.below lane) (here lane));
            others = λ lane high. all_phases lane high;
          };
          below = λ lane. subst (All (λ (r : Record). r.phase < length (first ++ p ∷ []))) (sym (both lane))
              (All-append (λ (r : Record). r.phase < length (first ++ p ∷ [])) (of lane one.script.made) (of lane t.made)
              (All-weaker Low (λ (r : Record). r.phase < length (first ++ p ∷ [])) (λ r low. omega (arith, low, long)) (of lane one.script.made) (one.below lane))
              (All-weaker Here (λ (r : Record). r.phase < length (first ++ p ∷ [])) (λ r at. omega (arith, at, long)) (of lane t.made) (here lane)));
          others = λ lane high. next lane high;
        }
      where
        length_more : (ps : List ScriptPhase) → length (ps ++ p ∷ []) ≡ length ps + 1
        length_more [] = refl
        length_more (q ∷ ps) = let h = length_more ps in omega (arith, h)

        next : (lane : ℕ) → All (λ q. lanes_in q ≤ lane) (first ++ p ∷ []) → get_or z lane None ≡ get_or x lane None
        next lane high =
            t.told.others lane (All-head (λ q. lanes_in q ≤ lane) p [] (all_right (λ q. lanes_in q ≤ lane) first (p ∷ []) high))
            ∙ one.others lane (all_left (λ q. lanes_in q ≤ lane) first (p ∷ []) high)

        all_phases : (lane : ℕ) → All (λ q. lanes_in q ≤ lane) phases → get_or z lane None ≡ get_or x lane None
        all_phases lane high = t.told.others lane (all_at lane high) ∙ one.script.others lane high
          where
            all_at : (lane : ℕ) → All (λ q. lanes_in q ≤ lane) phases → lanes_in p ≤ lane
            all_at lane high = let low = slice_get_within phases n p there in subst (λ (q : ScriptPhase). lanes_in q ≤ lane) (get_or_from_slice_get phases n p p there) (high n p low)
