-- The search for a typing ends: each turn takes a place from those that wait, and others wait anew only where types have widened.
use Rattle.std.proofs.Common.{◌≡◌, ◌≢◌, ℕ, zero, suc, ◌+◌, ◌-◌, ◌*◌, ◌<◌, ◌≤◌, inl, inr, List, [], ◌∷◌, ◌++◌, length, replicate, Option, Some, None, Bool, true, false, refl, sym, ap, subst, ◌∙◌, get_or, arith}
use Rattle.std.proofs.lemmas.Bool.Decides.{nat_tests}
use Rattle.std.proofs.lemmas.List.Sums.{sum_by-set, sum_by-cons}
use Rattle.std.proofs.lemmas.Option.{get_or_from_slice_get}
use Rattle.std.specs.Prelude.{not, ◌&&◌, slice_get, slice_set, nat_eq, nat_le, sum_by, if◌then◌else◌}
use Rattle.std.specs.List.{AllByRecursion}
use Rattle.jmodel.specs.declared.typing.VType.{VType}
use Rattle.jmodel.specs.declared.typing.VType.TheVariants.{Top}
use Rattle.objects.specs.declared.op.Op.{Op}
use Rattle.objects.specs.declared.op.Catch.{Catch}
use Rattle.objects.specs.semantics.Program.{Method, Program}
use Rattle.objects.specs.typing.Typing.{Types, Table, FitsIn, Flow, Leads, Wrong, flow, types_at, first_types, first_locals, is_constructor, is_guarded}
use Rattle.objects.specs.typing.Source.{AreTypes}
use Rattle.verifier.specs.Order.{fits_in, joined}
use Rattle.verifier.specs.declared.search.Change.TheVariants.{Nothing, Put, Refused}
use Rattle.verifier.specs.Search.{State, Then, Flows, Demands, Makes, IsPour, IsInserted, IsTaken, waits, is_alike, change_of, demands, each_to, caught, thrown, is_ready, are_throwable, Follows, follows_op, follows_at, IsVisit, starting}
use Rattle.verifier.proofs.Lists.{both, same_length, to_fits, of_fits, joined_first, joined_second, fits_trans}
use Rattle.verifier.proofs.Numbers.{same_or_not, get_same, get_other, get_within, of_entry}
use Rattle.verifier.proofs.Under.{IsFramed}
use Rattle.verifier.proofs.Demands.{AreFramed, demands_framed}
use Rattle.verifier.proofs.Growth.{AreEntered}
use Rattle.verifier.proofs.Pours.{pours}
use Rattle.verifier.proofs.Infers.{Known, left_framed, turn_inside}
use Rattle.verifier.proofs.Closed.{IsFine, all_append}
use Rattle.verifier.proofs.Named.{flow_fine}
use Rattle.verifier.proofs.Bounds.{type_depth, catch_depth, deepest, each_low, closed}
use Rattle.verifier.proofs.Counts.{count, count_put, count_taken}
use Rattle.verifier.proofs.Weights.{weight, AreLow, IsLow, joined_low, fresh_less, wider_less}

-- how often the search can still go on
abbrev pub room : Program → Method → State → ℕ
room P k s = 2 * sum_by (weight P k (deepest P k)) s.table + count (length k.ops) s.waiting

-- no name of a table goes deeper than those of the program
abbrev pub AreLowIn : Program → Method → Table → Type 0
AreLowIn P k T = (q : ℕ) (h : Types) → types_at T q ≡ Some h → IsLow (deepest P k) h

-- what flows leaves no more room
pub record Fell (P : Program) (k : Method) (s n : State) : Type 0 where
  pub low : AreLowIn P k n.table
  pub less : room P k n ≤ room P k s

module _ (P : Program) (C : AreTypes P) (k : Method) where
  -- an entry put at a place
  put_fell : (s n : State) (to : ℕ) (o : Option Types) (g : Types) → slice_get s.table to ≡ Some o → n.table ≡ slice_set s.table to (Some g) → IsInserted to s.waiting n.waiting
      → AreLowIn P k s.table → IsLow (deepest P k) g → weight P k (deepest P k) (Some g) < weight P k (deepest P k) o → Fell P k s n
  put_fell s n to o g old new put low l w = record {
    low = λ q h e. elim (same_or_not q to) as (λ x. IsLow (deepest P k) h) [
      | inl x ↦ let e' : types_at n.table to ≡ Some h = subst (λ (i : ℕ). types_at n.table i ≡ Some h) x e in let a = at_to in let f : g ≡ h = cc (e', a) in subst (IsLow (deepest P k)) f l
      | inr x ↦ low q h (sym (at_other q x) ∙ e)
    ];
    less =
        let f = weight P k (deepest P k) in
        let a = sum_by-set f s.table to (Some g) None inside in
        let b : get_or s.table to None ≡ o = get_or_from_slice_get s.table to o None old in
        let c : sum_by f (slice_set s.table to (Some g)) + f o ≡ sum_by f s.table + f (Some g) = subst (λ (x : Option Types). sum_by f (slice_set s.table to (Some g)) + f x ≡ sum_by f s.table + f (Some g)) b a in
        let d : sum_by f n.table ≡ sum_by f (slice_set s.table to (Some g)) = ap (sum_by f) new in
        let i = count_put to s.waiting n.waiting put (length k.ops) in
        omega arith;
  }
    where
      inside : to < length s.table
      inside = get_within s.table to o old

      at_to : types_at n.table to ≡ Some g
      at_to = of_entry n.table to (Some g) (rw new (get_same s.table to (Some g) inside))

      at_other : (q : ℕ) → q ≢ to → types_at n.table q ≡ types_at s.table q
      at_other q ne = let e : slice_get n.table q ≡ slice_get s.table q = rw new (get_other s.table to q (Some g) ne) in rw e refl

  -- nothing changes
  stays_fell : (s n : State) → AreLowIn P k s.table → n ≡ s → Fell P k s n
  stays_fell s n low e = subst (Fell P k s) (sym e) (record { low = low; less = omega arith })

  -- what flows to a place
  module _ (s n : State) (to : ℕ) (out : Types) (entered : AreEntered P k s.table) (frame : IsFramed P k.locals out) (low : AreLowIn P k s.table) (ol : IsLow (deepest P k) out) (oh : length out.stack ≤ k.max_stack + 1) where
    -- a place that had no types gets some
    empty_fell : slice_get s.table to ≡ Some None → Makes (Put (joined P out out)) to s n true → Fell P k s n
    empty_fell e m =
        let g = joined P out out in
        let f = joined_first P C out out refl refl in
        let gl = joined_low P C (deepest P k) out out ol ol in
        let l : length g.locals ≡ k.locals = sym (same_length P out.locals g.locals f.locals) ∙ frame.places in
        let x = same_length P out.stack g.stack f.stack in
        let h : length g.stack ≤ k.max_stack + 1 = omega arith in
        put_fell s n to None g e m.1 m.2 low gl (fresh_less P C (deepest P k) k g gl l h)

    module _ (h : Types) (e : slice_get s.table to ≡ Some (Some h)) where
      -- the types at the place
      at : types_at s.table to ≡ Some h
      at = of_entry s.table to (Some h) e

      -- wider types are not within the old ones
      not_back : (g : Types) → FitsIn P out g → fits_in P out h ≡ false → (x : Bool) → fits_in P g h ≡ x → fits_in P g h ≡ false
      not_back g f w false i = i
      not_back g f w true i = let y = of_fits P out h (fits_trans P C out g h f (to_fits P g h i)) in absurd (let no : ⊥ = cc (y, w) in no)

      -- a place that had types gets wider ones
      wider_fell : is_alike out h ≡ true → fits_in P out h ≡ false → Makes (Put (joined P h out)) to s n true → Fell P k s n
      wider_fell a w m =
          let g = joined P h out in
          let p = both (nat_eq (length out.locals) (length h.locals)) (nat_eq (length out.stack) (length h.stack)) a in
          let pl = p.0 in
          let ps = p.1 in
          let ls : length h.locals ≡ length out.locals = grind (arith, nat_tests) in
          let ss : length h.stack ≡ length out.stack = grind (arith, nat_tests) in
          let old = joined_first P C h out ls ss in
          let new = joined_second P C h out ls ss in
          let gl = joined_low P C (deepest P k) h out (low to h at) ol in
          put_fell s n to (Some h) g e m.1 m.2 low gl (wider_less P C (deepest P k) k h g old (entered to h at).itself (not_back g new w (fits_in P g h) refl) gl)

      -- so of each change
      merge_fell : (x y v : Bool) → is_alike out h ≡ x → fits_in P out h ≡ y
          → Makes (if not x then Refused else if y then Nothing else if v then Refused else Put (joined P h out)) to s n true → Fell P k s n
      merge_fell false y v a w m = absurd (let no : ⊥ = cc (m) in no)
      merge_fell true true v a w m = stays_fell s n low m.1
      merge_fell true false true a w m = absurd (let no : ⊥ = cc (m) in no)
      merge_fell true false false a w m = wider_fell a w m

    -- so of each flow to a place
    pour_fell : IsPour P to out s n true → Fell P k s n
    pour_fell m = go (slice_get s.table to) refl m
      where
        go : (o : Option (Option Types)) → slice_get s.table to ≡ o → Makes (change_of P to out o) to s n true → Fell P k s n
        go None e m = absurd (let no : ⊥ = cc (m) in no)
        go (Some None) e m = empty_fell e m
        go (Some (Some h)) e m = merge_fell h e (is_alike out h) (fits_in P out h) (nat_eq to 0) refl refl m

  -- what flows to the places of a list
  abbrev AreLowDemands : Demands → Type 0
  AreLowDemands ds = AllByRecursion (λ (d : ℕ × Types). IsLow (deepest P k) d.1 × (length d.1.stack ≤ k.max_stack + 1)) ds

  -- so of a list
  flows_fell : (ds : Demands) (s n : State) → length s.table ≡ length k.ops → types_at s.table 0 ≡ Some (first_types k) → AreEntered P k s.table → AreFramed P k.locals ds → AreLowDemands ds → AreLowIn P k s.table → Flows P ds s n true → Fell P k s n
  flows_fell [] s n size first entered frames lows low g = stays_fell s n low g.1
  flows_fell (d ∷ ds) s n size first entered frames lows low (m, true, a, b) =
      let p = pours P C k s m d.0 d.1 size first entered frames.0 a in
      let x = pour_fell s m d.0 d.1 entered frames.0 low lows.0.0 lows.0.1 a in
      let y = flows_fell ds m n (p.grows.size ∙ size) (p.grows.first ∙ first) p.grows.entered frames.1 lows.1 x.low b in
      record { low = y.low; less = let i = x.less in let j = y.less in omega arith }
  flows_fell (d ∷ ds) s n size first entered frames lows low (m, false, a, b) = absurd (let no : ⊥ = cc (b) in no)

  -- of two lists
  lows_append : (a b : Demands) → AreLowDemands a → AreLowDemands b → AreLowDemands (a ++ b)
  lows_append [] b x y = y
  lows_append (d ∷ a) b x y = (x.0, lows_append a b x.1 y)

  -- to the places where an instruction goes on
  ways_low : (tos : List ℕ) (x : Types) → IsLow (deepest P k) x → length x.stack ≤ k.max_stack → AreLowDemands (each_to tos x)
  ways_low [] x l h = tt
  ways_low (to ∷ tos) x l h = ((l, omega arith), ways_low tos x l h)

  -- to those of entries
  caught_low : (cs : List Catch) (pc : ℕ) (l : List VType) (b : Bool) → sum_by (catch_depth P) cs ≤ deepest P k → AreLow (deepest P k) l → AreLowDemands (caught P cs pc l b)
  caught_low [] pc l b s a = tt
  caught_low (c ∷ cs) pc l b s a =
      let e = sum_by-cons (catch_depth P) c cs in
      let one : catch_depth P c ≤ deepest P k = omega arith in
      let r : sum_by (catch_depth P) cs ≤ deepest P k = omega arith in
      go one (is_guarded c pc) (caught_low cs pc l b r a)
    where
      go : catch_depth P c ≤ deepest P k → (x : Bool) → AreLowDemands (caught P cs pc l b) → AreLowDemands (if x then (c.at, thrown P l b c) ∷ caught P cs pc l b else caught P cs pc l b)
      go one true r = ((record { locals = a; stack = (one, tt) }, omega arith), r)
      go one false r = r

  -- to all of them
  demands_low : (pc : ℕ) (h x : Types) (tos : List ℕ) → IsLow (deepest P k) h → IsLow (deepest P k) x → length x.stack ≤ k.max_stack → AreLowDemands (demands P k pc h tos x)
  demands_low pc h x tos a b l =
      let s : sum_by (catch_depth P) k.catches ≤ deepest P k = omega arith in
      lows_append (each_to tos x) (caught P k.catches pc h.locals h.built ++ caught P k.catches pc x.locals x.built) (ways_low tos x b l)
      (lows_append (caught P k.catches pc h.locals h.built) (caught P k.catches pc x.locals x.built) (caught_low k.catches pc h.locals h.built s a.locals) (caught_low k.catches pc x.locals x.built s b.locals))

  -- what is left of types goes no deeper
  left_low : (pc : ℕ) (h : Types) (o : Op) (tos : List ℕ) (x : Types) → IsLow (deepest P k) h → slice_get k.ops pc ≡ Some o → flow P k pc o h ≡ Leads tos x → IsLow (deepest P k) x
  left_low pc h o tos x l i e =
      let Q : VType → Type 0 = λ t. type_depth t ≤ deepest P k in
      let f : IsFine Q (Leads tos x) = subst (IsFine Q) e (flow_fine P k Q (closed P k) pc h l.locals l.stack o i) in
      record { locals = f.0; stack = f.1 }

  -- an instruction has been looked at
  module _ (pc : ℕ) (s n : State) (size : length s.table ≡ length k.ops) (first : types_at s.table 0 ≡ Some (first_types k)) (entered : AreEntered P k s.table) (low : AreLowIn P k s.table) where
    module _ (h : Types) (at : types_at s.table pc ≡ Some h) where
      -- where it goes on
      ends_fell : (o : Op) (tos : List ℕ) (x : Types) (m t : Bool) → slice_get k.ops pc ≡ Some o → is_ready k h ≡ true → flow P k pc o h ≡ Leads tos x → nat_le (length x.stack) k.max_stack ≡ m
          → Then (m && t) (Flows P (demands P k pc h tos x) s n true) (true ≡ false) → Fell P k s n
      ends_fell o tos x true true i r is a g =
          let le : length x.stack ≤ k.max_stack = grind (arith, nat_tests) in
          let entry = entered pc h at in
          let l = low pc h at in
          flows_fell (demands P k pc h tos x) s n size first entered (demands_framed P k.locals k pc h x tos entry.framed (left_framed P C k pc h o tos x entry r is))
          (demands_low pc h x tos l (left_low pc h o tos x l i is) le) low g
      ends_fell o tos x true false i r is a g = absurd (let no : ⊥ = cc (g) in no)
      ends_fell o tos x false t i r is a g = absurd (let no : ⊥ = cc (g) in no)

      -- so of each flow
      step_fell : (o : Op) (f : Flow) → slice_get k.ops pc ≡ Some o → is_ready k h ≡ true → flow P k pc o h ≡ f → Follows P k pc h f s n true → Fell P k s n
      step_fell o Wrong i r is g = absurd (let no : ⊥ = cc (g) in no)
      step_fell o (Leads tos x) i r is g = ends_fell o tos x (nat_le (length x.stack) k.max_stack) (are_throwable P k.catches pc) i r is refl g

      -- so of each instruction
      ready_fell : (b : Bool) (o : Option Op) → is_ready k h ≡ b → slice_get k.ops pc ≡ o → Then b (follows_op P k pc h o s n true) (true ≡ false) → Fell P k s n
      ready_fell false o r i g = absurd (let no : ⊥ = cc (g) in no)
      ready_fell true None r i g = absurd (let no : ⊥ = cc (g) in no)
      ready_fell true (Some o) r i g = step_fell o (flow P k pc o h) i r refl g

    -- so of each place
    visit_fell : IsVisit P k pc s n true → Fell P k s n
    visit_fell v = go (types_at s.table pc) refl v
      where
        go : (o : Option Types) → types_at s.table pc ≡ o → follows_at P k pc o s n true → Fell P k s n
        go None e g = absurd (let no : ⊥ = cc (g) in no)
        go (Some h) e g = ready_fell h e (is_ready k h) (slice_get k.ops pc) refl refl g

  -- a turn of the search
  module _ (last pc : ℕ) (a b n : State) (known : Known P k last a) (low : AreLowIn P k a.table) (there : waits a.waiting pc ≡ true) (le : pc ≤ last) (taken : IsTaken pc a.waiting b.waiting) (table : b.table ≡ a.table) (v : IsVisit P k pc b n true) where
    -- what it leaves
    fell : Fell P k b n
    fell =
        let same : a.table ≡ b.table = sym table in
        visit_fell pc b n (ap length table ∙ known.size) (ap (λ (T : Table). types_at T 0) table ∙ known.first) (subst (AreEntered P k) same known.entered) (subst (AreLowIn P k) same low) v

    -- no name goes deeper
    pub turn_low : AreLowIn P k n.table
    turn_low = fell.low

    -- less room is left
    pub turn_less : room P k n < room P k a
    turn_less =
        let f = fell.less in
        let t = ap (sum_by (weight P k (deepest P k))) table in
        let c = count_taken pc a.waiting b.waiting there taken (length k.ops) (turn_inside P C k last pc a b n known there le taken table) in
        omega arith

  -- the start
  tops_low : (i : ℕ) → AreLow (deepest P k) (replicate i Top)
  tops_low zero = tt
  tops_low (suc i) = (omega arith, tops_low i)

  -- nor has an object that isn't built
  this_low : (b : Bool) (l : List VType) → AreLow (deepest P k) l → AreLow (deepest P k) (first_locals b l)
  this_low true [] a = tt
  this_low true (t ∷ l) a = (omega arith, a.1)
  this_low false l a = a

  -- the types that a method begins with
  pub start_low : AreLowIn P k (starting k).table
  start_low q h e = subst (IsLow (deepest P k)) (only q h e) (record {
    locals = all_append (λ (t : VType). type_depth t ≤ deepest P k) (first_locals (is_constructor k) k.parameters) (replicate (k.locals - k.places) Top)
        (this_low (is_constructor k) k.parameters (each_low k.parameters (deepest P k) (omega arith))) (tops_low (k.locals - k.places));
    stack = tt;
  })
    where
      none_at : (i q : ℕ) → types_at (replicate i None) q ≡ None
      none_at zero q = refl
      none_at (suc i) zero = refl
      none_at (suc i) (suc q) = none_at i q

      only : (q : ℕ) (h : Types) → types_at (starting k).table q ≡ Some h → first_types k ≡ h
      only zero h e = cc (e)
      only (suc q) h e = let z = none_at (length k.ops - 1) q in absurd (let no : ⊥ = cc (z, e) in no)
