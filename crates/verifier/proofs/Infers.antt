-- A search finds the narrowest table that meets the rules up to a place, or there is none.
use Rattle.std.proofs.Common.{◌≡◌, ◌≢◌, ℕ, zero, suc, ◌-◌, ◌<◌, ◌≤◌, inl, inr, List, [], ◌∷◌, ◌++◌, length, replicate, Option, Some, None, Bool, true, false, cond, refl, sym, ap, subst, ◌∙◌, arith}
use Rattle.std.proofs.lemmas.Bool.Decides.{nat_tests}
use Rattle.std.proofs.lemmas.List.{length-replicate}
use Rattle.std.specs.Prelude.{◌&&◌, slice_get, nat_eq, nat_le, is_some}
use Rattle.std.specs.List.{AllByRecursion}
use Rattle.std.specs.Ordering.{nat_cmp}
use Rattle.std.specs.BTreeMap.{is_at}
use Rattle.jmodel.specs.declared.typing.VType.{VType}
use Rattle.jmodel.specs.declared.typing.VType.TheVariants.{Top}
use Rattle.objects.specs.declared.op.Op.{Op}
use Rattle.objects.specs.declared.op.Catch.{Catch}
use Rattle.objects.specs.semantics.Program.{Method, Program}
use Rattle.objects.specs.typing.TypeOrder.{AreWithin, IsLocals}
use Rattle.objects.specs.typing.Typing.{Types, Table, FitsIn, Covers, AreCaught, KeepsAt, KeepsFlow, Flow, Leads, Wrong, flow, IsTypedAt, IsTyping, IsTypingUpTo, IsNarrowest, IsUntypableAt, types_at, first_types, first_locals, is_constructor}
use Rattle.objects.specs.typing.Source.{AreTypes}
use Rattle.verifier.specs.Bounded.{IsUntypedUpTo, IsTableUpTo, IsFoundUpTo}
use Rattle.verifier.specs.Search.{State, Then, Flows, IsTaken, waits, demands, is_ready, is_entered, are_throwable, are_locals_after, Follows, follows_op, follows_at, IsVisit, starting}
use Rattle.verifier.proofs.Lists.{both, and_true}
use Rattle.verifier.proofs.Locals.{to_locals, of_locals}
use Rattle.verifier.proofs.Stacks.{to_ready, of_ready}
use Rattle.verifier.proofs.Under.{AreUnder, within_under, Narrower, IsFramed}
use Rattle.verifier.proofs.Narrow.{flow_narrow}
use Rattle.verifier.proofs.Numbers.{same_or_not, at_same, at_self, get_within, to_entry}
use Rattle.verifier.proofs.Demands.{Above, Met, AreFramed, covers_up, to_demands, of_demands, demands_down, demands_framed, to_throwable}
use Rattle.verifier.proofs.Growth.{Entered, AreEntered, AreCovered}
use Rattle.verifier.proofs.Pours.{Flowed, flows, blocked}

-- what is known of a search that looks at no place behind a last one
pub record Known (P : Program) (k : Method) (last : ℕ) (s : State) : Type 0 where
  pub size : length s.table ≡ length k.ops
  pub first : types_at s.table 0 ≡ Some (first_types k)
  pub entered : AreEntered P k s.table
  pub keeps : (q : ℕ) (h : Types) → types_at s.table q ≡ Some h → waits s.waiting q ≡ false → IsTypedAt P k s.table q h
  pub there : (q : ℕ) → waits s.waiting q ≡ true → (h : Types) × (types_at s.table q ≡ Some h)
  pub forced : (U : Table) → IsTypingUpTo P k last U → AreCovered P k U s.table

under_length : (P : Program) (a b : List VType) → AreUnder P a b → length a ≡ length b
under_length P [] [] u = refl
under_length P (t ∷ a) (v ∷ b) u = ap suc (under_length P a b u.1)
under_length P [] (v ∷ b) u = absurd u
under_length P (t ∷ a) [] u = absurd u

up_to : (P : Program) (k : Method) (a b : ℕ) (U : Table) → a ≤ b → IsTypingUpTo P k b U → IsTypingUpTo P k a U
up_to P k a b U le t = record { first = t.first; each = λ q h l e. let l' : q ≤ b = omega arith in t.each q h l' e }

module _ (P : Program) (C : AreTypes P) (k : Method) where
  caught_up : (T N : Table) (q : ℕ) (l : List VType) (b : Bool) (cs : List Catch) → ((q : ℕ) (g : Types) → types_at T q ≡ Some g → Above P N q g) → AreCaught P k T q l b cs → AreCaught P k N q l b cs
  caught_up T N q l b [] up a = tt
  caught_up T N q l b (c ∷ cs) up a = (λ g. let x = a.0 g in (x.0, covers_up P C k T N _ c.at up x.1), caught_up T N q l b cs up a.1)

  typed_up : (T N : Table) (q : ℕ) (h : Types) → ((q : ℕ) (g : Types) → types_at T q ≡ Some g → Above P N q g) → IsTypedAt P k T q h → IsTypedAt P k N q h
  typed_up T N q h up t = record { locals = t.locals; each_local = t.each_local; room = t.room; stack = t.stack; keeps = at (slice_get k.ops q) t.keeps }
    where
      all : (x : Types) (tos : List ℕ) → AllByRecursion (Covers P k T x) tos → AllByRecursion (Covers P k N x) tos
      all x [] a = tt
      all x (to ∷ tos) a = (covers_up P C k T N x to up a.0, all x tos a.1)

      go : (f : Flow) → KeepsFlow P k T q h f → KeepsFlow P k N q h f
      go Wrong a = absurd a
      go (Leads tos x) a = record { room = a.room; goes = all x tos a.goes; before = caught_up T N q h.locals h.built k.catches up a.before; after = caught_up T N q x.locals x.built k.catches up a.after }

      at : (o : Option Op) → KeepsAt P k T q h o → KeepsAt P k N q h o
      at None a = absurd a
      at (Some o) a = go (flow P k q o h) a

  -- what an instruction does to a frame, and how a table takes it
  record Kept (U : Table) (pc : ℕ) (h : Types) (o : Op) : Type 0 where
    to : List ℕ
    left : Types
    is : flow P k pc o h ≡ Leads to left
    room : length left.stack ≤ k.max_stack
    throws : are_throwable P k.catches pc ≡ true
    met : Met P k U (demands P k pc h to left)

  -- the rules over wider types hold over narrower ones
  kept_down : (U : Table) (pc : ℕ) (h g : Types) (o : Op) → FitsIn P h g → IsLocals h.locals → IsTypedAt P k U pc g → KeepsFlow P k U pc g (flow P k pc o g) → Kept U pc h o
  kept_down U pc h g o f hl t keeps = go (flow P k pc o h) (flow P k pc o g) refl (flow_narrow P C pc h g f hl t.each_local t.stack k o) keeps
    where
      go : (a b : Flow) → flow P k pc o h ≡ a → Narrower P (length h.locals) a b → KeepsFlow P k U pc g b → Kept U pc h o
      go a Wrong i n m = absurd m
      go Wrong (Leads tos y) i n m = absurd n
      go (Leads to x) (Leads tos y) i n m =
          let e = n.0 in
          let u = n.1 in
          let l = under_length P x.stack y.stack u.stack in
          let r = m.room in
          let room : length x.stack ≤ k.max_stack = omega arith in
          let w = within_under P C h.locals g.locals f.locals in
          record {
            to = to;
            left = x;
            is = i;
            room = room;
            throws = to_throwable P k U k.catches pc g.locals g.built m.before;
            met = demands_down P k U pc h g x y to w f.built u (subst (λ (l : List ℕ). Met P k U (demands P k pc g l y)) (sym e) (to_demands P k U pc g y tos m));
          }

  -- what is left of a frame is one
  pub left_framed : (pc : ℕ) (h : Types) (o : Op) (to : List ℕ) (x : Types) → Entered P k h → is_ready k h ≡ true → flow P k pc o h ≡ Leads to x → IsFramed P k.locals x
  left_framed pc h o to x e r i =
      let s = to_ready k h r in
      let n = flow_narrow P C pc h h e.itself e.framed.each e.framed.each s.1 k o in
      let m : Narrower P (length h.locals) (Leads to x) (Leads to x) = subst (λ (f : Flow). Narrower P (length h.locals) f f) i n in
      subst (λ (z : ℕ). IsFramed P z x) e.framed.places m.2

  -- a place is taken from those that wait, and its instruction is looked at
  module _ (last pc : ℕ) (T : Table) (vs ws : List ℕ) (known : Known P k last (record { table = T; waiting = vs })) (pc_waits : waits vs pc ≡ true) (pc_le : pc ≤ last) (taken : IsTaken pc vs ws) (n : State) where
    abbrev s : State
    s = record { table = T; waiting = ws }

    -- another place waits if it did
    still : (q : ℕ) → q ≢ pc → waits ws q ≡ false → waits vs q ≡ false
    still q ne w = go (is_at (nat_cmp pc) q) refl (sym (taken q) ∙ w)
      where
        go : (b : Bool) → is_at (nat_cmp pc) q ≡ b → cond b false (waits vs q) ≡ false → waits vs q ≡ false
        go true e c = absurd (ne (at_same pc q e))
        go false e c = c

    waits_more : (q : ℕ) → waits ws q ≡ true → waits vs q ≡ true
    waits_more q w = go (is_at (nat_cmp pc) q) (sym (taken q) ∙ w)
      where
        go : (b : Bool) → cond b false (waits vs q) ≡ true → waits vs q ≡ true
        go true c = absurd (let no : ⊥ = cc (c) in no)
        go false c = c

    module _ (h : Types) (at : types_at T pc ≡ Some h) where
      entry : Entered P k h
      entry = known.entered pc h at

      -- the rules of the instruction, in each table that meets those up to here
      rules : (U : Table) → IsTypingUpTo P k last U → (c : Covers P k U h pc) × IsTypedAt P k U pc c.types
      rules U t = let c = known.forced U t pc h at in (c, t.each pc c.types pc_le c.there)

      ruled : (o : Op) → slice_get k.ops pc ≡ Some o → (U : Table) → IsTypingUpTo P k last U → Kept U pc h o
      ruled o i U t =
          let r = rules U t in
          let c = r.0 in
          kept_down U pc h c.types o c.fits entry.framed.each r.1 (subst (KeepsAt P k U pc c.types) i r.1.keeps)

      ruled_ready : (U : Table) → IsTypingUpTo P k last U → is_ready k h ≡ true
      ruled_ready U t = let r = rules U t in of_ready P k h r.0.types r.0.fits r.1.room r.1.stack

      ruled_met : (o : Op) (to : List ℕ) (x : Types) → slice_get k.ops pc ≡ Some o → flow P k pc o h ≡ Leads to x → (U : Table) → IsTypingUpTo P k last U → Met P k U (demands P k pc h to x)
      ruled_met o to x i is U t =
          let r = ruled o i U t in
          let ri = r.is in
          let a : r.to ≡ to = cc (ri, is) in
          let b : r.left ≡ x = cc (ri, is) in
          subst (λ (to : List ℕ). Met P k U (demands P k pc h to x)) a (subst (λ (x : Types). Met P k U (demands P k pc h r.to x)) b r.met)

      next : (o : Op) (to : List ℕ) (x : Types) → slice_get k.ops pc ≡ Some o → is_ready k h ≡ true → flow P k pc o h ≡ Leads to x → length x.stack ≤ k.max_stack → are_throwable P k.catches pc ≡ true → Flowed P k s n (demands P k pc h to x) → Known P k last n
      next o to x i ready is fits throws f = record {
        size = f.grows.size ∙ known.size;
        first = f.grows.first ∙ known.first;
        entered = f.grows.entered;
        keeps = λ q g y v. elim (same_or_not q pc) as (λ z. IsTypedAt P k n.table q g) [
          | inl z ↦ subst (λ (j : ℕ). IsTypedAt P k n.table j g) (sym z)
              (let y' : types_at T pc ≡ Some g = subst (λ (j : ℕ). types_at T j ≡ Some g) z (f.grows.fresh q g y v) in
              let same : h ≡ g = cc (y', at) in
              let r = to_ready k h ready in
              let kf : KeepsFlow P k n.table pc h (flow P k pc o h) = subst (KeepsFlow P k n.table pc h) (sym is) (of_demands P k n.table pc h x to fits throws f.met) in
              let t : IsTypedAt P k n.table pc h = record { locals = entry.framed.places; each_local = entry.framed.each; room = r.0; stack = r.1; keeps = subst (KeepsAt P k n.table pc h) (sym i) kf } in
              subst (IsTypedAt P k n.table pc) same t)
          | inr z ↦ typed_up T n.table q g f.grows.kept (known.keeps q g (f.grows.fresh q g y v) (still q z (f.grows.waited q v)))
        ];
        there = λ q w. elim (f.grows.there q w) as (λ x. (h : Types) × (types_at n.table q ≡ Some h)) [
          | inl x ↦ let y = known.there q (waits_more q x) in let z = f.grows.kept q y.0 y.1 in (z.types, z.there)
          | inr x ↦ x
        ];
        forced = λ U t. f.forced U (known.forced U t) (ruled_met o to x i is U t);
      }

      abbrev does : Option Op → Bool → Type 0
      does o b = Then (is_ready k h) (follows_op P k pc h o s n b) (b ≡ false)

      framed : (o : Op) (to : List ℕ) (x : Types) → is_ready k h ≡ true → flow P k pc o h ≡ Leads to x → AreFramed P k.locals (demands P k pc h to x)
      framed o to x r i = demands_framed P k.locals k pc h x to entry.framed (left_framed pc h o to x entry r i)

      false_true : (b : Bool) → b ≡ false → b ≡ true → ⊥
      false_true true e f = cc
      false_true false e f = cc

      holds : does (slice_get k.ops pc) true → Known P k last n
      holds g = go (is_ready k h) (slice_get k.ops pc) refl refl g
        where
          ends : (o : Op) (to : List ℕ) (x : Types) (m t : Bool) → slice_get k.ops pc ≡ Some o → is_ready k h ≡ true → flow P k pc o h ≡ Leads to x → nat_le (length x.stack) k.max_stack ≡ m → are_throwable P k.catches pc ≡ t
              → Then (m && t) (Flows P (demands P k pc h to x) s n true) (true ≡ false) → Known P k last n
          ends o to x true true i r is a b g =
              let le : length x.stack ≤ k.max_stack = grind (arith, nat_tests) in
              next o to x i r is le b (flows P C k (demands P k pc h to x) s n known.size known.first known.entered (framed o to x r is) g)
          ends o to x true false i r is a b g = absurd (false_true true g refl)
          ends o to x false t i r is a b g = absurd (false_true true g refl)

          step : (o : Op) (f : Flow) → slice_get k.ops pc ≡ Some o → is_ready k h ≡ true → flow P k pc o h ≡ f → Follows P k pc h f s n true → Known P k last n
          step o Wrong i r is g = absurd (false_true true g refl)
          step o (Leads to x) i r is g = ends o to x (nat_le (length x.stack) k.max_stack) (are_throwable P k.catches pc) i r is refl refl g

          go : (b : Bool) (o : Option Op) → is_ready k h ≡ b → slice_get k.ops pc ≡ o → Then b (follows_op P k pc h o s n true) (true ≡ false) → Known P k last n
          go false o r i g = absurd (false_true true g refl)
          go true None r i g = absurd (false_true true g refl)
          go true (Some o) r i g = step o (flow P k pc o h) i r refl g

      abbrev Fails : Type 0
      Fails = (U : Table) → IsTypingUpTo P k last U → ⊥

      fails : does (slice_get k.ops pc) false → Fails
      fails g = go (is_ready k h) (slice_get k.ops pc) refl refl g
        where
          ends : (o : Op) (to : List ℕ) (x : Types) (m t : Bool) → slice_get k.ops pc ≡ Some o → is_ready k h ≡ true → flow P k pc o h ≡ Leads to x → nat_le (length x.stack) k.max_stack ≡ m → are_throwable P k.catches pc ≡ t
              → Then (m && t) (Flows P (demands P k pc h to x) s n false) (false ≡ false) → Fails
          ends o to x true true i r is a b g U t = blocked P C k (demands P k pc h to x) s n known.size known.first known.entered (framed o to x r is) g U t.first (known.forced U t) (ruled_met o to x i is U t)
          ends o to x true false i r is a b g U t = let u = ruled o i U t in let th = u.throws in absurd (false_true (are_throwable P k.catches pc) b th)
          ends o to x false b i r is a c g U t =
              let u = ruled o i U t in
              let ui = u.is in
              let same : u.left ≡ x = cc (ui, is) in
              let le : length x.stack ≤ k.max_stack = subst (λ (x : Types). length x.stack ≤ k.max_stack) same u.room in
              absurd (grind (arith, nat_tests))

          step : (o : Op) (f : Flow) → slice_get k.ops pc ≡ Some o → is_ready k h ≡ true → flow P k pc o h ≡ f → Follows P k pc h f s n false → Fails
          step o Wrong i r is g U t = let u = ruled o i U t in let ui = u.is in absurd (let no : ⊥ = cc (ui, is) in no)
          step o (Leads to x) i r is g U t = ends o to x (nat_le (length x.stack) k.max_stack) (are_throwable P k.catches pc) i r is refl refl g U t

          go : (b : Bool) (o : Option Op) → is_ready k h ≡ b → slice_get k.ops pc ≡ o → Then b (follows_op P k pc h o s n false) (false ≡ false) → Fails
          go false o r i g U t = absurd (false_true (is_ready k h) r (ruled_ready U t))
          go true None r i g U t = let q = rules U t in subst (KeepsAt P k U pc q.0.types) i q.1.keeps
          go true (Some o) r i g U t = step o (flow P k pc o h) i r refl g U t

    found : (h : Types) × (types_at T pc ≡ Some h)
    found = known.there pc pc_waits

    as_found : (b : Bool) → IsVisit P k pc s n b → does found.0 found.1 (slice_get k.ops pc) b
    as_found b v = subst (λ (o : Option Types). follows_at P k pc o s n b) found.1 v

    pub visit_holds : IsVisit P k pc s n true → Known P k last n
    visit_holds v = holds found.0 found.1 (as_found true v)

    pub visit_fails : IsVisit P k pc s n false → IsUntypedUpTo P k last
    visit_fails v = fails found.0 found.1 (as_found false v)

    pub place_inside : pc < length k.ops
    place_inside = let e = to_entry T pc found.0 found.1 in let i = get_within T pc (Some found.0) e in let z = known.size in omega arith

-- a turn of the search
module _ (P : Program) (C : AreTypes P) (k : Method) (last pc : ℕ) (a b n : State) (known : Known P k last a) (there : waits a.waiting pc ≡ true) (le : pc ≤ last) (taken : IsTaken pc a.waiting b.waiting) (table : b.table ≡ a.table) where
  known_open : Known P k last (record { table = b.table; waiting = a.waiting })
  known_open = subst (λ (T : Table). Known P k last (record { table = T; waiting = a.waiting })) (sym table) known

  pub turn_holds : IsVisit P k pc b n true → Known P k last n
  turn_holds v = visit_holds P C k last pc b.table a.waiting b.waiting known_open there le taken n v

  pub turn_fails : IsVisit P k pc b n false → IsUntypedUpTo P k last
  turn_fails v = visit_fails P C k last pc b.table a.waiting b.waiting known_open there le taken n v

  pub turn_inside : pc < length k.ops
  turn_inside = place_inside P C k last pc b.table a.waiting b.waiting known_open there le taken n

-- no place up to the last one waits
pub known_found : (P : Program) (k : Method) (last : ℕ) (s : State) → Known P k last s → ((q : ℕ) → q ≤ last → waits s.waiting q ≡ false) → IsTableUpTo P k last s.table
known_found P k last s known still = record {
  size = known.size;
  typing = record { first = known.first; each = λ q h l t. known.keeps q h t (still q l) };
  narrowest = known.forced;
}

-- a table up to the last instruction is a typing
pub found_typing : (P : Program) (k : Method) (last : ℕ) (T : Table) → length k.ops ≤ suc last → IsTableUpTo P k last T → IsTyping P k T
found_typing P k last T le f = record {
  first = f.typing.first;
  each = λ q h t.
      let i = get_within T q (Some h) (to_entry T q h t) in
      let z = f.size in
      let l : q ≤ last = omega arith in
      f.typing.each q h l t;
}

pub found_narrowest : (P : Program) (k : Method) (last : ℕ) (T : Table) → IsTableUpTo P k last T → IsNarrowest P k T
found_narrowest P k last T f U t = f.narrowest U (record { first = t.first; each = λ q h l e. t.each q h e })

-- a table up to a place is one up to each lower place
pub found_before : (P : Program) (k : Method) (last : ℕ) (o : Option Table) → IsFoundUpTo P k last o → is_some o ≡ true → (q : ℕ) → q ≤ last → (U : Table) × IsTypingUpTo P k q U
found_before P k last None f e q le = absurd (let no : ⊥ = cc (e) in no)
found_before P k last (Some T) f e q le = (T, up_to P k q last T le f.typing)

-- the start
first_frame : (P : Program) (k : Method) → is_entered k ≡ true → IsFramed P k.locals (first_types k)
first_frame P k e =
    let p = both (nat_eq (length (first_types k).locals) k.locals) (are_locals_after false (first_types k).locals) e in
    let a = p.0 in
    record { places = grind (arith, nat_tests); each = to_locals false (first_types k).locals p.1 }

tops_itself : (P : Program) (n : ℕ) → AreWithin P (replicate n Top) (replicate n Top)
tops_itself P zero = tt
tops_itself P (suc n) = (refl, tops_itself P n)

front_itself : (P : Program) (l m : List VType) → AreWithin P l l → AreWithin P m m → AreWithin P (l ++ m) (l ++ m)
front_itself P [] m a b = b
front_itself P (t ∷ l) m a b = (a.0, front_itself P l m a.1 b)

this_itself : (P : Program) (b : Bool) (l : List VType) → AreWithin P l l → AreWithin P (first_locals b l) (first_locals b l)
this_itself P true [] a = tt
this_itself P true (t ∷ l) a = (refl, a.1)
this_itself P false l a = a

first_itself : (P : Program) (k : Method) → AreWithin P k.parameters k.parameters → FitsIn P (first_types k) (first_types k)
first_itself P k a = record { locals = front_itself P (first_locals (is_constructor k) k.parameters) (replicate (k.locals - k.places) Top) (this_itself P (is_constructor k) k.parameters a) (tops_itself P (k.locals - k.places)); stack = tt; built = λ b. b }

-- no table meets the rules of a method that isn't entered
pub none_entered : (P : Program) (k : Method) (last : ℕ) → is_entered k ≡ false → IsUntypedUpTo P k last
none_entered P k last e U t =
    let z : 0 ≤ last = omega arith in
    let a = t.each 0 (first_types k) z t.first in
    let l = a.locals in
    let x : nat_eq (length (first_types k).locals) k.locals ≡ true = grind (arith, nat_tests) in
    let y = and_true (nat_eq (length (first_types k).locals) k.locals) (are_locals_after false (first_types k).locals) x (of_locals false (first_types k).locals a.each_local) in
    absurd (let no : ⊥ = cc (y, e) in no)

none_at : (n q : ℕ) → types_at (replicate n None) q ≡ None
none_at zero q = refl
none_at (suc n) zero = refl
none_at (suc n) (suc q) = none_at n q

pub known_start : (P : Program) (k : Method) (last : ℕ) → 0 < length k.ops → AreWithin P k.parameters k.parameters → is_entered k ≡ true → Known P k last (starting k)
known_start P k last some itself entered =
    let n = length-replicate {A = Option Types} (length k.ops - 1) None in
    let size : suc (length (replicate (length k.ops - 1) None)) ≡ length k.ops = omega arith in
    let one : Entered P k (first_types k) = record { framed = first_frame P k entered; itself = first_itself P k itself } in
    record {
      size = size;
      first = refl;
      entered = λ q h e. subst (Entered P k) (only q h e).1 one;
      keeps = λ q h e w. let z = (only q h e).0 in let a = at_self 0 in let b : waits (0 ∷ []) 0 ≡ true = simp a in let c : waits (0 ∷ []) 0 ≡ false = subst (λ (j : ℕ). waits (0 ∷ []) j ≡ false) z w in absurd (let no : ⊥ = cc (b, c) in no);
      there = λ q w. waiting q w;
      forced = λ U t q h e. let x = only q h e in
          let f : Covers P k U (first_types k) 0 = record { inside = some; types = first_types k; there = t.first; fits = first_itself P k itself } in
          subst (λ (j : ℕ). Covers P k U h j) (sym x.0) (subst (λ (y : Types). Covers P k U y 0) x.1 f);
    }
  where
    only : (q : ℕ) (h : Types) → types_at (starting k).table q ≡ Some h → (q ≡ 0) × (first_types k ≡ h)
    only zero h e = (refl, cc (e))
    only (suc q) h e = let z = none_at (length k.ops - 1) q in absurd (let no : ⊥ = cc (z, e) in no)

    waiting : (q : ℕ) → waits (0 ∷ []) q ≡ true → (h : Types) × (types_at (starting k).table q ≡ Some h)
    waiting q w = go (is_at (nat_cmp q) 0) refl
      where
        go : (b : Bool) → is_at (nat_cmp q) 0 ≡ b → (h : Types) × (types_at (starting k).table q ≡ Some h)
        go true e = let z = at_same q 0 e in (first_types k, subst (λ (j : ℕ). types_at (starting k).table j ≡ Some (first_types k)) z refl)
        go false e = let x : waits (0 ∷ []) q ≡ false = simp e in absurd (let no : ⊥ = cc (x, w) in no)

pub none_empty : (P : Program) (k : Method) → length k.ops ≡ 0 → IsUntypableAt P k 0
none_empty P k e = record { none = λ U t. let z : 0 ≤ 0 = omega arith in go U (slice_get k.ops 0) refl (t.each 0 (first_types k) z t.first).keeps; before = λ q l. absurd (omega arith) }
  where
    go : (U : Table) (o : Option Op) → slice_get k.ops 0 ≡ o → KeepsAt P k U 0 (first_types k) o → ⊥
    go U None i g = g
    go U (Some o) i g = let x = get_within k.ops 0 o i in absurd (omega arith)
