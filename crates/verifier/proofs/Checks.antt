-- The tests of a given table, and what they mean.
use Rattle.std.proofs.Common.{◌≡◌, ℕ, zero, suc, ◌+◌, ◌<◌, ◌≤◌, List, [], ◌∷◌, ◌++◌, length, drop, Option, Some, None, Bool, true, false, refl, sym, ap, subst, ◌∙◌, get_or, arith}
use Rattle.std.proofs.Math.Seq.{drop-cons}
use Rattle.std.proofs.lemmas.Bool.Decides.{nat_tests}
use Rattle.std.specs.Prelude.{slice_get, nat_eq, nat_le, nat_lt, ◌&&◌}
use Rattle.objects.specs.declared.op.Op.{Op}
use Rattle.objects.specs.semantics.Program.{Method, Program}
use Rattle.objects.specs.typing.TypeOrder.{IsStack}
use Rattle.objects.specs.typing.Typing.{Types, Table, Flow, Leads, Wrong, Covers, KeepsAt, KeepsFlow, IsTypedAt, IsTyping, types_at, first_types, flow}
use Rattle.verifier.specs.Search.{Demands, demands, each_to, caught, are_locals_after, are_throwable, is_ready, is_stack_under}
use Rattle.verifier.specs.Check as test
use Rattle.verifier.proofs.Lists.{both, and_true, to_fits, of_fits, past}
use Rattle.verifier.proofs.Locals.{to_locals, of_locals}
use Rattle.verifier.proofs.Stacks.{to_ready, of_stack}
use Rattle.verifier.proofs.Numbers.{of_entry, to_entry}
use Rattle.verifier.proofs.Demands.{Met, to_demands, of_demands, to_throwable}

module _ (P : Program) (k : Method) (T : Table) where
  -- a test of one place
  to_covers : (to : ℕ) (h : Types) → test.covers P k T to h ≡ true → Covers P k T h to
  to_covers to h c =
      let p = both (nat_lt to (length k.ops)) (test.are_above P h (types_at T to)) c in
      let x = p.0 in
      let i : to < length k.ops = grind (arith, nat_tests) in
      go i (types_at T to) refl p.1
    where
      go : to < length k.ops → (o : Option Types) → types_at T to ≡ o → test.are_above P h o ≡ true → Covers P k T h to
      go i None t a = absurd (let no : ⊥ = cc in no)
      go i (Some g) t a = record { inside = i; types = g; there = t; fits = to_fits P h g a }

  -- and back
  of_covers : (to : ℕ) (h : Types) → Covers P k T h to → test.covers P k T to h ≡ true
  of_covers to h c =
      let i = c.inside in
      let x : nat_lt to (length k.ops) ≡ true = grind (arith, nat_tests) in
      let y = of_fits P h c.types c.fits in
      let t = c.there in
      let w : test.are_above P h (types_at T to) ≡ true = rw t y in
      and_true (nat_lt to (length k.ops)) (test.are_above P h (types_at T to)) x w

  -- so of each place
  to_met : (ds : Demands) → test.covers_each P k T ds ≡ true → Met P k T ds
  to_met [] e = tt
  to_met (d ∷ ds) e = let p = both (test.covers P k T d.0 d.1) (test.covers_each P k T ds) e in (to_covers d.0 d.1 p.0, to_met ds p.1)

  -- and back
  of_met : (ds : Demands) → Met P k T ds → test.covers_each P k T ds ≡ true
  of_met [] m = refl
  of_met (d ∷ ds) m = and_true (test.covers P k T d.0 d.1) (test.covers_each P k T ds) (of_covers d.0 d.1 m.0) (of_met ds m.1)

  -- the rules of an instruction
  flow_to : (pc : ℕ) (h : Types) (f : Flow) → test.keeps_flow P k T pc h f ≡ true → KeepsFlow P k T pc h f
  flow_to pc h Wrong c = absurd (let no : ⊥ = cc in no)
  flow_to pc h (Leads tos x) c =
      let p = both (test.stays P k pc x) (test.covers_each P k T (demands P k pc h tos x)) c in
      let q = both (nat_le (length x.stack) k.max_stack) (are_throwable P k.catches pc) p.0 in
      let r = q.0 in
      let room : length x.stack ≤ k.max_stack = grind (arith, nat_tests) in
      of_demands P k T pc h x tos room q.1 (to_met (demands P k pc h tos x) p.1)

  -- and back
  flow_of : (pc : ℕ) (h : Types) (f : Flow) → KeepsFlow P k T pc h f → test.keeps_flow P k T pc h f ≡ true
  flow_of pc h Wrong g = absurd g
  flow_of pc h (Leads tos x) g =
      let room = g.room in
      let a : nat_le (length x.stack) k.max_stack ≡ true = grind (arith, nat_tests) in
      let b = to_throwable P k T k.catches pc h.locals h.built g.before in
      let c = of_met (demands P k pc h tos x) (to_demands P k T pc h x tos g) in
      and_true (test.stays P k pc x) (test.covers_each P k T (demands P k pc h tos x)) (and_true (nat_le (length x.stack) k.max_stack) (are_throwable P k.catches pc) a b) c

  -- so where there is an instruction
  keeps_to : (pc : ℕ) (h : Types) (o : Option Op) → test.keeps_op P k T pc h o ≡ true → KeepsAt P k T pc h o
  keeps_to pc h None c = absurd (let no : ⊥ = cc in no)
  keeps_to pc h (Some o) c = flow_to pc h (flow P k pc o h) c

  -- and back
  keeps_of : (pc : ℕ) (h : Types) (o : Option Op) → KeepsAt P k T pc h o → test.keeps_op P k T pc h o ≡ true
  keeps_of pc h None g = absurd g
  keeps_of pc h (Some o) g = flow_of pc h (flow P k pc o h) g

  -- a stack of a frame
  of_ready : (h : Types) → length h.stack ≤ k.max_stack → IsStack h.stack → is_ready k h ≡ true
  of_ready h r s =
      let a : nat_le (length h.stack) k.max_stack ≡ true = grind (arith, nat_tests) in
      and_true (nat_le (length h.stack) k.max_stack) (is_stack_under false h.stack) a (of_stack false h.stack s)

  -- types that pass are those of a frame, whose instruction keeps its rules
  to_typed : (pc : ℕ) (h : Types) → test.keeps_at P k T pc (Some h) ≡ true → IsTypedAt P k T pc h
  to_typed pc h e =
      let a = both (test.is_shaped k h) (test.keeps P k T pc h) e in
      let b = both (nat_eq (length h.locals) k.locals) (are_locals_after false h.locals && is_ready k h) a.0 in
      let c = both (are_locals_after false h.locals) (is_ready k h) b.1 in
      let r = to_ready k h c.1 in
      let x = b.0 in
      let l : length h.locals ≡ k.locals = grind (arith, nat_tests) in
      record { locals = l; each_local = to_locals false h.locals c.0; room = r.0; stack = r.1; keeps = keeps_to pc h (slice_get k.ops pc) a.1 }

  -- and back
  of_typed : (pc : ℕ) (h : Types) → IsTypedAt P k T pc h → test.keeps_at P k T pc (Some h) ≡ true
  of_typed pc h t =
      let l = t.locals in
      let x : nat_eq (length h.locals) k.locals ≡ true = grind (arith, nat_tests) in
      let y = and_true (are_locals_after false h.locals) (is_ready k h) (of_locals false h.locals t.each_local) (of_ready h t.room t.stack) in
      let z = and_true (nat_eq (length h.locals) k.locals) (are_locals_after false h.locals && is_ready k h) x y in
      and_true (test.is_shaped k h) (test.keeps P k T pc h) z (keeps_of pc h (slice_get k.ops pc) t.keeps)

  -- the places of a table from one on
  each_from : (os : List (Option Types)) (i j : ℕ) (o : Option Types) → test.keeps_from P k T i os ≡ true → slice_get os j ≡ Some o → test.keeps_at P k T (i + j) o ≡ true
  each_from [] i j o h e = absurd (let no : ⊥ = cc in no)
  each_from (p ∷ os) i zero o h e =
      let q = both (test.keeps_at P k T i p) (test.keeps_from P k T (i + 1) os) h in
      let z : i + 0 ≡ i = omega arith in
      let s : p ≡ o = cc in
      rw z (subst (λ (x : Option Types). test.keeps_at P k T i x ≡ true) s q.0)
  each_from (p ∷ os) i (suc j) o h e =
      let q = both (test.keeps_at P k T i p) (test.keeps_from P k T (i + 1) os) h in
      let z : i + suc j ≡ i + 1 + j = omega arith in
      rw z (each_from os (i + 1) j o q.1 e)

  -- a table passes where each of its places does
  all_from : (os : List (Option Types)) (i : ℕ) → ((j : ℕ) (o : Option Types) → slice_get os j ≡ Some o → test.keeps_at P k T (i + j) o ≡ true) → test.keeps_from P k T i os ≡ true
  all_from [] i h = refl
  all_from (p ∷ os) i h =
      let z : i + 0 ≡ i = omega arith in
      let a : test.keeps_at P k T i p ≡ true = subst (λ (n : ℕ). test.keeps_at P k T n p ≡ true) z (h 0 p refl) in
      and_true (test.keeps_at P k T i p) (test.keeps_from P k T (i + 1) os) a
      (all_from os (i + 1) (λ j o e. let y : i + 1 + j ≡ i + suc j = omega arith in rw y (h (suc j) o e)))

  -- a table that begins rightly and passes is a typing
  pub passes : types_at T 0 ≡ Some (first_types k) → test.keeps_from P k T 0 T ≡ true → IsTyping P k T
  passes first all = record {
    first = first;
    each = λ pc h e.
        let z : 0 + pc ≡ pc = omega arith in
        to_typed pc h (subst (λ (n : ℕ). test.keeps_at P k T n (Some h) ≡ true) z (each_from T 0 pc (Some h) all (to_entry T pc h e)));
  }

  -- and a typing passes
  pub typing_passes : IsTyping P k T → test.keeps_from P k T 0 T ≡ true
  typing_passes t = all_from T 0 (λ j o e. let z : 0 + j ≡ j = omega arith in rw z (go j o e))
    where
      go : (j : ℕ) (o : Option Types) → slice_get T j ≡ Some o → test.keeps_at P k T j o ≡ true
      go j None e = refl
      go j (Some h) e = of_typed j h (t.each j h (of_entry T j (Some h) e))

  -- the test at a place, in the whole
  pub from_step : (i : ℕ) (o : Option Types) → i < length T → o ≡ get_or T i o → test.keeps_from P k T i (drop i T) ≡ (test.keeps_at P k T i o && test.keeps_from P k T (i + 1) (drop (i + 1) T))
  from_step i o lt is =
      let d = drop-cons T i o lt in
      let n : suc i ≡ i + 1 = omega arith in
      let a : test.keeps_from P k T i (drop i T) ≡ (test.keeps_at P k T i o && test.keeps_from P k T (i + 1) (drop (suc i) T)) = rw (d, sym is) refl in
      a ∙ ap (λ (j : ℕ). test.keeps_at P k T i o && test.keeps_from P k T (i + 1) (drop j T)) n

  -- past the last place all pass
  pub from_end : (i : ℕ) → length T ≤ i → test.keeps_from P k T i (drop i T) ≡ true
  from_end i le = let d = past T i le in rw d refl

  -- the places of two lists, one after another
  pub each_append : (a b : Demands) → test.covers_each P k T (a ++ b) ≡ (test.covers_each P k T a && test.covers_each P k T b)
  each_append [] b = refl
  each_append (d ∷ a) b = ap (λ (t : Bool). test.covers P k T d.0 d.1 && t) (each_append a b) ∙ assoc (test.covers P k T d.0 d.1) (test.covers_each P k T a) (test.covers_each P k T b)
    where
      assoc : (a b c : Bool) → (a && (b && c)) ≡ (a && b && c)
      assoc true b c = refl
      assoc false b c = refl

  -- the tests of what an instruction leaves, in the order of the code
  pub tests : (pc : ℕ) (h x : Types) (tos : List ℕ) → test.covers_each P k T (demands P k pc h tos x)
      ≡ (test.covers_each P k T (each_to tos x) && (test.covers_each P k T (caught P k.catches pc h.locals h.built) && test.covers_each P k T (caught P k.catches pc x.locals x.built)))
  tests pc h x tos =
      let a = caught P k.catches pc h.locals h.built in
      let b = caught P k.catches pc x.locals x.built in
      each_append (each_to tos x) (a ++ b) ∙ ap (λ (t : Bool). test.covers_each P k T (each_to tos x) && t) (each_append a b)

  -- the test of what an instruction leaves, by those of its parts
  module _ (pc : ℕ) (h x : Types) (tos : List ℕ) where
    abbrev goes_test : Bool
    goes_test = test.covers_each P k T (each_to tos x)

    abbrev before_test : Bool
    before_test = test.covers_each P k T (caught P k.catches pc h.locals h.built)

    abbrev after_test : Bool
    after_test = test.covers_each P k T (caught P k.catches pc x.locals x.built)

    abbrev left_test : Bool
    left_test = test.keeps_flow P k T pc h (Leads tos x)

    -- the tests of what is left, one after another
    keeps_is : left_test ≡ (test.stays P k pc x && (goes_test && (before_test && after_test)))
    keeps_is = ap (λ (b : Bool). test.stays P k pc x && b) (tests pc h x tos)

    -- where the first is passed
    stays_on : test.stays P k pc x ≡ true → left_test ≡ (goes_test && (before_test && after_test))
    stays_on s = keeps_is ∙ ap (λ (b : Bool). b && (goes_test && (before_test && after_test))) s

    -- where the first two are passed
    goes_on : test.stays P k pc x ≡ true → goes_test ≡ true → left_test ≡ (before_test && after_test)
    goes_on s g = stays_on s ∙ ap (λ (b : Bool). b && (before_test && after_test)) g

    -- what is left fails where a place that the instruction goes on to does
    pub goes_nowhere : test.stays P k pc x ≡ true → goes_test ≡ false → false ≡ left_test
    goes_nowhere s g = sym (stays_on s ∙ ap (λ (b : Bool). b && (before_test && after_test)) g)

    -- where an entry does, over the locals before it
    pub falls_before : test.stays P k pc x ≡ true → goes_test ≡ true → before_test ≡ false → false ≡ left_test
    falls_before s g b = sym (goes_on s g ∙ ap (λ (b : Bool). b && after_test) b)

    -- else the entries decide, over the locals after it
    pub is_after : test.stays P k pc x ≡ true → goes_test ≡ true → before_test ≡ true → left_test ≡ after_test
    is_after s g b = goes_on s g ∙ ap (λ (b : Bool). b && after_test) b
