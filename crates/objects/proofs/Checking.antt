-- A test of tables of types, which computes: a table that passes is a typing.
use Rattle.std.proofs.Common.{◌≡◌, ℕ, zero, suc, ◌+◌, List, [], ◌∷◌, length, Option, Some, None, Bool, true, false, refl, sym, ap, subst, ◌∙◌, arith}
use Rattle.std.specs.Prelude.{slice_get, IsTrue, not, nat_le, nat_lt, nat_eq, ◌&&◌, ◌||◌}
use Rattle.std.specs.List.{AllByRecursion}
use Rattle.std.proofs.lemmas.Bool.Decides.{nat_tests}
use Rattle.jmodel.specs.declared.typing.VType.{VType}
use Rattle.jmodel.specs.declared.typing.VType.TheVariants.{Int, Long, Second, Null, Ref, Uninit, UninitThis, Top}
use Rattle.objects.specs.declared.op.Op.{Op}
use Rattle.objects.specs.declared.op.Catch.{Catch}
use Rattle.objects.specs.semantics.Program.{Method, Program}
use Rattle.objects.specs.typing.TypeOrder.{throwable_class, is_within, AreWithin, IsLocalsAfter, IsStackUnder}
use Rattle.objects.specs.typing.Typing.{Types, Table, types_at, FitsIn, Flow, Leads, Wrong, flow, Covers, caught_type, is_guarded, AreCaught, KeepsFlow, KeepsAt, IsTypedAt, first_types, IsTyping}

-- ---- truths

first : (a b : Bool) → (a && b) ≡ true → a ≡ true
first true b e = refl
first false b e = cc

second : (a b : Bool) → (a && b) ≡ true → b ≡ true
second true b e = e
second false b e = cc

-- ---- types

abbrev are_within : Program → List VType → List VType → Bool
are_within P [] [] = true
are_within P (t ∷ ts) (u ∷ us) = is_within P t u && are_within P ts us
are_within P ts us = false

within : (P : Program) (ts us : List VType) → are_within P ts us ≡ true → AreWithin P ts us
within P [] [] e = tt
within P [] (u ∷ us) e = cc
within P (t ∷ ts) [] e = cc
within P (t ∷ ts) (u ∷ us) e = (first (is_within P t u) (are_within P ts us) e, within P ts us (second (is_within P t u) (are_within P ts us) e))

abbrev are_locals : Bool → List VType → Bool
are_locals false [] = true
are_locals false (Int ∷ s) = are_locals false s
are_locals false (Null ∷ s) = are_locals false s
are_locals false (Ref n ∷ s) = are_locals false s
are_locals false (Uninit p ∷ s) = are_locals false s
are_locals false (UninitThis ∷ s) = are_locals false s
are_locals false (Top ∷ s) = are_locals false s
are_locals false (Long ∷ s) = are_locals true s
are_locals true (Second ∷ s) = are_locals false s
are_locals after s = false

locals : (after : Bool) (s : List VType) → are_locals after s ≡ true → IsLocalsAfter after s
locals false [] e = tt
locals false (Int ∷ s) e = locals false s e
locals false (Null ∷ s) e = locals false s e
locals false (Ref n ∷ s) e = locals false s e
locals false (Uninit p ∷ s) e = locals false s e
locals false (UninitThis ∷ s) e = locals false s e
locals false (Top ∷ s) e = locals false s e
locals false (Long ∷ s) e = locals true s e
locals false (Second ∷ s) e = cc
locals true [] e = cc
locals true (Second ∷ s) e = locals false s e
locals true (t ∷ s) e = cc

abbrev is_stack : Bool → List VType → Bool
is_stack false [] = true
is_stack false (Int ∷ s) = is_stack false s
is_stack false (Null ∷ s) = is_stack false s
is_stack false (Ref n ∷ s) = is_stack false s
is_stack false (Uninit p ∷ s) = is_stack false s
is_stack false (UninitThis ∷ s) = is_stack false s
is_stack false (Second ∷ s) = is_stack true s
is_stack true (Long ∷ s) = is_stack false s
is_stack under s = false

stack : (under : Bool) (s : List VType) → is_stack under s ≡ true → IsStackUnder under s
stack false [] e = tt
stack false (Int ∷ s) e = stack false s e
stack false (Null ∷ s) e = stack false s e
stack false (Ref n ∷ s) e = stack false s e
stack false (Uninit p ∷ s) e = stack false s e
stack false (UninitThis ∷ s) e = stack false s e
stack false (Second ∷ s) e = stack true s e
stack false (Long ∷ s) e = cc
stack false (Top ∷ s) e = cc
stack true [] e = cc
stack true (Long ∷ s) e = stack false s e
stack true (t ∷ s) e = cc

abbrev fits_in : Program → Types → Types → Bool
fits_in P h g = are_within P h.locals g.locals && (are_within P h.stack g.stack && (not g.built || h.built))

implied : (g h : Bool) → (not g || h) ≡ true → IsTrue g → IsTrue h
implied true h e t = e
implied false h e t = cc

fits : (P : Program) (h g : Types) → fits_in P h g ≡ true → FitsIn P h g
fits P h g e =
    let rest = second (are_within P h.locals g.locals) (are_within P h.stack g.stack && (not g.built || h.built)) e in
    record {
      locals = within P h.locals g.locals (first (are_within P h.locals g.locals) (are_within P h.stack g.stack && (not g.built || h.built)) e);
      stack = within P h.stack g.stack (first (are_within P h.stack g.stack) (not g.built || h.built) rest);
      built = implied g.built h.built (second (are_within P h.stack g.stack) (not g.built || h.built) rest);
    }

-- ---- flow

module _ (P : Program) (k : Method) (T : Table) where
  abbrev fits_place : Types → Option Types → Bool
  fits_place h None = false
  fits_place h (Some g) = fits_in P h g

  abbrev is_covered : Types → ℕ → Bool
  is_covered h pc = nat_lt pc (length k.ops) && fits_place h (types_at T pc)

  covered : (h : Types) (pc : ℕ) → is_covered h pc ≡ true → Covers P k T h pc
  covered h pc e = go (types_at T pc) refl (second (nat_lt pc (length k.ops)) (fits_place h (types_at T pc)) e)
    where
      go : (o : Option Types) → types_at T pc ≡ o → fits_place h o ≡ true → Covers P k T h pc
      go None is e = cc
      go (Some g) is f =
          let lt = first (nat_lt pc (length k.ops)) (fits_place h (types_at T pc)) e in
          record { inside = grind (arith, nat_tests); types = g; there = is; fits = fits P h g f }

  abbrev are_covered : Types → List ℕ → Bool
  are_covered h [] = true
  are_covered h (pc ∷ pcs) = is_covered h pc && are_covered h pcs

  all_covered : (h : Types) (pcs : List ℕ) → are_covered h pcs ≡ true → AllByRecursion (Covers P k T h) pcs
  all_covered h [] e = tt
  all_covered h (pc ∷ pcs) e = (covered h pc (first (is_covered h pc) (are_covered h pcs) e), all_covered h pcs (second (is_covered h pc) (are_covered h pcs) e))

  abbrev caught_here : Catch → List VType → Bool → Types
  caught_here c l built = record { locals = l; stack = caught_type P c.catches ∷ []; built = built }

  abbrev is_caught : ℕ → List VType → Bool → Catch → Bool
  is_caught pc l built c = not (is_guarded c pc) || (is_within P (caught_type P c.catches) (Ref throwable_class) && is_covered (caught_here c l built) c.at)

  abbrev are_caught : ℕ → List VType → Bool → List Catch → Bool
  are_caught pc l built [] = true
  are_caught pc l built (c ∷ cs) = is_caught pc l built c && are_caught pc l built cs

  one_caught : (pc : ℕ) (l : List VType) (built : Bool) (c : Catch) → (b : Bool) → is_guarded c pc ≡ b → is_caught pc l built c ≡ true
      → IsTrue b → (is_within P (caught_type P c.catches) (Ref throwable_class) ≡ true) × Covers P k T (caught_here c l built) c.at
  one_caught pc l built c true is e t =
      let both : (is_within P (caught_type P c.catches) (Ref throwable_class) && is_covered (caught_here c l built) c.at) ≡ true =
      sym (ap (λ g. not g || (is_within P (caught_type P c.catches) (Ref throwable_class) && is_covered (caught_here c l built) c.at)) is) ∙ e in (
        first (is_within P (caught_type P c.catches) (Ref throwable_class)) (is_covered (caught_here c l built) c.at) both,
        covered (caught_here c l built) c.at (second (is_within P (caught_type P c.catches) (Ref throwable_class)) (is_covered (caught_here c l built) c.at) both),
      )
  one_caught pc l built c false is e t = cc

  all_caught : (pc : ℕ) (l : List VType) (built : Bool) (cs : List Catch) → are_caught pc l built cs ≡ true → AreCaught P k T pc l built cs
  all_caught pc l built [] e = tt
  all_caught pc l built (c ∷ cs) e =
      (one_caught pc l built c (is_guarded c pc) refl (first (is_caught pc l built c) (are_caught pc l built cs) e), all_caught pc l built cs (second (is_caught pc l built c) (are_caught pc l built cs) e))

  abbrev keeps_flow : ℕ → Types → Flow → Bool
  keeps_flow pc g Wrong = false
  keeps_flow pc g (Leads to h) =
      nat_le (length h.stack) k.max_stack && (are_covered h to && (are_caught pc g.locals g.built k.catches && are_caught pc h.locals h.built k.catches))

  keeps : (pc : ℕ) (g : Types) (f : Flow) → keeps_flow pc g f ≡ true → KeepsFlow P k T pc g f
  keeps pc g Wrong e = cc
  keeps pc g (Leads to h) e =
      let before = are_caught pc g.locals g.built k.catches in
      let after = are_caught pc h.locals h.built k.catches in
      let room = first (nat_le (length h.stack) k.max_stack) (are_covered h to && (before && after)) e in
      let rest = second (nat_le (length h.stack) k.max_stack) (are_covered h to && (before && after)) e in
      let most = second (are_covered h to) (before && after) rest in
      record {
        room = grind (arith, nat_tests);
        goes = all_covered h to (first (are_covered h to) (before && after) rest);
        before = all_caught pc g.locals g.built k.catches (first before after most);
        after = all_caught pc h.locals h.built k.catches (second before after most);
      }

  abbrev keeps_at : ℕ → Types → Option Op → Bool
  keeps_at pc h None = false
  keeps_at pc h (Some o) = keeps_flow pc h (flow P k pc o h)

  all_kept : (pc : ℕ) (h : Types) (o : Option Op) → keeps_at pc h o ≡ true → KeepsAt P k T pc h o
  all_kept pc h None e = cc
  all_kept pc h (Some o) e = keeps pc h (flow P k pc o h) e

  abbrev is_typed : ℕ → Types → Bool
  is_typed pc h = nat_eq (length h.locals) k.locals && (are_locals false h.locals && (nat_le (length h.stack) k.max_stack && (is_stack false h.stack && keeps_at pc h (slice_get k.ops pc))))

  typed : (pc : ℕ) (h : Types) → is_typed pc h ≡ true → IsTypedAt P k T pc h
  typed pc h e =
      let d = keeps_at pc h (slice_get k.ops pc) in
      let c = is_stack false h.stack && d in
      let b = nat_le (length h.stack) k.max_stack && c in
      let a = are_locals false h.locals && b in
      let many = first (nat_eq (length h.locals) k.locals) a e in
      let e1 = second (nat_eq (length h.locals) k.locals) a e in
      let e2 = second (are_locals false h.locals) b e1 in
      let room = first (nat_le (length h.stack) k.max_stack) c e2 in
      let e3 = second (nat_le (length h.stack) k.max_stack) c e2 in
      record {
        locals = grind (arith, nat_tests);
        each_local = locals false h.locals (first (are_locals false h.locals) b e1);
        room = grind (arith, nat_tests);
        stack = stack false h.stack (first (is_stack false h.stack) d e3);
        keeps = all_kept pc h (slice_get k.ops pc) (second (is_stack false h.stack) d e3);
      }

  abbrev is_typed_place : ℕ → Option Types → Bool
  is_typed_place pc None = true
  is_typed_place pc (Some h) = is_typed pc h

  abbrev are_typed : ℕ → Table → Bool
  are_typed pc [] = true
  are_typed pc (o ∷ U) = is_typed_place pc o && are_typed (suc pc) U

  each_typed : (n : ℕ) (U : Table) → are_typed n U ≡ true → (pc : ℕ) (h : Types) → types_at U pc ≡ Some h → is_typed (n + pc) h ≡ true
  each_typed n [] e pc h is = cc
  each_typed n (None ∷ U) e zero h is = cc
  each_typed n (Some g ∷ U) e zero h is =
      let s : g ≡ h = cc in
      let z : n + 0 ≡ n = omega arith in
      rw (z, ← s) (first (is_typed n g) (are_typed (suc n) U) e)
  each_typed n (o ∷ U) e (suc pc) h is =
      let z : n + suc pc ≡ suc n + pc = omega arith in
      rw z (each_typed (suc n) U (second (is_typed_place n o) (are_typed (suc n) U) e) pc h is)

  -- A table that passes is a typing.
  pub checked : types_at T 0 ≡ Some (first_types k) → are_typed 0 T ≡ true → IsTyping P k T
  checked start e = record { first = start; each = λ pc h is. let z : 0 + pc ≡ pc = omega arith in typed pc h (subst (λ n. is_typed n h ≡ true) z (each_typed 0 T e pc h is)) }
