-- Tables of types, shown to be typings place by place.
use Rattle.std.proofs.Common.{◌≡◌, ℕ, zero, suc, ◌+◌, ◌-◌, ◌<◌, ◌≤◌, List, [], ◌∷◌, ◌++◌, length, map, Option, Some, None, true, false, refl, sym, subst, arith, append-nil}
use Rattle.std.specs.Prelude.{slice_get}
use Rattle.std.specs.List.{AllByRecursion}
use Rattle.std.proofs.lemmas.Option.{slice_get_within}
use Rattle.jmodel.specs.declared.typing.VType.{VType}
use Rattle.objects.specs.declared.op.Op.{Op}
use Rattle.objects.specs.semantics.Program.{Method, Program}
use Rattle.objects.specs.typing.TypeOrder.{AreWithin, IsLocals, IsStack}
use Rattle.objects.specs.typing.Typing.{Types, Table, types_at, Leads, flow, first_types, is_constructor, Covers, AreCaught, KeepsFlow, KeepsAt, IsTypedAt, IsTyping, IsTypable}
use Rattle.objects.proofs.Places.{HasAt, has_rest}

-- types of a frame of the method
pub record Shape (k : Method) (h : Types) : Type 0 where
  pub locals : length h.locals ≡ k.locals
  pub each_local : IsLocals h.locals
  pub room : length h.stack ≤ k.max_stack
  pub stack : IsStack h.stack

-- ---- one place after another

module _ (Q : Program) (k : Method) (T : Table) where
  abbrev pub FineFrom : ℕ → Table → Type 0
  FineFrom a [] = Unit {0}
  FineFrom a (None ∷ os) = FineFrom (a + 1) os
  FineFrom a (Some h ∷ os) = IsTypedAt Q k T a h × FineFrom (a + 1) os

  fine_at : (a : ℕ) (os : Table) → FineFrom a os → (i : ℕ) (h : Types) → types_at os i ≡ Some h → IsTypedAt Q k T (a + i) h
  fine_at a [] f i h e = cc
  fine_at a (None ∷ os) f zero h e = cc
  fine_at a (None ∷ os) f (suc i) h e = let z : a + suc i ≡ a + 1 + i = omega arith in rw z (fine_at (a + 1) os f i h e)
  fine_at a (Some g ∷ os) f zero h e = let s : g ≡ h = cc in let z : a + zero ≡ a = omega arith in rw z (subst (IsTypedAt Q k T a) s f.0)
  fine_at a (Some g ∷ os) f (suc i) h e = let z : a + suc i ≡ a + 1 + i = omega arith in rw z (fine_at (a + 1) os f.1 i h e)

  pub fine_append : (a : ℕ) (os ps : Table) → FineFrom a os → FineFrom (a + length os) ps → FineFrom a (os ++ ps)
  fine_append a [] ps f g = let z : a + 0 ≡ a = omega arith in subst (λ (n : ℕ). FineFrom n ps) z g
  fine_append a (None ∷ os) ps f g = let z : a + suc (length os) ≡ a + 1 + length os = omega arith in fine_append (a + 1) os ps f (subst (λ (n : ℕ). FineFrom n ps) z g)
  fine_append a (Some h ∷ os) ps f g = let z : a + suc (length os) ≡ a + 1 + length os = omega arith in (f.0, fine_append (a + 1) os ps f.1 (subst (λ (n : ℕ). FineFrom n ps) z g))

  pub fine_typing : types_at T 0 ≡ Some (first_types k) → FineFrom 0 T → IsTyping Q k T
  fine_typing first f = record { first = first; each = λ pc h e. let z : 0 + pc ≡ pc = omega arith in subst (λ (n : ℕ). IsTypedAt Q k T n h) z (fine_at 0 T f pc h e) }

  -- an instruction whose flow is known keeps the rules
  pub typed_here : (pc : ℕ) (h : Types) (o : Op) (to : List ℕ) (g : Types) → slice_get k.ops pc ≡ Some o → flow Q k pc o h ≡ Leads to g → Shape k h → length g.stack ≤ k.max_stack
      → AllByRecursion (Covers Q k T g) to → AreCaught Q k T pc h.locals h.built k.catches → AreCaught Q k T pc g.locals g.built k.catches → IsTypedAt Q k T pc h
  typed_here pc h o to g is leads s room goes before after =
      let keeps : KeepsFlow Q k T pc h (Leads to g) = record { room = room; goes = goes; before = before; after = after } in
      record {
        locals = s.locals;
        each_local = s.each_local;
        room = s.room;
        stack = s.stack;
        keeps = subst (KeepsAt Q k T pc h) (sym is) (subst (KeepsFlow Q k T pc h) (sym leads) keeps);
      }

-- ---- code without jumps and entries, whose locals keep their types

abbrev pub over : List VType → List VType → Types
over l s = record { locals = l; stack = s; built = true }

abbrev pub entry : List VType → List VType → Option Types
entry l s = Some (over l s)

module _ (Q : Program) (k : Method) (l : List VType) where
  pub record IsStacked (s : List VType) : Type 0 where
    pub stack : IsStack s
    pub itself : AreWithin Q s s
    pub room : length s ≤ k.max_stack

  -- the instructions lead from one stack to the next, and the last one ends
  abbrev pub Line : ℕ → List VType → List Op → List (List VType) → Type 0
  Line pc s [] ss = ⊥
  Line pc s (o ∷ os) [] = flow Q k pc o (over l s) ≡ Leads [] (over l [])
  Line pc s (o ∷ os) (t ∷ ss) = (flow Q k pc o (over l s) ≡ Leads ((pc + 1) ∷ []) (over l t)) × IsStacked t × Line (pc + 1) t os ss

  abbrev entries : List VType → List (List VType) → Table
  entries s ss = map (entry l) (s ∷ ss)

  module _ (no_catch : k.catches ≡ []) (many : length l ≡ k.locals) (locals : IsLocals l) (itself : AreWithin Q l l) (T : Table) where
    none_caught : (pc : ℕ) (ts : List VType) (b : _) → AreCaught Q k T pc ts b k.catches
    none_caught pc ts b = subst (λ cs. AreCaught Q k T pc ts b cs) (sym no_catch) tt

    shaped : (s : List VType) → IsStacked s → Shape k (over l s)
    shaped s x = record { locals = many; each_local = locals; room = x.room; stack = x.stack }

    next_there : (pc : ℕ) (t : List VType) (os : List Op) (ss : List (List VType)) → Line pc t os ss → HasAt k.ops pc os → pc < length k.ops
    next_there pc t [] ss x h = absurd x
    next_there pc t (o ∷ os) ss x h = slice_get_within k.ops pc o h.0

    fine_line : (pc : ℕ) (s : List VType) (os : List Op) (ss : List (List VType)) → Line pc s os ss → IsStacked s → HasAt k.ops pc os → HasAt T pc (entries s ss) → FineFrom Q k T pc (entries s ss)
    fine_line pc s [] ss x y h g = absurd x
    fine_line pc s (o ∷ os) [] x y h g = (typed_here Q k T pc (over l s) o [] (over l []) h.0 x (shaped s y) (omega arith) tt (none_caught pc l true) (none_caught pc l true), tt)
    fine_line pc s (o ∷ os) (t ∷ ss) x y h g =
        let there : types_at T (pc + 1) ≡ entry l t = let e = g.1.0 in rw e refl in (
          typed_here Q k T pc (over l s) o ((pc + 1) ∷ []) (over l t) h.0 x.0 (shaped s y) x.1.room
              (record { inside = next_there (pc + 1) t os ss x.2 h.1; types = over l t; there = there; fits = record { locals = itself; stack = x.1.itself; built = λ b. b } }, tt)
              (none_caught pc l true) (none_caught pc l true),
          fine_line (pc + 1) t os ss x.2 x.1 h.1 g.1,
        )

  pub line_typable : k.catches ≡ [] → length l ≡ k.locals → IsLocals l → AreWithin Q l l → first_types k ≡ over l [] → (ss : List (List VType)) → Line 0 [] k.ops ss → IsTypable Q k
  line_typable no_catch many locals itself first ss x =
      let T = entries [] ss in
      let empty : IsStacked [] = record { stack = tt; itself = tt; room = omega arith } in
      let here : HasAt T 0 T = has_rest [] T in
      record { table = T; typing = fine_typing Q k T (let e = first in rw e refl) (fine_line no_catch many locals itself T 0 [] k.ops ss x empty (has_rest [] k.ops) here) }

-- the types of the parameters alone, where a frame has no other places
pub added_first : (k : Method) (l : List VType) → is_constructor k ≡ false → k.parameters ≡ l → k.locals ≡ length l → k.places ≡ length l → first_types k ≡ over l []
added_first k l plain takes locals places =
    let z : length l - length l ≡ 0 = omega arith in
    let e = append-nil l in
    rw (plain, takes, locals, places, z, e) refl
