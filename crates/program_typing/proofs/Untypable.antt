-- The place from which on a method has no typing is one of its code.
use Rattle.std.proofs.Common.{◌≡◌, ℕ, zero, suc, ◌<◌, ◌≤◌, Bool, List, [], ◌∷◌, length, take, slice_get, Option, Some, None, refl, sym, ap, ◌∙◌, arith}
use Rattle.std.specs.Prelude.{option_and_then}
use Rattle.std.specs.List.{AllByRecursion}
use Rattle.objects.specs.declared.op.Op.{Op}
use Rattle.objects.specs.declared.op.Catch.{Catch}
use Rattle.jmodel.specs.declared.typing.VType.{VType}
use Rattle.objects.specs.semantics.Program.{Method, Program}
use Rattle.objects.specs.typing.Typing.{Types, Table, Flow, Leads, Wrong, types_at, flow, Covers, AreCaught, KeepsFlow, KeepsAt, IsTypedAt, IsTypingUpTo, IsUntypableAt}

-- a front of a list has the items of its places, and no others
taken : {A : Type 0} (n : ℕ) (xs : List A) (i : ℕ) → i < n → slice_get (take n xs) i ≡ slice_get xs i
taken zero xs i h = absurd (omega (arith, h))
taken (suc n) [] i h = refl
taken (suc n) (x ∷ xs) zero h = refl
taken (suc n) (x ∷ xs) (suc i) h = taken n xs i (omega (arith, h))

not_taken : {A : Type 0} (n : ℕ) (xs : List A) (i : ℕ) → n ≤ i → slice_get (take n xs) i ≡ None
not_taken zero xs i h = refl
not_taken (suc n) [] i h = refl
not_taken (suc n) (x ∷ xs) zero h = absurd (omega (arith, h))
not_taken (suc n) (x ∷ xs) (suc i) h = not_taken n xs i (omega (arith, h))

module _ (P : Program) (k : Method) (T : Table) where
  abbrev cut : Table
  cut = take (length k.ops) T

  same : (pc : ℕ) → pc < length k.ops → types_at cut pc ≡ types_at T pc
  same pc h = ap (option_and_then (λ (o : Option Types). o)) (taken (length k.ops) T pc h)

  covered : (h : Types) (to : List ℕ) → AllByRecursion (Covers P k T h) to → AllByRecursion (Covers P k cut h) to
  covered h [] all = tt
  covered h (pc ∷ to) all =
      (record { inside = all.0.inside; types = all.0.types; there = same pc all.0.inside ∙ all.0.there; fits = all.0.fits }, covered h to all.1)

  caught : (pc : ℕ) (l : List VType) (built : Bool) (cs : List Catch) → AreCaught P k T pc l built cs → AreCaught P k cut pc l built cs
  caught pc l built [] all = tt
  caught pc l built (c ∷ cs) all =
      (λ g. let x = all.0 g in let y = x.1 in (x.0, record { inside = y.inside; types = y.types; there = same c.at y.inside ∙ y.there; fits = y.fits }), caught pc l built cs all.1)

  kept : (pc : ℕ) (g : Types) (f : Flow) → KeepsFlow P k T pc g f → KeepsFlow P k cut pc g f
  kept pc g (Leads to h) all = record { room = all.room; goes = covered h to all.goes; before = caught pc g.locals g.built k.catches all.before; after = caught pc h.locals h.built k.catches all.after }
  kept pc g Wrong all = all

  kept_at : (pc : ℕ) (h : Types) (o : Option Op) → KeepsAt P k T pc h o → KeepsAt P k cut pc h o
  kept_at pc h (Some o) keeps = kept pc h (flow P k pc o h) keeps
  kept_at pc h None keeps = keeps

  typed : (pc : ℕ) (h : Types) → IsTypedAt P k T pc h → IsTypedAt P k cut pc h
  typed pc h t = record { locals = t.locals; each_local = t.each_local; room = t.room; stack = t.stack; keeps = kept_at pc h (slice_get k.ops pc) t.keeps }

  -- what meets the rules of all instructions meets those of any number of them
  all_places : (last place : ℕ) → length k.ops ≡ suc last → IsTypingUpTo P k last T → IsTypingUpTo P k place cut
  all_places last place len t = record {
    first = same 0 (omega (arith, len)) ∙ t.first;
    each = λ pc h le is. at pc h is (at_most pc h is);
  }
    where
      at_most : (pc : ℕ) (h : Types) → types_at cut pc ≡ Some h → pc ≤ last
      at_most pc h is = below (some_there pc h is)
        where
          some_there : (pc : ℕ) (h : Types) → types_at cut pc ≡ Some h → length k.ops ≤ pc → ⊥
          some_there pc h is out = let none = not_taken (length k.ops) T pc out in let lost : types_at cut pc ≡ None = ap (option_and_then (λ (o : Option Types). o)) none in cc

          below : (length k.ops ≤ pc → ⊥) → pc ≤ last
          below h = omega (arith, len, h)

      at : (pc : ℕ) (h : Types) → types_at cut pc ≡ Some h → pc ≤ last → IsTypedAt P k cut pc h
      at pc h is le = typed pc h (t.each pc h le (sym (same pc (omega (arith, len, le))) ∙ is))

pub inside : (P : Program) (k : Method) (place : ℕ) → IsUntypableAt P k place → 0 < length k.ops → place < length k.ops
inside P k place u some = go (length k.ops) refl
  where
    past : (last : ℕ) → length k.ops ≡ suc last → length k.ops ≤ place → ⊥
    past last len out = let before = u.before last (omega (arith, len, out)) in u.none (cut P k before.0) (all_places P k before.0 last place len before.1)

    at : (last : ℕ) → length k.ops ≡ suc last → (length k.ops ≤ place → ⊥) → place < length k.ops
    at last len h = omega (arith, h)

    go : (n : ℕ) → length k.ops ≡ n → place < length k.ops
    go zero e = absurd (omega (arith, some, e))
    go (suc last) e = at last e (past last e)
