-- Tests of what the rewriting asks of a table.
use Rattle.std.proofs.Common.{◌≡◌, ℕ, zero, suc, ◌+◌, List, [], ◌∷◌, Option, Some, None, Bool, true, false, refl, subst, arith}
use Rattle.std.specs.Prelude.{slice_get, bytes_eq, not, ◌&&◌}
use Rattle.std.specs.List.{AllByRecursion}
use Rattle.std.proofs.lemmas.Slice.Eq.{bytes_eq-Decides}
use Rattle.jmodel.specs.declared.typing.VType.{VType}
use Rattle.jmodel.specs.declared.typing.VType.TheVariants.{Ref, UninitThis}
use Rattle.objects.specs.declared.op.Op.{Op}
use Rattle.objects.specs.declared.op.Op.TheVariants.{PutField}
use Rattle.objects.specs.semantics.Program.{Field, Method, Program, field_at}
use Rattle.objects.specs.typing.TypeOrder.{is_within, name_read}
use Rattle.objects.specs.typing.Typing.{Types, Table, types_at}
use Rattle.objects.specs.typing.Source.{IsKnownName, IsKnownType}
use Rattle.objects.specs.laws.TypingLaw.{IsRewritable}
use Rattle.objects.specs.rewriting.Rewriting.{word_places}

both : (a b : Bool) → (a && b) ≡ true → (a ≡ true) × (b ≡ true)
both true b e = (refl, e)
both false b e = cc

module _ (P : Program) where
  abbrev pub is_read : List ℕ → Bool
  is_read n = is_within P (Ref n) (Ref n) && bytes_eq (name_read P n) n

  pub read_name : (n : List ℕ) → is_read n ≡ true → IsKnownName P n
  read_name n e =
      let a = both (is_within P (Ref n) (Ref n)) _ e in
      record { itself = a.0; array = λ i. (bytes_eq-Decides (name_read P n) n).0 a.1 }

  abbrev is_read_type : VType → Bool
  is_read_type (Ref n) = is_read n
  is_read_type t = true

  read_type : (t : VType) → is_read_type t ≡ true → IsKnownType P t
  read_type (Ref n) e = read_name n e
  read_type t e = tt

  abbrev are_read : List VType → Bool
  are_read [] = true
  are_read (t ∷ ts) = is_read_type t && are_read ts

  all_read : (ts : List VType) → are_read ts ≡ true → AllByRecursion (IsKnownType P) ts
  all_read [] e = tt
  all_read (t ∷ ts) e = let x = both (is_read_type t) (are_read ts) e in (read_type t x.0, all_read ts x.1)

  abbrev is_this : Option VType → Bool
  is_this (Some UninitThis) = true
  is_this t = false

  -- no field is stored to of an object that isn't built
  abbrev is_late : Option Op → Types → Bool
  is_late (Some (PutField n c)) h = by (field_at P n)
    where
      by : Option Field → Bool
      by None = true
      by (Some f) = not (is_this (slice_get h.stack (word_places f.declared.word)))
  is_late o h = true

  abbrev pub passes_from : ℕ → Method → Table → Bool
  passes_from pc k [] = true
  passes_from pc k (None ∷ T) = passes_from (suc pc) k T
  passes_from pc k (Some h ∷ T) = are_read h.locals && (are_read h.stack && (is_late (slice_get k.ops pc) h && passes_from (suc pc) k T))

  record Passes (k : Method) (pc : ℕ) (h : Types) : Type 0 where
    locals : are_read h.locals ≡ true
    stack : are_read h.stack ≡ true
    late : is_late (slice_get k.ops pc) h ≡ true

  passes_at : (a : ℕ) (k : Method) (T : Table) → passes_from a k T ≡ true → (i : ℕ) (h : Types) → types_at T i ≡ Some h → Passes k (a + i) h
  passes_at a k [] e i h t = cc
  passes_at a k (None ∷ T) e zero h t = cc
  passes_at a k (None ∷ T) e (suc i) h t = let z : a + suc i ≡ suc a + i = omega arith in rw z (passes_at (suc a) k T e i h t)
  passes_at a k (Some g ∷ T) e zero h t =
      let s : g ≡ h = cc in
      let z : a + zero ≡ a = omega arith in
      let x = both (are_read g.locals) _ e in
      let y = both (are_read g.stack) _ x.1 in
      let w = both (is_late (slice_get k.ops a) g) _ y.1 in
      rw z (subst (Passes k a) s (record { locals = x.0; stack = y.0; late = w.0 }))
  passes_at a k (Some g ∷ T) e (suc i) h t =
      let z : a + suc i ≡ suc a + i = omega arith in
      let x = both (are_read g.locals) _ e in
      let y = both (are_read g.stack) _ x.1 in
      let w = both (is_late (slice_get k.ops a) g) _ y.1 in
      rw z (passes_at (suc a) k T w.1 i h t)

  -- a table that passes is one by which the method can be rewritten
  pub passed : (k : Method) (T : Table) → passes_from 0 k T ≡ true → IsRewritable P k T
  passed k T e = record {
    known = λ pc h t. let x = at pc h t in (all_read h.locals x.locals, all_read h.stack x.stack);
    late = λ pc n c h f t is there this. let x = at pc h t in stored n c h f (slice_get k.ops pc) is there this x.late;
  }
    where
      at : (pc : ℕ) (h : Types) → types_at T pc ≡ Some h → Passes k pc h
      at pc h t = let z : 0 + pc ≡ pc = omega arith in subst (λ (i : ℕ). Passes k i h) z (passes_at 0 k T e pc h t)

      stored : (n : ℕ) (c : List ℕ) (h : Types) (f : Field) (o : Option Op) → o ≡ Some (PutField n c) → field_at P n ≡ Some f → slice_get h.stack (word_places f.declared.word) ≡ Some UninitThis → is_late o h ≡ true → ⊥
      stored n c h f o is there this late =
          let put : is_late (Some (PutField n c)) h ≡ true = subst (λ (o : Option Op). is_late o h ≡ true) is late in
          let no : is_late (Some (PutField n c)) h ≡ false = rw (there, this) refl in
          cc
