-- The rewriting of a typed program, by whichever narrowest typings, is typed too.
use Rattle.std.proofs.Common.{◌≡◌, ◌+◌, ℕ, zero, suc, List, [], ◌∷◌, Option, Some, None, Bool, true, false, refl, sym, ap, subst, arith}
use Rattle.std.specs.Prelude.{slice_get, if◌then◌else◌}
use Rattle.std.specs.List.{AllZip}
use Rattle.jmodel.specs.declared.typing.VType.TheVariants.{UninitThis}
use Rattle.objects.specs.declared.op.Op.{Op}
use Rattle.objects.specs.declared.op.Op.TheVariants.{PutField}
use Rattle.objects.specs.semantics.Program.{Field, Method, Program, has_code, field_at, method_at}
use Rattle.objects.specs.typing.Source.{IsSourceMethod, IsSource}
use Rattle.objects.specs.typing.Typing.{Types, Table, types_at}
use Rattle.objects.specs.laws.TypingLaw.{IsRewritable}
use Rattle.objects.specs.rewriting.Rewriting.{word_places, rewritten}
use Rattle.objects.proofs.DuplicateTypes.{duplicate_typable}
use Rattle.objects.proofs.NarrowestTypes.{narrowest_known}
use Rattle.objects.proofs.RewritingTypes.{rewriting_typable}
use Rattle.program_typing.specs.Early.{is_this, is_early_over, is_early, early_from}
use Rattle.program_typing.specs.Tables.{IsNarrowTyping, IsTableOf, AreTables}
use Rattle.program_typing.specs.Typed.{IsLate, IsTyped}
use Rattle.runner.proofs.Readying.{typed_program}
use Rattle.deuce.specs.Rewritten.{AreTypable}
use Rattle.deuce.proofs.Lists.{all_at}

-- no instruction is an early store where none is found
not_early : (P : Program) (T : Table) (pc : ℕ) (os : List Op) (i j : ℕ) (o : Op) → early_from P T pc os ≡ None → slice_get os i ≡ Some o → j ≡ pc + i → is_early P (types_at T j) o ≡ false
not_early P T pc [] i j o none there at = cc
not_early P T pc (x ∷ os) i j o none there at = go i (is_early P (types_at T pc) x) refl (λ n rest later. not_early P T (suc pc) os n j o rest later) none there at
  where
    go : (i : ℕ) (b : Bool) → is_early P (types_at T pc) x ≡ b → ((n : ℕ) → early_from P T (suc pc) os ≡ None → slice_get os n ≡ Some o → j ≡ suc pc + n → is_early P (types_at T j) o ≡ false)
        → (if b then Some pc else early_from P T (suc pc) os) ≡ None → slice_get (x ∷ os) i ≡ Some o → j ≡ pc + i → is_early P (types_at T j) o ≡ false
    go i true e later none there at = cc
    go zero false e later none there at = let same : x ≡ o = cc in let here : j ≡ pc = omega (arith, at) in rw (here, sym same) e
    go (suc i) false e later none there at = later i none there (omega (arith, at))

late_over : (f : Option Field) (h : Option Types) (g : Field) (types : Types) → f ≡ Some g → h ≡ Some types → is_early_over f h ≡ false → slice_get types.stack (word_places g.declared.word) ≡ Some UninitThis → ⊥
late_over None h g types is too none this = cc
late_over (Some f) None g types is too none this = cc
late_over (Some f) (Some h) g types is too none this =
    let field : f ≡ g = cc in
    let same : h ≡ types = cc in
    let test : is_this (slice_get types.stack (word_places g.declared.word)) ≡ false = rw (field, same) at none in
    let yes : is_this (slice_get types.stack (word_places g.declared.word)) ≡ true = ap is_this this in
    cc

narrow : (P : Program) (k : Method) (T : Table) → has_code (Some k) ≡ true → IsTableOf P k T → IsNarrowTyping P k T
narrow P k T code h = rw (code) at h

table_at : (P : Program) (ks : List Method) (Ts : List Table) (m : ℕ) (k : Method) (T : Table) → AllZip (IsTableOf P) ks Ts → slice_get ks m ≡ Some k → slice_get Ts m ≡ Some T → IsTableOf P k T
table_at P [] Ts m k T are there too = cc
table_at P (x ∷ ks) [] m k T are there too = absurd are
table_at P (x ∷ ks) (U ∷ Ts) zero k T are there too = let one : x ≡ k = cc in let other : U ≡ T = cc in subst (λ (V : Table). IsTableOf P k V) other (subst (λ (y : Method). IsTableOf P y U) one are.0)
table_at P (x ∷ ks) (U ∷ Ts) (suc m) k T are there too = table_at P ks Ts m k T are.1 there too

module _ (P : Program) (source : IsSource P) (typed : IsTyped P) (Ts : List Table) (are : AreTables P Ts) where
  rewritable : (m : ℕ) (k : Method) (T : Table) → method_at P m ≡ Some k → slice_get Ts m ≡ Some T → has_code (Some k) ≡ true → IsRewritable P k T
  rewritable m k T there too code =
      let table = table_at P P.methods Ts m k T are there too in
      let method = all_at (IsSourceMethod P) P.methods m k source.methods there in
      let late = all_at (IsLate P) P.methods m k typed.late there T table in
      let one = narrow P k T code table in
      record {
        known = narrowest_known P source k method T one.typing one.narrowest;
        late = λ pc n c h f types op field this. late_over (field_at P n) (types_at T pc) f h field types (not_early P T 0 k.ops pc pc (PutField n c) late op (omega arith)) this;
      }

  pub stays_typed : AreTypable (rewritten P Ts)
  stays_typed = let S = typed_program P Ts source are in rewriting_typable P Ts S (λ m k T there table code. duplicate_typable P Ts S m k T there table code (rewritable m k T there table code))
