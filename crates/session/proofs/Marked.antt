-- The marked methods of a program, and what a run of a call of one says of the original.
use Rattle.std.proofs.Common.{◌≡◌, ℕ, zero, suc, ◌<◌, List, [], ◌∷◌, Option, Some, refl, subst, arith}
use Rattle.std.specs.Prelude.{ℤ, pos, negsuc, ◌≤ℤ◌, slice_get, IfSome}
use Rattle.std.proofs.lemmas.Int.{ints}
use Rattle.std.specs.List.{AllByRecursion}
use Rattle.jmodel.specs.history.History.{Entry}
use Rattle.objects.specs.semantics.Program.{Method, Program}
use Rattle.objects.specs.rewriting.Attempt.{count_of, Runs}
use Rattle.objects.specs.history.Meaning.{Explains}
use Rattle.objects.specs.laws.RegionLaw.{IsTaking}
use Rattle.objects.proofs.Regions.{keeps_region}
use Rattle.objects.proofs.RewritingLaws.{simulation}
use Rattle.session.specs.Rule.{MayAttempt, bounds_at, IsRuled}

pub holds_at : {A : Type 0} (P : A → Type 0) (xs : List A) (i : ℕ) (x : A) → AllByRecursion P xs → slice_get xs i ≡ Some x → P x
holds_at P [] i x all h = cc
holds_at P (y ∷ xs) zero x all h = let same : y ≡ x = cc in subst P same all.0
holds_at P (y ∷ xs) (suc i) x all h = holds_at P xs i x all.1 h

count_some : (n : ℤ) → pos 1 ≤ℤ n → 0 < count_of n
count_some (pos n) h = omega (arith, ints, h)
count_some (negsuc n) h = absurd (omega (arith, ints, h))

-- how many attempts a mark that is there grants: one at least
pub granted : (k : Method) (n : ℤ) → k.retries ≡ Some n → MayAttempt k → 0 < count_of n
granted k n is may = count_some n (subst (λ (o : Option ℤ). IfSome o (λ n. pos 1 ≤ℤ n)) is may)

module _ (P Q : Program) (size budget attempts : ℕ) (e : Entry) (r : IsRuled P Q size budget attempts e) where
  -- an entry whose call ran is explained by the original program
  pub explained : Explains P size budget e
  explained =
      let k = r.called in
      let runs = subst (λ (q : Program). Runs q (bounds_at size budget attempts e) e.call.method e.call.args e.answer e.used_after e.writes e.reads) r.ready.code r.runs in
      simulation P r.ready.tables r.ready.typed (bounds_at size budget attempts e) e.call.method k.method k.retries k.there k.static k.marked e.call.args k.given
      e.answer e.used_after e.writes e.reads runs e
      (record { method = refl; given = refl; region = refl; answer = refl; reads = refl; writes = refl; used_before = refl; used_after = refl })

  -- and takes words of its region alone
  pub taking : IsTaking (bounds_at size budget attempts e) e.answer e.used_after e.writes
  taking = keeps_region Q (bounds_at size budget attempts e) e.call.method e.call.args e.answer e.used_after e.writes e.reads r.runs
