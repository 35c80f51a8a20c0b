use Rattle.std.proofs.Common.{◌≡◌, ℕ, suc, ap, ◌∙◌, arith}
use Rattle.std.specs.Prelude.{slice_get}
use Rattle.objects.specs.semantics.Program.{Program, method_at, row_at, first_in, lineage_in}
use Rattle.hierarchy.proofs.program.Program.first_in.Goals as goal

pub returns : goal.returns
returns c = λ k there selectable.
    let row : ℕ = c.in_ok-checked_sub.field-0 in
    let m : ℕ = c.args.method in
    let bounds = c.in_ok-checked_sub.ensures in
    let behind : suc row ≡ c.args.of = omega (arith, bounds.0, bounds.1) in
    let here = ap (λ (P : Program). method_at P m) c.self.view_is ∙ there in
    c.first.ensures ∙ c.self.invariant row m k here selectable ∙ ap (λ (P : Program). first_in P k (lineage_in (slice_get P.types row))) c.self.view_is
    ∙ ap (λ (t : ℕ). first_in c.args.self.now k (lineage_in (row_at c.args.self.now t))) behind
