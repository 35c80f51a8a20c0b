use Rattle.std.proofs.Common.{◌+◌, ◌-◌, ◌/◌, ◌≤◌, sym, ◌∙◌, arith}
use Rattle.std.proofs.lemmas.Bool.Decides.{nat_tests}
use Rattle.verifier.proofs.Infers.{found_before}
use Rattle.verifier.proofs.inference.least_untyped.Goals as goal

pub loop-low-preserved-then-is_some : goal.loop-low-preserved-then-is_some
loop-low-preserved-then-is_some c =
    let middle = c.loop-low.low + (c.loop-low.high - c.loop-low.low) / 2 in
    let less = c.loop-low-test.true in
    let some = sym c.is_some.ensures ∙ c.if-is_some.true in
    record {
      ordered = grind (arith, nat_tests);
      none = c.loop-low.invariant.none;
      before = λ q l.
          let le : q ≤ middle = omega arith in
          found_before c.args.program.now c.args.method.now middle c.in_ok-table_up_to.field-0 c.in_ok-table_up_to.ensures some q le;
    }
