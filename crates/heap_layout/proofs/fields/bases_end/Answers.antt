use Rattle.std.proofs.Common.{◌≡◌, ◌+◌, arith}
use Rattle.objects.specs.linking.StaticBases.{base_of}
use Rattle.hierarchy.proofs.InOrder.{seen}
use Rattle.heap_layout.proofs.Bases.{next_base}
use Rattle.heap_layout.proofs.fields.bases_end.Goals as goal

pub loop-class-preserved : goal.loop-class-preserved
loop-class-preserved c =
    let classes = c.args.classes.now in
    let i = c.loop-class.class-index in
    let next = next_base classes i c.class-item.result c.loop-class-test.true c.class-item.is in
    let is : c.in_ok-end.end ≡ base_of (seen classes) (i + 1) = omega (arith, c.in_ok-end.ensures, c.in_ok-base_words.ensures, c.loop-class.invariant, next) in
    is
