use Rattle.std.proofs.Common.{◌≡◌, ◌+◌, List, length}
use Rattle.jmodel.specs.format.ClassFile.{ClassFile}
use Rattle.objects.specs.linking.Classes.{methods_in}
use Rattle.hierarchy.specs.Search.{uncalled}
use Rattle.hierarchy.proofs.SearchLaws.{IsUnderWay}
use Rattle.hierarchy.proofs.taken.called.Given as goal

abbrev pub invariant-loop-method : goal.invariant-loop-method
invariant-loop-method l = (cs : List ClassFile) → l.methods ≡ methods_in cs → IsUnderWay cs l.search

-- the methods that wait, and those that aren't called
abbrev pub decreases-loop-method : goal.decreases-loop-method
decreases-loop-method l = length l.search.queue + uncalled l.methods l.search.called
