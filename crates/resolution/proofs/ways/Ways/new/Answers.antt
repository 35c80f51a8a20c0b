use Rattle.std.proofs.Common.{◌≡◌, List, length, sym, subst}
use Rattle.jmodel.specs.format.ClassFile.{ClassFile}
use Rattle.objects.specs.linking.Superclasses.{lineage}
use Rattle.objects.specs.linking.Resolution.{names_above}
use Rattle.resolution.specs.Ways.{AreListed, AreReached, AreNamedWays}
use Rattle.resolution.proofs.Climbing.{to_all, to_above}
use Rattle.resolution.proofs.Made.{joined_as}
use Rattle.resolution.proofs.Tables.{lists}
use Rattle.resolution.proofs.ways.Ways.new.Goals as goal

pub all_method_ways-requires-clause-reached : goal.all_method_ways-requires-clause-reached
all_method_ways-requires-clause-reached c =
    let cs = c.in_ok-places.places in
    let ancestries = c.in_ok-ancestries.ancestries.items in
    let reached : AreReached cs (length cs) (lists ancestries) =
    subst (λ d. (ds : List ClassFile) → length ds ≡ length d → AreListed ds names_above (lists d) → AreReached ds (length ds) (lists ancestries)) c.as_slice.ensures.value c.in_ok-ancestries.ensures cs
    c.in_ok-direct.ensures.many c.in_ok-direct.ensures.listed in
    subst (λ t. AreReached cs (length cs) (lists t)) (sym c.as_slice-4.ensures.value) reached

pub all_method_ways-requires-clause-supers : goal.all_method_ways-requires-clause-supers
all_method_ways-requires-clause-supers c = let cs = c.in_ok-places.places in subst (λ t. AreNamedWays cs (lineage cs) (lists t)) (sym c.as_slice-5.ensures.value) c.in_ok-lineages.ensures

pub invariant_of-result : goal.invariant_of-result
invariant_of-result c =
    let cs = c.in_ok-places.places in
    let direct = c.in_ok-direct.direct.items in
    let ancestries = c.in_ok-ancestries.ancestries.items in
    let aboves = c.in_ok-aboves.aboves.items in
    let reached : AreReached cs (length cs) (lists ancestries) =
    subst (λ d. (ds : List ClassFile) → length ds ≡ length d → AreListed ds names_above (lists d) → AreReached ds (length ds) (lists ancestries)) c.as_slice.ensures.value c.in_ok-ancestries.ensures cs
    c.in_ok-direct.ensures.many c.in_ok-direct.ensures.listed in
    record {
      to_all = to_all cs (lists ancestries) reached;
      to_above = to_above cs (lists ancestries) (lists direct) (lists aboves) reached c.in_ok-direct.ensures.listed
          (joined_as aboves ancestries c.as_slice-2.result.now direct c.as_slice-3.result.now c.as_slice-2.ensures.value c.as_slice-3.ensures.value c.in_ok-aboves.ensures.are);
      to_supers = c.in_ok-lineages.ensures;
      to_methods = c.in_ok-method_ways.ensures;
    }
