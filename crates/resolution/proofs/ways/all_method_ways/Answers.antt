use Rattle.std.proofs.Common.{refl}
use Rattle.resolution.proofs.Climbing.{to_methods}
use Rattle.resolution.proofs.Made.{joined_as, behind_as, if_ok}
use Rattle.resolution.proofs.Tables.{lists}
use Rattle.resolution.proofs.ways.all_method_ways.Goals as goal

pub returns : goal.returns
returns c =
    let cs = c.args.places.now in
    let A = c.args.ancestries.now in
    let L = c.args.lineages.now in
    let I = c.in_ok-interfaces.interfaces.items in
    let J = c.in_ok-listed.listed.items in
    let K = c.in_ok-above_listed.above_listed.items in
    let listed = joined_as J I c.as_slice.result.now L L c.as_slice.ensures.value refl c.in_ok-listed.ensures.are in
    let above = joined_as K A A J c.as_slice-2.result.now refl c.as_slice-2.ensures.value c.in_ok-above_listed.ensures.are in
    if_ok c.all_behind.result _ _
    (λ v is. to_methods cs (lists A) (lists I) (lists L) (lists J) (lists K) (lists v.items) c.requires.reached c.in_ok-interfaces.ensures c.requires.supers listed above
    (behind_as v.items L L K c.as_slice-3.result.now refl c.as_slice-3.ensures.value is))
    c.all_behind.ensures
