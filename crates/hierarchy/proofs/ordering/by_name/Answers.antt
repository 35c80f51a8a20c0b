use Rattle.std.proofs.Common.{◌≡◌, List, ◌∷◌, reverse, rules, sym, ap, ◌∙◌, subst}
use Rattle.std.specs.Slice.Iter.{iter_rest}
use Rattle.std.specs.Iterator.Adapters.{rev_source}
use Rattle.std.proofs.lemmas.List.{reverse-reverse}
use Rattle.std.proofs.lemmas.Iterator.Adapters.{YieldsList-from_rev_slice}
use Rattle.std.proofs.lemmas.Iterator.Consumers.{YieldsList-end}
use Rattle.jmodel.specs.format.ClassFile.{ClassFile}
use Rattle.objects.specs.linking.Library.{library}
use Rattle.hierarchy.specs.Ordered.{IsInOrder}
use Rattle.hierarchy.proofs.InOrder.{AreApart, apart_of, one_more, last_first, seen}
use Rattle.hierarchy.proofs.ordering.by_name.Goals as goal

pub loop-file-preserved : goal.loop-file-preserved
loop-file-preserved c =
    let file = c.in-Some.file in
    let before = reverse (seen c.loop-file.yielded) in
    let step = one_more c.loop-file.classes.entries before c.own_name.result file c.own_name.ensures c.loop-file.invariant in
    subst (λ (l : List ClassFile). AreApart l → IsInOrder c.insert.new.self.entries l) (sym (last_first c.loop-file.yielded file))
    (λ apart. subst (λ es. IsInOrder es (file.now ∷ before)) (sym c.in_ok-insert.ensures.entries) (step apart))

pub returns : goal.returns
returns c =
    let files = c.args.files.now in
    let source : iter_rest (rev_source c.into_iter-file-iterator.result) ≡ files = first_of (cc, search rules) in
    let all = YieldsList-end (YieldsList-from_rev_slice files source) c.loop-file.yielded _ c.loop-file.yielded_by _ _ c.in-None.is c.next.ensures.steps in
    let whole : reverse (seen c.loop-file.yielded) ≡ files = ap (λ (l : List ClassFile). reverse l) all.0 ∙ reverse-reverse files in
    subst (λ (l : List ClassFile). IsInOrder c.loop-file.classes.entries l) whole (c.loop-file.invariant (subst AreApart (sym whole) (apart_of library files c.requires)))
