use Rattle.std.proofs.Common.{◌≡◌, List, reverse, rules, sym, ap, ◌∙◌, subst}
use Rattle.std.specs.Slice.Iter.{iter_rest}
use Rattle.std.specs.Iterator.Adapters.{rev_source}
use Rattle.std.proofs.lemmas.List.{reverse-reverse}
use Rattle.std.proofs.lemmas.Iterator.Adapters.{YieldsList-from_rev_slice}
use Rattle.std.proofs.lemmas.Iterator.Consumers.{YieldsList-end}
use Rattle.jmodel.specs.format.ClassFile.{ClassFile}
use Rattle.deuce.specs.Ending.{AreUnderNames}
use Rattle.deuce.proofs.Named.{seen, last_first, under_more}
use Rattle.deuce.proofs.rewriting.by_name.Goals as goal

pub loop-class-preserved : goal.loop-class-preserved
loop-class-preserved c =
    let class = c.in-Some.class in
    let before = reverse (seen c.loop-class.yielded) in
    subst (λ (l : List ClassFile). AreUnderNames c.insert.new.self.entries l) (sym (last_first c.loop-class.yielded class))
    (under_more c.loop-class.named.entries c.insert.new.self.entries before c.own_name.result class c.own_name.ensures c.in_ok-insert.ensures.updates.0 c.loop-class.invariant)

pub returns : goal.returns
returns c =
    let classes = c.args.classes.now in
    let source : iter_rest (rev_source c.into_iter-class-iterator.result) ≡ classes = first_of (cc, search rules) in
    let all = YieldsList-end (YieldsList-from_rev_slice classes source) c.loop-class.yielded _ c.loop-class.yielded_by _ _ c.in-None.is c.next.ensures.steps in
    let whole : reverse (seen c.loop-class.yielded) ≡ classes = ap (λ (l : List ClassFile). reverse l) all.0 ∙ reverse-reverse classes in
    subst (λ (l : List ClassFile). AreUnderNames c.loop-class.named.entries l) whole c.loop-class.invariant
