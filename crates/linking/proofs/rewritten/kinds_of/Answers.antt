use Rattle.std.proofs.Common.{true, false, List, map, Bor, ap, ◌∙◌}
use Rattle.std.specs.Prelude.{not}
use Rattle.std.proofs.lemmas.List.{take_all}
use Rattle.std.proofs.lemmas.Result.{IfOk-from_err}
use Rattle.jmodel.specs.format.ClassFile.{ClassFile}
use Rattle.objects.specs.linking.Classes.{Declared, declared_in}
use Rattle.objects.specs.rewriting.Relinking.{is_counted_old, old_members, accessor_members, duplicate_members, is_helper, all_old, all_accessors, all_duplicates, helper_members}
use Rattle.hierarchy.proofs.InOrder.{seen}
use Rattle.linking.proofs.RewrittenMembers.{marked_next}
use Rattle.linking.proofs.rewritten.kinds_of.Goals as goal

pub loop-class-init : goal.loop-class-init
loop-class-init c = c.new-methods.ensures

pub loop-class-preserved : goal.loop-class-preserved
loop-class-preserved c =
    let P = c.args.original.now in
    let classes = c.args.classes.now in
    let i = c.loop-class.class-index in
    let class = c.class-item.result in
    let rewritten = λ (k : ClassFile). not (is_helper k) in
    let more = rw c.in_ok-counts.ensures at c.in_ok-append.ensures in
    record {
      originals = marked_next (old_members P) rewritten (λ (k : Declared). (k, is_counted_old k)) _ _ classes i class c.loop-class-test.true c.class-item.is c.loop-class.invariant.originals more.originals;
      accessors = marked_next (accessor_members P) rewritten (λ (k : Declared). (k, false)) _ _ classes i class c.loop-class-test.true c.class-item.is c.loop-class.invariant.accessors more.accessors;
      duplicates = marked_next (duplicate_members P) rewritten (λ (k : Declared). (k, true)) _ _ classes i class c.loop-class-test.true c.class-item.is c.loop-class.invariant.duplicates more.duplicates;
      helper = marked_next (λ (k : ClassFile). declared_in k k.methods) is_helper (λ (k : Declared). (k, false)) _ _ classes i class c.loop-class-test.true c.class-item.is c.loop-class.invariant.helper c.in_ok-append.ensures.helper;
    }

pub returns-in_err-counts : goal.returns-in_err-counts
returns-in_err-counts c =
    let e = c.from_residual.ensures.0 in
    record { originals = IfOk-from_err _ _ e; accessors = IfOk-from_err _ _ e; duplicates = IfOk-from_err _ _ e; helper = IfOk-from_err _ _ e }

pub returns-in_err-append : goal.returns-in_err-append
returns-in_err-append c =
    let e = c.from_residual-in_err-append.ensures.0 in
    record { originals = IfOk-from_err _ _ e; accessors = IfOk-from_err _ _ e; duplicates = IfOk-from_err _ _ e; helper = IfOk-from_err _ _ e }

pub returns : goal.returns
returns c =
    let P = c.args.original.now in
    let whole = take_all c.loop-class.class-index c.args.classes.now c.loop-class-test.false in
    record {
      originals = c.loop-class.invariant.originals ∙ ap (λ (l : List (Bor ClassFile)). map (λ (k : Declared). (k, is_counted_old k)) (all_old P (seen l))) whole;
      accessors = c.loop-class.invariant.accessors ∙ ap (λ (l : List (Bor ClassFile)). map (λ (k : Declared). (k, false)) (all_accessors P (seen l))) whole;
      duplicates = c.loop-class.invariant.duplicates ∙ ap (λ (l : List (Bor ClassFile)). map (λ (k : Declared). (k, true)) (all_duplicates P (seen l))) whole;
      helper = c.loop-class.invariant.helper ∙ ap (λ (l : List (Bor ClassFile)). map (λ (k : Declared). (k, false)) (helper_members (seen l))) whole;
    }
