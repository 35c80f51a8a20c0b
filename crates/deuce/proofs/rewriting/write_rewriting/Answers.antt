use Rattle.std.proofs.Common.{◌∙◌, ap, length, subst}
use Rattle.std.specs.Prelude.{filter, List}
use Rattle.std.specs.List.{AllZip}
use Rattle.jmodel.specs.format.ClassFile.{ClassFile}
use Rattle.objects.specs.history.Journal.{is_marked}
use Rattle.objects.specs.semantics.Program.{Method}
use Rattle.deuce.specs.Rewritten.{IsNewOf}
use Rattle.deuce.proofs.Written.{all_ruled, each_named, there_are, rewriting}
use Rattle.deuce.proofs.rewriting.write_rewriting.Goals as goal

pub write_each-requires-clause-rules : goal.write_each-requires-clause-rules
write_each-requires-clause-rules c =
    let i = c.in_ok-made.made in
    let told = c.in_ok-made.ensures in
    rw c.as_slice-classes.ensures.value (all_ruled c.heads_law.ensures c.args.files.now i.original i.rewritten.items told.linked told.typed told.rewrites c.form_law.ensures c.requires.filed)

pub write_each-requires-clause-named : goal.write_each-requires-clause-named
write_each-requires-clause-named c =
    let i = c.in_ok-made.made in
    let told = c.in_ok-made.ensures in
    rw c.as_slice-classes.ensures.value (each_named c.heads_law.ensures c.args.files.now i.original i.rewritten.items told.linked told.typed told.rewrites)

pub write_last-requires-clause-rules : goal.write_last-requires-clause-rules
write_last-requires-clause-rules c =
    let i = c.in_ok-made.made in
    let told = c.in_ok-made.ensures in
    rw c.as_slice-classes.ensures.value (all_ruled c.heads_law.ensures c.args.files.now i.original i.rewritten.items told.linked told.typed told.rewrites c.form_law.ensures c.requires.filed)

pub write_last-requires-clause-some : goal.write_last-requires-clause-some
write_last-requires-clause-some c =
    let i = c.in_ok-made.made in
    let told = c.in_ok-made.ensures in
    rw c.as_slice-classes.ensures.value (there_are c.heads_law.ensures c.args.files.now i.original i.rewritten.items told.linked told.typed told.rewrites)

pub returns-clause-rewriting : goal.returns-clause-rewriting
returns-clause-rewriting c = λ contents are.
    let i = c.in_ok-made.made in
    let told = c.in_ok-made.ensures in
    rewriting c.heads_law.ensures c.args.files.now i.original i.rewritten.items told.linked told.typed told.rewrites c.meaning_law.ensures contents c.in_ok-written.written.items c.in_ok-helper.helper _ _ are told.links c.requires.filed
    (subst (λ (ds : List ClassFile). AllZip (IsNewOf ds) c.args.files.now c.in_ok-written.written.items) c.as_slice-classes.ensures.value c.in_ok-written.ensures)
    (rw c.as_slice-classes.ensures.value at c.in_ok-helper.ensures)
    (ap length c.methods-methods.ensures)
    (c.count_marked.ensures ∙ ap (λ (ms : List Method). length (filter is_marked ms)) c.methods-methods.ensures)
