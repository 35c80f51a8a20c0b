use Rattle.std.proofs.Common.{◌≡◌, ◌∙◌, Bor, List, map, Ok, Some, ap, sym, subst}
use Rattle.std.specs.List.{AllByRecursion}
use Rattle.jmodel.specs.format.ClassFile.{ClassFile}
use Rattle.objects.specs.linking.Classes.{in_order}
use Rattle.objects.specs.semantics.Program.{Program}
use Rattle.objects.specs.linking.Linking.{linking}
use Rattle.rewriter.specs.Asked.{AreFiled}
use Rattle.runner.proofs.Ordered.{all_in_order}
use Rattle.runner.proofs.Readying.{linked_folder}
use Rattle.runner.proofs.preparing.instrument_files.Goals as goal

abbrev seen : List (Bor ClassFile) → List ClassFile
seen cs = map (λ k. k.now) cs

-- what is behind a slice of them
behind : (files : List ClassFile) (cs slice : List (Bor ClassFile)) → seen cs ≡ in_order files → slice ≡ cs → seen slice ≡ in_order files
behind files cs slice order is = ap seen is ∙ order

linked_to : (files : List ClassFile) (cs slice : List (Bor ClassFile)) (P : Program) → seen cs ≡ in_order files → slice ≡ cs → linking (seen slice) ≡ Ok (Some P) → linking (in_order files) ≡ Ok (Some P)
linked_to files cs slice P order is links = sym (ap linking (behind files cs slice order is)) ∙ links

pub type_program-requires-clause-source : goal.type_program-requires-clause-source
type_program-requires-clause-source c =
    let files = c.args.files.now in
    let P = c.in_ok-original.original in
    let e = linked_to files c.in_ok-classes.classes.items c.as_slice.result.now P c.in_ok-classes.ensures.order c.as_slice.ensures.value c.in_ok-original.ensures.links in
    (linked_folder files c.in_ok-classes.ensures.read P e).source

pub instrument-requires-clause-filed : goal.instrument-requires-clause-filed
instrument-requires-clause-filed c =
    let files = c.args.files.now in
    subst (AllByRecursion AreFiled) (sym (behind files c.in_ok-classes.classes.items c.as_slice-3.result.now c.in_ok-classes.ensures.order c.as_slice-3.ensures.value)) (all_in_order AreFiled files c.requires.filed)

pub returns-clause-linked : goal.returns-clause-linked
returns-clause-linked c =
    let files = c.args.files.now in
    let P = c.in_ok-original.original in
    let e = linked_to files c.in_ok-classes.classes.items c.as_slice.result.now P c.in_ok-classes.ensures.order c.as_slice.ensures.value c.in_ok-original.ensures.links in
    linked_folder files c.in_ok-classes.ensures.read P e
