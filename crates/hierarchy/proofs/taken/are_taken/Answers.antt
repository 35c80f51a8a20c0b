use Rattle.std.proofs.Common.{◌≡◌, List, map, ap, ◌∙◌}
use Rattle.std.proofs.lemmas.Result.{IfOk-weaker}
use Rattle.jmodel.specs.format.ClassFile.{ClassFile}
use Rattle.objects.specs.linking.Classes.{methods_in}
use Rattle.objects.specs.linking.Taken.{is_taken}
use Rattle.hierarchy.proofs.InOrder.{seen}
use Rattle.hierarchy.proofs.taken.are_taken.Goals as goal

pub returns : goal.returns
returns c =
    let cs = seen c.args.classes.now in
    let are = c.as_slice.ensures.value ∙ c.in_ok-methods.ensures in
    IfOk-weaker c.are_taken_among.result (λ v. (ds : List ClassFile) → c.as_slice.result.now ≡ methods_in ds → v.items ≡ map (is_taken ds) c.as_slice.result.now) (λ v. v.items ≡ map (is_taken cs) (methods_in cs))
    (λ v found. found cs are ∙ ap (map (is_taken cs)) are) c.are_taken_among.ensures
