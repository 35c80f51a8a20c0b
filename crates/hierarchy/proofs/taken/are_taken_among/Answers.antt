use Rattle.std.proofs.Common.{◌≡◌, List, map, sym, ap, ◌∙◌}
use Rattle.std.proofs.lemmas.Result.{IfOk-weaker}
use Rattle.jmodel.specs.format.ClassFile.{ClassFile}
use Rattle.objects.specs.linking.Classes.{methods_in}
use Rattle.objects.specs.linking.Taken.{is_taken}
use Rattle.hierarchy.specs.Search.{is_found}
use Rattle.hierarchy.proofs.SearchLaws.{flags}
use Rattle.hierarchy.proofs.taken.are_taken_among.Goals as goal

pub returns : goal.returns
returns c =
    let called = c.in_ok-called.called in
    let methods = c.args.methods.now in
    IfOk-weaker c.are_found.result (λ v. v.items ≡ map (is_found called) methods) (λ v. (cs : List ClassFile) → methods ≡ methods_in cs → v.items ≡ map (is_taken cs) methods)
    (λ v found cs are. found ∙ ap (map (is_found called)) are ∙ flags cs called (c.in_ok-called.ensures cs are) ∙ ap (map (is_taken cs)) (sym are)) c.are_found.ensures
