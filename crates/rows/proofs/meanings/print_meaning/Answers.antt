use Rattle.std.proofs.Common.{◌≡◌, ◌∙◌, List, map, Ok, Some, ap, sym, subst}
use Rattle.jmodel.specs.format.ClassFile.{ClassFile}
use Rattle.objects.specs.linking.Linking.{linking}
use Rattle.rows.proofs.meanings.print_meaning.Goals as goal

pub rebuild-requires : goal.rebuild-requires
rebuild-requires g c =
    subst (λ (cs : List ClassFile). linking cs ≡ Ok (Some c.in-Ok.made.original)) (sym (ap (map (λ k. k.now)) c.as_slice-before.ensures.value ∙ c.in-Ok.ensures.order)) c.in-Ok.ensures.linked.linked

pub print_rebuilt-requires-clause-source : goal.print_rebuilt-requires-clause-source
print_rebuilt-requires-clause-source g c = c.in-Ok.ensures.linked.source
