use Rattle.objects.specs.linking.Classes.{declared_in, full_name}
use Rattle.std.specs.Prelude.{map}
use Rattle.objects.proofs.Links.{links}
use Rattle.objects.proofs.SourceProof.{source_law}
use Rattle.rewritten_names.proofs.Named.{names_are}
use Rattle.rewritten_names.proofs.Numbered.{are_numbered}
use Rattle.rewritten_names.proofs.laws.numbers_law.Goals as goal

pub returns : goal.returns
returns c P cs ds h r =
    let l = links cs P r.linked in
    let src = source_law cs P r.read r.linked in
    record { are = names_are cs P r.read l src ds h r.each r.named; numbered = are_numbered cs P r.read l src (map full_name (declared_in h h.methods)) }
