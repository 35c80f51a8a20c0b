use Rattle.std.proofs.Common.{Option, subst, ap, ◌∙◌}
use Rattle.objects.specs.semantics.Program.{Method}
use Rattle.objects.specs.linking.Classes.{Declared}
use Rattle.objects.specs.linking.Decoding.{Symbols}
use Rattle.objects.specs.linking.Linking.{method_of}
use Rattle.hierarchy.specs.Built.{Builds}
use Rattle.linking.specs.Numbering.{symbols_among}
use Rattle.linking.proofs.build.Scope.method_of.Goals as goal

pub returns : goal.returns
returns c =
    let scope = c.args.self.now in
    let means = λ (s : Symbols) (k : Declared). method_of s c.args.counted k.member c.args.coded.now in
    let among = λ (k : Declared). symbols_among scope.names.now scope.numbering.now scope.bases.now k.class in
    let same = ap (λ (s : Symbols). method_of s c.args.counted c.method.inside.member.now c.args.coded.now) c.symbols_of-symbols.ensures ∙ ap (λ (k : Declared). means (among k) k) c.method.view_is in
    subst (λ (o : Option Method). Builds (λ m. m) c.method_of.result o) same c.method_of.ensures
