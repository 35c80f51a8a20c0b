use Rattle.std.proofs.Common.{◌≡◌, List, Some, sym, ap, ◌∙◌}
use Rattle.std.specs.Prelude.{position, option_and_then}
use Rattle.jmodel.specs.format.ClassFile.{ClassFile}
use Rattle.objects.specs.linking.Classes.{Declared, full_name}
use Rattle.objects.specs.linking.Resolution.{special_method}
use Rattle.objects.specs.linking.Decoding.{Symbols, is_method, number_of}
use Rattle.linking.proofs.symbols.Symbols.special_number.Goals as goal

pub returns : goal.returns
returns c =
    let class = c.self.inside.class.now in
    let r = c.args.r.now in
    let number = λ (d : Declared). position (is_method (full_name d)) c.self.inside.numbering.now.methods in
    let found : special_method c.self.inside.names.now class r ≡ Some c.in_ok-method.method =
    ap (λ (cs : List ClassFile). special_method cs class r) (sym c.resolver.ensures) ∙ sym c.special_method.ensures ∙ c.in_ok-method.was in
    c.method_number.ensures ∙ sym (ap (option_and_then number) found) ∙ ap (λ (s : Symbols). option_and_then (number_of s) (special_method s.classes s.class r)) c.self.view_is
