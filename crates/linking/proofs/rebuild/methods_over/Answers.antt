use Rattle.std.proofs.Common.{◌≡◌, ℕ, List, Bool, Option, map, Bor, subst, ap, ◌∙◌}
use Rattle.jmodel.specs.format.ClassFile.{ClassFile}
use Rattle.objects.specs.linking.Each.{each}
use Rattle.objects.specs.linking.Classes.{Declared, full_name}
use Rattle.objects.specs.semantics.Program.{Row, Field, Method}
use Rattle.objects.specs.linking.Layout.{rows, texts_of, fields_of}
use Rattle.hierarchy.specs.Built.{Builds}
use Rattle.hierarchy.proofs.InOrder.{seen}
use Rattle.linking.specs.Numbering.{Numbered}
use Rattle.linking.specs.Relinking.{meaning_among, meanings_over}
use Rattle.linking.proofs.rebuild.methods_over.Goals as goal

pub returns : goal.returns
returns c =
    let os = seen c.args.originals.now in
    let cs = seen c.args.classes.now in
    let ps = c.args.methods.now in
    let all = map (λ (m : Bor Declared). m.now) c.args.all.now in
    let means = λ (ds : List ClassFile) (n : Numbered) (bs : List ClassFile). each (λ (p : Declared × Bool). meaning_among ds n bs p.1 p.0) ps in
    let among = λ (ts : List Row) (us : List (List ℕ)) (fs : List Field) (l : List Declared). let n : Numbered = record { types = ts; texts = us; fields = fs; methods = map full_name l } in n in
    let layout = c.args.layout.now in
    let numbered : c.in_ok-numbering.numbering ≡ among (rows os) (texts_of os) (fields_of os) (map (λ (p : Declared × Bool). p.0) ps) =
    c.in_ok-numbering.ensures ∙ ap (λ (ts : List Row). among ts layout.texts.items layout.fields.items all) c.requires.types ∙ ap (λ (us : List (List ℕ)). among (rows os) us layout.fields.items all) c.requires.texts
    ∙ ap (λ (fs : List Field). among (rows os) (texts_of os) fs all) c.requires.fields ∙ ap (among (rows os) (texts_of os) (fields_of os)) c.requires.methods in
    let whole : means c.in_ok-names.names c.in_ok-numbering.numbering c.in_ok-bases.bases ≡ meanings_over os cs ps =
    ap (λ (ds : List ClassFile). means ds c.in_ok-numbering.numbering c.in_ok-bases.bases) c.in_ok-names.ensures
    ∙ ap (λ (n : Numbered). means cs n c.in_ok-bases.bases) numbered
    ∙ ap (means cs (among (rows os) (texts_of os) (fields_of os) (map (λ (p : Declared × Bool). p.0) ps))) c.in_ok-bases.ensures in
    subst (λ (o : Option (List Method)). Builds (λ v. v.items) c.methods_among.result o) whole c.methods_among.ensures
