use Rattle.std.proofs.Common.{◌≡◌, ℕ, List, Option, true, map, Bor, subst, ap, ◌∙◌}
use Rattle.std.specs.Prelude.{zip}
use Rattle.jmodel.specs.format.ClassFile.{ClassFile}
use Rattle.objects.specs.linking.Each.{each}
use Rattle.objects.specs.linking.Code.{Coded}
use Rattle.objects.specs.linking.Classes.{Declared, full_name}
use Rattle.objects.specs.semantics.Program.{Row, Field, Method}
use Rattle.objects.specs.linking.Layout.{rows, texts_of, fields_of}
use Rattle.objects.specs.linking.Linking.{method_of, linked_methods}
use Rattle.hierarchy.specs.Built.{Builds}
use Rattle.hierarchy.proofs.InOrder.{seen}
use Rattle.linking.specs.Numbering.{Numbered, symbols_among}
use Rattle.linking.proofs.build.linked_methods.Goals as goal

pub returns : goal.returns
returns c =
    let cs = seen c.args.classes.now in
    let ks = c.args.coded.now in
    let ms = map (λ (m : Bor Declared). m.now) c.args.methods.now in
    let means = λ (ds : List ClassFile) (n : Numbered) (os : List ClassFile) (l : List Declared). each (λ (p : Declared × Option Coded). method_of (symbols_among ds n os p.0.class) true p.0.member p.1) (zip l ks) in
    let among = λ (ts : List Row) (us : List (List ℕ)) (fs : List Field) (l : List Declared). let n : Numbered = record { types = ts; texts = us; fields = fs; methods = map full_name l } in n in
    let layout = c.args.layout.now in
    let numbered : c.in_ok-numbering.numbering ≡ among (rows cs) (texts_of cs) (fields_of cs) ms =
    c.in_ok-numbering.ensures ∙ ap (λ (ts : List Row). among ts layout.texts.items layout.fields.items ms) c.requires.types ∙ ap (λ (us : List (List ℕ)). among (rows cs) us layout.fields.items ms) c.requires.texts
    ∙ ap (λ (fs : List Field). among (rows cs) (texts_of cs) fs ms) c.requires.fields in
    let whole : means c.in_ok-names.names c.in_ok-numbering.numbering c.in_ok-bases.bases ms ≡ linked_methods cs ks =
    ap (λ (ds : List ClassFile). means ds c.in_ok-numbering.numbering c.in_ok-bases.bases ms) c.in_ok-names.ensures
    ∙ ap (λ (n : Numbered). means cs n c.in_ok-bases.bases ms) numbered
    ∙ ap (λ (os : List ClassFile). means cs (among (rows cs) (texts_of cs) (fields_of cs) ms) os ms) c.in_ok-bases.ensures
    ∙ ap (λ (l : List Declared). means cs (among (rows cs) (texts_of cs) (fields_of cs) l) cs l) c.requires.methods in
    subst (λ (o : Option (List Method)). Builds (λ v. v.items) c.methods_among.result o) whole c.methods_among.ensures
