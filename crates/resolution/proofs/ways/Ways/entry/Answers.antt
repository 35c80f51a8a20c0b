use Rattle.std.proofs.Common.{◌≡◌, List, None, sym, ap, ◌∙◌}
use Rattle.jmodel.specs.format.ClassFile.{ClassFile}
use Rattle.hierarchy.specs.Places.{place_of}
use Rattle.resolution.specs.Ways.{entry_of}
use Rattle.resolution.proofs.Tables.{lists, items_in, entry_got}
use Rattle.resolution.proofs.ways.Ways.entry.Goals as goal

pub returns-in_default : goal.returns-in_default
returns-in_default c =
    let none : place_of c.args.self.now c.args.name.now ≡ None = ap (λ (cs : List ClassFile). place_of cs c.args.name.now) (sym c.self.view_is) ∙ sym c.place_of.ensures ∙ c.in_default.is in
    sym (ap (entry_of (lists c.args.table.now)) none)

pub returns-in-Some-get : goal.returns-in-Some-get
returns-in-Some-get c =
    let table = c.args.table.now in
    let place = ap (λ (cs : List ClassFile). place_of cs c.args.name.now) (sym c.self.view_is) ∙ sym c.place_of.ensures ∙ c.in-Some.is in
    let got = entry_got table c.in-Some.place c.get.result c.get.ensures.lookup.0 c.get.ensures.lookup.1 ∙ ap items_in c.in-Some-get.is in
    c.as_slice.ensures.value ∙ sym got ∙ sym (ap (entry_of (lists table)) place)

pub returns-in-None : goal.returns-in-None
returns-in-None c =
    let table = c.args.table.now in
    let place = ap (λ (cs : List ClassFile). place_of cs c.args.name.now) (sym c.self.view_is) ∙ sym c.place_of.ensures ∙ c.in-Some.is in
    let got = entry_got table c.in-Some.place c.get.result c.get.ensures.lookup.0 c.get.ensures.lookup.1 ∙ ap items_in c.in-None.is in
    sym got ∙ sym (ap (entry_of (lists table)) place)
