use Rattle.std.proofs.Common.{◌≡◌, Option, Some, None, OnOk, subst}
use Rattle.jmodel.specs.format.Pool.{MemberName}
use Rattle.objects.specs.linking.Taken.{invoked, is_named_by}
use Rattle.hierarchy.specs.Search.{Visits, VisitsOf}
use Rattle.hierarchy.proofs.SearchLaws.{nothing_called}
use Rattle.hierarchy.proofs.taken.Search.find_called.Goals as goal

pub returns-in-Some : goal.returns-in-Some
returns-in-Some c =
    let named : Some c.in-Some.found ≡ invoked c.args.pool.now c.args.i.now = c.in-Some.ensures in
    subst (λ (o : Option MemberName). OnOk c.find.result (VisitsOf c.args.groups.now (is_named_by o) c.args.self.now c.find.new.self)) named c.find.ensures

pub returns-in-None : goal.returns-in-None
returns-in-None c = λ ms grouped.
    let none : Option MemberName = None in
    let named : none ≡ invoked c.args.pool.now c.args.i.now = c.in-None.ensures in
    subst (λ (o : Option MemberName). Visits ms (is_named_by o) c.args.self.now c.args.self.now) named (nothing_called ms c.args.self.now)
