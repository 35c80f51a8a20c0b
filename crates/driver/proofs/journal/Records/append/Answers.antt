use Rattle.std.proofs.Common.{◌≡◌, ◌++◌, List, length, map, All, cond, Result, Ok, Err, sym, ap, ◌∙◌, subst}
use Rattle.std.specs.Prelude.{OnOk}
use Rattle.std.specs.Result.{is_ok}
use Rattle.std.proofs.lemmas.List.{length-map}
use Rattle.std.proofs.lemmas.Result.{on_ok_weaker}
use Rattle.session.specs.declared.record.Record.{Record}
use Rattle.driver.specs.Bags.{lists, numbered, IsOfWorker}
use Rattle.driver.proofs.Giving.{take_whole}
use Rattle.driver.proofs.journal.Records.append.Goals as goal

-- what holds anyway
on_any : {A E P : Type 0} (r : Result A E) → P → OnOk r P
on_any (Ok x) p = p
on_any (Err e) p = tt

-- what a list is on an Ok
on_added : {A E X : Type 0} (r : Result A E) (new all old : List X) → new ≡ cond (is_ok r) all old → OnOk r (new ≡ all)
on_added (Ok x) new all old is = is
on_added (Err e) new all old is = tt

pub number-requires : goal.number-requires
number-requires c = subst (λ (rs : List Record). All (IsOfWorker (lists c.args.taken.now)) rs) (sym c.deref_mut.ensures.value) c.requires.0

pub number-requires-2 : goal.number-requires-2
number-requires-2 c = subst (λ (rs : List Record). All (IsOfWorker (lists c.args.taken.now)) rs) (sym c.deref_mut-2.ensures.value) c.requires.1

pub returns-clause-placed : goal.returns-clause-placed
returns-clause-placed c =
    let taken = lists c.args.taken.now in
    let old = c.args.self.now.placed.items in
    let other = c.args.other.placed in
    let is : c.number.new.records ≡ map (numbered taken) other.items = c.number.ensures ∙ ap (λ (rs : List Record). map (numbered taken) rs) c.deref_mut.ensures.value in
    let count : other.len ≡ length c.number.new.records = other.ok.0 ∙ sym (ap length is ∙ length-map other.items (numbered taken)) in
    let added : c.append.new.self.items ≡ old ++ map (numbered taken) other.items =
    c.in_ok-append.ensures.items ∙ ap (λ (l : List Record). old ++ l) (take_whole other.len c.number.new.records _ count ∙ is) in
    on_any c.append-2.result added

pub returns-clause-unplaced : goal.returns-clause-unplaced
returns-clause-unplaced c =
    let taken = lists c.args.taken.now in
    let old = c.args.self.now.unplaced.items in
    let other = c.args.other.unplaced in
    let is : c.number-2.new.records ≡ map (numbered taken) other.items = c.number-2.ensures ∙ ap (λ (rs : List Record). map (numbered taken) rs) c.deref_mut-2.ensures.value in
    let count : other.len ≡ length c.number-2.new.records = other.ok.0 ∙ sym (ap length is ∙ length-map other.items (numbered taken)) in
    on_ok_weaker c.append-2.result
    (λ added. added ∙ ap (λ (l : List Record). old ++ l) (take_whole other.len c.number-2.new.records _ count ∙ is))
    (on_added c.append-2.result _ _ _ c.append-2.ensures.items)
