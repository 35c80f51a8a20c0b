use Rattle.std.proofs.Common.{sym, ap, ◌∙◌}
use Rattle.const_pool.specs.Firsts.{text_known}
use Rattle.const_pool.proofs.KeyTests.{none_from_test}
use Rattle.const_pool.proofs.TextTests.{text_noted}
use Rattle.script.proofs.names.note.Goals as goal

pub returns : goal.returns
returns c = λ q.
    let e = c.in_ok-copy.ensures.items in
    let absent = ap (text_known c.args.numbers.now) e ∙ none_from_test _ (sym c.if-contains_key.ensures) in
    rw (← e) (text_noted c.args.numbers.now c.insert.new.self c.in_ok-copy.copy.items c.args.number absent c.in_ok-insert.ensures.updates q)
