use Rattle.std.proofs.Common.{refl, ap, ◌∙◌, cond, Some}
use Rattle.std.specs.Prelude.{bytes_eq, unwrap_or}
use Rattle.std.proofs.lemmas.Map.Text.{btree_map_updates_str}
use Rattle.class_reader.specs.Numbers.{number_known, or_at}
use Rattle.class_reader.proofs.Texts.{recast}
use Rattle.class_reader.proofs.distinct.entry_number.Goals as goal

pub returns-in-Some-clause-number : goal.returns-in-Some-clause-number
returns-in-Some-clause-number c = rw (c.in-Utf8.is, ← c.as_slice-bytes.ensures, ← c.in-Some.ensures.value) refl

pub returns-in_ok-insert-in-None-clause-number : goal.returns-in_ok-insert-in-None-clause-number
returns-in_ok-insert-in-None-clause-number c = rw (c.in-Utf8.is, ← c.as_slice-bytes.ensures, ← c.in-None.ensures.value) refl

pub returns-in_ok-insert-in-None-clause-known : goal.returns-in_ok-insert-in-None-clause-known
returns-in_ok-insert-in-None-clause-known c = λ q.
    let old = c.args.known.now in
    let text = c.as_slice-bytes.result.now in
    let next = c.args.next in
    let e = btree_map_updates_str text old c.insert.new.self (Some next) c.in_ok-insert-in-None.ensures.updates q
    ∙ ap (λ o. cond (bytes_eq text q) (Some (unwrap_or o next)) (number_known old q)) c.in-None.ensures.value
    ∙ recast (number_known old) text q next in
    rw c.in-Utf8.is (e ∙ ap (λ t. or_at (number_known old q) (bytes_eq t q) next) c.as_slice-bytes.ensures)
