use Rattle.std.proofs.Common.{rules, ◌≡◌, ℕ, length, take, ap, sym, subst}
use Rattle.std.specs.Iterator.Adapters.{zip_first, zip_second}
use Rattle.std.specs.Slice.Iter.{iter_rest}
use Rattle.std.specs.Vec.Iter.{into_iter_items, into_iter_len}
use Rattle.std.proofs.lemmas.List.{length_push}
use Rattle.std.proofs.lemmas.Iterator.{YieldsList-from_slice, YieldsList-from_zip}
use Rattle.std.proofs.lemmas.Iterator.Adapters.{YieldsList-from_vec}
use Rattle.std.proofs.lemmas.Iterator.Consumers.{YieldsList-turn, YieldsList-end}
use Rattle.deuce.specs.Folder.{placed_in}
use Rattle.deuce.specs.Ending.{paths_of, seen_files}
use Rattle.deuce.proofs.PutFiles.{placed_more, placed_all}
use Rattle.deuce.proofs.putting.class_files.Goals as goal

pub loop-input-preserved : goal.loop-input-preserved
loop-input-preserved c =
    let inputs = c.args.inputs.now in
    let news = c.args.news.items in
    let first : iter_rest (zip_first c.into_iter-input-iterator.result) ≡ inputs = first_of (cc, search rules) in
    let second : into_iter_items (zip_second c.into_iter-input-iterator.result) ≡ news = first_of (cc, search rules) in
    let many : into_iter_len (zip_second c.into_iter-input-iterator.result) ≡ length news = first_of (cc, search rules) in
    let turn = YieldsList-turn (YieldsList-from_zip (YieldsList-from_slice inputs first) (YieldsList-from_vec news second many))
    c.loop-input.yielded c.loop-input.input-iterator c.loop-input.yielded_by c.next.result c.next.new.self (c.in-Some.input, c.in-Some.bytes) c.in-Some.is c.next.ensures.steps in
    let Seen : ℕ → Type 0 = λ n. seen_files c.push.new.self.items ≡ take n (placed_in c.args.out.now (paths_of inputs) news) in
    subst Seen (sym (length_push c.loop-input.yielded (c.in-Some.input, c.in-Some.bytes)))
    (placed_more c.args.out.now inputs news (length c.loop-input.yielded) (c.in-Some.input.now, c.in-Some.bytes) c.loop-input.files.items c.push.new.self.items _ turn.0 turn.1
    (ap (λ p. (p, c.in-Some.bytes)) c.in_ok-path.ensures.ok) c.in_ok-push.ensures.items c.loop-input.invariant)

pub returns : goal.returns
returns c =
    let inputs = c.args.inputs.now in
    let news = c.args.news.items in
    let first : iter_rest (zip_first c.into_iter-input-iterator.result) ≡ inputs = first_of (cc, search rules) in
    let second : into_iter_items (zip_second c.into_iter-input-iterator.result) ≡ news = first_of (cc, search rules) in
    let many : into_iter_len (zip_second c.into_iter-input-iterator.result) ≡ length news = first_of (cc, search rules) in
    let end = YieldsList-end (YieldsList-from_zip (YieldsList-from_slice inputs first) (YieldsList-from_vec news second many))
    c.loop-input.yielded c.loop-input.input-iterator c.loop-input.yielded_by c.next.result c.next.new.self c.in-None.is c.next.ensures.steps in
    placed_all c.args.out.now inputs news (length c.loop-input.yielded) c.loop-input.files.items end.1 c.loop-input.invariant
