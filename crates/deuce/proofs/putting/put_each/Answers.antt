use Rattle.std.proofs.Common.{◌≡◌, ◌∙◌, ℕ, length, take, Err, ap, sym, subst, arith}
use Rattle.std.specs.Prelude.{option_map, string_bytes}
use Rattle.std.proofs.lemmas.List.{length_push, length-map, take_all}
use Rattle.std.proofs.lemmas.Iterator.Adapters.{YieldsList-from_vec}
use Rattle.std.proofs.lemmas.Iterator.Consumers.{YieldsList-turn, YieldsList-end}
use Rattle.deuce_io.proofs.Rising.{rose_since}
use Rattle.deuce.specs.Folder.{with_files}
use Rattle.deuce.specs.Ending.{seen_files}
use Rattle.deuce.proofs.PutFiles.{seen_file, put_none, put_more, put_up_to}
use Rattle.deuce.proofs.putting.put_each.Goals as goal

pub loop-file-init : goal.loop-file-init
loop-file-init g c = record { put = put_none (g.F.Folder.seen c.args.folder.now).files; put_counts = omega arith }

pub returns-in-Err-Failed-clause-cause : goal.returns-in-Err-Failed-clause-cause
returns-in-Err-Failed-clause-cause g c =
    let files = c.args.files.items in
    let from = c.into_iter-file-iterator.ensures.into_iter_gives in
    let turn = YieldsList-turn (YieldsList-from_vec files from.0 (from.1 ∙ c.args.files.ok.0))
    c.loop-file.yielded c.loop-file.file-iterator c.loop-file.yielded_by c.next.result c.next.new.self c.in-Some.file c.in-Some.is c.next.ensures.steps in
    let path = c.as_str.ensures.value in
    let failed = c.in-Err-Failed.ensures.cause (ap Err c.in-Err-Failed.field-0-is) in (
      put_up_to files (length c.loop-file.yielded) c.in-Some.file turn.0 turn.1 (g.F.Folder.seen c.args.folder.now).files (g.F.Folder.seen c.loop-file.folder).files (g.F.Folder.seen c.put.new.self).files c.put.ensures.others.0
          c.loop-file.invariant.put (rw path at c.put.ensures.others.1),
      record { rose = rose_since _ _ _ c.loop-file.invariant.put_counts failed.rose; is_last = rw path at failed.is_last },
    )

pub returns-in-Err-NoMemory-clause-cause : goal.returns-in-Err-NoMemory-clause-cause
returns-in-Err-NoMemory-clause-cause g c =
    let files = c.args.files.items in
    let from = c.into_iter-file-iterator.ensures.into_iter_gives in
    let turn = YieldsList-turn (YieldsList-from_vec files from.0 (from.1 ∙ c.args.files.ok.0))
    c.loop-file.yielded c.loop-file.file-iterator c.loop-file.yielded_by c.next.result c.next.new.self c.in-Some.file c.in-Some.is c.next.ensures.steps in
    let path = c.as_str.ensures.value in (
      string_bytes c.in-Some.file.path,
      put_up_to files (length c.loop-file.yielded) c.in-Some.file turn.0 turn.1 (g.F.Folder.seen c.args.folder.now).files (g.F.Folder.seen c.loop-file.folder).files (g.F.Folder.seen c.put.new.self).files c.put.ensures.others.0
          c.loop-file.invariant.put (rw path at c.put.ensures.others.1),
    )

pub loop-file-preserved : goal.loop-file-preserved
loop-file-preserved g c =
    let files = c.args.files.items in
    let from = c.into_iter-file-iterator.ensures.into_iter_gives in
    let turn = YieldsList-turn (YieldsList-from_vec files from.0 (from.1 ∙ c.args.files.ok.0))
    c.loop-file.yielded c.loop-file.file-iterator c.loop-file.yielded_by c.next.result c.next.new.self c.in-Some.file c.in-Some.is c.next.ensures.steps in
    let first = (g.F.Folder.seen c.args.folder.now).files in
    let k = length c.loop-file.yielded in
    let Put : ℕ → Type 0 = λ n. (g.F.Folder.seen c.put.new.self).files ≡ option_map (with_files (take n (seen_files files))) first in
    record {
      put = subst Put (sym (length_push c.loop-file.yielded c.in-Some.file)) (put_more files k c.in-Some.file turn.0 turn.1 first (g.F.Folder.seen c.loop-file.folder).files (g.F.Folder.seen c.put.new.self).files c.loop-file.invariant.put
          (rw (c.as_str.ensures.value, c.as_slice.ensures) at c.in-Ok.ensures.content));
      put_counts = omega (arith, c.loop-file.invariant.put_counts, c.put.ensures.put_counts);
    }

pub returns-clause-put : goal.returns-clause-put
returns-clause-put g c =
    let files = c.args.files.items in
    let from = c.into_iter-file-iterator.ensures.into_iter_gives in
    let end = YieldsList-end (YieldsList-from_vec files from.0 (from.1 ∙ c.args.files.ok.0))
    c.loop-file.yielded c.loop-file.file-iterator c.loop-file.yielded_by c.next.result c.next.new.self c.in-None.is c.next.ensures.steps in
    let k = length c.loop-file.yielded in
    let all = take_all k (seen_files files) (omega (arith, end.1, length-map files seen_file)) in
    c.loop-file.invariant.put ∙ ap (λ l. option_map (with_files l) (g.F.Folder.seen c.args.folder.now).files) all
