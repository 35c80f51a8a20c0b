use Rattle.std.proofs.Common.{suc, refl, sym, ap, ◌∙◌, subst, arith}
use Rattle.std.proofs.lemmas.List.{length-append}
use Rattle.std.proofs.lemmas.List.Elements.{All-push}
use Rattle.tx_table.specs.Book.{Book, lookup}
use Rattle.tx_table.specs.Passes.{book}
use Rattle.tl2.specs.Trials.{IsStarting, IsWaiting}
use Rattle.tl2.proofs.Trials.{lane_waits, lane_stays}
use Rattle.part_tests.proofs.attempts.transfers.lanes_of.Goals as goal

pub loop-number-preserved : goal.loop-number-preserved
loop-number-preserved c =
    let i = c.loop-number.invariant in
    let n = c.loop-number.number in
    let v = book c.loop-number.pass in
    let books = c.split_lane-pass.ensures.books in
    let same = c.split_lane-pass.ensures.same in
    let below = c.loop-number-test.true in
    let table = c.args.shared.now.table.shared.table_id in
    let starting : IsStarting table n c.split_lane-pass.result = record {
      table = same.1;
      free = rw books.1 (refl, refl);
      waits = subst (IsWaiting n 0) (sym books.1) (lane_waits n v (i.regions n (omega arith) below));
      ticks = rw books.1 refl;
      numbers = rw books.1 (refl, refl);
    } in
    let numbers = i.numbers in
    let fresh = i.fresh in
    let len = i.len in
    record {
      same = (same.0.0 ∙ i.same.0, same.0.1 ∙ i.same.1);
      numbers = rw books.0 (omega arith);
      fresh = rw books.0 (omega arith);
      ticks = rw books.0 i.ticks;
      free = rw books.0 i.free;
      regions = λ k l m. ap (λ (w : Book). lookup w.regions (suc k)) books.0 ∙ lane_stays n k v (omega arith) ∙ i.regions k (omega arith) m;
      len = rw (c.in_ok-push.ensures.items, length-append) (omega arith);
      lanes = rw c.in_ok-push.ensures.items (All-push (λ x. IsStarting table x.number x.pass) c.loop-number.lanes.items _ i.lanes starting);
    }
