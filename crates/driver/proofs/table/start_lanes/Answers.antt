use Rattle.std.proofs.Common.{◌≡◌, ℕ, ◌<◌, ◌+◌, length, get_or, refl, sym, ◌∙◌, ap, subst, arith}
use Rattle.std.proofs.lemmas.List.{length_push}
use Rattle.tx_table.specs.Passes.{book}
use Rattle.driver.specs.Passing.{used_of, AreStarting}
use Rattle.driver.proofs.Passing.{split_first, split_next, used_goes, starts_push}
use Rattle.driver.proofs.table.start_lanes.Goals as goal

pub loop-lane-init : goal.loop-lane-init
loop-lane-init g c =
    let t = c.args.shared.now.table.shared.table_id in
    let empty = c.new-starts.ensures.items in
    record {
      pass = split_first t c.requires.pass.0 c.args.pass.now c.requires.pass.1;
      len = ap length empty;
      starts = λ phase whole. subst (AreStarting t (book c.args.pass.now).seen phase) (sym empty) (λ i s inside. absurd (omega (arith, inside)));
    }

pub loop-lane-preserved : goal.loop-lane-preserved
loop-lane-preserved g c =
    let i = c.loop-lane.invariant in
    let t = c.args.shared.now.table.shared.table_id in
    let b = book c.args.pass.now in
    let lane = c.loop-lane.lane in
    let same = c.split-pass.ensures.same in
    let books = c.split-pass.ensures.books in
    let few = c.requires.count in
    let below = c.loop-lane-test.true in
    let low : lane < 16 = omega arith in
    let whole = c.requires.pass.1 in
    let next = split_next t b c.requires.pass.0 lane c.loop-lane.pass c.split-pass.new.self c.split-pass.result i.pass low whole.numbers c.requires.room.fresh
    (same.0.0 ∙ i.pass.seated.table) same.1 books.0 books.1 (whole.begins lane low) in
    let pushed = c.in_ok-push.ensures.items in
    record {
      pass = next.0;
      len = ap length pushed ∙ length_push c.loop-lane.starts.items _ ∙ ap (λ (n : ℕ). n + 1) i.len;
      starts = λ phase every.
          let one = split_next t b phase lane c.loop-lane.pass c.split-pass.new.self c.split-pass.result i.pass low every.numbers c.requires.room.fresh
          (same.0.0 ∙ i.pass.seated.table) same.1 books.0 books.1 (every.begins lane low) in
          let held = get_or c.args.used.now c.from.result 0 in
          let was : held ≡ used_of b lane = ap (λ (n : ℕ). get_or c.args.used.now n 0) c.from.ensures ∙ c.requires.used lane low in
          subst (AreStarting t b.seen phase) (sym pushed) (starts_push t b.seen phase c.loop-lane.starts.items lane
          (record { lane = lane; used = held; pass = c.split-pass.result }) i.len refl (used_goes b lane c.split-pass.result held was one.2) one.1
          (i.starts phase every));
    }
