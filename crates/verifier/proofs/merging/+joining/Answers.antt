use Rattle.std.proofs.Common.{◌≡◌, ◌<◌, ◌+◌, ◌-◌, ◌/◌, ◌∙◌, IfOk, ap, arith, length, replicate, subst, sym}
use Rattle.verifier.specs.Above.{above_of}
use Rattle.verifier.specs.Order.{join, join_all}
use Rattle.verifier.proofs.Halves.{IsDivided, left_length, one_is, pair_is, right_length, runs_are}
use Rattle.verifier.proofs.merging.+joining.Goals as goal

pub join_halves-returns-in-Some : goal.join_halves-returns-in-Some
join_halves-returns-in-Some t c =
    let first = c.in_ok-first_left in
    let second = c.in_ok-second_left in
    let d : IsDivided c.args.a.now first.first_left first.first_right = record { left = first.ensures.left; right = first.ensures.right } in
    let e : IsDivided c.args.b.now second.second_left second.second_right = record { left = second.ensures.left; right = second.ensures.right } in
    one_is c.args.program.now c.args.a.now c.args.b.now first.first_left first.first_right second.second_left second.second_right c.requires.same d e c.in-Some.side c.in_ok-left.left c.in_ok-right.right c.in-Some.ensures c.in_ok-left.ensures c.in_ok-right.ensures

pub join_halves-pair-requires-clause-some : goal.join_halves-pair-requires-clause-some
join_halves-pair-requires-clause-some t c =
    let first = c.in_ok-first_left in
    let second = c.in_ok-second_left in
    let d : IsDivided c.args.a.now first.first_left first.first_right = record { left = first.ensures.left; right = first.ensures.right } in
    let e : IsDivided c.args.b.now second.second_left second.second_right = record { left = second.ensures.left; right = second.ensures.right } in
    let x : length c.above_of-left.result ≡ length c.args.a.now / 2 = left_length c.args.program.now c.args.a.now c.args.b.now first.first_left first.first_right second.second_left second.second_right c.requires.same d e c.above_of-left.result (c.above_of-left.ensures ∙ c.in_ok-left.ensures) in
    omega (arith, x, c.requires.two)

pub join_halves-pair-requires-clause-half : goal.join_halves-pair-requires-clause-half
join_halves-pair-requires-clause-half t c =
    let first = c.in_ok-first_left in
    let second = c.in_ok-second_left in
    let d : IsDivided c.args.a.now first.first_left first.first_right = record { left = first.ensures.left; right = first.ensures.right } in
    let e : IsDivided c.args.b.now second.second_left second.second_right = record { left = second.ensures.left; right = second.ensures.right } in
    let x : length c.above_of-left.result ≡ length c.args.a.now / 2 = left_length c.args.program.now c.args.a.now c.args.b.now first.first_left first.first_right second.second_left second.second_right c.requires.same d e c.above_of-left.result (c.above_of-left.ensures ∙ c.in_ok-left.ensures) in
    let y : length c.above_of-right.result ≡ length c.args.a.now - length c.args.a.now / 2 = right_length c.args.program.now c.args.a.now c.args.b.now first.first_left first.first_right second.second_left second.second_right c.requires.same d e c.above_of-right.result (c.above_of-right.ensures ∙ c.in_ok-right.ensures) in
    omega (arith, x, y)

pub join_halves-returns : goal.join_halves-returns
join_halves-returns t c =
    let first = c.in_ok-first_left in
    let second = c.in_ok-second_left in
    let d : IsDivided c.args.a.now first.first_left first.first_right = record { left = first.ensures.left; right = first.ensures.right } in
    let e : IsDivided c.args.b.now second.second_left second.second_right = record { left = second.ensures.left; right = second.ensures.right } in
    c.in_ok-pair.ensures
    ∙ pair_is c.args.program.now c.args.a.now c.args.b.now first.first_left first.first_right second.second_left second.second_right c.requires.same d e c.above_of-left.result c.above_of-right.result (c.above_of-left.ensures ∙ c.in_ok-left.ensures) (c.above_of-right.ensures ∙ c.in_ok-right.ensures)

pub join_parts-returns-in-Run-Run : goal.join_parts-returns-in-Run-Run
join_parts-returns-in-Run-Run t c =
    let P = c.args.program.now in
    let a = c.args.a.now in
    let b = c.args.b.now in
    let f = c.in-Run-Run in
    let x = f.first.now in
    let y = f.second.now in
    let n = c.len.result in
    let first : replicate n x ≡ a = ap (λ k. replicate k x) c.len.ensures ∙ sym f.ensures.0 in
    let second : replicate n y ≡ b = ap (λ k. replicate k y) (c.len.ensures ∙ c.requires.same) ∙ sym f.ensures'.0 in
    let above : replicate n (join P x y) ≡ join_all P a b = runs_are P a b x y (replicate n (join P x y)) c.requires.same f.ensures.0 f.ensures'.0 (ap (λ k. replicate k (join P x y)) c.len.ensures) in
    subst (λ v. IfOk c.join_runs.result (λ j. above_of j a b ≡ v)) above
    (subst (λ v. IfOk c.join_runs.result (λ j. above_of j a v ≡ replicate n (join P x y))) second
    (subst (λ v. IfOk c.join_runs.result (λ j. above_of j v (replicate n y) ≡ replicate n (join P x y))) first c.join_runs.ensures))
