use Rattle.std.specs.Prelude.{bytes_eq}
use Rattle.std.proofs.lemmas.Slice.Eq.{bytes_eq-Decides}
use Rattle.std.proofs.Common.{◌≡◌, ℕ, List, false, ◌<◌, ◌^◌, Ok, ap, sym, ◌∙◌, arith}
use Rattle.std.specs.Fmt.{decimal}
use Rattle.std.proofs.lemmas.Fmt.{parse-decimal}
use Rattle.bankgen.proofs.numbers.number_in.Goals.{else-number-lt-LIMIT-via-then-number-lt-LIMIT+else-eq, else-number-lt-LIMIT-via-else-number-lt-LIMIT}
use Rattle.bankgen.proofs.numbers.number_in.Goals as goal

differ : (xs ys : List ℕ) → xs ≡ ys → bytes_eq xs ys ≡ false → ⊥
differ xs ys e d = let t = (bytes_eq-Decides xs ys).1 e in cc (t, d)

pub returns-in_default : goal.returns-in_default
returns-in_default c n h =
    let b : n < 2 ^ 64 = omega (arith, h.0) in
    let p : c.parse.result ≡ Ok n = parse-decimal 64 n c.args.word.now c.parse.result b b h.1 c.parse.ensures.value.0 in
    cc (p, c.in_default.is)

pub returns : goal.returns
returns c n h =
    let b : n < 2 ^ 64 = omega (arith, h.0) in
    let p : c.parse.result ≡ Ok n = parse-decimal 64 n c.args.word.now c.parse.result b b h.1 c.parse.ensures.value.0 in
    let e : c.in-Ok.number ≡ n = cc (p, c.in-Ok.is) in
    elim c.else-number-lt-LIMIT.branch [
      | else-number-lt-LIMIT-via-then-number-lt-LIMIT+else-eq w ↦
          let same : w.as_str.result.now ≡ c.args.word.now = w.as_str.ensures.value ∙ c.in_ok-digits.ensures.ok ∙ ap decimal e ∙ sym h.1 in
          differ _ _ same (sym w.if-eq.ensures)
      | else-number-lt-LIMIT-via-else-number-lt-LIMIT w ↦ omega (arith, e, h.0, w.if-number-lt-LIMIT.false)
    ]
