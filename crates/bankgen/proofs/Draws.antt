-- What draws give, one after another.
use Rattle.std.proofs.Common.{◌≡◌, ℕ, ◌+◌, ◌/◌, ◌^◌, refl, ap, ◌∙◌, add-one}
use Rattle.bankgen.specs.Transfers.{next, after, draw}

-- the generator's number after one more draw
pub after_more : (seed n s t : ℕ) → s ≡ after seed n → t ≡ next s → t ≡ after seed (n + 1)
unfolding after
after_more seed n s t h e = e ∙ ap next h ∙ rw add-one refl

-- what the next draw gives
pub drawn : (seed n s r : ℕ) → s ≡ after seed n → r ≡ next s / 2 ^ 33 → r ≡ draw seed n
unfolding after
drawn seed n s r h e = e ∙ ap (λ m. next m / 2 ^ 33) h
