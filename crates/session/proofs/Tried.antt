-- The attempts that the call of a session began.
use Rattle.std.proofs.Common.{◌≡◌, ◌+◌, ℕ, List, [], ◌∷◌, ◌++◌, length, Bool, true, false, refl, sym, ap, ◌∙◌, subst, arith, append-nil}
use Rattle.std.specs.Prelude.{filter}
use Rattle.jmodel.specs.declared.value.Answer.{Answer}
use Rattle.jmodel.specs.declared.value.Answer.TheVariants as answer
use Rattle.jmodel.specs.history.Log.{Log}
use Rattle.jmodel.specs.history.History.{Entry}
use Rattle.machine.specs.Machine.{HasTried, TriesBy}
use Rattle.session.specs.declared.record.Record.{Record}
use Rattle.session.specs.declared.record.Lane.{Lane}
use Rattle.session.specs.Adds.{is_spent, has_place, TriesOne}

module _ (S : List Entry → ℕ → Log → Log → Type 0) (A : ℕ → Type 0) (n k : ℕ) where
  -- a call whose attempts are used up
  pub tries_spent : (x : Answer) → is_spent x ≡ true → TriesBy x S A n k → HasTried S A n k 0
  tries_spent answer.Spent is t = t
  tries_spent (answer.Returned v) is t = cc
  tries_spent (answer.Threw c) is t = cc
  tries_spent answer.Budget is t = cc
  tries_spent answer.Depth is t = cc
  tries_spent (answer.Heap u w z) is t = cc
  tries_spent answer.NoMemory is t = cc

  -- a call that was made
  pub tries_made : (r : Record) (old new : Lane) → is_spent r.answer ≡ false → new.placed.items ≡ old.placed.items ++ filter has_place (r ∷ []) → TriesBy r.answer S A n k → TriesOne true S A n k old new
  tries_made r old new unspent placed t longer = go r.answer refl t
    where
      none : r.answer ≡ answer.NoMemory → HasTried S A n k 1
      none e =
          let same : filter has_place (r ∷ []) ≡ [] = rw e refl in
          let still : length new.placed.items ≡ length old.placed.items = ap length (placed ∙ ap (λ rs. old.placed.items ++ rs) same ∙ append-nil old.placed.items) in
          absurd (omega (arith, still, longer))

      go : (x : Answer) → r.answer ≡ x → TriesBy x S A n k → HasTried S A n k 1
      go answer.Spent e t = let no : true ≡ false = ap is_spent (sym e) ∙ unspent in cc
      go (answer.Returned v) e t = t
      go (answer.Threw c) e t = t
      go answer.Budget e t = t
      go answer.Depth e t = t
      go (answer.Heap u w z) e t = t
      go answer.NoMemory e t = none e
