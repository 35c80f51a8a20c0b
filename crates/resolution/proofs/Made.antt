-- What stands above classes, as it is made of tables one after another.
use Rattle.std.proofs.Common.{◌≡◌, ℕ, List, Vec, Result, Ok, Err, IfOk, subst}
use Rattle.resolution.proofs.Climbing.{IsJoined, IsBehind}
use Rattle.resolution.proofs.Tables.{lists}

module _ {A : Type 0} where
  -- what holds of tables as they are passed holds of those that were made
  pub joined_as : (result table table' list list' : List (Vec ℕ A)) → table' ≡ table → list' ≡ list → IsJoined (lists result) (lists table') (lists list') → IsJoined (lists result) (lists table) (lists list)
  joined_as result table table' list list' t l is =
      subst (λ (vs : List (Vec ℕ A)). IsJoined (lists result) (lists vs) (lists list)) t (subst (λ (vs : List (Vec ℕ A)). IsJoined (lists result) (lists table') (lists vs)) l is)

  -- the same of a table with others behind its lists
  pub behind_as : (result first first' others others' : List (Vec ℕ A)) → first' ≡ first → others' ≡ others → IsBehind (lists result) (lists first') (lists others') → IsBehind (lists result) (lists first) (lists others)
  behind_as result first first' others others' t l is =
      subst (λ (vs : List (Vec ℕ A)). IsBehind (lists result) (lists vs) (lists others)) t (subst (λ (vs : List (Vec ℕ A)). IsBehind (lists result) (lists first') (lists vs)) l is)

-- what holds of an answer gives what follows from it
pub if_ok : {A E : Type 0} (r : Result A E) (P Q : A → Type 0) → ((x : A) → P x → Q x) → IfOk r P → IfOk r Q
if_ok (Ok x) P Q f h = f x h
if_ok (Err e) P Q f h = h
