-- What each status says of how a command ended.
use Rattle.std.proofs.Common.{◌≡◌, ◌≤◌, ◌∙◌, ℕ, List, Option, true, false, eqb, refl, inl, inr, sym, ap, arith, rules}
use Rattle.std.specs.Prelude.{String, string_bytes, codes}
use Rattle.std.specs.declared.alloc.Global.{Global}
use Rattle.jmodel.specs.history.Output.{error_text}
use Rattle.deuce_io.specs.Seen.{Seen}
use Rattle.deuce.specs.Command.{IsNoCommand, NamesFolder}
use Rattle.deuce.specs.declared.outcome.Outcome.{Outcome}
use Rattle.deuce.specs.declared.outcome.Outcome.TheVariants.{Journal, Summary, Rewritten, Usage, BadClass, BadProgram, Untyped, BadScript, Unopened, Outside, NotPut}
use Rattle.deuce.specs.Outcomes.{Says, IsTextOf, Appends, IsRefusal, IsStatus, FailedOutside, status_of}

-- two numbers that a test tells apart
pub apart_from : (m n : ℕ) → eqb m n ≡ false → m ≡ n → ⊥
apart_from m n other same =
    let test : eqb m n ≡ true = ap (λ (k : ℕ). eqb m k) (sym same) ∙ itself m in
    let differ : true ≡ false = sym test ∙ other in
    absurd (cc)
  where
    itself : (m : ℕ) → eqb m m ≡ true
    itself m = search rules

-- a failure of the sink and a want of memory are no refusals
pub no_refusal : (status : ℕ) → 9 ≤ status → IsRefusal status → ⊥
no_refusal status h (inl e) = omega (arith, h, e)
no_refusal status h (inr (inl e)) = omega (arith, h, e)
no_refusal status h (inr (inr (inl e))) = omega (arith, h, e)
no_refusal status h (inr (inr (inr (inl e)))) = omega (arith, h, e)
no_refusal status h (inr (inr (inr (inr (inl e))))) = omega (arith, h, e)
no_refusal status h (inr (inr (inr (inr (inr (inl e)))))) = omega (arith, h, e)
no_refusal status h (inr (inr (inr (inr (inr (inr e)))))) = omega (arith, h, e)

-- the status of an outcome is one of those of the top call
pub is_status : (o : Outcome) (status : ℕ) → status ≡ status_of o → IsStatus status
is_status (Journal text) status s = inl s
is_status (Summary text) status s = inl s
is_status (Rewritten n t m) status s = inl s
is_status Usage status s = inr (inl s)
is_status (BadClass path r) status s = inr (inr (inl s))
is_status (BadProgram r) status s = inr (inr (inr (inl s)))
is_status (Untyped r) status s = inr (inr (inr (inr (inl s))))
is_status (BadScript r) status s = inr (inr (inr (inr (inr (inl s)))))
is_status (Unopened class x) status s = inr (inr (inr (inr (inr (inr (inl s))))))
is_status (Outside path) status s = inr (inr (inr (inr (inr (inr (inr (inl s)))))))
is_status (NotPut path) status s = inr (inr (inr (inr (inr (inr (inr (inr (inr (inr s)))))))))

-- it isn't that of a failure of the sink, nor that of a want of memory
not_of : (o : Outcome) → (eqb (status_of o) 9 ≡ false) × (eqb (status_of o) 10 ≡ false)
not_of (Journal text) = (refl, refl)
not_of (Summary text) = (refl, refl)
not_of (Rewritten n t m) = (refl, refl)
not_of Usage = (refl, refl)
not_of (BadClass path r) = (refl, refl)
not_of (BadProgram r) = (refl, refl)
not_of (Untyped r) = (refl, refl)
not_of (BadScript r) = (refl, refl)
not_of (Unopened class x) = (refl, refl)
not_of (Outside path) = (refl, refl)
not_of (NotPut path) = (refl, refl)

pub not_nine : (o : Outcome) (status : ℕ) → status ≡ status_of o → status ≡ 9 → ⊥
not_nine o status s nine = apart_from (status_of o) 9 (not_of o).0 (sym s ∙ nine)

pub not_ten : (o : Outcome) (status : ℕ) → status ≡ status_of o → status ≡ 10 → ⊥
not_ten o status s ten = apart_from (status_of o) 10 (not_of o).1 (sym s ∙ ten)

module _ (words : List (String Global)) (old new : Seen) where
  no_folder : (dir : List ℕ) → NamesFolder words dir → IsNoCommand words → ⊥
  no_folder dir (other, inl w) none = none.0.0 dir other w
  no_folder dir (other, inr w) none = none.0.1 dir other w

  no_call : (path : List ℕ) → FailedOutside words path old new → IsNoCommand words → ⊥
  no_call path (dir, other, inl h) none = none.0.0 dir other h.0
  no_call path (dir, other, inr h) none = none.0.1 dir other h.0

  -- words of no form have the status of that
  pub no_form : (o : Outcome) (status : ℕ) → Says words old new o → status ≡ status_of o → IsNoCommand words → status ≡ 2
  no_form (Journal text) status h s none = absurd (none.0.0 h.0 h.1 h.2)
  no_form (Summary text) status h s none = absurd (none.1 h.0 h.1)
  no_form (Rewritten n t m) status h s none = absurd (none.0.1 h.0 h.1 h.2)
  no_form Usage status h s none = s
  no_form (BadClass path r) status h s none = absurd (no_folder h.0 h.1 none)
  no_form (BadProgram r) status (inl h) s none = absurd (no_folder h.0 h.1 none)
  no_form (BadProgram r) status (inr h) s none = absurd (none.1 h.0 h.1)
  no_form (Untyped r) status (inl h) s none = absurd (no_folder h.0 h.1 none)
  no_form (Untyped r) status (inr h) s none = absurd (none.1 h.0 h.1)
  no_form (BadScript r) status (inl h) s none = absurd (none.0.0 h.0 h.1 h.2)
  no_form (BadScript r) status (inr h) s none = absurd (none.1 h.0 h.1)
  no_form (Unopened class x) status (inl h) s none = absurd (none.0.0 h.0 h.1 h.2)
  no_form (Unopened class x) status (inr h) s none = absurd (none.1 h.0 h.1)
  no_form (Outside path) status h s none = absurd (no_call (string_bytes path) h none)
  no_form (NotPut path) status h s none = absurd (none.0.1 h.0 h.1 h.2)

  -- and only those
  pub usage : (o : Outcome) (status : ℕ) → Says words old new o → status ≡ status_of o → status ≡ 2 → IsNoCommand words
  usage (Journal text) status h s z = absurd (apart_from 0 2 refl (sym s ∙ z))
  usage (Summary text) status h s z = absurd (apart_from 0 2 refl (sym s ∙ z))
  usage (Rewritten n t m) status h s z = absurd (apart_from 0 2 refl (sym s ∙ z))
  usage Usage status h s z = h
  usage (BadClass path r) status h s z = absurd (apart_from 3 2 refl (sym s ∙ z))
  usage (BadProgram r) status h s z = absurd (apart_from 4 2 refl (sym s ∙ z))
  usage (Untyped r) status h s z = absurd (apart_from 5 2 refl (sym s ∙ z))
  usage (BadScript r) status h s z = absurd (apart_from 6 2 refl (sym s ∙ z))
  usage (Unopened class x) status h s z = absurd (apart_from 7 2 refl (sym s ∙ z))
  usage (Outside path) status h s z = absurd (apart_from 8 2 refl (sym s ∙ z))
  usage (NotPut path) status h s z = absurd (apart_from 11 2 refl (sym s ∙ z))

module _ (printed : List ℕ) (before now : Option (List ℕ)) where
  -- that is printed
  pub usage_line : (o : Outcome) (status : ℕ) → status ≡ status_of o → IsTextOf o printed → Appends before now printed → status ≡ 2 → Appends before now (error_text (codes "2") (codes "usage"))
  usage_line (Journal text) status s is all z = absurd (apart_from 0 2 refl (sym s ∙ z))
  usage_line (Summary text) status s is all z = absurd (apart_from 0 2 refl (sym s ∙ z))
  usage_line (Rewritten n t m) status s is all z = absurd (apart_from 0 2 refl (sym s ∙ z))
  usage_line Usage status s is all z = rw is at all
  usage_line (BadClass path r) status s is all z = absurd (apart_from 3 2 refl (sym s ∙ z))
  usage_line (BadProgram r) status s is all z = absurd (apart_from 4 2 refl (sym s ∙ z))
  usage_line (Untyped r) status s is all z = absurd (apart_from 5 2 refl (sym s ∙ z))
  usage_line (BadScript r) status s is all z = absurd (apart_from 6 2 refl (sym s ∙ z))
  usage_line (Unopened class x) status s is all z = absurd (apart_from 7 2 refl (sym s ∙ z))
  usage_line (Outside path) status s is all z = absurd (apart_from 8 2 refl (sym s ∙ z))
  usage_line (NotPut path) status s is all z = absurd (apart_from 11 2 refl (sym s ∙ z))

  -- a list or a read that failed
  pub outside_printed : (words : List (String Global)) (old new : Seen) (o : Outcome) (status : ℕ) → Says words old new o → status ≡ status_of o → IsTextOf o printed → Appends before now printed → status ≡ 8
      → (path : List ℕ) × FailedOutside words path old new × Appends before now (error_text (codes "8") path)
  outside_printed words old new (Journal text) status h s is all z = absurd (apart_from 0 8 refl (sym s ∙ z))
  outside_printed words old new (Summary text) status h s is all z = absurd (apart_from 0 8 refl (sym s ∙ z))
  outside_printed words old new (Rewritten n t m) status h s is all z = absurd (apart_from 0 8 refl (sym s ∙ z))
  outside_printed words old new Usage status h s is all z = absurd (apart_from 2 8 refl (sym s ∙ z))
  outside_printed words old new (BadClass path r) status h s is all z = absurd (apart_from 3 8 refl (sym s ∙ z))
  outside_printed words old new (BadProgram r) status h s is all z = absurd (apart_from 4 8 refl (sym s ∙ z))
  outside_printed words old new (Untyped r) status h s is all z = absurd (apart_from 5 8 refl (sym s ∙ z))
  outside_printed words old new (BadScript r) status h s is all z = absurd (apart_from 6 8 refl (sym s ∙ z))
  outside_printed words old new (Unopened class x) status h s is all z = absurd (apart_from 7 8 refl (sym s ∙ z))
  outside_printed words old new (Outside path) status h s is all z = (string_bytes path, h, rw is at all)
  outside_printed words old new (NotPut path) status h s is all z = absurd (apart_from 11 8 refl (sym s ∙ z))
