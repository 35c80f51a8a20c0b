-- The first fault among items, as loops look for it.
use Rattle.std.proofs.Common.{◌≡◌, List, ◌∷◌, Option, Some, None, sym, ap, ◌∙◌}
use Rattle.std.specs.Option.{option_or}
use Rattle.jmodel.specs.declared.refusal.Refusal.{Refusal}
use Rattle.objects.specs.linking.Faults.{first_fault}

module _ {A : Type 0} (fault : A → Option Refusal) where
  -- an item has one
  pub found : (front : List A) (x : A) (others : List A) (r : Refusal) (whole : Option Refusal) → front ≡ x ∷ others → fault x ≡ Some r → first_fault fault front ≡ whole → Some r ≡ whole
  found front x others r whole item is so_far = sym (ap (first_fault fault) item ∙ ap (λ (o : Option Refusal). option_or o (first_fault fault others)) is) ∙ so_far

  -- an item has none
  pub passed : (front : List A) (x : A) (others : List A) (whole : Option Refusal) → front ≡ x ∷ others → fault x ≡ None → first_fault fault front ≡ whole → first_fault fault others ≡ whole
  passed front x others whole item is so_far = sym (ap (first_fault fault) item ∙ ap (λ (o : Option Refusal). option_or o (first_fault fault others)) is) ∙ so_far
