-- Cases of switches keep their keys where their targets are numbered.
use Rattle.std.proofs.Common.{◌≡◌, ℕ, ℤ, Bool, true, ◌&&◌, List, [], ◌∷◌, Option, Some, None, refl, sym, ap, ◌∙◌}
use Rattle.std.specs.Prelude.{int_lt, option_map}
use Rattle.jmodel.specs.declared.instruction.Instr.{Instr}
use Rattle.jmodel.specs.format.Instruction.{ascend, ascend_after}
use Rattle.objects.specs.linking.Code.{number_at, numbered_case}
use Rattle.objects.specs.linking.Each.{in_front, each}

-- one more case keeps its key, where the others do
kept_more : (is : List Instr) (c : ℤ × ℕ) (cases : List (ℤ × ℕ)) → ((k : Option ℤ) (out : List (ℤ × ℕ)) → each (numbered_case is) cases ≡ Some out → ascend_after k cases ≡ ascend_after k out)
    → (k : Option ℤ) (number : Option ℕ) (others : Option (List (ℤ × ℕ))) → each (numbered_case is) cases ≡ others → (out : List (ℤ × ℕ)) → in_front (option_map (λ n. (c.0, n)) number) others ≡ Some out
    → ascend_after k (c ∷ cases) ≡ ascend_after k out
kept_more is c cases kept None (Some n) (Some rest) are out e = let same : (c.0, n) ∷ rest ≡ out = cc in kept (Some c.0) rest are ∙ ap (ascend_after None) same
kept_more is c cases kept (Some j) (Some n) (Some rest) are out e =
    let same : (c.0, n) ∷ rest ≡ out = cc in ap (λ (b : Bool). int_lt j c.0 && b) (kept (Some c.0) rest are) ∙ ap (ascend_after (Some j)) same
kept_more is c cases kept k (Some n) None are out e = absurd cc
kept_more is c cases kept k None (Some rest) are out e = absurd cc
kept_more is c cases kept k None None are out e = absurd cc

-- keys that ascend still ascend
keys_kept : (is : List Instr) (cases : List (ℤ × ℕ)) (k : Option ℤ) (out : List (ℤ × ℕ)) → each (numbered_case is) cases ≡ Some out → ascend_after k cases ≡ ascend_after k out
keys_kept is [] k [] e = refl
keys_kept is [] k (d ∷ out) e = absurd cc
keys_kept is (c ∷ cases) k out e = kept_more is c cases (keys_kept is cases) k (number_at is c.1) (each (numbered_case is) cases) refl out e

-- and so do those of a switch
pub numbered_ascend : (is : List Instr) (cases out : List (ℤ × ℕ)) → each (numbered_case is) cases ≡ Some out → ascend cases ≡ true → ascend out ≡ true
numbered_ascend is cases out e a = sym (keys_kept is cases None out e) ∙ a
