-- A script's text from its parts.
use Rattle.std.proofs.Common.{◌≡◌, ℕ, List, [], ◌∷◌, ◌++◌, ap, ◌∙◌, append_assoc}
use Rattle.std.specs.Prelude.{codes}
use Rattle.bankgen.specs.Script.{list_text, phase_text, total_text}

abbrev pub script_of : (digits lanes : List ℕ) → List ℕ
script_of digits lanes = codes "{\"form\":1,\"lanes\":" ++ digits ++ codes ",\"phases\":" ++ list_text ((codes "{\"lanes\":" ++ lanes ++ codes "}") ∷ phase_text ((total_text ∷ []) ∷ []) ∷ []) ++ codes "}"

regrouped : (a d b o l xs c t q e : List ℕ) → ((a ++ (d ++ (b ++ (o ++ l)))) ++ xs) ++ (c ++ (t ++ (q ++ e))) ≡ a ++ d ++ b ++ (o ++ ((l ++ xs ++ c) ++ t) ++ q) ++ e
regrouped a d b o l xs c t q e = simp append_assoc

-- its head, the lanes of phase 0, and its end
pub script_is : (digits lanes head text whole : List ℕ) → head ≡ codes "{\"form\":1,\"lanes\":" ++ (digits ++ codes ",\"phases\":[{\"lanes\":") → text ≡ head ++ lanes
    → whole ≡ text ++ codes "},{\"lanes\":[[{\"call\":\"Bank.total()I\",\"args\":[]}]]}]}" → whole ≡ script_of digits lanes
script_is digits lanes head text whole h t w =
    w ∙ ap (λ xs. xs ++ codes "},{\"lanes\":[[{\"call\":\"Bank.total()I\",\"args\":[]}]]}]}") (t ∙ ap (λ xs. xs ++ lanes) h)
    ∙ regrouped (codes "{\"form\":1,\"lanes\":") digits (codes ",\"phases\":") (codes "[") (codes "{\"lanes\":") lanes (codes "}") (44 ∷ phase_text ((total_text ∷ []) ∷ [])) (codes "]") (codes "}")
