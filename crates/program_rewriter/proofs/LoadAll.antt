-- The loads of parameters, as a loop collects them.
use Rattle.std.proofs.Common.{◌≡◌, ℕ, suc, ◌+◌, ◌≤◌, ◌<◌, List, ◌++◌, ◌∷◌, length, drop, get_or, refl, sym, ap, ◌∙◌, append_assoc, add-one, drop-cons}
use Rattle.std.proofs.lemmas.List.{append-nil, drop_all}
use Rattle.jmodel.specs.declared.typing.VType.{VType}
use Rattle.jmodel.specs.declared.typing.VType.TheVariants as type
use Rattle.objects.specs.declared.op.Op.{Op}
use Rattle.objects.specs.rewriting.Rewriting.{load_all}
use Rattle.program_rewriter.specs.Loads.{one_load}

-- the load of the first, and those of the others
loads_split : (i : ℕ) (t : VType) (ts : List VType) → load_all i (t ∷ ts) ≡ one_load i t ++ load_all (suc i) ts
loads_split i type.Int ts = refl
loads_split i type.Long ts = refl
loads_split i type.Second ts = refl
loads_split i type.Null ts = refl
loads_split i (type.Ref n) ts = refl
loads_split i (type.Uninit p) ts = refl
loads_split i type.UninitThis ts = refl
loads_split i type.Top ts = refl

-- one more load
pub loads_go_on : (front : List Op) (all : List Op) (ps : List VType) (i : ℕ) (t : VType) → i < length ps → t ≡ get_or ps i t → front ++ load_all i (drop i ps) ≡ all
    → (front ++ one_load i t) ++ load_all (i + 1) (drop (i + 1) ps) ≡ all
loads_go_on front all ps i t h is so_far =
    let item : drop i ps ≡ t ∷ drop (suc i) ps = drop-cons ps i t h ∙ ap (λ (y : VType). y ∷ drop (suc i) ps) (sym is) in
    ap (λ (n : ℕ). (front ++ one_load i t) ++ load_all n (drop n ps)) (add-one i)
    ∙ append_assoc front (one_load i t) (load_all (suc i) (drop (suc i) ps))
    ∙ sym (ap (λ (xs : List Op). front ++ xs) (ap (load_all i) item ∙ loads_split i t (drop (suc i) ps)))
    ∙ so_far

-- after the last
pub loads_are_done : (front all : List Op) (ps : List VType) (i : ℕ) → length ps ≤ i → front ++ load_all i (drop i ps) ≡ all → front ≡ all
loads_are_done front all ps i h so_far = sym (append-nil front) ∙ sym (ap (λ (ts : List VType). front ++ load_all i ts) (drop_all i ps h)) ∙ so_far
