-- A lane more behind others.
use Rattle.std.proofs.Common.{◌≡◌, ℕ, suc, ◌<◌, ◌+◌, List, [], ◌∷◌, ◌++◌, length, get_or, take, sym, ◌∙◌, ap, subst, arith}
use Rattle.std.proofs.lemmas.List.{take_more}
use Rattle.jmodel.specs.history.History.{Told}
use Rattle.jmodel.specs.history.Schedule.{Known, Phase}
use Rattle.driver.specs.declared.side.Part.{Part}
use Rattle.driver.specs.Sides.{IsPart, AreParts, AreWhole}

-- a lane more
pub parts_more : (phase lane n : ℕ) (cs : List Known) (t : List Told) (r : Part) (ls : Phase) (ns : List ℕ) (ts : List (List Told)) (rs : List Part)
    → AreParts phase lane ls ns ts rs
    → IsPart phase (lane + length ls) n cs t r → AreParts phase lane (ls ++ cs ∷ []) (ns ++ n ∷ []) (ts ++ t ∷ []) (rs ++ r ∷ [])
parts_more phase lane n cs t r [] [] [] [] h k =
    let e : lane + 0 ≡ lane = omega arith in
    let Here : ℕ → Type 0 = λ l. IsPart phase l n cs t r in
    (subst Here e k, tt)
parts_more phase lane n cs t r (ds ∷ ls) (m ∷ ns) (u ∷ ts) (q ∷ rs) h k =
    let e : lane + suc (length ls) ≡ suc lane + length ls = omega arith in
    let Here : ℕ → Type 0 = λ l. IsPart phase l n cs t r in
    (h.0, parts_more phase (suc lane) n cs t r ls ns ts rs h.1 (subst Here e k))
parts_more phase lane n cs t r ls ns ts rs h k = absurd h

pub whole_more : (n : ℕ) (cs : List Known) (r : Part) (ls : Phase) (ns : List ℕ) (rs : List Part) → AreWhole ls ns rs → n + r.made ≡ length cs
    → AreWhole (ls ++ cs ∷ []) (ns ++ n ∷ []) (rs ++ r ∷ [])
whole_more n cs r [] [] [] h k = (k, tt)
whole_more n cs r (ds ∷ ls) (m ∷ ns) (q ∷ rs) h k = (h.0, whole_more n cs r ls ns rs h.1 k)
whole_more n cs r ls ns rs h k = absurd h

-- what two lists have up to the next place
pub lanes_more : {A : Type 0} (xs : List A) (i : ℕ) (x : A) → i < length xs → x ≡ get_or xs i x → take i xs ++ x ∷ [] ≡ take (i + 1) xs
lanes_more xs i x below is = ap (λ y. take i xs ++ y ∷ []) is ∙ sym (take_more xs i x below)
