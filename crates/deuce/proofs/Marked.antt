-- How many methods are marked, counted one after another.
use Rattle.std.proofs.Common.{◌≡◌, ℕ, ◌+◌, ◌<◌, ◌≤◌, Bool, true, false, List, [], ◌∷◌, length, take, cond, get_or, sym, ap, ◌∙◌, arith, length-append}
use Rattle.std.specs.Prelude.{filter}
use Rattle.std.specs.Int.{from_bool}
use Rattle.std.proofs.lemmas.List.Elements.{filter_more}
use Rattle.objects.specs.history.Journal.{is_marked}
use Rattle.objects.specs.semantics.Program.{Method}

-- so many are as one more method is looked at
pub marked_more : (ks : List Method) (i n m : ℕ) (k : Method) → i < length ks → k ≡ get_or ks i k → n ≡ length (filter is_marked (take i ks)) → m ≡ from_bool (is_marked k)
    → n + m ≡ length (filter is_marked (take (i + 1) ks))
marked_more ks i n m k inside is so_far one =
    let more = ap (λ (l : List Method). length l) (filter_more is_marked ks i k inside) in
    let same : is_marked (get_or ks i k) ≡ is_marked k = ap is_marked (sym is) in
    let parts = length-append (filter is_marked (take i ks)) (cond (is_marked (get_or ks i k)) (get_or ks i k ∷ []) []) in
    let last = by (is_marked (get_or ks i k)) (get_or ks i k) in
    let m_is : m ≡ from_bool (is_marked (get_or ks i k)) = one ∙ ap from_bool (sym same) in
    omega (arith, more, parts, last, m_is, so_far)
  where
    by : (b : Bool) (x : Method) → length (cond b (x ∷ []) []) ≡ from_bool b
    by true x = omega arith
    by false x = omega arith

-- the count grows by one at most
pub one_more : (b : Bool) (k : ℕ) → k ≡ from_bool b → k ≤ 1
one_more true k e = omega (arith, e)
one_more false k e = omega (arith, e)
