-- Joins of lists half by half.
use Rattle.std.proofs.Common.{◌≡◌, ℕ, zero, suc, ◌+◌, ◌-◌, ◌/◌, List, [], ◌∷◌, ◌++◌, length, take, drop, replicate, refl, sym, ap, ◌∙◌, arith, length-append, length-take, length-drop}
use Rattle.std.proofs.lemmas.List.{take-append-drop}
use Rattle.jmodel.specs.declared.typing.VType.{VType}
use Rattle.objects.specs.semantics.Program.{Program}
use Rattle.verifier.specs.declared.merging.Above.{Above}
use Rattle.verifier.specs.declared.merging.Above.TheVariants.{First, Second, Own}
use Rattle.verifier.specs.Above.{above_of, IsOneSide}
use Rattle.verifier.specs.Order.{join, join_all}

-- the halves of a list
pub record IsDivided (a l r : List VType) : Type 0 where
  pub left : l ≡ take (length a / 2) a
  pub right : r ≡ drop (length a / 2) a

whole : (a l r : List VType) → IsDivided a l r → l ++ r ≡ a
whole a l r d = ap (λ (l : List VType). l ++ r) d.left ∙ ap (λ (r : List VType). take (length a / 2) a ++ r) d.right ∙ take-append-drop (length a / 2) a

pub rest_length : (ts us l r m s : List VType) → ts ≡ l ++ r → us ≡ m ++ s → length ts ≡ length us → length l ≡ length m → length r ≡ length s
rest_length ts us l r m s e f n k =
    let p : length ts ≡ length l + length r = ap length e ∙ length-append l r in
    let q : length us ≡ length m + length s = ap length f ∙ length-append m s in
    omega (arith, n, k, p, q)

module _ (P : Program) where
  join_none : (a : List VType) → join_all P a [] ≡ []
  join_none [] = refl
  join_none (t ∷ a) = refl

  join_divided : (n : ℕ) (a b : List VType) → join_all P (take n a) (take n b) ++ join_all P (drop n a) (drop n b) ≡ join_all P a b
  join_divided zero a b = refl
  join_divided (suc n) [] b = refl
  join_divided (suc n) (t ∷ a) [] = join_none (drop n a)
  join_divided (suc n) (t ∷ a) (u ∷ b) = ap (◌∷◌ (join P t u)) (join_divided n a b)

  join_run : (n : ℕ) (t u : VType) → join_all P (replicate n t) (replicate n u) ≡ replicate n (join P t u)
  join_run zero t u = refl
  join_run (suc n) t u = ap (◌∷◌ (join P t u)) (join_run n t u)

  length-join : (a b : List VType) → length a ≡ length b → length (join_all P a b) ≡ length a
  length-join [] b e = refl
  length-join (t ∷ a) [] e = cc
  length-join (t ∷ a) (u ∷ b) e = let e' : length a ≡ length b = omega (arith, e) in ap suc (length-join a b e')

  -- of lists of which each is one type over and over
  pub runs_are : (a b : List VType) (t u : VType) (v : List VType) → length a ≡ length b → a ≡ replicate (length a) t → b ≡ replicate (length b) u → v ≡ replicate (length a) (join P t u) → v ≡ join_all P a b
  runs_are a b t u v n e f g =
      let h : b ≡ replicate (length a) u = f ∙ ap (λ (k : ℕ). replicate k u) (sym n) in
      g ∙ sym (ap (λ (a : List VType). join_all P a b) e ∙ ap (join_all P (replicate (length a) t)) h ∙ join_run (length a) t u)

  join_behind : (a b c d : List VType) → length a ≡ length b → join_all P (a ++ c) (b ++ d) ≡ join_all P a b ++ join_all P c d
  join_behind [] [] c d e = refl
  join_behind [] (u ∷ b) c d e = cc
  join_behind (t ∷ a) [] c d e = cc
  join_behind (t ∷ a) (u ∷ b) c d e = let e' : length a ≡ length b = omega (arith, e) in ap (◌∷◌ (join P t u)) (join_behind a b c d e')

  -- of stacks whose topmost parts are as long
  pub stack_join : (ts us l r m s x y z : List VType) → ts ≡ l ++ r → us ≡ m ++ s → length l ≡ length m → x ≡ join_all P l m → y ≡ join_all P r s → z ≡ x ++ y → z ≡ join_all P ts us
  stack_join ts us l r m s x y z e f n g h k =
      k ∙ ap (λ (x : List VType). x ++ y) g ∙ ap (λ (y : List VType). join_all P l m ++ y) h
      ∙ sym (ap (λ (ts : List VType). join_all P ts us) e ∙ ap (join_all P (l ++ r)) f ∙ join_behind l m r s n)

  -- what the halves come to
  module _ (a b l r m s : List VType) (same : length a ≡ length b) (d : IsDivided a l r) (e : IsDivided b m s) where
    pub divided : join_all P l m ++ join_all P r s ≡ join_all P a b
    divided =
        let n = length a / 2 in
        let k : length b / 2 ≡ n = ap (λ (k : ℕ). k / 2) (sym same) in
        let x : m ≡ take n b = e.left ∙ ap (λ (k : ℕ). take k b) k in
        let y : s ≡ drop n b = e.right ∙ ap (λ (k : ℕ). drop k b) k in
        ap (λ (l : List VType). join_all P l m ++ join_all P r s) d.left ∙ ap (λ (m : List VType). join_all P (take n a) m ++ join_all P r s) x
        ∙ ap (λ (r : List VType). join_all P (take n a) (take n b) ++ join_all P r s) d.right ∙ ap (λ (s : List VType). join_all P (take n a) (take n b) ++ join_all P (drop n a) s) y ∙ join_divided n a b

    pub pair_is : (x y : List VType) → x ≡ join_all P l m → y ≡ join_all P r s → x ++ y ≡ join_all P a b
    pair_is x y f g = ap (λ (x : List VType). x ++ y) f ∙ ap (λ (y : List VType). join_all P l m ++ y) g ∙ divided

    pub one_is : (j x y : Above) → IsOneSide j x y → above_of x l m ≡ join_all P l m → above_of y r s ≡ join_all P r s → above_of j a b ≡ join_all P a b
    one_is First x y o f g =
        sym (whole a l r d) ∙ pair_is l r (sym (ap (λ (x : Above). above_of x l m) o.0) ∙ f) (sym (ap (λ (y : Above). above_of y r s) o.1) ∙ g)
    one_is Second x y o f g =
        sym (whole b m s e) ∙ pair_is m s (sym (ap (λ (x : Above). above_of x l m) o.0) ∙ f) (sym (ap (λ (y : Above). above_of y r s) o.1) ∙ g)
    one_is (Own types) x y o f g = absurd o

    pub left_length : (x : List VType) → x ≡ join_all P l m → length x ≡ length a / 2
    left_length x f =
        let p : length l ≡ length a / 2 = ap length d.left ∙ (omega (arith, length-take (length a / 2) a)) in
        let q : length m ≡ length b / 2 = ap length e.left ∙ (omega (arith, length-take (length b / 2) b)) in
        let n : length l ≡ length m = omega (arith, p, q, same) in
        ap length f ∙ length-join l m n ∙ p

    pub right_length : (y : List VType) → y ≡ join_all P r s → length y ≡ length a - length a / 2
    right_length y f =
        let p : length r ≡ length a - length a / 2 = ap length d.right ∙ length-drop (length a / 2) a in
        let q : length s ≡ length b - length b / 2 = ap length e.right ∙ length-drop (length b / 2) b in
        let n : length r ≡ length s = omega (arith, p, q, same) in
        ap length f ∙ length-join r s n ∙ p
