-- Stores over narrower locals leave narrower ones.
use Rattle.std.proofs.Common.{◌≡◌, ℕ, zero, suc, ◌<◌, List, [], ◌∷◌, length, true, refl, sym, ap, subst, ◌∙◌, arith}
use Rattle.jmodel.specs.declared.typing.VType.{VType}
use Rattle.jmodel.specs.declared.typing.VType.TheVariants.{Long, Second, Top}
use Rattle.objects.specs.semantics.Program.{Program}
use Rattle.objects.specs.typing.TypeOrder.{IsLocals, is_within, IsWithin, AreWithin}
use Rattle.verifier.proofs.Locals.{IsWhole, Head, Whole, Halved, head_of, stored, stored_on, stored_two, stored_zero, second_stored, wide, wide_on, wide_two, wide_zero, wide_torn}

module _ (P : Program) where
  whole_up : (t u : VType) → IsWithin P t u → IsWhole t → IsWhole u
  whole_up Long u a w = absurd w
  whole_up Second u a w = absurd w
  whole_up t Long a w = cc
  whole_up t Second a w = cc
  whole_up t u a w = tt

  -- what is above a long's place is that place, or top
  long_up : (u : VType) → IsWithin P Long u → IsWhole u → u ≡ Top
  long_up Top a w = refl
  long_up Long a w = absurd w
  long_up u a w = cc

  second_up : (u : VType) → IsWithin P Second u → IsWhole u → u ≡ Top
  second_up Top a w = refl
  second_up Second a w = absurd w
  second_up u a w = cc

  -- the front of two lists of locals of which the first is within the second
  data Heads (x : VType) (l : List VType) (y : VType) (m : List VType) : Type 0 where
    Wholes : IsWhole x → IsWhole y → IsWithin P x y → IsLocals l → IsLocals m → AreWithin P l m → Heads x l y m
    Longs : (r q : List VType) → x ≡ Long → l ≡ Second ∷ r → y ≡ Long → m ≡ Second ∷ q → IsLocals r → IsLocals q → AreWithin P r q → Heads x l y m
    Torn : (r q : List VType) → x ≡ Long → l ≡ Second ∷ r → y ≡ Top → m ≡ Top ∷ q → IsLocals r → IsLocals q → AreWithin P r q → Heads x l y m

  heads : (x : VType) (l : List VType) (y : VType) (m : List VType) → IsLocals (x ∷ l) → IsLocals (y ∷ m) → IsWithin P x y → AreWithin P l m → Heads x l y m
  heads x l y m h g a b = by (head_of x l h) (head_of y m g)
    where
      fall : IsWhole Long → ⊥
      fall w = w

      torn : (r : List VType) → x ≡ Long → l ≡ Second ∷ r → IsLocals r → IsWhole y → (m : List VType) → IsLocals m → AreWithin P (Second ∷ r) m → (m' : List VType) → m' ≡ m → Heads x l y m'
      torn r e f i v [] j w m' n = absurd w
      torn r e f i v (z ∷ q) j w m' n = under (head_of z q j)
        where
          under : Head z q → Heads x l y m'
          under (Whole u k) = let t = second_up z w.0 u in let s = long_up y (subst (λ (x : VType). IsWithin P x y) e a) v in
              Torn r q e f s (subst (λ (z : VType). m' ≡ z ∷ q) t n) i k w.1
          under (Halved o p s k) = absurd (let no : is_within P Second Long ≡ true = subst (λ (z : VType). IsWithin P Second z) p w.0 in cc)

      by : Head x l → Head y m → Heads x l y m
      by (Whole v i) (Whole w j) = Wholes v w a i j b
      by (Whole v i) (Halved q s t j) = absurd (fall (subst IsWhole s (whole_up x y a v)))
      by (Halved r e f i) (Halved q s t j) = let w : AreWithin P (Second ∷ r) (Second ∷ q) = subst (λ (l : List VType). AreWithin P l (Second ∷ q)) f (subst (AreWithin P l) t b) in Longs r q e f s t i j w.1
      by (Halved r e f i) (Whole w j) = torn r e f i w m j (subst (λ (l : List VType). AreWithin P l m) f b) m refl

  four : (Q : VType → List VType → VType → List VType → Type 0) (x : VType) (l : List VType) (y : VType) (m : List VType) (x' : VType) (l' : List VType) (y' : VType) (m' : List VType) → x ≡ x' → l ≡ l' → y ≡ y' → m ≡ m' → Q x' l' y' m' → Q x l y m
  four Q x l y m x' l' y' m' a b c d q = subst (λ x. Q x l y m) (sym a) (subst (λ l. Q x' l y m) (sym b) (subst (λ y. Q x' l' y m) (sym c) (subst (λ m. Q x' l' y' m) (sym d) q)))

  same_two : (a b c d : List VType) → a ≡ c → b ≡ d → AreWithin P c d → AreWithin P a b
  same_two a b c d e f w = subst (λ a. AreWithin P a b) (sym e) (subst (λ b. AreWithin P c b) (sym f) w)

  module _ (t u : VType) (tu : IsWithin P t u) where
    pub stored_within : (i : ℕ) (h g : List VType) → i < length h → IsLocals h → IsLocals g → AreWithin P h g → AreWithin P (stored i t h) (stored i u g)
    stored_within i [] g lt a b w = absurd (omega arith)
    stored_within i (x ∷ l) [] lt a b w = absurd w
    stored_within zero (x ∷ l) (y ∷ m) lt a b w = by (heads x l y m a b w.0 w.1)
      where
        by : Heads x l y m → AreWithin P (stored 0 t (x ∷ l)) (stored 0 u (y ∷ m))
        by (Wholes v k p i j r) = same_two _ _ (t ∷ l) (u ∷ m) (stored_zero t x l v) (stored_zero u y m k) (tu, r)
        by (Longs r q e f s z i j k) = four (λ x l y m. AreWithin P (stored 0 t (x ∷ l)) (stored 0 u (y ∷ m))) x l y m Long (Second ∷ r) Long (Second ∷ q) e f s z (tu, (refl, k))
        by (Torn r q e f s z i j k) = four (λ x l y m. AreWithin P (stored 0 t (x ∷ l)) (stored 0 u (y ∷ m))) x l y m Long (Second ∷ r) Top (Top ∷ q) e f s z (tu, (refl, k))
    stored_within (suc zero) (x ∷ l) (y ∷ m) lt a b w = by (λ i j r. stored_within zero l m (omega arith) i j r) (heads x l y m a b w.0 w.1)
      where
        by : (IsLocals l → IsLocals m → AreWithin P l m → AreWithin P (stored 0 t l) (stored 0 u m)) → Heads x l y m → AreWithin P (stored 1 t (x ∷ l)) (stored 1 u (y ∷ m))
        by rest (Wholes v k p i j r) = same_two _ _ (x ∷ stored 0 t l) (y ∷ stored 0 u m) (stored_on 0 t x l i) (stored_on 0 u y m j) (p, rest i j r)
        by rest (Longs r q e f s z i j k) = four (λ x l y m. AreWithin P (stored 1 t (x ∷ l)) (stored 1 u (y ∷ m))) x l y m Long (Second ∷ r) Long (Second ∷ q) e f s z (refl, (tu, k))
        by rest (Torn r q e f s z i j k) = four (λ x l y m. AreWithin P (stored 1 t (x ∷ l)) (stored 1 u (y ∷ m))) x l y m Long (Second ∷ r) Top (Top ∷ q) e f s z (refl, (tu, k))
    stored_within (suc (suc o)) (x ∷ l) (y ∷ m) lt a b w = by (λ i j r. stored_within (suc o) l m (omega arith) i j r) (λ r q n i j k. stored_within o r q n i j k) (heads x l y m a b w.0 w.1)
      where
        by : (IsLocals l → IsLocals m → AreWithin P l m → AreWithin P (stored (suc o) t l) (stored (suc o) u m)) → ((r q : List VType) → o < length r → IsLocals r → IsLocals q → AreWithin P r q → AreWithin P (stored o t r) (stored o u q)) → Heads x l y m
            → AreWithin P (stored (suc (suc o)) t (x ∷ l)) (stored (suc (suc o)) u (y ∷ m))
        by rest two (Wholes v k p i j r) = same_two _ _ (x ∷ stored (suc o) t l) (y ∷ stored (suc o) u m) (stored_on (suc o) t x l i) (stored_on (suc o) u y m j) (p, rest i j r)
        by rest two (Longs r q e f s z i j k) =
            let n : length l ≡ suc (length r) = ap length f in
            let lr : o < length r = omega arith in
            four (λ x l y m. AreWithin P (stored (suc (suc o)) t (x ∷ l)) (stored (suc (suc o)) u (y ∷ m))) x l y m Long (Second ∷ r) Long (Second ∷ q) e f s z
            (same_two _ _ (Long ∷ Second ∷ stored o t r) (Long ∷ Second ∷ stored o u q) (stored_two o t Long Second r i) (stored_two o u Long Second q j) (refl, (refl, two r q lr i j k)))
        by rest two (Torn r q e f s z i j k) =
            let n : length l ≡ suc (length r) = ap length f in
            let lr : o < length r = omega arith in
            four (λ x l y m. AreWithin P (stored (suc (suc o)) t (x ∷ l)) (stored (suc (suc o)) u (y ∷ m))) x l y m Long (Second ∷ r) Top (Top ∷ q) e f s z
            (same_two _ _ (Long ∷ Second ∷ stored o t r) (Top ∷ Top ∷ stored o u q) (stored_two o t Long Second r i) (stored_two o u Top Top q j) (refl, (refl, two r q lr i j k)))

  second_within : (h g : List VType) → 0 < length h → IsLocals h → IsLocals g → AreWithin P h g → AreWithin P (second_stored h) (second_stored g)
  second_within h g lt a b w = stored_within Second Second refl 0 h g lt a b w

  pub wide_within : (i : ℕ) (h g : List VType) → suc i < length h → IsLocals h → IsLocals g → AreWithin P h g → AreWithin P (wide i h) (wide i g)
  wide_within i [] g lt a b w = absurd (omega arith)
  wide_within i (x ∷ l) [] lt a b w = absurd w
  wide_within zero (x ∷ l) (y ∷ m) lt a b w = by (heads x l y m a b w.0 w.1)
    where
      by : Heads x l y m → AreWithin P (wide 0 (x ∷ l)) (wide 0 (y ∷ m))
      by (Wholes v k p i j r) = same_two _ _ (Long ∷ second_stored l) (Long ∷ second_stored m) (wide_zero x l v i) (wide_zero y m k j) (refl, second_within l m (omega arith) i j r)
      by (Longs r q e f s z i j k) = four (λ x l y m. AreWithin P (wide 0 (x ∷ l)) (wide 0 (y ∷ m))) x l y m Long (Second ∷ r) Long (Second ∷ q) e f s z (refl, (refl, k))
      by (Torn r q e f s z i j k) = four (λ x l y m. AreWithin P (wide 0 (x ∷ l)) (wide 0 (y ∷ m))) x l y m Long (Second ∷ r) Top (Top ∷ q) e f s z (refl, (refl, k))
  wide_within (suc zero) (x ∷ l) (y ∷ m) lt a b w = by (λ i j r. wide_within zero l m (omega arith) i j r) (heads x l y m a b w.0 w.1)
    where
      by : (IsLocals l → IsLocals m → AreWithin P l m → AreWithin P (wide 0 l) (wide 0 m)) → Heads x l y m → AreWithin P (wide 1 (x ∷ l)) (wide 1 (y ∷ m))
      by rest (Wholes v k p i j r) = same_two _ _ (x ∷ wide 0 l) (y ∷ wide 0 m) (wide_on 0 x l i) (wide_on 0 y m j) (p, rest i j r)
      by rest (Longs r q e f s z i j k) =
          let n : length l ≡ suc (length r) = ap length f in
          let lr : 0 < length r = omega arith in
          four (λ x l y m. AreWithin P (wide 1 (x ∷ l)) (wide 1 (y ∷ m))) x l y m Long (Second ∷ r) Long (Second ∷ q) e f s z
          (same_two _ _ (Top ∷ Long ∷ second_stored r) (Top ∷ Long ∷ second_stored q) (wide_torn r i) (wide_torn q j) (refl, (refl, second_within r q lr i j k)))
      by rest (Torn r q e f s z i j k) =
          let n : length l ≡ suc (length r) = ap length f in
          let lr : 0 < length r = omega arith in
          four (λ x l y m. AreWithin P (wide 1 (x ∷ l)) (wide 1 (y ∷ m))) x l y m Long (Second ∷ r) Top (Top ∷ q) e f s z
          (same_two _ _ (Top ∷ Long ∷ second_stored r) (Top ∷ Long ∷ second_stored q) (wide_torn r i) (wide_on 0 Top (Top ∷ q) j ∙ ap (λ (l : List VType). Top ∷ l) (wide_zero Top q tt j)) (refl, (refl, second_within r q lr i j k)))
  wide_within (suc (suc o)) (x ∷ l) (y ∷ m) lt a b w = by (λ i j r. wide_within (suc o) l m (omega arith) i j r) (λ r q n i j k. wide_within o r q n i j k) (heads x l y m a b w.0 w.1)
    where
      by : (IsLocals l → IsLocals m → AreWithin P l m → AreWithin P (wide (suc o) l) (wide (suc o) m)) → ((r q : List VType) → suc o < length r → IsLocals r → IsLocals q → AreWithin P r q → AreWithin P (wide o r) (wide o q)) → Heads x l y m
          → AreWithin P (wide (suc (suc o)) (x ∷ l)) (wide (suc (suc o)) (y ∷ m))
      by rest two (Wholes v k p i j r) = same_two _ _ (x ∷ wide (suc o) l) (y ∷ wide (suc o) m) (wide_on (suc o) x l i) (wide_on (suc o) y m j) (p, rest i j r)
      by rest two (Longs r q e f s z i j k) =
          let n : length l ≡ suc (length r) = ap length f in
          let lr : suc o < length r = omega arith in
          four (λ x l y m. AreWithin P (wide (suc (suc o)) (x ∷ l)) (wide (suc (suc o)) (y ∷ m))) x l y m Long (Second ∷ r) Long (Second ∷ q) e f s z
          (same_two _ _ (Long ∷ Second ∷ wide o r) (Long ∷ Second ∷ wide o q) (wide_two o Long Second r i) (wide_two o Long Second q j) (refl, (refl, two r q lr i j k)))
      by rest two (Torn r q e f s z i j k) =
          let n : length l ≡ suc (length r) = ap length f in
          let lr : suc o < length r = omega arith in
          four (λ x l y m. AreWithin P (wide (suc (suc o)) (x ∷ l)) (wide (suc (suc o)) (y ∷ m))) x l y m Long (Second ∷ r) Top (Top ∷ q) e f s z
          (same_two _ _ (Long ∷ Second ∷ wide o r) (Top ∷ Top ∷ wide o q) (wide_two o Long Second r i) (wide_two o Top Top q j) (refl, (refl, two r q lr i j k)))
