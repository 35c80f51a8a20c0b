-- Types that have each type above them that others have, and what asks no more of them.
use Rattle.std.proofs.Common.{◌≡◌, ℕ, List, [], ◌∷◌, ◌++◌, length, Bool, true, false, refl}
use Rattle.std.specs.Prelude.{IsTrue, if◌then◌else◌}
use Rattle.jmodel.specs.declared.typing.VType.{VType}
use Rattle.jmodel.specs.declared.typing.VType.TheVariants.{Int, Long, Second, Null, Ref, Uninit, UninitThis, Top}
use Rattle.objects.specs.declared.op.Width.{Width}
use Rattle.objects.specs.declared.op.Width.TheVariants as width
use Rattle.objects.specs.semantics.Program.{Program}
use Rattle.objects.specs.typing.TypeOrder.{is_within, IsWithin, AreWithin, IsLocals}
use Rattle.objects.specs.typing.Typing.{Types, Flow, Leads, Wrong, FitsIn, if_so, on, on_each, on_int, on_number, on_top, is_one, on_one, on_two}
use Rattle.objects.specs.typing.Source.{AreTypes}
use Rattle.verifier.proofs.Orders.{within_trans}

module _ (P : Program) where
  abbrev pub IsUnder : VType → VType → Type 0
  IsUnder t u = (v : VType) → IsWithin P u v → IsWithin P t v

  abbrev pub AreUnder : List VType → List VType → Type 0
  AreUnder [] [] = Unit {0}
  AreUnder (t ∷ ts) (u ∷ us) = IsUnder t u × AreUnder ts us
  AreUnder ts us = ⊥

  pub record Under (h g : Types) : Type 0 where
    pub locals : AreUnder h.locals g.locals
    pub stack : AreUnder h.stack g.stack
    pub built : IsTrue g.built → IsTrue h.built

  pub under_same : (l : List VType) → AreUnder l l
  under_same [] = tt
  under_same (t ∷ l) = (λ v e. e, under_same l)

  pub under_within : (a b c : List VType) → AreUnder a b → AreWithin P b c → AreWithin P a c
  under_within [] [] c x y = y
  under_within (t ∷ a) (u ∷ b) [] x y = y
  under_within (t ∷ a) (u ∷ b) (v ∷ c) x y = (x.0 v y.0, under_within a b c x.1 y.1)
  under_within [] (u ∷ b) c x y = absurd x
  under_within (t ∷ a) [] c x y = absurd x

  pub under_append : (a b c d : List VType) → AreUnder a b → AreUnder c d → AreUnder (a ++ c) (b ++ d)
  under_append [] [] c d x y = y
  under_append (t ∷ a) (u ∷ b) c d x y = (x.0, under_append a b c d x.1 y)
  under_append [] (u ∷ b) c d x y = absurd x
  under_append (t ∷ a) [] c d x y = absurd x

  pub under_fits : (h g f : Types) → Under h g → FitsIn P g f → FitsIn P h f
  under_fits h g f u t = record { locals = under_within h.locals g.locals f.locals u.locals t.locals; stack = under_within h.stack g.stack f.stack u.stack t.stack; built = λ b. u.built (t.built b) }

  -- locals of a frame with so many
  pub record IsFramed (n : ℕ) (h : Types) : Type 0 where
    pub places : length h.locals ≡ n
    pub each : IsLocals h.locals

  -- the first goes on where the second does, leaves no more, and has locals of a frame
  abbrev pub Narrower : ℕ → Flow → Flow → Type 0
  Narrower n f Wrong = Unit {0}
  Narrower n Wrong (Leads tos g) = ⊥
  Narrower n (Leads to h) (Leads tos g) = (to ≡ tos) × Under h g × IsFramed n h

  pub so_narrow : (n : ℕ) (b c : Bool) (k j : Flow) → (c ≡ true → b ≡ true) → (c ≡ true → Narrower n k j) → Narrower n (if_so b k) (if_so c j)
  so_narrow n b false k j f m = tt
  so_narrow n b true k j f m = let e = f refl in rw e (m refl)

module _ (P : Program) (C : AreTypes P) where
  pub within_under : (a b : List VType) → AreWithin P a b → AreUnder P a b
  within_under [] [] w = tt
  within_under (t ∷ a) (u ∷ b) w = (λ v e. within_trans P C t u v w.0 e, within_under a b w.1)
  within_under [] (u ∷ b) w = absurd w
  within_under (t ∷ a) [] w = absurd w

module _ (P : Program) (C : AreTypes P) (n : ℕ) where
  -- over stacks of which the first is within the second
  abbrev pub Goes : (List VType → Flow) → (List VType → Flow) → Type 0
  Goes k j = (r q : List VType) → AreWithin P r q → Narrower P n (k r) (j q)

  abbrev pub GoesBy : (VType → List VType → Flow) → (VType → List VType → Flow) → Type 0
  GoesBy k j = (t u : VType) (r q : List VType) → IsWithin P t u → AreWithin P r q → Narrower P n (k t r) (j u q)

  pub on_narrow : (t : VType) (k j : List VType → Flow) → Goes k j → Goes (λ s. on P t s k) (λ s. on P t s j)
  on_narrow t k j f [] [] a = tt
  on_narrow t k j f [] (v ∷ q) a = absurd a
  on_narrow t k j f (u ∷ r) [] a = tt
  on_narrow t k j f (u ∷ r) (v ∷ q) a = by (is_within P v t) refl
    where
      by : (b : Bool) → is_within P v t ≡ b → Narrower P n (if is_within P u t then k r else Wrong) (if b then j q else Wrong)
      by false e = tt
      by true e = let w = within_trans P C u v t a.0 e in rw w (f r q a.1)

  pub each_narrow : (ts : List VType) (k j : List VType → Flow) → Goes k j → Goes (λ s. on_each P ts s k) (λ s. on_each P ts s j)
  each_narrow [] k j f = f
  each_narrow (t ∷ ts) k j f = on_narrow t (λ s. on_each P ts s k) (λ s. on_each P ts s j) (each_narrow ts k j f)

  int_down : (t u : VType) → IsWithin P t u → u ≡ Int → t ≡ Int
  int_down Int u a e = refl
  int_down t Int a e = cc
  int_down t u a e = cc

  pub int_narrow : (k j : List VType → Flow) → Goes k j → Goes (λ s. on_int s k) (λ s. on_int s j)
  int_narrow k j f [] [] a = tt
  int_narrow k j f [] (v ∷ q) a = absurd a
  int_narrow k j f (u ∷ r) [] a = tt
  int_narrow k j f (u ∷ r) (Int ∷ q) a = let e = int_down u Int a.0 refl in rw e (f r q a.1)
  int_narrow k j f (u ∷ r) (v ∷ q) a = tt

  pub number_narrow : (w : Width) (k j : List VType → Flow) → Goes k j → Goes (λ s. on_number P w s k) (λ s. on_number P w s j)
  number_narrow width.Int k j f = int_narrow k j f
  number_narrow width.Long k j f = each_narrow (Second ∷ Long ∷ []) k j f

  pub top_narrow : (k j : VType → List VType → Flow) → GoesBy k j → Goes (λ s. on_top s k) (λ s. on_top s j)
  top_narrow k j f [] [] a = tt
  top_narrow k j f [] (v ∷ q) a = absurd a
  top_narrow k j f (u ∷ r) [] a = tt
  top_narrow k j f (u ∷ r) (v ∷ q) a = f u v r q a.0 a.1

  pub one_down : (t u : VType) → IsWithin P t u → is_one u ≡ true → is_one t ≡ true
  one_down Int u a e = refl
  one_down Null u a e = refl
  one_down (Ref n) u a e = refl
  one_down (Uninit p) u a e = refl
  one_down UninitThis u a e = refl
  one_down t Top a e = cc
  one_down t u a e = cc

  pub one_narrow : (k j : VType → List VType → Flow) → GoesBy k j → Goes (λ s. on_one s k) (λ s. on_one s j)
  one_narrow k j f = top_narrow (λ t s. if_so (is_one t) (k t s)) (λ t s. if_so (is_one t) (j t s))
      (λ t u r q a b. so_narrow P n (is_one t) (is_one u) (k t r) (j u q) (one_down t u a) (λ e. f t u r q a b))

  -- what is within a long's second place is one
  second_down : (t : VType) → IsWithin P t Second → t ≡ Second
  second_down Second a = refl
  second_down t a = cc

  long_down : (t : VType) → IsWithin P t Long → t ≡ Long
  long_down Long a = refl
  long_down t a = cc

  -- two values of one place, where the first is none of a long
  abbrev pub Pair : Type 0
  Pair = VType → VType → List VType → Flow

  abbrev ones : Pair → List VType → Flow
  ones k s = on_one s (λ t s. on_one s (λ u s. k t u s))

  two_ones : (k : Pair) (t : VType) (s : List VType) → is_one t ≡ true → on_two (t ∷ s) k ≡ ones k (t ∷ s)
  two_ones k Int s e = refl
  two_ones k Null s e = refl
  two_ones k (Ref n) s e = refl
  two_ones k (Uninit p) s e = refl
  two_ones k UninitThis s e = refl
  two_ones k t s e = cc

  module _ (k j : Pair) (f : (t u v w : VType) (r q : List VType) → IsWithin P t v → IsWithin P u w → AreWithin P r q → Narrower P n (k t u r) (j v w q)) where
    ones_narrow : Goes (ones k) (ones j)
    ones_narrow = one_narrow (λ t s. on_one s (λ u s. k t u s)) (λ t s. on_one s (λ u s. j t u s))
        (λ t v r q a b. one_narrow (k t) (j v) (λ u w r q c d. f t u v w r q a c d) r q b)

    by_ones : (t v : VType) (r q : List VType) → is_one v ≡ true → IsWithin P t v → AreWithin P r q → Narrower P n (on_two (t ∷ r) k) (on_two (v ∷ q) j)
    by_ones t v r q e a b =
        let x = two_ones k t r (one_down t v a e) in
        let y = two_ones j v q e in
        rw (x, y) (ones_narrow (t ∷ r) (v ∷ q) (a, b))

    pub two_narrow : Goes (λ s. on_two s k) (λ s. on_two s j)
    two_narrow [] [] a = tt
    two_narrow [] (v ∷ q) a = absurd a
    two_narrow (t ∷ r) [] a = absurd a
    two_narrow (t ∷ []) (Second ∷ Long ∷ q) a = absurd a.1
    two_narrow (t ∷ u ∷ r) (Second ∷ Long ∷ q) a = let x = second_down t a.0 in let y = long_down u a.1.0 in rw (x, y) (f Second Long Second Long r q refl refl a.1.1)
    two_narrow (t ∷ r) (Second ∷ []) a = tt
    two_narrow (t ∷ r) (Second ∷ v ∷ q) a = tt
    two_narrow (t ∷ r) (Int ∷ q) a = by_ones t Int r q refl a.0 a.1
    two_narrow (t ∷ r) (Null ∷ q) a = by_ones t Null r q refl a.0 a.1
    two_narrow (t ∷ r) (Ref n ∷ q) a = by_ones t (Ref n) r q refl a.0 a.1
    two_narrow (t ∷ r) (Uninit p ∷ q) a = by_ones t (Uninit p) r q refl a.0 a.1
    two_narrow (t ∷ r) (UninitThis ∷ q) a = by_ones t UninitThis r q refl a.0 a.1
    two_narrow (t ∷ r) (v ∷ q) a = tt
