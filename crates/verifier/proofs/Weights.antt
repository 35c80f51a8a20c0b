-- How often the types of a place can still widen.
use Rattle.std.proofs.Common.{◌≡◌, ℕ, suc, ◌+◌, ◌*◌, ◌<◌, ◌≤◌, List, [], ◌∷◌, length, Option, Some, None, Bool, true, false, refl, ap, arith}
use Rattle.std.proofs.Math.Nat.{mul-le-mul_left}
use Rattle.std.proofs.lemmas.Bool.Decides.{nat_tests}
use Rattle.std.proofs.lemmas.List.Sums.{sum_by-cons}
use Rattle.std.specs.Prelude.{◌&&◌, ◌||◌, not, nat_eq, sum_by, IsTrue, if◌then◌else◌}
use Rattle.std.specs.List.{AllByRecursion}
use Rattle.jmodel.specs.declared.typing.VType.{VType}
use Rattle.jmodel.specs.declared.typing.VType.TheVariants.{Int, Long, Second, Null, Ref, Uninit, UninitThis, Top}
use Rattle.objects.specs.semantics.Program.{Method, Program}
use Rattle.objects.specs.typing.TypeOrder.{is_within, IsWithin, AreWithin}
use Rattle.objects.specs.typing.Typing.{Types, FitsIn}
use Rattle.objects.specs.typing.Source.{AreTypes}
use Rattle.verifier.specs.Order.{are_within, fits_in, join, join_all, join_name, ref_or_top, joined}
use Rattle.verifier.proofs.Orders.{join_first, join_second}
use Rattle.verifier.proofs.Heights.{name_height, name_up, name_less}
use Rattle.verifier.proofs.Nesting.{name_depth, name_down, most, name_most}
use Rattle.verifier.proofs.Bounds.{type_depth}

-- Over names so deep. Null stands above each of them.
abbrev pub type_height : Program → ℕ → VType → ℕ
type_height P b Top = 0
type_height P b (Ref n) = suc (name_height P n)
type_height P b Null = 2 * b + most P + 2
type_height P b t = 1

abbrev pub heights : Program → ℕ → List VType → ℕ
heights P b ts = sum_by (type_height P b) ts

abbrev pub bit : Bool → ℕ
bit true = 1
bit false = 0

abbrev pub weight : Program → Method → ℕ → Option Types → ℕ
weight P k b None = (2 * b + most P + 2) * (k.locals + (k.max_stack + 1)) + 2
weight P k b (Some h) = heights P b h.locals + heights P b h.stack + bit h.built

-- names are no deeper than so
abbrev pub AreLow : ℕ → List VType → Type 0
AreLow b ts = AllByRecursion (λ (t : VType). type_depth t ≤ b) ts

pub record IsLow (b : ℕ) (h : Types) : Type 0 where
  pub locals : AreLow b h.locals
  pub stack : AreLow b h.stack

-- no type over such names stands higher than null
height_high : (P : Program) (b : ℕ) (t : VType) → type_depth t ≤ b → type_height P b t ≤ 2 * b + most P + 2
height_high P b (Ref n) d = let m = name_most P n in omega arith
height_high P b t d = omega arith

-- so for lists
heights_high : (P : Program) (b : ℕ) (ts : List VType) → AreLow b ts → heights P b ts ≤ (2 * b + most P + 2) * length ts
heights_high P b [] d = omega arith
heights_high P b (t ∷ ts) d = let c = sum_by-cons (type_height P b) t ts in let x = height_high P b t d.0 in let y = heights_high P b ts d.1 in omega arith

-- of two bits
bit_up : (x y : Bool) → (IsTrue y → IsTrue x) → bit y ≤ bit x
bit_up x false f = omega arith
bit_up true true f = omega arith
bit_up false true f = absurd (let e = f refl in let no : ⊥ = cc in no)

module _ (P : Program) (C : AreTypes P) (b : ℕ) where
  -- a wider type stands no higher
  type_up : (t u : VType) → IsWithin P t u → type_depth u ≤ b → type_height P b u ≤ type_height P b t
  type_up t Top e d = omega arith
  type_up Int Int e d = omega arith
  type_up Long Long e d = omega arith
  type_up Second Second e d = omega arith
  type_up Null Null e d = omega arith
  type_up Null (Ref n) e d = let m = name_most P n in omega arith
  type_up (Ref m) (Ref n) e d = let x = name_up P C m n e in omega arith
  type_up (Uninit p) (Uninit q) e d = omega arith
  type_up UninitThis UninitThis e d = omega arith
  type_up t u e d = absurd (let no : ⊥ = cc in no)

  -- and lower, where it isn't the same
  type_less : (t u : VType) → IsWithin P t u → IsWithin P t t → is_within P u t ≡ false → type_depth u ≤ b → type_height P b u < type_height P b t
  type_less Top Top e s n d = absurd (let no : ⊥ = cc in no)
  type_less t Top e s n d = omega arith
  type_less Int Int e s n d = absurd (let no : ⊥ = cc in no)
  type_less Long Long e s n d = absurd (let no : ⊥ = cc in no)
  type_less Second Second e s n d = absurd (let no : ⊥ = cc in no)
  type_less Null Null e s n d = absurd (let no : ⊥ = cc in no)
  type_less Null (Ref m) e s n d = let x = name_most P m in omega arith
  type_less (Ref l) (Ref m) e s n d = let x = name_less P C l m e s (λ g. let no : ⊥ = cc (g, n) in no) in omega arith
  type_less (Uninit p) (Uninit q) e s n d = absurd (grind (arith, nat_tests))
  type_less UninitThis UninitThis e s n d = absurd (let no : ⊥ = cc in no)
  type_less t u e s n d = absurd (let no : ⊥ = cc in no)

  -- so for lists
  lists_up : (ts us : List VType) → AreWithin P ts us → AreLow b us → heights P b us ≤ heights P b ts
  lists_up [] [] a d = omega arith
  lists_up (t ∷ ts) (u ∷ us) a d = let c = sum_by-cons (type_height P b) t ts in let e = sum_by-cons (type_height P b) u us in let x = type_up t u a.0 d.0 in let y = lists_up ts us a.1 d.1 in omega arith
  lists_up [] (u ∷ us) a d = absurd a
  lists_up (t ∷ ts) [] a d = absurd a

  -- so for lists
  lists_less : (ts us : List VType) → AreWithin P ts us → AreWithin P ts ts → are_within P us ts ≡ false → AreLow b us → heights P b us < heights P b ts
  lists_less [] [] a s n d = absurd (let no : ⊥ = cc in no)
  lists_less (t ∷ ts) (u ∷ us) a s n d = by (λ f. lists_less ts us a.1 s.1 f d.1) (is_within P u t) refl n (sum_by-cons (type_height P b) t ts) (sum_by-cons (type_height P b) u us)
    where
      by : (are_within P us ts ≡ false → heights P b us < heights P b ts) → (x : Bool) → is_within P u t ≡ x → (x && are_within P us ts) ≡ false → heights P b (t ∷ ts) ≡ type_height P b t + heights P b ts → heights P b (u ∷ us) ≡ type_height P b u + heights P b us
          → heights P b (u ∷ us) < heights P b (t ∷ ts)
      by rest true e f v w = let x = type_up t u a.0 d.0 in let y = rest f in omega arith
      by rest false e f v w = let x = type_less t u a.0 s.0 e d.0 in let y = lists_up ts us a.1 d.1 in omega arith
  lists_less [] (u ∷ us) a s n d = absurd a
  lists_less (t ∷ ts) [] a s n d = absurd a

  -- a join goes no deeper
  named_low : (m : List ℕ) (o : Option (List ℕ)) → IsWithin P (Ref m) (ref_or_top o) → name_depth m ≤ b → type_depth (ref_or_top o) ≤ b
  named_low m None e d = omega arith
  named_low m (Some n) e d = let x = name_down P C m n e in omega arith

  -- so for types
  join_low : (t u : VType) → type_depth t ≤ b → type_depth u ≤ b → type_depth (join P t u) ≤ b
  join_low Int Int d f = omega arith
  join_low Long Long d f = omega arith
  join_low Second Second d f = omega arith
  join_low Null Null d f = omega arith
  join_low Null (Ref n) d f = named_low n (join_name P n n) (join_second P C Null (Ref n)) f
  join_low (Ref m) Null d f = named_low m (join_name P m m) (join_first P C (Ref m) Null) d
  join_low (Ref m) (Ref n) d f = named_low m (join_name P m n) (join_first P C (Ref m) (Ref n)) d
  join_low (Uninit p) (Uninit q) d f = by (nat_eq p q)
    where
      by : (x : Bool) → type_depth (if x then Uninit p else Top) ≤ b
      by true = omega arith
      by false = omega arith
  join_low UninitThis UninitThis d f = omega arith
  join_low t u d f = omega arith

  -- so for lists
  joins_low : (ts us : List VType) → AreLow b ts → AreLow b us → AreLow b (join_all P ts us)
  joins_low [] us d f = tt
  joins_low (t ∷ ts) [] d f = tt
  joins_low (t ∷ ts) (u ∷ us) d f = (join_low t u d.0 f.0, joins_low ts us d.1 f.1)

  -- so for the types of a place
  pub joined_low : (h g : Types) → IsLow b h → IsLow b g → IsLow b (joined P h g)
  joined_low h g d f = record { locals = joins_low h.locals g.locals d.locals f.locals; stack = joins_low h.stack g.stack d.stack f.stack }

  -- types at a place that had none
  pub fresh_less : (k : Method) (h : Types) → IsLow b h → length h.locals ≡ k.locals → length h.stack ≤ k.max_stack + 1 → weight P k b (Some h) < weight P k b None
  fresh_less k h d l s =
      let x = heights_high P b h.locals d.locals in
      let y = heights_high P b h.stack d.stack in
      let z = mul-le-mul_left (2 * b + most P + 2) s in
      let w = ap (λ (n : ℕ). (2 * b + most P + 2) * n) l in
      let v = bit_up true h.built (λ e. refl) in
      omega arith

  -- wider types at a place
  pub wider_less : (k : Method) (h g : Types) → FitsIn P h g → FitsIn P h h → fits_in P g h ≡ false → IsLow b g → weight P k b (Some g) < weight P k b (Some h)
  wider_less k h g f s n d = by (are_within P g.locals h.locals) (are_within P g.stack h.stack) h.built g.built refl refl f.built n
    where
      by : (x y v w : Bool) → are_within P g.locals h.locals ≡ x → are_within P g.stack h.stack ≡ y → (IsTrue w → IsTrue v) → (x && (y && (not v || w))) ≡ false → heights P b g.locals + heights P b g.stack + bit w < heights P b h.locals + heights P b h.stack + bit v
      by false y v w i j t n = let a = lists_less h.locals g.locals f.locals s.locals i d.locals in let c = lists_up h.stack g.stack f.stack d.stack in let z = bit_up v w t in omega arith
      by true false v w i j t n = let a = lists_up h.locals g.locals f.locals d.locals in let c = lists_less h.stack g.stack f.stack s.stack j d.stack in let z = bit_up v w t in omega arith
      by true true true false i j t n = let a = lists_up h.locals g.locals f.locals d.locals in let c = lists_up h.stack g.stack f.stack d.stack in omega arith
      by true true true true i j t n = absurd (let no : ⊥ = cc in no)
      by true true false w i j t n = absurd (let no : ⊥ = cc in no)
