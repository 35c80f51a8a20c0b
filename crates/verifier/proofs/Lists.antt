-- Lists of types, place by place.
use Rattle.std.proofs.Common.{◌≡◌, ◌≢◌, ℕ, zero, suc, ◌+◌, ◌<◌, ◌≤◌, List, [], ◌∷◌, ◌++◌, length, Bool, true, false, refl, ap, ◌∙◌, drop, get_or, arith}
use Rattle.std.specs.Prelude.{◌&&◌, ◌||◌, not, slice_set, IsTrue}
use Rattle.jmodel.specs.declared.typing.VType.{VType}
use Rattle.objects.specs.semantics.Program.{Program}
use Rattle.objects.specs.typing.TypeOrder.{is_within, IsWithin, AreWithin}
use Rattle.objects.specs.typing.Typing.{Types, FitsIn}
use Rattle.objects.specs.typing.Source.{AreTypes}
use Rattle.verifier.specs.Order.{are_within, join, join_all, fits_in, joined}
use Rattle.verifier.proofs.Orders.{within_trans, join_first, join_second, join_least}

pub both : (a b : Bool) → (a && b) ≡ true → (a ≡ true) × (b ≡ true)
both true true h = (refl, refl)
both true false h = cc
both false b h = cc

pub and_true : (a b : Bool) → a ≡ true → b ≡ true → (a && b) ≡ true
and_true a b e f = rw (e, f) refl

pub past : {A : Type 0} (xs : List A) (i : ℕ) → length xs ≤ i → drop i xs ≡ []
past [] zero h = refl
past [] (suc i) h = refl
past (x ∷ xs) zero h = absurd (omega arith)
past (x ∷ xs) (suc i) h = let h' : length xs ≤ i = omega arith in past xs i h'

false_and : (a : Bool) → (a && false) ≡ false
false_and true = refl
false_and false = refl

module _ (P : Program) where
  -- one step
  pub join_step : (a b : List VType) (i : ℕ) (x y : VType) → i < length a → i < length b → x ≡ get_or a i x → y ≡ get_or b i y → join_all P (drop i a) (drop i b) ≡ join P x y ∷ join_all P (drop (i + 1) a) (drop (i + 1) b)
  join_step [] b i x y h g e f = absurd (omega arith)
  join_step (t ∷ a) [] i x y h g e f = absurd (omega arith)
  join_step (t ∷ a) (u ∷ b) zero x y h g e f = rw (e, f) refl
  join_step (t ∷ a) (u ∷ b) (suc i) x y h g e f = let h' : i < length a = omega arith in let g' : i < length b = omega arith in let n : suc i + 1 ≡ suc (i + 1) = omega arith in rw n (join_step a b i x y h' g' e f)

  -- at the end
  pub join_end : (a b : List VType) (i : ℕ) → length a ≤ i → join_all P (drop i a) (drop i b) ≡ []
  join_end a b i h = let x = past a i h in rw x refl

  pub unlike : (a b : List VType) → length a ≢ length b → are_within P a b ≡ false
  unlike [] [] h = absurd (h refl)
  unlike [] (u ∷ b) h = refl
  unlike (t ∷ a) [] h = refl
  unlike (t ∷ a) (u ∷ b) h = ap (λ (x : Bool). is_within P t u && x) (unlike a b (λ e. h (ap suc e))) ∙ false_and (is_within P t u)

  -- the tests, and what they mean
  pub to_within : (t u : List VType) → are_within P t u ≡ true → AreWithin P t u
  to_within [] [] e = tt
  to_within [] (u ∷ us) e = cc
  to_within (t ∷ ts) [] e = cc
  to_within (t ∷ ts) (u ∷ us) e = let p = both (is_within P t u) (are_within P ts us) e in (p.0, to_within ts us p.1)

  pub of_within : (t u : List VType) → AreWithin P t u → are_within P t u ≡ true
  of_within [] [] a = refl
  of_within [] (u ∷ us) a = absurd a
  of_within (t ∷ ts) [] a = absurd a
  of_within (t ∷ ts) (u ∷ us) a = and_true (is_within P t u) (are_within P ts us) a.0 (of_within ts us a.1)

  pub same_length : (t u : List VType) → AreWithin P t u → length t ≡ length u
  same_length [] [] a = refl
  same_length (t ∷ ts) (u ∷ us) a = ap suc (same_length ts us a.1)
  same_length [] (u ∷ us) a = absurd a
  same_length (t ∷ ts) [] a = absurd a

  pub append_within : (a b c d : List VType) → AreWithin P a b → AreWithin P c d → AreWithin P (a ++ c) (b ++ d)
  append_within [] [] c d x y = y
  append_within (t ∷ a) (u ∷ b) c d x y = (x.0, append_within a b c d x.1 y)
  append_within [] (u ∷ b) c d x y = absurd x
  append_within (t ∷ a) [] c d x y = absurd x

  pub set_within : (l m : List VType) (i : ℕ) (x y : VType) → AreWithin P l m → IsWithin P x y → AreWithin P (slice_set l i x) (slice_set m i y)
  set_within [] [] i x y a h = tt
  set_within [] (u ∷ m) i x y a h = absurd a
  set_within (t ∷ l) [] i x y a h = absurd a
  set_within (t ∷ l) (u ∷ m) zero x y a h = (h, a.1)
  set_within (t ∷ l) (u ∷ m) (suc i) x y a h = (a.0, set_within l m i x y a.1 h)

  built_test : (h g : Bool) → (not g || h) ≡ true → IsTrue g → IsTrue h
  built_test true g e t = refl
  built_test false true e t = cc
  built_test false false e t = cc

  test_built : (h g : Bool) → (IsTrue g → IsTrue h) → (not g || h) ≡ true
  test_built true true f = refl
  test_built true false f = refl
  test_built false true f = f refl
  test_built false false f = refl

  pub to_fits : (h g : Types) → fits_in P h g ≡ true → FitsIn P h g
  to_fits h g e =
      let p = both (are_within P h.locals g.locals) (are_within P h.stack g.stack && (not g.built || h.built)) e in
      let q = both (are_within P h.stack g.stack) (not g.built || h.built) p.1 in
      record { locals = to_within h.locals g.locals p.0; stack = to_within h.stack g.stack q.0; built = built_test h.built g.built q.1 }

  pub of_fits : (h g : Types) → FitsIn P h g → fits_in P h g ≡ true
  of_fits h g f =
      and_true (are_within P h.locals g.locals) (are_within P h.stack g.stack && (not g.built || h.built)) (of_within h.locals g.locals f.locals)
      (and_true (are_within P h.stack g.stack) (not g.built || h.built) (of_within h.stack g.stack f.stack) (test_built h.built g.built f.built))

module _ (P : Program) (C : AreTypes P) where
  pub all_trans : (t u v : List VType) → AreWithin P t u → AreWithin P u v → AreWithin P t v
  all_trans [] [] [] a b = tt
  all_trans (t ∷ ts) (u ∷ us) (v ∷ vs) a b = (within_trans P C t u v a.0 b.0, all_trans ts us vs a.1 b.1)
  all_trans [] [] (v ∷ vs) a b = absurd b
  all_trans [] (u ∷ us) vs a b = absurd a
  all_trans (t ∷ ts) [] vs a b = absurd a
  all_trans (t ∷ ts) (u ∷ us) [] a b = absurd b

  pub joins_first : (t s : List VType) → length t ≡ length s → AreWithin P t (join_all P t s)
  joins_first [] s e = tt
  joins_first (t ∷ ts) [] e = absurd (omega arith)
  joins_first (t ∷ ts) (s ∷ ss) e = let e' : length ts ≡ length ss = omega arith in (join_first P C t s, joins_first ts ss e')

  pub joins_second : (t s : List VType) → length t ≡ length s → AreWithin P s (join_all P t s)
  joins_second [] [] e = tt
  joins_second (t ∷ ts) (s ∷ ss) e = let e' : length ts ≡ length ss = omega arith in (join_second P C t s, joins_second ts ss e')
  joins_second [] (s ∷ ss) e = absurd (omega arith)
  joins_second (t ∷ ts) [] e = absurd (omega arith)

  pub joins_least : (t s u : List VType) → AreWithin P t u → AreWithin P s u → AreWithin P (join_all P t s) u
  joins_least [] s [] a b = tt
  joins_least [] s (u ∷ us) a b = absurd a
  joins_least (t ∷ ts) s [] a b = absurd a
  joins_least (t ∷ ts) [] (u ∷ us) a b = absurd b
  joins_least (t ∷ ts) (s ∷ ss) (u ∷ us) a b = (join_least P C t s u a.0 b.0, joins_least ts ss us a.1 b.1)

  pub fits_trans : (h g f : Types) → FitsIn P h g → FitsIn P g f → FitsIn P h f
  fits_trans h g f a b = record {
    locals = all_trans h.locals g.locals f.locals a.locals b.locals;
    stack = all_trans h.stack g.stack f.stack a.stack b.stack;
    built = λ t. a.built (b.built t);
  }

  left_built : (a b : Bool) → IsTrue (a && b) → IsTrue a
  left_built true b h = refl
  left_built false b h = h

  right_built : (a b : Bool) → IsTrue (a && b) → IsTrue b
  right_built true b h = h
  right_built false b h = cc

  built_both : (a b : Bool) → IsTrue a → IsTrue b → IsTrue (a && b)
  built_both true b h g = g
  built_both false b h g = h

  pub joined_first : (h g : Types) → length h.locals ≡ length g.locals → length h.stack ≡ length g.stack → FitsIn P h (joined P h g)
  joined_first h g l s = record { locals = joins_first h.locals g.locals l; stack = joins_first h.stack g.stack s; built = left_built h.built g.built }

  pub joined_second : (h g : Types) → length h.locals ≡ length g.locals → length h.stack ≡ length g.stack → FitsIn P g (joined P h g)
  joined_second h g l s = record { locals = joins_second h.locals g.locals l; stack = joins_second h.stack g.stack s; built = right_built h.built g.built }

  pub joined_least : (h g f : Types) → FitsIn P h f → FitsIn P g f → FitsIn P (joined P h g) f
  joined_least h g f a b = record {
    locals = joins_least h.locals g.locals f.locals a.locals b.locals;
    stack = joins_least h.stack g.stack f.stack a.stack b.stack;
    built = λ t. built_both h.built g.built (a.built t) (b.built t);
  }
