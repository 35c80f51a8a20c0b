-- Signed numbers, targets and lists of them: what is read is spelled so, and what is spelled so is read.
use Rattle.std.proofs.Common.{◌≡◌, ℕ, zero, suc, ◌^◌, ◌<◌, ◌≤◌, min, ℤ, pos, negsuc, ◌+ℤ◌, ◌-ℤ◌, List, [], ◌∷◌, length, Result, Ok, refl, sym, ap, subst, ◌∙◌, arith, FitsSigned}
use Rattle.std.specs.Int.{Width, w8, w16, w32, from_be_bytes, to_be_bytes, cast_signed, cast_unsigned}
use Rattle.std.specs.List.{flat_map, AllByRecursion}
use Rattle.std.proofs.Math.Facts.{sfits_to_z, Fits-of_z}
use Rattle.std.proofs.Math.IntN.{+ℤ_comm, +ℤ-neg_ℤ_cancel, -ℤ-+ℤ_cancel}
use Rattle.std.proofs.lemmas.Int.{of_z-to_z, to_z-of_z}
use Rattle.std.proofs.lemmas.List.Concat.{flat_map-cons}
use Rattle.jmodel.specs.declared.refusal.Refusal.{Refusal}
use Rattle.jmodel.specs.format.Reading.{◌>>=◌, number_at, items_at}
use Rattle.jmodel.specs.format.Instruction.{signed, distance, jump}
use Rattle.jmodel.specs.format.InstructionReading.{signed_at, place_in_code, target_at}
use Rattle.const_pool.proofs.Takes.{bind_ok, ok_is, IsBytes, Takes, Takes-nothing, Takes-then, IsWide, wide16, wide32, number_takes, number_again}

one_byte : (bytes : List ℕ) → length bytes ≡ 1 → IsBytes bytes → to_be_bytes w8 (from_be_bytes w8 bytes) ≡ bytes
one_byte [] len fits = absurd (omega arith)
one_byte (b ∷ []) len fits = ap (λ (n : ℕ). n ∷ []) (omega (arith, fits 0))
one_byte (b ∷ c ∷ cs) len fits = absurd (omega arith)

pub wide8 : IsWide w8 (2 ^ 8)
wide8 = record {
  len = λ n. refl;
  back = one_byte;
  again = λ n lt. omega arith;
  below = λ bytes fits. omega (arith, fits 0);
}

-- a width with its limit, whose numbers are signed and back
pub record IsSigned (w : Width) (limit : ℕ) : Type 0 where
  pub wide : IsWide w limit
  pub back : (n : ℕ) → n < limit → cast_unsigned w (cast_signed w n) ≡ n
  pub fits : (n : ℕ) → n < limit → FitsSigned w (cast_signed w n)
  pub below : (z : ℤ) → FitsSigned w z → cast_unsigned w z < limit

pub signed8 : IsSigned w8 (2 ^ 8)
signed8 = record { wide = wide8; back = λ n lt. of_z-to_z w8 n lt; fits = λ n lt. sfits_to_z {w = w8} (record { fits = lt }); below = λ z h. (Fits-of_z {w = w8} h).fits }

pub signed16 : IsSigned w16 (2 ^ 16)
signed16 = record { wide = wide16; back = λ n lt. of_z-to_z w16 n lt; fits = λ n lt. sfits_to_z {w = w16} (record { fits = lt }); below = λ z h. (Fits-of_z {w = w16} h).fits }

pub signed32 : IsSigned w32 (2 ^ 32)
signed32 = record { wide = wide32; back = λ n lt. of_z-to_z w32 n lt; fits = λ n lt. sfits_to_z {w = w32} (record { fits = lt }); below = λ z h. (Fits-of_z {w = w32} h).fits }

module _ (w : Width) (limit : ℕ) (s : IsSigned w limit) (bytes : List ℕ) where
  pub signed_takes : IsBytes bytes → (at : ℕ) (x : ℤ × ℕ) → signed_at w bytes at ≡ Ok x → Takes bytes at (signed w x.0) x.1 × FitsSigned w x.0
  unfolding signed_at
  signed_takes fits at x e =
      let a = bind_ok (number_at w bytes at) (λ n. Ok (cast_signed w n.0, n.1)) x e in
      let t = number_takes w limit s.wide bytes at a.0 fits a.1 in
      let text : Takes bytes at (signed w (cast_signed w a.0.0)) a.0.1 = subst (λ (k : ℕ). Takes bytes at (to_be_bytes w k) a.0.1) (sym (s.back a.0.0 t.1)) t.0 in
      subst (λ (y : ℤ × ℕ). Takes bytes at (signed w y.0) y.1 × FitsSigned w y.0) (ok_is (cast_signed w a.0.0, a.0.1) x a.2) (text, s.fits a.0.0 t.1)

  pub signed_again : (at : ℕ) (n : ℤ) (next : ℕ) → FitsSigned w n → Takes bytes at (signed w n) next → signed_at w bytes at ≡ Ok (n, next)
  unfolding signed_at
  signed_again at n next fits t =
      rw (number_again w limit s.wide bytes at (cast_unsigned w n) next (s.below n fits) t) (ap (λ (z : ℤ). Ok (z, next)) (to_z-of_z w n fits))

-- ---- targets

-- a place that is no 65535 is as far behind the pc as was read
placed : (pc : ℕ) (n : ℤ) → place_in_code (pos pc +ℤ n) < 65535 → distance pc (place_in_code (pos pc +ℤ n)) ≡ n
placed pc n lt = by_sum (pos pc +ℤ n) refl lt where
  by_sum : (z : ℤ) → pos pc +ℤ n ≡ z → place_in_code z < 65535 → distance pc (place_in_code z) ≡ n
  by_sum (pos k) e lt =
      let same : min k 65535 ≡ k = omega arith in
      rw same (ap (λ (z : ℤ). z -ℤ pos pc) (sym e ∙ +ℤ_comm (pos pc) n) ∙ +ℤ-neg_ℤ_cancel n (pos pc))
  by_sum (negsuc k) e lt = absurd (omega arith)

-- a place of code is what stands so far behind the pc
replaced : (pc t : ℕ) → t < 65535 → place_in_code (pos pc +ℤ distance pc t) ≡ t
replaced pc t lt = let back : pos pc +ℤ distance pc t ≡ pos t = +ℤ_comm (pos pc) (distance pc t) ∙ -ℤ-+ℤ_cancel (pos t) (pos pc) in rw back (omega arith)

module _ (w : Width) (limit : ℕ) (s : IsSigned w limit) (pc : ℕ) (bytes : List ℕ) where
  pub target_takes : IsBytes bytes → (at : ℕ) (x : ℕ × ℕ) → target_at w pc bytes at ≡ Ok x → x.0 < 65535 → Takes bytes at (jump w pc x.0) x.1 × FitsSigned w (distance pc x.0)
  unfolding target_at
  target_takes fits at x e lt =
      let a = bind_ok (signed_at w bytes at) (λ n. Ok (place_in_code (pos pc +ℤ n.0), n.1)) x e in
      let t = signed_takes w limit s bytes fits at a.0 a.1 in
      let is = ok_is (place_in_code (pos pc +ℤ a.0.0), a.0.1) x a.2 in
      let inside : place_in_code (pos pc +ℤ a.0.0) < 65535 = subst (λ (y : ℕ × ℕ). y.0 < 65535) (sym is) lt in
      let same : distance pc (place_in_code (pos pc +ℤ a.0.0)) ≡ a.0.0 = placed pc a.0.0 inside in
      let made : Takes bytes at (jump w pc (place_in_code (pos pc +ℤ a.0.0))) a.0.1 × FitsSigned w (distance pc (place_in_code (pos pc +ℤ a.0.0))) = subst (λ (z : ℤ). Takes bytes at (signed w z) a.0.1 × FitsSigned w z) (sym same) t in
      subst (λ (y : ℕ × ℕ). Takes bytes at (jump w pc y.0) y.1 × FitsSigned w (distance pc y.0)) is made

  pub target_again : (at t next : ℕ) → t < 65535 → FitsSigned w (distance pc t) → Takes bytes at (jump w pc t) next → target_at w pc bytes at ≡ Ok (t, next)
  unfolding target_at
  target_again at t next lt fits h = rw (signed_again w limit s bytes at (distance pc t) next fits h) (ap (λ (k : ℕ). Ok (k, next)) (replaced pc t lt))

-- ---- lists whose items must be good to be spelled

module _ (bytes : List ℕ) {A : Type 0} (read : ℕ → Result (A × ℕ) Refusal) (spell : A → List ℕ) (Good Fits : A → Type 0) where
  abbrev pub ReadsGood : Type 0
  ReadsGood = (at : ℕ) (y : A) (next : ℕ) → read at ≡ Ok (y, next) → Good y → Takes bytes at (spell y) next × Fits y

  -- reading never goes beyond the end
  abbrev pub StaysInside : Type 0
  StaysInside = (at : ℕ) (y : A) (next : ℕ) → read at ≡ Ok (y, next) → next ≤ length bytes

  pub good_items_take : ReadsGood → (n at : ℕ) (x : List A × ℕ) → at ≤ length bytes → items_at read n at ≡ Ok x → AllByRecursion Good x.0 → Takes bytes at (flat_map spell x.0) x.1 × (length x.0 ≡ n) × AllByRecursion Fits x.0
  unfolding items_at
  good_items_take each zero at x le e good =
      subst (λ (y : List A × ℕ). Takes bytes at (flat_map spell y.0) y.1 × (length y.0 ≡ 0) × AllByRecursion Fits y.0) (ok_is ([], at) x e) (Takes-nothing bytes at le, refl, tt)
  good_items_take each (suc n) at x le e good =
      let a = bind_ok (read at) (λ first. items_at read n first.1 >>= λ others. Ok (first.0 ∷ others.0, others.1)) x e in
      let b = bind_ok (items_at read n a.0.1) (λ others. Ok (a.0.0 ∷ others.0, others.1)) x a.2 in
      let made : List A × ℕ = (a.0.0 ∷ b.0.0, b.0.1) in
      let is = ok_is made x b.2 in
      let both_good : AllByRecursion Good made.0 = subst (λ (y : List A × ℕ). AllByRecursion Good y.0) (sym is) good in
      let first = each at a.0.0 a.0.1 a.1 both_good.0 in
      let second = good_items_take each n a.0.1 b.0 first.0.inside b.1 both_good.1 in
      let both = Takes-then bytes at (spell a.0.0) a.0.1 (flat_map spell b.0.0) b.0.1 first.0 second.0 in
      subst (λ (y : List A × ℕ). Takes bytes at (flat_map spell y.0) y.1 × (length y.0 ≡ suc n) × AllByRecursion Fits y.0) is (rw flat_map-cons both, ap suc second.1, (first.1, second.2))
