-- Items behind their count: what is read is spelled so, and what is spelled so is read.
use Rattle.std.proofs.Common.{◌≡◌, ℕ, zero, suc, ◌+◌, ◌^◌, ◌<◌, ◌≤◌, Bool, true, false, cond, not, ◌&&◌, List, [], ◌∷◌, ◌++◌, length, Some, Result, Ok, refl, sym, ap, subst, arith}
use Rattle.std.specs.Prelude.{find, IfSome}
use Rattle.std.specs.List.{flat_map, AllByRecursion}
use Rattle.std.proofs.lemmas.List.Concat.{flat_map-cons}
use Rattle.jmodel.specs.format.ClassFile.{u2}
use Rattle.const_pool.proofs.Takes.{IsBytes, Takes, Takes-nothing, Takes-then, Takes-first, Takes-second}
use Rattle.jmodel.specs.format.AnnotationReading.{◌>>=◌, u2_at, items_at, counted_at, items_until, counted_until}
use Rattle.annotations.proofs.FieldLaws.{bind_ok, ok_is, u2_takes, u2_again}

module _ (bytes : List ℕ) {A : Type 0} (spell : A → List ℕ) (Fits : A → Type 0) where
  -- what is read is spelled so
  abbrev pub Reads : (ℕ → Result (A × ℕ) ℕ) → Type 0
  Reads read = (at : ℕ) (y : A) (next : ℕ) → read at ≡ Ok (y, next) → Takes bytes at (spell y) next × Fits y

  abbrev pub Rereads : (ℕ → Result (A × ℕ) ℕ) → Type 0
  Rereads read = (at : ℕ) (y : A) (next : ℕ) → Fits y → Takes bytes at (spell y) next → read at ≡ Ok (y, next)

  module _ (read : ℕ → Result (A × ℕ) ℕ) where
    items_take : Reads read → (n at : ℕ) (x : List A × ℕ) → at ≤ length bytes → items_at read n at ≡ Ok x → Takes bytes at (flat_map spell x.0) x.1 × (length x.0 ≡ n) × AllByRecursion Fits x.0
    unfolding items_at
    items_take each zero at x le e =
        subst (λ (y : List A × ℕ). Takes bytes at (flat_map spell y.0) y.1 × (length y.0 ≡ 0) × AllByRecursion Fits y.0) (ok_is ([], at) x e) (Takes-nothing bytes at le, refl, tt)
    items_take each (suc n) at x le e =
        let a = bind_ok (read at) (λ first. items_at read n first.1 >>= λ others. Ok (first.0 ∷ others.0, others.1)) x e in
        let b = bind_ok (items_at read n a.0.1) (λ others. Ok (a.0.0 ∷ others.0, others.1)) x a.2 in
        let first = each at a.0.0 a.0.1 a.1 in
        let second = items_take each n a.0.1 b.0 first.0.inside b.1 in
        let both = Takes-then bytes at (spell a.0.0) a.0.1 (flat_map spell b.0.0) b.0.1 first.0 second.0 in
        let made : List A × ℕ = (a.0.0 ∷ b.0.0, b.0.1) in
        subst (λ (y : List A × ℕ). Takes bytes at (flat_map spell y.0) y.1 × (length y.0 ≡ suc n) × AllByRecursion Fits y.0) (ok_is made x b.2) (rw flat_map-cons both, ap suc second.1, (first.1, second.2))

    items_again : Rereads read → (ys : List A) (at next : ℕ) → AllByRecursion Fits ys → Takes bytes at (flat_map spell ys) next → items_at read (length ys) at ≡ Ok (ys, next)
    unfolding items_at
    items_again each [] at next fits t = ap (λ (k : ℕ). Ok ([], k)) (omega (arith, t.moved))
    items_again each (y ∷ ys) at next fits t =
        let whole : Takes bytes at (spell y ++ flat_map spell ys) next = rw flat_map-cons at t in
        let one = each at y (at + length (spell y)) fits.0 (Takes-first bytes at (spell y) (flat_map spell ys) next whole) in
        let others = items_again each ys (at + length (spell y)) next fits.1 (Takes-second bytes at (spell y) (flat_map spell ys) next whole) in
        rw (one, others) refl

    pub counted_take : IsBytes bytes → Reads read → (at : ℕ) (x : List A × ℕ) → counted_at bytes read at ≡ Ok x → Takes bytes at (u2 (length x.0) ++ flat_map spell x.0) x.1 × (length x.0 < 2 ^ 16) × AllByRecursion Fits x.0
    unfolding counted_at
    counted_take fits each at x e =
        let a = bind_ok (u2_at bytes at) (λ count. items_at read count.0 count.1) x e in
        let count = u2_takes bytes fits at a.0 a.1 in
        let all = items_take each a.0.0 a.0.1 x count.0.inside a.2 in
        let first : Takes bytes at (u2 (length x.0)) a.0.1 = subst (λ (k : ℕ). Takes bytes at (u2 k) a.0.1) (sym all.1) count.0 in
        (Takes-then bytes at (u2 (length x.0)) a.0.1 (flat_map spell x.0) x.1 first all.0, omega (arith, all.1, count.1), all.2)

    pub counted_again : Rereads read → (ys : List A) (at next : ℕ) → length ys < 2 ^ 16 → AllByRecursion Fits ys → Takes bytes at (u2 (length ys) ++ flat_map spell ys) next → counted_at bytes read at ≡ Ok (ys, next)
    unfolding counted_at
    counted_again each ys at next few fits t =
        let count = u2_again bytes at (length ys) (at + 2) few (Takes-first bytes at (u2 (length ys)) (flat_map spell ys) next t) in
        let all = items_again each ys (at + 2) next fits (Takes-second bytes at (u2 (length ys)) (flat_map spell ys) next t) in
        rw (count, all) refl

  -- ---- of which the first that passes a test has a property

  module _ (test : A → Bool) (Good : A → Type 0) where
    abbrev pub OfFirst : Bool → List A → Type 0
    OfFirst true ys = IfSome (find test ys) Good
    OfFirst false ys = Unit {0}

    -- the property of an item that may be the first
    abbrev pub IfFirst : Bool → A → Type 0
    IfFirst b y = (b && test y) ≡ true → Good y

    abbrev pub ReadsFirst : (Bool → ℕ → Result (A × ℕ) ℕ) → Type 0
    ReadsFirst read = (b : Bool) (at : ℕ) (y : A) (next : ℕ) → read b at ≡ Ok (y, next) → Takes bytes at (spell y) next × Fits y × IfFirst b y

    abbrev pub RereadsFirst : (Bool → ℕ → Result (A × ℕ) ℕ) → Type 0
    RereadsFirst read = (b : Bool) (at : ℕ) (y : A) (next : ℕ) → Fits y → IfFirst b y → Takes bytes at (spell y) next → read b at ≡ Ok (y, next)

    joins : (b : Bool) (y : A) (ys : List A) → IfFirst b y → OfFirst (b && not (test y)) ys → OfFirst b (y ∷ ys)
    joins false y ys h k = tt
    joins true y ys h k = by_test (test y) h k where
      by_test : (c : Bool) → (c ≡ true → Good y) → OfFirst (not c) ys → IfSome (cond c (Some y) (find test ys)) Good
      by_test true h k = h refl
      by_test false h k = k

    splits : (b : Bool) (y : A) (ys : List A) → OfFirst b (y ∷ ys) → IfFirst b y × OfFirst (b && not (test y)) ys
    splits false y ys h = (λ e. absurd cc, tt)
    splits true y ys h = by_test (test y) h where
      by_test : (c : Bool) → IfSome (cond c (Some y) (find test ys)) Good → (c ≡ true → Good y) × OfFirst (not c) ys
      by_test true h = (λ e. h, tt)
      by_test false h = (λ e. absurd cc, h)

    module _ (read : Bool → ℕ → Result (A × ℕ) ℕ) where
      until_take : ReadsFirst read → (n : ℕ) (first : Bool) (at : ℕ) (x : List A × ℕ) → at ≤ length bytes → items_until test read first n at ≡ Ok x → Takes bytes at (flat_map spell x.0) x.1 × (length x.0 ≡ n) × AllByRecursion Fits x.0 × OfFirst first x.0
      unfolding items_until
      until_take each zero first at x le e =
          subst (λ (y : List A × ℕ). Takes bytes at (flat_map spell y.0) y.1 × (length y.0 ≡ 0) × AllByRecursion Fits y.0 × OfFirst first y.0) (ok_is ([], at) x e) (Takes-nothing bytes at le, refl, tt, none first) where
            none : (b : Bool) → OfFirst b []
            none true = tt
            none false = tt
      until_take each (suc n) first at x le e =
          let a = bind_ok (read first at) (λ item. items_until test read (first && not (test item.0)) n item.1 >>= λ others. Ok (item.0 ∷ others.0, others.1)) x e in
          let b = bind_ok (items_until test read (first && not (test a.0.0)) n a.0.1) (λ others. Ok (a.0.0 ∷ others.0, others.1)) x a.2 in
          let one = each first at a.0.0 a.0.1 a.1 in
          let second = until_take each n (first && not (test a.0.0)) a.0.1 b.0 one.0.inside b.1 in
          let both = Takes-then bytes at (spell a.0.0) a.0.1 (flat_map spell b.0.0) b.0.1 one.0 second.0 in
          let made : List A × ℕ = (a.0.0 ∷ b.0.0, b.0.1) in
          subst (λ (y : List A × ℕ). Takes bytes at (flat_map spell y.0) y.1 × (length y.0 ≡ suc n) × AllByRecursion Fits y.0 × OfFirst first y.0) (ok_is made x b.2)
          (rw flat_map-cons both, ap suc second.1, (one.1, second.2), joins first a.0.0 b.0.0 one.2 second.3)

      until_again : RereadsFirst read → (ys : List A) (first : Bool) (at next : ℕ) → AllByRecursion Fits ys → OfFirst first ys → Takes bytes at (flat_map spell ys) next → items_until test read first (length ys) at ≡ Ok (ys, next)
      unfolding items_until
      until_again each [] first at next fits good t = ap (λ (k : ℕ). Ok ([], k)) (omega (arith, t.moved))
      until_again each (y ∷ ys) first at next fits good t =
          let s = splits first y ys good in
          let whole : Takes bytes at (spell y ++ flat_map spell ys) next = rw flat_map-cons at t in
          let one = each first at y (at + length (spell y)) fits.0 s.0 (Takes-first bytes at (spell y) (flat_map spell ys) next whole) in
          let others = until_again each ys (first && not (test y)) (at + length (spell y)) next fits.1 s.1 (Takes-second bytes at (spell y) (flat_map spell ys) next whole) in
          rw (one, others) refl

      pub counted_until_take : IsBytes bytes → ReadsFirst read → (first : Bool) (at : ℕ) (x : List A × ℕ) → counted_until test bytes read first at ≡ Ok x → Takes bytes at (u2 (length x.0) ++ flat_map spell x.0) x.1 × (length x.0 < 2 ^ 16) × AllByRecursion Fits x.0 × OfFirst first x.0
      unfolding counted_until
      counted_until_take fits each first at x e =
          let a = bind_ok (u2_at bytes at) (λ count. items_until test read first count.0 count.1) x e in
          let count = u2_takes bytes fits at a.0 a.1 in
          let all = until_take each a.0.0 first a.0.1 x count.0.inside a.2 in
          let front : Takes bytes at (u2 (length x.0)) a.0.1 = subst (λ (k : ℕ). Takes bytes at (u2 k) a.0.1) (sym all.1) count.0 in
          (Takes-then bytes at (u2 (length x.0)) a.0.1 (flat_map spell x.0) x.1 front all.0, omega (arith, all.1, count.1), all.2, all.3)

      pub counted_until_again : RereadsFirst read → (ys : List A) (first : Bool) (at next : ℕ) → length ys < 2 ^ 16 → AllByRecursion Fits ys → OfFirst first ys → Takes bytes at (u2 (length ys) ++ flat_map spell ys) next → counted_until test bytes read first at ≡ Ok (ys, next)
      unfolding counted_until
      counted_until_again each ys first at next few fits good t =
          let count = u2_again bytes at (length ys) (at + 2) few (Takes-first bytes at (u2 (length ys)) (flat_map spell ys) next t) in
          let all = until_again each ys first (at + 2) next fits good (Takes-second bytes at (u2 (length ys)) (flat_map spell ys) next t) in
          rw (count, all) refl
