-- The first types of a duplicate's locals: the copies of those of the method.
use Rattle.std.proofs.Common.{◌≡◌, ℕ, zero, suc, ◌+◌, ◌-◌, ◌≤◌, List, [], ◌∷◌, ◌++◌, length, replicate, Bool, true, false, refl, sym, ap, subst, ◌∙◌, arith, append_assoc, append-nil}
use Rattle.jmodel.specs.declared.typing.VType.{VType}
use Rattle.jmodel.specs.declared.typing.VType.TheVariants.{Int, Long, Second, Ref, UninitThis, Top}
use Rattle.objects.specs.typing.Typing.{first_locals}
use Rattle.objects.specs.typing.Source.{AreParameters, AreParametersAfter}
use Rattle.objects.specs.rewriting.Rewriting.{more_locals}
use Rattle.objects.proofs.CopiedLocals.{context, after, copied}
use Rattle.objects.proofs.CopiedStores.{is_parted, extra, with_copies}
use Rattle.objects.proofs.MovedTypes.{all_named, AreFixed, fixed_all, fixed_before, fixed_parameters}

tops : ℕ → List VType
tops m = replicate m Top

after_tops : (m : ℕ) → after (replicate m Top) ≡ replicate m Top
after_tops zero = refl
after_tops (suc m) = refl

-- no long is parted behind the parameters
copied_parameters : (b : Bool) (ts : List VType) (m : ℕ) → AreParametersAfter b ts → copied (length ts) (ts ++ replicate m Top) ≡ ts ++ context ∷ replicate m Top
copied_parameters false [] m h = ap (λ (l : List VType). context ∷ l) (after_tops m)
copied_parameters true [] m h = absurd h
copied_parameters false (Int ∷ ts) m h = ap (λ (l : List VType). Int ∷ l) (copied_parameters false ts m h)
copied_parameters false (Ref c ∷ ts) m h = ap (λ (l : List VType). Ref c ∷ l) (copied_parameters false ts m h)
copied_parameters false (Long ∷ Second ∷ ts) m h = ap (λ (l : List VType). Long ∷ Second ∷ l) (copied_parameters false ts m h)
copied_parameters false (Long ∷ []) m h = absurd h
copied_parameters false (Long ∷ t ∷ ts) m h = absurd h
copied_parameters true (Second ∷ ts) m h = ap (λ (l : List VType). Second ∷ l) (copied_parameters false ts m h)
copied_parameters false (t ∷ ts) m h = absurd h
copied_parameters true (t ∷ ts) m h = absurd h

unparted : (b : Bool) (ts : List VType) (us : List VType) → AreParametersAfter b ts → is_parted (length ts) (ts ++ us) ≡ false
unparted b [] us h = refl
unparted false (Int ∷ []) us h = refl
unparted false (Ref c ∷ []) us h = refl
unparted true (Second ∷ []) us h = refl
unparted false (Long ∷ []) us h = absurd h
unparted false (Int ∷ t ∷ ts) us h = unparted false (t ∷ ts) us h
unparted false (Ref c ∷ t ∷ ts) us h = unparted false (t ∷ ts) us h
unparted false (Long ∷ t ∷ ts) us h = unparted true (t ∷ ts) us h
unparted true (Second ∷ t ∷ ts) us h = unparted false (t ∷ ts) us h
unparted false (t ∷ ts) us h = absurd h
unparted true (t ∷ ts) us h = absurd h

-- so where the first is an object that isn't built
abbrev pub HasFirst : Bool → List VType → Type 0
HasFirst c ts = c ≡ true → (n : List ℕ) × (us : List VType) × (ts ≡ Ref n ∷ us)

module _ (ts : List VType) (h : AreParameters ts) (m : ℕ) where
  fixed_tops : (at : ℕ → ℕ) (m : ℕ) → AreFixed at (replicate m Top)
  fixed_tops at zero = tt
  fixed_tops at (suc m) = (refl, fixed_tops at m)

  fixed_first : (at : ℕ → ℕ) (c : Bool) → HasFirst c ts → AreFixed at (first_locals c ts)
  fixed_first at false f = fixed_parameters at false ts h
  fixed_first at true f = let x = f refl in let e = x.2 in subst (λ (us : List VType). AreFixed at (first_locals true us)) (sym e) (refl, (subst (AreFixed at) e (fixed_parameters at false ts h)).1)

  named_first : (at : ℕ → ℕ) (c : Bool) → HasFirst c ts → all_named at (first_locals c ts ++ replicate m Top) ≡ first_locals c ts ++ replicate m Top
  named_first at c f = fixed_before at (first_locals c ts) (replicate m Top) (fixed_first at c f) ∙ ap (λ (l : List VType). first_locals c ts ++ l) (fixed_all at (replicate m Top) (fixed_tops at m))

  first_copied : (c : Bool) → HasFirst c ts → copied (length ts) (first_locals c ts ++ replicate m Top) ≡ first_locals c ts ++ context ∷ replicate m Top
  first_copied false f = copied_parameters false ts m h
  first_copied true f =
      let x = f refl in
      let e = x.2 in
      let rest : AreParameters (Ref x.0 ∷ x.1) = subst AreParameters e h in
      subst (λ (us : List VType). copied (length us) (first_locals true us ++ replicate m Top) ≡ first_locals true us ++ context ∷ replicate m Top) (sym e) (ap (λ (l : List VType). UninitThis ∷ l) (copied_parameters false x.1 m rest))

  first_unparted : (c : Bool) → HasFirst c ts → is_parted (length ts) (first_locals c ts ++ replicate m Top) ≡ false
  first_unparted false f = unparted false ts (replicate m Top) h
  first_unparted true f =
      let x = f refl in
      let e = x.2 in
      let rest : AreParameters (Ref x.0 ∷ x.1) = subst AreParameters e h in
      subst (λ (us : List VType). is_parted (length us) (first_locals true us ++ replicate m Top) ≡ false) (sym e) (one x.1 rest)
    where
      one : (us : List VType) → AreParameters us → is_parted (suc (length us)) (UninitThis ∷ us ++ replicate m Top) ≡ false
      one [] g = refl
      one (t ∷ us) g = unparted false (t ∷ us) (replicate m Top) g

  context_behind : (c : Bool) → HasFirst c ts → first_locals c (ts ++ context ∷ []) ≡ first_locals c ts ++ context ∷ []
  context_behind false f = refl
  context_behind true f = let x = f refl in let e = x.2 in subst (λ (us : List VType). first_locals true (us ++ context ∷ []) ≡ first_locals true us ++ context ∷ []) (sym e) refl

more_tops : (m j : ℕ) → replicate m Top ++ replicate j Top ≡ replicate (m + j) Top
more_tops zero j = let z : 0 + j ≡ j = omega arith in ap (λ (i : ℕ). replicate i Top) (sym z)
more_tops (suc m) j = let z : suc m + j ≡ suc (m + j) = omega arith in ap (λ (l : List VType). Top ∷ l) (more_tops m j) ∙ ap (λ (i : ℕ). replicate i Top) (sym z)

extra_tops : (s : Bool) (m : ℕ) → replicate m Top ++ extra s false ≡ replicate (m + (more_locals s - 1)) Top
extra_tops true m = more_tops m 2
extra_tops false m = append-nil (replicate m Top) ∙ (let z : m ≡ m + 0 = omega arith in ap (λ (i : ℕ). replicate i Top) z)

one_more : (s : Bool) → 1 ≤ more_locals s
one_more true = omega arith
one_more false = omega arith

pub first_copies : (at : ℕ → ℕ) (s c : Bool) (ts : List VType) (p n : ℕ) → AreParameters ts → HasFirst c ts → length ts ≡ p → p ≤ n
    → with_copies s p (all_named at (first_locals c ts ++ replicate (n - p) Top)) ≡ first_locals c (ts ++ context ∷ []) ++ replicate (n + more_locals s - (p + 1)) Top
first_copies at s c ts p n h f many room =
    let m = n - p in
    let fl = first_locals c ts in
    let some = one_more s in
    let z : m + (more_locals s - 1) ≡ n + more_locals s - (p + 1) = omega (arith, room, some) in
    ap (with_copies s p) (named_first ts h m at c f)
    ∙ ap (λ (q : ℕ). with_copies s q (fl ++ replicate m Top)) (sym many)
    ∙ ap (λ (b : Bool). copied (length ts) (fl ++ replicate m Top) ++ extra s b) (first_unparted ts h m c f)
    ∙ ap (λ (l : List VType). l ++ extra s false) (first_copied ts h m c f)
    ∙ append_assoc fl (context ∷ replicate m Top) (extra s false)
    ∙ ap (λ (l : List VType). fl ++ context ∷ l) (extra_tops s m ∙ ap (λ (i : ℕ). replicate i Top) z)
    ∙ sym (append_assoc fl (context ∷ []) (replicate (n + more_locals s - (p + 1)) Top))
    ∙ ap (λ (l : List VType). l ++ replicate (n + more_locals s - (p + 1)) Top) (sym (context_behind ts h m c f))
