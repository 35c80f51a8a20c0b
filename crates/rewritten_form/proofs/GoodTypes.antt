-- Types in which null stands for each array whose name may not stand in a class file.
use Rattle.std.proofs.Common.{◌≡◌, ℕ, suc, ◌-◌, ◌+◌, List, [], ◌∷◌, ◌++◌, length, map, Option, Some, None, Bool, true, false, refl, sym, ap, subst, ◌∙◌}
use Rattle.std.specs.Prelude.{slice_get, if◌then◌else◌}
use Rattle.std.specs.List.{AllByRecursion, list_any}
use Rattle.jmodel.specs.declared.typing.VType.{VType}
use Rattle.jmodel.specs.declared.typing.VType.TheVariants.{Int, Long, Second, Null, Ref, Uninit, UninitThis, Top}
use Rattle.objects.specs.semantics.Program.{Program}
use Rattle.objects.specs.typing.TypeOrder.{IsWithin, AreWithin, IsLocalsAfter, IsStackUnder}
use Rattle.objects.specs.typing.Typing.{freed, freed_by, become, is_uninit}
use Rattle.objects.proofs.Places.{get_map}
use Rattle.objects.proofs.MovedTypes.{map_set, map_none}
use Rattle.rewritten_form.proofs.GoodNames.{is_good}

pub no_true : false ≡ true → ⊥
no_true e = cc

module _ (P : Program) where
  abbrev pub IsGoodName : List ℕ → Type 0
  IsGoodName n = is_good n ≡ true

  -- a type whose name, where it has one, is good
  abbrev pub IsGood : VType → Type 0
  IsGood (Ref n) = IsGoodName n
  IsGood t = Unit {0}

  abbrev pub clean_by : Bool → List ℕ → VType
  clean_by true n = Ref n
  clean_by false n = Null

  abbrev pub clean : VType → VType
  clean (Ref n) = clean_by (is_good n) n
  clean t = t

  abbrev pub all_clean : List VType → List VType
  all_clean ts = map clean ts

  pub clean_good : (t : VType) → IsGood t → clean t ≡ t
  clean_good (Ref n) k = ap (λ (b : Bool). clean_by b n) k
  clean_good t k = refl

  -- by what stands for a reference
  pub by_clean : (n : List ℕ) (A : VType → Type 0) → (IsGoodName n → A (Ref n)) → A Null → A (clean (Ref n))
  by_clean n A f g = go (is_good n) refl
    where
      go : (b : Bool) → is_good n ≡ b → A (clean_by b n)
      go true k = f k
      go false k = g

  -- ---- the order of types

  null_below : (n : List ℕ) (t : VType) → IsWithin P (Ref n) t → IsWithin P Null t
  null_below n Top h = refl
  null_below n (Ref m) h = refl
  null_below n t h = cc

  null_clean : (t : VType) → IsWithin P Null t → IsWithin P Null (clean t)
  null_clean (Ref m) h = by_clean m (λ t. IsWithin P Null t) (λ k. refl) refl
  null_clean t h = h

  -- what stands for a type is at most what is wider
  pub clean_below : (t u : VType) → IsWithin P t u → IsWithin P (clean t) u
  clean_below (Ref n) u h = by_clean n (λ t. IsWithin P t u) (λ k. h) (null_below n u h)
  clean_below t u h = h

  module _ (up : (m n : List ℕ) → IsGoodName m → IsWithin P (Ref m) (Ref n) → IsGoodName n) where
    pub good_within : (t u : VType) → IsGood t → IsWithin P t u → IsWithin P t (clean u)
    good_within (Ref m) (Ref n) k h = let s = clean_good (Ref n) (up m n k h) in subst (IsWithin P (Ref m)) (sym s) h
    good_within Null (Ref n) k h = null_clean (Ref n) h
    good_within (Ref m) Top k h = refl
    good_within t (Ref n) k h = absurd (no_true h)
    good_within t u k h = h

  -- ---- places

  pub clean_locals : (b : Bool) (ts : List VType) → IsLocalsAfter b ts → IsLocalsAfter b (all_clean ts)
  clean_locals false [] h = tt
  clean_locals true [] h = absurd h
  clean_locals false (Int ∷ ts) h = clean_locals false ts h
  clean_locals false (Null ∷ ts) h = clean_locals false ts h
  clean_locals false (Ref n ∷ ts) h = let r = clean_locals false ts h in by_clean n (λ t. IsLocalsAfter false (t ∷ all_clean ts)) (λ k. r) r
  clean_locals false (Uninit p ∷ ts) h = clean_locals false ts h
  clean_locals false (UninitThis ∷ ts) h = clean_locals false ts h
  clean_locals false (Top ∷ ts) h = clean_locals false ts h
  clean_locals false (Long ∷ ts) h = clean_locals true ts h
  clean_locals true (Second ∷ ts) h = clean_locals false ts h
  clean_locals b (t ∷ ts) h = absurd h

  pub clean_stack : (b : Bool) (ts : List VType) → IsStackUnder b ts → IsStackUnder b (all_clean ts)
  clean_stack false [] h = tt
  clean_stack true [] h = absurd h
  clean_stack false (Int ∷ ts) h = clean_stack false ts h
  clean_stack false (Null ∷ ts) h = clean_stack false ts h
  clean_stack false (Ref n ∷ ts) h = let r = clean_stack false ts h in by_clean n (λ t. IsStackUnder false (t ∷ all_clean ts)) (λ k. r) r
  clean_stack false (Uninit p ∷ ts) h = clean_stack false ts h
  clean_stack false (UninitThis ∷ ts) h = clean_stack false ts h
  clean_stack false (Second ∷ ts) h = clean_stack true ts h
  clean_stack true (Long ∷ ts) h = clean_stack false ts h
  clean_stack b (t ∷ ts) h = absurd h

  clean_freed_by : (t : VType) (i : ℕ) (ls : List VType) → slice_get ls i ≡ Some t → all_clean (freed_by (Some t) i ls) ≡ freed i (all_clean ls)
  clean_freed_by Second i ls e = map_set clean ls (i - 1) Top ∙ sym (ap (λ (o : Option VType). freed_by o i (all_clean ls)) (get_map clean ls i Second e))
  clean_freed_by Long i ls e = map_set clean ls (i + 1) Top ∙ sym (ap (λ (o : Option VType). freed_by o i (all_clean ls)) (get_map clean ls i Long e))
  clean_freed_by (Ref n) i ls e = sym (ap (λ (o : Option VType). freed_by o i (all_clean ls)) (get_map clean ls i (Ref n) e) ∙ by_clean n (λ t. freed_by (Some t) i (all_clean ls) ≡ all_clean ls) (λ k. refl) refl)
  clean_freed_by t i ls e = sym (ap (λ (o : Option VType). freed_by o i (all_clean ls)) (get_map clean ls i t e))

  pub clean_freed : (i : ℕ) (ls : List VType) → all_clean (freed i ls) ≡ freed i (all_clean ls)
  clean_freed i ls = by (slice_get ls i) refl
    where
      by : (o : Option VType) → slice_get ls i ≡ o → all_clean (freed_by o i ls) ≡ freed i (all_clean ls)
      by None e = sym (ap (λ (o : Option VType). freed_by o i (all_clean ls)) (map_none clean ls i e))
      by (Some t) e = clean_freed_by t i ls e

  -- ---- what is at most what stands for each wider type

  abbrev pub IsCleaner : VType → VType → Type 0
  IsCleaner t u = (w : VType) → IsWithin P u w → IsWithin P t (clean w)

  abbrev pub AreCleaner : List VType → List VType → Type 0
  AreCleaner [] [] = Unit {0}
  AreCleaner (t ∷ ts) (u ∷ us) = IsCleaner t u × AreCleaner ts us
  AreCleaner ts us = ⊥

  pub cleaner_length : (ts us : List VType) → AreCleaner ts us → length ts ≡ length us
  cleaner_length [] [] h = refl
  cleaner_length (t ∷ ts) (u ∷ us) h = ap suc (cleaner_length ts us h.1)
  cleaner_length [] (u ∷ us) h = absurd h
  cleaner_length (t ∷ ts) [] h = absurd h

  pub cleaner_within : (ts us ws : List VType) → AreCleaner ts us → AreWithin P us ws → AreWithin P ts (all_clean ws)
  cleaner_within [] [] [] h w = tt
  cleaner_within [] [] (x ∷ ws) h w = absurd w
  cleaner_within (t ∷ ts) (u ∷ us) [] h w = absurd w
  cleaner_within (t ∷ ts) (u ∷ us) (x ∷ ws) h w = (h.0 x w.0, cleaner_within ts us ws h.1 w.1)
  cleaner_within [] (u ∷ us) ws h w = absurd h
  cleaner_within (t ∷ ts) [] ws h w = absurd h

  pub cleaner_append : (ts us vs ws : List VType) → AreCleaner ts us → AreCleaner vs ws → AreCleaner (ts ++ vs) (us ++ ws)
  cleaner_append [] [] vs ws h g = g
  cleaner_append (t ∷ ts) (u ∷ us) vs ws h g = (h.0, cleaner_append ts us vs ws h.1 g)
  cleaner_append [] (u ∷ us) vs ws h g = absurd h
  cleaner_append (t ∷ ts) [] vs ws h g = absurd h

  pub null_cleaner : (n : List ℕ) → IsCleaner Null (Ref n)
  null_cleaner n w h = null_clean w (null_below n w h)

  -- each known type of a list that is at most what stands for it
  pub all_good : (ts : List VType) → AreWithin P ts (all_clean ts) → AllByRecursion IsGood ts
  all_good [] w = tt
  all_good (Ref n ∷ ts) w = (by (is_good n) refl w.0, all_good ts w.1)
    where
      by : (b : Bool) → is_good n ≡ b → IsWithin P (Ref n) (clean_by b n) → IsGoodName n
      by true e h = e
      by false e h = absurd (no_true h)
  all_good (t ∷ ts) w = (tt, all_good ts w.1)

  -- ---- objects that are built

  abbrev pub IsUnbuilt : VType → Type 0
  IsUnbuilt (Uninit q) = Unit {0}
  IsUnbuilt UninitThis = Unit {0}
  IsUnbuilt t = ⊥

  pub uninit_clean : (u t : VType) → IsUnbuilt u → is_uninit u (clean t) ≡ is_uninit u t
  uninit_clean (Uninit q) (Ref n) i = by_clean n (λ t. is_uninit (Uninit q) t ≡ false) (λ k. refl) refl
  uninit_clean UninitThis (Ref n) i = by_clean n (λ t. is_uninit UninitThis t ≡ false) (λ k. refl) refl
  uninit_clean u (Ref n) i = absurd i
  uninit_clean u t i = refl

  pub any_clean : (u : VType) → IsUnbuilt u → (ts : List VType) → list_any (is_uninit u) (all_clean ts) ≡ list_any (is_uninit u) ts
  any_clean u i [] = refl
  any_clean u i (t ∷ ts) = let e = uninit_clean u t i in let f = any_clean u i ts in rw (e, f) refl

  module _ (up : (m n : List ℕ) → IsGoodName m → IsWithin P (Ref m) (Ref n) → IsGoodName n) where
    pub clean_cleaner : (t : VType) → IsCleaner (clean t) t
    clean_cleaner (Ref n) w h = by_clean n (λ t. IsWithin P t (clean w)) (λ k. good_within up (Ref n) w k h) (null_cleaner n w h)
    clean_cleaner t w h = good_within up t w tt h

    pub good_cleaner : (t : VType) → IsGood t → IsCleaner t t
    good_cleaner t k w h = good_within up t w k h

    pub all_cleaner : (ts : List VType) → AreCleaner (all_clean ts) ts
    all_cleaner [] = tt
    all_cleaner (t ∷ ts) = (clean_cleaner t, all_cleaner ts)

    pub all_good_cleaner : (ts : List VType) → AllByRecursion IsGood ts → AreCleaner ts ts
    all_good_cleaner [] k = tt
    all_good_cleaner (t ∷ ts) k = (good_cleaner t k.0, all_good_cleaner ts k.1)

    pub become_cleaner : (u t : VType) → IsUnbuilt u → IsGood t → (ts : List VType) → AreCleaner (map (become u t) (all_clean ts)) (map (become u t) ts)
    become_cleaner u t i k [] = tt
    become_cleaner u t i k (x ∷ ts) = (one, become_cleaner u t i k ts)
      where
        by : (b c : Bool) → b ≡ c → IsCleaner (if b then t else clean x) (if c then t else x)
        by true true e = good_cleaner t k
        by false false e = clean_cleaner x
        by true false e = absurd (no_true (sym e))
        by false true e = absurd (no_true e)

        one : IsCleaner (become u t (clean x)) (become u t x)
        one = by (is_uninit u (clean x)) (is_uninit u x) (uninit_clean u x i)
