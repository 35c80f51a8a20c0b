-- Locals with longs in two places: what stores leave of them.
use Rattle.std.proofs.Common.{◌≡◌, ℕ, zero, suc, ◌+◌, ◌-◌, ◌<◌, List, [], ◌∷◌, length, map, Option, Some, None, Bool, true, false, refl, sym, ap, subst, ◌∙◌, arith}
use Rattle.std.specs.Prelude.{◌&&◌, slice_get, slice_set, nat_eq, if◌then◌else◌}
use Rattle.jmodel.specs.declared.typing.VType.{VType}
use Rattle.jmodel.specs.declared.typing.VType.TheVariants.{Int, Long, Second, Null, Ref, Uninit, UninitThis, Top}
use Rattle.objects.specs.semantics.Program.{Program}
use Rattle.objects.specs.typing.TypeOrder.{IsLocals, IsLocalsAfter}
use Rattle.objects.specs.typing.Typing.{freed, freed_by, become, is_uninit}
use Rattle.verifier.specs.Order.{join, join_all, join_name, ref_or_top}
use Rattle.verifier.specs.Search.{some_and, next_local, are_locals_after}

pub to_locals : (b : Bool) (l : List VType) → are_locals_after b l ≡ true → IsLocalsAfter b l
to_locals false [] e = tt
to_locals false (Int ∷ l) e = to_locals false l e
to_locals false (Null ∷ l) e = to_locals false l e
to_locals false (Ref n ∷ l) e = to_locals false l e
to_locals false (Uninit p ∷ l) e = to_locals false l e
to_locals false (UninitThis ∷ l) e = to_locals false l e
to_locals false (Top ∷ l) e = to_locals false l e
to_locals false (Long ∷ l) e = to_locals true l e
to_locals false (Second ∷ l) e = cc
to_locals true (Second ∷ l) e = to_locals false l e
to_locals true l e = cc

pub of_locals : (b : Bool) (l : List VType) → IsLocalsAfter b l → are_locals_after b l ≡ true
of_locals false [] h = refl
of_locals false (Int ∷ l) h = of_locals false l h
of_locals false (Null ∷ l) h = of_locals false l h
of_locals false (Ref n ∷ l) h = of_locals false l h
of_locals false (Uninit p ∷ l) h = of_locals false l h
of_locals false (UninitThis ∷ l) h = of_locals false l h
of_locals false (Top ∷ l) h = of_locals false l h
of_locals false (Long ∷ l) h = of_locals true l h
of_locals false (Second ∷ l) h = absurd h
of_locals true (Second ∷ l) h = of_locals false l h
of_locals true l h = absurd h

-- a type of one place, or top: it goes with no place before it and none behind
abbrev pub IsWhole : VType → Type 0
IsWhole Long = ⊥
IsWhole Second = ⊥
IsWhole t = Unit {0}

pub whole_first : (t : VType) (l : List VType) → IsWhole t → IsLocalsAfter false l → IsLocalsAfter false (t ∷ l)
whole_first Int l w h = h
whole_first Null l w h = h
whole_first (Ref n) l w h = h
whole_first (Uninit p) l w h = h
whole_first UninitThis l w h = h
whole_first Top l w h = h
whole_first t l w h = absurd w

whole_rest : (t : VType) (l : List VType) → IsWhole t → IsLocalsAfter false (t ∷ l) → IsLocalsAfter false l
whole_rest Int l w h = h
whole_rest Null l w h = h
whole_rest (Ref n) l w h = h
whole_rest (Uninit p) l w h = h
whole_rest UninitThis l w h = h
whole_rest Top l w h = h
whole_rest t l w h = absurd w

halved : (Q : VType → List VType → Type 0) (x : VType) (l r : List VType) → x ≡ Long → l ≡ Second ∷ r → Q Long (Second ∷ r) → Q x l
halved Q x l r e f q = subst (λ (x : VType). Q x l) (sym e) (subst (λ (l : List VType). Q Long l) (sym f) q)

-- a type of a list of locals is the first place of a long, with the second behind it, or goes alone
pub data Head (t : VType) (l : List VType) : Type 0 where
  Whole : IsWhole t → IsLocalsAfter false l → Head t l
  Halved : (r : List VType) → t ≡ Long → l ≡ Second ∷ r → IsLocalsAfter false r → Head t l

pub head_of : (t : VType) (l : List VType) → IsLocalsAfter false (t ∷ l) → Head t l
head_of Int l h = Whole tt h
head_of Null l h = Whole tt h
head_of (Ref n) l h = Whole tt h
head_of (Uninit p) l h = Whole tt h
head_of UninitThis l h = Whole tt h
head_of Top l h = Whole tt h
head_of Long [] h = absurd h
head_of Long (Second ∷ r) h = Halved r refl refl h
head_of Long (t ∷ r) h = absurd h
head_of Second l h = absurd h

-- no object that isn't built is a place of a long
pub become_whole : (u t v : VType) → IsWhole v → IsWhole t → IsWhole (become u t v)
become_whole u t v w x = by (is_uninit u v)
  where
    by : (b : Bool) → IsWhole (if b then t else v)
    by true = x
    by false = w

become_long : (u t : VType) → become u t Long ≡ Long
become_long (Uninit p) t = refl
become_long UninitThis t = refl
become_long u t = refl

become_second : (u t : VType) → become u t Second ≡ Second
become_second (Uninit p) t = refl
become_second UninitThis t = refl
become_second u t = refl

pub become_locals : (u t : VType) → IsWhole t → (b : Bool) (l : List VType) → IsLocalsAfter b l → IsLocalsAfter b (map (become u t) l)
become_locals u t w b [] h = h
become_locals u t w true (Second ∷ l) h = let e = become_second u t in rw e (become_locals u t w false l h)
become_locals u t w true (x ∷ l) h = absurd h
become_locals u t w false (Long ∷ l) h = let e = become_long u t in rw e (become_locals u t w true l h)
become_locals u t w false (Second ∷ l) h = absurd h
become_locals u t w false (Int ∷ l) h = whole_first (become u t Int) (map (become u t) l) (become_whole u t Int tt w) (become_locals u t w false l h)
become_locals u t w false (Null ∷ l) h = whole_first (become u t Null) (map (become u t) l) (become_whole u t Null tt w) (become_locals u t w false l h)
become_locals u t w false (Ref n ∷ l) h = whole_first (become u t (Ref n)) (map (become u t) l) (become_whole u t (Ref n) tt w) (become_locals u t w false l h)
become_locals u t w false (Uninit p ∷ l) h = whole_first (become u t (Uninit p)) (map (become u t) l) (become_whole u t (Uninit p) tt w) (become_locals u t w false l h)
become_locals u t w false (UninitThis ∷ l) h = whole_first (become u t UninitThis) (map (become u t) l) (become_whole u t UninitThis tt w) (become_locals u t w false l h)
become_locals u t w false (Top ∷ l) h = whole_first (become u t Top) (map (become u t) l) (become_whole u t Top tt w) (become_locals u t w false l h)

-- joins of locals are locals
next_whole : (t : VType) → IsWhole t → next_local false t ≡ Some false
next_whole Int w = refl
next_whole Null w = refl
next_whole (Ref n) w = refl
next_whole (Uninit p) w = refl
next_whole UninitThis w = refl
next_whole Top w = refl
next_whole t w = absurd w

named_whole : (o : Option (List ℕ)) → IsWhole (ref_or_top o)
named_whole None = tt
named_whole (Some n) = tt

uninit_whole : (b : Bool) (p : ℕ) → IsWhole (if b then Uninit p else Top)
uninit_whole true p = tt
uninit_whole false p = tt

module _ (P : Program) where
  join_whole : (t u : VType) → IsWhole t → IsWhole (join P t u)
  join_whole Int Int w = tt
  join_whole Null Null w = tt
  join_whole Null (Ref n) w = named_whole (join_name P n n)
  join_whole (Ref m) Null w = named_whole (join_name P m m)
  join_whole (Ref m) (Ref n) w = named_whole (join_name P m n)
  join_whole (Uninit p) (Uninit q) w = uninit_whole (nat_eq p q) p
  join_whole UninitThis UninitThis w = tt
  join_whole Long u w = absurd w
  join_whole Second u w = absurd w
  join_whole t u w = tt

  -- how a type goes behind a long's first place, or not
  data Goes (b d : Bool) (t : VType) : Type 0 where
    Behind : b ≡ true → d ≡ false → t ≡ Second → Goes b d t
    Leading : b ≡ false → d ≡ true → t ≡ Long → Goes b d t
    Alone : b ≡ false → d ≡ false → IsWhole t → Goes b d t

  same_bool : (d e : Bool) → Some d ≡ Some e → e ≡ d
  same_bool d e h = cc

  goes : (b d : Bool) (t : VType) → next_local b t ≡ Some d → Goes b d t
  goes true d Second h = Behind refl (same_bool false d h) refl
  goes true d t h = cc
  goes false d Long h = Leading refl (same_bool true d h) refl
  goes false d Second h = cc
  goes false d Int h = Alone refl (same_bool false d h) tt
  goes false d Null h = Alone refl (same_bool false d h) tt
  goes false d (Ref n) h = Alone refl (same_bool false d h) tt
  goes false d (Uninit p) h = Alone refl (same_bool false d h) tt
  goes false d UninitThis h = Alone refl (same_bool false d h) tt
  goes false d Top h = Alone refl (same_bool false d h) tt

  join_long : (u : VType) → IsWhole u → join P Long u ≡ Top
  join_long Long w = absurd w
  join_long u w = refl

  join_second : (u : VType) → IsWhole u → join P Second u ≡ Top
  join_second Second w = absurd w
  join_second u w = refl

  next_goes : (b c d e : Bool) (t u : VType) → Goes b d t → Goes c e u → next_local (b && c) (join P t u) ≡ Some (d && e)
  next_goes b c d e t u (Behind x y z) (Behind k l m) = rw (x, y, z, k, m) refl
  next_goes b c d e t u (Behind x y z) (Leading k l m) = rw (x, y, z, k, m) refl
  next_goes b c d e t u (Behind x y z) (Alone k l m) = let j = join_second u m in rw (x, y, z, k, j) refl
  next_goes b c d e t u (Leading x y z) (Behind k l m) = rw (x, y, z, l, m) refl
  next_goes b c d e t u (Leading x y z) (Leading k l m) = rw (x, y, z, l, m) refl
  next_goes b c d e t u (Leading x y z) (Alone k l m) = let j = join_long u m in rw (x, y, z, l, j) refl
  next_goes b c d e t u (Alone x y z) g = rw (x, y) (next_whole (join P t u) (join_whole t u z))

  -- of two that go on, behind a long's first place or not
  next_join : (b c d e : Bool) (t u : VType) → next_local b t ≡ Some d → next_local c u ≡ Some e → next_local (b && c) (join P t u) ≡ Some (d && e)
  next_join b c d e t u h g = next_goes b c d e t u (goes b d t h) (goes c e u g)

  join_after : (b c : Bool) (l m : List VType) → length l ≡ length m → are_locals_after b l ≡ true → are_locals_after c m ≡ true → are_locals_after (b && c) (join_all P l m) ≡ true
  join_after true true [] m n h g = h
  join_after false c [] m n h g = refl
  join_after true false [] m n h g = refl
  join_after b c (t ∷ l) [] n h g = absurd (omega arith)
  join_after b c (t ∷ l) (u ∷ m) n h g = by (λ d e x y. join_after d e l m (omega arith) x y) (next_local b t) (next_local c u) refl refl h g
    where
      by : ((d e : Bool) → are_locals_after d l ≡ true → are_locals_after e m ≡ true → are_locals_after (d && e) (join_all P l m) ≡ true) → (o q : Option Bool) → next_local b t ≡ o → next_local c u ≡ q
          → some_and o (λ b. are_locals_after b l) ≡ true → some_and q (λ b. are_locals_after b m) ≡ true → are_locals_after (b && c) (join_all P (t ∷ l) (u ∷ m)) ≡ true
      by rest None q i j h g = cc
      by rest (Some d) None i j h g = cc
      by rest (Some d) (Some e) i j h g = let x = next_join b c d e t u i j in rw x (rest d e h g)

  pub join_locals : (l m : List VType) → length l ≡ length m → IsLocals l → IsLocals m → IsLocals (join_all P l m)
  join_locals l m n h g = to_locals false (join_all P l m) (join_after false false l m n (of_locals false l h) (of_locals false m g))

-- ---- stores

pub freed_whole : (x : VType) (i : ℕ) (l : List VType) → IsWhole x → freed_by (Some x) i l ≡ l
freed_whole Int i l w = refl
freed_whole Null i l w = refl
freed_whole (Ref n) i l w = refl
freed_whole (Uninit p) i l w = refl
freed_whole UninitThis i l w = refl
freed_whole Top i l w = refl
freed_whole t i l w = absurd w

freed_step : (j : ℕ) (x : VType) (l : List VType) → freed (suc (suc j)) (x ∷ l) ≡ x ∷ freed (suc j) l
freed_step j x l = by (slice_get l (suc j))
  where
    by : (o : Option VType) → freed_by o (suc (suc j)) (x ∷ l) ≡ x ∷ freed_by o (suc j) l
    by (Some Second) = let e : suc (suc j) - 1 ≡ suc j = omega arith in let f : suc j - 1 ≡ j = omega arith in rw (e, f) refl
    by (Some Long) = let e : suc (suc j) + 1 ≡ suc (suc j + 1) = omega arith in rw e refl
    by None = refl
    by (Some t) = refl

freed_first : (x : VType) (l : List VType) → IsLocals l → freed 1 (x ∷ l) ≡ x ∷ freed 0 l
freed_first x [] h = refl
freed_first x (Long ∷ l) h = refl
freed_first x (Second ∷ l) h = absurd h
freed_first x (t ∷ l) h = refl

freed_on : (j : ℕ) (x : VType) (l : List VType) → IsLocals l → freed (suc j) (x ∷ l) ≡ x ∷ freed j l
freed_on zero x l h = freed_first x l h
freed_on (suc j) x l h = freed_step j x l

freed_two : (j : ℕ) (x y : VType) (l : List VType) → IsLocals l → freed (suc (suc j)) (x ∷ y ∷ l) ≡ x ∷ y ∷ freed j l
freed_two j x y l h = freed_step j x (y ∷ l) ∙ ap (λ (l : List VType). x ∷ l) (freed_on j y l h)

abbrev pub stored : ℕ → VType → List VType → List VType
stored i t l = slice_set (freed i l) i t

pub stored_on : (j : ℕ) (t x : VType) (l : List VType) → IsLocals l → stored (suc j) t (x ∷ l) ≡ x ∷ stored j t l
stored_on j t x l h = ap (λ (m : List VType). slice_set m (suc j) t) (freed_on j x l h)

pub stored_two : (j : ℕ) (t x y : VType) (l : List VType) → IsLocals l → stored (suc (suc j)) t (x ∷ y ∷ l) ≡ x ∷ y ∷ stored j t l
stored_two j t x y l h = ap (λ (m : List VType). slice_set m (suc (suc j)) t) (freed_two j x y l h)

pub stored_zero : (t x : VType) (l : List VType) → IsWhole x → stored 0 t (x ∷ l) ≡ t ∷ l
stored_zero t x l w = ap (λ (m : List VType). slice_set m 0 t) (freed_whole x 0 (x ∷ l) w)

pub stored_locals : (i : ℕ) (t : VType) (l : List VType) → IsWhole t → i < length l → IsLocals l → IsLocals (stored i t l)
stored_locals i t [] w lt h = absurd (omega arith)
stored_locals zero t (x ∷ l) w lt h = by (head_of x l h)
  where
    by : Head x l → IsLocals (stored 0 t (x ∷ l))
    by (Whole v i) = let e = stored_zero t x l v in subst IsLocals (sym e) (whole_first t l w i)
    by (Halved r e f i) = halved (λ x l. IsLocals (stored 0 t (x ∷ l))) x l r e f (whole_first t (Top ∷ r) w i)
stored_locals (suc zero) t (x ∷ l) w lt h = by (stored_locals zero t l w (omega arith)) (head_of x l h)
  where
    by : (IsLocals l → IsLocals (stored 0 t l)) → Head x l → IsLocals (stored 1 t (x ∷ l))
    by rest (Whole v i) = let e = stored_on 0 t x l i in subst IsLocals (sym e) (whole_first x (stored 0 t l) v (rest i))
    by rest (Halved r e f i) = halved (λ x l. IsLocals (stored 1 t (x ∷ l))) x l r e f (whole_first t r w i)
stored_locals (suc (suc j)) t (x ∷ l) w lt h = by (λ (i : IsLocals l). stored_locals (suc j) t l w (omega arith) i) (λ (r : List VType) (k : j < length r) (i : IsLocals r). stored_locals j t r w k i) (head_of x l h)
  where
    by : (IsLocals l → IsLocals (stored (suc j) t l)) → ((r : List VType) → j < length r → IsLocals r → IsLocals (stored j t r)) → Head x l → IsLocals (stored (suc (suc j)) t (x ∷ l))
    by rest two (Whole v i) = let e = stored_on (suc j) t x l i in subst IsLocals (sym e) (whole_first x (stored (suc j) t l) v (rest i))
    by rest two (Halved r e f i) =
        let n : length l ≡ suc (length r) = ap length f in
        let k : j < length r = omega arith in
        let s = stored_two j t Long Second r i in
        halved (λ x l. IsLocals (stored (suc (suc j)) t (x ∷ l))) x l r e f (subst IsLocals (sym s) (two r k i))

-- two places of a long
abbrev pub second_stored : List VType → List VType
second_stored l = slice_set (freed 0 l) 0 Second

abbrev pub wide : ℕ → List VType → List VType
wide i l = slice_set (slice_set (freed (suc i) (freed i l)) i Long) (suc i) Second

second_locals : (l : List VType) → 0 < length l → IsLocals l → IsLocalsAfter true (second_stored l)
second_locals [] lt h = absurd (omega arith)
second_locals (x ∷ l) lt h = by (head_of x l h)
  where
    by : Head x l → IsLocalsAfter true (second_stored (x ∷ l))
    by (Whole v i) = let e = stored_zero Second x l v in subst (IsLocalsAfter true) (sym e) i
    by (Halved r e f i) = halved (λ x l. IsLocalsAfter true (second_stored (x ∷ l))) x l r e f i

pub wide_on : (j : ℕ) (x : VType) (l : List VType) → IsLocals l → wide (suc j) (x ∷ l) ≡ x ∷ wide j l
wide_on j x l h = ap (λ (m : List VType). slice_set (slice_set (freed (suc (suc j)) m) (suc j) Long) (suc (suc j)) Second) (freed_on j x l h) ∙ ap (λ (m : List VType). slice_set (slice_set m (suc j) Long) (suc (suc j)) Second) (freed_step j x (freed j l))

pub wide_two : (j : ℕ) (x y : VType) (l : List VType) → IsLocals l → wide (suc (suc j)) (x ∷ y ∷ l) ≡ x ∷ y ∷ wide j l
wide_two j x y l h =
    ap (λ (m : List VType). slice_set (slice_set (freed (suc (suc (suc j))) m) (suc (suc j)) Long) (suc (suc (suc j))) Second) (freed_two j x y l h)
    ∙ ap (λ (m : List VType). slice_set (slice_set m (suc (suc j)) Long) (suc (suc (suc j))) Second) (freed_step (suc j) x (y ∷ freed j l) ∙ ap (λ (m : List VType). x ∷ m) (freed_step j y (freed j l)))

pub wide_zero : (x : VType) (l : List VType) → IsWhole x → IsLocals l → wide 0 (x ∷ l) ≡ Long ∷ second_stored l
wide_zero x l w h =
    ap (λ (m : List VType). slice_set (slice_set (freed 1 m) 0 Long) 1 Second) (freed_whole x 0 (x ∷ l) w)
    ∙ ap (λ (m : List VType). slice_set (slice_set m 0 Long) 1 Second) (freed_first x l h)

-- the long that stood a place before is torn
pub wide_torn : (l : List VType) → IsLocals l → wide 1 (Long ∷ Second ∷ l) ≡ Top ∷ Long ∷ second_stored l
wide_torn l h = ap (λ (m : List VType). slice_set (slice_set m 1 Long) 2 Second) (freed_two 0 Top Second l h)

pub wide_locals : (i : ℕ) (l : List VType) → suc i < length l → IsLocals l → IsLocals (wide i l)
wide_locals i [] lt h = absurd (omega arith)
wide_locals zero (x ∷ l) lt h = by (head_of x l h)
  where
    by : Head x l → IsLocals (wide 0 (x ∷ l))
    by (Whole v i) = let e = wide_zero x l v i in subst IsLocals (sym e) (second_locals l (omega arith) i)
    by (Halved r e f i) = halved (λ x l. IsLocals (wide 0 (x ∷ l))) x l r e f i
wide_locals (suc zero) (x ∷ l) lt h = by (λ (i : IsLocals l). wide_locals zero l (omega arith) i) (head_of x l h)
  where
    by : (IsLocals l → IsLocals (wide 0 l)) → Head x l → IsLocals (wide 1 (x ∷ l))
    by rest (Whole v i) = let e = wide_on 0 x l i in subst IsLocals (sym e) (whole_first x (wide 0 l) v (rest i))
    by rest (Halved r e f i) = let n : length l ≡ suc (length r) = ap length f in let k : 0 < length r = omega arith in let s = wide_torn r i in halved (λ x l. IsLocals (wide 1 (x ∷ l))) x l r e f (subst IsLocals (sym s) (second_locals r k i))
wide_locals (suc (suc j)) (x ∷ l) lt h = by (λ (i : IsLocals l). wide_locals (suc j) l (omega arith) i) (λ (r : List VType) (k : suc j < length r) (i : IsLocals r). wide_locals j r k i) (head_of x l h)
  where
    by : (IsLocals l → IsLocals (wide (suc j) l)) → ((r : List VType) → suc j < length r → IsLocals r → IsLocals (wide j r)) → Head x l → IsLocals (wide (suc (suc j)) (x ∷ l))
    by rest two (Whole v i) = let e = wide_on (suc j) x l i in subst IsLocals (sym e) (whole_first x (wide (suc j) l) v (rest i))
    by rest two (Halved r e f i) =
        let n : length l ≡ suc (length r) = ap length f in
        let k : suc j < length r = omega arith in
        let s = wide_two j Long Second r i in
        halved (λ x l. IsLocals (wide (suc (suc j)) (x ∷ l))) x l r e f (subst IsLocals (sym s) (two r k i))
