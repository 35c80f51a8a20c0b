-- The class's own names: what is read is spelled so, and what is spelled so is read.
use Rattle.std.proofs.Common.{◌≡◌, ℕ, ◌+◌, ◌^◌, ◌<◌, ◌≢◌, Bool, true, false, not, cond, eqb, ◌&&◌, ◌||◌, List, [], ◌∷◌, ◌++◌, length, Option, Some, None, Ok, Err, refl, ap, subst, arith}
use Rattle.std.specs.Prelude.{IsSome, IsSomeAnd, pos}
use Rattle.std.specs.Int.{w16, w32}
use Rattle.std.specs.List.{AllByRecursion, list_any}
use Rattle.std.proofs.lemmas.Bool.{eqb-true, eqb-false, ne_eqb, not-true}
use Rattle.std.proofs.lemmas.List.{nil_from_length}
use Rattle.jmodel.specs.declared.refusal.Refusal.TheVariants.{BadMagic, BadVersion, WrongKind}
use Rattle.jmodel.specs.format.ClassFile.{Pool, u2, u4, magic, indexes}
use Rattle.jmodel.specs.format.Pool.{class_name}
use Rattle.jmodel.specs.format.ClassRules.{IsTwoBytes}
use Rattle.jmodel.specs.format.Descriptor.{is_array_name, IsClassName}
use Rattle.jmodel.specs.format.Reading.{◌>>=◌, u2_at, u4_at}
use Rattle.jmodel.specs.format.PoolReading.{class_at, passes, all_fit}
use Rattle.jmodel.specs.format.ClassFileReading.{magic_at, version_at, is_class_name, class_index_at, this_at, interfaces_at, Head, head_at}
use Rattle.const_pool.proofs.Takes.{bind_ok, ok_is, want_ok, IsBytes, Takes, Takes-then, Takes-first, Takes-second, wide16, wide32, number_takes, number_again, counted_take, counted_again}
use Rattle.const_pool.proofs.Entries.{both_true}
use Rattle.const_pool.proofs.Named.{some_is, class_read, class_named, class_again}

-- ---- names of classes

no_semicolon : (xs : List ℕ) → list_any (λ c. eqb c 59) xs ≡ false → AllByRecursion (λ c. c ≢ 59) xs
no_semicolon [] h = tt
no_semicolon (x ∷ xs) h = by_test (eqb x 59) refl h (λ k. no_semicolon xs k) where
  by_test : (b : Bool) → eqb x 59 ≡ b → (b || list_any (λ c. eqb c 59) xs) ≡ false → (list_any (λ c. eqb c 59) xs ≡ false → AllByRecursion (λ c. c ≢ 59) xs) → (x ≢ 59) × AllByRecursion (λ c. c ≢ 59) xs
  by_test true e k others = absurd cc
  by_test false e k others = (eqb-false x 59 e, others k)

semicolon_free : (xs : List ℕ) → AllByRecursion (λ c. c ≢ 59) xs → list_any (λ c. eqb c 59) xs ≡ false
semicolon_free [] h = refl
semicolon_free (x ∷ xs) h = rw (ne_eqb x 59 h.0) (semicolon_free xs h.1)

pub name_rules : (name : List ℕ) → is_class_name name ≡ true → IsClassName name
name_rules name e =
    let a = both_true (not (eqb (length name) 0) && not (list_any (λ c. eqb c 59) name)) (not (is_array_name name)) e in
    let b = both_true (not (eqb (length name) 0)) (not (list_any (λ c. eqb c 59) name)) a.0 in
    record { is_there = λ z. absurd (eqb-false (length name) 0 (not-true _ b.0) (ap length z)); no_end = no_semicolon name (not-true _ b.1); no_array = not-true _ a.1 }

pub rules_name : (name : List ℕ) → IsClassName name → is_class_name name ≡ true
rules_name name h =
    let some : eqb (length name) 0 ≡ false = ne_eqb _ _ (λ e. absurd (h.is_there (nil_from_length name e))) in
    rw (some, semicolon_free name h.no_end, h.no_array) refl

-- ---- the front

pub magic_takes : (bytes : List ℕ) (at : ℕ) → IsBytes bytes → magic_at bytes ≡ Ok at → Takes bytes 0 magic at
unfolding magic_at
magic_takes bytes at fits e =
    let a = bind_ok (u4_at bytes 0) (λ m. cond (eqb m.0 0xcafebabe) (Ok m.1) (Err BadMagic)) at e in
    let w = want_ok (eqb a.0.0 0xcafebabe) BadMagic (Ok a.0.1) at a.2 in
    let t = number_takes w32 (2 ^ 32) wide32 bytes 0 a.0 fits a.1 in
    let right : Takes bytes 0 (u4 0xcafebabe) a.0.1 = subst (λ (k : ℕ). Takes bytes 0 (u4 k) a.0.1) (eqb-true a.0.0 0xcafebabe w.0) t.0 in
    subst (Takes bytes 0 magic) (ok_is a.0.1 at w.1) right

pub magic_again : (bytes : List ℕ) (at : ℕ) → Takes bytes 0 magic at → magic_at bytes ≡ Ok at
unfolding magic_at
magic_again bytes at t = rw (number_again w32 (2 ^ 32) wide32 bytes 0 0xcafebabe at (omega arith) t) refl

pub version_takes : (bytes : List ℕ) (at : ℕ) (x : ℕ × ℕ) → IsBytes bytes → version_at bytes at ≡ Ok x → Takes bytes at (u2 x.0 ++ u2 49) x.1 × IsTwoBytes x.0
unfolding version_at
version_takes bytes at x fits e =
    let a = bind_ok (u2_at bytes at) (λ minor. u2_at bytes minor.1 >>= λ major. cond (eqb major.0 49) (Ok (minor.0, major.1)) (Err (BadVersion (pos major.0)))) x e in
    let b = bind_ok (u2_at bytes a.0.1) (λ major. cond (eqb major.0 49) (Ok (a.0.0, major.1)) (Err (BadVersion (pos major.0)))) x a.2 in
    let w = want_ok (eqb b.0.0 49) (BadVersion (pos b.0.0)) (Ok (a.0.0, b.0.1)) x b.2 in
    let t0 = number_takes w16 (2 ^ 16) wide16 bytes at a.0 fits a.1 in
    let t1 = number_takes w16 (2 ^ 16) wide16 bytes a.0.1 b.0 fits b.1 in
    let major : Takes bytes a.0.1 (u2 49) b.0.1 = subst (λ (k : ℕ). Takes bytes a.0.1 (u2 k) b.0.1) (eqb-true b.0.0 49 w.0) t1.0 in
    subst (λ (y : ℕ × ℕ). Takes bytes at (u2 y.0 ++ u2 49) y.1 × IsTwoBytes y.0) (ok_is (a.0.0, b.0.1) x w.1) (Takes-then bytes at (u2 a.0.0) a.0.1 (u2 49) b.0.1 t0.0 major, t0.1)

pub version_again : (bytes : List ℕ) (at minor next : ℕ) → IsTwoBytes minor → Takes bytes at (u2 minor ++ u2 49) next → version_at bytes at ≡ Ok (minor, next)
unfolding version_at
version_again bytes at minor next lt t =
    let first = number_again w16 (2 ^ 16) wide16 bytes at minor (at + 2) lt (Takes-first bytes at (u2 minor) (u2 49) next t) in
    let second = number_again w16 (2 ^ 16) wide16 bytes (at + 2) 49 next (omega arith) (Takes-second bytes at (u2 minor) (u2 49) next t) in
    rw (first, second) refl

-- ---- indexes of classes

abbrev pub IsClassIndex : Pool → ℕ → Type 0
IsClassIndex pool i = IsTwoBytes i × IsSome (class_name pool i)

module _ (pool : Pool) (bytes : List ℕ) where
  pub index_takes : all_fit pool pool ≡ Ok tt → IsBytes bytes → (at i next : ℕ) → class_index_at pool bytes at ≡ Ok (i, next) → Takes bytes at (u2 i) next × IsClassIndex pool i
  unfolding class_index_at
  index_takes fit fits at i next e =
      let a = bind_ok (u2_at bytes at) (λ i. class_at pool i.0 >>= λ _. Ok i) (i, next) e in
      let b = bind_ok (class_at pool a.0.0) (λ _. Ok a.0) (i, next) a.2 in
      let t = number_takes w16 (2 ^ 16) wide16 bytes at a.0 fits a.1 in
      let c = class_named pool fit a.0.0 b.0 (class_read pool a.0.0 b.0 b.1) in
      subst (λ (y : ℕ × ℕ). Takes bytes at (u2 y.0) y.1 × IsClassIndex pool y.0) (ok_is a.0 (i, next) b.2) (t.0, (t.1, some_is (class_name pool a.0.0) c.0 c.2))

  pub index_again : (at i next : ℕ) → IsClassIndex pool i → Takes bytes at (u2 i) next → class_index_at pool bytes at ≡ Ok (i, next)
  unfolding class_index_at
  index_again at i next h t =
      let k = class_again pool i h.1 in
      rw (number_again w16 (2 ^ 16) wide16 bytes at i next h.0 t, k.1) refl

  by_name : (o : Option (List ℕ)) → passes is_class_name o ≡ true → IsSomeAnd o IsClassName
  by_name None e = absurd cc
  by_name (Some name) e = name_rules name e

  name_passes : (o : Option (List ℕ)) → IsSomeAnd o IsClassName → passes is_class_name o ≡ true
  name_passes None h = absurd h
  name_passes (Some name) h = rules_name name h

  some_and : (o : Option (List ℕ)) (P : List ℕ → Type 0) → IsSomeAnd o P → IsSome o
  some_and None P h = absurd h
  some_and (Some x) P h = refl

  this_takes : all_fit pool pool ≡ Ok tt → IsBytes bytes → (at : ℕ) (x : ℕ × ℕ) → this_at pool bytes at ≡ Ok x → Takes bytes at (u2 x.0) x.1 × IsTwoBytes x.0 × IsSomeAnd (class_name pool x.0) IsClassName
  unfolding this_at
  this_takes fit fits at x e =
      let a = bind_ok (class_index_at pool bytes at) (λ i. cond (passes is_class_name (class_name pool i.0)) (Ok i) (Err (WrongKind (pos i.0)))) x e in
      let w = want_ok (passes is_class_name (class_name pool a.0.0)) (WrongKind (pos a.0.0)) (Ok a.0) x a.2 in
      let t = index_takes fit fits at a.0.0 a.0.1 a.1 in
      subst (λ (y : ℕ × ℕ). Takes bytes at (u2 y.0) y.1 × IsTwoBytes y.0 × IsSomeAnd (class_name pool y.0) IsClassName) (ok_is a.0 x w.1) (t.0, t.1.0, by_name (class_name pool a.0.0) w.0)

  this_again : (at i next : ℕ) → IsTwoBytes i → IsSomeAnd (class_name pool i) IsClassName → Takes bytes at (u2 i) next → this_at pool bytes at ≡ Ok (i, next)
  unfolding this_at
  this_again at i next lt h t = rw (index_again at i next (lt, some_and (class_name pool i) IsClassName h) t, name_passes (class_name pool i) h) refl

  -- ---- the head

  abbrev pub head_text : Head → List ℕ
  head_text h = u2 h.flags ++ (u2 h.this_class ++ (u2 h.super_class ++ indexes h.interfaces))

  pub record IsHead (h : Head) : Type 0 where
    pub flags : IsTwoBytes h.flags
    pub this_class : IsTwoBytes h.this_class
    pub this_name : IsSomeAnd (class_name pool h.this_class) IsClassName
    pub super_class : IsClassIndex pool h.super_class
    pub few : length h.interfaces < 2 ^ 16
    pub interfaces : AllByRecursion (IsClassIndex pool) h.interfaces

  pub head_takes : all_fit pool pool ≡ Ok tt → IsBytes bytes → (at : ℕ) (x : Head × ℕ) → head_at pool bytes at ≡ Ok x → Takes bytes at (head_text x.0) x.1 × IsHead x.0
  unfolding head_at interfaces_at
  head_takes fit fits at x e =
      let a = bind_ok (u2_at bytes at) (λ flags. this_at pool bytes flags.1 >>= λ t. class_index_at pool bytes t.1 >>= λ s. interfaces_at pool bytes s.1 >>= λ is. Ok (record { flags = flags.0; this_class = t.0; super_class = s.0; interfaces = is.0 }, is.1)) x e in
      let b = bind_ok (this_at pool bytes a.0.1) (λ t. class_index_at pool bytes t.1 >>= λ s. interfaces_at pool bytes s.1 >>= λ is. Ok (record { flags = a.0.0; this_class = t.0; super_class = s.0; interfaces = is.0 }, is.1)) x a.2 in
      let c = bind_ok (class_index_at pool bytes b.0.1) (λ s. interfaces_at pool bytes s.1 >>= λ is. Ok (record { flags = a.0.0; this_class = b.0.0; super_class = s.0; interfaces = is.0 }, is.1)) x b.2 in
      let d = bind_ok (interfaces_at pool bytes c.0.1) (λ is. Ok (record { flags = a.0.0; this_class = b.0.0; super_class = c.0.0; interfaces = is.0 }, is.1)) x c.2 in
      let t0 = number_takes w16 (2 ^ 16) wide16 bytes at a.0 fits a.1 in
      let t1 = this_takes fit fits a.0.1 b.0 b.1 in
      let t2 = index_takes fit fits b.0.1 c.0.0 c.0.1 c.1 in
      let t3 = counted_take bytes (class_index_at pool bytes) u2 (IsClassIndex pool) fits (λ at i next e. index_takes fit fits at i next e) c.0.1 d.0 d.1 in
      let e3 = Takes-then bytes b.0.1 (u2 c.0.0) c.0.1 (indexes d.0.0) d.0.1 t2.0 t3.0 in
      let e2 = Takes-then bytes a.0.1 (u2 b.0.0) b.0.1 (u2 c.0.0 ++ indexes d.0.0) d.0.1 t1.0 e3 in
      let e1 = Takes-then bytes at (u2 a.0.0) a.0.1 (u2 b.0.0 ++ (u2 c.0.0 ++ indexes d.0.0)) d.0.1 t0.0 e2 in
      let made : Head × ℕ = (record { flags = a.0.0; this_class = b.0.0; super_class = c.0.0; interfaces = d.0.0 }, d.0.1) in
      subst (λ (y : Head × ℕ). Takes bytes at (head_text y.0) y.1 × IsHead y.0) (ok_is made x d.2) (e1, record { flags = t0.1; this_class = t1.1; this_name = t1.2; super_class = t2.1; few = t3.1; interfaces = t3.2 })

  pub head_again : (at : ℕ) (h : Head) (next : ℕ) → IsHead h → Takes bytes at (head_text h) next → head_at pool bytes at ≡ Ok (h, next)
  unfolding head_at interfaces_at
  head_again at h next r t =
      let r0 = Takes-second bytes at (u2 h.flags) (u2 h.this_class ++ (u2 h.super_class ++ indexes h.interfaces)) next t in
      let r1 = Takes-second bytes (at + 2) (u2 h.this_class) (u2 h.super_class ++ indexes h.interfaces) next r0 in
      let r2 = Takes-second bytes (at + 2 + 2) (u2 h.super_class) (indexes h.interfaces) next r1 in
      let flags = number_again w16 (2 ^ 16) wide16 bytes at h.flags (at + 2) r.flags (Takes-first bytes at (u2 h.flags) (u2 h.this_class ++ (u2 h.super_class ++ indexes h.interfaces)) next t) in
      let this = this_again (at + 2) h.this_class (at + 2 + 2) r.this_class r.this_name (Takes-first bytes (at + 2) (u2 h.this_class) (u2 h.super_class ++ indexes h.interfaces) next r0) in
      let above = index_again (at + 2 + 2) h.super_class (at + 2 + 2 + 2) r.super_class (Takes-first bytes (at + 2 + 2) (u2 h.super_class) (indexes h.interfaces) next r1) in
      let others = counted_again bytes (class_index_at pool bytes) u2 (IsClassIndex pool) (λ at i next h t. index_again at i next h t) h.interfaces (at + 2 + 2 + 2) next r.few r.interfaces r2 in
      rw (flags, this, above, others) refl
