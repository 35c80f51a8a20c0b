-- Types of a duplicate's places: an object that isn't built is named by the block of the instruction that made it.
use Rattle.std.proofs.Common.{◌≡◌, ◌≢◌, ℕ, zero, suc, ◌+◌, ◌-◌, List, [], ◌∷◌, ◌++◌, length, map, reverse, replicate, Option, Some, None, Bool, true, false, refl, sym, ap, subst, ◌∙◌, arith}
use Rattle.std.specs.Prelude.{slice_get, slice_set, nat_eq, if◌then◌else◌}
use Rattle.std.specs.List.{AllByRecursion, list_any}
use Rattle.std.proofs.lemmas.Bool.Decides.{nat_tests}
use mathlib.Core.List.{reverse_aux}
use Rattle.jmodel.specs.declared.typing.VType.{VType}
use Rattle.jmodel.specs.declared.typing.VType.TheVariants.{Int, Long, Second, Null, Ref, Uninit, UninitThis, Top}
use Rattle.objects.specs.declared.op.WordType.{WordType}
use Rattle.objects.specs.declared.op.WordType.TheVariants as word
use Rattle.objects.specs.semantics.Program.{Program}
use Rattle.objects.specs.typing.TypeOrder.{IsWithin, AreWithin, IsLocalsAfter, IsStackUnder, stack_types}
use Rattle.objects.specs.typing.Typing.{freed, freed_by, become, is_uninit, result_types}
use Rattle.objects.specs.typing.Source.{AreParametersAfter, IsResult}
use Rattle.objects.proofs.Agreeing.{IsOneKind}
use Rattle.objects.proofs.Places.{get_map}
use Rattle.objects.proofs.CopiedLocals.{context, before, after, copied}
use Rattle.objects.proofs.CopiedStores.{is_long, is_parted, extra, with_copies}

pub map_set : {A B : Type 0} (f : A → B) (xs : List A) (i : ℕ) (x : A) → map f (slice_set xs i x) ≡ slice_set (map f xs) i (f x)
map_set f [] i x = refl
map_set f (y ∷ xs) zero x = refl
map_set f (y ∷ xs) (suc i) x = ap (λ l. f y ∷ l) (map_set f xs i x)

pub map_none : {A B : Type 0} (f : A → B) (xs : List A) (i : ℕ) → slice_get xs i ≡ None → slice_get (map f xs) i ≡ None
map_none f [] i e = refl
map_none f (y ∷ xs) zero e = cc
map_none f (y ∷ xs) (suc i) e = map_none f xs i e

pub map_append : {A B : Type 0} (f : A → B) (xs ys : List A) → map f (xs ++ ys) ≡ map f xs ++ map f ys
map_append f [] ys = refl
map_append f (x ∷ xs) ys = ap (λ l. f x ∷ l) (map_append f xs ys)

pub map_long : {A B : Type 0} (f : A → B) (xs : List A) → length (map f xs) ≡ length xs
map_long f [] = refl
map_long f (x ∷ xs) = ap suc (map_long f xs)

module _ (at : ℕ → ℕ) where
  abbrev pub named : VType → VType
  named (Uninit q) = Uninit (at q)
  named t = t

  abbrev pub all_named : List VType → List VType
  all_named ts = map named ts

  pub named_one : (t : VType) → IsOneKind t → IsOneKind (named t)
  named_one (Uninit q) k = k
  named_one t k = k

  named_long : (t : VType) → named t ≡ Long → t ≡ Long
  named_long (Uninit q) e = cc
  named_long t e = e

  pub named_within : (P : Program) (t u : VType) → IsWithin P t u → IsWithin P (named t) (named u)
  named_within P (Uninit p) (Uninit q) h = let s : p ≡ q = grind (arith, nat_tests) in let e : at p ≡ at q = ap at s in grind (arith, nat_tests)
  named_within P (Uninit p) u h = by u h
    where
      by : (u : VType) → IsWithin P (Uninit p) u → IsWithin P (Uninit (at p)) (named u)
      by (Uninit q) h = let s : p ≡ q = grind (arith, nat_tests) in let e : at p ≡ at q = ap at s in grind (arith, nat_tests)
      by Top h = refl
      by u h = cc
  named_within P t (Uninit q) h = cc
  named_within P t u h = h

  pub all_within : (P : Program) (ts us : List VType) → AreWithin P ts us → AreWithin P (all_named ts) (all_named us)
  all_within P [] [] w = tt
  all_within P (t ∷ ts) (u ∷ us) w = (named_within P t u w.0, all_within P ts us w.1)
  all_within P [] (u ∷ us) w = absurd w
  all_within P (t ∷ ts) [] w = absurd w

  pub all_locals : (b : Bool) (ts : List VType) → IsLocalsAfter b ts → IsLocalsAfter b (all_named ts)
  all_locals false [] h = tt
  all_locals true [] h = absurd h
  all_locals false (Int ∷ ts) h = all_locals false ts h
  all_locals false (Null ∷ ts) h = all_locals false ts h
  all_locals false (Ref n ∷ ts) h = all_locals false ts h
  all_locals false (Uninit p ∷ ts) h = all_locals false ts h
  all_locals false (UninitThis ∷ ts) h = all_locals false ts h
  all_locals false (Top ∷ ts) h = all_locals false ts h
  all_locals false (Long ∷ ts) h = all_locals true ts h
  all_locals true (Second ∷ ts) h = all_locals false ts h
  all_locals b (t ∷ ts) h = absurd h

  pub all_stack : (b : Bool) (ts : List VType) → IsStackUnder b ts → IsStackUnder b (all_named ts)
  all_stack false [] h = tt
  all_stack true [] h = absurd h
  all_stack false (Int ∷ ts) h = all_stack false ts h
  all_stack false (Null ∷ ts) h = all_stack false ts h
  all_stack false (Ref n ∷ ts) h = all_stack false ts h
  all_stack false (Uninit p ∷ ts) h = all_stack false ts h
  all_stack false (UninitThis ∷ ts) h = all_stack false ts h
  all_stack false (Second ∷ ts) h = all_stack true ts h
  all_stack true (Long ∷ ts) h = all_stack false ts h
  all_stack b (t ∷ ts) h = absurd h

  -- ---- freed places

  pub all_freed : (i : ℕ) (ls : List VType) → all_named (freed i ls) ≡ freed i (all_named ls)
  all_freed i ls = by (slice_get ls i) refl
    where
      by : (o : Option VType) → slice_get ls i ≡ o → all_named (freed_by o i ls) ≡ freed i (all_named ls)
      by None e = sym (ap (λ (o : Option VType). freed_by o i (all_named ls)) (map_none named ls i e))
      by (Some Second) e = map_set named ls (i - 1) Top ∙ sym (ap (λ (o : Option VType). freed_by o i (all_named ls)) (get_map named ls i Second e))
      by (Some Long) e = map_set named ls (i + 1) Top ∙ sym (ap (λ (o : Option VType). freed_by o i (all_named ls)) (get_map named ls i Long e))
      by (Some Int) e = sym (ap (λ (o : Option VType). freed_by o i (all_named ls)) (get_map named ls i Int e))
      by (Some Null) e = sym (ap (λ (o : Option VType). freed_by o i (all_named ls)) (get_map named ls i Null e))
      by (Some (Ref n)) e = sym (ap (λ (o : Option VType). freed_by o i (all_named ls)) (get_map named ls i (Ref n) e))
      by (Some (Uninit q)) e = sym (ap (λ (o : Option VType). freed_by o i (all_named ls)) (get_map named ls i (Uninit q) e))
      by (Some UninitThis) e = sym (ap (λ (o : Option VType). freed_by o i (all_named ls)) (get_map named ls i UninitThis e))
      by (Some Top) e = sym (ap (λ (o : Option VType). freed_by o i (all_named ls)) (get_map named ls i Top e))

  -- ---- types that keep their names

  abbrev pub IsFixed : VType → Type 0
  IsFixed t = named t ≡ t

  abbrev pub AreFixed : List VType → Type 0
  AreFixed ts = AllByRecursion IsFixed ts

  pub fixed_all : (ts : List VType) → AreFixed ts → all_named ts ≡ ts
  fixed_all [] f = refl
  fixed_all (t ∷ ts) f = ap (λ (u : VType). u ∷ all_named ts) f.0 ∙ ap (λ (us : List VType). t ∷ us) (fixed_all ts f.1)

  pub fixed_before : (ts s : List VType) → AreFixed ts → all_named (ts ++ s) ≡ ts ++ all_named s
  fixed_before ts s f = map_append named ts s ∙ ap (λ (us : List VType). us ++ all_named s) (fixed_all ts f)

  fixed_onto : (ts s : List VType) → AreFixed ts → AreFixed s → AreFixed (reverse_aux ts s)
  fixed_onto [] s f g = g
  fixed_onto (t ∷ ts) s f g = fixed_onto ts (t ∷ s) f.1 (f.0, g)

  pub fixed_reverse : (ts : List VType) → AreFixed ts → AreFixed (reverse ts)
  fixed_reverse ts f = fixed_onto ts [] f tt

  pub fixed_parameters : (b : Bool) (ts : List VType) → AreParametersAfter b ts → AreFixed ts
  fixed_parameters false [] h = tt
  fixed_parameters true [] h = absurd h
  fixed_parameters false (Int ∷ ts) h = (refl, fixed_parameters false ts h)
  fixed_parameters false (Ref n ∷ ts) h = (refl, fixed_parameters false ts h)
  fixed_parameters false (Long ∷ ts) h = (refl, fixed_parameters true ts h)
  fixed_parameters true (Second ∷ ts) h = (refl, fixed_parameters false ts h)
  fixed_parameters false (t ∷ ts) h = absurd h
  fixed_parameters true (t ∷ ts) h = absurd h

  pub fixed_result : (o : Option VType) → IsResult o → AreFixed (result_types o)
  fixed_result None h = tt
  fixed_result (Some Int) h = (refl, tt)
  fixed_result (Some Long) h = (refl, (refl, tt))
  fixed_result (Some (Ref n)) h = (refl, tt)
  fixed_result (Some t) h = absurd h

  pub fixed_word : (w : WordType) (c : List ℕ) → AreFixed (stack_types (record { word = w; class = c }))
  fixed_word word.Boolean c = (refl, tt)
  fixed_word word.Byte c = (refl, tt)
  fixed_word word.Char c = (refl, tt)
  fixed_word word.Short c = (refl, tt)
  fixed_word word.Int c = (refl, tt)
  fixed_word word.Long c = (refl, (refl, tt))
  fixed_word word.Reference c = (refl, tt)

  pub fixed_copies : (n : ℕ) (c : List ℕ) → AreFixed (replicate n (Ref c))
  fixed_copies zero c = tt
  fixed_copies (suc n) c = (refl, fixed_copies n c)

  -- ---- objects that are built

  -- an instruction whose block is no other's
  abbrev pub IsAlone : ℕ → Type 0
  IsAlone q = (r : ℕ) → at r ≡ at q → r ≡ q

  alone_test : (q r : ℕ) → IsAlone q → nat_eq (at q) (at r) ≡ nat_eq q r
  alone_test q r alone = by (nat_eq q r) refl
    where
      by : (b : Bool) → nat_eq q r ≡ b → nat_eq (at q) (at r) ≡ b
      by true e = let s : q ≡ r = grind (arith, nat_tests) in let z : at q ≡ at r = ap at s in grind (arith, nat_tests)
      by false e = go (nat_eq (at q) (at r)) refl
        where
          go : (b : Bool) → nat_eq (at q) (at r) ≡ b → b ≡ false
          go false f = refl
          go true f = absurd (let z : at r ≡ at q = grind (arith, nat_tests) in let s = alone r z in let no : q ≢ r = grind (arith, nat_tests) in no (sym s))

  uninit_named : (q : ℕ) → IsAlone q → (t : VType) → is_uninit (Uninit (at q)) (named t) ≡ is_uninit (Uninit q) t
  uninit_named q alone (Uninit r) = alone_test q r alone
  uninit_named q alone t = refl

  pub any_uninit : (q : ℕ) → IsAlone q → (ts : List VType) → list_any (is_uninit (Uninit (at q))) (all_named ts) ≡ list_any (is_uninit (Uninit q)) ts
  any_uninit q alone [] = refl
  any_uninit q alone (t ∷ ts) = let e = uninit_named q alone t in let f = any_uninit q alone ts in rw (e, f) refl

  become_named : (u v : VType) (t x : VType) → IsFixed t → is_uninit v (named x) ≡ is_uninit u x → become v t (named x) ≡ named (become u t x)
  become_named u v t x fixed e = ap (λ (b : Bool). if b then t else named x) e ∙ by (is_uninit u x)
    where
      by : (b : Bool) → (if b then t else named x) ≡ named (if b then t else x)
      by true = sym fixed
      by false = refl

  pub all_become : (u v : VType) (t : VType) → IsFixed t → ((x : VType) → is_uninit v (named x) ≡ is_uninit u x) → (ts : List VType) → map (become v t) (all_named ts) ≡ all_named (map (become u t) ts)
  all_become u v t fixed f [] = refl
  all_become u v t fixed f (x ∷ ts) = let a = become_named u v t x fixed (f x) in let b = all_become u v t fixed f ts in ap (λ (y : VType). y ∷ map (become v t) (all_named ts)) a ∙ ap (λ (l : List VType). named (become u t x) ∷ l) b

  pub uninit_tests : (q : ℕ) → IsAlone q → (x : VType) → is_uninit (Uninit (at q)) (named x) ≡ is_uninit (Uninit q) x
  uninit_tests q alone x = uninit_named q alone x

  pub this_tests : (x : VType) → is_uninit UninitThis (named x) ≡ is_uninit UninitThis x
  this_tests (Uninit r) = refl
  this_tests x = refl

-- ---- the copies of a list in which one type stands for another

-- what stands for an object that isn't built
abbrev pub IsBuilt : VType → Type 0
IsBuilt Top = Unit {0}
IsBuilt (Ref n) = Unit {0}
IsBuilt t = ⊥

abbrev pub IsUnbuilt : VType → Type 0
IsUnbuilt (Uninit q) = Unit {0}
IsUnbuilt UninitThis = Unit {0}
IsUnbuilt t = ⊥

module _ (u t : VType) (unbuilt : IsUnbuilt u) (built : IsBuilt t) where
  abbrev f : VType → VType
  f = become u t

  never_one : (u x : VType) → IsUnbuilt u → (IsUnbuilt x → ⊥) → is_uninit u x ≡ false
  never_one (Uninit q) (Uninit r) a b = absurd (b tt)
  never_one UninitThis UninitThis a b = absurd (b tt)
  never_one (Uninit q) x a b = refl
  never_one UninitThis x a b = refl
  never_one u x a b = absurd a

  f_other : (x : VType) → (IsUnbuilt x → ⊥) → f x ≡ x
  f_other x b = let e = never_one u x unbuilt b in rw e refl

  f_either : (x : VType) (A : Type 0) → (f x ≡ x → A) → (f x ≡ t → A) → A
  f_either x A g h = by (is_uninit u x) (λ (b : Bool). if b then t else x) refl
    where
      by : (b : Bool) (c : Bool → VType) → f x ≡ (if b then t else x) → A
      by true c e = h e
      by false c e = g e

  no_long : t ≢ Long
  no_long e = subst IsBuilt e built

  no_second : t ≢ Second
  no_second e = subst IsBuilt e built

  before_other : (x : VType) (p : ℕ) → x ≢ Long → before x p ≡ x
  before_other Long p ne = absurd (ne refl)
  before_other x p ne = refl

  after_other : (x : VType) (ls : List VType) → x ≢ Second → after (x ∷ ls) ≡ x ∷ ls
  after_other Second ls ne = absurd (ne refl)
  after_other x ls ne = refl

  not_kind : (x y : VType) → x ≢ y → t ≢ y → f x ≢ y
  not_kind x y ne nt e = f_either x ⊥ (λ s. ne (sym s ∙ e)) (λ s. nt (sym s ∙ e))

  before_f : (x : VType) (p : ℕ) → before (f x) p ≡ f (before x p)
  before_f Long zero = ap (λ (y : VType). before y 0) (f_other Long (λ a. a)) ∙ sym (f_other Top (λ a. a))
  before_f Long (suc p) = ap (λ (y : VType). before y (suc p)) (f_other Long (λ a. a)) ∙ sym (f_other Long (λ a. a))
  before_f Int p = before_other (f Int) p (not_kind Int Long (λ d. cc) no_long)
  before_f Second p = before_other (f Second) p (not_kind Second Long (λ d. cc) no_long)
  before_f Null p = before_other (f Null) p (not_kind Null Long (λ d. cc) no_long)
  before_f (Ref n) p = before_other (f (Ref n)) p (not_kind (Ref n) Long (λ d. cc) no_long)
  before_f (Uninit q) p = before_other (f (Uninit q)) p (not_kind (Uninit q) Long (λ d. cc) no_long)
  before_f UninitThis p = before_other (f UninitThis) p (not_kind UninitThis Long (λ d. cc) no_long)
  before_f Top p = before_other (f Top) p (not_kind Top Long (λ d. cc) no_long)

  after_f : (ls : List VType) → after (map f ls) ≡ map f (after ls)
  after_f [] = refl
  after_f (Second ∷ ls) = ap (λ (y : VType). after (y ∷ map f ls)) (f_other Second (λ a. a)) ∙ ap (λ (y : VType). y ∷ map f ls) (sym (f_other Top (λ a. a)))
  after_f (Int ∷ ls) = after_other (f Int) (map f ls) (not_kind Int Second (λ d. cc) no_second)
  after_f (Long ∷ ls) = after_other (f Long) (map f ls) (not_kind Long Second (λ d. cc) no_second)
  after_f (Null ∷ ls) = after_other (f Null) (map f ls) (not_kind Null Second (λ d. cc) no_second)
  after_f (Ref n ∷ ls) = after_other (f (Ref n)) (map f ls) (not_kind (Ref n) Second (λ d. cc) no_second)
  after_f (Uninit q ∷ ls) = after_other (f (Uninit q)) (map f ls) (not_kind (Uninit q) Second (λ d. cc) no_second)
  after_f (UninitThis ∷ ls) = after_other (f UninitThis) (map f ls) (not_kind UninitThis Second (λ d. cc) no_second)
  after_f (Top ∷ ls) = after_other (f Top) (map f ls) (not_kind Top Second (λ d. cc) no_second)

  copied_f : (p : ℕ) (ls : List VType) → copied p (map f ls) ≡ map f (copied p ls)
  copied_f zero ls = ap (λ (l : List VType). context ∷ l) (after_f ls) ∙ ap (λ (y : VType). y ∷ map f (after ls)) (sym (f_other context (λ a. a)))
  copied_f (suc p) [] = refl
  copied_f (suc p) (x ∷ ls) = ap (λ (y : VType). y ∷ copied p (map f ls)) (before_f x p) ∙ ap (λ (l : List VType). f (before x p) ∷ l) (copied_f p ls)

  abbrev long_of : Option VType → Option VType
  long_of None = None
  long_of (Some x) = Some (f x)

  get_f : (ls : List VType) (i : ℕ) → slice_get (map f ls) i ≡ long_of (slice_get ls i)
  get_f [] i = refl
  get_f (x ∷ ls) zero = refl
  get_f (x ∷ ls) (suc i) = get_f ls i

  not_long : (y : VType) → y ≢ Long → is_long (Some y) ≡ false
  not_long Long ne = absurd (ne refl)
  not_long y ne = refl

  is_long_f : (o : Option VType) → is_long (long_of o) ≡ is_long o
  is_long_f None = refl
  is_long_f (Some Long) = ap (λ (y : VType). is_long (Some y)) (f_other Long (λ a. a))
  is_long_f (Some Int) = not_long (f Int) (not_kind Int Long (λ d. cc) no_long)
  is_long_f (Some Second) = not_long (f Second) (not_kind Second Long (λ d. cc) no_long)
  is_long_f (Some Null) = not_long (f Null) (not_kind Null Long (λ d. cc) no_long)
  is_long_f (Some (Ref n)) = not_long (f (Ref n)) (not_kind (Ref n) Long (λ d. cc) no_long)
  is_long_f (Some (Uninit q)) = not_long (f (Uninit q)) (not_kind (Uninit q) Long (λ d. cc) no_long)
  is_long_f (Some UninitThis) = not_long (f UninitThis) (not_kind UninitThis Long (λ d. cc) no_long)
  is_long_f (Some Top) = not_long (f Top) (not_kind Top Long (λ d. cc) no_long)

  parted_f : (p : ℕ) (ls : List VType) → is_parted p (map f ls) ≡ is_parted p ls
  parted_f zero ls = refl
  parted_f (suc p) ls = ap is_long (get_f ls p) ∙ is_long_f (slice_get ls p)

  extra_f : (s b : Bool) → map f (extra s b) ≡ extra s b
  extra_f false b = refl
  extra_f true true = ap (λ (y : VType). y ∷ f Second ∷ []) (f_other Long (λ a. a)) ∙ ap (λ (y : VType). Long ∷ y ∷ []) (f_other Second (λ a. a))
  extra_f true false = ap (λ (y : VType). y ∷ f Top ∷ []) (f_other Top (λ a. a)) ∙ ap (λ (y : VType). Top ∷ y ∷ []) (f_other Top (λ a. a))

  pub copies_become : (s : Bool) (p : ℕ) (ls : List VType) → map f (with_copies s p ls) ≡ with_copies s p (map f ls)
  copies_become s p ls =
      map_append f (copied p ls) (extra s (is_parted p ls)) ∙ ap (λ (l : List VType). l ++ map f (extra s (is_parted p ls))) (sym (copied_f p ls))
      ∙ ap (λ (l : List VType). copied p (map f ls) ++ l) (extra_f s (is_parted p ls)) ∙ ap (λ (b : Bool). copied p (map f ls) ++ extra s b) (sym (parted_f p ls))
