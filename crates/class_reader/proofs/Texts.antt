-- Numbers of texts: the first place of each.
use Rattle.std.proofs.Common.{◌≡◌, ℕ, zero, suc, ◌+◌, ◌<◌, Bool, true, false, cond, not, List, [], ◌∷◌, ◌++◌, length, get_or, take, Option, Some, None, refl, sym, ap, ◌∙◌, arith}
use Rattle.std.specs.Prelude.{option_map, option_and_then, unwrap_or, bytes_eq, map, slice_get, slice_index}
use Rattle.jmodel.specs.format.Pool.{text_in, utf8}
use Rattle.std.specs.List.{position_or_len}
use Rattle.std.proofs.lemmas.List.{take_more, length-take-le}
use Rattle.jmodel.specs.declared.class_file.Constant.{Constant}
use Rattle.std.proofs.lemmas.Slice.Eq.{bytes_eq-Decides}
use Rattle.jmodel.specs.declared.class_file.Constant.TheVariants.{Utf8, Integer, Float, Long, Double, Class, Text, Field, Method, InterfaceMethod, NameAndType, Second}
use Rattle.class_reader.specs.Numbers.{is_text, number_in, numbers_of, number_for, number_at, or_at}

-- a position, by recursion
abbrev pub place_of : {X : Type 0} → (X → Bool) → List X → Option ℕ
place_of p [] = None
place_of p (x ∷ xs) = cond (p x) (Some 0) (option_map suc (place_of p xs))

later : (o : Option ℕ) (b : Bool) (k : ℕ) → option_map suc (or_at o b k) ≡ or_at (option_map suc o) b (suc k)
later (Some n) b k = refl
later None true k = refl
later None false k = refl

pub place_push : {X : Type 0} (p : X → Bool) (xs : List X) (x : X) → place_of p (xs ++ x ∷ []) ≡ or_at (place_of p xs) (p x) (length xs)
place_push p [] x = refl
place_push p (y ∷ ys) x =
    elim (p y) as (λ b. cond b (Some 0) (option_map suc (place_of p (ys ++ x ∷ []))) ≡ or_at (cond b (Some 0) (option_map suc (place_of p ys))) (p x) (suc (length ys))) [
      | true ↦ refl
      | false ↦ ap (option_map suc) (place_push p ys x) ∙ later (place_of p ys) (p x) (length ys)
    ]

-- the place of a text that stands at i, among the entries up to it
pub place_here : {X : Type 0} (p : X → Bool) (xs : List X) (i : ℕ) (d : X) → i < length xs → p (get_or xs i d) ≡ true → unwrap_or (place_of p (take i xs)) i ≡ position_or_len p xs
place_here p [] i d lt h = absurd (omega arith)
place_here p (x ∷ xs) zero d lt h = rw h refl
place_here p (x ∷ xs) (suc i) d lt h =
    elim (p x) as (λ b. unwrap_or (cond b (Some 0) (option_map suc (place_of p (take i xs)))) (suc i) ≡ cond (not b) (1 + position_or_len p xs) 0) [
      | true ↦ refl
      | false ↦ moved (place_of p (take i xs)) i ∙ ap suc (place_here p xs i d (omega arith) h) ∙ omega arith
    ] where
      moved : (o : Option ℕ) (k : ℕ) → unwrap_or (option_map suc o) (suc k) ≡ suc (unwrap_or o k)
      moved (Some n) k = refl
      moved None k = refl

pub same_bytes : (a b : List ℕ) → bytes_eq a b ≡ true → a ≡ b
same_bytes a b h = (bytes_eq-Decides a b).0 h

pub equal_bytes : (a : List ℕ) → bytes_eq a a ≡ true
equal_bytes a = (bytes_eq-Decides a a).1 refl

-- what is known after a text has the next number
pub recast : (f : List ℕ → Option ℕ) (text q : List ℕ) (next : ℕ) → cond (bytes_eq text q) (Some (unwrap_or (f text) next)) (f q) ≡ or_at (f q) (bytes_eq text q) next
recast f text q next = by_test (bytes_eq text q) refl where
  by_value : (o : Option ℕ) → Some (unwrap_or o next) ≡ or_at o true next
  by_value (Some n) = refl
  by_value None = refl

  unknown : (o : Option ℕ) → o ≡ or_at o false next
  unknown (Some n) = refl
  unknown None = refl

  by_test : (b : Bool) → bytes_eq text q ≡ b → cond b (Some (unwrap_or (f text) next)) (f q) ≡ or_at (f q) b next
  by_test true e = ap (λ t. Some (unwrap_or (f t) next)) (same_bytes text q e) ∙ by_value (f q)
  by_test false e = unknown (f q)

-- ---- the loop over the entries

module _ (pool : List Constant) (i : ℕ) (x : Constant) (below : i < length pool) (is : x ≡ get_or pool i x) (known : List ℕ → Option ℕ) (so_far : (q : List ℕ) → known q ≡ place_of (is_text q) (take i pool)) where
  pub known_on : (next : List ℕ → Option ℕ) → ((q : List ℕ) → next q ≡ or_at (known q) (is_text q x) i) → (q : List ℕ) → next q ≡ place_of (is_text q) (take (i + 1) pool)
  known_on next h q =
      let len : length (take i pool) ≡ i = length-take-le i pool (omega arith) in
      let more : take (i + 1) pool ≡ take i pool ++ x ∷ [] = take_more pool i x below ∙ ap (λ (y : Constant). take i pool ++ y ∷ []) (sym is) in
      h q ∙ ap (λ o. or_at o (is_text q x) i) (so_far q) ∙ sym (ap (place_of (is_text q)) more ∙ place_push (is_text q) (take i pool) x ∙ ap (or_at (place_of (is_text q) (take i pool)) (is_text q x)) len)

  pub number_is : number_for known x i ≡ number_in pool x
  number_is = by_entry x is where
    by_entry : (c : Constant) → c ≡ get_or pool i x → number_for known c i ≡ number_in pool c
    by_entry (Utf8 t) e = ap (λ o. unwrap_or o i) (so_far t) ∙ place_here (is_text t) pool i x below (rw (← e) (equal_bytes t))
    by_entry c e = refl

-- ---- equal numbers

named_entry : (t : List ℕ) (c : Constant) → text_in c ≡ Some t → is_text t c ≡ true
named_entry t (Utf8 b) h = let e : b ≡ t = cc in ap (λ (x : List ℕ). bytes_eq x t) e ∙ equal_bytes t
named_entry t (Integer n) h = absurd cc
named_entry t (Float n) h = absurd cc
named_entry t (Long n) h = absurd cc
named_entry t (Double n) h = absurd cc
named_entry t (Class n) h = absurd cc
named_entry t (Text n) h = absurd cc
named_entry t (Field a b) h = absurd cc
named_entry t (Method a b) h = absurd cc
named_entry t (InterfaceMethod a b) h = absurd cc
named_entry t (NameAndType a b) h = absurd cc
named_entry t Second h = absurd cc

number_entry : (pool : List Constant) (t : List ℕ) (c : Constant) → text_in c ≡ Some t → number_in pool c ≡ position_or_len (is_text t) pool
number_entry pool t (Utf8 b) h = let e : b ≡ t = cc in ap (λ (x : List ℕ). position_or_len (is_text x) pool) e
number_entry pool t (Integer n) h = absurd cc
number_entry pool t (Float n) h = absurd cc
number_entry pool t (Long n) h = absurd cc
number_entry pool t (Double n) h = absurd cc
number_entry pool t (Class n) h = absurd cc
number_entry pool t (Text n) h = absurd cc
number_entry pool t (Field a b) h = absurd cc
number_entry pool t (Method a b) h = absurd cc
number_entry pool t (InterfaceMethod a b) h = absurd cc
number_entry pool t (NameAndType a b) h = absurd cc
number_entry pool t Second h = absurd cc

number_in_list : (pool xs : List Constant) (i : ℕ) (t : List ℕ) → option_and_then text_in (slice_get xs i) ≡ Some t → slice_index (map (number_in pool) xs) i ≡ position_or_len (is_text t) pool
number_in_list pool [] i t h = absurd cc
number_in_list pool (c ∷ cs) zero t h = number_entry pool t c h
number_in_list pool (c ∷ cs) (suc i) t h = number_in_list pool cs i t h

-- the number of an index that has a text
pub number_named : (pool : List Constant) (i : ℕ) (t : List ℕ) → utf8 pool i ≡ Some t → number_at (numbers_of pool) i ≡ position_or_len (is_text t) pool
number_named pool zero t h = absurd cc
number_named pool (suc i) t h = number_in_list pool pool i t h

-- the first entry with a text has it
pub record HasFirst (t : List ℕ) (xs : List Constant) : Type 0 where
  pub within : position_or_len (is_text t) xs < length xs
  pub first : Constant
  pub stands : slice_get xs (position_or_len (is_text t) xs) ≡ Some first
  pub is : is_text t first ≡ true

first_of : (t : List ℕ) (c : Constant) (cs : List Constant) (b : Bool) → is_text t c ≡ b → (b ≡ false → HasFirst t cs) → HasFirst t (c ∷ cs)
first_of t c cs true e others = record { within = rw e (omega arith); first = c; stands = rw e refl; is = e }
first_of t c cs false e others =
    let o = others refl in
    let one : position_or_len (is_text t) (c ∷ cs) ≡ suc (position_or_len (is_text t) cs) = rw e (omega arith) in
    record { within = rw one (omega (arith, o.within)); first = o.first; stands = rw one o.stands; is = o.is }

pub has_first : (t : List ℕ) (xs : List Constant) (i : ℕ) → option_and_then text_in (slice_get xs i) ≡ Some t → HasFirst t xs
has_first t [] i h = absurd cc
has_first t (c ∷ cs) zero h = first_of t c cs true (named_entry t c h) (λ e. absurd cc)
has_first t (c ∷ cs) (suc i) h = first_of t c cs (is_text t c) refl (λ e. has_first t cs i h)

same_text : (s t : List ℕ) (c : Constant) → is_text s c ≡ true → is_text t c ≡ true → s ≡ t
same_text s t (Utf8 b) p q = sym (same_bytes b s p) ∙ same_bytes b t q
same_text s t (Integer n) p q = absurd cc
same_text s t (Float n) p q = absurd cc
same_text s t (Long n) p q = absurd cc
same_text s t (Double n) p q = absurd cc
same_text s t (Class n) p q = absurd cc
same_text s t (Text n) p q = absurd cc
same_text s t (Field a b) p q = absurd cc
same_text s t (Method a b) p q = absurd cc
same_text s t (InterfaceMethod a b) p q = absurd cc
same_text s t (NameAndType a b) p q = absurd cc
same_text s t Second p q = absurd cc

pub same_number : (xs : List Constant) (s t : List ℕ) → HasFirst s xs → HasFirst t xs → position_or_len (is_text s) xs ≡ position_or_len (is_text t) xs → s ≡ t
same_number xs s t p q e =
    let there : slice_get xs (position_or_len (is_text s) xs) ≡ Some q.first = rw e q.stands in
    let one : p.first ≡ q.first = cc (p.stands, there) in
    same_text s t p.first p.is (ap (is_text t) one ∙ q.is)
