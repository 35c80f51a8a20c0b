-- Where methods and blocks stand in a rewritten program.
use Rattle.std.proofs.Common.{◌≡◌, ℕ, ℤ, zero, suc, ◌+◌, ◌*◌, ◌<◌, ◌≤◌, List, [], ◌∷◌, ◌++◌, map, length, take, Option, Some, true, refl, sym, ap, ◌∙◌, subst, arith, append_assoc, length-append, None}
use Rattle.std.specs.Prelude.{slice_get}
use Rattle.std.specs.List.{flat_map}
use Rattle.std.proofs.lemmas.List.{append-nil}
use Rattle.std.proofs.lemmas.List.Sums.{sum_by-cons}
use Rattle.objects.specs.declared.op.WordType.{WordType}
use Rattle.objects.specs.declared.op.WordType.TheVariants as word
use Rattle.objects.specs.declared.op.Op.{Op}
use Rattle.objects.specs.declared.op.Op.TheVariants.{Throw, LoadElement}
use Rattle.objects.specs.semantics.Program.{Field, Method, Program, is_code, has_code}
use Rattle.objects.specs.typing.Typing.{Types, Table, types_at}
use Rattle.objects.specs.rewriting.Rewriting.{getter, setter, duplicate, element_getter, element_setter, helper_place, getter_method, setter_method, element_getter_method, element_setter_method, helper_methods, accessors, Typed, typed_from, after_load, array_under, block, block_of, block_len, block_len_of, block_at, blocks, duplicate_code, duplicate_method, abstracted, duplicates, wrapper_method, old_method, next_id, old_methods, rewritten}

-- items of lists
pub get_back : {A : Type 0} (xs ys : List A) (i : ℕ) → slice_get (xs ++ ys) (length xs + i) ≡ slice_get ys i
get_back [] ys i = let e : 0 + i ≡ i = omega arith in ap (slice_get ys) e
get_back (x ∷ xs) ys i = let e : length (x ∷ xs) + i ≡ suc (length xs + i) = omega arith in ap (slice_get (x ∷ (xs ++ ys))) e ∙ get_back xs ys i

pub get_front : {A : Type 0} (xs ys : List A) (i : ℕ) (x : A) → slice_get xs i ≡ Some x → slice_get (xs ++ ys) i ≡ Some x
get_front [] ys i x h = cc
get_front (a ∷ xs) ys zero x h = h
get_front (a ∷ xs) ys (suc i) x h = get_front xs ys i x h

pub get_map : {A B : Type 0} (f : A → B) (xs : List A) (i : ℕ) (x : A) → slice_get xs i ≡ Some x → slice_get (map f xs) i ≡ Some (f x)
get_map f [] i x h = cc
get_map f (a ∷ xs) zero x h = cc
get_map f (a ∷ xs) (suc i) x h = get_map f xs i x h

-- the old methods
pub old_at : (P : Program) (id m i : ℕ) (ks : List Method) (k : Method) → slice_get ks i ≡ Some k
    → (j : ℕ) × (slice_get (old_methods P id m ks) i ≡ Some (old_method P j (m + i) k.retries k))
old_at P id m i [] k h = cc
old_at P id m zero (x ∷ ks) k h = let e : x ≡ k = cc in let z : m + 0 ≡ m = omega arith in (id, rw (e, z) refl)
old_at P id m (suc i) (x ∷ ks) k h =
    let z : m + suc i ≡ suc m + i = omega arith in
    rw z (old_at P (next_id x.retries id) (suc m) i ks k h)

pub old_length : (P : Program) (id m : ℕ) (ks : List Method) → length (old_methods P id m ks) ≡ length ks
old_length P id m [] = refl
old_length P id m (x ∷ ks) = ap suc (old_length P (next_id x.retries id) (suc m) ks)

-- the accessors
pub accessors_length : (n : ℕ) (fs : List Field) → length (accessors n fs) ≡ 2 * length fs
accessors_length n [] = refl
accessors_length n (f ∷ fs) = let e = accessors_length (suc n) fs in omega arith

accessor_at : (n i : ℕ) (fs : List Field) (f : Field) → slice_get fs i ≡ Some f
    → (slice_get (accessors n fs) (2 * i) ≡ Some (getter_method (n + i) f)) × (slice_get (accessors n fs) (2 * i + 1) ≡ Some (setter_method f))
accessor_at n i [] f h = cc
accessor_at n zero (x ∷ fs) f h = let e : x ≡ f = cc in let z : n + 0 ≡ n = omega arith in rw (e, z) (refl, refl)
accessor_at n (suc i) (x ∷ fs) f h =
    let a : 2 * suc i ≡ suc (suc (2 * i)) = omega arith in
    let b : 2 * suc i + 1 ≡ suc (suc (2 * i + 1)) = omega arith in
    let z : n + suc i ≡ suc n + i = omega arith in
    let t = accessor_at (suc n) i fs f h in
    (rw (a, z) t.0, rw b t.1)

-- the duplicates, by their tables
pub duplicates_length : (P : Program) (ks : List Method) (Ts : List Table) → length (duplicates P ks Ts) ≡ length ks
duplicates_length P [] Ts = refl
duplicates_length P (k ∷ ks) [] = ap suc (duplicates_length P ks [])
duplicates_length P (k ∷ ks) (T ∷ Ts) = ap suc (duplicates_length P ks Ts)

duplicate_at : (P : Program) (i : ℕ) (ks : List Method) (Ts : List Table) (k : Method) (T : Table) → slice_get ks i ≡ Some k → slice_get Ts i ≡ Some T → slice_get (duplicates P ks Ts) i ≡ Some (duplicate_method P k T)
duplicate_at P i [] Ts k T h t = cc
duplicate_at P i (x ∷ ks) [] k T h t = cc
duplicate_at P zero (x ∷ ks) (U ∷ Ts) k T h t = let e : x ≡ k = cc in let d : U ≡ T = cc in rw (e, d) refl
duplicate_at P (suc i) (x ∷ ks) (U ∷ Ts) k T h t = duplicate_at P i ks Ts k T h t

-- the helper's methods
helper_at : (t : WordType) → (slice_get helper_methods (2 * helper_place t) ≡ Some (element_getter_method t)) × (slice_get helper_methods (2 * helper_place t + 1) ≡ Some (element_setter_method t))
helper_at word.Byte = (refl, refl)
helper_at word.Boolean = (refl, refl)
helper_at word.Char = (refl, refl)
helper_at word.Short = (refl, refl)
helper_at word.Int = (refl, refl)
helper_at word.Long = (refl, refl)
helper_at word.Reference = (refl, refl)

-- what stands in a rewritten program
pub record Rewrites (P : Program) (Ts : List Table) (Q : Program) : Type 0 where
  pub types : Q.types ≡ P.types
  pub texts : Q.texts ≡ P.texts
  pub fields : Q.fields ≡ P.fields
  pub wrapper : (m : ℕ) (k : Method) (n : ℤ) → slice_get P.methods m ≡ Some k → k.retries ≡ Some n → (id : ℕ) × (slice_get Q.methods m ≡ Some (wrapper_method P id m n k))
  pub getters : (i : ℕ) (f : Field) → slice_get P.fields i ≡ Some f → slice_get Q.methods (getter P i) ≡ Some (getter_method i f)
  pub setters : (i : ℕ) (f : Field) → slice_get P.fields i ≡ Some f → slice_get Q.methods (setter P i) ≡ Some (setter_method f)
  pub duplicates_are : (m : ℕ) (k : Method) (T : Table) → slice_get P.methods m ≡ Some k → slice_get Ts m ≡ Some T → slice_get Q.methods (duplicate P m) ≡ Some (duplicate_method P k T)
  pub element_getters : (t : WordType) → slice_get Q.methods (element_getter P t) ≡ Some (element_getter_method t)
  pub element_setters : (t : WordType) → slice_get Q.methods (element_setter P t) ≡ Some (element_setter_method t)

module _ (P : Program) (Ts : List Table) where
  abbrev olds : List Method
  olds = old_methods P 0 0 P.methods

  abbrev news : List Method
  news = accessors 0 P.fields

  abbrev copies : List Method
  copies = duplicates P P.methods Ts

  olds_length : length olds ≡ length P.methods
  olds_length = old_length P 0 0 P.methods

  is_wrapper : (m : ℕ) (k : Method) (n : ℤ) → slice_get P.methods m ≡ Some k → k.retries ≡ Some n → (id : ℕ) × (slice_get (rewritten P Ts).methods m ≡ Some (wrapper_method P id m n k))
  is_wrapper m k n h e =
      let t = old_at P 0 0 m P.methods k h in
      let z : 0 + m ≡ m = omega arith in
      let s : slice_get olds m ≡ Some (wrapper_method P t.0 m n k) = t.1 ∙ ap (λ (i : ℕ). Some (old_method P t.0 i k.retries k)) z ∙ ap (λ (o : Option ℤ). Some (old_method P t.0 m o k)) e in
      (t.0, get_front (olds ++ news ++ copies) _ m _ (get_front (olds ++ news) _ m _ (get_front olds news m _ s)))

  new_at : (i : ℕ) (k : Method) → slice_get news i ≡ Some k → slice_get (rewritten P Ts).methods (length P.methods + i) ≡ Some k
  new_at i k h =
      let e = ap (λ n. slice_get (olds ++ news) (n + i)) (sym olds_length) ∙ get_back olds news i ∙ h in
      get_front (olds ++ news ++ copies) _ _ k (get_front (olds ++ news) _ _ k e)

  is_getter : (i : ℕ) (f : Field) → slice_get P.fields i ≡ Some f → slice_get (rewritten P Ts).methods (getter P i) ≡ Some (getter_method i f)
  is_getter i f h =
      let z : 0 + i ≡ i = omega arith in
      new_at (2 * i) _ ((accessor_at 0 i P.fields f h).0 ∙ ap (λ n. Some (getter_method n f)) z)

  is_setter : (i : ℕ) (f : Field) → slice_get P.fields i ≡ Some f → slice_get (rewritten P Ts).methods (setter P i) ≡ Some (setter_method f)
  is_setter i f h =
      let a : setter P i ≡ length P.methods + (2 * i + 1) = omega arith in
      ap (slice_get (rewritten P Ts).methods) a ∙ new_at (2 * i + 1) _ (accessor_at 0 i P.fields f h).1

  before_copies : length (olds ++ news) ≡ length P.methods + 2 * length P.fields
  before_copies = let a = olds_length in let b = accessors_length 0 P.fields in omega (arith, length-append olds news, a, b)

  is_duplicate : (m : ℕ) (k : Method) (T : Table) → slice_get P.methods m ≡ Some k → slice_get Ts m ≡ Some T → slice_get (rewritten P Ts).methods (duplicate P m) ≡ Some (duplicate_method P k T)
  is_duplicate m k T h t =
      let e = before_copies in
      let a : duplicate P m ≡ length (olds ++ news) + m = omega (arith, e) in
      ap (slice_get (rewritten P Ts).methods) a ∙ get_front (olds ++ news ++ copies) helper_methods _ _ (get_back (olds ++ news) copies m ∙ duplicate_at P m P.methods Ts k T h t)

  helped_at : (i : ℕ) (k : Method) → slice_get helper_methods i ≡ Some k → slice_get (rewritten P Ts).methods (duplicate P (length P.methods) + i) ≡ Some k
  helped_at i k h =
      let e = before_copies in
      let b = duplicates_length P P.methods Ts in
      let a : duplicate P (length P.methods) + i ≡ length (olds ++ news ++ copies) + i = omega (arith, length-append (olds ++ news) copies, e, b) in
      ap (slice_get (rewritten P Ts).methods) a ∙ get_back (olds ++ news ++ copies) helper_methods i ∙ h

  is_element_getter : (t : WordType) → slice_get (rewritten P Ts).methods (element_getter P t) ≡ Some (element_getter_method t)
  is_element_getter t = helped_at (2 * helper_place t) _ (helper_at t).0

  is_element_setter : (t : WordType) → slice_get (rewritten P Ts).methods (element_setter P t) ≡ Some (element_setter_method t)
  is_element_setter t =
      let a : element_setter P t ≡ duplicate P (length P.methods) + (2 * helper_place t + 1) = omega arith in
      ap (slice_get (rewritten P Ts).methods) a ∙ helped_at (2 * helper_place t + 1) _ (helper_at t).1

  pub rewrites : Rewrites P Ts (rewritten P Ts)
  rewrites = record {
    types = refl;
    texts = refl;
    fields = refl;
    wrapper = is_wrapper;
    getters = is_getter;
    setters = is_setter;
    duplicates_are = is_duplicate;
    element_getters = is_element_getter;
    element_setters = is_element_setter;
  }

-- items that stand one after another
abbrev pub HasAt : {A : Type 0} → List A → ℕ → List A → Type 0
HasAt code a [] = Unit {0}
HasAt code a (o ∷ ops) = (slice_get code a ≡ Some o) × HasAt code (a + 1) ops

pub has_all : {A : Type 0} (pre ops post : List A) → HasAt (pre ++ (ops ++ post)) (length pre) ops
has_all pre [] post = tt
has_all pre (o ∷ ops) post =
    let n : length (pre ++ o ∷ []) ≡ length pre + 1 = omega (arith, length-append pre (o ∷ [])) in
    let z : length pre + 0 ≡ length pre = omega arith in
    let e : slice_get (pre ++ o ∷ (ops ++ post)) (length pre) ≡ Some o = ap (slice_get (pre ++ o ∷ (ops ++ post))) (sym z) ∙ get_back pre (o ∷ (ops ++ post)) 0 in
    let s : (pre ++ o ∷ []) ++ (ops ++ post) ≡ pre ++ o ∷ (ops ++ post) = append_assoc pre (o ∷ []) (ops ++ post) in
    (e, subst (λ k. HasAt (pre ++ o ∷ (ops ++ post)) k ops) n (subst (λ c. HasAt c (length (pre ++ o ∷ [])) ops) s (has_all (pre ++ o ∷ []) ops post)))

pub has_rest : {A : Type 0} (pre ops : List A) → HasAt (pre ++ ops) (length pre) ops
has_rest {A} pre ops = subst (λ (l : List A). HasAt (pre ++ l) (length pre) ops) (append-nil ops) (has_all pre ops [])

-- instructions with their types
pub typed_at : (n : ℕ) (T : Table) (ops : List Op) (pc : ℕ) (o : Op) → slice_get ops pc ≡ Some o → slice_get (typed_from n T ops) pc ≡ Some (record { op = o; types = types_at T (n + pc) })
typed_at n T [] pc o h = cc
typed_at n T (x ∷ ops) zero o h = let e : x ≡ o = cc in let z : n + 0 ≡ n = omega arith in rw (e, z) refl
typed_at n T (x ∷ ops) (suc pc) o h = let z : n + suc pc ≡ suc n + pc = omega arith in rw z (typed_at (suc n) T ops pc o h)

pub typed_none : (n : ℕ) (T : Table) (ops : List Op) (pc : ℕ) → slice_get ops pc ≡ None → slice_get (typed_from n T ops) pc ≡ None
typed_none n T [] pc h = refl
typed_none n T (x ∷ ops) zero h = cc
typed_none n T (x ∷ ops) (suc pc) h = typed_none (suc n) T ops pc h

pub typed_length : (n : ℕ) (T : Table) (ops : List Op) → length (typed_from n T ops) ≡ length ops
typed_length n T [] = refl
typed_length n T (x ∷ ops) = ap suc (typed_length (suc n) T ops)

pub at_cons : (x : Typed) (code : List Typed) (i : ℕ) → block_at (x ∷ code) (suc i) ≡ block_len x + block_at code i
at_cons x code i = sum_by-cons block_len x (take i code)

len_of : (P : Program) (p n : ℕ) (at : ℕ → ℕ) (h : Option Types) (o : Op) → length (block_of P p n at h o) ≡ block_len_of h o
len_of P p n at h (LoadElement t) = let e : suc (suc (length (after_load t (array_under 1 h)))) ≡ 2 + length (after_load t (array_under 1 h)) = omega arith in e
len_of P p n at h o = refl

one_len : (P : Program) (p n : ℕ) (at : ℕ → ℕ) (x : Typed) → length (block P p n at x) ≡ block_len x
one_len P p n at x = len_of P p n at x.types x.op

-- the code's blocks, cut at the block of an instruction
cut : (P : Program) (p n : ℕ) (at : ℕ → ℕ) (code : List Typed) (pc : ℕ) (o : Typed) → slice_get code pc ≡ Some o
    → (pre : List Op) × (post : List Op) × (flat_map (block P p n at) code ≡ pre ++ (block P p n at o ++ post)) × (length pre ≡ block_at code pc)
cut P p n at [] pc o h = cc
cut P p n at (x ∷ code) zero o h = let e : x ≡ o = cc in ([], flat_map (block P p n at) code, ap (λ y. block P p n at y ++ flat_map (block P p n at) code) e, refl)
cut P p n at (x ∷ code) (suc pc) o h =
    let a = cut P p n at code pc o h in
    (block P p n at x ++ a.0, a.1, ap (λ l. block P p n at x ++ l) a.2 ∙ sym (append_assoc (block P p n at x) a.0 _), omega (arith, length-append (block P p n at x) a.0, one_len P p n at x, a.3, at_cons x code pc))

-- a duplicate that has code
pub has_duplicate : (P : Program) (k : Method) (T : Table) → has_code (Some k) ≡ true → duplicate_method P k T ≡ duplicate_code P k (typed_from 0 T k.ops)
has_duplicate P k T h = go k.ops h
  where
    go : (os : List Op) → is_code os ≡ true → abstracted os (duplicate_code P k (typed_from 0 T k.ops)) ≡ duplicate_code P k (typed_from 0 T k.ops)
    go [] h = cc
    go (o ∷ os) h = refl

-- the block of an instruction stands in the duplicate
pub has_block : (P : Program) (k : Method) (xs : List Typed) (pc : ℕ) (o : Typed) → slice_get xs pc ≡ Some o → HasAt (duplicate_code P k xs).ops (block_at xs pc) (block P k.places k.locals (block_at xs) o)
has_block P k xs pc o h =
    let b = block P k.places k.locals (block_at xs) o in
    let a = cut P k.places k.locals (block_at xs) xs pc o h in
    let e : a.0 ++ (b ++ (a.1 ++ Throw ∷ [])) ≡ blocks P k.places k.locals xs ++ Throw ∷ [] =
    ap (λ l. a.0 ++ l) (sym (append_assoc b a.1 (Throw ∷ []))) ∙ sym (append_assoc a.0 (b ++ a.1) (Throw ∷ [])) ∙ ap (λ l. l ++ Throw ∷ []) (sym a.2) in
    subst (λ c. HasAt c (block_at xs pc) b) e (subst (λ n. HasAt (a.0 ++ (b ++ (a.1 ++ Throw ∷ []))) n b) a.3 (has_all a.0 b (a.1 ++ Throw ∷ [])))

-- the next block begins behind it
pub next_block : (code : List Typed) (pc : ℕ) (o : Typed) → slice_get code pc ≡ Some o → block_at code (pc + 1) ≡ block_at code pc + block_len o
next_block [] pc o h = cc
next_block (x ∷ code) zero o h = let e : x ≡ o = cc in rw e (omega arith)
next_block (x ∷ code) (suc pc) o h =
    let e : suc pc + 1 ≡ suc (pc + 1) = omega arith in
    let i = next_block code pc o h in
    ap (block_at (x ∷ code)) e ∙ (omega (arith, at_cons x code (pc + 1), at_cons x code pc))

len_some : (h : Option Types) (o : Op) → 1 ≤ block_len_of h o
len_some h (LoadElement t) = omega arith
len_some h o = omega arith

pub some_len : (x : Typed) → 1 ≤ block_len x
some_len x = len_some x.types x.op

pub blocks_grow : (code : List Typed) (i j : ℕ) → i < j → j ≤ length code → block_at code i < block_at code j
blocks_grow [] i j h le = absurd (omega arith)
blocks_grow (x ∷ code) i zero h le = absurd (omega arith)
blocks_grow (x ∷ code) zero (suc j) h le = let e = some_len x in omega (arith, at_cons x code j)
blocks_grow (x ∷ code) (suc i) (suc j) h le = let h' : i < j = omega arith in let l' : j ≤ length code = omega arith in let e = blocks_grow code i j h' l' in omega (arith, at_cons x code i, at_cons x code j)

pub blocks_most : (code : List Typed) (i j : ℕ) → i ≤ j → j ≤ length code → block_at code i ≤ block_at code j
blocks_most [] i j h le = let e : i ≡ j = omega arith in rw e (omega arith)
blocks_most (x ∷ code) zero j h le = omega arith
blocks_most (x ∷ code) (suc i) zero h le = absurd (omega arith)
blocks_most (x ∷ code) (suc i) (suc j) h le = let h' : i ≤ j = omega arith in let l' : j ≤ length code = omega arith in omega (arith, blocks_most code i j h' l', at_cons x code i, at_cons x code j)

blocks_length : (P : Program) (p n : ℕ) (at : ℕ → ℕ) (code : List Typed) → length (flat_map (block P p n at) code) ≡ block_at code (length code)
blocks_length P p n at [] = refl
blocks_length P p n at (x ∷ code) = omega (arith, length-append (block P p n at x) (flat_map (block P p n at) code), one_len P p n at x, blocks_length P p n at code, at_cons x code (length code))

-- behind the blocks stands the stub
pub has_stub : (P : Program) (k : Method) (xs : List Typed) → slice_get (duplicate_code P k xs).ops (block_at xs (length xs)) ≡ Some Throw
has_stub P k xs =
    let b = blocks P k.places k.locals xs in
    let e : block_at xs (length xs) ≡ length b + 0 = sym (blocks_length P k.places k.locals (block_at xs) xs) ∙ (omega arith) in
    ap (slice_get (b ++ Throw ∷ [])) e ∙ get_back b (Throw ∷ []) 0

-- past the end of the code no block follows
pub past_end : (code : List Typed) (pc : ℕ) → slice_get code pc ≡ None → block_at code pc ≡ block_at code (length code)
past_end [] zero h = refl
past_end [] (suc pc) h = refl
past_end (x ∷ code) zero h = cc
past_end (x ∷ code) (suc pc) h = at_cons x code pc ∙ ap (λ (n : ℕ). block_len x + n) (past_end code pc h) ∙ sym (at_cons x code (length code))
