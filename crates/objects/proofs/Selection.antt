-- A duplicate is selected where its original is.
use Rattle.std.proofs.Common.{◌≡◌, ℕ, ℤ, zero, suc, ◌+◌, ◌*◌, List, [], ◌∷◌, ◌++◌, length, Option, Some, None, Bool, true, false, refl, sym, ap, ◌∙◌, arith, append_assoc, length-append}
use Rattle.std.specs.Prelude.{slice_get, position, option_map, option_and_then, cond, bytes_eq, codes, ◌&&◌, if◌then◌else◌}
use Rattle.std.specs.List.{AllByRecursion, position_from}
use Rattle.std.proofs.lemmas.Iterator.Adapters.{position_from-zero}
use Rattle.std.proofs.lemmas.Slice.Eq.{bytes_eq-Decides}
use Rattle.std.proofs.lemmas.Bool.Decides.{same_from_decides}
use Rattle.objects.specs.declared.op.Dispatch.TheVariants as dispatch
use Rattle.objects.specs.declared.op.Op.{Op}
use Rattle.objects.specs.declared.op.Op.TheVariants.{Throw}
use Rattle.objects.specs.semantics.Program.{Field, Method, Program, method_at, row_at, is_selectable, overrides, or_else, first_in, lineage_in, is_code, has_code, runnable, selected_by, selected}
use Rattle.objects.specs.typing.Typing.{Table}
use Rattle.objects.specs.typing.Source.{AreNamed}
use Rattle.objects.specs.rewriting.Rewriting.{duplicate, getter_method, setter_method, accessors, helper_methods, Typed, typed_from, duplicate_name, with_context, duplicate_code, duplicate_method, abstracted, blocks, duplicates, old_method, next_id, old_methods, rewritten}
use Rattle.objects.proofs.Contexts.{with_context_told}
use Rattle.objects.proofs.Places.{get_back, get_front, old_length, accessors_length}

-- ---- the first place at which a test passes

-- items that a test refuses are passed over
past : {A : Type 0} (p : A → Bool) (n : ℕ) (xs ys : List A) → AllByRecursion (λ (x : A). p x ≡ false) xs → position_from p n (xs ++ ys) ≡ position_from p (n + length xs) ys
past p n [] ys all = ap (λ i. position_from p i ys) (omega arith)
past p n (x ∷ xs) ys all =
    let e : n + 1 + length xs ≡ n + suc (length xs) = omega arith in
    rw all.0 (past p (n + 1) xs ys all.1 ∙ ap (λ i. position_from p i ys) e)

none : {A : Type 0} (p : A → Bool) (n : ℕ) (xs : List A) → AllByRecursion (λ (x : A). p x ≡ false) xs → position_from p n xs ≡ None
none p n [] all = refl
none p n (x ∷ xs) all = rw all.0 (none p (n + 1) xs all.1)

-- the item that a test found
pub record IsFound {A : Type 0} (p : A → Bool) (n : ℕ) (xs : List A) (i : ℕ) : Type 0 where
  pub place : ℕ
  pub item : A
  pub there : slice_get xs place ≡ Some item
  pub is : i ≡ n + place
  pub passes : p item ≡ true

found : {A : Type 0} (p : A → Bool) (n : ℕ) (xs : List A) (i : ℕ) → position_from p n xs ≡ Some i → IsFound p n xs i
found p n [] i e = cc
found p n (x ∷ xs) i e = go (p x) refl e (found p (n + 1) xs i)
  where
    go : (b : Bool) → p x ≡ b → cond b (Some n) (position_from p (n + 1) xs) ≡ Some i → (position_from p (n + 1) xs ≡ Some i → IsFound p (n + 1) xs i) → IsFound p n (x ∷ xs) i
    go true is e rest = let s : n ≡ i = cc in record { place = 0; item = x; there = refl; is = sym s ∙ (omega arith); passes = is }
    go false is e rest =
        let f = rest e in
        let a = f.is in
        record { place = suc f.place; item = f.item; there = f.there; is = omega (arith, a); passes = f.passes }

by_places : {A : Type 0} (p : A → Bool) (xs : List A) → position p xs ≡ position_from p 0 xs
by_places p xs = position_from-zero p xs

-- ---- what a call may select

static_is_none : (k : Method) (c : List ℕ) (o : Method) → o.dispatch ≡ dispatch.Static → overrides k c o ≡ false
static_is_none k c o e = rw e refl

all_but_one : (a b c : Bool) → (a && (b && (c && false))) ≡ false
all_but_one true true true = refl
all_but_one true true false = refl
all_but_one true false c = refl
all_but_one false b c = refl

getter_static : (n : ℕ) (f : Field) → (getter_method n f).dispatch ≡ dispatch.Static
getter_static n f = go f.base refl
  where
    go : (b : Option ℕ) → f.base ≡ b → (getter_method n f).dispatch ≡ dispatch.Static
    go None e = rw e refl
    go (Some o) e = rw e refl

setter_static : (f : Field) → (setter_method f).dispatch ≡ dispatch.Static
setter_static f = go f.base refl
  where
    go : (b : Option ℕ) → f.base ≡ b → (setter_method f).dispatch ≡ dispatch.Static
    go None e = rw e refl
    go (Some o) e = rw e refl

accessors_pass : (k : Method) (c : List ℕ) (n : ℕ) (fs : List Field) → AllByRecursion (λ (o : Method). overrides k c o ≡ false) (accessors n fs)
accessors_pass k c n [] = tt
accessors_pass k c n (f ∷ fs) = (static_is_none k c (getter_method n f) (getter_static n f), (static_is_none k c (setter_method f) (setter_static f), accessors_pass k c (suc n) fs))

helpers_pass : (k : Method) (c : List ℕ) → AllByRecursion (λ (o : Method). overrides k c o ≡ false) helper_methods
helpers_pass k c = (refl, (refl, (refl, (refl, (refl, (refl, (refl, (refl, (refl, (refl, (refl, (refl, (refl, (refl, tt))))))))))))))

abstracted_name : (os : List Op) (k : Method) → (abstracted os k).name ≡ k.name
abstracted_name [] k = refl
abstracted_name (o ∷ os) k = refl

abstracted_dispatch : (os : List Op) (k : Method) → (abstracted os k).dispatch ≡ k.dispatch
abstracted_dispatch [] k = refl
abstracted_dispatch (o ∷ os) k = refl

-- instructions with one behind them are code
pub last_is_code : (os : List Op) (o : Op) → is_code (os ++ o ∷ []) ≡ true
last_is_code [] o = refl
last_is_code (x ∷ os) o = refl

-- a duplicate has code where its original has
pub duplicate_has_code : (P : Program) (k : Method) (T : Table) → has_code (Some (duplicate_method P k T)) ≡ has_code (Some k)
duplicate_has_code P k T = by k.ops
  where
    xs : List Typed
    xs = typed_from 0 T k.ops

    by : (os : List Op) → has_code (Some (abstracted os (duplicate_code P k xs))) ≡ is_code os
    by [] = refl
    by (o ∷ os) = last_is_code (blocks P k.places k.locals xs) Throw

-- a duplicate is called as its original is
pub duplicate_dispatch : (P : Program) (k : Method) (T : Table) → (duplicate_method P k T).dispatch ≡ k.dispatch
duplicate_dispatch P k T = abstracted_dispatch k.ops (duplicate_code P k (typed_from 0 T k.ops))

duplicate_named : (P : Program) (k : Method) (T : Table) → (duplicate_method P k T).name ≡ record { class = k.name.class; name = duplicate_name k.name.name; descriptor = with_context k.name.descriptor }
duplicate_named P k T = abstracted_name k.ops (duplicate_code P k (typed_from 0 T k.ops))

old_named : (P : Program) (id m : ℕ) (r : Option ℤ) (k : Method) → (old_method P id m r k).name ≡ k.name
old_named P id m None k = refl
old_named P id m (Some n) k = refl

-- each method has a duplicate, with a table or without
pub any_duplicate : (P : Program) (i : ℕ) (ks : List Method) (Ts : List Table) (k : Method) → slice_get ks i ≡ Some k → (T : Table) × (slice_get (duplicates P ks Ts) i ≡ Some (duplicate_method P k T))
any_duplicate P i [] Ts k h = cc
any_duplicate P zero (x ∷ ks) [] k h = ([], let e : x ≡ k = cc in ap (λ (k : Method). Some (duplicate_method P k [])) e)
any_duplicate P zero (x ∷ ks) (T ∷ Ts) k h = (T, let e : x ≡ k = cc in ap (λ (k : Method). Some (duplicate_method P k T)) e)
any_duplicate P (suc i) (x ∷ ks) [] k h = any_duplicate P i ks [] k h
any_duplicate P (suc i) (x ∷ ks) (T ∷ Ts) k h = any_duplicate P i ks Ts k h

-- ---- a method over objects, by its name in a class

module _ (P : Program) (names : AreNamed P) (m : ℕ) (k : Method) (there : method_at P m ≡ Some k) (virtual : is_selectable k.dispatch ≡ true) (T : Table) (c : List ℕ) where
  abbrev copy : Method
  copy = duplicate_method P k T

  abbrev old_test : Method → Bool
  old_test o = overrides k c o

  abbrev new_test : Method → Bool
  new_test o = overrides copy c o

  -- an old method has no descriptor of a duplicate
  old_passes : (id j : ℕ) (r : Option ℤ) (i : ℕ) (o : Method) → method_at P i ≡ Some o → new_test (old_method P id j r o) ≡ false
  old_passes id j r i o h = rw (old_named P id j r o, duplicate_named P k T, other) (all_but_one (is_selectable (old_method P id j r o).dispatch) (bytes_eq o.name.class c) (bytes_eq o.name.name (duplicate_name k.name.name)))
    where
      go : (b : Bool) → bytes_eq o.name.descriptor (with_context k.name.descriptor) ≡ b → b ≡ false
      go true e = absurd (names.apart m i k o there h (sym ((bytes_eq-Decides o.name.descriptor (with_context k.name.descriptor)).0 e)))
      go false e = refl

      other : bytes_eq o.name.descriptor (with_context k.name.descriptor) ≡ false
      other = go (bytes_eq o.name.descriptor (with_context k.name.descriptor)) refl

  olds_pass : (id j n : ℕ) (ks : List Method) → ((i : ℕ) (o : Method) → slice_get ks i ≡ Some o → method_at P (n + i) ≡ Some o) → AllByRecursion (λ (o : Method). new_test o ≡ false) (old_methods P id j ks)
  olds_pass id j n [] h = tt
  olds_pass id j n (o ∷ ks) h =
      let z : n + 0 ≡ n = omega arith in
      let here : method_at P n ≡ Some o = ap (method_at P) (sym z) ∙ h 0 o refl in
      let rest = λ (i : ℕ) (x : Method) (e : slice_get ks i ≡ Some x). let s : suc n + i ≡ n + suc i = omega arith in ap (method_at P) s ∙ h (suc i) x e in
      (old_passes id j o.retries n o here, olds_pass (next_id o.retries id) (suc j) (suc n) ks rest)

  not_initialiser : (i : ℕ) (o : Method) → method_at P i ≡ Some o → is_selectable o.dispatch ≡ true → duplicate_name o.name.name ≡ o.name.name
  not_initialiser i o h s = go (bytes_eq o.name.name (codes "<clinit>")) refl
    where
      static : o.dispatch ≡ dispatch.Static → ⊥
      static e = let fall : is_selectable dispatch.Static ≡ true = sym (ap is_selectable e) ∙ s in cc

      go : (b : Bool) → bytes_eq o.name.name (codes "<clinit>") ≡ b → (if b then codes "__CLINIT__" else o.name.name) ≡ o.name.name
      go true e = absurd (static (names.initialisers i o h ((bytes_eq-Decides o.name.name (codes "<clinit>")).0 e)))
      go false e = refl

  same_descriptor : (i : ℕ) (o : Method) → method_at P i ≡ Some o → bytes_eq (with_context o.name.descriptor) (with_context k.name.descriptor) ≡ bytes_eq o.name.descriptor k.name.descriptor
  same_descriptor i o h =
      let new = bytes_eq-Decides (with_context o.name.descriptor) (with_context k.name.descriptor) in
      let old = bytes_eq-Decides o.name.descriptor k.name.descriptor in
      same_from_decides {P = o.name.descriptor ≡ k.name.descriptor} (bytes_eq (with_context o.name.descriptor) (with_context k.name.descriptor)) (bytes_eq o.name.descriptor k.name.descriptor)
      (λ e. with_context_told o.name.descriptor k.name.descriptor (new.0 e), λ e. new.1 (ap with_context e)) old

  -- a duplicate passes where its original does
  copy_passes : (i : ℕ) (o : Method) (U : Table) → method_at P i ≡ Some o → new_test (duplicate_method P o U) ≡ old_test o
  copy_passes i o U h = rw (duplicate_dispatch P o U, duplicate_named P o U, duplicate_named P k T, same_descriptor i o h) (go (is_selectable o.dispatch) refl)
    where
      go : (b : Bool) → is_selectable o.dispatch ≡ b
          → (b && (bytes_eq o.name.class c && (bytes_eq (duplicate_name o.name.name) (duplicate_name k.name.name) && bytes_eq o.name.descriptor k.name.descriptor)))
          ≡ (b && (bytes_eq o.name.class c && (bytes_eq o.name.name k.name.name && bytes_eq o.name.descriptor k.name.descriptor)))
      go true s = rw (not_initialiser i o h s, not_initialiser m k there virtual) refl
      go false s = refl

  abbrev shift : ℕ
  shift = length P.methods + 2 * length P.fields

  one_more : (n : ℕ) (a b : Bool) (x y : Option ℕ) → a ≡ b → x ≡ option_map (λ (i : ℕ). shift + i) y
      → cond a (Some (shift + n)) x ≡ option_map (λ (i : ℕ). shift + i) (cond b (Some n) y)
  one_more n a true x y e rest = rw e refl
  one_more n a false x y e rest = rw e rest

  copies_pass : (n : ℕ) (ks : List Method) (Ts : List Table) → ((i : ℕ) (o : Method) → slice_get ks i ≡ Some o → method_at P (n + i) ≡ Some o)
      → position_from new_test (shift + n) (duplicates P ks Ts ++ helper_methods) ≡ option_map (λ (i : ℕ). shift + i) (position_from old_test n ks)
  copies_pass n [] Ts h = none new_test (shift + n) helper_methods (helpers_pass copy c)
  copies_pass n (o ∷ ks) [] h =
      let z : n + 0 ≡ n = omega arith in
      let a : shift + n + 1 ≡ shift + (n + 1) = omega arith in
      let here : method_at P n ≡ Some o = ap (method_at P) (sym z) ∙ h 0 o refl in
      let rest = λ (i : ℕ) (x : Method) (e : slice_get ks i ≡ Some x). let s : n + 1 + i ≡ n + suc i = omega arith in ap (method_at P) s ∙ h (suc i) x e in
      one_more n _ _ _ _ (copy_passes n o [] here) (ap (λ i. position_from new_test i (duplicates P ks [] ++ helper_methods)) a ∙ copies_pass (n + 1) ks [] rest)
  copies_pass n (o ∷ ks) (U ∷ Ts) h =
      let z : n + 0 ≡ n = omega arith in
      let a : shift + n + 1 ≡ shift + (n + 1) = omega arith in
      let here : method_at P n ≡ Some o = ap (method_at P) (sym z) ∙ h 0 o refl in
      let rest = λ (i : ℕ) (x : Method) (e : slice_get ks i ≡ Some x). let s : n + 1 + i ≡ n + suc i = omega arith in ap (method_at P) s ∙ h (suc i) x e in
      one_more n _ _ _ _ (copy_passes n o U here) (ap (λ i. position_from new_test i (duplicates P ks Ts ++ helper_methods)) a ∙ copies_pass (n + 1) ks Ts rest)

  place_moved : (Ts : List Table) → position new_test (rewritten P Ts).methods ≡ option_map (duplicate P) (position old_test P.methods)
  place_moved Ts =
      let olds = old_methods P 0 0 P.methods in
      let news = accessors 0 P.fields in
      let copies = duplicates P P.methods Ts in
      let whole : (rewritten P Ts).methods ≡ olds ++ (news ++ (copies ++ helper_methods)) = append_assoc (olds ++ news) copies helper_methods ∙ append_assoc olds news (copies ++ helper_methods) in
      let self = λ (i : ℕ) (o : Method) (e : method_at P i ≡ Some o). let z : 0 + i ≡ i = omega arith in ap (method_at P) z ∙ e in
      let a = old_length P 0 0 P.methods in
      let b = accessors_length 0 P.fields in
      let there : 0 + length olds + length news ≡ shift + 0 = omega (arith, a, b) in
      by_places new_test (rewritten P Ts).methods ∙ ap (position_from new_test 0) whole
      ∙ past new_test 0 olds (news ++ (copies ++ helper_methods)) (olds_pass 0 0 0 P.methods self)
      ∙ past new_test (0 + length olds) news (copies ++ helper_methods) (accessors_pass copy c 0 P.fields)
      ∙ ap (λ i. position_from new_test i (copies ++ helper_methods)) there
      ∙ copies_pass 0 P.methods Ts self
      ∙ ap (option_map (duplicate P)) (sym (by_places old_test P.methods))

or_else_moved : (f : ℕ → ℕ) (a b : Option ℕ) → or_else (option_map f a) (option_map f b) ≡ option_map f (or_else a b)
or_else_moved f None b = refl
or_else_moved f (Some i) b = refl

-- A method that one of these classes declares for calls of another.
pub record IsAmong (P : Program) (k : Method) (cs : List (List ℕ)) (i : ℕ) : Type 0 where
  pub method : Method
  pub there : method_at P i ≡ Some method
  pub class : List ℕ
  pub at : ℕ
  pub listed : slice_get cs at ≡ Some class
  pub passes : overrides k class method ≡ true

pub among : (P : Program) (k : Method) (cs : List (List ℕ)) (i : ℕ) → first_in P k cs ≡ Some i → IsAmong P k cs i
among P k [] i e = cc
among P k (c ∷ cs) i e = go (position (overrides k c) P.methods) refl e (among P k cs i)
  where
    go : (o : Option ℕ) → position (overrides k c) P.methods ≡ o → or_else o (first_in P k cs) ≡ Some i → (first_in P k cs ≡ Some i → IsAmong P k cs i) → IsAmong P k (c ∷ cs) i
    go None is e rest =
        let a = rest e in
        record { method = a.method; there = a.there; class = a.class; at = suc a.at; listed = a.listed; passes = a.passes }
    go (Some j) is e rest =
        let s : j ≡ i = cc in
        let f = found (overrides k c) 0 P.methods j (sym (by_places (overrides k c) P.methods) ∙ is) in
        let a = f.is in
        let t : f.place ≡ i = omega (arith, a, s) in
        record { method = f.item; there = ap (method_at P) (sym t) ∙ f.there; class = c; at = 0; listed = refl; passes = f.passes }

-- ---- what is selected in a rewritten program

module _ (P : Program) (Ts : List Table) where
  abbrev after : Program
  after = rewritten P Ts

  -- each method has its duplicate there
  pub duplicate_is : (i : ℕ) (o : Method) → method_at P i ≡ Some o → (T : Table) × (method_at after (duplicate P i) ≡ Some (duplicate_method P o T))
  duplicate_is i o h =
      let olds = old_methods P 0 0 P.methods in
      let news = accessors 0 P.fields in
      let copies = duplicates P P.methods Ts in
      let d = any_duplicate P i P.methods Ts o h in
      let a = old_length P 0 0 P.methods in
      let b = accessors_length 0 P.fields in
      let e : duplicate P i ≡ length (olds ++ news) + i = omega (arith, length-append olds news, a, b) in
      (d.0, ap (slice_get after.methods) e ∙ get_front (olds ++ news ++ copies) helper_methods _ _ (get_back (olds ++ news) copies i ∙ d.1))

  first_moved : AreNamed P → (m : ℕ) (k : Method) → method_at P m ≡ Some k → is_selectable k.dispatch ≡ true → (T : Table) (cs : List (List ℕ))
      → first_in after (duplicate_method P k T) cs ≡ option_map (duplicate P) (first_in P k cs)
  first_moved names m k there virtual T [] = refl
  first_moved names m k there virtual T (c ∷ cs) =
      let here = place_moved P names m k there virtual T c Ts in
      let rest = first_moved names m k there virtual T cs in
      ap (λ i. or_else i (first_in after (duplicate_method P k T) cs)) here ∙ ap (or_else (option_map (duplicate P) (position (overrides k c) P.methods))) rest
      ∙ or_else_moved (duplicate P) (position (overrides k c) P.methods) (first_in P k cs)

  runnable_moved : (i : Option ℕ) → ((j : ℕ) → i ≡ Some j → (o : Method) × (method_at P j ≡ Some o)) → runnable after (option_map (duplicate P) i) ≡ option_map (duplicate P) (runnable P i)
  runnable_moved None h = refl
  runnable_moved (Some j) h =
      let o = h j refl in
      let d = duplicate_is j o.0 o.1 in
      let new : has_code (method_at after (duplicate P j)) ≡ has_code (Some o.0) = ap has_code d.1 ∙ duplicate_has_code P o.0 d.0 in
      let old : has_code (method_at P j) ≡ has_code (Some o.0) = ap has_code o.1 in
      rw (new, old) (go (has_code (Some o.0)))
    where
      go : (b : Bool) → (if b then Some (duplicate P j) else None) ≡ option_map (duplicate P) (if b then Some j else None)
      go true = refl
      go false = refl

  same_row : (t : ℕ) → row_at after t ≡ row_at P t
  same_row zero = refl
  same_row (suc t) = refl

  by_moved : AreNamed P → (t m : ℕ) (k : Method) → method_at P m ≡ Some k → (T : Table) (b : Bool) → is_selectable k.dispatch ≡ b
      → selected_by b after t (duplicate P m) (duplicate_method P k T) ≡ option_map (duplicate P) (selected_by b P t m k)
  by_moved names t m k there T true virtual =
      let cs = lineage_in (row_at P t) in
      let same : first_in after (duplicate_method P k T) (lineage_in (row_at after t)) ≡ option_map (duplicate P) (first_in P k cs) =
      ap (λ r. first_in after (duplicate_method P k T) (lineage_in r)) (same_row t) ∙ first_moved names m k there virtual T cs in
      ap (runnable after) same ∙ runnable_moved (first_in P k cs) (λ j e. let a = among P k cs j e in (a.method, a.there))
  by_moved names t m k there T false virtual = runnable_moved (Some m) (λ j e. let same : m ≡ j = cc in (k, ap (method_at P) (sym same) ∙ there))

  -- What is selected for a duplicate is the duplicate of what is selected for its original.
  pub selected_moved : AreNamed P → (t m : ℕ) (k : Method) → method_at P m ≡ Some k → selected after t (duplicate P m) ≡ option_map (duplicate P) (selected P t m)
  selected_moved names t m k there =
      let d = duplicate_is m k there in
      let kind : is_selectable (duplicate_method P k d.0).dispatch ≡ is_selectable k.dispatch = ap is_selectable (duplicate_dispatch P k d.0) in
      let new : selected after t (duplicate P m) ≡ selected_by (is_selectable (duplicate_method P k d.0).dispatch) after t (duplicate P m) (duplicate_method P k d.0) =
      ap (option_and_then (λ (k : Method). selected_by (is_selectable k.dispatch) after t (duplicate P m) k)) d.1 in
      let old : selected P t m ≡ selected_by (is_selectable k.dispatch) P t m k = ap (option_and_then (λ (k : Method). selected_by (is_selectable k.dispatch) P t m k)) there in
      new ∙ ap (λ b. selected_by b after t (duplicate P m) (duplicate_method P k d.0)) kind ∙ by_moved names t m k there d.0 (is_selectable k.dispatch) refl ∙ ap (option_map (duplicate P)) (sym old)
