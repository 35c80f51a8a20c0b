-- The search for the taken methods: what each call finds, what is kept from one method to the next, and what holds at the end.
use Rattle.std.proofs.Common.{◌≡◌, ℕ, ◌+◌, ◌≤◌, List, [], ◌∷◌, ◌++◌, length, map, Bool, true, false, not, ◌&&◌, ◌||◌, cond, Result, Ok, Err, OnOk, refl, sym, ap, ◌∙◌, arith}
use Rattle.std.specs.Prelude.{filter, bytes_eq, codes, if◌then◌else◌}
use Rattle.std.specs.List.{list_any}
use Rattle.std.specs.Cmp.Lexicographic.{nat_list_eq_equiv}
use Rattle.std.proofs.lemmas.List.{append-nil, length-append}
use Rattle.std.proofs.lemmas.List.Elements.{filter-append}
use Rattle.std.proofs.lemmas.List.Folds.{list_any-append}
use Rattle.jmodel.specs.declared.name.MethodName.{MethodName}
use Rattle.jmodel.specs.declared.refusal.NoMemory.{NoMemory}
use Rattle.jmodel.specs.format.ClassFile.{ClassFile}
use Rattle.jmodel.specs.format.Pool.{MemberName}
use Rattle.objects.specs.linking.Code.{decoded}
use Rattle.objects.specs.linking.Members.{is_name}
use Rattle.objects.specs.linking.Taken.{code_calls, is_taken_by, calls, is_taken, IsClosed}
use Rattle.objects.specs.linking.Classes.{Declared, methods_in, full_name}
use Rattle.objects.proofs.TakenLaws.{Within, or_right, filter_covers, Same, filter_same, all_map, all_of, closed, taken_law}
use Rattle.hierarchy.proofs.Bools.{or_left, or_second}
use Rattle.hierarchy.proofs.Parts.{same_bytes}
use Rattle.hierarchy.specs.Names.{has, group_of}
use Rattle.hierarchy.specs.Search.{class_for, call_key, method_key, is_root_of, IsGrouped, State, starting, is_called, is_found, is_fresh, uncalled, Visits, VisitsOf, Finds}

-- ---- tests

either : (a b : Bool) → (a || b) ≡ true → {P : Type 0} → (a ≡ true → P) → (b ≡ true → P) → P
either true b h f g = f refl
either false b h f g = g h

or_false : (a : Bool) → (a || false) ≡ a
or_false true = refl
or_false false = refl

or_assoc : (a b c : Bool) → (a || (b || c)) ≡ ((a || b) || c)
or_assoc true b c = refl
or_assoc false b c = refl

or_both : (a b c : Bool) → (a || (b || c)) ≡ ((a || b) || (a || c))
or_both true b c = refl
or_both false b c = refl

both_true : (a b : Bool) → (a && b) ≡ true → (a ≡ true) × (b ≡ true)
both_true true b h = (refl, h)
both_true false b h = absurd cc

same_test : (a b : Bool) → (a ≡ true → b ≡ true) → (b ≡ true → a ≡ true) → a ≡ b
same_test true b f g = sym (f refl)
same_test false true f g = g refl
same_test false false f g = refl

-- what is found since s, and what since t, is found since s
fresh_split : (a s t u f g : Bool) → t ≡ (s || f) → u ≡ (t || g) → (not (a || s) && u) ≡ ((not (a || s) && t) || (not (a || t) && u))
fresh_split true s t u f g h k = refl
fresh_split false true true u f g h k = refl
fresh_split false true false u f g h k = absurd cc
fresh_split false false true u f g h k = k
fresh_split false false false u f g h k = refl

-- what was found before, and since
found_split : (a s t f : Bool) → t ≡ (s || f) → (a || t) ≡ ((a || s) || (not (a || s) && t))
found_split true s t f h = refl
found_split false true t f h = h
found_split false false t f h = refl

-- ---- items that pass tests

any_or : {A : Type 0} (p q r : A → Bool) (xs : List A) → list_any r (filter (λ x. p x || q x) xs) ≡ (list_any r (filter p xs) || list_any r (filter q xs))
any_or p q r [] = refl
any_or p q r (x ∷ xs) = go (p x) (q x) (any_or p q r xs)
  where
    go : (a b : Bool) → list_any r (filter (λ x. p x || q x) xs) ≡ (list_any r (filter p xs) || list_any r (filter q xs))
        → list_any r (cond (a || b) (x ∷ filter (λ x. p x || q x) xs) (filter (λ x. p x || q x) xs)) ≡ (list_any r (cond a (x ∷ filter p xs) (filter p xs)) || list_any r (cond b (x ∷ filter q xs) (filter q xs)))
    go true true h = ap (λ (b : Bool). r x || b) h ∙ or_both (r x) (list_any r (filter p xs)) (list_any r (filter q xs))
    go true false h = ap (λ (b : Bool). r x || b) h ∙ or_assoc (r x) (list_any r (filter p xs)) (list_any r (filter q xs))
    go false true h = ap (λ (b : Bool). r x || b) h ∙ or_second (r x) (list_any r (filter p xs)) (list_any r (filter q xs))
    go false false h = h

pub filter_as : {A : Type 0} (p q : A → Bool) (xs : List A) → ((x : A) → p x ≡ q x) → filter p xs ≡ filter q xs
filter_as p q xs h = filter_same p q xs (all_of _ xs h)

map_same : {A : Type 0} (p q : A → Bool) (xs : List A) → Same p q xs → map p xs ≡ map q xs
map_same p q [] h = refl
map_same {A} p q (x ∷ xs) h = ap (λ (b : Bool). b ∷ map p xs) h.0 ∙ ap (λ (bs : List Bool). q x ∷ bs) (map_same p q xs h.1)

-- how many answers are yes
pub count_flags : {A : Type 0} (p : A → Bool) (xs : List A) → length (filter (λ b. b) (map p xs)) ≡ length (filter p xs)
count_flags p [] = refl
count_flags p (x ∷ xs) = go (p x) (count_flags p xs)
  where
    go : (a : Bool) → length (filter (λ b. b) (map p xs)) ≡ length (filter p xs) → length (cond a (a ∷ filter (λ b. b) (map p xs)) (filter (λ b. b) (map p xs))) ≡ length (cond a (x ∷ filter p xs) (filter p xs))
    go true h = omega (arith, h)
    go false h = h

none_pass : {A : Type 0} (xs : List A) → filter (λ x. false) xs ≡ []
none_pass [] = refl
none_pass (x ∷ xs) = none_pass xs

-- two parts of what passes are no more than that
two_parts : {A : Type 0} (p q r : A → Bool) (xs : List A) → ((x : A) → p x ≡ true → r x ≡ true) → ((x : A) → q x ≡ true → r x ≡ true) → ((x : A) → p x ≡ true → q x ≡ false)
    → length (filter p xs) + length (filter q xs) ≤ length (filter r xs)
two_parts p q r [] f g h = omega arith
two_parts p q r (x ∷ xs) f g h = go (p x) (q x) (r x) (f x) (g x) (h x) (two_parts p q r xs f g h)
  where
    go : (a b d : Bool) → (a ≡ true → d ≡ true) → (b ≡ true → d ≡ true) → (a ≡ true → b ≡ false) → length (filter p xs) + length (filter q xs) ≤ length (filter r xs)
        → length (cond a (x ∷ filter p xs) (filter p xs)) + length (cond b (x ∷ filter q xs) (filter q xs)) ≤ length (cond d (x ∷ filter r xs) (filter r xs))
    go true true d i j k l = let e : true ≡ false = k refl in absurd cc
    go true false true i j k l = omega (arith, l)
    go true false false i j k l = let e : false ≡ true = i refl in absurd cc
    go false true true i j k l = omega (arith, l)
    go false true false i j k l = let e : false ≡ true = j refl in absurd cc
    go false false true i j k l = omega (arith, l)
    go false false false i j k l = l

-- ---- names

pub name_symm : (a b : MethodName) → is_name a b ≡ is_name b a
name_symm a b = rw (nat_list_eq_equiv.symm a.name b.name, nat_list_eq_equiv.symm a.descriptor b.descriptor, nat_list_eq_equiv.symm a.class b.class) refl

pub same_name : (a b : MethodName) → is_name a b ≡ true → a ≡ b
same_name a b h =
    let front = both_true (bytes_eq a.name b.name && bytes_eq a.descriptor b.descriptor) (bytes_eq a.class b.class) h in
    let parts = both_true (bytes_eq a.name b.name) (bytes_eq a.descriptor b.descriptor) front.0 in
    ap (λ (x : List ℕ). record { class = x; name = a.name; descriptor = a.descriptor }) (same_bytes a.class b.class front.1)
    ∙ ap (λ (x : List ℕ). record { class = b.class; name = x; descriptor = a.descriptor }) (same_bytes a.name b.name parts.0)
    ∙ ap (λ (x : List ℕ). record { class = b.class; name = b.name; descriptor = x }) (same_bytes a.descriptor b.descriptor parts.1)

was_called : (called : List MethodName) (w : MethodName) (m : Declared) → is_name (method_key m) w ≡ true → is_called called m ≡ has called w
was_called called w m e = ap (has called) (same_name (method_key m) w e)

-- a call takes the methods of its key
pub taken_by : (n : MemberName) (m : Declared) → is_name (method_key m) (call_key n) ≡ is_taken_by n (full_name m)
taken_by n m = name_symm (method_key m) (call_key n) ∙ go (bytes_eq n.name (full_name m).name) refl
  where
    by_kind : (i : Bool) → bytes_eq (if i then n.class else []) (if i then (full_name m).class else []) ≡ (not i || bytes_eq n.class (full_name m).class)
    by_kind true = refl
    by_kind false = refl

    go : (a : Bool) → bytes_eq n.name (full_name m).name ≡ a → (a && bytes_eq n.descriptor (full_name m).descriptor && bytes_eq (class_for n.name n.class) (class_for (full_name m).name (full_name m).class))
        ≡ (a && bytes_eq n.descriptor (full_name m).descriptor && (not (bytes_eq n.name (codes "<init>")) || bytes_eq n.class (full_name m).class))
    go false e = refl
    go true e =
        let same : (full_name m).name ≡ n.name = sym (same_bytes n.name (full_name m).name e) in
        ap (λ (b : Bool). true && bytes_eq n.descriptor (full_name m).descriptor && b)
        (ap (λ (x : List ℕ). bytes_eq (class_for n.name n.class) (class_for x (full_name m).class)) same ∙ by_kind (bytes_eq n.name (codes "<init>")))

-- ---- groups

-- a method that is marked or a static initialiser stands in no group
pub grouped_root : (ms : List Declared) (m : Declared) (groups : List (MethodName × List Declared)) → is_root_of m ≡ true → IsGrouped ms groups → IsGrouped (ms ++ m ∷ []) groups
grouped_root ms m groups root grouped key =
    grouped key ∙ sym (filter-append (λ m. not (is_root_of m) && is_name key (method_key m)) ms (m ∷ [])
    ∙ ap (λ (b : Bool). filter (λ m. not (is_root_of m) && is_name key (method_key m)) ms ++ cond (not b && is_name key (method_key m)) (m ∷ []) []) root
    ∙ append-nil (filter (λ m. not (is_root_of m) && is_name key (method_key m)) ms))

-- any other, in that of its key
pub grouped_more : (ms : List Declared) (m : Declared) (old new : List (MethodName × List Declared)) → is_root_of m ≡ false
    → ((q : MethodName) → group_of new q ≡ group_of old q ++ (if is_name q (method_key m) then m ∷ [] else [])) → IsGrouped ms old → IsGrouped (ms ++ m ∷ []) new
grouped_more ms m old new other put grouped key =
    put key ∙ ap (λ (l : List Declared). l ++ (if is_name key (method_key m) then m ∷ [] else [])) (grouped key)
    ∙ sym (filter-append (λ m. not (is_root_of m) && is_name key (method_key m)) ms (m ∷ [])
    ∙ ap (λ (b : Bool). filter (λ m. not (is_root_of m) && is_name key (method_key m)) ms ++ cond (not b && is_name key (method_key m)) (m ∷ []) []) other)

module _ (ms : List Declared) where
  -- ---- visits

  pub nothing_called : (s : State) → Visits ms (λ k. false) s s
  nothing_called s = record {
    called = λ m. sym (or_false (is_called s.called m));
    queue = λ test. sym (ap (λ (ms : List Declared). list_any test s.queue || list_any test ms) (filter_as (is_fresh s.called s.called) (λ m. false) ms (λ m. none_fresh (is_root_of m) (is_called s.called m)) ∙ none_pass ms) ∙ or_false (list_any test s.queue));
    less = omega arith;
  }
    where
      none_fresh : (a s : Bool) → (not (a || s) && s) ≡ false
      none_fresh true s = refl
      none_fresh false true = refl
      none_fresh false false = refl

  pub then_called : {f g : MethodName → Bool} {s t u : State} → Visits ms f s t → Visits ms g t u → Visits ms (λ k. f k || g k) s u
  then_called {f} {g} {s} {t} {u} v w = record {
    called = λ m. w.called m ∙ ap (λ (b : Bool). b || g (full_name m)) (v.called m) ∙ sym (or_assoc (is_called s.called m) (f (full_name m)) (g (full_name m)));
    queue = λ test.
        let parts : list_any test (filter (is_fresh s.called u.called) ms) ≡ (list_any test (filter (is_fresh s.called t.called) ms) || list_any test (filter (is_fresh t.called u.called) ms)) =
        ap (list_any test) (filter_as (is_fresh s.called u.called) (λ m. is_fresh s.called t.called m || is_fresh t.called u.called m) ms (λ m.
        fresh_split (is_root_of m) (is_called s.called m) (is_called t.called m) (is_called u.called m) (f (full_name m)) (g (full_name m)) (v.called m) (w.called m)))
        ∙ any_or (is_fresh s.called t.called) (is_fresh t.called u.called) test ms in
        w.queue test ∙ ap (λ (b : Bool). b || list_any test (filter (is_fresh t.called u.called) ms)) (v.queue test)
        ∙ sym (or_assoc (list_any test s.queue) (list_any test (filter (is_fresh s.called t.called) ms)) (list_any test (filter (is_fresh t.called u.called) ms)))
        ∙ ap (λ (b : Bool). list_any test s.queue || b) (sym parts);
    less = omega (arith, v.less, w.less);
  }

  pub called_as : {f g : MethodName → Bool} {s t : State} → ((m : Declared) → f (full_name m) ≡ g (full_name m)) → Visits ms f s t → Visits ms g s t
  called_as {f} {g} {s} {t} h v = record { called = λ m. v.called m ∙ ap (λ (b : Bool). is_called s.called m || b) (h m); queue = v.queue; less = v.less }

  -- what one call finds
  pub call_finds : (groups : List (MethodName × List Declared)) → IsGrouped ms groups → (w : MethodName) (named : MethodName → Bool) → ((m : Declared) → is_name (method_key m) w ≡ named (full_name m)) → (s t : State)
      → ((q : MethodName) → has t.called q ≡ (has s.called q || is_name q w))
      → t.queue ≡ s.queue ++ (if has s.called w then [] else group_of groups w) → Visits ms named s t
  call_finds groups grouped w named means s t called queue = go (has s.called w) refl
    where
      now : (m : Declared) → is_called t.called m ≡ (is_called s.called m || is_name (method_key m) w)
      now m = called (method_key m)

      old_fresh : (a x y k : Bool) → y ≡ (x || k) → (k ≡ true → x ≡ true) → (not (a || x) && y) ≡ false
      old_fresh true x y k e f = refl
      old_fresh false true y k e f = refl
      old_fresh false false y true e f = let no : false ≡ true = f refl in absurd cc
      old_fresh false false y false e f = e

      old_called : (x y k : Bool) → y ≡ (x || k) → (k ≡ true → x ≡ true) → not y ≡ not x
      old_called true y k e f = ap not e
      old_called false y true e f = let no : false ≡ true = f refl in absurd cc
      old_called false y false e f = ap not e

      new_fresh : (a x y k : Bool) → y ≡ (x || k) → (k ≡ true → x ≡ false) → (not (a || x) && y) ≡ (not a && k)
      new_fresh true x y k e f = refl
      new_fresh false true y true e f = let no : true ≡ false = f refl in absurd cc
      new_fresh false true y false e f = refl
      new_fresh false false y k e f = e

      still : (x y k : Bool) → y ≡ (x || k) → not y ≡ true → not x ≡ true
      still true true k e h = h
      still true false k e h = absurd cc
      still false y k e h = refl

      not_still : (x y k : Bool) → y ≡ (x || k) → k ≡ true → not y ≡ false
      not_still true y k e h = ap not e
      not_still false y k e h = ap not (e ∙ h)

      go : (b : Bool) → has s.called w ≡ b → Visits ms named s t
      go true e =
          let stays : t.queue ≡ s.queue = queue ∙ ap (λ (b : Bool). s.queue ++ (if b then [] else group_of groups w)) e ∙ append-nil s.queue in
          let known : (m : Declared) → is_name (method_key m) w ≡ true → is_called s.called m ≡ true = λ m k. was_called s.called w m k ∙ e in
          let none : filter (is_fresh s.called t.called) ms ≡ [] =
          filter_as (is_fresh s.called t.called) (λ m. false) ms (λ m. old_fresh (is_root_of m) (is_called s.called m) (is_called t.called m) (is_name (method_key m) w) (now m) (known m)) ∙ none_pass ms in
          let same : filter (λ m. not (is_called t.called m)) ms ≡ filter (λ m. not (is_called s.called m)) ms =
          filter_as (λ m. not (is_called t.called m)) (λ m. not (is_called s.called m)) ms (λ m. old_called (is_called s.called m) (is_called t.called m) (is_name (method_key m) w) (now m) (known m)) in
          record {
            called = λ m. now m ∙ ap (λ (b : Bool). is_called s.called m || b) (means m);
            queue = λ test. ap (list_any test) stays ∙ sym (ap (λ (ms : List Declared). list_any test s.queue || list_any test ms) none ∙ or_false (list_any test s.queue));
            less = omega (arith, ap (λ (ms : List Declared). length ms) stays, ap (λ (ms : List Declared). length ms) same);
          }
      go false e =
          let known : (m : Declared) → is_name (method_key m) w ≡ true → is_called s.called m ≡ false = λ m k. was_called s.called w m k ∙ e in
          let found : group_of groups w ≡ filter (λ m. not (is_root_of m) && is_name (method_key m) w) ms =
          grouped w ∙ filter_as (λ m. not (is_root_of m) && is_name w (method_key m)) (λ m. not (is_root_of m) && is_name (method_key m) w) ms (λ m. ap (λ (b : Bool). not (is_root_of m) && b) (name_symm w (method_key m))) in
          let more : t.queue ≡ s.queue ++ filter (λ m. not (is_root_of m) && is_name (method_key m) w) ms =
          queue ∙ ap (λ (b : Bool). s.queue ++ (if b then [] else group_of groups w)) e ∙ ap (λ (ms : List Declared). s.queue ++ ms) found in
          let fresh : filter (is_fresh s.called t.called) ms ≡ filter (λ m. not (is_root_of m) && is_name (method_key m) w) ms =
          filter_as (is_fresh s.called t.called) (λ m. not (is_root_of m) && is_name (method_key m) w) ms (λ m. new_fresh (is_root_of m) (is_called s.called m) (is_called t.called m) (is_name (method_key m) w) (now m) (known m)) in
          let few : length (filter (λ m. not (is_root_of m) && is_name (method_key m) w) ms) + uncalled ms t.called ≤ uncalled ms s.called =
          two_parts (λ m. not (is_root_of m) && is_name (method_key m) w) (λ m. not (is_called t.called m)) (λ m. not (is_called s.called m)) ms
          (λ m h. ap not (known m ((both_true (not (is_root_of m)) (is_name (method_key m) w) h).1)))
          (λ m h. still (is_called s.called m) (is_called t.called m) (is_name (method_key m) w) (now m) h)
          (λ m h. not_still (is_called s.called m) (is_called t.called m) (is_name (method_key m) w) (now m) ((both_true (not (is_root_of m)) (is_name (method_key m) w) h).1)) in
          record {
            called = λ m. now m ∙ ap (λ (b : Bool). is_called s.called m || b) (means m);
            queue = λ test. ap (list_any test) more ∙ list_any-append test s.queue (filter (λ m. not (is_root_of m) && is_name (method_key m) w) ms) ∙ ap (λ (ms : List Declared). list_any test s.queue || list_any test ms) (sym fresh);
            less = omega (arith, ap (λ (ms : List Declared). length ms) more, length-append s.queue (filter (λ m. not (is_root_of m) && is_name (method_key m) w) ms), few);
          }

-- a call finds the methods of its key
pub finds_call : (groups : List (MethodName × List Declared)) (n : MemberName) (k : MethodName) → k ≡ call_key n → (s t : State) → ((q : MethodName) → has t.called q ≡ (has s.called q || is_name q k))
    → t.queue ≡ s.queue ++ (if has s.called k then [] else group_of groups k) → VisitsOf groups (is_taken_by n) s t
finds_call groups n k is s t called queue ms grouped = call_finds ms groups grouped k (is_taken_by n) (λ m. ap (is_name (method_key m)) is ∙ taken_by n m) s t called queue

pub visits_if_ok : (r : Result (Unit {0}) NoMemory) (groups : List (MethodName × List Declared)) (f g : MethodName → Bool) (s t : State) → ((m : Declared) → f (full_name m) ≡ g (full_name m))
    → OnOk r (VisitsOf groups f s t) → OnOk r (VisitsOf groups g s t)
visits_if_ok (Ok u) groups f g s t h v = λ ms grouped. called_as ms h (v ms grouped)
visits_if_ok (Err e) groups f g s t h v = tt

module _ (cs : List ClassFile) where
  -- ---- the search as a whole

  abbrev takes : Declared → Bool
  takes m = list_any (λ k. calls k m) (filter (is_taken cs) (methods_in cs))

  -- what the found methods call is called or will be, and what is called, found and waits is taken
  pub record IsUnderWay (s : State) : Type 0 where
    pub reached : (m : Declared) → list_any (λ k. calls k m) (filter (is_found s.called) (methods_in cs)) ≡ true → (is_called s.called m || list_any (λ k. calls k m) s.queue) ≡ true
    pub called : (m : Declared) → is_called s.called m ≡ true → takes m ≡ true
    pub queued : (test : Declared → Bool) → list_any test s.queue ≡ true → list_any test (filter (is_taken cs) (methods_in cs)) ≡ true

  marked_taken : Within (is_root_of) (is_taken cs) (methods_in cs)
  marked_taken = all_map _ _ (methods_in cs) (λ m h e. h (or_left (is_root_of m) (takes m) e)) (closed cs)

  pub starts : IsUnderWay (starting (methods_in cs))
  starts = record {
    reached = λ m h. ap (list_any (λ k. calls k m)) (sym (filter_as (is_found []) (is_root_of) (methods_in cs) (λ k. or_false (is_root_of k)))) ∙ h;
    called = λ m h. absurd cc;
    queued = λ test h. filter_covers (is_root_of) (is_taken cs) (methods_in cs) marked_taken test h;
  }

  -- one more method was visited
  pub goes_on : (s t u : State) (p : Declared) → t.called ≡ s.called → s.queue ≡ t.queue ++ p ∷ [] → Visits (methods_in cs) (code_calls p.class.pool (decoded p.class p.member)) t u → IsUnderWay s → IsUnderWay u
  goes_on s t u p same pops v way = record { reached = reached; called = called; queued = queued }
    where
      now : (m : Declared) → is_called u.called m ≡ (is_called s.called m || calls p m)
      now m = v.called m ∙ ap (λ (l : List MethodName). is_called l m || calls p m) same

      waits : (test : Declared → Bool) → list_any test s.queue ≡ (list_any test t.queue || test p)
      waits test = ap (list_any test) pops ∙ list_any-append test t.queue (p ∷ []) ∙ ap (λ (b : Bool). list_any test t.queue || b) (or_false (test p))

      added : (test : Declared → Bool) → list_any test u.queue ≡ (list_any test t.queue || list_any test (filter (is_fresh s.called u.called) (methods_in cs)))
      added test = v.queue test ∙ ap (λ (l : List MethodName). list_any test t.queue || list_any test (filter (is_fresh l u.called) (methods_in cs))) same

      split : (test : Declared → Bool) → list_any test (filter (is_found u.called) (methods_in cs)) ≡ (list_any test (filter (is_found s.called) (methods_in cs)) || list_any test (filter (is_fresh s.called u.called) (methods_in cs)))
      split test =
          ap (list_any test) (filter_as (is_found u.called) (λ m. is_found s.called m || is_fresh s.called u.called m) (methods_in cs) (λ m. found_split (is_root_of m) (is_called s.called m) (is_called u.called m) (calls p m) (now m)))
          ∙ any_or (is_found s.called) (is_fresh s.called u.called) test (methods_in cs)

      reached : (m : Declared) → list_any (λ k. calls k m) (filter (is_found u.called) (methods_in cs)) ≡ true → (is_called u.called m || list_any (λ k. calls k m) u.queue) ≡ true
      reached m h =
          let test : Declared → Bool = λ k. calls k m in
          either (list_any test (filter (is_found s.called) (methods_in cs))) (list_any test (filter (is_fresh s.called u.called) (methods_in cs))) (sym (split test) ∙ h)
          (λ old. either (is_called s.called m) (list_any test s.queue) (way.reached m old)
          (λ e. or_left (is_called u.called m) (list_any test u.queue) (now m ∙ or_left (is_called s.called m) (calls p m) e))
          (λ e. either (list_any test t.queue) (calls p m) (sym (waits test) ∙ e)
          (λ w. or_right (is_called u.called m) (list_any test u.queue) (added test ∙ or_left (list_any test t.queue) (list_any test (filter (is_fresh s.called u.called) (methods_in cs))) w))
          (λ w. or_left (is_called u.called m) (list_any test u.queue) (now m ∙ or_right (is_called s.called m) (calls p m) w))))
          (λ new. or_right (is_called u.called m) (list_any test u.queue) (added test ∙ or_right (list_any test t.queue) (list_any test (filter (is_fresh s.called u.called) (methods_in cs))) new))

      called : (m : Declared) → is_called u.called m ≡ true → takes m ≡ true
      called m h =
          either (is_called s.called m) (calls p m) (sym (now m) ∙ h) (λ e. way.called m e)
          (λ e. way.queued (λ k. calls k m) (waits (λ k. calls k m) ∙ or_right (list_any (λ k. calls k m) t.queue) (calls p m) e))

      queued : (test : Declared → Bool) → list_any test u.queue ≡ true → list_any test (filter (is_taken cs) (methods_in cs)) ≡ true
      queued test h =
          let fresh_taken : Within (is_fresh s.called u.called) (is_taken cs) (methods_in cs) =
          all_map _ _ (methods_in cs) (λ m k e. k (or_right (is_root_of m) (takes m) (called m ((both_true (not (is_found s.called m)) (is_called u.called m) e).1)))) (closed cs) in
          either (list_any test t.queue) (list_any test (filter (is_fresh s.called u.called) (methods_in cs))) (sym (added test) ∙ h)
          (λ e. way.queued test (waits test ∙ or_left (list_any test t.queue) (test p) e))
          (λ e. filter_covers (is_fresh s.called u.called) (is_taken cs) (methods_in cs) fresh_taken test e)

  -- nothing waits any more
  pub is_done : (s : State) → s.queue ≡ [] → IsUnderWay s → Finds cs s.called
  is_done s done way = both (methods_in cs) ((taken_law cs).least (is_found s.called) found_closed) sound
    where
      found_closed : IsClosed cs (is_found s.called)
      found_closed = all_of _ (methods_in cs) (λ m h. either (is_root_of m) (list_any (λ k. calls k m) (filter (is_found s.called) (methods_in cs))) h
          (λ e. or_left (is_root_of m) (is_called s.called m) e)
          (λ e. or_right (is_root_of m) (is_called s.called m) (sym (ap (λ (ms : List Declared). is_called s.called m || list_any (λ k. calls k m) ms) done ∙ or_false (is_called s.called m)) ∙ way.reached m e)))

      sound : Within (is_found s.called) (is_taken cs) (methods_in cs)
      sound = all_map _ _ (methods_in cs) (λ m k h. either (is_root_of m) (is_called s.called m) h
          (λ e. k (or_left (is_root_of m) (takes m) e)) (λ e. k (or_right (is_root_of m) (takes m) (way.called m e)))) (closed cs)

      both : (ms : List Declared) → Within (is_taken cs) (is_found s.called) ms → Within (is_found s.called) (is_taken cs) ms → Same (is_found s.called) (is_taken cs) ms
      both [] f g = tt
      both (m ∷ ms) f g = (same_test (is_found s.called m) (is_taken cs m) g.0 f.0, both ms f.1 g.1)

  pub flags : (called : List MethodName) → Finds cs called → map (is_found called) (methods_in cs) ≡ map (is_taken cs) (methods_in cs)
  flags called h = map_same (is_found called) (is_taken cs) (methods_in cs) h
