-- Look-ups by names in trees.
use Rattle.std.proofs.Common.{◌≡◌, ℕ, ◌+◌, Bool, true, false, ◌&&◌, ◌||◌, cond, List, [], ◌∷◌, ◌++◌, Option, Some, None, Vec, Bor, refl, sym, ap, ◌∙◌, arith}
use Rattle.std.specs.Prelude.{map, bytes_eq, is_some, option_copied, option_map, unwrap_or, if◌then◌else◌}
use Rattle.std.specs.List.{list_any}
use Rattle.std.specs.Map.{lookup}
use Rattle.std.specs.BTreeMap.{is_at}
use Rattle.std.proofs.lemmas.List.{append-nil}
use Rattle.std.specs.declared.cmp.Ordering.{Ordering}
use Rattle.std.specs.declared.cmp.Ordering.TheVariants.{Less, Equal, Greater}
use Rattle.std.specs.Ordering.{is_eq, nat_cmp, ordering_then}
use Rattle.std.specs.Cmp.Lexicographic.{slice_cmp}
use Rattle.std.proofs.lemmas.Map.Text.{is_eq-slice_cmp}
use Rattle.hierarchy.specs.declared.names.Key.{Key}
use Rattle.hierarchy.specs.contracts.names.KeyOrd.TheImpl.{cmp-value}
use Rattle.jmodel.specs.declared.name.MethodName.{MethodName}
use Rattle.objects.specs.linking.Members.{is_name}
use Rattle.objects.specs.linking.Classes.{Declared}
use Rattle.hierarchy.specs.Names.{named, has, group_of, number_of, count_of}
use Rattle.hierarchy.specs.Numbers.{or_number}
use Rattle.hierarchy.proofs.Parts.{any_map}
use Rattle.hierarchy.proofs.SearchLaws.{name_symm, same_name}

abbrev texts : Key → MethodName
texts k = named k.class.now k.name.now k.descriptor.now

abbrev ref : List ℕ → Bor (List ℕ)
ref text = record { ref_ptr = (0, 0); now = text }

-- some key with these texts
abbrev key : MethodName → Key
key q = record { name = ref q.name; descriptor = ref q.descriptor; class = ref q.class }

is_eq-then : (a b : Ordering) → is_eq (ordering_then a b) ≡ (is_eq a && is_eq b)
is_eq-then Less b = refl
is_eq-then Equal b = refl
is_eq-then Greater b = refl

and_assoc : (a b c : Bool) → (a && (b && c)) ≡ (a && b && c)
and_assoc true b c = refl
and_assoc false b c = refl

tested : (k l : Key) → is_at (cmp-value.it k) l ≡ is_name (texts k) (texts l)
tested k l = is_eq-then (slice_cmp nat_cmp k.name.now l.name.now) (ordering_then (slice_cmp nat_cmp k.descriptor.now l.descriptor.now) (slice_cmp nat_cmp k.class.now l.class.now))
    ∙ rw (is_eq-then (slice_cmp nat_cmp k.descriptor.now l.descriptor.now) (slice_cmp nat_cmp k.class.now l.class.now), is_eq-slice_cmp k.name.now l.name.now, is_eq-slice_cmp k.descriptor.now l.descriptor.now, is_eq-slice_cmp k.class.now l.class.now)
    (and_assoc (bytes_eq k.name.now l.name.now) (bytes_eq k.descriptor.now l.descriptor.now) (bytes_eq k.class.now l.class.now))

any_same : {X : Type 0} (f g : X → Bool) (xs : List X) → ((x : X) → f x ≡ g x) → list_any f xs ≡ list_any g xs
any_same f g [] h = refl
any_same f g (x ∷ xs) h = rw (h x, any_same f g xs h) refl

pub set_has : (k : Key) (ks : List Key) → list_any (is_at (cmp-value.it k)) ks ≡ has (map texts ks) (texts k)
set_has k ks = any_same (is_at (cmp-value.it k)) (λ l. is_name (texts k) (texts l)) ks (tested k) ∙ sym (any_map (is_name (texts k)) texts ks)

-- a set after a key is put in
pub set_with : (k : Key) (old new : List Key) → ((q : Key) → list_any (is_at (cmp-value.it q)) new ≡ cond (is_at (cmp-value.it k) q) true (list_any (is_at (cmp-value.it q)) old))
    → (q : MethodName) → has (map texts new) q ≡ (has (map texts old) q || is_name q (texts k))
set_with k old new h q =
    sym (set_has (key q) new) ∙ h (key q) ∙ rw (tested k (key q), set_has (key q) old) (go (is_name (texts k) q) (has (map texts old) q) (is_name q (texts k)) (name_symm (texts k) q))
  where
    go : (a b e : Bool) → a ≡ e → cond a true b ≡ (b || e)
    go true true e h = refl
    go true false e h = h
    go false true e h = refl
    go false false e h = h

-- ---- what stands under a key

module _ {X Y : Type 0} (f : X → Y) where
  found : (k : Key) (es : List (Key × X)) → lookup (is_name (texts k)) (map (λ e. (texts e.0, f e.1)) es) ≡ option_map f (lookup (is_at (cmp-value.it k)) es)
  found k [] = refl
  found k (e ∷ es) = go (is_name (texts k) (texts e.0)) (is_at (cmp-value.it k) e.0) (tested k e.0) (found k es)
    where
      go : (a b : Bool) → b ≡ a → lookup (is_name (texts k)) (map (λ e. (texts e.0, f e.1)) es) ≡ option_map f (lookup (is_at (cmp-value.it k)) es)
          → cond a (Some (f e.1)) (lookup (is_name (texts k)) (map (λ e. (texts e.0, f e.1)) es)) ≡ option_map f (cond b (Some e.1) (lookup (is_at (cmp-value.it k)) es))
      go true true h r = refl
      go true false h r = absurd cc
      go false true h r = absurd cc
      go false false h r = r

-- ---- groups

module _ {A : Type 0} where
  abbrev pub methods : Vec (Bor Declared) A → List Declared
  methods v = map (λ m. m.now) v.items

  abbrev pub seen : List (Key × Vec (Bor Declared) A) → List (MethodName × List Declared)
  seen es = map (λ e. (texts e.0, methods e.1)) es

  abbrev pub under : List (Key × Vec (Bor Declared) A) → Key → Option (Vec (Bor Declared) A)
  under es k = lookup (is_at (cmp-value.it k)) es

  abbrev pub group : Option (Vec (Bor Declared) A) → List Declared
  group o = unwrap_or (option_map methods o) []

  pub group_is : (k : Key) (es : List (Key × Vec (Bor Declared) A)) → group_of (seen es) (texts k) ≡ group (under es k)
  group_is k es = ap (λ (o : Option (List Declared)). unwrap_or o []) (found methods k es)

  -- groups after one has one more method
  pub group_with : (k : Key) (m : Bor Declared) (w : Vec (Bor Declared) A) (old new : List (Key × Vec (Bor Declared) A)) → methods w ≡ group (under old k) ++ m.now ∷ []
      → ((q : Key) → under new q ≡ cond (is_at (cmp-value.it k) q) (Some w) (under old q))
      → (q : MethodName) → group_of (seen new) q ≡ group_of (seen old) q ++ (if is_name q (texts k) then m.now ∷ [] else [])
  group_with k m w old new is h q = go (is_name q (texts k)) refl
    where
      now_under : (b : Bool) → is_name q (texts k) ≡ b → group_of (seen new) q ≡ group (cond b (Some w) (under old (key q)))
      now_under b e = group_is (key q) new ∙ ap group (h (key q) ∙ ap (λ (t : Bool). cond t (Some w) (under old (key q))) (tested k (key q) ∙ name_symm (texts k) q ∙ e))

      go : (b : Bool) → is_name q (texts k) ≡ b → group_of (seen new) q ≡ group_of (seen old) q ++ cond b (m.now ∷ []) []
      go true e =
          let old_is : group_of (seen old) q ≡ group (under old k) = ap (group_of (seen old)) (same_name q (texts k) e) ∙ group_is k old in
          now_under true e ∙ is ∙ ap (λ (l : List Declared). l ++ m.now ∷ []) (sym old_is)
      go false e = now_under false e ∙ sym (group_is (key q) old) ∙ sym (append-nil (group_of (seen old) q))

-- ---- numbers

abbrev pub noted : List (Key × ℕ) → List (MethodName × ℕ)
noted es = map (λ e. (texts e.0, e.1)) es

itself : {A : Type 0} (o : Option A) → option_map (λ x. x) o ≡ o
itself None = refl
itself (Some x) = refl

pub number_is : (k : Key) (es : List (Key × ℕ)) → number_of (noted es) (texts k) ≡ lookup (is_at (cmp-value.it k)) es
number_is k es = found (λ (n : ℕ). n) k es ∙ itself (lookup (is_at (cmp-value.it k)) es)

pub none_there : {A : Type 0} (o : Option (Bor A)) → is_some o ≡ false → option_copied o ≡ None
none_there None h = refl
none_there (Some x) h = absurd cc

pub some_there : {A : Type 0} (o : Option (Bor A)) → is_some o ≡ true → (x : A) × (option_copied o ≡ Some x)
some_there None h = absurd cc
some_there (Some x) h = (x.now, refl)

-- what stands under a name doesn't change where it has a number
pub stays : (numbers : List (MethodName × ℕ)) (n : MethodName) (m number : ℕ) → number_of numbers n ≡ Some m
    → (q : MethodName) → number_of numbers q ≡ (if is_name q n then or_number (number_of numbers q) number else number_of numbers q)
stays numbers n m number is q = go (is_name q n) refl
  where
    go : (b : Bool) → is_name q n ≡ b → number_of numbers q ≡ (if b then or_number (number_of numbers q) number else number_of numbers q)
    go true e =
        let there : number_of numbers q ≡ Some m = ap (number_of numbers) (same_name q n e) ∙ is in
        there ∙ sym (ap (λ (o : Option ℕ). or_number o number) there)
    go false e = refl

-- a number is put under a key
module _ (k : Key) (number : ℕ) (old new : List (Key × ℕ)) (puts : (q : Key) → lookup (is_at (cmp-value.it q)) new ≡ cond (is_at (cmp-value.it k) q) (Some number) (lookup (is_at (cmp-value.it q)) old)) where
  put_there : (q : MethodName) → number_of (noted new) q ≡ cond (is_name q (texts k)) (Some number) (number_of (noted old) q)
  put_there q =
      number_is (key q) new ∙ puts (key q) ∙ ap (λ (t : Bool). cond t (Some number) (lookup (is_at (cmp-value.it (key q))) old)) (tested k (key q) ∙ name_symm (texts k) q)
      ∙ ap (cond (is_name q (texts k)) (Some number)) (sym (number_is (key q) old))

  -- it is the first
  pub first : number_of (noted old) (texts k) ≡ None → (q : MethodName) → number_of (noted new) q ≡ (if is_name q (texts k) then or_number (number_of (noted old) q) number else number_of (noted old) q)
  first none q = put_there q ∙ go (is_name q (texts k)) refl
    where
      go : (b : Bool) → is_name q (texts k) ≡ b → cond b (Some number) (number_of (noted old) q) ≡ (if b then or_number (number_of (noted old) q) number else number_of (noted old) q)
      go true e = sym (ap (λ (o : Option ℕ). or_number o number) (ap (number_of (noted old)) (same_name q (texts k) e) ∙ none))
      go false e = refl

  -- it is one more than before
  pub counts : number ≡ count_of (noted old) (texts k) + 1 → (q : MethodName) → count_of (noted new) q ≡ count_of (noted old) q + (if is_name q (texts k) then 1 else 0)
  counts more q = ap (λ (o : Option ℕ). unwrap_or o 0) (put_there q) ∙ go (is_name q (texts k)) refl
    where
      go : (b : Bool) → is_name q (texts k) ≡ b → unwrap_or (cond b (Some number) (number_of (noted old) q)) 0 ≡ count_of (noted old) q + (if b then 1 else 0)
      go true e = more ∙ ap (λ (n : MethodName). count_of (noted old) n + 1) (sym (same_name q (texts k) e))
      go false e = omega arith
