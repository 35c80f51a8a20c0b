-- Tables of lists, as loops build them.
use Rattle.std.proofs.Common.{◌≡◌, ℕ, zero, suc, ◌+◌, ◌<◌, ◌≤◌, List, [], ◌∷◌, ◌++◌, length, map, drop, get_or, Option, Some, None, Vec, Bor, IfSome, nat_lt, add-one, sym, ap, ◌∙◌, subst, arith}
use Rattle.std.specs.Prelude.{is_some, slice_get}
use Rattle.std.proofs.lemmas.List.{map-append, length-map, get_or_past}
use Rattle.std.proofs.lemmas.Bool.Decides.{nat_tests}
use Rattle.jmodel.specs.format.ClassFile.{ClassFile}
use Rattle.resolution.specs.Ways.{FindSame, entry_at, IsTable, listed}
use Rattle.resolution.proofs.Finding.{table_more}
use Rattle.hierarchy.proofs.InOrder.{seen}

-- the class at an index of a slice of references
pub seen_there : (classes : List (Bor ClassFile)) (i : ℕ) (c : Bor ClassFile) → i < length classes → c ≡ get_or classes i c → slice_get (seen classes) i ≡ Some c.now
seen_there [] i c inside is = absurd (omega (arith, inside))
seen_there (k ∷ classes) zero c inside is = ap (λ (x : Bor ClassFile). Some x.now) (sym is)
seen_there (k ∷ classes) (suc i) c inside is = seen_there classes i c (omega (arith, inside)) is

-- from a place on a list begins with what stands there
pub drop_there : {A : Type 0} (xs : List A) (i : ℕ) (x : A) → slice_get xs i ≡ Some x → drop i xs ≡ x ∷ drop (i + 1) xs
drop_there {A} xs i x h = go xs i h ∙ ap (λ (n : ℕ). x ∷ drop n xs) (sym (add-one i))
  where
    go : (xs : List A) (i : ℕ) → slice_get xs i ≡ Some x → drop i xs ≡ x ∷ drop (suc i) xs
    go [] i h = absurd cc
    go (y ∷ xs) zero h = let same : y ≡ x = cc in ap (λ (z : A). z ∷ xs) same
    go (y ∷ xs) (suc i) h = go xs i h

-- what the class at each place lists
abbrev pub listed_names : List ClassFile → (ClassFile → List (List ℕ)) → ℕ → List ℕ
listed_names cs names p = listed cs names (slice_get cs p)

module _ {A : Type 0} where
  -- the lists of vectors
  abbrev pub lists : List (Vec ℕ A) → List (List ℕ)
  lists vs = map (λ v. v.items) vs

  -- one more vector has one more list
  pub lists_more : (vs : List (Vec ℕ A)) (v : Vec ℕ A) → lists (vs ++ v ∷ []) ≡ lists vs ++ v.items ∷ []
  lists_more vs v = map-append (λ (w : Vec ℕ A). w.items) vs (v ∷ [])

  -- there are as many
  pub as_many : (vs : List (Vec ℕ A)) → length (lists vs) ≡ length vs
  as_many vs = length-map _ _

  -- one more list is put behind a table
  pub pushed : (f : ℕ → List ℕ) (n : ℕ) (vs more : List (Vec ℕ A)) (v : Vec ℕ A) → more ≡ vs ++ v ∷ [] → IsTable f n (lists vs) → FindSame v.items (f n) → IsTable f (n + 1) (lists more)
  pushed f n vs more v put so_far is =
      subst (λ (ws : List (Vec ℕ A)). IsTable f (n + 1) (lists ws)) (sym put)
      (subst (λ (t : List (List ℕ)). IsTable f (n + 1) t) (sym (lists_more vs v)) (table_more f n (lists vs) v.items so_far is))

  -- the list at an index
  pub entry_is : (vs : List (Vec ℕ A)) (i : ℕ) (v : Vec ℕ A) → i < length vs → v ≡ get_or vs i v → entry_at (lists vs) i ≡ v.items
  entry_is [] i v inside is = absurd (omega (arith, inside))
  entry_is (w ∷ vs) zero v inside is = ap (λ (x : Vec ℕ A). x.items) (sym is)
  entry_is (w ∷ vs) (suc i) v inside is = entry_is vs i v (omega (arith, inside)) is

  -- past the last there is none
  pub entry_past : (vs : List (Vec ℕ A)) (i : ℕ) → length vs ≤ i → entry_at (lists vs) i ≡ []
  entry_past vs i past = get_or_past (lists vs) i [] (omega (arith, as_many vs, past))

  -- what is got at an index
  abbrev pub items_in : Option (Bor (Vec ℕ A)) → List ℕ
  items_in None = []
  items_in (Some v) = v.now.items

  -- a list as it is got
  pub entry_got : (vs : List (Vec ℕ A)) (i : ℕ) (o : Option (Bor (Vec ℕ A))) → is_some o ≡ nat_lt i (length vs) → IfSome o (λ v. v.now ≡ get_or vs i v.now) → entry_at (lists vs) i ≡ items_in o
  entry_got vs i None there is = let past : length vs ≤ i = grind (arith, nat_tests) in entry_past vs i past
  entry_got vs i (Some v) there is = let inside : i < length vs = grind (arith, nat_tests) in entry_is vs i v.now inside is
