-- The places of classes by names, as a tree has them.
use Rattle.std.proofs.Common.{◌≡◌, ℕ, ◌+◌, ◌<◌, Bool, true, false, cond, List, [], ◌∷◌, ◌++◌, length, take, get_or, Some, None, Vec, Bor, refl, sym, ap, ◌∙◌, arith}
use Rattle.std.specs.Prelude.{bytes_eq, if◌then◌else◌}
use Rattle.std.specs.Map.{lookup}
use Rattle.std.specs.BTreeMap.{is_at, insert_entry}
use Rattle.std.specs.declared.cmp.Ordering.{Ordering}
use Rattle.std.specs.declared.cmp.Ordering.TheVariants.{Less, Equal, Greater}
use Rattle.std.specs.Ordering.{is_eq, nat_cmp}
use Rattle.std.specs.Cmp.Lexicographic.{slice_cmp, nat_list_eq_equiv}
use Rattle.std.proofs.lemmas.List.{length-map, length-take-le}
use Rattle.std.proofs.lemmas.Map.Text.{is_eq-slice_cmp}
use Rattle.jmodel.specs.format.ClassFile.{ClassFile}
use Rattle.objects.specs.linking.Members.{own_name}
use Rattle.hierarchy.specs.Numbers.{or_number}
use Rattle.hierarchy.specs.Places.{place_of}
use Rattle.hierarchy.proofs.Each.{map_next}
use Rattle.hierarchy.proofs.InOrder.{seen}
use Rattle.hierarchy.proofs.Numbering.{position_push}
use Rattle.hierarchy.proofs.Parts.{same_bytes}
use Rattle.heap_layout.specs.Folder.{place_under, HasPlaces}

-- another name than that of an entry
other : (q k x : List ℕ) → bytes_eq q k ≡ true → bytes_eq k x ≡ false → bytes_eq q x ≡ false
other q k x h g = ap (λ (l : List ℕ). bytes_eq l x) (same_bytes q k h) ∙ g

module _ {A : Type 0} where
  abbrev pub by_bytes : Vec ℕ A → Vec ℕ A → Ordering
  by_bytes k l = slice_cmp nat_cmp k.items l.items

  -- what is got under a name
  pub got : (name : List ℕ) (es : List (Vec ℕ A × ℕ)) → lookup (is_at (λ (k : Vec ℕ A). slice_cmp nat_cmp name k.items)) es ≡ place_under es name
  got name [] = refl
  got name (e ∷ es) = rw (is_eq-slice_cmp name e.0.items, got name es) refl

  -- a place is put under a name
  pub put_under : (es : List (Vec ℕ A × ℕ)) (k : Vec ℕ A) (place : ℕ) (q : List ℕ) → place_under (insert_entry by_bytes es k place) q ≡ cond (bytes_eq q k.items) (Some place) (place_under es q)
  put_under [] k place q = refl
  put_under (e ∷ es) k place q = go (slice_cmp nat_cmp k.items e.0.items) refl (put_under es k place q)
    where
      tested : (o : Ordering) → slice_cmp nat_cmp k.items e.0.items ≡ o → bytes_eq k.items e.0.items ≡ is_eq o
      tested o h = sym (is_eq-slice_cmp k.items e.0.items) ∙ ap is_eq h

      at : (b : Bool) → bytes_eq q e.0.items ≡ b → bytes_eq q k.items ≡ b → cond b (Some place) (place_under es q) ≡ cond b (Some place) (cond b (Some e.1) (place_under es q))
      at true g h = refl
      at false g h = refl

      past : (a b : Bool) → bytes_eq q k.items ≡ a → bytes_eq q e.0.items ≡ b → bytes_eq k.items e.0.items ≡ false
          → cond b (Some e.1) (cond a (Some place) (place_under es q)) ≡ cond a (Some place) (cond b (Some e.1) (place_under es q))
      past true true g h differs = let no = other q k.items e.0.items g differs in absurd cc
      past true false g h differs = refl
      past false true g h differs = refl
      past false false g h differs = refl

      go : (o : Ordering) → slice_cmp nat_cmp k.items e.0.items ≡ o → place_under (insert_entry by_bytes es k place) q ≡ cond (bytes_eq q k.items) (Some place) (place_under es q)
          → place_under (insert_entry by_bytes (e ∷ es) k place) q ≡ cond (bytes_eq q k.items) (Some place) (place_under (e ∷ es) q)
      go Less h next = rw h refl
      go Equal h next =
          let same : k.items ≡ e.0.items = same_bytes k.items e.0.items (tested Equal h) in
          let names : bytes_eq q k.items ≡ bytes_eq q e.0.items = ap (bytes_eq q) same in
          rw (h, names) (at (bytes_eq q e.0.items) refl names)
      go Greater h next = rw (h, next) (past (bytes_eq q k.items) (bytes_eq q e.0.items) refl refl (tested Greater h))

-- ---- one class after another

-- the place with one more class
pub one_more : (classes : List (Bor ClassFile)) (i : ℕ) (c : Bor ClassFile) → i < length classes → c ≡ get_or classes i c
    → (q : List ℕ) → place_of (seen (take (i + 1) classes)) q ≡ (if bytes_eq (own_name c.now) q then or_number (place_of (seen (take i classes)) q) i else place_of (seen (take i classes)) q)
one_more classes i c inside is q =
    let many : length (seen (take i classes)) ≡ i = length-map _ _ ∙ length-take-le i classes (omega arith) in
    let more : seen (take (i + 1) classes) ≡ seen (take i classes) ++ c.now ∷ [] = map_next (λ (k : Bor ClassFile). k.now) classes i c inside is in
    ap (λ (l : List ClassFile). place_of l q) more ∙ position_push (λ (k : ClassFile). bytes_eq (own_name k) q) (seen (take i classes)) c.now
    ∙ ap (λ (n : ℕ). if bytes_eq (own_name c.now) q then or_number (place_of (seen (take i classes)) q) n else place_of (seen (take i classes)) q) many

module _ {A : Type 0} (classes : List (Bor ClassFile)) (i : ℕ) (c : Bor ClassFile) (inside : i < length classes) (is : c ≡ get_or classes i c) where
  -- a new name is put in
  pub new_name : (es : List (Vec ℕ A × ℕ)) (k : Vec ℕ A) → k.items ≡ own_name c.now → HasPlaces es (seen (take i classes)) → place_under es k.items ≡ None
      → HasPlaces (insert_entry by_bytes es k i) (seen (take (i + 1) classes))
  new_name es k name so_far none q = put_under es k i q ∙ go (bytes_eq q k.items) refl ∙ sym (one_more classes i c inside is q)
    where
      turned : bytes_eq (own_name c.now) q ≡ bytes_eq q k.items
      turned = nat_list_eq_equiv.symm (own_name c.now) q ∙ ap (bytes_eq q) (sym name)

      go : (b : Bool) → bytes_eq q k.items ≡ b → cond b (Some i) (place_under es q) ≡ (if bytes_eq (own_name c.now) q then or_number (place_of (seen (take i classes)) q) i else place_of (seen (take i classes)) q)
      go true h =
          let here : place_of (seen (take i classes)) q ≡ None = sym (so_far q) ∙ ap (place_under es) (same_bytes q k.items h) ∙ none in
          let test : bytes_eq (own_name c.now) q ≡ true = turned ∙ h in
          rw (test, here) refl
      go false h = let test : bytes_eq (own_name c.now) q ≡ false = turned ∙ h in rw test (so_far q)

  -- a name that has a place keeps it
  pub old_name : (es : List (Vec ℕ A × ℕ)) (n : List ℕ) (m : ℕ) → n ≡ own_name c.now → HasPlaces es (seen (take i classes)) → place_under es n ≡ Some m
      → HasPlaces es (seen (take (i + 1) classes))
  old_name es n m name so_far some q = go (bytes_eq q n) refl ∙ sym (one_more classes i c inside is q)
    where
      turned : bytes_eq (own_name c.now) q ≡ bytes_eq q n
      turned = nat_list_eq_equiv.symm (own_name c.now) q ∙ ap (bytes_eq q) (sym name)

      go : (b : Bool) → bytes_eq q n ≡ b → place_under es q ≡ (if bytes_eq (own_name c.now) q then or_number (place_of (seen (take i classes)) q) i else place_of (seen (take i classes)) q)
      go true h =
          let at_name : place_under es q ≡ Some m = ap (place_under es) (same_bytes q n h) ∙ some in
          let here : place_of (seen (take i classes)) q ≡ Some m = sym (so_far q) ∙ at_name in
          let test : bytes_eq (own_name c.now) q ≡ true = turned ∙ h in
          rw (test, here) at_name
      go false h = let test : bytes_eq (own_name c.now) q ≡ false = turned ∙ h in rw test (so_far q)
