-- A list of blocks, one for each of classes whose names differ, falls into these blocks by its items' classes.
use Rattle.std.proofs.Common.{◌≡◌, ℕ, zero, suc, List, [], ◌∷◌, ◌++◌, Some, None, Bool, true, false, ◌||◌, refl, sym, ap, ◌∙◌, subst}
use Rattle.std.specs.Prelude.{filter, bytes_eq, slice_get, if◌then◌else◌}
use Rattle.std.specs.List.{AllByRecursion, AllZip, flat_map, list_any}
use Rattle.std.proofs.lemmas.List.Elements.{filter-append}
use Rattle.std.proofs.lemmas.Slice.Eq.{bytes_eq-Decides}
use Rattle.jmodel.specs.declared.refusal.Refusal.TheVariants.{DoubledClass}
use Rattle.jmodel.specs.format.ClassFile.{ClassFile}
use Rattle.objects.specs.linking.Members.{own_name}
use Rattle.objects.specs.linking.Classes.{doubled_among}
use Rattle.rewritten_names.proofs.Lists.{filter_none, filter_all, append_none, turned}

-- ---- names that differ

abbrev pub AreOthers : List ℕ → List ClassFile → Type 0
AreOthers n xs = AllByRecursion (λ (d : ClassFile). bytes_eq (own_name d) n ≡ false) xs

abbrev pub Differ : List ClassFile → Type 0
Differ [] = Unit {0}
Differ (c ∷ cs) = AreOthers (own_name c) cs × Differ cs

either : (a b : Bool) → (a || b) ≡ true → (a ≡ false → b ≡ true)
either true b e f = cc
either false b e f = e

undoubled : (names : List (List ℕ)) (c : ClassFile) (cs : List ClassFile) → doubled_among names (c ∷ cs) ≡ None → (list_any (bytes_eq (own_name c)) names ≡ false) × (doubled_among (own_name c ∷ names) cs ≡ None)
undoubled names c cs e = go (list_any (bytes_eq (own_name c)) names) refl e
  where
    go : (b : Bool) → list_any (bytes_eq (own_name c)) names ≡ b → (if b then Some (DoubledClass (own_name c)) else doubled_among (own_name c ∷ names) cs) ≡ None → (list_any (bytes_eq (own_name c)) names ≡ false) × (doubled_among (own_name c ∷ names) cs ≡ None)
    go true is e = cc
    go false is e = (is, e)

unlisted : (n m : List ℕ) (names : List (List ℕ)) → list_any (bytes_eq m) names ≡ false → list_any (bytes_eq n) names ≡ true → bytes_eq m n ≡ false
unlisted n m names none some = go (bytes_eq m n) refl
  where
    go : (b : Bool) → bytes_eq m n ≡ b → b ≡ false
    go true is = let same = (bytes_eq-Decides m n).0 is in let fall : true ≡ false = sym some ∙ ap (λ (t : List ℕ). list_any (bytes_eq t) names) (sym same) ∙ none in cc
    go false is = refl

later : (a b : Bool) → b ≡ true → (a || b) ≡ true
later true b e = refl
later false b e = e

others : (n : List ℕ) (names : List (List ℕ)) (cs : List ClassFile) → doubled_among names cs ≡ None → list_any (bytes_eq n) names ≡ true → AreOthers n cs
others n names [] e h = tt
others n names (c ∷ cs) e h =
    let u = undoubled names c cs e in
    (unlisted n (own_name c) names u.0 h, others n (own_name c ∷ names) cs u.1 (later (bytes_eq n (own_name c)) (list_any (bytes_eq n) names) h))

pub differ : (names : List (List ℕ)) (cs : List ClassFile) → doubled_among names cs ≡ None → Differ cs
differ names [] e = tt
differ names (c ∷ cs) e =
    let u = undoubled names c cs e in
    let own : bytes_eq (own_name c) (own_name c) ≡ true = (bytes_eq-Decides (own_name c) (own_name c)).1 refl in
    (others (own_name c) (own_name c ∷ names) cs u.1 (ap (λ b. b || list_any (bytes_eq (own_name c)) names) own), differ (own_name c ∷ names) cs u.1)

-- ---- blocks

module _ {A : Type 0} (key : A → List ℕ) where
  abbrev pub of_class : List ℕ → A → Bool
  of_class n a = bytes_eq (key a) n

  abbrev pub IsBlock : ClassFile → List A → Type 0
  IsBlock c b = AllByRecursion (λ (a : A). key a ≡ own_name c) b

  abbrev pub AreBlocks : List ClassFile → List (List A) → Type 0
  AreBlocks cs bs = AllZip IsBlock cs bs

  abbrev pub joined : List (List A) → List A
  joined bs = flat_map (λ (b : List A). b) bs

  own_block : (c : ClassFile) (b : List A) → IsBlock c b → AllByRecursion (λ a. of_class (own_name c) a ≡ true) b
  own_block c [] all = tt
  own_block c (a ∷ rest) all = ((bytes_eq-Decides (key a) (own_name c)).1 all.0, own_block c rest all.1)

  other_block : (n : List ℕ) (c : ClassFile) (b : List A) → bytes_eq (own_name c) n ≡ false → IsBlock c b → AllByRecursion (λ a. of_class n a ≡ false) b
  other_block n c [] e all = tt
  other_block n c (a ∷ rest) e all = (ap (λ (t : List ℕ). bytes_eq t n) all.0 ∙ e, other_block n c rest e all.1)

  none_of : (n : List ℕ) (cs : List ClassFile) (bs : List (List A)) → AreOthers n cs → AreBlocks cs bs → filter (of_class n) (joined bs) ≡ []
  none_of n [] [] o z = refl
  none_of n [] (b ∷ bs) o z = absurd z
  none_of n (c ∷ cs) [] o z = absurd z
  none_of n (c ∷ cs) (b ∷ bs) o z =
      filter-append (of_class n) b (joined bs) ∙ ap (λ (l : List A). l ++ filter (of_class n) (joined bs)) (filter_none (of_class n) b (other_block n c b o.0 z.0)) ∙ none_of n cs bs o.1 z.1

  other_at : (n : List ℕ) (cs : List ClassFile) (i : ℕ) (c : ClassFile) → AreOthers n cs → slice_get cs i ≡ Some c → bytes_eq (own_name c) n ≡ false
  other_at n [] i c o e = cc
  other_at n (d ∷ cs) zero c o e = let s : d ≡ c = cc in subst (λ (d : ClassFile). bytes_eq (own_name d) n ≡ false) s o.0
  other_at n (d ∷ cs) (suc i) c o e = other_at n cs i c o.1 e

  -- the items of a class are its block
  pub block_at : (cs : List ClassFile) (bs : List (List A)) → Differ cs → AreBlocks cs bs → (i : ℕ) (c : ClassFile) (b : List A) → slice_get cs i ≡ Some c → slice_get bs i ≡ Some b → filter (of_class (own_name c)) (joined bs) ≡ b
  block_at [] bs d z i c b e f = cc
  block_at (x ∷ xs) [] d z i c b e f = cc
  block_at (x ∷ xs) (y ∷ ys) d z zero c b e f =
      let s : x ≡ c = cc in
      let t : y ≡ b = cc in
      subst (λ (c : ClassFile). filter (of_class (own_name c)) (y ++ joined ys) ≡ b) s
      (filter-append (of_class (own_name x)) y (joined ys)
      ∙ ap (λ (l : List A). l ++ filter (of_class (own_name x)) (joined ys)) (filter_all (of_class (own_name x)) y (own_block x y z.0))
      ∙ ap (λ (l : List A). y ++ l) (none_of (own_name x) xs ys d.0 z.1) ∙ append_none y ∙ t)
  block_at (x ∷ xs) (y ∷ ys) d z (suc i) c b e f =
      let no = turned (own_name c) (own_name x) (other_at (own_name x) xs i c d.0 e) in
      filter-append (of_class (own_name c)) y (joined ys) ∙ ap (λ (l : List A). l ++ filter (of_class (own_name c)) (joined ys)) (filter_none (of_class (own_name c)) y (other_block (own_name c) x y no z.0))
      ∙ block_at xs ys d.1 z.1 i c b e f

  each_block : (f : ClassFile → List A) (cs : List ClassFile) (bs : List (List A)) → AreBlocks cs bs → ((i : ℕ) (c : ClassFile) (b : List A) → slice_get cs i ≡ Some c → slice_get bs i ≡ Some b → f c ≡ b) → flat_map f cs ≡ joined bs
  each_block f [] [] z h = refl
  each_block f [] (b ∷ bs) z h = absurd z
  each_block f (c ∷ cs) [] z h = absurd z
  each_block f (c ∷ cs) (b ∷ bs) z h = ap (λ (l : List A). l ++ flat_map f cs) (h 0 c b refl refl) ∙ ap (λ (l : List A). b ++ l) (each_block f cs bs z.1 (λ i d e p q. h (suc i) d e p q))

  -- all of them, class by class, are the list
  pub whole : (cs : List ClassFile) (bs : List (List A)) → Differ cs → AreBlocks cs bs → flat_map (λ (c : ClassFile). filter (of_class (own_name c)) (joined bs)) cs ≡ joined bs
  whole cs bs d z = each_block (λ (c : ClassFile). filter (of_class (own_name c)) (joined bs)) cs bs z (block_at cs bs d z)
