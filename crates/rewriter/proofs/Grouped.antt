-- Classes of different names, and lists that stand class by class: what is of one class is one run of them.
use Rattle.std.proofs.Common.{◌≡◌, ℕ, Bool, true, false, ◌||◌, List, [], ◌∷◌, ◌++◌, Some, None, refl, sym, ap, ◌∙◌, subst, append_assoc}
use Rattle.std.specs.Prelude.{bytes_eq, filter, if◌then◌else◌}
use Rattle.std.specs.List.{flat_map, list_any, AllByRecursion}
use Rattle.std.proofs.lemmas.List.{append-nil}
use Rattle.std.proofs.lemmas.List.Concat.{flat_map-cons}
use Rattle.std.proofs.lemmas.List.Elements.{filter-append}
use Rattle.std.proofs.lemmas.Slice.Eq.{bytes_eq-Decides}
use Rattle.jmodel.specs.declared.refusal.Refusal.TheVariants.{DoubledClass}
use Rattle.jmodel.specs.format.ClassFile.{ClassFile}
use Rattle.objects.specs.linking.Members.{own_name}
use Rattle.objects.specs.linking.Classes.{doubled_among}
use Rattle.rewriter.proofs.Lists.{filter_keeps, filter_drops, all_passing, all_as, all_both, all_append, all_true}

-- ---- classes of different names

abbrev pub AreOthers : List ℕ → List ClassFile → Type 0
AreOthers name ds = AllByRecursion (λ (d : ClassFile). bytes_eq (own_name d) name ≡ false) ds

abbrev pub AreOther : List ClassFile → Type 0
AreOther [] = Unit {0}
AreOther (c ∷ cs) = AreOthers (own_name c) cs × AreOther cs

undoubled : (names : List (List ℕ)) (c : ClassFile) (cs : List ClassFile) → doubled_among names (c ∷ cs) ≡ None → (list_any (bytes_eq (own_name c)) names ≡ false) × (doubled_among (own_name c ∷ names) cs ≡ None)
undoubled names c cs e = go (list_any (bytes_eq (own_name c)) names) refl e
  where
    go : (b : Bool) → list_any (bytes_eq (own_name c)) names ≡ b → (if b then Some (DoubledClass (own_name c)) else doubled_among (own_name c ∷ names) cs) ≡ None → (list_any (bytes_eq (own_name c)) names ≡ false) × (doubled_among (own_name c ∷ names) cs ≡ None)
    go true is e = cc
    go false is e = (is, e)

unlisted : (n m : List ℕ) (names : List (List ℕ)) → list_any (bytes_eq m) names ≡ false → list_any (bytes_eq n) names ≡ true → bytes_eq m n ≡ false
unlisted n m names none some = go (bytes_eq m n) refl
  where
    go : (b : Bool) → bytes_eq m n ≡ b → b ≡ false
    go true is = let same = (bytes_eq-Decides m n).0 is in let fall : true ≡ false = sym some ∙ ap (λ (t : List ℕ). list_any (bytes_eq t) names) (sym same) ∙ none in cc
    go false is = refl

later : (a b : Bool) → b ≡ true → (a || b) ≡ true
later true b e = refl
later false b e = e

others_of : (n : List ℕ) (names : List (List ℕ)) (cs : List ClassFile) → doubled_among names cs ≡ None → list_any (bytes_eq n) names ≡ true → AreOthers n cs
others_of n names [] e h = tt
others_of n names (c ∷ cs) e h =
    let u = undoubled names c cs e in
    (unlisted n (own_name c) names u.0 h, others_of n (own_name c ∷ names) cs u.1 (later (bytes_eq n (own_name c)) (list_any (bytes_eq n) names) h))

-- classes of which none is told to be a second one of a name
pub others : (names : List (List ℕ)) (cs : List ClassFile) → doubled_among names cs ≡ None → AreOther cs
others names [] e = tt
others names (c ∷ cs) e =
    let u = undoubled names c cs e in
    let own : bytes_eq (own_name c) (own_name c) ≡ true = (bytes_eq-Decides (own_name c) (own_name c)).1 refl in
    (others_of (own_name c) (own_name c ∷ names) cs u.1 (ap (λ b. b || list_any (bytes_eq (own_name c)) names) own), others (own_name c ∷ names) cs u.1)

flipped : (m n : List ℕ) → bytes_eq m n ≡ false → bytes_eq n m ≡ false
flipped m n e = go (bytes_eq n m) refl
  where
    go : (b : Bool) → bytes_eq n m ≡ b → b ≡ false
    go true is =
        let same = (bytes_eq-Decides n m).0 is in
        let fall : true ≡ false = sym ((bytes_eq-Decides m n).1 (sym same)) ∙ e in
        cc
    go false is = refl

-- ---- runs

-- those of one name are all kept
all_kept : {A : Type 0} (key : A → List ℕ) (name : List ℕ) (xs : List A) → AllByRecursion (λ (x : A). key x ≡ name) xs → filter (λ (x : A). bytes_eq (key x) name) xs ≡ xs
all_kept key name [] h = refl
all_kept {A} key name (x ∷ xs) h =
    filter_keeps (λ (y : A). bytes_eq (key y) name) x xs ((bytes_eq-Decides (key x) name).1 h.0) ∙ ap (λ (l : List A). x ∷ l) (all_kept key name xs h.1)

module _ {A : Type 0} (key : A → List ℕ) (Q : ClassFile → List A → Type 0) where
  abbrev pub of_class : ClassFile → A → Bool
  of_class c x = bytes_eq (key x) (own_name c)

  -- a list that stands class by class
  abbrev pub AreRuns : List ClassFile → List A → Type 0
  AreRuns [] xs = xs ≡ []
  AreRuns (c ∷ cs) xs = (own : List A) × (rest : List A) × (xs ≡ own ++ rest) × AllByRecursion (λ (x : A). key x ≡ own_name c) own × Q c own × AreRuns cs rest

  abbrev NoneOf : ClassFile → List A → Type 0
  NoneOf c xs = AllByRecursion (λ (x : A). of_class c x ≡ false) xs

  all_dropped : (c : ClassFile) (xs : List A) → NoneOf c xs → filter (of_class c) xs ≡ []
  all_dropped c [] h = refl
  all_dropped c (x ∷ xs) h = filter_drops (of_class c) x xs h.0 ∙ all_dropped c xs h.1

  run_other : (c d : ClassFile) (xs : List A) → bytes_eq (own_name d) (own_name c) ≡ false → AllByRecursion (λ (x : A). key x ≡ own_name d) xs → NoneOf c xs
  run_other c d [] o h = tt
  run_other c d (x ∷ xs) o h = (ap (λ (t : List ℕ). bytes_eq t (own_name c)) h.0 ∙ o, run_other c d xs o h.1)

  runs_other : (c : ClassFile) (ds : List ClassFile) (xs : List A) → AreOthers (own_name c) ds → AreRuns ds xs → NoneOf c xs
  runs_other c [] xs o h = subst (NoneOf c) (sym h) tt
  runs_other c (d ∷ ds) xs o h = subst (NoneOf c) (sym h.2) (all_append (λ (x : A). of_class c x ≡ false) h.0 h.1 (run_other c d h.0 o.0 h.3) (runs_other c ds h.1 o.1 h.5))

  module _ (whole : List A) where
    -- what is of a class
    abbrev pub own_of : ClassFile → List A
    own_of c = filter (of_class c) whole

    runs_from : (ds : List ClassFile) (front xs : List A) → AreOther ds → whole ≡ front ++ xs → AllByRecursion (λ (c : ClassFile). NoneOf c front) ds → AreRuns ds xs
        → AllByRecursion (λ (c : ClassFile). Q c (own_of c)) ds × (xs ≡ flat_map own_of ds)
    runs_from [] front xs o w f h = (tt, h)
    runs_from (c ∷ ds) front xs o w f h =
        let here : own_of c ≡ h.0 =
        ap (filter (of_class c)) (w ∙ ap (λ (l : List A). front ++ l) h.2) ∙ filter-append (of_class c) front (h.0 ++ h.1)
        ∙ ap (λ (l : List A). l ++ filter (of_class c) (h.0 ++ h.1)) (all_dropped c front f.0) ∙ filter-append (of_class c) h.0 h.1
        ∙ ap (λ (l : List A). l ++ filter (of_class c) h.1) (all_kept key (own_name c) h.0 h.3) ∙ ap (λ (l : List A). h.0 ++ l) (all_dropped c h.1 (runs_other c ds h.1 o.0 h.5)) ∙ append-nil h.0 in
        let next : whole ≡ (front ++ h.0) ++ h.1 = w ∙ ap (λ (l : List A). front ++ l) h.2 ∙ sym (append_assoc front h.0 h.1) in
        let away : AllByRecursion (λ (d : ClassFile). NoneOf d (front ++ h.0)) ds =
        all_both (λ (d : ClassFile). NoneOf d front) (λ (d : ClassFile). bytes_eq (own_name d) (own_name c) ≡ false) (λ (d : ClassFile). NoneOf d (front ++ h.0))
        (λ d p q. all_append (λ (x : A). of_class d x ≡ false) front h.0 p (run_other d c h.0 (flipped (own_name d) (own_name c) q) h.3)) ds f.1 o.0 in
        let more = runs_from ds (front ++ h.0) h.1 o.1 next away h.5 in (
          (subst (Q c) (sym here) h.4, more.0),
          h.2 ∙ ap (λ (l : List A). l ++ h.1) (sym here) ∙ ap (λ (l : List A). own_of c ++ l) more.1 ∙ sym (flat_map-cons own_of c ds),
        )

    -- what is of each class, and that the list is of these, one after another
    pub runs : (cs : List ClassFile) → AreOther cs → AreRuns cs whole → AllByRecursion (λ (c : ClassFile). Q c (own_of c)) cs × (whole ≡ flat_map own_of cs)
    runs cs o h = runs_from cs [] whole o refl (all_true (λ (c : ClassFile). NoneOf c []) (λ c. tt) cs) h

    keyed : (c : ClassFile) → AllByRecursion (λ (x : A). key x ≡ own_name c) (own_of c)
    keyed c =
        all_as (λ (x : A). of_class c x ≡ true) (λ (x : A). key x ≡ own_name c) (λ x h. (bytes_eq-Decides (key x) (own_name c)).0 h) (own_of c) (all_passing (of_class c) whole)

    -- what is of a class is of no other
    pub none_of : (c : ClassFile) (ds : List ClassFile) → AreOthers (own_name c) ds → NoneOf c (flat_map own_of ds)
    none_of c [] o = tt
    none_of c (d ∷ ds) o =
        subst (NoneOf c) (sym (flat_map-cons own_of d ds)) (all_append (λ (x : A). of_class c x ≡ false) (own_of d) (flat_map own_of ds) (run_other c d (own_of d) o.0 (keyed d)) (none_of c ds o.1))
