-- Items that the paths of a list show.
use Rattle.std.proofs.Common.{◌≡◌, ◌∙◌, ◌⊎◌, ◌↔◌, inl, inr, ℕ, Bool, true, false, cond, List, [], ◌∷◌, ◌++◌, map, refl, ap, sym, subst, Contains, arith, String, string_bytes, IsSome, Option, Some, Bor, zero, suc}
use Rattle.std.proofs.lemmas.List.Elements.{Contains-append_left, Contains-append_right, Contains-push, Contains-push_cases}
use Rattle.std.proofs.lemmas.Map.Text.{is_eq-slice_cmp, text_cmp}
use Rattle.std.proofs.lemmas.Slice.Eq.{bytes_eq-Decides}
use Rattle.std.specs.Str.{bytes_eq}
use Rattle.std.specs.Map.{lookup, keys_of}
use Rattle.std.specs.Map.Iter.{deref}
use Rattle.std.specs.declared.alloc.Global.{Global}
use Rattle.std.specs.BTreeMap.{BTreeMap, get_by_text, keys, is_at}
use Rattle.deuce_io.specs.Files.{Shows, NoRepeats, IsListing}
use Rattle.deuce_io.proofs.Shows.{shows_one}

-- some of these paths shows it
abbrev pub ShownBy : List ℕ → List (List ℕ) → List ℕ × Bool → Type 0
ShownBy dir paths item = (path : List ℕ) × Contains paths path × Shows dir path item

-- the items that these paths show, none twice
pub record Listed (dir : List ℕ) (paths : List (List ℕ)) (items : List (List ℕ × Bool)) : Type 0 where
  pub each : (item : List ℕ × Bool) → Contains items item ↔ ShownBy dir paths item
  pub once : NoRepeats items

-- no path shows nothing
pub listed_none : (dir : List ℕ) → Listed dir [] []
listed_none dir = record {
  each = λ item. (λ (k, lt, is). absurd (omega arith), λ (path, (k, lt, is), shows). absurd (omega arith));
  once = λ i j d lt end same. omega arith;
}

shown_before : (dir path : List ℕ) (paths : List (List ℕ)) (item : List ℕ × Bool) → ShownBy dir paths item → ShownBy dir (paths ++ path ∷ []) item
shown_before dir path paths item (p, among, shows) = (p, Contains-append_left paths (path ∷ []) p among, shows)

shown_last : (dir path : List ℕ) (paths : List (List ℕ)) (item : List ℕ × Bool) → Shows dir path item → ShownBy dir (paths ++ path ∷ []) item
shown_last dir path paths item shows = (path, Contains-push paths path, shows)

shown_cases : (dir path : List ℕ) (paths : List (List ℕ)) (item : List ℕ × Bool) → ShownBy dir (paths ++ path ∷ []) item → ShownBy dir paths item ⊎ Shows dir path item
shown_cases dir path paths item (p, among, shows) =
    elim (Contains-push_cases paths path p among) as (λ _. ShownBy dir paths item ⊎ Shows dir path item) [
      | inl before ↦ inl (p, before, shows)
      | inr is ↦ inr (subst (λ (q : List ℕ). Shows dir q item) (sym is) shows)
    ]

-- one path more, which shows nothing
pub listed_past : (dir path : List ℕ) (paths : List (List ℕ)) (items : List (List ℕ × Bool))
    → ((item : List ℕ × Bool) → Shows dir path item → ⊥) → Listed dir paths items → Listed dir (paths ++ path ∷ []) items
listed_past dir path paths items nothing listed = record {
  each = λ item. (
    λ among. shown_before dir path paths item ((listed.each item).0 among),
    λ shown. (listed.each item).1 (elim (shown_cases dir path paths item shown) as (λ _. ShownBy dir paths item) [ inl before ↦ before | inr last ↦ absurd (nothing item last) ]),
  );
  once = listed.once;
}

-- one path more, and the item that it shows
pub listed_more : (dir path : List ℕ) (paths : List (List ℕ)) (old new : List (List ℕ × Bool)) (shown : List ℕ × Bool)
    → Shows dir path shown → ((item : List ℕ × Bool) → Contains new item ↔ (Contains old item ⊎ (item ≡ shown))) → (NoRepeats old → NoRepeats new)
    → Listed dir paths old → Listed dir (paths ++ path ∷ []) new
listed_more dir path paths old new shown shows added once listed = record {
  each = λ item. (
    λ among. elim ((added item).0 among) as (λ _. ShownBy dir (paths ++ path ∷ []) item) [
      | inl before ↦ shown_before dir path paths item ((listed.each item).0 before)
      | inr is ↦ shown_last dir path paths item (subst (λ (x : List ℕ × Bool). Shows dir path x) (sym is) shows)
    ],
    λ h. (added item).1 (elim (shown_cases dir path paths item h) as (λ _. Contains old item ⊎ (item ≡ shown)) [
      | inl before ↦ inl ((listed.each item).1 before)
      | inr last ↦ inr (shows_one dir path item shown last shows)
    ]),
  );
  once = once listed.once;
}

-- the paths of entries
abbrev pub paths_of : List (String Global × List ℕ) → List (List ℕ)
paths_of es = map (λ path. string_bytes path) (keys_of es)

first_or_later : (k x : List ℕ) (ks : List (List ℕ)) → Contains (k ∷ ks) x → (k ≡ x) ⊎ Contains ks x
first_or_later k x ks (zero, lt, is) = inl is
first_or_later k x ks (suc n, lt, is) = inr (n, omega arith, is)

found_cases : (b : Bool) (bs k v : List ℕ) (rest : Option (List ℕ)) → b ≡ bytes_eq bs k → IsSome (cond b (Some v) rest) → (bs ≡ k) ⊎ IsSome rest
found_cases true bs k v rest e found = inl ((bytes_eq-Decides bs k).0 (sym e))
found_cases false bs k v rest e found = inr found

finds : (b : Bool) (bs k v : List ℕ) (rest : Option (List ℕ)) → b ≡ bytes_eq bs k → (k ≡ bs) ⊎ IsSome rest → IsSome (cond b (Some v) rest)
finds true bs k v rest e h = refl
finds false bs k v rest e (inl is) = absurd (let t : bytes_eq bs k ≡ true = (bytes_eq-Decides bs k).1 (sym is) in let clash : false ≡ true = e ∙ t in cc)
finds false bs k v rest e (inr later) = later

-- a file that is found has its path among the paths
found_path : (bs : List ℕ) (es : List (String Global × List ℕ)) → IsSome (lookup (is_at (text_cmp bs)) es) → Contains (paths_of es) bs
found_path bs [] found = cc
found_path bs (e ∷ es) found =
    elim (found_cases _ bs (string_bytes e.0) e.1 (lookup (is_at (text_cmp bs)) es) (is_eq-slice_cmp bs (string_bytes e.0)) found) as (λ _. Contains (paths_of (e ∷ es)) bs) [
      | inl is ↦ (0, omega arith, sym is)
      | inr later ↦ Contains-append_right (string_bytes e.0 ∷ []) (paths_of es) bs (found_path bs es later)
    ]

-- a path among the paths has its file found
path_found : (bs : List ℕ) (es : List (String Global × List ℕ)) → Contains (paths_of es) bs → IsSome (lookup (is_at (text_cmp bs)) es)
path_found bs [] (k, lt, is) = absurd (omega arith)
path_found bs (e ∷ es) among =
    finds _ bs (string_bytes e.0) e.1 (lookup (is_at (text_cmp bs)) es) (is_eq-slice_cmp bs (string_bytes e.0))
    (elim (first_or_later (string_bytes e.0) bs (paths_of es) among) as (λ _. (string_bytes e.0 ≡ bs) ⊎ IsSome (lookup (is_at (text_cmp bs)) es)) [
      | inl is ↦ inl is
      | inr later ↦ inr (path_found bs es later)
    ])

read_paths : (paths : List (Bor (String Global))) → map (λ path. string_bytes path.now) paths ≡ map (λ path. string_bytes path) (map deref paths)
read_paths [] = refl
read_paths (p ∷ ps) = ap (λ (l : List (List ℕ)). string_bytes p.now ∷ l) (read_paths ps)

-- what all the paths show is what stands in the folder
pub listing_of : (files : BTreeMap (String Global) (List ℕ)) (dir : List ℕ) (paths : List (Bor (String Global))) (items : List (List ℕ × Bool))
    → map deref paths ≡ keys files → Listed dir (map (λ path. string_bytes path.now) paths) items → IsListing (get_by_text files) dir items
listing_of files dir paths items all listed =
    let whole : map (λ path. string_bytes path.now) paths ≡ paths_of files.entries = read_paths paths ∙ ap (λ (ks : List (String Global)). map (λ path. string_bytes path) ks) all in
    record {
      each = λ item. (
        λ among. let shown = (listed.each item).0 among in
            (shown.0, path_found shown.0 files.entries (subst (λ (l : List (List ℕ)). Contains l shown.0) whole shown.1), shown.2),
        λ stands. (listed.each item).1 (stands.0, subst (λ (l : List (List ℕ)). Contains l stands.0) (sym whole) (found_path stands.0 files.entries stands.1), stands.2),
      );
      once = listed.once;
    }
