-- What the lists of folders show, level by level.
use Rattle.std.proofs.Common.{◌≡◌, ◌<◌, ◌≤◌, ◌+◌, ◌∙◌, ◌↔◌, ◌⊎◌, inl, inr, ℕ, Bool, true, false, List, [], ◌∷◌, ◌++◌, length, get_or, ap, sym, refl, subst, Contains, IsSome, String, string_bytes, arith, append_assoc}
use Rattle.std.specs.List.{All}
use Rattle.std.specs.declared.alloc.Global.{Global}
use Rattle.std.specs.List.Sorted.{IsPermutation, IsStrictlySortedBy}
use Rattle.std.specs.String.{string_cmp}
use Rattle.std.proofs.lemmas.Bool.{cases_lt}
use Rattle.std.proofs.lemmas.List.{length-map, get_or-map}
use Rattle.std.proofs.lemmas.List.Elements.{All-contains, Contains-get_or, Contains-append_left, Contains-append_right, Contains-append_cases}
use Rattle.std.proofs.lemmas.List.Sorted.{IsPermutation-map, IsPermutation-sym, Contains-permutation}
use Rattle.deuce_io.specs.Files.{Files, inside, StandsIn, IsListing}
use Rattle.deuce_io.proofs.Items.{contains_pushed}
use Rattle.deuce.specs.Folder.{IsClassFileName, depth, IsFolder, AreClassPaths}
use Rattle.deuce.specs.Listing.{seen_texts, TakesIn, AreFound}
use Rattle.deuce.proofs.Depths.{depth-inside, flat, no_slash, Parts, parts}
use Rattle.deuce.proofs.Folders.{ascends}

-- ---- items of one folder, taken in one after another

-- nothing is taken in
pub taken_none : (front : List ℕ) (old : List (List ℕ)) → TakesIn (Contains []) front old old []
taken_none front old = record {
  class_files = λ path. (inl, λ there. elim there as (λ _. Contains old path) [ inl a ↦ a | inr a ↦ absurd (let none = a.1 in let lt = none.1 in omega (arith, lt)) ]);
  subfolders = λ path. (λ there. let lt = there.1 in absurd (omega (arith, lt)), λ there. let none = there.1 in let lt = none.1 in absurd (omega (arith, lt)));
}

module _ (xs ys : List (List ℕ × Bool)) (name : List ℕ) (front path : List ℕ) (is_path : path ≡ front ++ name) (old new folders : List (List ℕ)) where
  same_name : (n : List ℕ) (b c : Bool) → ◌≡◌ {A = List ℕ × Bool} (n, b) (name, c) → n ≡ name
  same_name n b c e = ap (λ (x : List ℕ × Bool). x.0) e

  same_kind : (n : List ℕ) (b c : Bool) → ◌≡◌ {A = List ℕ × Bool} (n, b) (name, c) → b ≡ c
  same_kind n b c e = ap (λ (x : List ℕ × Bool). x.1) e

  -- one more folder
  pub taken_folder : (more : List (List ℕ)) → ys ≡ xs ++ (name, true) ∷ [] → more ≡ folders ++ path ∷ [] → TakesIn (Contains xs) front old new folders → TakesIn (Contains ys) front old new more
  taken_folder more is added h = record {
    class_files = λ p. (
      λ there. elim ((h.class_files p).0 there) as (λ _. Contains old p ⊎ ((n : List ℕ) × Contains ys (n, false) × (p ≡ front ++ n) × IsClassFileName p)) [
        | inl a ↦ inl a
        | inr a ↦ inr (a.0, (contains_pushed xs ys (name, true) is (a.0, false)).1 (inl a.1), a.2, a.3)
      ],
      λ there. (h.class_files p).1 (elim there as (λ _. Contains old p ⊎ ((n : List ℕ) × Contains xs (n, false) × (p ≡ front ++ n) × IsClassFileName p)) [
        | inl a ↦ inl a
        | inr a ↦ inr (a.0, file_before a.0 a.1, a.2, a.3)
      ]),
    );
    subfolders = λ p. (
      λ there. elim ((contains_pushed folders more path added p).0 there) as (λ _. (n : List ℕ) × Contains ys (n, true) × (p ≡ front ++ n)) [
        | inl a ↦ let b = (h.subfolders p).0 a in (b.0, (contains_pushed xs ys (name, true) is (b.0, true)).1 (inl b.1), b.2)
        | inr e ↦ (name, (contains_pushed xs ys (name, true) is (name, true)).1 (inr refl), e ∙ is_path)
      ],
      λ there. (contains_pushed folders more path added p).1 (elim ((contains_pushed xs ys (name, true) is (there.0, true)).0 there.1) as (λ _. Contains folders p ⊎ (p ≡ path)) [
        | inl a ↦ inl ((h.subfolders p).1 (there.0, a, there.2))
        | inr e ↦ inr (there.2 ∙ ap (λ (n : List ℕ). front ++ n) (same_name there.0 true true e) ∙ sym is_path)
      ]),
    );
  }
    where
      file_before : (n : List ℕ) → Contains ys (n, false) → Contains xs (n, false)
      file_before n there = elim ((contains_pushed xs ys (name, true) is (n, false)).0 there) as (λ _. Contains xs (n, false)) [
        | inl a ↦ a
        | inr e ↦ absurd (let differ : false ≡ true = same_kind n false true e in cc)
      ]

  module _ (is : ys ≡ xs ++ (name, false) ∷ []) (h : TakesIn (Contains xs) front old new folders) where
    folder_before : (n : List ℕ) → Contains ys (n, true) → Contains xs (n, true)
    folder_before n there = elim ((contains_pushed xs ys (name, false) is (n, true)).0 there) as (λ _. Contains xs (n, true)) [
      | inl a ↦ a
      | inr e ↦ absurd (let differ : true ≡ false = same_kind n true false e in cc)
    ]

    same_folders : (p : List ℕ) → Contains folders p ↔ ((n : List ℕ) × Contains ys (n, true) × (p ≡ front ++ n))
    same_folders p = (
      λ there. let a = (h.subfolders p).0 there in (a.0, (contains_pushed xs ys (name, false) is (a.0, true)).1 (inl a.1), a.2),
      λ there. (h.subfolders p).1 (there.0, folder_before there.0 there.1, there.2),
    )

    -- one more class file
    pub taken_class : (more : List (List ℕ)) → IsClassFileName path → ((p : List ℕ) → Contains more p ↔ (Contains new p ⊎ (p ≡ path))) → TakesIn (Contains ys) front old more folders
    taken_class more named added = record {
      class_files = λ p. (
        λ there. elim ((added p).0 there) as (λ _. Contains old p ⊎ ((n : List ℕ) × Contains ys (n, false) × (p ≡ front ++ n) × IsClassFileName p)) [
          | inl a ↦ elim ((h.class_files p).0 a) as (λ _. Contains old p ⊎ ((n : List ℕ) × Contains ys (n, false) × (p ≡ front ++ n) × IsClassFileName p)) [
            | inl b ↦ inl b
            | inr b ↦ inr (b.0, (contains_pushed xs ys (name, false) is (b.0, false)).1 (inl b.1), b.2, b.3)
          ]
          | inr e ↦ inr (name, (contains_pushed xs ys (name, false) is (name, false)).1 (inr refl), e ∙ is_path, subst IsClassFileName (sym e) named)
        ],
        λ there. (added p).1 (elim there as (λ _. Contains new p ⊎ (p ≡ path)) [
          | inl a ↦ inl ((h.class_files p).1 (inl a))
          | inr a ↦ elim ((contains_pushed xs ys (name, false) is (a.0, false)).0 a.1) as (λ _. Contains new p ⊎ (p ≡ path)) [
            | inl b ↦ inl ((h.class_files p).1 (inr (a.0, b, a.2, a.3)))
            | inr e ↦ inr (a.2 ∙ ap (λ (n : List ℕ). front ++ n) (same_name a.0 false false e) ∙ sym is_path)
          ]
        ]),
      );
      subfolders = same_folders;
    }

    -- one more file that is no class file
    pub taken_other : (IsClassFileName path → ⊥) → TakesIn (Contains ys) front old new folders
    taken_other other = record {
      class_files = λ p. (
        λ there. elim ((h.class_files p).0 there) as (λ _. Contains old p ⊎ ((n : List ℕ) × Contains ys (n, false) × (p ≡ front ++ n) × IsClassFileName p)) [
          | inl b ↦ inl b
          | inr b ↦ inr (b.0, (contains_pushed xs ys (name, false) is (b.0, false)).1 (inl b.1), b.2, b.3)
        ],
        λ there. (h.class_files p).1 (elim there as (λ _. Contains old p ⊎ ((n : List ℕ) × Contains xs (n, false) × (p ≡ front ++ n) × IsClassFileName p)) [
          | inl a ↦ inl a
          | inr a ↦ elim ((contains_pushed xs ys (name, false) is (a.0, false)).0 a.1) as (λ _. Contains old p ⊎ ((n : List ℕ) × Contains xs (n, false) × (p ≡ front ++ n) × IsClassFileName p)) [
            | inl b ↦ inr (a.0, b, a.2, a.3)
            | inr e ↦ absurd (other (subst IsClassFileName (a.2 ∙ ap (λ (n : List ℕ). front ++ n) (same_name a.0 false false e) ∙ sym is_path) a.3))
          ]
        ]),
      );
      subfolders = same_folders;
    }

-- folders in another order are the same
pub taken_sorted : (Here : List ℕ × Bool → Type 0) (front : List ℕ) (old new : List (List ℕ)) (folders sorted : List (String Global)) → IsPermutation folders sorted
    → TakesIn Here front old new (seen_texts folders) → TakesIn Here front old new (seen_texts sorted)
taken_sorted Here front old new folders sorted moved h =
    let there = IsPermutation-map string_bytes folders sorted moved in
    let back = IsPermutation-sym (seen_texts folders) (seen_texts sorted) there in
    record {
      class_files = h.class_files;
      subfolders = λ path. (
        λ a. (h.subfolders path).0 (Contains-permutation (seen_texts sorted) (seen_texts folders) path back a),
        λ a. Contains-permutation (seen_texts folders) (seen_texts sorted) path there ((h.subfolders path).1 a),
      );
    }

-- the items of a list are what stands in the folder
pub taken_listed : (told : Files) (folder front : List ℕ) (items : List (List ℕ × Bool)) (old new folders : List (List ℕ)) → IsListing told folder items
    → TakesIn (Contains items) front old new folders → TakesIn (StandsIn told folder) front old new folders
taken_listed told folder front items old new folders l h = record {
  class_files = λ path. (
    λ there. elim ((h.class_files path).0 there) as (λ _. Contains old path ⊎ ((n : List ℕ) × StandsIn told folder (n, false) × (path ≡ front ++ n) × IsClassFileName path)) [
      | inl a ↦ inl a
      | inr a ↦ inr (a.0, (l.each (a.0, false)).0 a.1, a.2, a.3)
    ],
    λ there. (h.class_files path).1 (elim there as (λ _. Contains old path ⊎ ((n : List ℕ) × Contains items (n, false) × (path ≡ front ++ n) × IsClassFileName path)) [
      | inl a ↦ inl a
      | inr a ↦ inr (a.0, (l.each (a.0, false)).1 a.1, a.2, a.3)
    ]),
  );
  subfolders = λ path. (
    λ there. let a = (h.subfolders path).0 there in (a.0, (l.each (a.0, true)).0 a.1, a.2),
    λ there. (h.subfolders path).1 (there.0, (l.each (there.0, true)).1 there.1, there.2),
  );
}

-- what was found stays class files
pub taken_named : (Here : List ℕ × Bool → Type 0) (front : List ℕ) (old new folders : List (List ℕ)) → TakesIn Here front old new folders → All IsClassFileName old → All IsClassFileName new
taken_named Here front old new folders h named = λ i d lt.
    let path = get_or new i d in
    elim ((h.class_files path).0 (Contains-get_or new i d lt)) as (λ _. IsClassFileName path) [
      | inl a ↦ All-contains IsClassFileName old path named a
      | inr a ↦ a.3
    ]

-- a text stands among the others
pub text_in : (texts : List (String Global)) (k : ℕ) (d : String Global) → k < length texts → Contains (seen_texts texts) (string_bytes (get_or texts k d))
text_in texts k d lt = (k, omega (arith, length-map texts string_bytes, lt), get_or-map string_bytes texts k d (string_bytes (get_or texts k d)) lt)

-- each of them is a class file's path
pub all_named : (texts : List (String Global)) → All IsClassFileName (seen_texts texts) → All (λ (path : String Global). IsClassFileName (string_bytes path)) texts
all_named texts named = λ k d lt. All-contains IsClassFileName (seen_texts texts) (string_bytes (get_or texts k d)) named (text_in texts k d lt)

-- ---- the folders of a level, listed one after another

nested : (dir folder path : List ℕ) → inside dir (inside folder path) ≡ inside (inside dir folder) path
nested dir folder path = sym (append_assoc dir (47 ∷ folder) (47 ∷ path))

-- what is known by its folder's path, a slash and its name
named_in : (folder name : List ℕ) → (folder ++ 47 ∷ []) ++ name ≡ inside folder name
named_in folder name = append_assoc folder (47 ∷ []) name

module _ (told : Files) where
  file_in : (folder name : List ℕ) → StandsIn told folder (name, false) → IsSome (told (inside folder name)) × (depth name ≡ 0)
  file_in folder name (path, there, (whole, is)) = (subst (λ (p : List ℕ). IsSome (told p)) is there, flat name whole)

  stands_file : (folder name : List ℕ) → IsSome (told (inside folder name)) → depth name ≡ 0 → StandsIn told folder (name, false)
  stands_file folder name there none = (inside folder name, there, (no_slash name none, refl))

  folder_in : (folder name : List ℕ) → StandsIn told folder (name, true) → IsFolder told (inside folder name) × (depth name ≡ 0)
  folder_in folder name (path, there, (whole, (rest, is))) = ((rest, subst (λ (p : List ℕ). IsSome (told p)) is there), flat name whole)

  stands_folder : (folder name : List ℕ) → IsFolder told (inside folder name) → depth name ≡ 0 → StandsIn told folder (name, true)
  stands_folder folder name (rest, there) none = (inside (inside folder name) rest, there, (no_slash name none, (rest, refl)))

  module _ (dir : List ℕ) where
    -- a class file in a folder, or in one of the level
    abbrev ClassAt : List ℕ → List ℕ → Type 0
    ClassAt folder path = (name : List ℕ) × StandsIn told (inside dir folder) (name, false) × (path ≡ (folder ++ 47 ∷ []) ++ name) × IsClassFileName path

    abbrev ClassIn : List (List ℕ) → List ℕ → Type 0
    ClassIn level path = (folder : List ℕ) × Contains level folder × ClassAt folder path

    -- a folder in one, or in one of the level
    abbrev FolderAt : List ℕ → List ℕ → Type 0
    FolderAt folder path = (name : List ℕ) × StandsIn told (inside dir folder) (name, true) × (path ≡ (folder ++ 47 ∷ []) ++ name)

    abbrev FolderIn : List (List ℕ) → List ℕ → Type 0
    FolderIn level path = (folder : List ℕ) × Contains level folder × FolderAt folder path

    -- The folders of a level were listed: their class files were added, and these are the folders in them.
    pub record AreTaken (level old new next : List (List ℕ)) : Type 0 where
      pub class_files : (path : List ℕ) → Contains new path ↔ (Contains old path ⊎ ClassIn level path)
      pub subfolders : (path : List ℕ) → Contains next path ↔ FolderIn level path

    -- none was
    pub level_none : (old : List (List ℕ)) → AreTaken [] old old []
    level_none old = record {
      class_files = λ path. (inl, λ there. elim there as (λ _. Contains old path) [ inl a ↦ a | inr a ↦ absurd (let none = a.1 in let lt = none.1 in omega (arith, lt)) ]);
      subfolders = λ path. (λ there. let lt = there.1 in absurd (omega (arith, lt)), λ there. let none = there.1 in let lt = none.1 in absurd (omega (arith, lt)));
    }

    -- one folder more
    pub level_more : (level longer : List (List ℕ)) (folder : List ℕ) (old between new next some more : List (List ℕ)) → longer ≡ level ++ folder ∷ [] → more ≡ next ++ some
        → TakesIn (StandsIn told (inside dir folder)) (folder ++ 47 ∷ []) between new some → AreTaken level old between next → AreTaken longer old new more
    level_more level longer folder old between new next some more is joined one h = record {
      class_files = λ path. (
        λ there. elim ((one.class_files path).0 there) as (λ _. Contains old path ⊎ ClassIn longer path) [
          | inl a ↦ elim ((h.class_files path).0 a) as (λ _. Contains old path ⊎ ClassIn longer path) [
            | inl b ↦ inl b
            | inr b ↦ inr (b.0, (contains_pushed level longer folder is b.0).1 (inl b.1), b.2)
          ]
          | inr a ↦ inr (folder, (contains_pushed level longer folder is folder).1 (inr refl), a)
        ],
        λ there. (one.class_files path).1 (elim there as (λ _. Contains between path ⊎ ClassAt folder path) [
          | inl a ↦ inl ((h.class_files path).1 (inl a))
          | inr a ↦ elim ((contains_pushed level longer folder is a.0).0 a.1) as (λ _. Contains between path ⊎ ClassAt folder path) [
            | inl b ↦ inl ((h.class_files path).1 (inr (a.0, b, a.2)))
            | inr e ↦ inr (let At : List ℕ → Type 0 = λ f. ClassAt f path in subst At e a.2)
          ]
        ]),
      );
      subfolders = λ path. (
        λ there. elim (Contains-append_cases next some path (subst (λ (l : List (List ℕ)). Contains l path) joined there)) as (λ _. FolderIn longer path) [
          | inl a ↦ let b = (h.subfolders path).0 a in (b.0, (contains_pushed level longer folder is b.0).1 (inl b.1), b.2)
          | inr a ↦ (folder, (contains_pushed level longer folder is folder).1 (inr refl), (one.subfolders path).0 a)
        ],
        λ there. subst (λ (l : List (List ℕ)). Contains l path) (sym joined) (elim ((contains_pushed level longer folder is there.0).0 there.1) as (λ _. Contains (next ++ some) path) [
          | inl a ↦ Contains-append_left next some path ((h.subfolders path).1 (there.0, a, there.2))
          | inr e ↦ Contains-append_right next some path ((one.subfolders path).1
              (let At : List ℕ → Type 0 = λ f. FolderAt f path in subst At e there.2))
        ]),
      );
    }

    -- ---- levels

    -- the folder itself was listed
    pub found_first : (classes folders : List (List ℕ)) → TakesIn (StandsIn told dir) [] [] classes folders → AreFound told dir 0 classes folders
    found_first classes folders h = record {
      class_files = λ path. (
        λ there. elim ((h.class_files path).0 there) as (λ _. (depth path ≤ 0) × IsSome (told (inside dir path)) × IsClassFileName path) [
          | inl none ↦ let lt = none.1 in absurd (omega (arith, lt))
          | inr a ↦
              let file = file_in dir a.0 a.1 in
              let same : a.0 ≡ path = sym a.2 in
              let down : depth path ≡ 0 = subst (λ (p : List ℕ). depth p ≡ 0) same file.1 in
              (omega (arith, down), subst (λ (p : List ℕ). IsSome (told (inside dir p))) same file.0, a.3)
        ],
        λ there. (h.class_files path).1 (inr (path, stands_file dir path there.1 (let none = there.0 in omega (arith, none)), refl, there.2)),
      );
      next = λ path. (
        λ there.
            let a = (h.subfolders path).0 there in
            let at = folder_in dir a.0 a.1 in
            let same : a.0 ≡ path = sym a.2 in
            (subst (λ (p : List ℕ). depth p ≡ 0) same at.1, subst (λ (p : List ℕ). IsFolder told (inside dir p)) same at.0),
        λ there. (h.subfolders path).1 (path, stands_folder dir path there.1 there.0, refl),
      );
    }

    module _ (levels : ℕ) where
      -- what stands in a folder of the level is a level further down
      further : (folder name path : List ℕ) → depth folder ≡ levels → depth name ≡ 0 → path ≡ inside folder name → depth path ≡ levels + 1
      further folder name path at none is =
          let all : depth path ≡ depth folder + (depth name + 1) = ap depth is ∙ depth-inside folder name in
          omega (arith, all, at, none)

      -- a path that leads so far down goes through a folder of the level, and its rest is a name
      last : (path : List ℕ) → depth path ≡ levels + 1 → (p : Parts path levels) × (depth p.rest ≡ 0)
      last path down =
          let p = parts path levels (omega (arith, down)) in
          let all : depth path ≡ depth p.folder + (depth p.rest + 1) = ap depth p.are ∙ depth-inside p.folder p.rest in
          let at = p.down in
          (p, omega (arith, all, at, down))

      pub found_next : (old new level next : List (List ℕ)) → AreFound told dir levels old level → AreTaken level old new next → AreFound told dir (levels + 1) new next
      found_next old new level next so_far one = record {
        class_files = λ path. (
          λ there. elim ((one.class_files path).0 there) as (λ _. (depth path ≤ levels + 1) × IsSome (told (inside dir path)) × IsClassFileName path) [
            | inl a ↦ let b = (so_far.class_files path).0 a in let few = b.0 in (omega (arith, few), b.1, b.2)
            | inr (folder, among, (name, stands, is, named)) ↦
                let at = (so_far.next folder).0 among in
                let file = file_in (inside dir folder) name stands in
                let same : path ≡ inside folder name = is ∙ named_in folder name in
                let down = further folder name path at.0 file.1 same in
                (omega (arith, down), subst (λ (p : List ℕ). IsSome (told p)) (sym (ap (inside dir) same ∙ nested dir folder name)) file.0, named)
          ],
          λ there. (one.class_files path).1 (elim (nearer path there.0) as (λ _. Contains old path ⊎ ClassIn level path) [
            | inl few ↦ inl ((so_far.class_files path).1 (few, there.1, there.2))
            | inr down ↦
                let end = last path down in
                let p = end.0 in
                let none = end.1 in
                let some : IsSome (told (inside (inside dir p.folder) p.rest)) = subst (λ (q : List ℕ). IsSome (told q)) (ap (inside dir) p.are ∙ nested dir p.folder p.rest) there.1 in
                inr (p.folder, (so_far.next p.folder).1 (p.down, (p.rest, some)), (p.rest, stands_file (inside dir p.folder) p.rest some none, p.are ∙ sym (named_in p.folder p.rest), there.2))
          ]),
        );
        next = λ path. (
          λ there.
              let a = (one.subfolders path).0 there in
              let at = (so_far.next a.0).0 a.1 in
              let b = a.2 in
              let found = folder_in (inside dir a.0) b.0 b.1 in
              let same : path ≡ inside a.0 b.0 = b.2 ∙ named_in a.0 b.0 in
              (further a.0 b.0 path at.0 found.1 same, subst (IsFolder told) (sym (ap (inside dir) same ∙ nested dir a.0 b.0)) found.0),
          λ there. (one.subfolders path).1 (
              let end = last path there.0 in
              let p = end.0 in
              let none = end.1 in
              let found : IsFolder told (inside (inside dir p.folder) p.rest) = subst (IsFolder told) (ap (inside dir) p.are ∙ nested dir p.folder p.rest) there.1 in
              let under : IsFolder told (inside dir p.folder) = (inside p.rest found.0, subst (λ (q : List ℕ). IsSome (told q)) (sym (nested (inside dir p.folder) p.rest found.0)) found.1) in
              (p.folder, (so_far.next p.folder).1 (p.down, under), (p.rest, stands_folder (inside dir p.folder) p.rest found none, p.are ∙ sym (named_in p.folder p.rest)))),
        );
      }
        where
          nearer : (path : List ℕ) → depth path ≤ levels + 1 → (depth path ≤ levels) ⊎ (depth path ≡ levels + 1)
          nearer path few = elim (cases_lt levels (depth path)) as (λ _. (depth path ≤ levels) ⊎ (depth path ≡ levels + 1)) [
            | inl more ↦ inr (omega (arith, few, more))
            | inr less ↦ inl less
          ]

    -- the folders of a level that is listed
    pub listable : (levels : ℕ) (classes : List (List ℕ)) (folders : List (String Global)) → AreFound told dir levels classes (seen_texts folders) → levels < 16 → (k : ℕ) (d : String Global) → k < length folders
        → (depth (string_bytes (get_or folders k d)) < 16) × IsFolder told (inside dir (string_bytes (get_or folders k d)))
    listable levels classes folders found few k d lt =
        let at = (found.next (string_bytes (get_or folders k d))).0 (text_in folders k d lt) in
        let down = at.0 in
        (omega (arith, few, down), at.1)

    -- ---- the end

    -- a folder is left that isn't listed
    pub left_over : (classes : List (List ℕ)) (folders : List (String Global)) → AreFound told dir 16 classes (seen_texts folders) → 0 < length folders → (path : List ℕ) × IsSome (told (inside dir path)) × (16 < depth path)
    left_over classes [] found some = absurd (omega (arith, some))
    left_over classes (text ∷ texts) found some =
        let folder = string_bytes text in
        let among : Contains (seen_texts (text ∷ texts)) folder = (0, omega arith, refl) in
        let at = (found.next folder).0 among in
        let under = at.1 in
        let down = at.0 in
        let all = depth-inside folder under.0 in
        (inside folder under.0, subst (λ (q : List ℕ). IsSome (told q)) (sym (nested dir folder under.0)) under.1, omega (arith, all, down))

    -- none is
    pub all_found : (classes : List (String Global)) → AreFound told dir 16 (seen_texts classes) [] → IsStrictlySortedBy string_cmp classes → AreClassPaths told dir (seen_texts classes)
    all_found classes found sorted = record {
      shallow = shallow;
      each = λ path. (
        λ there. let a = (found.class_files path).0 there in (a.1, a.2),
        λ there. (found.class_files path).1 (shallow path there.0, there.0, there.1),
      );
      ascend = ascends classes sorted;
    }
      where
        too_deep : (path : List ℕ) → IsSome (told (inside dir path)) → 16 < depth path → ⊥
        too_deep path there deep =
            let p = parts path 16 deep in
            let some : IsSome (told (inside (inside dir p.folder) p.rest)) = subst (λ (q : List ℕ). IsSome (told q)) (ap (inside dir) p.are ∙ nested dir p.folder p.rest) there in
            let none = (found.next p.folder).1 (p.down, (p.rest, some)) in
            let lt = none.1 in
            omega (arith, lt)

        shallow : (path : List ℕ) → IsSome (told (inside dir path)) → depth path ≤ 16
        shallow path there = elim (cases_lt 16 (depth path)) as (λ _. depth path ≤ 16) [ inl deep ↦ absurd (too_deep path there deep) | inr fits ↦ fits ]
