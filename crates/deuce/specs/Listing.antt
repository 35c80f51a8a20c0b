-- What the lists of folders show, level by level.
use Rattle.std.specs.Prelude.{◌≡◌, ◌⊎◌, ◌↔◌, ℕ, ◌≤◌, List, ◌++◌, map, Bool, true, false, IsSome, Contains, String, string_bytes}
use Rattle.std.specs.declared.alloc.Global.{Global}
use Rattle.deuce_io.specs.Files.{Files, inside}
use Rattle.deuce.specs.Folder.{IsClassFileName, depth, IsFolder}

-- texts, each as its bytes
abbrev pub seen_texts : List (String Global) → List (List ℕ)
seen_texts texts = map string_bytes texts

-- Of what stands here the class files were added to those that were found, and the folders are these: each is known by its name, with the same
-- bytes in front.
pub record TakesIn (Here : List ℕ × Bool → Type 0) (front : List ℕ) (old new folders : List (List ℕ)) : Type 0 where
  pub class_files : (path : List ℕ) → Contains new path ↔ (Contains old path ⊎ ((name : List ℕ) × Here (name, false) × (path ≡ front ++ name) × IsClassFileName path))
  pub subfolders : (path : List ℕ) → Contains folders path ↔ ((name : List ℕ) × Here (name, true) × (path ≡ front ++ name))

-- Once a folder and so many levels of folders under it were listed, these class files were found, and these are the folders of the next level, by
-- their paths from the folder.
pub record AreFound (told : Files) (dir : List ℕ) (levels : ℕ) (classes folders : List (List ℕ)) : Type 0 where
  pub class_files : (path : List ℕ) → Contains classes path ↔ ((depth path ≤ levels) × IsSome (told (inside dir path)) × IsClassFileName path)
  pub next : (path : List ℕ) → Contains folders path ↔ ((depth path ≡ levels) × IsFolder told (inside dir path))
