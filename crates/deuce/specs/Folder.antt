-- What a folder of class files is: the paths of the class files under it in their order, the classes that these spell, and the first file that is none.
use Rattle.std.specs.Prelude.{◌≡◌, ◌==◌, ◌⊎◌, ◌↔◌, ℕ, ◌+◌, ◌<◌, ◌≤◌, pos, List, [], ◌∷◌, ◌++◌, length, map, zip, count_by, true, Option, Some, None, IsSome, Err, Contains, codes, option_map, slice_get, take}
use Rattle.std.specs.Option.{ForSome}
use Rattle.std.specs.List.{AllPairs, AllZip}
use Rattle.deuce_io.specs.Files.{Files, inside, with_content}
use Rattle.jmodel.specs.declared.refusal.Refusal.{Refusal}
use Rattle.jmodel.specs.declared.refusal.Refusal.TheVariants.{OverLimit}
use Rattle.jmodel.specs.format.ClassFile.{ClassFile}
use Rattle.jmodel.specs.format.ClassRules.{Spells}
use Rattle.jmodel.specs.format.ClassFileReading.{class_file_of}
use Rattle.objects.specs.linking.Classes.{is_before}

-- ---- paths

-- the path of a class file: it ends in `.class`
abbrev pub IsClassFileName : List ℕ → Type 0
IsClassFileName path = (front : List ℕ) × (path ≡ front ++ codes ".class")

-- how many folders down a path leads: its slashes
abbrev pub depth : List ℕ → ℕ
depth path = count_by (λ c. c == 47) path

-- a folder stands at this path: some file's path goes on behind it
abbrev pub IsFolder : Files → List ℕ → Type 0
IsFolder told path = (rest : List ℕ) × IsSome (told (inside path rest))

-- where rewriting puts the helper of arrays: its path from the folder of the rewritten class files
abbrev pub helper_path : List ℕ
helper_path = codes "org/deuce/transaction/ArrayHelper.class"

-- under a folder, where it tells its files, no file stands at that path
abbrev pub LacksHelper : Option Files → List ℕ → Type 0
LacksHelper files dir = ForSome files (λ told. told (inside dir helper_path) ≡ None)

-- These are the paths from a folder to the class files under it, each once, in the ascending order of their bytes. No file under it lies in a folder
-- more than 16 levels down.
pub record AreClassPaths (told : Files) (dir : List ℕ) (paths : List (List ℕ)) : Type 0 where
  pub shallow : (path : List ℕ) → IsSome (told (inside dir path)) → depth path ≤ 16
  pub each : (path : List ℕ) → Contains paths path ↔ (IsSome (told (inside dir path)) × IsClassFileName path)
  pub ascend : AllPairs (λ x y. is_before x y ≡ true) paths

-- under a folder, where it tells its files, the class files have these paths
abbrev pub HoldsClasses : Option Files → List ℕ → List (List ℕ) → Type 0
HoldsClasses files dir paths = ForSome files (λ told. AreClassPaths told dir paths)

-- under a folder, where it tells its files, a file lies in a folder that is 17 levels down
abbrev pub HasDeepFolder : Option Files → List ℕ → Type 0
HasDeepFolder files dir = ForSome files (λ told. (path : List ℕ) × IsSome (told (inside dir path)) × (16 < depth path))

-- A folder under this one is 17 levels down, as the refusal says.
pub record IsTooDeep (files : Option Files) (dir : List ℕ) (r : Refusal) : Type 0 where
  pub deep : HasDeepFolder files dir
  pub refusal : r ≡ OverLimit (codes "depth") (pos 17)

-- Under a folder there are more class files than 256, as the refusal says.
pub record HasManyClasses (files : Option Files) (dir : List ℕ) (r : Refusal) : Type 0 where
  pub paths : List (List ℕ)
  pub class_files : HoldsClasses files dir paths
  pub many : 256 < length paths
  pub refusal : r ≡ OverLimit (codes "classes") (pos (length paths))

-- a folder passes a limit of folders, as the refusal says
abbrev pub IsOverfull : Option Files → List ℕ → Refusal → Type 0
IsOverfull files dir r = IsTooDeep files dir r ⊎ HasManyClasses files dir r

-- ---- what they have

-- the first bytes of the file at a path, at most so many, where the folder tells its files
abbrev pub IsFrontOf : Option Files → List ℕ → ℕ → List ℕ → Type 0
IsFrontOf files path most bytes = ForSome files (λ told. option_map (take most) (told path) ≡ Some bytes)

-- the file at a path has these bytes, where the folder tells its files
abbrev pub Holds : Option Files → List ℕ → List ℕ → Type 0
Holds files path bytes = ForSome files (λ told. told path ≡ Some bytes)

-- the most bytes of a class file
abbrev pub class_limit : ℕ
class_limit = 1048576

-- bytes are a class file, within its limit, and spell this class
abbrev pub IsFileOf : List ℕ → ClassFile → Type 0
IsFileOf bytes c = (length bytes ≤ class_limit) × Spells bytes c

-- bytes spell no class, and this is the first fault that reading them meets
abbrev pub IsNoClass : List ℕ → Refusal → Type 0
IsNoClass bytes r = ((c : ClassFile) → Spells bytes c → ⊥) × (class_file_of bytes ≡ Err r)

-- Why bytes are no class file: there are more of them than its limit, or no more, and they spell no class.
abbrev pub IsFileFault : List ℕ → Refusal → Type 0
IsFileFault bytes r = ((class_limit < length bytes) × (r ≡ OverLimit (codes "file") (pos (length bytes))))
    ⊎ ((length bytes ≤ class_limit) × IsNoClass bytes r)

-- Under a folder, where it tells its files, the class files, no more than 256, have these paths, in ascending order, and these bytes.
pub record HoldsContents (files : Option Files) (dir : List ℕ) (paths contents : List (List ℕ)) : Type 0 where
  pub class_files : HoldsClasses files dir paths
  pub few : length paths ≤ 256
  pub each : AllZip (λ path. Holds files (inside dir path)) paths contents

-- The class file at this path from a folder is good, and spells this class.
pub record IsGoodFile (files : Option Files) (dir path : List ℕ) (c : ClassFile) : Type 0 where
  pub bytes : List ℕ
  pub holds : Holds files (inside dir path) bytes
  pub is_file : IsFileOf bytes c

-- The class files under a folder, no more than 256, are good, and this holds of their classes, which stand in the order of the files' paths.
pub record HasClasses (files : Option Files) (dir : List ℕ) (Holding : List ClassFile → Type 0) : Type 0 where
  pub paths : List (List ℕ)
  pub class_files : HoldsClasses files dir paths
  pub few : length paths ≤ 256
  pub classes : List ClassFile
  pub good : AllZip (IsGoodFile files dir) paths classes
  pub holding : Holding classes

-- Of the class files under a folder, no more than 256, this one is the first that isn't good: it has this path, and this fault, for which at
-- most one byte over the limit is looked at.
pub record IsBadClass (files : Option Files) (dir path : List ℕ) (r : Refusal) : Type 0 where
  pub before : List (List ℕ)
  pub relative : List ℕ
  pub behind : List (List ℕ)
  pub class_files : HoldsClasses files dir (before ++ relative ∷ behind)
  pub few : length (before ++ relative ∷ behind) ≤ 256
  pub classes : List ClassFile
  pub good : AllZip (IsGoodFile files dir) before classes
  pub class_path : path ≡ inside dir relative
  pub bytes : List ℕ
  pub front : IsFrontOf files path (class_limit + 1) bytes
  pub fault : IsFileFault bytes r

-- ---- what is put

-- these files with each of those, a path and its bytes, put one after another
abbrev pub with_files : List (List ℕ × List ℕ) → Files → Files
with_files [] told = told
with_files (f ∷ fs) told = with_files fs (with_content f.0 (Some f.1) told)

-- new bytes for files at these paths from a folder, each with its path
abbrev pub placed_in : List ℕ → List (List ℕ) → List (List ℕ) → List (List ℕ × List ℕ)
placed_in dir paths news = zip (map (inside dir) paths) news

-- the same, and behind them those of the helper of arrays
abbrev pub placed_with : List ℕ → List (List ℕ) → List (List ℕ) → List ℕ → List (List ℕ × List ℕ)
placed_with dir paths news helper = placed_in dir paths news ++ (inside dir helper_path, helper) ∷ []

-- Of files with their paths, those before one were put. Nothing is known of the path of that one; all else is as before.
pub record ArePutUpTo (fs : List (List ℕ × List ℕ)) (files files' : Option Files) (path : List ℕ) : Type 0 where
  pub number : ℕ
  pub bytes : List ℕ
  pub file : slice_get fs number ≡ Some (path, bytes)
  pub found : Option (List ℕ)
  pub left : files' ≡ option_map (λ told. with_content path found (with_files (take number fs) told)) files
