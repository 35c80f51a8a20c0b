-- What the program writes, and why it ends as it does.
use Rattle.std.specs.Prelude.{◌≡◌, ◌⊎◌, ℕ, ◌+◌, ◌<◌, ◌≤◌, pos, List, ◌∷◌, ◌++◌, length, map, bytes_eq, Option, Some, IsSome, None, Contains, slice_get, string_bytes, option_map}
use Rattle.std.specs.Option.{ForSome}
use Rattle.std.specs.List.{AllByRecursion, AllZip}
use Rattle.std.specs.Borrow.{Bor}
use Rattle.std.specs.Map.{lookup}
use Rattle.deuce_io.specs.Fault.{Call, list_of, read_of, put_of, Rose, HasFailed}
use Rattle.deuce_io.specs.Files.{Files, inside}
use Rattle.deuce_io.specs.Seen.{Seen}
use Rattle.deuce_io.specs.declared.end.IoEnd.{IoEnd}
use Rattle.deuce_io.specs.declared.end.IoEnd.TheVariants as io
use Rattle.jmodel.specs.declared.refusal.Refusal.{Refusal}
use Rattle.jmodel.specs.declared.refusal.Halt.{Halt}
use Rattle.jmodel.specs.declared.refusal.Halt.TheVariants as halts
use Rattle.jmodel.specs.declared.refusal.Refusal.TheVariants.{OverLimit, ReservedName}
use Rattle.jmodel.specs.format.ClassFile.{ClassFile}
use Rattle.jmodel.specs.declared.value.Answer.{Answer}
use Rattle.objects.specs.linking.Members.{own_name}
use Rattle.objects.specs.linking.Superclasses.{class_named}
use Rattle.script.specs.Script.{script_limit}
use Rattle.runner.specs.Headline.{linked_files, CanRun}
use Rattle.runner.specs.Faults.{HasFault, IsBadRewriting, IsUntypable, IsBadScript, IsUnopened}
use Rattle.deuce.specs.Folder.{IsClassFileName, depth, helper_path, LacksHelper, class_limit, IsFolder, HoldsClasses, IsTooDeep, IsOverfull, IsFrontOf, Holds, HoldsContents, IsFileFault, IsFileOf, IsGoodFile, HasClasses, with_files, placed_with, ArePutUpTo}
use Rattle.deuce.specs.Headline.{IsRun}
use Rattle.deuce.specs.Rewritten.{IsRewriting, CanRewrite}
use Rattle.deuce.specs.declared.inputs.ClassInput.{ClassInput}
use Rattle.deuce.specs.declared.inputs.Inputs.{Inputs}
use Rattle.deuce.specs.declared.inputs.InputEnd.{InputEnd}
use Rattle.deuce.specs.declared.inputs.InputEnd.TheVariants as ends
use Rattle.deuce.specs.declared.putting.NewFile.{NewFile}
use Rattle.deuce.specs.declared.putting.PutEnd.{PutEnd}
use Rattle.deuce.specs.declared.putting.PutEnd.TheVariants as put_ends

-- the path from a folder to one under it, which is there, no more than 16 levels down, where the folder tells its files
abbrev pub IsListed : Option Files → List ℕ → List ℕ → Type 0
IsListed files dir path = ForSome files (λ told. (depth path < 16) × IsFolder told (inside dir path))

-- the path from a folder to a class file under it, which is there, where the folder tells its files
abbrev pub IsRead : Option Files → List ℕ → List ℕ → Type 0
IsRead files dir path = IsClassFileName path × ForSome files (λ told. IsSome (told (inside dir path)))

-- what is asked of a folder of class files: its list, the list of a folder under it, and the read of a class file under it
abbrev pub IsCallOfFolder : Option Files → List ℕ → Call → Type 0
IsCallOfFolder files dir call = (call ≡ list_of dir)
    ⊎ (((path : List ℕ) × IsListed files dir path × (call ≡ list_of (inside dir path))) ⊎ ((path : List ℕ) × IsRead files dir path × (call ≡ read_of (inside dir path))))

-- what a run asks: that, and the read of the script
abbrev pub IsCallOfRun : Option Files → List ℕ → List ℕ → Call → Type 0
IsCallOfRun files dir script call = (call ≡ read_of script) ⊎ IsCallOfFolder files dir call

-- the folder's count of lists and reads rose, and its last failed call is one of these, at this path
pub record Failed (Asks : Call → Type 0) (path : List ℕ) (old new : Seen) : Type 0 where
  pub rose : Rose old.faults new.faults
  pub call : Call
  pub is_last : new.failed ≡ Some call
  pub asked : Asks call
  pub at_path : call.path ≡ path

-- what was read of a class file under a folder: its path, and its bytes, with at most one over the limit
pub record IsClassInput (files : Option Files) (dir : List ℕ) (input : ClassInput) : Type 0 where
  pub class_path : string_bytes input.path ≡ inside dir (string_bytes input.relative)
  pub class : IsFrontOf files (inside dir (string_bytes input.relative)) (class_limit + 1) input.bytes

-- the paths from the folder to the class files that were read
abbrev pub paths_of : List ClassInput → List (List ℕ)
paths_of inputs = map (λ (i : ClassInput). string_bytes i.relative) inputs

-- what was read of the class files under a folder, of which there are no more than 256
pub record AreClassInputs (files : Option Files) (dir : List ℕ) (inputs : List ClassInput) : Type 0 where
  pub class_files : HoldsClasses files dir (paths_of inputs)
  pub few : length (paths_of inputs) ≤ 256
  pub each : AllByRecursion (IsClassInput files dir) inputs

-- what a run has read: that, and the script's bytes, with at most one over the limit
pub record AreInputs (files : Option Files) (dir script : List ℕ) (inputs : Inputs) : Type 0 where
  pub of_classes : AreClassInputs files dir inputs.classes.items
  pub script_bytes : IsFrontOf files script (script_limit + 1) inputs.script

-- The text is that of a run of the script at a path on the class files of a folder.
pub record IsJournalOf (files : Option Files) (dir script text : List ℕ) : Type 0 where
  pub free : LacksHelper files dir
  pub paths : List (List ℕ)
  pub contents : List (List ℕ)
  pub class_files : HoldsContents files dir paths contents
  pub script_bytes : List ℕ
  pub script_holds : Holds files script script_bytes
  pub run : IsRun contents script_bytes text

-- The class files under a folder have these paths, none of them the helper's, and these are the bytes of their rewriting, file by file, and of the helper.
pub record AreRewritten (files : Option Files) (dir : List ℕ) (paths news : List (List ℕ)) (helper : List ℕ) (taken marked : ℕ) : Type 0 where
  pub free : LacksHelper files dir
  pub contents : List (List ℕ)
  pub class_files : HoldsContents files dir paths contents
  pub rewriting : IsRewriting contents news helper taken marked

-- The class files under a folder, so many, were rewritten, and each new one was put under another folder at the same path, and the helper last, with
-- nothing else.
pub record IsRewritingOf (files files' : Option Files) (dir out : List ℕ) (classes taken marked : ℕ) : Type 0 where
  pub paths : List (List ℕ)
  pub news : List (List ℕ)
  pub helper : List ℕ
  pub rewriting : AreRewritten files dir paths news helper taken marked
  pub count : classes ≡ length paths
  pub put : files' ≡ option_map (with_files (placed_with out paths news helper)) files

-- The new files of a rewriting were put in the order of their paths, the helper last, up to the one at this path, of which nothing is known.
pub record StopsAt (files files' : Option Files) (dir out path : List ℕ) : Type 0 where
  pub paths : List (List ℕ)
  pub news : List (List ℕ)
  pub helper : List ℕ
  pub taken : ℕ
  pub marked : ℕ
  pub rewriting : AreRewritten files dir paths news helper taken marked
  pub put : ArePutUpTo (placed_with out paths news helper) files files' path

-- the count of failed puts rose, and the last failed call is the put of this path, where the puts of a rewriting stopped
pub record FailedPut (old new : Seen) (dir out path : List ℕ) : Type 0 where
  pub stopped : StopsAt old.files new.files dir out path
  pub rose : Rose old.put_faults new.put_faults
  pub is_last : new.failed ≡ Some (put_of path)

-- the classes of class files have no fault
abbrev pub AreLinked : List ClassFile → Type 0
AreLinked files = IsSome (linked_files files)

-- Good class files have classes without a fault, but one stands where rewriting puts the helper of arrays, as the refusal says by the name of its class.
pub record HasReservedPath (files : Option Files) (dir : List ℕ) (r : Refusal) : Type 0 where
  pub linked : HasClasses files dir AreLinked
  pub class : ClassFile
  pub good : IsGoodFile files dir helper_path class
  pub refusal : r ≡ ReservedName (own_name class)

-- Why good class files are refused. The linking of their classes ends with this fault; or one of them has the helper's path. Or none has it, and their
-- program makes a store that is too early, or their rewriting passes a limit.
abbrev pub HasBadClasses : Option Files → List ℕ → Refusal → Type 0
HasBadClasses files dir r = HasClasses files dir (HasFault r) ⊎ (HasReservedPath files dir r ⊎ (LacksHelper files dir × HasClasses files dir (IsBadRewriting r)))

-- Why a folder of class files is refused: it passes a limit of folders, or its class files are good and refused so.
abbrev pub HasBadProgram : Option Files → List ℕ → Refusal → Type 0
HasBadProgram files dir r = IsOverfull files dir r ⊎ HasBadClasses files dir r

-- A folder has good class files, none at the helper's path, and a method of their classes has code and no typing, as the refusal says; it is the first.
abbrev pub HasUntypable : Option Files → List ℕ → Refusal → Type 0
HasUntypable files dir r = LacksHelper files dir × HasClasses files dir (IsUntypable r)

-- A folder has good class files, for which the script, of which at most one byte over the limit is looked at, has this fault.
pub record HasBadScript (files : Option Files) (dir script : List ℕ) (r : Refusal) : Type 0 where
  pub free : LacksHelper files dir
  pub script_bytes : List ℕ
  pub script_front : IsFrontOf files script (script_limit + 1) script_bytes
  pub of_classes : HasClasses files dir (IsBadScript script_bytes r)

-- A folder has good class files, and a script for them, but a run of it doesn't begin.
pub record HasUnopened (files : Option Files) (dir script name : List ℕ) (x : Answer) : Type 0 where
  pub free : LacksHelper files dir
  pub script_bytes : List ℕ
  pub script_holds : Holds files script script_bytes
  pub of_classes : HasClasses files dir (IsUnopened script_bytes name x)

-- The files of a folder, as it tells them, let the script at a path be run on the folder's class files.
pub record CanRunIn (told : Files) (dir script : List ℕ) : Type 0 where
  pub free : told (inside dir helper_path) ≡ None
  pub script_bytes : List ℕ
  pub script_holds : told script ≡ Some script_bytes
  pub of_classes : HasClasses (Some told) dir (λ files. CanRun files script_bytes)

-- The files of a folder, as it tells them, let its class files be rewritten.
pub record CanRewriteIn (told : Files) (dir : List ℕ) : Type 0 where
  pub free : told (inside dir helper_path) ≡ None
  pub of_classes : HasClasses (Some told) dir CanRewrite

-- a command that ended before its inputs were there: where it failed outside, the folder says so
abbrev pub EndsInputs : (Call → Type 0) → List ℕ → Seen → Seen → InputEnd → Type 0
EndsInputs Asks dir old new (ends.Outside path) = Failed Asks (string_bytes path) old new
EndsInputs Asks dir old new (ends.BadClass path r) = ⊥
EndsInputs Asks dir old new (ends.Refused r) = IsOverfull old.files dir r
EndsInputs Asks dir old new ends.NoMemory = Unit {0}

-- why a folder has no paths of class files
abbrev pub EndsListing : List ℕ → Seen → Seen → InputEnd → Type 0
EndsListing dir old new (ends.Outside path) = Failed (IsCallOfFolder old.files dir) (string_bytes path) old new
EndsListing dir old new (ends.BadClass path r) = ⊥
EndsListing dir old new (ends.Refused r) = IsTooDeep old.files dir r
EndsListing dir old new ends.NoMemory = Unit {0}

-- why folders weren't listed, or class files weren't read
abbrev pub EndsReads : (Call → Type 0) → Seen → Seen → InputEnd → Type 0
EndsReads Asks old new (ends.Outside path) = Failed Asks (string_bytes path) old new
EndsReads Asks old new ends.NoMemory = Unit {0}
EndsReads Asks old new end = ⊥

-- the end of a command over a folder that passes this limit by this number
abbrev pub IsOverLimitAs : List ℕ → ℕ → InputEnd → Type 0
IsOverLimitAs limit number (ends.Refused r) = r ≡ OverLimit limit (pos number)
IsOverLimitAs limit number ends.NoMemory = Unit {0}
IsOverLimitAs limit number end = ⊥

-- the class files that were read are good, and spell these classes
abbrev pub AreClassesOf : List ClassInput → List ClassFile → Type 0
AreClassesOf inputs cs = AllZip (λ (i : ClassInput). IsFileOf i.bytes) inputs cs

-- Of the class files that were read this one is the first that isn't good: it has this path and this fault.
pub record IsFirstFault (inputs : List ClassInput) (path : List ℕ) (r : Refusal) : Type 0 where
  pub before : List ClassInput
  pub input : ClassInput
  pub behind : List ClassInput
  pub are : inputs ≡ before ++ input ∷ behind
  pub classes : List ClassFile
  pub good : AreClassesOf before classes
  pub at_path : path ≡ string_bytes input.path
  pub fault : IsFileFault input.bytes r

-- the end of a command over a class file that was read and has this fault
abbrev pub IsBadClassAs : ClassInput → Refusal → InputEnd → Type 0
IsBadClassAs input r (ends.BadClass path s) = (string_bytes path ≡ string_bytes input.path) × (s ≡ r)
IsBadClassAs input r ends.NoMemory = Unit {0}
IsBadClassAs input r end = ⊥

-- why class files that were read have no classes
abbrev pub EndsClasses : List ClassInput → InputEnd → Type 0
EndsClasses inputs (ends.BadClass path r) = IsFirstFault inputs (string_bytes path) r
EndsClasses inputs ends.NoMemory = Unit {0}
EndsClasses inputs end = ⊥

-- a tree has classes under their names, the first of those of one name
abbrev pub AreUnderNames : List (Bor (List ℕ) × Bor ClassFile) → List ClassFile → Type 0
AreUnderNames es cs = (name : List ℕ) → option_map (λ c. c.now) (lookup (λ k. bytes_eq name k.now) es) ≡ class_named cs name

-- files that are to be put, each with its path
abbrev pub seen_files : List NewFile → List (List ℕ × List ℕ)
seen_files fs = map (λ (f : NewFile). (string_bytes f.path, f.bytes)) fs

-- Files were put up to one; where its put failed, the folder says so.
abbrev pub EndsPuts : List (List ℕ × List ℕ) → Seen → Seen → PutEnd → Type 0
EndsPuts fs old new (put_ends.Failed path) =
    ArePutUpTo fs old.files new.files (string_bytes path) × HasFailed old.put_faults new.put_faults new.failed (put_of (string_bytes path))
EndsPuts fs old new put_ends.NoMemory = (path : List ℕ) × ArePutUpTo fs old.files new.files path

-- why there is no class of these bytes
abbrev pub EndsReading : List ℕ → Halt → Type 0
EndsReading class (halts.Refused r) = IsFileFault class r
EndsReading class halts.NoMemory = Unit {0}

-- of the class files that were read the one at this place has the helper's path
pub record IsHelperAt (inputs : List ClassInput) (number : ℕ) : Type 0 where
  pub input : ClassInput
  pub there : slice_get inputs number ≡ Some input
  pub at_helper : string_bytes input.relative ≡ helper_path

-- of the class files that were read this one has the helper's path, and it spells this class
pub record IsHelperAmong (inputs : List ClassInput) (class : ClassFile) : Type 0 where
  pub number : ℕ
  pub input : ClassInput
  pub there : slice_get inputs number ≡ Some input
  pub at_helper : string_bytes input.relative ≡ helper_path
  pub good : IsFileOf input.bytes class

-- Why class files are refused, of which the file of one class has the helper's path. The linking of their classes ends with this fault; or they have
-- none, and that class is told.
abbrev pub IsReservedAs : List ClassFile → ClassFile → Refusal → Type 0
IsReservedAs files class r = HasFault r files ⊎ (AreLinked files × (r ≡ ReservedName (own_name class)))

-- Class files that were read are refused so, or none of them has the helper's path.
abbrev pub EndsReserved : List ClassInput → List ClassFile → Option Refusal → Type 0
EndsReserved inputs files (Some r) = (class : ClassFile) × IsHelperAmong inputs class × IsReservedAs files class r
EndsReserved inputs files None = Contains (paths_of inputs) helper_path → ⊥

-- the end of a run whose call of the folder ended so at a path
abbrev pub IsOutsideAt : IoEnd → List ℕ → InputEnd → Type 0
IsOutsideAt io.Failed path (ends.Outside p) = string_bytes p ≡ path
IsOutsideAt io.NoMemory path (ends.Outside p) = ⊥
IsOutsideAt e path ends.NoMemory = Unit {0}
IsOutsideAt e path end = ⊥
