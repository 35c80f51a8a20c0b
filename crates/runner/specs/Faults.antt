-- Why class files aren't run.
use Rattle.std.specs.Prelude.{◌≡◌, ◌⊎◌, ℕ, ◌<◌, pos, List, length, Some, Err, slice_get, codes}
use Rattle.jmodel.specs.declared.refusal.Refusal.{Refusal}
use Rattle.jmodel.specs.declared.refusal.Refusal.TheVariants.{Untypable, Construct}
use Rattle.jmodel.specs.format.ClassFile.{ClassFile}
use Rattle.objects.specs.linking.Classes.{in_order}
use Rattle.jmodel.specs.format.Name.{printed}
use Rattle.jmodel.specs.declared.value.Answer.{Answer}
use Rattle.objects.specs.semantics.Program.{Method, Program, method_at}
use Rattle.objects.specs.linking.Layout.{opening_state}
use Rattle.objects.specs.linking.Linking.{linking, linking_files, initialisers_in}
use Rattle.objects.specs.laws.LinkingLaw.{AreRead}
use Rattle.objects.specs.semantics.Opening.{Opening, Fails}
use Rattle.objects.specs.semantics.State.{State}
use Rattle.objects.specs.typing.Typing.{Table}
use Rattle.program_typing.specs.Tables.{AreTables}
use Rattle.program_typing.specs.Typed.{IsTyped, IsFirstUntyped, IsFirstEarly}
use Rattle.linking.specs.Pcs.{pc_of}
use Rattle.rewriter.specs.RewrittenClasses.{rewritten_folder}
use Rattle.script.specs.Script.{Script, IsScript, IsFault}
use Rattle.driver.specs.declared.memory.Memory.{Memory}
use Rattle.driver.specs.Memory.{Holds as StandsFor}
use Rattle.driver.specs.declared.setting_up.SetUpEnd.{SetUpEnd}
use Rattle.driver.specs.declared.setting_up.SetUpEnd.TheVariants as set_ends
use Rattle.runner.specs.Headline.{name_in, linked_files, IsRunnable}
use Rattle.runner.specs.declared.outcome.RunEnd.{RunEnd}
use Rattle.runner.specs.declared.outcome.RunEnd.TheVariants as ends

-- A place in the code of a method of the program of classes, counted in instructions, has this printed name and this place in bytes.
pub record IsAt (P : Program) (cs : List ClassFile) (number place : ℕ) (name : List ℕ) (pc : ℕ) : Type 0 where
  pub method : Method
  pub there : slice_get P.methods number ≡ Some method
  pub name_is : name ≡ printed method.name
  pub pc_is : pc_of cs number place ≡ Some pc

-- Of the methods of the program of classes this is the first that has code and no typing, as the refusal says.
pub record IsUntypedAs (P : Program) (cs : List ClassFile) (r : Refusal) : Type 0 where
  pub number : ℕ
  pub place : ℕ
  pub first : IsFirstUntyped P number place
  pub name : List ℕ
  pub pc : ℕ
  pub at : IsAt P cs number place name pc
  pub refusal : r ≡ Untypable name (pos pc)

-- Each has a typing, or no code, and this is the first that stores to a field of an object that another constructor has not run over, as the refusal says.
pub record IsEarlyAs (P : Program) (cs : List ClassFile) (r : Refusal) : Type 0 where
  pub number : ℕ
  pub place : ℕ
  pub first : IsFirstEarly P number place
  pub name : List ℕ
  pub pc : ℕ
  pub at : IsAt P cs number place name pc
  pub refusal : r ≡ Construct (codes "EarlyStore") name (pos pc)

-- By the narrowest typings of the methods of a typed program this is the first limit that the rewriting of its classes passes.
pub record PassesLimit (P : Program) (cs : List ClassFile) (r : Refusal) : Type 0 where
  pub typed : IsTyped P
  pub limit : (Ts : List Table) → AreTables P Ts → rewritten_folder cs P Ts ≡ Err r

-- the linking of the classes of class files ends with this fault
abbrev pub HasFault : Refusal → List ClassFile → Type 0
HasFault r files = linking_files files ≡ Err r

-- Why class files that are linked are refused: their program makes such a store, or their rewriting passes this limit.
abbrev pub IsBadRewriting : Refusal → List ClassFile → Type 0
IsBadRewriting r files = (P : Program) × (linked_files files ≡ Some P) × (IsEarlyAs P (in_order files) r ⊎ PassesLimit P (in_order files) r)

-- why class files are refused before they are typed, or once they are
abbrev pub IsBadProgram : Refusal → List ClassFile → Type 0
IsBadProgram r files = HasFault r files ⊎ IsBadRewriting r files

-- The classes of class files mean a program, a method of which has code and no typing, as the refusal says; it is the first.
abbrev pub IsUntypable : Refusal → List ClassFile → Type 0
IsUntypable r files = (P : Program) × (linked_files files ≡ Some P) × IsUntypedAs P (in_order files) r

-- Bytes are no script for classes and their program: there is none that they are, and this is the first rule that they break.
pub record IsNoScript (P : Program) (cs : List ClassFile) (bytes : List ℕ) (r : Refusal) : Type 0 where
  pub fault : IsFault cs P bytes r
  pub none : (s : Script) → IsScript cs P bytes s → ⊥

-- Why a script is refused: the class files can be run, and the bytes are no script for them.
abbrev pub IsBadScript : List ℕ → Refusal → List ClassFile → Type 0
IsBadScript bytes r files = (P : Program) × IsRunnable files P × IsNoScript P (in_order files) bytes r

-- Of the static initialisers of classes, superclasses first, each run alone from what those before it left, the first from the state of the
-- opening words, this is the first that doesn't return, and it ends so; the name is that of its class. A region has size words.
pub record IsShut (P : Program) (cs : List ClassFile) (size budget : ℕ) (name : List ℕ) (x : Answer) : Type 0 where
  pub number : ℕ
  pub method : Method
  pub there : slice_get P.methods number ≡ Some method
  pub class : name ≡ method.name.class
  pub fails : Fails P size budget (opening_state cs) (initialisers_in cs P) number x

-- Why a run doesn't begin: the class files can be run and the bytes are a script for them, but a static initialiser doesn't return, within the
-- script's turns and the words of a region.
pub record IsUnopened (bytes name : List ℕ) (x : Answer) (files : List ClassFile) : Type 0 where
  pub program : Program
  pub runnable : IsRunnable files program
  pub script : Script
  pub is_script : IsScript (in_order files) program bytes script
  pub shut : IsShut program (in_order files) script.region script.budget name x

-- ---- the ends of a run

-- why a script isn't run on class files
abbrev pub EndsRun : List ClassFile → List ℕ → RunEnd → Type 0
EndsRun files bytes (ends.Refused r) = IsBadProgram r files
EndsRun files bytes (ends.Untyped r) = IsUntypable r files
EndsRun files bytes (ends.BadScript r) = IsBadScript bytes r files
EndsRun files bytes (ends.Unopened name x) = IsUnopened bytes name x files
EndsRun files bytes ends.NoMemory = Unit {0}

-- why class files aren't linked
abbrev pub EndsLinking : List ClassFile → RunEnd → Type 0
EndsLinking files (ends.Refused r) = HasFault r files
EndsLinking files ends.NoMemory = Unit {0}
EndsLinking files end = ⊥

-- why class files aren't rewritten, nor prepared for a run
abbrev pub EndsPreparing : List ClassFile → RunEnd → Type 0
EndsPreparing files (ends.Refused r) = IsBadProgram r files
EndsPreparing files (ends.Untyped r) = IsUntypable r files
EndsPreparing files ends.NoMemory = Unit {0}
EndsPreparing files end = ⊥

-- Class files, in the order of the names of their classes, are as they are read, and are linked in that order.
pub record IsOrdered (files : List ClassFile) : Type 0 where
  pub read : AreRead (in_order files)
  pub as_ordered : linking_files files ≡ linking (in_order files)

-- why classes have no program
abbrev pub EndsBuild : List ClassFile → RunEnd → Type 0
EndsBuild cs (ends.Refused r) = linking cs ≡ Err r
EndsBuild cs ends.NoMemory = Unit {0}
EndsBuild cs end = ⊥

-- why the program of classes isn't typed
abbrev pub EndsTyping : Program → List ClassFile → RunEnd → Type 0
EndsTyping P cs (ends.Refused r) = IsEarlyAs P cs r
EndsTyping P cs (ends.Untyped r) = IsUntypedAs P cs r
EndsTyping P cs ends.NoMemory = Unit {0}
EndsTyping P cs end = ⊥

-- why the classes of a typed program aren't rewritten
abbrev pub EndsRewriting : Program → List ClassFile → RunEnd → Type 0
EndsRewriting P cs (ends.Refused r) = PassesLimit P cs r
EndsRewriting P cs ends.NoMemory = Unit {0}
EndsRewriting P cs end = ⊥

-- memory stands for the state that the static initialisers leave, from the state of the opening words
abbrev pub IsOpened : Program → List ClassFile → ℕ → ℕ → Memory → Type 0
IsOpened P cs size budget memory = (τ : State) × Opening P size budget (opening_state cs) (initialisers_in cs P) τ × StandsFor P size memory τ

-- why the static initialisers of classes leave none
abbrev pub EndsOpening : Program → List ClassFile → ℕ → ℕ → RunEnd → Type 0
EndsOpening P cs size budget (ends.Unopened name x) = IsShut P cs size budget name x
EndsOpening P cs size budget ends.NoMemory = Unit {0}
EndsOpening P cs size budget end = ⊥

-- a static initialiser that failed is a method of the program
abbrev pub IsNumbered : Program → SetUpEnd → Type 0
IsNumbered P (set_ends.Failed n x) = n < length P.methods
IsNumbered P set_ends.NoMemory = Unit {0}

-- the end of a run whose static initialisers ended so
abbrev pub IsUnopenedAs : Program → SetUpEnd → RunEnd → Type 0
IsUnopenedAs P (set_ends.Failed n x) (ends.Unopened name y) = (name ≡ (name_in (method_at P n)).class) × (y ≡ x)
IsUnopenedAs P set_ends.NoMemory (ends.Unopened name y) = ⊥
IsUnopenedAs P e ends.NoMemory = Unit {0}
IsUnopenedAs P e end = ⊥

-- why a script isn't run on classes that can be
abbrev pub EndsScript : Program → List ClassFile → List ℕ → RunEnd → Type 0
EndsScript P cs bytes (ends.BadScript r) = IsNoScript P cs bytes r
EndsScript P cs bytes (ends.Unopened name x) = (s : Script) × IsScript cs P bytes s × IsShut P cs s.region s.budget name x
EndsScript P cs bytes ends.NoMemory = Unit {0}
EndsScript P cs bytes end = ⊥
