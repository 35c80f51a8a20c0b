-- What stands above a class is what stands above those right above it; and the types of a folder's program keep the rules of source.
use Rattle.std.specs.Prelude.{◌≡◌, ◌≢◌, ◌<◌, ◌≤◌, ◌^◌, ℕ, List, length, Some, None, Ok, true, slice_get}
use Rattle.std.specs.List.{AllByRecursion, flat_map}
use Rattle.jmodel.specs.format.ClassFile.{Pool, ClassFile}
use Rattle.jmodel.specs.format.Pool.{class_name}
use Rattle.jmodel.specs.format.ClassRules.{IsClassFile}
use Rattle.jmodel.specs.format.Descriptor.{is_array_name, IsArrayName}
use Rattle.objects.specs.linking.StaticBases.{at_address}
use Rattle.objects.specs.linking.Members.{own_name}
use Rattle.objects.specs.linking.Superclasses.{class_named, super_name, with_above, lineage}
use Rattle.objects.specs.linking.Classes.{Declared, in_order, doubled_class}
use Rattle.objects.specs.semantics.Program.{Method, Program}
use Rattle.objects.specs.typing.TypeOrder.{context_class, conflict_class, is_class_name}
use Rattle.objects.specs.typing.Source.{AreTypes, IsSource}
use Rattle.objects.specs.linking.Layout.{rows, fields_of, fixed_words, opening_state, opening_words}
use Rattle.objects.specs.history.Meaning.{Represents}
use Rattle.objects.specs.linking.Linking.{taken_methods, constructs_fault, linking, linking_files}
use Rattle.objects.specs.linking.Resolution.{names_above, ancestry}
use Rattle.objects.specs.linking.ClassesFaults.{supers_fault, reserved_class}

-- The ways upward are as JVM Specification, Java SE 7, sections 5.4.3.2 and 5.4.3.3, walk them: from a class to its superclass, and on from there; or to
-- each of its interfaces and then its superclass, and on from each. How many classes there are cuts none of them short.
pub record IsUpward (cs : List ClassFile) : Type 0 where
  pub supers : (name : List ℕ) → lineage cs name ≡ with_above (λ c. lineage cs (super_name c)) (class_named cs name)
  pub all : (name : List ℕ) → ancestry cs name ≡ with_above (λ c. flat_map (ancestry cs) (names_above c)) (class_named cs name)

abbrev pub UpwardLaw : Type 0
UpwardLaw = (cs : List ClassFile) → supers_fault cs ≡ None → IsUpward cs

-- the names of classes in a pool that begin as arrays' are arrays' (section 4.4.1)
abbrev pub IsFormed : Pool → Type 0
IsFormed pool = (i : ℕ) (n : List ℕ) → class_name pool i ≡ Some n → is_array_name n ≡ true → IsArrayName n

-- Classes without a fault, of class files that keep the rules of names; none has a name of the transaction.
pub record AreFaultless (cs : List ClassFile) : Type 0 where
  pub supers : supers_fault cs ≡ None
  pub doubled : doubled_class cs ≡ None
  pub constructs : constructs_fault cs ≡ None
  pub context : class_named cs context_class ≡ None
  pub conflict : class_named cs conflict_class ≡ None
  pub named : (i : ℕ) (c : ClassFile) → slice_get cs i ≡ Some c → is_class_name (own_name c) ≡ true
  pub formed : AllByRecursion (λ (k : Declared). IsFormed k.class.pool) (taken_methods cs)

-- The types of their program keep the rules of source.
abbrev pub TypesLaw : Type 0
TypesLaw = (cs : List ClassFile) → AreFaultless cs → (texts : List ℕ) (methods : List Method) → AreTypes (record { types = rows cs; texts = texts; fields = fields_of cs; methods = methods })

-- Class files that keep the rules of their form, no more than a folder may have, of which no two have classes of one name and none has a name that
-- rewriting keeps for itself.
pub record AreRead (cs : List ClassFile) : Type 0 where
  pub few : length cs ≤ 256
  pub files : AllByRecursion IsClassFile cs
  pub doubled : doubled_class cs ≡ None
  pub reserved : reserved_class cs ≡ None

-- The program of such classes is source.
abbrev pub SourceLaw : Type 0
SourceLaw = (cs : List ClassFile) (P : Program) → AreRead cs → linking cs ≡ Ok (Some P) → IsSource P

-- Class files in whatever order, each in its form and no more than a folder may have, that are linked to a program: in the order of their classes'
-- names they are as they are read, and the program is source.
pub record IsLinkedFolder (files : List ClassFile) (P : Program) : Type 0 where
  pub read : AreRead (in_order files)
  pub linked : linking (in_order files) ≡ Ok (Some P)
  pub source : IsSource P

abbrev pub FilesLaw : Type 0
FilesLaw = (files : List ClassFile) (P : Program) → length files ≤ 256 → AllByRecursion IsClassFile files → linking_files files ≡ Ok (Some P) → IsLinkedFolder files P

-- The opening words stand for the opening state, where a region has room for the fixed words.
abbrev pub OpeningLaw : Type 0
OpeningLaw = (cs : List ClassFile) (P : Program) (size : ℕ) → AreRead cs → linking cs ≡ Ok (Some P) → fixed_words cs ≤ size → size < 2 ^ 64
    → Represents P size (at_address (opening_words cs)) (opening_state cs)

-- Each instruction of such classes that has no construct that is left out means something: they are linked to a program, or refused.
abbrev pub MeaningLaw : Type 0
MeaningLaw = (cs : List ClassFile) → AreRead cs → linking cs ≢ Ok None
