-- What methods of original classes that keep their member records mean among rewritten classes.
use Rattle.std.specs.Prelude.{◌≡◌, ℕ, List, [], ◌∷◌, ◌++◌, Some, true, slice_get}
use Rattle.jmodel.specs.format.ClassFile.{Member, ClassFile}
use Rattle.objects.specs.linking.Classes.{Declared, full_name}
use Rattle.objects.specs.linking.Code.{retries_of}
use Rattle.jmodel.specs.format.Descriptor.{Signature}
use Rattle.jmodel.specs.format.PoolAdding.{IsLonger}
use Rattle.objects.specs.semantics.Program.{Method, Program}
use Rattle.objects.specs.linking.Decoding.{Symbols}
use Rattle.objects.specs.linking.Linking.{dispatch_of, receiver_types, parameter_types, result_type, signature_in, taken_methods, original_symbols}
use Rattle.objects.specs.rewriting.Relinking.{rewritten_symbols}
use Rattle.member_code.specs.Meaning.{meaning}
use Rattle.rewritten_names.specs.LeadsLaw.{AreTexts}
use Rattle.rewritten_names.specs.NamesLaw.{AreRewritten}

-- a member of a class as a method of these symbols
abbrev pub member_in : Symbols → Member → Declared
member_in s m = record { class = s.class; member = m }

-- With the symbols of an original class and of its rewritten one a member has the same head. The types of its signature are read alike.
pub record IsSameHead (s0 s : Symbols) (m : Member) : Type 0 where
  pub name : full_name (member_in s m) ≡ full_name (member_in s0 m)
  pub dispatch : dispatch_of s.class m ≡ dispatch_of s0.class m
  pub signature : signature_in (member_in s m) ≡ signature_in (member_in s0 m)
  pub receiver : receiver_types s.classes s.class m ≡ receiver_types s0.classes s0.class m
  pub parameters : (g : Signature) → signature_in (member_in s0 m) ≡ Some g → parameter_types s.classes g ≡ parameter_types s0.classes g
  pub result : (g : Signature) → signature_in (member_in s0 m) ≡ Some g → result_type s.classes g ≡ result_type s0.classes g
  pub retries : retries_of s.class.pool m ≡ retries_of s0.class.pool m

-- the member is one of the methods of a class
abbrev pub IsMethodOf : ClassFile → Member → Type 0
IsMethodOf c m = (j : ℕ) × (slice_get c.methods j ≡ Some m)

-- the member of a class is a method that is taken
abbrev pub IsTakenOf : List ClassFile → ClassFile → Member → Type 0
IsTakenOf cs c m = (j : ℕ) × (slice_get (taken_methods cs) j ≡ Some (record { class = c; member = m }))

-- Each method of an original class has the same head in its rewritten class, whose pool begins with that of its class.
abbrev pub SameHeadLaw : Type 0
SameHeadLaw = (P : Program) (originals classes : List ClassFile) (helper : ClassFile) → AreRewritten P originals classes helper → AreTexts helper → (i : ℕ) (c d : ClassFile) → slice_get originals i ≡ Some c → slice_get classes i ≡ Some d
    → IsLonger c.pool d.pool → (m : Member) → IsMethodOf c m → IsSameHead (original_symbols originals c) (rewritten_symbols P originals (classes ++ helper ∷ []) d) m

-- Each that is taken means there what it meant.
abbrev pub OldLaw : Type 0
OldLaw = (P : Program) (originals classes : List ClassFile) (helper : ClassFile) → AreRewritten P originals classes helper → AreTexts helper → (i : ℕ) (c d : ClassFile) → slice_get originals i ≡ Some c → slice_get classes i ≡ Some d
    → IsLonger c.pool d.pool → (m : Member) (k : Method) → IsTakenOf originals c m → meaning (original_symbols originals c) true m ≡ Some k
    → meaning (rewritten_symbols P originals (classes ++ helper ∷ []) d) true m ≡ Some k
