-- Where the names of fields and methods lead among rewritten classes.
use Rattle.std.specs.Prelude.{◌≡◌, ℕ, ◌+◌, List, [], ◌∷◌, ◌++◌, length, Option, Some, Ok, Bool, true, false, bytes_eq, codes, slice_get, position, map, option_and_then}
use Rattle.jmodel.specs.declared.name.MethodName.{MethodName}
use Rattle.jmodel.specs.format.ClassFile.{Member, ClassFile}
use Rattle.jmodel.specs.format.Pool.{MemberName, utf8, text_or_none}
use Rattle.objects.specs.linking.Reserved.{is_reserved}
use Rattle.objects.specs.linking.Members.{own_name, is_member}
use Rattle.jmodel.specs.declared.instruction.Instr.{Instr}
use Rattle.objects.specs.linking.Classes.{Declared, declared_in, full_name}
use Rattle.objects.specs.linking.Code.{Coded, decoded}
use Rattle.objects.specs.linking.Taken.{invoked}
use Rattle.objects.specs.semantics.Program.{Field, Program, field_at}
use Rattle.objects.specs.linking.Layout.{class_read}
use Rattle.objects.specs.linking.Decoding.{Symbols, is_method, field_number, number_of, method_number}
use Rattle.objects.specs.linking.Resolution.{special_method}
use Rattle.objects.specs.linking.Linking.{original_symbols, taken_methods, linking}
use Rattle.objects.specs.laws.LinkingLaw.{AreRead}
use Rattle.objects.specs.rewriting.Relinking.{rewritten_symbols}
use Rattle.objects.specs.rewriting.Rewriting.{helper_class, with_context, duplicate_name, getter_method, setter_method, getter, setter, duplicate}
use Rattle.rewritten_names.specs.Heads.{head_of, is_numbered}
use Rattle.rewritten_names.specs.NamesLaw.{AreRewritten}

abbrev pub IsOther : List ℕ → Type 0
IsOther name = bytes_eq helper_class name ≡ false

-- A name of original code: its class isn't the helper, and none of its texts is kept for rewriting.
pub record IsPlain (n : MemberName) : Type 0 where
  pub class : IsOther n.class
  pub name : is_reserved n.name ≡ false
  pub descriptor : is_reserved n.descriptor ≡ false

-- the name of the duplicate of what a name stands for
abbrev pub copy_member : MemberName → MemberName
copy_member n = record { class = n.class; name = duplicate_name n.name; descriptor = with_context n.descriptor }

abbrev pub as_member : MethodName → MemberName
as_member n = record { class = n.class; name = n.name; descriptor = n.descriptor }

-- each method of the name, in whatever class, is one of the program
abbrev pub IsCovered : List ClassFile → Program → MemberName → Type 0
IsCovered cs P n = (i : ℕ) (c : ClassFile) (j : ℕ) (m : Member) → slice_get cs i ≡ Some c → slice_get c.methods j ≡ Some m → is_member c.pool n.name n.descriptor m ≡ true → is_numbered P (own_name c) (head_of c.pool m) ≡ true

-- the named class has the method itself, and it is one of the program
pub record IsOwn (cs : List ClassFile) (P : Program) (n : MemberName) : Type 0 where
  pub place : ℕ
  pub class : ClassFile
  pub there : slice_get cs place ≡ Some class
  pub named : own_name class ≡ n.class
  pub index : ℕ
  pub member : Member
  pub inside : slice_get class.methods index ≡ Some member
  pub has : is_member class.pool n.name n.descriptor member ≡ true
  pub numbered : is_numbered P (own_name class) (head_of class.pool member) ≡ true

-- With the symbols s of a rewritten class and those of its original, plain names lead to what they led to, names of duplicates to the duplicates of that,
-- and the names of accessors and of the helper's methods to these. Classes are read as they were.
pub record Leads (cs : List ClassFile) (P : Program) (helper : ClassFile) (s0 s : Symbols) : Type 0 where
  pub fields : (n : MemberName) → IsPlain n → field_number s n ≡ field_number s0 n
  pub methods : (n : MemberName) → IsPlain n → (m : ℕ) → method_number s0 n ≡ Some m → method_number s n ≡ Some m
  pub copies : (n : MemberName) → IsPlain n → IsCovered cs P n → (m : ℕ) → method_number s0 n ≡ Some m → method_number s (copy_member n) ≡ Some (duplicate P m)
  pub own_copies : (n : MemberName) → IsPlain n → IsOwn cs P n → (m : ℕ) → method_number s0 n ≡ Some m → method_number s (copy_member n) ≡ Some (duplicate P m)
  pub getters : (i : ℕ) (f : Field) → field_at P i ≡ Some f → method_number s (as_member (getter_method 0 f).name) ≡ Some (getter P i)
  pub setters : (i : ℕ) (f : Field) → field_at P i ≡ Some f → method_number s (as_member (setter_method f).name) ≡ Some (setter P i)
  pub helpers : (n : MemberName) (i : ℕ) → n.class ≡ helper_class → position (is_method (record { class = n.class; name = n.name; descriptor = n.descriptor })) (map full_name (declared_in helper helper.methods)) ≡ Some i
      → method_number s n ≡ Some (duplicate P (length P.methods) + i)
  pub reads : (name : List ℕ) → IsOther name → class_read s.classes name ≡ class_read s0.classes name

-- the number of the method that invokespecial runs of a name
abbrev pub special_number : Symbols → MemberName → Option ℕ
special_number s n = option_and_then (number_of s) (special_method s.classes s.class n)

-- So do the names in invokespecial, which stand for what is selected from the superclass upward, or for a method itself.
pub record LeadsSpecial (cs : List ClassFile) (P : Program) (s0 s : Symbols) : Type 0 where
  pub methods : (n : MemberName) → IsPlain n → (m : ℕ) → special_number s0 n ≡ Some m → special_number s n ≡ Some m
  pub copies : (n : MemberName) → IsPlain n → IsCovered cs P n → (m : ℕ) → special_number s0 n ≡ Some m → special_number s (copy_member n) ≡ Some (duplicate P m)
  pub own_copies : (n : MemberName) → IsPlain n → n.name ≡ codes "<init>" → IsOwn cs P n → (m : ℕ) → special_number s0 n ≡ Some m → special_number s (copy_member n) ≡ Some (duplicate P m)

-- the methods of a class have names and descriptors
pub record AreTexts (c : ClassFile) : Type 0 where
  pub name : (m : Member) → (i : ℕ) × (slice_get c.methods i ≡ Some m) → utf8 c.pool m.name ≡ Some (text_or_none (utf8 c.pool m.name))
  pub descriptor : (m : Member) → (i : ℕ) × (slice_get c.methods i ≡ Some m) → utf8 c.pool m.descriptor ≡ Some (text_or_none (utf8 c.pool m.descriptor))

abbrev pub LeadsLaw : Type 0
LeadsLaw = (P : Program) (originals classes : List ClassFile) (helper : ClassFile) → AreRewritten P originals classes helper → AreTexts helper → (i : ℕ) (c d : ClassFile) → slice_get originals i ≡ Some c → slice_get classes i ≡ Some d
    → Leads originals P helper (original_symbols originals c) (rewritten_symbols P originals (classes ++ helper ∷ []) d)

abbrev pub SpecialLaw : Type 0
SpecialLaw = (P : Program) (originals classes : List ClassFile) (helper : ClassFile) → AreRewritten P originals classes helper → AreTexts helper → (i : ℕ) (c d : ClassFile) → slice_get originals i ≡ Some c → slice_get classes i ≡ Some d
    → LeadsSpecial originals P (original_symbols originals c) (rewritten_symbols P originals (classes ++ helper ∷ []) d)

-- a call in the code of a method that is taken
pub record IsCall (cs : List ClassFile) (n : MemberName) : Type 0 where
  pub place : ℕ
  pub caller : Declared
  pub there : slice_get (taken_methods cs) place ≡ Some caller
  pub coded : Coded
  pub decodes : decoded caller.class caller.member ≡ Ok coded
  pub index : ℕ
  pub instr : Instr
  pub inside : slice_get coded.instrs index ≡ Some instr
  pub names : invoked caller.class.pool instr ≡ Some n

abbrev pub IsCoveredUnless : Bool → List ClassFile → Program → MemberName → Type 0
IsCoveredUnless true cs P n = Unit {0}
IsCoveredUnless false cs P n = IsCovered cs P n

-- Names in calls are plain, and each method of such a name is the program's, unless it is a constructor's.
pub record IsCallOf (cs : List ClassFile) (P : Program) (n : MemberName) : Type 0 where
  pub plain : IsPlain n
  pub covered : IsCoveredUnless (bytes_eq n.name (codes "<init>")) cs P n

abbrev pub CallsLaw : Type 0
CallsLaw = (cs : List ClassFile) (P : Program) → AreRead cs → linking cs ≡ Ok (Some P) → (n : MemberName) → IsCall cs n → IsCallOf cs P n
