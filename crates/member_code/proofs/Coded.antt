-- What an added method means whose code is one run of instructions.
use Rattle.std.proofs.Common.{◌≡◌, ℕ, ◌+◌, ◌<◌, Bool, true, false, ◌&&◌, List, [], ◌∷◌, ◌++◌, length, Option, Some, None, Result, Ok, refl, sym, ap, ◌∙◌, subst, arith}
use Rattle.std.specs.Prelude.{codes, ℤ, pos, bytes_eq, bit_and, nat_eq, option_and_then, option_map, if◌then◌else◌}
use Rattle.std.specs.List.{AllByRecursion}
use Rattle.jmodel.specs.declared.instruction.Instr.{Instr}
use Rattle.jmodel.specs.declared.name.MethodName.{MethodName}
use Rattle.jmodel.specs.declared.refusal.Refusal.{Refusal}
use Rattle.jmodel.specs.declared.typing.VType.{VType}
use Rattle.jmodel.specs.format.ClassFile.{Pool, Member, Code}
use Rattle.jmodel.specs.format.Pool.{utf8, text_or_none}
use Rattle.jmodel.specs.format.ClassRules.{same_text}
use Rattle.jmodel.specs.format.ClassReading.{code_of}
use Rattle.objects.specs.linking.Classes.{full_name}
use Rattle.objects.specs.linking.Code.{Coded, code_in, decoded, decoded_code, mark_retries, is_initialiser, retries_of}
use Rattle.jmodel.specs.format.Descriptor.{Signature}
use Rattle.jmodel.specs.format.DescriptorReading.{signature_of}
use Rattle.jmodel.specs.format.InstructionReading.{instrs_of}
use Rattle.jmodel.specs.format.Mark.{all_annotations, retries_in}
use Rattle.jmodel.specs.format.Relocation.{place_of, relocated}
use Rattle.objects.specs.linking.Members.{own_name}
use Rattle.objects.specs.declared.op.Dispatch.{Dispatch}
use Rattle.objects.specs.declared.op.Dispatch.TheVariants as dispatch
use Rattle.objects.specs.declared.op.Op.{Op}
use Rattle.objects.specs.declared.op.Catch.{Catch}
use Rattle.objects.specs.linking.Decoding.{Symbols, ops_of}
use Rattle.objects.specs.semantics.Program.{Method}
use Rattle.objects.specs.linking.Linking.{parameter_types, result_type, signature_in, shaped, with_catches, decoded_member}
use Rattle.objects.specs.rewriting.Relinking.{decoded_or_none}
use Rattle.objects.specs.rewriting.Rewriting.{added}
use Rattle.member_code.specs.Coding.{added_method}
use Rattle.member_code.specs.Meaning.{meaning}
use Rattle.member_code.proofs.Single.{AreMeant, IsLaid}
use Rattle.member_code.proofs.Straight.{run, IsRun, run_read, run_back, run_means}

-- a static method of these parts, whose frames don't count
abbrev pub method_as : MethodName → List VType → ℕ → ℕ → ℕ → Option VType → Option ℤ → List Op → Method
method_as name takes places locals most result retries ops = record {
  name = name;
  dispatch = dispatch.Static;
  parameters = takes;
  places = places;
  locals = locals;
  max_stack = most;
  result = result;
  counted = false;
  retries = retries;
  ops = ops;
  catches = [];
}

third_fails : (x y z : Bool) → z ≡ false → (x && (y && z)) ≡ false
third_fails true true z h = h
third_fails true false z h = refl
third_fails false y z h = refl

-- of a static initialiser a number, else another's
chosen : (b : Bool) (o : Option ℤ) → b ≡ false → o ≡ None → (if b then Some (pos 2147483647) else o) ≡ None
chosen b o e f = rw (e, f) refl

unmarked : (pool : Pool) (name descriptor code : ℕ) (bytes : List ℕ) → utf8 pool code ≡ Some (codes "Code") → mark_retries pool (added_method 0x1009 name descriptor code bytes) ≡ None
unfolding retries_in all_annotations
unmarked pool name descriptor code bytes c = rw c refl

-- a method that is added isn't called from outside
no_retries : (pool : Pool) (name descriptor code : ℕ) (bytes d : List ℕ) → utf8 pool descriptor ≡ Some d → bytes_eq d (codes "()V") ≡ false → utf8 pool code ≡ Some (codes "Code")
    → retries_of pool (added_method 0x1009 name descriptor code bytes) ≡ None
no_retries pool name descriptor code bytes d typed other c =
    chosen _ _ (third_fails (nat_eq (bit_and 0x1009 0x408) 8) (same_text (utf8 pool name) (codes "<clinit>")) (same_text (utf8 pool descriptor) (codes "()V")) (ap (λ o. same_text o (codes "()V")) typed ∙ other))
    (unmarked pool name descriptor code bytes c)

-- what is known of an added method
pub record IsAdded (s : Symbols) (m : Member) (name d : List ℕ) (bytes : List ℕ) : Type 0 where
  pub name_at : ℕ
  pub descriptor_at : ℕ
  pub code_at : ℕ
  pub is : m ≡ added_method 0x1009 name_at descriptor_at code_at bytes
  pub named : utf8 s.class.pool name_at ≡ Some name
  pub typed : utf8 s.class.pool descriptor_at ≡ Some d
  pub coded : utf8 s.class.pool code_at ≡ Some (codes "Code")

-- what is known of its descriptor
pub record IsTyped (s : Symbols) (d : List ℕ) (takes : List VType) (result : Option VType) : Type 0 where
  pub signature : Signature
  pub is : signature_of d ≡ Some signature
  pub takes_are : parameter_types s.classes signature ≡ takes
  pub result_is : result_type s.classes signature ≡ result
  pub other : bytes_eq d (codes "()V") ≡ false

module _ (s : Symbols) (m : Member) (class name d : List ℕ) (takes : List VType) (result : Option VType) (most : ℕ) (is : List Instr) (ops : List Op) (bytes : List ℕ) (A : IsAdded s m name d bytes) (T : IsTyped s d takes result)
    (R : IsRun most (length takes) is bytes) (laid : AllByRecursion (IsLaid s.class.pool) is) (some : 0 < length is) (few : most < 65536) (short : length takes < 65536) (own : own_name s.class ≡ class)
    (meant : AreMeant s (place_of (run is)) (relocated (run is) []) is ops) where
  abbrev it : Member
  it = added_method 0x1009 A.name_at A.descriptor_at A.code_at bytes

  abbrev code : Code
  code = record { max_stack = most; max_locals = length takes; code = R.code; handlers = []; attributes = [] }

  abbrev read : Coded
  read = record { code = code; instrs = relocated (run is) [] }

  in_member : code_in s.class.pool it ≡ Some code
  in_member = let c = A.coded in let x = run_back s.class.pool most (length takes) is bytes R laid some few short in rw c x

  decoded_is : decoded_member (record { class = s.class; member = it }) ≡ Ok (Some read)
  decoded_is = let x = in_member in let y = run_read s.class.pool most (length takes) is bytes R laid some in rw x (rw y refl)

  abbrev signed : Signature
  signed = T.signature

  signature_is : signature_in (record { class = s.class; member = it }) ≡ Some T.signature
  signature_is = ap (λ (o : Option (List ℕ)). signature_of (text_or_none o)) A.typed ∙ T.is

  abbrev made : Method
  made = method_as (full_name (record { class = s.class; member = it })) (parameter_types s.classes T.signature) (length (parameter_types s.classes T.signature)) (length takes) most (result_type s.classes T.signature) (retries_of s.class.pool it) ops

  shape_is : shaped s false it (Some read) T.signature ≡ Some made
  shape_is = let x = run_means s.class.pool most (length takes) is bytes R laid some s ops meant in rw x refl

  name_is : full_name (record { class = s.class; member = it }) ≡ record { class = class; name = name; descriptor = d }
  name_is = let x = A.named in let y = A.typed in let z = own in rw (x, y, z) refl

  made_is : made ≡ added class name d takes most result ops
  made_is =
      ap (λ (x : MethodName). method_as x (parameter_types s.classes T.signature) (length (parameter_types s.classes T.signature)) (length takes) most (result_type s.classes T.signature) (retries_of s.class.pool it) ops) name_is
      ∙ ap (λ (x : List VType). method_as (record { class = class; name = name; descriptor = d }) x (length x) (length takes) most (result_type s.classes T.signature) (retries_of s.class.pool it) ops) T.takes_are
      ∙ ap (λ (x : Option VType). method_as (record { class = class; name = name; descriptor = d }) takes (length takes) (length takes) most x (retries_of s.class.pool it) ops) T.result_is
      ∙ ap (λ (x : Option ℤ). method_as (record { class = class; name = name; descriptor = d }) takes (length takes) (length takes) most result x ops) (no_retries s.class.pool A.name_at A.descriptor_at A.code_at bytes d A.typed T.other A.coded)

  -- it means the method of these parts
  pub straight_means : meaning s false m ≡ Some (added class name d takes most result ops)
  straight_means =
      ap (meaning s false) A.is
      ∙ ap (λ (r : Result (Option Coded) Refusal). option_and_then (λ k. option_and_then (shaped s false it k) (signature_in (record { class = s.class; member = it }))) (decoded_or_none r)) decoded_is
      ∙ ap (option_and_then (shaped s false it (Some read))) signature_is
      ∙ shape_is
      ∙ ap (λ (k : Method). Some k) made_is
