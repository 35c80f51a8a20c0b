-- What the classes of a folder mean as one program, in the byte order of their names, or what they are refused for (JVM Specification, Java SE 7, chapter 5).
-- The order in which faults are told is this project's own.
use Rattle.std.specs.Prelude.{ℕ, ◌+◌, List, [], ◌∷◌, ◌++◌, length, map, filter, zip, Option, Some, None, Result, Ok, Err, Bool, true, false, not, ◌==◌, ◌&&◌, ◌||◌, if◌then◌else◌, codes, bytes_eq, bit_and, option_map, option_and_then}
use Rattle.std.specs.List.{flat_map}
use Rattle.jmodel.specs.declared.class_file.FieldType.{FieldType}
use Rattle.jmodel.specs.declared.name.MethodName.{MethodName}
use Rattle.jmodel.specs.declared.refusal.Refusal.{Refusal}
use Rattle.jmodel.specs.declared.typing.VType.{VType}
use Rattle.jmodel.specs.declared.typing.VType.TheVariants as type
use Rattle.jmodel.specs.format.Reading.{◌>>=◌}
use Rattle.jmodel.specs.format.ClassFile.{Member, ClassFile}
use Rattle.jmodel.specs.format.Pool.{utf8, text_or_none}
use Rattle.jmodel.specs.format.ClassRules.{same_text}
use Rattle.jmodel.specs.format.Descriptor.{Signature}
use Rattle.jmodel.specs.format.DescriptorReading.{signature_of}
use Rattle.objects.specs.linking.Members.{is_static, own_name}
use Rattle.objects.specs.linking.StaticBases.{base_of}
use Rattle.objects.specs.linking.Classes.{Declared as DeclaredMember, methods_in, full_name, in_order, doubled_class, in_start_order}
use Rattle.objects.specs.linking.Taken.{is_taken}
use Rattle.objects.specs.linking.Code.{Coded, decoded, retries_of, names_initialiser}
use Rattle.objects.specs.linking.Faults.{unless, first_fault}
use Rattle.objects.specs.linking.Each.{each}
use Rattle.objects.specs.declared.op.Dispatch.{Dispatch}
use Rattle.objects.specs.declared.op.Dispatch.TheVariants as dispatch
use Rattle.objects.specs.declared.op.Op.{Op}
use Rattle.objects.specs.declared.op.Catch.{Catch}
use Rattle.objects.specs.typing.TypeOrder.{place_types}
use Rattle.objects.specs.semantics.Program.{Method, Program, method_at}
use Rattle.objects.specs.rewriting.Rewriting.{as_result}
use Rattle.objects.specs.linking.Resolution.{is_private, is_abstract_member}
use Rattle.objects.specs.linking.Constructs.{construct_fault}
use Rattle.objects.specs.linking.ClassesFaults.{reserved_class, supers_fault, marks_fault, members_fault}
use Rattle.objects.specs.linking.Layout.{class_read, declared_as, rows, fields_of, texts_of, text_places}
use Rattle.objects.specs.linking.Decoding.{Symbols, ops_of, catch_of}

-- ---- methods

-- a constructor, or a private method, which calls find by its name
abbrev pub is_exact : ClassFile → Member → Bool
is_exact c m = is_private m || same_text (utf8 c.pool m.name) (codes "<init>")

-- how calls find a method (sections 5.4.3.3 and 5.4.6)
abbrev pub dispatch_of : ClassFile → Member → Dispatch
dispatch_of c m =
    if is_static m then dispatch.Static
    else if is_exact c m then dispatch.Exact
    else if is_abstract_member m then dispatch.Abstract
    else dispatch.Virtual

-- the object comes first, unless the method is static
abbrev pub receiver_types : List ClassFile → ClassFile → Member → List VType
receiver_types cs c m = if is_static m then [] else type.Ref (class_read cs (own_name c)) ∷ []

abbrev pub parameter_types : List ClassFile → Signature → List VType
parameter_types cs g = flat_map (λ (t : FieldType). place_types (declared_as cs t)) g.parameters

abbrev pub result_type : List ClassFile → Signature → Option VType
result_type cs g = option_map (λ (t : FieldType). as_result (declared_as cs t)) g.result

-- a method's code, with the places of its frame: none where it is abstract, whose parameters have places alone
pub record Body : Type 0 where
  pub locals : ℕ
  pub max_stack : ℕ
  pub ops : List Op
  pub catches : List Catch

abbrev pub no_body : ℕ → Body
no_body places = record { locals = places; max_stack = 0; ops = []; catches = [] }

abbrev pub with_catches : Coded → Option (List Op) → Option (List Catch) → Option Body
with_catches k (Some ops) (Some catches) = Some (record { locals = k.code.max_locals; max_stack = k.code.max_stack; ops = ops; catches = catches })
with_catches k ops catches = None

-- what the code of a method means
abbrev pub coded_body : Symbols → Coded → Option Body
coded_body s k = with_catches k (ops_of s k.instrs) (each (catch_of s.class.pool k.instrs (length k.code.code)) k.code.handlers)

abbrev pub body_of : Symbols → ℕ → Option Coded → Option Body
body_of s places None = Some (no_body places)
body_of s places (Some k) = coded_body s k

-- A method of a class, by its signature, whose frames count or don't.
abbrev pub method_with : Symbols → Bool → Member → Signature → Body → Method
method_with s counted m g b = record {
  name = full_name (record { class = s.class; member = m });
  dispatch = dispatch_of s.class m;
  parameters = receiver_types s.classes s.class m ++ parameter_types s.classes g;
  places = length (receiver_types s.classes s.class m ++ parameter_types s.classes g);
  locals = b.locals;
  max_stack = b.max_stack;
  result = result_type s.classes g;
  counted = counted;
  retries = retries_of s.class.pool m;
  ops = b.ops;
  catches = b.catches;
}

abbrev pub signature_in : DeclaredMember → Option Signature
signature_in k = signature_of (text_or_none (utf8 k.class.pool k.member.descriptor))

abbrev pub shaped : Symbols → Bool → Member → Option Coded → Signature → Option Method
shaped s counted m k g =
    option_map (method_with s counted m g) (body_of s (length (receiver_types s.classes s.class m ++ parameter_types s.classes g)) k)

-- what a method with its instructions means
abbrev pub method_of : Symbols → Bool → Member → Option Coded → Option Method
method_of s counted m k = option_and_then (shaped s counted m k) (signature_in (record { class = s.class; member = m }))

-- ---- the code of methods

-- an abstract or a native method, 0400 and 0100, has none
abbrev pub has_no_code : Member → Bool
has_no_code m = not (bit_and m.flags 0x500 == 0)

abbrev pub decoded_member : DeclaredMember → Result (Option Coded) Refusal
decoded_member k = if has_no_code k.member then Ok None else (decoded k.class k.member >>= λ x. Ok (Some x))

-- what each has, or the first fault
abbrev pub all_decoded : List DeclaredMember → Result (List (Option Coded)) Refusal
all_decoded [] = Ok []
all_decoded (k ∷ ks) = decoded_member k >>= λ first. all_decoded ks >>= λ others. Ok (first ∷ others)

-- ---- programs

-- the methods of the program, class by class: those that are taken
abbrev pub taken_methods : List ClassFile → List DeclaredMember
taken_methods cs = filter (is_taken cs) (methods_in cs)

-- the place of a class among others, by its name
abbrev pub place_from : ℕ → List ClassFile → List ℕ → ℕ
place_from n [] name = n
place_from n (c ∷ cs) name = if bytes_eq (own_name c) name then n else place_from (n + 1) cs name

abbrev pub base_in : List ClassFile → List ℕ → ℕ
base_in cs name = base_of cs (place_from 0 cs name)

-- a class among others, with what the program of some of them has, and the names of its methods
abbrev pub symbols_in : (originals classes : List ClassFile) → List MethodName → ClassFile → Symbols
symbols_in originals classes names c = record {
  class = c;
  classes = classes;
  types = rows originals;
  texts = texts_of originals;
  fields = fields_of originals;
  methods = names;
  base = base_in originals (own_name c);
}

-- the symbols of original classes
abbrev pub original_symbols : List ClassFile → ClassFile → Symbols
original_symbols cs c = symbols_in cs cs (map full_name (taken_methods cs)) c

abbrev pub linked_methods : List ClassFile → List (Option Coded) → Option (List Method)
linked_methods cs ks =
    each (λ (p : DeclaredMember × Option Coded). method_of (original_symbols cs p.0.class) true p.0.member p.1) (zip (taken_methods cs) ks)

-- the program of classes, by the code of its methods
abbrev pub program_with : List ClassFile → List (Option Coded) → Option Program
program_with cs ks = option_map (λ ms. record { types = rows cs; texts = text_places cs; fields = fields_of cs; methods = ms }) (linked_methods cs ks)

-- the first construct in the program's methods that is left out
abbrev pub constructs_fault : List ClassFile → Option Refusal
constructs_fault cs = first_fault (construct_fault cs) (taken_methods cs)

abbrev pub coded_program : List ClassFile → Result (Option Program) Refusal
coded_program cs = all_decoded (taken_methods cs) >>= λ ks. unless (constructs_fault cs) (Ok (program_with cs ks))

-- The program of classes, or their first fault, in this order: superclasses and interfaces; marks of all methods; members; code of the taken
-- methods; constructs in these that are left out.
abbrev pub linking : List ClassFile → Result (Option Program) Refusal
linking cs = unless (supers_fault cs) (unless (marks_fault cs) (unless (members_fault cs) (coded_program cs)))

abbrev pub program_in : Result (Option Program) Refusal → Option Program
program_in (Ok p) = p
program_in (Err r) = None

-- the program of classes without a fault
abbrev pub linked : List ClassFile → Option Program
linked cs = program_in (linking cs)

-- The same of class files in the order of their paths, of which no two have classes of one name, and none has a name that rewriting keeps for itself.
abbrev pub linking_files : List ClassFile → Result (Option Program) Refusal
linking_files files = unless (doubled_class files) (unless (reserved_class files) (linking (in_order files)))

-- ---- static initialisers

abbrev pub is_initialiser_of : List ℕ → Option Method → Bool
is_initialiser_of name None = false
is_initialiser_of name (Some k) = names_initialiser k.name && bytes_eq k.name.class name

abbrev pub numbers_from : ℕ → List Method → List ℕ
numbers_from m [] = []
numbers_from m (k ∷ ks) = m ∷ numbers_from (m + 1) ks

-- the numbers of a program's static initialisers, in the order in which they run: before each those of the classes above its own (section 5.5)
abbrev pub initialisers_in : List ClassFile → Program → List ℕ
initialisers_in cs P = flat_map (λ c. filter (λ m. is_initialiser_of (own_name c) (method_at P m)) (numbers_from 0 P.methods)) (in_start_order cs)
