-- What classes mean, computed: a class with a static initialiser and a constructor, its memory before the first call, and what its initialiser does.
use Rattle.std.proofs.Common.{◌≡◌, ℕ, ◌*◌, ◌^◌, List, [], ◌∷◌, ◌++◌, Option, Some, None, Ok, refl}
use Rattle.std.specs.Prelude.{pos, codes, true, false}
use Rattle.jmodel.specs.declared.value.Value.TheVariants.{Int, Ref}
use Rattle.jmodel.specs.declared.value.Answer.{Answer}
use Rattle.jmodel.specs.declared.value.Answer.TheVariants.{Returned}
use Rattle.jmodel.specs.declared.typing.VType.TheVariants as type
use Rattle.jmodel.specs.declared.class_file.Constant.TheVariants.{Utf8, Class, Text, NameAndType}
use Rattle.jmodel.specs.declared.class_file.Constant.TheVariants as constants
use Rattle.jmodel.specs.format.ClassFile.{Member, Pool, ClassFile, code_spelling}
use Rattle.jmodel.specs.format.DescriptorReading.{element_rest, type_rest, type_of, types_at, result_of, signature_of, is_field_descriptor}
use Rattle.jmodel.specs.format.Reading.{number_at, run_at, items_at}
use Rattle.jmodel.specs.format.ClassReading.{attributes_at, handlers_at, body_at, code_at}
use Rattle.jmodel.specs.format.InstructionReading.{signed_at, entry_operand_at, signed_operand_at, parts_at, instrs_at, targets_fit, instrs_of}
use Rattle.jmodel.specs.format.Mark.{retries_in, all_annotations}
use Rattle.objects.specs.declared.op.Sort.TheVariants as sort
use Rattle.objects.specs.declared.op.WordType.TheVariants as word
use Rattle.objects.specs.declared.op.Dispatch.TheVariants as dispatch
use Rattle.objects.specs.declared.op.Op.TheVariants as op
use Rattle.objects.specs.declared.op.StackOp.TheVariants.{Dup, Pop}
use Rattle.objects.specs.semantics.Program.{Declared, Words, Elements, Row, Method, Program}
use Rattle.objects.specs.linking.LibraryClasses.{object, library_rows}
use Rattle.objects.specs.semantics.Region.{Region}
use Rattle.objects.specs.semantics.State.{Object}
use Rattle.objects.specs.semantics.Call.{Direct, Ended, direct, call_start}
use Rattle.objects.specs.linking.Layout.{opening_words, opening_state}
use Rattle.objects.specs.linking.Linking.{linking}

-- class A { static A s; int x; static { s = new A(); Object o = new A[1]; o = "hi"; } A() { super(); x = 7; } }
abbrev pub pool : Pool
pool =
    Class 2 ∷ Utf8 (codes "A") ∷ Class 4 ∷ Utf8 (codes "java/lang/Object") ∷ Utf8 (codes "s") ∷ Utf8 (codes "LA;") ∷ Utf8 (codes "x") ∷ Utf8 (codes "I")
    ∷ Utf8 (codes "<clinit>") ∷ Utf8 (codes "()V") ∷ Utf8 (codes "<init>") ∷ Utf8 (codes "Code")
    ∷ constants.Field 1 14 ∷ NameAndType 5 6 ∷ constants.Field 1 16 ∷ NameAndType 7 8 ∷ constants.Method 1 18 ∷ NameAndType 11 10 ∷ constants.Method 3 18
    ∷ Text 21 ∷ Utf8 (codes "hi") ∷ []

abbrev coded : (flags name most locals : ℕ) → List ℕ → Member
coded flags name most locals code = record {
  flags = flags;
  name = name;
  descriptor = 10;
  attributes = record { name = 12; bytes = code_spelling (record { max_stack = most; max_locals = locals; code = code; handlers = []; attributes = [] }) } ∷ [];
}

-- new A; dup; invokespecial A.<init>; putstatic s; iconst_1; anewarray A; pop; ldc "hi"; pop; return
abbrev pub initialiser : Member
initialiser = coded 8 9 2 0 (187 ∷ 0 ∷ 1 ∷ 89 ∷ 183 ∷ 0 ∷ 17 ∷ 179 ∷ 0 ∷ 13 ∷ 4 ∷ 189 ∷ 0 ∷ 1 ∷ 87 ∷ 18 ∷ 20 ∷ 87 ∷ 177 ∷ [])

-- aload_0; invokespecial Object.<init>; aload_0; bipush 7; putfield x; return
abbrev pub constructor : Member
constructor = coded 0 11 2 1 (42 ∷ 183 ∷ 0 ∷ 19 ∷ 42 ∷ 16 ∷ 7 ∷ 181 ∷ 0 ∷ 15 ∷ 177 ∷ [])

abbrev pub class_a : ClassFile
class_a = record {
  minor = 0;
  major = 49;
  pool = pool;
  flags = 0x21;
  this_class = 1;
  super_class = 3;
  interfaces = [];
  fields = record { flags = 8; name = 5; descriptor = 6; attributes = [] } ∷ record { flags = 0; name = 7; descriptor = 8; attributes = [] } ∷ [];
  methods = initialiser ∷ constructor ∷ [];
  attributes = [];
}

abbrev reference : List ℕ → Declared
reference n = record { word = word.Reference; class = n }

abbrev row_a : Row
row_a = record {
  name = codes "A";
  read = codes "A";
  holds = Words (record { word = word.Int; class = [] } ∷ []);
  lineage = codes "A" ∷ object.lineage;
  instance_of = codes "A" ∷ object.lineage;
}

abbrev base_row : Row
base_row = record { name = []; read = []; holds = Words (reference (codes "A") ∷ []); lineage = []; instance_of = [] }

abbrev array_of_a : Row
array_of_a = record {
  name = codes "[LA;";
  read = codes "[LA;";
  holds = Elements (reference (codes "A")) (codes "A");
  lineage = [];
  instance_of = codes "java/lang/Object" ∷ codes "[LA;" ∷ codes "[Ljava/lang/Object;" ∷ [];
}

abbrev first_method : Method
first_method = record {
  name = record { class = codes "A"; name = codes "<clinit>"; descriptor = codes "()V" };
  dispatch = dispatch.Static;
  parameters = [];
  places = 0;
  locals = 0;
  max_stack = 2;
  result = None;
  counted = true;
  retries = Some (pos 2147483647);
  ops = op.New 21 ∷ op.Stack Dup ∷ op.InvokeSpecial 1 ∷ op.PutStatic 0 ∷ op.Constant (Int (pos 1)) ∷ op.NewArray 29 ∷ op.Stack Pop ∷ op.Text 0 ∷ op.Stack Pop ∷ op.Return ∷ [];
  catches = [];
}

abbrev second_method : Method
second_method = record {
  name = record { class = codes "A"; name = codes "<init>"; descriptor = codes "()V" };
  dispatch = dispatch.Exact;
  parameters = type.Ref (codes "A") ∷ [];
  places = 1;
  locals = 1;
  max_stack = 2;
  result = None;
  counted = true;
  retries = None;
  ops = op.Load sort.Reference 0 ∷ op.InitLibrary (codes "java/lang/Object") 0 ∷ op.Load sort.Reference 0 ∷ op.Constant (Int (pos 7)) ∷ op.PutField 1 (codes "A") ∷ op.Return ∷ [];
  catches = [];
}

-- the seven arrays of each program stand behind the static bases
abbrev array_of : List ℕ → Declared → Row
array_of letter d = record {
  name = codes "[" ++ letter;
  read = codes "[" ++ letter;
  holds = Elements d letter;
  lineage = [];
  instance_of = codes "java/lang/Object" ∷ (codes "[" ++ letter) ∷ [];
}

abbrev pub program : Program
program = record {
  types = library_rows ++ row_a ∷ base_row
      ∷ array_of (codes "B") (record { word = word.Byte; class = [] }) ∷ array_of (codes "C") (record { word = word.Char; class = [] })
      ∷ array_of (codes "I") (record { word = word.Int; class = [] }) ∷ array_of (codes "J") (record { word = word.Long; class = [] })
      ∷ array_of (codes "S") (record { word = word.Short; class = [] }) ∷ array_of (codes "Z") (record { word = word.Boolean; class = [] })
      ∷ array_of_a ∷ [];
  texts = 4 ∷ [];
  fields =
      record { class = codes "A"; name = codes "s"; descriptor = codes "LA;"; base = Some 2; index = 0; declared = reference (codes "A") }
      ∷ record { class = codes "A"; name = codes "x"; descriptor = codes "I"; base = None; index = 0; declared = record { word = word.Int; class = [] } } ∷ [];
  methods = first_method ∷ second_method ∷ [];
}

pub links : linking (class_a ∷ []) ≡ Ok (Some program)
unfolding code_at attributes_at handlers_at body_at number_at run_at items_at element_rest type_rest type_of types_at result_of signature_of is_field_descriptor signed_at entry_operand_at signed_operand_at parts_at instrs_at targets_fit instrs_of retries_in all_annotations
links = refl

-- the object of the static field, and the text behind it
pub memory : opening_words (class_a ∷ []) ≡ 0 ∷ 0 ∷ 22 * 2 ^ 32 ∷ 0 ∷ 2 * 2 ^ 32 ∷ []
unfolding type_of
memory = refl

abbrev first_region : Region
first_region = record { number = 0; size = 64 }

abbrev answer_of : Direct → Option Answer
answer_of (Ended x σ) = Some x
answer_of d = None

abbrev held_after : ℕ → Direct → Option Object
held_after r (Ended x σ) = σ.objects r
held_after r d = None

abbrev started : Direct
started = direct program first_region 60 (call_start program 0 [] 9 (opening_state (class_a ∷ [])))

pub starts : answer_of started ≡ Some (Returned None)
unfolding type_of
starts = refl

-- behind the five words the first object lies
pub leaves_a : held_after 5 started ≡ Some (record { type = 21; array = false; values = Int (pos 7) ∷ [] })
unfolding type_of
leaves_a = refl

pub leaves_base : held_after 2 started ≡ Some (record { type = 22; array = false; values = Ref 5 ∷ [] })
unfolding type_of
leaves_base = refl

-- the array has two words
pub leaves_array : held_after 7 started ≡ Some (record { type = 29; array = true; values = Ref 0 ∷ [] })
unfolding type_of
leaves_array = refl
