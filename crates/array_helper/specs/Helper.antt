-- The helper of arrays: for each type of elements a method that reads an element, and one that writes one, over the context (Korland, Shavit, Felber, MULTIPROG
-- 2010, in this project's form).
use Rattle.std.specs.Prelude.{ℕ, ◌+◌, List, [], ◌∷◌, Result, Ok, codes}
use Rattle.std.specs.List.{flat_map}
use Rattle.jmodel.specs.declared.instruction.Instr.{Instr}
use Rattle.jmodel.specs.declared.refusal.Refusal.{Refusal}
use Rattle.jmodel.specs.format.ClassFile.{Member, Pool, ClassFile}
use Rattle.jmodel.specs.format.PoolAdding.{add_class, add_method}
use Rattle.jmodel.specs.format.Reading.{◌>>=◌}
use Rattle.objects.specs.declared.op.Sort.TheVariants as sort
use Rattle.objects.specs.declared.op.WordType.{WordType}
use Rattle.objects.specs.declared.op.WordType.TheVariants as word
use Rattle.objects.specs.semantics.Step.{sort_of}
use Rattle.objects.specs.typing.TypeOrder.{context_class, object_class}
use Rattle.objects.specs.rewriting.Rewriting.{word_places, helper_class}
use Rattle.objects.specs.linking.Decoding.{read_descriptor, write_descriptor}
use Rattle.member_code.specs.Growing.{Growth, grow_from}
use Rattle.member_code.specs.Instrs.{plain, load, give, call_virtual}
use Rattle.member_code.specs.Coding.{straight_method}
use Rattle.array_helper.specs.Names.{load_named, store_named}
pub use Rattle.array_helper.specs.declared.helper.ElementMethods.{ElementMethods}

-- ---- calls of the context

-- the context's method that is called before a read
unfoldable pub look_call : Pool → Growth ℕ
look_call pool = add_method pool context_class (codes "beforeReadAccess") (codes "(Ljava/lang/Object;I)V")

-- the context's method that takes what was read
unfoldable pub read_call : WordType → Pool → Growth ℕ
read_call t pool = add_method pool context_class (codes "onReadAccess") (read_descriptor (codes "I") t)

-- the context's method that writes
unfoldable pub write_call : WordType → Pool → Growth ℕ
write_call t pool = add_method pool context_class (codes "onWriteAccess") (write_descriptor (codes "I") t)

-- ---- methods

-- the opcode that loads an element; one of booleans is loaded as one of bytes (JVM Specification, Java SE 7, section 6.5, baload)
abbrev pub load_code : WordType → ℕ
load_code word.Int = 46
load_code word.Long = 47
load_code word.Reference = 50
load_code word.Byte = 51
load_code word.Boolean = 51
load_code word.Char = 52
load_code word.Short = 53

-- before the read, the plain load, after the read
abbrev pub load_instrs : WordType → (before after : ℕ) → List Instr
load_instrs t before after =
    load sort.Reference 2 ∷ load sort.Reference 0 ∷ load sort.Int 1 ∷ call_virtual before
    ∷ load sort.Reference 2 ∷ load sort.Reference 0 ∷ load sort.Reference 0 ∷ load sort.Int 1 ∷ plain (load_code t) ∷ load sort.Int 1 ∷ call_virtual after
    ∷ give (sort_of t) ∷ []

-- kaload([E I X)E
unfoldable pub load_method : WordType → Pool → Growth Member
load_method t pool = do
  before ← look_call pool
  after ← read_call t before.1
  straight_method (3 + word_places t) 3 (load_instrs t before.0 after.0) (load_named t) after.1

-- in place of the store
abbrev pub store_instrs : WordType → ℕ → List Instr
store_instrs t write = load sort.Reference (2 + word_places t) ∷ load sort.Reference 0 ∷ load (sort_of t) 2 ∷ load sort.Int 1 ∷ call_virtual write ∷ plain 177 ∷ []

-- kastore([E I E X)V
unfoldable pub store_method : WordType → Pool → Growth Member
store_method t pool = do
  write ← write_call t pool
  straight_method (3 + word_places t) (3 + word_places t) (store_instrs t write.0) (store_named t) write.1

unfoldable pub element_methods : WordType → Pool → Growth ElementMethods
element_methods t pool = do
  load ← load_method t pool
  store ← store_method t load.1
  Ok (record { load = load.0; store = store.0 }, store.1)

-- ---- the class

abbrev pub both_of : ElementMethods → List Member
both_of m = m.load ∷ m.store ∷ []

-- the types of elements, in the order of their methods
abbrev pub element_types : List WordType
element_types = word.Byte ∷ word.Boolean ∷ word.Char ∷ word.Short ∷ word.Int ∷ word.Long ∷ word.Reference ∷ []

-- the methods of all types
unfoldable pub every_method : Pool → Growth (List ElementMethods)
every_method pool = grow_from (λ n t. element_methods t) 0 element_types pool

-- the indexes of the class and the one above it, and the methods
unfoldable pub helper_parts : Pool → Growth (ℕ × ℕ × List Member)
helper_parts pool = do
  this ← add_class pool helper_class
  above ← add_class this.1 object_class
  all ← every_method above.1
  Ok ((this.0, above.0, flat_map both_of all.0), all.1)

abbrev pub file_of : (ℕ × ℕ × List Member) → Pool → ClassFile
file_of parts pool = record {
  minor = 0;
  major = 49;
  pool = pool;
  flags = 0x11;
  this_class = parts.0;
  super_class = parts.1;
  interfaces = [];
  fields = [];
  methods = parts.2;
  attributes = [];
}

-- the class file, public and final, of version 49
unfoldable pub helper_file : Result ClassFile Refusal
helper_file = helper_parts [] >>= λ made. Ok (file_of made.0 made.1)
