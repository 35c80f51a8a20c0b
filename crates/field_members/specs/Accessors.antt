-- The accessors that rewriting adds for the fields of a class, with the entries that they name (Korland, Shavit, Felber, MULTIPROG 2010, in this project's
-- form): the getter and the setter of a field read and write it over the context.
use Rattle.std.specs.Prelude.{ℕ, ◌+◌, ◌-◌, List, [], ◌∷◌, ◌++◌, length, Option, Some, None, Result, Ok, Bool, true, false, not, bytes_eq, codes}
use Rattle.std.specs.List.{flat_map}
use Rattle.jmodel.specs.declared.instruction.Instr.{Instr}
use Rattle.jmodel.specs.declared.refusal.Refusal.{Refusal}
use Rattle.jmodel.specs.format.ClassFile.{Member, Pool, ClassFile}
use Rattle.jmodel.specs.format.PoolAdding.{add_class, add_field, add_method}
use Rattle.jmodel.specs.format.Reading.{◌>>=◌}
use Rattle.objects.specs.declared.op.Sort.TheVariants as sort
use Rattle.objects.specs.declared.op.WordType.{WordType}
use Rattle.objects.specs.declared.op.WordType.TheVariants as word
use Rattle.objects.specs.semantics.Program.{Field}
use Rattle.objects.specs.semantics.Step.{sort_of}
use Rattle.objects.specs.typing.TypeOrder.{context_class, object_class}
use Rattle.objects.specs.rewriting.Rewriting.{word_places}
use Rattle.objects.specs.linking.Decoding.{read_descriptor, write_descriptor}
use Rattle.member_code.specs.Growing.{Growth, grow_from}
use Rattle.member_code.specs.Instrs.{plain, load, give, get_static, get_field, call_virtual, check_cast}
use Rattle.member_code.specs.Coding.{room_for, straight_method}
use Rattle.field_members.specs.Names.{address_name, base_name, base_type, getter_named, setter_named}
pub use Rattle.field_members.specs.declared.accessors.Accessors.{Accessors}
pub use Rattle.field_members.specs.declared.accessors.Place.{Place}

-- ---- the object and its field

-- how many places the object takes among the parameters: none for a static field
abbrev pub receiver_places : Field → ℕ
receiver_places f = by f.base
  where
    by : Option ℕ → ℕ
    by None = 1
    by (Some o) = 0

-- the index of the static base, where the field is one of it
abbrev pub base_if : Option ℕ → List ℕ → Pool → Growth (Option ℕ)
base_if None class pool = Ok (None, pool)
base_if (Some o) class pool = add_field pool class base_name base_type >>= λ i. Ok (Some i.0, i.1)

unfoldable pub place_of : Field → Pool → Growth Place
place_of f pool = do
  base ← base_if f.base f.class pool
  address ← add_field base.1 f.class (address_name f) (codes "J")
  Ok (record { base = base.0; address = address.0 }, address.1)

-- the object, on the stack: the first parameter, or the static base
abbrev pub object : Option ℕ → Instr
object None = load sort.Reference 0
object (Some base) = get_static base

-- the context's local in a getter, which stands behind the object
abbrev pub context_local : Option ℕ → ℕ
context_local None = 1
context_local (Some base) = 0

-- ---- calls of the context

-- the context's method that takes what was read
unfoldable pub read_call : WordType → Pool → Growth ℕ
read_call t pool = add_method pool context_class (codes "onReadAccess") (read_descriptor (codes "J") t)

-- the context's method that writes
unfoldable pub write_call : WordType → Pool → Growth ℕ
write_call t pool = add_method pool context_class (codes "onWriteAccess") (write_descriptor (codes "J") t)

-- ---- getters

-- before the read
abbrev pub look_code : Place → ℕ → List Instr
look_code p before = load sort.Reference (context_local p.base) ∷ object p.base ∷ get_static p.address ∷ call_virtual before ∷ []

-- the plain load, and after the read
abbrev pub read_code : Place → (field after : ℕ) → List Instr
read_code p field after = by p.base
  where
    by : Option ℕ → List Instr
    by None = load sort.Reference 1 ∷ load sort.Reference 0 ∷ load sort.Reference 0 ∷ get_field field ∷ get_static p.address ∷ call_virtual after ∷ []
    by (Some base) = load sort.Reference 0 ∷ get_static base ∷ get_static field ∷ get_static p.address ∷ call_virtual after ∷ []

-- what a read of a reference gives is cast to its class, where that isn't Object
abbrev pub is_cast : WordType → List ℕ → Bool
is_cast word.Reference class = not (bytes_eq class object_class)
is_cast t class = false

abbrev pub cast_if : Bool → List ℕ → Pool → Growth (List Instr)
cast_if true class pool = add_class pool class >>= λ i. Ok (check_cast i.0 ∷ [], i.1)
cast_if false class pool = Ok ([], pool)

unfoldable pub look_of : Place → Pool → Growth (List Instr)
look_of p pool = do
  before ← add_method pool context_class (codes "beforeReadAccess") (codes "(Ljava/lang/Object;J)V")
  Ok (look_code p before.0, before.1)

unfoldable pub read_of : Place → Field → Pool → Growth (List Instr)
read_of p f pool = do
  field ← add_field pool f.class f.name f.descriptor
  after ← read_call f.declared.word field.1
  Ok (read_code p field.0 after.0, after.1)

unfoldable pub getter_instrs : Field → Pool → Growth (List Instr)
getter_instrs f pool = do
  place ← place_of f pool
  look ← look_of place.0 place.1
  read ← read_of place.0 f look.1
  cast ← cast_if (is_cast f.declared.word f.declared.class) f.declared.class read.1
  Ok (look.0 ++ read.0 ++ cast.0 ++ give (sort_of f.declared.word) ∷ [], cast.1)

-- the getter of a field, in a class that has room for so many more methods
unfoldable pub getter_of : ℕ → Field → Pool → Growth Member
getter_of room f pool = do
  fits ← room_for room (getter_named f)
  code ← getter_instrs f pool
  straight_method (4 + word_places f.declared.word) (receiver_places f + 1) code.0 (getter_named f) code.1

-- ---- setters

-- in place of the store of a value of a type, behind so many places of the object
abbrev pub setter_code : Place → WordType → (receiver write : ℕ) → List Instr
setter_code p t receiver write =
    load sort.Reference (receiver + word_places t) ∷ object p.base ∷ load (sort_of t) receiver ∷ get_static p.address ∷ call_virtual write ∷ plain 177 ∷ []

unfoldable pub setter_instrs : Field → Pool → Growth (List Instr)
setter_instrs f pool = do
  place ← place_of f pool
  write ← write_call f.declared.word place.1
  Ok (setter_code place.0 f.declared.word (receiver_places f) write.0, write.1)

-- the setter
unfoldable pub setter_of : ℕ → Field → Pool → Growth Member
setter_of room f pool = do
  fits ← room_for room (setter_named f)
  code ← setter_instrs f pool
  straight_method (4 + word_places f.declared.word) (receiver_places f + word_places f.declared.word + 1) code.0 (setter_named f) code.1

-- ---- all of a class

-- both of a field
unfoldable pub accessors_of : ℕ → Field → Pool → Growth Accessors
accessors_of room f pool = do
  getter ← getter_of room f pool
  setter ← setter_of (room - 1) f getter.1
  Ok (record { getter = getter.0; setter = setter.0 }, setter.1)

abbrev pub both_of : Accessors → List Member
both_of a = a.getter ∷ a.setter ∷ []

-- how many more methods a class has room for
abbrev pub room_in : ClassFile → ℕ
room_in c = 65535 - length c.methods

abbrev pub all_accessors : ℕ → List Field → Pool → Growth (List Accessors)
all_accessors room fs pool = grow_from (λ n f. accessors_of (room - n - n) f) 0 fs pool

abbrev pub and_methods : ClassFile → List Member → Pool → ClassFile
and_methods c methods pool = record c { pool = pool; methods = c.methods ++ methods }

-- A class with the accessors of its fields, which are these: for each a getter, then a setter.
abbrev pub with_accessors : List Field → ClassFile → Result ClassFile Refusal
with_accessors fs c = all_accessors (room_in c) fs c.pool >>= λ all. Ok (and_methods c (flat_map both_of all.0) all.1)
