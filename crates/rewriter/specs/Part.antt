-- The part that a class has of a program.
use Rattle.std.specs.Prelude.{◌≡◌, ℕ, ◌+◌, List, ◌++◌, length, map, filter, is_some, Bool, bytes_eq}
use Rattle.std.specs.List.{prefix_len}
use Rattle.jmodel.specs.format.ClassFile.{Member, ClassFile}
use Rattle.objects.specs.linking.Members.{own_name}
use Rattle.objects.specs.linking.Taken.{is_taken}
use Rattle.objects.specs.semantics.Program.{Field, Method, Program}

-- Which of a class's methods are the program's, its own fields and methods, and how many methods, and how many wrappers, the classes before it have.
pub record Part : Type 0 where
  pub is_taken : Member → Bool
  pub fields : List Field
  pub methods : List Method
  pub first : ℕ
  pub wrapper : ℕ

-- the methods of a class's file that are the program's
abbrev pub own_members : ClassFile → Part → List Member
own_members c part = filter part.is_taken c.methods

-- A part as data: the class's methods that are the program's, flags of all its methods, and the rest as it is.
pub record Share : Type 0 where
  pub members : List Member
  pub flags : List Bool
  pub fields : List Field
  pub methods : List Method
  pub first : ℕ
  pub wrapper : ℕ

abbrev pub share_of : ClassFile → Part → Share
share_of c part = record {
  members = own_members c part;
  flags = map part.is_taken c.methods;
  fields = part.fields;
  methods = part.methods;
  first = part.first;
  wrapper = part.wrapper;
}

-- whether a method gets a wrapper
abbrev pub is_wrapped : Method → Bool
is_wrapped k = is_some k.retries

-- how many methods get wrappers
abbrev pub wrapper_count : List Method → ℕ
wrapper_count ks = length (filter is_wrapped ks)

-- whether a class of a name declares a field
abbrev pub is_of_class : List ℕ → Field → Bool
is_of_class name f = bytes_eq f.class name

-- What of a program is left for further classes: flags of all their methods, their fields and methods, and how many methods, and how many wrappers, are
-- before them.
pub record Rest : Type 0 where
  pub flags : List Bool
  pub fields : List Field
  pub methods : List Method
  pub first : ℕ
  pub wrapper : ℕ

-- the part of a class stands first, and the other is what stands behind it
pub record StandsFirst (c : ClassFile) (part : Part) (rest behind : Rest) : Type 0 where
  pub flags : rest.flags ≡ map part.is_taken c.methods ++ behind.flags
  pub fields : rest.fields ≡ part.fields ++ behind.fields
  pub own : prefix_len (is_of_class (own_name c)) rest.fields ≡ length part.fields
  pub methods : rest.methods ≡ part.methods ++ behind.methods
  pub members : length part.methods ≡ length (own_members c part)
  pub first : rest.first ≡ part.first
  pub first_behind : behind.first ≡ part.first + length part.methods
  pub wrapper : rest.wrapper ≡ part.wrapper
  pub wrapper_behind : behind.wrapper ≡ part.wrapper + wrapper_count part.methods

-- some part of the class stands first
abbrev pub HasNext : ClassFile → Rest → Type 0
HasNext c rest = (part : Part) × (behind : Rest) × StandsFirst c part rest behind

-- the fields and the methods of a program that a class declares
abbrev pub own_fields : Program → ClassFile → List Field
own_fields P c = filter (λ (f : Field). bytes_eq f.class (own_name c)) P.fields

abbrev pub own_methods : Program → ClassFile → List Method
own_methods P c = filter (λ (k : Method). bytes_eq k.name.class (own_name c)) P.methods

-- the part of one of several classes, before which so many methods and so many wrappers are
abbrev pub part_of : List ClassFile → Program → ℕ → ℕ → ClassFile → Part
part_of cs P n id c = record {
  is_taken = λ m. is_taken cs (record { class = c; member = m });
  fields = own_fields P c;
  methods = own_methods P c;
  first = n;
  wrapper = id;
}
