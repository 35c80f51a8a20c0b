-- A program with a constructor, an override, an interface, arrays, a long field, a narrow field, a text and an exception of its own.
use Rattle.std.specs.Prelude.{ℕ, pos, List, [], ◌∷◌, ◌++◌, length, Option, Some, None, true, codes}
use Rattle.jmodel.specs.declared.value.Value.TheVariants.{Int, Long}
use Rattle.jmodel.specs.declared.typing.VType.{VType}
use Rattle.jmodel.specs.declared.typing.VType.TheVariants as type
use Rattle.objects.specs.declared.op.Sort.TheVariants as sort
use Rattle.objects.specs.declared.op.Width.TheVariants as width
use Rattle.objects.specs.declared.op.WordType.TheVariants as word
use Rattle.objects.specs.declared.op.Dispatch.{Dispatch}
use Rattle.objects.specs.declared.op.Dispatch.TheVariants as dispatch
use Rattle.objects.specs.declared.op.Op.{Op}
use Rattle.objects.specs.declared.op.Op.TheVariants.{Constant, Text, Load, Store, Stack, Binary, Convert, GetStatic, PutStatic, GetField, PutField, InvokeSpecial, InvokeVirtual, InvokeInterface, InitLibrary, New, NewArray, ArrayLength, LoadElement, StoreElement, CheckCast, InstanceOf, Return, ReturnValue, Throw}
use Rattle.objects.specs.declared.op.Binary.TheVariants.{Add}
use Rattle.objects.specs.declared.op.Conversion.TheVariants.{LongToInt}
use Rattle.objects.specs.declared.op.StackOp.TheVariants.{Dup, Pop}
use Rattle.objects.specs.declared.op.Catches.TheVariants.{Of}
use Rattle.objects.specs.linking.LibraryClasses.{object, runtime_exception, library_rows}
use Rattle.objects.specs.semantics.Program.{Declared, Words, Elements, Row, Field, Method, Program}

abbrev pub ints : Declared
ints = record { word = word.Int; class = [] }

abbrev pub longs : Declared
longs = record { word = word.Long; class = [] }

abbrev pub bytes : Declared
bytes = record { word = word.Byte; class = [] }

abbrev pub of_class : List ℕ → Declared
of_class c = record { word = word.Reference; class = c }

-- class A { int x; A next; byte small; static A s; static A[] all; }
abbrev pub class_a : Row
class_a = record {
  name = codes "A";
  read = codes "A";
  holds = Words (ints ∷ of_class (codes "A") ∷ bytes ∷ []);
  lineage = codes "A" ∷ object.lineage;
  instance_of = codes "A" ∷ object.lineage;
}

-- class B extends A implements I { long wide; }
abbrev pub class_b : Row
class_b = record {
  name = codes "B";
  read = codes "B";
  holds = Words (ints ∷ of_class (codes "A") ∷ bytes ∷ longs ∷ []);
  lineage = codes "B" ∷ codes "A" ∷ object.lineage;
  instance_of = codes "B" ∷ codes "A" ∷ object.lineage ++ codes "I" ∷ [];
}

-- class E extends RuntimeException {}
abbrev pub class_e : Row
class_e = record {
  name = codes "E";
  read = codes "E";
  holds = Words [];
  lineage = codes "E" ∷ runtime_exception.lineage;
  instance_of = codes "E" ∷ runtime_exception.lineage;
}

abbrev pub static_words : List Declared
static_words = of_class (codes "A") ∷ of_class (codes "[LA;") ∷ []

abbrev pub static_base : Row
static_base = record { name = []; read = []; holds = Words static_words; lineage = []; instance_of = [] }

abbrev pub array_a : Row
array_a = record {
  name = codes "[LA;";
  read = codes "[LA;";
  holds = Elements (of_class (codes "A")) (codes "A");
  lineage = [];
  instance_of = codes "java/lang/Object" ∷ codes "[LA;" ∷ codes "[Ljava/lang/Object;" ∷ [];
}

abbrev pub array_b : Row
array_b = record {
  name = codes "[LB;";
  read = codes "[LB;";
  holds = Elements (of_class (codes "B")) (codes "B");
  lineage = [];
  instance_of = codes "java/lang/Object" ∷ codes "[LB;" ∷ codes "[LA;" ∷ codes "[Ljava/lang/Object;" ∷ codes "[LI;" ∷ [];
}

abbrev pub array_bytes : Row
array_bytes = record {
  name = codes "[B";
  read = codes "[B";
  holds = Elements bytes [];
  lineage = [];
  instance_of = codes "java/lang/Object" ∷ codes "[B" ∷ [];
}

abbrev pub types : List Row
types = library_rows ++ class_a ∷ class_b ∷ class_e ∷ static_base ∷ array_a ∷ array_b ∷ array_bytes ∷ []

abbrev field : (class name descriptor : List ℕ) → Option ℕ → ℕ → Declared → Field
field c n d base index declared = record { class = c; name = n; descriptor = d; base = base; index = index; declared = declared }

-- the numbers of the fields are 0 to 5
abbrev pub fields : List Field
fields =
    field (codes "A") (codes "x") (codes "I") None 0 ints
    ∷ field (codes "A") (codes "next") (codes "LA;") None 1 (of_class (codes "A"))
    ∷ field (codes "A") (codes "small") (codes "B") None 2 bytes
    ∷ field (codes "A") (codes "s") (codes "LA;") (Some 2) 0 (of_class (codes "A"))
    ∷ field (codes "A") (codes "all") (codes "[LA;") (Some 2) 1 (of_class (codes "[LA;"))
    ∷ field (codes "B") (codes "wide") (codes "J") None 3 longs
    ∷ []

abbrev method : (class name descriptor : List ℕ) → Dispatch → List VType → Option VType → ℕ → List Op → Method
method c n d kind takes result most ops = record {
  name = record { class = c; name = n; descriptor = d };
  dispatch = kind;
  parameters = takes;
  places = length takes;
  locals = length takes;
  max_stack = most;
  result = result;
  counted = true;
  retries = None;
  ops = ops;
  catches = [];
}

-- a static method of A without parameters, which is marked
abbrev marked : List ℕ → Option VType → ℕ → List Op → Method
marked n result most ops = record (method (codes "A") n (codes "()I") dispatch.Static [] result most ops) { retries = Some (pos 2147483647) }

-- 0: A() {}
abbrev pub init_a : Method
init_a = method (codes "A") (codes "<init>") (codes "()V") dispatch.Exact (type.Ref (codes "A") ∷ []) None 1
    (Load sort.Reference 0 ∷ InitLibrary (codes "java/lang/Object") 0 ∷ Return ∷ [])

-- 1: int get() { return x; }
abbrev pub get_a : Method
get_a = method (codes "A") (codes "get") (codes "()I") dispatch.Virtual (type.Ref (codes "A") ∷ []) (Some type.Int) 1
    (Load sort.Reference 0 ∷ GetField 0 (codes "A") ∷ ReturnValue sort.Int ∷ [])

-- 2: in B: int get() { x = 5; return x + 2; }
abbrev pub get_b : Method
get_b = method (codes "B") (codes "get") (codes "()I") dispatch.Virtual (type.Ref (codes "B") ∷ []) (Some type.Int) 2
    (Load sort.Reference 0 ∷ Constant (Int (pos 5)) ∷ PutField 0 (codes "A") ∷ Load sort.Reference 0 ∷ GetField 0 (codes "A") ∷ Constant (Int (pos 2)) ∷ Binary width.Int Add ∷ ReturnValue sort.Int ∷ [])

-- 3: B(long n) { super(); wide = n; }
abbrev pub init_b : Method
init_b = method (codes "B") (codes "<init>") (codes "(J)V") dispatch.Exact (type.Ref (codes "B") ∷ type.Long ∷ type.Second ∷ []) None 3
    (Load sort.Reference 0 ∷ InvokeSpecial 0 ∷ Load sort.Reference 0 ∷ Load sort.Long 1 ∷ PutField 5 (codes "B") ∷ Return ∷ [])

-- 4: in the interface I: int f();
abbrev pub f_i : Method
f_i = method (codes "I") (codes "f") (codes "()I") dispatch.Abstract (type.Ref (codes "java/lang/Object") ∷ []) (Some type.Int) 0 []

-- 5: in B: public int f() { return (int) wide; }
abbrev pub f_b : Method
f_b = method (codes "B") (codes "f") (codes "()I") dispatch.Virtual (type.Ref (codes "B") ∷ []) (Some type.Int) 2
    (Load sort.Reference 0 ∷ GetField 5 (codes "B") ∷ Convert LongToInt ∷ ReturnValue sort.Int ∷ [])

-- 6: E() {}
abbrev pub init_e : Method
init_e = method (codes "E") (codes "<init>") (codes "()V") dispatch.Exact (type.Ref (codes "E") ∷ []) None 1
    (Load sort.Reference 0 ∷ InitLibrary (codes "java/lang/RuntimeException") 0 ∷ Return ∷ [])

-- 7: static int make() { s = new B(9); return s.get(); }
abbrev pub make : Method
make = marked (codes "make") (Some type.Int) 4
    (New 22 ∷ Stack Dup ∷ Constant (Long (pos 9)) ∷ InvokeSpecial 3 ∷ PutStatic 3 ∷ GetStatic 3 ∷ InvokeVirtual 1 (codes "A") ∷ ReturnValue sort.Int ∷ [])

-- 8: static int call() { return ((I) s).f(); }
abbrev pub call : Method
call = marked (codes "call") (Some type.Int) 1
    (GetStatic 3 ∷ CheckCast (codes "I") ∷ InvokeInterface 4 (codes "I") ∷ ReturnValue sort.Int ∷ [])

-- 9: static int elements() { all = new A[2]; all[1] = s; return all[1].get() + all.length; }
abbrev pub elements : Method
elements = marked (codes "elements") (Some type.Int) 3
    (Constant (Int (pos 2)) ∷ NewArray 25 ∷ PutStatic 4 ∷ GetStatic 4 ∷ Constant (Int (pos 1)) ∷ GetStatic 3 ∷ StoreElement word.Reference
    ∷ GetStatic 4 ∷ Constant (Int (pos 1)) ∷ LoadElement word.Reference ∷ InvokeVirtual 1 (codes "A") ∷ GetStatic 4 ∷ ArrayLength ∷ Binary width.Int Add ∷ ReturnValue sort.Int ∷ [])

-- 10: static int store() { all = new B[1]; all[0] = s; return 0; }
abbrev pub store : Method
store = marked (codes "store") (Some type.Int) 3
    (Constant (Int (pos 1)) ∷ NewArray 26 ∷ PutStatic 4 ∷ GetStatic 4 ∷ Constant (Int (pos 0)) ∷ GetStatic 3 ∷ StoreElement word.Reference ∷ Constant (Int (pos 0)) ∷ ReturnValue sort.Int ∷ [])

-- 11: static int text() { Object o = "t"; return o instanceof String ? 1 : 0; }
abbrev pub text : Method
text = marked (codes "text") (Some type.Int) 1 (Text 0 ∷ InstanceOf (codes "java/lang/String") ∷ ReturnValue sort.Int ∷ [])

-- 12: static int caught() { try { throw new E(); } catch (RuntimeException e) { return 3; } }
abbrev pub caught : Method
caught = record (marked (codes "caught") (Some type.Int) 2 (New 23 ∷ Stack Dup ∷ InvokeSpecial 6 ∷ Throw ∷ Stack Pop ∷ Constant (Int (pos 3)) ∷ ReturnValue sort.Int ∷ [])) {
  catches = record { from = 0; to = 4; at = 4; catches = Of (codes "E") } ∷ [];
}

-- 13: static int narrow() { byte[] b = new byte[1]; b[0] = (byte) 200; s.small = b[0]; return s.small; }, where javac's i2b is left out
abbrev pub narrow : Method
narrow = record (marked (codes "narrow") (Some type.Int) 3 (
    Constant (Int (pos 1)) ∷ NewArray 27 ∷ Store sort.Reference 0 ∷ Load sort.Reference 0 ∷ Constant (Int (pos 0)) ∷ Constant (Int (pos 200)) ∷ StoreElement word.Byte
    ∷ GetStatic 3 ∷ Load sort.Reference 0 ∷ Constant (Int (pos 0)) ∷ LoadElement word.Byte ∷ PutField 2 (codes "A") ∷ GetStatic 3 ∷ GetField 2 (codes "A") ∷ ReturnValue sort.Int ∷ [])) {
      locals = 1;
    }

abbrev pub methods : List Method
methods = init_a ∷ get_a ∷ get_b ∷ init_b ∷ f_i ∷ f_b ∷ init_e ∷ make ∷ call ∷ elements ∷ store ∷ text ∷ caught ∷ narrow ∷ []

abbrev pub program : Program
program = record { types = types; texts = 5 ∷ []; fields = fields; methods = methods }
