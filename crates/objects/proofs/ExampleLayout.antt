-- Where things lie and what objects are instances of, computed for a folder with an interface and a class under an exception.
use Rattle.std.proofs.Common.{◌≡◌, ℕ, ◌*◌, ◌^◌, List, [], ◌∷◌, Option, Some, None, refl}
use Rattle.std.specs.Prelude.{pos, negsuc, codes, map, option_map, false}
use Rattle.jmodel.specs.declared.value.Value.TheVariants.{Int, Ref}
use Rattle.jmodel.specs.declared.class_file.Constant.TheVariants.{Utf8, Class, Text, Integer}
use Rattle.jmodel.specs.format.ClassFile.{Attribute, Member, Pool, ClassFile}
use Rattle.jmodel.specs.format.DescriptorReading.{type_of}
use Rattle.objects.specs.linking.Members.{own_name}
use Rattle.objects.specs.linking.Classes.{Declared as DeclaredMember}
use Rattle.objects.specs.declared.op.WordType.TheVariants as word
use Rattle.objects.specs.semantics.Program.{Declared, Words, Field}
use Rattle.objects.specs.linking.Resolution.{special_method}
use Rattle.objects.specs.linking.Layout.{name_read, class_row, base_rows, array_row, class_instances, fields_of, texts_of, text_places, fixed_words, opening_words, opening_state}

abbrev pool : List ℕ → List ℕ → Pool
pool name super =
    Class 2 ∷ Utf8 name ∷ Class 4 ∷ Utf8 super ∷ Class 6 ∷ Utf8 (codes "I") ∷ Utf8 (codes "f") ∷ Utf8 (codes "()V")
    ∷ Utf8 (codes "a") ∷ Utf8 (codes "D") ∷ Utf8 (codes "b") ∷ Utf8 (codes "[LI;") ∷ Utf8 (codes "c") ∷ Utf8 (codes "Ljava/lang/String;") ∷ Utf8 (codes "ConstantValue")
    ∷ Text 17 ∷ Utf8 (codes "z") ∷ Utf8 (codes "d") ∷ Utf8 (codes "B") ∷ Integer (pos 200) ∷ Text 19 ∷ Class 23 ∷ Utf8 (codes "J") ∷ []

abbrev class : (flags : ℕ) (name super : List ℕ) → List ℕ → List Member → List Member → ClassFile
class flags name super interfaces fields methods = record {
  minor = 0;
  major = 49;
  pool = pool name super;
  flags = flags;
  this_class = 1;
  super_class = 3;
  interfaces = interfaces;
  fields = fields;
  methods = methods;
  attributes = [];
}

abbrev object : List ℕ
object = codes "java/lang/Object"

abbrev field : (flags name descriptor : ℕ) → List Attribute → Member
field flags name descriptor attributes = record { flags = flags; name = name; descriptor = descriptor; attributes = attributes }

abbrev constant : ℕ → List Attribute
constant i = record { name = 15; bytes = 0 ∷ i ∷ [] } ∷ []

abbrev method_f : ℕ → Member
method_f flags = record { flags = flags; name = 7; descriptor = 8; attributes = [] }

-- class A extends Exception implements I { double a; I[] b; static String c = "z"; static byte d = (byte) 200; void f(); }
abbrev class_a : ClassFile
class_a = class 0x21 (codes "A") (codes "java/lang/Exception") (5 ∷ []) (field 0 9 10 [] ∷ field 0 11 12 [] ∷ field 8 13 14 (constant 16) ∷ field 8 18 19 (constant 20) ∷ []) (method_f 1 ∷ [])

-- class B extends A { double a; I[] b; void f(); }
abbrev class_b : ClassFile
class_b = class 0x21 (codes "B") (codes "A") [] (field 0 9 10 [] ∷ field 0 11 12 [] ∷ []) (method_f 1 ∷ [])

-- interface I extends J { void f(); }
abbrev interface_i : ClassFile
interface_i = class 0x600 (codes "I") object (22 ∷ []) [] (method_f 0x401 ∷ [])

abbrev folder : List ClassFile
folder = class_a ∷ class_b ∷ interface_i ∷ []

-- ---- names

reads : map (name_read folder) (codes "A" ∷ codes "I" ∷ codes "[LI;" ∷ codes "[[LB;" ∷ codes "[I" ∷ codes "java/lang/Error" ∷ codes "java/util/List" ∷ [])
    ≡ codes "A" ∷ object ∷ codes "[Ljava/lang/Object;" ∷ codes "[[LB;" ∷ codes "[I" ∷ codes "java/lang/Error" ∷ object ∷ []
reads = refl

instances : class_instances folder (codes "B")
    ≡ codes "B" ∷ codes "A" ∷ codes "java/lang/Exception" ∷ codes "java/lang/Throwable" ∷ object ∷ codes "I" ∷ codes "J" ∷ []
instances = refl

interface_instances : class_instances folder (codes "I") ≡ codes "I" ∷ object ∷ codes "J" ∷ []
interface_instances = refl

array_instances : (array_row folder (codes "[[LI;")).instance_of
    ≡ object ∷ codes "[Ljava/lang/Object;" ∷ codes "[[LI;" ∷ codes "[[Ljava/lang/Object;" ∷ codes "[[LJ;" ∷ []
array_instances = refl

-- ---- types and fields

abbrev number : Declared
number = record { word = word.Int; class = [] }

abbrev objects : Declared
objects = record { word = word.Reference; class = codes "[Ljava/lang/Object;" }

-- a double has a word that no code touches
row_b : (class_row folder class_b).holds ≡ Words (number ∷ objects ∷ number ∷ objects ∷ [])
unfolding type_of
row_b = refl

row_i : class_row folder interface_i ≡ record { name = []; read = []; holds = Words []; lineage = []; instance_of = [] }
row_i = refl

base : base_rows folder ≡ record { name = []; read = []; holds = Words (record { word = word.Reference; class = codes "java/lang/String" } ∷ record { word = word.Byte; class = [] } ∷ []); lineage = []; instance_of = [] } ∷ []
unfolding type_of
base = refl

-- by the class and the name, the place of each
abbrev place : Field → List ℕ × List ℕ × Option ℕ × ℕ
place f = (f.class, f.name, f.base, f.index)

fields : map place (fields_of folder)
    ≡ (codes "A", codes "b", None, 1) ∷ (codes "A", codes "c", Some 2, 0) ∷ (codes "A", codes "d", Some 2, 1) ∷ (codes "B", codes "b", None, 3) ∷ []
unfolding type_of
fields = refl

-- ---- memory

texts : texts_of folder ≡ codes "B" ∷ codes "z" ∷ []
texts = refl

places : text_places folder ≡ 5 ∷ 6 ∷ []
places = refl

fixed : fixed_words folder ≡ 7
fixed = refl

-- the byte has its sign in all 64 bits, and the text its reference
words : opening_words folder ≡ 0 ∷ 0 ∷ 24 * 2 ^ 32 ∷ 6 ∷ 18446744073709551560 ∷ 2 * 2 ^ 32 ∷ 2 * 2 ^ 32 ∷ []
unfolding type_of
words = refl

opening_base : (opening_state folder).objects 2 ≡ Some (record { type = 24; array = false; values = Ref 6 ∷ Int (negsuc 55) ∷ [] })
unfolding type_of
opening_base = refl

opening_text : (opening_state folder).objects 6 ≡ Some (record { type = 2; array = false; values = [] })
unfolding type_of
opening_text = refl

opening_none : (opening_state folder).objects 7 ≡ None
unfolding type_of
opening_none = refl

-- ---- which method runs

abbrev home : Option DeclaredMember → Option (List ℕ)
home k = option_map (λ (k : DeclaredMember). own_name k.class) k

-- super.f() in B runs that of A, and B's own that of B
special_above : home (special_method folder class_b (record { class = codes "A"; name = codes "f"; descriptor = codes "()V" })) ≡ Some (codes "A")
special_above = refl

special_own : home (special_method folder class_b (record { class = codes "B"; name = codes "f"; descriptor = codes "()V" })) ≡ Some (codes "B")
special_own = refl

-- a class C under B that names A, or itself, selects from B upward
abbrev class_c : ClassFile
class_c = class 0x21 (codes "C") (codes "B") [] [] []

special_between : home (special_method (class_c ∷ folder) class_c (record { class = codes "A"; name = codes "f"; descriptor = codes "()V" })) ≡ Some (codes "B")
special_between = refl

special_inherited : home (special_method (class_c ∷ folder) class_c (record { class = codes "C"; name = codes "f"; descriptor = codes "()V" })) ≡ Some (codes "B")
special_inherited = refl

-- K lists I and declares nothing; L under K declares f, and M stands under L. In M the name K.f stands for that of the interface, which isn't a
-- class above M.
abbrev class_m : ClassFile
class_m = class 0x21 (codes "M") (codes "L") [] [] []

abbrev folder_m : List ClassFile
folder_m = interface_i ∷ class 0x421 (codes "K") object (5 ∷ []) [] [] ∷ class 0x21 (codes "L") (codes "K") [] [] (method_f 1 ∷ []) ∷ class_m ∷ []

special_interface : home (special_method folder_m class_m (record { class = codes "K"; name = codes "f"; descriptor = codes "()V" })) ≡ Some (codes "I")
special_interface = refl
