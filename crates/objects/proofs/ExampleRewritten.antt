-- The class of ExampleLinking as rewriting makes it, and the helper of arrays.
use Rattle.std.specs.Prelude.{ℕ, pos, List, [], ◌∷◌, codes}
use Rattle.jmodel.specs.declared.class_file.Constant.TheVariants.{Utf8, Class, Text, Integer, NameAndType}
use Rattle.jmodel.specs.declared.class_file.Constant.TheVariants as constants
use Rattle.jmodel.specs.declared.class_file.Handler.{Handler}
use Rattle.jmodel.specs.format.ClassFile.{Attribute, Member, Pool, ClassFile, code_spelling}

-- a method: of the index of Code, its flags, the indexes of its name and descriptor, the places of its stack and its locals
abbrev coded : (attribute flags name descriptor most locals : ℕ) → List ℕ → List Handler → Member
coded attribute flags name descriptor most locals code handlers = record {
  flags = flags;
  name = name;
  descriptor = descriptor;
  attributes = record { name = attribute; bytes = code_spelling (record { max_stack = most; max_locals = locals; code = code; handlers = handlers; attributes = [] }) } ∷ [];
}

abbrev constant : (name value : ℕ) → List Attribute
constant name value = record { name = name; bytes = 0 ∷ value ∷ [] } ∷ []

abbrev class : Pool → (this_class super_class : ℕ) → List Member → List Member → ClassFile
class pool this_class super_class fields methods = record {
  minor = 0;
  major = 49;
  pool = pool;
  flags = 0x21;
  this_class = this_class;
  super_class = super_class;
  interfaces = [];
  fields = fields;
  methods = methods;
  attributes = [];
}

-- ---- the class

abbrev pool : Pool
pool =
    Class 2 ∷ Utf8 (codes "A") ∷ Class 4 ∷ Utf8 (codes "java/lang/Object") ∷ Utf8 (codes "s") ∷ Utf8 (codes "LA;") ∷ Utf8 (codes "x") ∷ Utf8 (codes "I")
    ∷ Utf8 (codes "<clinit>") ∷ Utf8 (codes "()V") ∷ Utf8 (codes "<init>") ∷ Utf8 (codes "Code") ∷ constants.Field 1 14 ∷ NameAndType 5 6 ∷ constants.Field 1 16
    ∷ NameAndType 7 8 ∷ constants.Method 1 18 ∷ NameAndType 11 10 ∷ constants.Method 3 18 ∷ Text 21 ∷ Utf8 (codes "hi")
    ∷ Utf8 (codes "org/deuce/transaction/ContextDelegator") ∷ Class 22 ∷ Utf8 (codes "getInstance") ∷ Utf8 (codes "()Lorg/deuce/transaction/Context;")
    ∷ NameAndType 24 25 ∷ constants.Method 23 26 ∷ Integer (pos 0) ∷ Integer (pos 2147483647) ∷ Utf8 (codes "org/deuce/transaction/Context") ∷ Class 30
    ∷ Utf8 (codes "init") ∷ Utf8 (codes "(II)V") ∷ NameAndType 32 33 ∷ constants.Method 31 34 ∷ Utf8 (codes "__CLINIT__")
    ∷ Utf8 (codes "(Lorg/deuce/transaction/Context;)V") ∷ NameAndType 36 37 ∷ constants.Method 1 38 ∷ Utf8 (codes "commit") ∷ Utf8 (codes "()Z") ∷ NameAndType 40 41
    ∷ constants.Method 31 42 ∷ Utf8 (codes "rollback") ∷ NameAndType 44 10 ∷ constants.Method 31 45 ∷ Utf8 (codes "org/deuce/transaction/TransactionException")
    ∷ Class 47 ∷ Utf8 (codes "__CLASS_BASE__") ∷ Utf8 (codes "Ljava/lang/Object;") ∷ NameAndType 49 50 ∷ constants.Field 1 51 ∷ Utf8 (codes "s__ADDRESS__")
    ∷ Utf8 (codes "J") ∷ NameAndType 53 54 ∷ constants.Field 1 55 ∷ Utf8 (codes "beforeReadAccess") ∷ Utf8 (codes "(Ljava/lang/Object;J)V") ∷ NameAndType 57 58
    ∷ constants.Method 31 59 ∷ Utf8 (codes "onReadAccess") ∷ Utf8 (codes "(Ljava/lang/Object;Ljava/lang/Object;J)Ljava/lang/Object;") ∷ NameAndType 61 62
    ∷ constants.Method 31 63 ∷ Utf8 (codes "onWriteAccess") ∷ Utf8 (codes "(Ljava/lang/Object;Ljava/lang/Object;J)V") ∷ NameAndType 65 66 ∷ constants.Method 31 67
    ∷ Utf8 (codes "x__ADDRESS__") ∷ NameAndType 69 54 ∷ constants.Field 1 70 ∷ Utf8 (codes "(Ljava/lang/Object;IJ)I") ∷ NameAndType 61 72 ∷ constants.Method 31 73
    ∷ Utf8 (codes "(Ljava/lang/Object;IJ)V") ∷ NameAndType 65 75 ∷ constants.Method 31 76 ∷ NameAndType 11 37 ∷ constants.Method 1 78 ∷ Utf8 (codes "s__Setter$")
    ∷ Utf8 (codes "(LA;Lorg/deuce/transaction/Context;)V") ∷ NameAndType 80 81 ∷ constants.Method 1 82 ∷ Utf8 (codes "x__Setter$")
    ∷ Utf8 (codes "(LA;ILorg/deuce/transaction/Context;)V") ∷ NameAndType 84 85 ∷ constants.Method 1 86 ∷ Utf8 (codes "ConstantValue") ∷ constants.Long (pos 1)
    ∷ constants.Second ∷ Utf8 (codes "s__Getter$") ∷ Utf8 (codes "(Lorg/deuce/transaction/Context;)LA;") ∷ Utf8 (codes "x__Getter$")
    ∷ Utf8 (codes "(LA;Lorg/deuce/transaction/Context;)I") ∷ []

-- the wrapper of the initialiser
abbrev pub wrapper : Member
wrapper = coded 12 8 9 10 3 2 (184 ∷ 0 ∷ 27 ∷ 75 ∷ 42 ∷ 19 ∷ 0 ∷ 28 ∷ 19 ∷ 0 ∷ 29 ∷ 182 ∷ 0 ∷ 35 ∷ 42 ∷ 184 ∷ 0 ∷ 39 ∷ 42 ∷ 182 ∷ 0 ∷ 43 ∷ 153 ∷ 255 ∷ 238 ∷ 177 ∷ 87 ∷ 42 ∷ 182 ∷ 0 ∷ 46 ∷ 167 ∷ 255 ∷ 229 ∷ 76 ∷ 42 ∷ 182 ∷ 0 ∷ 43 ∷ 153 ∷ 255 ∷ 221 ∷ 43 ∷ 191 ∷ []) (record { start = 14; end = 18; handler = 26; catch_type = 48 } ∷ record { start = 14; end = 18; handler = 34; catch_type = 0 } ∷ [])

-- as it was
abbrev pub constructor : Member
constructor = coded 12 0 11 10 2 1 (42 ∷ 183 ∷ 0 ∷ 19 ∷ 42 ∷ 16 ∷ 7 ∷ 181 ∷ 0 ∷ 15 ∷ 177 ∷ []) ([])

-- accessors of the static field
abbrev pub s_getter : Member
s_getter = coded 12 4105 91 92 5 1 (42 ∷ 178 ∷ 0 ∷ 52 ∷ 178 ∷ 0 ∷ 56 ∷ 182 ∷ 0 ∷ 60 ∷ 42 ∷ 178 ∷ 0 ∷ 52 ∷ 178 ∷ 0 ∷ 13 ∷ 178 ∷ 0 ∷ 56 ∷ 182 ∷ 0 ∷ 64 ∷ 192 ∷ 0 ∷ 1 ∷ 176 ∷ []) ([])

abbrev pub s_setter : Member
s_setter = coded 12 4105 80 81 5 2 (43 ∷ 178 ∷ 0 ∷ 52 ∷ 42 ∷ 178 ∷ 0 ∷ 56 ∷ 182 ∷ 0 ∷ 68 ∷ 177 ∷ []) ([])

-- accessors of the other
abbrev pub x_getter : Member
x_getter = coded 12 4105 93 94 5 2 (43 ∷ 42 ∷ 178 ∷ 0 ∷ 71 ∷ 182 ∷ 0 ∷ 60 ∷ 43 ∷ 42 ∷ 42 ∷ 180 ∷ 0 ∷ 15 ∷ 178 ∷ 0 ∷ 71 ∷ 182 ∷ 0 ∷ 74 ∷ 172 ∷ []) ([])

abbrev pub x_setter : Member
x_setter = coded 12 4105 84 85 5 3 (44 ∷ 42 ∷ 27 ∷ 178 ∷ 0 ∷ 71 ∷ 182 ∷ 0 ∷ 77 ∷ 177 ∷ []) ([])

-- duplicates
abbrev pub initialiser_copy : Member
initialiser_copy = coded 12 4104 36 37 3 1 (187 ∷ 0 ∷ 1 ∷ 89 ∷ 42 ∷ 183 ∷ 0 ∷ 79 ∷ 42 ∷ 184 ∷ 0 ∷ 83 ∷ 4 ∷ 189 ∷ 0 ∷ 1 ∷ 87 ∷ 18 ∷ 20 ∷ 87 ∷ 177 ∷ 191 ∷ []) (record { start = 0; end = 21; handler = 21; catch_type = 48 } ∷ [])

abbrev pub constructor_copy : Member
constructor_copy = coded 12 4096 11 37 3 2 (42 ∷ 183 ∷ 0 ∷ 19 ∷ 42 ∷ 16 ∷ 7 ∷ 43 ∷ 184 ∷ 0 ∷ 87 ∷ 177 ∷ 191 ∷ []) (record { start = 0; end = 12; handler = 12; catch_type = 48 } ∷ [])

abbrev fields : List Member
fields =
    record { flags = 8; name = 5; descriptor = 6; attributes = [] }
    ∷ record { flags = 0; name = 7; descriptor = 8; attributes = [] }
    ∷ record { flags = 4121; name = 53; descriptor = 54; attributes = constant 88 89 }
    ∷ record { flags = 4121; name = 69; descriptor = 54; attributes = constant 88 89 }
    ∷ record { flags = 4121; name = 49; descriptor = 50; attributes = [] } ∷ []

abbrev pub class_a : ClassFile
class_a = class pool 1 3 fields (wrapper ∷ constructor ∷ s_getter ∷ s_setter ∷ x_getter ∷ x_setter ∷ initialiser_copy ∷ constructor_copy ∷ [])

-- ---- the helper

abbrev helper_pool : Pool
helper_pool =
    Utf8 (codes "org/deuce/transaction/ArrayHelper") ∷ Class 1 ∷ Utf8 (codes "java/lang/Object") ∷ Class 3 ∷ Utf8 (codes "org/deuce/transaction/Context") ∷ Class 5
    ∷ Utf8 (codes "beforeReadAccess") ∷ Utf8 (codes "(Ljava/lang/Object;I)V") ∷ NameAndType 7 8 ∷ constants.Method 6 9 ∷ Utf8 (codes "onReadAccess")
    ∷ Utf8 (codes "(Ljava/lang/Object;BI)B") ∷ NameAndType 11 12 ∷ constants.Method 6 13 ∷ Utf8 (codes "onWriteAccess") ∷ Utf8 (codes "(Ljava/lang/Object;BI)V")
    ∷ NameAndType 15 16 ∷ constants.Method 6 17 ∷ Utf8 (codes "(Ljava/lang/Object;CI)C") ∷ NameAndType 11 19 ∷ constants.Method 6 20
    ∷ Utf8 (codes "(Ljava/lang/Object;CI)V") ∷ NameAndType 15 22 ∷ constants.Method 6 23 ∷ Utf8 (codes "(Ljava/lang/Object;ZI)Z") ∷ NameAndType 11 25
    ∷ constants.Method 6 26 ∷ Utf8 (codes "(Ljava/lang/Object;ZI)V") ∷ NameAndType 15 28 ∷ constants.Method 6 29 ∷ Utf8 (codes "(Ljava/lang/Object;SI)S")
    ∷ NameAndType 11 31 ∷ constants.Method 6 32 ∷ Utf8 (codes "(Ljava/lang/Object;SI)V") ∷ NameAndType 15 34 ∷ constants.Method 6 35
    ∷ Utf8 (codes "(Ljava/lang/Object;II)I") ∷ NameAndType 11 37 ∷ constants.Method 6 38 ∷ Utf8 (codes "(Ljava/lang/Object;II)V") ∷ NameAndType 15 40
    ∷ constants.Method 6 41 ∷ Utf8 (codes "(Ljava/lang/Object;JI)J") ∷ NameAndType 11 43 ∷ constants.Method 6 44 ∷ Utf8 (codes "(Ljava/lang/Object;JI)V")
    ∷ NameAndType 15 46 ∷ constants.Method 6 47 ∷ Utf8 (codes "(Ljava/lang/Object;Ljava/lang/Object;I)Ljava/lang/Object;") ∷ NameAndType 11 49 ∷ constants.Method 6 50
    ∷ Utf8 (codes "(Ljava/lang/Object;Ljava/lang/Object;I)V") ∷ NameAndType 15 52 ∷ constants.Method 6 53 ∷ Utf8 (codes "Code") ∷ Utf8 (codes "baload")
    ∷ Utf8 (codes "([BILorg/deuce/transaction/Context;)B") ∷ Utf8 (codes "bastore") ∷ Utf8 (codes "([BIBLorg/deuce/transaction/Context;)V") ∷ Utf8 (codes "caload")
    ∷ Utf8 (codes "([CILorg/deuce/transaction/Context;)C") ∷ Utf8 (codes "castore") ∷ Utf8 (codes "([CICLorg/deuce/transaction/Context;)V") ∷ Utf8 (codes "zaload")
    ∷ Utf8 (codes "([ZILorg/deuce/transaction/Context;)Z") ∷ Utf8 (codes "zastore") ∷ Utf8 (codes "([ZIZLorg/deuce/transaction/Context;)V") ∷ Utf8 (codes "saload")
    ∷ Utf8 (codes "([SILorg/deuce/transaction/Context;)S") ∷ Utf8 (codes "sastore") ∷ Utf8 (codes "([SISLorg/deuce/transaction/Context;)V") ∷ Utf8 (codes "iaload")
    ∷ Utf8 (codes "([IILorg/deuce/transaction/Context;)I") ∷ Utf8 (codes "iastore") ∷ Utf8 (codes "([IIILorg/deuce/transaction/Context;)V") ∷ Utf8 (codes "laload")
    ∷ Utf8 (codes "([JILorg/deuce/transaction/Context;)J") ∷ Utf8 (codes "lastore") ∷ Utf8 (codes "([JIJLorg/deuce/transaction/Context;)V") ∷ Utf8 (codes "aaload")
    ∷ Utf8 (codes "([Ljava/lang/Object;ILorg/deuce/transaction/Context;)Ljava/lang/Object;") ∷ Utf8 (codes "aastore")
    ∷ Utf8 (codes "([Ljava/lang/Object;ILjava/lang/Object;Lorg/deuce/transaction/Context;)V") ∷ []

-- for each element a read and a write
abbrev pub b_load : Member
b_load = coded 55 4105 56 57 4 3 (44 ∷ 42 ∷ 27 ∷ 182 ∷ 0 ∷ 10 ∷ 44 ∷ 42 ∷ 42 ∷ 27 ∷ 51 ∷ 27 ∷ 182 ∷ 0 ∷ 14 ∷ 172 ∷ []) ([])

abbrev pub b_store : Member
b_store = coded 55 4105 58 59 4 4 (45 ∷ 42 ∷ 28 ∷ 27 ∷ 182 ∷ 0 ∷ 18 ∷ 177 ∷ []) ([])

abbrev pub c_load : Member
c_load = coded 55 4105 60 61 4 3 (44 ∷ 42 ∷ 27 ∷ 182 ∷ 0 ∷ 10 ∷ 44 ∷ 42 ∷ 42 ∷ 27 ∷ 52 ∷ 27 ∷ 182 ∷ 0 ∷ 21 ∷ 172 ∷ []) ([])

abbrev pub c_store : Member
c_store = coded 55 4105 62 63 4 4 (45 ∷ 42 ∷ 28 ∷ 27 ∷ 182 ∷ 0 ∷ 24 ∷ 177 ∷ []) ([])

abbrev pub z_load : Member
z_load = coded 55 4105 64 65 4 3 (44 ∷ 42 ∷ 27 ∷ 182 ∷ 0 ∷ 10 ∷ 44 ∷ 42 ∷ 42 ∷ 27 ∷ 51 ∷ 27 ∷ 182 ∷ 0 ∷ 27 ∷ 172 ∷ []) ([])

abbrev pub z_store : Member
z_store = coded 55 4105 66 67 4 4 (45 ∷ 42 ∷ 28 ∷ 27 ∷ 182 ∷ 0 ∷ 30 ∷ 177 ∷ []) ([])

abbrev pub s_load : Member
s_load = coded 55 4105 68 69 4 3 (44 ∷ 42 ∷ 27 ∷ 182 ∷ 0 ∷ 10 ∷ 44 ∷ 42 ∷ 42 ∷ 27 ∷ 53 ∷ 27 ∷ 182 ∷ 0 ∷ 33 ∷ 172 ∷ []) ([])

abbrev pub s_store : Member
s_store = coded 55 4105 70 71 4 4 (45 ∷ 42 ∷ 28 ∷ 27 ∷ 182 ∷ 0 ∷ 36 ∷ 177 ∷ []) ([])

abbrev pub i_load : Member
i_load = coded 55 4105 72 73 4 3 (44 ∷ 42 ∷ 27 ∷ 182 ∷ 0 ∷ 10 ∷ 44 ∷ 42 ∷ 42 ∷ 27 ∷ 46 ∷ 27 ∷ 182 ∷ 0 ∷ 39 ∷ 172 ∷ []) ([])

abbrev pub i_store : Member
i_store = coded 55 4105 74 75 4 4 (45 ∷ 42 ∷ 28 ∷ 27 ∷ 182 ∷ 0 ∷ 42 ∷ 177 ∷ []) ([])

abbrev pub l_load : Member
l_load = coded 55 4105 76 77 5 3 (44 ∷ 42 ∷ 27 ∷ 182 ∷ 0 ∷ 10 ∷ 44 ∷ 42 ∷ 42 ∷ 27 ∷ 47 ∷ 27 ∷ 182 ∷ 0 ∷ 45 ∷ 173 ∷ []) ([])

abbrev pub l_store : Member
l_store = coded 55 4105 78 79 5 5 (25 ∷ 4 ∷ 42 ∷ 32 ∷ 27 ∷ 182 ∷ 0 ∷ 48 ∷ 177 ∷ []) ([])

abbrev pub a_load : Member
a_load = coded 55 4105 80 81 4 3 (44 ∷ 42 ∷ 27 ∷ 182 ∷ 0 ∷ 10 ∷ 44 ∷ 42 ∷ 42 ∷ 27 ∷ 50 ∷ 27 ∷ 182 ∷ 0 ∷ 51 ∷ 176 ∷ []) ([])

abbrev pub a_store : Member
a_store = coded 55 4105 82 83 4 4 (45 ∷ 42 ∷ 44 ∷ 27 ∷ 182 ∷ 0 ∷ 54 ∷ 177 ∷ []) ([])

abbrev pub helper : ClassFile
helper = class helper_pool 2 4 [] (b_load ∷ b_store ∷ z_load ∷ z_store ∷ c_load ∷ c_store ∷ s_load ∷ s_store ∷ i_load ∷ i_store ∷ l_load ∷ l_store ∷ a_load ∷ a_store ∷ [])
