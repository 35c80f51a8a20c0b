-- The bank's two classes. An Account holds an amount. Bank has some accounts with 100 each, moves amounts between them, and adds them up.
use Rattle.std.specs.Prelude.{ℕ, ◌+◌, List, [], ◌∷◌, ◌++◌, length, codes}
use Rattle.jmodel.specs.declared.class_file.Constant.TheVariants.{Utf8, Class, Field, Method, NameAndType}
use Rattle.jmodel.specs.format.ClassFile.{Attribute, Member, Pool, ClassFile, u2, code_spelling}
use Rattle.bankgen.specs.Instructions.{iconst_0, iconst_1, bipush, sipush, iload_0, iload_1, iload_2, aload_0, istore_0, istore_1, dup, iadd, ineg, iinc, if_icmplt, if_icmpge, goto_back, ireturn, return, getstatic, putstatic, getfield, putfield, invokevirtual, invokespecial, aaload, aastore, new, anewarray, arraylength}

-- ---- members

-- a member without attributes
abbrev pub field : (flags name descriptor : ℕ) → Member
field flags name descriptor = record { flags = flags; name = name; descriptor = descriptor; attributes = [] }

-- In both pools the text of index 9 is Code. Code has places of its operand stack and its locals, and no handlers.
abbrev pub code_attribute : (max_stack max_locals : ℕ) → List ℕ → Attribute
code_attribute max_stack max_locals code = record { name = 9; bytes = code_spelling (record { max_stack = max_stack; max_locals = max_locals; code = code; handlers = []; attributes = [] }) }

abbrev pub method : (flags name descriptor : ℕ) → List Attribute → Member
method flags name descriptor attributes = record { flags = flags; name = name; descriptor = descriptor; attributes = attributes }

-- a public class of version 49 under Object
abbrev pub class_file : Pool → Member → List Member → ClassFile
class_file pool one methods = record {
  minor = 0;
  major = 49;
  pool = pool;
  flags = 0x21;
  this_class = 1;
  super_class = 3;
  interfaces = [];
  fields = one ∷ [];
  methods = methods;
  attributes = [];
}

-- ---- Account

abbrev pub account_pool : Pool
account_pool =
    Class 2  -- 1
    ∷ Utf8 (codes "Account")  -- 2
    ∷ Class 4  -- 3
    ∷ Utf8 (codes "java/lang/Object")  -- 4
    ∷ Utf8 (codes "b")  -- 5
    ∷ Utf8 (codes "I")  -- 6
    ∷ Utf8 (codes "<init>")  -- 7
    ∷ Utf8 (codes "(I)V")  -- 8
    ∷ Utf8 (codes "Code")  -- 9
    ∷ Method 3 11  -- 10, Object's <init>
    ∷ NameAndType 7 12  -- 11
    ∷ Utf8 (codes "()V")  -- 12
    ∷ Field 1 14  -- 13, b
    ∷ NameAndType 5 6  -- 14
    ∷ Utf8 (codes "get")  -- 15
    ∷ Utf8 (codes "()I")  -- 16
    ∷ Utf8 (codes "add")  -- 17
    ∷ []

-- calls Object's, and stores its argument in b
abbrev pub account_init : List ℕ
account_init = aload_0 ++ invokespecial 10 ++ aload_0 ++ iload_1 ++ putfield 13 ++ return

-- answers b
abbrev pub account_get : List ℕ
account_get = aload_0 ++ getfield 13 ++ ireturn

-- adds its argument to b
abbrev pub account_add : List ℕ
account_add = aload_0 ++ aload_0 ++ getfield 13 ++ iload_1 ++ iadd ++ putfield 13 ++ return

-- <init>(I)V
abbrev pub init_method : Member
init_method = method 1 7 8 (code_attribute 2 2 account_init ∷ [])

-- get()I
abbrev pub get_method : Member
get_method = method 1 15 16 (code_attribute 1 1 account_get ∷ [])

-- add(I)V
abbrev pub add_method : Member
add_method = method 1 17 8 (code_attribute 3 2 account_add ∷ [])

-- its methods are public; b is of type I
abbrev pub account : ClassFile
account = class_file account_pool (field 0 5 6) (init_method ∷ get_method ∷ add_method ∷ [])

-- ---- Bank

abbrev pub bank_pool : Pool
bank_pool =
    Class 2  -- 1
    ∷ Utf8 (codes "Bank")  -- 2
    ∷ Class 4  -- 3
    ∷ Utf8 (codes "java/lang/Object")  -- 4
    ∷ Utf8 (codes "all")  -- 5
    ∷ Utf8 (codes "[LAccount;")  -- 6
    ∷ Utf8 (codes "<clinit>")  -- 7
    ∷ Utf8 (codes "()V")  -- 8
    ∷ Utf8 (codes "Code")  -- 9
    ∷ Class 11  -- 10, Account
    ∷ Utf8 (codes "Account")  -- 11
    ∷ Field 1 13  -- 12, all
    ∷ NameAndType 5 6  -- 13
    ∷ Method 10 15  -- 14, Account's <init>
    ∷ NameAndType 16 17  -- 15
    ∷ Utf8 (codes "<init>")  -- 16
    ∷ Utf8 (codes "(I)V")  -- 17
    ∷ Utf8 (codes "transfer")  -- 18
    ∷ Utf8 (codes "(III)I")  -- 19
    ∷ Method 10 21  -- 20, get
    ∷ NameAndType 22 23  -- 21
    ∷ Utf8 (codes "get")  -- 22
    ∷ Utf8 (codes "()I")  -- 23
    ∷ Method 10 25  -- 24, add
    ∷ NameAndType 26 17  -- 25
    ∷ Utf8 (codes "add")  -- 26
    ∷ Utf8 (codes "RuntimeVisibleAnnotations")  -- 27
    ∷ Utf8 (codes "Lorg/deuce/Atomic;")  -- 28
    ∷ Utf8 (codes "total")  -- 29
    ∷ []

-- L: bounds; if_icmpge E; body; goto L; E:
abbrev pub while_below : (bounds body : List ℕ) → List ℕ
while_below bounds body = bounds ++ if_icmpge (3 + length body + 3) ++ body ++ goto_back (length bounds + 3 + length body)

-- all[i] = new Account(100); i = i + 1, with i in local 0
abbrev pub makes_account : List ℕ
makes_account = getstatic 12 ++ iload_0 ++ new 10 ++ dup ++ bipush 100 ++ invokespecial 14 ++ aastore ++ iinc 0 1

-- all is an array of so many accounts, each made with 100
abbrev pub bank_clinit : ℕ → List ℕ
bank_clinit accounts = sipush accounts ++ anewarray 10 ++ putstatic 12 ++ iconst_0 ++ istore_0 ++ while_below (iload_0 ++ sipush accounts) makes_account ++ return

-- where the first account has the amount: takes it from there, adds it to the second, and answers 1
abbrev pub bank_moves : List ℕ
bank_moves = getstatic 12 ++ iload_0 ++ aaload ++ iload_2 ++ ineg ++ invokevirtual 24
    ++ getstatic 12 ++ iload_1 ++ aaload ++ iload_2 ++ invokevirtual 24 ++ iconst_1 ++ ireturn

-- where it has less, answers 0
abbrev pub bank_transfer : List ℕ
bank_transfer = getstatic 12 ++ iload_0 ++ aaload ++ invokevirtual 20 ++ iload_2 ++ if_icmplt (3 + length bank_moves) ++ bank_moves ++ iconst_0 ++ ireturn

-- sum = sum + all[i].get(); i = i + 1, with the sum in local 0 and i in local 1
abbrev pub adds_balance : List ℕ
adds_balance = iload_0 ++ getstatic 12 ++ iload_1 ++ aaload ++ invokevirtual 20 ++ iadd ++ istore_0 ++ iinc 1 1

-- the sum of get() over the array
abbrev pub bank_total : List ℕ
bank_total = iconst_0 ++ istore_0 ++ iconst_0 ++ istore_1 ++ while_below (iload_1 ++ getstatic 12 ++ arraylength) adds_balance ++ iload_0 ++ ireturn

-- the mark @Atomic: one annotation, of the type of index 28, without pairs
abbrev pub atomic_attribute : Attribute
atomic_attribute = record { name = 27; bytes = u2 1 ++ u2 28 ++ u2 0 }

-- <clinit>()V, static
abbrev pub clinit_method : ℕ → Member
clinit_method accounts = method 8 7 8 (code_attribute 5 1 (bank_clinit accounts) ∷ [])

-- transfer(III)I, public, static and marked
abbrev pub transfer_method : Member
transfer_method = method 9 18 19 (code_attribute 2 3 bank_transfer ∷ atomic_attribute ∷ [])

-- total()I, public, static and marked
abbrev pub total_method : Member
total_method = method 9 29 23 (code_attribute 3 2 bank_total ∷ atomic_attribute ∷ [])

-- all is static, of type [LAccount;
abbrev pub bank : ℕ → ClassFile
bank accounts = class_file bank_pool (field 8 5 6) (clinit_method accounts ∷ transfer_method ∷ total_method ∷ [])
