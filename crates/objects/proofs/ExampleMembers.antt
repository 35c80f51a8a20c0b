-- The members that the rewriting adds and the blocks of its duplicates, computed.
use Rattle.std.proofs.Common.{◌≡◌, ℕ, ◌*◌, refl}
use Rattle.std.specs.Prelude.{pos, negsuc, List, [], ◌∷◌, Option, Some, None, true, false, codes}
use Rattle.jmodel.specs.declared.value.Value.TheVariants.{Int, Long, Ref}
use Rattle.jmodel.specs.declared.name.MethodName.{MethodName}
use Rattle.jmodel.specs.declared.typing.VType.{VType}
use Rattle.jmodel.specs.declared.typing.VType.TheVariants as type
use Rattle.objects.specs.declared.op.Sort.TheVariants as sort
use Rattle.objects.specs.declared.op.WordType.TheVariants as word
use Rattle.objects.specs.declared.op.Dispatch.TheVariants as dispatch
use Rattle.objects.specs.declared.op.Op.{Op}
use Rattle.objects.specs.declared.op.Op.TheVariants.{Constant, Load, Store, Stack, Increment, Branch, BranchNull, Goto, Switch, GetStatic, GetField, InvokeStatic, InvokeSpecial, InvokeInterface, LoadElement, StoreElement, CheckCast, Return, ReturnValue, Throw, GetContext, Context}
use Rattle.objects.specs.declared.op.StackOp.TheVariants.{Pop, Dup}
use Rattle.objects.specs.declared.op.Test.TheVariants.{Equal}
use Rattle.objects.specs.declared.op.ContextCall.TheVariants.{Init, BeforeRead, OnRead, OnWrite, BeforeReadElement, OnReadElement, OnWriteElement, Commit, Rollback}
use Rattle.objects.specs.declared.op.Catch.{Catch}
use Rattle.objects.specs.declared.op.Catches.{Catches}
use Rattle.objects.specs.declared.op.Catches.TheVariants.{Conflict, Any, Of}
use Rattle.objects.specs.semantics.Program.{Method, Program, method_at}
use Rattle.objects.specs.typing.Typing.{Types}
use Rattle.objects.specs.rewriting.Rewriting.{rewritten, getter, setter, duplicate, element_getter, element_setter, duplicate_name, with_context, block_of, wrapper_method}
use Rattle.objects.proofs.ExampleProgram.{program}
use Rattle.objects.proofs.ExampleTables.{tables}

abbrev code : Program
code = rewritten program tables

-- what is compared of a method: its name and descriptor, how many places its locals and its stack have, and its code
pub record Looks : Type 0 where
  pub name : MethodName
  pub locals : ℕ
  pub most : ℕ
  pub ops : List Op

abbrev looks : Method → Looks
looks k = record { name = k.name; locals = k.locals; most = k.max_stack; ops = k.ops }

abbrev seen : Option Method → Option Looks
seen None = None
seen (Some k) = Some (looks k)

abbrev named : (class name descriptor : List ℕ) → MethodName
named c n d = record { class = c; name = n; descriptor = d }

abbrev aload : ℕ → Op
aload i = Load sort.Reference i

abbrev address : ℕ → Op
address n = Constant (Long (pos n))

-- ---- accessors

-- of A.x, the second word of its objects
getter_x : seen (method_at code (getter program 0)) ≡ Some (record {
  name = named (codes "A") (codes "x__Getter$") (codes "(LA;Lorg/deuce/transaction/Context;)I");
  locals = 2;
  most = 5;
  ops = aload 1 ∷ aload 0 ∷ address 1 ∷ Context BeforeRead ∷ aload 1 ∷ aload 0 ∷ aload 0 ∷ GetField 0 (codes "A") ∷ address 1 ∷ Context (OnRead word.Int) ∷ ReturnValue sort.Int ∷ [];
})
getter_x = refl

setter_x : seen (method_at code (setter program 0)) ≡ Some (record {
  name = named (codes "A") (codes "x__Setter$") (codes "(LA;ILorg/deuce/transaction/Context;)V");
  locals = 3;
  most = 5;
  ops = aload 2 ∷ aload 0 ∷ Load sort.Int 1 ∷ address 1 ∷ Context (OnWrite word.Int) ∷ Return ∷ [];
})
setter_x = refl

-- what is read of A.next is cast
getter_next : seen (method_at code (getter program 1)) ≡ Some (record {
  name = named (codes "A") (codes "next__Getter$") (codes "(LA;Lorg/deuce/transaction/Context;)LA;");
  locals = 2;
  most = 5;
  ops = aload 1 ∷ aload 0 ∷ address 2 ∷ Context BeforeRead ∷ aload 1 ∷ aload 0 ∷ aload 0 ∷ GetField 1 (codes "A") ∷ address 2 ∷ Context (OnRead word.Reference) ∷ CheckCast (codes "A") ∷ ReturnValue sort.Reference ∷ [];
})
getter_next = refl

-- of the static field A.all, whose object lies at 2
getter_all : seen (method_at code (getter program 4)) ≡ Some (record {
  name = named (codes "A") (codes "all__Getter$") (codes "(Lorg/deuce/transaction/Context;)[LA;");
  locals = 1;
  most = 5;
  ops = aload 0 ∷ Constant (Ref 2) ∷ address 2 ∷ Context BeforeRead ∷ aload 0 ∷ Constant (Ref 2) ∷ GetStatic 4 ∷ address 2 ∷ Context (OnRead word.Reference) ∷ CheckCast (codes "[LA;") ∷ ReturnValue sort.Reference ∷ [];
})
getter_all = refl

setter_all : seen (method_at code (setter program 4)) ≡ Some (record {
  name = named (codes "A") (codes "all__Setter$") (codes "([LA;Lorg/deuce/transaction/Context;)V");
  locals = 2;
  most = 5;
  ops = aload 1 ∷ Constant (Ref 2) ∷ aload 0 ∷ address 2 ∷ Context (OnWrite word.Reference) ∷ Return ∷ [];
})
setter_all = refl

-- a long has two places
setter_wide : seen (method_at code (setter program 5)) ≡ Some (record {
  name = named (codes "B") (codes "wide__Setter$") (codes "(LB;JLorg/deuce/transaction/Context;)V");
  locals = 4;
  most = 6;
  ops = aload 3 ∷ aload 0 ∷ Load sort.Long 1 ∷ address 4 ∷ Context (OnWrite word.Long) ∷ Return ∷ [];
})
setter_wide = refl

-- ---- the helper of arrays

element_getter_z : seen (method_at code (element_getter program word.Boolean)) ≡ Some (record {
  name = named (codes "org/deuce/transaction/ArrayHelper") (codes "zaload") (codes "([ZILorg/deuce/transaction/Context;)Z");
  locals = 3;
  most = 4;
  ops = aload 2 ∷ aload 0 ∷ Load sort.Int 1 ∷ Context BeforeReadElement ∷ aload 2 ∷ aload 0 ∷ aload 0 ∷ Load sort.Int 1 ∷ LoadElement word.Byte ∷ Load sort.Int 1 ∷ Context (OnReadElement word.Boolean) ∷ ReturnValue sort.Int ∷ [];
})
element_getter_z = refl

element_setter_l : seen (method_at code (element_setter program word.Long)) ≡ Some (record {
  name = named (codes "org/deuce/transaction/ArrayHelper") (codes "lastore") (codes "([JIJLorg/deuce/transaction/Context;)V");
  locals = 5;
  most = 5;
  ops = aload 4 ∷ aload 0 ∷ Load sort.Long 2 ∷ Load sort.Int 1 ∷ Context (OnWriteElement word.Long) ∷ Return ∷ [];
})
element_setter_l = refl

element_setter_a : seen (method_at code (element_setter program word.Reference)) ≡ Some (record {
  name = named (codes "org/deuce/transaction/ArrayHelper") (codes "aastore") (codes "([Ljava/lang/Object;ILjava/lang/Object;Lorg/deuce/transaction/Context;)V");
  locals = 4;
  most = 4;
  ops = aload 3 ∷ aload 0 ∷ aload 2 ∷ Load sort.Int 1 ∷ Context (OnWriteElement word.Reference) ∷ Return ∷ [];
})
element_setter_a = refl

-- ---- duplicates

duplicate_init : seen (method_at code (duplicate program 3)) ≡ Some (record {
  name = named (codes "B") (codes "<init>") (codes "(JLorg/deuce/transaction/Context;)V");
  locals = 4;
  most = 4;
  ops = aload 0 ∷ aload 3 ∷ InvokeSpecial (duplicate program 0) ∷ aload 0 ∷ Load sort.Long 1 ∷ aload 3 ∷ InvokeStatic (setter program 5) ∷ Return ∷ Throw ∷ [];
})
duplicate_init = refl

duplicate_abstract : seen (method_at code (duplicate program 4)) ≡ Some (record {
  name = named (codes "I") (codes "f") (codes "(Lorg/deuce/transaction/Context;)I");
  locals = 2;
  most = 0;
  ops = [];
})
duplicate_abstract = refl

initialiser_name : duplicate_name (codes "<clinit>") ≡ codes "__CLINIT__"
initialiser_name = refl

-- a parenthesis inside a class's name doesn't end the parameters
context_last : with_context (codes "(ILa)b;[J)V") ≡ codes "(ILa)b;[JLorg/deuce/transaction/Context;)V"
context_last = refl

-- ---- blocks, where the context stands at local 2 and the method has 5 locals

abbrev block : Option Types → Op → List Op
block h o = block_of program 2 5 (λ pc. pc * 10) h o

abbrev stack_is : List VType → Option Types
stack_is s = Some (record { locals = []; stack = s; built = true })

lower_local : block None (Load sort.Int 1) ≡ Load sort.Int 1 ∷ []
lower_local = refl

upper_local : block None (Store sort.Reference 2) ≡ Store sort.Reference 3 ∷ []
upper_local = refl

-- a long whose second place would be the context's goes behind all locals
stray_long : block None (Load sort.Long 1) ≡ Load sort.Long 6 ∷ []
stray_long = refl

incremented : block None (Increment 4 (negsuc 0)) ≡ Increment 5 (negsuc 0) ∷ []
incremented = refl

jumps : block None (Switch 3 ((pos 1, 4) ∷ [])) ≡ Switch 30 ((pos 1, 40) ∷ []) ∷ []
jumps = refl

tests_null : block None (BranchNull false 7) ≡ BranchNull false 70 ∷ []
tests_null = refl

bytes : block (stack_is (type.Int ∷ type.Ref (codes "[B") ∷ [])) (LoadElement word.Byte) ≡ aload 2 ∷ InvokeStatic (element_getter program word.Byte) ∷ []
bytes = refl

booleans : block (stack_is (type.Int ∷ type.Ref (codes "[Z") ∷ [])) (LoadElement word.Byte) ≡ aload 2 ∷ InvokeStatic (element_getter program word.Boolean) ∷ []
booleans = refl

stored_booleans : block (stack_is (type.Int ∷ type.Int ∷ type.Ref (codes "[Z") ∷ [])) (StoreElement word.Byte) ≡ aload 2 ∷ InvokeStatic (element_setter program word.Boolean) ∷ []
stored_booleans = refl

stored_longs : block (stack_is (type.Second ∷ type.Long ∷ type.Int ∷ type.Ref (codes "[J") ∷ [])) (StoreElement word.Long) ≡ aload 2 ∷ InvokeStatic (element_setter program word.Long) ∷ []
stored_longs = refl

references : block (stack_is (type.Int ∷ type.Ref (codes "[LA;") ∷ [])) (LoadElement word.Reference)
    ≡ aload 2 ∷ InvokeStatic (element_getter program word.Reference) ∷ CheckCast (codes "A") ∷ []
references = refl

arrays : block (stack_is (type.Int ∷ type.Ref (codes "[[I") ∷ [])) (LoadElement word.Reference)
    ≡ aload 2 ∷ InvokeStatic (element_getter program word.Reference) ∷ CheckCast (codes "[I") ∷ []
arrays = refl

any_objects : block (stack_is (type.Int ∷ type.Ref (codes "[Ljava/lang/Object;") ∷ [])) (LoadElement word.Reference) ≡ aload 2 ∷ InvokeStatic (element_getter program word.Reference) ∷ []
any_objects = refl

of_null : block (stack_is (type.Int ∷ type.Null ∷ [])) (LoadElement word.Reference)
    ≡ aload 2 ∷ InvokeStatic (element_getter program word.Reference) ∷ Stack Pop ∷ Constant (Ref 0) ∷ []
of_null = refl

-- code that flow doesn't reach
unreached : block None (LoadElement word.Reference) ≡ aload 2 ∷ InvokeStatic (element_getter program word.Reference) ∷ []
unreached = refl

by_interface : block None (InvokeInterface 4 (codes "I")) ≡ aload 2 ∷ InvokeInterface (duplicate program 4) (codes "I") ∷ []
by_interface = refl

itself : block None (Stack Dup) ≡ Stack Dup ∷ []
itself = refl

-- ---- the wrapper of an instance method (I J) J of B, with the number 7

abbrev wrapped : Method
wrapped = wrapper_method program 7 5 (pos 9) (record {
  name = named (codes "B") (codes "m") (codes "(IJ)J");
  dispatch = dispatch.Virtual;
  parameters = type.Ref (codes "B") ∷ type.Int ∷ type.Long ∷ type.Second ∷ [];
  places = 4;
  locals = 9;
  max_stack = 9;
  result = Some type.Long;
  counted = true;
  retries = Some (pos 9);
  ops = [];
  catches = [];
})

wrapper_code : looks wrapped ≡ record {
  name = named (codes "B") (codes "m") (codes "(IJ)J");
  locals = 7;
  most = 5;
  ops =
      GetContext ∷ Store sort.Reference 4
      ∷ aload 4 ∷ Constant (Int (pos 7)) ∷ Constant (Int (pos 9)) ∷ Context Init
      ∷ aload 0 ∷ Load sort.Int 1 ∷ Load sort.Long 2 ∷ aload 4 ∷ InvokeSpecial (duplicate program 5)
      ∷ Store sort.Long 5 ∷ aload 4 ∷ Context Commit ∷ Branch Equal 2 ∷ Load sort.Long 5 ∷ ReturnValue sort.Long
      ∷ Stack Pop ∷ aload 4 ∷ Context Rollback ∷ Goto 2
      ∷ Store sort.Reference 5 ∷ aload 4 ∷ Context Commit ∷ Branch Equal 2 ∷ aload 5 ∷ Throw ∷ [];
}
wrapper_code = refl

abbrev entry : (from to at : ℕ) → Catches → Catch
entry from to at catches = record { from = from; to = to; at = at; catches = catches }

wrapper_entries : wrapped.catches ≡ entry 6 11 17 Conflict ∷ entry 6 11 21 Any ∷ []
wrapper_entries = refl

abbrev catches_of : Option Method → List Catch
catches_of None = []
catches_of (Some k) = k.catches

-- the stub is past the entries of the method's own
duplicate_entries : catches_of (method_at code (duplicate program 12)) ≡ entry 0 8 8 Conflict ∷ entry 0 5 5 (Of (codes "E")) ∷ []
duplicate_entries = refl
