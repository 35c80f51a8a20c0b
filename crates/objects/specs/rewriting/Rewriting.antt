-- The rewriting of a program: accessors, duplicates, the helper of arrays, and wrappers (Korland, Shavit, Felber, MULTIPROG 2010, in this project's form).
use Rattle.std.specs.Prelude.{ℕ, ℤ, suc, pos, ◌+◌, ◌*◌, List, [], ◌∷◌, ◌++◌, length, map, take, drop, sum_by, max, Option, Some, None, Bool, true, false, not, ◌==◌, nat_lt, nat_eq, if◌then◌else◌, codes, bytes_eq, slice_get}
use Rattle.std.specs.List.{flat_map, list_any}
use Rattle.std.specs.Int.{w64, cast_signed}
use Rattle.jmodel.specs.declared.value.Value.TheVariants.{Int, Long, Ref}
use Rattle.jmodel.specs.declared.typing.VType.{VType}
use Rattle.jmodel.specs.declared.typing.VType.TheVariants as type
use Rattle.objects.specs.declared.op.Sort.{Sort}
use Rattle.objects.specs.declared.op.Sort.TheVariants as sort
use Rattle.objects.specs.declared.op.WordType.{WordType}
use Rattle.objects.specs.declared.op.WordType.TheVariants as word
use Rattle.objects.specs.declared.op.Dispatch.{Dispatch}
use Rattle.objects.specs.declared.op.Dispatch.TheVariants as dispatch
use Rattle.objects.specs.declared.op.Op.{Op}
use Rattle.objects.specs.declared.op.Op.TheVariants.{Constant, Load, Store, Stack, Increment, Branch, BranchInts, BranchNull, BranchReferences, Goto, Switch, GetStatic, PutStatic, GetField, PutField, InvokeStatic, InvokeSpecial, InvokeVirtual, InvokeInterface, LoadElement, StoreElement, CheckCast, Return, ReturnValue, Throw, GetContext, Context}
use Rattle.objects.specs.declared.op.StackOp.TheVariants.{Pop}
use Rattle.objects.specs.declared.op.Test.TheVariants.{Equal}
use Rattle.objects.specs.declared.op.ContextCall.TheVariants.{Init, BeforeRead, OnRead, OnWrite, BeforeReadElement, OnReadElement, OnWriteElement, Commit, Rollback}
use Rattle.objects.specs.declared.op.Catch.{Catch}
use Rattle.objects.specs.declared.op.Catches.{Catches}
use Rattle.objects.specs.declared.op.Catches.TheVariants.{Conflict, Any}
use Rattle.objects.specs.semantics.Program.{Declared, Field, Method, Program}
use Rattle.objects.specs.semantics.Step.{sort_of}
use Rattle.objects.specs.typing.TypeOrder.{context_class, object_class, element_class, place_types}
use Rattle.objects.specs.typing.Typing.{Types, Table, types_at}
pub use Rattle.objects.specs.semantics.WordTypes.{type_descriptor}

-- the descriptor of the context's class
abbrev pub context_type : List ℕ
context_type = codes "Lorg/deuce/transaction/Context;"

-- how many bytes stand before the parenthesis, 41, that ends the parameters; a class's name goes from L, 76, to a semicolon, 59
abbrev pub before_end : Bool → List ℕ → ℕ
before_end in_name [] = 0
before_end true (c ∷ cs) = suc (before_end (not (c == 59)) cs)
before_end false (c ∷ cs) = if c == 41 then 0 else suc (before_end (c == 76) cs)

-- a method's descriptor with the context as last parameter
abbrev pub with_context : List ℕ → List ℕ
with_context d = take (before_end false d) d ++ context_type ++ drop (before_end false d) d

-- The name of a method's duplicate: its own. A method with the name of static initialisers can't be called, so that duplicate has another.
abbrev pub duplicate_name : List ℕ → List ℕ
duplicate_name n = if bytes_eq n (codes "<clinit>") then codes "__CLINIT__" else n

-- ---- numbers of the added methods: behind the old ones a getter and a setter for each field, a duplicate for each method, then the helper's

abbrev pub getter : Program → ℕ → ℕ
getter P f = length P.methods + 2 * f

abbrev pub setter : Program → ℕ → ℕ
setter P f = length P.methods + 2 * f + 1

abbrev pub duplicate : Program → ℕ → ℕ
duplicate P m = length P.methods + 2 * length P.fields + m

-- the place of an element's type among those of the helper
abbrev pub helper_place : WordType → ℕ
helper_place word.Byte = 0
helper_place word.Boolean = 1
helper_place word.Char = 2
helper_place word.Short = 3
helper_place word.Int = 4
helper_place word.Long = 5
helper_place word.Reference = 6

abbrev pub element_getter : Program → WordType → ℕ
element_getter P t = duplicate P (length P.methods) + 2 * helper_place t

abbrev pub element_setter : Program → WordType → ℕ
element_setter P t = duplicate P (length P.methods) + 2 * helper_place t + 1

-- ---- accessors

-- how many places a value has
abbrev pub word_places : WordType → ℕ
word_places word.Long = 2
word_places t = 1

-- the field's address field, as a constant: its distance from the header
abbrev pub distance : ℕ → Op
distance index = Constant (Long (cast_signed w64 (suc index)))

-- what a read of a reference gives is cast to its class, where that isn't Object
abbrev pub cast_to : List ℕ → List Op → List Op
cast_to n code = if bytes_eq n object_class then code else CheckCast n ∷ code

abbrev pub cast_of : Declared → List Op → List Op
cast_of d code = by d.word
  where
    by : WordType → List Op
    by word.Reference = cast_to d.class code
    by t = code

abbrev pub as_result : Declared → VType
as_result d = by d.word
  where
    by : WordType → VType
    by word.Reference = type.Ref d.class
    by word.Long = type.Long
    by t = type.Int

abbrev pub context : VType
context = type.Ref context_class

-- An added static method. Its frame has its parameters alone.
abbrev pub added : (class name descriptor : List ℕ) → List VType → ℕ → Option VType → List Op → Method
added class name descriptor takes most result ops = record {
  name = record { class = class; name = name; descriptor = descriptor };
  dispatch = dispatch.Static;
  parameters = takes;
  places = length takes;
  locals = length takes;
  max_stack = most;
  result = result;
  counted = false;
  retries = None;
  ops = ops;
  catches = [];
}

-- f__Getter$(X)T, of the static field with the number n: before the read, the plain load, after the read
abbrev pub static_getter : ℕ → Field → ℕ → Method
static_getter n f o = added f.class (f.name ++ codes "__Getter$") (codes "(" ++ context_type ++ codes ")" ++ f.descriptor) (context ∷ []) (4 + word_places f.declared.word) (Some (as_result f.declared)) (
    Load sort.Reference 0 ∷ Constant (Ref o) ∷ distance f.index ∷ Context BeforeRead
    ∷ Load sort.Reference 0 ∷ Constant (Ref o) ∷ GetStatic n ∷ distance f.index ∷ Context (OnRead f.declared.word)
    ∷ cast_of f.declared (ReturnValue (sort_of f.declared.word) ∷ []))

-- f__Setter$(TX)V: in place of the store
abbrev pub static_setter : Field → ℕ → Method
static_setter f o = added f.class (f.name ++ codes "__Setter$") (codes "(" ++ f.descriptor ++ context_type ++ codes ")V") (place_types f.declared ++ context ∷ []) (4 + word_places f.declared.word) None (
    Load sort.Reference (word_places f.declared.word) ∷ Constant (Ref o) ∷ Load (sort_of f.declared.word) 0 ∷ distance f.index ∷ Context (OnWrite f.declared.word) ∷ Return ∷ [])

-- f__Getter$(LC;X)T, of a field of objects
abbrev pub field_getter : ℕ → Field → Method
field_getter n f = added f.class (f.name ++ codes "__Getter$") (codes "(L" ++ f.class ++ codes ";" ++ context_type ++ codes ")" ++ f.descriptor) (type.Ref f.class ∷ context ∷ []) (4 + word_places f.declared.word) (Some (as_result f.declared)) (
    Load sort.Reference 1 ∷ Load sort.Reference 0 ∷ distance f.index ∷ Context BeforeRead
    ∷ Load sort.Reference 1 ∷ Load sort.Reference 0 ∷ Load sort.Reference 0 ∷ GetField n f.class ∷ distance f.index ∷ Context (OnRead f.declared.word)
    ∷ cast_of f.declared (ReturnValue (sort_of f.declared.word) ∷ []))

-- f__Setter$(LC;TX)V
abbrev pub field_setter : Field → Method
field_setter f = added f.class (f.name ++ codes "__Setter$") (codes "(L" ++ f.class ++ codes ";" ++ f.descriptor ++ context_type ++ codes ")V") (type.Ref f.class ∷ place_types f.declared ++ context ∷ []) (4 + word_places f.declared.word) None (
    Load sort.Reference (1 + word_places f.declared.word) ∷ Load sort.Reference 0 ∷ Load (sort_of f.declared.word) 1 ∷ distance f.index ∷ Context (OnWrite f.declared.word) ∷ Return ∷ [])

abbrev pub getter_method : ℕ → Field → Method
getter_method n f = by f.base
  where
    by : Option ℕ → Method
    by None = field_getter n f
    by (Some o) = static_getter n f o

abbrev pub setter_method : Field → Method
setter_method f = by f.base
  where
    by : Option ℕ → Method
    by None = field_setter f
    by (Some o) = static_setter f o

-- those of fields, the first of which has the number n
abbrev pub accessors : ℕ → List Field → List Method
accessors n [] = []
accessors n (f ∷ fs) = getter_method n f ∷ setter_method f ∷ accessors (suc n) fs

-- ---- the helper of arrays

abbrev pub helper_class : List ℕ
helper_class = codes "org/deuce/transaction/ArrayHelper"

-- the letter of an element's type in the names of the helper's methods
abbrev pub helper_letter : WordType → List ℕ
helper_letter word.Byte = codes "b"
helper_letter word.Boolean = codes "z"
helper_letter word.Char = codes "c"
helper_letter word.Short = codes "s"
helper_letter word.Int = codes "i"
helper_letter word.Long = codes "l"
helper_letter word.Reference = codes "a"

abbrev pub array_type : WordType → List ℕ
array_type t = codes "[" ++ type_descriptor t

-- what any element of the type is, as its array has it
abbrev pub any_of : WordType → Declared
any_of t = record { word = t; class = object_class }

-- an element of booleans is loaded as one of bytes
abbrev pub plain_load : WordType → Op
plain_load word.Boolean = LoadElement word.Byte
plain_load t = LoadElement t

-- kaload([E I X)E
abbrev pub element_getter_method : WordType → Method
element_getter_method t = added helper_class (helper_letter t ++ codes "aload") (codes "(" ++ array_type t ++ codes "I" ++ context_type ++ codes ")" ++ type_descriptor t) (type.Ref (array_type t) ∷ type.Int ∷ context ∷ []) (3 + word_places t) (Some (as_result (any_of t))) (
    Load sort.Reference 2 ∷ Load sort.Reference 0 ∷ Load sort.Int 1 ∷ Context BeforeReadElement
    ∷ Load sort.Reference 2 ∷ Load sort.Reference 0 ∷ Load sort.Reference 0 ∷ Load sort.Int 1 ∷ plain_load t ∷ Load sort.Int 1 ∷ Context (OnReadElement t)
    ∷ ReturnValue (sort_of t) ∷ [])

-- kastore([E I E X)V
abbrev pub element_setter_method : WordType → Method
element_setter_method t = added helper_class (helper_letter t ++ codes "astore") (codes "(" ++ array_type t ++ codes "I" ++ type_descriptor t ++ context_type ++ codes ")V") (type.Ref (array_type t) ∷ type.Int ∷ place_types (any_of t) ++ context ∷ []) (3 + word_places t) None (
    Load sort.Reference (2 + word_places t) ∷ Load sort.Reference 0 ∷ Load (sort_of t) 2 ∷ Load sort.Int 1 ∷ Context (OnWriteElement t) ∷ Return ∷ [])

abbrev pub helper_methods : List Method
helper_methods = flat_map (λ t. element_getter_method t ∷ element_setter_method t ∷ [])
    (word.Byte ∷ word.Boolean ∷ word.Char ∷ word.Short ∷ word.Int ∷ word.Long ∷ word.Reference ∷ [])

-- ---- duplicates

-- an instruction, with the types before it
pub record Typed : Type 0 where
  pub op : Op
  pub types : Option Types

abbrev pub typed_from : ℕ → Table → List Op → List Typed
typed_from pc T [] = []
typed_from pc T (o ∷ os) = record { op = o; types = types_at T pc } ∷ typed_from (suc pc) T os

-- a local of the duplicate, where the context stands at p
abbrev pub moved : ℕ → ℕ → ℕ
moved p i = if nat_lt i p then i else i + 1

-- A long in the duplicate of a method with n locals: one whose second place would be the context's goes behind all of them.
abbrev pub moved_long : ℕ → ℕ → ℕ → ℕ
moved_long p n i = if nat_eq (i + 1) p then n + 1 else moved p i

abbrev pub moved_to : Sort → ℕ → ℕ → ℕ → ℕ
moved_to sort.Long p n i = moved_long p n i
moved_to s p n i = moved p i

abbrev pub is_stray_of : Sort → ℕ → ℕ → Bool
is_stray_of sort.Long p i = nat_eq (i + 1) p
is_stray_of s p i = false

abbrev pub is_stray : ℕ → Op → Bool
is_stray p (Load s i) = is_stray_of s p i
is_stray p (Store s i) = is_stray_of s p i
is_stray p o = false

-- how many locals the duplicate has more
abbrev pub more_locals : Bool → ℕ
more_locals true = 3
more_locals false = 1

-- the cases of a switch, with their targets moved
abbrev pub moved_cases : (ℕ → ℕ) → List (ℤ × ℕ) → List (ℤ × ℕ)
moved_cases at cases = map (λ (c : ℤ × ℕ). (c.0, at c.1)) cases

-- the type of the array that an element is taken of, under so many places
abbrev pub array_under : ℕ → Option Types → Option VType
array_under n None = None
array_under n (Some h) = slice_get h.stack n

-- bytes and booleans have arrays of their own, which the types tell apart
abbrev pub helped : Option VType → WordType → WordType
helped (Some (type.Ref n)) word.Byte = if bytes_eq n (codes "[Z") then word.Boolean else word.Byte
helped u t = t

-- An element of an array of references is cast to their class; one of null is null.
abbrev pub after_load : WordType → Option VType → List Op
after_load word.Reference (Some (type.Ref n)) = cast_to (element_class n) []
after_load word.Reference (Some type.Null) = Stack Pop ∷ Constant (Ref 0) ∷ []
after_load t u = []

abbrev pub element_load : Program → ℕ → WordType → Option VType → List Op
element_load P p t u = Load sort.Reference p ∷ InvokeStatic (element_getter P (helped u t)) ∷ after_load t u

abbrev pub element_store : Program → ℕ → WordType → Option VType → List Op
element_store P p t u = Load sort.Reference p ∷ InvokeStatic (element_setter P (helped u t)) ∷ []

-- The blocks: what stands in the duplicate for an instruction, before which the types are h. A jump goes to the block of its target.
abbrev pub block_of : Program → ℕ → ℕ → (ℕ → ℕ) → Option Types → Op → List Op
block_of P p most at h (GetStatic f) = Load sort.Reference p ∷ InvokeStatic (getter P f) ∷ []
block_of P p most at h (PutStatic f) = Load sort.Reference p ∷ InvokeStatic (setter P f) ∷ []
block_of P p most at h (GetField f c) = Load sort.Reference p ∷ InvokeStatic (getter P f) ∷ []
block_of P p most at h (PutField f c) = Load sort.Reference p ∷ InvokeStatic (setter P f) ∷ []
block_of P p most at h (LoadElement t) = element_load P p t (array_under 1 h)
block_of P p most at h (StoreElement t) = element_store P p t (array_under (1 + word_places t) h)
block_of P p most at h (InvokeStatic m) = Load sort.Reference p ∷ InvokeStatic (duplicate P m) ∷ []
block_of P p most at h (InvokeSpecial m) = Load sort.Reference p ∷ InvokeSpecial (duplicate P m) ∷ []
block_of P p most at h (InvokeVirtual m c) = Load sort.Reference p ∷ InvokeVirtual (duplicate P m) c ∷ []
block_of P p most at h (InvokeInterface m c) = Load sort.Reference p ∷ InvokeInterface (duplicate P m) c ∷ []
block_of P p most at h (Load s i) = Load s (moved_to s p most i) ∷ []
block_of P p most at h (Store s i) = Store s (moved_to s p most i) ∷ []
block_of P p most at h (Increment i n) = Increment (moved p i) n ∷ []
block_of P p most at h (Branch t to) = Branch t (at to) ∷ []
block_of P p most at h (BranchInts t to) = BranchInts t (at to) ∷ []
block_of P p most at h (BranchNull b to) = BranchNull b (at to) ∷ []
block_of P p most at h (BranchReferences b to) = BranchReferences b (at to) ∷ []
block_of P p most at h (Goto to) = Goto (at to) ∷ []
block_of P p most at h (Switch other cases) = Switch (at other) (moved_cases at cases) ∷ []
block_of P p most at h o = o ∷ []

abbrev pub block : Program → ℕ → ℕ → (ℕ → ℕ) → Typed → List Op
block P p most at x = block_of P p most at x.types x.op

abbrev pub block_len_of : Option Types → Op → ℕ
block_len_of h (GetStatic f) = 2
block_len_of h (PutStatic f) = 2
block_len_of h (GetField f c) = 2
block_len_of h (PutField f c) = 2
block_len_of h (LoadElement t) = 2 + length (after_load t (array_under 1 h))
block_len_of h (StoreElement t) = 2
block_len_of h (InvokeStatic m) = 2
block_len_of h (InvokeSpecial m) = 2
block_len_of h (InvokeVirtual m c) = 2
block_len_of h (InvokeInterface m c) = 2
block_len_of h o = 1

abbrev pub block_len : Typed → ℕ
block_len x = block_len_of x.types x.op

-- where the block of an instruction begins
abbrev pub block_at : List Typed → ℕ → ℕ
block_at xs pc = sum_by block_len (take pc xs)

abbrev pub blocks : Program → ℕ → ℕ → List Typed → List Op
blocks P p n xs = flat_map (block P p n (block_at xs)) xs

abbrev pub moved_catch : (ℕ → ℕ) → Catch → Catch
moved_catch at c = record { from = at c.from; to = at c.to; at = at c.at; catches = c.catches }

abbrev pub catch : ℕ → ℕ → ℕ → Catches → Catch
catch from to at catches = record { from = from; to = to; at = at; catches = catches }

-- The duplicate: the blocks, and behind them the stub that throws a conflict on, past every entry of the method's own.
abbrev pub duplicate_code : Program → Method → List Typed → Method
duplicate_code P k xs = record {
  name = record { class = k.name.class; name = duplicate_name k.name.name; descriptor = with_context k.name.descriptor };
  dispatch = k.dispatch;
  parameters = k.parameters ++ context ∷ [];
  places = k.places + 1;
  locals = k.locals + more_locals (list_any (is_stray k.places) k.ops);
  max_stack = k.max_stack + 1;
  result = k.result;
  counted = true;
  retries = None;
  ops = blocks P k.places k.locals xs ++ Throw ∷ [];
  catches = catch 0 (block_at xs (length xs)) (block_at xs (length xs)) Conflict ∷ map (moved_catch (block_at xs)) k.catches;
}

-- without code and stack, where these instructions are none
abbrev pub abstracted : List Op → Method → Method
abstracted [] k = record k { max_stack = 0; ops = []; catches = [] }
abstracted (o ∷ os) k = k

-- that of a method without code has none
abbrev pub duplicate_method : Program → Method → Table → Method
duplicate_method P k T = abstracted k.ops (duplicate_code P k (typed_from 0 T k.ops))

-- those of methods by their tables
abbrev pub duplicates : Program → List Method → List Table → List Method
duplicates P [] Ts = []
duplicates P (k ∷ ks) [] = duplicate_method P k [] ∷ duplicates P ks []
duplicates P (k ∷ ks) (T ∷ Ts) = duplicate_method P k T ∷ duplicates P ks Ts

-- ---- wrappers

-- the parameters from local i on, each on the stack
abbrev pub load_all : ℕ → List VType → List Op
load_all i [] = []
load_all i (type.Int ∷ ts) = Load sort.Int i ∷ load_all (suc i) ts
load_all i (type.Long ∷ ts) = Load sort.Long i ∷ load_all (suc i) ts
load_all i (type.Second ∷ ts) = load_all (suc i) ts
load_all i (t ∷ ts) = Load sort.Reference i ∷ load_all (suc i) ts

abbrev pub result_sort : VType → Sort
result_sort type.Int = sort.Int
result_sort type.Long = sort.Long
result_sort t = sort.Reference

abbrev pub keeps : Option VType → ℕ → List Op
keeps None c = []
keeps (Some t) c = Store (result_sort t) (c + 1) ∷ []

abbrev pub answers : Option VType → ℕ → List Op
answers None c = Return ∷ []
answers (Some t) c = Load (result_sort t) (c + 1) ∷ ReturnValue (result_sort t) ∷ []

-- how many locals the wrapper has behind its arguments
abbrev pub spare_locals : Option VType → ℕ
spare_locals (Some type.Long) = 3
spare_locals t = 2

-- the duplicate is called as the method is, by its name
abbrev pub invoke : Dispatch → ℕ → Op
invoke dispatch.Static m = InvokeStatic m
invoke d m = InvokeSpecial m

-- The wrapper's parts: the context into local c, an attempt's beginning, its body, its end, a conflict, another exception.
abbrev pub entry_code : ℕ → List Op
entry_code c = GetContext ∷ Store sort.Reference c ∷ []

abbrev pub begin_code : ℕ → ℕ → ℤ → List Op
begin_code c id retries = Load sort.Reference c ∷ Constant (Int (pos id)) ∷ Constant (Int retries) ∷ Context Init ∷ []

abbrev pub body_code : Method → ℕ → List Op
body_code k m = load_all 0 k.parameters ++ Load sort.Reference k.places ∷ invoke k.dispatch m ∷ []

abbrev pub end_code : Option VType → ℕ → List Op
end_code t c = keeps t c ++ Load sort.Reference c ∷ Context Commit ∷ Branch Equal 2 ∷ answers t c

abbrev pub conflict_code : ℕ → List Op
conflict_code c = Stack Pop ∷ Load sort.Reference c ∷ Context Rollback ∷ Goto 2 ∷ []

abbrev pub exception_code : ℕ → List Op
exception_code c = Store sort.Reference (c + 1) ∷ Load sort.Reference c ∷ Context Commit ∷ Branch Equal 2 ∷ Load sort.Reference (c + 1) ∷ Throw ∷ []

abbrev pub body_end : Method → ℕ
body_end k = 8 + length (load_all 0 k.parameters)

abbrev pub conflict_at : Method → ℕ
conflict_at k = body_end k + length (end_code k.result k.places)

-- the wrapper of method m, which is numbered id among the wrappers
abbrev pub wrapper_method : Program → ℕ → ℕ → ℤ → Method → Method
wrapper_method P id m retries k = record k {
  locals = k.places + spare_locals k.result;
  max_stack = max (k.places + 1) 3;
  counted = false;
  ops = entry_code k.places ++ begin_code k.places id retries ++ body_code k (duplicate P m) ++ end_code k.result k.places ++ conflict_code k.places ++ exception_code k.places;
  catches = catch 6 (body_end k) (conflict_at k) Conflict ∷ catch 6 (body_end k) (conflict_at k + 4) Any ∷ [];
}

-- an old method: a wrapper where it is marked or a static initialiser, else as it was
abbrev pub old_method : Program → ℕ → ℕ → Option ℤ → Method → Method
old_method P id m None k = k
old_method P id m (Some retries) k = wrapper_method P id m retries k

abbrev pub next_id : Option ℤ → ℕ → ℕ
next_id None id = id
next_id (Some retries) id = suc id

abbrev pub old_methods : Program → ℕ → ℕ → List Method → List Method
old_methods P id m [] = []
old_methods P id m (k ∷ ks) = old_method P id m k.retries k ∷ old_methods P (next_id k.retries id) (suc m) ks

-- the rewritten program, by a table of types for each method
abbrev pub rewritten : Program → List Table → Program
rewritten P Ts = record P { methods = old_methods P 0 0 P.methods ++ accessors 0 P.fields ++ duplicates P P.methods Ts ++ helper_methods }
