-- The pool keeps the rules when duplicates and wrappers are added.
use Rattle.std.proofs.Common.{◌≡◌, ℕ, ℤ, pos, ◌+◌, ◌≤◌, Bool, true, false, ◌||◌, List, [], ◌∷◌, ◌++◌, length, Option, Some, None, Ok, refl, arith}
use Rattle.std.specs.Prelude.{codes, nat_lt, bytes_eq, slice_get, FitsSigned, if◌then◌else◌}
use Rattle.std.specs.Int.{w32}
use Rattle.std.proofs.lemmas.Bool.Decides.{nat_tests}
use Rattle.jmodel.specs.declared.name.MethodName.{MethodName}
use Rattle.jmodel.specs.declared.instruction.Instr.{Instr}
use Rattle.jmodel.specs.declared.typing.VType.{VType}
use Rattle.jmodel.specs.declared.typing.VType.TheVariants as type
use Rattle.jmodel.specs.format.ClassFile.{Member}
use Rattle.jmodel.specs.format.ClassRules.{IsPool}
use Rattle.objects.specs.linking.Code.{Coded}
use Rattle.jmodel.specs.format.Pool.{MemberName}
use Rattle.jmodel.specs.format.PoolAdding.{add_class, add_method, add_interface_method}
use Rattle.jmodel.specs.format.Reading.{◌>>=◌}
use Rattle.objects.specs.declared.op.Sort.TheVariants as sort
use Rattle.objects.specs.declared.op.WordType.{WordType}
use Rattle.objects.specs.declared.op.WordType.TheVariants as word
use Rattle.objects.specs.declared.op.Op.{Op}
use Rattle.objects.specs.declared.op.Op.TheVariants as op
use Rattle.objects.specs.semantics.Program.{Field, Method, field_at}
use Rattle.objects.specs.typing.Typing.{Types, types_at}
use Rattle.objects.specs.typing.TypeOrder.{context_class, conflict_class, object_class, element_class}
use Rattle.objects.specs.rewriting.Rewriting.{word_places, array_under, helped, with_context, duplicate_name}
use Rattle.objects.specs.linking.Linking.{decoded_member}
use Rattle.const_pool.proofs.Takes.{bind_ok, guard_ok}
use Rattle.member_code.specs.Growing.{grow_from}
use Rattle.member_code.specs.Names.{duplicate_named}
use Rattle.member_code.specs.Instrs.{plain, naming, load, call_interface, check_cast}
use Rattle.member_code.specs.Coding.{typed_name, room_for, block, added_method}
use Rattle.dup_methods.specs.Originals.{Original}
use Rattle.dup_methods.specs.Names.{getter_named, setter_named, load_named, store_named, as_name}
use Rattle.dup_methods.specs.Limits.{count_of, few_arguments, few_places}
use Rattle.dup_methods.specs.Duplicates.{call_of, interface_call_of, accessor_call, duplicate_call, interface_call, class_cast, after_load, element_load, called, block_of, numbered_block, refs_of, texts_of, duplicate_flags, duplicate_bytes, made_duplicate, coded_duplicate, abstract_duplicate, duplicate_with, duplicate_of}
use Rattle.retry_wrapper.specs.Wrappers.{few_wrappers, get_call, counts_of, opening_of, ending_of, wrapper_bytes, with_code, wrapper_of, few_arguments as few_in_wrapper}
use Rattle.rewritten_form.proofs.Adding.{IsClassText, IsMethodText, Keeping, pool_is, text_pool, integer_pool, class_pool, method_pool, interface_method_pool, AllGood, all_pool}
use Rattle.rewritten_form.proofs.Texts.{text_good, conflict_lawful, init_method, commit_method, rollback_method, instance_method, load_method, store_method, number_fits}
use Rattle.rewritten_form.proofs.FieldPools.{IsLawfulField, typed_pool}

-- ---- calls

-- the texts of a method that is called
abbrev pub IsCallText : MethodName → Type 0
IsCallText n = IsMethodText n.class n.name n.descriptor

call_pool : (p opcode : ℕ) (n : MethodName) → IsCallText n → Keeping (call_of p opcode n)
unfolding call_of
call_pool p opcode n fits pool r e q =
    let a = bind_ok (add_method pool n.class n.name n.descriptor) (λ i. Ok (load sort.Reference p ∷ naming opcode i.0 ∷ [], i.1)) r e in
    pool_is (load sort.Reference p ∷ naming opcode a.0.0 ∷ []) a.0.1 r a.2 (method_pool n.class n.name n.descriptor fits pool a.0 a.1 q)

interface_call_pool : (p count : ℕ) (n : MethodName) → IsCallText n → Keeping (interface_call_of p count n)
unfolding interface_call_of
interface_call_pool p count n fits pool r e q =
    let a = bind_ok (add_interface_method pool n.class n.name n.descriptor) (λ i. Ok (load sort.Reference p ∷ call_interface i.0 count ∷ [], i.1)) r e in
    pool_is (load sort.Reference p ∷ call_interface a.0.0 count ∷ []) a.0.1 r a.2 (interface_method_pool n.class n.name n.descriptor fits pool a.0 a.1 q)

-- what holds of what an option has
abbrev pub InOption : {A : Type 0} → (A → Type 0) → Option A → Type 0
InOption Q None = Unit {0}
InOption Q (Some x) = Q x

accessor_pool : (p : ℕ) (name : Field → MethodName) (o : Option Field) (i : Instr) → InOption (λ f. IsCallText (name f)) o → Keeping (accessor_call p name o i)
accessor_pool p name None i h pool r e q = pool_is (i ∷ []) pool r e q
accessor_pool p name (Some f) i h pool r e q = call_pool p 184 (name f) h pool r e q

-- the texts of the duplicate of a method that an instruction names
abbrev pub IsCopyText : MemberName → Type 0
IsCopyText n = IsMethodText n.class (duplicate_name n.name) (with_context n.descriptor)

duplicate_pool : (p opcode : ℕ) (o : Option MemberName) (i : Instr) → InOption IsCopyText o → Keeping (duplicate_call p opcode o i)
duplicate_pool p opcode None i h pool r e q = pool_is (i ∷ []) pool r e q
duplicate_pool p opcode (Some n) i h pool r e q = call_pool p opcode (duplicate_named (as_name n)) h pool r e q

interface_pool : (p : ℕ) (o : Option MemberName) (i : Instr) → InOption IsCopyText o → Keeping (interface_call p o i)
interface_pool p None i h pool r e q = pool_is (i ∷ []) pool r e q
interface_pool p (Some n) i h pool r e q = interface_call_pool p (count_of i.operands + 1) (duplicate_named (as_name n)) h pool r e q

-- ---- elements

cast_pool : (n : List ℕ) → IsClassText n → Keeping (class_cast n)
unfolding class_cast
cast_pool n fits pool r e q = go (bytes_eq n object_class) e
  where
    go : (b : Bool) → (if b then Ok ([], pool) else (add_class pool n >>= λ i. Ok (check_cast i.0 ∷ [], i.1))) ≡ Ok r → IsPool r.1
    go true h = pool_is [] pool r h q
    go false h = let a = bind_ok (add_class pool n) (λ i. Ok (check_cast i.0 ∷ [], i.1)) r h in pool_is (check_cast a.0.0 ∷ []) a.0.1 r a.2 (class_pool n fits pool a.0 a.1 q)

-- the class that a loaded element is cast to
abbrev pub IsElementText : WordType → Option VType → Type 0
IsElementText word.Reference (Some (type.Ref n)) = IsClassText (element_class n)
IsElementText t u = Unit {0}

after_pool : (t : WordType) (u : Option VType) → IsElementText t u → Keeping (after_load t u)
after_pool word.Reference (Some (type.Ref n)) fits pool r e q = cast_pool (element_class n) fits pool r e q
after_pool word.Reference (Some type.Null) fits pool r e q = pool_is (plain 87 ∷ plain 1 ∷ []) pool r e q
after_pool t u fits pool r e q = pool_is [] pool r e q

element_pool : (p : ℕ) (t : WordType) (u : Option VType) → IsElementText t u → Keeping (element_load p t u)
unfolding element_load
element_pool p t u fits pool r e q =
    let a = bind_ok (call_of p 184 (load_named (helped u t)) pool) (λ call. after_load t u call.1 >>= λ after. Ok (call.0 ++ after.0, after.1)) r e in
    let b = bind_ok (after_load t u a.0.1) (λ after. Ok (a.0.0 ++ after.0, after.1)) r a.2 in
    pool_is (a.0.0 ++ b.0.0) b.0.1 r b.2 (after_pool t u fits a.0.1 b.0 b.1 (call_pool p 184 (load_named (helped u t)) (load_method (helped u t)) pool a.0 a.1 q))

-- ---- blocks

-- What is asked of an instruction and the types before it: that what its block names may stand in a class file.
abbrev pub IsLawfulOp : Original → Option Op → Option Types → Instr → Type 0
IsLawfulOp O (Some (op.GetStatic f)) h i = InOption IsLawfulField (field_at O.program f)
IsLawfulOp O (Some (op.PutStatic f)) h i = InOption IsLawfulField (field_at O.program f)
IsLawfulOp O (Some (op.GetField f d)) h i = InOption IsLawfulField (field_at O.program f)
IsLawfulOp O (Some (op.PutField f d)) h i = InOption IsLawfulField (field_at O.program f)
IsLawfulOp O (Some (op.LoadElement t)) h i = IsElementText t (array_under 1 h)
IsLawfulOp O (Some (op.InvokeStatic m)) h i = InOption IsCopyText (called O i)
IsLawfulOp O (Some (op.InvokeSpecial m)) h i = InOption IsCopyText (called O i)
IsLawfulOp O (Some (op.InvokeVirtual m d)) h i = InOption IsCopyText (called O i)
IsLawfulOp O (Some (op.InvokeInterface m c)) h i = InOption IsCopyText (called O i)
IsLawfulOp O o h i = Unit {0}

getter_text : (o : Option Field) → InOption IsLawfulField o → InOption (λ f. IsCallText (getter_named f)) o
getter_text None h = tt
getter_text (Some f) h = h.getter

setter_text : (o : Option Field) → InOption IsLawfulField o → InOption (λ f. IsCallText (setter_named f)) o
setter_text None h = tt
setter_text (Some f) h = h.setter

block_pool : (O : Original) (o : Option Op) (h : Option Types) (i : Instr) → IsLawfulOp O o h i → Keeping (block_of O o h i)
block_pool O (Some (op.GetStatic f)) h i L pool r e q = accessor_pool O.method.places getter_named (field_at O.program f) i (getter_text (field_at O.program f) L) pool r e q
block_pool O (Some (op.PutStatic f)) h i L pool r e q = accessor_pool O.method.places setter_named (field_at O.program f) i (setter_text (field_at O.program f) L) pool r e q
block_pool O (Some (op.GetField f d)) h i L pool r e q = accessor_pool O.method.places getter_named (field_at O.program f) i (getter_text (field_at O.program f) L) pool r e q
block_pool O (Some (op.PutField f d)) h i L pool r e q = accessor_pool O.method.places setter_named (field_at O.program f) i (setter_text (field_at O.program f) L) pool r e q
block_pool O (Some (op.LoadElement t)) h i L pool r e q = element_pool O.method.places t (array_under 1 h) L pool r e q
block_pool O (Some (op.StoreElement t)) h i L pool r e q = call_pool O.method.places 184 (store_named (helped (array_under (1 + word_places t) h) t)) (store_method (helped (array_under (1 + word_places t) h) t)) pool r e q
block_pool O (Some (op.InvokeStatic m)) h i L pool r e q = duplicate_pool O.method.places 184 (called O i) i L pool r e q
block_pool O (Some (op.InvokeSpecial m)) h i L pool r e q = duplicate_pool O.method.places 183 (called O i) i L pool r e q
block_pool O (Some (op.InvokeVirtual m d)) h i L pool r e q = duplicate_pool O.method.places 182 (called O i) i L pool r e q
block_pool O (Some (op.InvokeInterface m c)) h i L pool r e q = interface_pool O.method.places (called O i) i L pool r e q
block_pool O (Some (op.Load s n)) h i L pool r e q = pool_is _ pool r e q
block_pool O (Some (op.Store s n)) h i L pool r e q = pool_is _ pool r e q
block_pool O (Some (op.Increment n x)) h i L pool r e q = pool_is _ pool r e q
block_pool O o h i L pool r e q = pool_is (i ∷ []) pool r e q

-- the same of the instruction with a number
abbrev pub IsLawfulAt : Original → ℕ → Instr → Type 0
IsLawfulAt O n i = IsLawfulOp O (slice_get O.method.ops n) (types_at O.table n) i

pub numbered_pool : (O : Original) (n : ℕ) (i : Instr) → IsLawfulAt O n i → Keeping (numbered_block O n i)
numbered_pool O n i L pool r e q =
    let a = bind_ok (block_of O (slice_get O.method.ops n) (types_at O.table n) i pool) (λ is. Ok (block i.pc is.0, is.1)) r e in
    pool_is (block i.pc a.0.0) a.0.1 r a.2 (block_pool O (slice_get O.method.ops n) (types_at O.table n) i L pool a.0 a.1 q)

-- of all instructions, the first of which has a number
abbrev pub AreLawful : Original → ℕ → List Instr → Type 0
AreLawful O n is = AllGood (IsLawfulAt O) (numbered_block O) (numbered_pool O) n is

refs_pool : (O : Original) (is : List Instr) → AreLawful O 0 is → Keeping (refs_of O is)
unfolding refs_of
refs_pool O is L pool r e q =
    let a = bind_ok (grow_from (numbered_block O) 0 is pool) (λ blocks. add_class blocks.1 conflict_class >>= λ conflict. Ok ((blocks.0, conflict.0), conflict.1)) r e in
    let b = bind_ok (add_class a.0.1 conflict_class) (λ conflict. Ok ((a.0.0, conflict.0), conflict.1)) r a.2 in
    pool_is (a.0.0, b.0.0) b.0.1 r b.2 (class_pool conflict_class conflict_lawful a.0.1 b.0 b.1 (all_pool (IsLawfulAt O) (numbered_block O) (numbered_pool O) 0 is L pool a.0 a.1 q))

-- ---- duplicates

-- the texts of a method's duplicate
abbrev pub IsLawfulMethod : Method → Type 0
IsLawfulMethod k = IsMethodText k.name.class (duplicate_name k.name.name) (with_context k.name.descriptor)

texts_pool : (k : Method) → IsLawfulMethod k → Keeping (texts_of k)
unfolding texts_of
texts_pool k K pool r e q =
    let a = bind_ok _ _ r e in
    let b = bind_ok _ _ r a.2 in
    pool_is (a.0.0, b.0.0) b.0.1 r b.2 (text_pool (codes "Code") (text_good (codes "Code") refl) a.0.1 b.0 b.1 (typed_pool (duplicate_name k.name.name) (with_context k.name.descriptor) K.named K.text pool a.0 a.1 q))

made_pool : (O : Original) (coded : Coded) → IsLawfulMethod O.method → AreLawful O 0 coded.instrs → Keeping (made_duplicate O coded)
unfolding made_duplicate
made_pool O coded K L pool r e q =
    let a = bind_ok _ _ r e in
    let b = bind_ok _ _ r a.2 in
    let d = bind_ok (duplicate_bytes O.method coded.code a.0.0.0 a.0.0.1) (λ bytes. Ok (added_method (duplicate_flags O.member.flags) b.0.0.0.0 b.0.0.0.1 b.0.0.1 bytes, b.0.1)) r b.2 in
    pool_is (added_method (duplicate_flags O.member.flags) b.0.0.0.0 b.0.0.0.1 b.0.0.1 d.0) b.0.1 r d.2 (texts_pool O.method K a.0.1 b.0 b.1 (refs_pool O coded.instrs L pool a.0 a.1 q))

-- the instructions of code, if there is any
abbrev pub instrs_in : Option Coded → List Instr
instrs_in None = []
instrs_in (Some coded) = coded.instrs

-- what a duplicate names may stand in a class file, where its arguments and those of what it calls are few
pub record IsLawfulCopy (O : Original) (o : Option Coded) : Type 0 where
  pub method : IsLawfulMethod O.method
  pub ops : AreLawful O 0 (instrs_in o)

pub copy_pool : (room : ℕ) (O : Original) → ((o : Option Coded) → decoded_member (record { class = O.class; member = O.member }) ≡ Ok o → few_arguments O.program O.method (instrs_in o) ≡ Ok tt → IsLawfulCopy O o) → Keeping (duplicate_of room O)
unfolding duplicate_of coded_duplicate abstract_duplicate
copy_pool room O lawful pool r e q =
    let a = bind_ok (decoded_member (record { class = O.class; member = O.member })) (λ coded. room_for room (duplicate_named O.method.name) >>= λ fits. duplicate_with O coded pool) r e in
    let b = bind_ok (room_for room (duplicate_named O.method.name)) (λ fits. duplicate_with O a.0 pool) r a.2 in
    by a.0 a.1 b.2
  where
    by : (o : Option Coded) → decoded_member (record { class = O.class; member = O.member }) ≡ Ok o → duplicate_with O o pool ≡ Ok r → IsPool r.1
    by None told h =
        let a = bind_ok (few_arguments O.program O.method []) _ r h in
        let b = bind_ok (typed_name (duplicate_named O.method.name).name (duplicate_named O.method.name).descriptor pool) _ r a.2 in
        let K = (lawful None told a.1).method in
        pool_is (record { flags = duplicate_flags O.member.flags; name = b.0.0.0; descriptor = b.0.0.1; attributes = [] }) b.0.1 r b.2
        (typed_pool (duplicate_named O.method.name).name (duplicate_named O.method.name).descriptor K.named K.text pool b.0 b.1 q)
    by (Some coded) told h =
        let a = bind_ok (few_arguments O.program O.method coded.instrs) (λ arguments. few_places O.method coded.code >>= λ places. made_duplicate O coded pool) r h in
        let b = bind_ok (few_places O.method coded.code) (λ places. made_duplicate O coded pool) r a.2 in
        let L = lawful (Some coded) told a.1 in
        made_pool O coded L.method L.ops pool r b.2 q

-- ---- wrappers

counts_pool : (n attempts : ℤ) → FitsSigned w32 n → FitsSigned w32 attempts → Keeping (counts_of n attempts)
unfolding counts_of
counts_pool n attempts f g pool r e q =
    let a = bind_ok _ _ r e in
    let b = bind_ok _ _ r a.2 in
    pool_is (a.0.0, b.0.0) b.0.1 r b.2 (integer_pool attempts g a.0.1 b.0 b.1 (integer_pool n f pool a.0 a.1 q))

opening_pool : (n attempts : ℤ) → FitsSigned w32 n → FitsSigned w32 attempts → Keeping (opening_of n attempts)
unfolding opening_of get_call
opening_pool n attempts f g pool r e q =
    let a = bind_ok _ _ r e in
    let b = bind_ok _ _ r a.2 in
    let d = bind_ok _ _ r b.2 in
    pool_is (record { get = a.0.0; number = b.0.0.0; retries = b.0.0.1; init = d.0.0 }) d.0.1 r d.2
    (method_pool context_class (codes "init") (codes "(II)V") init_method b.0.1 d.0 d.1
    (counts_pool n attempts f g a.0.1 b.0 b.1
    (method_pool (codes "org/deuce/transaction/ContextDelegator") (codes "getInstance") (codes "()Lorg/deuce/transaction/Context;") instance_method pool a.0 a.1 q)))

ending_pool : (d : MethodName) → IsCallText d → Keeping (ending_of d)
unfolding ending_of
ending_pool n fits pool r e q =
    let a = bind_ok _ _ r e in
    let b = bind_ok _ _ r a.2 in
    let c = bind_ok _ _ r b.2 in
    let d = bind_ok _ _ r c.2 in
    pool_is (record { duplicate = a.0.0; commit = b.0.0; rollback = c.0.0; conflict = d.0.0 }) d.0.1 r d.2
    (class_pool conflict_class conflict_lawful c.0.1 d.0 d.1
    (method_pool context_class (codes "rollback") (codes "()V") rollback_method b.0.1 c.0 c.1
    (method_pool context_class (codes "commit") (codes "()Z") commit_method a.0.1 b.0 b.1
    (method_pool n.class n.name n.descriptor fits pool a.0 a.1 q))))

-- the number of a wrapper that isn't refused
few_number : (n : ℕ) → few_wrappers n ≡ Ok tt → n ≤ 2147483647
unfolding few_wrappers
few_number n e = let t = guard_ok (nat_lt 2147483647 n) _ (Ok tt) tt e in let no = t.0 in grind (arith, nat_tests)

either_few : (a b : Bool) → (a || b) ≡ false → a ≡ false
either_few true b h = cc
either_few false b h = refl

not_more : (n : ℕ) → nat_lt 254 n ≡ false → n ≤ 254
not_more n h = grind (arith, nat_tests)

-- the places of a method whose wrapper isn't refused
pub few_of_wrapper : (k : Method) → few_in_wrapper k ≡ Ok tt → k.places ≤ 254
unfolding few_in_wrapper
few_of_wrapper k e = let t = guard_ok (nat_lt 254 k.places || nat_lt 254 (length k.parameters)) _ (Ok tt) tt e in not_more k.places (either_few (nat_lt 254 k.places) _ t.0)

pub wrapper_pool : (n : ℕ) (attempts : ℤ) (k : Method) (m : Member) → FitsSigned w32 attempts → (k.places ≤ 254 → IsLawfulMethod k) → Keeping (wrapper_of n attempts k m)
unfolding wrapper_of
wrapper_pool n attempts k m fits lawful pool r e q =
    let x = bind_ok (few_in_wrapper k) (λ few. few_wrappers n >>= λ fits. opening_of (pos n) attempts pool >>= λ opening. ending_of (duplicate_named k.name) opening.1 >>= λ ending. wrapper_bytes k opening.0 ending.0 >>= λ bytes. Ok (with_code ending.1 bytes m, ending.1)) r e in
    let y = bind_ok (few_wrappers n) (λ fits. opening_of (pos n) attempts pool >>= λ opening. ending_of (duplicate_named k.name) opening.1 >>= λ ending. wrapper_bytes k opening.0 ending.0 >>= λ bytes. Ok (with_code ending.1 bytes m, ending.1)) r x.2 in
    let a = bind_ok (opening_of (pos n) attempts pool) (λ opening. ending_of (duplicate_named k.name) opening.1 >>= λ ending. wrapper_bytes k opening.0 ending.0 >>= λ bytes. Ok (with_code ending.1 bytes m, ending.1)) r y.2 in
    let b = bind_ok (ending_of (duplicate_named k.name) a.0.1) (λ ending. wrapper_bytes k a.0.0 ending.0 >>= λ bytes. Ok (with_code ending.1 bytes m, ending.1)) r a.2 in
    let c = bind_ok (wrapper_bytes k a.0.0 b.0.0) (λ bytes. Ok (with_code b.0.1 bytes m, b.0.1)) r b.2 in
    pool_is (with_code b.0.1 c.0 m) b.0.1 r c.2
    (ending_pool (duplicate_named k.name) (lawful (few_of_wrapper k x.1)) a.0.1 b.0 b.1 (opening_pool (pos n) attempts (number_fits n (few_number n y.1)) fits pool a.0 a.1 q))
