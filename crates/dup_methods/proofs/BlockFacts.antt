-- What the block of an instruction is, over every pool that is grown from the one that was left.
use Rattle.std.proofs.Common.{◌≡◌, ℕ, ◌+◌, ◌<◌, Bool, true, false, List, [], ◌∷◌, ◌++◌, Option, Some, None, Ok, refl, subst}
use Rattle.std.specs.Prelude.{bytes_eq, slice_get, if◌then◌else◌}
use Rattle.jmodel.specs.declared.instruction.Instr.{Instr}
use Rattle.jmodel.specs.declared.name.MethodName.{MethodName}
use Rattle.jmodel.specs.declared.typing.VType.{VType}
use Rattle.jmodel.specs.declared.typing.VType.TheVariants as type
use Rattle.jmodel.specs.format.ClassFile.{Pool}
use Rattle.jmodel.specs.format.Pool.{MemberName, method_name, class_name}
use Rattle.jmodel.specs.format.PoolAdding.{add_class, add_method, add_interface_method}
use Rattle.jmodel.specs.format.Reading.{◌>>=◌}
use Rattle.jmodel.specs.format.Relocation.{Block}
use Rattle.objects.specs.declared.op.Sort.TheVariants as sort
use Rattle.objects.specs.declared.op.WordType.{WordType}
use Rattle.objects.specs.declared.op.WordType.TheVariants as word
use Rattle.objects.specs.declared.op.Op.{Op}
use Rattle.objects.specs.declared.op.Op.TheVariants.{Load, Store, Increment, GetStatic, PutStatic, GetField, PutField, InvokeStatic, InvokeSpecial, InvokeVirtual, InvokeInterface, LoadElement, StoreElement}
use Rattle.objects.specs.semantics.Program.{Field, field_at}
use Rattle.objects.specs.typing.Typing.{Types, types_at}
use Rattle.objects.specs.typing.TypeOrder.{object_class, element_class}
use Rattle.objects.specs.rewriting.Rewriting.{word_places, moved, moved_to, helped, array_under}
use Rattle.const_pool.proofs.Takes.{bind_ok, ok_is}
use Rattle.member_code.specs.Names.{duplicate_named}
use Rattle.member_code.specs.Instrs.{plain, naming, load, store, increment, call_interface, check_cast}
use Rattle.member_code.specs.Coding.{block}
use Rattle.member_code.proofs.Grown.{Grown, grown_refl, grown_trans, entry_grown, member_grown}
use Rattle.member_code.proofs.Added.{member, IsInterfaceName, interface_method_added}
use Rattle.member_code.proofs.Puts.{Puts, Adding, adds_class, adds_method}
use Rattle.dup_methods.specs.Originals.{Original}
use Rattle.dup_methods.specs.Names.{getter_named, setter_named, load_named, store_named, as_name}
use Rattle.dup_methods.specs.Limits.{count_of}
use Rattle.dup_methods.specs.Duplicates.{call_of, interface_call_of, accessor_call, duplicate_call, interface_call, class_cast, after_load, element_load, called, block_of, numbered_block}

-- ---- calls

-- a call of a method, by an opcode, with the context as last argument
pub record IsCall (p opcode : ℕ) (n : MethodName) (Z : Pool) (is : List Instr) : Type 0 where
  pub index : ℕ
  pub call : is ≡ load sort.Reference p ∷ naming opcode index ∷ []
  pub named : method_name Z index ≡ Some (member n.class n.name n.descriptor)
  pub few : index < 65535

-- the same of an interface's method
pub record IsInterfaceCall (p count : ℕ) (n : MethodName) (Z : Pool) (is : List Instr) : Type 0 where
  pub index : ℕ
  pub call : is ≡ load sort.Reference p ∷ call_interface index count ∷ []
  pub named : IsInterfaceName (member n.class n.name n.descriptor) Z index
  pub few : index < 65535

-- an instruction that stays
abbrev pub IsKept : Instr → Pool → List Instr → Type 0
IsKept i Z is = is ≡ i ∷ []

abbrev pub IsAccessorCall : ℕ → (Field → MethodName) → Option Field → Instr → Pool → List Instr → Type 0
IsAccessorCall p name (Some f) i Z is = IsCall p 184 (name f) Z is
IsAccessorCall p name None i Z is = IsKept i Z is

abbrev pub IsDuplicateCall : (p opcode : ℕ) → Option MemberName → Instr → Pool → List Instr → Type 0
IsDuplicateCall p opcode (Some n) i Z is = IsCall p opcode (duplicate_named (as_name n)) Z is
IsDuplicateCall p opcode None i Z is = IsKept i Z is

abbrev pub IsInterfaceBlock : ℕ → Option MemberName → Instr → Pool → List Instr → Type 0
IsInterfaceBlock p (Some n) i Z is = IsInterfaceCall p (count_of i.operands + 1) (duplicate_named (as_name n)) Z is
IsInterfaceBlock p None i Z is = IsKept i Z is

-- ---- elements

-- a cast to a class
pub record IsCastTo (n : List ℕ) (Z : Pool) (is : List Instr) : Type 0 where
  pub index : ℕ
  pub cast : is ≡ check_cast index ∷ []
  pub named : class_name Z index ≡ Some n
  pub few : index < 65535

abbrev pub IsCastIf : Bool → List ℕ → Pool → List Instr → Type 0
IsCastIf true n Z is = is ≡ []
IsCastIf false n Z is = IsCastTo n Z is

abbrev pub IsCast : List ℕ → Pool → List Instr → Type 0
IsCast n Z is = IsCastIf (bytes_eq n object_class) n Z is

abbrev pub IsAfter : WordType → Option VType → Pool → List Instr → Type 0
IsAfter word.Reference (Some (type.Ref n)) Z is = IsCast (element_class n) Z is
IsAfter word.Reference (Some type.Null) Z is = is ≡ plain 87 ∷ plain 1 ∷ []
IsAfter t u Z is = is ≡ []

-- a load of an element, and what follows it
pub record IsElementLoad (p : ℕ) (t : WordType) (u : Option VType) (Z : Pool) (is : List Instr) : Type 0 where
  pub call : List Instr
  pub after : List Instr
  pub parts : is ≡ call ++ after
  pub calls : IsCall p 184 (load_named (helped u t)) Z call
  pub follows : IsAfter t u Z after

-- ---- blocks

abbrev pub IsBlock : Original → Option Op → Option Types → Instr → Pool → List Instr → Type 0
IsBlock O (Some (GetStatic f)) h i Z is = IsAccessorCall O.method.places getter_named (field_at O.program f) i Z is
IsBlock O (Some (PutStatic f)) h i Z is = IsAccessorCall O.method.places setter_named (field_at O.program f) i Z is
IsBlock O (Some (GetField f d)) h i Z is = IsAccessorCall O.method.places getter_named (field_at O.program f) i Z is
IsBlock O (Some (PutField f d)) h i Z is = IsAccessorCall O.method.places setter_named (field_at O.program f) i Z is
IsBlock O (Some (LoadElement t)) h i Z is = IsElementLoad O.method.places t (array_under 1 h) Z is
IsBlock O (Some (StoreElement t)) h i Z is = IsCall O.method.places 184 (store_named (helped (array_under (1 + word_places t) h) t)) Z is
IsBlock O (Some (InvokeStatic m)) h i Z is = IsDuplicateCall O.method.places 184 (called O i) i Z is
IsBlock O (Some (InvokeSpecial m)) h i Z is = IsDuplicateCall O.method.places 183 (called O i) i Z is
IsBlock O (Some (InvokeVirtual m d)) h i Z is = IsDuplicateCall O.method.places 182 (called O i) i Z is
IsBlock O (Some (InvokeInterface m c)) h i Z is = IsInterfaceBlock O.method.places (called O i) i Z is
IsBlock O (Some (Load s n)) h i Z is = is ≡ load s (moved_to s O.method.places O.method.locals n) ∷ []
IsBlock O (Some (Store s n)) h i Z is = is ≡ store s (moved_to s O.method.places O.method.locals n) ∷ []
IsBlock O (Some (Increment n x)) h i Z is = is ≡ increment (moved O.method.places n) x ∷ []
IsBlock O o h i Z is = IsKept i Z is

-- that of the instruction with a number, at its pc
abbrev pub IsNumbered : Original → ℕ → Instr → Pool → Block → Type 0
IsNumbered O n i Z b = (b.pc ≡ i.pc) × IsBlock O (slice_get O.method.ops n) (types_at O.table n) i Z b.instrs

-- ---- they are what is added

-- nothing is added
same_pool : {X : Type 0} (Facts : Pool → X → Type 0) (x : X) → ((Z : Pool) → Facts Z x) → Adding Facts (λ pool. Ok (x, pool))
same_pool Facts x all pool r s e = subst (Puts Facts pool) (ok_is (x, pool) r e) (record { grown = grown_refl pool; short = s; facts = λ Z g. all Z })

adds_call : (p opcode : ℕ) (n : MethodName) → Adding (IsCall p opcode n) (call_of p opcode n)
unfolding call_of
adds_call p opcode n pool r s e =
    let a = bind_ok (add_method pool n.class n.name n.descriptor) (λ i. Ok (load sort.Reference p ∷ naming opcode i.0 ∷ [], i.1)) r e in
    let q = adds_method n.class n.name n.descriptor pool a.0 s a.1 in
    subst (Puts (IsCall p opcode n) pool) (ok_is (load sort.Reference p ∷ naming opcode a.0.0 ∷ [], a.0.1) r a.2)
    (record { grown = q.grown; short = q.short; facts = λ Z g. let h = q.facts Z g in record { index = a.0.0; call = refl; named = h.0; few = h.1 } })

interface_grown : (a b : Pool) → Grown a b → (m : MemberName) (i : ℕ) → IsInterfaceName m a i → IsInterfaceName m b i
interface_grown a b g m i h = record { class_at = h.class_at; pair_at = h.pair_at; there = entry_grown a b g i _ h.there; means = member_grown a b g i m h.means }

adds_interface_call : (p count : ℕ) (n : MethodName) → Adding (IsInterfaceCall p count n) (interface_call_of p count n)
unfolding interface_call_of
adds_interface_call p count n pool r s e =
    let a = bind_ok (add_interface_method pool n.class n.name n.descriptor) (λ i. Ok (load sort.Reference p ∷ call_interface i.0 count ∷ [], i.1)) r e in
    let q = interface_method_added n.class n.name n.descriptor pool a.0 s a.1 in
    subst (Puts (IsInterfaceCall p count n) pool) (ok_is (load sort.Reference p ∷ call_interface a.0.0 count ∷ [], a.0.1) r a.2)
    (record {
      grown = q.grown;
      short = q.short;
      facts = λ Z g. record { index = a.0.0; call = refl; named = interface_grown a.0.1 Z g (member n.class n.name n.descriptor) a.0.0 q.means; few = q.few };
    })

adds_accessor : (p : ℕ) (name : Field → MethodName) (f : Option Field) (i : Instr) → Adding (IsAccessorCall p name f i) (accessor_call p name f i)
adds_accessor p name (Some f) i = adds_call p 184 (name f)
adds_accessor p name None i = same_pool (IsKept i) (i ∷ []) (λ Z. refl)

adds_duplicate : (p opcode : ℕ) (n : Option MemberName) (i : Instr) → Adding (IsDuplicateCall p opcode n i) (duplicate_call p opcode n i)
adds_duplicate p opcode (Some n) i = adds_call p opcode (duplicate_named (as_name n))
adds_duplicate p opcode None i = same_pool (IsKept i) (i ∷ []) (λ Z. refl)

adds_interface : (p : ℕ) (n : Option MemberName) (i : Instr) → Adding (IsInterfaceBlock p n i) (interface_call p n i)
adds_interface p (Some n) i = adds_interface_call p (count_of i.operands + 1) (duplicate_named (as_name n))
adds_interface p None i = same_pool (IsKept i) (i ∷ []) (λ Z. refl)

adds_cast : (n : List ℕ) → Adding (IsCast n) (class_cast n)
unfolding class_cast
adds_cast n = go (bytes_eq n object_class)
  where
    go : (b : Bool) → Adding (IsCastIf b n) (λ pool. if b then Ok ([], pool) else (add_class pool n >>= λ i. Ok (check_cast i.0 ∷ [], i.1)))
    go true pool r s e = same_pool (IsCastIf true n) [] (λ Z. refl) pool r s e
    go false pool r s e =
        let a = bind_ok (add_class pool n) (λ i. Ok (check_cast i.0 ∷ [], i.1)) r e in
        let q = adds_class n pool a.0 s a.1 in
        subst (Puts (IsCastTo n) pool) (ok_is (check_cast a.0.0 ∷ [], a.0.1) r a.2)
        (record { grown = q.grown; short = q.short; facts = λ Z g. let h = q.facts Z g in record { index = a.0.0; cast = refl; named = h.0; few = h.2 } })

adds_after : (t : WordType) (u : Option VType) → Adding (IsAfter t u) (after_load t u)
adds_after word.Reference (Some (type.Ref n)) = adds_cast (element_class n)
adds_after word.Reference (Some type.Null) = same_pool (IsAfter word.Reference (Some type.Null)) (plain 87 ∷ plain 1 ∷ []) (λ Z. refl)
adds_after t u = same_pool (λ Z is. is ≡ []) [] (λ Z. refl)

adds_load : (p : ℕ) (t : WordType) (u : Option VType) → Adding (IsElementLoad p t u) (element_load p t u)
unfolding element_load
adds_load p t u pool r s e =
    let a = bind_ok (call_of p 184 (load_named (helped u t)) pool) (λ call. after_load t u call.1 >>= λ after. Ok (call.0 ++ after.0, after.1)) r e in
    let b = bind_ok (after_load t u a.0.1) (λ after. Ok (a.0.0 ++ after.0, after.1)) r a.2 in
    let p0 = adds_call p 184 (load_named (helped u t)) pool a.0 s a.1 in
    let p1 = adds_after t u a.0.1 b.0 p0.short b.1 in
    subst (Puts (IsElementLoad p t u) pool) (ok_is (a.0.0 ++ b.0.0, b.0.1) r b.2)
    (record {
      grown = grown_trans pool a.0.1 b.0.1 p0.grown p1.grown;
      short = p1.short;
      facts = λ Z g. record { call = a.0.0; after = b.0.0; parts = refl; calls = p0.facts Z (grown_trans a.0.1 b.0.1 Z p1.grown g); follows = p1.facts Z g };
    })

pub adds_block : (O : Original) (o : Option Op) (h : Option Types) (i : Instr) → Adding (IsBlock O o h i) (block_of O o h i)
adds_block O (Some (GetStatic f)) h i = adds_accessor O.method.places getter_named (field_at O.program f) i
adds_block O (Some (PutStatic f)) h i = adds_accessor O.method.places setter_named (field_at O.program f) i
adds_block O (Some (GetField f d)) h i = adds_accessor O.method.places getter_named (field_at O.program f) i
adds_block O (Some (PutField f d)) h i = adds_accessor O.method.places setter_named (field_at O.program f) i
adds_block O (Some (LoadElement t)) h i = adds_load O.method.places t (array_under 1 h)
adds_block O (Some (StoreElement t)) h i = adds_call O.method.places 184 (store_named (helped (array_under (1 + word_places t) h) t))
adds_block O (Some (InvokeStatic m)) h i = adds_duplicate O.method.places 184 (called O i) i
adds_block O (Some (InvokeSpecial m)) h i = adds_duplicate O.method.places 183 (called O i) i
adds_block O (Some (InvokeVirtual m d)) h i = adds_duplicate O.method.places 182 (called O i) i
adds_block O (Some (InvokeInterface m c)) h i = adds_interface O.method.places (called O i) i
adds_block O (Some (Load s n)) h i = same_pool (IsBlock O (Some (Load s n)) h i) (load s (moved_to s O.method.places O.method.locals n) ∷ []) (λ Z. refl)
adds_block O (Some (Store s n)) h i = same_pool (IsBlock O (Some (Store s n)) h i) (store s (moved_to s O.method.places O.method.locals n) ∷ []) (λ Z. refl)
adds_block O (Some (Increment n x)) h i = same_pool (IsBlock O (Some (Increment n x)) h i) (increment (moved O.method.places n) x ∷ []) (λ Z. refl)
adds_block O o h i = same_pool (IsKept i) (i ∷ []) (λ Z. refl)

pub adds_numbered : (O : Original) (n : ℕ) (i : Instr) → Adding (IsNumbered O n i) (numbered_block O n i)
adds_numbered O n i pool r s e =
    let o : Option Op = slice_get O.method.ops n in
    let h : Option Types = types_at O.table n in
    let a = bind_ok (block_of O (slice_get O.method.ops n) (types_at O.table n) i pool) (λ is. Ok (block i.pc is.0, is.1)) r e in
    let q = adds_block O (slice_get O.method.ops n) (types_at O.table n) i pool a.0 s a.1 in
    subst (Puts (IsNumbered O n i) pool) (ok_is (block i.pc a.0.0, a.0.1) r a.2)
    (record { grown = q.grown; short = q.short; facts = λ Z g. (refl, q.facts Z g) })
