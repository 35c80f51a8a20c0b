-- The blocks of a duplicate can be laid.
use Rattle.std.proofs.Common.{◌≡◌, ℕ, zero, suc, ◌+◌, ◌<◌, ◌≤◌, Bool, true, false, List, [], ◌∷◌, ◌++◌, length, Option, Some, None, Ok, refl, sym, ap, subst, arith, ◌⊎◌, inl, inr}
use Rattle.std.specs.Prelude.{bytes_eq, slice_get}
use Rattle.std.specs.List.{AllByRecursion}
use Rattle.jmodel.specs.declared.class_file.Handler.{Handler}
use Rattle.jmodel.specs.declared.instruction.Instr.{Instr}
use Rattle.jmodel.specs.declared.typing.VType.{VType}
use Rattle.jmodel.specs.declared.typing.VType.TheVariants as type
use Rattle.jmodel.specs.format.ClassFile.{Pool}
use Rattle.jmodel.specs.format.Pool.{MemberName, method_name}
use Rattle.jmodel.specs.format.PoolAdding.{add_class}
use Rattle.jmodel.specs.format.Instruction.{targets_of, AreStarts, SpellsInstrs}
use Rattle.jmodel.specs.format.Reading.{◌>>=◌}
use Rattle.objects.specs.linking.Code.{Coded}
use Rattle.jmodel.specs.format.Relocation.{Block, IsShaped, EachInstr, ArePcs, AreBlocks}
use Rattle.bytecode.specs.Relocated.{StandFor}
use Rattle.bytecode.proofs.OriginLaws.{origin_is}
use Rattle.objects.specs.declared.op.Sort.TheVariants as sort
use Rattle.objects.specs.declared.op.WordType.{WordType}
use Rattle.objects.specs.declared.op.WordType.TheVariants as word
use Rattle.objects.specs.declared.op.Op.{Op}
use Rattle.objects.specs.declared.op.Op.TheVariants.{Load, Store, Increment, GetStatic, PutStatic, GetField, PutField, InvokeStatic, InvokeSpecial, InvokeVirtual, InvokeInterface, LoadElement, StoreElement}
use Rattle.objects.specs.semantics.Program.{field_at}
use Rattle.objects.specs.typing.Typing.{Types, types_at}
use Rattle.objects.specs.typing.TypeOrder.{conflict_class, object_class, element_class}
use Rattle.objects.specs.rewriting.Rewriting.{array_under, moved, moved_to}
use Rattle.const_pool.proofs.Takes.{bind_ok, ok_is}
use Rattle.member_code.specs.Growing.{grow_from}
use Rattle.member_code.specs.Instrs.{plain, naming, load, store, increment, check_cast}
use Rattle.member_code.proofs.Single.{IsLaid, plain_laid, load_laid, store_laid, increment_laid, call_static_laid, call_virtual_laid, call_special_laid, check_cast_laid}
use Rattle.member_code.proofs.Grown.{grown_refl}
use Rattle.member_code.proofs.Puts.{AllPut, adds_all}
use Rattle.dup_methods.specs.Originals.{Original}
use Rattle.dup_methods.specs.Limits.{FitsOp, FitsCount, count_of}
use Rattle.member_code.specs.Coding.{added_method}
use Rattle.dup_methods.specs.Duplicates.{called, stub, numbered_block, refs_of, texts_of, duplicate_bytes, duplicate_flags, made_duplicate}
use Rattle.dup_methods.proofs.BlockFacts.{IsCall, IsInterfaceCall, IsKept, IsAccessorCall, IsDuplicateCall, IsInterfaceBlock, IsCastIf, IsAfter, IsElementLoad, IsBlock, IsNumbered, adds_numbered}

-- an instruction that is laid somewhere, and leads nowhere
pub record IsFree (i : Instr) : Type 0 where
  pub shaped : IsShaped i
  pub nowhere : targets_of i.operands ≡ []

laid_free : (Z : Pool) (i : Instr) → IsLaid Z i → IsFree i
laid_free Z i h = record { shaped = h.shaped; nowhere = h.nowhere }

-- a free instruction, or the one that the block stands for
abbrev pub IsFor : Instr → Instr → Type 0
IsFor i j = IsFree j ⊎ (j ≡ i)

abbrev AreFor : Instr → List Instr → Type 0
AreFor i is = AllByRecursion (IsFor i) is

for_append : (i : Instr) (is js : List Instr) → AreFor i is → AreFor i js → AreFor i (is ++ js)
for_append i [] js h k = k
for_append i (x ∷ is) js h k = (h.0, for_append i is js h.1 k)

for_kept : (i : Instr) (Z : Pool) (is : List Instr) → IsKept i Z is → AreFor i is
for_kept i Z is e = subst (AreFor i) (sym e) (inr refl, tt)

-- which opcodes call
abbrev pub Calls : ℕ → Type 0
Calls opcode = (Z : Pool) (index : ℕ) (m : MemberName) → index < 65535 → method_name Z index ≡ Some m → IsLaid Z (naming opcode index)

module _ (p : ℕ) (few : p ≤ 254) (i : Instr) (Z : Pool) where
  context_free : IsFree (load sort.Reference p)
  context_free = laid_free [] (load sort.Reference p) (load_laid [] sort.Reference p (omega (arith, few)))

  for_call : (opcode : ℕ) → Calls opcode → (n : _) (is : List Instr) → IsCall p opcode n Z is → AreFor i is
  for_call opcode laid n is c = subst (AreFor i) (sym c.call) (inl context_free, (inl (laid_free Z (naming opcode c.index) (laid Z c.index _ c.few c.named)), tt))

  for_interface_call : (count : ℕ) → count < 256 → (n : _) (is : List Instr) → IsInterfaceCall p count n Z is → AreFor i is
  for_interface_call count small n is c =
      subst (AreFor i) (sym c.call) (inl context_free, (inl (record { shaped = record { op = omega arith; operands = (omega (arith, c.few), omega (arith, small)) }; nowhere = refl }), tt))

  for_accessor : (name : _) (f : Option _) (is : List Instr) → IsAccessorCall p name f i Z is → AreFor i is
  for_accessor name (Some f) is c = for_call 184 (λ Z x m. call_static_laid Z x m) (name f) is c
  for_accessor name None is c = for_kept i Z is c

  for_duplicate : (opcode : ℕ) → Calls opcode → (n : Option MemberName) (is : List Instr) → IsDuplicateCall p opcode n i Z is → AreFor i is
  for_duplicate opcode laid (Some n) is c = for_call opcode laid _ is c
  for_duplicate opcode laid None is c = for_kept i Z is c

  for_interface : FitsCount i → (n : Option MemberName) (is : List Instr) → IsInterfaceBlock p n i Z is → AreFor i is
  for_interface small (Some n) is c = for_interface_call (count_of i.operands + 1) (omega (arith, small)) _ is c
  for_interface small None is c = for_kept i Z is c

  for_cast : (b : Bool) (n : List ℕ) (is : List Instr) → IsCastIf b n Z is → AreFor i is
  for_cast true n is c = subst (AreFor i) (sym c) tt
  for_cast false n is c = subst (AreFor i) (sym c.cast) (inl (laid_free Z (check_cast c.index) (check_cast_laid Z c.index n c.few c.named)), tt)

  for_after : (t : WordType) (u : Option VType) (is : List Instr) → IsAfter t u Z is → AreFor i is
  for_after word.Reference (Some (type.Ref n)) is c = for_cast (bytes_eq (element_class n) object_class) (element_class n) is c
  for_after word.Reference (Some type.Null) is c = subst (AreFor i) (sym c) (inl (laid_free [] (plain 87) (plain_laid [] 87 (omega arith) tt tt)), (inl (laid_free [] (plain 1) (plain_laid [] 1 (omega arith) tt tt)), tt))
  for_after t u is c = subst (AreFor i) (sym c) tt

  for_load : (t : WordType) (u : Option VType) (is : List Instr) → IsElementLoad p t u Z is → AreFor i is
  for_load t u is c = subst (AreFor i) (sym c.parts) (for_append i c.call c.after (for_call 184 (λ Z x m. call_static_laid Z x m) _ c.call c.calls) (for_after t u c.after c.follows))

module _ (O : Original) (few : O.method.places ≤ 254) where
  -- each instruction of a block is free, or the one that it stands for
  pub for_block : (o : Op) (h : Option Types) (i : Instr) (Z : Pool) (is : List Instr) → FitsOp O.method o → FitsCount i → IsBlock O (Some o) h i Z is → AreFor i is
  for_block (GetStatic f) h i Z is s k c = for_accessor O.method.places few i Z _ (field_at O.program f) is c
  for_block (PutStatic f) h i Z is s k c = for_accessor O.method.places few i Z _ (field_at O.program f) is c
  for_block (GetField f d) h i Z is s k c = for_accessor O.method.places few i Z _ (field_at O.program f) is c
  for_block (PutField f d) h i Z is s k c = for_accessor O.method.places few i Z _ (field_at O.program f) is c
  for_block (LoadElement t) h i Z is s k c = for_load O.method.places few i Z t (array_under 1 h) is c
  for_block (StoreElement t) h i Z is s k c = for_call O.method.places few i Z 184 (λ Z x m. call_static_laid Z x m) _ is c
  for_block (InvokeStatic m) h i Z is s k c = for_duplicate O.method.places few i Z 184 (λ Z x m. call_static_laid Z x m) (called O i) is c
  for_block (InvokeSpecial m) h i Z is s k c = for_duplicate O.method.places few i Z 183 (λ Z x m. call_special_laid Z x m) (called O i) is c
  for_block (InvokeVirtual m d) h i Z is s k c = for_duplicate O.method.places few i Z 182 (λ Z x m. call_virtual_laid Z x m) (called O i) is c
  for_block (InvokeInterface m d) h i Z is s k c = for_interface O.method.places few i Z k (called O i) is c
  for_block (Load q n) h i Z is s k c = subst (AreFor i) (sym c) (inl (laid_free [] (load q (moved_to q O.method.places O.method.locals n)) (load_laid [] q (moved_to q O.method.places O.method.locals n) s.0)), tt)
  for_block (Store q n) h i Z is s k c = subst (AreFor i) (sym c) (inl (laid_free [] (store q (moved_to q O.method.places O.method.locals n)) (store_laid [] q (moved_to q O.method.places O.method.locals n) s.0)), tt)
  for_block (Increment n x) h i Z is s k c = subst (AreFor i) (sym c) (inl (laid_free [] (increment (moved O.method.places n) x) (increment_laid [] (moved O.method.places n) x s.0 s.1)), tt)
  for_block o h i Z is s k c = for_kept i Z is c

  for_option : (o : Option Op) (h : Option Types) (i : Instr) (Z : Pool) (is : List Instr) → ((x : Op) → o ≡ Some x → FitsOp O.method x) → FitsCount i → IsBlock O o h i Z is → AreFor i is
  for_option None h i Z is s k c = for_kept i Z is c
  for_option (Some o) h i Z is s k c = for_block o h i Z is (s o refl) k c

-- ---- all blocks

-- an instruction that leads to blocks of the code
abbrev CanStand : List Block → Instr → Type 0
CanStand bs i = IsShaped i × ArePcs bs (targets_of i.operands)

for_stands : (bs : List Block) (i : Instr) (is : List Instr) → CanStand bs i → AreFor i is → AllByRecursion (CanStand bs) is
for_stands bs i [] h k = tt
for_stands bs i (j ∷ is) h k = (one k.0, for_stands bs i is h k.1)
  where
    one : IsFor i j → CanStand bs j
    one (inl f) = (f.shaped, subst (ArePcs bs) (sym f.nowhere) tt)
    one (inr e) = subst (CanStand bs) (sym e) h

all_at : {A : Type 0} (Q : A → Type 0) (xs : List A) (i : ℕ) (x : A) → AllByRecursion Q xs → slice_get xs i ≡ Some x → Q x
all_at Q [] i x h e = absurd cc
all_at {A} Q (a ∷ xs) zero x h e = let s : a ≡ x = cc in subst Q s h.0
all_at Q (a ∷ xs) (suc i) x h e = all_at Q xs i x h.1 e

module _ (O : Original) (few : O.method.places ≤ 254) (fits : AllByRecursion (FitsOp O.method) O.method.ops) (Z : Pool) where
  pub stand_for : (n : ℕ) (is : List Instr) (bs : List Block) → AllPut (IsNumbered O) n is Z bs → StandFor bs is
  stand_for n [] [] h = tt
  stand_for n [] (b ∷ bs) h = absurd h
  stand_for n (i ∷ is) [] h = absurd h
  stand_for n (i ∷ is) (b ∷ bs) h = (h.0.0, stand_for (n + 1) is bs h.1)

  pub each_for : (n : ℕ) (is : List Instr) (bs : List Block) → AllByRecursion FitsCount is → AllPut (IsNumbered O) n is Z bs → (all : List Block) → AllByRecursion (CanStand all) is → EachInstr (CanStand all) bs
  each_for n [] [] k h all s = tt
  each_for n [] (b ∷ bs) k h all s = absurd h
  each_for n (i ∷ is) [] k h all s = absurd h
  each_for n (i ∷ is) (b ∷ bs) k h all s = (
    for_stands all i b.instrs s.0 (for_option O few (slice_get O.method.ops n) (types_at O.table n) i Z b.instrs (λ x e. all_at (FitsOp O.method) O.method.ops n x fits e) k.0 h.0.1),
    each_for (n + 1) is bs k.1 h.1 all s.1,
  )

all_stand : (bs : List Block) (is : List Instr) → AllByRecursion IsShaped is → AllByRecursion (λ (i : Instr). ArePcs bs (targets_of i.operands)) is → AllByRecursion (CanStand bs) is
all_stand bs [] h k = tt
all_stand bs (i ∷ is) h k = ((h.0, k.0), all_stand bs is h.1 k.1)

pcs_of : (bs : List Block) (all is : List Instr) → ((ns : List ℕ) → AreStarts all ns → ArePcs bs ns) → AllByRecursion (λ (i : Instr). AreStarts all (targets_of i.operands)) is → AllByRecursion (λ (i : Instr). ArePcs bs (targets_of i.operands)) is
pcs_of bs all [] f h = tt
pcs_of bs all (i ∷ is) f h = (f (targets_of i.operands) h.0, pcs_of bs all is f h.1)

parted : (P Q : Instr → Type 0) (bs : List Block) → EachInstr (λ i. P i × Q i) bs → EachInstr P bs × EachInstr Q bs
parted P Q [] h = (tt, tt)
parted P Q (b ∷ bs) h = let r = parted P Q bs h.1 in let t = each_parted b.instrs h.0 in ((t.0, r.0), (t.1, r.1))
  where
    each_parted : (is : List Instr) → AllByRecursion (λ i. P i × Q i) is → AllByRecursion P is × AllByRecursion Q is
    each_parted [] h = (tt, tt)
    each_parted (i ∷ is) h = let r = each_parted is h.1 in ((h.0.0, r.0), (h.0.1, r.1))

-- what was put for all instructions
abbrev pub ArePut : Original → List Instr → Pool → List Block → Type 0
ArePut O is Z bs = AllPut (IsNumbered O) 0 is Z bs

-- they can be laid, as far as they rest on the code
pub blocks_laid : (O : Original) → O.method.places ≤ 254 → AllByRecursion (FitsOp O.method) O.method.ops → (hs : List Handler) → length hs ≤ 65534 → (code : List ℕ) (is : List Instr) → AllByRecursion FitsCount is
    → SpellsInstrs O.class.pool hs code is → (Z : Pool) (bs : List Block) → ArePut O is Z bs → (conflict : ℕ) → AreBlocks bs hs (Some conflict) stub
blocks_laid O few fits hs room code is counts spelled Z bs put conflict =
    let o = origin_is O.class.pool hs code is bs spelled (stand_for O few fits Z 0 is bs put) in
    let stands = all_stand bs is o.each (pcs_of bs is is o.pcs spelled.instrs.targets) in
    let both = parted IsShaped (λ (i : Instr). ArePcs bs (targets_of i.operands)) bs (each_for O few fits Z 0 is bs counts put bs stands) in
    record {
      ascend = o.ascend;
      each = both.0;
      targets = both.1;
      each_last = (record { op = omega arith; operands = tt }, tt);
      last_leads_nowhere = (refl, tt);
      entries = o.entries;
      room = omega (arith, room);
    }

-- what the code of a duplicate names
pub refs_put : (O : Original) (is : List Instr) (pool : Pool) (r : (List Block × ℕ) × Pool) → length pool < 65535 → refs_of O is pool ≡ Ok r → (Z : Pool) × ArePut O is Z r.0.0
unfolding refs_of
refs_put O is pool r short e =
    let a = bind_ok (grow_from (numbered_block O) 0 is pool) (λ blocks. add_class blocks.1 conflict_class >>= λ conflict. Ok ((blocks.0, conflict.0), conflict.1)) r e in
    let b = bind_ok (add_class a.0.1 conflict_class) (λ conflict. Ok ((a.0.0, conflict.0), conflict.1)) r a.2 in
    let q = adds_all (IsNumbered O) (numbered_block O) (adds_numbered O) 0 is pool a.0 short a.1 in
    let same : a.0.0 ≡ r.0.0 = ap (λ (x : (List Block × ℕ) × Pool). x.0.0) (ok_is ((a.0.0, b.0.0), b.0.1) r b.2) in
    (a.0.1, subst (ArePut O is a.0.1) same (q.facts a.0.1 (grown_refl a.0.1)))

-- the blocks of a duplicate can be laid
pub refs_laid : (O : Original) (k : Coded) (pool next : Pool) (blocks : List Block) (conflict : ℕ) → length pool < 65535 → O.method.places ≤ 254 → AllByRecursion (FitsOp O.method) O.method.ops → length k.code.handlers ≤ 65534 → AllByRecursion FitsCount k.instrs
    → SpellsInstrs O.class.pool k.code.handlers k.code.code k.instrs → refs_of O k.instrs pool ≡ Ok ((blocks, conflict), next) → AreBlocks blocks k.code.handlers (Some conflict) stub
refs_laid O k pool next blocks conflict short few fits room counts spelled e =
    let put = refs_put O k.instrs pool ((blocks, conflict), next) short e in
    blocks_laid O few fits k.code.handlers room k.code.code k.instrs counts spelled put.0 blocks put.1 conflict

-- ---- its parts together

pub made_is : (O : Original) (k : Coded) (pool first next : Pool) (blocks : List Block) (conflict : ℕ) (named : ℕ × ℕ) (text : ℕ) (bytes : List ℕ) → refs_of O k.instrs pool ≡ Ok ((blocks, conflict), first)
    → texts_of O.method first ≡ Ok ((named, text), next) → duplicate_bytes O.method k.code blocks conflict ≡ Ok bytes
    → made_duplicate O k pool ≡ Ok (added_method (duplicate_flags O.member.flags) named.0 named.1 text bytes, next)
unfolding made_duplicate
made_is O k pool first next blocks conflict named text bytes a b d = rw a (rw b (rw d refl))
