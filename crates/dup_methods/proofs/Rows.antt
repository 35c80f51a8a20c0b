-- Each row of the table of blocks: the block means what the rewriting says.
use Rattle.std.proofs.Common.{◌≡◌, ℕ, ◌+◌, ◌<◌, Bool, true, false, List, [], ◌∷◌, Option, Some, refl, sym, ap, ◌∙◌, subst}
use Rattle.std.specs.Prelude.{if◌then◌else◌, bytes_eq, option_and_then}
use Rattle.jmodel.specs.declared.instruction.Operands.{Operands}
use Rattle.jmodel.specs.declared.instruction.Operands.TheVariants as operands
use Rattle.jmodel.specs.declared.instruction.Instr.{Instr}
use Rattle.jmodel.specs.declared.name.MethodName.{MethodName}
use Rattle.jmodel.specs.declared.typing.VType.{VType}
use Rattle.jmodel.specs.declared.typing.VType.TheVariants as type
use Rattle.jmodel.specs.declared.value.Value.TheVariants as value
use Rattle.jmodel.specs.format.ClassFile.{ClassFile}
use Rattle.jmodel.specs.format.Pool.{MemberName, member_name}
use Rattle.objects.specs.linking.Taken.{index_of, invoked}
use Rattle.objects.specs.linking.Code.{number_at}
use Rattle.objects.specs.declared.op.Sort.TheVariants as sort
use Rattle.objects.specs.declared.op.WordType.{WordType}
use Rattle.objects.specs.declared.op.WordType.TheVariants as word
use Rattle.objects.specs.declared.op.Op.{Op}
use Rattle.objects.specs.declared.op.Op.TheVariants as op
use Rattle.objects.specs.declared.op.StackOp.TheVariants.{Pop}
use Rattle.objects.specs.semantics.Program.{Field, field_at}
use Rattle.objects.specs.typing.Source.{IsSourceOp}
use Rattle.objects.specs.typing.Typing.{Types}
use Rattle.objects.specs.typing.TypeOrder.{object_class, element_class}
use Rattle.objects.specs.rewriting.Rewriting.{getter, setter, element_getter, word_places, moved, moved_to, after_load, array_under, helped, block_of}
use Rattle.objects.specs.linking.Constructs.{accessed}
use Rattle.objects.specs.linking.Decoding.{Symbols, is_among, static_call_op, special_call_op, virtual_call_op, interface_call_op, op_of}
use Rattle.member_code.specs.Names.{duplicate_named}
use Rattle.member_code.proofs.Grown.{Grown}
use Rattle.member_code.proofs.Single.{Means, AreMeant, meant_append, load_means, store_means, increment_means, call_static_means, call_special_means, call_virtual_means, check_cast_means, named_member}
use Rattle.dup_methods.specs.Originals.{Original}
use Rattle.dup_methods.specs.Names.{getter_named, setter_named, load_named, store_named, as_name}
use Rattle.dup_methods.specs.Duplicates.{called}
use Rattle.dup_methods.specs.DuplicateLaw.{as_member, Ties}
use Rattle.dup_methods.proofs.BlockFacts.{IsCall, IsInterfaceCall, IsKept, IsAccessorCall, IsDuplicateCall, IsInterfaceBlock, IsCastIf, IsAfter, IsElementLoad, IsBlock}
use Rattle.dup_methods.proofs.Apart.{is_jump}
use Rattle.dup_methods.proofs.Invokes.{is_invoke, Invokes, invokes_is, static_is, special_is, virtual_is, interface_is}
use Rattle.dup_methods.proofs.Jumps.{IsWideOp, jump_by, jump_is, jump_means, switch_is, switch_means}
use Rattle.dup_methods.proofs.Kept.{same_means}

-- the wide opcode of operands
pub wide_of : (o : Operands) → IsWideOp o → (w n : ℕ) (a : _) → o ≡ operands.Wide w n a → w < 256
wide_of o h w n a e = subst IsWideOp e h

module _ (O : Original) (Called Accessed : MemberName → Type 0) (s0 s : Symbols) (T : Ties O.program Called Accessed s0 s) (G : Grown s0.class.pool s.class.pool) (class_is : s0.class ≡ O.class) (is0 L : List Instr) (place at : ℕ → ℕ)
    (moves : (t n : ℕ) → number_at is0 t ≡ Some n → number_at L (place t) ≡ Some (at n)) where
  abbrev p : ℕ
  p = O.method.places

  -- ---- calls

  -- a call by invokestatic
  static_meant : (n : MethodName) (o : Op) (js : List Instr) → IsCall O.method.places 184 n s.class.pool js → static_call_op s (as_member n) ≡ Some o → AreMeant s place L js (op.Load sort.Reference O.method.places ∷ o ∷ [])
  static_meant n o js c e = subst (λ (l : List Instr). AreMeant s place L l (op.Load sort.Reference O.method.places ∷ o ∷ [])) (sym c.call)
      (load_means s place L sort.Reference O.method.places, (call_static_means s place L c.index (as_member n) o (named_member s.class.pool c.index (as_member n) c.named) e, tt))

  special_meant : (n : MethodName) (o : Op) (js : List Instr) → IsCall O.method.places 183 n s.class.pool js → special_call_op s (as_member n) ≡ Some o → AreMeant s place L js (op.Load sort.Reference O.method.places ∷ o ∷ [])
  special_meant n o js c e = subst (λ (l : List Instr). AreMeant s place L l (op.Load sort.Reference O.method.places ∷ o ∷ [])) (sym c.call)
      (load_means s place L sort.Reference O.method.places, (call_special_means s place L c.index (as_member n) o (named_member s.class.pool c.index (as_member n) c.named) e, tt))

  virtual_meant : (n : MethodName) (o : Op) (js : List Instr) → IsCall O.method.places 182 n s.class.pool js → virtual_call_op s (as_member n) ≡ Some o → AreMeant s place L js (op.Load sort.Reference O.method.places ∷ o ∷ [])
  virtual_meant n o js c e = subst (λ (l : List Instr). AreMeant s place L l (op.Load sort.Reference O.method.places ∷ o ∷ [])) (sym c.call)
      (load_means s place L sort.Reference O.method.places, (call_virtual_means s place L c.index (as_member n) o (named_member s.class.pool c.index (as_member n) c.named) e, tt))

  interface_meant : (count : ℕ) (n : MethodName) (o : Op) (js : List Instr) → IsInterfaceCall O.method.places count n s.class.pool js → interface_call_op s (as_member n) ≡ Some o → AreMeant s place L js (op.Load sort.Reference O.method.places ∷ o ∷ [])
  interface_meant count n o js c e = subst (λ (l : List Instr). AreMeant s place L l (op.Load sort.Reference O.method.places ∷ o ∷ [])) (sym c.call)
      (load_means s place L sort.Reference O.method.places, ((λ a. let named = c.named.means in rw named e), tt))

  -- ---- fields

  getter_meant : (f : ℕ) (d : Field) (i : Instr) (js : List Instr) → field_at O.program f ≡ Some d → IsAccessorCall O.method.places getter_named (field_at O.program f) i s.class.pool js
      → AreMeant s place L js (op.Load sort.Reference O.method.places ∷ op.InvokeStatic (getter O.program f) ∷ [])
  getter_meant f d i js there c = static_meant (getter_named d) _ js (subst (λ (x : Option Field). IsAccessorCall O.method.places getter_named x i s.class.pool js) there c) (T.getters f d there)

  setter_meant : (f : ℕ) (d : Field) (i : Instr) (js : List Instr) → field_at O.program f ≡ Some d → IsAccessorCall O.method.places setter_named (field_at O.program f) i s.class.pool js
      → AreMeant s place L js (op.Load sort.Reference O.method.places ∷ op.InvokeStatic (setter O.program f) ∷ [])
  setter_meant f d i js there c = static_meant (setter_named d) _ js (subst (λ (x : Option Field). IsAccessorCall O.method.places setter_named x i s.class.pool js) there c) (T.setters f d there)

  -- ---- elements

  cast_meant : (b : Bool) (n : List ℕ) (js : List Instr) → IsCastIf b n s.class.pool js → AreMeant s place L js (if b then [] else op.CheckCast n ∷ [])
  cast_meant true n js c = subst (λ (l : List Instr). AreMeant s place L l []) (sym c) tt
  cast_meant false n js c = subst (λ (l : List Instr). AreMeant s place L l (op.CheckCast n ∷ [])) (sym c.cast) (check_cast_means s place L c.index n c.named, tt)

  after_meant : (t : WordType) (u : Option VType) (js : List Instr) → IsAfter t u s.class.pool js → AreMeant s place L js (after_load t u)
  after_meant word.Reference (Some (type.Ref n)) js c = cast_meant (bytes_eq (element_class n) object_class) (element_class n) js c
  after_meant word.Reference (Some type.Null) js c = subst (λ (l : List Instr). AreMeant s place L l (op.Stack Pop ∷ op.Constant (value.Ref 0) ∷ [])) (sym c) ((λ a. refl), ((λ a. refl), tt))
  after_meant t u js c = subst (λ (l : List Instr). AreMeant s place L l []) (sym c) tt

  load_meant : (t : WordType) (u : Option VType) (js : List Instr) → IsElementLoad O.method.places t u s.class.pool js → AreMeant s place L js (op.Load sort.Reference O.method.places ∷ op.InvokeStatic (element_getter O.program (helped u t)) ∷ after_load t u)
  load_meant t u js c = subst (λ (l : List Instr). AreMeant s place L l (op.Load sort.Reference O.method.places ∷ op.InvokeStatic (element_getter O.program (helped u t)) ∷ after_load t u)) (sym c.parts)
      (meant_append s place L c.call c.after (op.Load sort.Reference O.method.places ∷ op.InvokeStatic (element_getter O.program (helped u t)) ∷ []) (after_load t u)
      (static_meant (load_named (helped u t)) _ c.call c.calls (T.loads (helped u t))) (after_meant t u c.after c.follows))

  -- ---- what stays

  alone_meant : (o : Op) (i : Instr) (js : List Instr) → Means s place L o i → IsKept i s.class.pool js → AreMeant s place L js (o ∷ [])
  alone_meant o i js m c = subst (λ (l : List Instr). AreMeant s place L l (o ∷ [])) (sym c) (m, tt)

  module _ (i : Instr) (less : i.op < 256) (wide : IsWideOp i.operands) (calls : (n : MemberName) → invoked O.class.pool i ≡ Some n → Called n) (reads : (n : MemberName) → accessed O.class.pool i ≡ Some n → Accessed n) where
    -- the method that an invoke names, as the original's class has it
    named_in : (n : MemberName) → option_and_then (member_name s0.class.pool) (index_of i.operands) ≡ Some n → called O i ≡ Some n
    named_in n e = ap (λ (c : ClassFile). option_and_then (member_name c.pool) (index_of i.operands)) (sym class_is) ∙ e

    called_in : (n : MemberName) → is_among 182 185 i.op ≡ true → option_and_then (member_name s0.class.pool) (index_of i.operands) ≡ Some n → Called n
    called_in n a e = calls n (rw a (named_in n e))

    reads_in : (n : MemberName) → accessed s0.class.pool i ≡ Some n → Accessed n
    reads_in n e = reads n (ap (λ (c : ClassFile). accessed c.pool i) (sym class_is) ∙ e)

    invoke : (o : Op) → is_invoke o ≡ true → op_of s0 is0 i ≡ Some o → Invokes s0 i.op i.operands o
    invoke o t e = invokes_is s0 is0 i.op i.operands o less t e (wide_of i.operands wide)

    jump_meant : (o : Op) (js : List Instr) → is_jump o ≡ true → op_of s0 is0 i ≡ Some o → IsKept i s.class.pool js → AreMeant s place L js (jump_by at o ∷ [])
    jump_meant o js t e c =
        let j = jump_is s0 is0 i.op i.operands o less wide t e in
        alone_meant (jump_by at o) i js (jump_means s is0 L place at i o j (moves j.target j.number j.leads)) c

    -- the block of an instruction
    pub block_meant : (o : Op) (h : Option Types) (js : List Instr) → op_of s0 is0 i ≡ Some o → IsSourceOp O.program O.method o → IsBlock O (Some o) h i s.class.pool js → AreMeant s place L js (block_of O.program O.method.places O.method.locals at h o)
    block_meant (op.GetStatic f) h js e r c = getter_meant f r.1.field i js r.1.there c
    block_meant (op.PutStatic f) h js e r c = setter_meant f r.1.field i js r.1.there c
    block_meant (op.GetField f d) h js e r c = getter_meant f r.field i js r.there c
    block_meant (op.PutField f d) h js e r c = setter_meant f r.field i js r.there c
    block_meant (op.LoadElement t) h js e r c = load_meant t (array_under 1 h) js c
    block_meant (op.StoreElement t) h js e r c = static_meant (store_named (helped (array_under (1 + word_places t) h) t)) _ js c (T.stores (helped (array_under (1 + word_places t) h) t))
    block_meant (op.InvokeStatic m) h js e r c =
        let v = invoke (op.InvokeStatic m) refl e in
        static_meant (duplicate_named (as_name v.name)) _ js (subst (λ (x : Option MemberName). IsDuplicateCall O.method.places 184 x i s.class.pool js) (named_in v.name v.there) c) (T.statics v.name m (called_in v.name v.calls v.there) (static_is s0 i.op v.name (op.InvokeStatic m) refl v.means))
    block_meant (op.InvokeSpecial m) h js e r c =
        let v = invoke (op.InvokeSpecial m) refl e in
        special_meant (duplicate_named (as_name v.name)) _ js (subst (λ (x : Option MemberName). IsDuplicateCall O.method.places 183 x i s.class.pool js) (named_in v.name v.there) c) (T.specials v.name m (called_in v.name v.calls v.there) (special_is s0 i.op v.name (op.InvokeSpecial m) refl v.means))
    block_meant (op.InvokeVirtual m d) h js e r c =
        let v = invoke (op.InvokeVirtual m d) refl e in
        virtual_meant (duplicate_named (as_name v.name)) _ js (subst (λ (x : Option MemberName). IsDuplicateCall O.method.places 182 x i s.class.pool js) (named_in v.name v.there) c) (T.virtuals v.name m d (called_in v.name v.calls v.there) (virtual_is s0 i.op v.name (op.InvokeVirtual m d) refl v.means))
    block_meant (op.InvokeInterface m d) h js e r c =
        let v = invoke (op.InvokeInterface m d) refl e in
        interface_meant _ (duplicate_named (as_name v.name)) _ js (subst (λ (x : Option MemberName). IsInterfaceBlock O.method.places x i s.class.pool js) (named_in v.name v.there) c) (T.interfaces v.name m d (called_in v.name v.calls v.there) (interface_is s0 i.op v.name (op.InvokeInterface m d) refl v.means))
    block_meant (op.Load q n) h js e r c = subst (λ (l : List Instr). AreMeant s place L l (op.Load q (moved_to q O.method.places O.method.locals n) ∷ [])) (sym c) (load_means s place L q (moved_to q O.method.places O.method.locals n), tt)
    block_meant (op.Store q n) h js e r c = subst (λ (l : List Instr). AreMeant s place L l (op.Store q (moved_to q O.method.places O.method.locals n) ∷ [])) (sym c) (store_means s place L q (moved_to q O.method.places O.method.locals n), tt)
    block_meant (op.Increment n x) h js e r c = subst (λ (l : List Instr). AreMeant s place L l (op.Increment (moved O.method.places n) x ∷ [])) (sym c) (increment_means s place L (moved O.method.places n) x, tt)
    block_meant (op.Branch t to) h js e r c = jump_meant (op.Branch t to) js refl e c
    block_meant (op.BranchInts t to) h js e r c = jump_meant (op.BranchInts t to) js refl e c
    block_meant (op.BranchNull b to) h js e r c = jump_meant (op.BranchNull b to) js refl e c
    block_meant (op.BranchReferences b to) h js e r c = jump_meant (op.BranchReferences b to) js refl e c
    block_meant (op.Goto to) h js e r c = jump_meant (op.Goto to) js refl e c
    block_meant (op.Switch other cases) h js e r c = alone_meant _ i js (switch_means is0 L place at moves s i other cases (switch_is s0 is0 i.op i.operands other cases less wide e)) c
    block_meant o h js e r c = alone_meant o i js (same_means O.program Called Accessed s0 s T G is0 L place i o reads_in refl e) c
