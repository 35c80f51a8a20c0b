-- The instructions of a duplicate fit the pool of its class.
use Rattle.std.proofs.Common.{◌≡◌, ℕ, suc, ◌+◌, ◌<◌, ◌≤◌, Bool, true, false, List, [], ◌∷◌, ◌++◌, Option, Some, None, refl, sym, ap, ◌∙◌, subst, arith}
use Rattle.std.specs.Prelude.{bytes_eq, option_map, option_and_then, if◌then◌else◌}
use Rattle.std.specs.List.{AllByRecursion}
use Rattle.jmodel.specs.declared.class_file.Constant.{Constant}
use Rattle.jmodel.specs.declared.class_file.Constant.TheVariants as constants
use Rattle.jmodel.specs.declared.instruction.EntryKind.{EntryKind}
use Rattle.jmodel.specs.declared.instruction.EntryKind.TheVariants as kind
use Rattle.jmodel.specs.declared.instruction.Form.{Form}
use Rattle.jmodel.specs.declared.instruction.Form.TheVariants as form
use Rattle.jmodel.specs.declared.instruction.Operands.{Operands}
use Rattle.jmodel.specs.declared.instruction.Operands.TheVariants as operands
use Rattle.jmodel.specs.declared.instruction.Instr.{Instr}
use Rattle.jmodel.specs.declared.name.MethodName.{MethodName}
use Rattle.jmodel.specs.declared.typing.VType.{VType}
use Rattle.jmodel.specs.declared.typing.VType.TheVariants as type
use Rattle.jmodel.specs.format.ClassFile.{Pool}
use Rattle.jmodel.specs.format.Pool.{MemberName, entry, member_name}
use Rattle.objects.specs.linking.Taken.{index_of}
use Rattle.jmodel.specs.format.Descriptor.{Signature, places_of}
use Rattle.jmodel.specs.format.DescriptorReading.{signature_of}
use Rattle.jmodel.specs.format.Instruction.{form_of, is_kind_in, is_entry, places_in, argument_places, Names, Counts, FitPoolAs, IsInstrOver}
use Rattle.bytecode.specs.Relocated.{Fits}
use Rattle.objects.specs.declared.op.Sort.TheVariants as sort
use Rattle.objects.specs.declared.op.WordType.{WordType}
use Rattle.objects.specs.declared.op.WordType.TheVariants as word
use Rattle.objects.specs.declared.op.Op.{Op}
use Rattle.objects.specs.declared.op.Op.TheVariants as op
use Rattle.objects.specs.semantics.Program.{Field, field_at}
use Rattle.objects.specs.typing.Typing.{Types}
use Rattle.objects.specs.typing.TypeOrder.{object_class, element_class}
use Rattle.objects.specs.rewriting.Rewriting.{array_under, moved, moved_to, with_context}
use Rattle.objects.specs.linking.Decoding.{Symbols, op_of}
use Rattle.member_code.specs.Names.{duplicate_named}
use Rattle.member_code.specs.Instrs.{load, call_interface}
use Rattle.member_code.proofs.Single.{plain_laid, load_laid, store_laid, increment_laid, call_static_laid, call_virtual_laid, call_special_laid, check_cast_laid}
use Rattle.member_code.proofs.Grown.{Grown, entry_grown, member_grown}
use Rattle.dup_methods.specs.Originals.{Original}
use Rattle.dup_methods.specs.Names.{as_name}
use Rattle.dup_methods.specs.Limits.{FitsOp, FitsCount, count_of}
use Rattle.dup_methods.specs.Duplicates.{called}
use Rattle.dup_methods.proofs.BlockFacts.{IsCall, IsInterfaceCall, IsKept, IsAccessorCall, IsDuplicateCall, IsInterfaceBlock, IsCastIf, IsAfter, IsElementLoad, IsBlock}
use Rattle.dup_methods.proofs.Invokes.{invokes_is, interface_opcode}
use Rattle.dup_methods.proofs.Rows.{wide_of}
use Rattle.dup_methods.proofs.RowsProof.{wide_small}
use Rattle.dup_methods.proofs.Stands.{Calls}
use Rattle.dup_methods.proofs.Widened.{wider, one_more, widened}

-- ---- over a pool that has grown

module _ (a b : Pool) (g : Grown a b) where
  kind_grown : (k : EntryKind) (i : ℕ) → is_entry a k i ≡ true → is_entry b k i ≡ true
  kind_grown k i h = go (entry a i) (entry b i) (entry_grown a b g i) h
    where
      go : (o p : Option Constant) → ((c : Constant) → o ≡ Some c → p ≡ Some c) → is_kind_in k o ≡ true → is_kind_in k p ≡ true
      go None p same h = cc
      go (Some c) p same h = let e = same c refl in rw e h

  names_grown : (k : EntryKind) (o : Operands) → Names a k o → Names b k o
  names_grown k (operands.Pool i) h = kind_grown k i h
  names_grown k (operands.Dimensions i count) h = kind_grown k i h
  names_grown k o h = absurd h

  counts_grown : (o : Operands) → Counts a o → Counts b o
  counts_grown (operands.Interface i count) h = go (is_entry a kind.InterfaceMethod i) refl (member_name a i) refl h
    where
      go : (t : Bool) → is_entry a kind.InterfaceMethod i ≡ t → (m : Option MemberName) → member_name a i ≡ m → (if t then option_and_then places_in m else None) ≡ Some count → argument_places b i ≡ Some count
      go true p (Some n) q e = let there = kind_grown kind.InterfaceMethod i p in let named = member_grown a b g i n q in rw (there, named) e
      go true p None q e = cc
      go false p m q e = cc
  counts_grown o h = absurd h

  fits_grown : (f : Option Form) (o : Operands) → FitPoolAs a f o → FitPoolAs b f o
  fits_grown None o h = absurd h
  fits_grown (Some (form.ShortEntry k)) o h = names_grown k o h
  fits_grown (Some (form.Entry k)) o h = names_grown k o h
  fits_grown (Some form.Interface) o h = counts_grown o h
  fits_grown (Some form.Dimensions) o h = names_grown kind.Class o h
  fits_grown (Some f) o h = tt

-- ---- calls of methods of interfaces

-- how many places an invokeinterface counts, by the descriptor of what it names
record IsCount (count : ℕ) (d : List ℕ) : Type 0 where
  signature : Signature
  is : signature_of d ≡ Some signature
  places : suc (places_of signature.parameters) ≡ count

-- what the count of an invokeinterface says of what it names
count_is : (pool : Pool) (i count : ℕ) (n : MemberName) → argument_places pool i ≡ Some count → member_name pool i ≡ Some n → IsCount count n.descriptor
count_is pool i count n h e = go (is_entry pool kind.InterfaceMethod i) (h' (is_entry pool kind.InterfaceMethod i) h)
  where
    h' : (t : Bool) → (if t then option_and_then places_in (member_name pool i) else None) ≡ Some count → (if t then option_and_then places_in (Some n) else None) ≡ Some count
    h' t h = ap (λ (m : Option MemberName). if t then option_and_then places_in m else None) (sym e) ∙ h

    of : (o : Option Signature) → signature_of n.descriptor ≡ o → option_map (λ (g : Signature). suc (places_of g.parameters)) o ≡ Some count → IsCount count n.descriptor
    of None q h = cc
    of (Some g) q h = record { signature = g; is = q; places = cc }

    go : (t : Bool) → (if t then option_and_then places_in (Some n) else None) ≡ Some count → IsCount count n.descriptor
    go true h = of (signature_of n.descriptor) refl h
    go false h = cc

-- the call of a duplicate counts one more
count_more : (Z : Pool) (i class_at pair_at count : ℕ) (n : MemberName) → count < 255 → IsCount count n.descriptor → entry Z i ≡ Some (constants.InterfaceMethod class_at pair_at)
    → (m : MemberName) → m.descriptor ≡ with_context n.descriptor → member_name Z i ≡ Some m → argument_places Z i ≡ Some (count + 1)
count_more Z i class_at pair_at count n small c there m typed named =
    let g = c.signature in
    let few : places_of c.signature.parameters ≤ 254 = omega (arith, c.places, small) in
    let signed : signature_of m.descriptor ≡ Some (wider c.signature) = ap signature_of typed ∙ widened n.descriptor c.signature c.is few in
    let kind : is_entry Z kind.InterfaceMethod i ≡ true = rw there refl in
    let sum : suc (places_of (wider c.signature).parameters) ≡ count + 1 = omega (arith, one_more c.signature.parameters, c.places) in
    let told : places_in m ≡ Some (count + 1) = ap (option_map (λ (g : Signature). suc (places_of g.parameters))) signed ∙ ap (λ (k : ℕ). Some k) sum in
    rw (kind, named) told

-- ---- blocks

-- each fits the pool
abbrev AllFit : Pool → List Instr → Type 0
AllFit Z is = AllByRecursion (Fits Z) is

-- so do instructions behind others
fit_append : (Z : Pool) (is js : List Instr) → AllFit Z is → AllFit Z js → AllFit Z (is ++ js)
fit_append Z [] js h k = k
fit_append Z (i ∷ is) js h k = (h.0, fit_append Z is js h.1 k)

module _ (p : ℕ) (few : p ≤ 254) (i : Instr) (Z : Pool) (own : Fits Z i) where
  fit_kept : (is : List Instr) → IsKept i Z is → AllFit Z is
  fit_kept is e = subst (AllFit Z) (sym e) (own, tt)

  fit_context : Fits Z (load sort.Reference p)
  fit_context = (load_laid Z sort.Reference p (omega (arith, few))).fits

  fit_call : (opcode : ℕ) → Calls opcode → (n : MethodName) (is : List Instr) → IsCall p opcode n Z is → AllFit Z is
  fit_call opcode laid n is c = subst (AllFit Z) (sym c.call) (fit_context, ((laid Z c.index _ c.few c.named).fits, tt))

  fit_accessor : (name : Field → MethodName) (f : Option Field) (is : List Instr) → IsAccessorCall p name f i Z is → AllFit Z is
  fit_accessor name (Some f) is c = fit_call 184 (λ Z x m. call_static_laid Z x m) (name f) is c
  fit_accessor name None is c = fit_kept is c

  fit_duplicate : (opcode : ℕ) → Calls opcode → (n : Option MemberName) (is : List Instr) → IsDuplicateCall p opcode n i Z is → AllFit Z is
  fit_duplicate opcode laid (Some n) is c = fit_call opcode laid _ is c
  fit_duplicate opcode laid None is c = fit_kept is c

  fit_cast : (b : Bool) (n : List ℕ) (is : List Instr) → IsCastIf b n Z is → AllFit Z is
  fit_cast true n is c = subst (AllFit Z) (sym c) tt
  fit_cast false n is c = subst (AllFit Z) (sym c.cast) ((check_cast_laid Z c.index n c.few c.named).fits, tt)

  fit_after : (t : WordType) (u : Option VType) (is : List Instr) → IsAfter t u Z is → AllFit Z is
  fit_after word.Reference (Some (type.Ref n)) is c = fit_cast (bytes_eq (element_class n) object_class) (element_class n) is c
  fit_after word.Reference (Some type.Null) is c = subst (AllFit Z) (sym c) ((plain_laid Z 87 (omega arith) tt tt).fits, ((plain_laid Z 1 (omega arith) tt tt).fits, tt))
  fit_after t u is c = subst (AllFit Z) (sym c) tt

  fit_load : (t : WordType) (u : Option VType) (is : List Instr) → IsElementLoad p t u Z is → AllFit Z is
  fit_load t u is c = subst (AllFit Z) (sym c.parts) (fit_append Z c.call c.after (fit_call 184 (λ Z x m. call_static_laid Z x m) _ c.call c.calls) (fit_after t u c.after c.follows))

  -- of an interface's method that the class's pool names
  fit_interface : (pool : Pool) → FitsCount i → Counts pool i.operands → (n : Option MemberName) → option_and_then (member_name pool) (index_of i.operands) ≡ n → (is : List Instr) → IsInterfaceBlock p n i Z is → AllFit Z is
  fit_interface pool small counts None e is c = fit_kept is c
  fit_interface pool small counts (Some n) e is c = subst (AllFit Z) (sym c.call) (fit_context, (by_operands i.operands counts e small c, tt))
    where
      by_operands : (o : Operands) → Counts pool o → option_and_then (member_name pool) (index_of o) ≡ Some n → count_of o < 255 → (x : IsInterfaceCall p (count_of i.operands + 1) (duplicate_named (as_name n)) Z is) → Fits Z (call_interface x.index (count_of o + 1))
      by_operands (operands.Interface j count) counts named small x =
          count_more Z x.index x.named.class_at x.named.pair_at count n small (count_is pool j count n counts named) x.named.there (record { class = n.class; name = (duplicate_named (as_name n)).name; descriptor = with_context n.descriptor }) refl x.named.means
      by_operands o counts named small x = absurd counts

module _ (O : Original) (few : O.method.places ≤ 254) (s0 : Symbols) (same : s0.class ≡ O.class) (is0 : List Instr) (i : Instr) (rules : IsInstrOver O.class.pool i) (Z : Pool) (G : Grown O.class.pool Z) where
  own_fits : Fits Z i
  own_fits = fits_grown O.class.pool Z G (form_of i.op) i.operands rules.entry

  counts : (m : ℕ) (d : List ℕ) → op_of s0 is0 i ≡ Some (op.InvokeInterface m d) → Counts O.class.pool i.operands
  counts m d e =
      let v = invokes_is s0 is0 i.op i.operands (op.InvokeInterface m d) (omega (arith, rules.instr.op)) refl e (wide_of i.operands (wide_small i.pc (form_of i.op) i.operands rules.instr.operands)) in
      let code : i.op ≡ 185 = interface_opcode s0 i.op v.name (op.InvokeInterface m d) refl v.means in
      subst (λ (c : ℕ). FitPoolAs O.class.pool (form_of c) i.operands) code rules.entry

  -- each instruction of a block fits
  pub fit_block : (o : Op) (h : Option Types) (is : List Instr) → op_of s0 is0 i ≡ Some o → FitsOp O.method o → FitsCount i → IsBlock O (Some o) h i Z is → AllByRecursion (Fits Z) is
  fit_block (op.GetStatic f) h is e s k c = fit_accessor O.method.places few i Z own_fits _ (field_at O.program f) is c
  fit_block (op.PutStatic f) h is e s k c = fit_accessor O.method.places few i Z own_fits _ (field_at O.program f) is c
  fit_block (op.GetField f d) h is e s k c = fit_accessor O.method.places few i Z own_fits _ (field_at O.program f) is c
  fit_block (op.PutField f d) h is e s k c = fit_accessor O.method.places few i Z own_fits _ (field_at O.program f) is c
  fit_block (op.LoadElement t) h is e s k c = fit_load O.method.places few i Z own_fits t (array_under 1 h) is c
  fit_block (op.StoreElement t) h is e s k c = fit_call O.method.places few i Z own_fits 184 (λ Z x m. call_static_laid Z x m) _ is c
  fit_block (op.InvokeStatic m) h is e s k c = fit_duplicate O.method.places few i Z own_fits 184 (λ Z x m. call_static_laid Z x m) (called O i) is c
  fit_block (op.InvokeSpecial m) h is e s k c = fit_duplicate O.method.places few i Z own_fits 183 (λ Z x m. call_special_laid Z x m) (called O i) is c
  fit_block (op.InvokeVirtual m d) h is e s k c = fit_duplicate O.method.places few i Z own_fits 182 (λ Z x m. call_virtual_laid Z x m) (called O i) is c
  fit_block (op.InvokeInterface m d) h is e s k c = fit_interface O.method.places few i Z own_fits O.class.pool k (counts m d e) (called O i) refl is c
  fit_block (op.Load q n) h is e s k c = subst (AllByRecursion (Fits Z)) (sym c) ((load_laid Z q (moved_to q O.method.places O.method.locals n) s.0).fits, tt)
  fit_block (op.Store q n) h is e s k c = subst (AllByRecursion (Fits Z)) (sym c) ((store_laid Z q (moved_to q O.method.places O.method.locals n) s.0).fits, tt)
  fit_block (op.Increment n x) h is e s k c = subst (AllByRecursion (Fits Z)) (sym c) ((increment_laid Z (moved O.method.places n) x s.0 s.1).fits, tt)
  fit_block o h is e s k c = fit_kept O.method.places few i Z own_fits is c
