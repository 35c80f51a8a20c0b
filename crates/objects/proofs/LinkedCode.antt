-- The code of taken methods means source: each of its instructions and exception entries.
use Rattle.std.proofs.Common.{◌≡◌, ℕ, suc, ◌<◌, ◌≤◌, List, [], ◌∷◌, length, Option, Some, None, Ok, Bool, true, false, nat_eq, refl, sym, ap, subst, ◌∙◌, arith}
use Rattle.std.specs.Prelude.{slice_get, position, ℤ, ◌==◌, ◌||◌, if◌then◌else◌, bytes_eq, option_map, option_and_then, is_some, FitsSigned}
use Rattle.std.specs.List.{AllByRecursion}
use Rattle.std.specs.Int.{w32}
use Rattle.std.proofs.lemmas.Bool.Decides.{Decides-eqb}
use Rattle.std.proofs.lemmas.Int.{ints}
use Rattle.std.proofs.lemmas.Slice.Eq.{bytes_eq-Decides}
use Rattle.jmodel.specs.declared.class_file.Constant.{Constant}
use Rattle.jmodel.specs.declared.class_file.Constant.TheVariants as constants
use Rattle.jmodel.specs.declared.class_file.Handler.{Handler}
use Rattle.jmodel.specs.declared.instruction.Operands.{Operands}
use Rattle.jmodel.specs.declared.instruction.Operands.TheVariants as operands
use Rattle.jmodel.specs.declared.instruction.Instr.{Instr}
use Rattle.jmodel.specs.declared.value.Value.TheVariants as value
use Rattle.jmodel.specs.format.ClassFile.{ClassFile}
use Rattle.jmodel.specs.format.Pool.{entry, string, class_name, field_name, member_name}
use Rattle.jmodel.specs.format.ClassRules.{IsConstant}
use Rattle.jmodel.specs.format.Constants.{as_int}
use Rattle.objects.specs.linking.Classes.{Declared}
use Rattle.objects.specs.linking.Taken.{index_of}
use Rattle.objects.specs.linking.Code.{Coded, decoded, number_at, table_cases}
use Rattle.objects.specs.linking.Each.{each}
use Rattle.objects.proofs.InstrNumbers.{IsSmallNumber, IsSmallInstr}
use Rattle.objects.specs.declared.op.Op.{Op}
use Rattle.objects.specs.declared.op.Op.TheVariants as op
use Rattle.objects.specs.declared.op.Catch.{Catch}
use Rattle.objects.specs.declared.op.Catches.{Catches}
use Rattle.objects.specs.declared.op.Catches.TheVariants.{Conflict, Any, Of}
use Rattle.objects.specs.semantics.Program.{Method, Program}
use Rattle.objects.specs.typing.TypeOrder.{conflict_class}
use Rattle.objects.specs.linking.LibraryMethods.{is_library}
use Rattle.objects.specs.linking.Constructs.{unknown_in, catch_fault}
use Rattle.objects.specs.linking.Layout.{rows, texts_of, places_from, made_arrays}
use Rattle.objects.specs.linking.Decoding.{Symbols, is_among, number_op, pushed_op, text_op, ldc_op, pool_op, meaning, op_of, ops_of, end_at, catches_named, catches_of, make_catch, catch_of, primitive_array, new_array, field_op, call_op, class_op}
use Rattle.objects.specs.linking.Linking.{taken_methods, original_symbols}
use Rattle.objects.specs.typing.Source.{IsSourceOp, IsSourceCatch, IsSourceCatches, AreTypes}
use Rattle.objects.specs.laws.LinkingLaw.{AreRead}
use Rattle.objects.proofs.Items.{IsAt, item, placed, from_each, all_items}
use Rattle.objects.proofs.AsRead.{entry_at, is_file, no_conflict}
use Rattle.objects.proofs.DeclaredMembers.{of_methods}
use Rattle.objects.proofs.TakenMembers.{in_methods}
use Rattle.objects.proofs.FolderArrays.{known_is}
use Rattle.objects.proofs.MadeArrays.{IsMade}
use Rattle.objects.proofs.CleanCode.{IsClean, IsCleanPlace, clean_code, taken_clean}
use Rattle.objects.proofs.Links.{IsLinkedTo}
use Rattle.objects.proofs.CodeRead.{small_instrs}
use Rattle.objects.proofs.LinkedOps.{Fine, nothing, leaf, either, when, plain, first, mapped, chained, simple_fine, local_fine, wide_fine, jump_fine, switch_fine}
use Rattle.objects.proofs.NamedMembers.{of_field, accessed_is, invoked_is}
use Rattle.objects.proofs.NamedOps.{field_fine, call_fine}
use Rattle.objects.proofs.ClassOps.{class_fine, primitive_fine}

places_many : (a : ℕ) (ts : List (List ℕ)) → length (places_from a ts) ≡ length ts
places_many a [] = refl
places_many a (t ∷ ts) = ap suc (places_many (suc a) ts)

module _ (cs : List ClassFile) (P : Program) (read : AreRead cs) (l : IsLinkedTo cs P) (types : AreTypes P) (made : AllByRecursion (IsMade cs) (made_arrays cs)) where
  rows_are : P.types ≡ rows cs
  rows_are = ap (λ (P : Program). P.types) l.is

  texts_many : length P.texts ≡ length (texts_of cs)
  texts_many = ap (λ (P : Program). length P.texts) l.is ∙ places_many _ (texts_of cs)

  module _ (d : Declared) (taken : IsAt (taken_methods cs) d) (x : Coded) (is : decoded d.class d.member ≡ Ok x) (k : Method) (many : length k.ops ≡ length x.instrs) where
    abbrev s : Symbols
    s = original_symbols cs d.class

    abbrev IsGood : Option Op → Type 0
    IsGood o = Fine P k o

    at_place : (i : Instr) → IsAt x.instrs i → IsCleanPlace cs d x.code.handlers i
    at_place i at = clean_code cs d (taken_clean cs l.constructs d taken) x is i at

    pool_fits : AllByRecursion (IsConstant d.class.pool) d.class.pool
    pool_fits = (is_file cs read d.class (of_methods cs d (in_methods cs d taken)).0).pool.entries

    -- ---- constants

    text_fine : (t : List ℕ) → IsGood (text_op s t)
    text_fine t = mapped P k op.Text (position (bytes_eq t) s.texts) (λ n e. let p = placed (bytes_eq t) s.texts n e in let below = p.3 in omega (arith, below, texts_many))

    pushed_fine : (j : ℕ) (c : Constant) → entry d.class.pool j ≡ Some c → IsGood (pushed_op s c)
    pushed_fine j c e = by c (item (IsConstant d.class.pool) d.class.pool c pool_fits (entry_at d.class.pool j c e))
      where
        int_fits : (n : ℤ) → FitsSigned w32 (as_int n)
        int_fits n = omega (arith, ints)

        by : (c : Constant) → IsConstant d.class.pool c → IsGood (pushed_op s c)
        by (constants.Integer n) fits = leaf P k (op.Constant (value.Int (as_int n))) (int_fits n)
        by (constants.Long n) fits = leaf P k (op.Constant (value.Long n)) fits
        by c fits = nothing P k

    ldc_fine : (j : ℕ) → IsGood (ldc_op s j)
    ldc_fine j =
        first P k (option_and_then (text_op s) (string d.class.pool j)) (option_and_then (pushed_op s) (entry d.class.pool j)) (chained P k (text_op s) (string d.class.pool j) (λ t e. text_fine t))
        (chained P k (pushed_op s) (entry d.class.pool j) (λ c e. pushed_fine j c e))

    -- ---- instructions

    module _ (i : Instr) (at : IsAt x.instrs i) where
      clean : IsClean cs d i
      clean = (at_place i at).instr

      pool_fine : (j : ℕ) → index_of i.operands ≡ Some j → IsGood (pool_op s i.op j)
      pool_fine j f =
          either P k (is_among 18 20 i.op) _ _ (ldc_fine j)
          (when P k (is_among 178 181 i.op) _ _
          (λ t. chained P k (field_op s i.op) (field_name d.class.pool j) (λ n e. field_fine cs P read l d k i clean n (accessed_is d.class.pool i j n t f (of_field d.class.pool j n e))))
          (λ u. when P k (is_among 182 185 i.op) _ _
          (λ t. chained P k (call_op s i.op) (member_name d.class.pool j) (λ n e. call_fine cs P read l d k i clean n (invoked_is d.class.pool i j n t f e)))
          (λ u. chained P k (class_op s i.op) (class_name d.class.pool j) (λ n e. class_fine cs P read rows_are types made d taken k i clean j n f e))))

      number_fine : (n : ℤ) → FitsSigned w32 n → IsGood (number_op s i.op n)
      number_fine n h =
          plain P k (is_among 16 17 i.op) (op.Constant (value.Int n)) _ h (either P k (i.op == 188) (option_and_then (new_array s) (primitive_array n)) None (primitive_fine cs P read rows_are types made d taken k i clean n) (nothing P k))

      meaning_fine : (o : Operands) → o ≡ i.operands → IsSmallNumber o → IsGood (meaning s x.instrs i.op o)
      meaning_fine operands.Nothing e h = simple_fine P k i.op
      meaning_fine (operands.Number n) e h = number_fine n h
      meaning_fine (operands.Local n) e h = local_fine P k i.op n
      meaning_fine (operands.LocalAdd n add) e h = leaf P k (op.Increment n add) tt
      meaning_fine (operands.Pool j) e h = pool_fine j (ap index_of (sym e))
      meaning_fine (operands.Interface j count) e h = pool_fine j (ap index_of (sym e))
      meaning_fine (operands.Dimensions j count) e h = nothing P k
      meaning_fine (operands.Target t) e h = jump_fine P k x.instrs many i.op t
      meaning_fine (operands.Table other low targets) e h = switch_fine P k x.instrs many other (table_cases low targets)
      meaning_fine (operands.Lookup other pairs) e h = switch_fine P k x.instrs many other pairs
      meaning_fine (operands.Wide w n add) e h = wide_fine P k w n add

      pub op_source : (o : Op) → op_of s x.instrs i ≡ Some o → IsSourceOp P k o
      op_source o e =
          let small = item IsSmallInstr x.instrs i (small_instrs d.class d.member x is) at in
          (let f = meaning_fine i.operands refl small in rw e at f).fine

    pub ops_source : (os : List Op) → ops_of s x.instrs ≡ Some os → AllByRecursion (IsSourceOp P k) os
    ops_source os e = all_items (IsSourceOp P k) os (λ o at. let r = from_each (op_of s x.instrs) x.instrs os e at.0 o at.1 in op_source r.0 (at.0, r.1) o r.2)

    -- ---- exception entries

    catches_fine : (h : Handler) → IsAt x.code.handlers h → (j : ℕ) → number_at x.instrs h.handler ≡ Some j → (c : Catches) → catches_of d.class.pool h.catch_type ≡ Some c → IsSourceCatches c
    catches_fine h at j e c f = by (h.catch_type == 0) f
      where
        p : (i : Instr) × (slice_get x.instrs j ≡ Some i) × (nat_eq i.pc h.handler ≡ true) × (j < length x.instrs)
        p = placed (λ (i : Instr). nat_eq i.pc h.handler) x.instrs j e

        same : (h.handler == p.0.pc) ≡ true
        same = (Decides-eqb h.handler p.0.pc).1 (sym ((Decides-eqb p.0.pc h.handler).0 p.2))

        known : unknown_in cs (class_name d.class.pool h.catch_type) ≡ None
        known =
            let c = item (λ h. catch_fault cs d.class.pool p.0.pc h ≡ None) x.code.handlers h (at_place p.0 (j, p.1)).caught at in
            ap (λ b. if b then unknown_in cs (class_name d.class.pool h.catch_type) else None) (sym same) ∙ c

        no_conflict_there : (n : List ℕ) → unknown_in cs (Some n) ≡ None → bytes_eq n conflict_class ≡ true → ⊥
        no_conflict_there n e f =
            let name : n ≡ conflict_class = (bytes_eq-Decides n conflict_class).0 f in
            let k = known_is cs conflict_class (ap (λ n. unknown_in cs (Some n)) (sym name) ∙ e) in
            let fall : true ≡ false = sym k ∙ ap (λ (o : Option ClassFile). is_some o || is_library conflict_class) (no_conflict cs read) in
            cc

        named : (n : List ℕ) → unknown_in cs (Some n) ≡ None → (b : Bool) → bytes_eq n conflict_class ≡ b → IsSourceCatches (if b then Conflict else Of n)
        named n e true f = absurd (no_conflict_there n e f)
        named n e false f = tt

        class : (o : Option (List ℕ)) → unknown_in cs o ≡ None → option_map catches_named o ≡ Some c → IsSourceCatches c
        class None k f = cc
        class (Some n) k f = let s : catches_named n ≡ c = cc in subst IsSourceCatches s (named n k (bytes_eq n conflict_class) refl)

        by : (b : Bool) → (if b then Some Any else option_map catches_named (class_name d.class.pool h.catch_type)) ≡ Some c → IsSourceCatches c
        by true f = let s : Any ≡ c = cc in subst IsSourceCatches s tt
        by false f = class (class_name d.class.pool h.catch_type) known f

    target_within : (pc j : ℕ) → number_at x.instrs pc ≡ Some j → j ≤ length k.ops
    target_within pc j e = let p = placed (λ (i : Instr). nat_eq i.pc pc) x.instrs j e in let below = p.3 in omega (arith, below, many)

    end_within : (len pc j : ℕ) → end_at x.instrs len pc ≡ Some j → j ≤ length k.ops
    end_within len pc j e = go (nat_eq pc len) e
      where
        go : (b : Bool) → (if b then Some (length x.instrs) else number_at x.instrs pc) ≡ Some j → j ≤ length k.ops
        go true e = let s : length x.instrs ≡ j = cc in omega (arith, s, many)
        go false e = target_within pc j e

    catch_source : (len : ℕ) (h : Handler) → IsAt x.code.handlers h → (c : Catch) → catch_of d.class.pool x.instrs len h ≡ Some c → IsSourceCatch P k c
    catch_source len h at c e =
        go (number_at x.instrs h.start) refl (end_at x.instrs len h.end) refl (number_at x.instrs h.handler) refl (catches_of d.class.pool h.catch_type) refl e
      where
        go : (a : Option ℕ) → number_at x.instrs h.start ≡ a → (b : Option ℕ) → end_at x.instrs len h.end ≡ b → (t : Option ℕ) → number_at x.instrs h.handler ≡ t
            → (o : Option Catches) → catches_of d.class.pool h.catch_type ≡ o → make_catch a b t o ≡ Some c → IsSourceCatch P k c
        go None ea b eb t et o eo e = cc
        go (Some from) ea None eb t et o eo e = cc
        go (Some from) ea (Some to) eb None et o eo e = cc
        go (Some from) ea (Some to) eb (Some goes) et None eo e = cc
        go (Some from) ea (Some to) eb (Some goes) et (Some catches) eo e =
            let s : record { from = from; to = to; at = goes; catches = catches } ≡ c = cc in
            subst (IsSourceCatch P k) s (record { from = target_within h.start from ea; to = end_within len h.end to eb; catches = catches_fine h at goes et catches eo })

    pub catches_source : (len : ℕ) (ks : List Catch) → each (catch_of d.class.pool x.instrs len) x.code.handlers ≡ Some ks → AllByRecursion (IsSourceCatch P k) ks
    catches_source len ks e = all_items (IsSourceCatch P k) ks (λ c at. let r = from_each (catch_of d.class.pool x.instrs len) x.code.handlers ks e at.0 c at.1 in catch_source len r.0 (at.0, r.1) c r.2)
