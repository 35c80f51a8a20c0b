-- What the code of a wrapper means.
use Rattle.std.proofs.Common.{◌≡◌, ℕ, suc, ◌+◌, ◌<◌, ◌≤◌, ℤ, false, List, [], ◌∷◌, ◌++◌, length, Option, Some, None, refl, ap, ◌∙◌, arith, append_assoc, length-append, ne_eqb, map}
use Rattle.std.specs.Prelude.{pos, option_map, option_and_then, nat_eq}
use Rattle.jmodel.specs.declared.class_file.Constant.{Constant}
use Rattle.jmodel.specs.declared.class_file.Constant.TheVariants as constants
use Rattle.jmodel.specs.declared.typing.VType.{VType}
use Rattle.jmodel.specs.declared.typing.VType.TheVariants as type
use Rattle.jmodel.specs.declared.value.Value.TheVariants.{Int}
use Rattle.jmodel.specs.declared.instruction.Instr.{Instr}
use Rattle.jmodel.specs.format.Pool.{entry}
use Rattle.jmodel.specs.format.Constants.{as_int, integer, integer_in}
use Rattle.objects.specs.linking.Each.{each}
use Rattle.objects.specs.linking.Code.{number_at}
use Rattle.jmodel.specs.format.Relocation.{all_instrs, behind, put_at, retargeted, place_of, laid_to, relocated, moved, EachInstr, IsShaped}
use Rattle.objects.specs.declared.op.Sort.TheVariants as sort
use Rattle.objects.specs.declared.op.Dispatch.{Dispatch}
use Rattle.objects.specs.declared.op.Dispatch.TheVariants as dispatch
use Rattle.objects.specs.declared.op.Op.{Op}
use Rattle.objects.specs.declared.op.Op.TheVariants as op
use Rattle.objects.specs.declared.op.Test.TheVariants.{Equal}
use Rattle.objects.specs.declared.op.ContextCall.TheVariants.{Init, Commit, Rollback}
use Rattle.objects.specs.declared.op.Catches.TheVariants.{Conflict, Any}
use Rattle.objects.specs.semantics.Program.{Method}
use Rattle.objects.specs.linking.Decoding.{Symbols, op_of, ops_of, catch_of}
use Rattle.objects.specs.rewriting.Rewriting.{load_all, result_sort, invoke, entry_code, begin_code, body_code, end_code, conflict_code, exception_code, body_end, conflict_at, catch}
use Rattle.bytecode.specs.Relocated.{number_of}
use Rattle.bytecode.proofs.LaidLaws.{place_is}
use Rattle.member_code.specs.Instrs.{naming, jump, load, call_virtual}
use Rattle.member_code.specs.Names.{duplicate_named}
use Rattle.member_code.proofs.Single.{Means, AreMeant, meant_append, all_meant, load_means, store_means, give_means, call_static_means, call_special_means, call_virtual_means, named_member}
use Rattle.retry_wrapper.specs.Wrappers.{Opening, Ending, loads_from, call_duplicate, entry_instrs, begin_instrs, body_instrs, end_instrs, conflict_instrs, exception_instrs, wrapper_blocks, wrapper_handlers}
use Rattle.retry_wrapper.specs.WrapperLaw.{duplicate_of, call_op}
use Rattle.retry_wrapper.proofs.Gets.{IsOpening, IsEnding}
use Rattle.retry_wrapper.proofs.Loop.{parts, parts_are, shaped_in, after_end, after_conflict, after_exception, behind_all}

-- ---- parts

loads_length : (i : ℕ) (ts : List VType) → length (loads_from i ts) ≡ length (load_all i ts)
loads_length i [] = refl
loads_length i (type.Int ∷ ts) = omega (arith, loads_length (suc i) ts)
loads_length i (type.Long ∷ ts) = omega (arith, loads_length (suc i) ts)
loads_length i (type.Second ∷ ts) = loads_length (suc i) ts
loads_length i (type.Null ∷ ts) = omega (arith, loads_length (suc i) ts)
loads_length i (type.Ref n ∷ ts) = omega (arith, loads_length (suc i) ts)
loads_length i (type.Uninit n ∷ ts) = omega (arith, loads_length (suc i) ts)
loads_length i (type.UninitThis ∷ ts) = omega (arith, loads_length (suc i) ts)
loads_length i (type.Top ∷ ts) = omega (arith, loads_length (suc i) ts)

module _ (s : Symbols) (place : ℕ → ℕ) (L : List Instr) where
  loads_meant : (i : ℕ) (ts : List VType) → AreMeant s place L (loads_from i ts) (load_all i ts)
  loads_meant i [] = tt
  loads_meant i (type.Int ∷ ts) = (load_means s place L sort.Int i, loads_meant (suc i) ts)
  loads_meant i (type.Long ∷ ts) = (load_means s place L sort.Long i, loads_meant (suc i) ts)
  loads_meant i (type.Second ∷ ts) = loads_meant (suc i) ts
  loads_meant i (type.Null ∷ ts) = (load_means s place L sort.Reference i, loads_meant (suc i) ts)
  loads_meant i (type.Ref n ∷ ts) = (load_means s place L sort.Reference i, loads_meant (suc i) ts)
  loads_meant i (type.Uninit n ∷ ts) = (load_means s place L sort.Reference i, loads_meant (suc i) ts)
  loads_meant i (type.UninitThis ∷ ts) = (load_means s place L sort.Reference i, loads_meant (suc i) ts)
  loads_meant i (type.Top ∷ ts) = (load_means s place L sort.Reference i, loads_meant (suc i) ts)

  int_means : (i : ℕ) (x : ℤ) → integer s.class.pool i ≡ Some x → Means s place L (op.Constant (Int x)) (naming 19 i)
  int_means i x h at = go (entry s.class.pool i) refl h
    where
      go : (o : Option Constant) → entry s.class.pool i ≡ o → option_and_then integer_in o ≡ Some x → op_of s L (retargeted place (put_at at (naming 19 i))) ≡ Some (op.Constant (Int x))
      go None e f = cc
      go (Some (constants.Integer n)) e f = let same : as_int n ≡ x = cc in rw e (ap (λ (y : ℤ). Some (op.Constant (Int y))) same)
      go (Some c) e f = cc

-- where a jump leads that leads to block 1
abbrev LeadsToTwo : List Instr → (ℕ → ℕ) → Type 0
LeadsToTwo L place = number_at L (place 1) ≡ Some 2

module _ (k : Method) (a : Opening) (e : Ending) (s : Symbols) (n d : ℕ) (attempts : ℤ) (O : IsOpening n attempts s.class.pool a) (E : IsEnding (duplicate_named k.name) s.class.pool e) (called : call_op s k.dispatch (duplicate_of k) ≡ Some (invoke k.dispatch d))
    (number : as_int (pos n) ≡ pos n) (fits : as_int attempts ≡ attempts) where
  module _ (place : ℕ → ℕ) (L : List Instr) (next : number_at L (place 1) ≡ Some 2) where
    branch_means : Means s place L (op.Branch Equal 2) (jump 153 1)
    branch_means at = rw next refl

    goto_means : Means s place L (op.Goto 2) (jump 167 1)
    goto_means at = rw next refl

    entry_meant : AreMeant s place L (entry_instrs k.places a) (entry_code k.places)
    entry_meant = (call_static_means s place L a.get _ op.GetContext (named_member s.class.pool a.get _ O.get.0) refl, (store_means s place L sort.Reference k.places, tt))

    begin_meant : AreMeant s place L (begin_instrs k.places a) (begin_code k.places n attempts)
    begin_meant = (
      load_means s place L sort.Reference k.places,
      (
        int_means s place L a.number (pos n) (O.number.0 ∙ ap (λ (x : ℤ). Some x) number),
        (int_means s place L a.retries attempts (O.retries.0 ∙ ap (λ (x : ℤ). Some x) fits), (call_virtual_means s place L a.init _ (op.Context Init) (named_member s.class.pool a.init _ O.init.0) refl, tt)),
      ),
    )

    duplicate_meant : (t : Dispatch) → call_op s t (duplicate_of k) ≡ Some (invoke t d) → Means s place L (invoke t d) (call_duplicate t e.duplicate)
    duplicate_meant dispatch.Static h = call_static_means s place L e.duplicate (duplicate_of k) (op.InvokeStatic d) (named_member s.class.pool e.duplicate _ E.duplicate.0) h
    duplicate_meant dispatch.Exact h = call_special_means s place L e.duplicate (duplicate_of k) (op.InvokeSpecial d) (named_member s.class.pool e.duplicate _ E.duplicate.0) h
    duplicate_meant dispatch.Virtual h = call_special_means s place L e.duplicate (duplicate_of k) (op.InvokeSpecial d) (named_member s.class.pool e.duplicate _ E.duplicate.0) h
    duplicate_meant dispatch.Abstract h = call_special_means s place L e.duplicate (duplicate_of k) (op.InvokeSpecial d) (named_member s.class.pool e.duplicate _ E.duplicate.0) h

    body_meant : AreMeant s place L (body_instrs k e) (body_code k d)
    body_meant = meant_append s place L (loads_from 0 k.parameters) (load sort.Reference k.places ∷ call_duplicate k.dispatch e.duplicate ∷ []) (load_all 0 k.parameters) (op.Load sort.Reference k.places ∷ invoke k.dispatch d ∷ [])
        (loads_meant s place L 0 k.parameters) (load_means s place L sort.Reference k.places, (duplicate_meant k.dispatch called, tt))

    commit_means : Means s place L (op.Context Commit) (call_virtual e.commit)
    commit_means = call_virtual_means s place L e.commit _ (op.Context Commit) (named_member s.class.pool e.commit _ E.commit.0) refl

    end_meant : (t : Option VType) → AreMeant s place L (end_instrs (option_map result_sort t) k.places e) (end_code t k.places)
    end_meant None = (load_means s place L sort.Reference k.places, (commit_means, (branch_means, (λ at. refl, tt))))
    end_meant (Some t) = (store_means s place L (result_sort t) (k.places + 1), (load_means s place L sort.Reference k.places, (commit_means, (branch_means, (load_means s place L (result_sort t) (k.places + 1), (give_means s place L (result_sort t), tt))))))

    conflict_meant : AreMeant s place L (conflict_instrs k.places e) (conflict_code k.places)
    conflict_meant = (λ at. refl, (load_means s place L sort.Reference k.places, (call_virtual_means s place L e.rollback _ (op.Context Rollback) (named_member s.class.pool e.rollback _ E.rollback.0) refl, (goto_means, tt))))

    exception_meant : AreMeant s place L (exception_instrs k.places e) (exception_code k.places)
    exception_meant = (store_means s place L sort.Reference (k.places + 1), (load_means s place L sort.Reference k.places, (commit_means, (branch_means, (load_means s place L sort.Reference (k.places + 1), (λ at. refl, tt))))))

    all_parts : AreMeant s place L (parts k a e) (entry_code k.places ++ (begin_code k.places n attempts ++ (body_code k d ++ (end_code k.result k.places ++ (conflict_code k.places ++ exception_code k.places)))))
    all_parts =
        meant_append s place L (entry_instrs k.places a) (begin_instrs k.places a ++ (body_instrs k e ++ (end_instrs (option_map result_sort k.result) k.places e ++ (conflict_instrs k.places e ++ exception_instrs k.places e))))
        (entry_code k.places) (begin_code k.places n attempts ++ (body_code k d ++ (end_code k.result k.places ++ (conflict_code k.places ++ exception_code k.places)))) entry_meant
        (meant_append s place L (begin_instrs k.places a) (body_instrs k e ++ (end_instrs (option_map result_sort k.result) k.places e ++ (conflict_instrs k.places e ++ exception_instrs k.places e)))
        (begin_code k.places n attempts) (body_code k d ++ (end_code k.result k.places ++ (conflict_code k.places ++ exception_code k.places))) begin_meant
        (meant_append s place L (body_instrs k e) (end_instrs (option_map result_sort k.result) k.places e ++ (conflict_instrs k.places e ++ exception_instrs k.places e))
        (body_code k d) (end_code k.result k.places ++ (conflict_code k.places ++ exception_code k.places)) body_meant
        (meant_append s place L (end_instrs (option_map result_sort k.result) k.places e) (conflict_instrs k.places e ++ exception_instrs k.places e) (end_code k.result k.places) (conflict_code k.places ++ exception_code k.places) (end_meant k.result)
        (meant_append s place L (conflict_instrs k.places e) (exception_instrs k.places e) (conflict_code k.places) (exception_code k.places) conflict_meant exception_meant))))

  abbrev pub wrapper_ops : List Op
  wrapper_ops = entry_code k.places ++ begin_code k.places n attempts ++ body_code k d ++ end_code k.result k.places ++ conflict_code k.places ++ exception_code k.places

  regrouped : entry_code k.places ++ (begin_code k.places n attempts ++ (body_code k d ++ (end_code k.result k.places ++ (conflict_code k.places ++ exception_code k.places)))) ≡ wrapper_ops
  regrouped = simp append_assoc

  module _ (few : k.places ≤ 254) (long : length k.parameters ≤ 254) where
    abbrev pub L : List Instr
    L = relocated (wrapper_blocks k a e) []

    abbrev pub at_block : ℕ → ℕ
    at_block pc = place_of (wrapper_blocks k a e) pc

    shaped : EachInstr IsShaped (wrapper_blocks k a e)
    shaped = shaped_in k a e s.class.pool n attempts O E few long

    all_long : length (all_instrs (wrapper_blocks k a e) ++ []) ≡ 6 + length (body_instrs k e) + length (end_instrs (option_map result_sort k.result) k.places e) + 4 + 6
    all_long = omega (arith, ap length (parts_are k a e), length-append (body_instrs k e) (end_instrs (option_map result_sort k.result) k.places e ++ (conflict_instrs k.places e ++ exception_instrs k.places e)), length-append (end_instrs (option_map result_sort k.result) k.places e) (conflict_instrs k.places e ++ exception_instrs k.places e))

    body_long : length (body_instrs k e) ≡ length (load_all 0 k.parameters) + 2
    body_long = omega (arith, length-append (loads_from 0 k.parameters) (load sort.Reference k.places ∷ call_duplicate k.dispatch e.duplicate ∷ []), loads_length 0 k.parameters)

    end_long : (t : Option VType) → length (end_instrs (option_map result_sort t) k.places e) ≡ length (end_code t k.places)
    end_long None = refl
    end_long (Some t) = refl

    -- the numbers of the first instructions of blocks
    stands : (pc : ℕ) → number_of (wrapper_blocks k a e) pc < length (all_instrs (wrapper_blocks k a e) ++ []) → number_at (relocated (wrapper_blocks k a e) []) (place_of (wrapper_blocks k a e) pc) ≡ Some (number_of (wrapper_blocks k a e) pc)
    stands pc h = place_is (wrapper_blocks k a e) [] pc shaped tt h

    block_1 : number_at (relocated (wrapper_blocks k a e) []) (place_of (wrapper_blocks k a e) 1) ≡ Some 2
    block_1 = stands 1 (omega (arith, all_long))

    block_2 : number_at (relocated (wrapper_blocks k a e) []) (place_of (wrapper_blocks k a e) 2) ≡ Some 6
    block_2 = stands 2 (omega (arith, all_long))

    block_3 : number_at (relocated (wrapper_blocks k a e) []) (place_of (wrapper_blocks k a e) 3) ≡ Some (body_end k)
    block_3 = let same : number_of (wrapper_blocks k a e) 3 ≡ body_end k = omega (arith, body_long) in stands 3 (omega (arith, all_long)) ∙ ap (λ (x : ℕ). Some x) same

    block_4 : number_at (relocated (wrapper_blocks k a e) []) (place_of (wrapper_blocks k a e) 4) ≡ Some (conflict_at k)
    block_4 = let same : number_of (wrapper_blocks k a e) 4 ≡ conflict_at k = omega (arith, body_long, end_long k.result) in stands 4 (omega (arith, all_long)) ∙ ap (λ (x : ℕ). Some x) same

    block_5 : number_at (relocated (wrapper_blocks k a e) []) (place_of (wrapper_blocks k a e) 5) ≡ Some (conflict_at k + 4)
    block_5 = let same : number_of (wrapper_blocks k a e) 5 ≡ conflict_at k + 4 = omega (arith, body_long, end_long k.result) in stands 5 (omega (arith, all_long)) ∙ ap (λ (x : ℕ). Some x) same

    pub ops_are : ops_of s (relocated (wrapper_blocks k a e) []) ≡ Some wrapper_ops
    ops_are =
        ap (λ (l : List Instr). each (op_of s (relocated (wrapper_blocks k a e) [])) (laid_to (place_of (wrapper_blocks k a e)) 0 l)) (parts_are k a e)
        ∙ all_meant s (place_of (wrapper_blocks k a e)) (relocated (wrapper_blocks k a e) []) 0 (parts k a e) _ (all_parts (place_of (wrapper_blocks k a e)) (relocated (wrapper_blocks k a e) []) block_1)
        ∙ ap (λ (l : List Op). Some l) regrouped

    -- the exception entries
    pub catches_are : (len : ℕ) → len ≡ behind 0 (all_instrs (wrapper_blocks k a e) ++ []) → each (catch_of s.class.pool (relocated (wrapper_blocks k a e) []) len) (map (moved (place_of (wrapper_blocks k a e))) (wrapper_handlers e.conflict))
        ≡ Some (catch 6 (body_end k) (conflict_at k) Conflict ∷ catch 6 (body_end k) (conflict_at k + 4) Any ∷ [])
    catches_are len whole =
        let l1 = after_end k a e s.class.pool n attempts O E few long in
        let l2 = after_conflict k a e s.class.pool n attempts O E few long in
        let l3 = after_exception k a e s.class.pool n attempts O E few long in
        let l4 = behind_all k a e in
        let inside : nat_eq (place_of (wrapper_blocks k a e) 3) len ≡ false = ne_eqb (place_of (wrapper_blocks k a e) 3) len (λ q. omega (arith, q, whole, l1, l2, l3, l4)) in
        let some : nat_eq e.conflict 0 ≡ false = ne_eqb e.conflict 0 (λ q. omega (arith, q, E.conflict.1)) in
        let class = E.conflict.0 in
        rw (block_2, block_3, block_4, block_5, inside, some, class) refl
