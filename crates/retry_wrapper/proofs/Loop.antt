-- The blocks of a wrapper: that they can be laid, and where each stands.
use Rattle.std.proofs.Common.{◌≡◌, ℕ, suc, ◌+◌, ◌<◌, ◌≤◌, List, [], ◌∷◌, ◌++◌, length, Option, Some, None, refl, sym, ap, ◌∙◌, subst, arith, length-append, inl}
use Rattle.std.specs.Prelude.{ℤ, option_map}
use Rattle.std.specs.List.{AllByRecursion}
use Rattle.std.proofs.lemmas.List.{append-nil}
use Rattle.jmodel.specs.declared.typing.VType.{VType}
use Rattle.jmodel.specs.declared.typing.VType.TheVariants as type
use Rattle.jmodel.specs.declared.instruction.Instr.{Instr}
use Rattle.jmodel.specs.format.ClassFile.{Pool}
use Rattle.jmodel.specs.format.Instruction.{form_of, targets_of, FitPoolAs}
use Rattle.jmodel.specs.format.Relocation.{Block, all_instrs, behind, size_at, place_of, IsShaped, ArePcs, AreBlocks, EachInstr}
use Rattle.objects.specs.declared.op.Sort.{Sort}
use Rattle.objects.specs.declared.op.Sort.TheVariants as sort
use Rattle.objects.specs.declared.op.Dispatch.{Dispatch}
use Rattle.objects.specs.declared.op.Dispatch.TheVariants as dispatch
use Rattle.objects.specs.semantics.Program.{Method}
use Rattle.objects.specs.rewriting.Rewriting.{result_sort}
use Rattle.bytecode.specs.Relocated.{Fits, HaveInstrs}
use Rattle.bytecode.proofs.BlockLaws.{all_cons, behind_append}
use Rattle.bytecode.proofs.SizeLaws.{behind_over}
use Rattle.bytecode.proofs.LaidLaws.{join_all, some_size}
use Rattle.member_code.specs.Instrs.{plain, naming, jump, load, store, give, call_static, call_virtual}
use Rattle.member_code.specs.Coding.{block}
use Rattle.member_code.specs.Names.{duplicate_named}
use Rattle.member_code.proofs.Single.{IsLaid, plain_laid, load_laid, store_laid, give_laid, int_laid, call_static_laid, call_special_laid, call_virtual_laid}
use Rattle.retry_wrapper.specs.Wrappers.{Opening, Ending, loads_from, keeps, answers, call_duplicate, entry_instrs, begin_instrs, body_instrs, commit_instrs, end_instrs, conflict_instrs, exception_instrs, wrapper_blocks, wrapper_handlers}
use Rattle.retry_wrapper.proofs.Gets.{IsOpening, IsEnding}

-- an instruction can stand in blocks over a pool
pub record IsIn (Z : Pool) (bs : List Block) (i : Instr) : Type 0 where
  pub shaped : IsShaped i
  pub fits : FitPoolAs Z (form_of i.op) i.operands
  pub leads : ArePcs bs (targets_of i.operands)

module _ (Z : Pool) (bs : List Block) where
  one_in : (i : Instr) → IsLaid Z i → IsIn Z bs i
  one_in i h = record { shaped = h.shaped; fits = h.fits; leads = subst (ArePcs bs) (sym h.nowhere) tt }

  all_in : (is : List Instr) → AllByRecursion (IsLaid Z) is → AllByRecursion (IsIn Z bs) is
  all_in [] h = tt
  all_in (i ∷ is) h = (one_in i h.0, all_in is h.1)

  shaped_all : (is : List Instr) → AllByRecursion (IsIn Z bs) is → AllByRecursion IsShaped is
  shaped_all [] h = tt
  shaped_all (i ∷ is) h = (h.0.shaped, shaped_all is h.1)

  fits_all : (is : List Instr) → AllByRecursion (IsIn Z bs) is → AllByRecursion (Fits Z) is
  fits_all [] h = tt
  fits_all (i ∷ is) h = (h.0.fits, fits_all is h.1)

  leads_all : (is : List Instr) → AllByRecursion (IsIn Z bs) is → AllByRecursion (λ (i : Instr). ArePcs bs (targets_of i.operands)) is
  leads_all [] h = tt
  leads_all (i ∷ is) h = (h.0.leads, leads_all is h.1)

loads_laid : (Z : Pool) (i : ℕ) (ts : List VType) → i + length ts ≤ 60000 → AllByRecursion (IsLaid Z) (loads_from i ts)
loads_laid Z i [] h = tt
loads_laid Z i (type.Int ∷ ts) h = (load_laid Z sort.Int i (omega (arith, h)), loads_laid Z (suc i) ts (omega (arith, h)))
loads_laid Z i (type.Long ∷ ts) h = (load_laid Z sort.Long i (omega (arith, h)), loads_laid Z (suc i) ts (omega (arith, h)))
loads_laid Z i (type.Second ∷ ts) h = loads_laid Z (suc i) ts (omega (arith, h))
loads_laid Z i (type.Null ∷ ts) h = (load_laid Z sort.Reference i (omega (arith, h)), loads_laid Z (suc i) ts (omega (arith, h)))
loads_laid Z i (type.Ref n ∷ ts) h = (load_laid Z sort.Reference i (omega (arith, h)), loads_laid Z (suc i) ts (omega (arith, h)))
loads_laid Z i (type.Uninit n ∷ ts) h = (load_laid Z sort.Reference i (omega (arith, h)), loads_laid Z (suc i) ts (omega (arith, h)))
loads_laid Z i (type.UninitThis ∷ ts) h = (load_laid Z sort.Reference i (omega (arith, h)), loads_laid Z (suc i) ts (omega (arith, h)))
loads_laid Z i (type.Top ∷ ts) h = (load_laid Z sort.Reference i (omega (arith, h)), loads_laid Z (suc i) ts (omega (arith, h)))

behind_some : (at : ℕ) (is : List Instr) → AllByRecursion IsShaped is → 0 < length is → at < behind at is
behind_some at [] h some = absurd (omega arith)
behind_some at (i ∷ is) h some = omega (arith, some_size at i h.0, behind_over (at + size_at at i) is)

module _ (k : Method) (a : Opening) (e : Ending) where
  abbrev pub bs : List Block
  bs = wrapper_blocks k a e

  abbrev c : ℕ
  c = k.places

  abbrev pub given : Option Sort
  given = option_map result_sort k.result

  pub jump_in : (Z : Pool) (o : ℕ) → IsShaped (jump o 1) → FitPoolAs Z (form_of o) (jump o 1).operands → IsIn Z (wrapper_blocks k a e) (jump o 1)
  jump_in Z o s f = record { shaped = s; fits = f; leads = (refl, tt) }

  module _ (Z : Pool) (n : ℕ) (attempts : ℤ) (O : IsOpening n attempts Z a) (E : IsEnding (duplicate_named k.name) Z e) (few : k.places ≤ 254) (long : length k.parameters ≤ 254) where
    abbrev In : Instr → Type 0
    In i = IsIn Z (wrapper_blocks k a e) i

    in_load : (s : Sort) (i : ℕ) → i < 65536 → IsIn Z (wrapper_blocks k a e) (load s i)
    in_load s i h = one_in Z (wrapper_blocks k a e) (load s i) (load_laid Z s i h)

    in_store : (s : Sort) (i : ℕ) → i < 65536 → IsIn Z (wrapper_blocks k a e) (store s i)
    in_store s i h = one_in Z (wrapper_blocks k a e) (store s i) (store_laid Z s i h)

    entry_in : AllByRecursion (IsIn Z (wrapper_blocks k a e)) (entry_instrs k.places a)
    entry_in = (one_in Z (wrapper_blocks k a e) (call_static a.get) (call_static_laid Z a.get _ O.get.1 O.get.0), (in_store sort.Reference k.places (omega (arith, few)), tt))

    begin_in : AllByRecursion (IsIn Z (wrapper_blocks k a e)) (begin_instrs k.places a)
    begin_in = (
      in_load sort.Reference k.places (omega (arith, few)),
      (
        one_in Z (wrapper_blocks k a e) (naming 19 a.number) (int_laid Z a.number _ O.number.1 O.number.0),
        (one_in Z (wrapper_blocks k a e) (naming 19 a.retries) (int_laid Z a.retries _ O.retries.1 O.retries.0), (one_in Z (wrapper_blocks k a e) (call_virtual a.init) (call_virtual_laid Z a.init _ O.init.1 O.init.0), tt)),
      ),
    )

    duplicate_laid : (d : Dispatch) → IsLaid Z (call_duplicate d e.duplicate)
    duplicate_laid dispatch.Static = call_static_laid Z e.duplicate _ E.duplicate.1 E.duplicate.0
    duplicate_laid dispatch.Exact = call_special_laid Z e.duplicate _ E.duplicate.1 E.duplicate.0
    duplicate_laid dispatch.Virtual = call_special_laid Z e.duplicate _ E.duplicate.1 E.duplicate.0
    duplicate_laid dispatch.Abstract = call_special_laid Z e.duplicate _ E.duplicate.1 E.duplicate.0

    body_in : AllByRecursion (IsIn Z (wrapper_blocks k a e)) (body_instrs k e)
    body_in = join_all (IsIn Z (wrapper_blocks k a e)) (loads_from 0 k.parameters) (load sort.Reference k.places ∷ call_duplicate k.dispatch e.duplicate ∷ []) (all_in Z (wrapper_blocks k a e) (loads_from 0 k.parameters) (loads_laid Z 0 k.parameters (omega (arith, few, long))))
        (in_load sort.Reference k.places (omega (arith, few)), (one_in Z (wrapper_blocks k a e) (call_duplicate k.dispatch e.duplicate) (duplicate_laid k.dispatch), tt))

    commit_in : AllByRecursion (IsIn Z (wrapper_blocks k a e)) (commit_instrs k.places e)
    commit_in = (in_load sort.Reference k.places (omega (arith, few)), (one_in Z (wrapper_blocks k a e) (call_virtual e.commit) (call_virtual_laid Z e.commit _ E.commit.1 E.commit.0), (jump_in Z 153 (record { op = omega arith; operands = tt }) tt, tt)))

    keeps_in : (s : Option Sort) → AllByRecursion (IsIn Z (wrapper_blocks k a e)) (keeps s k.places)
    keeps_in None = tt
    keeps_in (Some s) = (in_store s (k.places + 1) (omega (arith, few)), tt)

    answers_in : (s : Option Sort) → AllByRecursion (IsIn Z (wrapper_blocks k a e)) (answers s k.places)
    answers_in None = (one_in Z (wrapper_blocks k a e) (plain 177) (plain_laid Z 177 (omega arith) tt tt), tt)
    answers_in (Some s) = (in_load s (k.places + 1) (omega (arith, few)), (one_in Z (wrapper_blocks k a e) (give s) (give_laid Z s), tt))

    end_in : (s : Option Sort) → AllByRecursion (IsIn Z (wrapper_blocks k a e)) (end_instrs s k.places e)
    end_in s = join_all (IsIn Z (wrapper_blocks k a e)) (keeps s k.places ++ commit_instrs k.places e) (answers s k.places) (join_all (IsIn Z (wrapper_blocks k a e)) (keeps s k.places) (commit_instrs k.places e) (keeps_in s) commit_in) (answers_in s)

    conflict_in : AllByRecursion (IsIn Z (wrapper_blocks k a e)) (conflict_instrs k.places e)
    conflict_in = (
      one_in Z (wrapper_blocks k a e) (plain 87) (plain_laid Z 87 (omega arith) tt tt),
      (
        in_load sort.Reference k.places (omega (arith, few)),
        (one_in Z (wrapper_blocks k a e) (call_virtual e.rollback) (call_virtual_laid Z e.rollback _ E.rollback.1 E.rollback.0), (jump_in Z 167 (record { op = omega arith; operands = tt }) tt, tt)),
      ),
    )

    exception_in : AllByRecursion (IsIn Z (wrapper_blocks k a e)) (exception_instrs k.places e)
    exception_in = join_all (IsIn Z (wrapper_blocks k a e)) (store sort.Reference (k.places + 1) ∷ commit_instrs k.places e) (load sort.Reference (k.places + 1) ∷ plain 191 ∷ []) (in_store sort.Reference (k.places + 1) (omega (arith, few)), commit_in)
        (in_load sort.Reference (k.places + 1) (omega (arith, few)), (one_in Z (wrapper_blocks k a e) (plain 191) (plain_laid Z 191 (omega arith) tt tt), tt))

    pub each_in : EachInstr (IsIn Z (wrapper_blocks k a e)) (wrapper_blocks k a e)
    each_in = (entry_in, (begin_in, (body_in, (end_in (option_map result_sort k.result), (conflict_in, (exception_in, tt))))))

    of_blocks : (P Q : Instr → Type 0) → ((is : List Instr) → AllByRecursion P is → AllByRecursion Q is) → (xs : List Block) → EachInstr P xs → EachInstr Q xs
    of_blocks P Q f [] h = tt
    of_blocks P Q f (x ∷ xs) h = (f x.instrs h.0, of_blocks P Q f xs h.1)

    pub shaped_in : EachInstr IsShaped (wrapper_blocks k a e)
    shaped_in = of_blocks (IsIn Z (wrapper_blocks k a e)) IsShaped (shaped_all Z (wrapper_blocks k a e)) (wrapper_blocks k a e) each_in

    pub fits_in : EachInstr (Fits Z) (wrapper_blocks k a e)
    fits_in = of_blocks (IsIn Z (wrapper_blocks k a e)) (Fits Z) (fits_all Z (wrapper_blocks k a e)) (wrapper_blocks k a e) each_in

    pub blocks_fit : AreBlocks (wrapper_blocks k a e) (wrapper_handlers e.conflict) None []
    blocks_fit = record {
      ascend = (omega arith, (omega arith, (omega arith, (omega arith, (omega arith, (omega arith, tt))))));
      each = shaped_in;
      targets = of_blocks (IsIn Z (wrapper_blocks k a e)) (λ (i : Instr). ArePcs (wrapper_blocks k a e) (targets_of i.operands)) (leads_all Z (wrapper_blocks k a e)) (wrapper_blocks k a e) each_in;
      each_last = tt;
      last_leads_nowhere = tt;
      entries = (record { start = refl; end = inl refl; handler = refl }, (record { start = refl; end = inl refl; handler = refl }, tt));
      room = tt;
    }

    end_some : (s : Option Sort) → 0 < length (end_instrs s k.places e)
    end_some s = omega (arith, length-append (keeps s k.places ++ commit_instrs k.places e) (answers s k.places), length-append (keeps s k.places) (commit_instrs k.places e))

    body_some : 0 < length (body_instrs k e)
    body_some = omega (arith, length-append (loads_from 0 k.parameters) (load sort.Reference k.places ∷ call_duplicate k.dispatch e.duplicate ∷ []))

    pub have_instrs : HaveInstrs (wrapper_blocks k a e)
    have_instrs = (omega arith, (omega arith, (body_some, (end_some (option_map result_sort k.result), (omega arith, (omega arith, tt))))))

    -- each block behind the one before
    pub after_body : place_of (wrapper_blocks k a e) 2 < place_of (wrapper_blocks k a e) 3
    after_body = behind_some (place_of (wrapper_blocks k a e) 2) (body_instrs k e) (shaped_all Z (wrapper_blocks k a e) (body_instrs k e) body_in) body_some

    pub after_end : place_of (wrapper_blocks k a e) 3 < place_of (wrapper_blocks k a e) 4
    after_end = behind_some (place_of (wrapper_blocks k a e) 3) (end_instrs (option_map result_sort k.result) k.places e) (shaped_all Z (wrapper_blocks k a e) _ (end_in (option_map result_sort k.result))) (end_some (option_map result_sort k.result))

    pub after_conflict : place_of (wrapper_blocks k a e) 4 < place_of (wrapper_blocks k a e) 5
    after_conflict = behind_some (place_of (wrapper_blocks k a e) 4) (conflict_instrs k.places e) (shaped_all Z (wrapper_blocks k a e) (conflict_instrs k.places e) conflict_in) (omega arith)

    pub after_exception : place_of (wrapper_blocks k a e) 5 < behind (place_of (wrapper_blocks k a e) 5) (exception_instrs k.places e)
    after_exception = behind_some (place_of (wrapper_blocks k a e) 5) (exception_instrs k.places e) (shaped_all Z (wrapper_blocks k a e) (exception_instrs k.places e) exception_in) (omega arith)

  -- ---- all instructions

  abbrev rest5 : List Block
  rest5 = block 5 (exception_instrs k.places e) ∷ []

  abbrev rest4 : List Block
  rest4 = block 4 (conflict_instrs k.places e) ∷ rest5

  abbrev rest3 : List Block
  rest3 = block 3 (end_instrs (option_map result_sort k.result) k.places e) ∷ rest4

  abbrev rest2 : List Block
  rest2 = block 2 (body_instrs k e) ∷ rest3

  abbrev rest1 : List Block
  rest1 = block 1 (begin_instrs k.places a) ∷ rest2

  abbrev pub parts : List Instr
  parts = entry_instrs k.places a ++ (begin_instrs k.places a ++ (body_instrs k e ++ (end_instrs (option_map result_sort k.result) k.places e ++ (conflict_instrs k.places e ++ exception_instrs k.places e))))

  pub parts_are : all_instrs (wrapper_blocks k a e) ++ [] ≡ parts
  parts_are =
      append-nil (all_instrs (wrapper_blocks k a e)) ∙ all_cons (block 0 (entry_instrs k.places a)) rest1
      ∙ ap (λ (l : List Instr). entry_instrs k.places a ++ l) (all_cons (block 1 (begin_instrs k.places a)) rest2
      ∙ ap (λ (l : List Instr). begin_instrs k.places a ++ l) (all_cons (block 2 (body_instrs k e)) rest3
      ∙ ap (λ (l : List Instr). body_instrs k e ++ l) (all_cons (block 3 (end_instrs (option_map result_sort k.result) k.places e)) rest4
      ∙ ap (λ (l : List Instr). end_instrs (option_map result_sort k.result) k.places e ++ l) (all_cons (block 4 (conflict_instrs k.places e)) rest5
      ∙ ap (λ (l : List Instr). conflict_instrs k.places e ++ l) (all_cons (block 5 (exception_instrs k.places e)) [] ∙ append-nil (exception_instrs k.places e))))))

  pub behind_all : behind 0 (all_instrs (wrapper_blocks k a e) ++ []) ≡ behind (place_of (wrapper_blocks k a e) 5) (exception_instrs k.places e)
  behind_all =
      ap (behind 0) parts_are
      ∙ behind_append 0 (entry_instrs k.places a) (begin_instrs k.places a ++ (body_instrs k e ++ (end_instrs (option_map result_sort k.result) k.places e ++ (conflict_instrs k.places e ++ exception_instrs k.places e))))
      ∙ behind_append _ (begin_instrs k.places a) (body_instrs k e ++ (end_instrs (option_map result_sort k.result) k.places e ++ (conflict_instrs k.places e ++ exception_instrs k.places e)))
      ∙ behind_append _ (body_instrs k e) (end_instrs (option_map result_sort k.result) k.places e ++ (conflict_instrs k.places e ++ exception_instrs k.places e))
      ∙ behind_append _ (end_instrs (option_map result_sort k.result) k.places e) (conflict_instrs k.places e ++ exception_instrs k.places e)
      ∙ behind_append _ (conflict_instrs k.places e) (exception_instrs k.places e)
