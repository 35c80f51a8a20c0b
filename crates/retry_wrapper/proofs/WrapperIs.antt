-- A wrapper means what the rewriting says.
use Rattle.std.proofs.Common.{◌≡◌, ℕ, ◌+◌, ◌<◌, ◌≤◌, ℤ, max, Bool, true, false, ◌||◌, List, [], ◌∷◌, ◌++◌, length, map, Option, Some, None, Result, Ok, Err, refl, sym, ap, ◌∙◌, arith, inl, inr}
use Rattle.std.specs.Prelude.{codes, pos, option_and_then, nat_lt, slice_get, set, FitsSigned}
use Rattle.std.specs.Int.{w32}
use Rattle.std.proofs.lemmas.Bool.Decides.{nat_tests}
use Rattle.std.proofs.lemmas.List.{get_or-set_same, length-set}
use Rattle.std.proofs.lemmas.Option.{slice_get_within, slice_get-get_or}
use Rattle.jmodel.specs.declared.class_file.Handler.{Handler}
use Rattle.jmodel.specs.declared.name.MethodName.{MethodName}
use Rattle.jmodel.specs.declared.refusal.Refusal.{Refusal}
use Rattle.jmodel.specs.declared.typing.VType.{VType}
use Rattle.jmodel.specs.declared.typing.VType.TheVariants as type
use Rattle.jmodel.specs.declared.instruction.Instr.{Instr}
use Rattle.jmodel.specs.format.ClassFile.{Member, Pool, ClassFile, Code, code_spelling}
use Rattle.jmodel.specs.format.ClassRules.{IsCode}
use Rattle.jmodel.specs.format.ClassReading.{code_of}
use Rattle.objects.specs.linking.Classes.{full_name}
use Rattle.objects.specs.linking.Code.{Coded, code_in, retries_of}
use Rattle.jmodel.specs.format.Constants.{as_int}
use Rattle.jmodel.specs.format.Instruction.{SpellsInstrs}
use Rattle.jmodel.specs.format.InstructionReading.{instrs_of}
use Rattle.jmodel.specs.format.Name.{printed}
use Rattle.jmodel.specs.format.Relocation.{Block, all_instrs, behind, place_of, relocated, relocate, moved, laid_out, far_block}
use Rattle.objects.proofs.Narrow.{narrow}
use Rattle.objects.specs.declared.op.Dispatch.{Dispatch}
use Rattle.objects.specs.declared.op.Op.{Op}
use Rattle.objects.specs.declared.op.Catch.{Catch}
use Rattle.objects.specs.declared.op.Catches.TheVariants.{Conflict, Any}
use Rattle.objects.specs.semantics.Program.{Method, Program}
use Rattle.objects.specs.linking.Decoding.{Symbols}
use Rattle.objects.specs.linking.Linking.{receiver_types, parameter_types, result_type, dispatch_of, signature_in, shaped, decoded_member}
use Rattle.objects.specs.rewriting.Relinking.{decoded_or_none}
use Rattle.objects.specs.rewriting.Rewriting.{duplicate, spare_locals, body_end, conflict_at, catch, wrapper_method}
use Rattle.const_pool.proofs.Takes.{bind_ok, guard_ok, ok_is}
use Rattle.const_pool.proofs.Parts.{code_is_read}
use Rattle.bytecode.proofs.LaidLaws.{spelled_is}
use Rattle.bytecode.proofs.RelocationLaws.{whole_long}
use Rattle.member_code.specs.Coding.{too_many, of_method, laid_code, laid_bytes}
use Rattle.member_code.specs.Meaning.{meaning}
use Rattle.member_code.specs.Names.{duplicate_named}
use Rattle.member_code.proofs.Grown.{Grown, grown_trans}
use Rattle.member_code.proofs.Straight.{IsRelocated, relocated_ok, laid_read, no_attributes}
use Rattle.retry_wrapper.specs.Wrappers.{Opening, Ending, few_arguments, few_wrappers, wrapper_blocks, wrapper_handlers, wrapper_bytes, with_code, wrapper_of, and_method, with_wrapper_of}
use Rattle.retry_wrapper.specs.WrapperLaw.{HasCode, IsRoot, WrapperLaw}
use Rattle.retry_wrapper.proofs.Gets.{IsOpening, IsEnding, IsWrapper, wrapper_made}
use Rattle.retry_wrapper.proofs.Loop.{blocks_fit, have_instrs, fits_in, after_body, after_end, after_conflict, after_exception, behind_all}
use Rattle.retry_wrapper.proofs.Meant.{wrapper_ops, ops_are, catches_are}
use Rattle.retry_wrapper.proofs.Swapped.{code_swapped, retries_stay}

-- ---- limits that are kept

first_fails : (a b : Bool) → (a || b) ≡ false → a ≡ false
first_fails true b h = cc
first_fails false b h = refl

not_more : (n : ℕ) → nat_lt 254 n ≡ false → n ≤ 254
not_more n h = grind (arith, nat_tests)

few_is : (k : Method) → few_arguments k ≡ Ok tt → k.places ≤ 254
unfolding few_arguments
few_is k e = let t = guard_ok (nat_lt 254 k.places || nat_lt 254 (length k.parameters)) (too_many (printed k.name) (codes "Arguments")) (Ok tt) tt e in not_more k.places (first_fails (nat_lt 254 k.places) (nat_lt 254 (length k.parameters)) t.0)

number_is : (n : ℕ) → few_wrappers n ≡ Ok tt → n < 2147483648
unfolding few_wrappers
number_is n e = let t = guard_ok (nat_lt 2147483647 n) _ (Ok tt) tt e in let no = t.0 in grind (arith, nat_tests)

spare_few : (t : Option VType) → spare_locals t ≤ 3
spare_few None = omega arith
spare_few (Some type.Long) = omega arith
spare_few (Some type.Int) = omega arith
spare_few (Some type.Second) = omega arith
spare_few (Some type.Null) = omega arith
spare_few (Some (type.Ref n)) = omega arith
spare_few (Some (type.Uninit n)) = omega arith
spare_few (Some type.UninitThis) = omega arith
spare_few (Some type.Top) = omega arith

greater : (n : ℕ) → n ≤ 254 → max (n + 1) 3 < 65536
greater n h = grind (arith, nat_tests)

of_method_ok : {A : Type 0} (name : List ℕ) (r : Result A Refusal) (x : A) → of_method name r ≡ Ok x → r ≡ Ok x
of_method_ok name (Ok y) x e = e
of_method_ok name (Err y) x e = cc

-- ---- its code

-- the handlers of what was laid
handlers_are : (bs : List Block) (hs : List Handler) (stub : List Instr) (x : List ℕ × List Handler) → relocate bs hs None stub ≡ Ok x → x.1 ≡ map (moved (place_of bs)) hs
handlers_are bs hs stub x e = let g = guard_ok _ _ (laid_out (far_block (place_of bs) 0 bs) bs hs None stub) x e in go (far_block (place_of bs) 0 bs) g.1
  where
    go : (o : Option ℕ) → laid_out o bs hs None stub ≡ Ok x → x.1 ≡ map (moved (place_of bs)) hs
    go None h = sym (ap (λ (y : List ℕ × List Handler). y.1) (ok_is _ x h))
    go (Some pc) h = cc

abbrev code_with : ℕ → ℕ → List ℕ → List Handler → Code
code_with max_stack max_locals code handlers = record { max_stack = max_stack; max_locals = max_locals; code = code; handlers = handlers; attributes = [] }

-- the code of a wrapper
pub record IsLoop (k : Method) (a : Opening) (e : Ending) (bytes : List ℕ) : Type 0 where
  pub code : List ℕ
  pub laid : relocate (wrapper_blocks k a e) (wrapper_handlers e.conflict) None [] ≡ Ok (code, map (moved (place_of (wrapper_blocks k a e))) (wrapper_handlers e.conflict))
  pub bytes_are : bytes ≡ code_spelling (code_with (max (k.places + 1) 3) (k.places + spare_locals k.result) code (map (moved (place_of (wrapper_blocks k a e))) (wrapper_handlers e.conflict)))

loop_is : (k : Method) (a : Opening) (e : Ending) (bytes : List ℕ) → wrapper_bytes k a e ≡ Ok bytes → IsLoop k a e bytes
unfolding wrapper_bytes
loop_is k a e bytes h =
    let most : ℕ = max (k.places + 1) 3 in
    let locals : ℕ = k.places + spare_locals k.result in
    let told = of_method_ok (printed k.name) (laid_bytes (max (k.places + 1) 3) (k.places + spare_locals k.result) (wrapper_blocks k a e) (wrapper_handlers e.conflict) None []) bytes h in
    let b = bind_ok (laid_code (max (k.places + 1) 3) (k.places + spare_locals k.result) (wrapper_blocks k a e) (wrapper_handlers e.conflict) None []) (λ code. Ok (code_spelling code)) bytes told in
    let x = bind_ok (relocate (wrapper_blocks k a e) (wrapper_handlers e.conflict) None []) (λ laid. Ok (code_with (max (k.places + 1) 3) (k.places + spare_locals k.result) laid.0 laid.1)) b.0 b.1 in
    let hs = handlers_are (wrapper_blocks k a e) (wrapper_handlers e.conflict) [] x.0 x.1 in
    record {
      code = x.0.0;
      laid = x.1 ∙ ap (λ (l : List Handler). Ok (x.0.0, l)) hs;
      bytes_are = sym (ok_is (code_spelling b.0) bytes b.2) ∙ ap code_spelling (sym (ok_is (code_with (max (k.places + 1) 3) (k.places + spare_locals k.result) x.0.0 x.0.1) b.0 x.2))
          ∙ ap (λ (l : List Handler). code_spelling (code_with (max (k.places + 1) 3) (k.places + spare_locals k.result) x.0.0 l)) hs;
    }

module _ (P : Program) (n j : ℕ) (attempts : ℤ) (k : Method) (m : Member) (pool : Pool) (r : Member × Pool) (s : Symbols) (w : IsWrapper n attempts k m pool r) (G : Grown r.1 s.class.pool) (fits : FitsSigned w32 attempts) (C : HasCode pool m) (R : IsRoot s m k (duplicate P j)) where
  abbrev a : Opening
  a = w.opening

  abbrev e : Ending
  e = w.ending

  abbrev Z : Pool
  Z = s.class.pool

  few : k.places ≤ 254
  few = few_is k w.few

  params : length k.parameters ≤ 254
  params = omega (arith, few, R.places)

  number : as_int (pos n) ≡ pos n
  number = narrow (pos n) (record { sfits = number_is n w.number })

  loop : IsLoop k w.opening w.ending w.bytes
  loop = loop_is k w.opening w.ending w.bytes w.laid

  abbrev hs : List Handler
  hs = map (moved (place_of (wrapper_blocks k w.opening w.ending))) (wrapper_handlers w.ending.conflict)

  abbrev code : Code
  code = code_with (max (k.places + 1) 3) (k.places + spare_locals k.result) loop.code hs

  abbrev made : Member
  made = with_code r.1 w.bytes m

  opens : IsOpening n attempts s.class.pool w.opening
  opens = w.opens s.class.pool G

  ends : IsEnding (duplicate_named k.name) s.class.pool w.ending
  ends = w.ends s.class.pool G

  rel : IsRelocated (wrapper_blocks k w.opening w.ending) (wrapper_handlers w.ending.conflict) [] (loop.code, hs)
  rel = relocated_ok (wrapper_blocks k w.opening w.ending) (wrapper_handlers w.ending.conflict) None [] (loop.code, hs) loop.laid

  spelled : SpellsInstrs s.class.pool hs loop.code (relocated (wrapper_blocks k w.opening w.ending) [])
  spelled = spelled_is s.class.pool (wrapper_blocks k w.opening w.ending) (wrapper_handlers w.ending.conflict) None [] loop.code hs
      (blocks_fit k w.opening w.ending s.class.pool n attempts opens ends few params) (have_instrs k w.opening w.ending s.class.pool n attempts opens ends few params) tt
      (fits_in k w.opening w.ending s.class.pool n attempts opens ends few params) tt loop.laid

  read : instrs_of s.class.pool hs loop.code ≡ Ok (relocated (wrapper_blocks k w.opening w.ending) [])
  read = laid_read s.class.pool (wrapper_blocks k w.opening w.ending) (wrapper_handlers w.ending.conflict) hs [] loop.code rel spelled

  long : length loop.code ≡ behind 0 (all_instrs (wrapper_blocks k w.opening w.ending) ++ [])
  long = ap length rel.code ∙ whole_long (wrapper_blocks k w.opening w.ending) []

  rules : IsCode s.class.pool code
  rules =
      let l0 = after_body k w.opening w.ending s.class.pool n attempts opens ends few params in
      let l1 = after_end k w.opening w.ending s.class.pool n attempts opens ends few params in
      let l2 = after_conflict k w.opening w.ending s.class.pool n attempts opens ends few params in
      let l3 = after_exception k w.opening w.ending s.class.pool n attempts opens ends few params in
      let l4 = behind_all k w.opening w.ending in
      let class = ends.conflict.0 in
      record {
        stack = omega (arith, greater k.places few);
        locals = omega (arith, few, spare_few k.result);
        some = omega (arith, long, l0, l1, l2, l3, l4);
        short = omega (arith, ap length rel.code, rel.short);
        few = omega arith;
        handlers = (
          record { some = l0; inside = omega (arith, long, l1, l2, l3, l4); target = omega (arith, long, l2, l3, l4); catches = inr (rw class refl); class = omega (arith, ends.conflict.2) },
          (record { some = l0; inside = omega (arith, long, l1, l2, l3, l4); target = omega (arith, long, l3, l4); catches = inl refl; class = omega arith }, tt),
        );
        attributes = no_attributes s.class.pool;
      }

  back : code_of s.class.pool w.bytes ≡ Some code
  back = code_is_read s.class.pool w.bytes code (record { code = rules; is = loop.bytes_are })

  in_member : code_in s.class.pool made ≡ Some code
  in_member = code_swapped pool r.1 s.class.pool w.grown (grown_trans pool r.1 s.class.pool w.grown G) w.bytes m.attributes C.attributes C.there ∙ back

  abbrev coded : Coded
  coded = record { code = code; instrs = relocated (wrapper_blocks k w.opening w.ending) [] }

  decoded_is : decoded_member (record { class = s.class; member = made }) ≡ Ok (Some coded)
  decoded_is = let f = C.flags in let x = in_member in let y = read in rw f (rw x (rw y refl))

  abbrev ops : List Op
  ops = wrapper_ops k w.opening w.ending s n (duplicate P j) attempts opens ends R.duplicate number (narrow attempts fits)

  abbrev catches : List Catch
  catches = catch 6 (body_end k) (conflict_at k) Conflict ∷ catch 6 (body_end k) (conflict_at k + 4) Any ∷ []

  abbrev made_as : MethodName → Dispatch → List VType → ℕ → Option VType → Option ℤ → Method
  made_as name found takes places gives retries = record {
    name = name;
    dispatch = found;
    parameters = takes;
    places = places;
    locals = k.places + spare_locals k.result;
    max_stack = max (k.places + 1) 3;
    result = gives;
    counted = false;
    retries = retries;
    ops = ops;
    catches = catches;
  }

  abbrev types : List VType
  types = receiver_types s.classes s.class m ++ parameter_types s.classes R.signature

  shape_is : shaped s false made (Some coded) R.signature ≡ Some (made_as (full_name (record { class = s.class; member = m })) (dispatch_of s.class m) types (length types) (result_type s.classes R.signature) (retries_of s.class.pool made))
  shape_is =
      let x = ops_are k w.opening w.ending s n (duplicate P j) attempts opens ends R.duplicate number (narrow attempts fits) few params in
      let y = catches_are k w.opening w.ending s n (duplicate P j) attempts opens ends R.duplicate number (narrow attempts fits) few params (length loop.code) long in
      rw x (rw y refl)

  retries_are : retries_of s.class.pool made ≡ k.retries
  retries_are = retries_stay pool r.1 s.class.pool w.grown (grown_trans pool r.1 s.class.pool w.grown G) w.bytes m C.attributes ∙ R.retries

  same : made_as (full_name (record { class = s.class; member = m })) (dispatch_of s.class m) types (length types) (result_type s.classes R.signature) (retries_of s.class.pool made) ≡ wrapper_method P n j attempts k
  same =
      ap (λ (x : MethodName). made_as x (dispatch_of s.class m) types (length types) (result_type s.classes R.signature) (retries_of s.class.pool made)) R.name
      ∙ ap (λ (x : Dispatch). made_as k.name x types (length types) (result_type s.classes R.signature) (retries_of s.class.pool made)) R.dispatch
      ∙ ap (λ (x : List VType). made_as k.name k.dispatch x (length x) (result_type s.classes R.signature) (retries_of s.class.pool made)) R.parameters
      ∙ ap (λ (x : ℕ). made_as k.name k.dispatch k.parameters x (result_type s.classes R.signature) (retries_of s.class.pool made)) R.places
      ∙ ap (λ (x : Option VType). made_as k.name k.dispatch k.parameters k.places x (retries_of s.class.pool made)) R.result
      ∙ ap (λ (x : Option ℤ). made_as k.name k.dispatch k.parameters k.places k.result x) retries_are

  pub wrapper_is : meaning s false r.0 ≡ Some (wrapper_method P n j attempts k)
  wrapper_is =
      ap (meaning s false) w.is
      ∙ ap (λ (x : Result (Option Coded) Refusal). option_and_then (λ y. option_and_then (shaped s false made y) (signature_in (record { class = s.class; member = made }))) (decoded_or_none x)) decoded_is
      ∙ ap (option_and_then (shaped s false made (Some coded))) R.signed
      ∙ shape_is
      ∙ ap (λ (x : Method). Some x) same

-- what stands at a place that was written
set_there : {A : Type 0} (xs : List A) (i : ℕ) (x y : A) → slice_get xs i ≡ Some x → slice_get (set xs i y) i ≡ Some y
set_there {A} xs i x y e =
    let within = slice_get_within xs i x e in
    let inside : i < length (set xs i y) = omega (arith, within, length-set xs i y) in
    slice_get-get_or (set xs i y) i y inside ∙ ap (λ (z : A). Some z) (get_or-set_same xs i y y within)

pub wrapper_law_is : WrapperLaw
wrapper_law_is P n j i attempts k m old new s short fits at C e longer R =
    let there : with_wrapper_of n attempts k old i (Some m) ≡ Ok new = ap (with_wrapper_of n attempts k old i) (sym at) ∙ e in
    let a = bind_ok (wrapper_of n attempts k m old.pool) (λ wrapper. Ok (and_method old i wrapper.0 wrapper.1)) new there in
    let w = wrapper_made n attempts k m old.pool a.0 short a.1 in
    let is = ok_is (and_method old i a.0.0 a.0.1) new a.2 in
    let grown : Grown a.0.1 s.class.pool = record { more = longer.0; is = longer.1 ∙ ap (λ (c : ClassFile). c.pool ++ longer.0) (sym is) } in
    ap (λ (c : ClassFile). option_and_then (meaning s false) (slice_get c.methods i)) (sym is)
    ∙ ap (option_and_then (meaning s false)) (set_there old.methods i m a.0.0 at)
    ∙ wrapper_is P n j attempts k m old.pool a.0 s w grown fits C R
