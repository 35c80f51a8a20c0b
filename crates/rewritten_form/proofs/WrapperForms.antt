-- The wrapper of a method is a method.
use Rattle.std.proofs.Common.{◌≡◌, ℕ, ℤ, ◌+◌, ◌<◌, ◌≤◌, max, Bool, true, false, ◌||◌, List, [], ◌∷◌, length, Option, Some, None, Result, Ok, Err, refl, subst, sym, ap, ◌∙◌, arith, inl, inr}
use Rattle.std.specs.Prelude.{nat_lt, codes, option_map}
use Rattle.std.specs.List.{AllByRecursion}
use Rattle.std.proofs.lemmas.Bool.Decides.{nat_tests}
use Rattle.jmodel.specs.declared.class_file.Handler.{Handler}
use Rattle.jmodel.specs.declared.refusal.Refusal.{Refusal}
use Rattle.jmodel.specs.declared.typing.VType.{VType}
use Rattle.jmodel.specs.declared.typing.VType.TheVariants as type
use Rattle.jmodel.specs.format.ClassFile.{Member, Pool, Code, code_spelling}
use Rattle.jmodel.specs.format.ClassRules.{IsCode, IsHandler, IsMethod}
use Rattle.jmodel.specs.format.Name.{printed}
use Rattle.jmodel.specs.format.Relocation.{all_instrs, behind, relocate}
use Rattle.bytecode.proofs.BlockLaws.{behind_append, behind_block}
use Rattle.bytecode.proofs.SizeLaws.{behind_over}
use Rattle.bytecode.proofs.LaidLaws.{done}
use Rattle.bytecode.proofs.RelocationLaws.{whole_long}
use Rattle.objects.specs.semantics.Program.{Method}
use Rattle.objects.specs.rewriting.Rewriting.{spare_locals, result_sort}
use Rattle.const_pool.proofs.Takes.{bind_ok, guard_ok, ok_is}
use Rattle.member_code.specs.Coding.{too_many, block, of_method, laid_code, laid_bytes}
use Rattle.member_code.specs.Names.{duplicate_named}
use Rattle.member_code.proofs.Grown.{Grown, grown_refl}
use Rattle.member_code.proofs.Straight.{no_attributes}
use Rattle.retry_wrapper.specs.declared.wrappers.Opening.{Opening}
use Rattle.retry_wrapper.specs.declared.wrappers.Ending.{Ending}
use Rattle.retry_wrapper.specs.Wrappers.{few_arguments, entry_instrs, begin_instrs, body_instrs, end_instrs, conflict_instrs, exception_instrs, wrapper_blocks, wrapper_handlers, wrapper_bytes, wrapper_of}
use Rattle.retry_wrapper.proofs.Gets.{IsOpening, IsEnding, IsWrapper, wrapper_made}
use Rattle.retry_wrapper.proofs.Loop.{blocks_fit, have_instrs}
use Rattle.rewritten_form.proofs.PlacesOfBlocks.{behind_some, all_moved}
use Rattle.rewritten_form.proofs.CodeForms.{swapped_form}

-- ---- limits that are kept

none_first : (a b : Bool) → (a || b) ≡ false → (a ≡ false) × (b ≡ false)
none_first true b h = cc
none_first false b h = (refl, h)

not_more : (n : ℕ) → nat_lt 254 n ≡ false → n ≤ 254
not_more n h = grind (arith, nat_tests)

few_is : (k : Method) → few_arguments k ≡ Ok tt → (k.places ≤ 254) × (length k.parameters ≤ 254)
unfolding few_arguments
few_is k e =
    let t = guard_ok (nat_lt 254 k.places || nat_lt 254 (length k.parameters)) (too_many (printed k.name) (codes "Arguments")) (Ok tt) tt e in
    let a = none_first (nat_lt 254 k.places) (nat_lt 254 (length k.parameters)) t.0 in
    (not_more k.places a.0, not_more (length k.parameters) a.1)

spare_few : (t : Option VType) → spare_locals t ≤ 3
spare_few None = omega arith
spare_few (Some type.Long) = omega arith
spare_few (Some type.Int) = omega arith
spare_few (Some type.Second) = omega arith
spare_few (Some type.Null) = omega arith
spare_few (Some (type.Ref n)) = omega arith
spare_few (Some (type.Uninit n)) = omega arith
spare_few (Some type.UninitThis) = omega arith
spare_few (Some type.Top) = omega arith

greater : (n : ℕ) → n ≤ 254 → max (n + 1) 3 < 65536
greater n h = grind (arith, nat_tests)

-- ---- its code

of_method_ok : {A : Type 0} (name : List ℕ) (r : Result A Refusal) (x : A) → of_method name r ≡ Ok x → r ≡ Ok x
of_method_ok name (Ok y) x e = e
of_method_ok name (Err y) x e = cc

abbrev code_with : ℕ → ℕ → List ℕ → List Handler → Code
code_with max_stack max_locals code handlers = record { max_stack = max_stack; max_locals = max_locals; code = code; handlers = handlers; attributes = [] }

-- the code of a wrapper
record IsLoop (k : Method) (a : Opening) (e : Ending) (bytes : List ℕ) : Type 0 where
  code : List ℕ
  entries : List Handler
  laid : relocate (wrapper_blocks k a e) (wrapper_handlers e.conflict) None [] ≡ Ok (code, entries)
  bytes_are : bytes ≡ code_spelling (code_with (max (k.places + 1) 3) (k.places + spare_locals k.result) code entries)

loop_is : (k : Method) (a : Opening) (e : Ending) (bytes : List ℕ) → wrapper_bytes k a e ≡ Ok bytes → IsLoop k a e bytes
unfolding wrapper_bytes
loop_is k a e bytes h =
    let told = of_method_ok (printed k.name) (laid_bytes (max (k.places + 1) 3) (k.places + spare_locals k.result) (wrapper_blocks k a e) (wrapper_handlers e.conflict) None []) bytes h in
    let b = bind_ok (laid_code (max (k.places + 1) 3) (k.places + spare_locals k.result) (wrapper_blocks k a e) (wrapper_handlers e.conflict) None []) (λ code. Ok (code_spelling code)) bytes told in
    let x = bind_ok (relocate (wrapper_blocks k a e) (wrapper_handlers e.conflict) None []) (λ laid. Ok (code_with (max (k.places + 1) 3) (k.places + spare_locals k.result) laid.0 laid.1)) b.0 b.1 in
    record {
      code = x.0.0;
      entries = x.0.1;
      laid = x.1;
      bytes_are = sym (ok_is (code_spelling b.0) bytes b.2) ∙ ap code_spelling (sym (ok_is (code_with (max (k.places + 1) 3) (k.places + spare_locals k.result) x.0.0 x.0.1) b.0 x.2));
    }

module _ (n : ℕ) (attempts : ℤ) (k : Method) (m : Member) (pool : Pool) (r : Member × Pool) (w : IsWrapper n attempts k m pool r) where
  few : (k.places ≤ 254) × (length k.parameters ≤ 254)
  few = few_is k w.few

  opens : IsOpening n attempts r.1 w.opening
  opens = w.opens r.1 (grown_refl r.1)

  ends : IsEnding (duplicate_named k.name) r.1 w.ending
  ends = w.ends r.1 (grown_refl r.1)

  loop : IsLoop k w.opening w.ending w.bytes
  loop = loop_is k w.opening w.ending w.bytes w.laid

  code_rules : IsCode r.1 (code_with (max (k.places + 1) 3) (k.places + spare_locals k.result) loop.code loop.entries)
  code_rules =
      let bs = wrapper_blocks k w.opening w.ending in
      let hs = wrapper_handlers w.ending.conflict in
      let B = blocks_fit k w.opening w.ending r.1 n attempts opens ends few.0 few.1 in
      let some = have_instrs k w.opening w.ending r.1 n attempts opens ends few.0 few.1 in
      let d = done (wrapper_blocks k w.opening w.ending) (wrapper_handlers w.ending.conflict) None [] loop.code loop.entries loop.laid in
      let long = ap length d.spelled ∙ whole_long (wrapper_blocks k w.opening w.ending) [] in
      let whole = behind_append 0 (all_instrs (wrapper_blocks k w.opening w.ending)) [] in
      let class = ends.conflict.0 in
      let first : IsHandler r.1 6 (record { start = 2; end = 3; handler = 4; catch_type = w.ending.conflict }) = record { some = omega arith; inside = omega arith; target = omega arith; catches = inr (rw class refl); class = omega (arith, ends.conflict.2) } in
      let second : IsHandler r.1 6 (record { start = 2; end = 3; handler = 5; catch_type = 0 }) = record { some = omega arith; inside = omega arith; target = omega arith; catches = inl refl; class = omega arith } in
      let entries = all_moved r.1 r.1 (grown_refl r.1) (wrapper_blocks k w.opening w.ending) B.ascend some B.each 6 (length loop.code) (omega (arith, long, whole)) (wrapper_handlers w.ending.conflict) (first, (second, tt)) B.entries in
      let block0 = behind_block 0 (block 0 (entry_instrs k.places w.opening)) (block 1 (begin_instrs k.places w.opening) ∷ block 2 (body_instrs k w.ending) ∷ block 3 (end_instrs (option_map result_sort k.result) k.places w.ending) ∷ block 4 (conflict_instrs k.places w.ending) ∷ block 5 (exception_instrs k.places w.ending) ∷ []) in
      let begins = behind_some 0 (entry_instrs k.places w.opening) B.each.0 some.0 in
      let over = behind_over (behind 0 (entry_instrs k.places w.opening)) (all_instrs (block 1 (begin_instrs k.places w.opening) ∷ block 2 (body_instrs k w.ending) ∷ block 3 (end_instrs (option_map result_sort k.result) k.places w.ending) ∷ block 4 (conflict_instrs k.places w.ending) ∷ block 5 (exception_instrs k.places w.ending) ∷ [])) in
      record {
        stack = omega (arith, greater k.places few.0);
        locals = omega (arith, few.0, spare_few k.result);
        some = omega (arith, long, whole, block0, begins, over);
        short = omega (arith, long, d.fits);
        few = omega (arith, ap length d.entries);
        handlers = subst (AllByRecursion (IsHandler r.1 (length loop.code))) (sym d.entries) entries;
        attributes = no_attributes r.1;
      }

  wrapper_form : IsMethod pool m → IsMethod r.1 r.0
  wrapper_form h =
      subst (IsMethod r.1) (sym w.is)
      (swapped_form pool r.1 w.grown w.bytes m (code_with (max (k.places + 1) 3) (k.places + spare_locals k.result) loop.code loop.entries) h loop.bytes_are code_rules refl)

-- what a wrapper is
pub record IsWrapped (pool : Pool) (m : Member) (r : Member × Pool) : Type 0 where
  pub grown : Grown pool r.1
  pub form : IsMethod r.1 r.0
  pub name : r.0.name ≡ m.name
  pub descriptor : r.0.descriptor ≡ m.descriptor

pub wrapper_put : (n : ℕ) (attempts : ℤ) (k : Method) (m : Member) (pool : Pool) (r : Member × Pool) → length pool < 65535 → IsMethod pool m → wrapper_of n attempts k m pool ≡ Ok r → IsWrapped pool m r
wrapper_put n attempts k m pool r short h e =
    let w = wrapper_made n attempts k m pool r short e in
    record { grown = w.grown; form = wrapper_form n attempts k m pool r w h; name = ap (λ (x : Member). x.name) w.is; descriptor = ap (λ (x : Member). x.descriptor) w.is }
