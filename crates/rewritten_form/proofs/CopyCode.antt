-- The code of a duplicate keeps the rules of code.
use Rattle.std.proofs.Common.{◌≡◌, ℕ, ◌+◌, ◌<◌, ◌≤◌, Bool, true, false, ◌||◌, List, [], ◌∷◌, length, map, Option, Some, None, Result, Ok, Err, refl, subst, sym, ap, ◌∙◌, arith, inr, length-append}
use Rattle.std.specs.Prelude.{codes, nat_lt, slice_get}
use Rattle.std.specs.List.{AllByRecursion, list_any}
use Rattle.std.proofs.lemmas.Bool.Decides.{nat_tests}
use Rattle.std.proofs.lemmas.List.{length-map}
use Rattle.jmodel.specs.declared.class_file.Handler.{Handler}
use Rattle.jmodel.specs.declared.instruction.Instr.{Instr}
use Rattle.jmodel.specs.declared.refusal.Refusal.{Refusal}
use Rattle.jmodel.specs.format.ClassFile.{Pool, Code, code_spelling}
use Rattle.jmodel.specs.format.Pool.{MemberName}
use Rattle.jmodel.specs.format.ClassRules.{IsCode, IsHandler}
use Rattle.jmodel.specs.format.Name.{printed}
use Rattle.jmodel.specs.format.PoolAdding.{add_class}
use Rattle.jmodel.specs.format.Reading.{◌>>=◌}
use Rattle.jmodel.specs.format.Relocation.{Block, all_instrs, behind, end_of, relocate, moved, place_of, EachInstr, IsShaped, AreBlocks}
use Rattle.bytecode.specs.Relocated.{HaveInstrs}
use Rattle.bytecode.proofs.BlockLaws.{behind_append, behind_block}
use Rattle.bytecode.proofs.SizeLaws.{behind_over}
use Rattle.bytecode.proofs.LaidLaws.{done}
use Rattle.bytecode.proofs.RelocationLaws.{whole_long}
use Rattle.objects.specs.declared.op.Op.{Op}
use Rattle.objects.specs.declared.op.Op.TheVariants as op
use Rattle.objects.specs.semantics.Program.{Field, Method, field_at}
use Rattle.objects.specs.typing.Typing.{Types, types_at}
use Rattle.objects.specs.typing.TypeOrder.{conflict_class}
use Rattle.const_pool.proofs.Takes.{bind_ok, guard_ok, ok_is}
use Rattle.member_code.specs.Growing.{grow_from}
use Rattle.member_code.specs.Coding.{too_many, of_method, laid_code, laid_bytes}
use Rattle.member_code.proofs.Grown.{Grown, grown_trans}
use Rattle.member_code.proofs.Puts.{Puts, Adding, AllPut, IsClassAt, adds_all, adds_class}
use Rattle.member_code.proofs.Straight.{no_attributes}
use Rattle.dup_methods.specs.Originals.{Original}
use Rattle.dup_methods.specs.Limits.{FitsCount, calls_full, counts_full, is_full, is_far, added_locals, few_arguments, few_places}
use Rattle.dup_methods.specs.Duplicates.{called, stub, numbered_block, refs_of, duplicate_bytes}
use Rattle.dup_methods.proofs.BlockFacts.{IsKept, IsAccessorCall, IsDuplicateCall, IsInterfaceBlock, IsBlock, IsNumbered, adds_numbered}
use Rattle.dup_methods.proofs.Fitting.{counts_fit}
use Rattle.rewritten_form.proofs.PlacesOfBlocks.{behind_some, all_moved}

-- ---- limits that are kept

none_first : (a b : Bool) → (a || b) ≡ false → (a ≡ false) × (b ≡ false)
none_first true b h = cc
none_first false b h = (refl, h)

not_more : (m n : ℕ) → nat_lt m n ≡ false → n ≤ m
not_more m n h = grind (arith, nat_tests)

-- arguments that are few: those of the method, of each method that it calls, and those that are counted
pub record AreFew (O : Original) (is : List Instr) : Type 0 where
  pub places : O.method.places ≤ 254
  pub called : list_any (calls_full O.program) O.method.ops ≡ false
  pub counts : AllByRecursion FitsCount is

pub few_kept : (O : Original) (is : List Instr) → few_arguments O.program O.method is ≡ Ok tt → AreFew O is
unfolding few_arguments
few_kept O is e =
    let t = guard_ok (is_full O.method.places || (list_any (calls_full O.program) O.method.ops || list_any counts_full is)) (too_many (printed O.method.name) (codes "Arguments")) (Ok tt) tt e in
    let a = none_first (is_full O.method.places) _ t.0 in
    let b = none_first (list_any (calls_full O.program) O.method.ops) (list_any counts_full is) a.1 in
    record { places = not_more 254 O.method.places a.0; called = b.0; counts = counts_fit is b.1 }

pub record IsRoomy (O : Original) (code : Code) : Type 0 where
  pub handlers : length code.handlers ≤ 65534
  pub locals : code.max_locals + added_locals O.method ≤ 65535
  pub near : list_any (is_far O.method) O.method.ops ≡ false
  pub stack : code.max_stack ≤ 65534

pub places_kept : (O : Original) (code : Code) → few_places O.method code ≡ Ok tt → IsRoomy O code
unfolding few_places
places_kept O code e =
    let a = guard_ok (nat_lt 65534 (length code.handlers)) (too_many (printed O.method.name) (codes "Handlers")) _ tt e in
    let b = guard_ok (nat_lt 65535 (code.max_locals + added_locals O.method) || list_any (is_far O.method) O.method.ops) (too_many (printed O.method.name) (codes "Locals")) _ tt a.1 in
    let c = guard_ok (nat_lt 65534 code.max_stack) (too_many (printed O.method.name) (codes "Stack")) (Ok tt) tt b.1 in
    let d = none_first (nat_lt 65535 (code.max_locals + added_locals O.method)) (list_any (is_far O.method) O.method.ops) b.0 in
    record { handlers = not_more 65534 (length code.handlers) a.0; locals = not_more 65535 _ d.0; near = d.1; stack = not_more 65534 code.max_stack c.0 }

-- ---- what the code names

pub record AreRefs (O : Original) (is : List Instr) (Z : Pool) (x : List Block × ℕ) : Type 0 where
  pub blocks : AllPut (IsNumbered O) 0 is Z x.0
  pub conflict : IsClassAt conflict_class Z x.1

pub refs_put : (O : Original) (is : List Instr) → Adding (AreRefs O is) (refs_of O is)
unfolding refs_of
refs_put O is pool r s e =
    let a = bind_ok (grow_from (numbered_block O) 0 is pool) (λ blocks. add_class blocks.1 conflict_class >>= λ conflict. Ok ((blocks.0, conflict.0), conflict.1)) r e in
    let b = bind_ok (add_class a.0.1 conflict_class) (λ conflict. Ok ((a.0.0, conflict.0), conflict.1)) r a.2 in
    let q = adds_all (IsNumbered O) (numbered_block O) (adds_numbered O) 0 is pool a.0 s a.1 in
    let k = adds_class conflict_class a.0.1 b.0 q.short b.1 in
    subst (Puts (AreRefs O is) pool) (ok_is ((a.0.0, b.0.0), b.0.1) r b.2)
    (record { grown = grown_trans pool a.0.1 b.0.1 q.grown k.grown; short = k.short; facts = λ Z g. record { blocks = q.facts Z (grown_trans a.0.1 b.0.1 Z k.grown g); conflict = k.facts Z g } })

-- ---- each block has an instruction

some_kept : (i : Instr) (Z : Pool) (is : List Instr) → IsKept i Z is → 0 < length is
some_kept i Z is e = omega (arith, ap length e)

some_accessor : (p : ℕ) (name : _) (o : Option Field) (i : Instr) (Z : Pool) (is : List Instr) → IsAccessorCall p name o i Z is → 0 < length is
some_accessor p name (Some f) i Z is c = omega (arith, ap length c.call)
some_accessor p name None i Z is c = some_kept i Z is c

some_duplicate : (p opcode : ℕ) (o : Option MemberName) (i : Instr) (Z : Pool) (is : List Instr) → IsDuplicateCall p opcode o i Z is → 0 < length is
some_duplicate p opcode (Some n) i Z is c = omega (arith, ap length c.call)
some_duplicate p opcode None i Z is c = some_kept i Z is c

some_interface : (p : ℕ) (o : Option MemberName) (i : Instr) (Z : Pool) (is : List Instr) → IsInterfaceBlock p o i Z is → 0 < length is
some_interface p (Some n) i Z is c = omega (arith, ap length c.call)
some_interface p None i Z is c = some_kept i Z is c

some_block : (O : Original) (o : Option Op) (h : Option Types) (i : Instr) (Z : Pool) (is : List Instr) → IsBlock O o h i Z is → 0 < length is
some_block O (Some (op.GetStatic f)) h i Z is c = some_accessor _ _ (field_at O.program f) i Z is c
some_block O (Some (op.PutStatic f)) h i Z is c = some_accessor _ _ (field_at O.program f) i Z is c
some_block O (Some (op.GetField f d)) h i Z is c = some_accessor _ _ (field_at O.program f) i Z is c
some_block O (Some (op.PutField f d)) h i Z is c = some_accessor _ _ (field_at O.program f) i Z is c
some_block O (Some (op.LoadElement t)) h i Z is c = omega (arith, ap length c.parts, length-append c.call c.after, ap length c.calls.call)
some_block O (Some (op.StoreElement t)) h i Z is c = omega (arith, ap length c.call)
some_block O (Some (op.InvokeStatic m)) h i Z is c = some_duplicate _ 184 (called O i) i Z is c
some_block O (Some (op.InvokeSpecial m)) h i Z is c = some_duplicate _ 183 (called O i) i Z is c
some_block O (Some (op.InvokeVirtual m d)) h i Z is c = some_duplicate _ 182 (called O i) i Z is c
some_block O (Some (op.InvokeInterface m d)) h i Z is c = some_interface _ (called O i) i Z is c
some_block O (Some (op.Load q n)) h i Z is c = omega (arith, ap length c)
some_block O (Some (op.Store q n)) h i Z is c = omega (arith, ap length c)
some_block O (Some (op.Increment n x)) h i Z is c = omega (arith, ap length c)
some_block O o h i Z is c = some_kept i Z is c

pub have_instrs : (O : Original) (n : ℕ) (is : List Instr) (Z : Pool) (bs : List Block) → AllPut (IsNumbered O) n is Z bs → HaveInstrs bs
have_instrs O n [] Z [] h = tt
have_instrs O n [] Z (b ∷ bs) h = absurd h
have_instrs O n (i ∷ is) Z [] h = absurd h
have_instrs O n (i ∷ is) Z (b ∷ bs) h = (some_block O (slice_get O.method.ops n) (types_at O.table n) i Z b.instrs h.0.1, have_instrs O (n + 1) is Z bs h.1)

-- as many blocks as instructions
pub as_many : (O : Original) (n : ℕ) (is : List Instr) (Z : Pool) (bs : List Block) → AllPut (IsNumbered O) n is Z bs → length bs ≡ length is
as_many O n [] Z [] h = refl
as_many O n [] Z (b ∷ bs) h = absurd h
as_many O n (i ∷ is) Z [] h = absurd h
as_many O n (i ∷ is) Z (b ∷ bs) h = omega (arith, as_many O (n + 1) is Z bs h.1)

-- ---- what is laid

some_end : (bs : List Block) → 0 < length bs → HaveInstrs bs → EachInstr IsShaped bs → 0 < end_of bs
some_end [] n some shaped = absurd (omega arith)
some_end (b ∷ bs) n some shaped = omega (arith, behind_block 0 b bs, behind_some 0 b.instrs shaped.0 some.0, behind_over (behind 0 b.instrs) (all_instrs bs))

abbrev code_with : ℕ → ℕ → List ℕ → List Handler → Code
code_with max_stack max_locals code handlers = record { max_stack = max_stack; max_locals = max_locals; code = code; handlers = handlers; attributes = [] }

module _ (a Z : Pool) (G : Grown a Z) (bs : List Block) (hs : List Handler) (conflict old max_stack max_locals : ℕ) (B : AreBlocks bs hs (Some conflict) stub) (some : HaveInstrs bs) (many : 0 < length bs) (rules : AllByRecursion (IsHandler a old) hs)
    (few : length hs ≤ 65534) (class : IsClassAt conflict_class Z conflict) (stack : max_stack < 65536) (locals : max_locals < 65536) where
  pub laid_rules : (code : List ℕ) (entries : List Handler) → relocate bs hs (Some conflict) stub ≡ Ok (code, entries) → IsCode Z (code_with max_stack max_locals code entries)
  laid_rules code entries e =
      let d = done bs hs (Some conflict) stub code entries e in
      let long = ap length d.spelled ∙ whole_long bs stub in
      let whole = behind_append 0 (all_instrs bs) stub in
      let first = some_end bs many some B.each in
      let there = class.0 in
      let moved_all = all_moved a Z G bs B.ascend some B.each old (length code) (omega (arith, long, whole)) hs rules B.entries in
      let entry : IsHandler Z (length code) (record { start = 0; end = end_of bs; handler = end_of bs; catch_type = conflict }) =
      record { some = first; inside = omega (arith, long, whole); target = omega (arith, long, whole); catches = inr (rw there refl); class = omega (arith, class.2) } in
      let count : length (map (moved (place_of bs)) hs) ≡ length hs = length-map _ _ in
      record {
        stack = omega (arith, stack);
        locals = omega (arith, locals);
        some = omega (arith, long, whole);
        short = omega (arith, long, d.fits);
        few = omega (arith, ap length d.entries, count, few);
        handlers = subst (AllByRecursion (IsHandler Z (length code))) (sym d.entries) (entry, moved_all);
        attributes = no_attributes Z;
      }

of_method_ok : {A : Type 0} (name : List ℕ) (r : Result A Refusal) (x : A) → of_method name r ≡ Ok x → r ≡ Ok x
of_method_ok name (Ok y) x e = e
of_method_ok name (Err y) x e = cc

-- the code whose bytes a duplicate has
pub record IsLaidCopy (k : Method) (code : Code) (bs : List Block) (conflict : ℕ) (bytes : List ℕ) : Type 0 where
  pub laid : List ℕ
  pub entries : List Handler
  pub is : relocate bs code.handlers (Some conflict) stub ≡ Ok (laid, entries)
  pub bytes_are : bytes ≡ code_spelling (record { max_stack = code.max_stack + 1; max_locals = code.max_locals + added_locals k; code = laid; handlers = entries; attributes = [] })

pub copy_laid : (k : Method) (code : Code) (bs : List Block) (conflict : ℕ) (bytes : List ℕ) → duplicate_bytes k code bs conflict ≡ Ok bytes → IsLaidCopy k code bs conflict bytes
copy_laid k code bs conflict bytes e =
    let told = of_method_ok (printed k.name) (laid_bytes (code.max_stack + 1) (code.max_locals + added_locals k) bs code.handlers (Some conflict) stub) bytes e in
    let b = bind_ok (laid_code (code.max_stack + 1) (code.max_locals + added_locals k) bs code.handlers (Some conflict) stub) (λ x. Ok (code_spelling x)) bytes told in
    let x = bind_ok (relocate bs code.handlers (Some conflict) stub) (λ laid. Ok (code_with (code.max_stack + 1) (code.max_locals + added_locals k) laid.0 laid.1)) b.0 b.1 in
    record {
      laid = x.0.0;
      entries = x.0.1;
      is = x.1;
      bytes_are = sym (ok_is (code_spelling b.0) bytes b.2) ∙ ap code_spelling (sym (ok_is (code_with (code.max_stack + 1) (code.max_locals + added_locals k) x.0.0 x.0.1) b.0 x.2));
    }
