-- The code of a duplicate, read back from the bytes of its Code.
use Rattle.std.proofs.Common.{◌≡◌, ℕ, zero, suc, ◌+◌, ◌<◌, ◌≤◌, true, false, List, [], ◌∷◌, ◌++◌, length, Some, Result, Ok, Err, Bool, refl, sym, ap, ◌∙◌, subst, arith, inr}
use Rattle.std.specs.Prelude.{codes, find, option_and_then, if◌then◌else◌}
use Rattle.std.specs.List.{AllByRecursion, flat_map}
use Rattle.std.proofs.lemmas.List.{length-map}
use Rattle.jmodel.specs.declared.class_file.Handler.{Handler}
use Rattle.jmodel.specs.declared.instruction.Instr.{Instr}
use Rattle.jmodel.specs.declared.refusal.Refusal.{Refusal}
use Rattle.jmodel.specs.format.ClassFile.{u2, u4, handler, attributes, Attribute, Member, Pool, Code, code_spelling}
use Rattle.jmodel.specs.format.Pool.{class_name}
use Rattle.jmodel.specs.format.ClassRules.{is_named, IsHandler, IsCode, SpellsCode}
use Rattle.jmodel.specs.format.ClassReading.{code_of}
use Rattle.objects.specs.linking.Code.{code_in}
use Rattle.jmodel.specs.format.Instruction.{SpellsInstrs}
use Rattle.jmodel.specs.format.InstructionReading.{instrs_of}
use Rattle.jmodel.specs.format.Name.{printed}
use Rattle.jmodel.specs.format.Relocation.{Block, all_instrs, behind, place_of, end_of, relocated, relocate, moved, moved_handlers, EachInstr, IsShaped, AreBlocks}
use Rattle.bytecode.specs.Relocated.{Fits, HaveInstrs}
use Rattle.bytecode.proofs.BlockLaws.{behind_append, behind_block}
use Rattle.bytecode.proofs.SizeLaws.{behind_over}
use Rattle.bytecode.proofs.CodeLaws.{code_take}
use Rattle.bytecode.proofs.LaidLaws.{IsDone, done, spelled_is}
use Rattle.bytecode.proofs.RelocationLaws.{whole_long}
use Rattle.objects.specs.semantics.Program.{Method}
use Rattle.objects.specs.typing.TypeOrder.{conflict_class}
use Rattle.const_pool.proofs.Takes.{IsBytes, bind_ok, ok_is}
use Rattle.const_pool.proofs.Parts.{code_is_found, code_is_read}
use Rattle.member_code.specs.Coding.{of_method, laid_code, laid_bytes}
use Rattle.member_code.proofs.Grown.{Grown}
use Rattle.member_code.proofs.Straight.{relocated_ok, laid_read, no_attributes}
use Rattle.dup_methods.specs.Limits.{added_locals}
use Rattle.dup_methods.specs.Duplicates.{stub, duplicate_bytes}
use Rattle.dup_methods.specs.DuplicateLaw.{HasBytes}
use Rattle.dup_methods.proofs.Ends.{behind_some, moved_rules}

-- ---- the code of a method whose attributes hold bytes

-- parts of bytes are bytes
behind_bytes : (xs ys : List ℕ) → IsBytes (xs ++ ys) → IsBytes ys
behind_bytes [] ys h i = h i
behind_bytes (x ∷ xs) ys h i = behind_bytes xs ys (λ j. h (suc j)) i

-- so are their first part
front_bytes : (xs ys : List ℕ) → IsBytes (xs ++ ys) → IsBytes xs
front_bytes [] ys h i = omega arith
front_bytes (x ∷ xs) ys h zero = h zero
front_bytes (x ∷ xs) ys h (suc i) = front_bytes xs ys (λ j. h (suc j)) i

-- the bytes of a Code that is found
found_bytes : (pool : Pool) (xs : List Attribute) (k : Code) → AllByRecursion (λ (a : Attribute). IsBytes a.bytes) xs → option_and_then (λ (a : Attribute). code_of pool a.bytes) (find (is_named pool (codes "Code")) xs) ≡ Some k
    → (bytes : List ℕ) × IsBytes bytes × (code_of pool bytes ≡ Some k)
found_bytes pool [] k h e = absurd cc
found_bytes pool (a ∷ xs) k h e = go (is_named pool (codes "Code") a) refl e (λ t. found_bytes pool xs k h.1 t)
  where
    go : (b : Bool) → is_named pool (codes "Code") a ≡ b → option_and_then (λ (a : Attribute). code_of pool a.bytes) (if b then Some a else find (is_named pool (codes "Code")) xs) ≡ Some k
        → (option_and_then (λ (a : Attribute). code_of pool a.bytes) (find (is_named pool (codes "Code")) xs) ≡ Some k → (bytes : List ℕ) × IsBytes bytes × (code_of pool bytes ≡ Some k))
        → (bytes : List ℕ) × IsBytes bytes × (code_of pool bytes ≡ Some k)
    go true q t more = (a.bytes, h.0, t)
    go false q t more = more t

-- code that a method has keeps the rules of code, and is bytes
pub record IsKeptCode (pool : Pool) (k : Code) : Type 0 where
  pub rules : IsCode pool k
  pub bytes : IsBytes k.code

-- code of attributes that hold bytes
pub kept_code : (pool : Pool) (m : Member) (k : Code) → HasBytes m → code_in pool m ≡ Some k → IsKeptCode pool k
kept_code pool m k h e =
    let f = found_bytes pool m.attributes k h e in
    let s : SpellsCode pool f.0 k = code_is_found pool f.0 (Some (Ok k)) f.1 f.2 in
    let all : IsBytes (code_spelling k) = subst IsBytes s.is f.1 in
    let first : List ℕ = u2 k.max_stack ++ u2 k.max_locals ++ u4 (length k.code) in
    let a = front_bytes (first ++ k.code ++ u2 (length k.handlers) ++ flat_map handler k.handlers) (attributes k.attributes) all in
    let b = front_bytes (first ++ k.code ++ u2 (length k.handlers)) (flat_map handler k.handlers) a in
    let c = front_bytes (first ++ k.code) (u2 (length k.handlers)) b in
    record { rules = s.code; bytes = behind_bytes first k.code c }

-- it spells the instructions that are read of it
pub kept_spelled : (pool : Pool) (k : Code) (is : List Instr) → IsKeptCode pool k → instrs_of pool k.handlers k.code ≡ Ok is → SpellsInstrs pool k.handlers k.code is
kept_spelled pool k is h e = code_take pool k.handlers k.code h.bytes h.rules.short is e

-- ---- what was laid

-- blocks that have instructions take room
blocks_long : (bs : List Block) → HaveInstrs bs → EachInstr IsShaped bs → 0 < length bs → 0 < end_of bs
blocks_long [] h s n = absurd (omega arith)
blocks_long (b ∷ bs) h s n = omega (arith, behind_block 0 b bs, behind_some 0 b.instrs s.0 h.0, behind_over (behind 0 b.instrs) (all_instrs bs))

-- naming the method changes no code
of_method_ok : {A : Type 0} (name : List ℕ) (r : Result A Refusal) (x : A) → of_method name r ≡ Ok x → r ≡ Ok x
of_method_ok name (Ok y) x e = e
of_method_ok name (Err y) x e = cc

-- code without attributes
abbrev pub code_with : ℕ → ℕ → List ℕ → List Handler → Code
code_with max_stack max_locals code handlers = record { max_stack = max_stack; max_locals = max_locals; code = code; handlers = handlers; attributes = [] }

-- the code of a duplicate
pub record IsLaidCopy (k : Method) (old : Code) (bs : List Block) (conflict : ℕ) (bytes : List ℕ) : Type 0 where
  pub code : List ℕ
  pub laid : relocate bs old.handlers (Some conflict) stub ≡ Ok (code, moved_handlers bs old.handlers (Some conflict))
  pub bytes_are : bytes ≡ code_spelling (code_with (old.max_stack + 1) (old.max_locals + added_locals k) code (moved_handlers bs old.handlers (Some conflict)))

-- what the bytes of a duplicate's Code are
pub laid_is : (k : Method) (old : Code) (bs : List Block) (conflict : ℕ) (bytes : List ℕ) → duplicate_bytes k old bs conflict ≡ Ok bytes → IsLaidCopy k old bs conflict bytes
laid_is k old bs conflict bytes h =
    let stack : ℕ = old.max_stack + 1 in
    let locals : ℕ = old.max_locals + added_locals k in
    let told = of_method_ok (printed k.name) (laid_bytes (old.max_stack + 1) (old.max_locals + added_locals k) bs old.handlers (Some conflict) stub) bytes h in
    let b = bind_ok (laid_code (old.max_stack + 1) (old.max_locals + added_locals k) bs old.handlers (Some conflict) stub) (λ code. Ok (code_spelling code)) bytes told in
    let x = bind_ok (relocate bs old.handlers (Some conflict) stub) (λ laid. Ok (code_with (old.max_stack + 1) (old.max_locals + added_locals k) laid.0 laid.1)) b.0 b.1 in
    let d : IsDone bs old.handlers (Some conflict) stub x.0.0 x.0.1 = done bs old.handlers (Some conflict) stub x.0.0 x.0.1 x.1 in
    record {
      code = x.0.0;
      laid = x.1 ∙ ap (λ (l : List Handler). Ok (x.0.0, l)) d.entries;
      bytes_are =
          sym (ok_is (code_spelling b.0) bytes b.2) ∙ ap code_spelling (sym (ok_is (code_with (old.max_stack + 1) (old.max_locals + added_locals k) x.0.0 x.0.1) b.0 x.2))
          ∙ ap (λ (l : List Handler). code_spelling (code_with (old.max_stack + 1) (old.max_locals + added_locals k) x.0.0 l)) d.entries;
    }

module _ (k : Method) (old : Code) (bs : List Block) (conflict : ℕ) (bytes : List ℕ) (L : IsLaidCopy k old bs conflict bytes) (pool Z : Pool) (G : Grown pool Z) (rules : IsCode pool old) (blocks : AreBlocks bs old.handlers (Some conflict) stub) (have : HaveInstrs bs)
    (some : 0 < length bs) (fits : EachInstr (Fits Z) bs) (named : class_name Z conflict ≡ Some conflict_class) (small : conflict < 65535) (stack : old.max_stack ≤ 65534) (locals : old.max_locals + added_locals k ≤ 65535) (few : length old.handlers ≤ 65534) where
  abbrev pub hs : List Handler
  hs = moved_handlers bs old.handlers (Some conflict)

  abbrev pub new : Code
  new = code_with (old.max_stack + 1) (old.max_locals + added_locals k) L.code (moved_handlers bs old.handlers (Some conflict))

  is_done : IsDone bs old.handlers (Some conflict) stub L.code (moved_handlers bs old.handlers (Some conflict))
  is_done = done bs old.handlers (Some conflict) stub L.code (moved_handlers bs old.handlers (Some conflict)) L.laid

  spelled : SpellsInstrs Z (moved_handlers bs old.handlers (Some conflict)) L.code (relocated bs stub)
  spelled = spelled_is Z bs old.handlers (Some conflict) stub L.code (moved_handlers bs old.handlers (Some conflict)) blocks have (omega arith) fits (tt, tt) L.laid

  pub code_read : instrs_of Z (moved_handlers bs old.handlers (Some conflict)) L.code ≡ Ok (relocated bs stub)
  code_read = laid_read Z bs old.handlers (moved_handlers bs old.handlers (Some conflict)) stub L.code (relocated_ok bs old.handlers (Some conflict) stub (L.code, moved_handlers bs old.handlers (Some conflict)) L.laid) spelled

  -- the stub has one byte
  pub code_long : length L.code ≡ end_of bs + 1
  code_long = ap length is_done.spelled ∙ whole_long bs stub ∙ behind_append 0 (all_instrs bs) stub

  new_rules : IsCode Z (code_with (old.max_stack + 1) (old.max_locals + added_locals k) L.code (moved_handlers bs old.handlers (Some conflict)))
  new_rules =
      let long = code_long in
      let short = is_done.fits in
      let end = behind_append 0 (all_instrs bs) stub in
      let first : IsHandler Z (length L.code) (record { start = 0; end = end_of bs; handler = end_of bs; catch_type = conflict }) =
      record { some = blocks_long bs have blocks.each some; inside = omega (arith, long); target = omega (arith, long); catches = inr (let n = named in rw n refl); class = omega (arith, small) } in
      record {
        stack = omega (arith, stack);
        locals = omega (arith, locals);
        some = omega (arith, long);
        short = omega (arith, short, end, long);
        few = omega (arith, few, length-map old.handlers (moved (place_of bs)));
        handlers = (first, moved_rules pool Z G bs blocks.ascend have blocks.each (length old.code) (length L.code) code_long old.handlers rules.handlers blocks.entries);
        attributes = no_attributes Z;
      }

  -- the code is read back
  pub code_back : code_of Z bytes ≡ Some (code_with (old.max_stack + 1) (old.max_locals + added_locals k) L.code (moved_handlers bs old.handlers (Some conflict)))
  code_back = code_is_read Z bytes (code_with (old.max_stack + 1) (old.max_locals + added_locals k) L.code (moved_handlers bs old.handlers (Some conflict))) (record { code = new_rules; is = L.bytes_are })
