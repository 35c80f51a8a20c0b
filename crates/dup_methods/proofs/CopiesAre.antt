-- The duplicate of a method that has code, read back, means the rewriting's.
use Rattle.std.proofs.Common.{◌≡◌, ℕ, ◌+◌, ◌<◌, ◌≤◌, true, false, List, [], ◌∷◌, ◌++◌, length, map, Some, None, Ok, refl, sym, ap, ◌∙◌, subst, arith}
use Rattle.std.specs.Prelude.{slice_get}
use Rattle.std.specs.List.{AllByRecursion}
use Rattle.jmodel.specs.declared.instruction.Instr.{Instr}
use Rattle.jmodel.specs.format.ClassFile.{Member, Pool, ClassFile, Code}
use Rattle.jmodel.specs.format.Pool.{MemberName}
use Rattle.objects.specs.linking.Code.{Coded, code_in, decoded}
use Rattle.objects.specs.linking.Each.{each}
use Rattle.jmodel.specs.format.PoolAdding.{IsLonger}
use Rattle.jmodel.specs.format.Instruction.{SpellsInstrs}
use Rattle.jmodel.specs.format.Relocation.{Block, end_of, relocated, moved_handlers, EachInstr, IsAbove, AreBlocks}
use Rattle.bytecode.specs.Relocated.{Fits, HaveInstrs}
use Rattle.bytecode.proofs.OriginLaws.{pcs_below, above}
use Rattle.objects.specs.declared.op.Op.TheVariants.{Throw}
use Rattle.objects.specs.declared.op.Catch.{Catch}
use Rattle.objects.specs.declared.op.Catches.TheVariants.{Conflict}
use Rattle.objects.specs.semantics.Program.{Method}
use Rattle.objects.specs.typing.Source.{IsSourceMethod}
use Rattle.objects.specs.typing.TypeOrder.{conflict_class}
use Rattle.objects.specs.linking.Constructs.{is_float_descriptor}
use Rattle.objects.specs.linking.Decoding.{Symbols, ops_of, catch_of}
use Rattle.objects.specs.linking.Linking.{Body, coded_body, decoded_member, has_no_code}
use Rattle.objects.specs.rewriting.Rewriting.{typed_from, block_at, blocks, catch, moved_catch, context, duplicate_code, duplicate_method}
use Rattle.objects.proofs.Items.{each_many}
use Rattle.objects.proofs.CodeRead.{coded_parts, has_instr}
use Rattle.member_code.specs.Meaning.{meaning}
use Rattle.member_code.specs.Names.{duplicate_named}
use Rattle.member_code.specs.Coding.{added_method}
use Rattle.member_code.proofs.Grown.{Grown, grown_trans}
use Rattle.member_code.proofs.Puts.{Puts, AllPut, IsClassAt}
use Rattle.dup_methods.specs.Originals.{Original}
use Rattle.dup_methods.specs.Limits.{FitsOp, FitsCount, added_locals}
use Rattle.dup_methods.specs.Duplicates.{stub, duplicate_flags}
use Rattle.dup_methods.specs.DuplicateLaw.{Ties, IsCalledIn, IsAccessedIn, HasBytes, IsCalledBy, IsAccessedBy, ReadsAlike}
use Rattle.dup_methods.proofs.BlockFacts.{IsNumbered}
use Rattle.dup_methods.proofs.Fitting.{all_near, all_fit}
use Rattle.dup_methods.proofs.Little.{little_is}
use Rattle.dup_methods.proofs.Stands.{stand_for, blocks_laid}
use Rattle.dup_methods.proofs.Whole.{AreParts, parts_of, named_inside, leads, HasFew, few_kept, places_kept, AreRefs, refs_all, each_instr, longer, ops_are}
use Rattle.dup_methods.proofs.Counted.{typed_long, have_instrs, all_many, blocks_fit}
use Rattle.dup_methods.proofs.Ends.{entries_mean}
use Rattle.dup_methods.proofs.Laid.{IsKeptCode, kept_code, kept_spelled, code_with, IsLaidCopy, laid_is, code_read, code_long, code_back}
use Rattle.dup_methods.proofs.KeptFlags.{code_stays, coded_unmarked}
use Rattle.dup_methods.proofs.Heads.{IsHeadOf, head_is}
use Rattle.dup_methods.proofs.Copied.{IsMeantAs, IsBodyOf, body_parts, made_as, head_means, full_duplicate}
use Rattle.dup_methods.proofs.Members.{HasTexts, adds_texts, IsCopy}

-- as many are put as there are items
put_long : {A B : Type 0} (Facts : ℕ → A → Pool → B → Type 0) (n : ℕ) (xs : List A) (Z : Pool) (ys : List B) → AllPut Facts n xs Z ys → length ys ≡ length xs
put_long Facts n [] Z [] h = refl
put_long Facts n [] Z (y ∷ ys) h = absurd h
put_long Facts n (x ∷ xs) Z [] h = absurd h
put_long Facts n (x ∷ xs) Z (y ∷ ys) h = omega (arith, put_long Facts (n + 1) xs Z ys h.1)

-- what symbols say of names, of fewer of them
ties_within : (O : Original) (x : Coded) (s0 s : Symbols) → decoded O.class O.member ≡ Ok x → Ties O.program (IsCalledBy O.class O.member) (IsAccessedBy O.class O.member) s0 s
    → Ties O.program (IsCalledIn O.class.pool x.instrs) (IsAccessedIn O.class.pool x.instrs) s0 s
ties_within O x s0 s e T = record {
  types = T.types;
  texts = T.texts;
  constants = λ n v a. T.constants n v (record { coded = x; decodes = e; accessed = a });
  getters = T.getters;
  setters = T.setters;
  loads = T.loads;
  stores = T.stores;
  statics = λ n m c. T.statics n m (record { coded = x; decodes = e; called = c });
  specials = λ n m c. T.specials n m (record { coded = x; decodes = e; called = c });
  virtuals = λ n m d c. T.virtuals n m d (record { coded = x; decodes = e; called = c });
  interfaces = λ n m d c. T.interfaces n m d (record { coded = x; decodes = e; called = c });
}

module _ (O : Original) (s0 s : Symbols) (x : Coded) (pool : Pool) (r : Member × Pool) (ties : Ties O.program (IsCalledBy O.class O.member) (IsAccessedBy O.class O.member) s0 s) (alike : ReadsAlike s0 s O.member) (same : s0.class ≡ O.class) (bytes : HasBytes O.member)
    (decodes : decoded O.class O.member ≡ Ok x) (flagged : has_no_code O.member ≡ false) (M : IsMeantAs s0 O.member (Some x) O.method) (source : IsSourceMethod O.program O.method) (floatless : is_float_descriptor O.method.name.descriptor ≡ false)
    (front : IsLonger O.class.pool pool) (short : length pool < 65535) (C : IsCopy O x pool r) (rest : IsLonger r.1 s.class.pool) where
  abbrev Z : Pool
  Z = s.class.pool

  abbrev bs : List Block
  bs = C.refs.0.0

  abbrev Called : MemberName → Type 0
  Called = IsCalledIn O.class.pool x.instrs

  abbrev Accessed : MemberName → Type 0
  Accessed = IsAccessedIn O.class.pool x.instrs

  T : Ties O.program (IsCalledIn O.class.pool x.instrs) (IsAccessedIn O.class.pool x.instrs) s0 s
  T = ties_within O x s0 s decodes ties

  -- ---- pools

  refs : AreRefs O x.instrs pool C.refs
  refs = refs_all O x.instrs pool C.refs short C.refs_are

  texts : Puts (HasTexts O.method) C.refs.1 C.texts
  texts = adds_texts O.method C.refs.1 C.texts refs.short C.texts_are

  G1 : Grown C.texts.1 s.class.pool
  G1 = subst (λ (p : Pool). Grown p s.class.pool) C.left (longer r.1 s.class.pool rest)

  G2 : Grown C.refs.1 s.class.pool
  G2 = grown_trans C.refs.1 C.texts.1 s.class.pool texts.grown G1

  G0 : Grown O.class.pool s.class.pool
  G0 = grown_trans O.class.pool pool s.class.pool (longer O.class.pool pool front) (grown_trans pool C.refs.1 s.class.pool refs.grown G2)

  G : Grown s0.class.pool s.class.pool
  G = subst (λ (c : ClassFile). Grown c.pool s.class.pool) (sym same) G0

  named : HasTexts O.method s.class.pool C.texts.0
  named = texts.facts s.class.pool G1

  put : AllPut (IsNumbered O) 0 x.instrs s.class.pool C.refs.0.0
  put = refs.blocks s.class.pool G2

  class : IsClassAt conflict_class s.class.pool C.refs.0.1
  class = refs.conflict s.class.pool G2

  -- ---- the method's own code

  kept : IsKeptCode O.class.pool x.code
  kept = kept_code O.class.pool O.member x.code bytes (coded_parts O.class O.member x decodes).code

  spelled : SpellsInstrs O.class.pool x.code.handlers x.code.code x.instrs
  spelled = kept_spelled O.class.pool x.code x.instrs kept (coded_parts O.class O.member x decodes).instrs

  body : IsBodyOf s0 x M.body
  body = body_parts s0 x M.body M.bodied

  means : ops_of s0 x.instrs ≡ Some O.method.ops
  means = body.ops ∙ ap (λ (k : Method). Some k.ops) (sym M.is)

  many_ops : length x.instrs ≡ length O.method.ops
  many_ops = sym (each_many _ x.instrs O.method.ops means)

  some_ops : 0 < length O.method.ops
  some_ops = omega (arith, many_ops, has_instr O.class O.member x decodes)

  few : (O.method.places ≤ 254) × AllByRecursion FitsCount x.instrs
  few = few_kept O x.instrs C.arguments

  near : HasFew O.method x.code
  near = places_kept O x.code C.places

  fits : AllByRecursion (FitsOp O.method) O.method.ops
  fits = all_fit O.method O.method.ops (all_near O.method O.method.ops near.near) (little_is s0 x.instrs O.method.ops (each_instr O.class.pool x.instrs spelled.instrs.each) means)

  -- ---- the blocks

  parts : AreParts O (IsCalledIn O.class.pool x.instrs) (IsAccessedIn O.class.pool x.instrs) s0 x.instrs x.instrs O.method.ops
  parts = parts_of O (IsCalledIn O.class.pool x.instrs) (IsAccessedIn O.class.pool x.instrs) s0 x.instrs x.instrs O.method.ops means spelled.instrs.each source.each (named_inside O.class.pool x.instrs)

  laid : AreBlocks C.refs.0.0 x.code.handlers (Some C.refs.0.1) stub
  laid = blocks_laid O few.0 fits x.code.handlers near.handlers x.code.code x.instrs few.1 spelled s.class.pool C.refs.0.0 put C.refs.0.1

  have : HaveInstrs C.refs.0.0
  have = have_instrs O Called Accessed s0 s T G same x.instrs 0 x.instrs O.method.ops C.refs.0.0 parts (λ j. let z : 0 + j ≡ j = omega arith in ap (slice_get O.method.ops) z) put

  fit : EachInstr (Fits s.class.pool) C.refs.0.0
  fit = blocks_fit O Called Accessed s0 s T G same x.instrs few.0 s.class.pool G0 C.refs.0.0 parts put fits few.1

  some : 0 < length C.refs.0.0
  some = omega (arith, put_long (IsNumbered O) 0 x.instrs s.class.pool C.refs.0.0 put, many_ops, some_ops)

  abbrev at : ℕ → ℕ
  at = block_at (typed_from 0 O.table O.method.ops)

  last : IsAbove C.refs.0.0 (length x.code.code)
  last = above (length x.code.code) x.instrs C.refs.0.0
      (let z : 0 + length x.code.code ≡ length x.code.code = omega arith in subst (λ (n : ℕ). AllByRecursion (λ (i : Instr). i.pc < n) x.instrs) z (pcs_below O.class.pool 0 x.code.code x.instrs spelled.holds spelled.instrs.each))
      (stand_for O few.0 fits s.class.pool 0 x.instrs C.refs.0.0 put)

  -- ---- its code

  L : IsLaidCopy O.method x.code C.refs.0.0 C.refs.0.1 C.bytes
  L = laid_is O.method x.code C.refs.0.0 C.refs.0.1 C.bytes C.bytes_are

  abbrev code : Code
  code = code_with (x.code.max_stack + 1) (x.code.max_locals + added_locals O.method) L.code (moved_handlers C.refs.0.0 x.code.handlers (Some C.refs.0.1))

  abbrev copy : Coded
  copy = record { code = code; instrs = relocated C.refs.0.0 stub }

  abbrev made : Member
  made = added_method (duplicate_flags O.member.flags) C.texts.0.0.0 C.texts.0.0.1 C.texts.0.1 C.bytes

  in_member : code_in s.class.pool made ≡ Some code
  in_member =
      let c = named.2 in
      let back = code_back O.method x.code C.refs.0.0 C.refs.0.1 C.bytes L O.class.pool s.class.pool G0 kept.rules laid have some fit class.0 class.2 near.stack near.locals near.handlers in
      rw c back

  long : length L.code ≡ end_of C.refs.0.0 + 1
  long = code_long O.method x.code C.refs.0.0 C.refs.0.1 C.bytes L O.class.pool s.class.pool G0 kept.rules laid have some fit class.0 class.2 near.stack near.locals near.handlers

  head : IsHeadOf s made O.method M.signature
  head = head_is s0 s O.member made O.method M.signature M.body M.signed M.is alike floatless few.0 refl named.0 named.1
      (coded_unmarked s.class.pool (duplicate_flags O.member.flags) C.texts.0.0.0 C.texts.0.0.1 C.texts.0.1 C.bytes named.2)

  copy_decoded : decoded_member (record { class = s.class; member = made }) ≡ Ok (Some copy)
  copy_decoded =
      let f = code_stays O.member made refl ∙ flagged in
      let c = in_member in
      let i = code_read O.method x.code C.refs.0.0 C.refs.0.1 C.bytes L O.class.pool s.class.pool G0 kept.rules laid have some fit class.0 class.2 near.stack near.locals near.handlers in
      rw f (rw c (rw i refl))

  -- ---- what it means

  copy_ops : ops_of s (relocated C.refs.0.0 stub) ≡ Some (blocks O.program O.method.places O.method.locals (typed_from 0 O.table O.method.ops) ++ Throw ∷ [])
  copy_ops = ops_are O s0 s x.code x.instrs pool C.refs T same means spelled source C.arguments C.places front short C.refs_are (G2.more, G2.is)

  copy_catches : each (catch_of s.class.pool (relocated C.refs.0.0 stub) (length L.code)) (moved_handlers C.refs.0.0 x.code.handlers (Some C.refs.0.1))
      ≡ Some (catch 0 (block_at (typed_from 0 O.table O.method.ops) (length x.instrs)) (block_at (typed_from 0 O.table O.method.ops) (length x.instrs)) Conflict ∷ map (moved_catch (block_at (typed_from 0 O.table O.method.ops))) M.body.catches)
  copy_catches = entries_mean s0.class.pool s.class.pool G x.instrs C.refs.0.0 laid.each (block_at (typed_from 0 O.table O.method.ops)) (length x.code.code) (length L.code) long
      (leads O Called Accessed s0 s T G same x.instrs C.refs.0.0 parts put laid.each) last (all_many O Called Accessed s0 s T G same x.instrs C.refs.0.0 parts put many_ops) C.refs.0.1 class.0 class.1 some x.code.handlers M.body.catches body.catches

  abbrev copy_body : Body
  copy_body = record {
    locals = x.code.max_locals + added_locals O.method;
    max_stack = x.code.max_stack + 1;
    ops = blocks O.program O.method.places O.method.locals (typed_from 0 O.table O.method.ops) ++ Throw ∷ [];
    catches = catch 0 (block_at (typed_from 0 O.table O.method.ops) (length x.instrs)) (block_at (typed_from 0 O.table O.method.ops) (length x.instrs)) Conflict ∷ map (moved_catch (block_at (typed_from 0 O.table O.method.ops))) M.body.catches;
  }

  bodied : coded_body s copy ≡ Some copy_body
  bodied = let p = copy_ops in let q = copy_catches in rw p (rw q refl)

  abbrev made_with : ℕ → ℕ → ℕ → List Catch → Method
  made_with locals most end catches = made_as (duplicate_named O.method.name) O.method.dispatch (O.method.parameters ++ context ∷ []) (O.method.places + 1) locals most O.method.result None
      (blocks O.program O.method.places O.method.locals (typed_from 0 O.table O.method.ops) ++ Throw ∷ []) (catch 0 (block_at (typed_from 0 O.table O.method.ops) end) (block_at (typed_from 0 O.table O.method.ops) end) Conflict ∷ map (moved_catch (block_at (typed_from 0 O.table O.method.ops))) catches)

  same_body : made_with (x.code.max_locals + added_locals O.method) (x.code.max_stack + 1) (length x.instrs) M.body.catches ≡ duplicate_code O.program O.method (typed_from 0 O.table O.method.ops)
  same_body =
      let locals : x.code.max_locals ≡ O.method.locals = sym body.locals ∙ ap (λ (k : Method). k.locals) (sym M.is) in
      let most : x.code.max_stack ≡ O.method.max_stack = sym body.stack ∙ ap (λ (k : Method). k.max_stack) (sym M.is) in
      let catches : M.body.catches ≡ O.method.catches = ap (λ (k : Method). k.catches) (sym M.is) in
      let end : length x.instrs ≡ length (typed_from 0 O.table O.method.ops) = many_ops ∙ sym (typed_long 0 O.method.ops O) in
      ap (λ (n : ℕ). made_with (n + added_locals O.method) (x.code.max_stack + 1) (length x.instrs) M.body.catches) locals
      ∙ ap (λ (n : ℕ). made_with (O.method.locals + added_locals O.method) (n + 1) (length x.instrs) M.body.catches) most
      ∙ ap (λ (n : ℕ). made_with (O.method.locals + added_locals O.method) (O.method.max_stack + 1) n M.body.catches) end
      ∙ ap (λ (cs : List Catch). made_with (O.method.locals + added_locals O.method) (O.method.max_stack + 1) (length (typed_from 0 O.table O.method.ops)) cs) catches

  pub copy_is : meaning s true r.0 ≡ Some (duplicate_method O.program O.method O.table)
  copy_is =
      ap (meaning s true) C.member
      ∙ head_means s made O.method M.signature head (Some copy) copy_decoded copy_body bodied
      ∙ ap (λ (k : Method). Some k) (same_body ∙ sym (full_duplicate O.program O.method O.table some_ops))
