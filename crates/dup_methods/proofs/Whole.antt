-- All blocks of a duplicate, laid one behind the other, mean its instructions.
use Rattle.std.proofs.Common.{◌≡◌, ℕ, suc, ◌+◌, ◌<◌, ◌≤◌, Bool, true, false, ◌||◌, cond, List, [], ◌∷◌, ◌++◌, length, take, Option, Some, None, Ok, refl, sym, ap, ◌∙◌, subst, arith, length-append}
use Rattle.std.specs.Prelude.{nat_lt, nat_eq, codes, slice_get}
use Rattle.std.specs.List.{flat_map, list_any, AllByRecursion, position_or_len}
use Rattle.std.proofs.lemmas.Bool.Decides.{nat_tests}
use Rattle.std.proofs.lemmas.List.Concat.{flat_map-cons}
use Rattle.std.proofs.lemmas.List.Sums.{sum_by-cons}
use Rattle.jmodel.specs.declared.instruction.Instr.{Instr}
use Rattle.jmodel.specs.format.ClassFile.{Pool, ClassFile, Code}
use Rattle.jmodel.specs.format.Pool.{MemberName}
use Rattle.objects.specs.linking.Taken.{invoked}
use Rattle.jmodel.specs.format.Name.{printed}
use Rattle.jmodel.specs.format.Instruction.{IsInstr, IsInstrOver}
use Rattle.jmodel.specs.format.PoolAdding.{IsLonger, add_class}
use Rattle.jmodel.specs.format.Reading.{◌>>=◌}
use Rattle.jmodel.specs.format.Relocation.{Block, all_instrs, place_of, relocated, EachInstr, IsShaped}
use Rattle.objects.specs.linking.Code.{number_at}
use Rattle.objects.specs.linking.Each.{in_front, each}
use Rattle.bytecode.specs.Relocated.{number_of}
use Rattle.bytecode.proofs.BlockLaws.{all_cons}
use Rattle.bytecode.proofs.LaidLaws.{place_is}
use Rattle.objects.specs.declared.op.Op.{Op}
use Rattle.objects.specs.declared.op.Op.TheVariants as op
use Rattle.objects.specs.semantics.Program.{Method, Program}
use Rattle.objects.specs.typing.Source.{IsSourceOp}
use Rattle.objects.specs.typing.Typing.{Types, types_at}
use Rattle.objects.specs.typing.TypeOrder.{conflict_class}
use Rattle.objects.specs.linking.Constructs.{accessed}
use Rattle.objects.specs.linking.Decoding.{Symbols, op_of, ops_of}
use Rattle.objects.proofs.Items.{all_items}
use Rattle.objects.specs.rewriting.Rewriting.{Typed, typed_from, after_load, array_under, block_of, block_len_of, block_len, block_at, blocks, block as block_in_program}
use Rattle.const_pool.proofs.Takes.{bind_ok, guard_ok, ok_is}
use Rattle.member_code.specs.Growing.{grow_from}
use Rattle.member_code.specs.Coding.{too_many}
use Rattle.member_code.proofs.Grown.{Grown, grown_trans}
use Rattle.member_code.proofs.Single.{AreMeant, meant_append, all_meant}
use Rattle.member_code.proofs.Puts.{AllPut, adds_all, adds_class, IsClassAt}
use Rattle.dup_methods.specs.Originals.{Original}
use Rattle.dup_methods.specs.Limits.{FitsCount, calls_full, counts_full, is_full, is_far, added_locals, few_arguments, few_places}
use Rattle.dup_methods.specs.Duplicates.{stub, numbered_block, refs_of}
use Rattle.dup_methods.specs.DuplicateLaw.{Ties, LeadsToBlocks, IsCalledIn, IsAccessedIn, OpsLaw}
use Rattle.dup_methods.proofs.BlockFacts.{IsBlock, IsNumbered, adds_numbered}
use Rattle.dup_methods.proofs.Fitting.{counts_fit, all_near, all_fit}
use Rattle.dup_methods.proofs.Little.{little_is}
use Rattle.dup_methods.proofs.Rows.{block_meant}
use Rattle.dup_methods.proofs.RowsProof.{wide_small}
use Rattle.dup_methods.proofs.Stands.{blocks_laid}

-- ---- lengths

meant_long : (s : Symbols) (place : ℕ → ℕ) (L is : List Instr) (os : List Op) → AreMeant s place L is os → length is ≡ length os
meant_long s place L [] [] h = refl
meant_long s place L [] (o ∷ os) h = absurd h
meant_long s place L (i ∷ is) [] h = absurd h
meant_long s place L (i ∷ is) (o ∷ os) h = omega (arith, meant_long s place L is os h.1)

block_many : (P : Program) (p n : ℕ) (at : ℕ → ℕ) (x : Option Types) (o : Op) → length (block_of P p n at x o) ≡ block_len_of x o
block_many P p n at x (op.LoadElement t) = let e : suc (suc (length (after_load t (array_under 1 x)))) ≡ 2 + length (after_load t (array_under 1 x)) = omega arith in e
block_many P p n at x o = refl

pub block_some : (x : Option Types) (o : Op) → 0 < block_len_of x o
block_some x (op.LoadElement t) = omega arith
block_some x o = omega arith

-- ---- what each instruction is

-- what an instruction calls and accesses is such
pub record AreNamed (Called Accessed : MemberName → Type 0) (pool : Pool) (i : Instr) : Type 0 where
  pub calls : (n : MemberName) → invoked pool i ≡ Some n → Called n
  pub reads : (n : MemberName) → accessed pool i ≡ Some n → Accessed n

pub named_inside : (pool : Pool) (is : List Instr) → AllByRecursion (AreNamed (IsCalledIn pool is) (IsAccessedIn pool is) pool) is
named_inside pool is = all_items (AreNamed (IsCalledIn pool is) (IsAccessedIn pool is) pool) is (λ i at. record {
  calls = λ n e. record { index = at.0; instr = i; inside = at.1; names = e };
  reads = λ n e. record { index = at.0; instr = i; inside = at.1; names = e };
})

-- an instruction of the original with what it means
pub record IsPart (O : Original) (Called Accessed : MemberName → Type 0) (s0 : Symbols) (is0 : List Instr) (i : Instr) (o : Op) : Type 0 where
  pub means : op_of s0 is0 i ≡ Some o
  pub rules : IsInstrOver O.class.pool i
  pub source : IsSourceOp O.program O.method o
  pub names : AreNamed Called Accessed O.class.pool i

abbrev pub AreParts : Original → (Called Accessed : MemberName → Type 0) → Symbols → List Instr → List Instr → List Op → Type 0
AreParts O Called Accessed s0 is0 [] [] = Unit {0}
AreParts O Called Accessed s0 is0 [] (o ∷ os) = ⊥
AreParts O Called Accessed s0 is0 (i ∷ is) [] = ⊥
AreParts O Called Accessed s0 is0 (i ∷ is) (o ∷ os) = IsPart O Called Accessed s0 is0 i o × AreParts O Called Accessed s0 is0 is os

pub parts_of : (O : Original) (Called Accessed : MemberName → Type 0) (s0 : Symbols) (is0 is : List Instr) (os : List Op) → each (op_of s0 is0) is ≡ Some os → AllByRecursion (IsInstrOver O.class.pool) is
    → AllByRecursion (IsSourceOp O.program O.method) os → AllByRecursion (AreNamed Called Accessed O.class.pool) is → AreParts O Called Accessed s0 is0 is os
parts_of O Called Accessed s0 is0 [] [] e h k n = tt
parts_of O Called Accessed s0 is0 [] (o ∷ os) e h k n = absurd cc
parts_of O Called Accessed s0 is0 (i ∷ is) os e h k n = go (op_of s0 is0 i) refl (each (op_of s0 is0) is) refl e k (λ qs t l. parts_of O Called Accessed s0 is0 is qs t h.1 l n.1)
  where
    go : (o : Option Op) → op_of s0 is0 i ≡ o → (r : Option (List Op)) → each (op_of s0 is0) is ≡ r → in_front o r ≡ Some os → AllByRecursion (IsSourceOp O.program O.method) os
        → ((qs : List Op) → each (op_of s0 is0) is ≡ Some qs → AllByRecursion (IsSourceOp O.program O.method) qs → AreParts O Called Accessed s0 is0 is qs) → AreParts O Called Accessed s0 is0 (i ∷ is) os
    go None q r t f l more = absurd cc
    go (Some o) q None t f l more = absurd cc
    go (Some o) q (Some qs) t f l more =
        let list : os ≡ o ∷ qs = cc in
        let all = subst (AllByRecursion (IsSourceOp O.program O.method)) list l in
        subst (AreParts O Called Accessed s0 is0 (i ∷ is)) (sym list) (record { means = q; rules = h.0; source = all.0; names = n.0 }, more qs t all.1)

module _ (O : Original) (Called Accessed : MemberName → Type 0) (s0 s : Symbols) (T : Ties O.program Called Accessed s0 s) (G : Grown s0.class.pool s.class.pool) (same : s0.class ≡ O.class) (is0 : List Instr) where
  abbrev xs_from : ℕ → List Op → List Typed
  xs_from n os = typed_from n O.table os

  -- the block of an instruction, as it means in whatever code it leads through
  one_meant : (L : List Instr) (place at : ℕ → ℕ) → LeadsToBlocks is0 L place at → (n : ℕ) (i : Instr) (o : Op) (b : Block) → IsPart O Called Accessed s0 is0 i o → slice_get O.method.ops n ≡ Some o → IsNumbered O n i s.class.pool b
      → AreMeant s place L b.instrs (block_of O.program O.method.places O.method.locals at (types_at O.table n) o)
  one_meant L place at moves n i o b p e q =
      block_meant O Called Accessed s0 s T G same is0 L place at moves i (omega (arith, p.rules.instr.op)) (wide_small i.pc _ i.operands p.rules.instr.operands) p.names.calls p.names.reads o (types_at O.table n) b.instrs p.means p.source
      (subst (λ (x : Option Op). IsBlock O x (types_at O.table n) i s.class.pool b.instrs) e q.1)

  pub one_long : (n : ℕ) (i : Instr) (o : Op) (b : Block) → IsPart O Called Accessed s0 is0 i o → slice_get O.method.ops n ≡ Some o → IsNumbered O n i s.class.pool b → length b.instrs ≡ block_len_of (types_at O.table n) o
  one_long n i o b p e q =
      meant_long s (λ t. t) is0 b.instrs _ (one_meant is0 (λ t. t) (λ n. n) (λ t n e. e) n i o b p e q) ∙ block_many O.program O.method.places O.method.locals (λ n. n) (types_at O.table n) o

  -- the instructions that are left are those of the method from a number on
  abbrev pub AreFrom : ℕ → List Op → Type 0
  AreFrom n os = (j : ℕ) → slice_get O.method.ops (n + j) ≡ slice_get os j

  pub from_here : (n : ℕ) (o : Op) (os : List Op) → AreFrom n (o ∷ os) → slice_get O.method.ops n ≡ Some o
  from_here n o os f = let z : n ≡ n + 0 = omega arith in ap (slice_get O.method.ops) z ∙ f 0

  pub from_next : (n : ℕ) (o : Op) (os : List Op) → AreFrom n (o ∷ os) → AreFrom (n + 1) os
  from_next n o os f j = let z : n + 1 + j ≡ n + suc j = omega arith in ap (slice_get O.method.ops) z ∙ f (suc j)

  pub next_typed : (n : ℕ) (o : Op) (os : List Op) → typed_from n O.table (o ∷ os) ≡ record { op = o; types = types_at O.table n } ∷ typed_from (n + 1) O.table os
  next_typed n o os = let z : suc n ≡ n + 1 = omega arith in ap (λ (m : ℕ). record { op = o; types = types_at O.table n } ∷ typed_from m O.table os) z

  -- how many instructions stand before the block of one
  before_is : (n : ℕ) (is : List Instr) (os : List Op) (bs : List Block) (t : ℕ) → AreParts O Called Accessed s0 is0 is os → AreFrom n os → AllPut (IsNumbered O) n is s.class.pool bs → position_or_len (λ (i : Instr). nat_eq i.pc t) is < length is
      → (number_of bs t ≡ block_at (typed_from n O.table os) (position_or_len (λ (i : Instr). nat_eq i.pc t) is)) × (number_of bs t < length (all_instrs bs))
  before_is n [] os bs t p f q l = absurd (omega arith)
  before_is n (i ∷ is) [] bs t p f q l = absurd p
  before_is n (i ∷ is) (o ∷ os) [] t p f q l = absurd q
  before_is n (i ∷ is) (o ∷ os) (b ∷ bs) t p f q l =
      let long = one_long n i o b p.0 (from_here n o os f) q.0 in
      let whole = ap length (all_cons b bs) ∙ length-append b.instrs (all_instrs bs) in
      go (nat_eq i.pc t) refl long whole (λ m. before_is (n + 1) is os bs t p.1 (from_next n o os f) q.1 m) l
    where
      go : (x : Bool) → nat_eq i.pc t ≡ x → length b.instrs ≡ block_len_of (types_at O.table n) o → length (all_instrs (b ∷ bs)) ≡ length b.instrs + length (all_instrs bs)
          → (position_or_len (λ (i : Instr). nat_eq i.pc t) is < length is → (number_of bs t ≡ block_at (typed_from (n + 1) O.table os) (position_or_len (λ (i : Instr). nat_eq i.pc t) is)) × (number_of bs t < length (all_instrs bs)))
          → position_or_len (λ (i : Instr). nat_eq i.pc t) (i ∷ is) < length (i ∷ is)
          → (number_of (b ∷ bs) t ≡ block_at (typed_from n O.table (o ∷ os)) (position_or_len (λ (i : Instr). nat_eq i.pc t) (i ∷ is))) × (number_of (b ∷ bs) t < length (all_instrs (b ∷ bs)))
      go true e long whole more l =
          let pc : nat_eq b.pc t ≡ true = ap (λ (x : ℕ). nat_eq x t) q.0.0 ∙ e in
          let none : number_of (b ∷ bs) t ≡ 0 = rw pc refl in
          let first : position_or_len (λ (i : Instr). nat_eq i.pc t) (i ∷ is) ≡ 0 = rw e refl in
          (none ∙ ap (block_at (typed_from n O.table (o ∷ os))) (sym first), omega (arith, none, long, whole, block_some (types_at O.table n) o))
      go false e long whole more l =
          let pc : nat_eq b.pc t ≡ false = ap (λ (x : ℕ). nat_eq x t) q.0.0 ∙ e in
          let none : number_of (b ∷ bs) t ≡ length b.instrs + number_of bs t = rw pc refl in
          let later : position_or_len (λ (i : Instr). nat_eq i.pc t) (i ∷ is) ≡ suc (position_or_len (λ (i : Instr). nat_eq i.pc t) is) = rw e (omega arith) in
          let r = more (omega (arith, later, l)) in
          let sums : block_at (record { op = o; types = types_at O.table n } ∷ typed_from (n + 1) O.table os) (suc (position_or_len (λ (i : Instr). nat_eq i.pc t) is)) ≡ block_len_of (types_at O.table n) o + block_at (typed_from (n + 1) O.table os) (position_or_len (λ (i : Instr). nat_eq i.pc t) is) = sum_by-cons block_len (record { op = o; types = types_at O.table n }) (take (position_or_len (λ (i : Instr). nat_eq i.pc t) is) (typed_from (n + 1) O.table os)) in
          let list = ap (λ (l : List Typed). block_at l (suc (position_or_len (λ (i : Instr). nat_eq i.pc t) is))) (next_typed n o os) in
          let at = ap (block_at (typed_from n O.table (o ∷ os))) later in
          (omega (arith, none, long, r.0, sums, list, at), omega (arith, none, whole, r.1))

  position_found : (t n : ℕ) (is : List Instr) → number_at is t ≡ Some n → (n ≡ position_or_len (λ (i : Instr). nat_eq i.pc t) is) × (position_or_len (λ (i : Instr). nat_eq i.pc t) is < length is)
  position_found t n is e = go (nat_lt (position_or_len (λ (i : Instr). nat_eq i.pc t) is) (length is)) refl e
    where
      less : (a b : ℕ) → nat_lt a b ≡ true → a < b
      less a b t = grind (arith, nat_tests)

      go : (b : Bool) → nat_lt (position_or_len (λ (i : Instr). nat_eq i.pc t) is) (length is) ≡ b → cond b (Some (position_or_len (λ (i : Instr). nat_eq i.pc t) is)) None ≡ Some n
          → (n ≡ position_or_len (λ (i : Instr). nat_eq i.pc t) is) × (position_or_len (λ (i : Instr). nat_eq i.pc t) is < length is)
      go true q h = let s : position_or_len (λ (i : Instr). nat_eq i.pc t) is ≡ n = cc in (sym s, less _ _ q)
      go false q h = absurd cc

  -- ---- all blocks

  all_blocks : (L : List Instr) (place at : ℕ → ℕ) → LeadsToBlocks is0 L place at → (n : ℕ) (is : List Instr) (os : List Op) (bs : List Block) → AreParts O Called Accessed s0 is0 is os → AreFrom n os → AllPut (IsNumbered O) n is s.class.pool bs
      → AreMeant s place L (all_instrs bs) (flat_map (block_in_program O.program O.method.places O.method.locals at) (typed_from n O.table os))
  all_blocks L place at moves n [] [] [] p f q = tt
  all_blocks L place at moves n [] [] (b ∷ bs) p f q = absurd q
  all_blocks L place at moves n [] (o ∷ os) bs p f q = absurd p
  all_blocks L place at moves n (i ∷ is) [] bs p f q = absurd p
  all_blocks L place at moves n (i ∷ is) (o ∷ os) [] p f q = absurd q
  all_blocks L place at moves n (i ∷ is) (o ∷ os) (b ∷ bs) p f q =
      let one = one_meant L place at moves n i o b p.0 (from_here n o os f) q.0 in
      let rest = all_blocks L place at moves (n + 1) is os bs p.1 (from_next n o os f) q.1 in
      let f = block_in_program O.program O.method.places O.method.locals at in
      let ops = ap (flat_map (block_in_program O.program O.method.places O.method.locals at)) (next_typed n o os)
      ∙ flat_map-cons (block_in_program O.program O.method.places O.method.locals at) (record { op = o; types = types_at O.table n }) (typed_from (n + 1) O.table os) in
      subst (λ (js : List Instr). AreMeant s place L js (flat_map (block_in_program O.program O.method.places O.method.locals at) (typed_from n O.table (o ∷ os)))) (sym (all_cons b bs))
      (subst (AreMeant s place L (b.instrs ++ all_instrs bs)) (sym ops)
      (meant_append s place L b.instrs (all_instrs bs) _ (flat_map (block_in_program O.program O.method.places O.method.locals at) (typed_from (n + 1) O.table os)) one rest))

  module _ (bs : List Block) (parts : AreParts O Called Accessed s0 is0 is0 O.method.ops) (put : AllPut (IsNumbered O) 0 is0 s.class.pool bs) (shaped : EachInstr IsShaped bs) where
    pub leads : LeadsToBlocks is0 (relocated bs stub) (place_of bs) (block_at (typed_from 0 O.table O.method.ops))
    leads t n e =
        let f = position_found t n is0 e in
        let r = before_is 0 is0 O.method.ops bs t parts (λ j. let z : 0 + j ≡ j = omega arith in ap (slice_get O.method.ops) z) put f.1 in
        let small : number_of bs t < length (all_instrs bs ++ stub) = omega (arith, r.1, length-append (all_instrs bs) stub) in
        place_is bs stub t shaped (record { op = omega arith; operands = tt }, tt) small ∙ ap (λ (x : ℕ). Some x) (r.0 ∙ ap (block_at (typed_from 0 O.table O.method.ops)) (sym f.0))

    ops_meant : ops_of s (relocated bs stub) ≡ Some (blocks O.program O.method.places O.method.locals (typed_from 0 O.table O.method.ops) ++ op.Throw ∷ [])
    ops_meant = all_meant s (place_of bs) (relocated bs stub) 0 (all_instrs bs ++ stub) _
        (meant_append s (place_of bs) (relocated bs stub) (all_instrs bs) stub (blocks O.program O.method.places O.method.locals (typed_from 0 O.table O.method.ops)) (op.Throw ∷ [])
        (all_blocks (relocated bs stub) (place_of bs) (block_at (typed_from 0 O.table O.method.ops)) leads 0 is0 O.method.ops bs parts (λ j. let z : 0 + j ≡ j = omega arith in ap (slice_get O.method.ops) z) put) ((λ a. refl), tt))

-- ---- limits that are kept

none_first : (a b : Bool) → (a || b) ≡ false → (a ≡ false) × (b ≡ false)
none_first true b h = cc
none_first false b h = (refl, h)

not_more : (m n : ℕ) → nat_lt m n ≡ false → n ≤ m
not_more m n h = grind (arith, nat_tests)

pub few_kept : (O : Original) (is : List Instr) → few_arguments O.program O.method is ≡ Ok tt → (O.method.places ≤ 254) × AllByRecursion FitsCount is
unfolding few_arguments
few_kept O is e =
    let t = guard_ok (is_full O.method.places || (list_any (calls_full O.program) O.method.ops || list_any counts_full is)) (too_many (printed O.method.name) (codes "Arguments")) (Ok tt) tt e in
    let a = none_first (is_full O.method.places) _ t.0 in
    let b = none_first (list_any (calls_full O.program) O.method.ops) (list_any counts_full is) a.1 in
    (not_more 254 O.method.places a.0, counts_fit is b.1)

-- what a code has few of
pub record HasFew (k : Method) (code : Code) : Type 0 where
  pub handlers : length code.handlers ≤ 65534
  pub locals : code.max_locals + added_locals k ≤ 65535
  pub near : list_any (is_far k) k.ops ≡ false
  pub stack : code.max_stack ≤ 65534

pub places_kept : (O : Original) (code : Code) → few_places O.method code ≡ Ok tt → HasFew O.method code
unfolding few_places
places_kept O code e =
    let a = guard_ok (nat_lt 65534 (length code.handlers)) (too_many (printed O.method.name) (codes "Handlers")) _ tt e in
    let b = guard_ok (nat_lt 65535 (code.max_locals + added_locals O.method) || list_any (is_far O.method) O.method.ops) (too_many (printed O.method.name) (codes "Locals")) _ tt a.1 in
    let c = guard_ok (nat_lt 65534 code.max_stack) (too_many (printed O.method.name) (codes "Stack")) _ tt b.1 in
    let n = none_first (nat_lt 65535 (code.max_locals + added_locals O.method)) (list_any (is_far O.method) O.method.ops) b.0 in
    record { handlers = not_more 65534 (length code.handlers) a.0; locals = not_more 65535 (code.max_locals + added_locals O.method) n.0; near = n.1; stack = not_more 65534 code.max_stack c.0 }

-- what the code of a duplicate names, in every pool that is grown from the one that was left
pub record AreRefs (O : Original) (is : List Instr) (pool : Pool) (r : (List Block × ℕ) × Pool) : Type 0 where
  pub grown : Grown pool r.1
  pub short : length r.1 < 65535
  pub blocks : (Z : Pool) → Grown r.1 Z → AllPut (IsNumbered O) 0 is Z r.0.0
  pub conflict : (Z : Pool) → Grown r.1 Z → IsClassAt conflict_class Z r.0.1

pub refs_all : (O : Original) (is : List Instr) (pool : Pool) (r : (List Block × ℕ) × Pool) → length pool < 65535 → refs_of O is pool ≡ Ok r → AreRefs O is pool r
unfolding refs_of
refs_all O is pool r short e =
    let a = bind_ok (grow_from (numbered_block O) 0 is pool) (λ blocks. add_class blocks.1 conflict_class >>= λ conflict. Ok ((blocks.0, conflict.0), conflict.1)) r e in
    let b = bind_ok (add_class a.0.1 conflict_class) (λ conflict. Ok ((a.0.0, conflict.0), conflict.1)) r a.2 in
    let q = adds_all (IsNumbered O) (numbered_block O) (adds_numbered O) 0 is pool a.0 short a.1 in
    let k = adds_class conflict_class a.0.1 b.0 q.short b.1 in
    subst (AreRefs O is pool) (ok_is ((a.0.0, b.0.0), b.0.1) r b.2) (record {
      grown = grown_trans pool a.0.1 b.0.1 q.grown k.grown;
      short = k.short;
      blocks = λ Z g. q.facts Z (grown_trans a.0.1 b.0.1 Z k.grown g);
      conflict = k.facts;
    })

pub each_instr : (pool : Pool) (is : List Instr) → AllByRecursion (IsInstrOver pool) is → AllByRecursion IsInstr is
each_instr pool [] h = tt
each_instr pool (i ∷ is) h = (h.0.instr, each_instr pool is h.1)

pub longer : (a b : Pool) → IsLonger a b → Grown a b
longer a b h = record { more = h.0; is = h.1 }

pub ops_are : OpsLaw
ops_are O s0 s code before pool r T same means spelled source args places l short told m =
    let few = few_kept O before args in
    let near = places_kept O code places in
    let fits = all_fit O.method O.method.ops (all_near O.method O.method.ops near.near) (little_is s0 before O.method.ops (each_instr O.class.pool before spelled.instrs.each) means) in
    let put = refs_all O before pool r short told in
    let here = put.blocks s.class.pool (longer r.1 s.class.pool m) in
    let G0 : Grown O.class.pool s.class.pool = grown_trans O.class.pool r.1 s.class.pool (grown_trans O.class.pool pool r.1 (longer O.class.pool pool l) put.grown) (longer r.1 s.class.pool m) in
    let G : Grown s0.class.pool s.class.pool = subst (λ (c : ClassFile). Grown c.pool s.class.pool) (sym same) G0 in
    let laid = blocks_laid O few.0 fits code.handlers near.handlers code.code before few.1 spelled s.class.pool r.0.0 here r.0.1 in
    ops_meant O (IsCalledIn O.class.pool before) (IsAccessedIn O.class.pool before) s0 s T G same before r.0.0
    (parts_of O (IsCalledIn O.class.pool before) (IsAccessedIn O.class.pool before) s0 before before O.method.ops means spelled.instrs.each source.each (named_inside O.class.pool before)) here laid.each
