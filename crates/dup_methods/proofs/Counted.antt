-- The blocks of a duplicate, counted: each has an instruction, all together have as many as the rewriting's, and each instruction fits the pool.
use Rattle.std.proofs.Common.{◌≡◌, ℕ, suc, ◌+◌, ◌≤◌, List, [], ◌∷◌, length, take, Option, refl, sym, ap, ◌∙◌, subst, arith, length-append}
use Rattle.std.specs.Prelude.{slice_get, sum_by}
use Rattle.std.specs.List.{AllByRecursion}
use Rattle.std.proofs.lemmas.List.{take_all}
use Rattle.std.proofs.lemmas.List.Sums.{sum_by-cons}
use Rattle.jmodel.specs.declared.instruction.Instr.{Instr}
use Rattle.jmodel.specs.format.ClassFile.{Pool}
use Rattle.jmodel.specs.format.Pool.{MemberName}
use Rattle.jmodel.specs.format.Relocation.{Block, all_instrs, EachInstr}
use Rattle.bytecode.specs.Relocated.{Fits, HaveInstrs}
use Rattle.bytecode.proofs.BlockLaws.{all_cons}
use Rattle.objects.specs.declared.op.Op.{Op}
use Rattle.objects.specs.typing.Typing.{types_at}
use Rattle.objects.specs.linking.Decoding.{Symbols}
use Rattle.objects.specs.rewriting.Rewriting.{typed_from, block_len, block_len_of, block_at}
use Rattle.member_code.proofs.Grown.{Grown}
use Rattle.member_code.proofs.Puts.{AllPut}
use Rattle.dup_methods.specs.Originals.{Original}
use Rattle.dup_methods.specs.Limits.{FitsOp, FitsCount}
use Rattle.dup_methods.specs.DuplicateLaw.{Ties}
use Rattle.dup_methods.proofs.BlockFacts.{IsBlock, IsNumbered}
use Rattle.dup_methods.proofs.OverPool.{fit_block}
use Rattle.dup_methods.proofs.Whole.{AreParts, block_some, one_long, from_here, from_next, next_typed}

-- instructions with their types are as many as the instructions
pub typed_long : (n : ℕ) (os : List Op) (O : Original) → length (typed_from n O.table os) ≡ length os
typed_long n [] O = refl
typed_long n (o ∷ os) O = omega (arith, typed_long (suc n) os O)

module _ (O : Original) (Called Accessed : MemberName → Type 0) (s0 s : Symbols) (T : Ties O.program Called Accessed s0 s) (G : Grown s0.class.pool s.class.pool) (same : s0.class ≡ O.class) (is0 : List Instr) where
  pub have_instrs : (n : ℕ) (is : List Instr) (os : List Op) (bs : List Block) → AreParts O Called Accessed s0 is0 is os → ((j : ℕ) → slice_get O.method.ops (n + j) ≡ slice_get os j) → AllPut (IsNumbered O) n is s.class.pool bs → HaveInstrs bs
  have_instrs n [] [] [] p f q = tt
  have_instrs n [] [] (b ∷ bs) p f q = absurd q
  have_instrs n [] (o ∷ os) bs p f q = absurd p
  have_instrs n (i ∷ is) [] bs p f q = absurd p
  have_instrs n (i ∷ is) (o ∷ os) [] p f q = absurd q
  have_instrs n (i ∷ is) (o ∷ os) (b ∷ bs) p f q =
      let long = one_long O Called Accessed s0 s T G same is0 n i o b p.0 (from_here O Called Accessed s0 s T G same is0 n o os f) q.0 in
      (omega (arith, long, block_some (types_at O.table n) o), have_instrs (n + 1) is os bs p.1 (from_next O Called Accessed s0 s T G same is0 n o os f) q.1)

  many_from : (n : ℕ) (is : List Instr) (os : List Op) (bs : List Block) → AreParts O Called Accessed s0 is0 is os → ((j : ℕ) → slice_get O.method.ops (n + j) ≡ slice_get os j) → AllPut (IsNumbered O) n is s.class.pool bs
      → length (all_instrs bs) ≡ sum_by block_len (typed_from n O.table os)
  many_from n [] [] [] p f q = refl
  many_from n [] [] (b ∷ bs) p f q = absurd q
  many_from n [] (o ∷ os) bs p f q = absurd p
  many_from n (i ∷ is) [] bs p f q = absurd p
  many_from n (i ∷ is) (o ∷ os) [] p f q = absurd q
  many_from n (i ∷ is) (o ∷ os) (b ∷ bs) p f q =
      let long = one_long O Called Accessed s0 s T G same is0 n i o b p.0 (from_here O Called Accessed s0 s T G same is0 n o os f) q.0 in
      let whole = ap length (all_cons b bs) ∙ length-append b.instrs (all_instrs bs) in
      let rest = many_from (n + 1) is os bs p.1 (from_next O Called Accessed s0 s T G same is0 n o os f) q.1 in
      let sums : sum_by block_len (record { op = o; types = types_at O.table n } ∷ typed_from (n + 1) O.table os) ≡ block_len_of (types_at O.table n) o + sum_by block_len (typed_from (n + 1) O.table os) =
      sum_by-cons block_len (record { op = o; types = types_at O.table n }) (typed_from (n + 1) O.table os) in
      let list = ap (sum_by block_len) (next_typed O Called Accessed s0 s T G same is0 n o os) in
      omega (arith, whole, long, rest, sums, list)

  -- all blocks together have as many instructions as those of the rewriting
  pub all_many : (bs : List Block) → AreParts O Called Accessed s0 is0 is0 O.method.ops → AllPut (IsNumbered O) 0 is0 s.class.pool bs → length is0 ≡ length O.method.ops → length (all_instrs bs) ≡ block_at (typed_from 0 O.table O.method.ops) (length is0)
  all_many bs p q long =
      let whole = many_from 0 is0 O.method.ops bs p (λ j. let z : 0 + j ≡ j = omega arith in ap (slice_get O.method.ops) z) q in
      let all : take (length is0) (typed_from 0 O.table O.method.ops) ≡ typed_from 0 O.table O.method.ops = take_all (length is0) (typed_from 0 O.table O.method.ops) (omega (arith, long, typed_long 0 O.method.ops O)) in
      whole ∙ ap (sum_by block_len) (sym all)

  module _ (few : O.method.places ≤ 254) (Z : Pool) (over : Grown O.class.pool Z) where
    all_fit_from : (n : ℕ) (is : List Instr) (os : List Op) (bs : List Block) → AreParts O Called Accessed s0 is0 is os → ((j : ℕ) → slice_get O.method.ops (n + j) ≡ slice_get os j) → AllPut (IsNumbered O) n is Z bs
        → AllByRecursion (FitsOp O.method) os → AllByRecursion FitsCount is → EachInstr (Fits Z) bs
    all_fit_from n [] [] [] p f q k c = tt
    all_fit_from n [] [] (b ∷ bs) p f q k c = absurd q
    all_fit_from n [] (o ∷ os) bs p f q k c = absurd p
    all_fit_from n (i ∷ is) [] bs p f q k c = absurd p
    all_fit_from n (i ∷ is) (o ∷ os) [] p f q k c = absurd q
    all_fit_from n (i ∷ is) (o ∷ os) (b ∷ bs) p f q k c = (
      fit_block O few s0 same is0 i p.0.rules Z over o (types_at O.table n) b.instrs p.0.means k.0 c.0
          (subst (λ (x : Option Op). IsBlock O x (types_at O.table n) i Z b.instrs) (from_here O Called Accessed s0 s T G same is0 n o os f) q.0.1),
      all_fit_from (n + 1) is os bs p.1 (from_next O Called Accessed s0 s T G same is0 n o os f) q.1 k.1 c.1,
    )

    -- each instruction of the blocks fits a pool that has what they name
    pub blocks_fit : (bs : List Block) → AreParts O Called Accessed s0 is0 is0 O.method.ops → AllPut (IsNumbered O) 0 is0 Z bs → AllByRecursion (FitsOp O.method) O.method.ops → AllByRecursion FitsCount is0 → EachInstr (Fits Z) bs
    blocks_fit bs p q k c = all_fit_from 0 is0 O.method.ops bs p (λ j. let z : 0 + j ≡ j = omega arith in ap (slice_get O.method.ops) z) q k c
