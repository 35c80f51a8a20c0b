-- The table of places of blocks says where each begins.
use Rattle.std.proofs.Common.{◌≡◌, ℕ, zero, suc, ◌+◌, List, [], ◌∷◌, ◌++◌, length, take, refl, ap, ◌∙◌, arith}
use Rattle.std.specs.List.{flat_map}
use Rattle.std.proofs.lemmas.List.Sums.{sum_by-cons}
use Rattle.std.proofs.Math.Path.{fun_ext}
use Rattle.objects.specs.declared.op.Op.{Op}
use Rattle.objects.specs.semantics.Program.{Program}
use Rattle.objects.specs.typing.Typing.{Table, types_at}
use Rattle.objects.specs.rewriting.Rewriting.{typed_from, block, block_of, block_len, block_len_of, block_at, blocks}
use Rattle.program_rewriter.specs.Places.{starts_from, start_of}
use Rattle.program_rewriter.specs.Blocks.{blocks_from}

first_start : (s at pc : ℕ) (T : Table) (os : List Op) → start_of (s ∷ starts_from at pc T os) zero ≡ s
first_start s at pc T [] = refl
first_start s at pc T (o ∷ os) = refl

later_start : (s at pc n : ℕ) (T : Table) (os : List Op) → start_of (s ∷ starts_from at pc T os) (suc n) ≡ start_of (starts_from at pc T os) n
later_start s at pc n T [] = refl
later_start s at pc n T (o ∷ os) = refl

starts_are : (at pc n : ℕ) (T : Table) (os : List Op) → start_of (starts_from at pc T os) n ≡ at + block_at (typed_from pc T os) n
starts_are at pc zero T [] = omega arith
starts_are at pc (suc n) T [] = omega arith
starts_are at pc zero T (o ∷ os) = first_start at (at + block_len_of (types_at T pc) o) (suc pc) T os ∙ omega arith
starts_are at pc (suc n) T (o ∷ os) =
    let len = block_len_of (types_at T pc) o in
    let first : block_at (typed_from pc T (o ∷ os)) (suc n) ≡ len + block_at (typed_from (suc pc) T os) n = sum_by-cons block_len (record { op = o; types = types_at T pc }) (take n (typed_from (suc pc) T os)) in
    later_start at (at + len) (suc pc) n T os ∙ starts_are (at + len) (suc pc) n T os ∙ omega (arith, first)

-- as functions
pub starts_say : (T : Table) (os : List Op) → start_of (starts_from 0 0 T os) ≡ block_at (typed_from 0 T os)
starts_say T os = fun_ext (λ n. starts_are 0 0 n T os ∙ omega arith)

-- there are as many instructions with types as instructions
pub many_typed : (pc : ℕ) (T : Table) (os : List Op) → length (typed_from pc T os) ≡ length os
many_typed pc T [] = refl
many_typed pc T (o ∷ os) = ap suc (many_typed (suc pc) T os)

-- the blocks, one after another
pub blocks_follow : (P : Program) (p most : ℕ) (at : ℕ → ℕ) (T : Table) (pc : ℕ) (os : List Op) → blocks_from P p most at T pc os ≡ flat_map (block P p most at) (typed_from pc T os)
blocks_follow P p most at T pc [] = refl
blocks_follow P p most at T pc (o ∷ os) = ap (λ (bs : List Op). block_of P p most at (types_at T pc) o ++ bs) (blocks_follow P p most at T (suc pc) os)

-- the blocks by the table are the blocks
pub table_blocks : (P : Program) (p most : ℕ) (T : Table) (os : List Op) → blocks_from P p most (start_of (starts_from 0 0 T os)) T 0 os ≡ blocks P p most (typed_from 0 T os)
table_blocks P p most T os = blocks_follow P p most (start_of (starts_from 0 0 T os)) T 0 os ∙ ap (λ (at : ℕ → ℕ). flat_map (block P p most at) (typed_from 0 T os)) (starts_say T os)
