-- Whichever of its tables is taken, a method has the same duplicate.
use Rattle.std.proofs.Common.{◌≡◌, ℕ, ◌+◌, List, [], ◌∷◌, Option, Some, None, Result, Ok, Err, refl, ap, ◌∙◌}
use Rattle.std.specs.Prelude.{slice_get}
use Rattle.jmodel.specs.declared.refusal.Refusal.{Refusal}
use Rattle.jmodel.specs.declared.instruction.Instr.{Instr}
use Rattle.jmodel.specs.format.ClassFile.{Member, Pool, ClassFile}
use Rattle.objects.specs.linking.Code.{Coded}
use Rattle.jmodel.specs.format.PoolAdding.{add_class}
use Rattle.jmodel.specs.format.Reading.{◌>>=◌}
use Rattle.jmodel.specs.format.Relocation.{Block}
use Rattle.objects.specs.declared.op.Op.{Op}
use Rattle.objects.specs.declared.op.Op.TheVariants as op
use Rattle.objects.specs.semantics.Program.{Method, Program}
use Rattle.objects.specs.typing.Typing.{Types, Table, types_at}
use Rattle.objects.specs.typing.TypeOrder.{conflict_class}
use Rattle.objects.specs.linking.Linking.{decoded_member}
use Rattle.objects.specs.typing.Source.{AreTypes}
use Rattle.member_code.specs.Growing.{Growth, grow_from}
use Rattle.member_code.specs.Names.{duplicate_named}
use Rattle.member_code.specs.Coding.{block, room_for, added_method}
use Rattle.dup_methods.specs.Originals.{Original}
use Rattle.dup_methods.specs.Limits.{few_arguments, few_places}
use Rattle.dup_methods.specs.Duplicates.{block_of, numbered_block, refs_of, texts_of, duplicate_bytes, duplicate_flags, made_duplicate, coded_duplicate, abstract_duplicate, duplicate_with, duplicate_of}
use Rattle.program_typing.specs.Tables.{IsTableOf}
use Rattle.rewriter.specs.Rewritten.{original_of}
use Rattle.rewriter.proofs.SameTables.{same_entries}

-- what is put for each item, the same
abbrev behind : {B : Type 0} → B × Pool → Growth (List B) → Growth (List B)
behind first read = read >>= λ others. Ok (first.0 ∷ others.0, others.1)

grow_same : {A B : Type 0} (f g : ℕ → A → Pool → Growth B) → ((n : ℕ) (x : A) (pool : Pool) → f n x pool ≡ g n x pool) → (n : ℕ) (xs : List A) (pool : Pool) → grow_from f n xs pool ≡ grow_from g n xs pool
grow_same f g h n [] pool = refl
grow_same {A} {B} f g h n (x ∷ xs) pool =
    ap (λ (r : Growth B). r >>= λ first. behind first (grow_from f (n + 1) xs first.1)) (h n x pool) ∙ rest (λ pool. grow_same f g h (n + 1) xs pool) (g n x pool)
  where
    rest : ((pool : Pool) → grow_from f (n + 1) xs pool ≡ grow_from g (n + 1) xs pool) → (r : Growth B) → (r >>= λ first. behind first (grow_from f (n + 1) xs first.1)) ≡ (r >>= λ first. behind first (grow_from g (n + 1) xs first.1))
    rest more (Ok first) = ap (behind first) (more first.1)
    rest more (Err e) = refl

module _ (P : Program) (c : ClassFile) (p : Method × Member) (T U : Table) (same : (pc : ℕ) → types_at T pc ≡ types_at U pc) where
  abbrev O : Original
  O = original_of P c p T

  abbrev Q : Original
  Q = original_of P c p U

  block_same : (o : Option Op) (h : Option Types) (i : Instr) (pool : Pool) → block_of O o h i pool ≡ block_of Q o h i pool
  block_same (Some (op.GetStatic f)) h i pool = refl
  block_same (Some (op.PutStatic f)) h i pool = refl
  block_same (Some (op.GetField f d)) h i pool = refl
  block_same (Some (op.PutField f d)) h i pool = refl
  block_same (Some (op.LoadElement t)) h i pool = refl
  block_same (Some (op.StoreElement t)) h i pool = refl
  block_same (Some (op.InvokeStatic m)) h i pool = refl
  block_same (Some (op.InvokeSpecial m)) h i pool = refl
  block_same (Some (op.InvokeVirtual m d)) h i pool = refl
  block_same (Some (op.InvokeInterface m d)) h i pool = refl
  block_same (Some (op.Load s n)) h i pool = refl
  block_same (Some (op.Store s n)) h i pool = refl
  block_same (Some (op.Increment n x)) h i pool = refl
  block_same o h i pool = refl

  numbered_same : (n : ℕ) (i : Instr) (pool : Pool) → numbered_block O n i pool ≡ numbered_block Q n i pool
  numbered_same n i pool =
      ap (λ (r : Growth (List Instr)). r >>= λ is. Ok (block i.pc is.0, is.1))
      (ap (λ (h : Option Types). block_of O (slice_get p.0.ops n) h i pool) (same n) ∙ block_same (slice_get p.0.ops n) (types_at U n) i pool)

  refs_same : (is : List Instr) (pool : Pool) → refs_of O is pool ≡ refs_of Q is pool
  unfolding refs_of
  refs_same is pool = ap (λ (r : Growth (List Block)). r >>= λ blocks. add_class blocks.1 conflict_class >>= λ conflict. Ok ((blocks.0, conflict.0), conflict.1)) (grow_same (numbered_block O) (numbered_block Q) numbered_same 0 is pool)

  made_same : (coded : Coded) (pool : Pool) → made_duplicate O coded pool ≡ made_duplicate Q coded pool
  unfolding made_duplicate
  made_same coded pool =
      ap (λ (r : Growth (List Block × ℕ)). r >>= λ refs. texts_of p.0 refs.1 >>= λ texts. duplicate_bytes p.0 coded.code refs.0.0 refs.0.1 >>= λ bytes. Ok (added_method (duplicate_flags p.1.flags) texts.0.0.0 texts.0.0.1 texts.0.1 bytes, texts.1))
      (refs_same coded.instrs pool)

  coded_same : (coded : Coded) (pool : Pool) → coded_duplicate O coded pool ≡ coded_duplicate Q coded pool
  unfolding coded_duplicate
  coded_same coded pool = ap (λ (r : Growth Member). few_arguments P p.0 coded.instrs >>= λ arguments. few_places p.0 coded.code >>= λ places. r) (made_same coded pool)

  abstract_same : (pool : Pool) → abstract_duplicate O pool ≡ abstract_duplicate Q pool
  unfolding abstract_duplicate
  abstract_same pool = refl

  with_same : (coded : Option Coded) (pool : Pool) → duplicate_with O coded pool ≡ duplicate_with Q coded pool
  with_same None pool = abstract_same pool
  with_same (Some coded) pool = coded_same coded pool

  duplicate_same : (room : ℕ) (pool : Pool) → duplicate_of room O pool ≡ duplicate_of room Q pool
  unfolding duplicate_of
  duplicate_same room pool = go (decoded_member (record { class = c; member = p.1 }))
    where
      go : (r : Result (Option Coded) Refusal) → (r >>= λ coded. room_for room (duplicate_named p.0.name) >>= λ fits. duplicate_with O coded pool) ≡ (r >>= λ coded. room_for room (duplicate_named p.0.name) >>= λ fits. duplicate_with Q coded pool)
      go (Ok coded) = ap (λ (r : Growth Member). room_for room (duplicate_named p.0.name) >>= λ fits. r) (with_same coded pool)
      go (Err e) = refl

-- the duplicate by one table is that by another
pub same_duplicate : (P : Program) → AreTypes P → (c : ClassFile) (p : Method × Member) (T U : Table) → IsTableOf P p.0 T → IsTableOf P p.0 U → (room : ℕ) (pool : Pool)
    → duplicate_of room (original_of P c p T) pool ≡ duplicate_of room (original_of P c p U) pool
same_duplicate P C c p T U h g room pool = duplicate_same P c p T U (same_entries P C p.0 T U h g) room pool
