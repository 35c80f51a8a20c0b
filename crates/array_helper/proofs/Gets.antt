-- What the helper's methods name is in every pool that is grown from the one that was left, and their code can be laid.
use Rattle.std.proofs.Common.{◌≡◌, ℕ, ◌+◌, ◌<◌, List, [], length, Ok, sym, subst, arith}
use Rattle.std.specs.Prelude.{codes}
use Rattle.std.specs.List.{AllByRecursion}
use Rattle.jmodel.specs.declared.instruction.Instr.{Instr}
use Rattle.jmodel.specs.format.ClassFile.{Pool, Member}
use Rattle.jmodel.specs.format.Instruction.{targets_of}
use Rattle.jmodel.specs.format.Relocation.{IsShaped}
use Rattle.objects.specs.declared.op.Sort.TheVariants as sort
use Rattle.objects.specs.declared.op.WordType.{WordType}
use Rattle.objects.specs.declared.op.WordType.TheVariants as word
use Rattle.objects.specs.semantics.Step.{sort_of}
use Rattle.objects.specs.typing.TypeOrder.{context_class}
use Rattle.objects.specs.rewriting.Rewriting.{word_places}
use Rattle.objects.specs.linking.Decoding.{read_descriptor, write_descriptor}
use Rattle.const_pool.proofs.Takes.{bind_ok, ok_is}
use Rattle.member_code.specs.Instrs.{plain}
use Rattle.member_code.proofs.Grown.{grown_refl, grown_trans}
use Rattle.member_code.proofs.Added.{member}
use Rattle.member_code.proofs.ValuePlaces.{few_places}
use Rattle.member_code.proofs.Puts.{Puts, Adding, IsMethodAt, adds_method, IsStraightAt, adds_straight}
use Rattle.member_code.proofs.Straight.{each_shaped, each_nowhere}
use Rattle.member_code.proofs.Single.{IsLaid, plain_laid, load_laid, give_laid, call_virtual_laid}
use Rattle.array_helper.specs.Names.{load_named, store_named}
use Rattle.array_helper.specs.Helper.{ElementMethods, look_call, read_call, write_call, load_code, load_instrs, load_method, store_instrs, store_method, element_methods}

pub record IsLoad (t : WordType) (Z : Pool) (m : Member) : Type 0 where
  pub before : ℕ
  pub after : ℕ
  pub is_before : IsMethodAt (member context_class (codes "beforeReadAccess") (codes "(Ljava/lang/Object;I)V")) Z before
  pub is_after : IsMethodAt (member context_class (codes "onReadAccess") (read_descriptor (codes "I") t)) Z after
  pub method : IsStraightAt (3 + word_places t) 3 (load_instrs t before after) (load_named t) Z m

load_puts : (t : WordType) → Adding (IsLoad t) (load_method t)
unfolding load_method look_call read_call
load_puts t pool r s e =
    let a = bind_ok _ _ r e in
    let b = bind_ok _ _ r a.2 in
    let p = adds_method context_class (codes "beforeReadAccess") (codes "(Ljava/lang/Object;I)V") pool a.0 s a.1 in
    let q = adds_method context_class (codes "onReadAccess") (read_descriptor (codes "I") t) a.0.1 b.0 p.short b.1 in
    let u = adds_straight (3 + word_places t) 3 (load_instrs t a.0.0 b.0.0) (load_named t) b.0.1 r q.short b.2 in
    let qu = grown_trans a.0.1 b.0.1 r.1 q.grown u.grown in
    record {
      grown = grown_trans pool a.0.1 r.1 p.grown qu;
      short = u.short;
      facts = λ Z g. record { before = a.0.0; after = b.0.0; is_before = p.facts Z (grown_trans a.0.1 r.1 Z qu g); is_after = q.facts Z (grown_trans b.0.1 r.1 Z u.grown g); method = u.facts Z g };
    }

pub record IsStore (t : WordType) (Z : Pool) (m : Member) : Type 0 where
  pub write : ℕ
  pub is_write : IsMethodAt (member context_class (codes "onWriteAccess") (write_descriptor (codes "I") t)) Z write
  pub method : IsStraightAt (3 + word_places t) (3 + word_places t) (store_instrs t write) (store_named t) Z m

store_puts : (t : WordType) → Adding (IsStore t) (store_method t)
unfolding store_method write_call
store_puts t pool r s e =
    let a = bind_ok _ _ r e in
    let p = adds_method context_class (codes "onWriteAccess") (write_descriptor (codes "I") t) pool a.0 s a.1 in
    let u = adds_straight (3 + word_places t) (3 + word_places t) (store_instrs t a.0.0) (store_named t) a.0.1 r p.short a.2 in
    record { grown = grown_trans pool a.0.1 r.1 p.grown u.grown; short = u.short; facts = λ Z g. record { write = a.0.0; is_write = p.facts Z (grown_trans a.0.1 r.1 Z u.grown g); method = u.facts Z g } }

pub record AreElements (t : WordType) (Z : Pool) (m : ElementMethods) : Type 0 where
  pub load : IsLoad t Z m.load
  pub store : IsStore t Z m.store

pub elements_put : (t : WordType) → Adding (AreElements t) (element_methods t)
unfolding element_methods
elements_put t pool r s e =
    let a = bind_ok _ _ r e in
    let b = bind_ok _ _ r a.2 in
    let p = load_puts t pool a.0 s a.1 in
    let q = store_puts t a.0.1 b.0 p.short b.1 in
    subst (Puts (AreElements t) pool) (ok_is (record { load = a.0.0; store = b.0.0 }, b.0.1) r b.2)
    (record { grown = grown_trans pool a.0.1 b.0.1 p.grown q.grown; short = q.short; facts = λ Z g. record { load = p.facts Z (grown_trans a.0.1 b.0.1 Z q.grown g); store = q.facts Z g } })

-- ---- that they can be laid

plain_load_laid : (Z : Pool) (t : WordType) → IsLaid Z (plain (load_code t))
plain_load_laid Z word.Int = plain_laid Z 46 (omega arith) tt tt
plain_load_laid Z word.Long = plain_laid Z 47 (omega arith) tt tt
plain_load_laid Z word.Reference = plain_laid Z 50 (omega arith) tt tt
plain_load_laid Z word.Byte = plain_laid Z 51 (omega arith) tt tt
plain_load_laid Z word.Boolean = plain_laid Z 51 (omega arith) tt tt
plain_load_laid Z word.Char = plain_laid Z 52 (omega arith) tt tt
plain_load_laid Z word.Short = plain_laid Z 53 (omega arith) tt tt

pub loads_laid : (t : WordType) (Z : Pool) (before after : ℕ) → IsMethodAt (member context_class (codes "beforeReadAccess") (codes "(Ljava/lang/Object;I)V")) Z before → IsMethodAt (member context_class (codes "onReadAccess") (read_descriptor (codes "I") t)) Z after
    → AllByRecursion (IsLaid Z) (load_instrs t before after)
loads_laid t Z before after b a = (
  load_laid Z sort.Reference 2 (omega arith),
  (
    load_laid Z sort.Reference 0 (omega arith),
    (
      load_laid Z sort.Int 1 (omega arith),
      (
        call_virtual_laid Z before _ b.1 b.0,
        (
          load_laid Z sort.Reference 2 (omega arith),
          (
            load_laid Z sort.Reference 0 (omega arith),
            (
              load_laid Z sort.Reference 0 (omega arith),
              (
                load_laid Z sort.Int 1 (omega arith),
                (plain_load_laid Z t, (load_laid Z sort.Int 1 (omega arith), (call_virtual_laid Z after _ a.1 a.0, (give_laid Z (sort_of t), tt)))),
              ),
            ),
          ),
        ),
      ),
    ),
  ),
)

pub stores_laid : (t : WordType) (Z : Pool) (write : ℕ) → IsMethodAt (member context_class (codes "onWriteAccess") (write_descriptor (codes "I") t)) Z write → AllByRecursion (IsLaid Z) (store_instrs t write)
stores_laid t Z write w = (
  load_laid Z sort.Reference (2 + word_places t) (omega (arith, few_places t)),
  (load_laid Z sort.Reference 0 (omega arith), (load_laid Z (sort_of t) 2 (omega arith), (load_laid Z sort.Int 1 (omega arith), (call_virtual_laid Z write _ w.1 w.0, (plain_laid Z 177 (omega arith) tt tt, tt))))),
)

-- ---- the same as the code is made

abbrev pub before_type : List ℕ
before_type = codes "(Ljava/lang/Object;I)V"

-- leads nowhere
abbrev pub Stays : Instr → Type 0
Stays i = targets_of i.operands ≡ []

module _ (t : WordType) (pool p1 p2 : Pool) (short : length pool < 65535) (is : List Instr) where
  load_fits : (before after : ℕ) → look_call pool ≡ Ok (before, p1) → read_call t p1 ≡ Ok (after, p2) → AllByRecursion (IsLaid p2) (load_instrs t before after)
  unfolding look_call read_call
  load_fits before after d e =
      let p = adds_method context_class (codes "beforeReadAccess") before_type pool (before, p1) short d in
      let q = adds_method context_class (codes "onReadAccess") (read_descriptor (codes "I") t) p1 (after, p2) p.short e in
      loads_laid t p2 before after (p.facts p2 q.grown) (q.facts p2 (grown_refl p2))

  pub load_shaped : (before after : ℕ) → is ≡ load_instrs t before after → look_call pool ≡ Ok (before, p1) → read_call t p1 ≡ Ok (after, p2) → AllByRecursion IsShaped is
  load_shaped before after code d e = subst (AllByRecursion IsShaped) (sym code) (each_shaped p2 (load_instrs t before after) (load_fits before after d e))

  pub load_stays : (before after : ℕ) → is ≡ load_instrs t before after → look_call pool ≡ Ok (before, p1) → read_call t p1 ≡ Ok (after, p2) → AllByRecursion Stays is
  load_stays before after code d e = subst (AllByRecursion Stays) (sym code) (each_nowhere p2 (load_instrs t before after) (load_fits before after d e))

module _ (t : WordType) (pool p1 : Pool) (short : length pool < 65535) (is : List Instr) (write : ℕ) (code : is ≡ store_instrs t write) (called : write_call t pool ≡ Ok (write, p1)) where
  store_fits : AllByRecursion (IsLaid p1) (store_instrs t write)
  unfolding write_call
  store_fits = let p = adds_method context_class (codes "onWriteAccess") (write_descriptor (codes "I") t) pool (write, p1) short called in stores_laid t p1 write (p.facts p1 (grown_refl p1))

  pub store_shaped : AllByRecursion IsShaped is
  store_shaped = subst (AllByRecursion IsShaped) (sym code) (each_shaped p1 (store_instrs t write) store_fits)

  pub store_stays : AllByRecursion Stays is
  store_stays = subst (AllByRecursion Stays) (sym code) (each_nowhere p1 (store_instrs t write) store_fits)
