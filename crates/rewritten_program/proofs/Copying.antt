-- A class with duplicates: its pool is grown, and each duplicate was made over a pool in between.
use Rattle.std.proofs.Common.{◌≡◌, ℕ, ◌+◌, ◌-◌, ◌<◌, List, [], ◌∷◌, length, Option, Some, None, Ok, Bool, refl, sym, ap, ◌∙◌, subst}
use Rattle.std.specs.Prelude.{codes, bit_and, not, ◌==◌}
use Rattle.std.specs.List.{AllByRecursion, AllZip}
use Rattle.std.proofs.lemmas.Nat.{and_or_apart, and_assoc}
use Rattle.jmodel.specs.format.ClassFile.{Member, Pool, ClassFile}
use Rattle.objects.specs.linking.Code.{Coded}
use Rattle.objects.specs.linking.Members.{is_static}
use Rattle.jmodel.specs.format.Pool.{utf8}
use Rattle.jmodel.specs.format.Reading.{◌>>=◌}
use Rattle.jmodel.specs.declared.instruction.Instr.{Instr}
use Rattle.jmodel.specs.format.Relocation.{Block}
use Rattle.objects.specs.linking.Linking.{decoded_member}
use Rattle.objects.specs.semantics.Program.{Method}
use Rattle.objects.specs.linking.Resolution.{is_private}
use Rattle.objects.specs.typing.TypeOrder.{conflict_class}
use Rattle.const_pool.proofs.Takes.{bind_ok, ok_is}
use Rattle.member_code.specs.Growing.{Growth, grow_from}
use Rattle.member_code.specs.Names.{duplicate_named}
use Rattle.member_code.specs.Coding.{room_for, typed_name, added_method}
use Rattle.member_code.proofs.Grown.{Grown, grown_refl, grown_trans}
use Rattle.member_code.proofs.Puts.{Puts, Adding, adds_all, adds_text, adds_class, adds_typed}
use Rattle.field_members.specs.Accessors.{room_in, and_methods}
use Rattle.dup_methods.specs.Originals.{Original}
use Rattle.dup_methods.specs.Limits.{few_arguments, few_places}
use Rattle.dup_methods.specs.Duplicates.{numbered_block, refs_of, duplicate_flags, duplicate_bytes, texts_of, made_duplicate, coded_duplicate, abstract_duplicate, duplicate_with, duplicate_of}
use Rattle.dup_methods.proofs.BlockFacts.{IsNumbered, adds_numbered}
use Rattle.rewriter.specs.Rewritten.{with_duplicates}
use Rattle.rewritten_program.specs.Keeps.{IsCopy, AreCopies}
use Rattle.rewritten_program.proofs.Grows.{Nothing}

-- ---- one duplicate

-- its flags, its name and its descriptor
pub record IsCopied (O : Original) (Z : Pool) (m : Member) : Type 0 where
  pub flags : m.flags ≡ duplicate_flags O.member.flags
  pub named : utf8 Z m.name ≡ Some (duplicate_named O.method.name).name
  pub typed : utf8 Z m.descriptor ≡ Some (duplicate_named O.method.name).descriptor

-- what the code of a duplicate names
refs_put : (O : Original) (is : List Instr) → Adding (Nothing {X = List Block × ℕ}) (refs_of O is)
unfolding refs_of
refs_put O is pool r s e =
    let a = bind_ok _ _ r e in
    let b = bind_ok _ _ r a.2 in
    let p = adds_all (IsNumbered O) (numbered_block O) (adds_numbered O) 0 is pool a.0 s a.1 in
    let q = adds_class conflict_class a.0.1 b.0 p.short b.1 in
    subst (Puts Nothing pool) (ok_is ((a.0.0, b.0.0), b.0.1) r b.2) (record { grown = grown_trans pool a.0.1 b.0.1 p.grown q.grown; short = q.short; facts = λ Z g. tt })

-- its name and its descriptor, by their indexes
abbrev AreTextsAt : Method → Pool → (ℕ × ℕ) × ℕ → Type 0
AreTextsAt k Z t = (utf8 Z t.0.0 ≡ Some (duplicate_named k.name).name) × (utf8 Z t.0.1 ≡ Some (duplicate_named k.name).descriptor)

-- the texts that it names
texts_put : (k : Method) → Adding (AreTextsAt k) (texts_of k)
unfolding texts_of
texts_put k pool r s e =
    let a = bind_ok _ _ r e in
    let b = bind_ok _ _ r a.2 in
    let p = adds_typed (duplicate_named k.name).name (duplicate_named k.name).descriptor pool a.0 s a.1 in
    let q = adds_text (codes "Code") a.0.1 b.0 p.short b.1 in
    subst (Puts (AreTextsAt k) pool) (ok_is ((a.0.0, b.0.0), b.0.1) r b.2)
    (record { grown = grown_trans pool a.0.1 b.0.1 p.grown q.grown; short = q.short; facts = λ Z g. p.facts Z (grown_trans a.0.1 b.0.1 Z q.grown g) })

-- a duplicate with code
made_puts : (O : Original) (coded : Coded) → Adding (IsCopied O) (made_duplicate O coded)
unfolding made_duplicate
made_puts O coded pool r s e =
    let a = bind_ok _ _ r e in
    let b = bind_ok _ _ r a.2 in
    let d = bind_ok (duplicate_bytes O.method coded.code a.0.0.0 a.0.0.1) (λ bytes. Ok (added_method (duplicate_flags O.member.flags) b.0.0.0.0 b.0.0.0.1 b.0.0.1 bytes, b.0.1)) r b.2 in
    let p = refs_put O coded.instrs pool a.0 s a.1 in
    let q = texts_put O.method a.0.1 b.0 p.short b.1 in
    subst (Puts (IsCopied O) pool) (ok_is (added_method (duplicate_flags O.member.flags) b.0.0.0.0 b.0.0.0.1 b.0.0.1 d.0, b.0.1) r d.2)
    (record { grown = grown_trans pool a.0.1 b.0.1 p.grown q.grown; short = q.short; facts = λ Z g. let t = q.facts Z g in record { flags = refl; named = t.0; typed = t.1 } })

-- the same within its limits
coded_puts : (O : Original) (coded : Coded) → Adding (IsCopied O) (coded_duplicate O coded)
unfolding coded_duplicate
coded_puts O coded pool r s e =
    let a = bind_ok (few_arguments O.program O.method coded.instrs) (λ x. few_places O.method coded.code >>= λ y. made_duplicate O coded pool) r e in
    let b = bind_ok (few_places O.method coded.code) (λ y. made_duplicate O coded pool) r a.2 in
    made_puts O coded pool r s b.2

-- one without code
abstract_puts : (O : Original) → Adding (IsCopied O) (abstract_duplicate O)
unfolding abstract_duplicate
abstract_puts O pool r s e =
    let a = bind_ok (few_arguments O.program O.method []) _ r e in
    let b = bind_ok (typed_name (duplicate_named O.method.name).name (duplicate_named O.method.name).descriptor pool) (λ named. Ok (record { flags = duplicate_flags O.member.flags; name = named.0.0; descriptor = named.0.1; attributes = [] }, named.1)) r a.2 in
    let p = adds_typed (duplicate_named O.method.name).name (duplicate_named O.method.name).descriptor pool b.0 s b.1 in
    subst (Puts (IsCopied O) pool) (ok_is (record { flags = duplicate_flags O.member.flags; name = b.0.0.0; descriptor = b.0.0.1; attributes = [] }, b.0.1) r b.2)
    (record { grown = p.grown; short = p.short; facts = λ Z g. let t = p.facts Z g in record { flags = refl; named = t.0; typed = t.1 } })

-- either
with_puts : (O : Original) (coded : Option Coded) → Adding (IsCopied O) (duplicate_with O coded)
with_puts O None = abstract_puts O
with_puts O (Some coded) = coded_puts O coded

-- the duplicate of an original
pub copy_puts : (room : ℕ) (O : Original) → Adding (IsCopied O) (duplicate_of room O)
unfolding duplicate_of
copy_puts room O pool r s e =
    let a = bind_ok (decoded_member (record { class = O.class; member = O.member })) (λ coded. room_for room (duplicate_named O.method.name) >>= λ fits. duplicate_with O coded pool) r e in
    let b = bind_ok (room_for room (duplicate_named O.method.name)) (λ fits. duplicate_with O a.0 pool) r a.2 in
    with_puts O a.0 pool r s b.2

-- ---- flags

-- whether a number has bits
abbrev has_bits : ℕ → Bool
has_bits n = not (n == 0)

-- a duplicate is private, or static, where its method is
pub flag_stays : (flags n : ℕ) → bit_and 0x1000 n ≡ 0 → bit_and 0xff7f n ≡ n → has_bits (bit_and (duplicate_flags flags) n) ≡ has_bits (bit_and flags n)
flag_stays flags n apart inside = ap has_bits (and_or_apart n (bit_and flags 0xff7f) 0x1000 apart ∙ and_assoc n flags 0xff7f ∙ ap (bit_and flags) inside)

-- it is private where its method is
pub private_stays : (O : Original) (Z : Pool) (m : Member) → IsCopied O Z m → is_private m ≡ is_private O.member
private_stays O Z m h = ap (λ (f : ℕ). has_bits (bit_and f 0x2)) h.flags ∙ flag_stays O.member.flags 0x2 refl refl

-- it is static where its method is
pub static_stays : (O : Original) (Z : Pool) (m : Member) → IsCopied O Z m → is_static m ≡ is_static O.member
static_stays O Z m h = ap (λ (f : ℕ). has_bits (bit_and f 8)) h.flags ∙ flag_stays O.member.flags 8 refl refl

-- ---- all of a class

-- the originals are of the class
abbrev pub AreOf : ClassFile → List Original → Type 0
AreOf c os = AllByRecursion (λ (O : Original). O.class ≡ c) os

-- duplicates, as they were made, and what they are over every longer pool
pub record AreMade (os : List Original) (pool : Pool) (r : List Member × Pool) : Type 0 where
  pub grown : Grown pool r.1
  pub short : length r.1 < 65535
  pub copies : (Z : Pool) → Grown r.1 Z → AreCopies os Z r.0
  pub facts : (Z : Pool) → Grown r.1 Z → AllZip (λ (O : Original) (m : Member). IsCopied O Z m) os r.0

-- a duplicate in a class with so much room
abbrev made_in : ℕ → ℕ → Original → Pool → Growth Member
made_in room n O = duplicate_of (room - n) O

-- duplicates one after another
all_made : (c : ClassFile) (room n : ℕ) (os : List Original) (pool : Pool) (r : List Member × Pool) → AreOf c os → Grown c.pool pool → length pool < 65535 → grow_from (made_in room) n os pool ≡ Ok r → AreMade os pool r
all_made c room n [] pool r own g s e =
    subst (AreMade [] pool) (ok_is ([], pool) r e) (record { grown = grown_refl pool; short = s; copies = λ Z h. tt; facts = λ Z h. tt })
all_made c room n (O ∷ os) pool r own g s e =
    let a = bind_ok (duplicate_of (room - n) O pool) (λ first. grow_from (made_in room) (n + 1) os first.1 >>= λ others. Ok (first.0 ∷ others.0, others.1)) r e in
    let b = bind_ok (grow_from (made_in room) (n + 1) os a.0.1) (λ others. Ok (a.0.0 ∷ others.0, others.1)) r a.2 in
    let p = copy_puts (room - n) O pool a.0 s a.1 in
    let q = all_made c room (n + 1) os a.0.1 b.0 own.1 (grown_trans c.pool pool a.0.1 g p.grown) p.short b.1 in
    let old : Grown O.class.pool pool = subst (λ (c : ClassFile). Grown c.pool pool) (sym own.0) g in
    subst (AreMade (O ∷ os) pool) (ok_is (a.0.0 ∷ b.0.0, b.0.1) r b.2)
    (record {
      grown = grown_trans pool a.0.1 b.0.1 p.grown q.grown;
      short = q.short;
      copies = λ Z h. (one (room - n) O pool a.0 Z old s a.1 (grown_trans a.0.1 b.0.1 Z q.grown h), q.copies Z h);
      facts = λ Z h. (p.facts Z (grown_trans a.0.1 b.0.1 Z q.grown h), q.facts Z h);
    })
  where
    one : (room : ℕ) (O : Original) (pool : Pool) (x : Member × Pool) (Z : Pool) → Grown O.class.pool pool → length pool < 65535 → duplicate_of room O pool ≡ Ok x → Grown x.1 Z → IsCopy O Z x.0
    one room O pool x Z old s e h = record { room = room; pool = pool; after = x.1; longer = (old.more, old.is); short = s; made = e; behind = (h.more, h.is) }

-- a class with duplicates
pub record IsDuplicated (os : List Original) (c new : ClassFile) : Type 0 where
  pub members : List Member
  pub is : new ≡ and_methods c members new.pool
  pub grown : Grown c.pool new.pool
  pub short : length new.pool < 65535
  pub copies : (Z : Pool) → Grown new.pool Z → AreCopies os Z members
  pub facts : (Z : Pool) → Grown new.pool Z → AllZip (λ (O : Original) (m : Member). IsCopied O Z m) os members

-- what is added to a class
pub duplicated : (original : ClassFile) (os : List Original) (c new : ClassFile) → AreOf original os → Grown original.pool c.pool → length c.pool < 65535 → with_duplicates os c ≡ Ok new → IsDuplicated os c new
duplicated original os c new own old short e =
    let a = bind_ok (grow_from (made_in (room_in c)) 0 os c.pool) (λ all. Ok (and_methods c all.0 all.1)) new e in
    let p = all_made original (room_in c) 0 os c.pool a.0 own old short a.1 in
    subst (IsDuplicated os c) (ok_is (and_methods c a.0.0 a.0.1) new a.2)
    (record { members = a.0.0; is = refl; grown = p.grown; short = p.short; copies = λ Z g. p.copies Z g; facts = λ Z g. p.facts Z g })
