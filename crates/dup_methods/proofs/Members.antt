-- The law of duplicates as whole members.
use Rattle.std.proofs.Common.{◌≡◌, ℕ, List, [], Option, Some, Result, Ok, sym, ap, subst}
use Rattle.std.specs.Prelude.{codes}
use Rattle.jmodel.specs.declared.refusal.Refusal.{Refusal}
use Rattle.jmodel.specs.format.ClassFile.{Member, Pool}
use Rattle.jmodel.specs.format.Pool.{utf8}
use Rattle.jmodel.specs.format.Reading.{◌>>=◌}
use Rattle.objects.specs.linking.Code.{Coded}
use Rattle.jmodel.specs.format.PoolAdding.{add_text}
use Rattle.jmodel.specs.format.Relocation.{Block}
use Rattle.objects.specs.semantics.Program.{Method}
use Rattle.objects.specs.linking.Linking.{decoded_member}
use Rattle.objects.specs.rewriting.Rewriting.{duplicate_name, with_context}
use Rattle.const_pool.proofs.Takes.{bind_ok, ok_is}
use Rattle.member_code.specs.Names.{duplicate_named}
use Rattle.member_code.specs.Coding.{room_for, typed_name, added_method}
use Rattle.member_code.proofs.Grown.{grown_trans}
use Rattle.member_code.proofs.Puts.{Adding, Puts, adds_text, adds_typed}
use Rattle.dup_methods.specs.Originals.{Original}
use Rattle.dup_methods.specs.Limits.{few_arguments, few_places}
use Rattle.dup_methods.specs.Duplicates.{refs_of, texts_of, duplicate_bytes, duplicate_flags, made_duplicate, coded_duplicate, abstract_duplicate, duplicate_with, duplicate_of}

-- ---- what was put together

-- the texts that a duplicate names, in a pool
abbrev pub HasTexts : Method → Pool → (ℕ × ℕ) × ℕ → Type 0
HasTexts k Z x = (utf8 Z x.0.0 ≡ Some (duplicate_name k.name.name)) × (utf8 Z x.0.1 ≡ Some (with_context k.name.descriptor)) × (utf8 Z x.1 ≡ Some (codes "Code"))

-- adding them puts them into the pool
pub adds_texts : (k : Method) → Adding (HasTexts k) (texts_of k)
unfolding texts_of
adds_texts k pool r s e =
    let a = bind_ok (typed_name (duplicate_named k.name).name (duplicate_named k.name).descriptor pool) (λ named. add_text named.1 (codes "Code") >>= λ text. Ok ((named.0, text.0), text.1)) r e in
    let b = bind_ok (add_text a.0.1 (codes "Code")) (λ text. Ok ((a.0.0, text.0), text.1)) r a.2 in
    let p = adds_typed (duplicate_named k.name).name (duplicate_named k.name).descriptor pool a.0 s a.1 in
    let q = adds_text (codes "Code") a.0.1 b.0 p.short b.1 in
    subst (Puts (HasTexts k) pool) (ok_is ((a.0.0, b.0.0), b.0.1) r b.2)
    (record { grown = grown_trans pool a.0.1 b.0.1 p.grown q.grown; short = q.short; facts = λ Z g. let h = p.facts Z (grown_trans a.0.1 b.0.1 Z q.grown g) in (h.0, h.1, q.facts Z g) })

-- a member with the pool that is left
abbrev both : Member → Pool → Member × Pool
both m p = (m, p)

-- what a member and a pool are that were given
halves : (m : Member) (p : Pool) (r : Member × Pool) → both m p ≡ r → (r.0 ≡ m) × (r.1 ≡ p)
halves m p r e = (sym (ap (λ (y : Member × Pool). y.0) e), sym (ap (λ (y : Member × Pool). y.1) e))

-- the parts of the duplicate of a method that has code
pub record IsCopy (O : Original) (x : Coded) (pool : Pool) (r : Member × Pool) : Type 0 where
  pub arguments : few_arguments O.program O.method x.instrs ≡ Ok tt
  pub places : few_places O.method x.code ≡ Ok tt
  pub refs : (List Block × ℕ) × Pool
  pub refs_are : refs_of O x.instrs pool ≡ Ok refs
  pub texts : ((ℕ × ℕ) × ℕ) × Pool
  pub texts_are : texts_of O.method refs.1 ≡ Ok texts
  pub bytes : List ℕ
  pub bytes_are : duplicate_bytes O.method x.code refs.0.0 refs.0.1 ≡ Ok bytes
  pub member : r.0 ≡ added_method (duplicate_flags O.member.flags) texts.0.0.0 texts.0.0.1 texts.0.1 bytes
  pub left : r.1 ≡ texts.1

-- what passes answers nothing more
the_unit : (r : Result (Unit {0}) Refusal) (u : Unit {0}) → r ≡ Ok u → r ≡ Ok tt
the_unit r u e = e

-- a duplicate that is made has these parts
pub copy_parts : (O : Original) (x : Coded) (pool : Pool) (r : Member × Pool) → coded_duplicate O x pool ≡ Ok r → IsCopy O x pool r
unfolding coded_duplicate made_duplicate
copy_parts O x pool r e =
    let a = bind_ok (few_arguments O.program O.method x.instrs) (λ arguments. few_places O.method x.code >>= λ places. made_duplicate O x pool) r e in
    let b = bind_ok (few_places O.method x.code) (λ places. made_duplicate O x pool) r a.2 in
    let c = bind_ok (refs_of O x.instrs pool) (λ refs. texts_of O.method refs.1 >>= λ texts. duplicate_bytes O.method x.code refs.0.0 refs.0.1 >>= λ bytes. Ok (added_method (duplicate_flags O.member.flags) texts.0.0.0 texts.0.0.1 texts.0.1 bytes, texts.1)) r b.2 in
    let d = bind_ok (texts_of O.method c.0.1) (λ texts. duplicate_bytes O.method x.code c.0.0.0 c.0.0.1 >>= λ bytes. Ok (added_method (duplicate_flags O.member.flags) texts.0.0.0 texts.0.0.1 texts.0.1 bytes, texts.1)) r c.2 in
    let f = bind_ok (duplicate_bytes O.method x.code c.0.0.0 c.0.0.1) (λ bytes. Ok (added_method (duplicate_flags O.member.flags) d.0.0.0.0 d.0.0.0.1 d.0.0.1 bytes, d.0.1)) r d.2 in
    let it = halves (added_method (duplicate_flags O.member.flags) d.0.0.0.0 d.0.0.0.1 d.0.0.1 f.0) d.0.1 r (ok_is (both (added_method (duplicate_flags O.member.flags) d.0.0.0.0 d.0.0.0.1 d.0.0.1 f.0) d.0.1) r f.2) in
    record {
      arguments = the_unit _ a.0 a.1;
      places = the_unit _ b.0 b.1;
      refs = c.0;
      refs_are = c.1;
      texts = d.0;
      texts_are = d.1;
      bytes = f.0;
      bytes_are = f.1;
      member = it.0;
      left = it.1;
    }

-- the parts of the duplicate of a method without code
pub record IsBareCopy (O : Original) (pool : Pool) (r : Member × Pool) : Type 0 where
  pub arguments : few_arguments O.program O.method [] ≡ Ok tt
  pub texts : (ℕ × ℕ) × Pool
  pub texts_are : typed_name (duplicate_named O.method.name).name (duplicate_named O.method.name).descriptor pool ≡ Ok texts
  pub member : r.0 ≡ record { flags = duplicate_flags O.member.flags; name = texts.0.0; descriptor = texts.0.1; attributes = [] }
  pub left : r.1 ≡ texts.1

-- so has one without code
pub bare_parts : (O : Original) (pool : Pool) (r : Member × Pool) → abstract_duplicate O pool ≡ Ok r → IsBareCopy O pool r
unfolding abstract_duplicate
bare_parts O pool r e =
    let a = bind_ok (few_arguments O.program O.method []) (λ arguments. typed_name (duplicate_named O.method.name).name (duplicate_named O.method.name).descriptor pool >>= λ named.
    Ok (record { flags = duplicate_flags O.member.flags; name = named.0.0; descriptor = named.0.1; attributes = [] }, named.1)) r e in
    let b = bind_ok (typed_name (duplicate_named O.method.name).name (duplicate_named O.method.name).descriptor pool) (λ named. Ok (record { flags = duplicate_flags O.member.flags; name = named.0.0; descriptor = named.0.1; attributes = [] }, named.1)) r a.2 in
    let it = halves (record { flags = duplicate_flags O.member.flags; name = b.0.0.0; descriptor = b.0.0.1; attributes = [] }) b.0.1 r (ok_is (both (record { flags = duplicate_flags O.member.flags; name = b.0.0.0; descriptor = b.0.0.1; attributes = [] }) b.0.1) r b.2) in
    record { arguments = the_unit _ a.0 a.1; texts = b.0; texts_are = b.1; member = it.0; left = it.1 }

-- what was decoded, and its duplicate
pub record IsSplit (O : Original) (room : ℕ) (pool : Pool) (r : Member × Pool) : Type 0 where
  pub coded : Option Coded
  pub decodes : decoded_member (record { class = O.class; member = O.member }) ≡ Ok coded
  pub makes : duplicate_with O coded pool ≡ Ok r

-- every duplicate is made in these steps
pub split : (room : ℕ) (O : Original) (pool : Pool) (r : Member × Pool) → duplicate_of room O pool ≡ Ok r → IsSplit O room pool r
unfolding duplicate_of
split room O pool r e =
    let a = bind_ok (decoded_member (record { class = O.class; member = O.member })) (λ coded. room_for room (duplicate_named O.method.name) >>= λ fits. duplicate_with O coded pool) r e in
    let b = bind_ok (room_for room (duplicate_named O.method.name)) (λ fits. duplicate_with O a.0 pool) r a.2 in
    record { coded = a.0; decodes = a.1; makes = b.2 }
