-- Duplicates are methods.
use Rattle.std.proofs.Common.{◌≡◌, ℕ, ◌+◌, ◌<◌, ◌≤◌, Bool, true, false, List, [], length, Option, Some, None, Ok, refl, subst, ap, ◌∙◌, arith}
use Rattle.std.specs.Prelude.{codes, if◌then◌else◌}
use Rattle.std.specs.List.{AllByRecursion}
use Rattle.jmodel.specs.format.ClassFile.{Member, Pool}
use Rattle.jmodel.specs.format.Pool.{utf8}
use Rattle.jmodel.specs.format.ClassRules.{IsPool, IsMethod}
use Rattle.objects.specs.linking.Code.{Coded, decoded}
use Rattle.jmodel.specs.format.Descriptor.{IsMethodDescriptor}
use Rattle.jmodel.specs.format.Reading.{◌>>=◌}
use Rattle.objects.specs.semantics.Program.{Method}
use Rattle.objects.specs.linking.Linking.{has_no_code, decoded_member}
use Rattle.objects.specs.rewriting.Rewriting.{with_context, duplicate_name}
use Rattle.const_pool.proofs.Takes.{bind_ok, ok_is}
use Rattle.member_code.specs.Names.{duplicate_named}
use Rattle.member_code.specs.Coding.{typed_name, room_for, added_method}
use Rattle.member_code.proofs.Grown.{Grown, grown_trans}
use Rattle.member_code.proofs.Puts.{Puts, Adding, IsTypedAt, adds_typed, adds_text}
use Rattle.rewriter.specs.Asked.{HasBytes}
use Rattle.dup_methods.specs.Originals.{Original}
use Rattle.dup_methods.specs.Limits.{AddsLittle, few_arguments, few_places, added_locals}
use Rattle.dup_methods.specs.Duplicates.{texts_of, duplicate_flags, duplicate_bytes, made_duplicate, coded_duplicate, abstract_duplicate, duplicate_with, duplicate_of}
use Rattle.dup_methods.proofs.Fitting.{all_near, all_fit}
use Rattle.dup_methods.proofs.Stands.{blocks_laid}
use Rattle.rewritten_form.proofs.Spelled.{spelled, decoded_rules, some_instr}
use Rattle.rewritten_form.proofs.CodeForms.{duplicate_coded, duplicate_two, added_form, bare_form}
use Rattle.rewritten_form.proofs.CopyCode.{few_kept, places_kept, refs_put, have_instrs, as_many, laid_rules, copy_laid}

-- a duplicate's texts, and that it is a method
pub record IsCopyAt (O : Original) (Z : Pool) (m : Member) : Type 0 where
  pub named : utf8 Z m.name ≡ Some (duplicate_name O.method.name.name)
  pub typed : utf8 Z m.descriptor ≡ Some (with_context O.method.name.descriptor)
  pub form : IsPool Z → IsMethod Z m

-- what else a duplicate names
AreTexts : Method → Pool → (ℕ × ℕ) × ℕ → Type 0
AreTexts k Z x = IsTypedAt (duplicate_name k.name.name) (with_context k.name.descriptor) Z x.0 × (utf8 Z x.1 ≡ Some (codes "Code"))

texts_put : (k : Method) → Adding (AreTexts k) (texts_of k)
unfolding texts_of AreTexts
texts_put k pool r s e =
    let a = bind_ok _ _ r e in
    let b = bind_ok _ _ r a.2 in
    let p = adds_typed (duplicate_name k.name.name) (with_context k.name.descriptor) pool a.0 s a.1 in
    let q = adds_text (codes "Code") a.0.1 b.0 p.short b.1 in
    subst (Puts (AreTexts k) pool) (ok_is ((a.0.0, b.0.0), b.0.1) r b.2)
    (record { grown = grown_trans pool a.0.1 b.0.1 p.grown q.grown; short = q.short; facts = λ Z g. (p.facts Z (grown_trans a.0.1 b.0.1 Z q.grown g), q.facts Z g) })

-- as many as there are some of
as_some : {A B : Type 0} (xs : List A) (ys : List B) → 0 < length xs → length ys ≡ length xs → 0 < length ys
as_some xs ys h e = omega (arith, h, e)

module _ (O : Original) (held : HasBytes O.member) (little : AllByRecursion AddsLittle O.method.ops) (described : O.method.places ≤ 254 → IsMethodDescriptor (with_context O.method.name.descriptor)) where
  -- one that has code
  coded_put : (coded : Coded) → decoded O.class O.member ≡ Ok coded → has_no_code O.member ≡ false → (pool : Pool) (r : Member × Pool) → length pool < 65535 → Grown O.class.pool pool → coded_duplicate O coded pool ≡ Ok r → Puts (IsCopyAt O) pool r
  unfolding coded_duplicate made_duplicate AreTexts
  coded_put coded told flags pool r s g0 e =
      let u = bind_ok (few_arguments O.program O.method coded.instrs) (λ arguments. few_places O.method coded.code >>= λ places. made_duplicate O coded pool) r e in
      let v = bind_ok (few_places O.method coded.code) (λ places. made_duplicate O coded pool) r u.2 in
      let few = few_kept O coded.instrs u.1 in
      let roomy = places_kept O coded.code v.1 in
      let stack : coded.code.max_stack + 1 < 65536 = omega (arith, roomy.stack) in
      let locals : coded.code.max_locals + added_locals O.method < 65536 = omega (arith, roomy.locals) in
      let a = bind_ok _ _ r v.2 in
      let b = bind_ok _ _ r a.2 in
      let d = bind_ok (duplicate_bytes O.method coded.code a.0.0.0 a.0.0.1) (λ bytes. Ok (added_method (duplicate_flags O.member.flags) b.0.0.0.0 b.0.0.0.1 b.0.0.1 bytes, b.0.1)) r b.2 in
      let p = refs_put O coded.instrs pool a.0 s a.1 in
      let q = texts_put O.method a.0.1 b.0 p.short b.1 in
      let rules = decoded_rules O.class O.member coded held told in
      let spells = spelled O.class O.member coded held told in
      let some = some_instr O.class.pool coded.code coded.instrs rules spells.holds in
      let fits = all_fit O.method O.method.ops (all_near O.method O.method.ops roomy.near) little in
      let L = copy_laid O.method coded.code a.0.0.0 a.0.0.1 d.0 d.1 in
      subst (Puts (IsCopyAt O) pool) (ok_is (added_method (duplicate_flags O.member.flags) b.0.0.0.0 b.0.0.0.1 b.0.0.1 d.0, b.0.1) r d.2)
      (record {
        grown = grown_trans pool a.0.1 b.0.1 p.grown q.grown;
        short = q.short;
        facts = λ Z g.
            (let refs = p.facts Z (grown_trans a.0.1 b.0.1 Z q.grown g) in
            let texts = q.facts Z g in
            let G : Grown O.class.pool Z = grown_trans O.class.pool pool Z g0 (grown_trans pool a.0.1 Z p.grown (grown_trans a.0.1 b.0.1 Z q.grown g)) in
            let laid = blocks_laid O few.places fits coded.code.handlers roomy.handlers coded.code.code coded.instrs few.counts spells Z a.0.0.0 refs.blocks a.0.0.1 in
            let code = laid_rules O.class.pool Z G a.0.0.0 coded.code.handlers a.0.0.1 (length coded.code.code) (coded.code.max_stack + 1) _ laid (have_instrs O 0 coded.instrs Z a.0.0.0 refs.blocks)
            (as_some coded.instrs a.0.0.0 some (as_many O 0 coded.instrs Z a.0.0.0 refs.blocks)) rules.handlers roomy.handlers refs.conflict stack locals L.laid L.entries L.is in
            record {
              named = texts.0.0;
              typed = texts.0.1;
              form = λ pool_rules.
                  added_form Z (duplicate_flags O.member.flags) (duplicate_name O.method.name.name) (with_context O.method.name.descriptor) (added_method (duplicate_flags O.member.flags) b.0.0.0.0 b.0.0.0.1 b.0.0.1 d.0) pool_rules
                  (record { n = b.0.0.0.0; t = b.0.0.0.1; c = b.0.0.1; code = _; is = ap (added_method (duplicate_flags O.member.flags) b.0.0.0.0 b.0.0.0.1 b.0.0.1) L.bytes_are; named = texts.0.0; typed = texts.0.1; coded = texts.1; rules = code; alone = refl })
                  (duplicate_two O.member.flags) (duplicate_coded O.member.flags ∙ flags) (described few.places);
            });
      })

  -- one that has none
  bare_put : has_no_code O.member ≡ true → (pool : Pool) (r : Member × Pool) → length pool < 65535 → abstract_duplicate O pool ≡ Ok r → Puts (IsCopyAt O) pool r
  unfolding abstract_duplicate
  bare_put flags pool r s e =
      let a = bind_ok (few_arguments O.program O.method []) _ r e in
      let b = bind_ok (typed_name (duplicate_named O.method.name).name (duplicate_named O.method.name).descriptor pool) _ r a.2 in
      let p = adds_typed (duplicate_named O.method.name).name (duplicate_named O.method.name).descriptor pool b.0 s b.1 in
      subst (Puts (IsCopyAt O) pool) (ok_is (record { flags = duplicate_flags O.member.flags; name = b.0.0.0; descriptor = b.0.0.1; attributes = [] }, b.0.1) r b.2)
      (record {
        grown = p.grown;
        short = p.short;
        facts = λ Z g.
            (let texts = p.facts Z g in
            record {
              named = texts.0;
              typed = texts.1;
              form = λ pool_rules.
                  bare_form Z (duplicate_flags O.member.flags) b.0.0.0 b.0.0.1 (duplicate_name O.method.name.name) (with_context O.method.name.descriptor) pool_rules (duplicate_two O.member.flags) (duplicate_coded O.member.flags ∙ flags) texts.0 texts.1 (described (few_kept O [] a.1).places);
            });
      })

  -- the code of a member that has some, or none
  by_flags : (o : Option Coded) → decoded_member (record { class = O.class; member = O.member }) ≡ Ok o → (pool : Pool) (r : Member × Pool) → length pool < 65535 → Grown O.class.pool pool → duplicate_with O o pool ≡ Ok r → Puts (IsCopyAt O) pool r
  by_flags o told pool r s g e = go (has_no_code O.member) refl o told e
    where
      go : (b : Bool) → has_no_code O.member ≡ b → (o : Option Coded) → (if b then Ok None else (decoded O.class O.member >>= λ x. Ok (Some x))) ≡ Ok o → duplicate_with O o pool ≡ Ok r → Puts (IsCopyAt O) pool r
      go true q None t h = bare_put q pool r s h
      go true q (Some x) t h = absurd cc
      go false q None t h = let a = bind_ok (decoded O.class O.member) (λ x. Ok (Some x)) None t in absurd (let no = a.2 in cc)
      go false q (Some x) t h = let a = bind_ok (decoded O.class O.member) (λ x. Ok (Some x)) (Some x) t in let same : a.0 ≡ x = (let f = a.2 in cc) in coded_put x (a.1 ∙ ap (λ (y : Coded). Ok y) same) q pool r s g h

  pub copy_put : (room : ℕ) (pool : Pool) (r : Member × Pool) → length pool < 65535 → Grown O.class.pool pool → duplicate_of room O pool ≡ Ok r → Puts (IsCopyAt O) pool r
  unfolding duplicate_of
  copy_put room pool r s g e =
      let a = bind_ok (decoded_member (record { class = O.class; member = O.member })) (λ coded. room_for room (duplicate_named O.method.name) >>= λ fits. duplicate_with O coded pool) r e in
      let b = bind_ok (room_for room (duplicate_named O.method.name)) (λ fits. duplicate_with O a.0 pool) r a.2 in
      by_flags a.0 a.1 pool r s g b.2
