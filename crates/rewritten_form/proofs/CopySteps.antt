-- A class with duplicates, or with wrappers, keeps the rules.
use Rattle.std.proofs.Common.{◌≡◌, ℕ, ℤ, zero, suc, ◌+◌, ◌-◌, ◌<◌, ◌≤◌, Bool, List, [], ◌∷◌, length, map, set, Option, Some, None, Ok, refl, sym, ap, ◌∙◌, subst, arith}
use Rattle.std.specs.Prelude.{slice_get, FitsSigned}
use Rattle.std.specs.Int.{w32}
use Rattle.std.specs.List.{AllByRecursion}
use Rattle.std.proofs.lemmas.List.{length-set}
use Rattle.jmodel.specs.format.ClassFile.{Member, Pool, ClassFile}
use Rattle.jmodel.specs.format.Pool.{utf8}
use Rattle.jmodel.specs.format.ClassRules.{IsPool, IsMethod, IsClassFile}
use Rattle.objects.specs.linking.Code.{Coded, retries_of}
use Rattle.jmodel.specs.format.Reading.{◌>>=◌}
use Rattle.objects.specs.semantics.Program.{Method, Program}
use Rattle.objects.specs.linking.Linking.{decoded_member}
use Rattle.objects.specs.rewriting.Rewriting.{with_context, duplicate_name}
use Rattle.const_pool.proofs.Takes.{bind_ok, ok_is}
use Rattle.member_code.specs.Growing.{Growth, grow_from}
use Rattle.member_code.specs.Names.{duplicate_named}
use Rattle.member_code.specs.Coding.{room_for}
use Rattle.member_code.proofs.Grown.{Grown, grown_refl, grown_trans}
use Rattle.member_code.proofs.Puts.{Puts}
use Rattle.field_members.specs.Accessors.{room_in, and_methods}
use Rattle.dup_methods.specs.Originals.{Original}
use Rattle.dup_methods.specs.Limits.{AddsLittle, few_arguments}
use Rattle.dup_methods.specs.Duplicates.{duplicate_with, duplicate_of}
use Rattle.retry_wrapper.specs.Wrappers.{wrapper_of, and_method, with_wrapper_of, with_wrapper}
use Rattle.rewriter.specs.Asked.{HasBytes}
use Rattle.rewriter.specs.Rewritten.{with_duplicates, wrapped_if, number_behind, id_behind, wrapped_from}
use Rattle.rewritten_form.proofs.Adding.{Keeping, AllGood, all_pool}
use Rattle.rewritten_form.proofs.CopyCode.{few_kept}
use Rattle.rewritten_form.proofs.CopyPools.{IsLawfulMethod, AreLawful, IsLawfulCopy, instrs_in, copy_pool, wrapper_pool}
use Rattle.rewritten_form.proofs.CopyForms.{IsCopyAt, copy_put}
use Rattle.rewritten_form.proofs.WrapperForms.{wrapper_put}
use Rattle.rewritten_form.proofs.Keys.{Key, AreKeyed, IsNone, AreUnlike, keys_grown, distinct, unlike, key_of}
use Rattle.rewritten_form.proofs.ClassSteps.{methods_keyed, made_rules, own_fields, methods_still}
use Rattle.rewritten_form.proofs.MethodSteps.{room_some, HasMore, more_rules}

-- ---- duplicates

-- what is known of an original: its bytes, its locals' increments, and that what it names may stand in a class file
pub record IsGood (c : ClassFile) (O : Original) : Type 0 where
  pub class : O.class ≡ c
  pub held : HasBytes O.member
  pub little : AllByRecursion AddsLittle O.method.ops
  pub method : O.method.places ≤ 254 → IsLawfulMethod O.method
  pub ops : (coded : Coded) → decoded_member (record { class = O.class; member = O.member }) ≡ Ok (Some coded) → few_arguments O.program O.method coded.instrs ≡ Ok tt → AreLawful O 0 coded.instrs

abbrev pub copy_key : Original → Key
copy_key O = (duplicate_name O.method.name.name, with_context O.method.name.descriptor)

abbrev pub copy_keys : List Original → List Key
copy_keys os = map copy_key os

-- the duplicates of originals, one after another
abbrev AreCopies : List Original → Pool → List Member → Type 0
AreCopies [] Z [] = Unit {0}
AreCopies (O ∷ os) Z (m ∷ ms) = IsCopyAt O Z m × AreCopies os Z ms
AreCopies os Z ms = ⊥

copies_keyed : (Z : Pool) (os : List Original) (ms : List Member) → AreCopies os Z ms → AreKeyed Z ms (copy_keys os)
copies_keyed Z [] [] h = tt
copies_keyed Z [] (m ∷ ms) h = absurd h
copies_keyed Z (O ∷ os) [] h = absurd h
copies_keyed Z (O ∷ os) (m ∷ ms) h = (record { named = h.0.named; typed = h.0.typed }, copies_keyed Z os ms h.1)

copies_forms : (Z : Pool) → IsPool Z → (os : List Original) (ms : List Member) → AreCopies os Z ms → AllByRecursion (IsMethod Z) ms
copies_forms Z p [] [] h = tt
copies_forms Z p [] (m ∷ ms) h = absurd h
copies_forms Z p (O ∷ os) [] h = absurd h
copies_forms Z p (O ∷ os) (m ∷ ms) h = (h.0.form p, copies_forms Z p os ms h.1)

abbrev copies_from : ℕ → ℕ → Original → Pool → Growth Member
copies_from room n O pool = duplicate_of (room - n) O pool

copy_fits : (room n : ℕ) (O : Original) (pool : Pool) (r : Member × Pool) → duplicate_of (room - n) O pool ≡ Ok r → n + 1 ≤ room
unfolding duplicate_of
copy_fits room n O pool r e =
    let a = bind_ok (decoded_member (record { class = O.class; member = O.member })) (λ coded. room_for (room - n) (duplicate_named O.method.name) >>= λ fits. duplicate_with O coded pool) r e in
    let b = bind_ok (room_for (room - n) (duplicate_named O.method.name)) (λ fits. duplicate_with O a.0 pool) r a.2 in
    let some = room_some (room - n) (duplicate_named O.method.name) b.1 in
    omega (arith, some)

copies_fit : (room n : ℕ) (os : List Original) (pool : Pool) (r : List Member × Pool) → n ≤ room → grow_from (copies_from room) n os pool ≡ Ok r → (n + length os ≤ room) × (length r.0 ≡ length os)
copies_fit room n [] pool r fits e = let same : [] ≡ r.0 = ap (λ (x : List Member × Pool). x.0) (ok_is ([], pool) r e) in (omega (arith, fits), sym (ap length same))
copies_fit room n (O ∷ os) pool r fits e =
    let a = bind_ok _ _ r e in
    let b = bind_ok _ _ r a.2 in
    let here = copy_fits room n O pool a.0 a.1 in
    let more = copies_fit room (n + 1) os a.0.1 b.0 (omega (arith, here)) b.1 in
    let same : a.0.0 ∷ b.0.0 ≡ r.0 = ap (λ (x : List Member × Pool). x.0) (ok_is (a.0.0 ∷ b.0.0, b.0.1) r b.2) in
    (omega (arith, more.0), omega (arith, ap length same, more.1))

lawful_copy : (c : ClassFile) (O : Original) → IsGood c O → (o : Option Coded) → decoded_member (record { class = O.class; member = O.member }) ≡ Ok o → few_arguments O.program O.method (instrs_in o) ≡ Ok tt → O.method.places ≤ 254 → IsLawfulCopy O o
lawful_copy c O h None told few places = record { method = h.method places; ops = tt }
lawful_copy c O h (Some coded) told few places = record { method = h.method places; ops = h.ops coded told few }

module _ (c : ClassFile) where
  one_pool : (room : ℕ) (O : Original) → IsGood c O → Keeping (duplicate_of room O)
  one_pool room O h pool r e p = copy_pool room O (λ o told few. lawful_copy c O h o told few (few_kept O (instrs_in o) few).places) pool r e p

  all_good : (room n : ℕ) (os : List Original) → AllByRecursion (IsGood c) os → AllGood (λ n O. IsGood c O) (copies_from room) (λ n O h. one_pool (room - n) O h) n os
  all_good room n [] h = tt
  all_good room n (O ∷ os) h = (h.0, all_good room (n + 1) os h.1)

  copies_pool : (room : ℕ) (os : List Original) → AllByRecursion (IsGood c) os → Keeping (grow_from (copies_from room) 0 os)
  copies_pool room os h pool r e p = all_pool (λ n O. IsGood c O) (copies_from room) (λ n O g. one_pool (room - n) O g) 0 os (all_good room 0 os h) pool r e p

  copies_put : (room n : ℕ) (os : List Original) → AllByRecursion (IsGood c) os → (pool : Pool) (r : List Member × Pool) → length pool < 65535 → Grown c.pool pool → grow_from (copies_from room) n os pool ≡ Ok r → Puts (AreCopies os) pool r
  copies_put room n [] h pool r s g e = subst (Puts (AreCopies []) pool) (ok_is ([], pool) r e) (record { grown = grown_refl pool; short = s; facts = λ Z g. tt })
  copies_put room n (O ∷ os) h pool r s g e =
      let a = bind_ok _ _ r e in
      let b = bind_ok _ _ r a.2 in
      let here : Grown O.class.pool pool = subst (λ (x : ClassFile). Grown x.pool pool) (sym h.0.class) g in
      let p = copy_put O h.0.held h.0.little (λ places. (h.0.method places).typed) (room - n) pool a.0 s here a.1 in
      let q = copies_put room (n + 1) os h.1 a.0.1 b.0 p.short (grown_trans c.pool pool a.0.1 g p.grown) b.1 in
      subst (Puts (AreCopies (O ∷ os)) pool) (ok_is (a.0.0 ∷ b.0.0, b.0.1) r b.2)
      (record { grown = grown_trans pool a.0.1 b.0.1 p.grown q.grown; short = q.short; facts = λ Z g. (p.facts Z (grown_trans a.0.1 b.0.1 Z q.grown g), q.facts Z g) })

  module _ (d : ClassFile) (rules : IsClassFile d) (G : Grown c.pool d.pool) (olds : List Key) (old : AreKeyed d.pool d.methods olds) (unlike_olds : AreUnlike olds)
      (os : List Original) (good : AllByRecursion (IsGood c) os) (apart : AreUnlike (copy_keys os)) (away : AllByRecursion (IsNone (copy_keys os)) olds) where
    copies_made : (ms : List Member) (pool : Pool) → grow_from (copies_from (room_in d)) 0 os d.pool ≡ Ok (ms, pool) → HasMore d (and_methods d ms pool) (copy_keys os)
    copies_made ms pool e =
        let P = copies_put (room_in d) 0 os good d.pool (ms, pool) rules.pool.few G e in
        let p : IsPool pool = copies_pool (room_in d) os good d.pool (ms, pool) e rules.pool in
        let facts = P.facts pool (grown_refl pool) in
        let fits = copies_fit (room_in d) 0 os d.pool (ms, pool) (omega arith) e in
        more_rules d rules olds old unlike_olds pool P.grown p ms (copy_keys os) (copies_keyed pool os ms facts) apart away (copies_forms pool p os ms facts) (omega (arith, fits.0, fits.1))

    pub copies_step : (e : ClassFile) → with_duplicates os d ≡ Ok e → HasMore d e (copy_keys os)
    copies_step e t =
        let a = bind_ok (grow_from (copies_from (room_in d)) 0 os d.pool) (λ all. Ok (and_methods d all.0 all.1)) e t in
        subst (λ (x : ClassFile). HasMore d x (copy_keys os)) (ok_is (and_methods d a.0.0 a.0.1) e a.2) (copies_made a.0.0 a.0.1 a.1)

-- ---- wrappers

all_set : {A : Type 0} (Q : A → Type 0) (xs : List A) (i : ℕ) (y : A) → AllByRecursion Q xs → Q y → AllByRecursion Q (set xs i y)
all_set Q [] i y h q = tt
all_set Q (x ∷ xs) zero y h q = (q, h.1)
all_set Q (x ∷ xs) (suc i) y h q = (h.0, all_set Q xs i y h.1 q)

keyed_set : (Z : Pool) (ms : List Member) (ks : List Key) (i : ℕ) (m y : Member) → AreKeyed Z ms ks → slice_get ms i ≡ Some m → y.name ≡ m.name → y.descriptor ≡ m.descriptor → AreKeyed Z (set ms i y) ks
keyed_set Z [] ks i m y h e n d = h
keyed_set Z (x ∷ ms) [] i m y h e n d = absurd h
keyed_set Z (x ∷ ms) (k ∷ ks) zero m y h e n d =
    let same : x ≡ m = cc in
    (record { named = ap (utf8 Z) (n ∙ ap (λ (z : Member). z.name) (sym same)) ∙ h.0.named; typed = ap (utf8 Z) (d ∙ ap (λ (z : Member). z.descriptor) (sym same)) ∙ h.0.typed }, h.1)
keyed_set Z (x ∷ ms) (k ∷ ks) (suc i) m y h e n d = (h.0, keyed_set Z ms ks i m y h.1 e n d)

method_at : (Z : Pool) (ms : List Member) (i : ℕ) (m : Member) → AllByRecursion (IsMethod Z) ms → slice_get ms i ≡ Some m → IsMethod Z m
method_at Z [] i m h e = absurd cc
method_at Z (x ∷ ms) zero m h e = let same : x ≡ m = cc in subst (IsMethod Z) same h.0
method_at Z (x ∷ ms) (suc i) m h e = method_at Z ms i m h.1 e

module _ (id : ℕ) (attempts : ℤ) (fits : FitsSigned w32 attempts) (k : Method) (lawful : k.places ≤ 254 → IsLawfulMethod k) (d : ClassFile) (rules : IsClassFile d) (i : ℕ) where
  wrap_made : (m x : Member) (pool : Pool) → slice_get d.methods i ≡ Some m → wrapper_of id attempts k m d.pool ≡ Ok (x, pool) → IsClassFile (and_method d i x pool)
  wrap_made m x pool there e =
      let w = wrapper_put id attempts k m d.pool (x, pool) rules.pool.few (method_at d.pool d.methods i m rules.methods there) e in
      let p : IsPool pool = wrapper_pool id attempts k m fits lawful d.pool (x, pool) e rules.pool in
      let G = w.grown in
      let olds : List Key = map (key_of d.pool) d.methods in
      let old = methods_keyed d.pool d.methods rules.methods in
      let keyed = keyed_set pool d.methods olds i m x (keys_grown d.pool pool G d.methods olds old) there w.name w.descriptor in
      made_rules d rules pool G p d.fields (set d.methods i x) (own_fields d rules pool G p) (record {
        few = (let few = rules.few_methods in omega (arith, few, length-set d.methods i x));
        each = all_set (IsMethod pool) d.methods i x (methods_still d.pool pool G d.methods rules.methods) w.form;
        distinct = distinct pool (set d.methods i x) olds keyed (unlike d.pool d.methods olds old rules.distinct_methods);
      })

  wrap_step : (e : ClassFile) → with_wrapper id attempts k d i ≡ Ok e → IsClassFile e
  wrap_step e t = go (slice_get d.methods i) refl t
    where
      go : (o : Option Member) → slice_get d.methods i ≡ o → with_wrapper_of id attempts k d i o ≡ Ok e → IsClassFile e
      go None q h = subst IsClassFile (ok_is d e h) rules
      go (Some m) q h =
          let a = bind_ok (wrapper_of id attempts k m d.pool) (λ wrapper. Ok (and_method d i wrapper.0 wrapper.1)) e h in
          subst IsClassFile (ok_is (and_method d i a.0.0 a.0.1) e a.2) (wrap_made m a.0.0 a.0.1 q a.1)

module _ (P : Program) (pool : Pool) (lawful : (n : ℕ) (k : Method) → slice_get P.methods n ≡ Some k → k.places ≤ 254 → IsLawfulMethod k) (fits : (m : Member) (n : ℤ) → retries_of pool m ≡ Some n → FitsSigned w32 n) where
  pub wraps_step : (i n id : ℕ) (ms : List (Member × Bool)) (d e : ClassFile) → IsClassFile d → wrapped_from P pool i n id ms d ≡ Ok e → IsClassFile e
  wraps_step i n id [] d e rules t = subst IsClassFile (ok_is d e t) rules
  wraps_step i n id (m ∷ ms) d e rules t =
      let a = bind_ok (wrapped_if id (retries_of pool m.0) (slice_get P.methods n) d i) (λ next. wrapped_from P pool (suc i) (number_behind m.1 n) (id_behind pool id m.0) ms next) e t in
      wraps_step (suc i) (number_behind m.1 n) (id_behind pool id m.0) ms a.0 e (one a.0 (retries_of pool m.0) refl (slice_get P.methods n) refl a.1) a.2
    where
      one : (next : ClassFile) (r : Option ℤ) → retries_of pool m.0 ≡ r → (o : Option Method) → slice_get P.methods n ≡ o → wrapped_if id r o d i ≡ Ok next → IsClassFile next
      one next (Some attempts) q (Some k) s h = wrap_step id attempts (fits m.0 attempts q) k (lawful n k s) d rules i next h
      one next (Some attempts) q None s h = subst IsClassFile (ok_is d next h) rules
      one next None q o s h = subst IsClassFile (ok_is d next h) rules
