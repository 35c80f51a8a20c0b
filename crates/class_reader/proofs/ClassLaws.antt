-- What is read is a class that is spelled so, and what is spelled so is read.
use Rattle.std.proofs.Common.{◌≡◌, ℕ, zero, suc, ◌+◌, ◌^◌, ◌<◌, true, eqb, List, [], ◌∷◌, ◌++◌, length, Option, Some, None, Result, Ok, Err, refl, sym, ap, subst, append_assoc, arith}
use Rattle.std.specs.Prelude.{IsSome, IsSomeAnd, IfOk}
use Rattle.std.specs.List.{AllByRecursion, flat_map}
use Rattle.std.proofs.lemmas.Bool.{eqb-true, eq-eqb}
use Rattle.jmodel.specs.declared.refusal.Refusal.TheVariants.{Trailing}
use Rattle.jmodel.specs.declared.refusal.Halt.{Halt}
use Rattle.jmodel.specs.format.ClassFile.{Pool, Attribute, Member, ClassFile, u2, constant, constants, magic, indexes, members, attributes, spelling}
use Rattle.jmodel.specs.format.Pool.{utf8, class_name}
use Rattle.jmodel.specs.format.Descriptor.{IsFieldDescriptor, IsMethodDescriptor}
use Rattle.jmodel.specs.format.ClassRules.{IsTwoBytes, IsPool, AreAttributes, IsField, IsMethod, IsClassFile, Spells}
use Rattle.jmodel.specs.format.Reading.{◌>>=◌, Gives, place}
use Rattle.jmodel.specs.format.PoolReading.{all_fit, pool_at}
use Rattle.jmodel.specs.format.ClassReading.{attributes_at}
use Rattle.jmodel.specs.format.ClassFileReading.{magic_at, version_at, Head, head_at, field_at, method_at, members_at, parts_at, ended, distinct, distinct_members, class_file_of}
use Rattle.const_pool.proofs.Takes.{bind_ok, ok_is, want_ok, IsBytes, Takes, Takes-then, Takes-first, Takes-second}
use Rattle.const_pool.proofs.Named.{IsRead, pool_takes, pool_again}
use Rattle.const_pool.proofs.Parts.{regrouped, Takes-all, all-Takes, attributes_take, attributes_again}
use Rattle.class_reader.specs.Numbers.{AreNamed}
use Rattle.class_reader.proofs.HeadLaws.{magic_takes, magic_again, version_takes, version_again, head_text, IsHead, head_takes, head_again}
use Rattle.class_reader.proofs.MemberLaws.{field_takes, field_again, method_takes, method_again, members_take, members_again}
use Rattle.class_reader.proofs.DistinctLaws.{distinct_found, distinct_again}

-- what stands behind the pool
abbrev pub parts_text : ClassFile → List ℕ
parts_text c = u2 c.flags ++ (u2 c.this_class ++ (u2 c.super_class ++ indexes c.interfaces)) ++ (members c.fields ++ (members c.methods ++ attributes c.attributes))

in_one_line : (m a b p f t s i fs ms xs : List ℕ) → m ++ ((a ++ b) ++ (p ++ (f ++ (t ++ (s ++ i)) ++ (fs ++ (ms ++ xs))))) ≡ m ++ a ++ b ++ p ++ f ++ t ++ s ++ i ++ fs ++ ms ++ xs
in_one_line m a b p f t s i fs ms xs = simp append_assoc

pub spelled : (c : ClassFile) → magic ++ ((u2 c.minor ++ u2 c.major) ++ (constants c.pool ++ parts_text c)) ≡ spelling c
spelled c = in_one_line magic (u2 c.minor) (u2 c.major) (constants c.pool) (u2 c.flags) (u2 c.this_class) (u2 c.super_class) (indexes c.interfaces) (members c.fields) (members c.methods) (attributes c.attributes)

some_and : (o : Option (List ℕ)) (P : List ℕ → Type 0) → IsSomeAnd o P → IsSome o
some_and None P h = absurd h
some_and (Some x) P h = refl

fields_named : (pool : Pool) (ms : List Member) → AllByRecursion (IsField pool) ms → AreNamed pool ms
fields_named pool [] h = tt
fields_named pool (m ∷ ms) h = ((h.0.named, some_and (utf8 pool m.descriptor) IsFieldDescriptor h.0.typed), fields_named pool ms h.1)

methods_named : (pool : Pool) (ms : List Member) → AllByRecursion (IsMethod pool) ms → AreNamed pool ms
methods_named pool [] h = tt
methods_named pool (m ∷ ms) h = ((h.0.member.named, some_and (utf8 pool m.descriptor) IsMethodDescriptor h.0.member.typed), methods_named pool ms h.1)

-- what is known of a class before its members are told apart
pub record AreParts (minor : ℕ) (pool : Pool) (bytes : List ℕ) (at : ℕ) (c : ClassFile) (next : ℕ) : Type 0 where
  pub takes : Takes bytes at (parts_text c) next
  pub minor_is : c.minor ≡ minor
  pub major_is : c.major ≡ 49
  pub pool_is : c.pool ≡ pool
  pub head : IsHead pool bytes (record { flags = c.flags; this_class = c.this_class; super_class = c.super_class; interfaces = c.interfaces })
  pub few_fields : length c.fields < 2 ^ 16
  pub fields : AllByRecursion (IsField pool) c.fields
  pub few_methods : length c.methods < 2 ^ 16
  pub methods : AllByRecursion (IsMethod pool) c.methods
  pub attributes : AreAttributes pool c.attributes

pub parts_take : (minor : ℕ) (pool : Pool) (bytes : List ℕ) → all_fit pool pool ≡ Ok tt → IsBytes bytes → (at : ℕ) (x : ClassFile × ℕ) → parts_at minor pool bytes at ≡ Ok x → AreParts minor pool bytes at x.0 x.1
unfolding parts_at
parts_take minor pool bytes fit fits at x e =
    let a = bind_ok (head_at pool bytes at) (λ h. members_at (field_at pool bytes) bytes h.1 >>= λ fs. members_at (method_at pool bytes) bytes fs.1 >>= λ ms. attributes_at pool bytes ms.1 >>= λ xs. Ok (made h.0 fs.0 ms.0 xs.0, xs.1)) x e in
    let b = bind_ok (members_at (field_at pool bytes) bytes a.0.1) (λ fs. members_at (method_at pool bytes) bytes fs.1 >>= λ ms. attributes_at pool bytes ms.1 >>= λ xs. Ok (made a.0.0 fs.0 ms.0 xs.0, xs.1)) x a.2 in
    let c = bind_ok (members_at (method_at pool bytes) bytes b.0.1) (λ ms. attributes_at pool bytes ms.1 >>= λ xs. Ok (made a.0.0 b.0.0 ms.0 xs.0, xs.1)) x b.2 in
    let d = bind_ok (attributes_at pool bytes c.0.1) (λ xs. Ok (made a.0.0 b.0.0 c.0.0 xs.0, xs.1)) x c.2 in
    let t0 = head_takes pool bytes fit fits at a.0 a.1 in
    let t1 = members_take pool bytes (field_at pool bytes) (IsField pool) (λ at m next e. field_takes pool bytes fits at m next e) fits a.0.1 b.0 b.1 in
    let t2 = members_take pool bytes (method_at pool bytes) (IsMethod pool) (λ at m next e. method_takes pool bytes fits at m next e) fits b.0.1 c.0 c.1 in
    let t3 = attributes_take pool bytes fits c.0.1 d.0 d.1 in
    let e2 = Takes-then bytes b.0.1 (members c.0.0) c.0.1 (attributes d.0.0) d.0.1 t2.0 t3.0 in
    let e1 = Takes-then bytes a.0.1 (members b.0.0) b.0.1 (members c.0.0 ++ attributes d.0.0) d.0.1 t1.0 e2 in
    let e0 = Takes-then bytes at (head_text pool bytes a.0.0) a.0.1 (members b.0.0 ++ (members c.0.0 ++ attributes d.0.0)) d.0.1 t0.0 e1 in
    subst (λ (y : ClassFile × ℕ). AreParts minor pool bytes at y.0 y.1) (ok_is (made a.0.0 b.0.0 c.0.0 d.0.0, d.0.1) x d.2) (record {
      takes = e0;
      minor_is = refl;
      major_is = refl;
      pool_is = refl;
      head = t0.1;
      few_fields = t1.1;
      fields = t1.2;
      few_methods = t2.1;
      methods = t2.2;
      attributes = t3.1;
    }) where
      made : Head → List Member → List Member → List Attribute → ClassFile
      made h fs ms xs = record { minor = minor; major = 49; pool = pool; flags = h.flags; this_class = h.this_class; super_class = h.super_class; interfaces = h.interfaces; fields = fs; methods = ms; attributes = xs }

-- what `distinct` asks for
pub parts_named : (minor : ℕ) (pool : Pool) (bytes : List ℕ) (at : ℕ) (c : ClassFile) (next : ℕ) → AreParts minor pool bytes at c next → AreNamed c.pool c.fields × AreNamed c.pool c.methods
parts_named minor pool bytes at c next p = rw p.pool_is (fields_named pool c.fields p.fields, methods_named pool c.methods p.methods)

abbrev head_of : ClassFile → Head
head_of c = record { flags = c.flags; this_class = c.this_class; super_class = c.super_class; interfaces = c.interfaces }

rules_of : (minor : ℕ) (bytes : List ℕ) (at next : ℕ) (c : ClassFile) → IsTwoBytes minor → IsPool c.pool → AreParts minor c.pool bytes at c next → distinct_members c ≡ Ok tt → IsClassFile c
unfolding distinct_members
rules_of minor bytes at next c lt pool p e =
    let a = bind_ok (distinct c.pool [] c.fields) (λ _. distinct c.pool [] c.methods) tt e in
    record {
      minor = omega (arith, p.minor_is);
      major = p.major_is;
      pool = pool;
      flags = p.head.flags;
      this_class = p.head.this_class;
      this_name = p.head.this_name;
      super_class = p.head.super_class.0;
      super_name = p.head.super_class.1;
      few_interfaces = p.head.few;
      interfaces = p.head.interfaces;
      few_fields = p.few_fields;
      fields = p.fields;
      few_methods = p.few_methods;
      methods = p.methods;
      attributes = p.attributes;
      distinct_fields = distinct_found c.pool c.fields a.1;
      distinct_methods = distinct_found c.pool c.methods a.2;
    }

-- a pool in which something is named isn't empty, so its count is one more than its length
pool_text : (bytes : List ℕ) (at next count i : ℕ) (pool : Pool) → IsRead bytes at pool next count → IsSome (class_name pool i) → Takes bytes at (constants pool) next
pool_text bytes at next count i pool r named =
    let some : 0 < length pool = filled pool i named in
    let is : count ≡ suc (length pool) = omega (arith, r.counted) in
    subst (λ (k : ℕ). Takes bytes at (u2 k ++ flat_map constant pool) next) is r.takes where
      filled : (cs : Pool) (k : ℕ) → IsSome (class_name cs k) → 0 < length cs
      filled [] zero h = absurd cc
      filled [] (suc k) h = absurd cc
      filled (c ∷ cs) k h = omega arith

ended_at : (bytes : List ℕ) (at : ℕ) → ended bytes at ≡ Ok tt → at ≡ length bytes
ended_at bytes at e = let w = want_ok (eqb at (length bytes)) (Trailing (place at)) (Ok tt) tt e in eqb-true at (length bytes) w.0

pub class_takes : (bytes : List ℕ) (c : ClassFile) → IsBytes bytes → class_file_of bytes ≡ Ok c → Spells bytes c
unfolding class_file_of
class_takes bytes c fits e =
    let a = bind_ok (magic_at bytes) (λ at. version_at bytes at >>= λ v. pool_at bytes v.1 >>= λ p. parts_at v.0 p.0 bytes p.1 >>= λ k. ended bytes k.1 >>= λ _. distinct_members k.0 >>= λ _. Ok k.0) c e in
    let b = bind_ok (version_at bytes a.0) (λ v. pool_at bytes v.1 >>= λ p. parts_at v.0 p.0 bytes p.1 >>= λ k. ended bytes k.1 >>= λ _. distinct_members k.0 >>= λ _. Ok k.0) c a.2 in
    let p = bind_ok (pool_at bytes b.0.1) (λ p. parts_at b.0.0 p.0 bytes p.1 >>= λ k. ended bytes k.1 >>= λ _. distinct_members k.0 >>= λ _. Ok k.0) c b.2 in
    let k = bind_ok (parts_at b.0.0 p.0.0 bytes p.0.1) (λ k. ended bytes k.1 >>= λ _. distinct_members k.0 >>= λ _. Ok k.0) c p.2 in
    let w = bind_ok (ended bytes k.0.1) (λ _. distinct_members k.0.0 >>= λ _. Ok k.0.0) c k.2 in
    let d = bind_ok (distinct_members k.0.0) (λ _. Ok k.0.0) c w.2 in
    let t0 = magic_takes bytes a.0 fits a.1 in
    let t1 = version_takes bytes a.0 b.0 fits b.1 in
    let t2 = pool_takes bytes b.0.1 p.0 fits p.1 in
    let t3 = parts_take b.0.0 p.0.0 bytes t2.1.fit fits p.0.1 k.0 k.1 in
    whole k.0.0 a.0 b.0.0 b.0.1 p.0.0 p.0.1 k.0.1 t0 t1.0 t1.1 t2.0 t2.1 t3 (ended_at bytes k.0.1 w.1) d.1 (ok_is k.0.0 c d.2) where
      whole : (r : ClassFile) (after_magic minor after_version : ℕ) (pool : Pool) (after_pool end : ℕ) → Takes bytes 0 magic after_magic → Takes bytes after_magic (u2 minor ++ u2 49) after_version → IsTwoBytes minor → (count : ℕ) → IsRead bytes after_version pool after_pool count → AreParts minor pool bytes after_pool r end → end ≡ length bytes → distinct_members r ≡ Ok tt → r ≡ c → Spells bytes c
      whole r m minor v pool q end t0 t1 lt count t2 t3 last told is =
          let text = pool_text bytes v q count r.super_class pool t2 t3.head.super_class.1 in
          let text' : Takes bytes v (constants r.pool) q = subst (λ (x : Pool). Takes bytes v (constants x) q) (sym t3.pool_is) text in
          let front : Takes bytes m (u2 r.minor ++ u2 r.major) v = subst (λ (n : ℕ). Takes bytes m (u2 n ++ u2 r.major) v) (sym t3.minor_is) (subst (λ (n : ℕ). Takes bytes m (u2 minor ++ u2 n) v) (sym t3.major_is) t1) in
          let e2 = Takes-then bytes v (constants r.pool) q (parts_text r) end text' t3.takes in
          let e1 = Takes-then bytes m (u2 r.minor ++ u2 r.major) v (constants r.pool ++ parts_text r) end front e2 in
          let e0 = Takes-then bytes 0 magic m ((u2 r.minor ++ u2 r.major) ++ (constants r.pool ++ parts_text r)) end t0 e1 in
          let all = regrouped bytes 0 end (magic ++ ((u2 r.minor ++ u2 r.major) ++ (constants r.pool ++ parts_text r))) (spelling r) (spelled r) e0 in
          let all' : Takes bytes 0 (spelling r) (length bytes) = subst (Takes bytes 0 (spelling r)) last all in
          let parts : AreParts minor r.pool bytes q r end = subst (λ (x : Pool). AreParts minor x bytes q r end) (sym t3.pool_is) t3 in
          let rules : IsPool r.pool = subst IsPool (sym t3.pool_is) t2.rules in
          subst (Spells bytes) is (record { class = rules_of minor bytes q end r lt rules parts told; is = all-Takes bytes (spelling r) all' })

parts_again : (c : ClassFile) (bytes : List ℕ) (at next : ℕ) → IsClassFile c → Takes bytes at (parts_text c) next → parts_at c.minor c.pool bytes at ≡ Ok (c, next)
unfolding parts_at
parts_again c bytes at next h t =
    let hs : List ℕ = head_text c.pool bytes (head_of c) in
    let tail : List ℕ = members c.methods ++ attributes c.attributes in
    let r0 = Takes-second bytes at hs (members c.fields ++ tail) next t in
    let r1 = Takes-second bytes (at + length hs) (members c.fields) tail next r0 in
    let r2 = Takes-second bytes (at + length hs + length (members c.fields)) (members c.methods) (attributes c.attributes) next r1 in
    let rules : IsHead c.pool bytes (head_of c) = record { flags = h.flags; this_class = h.this_class; this_name = h.this_name; super_class = (h.super_class, h.super_name); few = h.few_interfaces; interfaces = h.interfaces } in
    let head = head_again c.pool bytes at (head_of c) (at + length hs) rules (Takes-first bytes at hs (members c.fields ++ tail) next t) in
    let fields = members_again c.pool bytes (field_at c.pool bytes) (IsField c.pool) (λ at m next r t. field_again c.pool bytes at m next r t) c.fields (at + length hs) (at + length hs + length (members c.fields)) h.few_fields h.fields (Takes-first bytes (at + length hs) (members c.fields) tail next r0) in
    let methods = members_again c.pool bytes (method_at c.pool bytes) (IsMethod c.pool) (λ at m next r t. method_again c.pool bytes at m next r t) c.methods (at + length hs + length (members c.fields)) (at + length hs + length (members c.fields) + length (members c.methods)) h.few_methods h.methods (Takes-first bytes (at + length hs + length (members c.fields)) (members c.methods) (attributes c.attributes) next r1) in
    let rest = attributes_again c.pool bytes c.attributes (at + length hs + length (members c.fields) + length (members c.methods)) next h.attributes r2 in
    rw (head, fields, methods, rest) (ap (λ (n : ℕ). Ok (record c { major = n }, next)) (sym h.major))

pub class_again : (bytes : List ℕ) (c : ClassFile) → Spells bytes c → class_file_of bytes ≡ Ok c
unfolding class_file_of distinct_members
class_again bytes c h =
    let v : List ℕ = u2 c.minor ++ u2 c.major in
    let tail : List ℕ = constants c.pool ++ parts_text c in
    let all = regrouped bytes 0 (length bytes) (spelling c) (magic ++ (v ++ tail)) (sym (spelled c)) (Takes-all bytes (spelling c) h.is) in
    let r0 = Takes-second bytes 0 magic (v ++ tail) (length bytes) all in
    let r1 = Takes-second bytes 4 v tail (length bytes) r0 in
    let r2 = Takes-second bytes 8 (constants c.pool) (parts_text c) (length bytes) r1 in
    let front : Takes bytes 4 (u2 c.minor ++ u2 49) 8 = subst (λ (n : ℕ). Takes bytes 4 (u2 c.minor ++ u2 n) 8) h.class.major (Takes-first bytes 4 v tail (length bytes) r0) in
    let first = magic_again bytes 4 (Takes-first bytes 0 magic (v ++ tail) (length bytes) all) in
    let version = version_again bytes 4 c.minor 8 h.class.minor front in
    let pool = pool_again c.pool bytes 8 (8 + length (constants c.pool)) h.class.pool (Takes-first bytes 8 (constants c.pool) (parts_text c) (length bytes) r1) in
    let parts = parts_again c bytes (8 + length (constants c.pool)) (length bytes) h.class r2 in
    let end : eqb (length bytes) (length bytes) ≡ true = eq-eqb _ _ refl in
    let fields = distinct_again c.pool c.fields (fields_named c.pool c.fields h.class.fields) h.class.distinct_fields in
    let methods = distinct_again c.pool c.methods (methods_named c.pool c.methods h.class.methods) h.class.distinct_methods in
    rw (first, version, pool, parts, end, fields, methods) refl

pub is_found : (bytes : List ℕ) (r : Result ClassFile Halt) → IsBytes bytes → Gives (λ x. x) r (class_file_of bytes) → IfOk r (λ c. Spells bytes c)
is_found bytes (Ok c) fits given = class_takes bytes c fits given
is_found bytes (Err e) fits given = tt
