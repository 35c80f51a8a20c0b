-- What members name is in every pool that is grown from the one that was left.
use Rattle.std.proofs.Common.{◌≡◌, ℕ, ℤ, ◌+◌, ◌<◌, List, [], ◌∷◌, length, Some, Result, Ok, refl, ap, ◌∙◌, subst, arith}
use Rattle.std.specs.Prelude.{codes, option_and_then}
use Rattle.jmodel.specs.declared.refusal.Refusal.{Refusal}
use Rattle.jmodel.specs.declared.name.MethodName.{MethodName}
use Rattle.jmodel.specs.declared.instruction.Instr.{Instr}
use Rattle.jmodel.specs.format.ClassFile.{Pool, Member}
use Rattle.jmodel.specs.format.Pool.{utf8, MemberName}
use Rattle.jmodel.specs.format.Reading.{◌>>=◌}
use Rattle.jmodel.specs.format.Constants.{as_int, long_in}
use Rattle.jmodel.specs.format.PoolAdding.{add_text, add_integer, add_long, add_class, add_field, add_method}
use Rattle.const_pool.proofs.Takes.{bind_ok, ok_is, fine}
use Rattle.objects.specs.linking.Decoding.{Symbols}
use Rattle.member_code.specs.Growing.{Growth, grow_from}
use Rattle.member_code.specs.Coding.{typed_name, added_method, coded_method, straight_bytes, straight_method}
use Rattle.member_code.proofs.Grown.{Grown, grown_refl, grown_trans, utf8_grown, class_grown, field_grown, method_grown, integer_grown, long_grown}
use Rattle.member_code.proofs.Added.{member, Says, text_added, Counts, integer_added, Measures, long_added, NamesClass, class_added, IsFieldName, field_added, IsMethodName, method_added}
use Rattle.member_code.proofs.Straight.{IsRun, run_is}
use Rattle.member_code.proofs.Coded.{IsAdded}

-- what was added, with what every longer pool has of it
pub record Puts {X : Type 0} (Facts : Pool → X → Type 0) (pool : Pool) (r : X × Pool) : Type 0 where
  pub grown : Grown pool r.1
  pub short : length r.1 < 65535
  pub facts : (Z : Pool) → Grown r.1 Z → Facts Z r.0

-- adding to a pool that isn't full gives what is so, if it gives something
abbrev pub Adding : {X : Type 0} → (Pool → X → Type 0) → (Pool → Growth X) → Type 0
Adding {X} Facts add = (pool : Pool) (r : X × Pool) → length pool < 65535 → add pool ≡ Ok r → Puts Facts pool r

-- what each of a list adds, the first with number n
abbrev pub AllPut : {A B : Type 0} → (ℕ → A → Pool → B → Type 0) → ℕ → List A → Pool → List B → Type 0
AllPut Facts n [] Z [] = Unit {0}
AllPut Facts n (x ∷ xs) Z (y ∷ ys) = Facts n x Z y × AllPut Facts (n + 1) xs Z ys
AllPut Facts n xs Z ys = ⊥

module _ {A B : Type 0} (Facts : ℕ → A → Pool → B → Type 0) (f : ℕ → A → Pool → Growth B) (one : (n : ℕ) (x : A) → Adding (Facts n x) (f n x)) where
  pub adds_all : (n : ℕ) (xs : List A) → Adding (AllPut Facts n xs) (grow_from f n xs)
  adds_all n [] pool r s e = subst (Puts (AllPut Facts n []) pool) (ok_is ([], pool) r e) (record { grown = grown_refl pool; short = s; facts = λ Z g. tt })
  adds_all n (x ∷ xs) pool r s e =
      let a = bind_ok _ _ r e in
      let b = bind_ok _ _ r a.2 in
      let p = one n x pool a.0 s a.1 in
      let q = adds_all (n + 1) xs a.0.1 b.0 p.short b.1 in
      subst (Puts (AllPut Facts n (x ∷ xs)) pool) (ok_is (a.0.0 ∷ b.0.0, b.0.1) r b.2)
      (record { grown = grown_trans pool a.0.1 b.0.1 p.grown q.grown; short = q.short; facts = λ Z g. (p.facts Z (grown_trans a.0.1 b.0.1 Z q.grown g), q.facts Z g) })

-- ---- entries

pub adds_text : (text : List ℕ) → Adding (Says text) (λ pool. add_text pool text)
adds_text text pool r s e = let a = text_added text pool r s e in record { grown = a.grown; short = a.short; facts = λ Z g. utf8_grown r.1 Z g r.0 text a.means }

pub adds_long : (n : ℤ) → Adding (Measures n) (λ pool. add_long pool n)
adds_long n pool r s e = let a = long_added n pool r s e in record { grown = a.grown; short = a.short; facts = λ Z g. long_grown r.1 Z g r.0 n a.means }

-- an int, a field, a method, a class, each at an index of two bytes
abbrev pub IsCountAt : ℤ → Pool → ℕ → Type 0
IsCountAt n Z i = Counts n Z i × (i < 65535)

abbrev pub IsFieldAt : MemberName → Pool → ℕ → Type 0
IsFieldAt m Z i = IsFieldName m Z i × (i < 65535)

abbrev pub IsMethodAt : MemberName → Pool → ℕ → Type 0
IsMethodAt m Z i = IsMethodName m Z i × (i < 65535)

abbrev pub IsClassAt : List ℕ → Pool → ℕ → Type 0
IsClassAt name Z i = NamesClass name Z i × (0 < i) × (i < 65535)

pub adds_integer : (n : ℤ) → Adding (IsCountAt n) (λ pool. add_integer pool n)
adds_integer n pool r s e = let a = integer_added n pool r s e in record { grown = a.grown; short = a.short; facts = λ Z g. (integer_grown r.1 Z g r.0 (as_int n) a.means, a.few) }

pub adds_class : (name : List ℕ) → Adding (IsClassAt name) (λ pool. add_class pool name)
adds_class name pool r s e = let a = class_added name pool r s e in record { grown = a.grown; short = a.short; facts = λ Z g. (class_grown r.1 Z g r.0 name a.means, a.some, a.few) }

pub adds_field : (class name descriptor : List ℕ) → Adding (IsFieldAt (member class name descriptor)) (λ pool. add_field pool class name descriptor)
adds_field class name descriptor pool r s e = let a = field_added class name descriptor pool r s e in record { grown = a.grown; short = a.short; facts = λ Z g. (field_grown r.1 Z g r.0 (member class name descriptor) a.means, a.few) }

pub adds_method : (class name descriptor : List ℕ) → Adding (IsMethodAt (member class name descriptor)) (λ pool. add_method pool class name descriptor)
adds_method class name descriptor pool r s e = let a = method_added class name descriptor pool r s e in record { grown = a.grown; short = a.short; facts = λ Z g. (method_grown r.1 Z g r.0 (member class name descriptor) a.means, a.few) }

-- ---- members

abbrev pub IsTypedAt : List ℕ → List ℕ → Pool → ℕ × ℕ → Type 0
IsTypedAt name type Z p = (utf8 Z p.0 ≡ Some name) × (utf8 Z p.1 ≡ Some type)

pub adds_typed : (name type : List ℕ) → Adding (IsTypedAt name type) (typed_name name type)
unfolding typed_name
adds_typed name type pool r s e =
    let a = bind_ok _ _ r e in
    let b = bind_ok _ _ r a.2 in
    let p = adds_text name pool a.0 s a.1 in
    let q = adds_text type a.0.1 b.0 p.short b.1 in
    subst (Puts (IsTypedAt name type) pool) (ok_is ((a.0.0, b.0.0), b.0.1) r b.2)
    (record { grown = grown_trans pool a.0.1 b.0.1 p.grown q.grown; short = q.short; facts = λ Z g. (p.facts Z (grown_trans a.0.1 b.0.1 Z q.grown g), q.facts Z g) })

-- a method with these bytes of its Code
pub record IsCodedAt (flags : ℕ) (name : MethodName) (bytes : List ℕ) (Z : Pool) (m : Member) : Type 0 where
  pub name_at : ℕ
  pub descriptor_at : ℕ
  pub code_at : ℕ
  pub is : m ≡ added_method flags name_at descriptor_at code_at bytes
  pub named : utf8 Z name_at ≡ Some name.name
  pub typed : utf8 Z descriptor_at ≡ Some name.descriptor
  pub coded : utf8 Z code_at ≡ Some (codes "Code")

pub adds_coded : (flags : ℕ) (name : MethodName) (bytes : List ℕ) → Adding (IsCodedAt flags name bytes) (coded_method flags name bytes)
unfolding coded_method
adds_coded flags name bytes pool r s e =
    let a = bind_ok _ _ r e in
    let b = bind_ok _ _ r a.2 in
    let p = adds_typed name.name name.descriptor pool a.0 s a.1 in
    let q = adds_text (codes "Code") a.0.1 b.0 p.short b.1 in
    subst (Puts (IsCodedAt flags name bytes) pool) (ok_is (added_method flags a.0.0.0 a.0.0.1 b.0.0 bytes, b.0.1) r b.2)
    (record {
      grown = grown_trans pool a.0.1 b.0.1 p.grown q.grown;
      short = q.short;
      facts = λ Z g. let h = p.facts Z (grown_trans a.0.1 b.0.1 Z q.grown g) in record { name_at = a.0.0.0; descriptor_at = a.0.0.1; code_at = b.0.0; is = refl; named = h.0; typed = h.1; coded = q.facts Z g };
    })

-- a method whose code is one run of instructions
pub record IsStraightAt (most locals : ℕ) (is : List Instr) (name : MethodName) (Z : Pool) (m : Member) : Type 0 where
  pub bytes : List ℕ
  pub run : IsRun most locals is bytes
  pub coded : IsCodedAt 0x1009 name bytes Z m

pub adds_straight : (most locals : ℕ) (is : List Instr) (name : MethodName) → Adding (IsStraightAt most locals is name) (straight_method most locals is name)
unfolding straight_method
adds_straight most locals is name pool r s e =
    let a = bind_ok (straight_bytes most locals is) (λ bytes. coded_method 0x1009 name bytes pool) r e in
    let p = adds_coded 0x1009 name a.0 pool r s a.2 in
    record { grown = p.grown; short = p.short; facts = λ Z g. record { bytes = a.0; run = run_is most locals is a.0 a.1; coded = p.facts Z g } }

-- with the pool of a class
pub as_added : (s : Symbols) (name : MethodName) (bytes : List ℕ) (m : Member) → IsCodedAt 0x1009 name bytes s.class.pool m → IsAdded s m name.name name.descriptor bytes
as_added s name bytes m h = record { name_at = h.name_at; descriptor_at = h.descriptor_at; code_at = h.code_at; is = h.is; named = h.named; typed = h.typed; coded = h.coded }
