-- What is added to a pool is there, at an index of two bytes, and the pool only grows.
use Rattle.std.proofs.Common.{◌≡◌, ℕ, ℤ, suc, ◌+◌, ◌<◌, Bool, true, false, ◌&&◌, List, [], ◌∷◌, ◌++◌, length, get_or, Option, Some, None, Result, Ok, refl, sym, ap, ◌∙◌, subst, arith, length-append}
use Rattle.std.specs.Prelude.{option_and_then, slice_get, nat_lt, bytes_eq, position}
use Rattle.std.proofs.lemmas.Bool.Decides.{nat_tests, Decides-int_eq}
use Rattle.std.proofs.lemmas.Slice.Eq.{bytes_eq-Decides}
use Rattle.std.proofs.lemmas.List.Quantifiers.{position-Some}
use Rattle.std.proofs.lemmas.Option.{slice_get-get_or}
use Rattle.jmodel.specs.declared.class_file.Constant.{Constant}
use Rattle.jmodel.specs.declared.class_file.Constant.TheVariants as constants
use Rattle.jmodel.specs.declared.refusal.Refusal.{Refusal}
use Rattle.jmodel.specs.declared.refusal.Refusal.TheVariants.{PoolFull}
use Rattle.jmodel.specs.format.ClassFile.{Pool}
use Rattle.jmodel.specs.format.Pool.{entry, utf8, text_in, class_name, pair, pair_in, MemberName, field_name, method_name, member_name}
use Rattle.jmodel.specs.format.ClassRules.{same_text}
use Rattle.jmodel.specs.format.Constants.{as_int, integer, integer_in, long_in}
use Rattle.jmodel.specs.format.Reading.{◌>>=◌}
use Rattle.jmodel.specs.format.PoolAdding.{full, put, first_or, means_text, means_class, means_pair, pair_means, field_parts, method_parts, interface_method_parts, parts_mean, means_member, means_integer, means_long, add_text, add_integer, add_long, new_class, add_class, new_pair, add_pair, new_member, add_member, add_field, add_method, add_interface_method}
use Rattle.objects.proofs.Fetching.{get_back}
use Rattle.const_pool.proofs.Takes.{bind_ok, guard_ok, ok_is}
use Rattle.member_code.proofs.Grown.{Grown, grown_refl, grown_trans, utf8_grown, class_grown, pair_grown}

-- an index that was given, and what it means in the pool that was left
pub record Added (Means : Pool → ℕ → Type 0) (pool : Pool) (r : ℕ × Pool) : Type 0 where
  pub grown : Grown pool r.1
  pub short : length r.1 < 65535
  pub some : 0 < r.0
  pub few : r.0 < 65535
  pub means : Means r.1 r.0

abbrev pub Holds : Constant → Pool → ℕ → Type 0
Holds c pool i = entry pool i ≡ Some c

behind : (pool : Pool) (c : Constant) (cs : List Constant) → entry (pool ++ c ∷ cs) (suc (length pool)) ≡ Some c
behind pool c cs = let e : length pool ≡ length pool + 0 = omega arith in ap (slice_get (pool ++ c ∷ cs)) e ∙ get_back pool (c ∷ cs) 0

put_added : (c : Constant) (more : List Constant) (pool : Pool) (r : ℕ × Pool) → put pool (c ∷ more) ≡ Ok r → Added (Holds c) pool r
put_added c more pool r e =
    let b = guard_ok (nat_lt 65534 (length pool + length (c ∷ more))) (PoolFull []) (Ok (suc (length pool), pool ++ c ∷ more)) r e in
    let t = b.0 in
    let small : length pool + length (c ∷ more) < 65535 = grind (arith, nat_tests) in
    subst (Added (Holds c) pool) (ok_is (suc (length pool), pool ++ c ∷ more) r b.1)
    (record { grown = record { more = c ∷ more; is = refl }; short = omega (arith, length-append pool (c ∷ more), small); some = omega arith; few = omega (arith, small); means = behind pool c more })

module _ (Means : Pool → ℕ → Type 0) where
  weaker : (Other : Pool → ℕ → Type 0) (pool : Pool) (r : ℕ × Pool) → (Means r.1 r.0 → Other r.1 r.0) → Added Means pool r → Added Other pool r
  weaker Other pool r f a = record { grown = a.grown; short = a.short; some = a.some; few = a.few; means = f a.means }

  -- an entry that was found, or new ones
  either_added : (p : Constant → Bool) (pool : Pool) (new : Result (ℕ × Pool) Refusal) (r : ℕ × Pool) → length pool < 65535 → ((i : ℕ) (c : Constant) → entry pool (suc i) ≡ Some c → p c ≡ true → Means pool (suc i)) → (new ≡ Ok r → Added Means pool r)
      → first_or pool (position p pool) new ≡ Ok r → Added Means pool r
  either_added p pool new r short found put_new e = go (position p pool) refl e where
    go : (o : Option ℕ) → position p pool ≡ o → first_or pool o new ≡ Ok r → Added Means pool r
    go None q h = put_new h
    go (Some i) q h =
        let at = position-Some p pool i constants.Second q in
        let there = slice_get-get_or pool i constants.Second at.0 in
        subst (Added Means pool) (ok_is (suc i, pool) r h)
        (record { grown = grown_refl pool; short = short; some = omega arith; few = omega (arith, short, at.0); means = found i (get_or pool i constants.Second) there at.1 })

pub same_text_is : (o : Option (List ℕ)) (t : List ℕ) → same_text o t ≡ true → o ≡ Some t
same_text_is None t h = cc
same_text_is (Some s) t h = ap Some ((bytes_eq-Decides s t).0 h)

pub two_true : (a b : Bool) → (a && b) ≡ true → (a ≡ true) × (b ≡ true)
two_true true b h = (refl, h)
two_true false b h = cc

-- ---- texts

abbrev pub Says : List ℕ → Pool → ℕ → Type 0
Says text pool i = utf8 pool i ≡ Some text

utf8_of : (pool : Pool) (i : ℕ) (c : Constant) (text : List ℕ) → entry pool i ≡ Some c → text_in c ≡ Some text → utf8 pool i ≡ Some text
utf8_of pool i c text e h = rw e h

text_read : (text : List ℕ) (c : Constant) → means_text text c ≡ true → text_in c ≡ Some text
text_read text (constants.Utf8 t) h = same_text_is (Some t) text h
text_read text c h = cc

pub text_added : (text : List ℕ) (pool : Pool) (r : ℕ × Pool) → length pool < 65535 → add_text pool text ≡ Ok r → Added (Says text) pool r
unfolding add_text
text_added text pool r short e =
    either_added (Says text) (means_text text) pool _ r short (λ i c s t. utf8_of pool (suc i) c text s (text_read text c t))
    (λ h. let b = guard_ok (nat_lt 65535 (length text)) (PoolFull []) (put pool (constants.Utf8 text ∷ [])) r h in
    weaker (Holds (constants.Utf8 text)) (Says text) pool r (λ m. utf8_of r.1 r.0 (constants.Utf8 text) text m refl) (put_added (constants.Utf8 text) [] pool r b.1)) e

-- ---- numbers

abbrev pub Counts : ℤ → Pool → ℕ → Type 0
Counts n pool i = integer pool i ≡ Some (as_int n)

abbrev pub Measures : ℤ → Pool → ℕ → Type 0
Measures n pool i = option_and_then long_in (entry pool i) ≡ Some n

integer_read : (n : ℤ) (c : Constant) → means_integer n c ≡ true → integer_in c ≡ Some (as_int n)
integer_read n (constants.Integer m) h = ap (λ (x : ℤ). Some (as_int x)) ((Decides-int_eq m n).0 h)
integer_read n c h = cc

long_read : (n : ℤ) (c : Constant) → means_long n c ≡ true → long_in c ≡ Some n
long_read n (constants.Long m) h = ap Some ((Decides-int_eq m n).0 h)
long_read n c h = cc

pub integer_added : (n : ℤ) (pool : Pool) (r : ℕ × Pool) → length pool < 65535 → add_integer pool n ≡ Ok r → Added (Counts n) pool r
unfolding add_integer
integer_added n pool r short e =
    either_added (Counts n) (means_integer n) pool _ r short (λ i c s t. rw s (integer_read n c t))
    (λ h. weaker (Holds (constants.Integer n)) (Counts n) pool r (λ m. rw m refl) (put_added (constants.Integer n) [] pool r h)) e

pub long_added : (n : ℤ) (pool : Pool) (r : ℕ × Pool) → length pool < 65535 → add_long pool n ≡ Ok r → Added (Measures n) pool r
unfolding add_long
long_added n pool r short e =
    either_added (Measures n) (means_long n) pool _ r short (λ i c s t. rw s (long_read n c t))
    (λ h. weaker (Holds (constants.Long n)) (Measures n) pool r (λ m. rw m refl) (put_added (constants.Long n) (constants.Second ∷ []) pool r h)) e

-- ---- classes and pairs

abbrev pub NamesClass : List ℕ → Pool → ℕ → Type 0
NamesClass name pool i = class_name pool i ≡ Some name

class_read : (pool : Pool) (name : List ℕ) (i : ℕ) (c : Constant) → entry pool i ≡ Some c → means_class pool name c ≡ true → class_name pool i ≡ Some name
class_read pool name i (constants.Class n) s h = rw s (same_text_is _ name h)
class_read pool name i c s h = cc

pub class_added : (name : List ℕ) (pool : Pool) (r : ℕ × Pool) → length pool < 65535 → add_class pool name ≡ Ok r → Added (NamesClass name) pool r
unfolding add_class new_class
class_added name pool r short e = either_added (NamesClass name) (means_class pool name) pool _ r short (λ i c s t. class_read pool name (suc i) c s t) new e where
  new : (add_text pool name >>= λ text. put text.1 (constants.Class text.0 ∷ [])) ≡ Ok r → Added (NamesClass name) pool r
  new h =
      let a = bind_ok (add_text pool name) (λ text. put text.1 (constants.Class text.0 ∷ [])) r h in
      let t = text_added name pool a.0 short a.1 in
      let q = put_added (constants.Class a.0.0) [] a.0.1 r a.2 in
      let there = q.means in
      let says = utf8_grown a.0.1 r.1 q.grown a.0.0 name t.means in
      record { grown = grown_trans pool a.0.1 r.1 t.grown q.grown; short = q.short; some = q.some; few = q.few; means = rw there says }

abbrev pub Pairs : List ℕ → List ℕ → Pool → ℕ → Type 0
Pairs name descriptor pool i = pair pool i ≡ Some (name, descriptor)

pair_read : (pool : Pool) (name descriptor : List ℕ) (c : Constant) → means_pair pool name descriptor c ≡ true → pair_in pool c ≡ Some (name, descriptor)
pair_read pool name descriptor (constants.NameAndType n d) h =
    let t = two_true (same_text (utf8 pool n) name) (same_text (utf8 pool d) descriptor) h in
    let x = same_text_is (utf8 pool n) name t.0 in
    let y = same_text_is (utf8 pool d) descriptor t.1 in
    rw (x, y) refl
pair_read pool name descriptor c h = cc

pub pair_added : (name descriptor : List ℕ) (pool : Pool) (r : ℕ × Pool) → length pool < 65535 → add_pair pool name descriptor ≡ Ok r → Added (Pairs name descriptor) pool r
unfolding add_pair new_pair
pair_added name descriptor pool r short e = either_added (Pairs name descriptor) (means_pair pool name descriptor) pool _ r short (λ i c s t. rw s (pair_read pool name descriptor c t)) new e where
  new : (add_text pool name >>= λ first. add_text first.1 descriptor >>= λ second. put second.1 (constants.NameAndType first.0 second.0 ∷ [])) ≡ Ok r → Added (Pairs name descriptor) pool r
  new h =
      let a = bind_ok (add_text pool name) (λ first. add_text first.1 descriptor >>= λ second. put second.1 (constants.NameAndType first.0 second.0 ∷ [])) r h in
      let b = bind_ok (add_text a.0.1 descriptor) (λ second. put second.1 (constants.NameAndType a.0.0 second.0 ∷ [])) r a.2 in
      let t = text_added name pool a.0 short a.1 in
      let u = text_added descriptor a.0.1 b.0 t.short b.1 in
      let q = put_added (constants.NameAndType a.0.0 b.0.0) [] b.0.1 r b.2 in
      let there = q.means in
      let x = utf8_grown a.0.1 r.1 (grown_trans a.0.1 b.0.1 r.1 u.grown q.grown) a.0.0 name t.means in
      let y = utf8_grown b.0.1 r.1 q.grown b.0.0 descriptor u.means in
      record { grown = grown_trans pool a.0.1 r.1 t.grown (grown_trans a.0.1 b.0.1 r.1 u.grown q.grown); short = q.short; some = q.some; few = q.few; means = rw (there, x, y) refl }

-- ---- members

abbrev pub member : List ℕ → List ℕ → List ℕ → MemberName
member class name descriptor = record { class = class; name = name; descriptor = descriptor }

-- an entry of these parts, whatever its kind
pub record HasParts (c : Constant) (class name descriptor : List ℕ) (pool : Pool) (i : ℕ) (k p : ℕ) : Type 0 where
  pub there : entry pool i ≡ Some c
  pub class_is : class_name pool k ≡ Some class
  pub pair_is : pair pool p ≡ Some (name, descriptor)

pair_means_is : (pool : Pool) (p : ℕ) (name descriptor : List ℕ) → pair_means (entry pool p) pool name descriptor ≡ true → pair pool p ≡ Some (name, descriptor)
pair_means_is pool p name descriptor h = go (entry pool p) refl h where
  go : (o : Option Constant) → entry pool p ≡ o → pair_means o pool name descriptor ≡ true → pair pool p ≡ Some (name, descriptor)
  go None e t = cc
  go (Some c) e t = rw e (pair_read pool name descriptor c t)

parts_read : (pool : Pool) (class name descriptor : List ℕ) (k p : ℕ) → parts_mean (Some (k, p)) pool class name descriptor ≡ true → (class_name pool k ≡ Some class) × (pair pool p ≡ Some (name, descriptor))
parts_read pool class name descriptor k p h =
    let t = two_true (same_text (class_name pool k) class) (pair_means (entry pool p) pool name descriptor) h in
    (same_text_is (class_name pool k) class t.0, pair_means_is pool p name descriptor t.1)

module _ (make : ℕ → ℕ → Constant) (class name descriptor : List ℕ) (pool : Pool) (r : ℕ × Pool) (short : length pool < 65535) where
  pub record IsMade : Type 0 where
    pub class_at : ℕ
    pub pair_at : ℕ
    pub parts : Added (λ Z i. HasParts (make class_at pair_at) class name descriptor Z i class_at pair_at) pool r

  new_made : new_member make pool class name descriptor ≡ Ok r → IsMade
  unfolding new_member
  new_made h =
      let a = bind_ok (add_class pool class) (λ owner. add_pair owner.1 name descriptor >>= λ pair. put pair.1 (make owner.0 pair.0 ∷ [])) r h in
      let b = bind_ok (add_pair a.0.1 name descriptor) (λ pair. put pair.1 (make a.0.0 pair.0 ∷ [])) r a.2 in
      let t = class_added class pool a.0 short a.1 in
      let u = pair_added name descriptor a.0.1 b.0 t.short b.1 in
      let q = put_added (make a.0.0 b.0.0) [] b.0.1 r b.2 in
      record {
        class_at = a.0.0;
        pair_at = b.0.0;
        parts = record {
          grown = grown_trans pool a.0.1 r.1 t.grown (grown_trans a.0.1 b.0.1 r.1 u.grown q.grown);
          short = q.short;
          some = q.some;
          few = q.few;
          means = record {
            there = q.means;
            class_is = class_grown a.0.1 r.1 (grown_trans a.0.1 b.0.1 r.1 u.grown q.grown) a.0.0 class t.means;
            pair_is = pair_grown b.0.1 r.1 q.grown b.0.0 (name, descriptor) u.means;
          };
        };
      }

abbrev pub IsFieldName : MemberName → Pool → ℕ → Type 0
IsFieldName m pool i = field_name pool i ≡ Some m

abbrev pub IsMethodName : MemberName → Pool → ℕ → Type 0
IsMethodName m pool i = method_name pool i ≡ Some m

-- an InterfaceMethodref of this member
pub record IsInterfaceName (m : MemberName) (pool : Pool) (i : ℕ) : Type 0 where
  pub class_at : ℕ
  pub pair_at : ℕ
  pub there : entry pool i ≡ Some (constants.InterfaceMethod class_at pair_at)
  pub means : member_name pool i ≡ Some m

module _ (class name descriptor : List ℕ) (pool : Pool) (r : ℕ × Pool) (short : length pool < 65535) where
  pub field_added : add_field pool class name descriptor ≡ Ok r → Added (IsFieldName (member class name descriptor)) pool r
  field_added e =
      either_added (IsFieldName (member class name descriptor)) (means_member field_parts pool class name descriptor) pool _ r short found
      (λ h. let n = new_made (λ k p. constants.Field k p) class name descriptor pool r short h in let x = n.parts.means.there in let y = n.parts.means.class_is in let z = n.parts.means.pair_is in
      record { grown = n.parts.grown; short = n.parts.short; some = n.parts.some; few = n.parts.few; means = rw (x, y, z) refl }) e
    where
      found : (i : ℕ) (c : Constant) → entry pool (suc i) ≡ Some c → means_member field_parts pool class name descriptor c ≡ true → field_name pool (suc i) ≡ Some (member class name descriptor)
      found i (constants.Field k p) s t = let q = parts_read pool class name descriptor k p t in let y = q.0 in let z = q.1 in rw (s, y, z) refl
      found i c s t = cc

  pub method_added : add_method pool class name descriptor ≡ Ok r → Added (IsMethodName (member class name descriptor)) pool r
  method_added e =
      either_added (IsMethodName (member class name descriptor)) (means_member method_parts pool class name descriptor) pool _ r short found
      (λ h. let n = new_made (λ k p. constants.Method k p) class name descriptor pool r short h in let x = n.parts.means.there in let y = n.parts.means.class_is in let z = n.parts.means.pair_is in
      record { grown = n.parts.grown; short = n.parts.short; some = n.parts.some; few = n.parts.few; means = rw (x, y, z) refl }) e
    where
      found : (i : ℕ) (c : Constant) → entry pool (suc i) ≡ Some c → means_member method_parts pool class name descriptor c ≡ true → method_name pool (suc i) ≡ Some (member class name descriptor)
      found i (constants.Method k p) s t = let q = parts_read pool class name descriptor k p t in let y = q.0 in let z = q.1 in rw (s, y, z) refl
      found i c s t = cc

  pub interface_method_added : add_interface_method pool class name descriptor ≡ Ok r → Added (IsInterfaceName (member class name descriptor)) pool r
  interface_method_added e =
      either_added (IsInterfaceName (member class name descriptor)) (means_member interface_method_parts pool class name descriptor) pool _ r short found
      (λ h. let n = new_made (λ k p. constants.InterfaceMethod k p) class name descriptor pool r short h in let x = n.parts.means.there in let y = n.parts.means.class_is in let z = n.parts.means.pair_is in
      record { grown = n.parts.grown; short = n.parts.short; some = n.parts.some; few = n.parts.few; means = record { class_at = n.class_at; pair_at = n.pair_at; there = x; means = rw (x, y, z) refl } }) e
    where
      found : (i : ℕ) (c : Constant) → entry pool (suc i) ≡ Some c → means_member interface_method_parts pool class name descriptor c ≡ true → IsInterfaceName (member class name descriptor) pool (suc i)
      found i (constants.InterfaceMethod k p) s t = let q = parts_read pool class name descriptor k p t in let y = q.0 in let z = q.1 in record { class_at = k; pair_at = p; there = s; means = rw (s, y, z) refl }
      found i c s t = cc
