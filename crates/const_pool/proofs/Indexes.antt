-- Look-ups in a pool through its index, and indexes of longer and shorter pools.
use Rattle.std.proofs.Common.{◌≡◌, ℕ, zero, suc, ◌+◌, ◌-◌, ◌≤◌, Bool, true, false, ◌&&◌, List, [], ◌∷◌, ◌++◌, length, take, drop, Option, Some, None, Vec, ◌⊎◌, inl, inr, ⊎_elim, refl, sym, ap, subst, ◌∙◌, arith, length-append, leb-true}
use Rattle.std.specs.Prelude.{ℤ, option_map, option_and_then, slice_get, nat_le, position}
use Rattle.std.specs.List.{list_all}
use Rattle.std.specs.BTreeMap.{BTreeMap}
use Rattle.std.proofs.lemmas.List.{take-append-drop, length-take-le, length-take, length-drop, take-append-le}
use Rattle.std.proofs.Math.Seq.{take-length}
use Rattle.std.proofs.lemmas.Bool.Decides.{nat_tests}
use Rattle.jmodel.specs.declared.class_file.Constant.{Constant}
use Rattle.jmodel.specs.declared.class_file.Constant.TheVariants as entries
use Rattle.jmodel.specs.format.ClassFile.{Pool}
use Rattle.jmodel.specs.format.Pool.{both}
use Rattle.jmodel.specs.format.PoolAdding.{means_text, means_class, means_pair, means_member, means_integer, means_long}
use Rattle.const_pool.specs.declared.meanings.Kind.{Kind}
use Rattle.const_pool.specs.declared.keys.Key.{Key}
use Rattle.const_pool.specs.declared.keys.Key.TheVariants.{Integer, Long}
use Rattle.const_pool.specs.declared.index.Index.{Index}
use Rattle.const_pool.specs.Kinds.{parts_of}
use Rattle.const_pool.specs.Firsts.{first, has_key, text_known, key_known, key_of, key_for, name_key, member_key, stays_within, Knows}
use Rattle.const_pool.specs.Indexed.{IsIndexed, class_known, pair_known, member_known, in_order}
use Rattle.const_pool.proofs.FirstLemmas.{position_first}
use Rattle.const_pool.proofs.SameMeaning.{class_by_name, pair_by_names, integer_by_number, long_by_number, member_by_names}
use Rattle.const_pool.proofs.Grown.{IsClosed, found_in_front, found_behind, front_means_class, front_means_pair, front_means_member, names_in_front, members_in_front}

-- an index without entries
pub knows_none : {A : Type 0} (texts : BTreeMap (Vec ℕ A) ℕ) (names members : BTreeMap Key ℕ) → texts.entries ≡ [] → names.entries ≡ [] → members.entries ≡ [] → Knows (text_known texts) (key_known names) (key_known members) []
knows_none texts names members t n m = record {
  names = record { texts = λ q. rw t refl; names = λ k. rw n refl };
  members = λ k. rw m refl;
  closed = λ i c h. absurd cc;
}

more_within : (a b : ℕ) → a ≤ b → (c : Constant) → stays_within a c ≡ true → stays_within b c ≡ true
more_within a b le c = by_entry c where
  one : (n : ℕ) → nat_le n a ≡ true → nat_le n b ≡ true
  one n h = let m : n ≤ a = leb-true n a h in grind (arith, nat_tests)

  two : (n m : ℕ) → (nat_le n a && nat_le m a) ≡ true → (nat_le n b && nat_le m b) ≡ true
  two n m h = by_first (nat_le n a) refl h where
    by_first : (t : Bool) → nat_le n a ≡ t → (t && nat_le m a) ≡ true → (nat_le n b && nat_le m b) ≡ true
    by_first true e g = rw (one n e, one m g) refl
    by_first false e g = absurd cc

  by_entry : (c : Constant) → stays_within a c ≡ true → stays_within b c ≡ true
  by_entry (entries.Class n) h = one n h
  by_entry (entries.NameAndType n d) h = two n d h
  by_entry (entries.Field n d) h = two n d h
  by_entry (entries.Method n d) h = two n d h
  by_entry (entries.InterfaceMethod n d) h = two n d h
  by_entry c h = refl

all_at : (p : Constant → Bool) (xs : Pool) (i : ℕ) (c : Constant) → list_all p xs ≡ true → slice_get xs i ≡ Some c → p c ≡ true
all_at p [] i c h s = absurd cc
all_at p (x ∷ xs) i c h s = by_test (p x) refl h i s (λ g j t. all_at p xs j c g t) where
  by_test : (b : Bool) → p x ≡ b → (b && list_all p xs) ≡ true → (i : ℕ) → slice_get (x ∷ xs) i ≡ Some c → (list_all p xs ≡ true → (j : ℕ) → slice_get xs j ≡ Some c → p c ≡ true) → p c ≡ true
  by_test true e g zero t rest = let one : x ≡ c = cc in ap p (sym one) ∙ e
  by_test true e g (suc j) t rest = rest g j t
  by_test false e g j t rest = absurd cc

either : (xs ys : Pool) (i : ℕ) (c : Constant) → slice_get (xs ++ ys) i ≡ Some c → (slice_get xs i ≡ Some c) ⊎ ((k : ℕ) × (slice_get ys k ≡ Some c))
either [] ys i c h = inr (i, h)
either (x ∷ xs) ys zero c h = inl h
either (x ∷ xs) ys (suc i) c h = either xs ys i c h

module _ (index : Index) (pool : Pool) (h : IsIndexed index pool) where
  abbrev F : Pool
  F = take index.count pool

  abbrev T : Pool
  T = drop index.count pool

  whole : F ++ T ≡ pool
  whole = take-append-drop index.count pool

  front_length : length F ≡ index.count
  front_length = length-take-le index.count pool h.within

  pub names_so_far : (k : Key) → key_known index.names k ≡ first (λ c. has_key k (name_key pool c)) F
  names_so_far k = h.front.names.names k ∙ sym (names_in_front F T h.front.closed k) ∙ ap (λ p. first (λ c. has_key k (name_key p c)) F) whole

  pub members_so_far : (k : Key) → key_known index.members k ≡ first (λ c. has_key k (member_key pool c)) F
  members_so_far k = h.front.members k ∙ sym (members_in_front F T h.front.closed k) ∙ ap (λ p. first (λ c. has_key k (member_key p c)) F) whole

  pub all_closed : list_all (stays_within (length pool)) T ≡ true → IsClosed pool
  all_closed all i c s =
      let there : slice_get (F ++ T) i ≡ Some c = ap (λ p. slice_get p i) whole ∙ s in
      let le : length F ≤ length pool = omega (arith, front_length, h.within) in
      ⊎_elim (λ e. more_within (length F) (length pool) le c (h.front.closed i c e)) (λ e. all_at (stays_within (length pool)) T e.0 c all e.1) (either F T i c there)

  -- ---- a longer and a shorter pool

  pub indexed_longer : (more : Pool) → IsIndexed index (pool ++ more)
  indexed_longer more = record {
    within = omega (arith, h.within, length-append pool more);
    front = subst (λ p. Knows (text_known index.texts) (key_known index.names) (key_known index.members) p) (sym (take-append-le index.count pool more h.within)) h.front;
  }

  pub indexed_shorter : (n : ℕ) → index.count ≤ n → IsIndexed index (take n pool)
  indexed_shorter n le =
      let there : index.count ≤ length (take n pool) = omega (arith, h.within, length-take n pool) in
      let same : take index.count pool ≡ take index.count (take n pool) = ap (take index.count) (sym (take-append-drop n pool)) ∙ take-append-le index.count (take n pool) (drop n pool) there in
      record {
        within = there;
        front = subst (λ p. Knows (text_known index.texts) (key_known index.names) (key_known index.members) p) same h.front;
      }

  -- ---- look-ups

  module _ (P : Pool → Constant → Bool) (same : (c : Constant) → stays_within (length F) c ≡ true → P (F ++ T) c ≡ P F c) where
    by_known : (o : Option ℕ) → first (P F) F ≡ o → position (P (F ++ T)) (F ++ T) ≡ in_order (length F) o (position (P (F ++ T)) T)
    by_known (Some j) e = position_first (P (F ++ T)) (F ++ T) ∙ found_in_front F T h.front.closed (P F) (P (F ++ T)) same j e
    by_known None e = position_first (P (F ++ T)) (F ++ T) ∙ found_behind F T h.front.closed (P F) (P (F ++ T)) same e ∙ ap (option_map (λ n. length F + n)) (sym (position_first (P (F ++ T)) T))

    looked_up : (o : Option ℕ) → o ≡ first (P F) F → position (P pool) pool ≡ in_order index.count o (position (P pool) T)
    looked_up o e = subst (λ p. position (P p) p ≡ in_order index.count o (position (P p) T)) whole (by_known o (sym e) ∙ ap (λ n. in_order n o (position (P (F ++ T)) T)) front_length)

  pub text_looked_up : (t : List ℕ) → position (means_text t) pool ≡ in_order index.count (text_known index.texts t) (position (means_text t) T)
  text_looked_up t = looked_up (λ _. means_text t) (λ c g. refl) (text_known index.texts t) (h.front.names.texts t)

  pub integer_looked_up : (n : ℤ) → position (means_integer n) pool ≡ in_order index.count (key_known index.names (Integer n)) (position (means_integer n) T)
  integer_looked_up n = looked_up (λ _. means_integer n) (λ c g. refl) (key_known index.names (Integer n)) (integer_by_number (text_known index.texts) (key_known index.names) F h.front.names n)

  pub long_looked_up : (n : ℤ) → position (means_long n) pool ≡ in_order index.count (key_known index.names (Long n)) (position (means_long n) T)
  long_looked_up n = looked_up (λ _. means_long n) (λ c g. refl) (key_known index.names (Long n)) (long_by_number (text_known index.texts) (key_known index.names) F h.front.names n)

  class_is : (name : List ℕ) → class_known index name ≡ first (means_class F name) F
  class_is name = class_by_name (text_known index.texts) (key_known index.names) F h.front.names name

  pair_is : (n d : List ℕ) → pair_known index n d ≡ first (means_pair F n d) F
  pair_is n d = pair_by_names (text_known index.texts) (key_known index.names) F h.front.names n d

  pub class_looked_up : (name : List ℕ) → position (means_class pool name) pool ≡ in_order index.count (class_known index name) (position (means_class pool name) T)
  class_looked_up name = looked_up (λ p. means_class p name) (front_means_class F T h.front.closed name) (class_known index name) (class_is name)

  pub pair_looked_up : (n d : List ℕ) → position (means_pair pool n d) pool ≡ in_order index.count (pair_known index n d) (position (means_pair pool n d) T)
  pair_looked_up n d = looked_up (λ p. means_pair p n d) (front_means_pair F T h.front.closed n d) (pair_known index n d) (pair_is n d)

  pub member_looked_up : (kind : Kind) (class n d : List ℕ) → position (means_member (parts_of kind) pool class n d) pool ≡ in_order index.count (member_known index kind class n d) (position (means_member (parts_of kind) pool class n d) T)
  member_looked_up kind class n d =
      let is : member_known index kind class n d ≡ first (means_member (parts_of kind) F class n d) F =
      ap (λ o. option_and_then (key_known index.members) (key_of (key_for kind) (both o (pair_known index n d)))) (class_is class)
      ∙ ap (λ o. option_and_then (key_known index.members) (key_of (key_for kind) (both (first (means_class F class) F) o))) (pair_is n d)
      ∙ member_by_names (text_known index.texts) (key_known index.names) F h.front.names (key_known index.members) h.front.members kind class n d in
      looked_up (λ p. means_member (parts_of kind) p class n d) (front_means_member F T h.front.closed kind class n d) (member_known index kind class n d) is

-- an index of all the entries
pub whole_indexed : (index : Index) (pool : Pool) → index.count ≡ length pool → Knows (text_known index.texts) (key_known index.names) (key_known index.members) pool → IsIndexed index pool
whole_indexed index pool all known = record {
  within = omega (arith, all);
  front = subst (λ p. Knows (text_known index.texts) (key_known index.names) (key_known index.members) p) (sym (ap (λ n. take n pool) all ∙ take-length pool)) known;
}

-- the answer of a look-up is the first place in the pool
pub joined : (P : Constant → Bool) (pool entries : Pool) (n m k : ℕ) (o p r known : Option ℕ) → r ≡ in_order m o p → m ≡ k → n ≡ k → entries ≡ pool → p ≡ position P (take (length entries - n) (drop n entries)) → o ≡ known → position P pool ≡ in_order k known (position P (drop k pool)) → r ≡ position P pool
joined P pool entries n m k o p r known hr hm hn he hp ho h =
    let rest : take (length entries - n) (drop n entries) ≡ drop k pool =
    ap (λ j. take j (drop n entries)) (sym (length-drop n entries)) ∙ take-length (drop n entries) ∙ ap (λ j. drop j entries) hn ∙ ap (drop k) he in
    hr
    ∙ ap (λ j. in_order j o p) hm
    ∙ ap (λ q. in_order k q p) ho
    ∙ ap (in_order k known) (hp ∙ ap (position P) rest)
    ∙ sym h
