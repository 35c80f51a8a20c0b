-- Entries that name none behind the end mean the same in a longer pool.
use Rattle.std.proofs.Common.{◌≡◌, ℕ, zero, suc, ◌+◌, ◌<◌, ◌≤◌, Bool, true, false, ◌&&◌, List, [], ◌∷◌, ◌++◌, length, Option, Some, None, refl, sym, ap, ◌∙◌, arith, leb-true}
use Rattle.std.specs.Prelude.{option_map, option_and_then, slice_get, nat_le}
use Rattle.jmodel.specs.declared.class_file.Constant.{Constant}
use Rattle.jmodel.specs.declared.class_file.Constant.TheVariants as entries
use Rattle.jmodel.specs.format.ClassFile.{Pool}
use Rattle.jmodel.specs.format.Pool.{entry, text_in, utf8, name_in, class_name, pair_in, pair}
use Rattle.jmodel.specs.format.ClassRules.{same_text}
use Rattle.jmodel.specs.format.PoolAdding.{means_text, means_class, means_pair, pair_means, parts_mean, means_member}
use Rattle.const_pool.specs.declared.meanings.Kind.{Kind}
use Rattle.const_pool.specs.declared.meanings.Kind.TheVariants as kinds
use Rattle.const_pool.specs.declared.keys.Key.{Key}
use Rattle.const_pool.specs.declared.keys.Key.TheVariants.{Class}
use Rattle.const_pool.specs.Kinds.{parts_of}
use Rattle.const_pool.specs.Firsts.{first, has_key, text_place, class_place, pair_place, name_key, member_key, stays_within}
use Rattle.const_pool.proofs.FirstLemmas.{first_stays, first_behind, first_congr}
use Rattle.const_pool.proofs.SameMeaning.{has_text, has_class, has_pair}

both_true : (a b : Bool) → (a && b) ≡ true → (a ≡ true) × (b ≡ true)
both_true true b h = (refl, h)
both_true false b h = absurd cc

front_get : (xs ys : Pool) (i : ℕ) → i < length xs → slice_get (xs ++ ys) i ≡ slice_get xs i
front_get [] ys i h = absurd (omega arith)
front_get (x ∷ xs) ys zero h = refl
front_get (x ∷ xs) ys (suc i) h = front_get xs ys i (omega arith)

abbrev pub IsClosed : Pool → Type 0
IsClosed pool = (i : ℕ) (c : Constant) → slice_get pool i ≡ Some c → stays_within (length pool) c ≡ true

module _ (F T : Pool) (closed : IsClosed F) where
  front_entry : (i : ℕ) → nat_le i (length F) ≡ true → entry (F ++ T) i ≡ entry F i
  front_entry zero h = refl
  front_entry (suc i) h = let le : suc i ≤ length F = leb-true (suc i) (length F) h in front_get F T i (omega arith)

  front_text : (i : ℕ) → nat_le i (length F) ≡ true → utf8 (F ++ T) i ≡ utf8 F i
  front_text i h = ap (option_and_then text_in) (front_entry i h)

  -- an entry of the front names entries of the front
  entry_closed : (i : ℕ) (c : Constant) → entry F i ≡ Some c → stays_within (length F) c ≡ true
  entry_closed zero c h = absurd cc
  entry_closed (suc i) c h = closed i c h

  front_class : (i : ℕ) → nat_le i (length F) ≡ true → class_name (F ++ T) i ≡ class_name F i
  front_class i h = ap (option_and_then (name_in (F ++ T))) (front_entry i h) ∙ by_entry (entry F i) (λ c. entry_closed i c) where
    by_entry : (o : Option Constant) → ((c : Constant) → o ≡ Some c → stays_within (length F) c ≡ true) → option_and_then (name_in (F ++ T)) o ≡ option_and_then (name_in F) o
    by_entry None g = refl
    by_entry (Some (entries.Class n)) g = front_text n (g (entries.Class n) refl)
    by_entry (Some c) g = refl

  front_pair : (i : ℕ) → nat_le i (length F) ≡ true → pair (F ++ T) i ≡ pair F i
  front_pair i h = ap (option_and_then (pair_in (F ++ T))) (front_entry i h) ∙ by_entry (entry F i) (λ c. entry_closed i c) where
    by_entry : (o : Option Constant) → ((c : Constant) → o ≡ Some c → stays_within (length F) c ≡ true) → option_and_then (pair_in (F ++ T)) o ≡ option_and_then (pair_in F) o
    by_entry None g = refl
    by_entry (Some (entries.NameAndType n d)) g = let b = both_true (nat_le n (length F)) (nat_le d (length F)) (g (entries.NameAndType n d) refl) in rw (front_text n b.0, front_text d b.1) refl
    by_entry (Some c) g = refl

  pub front_means_class : (t : List ℕ) (c : Constant) → stays_within (length F) c ≡ true → means_class (F ++ T) t c ≡ means_class F t c
  front_means_class t (entries.Class n) h = ap (λ o. same_text o t) (front_text n h)
  front_means_class t c h = refl

  pub front_means_pair : (t d : List ℕ) (c : Constant) → stays_within (length F) c ≡ true → means_pair (F ++ T) t d c ≡ means_pair F t d c
  front_means_pair t d (entries.NameAndType a b) h = let e = both_true (nat_le a (length F)) (nat_le b (length F)) h in rw (front_text a e.0, front_text b e.1) refl
  front_means_pair t d c h = refl

  front_pair_means : (t d : List ℕ) (i : ℕ) → nat_le i (length F) ≡ true → pair_means (entry (F ++ T) i) (F ++ T) t d ≡ pair_means (entry F i) F t d
  front_pair_means t d i h = ap (λ o. pair_means o (F ++ T) t d) (front_entry i h) ∙ by_entry (entry F i) (λ c. entry_closed i c) where
    by_entry : (o : Option Constant) → ((c : Constant) → o ≡ Some c → stays_within (length F) c ≡ true) → pair_means o (F ++ T) t d ≡ pair_means o F t d
    by_entry None g = refl
    by_entry (Some c) g = front_means_pair t d c (g c refl)

  front_parts : (class t d : List ℕ) (a b : ℕ) → (nat_le a (length F) && nat_le b (length F)) ≡ true → parts_mean (Some (a, b)) (F ++ T) class t d ≡ parts_mean (Some (a, b)) F class t d
  front_parts class t d a b h = let e = both_true (nat_le a (length F)) (nat_le b (length F)) h in rw (front_class a e.0, front_pair_means t d b e.1) refl

  pub front_means_member : (kind : Kind) (class t d : List ℕ) (c : Constant) → stays_within (length F) c ≡ true → means_member (parts_of kind) (F ++ T) class t d c ≡ means_member (parts_of kind) F class t d c
  front_means_member kinds.Field class t d (entries.Field a b) h = front_parts class t d a b h
  front_means_member kinds.Method class t d (entries.Method a b) h = front_parts class t d a b h
  front_means_member kinds.InterfaceMethod class t d (entries.InterfaceMethod a b) h = front_parts class t d a b h
  front_means_member kinds.Field class t d c h = refl
  front_means_member kinds.Method class t d c h = refl
  front_means_member kinds.InterfaceMethod class t d c h = refl

  -- ---- first places and keys

  -- a first place in the front stays so, for a test that entries of the front answer as before
  module _ (p q : Constant → Bool) (same : (c : Constant) → stays_within (length F) c ≡ true → q c ≡ p c) where
    in_front : first q F ≡ first p F
    in_front = first_congr q p F (λ i c s. same c (closed i c s))

    pub found_in_front : (j : ℕ) → first p F ≡ Some j → first q (F ++ T) ≡ Some j
    found_in_front j h = first_stays q F T j (in_front ∙ h)

    pub found_behind : first p F ≡ None → first q (F ++ T) ≡ option_map (λ n. length F + n) (first q T)
    found_behind h = first_behind q F T (in_front ∙ h)

  text_place_front : (i : ℕ) → nat_le i (length F) ≡ true → text_place (F ++ T) i ≡ text_place F i
  text_place_front i h = ap (option_and_then (λ t. first (means_text t) (F ++ T))) (front_text i h) ∙ by_text (utf8 F i) (has_text F i) where
    by_text : (o : Option (List ℕ)) → ((x : List ℕ) → o ≡ Some x → (j : ℕ) × (first (means_text x) F ≡ Some j)) → option_and_then (λ t. first (means_text t) (F ++ T)) o ≡ option_and_then (λ t. first (means_text t) F) o
    by_text None g = refl
    by_text (Some t) g = let f = g t refl in first_stays (means_text t) F T f.0 f.1 ∙ sym f.1

  class_place_front : (i : ℕ) → nat_le i (length F) ≡ true → class_place (F ++ T) i ≡ class_place F i
  class_place_front i h = ap (option_and_then (λ t. first (means_class (F ++ T) t) (F ++ T))) (front_class i h) ∙ by_name (class_name F i) (has_class F i) where
    by_name : (o : Option (List ℕ)) → ((x : List ℕ) → o ≡ Some x → (j : ℕ) × (first (means_class F x) F ≡ Some j)) → option_and_then (λ t. first (means_class (F ++ T) t) (F ++ T)) o ≡ option_and_then (λ t. first (means_class F t) F) o
    by_name None g = refl
    by_name (Some t) g = let f = g t refl in found_in_front (means_class F t) (means_class (F ++ T) t) (front_means_class t) f.0 f.1 ∙ sym f.1

  pair_place_front : (i : ℕ) → nat_le i (length F) ≡ true → pair_place (F ++ T) i ≡ pair_place F i
  pair_place_front i h = ap (option_and_then (λ p. first (means_pair (F ++ T) p.0 p.1) (F ++ T))) (front_pair i h) ∙ by_names (pair F i) (has_pair F i) where
    by_names : (o : Option (List ℕ × List ℕ)) → ((x : List ℕ × List ℕ) → o ≡ Some x → (j : ℕ) × (first (means_pair F x.0 x.1) F ≡ Some j)) → option_and_then (λ p. first (means_pair (F ++ T) p.0 p.1) (F ++ T)) o ≡ option_and_then (λ p. first (means_pair F p.0 p.1) F) o
    by_names None g = refl
    by_names (Some p) g = let f = g p refl in found_in_front (means_pair F p.0 p.1) (means_pair (F ++ T) p.0 p.1) (front_means_pair p.0 p.1) f.0 f.1 ∙ sym f.1

  pub name_key_front : (c : Constant) → stays_within (length F) c ≡ true → name_key (F ++ T) c ≡ name_key F c
  name_key_front (entries.Class n) h = ap (option_map Class) (text_place_front n h)
  name_key_front (entries.NameAndType a b) h = let e = both_true (nat_le a (length F)) (nat_le b (length F)) h in rw (text_place_front a e.0, text_place_front b e.1) refl
  name_key_front c h = refl

  pub member_key_front : (c : Constant) → stays_within (length F) c ≡ true → member_key (F ++ T) c ≡ member_key F c
  member_key_front (entries.Field a b) h = let e = both_true (nat_le a (length F)) (nat_le b (length F)) h in rw (class_place_front a e.0, pair_place_front b e.1) refl
  member_key_front (entries.Method a b) h = let e = both_true (nat_le a (length F)) (nat_le b (length F)) h in rw (class_place_front a e.0, pair_place_front b e.1) refl
  member_key_front (entries.InterfaceMethod a b) h = let e = both_true (nat_le a (length F)) (nat_le b (length F)) h in rw (class_place_front a e.0, pair_place_front b e.1) refl
  member_key_front c h = refl

  -- the first places by keys are those of the longer pool
  pub names_in_front : (k : Key) → first (λ c. has_key k (name_key (F ++ T) c)) F ≡ first (λ c. has_key k (name_key F c)) F
  names_in_front k = first_congr _ _ F (λ i c s. ap (has_key k) (name_key_front c (closed i c s)))

  pub members_in_front : (k : Key) → first (λ c. has_key k (member_key (F ++ T) c)) F ≡ first (λ c. has_key k (member_key F c)) F
  members_in_front k = first_congr _ _ F (λ i c s. ap (has_key k) (member_key_front c (closed i c s)))
