-- Entries have a key exactly where they mean what the key was made of.
use Rattle.std.proofs.Common.{◌≡◌, ℕ, zero, suc, Bool, true, false, ◌&&◌, List, Option, Some, None, refl, sym, ap, ◌∙◌}
use Rattle.std.specs.Prelude.{bytes_eq, nat_eq, option_map, option_and_then, slice_get}
use Rattle.std.proofs.lemmas.Bool.{eqb-true, eq-eqb}
use Rattle.jmodel.specs.declared.class_file.Constant.{Constant}
use Rattle.jmodel.specs.declared.class_file.Constant.TheVariants as entries
use Rattle.jmodel.specs.format.ClassFile.{Pool}
use Rattle.jmodel.specs.format.Pool.{entry, text_in, utf8, name_in, class_name, pair_in, pair, both}
use Rattle.jmodel.specs.format.ClassRules.{same_text}
use Rattle.jmodel.specs.format.PoolAdding.{means_text, means_class, means_pair, pair_means, means_member, means_integer, means_long}
use Rattle.const_pool.specs.declared.meanings.Kind.{Kind}
use Rattle.const_pool.specs.declared.meanings.Kind.TheVariants as kinds
use Rattle.const_pool.specs.declared.keys.Key.{Key}
use Rattle.const_pool.specs.declared.keys.Key.TheVariants.{Integer, Long, Class, Pair, Field, Method, InterfaceMethod}
use Rattle.const_pool.specs.Kinds.{parts_of}
use Rattle.const_pool.specs.Firsts.{first, same_key, has_key, text_place, class_place, pair_place, key_of, key_for, name_key, member_key, KnowsNames}
use Rattle.const_pool.proofs.TextTests.{same_bytes, equal_bytes}
use Rattle.const_pool.proofs.FirstLemmas.{first_stands, first_is, first_none, first_congr}

-- whether two places are there and the same
abbrev same_place : Option ℕ → Option ℕ → Bool
same_place None o = false
same_place (Some a) None = false
same_place (Some a) (Some b) = nat_eq b a

abbrev is_same : Option Key → Option Key → Bool
is_same None l = false
is_same (Some k) l = has_key k l

itself : (n : ℕ) → nat_eq n n ≡ true
itself n = eq-eqb n n refl

-- ---- first places are the same where the meanings are

module _ {N : Type 0} (P : N → Constant → Bool) (same : Option N → N → Bool) (nothing : (x : N) → same None x ≡ false) (is : (x y : N) → same (Some y) x ≡ true → y ≡ x) (one : (c : Constant) (x y : N) → P x c ≡ true → P y c ≡ true → same (Some y) x ≡ true) (F : Pool) where
  places : (o : Option N) (x : N) → ((y : N) → o ≡ Some y → (j : ℕ) × (first (P y) F ≡ Some j)) → same_place (first (P x) F) (option_and_then (λ y. first (P y) F) o) ≡ same o x
  places None x present = no_place (first (P x) F) ∙ sym (nothing x) where
    no_place : (o : Option ℕ) → same_place o None ≡ false
    no_place None = refl
    no_place (Some n) = refl
  places (Some y) x present = by_place (present y refl) where
    by_other : (j : ℕ) → first (P y) F ≡ Some j → (o : Option ℕ) → first (P x) F ≡ o → same (Some y) x ≡ false → same_place o (Some j) ≡ false
    by_other j e None f n = refl
    by_other j e (Some k) f n = by_number (nat_eq j k) refl where
      by_number : (b : Bool) → nat_eq j k ≡ b → nat_eq j k ≡ false
      by_number false g = g
      by_number true g =
          let at_y = first_stands (P y) F j e in
          let at_x = first_stands (P x) F k f in
          let n1 : j ≡ k = eqb-true j k g in
          let c1 : at_y.0 ≡ at_x.0 = cc (at_y.1, at_x.1) in
          let both_pass : P x at_y.0 ≡ true = ap (P x) c1 ∙ at_x.2 in
          let yes = one at_y.0 x y both_pass at_y.2 in
          absurd cc

    by_test : (j : ℕ) → first (P y) F ≡ Some j → (b : Bool) → same (Some y) x ≡ b → same_place (first (P x) F) (Some j) ≡ same (Some y) x
    by_test j e true t = let yx : y ≡ x = is x y t in let f : first (P x) F ≡ Some j = ap (λ z. first (P z) F) (sym yx) ∙ e in rw (f, t) (itself j)
    by_test j e false t = by_other j e (first (P x) F) refl t ∙ sym t

    by_place : (j : ℕ) × (first (P y) F ≡ Some j) → same_place (first (P x) F) (first (P y) F) ≡ same (Some y) x
    by_place p = rw p.1 (by_test p.0 p.1 (same (Some y) x) refl)

-- ---- texts

one_text : (c : Constant) (x y : List ℕ) → means_text x c ≡ true → means_text y c ≡ true → same_text (Some y) x ≡ true
one_text (entries.Utf8 t) x y p q = let a = same_bytes t x p in let b = same_bytes t y q in let e : y ≡ x = sym b ∙ a in ap (bytes_eq y) (sym e) ∙ equal_bytes y
one_text c x y p q = absurd cc

is_text : (c : Constant) (x : List ℕ) → text_in c ≡ Some x → means_text x c ≡ true
is_text (entries.Utf8 t) x h = let e : t ≡ x = cc in ap (λ z. bytes_eq t z) (sym e) ∙ equal_bytes t
is_text c x h = absurd cc

-- what stands at an index of which something is known
stands : {X : Type 0} (f : Constant → Option X) (F : Pool) (i : ℕ) (x : X) → option_and_then f (entry F i) ≡ Some x → (n : ℕ) × (c : Constant) × (slice_get F n ≡ Some c) × (f c ≡ Some x)
stands f F zero x h = absurd cc
stands {X = X} f F (suc n) x h = by_entry (slice_get F n) refl h where
  by_entry : (o : Option Constant) → slice_get F n ≡ o → option_and_then f o ≡ Some x → (n : ℕ) × (c : Constant) × (slice_get F n ≡ Some c) × (f c ≡ Some x)
  by_entry None e g = absurd cc
  by_entry (Some c) e g = (n, c, e, g)

pub has_text : (F : Pool) (i : ℕ) (x : List ℕ) → utf8 F i ≡ Some x → (j : ℕ) × (first (means_text x) F ≡ Some j)
has_text F i x h = let s = stands text_in F i x h in first_is (means_text x) F s.0 s.1 s.2 (is_text s.1 x s.3)

text_places : (F : Pool) (i : ℕ) (x : List ℕ) → same_place (first (means_text x) F) (text_place F i) ≡ same_text (utf8 F i) x
text_places F i x = places means_text same_text (λ _. refl) (λ x y. same_bytes y x) one_text F (utf8 F i) x (λ y. has_text F i y)

-- ---- classes

one_class : (F : Pool) (c : Constant) (x y : List ℕ) → means_class F x c ≡ true → means_class F y c ≡ true → same_text (Some y) x ≡ true
one_class F (entries.Class n) x y p q = by_name (utf8 F n) p q where
  by_name : (o : Option (List ℕ)) → same_text o x ≡ true → same_text o y ≡ true → same_text (Some y) x ≡ true
  by_name None a b = absurd cc
  by_name (Some t) a b = let e : y ≡ x = sym (same_bytes t y b) ∙ same_bytes t x a in ap (bytes_eq y) (sym e) ∙ equal_bytes y
one_class F c x y p q = absurd cc

is_class : (F : Pool) (c : Constant) (x : List ℕ) → name_in F c ≡ Some x → means_class F x c ≡ true
is_class F (entries.Class n) x h = rw h (equal_bytes x)
is_class F c x h = absurd cc

pub has_class : (F : Pool) (i : ℕ) (x : List ℕ) → class_name F i ≡ Some x → (j : ℕ) × (first (means_class F x) F ≡ Some j)
has_class F i x h = let s = stands (name_in F) F i x h in first_is (means_class F x) F s.0 s.1 s.2 (is_class F s.1 x s.3)

class_places : (F : Pool) (i : ℕ) (x : List ℕ) → same_place (first (means_class F x) F) (class_place F i) ≡ same_text (class_name F i) x
class_places F i x = places (means_class F) same_text (λ _. refl) (λ x y. same_bytes y x) (one_class F) F (class_name F i) x (λ y. has_class F i y)

-- ---- pairs

abbrev same_pair : Option (List ℕ × List ℕ) → List ℕ × List ℕ → Bool
same_pair None p = false
same_pair (Some q) p = bytes_eq q.0 p.0 && bytes_eq q.1 p.1

both_true : (a b : Bool) → (a && b) ≡ true → (a ≡ true) × (b ≡ true)
both_true true b h = (refl, h)
both_true false b h = absurd cc

abbrev pair_test : Pool → List ℕ × List ℕ → Constant → Bool
pair_test F p c = means_pair F p.0 p.1 c

same_pair_is : (x y : List ℕ × List ℕ) → same_pair (Some y) x ≡ true → y ≡ x
same_pair_is x y h = let b = both_true (bytes_eq y.0 x.0) (bytes_eq y.1 x.1) h in let p = same_bytes y.0 x.0 b.0 in let q = same_bytes y.1 x.1 b.1 in let one : (y.0, y.1) ≡ (x.0, y.1) = ap (λ z. (z, y.1)) p in let two : (x.0, y.1) ≡ (x.0, x.1) = ap (λ z. (x.0, z)) q in one ∙ two

one_pair : (F : Pool) (c : Constant) (x y : List ℕ × List ℕ) → pair_test F x c ≡ true → pair_test F y c ≡ true → same_pair (Some y) x ≡ true
one_pair F (entries.NameAndType n d) x y p q =
    let a = both_true (same_text (utf8 F n) x.0) (same_text (utf8 F d) x.1) p in
    let b = both_true (same_text (utf8 F n) y.0) (same_text (utf8 F d) y.1) q in
    rw (one_class F (entries.Class n) x.0 y.0 a.0 b.0, one_class F (entries.Class d) x.1 y.1 a.1 b.1) refl
one_pair F c x y p q = absurd cc

is_pair : (F : Pool) (c : Constant) (x : List ℕ × List ℕ) → pair_in F c ≡ Some x → pair_test F x c ≡ true
is_pair F (entries.NameAndType n d) x h = by_names (utf8 F n) (utf8 F d) h where
  by_names : (a b : Option (List ℕ)) → both a b ≡ Some x → (same_text a x.0 && same_text b x.1) ≡ true
  by_names (Some a) (Some b) g = let e : (a, b) ≡ x = cc in rw (← e) (rw (equal_bytes a) (equal_bytes b))
  by_names a b g = absurd cc
is_pair F c x h = absurd cc

pub has_pair : (F : Pool) (i : ℕ) (x : List ℕ × List ℕ) → pair F i ≡ Some x → (j : ℕ) × (first (pair_test F x) F ≡ Some j)
has_pair F i x h = let s = stands (pair_in F) F i x h in first_is (pair_test F x) F s.0 s.1 s.2 (is_pair F s.1 x s.3)

pair_said : (F : Pool) (i : ℕ) (n d : List ℕ) → same_pair (pair F i) (n, d) ≡ pair_means (entry F i) F n d
pair_said F i n d = by_entry (entry F i) where
  by_names : (a b : Option (List ℕ)) → same_pair (both a b) (n, d) ≡ (same_text a n && same_text b d)
  by_names (Some a) (Some b) = refl
  by_names (Some a) None = no (bytes_eq a n) where
    no : (b : Bool) → false ≡ (b && false)
    no true = refl
    no false = refl
  by_names None b = refl

  by_entry : (o : Option Constant) → same_pair (option_and_then (pair_in F) o) (n, d) ≡ pair_means o F n d
  by_entry None = refl
  by_entry (Some (entries.NameAndType a b)) = by_names (utf8 F a) (utf8 F b)
  by_entry (Some c) = refl

pair_places : (F : Pool) (i : ℕ) (n d : List ℕ) → same_place (first (means_pair F n d) F) (pair_place F i) ≡ pair_means (entry F i) F n d
pair_places F i n d = places (pair_test F) same_pair (λ _. refl) same_pair_is (one_pair F) F (pair F i) (n, d) (λ y. has_pair F i y) ∙ pair_said F i n d

-- ---- keys

-- nothing has no key
no_key : (o : Option Key) → is_same o None ≡ false
no_key None = refl
no_key (Some k) = refl

of_one : (a b : Option ℕ) → is_same (option_map Class a) (option_map Class b) ≡ same_place a b
of_one None b = refl
of_one (Some a) None = refl
of_one (Some a) (Some b) = refl

of_two : (make : ℕ → ℕ → Key) → ((a b c d : ℕ) → same_key (make c d) (make a b) ≡ (nat_eq c a && nat_eq d b)) → (a b c d : Option ℕ) → is_same (key_of make (both a b)) (key_of make (both c d)) ≡ (same_place a c && same_place b d)
of_two make h (Some a) (Some b) (Some c) (Some d) = h a b c d
of_two make h (Some a) (Some b) (Some c) None = no (nat_eq c a) where
  no : (b : Bool) → false ≡ (b && false)
  no true = refl
  no false = refl
of_two make h (Some a) (Some b) None d = refl
of_two make h (Some a) None c d = no (same_place (Some a) c) where
  no : (b : Bool) → false ≡ (b && false)
  no true = refl
  no false = refl
of_two make h None b c d = refl

-- keys of two kinds
of_others : (l : Option Key) (make : ℕ → ℕ → Key) → ((a b : ℕ) → has_key (make a b) l ≡ false) → (o : Option (ℕ × ℕ)) → is_same (key_of make o) l ≡ false
of_others l make h None = refl
of_others l make h (Some p) = h p.0 p.1

of_other : (l : Option Key) → ((a : ℕ) → has_key (Class a) l ≡ false) → (o : Option ℕ) → is_same (option_map Class o) l ≡ false
of_other l h None = refl
of_other l h (Some a) = h a

not_class : (k : Key) → ((a : ℕ) → same_key (Class a) k ≡ false) → (o : Option ℕ) → has_key k (option_map Class o) ≡ false
not_class k h None = refl
not_class k h (Some a) = h a

not_key : (k : Key) (make : ℕ → ℕ → Key) → ((a b : ℕ) → same_key (make a b) k ≡ false) → (o : Option (ℕ × ℕ)) → has_key k (key_of make o) ≡ false
not_key k make h None = refl
not_key k make h (Some p) = h p.0 p.1

-- a look-up by a key that may be none
looked_up : (key : Constant → Option Key) (F : Pool) (o : Option Key) → option_and_then (λ k. first (λ c. has_key k (key c)) F) o ≡ first (λ c. is_same o (key c)) F
looked_up key F None = sym (first_none (λ c. false) F (λ _. refl))
looked_up key F (Some k) = refl

class_key : (F : Pool) (name : List ℕ) (c : Constant) → is_same (option_map Class (first (means_text name) F)) (name_key F c) ≡ means_class F name c
class_key F name (entries.Class n) = of_one (first (means_text name) F) (text_place F n) ∙ text_places F n name
class_key F name (entries.NameAndType n d) = of_other (name_key F (entries.NameAndType n d)) (λ a. not_key (Class a) Pair (λ _ _. refl) (both (text_place F n) (text_place F d))) (first (means_text name) F)
class_key F name (entries.Integer n) = of_other (Some (Integer n)) (λ a. refl) (first (means_text name) F)
class_key F name (entries.Long n) = of_other (Some (Long n)) (λ a. refl) (first (means_text name) F)
class_key F name c = no_key (option_map Class (first (means_text name) F))

pair_key : (F : Pool) (n d : List ℕ) (c : Constant) → is_same (key_of Pair (both (first (means_text n) F) (first (means_text d) F))) (name_key F c) ≡ means_pair F n d c
pair_key F n d (entries.NameAndType a b) = of_two Pair (λ _ _ _ _. refl) (first (means_text n) F) (first (means_text d) F) (text_place F a) (text_place F b) ∙ rw (text_places F a n, text_places F b d) refl
pair_key F n d (entries.Class a) = of_others (name_key F (entries.Class a)) Pair (λ x y. not_class (Pair x y) (λ _. refl) (text_place F a)) (both (first (means_text n) F) (first (means_text d) F))
pair_key F n d (entries.Integer a) = of_others (Some (Integer a)) Pair (λ x y. refl) (both (first (means_text n) F) (first (means_text d) F))
pair_key F n d (entries.Long a) = of_others (Some (Long a)) Pair (λ x y. refl) (both (first (means_text n) F) (first (means_text d) F))
pair_key F n d c = no_key (key_of Pair (both (first (means_text n) F) (first (means_text d) F)))

integer_key : (F : Pool) (n : _) (c : Constant) → has_key (Integer n) (name_key F c) ≡ means_integer n c
integer_key F n (entries.NameAndType a b) = not_key (Integer n) Pair (λ _ _. refl) (both (text_place F a) (text_place F b))
integer_key F n (entries.Class a) = not_class (Integer n) (λ _. refl) (text_place F a)
integer_key F n c = refl

long_key : (F : Pool) (n : _) (c : Constant) → has_key (Long n) (name_key F c) ≡ means_long n c
long_key F n (entries.NameAndType a b) = not_key (Long n) Pair (λ _ _. refl) (both (text_place F a) (text_place F b))
long_key F n (entries.Class a) = not_class (Long n) (λ _. refl) (text_place F a)
long_key F n c = refl

module _ (F : Pool) (class n d : List ℕ) where
  abbrev wanted : Option (ℕ × ℕ)
  wanted = both (first (means_class F class) F) (first (means_pair F n d) F)

  same_parts : (make : ℕ → ℕ → Key) → ((a b c d : ℕ) → same_key (make c d) (make a b) ≡ (nat_eq c a && nat_eq d b)) → (a b : ℕ) → is_same (key_of make wanted) (key_of make (both (class_place F a) (pair_place F b))) ≡ (same_text (class_name F a) class && pair_means (entry F b) F n d)
  same_parts make h a b = of_two make h (first (means_class F class) F) (first (means_pair F n d) F) (class_place F a) (pair_place F b) ∙ rw (class_places F a class, pair_places F b n d) refl

  apart : (make other : ℕ → ℕ → Key) → ((a b c d : ℕ) → same_key (other c d) (make a b) ≡ false) → (o : Option (ℕ × ℕ)) → is_same (key_of make wanted) (key_of other o) ≡ false
  apart make other h o = of_others (key_of other o) make (λ a b. not_key (make a b) other (λ c d. h a b c d) o) wanted

  member_key_is : (kind : Kind) (c : Constant) → is_same (key_of (key_for kind) wanted) (member_key F c) ≡ means_member (parts_of kind) F class n d c
  member_key_is kinds.Field (entries.Field a b) = same_parts Field (λ _ _ _ _. refl) a b
  member_key_is kinds.Method (entries.Method a b) = same_parts Method (λ _ _ _ _. refl) a b
  member_key_is kinds.InterfaceMethod (entries.InterfaceMethod a b) = same_parts InterfaceMethod (λ _ _ _ _. refl) a b
  member_key_is kinds.Field (entries.Method a b) = apart Field Method (λ _ _ _ _. refl) (both (class_place F a) (pair_place F b))
  member_key_is kinds.Field (entries.InterfaceMethod a b) = apart Field InterfaceMethod (λ _ _ _ _. refl) (both (class_place F a) (pair_place F b))
  member_key_is kinds.Method (entries.Field a b) = apart Method Field (λ _ _ _ _. refl) (both (class_place F a) (pair_place F b))
  member_key_is kinds.Method (entries.InterfaceMethod a b) = apart Method InterfaceMethod (λ _ _ _ _. refl) (both (class_place F a) (pair_place F b))
  member_key_is kinds.InterfaceMethod (entries.Field a b) = apart InterfaceMethod Field (λ _ _ _ _. refl) (both (class_place F a) (pair_place F b))
  member_key_is kinds.InterfaceMethod (entries.Method a b) = apart InterfaceMethod Method (λ _ _ _ _. refl) (both (class_place F a) (pair_place F b))
  member_key_is kinds.Field c = no_key (key_of Field wanted)
  member_key_is kinds.Method c = no_key (key_of Method wanted)
  member_key_is kinds.InterfaceMethod c = no_key (key_of InterfaceMethod wanted)

-- ---- look-ups in what is known of a pool

module _ (texts : List ℕ → Option ℕ) (names : Key → Option ℕ) (F : Pool) (known : KnowsNames texts names F) where
  by_key : (o : Option Key) → option_and_then names o ≡ first (λ c. is_same o (name_key F c)) F
  by_key None = sym (first_none (λ c. false) F (λ _. refl))
  by_key (Some k) = known.names k

  pub class_by_name : (name : List ℕ) → option_and_then (λ j. names (Class j)) (texts name) ≡ first (means_class F name) F
  class_by_name name = ap (option_and_then (λ j. names (Class j))) (known.texts name) ∙ regroup (first (means_text name) F) ∙ by_key (option_map Class (first (means_text name) F)) ∙ first_congr _ _ F (λ i c s. class_key F name c) where
    regroup : (o : Option ℕ) → option_and_then (λ j. names (Class j)) o ≡ option_and_then names (option_map Class o)
    regroup None = refl
    regroup (Some j) = refl

  pub pair_by_names : (n d : List ℕ) → option_and_then names (key_of Pair (both (texts n) (texts d))) ≡ first (means_pair F n d) F
  pair_by_names n d = rw (known.texts n, known.texts d) (by_key (key_of Pair (both (first (means_text n) F) (first (means_text d) F))) ∙ first_congr _ _ F (λ i c s. pair_key F n d c))

  pub integer_by_number : (n : _) → names (Integer n) ≡ first (means_integer n) F
  integer_by_number n = known.names (Integer n) ∙ first_congr _ _ F (λ i c s. integer_key F n c)

  pub long_by_number : (n : _) → names (Long n) ≡ first (means_long n) F
  long_by_number n = known.names (Long n) ∙ first_congr _ _ F (λ i c s. long_key F n c)

  -- a reference, by the places of its class and its pair
  pub member_by_names : (members : Key → Option ℕ) → ((k : Key) → members k ≡ first (λ c. has_key k (member_key F c)) F) → (kind : Kind) (class n d : List ℕ) → option_and_then members (key_of (key_for kind) (both (first (means_class F class) F) (first (means_pair F n d) F))) ≡ first (means_member (parts_of kind) F class n d) F
  member_by_names members h kind class n d = by_member (key_of (key_for kind) (both (first (means_class F class) F) (first (means_pair F n d) F))) ∙ first_congr _ _ F (λ i c s. member_key_is F class n d kind c) where
    by_member : (o : Option Key) → option_and_then members o ≡ first (λ c. is_same o (member_key F c)) F
    by_member None = sym (first_none (λ c. false) F (λ _. refl))
    by_member (Some k) = h k
