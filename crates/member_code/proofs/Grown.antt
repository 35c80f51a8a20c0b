-- Pools that grow at their end: what an index meant it still means.
use Rattle.std.proofs.Common.{◌≡◌, ℕ, ℤ, zero, suc, List, [], ◌++◌, Option, Some, None, refl, sym, ap, ◌∙◌, append_assoc}
use Rattle.std.specs.Prelude.{option_and_then, IsSome, IsSomeAnd}
use Rattle.std.proofs.lemmas.List.{append-nil}
use Rattle.jmodel.specs.declared.class_file.Constant.{Constant}
use Rattle.jmodel.specs.declared.class_file.Constant.TheVariants as constants
use Rattle.jmodel.specs.format.ClassFile.{Pool}
use Rattle.jmodel.specs.format.Pool.{entry, utf8, text_in, class_name, name_in, both, pair, pair_in, MemberName, named, field_name, field_in, method_name, method_in, member_name, member_in}
use Rattle.jmodel.specs.format.Constants.{integer, integer_in, long_in}
use Rattle.objects.proofs.Fetching.{get_front}

-- what an option that is not empty holds
pub the_some : {A : Type 0} (o : Option A) → IsSome o → (x : A) × (o ≡ Some x)
the_some None h = absurd cc
the_some (Some x) h = (x, refl)

-- the same where something holds of it
pub the_and : {A : Type 0} (o : Option A) (Q : A → Type 0) → IsSomeAnd o Q → (x : A) × (o ≡ Some x)
the_and None Q h = absurd h
the_and (Some x) Q h = (x, refl)

pub record Grown (a b : Pool) : Type 0 where
  pub more : Pool
  pub is : b ≡ a ++ more

pub grown_refl : (a : Pool) → Grown a a
grown_refl a = record { more = []; is = sym (append-nil a) }

pub grown_trans : (a b c : Pool) → Grown a b → Grown b c → Grown a c
grown_trans a b c p q = record { more = p.more ++ q.more; is = q.is ∙ ap (λ (x : Pool). x ++ q.more) p.is ∙ append_assoc a p.more q.more }

pub entry_grown : (a b : Pool) → Grown a b → (i : ℕ) (c : Constant) → entry a i ≡ Some c → entry b i ≡ Some c
entry_grown a b g zero c e = e
entry_grown a b g (suc i) c e = rw g.is (get_front a g.more i c e)

module _ {X : Type 0} (f g : Constant → Option X) (x : X) (keeps : (c : Constant) → f c ≡ Some x → g c ≡ Some x) where
  in_entry : (o p : Option Constant) → ((c : Constant) → o ≡ Some c → p ≡ Some c) → option_and_then f o ≡ Some x → option_and_then g p ≡ Some x
  in_entry None p same h = cc
  in_entry (Some c) p same h = let e = same c refl in rw e (keeps c h)

  pub read_grown : (a b : Pool) → Grown a b → (i : ℕ) → option_and_then f (entry a i) ≡ Some x → option_and_then g (entry b i) ≡ Some x
  read_grown a b grown i h = in_entry (entry a i) (entry b i) (entry_grown a b grown i) h

module _ (a b : Pool) (g : Grown a b) where
  pub utf8_grown : (i : ℕ) (x : List ℕ) → utf8 a i ≡ Some x → utf8 b i ≡ Some x
  utf8_grown i x h = read_grown text_in text_in x (λ c e. e) a b g i h

  pub name_in_grown : (x : List ℕ) (c : Constant) → name_in a c ≡ Some x → name_in b c ≡ Some x
  name_in_grown x (constants.Class n) h = utf8_grown n x h
  name_in_grown x c h = cc

  pub class_grown : (i : ℕ) (x : List ℕ) → class_name a i ≡ Some x → class_name b i ≡ Some x
  class_grown i x h = read_grown (name_in a) (name_in b) x (name_in_grown x) a b g i h

  both_grown : (o p q r : Option (List ℕ)) (x : List ℕ × List ℕ) → ((t : List ℕ) → o ≡ Some t → q ≡ Some t) → ((t : List ℕ) → p ≡ Some t → r ≡ Some t) → both o p ≡ Some x → both q r ≡ Some x
  both_grown None p q r x s t h = cc
  both_grown (Some y) None q r x s t h = cc
  both_grown (Some y) (Some z) q r x s t h = let e = s y refl in let d = t z refl in rw (e, d) h

  pub pair_in_grown : (x : List ℕ × List ℕ) (c : Constant) → pair_in a c ≡ Some x → pair_in b c ≡ Some x
  pair_in_grown x (constants.NameAndType n d) h = both_grown (utf8 a n) (utf8 a d) (utf8 b n) (utf8 b d) x (utf8_grown n) (utf8_grown d) h
  pair_in_grown x c h = cc

  pub pair_grown : (i : ℕ) (x : List ℕ × List ℕ) → pair a i ≡ Some x → pair b i ≡ Some x
  pair_grown i x h = read_grown (pair_in a) (pair_in b) x (pair_in_grown x) a b g i h

  named_grown : (o : Option (List ℕ)) (p : Option (List ℕ × List ℕ)) (q : Option (List ℕ)) (r : Option (List ℕ × List ℕ)) (x : MemberName) → ((t : List ℕ) → o ≡ Some t → q ≡ Some t)
      → ((t : List ℕ × List ℕ) → p ≡ Some t → r ≡ Some t) → named o p ≡ Some x → named q r ≡ Some x
  named_grown None p q r x s t h = cc
  named_grown (Some y) None q r x s t h = cc
  named_grown (Some y) (Some z) q r x s t h = let e = s y refl in let d = t z refl in rw (e, d) h

  field_in_grown : (x : MemberName) (c : Constant) → field_in a c ≡ Some x → field_in b c ≡ Some x
  field_in_grown x (constants.Field k p) h = named_grown (class_name a k) (pair a p) (class_name b k) (pair b p) x (class_grown k) (pair_grown p) h
  field_in_grown x c h = cc

  pub field_grown : (i : ℕ) (x : MemberName) → field_name a i ≡ Some x → field_name b i ≡ Some x
  field_grown i x h = read_grown (field_in a) (field_in b) x (field_in_grown x) a b g i h

  method_in_grown : (x : MemberName) (c : Constant) → method_in a c ≡ Some x → method_in b c ≡ Some x
  method_in_grown x (constants.Method k p) h = named_grown (class_name a k) (pair a p) (class_name b k) (pair b p) x (class_grown k) (pair_grown p) h
  method_in_grown x c h = cc

  pub method_grown : (i : ℕ) (x : MemberName) → method_name a i ≡ Some x → method_name b i ≡ Some x
  method_grown i x h = read_grown (method_in a) (method_in b) x (method_in_grown x) a b g i h

  pub integer_grown : (i : ℕ) (x : ℤ) → integer a i ≡ Some x → integer b i ≡ Some x
  integer_grown i x h = read_grown integer_in integer_in x (λ c e. e) a b g i h

  pub long_grown : (i : ℕ) (x : ℤ) → option_and_then long_in (entry a i) ≡ Some x → option_and_then long_in (entry b i) ≡ Some x
  long_grown i x h = read_grown long_in long_in x (λ c e. e) a b g i h

  member_in_grown : (x : MemberName) (c : Constant) → member_in a c ≡ Some x → member_in b c ≡ Some x
  member_in_grown x (constants.Field k p) h = named_grown (class_name a k) (pair a p) (class_name b k) (pair b p) x (class_grown k) (pair_grown p) h
  member_in_grown x (constants.Method k p) h = named_grown (class_name a k) (pair a p) (class_name b k) (pair b p) x (class_grown k) (pair_grown p) h
  member_in_grown x (constants.InterfaceMethod k p) h = named_grown (class_name a k) (pair a p) (class_name b k) (pair b p) x (class_grown k) (pair_grown p) h
  member_in_grown x c h = cc

  pub member_grown : (i : ℕ) (x : MemberName) → member_name a i ≡ Some x → member_name b i ≡ Some x
  member_grown i x h = read_grown (member_in a) (member_in b) x (member_in_grown x) a b g i h
