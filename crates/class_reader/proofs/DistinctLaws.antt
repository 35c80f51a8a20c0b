-- Members that are told apart are distinct, and distinct ones are told apart.
use Rattle.std.proofs.Common.{◌≡◌, ℕ, zero, suc, ◌<◌, ◌≤◌, Bool, true, false, ◌||◌, List, [], ◌∷◌, ◌++◌, length, get_or, Option, Some, Ok, refl, sym, ap, subst, ◌∙◌, append_assoc, arith, inl, inr}
use Rattle.std.specs.Prelude.{bytes_eq, IsSome}
use Rattle.std.specs.List.{list_any}
use Rattle.std.proofs.lemmas.Bool.{cases_lt}
use Rattle.std.proofs.lemmas.List.{get_or_at, get_or_append_left, length-append}
use Rattle.jmodel.specs.declared.refusal.Refusal.TheVariants.{Doubled}
use Rattle.jmodel.specs.format.ClassFile.{Pool, Member}
use Rattle.jmodel.specs.format.Pool.{utf8}
use Rattle.jmodel.specs.format.ClassRules.{IsSameMember, AreDistinct}
use Rattle.jmodel.specs.format.ClassFileReading.{text_or_nothing, full_name, is_same_member, distinct}
use Rattle.const_pool.proofs.Takes.{guard_ok}
use Rattle.const_pool.proofs.Entries.{both_true}
use Rattle.const_pool.proofs.Named.{the_some}
use Rattle.class_reader.specs.Numbers.{IsNamed, AreNamed}
use Rattle.class_reader.proofs.Texts.{same_bytes, equal_bytes}

module _ (pool : Pool) where
  abbrev same : Member → Member → Bool
  same a b = is_same_member pool a b

  -- the test says yes of members of one name and one descriptor
  same_is : (a b : Member) → IsSameMember pool a b → same a b ≡ true
  same_is a b h = rw (h.0, h.1, equal_bytes (text_or_nothing (utf8 pool b.name)), equal_bytes (text_or_nothing (utf8 pool b.descriptor))) refl

  same_text : (i j : ℕ) → IsSome (utf8 pool i) → IsSome (utf8 pool j) → bytes_eq (text_or_nothing (utf8 pool i)) (text_or_nothing (utf8 pool j)) ≡ true → utf8 pool i ≡ utf8 pool j
  same_text i j p q e =
      let a = the_some (utf8 pool i) p in
      let b = the_some (utf8 pool j) q in
      let shown = ap (λ (o : Option (List ℕ)). bytes_eq (text_or_nothing o) (text_or_nothing (utf8 pool j))) a.1 ∙ ap (λ (o : Option (List ℕ)). bytes_eq a.0 (text_or_nothing o)) b.1 in
      let one : bytes_eq a.0 b.0 ≡ true = sym shown ∙ e in
      a.1 ∙ ap (λ (t : List ℕ). Some t) (same_bytes a.0 b.0 one) ∙ sym b.1

  is_same : (a b : Member) → IsNamed pool a → IsNamed pool b → same a b ≡ true → IsSameMember pool a b
  is_same a b p q e =
      let t = both_true (bytes_eq (text_or_nothing (utf8 pool a.name)) (text_or_nothing (utf8 pool b.name))) (bytes_eq (text_or_nothing (utf8 pool a.descriptor)) (text_or_nothing (utf8 pool b.descriptor))) e in
      (same_text a.name b.name p.0 q.0 t.0, same_text a.descriptor b.descriptor p.1 q.1 t.1)

  none_at : (p : Member → Bool) (ms : List Member) (i : ℕ) (d : Member) → i < length ms → list_any p ms ≡ false → p (get_or ms i d) ≡ false
  none_at p [] i d lt e = absurd (omega arith)
  none_at p (m ∷ ms) i d lt e = by_test (p m) refl e i lt (λ k l h. none_at p ms k d l h) where
    by_test : (b : Bool) → p m ≡ b → (b || list_any p ms) ≡ false → (k : ℕ) → k < suc (length ms) → ((k : ℕ) → k < length ms → list_any p ms ≡ false → p (get_or ms k d) ≡ false) → p (get_or (m ∷ ms) k d) ≡ false
    by_test true q h k l others = absurd cc
    by_test false q h zero l others = q
    by_test false q h (suc k) l others = others k (omega arith) h

  no_place : (p : Member → Bool) (ms : List Member) → ((i : ℕ) (d : Member) → i < length ms → p (get_or ms i d) ≡ false) → list_any p ms ≡ false
  no_place p [] h = refl
  no_place p (m ∷ ms) h = rw (h 0 m (omega arith)) (no_place p ms (λ i d l. h (suc i) d (omega arith)))

  abbrev Apart : List Member → ℕ → Type 0
  Apart ms n = (i j : ℕ) (d : Member) → i < j → n ≤ j → j < length ms → same (get_or ms i d) (get_or ms j d) ≡ false

  regroup : (earlier : List Member) (m : Member) (ms : List Member) → (earlier ++ m ∷ []) ++ ms ≡ earlier ++ m ∷ ms
  regroup earlier m ms = append_assoc earlier (m ∷ []) ms

  apart : (earlier ms : List Member) → distinct pool earlier ms ≡ Ok tt → Apart (earlier ++ ms) (length earlier)
  unfolding distinct
  apart earlier [] e = λ i j d lt le inside. absurd (omega (arith, length-append earlier []))
  apart earlier (m ∷ ms) e =
      let g = guard_ok (list_any (λ x. same x m) earlier) (Doubled (full_name pool m.name m.descriptor)) (distinct pool (earlier ++ m ∷ []) ms) tt e in
      let others : Apart (earlier ++ m ∷ ms) (length (earlier ++ m ∷ [])) = subst (λ (xs : List Member). Apart xs (length (earlier ++ m ∷ []))) (regroup earlier m ms) (apart (earlier ++ m ∷ []) ms g.1) in
      λ i j d lt le inside. elim (cases_lt (length earlier) j) [
        | inl later ↦ others i j d lt (omega (arith, length-append earlier (m ∷ []))) inside
        | inr here ↦ at_it i j d lt (omega arith) g.0
      ] where
        at_it : (i j : ℕ) (d : Member) → i < j → j ≡ length earlier → list_any (λ x. same x m) earlier ≡ false → same (get_or (earlier ++ m ∷ ms) i d) (get_or (earlier ++ m ∷ ms) j d) ≡ false
        at_it i j d lt is h =
            let first : get_or (earlier ++ m ∷ ms) i d ≡ get_or earlier i d = get_or_append_left earlier (m ∷ ms) d i (omega arith) in
            let second : get_or (earlier ++ m ∷ ms) j d ≡ m = get_or_at earlier m ms d j (sym is) in
            rw (first, second) (none_at (λ x. same x m) earlier i d (omega arith) h)

  told_apart : (earlier ms : List Member) → Apart (earlier ++ ms) (length earlier) → distinct pool earlier ms ≡ Ok tt
  unfolding distinct
  told_apart earlier [] h = refl
  told_apart earlier (m ∷ ms) h =
      let new : list_any (λ x. same x m) earlier ≡ false = no_place (λ x. same x m) earlier (λ i d lt.
      let first : get_or (earlier ++ m ∷ ms) i d ≡ get_or earlier i d = get_or_append_left earlier (m ∷ ms) d i lt in
      let second : get_or (earlier ++ m ∷ ms) (length earlier) d ≡ m = get_or_at earlier m ms d (length earlier) refl in
      let t = h i (length earlier) d lt (omega arith) (omega (arith, length-append earlier (m ∷ ms))) in
      ap (λ (x : Member). same x m) (sym first) ∙ ap (same (get_or (earlier ++ m ∷ ms) i d)) (sym second) ∙ t) in
      let rest : Apart ((earlier ++ m ∷ []) ++ ms) (length (earlier ++ m ∷ [])) = subst (λ (xs : List Member). Apart xs (length (earlier ++ m ∷ []))) (sym (regroup earlier m ms)) (λ i j d lt le inside. h i j d lt (omega (arith, length-append earlier (m ∷ []))) inside) in
      rw new (told_apart (earlier ++ m ∷ []) ms rest)

  pub distinct_found : (ms : List Member) → distinct pool [] ms ≡ Ok tt → AreDistinct pool ms
  distinct_found ms e = λ i j d lt inside same_names. let no = apart [] ms e i j d lt (omega arith) inside in let yes = same_is (get_or ms i d) (get_or ms j d) same_names in absurd cc

  named_at : (ms : List Member) (i : ℕ) (d : Member) → i < length ms → AreNamed pool ms → IsNamed pool (get_or ms i d)
  named_at [] i d lt h = absurd (omega arith)
  named_at (m ∷ ms) zero d lt h = h.0
  named_at (m ∷ ms) (suc i) d lt h = named_at ms i d (omega arith) h.1

  pub distinct_again : (ms : List Member) → AreNamed pool ms → AreDistinct pool ms → distinct pool [] ms ≡ Ok tt
  distinct_again ms named h = told_apart [] ms (λ i j d lt le inside. by_test (same (get_or ms i d) (get_or ms j d)) (λ e. h i j d lt inside (is_same (get_or ms i d) (get_or ms j d) (named_at ms i d (omega arith) named) (named_at ms j d inside named) e))) where
    by_test : (b : Bool) → (b ≡ true → ⊥) → b ≡ false
    by_test true f = absurd (f refl)
    by_test false f = refl
