-- Members have one key where they have one name and one descriptor.
use Rattle.std.proofs.Common.{◌≡◌, ℕ, zero, suc, ◌+◌, ◌*◌, ◌<◌, ◌≤◌, ◌&&◌, ◌||◌, Bool, true, false, cond, List, [], ◌∷◌, ◌++◌, length, get_or, take, drop, Option, Some, None, Result, Ok, Err, refl, sym, ap, ◌∙◌, eqb, arith}
use Rattle.std.specs.Prelude.{bytes_eq, map, IsSome, nat_eq}
use Rattle.std.specs.List.{position_or_len, list_any}
use Rattle.std.proofs.lemmas.List.{drop_more, drop_all, take_more, map_more}
use Rattle.std.proofs.lemmas.List.Folds.{list_any-append}
use Rattle.std.proofs.lemmas.Grind.{common_steps}
use Rattle.std.specs.BTreeMap.{is_at}
use Rattle.std.specs.Ordering.{nat_cmp}
use Rattle.std.proofs.lemmas.Bool.{eqb-true, eq-eqb, ne_eqb}
use Rattle.jmodel.specs.declared.class_file.Constant.{Constant}
use Rattle.jmodel.specs.declared.refusal.Refusal.{Refusal}
use Rattle.jmodel.specs.declared.refusal.Refusal.TheVariants.{Doubled}
use Rattle.jmodel.specs.format.ClassFile.{Member}
use Rattle.jmodel.specs.format.Pool.{utf8}
use Rattle.jmodel.specs.format.ClassFileReading.{text_or_nothing, full_name, is_same_member, distinct}
use Rattle.class_reader.specs.Numbers.{is_text, numbers_of, number_at, key_of, IsNamed, AreNamed}
use Rattle.class_reader.proofs.Texts.{same_bytes, equal_bytes, number_named, has_first, HasFirst, same_number}

-- an index with its text, and the number of that
pub record Numbered (pool : List Constant) (i : ℕ) : Type 0 where
  pub text : List ℕ
  pub has : utf8 pool i ≡ Some text
  pub first : HasFirst text pool
  pub number : number_at (numbers_of pool) i ≡ position_or_len (is_text text) pool

numbered_text : (pool : List Constant) (i : ℕ) (text : List ℕ) → utf8 pool i ≡ Some text → Numbered pool i
numbered_text pool zero text h = absurd cc
numbered_text pool (suc i) text h = record { text = text; has = h; first = has_first text pool i h; number = number_named pool (suc i) text h }

numbered_option : (pool : List Constant) (i : ℕ) (o : Option (List ℕ)) → utf8 pool i ≡ o → IsSome o → Numbered pool i
numbered_option pool i None h s = absurd cc
numbered_option pool i (Some text) h s = numbered_text pool i text h

pub numbered : (pool : List Constant) (i : ℕ) → IsSome (utf8 pool i) → Numbered pool i
numbered pool i s = numbered_option pool i (utf8 pool i) refl s

module _ (pool : List Constant) (few : length pool ≤ 65536) where
  abbrev name_test : ℕ → ℕ → Bool
  name_test i j = bytes_eq (text_or_nothing (utf8 pool i)) (text_or_nothing (utf8 pool j))

  same_names : (i j : ℕ) → Numbered pool i → Numbered pool j → name_test i j ≡ eqb (number_at (numbers_of pool) i) (number_at (numbers_of pool) j)
  same_names i j a b =
      let left : name_test i j ≡ bytes_eq a.text b.text = rw (a.has, b.has) refl in
      left ∙ rw (a.number, b.number) (by_test (bytes_eq a.text b.text) refl) where
        by_test : (t : Bool) → bytes_eq a.text b.text ≡ t → t ≡ eqb (position_or_len (is_text a.text) pool) (position_or_len (is_text b.text) pool)
        by_test true e = sym (eq-eqb _ _ (ap (λ (x : List ℕ). position_or_len (is_text x) pool) (same_bytes a.text b.text e)))
        by_test false e = sym (ne_eqb _ _ (λ p. let one : a.text ≡ b.text = same_number pool a.text b.text a.first b.first p in let yes : bytes_eq a.text b.text ≡ true = ap (bytes_eq a.text) (sym one) ∙ equal_bytes a.text in absurd cc))

  both : (a b c d : ℕ) → c < 65536 → d < 65536 → (eqb a b && eqb c d) ≡ eqb (b * 65536 + d) (a * 65536 + c)
  both a b c d lc ld = by_tests (eqb a b) (eqb c d) refl refl where
    by_tests : (s t : Bool) → eqb a b ≡ s → eqb c d ≡ t → (s && t) ≡ eqb (b * 65536 + d) (a * 65536 + c)
    by_tests true true p q = sym (eq-eqb _ _ (omega (arith, eqb-true a b p, eqb-true c d q)))
    by_tests true false p q = sym (ne_eqb _ _ (λ e. let one : c ≡ d = omega (arith, eqb-true a b p) in let yes = eq-eqb c d one in absurd cc))
    by_tests false t p q = sym (ne_eqb _ _ (λ e. let one : a ≡ b = omega arith in let yes = eq-eqb a b one in absurd cc))

  pub same_keys : (a b : Member) → IsNamed pool a → IsNamed pool b → is_same_member pool a b ≡ eqb (key_of (numbers_of pool) b) (key_of (numbers_of pool) a)
  same_keys a b na nb =
      let a0 = numbered pool a.name na.0 in
      let b0 = numbered pool b.name nb.0 in
      let a1 = numbered pool a.descriptor na.1 in
      let b1 = numbered pool b.descriptor nb.1 in
      let first = same_names a.name b.name a0 b0 in
      let second = same_names a.descriptor b.descriptor a1 b1 in
      rw (first, second) (both (number_at (numbers_of pool) a.name) (number_at (numbers_of pool) b.name) (number_at (numbers_of pool) a.descriptor) (number_at (numbers_of pool) b.descriptor) (omega (arith, a1.number, a1.first.within)) (omega (arith, b1.number, b1.first.within)))

  pub any_same : (m : Member) (earlier : List Member) → IsNamed pool m → AreNamed pool earlier → list_any (λ e. is_same_member pool e m) earlier ≡ list_any (nat_eq (key_of (numbers_of pool) m)) (map (key_of (numbers_of pool)) earlier)
  any_same m [] nm ne = refl
  any_same m (e ∷ es) nm ne = ap (λ (b : Bool). b || list_any (λ e. is_same_member pool e m) es) (same_keys e m ne.0 nm) ∙ ap (λ (b : Bool). eqb (key_of (numbers_of pool) m) (key_of (numbers_of pool) e) || b) (any_same m es nm ne.1)

named_take : (pool : List Constant) (i : ℕ) (ms : List Member) → AreNamed pool ms → AreNamed pool (take i ms)
named_take pool zero ms h = tt
named_take pool (suc i) [] h = tt
named_take pool (suc i) (m ∷ ms) h = (h.0, named_take pool i ms h.1)

named_at : (pool : List Constant) (i : ℕ) (ms : List Member) (d : Member) → i < length ms → AreNamed pool ms → IsNamed pool (get_or ms i d)
named_at pool i [] d lt h = absurd (omega arith)
named_at pool zero (m ∷ ms) d lt h = h.0
named_at pool (suc i) (m ∷ ms) d lt h = named_at pool i ms d (omega arith) h.1

abbrev doubled : List Constant → Member → Result (Unit {0}) Refusal
doubled pool m = Err (Doubled (full_name pool m.name m.descriptor))

module _ (pool : List Constant) (few : length pool ≤ 65536) (ms : List Member) (named : AreNamed pool ms) (i : ℕ) (m : Member) (below : i < length ms) (is : m ≡ get_or ms i m) (total : Result (Unit {0}) Refusal) (so_far : distinct pool (take i ms) (drop i ms) ≡ total) where
  abbrev pub is_seen : Bool
  is_seen = list_any (nat_eq (key_of (numbers_of pool) m)) (map (key_of (numbers_of pool)) (take i ms))

  at_member : distinct pool (take i ms) (drop i ms) ≡ cond is_seen (doubled pool m) (distinct pool (take (i + 1) ms) (drop (i + 1) ms))
  unfolding distinct
  at_member =
      let nm : IsNamed pool m = rw is (named_at pool i ms m below named) in
      let rest : drop i ms ≡ m ∷ drop (i + 1) ms = drop_more ms i m below ∙ ap (λ (x : Member). x ∷ drop (i + 1) ms) (sym is) in
      let front : take i ms ++ m ∷ [] ≡ take (i + 1) ms = ap (λ (x : Member). take i ms ++ x ∷ []) is ∙ sym (take_more ms i m below) in
      let seen = any_same pool few m (take i ms) nm (named_take pool i ms named) in
      ap (distinct pool (take i ms)) rest ∙ ap (λ (b : Bool). cond b (doubled pool m) (distinct pool (take i ms ++ m ∷ []) (drop (i + 1) ms))) seen ∙ ap (λ (f : List Member). cond is_seen (doubled pool m) (distinct pool f (drop (i + 1) ms))) front

  pub goes_on : is_seen ≡ false → distinct pool (take (i + 1) ms) (drop (i + 1) ms) ≡ total
  goes_on new = let one : distinct pool (take i ms) (drop i ms) ≡ distinct pool (take (i + 1) ms) (drop (i + 1) ms) = at_member ∙ rw new refl in sym one ∙ so_far

  pub is_double : is_seen ≡ true → total ≡ doubled pool m
  is_double old = let one : distinct pool (take i ms) (drop i ms) ≡ doubled pool m = at_member ∙ rw old refl in sym so_far ∙ one

pub all_distinct : (pool : List Constant) (ms : List Member) (i : ℕ) (total : Result (Unit {0}) Refusal) → length ms ≤ i → distinct pool (take i ms) (drop i ms) ≡ total → total ≡ Ok tt
unfolding distinct
all_distinct pool ms i total le so_far = sym so_far ∙ ap (distinct pool (take i ms)) (drop_all i ms le)

-- one more key is known
pub keys_on : (f : Member → ℕ) (ms : List Member) (i : ℕ) (m : Member) (key q : ℕ) → {old new : Bool} → i < length ms → m ≡ get_or ms i m → key ≡ f m → new ≡ cond (is_at (nat_cmp key) q) true old → old ≡ list_any (nat_eq q) (map f (take i ms)) → new ≡ list_any (nat_eq q) (map f (take (i + 1) ms))
keys_on f ms i m key q below is k h so_far =
    let front : map f (take (i + 1) ms) ≡ map f (take i ms) ++ key ∷ [] = map_more f ms i m below ∙ ap (λ (x : ℕ). map f (take i ms) ++ x ∷ []) (ap f (sym is) ∙ sym k) in
    rw (front, list_any-append) (grind (arith, common_steps))
