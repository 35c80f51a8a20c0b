-- Members by the texts of their names and descriptors: where these differ, the members are distinct.
use Rattle.std.proofs.Common.{◌≡◌, ℕ, zero, suc, ◌+◌, ◌<◌, ◌≤◌, Bool, true, false, not, ◌&&◌, ◌||◌, List, [], ◌∷◌, ◌++◌, length, map, Option, Some, refl, sym, ap, ◌∙◌, arith, eqb, ne_eqb}
use Rattle.std.specs.Prelude.{codes, slice_index_or, bytes_eq}
use Rattle.std.specs.List.{AllByRecursion, list_any, IsDistinct}
use Rattle.std.proofs.lemmas.Bool.Decides.{Decides-eqb}
use Rattle.std.proofs.lemmas.List.{length-map}
use Rattle.std.proofs.lemmas.Map.Steps.{length-le_from_distinct_below}
use Rattle.std.proofs.lemmas.Slice.Eq.{bytes_eq-Decides}
use Rattle.std.proofs.lemmas.List.Elements.{All-from_recursion}
use Rattle.std.proofs.lemmas.List.Kept.{AllPairs-cons}
use Rattle.jmodel.specs.format.ClassFile.{Member, Pool}
use Rattle.jmodel.specs.format.Pool.{utf8, text_or_none}
use Rattle.jmodel.specs.format.ClassRules.{IsSameMember, AreDistinct, IsMember}
use Rattle.objects.specs.linking.Reserved.{has_part, is_reserved}
use Rattle.objects.specs.linking.Members.{are_distinct}
use Rattle.member_code.proofs.Grown.{the_some, the_and, Grown, utf8_grown}
use Rattle.rewritten_form.proofs.Lists.{or_first, or_later, or_false}

-- options of equal texts have one text
some_is : (a b : List ℕ) → Some a ≡ Some b → a ≡ b
some_is a b e = cc

-- the part that shows a context
abbrev pub marker : List ℕ
marker = codes "org/deuce/transaction/"

-- a name and a descriptor
abbrev pub Key : Type 0
Key = List ℕ × List ℕ

-- a member of this name and this descriptor
pub record IsKeyed (Z : Pool) (m : Member) (k : Key) : Type 0 where
  pub named : utf8 Z m.name ≡ Some k.0
  pub typed : utf8 Z m.descriptor ≡ Some k.1

-- members of these
abbrev pub AreKeyed : Pool → List Member → List Key → Type 0
AreKeyed Z [] [] = Unit {0}
AreKeyed Z [] (k ∷ ks) = ⊥
AreKeyed Z (m ∷ ms) [] = ⊥
AreKeyed Z (m ∷ ms) (k ∷ ks) = IsKeyed Z m k × AreKeyed Z ms ks

-- none of these is this one
abbrev pub IsNone : List Key → Key → Type 0
IsNone ks k = AllByRecursion (λ (j : Key). ¬ (k ≡ j)) ks

-- each differs from all behind it
abbrev pub AreUnlike : List Key → Type 0
AreUnlike [] = Unit {0}
AreUnlike (k ∷ ks) = IsNone ks k × AreUnlike ks

-- two lists of members, one behind the other
pub keyed_append : (Z : Pool) (ms xs : List Member) (ks js : List Key) → AreKeyed Z ms ks → AreKeyed Z xs js → AreKeyed Z (ms ++ xs) (ks ++ js)
keyed_append Z [] xs [] js h g = g
keyed_append Z [] xs (k ∷ ks) js h g = absurd h
keyed_append Z (m ∷ ms) xs [] js h g = absurd h
keyed_append Z (m ∷ ms) xs (k ∷ ks) js h g = (h.0, keyed_append Z ms xs ks js h.1 g)

-- none of two lists
none_append : (k : Key) (ks js : List Key) → IsNone ks k → IsNone js k → IsNone (ks ++ js) k
none_append k [] js h g = g
none_append k (x ∷ ks) js h g = (h.0, none_append k ks js h.1 g)

-- two lists of unlike keys, none of the first among the second
pub unlike_append : (ks js : List Key) → AreUnlike ks → AreUnlike js → AllByRecursion (IsNone js) ks → AreUnlike (ks ++ js)
unlike_append [] js h g away = g
unlike_append (k ∷ ks) js h g away = (none_append k ks js h.0 away.0, unlike_append ks js h.1 g away.1)

-- keys of two kinds that exclude each other
pub kinds_apart : (Q R : Key → Type 0) → ((k j : Key) → Q k → R j → ¬ (k ≡ j)) → (ks js : List Key) → AllByRecursion Q ks → AllByRecursion R js → AllByRecursion (IsNone js) ks
kinds_apart Q R f [] js h g = tt
kinds_apart Q R f (k ∷ ks) js h g = (one k js h.0 g, kinds_apart Q R f ks js h.1 g)
  where
    one : (k : Key) (js : List Key) → Q k → AllByRecursion R js → IsNone js k
    one k [] q g = tt
    one k (j ∷ js) q g = (f k j q g.0, one k js q g.1)

-- ---- distinct members

module _ (Z : Pool) where
  -- members of one name and one descriptor have one key
  same_key : (m x : Member) (k j : Key) → IsKeyed Z m k → IsKeyed Z x j → IsSameMember Z m x → k ≡ j
  same_key m x k j h g s =
      let name : k.0 ≡ j.0 = some_is k.0 j.0 (sym h.named ∙ s.0 ∙ g.named) in
      let type : k.1 ≡ j.1 = some_is k.1 j.1 (sym h.typed ∙ s.1 ∙ g.typed) in
      ap (λ (t : List ℕ). (t, k.1)) name ∙ ap (λ (t : List ℕ). (j.0, t)) type

  -- members of one key have one name and one descriptor
  same_member : (m x : Member) (k j : Key) → IsKeyed Z m k → IsKeyed Z x j → k ≡ j → IsSameMember Z m x
  same_member m x k j h g e = (h.named ∙ ap (λ (y : Key). Some y.0) e ∙ sym g.named, h.typed ∙ ap (λ (y : Key). Some y.1) e ∙ sym g.typed)

  -- a member of another key than these is none of theirs
  none_same : (m : Member) (k : Key) → IsKeyed Z m k → (ms : List Member) (ks : List Key) → AreKeyed Z ms ks → IsNone ks k → AllByRecursion (λ (x : Member). ¬ IsSameMember Z m x) ms
  none_same m k h [] [] g u = tt
  none_same m k h [] (j ∷ ks) g u = absurd g
  none_same m k h (x ∷ ms) [] g u = absurd g
  none_same m k h (x ∷ ms) (j ∷ ks) g u = (λ s. u.0 (same_key m x k j h g.0 s), none_same m k h ms ks g.1 u.1)

  -- members of unlike names and descriptors are distinct
  pub distinct : (ms : List Member) (ks : List Key) → AreKeyed Z ms ks → AreUnlike ks → AreDistinct Z ms
  distinct [] [] h u = λ i j d less within. absurd (omega arith)
  distinct [] (k ∷ ks) h u = absurd h
  distinct (m ∷ ms) [] h u = absurd h
  distinct (m ∷ ms) (k ∷ ks) h u =
      AllPairs-cons (λ a b. ¬ IsSameMember Z a b) m ms (All-from_recursion (λ (x : Member). ¬ IsSameMember Z m x) ms (none_same m k h.0 ms ks h.1 u.0)) (distinct ms ks h.1 u.1)

  -- a member that is none of these has another key
  none_of : (m : Member) (k : Key) → IsKeyed Z m k → (ms : List Member) (ks : List Key) → AreKeyed Z ms ks
      → ((j : ℕ) (e : Member) → j < length ms → IsSameMember Z m (slice_index_or ms j e) → ⊥) → IsNone ks k
  none_of m k h [] [] g D = tt
  none_of m k h [] (j ∷ ks) g D = absurd g
  none_of m k h (x ∷ ms) [] g D = absurd g
  none_of m k h (x ∷ ms) (j ∷ ks) g D = (λ e. D 0 x (omega arith) (same_member m x k j h g.0 e), none_of m k h ms ks g.1 (λ i e less. D (suc i) e (omega (arith, less))))

  -- distinct members have unlike names and descriptors
  pub unlike : (ms : List Member) (ks : List Key) → AreKeyed Z ms ks → AreDistinct Z ms → AreUnlike ks
  unlike [] [] h D = tt
  unlike [] (k ∷ ks) h D = absurd h
  unlike (m ∷ ms) [] h D = absurd h
  unlike (m ∷ ms) (k ∷ ks) h D = (
    none_of m k h.0 ms ks h.1 (λ j e less. D 0 (suc j) e (omega arith) (omega (arith, less))),
    unlike ms ks h.1 (λ i j e less last. D (suc i) (suc j) e (omega (arith, less)) (omega (arith, last))),
  )

-- ---- keys of members that keep the rules

-- the texts of a name and a descriptor
abbrev pub key_of : Pool → Member → Key
key_of Z m = (text_or_none (utf8 Z m.name), text_or_none (utf8 Z m.descriptor))

-- an option that is not empty holds its text
text_is : (o : Option (List ℕ)) (t : List ℕ) → o ≡ Some t → o ≡ Some (text_or_none o)
text_is o t e = e ∙ ap Some (sym (ap text_or_none e))

-- a member that keeps the rules has a name and a descriptor
pub member_keyed : (Z : Pool) (Fits : List ℕ → Type 0) (m : Member) → IsMember Z Fits m → IsKeyed Z m (key_of Z m)
member_keyed Z Fits m h =
    let n = the_some (utf8 Z m.name) h.named in
    let t = the_and (utf8 Z m.descriptor) Fits h.typed in
    record { named = text_is (utf8 Z m.name) n.0 n.1; typed = text_is (utf8 Z m.descriptor) t.0 t.1 }

-- a member has the same key in a pool that has grown
pub key_grown : (a b : Pool) → Grown a b → (m : Member) (k : Key) → IsKeyed a m k → IsKeyed b m k
key_grown a b G m k h = record { named = utf8_grown a b G m.name k.0 h.named; typed = utf8_grown a b G m.descriptor k.1 h.typed }

-- members have the same keys in a pool that has grown
pub keys_grown : (a b : Pool) → Grown a b → (ms : List Member) (ks : List Key) → AreKeyed a ms ks → AreKeyed b ms ks
keys_grown a b G [] [] h = tt
keys_grown a b G [] (k ∷ ks) h = absurd h
keys_grown a b G (m ∷ ms) [] h = absurd h
keys_grown a b G (m ∷ ms) (k ∷ ks) h = (key_grown a b G m k h.0, keys_grown a b G ms ks h.1)

-- ---- names and descriptors with reserved parts

-- a text with the part that shows a context
pub shows_context : (t : List ℕ) → has_part marker t ≡ true → is_reserved t ≡ true
shows_context t h = or_first _ _ (or_first _ _ (or_first _ _ (or_first _ _ (or_first _ _ h))))

-- a text with the part of an address
pub shows_address : (t : List ℕ) → has_part (codes "__ADDRESS__") t ≡ true → is_reserved t ≡ true
shows_address t h = or_first _ _ (or_first _ _ (or_first _ _ (or_first _ _ (or_later _ _ h))))

-- a text with the part of a getter
pub shows_getter : (t : List ℕ) → has_part (codes "__Getter$") t ≡ true → is_reserved t ≡ true
shows_getter t h = or_first _ _ (or_first _ _ (or_first _ _ (or_later _ _ h)))

-- a text with the part of a setter
pub shows_setter : (t : List ℕ) → has_part (codes "__Setter$") t ≡ true → is_reserved t ≡ true
shows_setter t h = or_first _ _ (or_first _ _ (or_later _ _ h))

-- a name without reserved parts
abbrev pub IsNamedFree : Key → Type 0
IsNamedFree k = is_reserved k.0 ≡ false

-- a name with a reserved part
abbrev pub IsNamedReserved : Key → Type 0
IsNamedReserved k = is_reserved k.0 ≡ true

-- a descriptor without reserved parts
abbrev pub IsTypedFree : Key → Type 0
IsTypedFree k = is_reserved k.1 ≡ false

-- a descriptor with a reserved part
abbrev pub IsTypedReserved : Key → Type 0
IsTypedReserved k = is_reserved k.1 ≡ true

-- texts of which one alone passes a test are two
unlike_tests : (a b : Bool) → a ≡ b → a ≡ false → b ≡ true → ⊥
unlike_tests a b e f t = absurd (cc (e, f, t))

-- a name without reserved parts and one with such a part
pub names_apart : (k j : Key) → IsNamedFree k → IsNamedReserved j → ¬ (k ≡ j)
names_apart k j f r e = unlike_tests (is_reserved k.0) (is_reserved j.0) (ap (λ (y : Key). is_reserved y.0) e) f r

-- the same in the other order
pub reserved_apart : (k j : Key) → IsNamedReserved k → IsNamedFree j → ¬ (k ≡ j)
reserved_apart k j r f e = unlike_tests (is_reserved j.0) (is_reserved k.0) (ap (λ (y : Key). is_reserved y.0) (sym e)) f r

-- a descriptor without reserved parts and one with such a part
pub types_apart : (k j : Key) → IsTypedFree k → IsTypedReserved j → ¬ (k ≡ j)
types_apart k j f r e = unlike_tests (is_reserved k.1) (is_reserved j.1) (ap (λ (y : Key). is_reserved y.1) e) f r

-- no text of the pool has such parts
module _ (Z : Pool) (free : (i : ℕ) (t : List ℕ) → utf8 Z i ≡ Some t → is_reserved t ≡ false) where
  -- their names have none
  pub names_free : (ms : List Member) (ks : List Key) → AreKeyed Z ms ks → AllByRecursion IsNamedFree ks
  names_free [] [] h = tt
  names_free [] (k ∷ ks) h = absurd h
  names_free (m ∷ ms) [] h = absurd h
  names_free (m ∷ ms) (k ∷ ks) h = (free m.name k.0 h.0.named, names_free ms ks h.1)

  -- their descriptors have none
  pub types_free : (ms : List Member) (ks : List Key) → AreKeyed Z ms ks → AllByRecursion IsTypedFree ks
  types_free [] [] h = tt
  types_free [] (k ∷ ks) h = absurd h
  types_free (m ∷ ms) [] h = absurd h
  types_free (m ∷ ms) (k ∷ ks) h = (free m.descriptor k.1 h.0.typed, types_free ms ks h.1)

-- ---- members of different names

-- none of these has this name
abbrev pub IsUnnamed : List Key → Key → Type 0
IsUnnamed ks k = AllByRecursion (λ (j : Key). ¬ (k.0 ≡ j.0)) ks

-- each has another name than all behind it
abbrev pub AreOtherNames : List Key → Type 0
AreOtherNames [] = Unit {0}
AreOtherNames (k ∷ ks) = IsUnnamed ks k × AreOtherNames ks

-- keys of different names differ
pub names_unlike : (ks : List Key) → AreOtherNames ks → AreUnlike ks
names_unlike [] h = tt
names_unlike (k ∷ ks) h = (one k ks h.0, names_unlike ks h.1)
  where
    one : (k : Key) (ks : List Key) → IsUnnamed ks k → IsNone ks k
    one k [] h = tt
    one k (j ∷ ks) h = (λ e. h.0 (ap (λ (y : Key). y.0) e), one k ks h.1)

unnamed_append : (k : Key) (ks js : List Key) → IsUnnamed ks k → IsUnnamed js k → IsUnnamed (ks ++ js) k
unnamed_append k [] js h g = g
unnamed_append k (x ∷ ks) js h g = (h.0, unnamed_append k ks js h.1 g)

-- two lists of keys of different names, no name of the first among those of the second
pub names_append : (ks js : List Key) → AreOtherNames ks → AreOtherNames js → AllByRecursion (IsUnnamed js) ks → AreOtherNames (ks ++ js)
names_append [] js h g away = g
names_append (k ∷ ks) js h g away = (unnamed_append k ks js h.0 away.0, names_append ks js h.1 g away.1)

-- names of two kinds that exclude each other
pub named_apart : (Q R : Key → Type 0) → ((k j : Key) → Q k → R j → ¬ (k.0 ≡ j.0)) → (ks js : List Key) → AllByRecursion Q ks → AllByRecursion R js → AllByRecursion (IsUnnamed js) ks
named_apart Q R f [] js h g = tt
named_apart Q R f (k ∷ ks) js h g = (one k js h.0 g, named_apart Q R f ks js h.1 g)
  where
    one : (k : Key) (js : List Key) → Q k → AllByRecursion R js → IsUnnamed js k
    one k [] q g = tt
    one k (j ∷ js) q g = (f k j q g.0, one k js q g.1)

-- names that are tested to differ
pub tested_names : (ks : List Key) → are_distinct (map (λ (k : Key). k.0) ks) ≡ true → AreOtherNames ks
tested_names [] e = tt
tested_names (k ∷ ks) e = let a = both (list_any (bytes_eq k.0) (map (λ (k : Key). k.0) ks)) _ e in (one k ks a.0, tested_names ks a.1)
  where
    both : (a b : Bool) → (not a && b) ≡ true → (a ≡ false) × (b ≡ true)
    both true b e = cc
    both false b e = (refl, e)

    one : (k : Key) (ks : List Key) → list_any (bytes_eq k.0) (map (λ (k : Key). k.0) ks) ≡ false → IsUnnamed ks k
    one k [] e = tt
    one k (j ∷ ks) e =
        let a = or_false (bytes_eq k.0 j.0) (list_any (bytes_eq k.0) (map (λ (k : Key). k.0) ks)) e in
        (λ same. let t = (bytes_eq-Decides k.0 j.0).1 same in unlike_tests (bytes_eq k.0 j.0) true t a.0 refl, one k ks a.1)

-- ---- members of different names are few

module _ (Z : Pool) where
  -- the index of a text is one of the pool
  within : (X : Pool) (i : ℕ) (t : List ℕ) → utf8 X i ≡ Some t → i ≤ length X
  within X zero t e = omega arith
  within [] (suc i) t e = absurd cc
  within (c ∷ X) (suc zero) t e = omega arith
  within (c ∷ X) (suc (suc i)) t e = omega (arith, within X (suc i) t e)

  abbrev places : List Member → List ℕ
  places ms = map (λ (m : Member). m.name) ms

  others : (m : Member) (k : Key) → IsKeyed Z m k → (ms : List Member) (ks : List Key) → AreKeyed Z ms ks → IsUnnamed ks k → AllByRecursion (λ i. eqb m.name i ≡ false) (places ms)
  others m k h [] ks g u = tt
  others m k h (x ∷ ms) [] g u = absurd g
  others m k h (x ∷ ms) (j ∷ ks) g u = (
    ne_eqb m.name x.name (λ e. u.0 (some_is k.0 j.0 (sym h.named ∙ ap (utf8 Z) e ∙ g.0.named))),
    others m k h ms ks g.1 u.1,
  )

  all_others : (ms : List Member) (ks : List Key) → AreKeyed Z ms ks → AreOtherNames ks → IsDistinct eqb (places ms)
  unfolding IsDistinct
  all_others [] ks g u = tt
  all_others (m ∷ ms) [] g u = absurd g
  all_others (m ∷ ms) (k ∷ ks) g u = (others m k g.0 ms ks g.1 u.0, all_others ms ks g.1 u.1)

  all_within : (ms : List Member) (ks : List Key) → AreKeyed Z ms ks → (q : ℕ) → list_any (eqb q) (places ms) ≡ true → q < length Z + 1
  all_within [] ks g q e = cc
  all_within (m ∷ ms) [] g q e = absurd g
  all_within (m ∷ ms) (k ∷ ks) g q e = go (eqb q m.name) refl e (λ f. all_within ms ks g.1 q f)
    where
      go : (b : Bool) → eqb q m.name ≡ b → (b || list_any (eqb q) (places ms)) ≡ true → (list_any (eqb q) (places ms) ≡ true → q < length Z + 1) → q < length Z + 1
      go true t f more = let same : q ≡ m.name = (Decides-eqb q m.name).0 t in let l = within Z m.name k.0 g.0.named in omega (arith, same, l)
      go false t f more = more f

  -- there are no more than the pool has entries
  pub names_few : (ms : List Member) (ks : List Key) → AreKeyed Z ms ks → AreOtherNames ks → length ms ≤ length Z + 1
  names_few ms ks g u =
      let l : length (places ms) ≡ length ms = length-map _ _ in
      let few = length-le_from_distinct_below (places ms) (length Z + 1) (all_others ms ks g u) (all_within ms ks g) in
      omega (arith, l, few)
