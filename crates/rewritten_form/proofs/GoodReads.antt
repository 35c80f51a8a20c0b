-- Typing, and the folder, read a good name of an array as a good one.
use Rattle.std.proofs.Common.{◌≡◌, ℕ, suc, Bool, true, false, ◌&&◌, List, [], ◌∷◌, ◌++◌, refl, sym, ap, subst, arith}
use Rattle.std.specs.Prelude.{codes, if◌then◌else◌, ◌==◌}
use Rattle.std.proofs.lemmas.Bool.Decides.{nat_tests}
use Rattle.jmodel.specs.format.ClassFile.{ClassFile}
use Rattle.objects.specs.semantics.Program.{Program}
use Rattle.objects.specs.typing.TypeOrder.{is_array, is_ended, without_last, class_read as class_typed, element_read as element_typed, name_read as name_typed}
use Rattle.objects.specs.linking.Layout.{class_read, descriptor_read}
use Rattle.objects.specs.laws.LinkingLaw.{AreRead}
use Rattle.objects.proofs.Links.{IsLinkedTo}
use Rattle.member_code.proofs.Added.{two_true}
use Rattle.rewritten_form.proofs.GoodNames.{IsLawful, is_lawful, is_letter, lawful_by, core_good, depth, is_good, plain_good, good_array, array_good, class_core}
use Rattle.rewritten_form.proofs.GoodRows.{class_typed_plain, class_typed_lawful, class_read_lawful}

-- a descriptor as good as another, under as many brackets
record IsAsGood (m n : List ℕ) : Type 0 where
  core : core_good n ≡ true
  many : depth n ≡ depth m

-- by a reading of classes that leads to lawful names
module _ (reads : List ℕ → List ℕ) (lawful : (n : List ℕ) → IsLawful n → IsLawful (reads n)) (inside : List ℕ → List ℕ) (none : inside [] ≡ [])
    (some : (c : ℕ) (n : List ℕ) → inside (c ∷ n) ≡ (if c == 91 then c ∷ inside n else (if c == 76 then codes "L" ++ reads (without_last n) ++ codes ";" else c ∷ n))) where
  core_inside : (n : List ℕ) → core_good n ≡ true → IsAsGood n (inside n)
  core_inside [] h = cc
  core_inside (c ∷ n) h = subst (IsAsGood (c ∷ n)) (sym (some c n)) (go (c == 91) (c == 76) refl refl h (core_inside n))
    where
      class : c ≡ 76 → (is_ended n && is_lawful (without_last n)) ≡ true → IsAsGood (c ∷ n) (codes "L" ++ reads (without_last n) ++ codes ";")
      class is t =
          let l = lawful_by (without_last n) (two_true (is_ended n) (is_lawful (without_last n)) t).1 in
          record { core = class_core (reads (without_last n)) (lawful (without_last n) l); many = sym (ap (λ (c : ℕ). depth (c ∷ n)) is) }

      number : (d : ℕ) → (c == d) ≡ true → c ≡ d
      number d e = grind (arith, nat_tests)

      go : (a b : Bool) → (c == 91) ≡ a → (c == 76) ≡ b → (if a then core_good n else (if b then is_ended n && is_lawful (without_last n) else is_letter (c ∷ n))) ≡ true → (core_good n ≡ true → IsAsGood n (inside n))
          → IsAsGood (c ∷ n) (if a then c ∷ inside n else (if b then codes "L" ++ reads (without_last n) ++ codes ";" else c ∷ n))
      go true b p q t rest = let r = rest t in record { core = rw p r.core; many = rw p (ap suc r.many) }
      go false true p q t rest = class (number 76 q) t
      go false false p q t rest = record { core = h; many = refl }

  array_inside : (n : List ℕ) → is_array n ≡ true → is_good n ≡ true → is_good (inside n) ≡ true
  array_inside n a h =
      let g = good_array n a h in
      let r = core_inside n g.core in
      let few = g.few in
      let many = r.many in
      array_good (inside n) (record { few = omega (arith, few, many); core = r.core })

module _ (cs : List ClassFile) (P : Program) (read : AreRead cs) (l : IsLinkedTo cs P) where
  pub typed_good : (n : List ℕ) → is_good n ≡ true → is_good (name_typed P n) ≡ true
  typed_good n h = go (is_array n) refl
    where
      go : (b : Bool) → is_array n ≡ b → is_good (if b then element_typed P n else class_typed P n) ≡ true
      go true a = array_inside (class_typed P) (class_typed_lawful cs P read l) (element_typed P) refl (λ c n. refl) n a h
      go false a = plain_good (class_typed P n) (class_typed_plain cs P read l n a)

  pub array_read_good : (n : List ℕ) → is_array n ≡ true → is_good n ≡ true → is_good (descriptor_read cs n) ≡ true
  array_read_good n a h = array_inside (class_read cs) (λ n k. class_read_lawful cs P read l n) (descriptor_read cs) refl (λ c n. refl) n a h

  -- the array of any class
  pub class_array_good : (n : List ℕ) → is_good (91 ∷ 76 ∷ (class_read cs n ++ codes ";")) ≡ true
  class_array_good n = array_good (91 ∷ 76 ∷ (class_read cs n ++ codes ";")) (record { few = omega arith; core = class_core (class_read cs n) (class_read_lawful cs P read l n) })
