-- Class files in order have names of their own where they have as they came.
use Rattle.std.proofs.Common.{◌≡◌, ℕ, Bool, true, false, ◌||◌, List, [], ◌∷◌, Some, None, refl, ap, ◌∙◌}
use Rattle.std.specs.Prelude.{bytes_eq, if◌then◌else◌}
use Rattle.std.specs.List.{list_any}
use Rattle.std.specs.Ordering.{is_lt, nat_cmp}
use Rattle.std.specs.Cmp.Lexicographic.{slice_cmp, nat_list_eq_equiv}
use Rattle.jmodel.specs.declared.refusal.Refusal.TheVariants.{DoubledClass}
use Rattle.jmodel.specs.format.ClassFile.{ClassFile}
use Rattle.objects.specs.linking.Library.{library}
use Rattle.objects.specs.linking.Members.{own_name}
use Rattle.objects.specs.linking.Classes.{placed, in_order, doubled_among, doubled_class}
use Rattle.hierarchy.proofs.Parts.{same_bytes}
use Rattle.hierarchy.proofs.InOrder.{has_class, AreApart, itself, none_has, apart_of, has_placed, has_in_order}

left : (a b : Bool) → (a || b) ≡ false → a ≡ false
left true b h = h
left false b h = refl

right : (a b : Bool) → (a || b) ≡ false → b ≡ false
right true b h = absurd cc
right false b h = h

-- no class has one of these names
abbrev AreFree : List (List ℕ) → List ClassFile → Type 0
AreFree names cs = (name : List ℕ) → list_any (bytes_eq name) names ≡ true → has_class name cs ≡ false

free_more : (names : List (List ℕ)) (c : ClassFile) (cs : List ClassFile) → AreFree names (c ∷ cs) → has_class (own_name c) cs ≡ false → AreFree (own_name c ∷ names) cs
free_more names c cs free apart name = go (bytes_eq name (own_name c)) refl
  where
    go : (b : Bool) → bytes_eq name (own_name c) ≡ b → (b || list_any (bytes_eq name) names) ≡ true → has_class name cs ≡ false
    go true e h = ap (λ (n : List ℕ). has_class n cs) (same_bytes name (own_name c) e) ∙ apart
    go false e h = right (bytes_eq (own_name c) name) (has_class name cs) (free name h)

-- classes of names of their own, which are free, are no fault
none_doubled : (names : List (List ℕ)) (cs : List ClassFile) → AreFree names cs → AreApart cs → doubled_among names cs ≡ None
none_doubled names [] free apart = refl
none_doubled names (c ∷ cs) free apart = go (list_any (bytes_eq (own_name c)) names) refl (none_doubled (own_name c ∷ names) cs (free_more names c cs free apart.0) apart.1)
  where
    go : (b : Bool) → list_any (bytes_eq (own_name c)) names ≡ b → doubled_among (own_name c ∷ names) cs ≡ None → (if b then Some (DoubledClass (own_name c)) else doubled_among (own_name c ∷ names) cs) ≡ None
    go true e rest =
        let never : bytes_eq (own_name c) (own_name c) ≡ false = left (bytes_eq (own_name c) (own_name c)) (has_class (own_name c) cs) (free (own_name c) e) in
        let always : bytes_eq (own_name c) (own_name c) ≡ true = itself (own_name c) in
        absurd cc
    go false e rest = rest

apart_placed : (c : ClassFile) (ds : List ClassFile) → has_class (own_name c) ds ≡ false → AreApart ds → AreApart (placed c ds)
apart_placed c [] h apart = (refl, tt)
apart_placed c (d ∷ ds) h apart =
    go (is_lt (slice_cmp nat_cmp (own_name d) (own_name c))) (apart_placed c ds (right (bytes_eq (own_name d) (own_name c)) (has_class (own_name c) ds) h) apart.1)
  where
    neither : (a b : Bool) → a ≡ false → b ≡ false → (a || b) ≡ false
    neither a b p q = rw (p, q) refl

    later : has_class (own_name d) (placed c ds) ≡ false
    later =
        has_placed (own_name d) c ds
        ∙ neither (bytes_eq (own_name c) (own_name d)) (has_class (own_name d) ds) (nat_list_eq_equiv.symm (own_name c) (own_name d) ∙ left (bytes_eq (own_name d) (own_name c)) (has_class (own_name c) ds) h) apart.0

    go : (b : Bool) → AreApart (placed c ds) → AreApart (if b then d ∷ placed c ds else c ∷ d ∷ ds)
    go true rest = (later, rest)
    go false rest = (h, apart)

apart_in_order : (cs : List ClassFile) → AreApart cs → AreApart (in_order cs)
apart_in_order [] apart = tt
apart_in_order (c ∷ cs) apart = apart_placed c (in_order cs) (has_in_order (own_name c) cs ∙ apart.0) (apart_in_order cs apart.1)

pub single_in_order : (files : List ClassFile) → doubled_class files ≡ None → doubled_class (in_order files) ≡ None
single_in_order files h =
    none_doubled library (in_order files) (λ name among. has_in_order name files ∙ none_has library files h name among) (apart_in_order files (apart_of library files h))
