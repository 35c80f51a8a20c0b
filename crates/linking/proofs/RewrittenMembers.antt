-- The methods of rewritten classes, as loops go from class to class.
use Rattle.std.proofs.Common.{◌≡◌, ℕ, ◌+◌, ◌<◌, Bool, true, false, ◌||◌, cond, List, [], ◌∷◌, ◌++◌, length, map, take, drop, get_or, Bor, refl, sym, ap, ◌∙◌}
use Rattle.std.specs.Prelude.{filter, min}
use Rattle.std.specs.List.{list_any, flat_map}
use Rattle.std.proofs.lemmas.Grind.{flat_map-append}
use Rattle.std.proofs.lemmas.List.{append-nil, drop-map, take-map, take_min, map-append}
use Rattle.std.proofs.lemmas.List.Elements.{filter-append}
use Rattle.std.specs.Cmp.Lexicographic.{nat_list_eq_equiv}
use Rattle.jmodel.specs.declared.name.MethodName.{MethodName}
use Rattle.jmodel.specs.format.ClassFile.{Member, ClassFile}
use Rattle.objects.specs.linking.Classes.{Declared, declared_in, full_name}
use Rattle.objects.specs.linking.Members.{is_name}
use Rattle.objects.specs.semantics.Program.{Method, Program}
use Rattle.objects.specs.linking.Decoding.{is_method}
use Rattle.objects.specs.rewriting.Relinking.{is_of}
use Rattle.hierarchy.specs.Names.{named, has}
use Rattle.hierarchy.proofs.InOrder.{seen}
use Rattle.hierarchy.proofs.Each.{map_next}
use Rattle.linking.specs.Rewritten.{AreNames}
use Rattle.linking.proofs.Lookups.{and_swap}

-- the last of a class's methods
pub last : (c : ClassFile) (n : ℕ) (ms : List Member) → declared_in c (drop n ms) ≡ drop n (declared_in c ms)
last c n ms = sym (drop-map _ n ms)

-- the first of them
pub first : (c : ClassFile) (n : ℕ) (ms : List Member) → declared_in c (take n ms) ≡ take n (declared_in c ms)
first c n ms = sym (take-map _ n ms)

-- so many of those from a place on
pub some : (c : ClassFile) (many start : ℕ) (ms : List Member) → declared_in c (take (min many (length (drop start ms))) (drop start ms)) ≡ take many (drop start (declared_in c ms))
some c many start ms = ap (declared_in c) (take_min many (drop start ms)) ∙ first c many (drop start ms) ∙ ap (take many) (last c start ms)

module _ (f : ClassFile → List Declared) (p : ClassFile → Bool) where
  -- what classes that pass give
  abbrev pub kind : List ClassFile → List Declared
  kind cs = flat_map f (filter p cs)

  -- one more class is seen
  pub kind_next : (classes : List (Bor ClassFile)) (i : ℕ) (c : Bor ClassFile) → i < length classes → c ≡ get_or classes i c
      → kind (seen (take (i + 1) classes)) ≡ kind (seen (take i classes)) ++ kind (c.now ∷ [])
  kind_next classes i c inside is =
      ap kind (map_next (λ (k : Bor ClassFile). k.now) classes i c inside is) ∙ ap (flat_map f) (filter-append p (seen (take i classes)) (c.now ∷ []))
      ∙ flat_map-append f (filter p (seen (take i classes))) (filter p (c.now ∷ []))

  -- marked ones so far, and those of one more class
  pub marked_next : (mark : Declared → Declared × Bool) (front all : List (Declared × Bool)) (classes : List (Bor ClassFile)) (i : ℕ) (c : Bor ClassFile) → i < length classes → c ≡ get_or classes i c
      → front ≡ map mark (kind (seen (take i classes))) → all ≡ front ++ map mark (kind (c.now ∷ [])) → all ≡ map mark (kind (seen (take (i + 1) classes)))
  marked_next mark front all classes i c inside is so_far more =
      more ∙ ap (λ (l : List (Declared × Bool)). l ++ map mark (kind (c.now ∷ []))) so_far ∙ sym (map-append mark (kind (seen (take i classes))) (kind (c.now ∷ [])))
      ∙ ap (map mark) (sym (kind_next classes i c inside is))

  pub kept : (c : ClassFile) → p c ≡ true → kind (c ∷ []) ≡ f c
  kept c e = ap (λ (b : Bool). flat_map f (cond b (c ∷ []) [])) e ∙ append-nil (f c)

  pub left : (c : ClassFile) → p c ≡ false → kind (c ∷ []) ≡ []
  left c e = ap (λ (b : Bool). flat_map f (cond b (c ∷ []) [])) e

-- a test of names by two forms
pub any_same : {A : Type 0} (p q : A → Bool) → ((x : A) → p x ≡ q x) → (xs : List A) → list_any p xs ≡ list_any q xs
any_same p q same [] = refl
any_same p q same (x ∷ xs) = ap (λ (b : Bool). b || list_any p xs) (same x) ∙ ap (λ (b : Bool). q x || b) (any_same p q same xs)

-- whether names have that of a method
pub is_there : (P : Program) (names : List MethodName) (k : Declared) → AreNames P names → has names (named (full_name k).class (full_name k).name (full_name k).descriptor) ≡ is_of P k
is_there P names k are =
    let n = full_name k in
    are (named n.class n.name n.descriptor)
    ∙ any_same (λ (o : Method). is_name (named n.class n.name n.descriptor) o.name) (λ (o : Method). is_method n o.name)
    (λ o. and_swap _ _ _ _ _ _ (nat_list_eq_equiv.symm n.name o.name.name) (nat_list_eq_equiv.symm n.descriptor o.name.descriptor) (nat_list_eq_equiv.symm n.class o.name.class)) P.methods
