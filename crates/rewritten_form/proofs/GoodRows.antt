-- The classes of a linked program have lawful names, and typing reads lawful names as such.
use Rattle.std.proofs.Common.{◌≡◌, ℕ, zero, suc, Bool, true, false, ◌&&◌, ◌||◌, List, [], ◌∷◌, map, Option, Some, None, refl, sym, ap, ◌∙◌, subst, ◌⊎◌, inl, inr, ⊎_elim}
use Rattle.std.specs.Prelude.{find, bytes_eq, not, if◌then◌else◌}
use Rattle.std.specs.List.{AllByRecursion, list_all}
use Rattle.std.proofs.lemmas.Slice.Eq.{bytes_eq-Decides}
use Rattle.jmodel.specs.format.ClassFile.{ClassFile}
use Rattle.objects.specs.linking.Members.{own_name}
use Rattle.objects.specs.linking.Superclasses.{class_named, lineage}
use Rattle.objects.specs.semantics.Program.{Words, Row, Program, row_at}
use Rattle.objects.specs.typing.TypeOrder.{object_class, context_class, conflict_classes, from_class, is_array, read_in, class_read as class_typed}
use Rattle.objects.specs.linking.LibraryClasses.{library_rows}
use Rattle.objects.specs.linking.LibraryMethods.{is_library, library}
use Rattle.objects.specs.linking.Resolution.{is_interface, holds_of}
use Rattle.objects.specs.linking.Layout.{class_read, descriptor_read, library_lineage, lineage_of, names_upward, above_last, nameless, words_upward, class_instances, class_row, primitive_arrays, made_arrays, rows}
use Rattle.objects.specs.laws.LinkingLaw.{AreRead}
use Rattle.objects.specs.typing.Source.{AreTypes}
use Rattle.objects.proofs.Items.{IsAt, item, all_items, of_map, found}
use Rattle.objects.proofs.AsRead.{is_file, named_as}
use Rattle.objects.proofs.Links.{IsLinkedTo}
use Rattle.objects.proofs.Order.{Among, either, Above, by_found, free_is}
use Rattle.objects.proofs.ReadNames.{RowOf, of_library_row, of_class_row, of_base, of_array_row, row_kind}
use Rattle.objects.proofs.ResolvedMembers.{lineage_in}
use Rattle.objects.proofs.MadeArrays.{IsMade, all_made}
use Rattle.objects.proofs.SourceProof.{faultless}
use Rattle.member_code.proofs.Added.{two_true}
use Rattle.rewritten_form.proofs.Lists.{all_append}
use Rattle.rewritten_form.proofs.ReadNames.{same_array}
use Rattle.rewritten_form.proofs.SourceTexts.{own_named, own_lawful}
use Rattle.rewritten_form.proofs.GoodNames.{IsLawful, is_lawful, lawful_by}

-- what follows for each where a test passes each
all_tested : {A : Type 0} (p : A → Bool) (Q : A → Type 0) → ((x : A) → p x ≡ true → Q x) → (xs : List A) → list_all p xs ≡ true → AllByRecursion Q xs
all_tested p Q f [] h = tt
all_tested p Q f (x ∷ xs) h = let a = two_true (p x) (list_all p xs) h in (f x a.0, all_tested p Q f xs a.1)

abbrev pub AreLawful : List (List ℕ) → Type 0
AreLawful ns = AllByRecursion IsLawful ns

tested : (ns : List (List ℕ)) → list_all is_lawful ns ≡ true → AreLawful ns
tested ns h = all_tested is_lawful IsLawful lawful_by ns h

-- one of some lawful names is lawful
among_lawful : (n : List ℕ) (ns : List (List ℕ)) → AreLawful ns → Among n ns → IsLawful n
among_lawful n [] h a = absurd cc
among_lawful n (m ∷ ns) h a = ⊎_elim (λ (e : n ≡ m). subst IsLawful (sym e) h.0) (λ (b : Among n ns). among_lawful n ns h.1 b) (either n m ns a)

pub object_is_lawful : IsLawful object_class
object_is_lawful = lawful_by object_class refl

library_lawful : AllByRecursion (λ (r : Row). AreLawful r.lineage) library_rows
library_lawful = all_tested (λ (r : Row). list_all is_lawful r.lineage) (λ (r : Row). AreLawful r.lineage) (λ r h. tested r.lineage h) library_rows refl

-- a class of the library is read as it is
library_named : AllByRecursion (λ (r : Row). IsLawful r.name × (r.read ≡ r.name)) library_rows
library_named =
    all_tested (λ (r : Row). is_lawful r.name && bytes_eq r.read r.name) (λ (r : Row). IsLawful r.name × (r.read ≡ r.name))
    (λ r h. let a = two_true (is_lawful r.name) (bytes_eq r.read r.name) h in (lawful_by r.name a.0, (bytes_eq-Decides r.read r.name).0 a.1)) library_rows refl

library_above : (n : List ℕ) → AreLawful (library_lineage n)
library_above n = go (find (λ (r : Row). bytes_eq r.name n) library_rows) refl
  where
    go : (o : Option Row) → find (λ (r : Row). bytes_eq r.name n) library_rows ≡ o → AreLawful (lineage_of o)
    go None e = tt
    go (Some r) e = item (λ (r : Row). AreLawful r.lineage) library_rows r library_lawful (found (λ (r : Row). bytes_eq r.name n) library_rows r e).0

module _ (cs : List ClassFile) (P : Program) (read : AreRead cs) (l : IsLinkedTo cs P) where
  -- a class's own name is lawful
  pub own_is_lawful : (c : ClassFile) → IsAt cs c → IsLawful (own_name c)
  own_is_lawful c at = record { text = (own_lawful c (is_file cs read c at)).text; named = own_named c (is_file cs read c at) }

  upward_lawful : (n : List ℕ) → AreLawful (names_upward cs n)
  upward_lawful n =
      all_append IsLawful (map own_name (lineage cs n)) (library_lineage (above_last n (lineage cs n)))
      (all_items IsLawful (map own_name (lineage cs n)) (λ m at. let x = of_map own_name (lineage cs n) m at in subst IsLawful x.2 (own_is_lawful x.0 (lineage_in cs n x.0 x.1)))) (library_above (above_last n (lineage cs n)))

  -- an array type's name is an array's
  made : AllByRecursion (IsMade cs) (made_arrays cs)
  made = let f = faultless cs P read l in all_made cs f.formed f.constructs

  array_named : (n : List ℕ) → IsAt primitive_arrays n ⊎ IsAt (made_arrays cs) n → is_array n ≡ true
  array_named n (inl h) = item (λ n. is_array n ≡ true) primitive_arrays n (refl, (refl, (refl, (refl, (refl, (refl, tt)))))) h
  array_named n (inr h) = ap is_array (item (IsMade cs) (made_arrays cs) n made h).over

  -- What is known of a type: the classes above it are lawful, and it is read by its name, which is lawful, or has none, or is an array.
  pub record IsRowLawful (r : Row) : Type 0 where
    pub above : AreLawful r.lineage
    pub named : (IsLawful r.name × (r.read ≡ r.name)) ⊎ (((r.name ≡ []) × (r.read ≡ [])) ⊎ ((is_array r.name ≡ true) × (r.read ≡ descriptor_read cs r.name)))

  nameless_lawful : (r : Row) → r.lineage ≡ [] → r.name ≡ [] → r.read ≡ [] → IsRowLawful r
  nameless_lawful r a b c = record { above = subst AreLawful (sym a) tt; named = inr (inl (b, c)) }

  class_row_lawful : (c : ClassFile) → IsAt cs c → IsRowLawful (class_row cs c)
  class_row_lawful c at = go (is_interface c)
    where
      go : (b : Bool) → IsRowLawful (if b then nameless [] else record { name = own_name c; read = own_name c; holds = Words (words_upward cs (own_name c)); lineage = names_upward cs (own_name c); instance_of = class_instances cs (own_name c) })
      go true = nameless_lawful (nameless []) refl refl refl
      go false = record { above = upward_lawful (own_name c); named = inl (own_is_lawful c at, refl) }

  row_lawful : (r : Row) → IsAt (rows cs) r → IsRowLawful r
  row_lawful r at = by (row_kind cs r at)
    where
      by : RowOf cs r → IsRowLawful r
      by (of_library_row h) = record { above = item (λ (r : Row). AreLawful r.lineage) library_rows r library_lawful h; named = inl (item (λ (r : Row). IsLawful r.name × (r.read ≡ r.name)) library_rows r library_named h) }
      by (of_class_row c h is) = subst IsRowLawful is (class_row_lawful c h)
      by (of_base words is) = subst IsRowLawful is (nameless_lawful (nameless words) refl refl refl)
      by (of_array_row n h is) = subst IsRowLawful is (record { above = tt; named = inr (inr (array_named n h, refl)) })

  at_row : (t : ℕ) (r : Row) → row_at P t ≡ Some r → IsAt (rows cs) r
  at_row t r e = subst (λ (rs : List Row). IsAt rs r) (ap (λ (P : Program). P.types) l.is) (go t e)
    where
      go : (t : ℕ) → row_at P t ≡ Some r → IsAt P.types r
      go zero e = cc
      go (suc t) e = (t, e)

  pub row_at_lawful : (t : ℕ) (r : Row) → row_at P t ≡ Some r → IsRowLawful r
  row_at_lawful t r e = row_lawful r (at_row t r e)

  -- ---- the classes above a lawful one

  from_lawful : (m : List ℕ) (ns : List (List ℕ)) → IsLawful m → AreLawful ns → AreLawful (from_class m ns)
  from_lawful m [] h k = (h, (object_is_lawful, tt))
  from_lawful m (c ∷ ns) h k = go (bytes_eq m c) (from_lawful m ns h k.1)
    where
      go : (b : Bool) → AreLawful (from_class m ns) → AreLawful (if b then c ∷ ns else from_class m ns)
      go true rest = k
      go false rest = rest

  pub above_lawful : (C : AreTypes P) (m n : List ℕ) → Above P C m n → IsLawful m → IsLawful n
  above_lawful C m n h lawful =
      by_found P C (IsLawful n) m (λ t r is name line. among_lawful n r.lineage (row_at_lawful t r is).above (subst (Among n) line h))
      (λ free. among_lawful n (from_class m conflict_classes) (from_lawful m conflict_classes lawful (tested conflict_classes refl)) (subst (Among n) (free_is P C m free) h))

  -- ---- names as typing reads them

  never_array : (n : List ℕ) → is_array n ≡ false → is_array n ≡ true → ⊥
  never_array n e f = absurd cc

  -- a class that isn't an array's is read as one that isn't, and a lawful one as a lawful one
  pub class_typed_plain : (n : List ℕ) → is_array n ≡ false → is_array (class_typed P n) ≡ false
  class_typed_plain n plain = go (find (λ (r : Row). bytes_eq r.name n) P.types) refl
    where
      go : (o : Option Row) → find (λ (r : Row). bytes_eq r.name n) P.types ≡ o → is_array (read_in o) ≡ false
      go None e = refl
      go (Some r) e =
          let x = found (λ (r : Row). bytes_eq r.name n) P.types r e in
          let name = (bytes_eq-Decides r.name n).0 x.1 in
          elim (row_lawful r (subst (λ (rs : List Row). IsAt rs r) (ap (λ (P : Program). P.types) l.is) x.0)).named [
            | inl a ↦ ap is_array (a.1 ∙ name) ∙ plain
            | inr (inl a) ↦ ap is_array a.1
            | inr (inr a) ↦ absurd (never_array n plain (ap is_array (sym name) ∙ a.0))
          ]

  pub class_typed_lawful : (n : List ℕ) → IsLawful n → IsLawful (class_typed P n)
  class_typed_lawful n lawful = go (find (λ (r : Row). bytes_eq r.name n) P.types) refl
    where
      go : (o : Option Row) → find (λ (r : Row). bytes_eq r.name n) P.types ≡ o → IsLawful (read_in o)
      go None e = object_is_lawful
      go (Some r) e =
          let x = found (λ (r : Row). bytes_eq r.name n) P.types r e in
          let name = (bytes_eq-Decides r.name n).0 x.1 in
          elim (row_lawful r (subst (λ (rs : List Row). IsAt rs r) (ap (λ (P : Program). P.types) l.is) x.0)).named [
            | inl a ↦ subst IsLawful (sym a.1) a.0
            | inr (inl a) ↦ absurd (lawful.named.is_there (sym name ∙ a.0))
            | inr (inr a) ↦ absurd (never_array n (same_array n ∙ lawful.named.no_array) (ap is_array (sym name) ∙ a.0))
          ]

  -- a class as the folder reads it
  pub class_read_lawful : (n : List ℕ) → IsLawful (class_read cs n)
  class_read_lawful n = go (is_library n) (bytes_eq n context_class) (class_named cs n) refl refl refl
    where
      holds : (o : Option ClassFile) → class_named cs n ≡ o → IsLawful (if holds_of (λ c. not (is_interface c)) o then n else object_class)
      holds None e = object_is_lawful
      holds (Some c) e = let a = named_as cs n c e in by (not (is_interface c)) (subst IsLawful a.1 (own_is_lawful c a.0))
        where
          by : (b : Bool) → IsLawful n → IsLawful (if b then n else object_class)
          by true h = h
          by false h = object_is_lawful

      go : (a b : Bool) (o : Option ClassFile) → is_library n ≡ a → bytes_eq n context_class ≡ b → class_named cs n ≡ o → IsLawful (if a || (b || holds_of (λ c. not (is_interface c)) o) then n else object_class)
      go true b o p q e = among_lawful n library (tested library refl) p
      go false true o p q e = subst IsLawful (sym ((bytes_eq-Decides n context_class).0 q)) (lawful_by context_class refl)
      go false false o p q e = holds o e
