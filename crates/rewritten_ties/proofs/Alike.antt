-- Types in texts without parts that are kept are read alike, where class names are.
use Rattle.std.proofs.Common.{◌≡◌, ℕ, List, [], ◌∷◌, ◌++◌, Bool, true, false, ◌||◌, nat_eq, refl, sym, ap, ◌∙◌, subst, append_assoc}
use Rattle.std.specs.Prelude.{bytes_eq, codes, ◌==◌, if◌then◌else◌}
use Rattle.std.specs.List.{starts_with}
use Rattle.std.proofs.lemmas.Slice.Eq.{bytes_eq-Decides}
use Rattle.jmodel.specs.declared.class_file.FieldType.{FieldType}
use Rattle.jmodel.specs.declared.class_file.FieldType.TheVariants as field
use Rattle.jmodel.specs.format.ClassFile.{ClassFile}
use Rattle.jmodel.specs.format.Descriptor.{is_array_name, field_descriptor}
use Rattle.objects.specs.linking.Reserved.{has_part, is_reserved}
use Rattle.objects.specs.typing.TypeOrder.{without_last}
use Rattle.objects.specs.linking.Layout.{class_read, descriptor_read, name_read, declared_as}
use Rattle.objects.specs.declared.op.WordType.TheVariants as word
use Rattle.objects.specs.rewriting.Rewriting.{helper_class}
use Rattle.objects.proofs.LinkedTypes.{IsPart, part_whole, found_part}
use Rattle.rewritten_names.specs.LeadsLaw.{IsOther}
use Rattle.rewritten_names.proofs.Lists.{either_false}

-- ---- texts with the helper's name

-- a text with the helper's name is kept
helper_kept : (text : List ℕ) → IsPart helper_class text → is_reserved text ≡ true
helper_kept text p =
    let front : has_part (codes "org/deuce/transaction/") text ≡ true =
    ap (has_part (codes "org/deuce/transaction/")) (p.is ∙ ap (λ (l : List ℕ). p.before ++ l) (append_assoc (codes "org/deuce/transaction/") (codes "ArrayHelper") p.after))
    ∙ found_part 111 (codes "rg/deuce/transaction/") p.before (codes "ArrayHelper" ++ p.after) in
    first_of_six (has_part (codes "org/deuce/transaction/") text) (has_part (codes "__ADDRESS__") text) (has_part (codes "__Getter$") text) (has_part (codes "__Setter$") text) (has_part (codes "__CLASS_BASE__") text) (has_part (codes "__CLINIT__") text) front
  where
    first_of_six : (a b c d e f : Bool) → a ≡ true → (a || b || c || d || e || f) ≡ true
    first_of_six true b c d e f h = refl
    first_of_six false b c d e f h = cc

-- a part of a text that isn't kept isn't the helper's name
pub other_in : (n text : List ℕ) → is_reserved text ≡ false → IsPart n text → IsOther n
other_in n text free part = go (bytes_eq helper_class n) refl
  where
    go : (b : Bool) → bytes_eq helper_class n ≡ b → b ≡ false
    go true e = let fall : true ≡ false = sym (helper_kept text (subst (λ (n : List ℕ). IsPart n text) (sym ((bytes_eq-Decides helper_class n).0 e)) part)) ∙ free in cc
    go false e = refl

-- what follows a byte of such a text is such a text
free_tail : (x : ℕ) (t : List ℕ) → is_reserved (x ∷ t) ≡ false → is_reserved t ≡ false
free_tail x t e =
    let a = either_false (has_part (codes "org/deuce/transaction/") (x ∷ t) || has_part (codes "__ADDRESS__") (x ∷ t) || has_part (codes "__Getter$") (x ∷ t) || has_part (codes "__Setter$") (x ∷ t) || has_part (codes "__CLASS_BASE__") (x ∷ t)) (has_part (codes "__CLINIT__") (x ∷ t)) e in
    let b = either_false (has_part (codes "org/deuce/transaction/") (x ∷ t) || has_part (codes "__ADDRESS__") (x ∷ t) || has_part (codes "__Getter$") (x ∷ t) || has_part (codes "__Setter$") (x ∷ t)) (has_part (codes "__CLASS_BASE__") (x ∷ t)) a.0 in
    let c = either_false (has_part (codes "org/deuce/transaction/") (x ∷ t) || has_part (codes "__ADDRESS__") (x ∷ t) || has_part (codes "__Getter$") (x ∷ t)) (has_part (codes "__Setter$") (x ∷ t)) b.0 in
    let d = either_false (has_part (codes "org/deuce/transaction/") (x ∷ t) || has_part (codes "__ADDRESS__") (x ∷ t)) (has_part (codes "__Getter$") (x ∷ t)) c.0 in
    let f = either_false (has_part (codes "org/deuce/transaction/") (x ∷ t)) (has_part (codes "__ADDRESS__") (x ∷ t)) d.0 in
    all_false (has_part (codes "org/deuce/transaction/") t) (has_part (codes "__ADDRESS__") t) (has_part (codes "__Getter$") t) (has_part (codes "__Setter$") t) (has_part (codes "__CLASS_BASE__") t) (has_part (codes "__CLINIT__") t)
    (behind (codes "org/deuce/transaction/") f.0) (behind (codes "__ADDRESS__") f.1) (behind (codes "__Getter$") d.1) (behind (codes "__Setter$") c.1) (behind (codes "__CLASS_BASE__") b.1) (behind (codes "__CLINIT__") a.1)
  where
    behind : (part : List ℕ) → has_part part (x ∷ t) ≡ false → has_part part t ≡ false
    behind part e = (either_false (starts_with nat_eq (x ∷ t) part) (has_part part t) e).1

    all_false : (a b c d e f : Bool) → a ≡ false → b ≡ false → c ≡ false → d ≡ false → e ≡ false → f ≡ false → (a || b || c || d || e || f) ≡ false
    all_false a b c d e f p q r s t u = rw (p, q, r, s, t, u) refl

-- a text without its last byte is a part of it
last_part : (t : List ℕ) → IsPart (without_last t) t
last_part [] = part_whole []
last_part (x ∷ []) = record { before = []; after = x ∷ []; is = refl }
last_part (x ∷ y ∷ t) = let p = shorter (y ∷ t) in record { before = []; after = p.0; is = ap (λ (l : List ℕ). x ∷ l) p.1 }
  where
    shorter : (t : List ℕ) → (after : List ℕ) × (t ≡ without_last t ++ after)
    shorter [] = ([], refl)
    shorter (x ∷ []) = (x ∷ [], refl)
    shorter (x ∷ y ∷ t) = let p = shorter (y ∷ t) in (p.0, ap (λ (l : List ℕ). x ∷ l) p.1)

-- ---- types

module _ (cs all : List ClassFile) (reads : (name : List ℕ) → IsOther name → class_read all name ≡ class_read cs name) where
  -- the descriptor of an array, from the bracket on
  descriptor_alike : (d : List ℕ) → is_reserved d ≡ false → descriptor_read all d ≡ descriptor_read cs d
  descriptor_alike [] free = refl
  descriptor_alike (c ∷ d) free = go (c == 91) (c == 76) (descriptor_alike d (free_tail c d free))
    where
      class : class_read all (without_last d) ≡ class_read cs (without_last d)
      class = reads (without_last d) (other_in (without_last d) d (free_tail c d free) (last_part d))

      go : (a b : Bool) → descriptor_read all d ≡ descriptor_read cs d
          → (if a then c ∷ descriptor_read all d else (if b then codes "L" ++ class_read all (without_last d) ++ codes ";" else c ∷ d))
          ≡ (if a then c ∷ descriptor_read cs d else (if b then codes "L" ++ class_read cs (without_last d) ++ codes ";" else c ∷ d))
      go true b rest = ap (λ (l : List ℕ). c ∷ l) rest
      go false true rest = ap (λ (l : List ℕ). codes "L" ++ l ++ codes ";") class
      go false false rest = refl

  -- the type of a descriptor that isn't kept
  pub type_alike : (t : FieldType) → is_reserved (field_descriptor t) ≡ false → declared_as all t ≡ declared_as cs t
  type_alike field.Boolean free = refl
  type_alike field.Byte free = refl
  type_alike field.Char free = refl
  type_alike field.Short free = refl
  type_alike field.Int free = refl
  type_alike field.Long free = refl
  type_alike field.Float free = refl
  type_alike field.Double free = refl
  type_alike (field.Reference n) free = ap (λ (n : List ℕ). record { word = word.Reference; class = n }) (go (is_array_name n) refl)
    where
      go : (b : Bool) → is_array_name n ≡ b → name_read all n ≡ name_read cs n
      go true is =
          let laid : field_descriptor (field.Reference n) ≡ n = ap (λ b. if b then n else codes "L" ++ n ++ codes ";") is in
          ap (λ b. if b then descriptor_read all n else class_read all n) is ∙ descriptor_alike n (ap is_reserved (sym laid) ∙ free) ∙ sym (ap (λ b. if b then descriptor_read cs n else class_read cs n) is)
      go false is =
          let laid : field_descriptor (field.Reference n) ≡ codes "L" ++ n ++ codes ";" = ap (λ b. if b then n else codes "L" ++ n ++ codes ";") is in
          let part : IsPart n (codes "L" ++ n ++ codes ";") = record { before = codes "L"; after = codes ";"; is = refl } in
          ap (λ b. if b then descriptor_read all n else class_read all n) is ∙ reads n (other_in n (codes "L" ++ n ++ codes ";") (ap is_reserved (sym laid) ∙ free) part) ∙ sym (ap (λ b. if b then descriptor_read cs n else class_read cs n) is)
