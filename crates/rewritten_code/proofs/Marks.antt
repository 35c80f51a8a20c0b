-- How many attempts a method grants, over a longer pool.
use Rattle.std.proofs.Common.{◌≡◌, ℕ, ℤ, Bool, true, false, List, [], ◌∷◌, ◌++◌, Option, Some, None, Result, Ok, Err, refl, sym, ap, ◌∙◌}
use Rattle.std.specs.Prelude.{codes, filter, pos, if◌then◌else◌}
use Rattle.std.specs.List.{AllByRecursion}
use Rattle.jmodel.specs.declared.mark.Atomic.{Atomic}
use Rattle.jmodel.specs.declared.mark.AnnotationFault.{AnnotationFault}
use Rattle.jmodel.specs.declared.mark.AnnotationFault.TheVariants.{Bad, Retries}
use Rattle.jmodel.specs.format.ClassFile.{Attribute, Pool, Member, ClassFile}
use Rattle.jmodel.specs.format.Pool.{utf8}
use Rattle.jmodel.specs.format.ClassRules.{IsAttribute, is_named, named_attributes}
use Rattle.jmodel.specs.format.AnnotationRules.{integer_in, integer}
use Rattle.jmodel.specs.format.Mark.{annotation_attributes, mark_of}
use Rattle.objects.specs.linking.Code.{attempts_in, mark_retries, is_initialiser, retries_of}
use Rattle.objects.specs.linking.Faults.{fault_in, may_be_marked, mark_fault}
use Rattle.objects.specs.linking.Members.{name_of}
use Rattle.jmodel.specs.format.Name.{printed}
use Rattle.annotations.proofs.Kept.{mark_kept}
use Rattle.member_code.proofs.Grown.{Grown, read_grown, utf8_grown}
use Rattle.rewritten_code.proofs.CodeKept.{named_same}

-- annotations and the mark without a fault
abbrev pub HasMark : Pool → Member → Type 0
HasMark pool m = (found : Option Atomic) × (mark_of pool m ≡ Ok found)

-- linking refuses others
pub has_mark : (c : ClassFile) (m : Member) → mark_fault c m ≡ None → HasMark c.pool m
has_mark c m e = go (mark_of c.pool m) refl e
  where
    go : (r : Result (Option Atomic) AnnotationFault) → mark_of c.pool m ≡ r → fault_in (printed (name_of c m)) (may_be_marked c.pool m) r ≡ None → HasMark c.pool m
    go (Ok found) f e = (found, f)
    go (Err (Bad at)) f e = cc
    go (Err (Retries n)) f e = cc

-- what passes is kept
filter_keeps : {A : Type 0} (p : A → Bool) (x : A) (xs : List A) → p x ≡ true → filter p (x ∷ xs) ≡ x ∷ filter p xs
filter_keeps p x xs e = rw e refl

-- what fails is dropped
filter_drops : {A : Type 0} (p : A → Bool) (x : A) (xs : List A) → p x ≡ false → filter p (x ∷ xs) ≡ filter p xs
filter_drops p x xs e = rw e refl

-- of a static initialiser a number, else another's
chosen : (a b : Bool) (o p : Option ℤ) → a ≡ b → o ≡ p → (if a then Some (pos 2147483647) else o) ≡ (if b then Some (pos 2147483647) else p)
chosen a b o p e f = rw (e, f) refl

module _ (pool Z : Pool) (G : Grown pool Z) where
  -- the attributes of a name are the same
  attributes_same : (name : List ℕ) (xs : List Attribute) → AllByRecursion (IsAttribute pool) xs → named_attributes Z name xs ≡ named_attributes pool name xs
  attributes_same name [] L = refl
  attributes_same name (a ∷ xs) L = go (attributes_same name xs L.1) (is_named pool name a) refl
    where
      go : named_attributes Z name xs ≡ named_attributes pool name xs → (b : Bool) → is_named pool name a ≡ b → named_attributes Z name (a ∷ xs) ≡ named_attributes pool name (a ∷ xs)
      go rest true e = filter_keeps (is_named Z name) a xs (named_same pool Z G name a L.0 ∙ e) ∙ ap (λ (l : List Attribute). a ∷ l) rest ∙ sym (filter_keeps (is_named pool name) a xs e)
      go rest false e = filter_drops (is_named Z name) a xs (named_same pool Z G name a L.0 ∙ e) ∙ rest ∙ sym (filter_drops (is_named pool name) a xs e)

  -- so are those with annotations
  annotations_same : (xs : List Attribute) → AllByRecursion (IsAttribute pool) xs → annotation_attributes Z xs ≡ annotation_attributes pool xs
  annotations_same xs L =
      ap (λ (l : List Attribute). l ++ named_attributes Z (codes "RuntimeInvisibleAnnotations") xs) (attributes_same (codes "RuntimeVisibleAnnotations") xs L)
      ∙ ap (λ (l : List Attribute). named_attributes pool (codes "RuntimeVisibleAnnotations") xs ++ l) (attributes_same (codes "RuntimeInvisibleAnnotations") xs L)

  -- a number of the pool stays
  numbers_grown : (i : ℕ) (n : ℤ) → integer pool i ≡ Some n → integer Z i ≡ Some n
  numbers_grown i n h = read_grown integer_in integer_in n (λ k e. e) pool Z G i h

  -- the mark says the same
  mark_stays : (m : Member) → AllByRecursion (IsAttribute pool) m.attributes → HasMark pool m → mark_retries Z m ≡ mark_retries pool m
  mark_stays m L mark = ap attempts_in (mark_kept pool Z (utf8_grown pool Z G) numbers_grown m m mark.0 (annotations_same m.attributes L) mark.1) ∙ sym (ap attempts_in mark.1)

  -- a static initialiser is one in both
  initialiser_same : (m : Member) (t d : List ℕ) → utf8 pool m.name ≡ Some t → utf8 pool m.descriptor ≡ Some d → is_initialiser Z m ≡ is_initialiser pool m
  initialiser_same m t d named typed =
      let n = utf8_grown pool Z G m.name t named in
      let y = utf8_grown pool Z G m.descriptor d typed in
      rw (n, y, named, typed) refl

  -- how many attempts a call from outside may make stays
  pub retries_stay : (m : Member) (t d : List ℕ) → utf8 pool m.name ≡ Some t → utf8 pool m.descriptor ≡ Some d → AllByRecursion (IsAttribute pool) m.attributes → HasMark pool m → retries_of Z m ≡ retries_of pool m
  retries_stay m t d named typed L mark =
      chosen (is_initialiser Z m) (is_initialiser pool m) (mark_retries Z m) (mark_retries pool m) (initialiser_same m t d named typed) (mark_stays m L mark)
