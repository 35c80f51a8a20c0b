-- What class files that are read from a folder keep: names of classes, and no text that rewriting keeps for itself.
use Rattle.std.proofs.Common.{◌≡◌, ℕ, zero, suc, List, [], ◌∷◌, Option, Some, None, Bool, true, false, not, refl, sym, ap, subst, ◌∙◌}
use Rattle.std.specs.Prelude.{slice_get, bytes_eq, option_and_then, if◌then◌else◌, IsSomeAnd}
use Rattle.std.specs.List.{AllByRecursion, list_all}
use Rattle.std.proofs.lemmas.Slice.Eq.{bytes_eq-Decides}
use Rattle.jmodel.specs.declared.refusal.Refusal.TheVariants.{ReservedName}
use Rattle.jmodel.specs.declared.class_file.Constant.{Constant}
use Rattle.jmodel.specs.declared.class_file.Constant.TheVariants as constants
use Rattle.jmodel.specs.format.ClassFile.{Pool, ClassFile}
use Rattle.jmodel.specs.format.Pool.{entry, text_in, utf8, name_in, class_name, text_or_none}
use Rattle.jmodel.specs.format.ClassRules.{IsClassFile, IsConstant, IsNameOf}
use Rattle.jmodel.specs.format.Descriptor.{is_array_name, IsClassName}
use Rattle.objects.specs.linking.Reserved.{is_reserved, is_unreserved}
use Rattle.objects.specs.linking.Members.{own_name}
use Rattle.objects.specs.linking.Superclasses.{class_named}
use Rattle.objects.specs.typing.TypeOrder.{is_class_name, context_class, conflict_class}
use Rattle.objects.specs.linking.ClassesFaults.{reserved_fault}
use Rattle.objects.specs.laws.LinkingLaw.{IsFormed, AreRead}
use Rattle.objects.proofs.Items.{IsAt, item, found, each_passes}
use Rattle.objects.proofs.ClassTypes.{each_none}

-- ---- entries of a pool

-- what an index names stands in the pool
pub entry_at : (pool : Pool) (i : ℕ) (k : Constant) → entry pool i ≡ Some k → IsAt pool k
entry_at pool zero k e = cc
entry_at pool (suc i) k e = (i, e)

-- a text is that of an entry
pub text_entry : (pool : Pool) (i : ℕ) (t : List ℕ) → utf8 pool i ≡ Some t → IsAt pool (constants.Utf8 t)
text_entry pool i t e = go (entry pool i) refl e
  where
    by : (k : Constant) → entry pool i ≡ Some k → text_in k ≡ Some t → IsAt pool (constants.Utf8 t)
    by (constants.Utf8 u) is e = let s : u ≡ t = cc in entry_at pool i (constants.Utf8 t) (is ∙ ap (λ (u : List ℕ). Some (constants.Utf8 u)) s)
    by k is e = cc

    go : (o : Option Constant) → entry pool i ≡ o → option_and_then text_in o ≡ Some t → IsAt pool (constants.Utf8 t)
    go None is e = cc
    go (Some k) is e = by k is e

-- the name of a class is the text of an entry of its own
pub record IsNamedClass (pool : Pool) (n : List ℕ) : Type 0 where
  pub index : ℕ
  pub there : IsAt pool (constants.Class index)
  pub text : utf8 pool index ≡ Some n

pub name_entry : (pool : Pool) (i : ℕ) (n : List ℕ) → class_name pool i ≡ Some n → IsNamedClass pool n
name_entry pool i n e = go (entry pool i) refl e
  where
    by : (k : Constant) → entry pool i ≡ Some k → name_in pool k ≡ Some n → IsNamedClass pool n
    by (constants.Class j) is e = record { index = j; there = entry_at pool i (constants.Class j) is; text = e }
    by k is e = cc

    go : (o : Option Constant) → entry pool i ≡ o → option_and_then (name_in pool) o ≡ Some n → IsNamedClass pool n
    go None is e = cc
    go (Some k) is e = by k is e

-- ---- names

-- names of classes that begin as arrays' are arrays'
pub formed : (pool : Pool) → AllByRecursion (IsConstant pool) pool → IsFormed pool
formed pool all i n e is =
    let k = name_entry pool i n e in
    let c = item (IsConstant pool) pool (constants.Class k.index) all k.there in
    let fits : IsSomeAnd (Some n) (λ n. IsNameOf (is_array_name n) n) = subst (λ (o : Option (List ℕ)). IsSomeAnd o (λ n. IsNameOf (is_array_name n) n)) k.text c.1 in
    subst (λ b. IsNameOf b n) is fits

-- the name of the class itself
pub own_class_name : (c : ClassFile) → IsClassFile c → IsClassName (own_name c)
own_class_name c f = go (class_name c.pool c.this_class) f.this_name
  where
    go : (o : Option (List ℕ)) → IsSomeAnd o IsClassName → IsClassName (text_or_none o)
    go None h = absurd h
    go (Some n) h = h

pub has_class_name : (n : List ℕ) → IsClassName n → is_class_name n ≡ true
has_class_name [] h = absurd (h.is_there refl)
has_class_name (x ∷ xs) h = ap not h.no_array

pub named_as : (cs : List ClassFile) (n : List ℕ) (c : ClassFile) → class_named cs n ≡ Some c → IsAt cs c × (own_name c ≡ n)
named_as cs n c e = let f = found (λ c. bytes_eq (own_name c) n) cs c e in (f.0, (bytes_eq-Decides (own_name c) n).0 f.1)

-- ---- what rewriting keeps for itself

module _ (cs : List ClassFile) (read : AreRead cs) where
  pub is_file : (c : ClassFile) → IsAt cs c → IsClassFile c
  is_file c h = item IsClassFile cs c read.files h

  -- no text of a class is kept
  pub unreserved : (c : ClassFile) → IsAt cs c → (i : ℕ) (t : List ℕ) → utf8 c.pool i ≡ Some t → is_reserved t ≡ false
  unreserved c h i t e = by (is_reserved t) (each_passes is_unreserved c.pool (free (list_all is_unreserved c.pool) (item (λ c. reserved_fault c ≡ None) cs c (each_none reserved_fault cs read.reserved) h)) (constants.Utf8 t) (text_entry c.pool i t e))
    where
      free : (b : Bool) → (if b then None else Some (ReservedName (own_name c))) ≡ None → b ≡ true
      free true e = refl
      free false e = cc

      by : (b : Bool) → not b ≡ true → b ≡ false
      by true e = cc
      by false e = refl

  -- no class has such a name
  pub not_named : (n : List ℕ) → is_reserved n ≡ true → class_named cs n ≡ None
  not_named n is = go (class_named cs n) refl
    where
      by : (c : ClassFile) → IsAt cs c → (o : Option (List ℕ)) → class_name c.pool c.this_class ≡ o → text_or_none o ≡ n → ⊥
      by c h None f e = let fall : is_reserved [] ≡ true = ap is_reserved e ∙ is in cc
      by c h (Some m) f e =
          let k = name_entry c.pool c.this_class m f in
          let fall : true ≡ false = sym is ∙ ap is_reserved (sym e) ∙ unreserved c h k.index m k.text in
          cc

      go : (o : Option ClassFile) → class_named cs n ≡ o → o ≡ None
      go None f = refl
      go (Some c) f = let a = named_as cs n c f in absurd (by c a.0 (class_name c.pool c.this_class) refl a.1)

  pub no_context : class_named cs context_class ≡ None
  no_context = not_named context_class refl

  pub no_conflict : class_named cs conflict_class ≡ None
  no_conflict = not_named conflict_class refl

  pub class_names : (i : ℕ) (c : ClassFile) → slice_get cs i ≡ Some c → is_class_name (own_name c) ≡ true
  class_names i c h = has_class_name (own_name c) (own_class_name c (is_file c (i, h)))
