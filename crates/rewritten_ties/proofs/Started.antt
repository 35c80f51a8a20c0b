-- A taken method that makes attempts has code, and its attempts are an int.
use Rattle.std.proofs.Common.{◌≡◌, ℕ, ℤ, List, [], ◌∷◌, Option, Some, None, Result, Ok, Err, Bool, true, false, ◌||◌, refl, sym, ◌∙◌, subst, arith}
use Rattle.std.specs.Prelude.{pos, codes, filter, cond, find, int_lt, ◌==◌, if◌then◌else◌, option_map, option_and_then, unwrap_or, FitsSigned}
use Rattle.std.specs.Int.{w32}
use Rattle.std.specs.List.{AllByRecursion, list_any}
use Rattle.std.proofs.lemmas.Int.{ints}
use Rattle.jmodel.specs.declared.class_file.Constant.{Constant}
use Rattle.jmodel.specs.declared.class_file.Constant.TheVariants as constants
use Rattle.jmodel.specs.declared.mark.AnnotationFault.TheVariants.{Retries}
use Rattle.jmodel.specs.format.Annotation.{Pair, Annotation, Shape, Single, Enum, Nested, Array, Value}
use Rattle.jmodel.specs.format.AnnotationRules as annotation
use Rattle.jmodel.specs.format.AnnotationReading.{◌>>=◌, value_at}
use Rattle.jmodel.specs.format.ClassFile.{Attribute, Member, Pool, ClassFile}
use Rattle.jmodel.specs.format.ClassRules.{IsConstant, IsMethod, AreCodes, named_attributes, is_named}
use Rattle.objects.specs.linking.Code.{attempts_in, mark_retries, is_initialiser, retries_of}
use Rattle.objects.specs.linking.Faults.{mark_fault}
use Rattle.jmodel.specs.format.Mark.{annotation_attributes, all_annotations, marked_retries, retries_in, granted, answer}
use Rattle.jmodel.specs.format.Pool.{entry}
use Rattle.objects.specs.linking.Classes.{Declared, methods_in}
use Rattle.objects.specs.semantics.Program.{Program}
use Rattle.objects.specs.linking.Constructs.{has_flag}
use Rattle.objects.specs.linking.Linking.{has_no_code, taken_methods}
use Rattle.objects.specs.laws.LinkingLaw.{AreRead}
use Rattle.objects.proofs.AsRead.{entry_at, is_file}
use Rattle.objects.proofs.ClassTypes.{each_none}
use Rattle.objects.proofs.CleanCode.{clean_whole, taken_clean}
use Rattle.objects.proofs.DeclaredMembers.{of_methods}
use Rattle.objects.proofs.Items.{IsAt, item}
use Rattle.objects.proofs.Links.{IsLinkedTo}
use Rattle.objects.proofs.TakenMembers.{in_methods, codeless_unmarked}
use Rattle.rewritten_ties.specs.StartLaw.{IsStart}

-- ---- attempts

abbrev most : ℤ
most = pos 2147483647

-- the attempts of static initialisers
most_fits : FitsSigned w32 most
most_fits = grind (arith, ints)

module _ (pool : Pool) (fits : AllByRecursion (IsConstant pool) pool) where
  -- an Integer of the pool
  number_fits : (i : ℕ) (n : ℤ) → annotation.integer pool i ≡ Some n → FitsSigned w32 n
  number_fits i n e = go (entry pool i) refl e
    where
      by : (k : Constant) → IsConstant pool k → annotation.integer_in k ≡ Some n → FitsSigned w32 n
      by (constants.Integer x) f e = let same : x ≡ n = cc in subst (FitsSigned w32) same f
      by k f e = cc

      go : (o : Option Constant) → entry pool i ≡ o → option_and_then annotation.integer_in o ≡ Some n → FitsSigned w32 n
      go None is e = cc
      go (Some k) is e = by k (item (IsConstant pool) pool k fits (entry_at pool i k is)) e

  -- the value of a pair
  int_fits : {V : Type 0} (v : Shape V) (n : ℤ) → annotation.int_of pool v ≡ Some n → FitsSigned w32 n
  int_fits (Single tag index) n e = go (tag == 73) e
    where
      go : (b : Bool) → (if b then annotation.integer pool index else None) ≡ Some n → FitsSigned w32 n
      go true e = number_fits index n e
      go false e = cc
  int_fits (Enum class name) n e = cc
  int_fits (Nested a) n e = cc
  int_fits (Array vs) n e = cc

  -- what a mark grants
  mark_fits : {V : Type 0} (a : Annotation (Shape V)) → FitsSigned w32 (annotation.retries_of pool a)
  mark_fits {V} a = go (find (annotation.is_retries pool) a.pairs)
    where
      by : (p : Pair (Shape V)) (o : Option ℤ) → annotation.int_of pool p.value ≡ o → FitsSigned w32 (unwrap_or o most)
      by p None e = most_fits
      by p (Some n) e = int_fits p.value n e

      go : (o : Option (Pair (Shape V))) → FitsSigned w32 (unwrap_or (option_and_then (λ (p : Pair (Shape V)). annotation.int_of pool p.value) o) most)
      go None = most_fits
      go (Some p) = by p (annotation.int_of pool p.value) refl

  -- what the first mark grants
  marked_fits : {V : Type 0} (every : List (Annotation (Shape V))) (n : ℤ) → marked_retries pool every ≡ Some n → FitsSigned w32 n
  marked_fits {V} every n e = go (find (annotation.is_mark pool) every) e
    where
      go : (o : Option (Annotation (Shape V))) → option_map (annotation.retries_of pool) o ≡ Some n → FitsSigned w32 n
      go None e = cc
      go (Some a) e = let same : annotation.retries_of pool a ≡ n = cc in subst (FitsSigned w32) same (mark_fits a)

  -- what the attributes of a method grant
  found_fits : (xs : List Attribute) (n : ℤ) → retries_in pool xs ≡ Ok (Some n) → FitsSigned w32 n
  unfolding retries_in
  found_fits xs n e = go (all_annotations pool (value_at 16 pool) true (annotation_attributes pool xs)) e
    where
      go : (r : Result (List (Annotation (Shape (Value 15)))) ℕ) → (r >>= λ every. Ok (marked_retries pool every)) ≡ Ok (Some n) → FitsSigned w32 n
      go (Err at) e = cc
      go (Ok every) e = let some : marked_retries pool every ≡ Some n = cc in marked_fits every n some

  -- the attempts of a method
  attempts_fit : (m : Member) (n : ℤ) → retries_of pool m ≡ Some n → FitsSigned w32 n
  attempts_fit m n e = go (is_initialiser pool m) e
    where
      granted_so : (o : Option ℤ) → retries_in pool m.attributes ≡ Ok o → attempts_in (granted o) ≡ Some n → FitsSigned w32 n
      granted_so None is e = cc
      granted_so (Some x) is e = by (int_lt x (pos 1)) e
        where
          by : (b : Bool) → attempts_in (if b then Err (Retries x) else Ok (Some (record { retries = x }))) ≡ Some n → FitsSigned w32 n
          by true e = cc
          by false e = let same : x ≡ n = cc in subst (FitsSigned w32) same (found_fits m.attributes x is)

      answered : (r : Result (Option ℤ) ℕ) → retries_in pool m.attributes ≡ r → attempts_in (answer r) ≡ Some n → FitsSigned w32 n
      answered (Err at) is e = cc
      answered (Ok o) is e = granted_so o is e

      go : (b : Bool) → (if b then Some most else mark_retries pool m) ≡ Some n → FitsSigned w32 n
      go true e = let same : most ≡ n = cc in subst (FitsSigned w32) same most_fits
      go false e = answered (retries_in pool m.attributes) refl e

-- ---- code

-- a list of which one item passes a test
any_kept : {A : Type 0} (p : A → Bool) (xs : List A) (a : A) → filter p xs ≡ a ∷ [] → list_any p xs ≡ true
any_kept p [] a e = cc
any_kept {A} p (x ∷ xs) a e = go (p x) e (any_kept p xs a)
  where
    go : (b : Bool) → cond b (x ∷ filter p xs) (filter p xs) ≡ a ∷ [] → (filter p xs ≡ a ∷ [] → list_any p xs ≡ true) → (b || list_any p xs) ≡ true
    go true e rest = refl
    go false e rest = rest e

module _ (cs : List ClassFile) (P : Program) (read : AreRead cs) (l : IsLinkedTo cs P) where
  -- code and attempts
  pub is_start : (c : ClassFile) (m : Member) → IsAt (taken_methods cs) (record { class = c; member = m }) → (attempts : ℤ) → retries_of c.pool m ≡ Some attempts → IsStart c m attempts
  is_start c m taken attempts e =
      let k : Declared = record { class = c; member = m } in
      let all = in_methods cs k taken in
      let p = of_methods cs k all in
      let file = is_file cs read c p.0 in
      let method = item (IsMethod c.pool) c.methods m file.methods p.1 in
      let marks : mark_fault c m ≡ None = item (λ (k : Declared). mark_fault k.class k.member ≡ None) (methods_in cs) k (each_none (λ (k : Declared). mark_fault k.class k.member) (methods_in cs) l.marks) all in
      let whole = clean_whole cs k (taken_clean cs l.constructs k taken) in
      let coded = flags marks whole.native (has_no_code m) refl in
      record { code = record { flags = coded; attributes = method.member.attributes.each; there = in_code (has_no_code m) coded method.codes_fit }; fits = attempts_fit c.pool file.pool.entries m attempts e }
    where
      flags : mark_fault c m ≡ None → has_flag 0x100 m ≡ false → (b : Bool) → has_no_code m ≡ b → b ≡ false
      flags marks native true is = let fall : None ≡ Some attempts = sym (codeless_unmarked c m marks native is) ∙ e in cc
      flags marks native false is = refl

      in_code : (b : Bool) → b ≡ false → AreCodes c.pool b (named_attributes c.pool (codes "Code") m.attributes) → list_any (is_named c.pool (codes "Code")) m.attributes ≡ true
      in_code true is a = cc
      in_code false is a = any_kept (is_named c.pool (codes "Code")) m.attributes a.0 a.2
