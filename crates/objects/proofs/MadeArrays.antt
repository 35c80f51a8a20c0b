-- The array types that taken methods make have known elements, where no construct is left out.
use Rattle.std.proofs.Common.{◌≡◌, ℕ, List, [], ◌∷◌, ◌++◌, Option, Some, None, Bool, true, false, refl, sym, ap, subst, ◌∙◌, Result, Ok, Err}
use Rattle.std.specs.Prelude.{bytes_eq, ◌==◌, ◌||◌, option_and_then, if◌then◌else◌}
use Rattle.std.specs.List.{AllByRecursion, flat_map}
use Rattle.std.specs.Option.{option_or}
use Rattle.std.proofs.lemmas.Bool.Decides.{Decides-eqb}
use Rattle.jmodel.specs.declared.refusal.Refusal.{Refusal}
use Rattle.jmodel.specs.declared.instruction.Instr.{Instr}
use Rattle.jmodel.specs.format.ClassFile.{Pool, ClassFile}
use Rattle.jmodel.specs.format.Pool.{class_name}
use Rattle.objects.specs.linking.Classes.{Declared as DeclaredMember, is_before}
use Rattle.objects.specs.linking.Taken.{index_of}
use Rattle.objects.specs.linking.Faults.{first_fault}
use Rattle.objects.specs.linking.Code.{Coded, decoded}
use Rattle.objects.specs.linking.Constructs.{named_class, unknown_in, kind_fault, first_kinds, instr_fault, place_fault, catch_fault, code_construct, whole_fault, construct_fault}
use Rattle.jmodel.specs.format.Descriptor.{is_array_name, IsArrayName}
use Rattle.objects.specs.laws.LinkingLaw.{IsFormed}
use Rattle.objects.specs.linking.Linking.{taken_methods, constructs_fault}
use Rattle.objects.specs.linking.Layout.{with_text, in_text_order, array_over, some_array, made_by, made_in, made_arrays}

-- ---- lists

append : {B : Type 0} (Rule : B → Type 0) (ys zs : List B) → AllByRecursion Rule ys → AllByRecursion Rule zs → AllByRecursion Rule (ys ++ zs)
append Rule [] zs all more = more
append Rule (y ∷ ys) zs all more = (all.0, append Rule ys zs all.1 more)

all_flat : {A B : Type 0} (f : A → List B) (Given : A → Type 0) (Rule : B → Type 0) → ((x : A) → Given x → AllByRecursion Rule (f x)) → (xs : List A) → AllByRecursion Given xs → AllByRecursion Rule (flat_map f xs)
all_flat f Given Rule each [] all = tt
all_flat f Given Rule each (x ∷ xs) all = append Rule (f x) (flat_map f xs) (each x all.0) (all_flat f Given Rule each xs all.1)

with_one : (Rule : List ℕ → Type 0) (t : List ℕ) (us : List (List ℕ)) → Rule t → AllByRecursion Rule us → AllByRecursion Rule (with_text t us)
with_one Rule t [] h all = (h, tt)
with_one Rule t (u ∷ us) h all = go (bytes_eq t u) (is_before u t) (with_one Rule t us h all.1)
  where
    go : (a b : Bool) → AllByRecursion Rule (with_text t us) → AllByRecursion Rule (if a then u ∷ us else (if b then u ∷ with_text t us else t ∷ u ∷ us))
    go true b later = all
    go false true later = (all.0, later)
    go false false later = (h, all)

ordered : (Rule : List ℕ → Type 0) (ts : List (List ℕ)) → AllByRecursion Rule ts → AllByRecursion Rule (in_text_order ts)
ordered Rule [] all = tt
ordered Rule (t ∷ ts) all = with_one Rule t (in_text_order ts) all.0 (ordered Rule ts all.1)

no_first : (a b : Option Refusal) → option_or a b ≡ None → (a ≡ None) × (b ≡ None)
no_first None b e = (refl, e)
no_first (Some r) b e = cc

each_none : {A : Type 0} (fault : A → Option Refusal) (xs : List A) → first_fault fault xs ≡ None → AllByRecursion (λ x. fault x ≡ None) xs
each_none fault [] e = tt
each_none fault (x ∷ xs) e = let a = no_first (fault x) (first_fault fault xs) e in (a.0, each_none fault xs a.1)

-- ---- instructions that make arrays

some_class : (c : ℕ) → (c == 189) ≡ true → ((c == 187) || (c == 189) || (c == 192) || (c == 193)) ≡ true
some_class c is = subst (λ n. ((n == 187) || (n == 189) || (n == 192) || (n == 193)) ≡ true) (sym ((Decides-eqb c 189).0 is)) refl

module _ (cs : List ClassFile) where
  -- the class that an instruction of this method makes arrays over is known
  pub record IsMade (n : List ℕ) : Type 0 where
    pub pool : Pool
    pub index : ℕ
    pub name : List ℕ
    pub there : class_name pool index ≡ Some name
    pub known : unknown_in cs (Some name) ≡ None
    pub over : n ≡ array_over name
    pub formed : is_array_name name ≡ true → IsArrayName name

  by_instr : (k : DeclaredMember) → IsFormed k.class.pool → (i : Instr) → instr_fault cs k i ≡ None → AllByRecursion IsMade (made_by k.class.pool i)
  by_instr k f i e = go (i.op == 189) refl
    where
      unknown : unknown_in cs (named_class k.class.pool i) ≡ None
      unknown = (no_first (unknown_in cs (named_class k.class.pool i)) _ (no_first (kind_fault k i.pc (first_kinds k.class.pool i)) _ e).1).0

      is_new_array : (i.op == 189) ≡ true → named_class k.class.pool i ≡ option_and_then (class_name k.class.pool) (index_of i.operands)
      is_new_array is = ap (λ b. if b then option_and_then (class_name k.class.pool) (index_of i.operands) else None) (some_class i.op is)

      index : (o : Option ℕ) → unknown_in cs (option_and_then (class_name k.class.pool) o) ≡ None → AllByRecursion IsMade (some_array (option_and_then (class_name k.class.pool) o))
      index None e = tt
      index (Some j) e = by (class_name k.class.pool j) refl e
        where
          by : (o : Option (List ℕ)) → class_name k.class.pool j ≡ o → unknown_in cs o ≡ None → AllByRecursion IsMade (some_array o)
          by None is e = tt
          by (Some n) is e = (record { pool = k.class.pool; index = j; name = n; there = is; known = e; over = refl; formed = f j n is }, tt)

      go : (b : Bool) → (i.op == 189) ≡ b → AllByRecursion IsMade (if b then some_array (option_and_then (class_name k.class.pool) (index_of i.operands)) else [])
      go true is = index (index_of i.operands) (ap (unknown_in cs) (sym (is_new_array is)) ∙ unknown)
      go false is = tt

  abbrev IsReady : DeclaredMember → Type 0
  IsReady k = IsFormed k.class.pool × (construct_fault cs k ≡ None)

  by_code : (k : DeclaredMember) → IsReady k → AllByRecursion IsMade (made_in k.class.pool (decoded k.class k.member))
  by_code k e = go (decoded k.class k.member) (no_first (whole_fault k) (code_construct cs k (decoded k.class k.member)) e.1).1
    where
      formed : IsFormed k.class.pool
      formed = e.0

      go : (r : Result Coded Refusal) → code_construct cs k r ≡ None → AllByRecursion IsMade (made_in k.class.pool r)
      go (Err r) e = tt
      go (Ok x) e =
          all_flat (made_by k.class.pool) (λ i. place_fault cs k x.code.handlers i ≡ None) IsMade
          (λ i h. by_instr k formed i (no_first (first_fault (catch_fault cs k.class.pool i.pc) x.code.handlers) (instr_fault cs k i) h).1) x.instrs (each_none (place_fault cs k x.code.handlers) x.instrs e)

  ready : (ks : List DeclaredMember) → AllByRecursion (λ (k : DeclaredMember). IsFormed k.class.pool) ks → AllByRecursion (λ k. construct_fault cs k ≡ None) ks → AllByRecursion IsReady ks
  ready [] all more = tt
  ready (k ∷ ks) all more = ((all.0, more.0), ready ks all.1 more.1)

  pub all_made : AllByRecursion (λ (k : DeclaredMember). IsFormed k.class.pool) (taken_methods cs) → constructs_fault cs ≡ None → AllByRecursion IsMade (made_arrays cs)
  all_made formed e =
      ordered IsMade (flat_map (λ (k : DeclaredMember). made_in k.class.pool (decoded k.class k.member)) (taken_methods cs))
      (all_flat (λ (k : DeclaredMember). made_in k.class.pool (decoded k.class k.member)) IsReady IsMade by_code (taken_methods cs) (ready (taken_methods cs) formed (each_none (construct_fault cs) (taken_methods cs) e)))
