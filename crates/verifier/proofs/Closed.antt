-- Types that the instructions of a program don't lead out of, and flows over stacks of such.
use Rattle.std.proofs.Common.{◌≡◌, ℕ, zero, suc, List, [], ◌∷◌, ◌++◌, map, Some, Bool, true, false, refl, subst}
use Rattle.std.specs.Prelude.{slice_get, slice_set, if◌then◌else◌}
use Rattle.std.specs.List.{AllByRecursion}
use Rattle.jmodel.specs.declared.typing.VType.{VType}
use Rattle.jmodel.specs.declared.typing.VType.TheVariants.{Int, Long, Second, Null, Ref}
use Rattle.objects.specs.declared.op.Width.{Width}
use Rattle.objects.specs.declared.op.Width.TheVariants as width
use Rattle.objects.specs.declared.op.Op.TheVariants as op
use Rattle.objects.specs.semantics.Program.{Field, Method, Row, Program, method_at, field_at, row_at}
use Rattle.objects.specs.typing.TypeOrder.{object_class, string_class, context_class, is_array, element_class, name_read, stack_types, is_within}
use Rattle.objects.specs.typing.Typing.{Flow, Leads, Wrong, if_so, on, on_each, on_int, on_number, on_top, on_one, on_two, on_array, is_one, become, is_uninit, results}

abbrev pub IsPlain : VType → Type 0
IsPlain (Ref n) = ⊥
IsPlain t = Unit {0}

-- types that a program's instructions don't lead out of
pub record IsClosed (P : Program) (k : Method) (Q : VType → Type 0) : Type 0 where
  pub plain : (t : VType) → IsPlain t → Q t
  pub element : (n : List ℕ) → is_array n ≡ true → Q (Ref n) → Q (Ref (element_class n))
  pub object : Q (Ref object_class)
  pub string : Q (Ref string_class)
  pub context : Q (Ref context_class)
  pub own : Q (Ref k.name.class)
  pub fields : (i : ℕ) (f : Field) → field_at P i ≡ Some f → AllByRecursion Q (stack_types f.declared)
  pub gives : (m : ℕ) (c : Method) → method_at P m ≡ Some c → AllByRecursion Q (results c)
  pub made : (m : ℕ) (c : Method) → method_at P m ≡ Some c → Q (Ref c.name.class)
  pub arrays : (t : ℕ) (r : Row) → row_at P t ≡ Some r → Q (Ref r.read)
  pub casts : (pc : ℕ) (c : List ℕ) → slice_get k.ops pc ≡ Some (op.CheckCast c) → Q (Ref (name_read P c))
  pub library : (pc : ℕ) (c : List ℕ) (n : ℕ) → slice_get k.ops pc ≡ Some (op.InitLibrary c n) → Q (Ref c)

-- What an instruction brings. `Q` is said of types that were there and of those without a name, and `B` of lists of types that it puts on top of a stack of such.
pub record Brings (P : Program) (k : Method) (pc : ℕ) (Q : VType → Type 0) (B : List VType → Type 0) : Type 0 where
  pub plain : (t : VType) → IsPlain t → Q t
  pub there : (ls : List VType) → AllByRecursion Q ls → B ls
  pub element : (n : List ℕ) → is_array n ≡ true → Q (Ref n) → B (Ref (element_class n) ∷ [])
  pub object : B (Ref object_class ∷ [])
  pub string : B (Ref string_class ∷ [])
  pub context : B (Ref context_class ∷ [])
  pub fields : (i : ℕ) (f : Field) → field_at P i ≡ Some f → B (stack_types f.declared)
  pub gives : (m : ℕ) (c : Method) → method_at P m ≡ Some c → B (results c)
  pub arrays : (t : ℕ) (r : Row) → row_at P t ≡ Some r → B (Ref r.read ∷ [])
  pub casts : (c : List ℕ) → slice_get k.ops pc ≡ Some (op.CheckCast c) → B (Ref (name_read P c) ∷ [])
  pub called : (m : ℕ) (c : Method) → slice_get k.ops pc ≡ Some (op.InvokeSpecial m) → method_at P m ≡ Some c → Q (Ref k.name.class) × Q (Ref c.name.class)
  pub library : (c : List ℕ) (n : ℕ) → slice_get k.ops pc ≡ Some (op.InitLibrary c n) → Q (Ref k.name.class) × Q (Ref c)

module _ (Q : VType → Type 0) where
  abbrev pub AllOf : List VType → Type 0
  AllOf ts = AllByRecursion Q ts

  -- of two lists
  pub all_append : (l m : List VType) → AllOf l → AllOf m → AllOf (l ++ m)
  all_append [] m a b = b
  all_append (t ∷ l) m a b = (a.0, all_append l m a.1 b)

  -- with another at a place
  pub all_set : (l : List VType) (i : ℕ) (t : VType) → AllOf l → Q t → AllOf (slice_set l i t)
  all_set [] i t a q = tt
  all_set (u ∷ l) zero t a q = (q, a.1)
  all_set (u ∷ l) (suc i) t a q = (a.0, all_set l i t a.1 q)

  -- the one at a place
  pub all_at : (l : List VType) (i : ℕ) (t : VType) → AllOf l → slice_get l i ≡ Some t → Q t
  all_at [] i t a e = absurd (let no : ⊥ = cc in no)
  all_at (u ∷ l) zero t a e = let s : u ≡ t = cc in subst Q s a.0
  all_at (u ∷ l) (suc i) t a e = all_at l i t a.1 e

  -- with one in place of an object that isn't built
  pub become_fine : (u t v : VType) → Q t → Q v → Q (become u t v)
  become_fine u t v q r = by (is_uninit u v)
    where
      by : (b : Bool) → Q (if b then t else v)
      by true = q
      by false = r

  -- so in each place
  pub all_become : (u t : VType) (l : List VType) → Q t → AllOf l → AllOf (map (become u t) l)
  all_become u t [] q a = tt
  all_become u t (v ∷ l) q a = (become_fine u t v q a.0, all_become u t l q a.1)

  -- where a flow goes on, each type is one of them
  abbrev pub IsFine : Flow → Type 0
  IsFine Wrong = Unit {0}
  IsFine (Leads tos x) = AllOf x.locals × AllOf x.stack

-- flows over stacks of such types, of which something is asked that holds where an instruction goes nowhere
module _ (Q : VType → Type 0) (F : Flow → Type 0) (wrong : F Wrong) where
  abbrev pub Goes : (List VType → Flow) → Type 0
  Goes f = (s : List VType) → AllOf Q s → F (f s)

  abbrev pub GoesBy : (VType → List VType → Flow) → Type 0
  GoesBy f = (t : VType) (s : List VType) → Q t → AllOf Q s → F (f t s)

  -- under a condition
  pub so_fine : (b : Bool) (f : Flow) → F f → F (if_so b f)
  so_fine true f g = g
  so_fine false f g = wrong

  -- where the condition may be used
  pub so_if : (b : Bool) (f : Flow) → (b ≡ true → F f) → F (if_so b f)
  so_if true f g = g refl
  so_if false f g = wrong

  -- behind an int
  pub int_fine : (f : List VType → Flow) → Goes f → Goes (λ s. on_int s f)
  int_fine f g [] a = wrong
  int_fine f g (Int ∷ s) a = g s a.1
  int_fine f g (t ∷ s) a = wrong

  -- behind what is on top
  pub top_fine : (f : VType → List VType → Flow) → GoesBy f → Goes (λ s. on_top s f)
  top_fine f g [] a = wrong
  top_fine f g (t ∷ s) a = g t s a.0 a.1

  -- behind a value of one place
  pub one_fine : (f : VType → List VType → Flow) → GoesBy f → Goes (λ s. on_one s f)
  one_fine f g = top_fine (λ t s. if_so (is_one t) (f t s)) (λ t s q a. so_fine (is_one t) (f t s) (g t s q a))

  -- behind a long, or two values
  pub two_fine : (f : VType → VType → List VType → Flow) → ((t u : VType) (s : List VType) → Q t → Q u → AllOf Q s → F (f t u s)) → Goes (λ s. on_two s f)
  two_fine f g (Second ∷ Long ∷ s) a = g Second Long s a.0 a.1.0 a.1.1
  two_fine f g s a = one_fine (λ t s. on_one s (λ u s. f t u s)) (λ t s q b. one_fine (f t) (λ u s r c. g t u s q r c) s b) s a

  -- behind an array, or null
  pub array_fine : (f : VType → List VType → Flow) → ((s : List VType) → AllOf Q s → F (f Null s)) → ((n : List ℕ) (s : List VType) → is_array n ≡ true → Q (Ref n) → AllOf Q s → F (f (Ref n) s)) → Goes (λ s. on_array s f)
  array_fine f g r [] a = wrong
  array_fine f g r (Null ∷ s) a = g s a.1
  array_fine f g r (Ref n ∷ s) a = so_if (is_array n) (f (Ref n) s) (λ e. r n s e a.0 a.1)
  array_fine f g r (t ∷ s) a = wrong

module _ (P : Program) (Q : VType → Type 0) (F : Flow → Type 0) (wrong : F Wrong) where
  -- behind a value of a type
  pub on_fine : (t : VType) (f : List VType → Flow) → Goes Q F wrong f → Goes Q F wrong (λ s. on P t s f)
  on_fine t f g [] a = wrong
  on_fine t f g (u ∷ s) a = by (is_within P u t)
    where
      by : (b : Bool) → F (if b then f s else Wrong)
      by true = g s a.1
      by false = wrong

  -- behind values of types
  pub each_fine : (ts : List VType) (f : List VType → Flow) → Goes Q F wrong f → Goes Q F wrong (λ s. on_each P ts s f)
  each_fine [] f g = g
  each_fine (t ∷ ts) f g = on_fine t (λ s. on_each P ts s f) (each_fine ts f g)

  -- behind a number
  pub number_fine : (w : Width) (f : List VType → Flow) → Goes Q F wrong f → Goes Q F wrong (λ s. on_number P w s f)
  number_fine width.Int f g = int_fine Q F wrong f g
  number_fine width.Long f g = each_fine (Second ∷ Long ∷ []) f g
