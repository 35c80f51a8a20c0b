-- How deep the names may go that the instructions of a method lead to.
use Rattle.std.proofs.Common.{◌≡◌, ℕ, zero, suc, ◌+◌, ◌≤◌, List, [], ◌∷◌, Some, refl, ap, arith}
use Rattle.std.proofs.lemmas.List.Sums.{sum_by-cons}
use Rattle.std.specs.Prelude.{slice_get, sum_by}
use Rattle.std.specs.List.{AllByRecursion}
use Rattle.jmodel.specs.declared.typing.VType.{VType}
use Rattle.jmodel.specs.declared.typing.VType.TheVariants.{Ref}
use Rattle.objects.specs.declared.op.Op.{Op}
use Rattle.objects.specs.declared.op.Op.TheVariants as op
use Rattle.objects.specs.declared.op.Catch.{Catch}
use Rattle.objects.specs.semantics.Program.{Field, Method, Row, Program, row_at}
use Rattle.objects.specs.typing.TypeOrder.{name_read, stack_types}
use Rattle.objects.specs.typing.Typing.{caught_type, results}
use Rattle.verifier.proofs.Nesting.{name_depth, inner_depth}
use Rattle.verifier.proofs.Closed.{IsPlain, IsClosed}

abbrev pub type_depth : VType → ℕ
type_depth (Ref n) = name_depth n
type_depth t = 0

abbrev pub list_depth : List VType → ℕ
list_depth ts = sum_by type_depth ts

abbrev pub op_depth : Program → Op → ℕ
op_depth P (op.CheckCast c) = name_depth (name_read P c)
op_depth P (op.InitLibrary c n) = name_depth c
op_depth P o = 0

abbrev pub field_depth : Field → ℕ
field_depth f = list_depth (stack_types f.declared)

abbrev pub method_depth : Method → ℕ
method_depth m = list_depth (results m) + name_depth m.name.class

abbrev pub catch_depth : Program → Catch → ℕ
catch_depth P c = type_depth (caught_type P c.catches)

abbrev pub row_depth : Row → ℕ
row_depth r = name_depth r.read

-- no name goes deeper
abbrev pub deepest : Program → Method → ℕ
deepest P k =
    sum_by field_depth P.fields + sum_by method_depth P.methods + sum_by row_depth P.types + sum_by (op_depth P) k.ops + sum_by (catch_depth P) k.catches
    + list_depth k.parameters + name_depth k.name.class

-- one of a sum is within it
pub at_sum : {A : Type 0} (f : A → ℕ) (xs : List A) (i : ℕ) (x : A) → slice_get xs i ≡ Some x → f x ≤ sum_by f xs
at_sum f [] i x e = absurd (let no : ⊥ = cc in no)
at_sum f (y ∷ xs) zero x e = let s : y ≡ x = cc (e) in let g = ap f s in let c = sum_by-cons f y xs in omega arith
at_sum f (y ∷ xs) (suc i) x e = let r = at_sum f xs i x e in let c = sum_by-cons f y xs in omega arith

-- each of a list whose depths together are within a bound is within it
pub each_low : (ts : List VType) (b : ℕ) → list_depth ts ≤ b → AllByRecursion (λ (t : VType). type_depth t ≤ b) ts
each_low [] b h = tt
each_low (t ∷ ts) b h = let s = sum_by-cons type_depth t ts in let a : type_depth t ≤ b = omega arith in let c : list_depth ts ≤ b = omega arith in (a, each_low ts b c)

-- types without a name are of no depth
pub plain_low : (t : VType) → IsPlain t → type_depth t ≡ 0
plain_low (Ref n) p = absurd p
plain_low t p = refl

-- no instruction leads deeper
pub closed : (P : Program) (k : Method) → IsClosed P k (λ (t : VType). type_depth t ≤ deepest P k)
closed P k = record {
  plain = λ t p. let e = plain_low t p in omega arith;
  element = λ n a q. let i = inner_depth n a in omega arith;
  object = omega arith;
  string = omega arith;
  context = omega arith;
  own = omega arith;
  fields = λ i f e. let a = at_sum field_depth P.fields i f e in each_low (stack_types f.declared) (deepest P k) (omega arith);
  gives = λ m c e. let a = at_sum method_depth P.methods m c e in each_low (results c) (deepest P k) (omega arith);
  made = λ m c e. let a = at_sum method_depth P.methods m c e in omega arith;
  arrays = rows;
  casts = λ pc c e. at_op pc (op.CheckCast c) e;
  library = λ pc c n e. at_op pc (op.InitLibrary c n) e;
}
  where
    rows : (t : ℕ) (r : Row) → row_at P t ≡ Some r → name_depth r.read ≤ deepest P k
    rows zero r e = absurd (let no : ⊥ = cc in no)
    rows (suc t) r e = let a = at_sum row_depth P.types t r e in omega arith

    at_op : (pc : ℕ) (o : Op) → slice_get k.ops pc ≡ Some o → op_depth P o ≤ deepest P k
    at_op pc o e = let a = at_sum (op_depth P) k.ops pc o e in omega arith
