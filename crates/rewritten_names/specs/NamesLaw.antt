-- Which numbers the names of methods have among rewritten classes.
use Rattle.std.specs.Prelude.{◌≡◌, ℕ, ◌+◌, List, [], ◌∷◌, ◌++◌, length, map, Some, Ok, slice_get, position}
use Rattle.std.specs.List.{AllZip}
use Rattle.jmodel.specs.declared.name.MethodName.{MethodName}
use Rattle.jmodel.specs.format.ClassFile.{ClassFile}
use Rattle.objects.specs.linking.Members.{own_name}
use Rattle.objects.specs.linking.Classes.{declared_in, full_name}
use Rattle.objects.specs.semantics.Program.{Field, Method, Program, field_at}
use Rattle.objects.specs.linking.Decoding.{is_method}
use Rattle.objects.specs.linking.Linking.{linking}
use Rattle.objects.specs.laws.LinkingLaw.{AreRead}
use Rattle.objects.specs.rewriting.Relinking.{all_members}
use Rattle.objects.specs.rewriting.Rewriting.{helper_class, getter_method, setter_method, getter, setter, duplicate}
use Rattle.rewritten_names.specs.Heads.{copy_name, accessor_names, Rewrites}

abbrev pub method_names : Program → List MethodName
method_names P = map (λ (k : Method). k.name) P.methods

-- the names of a program's methods, its accessors and its duplicates, and these behind them
abbrev pub names_behind : Program → List MethodName → List MethodName
names_behind P more = ((method_names P ++ accessor_names P.fields) ++ map copy_name (method_names P)) ++ more

abbrev pub IsNamed : List MethodName → MethodName → Type 0
IsNamed ns n = (i : ℕ) × (slice_get ns i ≡ Some n)

-- Among the names of a rewritten program, the last of which are these, each has the number that rewriting gives it.
pub record AreNumbered (P : Program) (more : List MethodName) : Type 0 where
  pub old : (n : MethodName) (i : ℕ) → position (is_method n) (method_names P) ≡ Some i → position (is_method n) (names_behind P more) ≡ Some i
  pub getters : (i : ℕ) (f : Field) → field_at P i ≡ Some f → position (is_method (getter_method 0 f).name) (names_behind P more) ≡ Some (getter P i)
  pub setters : (i : ℕ) (f : Field) → field_at P i ≡ Some f → position (is_method (setter_method f).name) (names_behind P more) ≡ Some (setter P i)
  pub copies : (n : MethodName) → IsNamed (method_names P) n → (i : ℕ) → position (is_method n) (method_names P) ≡ Some i → position (is_method (copy_name n)) (names_behind P more) ≡ Some (duplicate P i)
  pub helpers : (n : MethodName) (i : ℕ) → n.class ≡ helper_class → position (is_method n) more ≡ Some i → position (is_method n) (names_behind P more) ≡ Some (duplicate P (length P.methods) + i)

-- Classes, their rewritings in their order, and the helper's class behind them.
pub record AreRewritten (P : Program) (originals classes : List ClassFile) (helper : ClassFile) : Type 0 where
  pub read : AreRead originals
  pub linked : linking originals ≡ Ok (Some P)
  pub each : AllZip (Rewrites P) originals classes
  pub named : own_name helper ≡ helper_class

-- The names of the methods of rewritten classes.
pub record NamesAre (P : Program) (classes : List ClassFile) (helper : ClassFile) : Type 0 where
  pub are : map full_name (all_members P (classes ++ helper ∷ [])) ≡ names_behind P (map full_name (declared_in helper helper.methods))
  pub numbered : AreNumbered P (map full_name (declared_in helper helper.methods))

abbrev pub NumbersLaw : Type 0
NumbersLaw = (P : Program) (originals classes : List ClassFile) (helper : ClassFile) → AreRewritten P originals classes helper → NamesAre P classes helper
