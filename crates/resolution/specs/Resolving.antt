-- Look-ups of the members of classes.
use Rattle.std.specs.Prelude.{◌≡◌, ℕ, List, [], Bool, true, not, ◌&&◌, ◌||◌, Option, Some, None, slice_get, position}
use Rattle.std.specs.List.{find}
use Rattle.jmodel.specs.declared.name.MethodName.{MethodName}
use Rattle.jmodel.specs.format.ClassFile.{Member, Pool, ClassFile}
use Rattle.jmodel.specs.format.Pool.{MemberName}
use Rattle.objects.specs.linking.Members.{is_static, is_member}
use Rattle.objects.specs.linking.Classes.{Declared, methods_in}
use Rattle.objects.specs.linking.Resolution.{has_name, fields_in, is_private, is_selected_by}
use Rattle.hierarchy.specs.Names.{named, number_of}
use Rattle.resolution.specs.Ways.{some_class}

-- what a member is declared as, in whatever class
abbrev pub member_key : MemberName → MethodName
member_key n = named [] n.name n.descriptor

-- numbers have the first member of each name and descriptor that passes a test
abbrev pub HasFirst : (Member → Bool) → Pool → List Member → List (MethodName × ℕ) → Type 0
HasFirst passes pool ms numbers = (n : MemberName) → number_of numbers (member_key n) ≡ position (λ m. is_member pool n.name n.descriptor m && passes m) ms

abbrev pub any_member : Member → Bool
any_member m = true

-- a method that may run for calls by name
abbrev pub may_run : Member → Bool
may_run m = not (is_private m || is_static m)

abbrev pub members_of : (ClassFile → List Member) → Option ClassFile → List Member
members_of members None = []
members_of members (Some c) = members c

-- so at each place of classes
abbrev pub AreFirsts : (Member → Bool) → (ClassFile → List Member) → List ClassFile → List (List (MethodName × ℕ)) → Type 0
AreFirsts passes members cs table = (p : ℕ) (c : ClassFile) → slice_get cs p ≡ Some c → (numbers : List (MethodName × ℕ)) × (slice_get table p ≡ Some numbers) × HasFirst passes c.pool (members c) numbers

-- ---- members of the class at a place

abbrev pub own_field : List ClassFile → MemberName → ℕ → Option Declared
own_field cs n p = find (has_name n) (fields_in (some_class (slice_get cs p)))

abbrev pub own_method : List ClassFile → MemberName → ℕ → Option Declared
own_method cs n p = find (has_name n) (methods_in (some_class (slice_get cs p)))

abbrev pub own_selected : List ClassFile → MemberName → ℕ → Option Declared
own_selected cs n p = find (is_selected_by n) (methods_in (some_class (slice_get cs p)))

-- what is looked up of the members of classes
pub record HasMembers (cs : List ClassFile) (fields methods selected : List (List (MethodName × ℕ))) : Type 0 where
  pub has_fields : AreFirsts any_member (λ c. c.fields) cs fields
  pub has_methods : AreFirsts any_member (λ c. c.methods) cs methods
  pub has_selected : AreFirsts may_run (λ c. c.methods) cs selected
