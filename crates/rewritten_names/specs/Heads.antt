-- What rewriting leaves of a class as names see it: the heads of its members, and behind them those of the members that are added.
use Rattle.std.specs.Prelude.{◌≡◌, ℕ, List, [], ◌∷◌, ◌++◌, map, filter, Option, Some, Bool, true, false, option_map, bytes_eq, IsSomeAnd}
use Rattle.std.specs.List.{AllByRecursion, list_any, flat_map}
use Rattle.jmodel.specs.declared.name.MethodName.{MethodName}
use Rattle.jmodel.specs.format.ClassFile.{Member, Pool, ClassFile}
use Rattle.jmodel.specs.format.Pool.{utf8, text_or_none}
use Rattle.objects.specs.linking.Members.{is_static, own_name}
use Rattle.objects.specs.linking.Superclasses.{super_name}
use Rattle.objects.specs.linking.Reserved.{is_reserved}
use Rattle.objects.specs.semantics.Program.{Field, Method, Program}
use Rattle.objects.specs.linking.Resolution.{is_private, interface_names}
use Rattle.objects.specs.linking.Decoding.{is_method}
use Rattle.objects.specs.rewriting.Rewriting.{with_context, duplicate_name, getter_method, setter_method}

-- what a search for a member looks at
pub record Head : Type 0 where
  pub private : Bool
  pub static : Bool
  pub name : Option (List ℕ)
  pub descriptor : Option (List ℕ)

abbrev pub head_of : Pool → Member → Head
head_of pool m = record { private = is_private m; static = is_static m; name = utf8 pool m.name; descriptor = utf8 pool m.descriptor }

abbrev pub heads : Pool → List Member → List Head
heads pool ms = map (head_of pool) ms

-- the full name of a member of a class
abbrev pub name_under : List ℕ → Head → MethodName
name_under class h = record { class = class; name = text_or_none h.name; descriptor = text_or_none h.descriptor }

-- whether a method is one of a program
abbrev pub is_numbered : Program → List ℕ → Head → Bool
is_numbered P class h = list_any (λ (o : Method). is_method (name_under class h) o.name) P.methods

-- a duplicate
abbrev pub copy_of : Head → Head
copy_of h = record { private = h.private; static = h.static; name = option_map duplicate_name h.name; descriptor = option_map with_context h.descriptor }

-- an accessor
abbrev pub added_head : MethodName → Head
added_head n = record { private = false; static = true; name = Some n.name; descriptor = Some n.descriptor }

-- of each field a getter and a setter
abbrev pub accessor_heads : List Field → List Head
accessor_heads fs = flat_map (λ (f : Field). added_head (getter_method 0 f).name ∷ added_head (setter_method f).name ∷ []) fs

-- their names
abbrev pub accessor_names : List Field → List MethodName
accessor_names fs = flat_map (λ (f : Field). (getter_method 0 f).name ∷ (setter_method f).name ∷ []) fs

-- the name of a duplicate
abbrev pub copy_name : MethodName → MethodName
copy_name n = record { class = n.class; name = duplicate_name n.name; descriptor = with_context n.descriptor }

-- the fields of a program that a class declares
abbrev pub own_fields : Program → ClassFile → List Field
own_fields P c = filter (λ (f : Field). bytes_eq f.class (own_name c)) P.fields

-- the name of an added field is one that rewriting keeps for itself
abbrev pub IsAdded : Head → Type 0
IsAdded h = IsSomeAnd h.name (λ (n : List ℕ). is_reserved n ≡ true)

-- The rewriting of a class has the class's names and the heads of its members, and behind these added fields, accessors for its fields, and duplicates of
-- those of its methods that are the program's.
pub record Rewrites (P : Program) (c d : ClassFile) : Type 0 where
  pub own : own_name d ≡ own_name c
  pub above : super_name d ≡ super_name c
  pub interfaces : interface_names d ≡ interface_names c
  pub flags : d.flags ≡ c.flags
  pub added : List Head
  pub fields : heads d.pool d.fields ≡ heads c.pool c.fields ++ added
  pub reserved : AllByRecursion IsAdded added
  pub methods : heads d.pool d.methods ≡ heads c.pool c.methods ++ (accessor_heads (own_fields P c) ++ map copy_of (filter (is_numbered P (own_name c)) (heads c.pool c.methods)))
