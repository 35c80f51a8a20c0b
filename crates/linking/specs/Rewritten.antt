-- The methods and fields of a program by the names of their classes.
use Rattle.std.specs.Prelude.{◌≡◌, ℕ, List, [], ◌++◌, Bool, true, false, length, map, filter, bytes_eq}
use Rattle.std.specs.List.{list_any}
use Rattle.jmodel.specs.declared.name.MethodName.{MethodName}
use Rattle.objects.specs.linking.Members.{is_name}
use Rattle.jmodel.specs.format.ClassFile.{ClassFile}
use Rattle.objects.specs.linking.Classes.{Declared}
use Rattle.objects.specs.semantics.Program.{Field, Method, Program}
use Rattle.objects.specs.rewriting.Relinking.{is_counted_old, all_old, all_accessors, all_duplicates, helper_members}
use Rattle.hierarchy.specs.Names.{named, has, count_of}

-- names are those of the program's methods
abbrev pub AreNames : Program → List MethodName → Type 0
AreNames P names = (n : MethodName) → has names n ≡ list_any (λ (k : Method). is_name n k.name) P.methods

-- how many methods of the program each class has
abbrev pub CountMethods : Program → List (MethodName × ℕ) → Type 0
CountMethods P counts = (name : List ℕ) → count_of counts (named name [] []) ≡ length (filter (λ (k : Method). bytes_eq k.name.class name) P.methods)

-- how many fields of the program each class has
abbrev pub CountFields : Program → List (MethodName × ℕ) → Type 0
CountFields P counts = (name : List ℕ) → count_of counts (named name [] []) ≡ length (filter (λ (f : Field). bytes_eq f.class name) P.fields)

pub record AreCounts (P : Program) (names : List MethodName) (methods fields : List (MethodName × ℕ)) : Type 0 where
  pub are_names : AreNames P names
  pub count_methods : CountMethods P methods
  pub count_fields : CountFields P fields

-- methods, each with whether its frames count
abbrev pub marked : (Declared → Bool) → List Declared → List (Declared × Bool)
marked counted ks = map (λ k. (k, counted k)) ks

-- the methods of rewritten classes in the order of their numbers, so
abbrev pub marked_members : Program → List ClassFile → List (Declared × Bool)
marked_members P cs = marked is_counted_old (all_old P cs) ++ marked (λ k. false) (all_accessors P cs) ++ marked (λ k. true) (all_duplicates P cs) ++ marked (λ k. false) (helper_members cs)
