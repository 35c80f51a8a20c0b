-- The classes of a folder: their methods one after another, and their order.
use Rattle.std.specs.Prelude.{ℕ, List, [], ◌∷◌, map, reverse, Option, Some, None, Bool, bytes_eq, if◌then◌else◌}
use Rattle.std.specs.List.{list_any, flat_map}
use Rattle.std.specs.Ordering.{nat_cmp, is_lt}
use Rattle.std.specs.Cmp.Lexicographic.{slice_cmp}
use Rattle.jmodel.specs.declared.name.MethodName.{MethodName}
use Rattle.jmodel.specs.declared.refusal.Refusal.{Refusal}
use Rattle.jmodel.specs.declared.refusal.Refusal.TheVariants.{DoubledClass}
use Rattle.jmodel.specs.format.ClassFile.{Member, ClassFile}
use Rattle.objects.specs.linking.Library.{library}
use Rattle.objects.specs.linking.Members.{own_name, name_of}
use Rattle.objects.specs.linking.Superclasses.{lineage}

-- a method, with the class that declares it
pub record Declared : Type 0 where
  pub class : ClassFile
  pub member : Member

abbrev pub declared_in : ClassFile → List Member → List Declared
declared_in c ms = map (λ m. record { class = c; member = m }) ms

-- the methods of classes, class by class, those of each in the order of its file
abbrev pub methods_in : List ClassFile → List Declared
methods_in cs = flat_map (λ (c : ClassFile). declared_in c c.methods) cs

abbrev pub full_name : Declared → MethodName
full_name k = name_of k.class k.member

-- whether a text comes before another in the order of bytes
abbrev pub is_before : List ℕ → List ℕ → Bool
is_before x y = is_lt (slice_cmp nat_cmp x y)

abbrev pub placed : ClassFile → List ClassFile → List ClassFile
placed c [] = c ∷ []
placed c (d ∷ ds) = if is_before (own_name d) (own_name c) then d ∷ placed c ds else c ∷ d ∷ ds

-- class files in the order of their classes' names
abbrev pub in_order : List ClassFile → List ClassFile
in_order [] = []
in_order (c ∷ cs) = placed c (in_order cs)

-- the first class file whose class has one of these names, or that of an earlier one
abbrev pub doubled_among : List (List ℕ) → List ClassFile → Option Refusal
doubled_among names [] = None
doubled_among names (c ∷ cs) = if list_any (bytes_eq (own_name c)) names then Some (DoubledClass (own_name c)) else doubled_among (own_name c ∷ names) cs

-- a class of the library, or a second one of a name
abbrev pub doubled_class : List ClassFile → Option Refusal
doubled_class cs = doubled_among library cs

-- without those that have one of these names, or that of an earlier one
abbrev pub unseen : List (List ℕ) → List ClassFile → List ClassFile
unseen names [] = []
unseen names (c ∷ cs) = if list_any (bytes_eq (own_name c)) names then unseen names cs else c ∷ unseen (own_name c ∷ names) cs

-- the classes in the order in which their static initialisers run: as they stand, but before each those above it
abbrev pub in_start_order : List ClassFile → List ClassFile
in_start_order cs = unseen [] (flat_map (λ c. reverse (lineage cs (own_name c))) cs)
