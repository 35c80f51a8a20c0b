-- Classes in the order of their names, each under its name.
use Rattle.std.specs.Prelude.{◌≡◌, ℕ, List, map, Result, Ok}
use Rattle.std.specs.Borrow.{Bor}
use Rattle.jmodel.specs.declared.refusal.Refusal.{Refusal}
use Rattle.jmodel.specs.format.ClassFile.{ClassFile}
use Rattle.objects.specs.linking.Members.{own_name}
use Rattle.objects.specs.linking.Classes.{in_order, doubled_class}
use Rattle.objects.specs.linking.Faults.{unless}
use Rattle.objects.specs.linking.ClassesFaults.{reserved_class}

-- the class files in the order of their classes' names, or the fault of these
abbrev pub ordered : List ClassFile → Result (List ClassFile) Refusal
ordered files = unless (doubled_class files) (unless (reserved_class files) (Ok (in_order files)))

-- the entries of a tree, seen behind references
abbrev pub named_classes : List (Bor (List ℕ) × Bor ClassFile) → List (List ℕ × ClassFile)
named_classes es = map (λ e. (e.0.now, e.1.now)) es

-- the entries are the classes in order
abbrev pub IsInOrder : List (Bor (List ℕ) × Bor ClassFile) → List ClassFile → Type 0
IsInOrder es cs = named_classes es ≡ map (λ (c : ClassFile). (own_name c, c)) (in_order cs)
