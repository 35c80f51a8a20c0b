-- A class and those above it (JVM Specification, Java SE 7, section 5.3.5).
use Rattle.std.specs.Prelude.{ℕ, zero, suc, List, [], ◌∷◌, find, length, Option, Some, None, bytes_eq}
use Rattle.jmodel.specs.format.ClassFile.{ClassFile}
use Rattle.jmodel.specs.format.Pool.{class_name, text_or_none}
use Rattle.objects.specs.linking.Members.{own_name}

-- the class of a name
abbrev pub class_named : List ClassFile → List ℕ → Option ClassFile
class_named cs name = find (λ c. bytes_eq (own_name c) name) cs

abbrev pub super_name : ClassFile → List ℕ
super_name c = text_or_none (class_name c.pool c.super_class)

-- a class with those above it
abbrev pub with_above : (ClassFile → List ClassFile) → Option ClassFile → List ClassFile
with_above above None = []
with_above above (Some c) = c ∷ above c

-- the class of a name and those above it, the nearest first, at most so many
abbrev pub upward : List ClassFile → ℕ → List ℕ → List ClassFile
upward cs zero name = []
upward cs (suc n) name = with_above (λ c. upward cs n (super_name c)) (class_named cs name)

-- all of them, where no class is above itself
abbrev pub lineage : List ClassFile → List ℕ → List ClassFile
lineage cs name = upward cs (length cs) name
