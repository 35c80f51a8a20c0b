-- Where the objects of static fields lie in memory, and their types.
use Rattle.std.specs.Prelude.{ℕ, ◌+◌, List, length, take, filter, sum_by, Bool, not, ◌==◌, if◌then◌else◌, slice_index}
use Rattle.jmodel.specs.format.ClassFile.{ClassFile}
use Rattle.objects.specs.linking.Library.{library}
use Rattle.objects.specs.linking.Members.{statics}

abbrev pub has_base : ClassFile → Bool
has_base c = not (length (statics c) == 0)

-- a static base is a header and a word for each static field; a class without static fields has none
abbrev pub base_words : ClassFile → ℕ
base_words c = if has_base c then length (statics c) + 1 else 0

-- The static bases lie one after another from address 2, the classes in byte order of their names.
abbrev pub base_of : List ClassFile → ℕ → ℕ
base_of classes n = 2 + sum_by base_words (take n classes)

-- the address behind the static bases
abbrev pub bases_end : List ClassFile → ℕ
bases_end classes = 2 + sum_by base_words classes

abbrev pub base_type : List ClassFile → ℕ → ℕ
base_type classes n = length library + length classes + length (filter has_base (take n classes)) + 1

-- the words by address, 0 where none was given
abbrev pub at_address : List ℕ → ℕ → ℕ
at_address words a = slice_index words a
