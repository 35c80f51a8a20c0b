-- The texts of Strings, one after another.
use Rattle.std.specs.Prelude.{ℕ, List}
use Rattle.std.specs.List.{flat_map}
use Rattle.jmodel.specs.format.ClassFile.{Pool, ClassFile}
use Rattle.jmodel.specs.format.Pool.{string_in}
use Rattle.objects.specs.linking.Layout.{some_text}

-- the texts of a pool's Strings
abbrev pub pool_texts : Pool → List (List ℕ)
pool_texts pool = flat_map (λ k. some_text (string_in pool k)) pool

-- those of classes, class by class
abbrev pub class_texts : List ClassFile → List (List ℕ)
class_texts cs = flat_map (λ (c : ClassFile). pool_texts c.pool) cs
