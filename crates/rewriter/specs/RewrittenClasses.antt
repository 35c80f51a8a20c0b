-- The rewriting of several classes, one after another, and of a folder.
use Rattle.std.specs.Prelude.{ℕ, ◌+◌, List, [], ◌∷◌, ◌++◌, length, take, drop, Result, Ok, Err}
use Rattle.jmodel.specs.declared.refusal.Refusal.{Refusal}
use Rattle.jmodel.specs.declared.refusal.Refusal.TheVariants.{PoolFull}
use Rattle.jmodel.specs.format.ClassFile.{ClassFile}
use Rattle.jmodel.specs.format.Reading.{◌>>=◌}
use Rattle.objects.specs.linking.Members.{own_name}
use Rattle.objects.specs.semantics.Program.{Program}
use Rattle.objects.specs.typing.Typing.{Table}
use Rattle.array_helper.specs.Helper.{helper_file}
use Rattle.rewriter.specs.Part.{wrapper_count, own_methods, part_of}
use Rattle.rewriter.specs.Rewritten.{rewritten_part}

-- a fault of a class, with the class's name where its pool is full
abbrev pub in_class : List ℕ → Refusal → Refusal
in_class name (PoolFull n) = PoolFull name
in_class name r = r

abbrev pub of_class : {A : Type 0} → List ℕ → Result A Refusal → Result A Refusal
of_class name (Ok x) = Ok x
of_class name (Err r) = Err (in_class name r)

-- some of the classes, before which so many methods and so many wrappers are, with the tables of their methods
abbrev pub rewritten_from : List ClassFile → Program → (n id : ℕ) → List Table → List ClassFile → Result (List ClassFile) Refusal
rewritten_from cs P n id Ts [] = Ok []
rewritten_from cs P n id Ts (c ∷ ds) = do
  first ← of_class (own_name c) (rewritten_part P c (part_of cs P n id c) (take (length (own_methods P c)) Ts))
  others ← rewritten_from cs P (n + length (own_methods P c)) (id + wrapper_count (own_methods P c)) (drop (length (own_methods P c)) Ts) ds
  Ok (first ∷ others)

-- The rewriting of each class against the program of all and a table for each of its methods, or the first fault.
abbrev pub rewritten_classes : List ClassFile → Program → List Table → Result (List ClassFile) Refusal
rewritten_classes cs P Ts = rewritten_from cs P 0 0 Ts cs

-- the rewriting of a folder: behind its classes stands the helper of arrays
abbrev pub rewritten_folder : List ClassFile → Program → List Table → Result (List ClassFile) Refusal
rewritten_folder cs P Ts = rewritten_classes cs P Ts >>= λ classes. helper_file >>= λ helper. Ok (classes ++ helper ∷ [])
