-- What the symbols of a rewritten class say of a method of its original is what the law of wrappers asks.
use Rattle.std.specs.Prelude.{◌≡◌, ℕ, List, [], ◌∷◌, ◌++◌, Some, slice_get}
use Rattle.jmodel.specs.format.ClassFile.{Member, ClassFile}
use Rattle.jmodel.specs.format.PoolAdding.{IsLonger}
use Rattle.objects.specs.semantics.Program.{Method, Program, method_at}
use Rattle.objects.specs.linking.Linking.{taken_methods}
use Rattle.objects.specs.rewriting.Relinking.{rewritten_symbols}
use Rattle.objects.specs.rewriting.Rewriting.{duplicate}
use Rattle.retry_wrapper.specs.WrapperLaw.{IsRoot}
use Rattle.rewritten_names.specs.NamesLaw.{AreRewritten}
use Rattle.rewritten_names.specs.LeadsLaw.{AreTexts}

-- Of each method that is taken, in a class whose pool begins with that of its original.
abbrev pub RootLaw : Type 0
RootLaw = (P : Program) (originals classes : List ClassFile) (helper : ClassFile) → AreRewritten P originals classes helper → AreTexts helper
    → (i : ℕ) (c d : ClassFile) → slice_get originals i ≡ Some c → slice_get classes i ≡ Some d → IsLonger c.pool d.pool
    → (j : ℕ) (k : Method) (m : Member) → method_at P j ≡ Some k → slice_get (taken_methods originals) j ≡ Some (record { class = c; member = m })
    → IsRoot (rewritten_symbols P originals (classes ++ helper ∷ []) d) m k (duplicate P j)
