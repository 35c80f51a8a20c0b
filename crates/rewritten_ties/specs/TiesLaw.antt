-- What the names in the code of a taken method lead to among rewritten classes is what its duplicate's law asks.
use Rattle.std.specs.Prelude.{◌≡◌, ℕ, List, [], ◌∷◌, ◌++◌, Some, Ok, slice_get}
use Rattle.jmodel.specs.format.ClassFile.{Member, ClassFile}
use Rattle.objects.specs.semantics.Program.{Program}
use Rattle.objects.specs.linking.Linking.{original_symbols}
use Rattle.objects.specs.rewriting.Relinking.{rewritten_symbols}
use Rattle.array_helper.specs.Helper.{helper_file}
use Rattle.dup_methods.specs.DuplicateLaw.{Ties, IsCalledBy, IsAccessedBy}
use Rattle.rewritten_names.specs.NamesLaw.{AreRewritten}
use Rattle.rewritten_names.specs.LeadsLaw.{AreTexts}
use Rattle.rewritten_ties.specs.Taken.{IsTakenIn}

-- Of each method that is taken, with the symbols of its original class and of the rewritten one, where the helper's class is the one that is added.
abbrev pub TiesLaw : Type 0
TiesLaw = (P : Program) (originals classes : List ClassFile) (helper : ClassFile) → AreRewritten P originals classes helper → AreTexts helper → helper_file ≡ Ok helper
    → (i : ℕ) (c d : ClassFile) → slice_get originals i ≡ Some c → slice_get classes i ≡ Some d → (m : Member) → IsTakenIn originals c m
    → Ties P (IsCalledBy c m) (IsAccessedBy c m) (original_symbols originals c) (rewritten_symbols P originals (classes ++ helper ∷ []) d)
