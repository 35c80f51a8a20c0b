-- What the symbols of a rewritten class say of the fields of its original is what the law of accessors asks.
use Rattle.std.specs.Prelude.{◌≡◌, ℕ, ◌+◌, List, [], ◌∷◌, ◌++◌, Some, Ok, slice_get}
use Rattle.jmodel.specs.format.ClassFile.{ClassFile}
use Rattle.objects.specs.semantics.Program.{Field, Program, field_at}
use Rattle.objects.specs.rewriting.Relinking.{rewritten_symbols}
use Rattle.field_members.specs.AccessorsLaw.{AreKnown}
use Rattle.field_members.specs.Fields.{with_fields}
use Rattle.field_members.specs.FieldsLaw.{Begins}
use Rattle.rewritten_names.specs.Heads.{own_fields}
use Rattle.rewritten_names.specs.NamesLaw.{AreRewritten}
use Rattle.rewritten_names.specs.LeadsLaw.{AreTexts}

-- Of a class that begins as its original with the fields that are added, whose own fields have the numbers of the program from n on.
abbrev pub KnownLaw : Type 0
KnownLaw = (P : Program) (originals classes : List ClassFile) (helper : ClassFile) → AreRewritten P originals classes helper → AreTexts helper
    → (i : ℕ) (c d : ClassFile) → slice_get originals i ≡ Some c → slice_get classes i ≡ Some d
    → (new : ClassFile) → with_fields (own_fields P c) c ≡ Ok new → Begins new d
    → (n : ℕ) → ((j : ℕ) (f : Field) → slice_get (own_fields P c) j ≡ Some f → field_at P (n + j) ≡ Some f)
    → AreKnown (rewritten_symbols P originals (classes ++ helper ∷ []) d) n (own_fields P c)
