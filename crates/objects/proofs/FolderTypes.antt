-- The types of a folder's program keep the rules of source.
use Rattle.std.proofs.Common.{◌≡◌, List, ◌++◌, map, sym, subst, ◌∙◌, append_assoc}
use Rattle.objects.specs.semantics.Program.{Row}
use Rattle.objects.specs.linking.LibraryClasses.{library_rows}
use Rattle.objects.specs.typing.Source.{AreTypes}
use Rattle.objects.specs.linking.Layout.{class_row, base_rows, array_row, primitive_arrays, made_arrays, fields_of}
use Rattle.objects.specs.laws.LinkingLaw.{TypesLaw}
use Rattle.objects.proofs.Upward.{upward_law}
use Rattle.objects.proofs.MadeArrays.{all_made}
use Rattle.objects.proofs.FolderArrays.{arrays_known}
use Rattle.objects.proofs.FolderFields.{types_are}

five : (a b c d e : List Row) → (((a ++ b) ++ c) ++ d) ++ e ≡ a ++ (b ++ (c ++ (d ++ e)))
five a b c d e = append_assoc ((a ++ b) ++ c) d e ∙ append_assoc (a ++ b) c (d ++ e) ∙ append_assoc a b (c ++ (d ++ e))

pub types_law : TypesLaw
types_law cs f texts methods =
    let up = upward_law cs f.supers in
    let made = arrays_known cs f.supers f.doubled f.context up f.named (made_arrays cs) texts (fields_of cs) methods (all_made cs f.formed f.constructs) in
    let same = five library_rows (map (class_row cs) cs) (base_rows cs) (map (array_row cs) primitive_arrays) (map (array_row cs) (made_arrays cs)) in
    subst (λ (ts : List Row). AreTypes (record { types = ts; texts = texts; fields = fields_of cs; methods = methods })) (sym same)
    (types_are cs f.supers f.doubled f.context f.conflict up f.named (made_arrays cs) texts methods made)
