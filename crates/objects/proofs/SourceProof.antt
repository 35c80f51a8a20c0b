-- What classes that are read from a folder are linked to is source.
use Rattle.std.proofs.Common.{◌≡◌, ℕ, List, Some, None, refl, sym, ap, subst}
use Rattle.std.specs.Prelude.{IsSomeAnd, Option}
use Rattle.std.specs.List.{AllByRecursion}
use Rattle.jmodel.specs.format.ClassFile.{ClassFile}
use Rattle.jmodel.specs.format.Pool.{utf8, text_or_none}
use Rattle.jmodel.specs.format.Descriptor.{IsFieldDescriptor}
use Rattle.objects.specs.linking.Classes.{Declared}
use Rattle.objects.specs.semantics.Program.{Field, Program}
use Rattle.objects.specs.linking.Layout.{rows, text_places, fields_of, made_arrays}
use Rattle.objects.specs.linking.Linking.{taken_methods}
use Rattle.objects.specs.typing.Source.{AreTypes, IsReadWord, IsSourceField, IsSourceMethod, IsSource}
use Rattle.objects.specs.laws.LinkingLaw.{IsFormed, AreFaultless, IsUpward, AreRead, SourceLaw}
use Rattle.objects.proofs.Items.{IsAt, item, all_items}
use Rattle.objects.proofs.AsRead.{formed, is_file, unreserved, no_context, no_conflict, class_names}
use Rattle.objects.proofs.Upward.{upward_law}
use Rattle.objects.proofs.FolderTypes.{types_law}
use Rattle.objects.proofs.MadeArrays.{IsMade, all_made}
use Rattle.objects.proofs.Links.{IsLinkedTo, links}
use Rattle.objects.proofs.DeclaredMembers.{of_methods}
use Rattle.objects.proofs.TakenMembers.{in_methods}
use Rattle.objects.proofs.LinkedFields.{field_from}
use Rattle.objects.proofs.FieldPlaces.{based}
use Rattle.objects.proofs.LinkedTypes.{field_reads}
use Rattle.objects.proofs.LinkedMethods.{method_source, names}

pub faultless : (cs : List ClassFile) (P : Program) → AreRead cs → IsLinkedTo cs P → AreFaultless cs
faultless cs P read l = record {
  supers = l.supers;
  doubled = read.doubled;
  constructs = l.constructs;
  context = no_context cs read;
  conflict = no_conflict cs read;
  named = class_names cs read;
  formed = all_items (λ (k : Declared). IsFormed k.class.pool) (taken_methods cs) (λ k at. formed k.class.pool (is_file cs read k.class (of_methods cs k (in_methods cs k at)).0).pool.entries);
}

fits_text : (o : Option (List ℕ)) (Fits : List ℕ → Type 0) → IsSomeAnd o Fits → (o ≡ Some (text_or_none o)) × Fits (text_or_none o)
fits_text None Fits h = absurd h
fits_text (Some t) Fits h = (refl, h)

module _ (cs : List ClassFile) (P : Program) (read : AreRead cs) (l : IsLinkedTo cs P) where
  types : AreTypes P
  types = subst AreTypes (sym l.is) (types_law cs (faultless cs P read l) (text_places cs) l.methods)

  rows_are : P.types ≡ rows cs
  rows_are = ap (λ (P : Program). P.types) l.is

  made : AllByRecursion (IsMade cs) (made_arrays cs)
  made = let f = faultless cs P read l in all_made cs f.formed f.constructs

  field_source : (F : Field) → IsAt (fields_of cs) F → IsSourceField P F
  field_source F at =
      let r = field_from cs 0 cs F at in
      let c = r.class in
      let at_class : IsAt cs r.class = (r.number, r.there) in
      let file = is_file cs read r.class at_class in
      let member = item _ r.class.fields r.member.member file.fields r.member.inside in
      let text = fits_text (utf8 r.class.pool r.member.member.descriptor) IsFieldDescriptor member.typed in
      let free = unreserved cs read r.class at_class r.member.member.descriptor (text_or_none (utf8 r.class.pool r.member.member.descriptor)) text.0 in
      let reads = field_reads cs P read rows_are types (text_or_none (utf8 r.class.pool r.member.member.descriptor)) text.1 free in
      record {
        based = based cs read F at;
        read = subst (λ (F : Field). IsReadWord P F.declared.word F.declared.class) (sym r.member.is) reads;
      }

  source : IsSource P
  source =
      let up : IsUpward cs = upward_law cs l.supers in
      record {
        types = types;
        fields = subst (AllByRecursion (IsSourceField P)) (sym (ap (λ (P : Program). P.fields) l.is)) (all_items (IsSourceField P) (fields_of cs) field_source);
        methods = all_items (IsSourceMethod P) P.methods (λ k at. method_source cs P read l up types made at.0 k at.1);
        names = names cs P read l up types made;
      }

pub source_law : SourceLaw
source_law cs P read e = source cs P read (links cs P e)
