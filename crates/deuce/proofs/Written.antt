-- The rewriting of class files, written.
use Rattle.std.proofs.Common.{◌≡◌, ◌<◌, ◌∙◌, ℕ, List, [], ◌∷◌, ◌++◌, length, Some, sym, ap, subst, arith}
use Rattle.std.specs.Prelude.{filter, IsSome}
use Rattle.std.specs.List.{AllByRecursion, AllZip}
use Rattle.std.proofs.lemmas.List.{length-append}
use Rattle.jmodel.specs.format.ClassFile.{ClassFile}
use Rattle.jmodel.specs.format.ClassRules.{IsClassFile, Spells}
use Rattle.objects.specs.linking.Members.{own_name}
use Rattle.objects.specs.linking.Superclasses.{class_named}
use Rattle.objects.specs.linking.Classes.{in_order}
use Rattle.objects.specs.history.Journal.{is_marked}
use Rattle.objects.specs.laws.LinkingLaw.{IsLinkedFolder}
use Rattle.objects.specs.semantics.Program.{Program}
use Rattle.program_typing.specs.Typed.{IsTyped}
use Rattle.rewriter.specs.Asked.{AreFiled}
use Rattle.rewritten_form.specs.FormLaw.{FormLaw}
use Rattle.rewritten_program.specs.Keeps.{IsFolder, HeadsLaw}
use Rattle.rewritten_program.specs.Meaning.{MeaningLaw}
use Rattle.runner.specs.Headline.{linked_files, IsInstrumented}
use Rattle.deuce.specs.Folder.{IsFileOf}
use Rattle.deuce.specs.Rewritten.{IsNewOf, IsNewHelper, IsRewriting}
use Rattle.deuce.proofs.Named.{all_named}
use Rattle.deuce.proofs.Ordered.{all_in_order}
use Rattle.deuce.proofs.Retyped.{stays_typed}

module _ (heads : HeadsLaw) (files : List ClassFile) (P : Program) (news : List ClassFile) (folder : IsLinkedFolder files P) (typed : IsTyped P) (made : IsInstrumented (in_order files) P news) where
  is_folder : IsFolder (in_order files) news P typed.tables
  is_folder = heads (in_order files) news P typed.tables folder.read folder.linked (made typed.tables typed.narrowest)

  -- each can be written
  pub all_ruled : FormLaw → AllByRecursion AreFiled files → AllByRecursion IsClassFile news
  all_ruled form filed = form (in_order files) news P typed.tables folder.read (all_in_order AreFiled files filed) folder.linked typed.narrowest (made typed.tables typed.narrowest)

  -- each class file's class is among them
  pub each_named : AllByRecursion (λ (f : ClassFile). IsSome (class_named news (own_name f))) files
  each_named =
      subst (λ (ds : List ClassFile). AllByRecursion (λ (f : ClassFile). IsSome (class_named ds (own_name f))) files) (sym is_folder.are)
      (all_named P files is_folder.classes (is_folder.helper ∷ []) is_folder.rewritten.each)

  -- there is one
  pub there_are : 0 < length news
  there_are = let long = ap length is_folder.are ∙ length-append is_folder.classes (is_folder.helper ∷ []) in omega (arith, long)

  -- the last is the helper of arrays
  new_helper : (new : List ℕ) → ((front : List ClassFile) (last : ClassFile) → news ≡ front ++ last ∷ [] → Spells new last) → IsNewHelper news new
  new_helper new spelled = record {
    front = is_folder.classes;
    class = is_folder.helper;
    last = is_folder.are;
    helper = is_folder.helps;
    spelled = spelled is_folder.classes is_folder.helper is_folder.are;
  }

  -- the whole rewriting
  pub rewriting : MeaningLaw → (contents bytes : List (List ℕ)) (helper : List ℕ) (taken marked : ℕ) → AllZip IsFileOf contents files → linked_files files ≡ Some P → AllByRecursion AreFiled files → AllZip (IsNewOf news) files bytes
      → ((front : List ClassFile) (last : ClassFile) → news ≡ front ++ last ∷ [] → Spells helper last) → taken ≡ length P.methods → marked ≡ length (filter is_marked P.methods)
      → IsRewriting contents bytes helper taken marked
  rewriting meaning contents bytes helper taken marked are links filed spelled last all atomic = record {
    files = files;
    are_files = are;
    program = P;
    runnable = record { links = links; typed = typed; instrumented = news; rewriting = made };
    spelled = spelled;
    new_helper = new_helper helper last;
    means = λ Ts tables. meaning (in_order files) news P Ts folder.read (all_in_order AreFiled files filed) folder.linked (made Ts tables);
    stays_typed = λ Ts tables. stays_typed P folder.source typed Ts tables;
    counts = record { all = all; atomic = atomic };
  }
