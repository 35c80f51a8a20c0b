-- Class files that are ready for a run, and why others aren't.
use Rattle.std.proofs.Common.{◌≡◌, ◌≤◌, ℕ, zero, suc, List, [], ◌∷◌, length, Option, Some, None, Result, Ok, Err, true, inl, inr, refl, sym, ap, ◌∙◌, subst}
use Rattle.std.specs.Prelude.{slice_get}
use Rattle.std.specs.List.{AllByRecursion, AllZip}
use Rattle.jmodel.specs.declared.refusal.Refusal.{Refusal}
use Rattle.jmodel.specs.format.ClassFile.{ClassFile}
use Rattle.jmodel.specs.format.ClassRules.{IsClassFile}
use Rattle.objects.specs.linking.Classes.{in_order, doubled_class}
use Rattle.objects.specs.linking.Faults.{unless}
use Rattle.objects.specs.linking.ClassesFaults.{reserved_class}
use Rattle.objects.specs.semantics.Program.{Method, Program, has_code}
use Rattle.objects.specs.linking.Linking.{linking, linking_files, program_in}
use Rattle.objects.specs.laws.LinkingLaw.{AreRead, IsLinkedFolder}
use Rattle.objects.specs.typing.Source.{IsSource}
use Rattle.objects.specs.typing.Typing.{Table}
use Rattle.objects.specs.laws.TypingLaw.{IsTypedProgram}
use Rattle.objects.proofs.FolderOrder.{are_read}
use Rattle.objects.proofs.Links.{links}
use Rattle.objects.proofs.SourceProof.{source_law}
use Rattle.program_typing.specs.Tables.{IsNarrowTyping, IsTableOf, AreTables}
use Rattle.program_typing.specs.Typed.{IsTyped}
use Rattle.program_rewriter.specs.Rewritten.{IsRewriting}
use Rattle.hierarchy.specs.Ordered.{ordered}
use Rattle.session.specs.Rule.{IsReady}
use Rattle.runner.specs.declared.outcome.RunEnd.{RunEnd}
use Rattle.runner.specs.declared.outcome.RunEnd.TheVariants as ends
use Rattle.runner.specs.Headline.{linked_files, IsInstrumented, IsRunnable}
use Rattle.runner.specs.Faults.{IsOrdered, EndsBuild, EndsTyping, EndsRewriting, EndsPreparing, EndsRun}
use Rattle.runner.proofs.Roots.{all_marked}

-- ---- order

unless_none : {A : Type 0} (o : Option Refusal) (r : Result A Refusal) (x : A) → unless o r ≡ Ok x → (o ≡ None) × (r ≡ Ok x)
unless_none None r x e = (refl, e)
unless_none (Some f) r x e = cc

-- class files that have an order
pub is_ordered : (files : List ClassFile) (cs : List ClassFile) → length files ≤ 256 → AllByRecursion IsClassFile files → ordered files ≡ Ok cs → (cs ≡ in_order files) × IsOrdered files
is_ordered files cs few form e =
    let a = unless_none (doubled_class files) (unless (reserved_class files) (Ok (in_order files))) cs e in
    let b = unless_none (reserved_class files) (Ok (in_order files)) cs a.1 in
    let same : in_order files ≡ cs = let c = b.1 in cc in (
      sym same,
      record {
        read = are_read files few form a.0 b.0;
        as_ordered = ap (λ (o : Option Refusal). unless o (unless (reserved_class files) (linking (in_order files)))) a.0 ∙ ap (λ (o : Option Refusal). unless o (linking (in_order files))) b.0;
      },
    )

-- those that have none are refused for it
pub of_order : (files : List ClassFile) (r : Refusal) → ordered files ≡ Err r → linking_files files ≡ Err r
of_order files r e = by_doubled (doubled_class files) (reserved_class files) e
  where
    by_reserved : (o : Option Refusal) → unless o (Ok (in_order files)) ≡ Err r → unless o (linking (in_order files)) ≡ Err r
    by_reserved None e = cc
    by_reserved (Some f) e = let same : f ≡ r = cc in ap (λ (x : Refusal). Err x) same

    by_doubled : (d o : Option Refusal) → unless d (unless o (Ok (in_order files))) ≡ Err r → unless d (unless o (linking (in_order files))) ≡ Err r
    by_doubled None o e = by_reserved o e
    by_doubled (Some f) o e = let same : f ≡ r = cc in ap (λ (x : Refusal). Err x) same

-- ---- programs

module _ (files : List ClassFile) (is : IsOrdered files) where
  pub linked_folder : (P : Program) → linking (in_order files) ≡ Ok (Some P) → IsLinkedFolder files P
  linked_folder P e = record { read = is.read; linked = e; source = source_law (in_order files) P is.read e }

  pub links_files : (P : Program) → linking (in_order files) ≡ Ok (Some P) → linked_files files ≡ Some P
  links_files P e = ap program_in (is.as_ordered ∙ e)

  pub runnable : (P : Program) (news : List ClassFile) → linking (in_order files) ≡ Ok (Some P) → IsTyped P → IsInstrumented (in_order files) P news → IsRunnable files P
  runnable P news e typed rewriting = record { links = links_files P e; typed = typed; instrumented = news; rewriting = rewriting }

  pub of_build : (e : RunEnd) → EndsBuild (in_order files) e → EndsPreparing files e
  of_build (ends.Refused r) h = inl (is.as_ordered ∙ h)
  of_build (ends.Untyped r) h = absurd h
  of_build (ends.BadScript r) h = absurd h
  of_build (ends.Unopened n x) h = absurd h
  of_build ends.NoMemory h = tt

  module _ (P : Program) (links_to : linking (in_order files) ≡ Ok (Some P)) where
    pub of_typing : (e : RunEnd) → EndsTyping P (in_order files) e → EndsPreparing files e
    of_typing (ends.Refused r) h = inr (P, links_files P links_to, inl h)
    of_typing (ends.Untyped r) h = (P, links_files P links_to, h)
    of_typing (ends.BadScript r) h = absurd h
    of_typing (ends.Unopened n x) h = absurd h
    of_typing ends.NoMemory h = tt

    pub of_rewriting : (e : RunEnd) → EndsRewriting P (in_order files) e → EndsPreparing files e
    of_rewriting (ends.Refused r) h = inr (P, links_files P links_to, inr h)
    of_rewriting (ends.Untyped r) h = absurd h
    of_rewriting (ends.BadScript r) h = absurd h
    of_rewriting (ends.Unopened n x) h = absurd h
    of_rewriting ends.NoMemory h = tt

-- why class files that aren't prepared aren't run
pub of_preparing : (files : List ClassFile) (bytes : List ℕ) (e : RunEnd) → EndsPreparing files e → EndsRun files bytes e
of_preparing files bytes (ends.Refused r) h = h
of_preparing files bytes (ends.Untyped r) h = h
of_preparing files bytes (ends.BadScript r) h = absurd h
of_preparing files bytes (ends.Unopened n x) h = absurd h
of_preparing files bytes ends.NoMemory h = tt

-- ---- what runs

zip_at : {A B : Type 0} (R : A → B → Type 0) (xs : List A) (ys : List B) (i : ℕ) (x : A) → AllZip R xs ys → slice_get xs i ≡ Some x → (y : B) × (slice_get ys i ≡ Some y) × R x y
zip_at R [] ys i x all h = cc
zip_at R (z ∷ xs) [] i x all h = absurd all
zip_at R (z ∷ xs) (y ∷ ys) zero x all h = let same : z ≡ x = cc in (y, refl, subst (λ (w : _). R w y) same all.0)
zip_at R (z ∷ xs) (y ∷ ys) (suc i) x all h = zip_at R xs ys i x all.1 h

narrow : (P : Program) (k : Method) (T : Table) → has_code (Some k) ≡ true → IsTableOf P k T → IsNarrowTyping P k T
narrow P k T code h = rw (code) at h

-- by tables of its methods a program is typed
pub typed_program : (P : Program) (Ts : List Table) → IsSource P → AreTables P Ts → IsTypedProgram P Ts
typed_program P Ts source are = record {
  source = source;
  typed = λ m k there code.
      let t = zip_at (IsTableOf P) P.methods Ts m k are there in
      record { table = t.0; there = t.1; typing = (narrow P k t.0 code t.2).typing };
}

-- the rewriting of the program of classes is ready to run
pub ready : (cs : List ClassFile) (P Q : Program) → AreRead cs → linking cs ≡ Ok (Some P) → IsRewriting P Q → IsReady P Q
ready cs P Q read e made = record {
  tables = made.tables;
  code = made.same;
  typed = typed_program P made.tables (source_law cs P read e) made.are;
  marked = all_marked cs P (links cs P e);
}
