-- With the narrowest tables of a linked program, the elements that code loads have classes that may stand in a class file.
use Rattle.std.proofs.Common.{◌≡◌, ℕ, Bool, true, false, List, [], ◌∷◌, ◌++◌, Option, Some, None, Ok, refl, sym, ap, ◌∙◌, subst}
use Rattle.std.specs.Prelude.{slice_get}
use Rattle.std.specs.List.{AllByRecursion, AllZip}
use Rattle.jmodel.specs.declared.typing.VType.{VType}
use Rattle.jmodel.specs.declared.typing.VType.TheVariants.{Int, Ref}
use Rattle.jmodel.specs.format.ClassFile.{ClassFile}
use Rattle.objects.specs.linking.Classes.{Declared}
use Rattle.objects.specs.linking.Code.{Coded}
use Rattle.objects.specs.declared.op.WordType.TheVariants as word
use Rattle.objects.specs.declared.op.Op.TheVariants as op
use Rattle.objects.specs.semantics.Program.{Method, Program, method_at, has_code}
use Rattle.objects.specs.typing.TypeOrder.{is_array}
use Rattle.objects.specs.typing.Typing.{Types, Table, types_at, flow, on_int, on_array, if_so, KeepsFlow, KeepsAt, leaves, element_types, fits_elements}
use Rattle.objects.specs.linking.Linking.{linking, decoded_member}
use Rattle.objects.specs.laws.LinkingLaw.{AreRead}
use Rattle.objects.specs.typing.Source.{IsSource, IsSourceMethod}
use Rattle.objects.specs.rewriting.Rewriting.{array_under}
use Rattle.objects.proofs.CleanCode.{IsClean, clean_code, taken_clean}
use Rattle.objects.proofs.Items.{IsAt, item, all_items}
use Rattle.objects.proofs.Links.{IsLinkedTo, IsFrom, links, method_from}
use Rattle.objects.proofs.SourceProof.{source_law}
use Rattle.program_typing.specs.Tables.{IsTableFor, IsTableOf, AreTables}
use Rattle.rewriter.specs.Asked.{AreFiled, HasBytes}
use Rattle.rewritten_form.proofs.CopyPools.{IsElementText}
use Rattle.rewritten_form.proofs.CodeNames.{HasTexts}
use Rattle.rewritten_form.proofs.Spelled.{spelled}
use Rattle.rewritten_form.proofs.Rewritten.{each_instr, coded_is, ops_by, no_ops, member_of}
use Rattle.rewritten_form.proofs.GoodNames.{element_lawful}
use Rattle.rewritten_form.proofs.GoodTypes.{IsGood}
use Rattle.rewritten_form.proofs.GoodUp.{good_up}
use Rattle.rewritten_form.proofs.GoodRows.{above_lawful}
use Rattle.rewritten_form.proofs.GoodOps.{IsNamedWell, IsMethodNamed, AreNamedWell}
use Rattle.rewritten_form.proofs.GoodMethods.{field_good, class_at, class_good, takes_good, gives_good}
use Rattle.rewritten_form.proofs.GoodCode.{ops_good}
use Rattle.rewritten_form.proofs.GoodTables.{narrowest_good}

module _ (cs : List ClassFile) (P : Program) (read : AreRead cs) (linked : linking cs ≡ Ok (Some P)) (filed : AllByRecursion AreFiled cs) where
  abbrev l : IsLinkedTo cs P
  l = links cs P linked

  abbrev S : IsSource P
  S = source_law cs P read linked

  -- ---- what is asked of the program

  code_good : (i : ℕ) (k : Method) (f : IsFrom cs i k) (o : Option Coded) → f.code ≡ o → AllByRecursion (IsNamedWell P) k.ops
  code_good i k f None e = subst (AllByRecursion (IsNamedWell P)) (sym (no_ops cs P read l filed i k f e)) tt
  code_good i k f (Some coded) e =
      let d : Declared = f.member in
      let at = class_at cs P read l i k f in
      let told : decoded_member d ≡ Ok (Some coded) = f.decoded ∙ ap (λ (o : Option Coded). Ok o) e in
      let code = coded_is d.class d.member coded told in
      let bytes : HasBytes d.member = member_of cs P read l filed d.class at d (i, f.there) refl in
      let spells = spelled d.class d.member coded bytes code in
      let clean = taken_clean cs l.constructs d (i, f.there) in
      ops_good cs P read l d at coded.instrs coded.instrs k.ops (each_instr d.class.pool coded.instrs spells.instrs.each)
      (all_items (IsClean cs d) coded.instrs (λ x there. (clean_code cs d clean coded code x there).instr)) (ops_by cs P read l filed i k f d refl coded told)

  method_named : (i : ℕ) (k : Method) → method_at P i ≡ Some k → IsMethodNamed P k
  method_named i k e =
      let f = method_from cs P l i k e in
      record { class = class_good cs P read l i k f; takes = takes_good cs P read l i k f; gives = gives_good cs P read l i k f; each = code_good i k f f.code refl }

  named_well : AreNamedWell P
  named_well = record { fields = field_good cs P read l; methods = method_named; up = good_up P S.types (above_lawful cs P read l S.types) }

  -- ---- the elements that are loaded

  module _ (k : Method) (T : Table) where
    array_text : (pc : ℕ) (h : Types) (u : VType) (s : List VType) → KeepsFlow P k T pc h (on_array (u ∷ s) (λ t s. if_so (fits_elements word.Reference t) (leaves pc h (element_types word.Reference t ++ s)))) → IsGood P u → IsElementText word.Reference (Some u)
    array_text pc h (Ref n) s keeps good = go (is_array n) refl keeps
      where
        go : (b : Bool) → is_array n ≡ b → KeepsFlow P k T pc h (if_so b (if_so (fits_elements word.Reference (Ref n)) (leaves pc h (element_types word.Reference (Ref n) ++ s)))) → IsElementText word.Reference (Some (Ref n))
        go true a f = element_lawful n a good
        go false a f = absurd f
    array_text pc h u s keeps good = tt

    stack_text : (pc : ℕ) (h : Types) (s : List VType) → KeepsFlow P k T pc h (on_int s (λ s. on_array s (λ t s. if_so (fits_elements word.Reference t) (leaves pc h (element_types word.Reference t ++ s))))) → AllByRecursion (IsGood P) s → IsElementText word.Reference (slice_get s 1)
    stack_text pc h [] keeps good = absurd keeps
    stack_text pc h (Int ∷ []) keeps good = tt
    stack_text pc h (Int ∷ u ∷ s) keeps good = array_text pc h u s keeps good.1.0
    stack_text pc h (t ∷ s) keeps good = absurd keeps

    kept : (pc : ℕ) (h : Types) → slice_get k.ops pc ≡ Some (op.LoadElement word.Reference) → KeepsAt P k T pc h (slice_get k.ops pc) → KeepsFlow P k T pc h (flow P k pc (op.LoadElement word.Reference) h)
    kept pc h e keeps = subst (KeepsAt P k T pc h) e keeps

  -- of a table
  table_texts : (i : ℕ) (k : Method) (T : Table) → method_at P i ≡ Some k → IsTableOf P k T → HasTexts k T
  table_texts i k T e table n word.Reference op = go (has_code (Some k)) table (types_at T n) refl
    where
      src : IsSourceMethod P k
      src = item (IsSourceMethod P) P.methods k S.methods (i, e)

      go : (b : Bool) → IsTableFor b P k T → (o : Option Types) → types_at T n ≡ o → IsElementText word.Reference (array_under 1 o)
      go b t None q = tt
      go false t (Some h) q = absurd (none T t q)
        where
          none : (T : Table) → T ≡ [] → types_at T n ≡ Some h → ⊥
          none [] s q = cc
          none (x ∷ T) s q = cc
      go true t (Some h) q =
          let good = narrowest_good P S named_well k src (method_named i k e) T t.typing t.narrowest n h q in
          stack_text k T n h h.stack (kept k T n h op (t.typing.each n h q).keeps) good.1
  table_texts i k T e table n t op = tt

  pub tables_texts : (Ts : List Table) → AreTables P Ts → AllZip HasTexts P.methods Ts
  tables_texts Ts tables = go P.methods Ts tables (all_items (λ k. IsAt P.methods k) P.methods (λ k at. at))
    where
      go : (ks : List Method) (Ts : List Table) → AllZip (IsTableOf P) ks Ts → AllByRecursion (λ k. IsAt P.methods k) ks → AllZip HasTexts ks Ts
      go [] [] h at = tt
      go [] (T ∷ Ts) h at = absurd h
      go (k ∷ ks) [] h at = absurd h
      go (k ∷ ks) (T ∷ Ts) h at = (table_texts at.0.0 k T at.0.1 h.0, go ks Ts h.1 at.1)
