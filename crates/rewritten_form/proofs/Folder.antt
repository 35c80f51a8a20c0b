-- The rewriting of a folder keeps the rules of class files, class after class.
use Rattle.std.proofs.Common.{◌≡◌, ℕ, ◌+◌, Bool, true, false, List, [], ◌∷◌, ◌++◌, length, Result, Ok, Err, refl, sym, ap, ◌∙◌, subst}
use Rattle.std.specs.Prelude.{filter, take, drop}
use Rattle.std.specs.List.{AllByRecursion, AllZip, flat_map}
use Rattle.std.proofs.lemmas.List.{length-map}
use Rattle.std.proofs.lemmas.List.Concat.{flat_map-cons}
use Rattle.std.proofs.lemmas.List.Elements.{filter-append}
use Rattle.jmodel.specs.declared.refusal.Refusal.{Refusal}
use Rattle.jmodel.specs.format.ClassFile.{Member, ClassFile}
use Rattle.jmodel.specs.format.ClassRules.{IsClassFile}
use Rattle.objects.specs.linking.Classes.{Declared, declared_in, methods_in}
use Rattle.objects.specs.linking.Taken.{is_taken}
use Rattle.objects.specs.linking.Members.{own_name}
use Rattle.objects.specs.semantics.Program.{Method, Program}
use Rattle.objects.specs.typing.Typing.{Table}
use Rattle.objects.specs.linking.Linking.{taken_methods}
use Rattle.objects.specs.laws.LinkingLaw.{AreRead}
use Rattle.jmodel.specs.format.Reading.{◌>>=◌}
use Rattle.objects.proofs.Items.{IsAt, all_items}
use Rattle.objects.proofs.Links.{IsLinkedTo, method_from, methods_many}
use Rattle.const_pool.proofs.Takes.{bind_ok, ok_is}
use Rattle.array_helper.specs.Helper.{helper_file}
use Rattle.rewriter.specs.Asked.{AreFiled}
use Rattle.rewriter.specs.Part.{wrapper_count, own_methods, part_of}
use Rattle.rewriter.specs.Rewritten.{rewritten_part}
use Rattle.rewriter.specs.RewrittenClasses.{of_class, rewritten_from, rewritten_classes, rewritten_folder}
use Rattle.rewriter.proofs.Lists.{filter_keeps, filter_drops, all_zipped, zipped_parts, taken_off}
use Rattle.rewriter.proofs.Owned.{taken_of, AreAsMany, methods_are}
use Rattle.rewritten_form.proofs.Lists.{all_append}
use Rattle.rewritten_form.proofs.CodeNames.{HasTexts}
use Rattle.rewritten_form.proofs.HelperForm.{helper_form}
use Rattle.rewritten_form.proofs.Rewritten.{ComesFrom, class_rules}

-- a result that is told of a class is the result
of_class_ok : (name : List ℕ) (r : Result ClassFile Refusal) (x : ClassFile) → of_class name r ≡ Ok x → r ≡ Ok x
of_class_ok name (Ok y) x e = e
of_class_ok name (Err f) x e = cc

-- the members of a class that pass a test as its methods do
declared_where : (p : Declared → Bool) (c : ClassFile) (ms : List Member) → filter p (declared_in c ms) ≡ declared_in c (filter (λ (m : Member). p (record { class = c; member = m })) ms)
declared_where p c [] = refl
declared_where p c (m ∷ ms) = go (p (record { class = c; member = m })) refl (declared_where p c ms)
  where
    go : (b : Bool) → p (record { class = c; member = m }) ≡ b → filter p (declared_in c ms) ≡ declared_in c (filter (λ (x : Member). p (record { class = c; member = x })) ms)
        → filter p (declared_in c (m ∷ ms)) ≡ declared_in c (filter (λ (x : Member). p (record { class = c; member = x })) (m ∷ ms))
    go true e h =
        filter_keeps p (record { class = c; member = m }) (declared_in c ms) e ∙ ap (λ (l : List Declared). record { class = c; member = m } ∷ l) h
        ∙ ap (declared_in c) (sym (filter_keeps (λ (x : Member). p (record { class = c; member = x })) m ms e))
    go false e h = filter_drops p (record { class = c; member = m }) (declared_in c ms) e ∙ h ∙ ap (declared_in c) (sym (filter_drops (λ (x : Member). p (record { class = c; member = x })) m ms e))

module _ (cs : List ClassFile) (P : Program) (read : AreRead cs) (l : IsLinkedTo cs P) (filed : AllByRecursion AreFiled cs) where
  abbrev From : Declared → Method → Type 0
  From d k = ComesFrom cs P read l filed d k

  -- each method comes from the member at its place
  all_from : AllZip From (taken_methods cs) P.methods
  all_from = all_zipped From (taken_methods cs) P.methods (methods_many cs P l) (λ i k at. let f = method_from cs P l i k at in (f.member, f.there, (i, at, f.there)))

  -- the taken methods of a class stand before those of the others
  taken_first : (c : ClassFile) (ds : List ClassFile) → filter (is_taken cs) (methods_in (c ∷ ds)) ≡ declared_in c (taken_of cs c) ++ filter (is_taken cs) (methods_in ds)
  taken_first c ds =
      ap (filter (is_taken cs)) (flat_map-cons (λ (c : ClassFile). declared_in c c.methods) c ds) ∙ filter-append (is_taken cs) (declared_in c c.methods) (methods_in ds)
      ∙ ap (λ (l : List Declared). l ++ filter (is_taken cs) (methods_in ds)) (declared_where (is_taken cs) c c.methods)

  abbrev IsOwned : ClassFile → Type 0
  IsOwned c = AreAsMany cs c (own_methods P c)

  -- classes, with the methods and the tables that are theirs
  from_rules : (n id : ℕ) (Ts : List Table) (ds news : List ClassFile) → AllByRecursion (IsAt cs) ds → AllByRecursion IsOwned ds → AllZip From (filter (is_taken cs) (methods_in ds)) (flat_map (own_methods P) ds) → AllZip HasTexts (flat_map (own_methods P) ds) Ts
      → rewritten_from cs P n id Ts ds ≡ Ok news → AllByRecursion IsClassFile news
  from_rules n id Ts [] news at owned from texts e = let same : [] ≡ news = ok_is [] news e in subst (AllByRecursion IsClassFile) same tt
  from_rules n id Ts (c ∷ ds) news at owned from texts e =
      let own : List Method = own_methods P c in
      let more : List Method = flat_map (own_methods P) ds in
      let a = bind_ok (of_class (own_name c) (rewritten_part P c (part_of cs P n id c) (take (length (own_methods P c)) Ts)))
      (λ first. rewritten_from cs P (n + length (own_methods P c)) (id + wrapper_count (own_methods P c)) (drop (length (own_methods P c)) Ts) ds >>= λ others. Ok (first ∷ others)) news e in
      let b = bind_ok (rewritten_from cs P (n + length (own_methods P c)) (id + wrapper_count (own_methods P c)) (drop (length (own_methods P c)) Ts) ds) (λ others. Ok (a.0 ∷ others)) news a.2 in
      let same : a.0 ∷ b.0 ≡ news = ok_is (a.0 ∷ b.0) news b.2 in
      let cons = flat_map-cons (own_methods P) c ds in
      let both = zipped_parts HasTexts own more Ts (subst (λ (ks : List Method). AllZip HasTexts ks Ts) cons texts) in
      let long : length (declared_in c (taken_of cs c)) ≡ length (taken_of cs c) = length-map _ _ in
      let parts = zipped_parts From (declared_in c (taken_of cs c)) (filter (is_taken cs) (methods_in ds)) (flat_map (own_methods P) (c ∷ ds))
      (subst (λ (xs : List Declared). AllZip From xs (flat_map (own_methods P) (c ∷ ds))) (taken_first c ds) from) in
      let cut = taken_off (flat_map (own_methods P) (c ∷ ds)) own more (length (declared_in c (taken_of cs c))) cons (long ∙ sym owned.0) in
      let one = class_rules cs P read l filed c at.0 n id (take (length (own_methods P c)) Ts) a.0 (subst (AllZip From (declared_in c (taken_of cs c))) cut.0 parts.0) both.0 (of_class_ok (own_name c) _ a.0 a.1) in
      let others = from_rules (n + length (own_methods P c)) (id + wrapper_count (own_methods P c)) (drop (length (own_methods P c)) Ts) ds b.0 at.1 owned.1 (subst (AllZip From (filter (is_taken cs) (methods_in ds))) cut.1 parts.1) both.1 b.1 in
      subst (AllByRecursion IsClassFile) same (one, others)

  -- a whole folder
  pub folder_rules : (Ts : List Table) (news : List ClassFile) → AllZip HasTexts P.methods Ts → rewritten_folder cs P Ts ≡ Ok news → AllByRecursion IsClassFile news
  folder_rules Ts news texts e =
      let M = methods_are cs P read l in
      let a = bind_ok (rewritten_classes cs P Ts) (λ classes. helper_file >>= λ helper. Ok (classes ++ helper ∷ [])) news e in
      let b = bind_ok helper_file (λ helper. Ok (a.0 ++ helper ∷ [])) news a.2 in
      let same : a.0 ++ b.0 ∷ [] ≡ news = ok_is (a.0 ++ b.0 ∷ []) news b.2 in
      let rules =
      from_rules 0 0 Ts cs a.0 (all_items (IsAt cs) cs (λ c at. at)) M.0 (subst (AllZip From (taken_methods cs)) M.1 all_from)
      (subst (λ (ks : List Method). AllZip HasTexts ks Ts) M.1 texts) a.1 in
      subst (AllByRecursion IsClassFile) same (all_append IsClassFile a.0 (b.0 ∷ []) rules (helper_form b.0 b.1, tt))
