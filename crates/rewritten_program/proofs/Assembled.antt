-- What the methods of a class's rewriting mean, group by group.
use Rattle.std.proofs.Common.{◌≡◌, ℕ, true, false, List, [], ◌∷◌, length, drop, Some, refl, sym, ap, ◌∙◌}
use Rattle.std.specs.Prelude.{filter, zip}
use Rattle.std.specs.List.{AllZip}
use Rattle.jmodel.specs.format.ClassFile.{Member, ClassFile}
use Rattle.objects.specs.linking.Classes.{Declared, declared_in}
use Rattle.objects.specs.linking.Each.{each}
use Rattle.objects.specs.semantics.Program.{Method, Program}
use Rattle.objects.specs.typing.Typing.{Table}
use Rattle.objects.specs.typing.Source.{IsSource}
use Rattle.objects.specs.laws.LinkingLaw.{AreRead}
use Rattle.objects.specs.rewriting.Relinking.{old_members, duplicate_members, accessor_members, is_counted_old, rewritten_symbols, rewritten_meaning}
use Rattle.objects.specs.rewriting.Rewriting.{old_methods, accessors}
use Rattle.objects.proofs.Items.{into_flat, into_map}
use Rattle.objects.proofs.Links.{IsLinkedTo}
use Rattle.member_code.specs.Meaning.{meaning}
use Rattle.field_members.specs.AccessorsLaw.{AccessorsLaw}
use Rattle.dup_methods.specs.Originals.{Original}
use Rattle.retry_wrapper.specs.WrapperLaw.{WrapperLaw}
use Rattle.rewriter.specs.Part.{own_fields, own_methods, part_of, share_of}
use Rattle.rewriter.specs.Rewritten.{originals}
use Rattle.rewriter.proofs.Lists.{drop_front}
use Rattle.rewriter.proofs.Owned.{taken_of}
use Rattle.rewritten_program.specs.Keeps.{IsCopy, Keeps}
use Rattle.rewritten_program.proofs.Each.{each_cons, each_declared}
use Rattle.rewritten_program.proofs.Grouped as grouped
use Rattle.rewritten_program.proofs.Made.{IsRewriting}
use Rattle.rewritten_program.proofs.Olds.{olds_from}
use Rattle.rewritten_program.proofs.Placed.{IsPair, IsPlaced, pair_at, pairs}
use Rattle.rewritten_program.proofs.Told.{IsTold}

-- what is made of methods and their tables
abbrev pub copies_by : (Method → Table → Method) → List Method → List Table → List Method
copies_by copy [] Ts = []
copies_by copy (k ∷ ks) [] = copy k [] ∷ copies_by copy ks []
copies_by copy (k ∷ ks) (T ∷ Ts) = copy k T ∷ copies_by copy ks Ts

module _ (cs news : List ClassFile) (P : Program) (copy : Method → Table → Method) (read : AreRead cs) (l : IsLinkedTo cs P) (source : IsSource P) (accesses : AccessorsLaw) (wraps : WrapperLaw) where
  module _ (c : ClassFile) (fields methods : ℕ) (p : IsPlaced cs P c fields methods) (d : ClassFile) (id : ℕ) (Ts : List Table) (R : IsRewriting P c d (share_of c (part_of cs P methods id c)) Ts) (T : IsTold cs news P copy c d fields) where
    -- the steps
    abbrev K : Keeps P c d (share_of c (part_of cs P methods id c)) Ts
    K = R.keeps

    -- the old ones
    pub olds_mean : each (λ (k : Declared). rewritten_meaning P cs news (is_counted_old k) k) (old_members P d) ≡ Some (old_methods P id methods (own_methods P c))
    olds_mean =
        ap (each (λ (k : Declared). rewritten_meaning P cs news (is_counted_old k) k)) (grouped.olds_are cs P read l source c fields methods p d id Ts R)
        ∙ each_declared (λ (k : Declared). rewritten_meaning P cs news (is_counted_old k) k) d (filter (grouped.is_old cs P read l source c fields methods p d id Ts R) K.olds)
        ∙ olds_from cs news P copy l c d fields T wraps p.at
        (λ m at. into_flat (λ (c : ClassFile). declared_in c c.methods) cs c (record { class = c; member = m }) p.at (into_map (λ (m : Member). record { class = c; member = m }) c.methods m at))
        0 methods id c.methods K.olds (own_methods P c) (λ m at. at) K.are_olds (grouped.olds_numbered cs P read l source c fields methods p d id Ts R)
        (λ j m k e f. pair_at cs P read l c fields methods p j m k e f) p.many

    -- accessors
    pub accessors_mean : each (rewritten_meaning P cs news false) (accessor_members P d) ≡ Some (accessors fields (own_fields P c))
    accessors_mean =
        ap (each (rewritten_meaning P cs news false)) (grouped.accessors_between cs P read l source c fields methods p d id Ts R)
        ∙ each_declared (rewritten_meaning P cs news false) d K.accessors
        ∙ ap (each (meaning (rewritten_symbols P cs news d) false)) (sym (ap (drop (length K.fielded.methods)) K.accessed_methods ∙ drop_front c.methods K.accessors (length K.fielded.methods) (ap length K.fielded_methods)))
        ∙ accesses (own_fields P c) fields K.fielded K.accessed (rewritten_symbols P cs news d) K.fielded_short K.getters K.accessed_longer T.known

    -- duplicate after duplicate
    copies_from : (ks : List Method) (ms : List Member) (Us : List Table) (xs : List Member) → AllZip (IsPair cs P c) ms ks → AllZip (λ (O : Original) (m : Member). IsCopy O d.pool m) (originals P c (zip ks ms) Us) xs
        → each (meaning (rewritten_symbols P cs news d) true) xs ≡ Some (copies_by copy ks Us)
    copies_from [] [] Us [] q h = refl
    copies_from [] [] Us (x ∷ xs) q h = absurd h
    copies_from [] (m ∷ ms) Us xs q h = absurd q
    copies_from (k ∷ ks) [] Us xs q h = absurd q
    copies_from (k ∷ ks) (m ∷ ms) [] [] q h = absurd h
    copies_from (k ∷ ks) (m ∷ ms) [] (x ∷ xs) q h =
        each_cons (meaning (rewritten_symbols P cs news d) true) x xs (copy k []) (copies_by copy ks []) (T.copies m k [] x q.0 h.0) (copies_from ks ms [] xs q.1 h.1)
    copies_from (k ∷ ks) (m ∷ ms) (U ∷ Us) [] q h = absurd h
    copies_from (k ∷ ks) (m ∷ ms) (U ∷ Us) (x ∷ xs) q h =
        each_cons (meaning (rewritten_symbols P cs news d) true) x xs (copy k U) (copies_by copy ks Us) (T.copies m k U x q.0 h.0) (copies_from ks ms Us xs q.1 h.1)

    -- duplicates
    pub copies_mean : each (rewritten_meaning P cs news true) (duplicate_members P d) ≡ Some (copies_by copy (own_methods P c) Ts)
    copies_mean =
        ap (each (rewritten_meaning P cs news true)) (grouped.copies_are cs P read l source c fields methods p d id Ts R)
        ∙ each_declared (rewritten_meaning P cs news true) d K.copies
        ∙ copies_from (own_methods P c) (taken_of cs c) Ts K.copies (pairs cs P read l c fields methods p) K.are_copies
