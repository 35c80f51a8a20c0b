-- The laws on the members of rewritten classes tell of each class what makes the rewritten program.
use Rattle.std.proofs.Common.{◌≡◌, ℕ, suc, ◌+◌, true, false, List, [], ◌∷◌, ◌++◌, length, take, drop, Option, Some, Ok, Result, refl, sym, ap, ◌∙◌, subst, arith}
use Rattle.std.specs.Prelude.{slice_get, option_map, option_and_then}
use Rattle.std.specs.List.{AllByRecursion}
use Rattle.jmodel.specs.declared.name.MethodName.{MethodName}
use Rattle.jmodel.specs.declared.refusal.Refusal.{Refusal}
use Rattle.jmodel.specs.format.ClassFile.{Member, ClassFile}
use Rattle.objects.specs.linking.Classes.{Declared}
use Rattle.objects.specs.linking.Code.{Coded}
use Rattle.jmodel.specs.format.Reading.{◌>>=◌}
use Rattle.objects.specs.semantics.Program.{Method, Program}
use Rattle.objects.specs.typing.Typing.{Table}
use Rattle.objects.specs.typing.Source.{IsSource, IsSourceMethod}
use Rattle.objects.specs.linking.Constructs.{is_float_descriptor}
use Rattle.objects.specs.linking.Linking.{method_with, shaped, method_of, decoded_member, original_symbols, linking}
use Rattle.objects.specs.laws.LinkingLaw.{AreRead}
use Rattle.objects.specs.rewriting.Relinking.{decoded_or_none, rewritten_symbols, relinked}
use Rattle.objects.specs.rewriting.Rewriting.{duplicate_method, duplicates, old_methods, accessors, helper_methods}
use Rattle.objects.proofs.CleanCode.{clean_whole, taken_clean}
use Rattle.objects.proofs.DeclaredMembers.{of_methods}
use Rattle.objects.proofs.Items.{IsAt, item}
use Rattle.objects.proofs.Links.{IsLinkedTo, IsMeant, links, method_from}
use Rattle.objects.proofs.SourceProof.{source_law}
use Rattle.objects.proofs.TakenMembers.{in_methods}
use Rattle.const_pool.proofs.Takes.{bind_ok, ok_is}
use Rattle.member_code.specs.Meaning.{meaning}
use Rattle.field_members.specs.AccessorsLaw.{AccessorsLaw}
use Rattle.dup_methods.specs.DuplicateLaw.{ReadsAlike, DuplicateLaw}
use Rattle.retry_wrapper.specs.WrapperLaw.{WrapperLaw}
use Rattle.array_helper.specs.Helper.{helper_file}
use Rattle.array_helper.specs.HelperLaw.{HelperLaw}
use Rattle.rewriter.specs.Asked.{HasBytes, AreFiled}
use Rattle.rewriter.specs.Part.{wrapper_count, own_fields, own_methods, part_of, share_of}
use Rattle.rewriter.specs.Rewritten.{original_of}
use Rattle.rewriter.specs.RewrittenClasses.{rewritten_classes}
use Rattle.rewritten_names.specs.NamesLaw.{AreRewritten}
use Rattle.rewritten_names.specs.LeadsLaw.{AreTexts}
use Rattle.rewritten_code.specs.OldLaw.{SameHeadLaw, OldLaw}
use Rattle.rewritten_ties.specs.KnownLaw.{KnownLaw}
use Rattle.rewritten_ties.specs.RootLaw.{RootLaw}
use Rattle.rewritten_ties.specs.StartLaw.{StartLaw}
use Rattle.rewritten_ties.specs.TiesLaw.{TiesLaw}
use Rattle.rewritten_program.specs.Keeps.{IsCopy, Keeps}
use Rattle.rewritten_program.specs.Meaning.{MeaningLaw}
use Rattle.rewritten_program.proofs.Assembled.{copies_by}
use Rattle.rewritten_program.proofs.Folder.{AreRewritings, made_from, heads_from}
use Rattle.rewritten_program.proofs.Headed.{pair_named, rewrites}
use Rattle.rewritten_program.proofs.Helping.{helper_known}
use Rattle.rewritten_program.proofs.Made.{IsRewriting}
use Rattle.rewritten_program.proofs.Placed.{IsPair, IsPlaced, ArePlaced, placed}
use Rattle.rewritten_program.proofs.Told.{IsTold}
use Rattle.rewritten_program.proofs.Whole.{AllTold, program_is}

-- a member means, among the original classes, the program's method
means_back : (cs : List ClassFile) (d : Declared) (o : Option Coded) (k : Method) → decoded_member d ≡ Ok o → IsMeant cs d o k → meaning (original_symbols cs d.class) true d.member ≡ Some k
means_back cs d o k e M =
    ap (λ (r : Result (Option Coded) Refusal). option_and_then (method_of (original_symbols cs d.class) true d.member) (decoded_or_none r)) e
    ∙ ap (option_and_then (shaped (original_symbols cs d.class) true d.member o)) M.described
    ∙ ap (option_map (method_with (original_symbols cs d.class) true d.member M.signature)) M.bodied
    ∙ ap (λ (k : Method). Some k) (sym M.is)

-- the same of a pair
pair_means : (cs : List ClassFile) (P : Program) (l : IsLinkedTo cs P) (c : ClassFile) (m : Member) (k : Method) → IsPair cs P c m k → meaning (original_symbols cs c) true m ≡ Some k
pair_means cs P l c m k p =
    let f = method_from cs P l p.number k p.is in
    let same : f.member ≡ record { class = c; member = m } = (let a = f.there in let b = p.taken in cc) in
    subst (λ (d : Declared). meaning (original_symbols cs d.class) true d.member ≡ Some k) same (means_back cs f.member f.code k f.decoded f.meant)

-- the laws on members
pub record MemberLaws : Type 0 where
  pub olds : OldLaw
  pub heads : SameHeadLaw
  pub ties : TiesLaw
  pub known : KnownLaw
  pub roots : RootLaw
  pub starts : StartLaw
  pub copies : DuplicateLaw

module _ (laws : MemberLaws) (cs : List ClassFile) (P : Program) (read : AreRead cs) (filed : AllByRecursion AreFiled cs) (linked : linking cs ≡ Ok (Some P)) (l : IsLinkedTo cs P) (source : IsSource P) (ds : List ClassFile) (h : ClassFile)
    (R : AreRewritten P cs ds h) (texts : AreTexts h) (helps : helper_file ≡ Ok h) where
  module _ (i : ℕ) (c d : ClassFile) (at_c : slice_get cs i ≡ Some c) (at_d : slice_get ds i ≡ Some d) (fields methods id : ℕ) (Ts : List Table) (p : IsPlaced cs P c fields methods) (made : IsRewriting P c d (share_of c (part_of cs P methods id c)) Ts) where
    -- the steps
    abbrev K : Keeps P c d (share_of c (part_of cs P methods id c)) Ts
    K = made.keeps

    -- the member is one of the class
    in_class : (m : Member) (k : Method) → IsPair cs P c m k → IsAt c.methods m
    in_class m k q = (of_methods cs (record { class = c; member = m }) (in_methods cs (record { class = c; member = m }) (q.number, q.taken))).1

    -- types are read alike
    reads_alike : (m : Member) (k : Method) → IsPair cs P c m k → ReadsAlike (original_symbols cs c) (rewritten_symbols P cs (ds ++ h ∷ []) d) m
    reads_alike m k q =
        let s = laws.heads P cs ds h R texts i c d at_c at_d K.longer m (in_class m k q) in
        record { own = (rewrites cs P read l c fields methods p d id Ts made).own; receiver = s.receiver; parameters = λ g e. s.parameters g e; result = λ g e. s.result g e }

    -- no type is of floats
    no_float : (m : Member) (k : Method) → IsPair cs P c m k → is_float_descriptor k.name.descriptor ≡ false
    no_float m k q =
        let d : Declared = record { class = c; member = m } in
        ap (λ (n : MethodName). is_float_descriptor n.descriptor) (pair_named cs P read l c m k q) ∙ (clean_whole cs d (taken_clean cs l.constructs d (q.number, q.taken))).float

    -- a duplicate means what the law says
    copy_means : (m : Member) (k : Method) (T : Table) (x : Member) → IsPair cs P c m k → IsCopy (original_of P c (k, m) T) d.pool x → meaning (rewritten_symbols P cs (ds ++ h ∷ []) d) true x ≡ Some (duplicate_method P k T)
    copy_means m k T x q y =
        laws.copies (original_of P c (k, m) T) (original_symbols cs c) (rewritten_symbols P cs (ds ++ h ∷ []) d) y.room y.pool (x, y.after)
        (laws.ties P cs ds h R texts helps i c d at_c at_d m (q.number, q.taken)) (reads_alike m k q) refl
        (item HasBytes c.methods m (item AreFiled cs c filed p.at) (in_class m k q)) (pair_means cs P l c m k q)
        (item (IsSourceMethod P) P.methods k source.methods (q.number, q.is)) (no_float m k q) y.longer y.short y.made y.behind

    -- of one class
    told_one : IsTold cs (ds ++ h ∷ []) P (duplicate_method P) c d fields
    told_one =
        record {
          olds = λ m k q. laws.olds P cs ds h R texts i c d at_c at_d K.longer m k (q.number, q.taken) (pair_means cs P l c m k q);
          roots = λ m k q a e. laws.roots P cs ds h R texts i c d at_c at_d K.longer q.number k m q.is q.taken;
          coded = λ m k q a e. (let s = laws.starts cs P read linked c m (q.number, q.taken) a e in (s.code, s.fits));
          known = laws.known P cs ds h R texts i c d at_c at_d K.fielded K.addresses K.begins fields p.fields_stand;
          copies = λ m k T x q y. copy_means m k T x q y;
        }

  -- classes from a place on
  abbrev AreFrom : List ClassFile → ℕ → List ClassFile → Type 0
  AreFrom whole i xs = (j : ℕ) (x : ClassFile) → slice_get xs j ≡ Some x → slice_get whole (i + j) ≡ Some x

  -- the first of these
  here : (whole : List ClassFile) (i : ℕ) (x : ClassFile) (xs : List ClassFile) → AreFrom whole i (x ∷ xs) → slice_get whole i ≡ Some x
  here whole i x xs f = let z : i + 0 ≡ i = omega arith in subst (λ (n : ℕ). slice_get whole n ≡ Some x) z (f 0 x refl)

  -- those behind it
  next : (whole : List ClassFile) (i : ℕ) (x : ClassFile) (xs : List ClassFile) → AreFrom whole i (x ∷ xs) → AreFrom whole (suc i) xs
  next whole i x xs f j y e = let z : i + suc j ≡ suc i + j = omega arith in subst (λ (n : ℕ). slice_get whole n ≡ Some y) z (f (suc j) y e)

  -- class after class
  all_told : (i fields n id : ℕ) (Ts : List Table) (xs ys : List ClassFile) → AreFrom cs i xs → AreFrom ds i ys → ArePlaced cs P fields n xs → AreRewritings cs P n id Ts xs ys → AllTold cs (ds ++ h ∷ []) P (duplicate_method P) fields xs ys
  all_told i fields n id Ts [] [] f g p r = tt
  all_told i fields n id Ts [] (d ∷ ys) f g p r = absurd r
  all_told i fields n id Ts (c ∷ xs) [] f g p r = absurd r
  all_told i fields n id Ts (c ∷ xs) (d ∷ ys) f g p r = (
    told_one i c d (here cs i c xs f) (here ds i d ys g) fields n id (take (length (own_methods P c)) Ts) p.0 r.0,
    all_told (suc i) (fields + length (own_fields P c)) (n + length (own_methods P c)) (id + wrapper_count (own_methods P c)) (drop (length (own_methods P c)) Ts) xs ys (next cs i c xs f) (next ds i d ys g) p.1 r.1,
  )

-- what is made of methods by duplicate_method are their duplicates
copies_are : (P : Program) (ks : List Method) (Ts : List Table) → copies_by (duplicate_method P) ks Ts ≡ duplicates P ks Ts
copies_are P [] Ts = refl
copies_are P (k ∷ ks) [] = ap (λ (l : List Method). duplicate_method P k [] ∷ l) (copies_are P ks [])
copies_are P (k ∷ ks) (T ∷ Ts) = ap (λ (l : List Method). duplicate_method P k T ∷ l) (copies_are P ks Ts)

-- all stand from the first on
from_first : (xs : List ClassFile) (j : ℕ) (x : ClassFile) → slice_get xs j ≡ Some x → slice_get xs (0 + j) ≡ Some x
from_first xs j x e = let z : j ≡ 0 + j = omega arith in subst (λ (n : ℕ). slice_get xs n ≡ Some x) z e

-- the laws together
pub meaning_is : MemberLaws → AccessorsLaw → WrapperLaw → HelperLaw → MeaningLaw
meaning_is laws accesses wraps helpers cs news P Ts read filed linked e =
    let l = links cs P linked in
    let source = source_law cs P read linked in
    let a = bind_ok (rewritten_classes cs P Ts) (λ classes. helper_file >>= λ helper. Ok (classes ++ helper ∷ [])) news e in
    let b = bind_ok helper_file (λ helper. Ok (a.0 ++ helper ∷ [])) news a.2 in
    let p = placed cs P read l in
    let made = made_from cs P read l 0 0 0 Ts cs a.0 p a.1 in
    let helper = helper_known b.0 b.1 in
    let heads = heads_from cs P read l 0 0 0 Ts cs a.0 p made in
    let R : AreRewritten P cs a.0 b.0 = record { read = read; linked = linked; each = heads; named = helper.named } in
    let told = all_told laws cs P read filed linked l source a.0 b.0 R helper.texts b.1 0 0 0 0 Ts cs a.0 (from_first cs) (from_first a.0) p made in
    ap (relinked P cs) (sym (ok_is (a.0 ++ b.0 ∷ []) news b.2))
    ∙ program_is accesses wraps helpers cs P (duplicate_method P) Ts a.0 b.0 read l source heads helper.named b.1 made told
    ∙ ap (λ (ks : List Method). Some (record P { methods = old_methods P 0 0 P.methods ++ accessors 0 P.fields ++ ks ++ helper_methods })) (copies_are P P.methods Ts)
