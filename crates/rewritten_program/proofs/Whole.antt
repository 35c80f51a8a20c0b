-- Rewritten classes, with what is known of each, together mean the rewritten program.
use Rattle.std.proofs.Common.{◌≡◌, ℕ, zero, suc, ◌+◌, true, false, List, [], ◌∷◌, ◌++◌, length, take, drop, Option, Some, Ok, refl, sym, ap, ◌∙◌, append_assoc}
use Rattle.std.specs.Prelude.{filter, bytes_eq, option_map}
use Rattle.std.specs.List.{AllByRecursion, AllZip, flat_map}
use Rattle.std.proofs.lemmas.List.Elements.{filter-append}
use Rattle.std.proofs.lemmas.Slice.Eq.{bytes_eq-Decides}
use Rattle.jmodel.specs.format.ClassFile.{ClassFile}
use Rattle.objects.specs.linking.Classes.{Declared, declared_in}
use Rattle.objects.specs.linking.Each.{each, joined as both_lists}
use Rattle.objects.specs.linking.Members.{own_name}
use Rattle.objects.specs.semantics.Program.{Field, Method, Program}
use Rattle.objects.specs.typing.Typing.{Table}
use Rattle.objects.specs.typing.Source.{IsSource}
use Rattle.objects.specs.laws.LinkingLaw.{AreRead}
use Rattle.objects.specs.rewriting.Relinking.{old_members, duplicate_members, accessor_members, is_helper, helper_members, rewritten_classes, is_counted_old, rewritten_symbols, rewritten_meaning, relinked}
use Rattle.objects.specs.rewriting.Rewriting.{old_methods, accessors, helper_class, helper_methods}
use Rattle.objects.proofs.Items.{all_items}
use Rattle.objects.proofs.Links.{IsLinkedTo}
use Rattle.array_helper.specs.Helper.{helper_file}
use Rattle.array_helper.specs.HelperLaw.{HelperLaw}
use Rattle.field_members.specs.AccessorsLaw.{AccessorsLaw}
use Rattle.retry_wrapper.specs.WrapperLaw.{WrapperLaw}
use Rattle.rewriter.specs.Part.{wrapper_count, own_fields, own_methods}
use Rattle.rewriter.proofs.Owned.{methods_are, fields_are}
use Rattle.rewritten_names.specs.Heads.{Rewrites}
use Rattle.rewritten_names.proofs.Free.{is_apart}
use Rattle.rewritten_names.proofs.Lists.{append_none, filter_none, filter_all, turned}
use Rattle.rewritten_names.proofs.Named.{classes_are}
use Rattle.rewritten_names.proofs.Ways.{IsApart}
use Rattle.rewritten_program.proofs.Assembled.{copies_by, olds_mean, accessors_mean, copies_mean}
use Rattle.rewritten_program.proofs.Each.{each_append, each_declared, olds_append, accessors_append}
use Rattle.rewritten_program.proofs.Folder.{AreRewritings}
use Rattle.rewritten_program.proofs.Placed.{ArePlaced, placed}
use Rattle.rewritten_program.proofs.Told.{IsTold}

-- ---- methods of several classes

-- nothing has no front
take_nothing : (n : ℕ) → take {A = Table} n [] ≡ []
take_nothing zero = refl
take_nothing (suc n) = refl

-- and nothing behind it
drop_nothing : (n : ℕ) → drop {A = Table} n [] ≡ []
drop_nothing zero = refl
drop_nothing (suc n) = refl

-- what is made of methods by their tables, class by class
copies_append : (copy : Method → Table → Method) (ks ls : List Method) (Ts : List Table) → copies_by copy (ks ++ ls) Ts ≡ copies_by copy ks (take (length ks) Ts) ++ copies_by copy ls (drop (length ks) Ts)
copies_append copy [] ls Ts = ap (copies_by copy ls) (sym (whole Ts))
  where
    whole : (Ts : List Table) → drop 0 Ts ≡ Ts
    whole [] = refl
    whole (T ∷ Ts) = refl
copies_append copy (k ∷ ks) ls [] =
    ap (λ (l : List Method). copy k [] ∷ l) (copies_append copy ks ls [] ∙ ap (λ (Us : List Table). copies_by copy ks Us ++ copies_by copy ls (drop (length ks) [])) (take_nothing (length ks)) ∙ ap (λ (Us : List Table). copies_by copy ks [] ++ copies_by copy ls Us) (drop_nothing (length ks)))
copies_append copy (k ∷ ks) ls (T ∷ Ts) = ap (λ (l : List Method). copy k T ∷ l) (copies_append copy ks ls Ts)

module _ (cs news : List ClassFile) (P : Program) (copy : Method → Table → Method) where
  -- what is known of each class
  abbrev pub AllTold : ℕ → List ClassFile → List ClassFile → Type 0
  AllTold fields [] [] = Unit {0}
  AllTold fields [] (d ∷ ds) = ⊥
  AllTold fields (c ∷ xs) [] = ⊥
  AllTold fields (c ∷ xs) (d ∷ ds) = IsTold cs news P copy c d fields × AllTold (fields + length (own_fields P c)) xs ds

  -- what an old member means
  abbrev old_meaning : Declared → Option Method
  old_meaning k = rewritten_meaning P cs news (is_counted_old k) k

  module _ (read : AreRead cs) (l : IsLinkedTo cs P) (source : IsSource P) (accesses : AccessorsLaw) (wraps : WrapperLaw) where
    -- all old methods
    all_olds : (fields n id : ℕ) (Ts : List Table) (xs ds : List ClassFile) → ArePlaced cs P fields n xs → AreRewritings cs P n id Ts xs ds → AllTold fields xs ds → each old_meaning (flat_map (old_members P) ds) ≡ Some (old_methods P id n (flat_map (own_methods P) xs))
    all_olds fields n id Ts [] [] p r t = refl
    all_olds fields n id Ts [] (d ∷ ds) p r t = absurd r
    all_olds fields n id Ts (c ∷ xs) [] p r t = absurd r
    all_olds fields n id Ts (c ∷ xs) (d ∷ ds) p r t =
        each_append old_meaning (old_members P d) (flat_map (old_members P) ds) (old_methods P id n (own_methods P c)) (old_methods P (id + wrapper_count (own_methods P c)) (n + length (own_methods P c)) (flat_map (own_methods P) xs))
        (olds_mean cs news P copy read l source accesses wraps c fields n p.0 d id (take (length (own_methods P c)) Ts) r.0 t.0)
        (all_olds (fields + length (own_fields P c)) (n + length (own_methods P c)) (id + wrapper_count (own_methods P c)) (drop (length (own_methods P c)) Ts) xs ds p.1 r.1 t.1)
        ∙ ap (λ (l : List Method). Some l) (sym (olds_append P (own_methods P c) (flat_map (own_methods P) xs) id n))

    -- all accessors
    all_accessors : (fields n id : ℕ) (Ts : List Table) (xs ds : List ClassFile) → ArePlaced cs P fields n xs → AreRewritings cs P n id Ts xs ds → AllTold fields xs ds
        → each (rewritten_meaning P cs news false) (flat_map (accessor_members P) ds) ≡ Some (accessors fields (flat_map (own_fields P) xs))
    all_accessors fields n id Ts [] [] p r t = refl
    all_accessors fields n id Ts [] (d ∷ ds) p r t = absurd r
    all_accessors fields n id Ts (c ∷ xs) [] p r t = absurd r
    all_accessors fields n id Ts (c ∷ xs) (d ∷ ds) p r t =
        each_append (rewritten_meaning P cs news false) (accessor_members P d) (flat_map (accessor_members P) ds) (accessors fields (own_fields P c)) (accessors (fields + length (own_fields P c)) (flat_map (own_fields P) xs))
        (accessors_mean cs news P copy read l source accesses wraps c fields n p.0 d id (take (length (own_methods P c)) Ts) r.0 t.0)
        (all_accessors (fields + length (own_fields P c)) (n + length (own_methods P c)) (id + wrapper_count (own_methods P c)) (drop (length (own_methods P c)) Ts) xs ds p.1 r.1 t.1)
        ∙ ap (λ (l : List Method). Some l) (sym (accessors_append (own_fields P c) (flat_map (own_fields P) xs) fields))

    -- all duplicates
    all_copies : (fields n id : ℕ) (Ts : List Table) (xs ds : List ClassFile) → ArePlaced cs P fields n xs → AreRewritings cs P n id Ts xs ds → AllTold fields xs ds
        → each (rewritten_meaning P cs news true) (flat_map (duplicate_members P) ds) ≡ Some (copies_by copy (flat_map (own_methods P) xs) Ts)
    all_copies fields n id Ts [] [] p r t = refl
    all_copies fields n id Ts [] (d ∷ ds) p r t = absurd r
    all_copies fields n id Ts (c ∷ xs) [] p r t = absurd r
    all_copies fields n id Ts (c ∷ xs) (d ∷ ds) p r t =
        each_append (rewritten_meaning P cs news true) (duplicate_members P d) (flat_map (duplicate_members P) ds) (copies_by copy (own_methods P c) (take (length (own_methods P c)) Ts)) (copies_by copy (flat_map (own_methods P) xs) (drop (length (own_methods P c)) Ts))
        (copies_mean cs news P copy read l source accesses wraps c fields n p.0 d id (take (length (own_methods P c)) Ts) r.0 t.0)
        (all_copies (fields + length (own_fields P c)) (n + length (own_methods P c)) (id + wrapper_count (own_methods P c)) (drop (length (own_methods P c)) Ts) xs ds p.1 r.1 t.1)
        ∙ ap (λ (l : List Method). Some l) (sym (copies_append copy (own_methods P c) (flat_map (own_methods P) xs) Ts))

-- ---- the helper among the classes

module _ (cs : List ClassFile) (P : Program) (read : AreRead cs) (l : IsLinkedTo cs P) (ds : List ClassFile) (h : ClassFile) (R : AllZip (Rewrites P) cs ds) (named : own_name h ≡ helper_class) where
  -- no rewritten class is the helper
  apart : (xs ys : List ClassFile) → AllByRecursion IsApart xs → AllZip (Rewrites P) xs ys → AllByRecursion (λ d. is_helper d ≡ false) ys
  apart [] [] a z = tt
  apart [] (y ∷ ys) a z = absurd z
  apart (x ∷ xs) [] a z = absurd z
  apart (x ∷ xs) (y ∷ ys) a z = (turned helper_class (own_name y) (ap (bytes_eq helper_class) z.0.own ∙ a.0.own), apart xs ys a.1 z.1)

  -- the helper is the one
  helpers : filter is_helper (ds ++ h ∷ []) ≡ h ∷ []
  helpers =
      let it : is_helper h ≡ true = (bytes_eq-Decides (own_name h) helper_class).1 named in
      filter-append is_helper ds (h ∷ []) ∙ ap (λ (l : List ClassFile). l ++ filter is_helper (h ∷ [])) (filter_none is_helper ds (apart cs ds (all_items IsApart cs (is_apart cs P read l)) R)) ∙ filter_all is_helper (h ∷ []) (it, tt)

  -- the helper's methods are its own
  pub helper_members_are : helper_members (ds ++ h ∷ []) ≡ declared_in h h.methods
  helper_members_are = ap (flat_map (λ (c : ClassFile). declared_in c c.methods)) helpers ∙ append_none (declared_in h h.methods)

-- ---- the program

-- the methods of the rewritten program, where this is made of a method and its table
abbrev pub methods_by : Program → (Method → Table → Method) → List Table → List Method
methods_by P copy Ts = old_methods P 0 0 P.methods ++ accessors 0 P.fields ++ copies_by copy P.methods Ts ++ helper_methods

-- the program
pub program_is : AccessorsLaw → WrapperLaw → HelperLaw → (cs : List ClassFile) (P : Program) (copy : Method → Table → Method) (Ts : List Table) (ds : List ClassFile) (h : ClassFile) → AreRead cs → IsLinkedTo cs P → IsSource P → AllZip (Rewrites P) cs ds → own_name h ≡ helper_class
    → helper_file ≡ Ok h → AreRewritings cs P 0 0 Ts cs ds → AllTold cs (ds ++ h ∷ []) P copy 0 cs ds → relinked P cs (ds ++ h ∷ []) ≡ Some (record P { methods = methods_by P copy Ts })
program_is accesses wraps helps_all cs P copy Ts ds h read l source heads named helps made told =
    let p = placed cs P read l in
    let ms = methods_are cs P read l in
    let fs = fields_are cs P read l in
    let classes = classes_are cs P read l source ds h heads named in
    let olds : each (λ (k : Declared). rewritten_meaning P cs (ds ++ h ∷ []) (is_counted_old k) k) (flat_map (old_members P) (rewritten_classes (ds ++ h ∷ []))) ≡ Some (old_methods P 0 0 P.methods) =
    ap (λ (x : List ClassFile). each (λ (k : Declared). rewritten_meaning P cs (ds ++ h ∷ []) (is_counted_old k) k) (flat_map (old_members P) x)) classes
    ∙ all_olds cs (ds ++ h ∷ []) P copy read l source accesses wraps 0 0 0 Ts cs ds p made told ∙ ap (λ (x : List Method). Some (old_methods P 0 0 x)) (sym ms.1) in
    let accs : each (rewritten_meaning P cs (ds ++ h ∷ []) false) (flat_map (accessor_members P) (rewritten_classes (ds ++ h ∷ []))) ≡ Some (accessors 0 P.fields) =
    ap (λ (x : List ClassFile). each (rewritten_meaning P cs (ds ++ h ∷ []) false) (flat_map (accessor_members P) x)) classes
    ∙ all_accessors cs (ds ++ h ∷ []) P copy read l source accesses wraps 0 0 0 Ts cs ds p made told ∙ ap (λ (x : List Field). Some (accessors 0 x)) (sym fs) in
    let copies : each (rewritten_meaning P cs (ds ++ h ∷ []) true) (flat_map (duplicate_members P) (rewritten_classes (ds ++ h ∷ []))) ≡ Some (copies_by copy P.methods Ts) =
    ap (λ (x : List ClassFile). each (rewritten_meaning P cs (ds ++ h ∷ []) true) (flat_map (duplicate_members P) x)) classes
    ∙ all_copies cs (ds ++ h ∷ []) P copy read l source accesses wraps 0 0 0 Ts cs ds p made told ∙ ap (λ (x : List Method). Some (copies_by copy x Ts)) (sym ms.1) in
    let helper : each (rewritten_meaning P cs (ds ++ h ∷ []) false) (helper_members (ds ++ h ∷ [])) ≡ Some helper_methods =
    ap (each (rewritten_meaning P cs (ds ++ h ∷ []) false)) (helper_members_are cs P read l ds h heads named)
    ∙ each_declared (rewritten_meaning P cs (ds ++ h ∷ []) false) h h.methods ∙ helps_all (rewritten_symbols P cs (ds ++ h ∷ []) h) helps in
    let front : both_lists (each (λ (k : Declared). rewritten_meaning P cs (ds ++ h ∷ []) (is_counted_old k) k) (flat_map (old_members P) (rewritten_classes (ds ++ h ∷ []))))
    (each (rewritten_meaning P cs (ds ++ h ∷ []) false) (flat_map (accessor_members P) (rewritten_classes (ds ++ h ∷ [])))) ≡ Some (old_methods P 0 0 P.methods ++ accessors 0 P.fields) = both olds accs in
    let back : both_lists (each (rewritten_meaning P cs (ds ++ h ∷ []) true) (flat_map (duplicate_members P) (rewritten_classes (ds ++ h ∷ [])))) (each (rewritten_meaning P cs (ds ++ h ∷ []) false) (helper_members (ds ++ h ∷ []))) ≡ Some (copies_by copy P.methods Ts ++ helper_methods) = both copies helper in
    ap (option_map (λ (x : List Method). record P { methods = x })) (both front back ∙ ap (λ (x : List Method). Some x) (sym (append_assoc (old_methods P 0 0 P.methods ++ accessors 0 P.fields) (copies_by copy P.methods Ts) helper_methods)))
  where
    both : {o u : Option (List Method)} {xs ys : List Method} → o ≡ Some xs → u ≡ Some ys → both_lists o u ≡ Some (xs ++ ys)
    both {o} {u} {xs} {ys} e f = ap (λ (x : Option (List Method)). both_lists x u) e ∙ ap (both_lists (Some xs)) f
