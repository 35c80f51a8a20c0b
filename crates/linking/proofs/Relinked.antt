-- The program of rewritten classes, by their methods in one list.
use Rattle.std.proofs.Common.{◌≡◌, Bool, true, false, List, [], ◌∷◌, ◌++◌, map, Option, Some, None, Ok, refl, sym, ap, ◌∙◌, append_assoc}
use Rattle.std.specs.Prelude.{option_map}
use Rattle.std.proofs.lemmas.List.{map-append}
use Rattle.jmodel.specs.declared.name.MethodName.{MethodName}
use Rattle.jmodel.specs.format.ClassFile.{ClassFile}
use Rattle.objects.specs.linking.Each.{in_front, each, joined}
use Rattle.objects.specs.linking.Classes.{Declared, full_name}
use Rattle.objects.specs.semantics.Program.{Method, Program}
use Rattle.objects.specs.linking.Layout.{rows, texts_of, text_places, fields_of}
use Rattle.objects.specs.linking.Linking.{linking}
use Rattle.objects.specs.rewriting.Relinking.{is_counted_old, all_old, all_accessors, all_duplicates, helper_members, all_members, rewritten_meaning, relinked_methods, relinked}
use Rattle.objects.proofs.Links.{links}
use Rattle.linking.specs.Numbering.{Numbered}
use Rattle.linking.specs.Rewritten.{marked, marked_members}
use Rattle.linking.specs.Relinking.{meaning_among, meanings_over, program_over}

-- one more in front of both
join_front : {A : Type 0} (o : Option A) (a b : Option (List A)) → in_front o (joined a b) ≡ joined (in_front o a) b
join_front (Some x) (Some xs) (Some ys) = refl
join_front (Some x) (Some xs) None = refl
join_front (Some x) None (Some ys) = refl
join_front (Some x) None None = refl
join_front None (Some xs) (Some ys) = refl
join_front None (Some xs) None = refl
join_front None None (Some ys) = refl
join_front None None None = refl

join_nothing : {A : Type 0} (b : Option (List A)) → b ≡ joined (Some []) b
join_nothing (Some ys) = refl
join_nothing None = refl

-- what two lists give, one behind the other
pub each_append : {A B : Type 0} (g : A → Option B) (xs ys : List A) → each g (xs ++ ys) ≡ joined (each g xs) (each g ys)
each_append g [] ys = join_nothing (each g ys)
each_append g (x ∷ xs) ys = ap (in_front (g x)) (each_append g xs ys) ∙ join_front (g x) (each g xs) (each g ys)

-- what marked methods give
each_marked : {B : Type 0} (f : Bool → Declared → Option B) (h : Declared → Bool) (ks : List Declared) → each (λ (p : Declared × Bool). f p.1 p.0) (marked h ks) ≡ each (λ k. f (h k) k) ks
each_marked f h [] = refl
each_marked f h (k ∷ ks) = ap (in_front (f (h k) k)) (each_marked f h ks)

-- the methods without their marks
unmarked : (h : Declared → Bool) (ks : List Declared) → map (λ (p : Declared × Bool). p.0) (marked h ks) ≡ ks
unmarked h [] = refl
unmarked h (k ∷ ks) = ap (λ (l : List Declared). k ∷ l) (unmarked h ks)

module _ (P : Program) (cs : List ClassFile) where
  abbrev old : List (Declared × Bool)
  old = marked is_counted_old (all_old P cs)

  abbrev accessors : List (Declared × Bool)
  accessors = marked (λ k. false) (all_accessors P cs)

  abbrev duplicates : List (Declared × Bool)
  duplicates = marked (λ k. true) (all_duplicates P cs)

  abbrev helper : List (Declared × Bool)
  helper = marked (λ k. false) (helper_members cs)

  abbrev first : List (Declared × Bool) → List Declared
  first ps = map (λ (p : Declared × Bool). p.0) ps

  -- they are the methods in the order of their numbers
  pub members_are : first (marked_members P cs) ≡ all_members P cs
  members_are =
      map-append _ (old ++ accessors ++ duplicates) helper ∙ ap (λ (l : List Declared). l ++ first helper) (map-append _ (old ++ accessors) duplicates ∙ ap (λ (l : List Declared). l ++ first duplicates) (map-append _ old accessors))
      ∙ ap (λ (l : List Declared). l ++ first accessors ++ first duplicates ++ first helper) (unmarked is_counted_old (all_old P cs))
      ∙ ap (λ (l : List Declared). all_old P cs ++ l ++ first duplicates ++ first helper) (unmarked (λ k. false) (all_accessors P cs))
      ∙ ap (λ (l : List Declared). all_old P cs ++ all_accessors P cs ++ l ++ first helper) (unmarked (λ k. true) (all_duplicates P cs))
      ∙ ap (λ (l : List Declared). all_old P cs ++ all_accessors P cs ++ all_duplicates P cs ++ l) (unmarked (λ k. false) (helper_members cs))

  -- what they give, kind by kind
  pub kinds_give : {B : Type 0} (f : Bool → Declared → Option B)
      → each (λ (p : Declared × Bool). f p.1 p.0) (marked_members P cs)
      ≡ joined (joined (each (λ k. f (is_counted_old k) k) (all_old P cs)) (each (f false) (all_accessors P cs))) (joined (each (f true) (all_duplicates P cs)) (each (f false) (helper_members cs)))
  kinds_give {B} f =
      let g = λ (p : Declared × Bool). f p.1 p.0 in
      let regroup : old ++ accessors ++ duplicates ++ helper ≡ (old ++ accessors) ++ (duplicates ++ helper) = append_assoc (old ++ accessors) duplicates helper in
      ap (each g) regroup ∙ each_append g (old ++ accessors) (duplicates ++ helper)
      ∙ ap (λ (o : Option (List B)). joined o (each g (duplicates ++ helper))) (each_append g old accessors)
      ∙ ap (λ (o : Option (List B)). joined (joined (each g old) (each g accessors)) o) (each_append g duplicates helper)
      ∙ ap (λ (o : Option (List B)). joined (joined o (each g accessors)) (joined (each g duplicates) (each g helper))) (each_marked f is_counted_old (all_old P cs))
      ∙ ap (λ (o : Option (List B)). joined (joined (each (λ k. f (is_counted_old k) k) (all_old P cs)) o) (joined (each g duplicates) (each g helper))) (each_marked f (λ k. false) (all_accessors P cs))
      ∙ ap (λ (o : Option (List B)). joined (joined (each (λ k. f (is_counted_old k) k) (all_old P cs)) (each (f false) (all_accessors P cs))) (joined o (each g helper))) (each_marked f (λ k. true) (all_duplicates P cs))
      ∙ ap (λ (o : Option (List B)). joined (joined (each (λ k. f (is_counted_old k) k) (all_old P cs)) (each (f false) (all_accessors P cs))) (joined (each (f true) (all_duplicates P cs)) o)) (each_marked f (λ k. false) (helper_members cs))

  module _ (os : List ClassFile) where
    abbrev parts : List MethodName → Numbered
    parts names = record { types = rows os; texts = texts_of os; fields = fields_of os; methods = names }

    meanings_are : meanings_over os cs (marked_members P cs) ≡ relinked_methods P os cs
    meanings_are =
        ap (λ (ks : List Declared). each (λ (p : Declared × Bool). meaning_among cs (parts (map full_name ks)) os p.1 p.0) (marked_members P cs)) members_are
        ∙ kinds_give (rewritten_meaning P os cs)

    -- the program of the methods, over that which the originals are linked to
    pub program_is : linking os ≡ Ok (Some P) → program_over os cs (marked_members P cs) ≡ relinked P os cs
    program_is linked =
        let l = links os P linked in
        let make = λ (ms : List Method). let q : Program = record { types = rows os; texts = text_places os; fields = fields_of os; methods = ms } in q in
        ap (option_map make) meanings_are ∙ sym (ap (λ (Q : Program). option_map (λ (ms : List Method). let q : Program = record Q { methods = ms } in q) (relinked_methods P os cs)) l.is)
