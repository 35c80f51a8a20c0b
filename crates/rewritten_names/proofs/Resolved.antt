-- What the names of fields and methods lead to among rewritten classes.
use Rattle.std.proofs.Common.{◌≡◌, ◌≢◌, ℕ, zero, suc, List, [], ◌∷◌, ◌++◌, map, take, drop, Option, Some, None, Bool, true, false, ◌&&◌, refl, sym, ap, ◌∙◌, subst, append_assoc}
use Rattle.std.specs.Prelude.{bytes_eq, codes, slice_get, find, filter, cond, option_map, IsSomeAnd}
use Rattle.std.specs.List.{AllByRecursion, AllZip}
use Rattle.std.specs.Option.{option_or}
use Rattle.std.proofs.lemmas.List.Folds.{find-append}
use Rattle.std.proofs.lemmas.Slice.Eq.{bytes_eq-Decides}
use Rattle.jmodel.specs.format.ClassFile.{Member, ClassFile}
use Rattle.jmodel.specs.format.ClassRules.{same_text}
use Rattle.jmodel.specs.format.Pool.{MemberName, utf8, text_or_none}
use Rattle.objects.specs.linking.Reserved.{is_reserved}
use Rattle.objects.specs.linking.Members.{own_name}
use Rattle.objects.specs.linking.Superclasses.{lineage}
use Rattle.objects.specs.linking.Classes.{Declared, declared_in, methods_in}
use Rattle.objects.specs.semantics.Program.{Field, Program}
use Rattle.objects.specs.typing.Source.{IsSource}
use Rattle.objects.specs.typing.TypeOrder.{context_class}
use Rattle.objects.specs.linking.Resolution.{fields_in, ancestry, method_way, resolved_field, resolved_method}
use Rattle.objects.specs.laws.LinkingLaw.{AreRead, IsUpward}
use Rattle.objects.specs.rewriting.Rewriting.{context_type, before_end, with_context, duplicate_name, helper_class, getter_method, setter_method}
use Rattle.objects.proofs.Contexts.{with_context_told}
use Rattle.objects.proofs.Items.{IsAt, all_items, of_map}
use Rattle.objects.proofs.LinkedTypes.{part_in, context_reserved}
use Rattle.objects.proofs.Links.{IsLinkedTo}
use Rattle.rewritten_names.specs.Heads.{Head, head_of, heads, is_numbered, copy_of, accessor_heads, own_fields, IsAdded, Rewrites}
use Rattle.rewritten_names.specs.LeadsLaw.{IsPlain}
use Rattle.rewritten_names.proofs.Ways.{IsOther, lineages, ancestries, method_ways}
use Rattle.rewritten_names.proofs.Found.{View, view, view_name, under, views_declared, find_map, by, views, Passes, Suits, Copies, copy_view, old_found, copy_found, field_found}
use Rattle.rewritten_names.proofs.Free.{text_free, is_apart, getter_part, setter_part, getter_kept, setter_kept, getter_name, setter_name}
use Rattle.rewritten_names.proofs.Numbered.{not_copy}
use Rattle.rewritten_names.proofs.Numbers.{names_told}
use Rattle.rewritten_names.proofs.Lists.{clash, both_true}

-- ---- names

-- a search by name and descriptor
abbrev pub headed : List ℕ → List ℕ → Head → Bool
headed name descriptor h = same_text h.name name && same_text h.descriptor descriptor

other_text : (o : Option (List ℕ)) (t u : List ℕ) → o ≡ Some t → (t ≡ u → ⊥) → same_text o u ≡ false
other_text None t u e apart = cc
other_text (Some s) t u e apart = go (bytes_eq s u) refl
  where
    go : (b : Bool) → bytes_eq s u ≡ b → b ≡ false
    go true f = let same : s ≡ t = cc in absurd (apart (sym same ∙ (bytes_eq-Decides s u).0 f))
    go false f = refl

right_false : (a b : Bool) → b ≡ false → (a && b) ≡ false
right_false true b e = e
right_false false b e = refl

left_false : (a b : Bool) → a ≡ false → (a && b) ≡ false
left_false true b e = cc
left_false false b e = refl

text_is : (o : Option (List ℕ)) (t : List ℕ) → same_text o t ≡ true → o ≡ Some t
text_is None t e = cc
text_is (Some u) t e = ap (λ (t : List ℕ). Some t) ((bytes_eq-Decides u t).0 e)

text_same : (o : Option (List ℕ)) (t : List ℕ) → o ≡ Some t → same_text o t ≡ true
text_same o t e = ap (λ o. same_text o t) e ∙ (bytes_eq-Decides t t).1 refl

pub headed_is : (name descriptor : List ℕ) (h : Head) → headed name descriptor h ≡ true → (h.name ≡ Some name) × (h.descriptor ≡ Some descriptor)
headed_is name descriptor h e = let a = both_true (same_text h.name name) (same_text h.descriptor descriptor) e in (text_is h.name name a.0, text_is h.descriptor descriptor a.1)

pub is_headed : (name descriptor : List ℕ) (h : Head) → h.name ≡ Some name → h.descriptor ≡ Some descriptor → headed name descriptor h ≡ true
is_headed name descriptor h a b = let x = text_same h.name name a in let y = text_same h.descriptor descriptor b in rw (x, y) refl

pub named_view : (class name descriptor : List ℕ) (v : View) → v.0 ≡ class → headed name descriptor v.1 ≡ true → view_name v ≡ record { class = class; name = name; descriptor = descriptor }
named_view class name descriptor v same e =
    let h = headed_is name descriptor v.1 e in
    ap (λ (t : List ℕ). record { class = t; name = text_or_none v.1.name; descriptor = text_or_none v.1.descriptor }) same
    ∙ ap (λ (o : Option (List ℕ)). record { class = class; name = text_or_none o; descriptor = text_or_none v.1.descriptor }) h.0
    ∙ ap (λ (o : Option (List ℕ)). record { class = class; name = name; descriptor = text_or_none o }) h.1

-- descriptors of duplicates are kept
pub context_kept : (d : List ℕ) → is_reserved (with_context d) ≡ true
context_kept d = context_reserved (with_context d) (part_in context_class context_type (with_context d)
    (record { before = codes "L"; after = codes ";"; is = refl })
    (record { before = take (before_end false d) d; after = drop (before_end false d) d; is = append_assoc (take (before_end false d) d) context_type (drop (before_end false d) d) }))

-- what a search finds, as a view
pub seen : (name descriptor : List ℕ) (ws : List ClassFile) (P : Program) → option_map view (find (λ (k : Declared). headed name descriptor (view k).1) (methods_in ws)) ≡ find (by (headed name descriptor)) (views P (λ c. Unit {0}) ws)
seen name descriptor ws P = sym (find_map view (by (headed name descriptor)) (methods_in ws))

module _ (cs : List ClassFile) (P : Program) (read : AreRead cs) (l : IsLinkedTo cs P) (src : IsSource P) (up : IsUpward cs) (ds : List ClassFile) (h : ClassFile) (R : AllZip (Rewrites P) cs ds) (helper : own_name h ≡ helper_class) where
  abbrev all : List ClassFile
  all = ds ++ h ∷ []

  abbrev Rule : ClassFile → Type 0
  Rule c = IsAt cs c

  rules : AllByRecursion Rule cs
  rules = all_items Rule cs (λ c at. at)

  abbrev pub pairs : List ClassFile → List ClassFile → Type 0
  pairs xs ys = AllZip (λ c d. Rewrites P c d × Rule c) xs ys

  pub way : (name : List ℕ) → IsOther name → pairs (method_way cs name) (method_way all name)
  way = method_ways P Rule (is_apart cs P read l) cs ds h R rules helper up

  pub above_way : (name : List ℕ) → IsOther name → pairs (lineage cs name) (lineage all name)
  above_way = lineages P Rule (is_apart cs P read l) cs ds h R rules helper up

  pub field_way : (name : List ℕ) → IsOther name → pairs (ancestry cs name) (ancestry all name)
  field_way = ancestries P Rule (is_apart cs P read l) cs ds h R rules helper up

  -- ---- plain names

  module _ (n : MemberName) (plain : IsPlain n) where
    abbrev q : Head → Bool
    q v = headed n.name n.descriptor v

    not_accessors : (fs : List Field) → AllByRecursion (λ v. q v ≡ false) (accessor_heads fs)
    not_accessors [] = tt
    not_accessors (f ∷ fs) = (
      left_false _ _ (other_text (Some (getter_method 0 f).name.name) (getter_method 0 f).name.name n.name refl (λ e. clash (is_reserved n.name) (ap is_reserved (sym e ∙ getter_name 0 f) ∙ getter_kept f.name) plain.name)),
      (
        left_false _ _ (other_text (Some (setter_method f).name.name) (setter_method f).name.name n.name refl (λ e. clash (is_reserved n.name) (ap is_reserved (sym e ∙ setter_name f) ∙ setter_kept f.name) plain.name)),
        not_accessors fs,
      ),
    )

    not_copies : (hs : List Head) → AllByRecursion (λ v. q v ≡ false) (map copy_of hs)
    not_copies [] = tt
    not_copies (v ∷ hs) = (right_false _ _ (by_descriptor v.descriptor), not_copies hs)
      where
        by_descriptor : (o : Option (List ℕ)) → same_text (option_map with_context o) n.descriptor ≡ false
        by_descriptor None = refl
        by_descriptor (Some d) = other_text (Some (with_context d)) (with_context d) n.descriptor refl (λ e. clash (is_reserved n.descriptor) (ap is_reserved (sym e) ∙ context_kept d) plain.descriptor)

    pub passes : (c : ClassFile) → Rule c → Passes P Rule q c
    passes c at = record { accessors = not_accessors (own_fields P c); copies = not_copies (filter (is_numbered P (own_name c)) (heads c.pool c.methods)) }

    -- the same of a search that asks more of a member's flags
    module _ (flags : Bool → Bool → Bool) where
      abbrev pub qz : Head → Bool
      qz v = q v && flags v.private v.static

      and_flags : (vs : List Head) → AllByRecursion (λ v. q v ≡ false) vs → AllByRecursion (λ v. qz v ≡ false) vs
      and_flags [] each = tt
      and_flags (v ∷ vs) each = (left_false (q v) (flags v.private v.static) each.0, and_flags vs each.1)

      passes_more : (c : ClassFile) → Rule c → Passes P Rule qz c
      passes_more c at = record { accessors = and_flags (accessor_heads (own_fields P c)) (passes c at).accessors; copies = and_flags (map copy_of (filter (is_numbered P (own_name c)) (heads c.pool c.methods))) (passes c at).copies }

      pub kept_seen : (ws vs : List ClassFile) → pairs ws vs → find (by qz) (views P Rule vs) ≡ find (by qz) (views P Rule ws)
      kept_seen ws vs z = old_found P Rule qz passes_more ws vs z

    not_added : (v : Head) → IsAdded v → q v ≡ false
    not_added v added = by_name v.name refl added
      where
        by_name : (o : Option (List ℕ)) → v.name ≡ o → IsAdded v → q v ≡ false
        by_name None e added = left_false _ _ (ap (λ o. same_text o n.name) e)
        by_name (Some t) e added = left_false _ _ (other_text v.name t n.name e (λ same. clash (is_reserved n.name) (ap is_reserved (sym same) ∙ kept v.name e added) plain.name))
          where
            kept : (o : Option (List ℕ)) → o ≡ Some t → IsSomeAnd o (λ (n : List ℕ). is_reserved n ≡ true) → is_reserved t ≡ true
            kept None f g = cc
            kept (Some s) f g = let same : s ≡ t = cc in ap is_reserved (sym same) ∙ g

    -- the method that a plain name stood for
    pub method_kept : option_map view (resolved_method all n) ≡ option_map view (resolved_method cs n)
    method_kept =
        sym (find_map view (by q) (methods_in (method_way all n.class))) ∙ old_found P Rule q passes (method_way cs n.class) (method_way all n.class) (way n.class plain.class) ∙ find_map view (by q) (methods_in (method_way cs n.class))

    -- the field
    pub field_kept : option_map view (resolved_field all n) ≡ option_map view (resolved_field cs n)
    field_kept =
        sym (find_map view (by q) (fields_in (ancestry all n.class))) ∙ field_found P Rule q not_added (ancestry cs n.class) (ancestry all n.class) (field_way n.class plain.class)
        ∙ find_map view (by q) (fields_in (ancestry cs n.class))

    -- ---- duplicates

    abbrev r : Head → Bool
    r v = headed (duplicate_name n.name) (with_context n.descriptor) v

    copy_not_accessors : (fs : List Field) → AllByRecursion (λ v. r v ≡ false) (accessor_heads fs)
    copy_not_accessors [] = tt
    copy_not_accessors (f ∷ fs) = (
      left_false _ _ (other_text (Some (getter_method 0 f).name.name) (getter_method 0 f).name.name (duplicate_name n.name) refl
          (λ e. not_copy (codes "__Getter$") n.name (f.name ++ codes "__Getter$") refl (getter_part f.name) (getter_kept f.name) plain.name (sym e ∙ getter_name 0 f))),
      (
        left_false _ _ (other_text (Some (setter_method f).name.name) (setter_method f).name.name (duplicate_name n.name) refl
            (λ e. not_copy (codes "__Setter$") n.name (f.name ++ codes "__Setter$") refl (setter_part f.name) (setter_kept f.name) plain.name (sym e ∙ setter_name f))),
        copy_not_accessors fs,
      ),
    )

    not_clinit : (t : List ℕ) → is_reserved t ≡ false → t ≢ codes "__CLINIT__"
    not_clinit t free e = clash (is_reserved t) (ap is_reserved e) free

    -- a duplicate passes where its original does
    copy_passes : (c : ClassFile) → Rule c → (m : Member) → r (copy_of (head_of c.pool m)) ≡ q (head_of c.pool m)
    copy_passes c at m = texts (utf8 c.pool m.name) (utf8 c.pool m.descriptor) (text_free cs P read l c at m.name)
      where
        same_bytes : (s t u v : List ℕ) → (u ≡ v → s ≡ t) → (s ≡ t → u ≡ v) → bytes_eq u v ≡ bytes_eq s t
        same_bytes s t u v back on = go (bytes_eq u v) refl (bytes_eq s t) refl
          where
            go : (a : Bool) → bytes_eq u v ≡ a → (b : Bool) → bytes_eq s t ≡ b → a ≡ b
            go true e true f = refl
            go false e false f = refl
            go true e false f = absurd (clash (bytes_eq s t) ((bytes_eq-Decides s t).1 (back ((bytes_eq-Decides u v).0 e))) f)
            go false e true f = absurd (clash (bytes_eq u v) ((bytes_eq-Decides u v).1 (on ((bytes_eq-Decides s t).0 f))) e)

        texts : (o u : Option (List ℕ)) → is_reserved (text_or_none o) ≡ false
            → (same_text (option_map duplicate_name o) (duplicate_name n.name) && same_text (option_map with_context u) (with_context n.descriptor)) ≡ (same_text o n.name && same_text u n.descriptor)
        texts None u free = refl
        texts (Some a) None free = right_false _ false refl ∙ sym (right_false _ false refl)
        texts (Some a) (Some b) free =
            let x = same_bytes a n.name (duplicate_name a) (duplicate_name n.name) (names_told a n.name (not_clinit a free) (not_clinit n.name plain.name)) (ap duplicate_name) in
            let y = same_bytes b n.descriptor (with_context b) (with_context n.descriptor) (with_context_told b n.descriptor) (ap with_context) in
            rw (x, y) refl

    module _ (covers : (c : ClassFile) → Rule c → (v : Head) → IsAt (heads c.pool c.methods) v → q v ≡ true → is_numbered P (own_name c) v ≡ true) where
      suits : (c : ClassFile) → Rule c → Copies P Rule q r c
      suits c at = record { heads_suit = all_items (Suits P Rule q r (own_name c)) (heads c.pool c.methods) one; accessors = copy_not_accessors (own_fields P c) }
        where
          one : (v : Head) → IsAt (heads c.pool c.methods) v → Suits P Rule q r (own_name c) v
          one v inside =
              let m = of_map (head_of c.pool) c.methods v inside in
              record {
                old = right_false _ _ (by_descriptor v.descriptor (ap (λ o. is_reserved (text_or_none o)) (ap (λ (v : Head). v.descriptor) (sym m.2)) ∙ text_free cs P read l c at m.0.descriptor));
                copy = subst (λ (v : Head). r (copy_of v) ≡ q v) m.2 (copy_passes c at m.0);
                numbered = covers c at v inside;
              }
            where
              by_descriptor : (o : Option (List ℕ)) → is_reserved (text_or_none o) ≡ false → same_text o (with_context n.descriptor) ≡ false
              by_descriptor None free = refl
              by_descriptor (Some d) free = other_text (Some d) d (with_context n.descriptor) refl (λ e. clash (is_reserved d) (ap is_reserved e ∙ context_kept n.descriptor) free)

      -- the name of a duplicate leads to the duplicate of what the name leads to
      pub copy_seen : (ws vs : List ClassFile) → pairs ws vs → find (by r) (views P Rule vs) ≡ option_map (copy_view P Rule) (find (by q) (views P Rule ws))
      copy_seen ws vs z = copy_found P Rule q r suits ws vs z

      -- the same of searches that ask more of flags, which duplicates keep
      module _ (flags : Bool → Bool → Bool) where
        abbrev pub rz : Head → Bool
        rz v = r v && flags v.private v.static

        suits_more : (c : ClassFile) → Rule c → Copies P Rule (qz flags) rz c
        suits_more c at = record { heads_suit = each (heads c.pool c.methods) (suits c at).heads_suit; accessors = none (accessor_heads (own_fields P c)) (suits c at).accessors }
          where
            none : (vs : List Head) → AllByRecursion (λ v. r v ≡ false) vs → AllByRecursion (λ v. rz v ≡ false) vs
            none [] given = tt
            none (v ∷ vs) given = (left_false (r v) (flags v.private v.static) given.0, none vs given.1)

            each : (vs : List Head) → AllByRecursion (Suits P Rule q r (own_name c)) vs → AllByRecursion (Suits P Rule (qz flags) rz (own_name c)) vs
            each [] given = tt
            each (v ∷ vs) given = (
              record {
                old = left_false (r v) (flags v.private v.static) given.0.old;
                copy = ap (λ (b : Bool). b && flags v.private v.static) given.0.copy;
                numbered = λ e. given.0.numbered (both_true (q v) (flags v.private v.static) e).0;
              },
              each vs given.1,
            )

        pub copy_seen_more : (ws vs : List ClassFile) → pairs ws vs → find (by rz) (views P Rule vs) ≡ option_map (copy_view P Rule) (find (by (qz flags)) (views P Rule ws))
        copy_seen_more ws vs z = copy_found P Rule (qz flags) rz suits_more ws vs z

  -- ---- what a class declares itself

  pub own_found : (p : Head → Bool) (d : ClassFile) (rest : List ClassFile) (v : Head) → IsAt (heads d.pool d.methods) v → p v ≡ true → (w : View) × (find (by p) (views P Rule (d ∷ rest)) ≡ Some w) × (w.0 ≡ own_name d) × (p w.1 ≡ true)
  own_found p d rest v at is =
      let x = first (heads d.pool d.methods) at.0 at.1 in
      (x.0, ap (find (by p)) (laid ∙ ap (λ (l : List View). l ++ views P Rule rest) (views_declared d d.methods)) ∙ find-append (by p) (under (own_name d) (heads d.pool d.methods)) (views P Rule rest) ∙ ap (λ (o : Option View). option_or o (find (by p) (views P Rule rest))) x.1, x.2, x.3)
    where
      laid : views P Rule (d ∷ rest) ≡ map view (declared_in d d.methods) ++ views P Rule rest
      laid = map_both (declared_in d d.methods) (methods_in rest)
        where
          map_both : (xs ys : List Declared) → map view (xs ++ ys) ≡ map view xs ++ map view ys
          map_both [] ys = refl
          map_both (x ∷ xs) ys = ap (λ (l : List View). view x ∷ l) (map_both xs ys)

      first : (hs : List Head) (i : ℕ) → slice_get hs i ≡ Some v → (w : View) × (find (by p) (under (own_name d) hs) ≡ Some w) × (w.0 ≡ own_name d) × (p w.1 ≡ true)
      first [] i e = cc
      first (x ∷ hs) zero e = let s : x ≡ v = cc in let t : p x ≡ true = ap p s ∙ is in ((own_name d, x), (rw t refl), refl, t)
      first (x ∷ hs) (suc i) e = go (p x) refl (first hs i e)
        where
          go : (b : Bool) → p x ≡ b → (w : View) × (find (by p) (under (own_name d) hs) ≡ Some w) × (w.0 ≡ own_name d) × (p w.1 ≡ true)
              → (w : View) × (cond b (Some (own_name d, x)) (find (by p) (under (own_name d) hs)) ≡ Some w) × (w.0 ≡ own_name d) × (p w.1 ≡ true)
          go true t w = ((own_name d, x), refl, refl, t)
          go false t w = w
