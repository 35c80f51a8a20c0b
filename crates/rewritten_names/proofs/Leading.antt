-- Plain names, names of duplicates, of accessors and of the helper's methods lead where they should.
use Rattle.std.proofs.Common.{◌≡◌, ℕ, zero, suc, ◌+◌, List, [], ◌∷◌, ◌++◌, length, map, Option, Some, None, Bool, true, not, ◌||◌, refl, sym, ap, ◌∙◌, subst}
use Rattle.std.specs.Prelude.{bytes_eq, slice_get, find, filter, position, option_map, option_and_then, if◌then◌else◌, bit_and, ◌==◌}
use Rattle.std.specs.List.{AllByRecursion, AllZip, flat_map}
use Rattle.std.proofs.lemmas.Slice.Eq.{bytes_eq-Decides}
use Rattle.jmodel.specs.declared.name.MethodName.{MethodName}
use Rattle.jmodel.specs.format.ClassFile.{Member, ClassFile}
use Rattle.jmodel.specs.format.Pool.{MemberName}
use Rattle.objects.specs.linking.Members.{own_name}
use Rattle.objects.specs.linking.Superclasses.{class_named, super_name, with_above, upward, lineage}
use Rattle.objects.specs.linking.Classes.{Declared, declared_in, methods_in, full_name}
use Rattle.objects.specs.semantics.Program.{Field, Program, field_at}
use Rattle.objects.specs.typing.Source.{IsSource}
use Rattle.objects.specs.typing.TypeOrder.{context_class, object_class}
use Rattle.objects.specs.linking.Resolution.{interface_names, ancestry, method_way, resolved_field, resolved_method}
use Rattle.objects.specs.linking.LibraryMethods.{is_library}
use Rattle.objects.specs.linking.Layout.{class_read}
use Rattle.objects.specs.linking.Decoding.{Symbols, is_field_of, is_method, field_number, method_number}
use Rattle.objects.specs.linking.Linking.{taken_methods, original_symbols}
use Rattle.objects.specs.laws.LinkingLaw.{AreRead, IsUpward}
use Rattle.objects.specs.rewriting.Relinking.{all_members, rewritten_symbols}
use Rattle.objects.specs.rewriting.Rewriting.{helper_class, with_context, duplicate_name, getter_method, setter_method, getter, setter, duplicate}
use Rattle.objects.proofs.Items.{IsAt, in_front_part, in_back_part, into_map, into_filter, into_flat, of_map, found, placed}
use Rattle.objects.proofs.DeclaredMembers.{by_own_name}
use Rattle.objects.proofs.LinkedFields.{field_from}
use Rattle.objects.proofs.Links.{IsLinkedTo}
use Rattle.rewritten_names.specs.Heads.{Head, head_of, heads, is_numbered, copy_of, added_head, accessor_heads, own_fields, copy_name, Rewrites}
use Rattle.rewritten_names.specs.NamesLaw.{method_names, names_behind, IsNamed, AreNumbered}
use Rattle.rewritten_names.specs.LeadsLaw.{IsOther, IsPlain, copy_member, as_member, AreTexts, IsCovered, IsOwn, Leads}
use Rattle.rewritten_names.proofs.Ways.{flags_kept, helper_named, many}
use Rattle.rewritten_names.proofs.Found.{View, view, view_name, find_map, by, copy_view}
use Rattle.rewritten_names.proofs.Free.{is_apart}
use Rattle.rewritten_names.proofs.Named.{names_are, getter_class, setter_class}
use Rattle.rewritten_names.proofs.Numbered.{are_numbered}
use Rattle.rewritten_names.proofs.Ordinary.{program_names, method_same}
use Rattle.rewritten_names.proofs.Resolved.{headed, headed_is, is_headed, named_view, pairs, way, method_kept, field_kept, copy_seen, own_found}
use Rattle.rewritten_names.proofs.Lists.{some_of}

-- ---- options

through : {A B C : Type 0} (f : A → B) (g : B → Option C) (o : Option A) → option_and_then (λ x. g (f x)) o ≡ option_and_then g (option_map f o)
through f g None = refl
through f g (Some x) = refl

module _ (cs : List ClassFile) (P : Program) (read : AreRead cs) (l : IsLinkedTo cs P) (src : IsSource P) (up : IsUpward cs) (ds : List ClassFile) (h : ClassFile) (R : AllZip (Rewrites P) cs ds) (helper : own_name h ≡ helper_class)
    (texts : AreTexts h) (c d : ClassFile) where
  abbrev all : List ClassFile
  all = ds ++ h ∷ []

  abbrev more : List MethodName
  more = map full_name (declared_in h h.methods)

  abbrev s0 : Symbols
  s0 = original_symbols cs c

  abbrev s : Symbols
  s = rewritten_symbols P cs all d

  pub numbers : AreNumbered P more
  numbers = are_numbered cs P read l src more

  -- the number of what a search sees
  abbrev placed_in : List MethodName → View → Option ℕ
  placed_in names v = position (is_method (view_name v)) names

  pub method_through : (names : List MethodName) (o : Option Declared) → option_and_then (λ k. position (is_method (full_name k)) names) o ≡ option_and_then (placed_in names) (option_map view o)
  method_through names o = through view (placed_in names) o

  pub new_names : map full_name (all_members P all) ≡ names_behind P more
  new_names = names_are cs P read l src ds h R helper

  -- ---- what the original's names lead to

  pub record IsSeen (n : MemberName) (m : ℕ) : Type 0 where
    pub what : View
    pub found_so : option_map view (resolved_method cs n) ≡ Some what
    pub numbered_so : position (is_method (view_name what)) (method_names P) ≡ Some m

  seen_as : (n : MemberName) (m : ℕ) → method_number s0 n ≡ Some m → IsSeen n m
  seen_as n m e =
      let f = some_of (placed_in (map full_name (taken_methods cs))) (option_map view (resolved_method cs n)) m (sym (method_through (map full_name (taken_methods cs)) (resolved_method cs n)) ∙ e) in
      record { what = f.0; found_so = f.1; numbered_so = ap (position (is_method (view_name f.0))) (program_names cs P read l) ∙ f.2 }

  pub named_at : (names : List MethodName) (n : MethodName) (i : ℕ) → position (is_method n) names ≡ Some i → IsNamed names n
  named_at names n i e = let p = placed (is_method n) names i e in (i, p.1 ∙ ap (λ (k : MethodName). Some k) (method_same n p.0 p.2))

  new_number : (n : MemberName) (v : View) (i : ℕ) → option_map view (resolved_method all n) ≡ Some v → position (is_method (view_name v)) (names_behind P more) ≡ Some i → method_number s n ≡ Some i
  new_number n v i e p =
      method_through (map full_name (all_members P all)) (resolved_method all n) ∙ ap (option_and_then (placed_in (map full_name (all_members P all)))) e ∙ ap (position (is_method (view_name v))) new_names ∙ p

  -- ---- plain names

  plain_fields : (n : MemberName) → IsPlain n → field_number s n ≡ field_number s0 n
  plain_fields n plain =
      through view (λ (v : View). position (is_field_of (view_name v)) s.fields) (resolved_field all n)
      ∙ ap (option_and_then (λ (v : View). position (is_field_of (view_name v)) s.fields)) (field_kept cs P read l src up ds h R helper n plain)
      ∙ sym (through view (λ (v : View). position (is_field_of (view_name v)) s.fields) (resolved_field cs n))

  plain_methods : (n : MemberName) → IsPlain n → (m : ℕ) → method_number s0 n ≡ Some m → method_number s n ≡ Some m
  plain_methods n plain m e =
      let f = seen_as n m e in
      new_number n f.what m (method_kept cs P read l src up ds h R helper n plain ∙ f.found_so) (numbers.old (view_name f.what) m f.numbered_so)

  -- ---- duplicates

  abbrev Rule : ClassFile → Type 0
  Rule x = IsAt cs x

  pub pass : (n : MemberName) (v : View) → option_map view (resolved_method cs n) ≡ Some v → headed n.name n.descriptor v.1 ≡ true
  pass n v e =
      let f : find (by (headed n.name n.descriptor)) (map view (methods_in (method_way cs n.class))) ≡ Some v = find_map view (by (headed n.name n.descriptor)) (methods_in (method_way cs n.class)) ∙ e in
      (found (by (headed n.name n.descriptor)) (map view (methods_in (method_way cs n.class))) v f).1

  pub copied_name : (n : MemberName) (v : View) → headed n.name n.descriptor v.1 ≡ true → view_name (copy_view P Rule v) ≡ copy_name (view_name v)
  copied_name n v is =
      let e = headed_is n.name n.descriptor v.1 is in
      by_texts v.1.name v.1.descriptor e.0 e.1
    where
      by_texts : (o u : Option (List ℕ)) → o ≡ Some n.name → u ≡ Some n.descriptor → view_name (v.0, record { private = v.1.private; static = v.1.static; name = option_map duplicate_name o; descriptor = option_map with_context u })
          ≡ copy_name (view_name (v.0, record { private = v.1.private; static = v.1.static; name = o; descriptor = u }))
      by_texts None u e f = cc
      by_texts (Some a) None e f = cc
      by_texts (Some a) (Some b) e f = refl

  -- a name that is covered is so in the heads of each class
  pub covers : (n : MemberName) → IsCovered cs P n → (x : ClassFile) → IsAt cs x → (v : Head) → IsAt (heads x.pool x.methods) v → headed n.name n.descriptor v ≡ true → is_numbered P (own_name x) v ≡ true
  covers n covered x at v inside is = let m = of_heads x.methods inside.0 inside.1 in subst (λ (v : Head). is_numbered P (own_name x) v ≡ true) m.2 (covered at.0 x m.1.0 m.0 at.1 m.1.1 (ap (headed n.name n.descriptor) m.2 ∙ is))
    where
      of_heads : (ms : List Member) (i : ℕ) → slice_get (heads x.pool ms) i ≡ Some v → (m : Member) × IsAt ms m × (head_of x.pool m ≡ v)
      of_heads [] i e = cc
      of_heads (m ∷ ms) zero e = (m, (0, refl), cc)
      of_heads (m ∷ ms) (suc i) e = let r = of_heads ms i e in (r.0, (suc r.1.0, r.1.1), r.2)

  copies : (n : MemberName) → IsPlain n → IsCovered cs P n → (m : ℕ) → method_number s0 n ≡ Some m → method_number s (copy_member n) ≡ Some (duplicate P m)
  copies n plain covered m e =
      let f = seen_as n m e in
      let led : option_map view (resolved_method all (copy_member n)) ≡ Some (copy_view P Rule f.what) =
      sym (find_map view (by (headed (duplicate_name n.name) (with_context n.descriptor))) (methods_in (method_way all n.class)))
      ∙ copy_seen cs P read l src up ds h R helper n plain (covers n covered) (method_way cs n.class) (method_way all n.class) (way cs P read l src up ds h R helper n.class plain.class)
      ∙ ap (option_map (copy_view P Rule)) (find_map view (by (headed n.name n.descriptor)) (methods_in (method_way cs n.class)) ∙ f.found_so) in
      new_number (copy_member n) (copy_view P Rule f.what) (duplicate P m) led
      (ap (λ (k : MethodName). position (is_method k) (names_behind P more)) (copied_name n f.what (pass n f.what f.found_so)) ∙ numbers.copies (view_name f.what) (named_at (method_names P) (view_name f.what) m f.numbered_so) m f.numbered_so)

  -- ---- what a class has itself

  -- the rewriting of a class of a name stands first on the name's way
  pub record StandsFirst (x : ClassFile) (name : List ℕ) : Type 0 where
    pub class : ClassFile
    pub rest : List ClassFile
    pub is : method_way all name ≡ class ∷ rest
    pub rewrites : Rewrites P x class

  stands_first : (x : ClassFile) → IsAt cs x → (name : List ℕ) → own_name x ≡ name → StandsFirst x name
  stands_first x at name named =
      let other = subst IsOther named (is_apart cs P read l x at).own in
      let there : class_named cs name ≡ Some x = ap (class_named cs) (sym named) ∙ by_own_name cs read x at in
      let line : lineage cs name ≡ x ∷ lineage cs (super_name x) = up.supers name ∙ ap (with_above (λ c. lineage cs (super_name c))) there in
      let old : method_way cs name ≡ x ∷ (lineage cs (super_name x) ++ flat_map (λ c. flat_map (ancestry cs) (interface_names c)) (lineage cs name)) =
      ap (λ (ws : List ClassFile). ws ++ flat_map (λ c. flat_map (ancestry cs) (interface_names c)) (lineage cs name)) line in
      by_ways (method_way all name) refl (lineage cs (super_name x) ++ flat_map (λ c. flat_map (ancestry cs) (interface_names c)) (lineage cs name)) (subst (λ (ws : List ClassFile). pairs cs P read l src up ds h R helper ws (method_way all name)) old (way cs P read l src up ds h R helper name other))
    where
      by_ways : (ws : List ClassFile) → method_way all name ≡ ws → (rest : List ClassFile) → pairs cs P read l src up ds h R helper (x ∷ rest) ws → StandsFirst x name
      by_ways [] e rest z = absurd z
      by_ways (y ∷ ys) e rest z = record { class = y; rest = ys; is = e; rewrites = z.0.0 }

  own_number : (name descriptor class : List ℕ) (y : ClassFile) (rest : List ClassFile) → method_way all class ≡ y ∷ rest → own_name y ≡ class → (v : Head) → IsAt (heads y.pool y.methods) v → headed name descriptor v ≡ true
      → (i : ℕ) → position (is_method (record { class = class; name = name; descriptor = descriptor })) (names_behind P more) ≡ Some i → method_number s (record { class = class; name = name; descriptor = descriptor }) ≡ Some i
  own_number name descriptor class y rest first named v at is i e =
      let w = own_found cs P read l src up ds h R helper (headed name descriptor) y rest v at is in
      let led : option_map view (resolved_method all (record { class = class; name = name; descriptor = descriptor })) ≡ Some w.0 =
      sym (find_map view (by (headed name descriptor)) (methods_in (method_way all class))) ∙ ap (λ (ws : List ClassFile). find (by (headed name descriptor)) (map view (methods_in ws))) first ∙ w.1 in
      new_number (record { class = class; name = name; descriptor = descriptor }) w.0 i led
      (ap (λ (k : MethodName). position (is_method k) (names_behind P more)) (named_view class name descriptor w.0 (w.2 ∙ named) w.3) ∙ e)

  pub own_copies : (n : MemberName) → IsPlain n → IsOwn cs P n → (m : ℕ) → method_number s0 n ≡ Some m → method_number s (copy_member n) ≡ Some (duplicate P m)
  own_copies n plain o m e =
      let f = seen_as n m e in
      let first = stands_first o.class (o.place, o.there) n.class o.named in
      let has = headed_is n.name n.descriptor (head_of o.class.pool o.member) o.has in
      let inside : IsAt (heads o.class.pool o.class.methods) (head_of o.class.pool o.member) = into_map (head_of o.class.pool) o.class.methods o.member (o.index, o.inside) in
      let copied : IsAt (map copy_of (filter (is_numbered P (own_name o.class)) (heads o.class.pool o.class.methods))) (copy_of (head_of o.class.pool o.member)) =
      into_map copy_of (filter (is_numbered P (own_name o.class)) (heads o.class.pool o.class.methods)) (head_of o.class.pool o.member) (into_filter (is_numbered P (own_name o.class)) (heads o.class.pool o.class.methods) (head_of o.class.pool o.member) inside o.numbered) in
      let there : IsAt (heads first.class.pool first.class.methods) (copy_of (head_of o.class.pool o.member)) =
      subst (λ (hs : List Head). IsAt hs (copy_of (head_of o.class.pool o.member))) (sym first.rewrites.methods)
      (in_back_part (heads o.class.pool o.class.methods) _ (copy_of (head_of o.class.pool o.member)) (in_back_part (accessor_heads (own_fields P o.class)) _ (copy_of (head_of o.class.pool o.member)) copied)) in
      -- the original's name leads to the class's own method too
      let own : view_name f.what ≡ record { class = n.class; name = n.name; descriptor = n.descriptor } = own_what n o f.what (pass n f.what f.found_so) f.found_so in
      let number : position (is_method (record { class = n.class; name = n.name; descriptor = n.descriptor })) (method_names P) ≡ Some m = ap (λ (k : MethodName). position (is_method k) (method_names P)) (sym own) ∙ f.numbered_so in
      own_number (duplicate_name n.name) (with_context n.descriptor) n.class first.class first.rest first.is (first.rewrites.own ∙ o.named) (copy_of (head_of o.class.pool o.member)) there
      (is_headed (duplicate_name n.name) (with_context n.descriptor) (copy_of (head_of o.class.pool o.member)) (ap (option_map duplicate_name) has.0) (ap (option_map with_context) has.1)) (duplicate P m)
      (numbers.copies (record { class = n.class; name = n.name; descriptor = n.descriptor }) (named_at (method_names P) (record { class = n.class; name = n.name; descriptor = n.descriptor }) m number) m number)
    where
      own_what : (n : MemberName) (o : IsOwn cs P n) (w : View) → headed n.name n.descriptor w.1 ≡ true → option_map view (resolved_method cs n) ≡ Some w → view_name w ≡ record { class = n.class; name = n.name; descriptor = n.descriptor }
      own_what n o w is e =
          let there : class_named cs n.class ≡ Some o.class = ap (class_named cs) (sym o.named) ∙ by_own_name cs read o.class (o.place, o.there) in
          let line : lineage cs n.class ≡ o.class ∷ lineage cs (super_name o.class) = up.supers n.class ∙ ap (with_above (λ c. lineage cs (super_name c))) there in
          let rest = lineage cs (super_name o.class) ++ flat_map (λ c. flat_map (ancestry cs) (interface_names c)) (lineage cs n.class) in
          let old : method_way cs n.class ≡ o.class ∷ rest = ap (λ (ws : List ClassFile). ws ++ flat_map (λ c. flat_map (ancestry cs) (interface_names c)) (lineage cs n.class)) line in
          let x = own_found cs P read l src up ds h R helper (headed n.name n.descriptor) o.class rest (head_of o.class.pool o.member) (into_map (head_of o.class.pool) o.class.methods o.member (o.index, o.inside)) o.has in
          let same : Some w ≡ Some x.0 = sym e ∙ sym (find_map view (by (headed n.name n.descriptor)) (methods_in (method_way cs n.class))) ∙ ap (λ (ws : List ClassFile). find (by (headed n.name n.descriptor)) (map view (methods_in ws))) old ∙ x.1 in
          let whole : w ≡ x.0 = cc in
          named_view n.class n.name n.descriptor w (ap (λ (v : View). v.0) whole ∙ x.2 ∙ o.named) is

  -- ---- accessors

  field_class : (i : ℕ) (f : Field) → field_at P i ≡ Some f → (x : ClassFile) × IsAt cs x × (own_name x ≡ f.class)
  field_class i f e =
      let r = field_from cs 0 cs f (i, ap (λ (P : Program). slice_get P.fields i) (sym l.is) ∙ e) in
      (r.class, (r.number, r.there), sym (ap (λ (f : Field). f.class) r.member.is))

  accessor_there : (x : ClassFile) (i : ℕ) (f : Field) → field_at P i ≡ Some f → own_name x ≡ f.class → (v : Head) → IsAt (added_head (getter_method 0 f).name ∷ added_head (setter_method f).name ∷ []) v → (y : ClassFile) → Rewrites P x y → IsAt (heads y.pool y.methods) v
  accessor_there x i f e named v at y r =
      let own : IsAt (own_fields P x) f = into_filter (λ (f : Field). bytes_eq f.class (own_name x)) P.fields f (i, e) ((bytes_eq-Decides f.class (own_name x)).1 (sym named)) in
      subst (λ (hs : List Head). IsAt hs v) (sym r.methods)
      (in_back_part (heads x.pool x.methods) _ v (in_front_part (accessor_heads (own_fields P x)) _ v
      (into_flat (λ (f : Field). added_head (getter_method 0 f).name ∷ added_head (setter_method f).name ∷ []) (own_fields P x) f v own at)))

  getters : (i : ℕ) (f : Field) → field_at P i ≡ Some f → method_number s (as_member (getter_method 0 f).name) ≡ Some (getter P i)
  getters i f e =
      let x = field_class i f e in
      let first = stands_first x.0 x.1 (getter_method 0 f).name.class (x.2 ∙ sym (getter_class f)) in
      own_number (getter_method 0 f).name.name (getter_method 0 f).name.descriptor (getter_method 0 f).name.class first.class first.rest first.is (first.rewrites.own ∙ x.2 ∙ sym (getter_class f)) (added_head (getter_method 0 f).name)
      (accessor_there x.0 i f e x.2 (added_head (getter_method 0 f).name) (0, refl) first.class first.rewrites)
      (is_headed (getter_method 0 f).name.name (getter_method 0 f).name.descriptor (added_head (getter_method 0 f).name) refl refl) (getter P i) (numbers.getters i f e)

  setters : (i : ℕ) (f : Field) → field_at P i ≡ Some f → method_number s (as_member (setter_method f).name) ≡ Some (setter P i)
  setters i f e =
      let x = field_class i f e in
      let first = stands_first x.0 x.1 (setter_method f).name.class (x.2 ∙ sym (setter_class f)) in
      own_number (setter_method f).name.name (setter_method f).name.descriptor (setter_method f).name.class first.class first.rest first.is (first.rewrites.own ∙ x.2 ∙ sym (setter_class f)) (added_head (setter_method f).name)
      (accessor_there x.0 i f e x.2 (added_head (setter_method f).name) (1, refl) first.class first.rewrites)
      (is_headed (setter_method f).name.name (setter_method f).name.descriptor (added_head (setter_method f).name) refl refl) (setter P i) (numbers.setters i f e)

  -- ---- classes

  reads : (name : List ℕ) → IsOther name → class_read all name ≡ class_read cs name
  reads name other =
      ap (λ (b : Bool). if is_library name || (bytes_eq name context_class || b) then name else object_class)
      (flags_kept P Rule (is_apart cs P read l) cs ds h R (rules cs (λ x at. at)) helper (λ flags. not (not (bit_and flags 0x200 == 0))) name other)
    where
      rules : (xs : List ClassFile) → ((x : ClassFile) → IsAt xs x → Rule x) → AllByRecursion Rule xs
      rules [] each = tt
      rules (x ∷ xs) each = (each x (0, refl), rules xs (λ y at. each y (suc at.0, at.1)))

  -- ---- the helper's methods

  helper_way : (rest : List ClassFile) × (method_way all helper_class ≡ h ∷ rest)
  helper_way =
      let there : class_named all helper_class ≡ Some h = helper_named P Rule (is_apart cs P read l) cs ds h R (each_at cs (λ x at. at)) helper in
      let long : length all ≡ suc (length cs) = many P Rule (is_apart cs P read l) cs ds h R (each_at cs (λ x at. at)) helper in
      let line : lineage all helper_class ≡ h ∷ upward all (length cs) (super_name h) = ap (λ (n : ℕ). upward all n helper_class) long ∙ ap (with_above (λ c. upward all (length cs) (super_name c))) there in (
        upward all (length cs) (super_name h) ++ flat_map (λ c. flat_map (ancestry all) (interface_names c)) (lineage all helper_class),
        ap (λ (ws : List ClassFile). ws ++ flat_map (λ c. flat_map (ancestry all) (interface_names c)) (lineage all helper_class)) line,
      )
    where
      each_at : (xs : List ClassFile) → ((x : ClassFile) → IsAt xs x → Rule x) → AllByRecursion Rule xs
      each_at [] each = tt
      each_at (x ∷ xs) each = (each x (0, refl), each_at xs (λ y at. each y (suc at.0, at.1)))

  helpers : (n : MemberName) (i : ℕ) → n.class ≡ helper_class → position (is_method (record { class = n.class; name = n.name; descriptor = n.descriptor })) more ≡ Some i → method_number s n ≡ Some (duplicate P (length P.methods) + i)
  helpers n i class e =
      let p = placed (is_method (record { class = n.class; name = n.name; descriptor = n.descriptor })) more i e in
      let k = of_map full_name (declared_in h h.methods) p.0 (i, p.1) in
      let m = of_map (λ (m : Member). record { class = h; member = m }) h.methods k.0 k.1 in
      let same : full_name (record { class = h; member = m.0 }) ≡ record { class = n.class; name = n.name; descriptor = n.descriptor } = ap full_name m.2 ∙ k.2 ∙ method_same (record { class = n.class; name = n.name; descriptor = n.descriptor }) p.0 p.2 in
      let first : method_way all n.class ≡ h ∷ helper_way.0 = ap (method_way all) class ∙ helper_way.1 in
      let has : headed n.name n.descriptor (head_of h.pool m.0) ≡ true = named_so n m.0 m.1 same in
      own_number n.name n.descriptor n.class h helper_way.0 first (helper ∙ sym class) (head_of h.pool m.0) (into_map (head_of h.pool) h.methods m.0 m.1) has (duplicate P (length P.methods) + i) (numbers.helpers (record { class = n.class; name = n.name; descriptor = n.descriptor }) i class e)
    where
      named_so : (n : MemberName) (m : Member) → IsAt h.methods m → full_name (record { class = h; member = m }) ≡ record { class = n.class; name = n.name; descriptor = n.descriptor } → headed n.name n.descriptor (head_of h.pool m) ≡ true
      named_so n m at e = is_headed n.name n.descriptor (head_of h.pool m) (texts.name m at ∙ ap (λ (k : MethodName). Some k.name) e) (texts.descriptor m at ∙ ap (λ (k : MethodName). Some k.descriptor) e)

  pub leads : Leads cs P h s0 s
  leads = record { fields = plain_fields; methods = plain_methods; copies = copies; own_copies = own_copies; getters = getters; setters = setters; helpers = helpers; reads = reads }
