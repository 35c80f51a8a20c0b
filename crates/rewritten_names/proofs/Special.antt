-- The names in invokespecial lead where they should.
use Rattle.std.proofs.Common.{◌≡◌, ℕ, List, [], ◌∷◌, ◌++◌, map, Option, Some, None, Bool, true, false, not, ◌||◌, ◌&&◌, refl, sym, ap, ◌∙◌, subst}
use Rattle.std.specs.Prelude.{bytes_eq, codes, find, position, option_map, option_and_then, unwrap_or, if◌then◌else◌}
use Rattle.std.specs.List.{AllZip, list_any}
use Rattle.std.proofs.lemmas.Slice.Eq.{bytes_eq-Decides}
use Rattle.jmodel.specs.declared.name.MethodName.{MethodName}
use Rattle.jmodel.specs.format.ClassFile.{ClassFile}
use Rattle.jmodel.specs.format.Pool.{MemberName}
use Rattle.objects.specs.linking.Members.{own_name}
use Rattle.objects.specs.linking.Superclasses.{super_name, lineage}
use Rattle.objects.specs.linking.Classes.{Declared, declared_in, methods_in, full_name}
use Rattle.objects.specs.semantics.Program.{Program}
use Rattle.objects.specs.typing.Source.{IsSource}
use Rattle.objects.specs.linking.Resolution.{is_private, method_way, resolved_method, selected_from, is_properly_above, from_above, special_method}
use Rattle.objects.specs.linking.Decoding.{Symbols, number_of, is_method}
use Rattle.objects.specs.linking.Linking.{taken_methods, original_symbols}
use Rattle.objects.specs.laws.LinkingLaw.{AreRead, IsUpward}
use Rattle.objects.specs.rewriting.Relinking.{all_members, rewritten_symbols}
use Rattle.objects.specs.rewriting.Rewriting.{helper_class, with_context, duplicate_name, duplicate}
use Rattle.objects.proofs.Items.{IsAt, found}
use Rattle.objects.proofs.Links.{IsLinkedTo}
use Rattle.rewritten_names.specs.Heads.{Head, Rewrites}
use Rattle.rewritten_names.specs.NamesLaw.{method_names, names_behind}
use Rattle.rewritten_names.specs.LeadsLaw.{IsPlain, copy_member, IsCovered, IsOwn, AreTexts, special_number, LeadsSpecial}
use Rattle.rewritten_names.proofs.Found.{View, view, view_name, find_map, by, views, copy_view}
use Rattle.rewritten_names.proofs.Free.{is_apart}
use Rattle.rewritten_names.proofs.Ordinary.{program_names}
use Rattle.rewritten_names.proofs.Resolved.{headed, pairs, way, above_way, method_kept, kept_seen, copy_seen, copy_seen_more}
use Rattle.rewritten_names.proofs.Leading.{numbers, new_names, named_at, copied_name, method_through, pass, covers, own_copies}
use Rattle.rewritten_names.proofs.Lists.{both_true, some_of}

-- ---- what invokespecial runs, as a search sees it

-- neither private nor static
abbrev free : Bool → Bool → Bool
free private static = not (private || static)

abbrev constructor : List ℕ
constructor = codes "<init>"

abbrev chosen : Option View → View → View
chosen selected v = if v.1.private then v else unwrap_or selected v

abbrev special_view : Bool → (List ℕ → Bool) → Option View → Option View → Option View
special_view init above selected o = option_map (λ (v : View). if not init && above v.0 then chosen selected v else v) o

special_seen : (cs : List ClassFile) (c : ClassFile) (n : MemberName) → option_map view (special_method cs c n)
    ≡ special_view (bytes_eq n.name constructor) (is_properly_above cs c) (option_map view (selected_from cs (super_name c) n)) (option_map view (resolved_method cs n))
special_seen cs c n = go (resolved_method cs n)
  where
    from : (k : Declared) (p : Bool) (o : Option Declared) → view (if p then k else unwrap_or o k) ≡ (if p then view k else unwrap_or (option_map view o) (view k))
    from k true o = refl
    from k false None = refl
    from k false (Some d) = refl

    one : (k : Declared) (b : Bool) → view (if b then from_above cs c n k else k) ≡ (if b then chosen (option_map view (selected_from cs (super_name c) n)) (view k) else view k)
    one k true = from k (is_private k.member) (selected_from cs (super_name c) n)
    one k false = refl

    go : (o : Option Declared) → option_map view (option_map (λ k. if not (bytes_eq n.name constructor) && is_properly_above cs c (own_name k.class) then from_above cs c n k else k) o)
        ≡ special_view (bytes_eq n.name constructor) (is_properly_above cs c) (option_map view (selected_from cs (super_name c) n)) (option_map view o)
    go None = refl
    go (Some k) = ap (λ (v : View). Some v) (one k (not (bytes_eq n.name constructor) && is_properly_above cs c (own_name k.class)))

-- its name is that of what is named
special_pass : (p : View → Bool) (init : Bool) (above : List ℕ → Bool) (selected o : Option View) (v : View) → ((w : View) → selected ≡ Some w → p w ≡ true) → ((w : View) → o ≡ Some w → p w ≡ true) → special_view init above selected o ≡ Some v → p v ≡ true
special_pass p init above selected None v a b e = cc
special_pass p init above selected (Some w) v a b e = go (not init && above w.0) w.1.private selected refl e
  where
    here : w ≡ v → p v ≡ true
    here s = ap p (sym s) ∙ b w refl

    go : (x y : Bool) (s : Option View) → selected ≡ s → Some (if x then (if y then w else unwrap_or s w) else w) ≡ Some v → p v ≡ true
    go false y s f e = here cc
    go true true s f e = here cc
    go true false None f e = here cc
    go true false (Some u) f e = let same : u ≡ v = cc in ap p (sym same) ∙ a u f

module _ (cs : List ClassFile) (P : Program) (read : AreRead cs) (l : IsLinkedTo cs P) (src : IsSource P) (up : IsUpward cs) (ds : List ClassFile) (h : ClassFile) (R : AllZip (Rewrites P) cs ds) (helper : own_name h ≡ helper_class)
    (texts : AreTexts h) (c d : ClassFile) (at : IsAt cs c) (r : Rewrites P c d) where
  abbrev all : List ClassFile
  all = ds ++ h ∷ []

  abbrev more : List MethodName
  more = map full_name (declared_in h h.methods)

  abbrev s0 : Symbols
  s0 = original_symbols cs c

  abbrev s : Symbols
  s = rewritten_symbols P cs all d

  abbrev Rule : ClassFile → Type 0
  Rule x = IsAt cs x

  -- ---- what stands above

  any_same : (name : List ℕ) (xs ys : List ClassFile) → pairs cs P read l src up ds h R helper xs ys → list_any (λ (x : ClassFile). bytes_eq (own_name x) name) ys ≡ list_any (λ (x : ClassFile). bytes_eq (own_name x) name) xs
  any_same name [] [] z = refl
  any_same name [] (y ∷ ys) z = absurd z
  any_same name (x ∷ xs) [] z = absurd z
  any_same name (x ∷ xs) (y ∷ ys) z =
      ap (λ (t : List ℕ). bytes_eq t name || list_any (λ (x : ClassFile). bytes_eq (own_name x) name) ys) z.0.0.own ∙ ap (λ (b : Bool). bytes_eq (own_name x) name || b) (any_same name xs ys z.1)

  above_same : (name : List ℕ) → is_properly_above all d name ≡ is_properly_above cs c name
  above_same name =
      ap (λ (t : List ℕ). not (bytes_eq t name) && list_any (λ (x : ClassFile). bytes_eq (own_name x) name) (lineage all t)) r.own
      ∙ ap (λ (b : Bool). not (bytes_eq (own_name c) name) && b) (any_same name (lineage cs (own_name c)) (lineage all (own_name c)) (above_way cs P read l src up ds h R helper (own_name c) (is_apart cs P read l c at).own))

  special_above : (init : Bool) (selected o : Option View) → special_view init (is_properly_above all d) selected o ≡ special_view init (is_properly_above cs c) selected o
  special_above init selected None = refl
  special_above init selected (Some v) = ap (λ (b : Bool). Some (if not init && b then chosen selected v else v)) (above_same v.0)

  -- ---- plain names

  abbrev qz : MemberName → Head → Bool
  qz n v = headed n.name n.descriptor v && free v.private v.static

  selected_seen : (xs : List ClassFile) (class : List ℕ) (n : MemberName) → option_map view (selected_from xs class n) ≡ find (by (qz n)) (views P Rule (lineage xs class))
  selected_seen xs class n = sym (find_map view (by (qz n)) (methods_in (lineage xs class)))

  selected_kept : (n : MemberName) → IsPlain n → option_map view (selected_from all (super_name d) n) ≡ option_map view (selected_from cs (super_name c) n)
  selected_kept n plain =
      selected_seen all (super_name d) n ∙ ap (λ (t : List ℕ). find (by (qz n)) (views P Rule (lineage all t))) r.above
      ∙ kept_seen cs P read l src up ds h R helper n plain free (lineage cs (super_name c)) (lineage all (super_name c)) (above_way cs P read l src up ds h R helper (super_name c) (is_apart cs P read l c at).above)
      ∙ sym (selected_seen cs (super_name c) n)

  special_kept : (n : MemberName) → IsPlain n → option_map view (special_method all d n) ≡ option_map view (special_method cs c n)
  special_kept n plain =
      special_seen all d n
      ∙ ap (λ (o : Option View). special_view (bytes_eq n.name constructor) (is_properly_above all d) o (option_map view (resolved_method all n))) (selected_kept n plain)
      ∙ ap (special_view (bytes_eq n.name constructor) (is_properly_above all d) (option_map view (selected_from cs (super_name c) n))) (method_kept cs P read l src up ds h R helper n plain)
      ∙ special_above (bytes_eq n.name constructor) (option_map view (selected_from cs (super_name c) n)) (option_map view (resolved_method cs n))
      ∙ sym (special_seen cs c n)

  -- ---- numbers

  pub record IsRun (n : MemberName) (m : ℕ) : Type 0 where
    pub what : View
    pub found_so : option_map view (special_method cs c n) ≡ Some what
    pub numbered_so : position (is_method (view_name what)) (method_names P) ≡ Some m

  run_as : (n : MemberName) (m : ℕ) → special_number s0 n ≡ Some m → IsRun n m
  run_as n m e =
      let f = some_of (λ (v : View). position (is_method (view_name v)) (map full_name (taken_methods cs))) (option_map view (special_method cs c n)) m
      (sym (method_through cs P read l src up ds h R helper texts c d (map full_name (taken_methods cs)) (special_method cs c n)) ∙ e) in
      record { what = f.0; found_so = f.1; numbered_so = ap (position (is_method (view_name f.0))) (program_names cs P read l) ∙ f.2 }

  new_number : (n : MemberName) (v : View) (i : ℕ) → option_map view (special_method all d n) ≡ Some v → position (is_method (view_name v)) (names_behind P more) ≡ Some i → special_number s n ≡ Some i
  new_number n v i e p =
      method_through cs P read l src up ds h R helper texts c d (map full_name (all_members P all)) (special_method all d n)
      ∙ ap (option_and_then (λ (v : View). position (is_method (view_name v)) (map full_name (all_members P all)))) e
      ∙ ap (position (is_method (view_name v))) (new_names cs P read l src up ds h R helper texts c d) ∙ p

  plain_special : (n : MemberName) → IsPlain n → (m : ℕ) → special_number s0 n ≡ Some m → special_number s n ≡ Some m
  plain_special n plain m e =
      let f = run_as n m e in
      new_number n f.what m (special_kept n plain ∙ f.found_so) ((numbers cs P read l src up ds h R helper texts c d).old (view_name f.what) m f.numbered_so)

  -- ---- duplicates

  run_pass : (n : MemberName) (v : View) → option_map view (special_method cs c n) ≡ Some v → headed n.name n.descriptor v.1 ≡ true
  run_pass n v e =
      special_pass (by (headed n.name n.descriptor)) (bytes_eq n.name constructor) (is_properly_above cs c) (option_map view (selected_from cs (super_name c) n)) (option_map view (resolved_method cs n)) v
      (λ w f. (both_true (headed n.name n.descriptor w.1) (free w.1.private w.1.static) (found (by (qz n)) (views P Rule (lineage cs (super_name c))) w (sym (selected_seen cs (super_name c) n) ∙ f)).1).0)
      (λ w f. pass cs P read l src up ds h R helper texts c d n w f) (sym (special_seen cs c n) ∙ e)

  special_copied : (init : Bool) (above : List ℕ → Bool) (selected o : Option View) → special_view init above (option_map (copy_view P Rule) selected) (option_map (copy_view P Rule) o) ≡ option_map (copy_view P Rule) (special_view init above selected o)
  special_copied init above selected None = refl
  special_copied init above selected (Some v) = go (not init && above v.0) v.1.private refl selected
    where
      go : (x y : Bool) → v.1.private ≡ y → (s : Option View) → Some (if x then (if y then copy_view P Rule v else unwrap_or (option_map (copy_view P Rule) s) (copy_view P Rule v)) else copy_view P Rule v)
          ≡ Some (copy_view P Rule (if x then (if y then v else unwrap_or s v) else v))
      go false y e s = refl
      go true true e s = refl
      go true false e None = refl
      go true false e (Some w) = refl

  not_constructor : (t : List ℕ) → bytes_eq (duplicate_name t) constructor ≡ bytes_eq t constructor
  not_constructor t = go (bytes_eq t (codes "<clinit>")) refl
    where
      go : (b : Bool) → bytes_eq t (codes "<clinit>") ≡ b → bytes_eq (duplicate_name t) constructor ≡ bytes_eq t constructor
      go true e =
          let same : t ≡ codes "<clinit>" = (bytes_eq-Decides t (codes "<clinit>")).0 e in
          subst (λ (t : List ℕ). bytes_eq (duplicate_name t) constructor ≡ bytes_eq t constructor) (sym same) refl
      go false e = rw e refl

  copies : (n : MemberName) → IsPlain n → IsCovered cs P n → (m : ℕ) → special_number s0 n ≡ Some m → special_number s (copy_member n) ≡ Some (duplicate P m)
  copies n plain covered m e =
      let f = run_as n m e in
      let cover = covers cs P read l src up ds h R helper texts c d n covered in
      let resolved : option_map view (resolved_method all (copy_member n)) ≡ option_map (copy_view P Rule) (option_map view (resolved_method cs n)) =
      sym (find_map view (by (headed (duplicate_name n.name) (with_context n.descriptor))) (methods_in (method_way all n.class)))
      ∙ copy_seen cs P read l src up ds h R helper n plain cover (method_way cs n.class) (method_way all n.class) (way cs P read l src up ds h R helper n.class plain.class)
      ∙ ap (option_map (copy_view P Rule)) (find_map view (by (headed n.name n.descriptor)) (methods_in (method_way cs n.class))) in
      let selected : option_map view (selected_from all (super_name d) (copy_member n)) ≡ option_map (copy_view P Rule) (option_map view (selected_from cs (super_name c) n)) =
      selected_seen all (super_name d) (copy_member n) ∙ ap (λ (t : List ℕ). find (by (qz (copy_member n))) (views P Rule (lineage all t))) r.above
      ∙ copy_seen_more cs P read l src up ds h R helper n plain cover free (lineage cs (super_name c)) (lineage all (super_name c)) (above_way cs P read l src up ds h R helper (super_name c) (is_apart cs P read l c at).above)
      ∙ ap (option_map (copy_view P Rule)) (sym (selected_seen cs (super_name c) n)) in
      let led : option_map view (special_method all d (copy_member n)) ≡ Some (copy_view P Rule f.what) =
      special_seen all d (copy_member n)
      ∙ ap (λ (b : Bool). special_view b (is_properly_above all d) (option_map view (selected_from all (super_name d) (copy_member n))) (option_map view (resolved_method all (copy_member n)))) (not_constructor n.name)
      ∙ ap (λ (o : Option View). special_view (bytes_eq n.name constructor) (is_properly_above all d) o (option_map view (resolved_method all (copy_member n)))) selected
      ∙ ap (special_view (bytes_eq n.name constructor) (is_properly_above all d) (option_map (copy_view P Rule) (option_map view (selected_from cs (super_name c) n)))) resolved
      ∙ special_above (bytes_eq n.name constructor) (option_map (copy_view P Rule) (option_map view (selected_from cs (super_name c) n))) (option_map (copy_view P Rule) (option_map view (resolved_method cs n)))
      ∙ special_copied (bytes_eq n.name constructor) (is_properly_above cs c) (option_map view (selected_from cs (super_name c) n)) (option_map view (resolved_method cs n))
      ∙ ap (option_map (copy_view P Rule)) (sym (special_seen cs c n) ∙ f.found_so) in
      new_number (copy_member n) (copy_view P Rule f.what) (duplicate P m) led
      (ap (λ (k : MethodName). position (is_method k) (names_behind P more)) (copied_name cs P read l src up ds h R helper texts c d n f.what (run_pass n f.what f.found_so))
      ∙ (numbers cs P read l src up ds h R helper texts c d).copies (view_name f.what) (named_at cs P read l src up ds h R helper texts c d (method_names P) (view_name f.what) m f.numbered_so) m f.numbered_so)

  -- a constructor runs itself
  itself : (xs : List ClassFile) (x : ClassFile) (n : MemberName) → n.name ≡ constructor → special_method xs x n ≡ resolved_method xs n
  itself xs x n e = go (resolved_method xs n)
    where
      init : bytes_eq n.name constructor ≡ true
      init = (bytes_eq-Decides n.name constructor).1 e

      go : (o : Option Declared) → option_map (λ k. if not (bytes_eq n.name constructor) && is_properly_above xs x (own_name k.class) then from_above xs x n k else k) o ≡ o
      go None = refl
      go (Some k) = ap (λ (b : Bool). Some (if not b && is_properly_above xs x (own_name k.class) then from_above xs x n k else k)) init

  own_special : (n : MemberName) → IsPlain n → n.name ≡ constructor → IsOwn cs P n → (m : ℕ) → special_number s0 n ≡ Some m → special_number s (copy_member n) ≡ Some (duplicate P m)
  own_special n plain init own m e =
      let copied : duplicate_name n.name ≡ constructor = ap duplicate_name init in
      ap (option_and_then (number_of s)) (itself all d (copy_member n) copied)
      ∙ own_copies cs P read l src up ds h R helper texts c d n plain own m (ap (option_and_then (number_of s0)) (sym (itself cs c n init)) ∙ e)

  pub leads_special : LeadsSpecial cs P s0 s
  leads_special = record { methods = plain_special; copies = copies; own_copies = own_special }
