-- What linked classes have: of each class its fields and its methods, one class after another.
use Rattle.std.proofs.Common.{◌≡◌, ℕ, suc, ◌*◌, ◌≤◌, Bool, true, false, List, [], ◌∷◌, ◌++◌, length, refl, sym, ap, ◌∙◌, subst, arith, length-append}
use Rattle.std.specs.Prelude.{filter, if◌then◌else◌}
use Rattle.std.specs.List.{flat_map, AllByRecursion, AllZip, prefix_len}
use Rattle.std.proofs.lemmas.List.{length-map}
use Rattle.std.proofs.lemmas.List.Concat.{flat_map-cons}
use Rattle.std.proofs.lemmas.List.Elements.{filter-append}
use Rattle.jmodel.specs.format.ClassFile.{Member, ClassFile}
use Rattle.jmodel.specs.format.ClassRules.{IsClassFile}
use Rattle.objects.specs.linking.Library.{library}
use Rattle.objects.specs.linking.Members.{is_static, own_name}
use Rattle.objects.specs.linking.Superclasses.{super_name}
use Rattle.objects.specs.linking.Classes.{Declared, declared_in, methods_in}
use Rattle.objects.specs.linking.Taken.{is_taken}
use Rattle.objects.specs.semantics.Program.{Field, Method, Program}
use Rattle.objects.specs.linking.Resolution.{is_interface}
use Rattle.objects.specs.linking.Constructs.{is_floating}
use Rattle.objects.specs.linking.Layout.{field_type, words_upward, field_record, if_not, fields_behind, class_fields, fields_from, fields_of}
use Rattle.objects.specs.linking.Linking.{taken_methods}
use Rattle.objects.specs.laws.LinkingLaw.{AreRead}
use Rattle.objects.proofs.Links.{IsLinkedTo, method_from, methods_many}
use Rattle.rewriter.specs.Part.{is_of_class, own_fields, own_methods}
use Rattle.rewriter.proofs.Lists.{filter_keeps, filter_drops, fewer, all_passing, prefix_is, all_zipped}
use Rattle.rewriter.proofs.Grouped.{AreOthers, AreOther, others, AreRuns, runs, none_of}

-- the members of a class that pass a test as its methods do
declared_where : (p : Declared → Bool) (c : ClassFile) (ms : List Member) → filter p (declared_in c ms) ≡ declared_in c (filter (λ (m : Member). p (record { class = c; member = m })) ms)
declared_where p c [] = refl
declared_where p c (m ∷ ms) = go (p (record { class = c; member = m })) refl (declared_where p c ms)
  where
    go : (b : Bool) → p (record { class = c; member = m }) ≡ b → filter p (declared_in c ms) ≡ declared_in c (filter (λ (x : Member). p (record { class = c; member = x })) ms)
        → filter p (declared_in c (m ∷ ms)) ≡ declared_in c (filter (λ (x : Member). p (record { class = c; member = x })) (m ∷ ms))
    go true e h =
        filter_keeps p (record { class = c; member = m }) (declared_in c ms) e ∙ ap (λ (l : List Declared). record { class = c; member = m } ∷ l) h
        ∙ ap (declared_in c) (sym (filter_keeps (λ (x : Member). p (record { class = c; member = x })) m ms e))
    go false e h = filter_drops p (record { class = c; member = m }) (declared_in c ms) e ∙ h ∙ ap (declared_in c) (sym (filter_drops (λ (x : Member). p (record { class = c; member = x })) m ms e))

abbrev pub class_of_method : Method → List ℕ
class_of_method k = k.name.class

abbrev pub class_of_field : Field → List ℕ
class_of_field f = f.class

module _ (cs : List ClassFile) where
  -- whether a method of a class is one of the program
  abbrev pub is_taken_of : ClassFile → Member → Bool
  is_taken_of c m = is_taken cs (record { class = c; member = m })

  abbrev pub taken_of : ClassFile → List Member
  taken_of c = filter (is_taken_of c) c.methods

  -- ---- methods

  abbrev IsOf : Declared → Method → Type 0
  IsOf d k = k.name.class ≡ own_name d.class

  -- as many methods as members
  abbrev pub AreAsMany : ClassFile → List Method → Type 0
  AreAsMany c ks = length ks ≡ length (taken_of c)

  split : (xs ys : List Declared) (ks : List Method) → AllZip IsOf (xs ++ ys) ks → (own : List Method) × (rest : List Method) × (ks ≡ own ++ rest) × AllZip IsOf xs own × AllZip IsOf ys rest
  split [] ys ks h = ([], ks, refl, tt, h)
  split (x ∷ xs) ys [] h = absurd h
  split (x ∷ xs) ys (k ∷ ks) h = let r = split xs ys ks h.1 in (k ∷ r.0, r.1, ap (λ (l : List Method). k ∷ l) r.2, (h.0, r.3), r.4)

  in_class : (c : ClassFile) (ms : List Member) (ks : List Method) → AllZip IsOf (declared_in c ms) ks → AllByRecursion (λ (k : Method). class_of_method k ≡ own_name c) ks × (length ks ≡ length ms)
  in_class c [] [] h = (tt, refl)
  in_class c [] (k ∷ ks) h = absurd h
  in_class c (m ∷ ms) [] h = absurd h
  in_class c (m ∷ ms) (k ∷ ks) h = let r = in_class c ms ks h.1 in ((h.0, r.0), omega (arith, r.1))

  method_runs : (ds : List ClassFile) (ks : List Method) → AllZip IsOf (filter (is_taken cs) (methods_in ds)) ks → AreRuns class_of_method AreAsMany ds ks
  method_runs [] [] h = refl
  method_runs [] (k ∷ ks) h = absurd h
  method_runs (c ∷ ds) ks h =
      let list : filter (is_taken cs) (methods_in (c ∷ ds)) ≡ declared_in c (taken_of c) ++ filter (is_taken cs) (methods_in ds) =
      ap (filter (is_taken cs)) (flat_map-cons (λ (c : ClassFile). declared_in c c.methods) c ds) ∙ filter-append (is_taken cs) (declared_in c c.methods) (methods_in ds)
      ∙ ap (λ (l : List Declared). l ++ filter (is_taken cs) (methods_in ds)) (declared_where (is_taken cs) c c.methods) in
      let t = split (declared_in c (taken_of c)) (filter (is_taken cs) (methods_in ds)) ks (subst (λ (l : List Declared). AllZip IsOf l ks) list h) in
      let own = in_class c (taken_of c) t.0 t.3 in
      (t.0, t.1, t.2, own.0, own.1, method_runs ds t.1 t.4)

  -- ---- fields

  abbrev Whatever : ClassFile → List Field → Type 0
  Whatever c fs = Unit {0}

  module _ (n : ℕ) (c : ClassFile) where
    behind_class : (s w : ℕ) (ms : List Member) → AllByRecursion (λ (f : Field). f.class ≡ own_name c) (fields_behind cs n c s w ms)
    behind_class s w [] = tt
    behind_class s w (m ∷ ms) = go (is_static m) (is_floating (field_type c.pool m)) (behind_class (suc s) w ms) (behind_class s (suc w) ms)
      where
        go : (a b : Bool) → AllByRecursion (λ (f : Field). f.class ≡ own_name c) (fields_behind cs n c (suc s) w ms) → AllByRecursion (λ (f : Field). f.class ≡ own_name c) (fields_behind cs n c s (suc w) ms)
            → AllByRecursion (λ (f : Field). f.class ≡ own_name c) (if a then if_not b (field_record cs n c m s) (fields_behind cs n c (suc s) w ms) else if_not b (field_record cs n c m w) (fields_behind cs n c s (suc w) ms))
        go true true first second = first
        go true false first second = (refl, first)
        go false true first second = second
        go false false first second = (refl, second)

    fields_class : AllByRecursion (λ (f : Field). f.class ≡ own_name c) (class_fields cs n c)
    fields_class = go (is_interface c)
      where
        go : (b : Bool) → AllByRecursion (λ (f : Field). f.class ≡ own_name c) (if b then [] else fields_behind cs n c 0 (length (words_upward cs (super_name c))) c.fields)
        go true = tt
        go false = behind_class 0 (length (words_upward cs (super_name c))) c.fields

  field_runs : (n : ℕ) (ds : List ClassFile) → AreRuns class_of_field Whatever ds (fields_from cs n ds)
  field_runs n [] = refl
  field_runs n (c ∷ ds) = (class_fields cs n c, fields_from cs (suc n) ds, refl, fields_class n c, tt, field_runs (suc n) ds)

  -- ---- how many methods there are

  few_in : (ds : List ClassFile) → AllByRecursion IsClassFile ds → length (methods_in ds) ≤ 65535 * length ds
  few_in [] h = omega arith
  few_in (c ∷ ds) h =
      let list = ap length (flat_map-cons (λ (c : ClassFile). declared_in c c.methods) c ds) in
      let sum = length-append (declared_in c c.methods) (methods_in ds) in
      let same : length (declared_in c c.methods) ≡ length c.methods = length-map _ _ in
      let few = h.0.few_methods in
      omega (arith, list, sum, same, few, few_in ds h.1)

  -- ---- class by class

  module _ (P : Program) (read : AreRead cs) (l : IsLinkedTo cs P) where
    pub other : AreOther cs
    other = others library cs read.doubled

    all_of : AllZip IsOf (taken_methods cs) P.methods
    all_of =
        all_zipped IsOf (taken_methods cs) P.methods (methods_many cs P l)
        (λ i k at. let f = method_from cs P l i k at in (f.member, f.there, ap class_of_method f.meant.is))

    -- of each class its methods, and all methods class by class
    pub methods_are : AllByRecursion (λ (c : ClassFile). AreAsMany c (own_methods P c)) cs × (P.methods ≡ flat_map (own_methods P) cs)
    methods_are = runs class_of_method AreAsMany P.methods cs other (method_runs cs P.methods all_of)

    -- the same of fields
    pub fields_are : P.fields ≡ flat_map (own_fields P) cs
    fields_are =
        let of : P.fields ≡ fields_of cs = ap (λ (P : Program). P.fields) l.is in
        (runs class_of_field Whatever P.fields cs other (subst (AreRuns class_of_field Whatever cs) (sym of) (field_runs 0 cs))).1

    pub few_methods : length P.methods ≤ 16776960
    few_methods =
        let many = methods_many cs P l in
        let some = fewer (is_taken cs) (methods_in cs) in
        let all = few_in cs read.files in
        let few = read.few in
        omega (arith, many, some, all, few)

  -- the fields of a class stand first, up to those of others
  pub own_first : (P : Program) (c : ClassFile) (ds : List ClassFile) → AreOthers (own_name c) ds → prefix_len (is_of_class (own_name c)) (own_fields P c ++ flat_map (own_fields P) ds) ≡ length (own_fields P c)
  own_first P c ds o = prefix_is (is_of_class (own_name c)) (own_fields P c) (flat_map (own_fields P) ds) (all_passing (is_of_class (own_name c)) P.fields) (none_of class_of_field Whatever P.fields c ds o)
