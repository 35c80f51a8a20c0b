-- The symbols of a rewritten class know the fields of its original.
use Rattle.std.proofs.Common.{◌≡◌, ◌≢◌, ℕ, suc, ◌+◌, List, [], ◌∷◌, ◌++◌, Some, None, Ok, Bool, true, false, not, ◌||◌, refl, sym, ap, ◌∙◌, subst, arith}
use Rattle.std.specs.Prelude.{bytes_eq, slice_get, filter, cond, if◌then◌else◌}
use Rattle.std.specs.List.{AllByRecursion}
use Rattle.std.proofs.lemmas.Slice.Eq.{bytes_eq-Decides}
use Rattle.jmodel.specs.declared.value.Value.TheVariants.{Ref}
use Rattle.jmodel.specs.format.ClassFile.{Member, ClassFile}
use Rattle.jmodel.specs.format.ClassRules.{IsField}
use Rattle.jmodel.specs.format.Descriptor.{IsClassName}
use Rattle.jmodel.specs.format.DescriptorReading.{type_of}
use Rattle.objects.specs.linking.Members.{is_static, own_name}
use Rattle.objects.specs.linking.StaticBases.{base_of}
use Rattle.jmodel.specs.format.Pool.{text_or_none, utf8}
use Rattle.objects.specs.linking.Reserved.{is_reserved}
use Rattle.objects.specs.linking.Superclasses.{class_named}
use Rattle.objects.specs.declared.op.Op.TheVariants.{Constant}
use Rattle.objects.specs.semantics.Program.{Field, Program, field_at}
use Rattle.objects.specs.linking.Resolution.{is_interface, holds_of}
use Rattle.objects.specs.typing.TypeOrder.{context_class, object_class}
use Rattle.objects.specs.linking.LibraryMethods.{is_library}
use Rattle.objects.specs.linking.Layout.{class_read, declared_as}
use Rattle.objects.specs.linking.Decoding.{Symbols, field_number, get_static_op}
use Rattle.objects.specs.linking.Linking.{base_in, original_symbols}
use Rattle.objects.specs.laws.LinkingLaw.{AreRead, IsUpward}
use Rattle.objects.specs.rewriting.Relinking.{rewritten_symbols}
use Rattle.objects.specs.rewriting.Rewriting.{distance}
use Rattle.objects.proofs.AsRead.{is_file, own_class_name}
use Rattle.objects.proofs.DeclaredMembers.{by_own_name}
use Rattle.objects.proofs.Items.{IsAt, item, all_items, of_filter}
use Rattle.objects.proofs.Links.{IsLinkedTo}
use Rattle.const_pool.proofs.Types.{of_type}
use Rattle.field_members.specs.AccessorsLaw.{address_named, base_named, IsKnown, AreKnown}
use Rattle.field_members.specs.Fields.{with_fields}
use Rattle.field_members.specs.FieldsLaw.{IsUnreserved, AreApart, AreOrdinary, Begins, AreConstants, FieldsLaw}
use Rattle.rewritten_names.specs.Heads.{own_fields, Rewrites}
use Rattle.rewritten_names.specs.LeadsLaw.{IsOther, IsPlain, Leads}
use Rattle.rewritten_names.proofs.Apart as program
use Rattle.rewritten_names.proofs.Free.{text_free, is_apart}
use Rattle.rewritten_names.proofs.Ordinary.{distinct}
use Rattle.rewritten_ties.proofs.Alike.{type_alike}
use Rattle.rewritten_ties.proofs.OwnFields.{there, field_free, own_field, own_number, class_place, fields_are}

-- ---- fields of one class

-- a field of a class has another name than others of the class that differ from it
apart_from : (name : List ℕ) (f : Field) → f.class ≡ name → (fs : List Field) → AllByRecursion (program.IsOtherField f) fs → AllByRecursion (λ (g : Field). f.name ≢ g.name) (filter (λ (g : Field). bytes_eq g.class name) fs)
apart_from name f own [] all = tt
apart_from name f own (g ∷ fs) all = go (bytes_eq g.class name) refl (apart_from name f own fs all.1)
  where
    go : (b : Bool) → bytes_eq g.class name ≡ b → AllByRecursion (λ (g : Field). f.name ≢ g.name) (filter (λ (g : Field). bytes_eq g.class name) fs)
        → AllByRecursion (λ (g : Field). f.name ≢ g.name) (cond b (g ∷ filter (λ (g : Field). bytes_eq g.class name) fs) (filter (λ (g : Field). bytes_eq g.class name) fs))
    go true e rest = ((λ same. all.0 ((bytes_eq-Decides g.class name).0 e ∙ sym own) (sym same)), rest)
    go false e rest = rest

-- fields of one class that differ have names that differ
own_apart : (name : List ℕ) (fs : List Field) → program.AreApart fs → AreApart (filter (λ (g : Field). bytes_eq g.class name) fs)
own_apart name [] apart = tt
own_apart name (f ∷ fs) apart = go (bytes_eq f.class name) refl (own_apart name fs apart.1)
  where
    go : (b : Bool) → bytes_eq f.class name ≡ b → AreApart (filter (λ (g : Field). bytes_eq g.class name) fs) → AreApart (cond b (f ∷ filter (λ (g : Field). bytes_eq g.class name) fs) (filter (λ (g : Field). bytes_eq g.class name) fs))
    go true e rest = (apart_from name f ((bytes_eq-Decides f.class name).0 e) fs apart.0, rest)
    go false e rest = rest

-- each is known, from the first on
each_known : (s : Symbols) (n : ℕ) (fs : List Field) → ((j : ℕ) (f : Field) → slice_get fs j ≡ Some f → IsKnown s (n + j) f) → AreKnown s n fs
each_known s n [] h = tt
each_known s n (f ∷ fs) h =
    let z : n + 0 ≡ n = omega arith in
    (subst (λ (m : ℕ). IsKnown s m f) z (h 0 f refl), each_known s (suc n) fs (λ j g e. let m : n + suc j ≡ suc n + j = omega arith in subst (λ (m : ℕ). IsKnown s m g) m (h (suc j) g e)))

module _ (cs : List ClassFile) (P : Program) (read : AreRead cs) (l : IsLinkedTo cs P) (up : IsUpward cs) (ds : List ClassFile) (h : ClassFile) (c d : ClassFile) (at : IsAt cs c) (r : Rewrites P c d) where
  abbrev all : List ClassFile
  all = ds ++ h ∷ []

  abbrev s : Symbols
  s = rewritten_symbols P cs all d

  -- no two fields of the program are one
  apart : program.AreApart P.fields
  apart = program.fields_apart cs P read l

  -- ---- what the law of added fields asks

  -- no field of the file has a name that is kept
  member_free : (m : Member) → IsAt c.fields m → IsUnreserved c.pool m
  member_free m k =
      let file = item (IsField c.pool) c.fields m (is_file cs read c at).fields k in
      (text_or_none (utf8 c.pool m.name), there (utf8 c.pool m.name) file.named, text_free cs P read l c at m.name)

  -- the fields are ordinary
  ordinary : AreOrdinary s c (own_fields P c)
  ordinary = record {
    members = all_items (IsUnreserved c.pool) c.fields member_free;
    all = subst (AllByRecursion (λ (f : Field). is_reserved f.name ≡ false)) (fields_are cs P read l) (all_items (λ (f : Field). is_reserved f.name ≡ false) P.fields (field_free cs P read l));
    own = all_items (λ (f : Field). own_name d ≡ f.class) (own_fields P c) (λ f k. r.own ∙ sym ((bytes_eq-Decides f.class (own_name c)).0 (of_filter (λ (f : Field). bytes_eq f.class (own_name c)) P.fields f k).1));
    apart = own_apart (own_name c) P.fields apart;
  }

  -- ---- classes

  -- the class isn't the helper
  other : IsOther (own_name c)
  other = (is_apart cs P read l c at).own

  -- a class's name is read as itself
  read_as : is_interface c ≡ false → class_read cs (own_name c) ≡ own_name c
  read_as plain = go (is_library (own_name c)) (bytes_eq (own_name c) context_class) (holds_of (λ c. not (is_interface c)) (class_named cs (own_name c))) (ap (holds_of (λ c. not (is_interface c))) (by_own_name cs read c at) ∙ ap not plain)
    where
      go : (a b x : Bool) → x ≡ true → (if a || (b || x) then own_name c else object_class) ≡ own_name c
      go true b x e = refl
      go false true x e = refl
      go false false true e = refl
      go false false false e = cc

  -- the object of its static fields
  base_is : (o : IsAt cs c) → base_in cs (own_name d) ≡ base_of cs (0 + o.0)
  base_is o = ap (base_in cs) r.own ∙ ap (base_of cs) (class_place 0 cs (distinct cs P read l) o.0 c o.1)

  module _ (L : Leads cs P h (original_symbols cs c) s) (law : FieldsLaw) (new : ClassFile) (made : with_fields (own_fields P c) c ≡ Ok new) (begins : Begins new d) where
    -- reads of added fields are constants
    constants : AreConstants s (own_fields P c)
    constants = law (own_fields P c) c new s (is_file cs read c at).pool.few made begins ordinary

    -- one field
    known : (i : ℕ) (f : Field) → IsAt (own_fields P c) f → field_at P i ≡ Some f → IsKnown s i f
    known i f inside e =
        let o = own_field cs P read l c at f inside in
        let class : f.class ≡ own_name c = ap (λ (f : Field). f.class) o.is in
        let name : f.name ≡ text_or_none (utf8 c.pool o.member.name) = ap (λ (f : Field). f.name) o.is in
        let text : f.descriptor ≡ text_or_none (utf8 c.pool o.member.descriptor) = ap (λ (f : Field). f.descriptor) o.is in
        let free : is_reserved f.descriptor ≡ false = ap is_reserved text ∙ text_free cs P read l c at o.member.descriptor in
        let plain : IsPlain (record { class = own_name c; name = f.name; descriptor = f.descriptor }) = record { class = other; name = ap is_reserved name ∙ text_free cs P read l c at o.member.name; descriptor = free } in
        let number = L.fields (record { class = own_name c; name = f.name; descriptor = f.descriptor }) plain ∙ own_number cs P read l c at up apart f o i e in
        record {
          own = r.own ∙ sym class;
          class_named = subst IsClassName (sym class) (own_class_name c (is_file cs read c at));
          class_same = ap (class_read all) class ∙ L.reads (own_name c) other ∙ read_as o.plain ∙ sym class;
          type = o.descriptor.0;
          describes = o.descriptor.1;
          declared =
              type_alike cs all L.reads o.descriptor.0 (ap is_reserved (sym o.descriptor.1.is) ∙ free)
              ∙ ap (declared_as cs) (sym (ap type_of (sym text ∙ o.descriptor.1.is) ∙ of_type o.descriptor.0 o.descriptor.1.type)) ∙ sym (ap (λ (f : Field). f.declared) o.is);
          number = ap (λ (t : List ℕ). field_number s (record { class = t; name = f.name; descriptor = f.descriptor })) class ∙ number;
          address = item (λ (f : Field). get_static_op s (address_named f) ≡ Some (distance f.index)) (own_fields P c) f constants.addresses inside;
          base = λ b based. item (λ (f : Field). get_static_op s (base_named f) ≡ Some (Constant (Ref s.base))) (own_fields P c) f constants.bases inside
              ∙ ap (λ (b : ℕ). Some (Constant (Ref b))) (base_is (o.number, o.there) ∙ based_at (is_static o.member) o.number (sym (ap (λ (f : Field). f.base) o.is) ∙ based));
        }
      where
        based_at : (t : Bool) (n : ℕ) {b : ℕ} → (if t then Some (base_of cs (0 + n)) else None) ≡ Some b → base_of cs (0 + n) ≡ b
        based_at true n e = cc
        based_at false n e = cc

    -- all fields of the class
    pub are_known : (n : ℕ) → ((j : ℕ) (f : Field) → slice_get (own_fields P c) j ≡ Some f → field_at P (n + j) ≡ Some f) → AreKnown s n (own_fields P c)
    are_known n stands = each_known s n (own_fields P c) (λ j f e. known (n + j) f (j, e) (stands j f e))
