-- The fields of a program that a class declares: their members, their numbers, and the object of the class's static fields.
use Rattle.std.proofs.Common.{◌≡◌, ℕ, zero, suc, ◌+◌, List, [], ◌∷◌, length, Option, Some, None, Bool, true, false, ◌&&◌, refl, sym, ap, ◌∙◌, subst, arith}
use Rattle.std.specs.Prelude.{bytes_eq, slice_get, position, find, if◌then◌else◌, option_map, option_and_then, IsSome, IsSomeAnd}
use Rattle.std.specs.List.{AllByRecursion, flat_map}
use Rattle.std.specs.Option.{option_or}
use Rattle.std.proofs.lemmas.List.Folds.{find-append}
use Rattle.std.proofs.lemmas.Slice.Eq.{bytes_eq-Decides}
use Rattle.jmodel.specs.declared.name.MethodName.{MethodName}
use Rattle.jmodel.specs.format.ClassFile.{Member, ClassFile}
use Rattle.jmodel.specs.format.ClassRules.{IsField}
use Rattle.jmodel.specs.format.Descriptor.{IsFieldDescriptor}
use Rattle.jmodel.specs.format.Pool.{text_or_none, utf8, MemberName}
use Rattle.objects.specs.linking.Reserved.{is_reserved}
use Rattle.objects.specs.linking.Members.{own_name}
use Rattle.objects.specs.linking.Superclasses.{class_named, super_name, with_above}
use Rattle.objects.specs.linking.Classes.{Declared, declared_in, full_name}
use Rattle.objects.specs.semantics.Program.{Field, Program, field_at}
use Rattle.objects.specs.linking.Resolution.{is_interface, names_above, ancestry, has_name, fields_in, resolved_field}
use Rattle.objects.specs.linking.Layout.{words_upward, field_record, fields_of}
use Rattle.objects.specs.linking.Decoding.{is_field_of, field_number}
use Rattle.objects.specs.linking.Linking.{place_from, original_symbols}
use Rattle.objects.specs.laws.LinkingLaw.{AreRead, IsUpward}
use Rattle.objects.proofs.AsRead.{is_file}
use Rattle.objects.proofs.DeclaredMembers.{HasName, name_of_member, has_its_name, by_own_name, same_class}
use Rattle.objects.proofs.Items.{IsAt, item, into_map, of_map, of_filter, found, finds}
use Rattle.objects.proofs.LinkedFields.{IsFieldBehind, IsFieldFrom, field_from}
use Rattle.objects.proofs.Links.{IsLinkedTo}
use Rattle.const_pool.specs.Firsts.{first}
use Rattle.const_pool.proofs.FirstLemmas.{position_first}
use Rattle.rewritten_names.specs.Heads.{own_fields}
use Rattle.rewritten_names.proofs.Apart.{IsOtherField, AreApart}
use Rattle.rewritten_names.proofs.Blocks.{Differ, AreOthers}
use Rattle.rewritten_names.proofs.Free.{text_free}
use Rattle.rewritten_names.proofs.Lists.{both_true, turned}
use Rattle.rewritten_ties.proofs.FullNames.{full_is}

-- ---- the number of a field

-- a field that has a name has the name's class and text
field_same : (n : MethodName) (f : Field) → is_field_of n f ≡ true → (f.class ≡ n.class) × (f.name ≡ n.name)
field_same n f e =
    let a = both_true (bytes_eq f.name n.name) (bytes_eq f.descriptor n.descriptor && bytes_eq f.class n.class) e in
    let b = both_true (bytes_eq f.descriptor n.descriptor) (bytes_eq f.class n.class) a.1 in
    ((bytes_eq-Decides f.class n.class).0 b.1, (bytes_eq-Decides f.name n.name).0 a.0)

abbrev pub name_of : Field → MethodName
name_of f = record { class = f.class; name = f.name; descriptor = f.descriptor }

-- a field has its own name
itself : (f : Field) → is_field_of (name_of f) f ≡ true
itself f =
    let a = (bytes_eq-Decides f.name f.name).1 refl in
    let b = (bytes_eq-Decides f.descriptor f.descriptor).1 refl in
    let c = (bytes_eq-Decides f.class f.class).1 refl in
    rw (a, b, c) refl

-- another field doesn't
other_field : (f g : Field) → IsOtherField g f → is_field_of (name_of f) g ≡ false
other_field f g other = go (is_field_of (name_of f) g) refl
  where
    go : (b : Bool) → is_field_of (name_of f) g ≡ b → b ≡ false
    go true e = let s = field_same (name_of f) g e in absurd (other (sym s.0) (sym s.1))
    go false e = refl

-- what stands among other fields is another one
other_at : (g : Field) (fs : List Field) (i : ℕ) (f : Field) → AllByRecursion (IsOtherField g) fs → slice_get fs i ≡ Some f → IsOtherField g f
other_at g [] i f all e = cc
other_at g (h ∷ fs) zero f all e = let s : h ≡ f = cc in subst (IsOtherField g) s all.0
other_at g (h ∷ fs) (suc i) f all e = other_at g fs i f all.1 e

-- the first field of a name
first_field : (fs : List Field) → AreApart fs → (i : ℕ) (f : Field) → slice_get fs i ≡ Some f → first (is_field_of (name_of f)) fs ≡ Some i
first_field [] apart i f e = cc
first_field (g ∷ fs) apart zero f e = let s : g ≡ f = cc in let t = ap (is_field_of (name_of f)) s ∙ itself f in rw t refl
first_field (g ∷ fs) apart (suc i) f e =
    let a = other_field f g (other_at g fs i f apart.0 e) in
    let r = first_field fs apart.1 i f e in
    rw a (ap (option_map suc) r)

-- a field has the number at which it stands
pub field_place : (fs : List Field) → AreApart fs → (i : ℕ) (f : Field) → slice_get fs i ≡ Some f → position (is_field_of (name_of f)) fs ≡ Some i
field_place fs apart i f e = position_first (is_field_of (name_of f)) fs ∙ first_field fs apart i f e

-- ---- the place of a class

-- a class among others has another name
others_at : (n : List ℕ) (cs : List ClassFile) (i : ℕ) (c : ClassFile) → AreOthers n cs → slice_get cs i ≡ Some c → bytes_eq (own_name c) n ≡ false
others_at n [] i c o e = cc
others_at n (d ∷ cs) zero c o e = let s : d ≡ c = cc in subst (λ (d : ClassFile). bytes_eq (own_name d) n ≡ false) s o.0
others_at n (d ∷ cs) (suc i) c o e = others_at n cs i c o.1 e

-- a class has the place at which it stands
pub class_place : (k : ℕ) (cs : List ClassFile) → Differ cs → (i : ℕ) (c : ClassFile) → slice_get cs i ≡ Some c → place_from k cs (own_name c) ≡ k + i
class_place k [] d i c e = cc
class_place k (x ∷ cs) d zero c e =
    let s : x ≡ c = cc in
    let t : bytes_eq (own_name x) (own_name c) ≡ true = (bytes_eq-Decides (own_name x) (own_name c)).1 (ap own_name s) in
    let n : k ≡ k + 0 = omega arith in
    ap (λ (b : Bool). if b then k else place_from (k + 1) cs (own_name c)) t ∙ n
class_place k (x ∷ cs) d (suc i) c e =
    let t = turned (own_name c) (own_name x) (others_at (own_name x) cs i c d.0 e) in
    let n : (k + 1) + i ≡ k + suc i = omega arith in
    ap (λ (b : Bool). if b then k else place_from (k + 1) cs (own_name c)) t ∙ class_place (k + 1) cs d.1 i c e ∙ n

-- ---- the member of a field

-- what an option holds, of which something holds
pub held : (o : Option (List ℕ)) (Rule : List ℕ → Type 0) → IsSomeAnd o Rule → (o ≡ Some (text_or_none o)) × Rule (text_or_none o)
held None Rule h = absurd h
held (Some t) Rule h = (refl, h)

-- what an option holds that holds something
pub there : (o : Option (List ℕ)) → IsSome o → o ≡ Some (text_or_none o)
there None h = cc
there (Some t) h = refl

-- A field of a class comes from one of its members, which has a name and a descriptor.
pub record IsOwnField (cs : List ClassFile) (c : ClassFile) (f : Field) : Type 0 where
  pub number : ℕ
  pub there : slice_get cs number ≡ Some c
  pub plain : is_interface c ≡ false
  pub member : Member
  pub inside : IsAt c.fields member
  pub index : ℕ
  pub is : f ≡ field_record cs (0 + number) c member index
  pub named : utf8 c.pool member.name ≡ Some f.name
  pub typed : utf8 c.pool member.descriptor ≡ Some f.descriptor
  pub descriptor : IsFieldDescriptor f.descriptor

module _ (cs : List ClassFile) (P : Program) (read : AreRead cs) (l : IsLinkedTo cs P) where
  -- the program's fields are those of the classes
  pub fields_are : P.fields ≡ fields_of cs
  fields_are = ap (λ (P : Program). P.fields) l.is

  -- a field of the program comes from a class
  pub from_field : (f : Field) → IsAt P.fields f → IsFieldFrom cs cs 0 f
  from_field f at = field_from cs 0 cs f (subst (λ (fs : List Field). IsAt fs f) fields_are at)

  -- no field of the program has a name that is kept
  pub field_free : (f : Field) → IsAt P.fields f → is_reserved f.name ≡ false
  field_free f at =
      let r = from_field f at in
      ap (λ (f : Field). is_reserved f.name) r.member.is ∙ text_free cs P read l r.class (r.number, r.there) r.member.member.name

  module _ (c : ClassFile) (at : IsAt cs c) where
    -- a field of the class comes from one of its members
    pub own_field : (f : Field) → IsAt (own_fields P c) f → IsOwnField cs c f
    own_field f h =
        let a = of_filter (λ (f : Field). bytes_eq f.class (own_name c)) P.fields f h in
        let r = from_field f a.0 in
        let same : r.class ≡ c = same_class cs read r.class c (r.number, r.there) at (sym (ap (λ (f : Field). f.class) r.member.is) ∙ (bytes_eq-Decides f.class (own_name c)).0 a.1) in
        by r.class same r.number r.there r.plain r.member
      where
        by : (x : ClassFile) → x ≡ c → (number : ℕ) → slice_get cs number ≡ Some x → is_interface x ≡ false → IsFieldBehind cs (0 + number) x (length (words_upward cs (super_name x))) x.fields f → IsOwnField cs c f
        by x same number e plain b =
            let file = item (IsField x.pool) x.fields b.member (is_file cs read x (number, e)).fields b.inside in
            let d = held (utf8 x.pool b.member.descriptor) IsFieldDescriptor file.typed in
            let text : text_or_none (utf8 x.pool b.member.descriptor) ≡ f.descriptor = sym (ap (λ (f : Field). f.descriptor) b.is) in
            subst (λ (x : ClassFile). IsOwnField cs x f) same (record {
              number = number;
              there = e;
              plain = plain;
              member = b.member;
              inside = b.inside;
              index = b.index;
              is = b.is;
              named = there (utf8 x.pool b.member.name) file.named ∙ ap (λ (f : Field). Some f.name) (sym b.is);
              typed = d.0 ∙ ap (λ (t : List ℕ). Some t) text;
              descriptor = subst IsFieldDescriptor text d.1;
            })

    -- ---- its name leads to it

    module _ (up : IsUpward cs) (apart : AreApart P.fields) where
      -- the name of a field of the class leads to it
      pub own_number : (f : Field) → IsOwnField cs c f → (i : ℕ) → field_at P i ≡ Some f → field_number (original_symbols cs c) (record { class = own_name c; name = f.name; descriptor = f.descriptor }) ≡ Some i
      own_number f o i e =
          let n : MemberName = record { class = own_name c; name = f.name; descriptor = f.descriptor } in
          let k0 : Declared = record { class = c; member = o.member } in
          let here : class_named cs (own_name c) ≡ Some c = by_own_name cs read c at in
          let way : ancestry cs (own_name c) ≡ c ∷ flat_map (ancestry cs) (names_above c) = up.all (own_name c) ∙ ap (with_above (λ c. flat_map (ancestry cs) (names_above c))) here in
          let inside : IsAt (declared_in c c.fields) k0 = into_map (λ (m : Member). record { class = c; member = m }) c.fields o.member o.inside in
          let found_one = finds (has_name n) (declared_in c c.fields) k0 inside (has_its_name n k0 (record { name = o.named; descriptor = o.typed })) in
          let resolved : resolved_field cs n ≡ Some found_one.0 =
          ap (λ (ws : List ClassFile). find (has_name n) (fields_in ws)) way ∙ find-append (has_name n) (declared_in c c.fields) (fields_in (flat_map (ancestry cs) (names_above c)))
          ∙ ap (λ (u : Option Declared). option_or u (find (has_name n) (fields_in (flat_map (ancestry cs) (names_above c))))) found_one.1 in
          let f0 = found (has_name n) (declared_in c c.fields) found_one.0 found_one.1 in
          let m = of_map (λ (m : Member). record { class = c; member = m }) c.fields found_one.0 f0.0 in
          let has : HasName found_one.0 n = name_of_member n found_one.0 f0.1 in
          let class : own_name found_one.0.class ≡ f.class = ap (λ (k : Declared). own_name k.class) (sym m.2) ∙ sym (ap (λ (f : Field). f.class) o.is) in
          let full : full_name found_one.0 ≡ name_of f = full_is found_one.0 n f.class has class in
          ap (option_and_then (λ (k : Declared). position (is_field_of (full_name k)) (fields_of cs))) resolved
          ∙ ap (λ (n : MethodName). position (is_field_of n) (fields_of cs)) full
          ∙ ap (position (is_field_of (name_of f))) (sym fields_are)
          ∙ field_place P.fields apart i f e
