-- Instructions of taken methods that name classes mean source: of the types of these, objects or arrays are made.
use Rattle.std.proofs.Common.{◌≡◌, ◌≢◌, ◌⊎◌, inl, inr, ℕ, zero, suc, ◌<◌, List, [], ◌∷◌, ◌++◌, drop, replicate, Option, Some, None, Bool, true, false, refl, sym, ap, subst, ◌∙◌, arith}
use Rattle.std.specs.Prelude.{slice_get, position, ℤ, pos, negsuc, ◌==◌, ◌&&◌, ◌||◌, if◌then◌else◌, bytes_eq, codes, nat_lt, option_map, option_and_then, is_some}
use Rattle.std.specs.List.{AllByRecursion}
use Rattle.std.proofs.lemmas.Bool.Decides.{Decides-eqb}
use Rattle.std.proofs.lemmas.Slice.Eq.{bytes_eq-Decides}
use Rattle.jmodel.specs.declared.class_file.FieldType.{FieldType}
use Rattle.jmodel.specs.declared.class_file.FieldType.TheVariants as field
use Rattle.jmodel.specs.declared.instruction.Instr.{Instr}
use Rattle.jmodel.specs.format.ClassFile.{ClassFile}
use Rattle.jmodel.specs.format.Pool.{class_name}
use Rattle.jmodel.specs.format.ClassRules.{IsConstant}
use Rattle.jmodel.specs.format.Descriptor.{is_array_name, field_descriptor, IsClassName, IsArrayName}
use Rattle.jmodel.specs.format.Descriptor as descriptor
use Rattle.jmodel.specs.format.DescriptorReading.{brackets, type_of}
use Rattle.objects.specs.linking.Members.{own_name}
use Rattle.objects.specs.linking.Superclasses.{class_named}
use Rattle.objects.specs.linking.Classes.{Declared}
use Rattle.objects.specs.linking.Taken.{index_of}
use Rattle.objects.specs.declared.op.Op.{Op}
use Rattle.objects.specs.declared.op.Op.TheVariants as op
use Rattle.objects.specs.linking.LibraryClasses.{library_rows}
use Rattle.objects.specs.semantics.Program.{Declared as DeclaredWord, Words, Row, Method, Program, row_at}
use Rattle.objects.specs.linking.LibraryMethods.{is_library}
use Rattle.objects.specs.typing.TypeOrder.{context_class, is_class_name}
use Rattle.objects.specs.linking.Resolution.{is_interface, is_known, holds_of}
use Rattle.objects.specs.linking.Constructs.{named_class, reference_name, unknown_core, unknown_in, is_bad_new, has_no_object}
use Rattle.objects.specs.linking.Layout.{rows, words_upward, class_row, primitive_arrays, array_over, made_arrays, type_number, descriptor_read}
use Rattle.objects.specs.linking.Decoding.{Symbols, primitive_array, new_array, class_op}
use Rattle.objects.specs.linking.Linking.{taken_methods, original_symbols}
use Rattle.objects.specs.typing.Source.{CanMake, IsKnownName, IsMadeOf, AreTypes}
use Rattle.objects.specs.laws.LinkingLaw.{AreRead}
use Rattle.objects.proofs.Items.{IsAt, item, placed}
use Rattle.objects.proofs.AsRead.{formed, is_file, named_as, class_names, no_context}
use Rattle.objects.proofs.DeclaredMembers.{of_methods}
use Rattle.objects.proofs.TakenMembers.{in_methods}
use Rattle.objects.proofs.CleanCode.{IsClean}
use Rattle.objects.proofs.MadeArrays.{IsMade}
use Rattle.objects.proofs.ArrayElements.{class_type}
use Rattle.objects.proofs.FolderArrays.{all_brackets, behind_brackets, known_is}
use Rattle.objects.proofs.ReadTypes.{class_is_read}
use Rattle.objects.proofs.ReadNames.{IsPlainRow, library_plain, RowOf, of_library_row, of_class_row, of_base, of_array_row, row_kind, row_there, class_of_row, plain_row, IsDescriptor, a_letter, a_class, an_array, array_reads}
use Rattle.objects.proofs.CastNames.{cast_known}
use Rattle.objects.proofs.LinkedOps.{Fine, nothing, leaf, when, plain, mapped}

-- ---- descriptors of elements

module _ (cs : List ClassFile) (P : Program) (read : AreRead cs) (rows_are : P.types ≡ rows cs) (types : AreTypes P) where
  abbrev pub Described : List ℕ → Type 0
  Described d = IsDescriptor cs P read rows_are types d

  -- the descriptor of a type that is no array, and doesn't name the context
  pub described : (t : FieldType) → descriptor.IsElement t → ((m : List ℕ) → t ≡ field.Reference m → m ≢ context_class) → Described (field_descriptor t)
  described field.Boolean i apart = a_letter 90 refl refl
  described field.Byte i apart = a_letter 66 refl refl
  described field.Char i apart = a_letter 67 refl refl
  described field.Short i apart = a_letter 83 refl refl
  described field.Int i apart = a_letter 73 refl refl
  described field.Long i apart = a_letter 74 refl refl
  described field.Float i apart = a_letter 70 refl refl
  described field.Double i apart = a_letter 68 refl refl
  described (field.Reference m) i apart =
      let d : field_descriptor (field.Reference m) ≡ 76 ∷ m ++ codes ";" = ap (λ b. if b then m else codes "L" ++ m ++ codes ";") i.no_array in
      subst Described (sym d) (a_class m (apart m refl))

  repeated : (k : ℕ) (d : List ℕ) → Described d → Described (replicate k 91 ++ d)
  repeated zero d i = i
  repeated (suc k) d i = an_array (replicate k 91 ++ d) (repeated k d i)

  -- an array type, whose innermost class isn't the context
  pub record IsReadArray (n : List ℕ) : Type 0 where
    pub element : List ℕ
    pub is : n ≡ 91 ∷ element
    pub described : Described element

  pub read_array : (n : List ℕ) (a : IsArrayName n) → ((m : List ℕ) → a.element ≡ field.Reference m → m ≢ context_class) → IsReadArray n
  read_array n a apart = by a.dimensions a.some a.is
    where
      by : (k : ℕ) → 0 < k → n ≡ replicate k 91 ++ field_descriptor a.element → IsReadArray n
      by zero some is = absurd (omega arith)
      by (suc k) some is = record { element = replicate k 91 ++ field_descriptor a.element; is = is; described = repeated k (field_descriptor a.element) (described a.element a.is_element apart) }

  -- ---- types by their numbers

  -- the row of a type's number has its name
  record IsTypeAt (n : List ℕ) (t : ℕ) : Type 0 where
    row : Row
    place : ℕ
    number : t ≡ suc place
    there : slice_get (rows cs) place ≡ Some row
    name : row.name ≡ n

  type_at : (n : List ℕ) (t : ℕ) → type_number (rows cs) n ≡ Some t → IsTypeAt n t
  type_at n t e = go (position (λ (r : Row). bytes_eq r.name n) (rows cs)) refl e
    where
      go : (o : Option ℕ) → position (λ (r : Row). bytes_eq r.name n) (rows cs) ≡ o → option_map suc o ≡ Some t → IsTypeAt n t
      go None f e = cc
      go (Some p) f e =
          let x = placed (λ (r : Row). bytes_eq r.name n) (rows cs) p f in
          record { row = x.0; place = p; number = cc; there = x.1; name = (bytes_eq-Decides x.0.name n).0 x.2 }

  not_empty : (n : List ℕ) → is_class_name n ≡ true → n ≡ [] → ⊥
  not_empty [] e s = cc
  not_empty (c ∷ n) e s = cc

  -- ---- objects

  can_make : (n : List ℕ) (t : ℕ) (at : IsTypeAt n t) (ds : List DeclaredWord) → at.row.holds ≡ Words ds → at.row.read ≡ at.row.name → is_class_name at.row.name ≡ true → CanMake P t false
  can_make n t at ds holds reads named =
      let c = class_of_row cs P read rows_are types at.row (at.place, at.there) ds holds reads named in
      let r = class_is_read P types at.row ds c in
      record {
        row = at.row;
        there = subst (λ t. row_at P t ≡ Some at.row) (sym at.number) (row_there cs P read rows_are types at.place at.row at.there);
        known = subst (IsKnownName P) (sym reads) (record { itself = r.itself; array = λ e. r.read });
        holds = subst (IsMadeOf false at.row) (sym holds) reads;
      }

  array_name : (n : List ℕ) → IsAt primitive_arrays n → is_array_name n ≡ true
  array_name n h = item (λ n. is_array_name n ≡ true) primitive_arrays n (refl, (refl, (refl, (refl, (refl, (refl, tt)))))) h

  module _ (made : AllByRecursion (IsMade cs) (made_arrays cs)) where
    pub array_named : (n : List ℕ) → IsAt primitive_arrays n ⊎ IsAt (made_arrays cs) n → is_array_name n ≡ true
    array_named n (inl h) = array_name n h
    array_named n (inr h) = ap is_array_name (item (IsMade cs) (made_arrays cs) n made h).over

    pub new_object : (n : List ℕ) (t : ℕ) → type_number (rows cs) n ≡ Some t → is_array_name n ≡ false → (n ≡ [] → ⊥) → CanMake P t false
    new_object n t e plain filled = by (row_kind cs at.row (at.place, at.there))
      where
        at : IsTypeAt n t
        at = type_at n t e

        of_class : (c : ClassFile) → IsAt cs c → (b : Bool) → is_interface c ≡ b → class_row cs c ≡ at.row → CanMake P t false
        of_class c h true is same =
            let empty : (class_row cs c).name ≡ [] = rw is refl in
            absurd (filled (sym at.name ∙ ap (λ (r : Row). r.name) (sym same) ∙ empty))
        of_class c h false is same =
            let holds : (class_row cs c).holds ≡ Words (words_upward cs (own_name c)) = rw is refl in
            let name : (class_row cs c).name ≡ own_name c = rw is refl in
            let reads = plain_row cs c is in
            can_make n t at (words_upward cs (own_name c)) (ap (λ (r : Row). r.holds) (sym same) ∙ holds) (ap (λ (r : Row). r.read) (sym same) ∙ reads ∙ sym name ∙ ap (λ (r : Row). r.name) same)
            (ap (λ (r : Row). is_class_name r.name) (sym same) ∙ ap is_class_name name ∙ class_names cs read h.0 c h.1)

        by : RowOf cs at.row → CanMake P t false
        by (of_library_row h) = let p = item IsPlainRow library_rows at.row library_plain h in can_make n t at [] p.empty p.read p.named
        by (of_class_row c h is) = of_class c h (is_interface c) refl is
        by (of_base words is) = absurd (filled (sym at.name ∙ ap (λ (r : Row). r.name) (sym is)))
        by (of_array_row a h is) =
            let same : a ≡ n = ap (λ (r : Row). r.name) is ∙ at.name in
            let fall : true ≡ false = sym (array_named a h) ∙ ap is_array_name same ∙ plain in
            cc

    -- ---- arrays

    pub new_arrays : (n : List ℕ) (t : ℕ) → type_number (rows cs) n ≡ Some t → IsReadArray n → CanMake P t true
    new_arrays n t e a = by (row_kind cs at.row (at.place, at.there))
      where
        at : IsTypeAt n t
        at = type_at n t e

        no_class : is_class_name at.row.name ≡ true → ⊥
        no_class f = let fall : true ≡ false = sym f ∙ ap is_class_name (at.name ∙ a.is) in cc

        no_empty : at.row.name ≡ [] → ⊥
        no_empty f = let fall : [] ≡ 91 ∷ a.element = sym f ∙ at.name ∙ a.is in cc

        of_class : (c : ClassFile) → IsAt cs c → (b : Bool) → is_interface c ≡ b → class_row cs c ≡ at.row → ⊥
        of_class c h true is same = let empty : (class_row cs c).name ≡ [] = rw is refl in no_empty (ap (λ (r : Row). r.name) (sym same) ∙ empty)
        of_class c h false is same =
            let name : (class_row cs c).name ≡ own_name c = rw is refl in
            no_class (ap (λ (r : Row). is_class_name r.name) (sym same) ∙ ap is_class_name name ∙ class_names cs read h.0 c h.1)

        by : RowOf cs at.row → CanMake P t true
        by (of_library_row h) = absurd (no_class (item IsPlainRow library_rows at.row library_plain h).named)
        by (of_class_row c h is) = absurd (of_class c h (is_interface c) refl is)
        by (of_base words is) = absurd (no_empty (ap (λ (r : Row). r.name) (sym is)))
        by (of_array_row m h is) =
            let same : m ≡ 91 ∷ a.element = ap (λ (r : Row). r.name) is ∙ at.name ∙ a.is in
            let reads : at.row.read ≡ 91 ∷ descriptor_read cs a.element = ap (λ (r : Row). r.read) (sym is) ∙ ap (descriptor_read cs) same in
            let r = array_reads cs P read rows_are types a.element a.described in
            record {
              row = at.row;
              there = subst (λ t. row_at P t ≡ Some at.row) (sym at.number) (row_there cs P read rows_are types at.place at.row at.there);
              known = subst (IsKnownName P) (sym reads) (record { itself = r.itself; array = λ e. r.read });
              holds = subst (λ (r : Row). IsMadeOf true r r.holds) is tt;
            }

    -- ---- instructions

    module _ (d : Declared) (taken : IsAt (taken_methods cs) d) (k : Method) (i : Instr) (clean : IsClean cs d i) where
      abbrev s : Symbols
      s = original_symbols cs d.class

      abbrev IsGood : Option Op → Type 0
      IsGood o = Fine P k o

      -- a known class isn't the context, and has a name
      known_apart : (m : List ℕ) → is_known cs m ≡ true → m ≢ context_class
      known_apart m known same =
          let none : is_known cs m ≡ false = ap (is_known cs) same ∙ ap (λ (o : Option ClassFile). is_some o || is_library context_class) (no_context cs read) in
          let fall : true ≡ false = sym known ∙ none in
          cc

      known_filled : (m : List ℕ) → is_known cs m ≡ true → m ≡ [] → ⊥
      known_filled m known same = go (class_named cs []) refl (sym (ap (is_known cs) same) ∙ known)
        where
          go : (o : Option ClassFile) → class_named cs [] ≡ o → is_known cs [] ≡ true → ⊥
          go None f e = let fall : false ≡ true = sym (ap (λ (o : Option ClassFile). is_some o || is_library []) f) ∙ e in cc
          go (Some c) f e = let a = named_as cs [] c f in not_empty (own_name c) (class_names cs read a.0.0 c a.0.1) a.1

      known_name : (m : List ℕ) → is_array_name m ≡ false → unknown_in cs (Some m) ≡ None → is_known cs m ≡ true
      known_name m plain e = known_is cs m (ap (λ b. unknown_core cs (if b then reference_name (type_of (drop (brackets m) m)) else Some m)) (sym plain) ∙ e)

      -- the array of a class, or of an array, that is named
      over : (m : List ℕ) → (is_array_name m ≡ true → IsArrayName m) → unknown_in cs (Some m) ≡ None → IsReadArray (array_over m)
      over m form e = go (is_array_name m) refl
        where
          inner : is_array_name m ≡ true → unknown_core cs (reference_name (type_of (drop (brackets m) m))) ≡ None
          inner is = ap (λ b. unknown_core cs (if b then reference_name (type_of (drop (brackets m) m)) else Some m)) (sym is) ∙ e

          apart : (is : is_array_name m ≡ true) (a : IsArrayName m) (c : List ℕ) → a.element ≡ field.Reference c → c ≢ context_class
          apart is a c same =
              let class : IsClassName c = subst descriptor.IsElement same a.is_element in
              let text : field_descriptor a.element ≡ 76 ∷ c ++ codes ";" = ap field_descriptor same ∙ ap (λ b. if b then c else codes "L" ++ c ++ codes ";") class.no_array in
              let plain_text : brackets (field_descriptor a.element) ≡ 0 = ap brackets text in
              let core : drop (brackets m) m ≡ 76 ∷ c ++ codes ";" =
              ap (λ n. drop (brackets n) n) a.is ∙ ap (λ j. drop j (replicate a.dimensions 91 ++ field_descriptor a.element)) (all_brackets a.dimensions (field_descriptor a.element) plain_text) ∙ behind_brackets a.dimensions (field_descriptor a.element) ∙ text in
              let known : unknown_core cs (Some c) ≡ None = sym (ap (λ d. unknown_core cs (reference_name (type_of d))) core ∙ ap (λ (t : FieldType). unknown_core cs (reference_name t)) (class_type cs example refl c)) ∙ inner is in
              known_apart c (known_is cs c known)
            where
              example : Program
              example = record { types = rows cs; texts = []; fields = []; methods = [] }

          go : (b : Bool) → is_array_name m ≡ b → IsReadArray (array_over m)
          go true is =
              let a = form is in
              let r = read_array m a (apart is a) in
              let laid : array_over m ≡ 91 ∷ m = ap (λ b. 91 ∷ (if b then m else codes "L" ++ m ++ codes ";")) is in
              record { element = m; is = laid; described = subst Described (sym r.is) (an_array r.element r.described) }
          go false is =
              let laid : array_over m ≡ 91 ∷ 76 ∷ m ++ codes ";" = ap (λ b. 91 ∷ (if b then m else codes "L" ++ m ++ codes ";")) is in
              record { element = 76 ∷ m ++ codes ";"; is = laid; described = a_class m (known_apart m (known_name m is e)) }

      array_fine : (n : List ℕ) → IsReadArray n → IsGood (new_array s n)
      array_fine n a = mapped P k op.NewArray (type_number s.types n) (λ t e. new_arrays n t e a)

      of_letter : (x : ℕ) → (x == 91) ≡ false → (x == 76) ≡ false → IsReadArray (91 ∷ x ∷ [])
      of_letter x a b = record { element = x ∷ []; is = refl; described = a_letter x a b }

      pub primitive_fine : (n : ℤ) → IsGood (option_and_then (new_array s) (primitive_array n))
      primitive_fine (negsuc n) = nothing P k
      primitive_fine (pos n) =
          by (n == 4) (codes "[Z") _ (of_letter 90 refl refl) (by (n == 5) (codes "[C") _ (of_letter 67 refl refl) (by (n == 8) (codes "[B") _ (of_letter 66 refl refl)
          (by (n == 9) (codes "[S") _ (of_letter 83 refl refl) (by (n == 10) (codes "[I") _ (of_letter 73 refl refl) (by (n == 11) (codes "[J") None (of_letter 74 refl refl) (nothing P k))))))
        where
          by : (b : Bool) (m : List ℕ) (o : Option (List ℕ)) → IsReadArray m → IsGood (option_and_then (new_array s) o) → IsGood (option_and_then (new_array s) (if b then Some m else o))
          by true m o a rest = array_fine m a
          by false m o a rest = rest

      pub class_fine : (j : ℕ) (n : List ℕ) → index_of i.operands ≡ Some j → class_name d.class.pool j ≡ Some n → IsGood (class_op s i.op n)
      class_fine j n at e =
          when P k (i.op == 187) _ _ (λ t. mapped P k op.New (type_number s.types n) (λ x f. objects t x f))
          (λ u. when P k (i.op == 189) _ _ (λ t. array_fine (array_over n) (over n (λ is. formed d.class.pool pool_fits j n e is) (named 189 t refl)))
          (λ u. when P k (i.op == 192) _ _ (λ t. leaf P k (op.CheckCast n) (cast_known cs P read rows_are types made n (λ is. formed d.class.pool pool_fits j n e is) (λ is. known_filled n (known_name n is (named 192 t refl)))))
          (λ u. plain P k (i.op == 193) (op.InstanceOf n) None tt (nothing P k))))
        where
          pool_fits : AllByRecursion (IsConstant d.class.pool) d.class.pool
          pool_fits = (is_file cs read d.class (of_methods cs d (in_methods cs d taken)).0).pool.entries

          class_is : (c : ℕ) → (i.op == c) ≡ true → ((c == 187) || (c == 189) || (c == 192) || (c == 193)) ≡ true → named_class d.class.pool i ≡ Some n
          class_is c t one =
              ap (λ o. if (o == 187) || (o == 189) || (o == 192) || (o == 193) then option_and_then (class_name d.class.pool) (index_of i.operands) else None) ((Decides-eqb i.op c).0 t)
              ∙ ap (λ b. if b then option_and_then (class_name d.class.pool) (index_of i.operands) else None) one ∙ ap (option_and_then (class_name d.class.pool)) at ∙ e

          named : (c : ℕ) → (i.op == c) ≡ true → ((c == 187) || (c == 189) || (c == 192) || (c == 193)) ≡ true → unknown_in cs (Some n) ≡ None
          named c t one = ap (unknown_in cs) (sym (class_is c t one)) ∙ clean.known

          no_first : (a b : Bool) → (a || b) ≡ false → a ≡ false
          no_first true b e = cc
          no_first false b e = refl

          objects : (i.op == 187) ≡ true → (x : ℕ) → type_number s.types n ≡ Some x → CanMake P x false
          objects t x f =
              let bad : is_bad_new cs i.op n ≡ false = ap (holds_of (is_bad_new cs i.op)) (sym (class_is 187 t refl)) ∙ clean.new in
              let new : (has_no_object cs n || false) ≡ false = ap (λ c. (c == 187) && has_no_object cs n || (c == 189) && nat_lt 254 (brackets n)) (sym ((Decides-eqb i.op 187).0 t)) ∙ bad in
              let none = no_first (has_no_object cs n) false new in
              let plain_name = no_first (is_array_name n) _ none in
              new_object n x f plain_name (known_filled n (known_name n plain_name (named 187 t refl)))
