-- The array types that taken methods make have elements that the program knows.
use Rattle.std.proofs.Common.{◌≡◌, ℕ, zero, suc, ◌<◌, List, [], ◌∷◌, ◌++◌, map, drop, replicate, Option, Some, None, Bool, true, false, refl, sym, ap, subst, ◌∙◌, arith}
use Rattle.std.specs.Prelude.{slice_get, filter, is_some, ◌||◌, codes, if◌then◌else◌}
use Rattle.std.specs.List.{AllByRecursion}
use Rattle.jmodel.specs.declared.class_file.FieldType.{FieldType}
use Rattle.jmodel.specs.declared.class_file.FieldType.TheVariants as types
use Rattle.jmodel.specs.declared.refusal.Refusal.TheVariants.{UnknownClass}
use Rattle.jmodel.specs.format.ClassFile.{ClassFile}
use Rattle.jmodel.specs.format.Descriptor.{is_array_name, field_descriptor, IsElement as IsElementType, IsArrayName}
use Rattle.jmodel.specs.format.DescriptorReading.{brackets, type_of}
use Rattle.objects.specs.linking.Members.{own_name}
use Rattle.objects.specs.linking.Superclasses.{class_named}
use Rattle.objects.specs.linking.Classes.{doubled_class}
use Rattle.objects.specs.semantics.Program.{Row, Field, Method, Program}
use Rattle.objects.specs.linking.LibraryMethods.{is_library}
use Rattle.objects.specs.typing.TypeOrder.{object_class, context_class, is_class_name, descriptor_of}
use Rattle.objects.specs.linking.Resolution.{is_interface, is_known}
use Rattle.objects.specs.linking.Constructs.{reference_name, unknown_core, unknown_in}
use Rattle.objects.specs.linking.ClassesFaults.{supers_fault}
use Rattle.objects.specs.laws.LinkingLaw.{IsUpward}
use Rattle.objects.specs.linking.StaticBases.{has_base}
use Rattle.objects.specs.typing.TypeOrder as typing
use Rattle.objects.specs.linking.Layout.{array_over, nameless, base_rows, static_words, array_row, primitive_arrays, class_instances}
use Rattle.objects.proofs.ArrayTypes.{IsKnown, plain, interface, library, known_read}
use Rattle.objects.proofs.ClassTypes.{IsAboveAs}
use Rattle.objects.proofs.ArrayElements.{IsNameIn, IsKnownIn, IsElement, letter, of_class, of_array, IsHeld, class_type, class_held, array_held}
use Rattle.objects.proofs.FolderRows.{all_to, all_append, behind, Q, object_read, IsArrayOf}
use Rattle.objects.proofs.MadeArrays.{IsMade}

-- ---- brackets

pub all_brackets : (k : ℕ) (d : List ℕ) → brackets d ≡ 0 → brackets (replicate k 91 ++ d) ≡ k
all_brackets zero d e = e
all_brackets (suc k) d e = let r = all_brackets k d e in omega (arith, r)

pub behind_brackets : (k : ℕ) (d : List ℕ) → drop k (replicate k 91 ++ d) ≡ d
behind_brackets zero d = refl
behind_brackets (suc k) d = behind_brackets k d

-- ---- known names

pub known_is : (cs : List ClassFile) (n : List ℕ) → unknown_core cs (Some n) ≡ None → is_known cs n ≡ true
known_is cs n e = go (is_known cs n) e
  where
    go : (b : Bool) → (if b then None else Some (UnknownClass n)) ≡ None → b ≡ true
    go true e = refl
    go false e = cc

module _ (cs : List ClassFile) (fine : supers_fault cs ≡ None) (new : doubled_class cs ≡ None) (no_context : class_named cs context_class ≡ None)
    (rest : List Row) (others : AllByRecursion (λ (r : Row). is_class_name r.name ≡ false) rest) (texts : List ℕ) (fields : List Field) (methods : List Method)
    (up : IsUpward cs) (named : (i : ℕ) (c : ClassFile) → slice_get cs i ≡ Some c → is_class_name (own_name c) ≡ true) where
  abbrev Knows : List ℕ → Type 0
  Knows m = IsKnown cs fine new no_context rest others texts fields methods up named m

  -- a known name is one of the folder or of the library
  pub knows : (m : List ℕ) → unknown_core cs (Some m) ≡ None → Knows m
  knows m e = go (class_named cs m) refl (known_is cs m e)
    where
      by : (d : ClassFile) (b : Bool) → class_named cs m ≡ Some d → is_interface d ≡ b → Knows m
      by d true f is = interface d f is
      by d false f is = plain d f is

      go : (o : Option ClassFile) → class_named cs m ≡ o → is_known cs m ≡ true → Knows m
      go None f k = library (sym (ap (λ (o : Option ClassFile). is_some o || is_library m) f) ∙ k)
      go (Some d) f k = by d (is_interface d) f refl

-- ---- the arrays of a folder's program

module _ (cs : List ClassFile) (fine : supers_fault cs ≡ None) (new : doubled_class cs ≡ None) (no_context : class_named cs context_class ≡ None)
    (up : IsUpward cs) (named : (i : ℕ) (c : ClassFile) → slice_get cs i ≡ Some c → is_class_name (own_name c) ≡ true) (arrays : List (List ℕ))
    (texts : List ℕ) (fields : List Field) (methods : List Method)
    (made : AllByRecursion (IsMade cs) arrays) where
  abbrev tail : List Row
  tail = behind cs fine new no_context up named arrays texts fields methods

  abbrev R : Program
  R = Q cs fine new no_context up named arrays texts fields methods

  abbrev IsNoClass : Row → Type 0
  IsNoClass r = is_class_name r.name ≡ false

  others : AllByRecursion IsNoClass tail
  others = all_append IsNoClass (base_rows cs) _ (bases (filter has_base cs)) (all_append IsNoClass (map (array_row cs) primitive_arrays) _ (refl, (refl, (refl, (refl, (refl, (refl, tt)))))) (each arrays made))
    where
      bases : (ds : List ClassFile) → AllByRecursion IsNoClass (map (λ c. nameless (static_words cs c)) ds)
      bases [] = tt
      bases (d ∷ ds) = (refl, bases ds)

      each : (ns : List (List ℕ)) → AllByRecursion (IsMade cs) ns → AllByRecursion IsNoClass (map (array_row cs) ns)
      each [] all = tt
      each (n ∷ ns) all = (ap is_class_name all.0.over, each ns all.1)

  abbrev read_object : typing.class_read R object_class ≡ object_class
  read_object = object_read cs fine new no_context up named arrays texts fields methods

  known_in : (m : List ℕ) → unknown_core cs (Some m) ≡ None → IsKnownIn cs R m
  known_in m e =
      let k = known_read cs fine new no_context tail others texts fields methods up named m (knows cs fine new no_context tail others texts fields methods up named m e) in
      record {
        reads = k.reads;
        named_so = k.named_so;
        name = k.name;
        laid = k.laid;
        typed = k.typed;
        instances = all_to (IsAboveAs cs fine new tail others texts fields methods up named k.reads) (IsNameIn R k.reads) (λ x a. record { class = a.class; above_it = a.above_it }) (class_instances cs m) k.instances;
        wider = k.wider;
      }

  abbrev IsOne : List ℕ → Type 0
  IsOne d = IsElement cs R read_object d

  abbrev IsArrayHere : List ℕ → Type 0
  IsArrayHere n = IsArrayOf cs fine new no_context up named arrays texts fields methods n

  -- an array over a class
  over_class : (n name : List ℕ) → is_array_name name ≡ false → unknown_in cs (Some name) ≡ None → n ≡ array_over name → IsArrayHere n
  over_class n name no_array e over =
      let core : unknown_core cs (Some name) ≡ None = ap (λ b. unknown_core cs (if b then reference_name (type_of (drop (brackets name) name)) else Some name)) (sym no_array) ∙ e in
      let k = known_in name core in
      let descriptor : descriptor_of name ≡ 76 ∷ name ++ codes ";" = ap (λ b. if b then name else codes "L" ++ name ++ codes ";") no_array in
      record { element = 76 ∷ name ++ codes ";"; is = over ∙ ap (λ (d : List ℕ). 91 ∷ d) descriptor; known = of_class name k; held = class_held cs R read_object name k }

  repeated : (k : ℕ) (d : List ℕ) → IsOne d → IsOne (replicate k 91 ++ d)
  repeated zero d i = i
  repeated (suc k) d i = of_array (replicate k 91 ++ d) (repeated k d i)

  -- the element at the core of an array
  core : (t : FieldType) → IsElementType t → brackets (field_descriptor t) ≡ 0 × (unknown_core cs (reference_name (type_of (field_descriptor t))) ≡ None → IsOne (field_descriptor t))
  core types.Boolean i = (refl, λ e. letter 90 refl refl)
  core types.Byte i = (refl, λ e. letter 66 refl refl)
  core types.Char i = (refl, λ e. letter 67 refl refl)
  core types.Short i = (refl, λ e. letter 83 refl refl)
  core types.Int i = (refl, λ e. letter 73 refl refl)
  core types.Long i = (refl, λ e. letter 74 refl refl)
  core types.Float i = (refl, λ e. letter 70 refl refl)
  core types.Double i = (refl, λ e. letter 68 refl refl)
  core (types.Reference m) i =
      let d : field_descriptor (types.Reference m) ≡ 76 ∷ m ++ codes ";" = ap (λ b. if b then m else codes "L" ++ m ++ codes ";") i.no_array in (
        ap brackets d,
        λ e.
            let u : unknown_core cs (Some m) ≡ None =
            sym (ap (λ d. unknown_core cs (reference_name (type_of d))) d ∙ ap (λ (t : FieldType). unknown_core cs (reference_name t)) (class_type cs R read_object m)) ∙ e in
            subst IsOne (sym d) (of_class m (known_in m u)),
      )

  -- an array over arrays
  over_array : (n name : List ℕ) → is_array_name name ≡ true → IsArrayName name → unknown_in cs (Some name) ≡ None → n ≡ array_over name → IsArrayHere n
  over_array n name is_array A e over = by A.dimensions A.some A.is
    where
      c : brackets (field_descriptor A.element) ≡ 0 × (unknown_core cs (reference_name (type_of (field_descriptor A.element))) ≡ None → IsOne (field_descriptor A.element))
      c = core A.element A.is_element

      inner : unknown_core cs (reference_name (type_of (drop (brackets name) name))) ≡ None
      inner = ap (λ b. unknown_core cs (if b then reference_name (type_of (drop (brackets name) name)) else Some name)) (sym is_array) ∙ e

      by : (k : ℕ) → 0 < k → name ≡ replicate k 91 ++ field_descriptor A.element → IsArrayHere n
      by zero some is = absurd (omega arith)
      by (suc k) some is =
          let fd = field_descriptor A.element in
          let core_is : drop (brackets name) name ≡ fd = ap (λ n. drop (brackets n) n) is ∙ ap (λ m. drop m (replicate (suc k) 91 ++ fd)) (all_brackets (suc k) fd c.0) ∙ behind_brackets (suc k) fd in
          let one : IsOne fd = c.1 (ap (λ d. unknown_core cs (reference_name (type_of d))) (sym core_is) ∙ inner) in
          let descriptor : descriptor_of name ≡ name = ap (λ b. if b then name else codes "L" ++ name ++ codes ";") is_array in
          record {
            element = name;
            is = over ∙ ap (λ (d : List ℕ). 91 ∷ d) descriptor;
            known = subst IsOne (sym is) (repeated (suc k) fd one);
            held = subst (IsHeld cs R read_object) (sym is) (array_held cs R read_object (replicate k 91 ++ fd) (repeated k fd one));
          }

  one_array : (n : List ℕ) → IsMade cs n → IsArrayHere n
  one_array n m = go (is_array_name m.name) refl
    where
      go : (b : Bool) → is_array_name m.name ≡ b → IsArrayHere n
      go true is = over_array n m.name is (m.formed is) m.known m.over
      go false is = over_class n m.name is m.known m.over

  -- The array types that taken methods make are over what the program knows.
  pub arrays_known : AllByRecursion IsArrayHere arrays
  arrays_known = all_to (IsMade cs) IsArrayHere one_array arrays made
