-- A method descriptor that is read is one, and a method descriptor is read.
use Rattle.std.proofs.Common.{◌≡◌, ℕ, zero, suc, ◌<◌, ◌≤◌, Bool, true, false, cond, eqb, ltb, List, [], ◌∷◌, ◌++◌, length, Option, Some, None, refl, sym, ap, subst, ◌∙◌, append_assoc, arith}
use Rattle.std.specs.Prelude.{is_some, option_and_then, option_map, IfSome}
use Rattle.std.specs.List.{AllByRecursion, flat_map}
use Rattle.std.proofs.lemmas.Bool.{eqb-true, ltb-false, le-ltb}
use Rattle.std.proofs.lemmas.List.{nil_from_length}
use Rattle.jmodel.specs.declared.class_file.FieldType.{FieldType}
use Rattle.jmodel.specs.declared.class_file.FieldType.TheVariants.{Boolean, Byte, Char, Short, Int, Long, Float, Double, Reference}
use Rattle.jmodel.specs.format.Descriptor.{is_array_name, field_descriptor, IsFieldType, IsReferenceName, places, places_of, Signature, result_descriptor, method_descriptor, DescribesMethod, IsFieldDescriptor, IsMethodDescriptor}
use Rattle.jmodel.specs.format.DescriptorReading.{type_rest, is_field_descriptor, type_of, before, with_first, closing, closed_or, types_at, result_of, signature_from, signature_of, is_method_descriptor}
use Rattle.const_pool.proofs.Types.{type_found, type_again, of_type, before_is, field_found, field_again, element_plain}

-- what a step over an option that isn't empty gave
some_step : {A B : Type 0} (o : Option A) (f : A → Option B) (y : B) → option_and_then f o ≡ Some y → (x : A) × (o ≡ Some x) × (f x ≡ Some y)
some_step None f y e = absurd cc
some_step (Some x) f y e = (x, refl, e)

some_map : {A B : Type 0} (f : A → B) (o : Option A) (y : B) → option_map f o ≡ Some y → (x : A) × (o ≡ Some x) × (f x ≡ y)
some_map f None y e = absurd cc
some_map f (Some x) y e = (x, refl, cc)

closed : (bytes rest : List ℕ) → closing bytes ≡ Some rest → bytes ≡ 41 ∷ rest
closed [] rest e = absurd cc
closed (c ∷ cs) rest e = by_test (eqb c 41) refl e where
  by_test : (b : Bool) → eqb c 41 ≡ b → cond b (Some cs) None ≡ Some rest → c ∷ cs ≡ 41 ∷ rest
  by_test true p h = let r : cs ≡ rest = cc in ap (λ (d : ℕ). d ∷ cs) (eqb-true c 41 p) ∙ ap (λ (xs : List ℕ). 41 ∷ xs) r
  by_test false p h = absurd cc

-- types, a parenthesis, and a rest
pub record TypesAt (bytes : List ℕ) (ts : List FieldType) (rest : List ℕ) : Type 0 where
  pub is : bytes ≡ flat_map field_descriptor ts ++ 41 ∷ rest
  pub fit : AllByRecursion IsFieldType ts

pub types_found : (n : ℕ) (bytes : List ℕ) (x : List FieldType × List ℕ) → types_at n bytes ≡ Some x → TypesAt bytes x.0 x.1
unfolding types_at
types_found zero bytes x e = absurd cc
types_found (suc n) bytes x e = by_end (closing bytes) refl e (λ rest y h. types_found n rest y h) where
  by_end : (o : Option (List ℕ)) → closing bytes ≡ o → closed_or o (option_and_then (λ rest. with_first (type_of (before bytes rest)) (types_at n rest)) (type_rest bytes)) ≡ Some x
      → ((rest : List ℕ) (y : List FieldType × List ℕ) → types_at n rest ≡ Some y → TypesAt rest y.0 y.1) → TypesAt bytes x.0 x.1
  by_end (Some rest) p h others =
      let made : List FieldType × List ℕ = ([], rest) in
      let is : made ≡ x = cc in
      subst (λ (y : List FieldType × List ℕ). TypesAt bytes y.0 y.1) is (record { is = closed bytes rest p; fit = tt })
  by_end None p h others =
      let a = some_step (type_rest bytes) (λ rest. with_first (type_of (before bytes rest)) (types_at n rest)) x h in
      let b = some_map (λ p. (type_of (before bytes a.0) ∷ p.0, p.1)) (types_at n a.0) x a.2 in
      let t = type_found bytes a.0 a.1 in
      let ts = others a.0 b.0 b.1 in
      let text : before bytes a.0 ≡ field_descriptor t.type = ap (λ (xs : List ℕ). before xs a.0) t.is ∙ before_is (field_descriptor t.type) a.0 in
      let type : type_of (before bytes a.0) ≡ t.type = ap type_of text ∙ of_type t.type t.fits in
      let whole : bytes ≡ flat_map field_descriptor (t.type ∷ b.0.0) ++ 41 ∷ b.0.1 = t.is ∙ ap (λ (xs : List ℕ). field_descriptor t.type ++ xs) ts.is ∙ sym (append_assoc (field_descriptor t.type) (flat_map field_descriptor b.0.0) (41 ∷ b.0.1)) in
      let made : TypesAt bytes (type_of (before bytes a.0) ∷ b.0.0) b.0.1 = subst (λ (u : FieldType). TypesAt bytes (u ∷ b.0.0) b.0.1) (sym type) (record { is = whole; fit = (t.fits, ts.fit) }) in
      subst (λ (y : List FieldType × List ℕ). TypesAt bytes y.0 y.1) b.2 made

-- the front of a type's descriptor
reference_front : (b : Bool) (name : List ℕ) → is_array_name name ≡ b → IsReferenceName b name → (c : ℕ) × (cs : List ℕ) × (field_descriptor (Reference name) ≡ c ∷ cs) × (eqb c 41 ≡ false) × (eqb c 86 ≡ false)
reference_front true [] a h = absurd cc
reference_front true (c ∷ cs) a h = (91, cs, rw a (ap (λ (d : ℕ). d ∷ cs) (eqb-true c 91 a)), refl, refl)
reference_front false name a h = let e = element_plain (Reference name) h in (e.0, e.1, e.2, e.4, e.5)

type_front : (t : FieldType) → IsFieldType t → (c : ℕ) × (cs : List ℕ) × (field_descriptor t ≡ c ∷ cs) × (eqb c 41 ≡ false) × (eqb c 86 ≡ false)
type_front Boolean h = (90, [], refl, refl, refl)
type_front Byte h = (66, [], refl, refl, refl)
type_front Char h = (67, [], refl, refl, refl)
type_front Short h = (83, [], refl, refl, refl)
type_front Int h = (73, [], refl, refl, refl)
type_front Long h = (74, [], refl, refl, refl)
type_front Float h = (70, [], refl, refl, refl)
type_front Double h = (68, [], refl, refl, refl)
type_front (Reference name) h = reference_front (is_array_name name) name refl h

pub types_again : (ts : List FieldType) (rest : List ℕ) (n : ℕ) → AllByRecursion IsFieldType ts → length ts < n → types_at n (flat_map field_descriptor ts ++ 41 ∷ rest) ≡ Some (ts, rest)
unfolding types_at
types_again ts rest zero fit lt = absurd (omega arith)
types_again [] rest (suc n) fit lt = refl
types_again (t ∷ ts) rest (suc n) fit lt =
    let others : List ℕ = flat_map field_descriptor ts ++ 41 ∷ rest in
    let is : flat_map field_descriptor (t ∷ ts) ++ 41 ∷ rest ≡ field_descriptor t ++ others = append_assoc (field_descriptor t) (flat_map field_descriptor ts) (41 ∷ rest) in
    let f = type_front t fit.0 in
    let open_ : closing (field_descriptor t ++ others) ≡ None = ap closing (ap (λ (xs : List ℕ). xs ++ others) f.2) ∙ rw f.3 refl in
    let text = before_is (field_descriptor t) others in
    let rest_is = type_again t others fit.0 in
    ap (types_at (suc n)) is ∙ rw (open_, rest_is, text, of_type t fit.0, types_again ts rest n fit.1 (omega arith)) refl

-- ---- results

result_found : (bytes : List ℕ) (r : Option FieldType) → result_of bytes ≡ Some r → IfSome r IsFieldType × (bytes ≡ result_descriptor r)
unfolding result_of
result_found [] r e = absurd cc
result_found (c ∷ cs) r e = by_void (eqb c 86) refl e where
  by_type : (b : Bool) → is_field_descriptor (c ∷ cs) ≡ b → cond b (Some (Some (type_of (c ∷ cs)))) None ≡ Some r → IfSome r IsFieldType × (c ∷ cs ≡ result_descriptor r)
  by_type true p h =
      let f = field_found (c ∷ cs) p in
      let is : Some (type_of (c ∷ cs)) ≡ r = cc in
      subst (λ (o : Option FieldType). IfSome o IsFieldType × (c ∷ cs ≡ result_descriptor o)) (ap (λ (t : FieldType). Some t) (sym f.2) ∙ is) (f.1.type, f.1.is)
  by_type false p h = absurd cc

  by_end : (b : Bool) → eqb (length cs) 0 ≡ b → eqb c 86 ≡ true → cond b (Some None) None ≡ Some r → IfSome r IsFieldType × (c ∷ cs ≡ result_descriptor r)
  by_end true p v h =
      let is : None ≡ r = cc in
      let none : cs ≡ [] = nil_from_length cs (eqb-true _ _ p) in
      subst (λ (o : Option FieldType). IfSome o IsFieldType × (c ∷ cs ≡ result_descriptor o)) is (tt, ap (λ (d : ℕ). d ∷ cs) (eqb-true c 86 v) ∙ ap (λ (xs : List ℕ). 86 ∷ xs) none)
  by_end false p v h = absurd cc

  by_void : (b : Bool) → eqb c 86 ≡ b → cond b (cond (eqb (length cs) 0) (Some None) None) (cond (is_field_descriptor (c ∷ cs)) (Some (Some (type_of (c ∷ cs)))) None) ≡ Some r → IfSome r IsFieldType × (c ∷ cs ≡ result_descriptor r)
  by_void true p h = by_end (eqb (length cs) 0) refl p h
  by_void false p h = by_type (is_field_descriptor (c ∷ cs)) refl h

result_again : (r : Option FieldType) → IfSome r IsFieldType → result_of (result_descriptor r) ≡ Some r
unfolding result_of
result_again None h = refl
result_again (Some t) h =
    let f = type_front t h in
    let yes = field_again (field_descriptor t) t (record { type = h; is = refl }) in
    let yes' : is_field_descriptor (f.0 ∷ f.1) ≡ true = ap is_field_descriptor (sym f.2) ∙ yes in
    let type : type_of (f.0 ∷ f.1) ≡ t = ap type_of (sym f.2) ∙ of_type t h in
    ap result_of f.2 ∙ rw (f.4, yes', type) refl

-- ---- whole method descriptors

pub signature_found : (bytes : List ℕ) (s : Signature) → signature_of bytes ≡ Some s → DescribesMethod bytes s
unfolding signature_of
signature_found [] s e = absurd cc
signature_found (c ∷ cs) s e = by_open (eqb c 40) refl e where
  by_places : (p : List FieldType × List ℕ) → types_at 256 cs ≡ Some p → eqb c 40 ≡ true → (b : Bool) → ltb 255 (places_of p.0) ≡ b → cond b None (option_map (λ r. record { parameters = p.0; result = r }) (result_of p.1)) ≡ Some s → DescribesMethod (c ∷ cs) s
  by_places p t o true l h = absurd cc
  by_places p t o false l h =
      let ts = types_found 256 cs p t in
      let m = some_map {B = Signature} (λ r. record { parameters = p.0; result = r }) (result_of p.1) s h in
      let r = result_found p.1 m.0 m.1 in
      let made : Signature = record { parameters = p.0; result = m.0 } in
      let whole : c ∷ cs ≡ method_descriptor made = ap (λ (d : ℕ). d ∷ cs) (eqb-true c 40 o) ∙ ap (λ (xs : List ℕ). 40 ∷ xs) (ts.is ∙ ap (λ (xs : List ℕ). flat_map field_descriptor p.0 ++ 41 ∷ xs) r.1 ∙ sym (append_assoc (flat_map field_descriptor p.0) (41 ∷ []) (result_descriptor m.0))) in
      subst (DescribesMethod (c ∷ cs)) m.2 (record { signature = record { parameters = ts.fit; result = r.0; few = ltb-false 255 (places_of p.0) l }; is = whole })

  by_types : (o : Option (List FieldType × List ℕ)) → types_at 256 cs ≡ o → eqb c 40 ≡ true → signature_from o ≡ Some s → DescribesMethod (c ∷ cs) s
  by_types None t o h = absurd cc
  by_types (Some p) t o h = by_places p t o (ltb 255 (places_of p.0)) refl h

  by_open : (b : Bool) → eqb c 40 ≡ b → cond b (signature_from (types_at 256 cs)) None ≡ Some s → DescribesMethod (c ∷ cs) s
  by_open true p h = by_types (types_at 256 cs) refl p h
  by_open false p h = absurd cc

place_some : (t : FieldType) → 0 < places t
place_some Boolean = omega arith
place_some Byte = omega arith
place_some Char = omega arith
place_some Short = omega arith
place_some Int = omega arith
place_some Long = omega arith
place_some Float = omega arith
place_some Double = omega arith
place_some (Reference name) = omega arith

few_types : (ts : List FieldType) → length ts ≤ places_of ts
few_types [] = omega arith
few_types (t ∷ ts) = omega (arith, place_some t, few_types ts)

pub signature_again : (bytes : List ℕ) (s : Signature) → DescribesMethod bytes s → signature_of bytes ≡ Some s
unfolding signature_of
signature_again bytes s d =
    let rest : List ℕ = flat_map field_descriptor s.parameters ++ 41 ∷ result_descriptor s.result in
    let is : bytes ≡ 40 ∷ rest = d.is ∙ ap (λ (xs : List ℕ). 40 ∷ xs) (append_assoc (flat_map field_descriptor s.parameters) (41 ∷ []) (result_descriptor s.result)) in
    let ts = types_again s.parameters (result_descriptor s.result) 256 d.signature.parameters (omega (arith, few_types s.parameters, d.signature.few)) in
    ap signature_of is ∙ rw (ts, le-ltb 255 (places_of s.parameters) d.signature.few, result_again s.result d.signature.result) refl

-- ---- the tests

pub is_field : (bytes : List ℕ) → is_field_descriptor bytes ≡ true → IsFieldDescriptor bytes
is_field bytes e = let f = field_found bytes e in (f.0, f.1)

pub field_is : (bytes : List ℕ) → IsFieldDescriptor bytes → is_field_descriptor bytes ≡ true
field_is bytes h = field_again bytes h.0 h.1

pub is_method : (bytes : List ℕ) → is_method_descriptor bytes ≡ true → IsMethodDescriptor bytes
is_method bytes e = by_option (signature_of bytes) refl e where
  by_option : (o : Option Signature) → signature_of bytes ≡ o → is_some o ≡ true → IsMethodDescriptor bytes
  by_option None p h = absurd cc
  by_option (Some s) p h = (s, signature_found bytes s p)

pub method_is : (bytes : List ℕ) → IsMethodDescriptor bytes → is_method_descriptor bytes ≡ true
method_is bytes h = ap is_some (signature_again bytes h.0 h.1)
