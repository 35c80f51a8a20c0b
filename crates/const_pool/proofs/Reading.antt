-- Steps of reading a descriptor's types.
use Rattle.std.proofs.Common.{◌≡◌, ℕ, suc, ◌+◌, ◌-◌, ◌<◌, ◌≤◌, Bool, true, false, cond, eqb, ltb, List, [], ◌∷◌, ◌++◌, length, drop, Option, Some, None, Result, Ok, Err, refl, sym, ap, subst, ◌∙◌, append_assoc, arith}
use Rattle.std.specs.Prelude.{is_some, option_map, pos, IfOk}
use Rattle.std.proofs.lemmas.List.{append-nil}
use Rattle.std.proofs.lemmas.Bool.{eqb-true}
use Rattle.jmodel.specs.declared.class_file.FieldType.{FieldType}
use Rattle.jmodel.specs.declared.refusal.Refusal.TheVariants.{BadDescriptor}
use Rattle.jmodel.specs.declared.refusal.Halt.{Halt}
use Rattle.jmodel.specs.format.Descriptor.{Signature, places_of, DescribesMethod}
use Rattle.jmodel.specs.format.Reading.{Gives}
use Rattle.jmodel.specs.format.DescriptorReading.{closing, type_rest, type_of, before, with_first, types_at, result_of, is_field_descriptor, signature_from, signature_of, is_method_descriptor, signature_or}
use Rattle.const_pool.specs.Results.{result_in, made_of}
use Rattle.const_pool.proofs.Signatures.{signature_found}

abbrev pub with_types : List FieldType → Option (List FieldType × List ℕ) → Option (List FieldType × List ℕ)
with_types front None = None
with_types front (Some p) = Some (front ++ p.0, p.1)

more : (front : List FieldType) (t : FieldType) (others : Option (List FieldType × List ℕ)) → with_types front (with_first t others) ≡ with_types (front ++ t ∷ []) others
more front t None = refl
more front t (Some p) = ap (λ (ts : List FieldType). Some (ts, p.1)) (sym (append_assoc front (t ∷ []) p.0))

module _ (front : List FieldType) (i : ℕ) (bytes : List ℕ) (all : Option (List FieldType × List ℕ)) (below : i < 256) (so_far : with_types front (types_at (256 - i) bytes) ≡ all) where
  one_more : 256 - i ≡ suc (256 - (i + 1))
  one_more = omega arith

  pub goes_on : (after : List ℕ) → closing bytes ≡ None → type_rest bytes ≡ Some after → with_types (front ++ type_of (before bytes after) ∷ []) (types_at (256 - (i + 1)) after) ≡ all
  unfolding types_at
  goes_on after open_ rest =
      let one : with_types front (types_at (256 - i) bytes) ≡ with_types (front ++ type_of (before bytes after) ∷ []) (types_at (256 - (i + 1)) after) = rw (one_more, open_, rest) (more front (type_of (before bytes after)) (types_at (256 - (i + 1)) after)) in
      sym one ∙ so_far

  pub fails : closing bytes ≡ None → type_rest bytes ≡ None → all ≡ None
  unfolding types_at
  fails open_ rest =
      let one : with_types front (types_at (256 - i) bytes) ≡ None = rw (one_more, open_, rest) refl in
      sym so_far ∙ one

  pub closes : (after : List ℕ) → closing bytes ≡ Some after → all ≡ Some (front, after)
  unfolding types_at
  closes after shut =
      let one : with_types front (types_at (256 - i) bytes) ≡ Some (front, after) = rw (one_more, shut) (ap (λ (ts : List FieldType). Some (ts, after)) (append-nil front)) in
      sym so_far ∙ one

pub too_many : (front : List FieldType) (i : ℕ) (bytes : List ℕ) (all : Option (List FieldType × List ℕ)) → 256 ≤ i → with_types front (types_at (256 - i) bytes) ≡ all → all ≡ None
unfolding types_at
too_many front i bytes all le so_far =
    let none : 256 - i ≡ 0 = omega arith in
    let one : with_types front (types_at (256 - i) bytes) ≡ None = rw none refl in
    sym so_far ∙ one

pub is_found : (bytes : List ℕ) (r : Result Signature Halt) → Gives (λ x. x) r (signature_or (BadDescriptor (pos 0)) (signature_of bytes)) → IfOk r (λ s. DescribesMethod bytes s)
is_found bytes (Ok s) given = by_option (signature_of bytes) refl given where
  by_option : (o : Option Signature) → signature_of bytes ≡ o → signature_or (BadDescriptor (pos 0)) o ≡ Ok s → DescribesMethod bytes s
  by_option None p h = absurd cc
  by_option (Some t) p h = let is : t ≡ s = cc in subst (DescribesMethod bytes) is (signature_found bytes t p)
is_found bytes (Err e) given = tt

-- ---- the signature, by the types

pub no_signature : (bytes : List ℕ) → is_method_descriptor bytes ≡ false → signature_of bytes ≡ None
no_signature bytes e = by_option (signature_of bytes) e where
  by_option : (o : Option Signature) → is_some o ≡ false → o ≡ None
  by_option None h = refl
  by_option (Some s) h = absurd cc

result_same : (text : List ℕ) (r : Option FieldType) → result_of text ≡ Some r → r ≡ result_in text
unfolding result_of
result_same [] r e = absurd cc
result_same (c ∷ []) r e = by_void (eqb c 86) refl e where
  by_type : (b : Bool) → eqb c 86 ≡ false → cond b (Some (Some (type_of (c ∷ [])))) None ≡ Some r → r ≡ cond (eqb c 86) None (Some (type_of (c ∷ [])))
  by_type true p h = rw p cc
  by_type false p h = absurd cc

  by_void : (b : Bool) → eqb c 86 ≡ b → cond b (Some None) (cond (is_field_descriptor (c ∷ [])) (Some (Some (type_of (c ∷ [])))) None) ≡ Some r → r ≡ cond (eqb c 86) None (Some (type_of (c ∷ [])))
  by_void true p h = rw p cc
  by_void false p h = by_type (is_field_descriptor (c ∷ [])) p h
result_same (c ∷ d ∷ cs) r e = by_void (eqb c 86) e where
  by_type : (b : Bool) → cond b (Some (Some (type_of (c ∷ d ∷ cs)))) None ≡ Some r → r ≡ Some (type_of (c ∷ d ∷ cs))
  by_type true h = cc
  by_type false h = absurd cc

  by_void : (b : Bool) → cond b (cond (eqb (length (d ∷ cs)) 0) (Some None) None) (cond (is_field_descriptor (c ∷ d ∷ cs)) (Some (Some (type_of (c ∷ d ∷ cs)))) None) ≡ Some r → r ≡ Some (type_of (c ∷ d ∷ cs))
  by_void true h = by_length (eqb (length (d ∷ cs)) 0) refl h where
    by_length : (b : Bool) → eqb (suc (length cs)) 0 ≡ b → cond b (Some None) None ≡ Some r → r ≡ Some (type_of (c ∷ d ∷ cs))
    by_length true p k = absurd (let z = eqb-true (suc (length cs)) 0 p in omega arith)
    by_length false p k = absurd cc
  by_void false h = by_type (is_field_descriptor (c ∷ d ∷ cs)) h

pub by_types : (bytes : List ℕ) → is_method_descriptor bytes ≡ true → signature_of bytes ≡ made_of (types_at 256 (drop 1 bytes))
unfolding signature_of
by_types [] e = absurd cc
by_types (c ∷ cs) e = by_open (eqb c 40) e where
  by_result : (p : List FieldType × List ℕ) (o : Option (Option FieldType)) → result_of p.1 ≡ o → is_some (option_map {U = Signature} (λ r. record { parameters = p.0; result = r }) o) ≡ true → option_map {U = Signature} (λ r. record { parameters = p.0; result = r }) o ≡ made_of (Some p)
  by_result p None t h = absurd cc
  by_result p (Some r) t h = ap (λ (x : Option FieldType). Some (record { parameters = p.0; result = x })) (result_same p.1 r t)

  by_places : (p : List FieldType × List ℕ) (b : Bool) → is_some (cond b None (option_map {U = Signature} (λ r. record { parameters = p.0; result = r }) (result_of p.1))) ≡ true → cond b None (option_map {U = Signature} (λ r. record { parameters = p.0; result = r }) (result_of p.1)) ≡ made_of (Some p)
  by_places p true h = absurd cc
  by_places p false h = by_result p (result_of p.1) refl h

  by_found : (o : Option (List FieldType × List ℕ)) → is_some (signature_from o) ≡ true → signature_from o ≡ made_of o
  by_found None h = absurd cc
  by_found (Some p) h = by_places p (ltb 255 (places_of p.0)) h

  by_open : (b : Bool) → is_some (cond b (signature_from (types_at 256 cs)) None) ≡ true → cond b (signature_from (types_at 256 cs)) None ≡ made_of (types_at 256 cs)
  by_open true h = by_found (types_at 256 cs) h
  by_open false h = absurd cc

pub empty_signature : (bytes : List ℕ) → length bytes ≡ 0 → signature_of bytes ≡ None
unfolding signature_of
empty_signature [] e = refl
empty_signature (c ∷ cs) e = absurd (omega arith)
