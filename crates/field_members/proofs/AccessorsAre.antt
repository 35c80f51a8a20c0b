-- Accessors mean what the rewriting says.
use Rattle.std.proofs.Common.{◌≡◌, ℕ, suc, ◌+◌, ◌<◌, List, [], ◌∷◌, ◌++◌, length, drop, Option, Some, None, Ok, refl, sym, ap, ◌∙◌, subst, arith, length-append}
use Rattle.std.specs.Prelude.{◌-◌, false}
use Rattle.std.specs.List.{flat_map}
use Rattle.std.proofs.lemmas.List.Concat.{flat_map-cons}
use Rattle.jmodel.specs.declared.typing.VType.{VType}
use Rattle.jmodel.specs.declared.instruction.Instr.{Instr}
use Rattle.jmodel.specs.format.ClassFile.{Member, ClassFile}
use Rattle.objects.specs.linking.Each.{each}
use Rattle.jmodel.specs.format.Relocation.{place_of, relocated}
use Rattle.objects.specs.declared.op.Op.TheVariants.{ReturnValue}
use Rattle.objects.specs.semantics.Program.{Field, Method}
use Rattle.objects.specs.semantics.Step.{sort_of}
use Rattle.objects.specs.typing.TypeOrder.{place_types}
use Rattle.objects.specs.linking.Decoding.{Symbols}
use Rattle.objects.specs.rewriting.Rewriting.{context, as_result, added, word_places, getter_method, setter_method, accessors}
use Rattle.const_pool.proofs.Takes.{bind_ok, ok_is}
use Rattle.member_code.specs.Instrs.{give}
use Rattle.member_code.specs.Meaning.{meaning}
use Rattle.member_code.proofs.Grown.{Grown}
use Rattle.member_code.proofs.ValuePlaces.{few_places}
use Rattle.member_code.proofs.Straight.{run, IsRun}
use Rattle.member_code.proofs.Coded.{straight_means}
use Rattle.member_code.proofs.Puts.{AllPut, adds_all, as_added}
use Rattle.field_members.specs.Names.{getter_named, setter_named}
use Rattle.field_members.specs.Accessors.{Accessors, receiver_places, accessors_of, all_accessors, room_in, both_of, and_methods}
use Rattle.field_members.specs.AccessorsLaw.{IsKnown, AreKnown, AccessorsLaw}
use Rattle.field_members.proofs.Gets.{IsGetter, IsSetter, AreAccessors, accessors_put, GetterAt, SetterAt}
use Rattle.field_members.proofs.Laid.{getter_laid, setter_laid, getter_meant, setter_meant, getter_ops, setter_ops, cast_is}
use Rattle.field_members.proofs.Types.{receiver_takes, getter_typed, setter_typed, places_are, receiver_places_are}

-- an accessor in other numbers of places
in_places : (most locals locals2 : ℕ) (is : List Instr) (bytes : List ℕ) → locals ≡ locals2 → IsRun most locals is bytes → IsRun most locals2 is bytes
in_places most locals locals2 is bytes e h = subst (λ (n : ℕ). IsRun most n is bytes) e h

receiver_few : (f : Field) → receiver_places f < 2
receiver_few f = go f.base refl
  where
    go : (o : Option ℕ) → f.base ≡ o → receiver_places f < 2
    go None e = rw e (omega arith)
    go (Some o) e = rw e (omega arith)

module _ (s : Symbols) (n : ℕ) (f : Field) (K : IsKnown s n f) where
  abbrev getter_takes : List VType
  getter_takes = receiver_takes f.base f.class ++ context ∷ []

  abbrev setter_takes : List VType
  setter_takes = receiver_takes f.base f.class ++ place_types f.declared ++ context ∷ []

  getter_long : receiver_places f + 1 ≡ length getter_takes
  getter_long = omega (arith, length-append (receiver_takes f.base f.class) (context ∷ []), receiver_places_are f)

  setter_long : receiver_places f + word_places f.declared.word + 1 ≡ length setter_takes
  setter_long = omega (arith, length-append (receiver_takes f.base f.class ++ place_types f.declared) (context ∷ []), length-append (receiver_takes f.base f.class) (place_types f.declared), receiver_places_are f, places_are f.declared)

  getter_made : added f.class (getter_named f).name (getter_named f).descriptor getter_takes (4 + word_places f.declared.word) (Some (as_result f.declared)) (getter_ops f n f.base) ≡ getter_method n f
  getter_made = go f.base refl
    where
      go : (o : Option ℕ) → f.base ≡ o → added f.class (getter_named f).name (getter_named f).descriptor (receiver_takes o f.class ++ context ∷ []) (4 + word_places f.declared.word) (Some (as_result f.declared)) (getter_ops f n o) ≡ getter_method n f
      go None e = let c = cast_is f.declared (ReturnValue (sort_of f.declared.word) ∷ []) in rw e (rw c refl)
      go (Some o) e = let c = cast_is f.declared (ReturnValue (sort_of f.declared.word) ∷ []) in rw e (rw c refl)

  setter_made : added f.class (setter_named f).name (setter_named f).descriptor setter_takes (4 + word_places f.declared.word) None (setter_ops f f.base) ≡ setter_method f
  setter_made = go f.base refl
    where
      go : (o : Option ℕ) → f.base ≡ o → added f.class (setter_named f).name (setter_named f).descriptor (receiver_takes o f.class ++ place_types f.declared ++ context ∷ []) (4 + word_places f.declared.word) None (setter_ops f o) ≡ setter_method f
      go None e = rw e refl
      go (Some o) e = let z : 0 + word_places f.declared.word ≡ word_places f.declared.word = omega arith in rw e (rw z refl)

  some_getter : (is : List Instr) → GetterAt f s.class.pool is → 0 < length is
  some_getter is h = omega (arith, ap length h.code, length-append (h.look ++ h.read ++ h.cast) (give (sort_of f.declared.word) ∷ []))

  some_setter : (is : List Instr) → SetterAt f s.class.pool is → 0 < length is
  some_setter is h = omega (arith, ap length h.code)

  pub getter_is : (m : Member) → IsGetter f s.class.pool m → meaning s false m ≡ Some (getter_method n f)
  getter_is m g =
      let M = g.method in
      straight_means s m f.class (getter_named f).name (getter_named f).descriptor getter_takes (Some (as_result f.declared)) (4 + word_places f.declared.word) g.is (getter_ops f n f.base) M.bytes
      (as_added s (getter_named f) M.bytes m M.coded) (getter_typed s n f K)
      (in_places (4 + word_places f.declared.word) (receiver_places f + 1) (length getter_takes) g.is M.bytes getter_long M.run)
      (getter_laid f s.class.pool g.is g.code) (some_getter g.is g.code) (omega (arith, few_places f.declared.word)) (omega (arith, getter_long, receiver_few f)) K.own
      (getter_meant s n f K (place_of (run g.is)) (relocated (run g.is) []) g.is g.code)
      ∙ ap (λ (k : Method). Some k) getter_made

  pub setter_is : (m : Member) → IsSetter f s.class.pool m → meaning s false m ≡ Some (setter_method f)
  setter_is m g =
      let M = g.method in
      straight_means s m f.class (setter_named f).name (setter_named f).descriptor setter_takes None (4 + word_places f.declared.word) g.is (setter_ops f f.base) M.bytes
      (as_added s (setter_named f) M.bytes m M.coded) (setter_typed s n f K)
      (in_places (4 + word_places f.declared.word) (receiver_places f + word_places f.declared.word + 1) (length setter_takes) g.is M.bytes setter_long M.run)
      (setter_laid f s.class.pool g.is g.code) (some_setter g.is g.code) (omega (arith, few_places f.declared.word)) (omega (arith, setter_long, receiver_few f, few_places f.declared.word)) K.own
      (setter_meant s n f K (place_of (run g.is)) (relocated (run g.is) []) g.is g.code)
      ∙ ap (λ (k : Method). Some k) setter_made

module _ (s : Symbols) where
  each_is : (k n : ℕ) (fs : List Field) (all : List Accessors) → AllPut (λ i f. AreAccessors f) k fs s.class.pool all → AreKnown s n fs → each (meaning s false) (flat_map both_of all) ≡ Some (accessors n fs)
  each_is k n [] [] h K = refl
  each_is k n [] (a ∷ all) h K = absurd h
  each_is k n (f ∷ fs) [] h K = absurd h
  each_is k n (f ∷ fs) (a ∷ all) h K =
      let one = getter_is s n f K.0 a.getter h.0.getter in
      let two = setter_is s n f K.0 a.setter h.0.setter in
      let more = each_is (k + 1) (suc n) fs all h.1 K.1 in
      ap (each (meaning s false)) (flat_map-cons both_of a all) ∙ rw one (rw two (rw more refl))

dropped : {A : Type 0} (xs ys : List A) → drop (length xs) (xs ++ ys) ≡ ys
dropped [] ys = refl
dropped (x ∷ xs) ys = let e : length (x ∷ xs) ≡ suc (length xs) = omega arith in ap (λ (n : ℕ). drop n (x ∷ (xs ++ ys))) e ∙ dropped xs ys

pub accessors_are : AccessorsLaw
accessors_are fs n old new s short e longer K =
    let a = bind_ok (all_accessors (room_in old) fs old.pool) (λ all. Ok (and_methods old (flat_map both_of all.0) all.1)) new e in
    let p = adds_all (λ i f. AreAccessors f) (λ i f. accessors_of (room_in old - i - i) f) (λ i f. accessors_put (room_in old - i - i) f) 0 fs old.pool a.0 short a.1 in
    let is = ok_is (and_methods old (flat_map both_of a.0.0) a.0.1) new a.2 in
    let grown : Grown a.0.1 s.class.pool = record { more = longer.0; is = longer.1 ∙ ap (λ (c : ClassFile). c.pool ++ longer.0) (sym is) } in
    ap (λ (c : ClassFile). each (meaning s false) (drop (length old.methods) c.methods)) (sym is)
    ∙ ap (each (meaning s false)) (dropped old.methods (flat_map both_of a.0.0))
    ∙ each_is s 0 n fs a.0.0 (p.facts s.class.pool grown) K
