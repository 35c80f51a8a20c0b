-- A class with accessors, with duplicates, or with a wrapper keeps the rules.
use Rattle.std.proofs.Common.{◌≡◌, ◌≢◌, ℕ, zero, suc, ◌+◌, ◌-◌, ◌*◌, ◌<◌, ◌≤◌, Bool, true, false, ◌||◌, List, [], ◌∷◌, ◌++◌, length, Option, Some, None, Ok, refl, sym, ap, ◌∙◌, subst, arith, length-append}
use Rattle.std.specs.Prelude.{codes, bytes_eq}
use Rattle.std.specs.List.{AllByRecursion, flat_map}
use Rattle.std.proofs.lemmas.List.Concat.{flat_map-cons}
use Rattle.std.proofs.lemmas.List.{append_cancel_right}
use Rattle.jmodel.specs.declared.name.MethodName.{MethodName}
use Rattle.jmodel.specs.declared.instruction.Instr.{Instr}
use Rattle.jmodel.specs.format.ClassFile.{Member, Pool, ClassFile}
use Rattle.jmodel.specs.format.Pool.{utf8}
use Rattle.jmodel.specs.format.ClassRules.{IsPool, IsMethod, IsClassFile}
use Rattle.jmodel.specs.format.Descriptor.{IsMethodDescriptor}
use Rattle.objects.specs.linking.Reserved.{has_part}
use Rattle.jmodel.specs.format.Reading.{◌>>=◌}
use Rattle.objects.specs.semantics.Program.{Field}
use Rattle.objects.specs.semantics.Step.{sort_of}
use Rattle.objects.specs.rewriting.Rewriting.{word_places}
use Rattle.const_pool.proofs.Takes.{bind_ok, ok_is}
use Rattle.member_code.specs.Growing.{Growth, grow_from}
use Rattle.member_code.specs.Instrs.{give}
use Rattle.member_code.specs.Coding.{room_for, added_method, straight_method}
use Rattle.member_code.proofs.Grown.{Grown, grown_refl}
use Rattle.member_code.proofs.Puts.{AllPut, adds_all, IsStraightAt}
use Rattle.member_code.proofs.Single.{IsLaid}
use Rattle.member_code.proofs.Straight.{run_rules}
use Rattle.member_code.proofs.ValuePlaces.{few_places}
use Rattle.field_members.specs.Names.{getter_named, setter_named}
use Rattle.field_members.specs.declared.accessors.Accessors.{Accessors}
use Rattle.field_members.specs.Accessors.{receiver_places, getter_instrs, getter_of, setter_instrs, setter_of, accessors_of, both_of, room_in, all_accessors, and_methods, with_accessors}
use Rattle.field_members.proofs.Gets.{IsGetter, IsSetter, AreAccessors, accessors_put}
use Rattle.field_members.proofs.Laid.{getter_laid, setter_laid}
use Rattle.rewritten_form.proofs.Lists.{all_append, or_first, or_later}
use Rattle.rewritten_form.proofs.CodeForms.{added_form}
use Rattle.rewritten_form.proofs.Keys.{Key, AreKeyed, IsNone, AreUnlike, IsUnnamed, AreOtherNames, IsNamedFree, IsNamedReserved, keyed_append, keys_grown, distinct, unlike_append, kinds_apart, names_unlike, names_apart, shows_getter, shows_setter}
use Rattle.rewritten_form.proofs.FieldPools.{IsLawfulField, all_accessors_pool}
use Rattle.rewritten_form.proofs.FieldSteps.{AreApart, ends_in, IsStep}
use Rattle.rewritten_form.proofs.ClassSteps.{made_rules, own_fields, methods_still}

-- ---- room for members

pub room_some : (room : ℕ) (name : MethodName) → room_for room name ≡ Ok tt → 0 < room
unfolding room_for
room_some zero name e = absurd cc
room_some (suc n) name e = omega arith

abbrev accessors_from : ℕ → ℕ → Field → Pool → Growth Accessors
accessors_from room n f pool = accessors_of (room - n - n) f pool

two_fit : (room n : ℕ) (f : Field) (pool : Pool) (r : Accessors × Pool) → accessors_of (room - n - n) f pool ≡ Ok r → 2 * n + 2 ≤ room
unfolding accessors_of getter_of setter_of
two_fit room n f pool r e =
    let a = bind_ok _ _ r e in
    let b = bind_ok _ _ r a.2 in
    let x = bind_ok (room_for (room - n - n) (getter_named f)) (λ fits. getter_instrs f pool >>= λ code. straight_method (4 + word_places f.declared.word) (receiver_places f + 1) code.0 (getter_named f) code.1) a.0 a.1 in
    let y = bind_ok (room_for (room - n - n - 1) (setter_named f)) (λ fits. setter_instrs f a.0.1 >>= λ code. straight_method (4 + word_places f.declared.word) (receiver_places f + word_places f.declared.word + 1) code.0 (setter_named f) code.1) b.0 b.1 in
    let more = room_some (room - n - n - 1) (setter_named f) y.1 in
    omega (arith, more)

accessors_fit : (room n : ℕ) (fs : List Field) (pool : Pool) (r : List Accessors × Pool) → 2 * n ≤ room → grow_from (accessors_from room) n fs pool ≡ Ok r → (2 * (n + length fs) ≤ room) × (length (flat_map both_of r.0) ≡ 2 * length fs)
accessors_fit room n [] pool r fits e = let same : [] ≡ r.0 = ap (λ (x : List Accessors × Pool). x.0) (ok_is ([], pool) r e) in (omega (arith, fits), sym (ap (λ (l : List Accessors). length (flat_map both_of l)) same))
accessors_fit room n (f ∷ fs) pool r fits e =
    let a = bind_ok _ _ r e in
    let b = bind_ok _ _ r a.2 in
    let here = two_fit room n f pool a.0 a.1 in
    let more = accessors_fit room (n + 1) fs a.0.1 b.0 (omega (arith, here)) b.1 in
    let same : a.0.0 ∷ b.0.0 ≡ r.0 = ap (λ (x : List Accessors × Pool). x.0) (ok_is (a.0.0 ∷ b.0.0, b.0.1) r b.2) in
    let list = ap (λ (l : List Accessors). length (flat_map both_of l)) same in
    let cons = ap length (flat_map-cons both_of a.0.0 b.0.0) in
    (omega (arith, more.0), omega (arith, list, cons, more.1))

-- ---- accessors are methods

pub straight_form : (Z : Pool) → IsPool Z → (most locals : ℕ) (is : List Instr) (name : MethodName) (m : Member) → IsStraightAt most locals is name Z m → AllByRecursion (IsLaid Z) is → 0 < length is → most < 65536 → locals < 65536 → IsMethodDescriptor name.descriptor → IsMethod Z m
straight_form Z p most locals is name m h laid some stack places fits =
    let C = h.coded in
    let R = h.run in
    added_form Z 0x1009 name.name name.descriptor m p (record {
      n = C.name_at;
      t = C.descriptor_at;
      c = C.code_at;
      code = record { max_stack = most; max_locals = locals; code = R.code; handlers = []; attributes = [] };
      is = C.is ∙ ap (added_method 0x1009 C.name_at C.descriptor_at C.code_at) R.bytes_are;
      named = C.named;
      typed = C.typed;
      coded = C.coded;
      rules = run_rules Z most locals is h.bytes R laid some stack places;
      alone = refl;
    }) (omega arith) refl fits

receiver_few : (f : Field) → receiver_places f < 2
receiver_few f = go f.base refl
  where
    go : (o : Option ℕ) → f.base ≡ o → receiver_places f < 2
    go None e = rw e (omega arith)
    go (Some o) e = rw e (omega arith)

module _ (Z : Pool) (p : IsPool Z) (f : Field) (F : IsLawfulField f) where
  getter_form : (m : Member) → IsGetter f Z m → IsMethod Z m
  getter_form m g =
      let C = g.code in
      let some : 0 < length g.is = omega (arith, ap length C.code, length-append (C.look ++ C.read ++ C.cast) (give (sort_of f.declared.word) ∷ [])) in
      straight_form Z p (4 + word_places f.declared.word) (receiver_places f + 1) g.is (getter_named f) m g.method (getter_laid f Z g.is g.code) some (omega (arith, few_places f.declared.word)) (omega (arith, receiver_few f)) F.getter.typed

  setter_form : (m : Member) → IsSetter f Z m → IsMethod Z m
  setter_form m g =
      let some : 0 < length g.is = omega (arith, ap length g.code.code) in
      straight_form Z p (4 + word_places f.declared.word) (receiver_places f + word_places f.declared.word + 1) g.is (setter_named f) m g.method (setter_laid f Z g.is g.code) some (omega (arith, few_places f.declared.word)) (omega (arith, receiver_few f, few_places f.declared.word)) F.setter.typed

accessors_forms : (Z : Pool) → IsPool Z → (n : ℕ) (fs : List Field) (all : List Accessors) → AllByRecursion IsLawfulField fs → AllPut (λ n f. AreAccessors f) n fs Z all → AllByRecursion (IsMethod Z) (flat_map both_of all)
accessors_forms Z p n [] [] F h = tt
accessors_forms Z p n [] (a ∷ all) F h = absurd h
accessors_forms Z p n (f ∷ fs) [] F h = absurd h
accessors_forms Z p n (f ∷ fs) (a ∷ all) F h =
    subst (AllByRecursion (IsMethod Z)) (sym (flat_map-cons both_of a all)) (getter_form Z p f F.0 a.getter h.0.getter, (setter_form Z p f F.0 a.setter h.0.setter, accessors_forms Z p (n + 1) fs all F.1 h.1))

-- ---- their names

abbrev pub getter_key : Field → Key
getter_key f = ((getter_named f).name, (getter_named f).descriptor)

abbrev pub setter_key : Field → Key
setter_key f = ((setter_named f).name, (setter_named f).descriptor)

abbrev pub accessor_keys : List Field → List Key
accessor_keys [] = []
accessor_keys (f ∷ fs) = getter_key f ∷ setter_key f ∷ accessor_keys fs

accessors_keyed : (Z : Pool) (n : ℕ) (fs : List Field) (all : List Accessors) → AllPut (λ n f. AreAccessors f) n fs Z all → AreKeyed Z (flat_map both_of all) (accessor_keys fs)
accessors_keyed Z n [] [] h = tt
accessors_keyed Z n [] (a ∷ all) h = absurd h
accessors_keyed Z n (f ∷ fs) [] h = absurd h
accessors_keyed Z n (f ∷ fs) (a ∷ all) h =
    let g = h.0.getter.method.coded in
    let s = h.0.setter.method.coded in
    subst (λ (ms : List Member). AreKeyed Z ms (accessor_keys (f ∷ fs))) (sym (flat_map-cons both_of a all)) (
      record { named = ap (λ (y : Member). utf8 Z y.name) g.is ∙ g.named; typed = ap (λ (y : Member). utf8 Z y.descriptor) g.is ∙ g.typed },
      (record { named = ap (λ (y : Member). utf8 Z y.name) s.is ∙ s.named; typed = ap (λ (y : Member). utf8 Z y.descriptor) s.is ∙ s.typed }, accessors_keyed Z (n + 1) fs all h.1),
    )

split_same : (xs us ys vs : List ℕ) → length xs ≡ length us → xs ++ ys ≡ us ++ vs → ys ≡ vs
split_same [] [] ys vs l e = e
split_same [] (u ∷ us) ys vs l e = absurd (omega (arith, l))
split_same (x ∷ xs) [] ys vs l e = absurd (omega (arith, l))
split_same (x ∷ xs) (u ∷ us) ys vs l e = let tail : xs ++ ys ≡ us ++ vs = cc in split_same xs us ys vs (omega (arith, l)) tail

-- a getter isn't named as a setter is
getter_setter : (a b : List ℕ) → a ++ codes "__Getter$" ≡ b ++ codes "__Setter$" → ⊥
getter_setter a b e =
    let l = ap length e in
    let long : length a ≡ length b = omega (arith, l, length-append a (codes "__Getter$"), length-append b (codes "__Setter$")) in
    let same = split_same a b (codes "__Getter$") (codes "__Setter$") long e in
    let wrong : false ≡ true = subst (λ (n : List ℕ). bytes_eq (codes "__Getter$") n ≡ true) same refl in
    absurd cc

none_getter : (f : Field) (fs : List Field) → AllByRecursion (λ (g : Field). f.name ≢ g.name) fs → IsUnnamed (accessor_keys fs) (getter_key f)
none_getter f [] h = tt
none_getter f (g ∷ fs) h = (λ e. h.0 (append_cancel_right f.name g.name (codes "__Getter$") e), (λ e. getter_setter f.name g.name e, none_getter f fs h.1))

none_setter : (f : Field) (fs : List Field) → AllByRecursion (λ (g : Field). f.name ≢ g.name) fs → IsUnnamed (accessor_keys fs) (setter_key f)
none_setter f [] h = tt
none_setter f (g ∷ fs) h = (λ e. getter_setter g.name f.name (sym e), (λ e. h.0 (append_cancel_right f.name g.name (codes "__Setter$") e), none_setter f fs h.1))

accessors_other : (fs : List Field) → AreApart fs → AreOtherNames (accessor_keys fs)
accessors_other [] h = tt
accessors_other (f ∷ fs) h = ((λ e. getter_setter f.name f.name e, none_getter f fs h.0), (none_setter f fs h.0, accessors_other fs h.1))

accessors_reserved : (fs : List Field) → AllByRecursion IsNamedReserved (accessor_keys fs)
accessors_reserved [] = tt
accessors_reserved (f ∷ fs) = (shows_getter (getter_named f).name (ends_in (codes "__Getter$") refl f.name), (shows_setter (setter_named f).name (ends_in (codes "__Setter$") refl f.name), accessors_reserved fs))

-- old names and descriptors, and those of accessors behind them
pub accessors_unlike : (olds : List Key) → AreUnlike olds → AllByRecursion IsNamedFree olds → (fs : List Field) → AreApart fs → AreUnlike (olds ++ accessor_keys fs)
accessors_unlike olds u free fs apart =
    unlike_append olds (accessor_keys fs) u (names_unlike (accessor_keys fs) (accessors_other fs apart)) (kinds_apart IsNamedFree IsNamedReserved names_apart olds (accessor_keys fs) free (accessors_reserved fs))

-- whether a name has a part that accessors' names have
abbrev pub shows_accessor : List ℕ → Bool
shows_accessor n = has_part (codes "__Getter$") n || has_part (codes "__Setter$") n

abbrev pub IsAccessorNamed : Key → Type 0
IsAccessorNamed k = shows_accessor k.0 ≡ true

pub accessors_shown : (fs : List Field) → AllByRecursion IsAccessorNamed (accessor_keys fs)
accessors_shown [] = tt
accessors_shown (f ∷ fs) = (
  or_first (has_part (codes "__Getter$") (getter_named f).name) (has_part (codes "__Setter$") (getter_named f).name) (ends_in (codes "__Getter$") refl f.name),
  (or_later (has_part (codes "__Getter$") (setter_named f).name) (has_part (codes "__Setter$") (setter_named f).name) (ends_in (codes "__Setter$") refl f.name), accessors_shown fs),
)

-- ---- the class with accessors

-- a class with more methods, of these names and descriptors
pub record HasMore (d e : ClassFile) (ks : List Key) : Type 0 where
  pub step : IsStep d e
  pub added : List Member
  pub are : e.methods ≡ d.methods ++ added
  pub keyed : AreKeyed e.pool added ks

module _ (d : ClassFile) (rules : IsClassFile d) (olds : List Key) (old : AreKeyed d.pool d.methods olds) (unlike_olds : AreUnlike olds) where
  -- methods that keep the rules, and differ from the others
  pub more_rules : (pool : Pool) → Grown d.pool pool → IsPool pool → (ms : List Member) (ks : List Key) → AreKeyed pool ms ks → AreUnlike ks → AllByRecursion (IsNone ks) olds → AllByRecursion (IsMethod pool) ms → length ms ≤ room_in d
      → HasMore d (and_methods d ms pool) ks
  more_rules pool G p ms ks keyed apart away forms fits =
      let few = rules.few_methods in
      record {
        step = record {
          rules = made_rules d rules pool G p d.fields (d.methods ++ ms) (own_fields d rules pool G p) (record {
            few = omega (arith, few, fits, length-append d.methods ms);
            each = all_append (IsMethod pool) d.methods ms (methods_still d.pool pool G d.methods rules.methods) forms;
            distinct = distinct pool (d.methods ++ ms) (olds ++ ks) (keyed_append pool d.methods ms olds ks (keys_grown d.pool pool G d.methods olds old) keyed) (unlike_append olds ks unlike_olds apart away);
          });
          grown = G;
        };
        added = ms;
        are = refl;
        keyed = keyed;
      }

  module _ (free : AllByRecursion IsNamedFree olds) (fs : List Field) (F : AllByRecursion IsLawfulField fs) (apart : AreApart fs) where
    accessors_made : (all : List Accessors) (pool : Pool) → all_accessors (room_in d) fs d.pool ≡ Ok (all, pool) → HasMore d (and_methods d (flat_map both_of all) pool) (accessor_keys fs)
    accessors_made all pool e =
        let P = adds_all (λ n f. AreAccessors f) (λ n f. accessors_of (room_in d - n - n) f) (λ n f. accessors_put (room_in d - n - n) f) 0 fs d.pool (all, pool) rules.pool.few e in
        let p : IsPool pool = all_accessors_pool (room_in d) fs F d.pool (all, pool) e rules.pool in
        let facts = P.facts pool (grown_refl pool) in
        let fits = accessors_fit (room_in d) 0 fs d.pool (all, pool) (omega arith) e in
        more_rules pool P.grown p (flat_map both_of all) (accessor_keys fs) (accessors_keyed pool 0 fs all facts) (names_unlike (accessor_keys fs) (accessors_other fs apart))
        (kinds_apart IsNamedFree IsNamedReserved names_apart olds (accessor_keys fs) free (accessors_reserved fs))
        (accessors_forms pool p 0 fs all F facts) (omega (arith, fits.0, fits.1))

    pub accessors_step : (e : ClassFile) → with_accessors fs d ≡ Ok e → HasMore d e (accessor_keys fs)
    accessors_step e t =
        let a = bind_ok (all_accessors (room_in d) fs d.pool) (λ all. Ok (and_methods d (flat_map both_of all.0) all.1)) e t in
        subst (λ (x : ClassFile). HasMore d x (accessor_keys fs)) (ok_is (and_methods d (flat_map both_of a.0.0) a.0.1) e a.2) (accessors_made a.0.0 a.0.1 a.1)
