-- The opening words stand for the opening state.
use Rattle.std.proofs.Common.{◌≡◌, inl, inr, ℕ, ◌+◌, ◌/◌, ◌%◌, ◌^◌, ◌<◌, ◌≤◌, List, length, Bool, true, false, nat_lt, Some, refl, ap, ◌∙◌, arith}
use Rattle.std.proofs.lemmas.Bool.Decides.{nat_tests}
use Rattle.std.proofs.Math.Nat.{mod-eq_of_lt, div-eq_of_lt}
use Rattle.std.proofs.lemmas.List.{length-map}
use Rattle.jmodel.specs.format.ClassFile.{ClassFile}
use Rattle.objects.specs.linking.Members.{statics}
use Rattle.jmodel.specs.declared.typing.VType.TheVariants as type
use Rattle.objects.specs.semantics.Program.{Program}
use Rattle.objects.specs.typing.TypeOrder.{string_class, IsWithin}
use Rattle.objects.specs.semantics.State.{Object}
use Rattle.objects.specs.linking.Layout.{rows, fixed_words, opening_state}
use Rattle.objects.specs.history.Meaning.{IsInRegion}
use Rattle.objects.specs.laws.LinkingLaw.{OpeningLaw}
use Rattle.objects.proofs.Links.{links}
use Rattle.objects.proofs.ReadNames.{class_reads}
use Rattle.objects.proofs.SourceProof.{source_law}
use Rattle.objects.proofs.OpeningWords.{memory, Known, IsText, object_known, laid, apart, free_behind}
use Rattle.objects.proofs.OpeningHeap.{texts_held, typed, fields_held}

module _ (cs : List ClassFile) (size : ℕ) (room : fixed_words cs ≤ size) (limit : size < 2 ^ 64) where
  -- an object lies in the first region
  in_first : (r : ℕ) (o : Object) → 1 < r → r + length o.values + 1 ≤ fixed_words cs → IsInRegion size (opening_state cs).used r o
  in_first r o past end =
      let low : r < size = omega (arith, end, room) in
      let rest : r % size ≡ r = mod-eq_of_lt low in
      let first : r / size ≡ 0 = div-eq_of_lt low in
      record {
        there = past;
        inside = omega (arith, rest, end, room);
        below = (rw first (omega (arith, rest, end)));
        address = omega (arith, end, room, limit);
      }

  regions : (r : ℕ) (o : Object) → (opening_state cs).objects r ≡ Some o → IsInRegion size (opening_state cs).used r o
  regions r o e = elim (object_known cs r o e) [ inl k ↦ base k | inr t ↦ text t ]
    where
      base : Known cs 0 cs r o → IsInRegion size (opening_state cs).used r o
      base k =
          let long : length o.values ≡ length (statics k.class) = ap (λ (p : Object). length p.values) k.is ∙ length-map _ _ in
          let from = k.from in
          let to = k.to in
          in_first r o (omega (arith, from)) (omega (arith, long, to))

      text : IsText cs r o → IsInRegion size (opening_state cs).used r o
      text t =
          let long : length o.values ≡ 0 = ap (λ (p : Object). length p.values) t.is in
          let from = t.from in
          let to = t.to in
          in_first r o (omega (arith, from)) (omega (arith, long, to))

  free : (a : ℕ) → (opening_state cs).used (a / size) ≤ a % size → memory cs a ≡ 0
  free a h = free_behind cs a (go (nat_lt a size) refl)
    where
      go : (t : Bool) → nat_lt a size ≡ t → fixed_words cs ≤ a
      go true is =
          let low : a < size = grind (arith, nat_tests) in
          let rest : a % size ≡ a = mod-eq_of_lt low in
          let first : a / size ≡ 0 = div-eq_of_lt low in
          omega (arith, rest, rw first at h)
      go false is = let high : size ≤ a = grind (arith, nat_tests) in omega (arith, high, room)

pub opening_law : OpeningLaw
opening_law cs P size read e room limit =
    let l = links cs P e in
    let rows_are : P.types ≡ rows cs = ap (λ (P : Program). P.types) l.is in
    let types = (source_law cs P read e).types in
    let string : IsWithin P (type.Ref string_class) (type.Ref string_class) = (class_reads cs P read rows_are types string_class (λ s. cc)).name.itself in
    let fields_are = ap (λ (P : Program). P.fields) l.is in
    let texts_are = ap (λ (P : Program). P.texts) l.is in
    record {
      laid = laid cs;
      apart = apart cs;
      heap = record {
        regions = regions cs size room limit;
        typed = typed cs P read rows_are fields_are texts_are string;
        fields = fields_held cs P read rows_are fields_are texts_are string;
        texts = texts_held cs P read rows_are fields_are texts_are string;
      };
      free = free cs size room limit;
    }
