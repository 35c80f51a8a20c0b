-- The places of fields of linked classes have addresses of 64 bits: a folder has few classes, and each of them few fields.
use Rattle.std.proofs.Common.{◌≡◌, inl, inr, ℕ, zero, suc, ◌+◌, ◌*◌, ◌<◌, ◌≤◌, List, [], ◌∷◌, length, Option, Some, None, Bool, true, false, not, refl, sym, ap, subst, arith}
use Rattle.std.specs.Prelude.{slice_get, filter, reverse, sum_by, if◌then◌else◌}
use Rattle.std.proofs.lemmas.Grind.{reverse_onto}
use Rattle.std.proofs.lemmas.List.{length-reverse, length-map}
use Rattle.std.proofs.lemmas.List.Sums.{sum_by-cons, sum_by-take-le}
use Rattle.std.proofs.lemmas.List.Concat.{length-flat_map}
use Rattle.jmodel.specs.format.ClassFile.{ClassFile}
use Rattle.objects.specs.linking.Members.{is_static, statics}
use Rattle.objects.specs.linking.StaticBases.{has_base, base_words, base_of}
use Rattle.objects.specs.linking.Superclasses.{class_named, super_name, with_above, upward, lineage}
use Rattle.objects.proofs.TakenLaws.{filter_few}
use Rattle.objects.specs.semantics.Program.{Field}
use Rattle.objects.specs.linking.Layout.{own_words, words_upward, fields_of}
use Rattle.objects.specs.typing.Source.{IsBased}
use Rattle.objects.specs.laws.LinkingLaw.{AreRead}
use Rattle.objects.proofs.Items.{IsAt, later, either_part}
use Rattle.objects.proofs.AsRead.{is_file}
use Rattle.objects.proofs.ResolvedMembers.{lineage_in}
use Rattle.objects.proofs.LinkedFields.{field_from}

suc_times : (n b : ℕ) → suc n * b ≡ b + n * b
suc_times n b = grind arith

bounded : {A : Type 0} (f : A → ℕ) (b : ℕ) (xs : List A) → ((x : A) → IsAt xs x → f x ≤ b) → sum_by f xs ≤ length xs * b
bounded f b [] h = omega arith
bounded f b (x ∷ xs) h =
    let first : f x ≤ b = h x (0, refl) in
    let rest : sum_by f xs ≤ length xs * b = bounded f b xs (λ y at. h y (later x xs y at)) in
    let more : length (x ∷ xs) * b ≡ b + length xs * b = suc_times (length xs) b in
    omega (arith, sum_by-cons f x xs, first, rest, more)

of_reverse : {A : Type 0} (xs : List A) (x : A) → IsAt (reverse xs) x → IsAt xs x
of_reverse [] x h = h
of_reverse {A} (y ∷ xs) x h = elim (either_part (reverse xs) (y ∷ []) x (subst (λ (l : List A). IsAt l x) (reverse_onto xs y []) h)) [ inl a ↦ later y xs x (of_reverse xs x a) | inr a ↦ one a.0 a.1 ]
  where
    one : (i : ℕ) → slice_get (y ∷ []) i ≡ Some x → IsAt (y ∷ xs) x
    one zero e = (0, e)
    one (suc i) e = cc

upward_few : (cs : List ClassFile) (n : ℕ) (name : List ℕ) → length (upward cs n name) ≤ n
upward_few cs zero name = omega arith
upward_few cs (suc n) name = go (class_named cs name) (λ d. upward_few cs n (super_name d))
  where
    go : (o : Option ClassFile) → ((d : ClassFile) → length (upward cs n (super_name d)) ≤ n) → length (with_above (λ c. upward cs n (super_name c)) o) ≤ suc n
    go None rest = omega arith
    go (Some d) rest = let r = rest d in omega (arith, r)

module _ (cs : List ClassFile) (read : AreRead cs) where
  fields_few : (c : ClassFile) → IsAt cs c → length c.fields ≤ 65535
  fields_few c h = let f = (is_file cs read c h).few_fields in omega (arith, f)

  own_few : (c : ClassFile) → IsAt cs c → length (own_words cs c) ≤ 65535
  own_few c h =
      let many : length (own_words cs c) ≡ length (filter (λ m. not (is_static m)) c.fields) = length-map _ _ in
      omega (arith, many, filter_few (λ m. not (is_static m)) c.fields, fields_few c h)

  words_few : (name : List ℕ) → length (words_upward cs name) ≤ 256 * 65535
  words_few name =
      let sum = bounded (λ c. length (own_words cs c)) 65535 (reverse (lineage cs name)) (λ c at. own_few c (lineage_in cs name c (of_reverse (lineage cs name) c at))) in
      let many = length-flat_map (own_words cs) (reverse (lineage cs name)) in
      let same = length-reverse (lineage cs name) in
      let few = upward_few cs (length cs) name in
      let limit = read.few in
      omega (arith, sum, many, same, few, limit)

  base_few : (n : ℕ) → base_of cs n ≤ 2 + 256 * 65536
  base_few n =
      let sum = bounded base_words 65536 cs one in
      let part = sum_by-take-le base_words cs n in
      let limit = read.few in
      omega (arith, sum, part, limit)
    where
      one : (c : ClassFile) → IsAt cs c → base_words c ≤ 65536
      one c at = by (has_base c)
        where
          by : (b : Bool) → (if b then length (statics c) + 1 else 0) ≤ 65536
          by true = omega (arith, filter_few is_static c.fields, fields_few c at)
          by false = omega arith

  -- each field has such a place
  pub based : (F : Field) → IsAt (fields_of cs) F → IsBased F F.base
  based F h =
      let r = field_from cs 0 cs F h in
      let w = words_few (super_name r.class) in
      let m = fields_few r.class (r.number, r.there) in
      let few = r.member.few in
      let b = base_few (0 + r.number) in
      let at : F.index ≡ r.member.index = ap (λ (F : Field). F.index) r.member.is in
      let small : F.index < 16842495 = omega (arith, w, m, few, at) in
      by (is_static r.member.member) (0 + r.number) (ap (λ (F : Field). F.base) r.member.is) small b
    where
      by : (s : Bool) (n : ℕ) → F.base ≡ (if s then Some (base_of cs n) else None) → F.index < 16842495 → base_of cs n ≤ 2 + 256 * 65536 → IsBased F F.base
      by true n e small b = subst (IsBased F) (sym e) (record { object = omega arith; address = omega (arith, small, b) })
      by false n e small b = subst (IsBased F) (sym e) (omega (arith, small))
