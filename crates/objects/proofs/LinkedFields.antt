-- The fields of linked classes: from which members they come, which of them names stand for, and where they lie.
use Rattle.std.proofs.Common.{◌≡◌, inl, inr, ℕ, zero, suc, ◌+◌, ◌*◌, ◌<◌, ◌≤◌, List, [], ◌∷◌, length, Option, Some, None, Bool, true, false, refl, sym, ap, subst, ◌∙◌, arith}
use Rattle.std.specs.Prelude.{slice_get, position, bytes_eq, sum_by, ◌&&◌, if◌then◌else◌}
use Rattle.std.proofs.lemmas.Slice.Eq.{bytes_eq-Decides}
use Rattle.std.proofs.lemmas.List.Sums.{sum_by-cons}
use Rattle.jmodel.specs.format.ClassFile.{Member, ClassFile}
use Rattle.jmodel.specs.format.Pool.{utf8, text_or_none}
use Rattle.objects.specs.linking.Members.{is_static}
use Rattle.objects.specs.linking.StaticBases.{base_of}
use Rattle.objects.specs.linking.Superclasses.{class_named, super_name, with_above, upward}
use Rattle.objects.specs.linking.Classes.{Declared, full_name}
use Rattle.objects.specs.semantics.Program.{Field, Program, field_at}
use Rattle.objects.specs.linking.Resolution.{is_interface}
use Rattle.objects.specs.linking.Decoding.{is_field_of}
use Rattle.objects.specs.linking.Constructs.{is_floating}
use Rattle.objects.specs.linking.Layout.{field_type, words_upward, field_record, if_not, fields_behind, class_fields, fields_from, fields_of}
use Rattle.objects.specs.laws.LinkingLaw.{AreRead}
use Rattle.objects.proofs.Items.{IsAt, later, either_part, in_front_part, in_back_part, placed, places}
use Rattle.objects.proofs.DeclaredMembers.{same_class, same_field}
use Rattle.objects.proofs.Links.{IsLinkedTo}

-- ---- from which members they come

-- a field of this class's members, behind so many
pub record IsFieldBehind (cs : List ClassFile) (n : ℕ) (c : ClassFile) (many : ℕ) (ms : List Member) (F : Field) : Type 0 where
  pub member : Member
  pub index : ℕ
  pub inside : IsAt ms member
  pub kept : is_floating (field_type c.pool member) ≡ false
  pub is : F ≡ field_record cs n c member index
  pub few : index < many + length ms

-- of a list with one more, which is left out or not
shown : {A : Type 0} (Rule : Type 0) (b : Bool) (x : A) (xs : List A) (i : ℕ) (y : A) → slice_get (if_not b x xs) i ≡ Some y → (b ≡ false → x ≡ y → Rule) → ((j : ℕ) → slice_get xs j ≡ Some y → Rule) → Rule
shown Rule true x xs i y e first rest = rest i e
shown Rule false x xs zero y e first rest = first refl (cc)
shown Rule false x xs (suc i) y e first rest = rest i e

behind : (cs : List ClassFile) (n : ℕ) (c : ClassFile) (s w : ℕ) (ms : List Member) (i : ℕ) (F : Field) → slice_get (fields_behind cs n c s w ms) i ≡ Some F → IsFieldBehind cs n c (s + w) ms F
behind cs n c s w [] i F e = cc
behind cs n c s w (m ∷ ms) i F e = go (is_static m) e (λ j h. behind cs n c (suc s) w ms j F h) (λ j h. behind cs n c s (suc w) ms j F h)
  where
    further : (many : ℕ) → many ≡ suc (s + w) → IsFieldBehind cs n c many ms F → IsFieldBehind cs n c (s + w) (m ∷ ms) F
    further many same r = record { member = r.member; index = r.index; inside = later m ms r.member r.inside; kept = r.kept; is = r.is; few = let f = r.few in omega (arith, f, same) }

    go : (b : Bool)
        → slice_get (if b then if_not (is_floating (field_type c.pool m)) (field_record cs n c m s) (fields_behind cs n c (suc s) w ms)
        else if_not (is_floating (field_type c.pool m)) (field_record cs n c m w) (fields_behind cs n c s (suc w) ms)) i ≡ Some F
        → ((j : ℕ) → slice_get (fields_behind cs n c (suc s) w ms) j ≡ Some F → IsFieldBehind cs n c (suc s + w) ms F)
        → ((j : ℕ) → slice_get (fields_behind cs n c s (suc w) ms) j ≡ Some F → IsFieldBehind cs n c (s + suc w) ms F) → IsFieldBehind cs n c (s + w) (m ∷ ms) F
    go true e statics words = shown (IsFieldBehind cs n c (s + w) (m ∷ ms) F) (is_floating (field_type c.pool m)) (field_record cs n c m s) (fields_behind cs n c (suc s) w ms) i F e
        (λ kept same. record { member = m; index = s; inside = (0, refl); kept = kept; is = sym same; few = omega arith })
        (λ j h. further (suc s + w) (omega arith) (statics j h))
    go false e statics words = shown (IsFieldBehind cs n c (s + w) (m ∷ ms) F) (is_floating (field_type c.pool m)) (field_record cs n c m w) (fields_behind cs n c s (suc w) ms) i F e
        (λ kept same. record { member = m; index = w; inside = (0, refl); kept = kept; is = sym same; few = omega arith })
        (λ j h. further (s + suc w) (omega arith) (words j h))

-- each member that is no float and no double has one
has_behind : (cs : List ClassFile) (n : ℕ) (c : ClassFile) (m : Member) → is_floating (field_type c.pool m) ≡ false → (s w : ℕ) (ms : List Member) → IsAt ms m → (index : ℕ) × IsAt (fields_behind cs n c s w ms) (field_record cs n c m index)
has_behind cs n c m kept s w ms h = go s w ms h.0 h.1
  where
    shows : (b : Bool) (x : Field) (xs : List Field) (y : Field) → IsAt xs y → IsAt (if_not b x xs) y
    shows true x xs y h = h
    shows false x xs y h = later x xs y h

    first : (b : Bool) (x : Field) (xs : List Field) → b ≡ false → IsAt (if_not b x xs) x
    first true x xs e = cc
    first false x xs e = (0, refl)

    one : (s w : ℕ) (o : Member) (ms : List Member) → o ≡ m → (index : ℕ) × IsAt (fields_behind cs n c s w (o ∷ ms)) (field_record cs n c m index)
    one s w o ms same = by (is_static o)
      where
        kept_o : is_floating (field_type c.pool o) ≡ false
        kept_o = ap (λ m. is_floating (field_type c.pool m)) same ∙ kept

        at : (k : ℕ) (rest : List Field) → IsAt (if_not (is_floating (field_type c.pool o)) (field_record cs n c o k) rest) (field_record cs n c m k)
        at k rest = subst (λ (m : Member). IsAt (if_not (is_floating (field_type c.pool o)) (field_record cs n c o k) rest) (field_record cs n c m k)) same (first (is_floating (field_type c.pool o)) (field_record cs n c o k) rest kept_o)

        by : (b : Bool) → (index : ℕ) × IsAt (if b then if_not (is_floating (field_type c.pool o)) (field_record cs n c o s) (fields_behind cs n c (suc s) w ms)
            else if_not (is_floating (field_type c.pool o)) (field_record cs n c o w) (fields_behind cs n c s (suc w) ms)) (field_record cs n c m index)
        by true = (s, at s (fields_behind cs n c (suc s) w ms))
        by false = (w, at w (fields_behind cs n c s (suc w) ms))

    go : (s w : ℕ) (ms : List Member) (i : ℕ) → slice_get ms i ≡ Some m → (index : ℕ) × IsAt (fields_behind cs n c s w ms) (field_record cs n c m index)
    go s w [] i e = cc
    go s w (o ∷ ms) zero e = one s w o ms (cc)
    go s w (o ∷ ms) (suc i) e = by (is_static o) (go (suc s) w ms i e) (go s (suc w) ms i e)
      where
        by : (b : Bool) → (index : ℕ) × IsAt (fields_behind cs n c (suc s) w ms) (field_record cs n c m index) → (index : ℕ) × IsAt (fields_behind cs n c s (suc w) ms) (field_record cs n c m index)
            → (index : ℕ) × IsAt (if b then if_not (is_floating (field_type c.pool o)) (field_record cs n c o s) (fields_behind cs n c (suc s) w ms)
            else if_not (is_floating (field_type c.pool o)) (field_record cs n c o w) (fields_behind cs n c s (suc w) ms)) (field_record cs n c m index)
        by true a b = (a.0, shows (is_floating (field_type c.pool o)) (field_record cs n c o s) _ _ a.1)
        by false a b = (b.0, shows (is_floating (field_type c.pool o)) (field_record cs n c o w) _ _ b.1)

-- a field of the program, with its class among the others
pub record IsFieldFrom (cs ds : List ClassFile) (first : ℕ) (F : Field) : Type 0 where
  pub class : ClassFile
  pub number : ℕ
  pub there : slice_get ds number ≡ Some class
  pub plain : is_interface class ≡ false
  pub member : IsFieldBehind cs (first + number) class (length (words_upward cs (super_name class))) class.fields F

pub field_from : (cs : List ClassFile) (n : ℕ) (ds : List ClassFile) (F : Field) → IsAt (fields_from cs n ds) F → IsFieldFrom cs ds n F
field_from cs n [] F h = cc
field_from cs n (d ∷ ds) F h = elim (either_part (class_fields cs n d) (fields_from cs (suc n) ds) F h) [ inl a ↦ here (is_interface d) refl a | inr a ↦ further (field_from cs (suc n) ds F a) ]
  where
    here : (b : Bool) → is_interface d ≡ b → IsAt (if b then [] else fields_behind cs n d 0 (length (words_upward cs (super_name d))) d.fields) F → IsFieldFrom cs (d ∷ ds) n F
    here true is h = cc
    here false is h =
        let r = behind cs n d 0 (length (words_upward cs (super_name d))) d.fields h.0 F h.1 in
        let z : n + 0 ≡ n = omega arith in
        let w : 0 + length (words_upward cs (super_name d)) ≡ length (words_upward cs (super_name d)) = omega arith in
        record { class = d; number = 0; there = refl; plain = is; member = rw (z, ← w) r }

    further : IsFieldFrom cs ds (suc n) F → IsFieldFrom cs (d ∷ ds) n F
    further r =
        let z : n + suc r.number ≡ suc n + r.number = omega arith in
        record { class = r.class; number = suc r.number; there = r.there; plain = r.plain; member = rw z r.member }

has_field : (cs : List ClassFile) (n : ℕ) (ds : List ClassFile) (c : ClassFile) (m : Member) → IsAt ds c → is_interface c ≡ false → IsAt c.fields m → is_floating (field_type c.pool m) ≡ false
    → (k : ℕ) × (index : ℕ) × IsAt (fields_from cs n ds) (field_record cs k c m index)
has_field cs n ds c m h plain inside kept = go n ds h.0 h.1
  where
    here : (n : ℕ) (d : ClassFile) (ds : List ClassFile) → d ≡ c → (k : ℕ) × (index : ℕ) × IsAt (fields_from cs n (d ∷ ds)) (field_record cs k c m index)
    here n d ds same =
        let r = has_behind cs n c m kept 0 (length (words_upward cs (super_name c))) c.fields inside in
        let all : class_fields cs n c ≡ fields_behind cs n c 0 (length (words_upward cs (super_name c))) c.fields = ap (λ b. if b then [] else fields_behind cs n c 0 (length (words_upward cs (super_name c))) c.fields) plain in
        let at : IsAt (class_fields cs n c) (field_record cs n c m r.0) = subst (λ (l : List Field). IsAt l (field_record cs n c m r.0)) (sym all) r.1 in
        (n, r.0, in_front_part (class_fields cs n d) (fields_from cs (suc n) ds) (field_record cs n c m r.0) (subst (λ (d : ClassFile). IsAt (class_fields cs n d) (field_record cs n c m r.0)) (sym same) at))

    go : (n : ℕ) (ds : List ClassFile) (i : ℕ) → slice_get ds i ≡ Some c → (k : ℕ) × (index : ℕ) × IsAt (fields_from cs n ds) (field_record cs k c m index)
    go n [] i e = cc
    go n (d ∷ ds) zero e = here n d ds (cc)
    go n (d ∷ ds) (suc i) e = let r = go (suc n) ds i e in (r.0, r.1, in_back_part (class_fields cs n d) (fields_from cs (suc n) ds) _ r.2)

-- ---- numbers

both : (a b : Bool) → (a && b) ≡ true → (a ≡ true) × (b ≡ true)
both true b e = (refl, e)
both false b e = cc

same_bytes : (x y : List ℕ) → bytes_eq x y ≡ true → x ≡ y
same_bytes x y e = (bytes_eq-Decides x y).0 e

-- a field that code may use has a number
pub has_number : (cs : List ClassFile) (k : Declared) → IsAt cs k.class → IsAt k.class.fields k.member → is_interface k.class ≡ false → is_floating (field_type k.class.pool k.member) ≡ false → (i : ℕ) × (position (is_field_of (full_name k)) (fields_of cs) ≡ Some i)
has_number cs k at inside plain kept =
    let r = has_field cs 0 cs k.class k.member at plain inside kept in
    let n = (bytes_eq-Decides (full_name k).name (full_name k).name).1 refl in
    let d = (bytes_eq-Decides (full_name k).descriptor (full_name k).descriptor).1 refl in
    let c = (bytes_eq-Decides (full_name k).class (full_name k).class).1 refl in
    places (is_field_of (full_name k)) (fields_of cs) (field_record cs r.0 k.class k.member r.1) r.2 (rw (n, d, c) refl)

-- the field of a number is that of a member
pub record HasFieldOf (cs : List ClassFile) (P : Program) (i : ℕ) (k : Declared) : Type 0 where
  pub field : Field
  pub there : field_at P i ≡ Some field
  pub number : ℕ
  pub is : field.base ≡ (if is_static k.member then Some (base_of cs number) else None)

module _ (cs : List ClassFile) (P : Program) (read : AreRead cs) (l : IsLinkedTo cs P) where
  fields_are : P.fields ≡ fields_of cs
  fields_are = ap (λ (P : Program). P.fields) l.is

  pub numbered_field : (k : Declared) (i : ℕ) → IsAt cs k.class → IsAt k.class.fields k.member → position (is_field_of (full_name k)) (fields_of cs) ≡ Some i → HasFieldOf cs P i k
  numbered_field k i at inside e =
      let p = placed (is_field_of (full_name k)) (fields_of cs) i e in
      let r = field_from cs 0 cs p.0 (i, p.1) in
      let a = both (bytes_eq p.0.name (full_name k).name) (bytes_eq p.0.descriptor (full_name k).descriptor && bytes_eq p.0.class (full_name k).class) p.2 in
      let b = both (bytes_eq p.0.descriptor (full_name k).descriptor) (bytes_eq p.0.class (full_name k).class) a.1 in
      let class : r.class ≡ k.class = same_class cs read r.class k.class (r.number, r.there) at (sym (ap (λ (F : Field). F.class) r.member.is) ∙ same_bytes _ _ b.1) in
      let name = sym (ap (λ (F : Field). F.name) r.member.is) ∙ same_bytes p.0.name _ a.0 in
      let descriptor = sym (ap (λ (F : Field). F.descriptor) r.member.is) ∙ same_bytes p.0.descriptor _ b.0 in
      let same : r.member.member ≡ k.member = one r.class r.member.member (r.number, r.there) r.member.inside k.class k.member class inside name descriptor in
      record {
        field = p.0;
        there = ap (λ (fs : List Field). slice_get fs i) fields_are ∙ p.1;
        number = 0 + r.number;
        is = ap (λ (F : Field). F.base) r.member.is ∙ ap (λ (m : Member). if is_static m then Some (base_of cs (0 + r.number)) else None) same;
      }
    where
      one : (c : ClassFile) (m : Member) → IsAt cs c → IsAt c.fields m → (d : ClassFile) (o : Member) → c ≡ d → IsAt d.fields o → text_or_none (utf8 c.pool m.name) ≡ text_or_none (utf8 d.pool o.name)
          → text_or_none (utf8 c.pool m.descriptor) ≡ text_or_none (utf8 d.pool o.descriptor) → m ≡ o
      one c m at x d o s y n e =
          same_field cs read c m o at x (subst (λ (d : ClassFile). IsAt d.fields o) (sym s) y) (n ∙ ap (λ (d : ClassFile). text_or_none (utf8 d.pool o.name)) (sym s)) (e ∙ ap (λ (d : ClassFile). text_or_none (utf8 d.pool o.descriptor)) (sym s))

-- ---- where they lie

bounded : {A : Type 0} (f : A → ℕ) (b : ℕ) (xs : List A) → ((x : A) → IsAt xs x → f x ≤ b) → sum_by f xs ≤ length xs * b
bounded f b [] h = omega arith
bounded f b (x ∷ xs) h =
    let first : f x ≤ b = h x (0, refl) in
    let rest : sum_by f xs ≤ length xs * b = bounded f b xs (λ y at. h y (later x xs y at)) in
    let more : length (x ∷ xs) * b ≡ b + length xs * b = omega arith in
    omega (arith, sum_by-cons f x xs, first, rest, more)

upward_few : (cs : List ClassFile) (n : ℕ) (name : List ℕ) → length (upward cs n name) ≤ n
upward_few cs zero name = omega arith
upward_few cs (suc n) name = go (class_named cs name) (λ d. upward_few cs n (super_name d))
  where
    go : (o : Option ClassFile) → ((d : ClassFile) → length (upward cs n (super_name d)) ≤ n) → length (with_above (λ c. upward cs n (super_name c)) o) ≤ suc n
    go None rest = omega arith
    go (Some d) rest = let r = rest d in omega (arith, r)
