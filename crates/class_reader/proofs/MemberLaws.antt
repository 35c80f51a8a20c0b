-- Fields and methods: what is read is spelled so, and what is spelled so is read.
use Rattle.std.proofs.Common.{◌≡◌, ℕ, zero, suc, ◌+◌, ◌^◌, ◌<◌, ◌≤◌, Bool, true, false, not, cond, ◌||◌, List, [], ◌∷◌, ◌++◌, length, Option, Some, None, Result, Ok, Err, refl, sym, ap, subst, ◌∙◌, append_assoc, arith}
use Rattle.std.specs.Prelude.{is_some, IsSome, IsSomeAnd, pos, codes}
use Rattle.std.specs.Result.{result_ok}
use Rattle.std.specs.Int.{w16}
use Rattle.std.specs.List.{AllByRecursion, flat_map}
use Rattle.std.proofs.lemmas.List.Concat.{flat_map-cons}
use Rattle.jmodel.specs.declared.refusal.Refusal.{Refusal}
use Rattle.jmodel.specs.declared.refusal.Refusal.TheVariants.{BadCode, BadDescriptor}
use Rattle.jmodel.specs.format.ClassFile.{Pool, Attribute, Member, Code, u2, u4, attribute, attributes, member, members}
use Rattle.jmodel.specs.format.Pool.{utf8}
use Rattle.jmodel.specs.format.Descriptor.{IsFieldDescriptor, IsMethodDescriptor}
use Rattle.jmodel.specs.format.DescriptorReading.{is_field_descriptor, is_method_descriptor}
use Rattle.jmodel.specs.format.ClassRules.{IsTwoBytes, IsAttribute, AreAttributes, SpellsCode, is_named, named_attributes, has_no_code, AreCodes, IsMember, IsField, IsMethod}
use Rattle.jmodel.specs.format.Reading.{◌>>=◌, u2_at, items_at}
use Rattle.jmodel.specs.format.PoolReading.{utf8_at, want_descriptor}
use Rattle.jmodel.specs.format.ClassReading.{attribute_at, attributes_at, code_at, code_of}
use Rattle.jmodel.specs.format.ClassFileReading.{full_name, descriptor_fits, MemberHead, member_head_at, member_of, field_at, Found, judge, method_attribute_at, method_attributes_at, method_at, members_at}
use Rattle.const_pool.proofs.Takes.{bind_ok, ok_is, want_ok, IsBytes, IsBytes-part, Takes, Takes-nothing, Takes-then, Takes-first, Takes-second, wide16, number_takes, number_again, counted_take, counted_again}
use Rattle.const_pool.proofs.Uses.{text_read}
use Rattle.const_pool.proofs.Named.{some_is, the_some, utf8_again}
use Rattle.const_pool.proofs.Signatures.{is_field, field_is, is_method, method_is}
use Rattle.const_pool.proofs.Parts.{regrouped, attribute_takes, attribute_again, attributes_take, attributes_again, code_takes, code_again}

always : {A : Type 0} (b : Bool) (d : Refusal) (y : A) → cond (b || not b) (Ok y) (Err d) ≡ Ok y
always true d y = refl
always false d y = refl

module _ (pool : Pool) (bytes : List ℕ) where
  -- ---- what members begin with

  abbrev pub head_text : MemberHead → List ℕ
  head_text h = u2 h.flags ++ (u2 h.name ++ u2 h.descriptor)

  pub record IsMemberHead (p : List ℕ → Bool) (h : MemberHead) : Type 0 where
    pub flags : IsTwoBytes h.flags
    pub name : IsTwoBytes h.name
    pub descriptor : IsTwoBytes h.descriptor
    pub named : IsSome (utf8 pool h.name)
    pub typed : IsSomeAnd (utf8 pool h.descriptor) (λ t. p t ≡ true)

  fits_named : (p : List ℕ → Bool) (i : ℕ) → descriptor_fits pool p i ≡ Ok tt → IsSomeAnd (utf8 pool i) (λ t. p t ≡ true)
  unfolding descriptor_fits
  fits_named p i e =
      let a = bind_ok (utf8_at pool i) (λ t. want_descriptor (p t) i) tt e in
      let w = want_ok (p a.0) (BadDescriptor (pos i)) (Ok tt) tt a.2 in
      rw (text_read pool i a.0 a.1) w.0

  the_and : (o : Option (List ℕ)) (P : List ℕ → Type 0) → IsSomeAnd o P → (x : List ℕ) × (o ≡ Some x) × P x
  the_and None P h = absurd h
  the_and (Some x) P h = (x, refl, h)

  weaken : (o : Option (List ℕ)) (P Q : List ℕ → Type 0) → ((x : List ℕ) → P x → Q x) → IsSomeAnd o P → IsSomeAnd o Q
  weaken None P Q f h = h
  weaken (Some x) P Q f h = f x h

  head_takes : (p : List ℕ → Bool) → IsBytes bytes → (at : ℕ) (x : MemberHead × ℕ) → member_head_at pool p bytes at ≡ Ok x → Takes bytes at (head_text x.0) x.1 × IsMemberHead p x.0
  unfolding member_head_at
  head_takes p fits at x e =
      let a = bind_ok (u2_at bytes at) (λ flags. u2_at bytes flags.1 >>= λ name. utf8_at pool name.0 >>= λ _. u2_at bytes name.1 >>= λ d. descriptor_fits pool p d.0 >>= λ _. Ok (record { flags = flags.0; name = name.0; descriptor = d.0 }, d.1)) x e in
      let b = bind_ok (u2_at bytes a.0.1) (λ name. utf8_at pool name.0 >>= λ _. u2_at bytes name.1 >>= λ d. descriptor_fits pool p d.0 >>= λ _. Ok (record { flags = a.0.0; name = name.0; descriptor = d.0 }, d.1)) x a.2 in
      let c = bind_ok (utf8_at pool b.0.0) (λ _. u2_at bytes b.0.1 >>= λ d. descriptor_fits pool p d.0 >>= λ _. Ok (record { flags = a.0.0; name = b.0.0; descriptor = d.0 }, d.1)) x b.2 in
      let d = bind_ok (u2_at bytes b.0.1) (λ d. descriptor_fits pool p d.0 >>= λ _. Ok (record { flags = a.0.0; name = b.0.0; descriptor = d.0 }, d.1)) x c.2 in
      let f = bind_ok (descriptor_fits pool p d.0.0) (λ _. Ok (record { flags = a.0.0; name = b.0.0; descriptor = d.0.0 }, d.0.1)) x d.2 in
      let t0 = number_takes w16 (2 ^ 16) wide16 bytes at a.0 fits a.1 in
      let t1 = number_takes w16 (2 ^ 16) wide16 bytes a.0.1 b.0 fits b.1 in
      let t2 = number_takes w16 (2 ^ 16) wide16 bytes b.0.1 d.0 fits d.1 in
      let e2 = Takes-then bytes a.0.1 (u2 b.0.0) b.0.1 (u2 d.0.0) d.0.1 t1.0 t2.0 in
      let e1 = Takes-then bytes at (u2 a.0.0) a.0.1 (u2 b.0.0 ++ u2 d.0.0) d.0.1 t0.0 e2 in
      let made : MemberHead × ℕ = (record { flags = a.0.0; name = b.0.0; descriptor = d.0.0 }, d.0.1) in
      subst (λ (y : MemberHead × ℕ). Takes bytes at (head_text y.0) y.1 × IsMemberHead p y.0) (ok_is made x f.2) (e1, record { flags = t0.1; name = t1.1; descriptor = t2.1; named = some_is (utf8 pool b.0.0) c.0 (text_read pool b.0.0 c.0 c.1); typed = fits_named p d.0.0 f.1 })

  head_again : (p : List ℕ → Bool) (at : ℕ) (h : MemberHead) (next : ℕ) → IsMemberHead p h → Takes bytes at (head_text h) next → member_head_at pool p bytes at ≡ Ok (h, next)
  unfolding member_head_at descriptor_fits
  head_again p at h next r t =
      let r0 = Takes-second bytes at (u2 h.flags) (u2 h.name ++ u2 h.descriptor) next t in
      let flags = number_again w16 (2 ^ 16) wide16 bytes at h.flags (at + 2) r.flags (Takes-first bytes at (u2 h.flags) (u2 h.name ++ u2 h.descriptor) next t) in
      let name = number_again w16 (2 ^ 16) wide16 bytes (at + 2) h.name (at + 2 + 2) r.name (Takes-first bytes (at + 2) (u2 h.name) (u2 h.descriptor) next r0) in
      let descriptor = number_again w16 (2 ^ 16) wide16 bytes (at + 2 + 2) h.descriptor next r.descriptor (Takes-second bytes (at + 2) (u2 h.name) (u2 h.descriptor) next r0) in
      let n = the_some (utf8 pool h.name) r.named in
      let d = the_and (utf8 pool h.descriptor) (λ t. p t ≡ true) r.typed in
      rw (flags, name, utf8_again pool h.name n.0 n.1, descriptor, utf8_again pool h.descriptor d.0 d.1, d.2) refl

  -- ---- fields

  abbrev whole : MemberHead → List Attribute → List ℕ
  whole h xs = head_text h ++ attributes xs

  whole_is : (h : MemberHead) (xs : List Attribute) → whole h xs ≡ member (member_of h xs)
  whole_is h xs = simp append_assoc

  made_member : (p : List ℕ → Bool) (Fits : List ℕ → Type 0) → ((t : List ℕ) → p t ≡ true → Fits t) → (h : MemberHead) (xs : List Attribute) → IsMemberHead p h → AreAttributes pool xs → IsMember pool Fits (member_of h xs)
  made_member p Fits f h xs r a = record { flags = r.flags; name = r.name; descriptor = r.descriptor; named = r.named; typed = weaken (utf8 pool h.descriptor) (λ t. p t ≡ true) Fits f r.typed; attributes = a }

  abbrev head_of : Member → MemberHead
  head_of m = record { flags = m.flags; name = m.name; descriptor = m.descriptor }

  member_head : (p : List ℕ → Bool) (Fits : List ℕ → Type 0) → ((t : List ℕ) → Fits t → p t ≡ true) → (m : Member) → IsMember pool Fits m → IsMemberHead p (head_of m)
  member_head p Fits f m r = record { flags = r.flags; name = r.name; descriptor = r.descriptor; named = r.named; typed = weaken (utf8 pool m.descriptor) Fits (λ t. p t ≡ true) f r.typed }

  pub field_takes : IsBytes bytes → (at : ℕ) (m : Member) (next : ℕ) → field_at pool bytes at ≡ Ok (m, next) → Takes bytes at (member m) next × IsField pool m
  unfolding field_at
  field_takes fits at m next e =
      let a = bind_ok (member_head_at pool is_field_descriptor bytes at) (λ head. attributes_at pool bytes head.1 >>= λ xs. Ok (member_of head.0 xs.0, xs.1)) (m, next) e in
      let b = bind_ok (attributes_at pool bytes a.0.1) (λ xs. Ok (member_of a.0.0 xs.0, xs.1)) (m, next) a.2 in
      let t0 = head_takes is_field_descriptor fits at a.0 a.1 in
      let t1 = attributes_take pool bytes fits a.0.1 b.0 b.1 in
      let both = Takes-then bytes at (head_text a.0.0) a.0.1 (attributes b.0.0) b.0.1 t0.0 t1.0 in
      let all = regrouped bytes at b.0.1 (whole a.0.0 b.0.0) (member (member_of a.0.0 b.0.0)) (whole_is a.0.0 b.0.0) both in
      subst (λ (y : Member × ℕ). Takes bytes at (member y.0) y.1 × IsField pool y.0) (ok_is (member_of a.0.0 b.0.0, b.0.1) (m, next) b.2) (all, made_member is_field_descriptor IsFieldDescriptor is_field a.0.0 b.0.0 t0.1 t1.1)

  pub field_again : (at : ℕ) (m : Member) (next : ℕ) → IsField pool m → Takes bytes at (member m) next → field_at pool bytes at ≡ Ok (m, next)
  unfolding field_at
  field_again at m next r t =
      let all = regrouped bytes at next (member m) (whole (head_of m) m.attributes) (sym (whole_is (head_of m) m.attributes)) t in
      let head = head_again is_field_descriptor at (head_of m) (at + 6) (member_head is_field_descriptor IsFieldDescriptor field_is m r) (Takes-first bytes at (head_text (head_of m)) (attributes m.attributes) next all) in
      let rest = attributes_again pool bytes m.attributes (at + 6) next r.attributes (Takes-second bytes at (head_text (head_of m)) (attributes m.attributes) next all) in
      rw (head, rest) refl

  -- ---- methods: their Code where it stands

  -- what a method's attribute is, and whether a Code is found before and behind it
  abbrev pub MarkOne : Bool → Bool → Bool → Bool → Attribute → Type 0
  MarkOne true none found now a = (none ≡ false) × (found ≡ false) × (now ≡ true) × ((k : Code) × SpellsCode pool a.bytes k)
  MarkOne false none found now a = now ≡ found

  abbrev pub Marks : Bool → Bool → List Attribute → Bool → Type 0
  Marks none found [] last = found ≡ last
  Marks none found (a ∷ xs) last = (now : Bool) × MarkOne (is_named pool (codes "Code") a) none found now a × Marks none now xs last

  coded : (text : List ℕ) → IsBytes text → is_some (code_of pool text) ≡ true → (k : Code) × SpellsCode pool text k
  coded text fits e = by_read (code_at pool text) refl e where
    by_read : (r : Result Code Refusal) → code_at pool text ≡ r → is_some (result_ok r) ≡ true → (k : Code) × SpellsCode pool text k
    by_read (Ok k) p h = (k, code_takes pool text fits k p)
    by_read (Err d) p h = absurd cc

  judged : (none : Bool) (who : List ℕ) (found : Bool) (a : Attribute) (now : Bool) → IsBytes a.bytes → judge pool none who found a ≡ Ok now → MarkOne (is_named pool (codes "Code") a) none found now a
  judged none who found a now fits e = by_name (is_named pool (codes "Code") a) e where
    by_flags : (n f k : Bool) → none ≡ n → found ≡ f → is_some (code_of pool a.bytes) ≡ k → cond ((n || f) || not k) (Err (BadCode who)) (Ok true) ≡ Ok now → MarkOne true none found now a
    by_flags true f k p q r h = absurd cc
    by_flags false true k p q r h = absurd cc
    by_flags false false false p q r h = absurd cc
    by_flags false false true p q r h = (p, q, sym (ok_is true now h), coded a.bytes fits r)

    by_name : (b : Bool) → cond b (cond ((none || found) || not (is_some (code_of pool a.bytes))) (Err (BadCode who)) (Ok true)) (Ok found) ≡ Ok now → MarkOne b none found now a
    by_name true h = by_flags none found (is_some (code_of pool a.bytes)) refl refl refl h
    by_name false h = sym (ok_is found now h)

  bytes_of : IsBytes bytes → (at : ℕ) (a : Attribute) (next : ℕ) → Takes bytes at (attribute a) next → IsBytes a.bytes
  bytes_of fits at a next t = IsBytes-part bytes (at + 6) a.bytes next fits (Takes-second bytes at (u2 a.name ++ u4 (length a.bytes)) a.bytes next t)

  abbrev pub state : Bool → ℕ → Found
  state found at = record { found = found; at = at }

  pub record AreMarked (none found : Bool) (n at : ℕ) (xs : List Attribute) (s : Found) : Type 0 where
    pub takes : Takes bytes at (flat_map attribute xs) s.at
    pub count : length xs ≡ n
    pub each : AllByRecursion (IsAttribute pool) xs
    pub marks : Marks none found xs s.found

  marked : (none : Bool) (who : List ℕ) → IsBytes bytes → (n : ℕ) (found : Bool) (at : ℕ) (x : List Attribute × Found) → at ≤ length bytes → items_at (method_attribute_at pool none who bytes) n (state found at) ≡ Ok x → AreMarked none found n at x.0 x.1
  unfolding items_at method_attribute_at
  marked none who fits zero found at x le e =
      subst (λ (y : List Attribute × Found). AreMarked none found 0 at y.0 y.1) (ok_is ([], state found at) x e) (record { takes = Takes-nothing bytes at le; count = refl; each = tt; marks = refl })
  marked none who fits (suc n) found at x le e =
      let a = bind_ok (method_attribute_at pool none who bytes (state found at)) (λ first. items_at (method_attribute_at pool none who bytes) n first.1 >>= λ others. Ok (first.0 ∷ others.0, others.1)) x e in
      let b = bind_ok (items_at (method_attribute_at pool none who bytes) n a.0.1) (λ others. Ok (a.0.0 ∷ others.0, others.1)) x a.2 in
      let c = bind_ok (attribute_at pool bytes at) (λ r. judge pool none who found r.0 >>= λ now. Ok (r.0, state now r.1)) a.0 a.1 in
      let d = bind_ok (judge pool none who found c.0.0) (λ now. Ok (c.0.0, state now c.0.1)) a.0 c.2 in
      let one = attribute_takes pool bytes fits at c.0.0 c.0.1 c.1 in
      let mark = judged none who found c.0.0 d.0 (bytes_of fits at c.0.0 c.0.1 one.0) d.1 in
      let is : (c.0.0, state d.0 c.0.1) ≡ a.0 = ok_is (c.0.0, state d.0 c.0.1) a.0 d.2 in
      let rest : items_at (method_attribute_at pool none who bytes) n (state d.0 c.0.1) ≡ Ok b.0 = ap (λ (y : Attribute × Found). items_at (method_attribute_at pool none who bytes) n y.1) is ∙ b.1 in
      let others = marked none who fits n d.0 c.0.1 b.0 one.0.inside rest in
      let both = Takes-then bytes at (attribute c.0.0) c.0.1 (flat_map attribute b.0.0) b.0.1.at one.0 others.takes in
      let made : AreMarked none found (suc n) at (c.0.0 ∷ b.0.0) b.0.1 = record { takes = rw flat_map-cons both; count = ap suc others.count; each = (one.1, others.each); marks = (d.0, mark, others.marks) } in
      let same : (c.0.0 ∷ b.0.0, b.0.1) ≡ x = ap (λ (y : Attribute × Found). (y.0 ∷ b.0.0, b.0.1)) is ∙ ok_is (a.0.0 ∷ b.0.0, b.0.1) x b.2 in
      subst (λ (y : List Attribute × Found). AreMarked none found (suc n) at y.0 y.1) same made

  rejudged : (none : Bool) (who : List ℕ) (found now : Bool) (a : Attribute) → MarkOne (is_named pool (codes "Code") a) none found now a → judge pool none who found a ≡ Ok now
  rejudged none who found now a m = by_name (is_named pool (codes "Code") a) m where
    by_name : (b : Bool) → MarkOne b none found now a → cond b (cond ((none || found) || not (is_some (code_of pool a.bytes))) (Err (BadCode who)) (Ok true)) (Ok found) ≡ Ok now
    by_name true h =
        let k : code_of pool a.bytes ≡ Some h.3.0 = ap result_ok (code_again pool a.bytes h.3.0 h.3.1) in
        rw (h.0, h.1, k, h.2) refl
    by_name false h = ap (λ (b : Bool). Ok b) (sym h)

  remarked : (none : Bool) (who : List ℕ) (xs : List Attribute) (found last : Bool) (at next : ℕ) → AllByRecursion (IsAttribute pool) xs → Marks none found xs last → Takes bytes at (flat_map attribute xs) next → items_at (method_attribute_at pool none who bytes) (length xs) (state found at) ≡ Ok (xs, state last next)
  unfolding items_at method_attribute_at
  remarked none who [] found last at next h m t = let stays : at ≡ next = omega (arith, t.moved) in rw (m, stays) refl
  remarked none who (a ∷ xs) found last at next h m t =
      let all : Takes bytes at (attribute a ++ flat_map attribute xs) next = rw flat_map-cons at t in
      let one = attribute_again pool bytes at a (at + length (attribute a)) h.0 (Takes-first bytes at (attribute a) (flat_map attribute xs) next all) in
      let others = remarked none who xs m.0 last (at + length (attribute a)) next h.1 m.2 (Takes-second bytes at (attribute a) (flat_map attribute xs) next all) in
      rw (one, rejudged none who found m.0 a m.1, others) refl

  -- ---- the marks and the Code attributes

  abbrev named_code : List Attribute → List Attribute
  named_code xs = named_attributes pool (codes "Code") xs

  abbrev sifted : Bool → Attribute → List Attribute → List Attribute
  sifted b a xs = cond b (a ∷ named_code xs) (named_code xs)

  none_after : (none : Bool) (xs : List Attribute) (last : Bool) → Marks none true xs last → (named_code xs ≡ []) × (last ≡ true)
  none_after none [] last m = (refl, sym m)
  none_after none (a ∷ xs) last m = by_name (is_named pool (codes "Code") a) m.1 (λ now. none_after none xs last now) where
    by_name : (b : Bool) → MarkOne b none true m.0 a → ((Marks none true xs last) → (named_code xs ≡ []) × (last ≡ true)) → (sifted b a xs ≡ []) × (last ≡ true)
    by_name true h others = absurd cc
    by_name false h others = others (subst (λ (b : Bool). Marks none b xs last) h m.2)

  abbrev Coded : Bool → Bool → List Attribute → Type 0
  Coded none true ys = (none ≡ false) × ((a : Attribute) × (k : Code) × (ys ≡ a ∷ []) × SpellsCode pool a.bytes k)
  Coded none false ys = ys ≡ []

  coded_marks : (none : Bool) (xs : List Attribute) (last : Bool) → Marks none false xs last → Coded none last (named_code xs)
  coded_marks none [] true m = absurd cc
  coded_marks none [] false m = refl
  coded_marks none (a ∷ xs) last m = by_name (is_named pool (codes "Code") a) m.1 (λ now. coded_marks none xs last now) where
    by_name : (b : Bool) → MarkOne b none false m.0 a → ((Marks none false xs last) → Coded none last (named_code xs)) → Coded none last (sifted b a xs)
    by_name true h others =
        let n = none_after none xs last (subst (λ (b : Bool). Marks none b xs last) h.2 m.2) in
        subst (λ (b : Bool). Coded none b (a ∷ named_code xs)) (sym n.1) (h.0, (a, h.3.0, ap (λ (ys : List Attribute). a ∷ ys) n.0, h.3.1))
    by_name false h others = others (subst (λ (b : Bool). Marks none b xs last) h m.2)

  codes_of : (none : Bool) (xs : List Attribute) (last : Bool) → (none || last) ≡ true → Coded none last (named_code xs) → AreCodes pool none (named_code xs)
  codes_of true xs true e c = absurd cc
  codes_of true xs false e c = c
  codes_of false xs true e c = c.1
  codes_of false xs false e c = absurd cc

  -- and back
  no_marks : (none found : Bool) (xs : List Attribute) → named_code xs ≡ [] → Marks none found xs found
  no_marks none found [] e = refl
  no_marks none found (a ∷ xs) e = by_name (is_named pool (codes "Code") a) refl e (λ h. no_marks none found xs h) where
    by_name : (b : Bool) → is_named pool (codes "Code") a ≡ b → sifted b a xs ≡ [] → (named_code xs ≡ [] → Marks none found xs found) → (now : Bool) × MarkOne (is_named pool (codes "Code") a) none found now a × Marks none now xs found
    by_name true p h others = absurd cc
    by_name false p h others = (found, rw p refl, others h)

  one_mark : (xs : List Attribute) (c : Attribute) (k : Code) → named_code xs ≡ c ∷ [] → SpellsCode pool c.bytes k → Marks false false xs true
  one_mark [] c k e s = absurd cc
  one_mark (a ∷ xs) c k e s = by_name (is_named pool (codes "Code") a) refl e (λ h. one_mark xs c k h s) where
    by_name : (b : Bool) → is_named pool (codes "Code") a ≡ b → sifted b a xs ≡ c ∷ [] → (named_code xs ≡ c ∷ [] → Marks false false xs true) → (now : Bool) × MarkOne (is_named pool (codes "Code") a) false false now a × Marks false now xs true
    by_name true p h others =
        let same : a ≡ c = cc in
        let rest : named_code xs ≡ [] = cc in
        (true, rw p (refl, refl, refl, (k, subst (λ (x : Attribute). SpellsCode pool x.bytes k) (sym same) s)), no_marks false true xs rest)
    by_name false p h others = (false, rw p refl, others h)

  marks_of : (none : Bool) (xs : List Attribute) → AreCodes pool none (named_code xs) → Marks none false xs (not none)
  marks_of true xs c = no_marks true false xs c
  marks_of false xs c = one_mark xs c.0 c.1 c.2 c.3

  -- ---- the attributes of a method, and methods

  method_attributes_take : (none : Bool) (who : List ℕ) → IsBytes bytes → (at : ℕ) (x : List Attribute × ℕ) → method_attributes_at pool none who bytes at ≡ Ok x → Takes bytes at (attributes x.0) x.1 × AreAttributes pool x.0 × AreCodes pool none (named_code x.0)
  unfolding method_attributes_at
  method_attributes_take none who fits at x e =
      let a = bind_ok (u2_at bytes at) (λ count. items_at (method_attribute_at pool none who bytes) count.0 (state false count.1) >>= λ all. cond (none || all.1.found) (Ok (all.0, all.1.at)) (Err (BadCode who))) x e in
      let b = bind_ok (items_at (method_attribute_at pool none who bytes) a.0.0 (state false a.0.1)) (λ all. cond (none || all.1.found) (Ok (all.0, all.1.at)) (Err (BadCode who))) x a.2 in
      let w = want_ok (none || b.0.1.found) (BadCode who) (Ok (b.0.0, b.0.1.at)) x b.2 in
      let t = number_takes w16 (2 ^ 16) wide16 bytes at a.0 fits a.1 in
      let m = marked none who fits a.0.0 false a.0.1 b.0 t.0.inside b.1 in
      let count : Takes bytes at (u2 (length b.0.0)) a.0.1 = subst (λ (k : ℕ). Takes bytes at (u2 k) a.0.1) (sym m.count) t.0 in
      let both = Takes-then bytes at (u2 (length b.0.0)) a.0.1 (flat_map attribute b.0.0) b.0.1.at count m.takes in
      subst (λ (y : List Attribute × ℕ). Takes bytes at (attributes y.0) y.1 × AreAttributes pool y.0 × AreCodes pool none (named_code y.0)) (ok_is (b.0.0, b.0.1.at) x w.1) (both, record { few = omega (arith, m.count, t.1); each = m.each }, codes_of none b.0.0 b.0.1.found w.0 (coded_marks none b.0.0 b.0.1.found m.marks))

  method_attributes_again : (none : Bool) (who : List ℕ) (xs : List Attribute) (at next : ℕ) → AreAttributes pool xs → AreCodes pool none (named_code xs) → Takes bytes at (attributes xs) next → method_attributes_at pool none who bytes at ≡ Ok (xs, next)
  unfolding method_attributes_at
  method_attributes_again none who xs at next h c t =
      let count = number_again w16 (2 ^ 16) wide16 bytes at (length xs) (at + 2) h.few (Takes-first bytes at (u2 (length xs)) (flat_map attribute xs) next t) in
      let all = remarked none who xs false (not none) (at + 2) next h.each (marks_of none xs c) (Takes-second bytes at (u2 (length xs)) (flat_map attribute xs) next t) in
      rw (count, all) (always none (BadCode who) (xs, next))

  pub method_takes : IsBytes bytes → (at : ℕ) (m : Member) (next : ℕ) → method_at pool bytes at ≡ Ok (m, next) → Takes bytes at (member m) next × IsMethod pool m
  unfolding method_at
  method_takes fits at m next e =
      let a = bind_ok (member_head_at pool is_method_descriptor bytes at) (λ head. method_attributes_at pool (has_no_code head.0.flags) (full_name pool head.0.name head.0.descriptor) bytes head.1 >>= λ xs. Ok (member_of head.0 xs.0, xs.1)) (m, next) e in
      let b = bind_ok (method_attributes_at pool (has_no_code a.0.0.flags) (full_name pool a.0.0.name a.0.0.descriptor) bytes a.0.1) (λ xs. Ok (member_of a.0.0 xs.0, xs.1)) (m, next) a.2 in
      let t0 = head_takes is_method_descriptor fits at a.0 a.1 in
      let t1 = method_attributes_take (has_no_code a.0.0.flags) (full_name pool a.0.0.name a.0.0.descriptor) fits a.0.1 b.0 b.1 in
      let both = Takes-then bytes at (head_text a.0.0) a.0.1 (attributes b.0.0) b.0.1 t0.0 t1.0 in
      let all = regrouped bytes at b.0.1 (whole a.0.0 b.0.0) (member (member_of a.0.0 b.0.0)) (whole_is a.0.0 b.0.0) both in
      subst (λ (y : Member × ℕ). Takes bytes at (member y.0) y.1 × IsMethod pool y.0) (ok_is (member_of a.0.0 b.0.0, b.0.1) (m, next) b.2) (all, record { member = made_member is_method_descriptor IsMethodDescriptor is_method a.0.0 b.0.0 t0.1 t1.1; codes_fit = t1.2 })

  pub method_again : (at : ℕ) (m : Member) (next : ℕ) → IsMethod pool m → Takes bytes at (member m) next → method_at pool bytes at ≡ Ok (m, next)
  unfolding method_at
  method_again at m next r t =
      let all = regrouped bytes at next (member m) (whole (head_of m) m.attributes) (sym (whole_is (head_of m) m.attributes)) t in
      let head = head_again is_method_descriptor at (head_of m) (at + 6) (member_head is_method_descriptor IsMethodDescriptor method_is m r.member) (Takes-first bytes at (head_text (head_of m)) (attributes m.attributes) next all) in
      let rest = method_attributes_again (has_no_code m.flags) (full_name pool m.name m.descriptor) m.attributes (at + 6) next r.member.attributes r.codes_fit (Takes-second bytes at (head_text (head_of m)) (attributes m.attributes) next all) in
      rw (head, rest) refl

  -- ---- all fields, all methods

  pub members_take : (read : ℕ → Result (Member × ℕ) Refusal) (Fits : Member → Type 0) → ((at : ℕ) (m : Member) (next : ℕ) → read at ≡ Ok (m, next) → Takes bytes at (member m) next × Fits m) → IsBytes bytes → (at : ℕ) (x : List Member × ℕ) → members_at read bytes at ≡ Ok x → Takes bytes at (members x.0) x.1 × (length x.0 < 2 ^ 16) × AllByRecursion Fits x.0
  unfolding members_at
  members_take read Fits each fits at x e = counted_take bytes read member Fits fits each at x e

  pub members_again : (read : ℕ → Result (Member × ℕ) Refusal) (Fits : Member → Type 0) → ((at : ℕ) (m : Member) (next : ℕ) → Fits m → Takes bytes at (member m) next → read at ≡ Ok (m, next)) → (ms : List Member) (at next : ℕ) → length ms < 2 ^ 16 → AllByRecursion Fits ms → Takes bytes at (members ms) next → members_at read bytes at ≡ Ok (ms, next)
  unfolding members_at
  members_again read Fits each ms at next few all t = counted_again bytes read member Fits each ms at next few all t
