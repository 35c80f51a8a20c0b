-- Members of a folder's classes: which there are, and that names tell them apart.
use Rattle.std.proofs.Common.{◌≡◌, ◌⊎◌, inl, inr, ℕ, ◌<◌, List, Option, Some, None, Bool, true, false, refl, sym, ap, subst, ◌∙◌, arith}
use Rattle.std.specs.Prelude.{slice_get, ◌&&◌, IsSome, IsSomeAnd}
use Rattle.std.proofs.lemmas.Option.{get_or_from_slice_get, slice_get_within}
use Rattle.std.proofs.lemmas.Slice.Eq.{bytes_eq-Decides}
use Rattle.jmodel.specs.format.ClassFile.{Member, Pool, ClassFile}
use Rattle.jmodel.specs.format.Pool.{utf8, MemberName, text_or_none}
use Rattle.jmodel.specs.format.ClassRules.{same_text, IsMember, IsSameMember, AreDistinct}
use Rattle.jmodel.specs.format.Descriptor.{IsMethodDescriptor}
use Rattle.objects.specs.linking.Library.{library}
use Rattle.objects.specs.linking.Members.{own_name}
use Rattle.objects.specs.linking.Superclasses.{class_named}
use Rattle.objects.specs.linking.Classes.{Declared, declared_in, methods_in, full_name}
use Rattle.objects.specs.linking.Resolution.{has_name, fields_in}
use Rattle.objects.specs.laws.LinkingLaw.{AreRead}
use Rattle.objects.proofs.Items.{IsAt, item, of_map, of_flat}
use Rattle.objects.proofs.ClassRows.{found_by_name}
use Rattle.objects.proofs.AsRead.{is_file}

-- ---- where members come from

pub of_methods : (cs : List ClassFile) (d : Declared) → IsAt (methods_in cs) d → IsAt cs d.class × IsAt d.class.methods d.member
of_methods cs d h =
    let a = of_flat (λ (c : ClassFile). declared_in c c.methods) cs d h in
    let b = of_map (λ m. record { class = a.0; member = m }) a.0.methods d a.2 in
    subst (λ (d : Declared). IsAt cs d.class × IsAt d.class.methods d.member) b.2 (a.1, b.1)

pub of_fields : (cs : List ClassFile) (d : Declared) → IsAt (fields_in cs) d → IsAt cs d.class × IsAt d.class.fields d.member
of_fields cs d h =
    let a = of_flat (λ (c : ClassFile). declared_in c c.fields) cs d h in
    let b = of_map (λ m. record { class = a.0; member = m }) a.0.fields d a.2 in
    subst (λ (d : Declared). IsAt cs d.class × IsAt d.class.fields d.member) b.2 (a.1, b.1)

-- ---- names

nat_order : (a b : ℕ) → (a < b) ⊎ ((b < a) ⊎ (a ≡ b))
nat_order a b = grind arith

-- members of one name and one descriptor are one
pub same_member : (pool : Pool) (ms : List Member) → AreDistinct pool ms → (a b : Member) → IsAt ms a → IsAt ms b → IsSameMember pool a b → a ≡ b
same_member pool ms distinct a b h k s = by (nat_order h.0 k.0)
  where
    apart : (i j : ℕ) (x y : Member) → i < j → slice_get ms i ≡ Some x → slice_get ms j ≡ Some y → IsSameMember pool x y → ⊥
    apart i j x y less e f s =
        let d = distinct i j x less (slice_get_within ms j y f) in
        let p = get_or_from_slice_get ms i x x e in
        let q = get_or_from_slice_get ms j y x f in
        d (rw (p, q) s)

    by : (h.0 < k.0) ⊎ ((k.0 < h.0) ⊎ (h.0 ≡ k.0)) → a ≡ b
    by (inl less) = absurd (apart h.0 k.0 a b less h.1 k.1 s)
    by (inr (inl less)) = absurd (apart k.0 h.0 b a less k.1 h.1 (sym s.0, sym s.1))
    by (inr (inr same)) = let e : Some a ≡ Some b = sym h.1 ∙ ap (slice_get ms) same ∙ k.1 in cc

same_texts : (a b : Option (List ℕ)) → IsSome a → IsSome b → text_or_none a ≡ text_or_none b → a ≡ b
same_texts None b h k e = cc
same_texts (Some x) None h k e = cc
same_texts (Some x) (Some y) h k e = ap (λ (t : List ℕ). Some t) e

is_there : (o : Option (List ℕ)) (P : List ℕ → Type 0) → IsSomeAnd o P → IsSome o
is_there None P h = absurd h
is_there (Some x) P h = refl

pub same_names : (pool : Pool) (Fits : List ℕ → Type 0) (a b : Member) → IsMember pool Fits a → IsMember pool Fits b
    → text_or_none (utf8 pool a.name) ≡ text_or_none (utf8 pool b.name) → text_or_none (utf8 pool a.descriptor) ≡ text_or_none (utf8 pool b.descriptor) → IsSameMember pool a b
same_names pool Fits a b f g n d = (same_texts (utf8 pool a.name) (utf8 pool b.name) f.named g.named n, same_texts (utf8 pool a.descriptor) (utf8 pool b.descriptor) (is_there _ Fits f.typed) (is_there _ Fits g.typed) d)

-- a member that a name stands for has its texts
pub record HasName (k : Declared) (n : MemberName) : Type 0 where
  pub name : utf8 k.class.pool k.member.name ≡ Some n.name
  pub descriptor : utf8 k.class.pool k.member.descriptor ≡ Some n.descriptor

text_is : (o : Option (List ℕ)) (t : List ℕ) → same_text o t ≡ true → o ≡ Some t
text_is None t e = cc
text_is (Some u) t e = ap (λ (t : List ℕ). Some t) ((bytes_eq-Decides u t).0 e)

text_same : (o : Option (List ℕ)) (t : List ℕ) → o ≡ Some t → same_text o t ≡ true
text_same o t e = ap (λ o. same_text o t) e ∙ (bytes_eq-Decides t t).1 refl

both : (a b : Bool) → (a && b) ≡ true → (a ≡ true) × (b ≡ true)
both true b e = (refl, e)
both false b e = cc

pub name_of_member : (n : MemberName) (k : Declared) → has_name n k ≡ true → HasName k n
name_of_member n k e =
    let a = both (same_text (utf8 k.class.pool k.member.name) n.name) (same_text (utf8 k.class.pool k.member.descriptor) n.descriptor) e in
    record { name = text_is _ n.name a.0; descriptor = text_is _ n.descriptor a.1 }

pub has_its_name : (n : MemberName) (k : Declared) → HasName k n → has_name n k ≡ true
has_its_name n k h =
    let a = text_same (utf8 k.class.pool k.member.name) n.name h.name in
    let b = text_same (utf8 k.class.pool k.member.descriptor) n.descriptor h.descriptor in
    rw (a, b) refl

-- ---- classes

abbrev declared : ClassFile → Member → Declared
declared c m = record { class = c; member = m }

module _ (cs : List ClassFile) (read : AreRead cs) where
  pub by_own_name : (c : ClassFile) → IsAt cs c → class_named cs (own_name c) ≡ Some c
  by_own_name c h = found_by_name library cs read.doubled h.0 c h.1

  pub same_class : (c d : ClassFile) → IsAt cs c → IsAt cs d → own_name c ≡ own_name d → c ≡ d
  same_class c d h k e = let s : Some c ≡ Some d = sym (by_own_name c h) ∙ ap (class_named cs) e ∙ by_own_name d k in cc

  -- methods of one full name are one
  pub same_method : (a b : Declared) → IsAt (methods_in cs) a → IsAt (methods_in cs) b → full_name a ≡ full_name b → a ≡ b
  same_method a b h k e =
      let p = of_methods cs a h in
      let q = of_methods cs b k in
      go a.class b.class a.member b.member p.0 (same_class a.class b.class p.0 q.0 (ap (λ n. n.class) e)) p.1 q.1 (ap (λ n. n.name) e) (ap (λ n. n.descriptor) e)
    where
      here : (c : ClassFile) (m o : Member) → IsAt cs c → IsAt c.methods m → IsAt c.methods o → text_or_none (utf8 c.pool m.name) ≡ text_or_none (utf8 c.pool o.name)
          → text_or_none (utf8 c.pool m.descriptor) ≡ text_or_none (utf8 c.pool o.descriptor) → m ≡ o
      here c m o at x y n d =
          let f = is_file cs read c at in
          same_member c.pool c.methods f.distinct_methods m o x y (same_names c.pool _ m o (item _ c.methods m f.methods x).member (item _ c.methods o f.methods y).member n d)

      go : (c d : ClassFile) (m o : Member) → IsAt cs c → c ≡ d → IsAt c.methods m → IsAt d.methods o → text_or_none (utf8 c.pool m.name) ≡ text_or_none (utf8 d.pool o.name)
          → text_or_none (utf8 c.pool m.descriptor) ≡ text_or_none (utf8 d.pool o.descriptor) → declared c m ≡ declared d o
      go c d m o at s x y n e =
          let t : m ≡ o = here c m o at x (subst (λ (d : ClassFile). IsAt d.methods o) (sym s) y) (n ∙ ap (λ (d : ClassFile). text_or_none (utf8 d.pool o.name)) (sym s)) (e ∙ ap (λ (d : ClassFile). text_or_none (utf8 d.pool o.descriptor)) (sym s)) in
          ap (λ (c : ClassFile). declared c m) s ∙ ap (declared d) t

  -- so are fields
  pub same_field : (c : ClassFile) (m o : Member) → IsAt cs c → IsAt c.fields m → IsAt c.fields o → text_or_none (utf8 c.pool m.name) ≡ text_or_none (utf8 c.pool o.name)
      → text_or_none (utf8 c.pool m.descriptor) ≡ text_or_none (utf8 c.pool o.descriptor) → m ≡ o
  same_field c m o at x y n d =
      let f = is_file cs read c at in
      same_member c.pool c.fields f.distinct_fields m o x y (same_names c.pool _ m o (item _ c.fields m f.fields x) (item _ c.fields o f.fields y) n d)

  -- a method of the texts has the name
  pub full_has_name : (k : Declared) (n : MemberName) → IsAt (methods_in cs) k → n.name ≡ text_or_none (utf8 k.class.pool k.member.name) → n.descriptor ≡ text_or_none (utf8 k.class.pool k.member.descriptor) → HasName k n
  full_has_name k n h a b =
      let p = of_methods cs k h in
      let f = (item _ k.class.methods k.member (is_file cs read k.class p.0).methods p.1).member in
      record { name = some_text (utf8 k.class.pool k.member.name) f.named ∙ ap (λ (t : List ℕ). Some t) (sym a); descriptor = some_text (utf8 k.class.pool k.member.descriptor) (is_there _ IsMethodDescriptor f.typed) ∙ ap (λ (t : List ℕ). Some t) (sym b) }
    where
      some_text : (o : Option (List ℕ)) → IsSome o → o ≡ Some (text_or_none o)
      some_text None h = cc
      some_text (Some t) h = refl

-- methods of one class that one name stands for have one full name
pub same_full : (a b : Declared) (n : MemberName) → HasName a n → HasName b n → a.class ≡ b.class → full_name a ≡ full_name b
same_full a b n h k e =
    let name : text_or_none (utf8 a.class.pool a.member.name) ≡ text_or_none (utf8 b.class.pool b.member.name) = ap text_or_none h.name ∙ sym (ap text_or_none k.name) in
    let descriptor : text_or_none (utf8 a.class.pool a.member.descriptor) ≡ text_or_none (utf8 b.class.pool b.member.descriptor) = ap text_or_none h.descriptor ∙ sym (ap text_or_none k.descriptor) in
    let class : own_name a.class ≡ own_name b.class = ap own_name e in
    rw (name, descriptor, class) refl
