-- Fields and methods that names stand for: they are those of classes of the folder, and their numbers lead to them.
use Rattle.std.proofs.Common.{◌≡◌, ◌≢◌, ◌⊎◌, inl, inr, ℕ, zero, suc, List, ◌∷◌, length, map, Option, Some, None, Bool, true, false, not, refl, sym, ap, subst, ◌∙◌}
use Rattle.std.specs.Prelude.{slice_get, bytes_eq, ◌&&◌, ◌||◌, option_map, unwrap_or, codes, if◌then◌else◌}
use Rattle.std.specs.List.{flat_map}
use Rattle.std.proofs.lemmas.Slice.Eq.{bytes_eq-Decides}
use Rattle.std.proofs.lemmas.Option.{slice_get_within}
use Rattle.jmodel.specs.declared.name.MethodName.{MethodName}
use Rattle.jmodel.specs.format.ClassFile.{Member, ClassFile}
use Rattle.jmodel.specs.format.Pool.{MemberName}
use Rattle.objects.specs.linking.Members.{is_static, own_name}
use Rattle.objects.specs.linking.Superclasses.{class_named, super_name, with_above, upward, lineage}
use Rattle.objects.specs.linking.Classes.{Declared, declared_in, methods_in, full_name}
use Rattle.objects.specs.declared.op.Dispatch.TheVariants as dispatch
use Rattle.objects.specs.semantics.Program.{Method, Program, method_at}
use Rattle.objects.specs.linking.Resolution.{is_abstract_member, interface_names, names_above, all_upward, ancestry, has_name, fields_in, method_way, resolved_field, resolved_method, is_selected_by, selected_from, from_above, special_method, is_properly_above, is_private}
use Rattle.objects.specs.linking.Decoding.{is_method, number_of}
use Rattle.objects.specs.linking.Linking.{is_exact, dispatch_of, taken_methods, original_symbols}
use Rattle.objects.specs.laws.LinkingLaw.{AreRead}
use Rattle.objects.proofs.Items.{IsAt, either_part, of_flat, at_map, into_map, into_flat, found, placed}
use Rattle.objects.proofs.AsRead.{named_as}
use Rattle.objects.proofs.DeclaredMembers.{HasName, of_methods, of_fields, name_of_member, same_method}
use Rattle.objects.proofs.TakenMembers.{in_methods}
use Rattle.objects.proofs.Links.{IsLinkedTo, IsFrom, method_from, method_there}

-- ---- classes upward are those of the folder

upward_in : (cs : List ClassFile) (n : ℕ) (name : List ℕ) (c : ClassFile) → IsAt (upward cs n name) c → IsAt cs c
upward_in cs zero name c h = cc
upward_in cs (suc n) name c h = go (class_named cs name) refl h (λ d k. upward_in cs n (super_name d) c k)
  where
    at : (d : ClassFile) → class_named cs name ≡ Some d → (i : ℕ) → slice_get (d ∷ upward cs n (super_name d)) i ≡ Some c → (IsAt (upward cs n (super_name d)) c → IsAt cs c) → IsAt cs c
    at d is zero e rest = let s : d ≡ c = cc in subst (IsAt cs) s (named_as cs name d is).0
    at d is (suc i) e rest = rest (i, e)

    go : (o : Option ClassFile) → class_named cs name ≡ o → IsAt (with_above (λ c. upward cs n (super_name c)) o) c → ((d : ClassFile) → IsAt (upward cs n (super_name d)) c → IsAt cs c) → IsAt cs c
    go None is h rest = cc
    go (Some d) is h rest = at d is h.0 h.1 (rest d)

all_upward_in : (cs : List ClassFile) (n : ℕ) (name : List ℕ) (c : ClassFile) → IsAt (all_upward cs n name) c → IsAt cs c
all_upward_in cs zero name c h = cc
all_upward_in cs (suc n) name c h = go (class_named cs name) refl h (λ m k. all_upward_in cs n m c k)
  where
    at : (d : ClassFile) → class_named cs name ≡ Some d → (i : ℕ) → slice_get (d ∷ flat_map (all_upward cs n) (names_above d)) i ≡ Some c → ((m : List ℕ) → IsAt (all_upward cs n m) c → IsAt cs c) → IsAt cs c
    at d is zero e rest = let s : d ≡ c = cc in subst (IsAt cs) s (named_as cs name d is).0
    at d is (suc i) e rest = let f = of_flat (all_upward cs n) (names_above d) c (i, e) in rest f.0 f.2

    go : (o : Option ClassFile) → class_named cs name ≡ o → IsAt (with_above (λ c. flat_map (all_upward cs n) (names_above c)) o) c → ((m : List ℕ) → IsAt (all_upward cs n m) c → IsAt cs c) → IsAt cs c
    go None is h rest = cc
    go (Some d) is h rest = at d is h.0 h.1 rest

pub lineage_in : (cs : List ClassFile) (name : List ℕ) (c : ClassFile) → IsAt (lineage cs name) c → IsAt cs c
lineage_in cs name c h = upward_in cs (length cs) name c h

pub ancestry_in : (cs : List ClassFile) (name : List ℕ) (c : ClassFile) → IsAt (ancestry cs name) c → IsAt cs c
ancestry_in cs name c h = all_upward_in cs (length cs) name c h

way_in : (cs : List ClassFile) (name : List ℕ) (c : ClassFile) → IsAt (method_way cs name) c → IsAt cs c
way_in cs name c h = elim (either_part (lineage cs name) (flat_map (λ c. flat_map (ancestry cs) (interface_names c)) (lineage cs name)) c h) [
  | inl a ↦ lineage_in cs name c a
  | inr a ↦ (
      let d = of_flat (λ c. flat_map (ancestry cs) (interface_names c)) (lineage cs name) c a in
      let e = of_flat (ancestry cs) (interface_names d.0) c d.2 in
      ancestry_in cs e.0 c e.2)
]

methods_of : (cs ds : List ClassFile) → ((c : ClassFile) → IsAt ds c → IsAt cs c) → (k : Declared) → IsAt (methods_in ds) k → IsAt (methods_in cs) k
methods_of cs ds inside k h =
    let p = of_methods ds k h in
    into_flat (λ (c : ClassFile). declared_in c c.methods) cs k.class k (inside k.class p.0) (into_map (λ m. record { class = k.class; member = m }) k.class.methods k.member p.1)

fields_of_classes : (cs ds : List ClassFile) → ((c : ClassFile) → IsAt ds c → IsAt cs c) → (k : Declared) → IsAt (fields_in ds) k → IsAt cs k.class × IsAt k.class.fields k.member
fields_of_classes cs ds inside k h = let p = of_fields ds k h in (inside k.class p.0, p.1)

-- ---- what names stand for

pub method_resolves : (cs : List ClassFile) (n : MemberName) (k : Declared) → resolved_method cs n ≡ Some k → IsAt (methods_in cs) k × HasName k n
method_resolves cs n k e =
    let f = found (has_name n) (methods_in (method_way cs n.class)) k e in
    (methods_of cs (method_way cs n.class) (way_in cs n.class) k f.0, name_of_member n k f.1)

-- a field of a class of the folder
pub record IsFieldIn (cs : List ClassFile) (k : Declared) (n : MemberName) : Type 0 where
  pub class : IsAt cs k.class
  pub member : IsAt k.class.fields k.member
  pub named : HasName k n

pub field_resolves : (cs : List ClassFile) (n : MemberName) (k : Declared) → resolved_field cs n ≡ Some k → IsFieldIn cs k n
field_resolves cs n k e =
    let f = found (has_name n) (fields_in (ancestry cs n.class)) k e in
    let p = fields_of_classes cs (ancestry cs n.class) (ancestry_in cs n.class) k f.0 in
    record { class = p.0; member = p.1; named = name_of_member n k f.1 }

either_false : (a b : Bool) → not (a || b) ≡ true → b ≡ false
either_false true b e = cc
either_false false true e = cc
either_false false false e = refl

both : (a b : Bool) → (a && b) ≡ true → (a ≡ true) × (b ≡ true)
both true b e = (refl, e)
both false b e = cc

-- the method that invokespecial runs is the one that is named, or one selected from above
pub special_cases : (cs : List ClassFile) (c : ClassFile) (n : MemberName) (k m : Declared) → resolved_method cs n ≡ Some k → special_method cs c n ≡ Some m → (k ≡ m) ⊎ (selected_from cs (super_name c) n ≡ Some m)
special_cases cs c n k m e is = by (ap (option_map (λ k. if not (bytes_eq n.name (codes "<init>")) && is_properly_above cs c (own_name k.class) then from_above cs c n k else k)) (sym e) ∙ is)
  where
    above : (b : Bool) (o : Option Declared) → selected_from cs (super_name c) n ≡ o → (if b then k else unwrap_or o k) ≡ m → (k ≡ m) ⊎ (selected_from cs (super_name c) n ≡ Some m)
    above true o f s = inl s
    above false None f s = inl s
    above false (Some d) f s = inr (f ∙ ap (λ (d : Declared). Some d) s)

    chosen : (b : Bool) → (if b then from_above cs c n k else k) ≡ m → (k ≡ m) ⊎ (selected_from cs (super_name c) n ≡ Some m)
    chosen true s = above (is_private k.member) (selected_from cs (super_name c) n) refl s
    chosen false s = inl s

    by : Some (if not (bytes_eq n.name (codes "<init>")) && is_properly_above cs c (own_name k.class) then from_above cs c n k else k) ≡ Some m → (k ≡ m) ⊎ (selected_from cs (super_name c) n ≡ Some m)
    by s = let t : (if not (bytes_eq n.name (codes "<init>")) && is_properly_above cs c (own_name k.class) then from_above cs c n k else k) ≡ m = cc in chosen (not (bytes_eq n.name (codes "<init>")) && is_properly_above cs c (own_name k.class)) t

-- what invokespecial runs isn't static, where the method that is named isn't
pub special_resolves : (cs : List ClassFile) (c : ClassFile) (n : MemberName) (k m : Declared) → resolved_method cs n ≡ Some k → is_static k.member ≡ false → special_method cs c n ≡ Some m
    → IsAt (methods_in cs) m × (is_static m.member ≡ false)
special_resolves cs c n k m e static is = from (special_cases cs c n k m e is)
  where
    from : (k ≡ m) ⊎ (selected_from cs (super_name c) n ≡ Some m) → IsAt (methods_in cs) m × (is_static m.member ≡ false)
    from (inl s) = subst (λ (m : Declared). IsAt (methods_in cs) m × (is_static m.member ≡ false)) s ((method_resolves cs n k e).0, static)
    from (inr s) =
        let f = found (is_selected_by n) (methods_in (lineage cs (super_name c))) m s in
        let b = both (has_name n m) (not (is_private m.member || is_static m.member)) f.1 in
        (methods_of cs (lineage cs (super_name c)) (lineage_in cs (super_name c)) m f.0, either_false (is_private m.member) (is_static m.member) b.1)

-- ---- numbers

same_bytes : (x y : List ℕ) → bytes_eq x y ≡ true → x ≡ y
same_bytes x y e = (bytes_eq-Decides x y).0 e

method_named : (n k : MethodName) → is_method n k ≡ true → k ≡ n
method_named n k e =
    let a = both (bytes_eq k.name n.name) (bytes_eq k.descriptor n.descriptor && bytes_eq k.class n.class) e in
    let b = both (bytes_eq k.descriptor n.descriptor) (bytes_eq k.class n.class) a.1 in
    let name : k.name ≡ n.name = same_bytes k.name n.name a.0 in
    let descriptor : k.descriptor ≡ n.descriptor = same_bytes k.descriptor n.descriptor b.0 in
    let class : k.class ≡ n.class = same_bytes k.class n.class b.1 in
    method_name k n class name descriptor
  where
    method_name : (k n : MethodName) → k.class ≡ n.class → k.name ≡ n.name → k.descriptor ≡ n.descriptor → k ≡ n
    method_name k n a b c = rw (a, b, c) refl

-- the method of a number is that of a member
pub record HasMember (cs : List ClassFile) (P : Program) (i : ℕ) (k : Declared) : Type 0 where
  pub method : Method
  pub there : method_at P i ≡ Some method
  pub from : IsFrom cs i method
  pub is : from.member ≡ k

module _ (cs : List ClassFile) (P : Program) (read : AreRead cs) (l : IsLinkedTo cs P) where
  pub numbered : (c : ClassFile) (k : Declared) (i : ℕ) → IsAt (methods_in cs) k → number_of (original_symbols cs c) k ≡ Some i → HasMember cs P i k
  numbered c k i h e =
      let p = placed (is_method (full_name k)) (map full_name (taken_methods cs)) i e in
      let m = at_map full_name (taken_methods cs) i p.0 p.1 in
      let name : full_name m.0 ≡ full_name k = m.2 ∙ method_named (full_name k) p.0 p.2 in
      let same : m.0 ≡ k = same_method cs read m.0 k (in_methods cs m.0 (i, m.1)) h name in
      let t = method_there cs P l i (slice_get_within (taken_methods cs) i m.0 m.1) in
      let f = method_from cs P l i t.0 t.1 in
      let one : Some f.member ≡ Some m.0 = sym f.there ∙ m.1 in
      let first : f.member ≡ m.0 = cc in
      record { method = t.0; there = t.1; from = f; is = first ∙ same }

-- ---- how methods are found

pub static_dispatch : (c : ClassFile) (m : Member) → is_static m ≡ true → dispatch_of c m ≡ dispatch.Static
static_dispatch c m e = ap (λ b. if b then dispatch.Static else (if is_exact c m then dispatch.Exact else if is_abstract_member m then dispatch.Abstract else dispatch.Virtual)) e

pub over_dispatch : (c : ClassFile) (m : Member) → is_static m ≡ false → dispatch_of c m ≢ dispatch.Static
over_dispatch c m e s = go (is_exact c m) (is_abstract_member m) (sym (ap (λ b. if b then dispatch.Static else (if is_exact c m then dispatch.Exact else if is_abstract_member m then dispatch.Abstract else dispatch.Virtual)) e) ∙ s)
  where
    go : (a b : Bool) → (if a then dispatch.Exact else if b then dispatch.Abstract else dispatch.Virtual) ≡ dispatch.Static → ⊥
    go true b s = cc
    go false true s = cc
    go false false s = cc

pub dispatch_is : (cs : List ClassFile) (P : Program) (i : ℕ) (k : Declared) (h : HasMember cs P i k) → h.method.dispatch ≡ dispatch_of k.class k.member
dispatch_is cs P i k h = ap (λ (m : Method). m.dispatch) h.from.meant.is ∙ ap (λ (k : Declared). dispatch_of k.class k.member) h.is

pub static_member : (cs : List ClassFile) (P : Program) (i : ℕ) (k : Declared) (h : HasMember cs P i k) → is_static k.member ≡ true → h.method.dispatch ≡ dispatch.Static
static_member cs P i k h e = dispatch_is cs P i k h ∙ static_dispatch k.class k.member e

pub over_member : (cs : List ClassFile) (P : Program) (i : ℕ) (k : Declared) (h : HasMember cs P i k) → is_static k.member ≡ false → h.method.dispatch ≢ dispatch.Static
over_member cs P i k h e s = over_dispatch k.class k.member e (sym (dispatch_is cs P i k h) ∙ s)
