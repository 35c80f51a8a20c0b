-- Names in the pools of originals are plain, and what taken methods call is the program's.
use Rattle.std.proofs.Common.{◌≡◌, ℕ, List, Option, Some, None, Bool, true, false, refl, sym, ap, ◌∙◌}
use Rattle.std.specs.Prelude.{bytes_eq, codes, nat_le, ◌&&◌}
use Rattle.jmodel.specs.declared.class_file.Constant.{Constant}
use Rattle.jmodel.specs.declared.class_file.Constant.TheVariants.{Field, Method, InterfaceMethod, NameAndType}
use Rattle.jmodel.specs.declared.instruction.Instr.{Instr}
use Rattle.jmodel.specs.format.ClassFile.{Member, ClassFile}
use Rattle.jmodel.specs.format.Pool.{MemberName, entry, utf8, class_name, both, pair_in, pair, named, member_in, member_name}
use Rattle.objects.specs.linking.Reserved.{is_reserved}
use Rattle.objects.specs.linking.Classes.{Declared, declared_in, methods_in}
use Rattle.objects.specs.linking.Taken.{is_taken, index_of, invoked}
use Rattle.objects.specs.semantics.Program.{Program}
use Rattle.objects.specs.laws.LinkingLaw.{AreRead}
use Rattle.objects.proofs.Items.{IsAt, into_map, into_flat, of_filter}
use Rattle.objects.proofs.AsRead.{name_entry, unreserved}
use Rattle.objects.proofs.CalledMembers.{callee_taken, takes_it}
use Rattle.objects.proofs.DeclaredMembers.{name_of_member, of_methods}
use Rattle.objects.proofs.Links.{IsLinkedTo}
use Rattle.objects.proofs.TakenMembers.{in_methods}
use Rattle.rewritten_names.specs.LeadsLaw.{IsPlain, IsCovered, IsCall, IsCoveredUnless, IsCallOf}
use Rattle.rewritten_names.proofs.Free.{other}
use Rattle.rewritten_names.proofs.Ordinary.{numbered_taken}
use Rattle.rewritten_names.proofs.Lists.{some_of}

-- the parts of a name
record Parts (o : Option (List ℕ)) (p : Option (List ℕ × List ℕ)) (n : MemberName) : Type 0 where
  pub class : o ≡ Some n.class
  pub texts : p ≡ Some (n.name, n.descriptor)

parts : (o : Option (List ℕ)) (p : Option (List ℕ × List ℕ)) (n : MemberName) → named o p ≡ Some n → Parts o p n
parts None p n e = cc
parts (Some c) None n e = cc
parts (Some c) (Some (a, b)) n e = let s : record { class = c; name = a; descriptor = b } ≡ n = cc in record { class = ap (λ (n : MemberName). Some n.class) s; texts = ap (λ (n : MemberName). Some (n.name, n.descriptor)) s }

both_parts : (o u : Option (List ℕ)) (a b : List ℕ) → both o u ≡ Some (a, b) → (o ≡ Some a) × (u ≡ Some b)
both_parts None u a b e = cc
both_parts (Some x) None a b e = cc
both_parts (Some x) (Some y) a b e = let s : (x, y) ≡ (a, b) = cc in (ap (λ (p : List ℕ × List ℕ). Some p.0) s, ap (λ (p : List ℕ × List ℕ). Some p.1) s)

module _ (cs : List ClassFile) (read : AreRead cs) (c : ClassFile) (at : IsAt cs c) where
  class_free : (i : ℕ) (t : List ℕ) → class_name c.pool i ≡ Some t → is_reserved t ≡ false
  class_free i t e = let k = name_entry c.pool i t e in unreserved cs read c at k.index t k.text

  pair_free : (i : ℕ) (a b : List ℕ) → pair c.pool i ≡ Some (a, b) → (is_reserved a ≡ false) × (is_reserved b ≡ false)
  pair_free i a b e = let k = some_of (pair_in c.pool) (entry c.pool i) (a, b) e in by k.0 k.2
    where
      by : (x : Constant) → pair_in c.pool x ≡ Some (a, b) → (is_reserved a ≡ false) × (is_reserved b ≡ false)
      by (NameAndType n d) e = let p = both_parts (utf8 c.pool n) (utf8 c.pool d) a b e in (unreserved cs read c at n a p.0, unreserved cs read c at d b p.1)
      by x e = cc

  named_plain : (k p : ℕ) (n : MemberName) → named (class_name c.pool k) (pair c.pool p) ≡ Some n → IsPlain n
  named_plain k p n e =
      let q = parts (class_name c.pool k) (pair c.pool p) n e in
      let t = pair_free p n.name n.descriptor q.texts in
      record { class = other n.class (class_free k n.class q.class); name = t.0; descriptor = t.1 }

  pub member_plain : (i : ℕ) (n : MemberName) → member_name c.pool i ≡ Some n → IsPlain n
  member_plain i n e = let k = some_of (member_in c.pool) (entry c.pool i) n e in by k.0 k.2
    where
      by : (x : Constant) → member_in c.pool x ≡ Some n → IsPlain n
      by (Field k p) e = named_plain k p n e
      by (Method k p) e = named_plain k p n e
      by (InterfaceMethod k p) e = named_plain k p n e
      by x e = cc

  pub invoked_plain : (i : Instr) (n : MemberName) → invoked c.pool i ≡ Some n → IsPlain n
  invoked_plain i n e = go (nat_le 182 i.op && nat_le i.op 185) refl e
    where
      go : (b : Bool) → (nat_le 182 i.op && nat_le i.op 185) ≡ b → invoked c.pool i ≡ Some n → IsPlain n
      go true f e = let k = some_of (member_name c.pool) (index_of i.operands) n (rw f at e) in member_plain k.0 n k.2
      go false f e = let g : None ≡ Some n = rw f at e in cc

module _ (cs : List ClassFile) (P : Program) (read : AreRead cs) (l : IsLinkedTo cs P) where
  pub call_of : (n : MemberName) → IsCall cs n → IsCallOf cs P n
  call_of n k = record { plain = invoked_plain cs read k.caller.class (of_methods cs k.caller (in_methods cs k.caller (k.place, k.there))).0 k.instr n k.names; covered = go (bytes_eq n.name (codes "<init>")) refl }
    where
      covered : bytes_eq n.name (codes "<init>") ≡ false → IsCovered cs P n
      covered plain i c j m e f has =
          let k0 : Declared = record { class = c; member = m } in
          let here = into_flat (λ (c : ClassFile). declared_in c c.methods) cs c k0 (i, e) (into_map (λ (m : Member). record { class = c; member = m }) c.methods m (j, f)) in
          let named = name_of_member n k0 has in
          let taken = callee_taken cs k.caller (k.place, k.there) k.coded k.decodes k.instr (k.index, k.inside) n k0 k.names here (takes_it cs k.caller (k.place, k.there) k.coded k.decodes k.instr (k.index, k.inside) n k0 named (λ init. let fall : true ≡ false = sym init ∙ plain in cc)) in
          numbered_taken cs P read l k0 here ∙ (of_filter (is_taken cs) (methods_in cs) k0 taken).1

      go : (b : Bool) → bytes_eq n.name (codes "<init>") ≡ b → IsCoveredUnless b cs P n
      go true e = tt
      go false e = covered e
