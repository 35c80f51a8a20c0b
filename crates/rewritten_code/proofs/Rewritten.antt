-- Each class is rewritten at its place; what its methods are sound for, and how its symbols stand to those of the rewritten class.
use Rattle.std.proofs.Common.{◌≡◌, ℕ, zero, suc, List, [], ◌∷◌, ◌++◌, Some, None, true, refl, subst}
use Rattle.std.specs.Prelude.{slice_get}
use Rattle.std.specs.List.{AllZip}
use Rattle.jmodel.specs.format.ClassFile.{Member, ClassFile}
use Rattle.jmodel.specs.format.Pool.{text_or_none, MemberName, utf8}
use Rattle.objects.specs.linking.Faults.{mark_fault}
use Rattle.jmodel.specs.format.PoolAdding.{IsLonger}
use Rattle.jmodel.specs.format.ClassRules.{IsMethod}
use Rattle.objects.specs.linking.Members.{own_name}
use Rattle.objects.specs.linking.Classes.{Declared, declared_in, methods_in}
use Rattle.objects.specs.semantics.Program.{Method, Program}
use Rattle.objects.specs.linking.Decoding.{Symbols}
use Rattle.objects.specs.linking.Linking.{original_symbols}
use Rattle.objects.specs.laws.LinkingLaw.{AreRead}
use Rattle.objects.specs.rewriting.Relinking.{rewritten_symbols}
use Rattle.objects.proofs.AsRead.{is_file, unreserved}
use Rattle.objects.proofs.ClassTypes.{each_none}
use Rattle.objects.proofs.DeclaredMembers.{HasName, of_methods, full_has_name}
use Rattle.objects.proofs.Items.{IsAt, item, into_map, into_flat}
use Rattle.objects.proofs.Links.{IsLinkedTo, links}
use Rattle.objects.proofs.SourceProof.{source_law}
use Rattle.objects.proofs.TakenMembers.{in_methods}
use Rattle.objects.proofs.Upward.{upward_law}
use Rattle.member_code.specs.Meaning.{meaning}
use Rattle.member_code.proofs.Grown.{Grown}
use Rattle.rewritten_names.specs.Heads.{Rewrites}
use Rattle.rewritten_names.specs.LeadsLaw.{Leads, LeadsSpecial, AreTexts}
use Rattle.rewritten_names.specs.NamesLaw.{AreRewritten}
use Rattle.rewritten_names.proofs.Covered.{member_plain}
use Rattle.rewritten_names.proofs.Free.{is_apart}
use Rattle.rewritten_names.proofs.Leading.{leads}
use Rattle.rewritten_names.proofs.Special.{leads_special}
use Rattle.rewritten_code.specs.OldLaw.{IsSameHead, IsMethodOf, IsTakenOf}
use Rattle.rewritten_code.proofs.Instructions.{IsAlike}
use Rattle.rewritten_code.proofs.Marks.{has_mark}
use Rattle.rewritten_code.proofs.Meant.{means}
use Rattle.rewritten_code.proofs.SameHeads.{IsSound, same_head}

-- the class at a place is rewritten to that at the same place
at_place : (P : Program) (xs ys : List ClassFile) → AllZip (Rewrites P) xs ys → (i : ℕ) (c d : ClassFile) → slice_get xs i ≡ Some c → slice_get ys i ≡ Some d → Rewrites P c d
at_place P [] ys z i c d e f = cc
at_place P (x ∷ xs) [] z i c d e f = absurd z
at_place P (x ∷ xs) (y ∷ ys) z zero c d e f = let s : x ≡ c = cc in let t : y ≡ d = cc in subst (Rewrites P c) t (subst (λ (c : ClassFile). Rewrites P c y) s z.0)
at_place P (x ∷ xs) (y ∷ ys) z (suc i) c d e f = at_place P xs ys z.1 i c d e f

-- a method of a class that is linked
pub is_sound : (cs : List ClassFile) (P : Program) → AreRead cs → IsLinkedTo cs P → (c : ClassFile) → IsAt cs c → (m : Member) → IsAt c.methods m → IsSound c m
is_sound cs P read l c at m inside =
    let k : Declared = record { class = c; member = m } in
    let n : MemberName = record { class = own_name c; name = text_or_none (utf8 c.pool m.name); descriptor = text_or_none (utf8 c.pool m.descriptor) } in
    let here = into_flat (λ (c : ClassFile). declared_in c c.methods) cs c k at (into_map (λ (m : Member). record { class = c; member = m }) c.methods m inside) in
    let named : HasName k n = full_has_name cs read k n here refl refl in
    let fits : IsMethod c.pool m = item (IsMethod c.pool) c.methods m (is_file cs read c at).methods inside in
    record {
      name = n.name;
      descriptor = n.descriptor;
      named = named.name;
      typed = named.descriptor;
      free = unreserved cs read c at m.descriptor n.descriptor named.descriptor;
      attributes = fits.member.attributes.each;
      mark = has_mark c m (item (λ (k : Declared). mark_fault k.class k.member ≡ None) (methods_in cs) k (each_none (λ (k : Declared). mark_fault k.class k.member) (methods_in cs) l.marks) here);
    }

module _ (P : Program) (cs ds : List ClassFile) (h : ClassFile) (R : AreRewritten P cs ds h) (texts : AreTexts h) (i : ℕ) (c d : ClassFile) (e : slice_get cs i ≡ Some c) (f : slice_get ds i ≡ Some d) (longer : IsLonger c.pool d.pool) where
  abbrev s0 : Symbols
  s0 = original_symbols cs c

  -- the symbols of the rewritten class
  abbrev s : Symbols
  s = rewritten_symbols P cs (ds ++ h ∷ []) d

  -- the originals are linked
  linked : IsLinkedTo cs P
  linked = links cs P R.linked

  -- the class is rewritten
  rewrites : Rewrites P c d
  rewrites = at_place P cs ds R.each i c d e f

  -- its pool is longer
  grown : Grown c.pool d.pool
  grown = record { more = longer.0; is = longer.1 }

  -- where its names lead
  lead : Leads cs P h s0 s
  lead = leads cs P R.read linked (source_law cs P R.read R.linked) (upward_law cs linked.supers) ds h R.each R.named texts c d

  -- where those of invokespecial lead
  lead_special : LeadsSpecial cs P s0 s
  lead_special = leads_special cs P R.read linked (source_law cs P R.read R.linked) (upward_law cs linked.supers) ds h R.each R.named texts c d (i, e) rewrites

  -- so its symbols stand for what the others stood for
  alike : IsAlike s0 s
  alike = record { types = refl; texts = refl; pool = grown; reads = lead.reads; fields = lead.fields; methods = lead.methods; specials = lead_special.methods }

  -- its methods have the same head
  pub head_stays : (m : Member) → IsMethodOf c m → IsSameHead s0 s m
  head_stays m inside = same_head s0 s grown rewrites.own (is_apart cs P R.read linked c (i, e)).own lead.reads m (is_sound cs P R.read linked c (i, e) m inside)

  -- and mean what they meant
  pub old_stays : (m : Member) (k : Method) → IsTakenOf cs c m → meaning s0 true m ≡ Some k → meaning s true m ≡ Some k
  old_stays m k taken is =
      let inside = (of_methods cs (record { class = c; member = m }) (in_methods cs (record { class = c; member = m }) taken)).1 in
      let fits : IsMethod c.pool m = item (IsMethod c.pool) c.methods m (is_file cs R.read c (i, e)).methods inside in
      means cs R.read linked.constructs c m taken fits s alike (head_stays m inside) (member_plain cs R.read c (i, e)) k is
